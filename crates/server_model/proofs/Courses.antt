-- The course of a request, one equation a step, and how one step of it leads to the next.
use Rattle.std.proofs.Common.{◌≡◌, ℕ, zero, suc, ◌+◌, ◌≤◌, ◌==◌, List, [], ◌∷◌, ◌++◌, Bool, true, false, ◌||◌, Option, Some, None, if◌then◌else◌, refl, sym, ◌∙◌, ap, subst, arith}
use Rattle.std.proofs.lemmas.Bool.Decides.{nat_tests}
use Rattle.std.specs.Prelude.{Result, Ok, Err, length}
use Rattle.conf_value.specs.declared.block.Block.{Block}
use Rattle.lt_bytes.specs.declared.memory.NoMemory.{NoMemory}
use Rattle.http_target.specs.declared.read.Target.{Target}
use Rattle.lt_world.specs.declared.files.FileCall.TheVariants as call
use Rattle.lt_world.specs.declared.net.Owner.{Owner}
use Rattle.lt_world.specs.Disk.{Node, Missing, Directory, File, Tree, Disk, asked, ends_in_slash}
use Rattle.rewrite.specs.Rewriting.{Ended}
use Rattle.rewrite.specs.declared.rewriting.Rewritten.{Rewritten}
use Rattle.rewrite.specs.declared.rewriting.Rewritten.TheVariants as rewritten
use Rattle.static_files.specs.Texts.{texts_of}
use Rattle.static_files.specs.Places.{is_file, index_place}
use Rattle.static_files.specs.declared.places.Place.{Place}
use Rattle.static_files.specs.declared.places.Place.TheVariants as place
use Rattle.file_reply.specs.Answers.{answer}
use Rattle.file_reply.specs.Refusals.{plain, moved, refusal}
use Rattle.static_files.specs.MediaTypes.{mime}
use Rattle.file_reply.specs.declared.answers.Answer.{Answer}
use Rattle.server_model.specs.Attributes.{attributes_at, seen_at}
use Rattle.server_model.specs.Site.{Site}
use Rattle.server_model.specs.Request.{Head}
use Rattle.server_model.specs.World.{Arrival}
use Rattle.server_model.specs.Rewrites.{rewriting}
use Rattle.server_model.specs.Settings.{Settings, settings_on}
use Rattle.server_model.specs.Plan.{Outcome, Basis, Course, answered_with, ends_with, on_target, on_place, opened_to, file_by, at_file, index_finds, at_index, indexed, index_by, at_directory, found_by, place_on, at_target, rewritten_by, course}
use Rattle.server_model.specs.Made.{asked_times, Made, Failure, NoneFails, FindFails, OpenFails, find_fails_by, open_fails_by, basis_at, IsBehind, Leads}

-- ---- one equation a step

pub course_is : (b : Basis) → course b ≡ rewritten_by (rewriting b.blocks b.arrival b.head).answer b (rewriting b.blocks b.arrival b.head).target
unfolding course
course_is b = refl

pub target_is : (b : Basis) (target : Target) → at_target b target ≡ found_by (b.find_fails 0) (b.tree (place_on (on_target b target) target)) b target (place_on (on_target b target) target) (on_target b target)
unfolding at_target
target_is b target = refl

pub directory_is : (b : Basis) (target : Target) (physical : List ℕ) → at_directory b target physical ≡ index_by b target physical (on_place b target target.path physical)
unfolding at_directory
directory_is b target physical = refl

pub file_is : (b : Basis) (target : Target) (path physical bytes : List ℕ) (time finds : ℕ) → at_file b target path physical bytes time finds
    ≡ file_by (refusal (on_place b target path physical).excluded path b.head.method) b (on_place b target path physical) path bytes time finds
unfolding at_file
file_is b target path physical bytes time finds = refl

-- a failure behind more finds is behind fewer
pub behind_fewer : (a b : ℕ) (failure : Failure) → a ≤ b → IsBehind b failure → IsBehind a failure
behind_fewer a b NoneFails fewer is = tt
behind_fewer a b (FindFails n) fewer is = omega (arith, fewer, is)
behind_fewer a b OpenFails fewer is = tt

same_number : (n : ℕ) → (n == n) ≡ true
same_number n = grind (arith, nat_tests)

other_number : (n i : ℕ) → suc i ≤ n → (n == i) ≡ false
other_number n i more = grind (arith, nat_tests, more)

-- a find before the failure doesn't fail
pub fails_before : (i n : ℕ) (failure : Failure) → suc i ≤ n → IsBehind n failure → find_fails_by failure i ≡ false
fails_before i n NoneFails less is = refl
fails_before i n (FindFails m) less is = other_number m i (omega (arith, less, is))
fails_before i n OpenFails less is = refl

-- the failing find
pub fails_there : (n : ℕ) → find_fails_by (FindFails n) n ≡ true
fails_there n = same_number n

-- ---- from step to step

module _ (site : Site) (arrival : Option Arrival) (head : Head) (tree : Tree) where
  abbrev basis : Failure → Basis
  basis failure = basis_at site arrival head tree failure

  -- the settings of a target, and those once it is known what stands there
  abbrev pub target_settings : Target → Settings
  target_settings target = settings_on site.blocks (attributes_at arrival head target)

  abbrev pub place_settings : Target → List ℕ → List ℕ → Settings
  place_settings target path physical = settings_on site.blocks (seen_at arrival head target path physical)

  -- where a target leads
  abbrev pub target_place : Target → List ℕ
  target_place target = place_on (target_settings target) target

  module _ (target : Target) (to : (rewriting site.blocks arrival head).target ≡ target) where
    rewritten_to : (r : Rewritten) → (rewriting site.blocks arrival head).answer ≡ r → Leads site arrival head tree 0 (λ b. rewritten_by r b target)
    rewritten_to r is failure behind = course_is (basis failure) ∙ (λ i. rewritten_by (is i) (basis failure) (to i))

    pub leads_same : (rewriting site.blocks arrival head).answer ≡ rewritten.Same → Leads site arrival head tree 0 (λ b. at_target b target)
    leads_same is = rewritten_to rewritten.Same is

    pub leads_new : (rewriting site.blocks arrival head).answer ≡ rewritten.New → Leads site arrival head tree 0 (λ b. at_target b target)
    leads_new is = rewritten_to rewritten.New is

    pub leads_loop : (rewriting site.blocks arrival head).answer ≡ rewritten.Loop → Leads site arrival head tree 0 (λ b. ends_with (target_settings target) (plain 500) 0)
    leads_loop is = rewritten_to rewritten.Loop is

    pub leads_bad : (rewriting site.blocks arrival head).answer ≡ rewritten.Bad → Leads site arrival head tree 0 (λ b. ends_with (target_settings target) (plain 400) 0)
    leads_bad is = rewritten_to rewritten.Bad is

  module _ (target : Target) (here : Leads site arrival head tree 0 (λ b. at_target b target)) where
    -- the find at its place fails
    pub target_fails : course (basis (FindFails 0)) ≡ ends_with (target_settings target) (plain 500) 1
    target_fails = here (FindFails 0) (omega arith) ∙ target_is (basis (FindFails 0)) target
        ∙ ap (λ t. found_by t (tree (target_place target)) (basis (FindFails 0)) target (target_place target) (target_settings target)) (fails_there 0)

    found : (node : Node) → tree (target_place target) ≡ node → Leads site arrival head tree 1 (λ b. found_by false node b target (target_place target) (target_settings target))
    found node is failure behind =
        here failure (behind_fewer 0 1 failure (omega arith) behind) ∙ target_is (basis failure) target
        ∙ (λ i. found_by (fails_before 0 1 failure (omega arith) behind i) (is i) (basis failure) target (target_place target) (target_settings target))

    pub leads_missing : tree (target_place target) ≡ Missing → Leads site arrival head tree 1 (λ b. ends_with (target_settings target) (plain 404) 1)
    leads_missing is = found Missing is

    pub leads_moved : tree (target_place target) ≡ Directory → ends_in_slash target.path ≡ false → Leads site arrival head tree 1 (λ b. ends_with (target_settings target) (moved target.path target.query) 1)
    leads_moved is open_path failure behind = found Directory is failure behind
        ∙ ap (λ t. if t then at_directory (basis failure) target (target_place target) else ends_with (target_settings target) (moved target.path target.query) 1) open_path

    pub leads_directory : tree (target_place target) ≡ Directory → ends_in_slash target.path ≡ true → Leads site arrival head tree 1 (λ b. at_directory b target (target_place target))
    leads_directory is slash failure behind = found Directory is failure behind
        ∙ ap (λ t. if t then at_directory (basis failure) target (target_place target) else ends_with (target_settings target) (moved target.path target.query) 1) slash

    pub leads_file : (bytes : List ℕ) (time : ℕ) → tree (target_place target) ≡ File bytes time → Leads site arrival head tree 1 (λ b. at_file b target target.path (target_place target) bytes time 1)
    leads_file bytes time is = found (File bytes time) is

  -- ---- index names

  -- so many finds are made up to a file
  pub file_finds : (failure : Failure) (target : Target) (path physical bytes : List ℕ) (time finds : ℕ) → (at_file (basis failure) target path physical bytes time finds).finds ≡ finds
  file_finds failure target path physical bytes time finds =
      ap (λ (c : Course). c.finds) (file_is (basis failure) target path physical bytes time finds) ∙ by (refusal (place_settings target path physical).excluded path head.method)
    where
      by : (o : Option Answer) → (file_by o (basis failure) (place_settings target path physical) path bytes time finds).finds ≡ finds
      by None = refl
      by (Some said) = refl

  indexed_finds : (failure : Failure) (target : Target) (settings : Settings) (p : Place) (finds : ℕ) → (indexed (basis failure) target settings p finds).finds ≡ finds
  indexed_finds failure target settings (place.Status status) finds = refl
  indexed_finds failure target settings (place.File path physical) finds = by (tree physical)
    where
      by : (node : Node) → (at_index (basis failure) target settings path physical node finds).finds ≡ finds
      by Missing = refl
      by Directory = refl
      by (File bytes time) = file_finds failure target path physical bytes time finds

  abbrev pub names_in : Target → List ℕ → List (List ℕ)
  names_in target physical = texts_of (place_settings target target.path physical).index_names

  pub directory_finds : (failure : Failure) (target : Target) (physical : List ℕ) → (at_directory (basis failure) target physical).finds ≡ index_finds (find_fails_by failure) tree 1 physical (names_in target physical) + 1
  directory_finds failure target physical = ap (λ (c : Course). c.finds) (directory_is (basis failure) target physical)
      ∙ indexed_finds failure target (place_settings target target.path physical) (index_place (find_fails_by failure) tree 1 target.path physical (names_in target physical)) (index_finds (find_fails_by failure) tree 1 physical (names_in target physical) + 1)

  module _ (target : Target) (physical : List ℕ) (here : Leads site arrival head tree 1 (λ b. at_directory b target physical)) where
    abbrev pub at_end : Failure → Place → ℕ → Course
    at_end failure p finds = indexed (basis failure) target (place_settings target target.path physical) p (finds + 1)

    pub indexes : (failure : Failure) (p : Place) (finds : ℕ) → IsBehind 1 failure → index_place (find_fails_by failure) tree 1 target.path physical (names_in target physical) ≡ p
        → index_finds (find_fails_by failure) tree 1 physical (names_in target physical) ≡ finds → course (basis failure) ≡ at_end failure p finds
    indexes failure p finds behind is many = here failure behind ∙ directory_is (basis failure) target physical ∙ (λ i. at_end failure (is i) (many i))

-- ---- a file that stands there

module _ (site : Site) (arrival : Option Arrival) (head : Head) (tree : Tree) (target : Target) (path physical bytes : List ℕ) (time finds : ℕ)
    (here : Leads site arrival head tree finds (λ b. at_file b target path physical bytes time finds)) where
  abbrev settings : Settings
  settings = place_settings site arrival head tree target path physical

  file_to : (failure : Failure) (o : Option Answer) → IsBehind finds failure → refusal settings.excluded path head.method ≡ o
      → course (basis_at site arrival head tree failure) ≡ file_by o (basis_at site arrival head tree failure) settings path bytes time finds
  file_to failure o behind is = here failure behind ∙ file_is (basis_at site arrival head tree failure) target path physical bytes time finds
      ∙ ap (λ x. file_by x (basis_at site arrival head tree failure) settings path bytes time finds) is

  -- it isn't opened
  pub leads_refused : (said : Answer) → refusal settings.excluded path head.method ≡ Some said → Leads site arrival head tree finds (λ b. ends_with settings said finds)
  leads_refused said is failure behind = file_to failure (Some said) behind is

  -- it is opened
  pub file_opens : (failure : Failure) → IsBehind finds failure → refusal settings.excluded path head.method ≡ None
      → course (basis_at site arrival head tree failure) ≡ record { outcome = opened_to (open_fails_by failure) (basis_at site arrival head tree failure) settings path bytes time; finds = finds; opens = 1 }
  file_opens failure behind is = file_to failure None behind is
