-- What the finds of index names come to.
use Rattle.std.proofs.Common.{◌≡◌, ◌⊎◌, inl, inr, ℕ, zero, suc, ◌+◌, ◌≤◌, ◌==◌, List, [], ◌∷◌, ◌++◌, Bool, true, false, ◌||◌, if◌then◌else◌, refl, sym, ◌∙◌, ap, subst, arith}
use Rattle.std.proofs.lemmas.Bool.Decides.{nat_tests}
use Rattle.std.specs.Prelude.{Result, Ok, Err}
use Rattle.lt_bytes.specs.declared.memory.NoMemory.{NoMemory}
use Rattle.lt_world.specs.declared.files.FileCall.{FileCall}
use Rattle.lt_world.specs.declared.files.FileCall.TheVariants as call
use Rattle.lt_world.specs.declared.net.Owner.{Owner}
use Rattle.lt_world.specs.Disk.{Node, Missing, Directory, File, Tree, Disk, asked}
use Rattle.static_files.specs.Places.{is_file, index_place, Tries, none, found, failed, next, no_memory_before, no_memory_behind}
use Rattle.static_files.specs.declared.places.Place.{Place}
use Rattle.static_files.specs.declared.places.Place.TheVariants as place
use Rattle.server_model.specs.Plan.{index_finds}
use Rattle.server_model.specs.Made.{asked_times, Failure, NoneFails, FindFails, OpenFails, find_fails_by, IsBehind}
use Rattle.server_model.proofs.Courses.{behind_fewer, fails_before, fails_there}

-- ---- calls that were made several times

pub times_tree : (what : FileCall) (owner : Owner) (n : ℕ) (disk : Disk) → (asked_times what owner n disk).tree ≡ disk.tree
times_tree what owner zero disk = refl
times_tree what owner (suc n) disk = times_tree what owner n disk

pub times_before : (what : FileCall) (owner : Owner) (n : ℕ) (disk : Disk) → asked_times what owner n (asked what owner false disk) ≡ asked what owner false (asked_times what owner n disk)
times_before what owner zero disk = refl
times_before what owner (suc n) disk = ap (asked what owner false) (times_before what owner n disk)

-- ---- index names

-- so many finds that didn't fail, and then the answer
pub record Told (tree : Tree) (owner : Owner) (n : ℕ) (path physical : List ℕ) (names : List (List ℕ)) (before after : Disk) (p : Place) : Type 0 where
  pub finds : ℕ
  pub made : after ≡ asked_times call.Find owner finds before
  pub answers : (failure : Failure) → IsBehind (n + finds) failure → index_place (find_fails_by failure) tree n path physical names ≡ p
  pub many : (failure : Failure) → IsBehind (n + finds) failure → index_finds (find_fails_by failure) tree n physical names ≡ finds

-- and then one that failed
pub record Broken (tree : Tree) (owner : Owner) (n : ℕ) (path physical : List ℕ) (names : List (List ℕ)) (before after : Disk) : Type 0 where
  pub finds : ℕ
  pub made : after ≡ asked call.Find owner true (asked_times call.Find owner finds before)
  pub answers : index_place (find_fails_by (FindFails (n + finds))) tree n path physical names ≡ place.Status 500
  pub many : index_finds (find_fails_by (FindFails (n + finds))) tree n physical names ≡ suc finds

-- and then no memory
pub record Wanted (tree : Tree) (owner : Owner) (n : ℕ) (path physical : List ℕ) (names : List (List ℕ)) (before after : Disk) : Type 0 where
  pub finds : ℕ
  pub made : after ≡ asked_times call.Find owner finds before
  pub few : finds ≤ index_finds (find_fails_by NoneFails) tree n physical names

abbrev pub TriedAs : Result Place NoMemory → Tree → Owner → ℕ → List ℕ → List ℕ → List (List ℕ) → Disk → Disk → Type 0
TriedAs (Err e) tree owner n path physical names before after = Wanted tree owner n path physical names before after
TriedAs (Ok (place.File p q)) tree owner n path physical names before after = Told tree owner n path physical names before after (place.File p q) × (is_file (tree q) ≡ true)
TriedAs (Ok (place.Status s)) tree owner n path physical names before after =
    (Told tree owner n path physical names before after (place.Status s)) ⊎ ((s ≡ 500) × Broken tree owner n path physical names before after)

module _ (tree : Tree) (owner : Owner) (path physical : List ℕ) where
  abbrev place_step : Bool → Bool → ℕ → (ℕ → Bool) → List ℕ → List (List ℕ) → Place
  place_step f t n fails name names = if f then place.Status 500 else (if t then place.File (path ++ name) (physical ++ name) else index_place fails tree (n + 1) path physical names)

  abbrev find_step : Bool → Bool → ℕ → (ℕ → Bool) → List (List ℕ) → ℕ
  find_step f t n fails names = if f || t then 1 else index_finds fails tree (n + 1) physical names + 1

  some_find : (f t : Bool) (n : ℕ) (fails : ℕ → Bool) (names : List (List ℕ)) → 1 ≤ find_step f t n fails names
  some_find true t n fails names = omega arith
  some_find false true n fails names = omega arith
  some_find false false n fails names = omega arith

  there : (name : List ℕ) (disk : Disk) (t : Bool) → disk.tree ≡ tree → is_file (disk.tree (physical ++ name)) ≡ t → is_file (tree (physical ++ name)) ≡ t
  there name disk t is stands = ap (λ (x : Tree). is_file (x (physical ++ name))) (sym is) ∙ stands

  -- one name whose find didn't fail, where no file stands
  module _ (n : ℕ) (name : List ℕ) (names : List (List ℕ)) (before after : Disk) (nowhere : is_file (tree (physical ++ name)) ≡ false) where
    one_more : (finds : ℕ) → after ≡ asked_times call.Find owner finds (asked call.Find owner false before) → after ≡ asked_times call.Find owner (suc finds) before
    one_more finds made = made ∙ times_before call.Find owner finds before

    broken_more : (finds : ℕ) → after ≡ asked call.Find owner true (asked_times call.Find owner finds (asked call.Find owner false before)) → after ≡ asked call.Find owner true (asked_times call.Find owner (suc finds) before)
    broken_more finds made = made ∙ ap (asked call.Find owner true) (times_before call.Find owner finds before)

    place_more : (failure : Failure) (p : Place) → find_fails_by failure n ≡ false → index_place (find_fails_by failure) tree (n + 1) path physical names ≡ p → index_place (find_fails_by failure) tree n path physical (name ∷ names) ≡ p
    place_more failure p sound is = (λ i. place_step (sound i) (nowhere i) n (find_fails_by failure) name names) ∙ is

    finds_more : (failure : Failure) (finds : ℕ) → find_fails_by failure n ≡ false → index_finds (find_fails_by failure) tree (n + 1) physical names ≡ finds → index_finds (find_fails_by failure) tree n physical (name ∷ names) ≡ suc finds
    finds_more failure finds sound is = (λ i. find_step (sound i) (nowhere i) n (find_fails_by failure) names) ∙ omega (arith, is)

    told_more : (p : Place) → Told tree owner (n + 1) path physical names (asked call.Find owner false before) after p → Told tree owner n path physical (name ∷ names) before after p
    told_more p told = record {
      finds = suc told.finds;
      made = one_more told.finds told.made;
      answers = λ failure behind. place_more failure p (fails_before n (n + suc told.finds) failure (omega arith) behind) (told.answers failure (behind_fewer (n + 1 + told.finds) (n + suc told.finds) failure (omega arith) behind));
      many = λ failure behind. finds_more failure told.finds (fails_before n (n + suc told.finds) failure (omega arith) behind) (told.many failure (behind_fewer (n + 1 + told.finds) (n + suc told.finds) failure (omega arith) behind));
    }

    broken_then : Broken tree owner (n + 1) path physical names (asked call.Find owner false before) after → Broken tree owner n path physical (name ∷ names) before after
    broken_then broken =
        let same : n + 1 + broken.finds ≡ n + suc broken.finds = omega arith in
        let sound : find_fails_by (FindFails (n + suc broken.finds)) n ≡ false = fails_before n (n + suc broken.finds) (FindFails (n + suc broken.finds)) (omega arith) (omega arith) in
        record {
          finds = suc broken.finds;
          made = broken_more broken.finds broken.made;
          answers = place_more (FindFails (n + suc broken.finds)) (place.Status 500) sound (ap (λ (m : ℕ). index_place (find_fails_by (FindFails m)) tree (n + 1) path physical names) (sym same) ∙ broken.answers);
          many = finds_more (FindFails (n + suc broken.finds)) (suc broken.finds) sound (ap (λ (m : ℕ). index_finds (find_fails_by (FindFails m)) tree (n + 1) physical names) (sym same) ∙ broken.many);
        }

    wanted_more : Wanted tree owner (n + 1) path physical names (asked call.Find owner false before) after → Wanted tree owner n path physical (name ∷ names) before after
    wanted_more wanted = record {
      finds = suc wanted.finds;
      made = one_more wanted.finds wanted.made;
      few = let many = finds_more NoneFails (index_finds (find_fails_by NoneFails) tree (n + 1) physical names) refl refl in omega (arith, many, wanted.few);
    }

    tried_more : (result : Result Place NoMemory) → TriedAs result tree owner (n + 1) path physical names (asked call.Find owner false before) after → TriedAs result tree owner n path physical (name ∷ names) before after
    tried_more (Err e) tried = wanted_more tried
    tried_more (Ok (place.File p q)) tried = (told_more (place.File p q) tried.0, tried.1)
    tried_more (Ok (place.Status s)) (inl told) = inl (told_more (place.Status s) told)
    tried_more (Ok (place.Status s)) (inr broken) = inr (broken.0, broken_then broken.1)

  pub tries_as : (names : List (List ℕ)) (before after : Disk) (result : Result Place NoMemory) (n : ℕ) → before.tree ≡ tree → Tries owner path physical names before result after → TriedAs result tree owner n path physical names before after
  tries_as names before after result n is (none disk) = inl (record { finds = 0; made = refl; answers = λ failure behind. refl; many = λ failure behind. refl })
  tries_as names before after result n is (found name later disk stands) =
      let file = there name disk true is stands in (
        record {
          finds = 1;
          made = refl;
          answers = λ failure behind. (λ i. place_step (fails_before n (n + 1) failure (omega arith) behind i) (file i) n (find_fails_by failure) name later);
          many = λ failure behind. (λ i. find_step (fails_before n (n + 1) failure (omega arith) behind i) (file i) n (find_fails_by failure) later);
        },
        file,
      )
  tries_as names before after result n is (failed name later disk) =
      let same : n + 0 ≡ n = omega arith in
      let fails : find_fails_by (FindFails (n + 0)) n ≡ true = ap (λ (m : ℕ). m == n) same ∙ fails_there n in
      inr (
        refl,
        record {
          finds = 0;
          made = refl;
          answers = (λ i. place_step (fails i) (is_file (tree (physical ++ name))) n (find_fails_by (FindFails (n + 0))) name later);
          many = (λ i. find_step (fails i) (is_file (tree (physical ++ name))) n (find_fails_by (FindFails (n + 0))) later);
        },
      )
  tries_as names before after result n is (next name later disk to end nowhere rest) =
      tried_more n name later disk end (there name disk false is nowhere) to (tries_as later (asked call.Find owner false disk) end to (n + 1) is rest)
  tries_as names before after result n is (no_memory_before later disk) = record { finds = 0; made = refl; few = omega arith }
  tries_as names before after result n is (no_memory_behind name later disk stands) = record { finds = 1; made = refl; few = some_find false (is_file (tree (physical ++ name))) n (find_fails_by NoneFails) later }
