-- What a find at the place of a target leads to.
use Rattle.std.proofs.Common.{◌≡◌, ℕ, ◌++◌, true, false, List, [], Option, None, Result, Ok, Err, refl, sym, ◌∙◌, ap, subst, arith}
use Rattle.file_reply.specs.Refusals.{plain, moved}
use Rattle.http_target.specs.declared.read.Target.{Target}
use Rattle.lt_bytes.specs.declared.memory.NoMemory.{NoMemory}
use Rattle.lt_world.specs.declared.files.FileCall.TheVariants as call
use Rattle.lt_world.specs.declared.net.Owner.{Owner}
use Rattle.lt_world.specs.Disk.{Disk, Tree, Node, Missing, Directory, File, IsFileAt, asked, ends_in_slash}
use Rattle.static_files.specs.Places.{Tries, is_file}
use Rattle.static_files.specs.Texts.{texts_of}
use Rattle.static_files.specs.declared.places.Place.{Place}
use Rattle.static_files.specs.declared.places.Place.TheVariants as place
use Rattle.server_model.specs.Attributes.{attributes_at, seen_at}
use Rattle.server_model.specs.Made.{Made, Leads, NoneFails}
use Rattle.server_model.specs.Plan.{Course, answered_with, at_directory, at_file, at_target}
use Rattle.server_model.specs.Planning.{CallsFor, Plans}
use Rattle.server_model.specs.Request.{Head}
use Rattle.server_model.specs.Settings.{Settings, settings_on}
use Rattle.server_model.specs.Site.{Site}
use Rattle.server_model.specs.World.{Arrival}
use Rattle.server_model.proofs.Courses.{leads_missing, leads_moved, leads_directory, leads_file, directory_finds}
use Rattle.server_model.proofs.Tried.{times_tree, TriedAs, tries_as}
use Rattle.server_model.proofs.Planned.{plans_ends, plans_target_fails, plans_index_status, plans_index_file, calls_index, calls_made}
use Rattle.request_plan.specs.Finding.{AtDirectory, AtFile}

module _ (site : Site) (arrival : Option Arrival) (owner : Owner) (head : Head) (before found : Disk) (target : Target) (physical : List ℕ) (settings : Settings) (here : Leads site arrival head before.tree 0 (λ b. at_target b target))
    (current : settings ≡ settings_on site.blocks (attributes_at arrival head target)) (stands : physical ≡ settings.root ++ target.path) where
  abbrev its : Settings
  its = settings_on site.blocks (attributes_at arrival head target)

  -- its place is that of the definition
  at : physical ≡ its.root ++ target.path
  at = stands ∙ ap (λ (s : Settings). s.root ++ target.path) current

  there : (node : Node) → before.tree physical ≡ node → before.tree (its.root ++ target.path) ≡ node
  there node is = ap before.tree (sym at) ∙ is

  module _ (made : found ≡ asked call.Find owner false before) where
    pub file_at : (bytes : List ℕ) (time : ℕ) → before.tree physical ≡ File bytes time → AtFile site arrival head owner target target.path physical before found
    file_at bytes time is = record {
      finds = 1;
      made = made;
      bytes = bytes;
      time = time;
      there = is;
      leads = subst (λ (p : List ℕ). Leads site arrival head before.tree 1 (λ b. at_file b target target.path p bytes time 1)) (sym at) (leads_file site arrival head before.tree target here bytes time (there (File bytes time) is));
    }

    pub directory_at : before.tree physical ≡ Directory → ends_in_slash target.path ≡ true → AtDirectory site arrival head owner target physical before found
    directory_at is slash = record {
      made = made;
      leads = subst (λ (p : List ℕ). Leads site arrival head before.tree 1 (λ b. at_directory b target p)) (sym at) (leads_directory site arrival head before.tree target here (there Directory is) slash);
    }

    pub missing_plans : before.tree physical ≡ Missing → Plans (answered_with settings (plain 404) []) None site arrival owner.conn owner.request head before found
    missing_plans is = subst (λ (s : Settings). Plans (answered_with s (plain 404) []) None site arrival owner.conn owner.request head before found) (sym current)
        (plans_ends site arrival owner head before its (plain 404) 1 found made (leads_missing site arrival head before.tree target here (there Missing is)))

    pub moved_plans : before.tree physical ≡ Directory → ends_in_slash target.path ≡ false → Plans (answered_with settings (moved target.path target.query) []) None site arrival owner.conn owner.request head before found
    moved_plans is slash = subst (λ (s : Settings). Plans (answered_with s (moved target.path target.query) []) None site arrival owner.conn owner.request head before found) (sym current)
        (plans_ends site arrival owner head before its (moved target.path target.query) 1 found made (leads_moved site arrival head before.tree target here (there Directory is) slash))

  pub failed_plans : found ≡ asked call.Find owner true before → Plans (answered_with settings (plain 500) []) None site arrival owner.conn owner.request head before found
  failed_plans made = subst (λ (s : Settings). Plans (answered_with s (plain 500) []) None site arrival owner.conn owner.request head before found) (sym current)
      (subst (Plans (answered_with its (plain 500) []) None site arrival owner.conn owner.request head before) (sym made) (plans_target_fails site arrival owner head before target here))

-- ---- index names

-- the tree stays
pub made_tree : (owner : Owner) (finds : ℕ) (before disk : Disk) → Made owner before finds 0 disk → disk.tree ≡ before.tree
made_tree owner finds before disk made = ap (λ (d : Disk). d.tree) made ∙ times_tree call.Find owner finds before

-- a file that is answered stands there
file_of : (node : Node) → is_file node ≡ true → (bytes : List ℕ) × (time : ℕ) × (node ≡ File bytes time)
file_of Missing is = absurd (cc (is))
file_of Directory is = absurd (cc (is))
file_of (File bytes time) is = (bytes, time, refl)

pub index_there : (owner : Owner) (path physical : List ℕ) (names : List (List ℕ)) (disk after : Disk) (p q : List ℕ) → Tries owner path physical names disk (Ok (place.File p q)) after → IsFileAt q after.tree
index_there owner path physical names disk after p q tries = by (tries_as disk.tree owner path physical names disk after (Ok (place.File p q)) 1 refl tries)
  where
    by : TriedAs (Ok (place.File p q)) disk.tree owner 1 path physical names disk after → IsFileAt q after.tree
    by tried =
        let f = file_of (disk.tree q) tried.1 in
        let tree : after.tree ≡ disk.tree = ap (λ (d : Disk). d.tree) tried.0.made ∙ times_tree call.Find owner tried.0.finds disk in
        (f.0, f.1, ap (λ (t : Tree). t q) tree ∙ f.2)

module _ (site : Site) (arrival : Option Arrival) (owner : Owner) (head : Head) (before disk after : Disk) (target : Target) (physical : List ℕ) (settings : Settings) (here : AtDirectory site arrival head owner target physical before disk)
    (current : settings ≡ settings_on site.blocks (seen_at arrival head target target.path physical)) where
  abbrev its_settings : Settings
  its_settings = settings_on site.blocks (seen_at arrival head target target.path physical)

  its_tries : (result : Result Place NoMemory) → Tries owner target.path physical (texts_of settings.index_names) disk result after → Tries owner target.path physical (texts_of its_settings.index_names) disk result after
  its_tries result tries = subst (λ (s : Settings). Tries owner target.path physical (texts_of s.index_names) disk result after) current tries

  pub status_plans : (s : ℕ) → Tries owner target.path physical (texts_of settings.index_names) disk (Ok (place.Status s)) after → Plans (answered_with settings (plain s) []) None site arrival owner.conn owner.request head before after
  status_plans s tries = subst (λ (x : Settings). Plans (answered_with x (plain s) []) None site arrival owner.conn owner.request head before after) (sym current)
      (plans_index_status site arrival owner head before target physical here.leads disk after here.made s (its_tries (Ok (place.Status s)) tries))

  pub index_at : (p q : List ℕ) → Tries owner target.path physical (texts_of settings.index_names) disk (Ok (place.File p q)) after → AtFile site arrival head owner target p q before after
  index_at p q tries =
      let f = plans_index_file site arrival owner head before target physical here.leads disk after here.made p q (its_tries (Ok (place.File p q)) tries) in
      record { finds = f.finds; made = f.made; bytes = f.bytes; time = f.time; there = f.there; leads = f.leads }

  pub wanted_calls : (e : NoMemory) → Tries owner target.path physical (texts_of settings.index_names) disk (Err e) after → CallsFor site arrival owner.conn owner.request head None before after
  wanted_calls e tries = calls_index site arrival owner head before target physical here.leads disk after here.made e (its_tries (Err e) tries)

-- memory is wanted before its index names are looked for
pub directory_calls : (site : Site) (arrival : Option Arrival) (owner : Owner) (head : Head) (before disk : Disk) (target : Target) (physical : List ℕ) → AtDirectory site arrival head owner target physical before disk
    → CallsFor site arrival owner.conn owner.request head None before disk
directory_calls site arrival owner head before disk target physical here =
    calls_made site arrival owner head before 1 0 disk here.made
    (let all = ap (λ (c : Course). c.finds) (here.leads NoneFails tt) ∙ directory_finds site arrival head before.tree NoneFails target physical in omega (arith, all)) (omega arith)

-- ---- by other names

pub file_as : (site other : Site) (arrival : Option Arrival) (head : Head) (owner : Owner) (target : Target) (p q r s : List ℕ) (before disk : Disk) → other ≡ site → p ≡ r → q ≡ s
    → AtFile site arrival head owner target r s before disk → AtFile other arrival head owner target p q before disk
file_as site other arrival head owner target p q r s before disk same path place at =
    subst (λ (x : Site × (List ℕ × List ℕ)). AtFile x.0 arrival head owner target x.1.0 x.1.1 before disk) (sym (λ i. (same i, (path i, place i)))) at

pub directory_as : (site other : Site) (arrival : Option Arrival) (head : Head) (owner : Owner) (target : Target) (q s : List ℕ) (before disk : Disk) → other ≡ site → q ≡ s
    → AtDirectory site arrival head owner target s before disk → AtDirectory other arrival head owner target q before disk
directory_as site other arrival head owner target q s before disk same place at =
    subst (λ (x : Site × List ℕ). AtDirectory x.0 arrival head owner target x.1 before disk) (sym (λ i. (same i, place i))) at
