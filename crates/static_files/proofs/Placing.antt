-- The calls by which index names are tried, and the log of those that failed.
use Rattle.std.proofs.Common.{◌≡◌, ℕ, ◌+◌, ◌<◌, ◌≤◌, List, [], ◌∷◌, ◌++◌, Bool, true, false, Result, Ok, Err, if◌then◌else◌, ◌&&◌, ◌==◌, refl, sym, ◌∙◌, ap, subst, arith}
use Rattle.std.proofs.lemmas.Bool.Decides.{nat_tests}
use Rattle.lt_bytes.specs.declared.memory.NoMemory.{NoMemory}
use Rattle.lt_world.specs.declared.files.FileCall.TheVariants as call
use Rattle.lt_world.specs.declared.files.Call.{Call}
use Rattle.lt_world.specs.declared.net.Owner.{Owner}
use Rattle.lt_world.specs.Disk.{Disk, Tree, asked, is_owner, count, log_of, is_logged}
use Rattle.lt_world.proofs.Disks.{logged_own, logged_below}
use Rattle.static_files.specs.declared.places.Place.{Place}
use Rattle.static_files.specs.declared.places.Place.TheVariants as place
use Rattle.static_files.specs.declared.places.Tried.TheVariants as tried
use Rattle.lt_bytes.specs.Memory.{no_memory}
use Rattle.static_files.specs.Places.{is_file, index_place, TriedTo, Tries, none, found, failed, next, no_memory_before, no_memory_behind, has_failed, IsPlaceBy}

owner_same : (owner : Owner) → is_owner owner owner ≡ true
owner_same owner = grind (arith, nat_tests)

-- one more find of this owner
counted : (owner : Owner) (f : Bool) (disk : Disk) → count call.Find owner (asked call.Find owner f disk).calls ≡ count call.Find owner disk.calls + 1
counted owner f disk = ap (λ b. if b then count call.Find owner disk.calls + 1 else count call.Find owner disk.calls) (owner_same owner)

-- what has no number yet is not logged
unlogged : (owner : Owner) (n : ℕ) (calls : List Call) → count call.Find owner calls ≤ n → is_logged call.Find owner n (log_of calls) ≡ false
unlogged owner n calls le = off (is_logged call.Find owner n (log_of calls)) (logged_below call.Find owner n calls)
  where
    off : (b : Bool) → (b ≡ true → n < count call.Find owner calls) → b ≡ false
    off true h = absurd (omega (arith, h refl))
    off false h = refl

-- a failed find is logged under its own number alone
failed_others : (owner : Owner) (n : ℕ) (disk : Disk) → n < count call.Find owner disk.calls
    → is_logged call.Find owner n (log_of (asked call.Find owner true disk).calls) ≡ is_logged call.Find owner n (log_of disk.calls)
failed_others owner n disk lt = by (is_owner owner owner) (count call.Find owner disk.calls == n) (grind (arith, nat_tests))
  where
    by : (o e : Bool) → e ≡ false → (if o && e then true else is_logged call.Find owner n (log_of disk.calls)) ≡ is_logged call.Find owner n (log_of disk.calls)
    by true false h = refl
    by false false h = refl
    by o true h = absurd (cc h)

-- tries leave alone what is logged of earlier finds
stays : (owner : Owner) (path physical : List ℕ) (names : List (List ℕ)) (disk : Disk) (result : Result Place NoMemory) (after : Disk) (n : ℕ)
    → Tries owner path physical names disk result after → n < count call.Find owner disk.calls → has_failed owner after n ≡ has_failed owner disk n
stays owner path physical _ _ _ _ n (none disk) lt = refl
stays owner path physical _ _ _ _ n (found name names disk is) lt = refl
stays owner path physical _ _ _ _ n (failed name names disk) lt = failed_others owner n disk lt
stays owner path physical _ _ _ _ n (next name names disk result after is more) lt =
    stays owner path physical names (asked call.Find owner false disk) result after n more (omega (arith, lt, counted owner false disk))
stays owner path physical _ _ _ _ n (no_memory_before names disk) lt = refl
stays owner path physical _ _ _ _ n (no_memory_behind name names disk is) lt = refl

-- one step of the definition
no_fault : (fails : ℕ → Bool) (tree : Tree) (n : ℕ) (path physical name : List ℕ) (names : List (List ℕ)) → fails n ≡ false
    → index_place fails tree n path physical (name ∷ names) ≡ (if is_file (tree (physical ++ name)) then place.File (path ++ name) (physical ++ name) else index_place fails tree (n + 1) path physical names)
no_fault fails tree n path physical name names h = ap (λ b. if b then place.Status 500 else (if is_file (tree (physical ++ name)) then place.File (path ++ name) (physical ++ name) else index_place fails tree (n + 1) path physical names)) h

-- what the tries come to is what the definition says of the log after them
pub tries_place : (owner : Owner) (path physical : List ℕ) (names : List (List ℕ)) (disk : Disk) (result : Result Place NoMemory) (after : Disk)
    → Tries owner path physical names disk result after → IsPlaceBy result (has_failed owner after) disk.tree (count call.Find owner disk.calls) path physical names
tries_place owner path physical _ _ _ _ (none disk) = refl
tries_place owner path physical _ _ _ _ (found name names disk is) =
    sym (no_fault (has_failed owner (asked call.Find owner false disk)) disk.tree (count call.Find owner disk.calls) path physical name names (unlogged owner _ disk.calls (omega arith))
    ∙ ap (λ b. if b then place.File (path ++ name) (physical ++ name) else index_place (has_failed owner (asked call.Find owner false disk)) disk.tree (count call.Find owner disk.calls + 1) path physical names) is)
tries_place owner path physical _ _ _ _ (failed name names disk) =
    sym (ap (λ b. if b then place.Status 500 else (if is_file (disk.tree (physical ++ name)) then place.File (path ++ name) (physical ++ name) else index_place (has_failed owner (asked call.Find owner true disk)) disk.tree (count call.Find owner disk.calls + 1) path physical names)) (logged_own call.Find owner disk.calls))
tries_place owner path physical _ _ _ _ (next name names disk (Ok p) after is more) =
    tries_place owner path physical names (asked call.Find owner false disk) (Ok p) after more
    ∙ ap (λ n. index_place (has_failed owner after) disk.tree n path physical names) (counted owner false disk)
    ∙ sym (no_fault (has_failed owner after) disk.tree (count call.Find owner disk.calls) path physical name names
    (stays owner path physical names (asked call.Find owner false disk) (Ok p) after (count call.Find owner disk.calls) more (omega (arith, counted owner false disk))
    ∙ unlogged owner (count call.Find owner disk.calls) disk.calls (omega arith))
    ∙ ap (λ b. if b then place.File (path ++ name) (physical ++ name) else index_place (has_failed owner after) disk.tree (count call.Find owner disk.calls + 1) path physical names) is)
tries_place owner path physical _ _ _ _ (next name names disk (Err e) after is more) = tt
tries_place owner path physical _ _ _ _ (no_memory_before names disk) = tt
tries_place owner path physical _ _ _ _ (no_memory_behind name names disk is) = tt

-- what one find told, as the first of the tries that are left
pub found_at : (owner : Owner) (path physical : List ℕ) (left rest : List (List ℕ)) (name p stands : List ℕ) (before after : Disk) → left ≡ name ∷ rest
    → p ≡ path ++ name → stands ≡ physical ++ name → TriedTo tried.File owner stands before after → Tries owner path physical left before (Ok (place.File p stands)) after
found_at owner path physical left rest name p stands before after is q s told =
    rw (is, told.1, q, s) (found name rest before (subst (λ (z : List ℕ). is_file (before.tree z) ≡ true) s told.0))

pub unspelled_at : (owner : Owner) (path physical : List ℕ) (left rest : List (List ℕ)) (name stands : List ℕ) (before after : Disk) → left ≡ name ∷ rest
    → stands ≡ physical ++ name → TriedTo tried.File owner stands before after → Tries owner path physical left before (Err no_memory) after
unspelled_at owner path physical left rest name stands before after is s told =
    rw (is, told.1) (no_memory_behind name rest before (subst (λ (z : List ℕ). is_file (before.tree z) ≡ true) s told.0))

pub failed_at : (owner : Owner) (path physical : List ℕ) (left rest : List (List ℕ)) (name stands : List ℕ) (before after : Disk) → left ≡ name ∷ rest
    → TriedTo tried.Failed owner stands before after → Tries owner path physical left before (Ok (place.Status 500)) after
failed_at owner path physical left rest name stands before after is told = rw (is, told) (failed name rest before)

pub next_at : (owner : Owner) (path physical : List ℕ) (left rest : List (List ℕ)) (name stands : List ℕ) (before after : Disk) (result : Result Place NoMemory) (last : Disk) → left ≡ name ∷ rest
    → stands ≡ physical ++ name → TriedTo tried.Other owner stands before after → Tries owner path physical rest after result last → Tries owner path physical left before result last
next_at owner path physical left rest name stands before after result last is s told more =
    rw is (next name rest before result last (subst (λ (z : List ℕ). is_file (before.tree z) ≡ false) s told.0) (subst (λ (d : Disk). Tries owner path physical rest d result last) told.1 more))

pub lacking_at : (owner : Owner) (path physical : List ℕ) (left : List (List ℕ)) (before after : Disk) → after ≡ before → Tries owner path physical left before (Err no_memory) after
lacking_at owner path physical left before after same = rw same (no_memory_before left before)

pub ended_at : (owner : Owner) (path physical : List ℕ) (left : List (List ℕ)) (disk : Disk) → left ≡ [] → Tries owner path physical left disk (Ok (place.Status 403)) disk
ended_at owner path physical left disk is = rw is (none disk)
