-- What the calls of files in memory tell, and that none fails where none is planned to.
use Rattle.std.proofs.Common.{◌≡◌, ℕ, List, [], length, true, Result, Ok, Err, refl, sym, ◌∙◌, ap, subst, ◌==◌}
use Rattle.std.specs.List.{list_any}
use Rattle.lt_world.specs.declared.files.Found.{Found}
use Rattle.lt_world.specs.declared.files.Found.TheVariants as found
use Rattle.lt_world.specs.declared.files.Opened.{Opened}
use Rattle.lt_world.specs.declared.files.Opened.TheVariants as opening
use Rattle.lt_world.specs.declared.fault.Fault.{Fault}
use Rattle.lt_world.specs.declared.net.Owner.{Owner}
use Rattle.lt_world.specs.Disk.{Table, Disk, with_file, released}
use Rattle.lt_world.specs.FileAnswers.{Opens}
use Rattle.lt_world.specs.FileRuns.{file_bytes, after_find, after_open, after_read, after_release, FindPlanned, OpenPlanned, ReadPlanned, OpensAt, Leads, same, finds, opens, reads, releases, IsUnplanned}
use Rattle.lt_world.specs.Memory.{Stored, tree_of, table_by, disk_of}
use Rattle.lt_world.specs.Plans.{Planned, is_due}
use Rattle.lt_world.proofs.Slotted.{table_fresh, table-push, table-closes}

pub leads_find : (a b : Stored) (answer : Found) (owner : Owner) → b ≡ after_find answer owner a → FindPlanned answer (is_due a.find_plan) → Leads a b
leads_find a b answer owner is planned = let P : Stored → Type 0 = λ s. Leads a s in subst P (sym is) (finds same answer owner planned)

pub leads_open : (a b : Stored) (answer : Opened) (owner : Owner) (path : List ℕ) → b ≡ after_open answer owner path a → OpenPlanned answer (is_due a.open_plan) → Leads a b
leads_open a b answer owner path is planned = let P : Stored → Type 0 = λ s. Leads a s in subst P (sym is) (opens same answer owner path planned)

pub leads_read : (a b : Stored) (answer : Result (Unit {0}) Fault) (owner : Owner) → b ≡ after_read answer owner a → ReadPlanned answer (is_due a.read_plan) → Leads a b
leads_read a b answer owner is planned = let P : Stored → Type 0 = λ s. Leads a s in subst P (sym is) (reads same answer owner planned)

pub leads_release : (a b : Stored) (file : ℕ) → b ≡ after_release file a → Leads a b
leads_release a b file is = let P : Stored → Type 0 = λ s. Leads a s in subst P (sym is) (releases same file)

with_table : (disk : Disk) (table : Table) → disk.table ≡ table → disk ≡ record { tree = disk.tree; table = table; calls = disk.calls }
with_table disk table is = λ i. record { tree = disk.tree; table = is i; calls = disk.calls }

pub disk-release : (a : Stored) (file : ℕ) → disk_of (after_release file a) ≡ released file (disk_of a)
disk-release a file = with_table (disk_of (after_release file a)) _ (table-closes a.opened file)

pub opens_disk : (a b : Stored) (answer : Opened) (owner : Owner) (path : List ℕ) → b ≡ after_open answer owner path a → OpensAt answer (tree_of a path) (length a.opened) → Opens answer owner path (disk_of a) (disk_of b)
opens_disk a b opening.NoMemory owner path is right = ap disk_of is
opens_disk a b opening.Failed owner path is right = ap disk_of is
opens_disk a b (opening.File file size time) owner path is right =
    let bytes : file_bytes (tree_of a path) ≡ right.0 = ap file_bytes right.1 in
    record {
      bytes = right.0;
      is_there = right.1;
      has_size = right.2;
      fresh = ap (table_by a.opened) right.3 ∙ table_fresh a.opened;
      after_is = ap disk_of is ∙ with_table (disk_of (after_open (opening.File file size time) owner path a)) _ (table-push a.opened (file_bytes (tree_of a path)) ∙ (λ i. with_file (sym right.3 i) (bytes i) (table_by a.opened)));
    }

pub undue : (plan : Planned) → plan.fails ≡ [] → is_due plan ≡ true → ⊥
undue plan empty due = absurd (cc (ap (λ l. list_any (λ n. n == plan.made) l) empty, due))

calm_find : (b : Stored) (answer : Found) (owner : Owner) → FindPlanned answer (is_due b.find_plan) → IsUnplanned b → IsUnplanned (after_find answer owner b) × ((after_find answer owner b).faults ≡ b.faults)
calm_find b (found.File size time) owner planned un = (record { finds = un.finds; opens = un.opens; reads = un.reads }, refl)
calm_find b found.Directory owner planned un = (record { finds = un.finds; opens = un.opens; reads = un.reads }, refl)
calm_find b found.Missing owner planned un = (record { finds = un.finds; opens = un.opens; reads = un.reads }, refl)
calm_find b found.Failed owner planned un = absurd (undue b.find_plan un.finds planned)
calm_find b found.NoMemory owner planned un = (un, refl)

calm_open : (b : Stored) (answer : Opened) (owner : Owner) (path : List ℕ) → OpenPlanned answer (is_due b.open_plan) → IsUnplanned b → IsUnplanned (after_open answer owner path b) × ((after_open answer owner path b).faults ≡ b.faults)
calm_open b (opening.File file size time) owner path planned un = (record { finds = un.finds; opens = un.opens; reads = un.reads }, refl)
calm_open b opening.Failed owner path planned un = absurd (undue b.open_plan un.opens planned)
calm_open b opening.NoMemory owner path planned un = (un, refl)

calm_read : (b : Stored) (answer : Result (Unit {0}) Fault) (owner : Owner) → ReadPlanned answer (is_due b.read_plan) → IsUnplanned b → IsUnplanned (after_read answer owner b) × ((after_read answer owner b).faults ≡ b.faults)
calm_read b (Ok done) owner planned un = (record { finds = un.finds; opens = un.opens; reads = un.reads }, refl)
calm_read b (Err fault) owner planned un = absurd (undue b.read_plan un.reads planned)

-- with no plan the count stays, and there is no plan then
pub calm : (a b : Stored) → Leads a b → IsUnplanned a → IsUnplanned b × (b.faults ≡ a.faults)
calm a b same un = (un, refl)
calm a b (finds ab answer owner planned) un = let so_far = calm a _ ab un in let now = calm_find _ answer owner planned so_far.0 in (now.0, now.1 ∙ so_far.1)
calm a b (opens ab answer owner path planned) un = let so_far = calm a _ ab un in let now = calm_open _ answer owner path planned so_far.0 in (now.0, now.1 ∙ so_far.1)
calm a b (reads ab answer owner planned) un = let so_far = calm a _ ab un in let now = calm_read _ answer owner planned so_far.0 in (now.0, now.1 ∙ so_far.1)
calm a b (releases ab file) un = let so_far = calm a _ ab un in (record { finds = so_far.0.finds; opens = so_far.0.opens; reads = so_far.0.reads }, so_far.1)

find_stays : (b : Stored) (answer : Found) (owner : Owner) → (after_find answer owner b).places ≡ b.places
find_stays b (found.File size time) owner = refl
find_stays b found.Directory owner = refl
find_stays b found.Missing owner = refl
find_stays b found.Failed owner = refl
find_stays b found.NoMemory owner = refl

open_stays : (b : Stored) (answer : Opened) (owner : Owner) (path : List ℕ) → (after_open answer owner path b).places ≡ b.places
open_stays b (opening.File file size time) owner path = refl
open_stays b opening.Failed owner path = refl
open_stays b opening.NoMemory owner path = refl

read_stays : (b : Stored) (answer : Result (Unit {0}) Fault) (owner : Owner) → (after_read answer owner b).places ≡ b.places
read_stays b (Ok done) owner = refl
read_stays b (Err fault) owner = refl

-- no call changes what was placed
pub stays : (a b : Stored) → Leads a b → b.places ≡ a.places
stays a b same = refl
stays a b (finds ab answer owner planned) = find_stays _ answer owner ∙ stays a _ ab
stays a b (opens ab answer owner path planned) = open_stays _ answer owner path ∙ stays a _ ab
stays a b (reads ab answer owner planned) = read_stays _ answer owner ∙ stays a _ ab
stays a b (releases ab file) = stays a _ ab
