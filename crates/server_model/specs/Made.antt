-- The calls on files of a plan that is under way, and what its course is by then.
use Rattle.std.specs.Prelude.{◌≡◌, ℕ, zero, suc, ◌≤◌, ◌==◌, Bool, true, false, Option}
use Rattle.lt_world.specs.declared.files.FileCall.{FileCall}
use Rattle.lt_world.specs.declared.files.FileCall.TheVariants as call
use Rattle.lt_world.specs.declared.net.Owner.{Owner}
use Rattle.lt_world.specs.Disk.{Disk, Tree, asked}
use Rattle.server_model.specs.Site.{Site}
use Rattle.server_model.specs.Request.{Head}
use Rattle.server_model.specs.World.{Arrival}
use Rattle.server_model.specs.Plan.{Basis, Course, course}

-- so many calls of a kind for an owner, none of which failed
abbrev pub asked_times : FileCall → Owner → ℕ → Disk → Disk
asked_times what owner zero disk = disk
asked_times what owner (suc n) disk = asked what owner false (asked_times what owner n disk)

-- so many finds and then so many opens were made for an owner, none of which failed
abbrev pub Made : Owner → Disk → ℕ → ℕ → Disk → Type 0
Made owner before finds opens disk = disk ≡ asked_times call.Open owner opens (asked_times call.Find owner finds before)

-- which call of a plan fails, its last one
pub data Failure : Type 0 where
  NoneFails : Failure
  -- the find with this number
  FindFails : ℕ → Failure
  OpenFails : Failure

abbrev pub find_fails_by : Failure → ℕ → Bool
find_fails_by NoneFails i = false
find_fails_by (FindFails n) i = n == i
find_fails_by OpenFails i = false

abbrev pub open_fails_by : Failure → Bool
open_fails_by NoneFails = false
open_fails_by (FindFails n) = false
open_fails_by OpenFails = true

-- what a plan depends on, where this call fails
abbrev pub basis_at : Site → Option Arrival → Head → Tree → Failure → Basis
basis_at site arrival head tree failure = record { blocks = site.blocks; arrival = arrival; head = head; tree = tree; find_fails = find_fails_by failure; open_fails = open_fails_by failure }

-- none of so many finds is the one that fails
abbrev pub IsBehind : ℕ → Failure → Type 0
IsBehind finds NoneFails = Unit {0}
IsBehind finds (FindFails n) = finds ≤ n
IsBehind finds OpenFails = Unit {0}

-- behind so many finds that didn't fail, the course of a request goes on so, whatever fails then
abbrev pub Leads : Site → Option Arrival → Head → Tree → ℕ → (Basis → Course) → Type 0
Leads site arrival head tree finds next = (failure : Failure) → IsBehind finds failure → course (basis_at site arrival head tree failure) ≡ next (basis_at site arrival head tree failure)
