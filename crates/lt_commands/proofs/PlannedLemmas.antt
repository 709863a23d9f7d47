-- What planned faults leave as it was, and what they mean for a run.
use Rattle.std.proofs.Common.{◌≡◌, ℕ, List, [], ◌∷◌, Bool, true, false, ◌||◌, refl, sym, ap, subst, ◌∙◌}
use Rattle.std.specs.List.{list_any}
use Rattle.lt_world.specs.FileRuns.{same, IsUnplanned}
use Rattle.lt_world.specs.Memory.{Stored, Placed, no_files}
use Rattle.lt_world.proofs.FileLaws.{calm}
use Rattle.lt_script.specs.declared.script.ScriptFault.{ScriptFault}
use Rattle.lt_script.specs.declared.script.FaultCall.{FaultCall}
use Rattle.lt_script.specs.declared.script.FaultCall.TheVariants as call
use Rattle.script_net.specs.Loads.{with_fault, faulted}
use Rattle.lt_commands.specs.Runs.{Asked, asked_of}
use Rattle.lt_commands.specs.Planned.{is_of_files, AreNotOfFiles, FailsAsPlanned}

fault_asks : (what : FaultCall) (nth : ℕ) (files : Stored) → asked_of (with_fault what nth files) ≡ asked_of files
fault_asks call.Find nth files = refl
fault_asks call.Open nth files = refl
fault_asks call.File nth files = refl
fault_asks call.Connect nth files = refl
fault_asks call.Listen nth files = refl
fault_asks call.Wait nth files = refl

fault_places : (what : FaultCall) (nth : ℕ) (files : Stored) → (with_fault what nth files).places ≡ files.places
fault_places call.Find nth files = refl
fault_places call.Open nth files = refl
fault_places call.File nth files = refl
fault_places call.Connect nth files = refl
fault_places call.Listen nth files = refl
fault_places call.Wait nth files = refl

-- a plan is no call
faulted_asks : (faults : List ScriptFault) (files : Stored) → asked_of (faulted faults files) ≡ asked_of files
faulted_asks [] files = refl
faulted_asks (fault ∷ faults) files = faulted_asks faults (with_fault fault.call fault.nth files) ∙ fault_asks fault.call fault.nth files

faulted_places : (faults : List ScriptFault) (files : Stored) → (faulted faults files).places ≡ files.places
faulted_places [] files = refl
faulted_places (fault ∷ faults) files = faulted_places faults (with_fault fault.call fault.nth files) ∙ fault_places fault.call fault.nth files

or_left : (a b : Bool) → (a || b) ≡ false → a ≡ false
or_left true b none = none
or_left false b none = refl

or_right : (a b : Bool) → (a || b) ≡ false → b ≡ false
or_right true b none = absurd (cc (none))
or_right false b none = none

unfaulted_by : (what : FaultCall) (nth : ℕ) (files : Stored) → is_of_files what ≡ false → with_fault what nth files ≡ files
unfaulted_by call.Find nth files none = absurd (cc (none))
unfaulted_by call.Open nth files none = absurd (cc (none))
unfaulted_by call.File nth files none = absurd (cc (none))
unfaulted_by call.Connect nth files none = refl
unfaulted_by call.Listen nth files none = refl
unfaulted_by call.Wait nth files none = refl

-- where none is of files nothing is planned
unfaulted : (faults : List ScriptFault) (files : Stored) → AreNotOfFiles faults → faulted faults files ≡ files
unfaulted [] files none = refl
unfaulted (fault ∷ faults) files none =
    let rest : Bool = list_any (λ f. is_of_files f.call) faults in
    unfaulted faults (with_fault fault.call fault.nth files) (or_right (is_of_files fault.call) rest none)
    ∙ unfaulted_by fault.call fault.nth files (or_left (is_of_files fault.call) rest none)

-- then no call on the files failed
pub none_fails : (faults : List ScriptFault) (left : Asked) → FailsAsPlanned faults left → AreNotOfFiles faults → left.faults ≡ 0
none_fails faults left fails none =
    let plain : fails.before ≡ record no_files { places = fails.before.places } = fails.begins ∙ unfaulted faults (record no_files { places = fails.before.places }) none in
    let unplanned : IsUnplanned fails.before = subst IsUnplanned (sym plain) (record { finds = refl; opens = refl; reads = refl }) in
    sym (ap (λ (a : Asked). a.faults) fails.left_is) ∙ (calm fails.before fails.after fails.leads unplanned).1 ∙ ap (λ (s : Stored). s.faults) plain

-- where nothing was asked for, whatever is planned
pub nothing_failed : (faults : List ScriptFault) (left : Asked) → left ≡ asked_of no_files → FailsAsPlanned faults left
nothing_failed faults left unasked = record {
  before = faulted faults no_files;
  after = faulted faults no_files;
  begins = sym (ap (λ (places : List Placed). faulted faults (record no_files { places = places })) (faulted_places faults no_files));
  leads = same;
  left_is = faulted_asks faults no_files ∙ sym unasked;
}
