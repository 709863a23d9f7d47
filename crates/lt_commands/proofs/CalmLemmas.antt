-- How clients are closed where no line of a script makes a read or a write fail.
use Rattle.std.proofs.Common.{◌≡◌, ℕ, ◌<◌, arith, List, [], ◌∷◌, Bool, true, false, ◌&&◌, ◌||◌, ◌==◌, if◌then◌else◌, refl, sym, ap, subst, ◌∙◌}
use Rattle.std.specs.List.{list_any}
use Rattle.lt_world.specs.Acts.{is_deed}
use Rattle.lt_world.specs.declared.net.Ending.{Ending}
use Rattle.lt_world.specs.declared.net.Ending.TheVariants as ending
use Rattle.lt_world.specs.Disk.{Tree}
use Rattle.lt_world.specs.Trace.{Act, Entry, Accepted, Readable, Writable, Read, ReadEnd, NotYet, Failed, Wrote, Connect, Close}
use Rattle.lt_script.specs.declared.script.Script.{Script}
use Rattle.script_net.specs.Calls.{Game}
use Rattle.script_net.specs.Plays.{played}
use Rattle.script_net.specs.Playing.{Playing, prepared, IsLater}
use Rattle.script_net.specs.Failing.{IsCalm, is_failure, NoneFailed}
use Rattle.script_net.proofs.Calm.{calm_never_fails}
use Rattle.server_model.specs.Site.{Site}
use Rattle.server_model.specs.Deeds.{Deed, Ours, own, ours}
use Rattle.server_model.specs.Client.{has_failed}
use Rattle.server_model.specs.Causes.{IsCause}
use Rattle.server_model.proofs.Endings.{cause_stays}
use Rattle.lt_commands.specs.Runs.{Asked, Served}
use Rattle.lt_commands.specs.Endings.{IsCalmEnding, AllEndCalmly}

or_right : (a b : Bool) → (a || b) ≡ false → b ≡ false
or_right true b none = absurd (cc (none))
or_right false b none = none

-- nothing failed on a link, where nothing did on this act and before it
unfailed_by : (t : Bool) (act : Act) (deeds : List Deed) (rest : Bool) → (is_failure act || rest) ≡ false → (rest ≡ false → has_failed (ours deeds) ≡ false) → has_failed (ours (if t then Ours act ∷ deeds else deeds)) ≡ false
unfailed_by false act deeds rest none before = before (or_right (is_failure act) rest none)
unfailed_by true (Accepted peer local) deeds rest none before = before none
unfailed_by true Readable deeds rest none before = before none
unfailed_by true Writable deeds rest none before = before none
unfailed_by true (Read asked bytes) deeds rest none before = before none
unfailed_by true ReadEnd deeds rest none before = before none
unfailed_by true (NotYet way) deeds rest none before = before none
unfailed_by true (Failed way) deeds rest none before = absurd (cc (none))
unfailed_by true (Wrote offered bytes) deeds rest none before = before none
unfailed_by true (Connect owner to link) deeds rest none before = before none
unfailed_by true (Close e) deeds rest none before = before none

unfailed : (link : ℕ) (trace : List Entry) → NoneFailed trace → has_failed (ours (own link trace)) ≡ false
unfailed link [] none = refl
unfailed link (entry ∷ trace) none =
    unfailed_by (is_deed entry.act && entry.link == link) entry.act (own link trace) (list_any (λ e. is_failure e.act) trace) none (unfailed link trace)

-- with no file's fault and no failure of its own link, a client is closed in one of three ways
calm_cause : (e : Ending) (deeds : List Deed) → has_failed (ours deeds) ≡ false → IsCause e (ours deeds) ⊥ → IsCalmEnding e
calm_cause ending.Clean deeds sound cause = tt
calm_cause ending.Full deeds sound cause = tt
calm_cause ending.NoMemory deeds sound cause = tt
calm_cause ending.ClientFault deeds sound cause = absurd (cc (sound, cause))
calm_cause ending.FileFault deeds sound cause = absurd cause
calm_cause ending.GatewayCut deeds sound cause = absurd cause
calm_cause ending.Gate deeds sound cause = absurd cause

none_failed : (n : ℕ) → n ≡ 0 → 0 < n → ⊥
none_failed n none some = grind (arith, none, some)

-- a run over a net that began with calm steps, where no call on the files failed
pub calm_run : (site : Site) (tree : Tree) (left : Asked) (said : Script) (a b : Playing) → a ≡ prepared said → IsLater a b → IsCalm said.steps → left.faults ≡ 0 → Served site tree left b.game.trace → AllEndCalmly b.game.trace
calm_run site tree left said a b begins later calm unfailed_files served link e is =
    let same : b.game ≡ played later.calls (prepared said).game = later.plays ∙ ap (λ (p : Playing). played later.calls p.game) begins in
    let none : NoneFailed b.game.trace = subst (λ (g : Game). NoneFailed g.trace) (sym same) (calm_never_fails said.steps later.calls calm) in
    calm_cause e (own link b.game.trace) (unfailed link b.game.trace none) (cause_stays e (own link b.game.trace) (0 < left.faults) ⊥ (none_failed left.faults unfailed_files) (served.caused link e is))
