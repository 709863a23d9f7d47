-- What a call of `listen` or `wait` makes of a net, and what came since.
use Rattle.std.proofs.Common.{◌≡◌, ◌≤◌, ℕ, false, List, [], ◌++◌, Result, Ok, Err, refl, ap, sym, subst, ◌∙◌, le_refl}
use Rattle.lt_world.specs.declared.fault.Fault.{Fault}
use Rattle.script_net.specs.Steps.{events_left}
use Rattle.script_net.specs.Calls.{Game, Call, start}
use Rattle.script_net.specs.Plays.{played}
use Rattle.script_net.specs.Later.{played-append}
use Rattle.script_net.specs.Waited.{Waited, plans_listen, plans_wait, FailsAs, failed_as}
use Rattle.script_net.specs.Playing.{Playing}
use Rattle.script_net.specs.Since.{Leads, same, plays, listens, waits, after_listen, after_wait, IsSince}
use Rattle.script_net.specs.Laws.{SincePlays, UnplannedNeverFail}

pub by_listen : (answer : Result (Unit {0}) Fault) (a b : Playing) → b ≡ after_listen answer a → FailsAs answer (plans_listen a.waited.listens a.waited.plan)
    → a.faults ≤ b.faults → a.waited.faults ≤ b.waited.faults → IsSince a b
by_listen answer a b becomes planned faults waited = record {
  leads = subst (λ (p : Playing). Leads a p) (sym becomes) (listens same answer planned);
  faults = faults;
  wait_faults = waited;
  left = subst (λ (p : Playing). events_left p.game.left ≤ events_left a.game.left) (sym becomes) (le_refl (events_left a.game.left));
}

pub by_wait : (answer : Result (Unit {0}) Fault) (a b : Playing) → b ≡ after_wait answer a → FailsAs answer (plans_wait a.waited.waits a.waited.plan)
    → a.faults ≤ b.faults → a.waited.faults ≤ b.waited.faults → IsSince a b
by_wait answer a b becomes planned faults waited = record {
  leads = subst (λ (p : Playing). Leads a p) (sym becomes) (waits same answer planned);
  faults = faults;
  wait_faults = waited;
  left = subst (λ (p : Playing). events_left p.game.left ≤ events_left a.game.left) (sym becomes) (le_refl (events_left a.game.left));
}

-- the game goes on with its calls, and the script is the same
record GoesOn (a b : Playing) : Type 0 where
  is : b.script ≡ a.script
  calls : List Call
  made : b.game ≡ played calls a.game

goes_on : (a b : Playing) → Leads a b → GoesOn a b
goes_on a b same = record { is = refl; calls = []; made = refl }
goes_on a b (plays ab later) =
    let before = goes_on _ _ ab in
    record {
      is = later.same ∙ before.is;
      calls = later.calls ++ before.calls;
      made = later.plays ∙ ap (λ (g : Game). played later.calls g) before.made ∙ sym (played-append later.calls before.calls a.game);
    }
goes_on a b (listens ab answer planned) =
    let before = goes_on _ _ ab in
    record { is = before.is; calls = before.calls; made = before.made }
goes_on a b (waits ab answer planned) =
    let before = goes_on _ _ ab in
    record { is = before.is; calls = before.calls; made = before.made }

pub since_plays : SincePlays
since_plays a b new since =
    let on = goes_on a b since.leads in
    let here : b.game ≡ played on.calls (start b.script) = on.made ∙ ap (λ (g : Game). played on.calls g) (new ∙ ap start (sym on.is)) in
    record { calls = on.calls; told = ap (λ (g : Game). g.trace) (sym here); rest = ap (λ (g : Game). g.left) (sym here) }

-- a plan stays, and where it names no call none failed

record Calm (a b : Playing) : Type 0 where
  plan : b.waited.plan ≡ a.waited.plan
  faults : b.waited.faults ≡ a.waited.faults

unplanned : (answer : Result (Unit {0}) Fault) (faults : ℕ) → FailsAs answer false → failed_as answer faults ≡ faults
unplanned (Ok done) faults planned = refl
unplanned (Err fault) faults planned = absurd (cc planned)

still : (a b : Playing) → Leads a b → ((nth : ℕ) → plans_listen nth a.waited.plan ≡ false) → ((nth : ℕ) → plans_wait nth a.waited.plan ≡ false) → Calm a b
still a b same listen wait = record { plan = refl; faults = refl }
still a b (plays {b = m} ab later) listen wait =
    let before = still _ _ ab listen wait in
    let kept = later.waited in
    record { plan = ap (λ (w : Waited). w.plan) kept ∙ before.plan; faults = ap (λ (w : Waited). w.faults) kept ∙ before.faults }
still a b (listens {b = m} ab answer planned) listen wait =
    let before = still _ _ ab listen wait in
    record {
      plan = before.plan;
      faults = unplanned answer m.waited.faults (subst (λ t. FailsAs answer t) (ap (plans_listen m.waited.listens) before.plan ∙ listen m.waited.listens) planned) ∙ before.faults;
    }
still a b (waits {b = m} ab answer planned) listen wait =
    let before = still _ _ ab listen wait in
    record {
      plan = before.plan;
      faults = unplanned answer m.waited.faults (subst (λ t. FailsAs answer t) (ap (plans_wait m.waited.waits) before.plan ∙ wait m.waited.waits) planned) ∙ before.faults;
    }

pub unplanned_never_fail : UnplannedNeverFail
unplanned_never_fail a b since listen wait = (still a b since.leads listen wait).faults
