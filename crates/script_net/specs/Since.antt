-- What a net may become by all its calls, those of `listen` and `wait` too.
use Rattle.std.specs.Prelude.{◌≤◌, Result}
use Rattle.std.proofs.Common.{le_refl, le_trans, sym, subst}
use Rattle.lt_world.specs.declared.fault.Fault.{Fault}
use Rattle.script_net.specs.Steps.{events_left}
use Rattle.script_net.specs.Waited.{Waited, plans_listen, plans_wait, FailsAs, failed_as, listened, waited}
use Rattle.script_net.specs.Playing.{Playing, IsLater}

-- the net after a call of `listen`
abbrev pub after_listen : Result (Unit {0}) Fault → Playing → Playing
after_listen answer a = record a { waited = listened answer a.waited; faults = failed_as answer a.faults }

-- the net after a call of `wait`
abbrev pub after_wait : Result (Unit {0}) Fault → Playing → Playing
after_wait answer a = record a { waited = waited answer a.waited; faults = failed_as answer a.faults }

-- the calls that lead from one net to another
pub data Leads : Playing → Playing → Type 0 where
  same : {a : Playing} → Leads a a
  plays : {a b c : Playing} → Leads a b → IsLater b c → Leads a c
  listens : {a b : Playing} → Leads a b → (answer : Result (Unit {0}) Fault) → FailsAs answer (plans_listen b.waited.listens b.waited.plan) → Leads a (after_listen answer b)
  waits : {a b : Playing} → Leads a b → (answer : Result (Unit {0}) Fault) → FailsAs answer (plans_wait b.waited.waits b.waited.plan) → Leads a (after_wait answer b)

-- calls after calls are calls
pub Leads-more : (a b c : Playing) → Leads a b → Leads b c → Leads a c
Leads-more a b c ab same = ab
Leads-more a b c ab (plays bc later) = plays (Leads-more _ _ _ ab bc) later
Leads-more a b c ab (listens bc answer planned) = listens (Leads-more _ _ _ ab bc) answer planned
Leads-more a b c ab (waits bc answer planned) = waits (Leads-more _ _ _ ab bc) answer planned

-- what came since: some calls lead there, no count of failures fell, and no more events are left
pub record IsSince (a b : Playing) : Type 0 where
  pub leads : Leads a b
  pub faults : a.faults ≤ b.faults
  pub wait_faults : a.waited.faults ≤ b.waited.faults
  pub left : events_left b.game.left ≤ events_left a.game.left

-- the laws that the trait asks for
pub IsSince-later : (a b : Playing) → IsLater a b → IsSince a b
IsSince-later a b later = record {
  leads = plays same later;
  faults = later.faults;
  wait_faults = subst (λ (w : Waited). a.waited.faults ≤ w.faults) (sym later.waited) (le_refl a.waited.faults);
  left = later.left;
}

pub IsSince-more : (a b c : Playing) → IsSince a b → IsSince b c → IsSince a c
IsSince-more a b c ab bc = record {
  leads = Leads-more a b c ab.leads bc.leads;
  faults = le_trans ab.faults bc.faults;
  wait_faults = le_trans ab.wait_faults bc.wait_faults;
  left = le_trans bc.left ab.left;
}

pub IsSince-faults : (a b : Playing) → IsSince a b → a.faults ≤ b.faults
IsSince-faults a b since = since.faults

pub IsSince-waits : (a b : Playing) → IsSince a b → a.waited.faults ≤ b.waited.faults
IsSince-waits a b since = since.wait_faults

pub IsSince-left : (a b : Playing) → IsSince a b → events_left b.game.left ≤ events_left a.game.left
IsSince-left a b since = since.left
