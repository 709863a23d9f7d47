-- What contracts see of the net, and what it may become.
use Rattle.std.specs.Prelude.{◌≡◌, ℕ, ◌≤◌, ◌⊎◌}
use Rattle.std.proofs.Common.{refl, sym, ◌∙◌, subst, le_refl, le_trans}
use Rattle.lt_world.specs.declared.net.NextKind.{NextKind}
use Rattle.lt_world.specs.declared.net.NextKind.TheVariants as kind
use Rattle.lt_world.specs.declared.net.Event.{Event}
use Rattle.lt_world.specs.Answers.{kind_of}

pub record Counts : Type 0 where
  pub faults : ℕ
  pub wait_faults : ℕ
  -- the kind of the last answer of `next`
  pub last : NextKind
  -- every link so far has a number below it
  pub links : ℕ

abbrev pub no_counts : Counts
no_counts = record { faults = 0; wait_faults = 0; last = kind.NoneYet; links = 0 }

-- the count of failures and the numbers of links never fall, no call of the net waits, and it answers neither NoMemory nor Over
pub record Becomes (before after : Counts) : Type 0 where
  pub faults : before.faults ≤ after.faults
  pub wait_faults : after.wait_faults ≡ before.wait_faults
  pub links : before.links ≤ after.links
  pub memory : after.last ≡ kind.NoMemory → before.last ≡ kind.NoMemory
  pub over : after.last ≡ kind.Over → before.last ≡ kind.Over

-- the same by waiting as well: no count falls
pub record Since (before after : Counts) : Type 0 where
  pub faults : before.faults ≤ after.faults
  pub wait_faults : before.wait_faults ≤ after.wait_faults

-- an event of a link
abbrev pub IsLinkEvent : Event → Type 0
IsLinkEvent answer = kind_of answer ≡ kind.Event

-- an event of a link, or Idle
abbrev pub IsAnswer : Event → Type 0
IsAnswer answer = (kind_of answer ≡ kind.Event) ⊎ (kind_of answer ≡ kind.Idle)

-- it may stay what it is
pub Becomes-same : (net : Counts) → Becomes net net
Becomes-same net = record { faults = le_refl net.faults; wait_faults = refl; links = le_refl net.links; memory = λ is. is; over = λ is. is }

-- what may become of it later may become of it
pub Becomes-more : (a b c : Counts) → Becomes a b → Becomes b c → Becomes a c
Becomes-more a b c ab bc = record { faults = le_trans ab.faults bc.faults; wait_faults = bc.wait_faults ∙ ab.wait_faults; links = le_trans ab.links bc.links; memory = λ is. ab.memory (bc.memory is); over = λ is. ab.over (bc.over is) }

-- what may become of it without waiting may become of it
pub Becomes-since : (a b : Counts) → Becomes a b → Since a b
Becomes-since a b becomes = record { faults = becomes.faults; wait_faults = subst (λ (n : ℕ). a.wait_faults ≤ n) (sym becomes.wait_faults) (le_refl a.wait_faults) }

-- so too by waiting, step by step
pub Since-more : (a b c : Counts) → Since a b → Since b c → Since a c
Since-more a b c ab bc = record { faults = le_trans ab.faults bc.faults; wait_faults = le_trans ab.wait_faults bc.wait_faults }
