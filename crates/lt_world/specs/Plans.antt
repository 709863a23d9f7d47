-- Which calls of one kind are to fail.
use Rattle.std.specs.Prelude.{ℕ, ◌+◌, ◌-◌, ◌^◌, min, List, [], ◌∷◌, ◌++◌, Bool, ◌==◌}
use Rattle.std.specs.List.{list_any}

-- the numbers of the calls that fail, counted from 0, and how many were made
pub record Planned : Type 0 where
  pub fails : List ℕ
  pub made : ℕ

-- the next call is one of those that fail
abbrev pub is_due : Planned → Bool
is_due plan = list_any (λ n. n == plan.made) plan.fails

-- a count of 64 bits that rises, and stands still at its end
abbrev pub next : ℕ → ℕ
next n = min (n + 1) (2 ^ 64 - 1)

-- after a call
abbrev pub counted : Planned → Planned
counted plan = record { fails = plan.fails; made = next plan.made }

-- one call more that fails
abbrev pub fails_at : ℕ → Planned → Planned
fails_at nth plan = record { fails = plan.fails ++ nth ∷ []; made = plan.made }

-- no call was made, and none is to fail
abbrev pub no_plan : Planned
no_plan = record { fails = []; made = 0 }
