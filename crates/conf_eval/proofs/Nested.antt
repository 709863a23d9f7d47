-- Chains of blocks and includes, one level down.
use Rattle.std.proofs.Common.{◌≡◌, ◌≢◌, ℕ, zero, suc, ◌-◌, List, Option, None, refl, ap, arith}
use Rattle.lt_world.specs.TextAnswers.{Library}
use Rattle.conf_parse.specs.declared.tree.Branch.{Branch}
use Rattle.conf_eval.specs.declared.fault.ConfKind.TheVariants as kind
use Rattle.conf_eval.specs.Settings.{State}
use Rattle.conf_eval.specs.Calls.{Calls}
use Rattle.conf_eval.specs.Parts.{fails, fetches}
use Rattle.conf_eval.specs.Load.{Include, include, included, chain, branches_by}

module _ (library : Library) (file line : ℕ) (scopes : List ℕ) (s : State) (calls : Calls) where
  module _ (inc : Include library) (all : List Branch) where
    pub chain_none : (d : ℕ) → d ≡ 0 → chain library inc d file line scopes all s calls ≡ fails kind.Deep file line calls
    unfolding chain
    chain_none zero q = refl
    chain_none (suc d) q = absurd (omega arith)

    pub chain_open : (d : ℕ) → d ≢ 0 → chain library inc d file line scopes all s calls ≡ branches_by library inc (chain library inc (d - 1)) file scopes None all s calls
    unfolding chain
    chain_open zero n = absurd (n refl)
    chain_open (suc d) n = ap (λ (y : ℕ). branches_by library inc (chain library inc y) file scopes None all s calls) (let q : d ≡ suc d - 1 = omega arith in q)

  module _ (name : List ℕ) where
    pub include_none : (d : ℕ) → d ≡ 0 → include library d file line scopes name s calls ≡ fails kind.IncludeDeep file line calls
    unfolding include
    include_none zero q = refl
    include_none (suc d) q = absurd (omega arith)

    pub include_open : (d : ℕ) → d ≢ 0 → include library d file line scopes name s calls ≡ fetches (included library (include library (d - 1)) file line scopes) (library name) name s calls
    unfolding include
    include_open zero n = absurd (n refl)
    include_open (suc d) n = ap (λ (y : ℕ). fetches (included library (include library y) file line scopes) (library name) name s calls) (let q : d ≡ suc d - 1 = omega arith in q)
