-- The patterns of a list of rules, one number after another.
use Rattle.std.proofs.Common.{◌≡◌, ℕ, zero, suc, ◌+◌, ◌<◌, List, [], ◌∷◌, length, get_or, sym, subst, arith}
use Rattle.conf_value.specs.declared.value.Pair.{Pair}
use Rattle.conditions.specs.Marked.{Marked}
use Rattle.rewrite.specs.Rules.{rule_of, IsPattern, ArePatterns}

pub pattern_at : (patterns : List Marked) (first : ℕ) (pairs : List Pair) (i : ℕ) (pair : Pair) → ArePatterns patterns first pairs → i < length pairs → pair ≡ get_or pairs i pair
    → IsPattern patterns (first + i) (rule_of pair)
pattern_at patterns first [] i pair all lt is = absurd (omega (arith, lt))
pattern_at patterns first (p ∷ pairs) zero pair all lt is =
    let same : p ≡ pair = sym is in
    let number : first ≡ first + 0 = omega arith in
    subst (λ (n : ℕ). IsPattern patterns n (rule_of pair)) number (subst (λ (q : Pair). IsPattern patterns first (rule_of q)) same all.0)
pattern_at patterns first (p ∷ pairs) (suc i) pair all lt is =
    let number : first + 1 + i ≡ first + suc i = omega arith in
    subst (λ (n : ℕ). IsPattern patterns n (rule_of pair)) number (pattern_at patterns (first + 1) pairs i pair all.1 (omega (arith, lt)) is)
