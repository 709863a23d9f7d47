use Rattle.std.proofs.Common.{◌≡◌, ◌++◌, ap, ◌∙◌, subst, List, ℕ}
use Rattle.std.specs.Prelude.{OnOk, codes}
use Rattle.lt_commands.proofs.WarningLemmas.{joined}
use Rattle.lt_commands.proofs.warnings.push_key.Goals as goal

pub returns : goal.returns
returns c =
    subst (λ (t : List ℕ). OnOk c.push_all-3.result (c.push_all-3.new.self ≡ t))
    (ap (λ (t : List ℕ). t ++ codes " is not used\n") (c.in_ok-push_all-2.ensures.ok ∙ ap (λ (t : List ℕ). t ++ c.args.key.now) c.in_ok-push_all.ensures.ok) ∙ joined c.args.text.now (codes ": ") c.args.key.now (codes " is not used\n"))
    c.push_all-3.ensures.ok
