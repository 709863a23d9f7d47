use Rattle.std.proofs.Common.{◌≡◌, ◌++◌, ap, ◌∙◌, subst, List, ℕ}
use Rattle.std.specs.Prelude.{OnOk, codes}
use Rattle.std.specs.Fmt.{decimal}
use Rattle.lt_commands.specs.Warnings.{unused, warning_line}
use Rattle.lt_commands.proofs.WarningLemmas.{joined_twice}
use Rattle.lt_commands.proofs.warnings.push_warning.Goals as goal

pub returns : goal.returns
unfolding warning_line
returns c =
    let one = c.in_ok-push_all.ensures.ok in
    let two = c.in_ok-push_number.ensures ∙ ap (λ (t : List ℕ). t ++ decimal c.args.warning.now.file) one in
    let three = c.in_ok-push_all-2.ensures.ok ∙ ap (λ (t : List ℕ). t ++ codes " line ") two in
    let four = c.in_ok-push_number-2.ensures ∙ ap (λ (t : List ℕ). t ++ decimal c.args.warning.now.line) three in
    subst (λ (t : List ℕ). OnOk c.push_key.result (c.push_key.new.text ≡ t))
    (ap (λ (t : List ℕ). t ++ unused c.args.warning.now.key) four ∙ joined_twice c.args.text.now (codes "warning: file ") (decimal c.args.warning.now.file) (codes " line ") (decimal c.args.warning.now.line) (unused c.args.warning.now.key))
    (subst (λ (k : List ℕ). OnOk c.push_key.result (c.push_key.new.text ≡ c.push_number-2.new.text ++ unused k)) c.bytes.ensures.value c.push_key.ensures)
