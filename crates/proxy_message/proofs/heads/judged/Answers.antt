use Rattle.std.proofs.Common.{◌≡◌, ◌∙◌, sym, subst, IfOk, arith, rules}
use Rattle.proxy_message.specs.declared.progress.Progress.{Progress}
use Rattle.proxy_message.proofs.JudgedLemmas.{nothing_read, parts_judge, values_valid}
use Rattle.proxy_message.proofs.heads.judged.Goals as goal

pub returns-in_default : goal.returns-in_default
returns-in_default c = c.before-in_default.ensures ∙ sym (nothing_read c.args.head_only c.args.head.now (λ h rest r. first_of (omega (arith, c.in_default.ensures.none h rest r), search (rules, c.in_default.ensures.none h rest r))))

pub returns : goal.returns
returns c =
    subst (λ (q : Progress). IfOk c.by_status.result (λ p. p ≡ q))
    (parts_judge c.args.head_only c.args.head.now _ c.in-Some.found c.in-Some.ensures.some (first_of (search rules, omega (arith, c.in-Some.ensures.within.section.count_fits))) c.in-Ok.fields c.in-Ok.ensures.ok.1)
    c.by_status.ensures

pub read_fields-requires-clause-valid : goal.read_fields-requires-clause-valid
read_fields-requires-clause-valid c = values_valid c.args.head.now _ _ c.in-Some.ensures.some
