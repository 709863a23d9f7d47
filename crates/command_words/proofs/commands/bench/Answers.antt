use Rattle.std.proofs.Common.{rules, ap, ap₂, codes, ◌≡◌, ◌∙◌}
use Rattle.clap.specs.Words.{app_of, rule_of, with_rule}
use Rattle.clap.specs.Simple.{app_of_fields}
use Rattle.command_words.specs.Lines.{number_rule}
use Rattle.command_words.proofs.RowLemmas.{nameless_is}
use Rattle.command_words.proofs.commands.bench.Goals as goal

pub returns : goal.returns
returns c =
    let number : rule_of c.action-number.result ≡ number_rule = search rules in
    let base = nameless_is (app_of c.new-2.result) (app_of c.no_binary_name.result) (codes "bench") (ap app_of_fields c.no_binary_name.ensures) c.new-2.ensures.app in
    c.in_ok-made.ensures.shape (search rules) ∙ ap₂ with_rule base number
