use Rattle.std.proofs.Common.{rules, ap, ap₂, codes, ◌≡◌, ◌∙◌}
use Rattle.clap.specs.Words.{app_of, rule_of, with_rule}
use Rattle.clap.specs.Simple.{app_of_fields}
use Rattle.command_words.specs.Lines.{flag_rule}
use Rattle.command_words.proofs.RowLemmas.{nameless_is}
use Rattle.command_words.proofs.commands.options.Goals as goal

pub returns : goal.returns
returns c =
    let test : rule_of c.action-test.result ≡ flag_rule (codes "test") 116 = search rules in
    let print : rule_of c.action-print.result ≡ flag_rule (codes "print") 112 = search rules in
    let foreground : rule_of c.action-foreground.result ≡ flag_rule (codes "foreground") 68 = search rules in
    let base = nameless_is (app_of c.new-4.result) (app_of c.no_binary_name.result) (codes "lighttpd") (ap app_of_fields c.no_binary_name.ensures) c.new-4.ensures.app in
    c.in_ok-made.ensures.shape (search rules)
    ∙ ap₂ with_rule (c.in_ok-arg-3.ensures.shape (search rules)
    ∙ ap₂ with_rule (c.in_ok-arg-2.ensures.shape (search rules)
    ∙ ap₂ with_rule (c.in_ok-arg.ensures.shape c.conf.ensures.local ∙ ap₂ with_rule base c.conf.ensures.rule) test) print) foreground
