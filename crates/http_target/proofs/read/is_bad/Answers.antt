use Rattle.std.proofs.Common.{ap, ◌∙◌}
use Rattle.std.specs.List.{list_any}
use Rattle.percent_encoding.specs.Percent.{percent_decode}
use Rattle.http_target.specs.Target.{sent_path_of, is_control}
use Rattle.http_target.proofs.BadLemmas.{bad_bytes}
use Rattle.http_target.proofs.read.is_bad.Goals as goal

pub returns-else-not-has_origin_form : goal.returns-else-not-has_origin_form
returns-else-not-has_origin_form c =
    bad_bytes c.args.sent.now c.has_origin_form.result _ c.has_origin_form.ensures c.if-not-has_origin_form.false
    (c.has_control.ensures ∙ ap (λ path. list_any is_control (percent_decode path)) (c.sent_path.ensures ∙ ap sent_path_of c.after_authority.ensures))
