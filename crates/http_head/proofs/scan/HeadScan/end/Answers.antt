use Rattle.std.proofs.Common.{◌∙◌, arith, sym}
use Rattle.http_head.specs.declared.limits.TheConstants.{HEAD_LIMIT}
use Rattle.http_head.proofs.ScanLemmas.{end_there, end_large, end_open, end_is}
use Rattle.http_head.proofs.scan.HeadScan.end.Goals as goal

pub returns-then-is_ended-clause-value : goal.returns-then-is_ended-clause-value
returns-then-is_ended-clause-value c =
    λ bytes scan. end_there HEAD_LIMIT c.args.self (sym c.is_ended.ensures ∙ c.if-is_ended.true) ∙ end_is bytes c.args.self scan

pub returns-then-self-ge-HEAD_LIMIT-clause-value : goal.returns-then-self-ge-HEAD_LIMIT-clause-value
returns-then-self-ge-HEAD_LIMIT-clause-value c =
    λ bytes scan. end_large HEAD_LIMIT c.args.self (sym c.is_ended.ensures ∙ c.if-is_ended.false) (omega (arith, c.if-self-ge-HEAD_LIMIT.true)) ∙ end_is bytes c.args.self scan

pub returns-else-self-ge-HEAD_LIMIT-clause-value : goal.returns-else-self-ge-HEAD_LIMIT-clause-value
returns-else-self-ge-HEAD_LIMIT-clause-value c =
    λ bytes scan. end_open HEAD_LIMIT c.args.self (sym c.is_ended.ensures ∙ c.if-is_ended.false) (omega (arith, c.if-self-ge-HEAD_LIMIT.false)) ∙ end_is bytes c.args.self scan
