use Rattle.std.proofs.Common.{◌≡◌, ap, sym, ◌∙◌}
use Rattle.fcgi_records.specs.Feeding.{bytes_of}
use Rattle.cgi_text.specs.Head.{cgi_head}
use Rattle.fcgi_gateway.specs.Heard.{judged}
use Rattle.fcgi_gateway.proofs.FrontLemmas.{cgi_front, refused}
use Rattle.fcgi_gateway.proofs.hearing.read_answer.Goals as goal

pub returns-in-Ok : goal.returns-in-Ok
returns-in-Ok c =
    ap (judged (bytes_of c.args.out.now)) (sym (sym (ap cgi_head (c.split_at.ensures.front ∙ c.peek-n.ensures.bytes) ∙ cgi_front c.peek-n.result (bytes_of c.args.out.now) c.peek-n.ensures.count) ∙ c.in-Ok.ensures))

pub returns-in-Err-NeedMore : goal.returns-in-Err-NeedMore
returns-in-Err-NeedMore c = refused (bytes_of c.args.out.now) _ _ (ap cgi_head (c.split_at.ensures.front ∙ c.peek-n.ensures.bytes) ∙ cgi_front c.peek-n.result (bytes_of c.args.out.now) c.peek-n.ensures.count) c.in-Err-NeedMore.ensures (λ e. cc)

pub returns-in-Err-BadCgiHead : goal.returns-in-Err-BadCgiHead
returns-in-Err-BadCgiHead c = refused (bytes_of c.args.out.now) _ _ (ap cgi_head (c.split_at.ensures.front ∙ c.peek-n.ensures.bytes) ∙ cgi_front c.peek-n.result (bytes_of c.args.out.now) c.peek-n.ensures.count) c.in-Err-BadCgiHead.ensures (λ e. cc)

pub returns-in-Err-CgiHeadTooLong : goal.returns-in-Err-CgiHeadTooLong
returns-in-Err-CgiHeadTooLong c = refused (bytes_of c.args.out.now) _ _ (ap cgi_head (c.split_at.ensures.front ∙ c.peek-n.ensures.bytes) ∙ cgi_front c.peek-n.result (bytes_of c.args.out.now) c.peek-n.ensures.count) c.in-Err-CgiHeadTooLong.ensures (λ e. cc)
