use Rattle.cgi_text.specs.Request.{parts_of}
use Rattle.proxy_message.proofs.AskingLemmas.{ask_size}
use Rattle.proxy_message.proofs.laws.ask_is_bounded.Goals as goal

pub returns : goal.returns
returns c = ask_size (parts_of c.args.request.now) c.ip_is_short.ensures c.number_is_short.ensures
