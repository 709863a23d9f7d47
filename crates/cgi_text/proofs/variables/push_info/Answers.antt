use Rattle.std.proofs.Common.{sym, ◌∙◌}
use Rattle.cgi_text.proofs.ParamLemmas.{info_there}
use Rattle.cgi_text.proofs.variables.push_info.Goals as goal

pub returns : goal.returns
returns c = rw (info_there c.args.info.now (sym c.is_empty.ensures ∙ c.if-is_empty.false)) c.push_pair.ensures
