use Rattle.std.proofs.Common.{Some, None, ◌∙◌}
use Rattle.conf_eval.proofs.Tables.{get_none, get_at}
use Rattle.conf_eval.proofs.table.Table.get.Goals as goal

pub returns-in_default : goal.returns-in_default
returns-in_default c = get_none c.self.inside.settings c.args.self.now c.args.key.now c.find.result c.self.view_is (c.find.ensures ∙ c.self.invariant.0 c.args.key.now) c.in_default.is

pub returns-in-Some-get : goal.returns-in-Some-get
returns-in-Some-get c = get_at c.self.inside.settings c.args.self.now c.args.key.now c.find.result c.self.view_is (c.find.ensures ∙ c.self.invariant.0 c.args.key.now) c.in-Some.at (Some c.in-Some-get.setting.now) c.in-Some.is c.in-Some-get.ensures

pub returns-in-None : goal.returns-in-None
returns-in-None c = get_at c.self.inside.settings c.args.self.now c.args.key.now c.find.result c.self.view_is (c.find.ensures ∙ c.self.invariant.0 c.args.key.now) c.in-Some.at None c.in-Some.is c.in-None.ensures
