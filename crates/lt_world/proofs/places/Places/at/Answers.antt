use Rattle.std.proofs.Common.{◌∙◌, ap}
use Rattle.lt_world.specs.Standing.{node_of}
use Rattle.lt_world.proofs.Placing.{slash_names, plain_names}
use Rattle.lt_world.proofs.places.Places.at.Goals as goal

pub returns-in-Some-Directory : goal.returns-in-Some-Directory
returns-in-Some-Directory c =
    slash_names c.args.self.now _ c.in-Some.before.now c.in-Some.last.now _ c.in-Some.ensures.cases.0 c.if-last-eq47.true (c.in-Some-Directory.ensures ∙ ap node_of c.in-Some-Directory.field-0-is)

pub returns-in-Some-File : goal.returns-in-Some-File
returns-in-Some-File c =
    slash_names c.args.self.now _ c.in-Some.before.now c.in-Some.last.now _ c.in-Some.ensures.cases.0 c.if-last-eq47.true (c.in-Some-File.ensures ∙ ap node_of c.in-Some-File.field-0-is)

pub returns-in-None : goal.returns-in-None
returns-in-None c = slash_names c.args.self.now _ c.in-Some.before.now c.in-Some.last.now _ c.in-Some.ensures.cases.0 c.if-last-eq47.true c.in-None.ensures

pub returns-in-None-last_at : goal.returns-in-None-last_at
returns-in-None-last_at c = plain_names c.args.self.now _ c.in-Some.before.now c.in-Some.last.now _ c.in-Some.ensures.cases.0 c.if-last-eq47.false c.in-None-last_at.ensures

pub returns-in-Some-Directory-last_at : goal.returns-in-Some-Directory-last_at
returns-in-Some-Directory-last_at c =
    plain_names c.args.self.now _ c.in-Some.before.now c.in-Some.last.now _ c.in-Some.ensures.cases.0 c.if-last-eq47.false (c.in-Some-Directory-last_at.ensures ∙ ap node_of c.in-Some-Directory-last_at.field-0-is)

pub returns-in-Some-File-last_at : goal.returns-in-Some-File-last_at
returns-in-Some-File-last_at c =
    plain_names c.args.self.now _ c.in-Some.before.now c.in-Some.last.now _ c.in-Some.ensures.cases.0 c.if-last-eq47.false (c.in-Some-File-last_at.ensures ∙ ap node_of c.in-Some-File-last_at.field-0-is)
