use Rattle.script_net.proofs.Turning.{turned_later, turned_trace, turned_left, turned_links, turned_fresh}
use Rattle.script_net.proofs.net.ScriptNetNet.next.Goals as goal

pub returns-clause-trace : goal.returns-clause-trace
returns-clause-trace c = λ _. turned_trace c.advance.result _ _ c.advance.ensures.turns

pub returns-clause-fresh : goal.returns-clause-fresh
returns-clause-fresh c = λ _. turned_fresh c.advance.result _ _ c.advance.ensures.turns c.advance.ensures.fresh

pub returns-clause-links : goal.returns-clause-links
returns-clause-links c = turned_links c.advance.result _ _ c.advance.ensures.turns

pub returns-clause-left : goal.returns-clause-left
returns-clause-left c = λ _. turned_left c.advance.result _ _ c.advance.ensures.turns

pub returns-clause-later : goal.returns-clause-later
returns-clause-later c = turned_later c.advance.result _ _ c.advance.ensures.script c.advance.ensures.turns c.advance.ensures.waited c.advance.ensures.faults
