use Rattle.std.proofs.Common.{length, ap, subst, ◌∙◌, arith}
use Rattle.server_core.specs.Table.{held_count}
use Rattle.server_core.specs.Within.{Running, joined, IsEachBufferOnce}
use Rattle.server_core.proofs.Buffered.{each_once, each_counted, count_joined}
use Rattle.server_core.proofs.server.Server.held.Goals as goal

pub returns-clause-queued : goal.returns-clause-queued
returns-clause-queued c = c.queued.ensures ∙ ap held_count c.deref.ensures.value ∙ count_joined c.self.inside.clients.items ∙ ap (λ (s : Running). length (joined s.queued)) c.self.view_is

pub returns-clause-all : goal.returns-clause-all
returns-clause-all c = omega (arith, c.spare.ensures.spare, c.made.ensures.made, c.queued.ensures, ap held_count c.deref.ensures.value, count_joined c.self.inside.clients.items, each_counted c.self.inside.store c.self.inside.clients.items c.self.invariant.kept.each)

pub returns-clause-once : goal.returns-clause-once
returns-clause-once c = subst IsEachBufferOnce c.self.view_is (each_once c.self.inside.store c.self.inside.clients.items c.self.invariant.kept.each)
