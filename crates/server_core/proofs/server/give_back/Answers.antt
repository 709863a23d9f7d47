use Rattle.std.proofs.Common.{◌∙◌, ◌++◌, ◌∷◌, [], ap, sym, arith}
use Rattle.server_core.proofs.Closing.{popped_disk, popped_each, popped_within, popped_rising, popped_open, popped_backs}
use Rattle.server_core.proofs.server.give_back.Goals as goal

pub release-requires-clause-counted : goal.release-requires-clause-counted
release-requires-clause-counted g c = popped_within c.loop-client.clients.items c.pop.new.self.items c.into_conn.result (c.in-Some.ensures.items ∙ ap (λ k. c.pop.new.self.items ++ k ∷ []) (sym c.into_conn.ensures)) c.loop-client.store c.loop-client.invariant.each

pub release-requires-clause-open : goal.release-requires-clause-open
release-requires-clause-open g c f = popped_open c.loop-client.clients.items c.pop.new.self.items c.into_conn.result (c.in-Some.ensures.items ∙ ap (λ k. c.pop.new.self.items ++ k ∷ []) (sym c.into_conn.ensures)) (g.F.Files.disk c.loop-client.files).table c.loop-client.invariant.rising (c.loop-client.invariant.backs f)

pub loop-client-preserved : goal.loop-client-preserved
loop-client-preserved g c = record {
  each = popped_each c.loop-client.clients.items c.pop.new.self.items c.into_conn.result (c.in-Some.ensures.items ∙ ap (λ k. c.pop.new.self.items ++ k ∷ []) (sym c.into_conn.ensures)) c.loop-client.store c.release.new.store c.release.ensures.kept c.loop-client.invariant.each;
  made = omega (arith, c.release.ensures.kept.rises, c.loop-client.invariant.made);
  rising = popped_rising c.loop-client.clients.items c.pop.new.self.items c.into_conn.result (c.in-Some.ensures.items ∙ ap (λ k. c.pop.new.self.items ++ k ∷ []) (sym c.into_conn.ensures)) c.loop-client.invariant.rising;
  backs = λ f. popped_backs c.loop-client.clients.items c.pop.new.self.items c.into_conn.result (c.in-Some.ensures.items ∙ ap (λ k. c.pop.new.self.items ++ k ∷ []) (sym c.into_conn.ensures)) (g.F.Files.disk c.loop-client.files) (g.F.Files.disk c.release.new.files) c.loop-client.invariant.rising (c.loop-client.invariant.backs f) (c.release.ensures.drops f);
  disk = λ f. popped_disk c.loop-client.clients.items c.pop.new.self.items c.into_conn.result (c.in-Some.ensures.items ∙ ap (λ k. c.pop.new.self.items ++ k ∷ []) (sym c.into_conn.ensures)) (g.F.Files.disk c.loop-client.files) (g.F.Files.disk c.release.new.files) _ (c.release.ensures.drops f) (c.loop-client.invariant.disk f);
  reads = c.release.ensures.reads ∙ c.loop-client.invariant.reads;
  later = g.met.F.Files.later_later c.args.files.now c.loop-client.files c.release.new.files c.loop-client.invariant.later c.release.ensures.later;
}
