use Rattle.std.proofs.Common.{◌≡◌, refl, sym, ap, subst, ◌∙◌}
use Rattle.chunkqueue.specs.Items.{items_of, memory_front}
use Rattle.connection.specs.Connection.{Connected}
use Rattle.connection.specs.Inside.{connected_of, stage_by, IsAt, IsContentAt, IsSeen}
use Rattle.connection.specs.declared.progress.Progress.{Progress}
use Rattle.connection.specs.declared.progress.Progress.TheVariants as progress
use Rattle.connection.proofs.Buffers.{first_kept}
use Rattle.connection.proofs.Rests.{room_within, got_memory, got_within, got_held, got_seen, got_unseen}
use Rattle.connection.proofs.connection.Conn.got.Goals as goal

pub invariant_of-self-in_default : goal.invariant_of-self-in_default
invariant_of-self-in_default c = record {
  memory = got_memory c.self.inside.input c.push_bytes.new.self c.args.bytes.now c.in_ok-push_bytes.ensures.ok c.self.invariant.memory;
  within = got_within c.self.inside.input c.push_bytes.new.self c.args.bytes.now c.in_ok-push_bytes.ensures.ok
      (room_within c.args.self.now.held c.self.inside.input _ (ap (λ (x : Connected). x.held.input) c.self.view_is) c.self.invariant.memory c.self.invariant.within c.requires.room);
  seen = got_unseen c.self.inside.progress c.push_bytes.new.self c.in_default.not-Awaiting;
  staged = c.self.invariant.staged;
  rests = c.self.invariant.rests;
  content = c.self.invariant.content;
  few = c.self.invariant.few;
  empty = c.self.invariant.empty;
}

pub returns-in_default : goal.returns-in_default
returns-in_default c = record {
  ok = got_held (connected_of c.self.inside).held c.args.self.now.held c.self.inside.input c.push_bytes.new.self c.args.bytes.now c.in_ok-push_bytes.ensures.ok c.self.invariant.memory refl (ap (λ (x : Connected). x.held) c.self.view_is);
  err = tt;
  spare = λ fits. refl;
  filled = c.push_bytes.ensures.filled;
  kept = first_kept c.args.store.now c.push_bytes.new.store c.args.self.now.numbers c.self.inside.input.numbers c.self.inside.body.numbers c.self.inside.output.numbers c.push_bytes.new.self.numbers
      (ap (λ (x : Connected). x.numbers) c.self.view_is) c.push_bytes.ensures.kept;
}

pub invariant_of-self-2 : goal.invariant_of-self-2
invariant_of-self-2 c =
    let scan = c.in-Awaiting.scan in
    let is : c.self.inside.progress ≡ progress.Awaiting scan = cc c.in-Awaiting.is in
    record {
      memory = got_memory c.self.inside.input c.push_bytes.new.self c.args.bytes.now c.in_ok-push_bytes.ensures.ok c.self.invariant.memory;
      within = got_within c.self.inside.input c.push_bytes.new.self c.args.bytes.now c.in_ok-push_bytes.ensures.ok
          (room_within c.args.self.now.held c.self.inside.input _ (ap (λ (x : Connected). x.held.input) c.self.view_is) c.self.invariant.memory c.self.invariant.within c.requires.room);
      seen = got_seen c.self.inside.input c.push_bytes.new.self c.args.bytes.now scan c.see.result c.in_ok-push_bytes.ensures.ok c.self.invariant.memory
          (subst (λ (p : Progress). IsSeen p c.self.inside.input) is c.self.invariant.seen) c.see.ensures.scan;
      staged = c.self.invariant.staged;
      rests = subst (λ (p : Progress). IsAt c.self.inside.number p c.self.inside.output c.self.inside.file) is c.self.invariant.rests;
      content = c.self.invariant.content;
      few = c.self.invariant.few;
      empty = subst (λ (p : Progress). IsContentAt p c.self.inside.body) is c.self.invariant.empty;
    }

pub returns-clause-ok : goal.returns-clause-ok
returns-clause-ok c =
    let is : c.self.inside.progress ≡ progress.Awaiting c.in-Awaiting.scan = cc c.in-Awaiting.is in
    ap (λ (p : Progress). record (connected_of c.self.inside).held { stage = stage_by c.self.inside.number p (memory_front (items_of c.self.inside.body)); input = memory_front (items_of c.push_bytes.new.self) }) (sym is)
    ∙ got_held (connected_of c.self.inside).held c.args.self.now.held c.self.inside.input c.push_bytes.new.self c.args.bytes.now c.in_ok-push_bytes.ensures.ok c.self.invariant.memory refl (ap (λ (x : Connected). x.held) c.self.view_is)

pub returns-clause-kept : goal.returns-clause-kept
returns-clause-kept c =
    first_kept c.args.store.now c.push_bytes.new.store c.args.self.now.numbers c.self.inside.input.numbers c.self.inside.body.numbers c.self.inside.output.numbers c.push_bytes.new.self.numbers
    (ap (λ (x : Connected). x.numbers) c.self.view_is) c.push_bytes.ensures.kept
