use Rattle.std.proofs.Common.{ℕ, List, length, drop, refl, ap, sym, subst, ◌∙◌, arith}
use Rattle.std.proofs.lemmas.List.{length-drop}
use Rattle.chunkqueue.specs.Items.{Item, items_of, memory_front}
use Rattle.connection.specs.Connection.{Connected}
use Rattle.connection.specs.Stages.{next_number}
use Rattle.connection.specs.Inside.{connected_of, stage_by, IsAt, IsContentAt, IsSeen}
use Rattle.connection.specs.declared.progress.Progress.{Progress}
use Rattle.http_head.specs.Scan.{IsScan}
use Rattle.server_model.specs.Held.{Stage}
use Rattle.connection.proofs.Buffers.{first_kept}
use Rattle.connection.proofs.Memory.{fills_less}
use Rattle.connection.proofs.Rests.{next_rests, next_empty, found_rests, found_empty, found_seen, taken_fits, skipped_memory, skipped_within, taken_up}
use Rattle.connection.proofs.connection.Conn.take_up.Goals as goal

pub skip-requires-clause-within : goal.skip-requires-clause-within
skip-requires-clause-within c = omega (arith, c.taken.ensures, taken_fits c.self.inside.input c.in_ok-found.found c.self.invariant.memory c.in_ok-found.ensures.looked)

pub invariant_of-self : goal.invariant_of-self
invariant_of-self c =
    let content : List ℕ = memory_front (items_of c.self.inside.body) in
    let follows = ap (λ (x : Connected). next_number x.held) c.self.view_is ∙ c.requires.next in
    let next = next_rests c.self.inside.number c.self.inside.progress content c.self.inside.output c.self.inside.file c.args.number follows c.self.invariant.rests in
    let none = next_empty c.self.inside.number c.self.inside.progress content c.self.inside.body (items_of c.self.inside.output) c.args.number follows c.self.invariant.empty in
    let seen : IsScan (memory_front (items_of c.self.inside.input)) c.scan-scan.result = subst (λ (x : Connected). IsScan x.held.input c.scan-scan.result) (sym c.self.view_is) c.scan-scan.ensures in
    record {
      seen = subst (λ (p : Progress). IsSeen p c.skip.new.input) (sym c.progress.ensures)
          (found_seen c.in_ok-found.found c.scan-scan.result c.self.inside.input c.skip.new.input (c.skip.ensures.items ∙ ap (λ (n : ℕ). drop n (items_of c.self.inside.input)) c.taken.ensures) seen);
      memory = skipped_memory c.self.inside.input c.skip.new.input c.taken.result c.skip.ensures.items c.self.invariant.memory;
      within = skipped_within c.self.inside.input c.skip.new.input c.taken.result c.skip.ensures.items c.self.invariant.within;
      staged = c.self.invariant.staged;
      rests = subst (λ (p : Progress). IsAt c.args.number p c.self.inside.output c.self.inside.file) (sym c.progress.ensures) (found_rests c.args.number c.in_ok-found.found c.scan-scan.result c.self.inside.output c.self.inside.file next);
      content = c.self.invariant.content;
      few = c.self.invariant.few;
      empty = subst (λ (p : Progress). IsContentAt p c.self.inside.body) (sym c.progress.ensures) (found_empty c.in_ok-found.found c.scan-scan.result c.self.inside.body none);
    }

pub returns-clause-ok : goal.returns-clause-ok
returns-clause-ok c =
    let content : List ℕ = memory_front (items_of c.self.inside.body) in
    ap (λ (s : Stage). record (connected_of c.self.inside).held { stage = s; input = memory_front (items_of c.skip.new.input) }) (ap (λ (p : Progress). stage_by c.args.number p content) c.progress.ensures)
    ∙ taken_up (connected_of c.self.inside).held c.args.self.now.held c.args.number c.in_ok-found.found c.scan-scan.result content c.self.inside.input c.skip.new.input (ap (λ (x : Connected). x.held) c.self.view_is) refl c.self.invariant.memory
    c.in_ok-found.ensures.looked (c.skip.ensures.items ∙ ap (λ (n : ℕ). drop n (items_of c.self.inside.input)) c.taken.ensures)

pub returns-clause-filled : goal.returns-clause-filled
returns-clause-filled c =
    fills_less c.args.store.now.filled c.skip.new.store.filled c.args.self.now.held.input c.self.inside.input c.skip.new.input (ap (λ (x : Connected). x.held.input) c.self.view_is) c.self.invariant.memory
    (skipped_memory c.self.inside.input c.skip.new.input c.taken.result c.skip.ensures.items c.self.invariant.memory)
    (omega (arith, c.skip.ensures.filled, ap (λ (l : List Item). length l) c.skip.ensures.items, length-drop c.taken.result (items_of c.self.inside.input)))

pub returns-clause-kept : goal.returns-clause-kept
returns-clause-kept c =
    first_kept c.args.store.now c.skip.new.store c.args.self.now.numbers c.self.inside.input.numbers c.self.inside.body.numbers c.self.inside.output.numbers c.skip.new.input.numbers (ap (λ (x : Connected). x.numbers) c.self.view_is) c.skip.ensures.kept
