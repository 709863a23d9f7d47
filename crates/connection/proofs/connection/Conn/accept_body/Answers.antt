use Rattle.std.proofs.Common.{◌≡◌, map, ap, sym, subst, ◌∙◌}
use Rattle.chunkqueue.specs.Items.{Byte}
use Rattle.lt_http_body.specs.Standings.{begin}
use Rattle.connection.specs.Connection.{Connected}
use Rattle.connection.specs.Inside.{IsAt, IsContentAt, IsSeen}
use Rattle.connection.specs.Progress.{progress_accepted}
use Rattle.connection.specs.declared.progress.Progress.{Progress}
use Rattle.connection.specs.declared.progress.Progress.TheVariants as progress
use Rattle.connection.proofs.Buffers.{third_kept}
use Rattle.connection.proofs.Replying.{accept_rests, staged_fits}
use Rattle.connection.proofs.connection.Conn.accept_body.Goals as goal

pub invariant_of-self-2 : goal.invariant_of-self-2
invariant_of-self-2 c =
    let head = c.in-Heading.request in
    let is : c.self.inside.progress ≡ progress.Heading head = cc c.in-Heading.is in
    let was : c.replace.result ≡ progress.Heading head = cc (c.replace.ensures.value, is) in
    let now : c.accepted.result ≡ progress.Taking head (begin head.framing c.args.limit) = c.accepted.ensures ∙ ap (λ (p : Progress). progress_accepted p c.args.limit) was in
    record {
      memory = c.self.invariant.memory;
      within = c.self.invariant.within;
      seen = subst (λ (p : Progress). IsSeen p c.self.inside.input) (sym now) tt;
      staged = staged_fits c.self.inside.output c.push_bytes.new.self (map Byte c.continue_bytes-told.result.now) c.push_bytes.ensures.staged c.in_ok-push_bytes.ensures.ok c.self.invariant.staged;
      rests = subst (λ (p : Progress). IsAt c.self.inside.number p c.push_bytes.new.self c.self.inside.file) (sym now)
          (accept_rests c.self.inside.number c.self.inside.progress head c.args.limit (begin head.framing c.args.limit) c.self.inside.output c.push_bytes.new.self c.self.inside.file c.continue_bytes-told.result.now is
          c.self.invariant.rests c.in_ok-push_bytes.ensures.ok c.continue_bytes-told.ensures.bytes);
      content = c.self.invariant.content;
      few = c.self.invariant.few;
      empty = subst (λ (p : Progress). IsContentAt p c.self.inside.body) (sym now) tt;
    }

pub returns-clause-kept : goal.returns-clause-kept
returns-clause-kept c =
    third_kept c.args.store.now c.push_bytes.new.store c.args.self.now.numbers c.self.inside.input.numbers c.self.inside.body.numbers c.self.inside.output.numbers c.push_bytes.new.self.numbers
    (ap (λ (x : Connected). x.numbers) c.self.view_is) c.push_bytes.ensures.kept
