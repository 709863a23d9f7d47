use Rattle.std.proofs.Common.{◌≡◌, ℕ, drop, ap, ◌∙◌, arith}
use Rattle.chunkqueue.specs.Items.{staged_of, items_of}
use Rattle.proxy_message.proofs.ContentLemmas.{front_some}
use Rattle.proxy_message.proofs.content.drop_first.Goals as goal

pub returns-clause-items : goal.returns-clause-items
returns-clause-items c =
    let one : c.min-n.result ≡ 1 =
    omega (arith, c.min-n.ensures, front_some (items_of c.args.input.now) (staged_of c.args.input.now) c.front_bytes.result.now c.requires.memory c.requires.some c.front_bytes.ensures.leads) in
    c.advance.ensures.items ∙ ap (λ (n : ℕ). drop n (items_of c.args.input.now)) one
