use Rattle.std.proofs.Common.{◌≡◌, ℕ, List, take, ◌∙◌, arith}
use Rattle.chunkqueue.specs.Items.{memory_front, items_of, staged_of}
use Rattle.connection.proofs.Fronts.{first_part}
use Rattle.connection.proofs.Heads.{headed_by}
use Rattle.connection.proofs.looking.headed.Goals as goal

pub returns-then-n-front : goal.returns-then-n-front
returns-then-n-front c =
    let bytes : List ℕ = memory_front (items_of c.args.input.now) in
    let part : take c.args.n c.front_bytes-front.result.now ≡ take c.args.n bytes =
    first_part (items_of c.args.input.now) (staged_of c.args.input.now) c.front_bytes-front.result.now c.args.n c.front_bytes-front.ensures.leads c.requires.memory (omega (arith, c.if-n-front.true)) in
    record { found = headed_by bytes _ c.args.n c.judged.result part c.requires.within c.judged.ensures }

pub returns : goal.returns
returns c = record { found = headed_by (memory_front (items_of c.args.input.now)) _ c.args.n c.judged-2.result (c.bytes.ensures.value ∙ c.in_ok-head.ensures) c.requires.within c.judged-2.ensures }
