use Rattle.std.proofs.Common.{ℕ, List, take, drop, length, arith, ◌∙◌, ap}
use Rattle.std.proofs.lemmas.List.{take_all}
use Rattle.std.proofs.Common.{length-drop}
use Rattle.lt_world.proofs.Slotted.{same_some}
use Rattle.lt_world.proofs.slots.Slots.read.Goals as goal

pub returns : goal.returns
returns c x is = c.copy_from_slice.ensures.after ∙ ap (λ (l : List ℕ). take (length c.args.buf.now) l) (take_all _ _ (omega (arith, length-drop c.args.start c.bytes-bytes.result.now))) ∙ ap (λ (l : List ℕ). take (length c.args.buf.now) (drop c.args.start l)) (same_some _ _ _ c.bytes-bytes.ensures is)
