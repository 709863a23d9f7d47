use Rattle.std.proofs.Common.{◌≡◌, ℕ, Option, None, vec_len, ap, ◌∙◌, arith}
use Rattle.std.specs.Prelude.{replicate}
use Rattle.mio_net.proofs.cells.cells.Goals as goal

pub returns-clause-cells : goal.returns-clause-cells
returns-clause-cells g c =
    let full : vec_len c.loop-cells.cells ≡ 4096 = omega (arith, c.len.ensures, c.loop-cells-test.false, c.loop-cells.invariant.most) in
    c.loop-cells.invariant.none ∙ ap (λ (n : ℕ). replicate {A = Option g.row.T.Denot} n None) full
