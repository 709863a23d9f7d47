use Rattle.std.proofs.Common.{◌≡◌, ℕ, List, subst}
use Rattle.lt_commands.specs.Printing.{SpellsTree}
use Rattle.lt_commands.proofs.printing.read_tree.Goals as goal

pub returns-in-Text-clause-only : goal.returns-in-Text-clause-only
returns-in-Text-clause-only g c told tree held =
    let right = c.in-Text.ensures.right told in
    let found = right.0 in
    let given = held.1 in
    let name = c.as_bytes.ensures.value in
    let bytes = c.bytes.ensures.value in
    let same : held.0 ≡ c.bytes.result.now = cc in
    c.tree_of.ensures.only tree (subst (λ (t : List ℕ). SpellsTree t tree) same held.3)
