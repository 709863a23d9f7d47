use Rattle.std.proofs.Common.{◌≡◌, ◌≤◌, ℕ, List, length, subst}
use Rattle.lt_script.specs.declared.limits.TheConstants.{SCRIPT_LIMIT}
use Rattle.lt_script.specs.Texts.{Spells, IsWantOfMemory}
use Rattle.lt_commands.proofs.reading.read_script.Goals as goal

pub returns-in-Ok-clause-only : goal.returns-in-Ok-clause-only
returns-in-Ok-clause-only g c told said held =
    let right = c.in-Text.ensures.right told in
    let found = right.0 in
    let given = held.1 in
    let name = c.as_bytes.ensures.value in
    let bytes = c.bytes.ensures.value in
    let same : held.0 ≡ c.bytes.result.now = cc in
    c.in-Ok.ensures.read said (subst (λ (t : List ℕ). length t ≤ SCRIPT_LIMIT) same held.2) (subst (λ (t : List ℕ). Spells t said) same held.3)

pub returns-in-Err-Line-clause-only : goal.returns-in-Err-Line-clause-only
returns-in-Err-Line-clause-only g c told said held =
    let right = c.in-Text.ensures.right told in
    let found = right.0 in
    let given = held.1 in
    let name = c.as_bytes.ensures.value in
    let bytes = c.bytes.ensures.value in
    let same : held.0 ≡ c.bytes.result.now = cc in
    subst IsWantOfMemory c.in-Err-Line.field-0-is (c.in-Err-Line.ensures.read said (subst (λ (t : List ℕ). length t ≤ SCRIPT_LIMIT) same held.2) (subst (λ (t : List ℕ). Spells t said) same held.3))
