-- What the writes to a sink in memory tell, and that none fails where none is planned to and room is left.
use Rattle.std.proofs.Common.{◌≡◌, ℕ, ◌<◌, List, [], ◌++◌, length, take, Option, None, true, inl, inr, Result, Ok, Err, refl, sym, ◌∙◌, ap, subst, arith, length-append, append_assoc}
use Rattle.std.proofs.lemmas.List.{append-nil}
use Rattle.lt_world.specs.declared.fault.Fault.{Fault}
use Rattle.lt_world.specs.SinkRuns.{Poured, due_at, after_write, WritePlanned, Pours, same, writes}

pub leads_write : (a b : Poured) (answer : Result ℕ Fault) (piece : List ℕ) → b ≡ after_write answer piece a → WritePlanned answer (length piece) a → Pours a b
leads_write a b answer piece is planned = let P : Poured → Type 0 = λ s. Pours a s in subst P (sym is) (writes same answer piece planned)

-- what stays: the room, the plan and the bytes so far
pub record IsSteady (a b : Poured) : Type 0 where
  pub room : b.room ≡ a.room
  pub fails : b.fails ≡ a.fails
  pub bytes : (more : List ℕ) × (b.bytes ≡ a.bytes ++ more)

write_steady : (a b : Poured) (answer : Result ℕ Fault) (piece : List ℕ) → IsSteady a b → IsSteady a (after_write answer piece b)
write_steady a b (Ok n) piece st = record { room = st.room; fails = st.fails; bytes = (st.bytes.0 ++ take n piece, ap (λ l. l ++ take n piece) st.bytes.1 ∙ append_assoc a.bytes st.bytes.0 (take n piece)) }
write_steady a b (Err fault) piece st = record { room = st.room; fails = st.fails; bytes = (st.bytes.0, st.bytes.1) }

pub steady : (a b : Poured) → Pours a b → IsSteady a b
steady a b same = record { room = refl; fails = refl; bytes = ([], sym (append-nil a.bytes)) }
steady a b (writes ab answer piece planned) = write_steady a _ answer piece (steady a _ ab)

undue : (f : Option ℕ) (made : ℕ) → f ≡ None → due_at f made ≡ true → ⊥
undue f made empty due = absurd (cc (ap (λ o. due_at o made) empty, due))

unplanned : (s : Poured) (fault : Fault) (piece : List ℕ) → s.fails ≡ None → length s.bytes < s.room → WritePlanned (Err fault) (length piece) s → ⊥
unplanned s fault piece empty small (inl due) = undue s.fails s.made empty due
unplanned s fault piece empty small (inr full) = omega (arith, full.1, small)

calm_write : (b : Poured) (answer : Result ℕ Fault) (piece : List ℕ) → WritePlanned answer (length piece) b → b.fails ≡ None → length (after_write answer piece b).bytes < (after_write answer piece b).room
    → (length b.bytes < b.room) × ((after_write answer piece b).faults ≡ b.faults)
calm_write b (Ok n) piece planned un small = (omega (arith, length-append b.bytes (take n piece)), refl)
calm_write b (Err fault) piece planned un small = absurd (unplanned b fault piece un small planned)

-- with no plan, and with room left, no write has failed
pub calm : (a b : Poured) → Pours a b → a.fails ≡ None → length b.bytes < b.room → b.faults ≡ a.faults
calm a b same un small = refl
calm a b (writes ab answer piece planned) un small =
    let now = calm_write _ answer piece planned ((steady a _ ab).fails ∙ un) small in now.1 ∙ calm a _ ab un now.0
