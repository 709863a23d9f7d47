-- The table of opened files after each change of the numbered files.
use Rattle.std.proofs.Common.{true, false, ◌≡◌, ℕ, ◌-◌, ◌<◌, ◌≤◌, List, [], ◌∷◌, ◌++◌, length, get_or, set, Option, Some, None, if◌then◌else◌, nat_lt, refl, sym, ◌∙◌, ap, arith}
use Rattle.std.proofs.lemmas.Bool.Decides.{nat_tests}
use Rattle.std.specs.declared.rc.Rc.{Rc}
use Rattle.lt_world.specs.Disk.{with_file, without_file}
use Rattle.lt_world.specs.Memory.{table_by}
use Rattle.lt_world.specs.Slots.{closes_slot}
use Rattle.lt_world.specs.SlotView.{slot_bytes, slots_by}

table_past : (slots : List (Option (List ℕ))) (file : ℕ) → length slots ≤ file → table_by slots file ≡ None
table_past [] file past = refl
table_past (slot ∷ slots) file past = grind (arith, nat_tests, table_past slots (file - 1))

-- the next number is free
pub table_fresh : (slots : List (Option (List ℕ))) → table_by slots (length slots) ≡ None
table_fresh slots = table_past slots (length slots) (omega arith)

push_at : (slots : List (Option (List ℕ))) (bytes : List ℕ) (file : ℕ) → table_by (slots ++ Some bytes ∷ []) file ≡ with_file (length slots) bytes (table_by slots) file
push_at [] bytes file = grind (arith, nat_tests)
push_at (slot ∷ slots) bytes file = grind (arith, nat_tests, push_at slots bytes (file - 1))

pub table-push : (slots : List (Option (List ℕ))) (bytes : List ℕ) → table_by (slots ++ Some bytes ∷ []) ≡ with_file (length slots) bytes (table_by slots)
table-push slots bytes = λ i file. push_at slots bytes file i

set_at : (slots : List (Option (List ℕ))) (n file : ℕ) → table_by (set slots n None) file ≡ without_file n (table_by slots) file
set_at [] n file = grind (arith, nat_tests)
set_at (slot ∷ slots) n file = grind (arith, nat_tests, set_at slots (n - 1) (file - 1))

past_at : (slots : List (Option (List ℕ))) (n file : ℕ) → length slots ≤ n → table_by slots file ≡ without_file n (table_by slots) file
past_at slots n file past = grind (arith, nat_tests, table_past slots n)

closes_at : (slots : List (Option (List ℕ))) (n file : ℕ) → table_by (closes_slot n slots) file ≡ without_file n (table_by slots) file
closes_at slots n file = grind (arith, nat_tests, set_at slots n file, past_at slots n file)

pub table-closes : (slots : List (Option (List ℕ))) (n : ℕ) → table_by (closes_slot n slots) ≡ without_file n (table_by slots)
table-closes slots n = λ i file. closes_at slots n file i

-- opened, and closed again
pub reopened : (slots next last : List (Option (List ℕ))) (bytes : List ℕ) → next ≡ slots ++ Some bytes ∷ [] → last ≡ closes_slot (length slots) next → table_by last ≡ table_by slots
reopened slots next last bytes pushed closed =
    ap table_by closed ∙ table-closes next (length slots) ∙ ap (λ l. without_file (length slots) (table_by l)) pushed ∙ ap (without_file (length slots)) (table-push slots bytes) ∙ (λ i file. undone slots bytes file i)
  where
    undone : (slots : List (Option (List ℕ))) (bytes : List ℕ) (file : ℕ) → without_file (length slots) (with_file (length slots) bytes (table_by slots)) file ≡ table_by slots file
    undone slots bytes file = grind (arith, nat_tests, table_fresh slots)

module _ {Z : Type 0} where
  pub length-slots : (slots : List (Option (Rc (List ℕ) Z))) → length (slots_by slots) ≡ length slots
  length-slots [] = refl
  length-slots (slot ∷ slots) = omega (arith, length-slots slots)

  pub table_below : (slots : List (Option (Rc (List ℕ) Z))) (n : ℕ) (x : List ℕ) → table_by (slots_by slots) n ≡ Some x → n < length slots
  table_below [] n x is = absurd (cc (is))
  table_below (first ∷ slots) n x is = grind (arith, nat_tests, table_below slots (n - 1) x)

  pub table_slot : (slots : List (Option (Rc (List ℕ) Z))) (n : ℕ) (slot : Option (Rc (List ℕ) Z)) → n < length slots → slot ≡ get_or slots n slot → table_by (slots_by slots) n ≡ slot_bytes slot
  table_slot [] n slot below is = absurd (omega (arith, below))
  table_slot (first ∷ slots) n slot below is = grind (arith, nat_tests, table_slot slots (n - 1) slot)

  pub slots-push : (slots : List (Option (Rc (List ℕ) Z))) (slot : Option (Rc (List ℕ) Z)) → slots_by (slots ++ slot ∷ []) ≡ slots_by slots ++ slot_bytes slot ∷ []
  slots-push [] slot = refl
  slots-push (first ∷ slots) slot = ap (λ l. slot_bytes first ∷ l) (slots-push slots slot)

  slots-set : (slots : List (Option (Rc (List ℕ) Z))) (n : ℕ) (slot : Option (Rc (List ℕ) Z)) → slots_by (set slots n slot) ≡ set (slots_by slots) n (slot_bytes slot)
  slots-set [] n slot = grind (arith, nat_tests)
  slots-set (first ∷ slots) n slot = grind (arith, nat_tests, slots-set slots (n - 1) slot)

  pub closes_below : (slots : List (Option (Rc (List ℕ) Z))) (n : ℕ) (slot : Option (Rc (List ℕ) Z)) → n < length slots → slot_bytes slot ≡ None → slots_by (set slots n slot) ≡ closes_slot n (slots_by slots)
  closes_below slots n slot below none =
      let here : nat_lt n (length (slots_by slots)) ≡ true = grind (arith, nat_tests, length-slots slots, below) in
      slots-set slots n slot ∙ ap (λ b. set (slots_by slots) n b) none ∙ sym (ap (λ b. if b then set (slots_by slots) n None else slots_by slots) here)

  pub closes_past : (slots : List (Option (Rc (List ℕ) Z))) (n : ℕ) → length slots ≤ n → slots_by slots ≡ closes_slot n (slots_by slots)
  closes_past slots n past =
      let here : nat_lt n (length (slots_by slots)) ≡ false = grind (arith, nat_tests, length-slots slots, past) in
      sym (ap (λ b. if b then set (slots_by slots) n None else slots_by slots) here)

pub same_some : (o : Option (List ℕ)) (x y : List ℕ) → o ≡ Some x → o ≡ Some y → x ≡ y
same_some o x y a b = cc (a, b)
