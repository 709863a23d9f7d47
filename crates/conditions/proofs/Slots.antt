-- A match writes to the slots of its pattern's groups alone.
use Rattle.std.proofs.Common.{◌≡◌, ℕ, zero, suc, ◌+◌, ◌*◌, ◌-◌, ◌<◌, ◌≤◌, Bool, true, false, cond, nat_lt, List, length, Option, Some, None, option_and_then, All, sym, refl, subst, arith, max}
use Rattle.std.specs.Option.{option_or}
use Rattle.std.specs.Prelude.{slice_get}
use Rattle.std.specs.Char.{len_utf8}
use Rattle.std.proofs.lemmas.List.Elements.{All-nil, All-cons}
use Rattle.std.proofs.lemmas.Option.{none-some, same_Some}
use Rattle.regex_class.specs.Ranges.{in_ranges}
use Rattle.regex_hir.specs.Looks.{holds}
use Rattle.regex_hir.specs.Text.{has_bytes_at, is_some_and, char_at}
use Rattle.regex_hir.specs.Re.{Trace, Rest, write, prefer, rounds, Re, attempt, accept, group, plus, empty, literal, byte_in, char_in, look, cat, alt}
use Rattle.regex_syntax.specs.Grammar.{group_count}

module _ (limit : ℕ) where
  -- all slots that are written are below the limit
  abbrev pub Within : Option Trace → Type 0
  Within r = (t : Trace) → r ≡ Some t → All (λ (w : ℕ × ℕ). w.0 < limit) t.writes

  nothing : Within None
  nothing t e = absurd (none-some t e)

  either : (a c : Option Trace) → Within a → Within c → Within (option_or a c)
  either None c p q = q
  either (Some t) c p q = p

  written : (slot i : ℕ) (a : Option Trace) → slot < limit → Within a → Within (write slot i a)
  written slot i None low p = nothing
  written slot i (Some t) low p = λ u e.
      subst (λ (v : Trace). All (λ (w : ℕ × ℕ). w.0 < limit) v.writes) (same_Some _ u e)
      (All-cons (λ (w : ℕ × ℕ). w.0 < limit) (slot, i) t.writes low (p t refl))

  chosen : (b : Bool) (x y : Option Trace) → Within x → Within y → Within (cond b x y)
  chosen true x y p q = p
  chosen false x y p q = q

  led_on : (f : ℕ → Option Trace) (o : Option ℕ) → ((c : ℕ) → Within (f c)) → Within (option_and_then f o)
  led_on f None h = nothing
  led_on f (Some c) h = h c

  preferred : (greedy : Bool) (a c : Option Trace) → Within a → Within c → Within (prefer greedy a c)
  preferred greedy a c p q = chosen greedy _ _ (either a c p q) (either c a q p)

  -- what follows within the limit is led to within the limit
  abbrev Leads : (Rest → Rest) → Type 0
  Leads f = (k : Rest) → ((j : ℕ) → Within (k j)) → (i : ℕ) → Within (f k i)

  rounds_lead : (greedy : Bool) (f : Rest → Rest) → Leads f → (k : Rest) → ((j : ℕ) → Within (k j)) → (n i : ℕ) → Within (rounds greedy f k n i)
  unfolding rounds
  rounds_lead greedy f body k h zero i = h i
  rounds_lead greedy f body k h (suc n) i =
      preferred greedy _ _ (body _ (λ j. chosen (nat_lt i j) _ None (rounds_lead greedy f body k h n j) nothing) i) (h i)

  module _ (hay : List ℕ) where
    group_leads : (n : ℕ) (a : Re) → 2 * n + 1 < limit → Leads (attempt hay a) → Leads (attempt hay (group n a))
    unfolding attempt
    group_leads n a low p k h i =
        written (2 * n) i _ (omega arith) (p _ (λ j. written (2 * n + 1) j _ low (h j)) i)

    plus_leads : (greedy : Bool) (a : Re) → Leads (attempt hay a) → Leads (attempt hay (plus greedy a))
    unfolding attempt
    plus_leads greedy a p k h i =
        p _ (λ j. chosen (nat_lt i j) _ _ (rounds_lead greedy _ p k h (length hay - j) j) (h j)) i

    pub attempt_leads : (a : Re) → 2 * group_count a ≤ limit → Leads (attempt hay a)
    unfolding attempt
    attempt_leads empty low k h i = h i
    attempt_leads (literal bs) low k h i = chosen (has_bytes_at hay i bs) _ None (h _) nothing
    attempt_leads (byte_in rs) low k h i = chosen (is_some_and (slice_get hay i) (in_ranges rs)) _ None (h _) nothing
    attempt_leads (char_in rs) low k h i =
        led_on _ (char_at hay i) (λ c. chosen (in_ranges rs c) _ None (h (i + len_utf8 c)) nothing)
    attempt_leads (look x) low k h i = chosen (holds x hay i) _ None (h i) nothing
    attempt_leads (cat a b) low k h i =
        attempt_leads a (omega arith) _ (attempt_leads b (omega arith) k h) i
    attempt_leads (alt a b) low k h i = either _ _ (attempt_leads a (omega arith) k h i) (attempt_leads b (omega arith) k h i)
    attempt_leads (group n a) low k h i = group_leads n a (omega arith) (attempt_leads a (omega arith)) k h i
    attempt_leads (plus greedy a) low k h i = plus_leads greedy a (attempt_leads a low) k h i

    pub accepted : (i : ℕ) → Within (accept i)
    accepted i t e =
        subst (λ (v : Trace). All (λ (w : ℕ × ℕ). w.0 < limit) v.writes) (same_Some _ t e) (All-nil (λ (w : ℕ × ℕ). w.0 < limit))
