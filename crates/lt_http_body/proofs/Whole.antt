-- Bytes behind which a body is whole are spelled by the grammar.
use Rattle.std.proofs.Common.{◌≡◌, suc, ℕ, ◌+◌, Bool, true, false, cond, List, [], ◌∷◌, drop, Option, refl, ap, sym, ◌∙◌, subst, arith}
use Rattle.lt_http_body.specs.declared.state.State.{State}
use Rattle.lt_http_body.specs.declared.state.State.TheVariants as state
use Rattle.lt_http_body.specs.declared.standing.Standing.{Standing}
use Rattle.lt_http_body.specs.Standings.{at, step, is_over}
use Rattle.lt_http_body.specs.Sound.{IsSoundState}
use Rattle.lt_http_body.specs.Reading.{standing_after, data_in, taken_in}
use Rattle.lt_http_body.proofs.ReadingLemmas.{rests}
use Rattle.lt_http_body.proofs.Stepping.{sound_step}
use Rattle.lt_http_body.proofs.Spelled.{From, Next, back, size_next}

pub over_cases : (s : State) (P : Type 0) → (is_over s ≡ true → P) → (is_over s ≡ false → P) → P
over_cases s P one two = by (is_over s) refl
  where
    by : (t : Bool) → is_over s ≡ t → P
    by true e = one e
    by false e = two e

whole_here : (room : Option ℕ) (s : State) (bytes : List ℕ) → s ≡ state.Whole → From room s bytes [] bytes
whole_here room s bytes is = subst (λ (x : State). From room x bytes [] bytes) (sym is) (refl, refl)

-- a body that is over: here it is whole
over_whole : (room : Option ℕ) (s : State) (bytes : List ℕ) → is_over s ≡ true → (standing_after (at room s) bytes).state ≡ state.Whole
    → From room s bytes (data_in (at room s) bytes) (drop (taken_in (at room s) bytes) bytes)
over_whole room s bytes over whole =
    let r = rests room s bytes over in
    let is : s ≡ state.Whole = ap (λ (x : Standing). x.state) (sym r.0) ∙ whole in
    subst (λ (l : List ℕ). From room s bytes l (drop (taken_in (at room s) bytes) bytes)) (sym r.1)
    (subst (λ (n : ℕ). From room s bytes [] (drop n bytes)) (sym r.2) (whole_here room s bytes is))

pub whole_from : (room : Option ℕ) (s : State) (bytes : List ℕ) → IsSoundState s → (standing_after (at room s) bytes).state ≡ state.Whole
    → From room s bytes (data_in (at room s) bytes) (drop (taken_in (at room s) bytes) bytes)
unfolding standing_after data_in taken_in
whole_from room s [] sound whole = whole_here room s [] whole
whole_from room s (b ∷ bytes) sound whole =
    over_cases s _ (λ over. over_whole room s (b ∷ bytes) over whole) (λ on.
    let t : Standing = step (at room s) b in
    let count : taken_in (at room s) (b ∷ bytes) ≡ suc (taken_in t bytes) = ap (λ (x : Bool). cond x 0 1 + taken_in t bytes) on ∙ omega arith in
    subst (λ (n : ℕ). From room s (b ∷ bytes) (data_in (at room s) (b ∷ bytes)) (drop n (b ∷ bytes))) (sym count)
    (back room s b bytes (data_in t bytes) (drop (taken_in t bytes) bytes) sound on (whole_from t.room t.state bytes (sound_step room s b sound) whole)))

pub whole_next : (room : Option ℕ) (bytes : List ℕ) → (standing_after (at room (state.Size 0 0)) bytes).state ≡ state.Whole
    → Next room bytes (data_in (at room (state.Size 0 0)) bytes) (drop (taken_in (at room (state.Size 0 0)) bytes) bytes)
whole_next room bytes whole =
    size_next room bytes (data_in (at room (state.Size 0 0)) bytes) (drop (taken_in (at room (state.Size 0 0)) bytes) bytes) (whole_from room (state.Size 0 0) bytes no_digits whole)
  where
    no_digits : IsSoundState (state.Size 0 0)
    no_digits = (omega arith, omega arith)
