-- The state of an attempt is its result.
use Rattle.std.proofs.Common.{◌≡◌, ℕ, Bool, true, false, cond, ◌||◌, ◌++◌, List, [], ◌∷◌, refl, ap, ap₂, sym, ◌∙◌, subst}
use Rattle.cgi_text.specs.declared.state.GateState.{GateState}
use Rattle.cgi_text.specs.declared.state.GateState.TheVariants as state
use Rattle.cgi_text.specs.Attempts.{Exchange, Heard, Partly, Fully, Breaks, Exceeds, silence, over_with, result_by, result_of, state_of, left_by}
use Rattle.fcgi_gateway.specs.Heard.{heard}
use Rattle.fcgi_gateway.specs.Task.{Task, IsAt, is_some_byte, over_by, state_by}

over_is : (output : List ℕ) → over_by (is_some_byte output) ≡ state_of (over_with output)
over_is [] = refl
over_is (b ∷ output) = refl

state_is : (h : Heard) (over : Bool) (output : List ℕ) → state_by h over (is_some_byte output) ≡ state_of (result_by h over output)
state_is Exceeds over output = refl
state_is (Fully head body) over output = refl
state_is Breaks over output = over_is output
state_is Partly true output = over_is output
state_is Partly false output = refl

pub at_state : (asks : List ℕ) (e : Exchange) (t : Task) → IsAt asks e t → state_by t.heard t.over t.begun ≡ state_of (result_of heard e)
at_state asks e t is =
    ap (λ (h : Heard). state_by h t.over t.begun) is.heard
    ∙ ap (λ (o : Bool). state_by (heard e.input e.ended) o t.begun) is.over
    ∙ ap (λ (b : Bool). state_by (heard e.input e.ended) (e.ended || e.failed) b) is.begun
    ∙ state_is (heard e.input e.ended) (e.ended || e.failed) e.output

-- only an attempt of which no byte was taken may be made again
none_taken : (h : Heard) (over : Bool) (output : List ℕ) → state_of (result_by h over output) ≡ state.Retry → output ≡ []
none_taken h over [] e = refl
none_taken Exceeds over (b ∷ output) e = cc
none_taken (Fully head body) over (b ∷ output) e = cc
none_taken Breaks over (b ∷ output) e = cc
none_taken Partly true (b ∷ output) e = cc
none_taken Partly false (b ∷ output) e = cc

pub at_retry : (asks : List ℕ) (e : Exchange) (t : Task) → IsAt asks e t → state_by t.heard t.over t.begun ≡ state.Retry → e.output ≡ []
at_retry asks e t is retry = none_taken (heard e.input e.ended) (e.ended || e.failed) e.output (sym (at_state asks e t is) ∙ retry)
