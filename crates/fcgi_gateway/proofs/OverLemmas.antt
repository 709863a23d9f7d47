-- Attempts that are over, and that are made again.
use Rattle.std.proofs.Common.{◌≡◌, ℕ, Bool, true, false, ◌||◌, List, [], ◌∷◌, ◌++◌, refl, ap, sym, ◌∙◌}
use Rattle.cgi_text.specs.Attempts.{Exchange, Heard, Partly, silence, with_end, with_failure}
use Rattle.fcgi_records.specs.declared.state.State.{State}
use Rattle.fcgi_records.specs.declared.state.State.TheVariants.{Version}
use Rattle.fcgi_records.specs.Reading.{state_after, stdout_in}
use Rattle.fcgi_gateway.specs.Heard.{heard}
use Rattle.fcgi_gateway.specs.Task.{Task, IsAt, is_some_byte}

-- no byte comes to no answer yet
pub silent : Partly ≡ heard [] false
unfolding heard state_after stdout_in
silent = refl

pub none_read : (Version ≡ state_after Version []) × ([] ≡ stdout_in Version [])
unfolding state_after stdout_in
none_read = (refl, refl)

-- that a link has ended tells nothing of its bytes
heard_same : (bytes : List ℕ) (x y : Bool) → heard bytes x ≡ heard bytes y
unfolding heard
heard_same bytes x y = refl

or_true : (b : Bool) → true ≡ (b || true)
or_true true = refl
or_true false = refl

-- nothing was heard, and no byte was taken
pub forgotten : (asks : List ℕ) (e : Exchange) (t t' : Task) → IsAt asks e t → e.output ≡ [] → t'.unsent ≡ t.unsent → t'.begun ≡ t.begun → t'.over ≡ false → t'.stands ≡ Version → t'.stdout ≡ [] → t'.heard ≡ Partly
    → IsAt asks silence t'
forgotten asks e t t' is none unsent begun over stands stdout told = record {
  sends = unsent ∙ sym (ap (λ (l : List ℕ). l ++ t.unsent) none) ∙ is.sends;
  begun = begun ∙ is.begun ∙ ap is_some_byte none;
  over = over;
  stands = stands ∙ none_read.0;
  stdout = stdout ∙ none_read.1;
  heard = told ∙ silent;
}

-- a task of which only this has changed, that it is over
pub record IsOver (t t' : Task) : Type 0 where
  pub unsent : t'.unsent ≡ t.unsent
  pub begun : t'.begun ≡ t.begun
  pub over : t'.over ≡ true
  pub stands : t'.stands ≡ t.stands
  pub stdout : t'.stdout ≡ t.stdout
  pub heard : t'.heard ≡ t.heard

pub ended_at : (asks : List ℕ) (e : Exchange) (t t' : Task) → IsAt asks e t → IsOver t t' → IsAt asks (with_end e) t'
ended_at asks e t t' is now = record {
  sends = ap (λ (l : List ℕ). e.output ++ l) now.unsent ∙ is.sends;
  begun = now.begun ∙ is.begun;
  over = now.over;
  stands = now.stands ∙ is.stands;
  stdout = now.stdout ∙ is.stdout;
  heard = now.heard ∙ is.heard ∙ heard_same e.input e.ended true;
}

pub failed_at : (asks : List ℕ) (e : Exchange) (t t' : Task) → IsAt asks e t → IsOver t t' → IsAt asks (with_failure e) t'
failed_at asks e t t' is now = record {
  sends = ap (λ (l : List ℕ). e.output ++ l) now.unsent ∙ is.sends;
  begun = now.begun ∙ is.begun;
  over = now.over ∙ or_true e.ended;
  stands = now.stands ∙ is.stands;
  stdout = now.stdout ∙ is.stdout;
  heard = now.heard ∙ is.heard;
}
