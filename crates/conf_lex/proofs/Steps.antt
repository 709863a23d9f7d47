-- The steps of the code and those of the machine.
use Rattle.std.proofs.Common.{◌≡◌, List, [], ◌∷◌, ◌++◌, Result, Ok, Err, refl, ◌∙◌, ap}
use Rattle.conf_lex.specs.declared.token.Token.{Token}
use Rattle.conf_lex.specs.declared.held.Held.{Held}
use Rattle.conf_lex.specs.declared.error.LexError.{LexError}
use Rattle.conf_lex.specs.declared.error.LexError.TheVariants as e
use Rattle.conf_lex.specs.Machine.{Step, ended}
use Rattle.conf_lex.specs.Answers.{Steps}

-- a token that is pushed, and a step that adds none, are the step that ended the token
pub ended_steps : (s : Step) (t : Token) (old new : List Token) (r : Result Held LexError) → new ≡ old ++ t ∷ [] → ((tokens : List Token) → Steps s tokens r tokens) → Steps (ended t s) old r new
ended_steps s t old new (Ok held) pushed h = let q = h [] in (t ∷ q.0, rw q.1 refl, pushed ∙ ap (λ (y : List Token). old ++ t ∷ y) q.2)
ended_steps s t old new (Err (e.NotUtf8 line)) pushed h = h []
ended_steps s t old new (Err (e.Grammar line)) pushed h = rw (h []) refl
ended_steps s t old new (Err e.NoMemory) pushed h = tt
