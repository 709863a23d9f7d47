-- What the machine's reply says of the text.
use Rattle.std.proofs.Common.{◌≡◌, ℕ, List, [], Bool, true, false, Result, Ok, Err, refl, ◌∙◌, sym, ap, subst, append-nil}
use Rattle.std.specs.Prelude.{IfOk, IfErr}
use Rattle.std.specs.Str.{IsUtf8, is_utf8}
use Rattle.std.proofs.lemmas.Str.{is_utf8-from_IsUtf8, IsUtf8-from_is_utf8, utf8_valid_len-IsValidUpTo}
use Rattle.conf_lex.specs.declared.token.Token.{Token}
use Rattle.conf_lex.specs.declared.held.Held.TheVariants.{Nothing}
use Rattle.conf_lex.specs.declared.error.LexError.{LexError}
use Rattle.conf_lex.specs.declared.error.LexError.TheVariants as e
use Rattle.conf_lex.specs.Machine.{run, Reply}
use Rattle.conf_lex.specs.Tokens.{Reading, Reads}
use Rattle.conf_lex.specs.Answers.{Gives, IsAnswer, IsRead, Refused, given, lexed}
use Rattle.conf_lex.proofs.Complete.{reads_run}
use Rattle.conf_lex.proofs.Sound.{run_reads}

module _ (bs : List ℕ) where
  reading_of : (y : Reply) → run bs 1 Nothing ≡ y → Reading 1 bs y
  reading_of y e = subst (Reading 1 bs) e (run_reads bs 1)

  whole : (ts : List Token) (m : ℕ) → Reads 1 bs ts m [] → run bs 1 Nothing ≡ Ok ts
  whole ts m h = reads_run h ∙ ap (λ (y : List Token). Ok y) (append-nil ts)

  pub tokens_of : (r : Result (List Token) LexError) → IsUtf8 bs → Gives r (run bs 1 Nothing) → IfOk r (λ ts. IsUtf8 bs × Reading 1 bs (Ok ts))
  tokens_of (Ok ts) u h = (u, reading_of (Ok ts) h)
  tokens_of (Err x) u h = tt

  pub only_of : (r : Result (List Token) LexError) → Gives r (run bs 1 Nothing) → (ts : List Token) (m : ℕ) → Reads 1 bs ts m [] → IsRead ts r
  only_of (Ok found) h ts m q = let a = whole ts m q in cc
  only_of (Err (e.NotUtf8 line)) h ts m q = absurd h
  only_of (Err (e.Grammar line)) h ts m q = let a = whole ts m q in absurd cc
  only_of (Err e.NoMemory) h ts m q = refl

  pub refused_of : (r : Result (List Token) LexError) → IsUtf8 bs → Gives r (run bs 1 Nothing) → IfErr r (λ x. Refused bs x)
  refused_of (Ok found) u h = tt
  refused_of (Err (e.NotUtf8 line)) u h = absurd h
  refused_of (Err (e.Grammar line)) u h = (u, reading_of (Err line) h)
  refused_of (Err e.NoMemory) u h = tt

  pub computed_of : (r : Result (List Token) LexError) → IsUtf8 bs → Gives r (run bs 1 Nothing) → IsAnswer r (lexed bs)
  computed_of (Ok found) u h = rw (is_utf8-from_IsUtf8 bs u) (ap given h)
  computed_of (Err (e.NotUtf8 line)) u h = absurd h
  computed_of (Err (e.Grammar line)) u h = rw (is_utf8-from_IsUtf8 bs u) (ap given h)
  computed_of (Err e.NoMemory) u h = tt

  no_text : (y : Bool) → is_utf8 bs ≡ y → ¬ (IsUtf8 bs) → is_utf8 bs ≡ false
  no_text true h n = absurd (n (IsUtf8-from_is_utf8 bs h))
  no_text false h n = h

  -- and where the bytes are no text
  pub computed_not : (line : ℕ) → Refused bs (e.NotUtf8 line) → lexed bs ≡ Err (e.NotUtf8 line)
  computed_not line h = rw (no_text (is_utf8 bs) refl h.0, utf8_valid_len-IsValidUpTo bs h.1.0 h.1.1) (ap (λ (l : ℕ). Err (e.NotUtf8 l)) (sym h.1.2))
