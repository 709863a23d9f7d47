-- Quoted texts: what is in the grammar is read, and what is read is in the grammar.
use Rattle.std.proofs.Common.{◌≡◌, ℕ, ◌+◌, ◌*◌, ◌-◌, ◌%◌, ◌<◌, ◌≤◌, Bool, true, false, List, [], ◌∷◌, ◌++◌, refl, ap, sym, subst, ◌∙◌, arith, append_assoc, Option, Some, None, if◌then◌else◌, ◌==◌, nat_lt, nat_le}
use Rattle.std.specs.Char.{digit_char}
use Rattle.std.proofs.lemmas.Bool.Decides.{nat_tests}
use Rattle.lt_script.specs.declared.quoting.State.{State}
use Rattle.lt_script.specs.declared.quoting.State.TheVariants.{Plain, Escape, High, Low}
use Rattle.lt_script.specs.declared.quoting.Move.{Move}
use Rattle.lt_script.specs.declared.quoting.Move.TheVariants.{To, Byte, End, Bad}
use Rattle.lt_script.specs.Quoting.{hex_value, plain_move, escape_move, high_move, low_move, follow, unquote, with_front}
use Rattle.lt_script.specs.Grammar.{IsPiece, Plainly, Return, Feed, Quote, Backslash, Hex, IsQuoted, Empty, More}
use Rattle.lt_script.proofs.Numbers.{mapped}

-- hexadecimal digits

small_digit : (h : ℕ) → h < 10 → hex_value (48 + h) ≡ Some h
small_digit h small = grind (arith, nat_tests)

large_digit : (h : ℕ) → 10 ≤ h → h < 16 → hex_value (87 + h) ≡ Some h
large_digit h large small = grind (arith, nat_tests)

digit_by : (t : Bool) (h : ℕ) → nat_lt h 10 ≡ t → h < 16 → hex_value (if t then 48 + h else 87 + h) ≡ Some h
digit_by true h test small = small_digit h (grind (arith, nat_tests, test))
digit_by false h test small = large_digit h (grind (arith, nat_tests, test)) small

hex_again : (h : ℕ) → h < 16 → hex_value (digit_char h) ≡ Some h
hex_again h small = digit_by (nat_lt h 10) h refl small

char_small : (h : ℕ) → h < 10 → 48 + h ≡ digit_char h
char_small h small = grind (arith, nat_tests)

char_large : (h : ℕ) → 10 ≤ h → 87 + h ≡ digit_char h
char_large h large = grind (arith, nat_tests)

hex_by : (low nine low_a f : Bool) (b h : ℕ) → nat_lt b 48 ≡ low → nat_le b 57 ≡ nine → nat_lt b 97 ≡ low_a → nat_le b 102 ≡ f
    → (if low then None else (if nine then Some (b - 48) else (if low_a then None else (if f then Some (b - 87) else None)))) ≡ Some h → (b ≡ digit_char h) × (h < 16)
hex_by true nine low_a f b h l n a e some = absurd (cc some)
hex_by false true low_a f b h l n a e some =
    let same : b - 48 ≡ h = cc some in
    let above : 48 ≤ b = grind (arith, nat_tests, l) in
    let below : b ≤ 57 = grind (arith, nat_tests, n) in
    let is : b ≡ 48 + h = omega arith in
    (is ∙ char_small h (omega arith), omega arith)
hex_by false false true f b h l n a e some = absurd (cc some)
hex_by false false false true b h l n a e some =
    let same : b - 87 ≡ h = cc some in
    let above : 97 ≤ b = grind (arith, nat_tests, a) in
    let below : b ≤ 102 = grind (arith, nat_tests, e) in
    let is : b ≡ 87 + h = omega arith in
    (is ∙ char_large h (omega arith), omega arith)
hex_by false false false false b h l n a e some = absurd (cc some)

hex_takes : (b h : ℕ) → hex_value b ≡ Some h → (b ≡ digit_char h) × (h < 16)
hex_takes b h some = hex_by (nat_lt b 48) (nat_le b 57) (nat_lt b 97) (nat_le b 102) b h refl refl refl refl some

hex_piece : (b c high low : ℕ) → hex_value b ≡ Some high → hex_value c ≡ Some low → IsPiece (high % 16 * 16 + low) (92 ∷ 120 ∷ b ∷ c ∷ [])
hex_piece b c high low is_high is_low =
    let h = hex_takes b high is_high in
    let l = hex_takes c low is_low in
    let e : high * 16 + low ≡ high % 16 * 16 + low = omega (arith, h.1) in
    rw (h.0, l.0) (subst (λ (v : ℕ). IsPiece v (92 ∷ 120 ∷ digit_char high ∷ digit_char low ∷ [])) e (Hex high low h.1 l.1))

-- what is in the grammar is read

piece_again : (b : ℕ) (piece rest : List ℕ) → IsPiece b piece → unquote (piece ++ rest) Plain ≡ with_front (b ∷ []) (unquote rest Plain)
piece_again b piece rest (Plainly c low high quote slash) = grind (arith, nat_tests)
piece_again b piece rest Return = refl
piece_again b piece rest Feed = refl
piece_again b piece rest Quote = refl
piece_again b piece rest Backslash = refl
piece_again b piece rest (Hex high low is_high is_low) =
    let e : high % 16 * 16 + low ≡ high * 16 + low = omega arith in
    rw (hex_again high is_high, hex_again low is_low, e) refl

pub quoted_again : (text quoted rest : List ℕ) → IsQuoted text quoted → unquote (quoted ++ 34 ∷ rest) Plain ≡ Some (text, rest)
quoted_again text quoted rest Empty = refl
quoted_again text quoted rest (More b piece more bytes is_piece is_quoted) =
    rw (append_assoc piece bytes (34 ∷ rest), piece_again b piece (bytes ++ 34 ∷ rest) is_piece, quoted_again more bytes rest is_quoted) refl

-- what is read is in the grammar

data PlainTo (b : ℕ) : Move → Type 0 where
  Ends : b ≡ 34 → PlainTo b End
  Slashed : b ≡ 92 → PlainTo b (To Escape)
  Itself : 32 ≤ b → b ≤ 126 → (b ≡ 34 → ⊥) → (b ≡ 92 → ⊥) → PlainTo b (Byte b)
  Refused : PlainTo b Bad

plain_by : (quote slash low high : Bool) (b : ℕ) → (b == 34) ≡ quote → (b == 92) ≡ slash → nat_lt b 32 ≡ low → nat_lt 126 b ≡ high
    → PlainTo b (if quote then End else (if slash then To Escape else (if low then Bad else (if high then Bad else Byte b))))
plain_by true slash low high b q s l h = Ends (grind (arith, nat_tests))
plain_by false true low high b q s l h = Slashed (grind (arith, nat_tests))
plain_by false false true high b q s l h = Refused
plain_by false false false true b q s l h = Refused
plain_by false false false false b q s l h = Itself (grind (arith, nat_tests)) (grind (arith, nat_tests)) (grind (arith, nat_tests)) (grind (arith, nat_tests))

plain_to : (b : ℕ) → PlainTo b (plain_move b)
plain_to b = plain_by (b == 34) (b == 92) (nat_lt b 32) (nat_lt 126 b) b refl refl refl refl

-- what a byte after a backslash leads to
data EscapeTo (b : ℕ) : Move → Type 0 where
  Piece : (byte : ℕ) → IsPiece byte (92 ∷ b ∷ []) → EscapeTo b (Byte byte)
  Hexes : b ≡ 120 → EscapeTo b (To High)
  Unknown : EscapeTo b Bad

escape_by : (r n quote slash x : Bool) (b : ℕ) → (b == 114) ≡ r → (b == 110) ≡ n → (b == 34) ≡ quote → (b == 92) ≡ slash → (b == 120) ≡ x
    → EscapeTo b (if r then Byte 13 else (if n then Byte 10 else (if quote then Byte 34 else (if slash then Byte 92 else (if x then To High else Bad)))))
escape_by true n quote slash x b is_r is_n is_q is_s is_x =
    let e : 114 ≡ b = grind (arith, nat_tests) in Piece 13 (subst (λ (v : ℕ). IsPiece 13 (92 ∷ v ∷ [])) e Return)
escape_by false true quote slash x b is_r is_n is_q is_s is_x =
    let e : 110 ≡ b = grind (arith, nat_tests) in Piece 10 (subst (λ (v : ℕ). IsPiece 10 (92 ∷ v ∷ [])) e Feed)
escape_by false false true slash x b is_r is_n is_q is_s is_x =
    let e : 34 ≡ b = grind (arith, nat_tests) in Piece 34 (subst (λ (v : ℕ). IsPiece 34 (92 ∷ v ∷ [])) e Quote)
escape_by false false false true x b is_r is_n is_q is_s is_x =
    let e : 92 ≡ b = grind (arith, nat_tests) in Piece 92 (subst (λ (v : ℕ). IsPiece 92 (92 ∷ v ∷ [])) e Backslash)
escape_by false false false false true b is_r is_n is_q is_s is_x = Hexes (grind (arith, nat_tests))
escape_by false false false false false b is_r is_n is_q is_s is_x = Unknown

escape_to : (b : ℕ) → EscapeTo b (escape_move b)
escape_to b = escape_by (b == 114) (b == 110) (b == 34) (b == 92) (b == 120) b refl refl refl refl refl

-- a text that begins with a piece, and then goes on
record Goes (front : List ℕ) (bytes : List ℕ) (x : List ℕ × List ℕ) : Type 0 where
  byte : ℕ
  text : List ℕ
  piece : List ℕ
  quoted : List ℕ
  is_piece : IsPiece byte (front ++ piece)
  is_quoted : IsQuoted text quoted
  read : x.0 ≡ byte ∷ text
  rest : bytes ≡ piece ++ (quoted ++ 34 ∷ x.1)

record Whole (bytes : List ℕ) (x : List ℕ × List ℕ) : Type 0 where
  quoted : List ℕ
  is_quoted : IsQuoted x.0 quoted
  rest : bytes ≡ quoted ++ 34 ∷ x.1

record Lows (high : ℕ) (bytes : List ℕ) (x : List ℕ × List ℕ) : Type 0 where
  digit : ℕ
  low : ℕ
  text : List ℕ
  quoted : List ℕ
  is_low : hex_value digit ≡ Some low
  is_quoted : IsQuoted text quoted
  read : x.0 ≡ (high % 16 * 16 + low) ∷ text
  rest : bytes ≡ digit ∷ (quoted ++ 34 ∷ x.1)

abbrev Rest : State → List ℕ → List ℕ × List ℕ → Type 0
Rest Plain bytes x = Whole bytes x
Rest Escape bytes x = Goes (92 ∷ []) bytes x
Rest High bytes x = Goes (92 ∷ 120 ∷ []) bytes x
Rest (Low high) bytes x = Lows high bytes x

-- a piece, and the text after it
with_piece : (b : ℕ) (piece bytes : List ℕ) (x y : List ℕ × List ℕ) → IsPiece b piece → Whole bytes y → (b ∷ y.0, y.1) ≡ x → Whole (piece ++ bytes) x
with_piece b piece bytes x y is_piece whole same =
    subst (λ (z : List ℕ × List ℕ). Whole (piece ++ bytes) z) same (record {
      quoted = piece ++ whole.quoted;
      is_quoted = More b piece y.0 whole.quoted is_piece whole.is_quoted;
      rest = ap (λ r. piece ++ r) whole.rest ∙ sym (append_assoc piece whole.quoted (34 ∷ y.1));
    })

goes_whole : (b : ℕ) (bytes : List ℕ) (x : List ℕ × List ℕ) → b ≡ 92 → Goes (92 ∷ []) bytes x → Whole (b ∷ bytes) x
goes_whole b bytes x is goes = record {
  quoted = (92 ∷ goes.piece) ++ goes.quoted;
  is_quoted = subst (λ (t : List ℕ). IsQuoted t ((92 ∷ goes.piece) ++ goes.quoted)) (sym goes.read) (More goes.byte (92 ∷ goes.piece) goes.text goes.quoted goes.is_piece goes.is_quoted);
  rest = rw is (ap (λ r. 92 ∷ r) (goes.rest ∙ sym (append_assoc goes.piece goes.quoted (34 ∷ x.1))));
}

plain_step : (m : Move) (b : ℕ) (bytes : List ℕ) (x : List ℕ × List ℕ) → PlainTo b m → follow m (unquote bytes) bytes ≡ Some x
    → ((state : State) (y : List ℕ × List ℕ) → unquote bytes state ≡ Some y → Rest state bytes y) → Whole (b ∷ bytes) x
plain_step m b bytes x (Ends is) some go =
    let same : ([], bytes) ≡ x = cc some in
    subst (λ (z : List ℕ × List ℕ). Whole (b ∷ bytes) z) same (record { quoted = []; is_quoted = Empty; rest = rw is refl })
plain_step m b bytes x (Slashed is) some go = goes_whole b bytes x is (go Escape x some)
plain_step m b bytes x (Itself low high quote slash) some go =
    let y = mapped (λ (z : List ℕ × List ℕ). (b ∷ z.0, z.1)) (unquote bytes Plain) x some in
    with_piece b (b ∷ []) bytes x y.0 (Plainly b low high quote slash) (go Plain y.0 y.1) y.2
plain_step m b bytes x Refused some go = absurd (cc some)

escape_step : (m : Move) (b : ℕ) (bytes : List ℕ) (x : List ℕ × List ℕ) → EscapeTo b m → follow m (unquote bytes) bytes ≡ Some x
    → ((state : State) (y : List ℕ × List ℕ) → unquote bytes state ≡ Some y → Rest state bytes y) → Goes (92 ∷ []) (b ∷ bytes) x
escape_step m b bytes x (Piece byte is) some go =
    let y = mapped (λ (z : List ℕ × List ℕ). (byte ∷ z.0, z.1)) (unquote bytes Plain) x some in
    let whole : Whole bytes y.0 = go Plain y.0 y.1 in
    record {
      byte = byte;
      text = y.0.0;
      piece = b ∷ [];
      quoted = whole.quoted;
      is_piece = is;
      is_quoted = whole.is_quoted;
      read = ap (λ (z : List ℕ × List ℕ). z.0) (sym y.2);
      rest = ap (λ r. b ∷ r) (whole.rest ∙ ap (λ (z : List ℕ × List ℕ). whole.quoted ++ 34 ∷ z.1) y.2);
    }
escape_step m b bytes x (Hexes is) some go =
    let goes : Goes (92 ∷ 120 ∷ []) bytes x = go High x some in
    record {
      byte = goes.byte;
      text = goes.text;
      piece = 120 ∷ goes.piece;
      quoted = goes.quoted;
      is_piece = goes.is_piece;
      is_quoted = goes.is_quoted;
      read = goes.read;
      rest = rw is (ap (λ r. 120 ∷ r) goes.rest);
    }
escape_step m b bytes x Unknown some go = absurd (cc some)

high_step : (h : Option ℕ) (b : ℕ) (bytes : List ℕ) (x : List ℕ × List ℕ) → hex_value b ≡ h → follow (high_move h) (unquote bytes) bytes ≡ Some x
    → ((state : State) (y : List ℕ × List ℕ) → unquote bytes state ≡ Some y → Rest state bytes y) → Goes (92 ∷ 120 ∷ []) (b ∷ bytes) x
high_step None b bytes x is some go = absurd (cc some)
high_step (Some high) b bytes x is some go =
    let lows : Lows high bytes x = go (Low high) x some in
    record {
      byte = high % 16 * 16 + lows.low;
      text = lows.text;
      piece = b ∷ lows.digit ∷ [];
      quoted = lows.quoted;
      is_piece = hex_piece b lows.digit high lows.low is lows.is_low;
      is_quoted = lows.is_quoted;
      read = lows.read;
      rest = ap (λ r. b ∷ r) lows.rest;
    }

low_step : (l : Option ℕ) (high b : ℕ) (bytes : List ℕ) (x : List ℕ × List ℕ) → hex_value b ≡ l → follow (low_move high l) (unquote bytes) bytes ≡ Some x
    → ((state : State) (y : List ℕ × List ℕ) → unquote bytes state ≡ Some y → Rest state bytes y) → Lows high (b ∷ bytes) x
low_step None high b bytes x is some go = absurd (cc some)
low_step (Some low) high b bytes x is some go =
    let y = mapped (λ (z : List ℕ × List ℕ). ((high % 16 * 16 + low) ∷ z.0, z.1)) (unquote bytes Plain) x some in
    let whole : Whole bytes y.0 = go Plain y.0 y.1 in
    record {
      digit = b;
      low = low;
      text = y.0.0;
      quoted = whole.quoted;
      is_low = is;
      is_quoted = whole.is_quoted;
      read = ap (λ (z : List ℕ × List ℕ). z.0) (sym y.2);
      rest = ap (λ r. b ∷ r) (whole.rest ∙ ap (λ (z : List ℕ × List ℕ). whole.quoted ++ 34 ∷ z.1) y.2);
    }

takes : (bytes : List ℕ) (state : State) (x : List ℕ × List ℕ) → unquote bytes state ≡ Some x → Rest state bytes x
takes [] Plain x some = absurd (cc some)
takes [] Escape x some = absurd (cc some)
takes [] High x some = absurd (cc some)
takes [] (Low high) x some = absurd (cc some)
takes (b ∷ bytes) Plain x some = plain_step (plain_move b) b bytes x (plain_to b) some (takes bytes)
takes (b ∷ bytes) Escape x some = escape_step (escape_move b) b bytes x (escape_to b) some (takes bytes)
takes (b ∷ bytes) High x some = high_step (hex_value b) b bytes x refl some (takes bytes)
takes (b ∷ bytes) (Low high) x some = low_step (hex_value b) high b bytes x refl some (takes bytes)

pub quoted_takes : (bytes : List ℕ) (x : List ℕ × List ℕ) → unquote bytes Plain ≡ Some x → (quoted : List ℕ) × IsQuoted x.0 quoted × (bytes ≡ quoted ++ 34 ∷ x.1)
quoted_takes bytes x some = let whole : Whole bytes x = takes bytes Plain x some in (whole.quoted, whole.is_quoted, whole.rest)
