-- Bytes that are read to the end of a body are spelled by the grammar. For each state: what the bytes from there on spell.
use Rattle.std.proofs.Common.{◌≡◌, ◌⊎◌, inl, inr, ℕ, ◌+◌, ◌-◌, ◌*◌, ◌<◌, ◌≤◌, ◌==◌, nat_lt, true, false, cond, List, [], ◌∷◌, ◌++◌, length, Option, Some, None, refl, ap, sym, ◌∙◌, subst, arith}
use Rattle.std.proofs.lemmas.Bool.{cond_both, ltb-true, ltb-false, eqb-true, eqb-false}
use Rattle.std.specs.Char.{digit_value}
use Rattle.std.specs.Str.Parse.{AllDigits, digits_value, digits_value_after}
use Rattle.lt_http_body.specs.declared.state.State.{State}
use Rattle.lt_http_body.specs.declared.state.State.TheVariants as state
use Rattle.lt_http_body.specs.declared.standing.Standing.{Standing}
use Rattle.lt_http_body.specs.declared.limits.TheConstants.{SIZE_DIGITS, EXTENSION_LIMIT, TRAILER_LIMIT}
use Rattle.lt_http_body.specs.Lines.{after_size, after_extension, after_trailer, after_trailer_line, line_byte, line_return, in_data}
use Rattle.lt_http_body.specs.Standings.{at, step, is_above, less, after_size_line, is_over, kept_from, only}
use Rattle.lt_http_body.specs.Sound.{IsSoundState}
use Rattle.lt_http_body.specs.Grammar.{LineEnd, Crlf, Lf, FieldLine, ChunkedBody, IsText, IsExtension, AreFieldLines, IsChunkedBody, end_size, lines_size, print_extension, print_end, print_lines, print, data_of, Fits}

-- a whole chunked body
pub record Next (room : Option ℕ) (bytes held rest : List ℕ) : Type 0 where
  pub body : ChunkedBody
  pub is : IsChunkedBody body
  pub fits : Fits room body.chunks
  pub spelled : bytes ≡ print body rest
  pub carries : held ≡ data_of body.chunks

-- lines of a trailer and its end
pub record InTrailer (left : ℕ) (bytes rest : List ℕ) : Type 0 where
  pub lines : List FieldLine
  pub ending : LineEnd
  pub are : AreFieldLines lines
  pub room : lines_size lines + end_size ending ≤ left
  pub spelled : bytes ≡ print_lines lines (print_end ending rest)

-- the rest of a line, further lines and the end
pub record InLine (left : ℕ) (bytes rest : List ℕ) : Type 0 where
  pub text : List ℕ
  pub ends : LineEnd
  pub lines : List FieldLine
  pub ending : LineEnd
  pub is : IsText text
  pub are : AreFieldLines lines
  pub room : length text + end_size ends + lines_size lines + end_size ending ≤ left
  pub spelled : bytes ≡ text ++ print_end ends (print_lines lines (print_end ending rest))

-- a byte, and a trailer behind it
pub record BeforeTrailer (left : ℕ) (bytes rest : List ℕ) : Type 0 where
  pub tail : List ℕ
  pub spelled : bytes ≡ 10 ∷ tail
  pub behind : InTrailer (left - 1) tail rest

-- the rest of a chunk's data, and a body behind it
pub record InData (room : Option ℕ) (n : ℕ) (bytes held rest : List ℕ) : Type 0 where
  pub front : List ℕ
  pub tail : List ℕ
  pub more : List ℕ
  pub spelled : bytes ≡ front ++ 13 ∷ 10 ∷ tail
  pub size : length front ≡ n
  pub carries : held ≡ front ++ more
  pub behind : Next room tail more rest

-- what stands behind a whole size line
abbrev pub Behind : Option ℕ → ℕ → List ℕ → List ℕ → List ℕ → Type 0
Behind room size bytes held rest = ((size ≡ 0) × InTrailer TRAILER_LIMIT bytes rest × (held ≡ [])) ⊎ ((0 < size) × (is_above size room ≡ false) × InData (less room size) size bytes held rest)

pub record InFeed (room : Option ℕ) (size : ℕ) (bytes held rest : List ℕ) : Type 0 where
  pub tail : List ℕ
  pub spelled : bytes ≡ 10 ∷ tail
  pub behind : Behind room size tail held rest

pub record InExtension (room : Option ℕ) (left size : ℕ) (bytes held rest : List ℕ) : Type 0 where
  pub text : List ℕ
  pub tail : List ℕ
  pub is : IsText text
  pub few : length text ≤ left
  pub spelled : bytes ≡ text ++ 13 ∷ 10 ∷ tail
  pub behind : Behind room size tail held rest

pub record InSize (room : Option ℕ) (d v : ℕ) (bytes held rest : List ℕ) : Type 0 where
  pub digits : List ℕ
  pub extension : Option (List ℕ)
  pub tail : List ℕ
  pub hex : AllDigits 16 digits
  pub some : 1 ≤ d + length digits
  pub few : d + length digits ≤ SIZE_DIGITS
  pub is : IsExtension extension
  pub spelled : bytes ≡ digits ++ print_extension extension (13 ∷ 10 ∷ tail)
  pub behind : Behind room (digits_value_after 16 v digits) tail held rest

-- a byte, and a body behind it
pub record Before (room : Option ℕ) (front : List ℕ) (bytes held rest : List ℕ) : Type 0 where
  pub tail : List ℕ
  pub spelled : bytes ≡ front ++ tail
  pub behind : Next room tail held rest

abbrev pub From : Option ℕ → State → List ℕ → List ℕ → List ℕ → Type 0
From room (state.Stated left) bytes held rest = Unit {0}
From room (state.Size d v) bytes held rest = InSize room d v bytes held rest
From room (state.Extension left v) bytes held rest = InExtension room left v bytes held rest
From room (state.SizeFeed v) bytes held rest = InFeed room v bytes held rest
From room (state.Data left) bytes held rest = InData room left bytes held rest
From room state.DataReturn bytes held rest = Before room (13 ∷ 10 ∷ []) bytes held rest
From room state.DataFeed bytes held rest = Before room (10 ∷ []) bytes held rest
From room (state.Trailer left) bytes held rest = InTrailer left bytes rest × (held ≡ [])
From room (state.TrailerLine left) bytes held rest = InLine left bytes rest × (held ≡ [])
From room (state.TrailerFeed left) bytes held rest = BeforeTrailer left bytes rest × (held ≡ [])
From room state.LastFeed bytes held rest = (bytes ≡ 10 ∷ rest) × (held ≡ [])
From room state.Whole bytes held rest = (bytes ≡ rest) × (held ≡ [])
From room state.BadChunk bytes held rest = ⊥
From room state.TooLarge bytes held rest = ⊥

-- a size line and what stands behind it are a body
pub size_next : (room : Option ℕ) (bytes held rest : List ℕ) → InSize room 0 0 bytes held rest → Next room bytes held rest
size_next room bytes held rest h = by h.behind
  where
    by : Behind room (digits_value 16 h.digits) h.tail held rest → Next room bytes held rest
    by (inl p) = record {
      body = record { chunks = []; last = record { digits = h.digits; extension = h.extension }; lines = p.1.lines; ending = p.1.ending };
      is = record {
        chunks = tt;
        last = record { some = omega (arith, h.some); few = omega (arith, h.few); digits = h.hex; extension = h.is };
        zero_size = p.0;
        lines = p.1.are;
        room = p.1.room;
      };
      fits = tt;
      spelled = h.spelled ∙ ap (λ (l : List ℕ). h.digits ++ print_extension h.extension (13 ∷ 10 ∷ l)) p.1.spelled;
      carries = p.2;
    }
    by (inr p) =
        let d = p.2 in
        let n = d.behind in
        let size : length d.front ≡ digits_value 16 h.digits = d.size in
        record {
          body = record {
            chunks = record { line = record { digits = h.digits; extension = h.extension }; bytes = d.front } ∷ n.body.chunks;
            last = n.body.last;
            lines = n.body.lines;
            ending = n.body.ending;
          };
          is = record {
            chunks = (record { line = record { some = omega (arith, h.some); few = omega (arith, h.few); digits = h.hex; extension = h.is }; size = sym size; some = omega (arith, p.0, size) }, n.is.chunks);
            last = n.is.last;
            zero_size = n.is.zero_size;
            lines = n.is.lines;
            room = n.is.room;
          };
          fits = (ap (λ (m : ℕ). is_above m room) size ∙ p.1, subst (λ (m : ℕ). Fits (less room m) n.body.chunks) (sym size) n.fits);
          spelled = h.spelled ∙ ap (λ (l : List ℕ). h.digits ++ print_extension h.extension (13 ∷ 10 ∷ l)) (d.spelled ∙ ap (λ (l : List ℕ). d.front ++ 13 ∷ 10 ∷ l) n.spelled);
          carries = d.carries ∙ ap (λ (l : List ℕ). d.front ++ l) n.carries;
        }

-- one byte back
byte_is : (b n : ℕ) (bytes tail : List ℕ) → (b == n) ≡ true → bytes ≡ tail → b ∷ bytes ≡ n ∷ tail
byte_is b n bytes tail test is = ap (λ (x : ℕ). x ∷ bytes) (eqb-true b n test) ∙ ap (λ (l : List ℕ). n ∷ l) is

back_size : (room : Option ℕ) (d v b : ℕ) (bytes held rest : List ℕ) → d ≤ SIZE_DIGITS → From room (after_size d v b) bytes held rest → InSize room d v (b ∷ bytes) held rest
back_size room d v b bytes held rest most =
    cond_both (nat_lt (digit_value b) 16) _ _ P
    (λ hex. cond_both (nat_lt d SIZE_DIGITS) (state.Size (d + 1) (v * 16 + digit_value b)) state.BadChunk P
    (λ few h. record {
      digits = b ∷ h.digits;
      extension = h.extension;
      tail = h.tail;
      hex = (ltb-true (digit_value b) 16 hex, h.hex);
      some = omega (arith, h.some);
      few = omega (arith, h.few);
      is = h.is;
      spelled = ap (λ (l : List ℕ). b ∷ l) h.spelled;
      behind = h.behind;
    })
    (λ no h. absurd h))
    (λ other. cond_both (d == 0) state.BadChunk _ P (λ none h. absurd h)
    (λ some. cond_both (b == 13) (state.SizeFeed v) _ P
    (λ is h. record {
      digits = [];
      extension = None;
      tail = h.tail;
      hex = tt;
      some = has_digits some;
      few = omega (arith, most);
      is = tt;
      spelled = byte_is b 13 bytes (10 ∷ h.tail) is h.spelled;
      behind = h.behind;
    })
    (λ no. cond_both (b == 59) (state.Extension EXTENSION_LIMIT v) state.BadChunk P
    (λ is h. record {
      digits = [];
      extension = Some h.text;
      tail = h.tail;
      hex = tt;
      some = has_digits some;
      few = omega (arith, most);
      is = (h.few, h.is);
      spelled = byte_is b 59 bytes (h.text ++ 13 ∷ 10 ∷ h.tail) is h.spelled;
      behind = h.behind;
    })
    (λ bad h. absurd h))))
  where
    P : State → Type 0
    P s = From room s bytes held rest → InSize room d v (b ∷ bytes) held rest

    has_digits : (d == 0) ≡ false → 1 ≤ d + 0
    has_digits some = let other = eqb-false d 0 some in omega (arith, other)

back_extension : (room : Option ℕ) (left v b : ℕ) (bytes held rest : List ℕ) → From room (after_extension left v b) bytes held rest → InExtension room left v (b ∷ bytes) held rest
back_extension room left v b bytes held rest =
    cond_both (b == 13) (state.SizeFeed v) _ P
    (λ is h. record { text = []; tail = h.tail; is = tt; few = omega arith; spelled = byte_is b 13 bytes (10 ∷ h.tail) is h.spelled; behind = h.behind })
    (λ no. cond_both (b == 10) state.BadChunk _ P (λ is h. absurd h)
    (λ none. cond_both (left == 0) state.BadChunk (state.Extension (left - 1) v) P (λ is h. absurd h)
    (λ some h. let other = eqb-false left 0 some in record {
      text = b ∷ h.text;
      tail = h.tail;
      is = (eqb-false b 13 no, eqb-false b 10 none, h.is);
      few = omega (arith, h.few, other);
      spelled = ap (λ (l : List ℕ). b ∷ l) h.spelled;
      behind = h.behind;
    })))
  where
    P : State → Type 0
    P s = From room s bytes held rest → InExtension room left v (b ∷ bytes) held rest

-- where a state stands with room
abbrev pub FromAt : Standing → List ℕ → List ℕ → List ℕ → Type 0
FromAt s bytes held rest = From s.room s.state bytes held rest

back_size_line : (room : Option ℕ) (size : ℕ) (bytes held rest : List ℕ) → FromAt (after_size_line room size) bytes held rest → Behind room size bytes held rest
back_size_line room size bytes held rest =
    cond_both (size == 0) (at room (state.Trailer TRAILER_LIMIT)) _ P
    (λ none h. inl (eqb-true size 0 none, h.0, h.1))
    (λ some. cond_both (is_above size room) (at room state.TooLarge) (at (less room size) (state.Data size)) P (λ above h. absurd h)
    (λ fits h. inr (let other = eqb-false size 0 some in omega (arith, other), fits, h)))
  where
    P : Standing → Type 0
    P s = FromAt s bytes held rest → Behind room size bytes held rest

back_feed : (room : Option ℕ) (size b : ℕ) (bytes held rest : List ℕ) → FromAt (cond (b == 10) (after_size_line room size) (at room state.BadChunk)) bytes held rest → InFeed room size (b ∷ bytes) held rest
back_feed room size b bytes held rest =
    cond_both (b == 10) (after_size_line room size) (at room state.BadChunk) (λ (s : Standing). FromAt s bytes held rest → InFeed room size (b ∷ bytes) held rest)
    (λ is h. record { tail = bytes; spelled = byte_is b 10 bytes bytes is refl; behind = back_size_line room size bytes held rest h })
    (λ no h. absurd h)

back_data : (room : Option ℕ) (left b : ℕ) (bytes held rest : List ℕ) → 0 < left → From room (in_data (left - 1)) bytes held rest → InData room left (b ∷ bytes) (b ∷ held) rest
back_data room left b bytes held rest some =
    cond_both (left - 1 == 0) state.DataReturn (state.Data (left - 1)) (λ (s : State). From room s bytes held rest → InData room left (b ∷ bytes) (b ∷ held) rest)
    (λ is h. let none = eqb-true (left - 1) 0 is in record {
      front = b ∷ [];
      tail = h.tail;
      more = held;
      spelled = ap (λ (l : List ℕ). b ∷ l) h.spelled;
      size = omega (arith, none);
      carries = refl;
      behind = h.behind;
    })
    (λ no h. record {
      front = b ∷ h.front;
      tail = h.tail;
      more = h.more;
      spelled = ap (λ (l : List ℕ). b ∷ l) h.spelled;
      size = omega (arith, h.size);
      carries = ap (λ (l : List ℕ). b ∷ l) h.carries;
      behind = h.behind;
    })

back_return : (room : Option ℕ) (b : ℕ) (bytes held rest : List ℕ) → From room (only 13 b state.DataFeed) bytes held rest → Before room (13 ∷ 10 ∷ []) (b ∷ bytes) held rest
back_return room b bytes held rest =
    cond_both (b == 13) state.DataFeed state.BadChunk (λ (s : State). From room s bytes held rest → Before room (13 ∷ 10 ∷ []) (b ∷ bytes) held rest)
    (λ is h. record { tail = h.tail; spelled = byte_is b 13 bytes (10 ∷ h.tail) is h.spelled; behind = h.behind })
    (λ no h. absurd h)

back_data_feed : (room : Option ℕ) (b : ℕ) (bytes held rest : List ℕ) → From room (only 10 b (state.Size 0 0)) bytes held rest → Before room (10 ∷ []) (b ∷ bytes) held rest
back_data_feed room b bytes held rest =
    cond_both (b == 10) (state.Size 0 0) state.BadChunk (λ (s : State). From room s bytes held rest → Before room (10 ∷ []) (b ∷ bytes) held rest)
    (λ is h. record { tail = bytes; spelled = byte_is b 10 bytes bytes is refl; behind = size_next room bytes held rest h })
    (λ no h. absurd h)

back_line_byte : (room : Option ℕ) (left b : ℕ) (bytes held rest : List ℕ) → (b == 13) ≡ false → (b == 10) ≡ false → From room (line_byte left) bytes held rest → InLine left (b ∷ bytes) rest × (held ≡ [])
back_line_byte room left b bytes held rest one two =
    cond_both (nat_lt left 3) state.BadChunk (state.TrailerLine (left - 1)) (λ (s : State). From room s bytes held rest → InLine left (b ∷ bytes) rest × (held ≡ []))
    (λ few h. absurd h)
    (λ enough h. let low = ltb-false left 3 enough in (
      record {
        text = b ∷ h.0.text;
        ends = h.0.ends;
        lines = h.0.lines;
        ending = h.0.ending;
        is = (eqb-false b 13 one, eqb-false b 10 two, h.0.is);
        are = h.0.are;
        room = omega (arith, h.0.room, low);
        spelled = ap (λ (l : List ℕ). b ∷ l) h.0.spelled;
      },
      h.1,
    ))

back_trailer : (room : Option ℕ) (left b : ℕ) (bytes held rest : List ℕ) → 1 ≤ left → From room (after_trailer left b) bytes held rest → InTrailer left (b ∷ bytes) rest × (held ≡ [])
back_trailer room left b bytes held rest some =
    cond_both (b == 10) state.Whole _ P
    (λ is h. (record { lines = []; ending = Lf; are = tt; room = omega (arith, some); spelled = byte_is b 10 bytes rest is h.0 }, h.1))
    (λ two. cond_both (b == 13) (cond (nat_lt left 2) state.BadChunk state.LastFeed) (line_byte left) P
    (λ is. cond_both (nat_lt left 2) state.BadChunk state.LastFeed P (λ few h. absurd h)
    (λ enough h. let low = ltb-false left 2 enough in (record { lines = []; ending = Crlf; are = tt; room = omega (arith, low); spelled = byte_is b 13 bytes (10 ∷ rest) is h.0 }, h.1)))
    (λ one. cond_both (nat_lt left 3) state.BadChunk (state.TrailerLine (left - 1)) P (λ few h. absurd h)
    (λ enough h. let low = ltb-false left 3 enough in (
      record {
        lines = record { text = b ∷ h.0.text; ending = h.0.ends } ∷ h.0.lines;
        ending = h.0.ending;
        are = (omega arith, (eqb-false b 13 one, eqb-false b 10 two, h.0.is), h.0.are);
        room = omega (arith, h.0.room, low);
        spelled = ap (λ (l : List ℕ). b ∷ l) h.0.spelled;
      },
      h.1,
    ))))
  where
    P : State → Type 0
    P s = From room s bytes held rest → InTrailer left (b ∷ bytes) rest × (held ≡ [])

back_trailer_line : (room : Option ℕ) (left b : ℕ) (bytes held rest : List ℕ) → 2 ≤ left → From room (after_trailer_line left b) bytes held rest → InLine left (b ∷ bytes) rest × (held ≡ [])
back_trailer_line room left b bytes held rest some =
    cond_both (b == 10) (state.Trailer (left - 1)) _ P
    (λ is h. (
      record {
        text = [];
        ends = Lf;
        lines = h.0.lines;
        ending = h.0.ending;
        is = tt;
        are = h.0.are;
        room = omega (arith, h.0.room, some);
        spelled = byte_is b 10 bytes (print_lines h.0.lines (print_end h.0.ending rest)) is h.0.spelled;
      },
      h.1,
    ))
    (λ two. cond_both (b == 13) (line_return left) (line_byte left) P
    (λ is. cond_both (nat_lt left 3) state.BadChunk (state.TrailerFeed (left - 1)) P (λ few h. absurd h)
    (λ enough h. let low = ltb-false left 3 enough in let t = h.0.behind in (
      record {
        text = [];
        ends = Crlf;
        lines = t.lines;
        ending = t.ending;
        is = tt;
        are = t.are;
        room = omega (arith, t.room, low);
        spelled = byte_is b 13 bytes (10 ∷ print_lines t.lines (print_end t.ending rest)) is (h.0.spelled ∙ ap (λ (l : List ℕ). 10 ∷ l) t.spelled);
      },
      h.1,
    )))
    (λ one h. back_line_byte room left b bytes held rest one two h))
  where
    P : State → Type 0
    P s = From room s bytes held rest → InLine left (b ∷ bytes) rest × (held ≡ [])

back_trailer_feed : (room : Option ℕ) (left b : ℕ) (bytes held rest : List ℕ) → From room (only 10 b (state.Trailer (left - 1))) bytes held rest → BeforeTrailer left (b ∷ bytes) rest × (held ≡ [])
back_trailer_feed room left b bytes held rest =
    cond_both (b == 10) (state.Trailer (left - 1)) state.BadChunk (λ (s : State). From room s bytes held rest → BeforeTrailer left (b ∷ bytes) rest × (held ≡ []))
    (λ is h. (record { tail = bytes; spelled = byte_is b 10 bytes bytes is refl; behind = h.0 }, h.1))
    (λ no h. absurd h)

back_last : (room : Option ℕ) (b : ℕ) (bytes held rest : List ℕ) → From room (only 10 b state.Whole) bytes held rest → (b ∷ bytes ≡ 10 ∷ rest) × (held ≡ [])
back_last room b bytes held rest =
    cond_both (b == 10) state.Whole state.BadChunk (λ (s : State). From room s bytes held rest → (b ∷ bytes ≡ 10 ∷ rest) × (held ≡ []))
    (λ is h. (byte_is b 10 bytes rest is h.0, h.1))
    (λ no h. absurd h)

-- from one byte further back to here
pub back : (room : Option ℕ) (s : State) (b : ℕ) (bytes held rest : List ℕ) → IsSoundState s → is_over s ≡ false → FromAt (step (at room s) b) bytes held rest → From room s (b ∷ bytes) (kept_from s b ++ held) rest
unfolding step
back room (state.Stated left) b bytes held rest sound open_is h = tt
back room (state.Size d v) b bytes held rest sound open_is h = back_size room d v b bytes held rest sound.0 h
back room (state.Extension left v) b bytes held rest sound open_is h = back_extension room left v b bytes held rest h
back room (state.SizeFeed v) b bytes held rest sound open_is h = back_feed room v b bytes held rest h
back room (state.Data left) b bytes held rest sound open_is h = back_data room left b bytes held rest sound h
back room state.DataReturn b bytes held rest sound open_is h = back_return room b bytes held rest h
back room state.DataFeed b bytes held rest sound open_is h = back_data_feed room b bytes held rest h
back room (state.Trailer left) b bytes held rest sound open_is h = back_trailer room left b bytes held rest sound h
back room (state.TrailerLine left) b bytes held rest sound open_is h = back_trailer_line room left b bytes held rest sound h
back room (state.TrailerFeed left) b bytes held rest sound open_is h = back_trailer_feed room left b bytes held rest h
back room state.LastFeed b bytes held rest sound open_is h = back_last room b bytes held rest h
back room state.Whole b bytes held rest sound open_is h = cc
back room state.BadChunk b bytes held rest sound open_is h = cc
back room state.TooLarge b bytes held rest sound open_is h = cc
