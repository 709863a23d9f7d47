-- Bytes behind which the answer is open go on to a whole answer: what is still to come is filled with zeros.
use Rattle.std.proofs.Common.{◌≡◌, ℕ, ◌<◌, false, List, [], ◌∷◌, ◌++◌, length, take, replicate, refl, ap, sym, subst, ◌∙◌, append_assoc, append-nil, length-append, take_all, arith}
use Rattle.std.proofs.lemmas.List.{length-replicate}
use Rattle.fcgi_records.specs.declared.state.State.{State}
use Rattle.fcgi_records.specs.declared.state.State.TheVariants as state
use Rattle.fcgi_records.specs.States.{is_broken}
use Rattle.fcgi_records.specs.Reading.{state_after, stdout_in, taken_in, Open, said_at, said}
use Rattle.fcgi_records.specs.Grammar.{Source, Stdout, Stderr, kind_of, Piece, Ending, IsPiece, IsEnding, print_header, print_piece, print_pieces, print_ending, content_of, stdout_of}
use Rattle.fcgi_records.specs.Laws.{GoesOn}
use Rattle.fcgi_records.proofs.Held.{Held, pieces_append, are_append, print_append, stdout_append}
use Rattle.fcgi_records.proofs.Told.{InContent, InPadding, InStatus, InUnused, InEndPadding, Told}
use Rattle.fcgi_records.proofs.ReadingLemmas.{own_all}
use Rattle.fcgi_records.proofs.Said.{told_all}

abbrev zeros : ℕ → List ℕ
zeros n = replicate n 0

zeros_long : (n : ℕ) → length (zeros n) ≡ n
zeros_long n = let zero_byte : ℕ = 0 in length-replicate n zero_byte

abbrev last : Ending
last = record { reserved = 0; status = 0 ∷ 0 ∷ 0 ∷ 0 ∷ []; unused = 0 ∷ 0 ∷ 0 ∷ []; padding = [] }

-- the first bytes of a header
in_header : (bytes out tail extra : List ℕ) → Held bytes out tail extra → extra ≡ [] → length tail < 8 → GoesOn bytes out
in_header bytes out tail extra h bare few = record {
  front = print_pieces h.pieces [];
  part = tail;
  cut = h.spelled ∙ sym (pieces_append h.pieces [] tail);
  few = few;
  more = print_ending last [];
  later = [];
  answer = record { pieces = h.pieces; ending = last };
  is = record { pieces = h.are; ending = record { status = refl; unused = refl } };
  spelled = pieces_append h.pieces [] (print_ending last []);
  carries = append-nil out ∙ h.carries ∙ ap (λ (l : List ℕ). stdout_of h.pieces ++ l) bare ∙ append-nil (stdout_of h.pieces);
}

-- a record of STDOUT or STDERR
in_piece : (bytes out tail extra more later : List ℕ) (piece : Piece) → Held bytes out tail extra → IsPiece piece → tail ++ more ≡ print_piece piece (print_ending last []) → extra ++ later ≡ content_of piece.source piece.content → GoesOn bytes out
in_piece bytes out tail extra more later piece h is spelled carries = record {
  front = bytes;
  part = [];
  cut = sym (append-nil bytes);
  few = omega arith;
  more = more;
  later = later;
  answer = record { pieces = h.pieces ++ piece ∷ []; ending = last };
  is = record { pieces = are_append h.pieces piece h.are is; ending = record { status = refl; unused = refl } };
  spelled = ap (λ (l : List ℕ). l ++ more) h.spelled ∙ pieces_append h.pieces tail more ∙ ap (print_pieces h.pieces) spelled ∙ sym (print_append h.pieces piece (print_ending last []));
  carries = ap (λ (l : List ℕ). l ++ later) h.carries ∙ append_assoc (stdout_of h.pieces) extra later ∙ ap (λ (l : List ℕ). stdout_of h.pieces ++ l) carries ∙ sym (stdout_append h.pieces piece);
}

-- END_REQUEST
in_ending : (bytes out tail extra more : List ℕ) (ending : Ending) → Held bytes out tail extra → extra ≡ [] → IsEnding ending → tail ++ more ≡ print_ending ending [] → GoesOn bytes out
in_ending bytes out tail extra more ending h bare is spelled = record {
  front = bytes;
  part = [];
  cut = sym (append-nil bytes);
  few = omega arith;
  more = more;
  later = [];
  answer = record { pieces = h.pieces; ending = ending };
  is = record { pieces = h.are; ending = is };
  spelled = ap (λ (l : List ℕ). l ++ more) h.spelled ∙ pieces_append h.pieces tail more ∙ ap (print_pieces h.pieces) spelled;
  carries = append-nil out ∙ h.carries ∙ ap (λ (l : List ℕ). stdout_of h.pieces ++ l) bare ∙ append-nil (stdout_of h.pieces);
}

content_append : (source : Source) (content more extra : List ℕ) → extra ≡ content_of source content → extra ++ content_of source more ≡ content_of source (content ++ more)
content_append Stdout content more extra is = ap (λ (l : List ℕ). l ++ more) is
content_append Stderr content more extra is = append-nil extra ∙ is

content_goes_on : (source : Source) (left padding : ℕ) (bytes out tail extra : List ℕ) → Held bytes out tail extra → InContent source left padding tail extra → GoesOn bytes out
content_goes_on source left padding bytes out tail extra h c =
    let behind : List ℕ = print_ending last [] in
    in_piece bytes out tail extra (zeros left ++ (zeros padding ++ behind)) (content_of source (zeros left))
    (record { source = source; high = c.high; low = c.low; reserved = c.reserved; content = c.content ++ zeros left; padding = zeros padding }) h
    (omega (arith, c.size, length-append c.content (zeros left), zeros_long left))
    (ap (λ (l : List ℕ). l ++ (zeros left ++ (zeros padding ++ behind))) c.spelled
    ∙ ap (λ (l : List ℕ). print_header (kind_of source) c.high c.low padding c.reserved l) (sym (append_assoc c.content (zeros left) (zeros padding ++ behind)))
    ∙ ap (λ (n : ℕ). print_header (kind_of source) c.high c.low n c.reserved ((c.content ++ zeros left) ++ (zeros padding ++ behind))) (sym (zeros_long padding)))
    (content_append source c.content (zeros left) extra c.carries)

padding_goes_on : (left : ℕ) (bytes out tail extra : List ℕ) → Held bytes out tail extra → InPadding left tail extra → GoesOn bytes out
padding_goes_on left bytes out tail extra h p =
    let behind : List ℕ = print_ending last [] in
    let whole : List ℕ = p.front ++ zeros left in
    let n : p.n ≡ length whole = omega (arith, p.room, length-append p.front (zeros left), zeros_long left) in
    in_piece bytes out tail extra (zeros left ++ behind) []
    (record { source = p.source; high = p.high; low = p.low; reserved = p.reserved; content = p.content; padding = whole }) h p.size
    (ap (λ (l : List ℕ). l ++ (zeros left ++ behind)) p.spelled
    ∙ ap (λ (l : List ℕ). print_header (kind_of p.source) p.high p.low p.n p.reserved l) (append_assoc p.content p.front (zeros left ++ behind) ∙ ap (λ (l : List ℕ). p.content ++ l) (sym (append_assoc p.front (zeros left) behind)))
    ∙ ap (λ (m : ℕ). print_header (kind_of p.source) p.high p.low m p.reserved (p.content ++ (whole ++ behind))) n)
    (append-nil extra ∙ p.carries)

status_goes_on : (left padding : ℕ) (bytes out tail extra : List ℕ) → Held bytes out tail extra → extra ≡ [] → InStatus left padding tail → GoesOn bytes out
status_goes_on left padding bytes out tail extra h bare p =
    let behind : List ℕ = 0 ∷ 0 ∷ 0 ∷ 0 ∷ (zeros padding ++ []) in
    in_ending bytes out tail extra (zeros left ++ behind) (record { reserved = p.reserved; status = p.status ++ zeros left; unused = 0 ∷ 0 ∷ 0 ∷ []; padding = zeros padding }) h bare
    (record { status = omega (arith, p.size, length-append p.status (zeros left), zeros_long left); unused = refl })
    (ap (λ (l : List ℕ). l ++ (zeros left ++ behind)) p.spelled ∙ ap (λ (l : List ℕ). print_header 3 0 8 padding p.reserved l) (sym (append_assoc p.status (zeros left) behind))
    ∙ ap (λ (n : ℕ). print_header 3 0 8 n p.reserved ((p.status ++ zeros left) ++ behind)) (sym (zeros_long padding)))

unused_goes_on : (left padding : ℕ) (bytes out tail extra : List ℕ) → Held bytes out tail extra → extra ≡ [] → InUnused left padding tail → GoesOn bytes out
unused_goes_on left padding bytes out tail extra h bare p =
    let behind : List ℕ = zeros padding ++ [] in
    let whole : List ℕ = p.unused ++ zeros left in
    in_ending bytes out tail extra (zeros left ++ behind) (record { reserved = p.reserved; status = p.status; unused = whole; padding = zeros padding }) h bare
    (record { status = p.four; unused = omega (arith, p.size, length-append p.unused (zeros left), zeros_long left) })
    (ap (λ (l : List ℕ). l ++ (zeros left ++ behind)) p.spelled
    ∙ ap (λ (l : List ℕ). print_header 3 0 8 padding p.reserved l) (append_assoc p.status (0 ∷ p.unused) (zeros left ++ behind) ∙ ap (λ (l : List ℕ). p.status ++ (0 ∷ l)) (sym (append_assoc p.unused (zeros left) behind)))
    ∙ ap (λ (n : ℕ). print_header 3 0 8 n p.reserved (p.status ++ (0 ∷ (whole ++ behind)))) (sym (zeros_long padding)))

end_goes_on : (left : ℕ) (bytes out tail extra : List ℕ) → Held bytes out tail extra → extra ≡ [] → InEndPadding left tail → GoesOn bytes out
end_goes_on left bytes out tail extra h bare p =
    let whole : List ℕ = p.front ++ zeros left in
    let n : p.n ≡ length whole = omega (arith, p.room, length-append p.front (zeros left), zeros_long left) in
    in_ending bytes out tail extra (zeros left) (record { reserved = p.reserved; status = p.status; unused = p.unused; padding = whole }) h bare
    (record { status = p.four; unused = p.three })
    (ap (λ (l : List ℕ). l ++ zeros left) p.spelled
    ∙ ap (λ (l : List ℕ). print_header 3 0 8 p.n p.reserved l) (append_assoc p.status (0 ∷ (p.unused ++ p.front)) (zeros left)
    ∙ ap (λ (l : List ℕ). p.status ++ (0 ∷ l)) (append_assoc p.unused p.front (zeros left) ∙ ap (λ (l : List ℕ). p.unused ++ l) (sym (append-nil whole))))
    ∙ ap (λ (m : ℕ). print_header 3 0 8 m p.reserved (p.status ++ (0 ∷ (p.unused ++ (whole ++ []))))) n)

told_goes_on : (s : State) (bytes out stdout : List ℕ) → said_at s out ≡ Open stdout → Told s bytes out → GoesOn bytes out
told_goes_on state.Version bytes out stdout open_is t = in_header bytes out t.tail t.extra t.held t.tells.1 (omega (arith, ap length t.tells.0))
told_goes_on (state.Kind h) bytes out stdout open_is t = in_header bytes out t.tail t.extra t.held t.tells.1 (omega (arith, ap length t.tells.0))
told_goes_on (state.IdHigh h) bytes out stdout open_is t = in_header bytes out t.tail t.extra t.held t.tells.1 (omega (arith, ap length t.tells.0))
told_goes_on (state.IdLow h) bytes out stdout open_is t = in_header bytes out t.tail t.extra t.held t.tells.1 (omega (arith, ap length t.tells.0))
told_goes_on (state.LengthHigh h) bytes out stdout open_is t = in_header bytes out t.tail t.extra t.held t.tells.1 (omega (arith, ap length t.tells.0))
told_goes_on (state.LengthLow h) bytes out stdout open_is t = in_header bytes out t.tail t.extra t.held t.tells.1 (omega (arith, ap length t.tells.0))
told_goes_on (state.PaddingLength h) bytes out stdout open_is t = in_header bytes out t.tail t.extra t.held t.tells.1 (omega (arith, ap length t.tells.0))
told_goes_on (state.Reserved h) bytes out stdout open_is t = in_header bytes out t.tail t.extra t.held t.tells.1 (omega (arith, ap length t.tells.0))
told_goes_on (state.Stdout left padding) bytes out stdout open_is t = content_goes_on Stdout left padding bytes out t.tail t.extra t.held t.tells
told_goes_on (state.Stderr left padding) bytes out stdout open_is t = content_goes_on Stderr left padding bytes out t.tail t.extra t.held t.tells
told_goes_on (state.Padding left) bytes out stdout open_is t = padding_goes_on left bytes out t.tail t.extra t.held t.tells
told_goes_on (state.Status left padding) bytes out stdout open_is t = status_goes_on left padding bytes out t.tail t.extra t.held t.tells.1 t.tells.0
told_goes_on (state.ProtocolStatus padding) bytes out stdout open_is t = status_goes_on 0 padding bytes out t.tail t.extra t.held t.tells.1 t.tells.0
told_goes_on (state.Unused left padding) bytes out stdout open_is t = unused_goes_on left padding bytes out t.tail t.extra t.held t.tells.1 t.tells.0
told_goes_on (state.EndPadding left) bytes out stdout open_is t = end_goes_on left bytes out t.tail t.extra t.held t.tells.1 t.tells.0
told_goes_on state.Whole bytes out stdout open_is t = cc
told_goes_on (state.Broken why) bytes out stdout open_is t = cc

open_at : (s : State) (out stdout : List ℕ) → said_at s out ≡ Open stdout → (is_broken s ≡ false) × (out ≡ stdout)
open_at state.Whole out stdout e = cc
open_at (state.Broken why) out stdout e = cc
open_at other out stdout e = (refl, cc)

pub open_goes_on : (bytes stdout : List ℕ) → said bytes ≡ Open stdout → GoesOn bytes stdout
open_goes_on bytes stdout open_is =
    let s : State = state_after state.Version bytes in
    let o = open_at s (stdout_in state.Version bytes) stdout open_is in
    let all : take (taken_in state.Version bytes) bytes ≡ bytes = take_all (taken_in state.Version bytes) bytes (omega (arith, own_all state.Version bytes o.0)) in
    subst (λ (l : List ℕ). GoesOn l stdout) all
    (subst (λ (l : List ℕ). GoesOn (take (taken_in state.Version bytes) bytes) l) o.1
    (told_goes_on s (take (taken_in state.Version bytes) bytes) (stdout_in state.Version bytes) stdout open_is (told_all bytes)))
