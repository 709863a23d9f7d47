-- What the grammar prints is read as it says.
use Rattle.std.proofs.Common.{◌≡◌, ◌≢◌, ℕ, ◌==◌, List, [], ◌∷◌, ◌++◌, length, refl, ap, sym, subst, ◌∙◌, append_assoc, append-nil}
use Rattle.std.proofs.lemmas.Bool.{cond-true, cond-false, eq-eqb, ne_eqb}
use Rattle.fcgi_records.specs.declared.header.Header.{Header}
use Rattle.fcgi_records.specs.declared.state.Cause.{Cause}
use Rattle.fcgi_records.specs.declared.state.Cause.TheVariants as cause
use Rattle.fcgi_records.specs.declared.state.State.{State}
use Rattle.fcgi_records.specs.declared.state.State.TheVariants as state
use Rattle.fcgi_records.specs.States.{number, of_version, step, judged, by_kind, in_padding, in_stdout, in_stderr, in_status, in_unused, in_end_padding}
use Rattle.fcgi_records.specs.Grammar.{Source, Stdout, Stderr, kind_of, Piece, Ending, IsPiece, ArePieces, IsEnding, print_header, print_piece, print_pieces, print_ending, print_raw, content_of, stdout_of, IsWrong, WrongHeader, Breaks}
use Rattle.fcgi_records.proofs.Moving.{Goes, goes_nowhere, goes_on, framing_then, counted_then, padding_counts, stderr_counts, status_counts, unused_counts, end_counts, stdout_then}

-- the bytes of a header
header_bytes : Header → ℕ → List ℕ → List ℕ
header_bytes h reserved rest = h.version ∷ h.kind ∷ h.id_high ∷ h.id_low ∷ h.length_high ∷ h.length_low ∷ h.padding ∷ reserved ∷ rest

eight : (h : Header) (reserved : ℕ) (rest : List ℕ) → Goes state.Version (h.version ∷ h.kind ∷ h.id_high ∷ h.id_low ∷ h.length_high ∷ h.length_low ∷ h.padding ∷ reserved ∷ rest) [] (judged h) rest
unfolding step
eight h reserved rest =
    let h1 : Header = of_version h.version in
    let h2 : Header = record h1 { kind = h.kind } in
    let h3 : Header = record h2 { id_high = h.id_high } in
    let h4 : Header = record h3 { id_low = h.id_low } in
    let h5 : Header = record h4 { length_high = h.length_high } in
    let h6 : Header = record h5 { length_low = h.length_low } in
    let end : State = judged h in
    framing_then state.Version (state.Kind h1) end h.version (h.kind ∷ h.id_high ∷ h.id_low ∷ h.length_high ∷ h.length_low ∷ h.padding ∷ reserved ∷ rest) [] rest refl refl
    (framing_then (state.Kind h1) (state.IdHigh h2) end h.kind (h.id_high ∷ h.id_low ∷ h.length_high ∷ h.length_low ∷ h.padding ∷ reserved ∷ rest) [] rest refl refl
    (framing_then (state.IdHigh h2) (state.IdLow h3) end h.id_high (h.id_low ∷ h.length_high ∷ h.length_low ∷ h.padding ∷ reserved ∷ rest) [] rest refl refl
    (framing_then (state.IdLow h3) (state.LengthHigh h4) end h.id_low (h.length_high ∷ h.length_low ∷ h.padding ∷ reserved ∷ rest) [] rest refl refl
    (framing_then (state.LengthHigh h4) (state.LengthLow h5) end h.length_high (h.length_low ∷ h.padding ∷ reserved ∷ rest) [] rest refl refl
    (framing_then (state.LengthLow h5) (state.PaddingLength h6) end h.length_low (h.padding ∷ reserved ∷ rest) [] rest refl refl
    (framing_then (state.PaddingLength h6) (state.Reserved h) end h.padding (reserved ∷ rest) [] rest refl refl
    (framing_then (state.Reserved h) end end reserved rest [] rest refl refl (goes_nowhere end rest))))))))

abbrev headed : ℕ → ℕ → ℕ → ℕ → Header
headed kind high low padding = record { version = 1; kind = kind; id_high = 0; id_low = 1; length_high = high; length_low = low; padding = padding }

header_then : (kind high low padding reserved : ℕ) (rest : List ℕ) → Goes state.Version (print_header kind high low padding reserved rest) [] (judged (headed kind high low padding)) rest
header_then kind high low padding reserved rest = eight (headed kind high low padding) reserved rest

-- content of STDOUT or STDERR, and padding
abbrev content_state : Source → ℕ → ℕ → State
content_state Stdout left padding = in_stdout left padding
content_state Stderr left padding = in_stderr left padding

judged_content : (source : Source) (high low padding : ℕ) → judged (headed (kind_of source) high low padding) ≡ content_state source (number high low) padding
judged_content Stdout high low padding = refl
judged_content Stderr high low padding = refl

content_then : (source : Source) (padding : ℕ) (content rest : List ℕ) → Goes (content_state source (length content) padding) (content ++ rest) (content_of source content) (in_padding padding) rest
content_then Stdout padding content rest = stdout_then padding content rest
content_then Stderr padding content rest = counted_then (λ n. in_stderr n padding) (stderr_counts padding) content rest

pub piece_then : (piece : Piece) (rest : List ℕ) → IsPiece piece → Goes state.Version (print_piece piece rest) (content_of piece.source piece.content) state.Version rest
piece_then piece rest is =
    let n : ℕ = length piece.padding in
    let behind : List ℕ = piece.padding ++ rest in
    let content : List ℕ = content_of piece.source piece.content in
    let s : State = content_state piece.source (length piece.content) n in
    let begins : judged (headed (kind_of piece.source) piece.high piece.low n) ≡ s = judged_content piece.source piece.high piece.low n ∙ ap (λ (m : ℕ). content_state piece.source m n) is in
    let front : Goes state.Version (print_piece piece rest) [] s (piece.content ++ behind) =
    subst (λ (t : State). Goes state.Version (print_piece piece rest) [] t (piece.content ++ behind)) begins (header_then (kind_of piece.source) piece.high piece.low n piece.reserved (piece.content ++ behind)) in
    let back : Goes s (piece.content ++ behind) (content ++ []) state.Version rest =
    goes_on s (in_padding n) state.Version (piece.content ++ behind) behind rest content [] (content_then piece.source n piece.content behind) (counted_then in_padding padding_counts piece.padding rest) in
    goes_on state.Version s state.Version (print_piece piece rest) (piece.content ++ behind) rest [] content front
    (subst (λ (l : List ℕ). Goes s (piece.content ++ behind) l state.Version rest) (append-nil content) back)

pub pieces_then : (pieces : List Piece) (rest : List ℕ) → ArePieces pieces → Goes state.Version (print_pieces pieces rest) (stdout_of pieces) state.Version rest
pieces_then [] rest are = goes_nowhere state.Version rest
pieces_then (piece ∷ pieces) rest are =
    goes_on state.Version state.Version state.Version (print_piece piece (print_pieces pieces rest)) (print_pieces pieces rest) rest (content_of piece.source piece.content) (stdout_of pieces)
    (piece_then piece (print_pieces pieces rest) are.0) (pieces_then pieces rest are.1)

-- END_REQUEST up to the protocol status
status_then : (padding reserved : ℕ) (status rest : List ℕ) → length status ≡ 4 → Goes state.Version (print_header 3 0 8 padding reserved (status ++ rest)) [] (state.ProtocolStatus padding) rest
status_then padding reserved status rest four =
    let begins : judged (headed 3 0 8 padding) ≡ in_status (length status) padding = ap (λ (m : ℕ). in_status m padding) (sym four) in
    goes_on state.Version (in_status (length status) padding) (state.ProtocolStatus padding) (print_header 3 0 8 padding reserved (status ++ rest)) (status ++ rest) rest [] []
    (subst (λ (t : State). Goes state.Version (print_header 3 0 8 padding reserved (status ++ rest)) [] t (status ++ rest)) begins (header_then 3 0 8 padding reserved (status ++ rest)))
    (counted_then (λ n. in_status n padding) (status_counts padding) status rest)

protocol_zero : (padding : ℕ) → step (state.ProtocolStatus padding) 0 ≡ in_unused 3 padding
unfolding step
protocol_zero padding = refl

pub ending_then : (ending : Ending) (rest : List ℕ) → IsEnding ending → Goes state.Version (print_ending ending rest) [] state.Whole rest
ending_then ending rest is =
    let n : ℕ = length ending.padding in
    let last : List ℕ = ending.padding ++ rest in
    let behind : List ℕ = ending.unused ++ last in
    let three : step (state.ProtocolStatus n) 0 ≡ in_unused (length ending.unused) n = protocol_zero n ∙ ap (λ (m : ℕ). in_unused m n) (sym is.unused) in
    goes_on state.Version (state.ProtocolStatus n) state.Whole (print_ending ending rest) (0 ∷ behind) rest [] []
    (status_then n ending.reserved ending.status (0 ∷ behind) is.status)
    (framing_then (state.ProtocolStatus n) (in_unused (length ending.unused) n) state.Whole 0 behind [] rest refl three
    (goes_on (in_unused (length ending.unused) n) (in_end_padding n) state.Whole behind last rest [] []
    (counted_then (λ m. in_unused m n) (unused_counts n) ending.unused last)
    (counted_then in_end_padding end_counts ending.padding rest)))

-- a wrong header
judged_wrong : (why : Cause) (h : Header) → IsWrong why h → judged h ≡ state.Broken why
judged_wrong cause.WrongVersion h wrong = cond-false (h.version == 1) _ _ (ne_eqb h.version 1 wrong)
judged_wrong cause.WrongId h wrong = cond-true (h.version == 1) _ _ (eq-eqb h.version 1 wrong.0) ∙ cond-false (number h.id_high h.id_low == 1) _ _ (ne_eqb (number h.id_high h.id_low) 1 wrong.1)
judged_wrong cause.WrongType h wrong =
    cond-true (h.version == 1) _ _ (eq-eqb h.version 1 wrong.0) ∙ cond-true (number h.id_high h.id_low == 1) _ _ (eq-eqb (number h.id_high h.id_low) 1 wrong.1)
    ∙ cond-false (h.kind == 6) _ _ (ne_eqb h.kind 6 wrong.2) ∙ cond-false (h.kind == 7) _ _ (ne_eqb h.kind 7 wrong.3) ∙ cond-false (h.kind == 3) _ _ (ne_eqb h.kind 3 wrong.4)
judged_wrong cause.WrongEnd h wrong =
    cond-true (h.version == 1) _ _ (eq-eqb h.version 1 wrong.0) ∙ cond-true (number h.id_high h.id_low == 1) _ _ (eq-eqb (number h.id_high h.id_low) 1 wrong.1)
    ∙ ap (λ (k : ℕ). by_kind (record h { kind = k })) wrong.2 ∙ cond-false (number h.length_high h.length_low == 8) _ _ (ne_eqb (number h.length_high h.length_low) 8 wrong.3)
judged_wrong (cause.Refused protocol) h wrong = absurd wrong
judged_wrong cause.AfterEnd h wrong = absurd wrong

wrong_then : (why : Cause) (tail more : List ℕ) → WrongHeader why tail → Goes state.Version (tail ++ more) [] (state.Broken why) more
wrong_then why tail more w =
    subst (λ (l : List ℕ). Goes state.Version (l ++ more) [] (state.Broken why) more) (sym w.spelled)
    (subst (λ (s : State). Goes state.Version (print_raw w.header w.reserved ++ more) [] s more) (judged_wrong why w.header w.wrong) (eight w.header w.reserved more))

protocol_wrong : (protocol padding : ℕ) → protocol ≢ 0 → step (state.ProtocolStatus padding) protocol ≡ state.Broken (cause.Refused protocol)
unfolding step
protocol_wrong protocol padding wrong = cond-false (protocol == 0) _ _ (ne_eqb protocol 0 wrong)

end_then : (b : ℕ) → step state.Whole b ≡ state.Broken cause.AfterEnd
unfolding step
end_then b = refl

-- what is refused behind whole records
pub break_then : (why : Cause) (tail more : List ℕ) → Breaks why tail → Goes state.Version (tail ++ more) [] (state.Broken why) more
break_then cause.WrongVersion tail more w = wrong_then cause.WrongVersion tail more w
break_then cause.WrongId tail more w = wrong_then cause.WrongId tail more w
break_then cause.WrongType tail more w = wrong_then cause.WrongType tail more w
break_then cause.WrongEnd tail more w = wrong_then cause.WrongEnd tail more w
break_then (cause.Refused protocol) tail more w =
    let n : ℕ = w.padding in
    let s : State = state.Broken (cause.Refused protocol) in
    let same : tail ++ more ≡ print_header 3 0 8 n w.reserved (w.status ++ (protocol ∷ more)) =
    ap (λ (l : List ℕ). l ++ more) w.spelled ∙ ap (λ (l : List ℕ). print_header 3 0 8 n w.reserved l) (append_assoc w.status (protocol ∷ []) more) in
    subst (λ (l : List ℕ). Goes state.Version l [] s more) (sym same)
    (goes_on state.Version (state.ProtocolStatus n) s (print_header 3 0 8 n w.reserved (w.status ++ (protocol ∷ more))) (protocol ∷ more) more [] []
    (status_then n w.reserved w.status (protocol ∷ more) w.four)
    (framing_then (state.ProtocolStatus n) s s protocol more [] more refl (protocol_wrong protocol n w.wrong) (goes_nowhere s more)))
break_then cause.AfterEnd tail more w =
    let s : State = state.Broken cause.AfterEnd in
    let e : Ending = w.ending in
    let same : tail ++ more ≡ print_ending e (w.byte ∷ more) =
    ap (λ (l : List ℕ). l ++ more) w.spelled ∙ ap (λ (l : List ℕ). print_header 3 0 8 (length e.padding) e.reserved l)
    (append_assoc e.status (0 ∷ (e.unused ++ (e.padding ++ w.byte ∷ []))) more ∙ ap (λ (l : List ℕ). e.status ++ (0 ∷ l))
    (append_assoc e.unused (e.padding ++ w.byte ∷ []) more ∙ ap (λ (l : List ℕ). e.unused ++ l) (append_assoc e.padding (w.byte ∷ []) more))) in
    subst (λ (l : List ℕ). Goes state.Version l [] s more) (sym same)
    (goes_on state.Version state.Whole s (print_ending e (w.byte ∷ more)) (w.byte ∷ more) more [] []
    (ending_then e (w.byte ∷ more) w.is)
    (framing_then state.Whole s s w.byte more [] more refl (end_then w.byte) (goes_nowhere s more)))
