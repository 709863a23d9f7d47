-- Whole records, and what stands behind them.
use Rattle.std.proofs.Common.{◌≡◌, ℕ, List, [], ◌∷◌, ◌++◌, length, refl, ap, sym, ◌∙◌, append_assoc, append-nil}
use Rattle.fcgi_records.specs.Grammar.{kind_of, Piece, IsPiece, ArePieces, print_header, print_piece, print_pieces, content_of, stdout_of}

-- the bytes are whole records and the tail, and what they carry is theirs and the extra
pub record Held (bytes out tail extra : List ℕ) : Type 0 where
  pub pieces : List Piece
  pub are : ArePieces pieces
  pub spelled : bytes ≡ print_pieces pieces tail
  pub carries : out ≡ stdout_of pieces ++ extra

pub held_nothing : Held [] [] [] []
held_nothing = record { pieces = []; are = tt; spelled = refl; carries = refl }

piece_append : (piece : Piece) (tail more : List ℕ) → print_piece piece tail ++ more ≡ print_piece piece (tail ++ more)
piece_append piece tail more =
    ap (λ (l : List ℕ). print_header (kind_of piece.source) piece.high piece.low (length piece.padding) piece.reserved l)
    (append_assoc piece.content (piece.padding ++ tail) more ∙ ap (λ (l : List ℕ). piece.content ++ l) (append_assoc piece.padding tail more))

pub pieces_append : (pieces : List Piece) (tail more : List ℕ) → print_pieces pieces tail ++ more ≡ print_pieces pieces (tail ++ more)
pieces_append [] tail more = refl
pieces_append (piece ∷ pieces) tail more = piece_append piece (print_pieces pieces tail) more ∙ ap (print_piece piece) (pieces_append pieces tail more)

-- a byte more, which carries this
pub held_more : (bytes out tail extra kept : List ℕ) (b : ℕ) → Held bytes out tail extra → Held (bytes ++ b ∷ []) (out ++ kept) (tail ++ b ∷ []) (extra ++ kept)
held_more bytes out tail extra kept b h = record {
  pieces = h.pieces;
  are = h.are;
  spelled = ap (λ (l : List ℕ). l ++ b ∷ []) h.spelled ∙ pieces_append h.pieces tail (b ∷ []);
  carries = ap (λ (l : List ℕ). l ++ kept) h.carries ∙ append_assoc (stdout_of h.pieces) extra kept;
}

pub held_framing : (bytes out tail extra : List ℕ) (b : ℕ) → Held bytes out tail extra → Held (bytes ++ b ∷ []) (out ++ []) (tail ++ b ∷ []) extra
held_framing bytes out tail extra b h = record {
  pieces = h.pieces;
  are = h.are;
  spelled = ap (λ (l : List ℕ). l ++ b ∷ []) h.spelled ∙ pieces_append h.pieces tail (b ∷ []);
  carries = append-nil out ∙ h.carries;
}

pub are_append : (pieces : List Piece) (piece : Piece) → ArePieces pieces → IsPiece piece → ArePieces (pieces ++ piece ∷ [])
are_append [] piece are is = (is, tt)
are_append (first ∷ pieces) piece are is = (are.0, are_append pieces piece are.1 is)

pub print_append : (pieces : List Piece) (piece : Piece) (rest : List ℕ) → print_pieces (pieces ++ piece ∷ []) rest ≡ print_pieces pieces (print_piece piece rest)
print_append [] piece rest = refl
print_append (first ∷ pieces) piece rest = ap (print_piece first) (print_append pieces piece rest)

pub stdout_append : (pieces : List Piece) (piece : Piece) → stdout_of (pieces ++ piece ∷ []) ≡ stdout_of pieces ++ content_of piece.source piece.content
stdout_append [] piece = append-nil (content_of piece.source piece.content)
stdout_append (first ∷ pieces) piece =
    ap (λ (l : List ℕ). content_of first.source first.content ++ l) (stdout_append pieces piece) ∙ sym (append_assoc (content_of first.source first.content) (stdout_of pieces) (content_of piece.source piece.content))

-- the tail is a whole record
pub held_piece : (bytes out tail extra : List ℕ) (piece : Piece) → Held bytes out tail extra → IsPiece piece → tail ≡ print_piece piece [] → extra ≡ content_of piece.source piece.content → Held bytes out [] []
held_piece bytes out tail extra piece h is spelled carries = record {
  pieces = h.pieces ++ piece ∷ [];
  are = are_append h.pieces piece h.are is;
  spelled = h.spelled ∙ ap (print_pieces h.pieces) spelled ∙ sym (print_append h.pieces piece []);
  carries = h.carries ∙ ap (λ (l : List ℕ). stdout_of h.pieces ++ l) carries ∙ sym (stdout_append h.pieces piece) ∙ sym (append-nil (stdout_of (h.pieces ++ piece ∷ [])));
}
