-- An answer as a tree and its printer (FastCGI Specification 1.0, sections 3.3, 5.3 and 5.5). What is printed stands before the bytes that are given last. Over bytes, each below 256, these are the records of the specification.
use Rattle.std.specs.Prelude.{◌≡◌, ◌≢◌, ℕ, List, [], ◌∷◌, ◌++◌, length}
use Rattle.fcgi_records.specs.declared.header.Header.{Header}
use Rattle.fcgi_records.specs.declared.state.Cause.{Cause}
use Rattle.fcgi_records.specs.declared.state.Cause.TheVariants as cause
use Rattle.fcgi_records.specs.States.{number}

-- to which of the application's streams a record belongs
pub data Source : Type 0 where
  Stdout : Source
  Stderr : Source

abbrev pub kind_of : Source → ℕ
kind_of Stdout = 6
kind_of Stderr = 7

-- a record of STDOUT or STDERR: the two bytes of its content length, the reserved byte, content and padding
pub record Piece : Type 0 where
  pub source : Source
  pub high : ℕ
  pub low : ℕ
  pub reserved : ℕ
  pub content : List ℕ
  pub padding : List ℕ

-- END_REQUEST: the reserved byte of its header, the application's status, the bytes behind the protocol status, padding
pub record Ending : Type 0 where
  pub reserved : ℕ
  pub status : List ℕ
  pub unused : List ℕ
  pub padding : List ℕ

-- records of STDOUT and STDERR, and END_REQUEST
pub record Answer : Type 0 where
  pub pieces : List Piece
  pub ending : Ending

-- the content length is that of the content
abbrev pub IsPiece : Piece → Type 0
IsPiece piece = number piece.high piece.low ≡ length piece.content

abbrev pub ArePieces : List Piece → Type 0
ArePieces [] = Unit {0}
ArePieces (piece ∷ pieces) = IsPiece piece × ArePieces pieces

pub record IsEnding (ending : Ending) : Type 0 where
  pub status : length ending.status ≡ 4
  pub unused : length ending.unused ≡ 3

pub record IsAnswer (answer : Answer) : Type 0 where
  pub pieces : ArePieces answer.pieces
  pub ending : IsEnding answer.ending

-- version 1, a type, request id 1, content length, padding length and a reserved byte
abbrev pub print_header : ℕ → ℕ → ℕ → ℕ → ℕ → List ℕ → List ℕ
print_header kind high low padding reserved rest = 1 ∷ kind ∷ 0 ∷ 1 ∷ high ∷ low ∷ padding ∷ reserved ∷ rest

abbrev pub print_piece : Piece → List ℕ → List ℕ
print_piece piece rest = print_header (kind_of piece.source) piece.high piece.low (length piece.padding) piece.reserved (piece.content ++ (piece.padding ++ rest))

abbrev pub print_pieces : List Piece → List ℕ → List ℕ
print_pieces [] rest = rest
print_pieces (piece ∷ pieces) rest = print_piece piece (print_pieces pieces rest)

-- the protocol status is 0
abbrev pub print_ending : Ending → List ℕ → List ℕ
print_ending ending rest = print_header 3 0 8 (length ending.padding) ending.reserved (ending.status ++ (0 ∷ (ending.unused ++ (ending.padding ++ rest))))

abbrev pub print : Answer → List ℕ
print answer = print_pieces answer.pieces (print_ending answer.ending [])

-- the content of STDOUT, joined
abbrev pub content_of : Source → List ℕ → List ℕ
content_of Stdout content = content
content_of Stderr content = []

abbrev pub stdout_of : List Piece → List ℕ
stdout_of [] = []
stdout_of (piece ∷ pieces) = content_of piece.source piece.content ++ stdout_of pieces

-- what is wrong with a header, the first cause first
abbrev pub IsWrong : Cause → Header → Type 0
IsWrong cause.WrongVersion h = h.version ≢ 1
IsWrong cause.WrongId h = (h.version ≡ 1) × (number h.id_high h.id_low ≢ 1)
IsWrong cause.WrongType h = (h.version ≡ 1) × (number h.id_high h.id_low ≡ 1) × (h.kind ≢ 6) × (h.kind ≢ 7) × (h.kind ≢ 3)
IsWrong cause.WrongEnd h = (h.version ≡ 1) × (number h.id_high h.id_low ≡ 1) × (h.kind ≡ 3) × (number h.length_high h.length_low ≢ 8)
IsWrong other h = ⊥

-- a header as it stands
abbrev pub print_raw : Header → ℕ → List ℕ
print_raw h reserved = h.version ∷ h.kind ∷ h.id_high ∷ h.id_low ∷ h.length_high ∷ h.length_low ∷ h.padding ∷ reserved ∷ []

pub record WrongHeader (why : Cause) (tail : List ℕ) : Type 0 where
  pub header : Header
  pub reserved : ℕ
  pub wrong : IsWrong why header
  pub spelled : tail ≡ print_raw header reserved

pub record WrongStatus (protocol : ℕ) (tail : List ℕ) : Type 0 where
  pub padding : ℕ
  pub reserved : ℕ
  pub status : List ℕ
  pub four : length status ≡ 4
  pub wrong : protocol ≢ 0
  pub spelled : tail ≡ print_header 3 0 8 padding reserved (status ++ protocol ∷ [])

pub record OneMore (tail : List ℕ) : Type 0 where
  pub ending : Ending
  pub byte : ℕ
  pub is : IsEnding ending
  pub spelled : tail ≡ print_ending ending (byte ∷ [])

-- the table of causes: what stands behind whole records, up to the byte with which the stream is refused
abbrev pub Breaks : Cause → List ℕ → Type 0
Breaks (cause.Refused protocol) tail = WrongStatus protocol tail
Breaks cause.AfterEnd tail = OneMore tail
Breaks why tail = WrongHeader why tail
