-- Words of the laws on what bytes say.
use Rattle.std.specs.Prelude.{◌≡◌, ◌<◌, ℕ, List, [], ◌∷◌, ◌++◌, length}
use Rattle.fcgi_records.specs.declared.state.Cause.{Cause}
use Rattle.fcgi_records.specs.Encoded.{header_of}
use Rattle.fcgi_records.specs.Grammar.{Piece, Answer, ArePieces, IsAnswer, print_pieces, print, stdout_of, Breaks}

-- the bytes are an answer, which carries this
pub record Spells (bytes stdout : List ℕ) : Type 0 where
  pub answer : Answer
  pub is : IsAnswer answer
  pub spelled : bytes ≡ print answer
  pub carries : stdout ≡ stdout_of answer.pieces

-- the bytes are whole records, which carry this, and up to their last byte what is refused for this cause
pub record IsRefused (why : Cause) (bytes stdout : List ℕ) : Type 0 where
  pub pieces : List Piece
  pub tail : List ℕ
  pub are : ArePieces pieces
  pub breaks : Breaks why tail
  pub spelled : bytes ≡ print_pieces pieces tail
  pub carries : stdout ≡ stdout_of pieces

-- the records of these contents, each with its header, as `encode_header` gives it
abbrev pub records_of : List (List ℕ) → List ℕ → List ℕ
records_of [] rest = rest
records_of (content ∷ contents) rest = header_of 6 (length content) ++ (content ++ records_of contents rest)

abbrev pub AreShort : List (List ℕ) → Type 0
AreShort [] = Unit {0}
AreShort (content ∷ contents) = (length content < 65536) × AreShort contents

abbrev pub joined : List (List ℕ) → List ℕ
joined [] = []
joined (content ∷ contents) = content ++ joined contents

-- END_REQUEST with both statuses 0
abbrev pub served : List ℕ
served = header_of 3 8 ++ (0 ∷ 0 ∷ 0 ∷ 0 ∷ 0 ∷ 0 ∷ 0 ∷ 0 ∷ [])

-- some answer begins with the bytes, but for the first bytes of a header behind whole records; and what it carries begins with this
pub record GoesOn (bytes stdout : List ℕ) : Type 0 where
  pub front : List ℕ
  pub part : List ℕ
  pub cut : bytes ≡ front ++ part
  pub few : length part < 8
  pub more : List ℕ
  pub later : List ℕ
  pub answer : Answer
  pub is : IsAnswer answer
  pub spelled : front ++ more ≡ print answer
  pub carries : stdout ++ later ≡ stdout_of answer.pieces
