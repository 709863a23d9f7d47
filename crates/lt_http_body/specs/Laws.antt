-- What is answered for the bytes behind a head, and what they begin.
use Rattle.std.specs.Prelude.{◌≡◌, true, ℕ, List, [], ◌++◌, drop, Result}
use Rattle.std.specs.Str.Parse.{digits_value}
use Rattle.http_head.specs.declared.framing.Framing.{Framing}
use Rattle.lt_http_body.specs.declared.body.BodyState.{BodyState}
use Rattle.lt_http_body.specs.declared.body.BodyRefusal.{BodyRefusal}
use Rattle.lt_http_body.specs.Standings.{begin, limit_of, is_above, answer_from}
use Rattle.lt_http_body.specs.Reading.{standing_after, data_in, taken_in}
use Rattle.lt_http_body.specs.Grammar.{SizeLine, Chunk, ChunkedBody, AreChunks, IsSizeLine, IsChunkedBody, print_size, print_chunks, print, data_of, Fits, room_behind}
use Rattle.http_head.specs.declared.framing.Framing.TheVariants.{Chunked}

-- what is answered for the bytes, and which of them are the body's own
abbrev pub answer_of : Framing → ℕ → List ℕ → Result BodyState BodyRefusal
answer_of framing limit bytes = answer_from (standing_after (begin framing limit) bytes).state

abbrev pub body_of : Framing → ℕ → List ℕ → List ℕ
body_of framing limit bytes = data_in (begin framing limit) bytes

abbrev pub size_of : Framing → ℕ → List ℕ → ℕ
size_of framing limit bytes = taken_in (begin framing limit) bytes

-- the bytes are a chunked body within the limit, and what stands behind it
pub record Spells (limit : ℕ) (bytes : List ℕ) : Type 0 where
  pub body : ChunkedBody
  pub is : IsChunkedBody body
  pub fits : Fits (limit_of limit) body.chunks
  pub spelled : bytes ≡ print body (drop (size_of Chunked limit bytes) bytes)
  pub carries : body_of Chunked limit bytes ≡ data_of body.chunks

-- some chunked body begins with the bytes
pub record Begins (bytes : List ℕ) : Type 0 where
  pub body : ChunkedBody
  pub more : List ℕ
  pub is : IsChunkedBody body
  pub spelled : bytes ++ more ≡ print body []

-- the bytes are chunks within the limit and a size line that takes the sum above it
pub record Exceeds (limit : ℕ) (bytes : List ℕ) : Type 0 where
  pub chunks : List Chunk
  pub line : SizeLine
  pub are : AreChunks chunks
  pub is : IsSizeLine line
  pub fits : Fits (limit_of limit) chunks
  pub above : is_above (digits_value 16 line.digits) (room_behind (limit_of limit) chunks) ≡ true
  pub more : List ℕ
  pub spelled : bytes ++ more ≡ print_chunks chunks (print_size line more)
