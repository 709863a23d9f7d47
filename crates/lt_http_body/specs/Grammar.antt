-- The chunked transfer coding (RFC 9112, section 7.1), as a tree and its printer. What is printed stands before the bytes that are given last.
use Rattle.std.specs.Prelude.{◌≡◌, ◌≢◌, false, ℕ, ◌+◌, ◌≤◌, ◌<◌, List, [], ◌∷◌, ◌++◌, length, Option, Some, None}
use Rattle.std.specs.Str.Parse.{AllDigits, digits_value}
use Rattle.lt_http_body.specs.declared.limits.TheConstants.{SIZE_DIGITS, EXTENSION_LIMIT, TRAILER_LIMIT}
use Rattle.lt_http_body.specs.Standings.{is_above, less}

-- chunk-size [ chunk-ext ] CRLF: the digits, and what stands behind the `;`
pub record SizeLine : Type 0 where
  pub digits : List ℕ
  pub extension : Option (List ℕ)

-- chunk: a size line, data and CRLF
pub record Chunk : Type 0 where
  pub line : SizeLine
  pub bytes : List ℕ

-- how a line of the trailer ends
pub data LineEnd : Type 0 where
  Crlf : LineEnd
  Lf : LineEnd

-- field-line: its bytes, which are not read, and its end
pub record FieldLine : Type 0 where
  pub text : List ℕ
  pub ending : LineEnd

-- chunked-body: chunks, the size line of the last chunk, the trailer and the empty line behind it
pub record ChunkedBody : Type 0 where
  pub chunks : List Chunk
  pub last : SizeLine
  pub lines : List FieldLine
  pub ending : LineEnd

-- neither CR nor LF
abbrev pub IsText : List ℕ → Type 0
IsText [] = Unit {0}
IsText (byte ∷ bytes) = (byte ≢ 13) × (byte ≢ 10) × IsText bytes

abbrev pub IsExtension : Option (List ℕ) → Type 0
IsExtension None = Unit {0}
IsExtension (Some text) = (length text ≤ EXTENSION_LIMIT) × IsText text

pub record IsSizeLine (line : SizeLine) : Type 0 where
  pub some : 1 ≤ length line.digits
  pub few : length line.digits ≤ SIZE_DIGITS
  pub digits : AllDigits 16 line.digits
  pub extension : IsExtension line.extension

-- the size is that of the data, which is not empty
pub record IsChunk (chunk : Chunk) : Type 0 where
  pub line : IsSizeLine chunk.line
  pub size : digits_value 16 chunk.line.digits ≡ length chunk.bytes
  pub some : 0 < length chunk.bytes

abbrev pub AreChunks : List Chunk → Type 0
AreChunks [] = Unit {0}
AreChunks (chunk ∷ chunks) = IsChunk chunk × AreChunks chunks

abbrev pub AreFieldLines : List FieldLine → Type 0
AreFieldLines [] = Unit {0}
AreFieldLines (line ∷ lines) = (0 < length line.text) × IsText line.text × AreFieldLines lines

-- how many bytes lines and their ends have
abbrev pub end_size : LineEnd → ℕ
end_size Crlf = 2
end_size Lf = 1

abbrev pub lines_size : List FieldLine → ℕ
lines_size [] = 0
lines_size (line ∷ lines) = length line.text + end_size line.ending + lines_size lines

pub record IsChunkedBody (body : ChunkedBody) : Type 0 where
  pub chunks : AreChunks body.chunks
  pub last : IsSizeLine body.last
  pub zero_size : digits_value 16 body.last.digits ≡ 0
  pub lines : AreFieldLines body.lines
  pub room : lines_size body.lines + end_size body.ending ≤ TRAILER_LIMIT

abbrev pub print_extension : Option (List ℕ) → List ℕ → List ℕ
print_extension None rest = rest
print_extension (Some text) rest = 59 ∷ (text ++ rest)

abbrev pub print_size : SizeLine → List ℕ → List ℕ
print_size line rest = line.digits ++ print_extension line.extension (13 ∷ 10 ∷ rest)

abbrev pub print_chunk : Chunk → List ℕ → List ℕ
print_chunk chunk rest = print_size chunk.line (chunk.bytes ++ 13 ∷ 10 ∷ rest)

abbrev pub print_chunks : List Chunk → List ℕ → List ℕ
print_chunks [] rest = rest
print_chunks (chunk ∷ chunks) rest = print_chunk chunk (print_chunks chunks rest)

abbrev pub print_end : LineEnd → List ℕ → List ℕ
print_end Crlf rest = 13 ∷ 10 ∷ rest
print_end Lf rest = 10 ∷ rest

abbrev pub print_lines : List FieldLine → List ℕ → List ℕ
print_lines [] rest = rest
print_lines (line ∷ lines) rest = line.text ++ print_end line.ending (print_lines lines rest)

abbrev pub print : ChunkedBody → List ℕ → List ℕ
print body rest = print_chunks body.chunks (print_size body.last (print_lines body.lines (print_end body.ending rest)))

-- the data of the chunks, joined
abbrev pub data_of : List Chunk → List ℕ
data_of [] = []
data_of (chunk ∷ chunks) = chunk.bytes ++ data_of chunks

-- no chunk takes the sum above the limit, where there is one
abbrev pub Fits : Option ℕ → List Chunk → Type 0
Fits room [] = Unit {0}
Fits room (chunk ∷ chunks) = (is_above (length chunk.bytes) room ≡ false) × Fits (less room (length chunk.bytes)) chunks

-- so much room is left behind the chunks
abbrev pub room_behind : Option ℕ → List Chunk → Option ℕ
room_behind room [] = room
room_behind room (chunk ∷ chunks) = room_behind (less room (length chunk.bytes)) chunks
