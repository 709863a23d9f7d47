-- What a request asks of its connection: to close it, and to be told to go on.
use Rattle.std.specs.Prelude.{ℕ, Bool, ◌&&◌, ◌||◌, ◌==◌, not, List, codes}
use Rattle.std.specs.List.{list_any, slice_split}
use Rattle.lt_bytes.specs.Words.{same_word, trimmed}
use Rattle.http_header.specs.FieldValue.{FieldValue}
use Rattle.http_header.specs.HeaderMap.{Entries, get_all}

abbrev pub is_comma : ℕ → Bool
is_comma b = b == 44

-- a piece between the commas is the word, in any case and without the blanks around it (RFC 9110,
-- section 5.6.1)
abbrev pub lists : List ℕ → List ℕ → Bool
lists word value = list_any (λ piece. same_word (trimmed piece) word) (slice_split is_comma value)

-- some value of Connection lists the option (RFC 9110, section 7.6.1)
abbrev pub has_option : Entries FieldValue → List ℕ → Bool
has_option fields word = list_any (λ v. lists word v.bytes) (get_all fields (codes "connection"))

-- the connection does not persist (RFC 9112, section 9.3)
abbrev pub closes : ℕ → Entries FieldValue → Bool
closes minor fields =
    has_option fields (codes "close") || (minor == 0 && not (has_option fields (codes "keep-alive")))

-- the client waits for 100 (Continue): a value of Expect asks for it, which HTTP/1.0 does not have
-- (RFC 9110, section 10.1.1)
abbrev pub expects : ℕ → Entries FieldValue → Bool
expects minor fields =
    minor == 1 && list_any (λ v. same_word v.bytes (codes "100-continue")) (get_all fields (codes "expect"))
