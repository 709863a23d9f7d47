-- How a body is framed (RFC 9112, section 6).
use Rattle.std.specs.Prelude.{◌≡◌, ◌≢◌, ◌⊎◌, true, ℕ, ◌^◌, ◌-◌, Bool, ◌==◌, List, [], ◌∷◌, codes, Result, Ok, Err, if◌then◌else◌}
use Rattle.lt_bytes.specs.Numbers.{number_of}
use Rattle.lt_bytes.specs.Words.{same_word}
use Rattle.lt_bytes.specs.declared.numbers.Number.{Number}
use Rattle.lt_bytes.specs.declared.numbers.Number.TheVariants as number
use Rattle.http_header.specs.FieldValue.{FieldValue}
use Rattle.http_header.specs.HeaderMap.{Entries, get_all}
use Rattle.http_head.specs.declared.framing.Framing.{Framing}
use Rattle.http_head.specs.declared.framing.Framing.TheVariants as framed
use Rattle.http_head.specs.declared.refusal.HeadRefusal.{HeadRefusal}
use Rattle.http_head.specs.declared.refusal.HeadRefusal.TheVariants.{BadHead, NotImplemented}

abbrev pub is_chunked : List ℕ → Bool
is_chunked value = same_word value (codes "chunked")

-- a number past 64 bits counts as the greatest that they hold
abbrev pub length_of : Number → Result Framing HeadRefusal
length_of (number.Value n) = Ok (framed.Length n)
length_of number.Overflow = Ok (framed.Length (2 ^ 64 - 1))
length_of number.NotANumber = Err BadHead

-- by the values of Transfer-Encoding and of Content-Length: both together, or a coding in HTTP/1.0, is
-- a bad head; another coding than chunked, or several, is not implemented; several lengths, or one that
-- is no number, is a bad head
abbrev pub framing_by : ℕ → List FieldValue → List FieldValue → Result Framing HeadRefusal
framing_by minor [] [] = Ok framed.None
framing_by minor [] (v ∷ []) = length_of (number_of 10 v.bytes)
framing_by minor [] (v ∷ w ∷ more) = Err BadHead
framing_by minor (t ∷ ts) (v ∷ vs) = Err BadHead
framing_by minor (t ∷ []) [] =
    if minor == 0 then Err BadHead else (if is_chunked t.bytes then Ok framed.Chunked else Err NotImplemented)
framing_by minor (t ∷ u ∷ more) [] = if minor == 0 then Err BadHead else Err NotImplemented

abbrev pub framing_of : ℕ → Entries FieldValue → Result Framing HeadRefusal
framing_of minor fields =
    framing_by minor (get_all fields (codes "transfer-encoding")) (get_all fields (codes "content-length"))

-- the digits write the number, or one past 64 bits, for which the greatest stands
abbrev pub IsLengthOf : List ℕ → ℕ → Type 0
IsLengthOf digits n =
    (number_of 10 digits ≡ number.Value n) ⊎ ((number_of 10 digits ≡ number.Overflow) × (n ≡ 2 ^ 64 - 1))

-- one field states this framing, and the other field is not there
abbrev pub IsFramed : ℕ → Entries FieldValue → Framing → Type 0
IsFramed minor fields framed.None =
    (get_all fields (codes "transfer-encoding") ≡ []) × (get_all fields (codes "content-length") ≡ [])
IsFramed minor fields (framed.Length n) =
    (get_all fields (codes "transfer-encoding") ≡ [])
    × ((v : FieldValue) × (get_all fields (codes "content-length") ≡ v ∷ []) × IsLengthOf v.bytes n)
IsFramed minor fields framed.Chunked =
    (get_all fields (codes "content-length") ≡ []) × (minor ≢ 0)
    × ((t : FieldValue) × (get_all fields (codes "transfer-encoding") ≡ t ∷ []) × (is_chunked t.bytes ≡ true))
