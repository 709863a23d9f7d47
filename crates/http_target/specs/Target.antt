-- What a request target says (RFC 9112, section 3.2; RFC 3986, section 3).
use Rattle.std.specs.Prelude.{ℕ, Bool, false, ◌||◌, not, nat_lt, List, [], ◌∷◌, take, drop, Option, Some, None, if◌then◌else◌, ◌==◌, codes}
use Rattle.std.specs.List.{list_any, position_or_len, before_first, after_first}
use Rattle.percent_encoding.specs.Percent.{percent_decode}
use Rattle.lt_bytes.specs.Words.{same_word}
use Rattle.http_target.specs.Path.{normal}
use Rattle.http_target.specs.declared.read.Target.{Target}

-- `http://`, in any case of its letters (RFC 9110, section 4.2.1)
abbrev pub has_scheme : List ℕ → Bool
has_scheme sent = same_word (take 7 sent) (codes "http://")

-- what ends an authority: a slash, a question mark or a number sign (RFC 3986, section 3.2)
abbrev pub ends_authority : ℕ → Bool
ends_authority b = b == 47 || b == 63 || b == 35

-- the authority of a target in absolute form
abbrev pub authority_of : List ℕ → Option (List ℕ)
authority_of sent = if has_scheme sent then Some (before_first ends_authority (drop 7 sent)) else None

-- what follows scheme and authority
abbrev pub after_authority : List ℕ → List ℕ
after_authority sent =
    if has_scheme sent then drop (position_or_len ends_authority (drop 7 sent)) (drop 7 sent) else sent

abbrev pub begins_with_slash : List ℕ → Bool
begins_with_slash [] = false
begins_with_slash (b ∷ bytes) = b == 47

-- a path may be empty behind an authority alone (RFC 9110, section 4.2.3)
abbrev pub with_slash : List ℕ → List ℕ
with_slash rest = if begins_with_slash rest then rest else 47 ∷ rest

-- the target in origin form
abbrev pub raw_of : List ℕ → List ℕ
raw_of sent = if has_scheme sent then with_slash (after_authority sent) else sent

-- the target without its fragment, which a number sign begins
abbrev pub without_fragment : List ℕ → List ℕ
without_fragment raw = before_first (λ b. b == 35) raw

-- the path as it was sent, before the first question mark, and the query after it
abbrev pub sent_path_of : List ℕ → List ℕ
sent_path_of raw = before_first (λ b. b == 63) (without_fragment raw)

abbrev pub query_of : List ℕ → List ℕ
query_of raw = after_first (λ b. b == 63) (without_fragment raw)

-- the path with its escapes decoded
abbrev pub decoded_path_of : List ℕ → List ℕ
decoded_path_of raw = percent_decode (sent_path_of raw)

abbrev pub is_control : ℕ → Bool
is_control b = nat_lt b 32 || b == 127

-- not in origin form, or a control byte in the decoded path
abbrev pub is_bad : List ℕ → Bool
is_bad raw = not (begins_with_slash raw) || list_any is_control (decoded_path_of raw)

abbrev pub read_raw : List ℕ → Option Target
read_raw raw =
    if is_bad raw then None
    else Some (record { raw = raw; path = normal (decoded_path_of raw); query = query_of raw })

-- what the target says, or nothing where it is bad
abbrev pub target_of : List ℕ → Option Target
target_of sent = read_raw (raw_of sent)
