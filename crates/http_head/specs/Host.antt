-- The host that a request is for (RFC 9110, section 7.2; RFC 9112, section 3.2).
use Rattle.std.specs.Prelude.{ℕ, Bool, ◌&&◌, ◌||◌, ◌==◌, nat_lt, List, [], ◌∷◌, length, codes, unwrap_or, if◌then◌else◌}
use Rattle.std.specs.List.{list_all}
use Rattle.std.specs.Char.{is_ascii_digit}
use Rattle.lt_bytes.specs.Words.{lowered}
use Rattle.http_header.specs.FieldValue.{FieldValue}
use Rattle.http_header.specs.HeaderMap.{Entries, get_all}
use Rattle.http_target.specs.Target.{authority_of}
use Rattle.http_head.specs.Fields.{first_value}

-- HTTP/1.1 without exactly one Host, or HTTP/1.0 with more than one
abbrev pub has_bad_host : ℕ → Entries FieldValue → Bool
has_bad_host minor fields =
    let hosts = length (get_all fields (codes "host")) in
    nat_lt 1 hosts || ((minor == 1) && (hosts == 0))

-- the authority of a target in absolute form, else the value of Host, which may be missing
abbrev pub host_field_of : List ℕ → Entries FieldValue → List ℕ
host_field_of sent fields = unwrap_or (authority_of sent) (first_value fields (codes "host"))

-- what stands before a colon that only digits or nothing follow
abbrev pub without_port : List ℕ → List ℕ
without_port [] = []
without_port (b ∷ rest) = if b == 58 && list_all is_ascii_digit rest then [] else b ∷ without_port rest

-- the host without its port, in lower case
abbrev pub host_of : List ℕ → List ℕ
host_of field = lowered (without_port field)
