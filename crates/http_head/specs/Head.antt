-- What a whole request head says, as a function of its bytes (RFC 9112; RFC 9110).
use Rattle.std.specs.Prelude.{◌≡◌, ◌⊎◌, ℕ, Bool, nat_lt, nat_le, List, length, Option, Some, None, Result, Ok, Err, if◌then◌else◌, bytes_eq, codes}
use Rattle.std.specs.List.{list_all}
use Rattle.httparse.specs.Grammar.{RequestHead}
use Rattle.http_header.specs.FieldValue.{FieldValue}
use Rattle.http_header.specs.HeaderMap.{Entries}
use Rattle.http_target.specs.Target.{target_of}
use Rattle.http_target.specs.declared.read.Target.{Target}
use Rattle.http_head.specs.Lines.{field_lines, start_line, ends_in_other_version}
use Rattle.http_head.specs.Fields.{map_of, pairs_of}
use Rattle.http_head.specs.Read.{read_request}
use Rattle.http_head.specs.Framing.{framing_of}
use Rattle.http_head.specs.Options.{closes, expects}
use Rattle.http_head.specs.Host.{has_bad_host, host_field_of, host_of}
use Rattle.http_head.specs.declared.limits.TheConstants.{FIELD_LINE_LIMIT}
use Rattle.http_head.specs.declared.framing.Framing.{Framing}
use Rattle.http_head.specs.declared.refusal.HeadRefusal.{HeadRefusal}
use Rattle.http_head.specs.declared.refusal.HeadRefusal.TheVariants.{BadHead, BadTarget, TooLarge, BadVersion, NotImplemented, NoMemory}
use Rattle.http_head.specs.declared.head.Request.{Request}

-- a bad target is the last refusal
abbrev pub request_to : ℕ → List ℕ → List ℕ → Entries FieldValue → Framing → Option Target → Result Request HeadRefusal
request_to minor method sent fields framing None = Err BadTarget
request_to minor method sent fields framing (Some target) =
    Ok (record {
      method = method;
      sent = sent;
      target = target;
      minor = minor;
      host = host_of (host_field_of sent fields);
      host_field = host_field_of sent fields;
      fields = fields;
      framing = framing;
      close = closes minor fields;
      expect = expects minor fields;
    })

-- a CONNECT whose body is framed well is not implemented
abbrev pub request_by : ℕ → List ℕ → List ℕ → Entries FieldValue → Result Framing HeadRefusal → Result Request HeadRefusal
request_by minor method sent fields (Err refusal) = Err refusal
request_by minor method sent fields (Ok framing) =
    if bytes_eq method (codes "CONNECT") then Err NotImplemented
    else request_to minor method sent fields framing (target_of sent)

-- by the words of the start line and the fields: first the hosts are judged, then the framing
abbrev pub request_of : ℕ → List ℕ → List ℕ → Entries FieldValue → Result Request HeadRefusal
request_of minor method sent fields =
    if has_bad_host minor fields then Err BadHead
    else request_by minor method sent fields (framing_of minor fields)

-- the map takes names up to this length
abbrev pub has_short_names : RequestHead → Bool
has_short_names h = list_all (λ f. nat_le (length f.name) 65535) h.fields

-- a head that the grammar does not read, or the map does not take, is bad
abbrev pub request_read : Option (RequestHead × List ℕ) → Result Request HeadRefusal
request_read None = Err BadHead
request_read (Some p) =
    if has_short_names p.0 then request_of p.0.minor p.0.method p.0.target (map_of (pairs_of p.0)) else Err BadHead

-- the head, or the first refusal in order: too many field lines, another version, then what is read
unfoldable pub head_of : List ℕ → Result Request HeadRefusal
head_of bytes =
    if nat_lt FIELD_LINE_LIMIT (field_lines bytes) then Err TooLarge
    else (if ends_in_other_version (start_line bytes) then Err BadVersion else request_read (read_request bytes))

-- the result is what is due, but for the want of memory
abbrev pub Says : Result Request HeadRefusal → Result Request HeadRefusal → Type 0
Says due (Ok request) = due ≡ Ok request
Says due (Err refusal) = (refusal ≡ NoMemory) ⊎ (due ≡ Err refusal)
