-- Whether a connection persists, and whether its client waits to be told, is what the version and the fields say.
use Rattle.std.proofs.Common.{◌≡◌, ℕ, Bool, true, false, List, bytes_eq, nat_lt, if◌then◌else◌, Option, Some, None}
use Rattle.std.specs.Prelude.{Result, Ok, Err, codes}
use Rattle.httparse.specs.Grammar.{RequestHead}
use Rattle.http_header.specs.FieldValue.{FieldValue}
use Rattle.http_header.specs.HeaderMap.{Entries}
use Rattle.http_target.specs.Target.{target_of}
use Rattle.http_target.specs.declared.read.Target.{Target}
use Rattle.http_head.specs.declared.limits.TheConstants.{FIELD_LINE_LIMIT}
use Rattle.http_head.specs.declared.framing.Framing.{Framing}
use Rattle.http_head.specs.declared.refusal.HeadRefusal.{HeadRefusal}
use Rattle.http_head.specs.declared.refusal.HeadRefusal.TheVariants.{BadHead, TooLarge, BadVersion, NotImplemented}
use Rattle.http_head.specs.declared.head.Request.{Request}
use Rattle.http_head.specs.Lines.{field_lines, start_line, ends_in_other_version}
use Rattle.http_head.specs.Fields.{map_of, pairs_of}
use Rattle.http_head.specs.Read.{read_request}
use Rattle.http_head.specs.Framing.{framing_of}
use Rattle.http_head.specs.Options.{closes, expects}
use Rattle.http_head.specs.Host.{has_bad_host}
use Rattle.http_head.specs.Head.{request_to, request_by, request_of, has_short_names, request_read, head_of}

abbrev OptionsSo : Request → Type 0
OptionsSo head = (head.close ≡ closes head.minor head.fields) × (head.expect ≡ expects head.minor head.fields)

module _ (minor : ℕ) (method sent : List ℕ) (fields : Entries FieldValue) (head : Request) where
  by_target : (framing : Framing) (o : Option Target) → request_to minor method sent fields framing o ≡ Ok head → OptionsSo head
  by_target framing None is = absurd (cc (is))
  by_target framing (Some target) is = (cc (is), cc (is))

  by_framing : (o : Result Framing HeadRefusal) → request_by minor method sent fields o ≡ Ok head → OptionsSo head
  by_framing (Err refused) is = absurd (cc (is))
  by_framing (Ok framing) is = by (bytes_eq method (codes "CONNECT")) is
    where
      by : (t : Bool) → (if t then Err NotImplemented else request_to minor method sent fields framing (target_of sent)) ≡ Ok head → OptionsSo head
      by true e = absurd (cc (e))
      by false e = by_target framing (target_of sent) e

  by_parts : request_of minor method sent fields ≡ Ok head → OptionsSo head
  by_parts is = by (has_bad_host minor fields) is
    where
      by : (t : Bool) → (if t then Err BadHead else request_by minor method sent fields (framing_of minor fields)) ≡ Ok head → OptionsSo head
      by true e = absurd (cc (e))
      by false e = by_framing (framing_of minor fields) e

by_read : (o : Option (RequestHead × List ℕ)) (head : Request) → request_read o ≡ Ok head → OptionsSo head
by_read None head is = absurd (cc (is))
by_read (Some p) head is = by (has_short_names p.0) is
  where
    by : (t : Bool) → (if t then request_of p.0.minor p.0.method p.0.target (map_of (pairs_of p.0)) else Err BadHead) ≡ Ok head → OptionsSo head
    by true e = by_parts p.0.minor p.0.method p.0.target (map_of (pairs_of p.0)) head e
    by false e = absurd (cc (e))

-- a head that is read has the options that its fields say
pub options_so : (bytes : List ℕ) (head : Request) → head_of bytes ≡ Ok head → OptionsSo head
unfolding head_of
options_so bytes head is = by (nat_lt FIELD_LINE_LIMIT (field_lines bytes)) (ends_in_other_version (start_line bytes)) is
  where
    by : (many other : Bool) → (if many then Err TooLarge else (if other then Err BadVersion else request_read (read_request bytes))) ≡ Ok head → OptionsSo head
    by true other e = absurd (cc (e))
    by false true e = absurd (cc (e))
    by false false e = by_read (read_request bytes) head e
