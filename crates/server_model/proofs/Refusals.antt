-- In the definitions no head and no body is refused for want of memory.
use Rattle.std.proofs.Common.{◌≡◌, ◌≢◌, ℕ, List, [], ◌∷◌, Bool, true, false, ◌==◌, Option, Some, None, if◌then◌else◌, subst}
use Rattle.std.specs.Prelude.{Result, Ok, Err, nat_lt, bytes_eq, codes}
use Rattle.lt_bytes.specs.Numbers.{number_of}
use Rattle.lt_bytes.specs.declared.numbers.Number.{Number}
use Rattle.lt_bytes.specs.declared.numbers.Number.TheVariants as number
use Rattle.httparse.specs.Grammar.{RequestHead}
use Rattle.http_header.specs.FieldValue.{FieldValue}
use Rattle.http_header.specs.HeaderMap.{Entries, get_all}
use Rattle.http_target.specs.Target.{target_of}
use Rattle.http_target.specs.declared.read.Target.{Target}
use Rattle.http_head.specs.declared.framing.Framing.{Framing}
use Rattle.http_head.specs.declared.framing.Framing.TheVariants as framed
use Rattle.http_head.specs.declared.head.Request.{Request}
use Rattle.http_head.specs.declared.limits.TheConstants.{FIELD_LINE_LIMIT}
use Rattle.http_head.specs.declared.refusal.HeadRefusal.{HeadRefusal}
use Rattle.http_head.specs.declared.refusal.HeadRefusal.TheVariants as refusal
use Rattle.http_head.specs.Framing.{is_chunked, length_of, framing_by, framing_of}
use Rattle.http_head.specs.Fields.{map_of, pairs_of}
use Rattle.http_head.specs.Host.{has_bad_host}
use Rattle.http_head.specs.Lines.{field_lines, start_line, ends_in_other_version}
use Rattle.http_head.specs.Read.{read_request}
use Rattle.http_head.specs.Head.{request_to, request_by, request_of, has_short_names, request_read, head_of}
use Rattle.lt_http_body.specs.declared.state.State.{State}
use Rattle.lt_http_body.specs.declared.state.State.TheVariants as state
use Rattle.lt_http_body.specs.declared.body.BodyState.{BodyState}
use Rattle.lt_http_body.specs.declared.body.BodyRefusal.{BodyRefusal}
use Rattle.lt_http_body.specs.declared.body.BodyRefusal.TheVariants as refused
use Rattle.lt_http_body.specs.Standings.{answer_from}

-- memory isn't what a head is refused for
abbrev IsHeld : HeadRefusal → Type 0
IsHeld refusal.NoMemory = ⊥
IsHeld other = Unit {0}

abbrev IsRead : Result Request HeadRefusal → Type 0
IsRead (Ok request) = Unit {0}
IsRead (Err r) = IsHeld r

abbrev IsFramed : Result Framing HeadRefusal → Type 0
IsFramed (Ok framing) = Unit {0}
IsFramed (Err r) = IsHeld r

read_either : (b : Bool) (x y : Result Request HeadRefusal) → IsRead x → IsRead y → IsRead (if b then x else y)
read_either true x y one two = one
read_either false x y one two = two

framed_either : (b : Bool) (x y : Result Framing HeadRefusal) → IsFramed x → IsFramed y → IsFramed (if b then x else y)
framed_either true x y one two = one
framed_either false x y one two = two

length_held : (n : Number) → IsFramed (length_of n)
length_held (number.Value n) = tt
length_held number.Overflow = tt
length_held number.NotANumber = tt

framing_held : (minor : ℕ) (codings lengths : List FieldValue) → IsFramed (framing_by minor codings lengths)
framing_held minor [] [] = tt
framing_held minor [] (v ∷ []) = length_held (number_of 10 v.bytes)
framing_held minor [] (v ∷ w ∷ more) = tt
framing_held minor (t ∷ []) (v ∷ vs) = tt
framing_held minor (t ∷ u ∷ more) (v ∷ vs) = tt
framing_held minor (t ∷ []) [] = framed_either (minor == 0) (Err refusal.BadHead) (if is_chunked t.bytes then Ok framed.Chunked else Err refusal.NotImplemented) tt (framed_either (is_chunked t.bytes) (Ok framed.Chunked) (Err refusal.NotImplemented) tt tt)
framing_held minor (t ∷ u ∷ more) [] = framed_either (minor == 0) (Err refusal.BadHead) (Err refusal.NotImplemented) tt tt

target_held : (minor : ℕ) (method sent : List ℕ) (fields : Entries FieldValue) (framing : Framing) (target : Option Target) → IsRead (request_to minor method sent fields framing target)
target_held minor method sent fields framing None = tt
target_held minor method sent fields framing (Some target) = tt

by_held : (minor : ℕ) (method sent : List ℕ) (fields : Entries FieldValue) (framing : Result Framing HeadRefusal) → IsFramed framing → IsRead (request_by minor method sent fields framing)
by_held minor method sent fields (Err r) held = held
by_held minor method sent fields (Ok framing) held =
    read_either (bytes_eq method (codes "CONNECT")) (Err refusal.NotImplemented) (request_to minor method sent fields framing (target_of sent)) tt (target_held minor method sent fields framing (target_of sent))

request_held : (minor : ℕ) (method sent : List ℕ) (fields : Entries FieldValue) → IsRead (request_of minor method sent fields)
request_held minor method sent fields = read_either (has_bad_host minor fields) (Err refusal.BadHead) (request_by minor method sent fields (framing_of minor fields)) tt
    (by_held minor method sent fields (framing_of minor fields) (framing_held minor (get_all fields (codes "transfer-encoding")) (get_all fields (codes "content-length"))))

read_held : (o : Option (RequestHead × List ℕ)) → IsRead (request_read o)
read_held None = tt
read_held (Some p) = read_either (has_short_names p.0) (request_of p.0.minor p.0.method p.0.target (map_of (pairs_of p.0))) (Err refusal.BadHead) (request_held p.0.minor p.0.method p.0.target (map_of (pairs_of p.0))) tt

head_held : (bytes : List ℕ) → IsRead (head_of bytes)
unfolding head_of
head_held bytes = read_either (nat_lt FIELD_LINE_LIMIT (field_lines bytes)) (Err refusal.TooLarge) (if ends_in_other_version (start_line bytes) then Err refusal.BadVersion else request_read (read_request bytes)) tt
    (read_either (ends_in_other_version (start_line bytes)) (Err refusal.BadVersion) (request_read (read_request bytes)) tt (read_held (read_request bytes)))

pub no_head : (bytes : List ℕ) → head_of bytes ≢ Err refusal.NoMemory
no_head bytes is = subst IsRead is (head_held bytes)

-- and a body
abbrev IsFed : Result BodyState BodyRefusal → Type 0
IsFed (Ok answer) = Unit {0}
IsFed (Err refused.BadChunk) = Unit {0}
IsFed (Err refused.TooLarge) = Unit {0}
IsFed (Err refused.NoMemory) = ⊥

body_held : (s : State) → IsFed (answer_from s)
body_held (state.Stated left) = tt
body_held (state.Size digits size) = tt
body_held (state.Extension left size) = tt
body_held (state.SizeFeed size) = tt
body_held (state.Data left) = tt
body_held state.DataReturn = tt
body_held state.DataFeed = tt
body_held (state.Trailer left) = tt
body_held (state.TrailerLine left) = tt
body_held (state.TrailerFeed left) = tt
body_held state.LastFeed = tt
body_held state.Whole = tt
body_held state.BadChunk = tt
body_held state.TooLarge = tt

pub no_body : (s : State) → answer_from s ≢ Err refused.NoMemory
no_body s is = subst IsFed is (body_held s)
