-- What is written is read by the response grammar.
use Rattle.std.proofs.Common.{◌≡◌, ℕ, ◌+◌, ◌/◌, ◌<◌, ◌≤◌, ◌^◌, Bool, true, false, ◌&&◌, ◌==◌, nat_lt, List, [], ◌∷◌, ◌++◌, length, map, flat_map, codes, decimal, Option, Some, None, IfSome, All, if◌then◌else◌, refl, ap, ap₂, sym, append_assoc, length-append, arith}
use Rattle.std.specs.List.{list_all}
use Rattle.std.specs.Char.{is_ascii_digit}
use Rattle.std.specs.Str.Parse.{AllDigits}
use Rattle.std.proofs.lemmas.Bool.Decides.{nat_tests}
use Rattle.std.proofs.lemmas.Fmt.{decimal_is_IsNumeral, decimal_digit, decimal_step}
use Rattle.std.proofs.lemmas.List.Elements.{All-nil, All-cons, All-append, All-map, All-weaker}
use Rattle.std.proofs.lemmas.List.Sums.{AllPass-from_list_all}
use Rattle.httparse.specs.Ascii.{crlf_bytes}
use Rattle.httparse.specs.Grammar.{AllPass, IsToken, is_token, is_token_byte, is_value_byte, crlf, Field, IsField, print_field, trim_ows, ResponseHead, IsResponseHead, print_response}
use Rattle.http_reply.specs.FieldLines.{FieldLines}
use Rattle.http_reply.specs.Phrases.{phrase, phrases, phrase_in}
use Rattle.http_reply.specs.Replies.{HeadParts, field_line, has_no_body, stated_length, length_field, connection_field, names_server, server_field, own_fields, written_fields, reply_head, error_fields, error_parts, sent_body, error_reply}
use Rattle.http_reply.specs.Reading.{IsFieldLine, IsInRange, ReadsAs, field_read, trimmed_line}

-- a table whose phrases pass a test, as the empty phrase does, gives a phrase that passes it
phrase_in-passes : (test : List ℕ → Bool) (rows : List (ℕ × List ℕ)) (status : ℕ) → test [] ≡ true → list_all (λ row. test row.1) rows ≡ true
    → test (phrase_in rows status) ≡ true
phrase_in-passes test [] status e h = e
phrase_in-passes test (row ∷ rows) status e h = by (row.0 == status) (test row.1) refl h (phrase_in-passes test rows status e)
  where
    by : (here first : Bool) → test row.1 ≡ first → (first && list_all (λ r. test r.1) rows) ≡ true
        → (list_all (λ r. test r.1) rows ≡ true → test (phrase_in rows status) ≡ true)
        → test (if here then row.1 else phrase_in rows status) ≡ true
    by true true is h further = is
    by false true is h further = further h
    by here false is h further = absurd (cc h)

-- each phrase is of bytes of a value
phrase-passes : (status : ℕ) → AllPass is_value_byte (phrase status)
unfolding phrase
phrase-passes status = AllPass-from_list_all is_value_byte (phrase status) (phrase_in-passes (λ text. list_all is_value_byte text) phrases status refl refl)

phrase-short : (status : ℕ) → length (phrase status) < 100
unfolding phrase
phrase-short status = let h = phrase_in-passes (λ text. nat_lt (length text) 100) phrases status refl refl in grind (arith, nat_tests)

-- decimal digits are digits, and bytes of a value
digits-pass : (ds : List ℕ) → AllDigits 10 ds → AllPass is_ascii_digit ds
digits-pass [] h = All-nil (λ b. is_ascii_digit b ≡ true)
digits-pass (d ∷ ds) h = All-cons (λ b. is_ascii_digit b ≡ true) d ds (grind (arith, nat_tests)) (digits-pass ds h.1)

decimal-digits : (n : ℕ) → n < 2 ^ 64 → AllPass is_ascii_digit (decimal n)
decimal-digits n small = digits-pass (decimal n) (decimal_is_IsNumeral n small).0.1

digit-value_byte : (b : ℕ) → is_ascii_digit b ≡ true → is_value_byte b ≡ true
digit-value_byte b digit = grind (arith, nat_tests)

decimal-value_bytes : (n : ℕ) → n < 2 ^ 64 → AllPass is_value_byte (decimal n)
decimal-value_bytes n small = All-weaker (λ b. is_ascii_digit b ≡ true) (λ b. is_value_byte b ≡ true) digit-value_byte (decimal n) (decimal-digits n small)

-- a status has three digits
three_digits : (n : ℕ) → 100 ≤ n → n ≤ 999 → length (decimal n) ≡ 3
three_digits n low high = rw (decimal_step n (omega arith) (omega arith), decimal_step (n / 10) (omega arith) (omega arith), decimal_digit (n / 10 / 10) (omega arith)) refl

-- the field of the grammar that a line is
abbrev read_line : List ℕ × List ℕ → Field
read_line line = record { name = line.0; raw = 32 ∷ line.1; end = crlf }

field_line-print : (line : List ℕ × List ℕ) → field_line line ≡ print_field (read_line line)
field_line-print line = sym (append_assoc line.0 (58 ∷ 32 ∷ line.1) crlf_bytes)

field_lines-print : (lines : FieldLines) → flat_map field_line lines ≡ flat_map print_field (map read_line lines)
field_lines-print [] = refl
field_lines-print (line ∷ lines) = ap₂ (λ (a : List ℕ) (b : List ℕ). a ++ b) (field_line-print line) (field_lines-print lines)

line-is_field : (line : List ℕ × List ℕ) → IsFieldLine line → IsField (read_line line)
line-is_field line h = record { name = h.name; raw = All-cons (λ b. is_value_byte b ≡ true) 32 line.1 refl h.value }

-- the test of a token tells that it is one
token-by : (some each : Bool) (name : List ℕ) → nat_lt 0 (length name) ≡ some → list_all is_token_byte name ≡ each → (some && each) ≡ true → IsToken name
token-by true true name s e h = (grind (arith, nat_tests), AllPass-from_list_all is_token_byte name e)
token-by true false name s e h = absurd (cc h)
token-by false each name s e h = absurd (cc h)

-- a name that this crate writes
named : (name value : List ℕ) → is_token name ≡ true → AllPass is_value_byte value → IsFieldLine (name, value)
named name value token passes =
    record { name = token-by (nat_lt 0 (length name)) (list_all is_token_byte name) name refl refl token; value = passes }

length-line : (n : ℕ) → n < 2 ^ 64 → IsFieldLine (codes "Content-Length", decimal n)
unfolding is_token_byte
length-line n small = named (codes "Content-Length") (decimal n) refl (decimal-value_bytes n small)

close-line : IsFieldLine (codes "Connection", codes "close")
unfolding is_token_byte
close-line = named (codes "Connection") (codes "close") refl (AllPass-from_list_all is_value_byte (codes "close") refl)

keep-line : IsFieldLine (codes "Connection", codes "keep-alive")
unfolding is_token_byte
keep-line = named (codes "Connection") (codes "keep-alive") refl (AllPass-from_list_all is_value_byte (codes "keep-alive") refl)

type-line : IsFieldLine (codes "Content-Type", codes "text/plain")
unfolding is_token_byte
type-line = named (codes "Content-Type") (codes "text/plain") refl (AllPass-from_list_all is_value_byte (codes "text/plain") refl)

server-line : (tag : List ℕ) → AllPass is_value_byte tag → IsFieldLine (codes "Server", tag)
unfolding is_token_byte
server-line tag passes = named (codes "Server") tag refl passes

none : All IsFieldLine []
none = All-nil IsFieldLine

one : (line : List ℕ × List ℕ) → IsFieldLine line → All IsFieldLine (line ∷ [])
one line h = All-cons IsFieldLine line [] h none

stated_length-lines : (stated : Option ℕ) → IfSome stated (λ n. n < 2 ^ 64) → All IsFieldLine (stated_length stated)
stated_length-lines None h = none
stated_length-lines (Some n) h = one (codes "Content-Length", decimal n) (length-line n h)

length_field-lines : (bare : Bool) (stated : Option ℕ) → IfSome stated (λ n. n < 2 ^ 64) → All IsFieldLine (if bare then [] else stated_length stated)
length_field-lines true stated h = none
length_field-lines false stated h = stated_length-lines stated h

connection_field-lines : (last keep : Bool) → All IsFieldLine (connection_field last keep)
connection_field-lines true keep = one (codes "Connection", codes "close") close-line
connection_field-lines false true = one (codes "Connection", codes "keep-alive") keep-line
connection_field-lines false false = none

server_field-lines : (given : Bool) (tag : List ℕ) → AllPass is_value_byte tag → All IsFieldLine (if given then [] else (codes "Server", tag) ∷ [])
server_field-lines true tag h = none
server_field-lines false tag h = one (codes "Server", tag) (server-line tag h)

written_fields-lines : (parts : HeadParts) (fields : FieldLines) → IsInRange parts fields → All IsFieldLine (written_fields parts fields)
written_fields-lines parts fields h =
    All-append IsFieldLine fields (own_fields parts fields) h.given (
    All-append IsFieldLine (length_field parts.status parts.length) (connection_field parts.last parts.keep ++ server_field fields parts.tag)
    (length_field-lines (has_no_body parts.status) parts.length h.stated) (
    All-append IsFieldLine (connection_field parts.last parts.keep) (server_field fields parts.tag)
    (connection_field-lines parts.last parts.keep) (server_field-lines (names_server fields) parts.tag h.tag)))

-- the head of the grammar that a reply's head is
abbrev head_of : HeadParts → FieldLines → ResponseHead
head_of parts fields = record {
  blank = [];
  minor = parts.minor;
  digits = decimal parts.status;
  reason = Some (phrase parts.status);
  line_end = crlf;
  fields = map read_line (written_fields parts fields);
  last = crlf;
}

head_of-valid : (parts : HeadParts) (fields : FieldLines) → IsInRange parts fields → IsResponseHead (head_of parts fields)
head_of-valid parts fields h = record {
  minor = h.minor;
  digits = (three_digits parts.status h.low h.high, decimal-digits parts.status (omega arith));
  reason = phrase-passes parts.status;
  fields = All-map IsField read_line (written_fields parts fields) (All-weaker IsFieldLine (λ line. IsField (read_line line)) line-is_field (written_fields parts fields) (written_fields-lines parts fields h));
}

-- the parts of a head joined from the left and from the right
same_bytes : (version digits reason lines end : List ℕ)
    → codes "HTTP/1." ++ version ++ (32 ∷ digits) ++ (32 ∷ reason) ++ end ++ (lines ++ end) ≡ codes "HTTP/1." ++ (version ++ (32 ∷ digits ++ (32 ∷ reason ++ end))) ++ (lines ++ end)
same_bytes version digits reason lines end = simp append_assoc

head_of-print : (parts : HeadParts) (fields : FieldLines) → parts.minor ≤ 1 → print_response (head_of parts fields) ≡ reply_head parts fields
unfolding print_response
head_of-print parts fields minor =
    let version : decimal parts.minor ≡ (48 + parts.minor) ∷ [] = decimal_digit parts.minor (omega arith) in
    rw (version, field_lines-print (written_fields parts fields))
    (same_bytes ((48 + parts.minor) ∷ []) (decimal parts.status) (phrase parts.status) (flat_map print_field (map read_line (written_fields parts fields))) crlf_bytes)

lines-read : (lines : FieldLines) → map field_read (map read_line lines) ≡ map trimmed_line lines
unfolding trim_ows
lines-read [] = refl
lines-read (line ∷ lines) = ap (λ (l : FieldLines). trimmed_line line ∷ l) (lines-read lines)

-- a reply's head is read as what it was spelled from
pub reply_head-reads : (parts : HeadParts) (fields : FieldLines) (rest : List ℕ) → IsInRange parts fields → ReadsAs (reply_head parts fields ++ rest) parts fields rest
reply_head-reads parts fields rest h = record {
  head = head_of parts fields;
  reads = (head_of-valid parts fields h, ap (λ (t : List ℕ). t ++ rest) (sym (head_of-print parts fields h.minor)));
  minor = refl;
  status = (decimal_is_IsNumeral parts.status (omega arith)).1;
  reason = refl;
  lines = lines-read (written_fields parts fields);
}

-- an error reply is in range where the reply is
error-in_range : (parts : HeadParts) (fields : FieldLines) → IsInRange parts fields → IsInRange (error_parts parts) (error_fields fields)
error-in_range parts fields h =
    let digits : length (decimal parts.status) ≡ 3 = three_digits parts.status h.low h.high in record {
      minor = h.minor;
      low = h.low;
      high = h.high;
      stated = simp length-append (omega (arith, phrase-short parts.status));
      tag = h.tag;
      given = All-append IsFieldLine fields ((codes "Content-Type", codes "text/plain") ∷ []) h.given (one (codes "Content-Type", codes "text/plain") type-line);
    }

-- an error reply is read as its head, and what follows is its body
pub error_reply-reads : (parts : HeadParts) (fields : FieldLines) (head_only : Bool) → IsInRange parts fields
    → ReadsAs (error_reply parts fields head_only) (error_parts parts) (error_fields fields) (sent_body parts.status head_only)
error_reply-reads parts fields head_only h =
    reply_head-reads (error_parts parts) (error_fields fields) (sent_body parts.status head_only) (error-in_range parts fields h)
