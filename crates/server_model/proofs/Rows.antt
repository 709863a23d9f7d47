-- Worked replies and requests: computed.
use Rattle.std.proofs.Common.{◌≡◌, ℕ, List, [], ◌∷◌, ◌++◌, length, true, false, refl}
use Rattle.std.specs.Fmt.{digits}
use Rattle.std.specs.Prelude.{codes}
use Rattle.http_head.specs.Head.{head_of}
use Rattle.http_head.specs.declared.framing.Framing.TheVariants as framed
use Rattle.http_reply.specs.FieldLines.{FieldLines}
use Rattle.http_reply.specs.Phrases.{phrase}
use Rattle.static_files.specs.Calendar.{day_at}
use Rattle.lt_http_body.specs.declared.state.State.TheVariants as state
use Rattle.lt_http_body.specs.Standings.{begin, step}
use Rattle.lt_http_body.specs.Reading.{standing_after, data_in, taken_in}
use Rattle.server_model.specs.Request.{Unfinished, Refused, front_of, request_of, Limits}
use Rattle.server_model.specs.Reply.{error_bytes, content_head, is_accepted}
use Rattle.file_reply.specs.Answers.{file_fields}
use Rattle.file_reply.specs.Refusals as refusals

abbrev line_end : List ℕ
line_end = 13 ∷ 10 ∷ []

abbrev line : List ℕ → List ℕ
line text = text ++ line_end

abbrev field_lines : FieldLines
field_lines = file_fields (codes "application/octet-stream") 0

-- a file of five bytes, to HTTP/1.1 on a connection that goes on: 169 bytes
found : content_head (codes "lighttpd") 1 200 field_lines 5 false ++ codes "hello"
    ≡ line (codes "HTTP/1.1 200 OK") ++ line (codes "Content-Type: application/octet-stream") ++ line (codes "Accept-Ranges: bytes") ++ line (codes "Last-Modified: Thu, 01 Jan 1970 00:00:00 GMT") ++ line (codes "Content-Length: 5") ++ line (codes "Server: lighttpd") ++ line_end ++ codes "hello"
unfolding phrase digits day_at
found = refl

-- another method than GET and HEAD: 140 bytes
not_allowed : error_bytes (codes "lighttpd") 1 405 refusals.not_allowed.fields false true
    ≡ line (codes "HTTP/1.1 405 Method Not Allowed") ++ line (codes "Allow: GET, HEAD") ++ line (codes "Content-Type: text/plain") ++ line (codes "Content-Length: 23") ++ line (codes "Server: lighttpd") ++ line_end
unfolding phrase digits
not_allowed = refl

not_allowed_length : length (error_bytes (codes "lighttpd") 1 405 refusals.not_allowed.fields false false) ≡ 140
unfolding phrase digits
not_allowed_length = refl

-- a directory without its final slash
moved : error_bytes (codes "lighttpd") 1 301 (refusals.moved (codes "/a") (codes "q")).fields false true
    ≡ line (codes "HTTP/1.1 301 Moved Permanently") ++ line (codes "Location: /a/?q") ++ line (codes "Content-Type: text/plain") ++ line (codes "Content-Length: 22") ++ line (codes "Server: lighttpd") ++ line_end
unfolding phrase digits
moved = refl

-- a head that is refused: 127 bytes
refused : error_bytes (codes "lighttpd") 1 400 [] true false
    ≡ line (codes "HTTP/1.1 400 Bad Request") ++ line (codes "Content-Type: text/plain") ++ line (codes "Content-Length: 16") ++ line (codes "Connection: close") ++ line (codes "Server: lighttpd") ++ line_end ++ codes "400 Bad Request" ++ 10 ∷ []
unfolding phrase digits
refused = refl

refused_length : length (error_bytes (codes "lighttpd") 1 400 [] true false) ≡ 127
unfolding phrase digits
refused_length = refl

-- ---- what comes

unfinished : (limits : Limits) → request_of limits (line (codes "GET /a.txt HTTP/1.1") ++ line (codes "Host: h")) ≡ Unfinished
unfolding request_of front_of
unfinished limits = refl

other_version : (limits : Limits) → request_of limits (line (codes "GET /a.txt HTTP/2.0") ++ line_end) ≡ Refused 505
unfolding request_of front_of head_of
other_version limits = refl

-- ---- bodies

-- five bytes in a chunk, and the next request behind them
abbrev chunked : List ℕ
chunked = line (codes "5") ++ line (codes "hello") ++ line (codes "0") ++ line_end

chunked_data : data_in (begin framed.Chunked 1048576) (chunked ++ codes "GET") ≡ codes "hello"
unfolding step data_in
chunked_data = refl

chunked_taken : taken_in (begin framed.Chunked 1048576) (chunked ++ codes "GET") ≡ 15
unfolding step taken_in
chunked_taken = refl

chunked_over : (standing_after (begin framed.Chunked 1048576) (chunked ++ codes "GET")).state ≡ state.Whole
unfolding step standing_after
chunked_over = refl

-- at the limit and above it
accepted_at_limit : is_accepted (framed.Length 1048576) 1048576 ≡ true
accepted_at_limit = refl

accepted_no_further : is_accepted (framed.Length 1048577) 1048576 ≡ false
accepted_no_further = refl

accepted_none : is_accepted (framed.Length 0) 1048576 ≡ false
accepted_none = refl
