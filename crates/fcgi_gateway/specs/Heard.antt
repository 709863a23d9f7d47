-- What the bytes of an application come to (FastCGI Specification 1.0, section 6.2; RFC 3875, section 6).
use Rattle.std.specs.Prelude.{ℕ, Bool, nat_lt, List, length, drop, Option, Some, None, Result, Ok, Err, if◌then◌else◌}
use Rattle.http_head.specs.declared.ends.HeadEnd.{HeadEnd}
use Rattle.http_head.specs.declared.ends.HeadEnd.TheVariants.{At, NotYet, TooLarge}
use Rattle.http_head.specs.declared.limits.TheConstants.{HEAD_LIMIT}
use Rattle.cgi_text.specs.declared.head.CgiHead.{CgiHead}
use Rattle.cgi_text.specs.declared.head.CgiRefusal.{CgiRefusal}
use Rattle.cgi_text.specs.Head.{section_end, cgi_head}
use Rattle.cgi_text.specs.Attempts.{Heard, Partly, Fully, Breaks, Exceeds}
use Rattle.fcgi_records.specs.Reading.{Said, Open, Done, Broken, said}
use Rattle.fcgi_gateway.specs.declared.hearing.TheConstants.{ANSWER_LIMIT}

-- where the body begins: behind the head or, where none ends, behind as many bytes as a head may have
abbrev pub start_at : HeadEnd → ℕ
start_at (At n) = n
start_at NotYet = HEAD_LIMIT
start_at TooLarge = HEAD_LIMIT

abbrev pub body_of : List ℕ → List ℕ
body_of stdout = drop (start_at (section_end stdout)) stdout

-- the content of STDOUT; of a stream that is refused, what stands in front of the byte that is
abbrev pub stdout_of : Said → List ℕ
stdout_of (Open stdout) = stdout
stdout_of (Done stdout) = stdout
stdout_of (Broken why stdout) = stdout

abbrev pub is_too_long : List ℕ → Bool
is_too_long stdout = nat_lt ANSWER_LIMIT (length (body_of stdout))

-- a whole answer is good where its head is
abbrev pub judged : List ℕ → Result CgiHead CgiRefusal → Heard
judged stdout (Ok head) = Fully head (drop head.length stdout)
judged stdout (Err refusal) = Breaks

abbrev pub heard_by : Said → Heard
heard_by (Open stdout) = Partly
heard_by (Done stdout) = judged stdout (cgi_head stdout)
heard_by (Broken why stdout) = Breaks

-- a body that is too long comes first of all
abbrev pub heard_of : Said → Heard
heard_of s = if is_too_long (stdout_of s) then Exceeds else heard_by s

-- that the link has ended tells nothing of the bytes
unfoldable pub heard : List ℕ → Bool → Heard
heard bytes ended = heard_of (said bytes)
