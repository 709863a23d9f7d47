-- What the content of STDOUT comes to, as it is kept.
use Rattle.std.specs.Prelude.{ℕ, Bool, true, false, List, drop, Result, Err}
use Rattle.cgi_text.specs.declared.head.CgiHead.{CgiHead}
use Rattle.cgi_text.specs.Attempts as heard
use Rattle.fcgi_records.specs.declared.reader.ReaderState.{ReaderState}
use Rattle.fcgi_records.specs.declared.reader.RecordFault.{RecordFault}
use Rattle.fcgi_records.specs.declared.reader.RecordFault.TheVariants as fault
use Rattle.fcgi_gateway.specs.declared.hearing.Progress.{Progress}
use Rattle.fcgi_gateway.specs.declared.hearing.Progress.TheVariants as kept

abbrev pub heard_at : List ℕ → Progress → heard.Heard
heard_at stdout kept.Partly = heard.Partly
heard_at stdout (kept.Fully head) = heard.Fully head (drop head.length stdout)
heard_at stdout kept.Breaks = heard.Breaks
heard_at stdout kept.Exceeds = heard.Exceeds

-- a whole answer that is good
abbrev pub is_whole : Progress → Bool
is_whole (kept.Fully head) = true
is_whole other = false

-- memory was there
abbrev pub is_told : Result ReaderState RecordFault → Bool
is_told (Err fault.NoMemory) = false
is_told other = true
