-- What was found at the front of what came.
use Rattle.std.specs.Prelude.{◌≡◌, ℕ, ◌≤◌, List, length, take, drop, Result, Ok, Err}
use Rattle.http_head.specs.declared.ends.HeadEnd.{HeadEnd}
use Rattle.http_head.specs.declared.ends.HeadEnd.TheVariants as end
use Rattle.http_head.specs.declared.refusal.HeadRefusal.{HeadRefusal}
use Rattle.http_head.specs.declared.scan.HeadScan.{HeadScan}
use Rattle.http_head.specs.Ends.{head_end}
use Rattle.http_head.specs.Head.{head_of}
use Rattle.server_model.specs.Request.{Head, Front, NoHead, BadHead, HasHead, front_of, status_of}
use Rattle.connection.specs.declared.progress.Progress.{Progress}
use Rattle.connection.specs.declared.progress.Progress.TheVariants as progress
use Rattle.connection.specs.declared.looking.Looked.{Looked}
use Rattle.connection.specs.declared.looking.Looked.TheVariants as looked

-- a head of so many bytes, as it was read
abbrev pub looked_by : ℕ → Result Head HeadRefusal → Looked
looked_by n (Err refused) = looked.Refused (status_of refused)
looked_by n (Ok head) = looked.Headed head n

abbrev pub looked_at : HeadEnd → List ℕ → Looked
looked_at end.NotYet bytes = looked.Unfinished
looked_at end.TooLarge bytes = looked.Refused 431
looked_at (end.At n) bytes = looked_by n (head_of (take n bytes))

-- what stands at the front of bytes
abbrev pub looked_of : List ℕ → Looked
looked_of bytes = looked_at (head_end bytes) bytes

-- with the bytes behind it
abbrev pub front_with : Looked → List ℕ → Front
front_with looked.Unfinished rest = NoHead
front_with (looked.Refused status) rest = BadHead status
front_with (looked.Headed request taken) rest = HasHead request rest

-- how many bytes are taken up with it
abbrev pub taken_in : Looked → ℕ
taken_in looked.Unfinished = 0
taken_in (looked.Refused status) = 0
taken_in (looked.Headed request taken) = taken

-- how far the request is, by what was found
abbrev pub progress_of : Looked → HeadScan → Progress
progress_of looked.Unfinished scan = progress.Awaiting scan
progress_of (looked.Refused status) scan = progress.Refused status
progress_of (looked.Headed request taken) scan = progress.Heading request

-- what was found is what these bytes begin with
pub record IsLooked (bytes : List ℕ) (found : Looked) : Type 0 where
  pub front : front_of bytes ≡ front_with found (drop (taken_in found) bytes)
  pub within : taken_in found ≤ length bytes
