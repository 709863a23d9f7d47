-- Dates of files in fields (RFC 9110, sections 5.6.7, 8.8.2 and 13.1.3).
use Rattle.std.specs.Prelude.{ℕ, ◌/◌, ◌%◌, Bool, false, nat_le, List, Option, Some, None, if◌then◌else◌}
use Rattle.httpdate.specs.Calendar.{weekday}
use Rattle.httpdate.specs.Date.{parse_secs}
use Rattle.httpdate.specs.Text.{imf_fixdate}
use Rattle.httpdate.specs.declared.parts.Parts.{Parts}
use Rattle.static_files.specs.Calendar.{Day, day_at}

abbrev pub not_before : Option ℕ → ℕ → Bool
not_before None time = false
not_before (Some second) time = nat_le time second

-- the value is a date in one of the three formats, and that isn't before the time
abbrev pub fresh : List ℕ → ℕ → Bool
fresh value time = not_before (parse_secs value) time

-- the date and time of day of a second since 1970
abbrev pub date_of : Day → ℕ → Parts
date_of d time =
    record { year = d.year; mon = d.month; day = d.day; hour = time % 86400 / 3600; min = time % 86400 % 3600 / 60; sec = time % 86400 % 3600 % 60; wday = weekday (time / 86400) }

abbrev pub date_at : ℕ → Parts
date_at time = date_of (day_at (time / 86400)) time

-- as an IMF-fixdate, which has a year of four digits
abbrev pub last_modified : ℕ → Option (List ℕ)
last_modified time = if nat_le (day_at (time / 86400)).year 9999 then Some (imf_fixdate (date_at time)) else None
