-- The Gregorian calendar from 1 January 1970 on, one day after another.
use Rattle.std.specs.Prelude.{◌≡◌, ◌≤◌, ℕ, zero, suc, ◌+◌, nat_lt, if◌then◌else◌}
use Rattle.std.specs.Int.{IsInRange}
use Rattle.httpdate.specs.Calendar.{days_in_month, days_from_civil}

pub record Day : Type 0 where
  pub year : ℕ
  -- from 1
  pub month : ℕ
  -- from 1
  pub day : ℕ

-- the day after: in the same month, the first of the next month, or the first of the next year
abbrev pub day_after : Day → Day
day_after d =
    if nat_lt d.day (days_in_month d.year d.month) then record { year = d.year; month = d.month; day = d.day + 1 }
    else (if nat_lt d.month 12 then record { year = d.year; month = d.month + 1; day = 1 }
    else record { year = d.year + 1; month = 1; day = 1 })

-- so many days after 1 January 1970
unfoldable pub day_at : ℕ → Day
day_at zero = record { year = 1970; month = 1; day = 1 }
day_at (suc days) = day_after (day_at days)

-- The calendar has the day, and it lies so many days after 1 January 1970, by the sum of the days of the years and
-- months before it.
pub record IsDay (days : ℕ) (d : Day) : Type 0 where
  pub from : 1970 ≤ d.year
  pub month : IsInRange 1 12 d.month
  pub day : IsInRange 1 (days_in_month d.year d.month) d.day
  pub count : days_from_civil d.year d.month d.day ≡ days
