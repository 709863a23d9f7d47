-- The calendar, counted: each day lies as many days after 1 January 1970 as its number says.
use Rattle.std.proofs.Common.{◌≡◌, ℕ, zero, suc, ◌+◌, ◌-◌, ◌/◌, ◌%◌, ◌<◌, ◌≤◌, Bool, true, false, List, Some, None, if◌then◌else◌, refl, sym, ap, ◌∙◌, inl, ⊎_elim, ◌↔◌, arith}
use Rattle.std.specs.Prelude.{nat_lt, nat_le, option_and_then}
use Rattle.std.proofs.lemmas.Bool.{ltb-true, ltb-false, leb-true, leb-false, le-leb, cases_lt}
use Rattle.std.proofs.lemmas.Option.{same_Some}
use Rattle.std.proofs.lemmas.Bool.Decides.{nat_tests}
use Rattle.httpdate.specs.declared.date.HttpDate.{HttpDate}
use Rattle.httpdate.specs.Calendar.{days_in_year, days_in_month, days_of_years, days_of_months}
use Rattle.httpdate.specs.Date.{date_text, unix_secs, parse_secs, valid_secs}
use Rattle.httpdate.specs.Reader.{parse}
use Rattle.httpdate.specs.Text.{imf_fixdate}
use Rattle.httpdate.specs.Valid.{IsValid, parts_secs}
use Rattle.httpdate.proofs.CalendarLemmas.{days_of_months_more, days_of_months_all, days_of_years_closed, days_from_civil_bound}
use Rattle.httpdate.proofs.FormatLemmas.{parse_complete}
use Rattle.httpdate.proofs.Theorems.{date_text_is}
use Rattle.httpdate.proofs.ValidLemmas.{is_valid_complete}
use Rattle.static_files.specs.Calendar.{Day, day_after, day_at, IsDay}
use Rattle.static_files.specs.Dates.{date_at, last_modified}

days_of_years_more : (n : ℕ) → days_of_years (suc n) ≡ days_of_years n + days_in_year (1970 + n)
unfolding days_of_years
days_of_years_more n = refl

no_months : (y : ℕ) → days_of_months y 0 ≡ 0
unfolding days_of_months
no_months y = refl

month_has_days : (y m : ℕ) → 1 ≤ days_in_month y m
month_has_days y m = grind (arith, nat_tests)

same_month : (days : ℕ) (d : Day) → IsDay days d → d.day < days_in_month d.year d.month → IsDay (suc days) (record { year = d.year; month = d.month; day = d.day + 1 })
same_month days d h lt = record { from = h.from; month = h.month; day = (omega arith, omega (arith, lt)); count = omega (arith, h.count, h.day) }

next_month : (days : ℕ) (d : Day) → IsDay days d → days_in_month d.year d.month ≤ d.day → d.month < 12 → IsDay (suc days) (record { year = d.year; month = d.month + 1; day = 1 })
next_month days d h last lt =
    let more = days_of_months_more d.year d.month h.month.0 in
    let back : d.month + 1 - 1 ≡ d.month = omega arith in
    let before : days_of_months d.year (d.month + 1 - 1) ≡ days_of_months d.year d.month = ap (days_of_months d.year) back in
    record { from = h.from; month = (omega arith, omega (arith, lt)); day = (omega arith, month_has_days d.year (d.month + 1)); count = omega (arith, before, more, h.count, h.day, last) }

next_year : (days : ℕ) (d : Day) → IsDay days d → days_in_month d.year d.month ≤ d.day → 12 ≤ d.month → IsDay (suc days) (record { year = d.year + 1; month = 1; day = 1 })
next_year days d h last le =
    let twelve : d.month ≡ 12 = omega (arith, h.month) in
    let more = days_of_months_more d.year d.month h.month.0 in
    let all : days_of_months d.year d.month ≡ days_in_year d.year = ap (days_of_months d.year) twelve ∙ days_of_months_all d.year in
    let this : 1970 + (d.year - 1970) ≡ d.year = omega (arith, h.from) in
    let year : days_of_years (suc (d.year - 1970)) ≡ days_of_years (d.year - 1970) + days_in_year d.year = days_of_years_more (d.year - 1970) ∙ ap (λ y. days_of_years (d.year - 1970) + days_in_year y) this in
    let next : d.year + 1 - 1970 ≡ suc (d.year - 1970) = omega (arith, h.from) in
    let before : days_of_years (d.year + 1 - 1970) ≡ days_of_years (suc (d.year - 1970)) = ap days_of_years next in
    let none = no_months (d.year + 1) in
    record { from = omega (arith, h.from); month = (omega arith, omega arith); day = (omega arith, month_has_days (d.year + 1) 1); count = omega (arith, before, year, all, more, none, h.count, h.day, last) }

after_is_day : (days : ℕ) (d : Day) → IsDay days d → IsDay (suc days) (day_after d)
after_is_day days d h = by (nat_lt d.day (days_in_month d.year d.month)) (nat_lt d.month 12) refl refl
  where
    by : (a b : Bool) → nat_lt d.day (days_in_month d.year d.month) ≡ a → nat_lt d.month 12 ≡ b
        → IsDay (suc days) (if a then record { year = d.year; month = d.month; day = d.day + 1 } else (if b then record { year = d.year; month = d.month + 1; day = 1 } else record { year = d.year + 1; month = 1; day = 1 }))
    by true b in_month e = same_month days d h (ltb-true _ _ in_month)
    by false true last in_year = next_month days d h (ltb-false _ _ last) (ltb-true _ _ in_year)
    by false false last end = next_year days d h (ltb-false _ _ last) (ltb-false _ _ end)

first_is_day : IsDay 0 (record { year = 1970; month = 1; day = 1 })
unfolding days_of_years days_of_months
first_is_day = record { from = omega arith; month = (omega arith, omega arith); day = (omega arith, omega arith); count = refl }

-- each day is one of the calendar, and lies so many days after the first
pub at_is_day : (days : ℕ) → IsDay days (day_at days)
unfolding day_at
at_is_day zero = first_is_day
at_is_day (suc days) = after_is_day days (day_at days) (at_is_day days)

-- 2,932,897 days begin before the year 10000
year_within : (days : ℕ) → days < 2932897 → (day_at days).year ≤ 9999
year_within days lt = omega (arith, (at_is_day days).count, (at_is_day days).from, days_of_years_closed ((day_at days).year - 1970))

days_within : (days : ℕ) → (day_at days).year ≤ 9999 → days < 2932897
days_within days le =
    let h = at_is_day days in
    omega (arith, days_from_civil_bound (day_at days).year (day_at days).month (day_at days).day ((h.from, le), h.month, h.day), h.count)

-- a second before the year 10000 has a date, which is so many seconds after 1970
date_is_valid : (time : ℕ) → (day_at (time / 86400)).year ≤ 9999 → IsValid (date_at time)
date_is_valid time le =
    let h = at_is_day (time / 86400) in
    (((h.from, le), h.month, h.day), (omega arith, omega arith, omega arith), ap (λ days. (days + 3) % 7 + 1) (sym h.count))

date_counts : (time : ℕ) → parts_secs (date_at time) ≡ time
date_counts time = omega (arith, (at_is_day (time / 86400)).count)

-- the date of so many seconds is written as the calendar has it
pub date_is_written : (d : HttpDate) (time : ℕ) → unix_secs d ≡ time → time < 253402300800 → date_text d ≡ imf_fixdate (date_at time)
date_is_written d time same lt =
    date_text_is d (date_at time) (is_valid_complete (date_at time) (date_is_valid time (year_within (time / 86400) (omega (arith, lt))))) (same ∙ sym (date_counts time))

-- and read back as these seconds
pub date_is_read : (time : ℕ) → (day_at (time / 86400)).year ≤ 9999 → parse_secs (imf_fixdate (date_at time)) ≡ Some time
date_is_read time le =
    let valid = date_is_valid time le in
    let read : parse (imf_fixdate (date_at time)) ≡ Some (date_at time) = parse_complete (imf_fixdate (date_at time)) (date_at time) valid (inl refl) in
    ap (option_and_then valid_secs) read
    ∙ ap (λ b. if b then Some (parts_secs (date_at time)) else None) (is_valid_complete (date_at time) valid)
    ∙ ap (λ n. Some n) (date_counts time)

-- what is written is Some text just before the year 10000
pub written : (d : HttpDate) (time : ℕ) → unix_secs d ≡ time → time < 253402300800 → Some (date_text d) ≡ last_modified time
written d time same lt =
    ap (λ text. Some text) (date_is_written d time same lt)
    ∙ sym (ap (λ b. if b then Some (imf_fixdate (date_at time)) else None) (le-leb (day_at (time / 86400)).year 9999 (year_within (time / 86400) (omega (arith, lt)))))

pub unwritten : (time : ℕ) → (time < 253402300800 → ⊥) → None ≡ last_modified time
unwritten time late = sym (ap (λ b. if b then Some (imf_fixdate (date_at time)) else None) (off (nat_le (day_at (time / 86400)).year 9999) refl))
  where
    off : (b : Bool) → nat_le (day_at (time / 86400)).year 9999 ≡ b → b ≡ false
    off false e = refl
    off true e = absurd (late (omega (arith, days_within (time / 86400) (leb-true _ _ e))))

pub read_back : (time : ℕ) (text : List ℕ) → last_modified time ≡ Some text → parse_secs text ≡ Some time
read_back time text = by (nat_le (day_at (time / 86400)).year 9999) refl
  where
    by : (b : Bool) → nat_le (day_at (time / 86400)).year 9999 ≡ b → (if b then Some (imf_fixdate (date_at time)) else None) ≡ Some text → parse_secs text ≡ Some time
    by true e is = ap parse_secs (sym (same_Some _ _ is)) ∙ date_is_read time (leb-true _ _ e)
    by false e is = absurd (cc is)

late_by : (time : ℕ) → 9999 < (day_at (time / 86400)).year → 253402300800 ≤ time
late_by time h = ⊎_elim (λ lt. absurd (omega (arith, h, year_within (time / 86400) (omega (arith, lt))))) (λ le. le) (cases_lt time 253402300800)

pub left_out : (time : ℕ) → (last_modified time ≡ None) ↔ (253402300800 ≤ time)
left_out time = by (nat_le (day_at (time / 86400)).year 9999) refl
  where
    by : (b : Bool) → nat_le (day_at (time / 86400)).year 9999 ≡ b → ((if b then Some (imf_fixdate (date_at time)) else None) ≡ None) ↔ (253402300800 ≤ time)
    by true e = ((λ is. absurd (cc is)), λ late. absurd (omega (arith, late, days_within (time / 86400) (leb-true _ _ e))))
    by false e = ((λ is. late_by time (leb-false _ _ e)), λ late. refl)
