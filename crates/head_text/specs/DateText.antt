-- The text of a date (RFC 9110, section 5.6.7) as a function of its second since 1970.
use Rattle.std.specs.Prelude.{ℕ, zero, suc, ◌+◌, ◌-◌, ◌/◌, ◌%◌, nat_le, List, if◌then◌else◌}
use Rattle.httpdate.specs.declared.parts.Parts.{Parts}
use Rattle.httpdate.specs.Calendar.{days_of_years, days_of_months, weekday}
use Rattle.httpdate.specs.Text.{imf_fixdate}

-- the last of the spans 0 to n that has begun by the day, where `before` counts the days before each span
unfoldable pub last_begun : (ℕ → ℕ) → ℕ → ℕ → ℕ
last_begun before zero day = 0
last_begun before (suc n) day = if nat_le (before (suc n)) day then suc n else last_begun before n day

-- how many years of those from 1970 on have ended by the day, which is counted from 1 January 1970 at 0
unfoldable pub years_before : ℕ → ℕ
years_before day = last_begun days_of_years 8029 day

-- how many months of the year have ended by the day, which is counted from 1 January of that year at 0
unfoldable pub months_before : ℕ → ℕ → ℕ
months_before year day = last_begun (days_of_months year) 11 day

abbrev pub year_of : ℕ → ℕ
year_of day = 1970 + years_before day

-- the day's place in its year, from 0
abbrev pub day_of_year : ℕ → ℕ
day_of_year day = day - days_of_years (years_before day)

abbrev pub month_of : ℕ → ℕ
month_of day = 1 + months_before (year_of day) (day_of_year day)

abbrev pub day_of_month : ℕ → ℕ
day_of_month day = 1 + (day_of_year day - days_of_months (year_of day) (months_before (year_of day) (day_of_year day)))

-- the numbers that a second's date and time of day have
unfoldable pub parts_of : ℕ → Parts
parts_of secs = record {
  year = year_of (secs / 86400);
  mon = month_of (secs / 86400);
  day = day_of_month (secs / 86400);
  hour = secs % 86400 / 3600;
  min = secs % 3600 / 60;
  sec = secs % 60;
  wday = weekday (secs / 86400);
}

-- `Sun, 06 Nov 1994 08:49:37 GMT`
unfoldable pub http_date : ℕ → List ℕ
http_date secs = imf_fixdate (parts_of secs)
