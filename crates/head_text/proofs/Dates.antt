-- The date of a second is the one whose numbers the definition gives.
use Rattle.std.proofs.Common.{◌≡◌, ℕ, zero, suc, ◌+◌, ◌-◌, ◌*◌, ◌/◌, ◌%◌, ◌<◌, ◌≤◌, Bool, true, false, leb, cond, refl, sym, ap, ◌∙◌, arith, inl, inr, Some, None}
use Rattle.std.proofs.lemmas.Bool.{leb-true, leb-false}
use Rattle.std.proofs.Math.Nat.{eq-or-lt_of_le}
use Rattle.httpdate.specs.declared.date.HttpDate.{HttpDate}
use Rattle.httpdate.specs.Calendar.{days_of_years, days_of_months, days_in_year, days_in_month, days_from_civil, weekday}
use Rattle.std.specs.Option.{option_and_then}
use Rattle.httpdate.specs.Date.{unix_secs, date_text, parse_secs, valid_secs}
use Rattle.httpdate.specs.Valid.{IsValid, parts_secs}
use Rattle.httpdate.proofs.FormatLemmas.{parse_complete}
use Rattle.httpdate.proofs.CalendarLemmas.{days_of_years_closed, days_of_months_all}
use Rattle.httpdate.proofs.ValidLemmas.{is_valid_complete}
use Rattle.httpdate.proofs.Theorems.{date_text_is}
use Rattle.head_text.specs.DateText.{last_begun, years_before, months_before, year_of, day_of_year, month_of, day_of_month, parts_of, http_date}

-- a span that has begun, and the next one has not, unless it is the last
record IsLastBegun (before : ℕ → ℕ) (n day r : ℕ) : Type 0 where
  within : r ≤ n
  begun : before r ≤ day
  next : r < n → day < before (suc r)

-- the first case of the search from the last span down: this one has begun
has_begun : (before : ℕ → ℕ) (n day r : ℕ) (b : Bool) → leb (before (suc n)) day ≡ b → IsLastBegun before n day r
    → IsLastBegun before (suc n) day (cond b (suc n) r)
has_begun before n day r true e h = record { within = omega arith; begun = leb-true _ _ e; next = λ l. absurd (omega arith) }
has_begun before n day r false e h =
    let later = leb-false _ _ e in
    let next : r < suc n → day < before (suc r) = λ l. elim (eq-or-lt_of_le h.within) [
      | inl same ↦ rw same later
      | inr less ↦ h.next less
    ] in
    record { within = omega (arith, h.within); begun = h.begun; next = next }

last_begun_is : (before : ℕ → ℕ) (n day : ℕ) → before 0 ≤ day → IsLastBegun before n day (last_begun before n day)
unfolding last_begun
last_begun_is before zero day start = record { within = omega arith; begun = start; next = λ h. absurd (omega arith) }
last_begun_is before (suc n) day start = has_begun before n day _ (leb (before (suc n)) day) refl (last_begun_is before n day start)

no_years : days_of_years 0 ≡ 0
unfolding days_of_years
no_years = refl

years_more : (n : ℕ) → days_of_years (suc n) ≡ days_of_years n + days_in_year (1970 + n)
unfolding days_of_years
years_more n = refl

no_months : (y : ℕ) → days_of_months y 0 ≡ 0
unfolding days_of_months
no_months y = refl

months_more : (y n : ℕ) → days_of_months y (suc n) ≡ days_of_months y n + days_in_month y (suc n)
unfolding days_of_months
months_more y n = refl

-- the year in which a day falls, and the day's place in it
record IsInYear (day : ℕ) : Type 0 where
  within : years_before day ≤ 8029
  begun : days_of_years (years_before day) ≤ day
  place : day_of_year day < days_in_year (year_of day)

year_is : (day : ℕ) → day < 2932897 → IsInYear day
unfolding years_before
year_is day early =
    let start : days_of_years 0 ≤ day = omega (arith, no_years) in
    let found = last_begun_is days_of_years 8029 day start in
    let last : days_of_years 8030 ≡ 2932897 = omega (arith, days_of_years_closed 8030) in
    let more = years_more (last_begun days_of_years 8029 day) in
    let next : day < days_of_years (suc (last_begun days_of_years 8029 day)) = elim (eq-or-lt_of_le found.within) [
      | inl same ↦ rw same (omega (arith, last))
      | inr less ↦ found.next less
    ] in
    record { within = found.within; begun = found.begun; place = omega (arith, found.begun) }

-- the month of a year in which a day falls, and the day's place in it
record IsInMonth (year place : ℕ) : Type 0 where
  within : months_before year place ≤ 11
  begun : days_of_months year (months_before year place) ≤ place
  day : place - days_of_months year (months_before year place) < days_in_month year (suc (months_before year place))

month_is : (year place : ℕ) → place < days_in_year year → IsInMonth year place
unfolding months_before
month_is year place inside =
    let start : days_of_months year 0 ≤ place = omega (arith, no_months year) in
    let found = last_begun_is (days_of_months year) 11 place start in
    let last = days_of_months_all year in
    let more = months_more year (last_begun (days_of_months year) 11 place) in
    let next : place < days_of_months year (suc (last_begun (days_of_months year) 11 place)) = elim (eq-or-lt_of_le found.within) [
      | inl same ↦ rw same (omega (arith, last))
      | inr less ↦ found.next less
    ] in
    record { within = found.within; begun = found.begun; day = omega (arith, found.begun) }

-- the numbers of a day count back to it
days_of_parts : (day : ℕ) → day < 2932897 → days_from_civil (year_of day) (month_of day) (day_of_month day) ≡ day
days_of_parts day early =
    let y = year_is day early in
    let m = month_is (year_of day) (day_of_year day) y.place in
    let back : 1970 + years_before day - 1970 ≡ years_before day = omega arith in
    let month : 1 + months_before (year_of day) (day_of_year day) - 1 ≡ months_before (year_of day) (day_of_year day) = omega arith in
    rw (back, month) (omega (arith, y.begun, m.begun))

parts_valid : (secs : ℕ) → secs < 253402300800 → IsValid (parts_of secs)
unfolding parts_of
parts_valid secs early =
    let day_early : secs / 86400 < 2932897 = omega arith in
    let y = year_is (secs / 86400) day_early in
    let m = month_is (year_of (secs / 86400)) (day_of_year (secs / 86400)) y.place in
    let named : 1 + months_before (year_of (secs / 86400)) (day_of_year (secs / 86400)) ≡ suc (months_before (year_of (secs / 86400)) (day_of_year (secs / 86400))) = omega arith in
    let day : day_of_month (secs / 86400) ≤ days_in_month (year_of (secs / 86400)) (month_of (secs / 86400)) = rw named (omega (arith, m.day)) in (
      ((omega arith, omega (arith, y.within)), (omega arith, omega (arith, m.within)), (omega arith, day)),
      (omega arith, omega arith, omega arith),
      ap weekday (sym (days_of_parts (secs / 86400) day_early)),
    )

parts_secs_is : (secs : ℕ) → secs < 253402300800 → parts_secs (parts_of secs) ≡ secs
unfolding parts_of
parts_secs_is secs early =
    let day_early : secs / 86400 < 2932897 = omega arith in
    ap (λ (d : ℕ). d * 86400 + secs % 86400 / 3600 * 3600 + secs % 3600 / 60 * 60 + secs % 60) (days_of_parts (secs / 86400) day_early) ∙ omega arith

-- what `httpdate` writes for a date is the text of its second
pub date_text-http_date : (date : HttpDate) → unix_secs date < 253402300800 → date_text date ≡ http_date (unix_secs date)
unfolding http_date
date_text-http_date date early =
    date_text_is date (parts_of (unix_secs date)) (is_valid_complete _ (parts_valid (unix_secs date) early)) (sym (parts_secs_is (unix_secs date) early))

-- the text of a second is read as that second
pub http_date_is_read : (secs : ℕ) → secs < 253402300800 → parse_secs (http_date secs) ≡ Some secs
unfolding http_date
http_date_is_read secs early =
    let valid = parts_valid secs early in
    ap (option_and_then valid_secs) (parse_complete (http_date secs) (parts_of secs) valid (inl refl))
    ∙ ap (λ b. cond b (Some (parts_secs (parts_of secs))) None) (is_valid_complete (parts_of secs) valid)
    ∙ ap Some (parts_secs_is secs early)
