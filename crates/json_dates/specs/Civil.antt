-- The proleptic Gregorian calendar (ISO 8601; leap years as in RFC 3339, appendix C), and the text of a day: `full-date` of RFC 3339, section 5.6.
use Rattle.std.specs.Prelude.{◌≡◌, ◌≤◌, ℕ, zero, suc, ◌+◌, ◌-◌, ◌/◌, ◌%◌, Bool, not, ◌&&◌, ◌||◌, ◌==◌, nat_lt, int_le, if◌then◌else◌, List, [], ◌∷◌, ◌++◌, ℤ, pos, neg_ℤ, ◌+ℤ◌, unsigned_abs}

-- every fourth year, but of the centuries only every fourth
abbrev pub is_leap : ℕ → Bool
is_leap year = (year % 4 == 0) && (not (year % 100 == 0) || (year % 400 == 0))

-- the days of a year
abbrev pub year_length : ℕ → ℕ
year_length year = if is_leap year then 366 else 365

-- the days of a month: thirty have April, June, September and November
abbrev pub month_length : ℕ → ℕ → ℕ
month_length year month =
    if month == 2 then (if is_leap year then 29 else 28)
    else (if (month == 4) || (month == 6) || (month == 9) || (month == 11) then 30 else 31)

-- the last decimal digit
abbrev pub digit : ℕ → ℕ
digit n = 48 + n % 10

-- the last two decimal digits
abbrev pub two_digits : ℕ → List ℕ
two_digits n = digit (n / 10) ∷ digit n ∷ []

-- YYYY-MM-DD
abbrev pub year_month_day : ℕ → ℕ → ℕ → List ℕ
year_month_day year month day =
    two_digits (year / 100) ++ two_digits year ++ 45 ∷ two_digits month ++ 45 ∷ two_digits day

-- the date after this one: the next day of the month, or the first of the next month, or of the next year
abbrev pub next_date_text : ℕ → ℕ → ℕ → List ℕ
next_date_text year month day =
    if nat_lt day (month_length year month) then year_month_day year month (day + 1)
    else if nat_lt month 12 then year_month_day year (month + 1) 1
    else year_month_day (year + 1) 1 1

-- The day that comes so many days after the first of this month: it lies in this month, or is counted on from the first of the next. `more` bounds how many months are looked at.
unfoldable pub count_months : ℕ → ℕ → ℕ → ℕ → List ℕ
count_months zero year month days = []
count_months (suc more) year month days =
    if nat_lt days (month_length year month) then year_month_day year month (days + 1)
    else count_months more year (month + 1) (days - month_length year month)

-- The day that comes so many days after the first of this year, in the same way.
unfoldable pub count_years : ℕ → ℕ → ℕ → List ℕ
count_years zero year days = []
count_years (suc more) year days =
    if nat_lt days (year_length year) then count_months 12 year 1 days
    else count_years more (year + 1) (days - year_length year)

-- The day number is 0 for 1970-01-01. From 0000-01-01, day -719528, to 9999-12-31, day 2932896, the year has four digits.
unfoldable pub is_printed_day : ℤ → Bool
is_printed_day day = int_le (neg_ℤ (pos 719528)) day && int_le day (pos 2932896)

-- the text of a printed day, counted from 0000-01-01
unfoldable pub date_text : ℤ → List ℕ
date_text day = count_years 10000 0 (unsigned_abs (day +ℤ pos 719528))

-- YYYY-MM-DD of a day that the calendar has
pub record IsDateText (text : List ℕ) (year month day : ℕ) : Type 0 where
  pub year_to : year ≤ 9999
  pub month_from : 1 ≤ month
  pub month_to : month ≤ 12
  pub day_from : 1 ≤ day
  pub day_to : day ≤ month_length year month
  pub text_is : text ≡ year_month_day year month day
