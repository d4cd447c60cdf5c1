-- Days counted over years and months, the calendar of `jiff_core`, and the text of a day.
use Rattle.std.proofs.Common.{◌≡◌, ℕ, zero, suc, inl, inr, ◌+◌, ◌-◌, ◌≤◌, ◌<◌, refl, sym, ap, ◌∙◌, arith, rules, ℤ, pos, negsuc, neg_ℤ, ◌+ℤ◌, ◌<ℤ◌, ◌≤ℤ◌, unsigned_abs, IsTrue}
use Rattle.std.proofs.lemmas.Bool.Decides.{nat_tests}
use Rattle.std.proofs.lemmas.Bool.{cases_lt}
use Rattle.jiff_core.specs.Calendar.{days_of_months, day_count, days_from_civil, IsCivilDate}
use Rattle.jiff_core.proofs.CalendarLemmas.{days_of_months_all, day_count-next_year, day_count-day_of_year, day_of_year_bound, days_from_civil-day_count, day_count-lt_year}
use Rattle.jiff_core.proofs.MarchLemmas.{day_count-early}
use Rattle.jiff_core.proofs.SignedLemmas.{signed_arith, one_part}
use Rattle.json_dates.specs.Civil.{year_length, month_length, year_month_day, count_months, count_years, is_printed_day, date_text}

-- the days before a year, from the year 0 on
unfoldable pub before_year : ℕ → ℕ
before_year zero = 0
before_year (suc year) = before_year year + year_length year

-- the days of the first n months of a year
unfoldable pub before_month : ℕ → ℕ → ℕ
before_month year zero = 0
before_month year (suc n) = before_month year n + month_length year (suc n)

pub before_year-next : (y : ℕ) → before_year (y + 1) ≡ before_year y + year_length y
unfolding before_year
before_year-next y = let e : y + 1 ≡ suc y = omega arith in rw e refl

before_year-add : (y k : ℕ) → before_year y ≤ before_year (k + y)
before_year-add y zero = let e : 0 + y ≡ y = omega arith in rw e (omega arith)
before_year-add y (suc k) =
    let e : suc k + y ≡ k + y + 1 = omega arith in
    rw e (omega (arith, before_year-next (k + y), before_year-add y k))

-- the next year begins no later than a later one
before_year-later : (y later : ℕ) → y < later → before_year y + year_length y ≤ before_year later
before_year-later y later h =
    let e : (later - (y + 1)) + (y + 1) ≡ later = omega arith in
    let le = rw e at (before_year-add (y + 1) (later - (y + 1))) in
    omega (arith, before_year-next y, le)

pub before_year-zero : before_year 0 ≡ 0
unfolding before_year
before_year-zero = refl

pub before_month-zero : (y : ℕ) → before_month y 0 ≡ 0
unfolding before_month
before_month-zero y = refl

pub before_month-next : (y m : ℕ) → before_month y (m + 1) ≡ before_month y m + month_length y (m + 1)
unfolding before_month
before_month-next y m = let e : m + 1 ≡ suc m = omega arith in rw e refl

pub before_month-add : (y m k : ℕ) → before_month y m ≤ before_month y (k + m)
before_month-add y m zero = let e : 0 + m ≡ m = omega arith in rw e (omega arith)
before_month-add y m (suc k) =
    let e : suc k + m ≡ k + m + 1 = omega arith in
    rw e (omega (arith, before_month-next y (k + m), before_month-add y m k))

before_month-later : (y m later : ℕ) → m < later → before_month y m + month_length y (m + 1) ≤ before_month y later
before_month-later y m later h =
    let e : (later - (m + 1)) + (m + 1) ≡ later = omega arith in
    let le = rw e at (before_month-add y (m + 1) (later - (m + 1))) in
    omega (arith, before_month-next y m, le)

pub count_years-here : (more y n : ℕ) → n < year_length y → count_years (suc more) y n ≡ count_months 12 y 1 n
unfolding count_years
count_years-here more y n h = grind (arith, nat_tests)

pub count_years-on : (more y n : ℕ) → year_length y ≤ n → count_years (suc more) y n ≡ count_years more (y + 1) (n - year_length y)
unfolding count_years
count_years-on more y n h = grind (arith, nat_tests)

pub count_months-here : (more y m n : ℕ) → n < month_length y m → count_months (suc more) y m n ≡ year_month_day y m (n + 1)
unfolding count_months
count_months-here more y m n h = grind (arith, nat_tests)

pub count_months-on : (more y m n : ℕ) → month_length y m ≤ n → count_months (suc more) y m n ≡ count_months more y (m + 1) (n - month_length y m)
unfolding count_months
count_months-on more y m n h = grind (arith, nat_tests)

-- counted from the year y, the day j of a later year
count_years-at : (more y n year j : ℕ) → y ≤ year → year < y + more → before_year y + n ≡ before_year year + j → j < year_length year → count_years more y n ≡ count_months 12 year 1 j
count_years-at zero y n year j from to e h = absurd (omega arith)
count_years-at (suc more) y n year j from to e h =
    elim (cases_lt y year) [
      | inl lt ↦
          let on : year_length y ≤ n = omega (arith, before_year-later y year lt) in
          count_years-on more y n on ∙ count_years-at more (y + 1) (n - year_length y) year j (omega arith) (omega arith) (omega (arith, before_year-next y)) h
      | inr ge ↦
          let here : y ≡ year = omega arith in
          let same : n ≡ j = omega (arith, ap before_year here) in
          rw (here, same) (count_years-here more year j h)
    ]

-- counted from the month m + 1, the day j of a later month
count_months-at : (more y m n month j : ℕ) → m ≤ month → month < m + more → before_month y m + n ≡ before_month y month + j → j < month_length y (month + 1) → count_months more y (m + 1) n ≡ year_month_day y (month + 1) (j + 1)
count_months-at zero y m n month j from to e h = absurd (omega arith)
count_months-at (suc more) y m n month j from to e h =
    elim (cases_lt m month) [
      | inl lt ↦
          let on : month_length y (m + 1) ≤ n = omega (arith, before_month-later y m month lt) in
          count_months-on more y (m + 1) n on ∙ count_months-at more y (m + 1) (n - month_length y (m + 1)) month j (omega arith) (omega arith) (omega (arith, before_month-next y m)) h
      | inr ge ↦
          let here : m ≡ month = omega arith in
          let same : n ≡ j = omega (arith, ap (before_month y) here) in
          rw (here, same) (count_months-here more y (month + 1) j h)
    ]

-- the count of 0000-01-01
pub count-zero : day_count (pos 0) 1 1 ≡ 3652425
count-zero = day_count-early (pos 0) 9999 1 1 refl (omega arith) (omega arith) (omega arith)

pub count-year : (y : ℕ) → day_count (pos y) 1 1 ≡ before_year y + 3652425
unfolding before_year
count-year zero = count-zero
count-year (suc y) =
    let e : pos (suc y) ≡ pos y +ℤ pos 1 = omega (arith, signed_arith) in
    let low : neg_ℤ (pos 10000) ≤ℤ pos y = omega (arith, signed_arith) in
    omega (arith, day_count-next_year (pos y) (pos (suc y)) low e, count-year y)

pub months : (y n : ℕ) → days_of_months (pos y) n ≡ before_month y n
unfolding before_month days_of_months
months y zero = refl
months y (suc n) = ap (λ (k : ℕ). k + month_length y (suc n)) (months y n)

pub before_month-all : (y : ℕ) → before_month y 12 ≡ year_length y
before_month-all y = sym (months y 12) ∙ days_of_months_all (pos y)

pub count : (y m d : ℕ) → 1 ≤ d → day_count (pos y) m d ≡ before_year y + before_month y (m - 1) + (d - 1) + 3652425
count y m d h = omega (arith, day_count-day_of_year (pos y) m d h, months y (m - 1), count-year y)

-- from 0000-01-01 on, no year is negative
pub year-is : (day year : ℤ) (m d : ℕ) → IsCivilDate year m d → days_from_civil year m d ≡ day → neg_ℤ (pos 719528) ≤ℤ day → year ≡ pos (unsigned_abs year)
year-is day (pos n) m d civil e low = refl
year-is day (negsuc n) m d civil e low =
    let before : negsuc n <ℤ pos 0 = omega (arith, signed_arith) in
    let lt = day_count-lt_year (negsuc n) m d (pos 0) 1 1 civil (omega arith) before in
    let c = days_from_civil-day_count (negsuc n) m d in
    let parts = rw e at c in
    absurd (omega (arith, signed_arith, parts, lt, count-zero, low))

-- the text of the day that is a date of the calendar
pub date_text-is : (day : ℤ) (y m d : ℕ) → IsCivilDate (pos y) m d → days_from_civil (pos y) m d ≡ day → date_text day ≡ year_month_day y m d
unfolding date_text
date_text-is day y m d civil e =
    let n = unsigned_abs (day +ℤ pos 719528) in
    let j = before_month y (m - 1) + (d - 1) in
    let parts = rw e at (days_from_civil-day_count (pos y) m d) in
    let low : 1 ≤ d = civil.2.0 in
    let last : before_month y (m - 1) + d ≤ year_length y = omega (arith, day_of_year_bound (pos y) m d civil, months y (m - 1)) in
    let small : y ≤ 9999 = omega (arith, signed_arith, civil.0) in
    let days : before_year 0 + n ≡ before_year y + j = omega (arith, signed_arith, before_year-zero, one_part (day +ℤ pos 719528), parts, count y m d low) in
    let month : m - 1 + 1 ≡ m = omega (arith, civil.1) in
    let of_month : d - 1 + 1 ≡ d = omega arith in
    let within : d - 1 < month_length y (m - 1 + 1) = rw month (omega (arith, civil.2)) in
    let found = count_months-at 12 y 0 j (m - 1) (d - 1) (omega arith) (omega (arith, civil.1)) (omega (arith, before_month-zero y)) within in
    count_years-at 10000 0 n y j (omega arith) (omega arith) days (omega arith) ∙ rw (month, of_month) at found

pub printed_bounds : (day : ℤ) → IsTrue (is_printed_day day) → (neg_ℤ (pos 719528) ≤ℤ day) × (day ≤ℤ pos 2932896)
unfolding is_printed_day
printed_bounds day h = search rules
