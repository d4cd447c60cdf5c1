-- Each printed day has a date of the calendar, and each such date a day.
use Rattle.std.proofs.Common.{◌≡◌, ℕ, zero, suc, inl, inr, ◌+◌, ◌-◌, ◌≤◌, ◌<◌, List, refl, sym, ◌∙◌, arith, ℤ, pos, neg_ℤ, ◌+ℤ◌, ◌≤ℤ◌, unsigned_abs, IsTrue}
use Rattle.std.proofs.lemmas.Bool.{cases_lt}
use Rattle.jiff_core.specs.Calendar.{days_from_civil, IsCivilDate}
use Rattle.jiff_core.proofs.CalendarLemmas.{days_from_civil-day_count, day_count_bounds, day_count-end}
use Rattle.jiff_core.proofs.SignedLemmas.{signed_arith, one_part}
use Rattle.json_dates.specs.Civil.{year_length, month_length, count_months, count_years, is_printed_day, date_text, IsDateText}
use Rattle.json_dates.proofs.Days.{before_year, before_month, before_year-zero, before_month-zero, before_year-next, before_month-next, before_month-all, count_years-here, count_years-on, count_months-here, count_months-on, count-year, months, count, date_text-is, printed_bounds}

-- a date that has this text, and comes so many days after 0000-01-01
pub record IsDateAt (text : List ℕ) (n year month d : ℕ) : Type 0 where
  pub is : IsDateText text year month d
  pub days : before_year year + before_month year (month - 1) + (d - 1) ≡ n

-- counted from the month m + 1
month_found : (more y m n : ℕ) → y ≤ 9999 → m + more ≤ 12 → before_month y m + n < before_month y (m + more) → (month : ℕ) × (d : ℕ) × IsDateAt (count_months more y (m + 1) n) (before_year y + before_month y m + n) y month d
month_found zero y m n small to h = let e : m + 0 ≡ m = omega arith in absurd (omega (arith, rw e at h))
month_found (suc more) y m n small to h =
    elim (cases_lt n (month_length y (m + 1))) [
      | inl here ↦
          let e : m + 1 - 1 ≡ m = omega arith in (
            m + 1,
            n + 1,
            record {
              is = record { year_to = small; month_from = omega arith; month_to = omega arith; day_from = omega arith; day_to = omega arith; text_is = count_months-here more y (m + 1) n here };
              days = rw e (omega arith);
            },
          )
      | inr on ↦
          let e : m + suc more ≡ m + 1 + more = omega arith in
          let h₂ = rw e at h in
          let found = month_found more y (m + 1) (n - month_length y (m + 1)) small (omega arith) (omega (arith, h₂, before_month-next y m)) in
          (found.0, found.1, record { is = rw (count_months-on more y (m + 1) n on) found.2.is; days = found.2.days ∙ omega (arith, before_month-next y m) })
    ]

-- counted from the year y
year_found : (more y n : ℕ) → y + more ≤ 10000 → before_year y + n < before_year (y + more) → (year : ℕ) × (month : ℕ) × (d : ℕ) × IsDateAt (count_years more y n) (before_year y + n) year month d
year_found zero y n to h = let e : y + 0 ≡ y = omega arith in absurd (omega (arith, rw e at h))
year_found (suc more) y n to h =
    elim (cases_lt n (year_length y)) [
      | inl here ↦
          let found = month_found 12 y 0 n (omega arith) (omega arith) (omega (arith, before_month-zero y, before_month-all y)) in
          (y, found.0, found.1, record { is = rw (count_years-here more y n here) found.2.is; days = found.2.days ∙ omega (arith, before_month-zero y) })
      | inr on ↦
          let e : y + suc more ≡ y + 1 + more = omega arith in
          let h₂ = rw e at h in
          let found = year_found more (y + 1) (n - year_length y) (omega arith) (omega (arith, h₂, before_year-next y)) in
          (found.0, found.1, found.2, record { is = rw (count_years-on more y n on) found.3.is; days = found.3.days ∙ omega (arith, before_year-next y) })
    ]

pub before_the_end : before_year 10000 ≡ 3652425
before_the_end = omega (arith, count-year 10000, day_count-end)

pub date_found : (day : ℤ) → IsTrue (is_printed_day day) → (year : ℕ) × (month : ℕ) × (of_month : ℕ) × IsDateAt (date_text day) (unsigned_abs (day +ℤ pos 719528)) year month of_month
unfolding date_text
date_found day printed =
    let bounds = printed_bounds day printed in
    let n = unsigned_abs (day +ℤ pos 719528) in
    let within : before_year 0 + n < before_year (0 + 10000) = omega (arith, signed_arith, one_part (day +ℤ pos 719528), before_year-zero, before_the_end, bounds.0, bounds.1) in
    let found = year_found 10000 0 n (omega arith) within in
    (found.0, found.1, found.2, record { is = found.3.is; days = found.3.days ∙ omega (arith, before_year-zero) })

pub has_date : (day : ℤ) → IsTrue (is_printed_day day) → (year : ℕ) × (month : ℕ) × (of_month : ℕ) × IsDateText (date_text day) year month of_month
has_date day printed = let found = date_found day printed in (found.0, found.1, found.2, found.3.is)

printed_of : (day : ℤ) → neg_ℤ (pos 719528) ≤ℤ day → day ≤ℤ pos 2932896 → IsTrue (is_printed_day day)
unfolding is_printed_day
printed_of day from to = grind (arith, signed_arith)

pub has_day : (text : List ℕ) (year month of_month : ℕ) → IsDateText text year month of_month → (day : ℤ) × IsTrue (is_printed_day day) × (date_text day ≡ text)
has_day text year month of_month is =
    let day = days_from_civil (pos year) month of_month in
    let civil : IsCivilDate (pos year) month of_month = ((omega (arith, signed_arith), omega (arith, signed_arith, is.year_to)), (is.month_from, is.month_to), (is.day_from, is.day_to)) in
    let parts = days_from_civil-day_count (pos year) month of_month in
    let from : neg_ℤ (pos 719528) ≤ℤ day = omega (arith, signed_arith, parts, count year month of_month is.day_from) in
    let to : day ≤ℤ pos 2932896 = omega (arith, signed_arith, parts, day_count_bounds (pos year) month of_month civil) in
    (day, printed_of day from to, date_text-is day year month of_month civil refl ∙ sym is.text_is)
