-- The day after a day has the next date.
use Rattle.std.proofs.Common.{◌≡◌, ℕ, inl, inr, ◌+◌, ◌-◌, ◌/◌, ◌%◌, ◌≤◌, ◌<◌, nat_lt, if◌then◌else◌, List, codes, refl, sym, ◌∙◌, arith, ℤ, pos, ◌+ℤ◌, ◌≤ℤ◌, unsigned_abs, IsTrue}
use Rattle.std.proofs.lemmas.Bool.{cases_lt}
use Rattle.std.proofs.lemmas.Bool.Decides.{nat_tests}
use Rattle.jiff_core.specs.Calendar.{days_from_civil, IsCivilDate}
use Rattle.jiff_core.proofs.CalendarLemmas.{days_from_civil-day_count, day_count-epoch}
use Rattle.jiff_core.proofs.SignedLemmas.{signed_arith, one_part}
use Rattle.json_dates.specs.Civil.{digit, year_month_day, month_length, is_printed_day, date_text, next_date_text, IsDateText}
use Rattle.json_dates.proofs.Days.{before_year, before_month, before_year-next, before_month-zero, before_month-next, before_month-all, before_month-add, count, date_text-is, printed_bounds}
use Rattle.json_dates.proofs.Calendar.{IsDateAt, before_the_end, date_found}

month_short : (y m : ℕ) → month_length y m ≤ 31
month_short y m = grind arith

same_two : (a b : ℕ) → a ≤ 99 → b ≤ 99 → digit (a / 10) ≡ digit (b / 10) → digit a ≡ digit b → a ≡ b
same_two a b s t e f = omega arith

-- two dates of one text are one
same_date : (y m d z n e : ℕ) → y ≤ 9999 → z ≤ 9999 → m ≤ 99 → n ≤ 99 → d ≤ 99 → e ≤ 99 → year_month_day y m d ≡ year_month_day z n e → (y ≡ z) × (m ≡ n) × (d ≡ e)
same_date y m d z n e a b f g h i s =
    let p : digit (y / 100 / 10) ≡ digit (z / 100 / 10) = cc in
    let q : digit (y / 100) ≡ digit (z / 100) = cc in
    let r : digit (y / 10) ≡ digit (z / 10) = cc in
    let t : digit y ≡ digit z = cc in
    let u : digit (m / 10) ≡ digit (n / 10) = cc in
    let v : digit m ≡ digit n = cc in
    let w : digit (d / 10) ≡ digit (e / 10) = cc in
    let x : digit d ≡ digit e = cc in
    (omega (arith, p, q, r, t), same_two m n f g u v, same_two d e h i w x)

-- the day of a date that comes so many days after 0000-01-01
dated : (day : ℤ) (y m d : ℕ) → y ≤ 9999 → (1 ≤ m) × (m ≤ 12) → (1 ≤ d) × (d ≤ month_length y m) → pos (before_year y + before_month y (m - 1) + (d - 1)) ≡ day +ℤ pos 719528 → date_text day ≡ year_month_day y m d
dated day y m d year month of_month e =
    let civil : IsCivilDate (pos y) m d = ((omega (arith, signed_arith), omega (arith, signed_arith)), month, of_month) in
    let is : days_from_civil (pos y) m d ≡ day = omega (arith, signed_arith, days_from_civil-day_count (pos y) m d, count y m d of_month.0, e) in
    date_text-is day y m d civil is

month_long : (y m : ℕ) → 28 ≤ month_length y m
month_long y m = grind arith

-- the three cases of the next date
in_month : (l d m : ℕ) (a b c : List ℕ) → d < l → (if nat_lt d l then a else if nat_lt m 12 then b else c) ≡ a
in_month l d m a b c h = grind (arith, nat_tests)

in_year : (l d m : ℕ) (a b c : List ℕ) → l ≤ d → m < 12 → (if nat_lt d l then a else if nat_lt m 12 then b else c) ≡ b
in_year l d m a b c h k = grind (arith, nat_tests)

past_year : (l d m : ℕ) (a b c : List ℕ) → l ≤ d → 12 ≤ m → (if nat_lt d l then a else if nat_lt m 12 then b else c) ≡ c
past_year l d m a b c h k = grind (arith, nat_tests)

next_month : (day : ℤ) (y m : ℕ) → y ≤ 9999 → 1 ≤ m → m < 12 → pos (before_year y + before_month y (m - 1) + (month_length y m - 1)) ≡ day +ℤ pos 719528 → date_text (day +ℤ pos 1) ≡ year_month_day y (m + 1) 1
next_month day y m year from to e =
    let this : m - 1 + 1 ≡ m = omega arith in
    let that : m + 1 - 1 ≡ m = omega arith in
    let days = rw this at (before_month-next y (m - 1)) in
    let total : pos (before_year y + before_month y (m + 1 - 1) + (1 - 1)) ≡ day +ℤ pos 1 +ℤ pos 719528 = rw that (omega (arith, signed_arith, e, days, month_long y m)) in
    dated (day +ℤ pos 1) y (m + 1) 1 year (omega arith, omega arith) (omega arith, omega (arith, month_long y (m + 1))) total

next_year : (day : ℤ) (y : ℕ) → y ≤ 9999 → pos (before_year y + before_month y 11 + (month_length y 12 - 1)) ≡ day +ℤ pos 719528 → (day +ℤ pos 1) ≤ℤ pos 2932896 → date_text (day +ℤ pos 1) ≡ year_month_day (y + 1) 1 1
next_year day y year e last =
    let total : pos (before_year (y + 1)) ≡ day +ℤ pos 1 +ℤ pos 719528 = omega (arith, signed_arith, e, before_year-next y, before_month-next y 11, before_month-all y, month_long y 12) in
    elim (cases_lt (y + 1) 10000) [
      | inl small ↦ dated (day +ℤ pos 1) (y + 1) 1 1 (omega arith) (omega arith, omega arith) (omega arith, omega (arith, month_long (y + 1) 1)) (omega (arith, signed_arith, total, before_month-zero (y + 1)))
      | inr large ↦
          let e₂ : y + 1 ≡ 10000 = omega arith in
          let total₂ = rw e₂ at total in
          absurd (omega (arith, signed_arith, total₂, before_the_end, last))
    ]

next : (day : ℤ) (y m d : ℕ) → IsDateText (date_text day) y m d → pos (before_year y + before_month y (m - 1) + (d - 1)) ≡ day +ℤ pos 719528 → (day +ℤ pos 1) ≤ℤ pos 2932896 → date_text (day +ℤ pos 1) ≡ next_date_text y m d
next day y m d is e last =
    elim (cases_lt d (month_length y m)) [
      | inl here ↦
          let total : pos (before_year y + before_month y (m - 1) + (d + 1 - 1)) ≡ day +ℤ pos 1 +ℤ pos 719528 = omega (arith, signed_arith, e, is.day_from) in
          dated (day +ℤ pos 1) y m (d + 1) is.year_to (is.month_from, is.month_to) (omega arith, omega arith) total ∙ sym (in_month (month_length y m) d m _ _ _ here)
      | inr past ↦
          let of_month : d ≡ month_length y m = omega (arith, is.day_to) in
          let e₂ = rw of_month at e in
          elim (cases_lt m 12) [
            | inl here ↦ next_month day y m is.year_to is.month_from here e₂ ∙ sym (in_year (month_length y m) d m _ _ _ past here)
            | inr late ↦
                let december : m ≡ 12 = omega (arith, is.month_to) in
                let e₃ = rw december at e₂ in
                next_year day y is.year_to e₃ last ∙ sym (past_year (month_length y m) d m _ _ _ past late)
          ]
    ]

pub next_date : (day : ℤ) (y m d : ℕ) → IsTrue (is_printed_day day) → IsTrue (is_printed_day (day +ℤ pos 1)) → IsDateText (date_text day) y m d → date_text (day +ℤ pos 1) ≡ next_date_text y m d
next_date day y m d printed on is =
    let found = date_found day printed in
    let at = found.3 in
    let same = same_date y m d found.0 found.1 found.2 is.year_to at.is.year_to (omega (arith, is.month_to)) (omega (arith, at.is.month_to)) (omega (arith, is.day_to, month_short y m)) (omega (arith, at.is.day_to, month_short found.0 found.1)) (sym is.text_is ∙ at.is.text_is) in
    let bounds = printed_bounds day printed in
    let days : before_year y + before_month y (m - 1) + (d - 1) ≡ unsigned_abs (day +ℤ pos 719528) = rw (same.0, same.1, same.2) at.days in
    next day y m d is (omega (arith, signed_arith, one_part (day +ℤ pos 719528), bounds.0, bounds.1, days)) (printed_bounds (day +ℤ pos 1) on).1

pub first_day : date_text (pos 0) ≡ codes "1970-01-01"
first_day =
    let civil : IsCivilDate (pos 1970) 1 1 = ((omega (arith, signed_arith), omega (arith, signed_arith)), (omega arith, omega arith), (omega arith, omega (arith, month_long 1970 1))) in
    date_text-is (pos 0) 1970 1 1 civil (omega (arith, signed_arith, days_from_civil-day_count (pos 1970) 1 1, day_count-epoch))
