-- The texts of days and timestamps need no escape.
use Rattle.std.proofs.Common.{◌≡◌, inl, inr, ℕ, zero, suc, ◌+◌, ◌-◌, ◌/◌, ◌%◌, ◌<◌, ◌≤◌, ◌==◌, nat_lt, Bool, true, false, List, [], ◌∷◌, ◌++◌, ℤ, pos, ◌+ℤ◌, unsigned_abs, Option, Some, None, if◌then◌else◌, refl, arith}
use Rattle.std.proofs.lemmas.Bool.Decides.{nat_tests}
use Rattle.arrow_core.specs.declared.types.TimeUnit.{TimeUnit}
use Rattle.arrow_base.specs.JsonString.{is_unescaped, Chars, no_chars, one_char}
use Rattle.json_dates.specs.Civil.{digit, year_month_day, count_months, count_years, date_text, is_printed_day, month_length, year_length}
use Rattle.json_dates.specs.Times.{quoted, date_json, local_day, second_of_day, nanoseconds, time_text, three_digits, fraction_text, separator, zone_text, timestamp_text, is_printed_timestamp, timestamp_json}
use Rattle.json_tree.specs.Tree.{string}
use Rattle.ndjson_read.specs.Lines.{is_line_feed}
use Rattle.ndjson.proofs.Clean.{Clean, clean-after, clean-before, clean-nil}
use Rattle.ndjson.proofs.Written.{Good, of_scalar}

-- an ASCII byte that stands for itself
abbrev Plain : ℕ → Type 0
Plain b = (is_unescaped b ≡ true) × (b < 128)

abbrev pub Printed : List ℕ → Type 0
Printed [] = Unit {0}
Printed (b ∷ bs) = Plain b × Printed bs

plain-feedless : (b : ℕ) → is_unescaped b ≡ true → is_line_feed b ≡ false
unfolding is_unescaped
plain-feedless b e = grind (arith, nat_tests, e)

printed-clean : (text : List ℕ) → Printed text → Clean text
printed-clean [] h = clean-nil
printed-clean (b ∷ bs) h = clean-after b bs h.0.1 (plain-feedless b h.0.0) (printed-clean bs h.1)

printed-chars : (text : List ℕ) → Printed text → Chars text text
printed-chars [] h = no_chars
printed-chars (b ∷ bs) h = one_char (b ∷ []) (b ∷ []) bs bs (inl (b, refl, refl, h.0.0)) (printed-chars bs h.1) refl refl

pub printed-good : (d : ℕ) (text : List ℕ) → Printed text → Good d (string text) (quoted text)
printed-good d text h = (
  clean-after 34 (text ++ 34 ∷ []) (omega arith) refl (clean-before text 34 (omega arith) refl (printed-clean text h)),
  of_scalar d (string text) (quoted text) (inr (inr (inr (inl (text, (text, refl, printed-chars text h), refl))))),
)

-- ---- bytes

plain-between : (b : ℕ) → 35 ≤ b → b < 92 → Plain b
unfolding is_unescaped
plain-between b low high = (grind (arith, nat_tests, low, high), omega (arith, high))

plain-digit : (n : ℕ) → Plain (digit n)
plain-digit n = plain-between (digit n) (omega arith) (omega arith)

plain-dash : Plain 45
plain-dash = plain-between 45 (omega arith) (omega arith)

plain-colon : Plain 58
plain-colon = plain-between 58 (omega arith) (omega arith)

plain-point : Plain 46
plain-point = plain-between 46 (omega arith) (omega arith)

plain-space : Plain 32
unfolding is_unescaped
plain-space = (refl, omega arith)

plain-if : (b : Bool) (x y : ℕ) → Plain x → Plain y → Plain (if b then x else y)
plain-if true x y h k = h
plain-if false x y h k = k

printed-if : (b : Bool) (x y : List ℕ) → Printed x → Printed y → Printed (if b then x else y)
printed-if true x y h k = h
printed-if false x y h k = k

printed-append : (x y : List ℕ) → Printed x → Printed y → Printed (x ++ y)
printed-append [] y h k = k
printed-append (b ∷ x) y h k = (h.0, printed-append x y h.1 k)

-- ---- days

printed-date : (year month day : ℕ) → Printed (year_month_day year month day)
printed-date year month day =
    (plain-digit _, (plain-digit _, (plain-digit _, (plain-digit _, (plain-dash, (plain-digit _, (plain-digit _, (plain-dash, (plain-digit _, (plain-digit _, tt))))))))))

printed-months : (more year month days : ℕ) → Printed (count_months more year month days)
unfolding count_months
printed-months zero year month days = tt
printed-months (suc more) year month days =
    printed-if (nat_lt days (month_length year month)) (year_month_day year month (days + 1)) (count_months more year (month + 1) (days - month_length year month))
    (printed-date year month (days + 1)) (printed-months more year (month + 1) (days - month_length year month))

printed-years : (more year days : ℕ) → Printed (count_years more year days)
unfolding count_years
printed-years zero year days = tt
printed-years (suc more) year days =
    printed-if (nat_lt days (year_length year)) (count_months 12 year 1 days) (count_years more (year + 1) (days - year_length year))
    (printed-months 12 year 1 days) (printed-years more (year + 1) (days - year_length year))

pub printed-day : (day : ℤ) → Printed (date_text day)
unfolding date_text
printed-day day = printed-years 10000 0 (unsigned_abs (day +ℤ pos 719528))

pub date-json : (day : ℤ) → is_printed_day day ≡ true → date_json day ≡ quoted (date_text day)
unfolding date_json
date-json day e = rw e refl

-- ---- timestamps

printed-time : (second : ℕ) → Printed (time_text second)
unfolding time_text
printed-time second =
    (plain-digit _, (plain-digit _, (plain-colon, (plain-digit _, (plain-digit _, (plain-colon, (plain-digit _, (plain-digit _, tt))))))))

printed-three : (n : ℕ) → Printed (three_digits n)
printed-three n = (plain-digit _, (plain-digit _, (plain-digit _, tt)))

printed-fraction : (n : ℕ) → Printed (fraction_text n)
unfolding fraction_text
printed-fraction n =
    let one : Printed (46 ∷ three_digits (n / 1000000)) = (plain-point, printed-three (n / 1000000)) in
    let two : Printed (46 ∷ three_digits (n / 1000000) ++ three_digits (n / 1000)) = printed-append (46 ∷ three_digits (n / 1000000)) (three_digits (n / 1000)) one (printed-three (n / 1000)) in
    let three : Printed (46 ∷ three_digits (n / 1000000) ++ three_digits (n / 1000) ++ three_digits n) = printed-append (46 ∷ three_digits (n / 1000000) ++ three_digits (n / 1000)) (three_digits n) two (printed-three n) in
    printed-if (n == 0) [] (if n % 1000000 == 0 then 46 ∷ three_digits (n / 1000000) else if n % 1000 == 0 then 46 ∷ three_digits (n / 1000000) ++ three_digits (n / 1000) else 46 ∷ three_digits (n / 1000000) ++ three_digits (n / 1000) ++ three_digits n)
    tt (printed-if (n % 1000000 == 0) (46 ∷ three_digits (n / 1000000)) (if n % 1000 == 0 then 46 ∷ three_digits (n / 1000000) ++ three_digits (n / 1000) else 46 ∷ three_digits (n / 1000000) ++ three_digits (n / 1000) ++ three_digits n)
    one (printed-if (n % 1000 == 0) (46 ∷ three_digits (n / 1000000) ++ three_digits (n / 1000)) (46 ∷ three_digits (n / 1000000) ++ three_digits (n / 1000) ++ three_digits n) two three))

printed-zone : (offset : Option ℤ) → Printed (zone_text offset)
unfolding zone_text
printed-zone None = tt
printed-zone (Some minutes) =
    (plain-if _ 45 43 plain-dash (plain-between 43 (omega arith) (omega arith)), (plain-digit _, (plain-digit _, (plain-colon, (plain-digit _, (plain-digit _, tt))))))

plain-separator : (offset : Option ℤ) → Plain (separator offset)
plain-separator None = plain-space
plain-separator (Some minutes) = plain-between 84 (omega arith) (omega arith)

pub printed-timestamp : (unit : TimeUnit) (offset : Option ℤ) (value : ℤ) → Printed (timestamp_text unit offset value)
unfolding timestamp_text
printed-timestamp unit offset value =
    let day = local_day unit offset value in
    let second = second_of_day unit offset value in
    let fraction = nanoseconds unit value in
    let time : Printed (separator offset ∷ time_text second) = (plain-separator offset, printed-time second) in
    let moment = printed-append (date_text day) (separator offset ∷ time_text second) (printed-day day) time in
    let whole = printed-append (date_text day ++ separator offset ∷ time_text second) (fraction_text fraction) moment (printed-fraction fraction) in
    printed-append (date_text day ++ separator offset ∷ time_text second ++ fraction_text fraction) (zone_text offset) whole (printed-zone offset)

pub timestamp-json : (unit : TimeUnit) (offset : Option ℤ) (value : ℤ) → is_printed_timestamp unit offset value ≡ true → timestamp_json unit offset value ≡ quoted (timestamp_text unit offset value)
unfolding timestamp_json
timestamp-json unit offset value e = rw e refl
