-- The JSON texts of days and timestamps, and the text of an offset from UTC. A timestamp counts a unit from 1970-01-01 00:00:00 UTC.
use Rattle.std.specs.Prelude.{ℕ, ◌+◌, ◌-◌, ◌*◌, ◌/◌, ◌%◌, Bool, ◌&&◌, ◌==◌, nat_lt, int_lt, if◌then◌else◌, List, [], ◌∷◌, ◌++◌, codes, Option, Some, None, option_map, option_and_then, ℤ, pos, neg_ℤ, ◌+ℤ◌, ◌*ℤ◌, unsigned_abs}
use Rattle.std.specs.Char.{is_ascii_digit}
use Rattle.std.specs.Int.{int_div_euclid, int_rem_euclid}
use Rattle.std.specs.Str.{bytes_eq}
use Rattle.arrow_core.specs.declared.types.TimeUnit.{TimeUnit}
use Rattle.arrow_core.specs.declared.types.TimeUnit.TheVariants.{Second, Millisecond, Microsecond, Nanosecond}
use Rattle.json_dates.specs.Civil.{digit, two_digits, date_text, is_printed_day}

-- between quotation marks
abbrev pub quoted : List ℕ → List ℕ
quoted text = 34 ∷ (text ++ 34 ∷ [])

-- the date in quotation marks, or `null` where its year has no four digits
unfoldable pub date_json : ℤ → List ℕ
date_json day = if is_printed_day day then quoted (date_text day) else codes "null"

-- the day in which the moment lies that is so many milliseconds after 1970-01-01 00:00:00; `int_div_euclid` rounds down
unfoldable pub day_of_milliseconds : ℤ → ℤ
day_of_milliseconds value = int_div_euclid value (pos 86400000)

-- how many of the unit make a second
abbrev pub per_second : TimeUnit → ℕ
per_second Second = 1
per_second Millisecond = 1000
per_second Microsecond = 1000000
per_second Nanosecond = 1000000000

-- the whole seconds of a value, rounded down
abbrev pub whole_seconds : TimeUnit → ℤ → ℤ
whole_seconds unit value = int_div_euclid value (pos (per_second unit))

-- what is left of the value, in nanoseconds
abbrev pub nanoseconds : TimeUnit → ℤ → ℕ
nanoseconds unit value = unsigned_abs (int_rem_euclid value (pos (per_second unit))) * (1000000000 / per_second unit)

-- the seconds by a clock that is so many minutes ahead of UTC, or by UTC where there is no offset
abbrev pub local_seconds : TimeUnit → Option ℤ → ℤ → ℤ
local_seconds unit None value = whole_seconds unit value
local_seconds unit (Some minutes) value = whole_seconds unit value +ℤ minutes *ℤ pos 60

abbrev pub local_day : TimeUnit → Option ℤ → ℤ → ℤ
local_day unit offset value = int_div_euclid (local_seconds unit offset value) (pos 86400)

abbrev pub second_of_day : TimeUnit → Option ℤ → ℤ → ℕ
second_of_day unit offset value = unsigned_abs (int_rem_euclid (local_seconds unit offset value) (pos 86400))

-- HH:MM:SS of a second of the day
unfoldable pub time_text : ℕ → List ℕ
time_text second = two_digits (second / 3600) ++ 58 ∷ two_digits (second / 60 % 60) ++ 58 ∷ two_digits (second % 60)

-- the last three decimal digits
abbrev pub three_digits : ℕ → List ℕ
three_digits n = digit (n / 100) ∷ digit (n / 10) ∷ digit n ∷ []

-- a point and the least of 3, 6 or 9 digits that is exact, or nothing for zero
unfoldable pub fraction_text : ℕ → List ℕ
fraction_text n =
    if n == 0 then []
    else if n % 1000000 == 0 then 46 ∷ three_digits (n / 1000000)
    else if n % 1000 == 0 then 46 ∷ three_digits (n / 1000000) ++ three_digits (n / 1000)
    else 46 ∷ three_digits (n / 1000000) ++ three_digits (n / 1000) ++ three_digits n

-- sign and HH:MM of minutes east of UTC
abbrev pub offset_text : ℤ → List ℕ
offset_text minutes =
    (if int_lt minutes (pos 0) then 45 else 43) ∷ (two_digits (unsigned_abs minutes / 60) ++ 58 ∷ two_digits (unsigned_abs minutes % 60))

-- what stands between date and time, `T` or a space, and what stands last: with an offset the whole is `date-time` of RFC 3339, section 5.6
abbrev pub separator : Option ℤ → ℕ
separator None = 32
separator (Some minutes) = 84

unfoldable pub zone_text : Option ℤ → List ℕ
zone_text None = []
zone_text (Some minutes) = offset_text minutes

unfoldable pub timestamp_text : TimeUnit → Option ℤ → ℤ → List ℕ
timestamp_text unit offset value =
    date_text (local_day unit offset value) ++ separator offset ∷ time_text (second_of_day unit offset value)
    ++ fraction_text (nanoseconds unit value) ++ zone_text offset

unfoldable pub is_printed_timestamp : TimeUnit → Option ℤ → ℤ → Bool
is_printed_timestamp unit offset value = is_printed_day (local_day unit offset value)

-- the timestamp in quotation marks, or `null` where its year has no four digits
unfoldable pub timestamp_json : TimeUnit → Option ℤ → ℤ → List ℕ
timestamp_json unit offset value =
    if is_printed_timestamp unit offset value then quoted (timestamp_text unit offset value) else codes "null"

-- The text of an offset: `UTC`, or hours and minutes (`time-numoffset` of RFC 3339, section 5.6), whose `+` may be missing.

-- the number that two decimal digits stand for, where it is below a limit
abbrev pub number_below : ℕ → ℕ → ℕ → Option ℕ
number_below limit tens ones =
    let number = 10 * (tens - 48) + (ones - 48) in
    if is_ascii_digit tens && (is_ascii_digit ones && nat_lt number limit) then Some number else None

-- HH:MM, from 00:00 to 23:59, in minutes
abbrev pub clock_minutes : List ℕ → Option ℕ
clock_minutes (h ∷ k ∷ colon ∷ m ∷ n ∷ []) =
    if colon == 58
    then option_and_then (λ hours. option_map (λ minutes. 60 * hours + minutes) (number_below 60 m n)) (number_below 24 h k)
    else None
clock_minutes _ = None

-- the same with a sign before it, or none: minutes east of UTC
abbrev pub signed_minutes : List ℕ → Option ℤ
signed_minutes [] = None
signed_minutes (first ∷ rest) =
    if first == 43 then option_map pos (clock_minutes rest)
    else if first == 45 then option_map (λ minutes. neg_ℤ (pos minutes)) (clock_minutes rest)
    else option_map pos (clock_minutes (first ∷ rest))

-- minutes east of UTC, where the text is an offset
unfoldable pub offset_of : List ℕ → Option ℤ
offset_of text = if bytes_eq text (codes "UTC") then Some (pos 0) else signed_minutes text
