-- The JSON texts of what is printed.
use Rattle.std.proofs.Common.{◌≡◌, ℕ, List, [], ◌∷◌, ◌++◌, refl, arith, ℤ, pos, neg_ℤ, ◌<ℤ◌, ◌≤ℤ◌, true, false, IsTrue, Option, append_assoc}
use Rattle.std.specs.Int.{int_div_euclid}
use Rattle.jiff_core.proofs.SignedLemmas.{signed_arith}
use Rattle.json_dates.specs.Civil.{is_printed_day, date_text}
use Rattle.arrow_core.specs.declared.types.TimeUnit.{TimeUnit}
use Rattle.json_dates.specs.Times.{date_json, timestamp_json, timestamp_text, is_printed_timestamp, local_day, second_of_day, nanoseconds, separator, time_text, fraction_text, zone_text}

pub date_json-printed : (day : ℤ) → IsTrue (is_printed_day day) → date_json day ≡ 34 ∷ (date_text day ++ 34 ∷ [])
unfolding date_json
date_json-printed day printed = rw printed refl

-- Seconds from 0000-01-01 00:00:00 to 9999-12-31 23:59:59 are those of printed days.

pub not_printed-before : (z : ℤ) → z <ℤ neg_ℤ (pos 62167219200) → is_printed_day (int_div_euclid z (pos 86400)) ≡ false
unfolding is_printed_day
not_printed-before z h = grind (arith, signed_arith)

pub not_printed-after : (z : ℤ) → pos 253402300799 <ℤ z → is_printed_day (int_div_euclid z (pos 86400)) ≡ false
unfolding is_printed_day
not_printed-after z h = grind (arith, signed_arith)

pub printed-within : (z : ℤ) → neg_ℤ (pos 62167219200) ≤ℤ z → z ≤ℤ pos 253402300799 → is_printed_day (int_div_euclid z (pos 86400)) ≡ true
unfolding is_printed_day
printed-within z from to = grind (arith, signed_arith)

joined : (old head fraction zone : List ℕ) → (((old ++ 34 ∷ head) ++ fraction) ++ zone) ++ 34 ∷ [] ≡ old ++ 34 ∷ (((head ++ fraction) ++ zone) ++ 34 ∷ [])
joined old head fraction zone = simp append_assoc

-- what was there, and the pieces of a printed timestamp after it
pub timestamp_json-printed : (old : List ℕ) (unit : TimeUnit) (offset : Option ℤ) (value : ℤ) (day : ℤ) (second : ℕ) (nanosecond : ℕ) → is_printed_timestamp unit offset value ≡ true → day ≡ local_day unit offset value → second ≡ second_of_day unit offset value → nanosecond ≡ nanoseconds unit value → (((old ++ 34 ∷ (date_text day ++ separator offset ∷ time_text second)) ++ fraction_text nanosecond) ++ zone_text offset) ++ 34 ∷ [] ≡ old ++ timestamp_json unit offset value
unfolding timestamp_json timestamp_text
timestamp_json-printed old unit offset value day second nanosecond printed d s n =
    rw (printed, d, s, n) (joined old (date_text (local_day unit offset value) ++ separator offset ∷ time_text (second_of_day unit offset value)) (fraction_text (nanoseconds unit value)) (zone_text offset))
