use Rattle.std.proofs.Common.{List, ℕ, ◌≡◌, [], ◌∷◌, length, rules, refl, IsTrue, to_z, of_z, to_z-of_z, w64}
use Rattle.json_dates.specs.Civil.{is_printed_day}
use Rattle.json_dates.proofs.Arrays.{ten}
use Rattle.json_dates.proofs.Texts.{date_json-printed}
use Rattle.json_dates.proofs.dates.push_date.Goals as goal

pub returns-clause-ok : goal.returns-clause-ok
returns-clause-ok c =
    let size : length c.date_digits.result ≡ 10 = search rules in
    let printed : IsTrue (is_printed_day c.args.day) = search rules in
    let back : to_z w64 (of_z w64 c.args.day) ≡ c.args.day = to_z-of_z c.ranges.day in
    let i = c.in_ok-extend_from_slice.ensures.items in
    rw (i, ten c.date_digits.result (34 ∷ []) size, date_json-printed c.args.day printed, c.date_digits.ensures, back) (refl {A = List ℕ})
