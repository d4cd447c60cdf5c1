use Rattle.std.proofs.Common.{List, ℕ, ◌≡◌, [], length, rules, refl, to_z, of_z, to_z-of_z, w64, FitsSigned}
use Rattle.json_dates.specs.Times.{time_text}
use Rattle.json_dates.proofs.Arrays.{eight, ten}
use Rattle.json_dates.proofs.timestamps.push_second.Goals as goal

pub returns-clause-ok : goal.returns-clause-ok
unfolding time_text
returns-clause-ok c =
    let size : length c.date_digits.result ≡ 10 = search rules in
    let clock : length c.time_digits.result ≡ 8 = search rules in
    let fits : FitsSigned w64 c.args.at.day = search rules in
    let back : to_z w64 (of_z w64 c.args.at.day) ≡ c.args.at.day = to_z-of_z fits in
    let i = c.in_ok-extend_from_slice.ensures.items in
    rw (i, eight c.time_digits.result [] clock, ten c.date_digits.result _ size, c.date_digits.ensures, c.time_digits.ensures, c.separator-separator.ensures, back) (refl {A = List ℕ})
