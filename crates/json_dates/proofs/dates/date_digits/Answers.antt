use Rattle.std.proofs.Common.{List, ℕ, arith, ◌≡◌, refl, ap, ◌∙◌, ◌/◌, ℤ, pos, neg_ℤ, ◌≤ℤ◌, unsigned_abs, subst, to_z, of_z, to_z-of_z, w64, w16, ◌<◌, ◌^◌, false, true}
use Rattle.jiff_core.proofs.SignedLemmas.{signed_arith, back_small}
use Rattle.jiff_core.specs.Calendar.{IsCivilDate, IsEpochDay, days_from_civil}
use Rattle.json_dates.proofs.Days.{date_text-is, year-is, printed_bounds}
use Rattle.json_dates.proofs.dates.date_digits.Goals as goal

pub unreachable-requires : goal.unreachable-requires
unreachable-requires c =
    let bounds = printed_bounds c.args.day c.requires in
    let back : to_z w64 (of_z w64 c.args.day) ≡ c.args.day = to_z-of_z c.ranges.day in
    let known : IsEpochDay c.args.day = (omega (arith, signed_arith, bounds.0), omega (arith, signed_arith, bounds.1)) in
    let bad : false ≡ true = c.in_default.ensures.succeeds.1 (rw back known) in
    cc

pub returns : goal.returns
returns c =
    let date = c.in-Ok.date in
    let year = unsigned_abs date.year in
    let civil : IsCivilDate date.year date.month date.day = (date.year_in, date.month_in, date.day_in) in
    let low : neg_ℤ (pos 719528) ≤ℤ c.args.day = (printed_bounds c.args.day c.requires).0 in
    let back : to_z w64 (of_z w64 c.args.day) ≡ c.args.day = to_z-of_z c.ranges.day in
    let is : days_from_civil date.year date.month date.day ≡ c.args.day = c.in-Ok.ensures.value ∙ back in
    let e = year-is c.args.day date.year date.month date.day civil is low in
    let small : year < 2 ^ 15 = omega (arith, signed_arith, date.year_in) in
    let y16 : to_z w16 (of_z w16 date.year) ≡ date.year = back_small w16 date.year small in
    let got : c.unsigned_abs.result ≡ year = c.unsigned_abs.ensures.value ∙ ap unsigned_abs y16 in
    let thousands : year / 100 / 10 ≡ year / 1000 = omega arith in
    let text = date_text-is c.args.day year date.month date.day (subst (λ (z : ℤ). IsCivilDate z date.month date.day) e civil) (subst (λ (z : ℤ). days_from_civil z date.month date.day ≡ c.args.day) e is) in
    rw (text, c.digit.ensures, c.digit-2.ensures, c.digit-3.ensures, c.digit-4.ensures, c.digit-5.ensures, c.digit-6.ensures, c.digit-7.ensures, c.digit-8.ensures, c.from-year.ensures, got, c.from-month.ensures, c.from-of_month.ensures, thousands) (refl {A = List ℕ})
