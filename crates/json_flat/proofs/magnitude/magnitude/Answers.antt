use Rattle.std.proofs.Common.{sym, subst, rules}
use Rattle.std.specs.Str.Parse.{AllDigits}
use Rattle.json_flat.proofs.Digits.{take-digits}
use Rattle.json_flat.proofs.Scaling.{Given, none-before, none-behind, counted}
use Rattle.json_flat.proofs.magnitude.magnitude.Goals as goal

pub append-requires : goal.append-requires
append-requires c = subst (AllDigits 10) (sym c.first.ensures) (take-digits c.moved-point.result c.args.integer.now c.requires.integer)

pub append-requires-2 : goal.append-requires-2
append-requires-2 c = subst (AllDigits 10) (sym c.first-2.ensures) (take-digits c.saturating_sub-behind.result c.args.fraction.now c.requires.fraction)

pub returns-in_err-total : goal.returns-in_err-total
returns-in_err-total c =
    let given : Given c.args.integer.now c.args.fraction.now c.args.exponent.negative c.args.exponent.power c.moved-point.result = record {
      integer = c.requires.integer;
      fraction = c.requires.fraction;
      before = search rules;
      behind = search rules;
      moved = c.moved-point.ensures;
    } in
    λ power e. none-before _ c.args.integer.now c.args.fraction.now c.args.exponent.negative c.args.exponent.power c.moved-point.result power given e c.from_residual.ensures c.first.result.now c.first.ensures c.in_err-total.ensures

pub returns-in_err-total-2 : goal.returns-in_err-total-2
returns-in_err-total-2 c =
    let given : Given c.args.integer.now c.args.fraction.now c.args.exponent.negative c.args.exponent.power c.moved-point.result = record {
      integer = c.requires.integer;
      fraction = c.requires.fraction;
      before = search rules;
      behind = search rules;
      moved = c.moved-point.ensures;
    } in
    λ power e. none-behind _ c.args.integer.now c.args.fraction.now c.args.exponent.negative c.args.exponent.power c.moved-point.result power given e c.from_residual-in_err-total-2.ensures c.first.result.now c.first-2.result.now c.in_ok-total.total c.saturating_sub-behind.result c.first.ensures c.in_ok-total.ensures.0 c.saturating_sub-behind.ensures c.first-2.ensures c.in_err-total-2.ensures

pub returns : goal.returns
returns c =
    let given : Given c.args.integer.now c.args.fraction.now c.args.exponent.negative c.args.exponent.power c.moved-point.result = record {
      integer = c.requires.integer;
      fraction = c.requires.fraction;
      before = search rules;
      behind = search rules;
      moved = c.moved-point.ensures;
    } in
    λ power e. counted _ c.args.integer.now c.args.fraction.now c.args.exponent.negative c.args.exponent.power c.moved-point.result power given e c.first.result.now c.first-2.result.now c.in_ok-total.total c.in_ok-total-2.total c.saturating_sub-behind.result c.saturating_sub-zeros.result c.first.ensures c.in_ok-total.ensures.0 c.saturating_sub-behind.ensures c.first-2.ensures c.in_ok-total-2.ensures.0 c.saturating_sub-zeros.ensures c.append_zeros.ensures
