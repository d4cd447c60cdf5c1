use Rattle.std.proofs.Common.{true, false, ap, sym, ◌∙◌}
use Rattle.std.proofs.lemmas.Result.{err_from_is_err_and}
use Rattle.json_tree.proofs.Numbers.{number-int, number-frac, number-exp, number-told}
use Rattle.std.proofs.Common.{take, ◌-◌, length, refl, arith}
use Rattle.json_tree.specs.Reading.{found}
use Rattle.json_tree.proofs.Points.{frac-point, no-frac-point, mantissa-point}
use Rattle.json_tree.proofs.Digits.{mantissa-utf8, exponent-utf8}
use Rattle.json_tree.proofs.number.number.Goals as goal

pub mantissa_text-requires : goal.mantissa_text-requires
mantissa_text-requires c =
    let m = c.optional_minus.ensures.reads in
    let i = c.in_ok-integer_part.ensures.reads in
    let f = c.in_ok-fraction_part.ensures.reads in
    mantissa-utf8 c.args.reader.now c.optional_minus.new.reader c.integer_part.new.reader c.fraction_part.new.reader m.0 i.0 f.0 m.1 i.1 f.1 c.rest-start.result.now c.rest-tail.result.now (take (length c.rest-start.result.now - length c.rest-tail.result.now) c.rest-start.result.now) c.rest-start.ensures c.rest-tail.ensures refl

pub exponent_text-requires : goal.exponent_text-requires
exponent_text-requires c =
    let e = c.in_ok-exponent_part.ensures.reads in
    exponent-utf8 c.fraction_part.new.reader c.exponent_part.new.reader e.0 e.1 c.rest-tail.result.now c.rest-left.result.now c.after_first-following.result.now c.rest-tail.ensures c.rest-left.ensures c.after_first-following.ensures

pub returns-in_err-integer_part-clause-reads : goal.returns-in_err-integer_part-clause-reads
returns-in_err-integer_part-clause-reads c =
    let p = err_from_is_err_and c.from_residual.result c.from_residual.ensures.1 in
    let m = c.optional_minus.ensures.reads in
    let e = c.in_err-integer_part.ensures.reads in
    rw (p.1, p.2, e.0) (number-int c.args.reader.now c.optional_minus.new.reader m.0 m.1 e.1)

pub returns-in_err-fraction_part-clause-reads : goal.returns-in_err-fraction_part-clause-reads
returns-in_err-fraction_part-clause-reads c =
    let p = err_from_is_err_and c.from_residual-in_err-fraction_part.result c.from_residual-in_err-fraction_part.ensures.1 in
    let m = c.optional_minus.ensures.reads in
    let i = c.in_ok-integer_part.ensures.reads in
    let e = c.in_err-fraction_part.ensures.reads in
    rw (p.1, p.2, e.0) (number-frac c.args.reader.now c.optional_minus.new.reader c.integer_part.new.reader m.0 i.0 m.1 i.1 e.1)

pub returns-in_err-exponent_part-clause-reads : goal.returns-in_err-exponent_part-clause-reads
returns-in_err-exponent_part-clause-reads c =
    let p = err_from_is_err_and c.from_residual-in_err-exponent_part.result c.from_residual-in_err-exponent_part.ensures.1 in
    let m = c.optional_minus.ensures.reads in
    let i = c.in_ok-integer_part.ensures.reads in
    let f = c.in_ok-fraction_part.ensures.reads in
    let e = c.in_err-exponent_part.ensures.reads in
    rw (p.1, p.2, e.0) (number-exp c.args.reader.now c.optional_minus.new.reader c.integer_part.new.reader c.fraction_part.new.reader m.0 i.0 f.0 m.1 i.1 f.1 e.1)

pub returns-then-tail-whole-clause-reads : goal.returns-then-tail-whole-clause-reads
returns-then-tail-whole-clause-reads c =
    let m = c.optional_minus.ensures.reads in
    let i = c.in_ok-integer_part.ensures.reads in
    let f = c.in_ok-fraction_part.ensures.reads in
    let e = c.in_ok-exponent_part.ensures.reads in
    let mant = c.in_ok-mantissa.ensures.text in
    let point = mantissa-point c.args.reader.now c.optional_minus.new.reader c.integer_part.new.reader c.fraction_part.new.reader m.0 i.0 f.0 m.1 i.1 f.1 c.rest-start.result.now c.rest-tail.result.now c.in_ok-mantissa.mantissa c.rest-start.ensures c.rest-tail.ensures mant in
    number-told c.args.reader.now c.optional_minus.new.reader c.integer_part.new.reader c.fraction_part.new.reader c.exponent_part.new.reader m.0 i.0 f.0 e.0 m.1 i.1 f.1 e.1
    c.rest-start.result.now c.rest-tail.result.now c.rest-left.result.now c.in_ok-mantissa.mantissa c.in_ok-exponent.exponent c.rest-start.ensures c.rest-tail.ensures c.rest-left.ensures
    mant (c.in_ok-exponent.ensures.text ∙ c.after_first-following.ensures) true (point true (frac-point c.integer_part.new.reader c.fraction_part.new.reader f.0 f.1 (omega (arith, ap length c.rest-whole.ensures, ap length c.rest-tail.ensures, c.if-tail-whole.true))))
    ∙ ap (λ v. found v c.exponent_part.new.reader) (sym c.fill.ensures)

pub returns-else-tail-whole-clause-reads : goal.returns-else-tail-whole-clause-reads
returns-else-tail-whole-clause-reads c =
    let m = c.optional_minus.ensures.reads in
    let i = c.in_ok-integer_part.ensures.reads in
    let f = c.in_ok-fraction_part.ensures.reads in
    let e = c.in_ok-exponent_part.ensures.reads in
    let mant = c.in_ok-mantissa.ensures.text in
    let point = mantissa-point c.args.reader.now c.optional_minus.new.reader c.integer_part.new.reader c.fraction_part.new.reader m.0 i.0 f.0 m.1 i.1 f.1 c.rest-start.result.now c.rest-tail.result.now c.in_ok-mantissa.mantissa c.rest-start.ensures c.rest-tail.ensures mant in
    number-told c.args.reader.now c.optional_minus.new.reader c.integer_part.new.reader c.fraction_part.new.reader c.exponent_part.new.reader m.0 i.0 f.0 e.0 m.1 i.1 f.1 e.1
    c.rest-start.result.now c.rest-tail.result.now c.rest-left.result.now c.in_ok-mantissa.mantissa c.in_ok-exponent.exponent c.rest-start.ensures c.rest-tail.ensures c.rest-left.ensures
    mant (c.in_ok-exponent.ensures.text ∙ c.after_first-following.ensures) false (point false (no-frac-point c.integer_part.new.reader c.fraction_part.new.reader f.0 f.1 (omega (arith, ap length c.rest-whole.ensures, ap length c.rest-tail.ensures, c.if-tail-whole.false))))
    ∙ ap (λ v. found v c.exponent_part.new.reader) (sym c.fill-else-tail-whole.ensures)
