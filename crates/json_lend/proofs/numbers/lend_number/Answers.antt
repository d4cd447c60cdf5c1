use Rattle.std.proofs.Common.{◌∙◌, take, length, ◌-◌, refl}
use Rattle.std.proofs.lemmas.Result.{err_from_is_err_and}
use Rattle.json_tree.proofs.Numbers.{number-int, number-frac, number-exp}
use Rattle.json_tree.proofs.Digits.{mantissa-utf8, exponent-utf8}
use Rattle.json_lend.proofs.SkipLaws.{lend-number}
use Rattle.json_lend.proofs.numbers.lend_number.Goals as goal

pub returns-in_err-integer_part-clause-reads : goal.returns-in_err-integer_part-clause-reads
returns-in_err-integer_part-clause-reads c =
    let p = err_from_is_err_and c.from_residual.result c.from_residual.ensures.1 in
    let m = c.optional_minus.ensures.reads in
    let e = c.in_err-integer_part.ensures.reads in
    rw (p.1, p.2, e.0) (number-int c.args.reader.now c.optional_minus.new.reader m.0 m.1 e.1)

pub returns-in_err-fraction_part-clause-reads : goal.returns-in_err-fraction_part-clause-reads
returns-in_err-fraction_part-clause-reads c =
    let p = err_from_is_err_and c.from_residual-in_err-fraction_part.result c.from_residual-in_err-fraction_part.ensures.1 in
    let m = c.optional_minus.ensures.reads in
    let i = c.in_ok-integer_part.ensures.reads in
    let e = c.in_err-fraction_part.ensures.reads in
    rw (p.1, p.2, e.0) (number-frac c.args.reader.now c.optional_minus.new.reader c.integer_part.new.reader m.0 i.0 m.1 i.1 e.1)

pub returns-in_err-exponent_part-clause-reads : goal.returns-in_err-exponent_part-clause-reads
returns-in_err-exponent_part-clause-reads c =
    let p = err_from_is_err_and c.from_residual-in_err-exponent_part.result c.from_residual-in_err-exponent_part.ensures.1 in
    let m = c.optional_minus.ensures.reads in
    let i = c.in_ok-integer_part.ensures.reads in
    let f = c.in_ok-fraction_part.ensures.reads in
    let e = c.in_err-exponent_part.ensures.reads in
    rw (p.1, p.2, e.0) (number-exp c.args.reader.now c.optional_minus.new.reader c.integer_part.new.reader c.fraction_part.new.reader m.0 i.0 f.0 m.1 i.1 f.1 e.1)

pub from_utf8_unchecked-mantissa-requires : goal.from_utf8_unchecked-mantissa-requires
from_utf8_unchecked-mantissa-requires c =
    let m = c.optional_minus.ensures.reads in
    let i = c.in_ok-integer_part.ensures.reads in
    let f = c.in_ok-fraction_part.ensures.reads in
    mantissa-utf8 c.args.reader.now c.optional_minus.new.reader c.integer_part.new.reader c.fraction_part.new.reader m.0 i.0 f.0 m.1 i.1 f.1 c.rest-start.result.now c.rest-tail.result.now (take (length c.rest-start.result.now - length c.rest-tail.result.now) c.rest-start.result.now) c.rest-start.ensures c.rest-tail.ensures refl

pub from_utf8_unchecked-exponent-requires : goal.from_utf8_unchecked-exponent-requires
from_utf8_unchecked-exponent-requires c =
    let e = c.in_ok-exponent_part.ensures.reads in
    exponent-utf8 c.fraction_part.new.reader c.exponent_part.new.reader e.0 e.1 c.rest-tail.result.now c.rest-left.result.now c.after_first-exponent.result.now c.rest-tail.ensures c.rest-left.ensures c.after_first-exponent.ensures

pub returns-clause-reads : goal.returns-clause-reads
returns-clause-reads c =
    let m = c.optional_minus.ensures.reads in
    let i = c.in_ok-integer_part.ensures.reads in
    let f = c.in_ok-fraction_part.ensures.reads in
    let e = c.in_ok-exponent_part.ensures.reads in
    lend-number c.args.reader.now c.optional_minus.new.reader c.integer_part.new.reader c.fraction_part.new.reader c.exponent_part.new.reader m.0 i.0 f.0 e.0 m.1 i.1 f.1 e.1
    c.rest-start.result.now c.rest-tail.result.now c.rest-left.result.now c.from_utf8_unchecked-mantissa.result.now c.from_utf8_unchecked-exponent.result.now c.rest-start.ensures c.rest-tail.ensures c.rest-left.ensures
    c.from_utf8_unchecked-mantissa.ensures (c.from_utf8_unchecked-exponent.ensures ∙ c.after_first-exponent.ensures)
