use Rattle.std.proofs.lemmas.Result.{err_from_is_err_and}
use Rattle.json_tree.proofs.Numbers.{number-int, number-frac}
use Rattle.json_lend.proofs.SkipLaws.{skip-number}
use Rattle.json_lend.proofs.numbers.skip_number.Goals as goal

pub returns-in_err-integer_part-clause-reads : goal.returns-in_err-integer_part-clause-reads
returns-in_err-integer_part-clause-reads c =
    let p = err_from_is_err_and c.from_residual.result c.from_residual.ensures.1 in
    let m = c.optional_minus.ensures.reads in
    let e = c.in_err-integer_part.ensures.reads in
    rw (p.1, p.2, e.0) (number-int c.args.reader.now c.optional_minus.new.reader m.0 m.1 e.1)

pub returns-in_err-fraction_part-clause-reads : goal.returns-in_err-fraction_part-clause-reads
returns-in_err-fraction_part-clause-reads c =
    let p = err_from_is_err_and c.from_residual-in_err-fraction_part.result c.from_residual-in_err-fraction_part.ensures.1 in
    let m = c.optional_minus.ensures.reads in
    let i = c.in_ok-integer_part.ensures.reads in
    let e = c.in_err-fraction_part.ensures.reads in
    rw (p.1, p.2, e.0) (number-frac c.args.reader.now c.optional_minus.new.reader c.integer_part.new.reader m.0 i.0 m.1 i.1 e.1)

pub returns-clause-reads : goal.returns-clause-reads
returns-clause-reads c =
    let m = c.optional_minus.ensures.reads in
    let i = c.in_ok-integer_part.ensures.reads in
    let f = c.in_ok-fraction_part.ensures.reads in
    skip-number c.exponent_part.result c.args.reader.now c.optional_minus.new.reader c.integer_part.new.reader c.fraction_part.new.reader c.exponent_part.new.reader m.0 i.0 f.0 m.1 i.1 f.1 c.exponent_part.ensures.reads
