use Rattle.std.proofs.Common.{◌≡◌, ◌∙◌, ap, sym, refl, rules}
use Rattle.std.proofs.lemmas.Result.{err_from_is_err_and}
use Rattle.std.specs.Char.{encode_utf8}
use Rattle.std.specs.Char.Utf16.{surrogate_pair_char}
use Rattle.json_tree.specs.Reading.{found}
use Rattle.json_tree.proofs.Escapes.{low-slash, low-letter, low-unit, low-not, low-ok}
use Rattle.json_tree.proofs.strings.low_surrogate.Goals as goal

pub returns-then-not-takes-clause-reads : goal.returns-then-not-takes-clause-reads
returns-then-not-takes-clause-reads c = (refl, low-slash c.args.high c.args.reader.now c.if-not-takes.ensures.taken.1)

pub returns-then-not-takes-2-clause-reads : goal.returns-then-not-takes-2-clause-reads
returns-then-not-takes-2-clause-reads c = (refl, low-letter c.args.high c.args.reader.now c.takes.new.self c.if-not-takes.ensures.taken c.if-not-takes-2.ensures.taken.1)

pub returns-in_err-low-clause-reads : goal.returns-in_err-low-clause-reads
returns-in_err-low-clause-reads c =
    let p = err_from_is_err_and c.from_residual.result c.from_residual.ensures.1 in
    let e = c.in_err-low.ensures.reads in
    rw (p.1, p.2, e.0) (refl, low-unit c.args.high c.args.reader.now c.takes.new.self c.takes-2.new.self c.if-not-takes.ensures.taken c.if-not-takes-2.ensures.taken e.1)

pub returns-then-not-is_low_surrogate-clause-reads : goal.returns-then-not-is_low_surrogate-clause-reads
returns-then-not-is_low_surrogate-clause-reads c =
    let k = sym c.is_low_surrogate.ensures.value ∙ c.if-not-is_low_surrogate.true in
    (refl, low-not c.args.high c.in_ok-low.low c.args.reader.now c.takes.new.self c.takes-2.new.self c.code_unit.new.reader c.if-not-takes.ensures.taken c.if-not-takes-2.ensures.taken c.in_ok-low.ensures.reads.0 k)

pub returns-in-Some-clause-reads : goal.returns-in-Some-clause-reads
returns-in-Some-clause-reads c =
    let k = sym c.is_low_surrogate.ensures.value ∙ c.if-not-is_low_surrogate.false in
    let v : c.in-Some.c ≡ surrogate_pair_char c.args.high c.in_ok-low.low = search rules in (
      low-ok c.args.high c.in_ok-low.low c.args.reader.now c.takes.new.self c.takes-2.new.self c.code_unit.new.reader c.if-not-takes.ensures.taken c.if-not-takes-2.ensures.taken c.in_ok-low.ensures.reads.0 k
          ∙ ap (λ w. found (encode_utf8 w) c.code_unit.new.reader) (sym v),
      c.in_ok-low.ensures.reads.2,
    )
