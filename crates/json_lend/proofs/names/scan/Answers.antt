use Rattle.std.proofs.Common.{◌≡◌, ◌<◌, ◌∙◌, length, true, false, sym, ap, arith}
use Rattle.std.specs.Str.{bytes_eq}
use Rattle.json_lend.proofs.NameLaws.{key_index-guess, others-more}
use Rattle.json_lend.proofs.names.scan.Goals as goal

pub loop-i-init : goal.loop-i-init
loop-i-init c i name ge lt = absurd (omega (arith, ge, lt))

pub returns-then-are_same : goal.returns-then-are_same
returns-then-are_same c =
    let x = c.index-names-i.result in
    let h : bytes_eq x c.args.key.now ≡ true = ap (λ y. bytes_eq y c.args.key.now) (sym c.as_str.ensures) ∙ (sym c.are_same.ensures ∙ c.if-are_same.true) in
    let within : c.loop-i.i < length c.args.names.now = omega (arith, c.loop-i-test.true, c.requires.within) in
    (sym (key_index-guess c.args.names.now c.loop-i.i x c.args.key.now c.requires.distinct within c.index-names-i.is h), within)

pub loop-i-preserved : goal.loop-i-preserved
loop-i-preserved c =
    let x = c.index-names-i.result in
    let h : bytes_eq x c.args.key.now ≡ false = ap (λ y. bytes_eq y c.args.key.now) (sym c.as_str.ensures) ∙ (sym c.are_same.ensures ∙ c.if-are_same.false) in
    others-more c.args.names.now c.args.from c.loop-i.i x c.args.key.now (omega (arith, c.loop-i-test.true, c.requires.within)) c.index-names-i.is h c.loop-i.invariant

pub returns : goal.returns
returns c = λ i name ge lt. c.loop-i.invariant i name ge (omega (arith, lt, c.loop-i-test.false))
