use Rattle.std.proofs.Common.{◌∙◌, inr, false, refl, sym, arith}
use Rattle.std.proofs.lemmas.List.{get_or_read}
use Rattle.avro_ndjson.proofs.Numbers.{flagged_more, named_twice, too_large, all_flagged}
use Rattle.avro_ndjson.proofs.keep.projection_of_numbers.Goals as goal
use Rattle.avro_ndjson.proofs.keep.projection_of_numbers.Goals.{then-number-count-via-then-number-count, then-number-count-via-else-number-count+then-index}

pub returns-then-number-count-clause-err : goal.returns-then-number-count-clause-err
returns-then-number-count-clause-err c =
    let count = c.args.count in
    let numbers = c.args.numbers.now in
    let flags = c.loop-i.projection.items in
    inr (
      refl,
      elim c.then-number-count.branch [
        | then-number-count-via-then-number-count w ↦ too_large count numbers c.loop-i.i flags _ c.loop-i-test.true refl c.loop-i.invariant w.if-number-count.true
        | then-number-count-via-else-number-count+then-index w ↦
            let flag = get_or_read flags _ _ (omega arith) w.index.ensures false in
            named_twice count numbers c.loop-i.i flags _ c.loop-i-test.true refl c.loop-i.invariant w.if-number-count.false (sym flag ∙ w.if-index.true)
      ],
    )

pub loop-i-preserved : goal.loop-i-preserved
loop-i-preserved c =
    let flag = get_or_read c.loop-i.projection.items _ _ (omega arith) c.index.ensures false in
    flagged_more c.args.count c.args.numbers.now c.loop-i.i c.loop-i.projection.items _ c.loop-i-test.true refl c.loop-i.invariant c.if-number-count.false (sym flag ∙ c.if-index.false)

pub returns-clause-ok : goal.returns-clause-ok
returns-clause-ok c = all_flagged c.args.count c.args.numbers.now c.loop-i.i c.loop-i.projection.items (omega arith) c.loop-i.invariant
