use Rattle.std.proofs.Common.{◌≡◌, ◌∙◌, false, sym, arith}
use Rattle.arrow_array.specs.Arrays.{array_slots}
use Rattle.arrow_array.specs.Slots.{slot_at}
use Rattle.avro_write.specs.Flaws.{shows}
use Rattle.avro_write.proofs.Flawed.{any_at, none_at, more_holds}
use Rattle.avro_write.proofs.flaws.column_shows.Goals as goal

pub loop-i-preserved : goal.loop-i-preserved
loop-i-preserved c =
    more_holds (λ j. shows c.args.flaw c.args.schema.now (slot_at (array_slots c.args.array.now) j) ≡ false) c.loop-i.i c.loop-i.invariant (sym c.shows.ensures ∙ c.if-shows.false)

pub returns-then-shows : goal.returns-then-shows
returns-then-shows c =
    sym (any_at (shows c.args.flaw c.args.schema.now) (array_slots c.args.array.now) c.loop-i.i (omega (arith, c.loop-i-test.true, c.len-i-end.ensures)) (sym c.shows.ensures ∙ c.if-shows.true))

pub returns : goal.returns
returns c =
    sym (none_at (shows c.args.flaw c.args.schema.now) (array_slots c.args.array.now) (λ j l. c.loop-i.invariant j (omega (arith, l, c.loop-i-test.false, c.len-i-end.ensures))))
