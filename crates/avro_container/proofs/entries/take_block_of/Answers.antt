use Rattle.avro_container.proofs.Taken as taken
use Rattle.avro_container.proofs.StatedSizes as stated
use Rattle.avro_container.specs.FileForms.{entry}
use Rattle.avro_container.proofs.entries.take_block_of.Goals as goal

pub returns-then-count-clause-stops : goal.returns-then-count-clause-stops
returns-then-count-clause-stops g c = stated.too_many entry _ c.args.count.is_sized c.args.count.entries c.requires.some c.if-count.true

pub returns-in_err-take_sized_entries-clause-stops : goal.returns-in_err-take_sized_entries-clause-stops
returns-in_err-take_sized_entries-clause-stops g c =
    taken.handed_on _ _ c.from_residual.result c.from_residual.ensures.1
    (stated.sized_stops entry _ _ c.args.count.is_sized c.args.count.entries _ c.if-count-2.true c.requires.some c.if-count.false c.in_err-take_sized_entries.ensures.stops)

pub returns-in_err-take_entries-clause-stops : goal.returns-in_err-take_entries-clause-stops
returns-in_err-take_entries-clause-stops g c =
    taken.handed_on _ _ c.from_residual-in_err-take_entries.result c.from_residual-in_err-take_entries.ensures.1
    (stated.plain_stops entry _ _ c.args.count.is_sized c.args.count.entries _ c.if-count-2.false c.requires.some c.if-count.false c.in_err-take_entries.ensures.stops)

pub returns-clause-ok : goal.returns-clause-ok
returns-clause-ok g c =
    let all = c.in_ok-take_entries.ensures.ok in
    record {
      entries = all.entries;
      passed = stated.plain_passes entry _ _ c.args.count.is_sized c.args.count.entries _ c.if-count-2.false c.requires.some c.if-count.false all.passed;
      schema_is = all.schema_is;
      codec_is = all.codec_is;
    }
