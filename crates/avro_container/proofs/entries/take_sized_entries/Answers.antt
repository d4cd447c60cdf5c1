use Rattle.std.proofs.Common.{pos}
use Rattle.avro_container.proofs.Taken as taken
use Rattle.avro_container.proofs.StatedSizes as stated
use Rattle.avro_container.specs.FileForms.{entry}
use Rattle.avro_container.specs.Forms.{number, under, many, count}
use Rattle.avro_container.proofs.entries.take_sized_entries.Goals as goal

pub take_within-requires : goal.take_within-requires
take_within-requires g c = stated.still_none count _ _ _ c.requires c.in_ok-size.ensures.ok

pub returns-in_err-size-clause-stops : goal.returns-in_err-size-clause-stops
returns-in_err-size-clause-stops g c =
    taken.handed_on _ _ c.from_residual.result c.from_residual.ensures.1 (stated.size_stops (many entry c.args.n) _ _ _ c.in_err-size.ensures.stops)

pub returns-in_err-take_within-clause-stops : goal.returns-in_err-take_within-clause-stops
returns-in_err-take_within-clause-stops g c =
    taken.handed_on _ _ c.from_residual-in_err-take_within.result c.from_residual-in_err-take_within.ensures.1
    (taken.second_stops number (λ z. under z (many entry c.args.n)) _ _ _ (pos c.in_ok-size.size) _ (stated.size_passes _ _ _ c.in_ok-size.ensures.ok) c.in_err-take_within.ensures.stops)

pub returns-clause-ok : goal.returns-clause-ok
returns-clause-ok g c =
    let all = c.in_ok-take_within.ensures.ok in
    record {
      entries = all.entries;
      passed = taken.both_pass number (λ z. under z (many entry c.args.n)) _ _ _ (pos c.in_ok-size.size) _ (stated.size_passes _ _ _ c.in_ok-size.ensures.ok) all.passed;
      schema_is = all.schema_is;
      codec_is = all.codec_is;
    }
