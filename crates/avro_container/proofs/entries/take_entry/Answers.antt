use Rattle.std.proofs.Common.{rules}
use Rattle.avro_container.proofs.Taken as taken
use Rattle.avro_container.specs.File.{the_entry}
use Rattle.avro_container.specs.FileForms.{key_form, after_key}
use Rattle.avro_container.specs.Forms.{sized}
use Rattle.avro_schema.specs.Encodes.{Any}
use Rattle.avro_container.proofs.entries.take_entry.Goals as goal

pub returns-in_err-key-clause-stops : goal.returns-in_err-key-clause-stops
returns-in_err-key-clause-stops g c =
    taken.handed_on _ _ c.from_residual.result c.from_residual.ensures.1 (taken.first_stops key_form after_key _ _ _ c.in_err-key.ensures.stops)

pub returns-in_err-sized-clause-stops : goal.returns-in_err-sized-clause-stops
returns-in_err-sized-clause-stops g c =
    taken.handed_on _ _ c.from_residual-in_err-sized.result c.from_residual-in_err-sized.ensures.1
    (taken.second_stops key_form after_key _ _ _ c.in_ok-key.key.items _ c.in_ok-key.ensures.ok
    (taken.meaning_stops sized Any (the_entry c.in_ok-key.key.items) _ _ _ c.in_err-sized.ensures.stops))

pub returns-clause-ok : goal.returns-clause-ok
returns-clause-ok g c = record {
  entry_taken = the_entry c.in_ok-key.key.items c.sized.new.bytes.items;
  passed = taken.both_pass key_form after_key _ _ _ c.in_ok-key.key.items _ c.in_ok-key.ensures.ok (taken.meaning_passes sized Any (the_entry c.in_ok-key.key.items) _ _ c.sized.new.bytes.items c.in_ok-sized.ensures.ok tt);
  schema_is = search rules;
  codec_is = search rules;
}
