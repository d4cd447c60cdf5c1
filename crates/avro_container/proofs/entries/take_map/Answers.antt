use Rattle.std.proofs.Common.{◌∙◌}
use Rattle.avro_container.proofs.Taken as taken
use Rattle.avro_container.proofs.Manies as manies
use Rattle.avro_container.proofs.StatedSizes as stated
use Rattle.avro_container.specs.FileForms.{entry}
use Rattle.avro_container.specs.Forms.{number, block_of, signed_of}
use Rattle.avro_container.proofs.entries.take_map.Goals as goal

pub returns-in_err-count-clause-stops : goal.returns-in_err-count-clause-stops
returns-in_err-count-clause-stops g c =
    taken.handed_on _ _ c.from_residual.result c.from_residual.ensures.1
    (manies.blocks_stop entry _ _ _ c.loop-count.invariant.along.taken c.loop-count.invariant.entries _ c.loop-count.invariant.along.before c.loop-count.invariant.along.takes (taken.first_stops number (block_of entry) _ _ _ c.in_err-count.ensures.stops))

pub returns-then-count-eq0-clause-ok : goal.returns-then-count-eq0-clause-ok
returns-then-count-eq0-clause-ok g c =
    record {
      entries = c.loop-count.invariant.entries;
      passed = manies.blocks_end entry _ _ _ c.loop-count.invariant.along.taken c.loop-count.invariant.entries _ c.loop-count.invariant.along.before c.loop-count.invariant.along.takes (stated.no_entries _ _ c.if-count-eq0.true) c.in_ok-count.ensures.ok;
      schema_is = c.loop-count.invariant.schema;
      codec_is = c.loop-count.invariant.codec;
    }

pub loop-count-preserved : goal.loop-count-preserved
loop-count-preserved g c = record {
  entries = _;
  along = manies.along_more entry _ _ _ _ _ _ _ c.loop-count.invariant.along c.in_ok-count.ensures.ok c.in_ok-take_block_of.ensures.ok.passed;
  schema = manies.kept_all _ _ _ _ c.loop-count.invariant.entries _ c.loop-count.invariant.schema c.in_ok-take_block_of.ensures.ok.schema_is;
  codec = manies.kept_all _ _ _ _ c.loop-count.invariant.entries _ c.loop-count.invariant.codec c.in_ok-take_block_of.ensures.ok.codec_is;
  size_left = c.in_ok-take_block_of.ensures.size_left;
  same = c.in_ok-take_block_of.ensures.same ∙ (c.in_ok-count.ensures.same ∙ c.loop-count.invariant.same);
}

pub returns-in_err-take_block_of-clause-stops : goal.returns-in_err-take_block_of-clause-stops
returns-in_err-take_block_of-clause-stops g c =
    taken.handed_on _ _ c.from_residual-in_err-take_block_of.result c.from_residual-in_err-take_block_of.ensures.1
    (manies.blocks_stop entry _ _ _ c.loop-count.invariant.along.taken c.loop-count.invariant.entries _ c.loop-count.invariant.along.before c.loop-count.invariant.along.takes
    (taken.second_stops number (block_of entry) _ _ _ (signed_of c.in_ok-count.count.is_sized c.in_ok-count.count.entries) _ c.in_ok-count.ensures.ok c.in_err-take_block_of.ensures.stops))
