use Rattle.std.proofs.Common.{refl, ◌∙◌, []}
use Rattle.avro_container.proofs.Taken as taken
use Rattle.avro_container.proofs.Manies as manies
use Rattle.avro_container.specs.FileForms.{entry}
use Rattle.avro_container.proofs.entries.take_entries.Goals as goal

pub loop-index-init : goal.loop-index-init
loop-index-init g c = record { taken = []; entries = []; takes = taken.takes_nothing _; so_far = (refl, refl); schema = refl; codec = refl; same = refl }

pub returns-in_err-take_entry-clause-stops : goal.returns-in_err-take_entry-clause-stops
returns-in_err-take_entry-clause-stops g c =
    taken.handed_on _ _ c.from_residual.result c.from_residual.ensures.1
    (manies.many_stops entry c.loop-index.index c.args.n _ _ _ _ _ _ c.loop-index-test.true c.loop-index.invariant.takes c.loop-index.invariant.so_far c.in_err-take_entry.ensures.stops)

pub loop-index-preserved : goal.loop-index-preserved
loop-index-preserved g c = record {
  taken = _;
  entries = _;
  takes = taken.takes_more _ _ _ _ _ c.loop-index.invariant.takes c.in_ok-take_entry.ensures.ok.passed.1;
  so_far = manies.many_more entry c.loop-index.index _ _ _ _ c.loop-index.invariant.so_far c.in_ok-take_entry.ensures.ok.passed.2;
  schema = manies.kept_more _ _ _ _ c.loop-index.invariant.entries _ c.loop-index.invariant.schema c.in_ok-take_entry.ensures.ok.schema_is;
  codec = manies.kept_more _ _ _ _ c.loop-index.invariant.entries _ c.loop-index.invariant.codec c.in_ok-take_entry.ensures.ok.codec_is;
  same = c.in_ok-take_entry.ensures.same ∙ c.loop-index.invariant.same;
}

pub returns-clause-ok : goal.returns-clause-ok
returns-clause-ok g c = record {
  entries = c.loop-index.invariant.entries;
  passed = (c.loop-index.invariant.taken, c.loop-index.invariant.takes, manies.all_of entry c.loop-index.index c.args.n _ _ c.loop-index.auto.index-end c.loop-index-test.false c.loop-index.invariant.so_far);
  schema_is = c.loop-index.invariant.schema;
  codec_is = c.loop-index.invariant.codec;
}
