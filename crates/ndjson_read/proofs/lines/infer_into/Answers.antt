use Rattle.std.proofs.Common.{◌∙◌, [], ◌++◌, refl}
use Rattle.ndjson_read.specs.FileReader.{limit_of, batch_of}
use Rattle.ndjson_read.proofs.RowLemmas.{handed_on}
use Rattle.ndjson_read.proofs.Steps.{no_rows_yet, limit_of_none, added_so_far, fails_so_far}
use Rattle.ndjson_read.proofs.lines.infer_into.Goals as goal

pub loop-more-init : goal.loop-more-init
loop-more-init g c = record {
  so_far = ([], (no_rows_yet _ _, limit_of_none _), c.requires.none);
  open_reader = c.requires.open;
  batch = c.requires.batch;
  same = refl;
}

pub loop-more-preserved : goal.loop-more-preserved
loop-more-preserved g c =
    let now = c.loop-more.invariant in
    let so = rw c.loop-more-test.true at now.so_far.1 in
    let ok = c.in_ok-more.ensures.ok in
    record {
      so_far = (
        now.so_far.0 ++ ok.0,
        added_so_far _ _ _ _ (limit_of c.loop-more.reader) _ (batch_of c.loop-more.reader) now.so_far.0 ok.0 _ c.requires.some c.requires.fresh so now.batch ok.1 ok.3,
        ok.2 now.so_far.0 now.so_far.2,
      );
      open_reader = c.in_ok-more.ensures.open;
      batch = c.in_ok-more.ensures.batch;
      same = c.in_ok-more.ensures.same ∙ now.same;
    }

pub returns-in_err-more-clause-err : goal.returns-in_err-more-clause-err
returns-in_err-more-clause-err g c =
    let now = c.loop-more.invariant in
    let so = rw c.loop-more-test.true at now.so_far.1 in
    handed_on _ _ c.from_residual.result c.from_residual.ensures.1
    (fails_so_far _ _ _ _ (limit_of c.loop-more.reader) (batch_of c.loop-more.reader) now.so_far.0 _ c.requires.some c.requires.fresh so now.batch c.in_err-more.ensures.err)
