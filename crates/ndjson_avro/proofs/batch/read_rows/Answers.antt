use Rattle.std.proofs.Common.{◌∙◌, refl, arith}
use Rattle.ndjson_read.proofs.RowLemmas.{handed_on}
use Rattle.ndjson_avro.proofs.Holding.{no_row_so_far, none_so_far, row_falls, row_so_far, rows_end}
use Rattle.ndjson_avro.proofs.batch.read_rows.Goals as goal

pub rows-init : goal.rows-init
rows-init g c = record { so_far = none_so_far c.args.wanted _ c.args.batch.now.rows.items c.requires.empty; open_reader = c.requires.open; same = refl }

pub returns-in_err-more-clause-err : goal.returns-in_err-more-clause-err
returns-in_err-more-clause-err g c =
    handed_on _ _ c.from_residual.result c.from_residual.ensures.1
    (no_row_so_far c.args.wanted _ _ _ c.rows.batch.rows.items _ (omega (arith, c.rows-test.true, c.len.ensures)) c.rows.invariant.so_far c.in_err-more.ensures.err)

pub returns-then-not-more-clause-ok : goal.returns-then-not-more-clause-ok
returns-then-not-more-clause-ok g c = rows_end c.args.wanted _ _ _ c.rows.batch.rows.items c.read_row.new.batch.rows.items c.in_ok-more.more c.if-not-more.true c.rows.invariant.so_far c.in_ok-more.ensures.ok

pub rows-smaller : goal.rows-smaller
rows-smaller g c = row_falls _ _ c.rows.batch.rows.items c.read_row.new.batch.rows.items c.in_ok-more.more c.if-not-more.false c.in_ok-more.ensures.ok

pub rows-preserved : goal.rows-preserved
rows-preserved g c = record {
  so_far = row_so_far c.args.wanted _ _ _ c.rows.batch.rows.items c.read_row.new.batch.rows.items c.in_ok-more.more c.if-not-more.false (omega (arith, c.rows-test.true, c.len.ensures)) c.rows.invariant.so_far c.in_ok-more.ensures.ok;
  open_reader = c.in_ok-more.ensures.open;
  same = c.in_ok-more.ensures.same ∙ c.rows.invariant.same;
}
