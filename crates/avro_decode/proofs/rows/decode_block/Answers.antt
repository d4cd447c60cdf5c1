use Rattle.std.proofs.Common.{arith}
use Rattle.std.proofs.lemmas.Result.{err_from_is_err_and}
use Rattle.avro_decode.proofs.RowSteps.{block_read, block_more, block_fault}
use Rattle.avro_decode.proofs.rows.decode_block.Goals as goal

pub returns-in_err-decode_rows-clause-reads : goal.returns-in_err-decode_rows-clause-reads
returns-in_err-decode_rows-clause-reads g c =
    let p = err_from_is_err_and c.from_residual.result c.from_residual.ensures.1 in
    rw (p.1, p.2) (block_fault c.args.rows _ _ _ c.requires.enough _ c.in_err-decode_rows.ensures.reads)

pub returns-in_err-decode_rows-clause-keeps : goal.returns-in_err-decode_rows-clause-keeps
returns-in_err-decode_rows-clause-keeps g c =
    let p = err_from_is_err_and c.from_residual.result c.from_residual.ensures.1 in
    rw (p.1, p.2) c.in_err-decode_rows.ensures.keeps

pub returns-then-left-gt0-clause-keeps : goal.returns-then-left-gt0-clause-keeps
returns-then-left-gt0-clause-keeps g c =
    let e = c.in_ok-decode_rows.ensures.keeps in
    record {
      shapes = e.shapes;
      tight = tt;
      grows = e.grows;
      has_capacity = λ h. tt;
      same = e.same;
      moves = e.moves;
    }

pub returns-then-left-gt0-clause-reads : goal.returns-then-left-gt0-clause-reads
returns-then-left-gt0-clause-reads g c =
    block_more _ _ _ _ _ c.args.rows _ _ _ _ c.requires.enough c.in_ok-decode_rows.ensures.reads (omega (arith, c.left.ensures, c.if-left-gt0.true))

pub returns-clause-reads : goal.returns-clause-reads
returns-clause-reads g c =
    block_read _ _ _ _ _ c.args.rows _ _ _ _ c.requires.enough c.in_ok-decode_rows.ensures.reads (omega (arith, c.left.ensures, c.if-left-gt0.false))
