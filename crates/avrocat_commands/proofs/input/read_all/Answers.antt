-- Each turn adds what the read gave. What an error leaves was taken before it.
use Rattle.std.proofs.Common.{◌∙◌, [], ◌++◌, List, ℕ, take, arith}
use Rattle.std.proofs.KnownBytes.{Consumes-kept, Consumes-nil}
use Rattle.std.proofs.lemmas.List.{length-append, length-take}
use Rattle.std.proofs.lemmas.Result.{err_from_is_err_and}
use Rattle.avro_container.proofs.Steps.{rose_from}
use Rattle.avrocat_commands.proofs.Taken.{taken_more}
use Rattle.avrocat_commands.proofs.input.read_all.Goals as goal

pub returns-in_err-piece-clause-err : goal.returns-in_err-piece-clause-err
returns-in_err-piece-clause-err g c =
    let p = err_from_is_err_and c.from_residual.result c.from_residual.ensures.1 in
    rw (p.1, p.2, c.in_err-piece.ensures.memory) ([], omega arith, Consumes-nil (g.S.Source.left c.args.source.now))

pub returns-in-Err-clause-err : goal.returns-in-Err-clause-err
returns-in-Err-clause-err g c =
    let now = c.loop-bytes.invariant in
    let left = g.S.Source.left in (
      rose_from _ _ _ now.faults c.in-Err.ensures.cause,
      (c.loop-bytes.bytes.items, omega (arith, now.within), Consumes-kept (left c.args.source.now) (left c.loop-bytes.source) (left c.read.new.self) c.loop-bytes.bytes.items now.taken c.in-Err.ensures.unchanged),
    )

pub returns-in_err-extend_from_slice-clause-err : goal.returns-in_err-extend_from_slice-clause-err
returns-in_err-extend_from_slice-clause-err g c =
    let p = err_from_is_err_and c.from_residual-in_err-extend_from_slice.result c.from_residual-in_err-extend_from_slice.ensures.1 in
    let now = c.loop-bytes.invariant in
    let more : List ℕ = take c.in-Ok.count c.read.new.buffer in
    rw (p.1, p.2) (
      c.loop-bytes.bytes.items ++ more,
      omega
          (arith, length-append c.loop-bytes.bytes.items more, length-take c.in-Ok.count c.read.new.buffer, length-take c.min-most.result c.deref_mut.result.now, c.in-Ok.ensures.count, c.len-in-loop-bytes.ensures, c.min-most.ensures),
      taken_more _ _ _ c.loop-bytes.bytes.items more now.taken c.in-Ok.ensures.given,
    )

pub loop-bytes-preserved : goal.loop-bytes-preserved
loop-bytes-preserved g c =
    record {
      piece = c.loop-bytes.invariant.piece;
      within =
          omega
          (arith, c.in_ok-extend_from_slice.ensures.len, length-take c.in-Ok.count c.read.new.buffer, length-take c.min-most.result c.deref_mut.result.now, c.in-Ok.ensures.count, c.len-in-loop-bytes.ensures, c.min-most.ensures);
      taken = rw c.in_ok-extend_from_slice.ensures.items (taken_more _ _ _ _ _ c.loop-bytes.invariant.taken c.in-Ok.ensures.given);
      faults = omega (arith, c.loop-bytes.invariant.faults, c.read.ensures.never_falls);
      same = c.read.ensures.same ∙ c.loop-bytes.invariant.same;
    }
