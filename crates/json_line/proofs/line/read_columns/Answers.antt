use Rattle.std.proofs.Common.{◌∙◌, length, refl, arith}
use Rattle.json_line.proofs.Rows.{as-many-shapes, index-within, members-end, members-next, members-start, no-members, tight-so_far}
use Rattle.json_line.proofs.Suited.{suits_same}
use Rattle.json_line.proofs.line.read_columns.Goals as goal

pub returns-then-closes-clause-ok : goal.returns-then-closes-clause-ok
returns-then-closes-clause-ok c = no-members c.args.depth c.args.names.now c.args.reader.now c.closes.new.reader c.args.builders.now c.requires.fits c.if-closes.ensures.found

pub loop-at-init : goal.loop-at-init
loop-at-init c =
    let f = c.if-closes.ensures in
    record { shapes = refl; forward = f.forward; reads = members-start c.args.depth c.args.names.now c.args.reader.now c.closes.new.reader c.args.builders.now c.requires.fits f.found.0 f.found.1 }

pub read_column-requires-clause-within : goal.read_column-requires-clause-within
read_column-requires-clause-within c =
    let begins = c.in_ok-at.ensures.reads in
    let n = as-many-shapes _ _ c.loop-at.invariant.shapes in
    index-within c.args.names.now begins.0 c.in_ok-at.at (length c.loop-at.builders) begins.1 (omega (arith, n, c.requires.fits))

pub read_column-requires-clause-suits : goal.read_column-requires-clause-suits
read_column-requires-clause-suits c = suits_same c.args.below.now c.args.builders.now c.loop-at.builders c.loop-at.invariant.shapes c.requires.suits

pub read_column-requires-clause-tight : goal.read_column-requires-clause-tight
read_column-requires-clause-tight c = tight-so_far c.args.count _ c.args.builders.now c.loop-at.builders c.requires.tight c.loop-at.invariant.reads.4

pub returns-in_err-read_column-clause-shapes : goal.returns-in_err-read_column-clause-shapes
returns-in_err-read_column-clause-shapes c = c.read_column.ensures.shapes ∙ c.loop-at.invariant.shapes

pub returns-in_err-goes_on-clause-shapes : goal.returns-in_err-goes_on-clause-shapes
returns-in_err-goes_on-clause-shapes c = c.read_column.ensures.shapes ∙ c.loop-at.invariant.shapes

pub returns-then-not-branch-clause-shapes : goal.returns-then-not-branch-clause-shapes
returns-then-not-branch-clause-shapes c = c.read_column.ensures.shapes ∙ c.loop-at.invariant.shapes

pub returns-then-not-branch-clause-ok : goal.returns-then-not-branch-clause-ok
returns-then-not-branch-clause-ok c =
    let f = rw c.if-not-branch.true at c.in_ok-goes_on.ensures.found in
    members-end c.args.depth c.args.count c.in_ok-at.at c.args.names.now c.args.reader.now c.loop-at.reader c.read_name.new.reader c.read_column.new.reader c.goes_on.new.reader c.args.builders.now c.loop-at.builders c.read_column.new.builders
    c.requires.distinct c.requires.tight c.loop-at.invariant.reads c.in_ok-at.ensures.reads (omega (arith, c.read_column.ensures.forward, c.in_ok-at.ensures.forward)) c.in_ok-read_column.ensures.ok f.0

pub loop-at-preserved : goal.loop-at-preserved
loop-at-preserved c =
    let i = c.loop-at.invariant in
    let f = rw c.if-not-branch.false at c.in_ok-goes_on.ensures.found in
    record {
      shapes = c.read_column.ensures.shapes ∙ i.shapes;
      forward = omega (arith, c.in_ok-goes_on.ensures.forward, c.read_column.ensures.forward, c.in_ok-at.ensures.forward, i.forward);
      reads = members-next c.args.depth c.args.count c.in_ok-at.at c.args.names.now c.args.reader.now c.loop-at.reader c.read_name.new.reader c.read_column.new.reader c.goes_on.new.reader c.args.builders.now c.loop-at.builders c.read_column.new.builders
          c.requires.distinct c.requires.tight i.reads c.in_ok-at.ensures.reads (omega (arith, c.read_column.ensures.forward, c.in_ok-at.ensures.forward)) c.in_ok-read_column.ensures.ok f;
    }
