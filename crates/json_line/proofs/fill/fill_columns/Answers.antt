use Rattle.std.proofs.Common.{◌∙◌, refl, sym, ap, subst, arith}
use Rattle.arrow_builders.specs.Shapes.{shape}
use Rattle.arrow_builders.specs.Tight.{IsTight}
use Rattle.arrow_builders.proofs.Upto.{Upto-next, Upto-start, Upto-step}
use Rattle.json_line.specs.Builders.{Fills}
use Rattle.json_line.proofs.Rows.{as-many-shapes, fills-all, shapes-step, tight-at}
use Rattle.json_line.proofs.fill.fill_columns.Goals as goal

pub loop-i-init : goal.loop-i-init
loop-i-init c = record { shapes = refl; each = Upto-start (Fills c.args.count) c.args.builders.now }

pub fill-requires : goal.fill-requires
fill-requires c =
    let old = c.args.builders.now in
    let b = c.index-builders-i.result in
    let n = as-many-shapes _ _ c.loop-i.invariant.shapes in
    let same = Upto-next (Fills c.args.count) c.loop-i.i old c.loop-i.builders b c.loop-i.invariant.each in
    subst IsTight (sym same) (tight-at old c.loop-i.i b (omega (arith, n, c.loop-i-test.true)) c.requires)

pub loop-i-preserved : goal.loop-i-preserved
loop-i-preserved c =
    let inv = c.loop-i.invariant in
    let i = c.loop-i.i in
    let b = c.index-builders-i.result in
    let bs = c.loop-i.builders in
    let x = c.fill.new.builder in
    let e = c.in_ok-fill.ensures in
    let n = as-many-shapes _ _ inv.shapes in
    record {
      shapes = shapes-step bs i b x _ c.index-builders-i.is (e.same_shape ∙ ap shape (sym c.index-builders-i.is)) inv.shapes;
      each = Upto-step (Fills c.args.count) i _ c.args.builders.now bs b x (omega arith) (omega (arith, n, c.loop-i-test.true)) e.ok inv.each;
    }

pub returns-in_err-fill-clause-shapes : goal.returns-in_err-fill-clause-shapes
returns-in_err-fill-clause-shapes c =
    shapes-step c.loop-i.builders c.loop-i.i c.index-builders-i.result c.fill.new.builder _ c.index-builders-i.is (c.in_err-fill.ensures.same_shape ∙ ap shape (sym c.index-builders-i.is)) c.loop-i.invariant.shapes

pub returns-clause-ok : goal.returns-clause-ok
returns-clause-ok c =
    let n = as-many-shapes _ _ c.loop-i.invariant.shapes in
    fills-all c.args.count c.loop-i.i c.args.builders.now c.loop-i.builders (omega (arith, n, c.loop-i-test.false)) c.loop-i.invariant.each
