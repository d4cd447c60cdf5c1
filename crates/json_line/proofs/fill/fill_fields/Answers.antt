use Rattle.std.proofs.Common.{◌∙◌, refl, sym, subst, arith}
use Rattle.arrow_builders.specs.Tight.{IsTight}
use Rattle.arrow_builders.specs.declared.array.MutableArray.{MutableArray}
use Rattle.arrow_builders.proofs.Upto.{Upto-next, Upto-start, Upto-step}
use Rattle.json_line.specs.Builders.{Fills}
use Rattle.json_line.proofs.Rows.{as-many-shapes, fills-all, shapes-step, tight-at}
use Rattle.json_line.proofs.fill.fill_fields.Goals as goal

pub loop-i-init : goal.loop-i-init
loop-i-init c = record { marks = refl; shapes = refl; each = Upto-start (Fills c.args.count) c.args.structs.now.values.items }

pub mut_values-requires : goal.mut_values-requires
mut_values-requires c =
    let n = as-many-shapes _ _ c.loop-i.invariant.shapes in
    let v = c.loop-i.structs.values.ok in
    omega (arith, c.requires.fields, n, v.0, c.loop-i-test.true)

pub fill-requires : goal.fill-requires
fill-requires c =
    let i = c.loop-i.i in
    let b = c.mut_values.result.now in
    let old = c.args.structs.now.values.items in
    let same = c.mut_values.ensures.value ∙ Upto-next (Fills c.args.count) i old c.loop-i.structs.values.items b c.loop-i.invariant.each in
    subst IsTight (sym same) (tight-at old i b (omega (arith, c.requires.fields, c.loop-i-test.true)) c.requires.tight)

pub loop-i-preserved : goal.loop-i-preserved
loop-i-preserved c =
    let inv = c.loop-i.invariant in
    let i = c.loop-i.i in
    let b = c.mut_values.result.now in
    let bs = c.loop-i.structs.values.items in
    let x = c.fill.new.builder in
    let e = c.in_ok-fill.ensures in
    let n = as-many-shapes _ _ inv.shapes in
    let took = subst (λ (y : MutableArray). Fills c.args.count y x) c.mut_values.ensures.value e.ok in
    record {
      marks = inv.marks;
      shapes = shapes-step bs i b x _ c.mut_values.ensures.value e.same_shape inv.shapes;
      each = Upto-step (Fills c.args.count) i _ c.args.structs.now.values.items bs b x (omega arith) (omega (arith, c.requires.fields, n, c.loop-i-test.true)) took inv.each;
    }

pub returns-in_err-fill-clause-shapes : goal.returns-in_err-fill-clause-shapes
returns-in_err-fill-clause-shapes c = shapes-step c.loop-i.structs.values.items c.loop-i.i c.mut_values.result.now c.fill.new.builder _ c.mut_values.ensures.value c.in_err-fill.ensures.same_shape c.loop-i.invariant.shapes

pub returns-clause-ok : goal.returns-clause-ok
returns-clause-ok c =
    let n = as-many-shapes _ _ c.loop-i.invariant.shapes in
    fills-all c.args.count c.loop-i.i c.args.structs.now.values.items c.loop-i.structs.values.items (omega (arith, c.requires.fields, n, c.loop-i-test.false)) c.loop-i.invariant.each
