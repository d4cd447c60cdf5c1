use Rattle.std.proofs.Common.{◌∙◌, arith, sym, ap, rules, ◌≡◌, get_or}
use Rattle.arrow_array.specs.Arrays.{array_type, array_slots}
use Rattle.arrow_builders.specs.MutableArrays.{builder_type, builder_slots}
use Rattle.arrow_builders.specs.Shapes.{shape}
use Rattle.arrow_builders.proofs.Boxed.{told_step, told_all}
use Rattle.arrow_builders.proofs.Upto.{Upto-start, Upto-next, Upto-step, Upto-set, Upto-map}
use Rattle.json_line.proofs.Kept.{Kept}
use Rattle.json_line.proofs.builders.box_all.Goals as goal

pub loop-i-init : goal.loop-i-init
loop-i-init c = record { each = Upto-start Kept c.args.builders.now; told_types = search rules; told_slots = search rules }

pub loop-i-preserved : goal.loop-i-preserved
loop-i-preserved c =
    let inv = c.loop-i.invariant in
    let e = c.in_ok-array.ensures in
    let same = Upto-next Kept c.loop-i.i c.args.builders.now c.loop-i.builders c.index-builders-i.result inv.each in
    let here : c.index-builders-i.result ≡ get_or c.args.builders.now c.loop-i.i c.index-builders-i.result = c.index-builders-i.is ∙ same in
    record {
      each = Upto-step Kept c.loop-i.i _ c.args.builders.now c.loop-i.builders c.index-builders-i.result c.as_box.new.self (omega arith) (omega arith) c.as_box.ensures.shape inv.each;
      told_types = told_step builder_type array_type c.args.builders.now c.loop-i.i _ c.index-builders-i.result c.loop-i.arrays.items _ c.in_ok-array.array (omega arith) (omega arith) here (e.array_type ∙ ap builder_type (sym c.index-builders-i.is)) c.in_ok-push.ensures.items inv.told_types;
      told_slots = told_step builder_slots array_slots c.args.builders.now c.loop-i.i _ c.index-builders-i.result c.loop-i.arrays.items _ c.in_ok-array.array (omega arith) (omega arith) here (e.array_slots ∙ ap builder_slots (sym c.index-builders-i.is)) c.in_ok-push.ensures.items inv.told_slots;
    }

pub returns-in_err-array-clause-shapes : goal.returns-in_err-array-clause-shapes
returns-in_err-array-clause-shapes c =
    Upto-map Kept shape (λ x y h. h) _ _ _ (Upto-set Kept c.loop-i.i _ c.loop-i.builders c.index-builders-i.result c.as_box.new.self (omega arith) c.as_box.ensures.shape c.loop-i.invariant.each)

pub returns-in_err-push-clause-shapes : goal.returns-in_err-push-clause-shapes
returns-in_err-push-clause-shapes c =
    Upto-map Kept shape (λ x y h. h) _ _ _ (Upto-set Kept c.loop-i.i _ c.loop-i.builders c.index-builders-i.result c.as_box.new.self (omega arith) c.as_box.ensures.shape c.loop-i.invariant.each)

pub returns : goal.returns
returns c =
    let inv = c.loop-i.invariant in
    record {
      shapes = Upto-map Kept shape (λ x y h. h) _ _ _ inv.each;
      array_types = told_all builder_type array_type c.args.builders.now c.loop-i.i c.loop-i.arrays.items (omega arith) inv.told_types;
      array_slots = told_all builder_slots array_slots c.args.builders.now c.loop-i.i c.loop-i.arrays.items (omega arith) inv.told_slots;
    }
