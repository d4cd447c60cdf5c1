use Rattle.std.proofs.Common.{arith}
use Rattle.arrow_builders.specs.Shapes.{shape}
use Rattle.arrow_builders.proofs.Upto.{Upto-start, Upto-step, Upto-map}
use Rattle.json_line.proofs.Kept.{Cleared, all-cleared, all-tight}
use Rattle.json_line.proofs.builders.clear_all.Goals as goal

pub loop-i-init : goal.loop-i-init
loop-i-init c = Upto-start Cleared c.args.builders.now

pub loop-i-preserved : goal.loop-i-preserved
loop-i-preserved c =
    let e = c.clear.ensures in
    Upto-step Cleared c.loop-i.i _ c.args.builders.now c.loop-i.builders c.index-builders-i.result c.clear.new.self (omega arith) (omega arith)
    (record { same_shape = e.shape; slots = e.slots; tight = e.tight }) c.loop-i.invariant

pub returns : goal.returns
returns c = record {
  shapes = Upto-map Cleared shape (λ x y h. h.same_shape) _ _ _ c.loop-i.invariant;
  slots = all-cleared _ _ _ (omega arith) c.loop-i.invariant;
  tight = all-tight _ _ _ (omega arith) c.loop-i.invariant;
}
