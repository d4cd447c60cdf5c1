use Rattle.std.proofs.Common.{refl}
use Rattle.arrow_core.specs.declared.physical.PhysicalType.TheVariants as physical
use Rattle.arrow_builders.specs.Shapes.{shape}
use Rattle.arrow_builders.proofs.NestedCalls.{lists_null, lists_same}
use Rattle.arrow_builders.proofs.large_list.DynMutableLargeListArray.push_null.Goals as goal

pub returns : goal.returns
returns c =
    let b = c.args.self.now in
    let child = b.values.value in
    let m = c.push_null.new.self in
    let e = c.push_null.ensures in
    lists_null _ _ b.lists m child refl refl refl refl refl refl (lists_same physical.LargeList b.lists.data_type m.data_type (shape child) (shape child) e.data_type refl) refl
    c.push_null.result e.ok e.err e.memory e.capacity e.has_capacity
