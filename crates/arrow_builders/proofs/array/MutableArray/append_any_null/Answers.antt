use Rattle.std.proofs.Common.{refl, subst}
use Rattle.arrow_flat.specs.Builders.{PlainBuilder, ContentBuilder}
use Rattle.arrow_builders.specs.Calls.{PushesNull}
use Rattle.arrow_builders.specs.declared.array.MutableArray.{out-MutableArray, Boolean, Int32, Int64, Utf8}
use Rattle.arrow_builders.proofs.FlatCalls.{plain_null, boolean, int32, int64, utf8}
use Rattle.arrow_builders.proofs.array.MutableArray.append_any_null.Goals as goal

pub returns-in-Boolean : goal.returns-in-Boolean
unfolding out-MutableArray denote.Hole.Carrier.out
returns-in-Boolean c =
    let e = c.push_null.ensures in
    let n = c.push_null.new.self in
    rw c.in-Boolean.is (subst (λ (b : PlainBuilder). PushesNull (Boolean b) (Boolean n) c.push_null.result) c.in-Boolean.builder-is (plain_null boolean _ n e.data_type c.push_null.result refl e.ok e.err e.memory e.capacity e.has_capacity))

pub returns-in-Int32 : goal.returns-in-Int32
unfolding out-MutableArray denote.Hole.Carrier.out
returns-in-Int32 c =
    let e = c.push_null-in-Int32.ensures in
    let n = c.push_null-in-Int32.new.self in
    rw c.in-Int32.is (subst (λ (b : PlainBuilder). PushesNull (Int32 b) (Int32 n) c.push_null-in-Int32.result) c.in-Int32.builder-is (plain_null int32 _ n e.data_type c.push_null-in-Int32.result refl e.ok e.err e.memory e.capacity e.has_capacity))

pub returns-in-Int64 : goal.returns-in-Int64
unfolding out-MutableArray denote.Hole.Carrier.out
returns-in-Int64 c =
    let e = c.push_null-in-Int64.ensures in
    let n = c.push_null-in-Int64.new.self in
    rw c.in-Int64.is (subst (λ (b : PlainBuilder). PushesNull (Int64 b) (Int64 n) c.push_null-in-Int64.result) c.in-Int64.builder-is (plain_null int64 _ n e.data_type c.push_null-in-Int64.result refl e.ok e.err e.memory e.capacity e.has_capacity))

pub returns-in-Utf8 : goal.returns-in-Utf8
unfolding out-MutableArray denote.Hole.Carrier.out
returns-in-Utf8 c =
    let e = c.push_null-in-Utf8.ensures in
    let n = c.push_null-in-Utf8.new.self in
    rw c.in-Utf8.is (subst (λ (b : ContentBuilder). PushesNull (Utf8 b) (Utf8 n) c.push_null-in-Utf8.result) c.in-Utf8.builder-is (plain_null utf8 _ n e.data_type c.push_null-in-Utf8.result e.bytes e.ok e.err e.memory e.capacity e.has_capacity))

pub returns-in_default : goal.returns-in_default
returns-in_default c = c.append_null.ensures
