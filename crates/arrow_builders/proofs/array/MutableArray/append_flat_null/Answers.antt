use Rattle.std.proofs.Common.{refl, subst}
use Rattle.arrow_flat.specs.Builders.{PlainBuilder, ContentBuilder}
use Rattle.arrow_flat.specs.Dictionaries.{DictionaryBuilder}
use Rattle.arrow_builders.specs.Calls.{PushesNull}
use Rattle.arrow_builders.specs.declared.array.MutableArray.{out-MutableArray, Null, Boolean, Int8, Int16, Int32, Int64, UInt8, UInt16, UInt32, UInt64, Int128, MonthDayNano, Utf8, LargeUtf8, Binary, LargeBinary, FixedSizeBinary, Dictionary}
use Rattle.arrow_builders.proofs.FlatCalls.{plain_null, sized_null, null, boolean, int8, int16, int32, int64, uint8, uint16, uint32, uint64, int128, month_day_nano, utf8, large_utf8, binary, large_binary, keys}
use Rattle.arrow_builders.proofs.array.MutableArray.append_flat_null.Goals as goal

pub returns-in-Null : goal.returns-in-Null
unfolding out-MutableArray denote.Hole.Carrier.out
returns-in-Null c =
    let e = c.push_null.ensures in
    let n = c.push_null.new.self in
    rw c.in-Null.is (subst (λ (b : PlainBuilder). PushesNull (Null b) (Null n) c.push_null.result) c.in-Null.builder-is (plain_null null _ n e.data_type c.push_null.result refl e.ok e.err e.memory e.capacity e.has_capacity))

pub returns-in-Boolean : goal.returns-in-Boolean
unfolding out-MutableArray denote.Hole.Carrier.out
returns-in-Boolean c =
    let e = c.push_null-in-Boolean.ensures in
    let n = c.push_null-in-Boolean.new.self in
    rw c.in-Boolean.is (subst (λ (b : PlainBuilder). PushesNull (Boolean b) (Boolean n) c.push_null-in-Boolean.result) c.in-Boolean.builder-is (plain_null boolean _ n e.data_type c.push_null-in-Boolean.result refl e.ok e.err e.memory e.capacity e.has_capacity))

pub returns-in-Int8 : goal.returns-in-Int8
unfolding out-MutableArray denote.Hole.Carrier.out
returns-in-Int8 c =
    let e = c.push_null-in-Int8.ensures in
    let n = c.push_null-in-Int8.new.self in
    rw c.in-Int8.is (subst (λ (b : PlainBuilder). PushesNull (Int8 b) (Int8 n) c.push_null-in-Int8.result) c.in-Int8.builder-is (plain_null int8 _ n e.data_type c.push_null-in-Int8.result refl e.ok e.err e.memory e.capacity e.has_capacity))

pub returns-in-Int16 : goal.returns-in-Int16
unfolding out-MutableArray denote.Hole.Carrier.out
returns-in-Int16 c =
    let e = c.push_null-in-Int16.ensures in
    let n = c.push_null-in-Int16.new.self in
    rw c.in-Int16.is (subst (λ (b : PlainBuilder). PushesNull (Int16 b) (Int16 n) c.push_null-in-Int16.result) c.in-Int16.builder-is (plain_null int16 _ n e.data_type c.push_null-in-Int16.result refl e.ok e.err e.memory e.capacity e.has_capacity))

pub returns-in-Int32 : goal.returns-in-Int32
unfolding out-MutableArray denote.Hole.Carrier.out
returns-in-Int32 c =
    let e = c.push_null-in-Int32.ensures in
    let n = c.push_null-in-Int32.new.self in
    rw c.in-Int32.is (subst (λ (b : PlainBuilder). PushesNull (Int32 b) (Int32 n) c.push_null-in-Int32.result) c.in-Int32.builder-is (plain_null int32 _ n e.data_type c.push_null-in-Int32.result refl e.ok e.err e.memory e.capacity e.has_capacity))

pub returns-in-Int64 : goal.returns-in-Int64
unfolding out-MutableArray denote.Hole.Carrier.out
returns-in-Int64 c =
    let e = c.push_null-in-Int64.ensures in
    let n = c.push_null-in-Int64.new.self in
    rw c.in-Int64.is (subst (λ (b : PlainBuilder). PushesNull (Int64 b) (Int64 n) c.push_null-in-Int64.result) c.in-Int64.builder-is (plain_null int64 _ n e.data_type c.push_null-in-Int64.result refl e.ok e.err e.memory e.capacity e.has_capacity))

pub returns-in-UInt8 : goal.returns-in-UInt8
unfolding out-MutableArray denote.Hole.Carrier.out
returns-in-UInt8 c =
    let e = c.push_null-in-UInt8.ensures in
    let n = c.push_null-in-UInt8.new.self in
    rw c.in-UInt8.is (subst (λ (b : PlainBuilder). PushesNull (UInt8 b) (UInt8 n) c.push_null-in-UInt8.result) c.in-UInt8.builder-is (plain_null uint8 _ n e.data_type c.push_null-in-UInt8.result refl e.ok e.err e.memory e.capacity e.has_capacity))

pub returns-in-UInt16 : goal.returns-in-UInt16
unfolding out-MutableArray denote.Hole.Carrier.out
returns-in-UInt16 c =
    let e = c.push_null-in-UInt16.ensures in
    let n = c.push_null-in-UInt16.new.self in
    rw c.in-UInt16.is (subst (λ (b : PlainBuilder). PushesNull (UInt16 b) (UInt16 n) c.push_null-in-UInt16.result) c.in-UInt16.builder-is (plain_null uint16 _ n e.data_type c.push_null-in-UInt16.result refl e.ok e.err e.memory e.capacity e.has_capacity))

pub returns-in-UInt32 : goal.returns-in-UInt32
unfolding out-MutableArray denote.Hole.Carrier.out
returns-in-UInt32 c =
    let e = c.push_null-in-UInt32.ensures in
    let n = c.push_null-in-UInt32.new.self in
    rw c.in-UInt32.is (subst (λ (b : PlainBuilder). PushesNull (UInt32 b) (UInt32 n) c.push_null-in-UInt32.result) c.in-UInt32.builder-is (plain_null uint32 _ n e.data_type c.push_null-in-UInt32.result refl e.ok e.err e.memory e.capacity e.has_capacity))

pub returns-in-UInt64 : goal.returns-in-UInt64
unfolding out-MutableArray denote.Hole.Carrier.out
returns-in-UInt64 c =
    let e = c.push_null-in-UInt64.ensures in
    let n = c.push_null-in-UInt64.new.self in
    rw c.in-UInt64.is (subst (λ (b : PlainBuilder). PushesNull (UInt64 b) (UInt64 n) c.push_null-in-UInt64.result) c.in-UInt64.builder-is (plain_null uint64 _ n e.data_type c.push_null-in-UInt64.result refl e.ok e.err e.memory e.capacity e.has_capacity))

pub returns-in-Int128 : goal.returns-in-Int128
unfolding out-MutableArray denote.Hole.Carrier.out
returns-in-Int128 c =
    let e = c.push_null-in-Int128.ensures in
    let n = c.push_null-in-Int128.new.self in
    rw c.in-Int128.is (subst (λ (b : PlainBuilder). PushesNull (Int128 b) (Int128 n) c.push_null-in-Int128.result) c.in-Int128.builder-is (plain_null int128 _ n e.data_type c.push_null-in-Int128.result refl e.ok e.err e.memory e.capacity e.has_capacity))

pub returns-in-MonthDayNano : goal.returns-in-MonthDayNano
unfolding out-MutableArray denote.Hole.Carrier.out
returns-in-MonthDayNano c =
    let e = c.push_null-in-MonthDayNano.ensures in
    let n = c.push_null-in-MonthDayNano.new.self in
    rw c.in-MonthDayNano.is (subst (λ (b : PlainBuilder). PushesNull (MonthDayNano b) (MonthDayNano n) c.push_null-in-MonthDayNano.result) c.in-MonthDayNano.builder-is (plain_null month_day_nano _ n e.data_type c.push_null-in-MonthDayNano.result refl e.ok e.err e.memory e.capacity e.has_capacity))

pub returns-in-Utf8 : goal.returns-in-Utf8
unfolding out-MutableArray denote.Hole.Carrier.out
returns-in-Utf8 c =
    let e = c.push_null-in-Utf8.ensures in
    let n = c.push_null-in-Utf8.new.self in
    rw c.in-Utf8.is (subst (λ (b : ContentBuilder). PushesNull (Utf8 b) (Utf8 n) c.push_null-in-Utf8.result) c.in-Utf8.builder-is (plain_null utf8 _ n e.data_type c.push_null-in-Utf8.result e.bytes e.ok e.err e.memory e.capacity e.has_capacity))

pub returns-in-LargeUtf8 : goal.returns-in-LargeUtf8
unfolding out-MutableArray denote.Hole.Carrier.out
returns-in-LargeUtf8 c =
    let e = c.push_null-in-LargeUtf8.ensures in
    let n = c.push_null-in-LargeUtf8.new.self in
    rw c.in-LargeUtf8.is (subst (λ (b : ContentBuilder). PushesNull (LargeUtf8 b) (LargeUtf8 n) c.push_null-in-LargeUtf8.result) c.in-LargeUtf8.builder-is (plain_null large_utf8 _ n e.data_type c.push_null-in-LargeUtf8.result e.bytes e.ok e.err e.memory e.capacity e.has_capacity))

pub returns-in-Binary : goal.returns-in-Binary
unfolding out-MutableArray denote.Hole.Carrier.out
returns-in-Binary c =
    let e = c.push_null-in-Binary.ensures in
    let n = c.push_null-in-Binary.new.self in
    rw c.in-Binary.is (subst (λ (b : ContentBuilder). PushesNull (Binary b) (Binary n) c.push_null-in-Binary.result) c.in-Binary.builder-is (plain_null binary _ n e.data_type c.push_null-in-Binary.result e.bytes e.ok e.err e.memory e.capacity e.has_capacity))

pub returns-in-LargeBinary : goal.returns-in-LargeBinary
unfolding out-MutableArray denote.Hole.Carrier.out
returns-in-LargeBinary c =
    let e = c.push_null-in-LargeBinary.ensures in
    let n = c.push_null-in-LargeBinary.new.self in
    rw c.in-LargeBinary.is (subst (λ (b : ContentBuilder). PushesNull (LargeBinary b) (LargeBinary n) c.push_null-in-LargeBinary.result) c.in-LargeBinary.builder-is (plain_null large_binary _ n e.data_type c.push_null-in-LargeBinary.result e.bytes e.ok e.err e.memory e.capacity e.has_capacity))

pub returns-in-FixedSizeBinary : goal.returns-in-FixedSizeBinary
unfolding out-MutableArray denote.Hole.Carrier.out
returns-in-FixedSizeBinary c =
    let e = c.push_null-in-FixedSizeBinary.ensures in
    let n = c.push_null-in-FixedSizeBinary.new.self in
    rw c.in-FixedSizeBinary.is (subst (λ (b : ContentBuilder). PushesNull (FixedSizeBinary b) (FixedSizeBinary n) c.push_null-in-FixedSizeBinary.result) c.in-FixedSizeBinary.builder-is (sized_null _ n e.data_type c.push_null-in-FixedSizeBinary.result e.ok e.bytes e.slots_kept e.bytes_kept e.kept e.memory e.capacity e.has_capacity))

pub returns-in-Dictionary : goal.returns-in-Dictionary
unfolding out-MutableArray denote.Hole.Carrier.out
returns-in-Dictionary c =
    let e = c.push_null-in-Dictionary.ensures in
    let n = c.push_null-in-Dictionary.new.self in
    rw c.in-Dictionary.is (subst (λ (b : DictionaryBuilder). PushesNull (Dictionary b) (Dictionary n) c.push_null-in-Dictionary.result) c.in-Dictionary.builder-is (plain_null keys _ n (e.data_type, e.items) c.push_null-in-Dictionary.result refl e.ok e.err e.memory e.capacity e.has_capacity))
