use Rattle.std.proofs.Common.{subst}
use Rattle.arrow_flat.specs.Builders.{PlainBuilder, ContentBuilder}
use Rattle.arrow_flat.specs.Dictionaries.{DictionaryBuilder}
use Rattle.arrow_builders.specs.Calls.{Reserves}
use Rattle.arrow_builders.specs.declared.array.MutableArray.{out-MutableArray, Null, Boolean, Int8, Int16, Int32, Int64, UInt8, UInt16, UInt32, UInt64, Int128, MonthDayNano, Utf8, LargeUtf8, Binary, LargeBinary, FixedSizeBinary, Dictionary}
use Rattle.arrow_builders.proofs.FlatCalls.{flat_reserves, null, boolean, int8, int16, int32, int64, uint8, uint16, uint32, uint64, int128, month_day_nano, utf8, large_utf8, binary, large_binary, fixed_size_binary, keys}
use Rattle.arrow_builders.proofs.array.MutableArray.reserve_flat.Goals as goal

pub returns-in-Null : goal.returns-in-Null
unfolding out-MutableArray denote.Hole.Carrier.out
returns-in-Null c =
    let e = c.reserve_for.ensures in
    let n = c.reserve_for.new.self in
    rw c.in-Null.is (subst (λ (b : PlainBuilder). Reserves c.args.additional (Null b) (Null n) c.reserve_for.result) c.in-Null.builder-is (flat_reserves null _ n e.data_type c.args.additional c.reserve_for.result e.slots e.capacity e.ok e.memory))

pub returns-in-Boolean : goal.returns-in-Boolean
unfolding out-MutableArray denote.Hole.Carrier.out
returns-in-Boolean c =
    let e = c.reserve_for-in-Boolean.ensures in
    let n = c.reserve_for-in-Boolean.new.self in
    rw c.in-Boolean.is (subst (λ (b : PlainBuilder). Reserves c.args.additional (Boolean b) (Boolean n) c.reserve_for-in-Boolean.result) c.in-Boolean.builder-is (flat_reserves boolean _ n e.data_type c.args.additional c.reserve_for-in-Boolean.result e.slots e.capacity e.ok e.memory))

pub returns-in-Int8 : goal.returns-in-Int8
unfolding out-MutableArray denote.Hole.Carrier.out
returns-in-Int8 c =
    let e = c.reserve_for-in-Int8.ensures in
    let n = c.reserve_for-in-Int8.new.self in
    rw c.in-Int8.is (subst (λ (b : PlainBuilder). Reserves c.args.additional (Int8 b) (Int8 n) c.reserve_for-in-Int8.result) c.in-Int8.builder-is (flat_reserves int8 _ n e.data_type c.args.additional c.reserve_for-in-Int8.result e.slots e.capacity e.ok e.memory))

pub returns-in-Int16 : goal.returns-in-Int16
unfolding out-MutableArray denote.Hole.Carrier.out
returns-in-Int16 c =
    let e = c.reserve_for-in-Int16.ensures in
    let n = c.reserve_for-in-Int16.new.self in
    rw c.in-Int16.is (subst (λ (b : PlainBuilder). Reserves c.args.additional (Int16 b) (Int16 n) c.reserve_for-in-Int16.result) c.in-Int16.builder-is (flat_reserves int16 _ n e.data_type c.args.additional c.reserve_for-in-Int16.result e.slots e.capacity e.ok e.memory))

pub returns-in-Int32 : goal.returns-in-Int32
unfolding out-MutableArray denote.Hole.Carrier.out
returns-in-Int32 c =
    let e = c.reserve_for-in-Int32.ensures in
    let n = c.reserve_for-in-Int32.new.self in
    rw c.in-Int32.is (subst (λ (b : PlainBuilder). Reserves c.args.additional (Int32 b) (Int32 n) c.reserve_for-in-Int32.result) c.in-Int32.builder-is (flat_reserves int32 _ n e.data_type c.args.additional c.reserve_for-in-Int32.result e.slots e.capacity e.ok e.memory))

pub returns-in-Int64 : goal.returns-in-Int64
unfolding out-MutableArray denote.Hole.Carrier.out
returns-in-Int64 c =
    let e = c.reserve_for-in-Int64.ensures in
    let n = c.reserve_for-in-Int64.new.self in
    rw c.in-Int64.is (subst (λ (b : PlainBuilder). Reserves c.args.additional (Int64 b) (Int64 n) c.reserve_for-in-Int64.result) c.in-Int64.builder-is (flat_reserves int64 _ n e.data_type c.args.additional c.reserve_for-in-Int64.result e.slots e.capacity e.ok e.memory))

pub returns-in-UInt8 : goal.returns-in-UInt8
unfolding out-MutableArray denote.Hole.Carrier.out
returns-in-UInt8 c =
    let e = c.reserve_for-in-UInt8.ensures in
    let n = c.reserve_for-in-UInt8.new.self in
    rw c.in-UInt8.is (subst (λ (b : PlainBuilder). Reserves c.args.additional (UInt8 b) (UInt8 n) c.reserve_for-in-UInt8.result) c.in-UInt8.builder-is (flat_reserves uint8 _ n e.data_type c.args.additional c.reserve_for-in-UInt8.result e.slots e.capacity e.ok e.memory))

pub returns-in-UInt16 : goal.returns-in-UInt16
unfolding out-MutableArray denote.Hole.Carrier.out
returns-in-UInt16 c =
    let e = c.reserve_for-in-UInt16.ensures in
    let n = c.reserve_for-in-UInt16.new.self in
    rw c.in-UInt16.is (subst (λ (b : PlainBuilder). Reserves c.args.additional (UInt16 b) (UInt16 n) c.reserve_for-in-UInt16.result) c.in-UInt16.builder-is (flat_reserves uint16 _ n e.data_type c.args.additional c.reserve_for-in-UInt16.result e.slots e.capacity e.ok e.memory))

pub returns-in-UInt32 : goal.returns-in-UInt32
unfolding out-MutableArray denote.Hole.Carrier.out
returns-in-UInt32 c =
    let e = c.reserve_for-in-UInt32.ensures in
    let n = c.reserve_for-in-UInt32.new.self in
    rw c.in-UInt32.is (subst (λ (b : PlainBuilder). Reserves c.args.additional (UInt32 b) (UInt32 n) c.reserve_for-in-UInt32.result) c.in-UInt32.builder-is (flat_reserves uint32 _ n e.data_type c.args.additional c.reserve_for-in-UInt32.result e.slots e.capacity e.ok e.memory))

pub returns-in-UInt64 : goal.returns-in-UInt64
unfolding out-MutableArray denote.Hole.Carrier.out
returns-in-UInt64 c =
    let e = c.reserve_for-in-UInt64.ensures in
    let n = c.reserve_for-in-UInt64.new.self in
    rw c.in-UInt64.is (subst (λ (b : PlainBuilder). Reserves c.args.additional (UInt64 b) (UInt64 n) c.reserve_for-in-UInt64.result) c.in-UInt64.builder-is (flat_reserves uint64 _ n e.data_type c.args.additional c.reserve_for-in-UInt64.result e.slots e.capacity e.ok e.memory))

pub returns-in-Int128 : goal.returns-in-Int128
unfolding out-MutableArray denote.Hole.Carrier.out
returns-in-Int128 c =
    let e = c.reserve_for-in-Int128.ensures in
    let n = c.reserve_for-in-Int128.new.self in
    rw c.in-Int128.is (subst (λ (b : PlainBuilder). Reserves c.args.additional (Int128 b) (Int128 n) c.reserve_for-in-Int128.result) c.in-Int128.builder-is (flat_reserves int128 _ n e.data_type c.args.additional c.reserve_for-in-Int128.result e.slots e.capacity e.ok e.memory))

pub returns-in-MonthDayNano : goal.returns-in-MonthDayNano
unfolding out-MutableArray denote.Hole.Carrier.out
returns-in-MonthDayNano c =
    let e = c.reserve_for-in-MonthDayNano.ensures in
    let n = c.reserve_for-in-MonthDayNano.new.self in
    rw c.in-MonthDayNano.is (subst (λ (b : PlainBuilder). Reserves c.args.additional (MonthDayNano b) (MonthDayNano n) c.reserve_for-in-MonthDayNano.result) c.in-MonthDayNano.builder-is (flat_reserves month_day_nano _ n e.data_type c.args.additional c.reserve_for-in-MonthDayNano.result e.slots e.capacity e.ok e.memory))

pub returns-in-Utf8 : goal.returns-in-Utf8
unfolding out-MutableArray denote.Hole.Carrier.out
returns-in-Utf8 c =
    let e = c.reserve_for-in-Utf8.ensures in
    let n = c.reserve_for-in-Utf8.new.self in
    rw c.in-Utf8.is (subst (λ (b : ContentBuilder). Reserves c.args.additional (Utf8 b) (Utf8 n) c.reserve_for-in-Utf8.result) c.in-Utf8.builder-is (flat_reserves utf8 _ n e.data_type c.args.additional c.reserve_for-in-Utf8.result e.slots e.capacity e.ok e.memory))

pub returns-in-LargeUtf8 : goal.returns-in-LargeUtf8
unfolding out-MutableArray denote.Hole.Carrier.out
returns-in-LargeUtf8 c =
    let e = c.reserve_for-in-LargeUtf8.ensures in
    let n = c.reserve_for-in-LargeUtf8.new.self in
    rw c.in-LargeUtf8.is (subst (λ (b : ContentBuilder). Reserves c.args.additional (LargeUtf8 b) (LargeUtf8 n) c.reserve_for-in-LargeUtf8.result) c.in-LargeUtf8.builder-is (flat_reserves large_utf8 _ n e.data_type c.args.additional c.reserve_for-in-LargeUtf8.result e.slots e.capacity e.ok e.memory))

pub returns-in-Binary : goal.returns-in-Binary
unfolding out-MutableArray denote.Hole.Carrier.out
returns-in-Binary c =
    let e = c.reserve_for-in-Binary.ensures in
    let n = c.reserve_for-in-Binary.new.self in
    rw c.in-Binary.is (subst (λ (b : ContentBuilder). Reserves c.args.additional (Binary b) (Binary n) c.reserve_for-in-Binary.result) c.in-Binary.builder-is (flat_reserves binary _ n e.data_type c.args.additional c.reserve_for-in-Binary.result e.slots e.capacity e.ok e.memory))

pub returns-in-LargeBinary : goal.returns-in-LargeBinary
unfolding out-MutableArray denote.Hole.Carrier.out
returns-in-LargeBinary c =
    let e = c.reserve_for-in-LargeBinary.ensures in
    let n = c.reserve_for-in-LargeBinary.new.self in
    rw c.in-LargeBinary.is (subst (λ (b : ContentBuilder). Reserves c.args.additional (LargeBinary b) (LargeBinary n) c.reserve_for-in-LargeBinary.result) c.in-LargeBinary.builder-is (flat_reserves large_binary _ n e.data_type c.args.additional c.reserve_for-in-LargeBinary.result e.slots e.capacity e.ok e.memory))

pub returns-in-FixedSizeBinary : goal.returns-in-FixedSizeBinary
unfolding out-MutableArray denote.Hole.Carrier.out
returns-in-FixedSizeBinary c =
    let e = c.reserve_for-in-FixedSizeBinary.ensures in
    let n = c.reserve_for-in-FixedSizeBinary.new.self in
    rw c.in-FixedSizeBinary.is (subst (λ (b : ContentBuilder). Reserves c.args.additional (FixedSizeBinary b) (FixedSizeBinary n) c.reserve_for-in-FixedSizeBinary.result) c.in-FixedSizeBinary.builder-is (flat_reserves fixed_size_binary _ n e.data_type c.args.additional c.reserve_for-in-FixedSizeBinary.result e.slots e.capacity e.ok e.memory))

pub returns-in-Dictionary : goal.returns-in-Dictionary
unfolding out-MutableArray denote.Hole.Carrier.out
returns-in-Dictionary c =
    let e = c.reserve_for-in-Dictionary.ensures in
    let n = c.reserve_for-in-Dictionary.new.self in
    rw c.in-Dictionary.is (subst (λ (b : DictionaryBuilder). Reserves c.args.additional (Dictionary b) (Dictionary n) c.reserve_for-in-Dictionary.result) c.in-Dictionary.builder-is (flat_reserves keys _ n (e.data_type, e.items) c.args.additional c.reserve_for-in-Dictionary.result e.slots e.capacity e.ok e.memory))
