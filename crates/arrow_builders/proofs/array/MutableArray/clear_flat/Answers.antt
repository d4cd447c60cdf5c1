use Rattle.std.proofs.Common.{subst}
use Rattle.arrow_flat.specs.Builders.{PlainBuilder, ContentBuilder}
use Rattle.arrow_flat.specs.Dictionaries.{DictionaryBuilder}
use Rattle.arrow_builders.specs.Calls.{Clears}
use Rattle.arrow_builders.specs.declared.array.MutableArray.{out-MutableArray, Null, Boolean, Int8, Int16, Int32, Int64, UInt8, UInt16, UInt32, UInt64, Int128, MonthDayNano, Utf8, LargeUtf8, Binary, LargeBinary, FixedSizeBinary, Dictionary}
use Rattle.arrow_builders.proofs.FlatCalls.{flat_clears, null, boolean, int8, int16, int32, int64, uint8, uint16, uint32, uint64, int128, month_day_nano, utf8, large_utf8, binary, large_binary, fixed_size_binary, keys}
use Rattle.arrow_builders.proofs.array.MutableArray.clear_flat.Goals as goal

pub returns-in-Null : goal.returns-in-Null
unfolding out-MutableArray denote.Hole.Carrier.out
returns-in-Null c =
    let e = c.clear.ensures in
    let n = c.clear.new.self in
    rw c.in-Null.is (subst (λ (b : PlainBuilder). Clears (Null b) (Null n)) c.in-Null.builder-is (flat_clears null _ n e.data_type e.capacity))

pub returns-in-Boolean : goal.returns-in-Boolean
unfolding out-MutableArray denote.Hole.Carrier.out
returns-in-Boolean c =
    let e = c.clear-in-Boolean.ensures in
    let n = c.clear-in-Boolean.new.self in
    rw c.in-Boolean.is (subst (λ (b : PlainBuilder). Clears (Boolean b) (Boolean n)) c.in-Boolean.builder-is (flat_clears boolean _ n e.data_type e.capacity))

pub returns-in-Int8 : goal.returns-in-Int8
unfolding out-MutableArray denote.Hole.Carrier.out
returns-in-Int8 c =
    let e = c.clear-in-Int8.ensures in
    let n = c.clear-in-Int8.new.self in
    rw c.in-Int8.is (subst (λ (b : PlainBuilder). Clears (Int8 b) (Int8 n)) c.in-Int8.builder-is (flat_clears int8 _ n e.data_type e.capacity))

pub returns-in-Int16 : goal.returns-in-Int16
unfolding out-MutableArray denote.Hole.Carrier.out
returns-in-Int16 c =
    let e = c.clear-in-Int16.ensures in
    let n = c.clear-in-Int16.new.self in
    rw c.in-Int16.is (subst (λ (b : PlainBuilder). Clears (Int16 b) (Int16 n)) c.in-Int16.builder-is (flat_clears int16 _ n e.data_type e.capacity))

pub returns-in-Int32 : goal.returns-in-Int32
unfolding out-MutableArray denote.Hole.Carrier.out
returns-in-Int32 c =
    let e = c.clear-in-Int32.ensures in
    let n = c.clear-in-Int32.new.self in
    rw c.in-Int32.is (subst (λ (b : PlainBuilder). Clears (Int32 b) (Int32 n)) c.in-Int32.builder-is (flat_clears int32 _ n e.data_type e.capacity))

pub returns-in-Int64 : goal.returns-in-Int64
unfolding out-MutableArray denote.Hole.Carrier.out
returns-in-Int64 c =
    let e = c.clear-in-Int64.ensures in
    let n = c.clear-in-Int64.new.self in
    rw c.in-Int64.is (subst (λ (b : PlainBuilder). Clears (Int64 b) (Int64 n)) c.in-Int64.builder-is (flat_clears int64 _ n e.data_type e.capacity))

pub returns-in-UInt8 : goal.returns-in-UInt8
unfolding out-MutableArray denote.Hole.Carrier.out
returns-in-UInt8 c =
    let e = c.clear-in-UInt8.ensures in
    let n = c.clear-in-UInt8.new.self in
    rw c.in-UInt8.is (subst (λ (b : PlainBuilder). Clears (UInt8 b) (UInt8 n)) c.in-UInt8.builder-is (flat_clears uint8 _ n e.data_type e.capacity))

pub returns-in-UInt16 : goal.returns-in-UInt16
unfolding out-MutableArray denote.Hole.Carrier.out
returns-in-UInt16 c =
    let e = c.clear-in-UInt16.ensures in
    let n = c.clear-in-UInt16.new.self in
    rw c.in-UInt16.is (subst (λ (b : PlainBuilder). Clears (UInt16 b) (UInt16 n)) c.in-UInt16.builder-is (flat_clears uint16 _ n e.data_type e.capacity))

pub returns-in-UInt32 : goal.returns-in-UInt32
unfolding out-MutableArray denote.Hole.Carrier.out
returns-in-UInt32 c =
    let e = c.clear-in-UInt32.ensures in
    let n = c.clear-in-UInt32.new.self in
    rw c.in-UInt32.is (subst (λ (b : PlainBuilder). Clears (UInt32 b) (UInt32 n)) c.in-UInt32.builder-is (flat_clears uint32 _ n e.data_type e.capacity))

pub returns-in-UInt64 : goal.returns-in-UInt64
unfolding out-MutableArray denote.Hole.Carrier.out
returns-in-UInt64 c =
    let e = c.clear-in-UInt64.ensures in
    let n = c.clear-in-UInt64.new.self in
    rw c.in-UInt64.is (subst (λ (b : PlainBuilder). Clears (UInt64 b) (UInt64 n)) c.in-UInt64.builder-is (flat_clears uint64 _ n e.data_type e.capacity))

pub returns-in-Int128 : goal.returns-in-Int128
unfolding out-MutableArray denote.Hole.Carrier.out
returns-in-Int128 c =
    let e = c.clear-in-Int128.ensures in
    let n = c.clear-in-Int128.new.self in
    rw c.in-Int128.is (subst (λ (b : PlainBuilder). Clears (Int128 b) (Int128 n)) c.in-Int128.builder-is (flat_clears int128 _ n e.data_type e.capacity))

pub returns-in-MonthDayNano : goal.returns-in-MonthDayNano
unfolding out-MutableArray denote.Hole.Carrier.out
returns-in-MonthDayNano c =
    let e = c.clear-in-MonthDayNano.ensures in
    let n = c.clear-in-MonthDayNano.new.self in
    rw c.in-MonthDayNano.is (subst (λ (b : PlainBuilder). Clears (MonthDayNano b) (MonthDayNano n)) c.in-MonthDayNano.builder-is (flat_clears month_day_nano _ n e.data_type e.capacity))

pub returns-in-Utf8 : goal.returns-in-Utf8
unfolding out-MutableArray denote.Hole.Carrier.out
returns-in-Utf8 c =
    let e = c.clear-in-Utf8.ensures in
    let n = c.clear-in-Utf8.new.self in
    rw c.in-Utf8.is (subst (λ (b : ContentBuilder). Clears (Utf8 b) (Utf8 n)) c.in-Utf8.builder-is (flat_clears utf8 _ n e.data_type e.capacity))

pub returns-in-LargeUtf8 : goal.returns-in-LargeUtf8
unfolding out-MutableArray denote.Hole.Carrier.out
returns-in-LargeUtf8 c =
    let e = c.clear-in-LargeUtf8.ensures in
    let n = c.clear-in-LargeUtf8.new.self in
    rw c.in-LargeUtf8.is (subst (λ (b : ContentBuilder). Clears (LargeUtf8 b) (LargeUtf8 n)) c.in-LargeUtf8.builder-is (flat_clears large_utf8 _ n e.data_type e.capacity))

pub returns-in-Binary : goal.returns-in-Binary
unfolding out-MutableArray denote.Hole.Carrier.out
returns-in-Binary c =
    let e = c.clear-in-Binary.ensures in
    let n = c.clear-in-Binary.new.self in
    rw c.in-Binary.is (subst (λ (b : ContentBuilder). Clears (Binary b) (Binary n)) c.in-Binary.builder-is (flat_clears binary _ n e.data_type e.capacity))

pub returns-in-LargeBinary : goal.returns-in-LargeBinary
unfolding out-MutableArray denote.Hole.Carrier.out
returns-in-LargeBinary c =
    let e = c.clear-in-LargeBinary.ensures in
    let n = c.clear-in-LargeBinary.new.self in
    rw c.in-LargeBinary.is (subst (λ (b : ContentBuilder). Clears (LargeBinary b) (LargeBinary n)) c.in-LargeBinary.builder-is (flat_clears large_binary _ n e.data_type e.capacity))

pub returns-in-FixedSizeBinary : goal.returns-in-FixedSizeBinary
unfolding out-MutableArray denote.Hole.Carrier.out
returns-in-FixedSizeBinary c =
    let e = c.clear-in-FixedSizeBinary.ensures in
    let n = c.clear-in-FixedSizeBinary.new.self in
    rw c.in-FixedSizeBinary.is (subst (λ (b : ContentBuilder). Clears (FixedSizeBinary b) (FixedSizeBinary n)) c.in-FixedSizeBinary.builder-is (flat_clears fixed_size_binary _ n e.data_type e.capacity))

pub returns-in-Dictionary : goal.returns-in-Dictionary
unfolding out-MutableArray denote.Hole.Carrier.out
returns-in-Dictionary c =
    let e = c.clear-in-Dictionary.ensures in
    let n = c.clear-in-Dictionary.new.self in
    rw c.in-Dictionary.is (subst (λ (b : DictionaryBuilder). Clears (Dictionary b) (Dictionary n)) c.in-Dictionary.builder-is (flat_clears keys _ n (e.data_type, e.items) e.capacity))
