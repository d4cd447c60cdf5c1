use Rattle.std.proofs.Common.{refl, subst, Ok}
use Rattle.arrow_array.specs.declared.array.Array.{Array}
use Rattle.arrow_array.specs.declared.array.Array.TheVariants as array
use Rattle.arrow_flat.specs.Builders.{PlainBuilder, ContentBuilder}
use Rattle.arrow_flat.specs.Dictionaries.{DictionaryBuilder}
use Rattle.arrow_builders.specs.Calls.{Boxes}
use Rattle.arrow_builders.specs.declared.array.MutableArray.{out-MutableArray, Null, Boolean, Int8, Int16, Int32, Int64, UInt8, UInt16, UInt32, UInt64, Int128, MonthDayNano, Utf8, LargeUtf8, Binary, LargeBinary, FixedSizeBinary, Dictionary}
use Rattle.arrow_builders.proofs.FlatCalls.{flat_boxed, flat_unboxed, one_dictionary, null, boolean, int8, int16, int32, int64, uint8, uint16, uint32, uint64, int128, month_day_nano, utf8, large_utf8, binary, large_binary, fixed_size_binary, keys}
use Rattle.arrow_builders.proofs.array.MutableArray.box_flat.Goals as goal

pub returns-in_ok-as_box-in-Null : goal.returns-in_ok-as_box-in-Null
unfolding out-MutableArray denote.Hole.Carrier.out
returns-in_ok-as_box-in-Null c =
    let e = c.as_box.ensures in
    let n = c.as_box.new.self in
    let o = c.in_ok-as_box-in-Null.ensures in
    let a = array.Null c.in_ok-as_box-in-Null.field-0 in
    rw c.in-Null.is (subst (λ (b : PlainBuilder). Boxes (λ (a : Array). a) (Null b) (Null n) (Ok a)) c.in-Null.builder-is
    (flat_boxed null _ n e.data_type a o.array_type o.array_slots refl tt o.emptied refl))

pub returns-in_err-as_box-in-Null : goal.returns-in_err-as_box-in-Null
unfolding out-MutableArray denote.Hole.Carrier.out
returns-in_err-as_box-in-Null c =
    let e = c.as_box.ensures in
    let n = c.as_box.new.self in
    let r = c.from_residual in
    rw c.in-Null.is (subst (λ (b : PlainBuilder). Boxes (λ (a : Array). a) (Null b) (Null n) r.result) c.in-Null.builder-is
    (flat_unboxed null _ n e.data_type c.in_err-as_box-in-Null.field-0.0 r.result c.in_err-as_box-in-Null.ensures.memory r.ensures.1))

pub returns-in_ok-as_box-in-Boolean : goal.returns-in_ok-as_box-in-Boolean
unfolding out-MutableArray denote.Hole.Carrier.out
returns-in_ok-as_box-in-Boolean c =
    let e = c.as_box-in-Boolean.ensures in
    let n = c.as_box-in-Boolean.new.self in
    let o = c.in_ok-as_box-in-Boolean.ensures in
    let a = array.Boolean c.in_ok-as_box-in-Boolean.field-0 in
    rw c.in-Boolean.is (subst (λ (b : PlainBuilder). Boxes (λ (a : Array). a) (Boolean b) (Boolean n) (Ok a)) c.in-Boolean.builder-is
    (flat_boxed boolean _ n e.data_type a o.array_type o.array_slots refl tt o.emptied refl))

pub returns-in_err-as_box-in-Boolean : goal.returns-in_err-as_box-in-Boolean
unfolding out-MutableArray denote.Hole.Carrier.out
returns-in_err-as_box-in-Boolean c =
    let e = c.as_box-in-Boolean.ensures in
    let n = c.as_box-in-Boolean.new.self in
    let r = c.from_residual-in_err-as_box-in-Boolean in
    rw c.in-Boolean.is (subst (λ (b : PlainBuilder). Boxes (λ (a : Array). a) (Boolean b) (Boolean n) r.result) c.in-Boolean.builder-is
    (flat_unboxed boolean _ n e.data_type c.in_err-as_box-in-Boolean.field-0.0 r.result c.in_err-as_box-in-Boolean.ensures.memory r.ensures.1))

pub returns-in_ok-as_box-in-Int8 : goal.returns-in_ok-as_box-in-Int8
unfolding out-MutableArray denote.Hole.Carrier.out
returns-in_ok-as_box-in-Int8 c =
    let e = c.as_box-in-Int8.ensures in
    let n = c.as_box-in-Int8.new.self in
    let o = c.in_ok-as_box-in-Int8.ensures in
    let a = array.Int8 c.in_ok-as_box-in-Int8.field-0 in
    rw c.in-Int8.is (subst (λ (b : PlainBuilder). Boxes (λ (a : Array). a) (Int8 b) (Int8 n) (Ok a)) c.in-Int8.builder-is
    (flat_boxed int8 _ n e.data_type a o.array_type o.array_slots refl tt o.emptied refl))

pub returns-in_err-as_box-in-Int8 : goal.returns-in_err-as_box-in-Int8
unfolding out-MutableArray denote.Hole.Carrier.out
returns-in_err-as_box-in-Int8 c =
    let e = c.as_box-in-Int8.ensures in
    let n = c.as_box-in-Int8.new.self in
    let r = c.from_residual-in_err-as_box-in-Int8 in
    rw c.in-Int8.is (subst (λ (b : PlainBuilder). Boxes (λ (a : Array). a) (Int8 b) (Int8 n) r.result) c.in-Int8.builder-is
    (flat_unboxed int8 _ n e.data_type c.in_err-as_box-in-Int8.field-0.0 r.result c.in_err-as_box-in-Int8.ensures.memory r.ensures.1))

pub returns-in_ok-as_box-in-Int16 : goal.returns-in_ok-as_box-in-Int16
unfolding out-MutableArray denote.Hole.Carrier.out
returns-in_ok-as_box-in-Int16 c =
    let e = c.as_box-in-Int16.ensures in
    let n = c.as_box-in-Int16.new.self in
    let o = c.in_ok-as_box-in-Int16.ensures in
    let a = array.Int16 c.in_ok-as_box-in-Int16.field-0 in
    rw c.in-Int16.is (subst (λ (b : PlainBuilder). Boxes (λ (a : Array). a) (Int16 b) (Int16 n) (Ok a)) c.in-Int16.builder-is
    (flat_boxed int16 _ n e.data_type a o.array_type o.array_slots refl tt o.emptied refl))

pub returns-in_err-as_box-in-Int16 : goal.returns-in_err-as_box-in-Int16
unfolding out-MutableArray denote.Hole.Carrier.out
returns-in_err-as_box-in-Int16 c =
    let e = c.as_box-in-Int16.ensures in
    let n = c.as_box-in-Int16.new.self in
    let r = c.from_residual-in_err-as_box-in-Int16 in
    rw c.in-Int16.is (subst (λ (b : PlainBuilder). Boxes (λ (a : Array). a) (Int16 b) (Int16 n) r.result) c.in-Int16.builder-is
    (flat_unboxed int16 _ n e.data_type c.in_err-as_box-in-Int16.field-0.0 r.result c.in_err-as_box-in-Int16.ensures.memory r.ensures.1))

pub returns-in_ok-as_box-in-Int32 : goal.returns-in_ok-as_box-in-Int32
unfolding out-MutableArray denote.Hole.Carrier.out
returns-in_ok-as_box-in-Int32 c =
    let e = c.as_box-in-Int32.ensures in
    let n = c.as_box-in-Int32.new.self in
    let o = c.in_ok-as_box-in-Int32.ensures in
    let a = array.Int32 c.in_ok-as_box-in-Int32.field-0 in
    rw c.in-Int32.is (subst (λ (b : PlainBuilder). Boxes (λ (a : Array). a) (Int32 b) (Int32 n) (Ok a)) c.in-Int32.builder-is
    (flat_boxed int32 _ n e.data_type a o.array_type o.array_slots refl tt o.emptied refl))

pub returns-in_err-as_box-in-Int32 : goal.returns-in_err-as_box-in-Int32
unfolding out-MutableArray denote.Hole.Carrier.out
returns-in_err-as_box-in-Int32 c =
    let e = c.as_box-in-Int32.ensures in
    let n = c.as_box-in-Int32.new.self in
    let r = c.from_residual-in_err-as_box-in-Int32 in
    rw c.in-Int32.is (subst (λ (b : PlainBuilder). Boxes (λ (a : Array). a) (Int32 b) (Int32 n) r.result) c.in-Int32.builder-is
    (flat_unboxed int32 _ n e.data_type c.in_err-as_box-in-Int32.field-0.0 r.result c.in_err-as_box-in-Int32.ensures.memory r.ensures.1))

pub returns-in_ok-as_box-in-Int64 : goal.returns-in_ok-as_box-in-Int64
unfolding out-MutableArray denote.Hole.Carrier.out
returns-in_ok-as_box-in-Int64 c =
    let e = c.as_box-in-Int64.ensures in
    let n = c.as_box-in-Int64.new.self in
    let o = c.in_ok-as_box-in-Int64.ensures in
    let a = array.Int64 c.in_ok-as_box-in-Int64.field-0 in
    rw c.in-Int64.is (subst (λ (b : PlainBuilder). Boxes (λ (a : Array). a) (Int64 b) (Int64 n) (Ok a)) c.in-Int64.builder-is
    (flat_boxed int64 _ n e.data_type a o.array_type o.array_slots refl tt o.emptied refl))

pub returns-in_err-as_box-in-Int64 : goal.returns-in_err-as_box-in-Int64
unfolding out-MutableArray denote.Hole.Carrier.out
returns-in_err-as_box-in-Int64 c =
    let e = c.as_box-in-Int64.ensures in
    let n = c.as_box-in-Int64.new.self in
    let r = c.from_residual-in_err-as_box-in-Int64 in
    rw c.in-Int64.is (subst (λ (b : PlainBuilder). Boxes (λ (a : Array). a) (Int64 b) (Int64 n) r.result) c.in-Int64.builder-is
    (flat_unboxed int64 _ n e.data_type c.in_err-as_box-in-Int64.field-0.0 r.result c.in_err-as_box-in-Int64.ensures.memory r.ensures.1))

pub returns-in_ok-as_box-in-UInt8 : goal.returns-in_ok-as_box-in-UInt8
unfolding out-MutableArray denote.Hole.Carrier.out
returns-in_ok-as_box-in-UInt8 c =
    let e = c.as_box-in-UInt8.ensures in
    let n = c.as_box-in-UInt8.new.self in
    let o = c.in_ok-as_box-in-UInt8.ensures in
    let a = array.UInt8 c.in_ok-as_box-in-UInt8.field-0 in
    rw c.in-UInt8.is (subst (λ (b : PlainBuilder). Boxes (λ (a : Array). a) (UInt8 b) (UInt8 n) (Ok a)) c.in-UInt8.builder-is
    (flat_boxed uint8 _ n e.data_type a o.array_type o.array_slots refl tt o.emptied refl))

pub returns-in_err-as_box-in-UInt8 : goal.returns-in_err-as_box-in-UInt8
unfolding out-MutableArray denote.Hole.Carrier.out
returns-in_err-as_box-in-UInt8 c =
    let e = c.as_box-in-UInt8.ensures in
    let n = c.as_box-in-UInt8.new.self in
    let r = c.from_residual-in_err-as_box-in-UInt8 in
    rw c.in-UInt8.is (subst (λ (b : PlainBuilder). Boxes (λ (a : Array). a) (UInt8 b) (UInt8 n) r.result) c.in-UInt8.builder-is
    (flat_unboxed uint8 _ n e.data_type c.in_err-as_box-in-UInt8.field-0.0 r.result c.in_err-as_box-in-UInt8.ensures.memory r.ensures.1))

pub returns-in_ok-as_box-in-UInt16 : goal.returns-in_ok-as_box-in-UInt16
unfolding out-MutableArray denote.Hole.Carrier.out
returns-in_ok-as_box-in-UInt16 c =
    let e = c.as_box-in-UInt16.ensures in
    let n = c.as_box-in-UInt16.new.self in
    let o = c.in_ok-as_box-in-UInt16.ensures in
    let a = array.UInt16 c.in_ok-as_box-in-UInt16.field-0 in
    rw c.in-UInt16.is (subst (λ (b : PlainBuilder). Boxes (λ (a : Array). a) (UInt16 b) (UInt16 n) (Ok a)) c.in-UInt16.builder-is
    (flat_boxed uint16 _ n e.data_type a o.array_type o.array_slots refl tt o.emptied refl))

pub returns-in_err-as_box-in-UInt16 : goal.returns-in_err-as_box-in-UInt16
unfolding out-MutableArray denote.Hole.Carrier.out
returns-in_err-as_box-in-UInt16 c =
    let e = c.as_box-in-UInt16.ensures in
    let n = c.as_box-in-UInt16.new.self in
    let r = c.from_residual-in_err-as_box-in-UInt16 in
    rw c.in-UInt16.is (subst (λ (b : PlainBuilder). Boxes (λ (a : Array). a) (UInt16 b) (UInt16 n) r.result) c.in-UInt16.builder-is
    (flat_unboxed uint16 _ n e.data_type c.in_err-as_box-in-UInt16.field-0.0 r.result c.in_err-as_box-in-UInt16.ensures.memory r.ensures.1))

pub returns-in_ok-as_box-in-UInt32 : goal.returns-in_ok-as_box-in-UInt32
unfolding out-MutableArray denote.Hole.Carrier.out
returns-in_ok-as_box-in-UInt32 c =
    let e = c.as_box-in-UInt32.ensures in
    let n = c.as_box-in-UInt32.new.self in
    let o = c.in_ok-as_box-in-UInt32.ensures in
    let a = array.UInt32 c.in_ok-as_box-in-UInt32.field-0 in
    rw c.in-UInt32.is (subst (λ (b : PlainBuilder). Boxes (λ (a : Array). a) (UInt32 b) (UInt32 n) (Ok a)) c.in-UInt32.builder-is
    (flat_boxed uint32 _ n e.data_type a o.array_type o.array_slots refl tt o.emptied refl))

pub returns-in_err-as_box-in-UInt32 : goal.returns-in_err-as_box-in-UInt32
unfolding out-MutableArray denote.Hole.Carrier.out
returns-in_err-as_box-in-UInt32 c =
    let e = c.as_box-in-UInt32.ensures in
    let n = c.as_box-in-UInt32.new.self in
    let r = c.from_residual-in_err-as_box-in-UInt32 in
    rw c.in-UInt32.is (subst (λ (b : PlainBuilder). Boxes (λ (a : Array). a) (UInt32 b) (UInt32 n) r.result) c.in-UInt32.builder-is
    (flat_unboxed uint32 _ n e.data_type c.in_err-as_box-in-UInt32.field-0.0 r.result c.in_err-as_box-in-UInt32.ensures.memory r.ensures.1))

pub returns-in_ok-as_box-in-UInt64 : goal.returns-in_ok-as_box-in-UInt64
unfolding out-MutableArray denote.Hole.Carrier.out
returns-in_ok-as_box-in-UInt64 c =
    let e = c.as_box-in-UInt64.ensures in
    let n = c.as_box-in-UInt64.new.self in
    let o = c.in_ok-as_box-in-UInt64.ensures in
    let a = array.UInt64 c.in_ok-as_box-in-UInt64.field-0 in
    rw c.in-UInt64.is (subst (λ (b : PlainBuilder). Boxes (λ (a : Array). a) (UInt64 b) (UInt64 n) (Ok a)) c.in-UInt64.builder-is
    (flat_boxed uint64 _ n e.data_type a o.array_type o.array_slots refl tt o.emptied refl))

pub returns-in_err-as_box-in-UInt64 : goal.returns-in_err-as_box-in-UInt64
unfolding out-MutableArray denote.Hole.Carrier.out
returns-in_err-as_box-in-UInt64 c =
    let e = c.as_box-in-UInt64.ensures in
    let n = c.as_box-in-UInt64.new.self in
    let r = c.from_residual-in_err-as_box-in-UInt64 in
    rw c.in-UInt64.is (subst (λ (b : PlainBuilder). Boxes (λ (a : Array). a) (UInt64 b) (UInt64 n) r.result) c.in-UInt64.builder-is
    (flat_unboxed uint64 _ n e.data_type c.in_err-as_box-in-UInt64.field-0.0 r.result c.in_err-as_box-in-UInt64.ensures.memory r.ensures.1))

pub returns-in_ok-as_box-in-Int128 : goal.returns-in_ok-as_box-in-Int128
unfolding out-MutableArray denote.Hole.Carrier.out
returns-in_ok-as_box-in-Int128 c =
    let e = c.as_box-in-Int128.ensures in
    let n = c.as_box-in-Int128.new.self in
    let o = c.in_ok-as_box-in-Int128.ensures in
    let a = array.Int128 c.in_ok-as_box-in-Int128.field-0 in
    rw c.in-Int128.is (subst (λ (b : PlainBuilder). Boxes (λ (a : Array). a) (Int128 b) (Int128 n) (Ok a)) c.in-Int128.builder-is
    (flat_boxed int128 _ n e.data_type a o.array_type o.array_slots refl tt o.emptied refl))

pub returns-in_err-as_box-in-Int128 : goal.returns-in_err-as_box-in-Int128
unfolding out-MutableArray denote.Hole.Carrier.out
returns-in_err-as_box-in-Int128 c =
    let e = c.as_box-in-Int128.ensures in
    let n = c.as_box-in-Int128.new.self in
    let r = c.from_residual-in_err-as_box-in-Int128 in
    rw c.in-Int128.is (subst (λ (b : PlainBuilder). Boxes (λ (a : Array). a) (Int128 b) (Int128 n) r.result) c.in-Int128.builder-is
    (flat_unboxed int128 _ n e.data_type c.in_err-as_box-in-Int128.field-0.0 r.result c.in_err-as_box-in-Int128.ensures.memory r.ensures.1))

pub returns-in_ok-as_box-in-MonthDayNano : goal.returns-in_ok-as_box-in-MonthDayNano
unfolding out-MutableArray denote.Hole.Carrier.out
returns-in_ok-as_box-in-MonthDayNano c =
    let e = c.as_box-in-MonthDayNano.ensures in
    let n = c.as_box-in-MonthDayNano.new.self in
    let o = c.in_ok-as_box-in-MonthDayNano.ensures in
    let a = array.MonthDayNano c.in_ok-as_box-in-MonthDayNano.field-0 in
    rw c.in-MonthDayNano.is (subst (λ (b : PlainBuilder). Boxes (λ (a : Array). a) (MonthDayNano b) (MonthDayNano n) (Ok a)) c.in-MonthDayNano.builder-is
    (flat_boxed month_day_nano _ n e.data_type a o.array_type o.array_slots refl tt o.emptied refl))

pub returns-in_err-as_box-in-MonthDayNano : goal.returns-in_err-as_box-in-MonthDayNano
unfolding out-MutableArray denote.Hole.Carrier.out
returns-in_err-as_box-in-MonthDayNano c =
    let e = c.as_box-in-MonthDayNano.ensures in
    let n = c.as_box-in-MonthDayNano.new.self in
    let r = c.from_residual-in_err-as_box-in-MonthDayNano in
    rw c.in-MonthDayNano.is (subst (λ (b : PlainBuilder). Boxes (λ (a : Array). a) (MonthDayNano b) (MonthDayNano n) r.result) c.in-MonthDayNano.builder-is
    (flat_unboxed month_day_nano _ n e.data_type c.in_err-as_box-in-MonthDayNano.field-0.0 r.result c.in_err-as_box-in-MonthDayNano.ensures.memory r.ensures.1))

pub returns-in_ok-as_box-in-Utf8 : goal.returns-in_ok-as_box-in-Utf8
unfolding out-MutableArray denote.Hole.Carrier.out
returns-in_ok-as_box-in-Utf8 c =
    let e = c.as_box-in-Utf8.ensures in
    let n = c.as_box-in-Utf8.new.self in
    let o = c.in_ok-as_box-in-Utf8.ensures in
    let a = array.Utf8 c.in_ok-as_box-in-Utf8.field-0 in
    rw c.in-Utf8.is (subst (λ (b : ContentBuilder). Boxes (λ (a : Array). a) (Utf8 b) (Utf8 n) (Ok a)) c.in-Utf8.builder-is
    (flat_boxed utf8 _ n e.data_type a o.array_type o.array_slots refl o.normalized o.emptied o.no_bytes))

pub returns-in_err-as_box-in-Utf8 : goal.returns-in_err-as_box-in-Utf8
unfolding out-MutableArray denote.Hole.Carrier.out
returns-in_err-as_box-in-Utf8 c =
    let e = c.as_box-in-Utf8.ensures in
    let n = c.as_box-in-Utf8.new.self in
    let r = c.from_residual-in_err-as_box-in-Utf8 in
    rw c.in-Utf8.is (subst (λ (b : ContentBuilder). Boxes (λ (a : Array). a) (Utf8 b) (Utf8 n) r.result) c.in-Utf8.builder-is
    (flat_unboxed utf8 _ n e.data_type c.in_err-as_box-in-Utf8.field-0.0 r.result c.in_err-as_box-in-Utf8.ensures.memory r.ensures.1))

pub returns-in_ok-as_box-in-LargeUtf8 : goal.returns-in_ok-as_box-in-LargeUtf8
unfolding out-MutableArray denote.Hole.Carrier.out
returns-in_ok-as_box-in-LargeUtf8 c =
    let e = c.as_box-in-LargeUtf8.ensures in
    let n = c.as_box-in-LargeUtf8.new.self in
    let o = c.in_ok-as_box-in-LargeUtf8.ensures in
    let a = array.LargeUtf8 c.in_ok-as_box-in-LargeUtf8.field-0 in
    rw c.in-LargeUtf8.is (subst (λ (b : ContentBuilder). Boxes (λ (a : Array). a) (LargeUtf8 b) (LargeUtf8 n) (Ok a)) c.in-LargeUtf8.builder-is
    (flat_boxed large_utf8 _ n e.data_type a o.array_type o.array_slots refl o.normalized o.emptied o.no_bytes))

pub returns-in_err-as_box-in-LargeUtf8 : goal.returns-in_err-as_box-in-LargeUtf8
unfolding out-MutableArray denote.Hole.Carrier.out
returns-in_err-as_box-in-LargeUtf8 c =
    let e = c.as_box-in-LargeUtf8.ensures in
    let n = c.as_box-in-LargeUtf8.new.self in
    let r = c.from_residual-in_err-as_box-in-LargeUtf8 in
    rw c.in-LargeUtf8.is (subst (λ (b : ContentBuilder). Boxes (λ (a : Array). a) (LargeUtf8 b) (LargeUtf8 n) r.result) c.in-LargeUtf8.builder-is
    (flat_unboxed large_utf8 _ n e.data_type c.in_err-as_box-in-LargeUtf8.field-0.0 r.result c.in_err-as_box-in-LargeUtf8.ensures.memory r.ensures.1))

pub returns-in_ok-as_box-in-Binary : goal.returns-in_ok-as_box-in-Binary
unfolding out-MutableArray denote.Hole.Carrier.out
returns-in_ok-as_box-in-Binary c =
    let e = c.as_box-in-Binary.ensures in
    let n = c.as_box-in-Binary.new.self in
    let o = c.in_ok-as_box-in-Binary.ensures in
    let a = array.Binary c.in_ok-as_box-in-Binary.field-0 in
    rw c.in-Binary.is (subst (λ (b : ContentBuilder). Boxes (λ (a : Array). a) (Binary b) (Binary n) (Ok a)) c.in-Binary.builder-is
    (flat_boxed binary _ n e.data_type a o.array_type o.array_slots refl o.normalized o.emptied o.no_bytes))

pub returns-in_err-as_box-in-Binary : goal.returns-in_err-as_box-in-Binary
unfolding out-MutableArray denote.Hole.Carrier.out
returns-in_err-as_box-in-Binary c =
    let e = c.as_box-in-Binary.ensures in
    let n = c.as_box-in-Binary.new.self in
    let r = c.from_residual-in_err-as_box-in-Binary in
    rw c.in-Binary.is (subst (λ (b : ContentBuilder). Boxes (λ (a : Array). a) (Binary b) (Binary n) r.result) c.in-Binary.builder-is
    (flat_unboxed binary _ n e.data_type c.in_err-as_box-in-Binary.field-0.0 r.result c.in_err-as_box-in-Binary.ensures.memory r.ensures.1))

pub returns-in_ok-as_box-in-LargeBinary : goal.returns-in_ok-as_box-in-LargeBinary
unfolding out-MutableArray denote.Hole.Carrier.out
returns-in_ok-as_box-in-LargeBinary c =
    let e = c.as_box-in-LargeBinary.ensures in
    let n = c.as_box-in-LargeBinary.new.self in
    let o = c.in_ok-as_box-in-LargeBinary.ensures in
    let a = array.LargeBinary c.in_ok-as_box-in-LargeBinary.field-0 in
    rw c.in-LargeBinary.is (subst (λ (b : ContentBuilder). Boxes (λ (a : Array). a) (LargeBinary b) (LargeBinary n) (Ok a)) c.in-LargeBinary.builder-is
    (flat_boxed large_binary _ n e.data_type a o.array_type o.array_slots refl o.normalized o.emptied o.no_bytes))

pub returns-in_err-as_box-in-LargeBinary : goal.returns-in_err-as_box-in-LargeBinary
unfolding out-MutableArray denote.Hole.Carrier.out
returns-in_err-as_box-in-LargeBinary c =
    let e = c.as_box-in-LargeBinary.ensures in
    let n = c.as_box-in-LargeBinary.new.self in
    let r = c.from_residual-in_err-as_box-in-LargeBinary in
    rw c.in-LargeBinary.is (subst (λ (b : ContentBuilder). Boxes (λ (a : Array). a) (LargeBinary b) (LargeBinary n) r.result) c.in-LargeBinary.builder-is
    (flat_unboxed large_binary _ n e.data_type c.in_err-as_box-in-LargeBinary.field-0.0 r.result c.in_err-as_box-in-LargeBinary.ensures.memory r.ensures.1))

pub returns-in_ok-as_box-in-FixedSizeBinary : goal.returns-in_ok-as_box-in-FixedSizeBinary
unfolding out-MutableArray denote.Hole.Carrier.out
returns-in_ok-as_box-in-FixedSizeBinary c =
    let e = c.as_box-in-FixedSizeBinary.ensures in
    let n = c.as_box-in-FixedSizeBinary.new.self in
    let o = c.in_ok-as_box-in-FixedSizeBinary.ensures in
    let a = array.FixedSizeBinary c.in_ok-as_box-in-FixedSizeBinary.field-0 in
    rw c.in-FixedSizeBinary.is (subst (λ (b : ContentBuilder). Boxes (λ (a : Array). a) (FixedSizeBinary b) (FixedSizeBinary n) (Ok a)) c.in-FixedSizeBinary.builder-is
    (flat_boxed fixed_size_binary _ n e.data_type a o.array_type o.array_slots refl tt o.emptied o.no_bytes))

pub returns-in_err-as_box-in-FixedSizeBinary : goal.returns-in_err-as_box-in-FixedSizeBinary
unfolding out-MutableArray denote.Hole.Carrier.out
returns-in_err-as_box-in-FixedSizeBinary c =
    let e = c.as_box-in-FixedSizeBinary.ensures in
    let n = c.as_box-in-FixedSizeBinary.new.self in
    let r = c.from_residual-in_err-as_box-in-FixedSizeBinary in
    rw c.in-FixedSizeBinary.is (subst (λ (b : ContentBuilder). Boxes (λ (a : Array). a) (FixedSizeBinary b) (FixedSizeBinary n) r.result) c.in-FixedSizeBinary.builder-is
    (flat_unboxed fixed_size_binary _ n e.data_type c.in_err-as_box-in-FixedSizeBinary.field-0.0 r.result c.in_err-as_box-in-FixedSizeBinary.ensures.memory r.ensures.1))

pub returns-in_ok-as_box-in-Dictionary : goal.returns-in_ok-as_box-in-Dictionary
unfolding out-MutableArray denote.Hole.Carrier.out
returns-in_ok-as_box-in-Dictionary c =
    let e = c.as_box-in-Dictionary.ensures in
    let n = c.as_box-in-Dictionary.new.self in
    let o = c.in_ok-as_box-in-Dictionary.ensures in
    let a = array.Dictionary c.in_ok-as_box-in-Dictionary.field-0 in
    rw c.in-Dictionary.is (subst (λ (b : DictionaryBuilder). Boxes (λ (a : Array). a) (Dictionary b) (Dictionary n) (Ok a)) c.in-Dictionary.builder-is
    (flat_boxed keys _ n (e.data_type, e.items) a o.array_type o.array_slots (one_dictionary _ _ _ _ o.array_slots o.array_items) tt o.emptied refl))

pub returns-in_err-as_box-in-Dictionary : goal.returns-in_err-as_box-in-Dictionary
unfolding out-MutableArray denote.Hole.Carrier.out
returns-in_err-as_box-in-Dictionary c =
    let e = c.as_box-in-Dictionary.ensures in
    let n = c.as_box-in-Dictionary.new.self in
    let r = c.from_residual-in_err-as_box-in-Dictionary in
    rw c.in-Dictionary.is (subst (λ (b : DictionaryBuilder). Boxes (λ (a : Array). a) (Dictionary b) (Dictionary n) r.result) c.in-Dictionary.builder-is
    (flat_unboxed keys _ n (e.data_type, e.items) c.in_err-as_box-in-Dictionary.field-0.0 r.result c.in_err-as_box-in-Dictionary.ensures.memory r.ensures.1))
