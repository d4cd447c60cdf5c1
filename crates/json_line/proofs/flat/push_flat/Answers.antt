use Rattle.std.proofs.Common.{pos, negsuc, refl, rules, sym, ap, cond}
use Rattle.arrow_builders.specs.declared.array.MutableArray as builder
use Rattle.arrow_builders.proofs.NestedCalls.{told}
use Rattle.arrow_flat.specs.Builders.{PlainBuilder}
use Rattle.arrow_core.specs.declared.slot.Slot.TheVariants as slot
use Rattle.json_flat.specs.Meaning.{int64_in, moment_in, null_in, boolean_in, whole_in, text_in, bytes_in}
use Rattle.json_lend.specs.Standing.{lent_value}
use Rattle.json_line.specs.Builders.{IsGiven}
use Rattle.json_line.specs.Builders.{is_timestamp}
use Rattle.json_line.proofs.Meanings as kind
use Rattle.json_line.proofs.Meanings.{given, pushed}
use Rattle.json_line.proofs.flat.push_flat.Goals as goal

pub returns-in-Null : goal.returns-in-Null
returns-in-Null c =
    let p = c.push_as_null in
    let v = lent_value c.args.lent.now in
    let old = c.args.builder.now in
    let new = builder.Null p.new.builder in
    told (λ x y. IsGiven v x y p.result) old _ old new refl (search rules)
    (given builder.Null _ _ _ kind.nulls null_in p.result v _ c.in-Null.nulls p.new.builder old refl c.in-Null.nulls-is c.in-Null.is p.ensures.data_type (pushed p.result null_in v slot.Null _ _ refl p.ensures.ok))

pub returns-in-Boolean : goal.returns-in-Boolean
returns-in-Boolean c =
    let p = c.push_boolean in
    let v = lent_value c.args.lent.now in
    let old = c.args.builder.now in
    let new = builder.Boolean p.new.builder in
    told (λ x y. IsGiven v x y p.result) old _ old new refl (search rules)
    (given builder.Boolean _ _ _ kind.booleans boolean_in p.result v _ c.in-Boolean.booleans p.new.builder old refl c.in-Boolean.booleans-is c.in-Boolean.is p.ensures.data_type p.ensures.ok)

pub returns-in-Int8 : goal.returns-in-Int8
returns-in-Int8 c =
    let p = c.push_integer in
    let v = lent_value c.args.lent.now in
    let old = c.args.builder.now in
    let new = builder.Int8 p.new.builder in
    told (λ x y. IsGiven v x y p.result) old _ old new refl (search rules)
    (given builder.Int8 _ _ _ kind.int8 (whole_in (negsuc 127) (pos 127)) p.result v _ c.in-Int8.integers p.new.builder old refl c.in-Int8.integers-is c.in-Int8.is p.ensures.data_type p.ensures.ok)

pub returns-in-Int16 : goal.returns-in-Int16
returns-in-Int16 c =
    let p = c.push_integer-in-Int16 in
    let v = lent_value c.args.lent.now in
    let old = c.args.builder.now in
    let new = builder.Int16 p.new.builder in
    told (λ x y. IsGiven v x y p.result) old _ old new refl (search rules)
    (given builder.Int16 _ _ _ kind.int16 (whole_in (negsuc 32767) (pos 32767)) p.result v _ c.in-Int16.integers p.new.builder old refl c.in-Int16.integers-is c.in-Int16.is p.ensures.data_type p.ensures.ok)

pub returns-in-Int32 : goal.returns-in-Int32
returns-in-Int32 c =
    let p = c.push_integer-in-Int32 in
    let v = lent_value c.args.lent.now in
    let old = c.args.builder.now in
    let new = builder.Int32 p.new.builder in
    told (λ x y. IsGiven v x y p.result) old _ old new refl (search rules)
    (given builder.Int32 _ _ _ kind.int32 (whole_in (negsuc 2147483647) (pos 2147483647)) p.result v _ c.in-Int32.integers p.new.builder old refl c.in-Int32.integers-is c.in-Int32.is p.ensures.data_type p.ensures.ok)

pub returns-in-UInt8 : goal.returns-in-UInt8
returns-in-UInt8 c =
    let p = c.push_integer-in-UInt8 in
    let v = lent_value c.args.lent.now in
    let old = c.args.builder.now in
    let new = builder.UInt8 p.new.builder in
    told (λ x y. IsGiven v x y p.result) old _ old new refl (search rules)
    (given builder.UInt8 _ _ _ kind.uint8 (whole_in (pos 0) (pos 255)) p.result v _ c.in-UInt8.integers p.new.builder old refl c.in-UInt8.integers-is c.in-UInt8.is p.ensures.data_type p.ensures.ok)

pub returns-in-UInt16 : goal.returns-in-UInt16
returns-in-UInt16 c =
    let p = c.push_integer-in-UInt16 in
    let v = lent_value c.args.lent.now in
    let old = c.args.builder.now in
    let new = builder.UInt16 p.new.builder in
    told (λ x y. IsGiven v x y p.result) old _ old new refl (search rules)
    (given builder.UInt16 _ _ _ kind.uint16 (whole_in (pos 0) (pos 65535)) p.result v _ c.in-UInt16.integers p.new.builder old refl c.in-UInt16.integers-is c.in-UInt16.is p.ensures.data_type p.ensures.ok)

pub returns-in-UInt32 : goal.returns-in-UInt32
returns-in-UInt32 c =
    let p = c.push_integer-in-UInt32 in
    let v = lent_value c.args.lent.now in
    let old = c.args.builder.now in
    let new = builder.UInt32 p.new.builder in
    told (λ x y. IsGiven v x y p.result) old _ old new refl (search rules)
    (given builder.UInt32 _ _ _ kind.uint32 (whole_in (pos 0) (pos 4294967295)) p.result v _ c.in-UInt32.integers p.new.builder old refl c.in-UInt32.integers-is c.in-UInt32.is p.ensures.data_type p.ensures.ok)

pub returns-in-UInt64 : goal.returns-in-UInt64
returns-in-UInt64 c =
    let p = c.push_integer-in-UInt64 in
    let v = lent_value c.args.lent.now in
    let old = c.args.builder.now in
    let new = builder.UInt64 p.new.builder in
    told (λ x y. IsGiven v x y p.result) old _ old new refl (search rules)
    (given builder.UInt64 _ _ _ kind.uint64 (whole_in (pos 0) (pos 18446744073709551615)) p.result v _ c.in-UInt64.integers p.new.builder old refl c.in-UInt64.integers-is c.in-UInt64.is p.ensures.data_type p.ensures.ok)

pub returns-in-Int64 : goal.returns-in-Int64
returns-in-Int64 c =
    let p = c.push_int64 in
    let v = lent_value c.args.lent.now in
    let old = c.args.builder.now in
    let new = builder.Int64 p.new.builder in
    told (λ x y. IsGiven v x y p.result) old _ old new refl (search rules)
    (given builder.Int64 _ _ _ kind.int64 _ p.result v _ c.in-Int64.integers p.new.builder old (ap (λ (b : PlainBuilder). cond (is_timestamp b.data_type) moment_in int64_in) (sym c.in-Int64.integers-is)) c.in-Int64.integers-is c.in-Int64.is p.ensures.data_type p.ensures.ok)

pub returns-in-Utf8 : goal.returns-in-Utf8
returns-in-Utf8 c =
    let p = c.push_text in
    let v = lent_value c.args.lent.now in
    let old = c.args.builder.now in
    let new = builder.Utf8 p.new.builder in
    told (λ x y. IsGiven v x y p.result) old _ old new refl (search rules)
    (given builder.Utf8 _ _ _ kind.strings text_in p.result v _ c.in-Utf8.strings p.new.builder old refl c.in-Utf8.strings-is c.in-Utf8.is p.ensures.data_type p.ensures.ok)

pub returns-in-LargeUtf8 : goal.returns-in-LargeUtf8
returns-in-LargeUtf8 c =
    let p = c.push_text-in-LargeUtf8 in
    let v = lent_value c.args.lent.now in
    let old = c.args.builder.now in
    let new = builder.LargeUtf8 p.new.builder in
    told (λ x y. IsGiven v x y p.result) old _ old new refl (search rules)
    (given builder.LargeUtf8 _ _ _ kind.large_strings text_in p.result v _ c.in-LargeUtf8.strings p.new.builder old refl c.in-LargeUtf8.strings-is c.in-LargeUtf8.is p.ensures.data_type p.ensures.ok)

pub returns-in-Binary : goal.returns-in-Binary
returns-in-Binary c =
    let p = c.push_bytes in
    let v = lent_value c.args.lent.now in
    let old = c.args.builder.now in
    let new = builder.Binary p.new.builder in
    told (λ x y. IsGiven v x y p.result) old _ old new refl (search rules)
    (given builder.Binary _ _ _ kind.bytes bytes_in p.result v _ c.in-Binary.values p.new.builder old refl c.in-Binary.values-is c.in-Binary.is p.ensures.data_type p.ensures.ok)

pub returns-in-LargeBinary : goal.returns-in-LargeBinary
returns-in-LargeBinary c =
    let p = c.push_bytes-in-LargeBinary in
    let v = lent_value c.args.lent.now in
    let old = c.args.builder.now in
    let new = builder.LargeBinary p.new.builder in
    told (λ x y. IsGiven v x y p.result) old _ old new refl (search rules)
    (given builder.LargeBinary _ _ _ kind.large_bytes bytes_in p.result v _ c.in-LargeBinary.values p.new.builder old refl c.in-LargeBinary.values-is c.in-LargeBinary.is p.ensures.data_type p.ensures.ok)

pub returns-in_default : goal.returns-in_default
returns-in_default c = record { same_shape = refl; tight = tt; ok = tt }
