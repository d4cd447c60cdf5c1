use Rattle.std.proofs.Common.{length, false, true, sym, ap, subst, rules}
use Rattle.arrow_builders.specs.Builders.{ContentBuilder, content_node}
use Rattle.arrow_builders.specs.MutableArrays.{builder_kind}
use Rattle.avro_flat.specs.Growing.{OffsetsReach}
use Rattle.avro_flat.proofs.Logical.{bytes_binary}
use Rattle.avro_decode.proofs.Logical.{decimal_read}
use Rattle.avro_decode.proofs.flat.decode_flat.Goals as goal

pub decode_string-requires : goal.decode_string-requires
decode_string-requires g c =
    let r = rw (c.in-String.is, c.in-Utf8.is) at c.requires.offsets in
    record { offsets = subst (λ (b : ContentBuilder). OffsetsReach false (length (g.C.ByteReader.rest c.args.cursor.now)) (content_node b)) (sym c.in-Utf8.values-is) r.0.1 }

pub decode_string-requires-in-LargeUtf8 : goal.decode_string-requires-in-LargeUtf8
decode_string-requires-in-LargeUtf8 g c =
    let r = rw (c.in-String.is, c.in-LargeUtf8.is) at c.requires.offsets in
    record { offsets = subst (λ (b : ContentBuilder). OffsetsReach true (length (g.C.ByteReader.rest c.args.cursor.now)) (content_node b)) (sym c.in-LargeUtf8.values-is) r.0.1 }

pub returns-in-Binary-clause-reads : goal.returns-in-Binary-clause-reads
returns-in-Binary-clause-reads g c =
    let e = bytes_binary (g.C.ByteReader.rest c.args.cursor.now) in
    search rules

pub returns-in-Int128-clause-reads : goal.returns-in-Int128-clause-reads
returns-in-Int128-clause-reads g c =
    let e = decimal_read c.args.schema.now c.in-Bytes-Some.field-0 (builder_kind c.args.builder.now) c.in-Bytes-Some.is (ap builder_kind c.in-Int128.is) c.requires.kind (g.C.ByteReader.rest c.args.cursor.now) in
    search rules

pub returns-in-LargeBinary-clause-reads : goal.returns-in-LargeBinary-clause-reads
returns-in-LargeBinary-clause-reads g c =
    let e = bytes_binary (g.C.ByteReader.rest c.args.cursor.now) in
    search rules
