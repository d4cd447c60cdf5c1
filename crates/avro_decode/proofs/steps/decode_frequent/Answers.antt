use Rattle.std.proofs.Common.{length, false, true, sym, subst}
use Rattle.arrow_builders.specs.Builders.{ContentBuilder, content_node}
use Rattle.avro_flat.specs.Growing.{OffsetsReach}
use Rattle.avro_decode.proofs.steps.decode_frequent.Goals as goal

pub decode_string-requires : goal.decode_string-requires
decode_string-requires g c =
    let r = rw (c.in-String-schema.is, c.in-Utf8.is) at c.requires.offsets in
    record { offsets = subst (λ (b : ContentBuilder). OffsetsReach false (length (g.C.ByteReader.rest c.args.cursor.now)) (content_node b)) (sym c.in-Utf8.values-is) r.0.1 }

pub decode_string-requires-in-LargeUtf8 : goal.decode_string-requires-in-LargeUtf8
decode_string-requires-in-LargeUtf8 g c =
    let r = rw (c.in-String-schema.is, c.in-LargeUtf8.is) at c.requires.offsets in
    record { offsets = subst (λ (b : ContentBuilder). OffsetsReach true (length (g.C.ByteReader.rest c.args.cursor.now)) (content_node b)) (sym c.in-LargeUtf8.values-is) r.0.1 }
