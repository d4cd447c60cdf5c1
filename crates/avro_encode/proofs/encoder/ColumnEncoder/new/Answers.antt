-- The column that a flat array is has the encodings that its schema says.
use Rattle.std.proofs.Common.{◌∙◌, length, ap, sym}
use Rattle.avro_encode.proofs.ColumnItems.{flat_fit, flat_items, kind_of}
use Rattle.avro_encode.proofs.encoder.ColumnEncoder.new.Goals as goal

pub flat_kind-requires : goal.flat_kind-requires
flat_kind-requires c = record { kind = kind_of c.args.schema.now c.in-Some.nulls c.args.array.now c.in-Some.ensures c.requires.types c.data_type.ensures.kind.0 }

pub invariant_of-result : goal.invariant_of-result
invariant_of-result c = (
  c.len-len.ensures ∙ ap length (sym c.flat_kind.ensures.slots),
  flat_fit c.args.schema.now c.in-Some.nulls c.flat_kind.result c.args.array.now c.in-Some.ensures c.requires.types c.data_type.ensures.kind.0 c.requires.slots c.flat_kind.ensures.slots c.flat_kind.ensures.kind,
)

pub returns-in-Some-clause-ok : goal.returns-in-Some-clause-ok
returns-in-Some-clause-ok c =
    flat_items c.args.schema.now c.in-Some.nulls c.flat_kind.result c.args.array.now c.in-Some.ensures c.requires.types c.data_type.ensures.kind.0 c.requires.slots c.flat_kind.ensures.slots c.flat_kind.ensures.kind
