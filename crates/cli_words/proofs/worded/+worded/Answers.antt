-- Whether each kind of type has a word.
use Rattle.std.proofs.Common.{◌-◌, ◌∙◌, sym, ap, arith}
use Rattle.std.specs.List.{list_all}
use Rattle.std.specs.Option.{option_map_or}
use Rattle.avro_schema.specs.declared.schema.Schema.TheOpen as layer
use Rattle.avro_schema.specs.declared.schema.Schema.TheVariants as variant
use Rattle.cli_words.specs.Printed.{has_type, has_base, has_marked, has_field, has_symbols}
use Rattle.cli_words.proofs.PrintSteps.{has_at, base_has}
use Rattle.cli_words.proofs.worded.+worded.Goals as goal

pub has_base-returns-in-Bytes : goal.has_base-returns-in-Bytes
has_base-returns-in-Bytes t c = c.has_bytes.ensures ∙ sym (base_has (has_type c.args.depth) c.args.schema.now (variant.Bytes c.in-Bytes.logical) (layer.Bytes c.in-Bytes.logical) c.in-Bytes.is (variant.outs-Bytes c.in-Bytes.logical))

pub has_base-returns-in-Record : goal.has_base-returns-in-Record
has_base-returns-in-Record t c = c.has_fields.ensures ∙ ap (list_all (has_field (has_type c.args.depth))) c.as_slice.ensures ∙ sym (base_has (has_type c.args.depth) c.args.schema.now (variant.Record c.in-Record.record) (layer.Record c.in-Record.record) c.in-Record.is (variant.outs-Record c.in-Record.record))

pub has_base-returns-in-Enum : goal.has_base-returns-in-Enum
has_base-returns-in-Enum t c = c.has_symbols.ensures ∙ ap has_symbols c.as_slice-in-Enum.ensures ∙ sym (base_has (has_type c.args.depth) c.args.schema.now (variant.Enum c.in-Enum.symbols) (layer.Enum c.in-Enum.symbols) c.in-Enum.is (variant.outs-Enum c.in-Enum.symbols))

pub has_base-returns-in-Array : goal.has_base-returns-in-Array
has_base-returns-in-Array t c = c.has_type.ensures ∙ ap (has_type c.args.depth) c.get.ensures ∙ sym (base_has (has_type c.args.depth) c.args.schema.now (variant.Array c.in-Array.item) (layer.Array c.in-Array.item) c.in-Array.is (variant.outs-Array c.in-Array.item))

pub has_base-returns-in-Fixed : goal.has_base-returns-in-Fixed
has_base-returns-in-Fixed t c = c.has_fixed.ensures ∙ sym (base_has (has_type c.args.depth) c.args.schema.now (variant.Fixed c.in-Fixed.fixed) (layer.Fixed c.in-Fixed.fixed) c.in-Fixed.is (variant.outs-Fixed c.in-Fixed.fixed))

pub has_type-returns-in-Some : goal.has_type-returns-in-Some
has_type-returns-in-Some t c =
    c.has_marked.ensures
    ∙ ap (λ m. option_map_or (has_marked (has_base (has_type (c.args.depth - 1)))) m (has_base (has_type (c.args.depth - 1)) c.args.schema.now)) c.in-Some.ensures
    ∙ sym (has_at c.args.depth c.args.schema.now (omega arith))
