-- The steps of what is printed: depth, and the layer of a schema.
use Rattle.std.proofs.Common.{◌≡◌, ℕ, zero, suc, ◌-◌, ◌<◌, Bool, List, None, refl, sym, ap, ◌∙◌, arith}
use Rattle.std.specs.Option.{option_map_or}
use Rattle.avro_schema.specs.declared.schema.AvroField.{AvroField}
use Rattle.avro_schema.specs.declared.schema.Record.{Record as TheRecord}
use Rattle.avro_schema.specs.declared.schema.Schema.{Schema, Schema-F, out-Schema, roll-Schema, roll-out-Schema}
use Rattle.avro_schema.specs.declared.schema.Schema.TheOpen as layer
use Rattle.avro_schema.specs.declared.schema.Schema.TheVariants as variant
use Rattle.cli_words.specs.Printed.{has_type, has_base, has_marked, layer_has_base, type_word, base_word, marked_word, layer_word, members_of, layer_members}

pub has_at : (depth : ℕ) (s : Schema) → 0 < depth → has_type depth s ≡ option_map_or (has_marked (has_base (has_type (depth - 1)))) (members_of s) (has_base (has_type (depth - 1)) s)
has_at zero s low = absurd (omega (arith, low))
has_at (suc depth) s low =
    let e : depth ≡ suc depth - 1 = omega arith in
    ap (λ d. option_map_or (has_marked (has_base (has_type d))) (members_of s) (has_base (has_type d) s)) e

pub word_at : (depth : ℕ) (s : Schema) → 0 < depth → type_word depth s ≡ option_map_or (marked_word (base_word (type_word (depth - 1)))) (members_of s) (base_word (type_word (depth - 1)) s)
word_at zero s low = absurd (omega (arith, low))
word_at (suc depth) s low =
    let e : depth ≡ suc depth - 1 = omega arith in
    ap (λ d. option_map_or (marked_word (base_word (type_word d))) (members_of s) (base_word (type_word d) s)) e

pub has_none : (depth : ℕ) (s : Schema) → depth ≡ 0 → has_type depth s ≡ has_type 0 s
has_none depth s e = ap (λ d. has_type d s) e

-- the layer of a schema that is this variant
pub base_has : (Inner : Schema → Bool) (s whole : Schema) (l : Schema-F Schema AvroField TheRecord) → s ≡ whole → out-Schema whole ≡ l → has_base Inner s ≡ layer_has_base Inner l
base_has Inner s whole l e o = ap (has_base Inner) e ∙ ap (layer_has_base Inner) o

pub base_says : (Inner : Schema → List ℕ) (s whole : Schema) (l : Schema-F Schema AvroField TheRecord) → s ≡ whole → out-Schema whole ≡ l → base_word Inner s ≡ layer_word Inner l
base_says Inner s whole l e o = ap (base_word Inner) e ∙ ap (layer_word Inner) o

pub no_members : (s : Schema) → ((members : List Schema) → s ≡ variant.Union members → ⊥) → members_of s ≡ None
no_members s isnt = go (out-Schema s) refl
  where
    go : (l : Schema-F Schema AvroField TheRecord) → out-Schema s ≡ l → layer_members l ≡ None
    go layer.Null e = refl
    go layer.Boolean e = refl
    go (layer.Int logical) e = refl
    go (layer.Long logical) e = refl
    go layer.Float e = refl
    go layer.Double e = refl
    go (layer.Bytes logical) e = refl
    go (layer.String logical) e = refl
    go (layer.Record r) e = refl
    go (layer.Enum n) e = refl
    go (layer.Array item) e = refl
    go (layer.Map value) e = refl
    go (layer.Union members) e = absurd (isnt members (sym (roll-out-Schema s) ∙ ap roll-Schema e ∙ variant.rolls-Union members))
    go (layer.Fixed f) e = refl
