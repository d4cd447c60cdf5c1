-- What a JSON value is, by its layer: the definitions of values at each variant.
use Rattle.std.proofs.Common.{◌≡◌, ◌⊎◌, inl, inr, ℕ, List, map, Some, None, refl, sym, ap, ◌∙◌}
use Rattle.json_tree.specs.Tree.{Json}
use Rattle.json_tree.specs.declared.value.Value.{Value, out-Value, roll-Value, Value-F, roll-out-Value}
use Rattle.json_tree.specs.declared.value.Value.TheOpen as layer
use Rattle.json_tree.specs.declared.value.Value.TheVariants as variant
use Rattle.json_tree.specs.declared.value.Number.{Number}
use Rattle.json_tree.specs.declared.value.Object.{Object as Attributes}
use Rattle.avro_schema.specs.declared.schema.Schema.{Schema, Union}
use Rattle.avro_file.specs.Outcome.{Outcome, wrong, then_for, each}
use Rattle.avro_file.specs.Attributes.{string_in, items_in, attributes_in, count_in, number_count, string_of, items_of, attributes_of, count_of}
use Rattle.avro_file.specs.Reading.{named, of_type, typed_as, of_object, one_schema, of_layer}

made : (value : Json) (l : Value-F Value Attributes) → out-Value value ≡ l → value ≡ roll-Value l
made value l e = sym (roll-out-Value value) ∙ ap roll-Value e

pub string_is : (value : Json) (text : List ℕ) → value ≡ variant.String text → string_of value ≡ Some text
unfolding string_of
string_is value text e = rw e (ap string_in (variant.outs-String text))

pub string_isnt : (value : Json) → ((text : List ℕ) → value ≡ variant.String text → ⊥) → string_of value ≡ None
unfolding string_of
string_isnt value isnt = go (out-Value value) refl
  where
    go : (l : Value-F Value Attributes) → out-Value value ≡ l → string_in l ≡ None
    go layer.Null e = refl
    go (layer.Bool b) e = refl
    go (layer.Number n) e = refl
    go (layer.String text) e = absurd (isnt text (made value (layer.String text) e ∙ variant.rolls-String text))
    go (layer.Array items) e = refl
    go (layer.Object o) e = refl

pub items_are : (value : Json) (items : List Json) → value ≡ variant.Array items → items_of value ≡ Some items
unfolding items_of
items_are value items e = rw e (ap items_in (variant.outs-Array items))

pub items_arent : (value : Json) → ((items : List Json) → value ≡ variant.Array items → ⊥) → items_of value ≡ None
unfolding items_of
items_arent value isnt = go (out-Value value) refl
  where
    go : (l : Value-F Value Attributes) → out-Value value ≡ l → items_in l ≡ None
    go layer.Null e = refl
    go (layer.Bool b) e = refl
    go (layer.Number n) e = refl
    go (layer.String text) e = refl
    go (layer.Array items) e = absurd (isnt items (made value (layer.Array items) e ∙ variant.rolls-Array items))
    go (layer.Object o) e = refl

pub attributes_are : (value : Json) (o : Attributes) → value ≡ variant.Object o → attributes_of value ≡ Some o
unfolding attributes_of
attributes_are value o e = rw e (ap attributes_in (variant.outs-Object o))

pub attributes_arent : (value : Json) → ((o : Attributes) → value ≡ variant.Object o → ⊥) → attributes_of value ≡ None
unfolding attributes_of
attributes_arent value isnt = go (out-Value value) refl
  where
    go : (l : Value-F Value Attributes) → out-Value value ≡ l → attributes_in l ≡ None
    go layer.Null e = refl
    go (layer.Bool b) e = refl
    go (layer.Number n) e = refl
    go (layer.String text) e = refl
    go (layer.Array items) e = refl
    go (layer.Object o) e = absurd (isnt o (made value (layer.Object o) e ∙ variant.rolls-Object o))

pub count_is : (value : Json) (n : Number) → value ≡ variant.Number n → count_of value ≡ number_count n
unfolding count_of
count_is value n e = rw e (ap count_in (variant.outs-Number n))

pub count_isnt : (value : Json) → ((n : Number) → value ≡ variant.Number n → ⊥) → count_of value ≡ None
unfolding count_of
count_isnt value isnt = go (out-Value value) refl
  where
    go : (l : Value-F Value Attributes) → out-Value value ≡ l → count_in l ≡ None
    go layer.Null e = refl
    go (layer.Bool b) e = refl
    go (layer.Number n) e = absurd (isnt n (made value (layer.Number n) e ∙ variant.rolls-Number n))
    go (layer.String text) e = refl
    go (layer.Array items) e = refl
    go (layer.Object o) e = refl

-- ---- schemas

module _ (inner : Json → Outcome Schema) where
  pub schema_string : (value : Json) (name : List ℕ) → value ≡ variant.String name → one_schema inner value ≡ named name
  unfolding one_schema
  schema_string value name e = rw e (ap (of_layer inner) (variant.outs-String name))

  pub schema_array : (value : Json) (items : List Json) → value ≡ variant.Array items → one_schema inner value ≡ then_for Union (each (map inner items))
  unfolding one_schema
  schema_array value items e = rw e (ap (of_layer inner) (variant.outs-Array items))

  pub schema_object : (value : Json) (o : Attributes) → value ≡ variant.Object o → one_schema inner value ≡ of_object inner o
  unfolding one_schema
  schema_object value o e = rw e (ap (of_layer inner) (variant.outs-Object o))

  pub schema_wrong : (value : Json) → ((name : List ℕ) → value ≡ variant.String name → ⊥) → ((items : List Json) → value ≡ variant.Array items → ⊥) → ((o : Attributes) → value ≡ variant.Object o → ⊥) → one_schema inner value ≡ wrong
  unfolding one_schema
  schema_wrong value no_string no_array no_object = go (out-Value value) refl
    where
      go : (l : Value-F Value Attributes) → out-Value value ≡ l → of_layer inner l ≡ wrong
      go layer.Null e = refl
      go (layer.Bool b) e = refl
      go (layer.Number n) e = refl
      go (layer.String text) e = absurd (no_string text (made value (layer.String text) e ∙ variant.rolls-String text))
      go (layer.Array items) e = absurd (no_array items (made value (layer.Array items) e ∙ variant.rolls-Array items))
      go (layer.Object o) e = absurd (no_object o (made value (layer.Object o) e ∙ variant.rolls-Object o))

  module _ (attributes : Attributes) where
    pub type_string : (value : Json) (name : List ℕ) → value ≡ variant.String name → of_type inner attributes value (out-Value value) ≡ typed_as inner attributes name
    type_string value name e = rw e (ap (of_type inner attributes (variant.String name)) (variant.outs-String name))

    -- an array or an object
    pub type_nested : (value : Json) → ((items : List Json) × (value ≡ variant.Array items)) ⊎ ((o : Attributes) × (value ≡ variant.Object o)) → of_type inner attributes value (out-Value value) ≡ inner value
    type_nested value (inl h) = rw h.1 (ap (of_type inner attributes (variant.Array h.0)) (variant.outs-Array h.0))
    type_nested value (inr h) = rw h.1 (ap (of_type inner attributes (variant.Object h.0)) (variant.outs-Object h.0))

    pub type_wrong : (value : Json) → ((name : List ℕ) → value ≡ variant.String name → ⊥) → ((items : List Json) → value ≡ variant.Array items → ⊥) → ((o : Attributes) → value ≡ variant.Object o → ⊥) → of_type inner attributes value (out-Value value) ≡ wrong
    type_wrong value no_string no_array no_object = go (out-Value value) refl
      where
        go : (l : Value-F Value Attributes) → out-Value value ≡ l → of_type inner attributes value l ≡ wrong
        go layer.Null e = refl
        go (layer.Bool b) e = refl
        go (layer.Number n) e = refl
        go (layer.String text) e = absurd (no_string text (made value (layer.String text) e ∙ variant.rolls-String text))
        go (layer.Array items) e = absurd (no_array items (made value (layer.Array items) e ∙ variant.rolls-Array items))
        go (layer.Object o) e = absurd (no_object o (made value (layer.Object o) e ∙ variant.rolls-Object o))
