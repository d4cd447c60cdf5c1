-- Above the brackets of a value, no depth changes what it is read as.
use Rattle.std.proofs.Common.{◌≡◌, inl, inr, ℕ, zero, suc, ◌<◌, ◌≤◌, Bool, true, false, cond, List, [], ◌∷◌, map, Option, Some, None, codes, refl, sym, ap, ◌∙◌, subst, arith}
use Rattle.std.specs.Prelude.{option_and_then}
use Rattle.std.specs.Str.{bytes_eq}
use Rattle.json_tree.specs.Tree.{Json, has_point}
use Rattle.json_tree.specs.Keys.{value_of}
use Rattle.json_tree.specs.Layout.{put}
use Rattle.json_tree.specs.Grammar.{Scalar, More, Listed, AfterSpaces, Member, Encodes}
use Rattle.json_tree.specs.Reading.{put_all}
use Rattle.json_tree.proofs.Gathering.{gathered-once}
use Rattle.json_tree.specs.declared.value.Value.{Value, out-Value, Value-F}
use Rattle.json_tree.specs.declared.value.Number.TheVariants.{Integer, Float}
use Rattle.json_tree.specs.declared.value.Value.TheOpen as layer
use Rattle.json_tree.specs.declared.value.Value.TheVariants as variant
use Rattle.json_tree.specs.declared.value.Object.{Object as Attributes}
use Rattle.avro_schema.specs.declared.schema.Schema.{Schema, Record, Union}
use Rattle.avro_schema.specs.declared.schema.Record.{roll-Record}
use Rattle.avro_schema.specs.declared.schema.AvroField.{AvroField}
use Rattle.avro_file.specs.Outcome.{Outcome, each, need, then_for}
use Rattle.avro_file.specs.Attributes.{attribute, string_at, items_at, items_of, items_in, attributes_of, attributes_in}
use Rattle.avro_file.specs.Reading.{reading, one_schema, of_layer, of_object, of_type, typed_as, typed, record_of, inner_at, field}
use Rattle.avro_file.proofs.Parts.{record_unnamed, record_without, record_is}

-- a value with at most d brackets open at once
abbrev pub Within : ℕ → Json → Type 0
Within d x = (e : ℕ) × (e ≤ d) × (b : List ℕ) × Encodes e x b

abbrev AllWithin : ℕ → List Json → Type 0
AllWithin d [] = Unit {0}
AllWithin d (x ∷ xs) = Within d x × AllWithin d xs

abbrev Values : ℕ → List (List ℕ × Json) → Type 0
Values d [] = Unit {0}
Values d (m ∷ ms) = Within d m.1 × Values d ms

-- ---- what arrays and objects hold

more_within : (d e : ℕ) → e ≤ d → (xs : List Json) (b : List ℕ) → More (λ item. AfterSpaces (Encodes e item)) 0x5d xs b → AllWithin d xs
more_within d e l [] b h = tt
more_within d e l (x ∷ xs) b h = ((e, l, h.3.1, h.3.3), more_within d e l xs h.2 h.5)

listed_within : (d e : ℕ) → e ≤ d → (xs : List Json) (b : List ℕ) → Listed (λ item. AfterSpaces (Encodes e item)) 0x5d xs b → AllWithin d xs
listed_within d e l [] b h = tt
listed_within d e l (x ∷ xs) b h = ((e, l, h.3.1, h.3.3), more_within d e l xs h.2 h.5)

more_values : (d e : ℕ) → e ≤ d → (ms : List (List ℕ × Json)) (b : List ℕ) → More (Member (Encodes e)) 0x7d ms b → Values d ms
more_values d e l [] b h = tt
more_values d e l (m ∷ ms) b h = ((e, l, h.3.5.1, h.3.5.3), more_values d e l ms h.2 h.5)

listed_values : (d e : ℕ) → e ≤ d → (ms : List (List ℕ × Json)) (b : List ℕ) → Listed (Member (Encodes e)) 0x7d ms b → Values d ms
listed_values d e l [] b h = tt
listed_values d e l (m ∷ ms) b h = ((e, l, h.3.5.1, h.3.5.3), more_values d e l ms h.2 h.5)

put_values : (d : ℕ) (ms : List (List ℕ × Json)) (m : List ℕ × Json) → Values d ms → Within d m.1 → Values d (put ms m)
unfolding put
put_values d [] m h w = (w, tt)
put_values d (o ∷ os) m h w = at (bytes_eq o.0 m.0) (put_values d os m h.1 w)
  where
    at : (b : Bool) → Values d (put os m) → Values d (cond b ((o.0, m.1) ∷ os) (o ∷ put os m))
    at true r = (w, h.1)
    at false r = (h.0, r)

put_all_values : (d : ℕ) (old ms : List (List ℕ × Json)) → Values d old → Values d ms → Values d (put_all old ms)
put_all_values d old [] h k = h
put_all_values d old (m ∷ ms) h k = put_all_values d (put old m) ms (put_values d old m h k.0) k.1

value_within : (d : ℕ) (ms : List (List ℕ × Json)) (key : List ℕ) (v : Json) → Values d ms → value_of key ms ≡ Some v → Within d v
value_within d [] key v h e = absurd (cc)
value_within d (m ∷ ms) key v h e = at (bytes_eq m.0 key) e (value_within d ms key v h.1)
  where
    at : (b : Bool) → cond b (Some m.1) (value_of key ms) ≡ Some v → (value_of key ms ≡ Some v → Within d v) → Within d v
    at true e r = let is : m.1 ≡ v = cc in subst (λ (x : Json). Within d x) is h.0
    at false e r = r e

abbrev Holds : ℕ → Value-F Value Attributes → Type 0
Holds d (layer.Array items) = AllWithin d items
Holds d (layer.Object o) = Values d o.members
Holds d _ = Unit {0}

-- a value without brackets
abbrev Bare : Value-F Value Attributes → Type 0
Bare (layer.Array items) = ⊥
Bare (layer.Object o) = ⊥
Bare _ = Unit {0}

scalar_bare : (x : Json) (b : List ℕ) → Scalar x b → Bare (out-Value x)
scalar_bare x b (inl h) = subst Bare (sym (ap out-Value h.0 ∙ variant.outs-Null)) tt
scalar_bare x b (inr (inl h)) = subst Bare (sym (ap out-Value h.0 ∙ variant.outs-Bool true)) tt
scalar_bare x b (inr (inr (inl h))) = subst Bare (sym (ap out-Value h.0 ∙ variant.outs-Bool false)) tt
scalar_bare x b (inr (inr (inr (inl h)))) = subst Bare (sym (ap out-Value h.2 ∙ variant.outs-String h.0)) tt
scalar_bare x b (inr (inr (inr (inr h)))) = subst Bare (sym (ap out-Value h.3 ∙ variant.outs-Number (cond (has_point h.0) (Float h.0 h.1) (Integer h.0 h.1)))) tt

bare_holds : (d : ℕ) (y : Value-F Value Attributes) → Bare y → Holds d y
bare_holds d layer.Null h = tt
bare_holds d (layer.Bool b) h = tt
bare_holds d (layer.Number n) h = tt
bare_holds d (layer.String text) h = tt
bare_holds d (layer.Array items) h = absurd h
bare_holds d (layer.Object o) h = absurd h

-- what stands in a value has a bracket less
holds : (d e : ℕ) → e ≤ suc d → (x : Json) (b : List ℕ) → Encodes e x b → Holds d (out-Value x)
holds d zero l x b h = bare_holds d (out-Value x) (scalar_bare x b h)
holds d (suc e) l x b (inl h) = bare_holds d (out-Value x) (scalar_bare x b h)
holds d (suc e) l x b (inr (inl h)) = subst (Holds d) (sym (ap out-Value h.3 ∙ variant.outs-Array h.0)) (listed_within d e (omega (arith, l)) h.0 h.1 h.2)
holds d (suc e) l x b (inr (inr h)) =
    let all = put_all_values d [] h.0 tt (listed_values d e (omega (arith, l)) h.0 h.2 h.3) in
    subst (Holds d) (sym (ap out-Value h.5 ∙ variant.outs-Object (record { members = h.1 }))) (subst (Values d) (sym (gathered-once h.0 h.1 h.4)) all)

within_holds : (d : ℕ) (x : Json) → Within d x → Holds d (out-Value x)
within_holds d x w = holds d w.0 (omega (arith, w.1)) x w.2 w.3

-- ---- the parts of a field

abbrev field_made : List ℕ → Attributes → Schema → AvroField
field_made name o schema = record { name = name; doc = string_at (codes "doc") o; schema = schema }

abbrev made : (Json → Outcome Schema) → List ℕ → Attributes → Json → Outcome AvroField
made inner name o type = then_for (field_made name o) (inner type)

abbrev typed_field : (Json → Outcome Schema) → Attributes → List ℕ → Outcome AvroField
typed_field inner o name = need (attribute (codes "type") o) (made inner name o)

abbrev named_field : (Json → Outcome Schema) → Attributes → Outcome AvroField
named_field inner o = need (string_at (codes "name") o) (typed_field inner o)

abbrev record_made : List ℕ → Attributes → List AvroField → Schema
record_made name o fields =
    Record (roll-Record (record { name = name; namespace = string_at (codes "namespace") o; doc = string_at (codes "doc") o; fields = fields }))

-- ---- readings that agree on what has at most d brackets

module _ (d : ℕ) (f g : Json → Outcome Schema) (same : (x : Json) → Within d x → f x ≡ g x) where
  each_same : (xs : List Json) → AllWithin d xs → each (map f xs) ≡ each (map g xs)
  each_same [] h = refl
  each_same (x ∷ xs) h = rw (same x h.0, each_same xs h.1) refl

  inner_same : (key : List ℕ) (o : Attributes) → Values d o.members → inner_at f key o ≡ inner_at g key o
  unfolding inner_at
  inner_same key o h = at (value_of key o.members) refl
    where
      at : (v : Option Json) → value_of key o.members ≡ v → need v f ≡ need v g
      at None e = refl
      at (Some v) e = same v (value_within d o.members key v h e)

  field_same : (x : Json) → Within d x → field f x ≡ field g x
  unfolding field attributes_of
  field_same x w = at (out-Value x) (within_holds d x w)
    where
      typed_by : (name : List ℕ) (o : Attributes) → Values d o.members → (v : Option Json) → value_of (codes "type") o.members ≡ v → need v (made f name o) ≡ need v (made g name o)
      typed_by name o h None e = refl
      typed_by name o h (Some v) e = ap (then_for (field_made name o)) (same v (value_within d o.members (codes "type") v h e))

      named_by : (o : Attributes) → Values d o.members → (name : Option (List ℕ)) → need name (typed_field f o) ≡ need name (typed_field g o)
      named_by o h None = refl
      named_by o h (Some name) = typed_by name o h (value_of (codes "type") o.members) refl

      at : (y : Value-F Value Attributes) → Holds d y → need (attributes_in y) (named_field f) ≡ need (attributes_in y) (named_field g)
      at layer.Null h = refl
      at (layer.Bool b) h = refl
      at (layer.Number n) h = refl
      at (layer.String text) h = refl
      at (layer.Array items) h = refl
      at (layer.Object o) h = named_by o h (string_at (codes "name") o)

  fields_same : (xs : List Json) → AllWithin d xs → each (map (field f) xs) ≡ each (map (field g) xs)
  fields_same [] h = refl
  fields_same (x ∷ xs) h = rw (field_same x h.0, fields_same xs h.1) refl

  items_within : (key : List ℕ) (o : Attributes) (items : List Json) → Values d o.members → items_at key o ≡ Some items → AllWithin d items
  unfolding items_of
  items_within key o items h e = at (value_of key o.members) refl e
    where
      in_layer : (y : Value-F Value Attributes) → Holds d y → items_in y ≡ Some items → AllWithin d items
      in_layer layer.Null h e = absurd (cc)
      in_layer (layer.Bool b) h e = absurd (cc)
      in_layer (layer.Number n) h e = absurd (cc)
      in_layer (layer.String text) h e = absurd (cc)
      in_layer (layer.Array xs) h e = let is : xs ≡ items = cc in subst (AllWithin d) is h
      in_layer (layer.Object o) h e = absurd (cc)

      at : (v : Option Json) → value_of key o.members ≡ v → option_and_then (λ x. items_in (out-Value x)) v ≡ Some items → AllWithin d items
      at None p e = absurd (cc)
      at (Some v) p e = in_layer (out-Value v) (within_holds d v (value_within d o.members key v h p)) e

  record_same : (o : Attributes) → Values d o.members → record_of f o ≡ record_of g o
  record_same o h = at (string_at (codes "name") o) refl (items_at (codes "fields") o) refl
    where
      at : (name : Option (List ℕ)) → string_at (codes "name") o ≡ name → (items : Option (List Json)) → items_at (codes "fields") o ≡ items → record_of f o ≡ record_of g o
      at None e items i = record_unnamed o f e ∙ sym (record_unnamed o g e)
      at (Some name) e None i = record_without o f name e i ∙ sym (record_without o g name e i)
      at (Some name) e (Some items) i =
          record_is o f name items e i
          ∙ ap (then_for (record_made name o)) (fields_same items (items_within (codes "fields") o items h i))
          ∙ sym (record_is o g name items e i)

  typed_same : (o : Attributes) (name : List ℕ) → Values d o.members → typed_as f o name ≡ typed_as g o name
  unfolding typed_as typed
  typed_same o name h = rw (record_same o h, inner_same (codes "items") o h, inner_same (codes "values") o h) refl

  type_same : (o : Attributes) (v : Json) → Values d o.members → Within d v → of_type f o v (out-Value v) ≡ of_type g o v (out-Value v)
  type_same o v h w = at (out-Value v)
    where
      at : (y : Value-F Value Attributes) → of_type f o v y ≡ of_type g o v y
      at layer.Null = refl
      at (layer.Bool b) = refl
      at (layer.Number n) = refl
      at (layer.String name) = typed_same o name h
      at (layer.Array items) = same v w
      at (layer.Object more) = same v w

  object_same : (o : Attributes) → Values d o.members → of_object f o ≡ of_object g o
  unfolding of_object
  object_same o h = at (value_of (codes "type") o.members) refl
    where
      at : (t : Option Json) → value_of (codes "type") o.members ≡ t → need t (λ v. of_type f o v (out-Value v)) ≡ need t (λ v. of_type g o v (out-Value v))
      at None e = refl
      at (Some v) e = type_same o v h (value_within d o.members (codes "type") v h e)

  layer_same : (y : Value-F Value Attributes) → Holds d y → of_layer f y ≡ of_layer g y
  layer_same layer.Null h = refl
  layer_same (layer.Bool b) h = refl
  layer_same (layer.Number n) h = refl
  layer_same (layer.String name) h = refl
  layer_same (layer.Array items) h = ap (then_for Union) (each_same items h)
  layer_same (layer.Object o) h = object_same o h

bare_same : (f g : Json → Outcome Schema) (y : Value-F Value Attributes) → Bare y → of_layer f y ≡ of_layer g y
bare_same f g layer.Null h = refl
bare_same f g (layer.Bool b) h = refl
bare_same f g (layer.Number n) h = refl
bare_same f g (layer.String name) h = refl
bare_same f g (layer.Array items) h = absurd h
bare_same f g (layer.Object o) h = absurd h

pub stable : (d : ℕ) (x : Json) → Within d x → (n m : ℕ) → d < n → d < m → reading n x ≡ reading m x
unfolding reading one_schema
stable d x w zero m l k = absurd (omega (arith, l))
stable d x w (suc n) zero l k = absurd (omega (arith, k))
stable zero x (zero, l, b, h) (suc n) (suc m) p q = bare_same (reading n) (reading m) (out-Value x) (scalar_bare x b h)
stable zero x (suc e, l, b, h) (suc n) (suc m) p q = absurd (omega (arith, l))
stable (suc d) x w (suc n) (suc m) p q =
    layer_same d (reading n) (reading m) (λ y v. stable d y v n m (omega (arith, p)) (omega (arith, q))) (out-Value x) (holds d w.0 w.1 x w.2 w.3)
