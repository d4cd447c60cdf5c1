-- What a schema's parts give it.
use Rattle.std.proofs.Common.{◌≡◌, ℕ, zero, suc, ◌+◌, ◌-◌, ◌<◌, ◌≤◌, List, [], ◌∷◌, ◌++◌, length, get_or, drop, map, Option, Some, None, Result, Err, codes, refl, sym, ap, ◌∙◌, subst, add-one, drop-cons, append_assoc, append-nil, arith}
use Rattle.std.proofs.lemmas.List.{at_drop_all}
use Rattle.std.specs.Prelude.{option_and_then}
use Rattle.json_tree.specs.Tree.{Json}
use Rattle.json_tree.specs.declared.value.Value.{out-Value}
use Rattle.json_tree.specs.declared.value.Object.{Object as Attributes}
use Rattle.avro_schema.specs.declared.schema.Schema.{Schema, Record, Enum, Fixed}
use Rattle.avro_schema.specs.declared.schema.Record.{roll-Record}
use Rattle.avro_file.specs.declared.fault.SchemaTextFault.{SchemaTextFault}
use Rattle.avro_file.specs.declared.fault.SchemaTextFault.TheVariants.{Form, Reference, Depth, Memory}
use Rattle.avro_file.specs.Outcome.{Outcome, wrong, found, then_for, need, each}
use Rattle.avro_file.specs.Attributes.{attribute, string_at, items_at, count_at, attributes_of, string_of, strings_of}
use Rattle.avro_file.specs.Types.{fixed_logical}
use Rattle.avro_file.specs.Reading.{reading, one_schema, record_of, enum_of, strings, fixed_of, field, inner_at, of_object, of_type}
use Rattle.avro_file.specs.Gives.{Gives}
use Rattle.avro_file.proofs.Together.{strings_after}

-- ---- a part's fault is the whole's

pub told : {A : Type 0} (r : Result A SchemaTextFault) (o p : Outcome A) → o ≡ p → Gives r p → Gives r o
told r o p e h = subst (λ x. Gives r x) (sym e) h

pub then_fault : {A B : Type 0} (r : Result B SchemaTextFault) (e : SchemaTextFault) (f : A → B) (o : Outcome A) → r ≡ Err e → Gives {A = A} (Err e) o → Gives r (then_for f o)
then_fault {A} {B} r e f o is h = subst (λ x. Gives x (then_for f o)) (sym is) (at e h)
  where
    at : (e : SchemaTextFault) → Gives {A = A} (Err e) o → Gives {A = B} (Err e) (then_for f o)
    at Form h = ap (then_for f) h
    at Reference h = ap (then_for f) h
    at Depth h = h
    at Memory h = tt

pub then_found : {A B : Type 0} (f : A → B) (o : Outcome A) (x : A) → o ≡ found x → then_for f o ≡ found (f x)
then_found f o x e = ap (then_for f) e

-- ---- objects

module _ (o : Attributes) where
  pub enum_unnamed : string_at (codes "name") o ≡ None → enum_of o ≡ wrong
  unfolding enum_of
  enum_unnamed e = rw e refl

  pub enum_without : (name : List ℕ) → string_at (codes "name") o ≡ Some name → items_at (codes "symbols") o ≡ None → enum_of o ≡ wrong
  unfolding enum_of
  enum_without name e i = rw (e, i) refl

  pub enum_is : (name : List ℕ) (items : List Json) → string_at (codes "name") o ≡ Some name → items_at (codes "symbols") o ≡ Some items →
      enum_of o ≡ then_for (λ symbols. Enum (record { name = name; namespace = string_at (codes "namespace") o; doc = string_at (codes "doc") o; symbols = symbols })) (strings items)
  unfolding enum_of
  enum_is name items e i = rw (e, i) refl

  pub fixed_unnamed : string_at (codes "name") o ≡ None → fixed_of o ≡ wrong
  unfolding fixed_of
  fixed_unnamed e = rw e refl

  pub fixed_without : (name : List ℕ) → string_at (codes "name") o ≡ Some name → count_at (codes "size") o ≡ None → fixed_of o ≡ wrong
  unfolding fixed_of
  fixed_without name e i = rw (e, i) refl

  pub fixed_is : (name : List ℕ) (size : ℕ) → string_at (codes "name") o ≡ Some name → count_at (codes "size") o ≡ Some size →
      fixed_of o ≡ found (Fixed (record { name = name; namespace = string_at (codes "namespace") o; doc = string_at (codes "doc") o; size = size; logical = fixed_logical size o }))
  unfolding fixed_of
  fixed_is name size e i = rw (e, i) refl

  module _ (inner : Json → Outcome Schema) where
    pub record_unnamed : string_at (codes "name") o ≡ None → record_of inner o ≡ wrong
    unfolding record_of
    record_unnamed e = rw e refl

    pub record_without : (name : List ℕ) → string_at (codes "name") o ≡ Some name → items_at (codes "fields") o ≡ None → record_of inner o ≡ wrong
    unfolding record_of
    record_without name e i = rw (e, i) refl

    pub record_is : (name : List ℕ) (items : List Json) → string_at (codes "name") o ≡ Some name → items_at (codes "fields") o ≡ Some items →
        record_of inner o ≡ then_for (λ fields. Record (roll-Record (record { name = name; namespace = string_at (codes "namespace") o; doc = string_at (codes "doc") o; fields = fields }))) (each (map (field inner) items))
    unfolding record_of
    record_is name items e i = rw (e, i) refl

    pub inner_without : (name : List ℕ) → attribute name o ≡ None → inner_at inner name o ≡ wrong
    unfolding inner_at
    inner_without name e = rw e refl

    pub inner_is : (name : List ℕ) (value : Json) → attribute name o ≡ Some value → inner_at inner name o ≡ inner value
    unfolding inner_at
    inner_is name value e = rw e refl

    pub object_untyped : attribute (codes "type") o ≡ None → of_object inner o ≡ wrong
    unfolding of_object
    object_untyped e = rw e refl

    pub object_is : (value : Json) → attribute (codes "type") o ≡ Some value → of_object inner o ≡ of_type inner o value (out-Value value)
    unfolding of_object
    object_is value e = ap (λ t. need t (λ v. of_type inner o v (out-Value v))) e

-- ---- a field

module _ (inner : Json → Outcome Schema) (value : Json) where
  pub field_no_object : attributes_of value ≡ None → field inner value ≡ wrong
  unfolding field
  field_no_object e = rw e refl

  module _ (o : Attributes) (object : attributes_of value ≡ Some o) where
    pub field_unnamed : string_at (codes "name") o ≡ None → field inner value ≡ wrong
    unfolding field
    field_unnamed e = rw (object, e) refl

    pub field_untyped : (name : List ℕ) → string_at (codes "name") o ≡ Some name → attribute (codes "type") o ≡ None → field inner value ≡ wrong
    unfolding field
    field_untyped name e t = rw (object, e, t) refl

    pub field_is : (name : List ℕ) (type : Json) → string_at (codes "name") o ≡ Some name → attribute (codes "type") o ≡ Some type →
        field inner value ≡ then_for (λ schema. record { name = name; doc = string_at (codes "doc") o; schema = schema }) (inner type)
    unfolding field
    field_is name type e t = rw (object, e, t) refl

-- ---- depth

pub too_deep : (depth : ℕ) (value : Json) → depth ≡ 0 → reading depth value ≡ wrong
unfolding reading
too_deep depth value e = rw e refl

pub one_deep : (depth : ℕ) (value : Json) → (depth ≡ 0 → ⊥) → reading depth value ≡ one_schema (reading (depth - 1)) value
unfolding reading
one_deep zero value h = absurd (h refl)
one_deep (suc depth) value h = let e : suc depth - 1 ≡ depth = omega arith in rw e refl

-- ---- strings

strings-drop : (items : List Json) (i : ℕ) (x : Json) → i < length items → x ≡ get_or items i x →
    strings_of (drop i items) ≡ option_and_then (λ text. option_and_then (λ texts. Some (text ∷ texts)) (strings_of (drop (i + 1) items))) (string_of x)
unfolding strings_of
strings-drop items i x l e = rw (add-one, drop-cons items i x) (ap (λ y. option_and_then (λ text. option_and_then (λ texts. Some (text ∷ texts)) (strings_of (drop (suc i) items))) (string_of y)) (sym e))

pub strings_more : (items : List Json) (i : ℕ) (x : Json) (xs : List (List ℕ)) (text : List ℕ) → i < length items → x ≡ get_or items i x → string_of x ≡ Some text →
    strings_after xs (strings_of (drop i items)) ≡ strings_after (xs ++ text ∷ []) (strings_of (drop (i + 1) items))
strings_more items i x xs text l e is = rw (strings-drop items i x l e, is) (go (strings_of (drop (i + 1) items)))
  where
    go : (o : Option (List (List ℕ))) → strings_after xs (option_and_then (λ texts. Some (text ∷ texts)) o) ≡ strings_after (xs ++ text ∷ []) o
    go None = refl
    go (Some ys) = ap (λ l. Some l) (sym (append_assoc xs (text ∷ []) ys))

pub strings_stop : (items : List Json) (i : ℕ) (x : Json) (xs : List (List ℕ)) → i < length items → x ≡ get_or items i x → string_of x ≡ None → strings_after xs (strings_of (drop i items)) ≡ None
strings_stop items i x xs l e is = rw (strings-drop items i x l e, is) refl

pub strings_end : (items : List Json) (i : ℕ) (xs : List (List ℕ)) → length items ≤ i → strings_after xs (strings_of (drop i items)) ≡ Some xs
unfolding strings_of
strings_end items i xs l = at_drop_all (λ rest. strings_after xs (strings_of rest)) items i l ∙ ap (λ y. Some y) (append-nil xs)

-- the fault of the one part that is the whole
pub passed : {B : Type 0} (r : Result B SchemaTextFault) (e : SchemaTextFault) (o : Outcome B) → r ≡ Err e → Gives {A = B} (Err e) o → Gives r o
passed r e o is h = subst (λ x. Gives x o) (sym is) h
