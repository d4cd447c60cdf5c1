-- Builders whose data types hold no offsets of 32 bits have none themselves.
use Rattle.std.proofs.Common.{◌≡◌, ◌∙◌, ◌⊎◌, inl, inr, ℕ, ◌^◌, ◌<◌, ◌≤◌, Bool, true, false, ◌↔◌, IsTrue, Some, None, List, [], ◌∷◌, length, map, All, refl, sym, subst, arith}
use Rattle.std.proofs.lemmas.List.Elements.{All-head, All-tail}
use Rattle.arrow_core.specs.Numbers.{greatest_offset}
use Rattle.arrow_core.specs.declared.types.Field.{Field}
use Rattle.arrow_core.specs.declared.types.DataType.{DataType}
use Rattle.arrow_core.specs.declared.physical.PhysicalType.TheVariants as physical
use Rattle.arrow_core.specs.declared.physical.PrimitiveType.TheVariants as primitive
use Rattle.arrow_array.specs.Lists.{IsListOf}
use Rattle.arrow_builders.specs.Fits.{TypesFit, IsRecordOf, field_types}
use Rattle.arrow_builders.specs.MutableArrays.{builder_type}
use Rattle.arrow_builders.specs.Shapes.{Shape, flat, dictionary, lists, records, no_field, field, shape, shape_type}
use Rattle.arrow_builders.specs.declared.array.MutableArray.{MutableArray}
use Rattle.arrow_builders.proofs.Heads.{type_is}
use Rattle.avro_schema.specs.declared.schema.AvroField.{AvroField}
use Rattle.avro_schema.specs.declared.schema.Record.{Record as TheRecord, Record', Row_of-AvroField, end_of-AvroField, more_of-AvroField}
use Rattle.avro_schema.specs.declared.schema.Schema.{Schema, Boolean, Int, Long, Bytes, String, Enum, Record, Array', Union', Fixed, Row_of-Schema, end_of-Schema, more_of-Schema}
use Rattle.avro_schema.specs.ValidBlock.{kept, small_limit, IsSmall, OffsetsFit}
use Rattle.avro_schema.proofs.TypeLemmas.{small_composites}
use Rattle.avro_decode.specs.Growth.{all_large}
use Rattle.avro_decode.specs.Suits.{Suits, SuitsRecord, SuitsItem, SuitsMembers, SuitsFields, AllSuit}
use Rattle.avro_decode.proofs.Capacity.{CanCount}
use Rattle.avro_decode.proofs.Nodes.{small_below}

-- none of the types holds offsets of 32 bits
abbrev NoneSmall : List DataType → Type 0
NoneSmall [] = Unit {0}
NoneSmall (t ∷ ts) = (IsSmall t → ⊥) × NoneSmall ts

types_of : (fs : List Field) → All (λ f. IsSmall f.data_type → ⊥) fs → NoneSmall (map (λ f. f.data_type) fs)
types_of [] h = tt
types_of (f ∷ fs) h = (All-head (λ (g : Field). IsSmall g.data_type → ⊥) f fs h, types_of fs (All-tail (λ (g : Field). IsSmall g.data_type → ⊥) f fs h))

item_type : (t item : DataType) → IsListOf true t item → (IsSmall t → ⊥) → IsSmall item → ⊥
item_type t item l n s = n (subst IsSmall (sym l.1) ((small_composites.large_list l.0).1 (subst IsSmall (sym l.2) s)))

field_ones : (t : DataType) (ts : List DataType) → IsRecordOf t ts → (IsSmall t → ⊥) → NoneSmall ts
field_ones t ts r n = subst NoneSmall r.2 (types_of r.0 ((small_composites.fields r.0).0 (λ s. n (subst IsSmall (sym r.1) s))))

mutual
  large : (s : Schema) (sh : Shape) → Suits s sh → TypesFit sh → (IsSmall (shape_type sh) → ⊥) → all_large sh ≡ true
  large Boolean (flat physical.Boolean t) h f n = refl
  large (Int logical) (flat (physical.Primitive primitive.Int32) t) h f n = refl
  large (Long logical) (flat (physical.Primitive primitive.Int64) t) h f n = refl
  large (Bytes None) (flat physical.Binary t) h f n = absurd (n (subst IsSmall (sym h) tt))
  large (Bytes None) (flat physical.LargeBinary t) h f n = refl
  large (Bytes (Some decimal)) (flat (physical.Primitive primitive.Int128) t) h f n = refl
  large (String logical) (flat physical.Utf8 t) h f n = absurd (n (subst IsSmall (sym h) tt))
  large (String logical) (flat physical.LargeUtf8 t) h f n = refl
  large (Fixed x) (flat physical.FixedSizeBinary t) h f n = refl
  large (Fixed x) (flat (physical.Primitive primitive.Int128) t) h f n = refl
  large (Fixed x) (flat (physical.Primitive primitive.MonthDayNano) t) h f n = refl
  large (Enum e) (dictionary t items) h f n = refl
  large (Record r) (records t fs) h f n = record_large r fs h f.2 (field_ones t (field_types fs) f.1 n)
  large (Array' p item) (lists physical.List t s) h f n = absurd (n (subst IsSmall (sym f.0.1) tt))
  large (Array' p item) (lists physical.LargeList t s) h f n = item_large item s h f.1 (item_type t (shape_type s) f.0 n)
  large (Union' p members) s h f n = member_large members s h f n
  large _ _ h f n = absurd h

  record_large : (r : TheRecord) (sh : Shape) → SuitsRecord r sh → TypesFit sh → NoneSmall (field_types sh) → all_large sh ≡ true
  record_large (Record' name namespace doc p fields) sh h f n = fields_large fields sh h.1 f n

  item_large : {m : _} (row : Row_of-Schema m) (sh : Shape) → SuitsItem row sh → TypesFit sh → (IsSmall (shape_type sh) → ⊥) → all_large sh ≡ true
  item_large end_of-Schema sh h f n = absurd h
  item_large (more_of-Schema s rest) sh h f n = large s sh h f n

  member_large : {m : _} (row : Row_of-Schema m) (sh : Shape) → SuitsMembers row sh → TypesFit sh → (IsSmall (shape_type sh) → ⊥) → all_large sh ≡ true
  member_large (more_of-Schema a (more_of-Schema b end_of-Schema)) sh (inl h) f n = large b sh h.1 f n
  member_large (more_of-Schema a (more_of-Schema b end_of-Schema)) sh (inr h) f n = large a sh h.0 f n
  member_large _ sh h f n = absurd h

  fields_large : {m : _} (row : Row_of-AvroField m) (sh : Shape) → SuitsFields row sh → TypesFit sh → NoneSmall (field_types sh) → all_large sh ≡ true
  fields_large end_of-AvroField no_field h f n = refl
  fields_large (more_of-AvroField name doc s rest) (field first more) h f n =
      rw (large s first h.0 f.0 n.0, fields_large rest more h.1 f.1 n.1) refl
  fields_large _ _ h f n = absurd h

-- ---- the builders of a block

few_counted : (n : ℕ) (bs : List MutableArray) → n ≤ small_limit → CanCount n bs
few_counted n [] le = tt
few_counted n (b ∷ bs) le = let k = small_below (all_large (shape b)) in (omega (arith, le, k), few_counted n bs le)

large_counted : (n : ℕ) (avros : List AvroField) (bs : List MutableArray) → n < 2 ^ 63 → AllSuit avros bs → All (λ b. TypesFit (shape b)) bs → NoneSmall (map builder_type bs) → CanCount n bs
large_counted n avros [] lt s f h = tt
large_counted n [] (b ∷ bs) lt s f h = absurd s
large_counted n (a ∷ avros) (b ∷ bs) lt s f h =
    let l : all_large (shape b) ≡ true = large a.schema (shape b) s.0 (All-head (λ (c : MutableArray). TypesFit (shape c)) b bs f) (λ k. h.0 (subst IsSmall (sym (type_is b)) k)) in
    let le : n ≤ greatest_offset true = omega (arith, lt) in
    (subst (λ (x : Bool). n ≤ greatest_offset x) (sym l) le, large_counted n avros bs lt s.1 (All-tail (λ (c : MutableArray). TypesFit (shape c)) b bs f) h.1)

pub bytes_counted : (n : ℕ) (avros : List AvroField) (fs : List Field) (bs : List MutableArray) → n < 2 ^ 63 → AllSuit avros bs → All (λ b. TypesFit (shape b)) bs → map builder_type bs ≡ map (λ f. f.data_type) fs → (n ≤ small_limit) ⊎ All (λ f. IsSmall f.data_type → ⊥) fs → CanCount n bs
bytes_counted n avros fs bs lt s f e (inl le) = few_counted n bs le
bytes_counted n avros fs bs lt s f e (inr h) = large_counted n avros bs lt s f (subst NoneSmall (sym e) (types_of fs h))

-- whether offsets can count the bytes ahead, as the decoder asks
module _ (b : Bool) (n : ℕ) (bytes : List ℕ) (fields : List Field) (projection : List Bool) (left : n ≡ length bytes) (told : IsTrue b ↔ ((n ≤ small_limit) ⊎ All (λ f. IsSmall f.data_type → ⊥) (kept fields projection))) where
  told_of_bytes : IsTrue b ↔ OffsetsFit fields projection bytes
  told_of_bytes = subst (λ (k : ℕ). IsTrue b ↔ ((k ≤ small_limit) ⊎ All (λ (f : Field). IsSmall f.data_type → ⊥) (kept fields projection))) left told

  pub bytes_fit : b ≡ true → OffsetsFit fields projection bytes
  bytes_fit e = told_of_bytes.0 e

  pub bytes_do_not_fit : b ≡ false → OffsetsFit fields projection bytes → ⊥
  bytes_do_not_fit e h = let k : true ≡ false = sym (told_of_bytes.1 h) ∙ e in absurd cc
