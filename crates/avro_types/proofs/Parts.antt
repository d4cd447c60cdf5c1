-- Floats and enums in schemas, in terms of the lists of members and of fields that code sees.
use Rattle.std.proofs.Common.{◌≡◌, ◌↔◌, ◌⊎◌, inl, inr, ℕ, zero, suc, ◌<◌, ◌≤◌, Bool, IsTrue, true, false, List, [], ◌∷◌, length, get_or, All, refl, sym, ap, subst, ◌∙◌, arith}
use Rattle.std.specs.Prelude.{sum_by}
use Rattle.avro_schema.specs.declared.schema.AvroField.{AvroField}
use Rattle.avro_schema.specs.declared.schema.Enum.{Enum as TheEnum}
use Rattle.avro_schema.specs.declared.schema.Record.{Record as TheRecord, Record', out-Record, Row_of-AvroField, end_of-AvroField, more_of-AvroField, items-the_row-AvroField}
use Rattle.avro_schema.specs.declared.schema.Schema.{Schema, Array, Map, Union, Record, Enum}
use Rattle.avro_schema.specs.declared.schema.Schema.TheBlock.{shape-the_row-Schema-0, hidden-the_row-Schema-0, shape-the_row-Schema-1, hidden-the_row-Schema-1}
use Rattle.avro_schema.specs.ValidBlock.{small_limit, HasPart, AnyHasPart, RecordHasPart, FieldHasPart, IsFloat, HasFloat, SymbolsFit, HasTooManySymbols, EnumsFit}
use Rattle.avro_schema.proofs.ByLists.{row_fields, fields_are}
use Rattle.avro_schema.proofs.TypeLemmas.{float_composites, enum_composites}
use Rattle.avro_types.specs.Parts.{AnyOf}

-- ---- some element

module _ {X : Type 0} (P : X → Type 0) where
  pub any_at : (xs : List X) (i : ℕ) (d : X) → i < length xs → P (get_or xs i d) → AnyOf P xs
  any_at [] i d lt h = absurd (omega (arith, lt))
  any_at (x ∷ xs) zero d lt h = inl h
  any_at (x ∷ xs) (suc i) d lt h = inr (any_at xs i d (omega (arith, lt)) h)

  pub any_none : (xs : List X) → ((i : ℕ) (d : X) → i < length xs → P (get_or xs i d) → ⊥) → AnyOf P xs → ⊥
  any_none [] h k = k
  any_none (x ∷ xs) h (inl k) = h 0 x (omega arith) k
  any_none (x ∷ xs) h (inr k) = any_none xs (λ i d lt. h (suc i) d (omega (arith, lt))) k

-- a test that another follows
pub follow : {P Q : Type 0} (b : Bool) → (P ↔ Q) → IsTrue b ↔ P → IsTrue b ↔ Q
follow b e h = (λ t. e.0 (h.0 t), λ q. h.1 (e.1 q))

-- ---- floats

not_apart : {A B : Type 0} → (A → ⊥) → (A ⊎ B) → B
not_apart f (inl a) = absurd (f a)
not_apart f (inr b) = b

pub or_none : {A : Type 0} → A ⊎ ⊥ → A
or_none (inl a) = a
or_none (inr b) = absurd b

part_map : (P : Schema → Type 0) (value : Schema) → (P (Map value) → ⊥) → HasPart P (Map value) ↔ HasPart P value
unfolding shape-the_row-Schema-0 hidden-the_row-Schema-0 denote.Hole.Carrier.hidden
part_map P value apart = (λ h. or_none (not_apart apart h), λ h. inr (inl h))

any_member : (P : Schema → Type 0) (members : List Schema) → AnyHasPart P (hidden-the_row-Schema-1 members) ≡ AnyOf (HasPart P) members
unfolding shape-the_row-Schema-1 hidden-the_row-Schema-1 denote.Hole.Carrier.hidden
any_member P [] = refl
any_member P (s ∷ members) = ap (λ (T : Type 0). HasPart P s ⊎ T) (any_member P members)

moved : {A B : Type 0} → A ≡ B → A → B
moved e = subst (λ (T : Type 0). T) e

part_union : (P : Schema → Type 0) (members : List Schema) → (P (Union members) → ⊥) → HasPart P (Union members) ↔ AnyOf (HasPart P) members
unfolding shape-the_row-Schema-1 hidden-the_row-Schema-1 denote.Hole.Carrier.hidden
part_union P members apart = (λ h. moved (any_member P members) (not_apart apart h), λ h. inr (moved (sym (any_member P members)) h))

any_row : (P : Schema → Type 0) {m : _} (row : Row_of-AvroField m) → FieldHasPart P row ≡ AnyOf (λ a. HasPart P a.schema) (items-the_row-AvroField _ row)
any_row P end_of-AvroField = refl
any_row P (more_of-AvroField name doc s rest) = ap (λ (T : Type 0). HasPart P s ⊎ T) (any_row P rest)

any_field : (P : Schema → Type 0) (r : TheRecord) → RecordHasPart P r ≡ AnyOf (λ a. HasPart P a.schema) (row_fields r)
any_field P (Record' name namespace doc shape fields) = any_row P fields

part_record : (P : Schema → Type 0) (r : TheRecord) → (P (Record r) → ⊥) → HasPart P (Record r) ↔ AnyOf (λ a. HasPart P a.schema) (out-Record r).fields
part_record P r apart =
    let e = any_field P r ∙ ap (AnyOf (λ a. HasPart P a.schema)) (fields_are r) in
    (λ h. moved e (not_apart apart h), λ h. inr (moved (sym e) h))

module _ (s : Schema) (b : Bool) where
  pub float_array : (item i : Schema) → s ≡ Array item → i ≡ item → IsTrue b ↔ HasFloat i → IsTrue b ↔ HasFloat s
  float_array item i e x h =
      let k : HasFloat s ↔ HasFloat item = subst (λ (t : Schema). HasFloat t ↔ HasFloat item) (sym e) (float_composites.array item) in
      follow b (k.1, k.0) (subst (λ (j : Schema). IsTrue b ↔ HasFloat j) x h)

  pub float_map : (value i : Schema) → s ≡ Map value → i ≡ value → IsTrue b ↔ HasFloat i → IsTrue b ↔ HasFloat s
  float_map value i e x h =
      let k : HasFloat s ↔ HasFloat value = subst (λ (t : Schema). HasFloat t ↔ HasFloat value) (sym e) (part_map IsFloat value (λ n. n)) in
      follow b (k.1, k.0) (subst (λ (j : Schema). IsTrue b ↔ HasFloat j) x h)

  pub float_union : (members ms : List Schema) → s ≡ Union members → ms ≡ members → IsTrue b ↔ AnyOf HasFloat ms → IsTrue b ↔ HasFloat s
  float_union members ms e x h =
      let k : HasFloat s ↔ AnyOf HasFloat members = subst (λ (t : Schema). HasFloat t ↔ AnyOf HasFloat members) (sym e) (part_union IsFloat members (λ n. n)) in
      follow b (k.1, k.0) (subst (λ (xs : List Schema). IsTrue b ↔ AnyOf HasFloat xs) x h)

  pub float_record : (r : TheRecord) (fs : List AvroField) → s ≡ Record r → fs ≡ (out-Record r).fields → IsTrue b ↔ AnyOf (λ a. HasFloat a.schema) fs → IsTrue b ↔ HasFloat s
  float_record r fs e x h =
      let k : HasFloat s ↔ AnyOf (λ a. HasFloat a.schema) (out-Record r).fields = subst (λ (t : Schema). HasFloat t ↔ AnyOf (λ a. HasFloat a.schema) (out-Record r).fields) (sym e) (part_record IsFloat r (λ n. n)) in
      follow b (k.1, k.0) (subst (λ (xs : List AvroField). IsTrue b ↔ AnyOf (λ a. HasFloat a.schema) xs) x h)

-- ---- enums

enum_map : (value : Schema) → EnumsFit (Map value) ↔ EnumsFit value
enum_map value =
    let part = part_map HasTooManySymbols value (λ h. h) in
    (λ h k. h (part.1 k), λ h k. h (part.0 k))

module _ (s : Schema) (b : Bool) where
  pub enums_array : (item i : Schema) → s ≡ Array item → i ≡ item → IsTrue b ↔ EnumsFit i → IsTrue b ↔ EnumsFit s
  enums_array item i e x h =
      let k : EnumsFit s ↔ EnumsFit item = subst (λ (t : Schema). EnumsFit t ↔ EnumsFit item) (sym e) (enum_composites.array item) in
      follow b (k.1, k.0) (subst (λ (j : Schema). IsTrue b ↔ EnumsFit j) x h)

  pub enums_map : (value i : Schema) → s ≡ Map value → i ≡ value → IsTrue b ↔ EnumsFit i → IsTrue b ↔ EnumsFit s
  enums_map value i e x h =
      let k : EnumsFit s ↔ EnumsFit value = subst (λ (t : Schema). EnumsFit t ↔ EnumsFit value) (sym e) (enum_map value) in
      follow b (k.1, k.0) (subst (λ (j : Schema). IsTrue b ↔ EnumsFit j) x h)

  pub enums_union : (members ms : List Schema) → s ≡ Union members → ms ≡ members → IsTrue b ↔ All EnumsFit ms → IsTrue b ↔ EnumsFit s
  enums_union members ms e x h =
      let k : EnumsFit s ↔ All EnumsFit members = subst (λ (t : Schema). EnumsFit t ↔ All EnumsFit members) (sym e) (enum_composites.union members) in
      follow b (k.1, k.0) (subst (λ (xs : List Schema). IsTrue b ↔ All EnumsFit xs) x h)

  pub enums_record : (r : TheRecord) (fs : List AvroField) → s ≡ Record r → fs ≡ (out-Record r).fields → IsTrue b ↔ All (λ a. EnumsFit a.schema) fs → IsTrue b ↔ EnumsFit s
  enums_record r fs e x h =
      let k : EnumsFit s ↔ All (λ a. EnumsFit a.schema) (out-Record r).fields = subst (λ (t : Schema). EnumsFit t ↔ All (λ a. EnumsFit a.schema) (out-Record r).fields) (sym e) (enum_composites.fields r) in
      follow b (k.1, k.0) (subst (λ (xs : List AvroField). IsTrue b ↔ All (λ a. EnumsFit a.schema) xs) x h)

  -- a test tells of its negation's negation what it tells of a fact
  twice : (P : Type 0) → IsTrue b ↔ P → IsTrue b ↔ ((P → ⊥) → ⊥)
  twice P h = (λ t n. n (h.0 t), λ n. from b refl n)
    where
      from : (c : Bool) → b ≡ c → ((P → ⊥) → ⊥) → IsTrue b
      from true e n = e
      from false e n = absurd (n (λ p. let w : false ≡ true = sym e ∙ h.1 p in absurd cc))

  pub enums_here : (d : TheEnum) (xs : List (List ℕ)) → s ≡ Enum d → xs ≡ d.symbols → IsTrue b ↔ ((length xs ≤ small_limit) × (sum_by length xs ≤ small_limit)) → IsTrue b ↔ EnumsFit s
  enums_here d xs e x h =
      let k : IsTrue b ↔ SymbolsFit d = subst (λ (ys : List (List ℕ)). IsTrue b ↔ ((length ys ≤ small_limit) × (sum_by length ys ≤ small_limit))) x h in
      subst (λ (t : Schema). IsTrue b ↔ EnumsFit t) (sym e) (twice (SymbolsFit d) k)
