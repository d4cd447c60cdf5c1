-- Types and carried schemas, case by case.
use Rattle.std.proofs.Common.{◌≡◌, ◌↔◌, ◌⊎◌, inl, inr, List, [], ◌∷◌, length, true, false, IsTrue, refl, ap, arith}
use Rattle.std.specs.List.{AllByRecursion}
use Rattle.std.proofs.lemmas.Bool.{false≢true}
use Rattle.avro_schema.specs.declared.schema.Schema.{Schema, Record}
use Rattle.avro_schema.specs.declared.schema.Schema.TheBlock.{shape-the_row-Schema-0, hidden-the_row-Schema-0, shape-the_row-Schema-1, hidden-the_row-Schema-1}
use Rattle.avro_schema.specs.declared.schema.Record.{Record as TheRecord, out-Record}
use Rattle.avro_schema.specs.Carried.{Carried}
use Rattle.avro_schema.specs.Listed.{CarriedMembersOf}
use Rattle.avro_schema.specs.TypeExamples.{HasOnlyType, flat_types, TypeTable, LargeTypeTable, NullableExamples, flat_schemas, CarriedExamples}
use Rattle.avro_schema.proofs.ByLists.{moved, carried_union, carried_record}

same : {A : Type 0} → A ↔ A
same = (λ h. h, λ h. h)

-- without the large form
small : {A B : Type 0} → (A ⊎ (IsTrue false × B)) ↔ A
small {A} {B} = (one, λ h. inl h)
  where
    one : A ⊎ (IsTrue false × B) → A
    one (inl h) = h
    one (inr h) = absurd (false≢true h.0)

-- with it
large : {A B : Type 0} → (A ⊎ (IsTrue true × B)) ↔ (A ⊎ B)
large {A} {B} = (one, other)
  where
    one : A ⊎ (IsTrue true × B) → A ⊎ B
    one (inl h) = inl h
    one (inr h) = inr h.1

    other : A ⊎ B → A ⊎ (IsTrue true × B)
    other (inl h) = inl h
    other (inr h) = inr (refl, h)

flat_types_hold : AllByRecursion HasOnlyType flat_types
flat_types_hold =
    (λ t. same, (λ t. same, (λ t. same, (λ t. same, (λ t. same, (λ t. same, (λ t. same, (λ t. same, (λ t. same, (λ t. same, (λ t. same, (λ t. same, (λ t. same, (λ t. same, (λ t. same, (λ t. small, (λ t. small, (λ t. small, tt))))))))))))))))))

pub type_table : TypeTable
unfolding shape-the_row-Schema-0 hidden-the_row-Schema-0 denote.Hole.Carrier.hidden
type_table = record {
  flat = flat_types_hold;
  bytes_decimal = λ precision scale t. same;
  fixed = λ size t. same;
  fixed_decimal = λ size precision scale t. same;
  duration = λ size t. same;
  symbols = λ e t. same;
  list = λ item t. (λ h. (h.0, small.0 h.1, h.2), λ h. (h.0, small.1 h.1, h.2));
  no_map = λ value t h. h;
}

pub large_type_table : LargeTypeTable
unfolding shape-the_row-Schema-0 hidden-the_row-Schema-0 denote.Hole.Carrier.hidden
large_type_table = record {
  string = λ logical t. large;
  bytes = λ t. large;
  list = λ item t. (λ h. (h.0, large.0 h.1, h.2), λ h. (h.0, large.1 h.1, h.2));
}

either : {A : Type 0} → A ⊎ A → A
either (inl h) = h
either (inr h) = h

pub nullable_examples : NullableExamples
unfolding shape-the_row-Schema-1 hidden-the_row-Schema-1 denote.Hole.Carrier.hidden
nullable_examples = record {
  required = λ f. same;
  null_first = λ f. (λ h. (h.0, first h.1), λ h. (h.0, inl (tt, h.1)));
  null_second = λ f. (λ h. (h.0, second h.1), λ h. (h.0, inr (h.1, tt)));
}
  where
    first : {A B : Type 0} → (Unit {0} × A) ⊎ (B × ⊥) → A
    first (inl h) = h.1
    first (inr h) = absurd h.1

    second : {A B : Type 0} → (⊥ × B) ⊎ (A × Unit {0}) → A
    second (inl h) = absurd h.0
    second (inr h) = h.0

-- ---- what is carried

are_two : (members : List Schema) → CarriedMembersOf members → length members ≡ 2
are_two [] c = absurd c
are_two (s ∷ []) c = absurd c
are_two (s ∷ u ∷ []) c = refl
are_two (s ∷ u ∷ v ∷ rest) c = absurd c

no_members : {A B C D : Type 0} → (A × ⊥ × B) ⊎ (⊥ × C × D) → ⊥
no_members (inl h) = h.1
no_members (inr h) = h.0

flat_carried : AllByRecursion Carried flat_schemas
unfolding shape-the_row-Schema-0 hidden-the_row-Schema-0 shape-the_row-Schema-1 hidden-the_row-Schema-1 denote.Hole.Carrier.hidden
flat_carried = (tt, (tt, (tt, (tt, (tt, (tt, (tt, (tt, (inl (tt, tt, tt), (inr (tt, tt, tt), (omega arith, (refl, tt))))))))))))

empty : (r : TheRecord) → (out-Record r).fields ≡ [] → Carried (Record r) → ⊥
empty r e c = let h = (carried_record r).0 c in omega (arith, h.0, ap length e)

pub carried_examples : CarriedExamples
unfolding shape-the_row-Schema-0 hidden-the_row-Schema-0 shape-the_row-Schema-1 hidden-the_row-Schema-1 denote.Hole.Carrier.hidden
carried_examples = record {
  carried = flat_carried;
  null = λ h. h;
  nulls = λ h. h;
  map = λ value h. h;
  two_members = λ members c. are_two members (moved (carried_union members) c);
  two_nulls = no_members;
  no_null = no_null;
  nested_union = nested;
  empty_record = empty;
  no_bytes = λ h. omega (arith, h);
  empty_decimal = λ precision scale h. omega (arith, h);
  duration = λ size h. h;
}
  where
    no_null : {A B C D : Type 0} → (⊥ × A × B) ⊎ (C × D × ⊥) → ⊥
    no_null (inl h) = h.0
    no_null (inr h) = h.2

    nested : {A B C D : Type 0} → (A × B × ⊥) ⊎ (⊥ × C × D) → ⊥
    nested (inl h) = h.2
    nested (inr h) = h.0
