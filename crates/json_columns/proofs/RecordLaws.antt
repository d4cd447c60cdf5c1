-- Rows, their columns, and what is refused.
use Rattle.std.proofs.Common.{◌≡◌, inl, inr, ℕ, zero, suc, ◌<◌, Bool, true, false, ◌&&◌, not, List, [], ◌∷◌, length, slice_index_or, None, refl, sym, ap, ◌∙◌, subst, arith, Result, Ok, Err, IfOk, IfErr, OnOk}
use Rattle.std.proofs.lemmas.List.{length-map}
use Rattle.arrow_array.specs.Arrays.{array_slots}
use Rattle.arrow_array.specs.Chunks.{AreSameLength}
use Rattle.arrow_array.specs.declared.array.Array.{Array}
use Rattle.arrow_core.specs.declared.error.Error.{Error}
use Rattle.arrow_core.specs.declared.error.Error.TheVariants.{InvalidArgumentError, NotYetImplemented, Overflow}
use Rattle.arrow_core.specs.declared.error.Reason.TheVariants as reason
use Rattle.arrow_core.specs.declared.types.DataType.TheVariants as types
use Rattle.arrow_core.specs.declared.types.DataType.TheBlock.{shape-the_row-Field-0, hidden-the_row-Field-0}
use Rattle.arrow_core.specs.declared.types.Field.{Field}
use Rattle.json_tree.specs.Tree.{Json}
use Rattle.json_tree.specs.declared.value.Value.{out-Value}
use Rattle.json_tree.specs.declared.value.Value.TheVariants as variant
use Rattle.json_flat.specs.Meaning.{text_timestamp, slot_of}
use Rattle.json_flat.specs.Columns.{Has, means}
use Rattle.json_columns.specs.Faults.{AreMemberColumns, IsFieldsFault, IsStructFault, TooManyFields}
use Rattle.json_columns.specs.Gathered.{all_have_reading, field_meanings, members_named, member_in}
use Rattle.json_flat.specs.Reading.{has_reading, reading, struct_in}
use Rattle.json_columns.specs.Records.{are_of_record, AreRecordFields, first_fault, holds_more, is_of_record, IsRecordsRefusal, IsRowsRefusal, IsTableOf}
use Rattle.json_columns.proofs.FieldColumns.{members_fault}
use Rattle.json_columns.proofs.Refusing.{some_unfit}

-- ---- types

pub list_holds : (f : Field) → holds_more (types.List f) ≡ holds_more f.data_type
unfolding shape-the_row-Field-0 hidden-the_row-Field-0 denote.Hole.Carrier.hidden
list_holds f = refl

pub fixed_list_holds : (f : Field) (n : ℕ) → holds_more (types.FixedSizeList f n) ≡ holds_more f.data_type
unfolding shape-the_row-Field-0 hidden-the_row-Field-0 denote.Hole.Carrier.hidden
fixed_list_holds f n = refl

both : (a b : Bool) → (a && b) ≡ true → (a ≡ true) × (b ≡ true)
both true b e = (refl, e)
both false b e = absurd cc

pub read_fields : (fs : List Field) → are_of_record fs ≡ true → all_have_reading fs ≡ true
read_fields [] e = refl
read_fields (f ∷ fs) e =
    let p = both (is_of_record f.data_type) (are_of_record fs) e in
    let h = both (has_reading f.data_type) (not (holds_more f.data_type)) p.0 in
    (λ i. h.0 i && all_have_reading fs) ∙ read_fields fs p.1

-- ---- columns

-- each column has a slot for each row
as_long : (fs : List Field) (vs : List Json) (columns : List Array) (i : ℕ) (d : Array) → AreMemberColumns fs vs columns → i < length columns → length (array_slots (slice_index_or columns i d)) ≡ length vs
as_long [] vs [] i d h l = absurd (omega (arith, l))
as_long [] vs (a ∷ columns) i d h l = absurd h
as_long (f ∷ fs) vs [] i d h l = absurd h
as_long (f ∷ fs) vs (a ∷ columns) zero d h l =
    let m : Json → Json = λ v. member_in f.name (out-Value v) in
    omega (arith, length-map vs m, length-map (members_named f.name vs) (means (reading f.data_type)), length-map (array_slots a) slot_of, ap length h.0.1)
as_long (f ∷ fs) vs (a ∷ columns) (suc i) d h l = as_long fs vs columns i d h.1 (omega (arith, l))

pub same_length : (fs : List Field) (vs : List Json) (columns : List Array) → AreMemberColumns fs vs columns → AreSameLength columns
same_length fs vs columns h i j d less within = as_long fs vs columns i d h (omega (arith, less, within)) ∙ sym (as_long fs vs columns j d h within)

-- columns of rows make a chunk
pub no_lengths : (fs : List Field) (ws vs : List Json) (columns : List Array) (r : Result (List Array) Error) → AreMemberColumns fs ws columns
    → IfErr r (λ e. (e ≡ InvalidArgumentError reason.Lengths) × (AreSameLength columns → ⊥)) → IfErr r (IsStructFault fs vs)
no_lengths fs ws vs columns (Ok a) h e = tt
no_lengths fs ws vs columns (Err x) h e = absurd (e.1 (same_length fs ws columns h))

-- ---- refusals

-- a fault of the members of rows that are lent
pub rows_fault : (fs : List Field) (vs ws : List Json) (e : Error) → ws ≡ vs → IsFieldsFault fs ws e → IsStructFault fs vs e
rows_fault fs vs ws e we h = members_fault fs vs e (subst (λ z. IsFieldsFault fs z e) we h)

pub overflows : (fs : List Field) (vs : List Json) → first_fault fs vs ≡ None → IsStructFault fs vs Overflow → (Has text_timestamp (struct_in (field_meanings fs)) vs → ⊥) → IsRowsRefusal fs vs Overflow
overflows fs vs r (inl h) n = absurd cc
overflows fs vs r (inr (inl h)) n = absurd (is_not h.0)
  where
    is_not : Overflow ≡ NotYetImplemented reason.TextTimestamp → ⊥
    is_not e = absurd cc
overflows fs vs r (inr (inr h)) n = (r, n, elim h.1 [ inl a ↦ inl (some_unfit (struct_in (field_meanings fs)) vs n a) | inr b ↦ inr b ])

-- another fault is the answer as it is
pub others : (fs : List Field) (vs : List Json) (e : Error) → first_fault fs vs ≡ None → IsStructFault fs vs e → (e ≡ Overflow → ⊥) → IsRowsRefusal fs vs e
others fs vs e r (inl h) n = subst (IsRowsRefusal fs vs) (sym h) tt
others fs vs e r (inr (inl h)) n = subst (IsRowsRefusal fs vs) (sym h.0) (r, h.1)
others fs vs e r (inr (inr h)) n = absurd (n h.0)

-- ---- answers

module _ (json : Json) (rows : List Json) (fs : List Field) (distinct_of : AreRecordFields fs) (e : json ≡ variant.Array rows) where
  pub table : (r : Result (List Array) Error) → IfOk r (λ _. first_fault fs rows ≡ None) → IfOk r (AreMemberColumns fs rows) → OnOk r (TooManyFields fs rows → ⊥) → IfOk r (IsTableOf json fs)
  table (Ok a) f h n = (distinct_of, (rows, e, f, h, n))
  table (Err x) f h n = tt

  pub rows_refusal : (r : Result (List Array) Error) → IfErr r (IsRowsRefusal fs rows) → IfErr r (IsRecordsRefusal json fs)
  rows_refusal (Ok a) h = tt
  rows_refusal (Err x) h = inr (distinct_of, inr (rows, e, h))
