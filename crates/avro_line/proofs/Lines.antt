-- Fields of records and rows that were shown, one after another, and rows.
use Rattle.std.proofs.Common.{◌≡◌, ℕ, suc, ◌+◌, ◌<◌, Bool, true, false, List, [], ◌∷◌, ◌++◌, length, map, drop, get_or, codes, Option, Some, refl, sym, ap, ◌∙◌, subst, append_assoc, append-nil, arith}
use Rattle.std.specs.Prelude.{if◌then◌else◌, option_and_then}
use Rattle.std.proofs.Math.Seq.{drop-length}
use Rattle.arrow_base.specs.WrittenString.{json_string}
use Rattle.arrow_core.specs.declared.slot.Slot.{Slot}
use Rattle.arrow_core.specs.declared.slot.Slot.TheVariants as slot
use Rattle.arrow_core.specs.declared.types.DataType.TheVariants as types
use Rattle.arrow_core.specs.declared.types.Field.{Field}
use Rattle.avro_schema.specs.declared.schema.AvroField.{AvroField}
use Rattle.avro_schema.specs.Inferred.{inferred}
use Rattle.avro_reference.specs.Listed.{read_fields_of}
use Rattle.avro_reference.specs.Read.{push_one, read}
use Rattle.json_text.specs.declared.columns.Column.{Column}
use Rattle.json_text.specs.Columns.{AreNamedFrom, AreWithin, IsForm, key_bytes, key_of}
use Rattle.json_text.specs.JsonText.{field_members, joined, member, object, text}
use Rattle.json_text.specs.Refusals.{all_in_range}
use Rattle.json_text.proofs.Beneath.{struct_in_range}
use Rattle.json_text.proofs.ColumnLemmas.{here}
use Rattle.json_text.proofs.Forms.{struct_is}
use Rattle.json_text.proofs.Records.{and_both}
use Rattle.avro_line.specs.Rows.{ArePreparedFrom, ArePrepared}
use Rattle.avro_line.specs.Values.{ShowsSlot, ShowsValue, ShowsRecord, IsNextColumn}
use Rattle.avro_line.proofs.Items.{begun, begun_more}

-- ---- the next column

-- what the next column is, of the fields that are left
pub record IsHere (is_first : Bool) (a : AvroField) (avro_fields : List AvroField) (fields : List Field) (column : Column) (within after : List Column) : Type 0 where
  pub field : Field
  pub others : List Field
  pub split : fields ≡ field ∷ others
  pub typed : inferred a.schema ≡ Some field.data_type
  pub key : key_bytes column.key ≡ key_of is_first field.name
  pub form : IsForm column.form field.data_type
  pub are_within : AreWithin field.data_type within
  pub prepared : ArePreparedFrom false avro_fields others after

pub is_here : (b : Bool) (a : AvroField) (avros : List AvroField) (fs : List Field) (columns : List Column) (column : Column) (within after : List Column) → ArePreparedFrom b (a ∷ avros) fs columns → IsNextColumn columns column within after → IsHere b a avros fs column within after
is_here b a avros [] columns column within after h n = absurd h.typed
is_here b a avros (f ∷ fs) columns column within after h n =
    let named : AreNamedFrom b (f.name ∷ map (λ g. g.name) fs) (f.data_type ∷ map (λ g. g.data_type) fs) (column ∷ n.0) = subst (AreNamedFrom b (f.name ∷ map (λ g. g.name) fs) (f.data_type ∷ map (λ g. g.data_type) fs)) n.1 h.named in
    record {
      field = f;
      others = fs;
      split = refl;
      typed = h.typed.0;
      key = named.0.0;
      form = named.0.1.1.0;
      are_within = subst (AreWithin f.data_type) (sym n.3) named.0.1.1.1;
      prepared = record { typed = h.typed.1; named = subst (AreNamedFrom false (map (λ g. g.name) fs) (map (λ g. g.data_type) fs)) (sym n.4) named.1 };
    }

-- what stands before the first of these members
abbrev pub opening_of : Bool → List ℕ
opening_of is_first = if is_first then codes "{" else codes ","

pub keyed : (b : Bool) (name v out key with_key now : List ℕ) → with_key ≡ out ++ key → key ≡ key_of b name → now ≡ with_key ++ v → now ≡ (out ++ opening_of b) ++ member name v
keyed b name v out key with_key now e k d =
    d ∙ ap (λ z. z ++ v) (e ∙ ap (λ z. out ++ z) k) ∙ regroup out (opening_of b) (json_string name) (codes ":") v
  where
    regroup : (a o j c v : List ℕ) → (a ++ (o ++ (j ++ c))) ++ v ≡ (a ++ o) ++ (j ++ (c ++ v))
    regroup a o j c v = simp append_assoc

-- ---- the fields of a record

-- fields were shown after an opening
pub record FieldsFrom (avro_fields : List AvroField) (fields : List Field) (opening before after old new : List ℕ) : Type 0 where
  pub slots : List Slot
  pub read : (first : List Slot) → read_fields_of avro_fields first before ≡ Some (first ++ slots, after)
  pub many : length slots ≡ length fields
  pub shown : new ≡ old ++ begun opening (field_members fields slots)
  pub dates : all_in_range fields slots ≡ true

fields_none : (opening before old : List ℕ) → FieldsFrom [] [] opening before before old old
fields_none opening before old = record {
  slots = [];
  read = λ first. ap (λ (xs : List Slot). Some (xs, before)) (sym (append-nil first));
  many = refl;
  shown = sym (append-nil old);
  dates = refl;
}

fields_more : (a : AvroField) (avros : List AvroField) (f : Field) (fs : List Field) (b : Bool) (key before mid after out with_key now new : List ℕ) → with_key ≡ out ++ key → key ≡ key_of b f.name → ShowsSlot (read a.schema) f.data_type before mid with_key now → FieldsFrom avros fs (codes ",") mid after now new → FieldsFrom (a ∷ avros) (f ∷ fs) (opening_of b) before after out new
unfolding push_one
fields_more a avros f fs b key before mid after out with_key now new e k x more = record {
  slots = x.value ∷ more.slots;
  read = λ first. (rw x.read (more.read (first ++ x.value ∷ []) ∙ ap (λ (xs : List Slot). Some (xs, after)) (append_assoc first (x.value ∷ []) more.slots)));
  many = ap suc more.many;
  shown = begun_more out (opening_of b) (member f.name (text f.data_type x.value)) now new (field_members fs more.slots) (keyed b f.name (text f.data_type x.value) out key with_key now e k x.shown) more.shown;
  dates = and_both _ _ x.dates more.dates;
}

-- k fields were shown: if the others are, all are
pub record FieldsUnderway (avro_fields : List AvroField) (fields : List Field) (k : ℕ) (columns : List Column) (before rest old out : List ℕ) : Type 0 where
  pub is_first : Bool
  pub others : List Field
  pub prepared : ArePreparedFrom is_first (drop k avro_fields) others columns
  pub left : (after new : List ℕ) → FieldsFrom (drop k avro_fields) others (opening_of is_first) rest after out new → FieldsFrom avro_fields fields (codes "{") before after old new

abbrev pub FieldsUnderwayOf : List AvroField → List Column → ℕ → List Column → List ℕ → List ℕ → List ℕ → List ℕ → Type 0
FieldsUnderwayOf avro_fields columns k left before rest old out = (fields : List Field) → ArePrepared avro_fields fields columns → FieldsUnderway avro_fields fields k left before rest old out

pub fields_begun : (avro_fields : List AvroField) (columns : List Column) (before old : List ℕ) → FieldsUnderwayOf avro_fields columns 0 columns before before old old
fields_begun avro_fields columns before old fields p = record { is_first = true; others = fields; prepared = p; left = λ after new h. h }

pub fields_next : (avro_fields : List AvroField) (columns : List Column) (k : ℕ) (a : AvroField) (rest_columns : List Column) (column : Column) (within after_columns : List Column) (before rest mid old out with_key now : List ℕ)
    → k < length avro_fields → a ≡ get_or avro_fields k a → FieldsUnderwayOf avro_fields columns k rest_columns before rest old out → IsNextColumn rest_columns column within after_columns
    → with_key ≡ out ++ key_bytes column.key → ShowsValue a.schema column.form within rest mid with_key now → FieldsUnderwayOf avro_fields columns (k + 1) after_columns before mid old now
fields_next avro_fields columns k a rest_columns column within after_columns before rest mid old out with_key now lt is h n e x fields p =
    let u = h fields p in
    let split = here avro_fields k a lt is in
    let at = is_here u.is_first a (drop (k + 1) avro_fields) u.others rest_columns column within after_columns (subst (λ (avros : List AvroField). ArePreparedFrom u.is_first avros u.others rest_columns) split u.prepared) n in
    record {
      is_first = false;
      others = at.others;
      prepared = at.prepared;
      left = λ after new more. u.left after new
          (subst (λ (avros : List AvroField). FieldsFrom avros u.others (opening_of u.is_first) rest after out new) (sym split)
          (subst (λ (fs : List Field). FieldsFrom (a ∷ drop (k + 1) avro_fields) fs (opening_of u.is_first) rest after out new) (sym at.split)
          (fields_more a (drop (k + 1) avro_fields) at.field at.others u.is_first (key_bytes column.key) rest mid after out with_key now new e at.key (x at.field.data_type at.typed at.form at.are_within) more)));
    }

-- no fields have a column
pub some_field : (avro_fields : List AvroField) (fields : List Field) (columns : List Column) → (length columns ≡ 0 → ⊥) → ArePrepared avro_fields fields columns → 0 < length fields
some_field avros [] columns some p = absurd (some p.named)
some_field avros (f ∷ fs) columns some p = omega arith

no_fields : (is_first : Bool) (k : ℕ) (avro_fields : List AvroField) (fields : List Field) (columns : List Column) → k ≡ length avro_fields → ArePreparedFrom is_first (drop k avro_fields) fields columns → (drop k avro_fields ≡ []) × (fields ≡ [])
no_fields b k avros fs columns e p =
    let none : drop k avros ≡ [] = ap (λ m. drop m avros) e ∙ drop-length avros in
    (none, nothing fs (subst (λ (xs : List AvroField). ArePreparedFrom b xs fs columns) none p))
  where
    nothing : (fs : List Field) → ArePreparedFrom b [] fs columns → fs ≡ []
    nothing [] q = refl
    nothing (f ∷ fs) q = absurd q.typed

pub closed : (fs : List Field) (xs : List Slot) (old body new : List ℕ) → 0 < length fs → length xs ≡ length fs → body ≡ old ++ begun (codes "{") (field_members fs xs) → new ≡ body ++ codes "}" → new ≡ old ++ object (field_members fs xs)
closed [] xs old body new some many e d = absurd (omega (arith, some))
closed (f ∷ fs) [] old body new some many e d = absurd (omega (arith, many))
closed (f ∷ fs) (x ∷ xs) old body new some many e d =
    let ts : List ℕ = joined (field_members (f ∷ fs) (x ∷ xs)) in
    d ∙ ap (λ z. z ++ codes "}") e ∙ append_assoc old (codes "{" ++ ts) (codes "}")

pub record_ended : (avro_fields : List AvroField) (columns : List Column) (k : ℕ) (left : List Column) (before rest old out new : List ℕ) → (length columns ≡ 0 → ⊥) → k ≡ length avro_fields → FieldsUnderwayOf avro_fields columns k left before rest old out → new ≡ out ++ codes "}" → ShowsRecord avro_fields columns before rest old new
record_ended avro_fields columns k left before rest old out new some e h d fields p =
    let u = h fields p in
    let none = no_fields u.is_first k avro_fields u.others left e u.prepared in
    let all = u.left rest out (subst (λ (avros : List AvroField). FieldsFrom avros u.others (opening_of u.is_first) rest rest out out) (sym none.0) (subst (λ (fs : List Field). FieldsFrom [] fs (opening_of u.is_first) rest rest out out) (sym none.1) (fields_none (opening_of u.is_first) rest out))) in
    record {
      value = slot.Struct all.slots;
      read = ap (λ (o : Option (List Slot × List ℕ)). option_and_then (λ xs. Some (slot.Struct xs.0, xs.1)) o) (all.read []);
      shown = closed fields all.slots old out new (some_field avro_fields fields columns some p) all.many all.shown d ∙ ap (λ z. old ++ z) (struct_is (types.Struct fields) fields all.slots refl);
      dates = sym (struct_in_range (types.Struct fields) fields all.slots refl) ∙ all.dates;
    }
