-- The reading functions at arrays, unions and records, in terms of the lists of members and of fields.
use Rattle.std.proofs.Common.{◌≡◌, ℕ, zero, suc, nat_abs, List, [], ◌∷◌, Some, None, Ok, Err, refl, ap, ◌∙◌}
use Rattle.std.specs.Prelude.{option_and_then, if◌then◌else◌}
use Rattle.arrow_core.specs.declared.slot.Slot.TheVariants as slot
use Rattle.avro_schema.specs.declared.schema.Record.{Record as TheRecord, Record', out-Record, Row_of-AvroField, end_of-AvroField, more_of-AvroField, items-the_row-AvroField}
use Rattle.avro_schema.specs.declared.schema.Schema.{Schema, Array, Union, Record}
use Rattle.avro_schema.specs.declared.schema.Schema.TheBlock.{shape-the_row-Schema-0, hidden-the_row-Schema-0, shape-the_row-Schema-1, hidden-the_row-Schema-1}
use Rattle.avro_schema.proofs.ByLists.{row_fields, fields_are}
use Rattle.avro_schema.specs.Skips.{nothing, seen_only, both}
use Rattle.avro_reference.specs.Prefix.{number_at, is_index}
use Rattle.avro_reference.specs.Read.{push_one, array_at, read, read_record, read_member, read_fields}
use Rattle.avro_reference.specs.Skip.{◌>>=◌, Bad, measured_at, skip_array, skip, skip_record, skip_member, skip_fields}
use Rattle.avro_reference.specs.Listed.{read_member_of, read_union_of, read_fields_of, read_record_of, skip_member_of, skip_union_of, skip_fields_of}

-- ---- reading

pub read_array : (item : Schema) → read (Array item) ≡ array_at (read item)
unfolding shape-the_row-Schema-0 hidden-the_row-Schema-0 denote.Hole.Carrier.hidden
read_array item = refl

read_members : (members : List Schema) (k : ℕ) → read_member (hidden-the_row-Schema-1 members) k ≡ read_member_of members k
unfolding shape-the_row-Schema-1 hidden-the_row-Schema-1 denote.Hole.Carrier.hidden
read_members [] k = refl
read_members (s ∷ members) zero = refl
read_members (s ∷ members) (suc k) = read_members members k

pub read_union : (members : List Schema) → read (Union members) ≡ read_union_of members
unfolding shape-the_row-Schema-1 hidden-the_row-Schema-1 denote.Hole.Carrier.hidden
read_union members = λ i bytes. option_and_then (λ n. if is_index n.0 2 then read_members members (nat_abs n.0) i n.1 else None) (number_at bytes)

read_row : {m : _} (row : Row_of-AvroField m) → read_fields row ≡ read_fields_of (items-the_row-AvroField _ row)
read_row end_of-AvroField = refl
read_row (more_of-AvroField name doc s rest) = λ i old bytes. option_and_then (λ x. read_row rest i x.0 x.1) (push_one old (read s bytes))

read_all : (r : TheRecord) → read_record r ≡ read_fields_of (row_fields r)
read_all (Record' name namespace doc shape fields) = read_row fields

pub read_fields_are : (r : TheRecord) → read (Record r) ≡ read_record_of (out-Record r).fields
read_fields_are r = λ i bytes. option_and_then (λ xs. Some (slot.Struct xs.0, xs.1)) ((read_all r ∙ ap read_fields_of (fields_are r)) i [] bytes)

-- ---- skipping

pub skip_array_is : (item : Schema) → skip (Array item) ≡ skip_array (skip item)
unfolding shape-the_row-Schema-0 hidden-the_row-Schema-0 denote.Hole.Carrier.hidden
skip_array_is item = refl

skip_members : (members : List Schema) (k : ℕ) → skip_member (hidden-the_row-Schema-1 members) k ≡ skip_member_of members k
unfolding shape-the_row-Schema-1 hidden-the_row-Schema-1 denote.Hole.Carrier.hidden
skip_members [] k = refl
skip_members (s ∷ members) zero = refl
skip_members (s ∷ members) (suc k) = skip_members members k

pub skip_union : (members : List Schema) → skip (Union members) ≡ skip_union_of members
unfolding shape-the_row-Schema-1 hidden-the_row-Schema-1 denote.Hole.Carrier.hidden
skip_union members = λ i bytes. (measured_at bytes >>= λ n. if is_index n.0.0 2 then (skip_members members (nat_abs n.0.0) i n.1 >>= λ p. Ok (both (seen_only n.0.1) p.0, p.1)) else Err Bad)

skip_row : {m : _} (row : Row_of-AvroField m) → skip_fields row ≡ skip_fields_of (items-the_row-AvroField _ row)
skip_row end_of-AvroField = refl
skip_row (more_of-AvroField name doc s rest) = λ i old bytes. (skip s bytes >>= λ p. skip_row rest i (both old p.0) p.1)

skip_all : (r : TheRecord) → skip_record r ≡ skip_fields_of (row_fields r)
skip_all (Record' name namespace doc shape fields) = skip_row fields

pub skip_fields_are : (r : TheRecord) → skip (Record r) ≡ skip_fields_of (out-Record r).fields nothing
skip_fields_are r = λ i. (skip_all r ∙ ap skip_fields_of (fields_are r)) i nothing
