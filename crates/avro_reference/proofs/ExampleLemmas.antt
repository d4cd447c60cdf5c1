-- The examples, computed by reading.
use Rattle.std.proofs.Common.{◌≡◌, ℕ, Bool, true, false, List, [], ◌∷◌, map, Some, None, Result, Ok, Err, refl, ◌∙◌, ap}
use Rattle.std.specs.List.{AllByRecursion}
use Rattle.std.specs.Str.{chars, is_utf8}
use Rattle.arrow_core.specs.declared.slot.Slot.{Slot}
use Rattle.arrow_core.specs.declared.slot.Slot.TheVariants as slot
use Rattle.avro_schema.specs.declared.schema.AvroField.{AvroField}
use Rattle.avro_schema.specs.declared.schema.Record.{roll-Record, out-roll-Record}
use Rattle.avro_schema.specs.declared.schema.Schema.{Schema, Int, Long, String, Array}
use Rattle.avro_schema.specs.declared.schema.Schema.TheBlock.{shape-the_row-Schema-0, hidden-the_row-Schema-0, shape-the_row-Schema-1, hidden-the_row-Schema-1}
use Rattle.avro_schema.specs.Rows.{Pieces}
use Rattle.avro_schema.specs.Skips.{nothing}
use Rattle.avro_reference.specs.Prefix.{groups_at, number_at, bytes_at, counted_at, sized_at}
use Rattle.avro_schema.specs.Encodes.{is_null}
use Rattle.avro_reference.specs.Read.{boolean_at, int_at, long_at, string_at, binary_at, decimal_at, bytes_logical_at, fixed_at, symbol_of, push_one, items, block_items, blocks, array_at, read}
use Rattle.avro_reference.specs.Skip.{Fault, Bad, Negative, or_bad, measured_at, jump_at, jump_counted, skip_raw, skip_number, skip_sized, skip_items, skip_stated, skip_block_items, skip_blocks, skip_array, skip}
use Rattle.avro_reference.specs.Listed.{read_record_of, skip_fields_of}
use Rattle.avro_reference.specs.Block.{row_after, rows_after, block}
use Rattle.avro_reference.specs.Examples.{Example, Means, Holds, field, row_of, optional, record_of, whole, numbers, flat_kinds, decimals, skipped_kinds, rows_of_two_fields, arrays, sizes_below_zero, false_counts}
use Rattle.avro_reference.proofs.ByLists.{read_fields_are, skip_fields_are}
use Rattle.avro_reference.proofs.Exact.{block_gives_rows, block_is_negative, block_is_bad}

-- what is computed holds
abbrev Computed : Example → Type 0
Computed e = block e.n e.fields e.projection e.bytes ≡ e.answer

means : (n : ℕ) (fields : List AvroField) (projection : List Bool) (bytes : List ℕ) (answer : Result (List Pieces) Fault) → block n fields projection bytes ≡ answer → Means n fields projection bytes answer
means n fields projection bytes (Ok pieces) e = (block_gives_rows n fields projection bytes pieces).0 e
means n fields projection bytes (Err Negative) e = (block_is_negative n fields projection bytes).0 e
means n fields projection bytes (Err Bad) e = (block_is_bad n fields projection bytes).0 e

all_hold : (es : List Example) → AllByRecursion Computed es → AllByRecursion Holds es
all_hold [] h = tt
all_hold (e ∷ es) h = (means e.n e.fields e.projection e.bytes e.answer h.0, all_hold es h.1)

pub numbers_hold : AllByRecursion Holds numbers
unfolding groups_at number_at int_at long_at or_bad measured_at skip_number row_after rows_after block
numbers_hold = all_hold numbers (refl, (refl, (refl, (refl, (refl, (refl, (refl, (refl, tt))))))))

pub flat_kinds_hold : AllByRecursion Holds flat_kinds
unfolding groups_at number_at bytes_at counted_at sized_at boolean_at string_at binary_at bytes_logical_at fixed_at symbol_of int_at or_bad measured_at jump_at jump_counted skip_raw skip_sized row_after rows_after block is_utf8 chars lib.Utf8.encode shape-the_row-Schema-1 hidden-the_row-Schema-1 denote.Hole.Carrier.hidden
flat_kinds_hold = all_hold flat_kinds (refl, (refl, (refl, (refl, (refl, (refl, (refl, (refl, (refl, (refl, tt))))))))))

pub decimals_hold : AllByRecursion Holds decimals
unfolding groups_at number_at bytes_at counted_at sized_at decimal_at bytes_logical_at fixed_at int_at or_bad measured_at jump_at jump_counted skip_sized row_after rows_after block
decimals_hold = all_hold decimals (refl, (refl, (refl, (refl, tt))))

-- the skipped record of a string and an array
abbrev skipped_bytes : List ℕ
skipped_bytes = 0x02 ∷ 0xff ∷ 0x03 ∷ 0x04 ∷ 0xff ∷ 0xff ∷ 0x00 ∷ 0x02 ∷ []

abbrev skipped_fields : List AvroField
skipped_fields = map field (String None ∷ Array (Long None) ∷ [])

fields_skipped : skip_fields_of skipped_fields nothing skipped_bytes ≡ Ok (record { seen = 4; hidden = 2 }, 0x02 ∷ [])
unfolding groups_at number_at or_bad measured_at jump_at jump_counted skip_sized skip_stated skip_block_items skip_blocks skip_array shape-the_row-Schema-0 hidden-the_row-Schema-0 denote.Hole.Carrier.hidden
fields_skipped = refl

record_skipped : skip (record_of (String None ∷ Array (Long None) ∷ [])) skipped_bytes ≡ Ok (record { seen = 4; hidden = 2 }, 0x02 ∷ [])
record_skipped =
    let r = roll-Record (record { name = []; namespace = None; doc = None; fields = skipped_fields }) in
    ap (λ f. f skipped_bytes) (skip_fields_are r) ∙ ap (λ o. skip_fields_of o.fields nothing skipped_bytes) (out-roll-Record _) ∙ fields_skipped

skipped_computed : (s : Schema) → skip s skipped_bytes ≡ Ok (record { seen = 4; hidden = 2 }, 0x02 ∷ []) → block 1 (field s ∷ field (Int None) ∷ []) (false ∷ true ∷ []) skipped_bytes ≡ Ok (row_of (whole 1 ∷ []) 1 4 2 ∷ [])
unfolding groups_at number_at int_at or_bad row_after rows_after block
skipped_computed s e = rw e refl

pub skipped_kinds_hold : AllByRecursion Holds skipped_kinds
unfolding groups_at number_at int_at or_bad measured_at jump_at skip_raw skip_number skip_stated skip_block_items skip_blocks skip_array row_after rows_after block shape-the_row-Schema-0 hidden-the_row-Schema-0 shape-the_row-Schema-1 hidden-the_row-Schema-1 denote.Hole.Carrier.hidden
skipped_kinds_hold =
    all_hold skipped_kinds (refl, (refl, (refl, (refl, (refl, (skipped_computed (record_of (String None ∷ Array (Long None) ∷ [])) record_skipped, tt))))))

-- the record of 1 and a, b
abbrev one_and_strings : Slot
one_and_strings = slot.Struct (whole 1 ∷ slot.List (slot.String (0x61 ∷ []) ∷ slot.String (0x62 ∷ []) ∷ []) ∷ [])

abbrev its_bytes : List ℕ
its_bytes = 0x02 ∷ 0x04 ∷ 0x02 ∷ 0x61 ∷ 0x02 ∷ 0x62 ∷ 0x00 ∷ []

abbrev its_fields : List AvroField
its_fields = map field (Int None ∷ Array (String None) ∷ [])

fields_computed : read_record_of its_fields its_bytes ≡ Some (one_and_strings, [])
unfolding groups_at number_at bytes_at counted_at sized_at int_at string_at push_one items block_items blocks array_at is_utf8 chars lib.Utf8.encode shape-the_row-Schema-0 hidden-the_row-Schema-0 denote.Hole.Carrier.hidden
fields_computed = refl

record_computed : read (record_of (Int None ∷ Array (String None) ∷ [])) its_bytes ≡ Some (one_and_strings, [])
record_computed =
    let r = roll-Record (record { name = []; namespace = None; doc = None; fields = its_fields }) in
    ap (λ f. f its_bytes) (read_fields_are r) ∙ ap (λ o. read_record_of o.fields its_bytes) (out-roll-Record _) ∙ fields_computed

optional_computed : (s : Schema) (x : Slot) → is_null s ≡ false → read s its_bytes ≡ Some (x, []) → block 2 (field (optional s) ∷ []) (true ∷ []) (0x00 ∷ 0x02 ∷ its_bytes) ≡ Ok (row_of (slot.Null ∷ []) 1 0 0 ∷ row_of (x ∷ []) 8 0 0 ∷ [])
unfolding groups_at number_at or_bad row_after rows_after block shape-the_row-Schema-1 hidden-the_row-Schema-1 denote.Hole.Carrier.hidden
optional_computed s x n e = rw (n, e) refl

pub rows_of_two_fields_hold : AllByRecursion Holds rows_of_two_fields
unfolding groups_at number_at bytes_at counted_at sized_at int_at string_at or_bad measured_at skip_number row_after rows_after block is_utf8 chars lib.Utf8.encode shape-the_row-Schema-1 hidden-the_row-Schema-1 denote.Hole.Carrier.hidden
rows_of_two_fields_hold =
    all_hold rows_of_two_fields
    (refl, (refl, (refl, (refl, (refl, (refl, (optional_computed (record_of (Int None ∷ Array (String None) ∷ [])) one_and_strings refl record_computed, tt)))))))

pub arrays_hold : AllByRecursion Holds arrays
unfolding groups_at number_at int_at long_at push_one items block_items blocks array_at or_bad measured_at jump_at skip_stated skip_block_items skip_blocks skip_array row_after rows_after block shape-the_row-Schema-0 hidden-the_row-Schema-0 denote.Hole.Carrier.hidden
arrays_hold = all_hold arrays (refl, (refl, (refl, (refl, (refl, (refl, (refl, (refl, (refl, tt)))))))))

pub sizes_below_zero_hold : AllByRecursion Holds sizes_below_zero
unfolding groups_at number_at int_at long_at push_one items block_items blocks array_at or_bad measured_at jump_at jump_counted skip_sized skip_items skip_stated skip_block_items skip_blocks skip_array row_after rows_after block shape-the_row-Schema-0 hidden-the_row-Schema-0 shape-the_row-Schema-1 hidden-the_row-Schema-1 denote.Hole.Carrier.hidden
sizes_below_zero_hold = all_hold sizes_below_zero (refl, (refl, (refl, (refl, (refl, (refl, (refl, (refl, (refl, (refl, tt))))))))))

pub false_counts_hold : AllByRecursion Holds false_counts
unfolding groups_at number_at bytes_at counted_at sized_at int_at long_at string_at push_one items block_items blocks array_at or_bad measured_at jump_at jump_counted skip_number skip_items skip_stated skip_block_items skip_blocks skip_array row_after rows_after block roll-Record shape-the_row-Schema-0 hidden-the_row-Schema-0 shape-the_row-Schema-1 hidden-the_row-Schema-1 denote.Hole.Carrier.hidden
false_counts_hold = all_hold false_counts (refl, (refl, (refl, (refl, (refl, tt)))))
