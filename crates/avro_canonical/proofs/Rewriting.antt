-- A decoded block's canonical form.
use Rattle.std.proofs.Common.{◌≡◌, ◌∙◌, ℕ, zero, suc, ◌+◌, ◌<◌, Bool, true, List, [], ◌∷◌, ◌++◌, length, map, get_or, Some, refl, sym, ap, subst, arith}
use Rattle.std.specs.List.{AllByRecursion, range_with_len}
use Rattle.std.proofs.lemmas.List.{length-map}
use Rattle.std.proofs.lemmas.Option.{same_Some}
use Rattle.arrow_core.specs.declared.slot.Slot.{Slot}
use Rattle.arrow_core.specs.declared.types.Field.{Field}
use Rattle.arrow_array.specs.declared.array.Array.{Array}
use Rattle.arrow_array.specs.Arrays.{array_slots, array_type}
use Rattle.avro_schema.specs.declared.schema.AvroField.{AvroField}
use Rattle.avro_schema.specs.Parts.{Many}
use Rattle.avro_schema.specs.Rows.{Pieces, Row, Rows, column}
use Rattle.avro_schema.specs.ValidBlock.{KeepNoFloat, KeptEnumsFit, kept}
use Rattle.avro_schema.proofs.Basics.{bind_some}
use Rattle.avro_container.specs.Written.{AppendsBlock}
use Rattle.avro_container.specs.Canonical.{canonical_block}
use Rattle.avro_container.specs.File.{the_block}
use Rattle.avro_schema.specs.Columns.{AreColumns, columns, kept_types}
use Rattle.avro_schema.specs.Projected.{CanBeDecoded}
use Rattle.avro_schema.specs.Refusals.{AreCounted}
use Rattle.avro_types.specs.Listed.{named_all}
use Rattle.avro_types.specs.Schemas.{columns_fields}
use Rattle.avro_write.specs.Laws.{all_kept, plain_table}
use Rattle.avro_write.specs.Rows.{rows}
use Rattle.avro_canonical.specs.Canonical.{HasEncodings, IsRewriting, RewritesBlock, Rewriting, table_block}
use Rattle.avro_canonical.specs.Columns.{AreAccepted, HaveEncodings, encodings}
use Rattle.avro_canonical.specs.Laws.{AreBytes}
use Rattle.avro_canonical.proofs.Accepted.{accepted, clean_widths, fields_again, table_clean}
use Rattle.avro_canonical.proofs.Encoded.{rows_encoded}
use Rattle.avro_canonical.proofs.Serializers.{accepted_length}
use Rattle.avro_canonical.proofs.TableRows.{rows_are}

many_count : (n : ℕ) (fs : List AvroField) (keeps : List Bool) (bytes : List ℕ) (ys : List Pieces) → Many (Row fs keeps) n bytes ys → length ys ≡ n
many_count zero fs keeps bytes ys h = ap length h.1
many_count (suc n) fs keeps bytes ys h = ap length h.second.1 ∙ ap suc (many_count n fs keeps h.back h.second.0 h.second.2)

pub row_count : (n : ℕ) (fs : List AvroField) (keeps : List Bool) (bytes : List ℕ) (table : List (List Slot)) → Rows n fs keeps bytes table → length table ≡ n
row_count n fs keeps bytes table r = ap length r.told ∙ length-map r.pieces (λ y. y.slots) ∙ many_count n fs keeps bytes r.pieces r.encoded

pub kept_whole : {A : Type 0} (xs : List A) (avros : List AvroField) → length xs ≡ length avros → kept xs (all_kept avros) ≡ xs
kept_whole [] [] h = refl
kept_whole [] (a ∷ avros) h = refl
kept_whole (x ∷ xs) [] h = absurd (omega (arith, h))
kept_whole {A} (x ∷ xs) (a ∷ avros) h = ap (λ (ys : List A). x ∷ ys) (kept_whole xs avros (omega (arith, h)))

slots_length : (table : List (List Slot)) (k : ℕ) (arrays : List Array) → map array_slots arrays ≡ map (column table) (range_with_len k (length arrays)) → (j : ℕ) (d : Array) → j < length arrays → length (array_slots (get_or arrays j d)) ≡ length table
slots_length table k [] e j d l = absurd (omega (arith, l))
slots_length table k (a ∷ arrays) e zero d l = ap length (head_is e) ∙ length-map table _
  where
    head_is : {x y : List Slot} {xs ys : List (List Slot)} → x ∷ xs ≡ y ∷ ys → x ≡ y
    head_is q = cc
slots_length table k (a ∷ arrays) e (suc j) d l = slots_length table (k + 1) arrays (tail_is e) j d (omega (arith, l))
  where
    tail_is : {x y : List Slot} {xs ys : List (List Slot)} → x ∷ xs ≡ y ∷ ys → xs ≡ ys
    tail_is q = cc

-- a table's block, where it has rows and where it has none
pub some_block : (marker : List ℕ) (fields : List AvroField) (table : List (List Slot)) (n : ℕ) → length table ≡ n → (n ≡ 0 → ⊥) → canonical_block marker (the_block n (plain_table fields table)) ≡ table_block marker fields table
some_block marker fields [] n e some = absurd (some (sym e))
some_block marker fields (row ∷ table) n e some = ap (λ k. canonical_block marker (the_block k (plain_table fields (row ∷ table)))) (sym e)

no_block : (marker : List ℕ) (fields : List AvroField) (table : List (List Slot)) → length table ≡ 0 → [] ≡ table_block marker fields table
no_block marker fields [] e = refl
no_block marker fields (row ∷ table) e = absurd (omega (arith, e))

module _ (w : Rewriting) (is : IsRewriting w) (can : CanBeDecoded w.decoder) (n : ℕ) (bytes : List ℕ) (arrays : List Array) (are : AreBytes bytes)
    (cols : AreColumns n w.decoder.avro_fields w.decoder.projection bytes (map array_slots arrays)) (types : map array_type arrays ≡ kept_types w.decoder.fields w.decoder.projection)
    (counted : AreCounted n w.decoder.fields w.decoder.projection bytes) (symbols : KeptEnumsFit w.decoder.avro_fields w.decoder.projection) where
  abbrev avros : List AvroField
  avros = w.decoder.avro_fields

  abbrev table : List (List Slot)
  table = cols.0

  encoded : Rows n avros (all_kept avros) bytes table
  encoded = subst (λ (keeps : List Bool). Rows n avros keeps bytes table) is.whole cols.1

  count : length table ≡ n
  count = row_count n avros w.decoder.projection bytes table cols.1

  floats : KeepNoFloat avros (all_kept avros)
  floats = subst (KeepNoFloat avros) is.whole can.no_float

  slots : map array_slots arrays ≡ map (column table) (range_with_len 0 (length arrays))
  slots = cols.3 ∙ ap (λ k. columns k table) (length-map arrays array_slots)

  all_types : map array_type arrays ≡ map (λ (f : Field). f.data_type) w.decoder.fields
  all_types =
      types ∙ ap (λ (keeps : List Bool). map (λ (f : Field). f.data_type) (kept w.decoder.fields keeps)) is.whole
      ∙ ap (map (λ (f : Field). f.data_type)) (kept_whole w.decoder.fields avros can.lengths.0)

  raw : (fs : List AvroField) × (columns_fields true 0 w.decoder.fields ≡ Some fs) × (Some (named_all 0 fs) ≡ Some w.fields)
  raw = bind_some (columns_fields true 0 w.decoder.fields) (λ fs. Some (named_all 0 fs)) w.fields is.target

  both : AreAccepted w.fields arrays × AllByRecursion (λ xs. length xs ≡ length w.fields) table
  both =
      let again = fields_again true 0 0 avros w.decoder.fields raw.0 can.carried floats is.inferred raw.1 in
      let clean = table_clean n avros w.decoder.fields (named_all 0 raw.0) bytes table again are encoded in
      subst (λ (fs : List AvroField). AreAccepted fs arrays × AllByRecursion (λ xs. length xs ≡ length fs) table) (same_Some _ w.fields raw.2)
      (accepted avros w.decoder.fields (named_all 0 raw.0) arrays table again clean all_types slots, clean_widths (named_all 0 raw.0) table clean)

  pub all_accepted : AreAccepted w.fields arrays
  all_accepted = both.0

  pub all_counted : (number : ℕ) → number ≡ n → (j : ℕ) (d : Array) → j < length arrays → length (array_slots (get_or arrays j d)) ≡ number
  all_counted number e j d l = slots_length table 0 arrays slots j d l ∙ count ∙ sym e

  table_bytes : rows n (encodings w.fields (map array_slots arrays)) ≡ plain_table w.fields table
  table_bytes =
      ap (λ (cs : List (List Slot)). rows n (encodings w.fields cs)) (slots ∙ ap (λ k. map (column table) (range_with_len 0 k)) (sym (accepted_length w.fields arrays both.0)))
      ∙ ap (λ k. rows k (encodings w.fields (map (column table) (range_with_len 0 (length w.fields))))) (sym count)
      ∙ rows_are w.fields table both.1

  rewritten : (text : List ℕ) → HasEncodings w.fields table → text ≡ table_block w.marker w.fields table → RewritesBlock w (the_block n bytes) text
  rewritten text encodings_are e = record { table = table; has = record { rows = cols.1; counted = counted; symbols = symbols }; encoded = encodings_are; is = e }

  pub block_appended : (old new bytes_of number_bytes : List ℕ) (number : ℕ) → (n ≡ 0 → ⊥) → HaveEncodings w.fields arrays → number ≡ n → number_bytes ≡ rows number (encodings w.fields (map array_slots arrays)) → bytes_of ≡ canonical_block w.marker (the_block number number_bytes) → new ≡ old ++ bytes_of
      → AppendsBlock (RewritesBlock w) (the_block n bytes) old new
  block_appended old new bytes_of number_bytes number some have same filled is_block appended =
      let full : number_bytes ≡ plain_table w.fields table = filled ∙ ap (λ k. rows k (encodings w.fields (map array_slots arrays))) same ∙ table_bytes in
      (bytes_of, rewritten bytes_of (rows_encoded w.fields arrays table both.1 have slots) (is_block ∙ (λ i. canonical_block w.marker (the_block (same i) (full i))) ∙ some_block w.marker w.fields table n count some), appended)
