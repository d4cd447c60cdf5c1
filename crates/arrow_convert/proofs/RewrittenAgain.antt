-- A file that was rewritten, rewritten again, is the same file.
use Rattle.std.proofs.Common.{◌≡◌, ◌∙◌, ℕ, suc, ◌+◌, ◌<◌, ◌≤◌, true, inl, List, [], ◌∷◌, length, map, All, Option, Some, refl, sym, ap, subst, arith}
use Rattle.std.specs.Prelude.{sum_by}
use Rattle.std.specs.List.{AllByRecursion, AllZip}
use Rattle.std.specs.Io.KnownBytes.{Appends}
use Rattle.std.proofs.lemmas.List.Elements.{All-tail}
use Rattle.std.proofs.lemmas.List.Sums.{sum_by-cons}
use Rattle.std.proofs.lemmas.Option.{same_Some}
use Rattle.arrow_core.specs.declared.slot.Slot.{Slot}
use Rattle.arrow_core.specs.declared.types.Field.{Field}
use Rattle.avro_schema.specs.declared.schema.AvroField.{AvroField}
use Rattle.avro_schema.specs.declared.schema.Record.{out-Record}
use Rattle.avro_schema.specs.AndThen.{◌>>=◌}
use Rattle.avro_schema.specs.Carried.{Carried, CarriedList}
use Rattle.avro_schema.specs.Inferred.{column_field, columns_of, inferred, own_doc}
use Rattle.avro_schema.specs.Rows.{Rows}
use Rattle.avro_schema.specs.ValidBlock.{EnumsFit, HasFloat, KeepNoFloat}
use Rattle.avro_schema.proofs.Basics.{bind_some}
use Rattle.avro_schema.proofs.RowLaws.{rows_have}
use Rattle.avro_container.specs.File.{FileBlock, the_block}
use Rattle.avro_file.specs.File.{AvroFile, canonical_file}
use Rattle.avro_schema.specs.Projected.{Projected, projected, HasTable}
use Rattle.avro_types.specs.Back.{small_field}
use Rattle.avro_types.specs.Listed.{can_serialize_all}
use Rattle.avro_types.specs.Schemas.{can_serialize, column_schema, columns_fields, optional, plain_field, plain_record, schema_of, structs_in}
use Rattle.avro_write.specs.Laws.{all_kept, plain_table}
use Rattle.avro_write.proofs.TableLaw.{table_encodes}
use Rattle.avro_canonical.specs.Canonical.{CanBeRewritten, HasEncodings}
use Rattle.avro_canonical.specs.Rewritten.{HasCanonicalForm, RewritesFile, table_blocks}
use Rattle.avro_canonical.proofs.Again.{decoded_is_serializable}
use Rattle.avro_canonical.proofs.Complete.{files_are_rewritten}
use Rattle.avro_canonical.proofs.Making.{can_be_decoded}
use Rattle.avro_canonical.proofs.Rewriting.{kept_whole, row_count}
use Rattle.arrow_convert.specs.Laws.{with_rows}
use Rattle.arrow_convert.specs.ReadAgain.{AreShort, CanBeRead, IsRewrittenFile, RewrittenDoesNotFail, RewrittenIsFile, RewrittenIsSame, blocks_of}
use Rattle.arrow_convert.proofs.Files.{AreFilled, all_taken, got_is, is_avro_file}
use Rattle.arrow_convert.proofs.Forms.{of_rows, one_canonical_form}
use Rattle.arrow_convert.proofs.ReadNumbers.{column_type}
use Rattle.arrow_convert.proofs.RewrittenWritable.{rewritten_is_writable}
use Rattle.arrow_convert.proofs.SmallForms.{record_same}
use Rattle.arrow_convert.proofs.Targets.{AreTargets, are_targets}

-- ---- columns that were made from a schema can be serialized, where they have a record

no_float_tail : (a : AvroField) (avros : List AvroField) → KeepNoFloat (a ∷ avros) (all_kept (a ∷ avros)) → KeepNoFloat avros (all_kept avros)
no_float_tail a avros h k d l = h (suc k) d (omega (arith, l))

columns_serializable : (k : ℕ) (avros : List AvroField) (columns : List Field) (raw : List AvroField) → CarriedList avros → KeepNoFloat avros (all_kept avros) → columns_of own_doc avros ≡ Some columns → columns_fields true k columns ≡ Some raw
    → can_serialize_all columns ≡ true
columns_serializable k [] columns raw carried floats e q = ap can_serialize_all (sym (same_Some [] columns e))
columns_serializable k (a ∷ avros) columns raw carried floats e q =
    let one = bind_some (inferred a.schema) (λ t. columns_of own_doc avros >>= λ cs. Some (column_field a.name (own_doc a) a.schema t ∷ cs)) columns e in
    let two = bind_some (columns_of own_doc avros) (λ cs. Some (column_field a.name (own_doc a) a.schema one.0 ∷ cs)) columns one.2 in
    let c = column_field a.name (own_doc a) a.schema one.0 in
    let are : columns ≡ c ∷ two.0 = sym (same_Some (c ∷ two.0) columns two.2) in
    let u = bind_some (column_schema true k c) (λ y. columns_fields true (k + structs_in c.data_type) two.0 >>= λ more. Some (plain_field c.name y ∷ more)) raw (ap (columns_fields true k) (sym are) ∙ q) in
    let v = bind_some (columns_fields true (k + structs_in c.data_type) two.0) (λ more. Some (plain_field c.name u.0 ∷ more)) raw u.2 in
    let w = bind_some (schema_of true k c.data_type) (λ y. Some (optional true c.is_nullable y)) u.0 u.1 in
    let type : c.data_type ≡ one.0 = column_type a.name (own_doc a) a.schema one.0 in
    let first = decoded_is_serializable true k 0 a.schema w.0 one.0 (carried 0 a (omega arith)) (floats 0 a (omega arith)) one.1 (ap (schema_of true k) (sym type) ∙ w.1) in
    let serial : can_serialize c.data_type ≡ true = ap can_serialize type ∙ first.0 in
    let more = columns_serializable (k + structs_in c.data_type) avros two.0 v.0 (All-tail (λ (g : AvroField). Carried g.schema) a avros carried) (no_float_tail a avros floats) two.1 v.1 in
    ap can_serialize_all are ∙ (rw (serial, more) refl)

-- ---- counts

nothing_more : (n : ℕ) → 0 + n ≡ n
nothing_more n = omega arith

-- a file has as many rows as its canonical form
count_rows : (p : Projected) (fields : List AvroField) (blocks : List FileBlock) (tables : List (List (List Slot))) → AllZip (λ (b : FileBlock). HasTable p b.rows b.bytes) blocks tables
    → sum_by (λ (b : FileBlock). b.rows) blocks ≡ sum_by (λ (b : FileBlock). b.rows) (table_blocks fields tables)
count_rows p fields [] [] h = refl
count_rows p fields [] (t ∷ tables) h = absurd h
count_rows p fields (b ∷ blocks) [] h = absurd h
count_rows p fields (b ∷ blocks) ([] ∷ tables) h =
    let none : 0 ≡ b.rows = row_count b.rows p.avro_fields p.projection b.bytes [] h.0.rows in
    sum_by-cons (λ (c : FileBlock). c.rows) b blocks ∙ (λ i. sym none i + count_rows p fields blocks tables h.1 i) ∙ nothing_more (sum_by (λ (c : FileBlock). c.rows) (table_blocks fields tables))
count_rows p fields (b ∷ blocks) ((row ∷ table) ∷ tables) h =
    let some : length (row ∷ table) ≡ b.rows = row_count b.rows p.avro_fields p.projection b.bytes (row ∷ table) h.0.rows in
    sum_by-cons (λ (c : FileBlock). c.rows) b blocks ∙ (λ i. sym some i + count_rows p fields blocks tables h.1 i)
    ∙ sym (sum_by-cons (λ (c : FileBlock). c.rows) (the_block (length (row ∷ table)) (plain_table fields (row ∷ table))) (table_blocks fields tables))

module _ (name marker bytes : List ℕ) (count : ℕ) (f : IsRewrittenFile name marker bytes count) where
  abbrev r : RewritesFile name marker f.rewrites.bytes f.rewrites.text count
  r = f.rewrites.rewrites

  abbrev gs : List AvroField
  gs = (out-Record r.target).fields

  source_can : CanBeRewritten (out-Record r.form.root).fields r.form.columns r.form.nameless
  source_can = r.form.can

  targets : AreTargets r.form.columns gs
  targets =
      let one = bind_some (columns_fields true 0 r.form.columns) (λ raw. Some (plain_record [] raw)) r.form.nameless source_can.recorded in
      let serial = columns_serializable 0 (out-Record r.form.root).fields r.form.columns one.0 source_can.carried.1 source_can.no_float source_can.inferred one.1 in
      are_targets r.form.columns name r.form.nameless r.target source_can.recorded serial r.named

  some_fields : 0 < length gs
  some_fields = omega (arith, targets.as_many, (can_be_decoded (out-Record r.form.root).fields r.form.columns r.form.nameless source_can).some)

  is_table : (table : List (List Slot)) → HasEncodings gs table → Rows (length table) gs (all_kept gs) (plain_table gs table) table
  is_table table h = table_encodes gs table h

  filled_table : (table : List (List Slot)) → HasEncodings gs table → length table ≤ length (plain_table gs table)
  filled_table table h = rows_have (length table) gs (all_kept gs) (plain_table gs table) table some_fields targets.carried (is_table table h)

  filled : (tables : List (List (List Slot))) → AllByRecursion (HasEncodings gs) tables → AreFilled (table_blocks gs tables)
  filled [] h = tt
  filled ([] ∷ tables) h = filled tables h.1
  filled ((row ∷ table) ∷ tables) h = (filled_table (row ∷ table) h.0, filled tables h.1)

  can_be_read : CanBeRead r.target marker bytes
  can_be_read = record { writable = rewritten_is_writable name marker f.limit f.source f.sink count f.rewrites f.named; sixteen = f.sixteen; few = f.few }

  is_canonical : bytes ≡ canonical_file r.target marker (blocks_of f)
  is_canonical = got_is f.sink bytes f.rewrites.text f.got f.rewrites.written ∙ r.is

  is_file : AvroFile bytes r.target marker (blocks_of f)
  is_file = is_avro_file r.target marker bytes (blocks_of f) can_be_read is_canonical (filled r.form.tables r.encoded)

  encoded_rows : (tables : List (List (List Slot))) → AllByRecursion (HasEncodings gs) tables → AllByRecursion (HasEncodings gs) (with_rows tables)
  encoded_rows [] h = tt
  encoded_rows ([] ∷ tables) h = encoded_rows tables h.1
  encoded_rows ((row ∷ table) ∷ tables) h = (h.0, encoded_rows tables h.1)

  -- ---- its own canonical form

  abbrev p : Projected
  p = projected (map small_field r.form.columns) gs (all_kept gs)

  can_again : CanBeRewritten gs (map small_field r.form.columns) r.form.nameless
  can_again = record {
    carried = (some_fields, targets.carried);
    no_float = subst (All (λ (g : AvroField). HasFloat g.schema → ⊥)) (sym (kept_whole gs gs refl)) targets.no_float;
    inferred = targets.columns;
    recorded = record_same true r.form.columns ∙ source_can.recorded;
  }

  have_tables : (tables : List (List (List Slot))) → AllByRecursion (HasEncodings gs) tables → AreShort (table_blocks gs tables) → AllZip (λ (b : FileBlock). HasTable p b.rows b.bytes) (table_blocks gs tables) (with_rows tables)
  have_tables [] h short = tt
  have_tables ([] ∷ tables) h short = have_tables tables h.1 short
  have_tables ((row ∷ table) ∷ tables) h short = (
    record {
      rows = is_table (row ∷ table) h.0;
      counted = (inl short.0, filled_table (row ∷ table) h.0);
      symbols = subst (All (λ (g : AvroField). EnumsFit g.schema)) (sym (kept_whole gs gs refl)) targets.enums;
    },
    have_tables tables h.1 short.1,
  )

  module _ (short : AreShort (blocks_of f)) where
    form : HasCanonicalForm bytes
    form = record {
      root = r.target;
      source_marker = marker;
      blocks = blocks_of f;
      is_file = is_file;
      columns = map small_field r.form.columns;
      nameless = r.form.nameless;
      can = can_again;
      tables = with_rows r.form.tables;
      rows = have_tables r.form.tables r.encoded short;
    }

    is_itself : RewritesFile name marker bytes bytes count
    unfolding form
    is_itself = record {
      form = form;
      target = r.target;
      named = r.named;
      encoded = encoded_rows r.form.tables r.encoded;
      is = is_canonical ∙ ap (canonical_file r.target marker) (of_rows gs r.form.tables);
      counted = r.counted ∙ count_rows (projected r.form.columns (out-Record r.form.root).fields (all_kept (out-Record r.form.root).fields)) gs r.form.blocks r.form.tables r.form.rows;
    }

-- ---- the laws

pub rewritten_is_file : RewrittenIsFile
rewritten_is_file name marker bytes count f = is_file name marker bytes count f

pub rewritten_is_same : RewrittenIsSame
rewritten_is_same name marker bytes count also limit source sink f short told c =
    let same : c.bytes ≡ bytes = all_taken source bytes c.bytes told c.taken c.whole in
    let one = one_canonical_form name marker bytes c.text bytes also count (subst (λ (b : List ℕ). RewritesFile name marker b c.text also) same c.rewrites) (is_itself name marker bytes count f short) in
    (one.1, subst (Appends sink.bytes sink.bytes_after) one.0 c.written)

pub rewritten_does_not_fail : RewrittenDoesNotFail
rewritten_does_not_fail name marker bytes count limit source sink e f short tells h =
    files_are_rewritten name marker bytes limit source sink e tells (form name marker bytes count f short) h
