-- The file of some lines, converted into lines, has the same rows.
use Rattle.std.proofs.Common.{◌≡◌, ◌∙◌, ℕ, ◌+◌, ◌<◌, ◌≤◌, Bool, true, inl, List, [], ◌∷◌, ◌++◌, length, map, codes, All, Some, None, refl, sym, ap, subst, length-append, arith}
use Rattle.std.specs.Prelude.{sum_by}
use Rattle.std.specs.List.{AllByRecursion, AllZip, concat, flat_map, list_all, range_with_len}
use Rattle.std.specs.Io.KnownBytes.{Appends}
use Rattle.std.proofs.lemmas.Bool.{and_parts}
use Rattle.std.proofs.lemmas.Grind.{flat_map-append}
use Rattle.std.proofs.lemmas.List.{length-map, map-append}
use Rattle.std.proofs.lemmas.List.Elements.{recursion_from_All}
use Rattle.std.proofs.lemmas.List.Folds.{list_all-append}
use Rattle.std.proofs.lemmas.List.Sums.{sum_by-cons}
use Rattle.std.proofs.lemmas.Option.{none-some, same_Some}
use Rattle.arrow_core.specs.declared.slot.Slot.{Slot}
use Rattle.arrow_core.specs.declared.types.DataType as types
use Rattle.arrow_core.specs.declared.types.DataType.{DataType}
use Rattle.arrow_core.specs.declared.types.Field.{Field}
use Rattle.avro_schema.specs.declared.schema.AvroField.{AvroField}
use Rattle.avro_schema.specs.declared.schema.Record.{Record, out-Record}
use Rattle.avro_schema.specs.declared.schema.Schema as schema
use Rattle.avro_schema.specs.declared.schema.Schema.{Schema}
use Rattle.avro_schema.specs.Inferred.{inferred_columns}
use Rattle.avro_schema.specs.Rows.{Rows}
use Rattle.avro_schema.specs.ValidBlock.{EnumsFit, HasFloat, kept, small_limit}
use Rattle.avro_schema.proofs.RowLaws.{rows_have, same_table}
use Rattle.avro_container.specs.File.{FileBlock}
use Rattle.avro_container.proofs.OneFile.{one_file}
use Rattle.avro_file.specs.File.{AvroFile, StandsFor}
use Rattle.avro_file.proofs.Roots.{one_root}
use Rattle.avro_schema.specs.Columns.{kept_types}
use Rattle.avro_schema.specs.Projected.{Projected}
use Rattle.avro_types.specs.Back.{small_field}
use Rattle.avro_encode.specs.Listed.{PairsFieldsOf}
use Rattle.avro_encode.specs.Pairs.{Pairs}
use Rattle.avro_encode.specs.Plain.{parts_of, plain}
use Rattle.avro_encode.proofs.ByLists.{pairs_record, plain_record_is}
use Rattle.avro_encode.proofs.PlainLaw.{parts_struct}
use Rattle.avro_write.specs.Laws.{all_kept, plain_table}
use Rattle.avro_write.proofs.TableLaw.{table_encodes}
use Rattle.json_flat.specs.Reading.{reading}
use Rattle.json_flat.specs.Columns.{AreSlotsOf, means}
use Rattle.json_flat.specs.Meaning.{Layer, Meaning, slot_of}
use Rattle.json_tree.specs.Meaning.{IsJson}
use Rattle.json_tree.specs.Tree.{Json}
use Rattle.json_text.specs.Refusals.{all_in_range, has_text}
use Rattle.json_write.specs.Rows.{lines, names_of, row_object}
use Rattle.avro_ndjson.specs.Keep.{is_kept}
use Rattle.avro_ndjson.specs.Shown.{CanBeShown, ShowsBlock, ShowsFile, kept_of, projected_of, table_lines}
use Rattle.avro_ndjson.proofs.Complete.{files_end}
use Rattle.ndjson_avro.specs.Rows.{all_rows, rows_block, rows_blocks}
use Rattle.avro_canonical.proofs.Rewriting.{kept_whole}
use Rattle.arrow_convert.specs.ReadAgain.{AreShort, HaveLines, IsFileOfLines, LinesAreFile, LinesComeBack, LinesDoNotFail, batch_blocks, lines_of}
use Rattle.arrow_convert.proofs.Files.{AreFilled, all_taken, got_is, is_avro_file}
use Rattle.arrow_convert.proofs.Readable.{lines_serializable}
use Rattle.arrow_convert.proofs.SmallTexts.{dates_same, lines_same, small_texts, types_of}
use Rattle.arrow_convert.proofs.Targets.{AreTargets, are_targets}

-- ---- rows of a record

-- the canonical encodings of rows are those of the table of their slots
plain_rows : (r : Record) (xs : List Slot) → flat_map (plain (schema.Record r)) xs ≡ plain_table (out-Record r).fields (map parts_of xs)
plain_rows r [] = refl
plain_rows r (x ∷ xs) = λ i. plain_record_is r x i ++ plain_rows r xs i

paired_rows : (r : Record) (xs : List Slot) → AllByRecursion (Pairs (schema.Record r)) xs → AllByRecursion (PairsFieldsOf (out-Record r).fields) (map parts_of xs)
paired_rows r [] h = tt
paired_rows r (x ∷ xs) h =
    let p = pairs_record r x h.0 in
    (subst (PairsFieldsOf (out-Record r).fields) (sym (ap parts_of p.1 ∙ parts_struct p.0)) p.2, paired_rows r xs h.1)

-- the block of rows is theirs by the grammar
abbrev IsBlockOf : Record → List Slot → Type 0
IsBlockOf r xs = Rows (length xs) (out-Record r).fields (all_kept (out-Record r).fields) (flat_map (plain (schema.Record r)) xs) (map parts_of xs)

is_block : (r : Record) (xs : List Slot) → AllByRecursion (Pairs (schema.Record r)) xs → IsBlockOf r xs
is_block r xs h =
    let fs = (out-Record r).fields in
    subst (λ (x : ℕ × List ℕ). Rows x.0 fs (all_kept fs) x.1 (map parts_of xs)) (λ i. (length-map xs parts_of i, sym (plain_rows r xs) i)) (table_encodes fs (map parts_of xs) (paired_rows r xs h))

split : {A : Type 0} (P : A → Type 0) (xs ys : List A) → AllByRecursion P (xs ++ ys) → AllByRecursion P xs × AllByRecursion P ys
split P [] ys h = (tt, h)
split P (x ∷ xs) ys h = let more = split P xs ys h.1 in ((h.0, more.0), more.1)

are_blocks : (r : Record) (batches : List (List Slot)) → AllByRecursion (Pairs (schema.Record r)) (all_rows batches) → AllByRecursion (IsBlockOf r) batches
are_blocks r [] h = tt
are_blocks r (xs ∷ batches) h = let both = split (Pairs (schema.Record r)) xs (all_rows batches) h in (is_block r xs both.0, are_blocks r batches both.1)

-- ---- lists of all fields

all_from : (k : ℕ) (gs : List AvroField) → map (is_kept None) (range_with_len k (length gs)) ≡ all_kept gs
all_from k [] = refl
all_from k (g ∷ gs) = ap (λ (keeps : List Bool). true ∷ keeps) (all_from (k + 1) gs)

keeps_all : (gs : List AvroField) → kept_of None gs ≡ all_kept gs
keeps_all gs = all_from 0 gs

kept_are : {A : Type 0} (xs : List A) (gs : List AvroField) → length xs ≡ length gs → kept xs (kept_of None gs) ≡ xs
kept_are xs gs e = ap (kept xs) (keeps_all gs) ∙ kept_whole xs gs e

-- ---- counts

as_many_texts : (values : List Json) (texts : List (List ℕ)) → AllZip IsJson values texts → length texts ≡ length values
as_many_texts [] [] h = refl
as_many_texts [] (t ∷ texts) h = absurd h
as_many_texts (v ∷ values) [] h = absurd h
as_many_texts (v ∷ values) (t ∷ texts) h = let e = as_many_texts values texts h.1 in omega (arith, e)

as_many_slots : (how : Layer → Meaning) (values : List Json) (slots : List Slot) → AreSlotsOf how values slots → length values ≡ length slots
as_many_slots how values slots h = sym (length-map values (means how)) ∙ ap length h ∙ length-map slots slot_of

count_rows : (root : Schema) (batches : List (List Slot)) → sum_by (λ (b : FileBlock). b.rows) (rows_blocks root batches) ≡ length (all_rows batches)
count_rows root [] = refl
count_rows root (xs ∷ batches) =
    sum_by-cons (λ (b : FileBlock). b.rows) (rows_block root xs) (rows_blocks root batches) ∙ ap (λ n. length xs + n) (count_rows root batches) ∙ sym (length-append xs (all_rows batches))

-- ---- lines

-- the lines of rows of structs
abbrev lines_in : List (List ℕ) → List DataType → List Slot → List ℕ
lines_in names data_types xs = lines names data_types (map parts_of xs)

lines_joined : (names : List (List ℕ)) (data_types : List DataType) (xs ys : List Slot) → lines_in names data_types (xs ++ ys) ≡ lines_in names data_types xs ++ lines_in names data_types ys
lines_joined names data_types xs ys =
    ap (lines names data_types) (map-append parts_of xs ys) ∙ flat_map-append (λ (row : List Slot). row_object names data_types row ++ codes "\n") (map parts_of xs) (map parts_of ys)

module _ (fields : List Field) (bytes : List ℕ) (rows : List (List Slot)) (count : ℕ) (f : IsFileOfLines fields bytes rows count) where
  abbrev target : Record
  target = f.converts.target

  abbrev gs : List AvroField
  gs = (out-Record target).fields

  abbrev batches : List (List Slot)
  batches = f.converts.batches

  columns : AreTargets fields gs
  columns = are_targets fields f.name f.converts.has.nameless target f.converts.has.recorded (lines_serializable fields f.name target f.converts.has) f.converts.has.named

  some_fields : 0 < length gs
  some_fields = omega (arith, columns.as_many, f.converts.has.some)

  blocks : AllByRecursion (IsBlockOf target) batches
  blocks = are_blocks target batches (recursion_from_All (Pairs (schema.Record target)) (all_rows batches) f.converts.rows.paired)

  filled_block : (xs : List Slot) → IsBlockOf target xs → length xs ≤ length (flat_map (plain (schema.Record target)) xs)
  filled_block xs h = rows_have (length xs) gs (all_kept gs) (flat_map (plain (schema.Record target)) xs) (map parts_of xs) some_fields columns.carried h

  filled_from : (more : List (List Slot)) → AllByRecursion (IsBlockOf target) more → AreFilled (rows_blocks (schema.Record target) more)
  filled_from [] h = tt
  filled_from (xs ∷ more) h = (filled_block xs h.0, filled_from more h.1)

  is_file : AvroFile bytes target f.marker (batch_blocks f)
  is_file = is_avro_file target f.marker bytes (batch_blocks f) f.can_be_read (got_is f.sink bytes _ f.got f.converts.written) (filled_from batches blocks)

  -- what its blocks are read by
  abbrev p : Projected
  p = projected_of None target (map small_field fields)

  same_fields : kept (map small_field fields) (kept_of None gs) ≡ map small_field fields
  same_fields = kept_are (map small_field fields) gs (length-map fields small_field ∙ sym columns.as_many)

  same_lines : (table : List (List Slot)) → table_lines p table ≡ lines_of fields table
  same_lines table = ap (λ (cs : List Field). lines (names_of cs) (types_of cs) table) same_fields ∙ lines_same fields table

  -- ---- the lines of the blocks

  block_lines : (xs : List Slot) (text : List ℕ) → IsBlockOf target xs → ShowsBlock p (rows_block (schema.Record target) xs) text → text ≡ table_lines p (map parts_of xs)
  block_lines xs text here s =
      let other = subst (λ (keeps : List Bool). Rows (length xs) gs keeps (flat_map (plain (schema.Record target)) xs) s.table) (keeps_all gs) s.is.rows in
      s.lines ∙ ap (table_lines p) (same_table (length xs) gs (all_kept gs) (flat_map (plain (schema.Record target)) xs) s.table (map parts_of xs) other here)

  all_lines : (more : List (List Slot)) (texts : List (List ℕ)) → AllByRecursion (IsBlockOf target) more → AllZip (ShowsBlock p) (rows_blocks (schema.Record target) more) texts → concat texts ≡ table_lines p (map parts_of (all_rows more))
  all_lines [] [] h s = refl
  all_lines [] (t ∷ texts) h s = absurd s
  all_lines (xs ∷ more) [] h s = absurd s
  all_lines (xs ∷ more) (t ∷ texts) h s =
      (λ i. block_lines xs t h.0 s.0 i ++ all_lines more texts h.1 s.1 i)
      ∙ sym (lines_joined (names_of (kept p.fields p.projection)) (kept_types p.fields p.projection) xs (all_rows more))

  shown_lines : (text : List ℕ) (also : ℕ) → ShowsFile None bytes text also → (also ≡ count) × (text ≡ lines_of fields rows)
  shown_lines text also s =
      let same = one_file StandsFor one_root bytes s.root target s.marker f.marker s.blocks (batch_blocks f) s.is_file is_file in
      let inferred : inferred_columns gs ≡ Some s.fields = subst (λ (r : Record). inferred_columns (out-Record r).fields ≡ Some s.fields) same.0 s.shown.columns in
      let same_columns : s.fields ≡ map small_field fields = same_Some s.fields (map small_field fields) (sym inferred ∙ columns.columns) in
      let shows : AllZip (ShowsBlock p) (batch_blocks f) s.texts =
      subst (λ (x : Record × List Field × List FileBlock). AllZip (ShowsBlock (projected_of None x.0 x.1)) x.2 s.texts) (λ i. (same.0 i, same_columns i, same.2 i)) s.shows in
      let r = f.converts.rows in (
        s.counted ∙ ap (sum_by (λ (b : FileBlock). b.rows)) same.2 ∙ count_rows (schema.Record target) batches
            ∙ sym (f.converts.counted ∙ as_many_texts r.values f.converts.texts r.have ∙ as_many_slots (reading (types.Struct fields)) r.values (all_rows batches) r.meant),
        s.joined ∙ all_lines batches s.texts blocks shows ∙ same_lines (map parts_of (all_rows batches)) ∙ ap (lines_of fields) (sym f.rows_are),
      )

  -- ---- a file whose rows have lines

  module _ (have : HaveLines fields rows) (short : AreShort (batch_blocks f)) where
    can_be_shown : CanBeShown None gs (map small_field fields)
    can_be_shown = record {
      some = some_fields;
      carried = columns.carried;
      numbers = tt;
      some_kept = none-some [];
      no_float = subst (All (λ (g : AvroField). HasFloat g.schema → ⊥)) (sym (kept_are gs gs refl)) columns.no_float;
      columns = columns.columns;
      texts = subst (All (λ (c : Field). has_text c.data_type ≡ true)) (sym same_fields) (small_texts fields have.texts);
    }

    shows_block : (xs : List Slot) → IsBlockOf target xs → length (flat_map (plain (schema.Record target)) xs) ≤ small_limit → list_all (all_in_range fields) (map parts_of xs) ≡ true → ShowsBlock p (rows_block (schema.Record target) xs) (table_lines p (map parts_of xs))
    shows_block xs here few dates = record {
      table = map parts_of xs;
      is = record {
        rows = subst (λ (keeps : List Bool). Rows (length xs) gs keeps (flat_map (plain (schema.Record target)) xs) (map parts_of xs)) (sym (keeps_all gs)) here;
        counted = (inl few, filled_block xs here);
        symbols = subst (All (λ (g : AvroField). EnumsFit g.schema)) (sym (kept_are gs gs refl)) columns.enums;
      };
      in_range = ap (λ (cs : List Field). list_all (all_in_range cs) (map parts_of xs)) same_fields ∙ dates_same fields (map parts_of xs) ∙ dates;
      lines = refl;
    }

    all_shown : (more : List (List Slot)) → AllByRecursion (IsBlockOf target) more → AreShort (rows_blocks (schema.Record target) more) → list_all (all_in_range fields) (map parts_of (all_rows more)) ≡ true
        → AllZip (ShowsBlock p) (rows_blocks (schema.Record target) more) (map (λ xs. table_lines p (map parts_of xs)) more)
    all_shown [] h few dates = tt
    all_shown (xs ∷ more) h few dates =
        let split_dates = sym (ap (list_all (all_in_range fields)) (map-append parts_of xs (all_rows more)) ∙ list_all-append (all_in_range fields) (map parts_of xs) (map parts_of (all_rows more))) ∙ dates in
        let both = and_parts (list_all (all_in_range fields) (map parts_of xs)) (list_all (all_in_range fields) (map parts_of (all_rows more))) split_dates in
        (shows_block xs h.0 few.0 both.0, all_shown more h.1 few.1 both.1)

    shows_file : ShowsFile None bytes (concat (map (λ xs. table_lines p (map parts_of xs)) batches)) (sum_by (λ (b : FileBlock). b.rows) (batch_blocks f))
    shows_file = record {
      root = target;
      marker = f.marker;
      blocks = batch_blocks f;
      is_file = is_file;
      fields = map small_field fields;
      shown = can_be_shown;
      texts = map (λ xs. table_lines p (map parts_of xs)) batches;
      shows = all_shown batches blocks short (ap (list_all (all_in_range fields)) (sym f.rows_are) ∙ have.in_range);
      joined = refl;
      counted = refl;
    }

-- ---- the laws

pub lines_are_file : LinesAreFile
lines_are_file fields bytes rows count f = is_file fields bytes rows count f

pub lines_come_back : LinesComeBack
lines_come_back fields bytes rows count also limit source sink f told c =
    let same : c.bytes ≡ bytes = all_taken source bytes c.bytes told c.taken c.whole in
    let shown = shown_lines fields bytes rows count f c.text also (subst (λ (b : List ℕ). ShowsFile None b c.text also) same c.shows) in
    (shown.0, subst (Appends sink.bytes sink.bytes_after) shown.1 c.written)

pub lines_do_not_fail : LinesDoNotFail
lines_do_not_fail fields bytes rows count limit source sink e f have short tells h =
    files_end None bytes limit source sink e tells (_, _, shows_file fields bytes rows count f have short) h
