-- A projection that keeps no more reads the same chunks, with just the columns that it keeps.
use Rattle.std.proofs.Common.{◌≡◌, ◌≢◌, ◌∙◌, ℕ, zero, suc, ◌<◌, ◌⊎◌, Bool, true, false, List, [], ◌∷◌, ◌++◌, length, map, get_or, Option, Some, None, refl, sym, ap, subst, inl, inr, arith}
use Rattle.std.specs.Prelude.{Result, Ok, Err, All}
use Rattle.std.specs.Io.KnownBytes.{Consumes}
use Rattle.std.specs.List.{AllByRecursion}
use Rattle.std.proofs.lemmas.List.{append_cancel_left}
use Rattle.std.proofs.lemmas.List.Elements.{All-from_recursion, recursion_from_All}
use Rattle.std.proofs.lemmas.List.FromFn.{fill_by_all}
use Rattle.arrow_base.specs.Outside.{RoseOrFull}
use Rattle.arrow_core.specs.declared.error.Error.{Error}
use Rattle.arrow_core.specs.declared.error.Error.TheVariants.{InvalidArgumentError, NotYetImplemented, Overflow, OutOfMemory}
use Rattle.arrow_core.specs.declared.error.Reason.TheVariants as reason
use Rattle.arrow_array.specs.declared.array.Array.{Array}
use Rattle.arrow_array.specs.Arrays.{array_type, array_slots}
use Rattle.arrow_core.specs.declared.slot.Slot.{Slot}
use Rattle.arrow_core.specs.declared.slot.Slot.TheVariants as slot
use Rattle.arrow_core.specs.declared.types.DataType.{DataType}
use Rattle.arrow_core.specs.declared.types.Field.{Field}
use Rattle.avro_schema.specs.declared.schema.AvroField.{AvroField}
use Rattle.avro_schema.specs.Laws.{KeepsNoMore, narrowed}
use Rattle.avro_schema.specs.Rows.{column}
use Rattle.avro_schema.specs.ValidBlock.{kept, HaveSameLength, OffsetsFit, ValidBlock, IsSmall, HasFloat, EnumsFit}
use Rattle.avro_schema.proofs.RowLaws.{same_table, narrower}
use Rattle.avro_container.specs.BlockReader.{NoBlock, AtEnd}
use Rattle.avro_container.specs.File.{FileBlock}
use Rattle.avro_container.specs.FileForms.{marked_block}
use Rattle.avro_container.specs.Laws.{told}
use Rattle.avro_container.specs.Taking.{State, Passed}
use Rattle.avro_container.proofs.Complete.{block_is_read, end_is_end, no_bytes_are_end}
use Rattle.avro_container.proofs.OneFile.{block_reads, block_some, prefix_none}
use Rattle.avro_schema.specs.Columns.{columns, AreColumns, kept_types}
use Rattle.avro_schema.specs.Projected.{Projected, projected, CanBeDecoded}
use Rattle.avro_schema.specs.Refusals.{FieldsRefused}
use Rattle.avro_read.specs.Reader.{ReadsChunk, RefusedBlock, Next}
use Rattle.avro_read.specs.Laws.{still_kept, IsNarrowed, NarrowerIsMade}
use Rattle.avro_decode.proofs.Valid.{valid_blocks}

-- ---- lists

less_length : (wide narrow : List Bool) → KeepsNoMore wide narrow → length wide ≡ length narrow
less_length [] [] k = refl
less_length [] (m ∷ narrow) k = absurd k
less_length (true ∷ wide) [] k = absurd k
less_length (false ∷ wide) [] k = absurd k
less_length (true ∷ wide) (m ∷ narrow) k = ap suc (less_length wide narrow k)
less_length (false ∷ wide) (true ∷ narrow) k = absurd k
less_length (false ∷ wide) (false ∷ narrow) k = ap suc (less_length wide narrow k)

module _ {A : Type 0} where
  kept_less : (xs : List A) (wide narrow : List Bool) → KeepsNoMore wide narrow → kept xs narrow ≡ still_kept wide narrow (kept xs wide)
  kept_less [] wide narrow k = refl
  kept_less (x ∷ xs) [] [] k = refl
  kept_less (x ∷ xs) [] (m ∷ narrow) k = absurd k
  kept_less (x ∷ xs) (true ∷ wide) [] k = absurd k
  kept_less (x ∷ xs) (false ∷ wide) [] k = absurd k
  kept_less (x ∷ xs) (true ∷ wide) (true ∷ narrow) k = ap (λ (z : List A). x ∷ z) (kept_less xs wide narrow k)
  kept_less (x ∷ xs) (true ∷ wide) (false ∷ narrow) k = kept_less xs wide narrow k
  kept_less (x ∷ xs) (false ∷ wide) (true ∷ narrow) k = absurd k
  kept_less (x ∷ xs) (false ∷ wide) (false ∷ narrow) k = kept_less xs wide narrow k

  kept_map : {B : Type 0} (f : A → B) (xs : List A) (keeps : List Bool) → map f (kept xs keeps) ≡ kept (map f xs) keeps
  kept_map f [] keeps = refl
  kept_map f (x ∷ xs) [] = refl
  kept_map f (x ∷ xs) (true ∷ keeps) = ap (λ (z : List _). f x ∷ z) (kept_map f xs keeps)
  kept_map f (x ∷ xs) (false ∷ keeps) = kept_map f xs keeps

  all_kept : (P : A → Type 0) (xs : List A) (keeps : List Bool) → AllByRecursion P xs → AllByRecursion P (kept xs keeps)
  all_kept P [] keeps h = tt
  all_kept P (x ∷ xs) [] h = tt
  all_kept P (x ∷ xs) (true ∷ keeps) h = (h.0, all_kept P xs keeps h.1)
  all_kept P (x ∷ xs) (false ∷ keeps) h = all_kept P xs keeps h.1

  -- what holds of all that is kept holds of all of it that is still kept
  all_less : (P : A → Type 0) (xs : List A) (wide narrow : List Bool) → KeepsNoMore wide narrow → All P (kept xs wide) → All P (kept xs narrow)
  all_less P xs wide narrow k h =
      subst (All P) (sym (kept_less xs wide narrow k)) (All-from_recursion P (kept (kept xs wide) (kept narrow wide)) (all_kept P (kept xs wide) (kept narrow wide) (recursion_from_All P (kept xs wide) h)))

-- ---- columns, one after another

abbrev tail_of : List Slot → List Slot
tail_of [] = []
tail_of (x ∷ xs) = xs

abbrev columns_from : ℕ → List (List Slot) → List (List Slot)
columns_from zero t = []
columns_from (suc n) t = column t 0 ∷ columns_from n (map tail_of t)

column_next : (t : List (List Slot)) (k : ℕ) → column (map tail_of t) k ≡ column t (suc k)
column_next [] k = refl
column_next ([] ∷ t) k = ap (λ (z : List Slot). slot.Null ∷ z) (column_next t k)
column_next ((x ∷ row) ∷ t) k = ap (λ (z : List Slot). get_or row k slot.Null ∷ z) (column_next t k)

columns_at : (n : ℕ) (t : List (List Slot)) (k : ℕ) → k < n → get_or (columns_from n t) k [] ≡ column t k
columns_at zero t k lt = absurd (omega (arith, lt))
columns_at (suc n) t zero lt = refl
columns_at (suc n) t (suc k) lt = columns_at n (map tail_of t) k (omega (arith, lt)) ∙ column_next t k

columns_length : (n : ℕ) (t : List (List Slot)) → length (columns_from n t) ≡ n
columns_length zero t = refl
columns_length (suc n) t = ap suc (columns_length n (map tail_of t))

columns_are : (n : ℕ) (t : List (List Slot)) → columns_from n t ≡ columns n t
columns_are n t = fill_by_all (column t) (columns_from n t) n [] (columns_length n t) (columns_at n t)

narrowed_none : (wide narrow : List Bool) → narrowed wide narrow [] ≡ []
narrowed_none [] narrow = refl
narrowed_none (true ∷ wide) [] = refl
narrowed_none (true ∷ wide) (true ∷ narrow) = refl
narrowed_none (true ∷ wide) (false ∷ narrow) = refl
narrowed_none (false ∷ wide) [] = refl
narrowed_none (false ∷ wide) (m ∷ narrow) = narrowed_none wide narrow

module _ (wide narrow : List Bool) where
  both_heads : (t : List (List Slot)) → column (map (narrowed (true ∷ wide) (true ∷ narrow)) t) 0 ≡ column t 0
  both_heads [] = refl
  both_heads ([] ∷ t) = ap (λ (z : List Slot). slot.Null ∷ z) (both_heads t)
  both_heads ((x ∷ row) ∷ t) = ap (λ (z : List Slot). x ∷ z) (both_heads t)

  both_tails : (t : List (List Slot)) → map tail_of (map (narrowed (true ∷ wide) (true ∷ narrow)) t) ≡ map (narrowed wide narrow) (map tail_of t)
  both_tails [] = refl
  both_tails ([] ∷ t) = λ i. sym (narrowed_none wide narrow) i ∷ both_tails t i
  both_tails ((x ∷ row) ∷ t) = ap (λ (z : List (List Slot)). narrowed wide narrow row ∷ z) (both_tails t)

  wide_tails : (t : List (List Slot)) → map (narrowed (true ∷ wide) (false ∷ narrow)) t ≡ map (narrowed wide narrow) (map tail_of t)
  wide_tails [] = refl
  wide_tails ([] ∷ t) = λ i. sym (narrowed_none wide narrow) i ∷ wide_tails t i
  wide_tails ((x ∷ row) ∷ t) = ap (λ (z : List (List Slot)). narrowed wide narrow row ∷ z) (wide_tails t)

columns_narrowed : {A : Type 0} (fs : List A) (wide narrow : List Bool) → KeepsNoMore wide narrow → length fs ≡ length wide → (t : List (List Slot)) → columns_from (length (kept fs narrow)) (map (narrowed wide narrow) t) ≡ still_kept wide narrow (columns_from (length (kept fs wide)) t)
columns_narrowed [] wide narrow k e t = refl
columns_narrowed (f ∷ fs) [] narrow k e t = absurd (omega (arith, e))
columns_narrowed (f ∷ fs) (true ∷ wide) [] k e t = absurd k
columns_narrowed (f ∷ fs) (false ∷ wide) [] k e t = absurd k
columns_narrowed (f ∷ fs) (true ∷ wide) (true ∷ narrow) k e t =
    let more = ap (columns_from (length (kept fs narrow))) (both_tails wide narrow t) ∙ columns_narrowed fs wide narrow k (omega (arith, e)) (map tail_of t) in
    (λ i. both_heads wide narrow t i ∷ more i)
columns_narrowed (f ∷ fs) (true ∷ wide) (false ∷ narrow) k e t =
    ap (columns_from (length (kept fs narrow))) (wide_tails wide narrow t) ∙ columns_narrowed fs wide narrow k (omega (arith, e)) (map tail_of t)
columns_narrowed (f ∷ fs) (false ∷ wide) (true ∷ narrow) k e t = absurd k
columns_narrowed (f ∷ fs) (false ∷ wide) (false ∷ narrow) k e t = columns_narrowed fs wide narrow k (omega (arith, e)) t

-- ---- fields and blocks

module _ (fields : List Field) (avro_fields : List AvroField) (wide narrow : List Bool) (k : KeepsNoMore wide narrow) where
  less_lengths : HaveSameLength fields avro_fields wide → HaveSameLength fields avro_fields narrow
  less_lengths l = (l.0, l.1 ∙ less_length wide narrow k)

  pub narrower_is_decoded : CanBeDecoded (projected fields avro_fields wide) → CanBeDecoded (projected fields avro_fields narrow)
  narrower_is_decoded c = record {
    lengths = less_lengths c.lengths;
    some = c.some;
    carried = c.carried;
    fits = c.fits;
    no_float = all_less (λ (a : AvroField). HasFloat a.schema → ⊥) avro_fields wide narrow k c.no_float;
  }

  less_offsets : (bytes : List ℕ) → OffsetsFit fields wide bytes → OffsetsFit fields narrow bytes
  less_offsets bytes (inl l) = inl l
  less_offsets bytes (inr l) = inr (all_less (λ (f : Field). IsSmall f.data_type → ⊥) fields wide narrow k l)

  narrower_is_valid : (n : ℕ) (bytes : List ℕ) → ValidBlock n bytes fields avro_fields wide → ValidBlock n bytes fields avro_fields narrow
  narrower_is_valid n bytes v = record {
    columns = record {
      lengths = less_lengths v.columns.lengths;
      some = v.columns.some;
      carried = v.columns.carried;
      fits = v.columns.fits;
      no_float = all_less (λ (a : AvroField). HasFloat a.schema → ⊥) avro_fields wide narrow k v.columns.no_float;
      offsets = less_offsets bytes v.columns.offsets;
      symbols = all_less (λ (a : AvroField). EnumsFit a.schema) avro_fields wide narrow k v.columns.symbols;
    };
    table = map (narrowed wide narrow) v.table;
    rows = narrower n avro_fields wide narrow bytes v.table k v.rows;
  }

  narrower_columns : (n : ℕ) (bytes : List ℕ) (cs ds : List (List Slot)) → length avro_fields ≡ length wide → AreColumns n avro_fields wide bytes cs → AreColumns n avro_fields narrow bytes ds → ds ≡ still_kept wide narrow cs
  narrower_columns n bytes cs ds e c d =
      let same : d.0 ≡ map (narrowed wide narrow) c.0 = same_table n avro_fields narrow bytes d.0 (map (narrowed wide narrow) c.0) d.1 (narrower n avro_fields wide narrow bytes c.0 k c.1) in
      d.3
      ∙ ap (λ (m : ℕ). columns m d.0) d.2
      ∙ ap (columns (length (kept avro_fields narrow))) same
      ∙ sym (columns_are (length (kept avro_fields narrow)) (map (narrowed wide narrow) c.0))
      ∙ columns_narrowed avro_fields wide narrow k e c.0
      ∙ ap (still_kept wide narrow) (columns_are (length (kept avro_fields wide)) c.0)
      ∙ ap (λ (m : ℕ). still_kept wide narrow (columns m c.0)) (sym c.2)
      ∙ ap (still_kept wide narrow) (sym c.3)

  narrower_types : (ts us : List DataType) → ts ≡ kept_types fields wide → us ≡ kept_types fields narrow → us ≡ still_kept wide narrow ts
  narrower_types ts us t u =
      u
      ∙ ap (map (λ (f : Field). f.data_type)) (kept_less fields wide narrow k)
      ∙ kept_map (λ (f : Field). f.data_type) (kept fields wide) (kept narrow wide)
      ∙ ap (still_kept wide narrow) (sym t)

-- ---- what is left of the bytes

left_is : (bytes taken : List ℕ) (left : Option (List ℕ)) → Consumes (Some bytes) left taken → (rest : List ℕ) × (left ≡ Some rest) × (bytes ≡ taken ++ rest)
left_is bytes taken None c = absurd c
left_is bytes taken (Some rest) c = (rest, refl, c)

module _ (marker bytes : List ℕ) (wide_faults faults limit : ℕ) (new other : State) (block : FileBlock) (passed : Passed marked_block (told bytes wide_faults limit) new (block, marker)) where
  -- the bytes begin with one block
  same_block : (b : FileBlock) → Passed marked_block (told bytes faults limit) other (b, marker) → (block ≡ b) × (other.left ≡ new.left) × (other.limit ≡ new.limit)
  same_block b p =
      let t = left_is bytes passed.0 new.left passed.1.consumed in
      let u = left_is bytes p.0 other.left p.1.consumed in
      let one = block_reads passed.0 p.0 t.0 u.0 (block, marker) (b, marker) passed.2 p.2 (sym t.2 ∙ u.2) in
      let rests : t.0 ≡ u.0 = append_cancel_left p.0 t.0 u.0 (ap (λ (z : List ℕ). z ++ t.0) (sym one.0) ∙ sym t.2 ∙ u.2) in (
        ap (λ (z : FileBlock × List ℕ). z.0) one.1,
        u.1 ∙ ap (λ (z : List ℕ). Some z) (sym rests) ∙ sym t.1,
        omega (arith, ap length one.0, passed.1.limit, p.1.limit),
      )

  not_at_end : AtEnd (told bytes faults limit) other → ⊥
  not_at_end h =
      let t = left_is bytes passed.0 new.left passed.1.consumed in
      block_some marker passed.0 block passed.2 (prefix_none passed.0 t.0 (sym t.2 ∙ end_is_end bytes faults limit other h))

  only_memory : (RoseOrFull faults other.faults → ⊥) → (e : Error) → NoBlock marker (told bytes faults limit) other e → e ≡ OutOfMemory
  only_memory steady =
      let t = left_is bytes passed.0 new.left passed.1.consumed in
      block_is_read marker bytes passed.0 t.0 block faults limit other t.2 passed.2 (omega (arith, passed.1.limit)) steady

-- ---- the laws

abbrev an_error : Error → Option (Result (List Array) Error)
an_error e = Some (Err e)

module _ (fields : List Field) (avro_fields : List AvroField) (wide narrow : List Bool) (marker bytes : List ℕ) (wide_faults faults limit : ℕ) (new other : State) (chunk : List Array) (k : KeepsNoMore wide narrow) (reads : ReadsChunk (projected fields avro_fields wide) marker (told bytes wide_faults limit) new chunk) where
  abbrev fewer_of : Projected
  fewer_of = projected fields avro_fields narrow

  is_narrowed : (fewer : List Array) → ReadsChunk fewer_of marker (told bytes faults limit) other fewer → IsNarrowed wide narrow chunk fewer new other
  is_narrowed fewer h =
      let same = same_block marker bytes wide_faults faults limit new other reads.block reads.passed h.block h.passed in
      let l = reads.valid.columns.lengths in
      record {
        slots = narrower_columns fields avro_fields wide narrow k reads.block.rows reads.block.bytes (map array_slots chunk) (map array_slots fewer) (sym l.0 ∙ l.1) reads.columns (subst (λ (b : FileBlock). AreColumns b.rows avro_fields narrow b.bytes (map array_slots fewer)) (sym same.0) h.columns);
        data_types = narrower_types fields avro_fields wide narrow k (map array_type chunk) (map array_type fewer) reads.data_types h.data_types;
        left = same.1;
        limit = same.2;
      }

  is_memory : (e : Error) → RefusedBlock fewer_of marker (told bytes faults limit) other e → e ≡ OutOfMemory
  is_memory e h =
      let same = same_block marker bytes wide_faults faults limit new other reads.block reads.passed h.block h.passed in
      let valid = narrower_is_valid fields avro_fields wide narrow k reads.block.rows reads.block.bytes reads.valid in
      valid_blocks fields h.block.rows avro_fields narrow h.block.bytes e (subst (λ (b : FileBlock). ValidBlock b.rows b.bytes fields avro_fields narrow) same.0 valid) h.refused

  pub narrower_reads : (answer : Option (Result (List Array) Error)) → Next fewer_of marker (told bytes faults limit) other answer → (RoseOrFull faults other.faults → ⊥) → ((fewer : List Array) × (answer ≡ Some (Ok fewer)) × IsNarrowed wide narrow chunk fewer new other) ⊎ (answer ≡ Some (Err OutOfMemory))
  narrower_reads None h steady = absurd (not_at_end marker bytes wide_faults faults limit new other reads.block reads.passed h)
  narrower_reads (Some (Ok fewer)) h steady = inl (fewer, refl, is_narrowed fewer h)
  narrower_reads (Some (Err e)) (inl h) steady = inr (ap an_error (only_memory marker bytes wide_faults faults limit new other reads.block reads.passed steady e h))
  narrower_reads (Some (Err e)) (inr h) steady = inr (ap an_error (is_memory e h))

-- at the end of the bytes
module _ (fields : List Field) (avro_fields : List AvroField) (narrow : List Bool) (marker : List ℕ) (faults limit : ℕ) (other : State) where
  none_ends : (answer : Option (Result (List Array) Error)) → Next (projected fields avro_fields narrow) marker (told [] faults limit) other answer → (RoseOrFull faults other.faults → ⊥) → (answer ≡ None) ⊎ (answer ≡ Some (Err OutOfMemory))
  none_ends None h steady = inl refl
  none_ends (Some (Ok fewer)) h steady = absurd ((no_bytes_are_end marker faults limit other steady).0 h.block.rows h.block.bytes h.passed)
  none_ends (Some (Err e)) (inl h) steady = inr (ap an_error ((no_bytes_are_end marker faults limit other steady).1 e h))
  none_ends (Some (Err e)) (inr h) steady = absurd ((no_bytes_are_end marker faults limit other steady).0 h.block.rows h.block.bytes h.passed)

pub narrower_ends : (fields : List Field) (avro_fields : List AvroField) (narrow : List Bool) (marker bytes : List ℕ) (wide_faults faults limit : ℕ) (new other : State) (answer : Option (Result (List Array) Error)) → AtEnd (told bytes wide_faults limit) new → Next (projected fields avro_fields narrow) marker (told bytes faults limit) other answer → (RoseOrFull faults other.faults → ⊥) → (answer ≡ None) ⊎ (answer ≡ Some (Err OutOfMemory))
narrower_ends fields avro_fields narrow marker bytes wide_faults faults limit new other answer end h steady =
    none_ends fields avro_fields narrow marker faults limit other answer (subst (λ (b : List ℕ). Next (projected fields avro_fields narrow) marker (told b faults limit) other answer) (end_is_end bytes wide_faults limit new end) h) steady

-- ---- a reader is made

-- what can be decoded is not refused
not_refused : (p : Projected) → CanBeDecoded p → (e : Error) → FieldsRefused p.fields p.avro_fields p.projection e → e ≢ Overflow → e ≢ OutOfMemory → ⊥
not_refused p can (InvalidArgumentError reason.Lengths) h other also = h can.lengths
not_refused p can (NotYetImplemented reason.NoField) h other also = omega (arith, ap length h.1, can.some)
not_refused p can (NotYetImplemented reason.NotCarried) h other also = h.2 can.carried
not_refused p can (InvalidArgumentError reason.FieldType) h other also = h.1 can.fits
not_refused p can (NotYetImplemented reason.Float) h other also = h.2 can.no_float
not_refused p can Overflow h other also = other refl
not_refused p can OutOfMemory h other also = also refl
not_refused p can _ h other also = h

pub narrower_is_made : NarrowerIsMade
narrower_is_made compression fields avro_fields wide narrow e plain k can (inl h) = absurd (h.0 plain)
narrower_is_made compression fields avro_fields wide narrow e plain k can (inr (is, inl h)) =
    absurd (not_refused (projected fields avro_fields narrow) (narrower_is_decoded fields avro_fields wide narrow k can) e h.0 h.1 h.2)
narrower_is_made compression fields avro_fields wide narrow e plain k can (inr (is, inr memory)) = memory
