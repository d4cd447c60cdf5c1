-- The lines of a block's chunk are those of its table, and a date out of range is all that can be refused of it.
use Rattle.std.proofs.Common.{◌≡◌, ◌∙◌, ◌⊎◌, inl, inr, ℕ, zero, suc, ◌<◌, Bool, true, false, List, [], ◌∷◌, ◌++◌, length, map, All, codes, Option, Some, None, refl, sym, ap, subst, arith}
use Rattle.std.specs.Prelude.{if◌then◌else◌, Result, Ok, Err, OnOk, IfErr}
use Rattle.std.specs.List.{flat_map, list_all}
use Rattle.std.proofs.lemmas.List.{length-map}
use Rattle.arrow_core.specs.declared.error.Error.{Error}
use Rattle.arrow_core.specs.declared.error.Error.TheVariants.{InvalidArgumentError, OutOfMemory}
use Rattle.arrow_core.specs.declared.error.Reason.TheVariants.{DateRange}
use Rattle.arrow_core.specs.declared.slot.Slot.{Slot}
use Rattle.arrow_core.specs.declared.types.DataType.{DataType}
use Rattle.arrow_core.specs.declared.types.Field.{Field}
use Rattle.arrow_array.specs.declared.array.Array.{Array}
use Rattle.arrow_array.specs.Arrays.{array_type, array_slots}
use Rattle.json_text.specs.Refusals.{has_text, has_offsets}
use Rattle.json_write.specs.Rows.{lines, names_of, objects, first_refusal, chunk_refusal}
use Rattle.avro_schema.specs.ValidBlock.{kept, KeptEnumsFit}
use Rattle.avro_container.specs.File.{FileBlock, the_block}
use Rattle.avro_container.specs.Written.{AppendsBlock}
use Rattle.avro_schema.specs.Columns.{AreColumns, kept_types}
use Rattle.avro_schema.specs.Projected.{Projected, HasTable}
use Rattle.avro_schema.specs.Refusals.{AreCounted}
use Rattle.avro_ndjson.specs.Shown.{table_lines, dates_in_range, ShowsBlock}
use Rattle.avro_ndjson.specs.Taken.{BlockIsWrong}
use Rattle.avro_ndjson.proofs.Dates.{row_in_range, columns_in_range, refused_late, rows_in_range, tables_by_fields}
use Rattle.avro_ndjson.proofs.Numbers.{number_itself}
use Rattle.avro_ndjson.proofs.Tables.{AreWide, rows_wide, objects_are_lines}

-- out of memory may come with any block
pub out_of_memory : (p : Projected) (b : FileBlock) (e : Error) → e ≡ OutOfMemory → BlockIsWrong p b e
out_of_memory p b e is = subst (BlockIsWrong p b) (sym is) (inl (inl tt))

all_mapped : {A B : Type 0} (g : A → B) (P : B → Type 0) (xs : List A) → All (λ x. P (g x)) xs → All P (map g xs)
all_mapped g P [] h k d lt = absurd (omega (arith, lt))
all_mapped g P (x ∷ xs) h zero d lt = h 0 x (omega arith)
all_mapped g P (x ∷ xs) h (suc k) d lt = all_mapped g P xs (λ i e less. h (suc i) e (omega (arith, less))) k d (omega (arith, lt))

checked : (fs : List Field) (arrays : List Array) → length fs ≡ length arrays → chunk_refusal fs arrays ≡ first_refusal arrays
checked fs arrays e = rw (number_itself (length fs) (length arrays) e) refl

abbrev late_or_not : Bool → Option Error
late_or_not b = if b then None else Some (InvalidArgumentError DateRange)

module _ (p : Projected) (fs : List Field) (chunk : List Array) (n : ℕ) (bytes : List ℕ)
    (kept_are : fs ≡ kept p.fields p.projection) (some : 0 < length fs) (texts : All (λ f. has_text f.data_type ≡ true) fs) (offsets : All (λ f. has_offsets f.data_type ≡ true) fs)
    (cols : AreColumns n p.avro_fields p.projection bytes (map array_slots chunk)) (types : map array_type chunk ≡ kept_types p.fields p.projection)
    (counted : AreCounted n p.fields p.projection bytes) (symbols : KeptEnumsFit p.avro_fields p.projection) where
  types_are : map (λ (f : Field). f.data_type) fs ≡ map array_type chunk
  types_are = ap (map (λ (f : Field). f.data_type)) kept_are ∙ sym types

  lengths : length fs ≡ length chunk
  lengths = sym (length-map fs (λ (f : Field). f.data_type)) ∙ ap length types_are ∙ length-map chunk array_type

  abbrev m : ℕ
  m = length (map array_slots chunk)

  m_is : m ≡ length (map array_type chunk)
  m_is = length-map chunk array_slots ∙ sym (length-map chunk array_type)

  wide : AreWide m cols.0
  wide = subst (λ (k : ℕ). AreWide k cols.0) (sym cols.2) (rows_wide n p.avro_fields p.projection bytes cols.0 cols.1)

  -- whether the chunk is refused, by its table
  refused : chunk_refusal fs chunk ≡ late_or_not (dates_in_range p cols.0)
  refused =
      checked fs chunk lengths
      ∙ refused_late chunk (subst (All (λ t. has_text t ≡ true)) types_are (all_mapped (λ (f : Field). f.data_type) (λ t. has_text t ≡ true) fs texts)) (subst (All (λ t. has_offsets t ≡ true)) types_are (all_mapped (λ (f : Field). f.data_type) (λ t. has_offsets t ≡ true) fs offsets))
      ∙ ap (λ (cs : List (List Slot)). late_or_not (columns_in_range (map array_type chunk) cs)) cols.3
      ∙ ap late_or_not (rows_in_range (map array_type chunk) m cols.0 m_is wide ∙ ap (λ (ts : List DataType). list_all (row_in_range ts) cols.0) types ∙ tables_by_fields (kept p.fields p.projection) cols.0)

  accepted : (b : Bool) → chunk_refusal fs chunk ≡ None → chunk_refusal fs chunk ≡ late_or_not b → b ≡ true
  accepted true h e = refl
  accepted false h e = absurd (none_some (sym h ∙ e))
    where
      none_some : ◌≡◌ {A = Option Error} None (Some (InvalidArgumentError DateRange)) → ⊥
      none_some q = cc

  not_accepted : (b : Bool) (e : Error) → chunk_refusal fs chunk ≡ Some e → chunk_refusal fs chunk ≡ late_or_not b → (e ≡ InvalidArgumentError DateRange) × (b ≡ false)
  not_accepted true e h r = absurd (some_none (sym h ∙ r))
    where
      some_none : ◌≡◌ {A = Option Error} (Some e) None → ⊥
      some_none q = cc
  not_accepted false e h r = (same (sym h ∙ r), refl)
    where
      same : ◌≡◌ {A = Option Error} (Some e) (Some (InvalidArgumentError DateRange)) → e ≡ InvalidArgumentError DateRange
      same q = cc

  has_table : HasTable p n bytes cols.0
  has_table = record { rows = cols.1; counted = counted; symbols = symbols }

  pub appends_block : (old new : List ℕ) → new ≡ old ++ flat_map (λ row. row ++ codes "\n") (objects (names_of fs) chunk) → chunk_refusal fs chunk ≡ None → AppendsBlock (ShowsBlock p) (the_block n bytes) old new
  appends_block old new e none = (
    table_lines p cols.0,
    record { table = cols.0; is = has_table; in_range = accepted (dates_in_range p cols.0) none refused; lines = refl },
    e ∙ ap (λ z. old ++ z)
        (objects_are_lines (names_of fs) (map array_type chunk) chunk m cols.0 (omega (arith, lengths, some)) wide cols.3
        ∙ ap (λ (ts : List DataType). lines (names_of fs) ts cols.0) types
        ∙ ap (λ (gs : List Field). lines (names_of gs) (kept_types p.fields p.projection) cols.0) kept_are),
  )

  pub wrong_dates : (e : Error) → (e ≡ OutOfMemory) ⊎ (chunk_refusal fs chunk ≡ Some e) → BlockIsWrong p (the_block n bytes) e
  wrong_dates e (inl is) = out_of_memory p (the_block n bytes) e is
  wrong_dates e (inr h) =
      let r = not_accepted (dates_in_range p cols.0) e h refused in
      inr (r.0, (cols.0, has_table, r.1))

  -- the same of what an encoder of lines answers
  pub if_appended : (r : Result (Unit {0}) Error) (old new : List ℕ) → OnOk r (new ≡ old ++ flat_map (λ row. row ++ codes "\n") (objects (names_of fs) chunk)) → OnOk r (chunk_refusal fs chunk ≡ None) → OnOk r (AppendsBlock (ShowsBlock p) (the_block n bytes) old new)
  if_appended (Ok x) old new e none = appends_block old new e none
  if_appended (Err x) old new e none = tt

  pub if_wrong : (r : Result (Unit {0}) Error) → IfErr r (λ e. (e ≡ OutOfMemory) ⊎ (chunk_refusal fs chunk ≡ Some e)) → IfErr r (BlockIsWrong p (the_block n bytes))
  if_wrong (Ok x) h = tt
  if_wrong (Err e) h = wrong_dates e h
