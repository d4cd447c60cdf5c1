-- Why no encoder of a file's blocks is made, and what it is where it is made.
use Rattle.std.proofs.Common.{◌≡◌, ◌≢◌, ◌∙◌, ◌↔◌, ℕ, ◌+◌, ◌<◌, Bool, true, false, List, [], ◌∷◌, length, get_or, All, Option, Some, None, refl, sym, ap, subst, arith}
use Rattle.std.specs.Prelude.{◌||◌, IfSome, IsTrue}
use Rattle.std.specs.List.{AllZip, range_with_len}
use Rattle.std.proofs.lemmas.Bool.{false≢true}
use Rattle.std.proofs.lemmas.List.{get_or-map}
use Rattle.std.proofs.lemmas.List.FromFn.{length-range_with_len, get_or-range_with_len}
use Rattle.arrow_base.specs.Outside.{is_among}
use Rattle.arrow_core.specs.declared.error.Error.{Error}
use Rattle.arrow_core.specs.declared.error.Error.TheVariants.{InvalidArgumentError, NotYetImplemented, Overflow, OutOfMemory}
use Rattle.arrow_core.specs.declared.error.Reason.TheVariants as reason
use Rattle.arrow_core.specs.declared.types.Field.{Field}
use Rattle.json_text.specs.Refusals.{has_text, has_offsets}
use Rattle.avro_schema.specs.declared.schema.AvroField.{AvroField}
use Rattle.avro_schema.specs.Inferred.{inferred, inferred_columns, own_doc}
use Rattle.avro_schema.specs.Types.{Fits}
use Rattle.avro_schema.specs.ValidBlock.{kept, KeepNoFloat}
use Rattle.avro_schema.proofs.KeptLemmas.{kept_by_index}
use Rattle.avro_schema.specs.Projected.{CanBeDecoded, Projected, projected, ProjectionRefused}
use Rattle.avro_schema.specs.Refusals.{AreCarried, AreNotCarried}
use Rattle.avro_line.proofs.Types.{HaveTypes, columns_typed}
use Rattle.avro_ndjson.specs.Encoder.{IsEncoder}
use Rattle.avro_ndjson.specs.declared.lines.BlockEncoder.{BlockEncoder}
use Rattle.avro_ndjson.specs.Plan.{IsPlan}
use Rattle.avro_ndjson.specs.Keep.{is_kept, projection_of, NamesFields}
use Rattle.avro_ndjson.specs.Refusals.{AreChosen, CannotBeShown}
use Rattle.avro_ndjson.specs.Shown.{kept_of}
use Rattle.avro_ndjson.proofs.Decoders.{columns_are_fit, as_many, projection_length}
use Rattle.avro_ndjson.proofs.Numbers.{number_itself}
use Rattle.avro_ndjson.proofs.Offsets.{columns_offsets}

-- ---- something is kept

kept_flag : (keep : Option (List ℕ)) (n i : ℕ) → i < n → is_kept keep i ≡ true → get_or (projection_of keep n) i false ≡ true
kept_flag keep n i lt e =
    let from_zero : 0 + i ≡ i = omega arith in
    get_or-map (is_kept keep) (range_with_len 0 n) i 0 false (omega (arith, lt, length-range_with_len 0 n))
    ∙ ap (is_kept keep) (get_or-range_with_len 0 n i 0 lt ∙ from_zero) ∙ e

-- a field that is kept
one_kept : (keep : Option (List ℕ)) (n : ℕ) → 0 < n → NamesFields keep n → keep ≢ Some [] → (i : ℕ) × (i < n) × (is_kept keep i ≡ true)
one_kept None n some names given = (0, some, refl)
one_kept (Some []) n some names given = absurd (given refl)
one_kept (Some (m ∷ ms)) n some names given =
    (m, names.within 0 m (omega arith), ap (λ (b : Bool). b || is_among ms m) (number_itself m m refl))

some_item : {A : Type 0} (xs : List A) → (All (λ (x : A). ⊥) xs → ⊥) → 0 < length xs
some_item [] h = absurd (h (λ k d lt. absurd (omega (arith, lt))))
some_item (x ∷ xs) h = omega arith

first_item : {A : Type 0} (xs : List A) (i : ℕ) → i < length xs → A
first_item [] i lt = absurd (omega (arith, lt))
first_item (x ∷ xs) i lt = x

-- what is kept of two lists stands at the same indices
kept_zip : {A B : Type 0} (R : A → B → Type 0) (xs : List A) (ys : List B) (projection : List Bool) → AllZip R xs ys → AllZip R (kept xs projection) (kept ys projection)
kept_zip R [] [] projection h = tt
kept_zip R [] (y ∷ ys) projection h = absurd h
kept_zip R (x ∷ xs) [] projection h = absurd h
kept_zip R (x ∷ xs) (y ∷ ys) [] h = tt
kept_zip R (x ∷ xs) (y ∷ ys) (true ∷ projection) h = (h.0, kept_zip R xs ys projection h.1)
kept_zip R (x ∷ xs) (y ∷ ys) (false ∷ projection) h = kept_zip R xs ys projection h.1

module _ (keep : Option (List ℕ)) (xs : List AvroField) (fs : List Field) (projection : List Bool) (chosen : AreChosen keep xs) (columns : inferred_columns xs ≡ Some fs) (same : projection ≡ kept_of keep xs) where
  fits : Fits fs xs
  fits = columns_are_fit xs fs columns

  pub lengths : length fs ≡ length xs
  lengths = as_many fs xs fits

  pub flags : length fs ≡ length projection
  flags = lengths ∙ sym (ap length same ∙ projection_length keep xs)

  -- why no decoder is made
  pub decoder_refused : (e : Error) → ProjectionRefused (projected fs xs projection) e → CannotBeShown keep xs e
  decoder_refused (InvalidArgumentError reason.Lengths) h = absurd (h.0 (lengths, flags))
  decoder_refused (NotYetImplemented reason.NoField) h = absurd (omega (arith, ap length h.0.1, lengths, chosen.0.0))
  decoder_refused (NotYetImplemented reason.NotCarried) h = absurd (h.0.2 chosen.0.1)
  decoder_refused (InvalidArgumentError reason.FieldType) h = absurd (h.0.1 fits)
  decoder_refused (NotYetImplemented reason.Float) h = (chosen, subst (λ (bs : List Bool). KeepNoFloat xs bs → ⊥) same h.0.2)
  decoder_refused Overflow h = absurd (h.1 refl)
  decoder_refused OutOfMemory h = absurd (h.2 refl)
  decoder_refused _ h = absurd h.0

  pub some_kept : (items : List Field) → items ≡ kept fs projection → 0 < length items
  some_kept items are =
      let one = one_kept keep (length xs) chosen.0.0 chosen.1 chosen.2 in
      let at : one.0 < length fs = omega (arith, one.1, lengths) in
      let flag : get_or projection one.0 false ≡ true = ap (λ (bs : List Bool). get_or bs one.0 false) same ∙ kept_flag keep (length xs) one.0 one.1 one.2 in
      subst (λ (gs : List Field). 0 < length gs) (sym are) (some_item (kept fs projection) (λ none. (kept_by_index (λ (f : Field). ⊥) fs projection).0 none one.0 (first_item fs one.0 at) at flag))

  pub kept_offsets : (items : List Field) → items ≡ kept fs projection → All (λ f. has_offsets f.data_type ≡ true) items
  kept_offsets items are =
      subst (λ (gs : List Field). All (λ f. has_offsets f.data_type ≡ true) gs) (sym are)
      ((kept_by_index (λ (f : Field). has_offsets f.data_type ≡ true) fs projection).1 (λ k d lt e. columns_offsets true fs xs fits k d lt))

  kept_typed : HaveTypes (kept xs projection) (kept fs projection)
  kept_typed = kept_zip (λ (a : AvroField) (f : Field). inferred a.schema ≡ Some f.data_type) xs fs projection (columns_typed own_doc xs fs columns)

  pub made_encoder : (encoder : BlockEncoder) → encoder.decoder ≡ projected fs xs projection → encoder.lines.fields ≡ kept fs projection → All (λ f. has_text f.data_type ≡ true) encoder.lines.fields
      → CanBeDecoded (projected fs xs projection) → IfSome encoder.plan (IsPlan xs projection (kept fs projection)) → IsEncoder encoder
  made_encoder encoder d k texts possible plan = record {
    kept = k ∙ ap (λ (p : Projected). kept p.fields p.projection) (sym d);
    some = some_kept encoder.lines.fields k;
    texts = texts;
    offsets = kept_offsets encoder.lines.fields k;
    possible = subst CanBeDecoded (sym d) possible;
    typed = subst (λ (p : Projected). HaveTypes (kept p.avro_fields p.projection) encoder.lines.fields) (sym d) (subst (HaveTypes (kept xs projection)) (sym k) kept_typed);
    plan = subst (λ (p : Projected). IfSome encoder.plan (IsPlan p.avro_fields p.projection encoder.lines.fields)) (sym d) (subst (λ (gs : List Field). IfSome encoder.plan (IsPlan xs projection gs)) (sym k) plan);
  }

pub not_carried : (keep : Option (List ℕ)) (xs : List AvroField) (e : Error) → AreNotCarried xs e → CannotBeShown keep xs e
not_carried keep xs (NotYetImplemented reason.NoField) h = h
not_carried keep xs (NotYetImplemented reason.NotCarried) h = h
not_carried keep xs _ h = absurd h

-- something is kept, where the test for nothing was false
pub some_given : (keep : Option (List ℕ)) → IsTrue false ↔ (keep ≡ Some []) → keep ≢ Some []
some_given keep h = λ none. false≢true (h.1 none)

-- the numbers are those of fields, and some
pub chosen_from : (keep : Option (List ℕ)) (xs first second : List AvroField) → first ≡ xs → second ≡ xs → AreCarried first → NamesFields keep (length second) → keep ≢ Some [] → AreChosen keep xs
chosen_from keep xs first second e d carried names given =
    (subst AreCarried e carried, subst (λ (ys : List AvroField). NamesFields keep (length ys)) d names, given)
