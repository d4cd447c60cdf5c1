-- Rows that were shown without columns are those of the block's table.
use Rattle.std.proofs.Common.{◌≡◌, ◌∙◌, ℕ, ◌≤◌, true, List, [], ◌∷◌, ◌++◌, length, map, Option, Some, Result, Ok, Err, OnOk, is_ok, inl, refl, sym, ap, subst, arith}
use Rattle.std.specs.Prelude.{IfSome}
use Rattle.std.specs.List.{AllByRecursion, AllZip, list_all}
use Rattle.std.proofs.lemmas.Bool.{false≢true}
use Rattle.std.proofs.lemmas.List.Elements.{All-from_recursion, recursion_from_All}
use Rattle.std.proofs.lemmas.Option.{same_Some}
use Rattle.arrow_core.specs.declared.types.DataType.{DataType}
use Rattle.arrow_core.specs.declared.types.Field.{Field}
use Rattle.json_text.specs.Refusals.{all_in_range, has_text}
use Rattle.json_write.specs.Rows.{lines, names_of}
use Rattle.avro_schema.specs.declared.schema.AvroField.{AvroField}
use Rattle.avro_schema.specs.Inferred.{inferred}
use Rattle.avro_schema.specs.ValidBlock.{kept, small_limit}
use Rattle.avro_schema.proofs.RowLaws.{rows_have}
use Rattle.avro_container.specs.File.{the_block}
use Rattle.avro_container.specs.Written.{AppendsBlock}
use Rattle.avro_line.specs.Rows.{HaveTexts, ShowsRows, ShowsRowsOf}
use Rattle.avro_schema.specs.Projected.{Projected}
use Rattle.avro_ndjson.specs.declared.lines.BlockEncoder.{BlockEncoder}
use Rattle.avro_ndjson.specs.declared.plan.RowPlan.{RowPlan}
use Rattle.avro_ndjson.specs.Encoder.{IsEncoder}
use Rattle.avro_ndjson.specs.Plan.{IsPlan}
use Rattle.avro_ndjson.specs.Shown.{table_lines, ShowsBlock}

pub of_ok : {X E : Type 0} (r : Result X E) (P : Type 0) → is_ok r ≡ true → OnOk r P → P
of_ok (Ok x) P e h = h
of_ok (Err x) P e h = absurd (false≢true e)

-- the encoder's plan
pub plan_of : (encoder : BlockEncoder) (plan : RowPlan) → IsEncoder encoder → encoder.plan ≡ Some plan → IsPlan encoder.decoder.avro_fields encoder.decoder.projection encoder.lines.fields plan
plan_of encoder plan e is = subst (λ (o : Option RowPlan). IfSome o (IsPlan encoder.decoder.avro_fields encoder.decoder.projection encoder.lines.fields)) is e.plan

-- the type of a kept field has a text, which is that of the field of the lines
abbrev HasText : AvroField → Type 0
HasText a = (t : DataType) → inferred a.schema ≡ Some t → has_text t ≡ true

texts_by_fields : (avro_fields : List AvroField) (fields : List Field) → AllZip (λ a f. inferred a.schema ≡ Some f.data_type) avro_fields fields → AllByRecursion (λ (f : Field). has_text f.data_type ≡ true) fields → AllByRecursion HasText avro_fields
texts_by_fields [] fields typed texts = tt
texts_by_fields (a ∷ avro_fields) [] typed texts = absurd typed
texts_by_fields (a ∷ avro_fields) (f ∷ fields) typed texts =
    (λ t is. ap has_text (same_Some t f.data_type (sym is ∙ typed.0)) ∙ texts.0, texts_by_fields avro_fields fields typed.1 texts.1)

pub have_texts : (encoder : BlockEncoder) → IsEncoder encoder → HaveTexts (kept encoder.decoder.avro_fields encoder.decoder.projection)
have_texts encoder e =
    let avro_fields : List AvroField = kept encoder.decoder.avro_fields encoder.decoder.projection in
    All-from_recursion HasText avro_fields
    (texts_by_fields avro_fields encoder.lines.fields e.typed (recursion_from_All (λ (f : Field). has_text f.data_type ≡ true) encoder.lines.fields e.texts))

module _ (encoder : BlockEncoder) (plan : RowPlan) (e : IsEncoder encoder) (p : IsPlan encoder.decoder.avro_fields encoder.decoder.projection encoder.lines.fields plan) (n : ℕ) (bytes old new : List ℕ)
    (shows : ShowsRowsOf n encoder.decoder.avro_fields encoder.decoder.projection plan.columns.items bytes old new) where
  abbrev decoder : Projected
  decoder = encoder.decoder

  abbrev fields : List Field
  fields = encoder.lines.fields

  shown : ShowsRows n decoder.avro_fields decoder.projection fields bytes old new
  shown = shows fields (record { typed = e.typed; named = p.columns })

  pub few_rows : n ≤ length bytes
  few_rows = rows_have n decoder.avro_fields decoder.projection bytes shown.table (omega (arith, e.possible.some, e.possible.lengths.0)) e.possible.carried shown.rows

  pub shows_block : length bytes ≤ small_limit → AppendsBlock (ShowsBlock decoder) (the_block n bytes) old new
  shows_block small =
      let same : fields ≡ kept decoder.fields decoder.projection = e.kept in (
        table_lines decoder shown.table,
        record {
          table = shown.table;
          is = record { rows = shown.rows; counted = (inl small, few_rows); symbols = p.symbols };
          in_range = ap (λ (gs : List Field). list_all (all_in_range gs) shown.table) (sym same) ∙ shown.dates;
          lines = refl;
        },
        shown.shown ∙ ap (λ (gs : List Field). old ++ lines (names_of gs) (map (λ f. f.data_type) gs) shown.table) same,
      )
