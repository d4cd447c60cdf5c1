-- What a rewriter is made of, and why none is made.
use Rattle.std.proofs.Common.{◌≡◌, ◌∙◌, ℕ, Bool, true, List, [], ◌∷◌, length, replicate, Option, Some, refl, sym, ap, subst, arith}
use Rattle.std.proofs.lemmas.List.{length-map}
use Rattle.std.proofs.lemmas.Option.{same_Some}
use Rattle.arrow_core.specs.declared.error.Error.{Error}
use Rattle.arrow_core.specs.declared.error.Error.TheVariants.{InvalidArgumentError, NotYetImplemented, Overflow, OutOfMemory}
use Rattle.arrow_core.specs.declared.error.Reason.TheVariants as reason
use Rattle.arrow_core.specs.declared.types.Field.{Field}
use Rattle.avro_schema.specs.declared.schema.AvroField.{AvroField}
use Rattle.avro_schema.specs.declared.schema.Record.{Record, out-Record, out-roll-Record}
use Rattle.avro_schema.specs.AndThen.{◌>>=◌}
use Rattle.avro_schema.specs.Inferred.{inferred_columns, own_doc}
use Rattle.avro_schema.specs.Types.{Fits, HasColumnType}
use Rattle.avro_schema.specs.ValidBlock.{KeepNoFloat}
use Rattle.avro_schema.proofs.Basics.{bind_some}
use Rattle.avro_schema.proofs.TypeLemmas.{small_forms_fit}
use Rattle.avro_types.specs.Columns.{AllTyped}
use Rattle.avro_types.proofs.ColumnTypes.{zip_length}
use Rattle.avro_types.proofs.RootColumns.{columns_fit}
use Rattle.avro_schema.specs.Projected.{CanBeDecoded, Projected, ProjectionRefused, projected}
use Rattle.avro_schema.specs.Refusals.{AreCarried, AreNotCarried}
use Rattle.avro_types.specs.Listed.{named_all}
use Rattle.avro_types.specs.Named.{named_record, named_root}
use Rattle.avro_types.specs.Schemas.{columns_fields, plain_record, record_of}
use Rattle.avro_types.proofs.Renamed.{record_named}
use Rattle.avro_write.specs.Laws.{all_kept}
use Rattle.avro_canonical.specs.Canonical.{CanBeRewritten, CannotBeRewritten, IsRewriting, target_fields}

-- columns in small forms are columns in small or large forms
all_fit : (fs : List Field) (xs : List AvroField) → AllTyped fs xs → Fits fs xs
all_fit [] [] h = tt
all_fit [] (a ∷ xs) h = absurd h
all_fit (f ∷ fs) [] h = absurd h
all_fit (f ∷ fs) (a ∷ xs) h = (small_forms_fit a.schema f h.0, all_fit fs xs h.1)

pub all_true : (xs : List AvroField) → replicate (length xs) true ≡ all_kept xs
all_true [] = refl
all_true (x ∷ xs) = ap (λ (bs : List Bool). true ∷ bs) (all_true xs)

-- fields that can be rewritten can be decoded
pub can_be_decoded : (xs : List AvroField) (fs : List Field) (r : Record) → CanBeRewritten xs fs r → CanBeDecoded (projected fs xs (all_kept xs))
can_be_decoded xs fs r can =
    let fits : Fits fs xs = all_fit fs xs (columns_fit own_doc xs fs can.inferred) in
    let same : length fs ≡ length xs = zip_length (λ (f : Field) (a : AvroField). HasColumnType true a.schema f) fs xs fits in
    record {
      lengths = (same, same ∙ sym (length-map xs (λ f. true)));
      some = omega (arith, same, can.carried.0);
      carried = can.carried.1;
      fits = fits;
      no_float = can.no_float;
    }

pub not_carried : (xs : List AvroField) (e : Error) → AreNotCarried xs e → CannotBeRewritten xs e
not_carried xs (NotYetImplemented reason.NoField) h = h
not_carried xs (NotYetImplemented reason.NotCarried) h = h
not_carried xs _ h = absurd h

-- why no decoder is made
pub decoder_refused : (xs : List AvroField) (fs : List Field) (projection : List Bool) (e : Error) → AreCarried xs → inferred_columns xs ≡ Some fs → projection ≡ all_kept xs → ProjectionRefused (projected fs xs projection) e → CannotBeRewritten xs e
decoder_refused xs fs projection e carried columns same h = from e h
  where
    fits : Fits fs xs
    fits = all_fit fs xs (columns_fit own_doc xs fs columns)

    lengths : length fs ≡ length xs
    lengths = zip_length (λ (f : Field) (a : AvroField). HasColumnType true a.schema f) fs xs fits

    flags : length fs ≡ length projection
    flags = lengths ∙ sym (ap length same ∙ length-map xs (λ f. true))

    from : (d : Error) → ProjectionRefused (projected fs xs projection) d → CannotBeRewritten xs d
    from (InvalidArgumentError reason.Lengths) k = absurd (k.0 (lengths, flags))
    from (NotYetImplemented reason.NoField) k = absurd (omega (arith, ap length k.0.1, lengths, carried.0))
    from (NotYetImplemented reason.NotCarried) k = absurd (k.0.2 carried.1)
    from (InvalidArgumentError reason.FieldType) k = absurd (k.0.1 fits)
    from (NotYetImplemented reason.Float) k = (carried, subst (λ (bs : List Bool). KeepNoFloat xs bs → ⊥) same k.0.2)
    from Overflow k = absurd (k.1 refl)
    from OutOfMemory k = absurd (k.2 refl)
    from _ k = absurd k.0

pub memory_refused : (xs : List AvroField) (e : Error) → e ≡ OutOfMemory → CannotBeRewritten xs e
memory_refused xs e is = subst (CannotBeRewritten xs) (sym is) tt

-- the fields of the record of columns
pub root_fields : (fs : List Field) (name : List ℕ) (r : Record) → record_of true fs ≡ Some r → target_fields fs ≡ Some (out-Record (named_root name r)).fields
root_fields fs name r e =
    let one = bind_some (columns_fields true 0 fs) (λ avros. Some (plain_record [] avros)) r e in
    let named_are : (out-Record (named_record 0 r)).fields ≡ named_all 0 one.0 =
    ap (λ (z : Record). (out-Record z).fields) (record_named 0 r) ∙ ap (λ o. o.fields) (out-roll-Record _)
    ∙ ap (λ (z : Record). named_all 0 (out-Record z).fields) (sym (same_Some (plain_record [] one.0) r one.2)) ∙ ap (named_all 0) (ap (λ o. o.fields) (out-roll-Record _)) in
    ap (λ (o : Option (List AvroField)). (o >>= λ avros. Some (named_all 0 avros))) one.1
    ∙ ap (λ (avros : List AvroField). Some avros) (sym (ap (λ o. o.fields) (out-roll-Record _) ∙ named_are))

pub made_rewriting : (xs : List AvroField) (fs : List Field) (r : Record) (name marker : List ℕ) (target : Record) (decoder : Projected) (fields : List AvroField) → inferred_columns xs ≡ Some fs → record_of true fs ≡ Some r → target ≡ named_root name r → decoder ≡ projected fs xs (all_kept xs) → fields ≡ (out-Record target).fields
    → IsRewriting (record { decoder = decoder; fields = fields; marker = marker })
made_rewriting xs fs r name marker target decoder fields columns recorded named d f =
    let p : Projected = projected fs xs (all_kept xs) in
    subst (λ (z : Projected). IsRewriting (record { decoder = z; fields = fields; marker = marker })) (sym d) (record {
      whole = refl;
      inferred = columns;
      target = root_fields fs name r recorded ∙ ap (λ (avros : List AvroField). Some avros) (sym (f ∙ ap (λ (z : Record). (out-Record z).fields) named));
    })
