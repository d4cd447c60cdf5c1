use Rattle.std.proofs.Common.{◌≡◌, ◌∙◌, ℕ, Bool, true, List, length, All, Option, Some, Err, sym, ap, subst, rules}
use Rattle.std.specs.Option.{option_copied}
use Rattle.std.specs.Prelude.{IfSome}
use Rattle.arrow_core.specs.declared.types.Field.{Field}
use Rattle.json_text.specs.Refusals.{has_text}
use Rattle.avro_schema.specs.declared.schema.AvroField.{AvroField}
use Rattle.avro_schema.specs.declared.schema.Record.{out-Record}
use Rattle.avro_schema.specs.Inferred.{inferred_columns}
use Rattle.avro_schema.specs.ValidBlock.{kept, KeepNoFloat}
use Rattle.avro_schema.specs.Projected.{CanBeDecoded, projected, ProjectionRefused}
use Rattle.avro_ndjson.specs.Plan.{IsPlan}
use Rattle.avro_ndjson.specs.Refusals.{AreChosen, CannotBeShown}
use Rattle.avro_ndjson.specs.Shown.{kept_of}
use Rattle.avro_ndjson.proofs.Encoders.{chosen_from, some_given, not_carried, flags, lengths, decoder_refused, made_encoder}
use Rattle.avro_container.proofs.Results.{err_then}
use Rattle.avro_ndjson.proofs.lines.BlockEncoder.new.Goals as goal

pub returns-in_err-check_carried-clause-err : goal.returns-in_err-check_carried-clause-err
returns-in_err-check_carried-clause-err c =
    let is : c.from_residual.result ≡ Err c.in_err-check_carried.field-0.0 = search rules in
    err_then (CannotBeShown (option_copied c.args.keep) (out-Record c.args.root).fields) c.from_residual.result c.in_err-check_carried.field-0.0 is
    (subst (λ (xs : List AvroField). CannotBeShown (option_copied c.args.keep) xs c.in_err-check_carried.field-0.0) c.as_slice.ensures (not_carried (option_copied c.args.keep) _ c.in_err-check_carried.field-0.0 c.in_err-check_carried.ensures))

pub kept_fields-requires : goal.kept_fields-requires
kept_fields-requires c =
    let keep : Option (List ℕ) = option_copied c.args.keep in
    let xs : List AvroField = (out-Record c.args.root).fields in
    let fs : List Field = c.in_ok-schema.schema.fields in
    let bs : List Bool = c.in_ok-projection.projection.items in
    let chosen : AreChosen keep xs = chosen_from keep xs _ _ c.as_slice.ensures c.as_slice-2.ensures c.in_ok-check_carried.ensures c.in_ok-projection.ensures.fields (some_given keep c.if-keeps_nothing.ensures) in
    let columns : inferred_columns xs ≡ Some fs = c.in_ok-schema.ensures.fields in
    let same : bs ≡ kept_of keep xs = c.in_ok-projection.ensures.ok ∙ ap (λ (ys : List AvroField). kept_of keep ys) c.as_slice-2.ensures in
    let same_length : length fs ≡ length bs = flags keep xs fs bs chosen columns same in
    ap length c.as_slice-3.ensures ∙ same_length ∙ sym (ap length c.deref.ensures.value)

pub plan_rows-requires : goal.plan_rows-requires
plan_rows-requires c =
    let keep : Option (List ℕ) = option_copied c.args.keep in
    let xs : List AvroField = (out-Record c.args.root).fields in
    let fs : List Field = c.in_ok-schema.schema.fields in
    let bs : List Bool = c.in_ok-projection.projection.items in
    let chosen : AreChosen keep xs = chosen_from keep xs _ _ c.as_slice.ensures c.as_slice-2.ensures c.in_ok-check_carried.ensures c.in_ok-projection.ensures.fields (some_given keep c.if-keeps_nothing.ensures) in
    let columns : inferred_columns xs ≡ Some fs = c.in_ok-schema.ensures.fields in
    let same : bs ≡ kept_of keep xs = c.in_ok-projection.ensures.ok ∙ ap (λ (ys : List AvroField). kept_of keep ys) c.as_slice-2.ensures in
    ap length c.as_slice-4.ensures ∙ sym (lengths keep xs fs bs chosen columns same) ∙ flags keep xs fs bs chosen columns same ∙ sym (ap length c.deref-2.ensures.value)

pub returns-in_err-decoder-clause-err : goal.returns-in_err-decoder-clause-err
returns-in_err-decoder-clause-err c =
    let keep : Option (List ℕ) = option_copied c.args.keep in
    let xs : List AvroField = (out-Record c.args.root).fields in
    let fs : List Field = c.in_ok-schema.schema.fields in
    let bs : List Bool = c.in_ok-projection.projection.items in
    let chosen : AreChosen keep xs = chosen_from keep xs _ _ c.as_slice.ensures c.as_slice-2.ensures c.in_ok-check_carried.ensures c.in_ok-projection.ensures.fields (some_given keep c.if-keeps_nothing.ensures) in
    let columns : inferred_columns xs ≡ Some fs = c.in_ok-schema.ensures.fields in
    let same : bs ≡ kept_of keep xs = c.in_ok-projection.ensures.ok ∙ ap (λ (ys : List AvroField). kept_of keep ys) c.as_slice-2.ensures in
    let is : c.from_residual-in_err-decoder.result ≡ Err c.in_err-decoder.field-0.0 = search rules in
    err_then (CannotBeShown keep xs) c.from_residual-in_err-decoder.result c.in_err-decoder.field-0.0 is
    (decoder_refused keep xs fs bs chosen columns same c.in_err-decoder.field-0.0
    (subst (λ (gs : List Field). ProjectionRefused (projected gs xs bs) c.in_err-decoder.field-0.0) c.into_vec.ensures c.in_err-decoder.ensures.err))

pub returns-clause-encoder : goal.returns-clause-encoder
returns-clause-encoder c =
    let keep : Option (List ℕ) = option_copied c.args.keep in
    let xs : List AvroField = (out-Record c.args.root).fields in
    let fs : List Field = c.in_ok-schema.schema.fields in
    let bs : List Bool = c.in_ok-projection.projection.items in
    let chosen : AreChosen keep xs = chosen_from keep xs _ _ c.as_slice.ensures c.as_slice-2.ensures c.in_ok-check_carried.ensures c.in_ok-projection.ensures.fields (some_given keep c.if-keeps_nothing.ensures) in
    let columns : inferred_columns xs ≡ Some fs = c.in_ok-schema.ensures.fields in
    let same : bs ≡ kept_of keep xs = c.in_ok-projection.ensures.ok ∙ ap (λ (ys : List AvroField). kept_of keep ys) c.as_slice-2.ensures in
    let made : c.in_ok-decoder.decoder ≡ projected fs xs bs = c.in_ok-decoder.ensures.made ∙ ap (λ (gs : List Field). projected gs xs bs) c.into_vec.ensures in
    let are : c.in_ok-lines.lines.fields ≡ kept fs bs = c.in_ok-lines.ensures.fields ∙ c.in_ok-kept.ensures.ok ∙ (λ i. kept (c.as_slice-3.ensures i) (c.deref.ensures.value i)) in
    let texts : All (λ f. has_text f.data_type ≡ true) c.in_ok-lines.lines.fields =
    subst (λ (gs : List Field). All (λ f. has_text f.data_type ≡ true) gs) (c.as_slice-6.ensures ∙ sym c.in_ok-lines.ensures.fields) c.in_ok-check_texts.ensures in
    let possible : CanBeDecoded (projected fs xs bs) = subst (λ (gs : List Field). CanBeDecoded (projected gs xs bs)) c.into_vec.ensures c.in_ok-decoder.ensures.possible in
    let gs : List Field = c.as_slice-5.result.now in
    let kept_are : gs ≡ kept fs bs = c.as_slice-5.ensures ∙ c.in_ok-kept.ensures.ok ∙ (λ i. kept (c.as_slice-3.ensures i) (c.deref.ensures.value i)) in
    made_encoder keep xs fs bs chosen columns same (record { decoder = c.in_ok-decoder.decoder; lines = c.in_ok-lines.lines; plan = c.in_ok-plan.plan }) made are texts possible
    (subst (λ (z : List AvroField × List Bool × List Field). IfSome c.in_ok-plan.plan (IsPlan z.0 z.1 z.2)) (λ i. (c.as_slice-4.ensures i, c.deref-2.ensures.value i, kept_are i)) c.in_ok-plan.ensures.ok)

pub returns-in_err-check_texts-clause-err : goal.returns-in_err-check_texts-clause-err
returns-in_err-check_texts-clause-err c =
    let keep : Option (List ℕ) = option_copied c.args.keep in
    let xs : List AvroField = (out-Record c.args.root).fields in
    let fs : List Field = c.in_ok-schema.schema.fields in
    let bs : List Bool = c.in_ok-projection.projection.items in
    let chosen : AreChosen keep xs = chosen_from keep xs _ _ c.as_slice.ensures c.as_slice-2.ensures c.in_ok-check_carried.ensures c.in_ok-projection.ensures.fields (some_given keep c.if-keeps_nothing.ensures) in
    let columns : inferred_columns xs ≡ Some fs = c.in_ok-schema.ensures.fields in
    let same : bs ≡ kept_of keep xs = c.in_ok-projection.ensures.ok ∙ ap (λ (ys : List AvroField). kept_of keep ys) c.as_slice-2.ensures in
    let is : c.from_residual-in_err-check_texts.result ≡ Err c.in_err-check_texts.field-0.0 = search rules in
    let are : c.as_slice-6.result.now ≡ kept fs (kept_of keep xs) = c.as_slice-6.ensures ∙ c.in_ok-kept.ensures.ok ∙ (λ i. kept (c.as_slice-3.ensures i) (c.deref.ensures.value i)) ∙ ap (λ (ks : List Bool). kept fs ks) same in
    let no_float : KeepNoFloat xs (kept_of keep xs) = subst (λ (ks : List Bool). KeepNoFloat xs ks) same c.in_ok-decoder.ensures.possible.no_float in
    err_then (CannotBeShown keep xs) c.from_residual-in_err-check_texts.result c.in_err-check_texts.field-0.0 is
    (subst (CannotBeShown keep xs) (sym c.in_err-check_texts.ensures.0)
    (chosen, no_float, (fs, columns, λ texts. c.in_err-check_texts.ensures.1 (subst (λ (gs : List Field). All (λ f. has_text f.data_type ≡ true) gs) (sym are) texts))))
