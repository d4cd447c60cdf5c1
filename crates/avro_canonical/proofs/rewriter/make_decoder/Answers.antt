use Rattle.std.proofs.Common.{◌≡◌, ◌∙◌, Bool, true, List, Some, length, replicate, IfOk, sym, ap, subst, rules}
use Rattle.std.proofs.lemmas.Result.{IfErr-weaker, on_ok_weaker}
use Rattle.arrow_core.specs.declared.types.Field.{Field}
use Rattle.avro_schema.specs.declared.schema.AvroField.{AvroField}
use Rattle.avro_schema.specs.ValidBlock.{KeepNoFloat}
use Rattle.avro_schema.specs.Projected.{Projected, projected}
use Rattle.avro_write.specs.Laws.{all_kept}
use Rattle.avro_canonical.proofs.Making.{all_true, decoder_refused}
use Rattle.avro_canonical.proofs.rewriter.make_decoder.Goals as goal

pub returns-clause-decoder : goal.returns-clause-decoder
returns-clause-decoder c =
    let filled : c.in_ok-all.all.items ≡ replicate (length c.as_slice.result.now) true = search rules in
    let same : c.in_ok-all.all.items ≡ all_kept c.args.avro_fields = filled ∙ ap (λ (xs : List AvroField). replicate (length xs) true) c.as_slice.ensures ∙ all_true c.args.avro_fields in
    subst (λ (p : Projected). IfOk c.new.result (λ d. d ≡ p)) (λ i. projected (c.into_vec.ensures i) c.args.avro_fields (same i)) c.new.ensures.made

pub returns-clause-no_float : goal.returns-clause-no_float
returns-clause-no_float c =
    let filled : c.in_ok-all.all.items ≡ replicate (length c.as_slice.result.now) true = search rules in
    let same : c.in_ok-all.all.items ≡ all_kept c.args.avro_fields = filled ∙ ap (λ (xs : List AvroField). replicate (length xs) true) c.as_slice.ensures ∙ all_true c.args.avro_fields in
    on_ok_weaker c.new.result (λ can. subst (λ (bs : List Bool). KeepNoFloat c.args.avro_fields bs) same can.no_float) c.new.ensures.possible

pub returns-clause-err : goal.returns-clause-err
returns-clause-err c =
    let filled : c.in_ok-all.all.items ≡ replicate (length c.as_slice.result.now) true = search rules in
    let same : c.in_ok-all.all.items ≡ all_kept c.args.avro_fields = filled ∙ ap (λ (xs : List AvroField). replicate (length xs) true) c.as_slice.ensures ∙ all_true c.args.avro_fields in
    IfErr-weaker c.new.result _ _ (λ e h. decoder_refused c.args.avro_fields c.into_vec.result.items c.in_ok-all.all.items e c.requires.carried (c.requires.columns ∙ ap (λ (fs : List Field). Some fs) (sym c.into_vec.ensures)) same h) c.new.ensures.err
