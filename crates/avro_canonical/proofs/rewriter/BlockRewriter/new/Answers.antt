use Rattle.std.proofs.Common.{◌≡◌, ◌∙◌, List, Err, ap, subst, rules}
use Rattle.std.proofs.lemmas.Result.{err_from_is_err_and}
use Rattle.avro_schema.specs.declared.schema.AvroField.{AvroField}
use Rattle.avro_schema.specs.declared.schema.Record.{Record, out-Record}
use Rattle.avro_canonical.specs.Canonical.{CannotBeRewritten, Rewriting}
use Rattle.avro_canonical.proofs.Copied.{made_rewriter}
use Rattle.avro_canonical.proofs.Making.{made_rewriting, memory_refused, not_carried}
use Rattle.avro_canonical.proofs.Serializers.{err_then}
use Rattle.avro_canonical.proofs.rewriter.BlockRewriter.new.Goals as goal

pub returns-in_err-check_carried-clause-err : goal.returns-in_err-check_carried-clause-err
returns-in_err-check_carried-clause-err c =
    let root = (out-Record c.args.root).fields in
    let is : c.from_residual.result ≡ Err c.in_err-check_carried.field-0.0 = search rules in
    err_then (CannotBeRewritten root) c.from_residual.result c.in_err-check_carried.field-0.0 is
    (subst (λ (xs : List AvroField). CannotBeRewritten xs c.in_err-check_carried.field-0.0) c.as_slice.ensures (not_carried _ c.in_err-check_carried.field-0.0 c.in_err-check_carried.ensures))

pub returns-in_err-fields-clause-err : goal.returns-in_err-fields-clause-err
returns-in_err-fields-clause-err c =
    let root = (out-Record c.args.root).fields in
    let given = err_from_is_err_and c.from_residual-in_err-fields.result c.from_residual-in_err-fields.ensures.1 in
    err_then (CannotBeRewritten root) c.from_residual-in_err-fields.result given.0 given.1 (memory_refused root given.0 (given.2 ∙ c.in_err-fields.ensures.memory))

pub invariant_of-rewriter : goal.invariant_of-rewriter
invariant_of-rewriter c =
    let root = (out-Record c.args.root).fields in
    let fields = (out-Record c.in_ok-fields.field-0).fields in
    let w : Rewriting = record { decoder = c.in_ok-decoder.decoder; fields = fields; marker = c.args.marker } in
    let of_record = λ (z : Record). (out-Record z).fields in
    let made =
    made_rewriting root c.in_ok-columns.columns.fields c.in_ok-nameless.field-0 c.args.name.now c.args.marker c.in_ok-target.target c.in_ok-decoder.decoder fields c.in_ok-columns.ensures.fields c.in_ok-nameless.ensures.record_is c.in_ok-target.ensures.named c.in_ok-decoder.ensures.decoder (ap of_record c.in_ok-fields.ensures.copy) in
    made_rewriter c.are_alike-may_copy.result w c.avro_fields.result.now c.as_slice-2.result.now made c.avro_fields.ensures c.as_slice-2.ensures c.are_alike-may_copy.ensures
