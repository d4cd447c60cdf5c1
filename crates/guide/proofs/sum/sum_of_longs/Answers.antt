use Rattle.std.proofs.Common.{◌≡◌, List, length, Some, None, Err, inl, refl, ap, subst, rules}
use Rattle.avro_schema.specs.declared.schema.AvroField.{AvroField}
use Rattle.avro_schema.specs.declared.schema.Record.{out-Record}
use Rattle.avro_schema.specs.Inferred.{inferred_columns}
use Rattle.avro_container.specs.ReadHeader.{change}
use Rattle.avro_container.specs.Taking.{state}
use Rattle.avro_read.specs.Reader.{projected_of, marker_of, state_of}
use Rattle.guide.specs.Sum.{only}
use Rattle.guide.proofs.Spare.{err_then}
use Rattle.guide.proofs.Sums.{if_sum, no_projection, no_reader, no_field, no_rows}
use Rattle.guide.proofs.sum.sum_of_longs.Goals as goal

pub returns-in_err-infer_schema-clause-err : goal.returns-in_err-infer_schema-clause-err
returns-in_err-infer_schema-clause-err g c =
    let is : c.from_residual-in_err-infer_schema.result ≡ Err c.in_err-infer_schema.field-0.0 = search rules in
    err_then _ c.from_residual-in_err-infer_schema.result c.in_err-infer_schema.field-0.0 is
    (no_field c.args.field (change g.S.Source.left g.S.Source.faults c.args.source c.read_metadata.new.source _) refl
    c.in_ok-metadata.metadata.root c.in_ok-metadata.metadata.marker c.in_ok-metadata.taken c.in_ok-metadata.ensures.ok
    c.in_err-infer_schema.field-0.0 (inl c.in_err-infer_schema.ensures.err))

pub returns-in_err-projection-clause-err : goal.returns-in_err-projection-clause-err
returns-in_err-projection-clause-err g c =
    let is : c.from_residual-in_err-projection.result ≡ Err c.in_err-projection.field-0.0 = search rules in
    err_then _ c.from_residual-in_err-projection.result c.in_err-projection.field-0.0 is
    (no_field c.args.field (change g.S.Source.left g.S.Source.faults c.args.source c.read_metadata.new.source _) refl
    c.in_ok-metadata.metadata.root c.in_ok-metadata.metadata.marker c.in_ok-metadata.taken c.in_ok-metadata.ensures.ok
    c.in_err-projection.field-0.0
    (no_projection c.args.field _ c.in_ok-metadata.metadata.root c.in_err-projection.field-0.0 (ap length c.as_slice.ensures) c.in_err-projection.ensures.err))

pub returns-in_err-reader-clause-err : goal.returns-in_err-reader-clause-err
returns-in_err-reader-clause-err g c =
    let is : c.from_residual-in_err-reader.result ≡ Err c.in_err-reader.field-0.0 = search rules in
    let inferred : inferred_columns (out-Record c.in_ok-metadata.metadata.root).fields ≡ Some c.into_vec-fields.result.items = search rules in
    let one = subst (λ (xs : List AvroField). c.in_ok-projection.projection.items ≡ only c.args.field (length xs)) c.as_slice.ensures c.in_ok-projection.ensures.ok in
    err_then _ c.from_residual-in_err-reader.result c.in_err-reader.field-0.0 is
    (no_field c.args.field (change g.S.Source.left g.S.Source.faults c.args.source c.read_metadata.new.source _) refl
    c.in_ok-metadata.metadata.root c.in_ok-metadata.metadata.marker c.in_ok-metadata.taken c.in_ok-metadata.ensures.ok
    c.in_err-reader.field-0.0
    (no_reader c.args.field c.in_ok-metadata.metadata.root c.into_vec-fields.result.items c.in_ok-metadata.metadata.compression c.in_ok-projection.projection.items
    c.in_err-reader.field-0.0 inferred c.in_ok-metadata.ensures.no_compression one c.in_err-reader.ensures.err))

pub returns : goal.returns
returns g c =
    let reader = c.in_ok-reader.ensures in
    let header = change g.S.Source.left g.S.Source.faults c.args.source c.read_metadata.new.source _ in
    let one = subst (λ (xs : List AvroField). c.in_ok-projection.projection.items ≡ only c.args.field (length xs)) c.as_slice.ensures c.in_ok-projection.ensures.ok in
    record {
      sum =
          if_sum c.args.field c.sum_of_chunks.result header
          c.in_ok-metadata.metadata.root c.in_ok-metadata.metadata.marker (marker_of c.in_ok-reader.reader) c.in_ok-metadata.taken
          c.into_vec-fields.result.items (projected_of c.in_ok-reader.reader) c.in_ok-projection.projection.items
          (state_of g.S.Source.left g.S.Source.faults c.in_ok-reader.reader) (state_of g.S.Source.left g.S.Source.faults c.sum_of_chunks.new.reader)
          c.in_ok-metadata.ensures.ok reader.projected one
          reader.marker (ap g.S.Source.left reader.source) c.sum_of_chunks.ensures.ok;
      err =
          no_rows c.args.field header refl c.in_ok-metadata.metadata.root c.in_ok-metadata.metadata.marker c.in_ok-metadata.taken c.in_ok-metadata.ensures.ok
          c.into_vec-fields.result.items (projected_of c.in_ok-reader.reader) (marker_of c.in_ok-reader.reader) c.in_ok-projection.projection.items
          (state_of g.S.Source.left g.S.Source.faults c.in_ok-reader.reader) (state_of g.S.Source.left g.S.Source.faults c.sum_of_chunks.new.reader) c.sum_of_chunks.result
          reader.projected one reader.marker (λ i. state (g.S.Source.left (reader.source i)) (g.S.Source.faults (reader.source i)) (reader.limit i) None) c.sum_of_chunks.ensures.err;
    }
