use Rattle.std.proofs.Common.{◌≡◌, ◌∙◌, sym, ap, subst}
use Rattle.arrow_core.specs.declared.types.DataType.{DataType}
use Rattle.arrow_core.specs.declared.types.DataType as types
use Rattle.arrow_core.specs.declared.types.Schema.{Schema}
use Rattle.avro_schema.specs.declared.schema.Schema as schema
use Rattle.ndjson_avro.specs.Steps.{IsRootOf}
use Rattle.ndjson_avro.proofs.Held.{plan_for}
use Rattle.ndjson_avro.proofs.Roots.{is_root}
use Rattle.ndjson_avro.proofs.Straight.{are_lines}
use Rattle.ndjson_avro.proofs.encoder.BlockEncoder.new.Goals as goal

pub make_target-requires : goal.make_target-requires
make_target-requires c = ap (λ (s : Schema). types.Struct s.fields) c.in_ok-fields.ensures.copy

pub returns-clause-ok : goal.returns-clause-ok
returns-clause-ok c =
    let same : types.Struct c.in_ok-fields.field-0.fields ≡ types.Struct c.args.schema.now.fields = ap (λ (s : Schema). types.Struct s.fields) c.in_ok-fields.ensures.copy in
    let root : schema.Record c.in_ok-root.root ≡ schema.Record c.in_ok-target.target = ap schema.Record c.in_ok-root.ensures.copy in
    record {
      has = c.in_ok-target.ensures.ok;
      row_type = same;
      root = root;
      are_lines = are_lines _ (types.Struct c.in_ok-fields.field-0.fields) c.args.schema.now.fields _ same (c.into_vec.ensures ∙ ap (λ (s : Schema). s.fields) c.in_ok-columns.ensures.copy) c.in_ok-lines.ensures.ok;
      is_plan = plan_for c.new-plan.result (types.Struct c.in_ok-fields.field-0.fields) (schema.Record c.in_ok-root.root) c.as_slice.result.now c.in_ok-target.target (same ∙ sym (ap types.Struct (c.as_slice.ensures ∙ ap (λ (s : Schema). s.fields) c.in_ok-columns.ensures.copy))) root c.new-plan.ensures;
      is_root = subst (λ (x : schema.Schema × DataType). IsRootOf x.0 x.1) (λ i. (sym root i, sym same i)) (is_root c.args.schema.now.fields c.args.name.now c.in_ok-target.target c.in_ok-target.ensures.ok);
    }
