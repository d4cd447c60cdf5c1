use Rattle.std.proofs.Common.{subst, rules}
use Rattle.avro_schema.specs.declared.schema.Schema.TheViews.{the_lemmas}
use Rattle.avro_schema.specs.Carried.{IsNoUnion}
use Rattle.avro_decode.specs.Steps.{StepFits}
use Rattle.avro_decode.specs.declared.steps.Step.{Step}
use Rattle.avro_decode.proofs.Members.{has_flat_kind, union_suits, union_reach, union_grows, union_spare, union_gives}
use Rattle.avro_decode.proofs.FieldSteps.{union_pair, no_step}
use Rattle.avro_decode.proofs.steps.decode_step.Goals as goal

pub decode_kind-requires-clause-kind : goal.decode_kind-requires-clause-kind
decode_kind-requires-clause-kind g c = has_flat_kind c.args.schema.now c.args.builder.now c.requires.suits

pub unreachable-requires : goal.unreachable-requires
unreachable-requires g c =
    let n = c.in_default.not-Union in
    let u : IsNoUnion c.args.schema.now = search (rules, the_lemmas) in
    no_step c.args.schema.now c.in-Nullable.null_first c.in-Nullable.kind u (subst (λ (x : Step). StepFits x c.args.schema.now) c.in-Nullable.is c.requires.fits)

pub decode_nullable-requires : goal.decode_nullable-requires
decode_nullable-requires g c = record {
  fits = union_pair c.args.schema.now c.in-Union.members c.as_slice.result.now c.in-Nullable.null_first c.in-Nullable.kind c.in-Union.is c.as_slice.ensures (subst (λ (x : Step). StepFits x c.args.schema.now) c.in-Nullable.is c.requires.fits);
  suits = union_suits c.args.schema.now c.in-Union.members c.as_slice.result.now c.in-Union.is c.as_slice.ensures _ c.requires.suits;
  tight = c.requires.tight;
  offsets = union_reach c.args.schema.now c.in-Union.members c.as_slice.result.now c.in-Union.is c.as_slice.ensures _ c.args.builder.now c.requires.offsets;
}

pub returns-in-Union-clause-keeps : goal.returns-in-Union-clause-keeps
returns-in-Union-clause-keeps g c =
    let e = c.decode_nullable.ensures.keeps in
    record {
      same_shape = e.same_shape;
      tight = e.tight;
      grows = union_grows c.args.schema.now c.in-Union.members c.as_slice.result.now c.in-Union.is c.as_slice.ensures _ _ _ e.grows;
      has_capacity = λ h. e.has_capacity (union_spare c.args.schema.now c.in-Union.members c.as_slice.result.now c.in-Union.is c.as_slice.ensures _ _ h);
      same = e.same;
      moves = e.moves;
      costs = e.costs;
    }

pub returns-in-Union-clause-reads : goal.returns-in-Union-clause-reads
returns-in-Union-clause-reads g c = union_gives c.args.schema.now c.in-Union.members c.as_slice.result.now c.in-Union.is c.as_slice.ensures _ c.decode_nullable.result _ _ c.decode_nullable.ensures.reads
