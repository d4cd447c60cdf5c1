use Rattle.std.proofs.Common.{List}
use Rattle.arrow_builders.specs.declared.array.MutableArray.{MutableArray}
use Rattle.avro_schema.specs.ValidBlock.{kept}
use Rattle.avro_decode.specs.Making.{AreNewBuilders}
use Rattle.avro_decode.proofs.Making.{all_suit, all_types}
use Rattle.avro_decode.proofs.NewBuilders.{if_all_made, made_empty, made_fit, made_tight}
use Rattle.avro_decode.proofs.prepare.make_builders.Goals as goal

pub returns-clause-suits : goal.returns-clause-suits
returns-clause-suits c =
    if_all_made (AreNewBuilders (kept c.args.avro_fields.now c.args.projection.now) (kept c.args.fields.now c.args.projection.now)) _ c.new_builders.result (λ (bs : List MutableArray) h. all_suit _ _ bs h) c.new_builders.ensures.made

pub returns-clause-data_types : goal.returns-clause-data_types
returns-clause-data_types c =
    if_all_made (AreNewBuilders (kept c.args.avro_fields.now c.args.projection.now) (kept c.args.fields.now c.args.projection.now)) _ c.new_builders.result (λ (bs : List MutableArray) h. all_types _ _ bs h) c.new_builders.ensures.made

pub returns-clause-types_fit : goal.returns-clause-types_fit
returns-clause-types_fit c =
    if_all_made (AreNewBuilders (kept c.args.avro_fields.now c.args.projection.now) (kept c.args.fields.now c.args.projection.now)) _ c.new_builders.result (λ (bs : List MutableArray) h. made_fit _ _ bs h) c.new_builders.ensures.made

pub returns-clause-tight : goal.returns-clause-tight
returns-clause-tight c =
    if_all_made (AreNewBuilders (kept c.args.avro_fields.now c.args.projection.now) (kept c.args.fields.now c.args.projection.now)) _ c.new_builders.result (λ (bs : List MutableArray) h. made_tight _ _ bs h) c.new_builders.ensures.made

pub returns-clause-empty : goal.returns-clause-empty
returns-clause-empty c =
    if_all_made (AreNewBuilders (kept c.args.avro_fields.now c.args.projection.now) (kept c.args.fields.now c.args.projection.now)) _ c.new_builders.result (λ (bs : List MutableArray) h. made_empty _ _ bs h) c.new_builders.ensures.made
