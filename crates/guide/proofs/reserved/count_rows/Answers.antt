use Rattle.std.proofs.Common.{◌≡◌, ◌∙◌, ◌<◌, ◌≢◌, length, Err, arith, rules}
use Rattle.std.proofs.lemmas.Grind.{common_steps}
use Rattle.arrow_core.specs.declared.error.Error.TheVariants.{OutOfMemory}
use Rattle.avro_decode.proofs.Capacity.{fits_stay}
use Rattle.avro_decode.proofs.Fields.{suit_same}
use Rattle.guide.proofs.Spare.{spare_for_none, block_is_short, err_then}
use Rattle.guide.proofs.reserved.count_rows.Goals as goal

pub decode-requires-clause-data_types : goal.decode-requires-clause-data_types
decode-requires-clause-data_types c = c.loop-i.invariant.data_types ∙ c.requires.data_types

pub decode-requires-clause-suits : goal.decode-requires-clause-suits
decode-requires-clause-suits c = suit_same _ _ _ c.loop-i.invariant.shapes c.requires.suits

pub decode-requires-clause-types_fit : goal.decode-requires-clause-types_fit
decode-requires-clause-types_fit c = fits_stay _ _ c.loop-i.invariant.shapes c.requires.types_fit

pub returns-in_err-decode-clause-memory : goal.returns-in_err-decode-clause-memory
returns-in_err-decode-clause-memory c = λ n spare few paid.
    let is : c.from_residual.result ≡ Err c.in_err-decode.field-0.0 = search rules in
    let within : c.loop-i.i < length c.args.blocks.now = omega (arith, c.loop-i-test.true) in
    err_then (λ e. e ≢ OutOfMemory) c.from_residual.result c.in_err-decode.field-0.0 is
    (c.in_err-decode.ensures.memory n (c.loop-i.invariant.capacity n spare) (block_is_short c.args.blocks.now n c.loop-i.i c.index-blocks-i.result c.index-blocks-i.is within few) paid)

pub loop-i-preserved : goal.loop-i-preserved
loop-i-preserved c =
    let before = c.loop-i.invariant in
    let step = c.in_ok-decode.ensures in
    record {
      data_types = c.clear.ensures.data_types ∙ step.data_types ∙ before.data_types;
      shapes = c.clear.ensures.shapes ∙ step.shapes ∙ before.shapes;
      tight = c.clear.ensures.tight;
      empty = (c.reserved_capacity_stays.ensures 0 _ _ _ (spare_for_none c.loop-i.builders) step.capacity c.clear.ensures.capacity).0;
      capacity = λ n spare. (c.reserved_capacity_stays.ensures n _ _ _ (before.capacity n spare) step.capacity c.clear.ensures.capacity).1;
      counted = grind (arith, common_steps);
    }
