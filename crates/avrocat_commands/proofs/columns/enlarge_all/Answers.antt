use Rattle.std.proofs.Common.{◌∙◌, map, ap, arith}
use Rattle.std.proofs.lemmas.List.{take_all}
use Rattle.avro_types.specs.Enlarged.{enlarged}
use Rattle.avro_types.proofs.Enlarging.{more_large}
use Rattle.avrocat_commands.proofs.columns.enlarge_all.Goals as goal

pub loop-field-preserved : goal.loop-field-preserved
loop-field-preserved c =
    more_large _ c.loop-field.field-index c.field-item.result c.in_ok-field.field _ _ c.loop-field-test.true c.loop-field.invariant c.field-item.is c.in_ok-field.ensures.large c.in_ok-push.ensures.items

pub returns-clause-ok : goal.returns-clause-ok
returns-clause-ok c =
    c.from_vec.ensures ∙ c.loop-field.invariant ∙ ap (map enlarged) (take_all c.loop-field.field-index _ (omega (arith, c.loop-field-test.false)))
