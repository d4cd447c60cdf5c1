use Rattle.std.proofs.Common.{rules, ◌∙◌, arith}
use Rattle.std.specs.Int.{w32}
use Rattle.std.proofs.lemmas.Int.{to_z-of_z}
use Rattle.avro_flat.proofs.Durations.{int_is}
use Rattle.avro_flat.proofs.duration.int_at.Goals as goal

pub returns : goal.returns
returns c =
    to_z-of_z w32 c.from_le_bytes.result (search rules) ∙ c.from_le_bytes.ensures ∙ int_is c.args.bytes.now c.args.start c.requires.within (λ i. omega (arith, c.type_inv.bytes i))
