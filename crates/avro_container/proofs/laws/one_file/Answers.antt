use Rattle.std.proofs.Common.{◌∙◌, sym}
use Rattle.avro_container.specs.Laws.{IsItself}
use Rattle.avro_container.proofs.OneFile as one
use Rattle.avro_container.proofs.laws.one_file.Goals as goal

pub returns-clause-one : goal.returns-clause-one
returns-clause-one c = one.one_file IsItself (λ text r q a b. a ∙ sym b)

pub returns-clause-canonical : goal.returns-clause-canonical
returns-clause-canonical c = one.canonical_is_file IsItself
