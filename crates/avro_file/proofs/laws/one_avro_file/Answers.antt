use Rattle.avro_container.proofs.OneFile.{one_file}
use Rattle.avro_file.specs.File.{StandsFor}
use Rattle.avro_file.proofs.Roots.{one_root, canonical}
use Rattle.avro_file.proofs.laws.one_avro_file.Goals as goal

pub returns-clause-one : goal.returns-clause-one
returns-clause-one c = one_file StandsFor one_root

pub returns-clause-canonical : goal.returns-clause-canonical
returns-clause-canonical c = canonical
