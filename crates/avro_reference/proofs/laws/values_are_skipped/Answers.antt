use Rattle.avro_schema.specs.Broken.{Broken}
use Rattle.avro_schema.specs.Skips.{Skips}
use Rattle.avro_reference.specs.Skip.{skip}
use Rattle.avro_reference.proofs.Exact.{passes_all, is_negative_at, is_bad_elsewhere}
use Rattle.avro_reference.proofs.SkippedValues.{skip_sound, skip_complete, skip_breaks, skip_broke}
use Rattle.avro_reference.proofs.laws.values_are_skipped.Goals as goal

pub returns-clause-all : goal.returns-clause-all
returns-clause-all c = λ s. passes_all (skip s) (Skips s) (Broken s) (skip_sound s) (skip_complete s) (skip_breaks s) (skip_broke s)

pub returns-clause-negative : goal.returns-clause-negative
returns-clause-negative c = λ s. is_negative_at (skip s) (Skips s) (Broken s) (skip_sound s) (skip_complete s) (skip_breaks s) (skip_broke s)

pub returns-clause-bad : goal.returns-clause-bad
returns-clause-bad c = λ s. is_bad_elsewhere (skip s) (Skips s) (Broken s) (skip_sound s) (skip_complete s) (skip_breaks s) (skip_broke s)
