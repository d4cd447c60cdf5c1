use Rattle.avro_container.proofs.Complete as complete
use Rattle.avro_container.proofs.laws.block_answers.Goals as goal

pub returns-clause-read : goal.returns-clause-read
returns-clause-read c = complete.block_is_read

pub returns-clause-end : goal.returns-clause-end
returns-clause-end c = complete.end_is_end

pub returns-clause-no_bytes : goal.returns-clause-no_bytes
returns-clause-no_bytes c = complete.no_bytes_are_end

pub returns-clause-container : goal.returns-clause-container
returns-clause-container c = complete.container_cause

pub returns-clause-marker : goal.returns-clause-marker
returns-clause-marker c = complete.marker_cause

pub returns-clause-limit : goal.returns-clause-limit
returns-clause-limit c = complete.block_limit_cause
