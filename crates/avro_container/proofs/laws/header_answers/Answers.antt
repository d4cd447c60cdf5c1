use Rattle.avro_container.proofs.Complete as complete
use Rattle.avro_container.proofs.laws.header_answers.Goals as goal

pub returns-clause-read : goal.returns-clause-read
returns-clause-read c = complete.header_is_read

pub returns-clause-magic : goal.returns-clause-magic
returns-clause-magic c = complete.magic_cause

pub returns-clause-header : goal.returns-clause-header
returns-clause-header c = complete.header_cause

pub returns-clause-codec : goal.returns-clause-codec
returns-clause-codec c = complete.codec_cause

pub returns-clause-limit : goal.returns-clause-limit
returns-clause-limit c = complete.header_limit_cause
