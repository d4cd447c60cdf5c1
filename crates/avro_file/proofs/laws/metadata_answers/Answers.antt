use Rattle.avro_file.proofs.Complete as complete
use Rattle.avro_file.proofs.laws.metadata_answers.Goals as goal

pub returns-clause-read : goal.returns-clause-read
returns-clause-read c = complete.metadata_is_read

pub returns-clause-right : goal.returns-clause-right
returns-clause-right c prefix rest marker answered_marker root answered count change tells m r =
    complete.metadata_is_right prefix rest marker root change tells m answered_marker answered count r
