use Rattle.avro_canonical.proofs.Again.{decoded_is_serializable}
use Rattle.avro_canonical.proofs.TableRows.{rows_are}
use Rattle.avro_canonical.proofs.Accepted.{fields_again, table_clean, clean_widths, accepted}
use Rattle.avro_canonical.proofs.laws.decoded_is_serializable.Goals as goal
use Rattle.std.proofs.Common.{true}

pub returns-clause-law : goal.returns-clause-law
returns-clause-law c = decoded_is_serializable

pub returns-clause-rows : goal.returns-clause-rows
returns-clause-rows c = rows_are

pub returns-clause-accepted : goal.returns-clause-accepted
returns-clause-accepted c n avros columns raw arrays bytes table carried floats e q are r types slots =
    let again = fields_again true 0 0 avros columns raw carried floats e q in
    let clean = table_clean n avros columns _ bytes table again are r in
    (accepted avros columns _ arrays table again clean types slots, clean_widths _ table clean)
