-- The lemmas that several functions want, by what they are about.
use Rattle.avro_reference.proofs.Counting.{forward_none}
use Rattle.avro_decode.proofs.Capacity.{few_slots_left, few_slots_passed, few_content_left, few_content_passed, capacity_left, capacity_kept, all_spare, types_stay}
use Rattle.avro_decode.proofs.Keeping.{keeps_all}
use Rattle.avro_decode.proofs.Nodes.{one_grows, grows_none}

pub ruleset kinds = (one_grows, keeps_all)

pub ruleset values = (grows_none)

pub ruleset wholes = (forward_none, few_slots_left, few_slots_passed, few_content_left, few_content_passed, capacity_left, capacity_kept, all_spare, types_stay)
