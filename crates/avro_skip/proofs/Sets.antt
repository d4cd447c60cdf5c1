-- The lemmas that several functions want, by what they are about.
use Rattle.avro_reference.proofs.Counting.{moves_none, still_moves, ended_moves, drop_moves, drop_shorter, number_first}
use Rattle.avro_skip.proofs.Flats.{number_passes, number_bad, raw_passes, raw_shorter, byte_bad, sized_passes, sized_shorter, sized_bad, stated_passes, stated_bad, null_skipped}
use Rattle.avro_skip.proofs.Unfolded.{jump_is}
use Rattle.avro_skip.proofs.Unions.{first_passes, second_passes, union_bad, skip_other}

pub ruleset jumps = (still_moves, drop_moves, drop_shorter, jump_is)

pub ruleset numbered = (number_first, number_passes, number_bad, sized_passes, sized_shorter, sized_bad, stated_passes, stated_bad)

pub ruleset flats = (raw_passes, raw_shorter)

pub ruleset bytes = (ended_moves, byte_bad)

pub ruleset nulls = (moves_none, null_skipped)

pub ruleset unions = (number_first, first_passes, second_passes, union_bad, skip_other)
