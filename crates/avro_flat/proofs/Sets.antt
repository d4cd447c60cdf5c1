-- The lemmas that several functions want, by what they are about.
use Rattle.avro_reference.proofs.Counting.{number_costs, ended_moves, byte_costs, still_moves, drop_moves}
use Rattle.avro_flat.proofs.Counted.{binary_none, binary_short}
use Rattle.avro_flat.proofs.Decimals.{decimal_none}
use Rattle.avro_flat.proofs.Pushes.{fills_none, takes_none, number_fills, number_has_memory, string_takes}
use Rattle.avro_flat.proofs.Sized.{string_good, string_wrong, string_short, string_none}
use Rattle.avro_flat.proofs.Symbols.{symbol_none, symbol_out, symbol_fills}
use Rattle.avro_flat.proofs.Unfolded.{push_none, push_some, boolean_none, boolean_some, int_is, long_is}

pub ruleset next_values = (ended_moves, byte_costs, boolean_none, boolean_some, int_is)

pub ruleset flats = (fills_none, number_fills, number_has_memory, number_costs, push_none, push_some, long_is)

pub ruleset strings = (fills_none, push_none, push_some, string_good, string_wrong, string_short, string_none)

pub ruleset fixed_values = (fills_none, push_none, drop_moves, still_moves)

pub ruleset fixed_pushes = (takes_none, string_takes)

pub ruleset binaries = (fills_none, push_none, binary_none, binary_short)

pub ruleset decimals = (fills_none, push_none, push_some, decimal_none)

pub ruleset decimal_bytes = (still_moves)

pub ruleset symbols = (fills_none, push_none, symbol_none, symbol_out, symbol_fills, number_has_memory, number_costs)

pub ruleset durations = (fills_none, still_moves)
