-- What was pushed is no overflow.
use Rattle.arrow_core.specs.Numbers.{greatest_offset}
use Rattle.arrow_dictionaries.proofs.ValueSlots.{push_within}
use Rattle.arrow_dictionaries.proofs.values.push_string.Goals as goal

pub returns-clause-within : goal.returns-clause-within
returns-clause-within g c = push_within c.push.result (greatest_offset g.O.Offset.IS_LARGE) _ _ c.push.ensures.overflow c.push.ensures.bytes
