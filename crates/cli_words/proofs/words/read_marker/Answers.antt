use Rattle.cli_words.proofs.Numerals.{marker_is_number}
use Rattle.cli_words.proofs.words.read_marker.Goals as goal

pub returns-in-Err-clause-none : goal.returns-in-Err-clause-none
returns-in-Err-clause-none c = λ none marker is. c.in-Err.ensures.value (marker_is_number c.args.digits.now marker is)
