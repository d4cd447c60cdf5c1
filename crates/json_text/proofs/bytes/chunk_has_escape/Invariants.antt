-- So far no byte that needs an escape was found, or one was.
use Rattle.std.proofs.Common.{◌≡◌, take, flat_map}
use Rattle.std.specs.Bool.{OnFalse}
use Rattle.arrow_base.specs.WrittenString.{escaped}
use Rattle.json_text.proofs.bytes.chunk_has_escape.Given as goal

abbrev pub invariant-loop-byte : goal.invariant-loop-byte
invariant-loop-byte l = OnFalse l.found (flat_map escaped (take l.byte-index l.chunk) ≡ take l.byte-index l.chunk)
