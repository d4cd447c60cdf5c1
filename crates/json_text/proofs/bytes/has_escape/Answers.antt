-- A chunk that needs no escape is passed; at the end the rest decides.
use Rattle.arrow_base.proofs.Runs.{passed-none, passed-block}
use Rattle.json_text.proofs.Beneath.{on_false_map}
use Rattle.json_text.proofs.Chunks.{passed_then}
use Rattle.json_text.proofs.bytes.has_escape.Goals as goal

pub loop-rest-init : goal.loop-rest-init
loop-rest-init c = passed-none _

pub loop-rest-preserved : goal.loop-rest-preserved
loop-rest-preserved c =
    passed-block _ _ _ _ 16 c.loop-rest.invariant c.split_at.ensures.front c.split_at.ensures.back (rw c.if-chunk_has_escape.false at c.chunk_has_escape.ensures)

pub returns : goal.returns
returns c = on_false_map _ _ _ (passed_then _ _ c.loop-rest.invariant) c.short_has_escape.ensures
