-- Each byte is in one of the two chunks.
use Rattle.json_text.proofs.Chunks.{ends_then, on_false_both}
use Rattle.json_text.proofs.bytes.ends_have_escape.Goals as goal

pub returns : goal.returns
returns c =
    on_false_both _ _ _ _ _ (ends_then c.args.string.now _ _ c.args.n c.requires.within c.requires.covered c.split_at.ensures.front c.split_at-2.ensures.back)
    c.chunk_has_escape.ensures c.chunk_has_escape-2.ensures
