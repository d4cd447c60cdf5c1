-- The first bytes of the key that was filled up are the key.
use Rattle.std.proofs.Common.{◌≡◌, ◌≤◌, List, ℕ, length, take, ap, ◌∙◌, arith}
use Rattle.json_text.proofs.Chunks.{prefix_kept}
use Rattle.json_text.proofs.columns.shorten.Goals as goal

pub returns : goal.returns
returns c =
    let len : c.len-len.result ≡ length c.args.key.items = omega (arith, c.len-len.ensures) in
    let short : length c.args.key.items ≤ 16 = omega (arith, c.if-len-gt16.false, len) in
    prefix_kept c.args.key.items _ c.in-Some.head.now _ _ len short c.in_ok-resize.ensures.items
    (c.in-Some.ensures.cases.same ∙ ap (λ (z : List ℕ). take 16 z) c.as_slice.ensures.value)
