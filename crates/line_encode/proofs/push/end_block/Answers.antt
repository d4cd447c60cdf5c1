use Rattle.std.proofs.Common.{refl, arith}
use Rattle.line_encode.proofs.Items.{no_items, some_items}
use Rattle.line_encode.proofs.push.end_block.Goals as goal

pub returns-then-count-eq0 : goal.returns-then-count-eq0
returns-then-count-eq0 c = no_items c.args.start c.args.count c.args.out.now.items (omega (arith, c.if-count-eq0.true))

pub returns : goal.returns
returns c =
    some_items c.args.start c.args.count _ c.args.out.now.items _ c.push.new.self.items (λ k. absurd (omega (arith, k, c.if-count-eq0.false))) (omega (arith, c.if-count-gt-COUNTED_IN_A_BYTE.false)) refl refl c.in_ok-push.ensures.items
