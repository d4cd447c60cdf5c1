-- Each turn adds a comma where one is wanted, and `null`.
use Rattle.std.proofs.Common.{◌<◌, ◌+◌, ◌-◌, length, map, take, drop, ap, sym, ◌∙◌, arith}
use Rattle.arrow_core.specs.declared.slot.Slot.TheVariants as slot
use Rattle.arrow_array.specs.Slots.{slot_at}
use Rattle.json_text.specs.JsonText.{text}
use Rattle.json_text.proofs.Forms.{if_not_held}
use Rattle.json_text.proofs.Joined.{joined_more, map_at, map_length, part_at, part_length}
use Rattle.json_text.proofs.Kept.{starts_through}
use Rattle.json_text.proofs.items.push_nulls.Goals as goal

pub loop-k-preserved : goal.loop-k-preserved
loop-k-preserved c =
    let a = c.args.array.now in
    let f = text a.data_type in
    let xs = take (c.args.end - c.args.start) (drop c.args.start a.slots) in
    let n = part_length a.slots c.args.start c.args.end c.requires.order c.requires.within in
    let within : c.loop-k.k < length xs = omega (arith, n) in
    let here = map_at f xs c.loop-k.k slot.Null within ∙ ap f (part_at a.slots c.args.start c.args.end c.loop-k.k slot.Null c.requires.order c.requires.within (omega arith)) in
    let is = if_not_held a.data_type (slot_at a.slots (c.args.start + c.loop-k.k)) (sym c.is_valid.ensures.held ∙ c.is_valid.ensures.never) in
    record {
      text = joined_more c.args.out.now.items _ _ _ _ (map f xs) c.loop-k.k (omega (arith, map_length f xs, within)) (here ∙ sym is) c.loop-k.invariant.text c.in_ok-push_comma.ensures.ok c.in_ok-push_null.ensures.ok;
      kept = starts_through c.push_null.new.out.items (starts_through c.push_comma.new.out.items c.loop-k.invariant.kept c.in_ok-push_comma.ensures.kept) c.in_ok-push_null.ensures.kept;
    }
