use Rattle.std.proofs.Common.{◌∙◌, ◌+◌, ◌-◌, ◌++◌, length, drop, take, ap, arith}
use mir.Syntax.{w64}
use Rattle.std.proofs.lemmas.Int.{to_z_pos}
use Rattle.std.proofs.lemmas.List.{length-drop, take_all}
use Rattle.line_encode.proofs.Items.{moved_items}
use Rattle.line_encode.proofs.push.move_items.Goals as goal

pub returns : goal.returns
returns c =
    let whole = c.as_slice.result.now in
    let from = c.args.start + 1 in
    let rest = take_all (length whole - from) (drop from whole) (omega (arith, length-drop from whole)) in
    let moved = c.as_slice-2.ensures.value ∙ (c.in_ok-extend_from_slice.ensures.items ∙ (ap (λ xs. xs ++ take (length whole - from) (drop from whole)) c.new-items.ensures.items ∙ (rest ∙ ap (drop from) c.as_slice.ensures.value))) in
    moved_items c.args.start c.args.count _ c.args.out.now.items c.as_slice-2.result.now c.truncate.new.self.items c.append_number.new.out.items c.extend_from_slice-2.new.self.items c.push.new.self.items (λ k. absurd (omega (arith, k, c.requires.some)))
    (to_z_pos w64 c.args.count c.requires.few) moved c.truncate.ensures.items c.in_ok-append_number.ensures.ok c.in_ok-extend_from_slice-2.ensures.items c.in_ok-push.ensures.items
