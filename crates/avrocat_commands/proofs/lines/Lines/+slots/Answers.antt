-- Each turn adds a comma where one is wanted, and a slot. At the end the bracket makes the text of the list or struct.
use Rattle.std.proofs.Common.{◌≡◌, ◌<◌, ◌-◌, ◌++◌, codes, length, map, take, drop, ap, sym, ◌∙◌, arith, get_or-drop, length-drop}
use Rattle.std.proofs.Math.Seq.{take-length}
use Rattle.std.proofs.lemmas.Result.{on_ok_weaker}
use Rattle.arrow_core.specs.declared.slot.Slot.TheVariants as slot
use Rattle.arrow_array.specs.Arrays.{array_slots}
use Rattle.avrocat_commands.specs.Shown.{joined, slot_text}
use Rattle.avrocat_commands.proofs.Joined.{joined_more}
use Rattle.avrocat_commands.proofs.SlotTexts.{list_done, record_done, field_at, fields_at, fields_length}
use Rattle.avrocat_commands.proofs.lines.Lines.+slots.Goals as goal

pub push_list-loop-k-preserved : goal.push_list-loop-k-preserved
push_list-loop-k-preserved t c =
    let part = c.args.part.now in
    let all = array_slots part.array.now in
    let n = length-drop part.start all in
    let within : c.loop-k.k < length (drop part.start all) = omega (arith, n) in
    let here = get_or-drop part.start all c.loop-k.k slot.Null in
    joined_more (c.args.self.now.text.items ++ codes "[") _ _ _ (drop part.start all) c.loop-k.k within c.loop-k.invariant c.in_ok-push_comma.ensures.ok
    (c.in_ok-push_slot.ensures.ok ∙ ap (λ x. c.push_comma.new.self.text.items ++ slot_text x) (sym here))

pub push_list-returns-clause-ok : goal.push_list-returns-clause-ok
push_list-returns-clause-ok t c =
    let done : c.loop-k.k ≡ c.args.part.now.end - c.args.part.now.start = omega arith in
    on_ok_weaker c.push-2.result (λ last. list_done _ _ _ _ (rw done at c.loop-k.invariant) last) c.push-2.ensures.ok

pub push_struct-loop-k-preserved : goal.push_struct-loop-k-preserved
push_struct-loop-k-preserved t c =
    let children = c.args.children.now in
    let within : c.loop-k.k < length (fields_at children c.args.i) = omega (arith, fields_length children c.args.i) in
    let here = field_at children c.args.i c.loop-k.k c.index-children-k.result (omega arith) c.index-children-k.is in
    joined_more (c.args.self.now.text.items ++ codes "{") _ _ _ (fields_at children c.args.i) c.loop-k.k within c.loop-k.invariant c.in_ok-push_comma.ensures.ok
    (c.in_ok-push_slot.ensures.ok ∙ ap (λ x. c.push_comma.new.self.text.items ++ slot_text x) (sym here))

pub push_struct-returns-clause-ok : goal.push_struct-returns-clause-ok
push_struct-returns-clause-ok t c =
    let xs = fields_at c.args.children.now c.args.i in
    let done : c.loop-k.k ≡ length xs = omega (arith, fields_length c.args.children.now c.args.i) in
    let whole : take c.loop-k.k xs ≡ xs = ap (λ n. take n xs) done ∙ take-length xs in
    on_ok_weaker c.push-2.result
    (λ last. record_done _ _ _ xs (c.loop-k.invariant ∙ ap (λ ys. (c.args.self.now.text.items ++ codes "{") ++ joined (map slot_text ys)) whole) last)
    c.push-2.ensures.ok
