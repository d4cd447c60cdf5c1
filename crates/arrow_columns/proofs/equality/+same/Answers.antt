use mathlib.Core.Path.{ap, sym, ◌∙◌}
use Rattle.std.proofs.Common.{arith, add-one, ◌≡◌, ◌<◌, length, drop, get_or-drop, length-drop}
use Rattle.std.proofs.lemmas.Bool.{false≢true}
use Rattle.arrow_core.specs.declared.slot.Slot.TheVariants as slot
use Rattle.arrow_core.specs.Moments.{equal_parts}
use Rattle.arrow_array.specs.Arrays.{array_slots}
use Rattle.arrow_columns.specs.Cells.{interval_slot}
use Rattle.arrow_columns.proofs.Same.{interval_same, list_same, same_more, part_length, struct_lengths, same_field, one_more_field}
use Rattle.arrow_columns.proofs.equality.+same.Goals as goal

pub same_cells-returns-in-List-right : goal.same_cells-returns-in-List-right
same_cells-returns-in-List-right t c = rw (c.in-List.is, c.in-List-right.is) (λ e. ap slot.List (c.same_parts.ensures.0 e), λ d. c.same_parts.ensures.1 (list_same _ _ d))

pub same_structs-returns-then-left-right : goal.same_structs-returns-then-left-right
same_structs-returns-then-left-right t c = (λ f. absurd (false≢true f), λ e. absurd (c.if-left-right.true (struct_lengths _ _ _ _ e)))

pub same_structs-returns-then-not-same_slot : goal.same_structs-returns-then-not-same_slot
same_structs-returns-then-not-same_slot t c = (
  λ f. absurd (false≢true f),
  λ e.
      let same : c.same_slot.result ≡ _ = c.same_slot.ensures.1 (same_field _ _ _ _ c.loop-k.k _ _ (omega arith) (omega arith) c.index-left-k.is c.index-right-k.is e) in
      cc,
)

pub same_structs-loop-k-preserved : goal.same_structs-loop-k-preserved
same_structs-loop-k-preserved t c =
    rw (add-one c.loop-k.k) (one_more_field _ _ _ _ c.loop-k.k _ _ (omega arith) (omega arith) c.index-left-k.is c.index-right-k.is (c.same_slot.ensures.0 c.if-not-same_slot.false) c.loop-k.invariant)

pub same_parts-returns-then-count-right : goal.same_parts-returns-then-count-right
same_parts-returns-then-count-right t c = (
  λ f. absurd (false≢true f),
  λ e. absurd (c.if-count-right.true (sym (part_length _ _ _ c.requires.left.order c.requires.left.within) ∙ ap length e ∙ part_length _ _ _ c.requires.right.order c.requires.right.within)),
)

pub same_parts-loop-k-preserved : goal.same_parts-loop-k-preserved
same_parts-loop-k-preserved t c =
    let xs = array_slots c.args.left.now.array.now in
    let ys = array_slots c.args.right.now.array.now in
    let n = length-drop c.args.left.now.start xs in
    let m = length-drop c.args.right.now.start ys in
    rw (add-one c.loop-k.k) (same_more slot.Null (drop c.args.left.now.start xs) (drop c.args.right.now.start ys) c.loop-k.k (omega arith) (omega arith) c.loop-k.invariant
    (get_or-drop c.args.left.now.start xs c.loop-k.k slot.Null ∙ c.same_slot.ensures.0 c.if-not-same_slot.false ∙ sym (get_or-drop c.args.right.now.start ys c.loop-k.k slot.Null)))

pub same_cells-returns-in-Interval-right : goal.same_cells-returns-in-Interval-right
same_cells-returns-in-Interval-right t c =
    let p = equal_parts c.in-Interval.interval c.in-Interval-right.interval_2 in
    rw (c.in-Interval.is, c.in-Interval-right.is) (λ e. ap interval_slot (p.0 (sym c.eq.ensures ∙ e)), λ e. c.eq.ensures ∙ p.1 (interval_same _ _ e))
