use Rattle.std.proofs.Common.{◌≡◌, ◌∙◌, ap, Bool, length, refl, subst}
use Rattle.arrow_array.specs.Slots.{boolean_at}
use Rattle.arrow_flat.specs.Bits.{Tells}
use Rattle.arrow_flat.specs.Capacity.{Growing}
use Rattle.arrow_flat.proofs.Slots.{slots_of-told}
use Rattle.arrow_flat.proofs.boolean.MutableBooleanArray.as_box.Goals as goal

pub returns-clause-array_slots : goal.returns-clause-array_slots
returns-clause-array_slots c =
    let v : c.in_ok-values.values.booleans ≡ c.self.inside.values.items = c.in_ok-values.ensures.ok.0 ∙ ap (λ (b : Growing Bool). b.items) c.replace-values.ensures.value in
    let t : Tells c.in_ok-values.validity c.self.inside.validity.items = subst (λ (b : Growing Bool). Tells c.in_ok-values.validity b.items) c.replace-validity.ensures.value c.in_ok-values.ensures.ok.1 in
    rw (← c.self.view_is) (c.from_bitmaps.ensures.slots ∙ slots_of-told _ _ c.in_ok-values.validity _ _ _ (ap boolean_at v) t (ap length v ∙ c.self.invariant.0) refl)
