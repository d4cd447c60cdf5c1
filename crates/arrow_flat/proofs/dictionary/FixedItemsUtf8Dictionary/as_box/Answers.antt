use Rattle.std.proofs.Common.{◌≡◌, ◌∙◌, arith, refl}
use Rattle.std.proofs.lemmas.List.{take_all}
use Rattle.arrow_array.specs.Dictionaries.{DictionaryColumn}
use Rattle.arrow_flat.proofs.Slots.{IfOk-same}
use Rattle.arrow_flat.proofs.dictionary.FixedItemsUtf8Dictionary.as_box.Goals as goal

pub returns-clause-array_slots : goal.returns-clause-array_slots
returns-clause-array_slots c =
    let b = c.self.inside in
    let v : c.in_ok-values.values.slots ≡ b.values.slots = c.in_ok-values.ensures.slots ∙ take_all _ _ (omega (arith, c.len.ensures)) in
    rw (← c.self.view_is) (IfOk-same (λ (a : DictionaryColumn). a.slots) c.from_parts.result _ _ c.from_parts.ensures.slots (rw (v, c.in_ok-keys.ensures.array_slots) refl))
