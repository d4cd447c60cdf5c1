use Rattle.std.proofs.Common.{◌≡◌, Bool, length, vec_len, arith, refl, subst}
use Rattle.arrow_array.specs.Columns.{Column}
use Rattle.arrow_array.specs.Slots.{native_at}
use Rattle.arrow_flat.specs.Bits.{Tells}
use Rattle.arrow_flat.specs.Capacity.{Growing}
use Rattle.arrow_flat.proofs.Slots.{slots_of-told, IfOk-same}
use Rattle.arrow_flat.proofs.primitive.MutablePrimitiveArray.as_box.Goals as goal

pub returns-clause-array_slots : goal.returns-clause-array_slots
returns-clause-array_slots g c =
    let f = g.T.NativeType.native_slot in
    let b = c.self.inside in
    let v : native_at f c.replace-values.result.items ≡ native_at f b.values.items = rw c.replace-values.ensures.value refl in
    let t : Tells c.in_ok-validity.validity b.validity.items = subst (λ (x : Growing Bool). Tells c.in_ok-validity.validity x.items) c.replace-validity.ensures.value c.in_ok-validity.ensures.ok in
    let l : vec_len c.replace-values.result ≡ length b.validity.items = rw c.replace-values.ensures.value (omega (arith, b.values.ok.0, c.self.invariant.0)) in
    rw (← c.self.view_is) (IfOk-same (λ (a : Column). a.slots) c.try_new.result _ _ c.try_new.ensures.slots (slots_of-told _ _ c.in_ok-validity.validity _ _ _ v t l refl))
