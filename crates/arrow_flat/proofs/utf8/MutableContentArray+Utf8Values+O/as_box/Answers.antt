use Rattle.std.proofs.Common.{◌≡◌, ◌∙◌, ap, Bool, map, length, vec_len, ◌-◌, arith, refl}
use Rattle.std.specs.Str.{IsUtf8}
use Rattle.arrow_array.specs.Columns.{ContentColumn}
use Rattle.arrow_array.specs.Slots.{utf8_at}
use Rattle.arrow_flat.specs.Capacity.{Growing}
use Rattle.arrow_flat.proofs.Slots.{slots_of-frozen, IfOk-same}
use Rattle.arrow_flat.proofs.Contents.{HoldContents-count, hold_normalized}
use Rattle.arrow_flat.proofs.utf8.MutableContentArray+Utf8Values+O.as_box.Goals as goal

pub from_parts-requires : goal.from_parts-requires
from_parts-requires g c =
    let h = c.self.invariant in
    let t : c.in_ok-validity.validity.booleans ≡ c.self.inside.validity.items = c.in_ok-validity.ensures.ok ∙ ap (λ (b : Growing Bool). b.items) c.replace-validity.ensures.value in
    rw (c.in_ok-data_type.ensures.copy, c.replace-offsets.ensures.value, c.replace-values.ensures.value) (record {
      kind = h.2;
      offsets_fit = h.0.offsets_fit;
      utf8_fit = h.0.contents_fit;
      validity_fits = omega (arith, ap length t, h.0.count);
    })

pub returns-clause-array_slots : goal.returns-clause-array_slots
returns-clause-array_slots g c =
    let o = g.O.Offset.number in
    let b = c.self.inside in
    let v : utf8_at (map o c.replace-offsets.result.items) c.replace-values.result.items ≡ utf8_at (map o b.offsets.items) b.values.items = rw (c.replace-offsets.ensures.value, c.replace-values.ensures.value) refl in
    let t : c.in_ok-validity.validity.booleans ≡ b.validity.items = c.in_ok-validity.ensures.ok ∙ ap (λ (b : Growing Bool). b.items) c.replace-validity.ensures.value in
    let n = HoldContents-count IsUtf8 o _ _ _ c.self.invariant.0 in
    let l : vec_len c.replace-offsets.result - 1 ≡ length b.validity.items = rw c.replace-offsets.ensures.value (omega (arith, b.offsets.ok.0, n)) in
    rw (← c.self.view_is) (IfOk-same (λ (a : ContentColumn). a.slots) c.from_parts.result _ _ c.from_parts.ensures.slots (slots_of-frozen _ _ c.in_ok-validity.validity _ _ _ v t l))

pub returns-clause-normalized : goal.returns-clause-normalized
returns-clause-normalized g c =
    let o = g.O.Offset.number in
    let b = c.self.inside in
    let e : map o c.replace-offsets.result.items ≡ map o b.offsets.items = ap (λ v. map o v.items) c.replace-offsets.ensures.value in
    let d : c.replace-values.result.items ≡ b.values.items = ap (λ v. v.items) c.replace-values.ensures.value in
    hold_normalized IsUtf8 (λ (a : ContentColumn). a.offsets) (λ (a : ContentColumn). a.bytes) c.from_parts.result _ _ _ c.self.invariant.0
    (IfOk-same (λ (a : ContentColumn). a.offsets) c.from_parts.result _ _ c.from_parts.ensures.offsets e)
    (IfOk-same (λ (a : ContentColumn). a.bytes) c.from_parts.result _ _ c.from_parts.ensures.bytes d)
