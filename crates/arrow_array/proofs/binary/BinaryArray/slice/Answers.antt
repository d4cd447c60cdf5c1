use Rattle.std.proofs.Common.{arith, ap, ◌∙◌, ◌+◌}
use Rattle.std.proofs.lemmas.List.{length-map}
use Rattle.arrow_array.proofs.Cuts.{count_cut, cut_made_slots, map_cut, binary_cut, binary_fits_cut}
use Rattle.arrow_array.proofs.Fits.{binary}
use Rattle.arrow_array.proofs.Windows.{text_slots_are, text_types_are, count_slots}
use Rattle.arrow_array.specs.Columns.{ContentColumn}
use Rattle.arrow_array.specs.Slots.{binary_at}
use Rattle.arrow_array.proofs.binary.BinaryArray.slice.Goals as goal

pub slice_with_type-parts-requires-clause-fits : goal.slice_with_type-parts-requires-clause-fits
slice_with_type-parts-requires-clause-fits g c =
    let n = count_slots (binary c.self.inside.values c.self.invariant) (text_slots_are c.self.view_is) in
    rw (c.len-len.ensures, ← n) c.self.invariant.validity_fits

pub slice_and_next-requires : goal.slice_and_next-requires
slice_and_next-requires g c =
    let n = count_slots (binary c.self.inside.values c.self.invariant) (text_slots_are c.self.view_is) in
    omega (arith, n, c.requires, c.self.invariant.offsets_fit.filled, length-map c.self.inside.offsets g.O.Offset.number)

pub invariant_of-result : goal.invariant_of-result
invariant_of-result g c =
    let n = count_slots (binary c.self.inside.values c.self.invariant) (text_slots_are c.self.view_is) in
    let first = rw c.in_ok-offsets.ensures.first at c.both-content.ensures.first in
    let second = rw c.in_ok-offsets.ensures.first at c.both-content.ensures.second in
    let offsets = rw first at c.slice_and_next.ensures.values in
    let values = rw second at c.try_clone.ensures.values in
    let data_type = rw c.in_ok-offsets.ensures.second at c.slice_with_type-parts.ensures.data_type in
    let cut = rw c.in_ok-offsets.ensures.second at c.slice_with_type-parts.ensures.cut in
    rw (data_type, values, offsets, map_cut g.O.Offset.number c.args.offset (c.args.count + 1) c.self.inside.offsets)
    (binary_fits_cut c.args.offset c.args.count c.in_ok-offsets.validity c.self.invariant (omega (arith, n, c.requires, c.self.invariant.offsets_fit.filled)) cut)

pub returns-clause-data_type : goal.returns-clause-data_type
returns-clause-data_type g c =
    let data_type = rw c.in_ok-offsets.ensures.second at c.slice_with_type-parts.ensures.data_type in
    data_type ∙ text_types_are c.self.view_is

pub returns-clause-slots : goal.returns-clause-slots
returns-clause-slots g c =
    let w = binary c.self.inside.values c.self.invariant in
    let n = count_slots w (text_slots_are c.self.view_is) in
    let first = rw c.in_ok-offsets.ensures.first at c.both-content.ensures.first in
    let second = rw c.in_ok-offsets.ensures.first at c.both-content.ensures.second in
    let offsets = rw first at c.slice_and_next.ensures.values in
    let values = rw second at c.try_clone.ensures.values in
    let cut = rw c.in_ok-offsets.ensures.second at c.slice_with_type-parts.ensures.cut in
    rw (values, offsets, map_cut g.O.Offset.number c.args.offset (c.args.count + 1) c.self.inside.offsets)
    (cut_made_slots w (text_slots_are c.self.view_is) (binary_at _ _) c.in_ok-offsets.validity c.args.offset c.args.count _
    (count_cut c.args.offset c.args.count _ (omega (arith, n, c.requires, c.self.invariant.offsets_fit.filled))) (omega (arith, n, c.requires)) cut
    (binary_cut c.args.offset c.args.count _ c.self.inside.values))

pub returns-clause-offsets : goal.returns-clause-offsets
returns-clause-offsets g c =
    let first = rw c.in_ok-offsets.ensures.first at c.both-content.ensures.first in
    let offsets = rw first at c.slice_and_next.ensures.values in
    rw (offsets, ← c.self.view_is) (map_cut g.O.Offset.number c.args.offset (c.args.count + 1) c.self.inside.offsets)

pub returns-clause-bytes : goal.returns-clause-bytes
returns-clause-bytes g c =
    let second = rw c.in_ok-offsets.ensures.first at c.both-content.ensures.second in
    let values = rw second at c.try_clone.ensures.values in
    values ∙ ap (λ (a : ContentColumn). a.bytes) c.self.view_is
