use Rattle.std.proofs.Common.{◌≡◌, length, map}
use Rattle.std.proofs.lemmas.Bool.{false≢true}
use Rattle.std.proofs.lemmas.List.{length-map}
use Rattle.arrow_array.proofs.ListSlots.{lists_fit}
use Rattle.arrow_array.proofs.list.fits.Goals as goal

pub returns-then-not-is_list_of : goal.returns-then-not-is_list_of
returns-then-not-is_list_of g c = (
  λ f. absurd (false≢true f),
  λ h.
      let same : c.is_list_of.result ≡ _ = c.is_list_of.ensures.1 (rw c.data_type.ensures.data_type h.kind) in
      cc,
)

pub returns : goal.returns
returns g c =
    let e : length (map g.O.Offset.number c.args.offsets.now) ≡ length c.args.offsets.now = length-map c.args.offsets.now g.O.Offset.number in (
      λ t.
          let kind = rw c.data_type.ensures.data_type at (c.is_list_of.ensures.0 c.if-not-is_list_of.false) in
          lists_fit _ kind c.len.ensures (c.end_within.ensures.0 c.if-not-end_within.false) (rw e (c.fits.ensures.0 t)),
      λ h. c.fits.ensures.1 (rw e at h.validity_fits),
    )
