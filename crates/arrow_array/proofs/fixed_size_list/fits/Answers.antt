use Rattle.std.proofs.Common.{◌≡◌, arith}
use Rattle.std.proofs.lemmas.Bool.{false≢true}
use Rattle.arrow_array.proofs.fixed_size_list.fits.Goals as goal

pub returns-then-not-is_fixed_list_of : goal.returns-then-not-is_fixed_list_of
returns-then-not-is_fixed_list_of c = (
  λ f. absurd (false≢true f),
  λ h.
      let same : c.is_fixed_list_of.result ≡ _ = c.is_fixed_list_of.ensures.1 (rw c.data_type.ensures.data_type h.kind) in
      cc,
)

pub returns : goal.returns
returns c = (
  λ t. record {
    filled = omega (arith, c.if-size-eq0.false, c.size_of_type-size.ensures);
    kind = rw c.data_type.ensures.data_type at (c.is_fixed_list_of.ensures.0 c.if-not-is_fixed_list_of.false);
    whole_lists = rw (c.len-len.ensures, c.size_of_type-size.ensures) at c.if-len-size-ne0.false;
    validity_fits = rw (c.len-len.ensures, c.size_of_type-size.ensures) at (c.fits.ensures.0 t);
  },
  λ h. c.fits.ensures.1 (rw (c.len-len.ensures, c.size_of_type-size.ensures) h.validity_fits),
)
