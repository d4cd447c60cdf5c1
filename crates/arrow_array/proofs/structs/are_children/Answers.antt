use Rattle.std.proofs.Common.{arith, add-one, ◌≡◌, ◌∙◌, sym}
use Rattle.std.proofs.lemmas.Bool.{false≢true}
use Rattle.arrow_array.proofs.Records.{as_many, child_fits, one_more_child}
use Rattle.arrow_array.proofs.structs.are_children.Goals as goal

pub returns-then-fields-children : goal.returns-then-fields-children
returns-then-fields-children c = (λ f. absurd (false≢true f), λ h. absurd (c.if-fields-children.true (as_many _ _ _ h)))

pub returns-then-len-count : goal.returns-then-len-count
returns-then-len-count c = (
  λ f. absurd (false≢true f),
  λ h.
      let fits = child_fits _ _ _ c.loop-k.k _ _ (omega arith) c.index-fields-k.is c.index-children-k.is h in
      absurd (c.if-len-count.true (c.len.ensures ∙ fits.1)),
)

pub returns-then-not-is_same : goal.returns-then-not-is_same
returns-then-not-is_same c = (
  λ f. absurd (false≢true f),
  λ h.
      let fits = child_fits _ _ _ c.loop-k.k _ _ (omega arith) c.index-fields-k.is c.index-children-k.is h in
      let same : c.is_same.result ≡ _ = c.is_same.ensures.1 (fits.0 ∙ sym c.data_type.ensures.data_type) in
      cc,
)

pub loop-k-preserved : goal.loop-k-preserved
loop-k-preserved c = rw (add-one c.loop-k.k) (one_more_child _ _ _ c.loop-k.k _ _ (omega arith) (omega arith) c.index-fields-k.is c.index-children-k.is
    (c.is_same.ensures.0 c.if-not-is_same.false ∙ c.data_type.ensures.data_type) (sym c.len.ensures ∙ c.if-len-count.false) c.loop-k.invariant)
