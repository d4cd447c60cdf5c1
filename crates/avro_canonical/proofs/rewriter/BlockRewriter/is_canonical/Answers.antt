use Rattle.std.proofs.Common.{◌∙◌, ap, subst}
use Rattle.avro_canonical.specs.Canonical.{IsRewriter, Rewriting}
use Rattle.avro_canonical.proofs.Copied.{copied_slice}
use Rattle.avro_canonical.proofs.rewriter.BlockRewriter.is_canonical.Goals as goal

pub returns : goal.returns
returns c told =
    let w = c.args.self.now in
    let is : IsRewriter c.self.inside.may_copy w = subst (IsRewriter c.self.inside.may_copy) c.self.view_is c.self.invariant in
    let fields = c.as_slice.ensures ∙ ap (λ (v : Rewriting). v.fields) c.self.view_is in
    let rows = c.are_canonical_rows.ensures in
    copied_slice w is.rewriting (is.alike c.if-not-self.false) c.args.block.now.number_of_rows c.args.block.now.bytes c.as_slice-bytes.result.now c.as_slice.result.now c.as_slice-bytes.ensures fields (rows.rows told) (rows.few told) c.if-bytes-gt-MOST_BYTES.false c.if-block-eq0.false
