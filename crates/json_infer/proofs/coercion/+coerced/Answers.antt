use Rattle.std.proofs.Common.{◌≡◌, sym, ap, ◌∙◌, ◌∷◌, [], rules, arith}
use Rattle.std.proofs.lemmas.Result.{IfOk-weaker}
use Rattle.json_infer.specs.declared.seen.Seen.TheVariants as seen
use Rattle.json_infer.specs.Coercion.{coerce}
use Rattle.json_infer.specs.Lists.{distinct}
use Rattle.json_infer.specs.Parts.{same, nullable, list_of}
use Rattle.json_infer.specs.Seen.{seen_after, result_of, seen_size}
use Rattle.json_infer.proofs.Fits.{seen_fits, column_fits, column_more}
use Rattle.json_infer.proofs.Keeping.{one_at_a_time}
use Rattle.json_infer.proofs.Repeated.{coerced_both}
use Rattle.json_infer.proofs.coercion.+coerced.Goals as goal

pub coerced_columns-coerced_field-requires : goal.coerced_columns-coerced_field-requires
coerced_columns-coerced_field-requires t c =
    let fits = column_fits c.args.columns.now c.loop-index.index (c.at.result.0.now, c.at.result.1.now) c.at.ensures in
    (omega (arith, fits), tt)

pub coerced_columns-loop-index-preserved : goal.coerced_columns-loop-index-preserved
coerced_columns-loop-index-preserved t c =
    column_more c.args.columns.now c.loop-index.index (c.at.result.0.now, c.at.result.1.now) c.loop-index.fields.items c.push.new.self.items c.in_ok-field.field
    c.at.ensures c.loop-index.invariant c.in_ok-field.ensures.field (search rules)

pub coerced_distinct-coerced-data_type-requires : goal.coerced_distinct-coerced-data_type-requires
coerced_distinct-coerced-data_type-requires t c =
    let e : seen_size c.in_ok-seen.seen ≡ seen_size (seen_after seen.Nothing c.args.types.now) = ap seen_size c.in_ok-seen.ensures.kept in
    let fits = seen_fits c.args.types.now in
    (omega (arith, e, fits), tt)

pub coerced_distinct-returns-clause-coerced : goal.coerced_distinct-returns-clause-coerced
coerced_distinct-returns-clause-coerced t c =
    IfOk-weaker c.coerced-data_type.result _ _ (λ v h. h ∙ ap result_of c.in_ok-seen.ensures.kept ∙ sym (one_at_a_time c.args.types.now)) c.coerced-data_type.ensures.coerced

pub coerced_field-returns-clause-field : goal.coerced_field-returns-clause-field
coerced_field-returns-clause-field t c =
    let d : c.in_ok-data_type.data_type ≡ coerce (distinct same c.args.types.now) = c.in_ok-data_type.ensures.coerced in
    let n : c.in_ok-name.name ≡ c.args.name.now = c.in_ok-name.ensures.copy in
    c.new.ensures ∙ λ i. nullable (n i) (d i)

pub coerced_both-coerced-data_type-requires : goal.coerced_both-coerced-data_type-requires
coerced_both-coerced-data_type-requires t c =
    let e : seen_size c.in_ok-seen.seen ≡ seen_size (seen_after seen.Nothing (c.args.one.now ∷ c.args.other.now ∷ [])) = ap seen_size c.in_ok-seen.ensures.kept in
    let fits = seen_fits (c.args.one.now ∷ c.args.other.now ∷ []) in
    (omega (arith, e, fits), tt)

pub coerced_both-returns-clause-coerced : goal.coerced_both-returns-clause-coerced
coerced_both-returns-clause-coerced t c =
    IfOk-weaker c.coerced-data_type.result _ _ (λ v h. h ∙ ap result_of c.in_ok-seen.ensures.kept ∙ sym (coerced_both c.args.one.now c.args.other.now)) c.coerced-data_type.ensures.coerced

pub coerced_pair-coerced_both-requires : goal.coerced_pair-coerced_both-requires
coerced_pair-coerced_both-requires t c =
    let less = c.in-Some.ensures.less in
    (omega (arith, less), tt)

pub coerced_pair-returns-clause-coerced : goal.coerced_pair-returns-clause-coerced
coerced_pair-returns-clause-coerced t c =
    IfOk-weaker c.list_type.result _ _ (λ v h. h ∙ ap list_of c.in_ok-inner.ensures.coerced ∙ sym c.in-Some.ensures.list) c.list_type.ensures.list
