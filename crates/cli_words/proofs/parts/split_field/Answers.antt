-- The scan ends at a semicolon, and there the text may be cut.
use Rattle.std.proofs.Common.{arith, ◌≡◌, ◌-◌, take, ap, ◌∙◌, ◌++◌, ◌∷◌, sym}
use Rattle.std.proofs.lemmas.Str.{IsCharBoundary-before_ascii, IsCharBoundary-after_ascii}
use Rattle.cli_words.proofs.FieldEnds.{cut, cut_is}
use Rattle.cli_words.proofs.parts.split_field.Goals as goal

pub range-requires-clause-end_boundary : goal.range-requires-clause-end_boundary
range-requires-clause-end_boundary c =
    let at = cut c.args.fields.now c.field_end-end.result c.field_end-end.ensures (λ e. omega (arith, e)) in
    IsCharBoundary-before_ascii c.args.fields.now c.field_end-end.result at.0 (omega (arith, at.1))

pub range_from-requires : goal.range_from-requires
range_from-requires c = λ _.
    let at = cut c.args.fields.now c.field_end-end.result c.field_end-end.ensures (λ e. omega (arith, e)) in
    IsCharBoundary-after_ascii c.args.fields.now c.field_end-end.result c.utf8.fields at.0 (omega (arith, at.1))

pub returns-clause-fields : goal.returns-clause-fields
returns-clause-fields c =
    let at = cut c.args.fields.now c.field_end-end.result c.field_end-end.ensures (λ e. omega (arith, e)) in
    let from_start : c.field_end-end.result - 0 ≡ c.field_end-end.result = omega arith in
    let first : take c.field_end-end.result c.args.fields.now ≡ c.range.result.now = sym (c.range.ensures.value ∙ ap (λ n. take n c.args.fields.now) from_start) in
    cut_is c.args.fields.now c.field_end-end.result at.0 at.1 ∙ (λ i. first i ++ (59 ∷ (sym c.range_from.ensures.value) i))
