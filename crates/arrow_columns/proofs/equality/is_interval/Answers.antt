use mir.Syntax.{w32, w64}
use mir.Val.{SFits}
use Rattle.std.proofs.Common.{rules, arith, ◌≡◌, ◌∙◌, ap, sym}
use Rattle.std.proofs.lemmas.Bool.{false≢true}
use Rattle.arrow_core.specs.declared.slot.Slot.TheVariants as slot
use Rattle.arrow_columns.proofs.Same.{struct_length, struct_field, struct_of_three, widened_32, widened_64}
use Rattle.arrow_columns.proofs.equality.is_interval.Goals as goal

pub returns-then-children-ne3 : goal.returns-then-children-ne3
returns-then-children-ne3 c = (λ f. absurd (false≢true f), λ e. absurd (c.if-children-ne3.true (struct_length _ _ _ e)))

pub returns-then-not-is_integer : goal.returns-then-not-is_integer
returns-then-not-is_integer c = (
  λ f. absurd (false≢true f),
  λ e.
      let fits : SFits w32 c.args.interval.months = search rules in
      let found = struct_field _ _ 0 _ _ (omega (arith, c.if-children-ne3.false)) c.index-children-0.is e in
      let same : c.is_integer.result ≡ _ = c.is_integer.ensures.1 (found ∙ ap slot.Integer (sym (widened_32 _ fits))) in
      cc,
)

pub returns-then-not-is_integer-2 : goal.returns-then-not-is_integer-2
returns-then-not-is_integer-2 c = (
  λ f. absurd (false≢true f),
  λ e.
      let fits : SFits w32 c.args.interval.days = search rules in
      let found = struct_field _ _ 1 _ _ (omega (arith, c.if-children-ne3.false)) c.index-children-1.is e in
      let same : c.is_integer-2.result ≡ _ = c.is_integer-2.ensures.1 (found ∙ ap slot.Integer (sym (widened_32 _ fits))) in
      cc,
)

pub returns : goal.returns
returns c =
    let months : SFits w32 c.args.interval.months = search rules in
    let days : SFits w32 c.args.interval.days = search rules in
    let ns : SFits w64 c.args.interval.ns = search rules in (
      λ t. struct_of_three _ _ _ _ _ _ _ _ c.if-children-ne3.false c.index-children-0.is c.index-children-1.is c.index-children-2.is
          (c.is_integer.ensures.0 c.if-not-is_integer.false ∙ ap slot.Integer (widened_32 _ months))
          (c.is_integer-2.ensures.0 c.if-not-is_integer-2.false ∙ ap slot.Integer (widened_32 _ days))
          (c.is_integer-3.ensures.0 t ∙ ap slot.Integer (widened_64 _ ns)),
      λ e.
          let found = struct_field _ _ 2 _ _ (omega (arith, c.if-children-ne3.false)) c.index-children-2.is e in
          c.is_integer-3.ensures.1 (found ∙ ap slot.Integer (sym (widened_64 _ ns))),
    )
