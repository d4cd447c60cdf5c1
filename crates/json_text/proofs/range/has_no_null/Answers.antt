-- Without a validity each struct is held.
use Rattle.std.proofs.Common.{◌≡◌, Option, None, Some, false, not, refl, sym, ap, ◌∙◌, subst}
use Rattle.std.specs.Option.{is_some, option_copied}
use Rattle.std.proofs.lemmas.Bool.{OnTrue_from, false≢true}
use Rattle.arrow_array.specs.Slots.{TellsHeld}
use Rattle.json_text.proofs.range.has_no_null.Goals as goal

none_is : {A : Type 0} (o : Option A) → is_some o ≡ false → o ≡ None
none_is None e = refl
none_is (Some x) e = absurd (false≢true (sym e))

pub returns : goal.returns
returns c =
    OnTrue_from c.is_none.result _ (λ e. subst (λ o. TellsHeld o c.args.array.now.slots) (ap option_copied (none_is c.validity.result (c.is_none.ensures ∙ ap not e))) c.validity.ensures)
