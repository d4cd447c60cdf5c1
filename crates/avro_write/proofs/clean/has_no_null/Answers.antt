use Rattle.std.proofs.Common.{◌∙◌, not, ap, subst}
use Rattle.std.specs.Option.{option_copied}
use Rattle.std.proofs.lemmas.Bool.{OnTrue_from}
use Rattle.arrow_core.specs.declared.slot.Slot.TheVariants as slot
use Rattle.arrow_array.specs.Arrays.{array_slots}
use Rattle.arrow_array.specs.Slots.{TellsHeld}
use Rattle.avro_write.proofs.CleanColumns.{none_is, validity_told}
use Rattle.avro_write.proofs.clean.has_no_null.Goals as goal

pub returns-in_default : goal.returns-in_default
returns-in_default c =
    OnTrue_from c.is_none.result _ (λ e.
    let told = validity_told c.args.array.now (option_copied c.validity.result) c.validity.ensures c.in_default.not-Null c.in_default.not-Dictionary in
    let all = subst (λ o. TellsHeld o (array_slots c.args.array.now)) (ap option_copied (none_is c.validity.result (c.is_none.ensures ∙ ap not e))) told in
    λ i l. all i slot.Null l)
