use Rattle.std.proofs.Common.{◌∙◌, List, not, w64, FitsSigned, ap, sym, rules}
use Rattle.std.proofs.lemmas.Int.{to_z-of_z}
use Rattle.arrow_core.specs.declared.slot.Slot.{Slot}
use Rattle.avro_encode.specs.Plain.{parts_of}
use Rattle.avro_encode.proofs.PlainLaw.{parts_struct}
use Rattle.avro_write.specs.Flaws.{has_whole, is_whole}
use Rattle.avro_write.proofs.flaws.is_broken.Goals as goal

pub returns : goal.returns
returns c =
    let f : FitsSigned w64 c.value-interval.result.ns = search rules in
    ap not (c.is_whole.ensures ∙ ap is_whole (to_z-of_z w64 c.value-interval.result.ns f))
    ∙ sym (ap (λ (xs : List Slot). not (has_whole xs)) (ap parts_of (c.value-interval.ensures c.requires.held) ∙ parts_struct _))
