use Rattle.std.proofs.Common.{◌∙◌, ℕ, List, ◌++◌, IsTrue, w32, w64, ap, subst, sym}
use Rattle.std.proofs.lemmas.Int.{to_z-of_z}
use Rattle.std.proofs.lemmas.Result.{on_ok_weaker}
use Rattle.arrow_array.specs.Slots.{is_held, slot_at}
use Rattle.avro_schema.specs.Encodes.{IsInt}
use Rattle.avro_encode.specs.Plain.{four_bytes, milliseconds, parts_of, plain_duration}
use Rattle.avro_encode.proofs.FlatPairs.{duration_given}
use Rattle.avro_encode.proofs.PlainLaw.{parts_struct}
use Rattle.avro_encode.proofs.flat.append_interval.Goals as goal

pub append_duration-requires : goal.append_duration-requires
append_duration-requires c =
    let x = slot_at c.args.array.now.slots c.args.i in
    let held : IsTrue (is_held x) = ap is_held c.requires.fits.3 in
    let g = duration_given x c.value-interval.result.months c.value-interval.result.days c.value-interval.result.ns c.requires.fits (c.value-interval.ensures held) in
    subst (λ n. IsInt (milliseconds n)) (sym (to_z-of_z w64 c.value-interval.result.ns g.nanoseconds_fit)) g.whole

pub returns : goal.returns
returns c = record {
  ok =
      let x = slot_at c.args.array.now.slots c.args.i in
      let held : IsTrue (is_held x) = ap is_held c.requires.fits.3 in
      let e = c.value-interval.ensures held in
      let g = duration_given x c.value-interval.result.months c.value-interval.result.days c.value-interval.result.ns c.requires.fits e in
      let m = to_z-of_z w32 c.value-interval.result.months g.months_fit in
      let d = to_z-of_z w32 c.value-interval.result.days g.days_fit in
      let n = to_z-of_z w64 c.value-interval.result.ns g.nanoseconds_fit in
      on_ok_weaker c.append_duration.result
      (λ h. h ∙ (λ i. c.args.out.now.items ++ (four_bytes (m i) ++ (four_bytes (d i) ++ four_bytes (milliseconds (n i))))) ∙ ap (λ (z : List ℕ). c.args.out.now.items ++ z) (sym (ap plain_duration (ap parts_of e ∙ parts_struct _)))) c.append_duration.ensures.ok;
}
