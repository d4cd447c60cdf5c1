use Rattle.std.proofs.Common.{ℕ, List, ◌++◌, ◌∷◌, ap, ◌∙◌}
use Rattle.std.proofs.lemmas.Result.{on_ok_weaker}
use Rattle.avro_encode.proofs.Appending.{flat_slot}
use Rattle.avro_encode.proofs.append.append_plain_after.Goals as goal

pub append_flat_after-requires : goal.append_flat_after-requires
append_flat_after-requires c =
    let p = flat_slot c.args.schema.now c.args.array.now _ c.requires.flat c.requires.types c.requires.slots c.requires.kind.0 in
    record { within = c.requires.within; held = p.held; kind = p.kind; fits = p.fits }

pub returns : goal.returns
returns c = record {
  ok =
      let p = flat_slot c.args.schema.now c.args.array.now _ c.requires.flat c.requires.types c.requires.slots c.requires.kind.0 in
      on_ok_weaker c.append_flat_after.result (λ e. e ∙ ap (λ (z : List ℕ). c.args.out.now.items ++ c.args.byte ∷ z) p.same) c.append_flat_after.ensures.ok;
}
