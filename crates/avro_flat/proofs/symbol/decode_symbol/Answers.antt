use Rattle.std.proofs.Common.{rules, ◌≡◌, ◌∙◌, Some, length, to_z, of_z, sym, ap}
use Rattle.std.specs.Int.{w32, w64}
use Rattle.std.proofs.lemmas.Int.{to_z-of_z}
use Rattle.arrow_core.specs.declared.slot.Slot.TheVariants as slot
use Rattle.arrow_array.specs.Dictionaries.{looked_up}
use Rattle.avro_reference.specs.Prefix.{is_index}
use Rattle.avro_flat.proofs.Counted.{value_pushed}
use Rattle.avro_flat.proofs.Symbols.{symbol_in, key_fits}
use Rattle.avro_flat.proofs.symbol.decode_symbol.Goals as goal

pub push_valid-requires : goal.push_valid-requires
push_valid-requires g c =
    let k = c.in-Some-key_among in
    let f : to_z w32 (of_z w32 k.key) ≡ k.key = to_z-of_z w32 k.key (search rules) in
    let e = f ∙ k.ensures.index.0 in
    rw e (key_fits c.args.symbols.now c.args.values.now.items _ c.requires.items k.ensures.index.1)

pub returns-clause-reads : goal.returns-clause-reads
returns-clause-reads g c =
    let k = c.in-Some-key_among in
    let f : to_z w32 (of_z w32 k.key) ≡ k.key = to_z-of_z w32 k.key (search rules) in
    let h : to_z w64 (of_z w64 c.in-Some.number) ≡ c.in-Some.number = to_z-of_z w64 c.in-Some.number (search rules) in
    let e = f ∙ k.ensures.index.0 ∙ h in
    let t = ap (λ z. is_index z (length c.args.symbols.now)) (sym h) ∙ k.ensures.index.1 in
    let read = symbol_in c.args.symbols.now c.args.values.now.items _ _ c.in-Some.number c.requires.items c.in-Some.ensures.reads t in
    value_pushed c.push_valid.result c.pushed.result _ _ _ _ _ (read ∙ ap (λ z. Some (looked_up c.args.values.now.items (slot.Integer z), g.C.ByteReader.rest c.number.new.self)) (sym e)) c.push_valid.ensures.ok c.pushed.ensures.ok c.pushed.ensures.err
