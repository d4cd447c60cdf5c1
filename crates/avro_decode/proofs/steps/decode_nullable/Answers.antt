use Rattle.std.proofs.Common.{length, true, Bool, List, sym, subst, w64, rules, arith}
use Rattle.std.proofs.lemmas.Int.{to_z-of_z}
use mir.Val.{SFits}
use Rattle.avro_decode.specs.Growth.{AllOffsetsReach}
use Rattle.avro_decode.specs.Masks.{mask}
use Rattle.avro_decode.proofs.Going.{offsets_less}
use Rattle.avro_decode.proofs.Keeping.{keeps_unread, keeps_behind}
use Rattle.avro_decode.proofs.Members.{no_index}
use Rattle.avro_decode.proofs.FieldSteps.{pair_two, other_fits, other_suits, other_gives}
use Rattle.avro_decode.proofs.steps.decode_nullable.Goals as goal

pub other_of-schema-requires : goal.other_of-schema-requires
other_of-schema-requires g c = record { two = pair_two _ _ _ c.requires.fits }

pub returns-in_default-clause-keeps : goal.returns-in_default-clause-keeps
returns-in_default-clause-keeps g c = keeps_unread c.number.ensures.same c.number.ensures.moves tt

pub returns-in_default-clause-reads : goal.returns-in_default-clause-reads
returns-in_default-clause-reads g c = no_index _ _ _ c.in_default.ensures.reads

pub decode_pair-requires : goal.decode_pair-requires
decode_pair-requires g c =
    let s = c.other_of-schema.result.now in
    let o = other_suits c.args.null_first c.args.kind c.args.members.now s c.other_of-schema.ensures c.requires.fits _ c.requires.suits in
    let n = c.in-Some.ensures.costs.shorter in
    let r : AllOffsetsReach (mask true s) (length (g.C.ByteReader.rest c.args.cursor.now)) c.args.builder.now = subst (λ (xs : List Bool). AllOffsetsReach xs (length (g.C.ByteReader.rest c.args.cursor.now)) c.args.builder.now) o.1 c.requires.offsets in
    record {
      fits = other_fits c.args.null_first c.args.kind c.args.members.now s c.other_of-schema.ensures c.requires.fits;
      suits = o.0;
      tight = c.requires.tight;
      offsets = offsets_less (mask true s) _ _ c.args.builder.now (omega (arith, n)) r;
    }

pub returns-clause-keeps : goal.returns-clause-keeps
returns-clause-keeps g c =
    let s = c.other_of-schema.result.now in
    let o = other_suits c.args.null_first c.args.kind c.args.members.now s c.other_of-schema.ensures c.requires.fits _ c.requires.suits in
    let n = c.in-Some.ensures in
    keeps_behind (sym o.1) n.same n.moves n.costs c.decode_pair.ensures.keeps

pub returns-clause-reads : goal.returns-clause-reads
returns-clause-reads g c =
    let w : SFits w64 c.in-Some.index = search rules in
    other_gives c.args.null_first c.args.kind c.args.members.now c.other_of-schema.result.now c.other_of-schema.ensures c.requires.fits _ c.decode_pair.result _ _ _ _ c.in-Some.index c.requires.suits c.in-Some.ensures.reads (rw (to_z-of_z w64 c.in-Some.index w) at c.decode_pair.ensures.reads)
