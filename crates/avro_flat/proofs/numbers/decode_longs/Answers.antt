use Rattle.std.proofs.Common.{arith, rules, w64}
use mir.Val.{SFits}
use Rattle.std.proofs.lemmas.Int.{to_z-of_z}
use Rattle.std.proofs.lemmas.Result.{err_from_is_err_and}
use Rattle.arrow_core.specs.declared.slot.Slot.TheVariants as slot
use Rattle.avro_reference.proofs.Counting.{number_costs}
use Rattle.avro_reference.specs.Read.{long_at}
use Rattle.avro_flat.specs.declared.fault.DecodeFault.TheVariants.{Bytes}
use Rattle.avro_flat.proofs.Many.{many_more, many_done, many_fault}
use Rattle.avro_flat.proofs.Reserved.{long_has_byte, many_short, many_refused, many_begin, on_no_error, value_pushed, value_missing}
use Rattle.avro_flat.proofs.Unfolded.{long_read, long_missing}
use Rattle.avro_flat.proofs.numbers.decode_longs.Goals as goal

pub returns-in_err-slots : goal.returns-in_err-slots
returns-in_err-slots g c =
    let p = err_from_is_err_and c.from_residual.result c.from_residual.ensures.1 in
    let e = c.in_err-slots.ensures.err in
    rw (p.1, p.2, e.0) (many_short g.C.ByteReader.rest g.C.ByteReader.shown g.C.ByteReader.calls g.C.ByteReader.identity long_at _ _ _ _ _ long_has_byte e.1)

pub returns-in_err-pushed : goal.returns-in_err-pushed
returns-in_err-pushed g c =
    let p = err_from_is_err_and c.from_residual-in_err-pushed.result c.from_residual-in_err-pushed.ensures.1 in
    let k = c.in_ok-slots.ensures.ok in
    let r = c.reserve_for.ensures in
    rw (p.1, p.2) (many_refused g.C.ByteReader.rest g.C.ByteReader.shown g.C.ByteReader.calls g.C.ByteReader.identity long_at _ _ _ _ _ _ _ c.reserve_for.new.self.slots _ (omega (arith, k.0, k.1)) r.data_type r.capacity (λ h. c.in_err-pushed.ensures.answered (r.has_capacity (omega (arith, k.0, h)))) c.in_err-pushed.ensures.err)

pub loop-init : goal.loop-init
loop-init g c =
    let r = c.reserve_for.ensures in
    record {
      many = many_begin _ _ _ _ _ _ _ _ _ _ _ _ _ _ (omega arith) r.data_type r.slots r.capacity;
      spare = let n = on_no_error c.reserve_for.result c.in_ok-pushed.ensures.ok r.ok in omega (arith, n.slots, c.in_ok-slots.ensures.ok.0);
    }

pub loop-preserved : goal.loop-preserved
loop-preserved g c =
    let inv = c.loop.invariant in
    let n = c.in-Some.ensures in
    let p = c.push_reserved.ensures in
    let k = c.in_ok-slots.ensures.ok.0 in
    let fits : SFits w64 c.in-Some.number = search rules in
    record {
      many = many_more inv.many (omega (arith, k)) (value_pushed g.C.ByteReader.rest g.C.ByteReader.shown g.C.ByteReader.calls g.C.ByteReader.identity long_at c.loop.cursor c.number.new.self c.loop.values c.push_reserved.new.self (slot.Integer c.in-Some.number) n.same n.moves n.costs.shorter (number_costs _ _ _ _ _ n.costs) (long_read _ _ _ n.reads) p.data_type (rw (to_z-of_z w64 c.in-Some.number fits) at p.slots) p.spare);
      spare = omega (arith, inv.spare, p.spare);
    }

pub push_reserved-requires : goal.push_reserved-requires
push_reserved-requires g c = let s = c.loop.invariant.spare in let k = c.in_ok-slots.ensures.ok.0 in omega (arith, s, k)

pub returns-in_default : goal.returns-in_default
returns-in_default g c =
    let n = c.in_default.ensures in
    let k = c.in_ok-slots.ensures.ok.0 in
    many_fault c.loop.invariant.many c.loop.values.slots Bytes (omega (arith, k)) (value_missing g.C.ByteReader.rest g.C.ByteReader.shown g.C.ByteReader.calls g.C.ByteReader.identity long_at c.loop.cursor c.number.new.self _ _ c.loop.values.slots n.same n.moves (long_missing _ n.reads))

pub returns : goal.returns
returns g c = let k = c.in_ok-slots.ensures.ok.0 in many_done c.loop.invariant.many (omega (arith, k))
