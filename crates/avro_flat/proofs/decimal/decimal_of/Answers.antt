use Rattle.std.proofs.Common.{◌≡◌, ◌∙◌, ◌<◌, ◌≤◌, List, ◌∷◌, ℕ, pos, ◌+ℤ◌, ◌*ℤ◌, to_z, of_z, sym, ap, arith}
use Rattle.std.specs.Prelude.{slice_index}
use Rattle.std.specs.Int.{w8, w128, cast_signed}
use Rattle.std.proofs.lemmas.Int.{ints}
use Rattle.std.proofs.lemmas.List.{take_all}
use Rattle.avro_flat.proofs.TwosComplement.{signed_start, signed_next, signed_range, signed_whole}
use Rattle.avro_flat.proofs.decimal.decimal_of.Goals as goal

pub loop-i-init : goal.loop-i-init
loop-i-init c =
    let first : slice_index c.args.bytes.now 0 ≡ c.in-Some.first.now = ap (λ (xs : List ℕ). slice_index xs 0) c.in-Some.ensures.cases.0 in
    let lt : c.in-Some.first.now < 256 = omega (arith, first, c.type_inv.bytes 0) in
    let e : to_z w128 (of_z w128 c.from-value.result) ≡ cast_signed w8 c.in-Some.first.now = omega (arith, ints, c.from-value.ensures, c.cast_signed.ensures, c.cast_signed.type_inv) in
    rw (e, first) (signed_start c.in-Some.first.now c.in-Some.rest.now lt)

pub overflow_mul-value : goal.overflow_mul-value
overflow_mul-value c =
    let few : c.loop-i.i ≤ 14 = omega (arith, c.loop-i-test.true, c.in-Some.ensures.cases.1, c.requires.short) in
    let r = signed_range _ _ c.loop-i.i _ few c.loop-i.invariant in
    omega (arith, ints, r.0, r.1)

pub loop-i-preserved : goal.loop-i-preserved
loop-i-preserved c =
    let few : c.loop-i.i ≤ 14 = omega (arith, c.loop-i-test.true, c.in-Some.ensures.cases.1, c.requires.short) in
    let r = signed_range _ _ c.loop-i.i _ few c.loop-i.invariant in
    let byte : slice_index c.in-Some.rest.now c.loop-i.i < 256 = omega (arith, c.type_inv.rest c.loop-i.i) in
    let e : to_z w128 (of_z w128 (to_z w128 (of_z w128 (pos 256 *ℤ to_z w128 c.loop-i.value-bits)) +ℤ to_z w128 (of_z w128 c.from.result))) ≡ pos 256 *ℤ to_z w128 c.loop-i.value-bits +ℤ pos (slice_index c.in-Some.rest.now c.loop-i.i) = omega (arith, ints, r.0, r.1, byte, c.from.ensures) in
    rw e (signed_next _ c.in-Some.rest.now c.loop-i.i _ c.loop-i-test.true byte c.loop-i.invariant)

pub returns : goal.returns
returns c =
    let first : slice_index c.args.bytes.now 0 ≡ c.in-Some.first.now = ap (λ (xs : List ℕ). slice_index xs 0) c.in-Some.ensures.cases.0 in
    let e : c.args.bytes.now ≡ slice_index c.args.bytes.now 0 ∷ c.in-Some.rest.now = c.in-Some.ensures.cases.0 ∙ ap (λ n. n ∷ c.in-Some.rest.now) (sym first) in
    let t = take_all c.loop-i.i c.in-Some.rest.now c.loop-i-test.false in
    signed_whole c.args.bytes.now c.in-Some.rest.now (slice_index c.args.bytes.now 0) c.loop-i.i _ e t (omega (arith, c.loop-i-test.false, c.loop-i.auto.i-end)) c.loop-i.invariant
