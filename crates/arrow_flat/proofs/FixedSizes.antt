-- Fixed-size binary values, and one more.
use Rattle.std.proofs.Common.{◌≡◌, ap, ◌∙◌, sym, inl, inr, Bool, cond, ℕ, ◌+◌, ◌*◌, ◌<◌, ◌≤◌, List, [], ◌∷◌, ◌++◌, length, drop, Some, refl, arith, Result, Ok, Err, IfErr}
use Rattle.std.proofs.Math.Nat.{mul-mod_left, mul-div_cancel, mul-le-mul_right}
use Rattle.std.proofs.lemmas.List.{length_push, length-drop, take-append-le, drop-append-le, take_all, drop_at}
use Rattle.arrow_core.specs.declared.error.Error.{Error}
use Rattle.arrow_core.specs.declared.error.Error.TheVariants.{OutOfMemory}
use Rattle.arrow_core.specs.declared.slot.Slot.TheVariants as slot
use Rattle.arrow_core.specs.declared.types.DataType.TheVariants as types
use Rattle.arrow_array.specs.Bits.{Packed}
use Rattle.arrow_array.specs.Slots.{slots_of, fixed_at}
use Rattle.arrow_array.specs.Parts.{FixedSizeBinaryFits, IsRefusalOf}
use Rattle.arrow_flat.specs.Bits.{mask_of}
use Rattle.arrow_flat.proofs.Slots.{slots_of-push}

-- what lies below index n stays where bytes are appended
fixed_at-push_below : (size : ℕ) (vs more : List ℕ) (n k : ℕ) → length vs ≡ n * size → k < n → fixed_at size (vs ++ more) k ≡ fixed_at size vs k
fixed_at-push_below size vs more n k l h =
    let m : (k + 1) * size ≤ n * size = mul-le-mul_right size (omega (arith, h)) in
    let e : (k + 1) * size ≡ k * size + size = omega arith in
    let f : k * size ≤ length vs = omega (arith, m, e, l) in
    let r : size ≤ length (drop (k * size) vs) = omega (arith, m, e, l, length-drop (k * size) vs) in
    ap slot.Binary (rw (drop-append-le (k * size) vs more f, take-append-le size (drop (k * size) vs) more r) refl)

-- at index n lie the bytes that were appended
fixed_at-push : (size : ℕ) (vs more : List ℕ) (n : ℕ) → length vs ≡ n * size → length more ≡ size → fixed_at size (vs ++ more) n ≡ slot.Binary more
fixed_at-push size vs more n l m =
    ap slot.Binary (rw (drop_at vs more (n * size) l) (take_all size more (omega (arith, m))))

-- one binary value more
pub fixed_slots-push : (size : ℕ) (vs more us : List ℕ) (ts ss : List Bool) (b : Bool) → length vs ≡ length ts * size → length more ≡ size → us ≡ vs ++ more → ss ≡ ts ++ b ∷ []
    → slots_of (fixed_at size us) (Some (mask_of ss)) 0 (length ss) ≡ slots_of (fixed_at size vs) (Some (mask_of ts)) 0 (length ts) ++ (cond b (slot.Binary more) slot.Null) ∷ []
fixed_slots-push size vs more us ts ss b l m e d = rw (e, d) (rw (length_push ts b)
    (slots_of-push (fixed_at size vs) (fixed_at size (vs ++ more)) ts (length ts) b (slot.Binary more) refl
    (λ k h. fixed_at-push_below size vs more (length ts) k l h) (fixed_at-push size vs more (length ts) l m)))

-- the buffers of a builder make an array
pub fixed_fits : (size n count : ℕ) (validity : Packed) → 0 < size → n ≡ count * size → length validity.booleans ≡ count → FixedSizeBinaryFits (types.FixedSizeBinary size) n (Some validity)
fixed_fits size n count validity p e l = rw e (record {
  kind = p;
  whole_slots = mul-mod_left count size;
  validity_fits = l ∙ sym (mul-div_cancel count p);
})

-- parts that fit are refused for out of memory alone
pub no_refusal : {A : Type 0} (fits : Type 0) (r : Result A Error) → IfErr r (IsRefusalOf fits) → fits → IfErr r (λ e. e ≡ OutOfMemory)
no_refusal fits (Ok a) h f = tt
no_refusal fits (Err e) h f = elim h [ inl q ↦ q | inr q ↦ absurd (q.1 f) ]
