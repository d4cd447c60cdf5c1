-- Integers of 64 bits as the code compares them.
use Rattle.std.proofs.Common.{◌≡◌, ℤ, pos, sym, w64, of_z}
use mir.Val.{SFits}
use Rattle.std.proofs.lemmas.Int.{ints}
use Rattle.std.proofs.Common.{ℕ, zero, suc, negsuc, List, Bool, true, false, None, Result, refl, subst, arith, ◌<◌, ◌^◌, ltb}
use lib.Signed.{lt_z}
use lib.IntN.{neg_ℤ}
use Rattle.arrow_core.specs.declared.slot.Slot.{Slot}
use Rattle.avro_reference.specs.Prefix.{Reader}
use Rattle.avro_reference.specs.Read.{items, block_items}
use Rattle.avro_flat.specs.Decoding.{Gives}
use Rattle.avro_decode.specs.Decoding.{sized_items}
use Rattle.avro_flat.specs.declared.fault.DecodeFault.{DecodeFault}
use Rattle.avro_decode.proofs.Reading.{block_sized, block_too_many}
use Rattle.std.proofs.lemmas.Bool.{lt-ltb, ltb-true}

-- ---- the count of a block

module _ {X : Type 0} (g : X → List Slot × List ℕ) (q : Result X DecodeFault) (f : Reader Slot) (old : List Slot) (bytes : List ℕ) where
  pub block_positive : (v : ℤ) → SFits w64 v → lt_z (pos 0) v ≡ true → Gives g q (items f (of_z w64 v) old bytes) → Gives g q (block_items f v old bytes)
  unfolding block_items
  block_positive (pos n) s b h = h
  block_positive (negsuc n) s b h = let e : false ≡ true = b in absurd cc

  pub block_negative : (v w : ℤ) → (v ≡ pos 0 → ⊥) → lt_z (pos 0) v ≡ false → SFits w64 w → w ≡ neg_ℤ v → Gives g q (sized_items f (of_z w64 w) old bytes) → Gives g q (block_items f v old bytes)
  block_negative (pos zero) w z b s e h = absurd (z refl)
  block_negative (pos (suc n)) w z b s e h = absurd (grind (arith, ints))
  block_negative (negsuc n) w z b s e h =
      let k : SFits w64 (pos (suc n)) = subst (SFits w64) e s in
      let l : suc n < 2 ^ 63 = omega (arith, k) in
      let i : Gives g q (sized_items f (suc n) old bytes) = subst (λ (u : ℤ). Gives g q (sized_items f (of_z w64 u) old bytes)) e h in
      subst (Gives g q) (sym (block_sized f n old bytes (lt-ltb (suc n) (2 ^ 63) l))) i

  pub block_positive_as : (v : ℤ) (m : ℕ) → SFits w64 v → lt_z (pos 0) v ≡ true → m ≡ of_z w64 v → Gives g q (items f m old bytes) → Gives g q (block_items f v old bytes)
  block_positive_as v m s b e h = block_positive v s b (subst (λ (k : ℕ). Gives g q (items f k old bytes)) e h)

  pub block_negative_as : (v w : ℤ) (m : ℕ) → (v ≡ pos 0 → ⊥) → lt_z (pos 0) v ≡ false → SFits w64 w → w ≡ neg_ℤ v → m ≡ of_z w64 w → Gives g q (sized_items f m old bytes) → Gives g q (block_items f v old bytes)
  block_negative_as v w m z b s e d h = block_negative v w z b s e (subst (λ (k : ℕ). Gives g q (sized_items f k old bytes)) d h)

pub block_none : (f : Reader Slot) (old : List Slot) (bytes : List ℕ) (v : ℤ) → (v ≡ pos 0 → ⊥) → lt_z (pos 0) v ≡ false → (SFits w64 (neg_ℤ v) → ⊥) → block_items f v old bytes ≡ None
block_none f old bytes (pos zero) z b s = absurd (z refl)
block_none f old bytes (pos (suc n)) z b s = absurd (grind (arith, ints))
block_none f old bytes (negsuc n) z b s = from (ltb (suc n) (2 ^ 63)) refl
  where
    from : (t : Bool) → ltb (suc n) (2 ^ 63) ≡ t → block_items f (negsuc n) old bytes ≡ None
    from true e = let k : SFits w64 (pos (suc n)) = omega (arith, ltb-true (suc n) (2 ^ 63) e) in absurd (s k)
    from false e = block_too_many f n old bytes e
