-- Numbers of 64 bits as the code compares them: the counts of blocks.
use Rattle.std.proofs.Common.{◌≡◌, ◌∙◌, ℕ, zero, suc, ℤ, pos, negsuc, List, true, false, Result, Err, refl, sym, ap, arith, ◌<◌, ◌^◌, w64, of_z, to_z}
use mir.Val.{SFits}
use lib.Signed.{lt_z}
use Rattle.std.proofs.lemmas.Int.{to_z-of_z, ints}
use Rattle.avro_schema.specs.Skips.{Passed}
use Rattle.avro_reference.specs.Skip.{Bad, Parser, skip_items, skip_block_items}
use Rattle.avro_skip.specs.Skipping.{PassesMore, sized_items_at}
use Rattle.avro_skip.specs.declared.fault.SkipFault.{SkipFault}
use Rattle.avro_skip.proofs.Steps.{block_counted, block_sized, block_too_many}
use Rattle.avro_skip.proofs.Underway.{more_same}

pub is_zero : (v : ℤ) → SFits w64 v → of_z w64 v ≡ 0 → v ≡ pos 0
is_zero v s e = sym (to_z-of_z w64 v s) ∙ ap (to_z w64) e

pub not_is : (v k : ℤ) → (of_z w64 v ≡ of_z w64 k → ⊥) → v ≡ k → ⊥
not_is v k h e = h (ap (of_z w64) e)

pub not_as : (v k : ℤ) → SFits w64 v → (of_z w64 v ≡ of_z w64 k → ⊥) → to_z w64 (of_z w64 v) ≡ k → ⊥
not_as v k s h e = h (ap (of_z w64) (sym (to_z-of_z w64 v s) ∙ e))

pub is_least : (v : ℤ) → SFits w64 v → of_z w64 v ≡ 9223372036854775808 → v ≡ negsuc 9223372036854775807
is_least v s e = sym (to_z-of_z w64 v s) ∙ ap (to_z w64) e

-- ---- the count of a block

module _ {X Y : Type 0} (rest : X → List ℕ) (shown calls : X → ℕ) (x y : X) (r : Result Y SkipFault) (f : Parser Passed) (bytes : List ℕ) where
  pub block_positive : (v : ℤ) (m : ℕ) → SFits w64 v → lt_z (pos 0) v ≡ true → m ≡ of_z w64 v → PassesMore rest shown calls x y r (λ before. skip_items f m before bytes) → PassesMore rest shown calls x y r (λ before. skip_block_items f v before bytes)
  block_positive (pos n) m s b e h = more_same rest shown calls x y r (λ before. skip_items f m before bytes) (λ before. skip_block_items f (pos n) before bytes) (λ before. block_counted f n bytes before ∙ ap (λ (k : ℕ). skip_items f k before bytes) (sym e)) h
  block_positive (negsuc n) m s b e h = let w : false ≡ true = b in absurd cc

  pub block_negative : (v : ℤ) → SFits w64 v → (v ≡ pos 0 → ⊥) → lt_z (pos 0) v ≡ false → (v ≡ negsuc 9223372036854775807 → ⊥) → PassesMore rest shown calls x y r (λ before. sized_items_at before bytes) → PassesMore rest shown calls x y r (λ before. skip_block_items f v before bytes)
  block_negative (pos zero) s z b l h = absurd (z refl)
  block_negative (pos (suc n)) s z b l h = absurd (grind (arith, ints))
  block_negative (negsuc n) s z b l h =
      let k : suc n < 2 ^ 63 = below n (omega (arith, s)) (λ e. l (ap negsuc e)) in
      more_same rest shown calls x y r (λ before. sized_items_at before bytes) (λ before. skip_block_items f (negsuc n) before bytes) (λ before. block_sized f n bytes before k) h
    where
      below : (n : ℕ) → n < 2 ^ 63 → (n ≡ 9223372036854775807 → ⊥) → suc n < 2 ^ 63
      below n lt d = omega (arith, lt, d)

pub block_none : (f : Parser Passed) (bytes : List ℕ) (v : ℤ) → v ≡ negsuc 9223372036854775807 → (before : Passed) → skip_block_items f v before bytes ≡ Err Bad
block_none f bytes v e before = ap (λ (w : ℤ). skip_block_items f w before bytes) e ∙ block_too_many f 9223372036854775807 bytes before (omega arith)
