-- Flat values that are skipped, as the code passes them.
use Rattle.std.proofs.Common.{◌≡◌, ℕ, ◌+◌, ◌-◌, ◌<◌, ◌≤◌, ℤ, pos, negsuc, List, [], ◌∷◌, length, Option, Some, None, Result, Ok, Err, refl, ap, ◌∙◌, arith}
use Rattle.std.specs.Prelude.{OnOk}
use Rattle.std.proofs.lemmas.Option.{some_pair_parts}
use Rattle.std.proofs.lemmas.Bool.{le-ltb}
use Rattle.avro_schema.specs.Counts.{risen}
use Rattle.avro_schema.specs.declared.schema.Schema.{Schema}
use Rattle.avro_schema.specs.AndThen.{◌>>=◌}
use Rattle.avro_schema.specs.Encodes.{IsNull}
use Rattle.avro_schema.specs.Skips.{Passed, nothing, seen_only, both}
use Rattle.avro_schema.proofs.Basics.{null_told}
use Rattle.avro_reference.specs.Prefix.{number_at}
use Rattle.avro_reference.specs.Skip.{Bad, Negative, or_bad, measured_at, jump_at, jump_counted, skip_raw, skip_number, skip_sized, skip_stated}
use Rattle.avro_reference.proofs.Parsers.{both_assoc, stated}
use Rattle.avro_reference.specs.Costs.{Costs, CostsNumber}
use Rattle.avro_reference.specs.Lengths.{as_length, length_at}
use Rattle.avro_skip.specs.Skipping.{Passes, PassesMore, Jumps, member_at, sized_items_at}
use Rattle.avro_skip.specs.declared.fault.SkipFault.{SkipFault}
use Rattle.avro_reference.proofs.Counting.{costs_none, number_costs, hidden_costs, raw_costs}

-- ---- numbers

module _ {X : Type 0} (rest : X → List ℕ) (shown calls : X → ℕ) where
  pub number_passes : (x y : X) (v : ℤ) → number_at (rest x) ≡ Some (v, rest y) → CostsNumber rest shown calls x y → (p : Passed) × (skip_number (rest x) ≡ Ok (p, rest y)) × Costs rest shown calls x y p.seen p.hidden
  unfolding skip_number measured_at or_bad
  number_passes x y v e c = (seen_only (length (rest x) - length (rest y)), rw e refl, number_costs rest shown calls x y c)

pub number_bad : (bytes : List ℕ) → number_at bytes ≡ None → skip_number bytes ≡ Err Bad
unfolding skip_number measured_at or_bad
number_bad bytes e = rw e refl

-- ---- so many bytes

module _ {X Y : Type 0} (rest : X → List ℕ) (shown calls : X → ℕ) where
  pub raw_passes : (n seen : ℕ) (x y : X) (r : Result Y SkipFault) → 0 < n → Jumps (rest y) r (jump_at n (rest x)) → OnOk r (length (rest y) + n ≡ length (rest x)) → shown y ≡ shown x → calls y ≤ calls x + 1 → Passes rest shown calls x y r (skip_raw n seen (rest x))
  unfolding skip_raw
  raw_passes n seen x y (Ok z) some e d s c = (seen_only seen, rw e refl, raw_costs rest shown calls x y n seen some d s c)
  raw_passes n seen x y (Err k) some e d s c = rw e refl

  pub raw_shorter : (n : ℕ) (x y : X) (r : Result Y SkipFault) → 0 < n → OnOk r (length (rest y) + n ≡ length (rest x)) → OnOk r (length (rest y) < length (rest x))
  raw_shorter n x y (Ok z) some d = omega (arith, some, d)
  raw_shorter n x y (Err k) some d = tt

-- ---- a byte

module _ {X : Type 0} (rest : X → List ℕ) (shown calls : X → ℕ) where
  pub byte_passes : (x y : X) (b : ℕ) → rest x ≡ b ∷ rest y → shown y ≡ risen (shown x) 1 → calls y ≡ risen (calls x) 1 → (p : Passed) × (skip_raw 1 1 (rest x) ≡ Ok (p, rest y)) × Costs rest shown calls x y p.seen p.hidden
  unfolding skip_raw jump_at
  byte_passes x y b e s c = (
    seen_only 1,
    rw (e, le-ltb (length (b ∷ rest y)) 1 (omega arith)) refl,
    record { few_shown = omega (arith, s); few_calls = omega (arith, ap length e, c) },
  )

pub byte_bad : (bytes : List ℕ) → bytes ≡ [] → skip_raw 1 1 bytes ≡ Err Bad
unfolding skip_raw jump_at
byte_bad bytes e = rw e refl

-- ---- a length and so many bytes

abbrev with_rest : List ℕ → ℕ → Option (ℕ × List ℕ)
with_rest rest n = Some (n, rest)

abbrev length_of : ℤ × List ℕ → Option (ℕ × List ℕ)
length_of v = (as_length v.0 >>= with_rest v.1)

number_of_length : (bytes mid : List ℕ) (n : ℕ) → length_at bytes ≡ Some (n, mid) → number_at bytes ≡ Some (pos n, mid)
unfolding length_at
number_of_length bytes mid n e = from (number_at bytes) e
  where
    from : (o : Option (ℤ × List ℕ)) → (o >>= length_of) ≡ Some (n, mid) → o ≡ Some (pos n, mid)
    from None h = absurd cc
    from (Some (pos k, rest)) h = let p = some_pair_parts k n rest mid h in rw (p.0, p.1) refl
    from (Some (negsuc k, rest)) h = absurd cc

module _ {X Y : Type 0} (rest : X → List ℕ) (shown calls : X → ℕ) where
  pub sized_passes : (x y z : X) (n : ℕ) (r : Result Y SkipFault) → length_at (rest x) ≡ Some (n, rest y) → CostsNumber rest shown calls x y → Jumps (rest z) r (jump_at n (rest y)) → OnOk r (length (rest z) + n ≡ length (rest y)) → shown z ≡ shown y → calls z ≤ calls y + 1 → Passes rest shown calls x z r (skip_sized (rest x))
  unfolding skip_sized measured_at jump_counted or_bad
  sized_passes x y z n (Ok w) l k e d s c =
      (seen_only (length (rest x) - length (rest y)), rw (number_of_length (rest x) (rest y) n l, e) refl, hidden_costs rest shown calls x y z n k d s c)
  sized_passes x y z n (Err f) l k e d s c = rw (number_of_length (rest x) (rest y) n l, e) refl

  pub sized_shorter : (x y z : X) (n : ℕ) (r : Result Y SkipFault) → CostsNumber rest shown calls x y → OnOk r (length (rest z) + n ≡ length (rest y)) → OnOk r (length (rest z) < length (rest x))
  sized_shorter x y z n (Ok w) k d = omega (arith, k.shorter, d)
  sized_shorter x y z n (Err f) k d = tt

pub sized_bad : (bytes : List ℕ) → length_at bytes ≡ None → skip_sized bytes ≡ Err Bad
unfolding skip_sized measured_at jump_counted or_bad length_at
sized_bad bytes e = from (number_at bytes) refl e
  where
    from : (o : Option (ℤ × List ℕ)) → number_at bytes ≡ o → (o >>= length_of) ≡ None → skip_sized bytes ≡ Err Bad
    from None q h = rw q refl
    from (Some (pos k, rest)) q h = absurd cc
    from (Some (negsuc k, rest)) q h = rw q refl

-- ---- a stated size and so many bytes

module _ {X : Type 0} (rest : X → List ℕ) (shown calls : X → ℕ) where
  stated_costs : (x y z : X) (n : ℕ) → CostsNumber rest shown calls x y → length (rest z) + n ≡ length (rest y) → shown z ≡ shown y → calls z ≤ calls y + 1 → Costs rest shown calls x z (length (rest x) - length (rest y)) n
  stated_costs x y z n k d s c =
      let a = k.shorter in
      record { few_shown = omega (arith, a, k.few_shown, s); few_calls = omega (arith, a, d, k.few_calls, c) }

pos_of : (v : ℤ) (n : ℕ) → as_length v ≡ Some n → v ≡ pos n
pos_of (pos k) n e = ap pos cc
pos_of (negsuc k) n e = absurd cc

module _ {X Y : Type 0} (rest : X → List ℕ) (shown calls : X → ℕ) where
  pub stated_passes : (x y z : X) (v : ℤ) (n : ℕ) (r : Result Y SkipFault) → number_at (rest x) ≡ Some (v, rest y) → as_length v ≡ Some n → CostsNumber rest shown calls x y → Jumps (rest z) r (jump_at n (rest y)) → OnOk r (length (rest z) + n ≡ length (rest y)) → shown z ≡ shown y → calls z ≤ calls y + 1 → PassesMore rest shown calls x z r (λ before. sized_items_at before (rest x))
  unfolding measured_at or_bad skip_stated
  stated_passes x y z v n (Ok w) l is k e d s c =
      let size = length (rest x) - length (rest y) in (
        record { seen = size; hidden = n },
        λ before. (rw (l, pos_of v n is, e) refl) ∙ ap (λ (p : Passed). Ok (p, rest z)) (both_assoc before (seen_only size) (record { seen = 0; hidden = n }) ∙ ap (both before) (stated size n)),
        stated_costs rest shown calls x y z n k d s c,
      )
  stated_passes x y z v n (Err f) l is k e d s c = λ before. rw (l, pos_of v n is, e) refl

pub stated_negative : (bytes mid : List ℕ) (v : ℤ) → number_at bytes ≡ Some (v, mid) → as_length v ≡ None → (before : Passed) → sized_items_at before bytes ≡ Err Negative
unfolding measured_at or_bad skip_stated
stated_negative bytes mid (pos n) e is before = absurd cc
stated_negative bytes mid (negsuc n) e is before = rw e refl

pub stated_bad : (bytes : List ℕ) → number_at bytes ≡ None → (before : Passed) → sized_items_at before bytes ≡ Err Bad
unfolding measured_at or_bad
stated_bad bytes e before = rw e refl

-- ---- null

module _ {X : Type 0} (rest : X → List ℕ) (shown calls : X → ℕ) where
  pub null_skipped : (s : Schema) (x : X) → IsNull s → (p : Passed) × (member_at s (rest x) ≡ Ok (p, rest x)) × Costs rest shown calls x x p.seen p.hidden
  null_skipped s x h = (nothing, rw (null_told s h) refl, costs_none rest shown calls x)
