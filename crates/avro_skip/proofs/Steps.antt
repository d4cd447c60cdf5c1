-- One step of skipping items, blocks and fields.
use Rattle.std.proofs.Common.{◌≡◌, ℕ, zero, suc, ◌+◌, ◌-◌, ◌^◌, ◌<◌, ◌≤◌, ℤ, pos, negsuc, false, eqb, List, [], ◌∷◌, length, get_or, drop, Some, None, Ok, Err, refl, sym, ap, ◌∙◌, add-one, arith}
use Rattle.std.proofs.lemmas.Bool.Decides.{nat_tests}
use Rattle.std.proofs.lemmas.Bool.{lt-ltb, le-ltb}
use Rattle.std.proofs.Math.Seq.{drop-cons}
use Rattle.avro_schema.specs.declared.schema.AvroField.{AvroField}
use Rattle.avro_schema.specs.Skips.{Passed, nothing, seen_only, both}
use Rattle.avro_reference.specs.Prefix.{number_at, is_count}
use Rattle.avro_reference.specs.Skip.{Fault, Bad, Parser, or_bad, measured_at, skip_items, skip_block_items, skip_blocks, skip_array, skip}
use Rattle.avro_reference.specs.Listed.{skip_fields_of}
use Rattle.avro_reference.proofs.Parsers.{both_assoc, nothing-both}
use Rattle.avro_reference.specs.Costs.{Costs, CostsNumber}
use Rattle.avro_skip.specs.Skipping.{sized_items_at}
use Rattle.avro_reference.proofs.Counting.{costs_more, number_costs}
use Rattle.avro_skip.proofs.Underway.{Underway, underway_begun, underway_more, underway_ended, underway_fault}

-- ---- items

items_done : (f : Parser Passed) (n : ℕ) (bytes : List ℕ) (before : Passed) → n ≡ 0 → skip_items f n before bytes ≡ Ok (before, bytes)
unfolding skip_items
items_done f n bytes before z = rw z refl

module _ (f : Parser Passed) (n m : ℕ) (bytes : List ℕ) (before : Passed) where
  items_step : (q : Passed) (r : List ℕ) → n ≡ suc m → f bytes ≡ Ok (q, r) → skip_items f n before bytes ≡ skip_items f m (both before q) r
  unfolding skip_items
  items_step q r s e = rw (s, e) refl

  items_fault : (k : Fault) → n ≡ suc m → f bytes ≡ Err k → skip_items f n before bytes ≡ Err k
  unfolding skip_items
  items_fault k s e = rw (s, e) refl

-- ---- fields

drop_past : (i : ℕ) (fs : List AvroField) → length fs ≤ i → drop i fs ≡ []
drop_past zero [] le = refl
drop_past (suc i) [] le = refl
drop_past zero (f ∷ fs) le = absurd (omega (arith, le))
drop_past (suc i) (f ∷ fs) le = drop_past i fs (omega (arith, le))

fields_done : (fs : List AvroField) (i : ℕ) (bytes : List ℕ) (before : Passed) → length fs ≤ i → skip_fields_of (drop i fs) before bytes ≡ Ok (before, bytes)
fields_done fs i bytes before le = ap (λ (gs : List AvroField). skip_fields_of gs before bytes) (drop_past i fs le)

field_here : (fs : List AvroField) (i : ℕ) (d : AvroField) → i < length fs → drop i fs ≡ get_or fs i d ∷ drop (i + 1) fs
field_here fs i d lt = drop-cons fs i d lt ∙ ap (λ (j : ℕ). get_or fs i d ∷ drop j fs) (sym (add-one i))

module _ (fs : List AvroField) (i : ℕ) (d : AvroField) (bytes : List ℕ) (before : Passed) where
  fields_step : (q : Passed) (r : List ℕ) → i < length fs → skip (get_or fs i d).schema bytes ≡ Ok (q, r) → skip_fields_of (drop i fs) before bytes ≡ skip_fields_of (drop (i + 1) fs) (both before q) r
  fields_step q r lt e = ap (λ (gs : List AvroField). skip_fields_of gs before bytes) (field_here fs i d lt) ∙ (rw e refl)

  fields_fault : (k : Fault) → i < length fs → skip (get_or fs i d).schema bytes ≡ Err k → skip_fields_of (drop i fs) before bytes ≡ Err k
  fields_fault k lt e = ap (λ (gs : List AvroField). skip_fields_of gs before bytes) (field_here fs i d lt) ∙ (rw e refl)

module _ {X : Type 0} (rest : X → List ℕ) (shown calls : X → ℕ) where
  abbrev pub ItemsUnderway : Parser Passed → ℕ → ℕ → X → X → Type 0
  ItemsUnderway f n all x y = Underway rest shown calls x y (λ before. skip_items f n before (rest y)) (λ before. skip_items f all before (rest x))

  pub items_begun : (f : Parser Passed) (n all : ℕ) (x : X) → n ≡ all → ItemsUnderway f n all x x
  items_begun f n all x e = underway_begun rest shown calls x (λ before. skip_items f n before (rest x)) (λ before. skip_items f all before (rest x)) (λ before. ap (λ (k : ℕ). skip_items f k before (rest x)) e)

  pub items_next : (f : Parser Passed) (n m all : ℕ) (x y z : X) → n ≡ suc m → ItemsUnderway f n all x y → (p : Passed) × (f (rest y) ≡ Ok (p, rest z)) × Costs rest shown calls y z p.seen p.hidden → ItemsUnderway f m all x z
  items_next f n m all x y z s u p =
      underway_more rest shown calls x y z (λ before. skip_items f n before (rest y)) (λ before. skip_items f m before (rest z)) (λ before. skip_items f all before (rest x)) p.0 u (λ before. items_step f n m (rest y) before p.0 (rest z) s p.1) p.2

  pub items_ended : (f : Parser Passed) (n all : ℕ) (x y : X) → n ≡ 0 → ItemsUnderway f n all x y → (p : Passed) × ((before : Passed) → skip_items f all before (rest x) ≡ Ok (both before p, rest y)) × Costs rest shown calls x y p.seen p.hidden
  items_ended f n all x y z u =
      underway_ended rest shown calls x y (λ before. skip_items f n before (rest y)) (λ before. skip_items f all before (rest x)) u (λ before. items_done f n (rest y) before z)

  pub items_failed : (f : Parser Passed) (n m all : ℕ) (x y : X) (k : Fault) → n ≡ suc m → ItemsUnderway f n all x y → f (rest y) ≡ Err k → (before : Passed) → skip_items f all before (rest x) ≡ Err k
  items_failed f n m all x y k s u e =
      underway_fault rest shown calls x y k (λ before. skip_items f n before (rest y)) (λ before. skip_items f all before (rest x)) u (λ before. items_fault f n m (rest y) before k s e)

  abbrev pub FieldsUnderway : List AvroField → ℕ → X → X → Type 0
  FieldsUnderway fs i x y = Underway rest shown calls x y (λ before. skip_fields_of (drop i fs) before (rest y)) (λ before. skip_fields_of fs before (rest x))

  pub fields_begun : (fs : List AvroField) (x : X) → FieldsUnderway fs 0 x x
  fields_begun fs x = underway_begun rest shown calls x (λ before. skip_fields_of fs before (rest x)) (λ before. skip_fields_of fs before (rest x)) (λ before. refl)

  pub fields_next : (fs : List AvroField) (i : ℕ) (d : AvroField) (x y z : X) → i < length fs → FieldsUnderway fs i x y → (p : Passed) × (skip (get_or fs i d).schema (rest y) ≡ Ok (p, rest z)) × Costs rest shown calls y z p.seen p.hidden → FieldsUnderway fs (i + 1) x z
  fields_next fs i d x y z lt u p =
      underway_more rest shown calls x y z (λ before. skip_fields_of (drop i fs) before (rest y)) (λ before. skip_fields_of (drop (i + 1) fs) before (rest z)) (λ before. skip_fields_of fs before (rest x)) p.0 u (λ before. fields_step fs i d (rest y) before p.0 (rest z) lt p.1) p.2

  pub fields_ended : (fs : List AvroField) (i : ℕ) (x y : X) → length fs ≤ i → FieldsUnderway fs i x y → (p : Passed) × ((before : Passed) → skip_fields_of fs before (rest x) ≡ Ok (both before p, rest y)) × Costs rest shown calls x y p.seen p.hidden
  fields_ended fs i x y le u =
      underway_ended rest shown calls x y (λ before. skip_fields_of (drop i fs) before (rest y)) (λ before. skip_fields_of fs before (rest x)) u (λ before. fields_done fs i (rest y) before le)

  pub fields_failed : (fs : List AvroField) (i : ℕ) (d : AvroField) (x y : X) (k : Fault) → i < length fs → FieldsUnderway fs i x y → skip (get_or fs i d).schema (rest y) ≡ Err k → (before : Passed) → skip_fields_of fs before (rest x) ≡ Err k
  fields_failed fs i d x y k lt u e =
      underway_fault rest shown calls x y k (λ before. skip_fields_of (drop i fs) before (rest y)) (λ before. skip_fields_of fs before (rest x)) u (λ before. fields_fault fs i d (rest y) before k lt e)

-- ---- blocks

other_count : (v : ℤ) → (v ≡ pos 0 → ⊥) → is_count v 0 ≡ false
other_count (pos zero) h = absurd (h refl)
other_count (pos (suc n)) h = let t : eqb (suc n) 0 ≡ false = grind (arith, nat_tests) in t
other_count (negsuc n) h = refl

module _ (f : Parser Passed) (bytes : List ℕ) (before : Passed) where
  pub blocks_no_count : (fuel : ℕ) → number_at bytes ≡ None → skip_blocks f fuel before bytes ≡ Err Bad
  unfolding skip_blocks measured_at or_bad
  blocks_no_count zero e = refl
  blocks_no_count (suc fuel) e = rw e refl

  pub blocks_last : (fuel : ℕ) (v : ℤ) (mid : List ℕ) → length bytes < fuel → number_at bytes ≡ Some (v, mid) → v ≡ pos 0 → skip_blocks f fuel before bytes ≡ Ok (both before (seen_only (length bytes - length mid)), mid)
  unfolding skip_blocks measured_at or_bad
  blocks_last zero v mid lt e z = absurd (omega (arith, lt))
  blocks_last (suc fuel) v mid lt e z = rw (e, z) refl

  pub blocks_fault : (fuel : ℕ) (v : ℤ) (mid : List ℕ) (k : Fault) → length bytes < fuel → number_at bytes ≡ Some (v, mid) → (v ≡ pos 0 → ⊥) → ((b : Passed) → skip_block_items f v b mid ≡ Err k) → skip_blocks f fuel before bytes ≡ Err k
  unfolding skip_blocks measured_at or_bad
  blocks_fault zero v mid k lt e z q = absurd (omega (arith, lt))
  blocks_fault (suc fuel) v mid k lt e z q = rw (e, other_count v z, q (both before (seen_only (length bytes - length mid)))) refl

  pub blocks_step : (fuel : ℕ) (v : ℤ) (mid r : List ℕ) (p : Passed) → number_at bytes ≡ Some (v, mid) → (v ≡ pos 0 → ⊥) → ((b : Passed) → skip_block_items f v b mid ≡ Ok (both b p, r)) → skip_blocks f (suc fuel) before bytes ≡ skip_blocks f fuel (both before (both (seen_only (length bytes - length mid)) p)) r
  unfolding skip_blocks measured_at or_bad
  blocks_step fuel v mid r p e z q =
      let s = seen_only (length bytes - length mid) in
      (rw (e, other_count v z, q (both before s)) refl) ∙ ap (λ (b : Passed). skip_blocks f fuel b r) (both_assoc before s p)

module _ {X : Type 0} (rest : X → List ℕ) (shown calls : X → ℕ) (f : Parser Passed) where
  -- fuel for each block that is left
  abbrev pub BlocksUnderway : X → X → Type 0
  BlocksUnderway x y = (fuel : ℕ) × (length (rest y) < fuel) × Underway rest shown calls x y (λ before. skip_blocks f fuel before (rest y)) (λ before. skip_blocks f (suc (length (rest x))) before (rest x))

  pub blocks_begun : (x : X) → BlocksUnderway x x
  blocks_begun x = (suc (length (rest x)), omega arith, underway_begun rest shown calls x (λ before. skip_blocks f (suc (length (rest x))) before (rest x)) (λ before. skip_blocks f (suc (length (rest x))) before (rest x)) (λ before. refl))

  pub blocks_next : (x y w z : X) (v : ℤ) → BlocksUnderway x y → number_at (rest y) ≡ Some (v, rest w) → CostsNumber rest shown calls y w → (v ≡ pos 0 → ⊥) → length (rest z) ≤ length (rest w) → (p : Passed) × ((before : Passed) → skip_block_items f v before (rest w) ≡ Ok (both before p, rest z)) × Costs rest shown calls w z p.seen p.hidden → BlocksUnderway x z
  blocks_next x y w z v (zero, lt, u) e c n le p = absurd (omega (arith, lt))
  blocks_next x y w z v (suc fuel, lt, u) e c n le p =
      let s = seen_only (length (rest y) - length (rest w)) in
      let l = c.shorter in (
        fuel,
        omega (arith, lt, l, le),
        underway_more rest shown calls x y z (λ before. skip_blocks f (suc fuel) before (rest y)) (λ before. skip_blocks f fuel before (rest z)) (λ before. skip_blocks f (suc (length (rest x))) before (rest x)) (both s p.0) u (λ before. blocks_step f (rest y) before fuel v (rest w) (rest z) p.0 e n p.1) (costs_more rest shown calls y w z s.seen s.hidden p.0.seen p.0.hidden (number_costs rest shown calls y w c) p.2),
      )

  pub blocks_ended : (x y z : X) (v : ℤ) → BlocksUnderway x y → number_at (rest y) ≡ Some (v, rest z) → CostsNumber rest shown calls y z → v ≡ pos 0 → (p : Passed) × (skip_array f (rest x) ≡ Ok (p, rest z)) × Costs rest shown calls x z p.seen p.hidden
  unfolding skip_array
  blocks_ended x y z v (fuel, lt, u) e c n =
      let s = seen_only (length (rest y) - length (rest z)) in (
        both u.0 s,
        sym (u.1 nothing) ∙ blocks_last f (rest y) (both nothing u.0) fuel v (rest z) lt e n ∙ ap (λ (p : Passed). Ok (both p s, rest z)) (nothing-both u.0),
        costs_more rest shown calls x y z u.0.seen u.0.hidden s.seen s.hidden u.2 (number_costs rest shown calls y z c),
      )

  pub blocks_fail : (x y : X) (k : Fault) → BlocksUnderway x y → ((fuel : ℕ) (before : Passed) → length (rest y) < fuel → skip_blocks f fuel before (rest y) ≡ Err k) → skip_array f (rest x) ≡ Err k
  unfolding skip_array
  blocks_fail x y k (fuel, lt, u) e = sym (u.1 nothing) ∙ e fuel (both nothing u.0) lt

-- ---- the items of a block

pub block_counted : (f : Parser Passed) (n : ℕ) (bytes : List ℕ) (before : Passed) → skip_block_items f (pos n) before bytes ≡ skip_items f n before bytes
unfolding skip_block_items
block_counted f n bytes before = refl

pub block_sized : (f : Parser Passed) (n : ℕ) (bytes : List ℕ) (before : Passed) → suc n < 2 ^ 63 → skip_block_items f (negsuc n) before bytes ≡ sized_items_at before bytes
unfolding skip_block_items
block_sized f n bytes before lt = rw (lt-ltb (suc n) (2 ^ 63) lt) refl

pub block_too_many : (f : Parser Passed) (n : ℕ) (bytes : List ℕ) (before : Passed) → 2 ^ 63 ≤ suc n → skip_block_items f (negsuc n) before bytes ≡ Err Bad
unfolding skip_block_items
block_too_many f n bytes before le = rw (le-ltb (suc n) (2 ^ 63) le) refl
