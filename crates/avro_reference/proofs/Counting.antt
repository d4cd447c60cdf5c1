-- What the calls of a cursor cost, one after another.
use Rattle.std.proofs.Common.{◌≡◌, ◌∙◌, ℕ, ◌+◌, ◌-◌, ◌<◌, ◌≤◌, ℤ, List, [], ◌∷◌, ◌++◌, length, take, drop, Option, Some, None, Result, Ok, Err, refl, sym, ap, append_assoc, arith}
use Rattle.std.specs.Prelude.{OnSome, OnOk, MatchOption}
use Rattle.std.proofs.lemmas.List.{take-append-drop, length-append, length-drop}
use Rattle.avro_schema.specs.Counts.{risen}
use Rattle.avro_schema.specs.Number.{MovesForward}
use Rattle.avro_reference.specs.Costs.{passed, Moves, Costs, CostsKept, CostsNumber}

pub forward_more : (a b c : List ℕ) → MovesForward a b → MovesForward b c → MovesForward a c
forward_more a b c h k = (h.0 ++ k.0, h.1 ∙ ap (λ (xs : List ℕ). h.0 ++ xs) k.1 ∙ sym (append_assoc h.0 k.0 c))

pub forward_none : (a : List ℕ) → MovesForward a a
forward_none a = ([], refl)

pub forward_drop : (n : ℕ) (a b : List ℕ) → b ≡ drop n a → MovesForward a b
forward_drop n a b e = (take n a, sym (take-append-drop n a) ∙ ap (λ (xs : List ℕ). take n a ++ xs) (sym e))

pub not_longer : (a b : List ℕ) → MovesForward a b → length b ≤ length a
not_longer a b h = omega (arith, ap length h.1, length-append h.0 b)

dropped : (n : ℕ) (a b : List ℕ) → n ≤ length a → b ≡ drop n a → length b + n ≡ length a
dropped n a b le e = let d = length-drop n a in omega (arith, le, ap length e, d)

pub on_ok : {X E P : Type 0} (r : Result X E) → P → OnOk r P
on_ok (Ok x) p = p
on_ok (Err e) p = tt

pub drop_shorter : {X : Type 0} (rest : X → List ℕ) (x y : X) (n : ℕ) → n ≤ length (rest x) → rest y ≡ drop n (rest x) → length (rest y) + n ≡ length (rest x)
drop_shorter rest x y n le e = dropped n (rest x) (rest y) le e

module _ {X : Type 0} (rest : X → List ℕ) (calls : X → ℕ) where
  pub moves_none : (x : X) → Moves rest calls x x
  moves_none x = record { forward = forward_none (rest x); few = omega arith }

  -- a number is read
  pub next_moves : (r : Option ℤ) (x y : X) → MovesForward (rest x) (rest y) → MatchOption r (calls y ≤ risen (calls x) (length (rest x) - length (rest y) + 1)) (λ _. calls y ≡ risen (calls x) (length (rest x) - length (rest y))) → Moves rest calls x y
  next_moves None x y f c = let l = not_longer (rest x) (rest y) f in record { forward = f; few = omega (arith, l, c) }
  next_moves (Some v) x y f c = let l = not_longer (rest x) (rest y) f in record { forward = f; few = omega (arith, l, c) }

  pub byte_moves : (x y : X) (b : ℕ) → rest x ≡ b ∷ rest y → calls y ≡ risen (calls x) 1 → Moves rest calls x y
  byte_moves x y b e c = record { forward = (b ∷ [], e); few = omega (arith, ap length e, c) }

  pub ended_moves : (x y : X) → (rest x ≡ []) × (rest y ≡ []) → calls y ≡ risen (calls x) 1 → Moves rest calls x y
  ended_moves x y e c = record { forward = ([], e.0 ∙ sym e.1); few = omega (arith, ap length e.0, ap length e.1, c) }

  pub still_moves : (x y : X) → rest y ≡ rest x → calls y ≡ risen (calls x) 1 → Moves rest calls x y
  still_moves x y e c = record { forward = ([], sym e); few = omega (arith, ap length e, c) }

  pub drop_moves : (x y : X) (n : ℕ) → n ≤ length (rest x) → rest y ≡ drop n (rest x) → calls y ≡ risen (calls x) 1 → Moves rest calls x y
  drop_moves x y n le e c =
      let d = dropped n (rest x) (rest y) le e in
      record { forward = forward_drop n (rest x) (rest y) e; few = omega (arith, d, c) }

module _ {X : Type 0} (rest : X → List ℕ) (shown calls : X → ℕ) where
  pub costs_none : (x : X) → Costs rest shown calls x x 0 0
  costs_none x = record { few_shown = omega arith; few_calls = omega arith }

  pub kept_none : (x : X) → CostsKept rest shown calls x x
  kept_none x = record { few_shown = omega arith; few_calls = omega arith }

  pub moves_within : (x y z : X) (seen hidden : ℕ) → Costs rest shown calls x y seen hidden → MovesForward (rest x) (rest y) → Moves rest calls y z → Moves rest calls x z
  moves_within x y z seen hidden c f k = record {
    forward = forward_more (rest x) (rest y) (rest z) f k.forward;
    few = omega (arith, c.few_calls, k.few);
  }

  pub moves_so_far : (x y : X) (seen hidden : ℕ) → Costs rest shown calls x y seen hidden → MovesForward (rest x) (rest y) → Moves rest calls x y
  moves_so_far x y seen hidden c f = record { forward = f; few = omega (arith, c.few_calls) }

  pub costs_more : (x y z : X) (s h t g : ℕ) → Costs rest shown calls x y s h → Costs rest shown calls y z t g → Costs rest shown calls x z (s + t) (h + g)
  costs_more x y z s h t g c d = record { few_shown = omega (arith, c.few_shown, d.few_shown); few_calls = omega (arith, c.few_calls, d.few_calls) }

  -- ---- numbers

  pub number_costs : (x y : X) → CostsNumber rest shown calls x y → Costs rest shown calls x y (passed (rest x) (rest y)) 0
  number_costs x y n = let a = n.shorter in record { few_shown = omega (arith, a, n.few_shown); few_calls = omega (arith, a, n.few_calls) }

  pub number_first : (x y z : X) → CostsNumber rest shown calls x y → Moves rest calls x y → Moves rest calls y z → Moves rest calls x z
  number_first x y z n h k = moves_within x y z _ _ (number_costs x y n) h.forward k

  pub next_costs : (r : Option ℤ) (x y : X) → OnSome r (length (rest y) < length (rest x)) → shown y ≡ risen (shown x) (length (rest x) - length (rest y)) → MatchOption r (calls y ≤ risen (calls x) (length (rest x) - length (rest y) + 1)) (λ _. calls y ≡ risen (calls x) (length (rest x) - length (rest y))) → OnSome r (CostsNumber rest shown calls x y)
  next_costs None x y l s c = tt
  next_costs (Some v) x y l s c = record { shorter = l; few_shown = omega (arith, l, s); few_calls = omega (arith, l, c) }

  -- ---- one call

  pub byte_costs : (x y : X) (b : ℕ) → rest x ≡ b ∷ rest y → shown y ≡ risen (shown x) 1 → calls y ≡ risen (calls x) 1 → CostsKept rest shown calls x y
  byte_costs x y b e s c = record { few_shown = omega (arith, ap length e, s); few_calls = omega (arith, ap length e, c) }

  -- a length, and as many bytes that are shown
  pub string_costs : (x y z : X) (n : ℕ) → CostsNumber rest shown calls x y → n ≤ length (rest y) → rest z ≡ drop n (rest y) → shown z ≡ risen (shown y) n → calls z ≡ risen (calls y) 1 → CostsKept rest shown calls x z
  string_costs x y z n k le e s c =
      let a = k.shorter in
      let d = dropped n (rest y) (rest z) le e in
      record { few_shown = omega (arith, a, d, k.few_shown, s); few_calls = omega (arith, a, d, k.few_calls, c) }

  -- a value that is kept after others
  pub kept_then : (x y z : X) → MovesForward (rest x) (rest y) → MovesForward (rest y) (rest z) → CostsKept rest shown calls x y → CostsKept rest shown calls y z → CostsKept rest shown calls x z
  kept_then x y z f g c d =
      let a = not_longer (rest x) (rest y) f in
      let b = not_longer (rest y) (rest z) g in
      record { few_shown = omega (arith, a, b, c.few_shown, d.few_shown); few_calls = omega (arith, a, b, c.few_calls, d.few_calls) }

  -- so many bytes that are shown
  pub take_costs : (x y : X) (n : ℕ) → 1 ≤ n → n ≤ length (rest x) → rest y ≡ drop n (rest x) → shown y ≡ risen (shown x) n → calls y ≡ risen (calls x) 1 → CostsKept rest shown calls x y
  take_costs x y n some le e s c =
      let d = dropped n (rest x) (rest y) le e in
      record { few_shown = omega (arith, d, s); few_calls = omega (arith, some, d, c) }

  -- a length, and as many bytes that are not
  pub hidden_costs : (x y z : X) (n : ℕ) → CostsNumber rest shown calls x y → length (rest z) + n ≡ length (rest y) → shown z ≡ shown y → calls z ≤ calls y + 1 → Costs rest shown calls x z (passed (rest x) (rest y)) 0
  hidden_costs x y z n k d s c =
      let a = k.shorter in
      record { few_shown = omega (arith, a, k.few_shown, s); few_calls = omega (arith, a, d, k.few_calls, c) }

  -- some bytes that are not
  pub raw_costs : (x y : X) (n seen : ℕ) → 0 < n → length (rest y) + n ≡ length (rest x) → shown y ≡ shown x → calls y ≤ calls x + 1 → Costs rest shown calls x y seen 0
  raw_costs x y n seen some d s c = record { few_shown = omega (arith, s); few_calls = omega (arith, some, d, c) }
