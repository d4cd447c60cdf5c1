-- What a push brings to a builder's node, and when it has memory.
use Rattle.std.proofs.Common.{◌≡◌, ◌∙◌, ◌⊎◌, inl, inr, ℕ, ◌+◌, ◌<◌, ◌≤◌, List, [], ◌∷◌, ◌++◌, length, take, drop, Bool, false, Result, Ok, Err, ap, arith}
use Rattle.std.specs.Prelude.{OnOk, OnErr, IfErr}
use Rattle.std.proofs.lemmas.List.{length-append, length-take-le, length-drop}
use Rattle.arrow_core.specs.declared.error.Error.{Error}
use Rattle.arrow_core.specs.declared.error.Error.TheVariants.{Overflow, OutOfMemory}
use Rattle.arrow_core.specs.declared.slot.Slot.{Slot}
use Rattle.arrow_core.specs.Numbers.{greatest_offset}
use Rattle.arrow_flat.specs.Builders.{PlainBuilder, ContentBuilder, plain_node, content_node}
use Rattle.arrow_flat.specs.Nodes.{Node, KeepsCapacity, Takes, HasSpare}
use Rattle.avro_flat.specs.declared.fault.DecodeFault.{DecodeFault}
use Rattle.avro_reference.specs.Costs.{passed}
use Rattle.avro_flat.specs.Decoding.{HasMemory}
use Rattle.avro_flat.specs.Growing.{OffsetsReach, Fills}

-- ---- builders without content bytes

plain_takes : {X E : Type 0} (r : Result X E) (old new : PlainBuilder) (x : Slot) → OnOk r (new.slots ≡ old.slots ++ x ∷ []) → OnErr r (new ≡ old) → KeepsCapacity (plain_node old) (plain_node new) → Takes 1 0 (plain_node old) (plain_node new)
plain_takes (Ok y) old new x h e k =
    let l : length new.slots ≡ length old.slots + 1 = omega (arith, ap length h, length-append old.slots (x ∷ [])) in
    record { slots_added = omega (arith, l); slots_kept = omega (arith, l); bytes_added = omega arith; bytes_kept = omega arith; slot_capacity = k.slots; byte_capacity = k.bytes }
plain_takes (Err y) old new x h e k =
    let l : length new.slots ≡ length old.slots = ap (λ (b : PlainBuilder). length b.slots) e in
    record { slots_added = omega (arith, l); slots_kept = omega (arith, l); bytes_added = omega arith; bytes_kept = omega arith; slot_capacity = k.slots; byte_capacity = k.bytes }

pub fills : (m b n : ℕ) (x y : Node) → Takes m b x y → m ≤ n → b ≤ n → Fills n x y
fills m b n x y t le less = record {
  slots_added = omega (arith, t.slots_added, le);
  slots_kept = t.slots_kept;
  bytes_added = omega (arith, t.bytes_added, less);
  bytes_kept = t.bytes_kept;
  slot_capacity = t.slot_capacity;
  byte_capacity = t.byte_capacity;
}

pub fills_none : (n : ℕ) (x : Node) → Fills n x x
fills_none n x = record {
  slots_added = omega arith;
  slots_kept = omega arith;
  bytes_added = omega arith;
  bytes_kept = omega arith;
  slot_capacity = omega arith;
  byte_capacity = omega arith;
}

-- a push after a number or a byte
pub number_fills : {X E : Type 0} (start rest : List ℕ) (r : Result X E) (old new : PlainBuilder) (x : Slot) → length rest < length start → OnOk r (new.slots ≡ old.slots ++ x ∷ []) → OnErr r (new ≡ old) → KeepsCapacity (plain_node old) (plain_node new) → Fills (passed start rest) (plain_node old) (plain_node new)
number_fills start rest r old new x lt h e k =
    fills 1 0 (passed start rest) (plain_node old) (plain_node new) (plain_takes r old new x h e k) (omega (arith, lt)) (omega arith)

pub number_has_memory : (start rest : List ℕ) (n : Node) (A : Type 0) (r : Result (Unit {0}) DecodeFault) → length rest < length start → (1 ≤ n.spare → A) → (A → HasMemory r) → HasSpare (length start) n → HasMemory r
number_has_memory start rest n A r lt has_capacity answered capacity = answered (has_capacity (omega (arith, lt, capacity.slots)))

-- ---- strings

-- a string that offsets can count is refused for out of memory alone
pub only_memory : (r : Result (Unit {0}) Error) (sum : ℕ) → sum ≤ greatest_offset false → IfErr r (λ e. (e ≡ Overflow) ⊎ (e ≡ OutOfMemory)) → (r ≡ Err Overflow → greatest_offset false < sum) → IfErr r (λ e. e ≡ OutOfMemory)
only_memory (Ok x) sum le e over = tt
only_memory (Err y) sum le (inl e) over = absurd (omega (arith, le, over (ap Err e)))
only_memory (Err y) sum le (inr e) over = e

pub string_takes : {X E : Type 0} (r : Result X E) (old new : ContentBuilder) (x : Slot) (n : ℕ) → OnOk r (new.slots ≡ old.slots ++ x ∷ []) → OnOk r (new.bytes ≡ old.bytes + n) → OnErr r (new.slots ≡ old.slots) → OnErr r (new.bytes ≡ old.bytes) → KeepsCapacity (content_node old) (content_node new) → Takes 1 n (content_node old) (content_node new)
string_takes (Ok y) old new x n h b e f k =
    let l : length new.slots ≡ length old.slots + 1 = omega (arith, ap length h, length-append old.slots (x ∷ [])) in
    record { slots_added = omega (arith, l); slots_kept = omega (arith, l); bytes_added = omega (arith, b); bytes_kept = omega (arith, b); slot_capacity = k.slots; byte_capacity = k.bytes }
string_takes (Err y) old new x n h b e f k =
    let l : length new.slots ≡ length old.slots = ap length e in
    record { slots_added = omega (arith, l); slots_kept = omega (arith, l); bytes_added = omega (arith, f); bytes_kept = omega (arith, f); slot_capacity = k.slots; byte_capacity = k.bytes }

pub takes_none : (m n : ℕ) (x : Node) → Takes m n x x
takes_none m n x = record {
  slots_added = omega arith;
  slots_kept = omega arith;
  bytes_added = omega arith;
  bytes_kept = omega arith;
  slot_capacity = omega arith;
  byte_capacity = omega arith;
}

-- a string after its length
module _ (start mid string rest : List ℕ) (n : ℕ) (lt : length mid < length start) (p : (n ≤ length mid) × (string ≡ take n mid) × (rest ≡ drop n mid)) where
  string_size : length string ≡ n
  string_size = ap length p.1 ∙ length-take-le n mid p.0

  rest_size : length rest + n ≡ length mid
  rest_size = let d = length-drop n mid in omega (arith, p.0, ap length p.2, d)

  pub string_fills : (x y : Node) → Takes 1 (length string) x y → Fills (passed start rest) x y
  string_fills x y t = fills 1 (length string) (passed start rest) x y t (omega (arith, lt, rest_size)) (omega (arith, lt, rest_size, string_size))

  pub string_reach : (large : Bool) (x : Node) → OffsetsReach large (length start) x → OffsetsReach large (length string) x
  string_reach large x h = omega (arith, h, lt, p.0, string_size)

  pub string_has_memory : (x : Node) (r : Result (Unit {0}) DecodeFault) → (1 ≤ x.spare → length string ≤ x.byte_spare → HasMemory r) → HasSpare (length start) x → HasMemory r
  string_has_memory x r has_capacity h = has_capacity (omega (arith, h.slots, lt)) (omega (arith, h.bytes, lt, p.0, string_size))

-- ---- fixed-size binary values

module _ (start string rest : List ℕ) (n : ℕ) (some : 1 ≤ n) (p : (n ≤ length start) × (string ≡ take n start) × (rest ≡ drop n start)) where
  fixed_size : length string ≡ n
  fixed_size = ap length p.1 ∙ length-take-le n start p.0

  fixed_rest : length rest + n ≡ length start
  fixed_rest = let d = length-drop n start in omega (arith, p.0, ap length p.2, d)

  pub fixed_fills : (x y : Node) → Takes 1 (length string) x y → Fills (passed start rest) x y
  fixed_fills x y t = fills 1 (length string) (passed start rest) x y t (omega (arith, some, fixed_rest)) (omega (arith, fixed_rest, fixed_size))

  pub fixed_has_memory : (x : Node) (r : Result (Unit {0}) DecodeFault) → (1 ≤ x.spare → length string ≤ x.byte_spare → HasMemory r) → HasSpare (length start) x → HasMemory r
  fixed_has_memory x r has_capacity h = has_capacity (omega (arith, h.slots, some, p.0)) (omega (arith, h.bytes, p.0, fixed_size))
