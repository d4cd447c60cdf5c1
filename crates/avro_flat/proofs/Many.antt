-- Loops that read many values of a kind, each into one more slot: what holds so far, one turn more, and the end.
use Rattle.std.proofs.Common.{◌≡◌, ◌∙◌, ℕ, suc, ◌+◌, ◌-◌, ◌<◌, ◌≤◌, List, length, Bool, Option, Result, Ok, Err, refl, ap, arith}
use Rattle.std.specs.Prelude.{OnOk}
use Rattle.arrow_core.specs.declared.slot.Slot.{Slot}
use Rattle.arrow_core.specs.declared.types.DataType.{DataType}
use Rattle.arrow_flat.specs.Nodes.{Node, HasSpare}
use Rattle.avro_schema.specs.Number.{MovesForward}
use Rattle.avro_reference.specs.Prefix.{Reader}
use Rattle.avro_reference.specs.Read.{push_one, items}
use Rattle.avro_reference.specs.Costs.{passed, Moves, CostsKept}
use Rattle.avro_reference.proofs.Counting.{forward_more, forward_none, not_longer, moves_within, moves_so_far, kept_none, kept_then}
use Rattle.avro_flat.specs.Decoding.{Gives, HasMemory}
use Rattle.avro_flat.specs.Growing.{OffsetsReach, Fills}
use Rattle.avro_flat.specs.declared.fault.DecodeFault.{DecodeFault}
use Rattle.avro_flat.proofs.Filled.{fills_then, spare_then}
use Rattle.avro_flat.proofs.Items.{items-done, items-next, items-err}
use Rattle.avro_flat.proofs.Pushes.{fills_none}

-- What one call ensures, of one value or of many, clause by clause under their names: from the cursor x to y, the data
-- type s to t and the node a to b, with the slots ys in the end.
abbrev pub Reads : {X : Type 0} → (X → List ℕ) → (X → ℕ) → (X → ℕ) → (X → ℕ) → X → X → DataType → DataType → Node → Node → List Slot → Result (Unit {0}) DecodeFault → Option (List Slot × List ℕ) → Type 0
Reads rest shown calls identity x y s t a b ys r reading = record {
  data_type : t ≡ s;
  grows : Fills (passed (rest x) (rest y)) a b;
  has_capacity : HasSpare (length (rest x)) a → HasMemory r;
  same : identity y ≡ identity x;
  moves : Moves rest calls x y;
  costs : OnOk r (CostsKept rest shown calls x y);
  reads : Gives (λ (_ : Unit {0}). (ys, rest y)) r reading;
}

-- what holds after so many turns of `count`
pub record ManySoFar {X : Type 0} (rest : X → List ℕ) (shown calls identity : X → ℕ) (f : Reader Slot) (count turns : ℕ) (x y : X) (s t : DataType) (a b : Node) (xs ys : List Slot) : Type 0 where
  pub data_type : t ≡ s
  pub same : identity y ≡ identity x
  pub forward : MovesForward (rest x) (rest y)
  pub grows : Fills (passed (rest x) (rest y)) a b
  pub costs : CostsKept rest shown calls x y
  pub reads : items f (count - turns) ys (rest y) ≡ items f count xs (rest x)

pub all_left : (f : Reader Slot) (count turns : ℕ) (xs ys : List Slot) (bytes : List ℕ) → turns ≡ 0 → ys ≡ xs → items f (count - turns) ys bytes ≡ items f count xs bytes
all_left f count turns xs ys bytes z e = let n : count - turns ≡ count = omega (arith, z) in ap (λ k. items f k ys bytes) n ∙ ap (λ zs. items f count zs bytes) e

pub many_none : {X : Type 0} {rest : X → List ℕ} {shown calls identity : X → ℕ} {f : Reader Slot} {count turns : ℕ} {x : X} {s : DataType} {a : Node} {xs : List Slot} → turns ≡ 0 → ManySoFar rest shown calls identity f count turns x x s s a a xs xs
many_none {rest = rest} {shown = shown} {calls = calls} {identity = identity} {f = f} {count = count} {turns = turns} {x = x} {s = s} {a = a} {xs = xs} z = record {
  data_type = λ _. s;
  same = λ _. identity x;
  forward = forward_none (rest x);
  grows = fills_none (passed (rest x) (rest x)) a;
  costs = kept_none rest shown calls x;
  reads = all_left f count turns xs xs (rest x) z refl;
}

module _ {X : Type 0} {rest : X → List ℕ} {shown calls identity : X → ℕ} {f : Reader Slot} {count turns : ℕ} {x y : X} {s t : DataType} {a b : Node} {xs ys : List Slot} (m : ManySoFar rest shown calls identity f count turns x y s t a b xs ys) where
  one-less : turns < count → count - turns ≡ suc (count - (turns + 1))
  one-less lt = omega (arith, lt)

  -- one turn more
  pub many_more : {z : X} {u : DataType} {c : Node} {zs : List Slot} → turns < count → Reads rest shown calls identity y z t u b c zs (Ok tt) (push_one ys (f (rest y))) → ManySoFar rest shown calls identity f count (turns + 1) x z s u a c xs zs
  many_more {z} {u} {c} {zs} lt e = record {
    data_type = e.data_type ∙ m.data_type;
    same = e.same ∙ m.same;
    forward = forward_more (rest x) (rest y) (rest z) m.forward e.moves.forward;
    grows = fills_then (rest x) (rest y) (rest z) a b c m.forward e.moves.forward m.grows e.grows;
    costs = kept_then rest shown calls x y z m.forward e.moves.forward m.costs e.costs;
    reads = items-next f (count - turns) (count - (turns + 1)) ys zs (rest y) (rest z) (items f count xs (rest x)) (one-less lt) e.reads m.reads;
  }

  -- the last turn was made
  pub many_done : count ≤ turns → Reads rest shown calls identity x y s t a b ys (Ok tt) (items f count xs (rest x))
  many_done le = record {
    data_type = m.data_type;
    grows = m.grows;
    has_capacity = λ _. tt;
    same = m.same;
    moves = moves_so_far rest shown calls x y _ _ m.costs m.forward;
    costs = m.costs;
    reads = items-done f (count - turns) ys (rest y) (items f count xs (rest x)) (omega (arith, le)) m.reads;
  }

  -- a turn fails
  pub many_fault : {z : X} {u : DataType} {c : Node} (zs : List Slot) (d : DecodeFault) → turns < count → Reads rest shown calls identity y z t u b c zs (Err d) (push_one ys (f (rest y))) → Reads rest shown calls identity x z s u a c zs (Err d) (items f count xs (rest x))
  many_fault {z} {u} {c} zs d lt e = record {
    data_type = e.data_type ∙ m.data_type;
    grows = fills_then (rest x) (rest y) (rest z) a b c m.forward e.moves.forward m.grows e.grows;
    has_capacity = λ h. e.has_capacity (spare_then (rest x) (rest y) a b m.forward m.grows h);
    same = e.same ∙ m.same;
    moves = moves_within rest shown calls x y z _ _ m.costs m.forward e.moves;
    costs = tt;
    reads = items-err d f (count - turns) (count - (turns + 1)) ys (rest y) (items f count xs (rest x)) (one-less lt) e.reads m.reads;
  }

  -- the same of what `?` returns then
  pub many_err : {z : X} {u : DataType} {c : Node} {r : Result (Unit {0}) DecodeFault} {d : DecodeFault} (zs : List Slot) → turns < count → (p : DecodeFault) × (r ≡ Err p) × (p ≡ d) → Reads rest shown calls identity y z t u b c zs (Err d) (push_one ys (f (rest y))) → Reads rest shown calls identity x z s u a c zs r (items f count xs (rest x))
  many_err zs lt p e = rw (p.1, p.2) (many_fault zs _ lt e)

  -- the offsets still reach all bytes ahead
  pub many_reach : (large : Bool) → OffsetsReach large (length (rest x)) a → OffsetsReach large (length (rest y)) b
  many_reach large h =
      let l = not_longer (rest x) (rest y) m.forward in
      omega (arith, l, h, m.grows.bytes_added)
