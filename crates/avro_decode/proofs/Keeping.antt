-- What decoding values keeps: from its parts, and over calls one after another.
use Rattle.std.proofs.Common.{◌≡◌, ◌∙◌, ℕ, ◌+◌, Bool, List, length, Result, Ok, Err, refl, sym, subst, arith}
use Rattle.std.specs.Prelude.{OnOk}
use Rattle.arrow_builders.specs.MutableArrays.{nodes}
use Rattle.arrow_builders.specs.Shapes.{shape}
use Rattle.arrow_builders.specs.Tight.{IsTight}
use Rattle.arrow_builders.specs.declared.array.MutableArray.{MutableArray}
use Rattle.avro_reference.specs.Costs.{passed, Moves, CostsKept, CostsNumber}
use Rattle.avro_reference.proofs.Counting.{forward_none, moves_none, moves_within, kept_none, kept_then, number_costs, number_first}
use Rattle.avro_flat.specs.declared.fault.DecodeFault.{DecodeFault}
use Rattle.avro_flat.specs.declared.fault.DecodeFault.TheVariants.{Bytes}
use Rattle.avro_decode.specs.Growth.{Grows, HaveSpare}
use Rattle.avro_decode.specs.Keeping.{KeepsWithin, Keeps, KeepsMember}
use Rattle.avro_decode.proofs.Going.{grows_then, grows_behind, costs_behind, spare_on}
use Rattle.avro_decode.proofs.Nodes.{grows_none, spare_less}

pub keeps_all : {X Y E : Type 0} (rest : X → List ℕ) (shown calls identity : X → ℕ) (n m : ℕ) (mask : List Bool) (old new : X) (before now : MutableArray) (r : Result Y E) (has_memory : Result Y E → Type 0) → shape now ≡ shape before → OnOk r (IsTight now) → Grows mask n (nodes before) (nodes now) → (HaveSpare mask m (nodes before) → has_memory r) → identity new ≡ identity old → Moves rest calls old new → OnOk r (CostsKept rest shown calls old new) → KeepsWithin rest shown calls identity n m mask old new before now r has_memory
keeps_all rest shown calls identity n m mask old new before now r has_memory s t g h w v c = record { same_shape = s; tight = t; grows = g; has_capacity = h; same = w; moves = v; costs = c }

-- ---- calls one after another

after-kept : {X Y E : Type 0} (rest : X → List ℕ) (shown calls : X → ℕ) (r : Result Y E) (x y z : X) → Moves rest calls x y → CostsKept rest shown calls x y → Moves rest calls y z → OnOk r (CostsKept rest shown calls y z) → OnOk r (CostsKept rest shown calls x z)
after-kept rest shown calls (Ok u) x y z f c g d = kept_then rest shown calls x y z f.forward g.forward c d
after-kept rest shown calls (Err e) x y z f c g d = tt

-- all values were read so far
abbrev pub KeepsSoFar : {X : Type 0} → (X → List ℕ) → (X → ℕ) → (X → ℕ) → (X → ℕ) → List Bool → X → X → MutableArray → MutableArray → Type 0
KeepsSoFar rest shown calls identity mask x y a b = Keeps {Y = Unit {0}} rest shown calls identity mask x y a b (Ok tt)

module _ {X : Type 0} {rest : X → List ℕ} {shown calls identity : X → ℕ} {mask : List Bool} where
  -- no call was made yet
  pub keeps_none : {x : X} {a : MutableArray} → IsTight a → KeepsSoFar rest shown calls identity mask x x a a
  keeps_none {x} {a} t = record {
    same_shape = refl;
    tight = t;
    grows = grows_none mask (passed (rest x) (rest x)) (nodes a);
    has_capacity = λ _. tt;
    same = refl;
    moves = moves_none rest calls x;
    costs = kept_none rest shown calls x;
  }

  -- a number that is no value
  pub keeps_number : {x y : X} {a : MutableArray} → identity y ≡ identity x → Moves rest calls x y → CostsNumber rest shown calls x y → IsTight a → KeepsSoFar rest shown calls identity mask x y a a
  keeps_number {x} {y} {a} w m n t = record {
    same_shape = refl;
    tight = t;
    grows = grows_none mask (passed (rest x) (rest y)) (nodes a);
    has_capacity = λ _. tt;
    same = w;
    moves = m;
    costs = number_costs rest shown calls x y n;
  }

  -- a fault, and no value
  pub keeps_unread : {E Y : Type 0} {n m : ℕ} {x y : X} {a : MutableArray} {e : E} {has_memory : Result Y E → Type 0} → identity y ≡ identity x → Moves rest calls x y → has_memory (Err e) → KeepsWithin rest shown calls identity n m mask x y a a (Err e) has_memory
  keeps_unread {n = n} {a = a} w m h = record {
    same_shape = refl;
    tight = tt;
    grows = grows_none mask n (nodes a);
    has_capacity = λ _. h;
    same = w;
    moves = m;
    costs = tt;
  }

  -- values, and then a fault
  pub keeps_fault : {Y : Type 0} {x y : X} {a b : MutableArray} {r : Result Y DecodeFault} → Keeps rest shown calls identity mask x y a b r → Keeps {Y = Y} rest shown calls identity mask x y a b (Err Bytes)
  keeps_fault k = record {
    same_shape = k.same_shape;
    tight = tt;
    grows = k.grows;
    has_capacity = λ _. tt;
    same = k.same;
    moves = k.moves;
    costs = tt;
  }

  -- values, and then others
  pub keeps_then : {Y : Type 0} {x y z : X} {a b c : MutableArray} {r : Result Y DecodeFault} → KeepsSoFar rest shown calls identity mask x y a b → Keeps rest shown calls identity mask y z b c r → Keeps rest shown calls identity mask x z a c r
  keeps_then {x = x} {y = y} {z = z} {a = a} {b = b} {c = c} {r = r} h k = record {
    same_shape = k.same_shape ∙ h.same_shape;
    tight = k.tight;
    grows = grows_then mask (rest x) (rest y) (rest z) (nodes a) (nodes b) (nodes c) h.moves.forward k.moves.forward h.grows k.grows;
    has_capacity = λ s. k.has_capacity (spare_on mask (rest x) (rest y) (rest y) (nodes a) (nodes b) h.moves.forward (forward_none (rest y)) h.grows s);
    same = k.same ∙ h.same;
    moves = moves_within rest shown calls x y z _ _ h.costs h.moves.forward k.moves;
    costs = after-kept rest shown calls r x y z h.moves h.costs k.moves k.costs;
  }

  -- a union's member after its index
  pub keeps_behind : {Y : Type 0} {ms : List Bool} {x y z : X} {a b : MutableArray} {r : Result Y DecodeFault} → ms ≡ mask → identity y ≡ identity x → Moves rest calls x y → CostsNumber rest shown calls x y → KeepsMember rest shown calls identity ms y z a b r → Keeps rest shown calls identity mask x z a b r
  keeps_behind {ms = ms} {x = x} {y = y} {z = z} {a = a} {b = b} {r = r} e w m n k =
      let l = n.shorter in
      record {
        same_shape = k.same_shape;
        tight = k.tight;
        grows = subst (λ (bs : List Bool). Grows bs (passed (rest x) (rest z)) (nodes a) (nodes b)) e (grows_behind ms (rest x) (rest y) (rest z) (nodes a) (nodes b) l k.moves.forward k.grows);
        has_capacity = λ h. k.has_capacity (spare_less ms (length (rest x)) (length (rest y) + 1) (nodes a) (omega (arith, l)) (subst (λ (bs : List Bool). HaveSpare bs (length (rest x)) (nodes a)) (sym e) h));
        same = k.same ∙ w;
        moves = number_first rest shown calls x y z n m k.moves;
        costs = costs_behind rest shown calls r x y z m.forward k.moves.forward n k.costs;
      }
