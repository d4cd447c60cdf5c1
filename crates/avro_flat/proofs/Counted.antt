-- Bytes behind their length at the start of bytes, as the code takes them.
use Rattle.std.proofs.Common.{◌≡◌, ℕ, ◌<◌, ◌≤◌, take, drop, length, Result, Ok, Err, List, [], ◌∷◌, ◌++◌, Option, Some, None, refl, ap, arith}
use Rattle.std.specs.Prelude.{OnOk, OnErr, IfErr}
use Rattle.std.proofs.lemmas.Bool.{lt-ltb, le-ltb}
use Rattle.std.proofs.lemmas.List.{length-drop}
use Rattle.arrow_core.specs.declared.slot.Slot.{Slot}
use Rattle.arrow_core.specs.declared.slot.Slot.TheVariants as slot
use Rattle.avro_reference.specs.Prefix.{bytes_at, sized_at}
use Rattle.avro_reference.specs.Read.{push_one, binary_at}
use Rattle.avro_reference.specs.Lengths.{length_at}
use Rattle.avro_flat.specs.Decoding.{Gives}
use Rattle.avro_flat.specs.declared.fault.DecodeFault.{DecodeFault}
use Rattle.avro_flat.specs.declared.fault.DecodeFault.TheVariants.{Memory}
use Rattle.avro_flat.proofs.Sized.{sized_by_length}

pub sized_is : (bytes mid : List ℕ) (n : ℕ) → length_at bytes ≡ Some (n, mid) → sized_at bytes ≡ bytes_at n mid
sized_is bytes mid n e = rw (sized_by_length bytes, e) refl

pub sized_none : (bytes : List ℕ) → length_at bytes ≡ None → sized_at bytes ≡ None
sized_none bytes e = rw (sized_by_length bytes, e) refl

-- ---- binary values

pub binary_none : (bytes : List ℕ) → length_at bytes ≡ None → binary_at bytes ≡ None
unfolding binary_at
binary_none bytes e = rw (sized_none bytes e) refl

pub binary_short : (bytes mid : List ℕ) (n : ℕ) → length_at bytes ≡ Some (n, mid) → length mid < n → binary_at bytes ≡ None
unfolding binary_at bytes_at
binary_short bytes mid n e lt = rw (sized_is bytes mid n e, lt-ltb (length mid) n lt) refl

binary_some : (bytes mid : List ℕ) (n : ℕ) → length_at bytes ≡ Some (n, mid) → n ≤ length mid → binary_at bytes ≡ Some (slot.Binary (take n mid), drop n mid)
unfolding binary_at bytes_at
binary_some bytes mid n e le = rw (sized_is bytes mid n e, le-ltb (length mid) n le) refl

pub binary_pushed : {X : Type 0} (old new : List Slot) (bytes mid string rest : List ℕ) (n : ℕ) (r : Result X DecodeFault) → length_at bytes ≡ Some (n, mid) → (n ≤ length mid) × (string ≡ take n mid) × (rest ≡ drop n mid) → OnOk r (new ≡ old ++ slot.Binary string ∷ []) → IfErr r (λ e. e ≡ Memory) → Gives (λ (_ : X). (new, rest)) r (push_one old (binary_at bytes))
unfolding push_one
binary_pushed old new bytes mid string rest n (Ok x) e p h m = rw (binary_some bytes mid n e p.0, h, p.1, p.2) refl
binary_pushed old new bytes mid string rest n (Err d) e p h m = rw m tt

-- ---- a value that was read is pushed

pub value_pushed : {X Y E : Type 0} (a : Result Y E) (r : Result X DecodeFault) (old new : List Slot) (o : Option (Slot × List ℕ)) (x : Slot) (rest : List ℕ) → o ≡ Some (x, rest) → OnOk a (new ≡ old ++ x ∷ []) → OnOk r (OnErr a ⊥) → IfErr r (λ e. e ≡ Memory) → Gives (λ (_ : X). (new, rest)) r (push_one old o)
unfolding push_one
value_pushed (Ok y) (Ok u) old new o x rest e h k m = rw (e, h) refl
value_pushed (Err y) (Ok u) old new o x rest e h k m = absurd k
value_pushed a (Err d) old new o x rest e h k m = rw m tt

-- ---- what is left of the bytes

pub less_left : (n : ℕ) (bytes rest : List ℕ) → 1 ≤ n → (n ≤ length bytes) × (rest ≡ drop n bytes) → length rest < length bytes
less_left n bytes rest some p = omega (arith, some, p.0, ap length p.1, length-drop n bytes)
