-- One step of reading items.
use Rattle.std.proofs.Common.{◌≡◌, ℕ, zero, suc, List, Option, Some, None, sym}
use Rattle.arrow_core.specs.declared.slot.Slot.{Slot}
use Rattle.avro_reference.specs.Prefix.{Reader}
use Rattle.avro_reference.specs.Read.{push_one, items}
use Rattle.avro_flat.specs.Decoding.{Fails}
use Rattle.avro_flat.specs.declared.fault.DecodeFault.{DecodeFault}
use Rattle.avro_flat.specs.declared.fault.DecodeFault.TheVariants.{Bytes, Memory}

abbrev State : Type 0
State = Option (List Slot × List ℕ)

pub items-done : (f : Reader Slot) (n : ℕ) (old : List Slot) (bytes : List ℕ) (target : State) → n ≡ 0 → items f n old bytes ≡ target → target ≡ Some (old, bytes)
unfolding items
items-done f zero old bytes target z e = sym e
items-done f (suc n) old bytes target z e = absurd cc

pub items-next : (f : Reader Slot) (n m : ℕ) (old xs : List Slot) (bytes r : List ℕ) (target : State) → n ≡ suc m → push_one old (f bytes) ≡ Some (xs, r) → items f n old bytes ≡ target → items f m xs r ≡ target
unfolding items
items-next f n m old xs bytes r target s p e =
    let e' = rw s at e in
    rw p at e'

items-bad : (f : Reader Slot) (n m : ℕ) (old : List Slot) (bytes : List ℕ) (target : State) → n ≡ suc m → push_one old (f bytes) ≡ None → items f n old bytes ≡ target → target ≡ None
unfolding items
items-bad f n m old bytes target s p e =
    let e' = rw s at e in
    sym (rw p at e')

pub items-err : (d : DecodeFault) (f : Reader Slot) (n m : ℕ) (old : List Slot) (bytes : List ℕ) (target : State) → n ≡ suc m → Fails d (push_one old (f bytes)) → items f n old bytes ≡ target → Fails d target
items-err Bytes f n m old bytes target s h e = items-bad f n m old bytes target s h e
items-err Memory f n m old bytes target s h e = tt

-- readers that give the same at any bytes read the same items
pub items_same : {f g : Reader Slot} → ((bytes : List ℕ) → f bytes ≡ g bytes) → (n : ℕ) (old : List Slot) (bytes : List ℕ) → items f n old bytes ≡ items g n old bytes
items_same h n old bytes = λ i. items (λ b. h b i) n old bytes
