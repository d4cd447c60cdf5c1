-- Loops that read many values of a byte or more each, and push each where there is spare capacity: when fewer bytes are
-- ahead than values are wanted, what is reserved, and one turn.
use Rattle.std.proofs.Common.{◌≡◌, ◌∙◌, ℕ, zero, suc, ◌+◌, ◌<◌, ◌≤◌, Bool, true, false, cond, eqb, List, [], ◌∷◌, ◌++◌, length, Option, Some, None, Result, Ok, Err, refl, ap, arith}
use Rattle.std.specs.Prelude.{OnOk, OnErr}
use Rattle.std.proofs.lemmas.List.{length-append}
use Rattle.std.proofs.lemmas.Option.{some_pair_parts, none-some}
use Rattle.arrow_core.specs.declared.slot.Slot.{Slot}
use Rattle.arrow_core.specs.declared.slot.Slot.TheVariants as slot
use Rattle.arrow_core.specs.declared.types.DataType.{DataType}
use Rattle.arrow_flat.specs.Builders.{PlainBuilder, plain_node}
use Rattle.arrow_flat.specs.Nodes.{Node, NoLessSpare}
use Rattle.avro_schema.specs.Number.{AreGroups}
use Rattle.avro_schema.proofs.Basics.{bind_some}
use Rattle.avro_reference.specs.Prefix.{Reader, number_at}
use Rattle.avro_reference.specs.Read.{push_one, boolean_at, is_int, int_at, long_at, items}
use Rattle.avro_reference.specs.Costs.{passed, Moves, CostsKept}
use Rattle.avro_reference.proofs.Counting.{forward_none, kept_none, moves_none}
use Rattle.avro_reference.proofs.Prefixes.{number_sound, chosen}
use Rattle.avro_flat.specs.Decoding.{HasMemory}
use Rattle.avro_flat.specs.Growing.{Fills}
use Rattle.avro_flat.specs.declared.fault.DecodeFault.{DecodeFault}
use Rattle.avro_flat.specs.declared.fault.DecodeFault.TheVariants.{Bytes, Memory}
use Rattle.avro_flat.proofs.Many.{Reads, ManySoFar, all_left}
use Rattle.avro_flat.proofs.Pushes.{fills_none}
use Rattle.avro_flat.proofs.Unfolded.{push_none}

-- ---- values that have a byte

-- each value that f reads has a byte at least
abbrev pub HasByte : Reader Slot → Type 0
HasByte f = (bytes : List ℕ) (x : Slot) (rest : List ℕ) → f bytes ≡ Some (x, rest) → length rest < length bytes

some-groups : (bytes : List ℕ) → AreGroups bytes → 1 ≤ length bytes
some-groups [] h = absurd h
some-groups (b ∷ bytes) h = omega arith

number-has_byte : (bytes : List ℕ) (v : _) (rest : List ℕ) → number_at bytes ≡ Some (v, rest) → length rest < length bytes
number-has_byte bytes v rest e =
    let s = number_sound bytes rest v e in
    let l = some-groups s.0 s.1.groups in
    omega (arith, l, ap length s.2, length-append s.0 rest)

pub long_has_byte : HasByte long_at
unfolding long_at
long_has_byte bytes x rest e =
    let b = bind_some (number_at bytes) (λ n. Some (slot.Integer n.0, n.1)) (x, rest) e in
    let p = some_pair_parts (slot.Integer b.0.0) x b.0.1 rest b.2 in
    let l = number-has_byte bytes b.0.0 b.0.1 b.1 in
    omega (arith, l, ap length p.1)

pub int_has_byte : HasByte int_at
unfolding int_at
int_has_byte bytes x rest e =
    let b = bind_some (number_at bytes) (λ n. cond (is_int n.0) (Some (slot.Integer n.0, n.1)) None) (x, rest) e in
    let c = chosen (is_int b.0.0) (slot.Integer b.0.0, b.0.1) (x, rest) b.2 in
    let p = some_pair_parts (slot.Integer b.0.0) x b.0.1 rest c.1 in
    let l = number-has_byte bytes b.0.0 b.0.1 b.1 in
    omega (arith, l, ap length p.1)

pub boolean_has_byte : HasByte boolean_at
unfolding boolean_at
boolean_has_byte [] x rest e = absurd (none-some (x, rest) e)
boolean_has_byte (b ∷ bytes) x rest e = told (eqb b 0) (eqb b 1) e
  where
    told : (t u : Bool) → cond {A = Option (Slot × List ℕ)} t (Some (slot.Boolean false, bytes)) (cond u (Some (slot.Boolean true, bytes)) None) ≡ Some (x, rest) → length rest < suc (length bytes)
    told true u q = let p = some_pair_parts (slot.Boolean false) x bytes rest q in omega (arith, ap length p.1)
    told false u q =
        let c = chosen u (slot.Boolean true, bytes) (x, rest) q in
        let p = some_pair_parts (slot.Boolean true) x bytes rest c.1 in
        omega (arith, ap length p.1)

items-within : {f : Reader Slot} → HasByte f → (n : ℕ) (old all : List Slot) (bytes rest : List ℕ) → items f n old bytes ≡ Some (all, rest) → n ≤ length bytes
unfolding items push_one
items-within h zero old all bytes rest e = omega arith
items-within {f} h (suc n) old all bytes rest e =
    let b = bind_some (push_one old (f bytes)) (λ x. items f n x.0 x.1) (all, rest) e in
    let c = bind_some (f bytes) (λ x. Some (old ++ x.0 ∷ [], x.1)) b.0 b.1 in
    let p = some_pair_parts (old ++ c.0.0 ∷ []) b.0.0 c.0.1 b.0.1 c.2 in
    let l = h bytes c.0.0 c.0.1 c.1 in
    let i = items-within {f = f} h n b.0.0 all b.0.1 rest b.2 in
    omega (arith, l, i, ap length p.1)

none-where : {A : Type 0} (o : Option A) → ((x : A) → o ≡ Some x → ⊥) → o ≡ None
none-where None h = refl
none-where (Some x) h = absurd (h x refl)

items-short : {f : Reader Slot} → HasByte f → (n : ℕ) (old : List Slot) (bytes : List ℕ) → length bytes < n → items f n old bytes ≡ None
items-short {f} h n old bytes lt = none-where (items f n old bytes) (λ x e. let l = items-within {f = f} h n old x.0 bytes x.1 e in omega (arith, l, lt))

-- ---- nothing is read

-- a fault, and no value
unread : {X : Type 0} (rest : X → List ℕ) (shown calls identity : X → ℕ) (y z : X) (s : DataType) (a : Node) (xs : List Slot) (reading : Option (List Slot × List ℕ)) → identity z ≡ identity y → Moves rest calls y z → reading ≡ None → Reads rest shown calls identity y z s s a a xs (Err Bytes) reading
unread rest shown calls identity y z s a xs reading w m e = record {
  data_type = λ _. s;
  grows = fills_none (passed (rest y) (rest z)) a;
  has_capacity = λ _. tt;
  same = w;
  moves = m;
  costs = tt;
  reads = e;
}

-- ---- before the loop

-- what an Ok tells, of an answer that is no error
pub on_no_error : {A E P : Type 0} (r : Result A E) → OnErr r ⊥ → OnOk r P → P
on_no_error (Ok x) h p = p
on_no_error (Err e) h p = absurd h

no-less-fills : (n : ℕ) (x y : Node) → NoLessSpare x y → Fills n x y
no-less-fills n x y h = record {
  slots_added = omega (arith, h.slots);
  slots_kept = omega (arith, h.slots);
  bytes_added = omega (arith, h.bytes);
  bytes_kept = omega (arith, h.bytes);
  slot_capacity = omega (arith, h.slots, h.slot_capacity);
  byte_capacity = omega (arith, h.bytes, h.byte_capacity);
}

module _ {X : Type 0} (rest : X → List ℕ) (shown calls identity : X → ℕ) (f : Reader Slot) (count : ℕ) (x : X) where
  -- fewer bytes are ahead than values are wanted
  pub many_short : (s : DataType) (a : Node) (xs : List Slot) → HasByte f → length (rest x) < count → Reads rest shown calls identity x x s s a a xs (Err Bytes) (items f count xs (rest x))
  many_short s a xs h lt = unread rest shown calls identity x x s a xs (items f count xs (rest x)) refl (moves_none rest calls x) (items-short {f = f} h count xs (rest x) lt)

  -- there is no memory for so many
  pub many_refused : (s t : DataType) (a b : Node) (xs ys : List Slot) (d : DecodeFault) → count ≤ length (rest x) → t ≡ s → NoLessSpare a b → (count ≤ a.spare → HasMemory {X = Unit {0}} (Err d)) → d ≡ Memory → Reads rest shown calls identity x x s t a b ys (Err d) (items f count xs (rest x))
  many_refused s t a b xs ys d le e c h m = rw m (record {
    data_type = e;
    grows = no-less-fills (passed (rest x) (rest x)) a b c;
    has_capacity = λ k. rw m at h (omega (arith, le, k.slots));
    same = λ _. identity x;
    moves = moves_none rest calls x;
    costs = tt;
    reads = tt;
  })

  -- no turn was made yet, after capacity was asked for
  pub many_begin : (s t : DataType) (a b : Node) (xs ys : List Slot) (turns : ℕ) → turns ≡ 0 → t ≡ s → ys ≡ xs → NoLessSpare a b → ManySoFar rest shown calls identity f count turns x x s t a b xs ys
  many_begin s t a b xs ys turns z d e c = record {
    data_type = d;
    same = λ _. identity x;
    forward = forward_none (rest x);
    grows = no-less-fills (passed (rest x) (rest x)) a b c;
    costs = kept_none rest shown calls x;
    reads = all_left f count turns xs ys (rest x) z e;
  }

-- ---- one turn

module _ {X : Type 0} (rest : X → List ℕ) (shown calls identity : X → ℕ) (f : Reader Slot) (y z : X) where
  -- a value is read, and pushed into spare capacity
  pub value_pushed : (old new : PlainBuilder) (x : Slot) → identity z ≡ identity y → Moves rest calls y z → length (rest z) < length (rest y) → CostsKept rest shown calls y z → f (rest y) ≡ Some (x, rest z) → new.data_type ≡ old.data_type → new.slots ≡ old.slots ++ x ∷ [] → new.spare + 1 ≡ old.spare → Reads rest shown calls identity y z old.data_type new.data_type (plain_node old) (plain_node new) new.slots (Ok tt) (push_one old.slots (f (rest y)))
  unfolding push_one
  value_pushed old new x w m lt c e d s k =
      let l : length new.slots ≡ length old.slots + 1 = omega (arith, ap length s, length-append old.slots (x ∷ [])) in
      record {
        data_type = d;
        grows = record {
          slots_added = omega (arith, l, lt);
          slots_kept = omega (arith, l);
          bytes_added = omega arith;
          bytes_kept = omega arith;
          slot_capacity = omega (arith, l, k);
          byte_capacity = omega arith;
        };
        has_capacity = λ _. tt;
        same = w;
        moves = m;
        costs = c;
        reads = rw (e, s) refl;
      }

  -- no value is read
  pub value_missing : (s : DataType) (a : Node) (xs : List Slot) → identity z ≡ identity y → Moves rest calls y z → f (rest y) ≡ None → Reads rest shown calls identity y z s s a a xs (Err Bytes) (push_one xs (f (rest y)))
  value_missing s a xs w m e = unread rest shown calls identity y z s a xs (push_one xs (f (rest y))) w m (ap (push_one xs) e ∙ push_none xs)
