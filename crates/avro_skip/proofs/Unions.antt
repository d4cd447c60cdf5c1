-- The members of unions and the fields of records: which of them are skipped, and what is carried.
use Rattle.std.proofs.Common.{◌≡◌, ℕ, zero, suc, ◌-◌, ◌+◌, ◌<◌, ◌≤◌, ℤ, pos, negsuc, false, List, [], ◌∷◌, length, get_or, ◌⊎◌, inl, inr, Some, None, Result, Ok, Err, refl, sym, ap, subst, ◌∙◌, arith}
use Rattle.std.specs.Prelude.{OnOk}
use Rattle.std.proofs.lemmas.Bool.{le-ltb}
use denote.Param.Weighed.{most, at_most}
use Rattle.avro_schema.specs.declared.schema.AvroField.{AvroField}
use Rattle.avro_schema.specs.declared.schema.Record.{Record as TheRecord, out-Record}
use Rattle.avro_schema.specs.declared.schema.Schema.{Schema, Array, Union, Record}
use Rattle.avro_schema.proofs.schema.Schema.TheLaws.{the_size}
use Rattle.avro_schema.specs.Carried.{Carried, IsNoUnion}
use Rattle.avro_schema.specs.Encodes.{IsNull}
use Rattle.avro_schema.specs.Listed.{CarriedMembersOf, CarriedFieldsOf}
use Rattle.avro_schema.specs.Skips.{Passed, nothing, seen_only, both}
use Rattle.avro_schema.proofs.ByLists.{carried_union, carried_array, carried_record, moved}
use Rattle.avro_reference.specs.Prefix.{number_at, is_index}
use Rattle.avro_reference.specs.Skip.{Bad, Parser, or_bad, measured_at, skip_array, skip}
use Rattle.avro_reference.specs.Listed.{skip_union_of, skip_fields_of}
use Rattle.avro_reference.proofs.ByLists.{skip_union, skip_array_is, skip_fields_are}
use Rattle.avro_reference.proofs.Parsers.{nothing-both}
use Rattle.avro_reference.specs.Costs.{CostsNumber}
use Rattle.avro_skip.specs.Skipping.{Passes, PassesMore, member_at}
use Rattle.avro_skip.specs.declared.fault.SkipFault.{SkipFault}
use Rattle.avro_reference.proofs.Counting.{costs_more, number_costs}

module _ {X Y : Type 0} (rest : X → List ℕ) (shown calls : X → ℕ) where
  pub first_passes : (s u : Schema) (x y z : X) (r : Result Y SkipFault) → number_at (rest x) ≡ Some (pos 0, rest y) → CostsNumber rest shown calls x y → Passes rest shown calls y z r (member_at s (rest y)) → Passes rest shown calls x z r (skip_union_of (s ∷ u ∷ []) (rest x))
  unfolding measured_at or_bad
  first_passes s u x y z (Ok w) e k p =
      let n = seen_only (length (rest x) - length (rest y)) in
      (both n p.0, rw (e, p.1) refl, costs_more rest shown calls x y z n.seen n.hidden p.0.seen p.0.hidden (number_costs rest shown calls x y k) p.2)
  first_passes s u x y z (Err f) e k p = rw (e, p) refl

  pub second_passes : (s u : Schema) (x y z : X) (r : Result Y SkipFault) → number_at (rest x) ≡ Some (pos 1, rest y) → CostsNumber rest shown calls x y → Passes rest shown calls y z r (member_at u (rest y)) → Passes rest shown calls x z r (skip_union_of (s ∷ u ∷ []) (rest x))
  unfolding measured_at or_bad
  second_passes s u x y z (Ok w) e k p =
      let n = seen_only (length (rest x) - length (rest y)) in
      (both n p.0, rw (e, p.1) refl, costs_more rest shown calls x y z n.seen n.hidden p.0.seen p.0.hidden (number_costs rest shown calls x y k) p.2)
  second_passes s u x y z (Err f) e k p = rw (e, p) refl

pub union_bad : (members : List Schema) (bytes : List ℕ) → number_at bytes ≡ None → skip_union_of members bytes ≡ Err Bad
unfolding measured_at or_bad
union_bad members bytes e = rw e refl

-- a member's number is 0 or 1
other_index : (v : ℤ) → (v ≡ pos 0 → ⊥) → (v ≡ pos 1 → ⊥) → is_index v 2 ≡ false
other_index (pos zero) a b = absurd (a refl)
other_index (pos (suc zero)) a b = absurd (b refl)
other_index (pos (suc (suc n))) a b = le-ltb (suc (suc n)) 2 (omega arith)
other_index (negsuc n) a b = refl

pub skip_other : (members : List Schema) (bytes mid : List ℕ) (v : ℤ) → number_at bytes ≡ Some (v, mid) → (v ≡ pos 0 → ⊥) → (v ≡ pos 1 → ⊥) → skip_union_of members bytes ≡ Err Bad
unfolding measured_at or_bad
skip_other members bytes mid v e a b = rw (e, other_index v a b) refl

pub first_member : (s u : Schema) → CarriedMembersOf (s ∷ u ∷ []) → IsNull s ⊎ (Carried s × IsNoUnion s)
first_member s u (inl h) = inl h.0
first_member s u (inr h) = inr (h.0, h.1)

pub second_member : (s u : Schema) → CarriedMembersOf (s ∷ u ∷ []) → IsNull u ⊎ (Carried u × IsNoUnion u)
second_member s u (inl h) = inr (h.1, h.2)
second_member s u (inr h) = inl h.2

pub two_of : {A : Type 0} (xs : List A) (a b : A) → 2 ≤ length xs → length xs < 3 → a ≡ get_or xs 0 a → b ≡ get_or xs 1 b → xs ≡ a ∷ b ∷ []
two_of [] a b le lt e d = absurd (omega (arith, le))
two_of (x ∷ []) a b le lt e d = absurd (omega (arith, le))
two_of (x ∷ y ∷ []) a b le lt e d = rw (e, d) refl
two_of (x ∷ y ∷ z ∷ more) a b le lt e d = absurd (omega (arith, lt))

pub members_size : (ms : List Schema) (a b : Schema) → ms ≡ a ∷ b ∷ [] → (the_size a ≤ most the_size ms) × (the_size b ≤ most the_size ms)
members_size ms a b e = subst (λ (xs : List Schema). (the_size a ≤ most the_size xs) × (the_size b ≤ most the_size xs)) (sym e) (at_most the_size (a ∷ b ∷ []) 0 a (omega arith), at_most the_size (a ∷ b ∷ []) 1 b (omega arith))

-- ---- a value's arms

module _ (s : Schema) (ms xs : List Schema) (e : s ≡ Union ms) (x : xs ≡ ms) where
  pub union_carried : Carried s → CarriedMembersOf xs
  union_carried h = subst CarriedMembersOf (sym x) (moved (carried_union ms) (subst Carried e h))

  pub union_passes : {X Y : Type 0} (rest : X → List ℕ) (shown calls : X → ℕ) (y z : X) (r : Result Y SkipFault) (bytes : List ℕ) → Passes rest shown calls y z r (skip_union_of xs bytes) → Passes rest shown calls y z r (skip s bytes)
  union_passes rest shown calls y z r bytes h =
      subst (λ (f : Parser Passed). Passes rest shown calls y z r (f bytes)) (ap skip_union_of x ∙ sym (skip_union ms) ∙ ap skip (sym e)) h

module _ (s item i : Schema) (e : s ≡ Array item) (x : i ≡ item) where
  pub array_carried : Carried s → Carried i
  array_carried h = subst Carried (sym x) (moved (carried_array item) (subst Carried e h))

  pub array_passes : {X Y : Type 0} (rest : X → List ℕ) (shown calls : X → ℕ) (y z : X) (r : Result Y SkipFault) (bytes : List ℕ) → Passes rest shown calls y z r (skip_array (skip i) bytes) → Passes rest shown calls y z r (skip s bytes)
  array_passes rest shown calls y z r bytes h =
      subst (λ (f : Parser Passed). Passes rest shown calls y z r (f bytes)) (ap (λ (q : Schema). skip_array (skip q)) x ∙ sym (skip_array_is item) ∙ ap skip (sym e)) h

module _ (s : Schema) (d : TheRecord) (fs : List AvroField) (e : s ≡ Record d) (x : fs ≡ (out-Record d).fields) where
  pub record_carried : Carried s → CarriedFieldsOf fs
  record_carried h = subst CarriedFieldsOf (sym x) ((carried_record d).0 (subst Carried e h))

  record_is : (bytes : List ℕ) → skip s bytes ≡ skip_fields_of fs nothing bytes
  record_is bytes = ap (λ (t : Schema). skip t bytes) e ∙ ap (λ (f : Parser Passed). f bytes) (skip_fields_are d) ∙ ap (λ (gs : List AvroField). skip_fields_of gs nothing bytes) (sym x)

  pub record_passes : {X Y : Type 0} (rest : X → List ℕ) (shown calls : X → ℕ) (y z : X) (r : Result Y SkipFault) (bytes : List ℕ) → PassesMore rest shown calls y z r (λ before. skip_fields_of fs before bytes) → Passes rest shown calls y z r (skip s bytes)
  record_passes rest shown calls y z (Ok w) bytes h = (h.0, record_is bytes ∙ h.1 nothing ∙ ap (λ (p : Passed). Ok (p, rest z)) (nothing-both h.0), h.2)
  record_passes rest shown calls y z (Err f) bytes h = record_is bytes ∙ h nothing

pub record_shorter : {Y : Type 0} (r : Result Y SkipFault) (a b n : ℕ) → 0 < n → OnOk r (a + n ≤ b) → OnOk r (a < b)
record_shorter (Ok w) a b n some h = omega (arith, some, h)
record_shorter (Err f) a b n some h = tt
