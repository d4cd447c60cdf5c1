-- The members of a union of null and another: which of them stands at an index, and that neither is a union.
use Rattle.std.proofs.Common.{◌≡◌, ℕ, ℤ, pos, negsuc, zero, suc, Bool, true, false, List, [], ◌∷◌, Some, None, Result, refl, subst, inl, inr}
use Rattle.std.specs.Prelude.{if◌then◌else◌}
use Rattle.arrow_core.specs.declared.slot.Slot.{Slot}
use Rattle.arrow_builders.specs.Shapes.{Shape}
use Rattle.avro_schema.specs.declared.schema.Schema.{Schema, Null as NullSchema}
use Rattle.avro_schema.specs.Carried.{IsNoUnion}
use Rattle.avro_schema.specs.Encodes.{IsNull}
use Rattle.avro_reference.specs.Read.{push_one}
use Rattle.avro_flat.specs.Decoding.{Gives}
use Rattle.avro_flat.specs.declared.fault.DecodeFault.{DecodeFault}
use Rattle.avro_decode.specs.Decoding.{null_or, null_at, pair_at}
use Rattle.avro_decode.specs.Growth.{SuitsPair}

pair_is : (v : ℤ) (first null : Bool) (s : Schema) (bytes : List ℕ) → null_at v first ≡ Some null → pair_at v first s bytes ≡ null_or null s bytes
pair_is (pos zero) first null s bytes e = let q : first ≡ null = cc in rw q refl
pair_is (pos (suc zero)) first null s bytes e = let q : (if first then false else true) ≡ null = cc in rw q refl
pair_is (pos (suc (suc n))) first null s bytes e = absurd cc
pair_is (negsuc n) first null s bytes e = absurd cc

no_pair : (v : ℤ) (first : Bool) (s : Schema) (bytes : List ℕ) → null_at v first ≡ None → pair_at v first s bytes ≡ None
no_pair (pos zero) first s bytes e = absurd cc
no_pair (pos (suc zero)) first s bytes e = absurd cc
no_pair (pos (suc (suc n))) first s bytes e = refl
no_pair (negsuc n) first s bytes e = refl

pub null_at_other : (v : ℤ) (first : Bool) → (v ≡ pos 0 → ⊥) → (v ≡ pos 1 → ⊥) → null_at v first ≡ None
null_at_other (pos zero) first a b = absurd (a refl)
null_at_other (pos (suc zero)) first a b = absurd (b refl)
null_at_other (pos (suc (suc n))) first a b = refl
null_at_other (negsuc n) first a b = refl

-- what the member at an index gives, the union gives
pub pair_gives : {X : Type 0} (f : X → List Slot × List ℕ) (r : Result X DecodeFault) (old : List Slot) (v : ℤ) (first null : Bool) (s : Schema) (bytes : List ℕ) → null_at v first ≡ Some null → Gives f r (push_one old (null_or null s bytes)) → Gives f r (push_one old (pair_at v first s bytes))
pair_gives f r old v first null s bytes e h = rw (pair_is v first null s bytes e) h

pub pair_bad : (old : List Slot) (v : ℤ) (first : Bool) (s : Schema) (bytes : List ℕ) → null_at v first ≡ None → push_one old (pair_at v first s bytes) ≡ None
unfolding push_one
pair_bad old v first s bytes e = rw (no_pair v first s bytes e) refl

null_no_union : (s : Schema) → IsNull s → IsNoUnion s
null_no_union NullSchema h = tt
null_no_union _ h = absurd h

pub second_no_union : (ms : List Schema) (a b : Schema) (sh : Shape) → ms ≡ a ∷ b ∷ [] → IsNull a → SuitsPair ms sh → IsNoUnion b
second_no_union ms a b sh e n h = from (subst (λ (xs : List Schema). SuitsPair xs sh) e h)
  where
    from : SuitsPair (a ∷ b ∷ []) sh → IsNoUnion b
    from (inl k) = k.2
    from (inr k) = null_no_union b k.2

pub first_no_union : (ms : List Schema) (a b : Schema) (sh : Shape) → ms ≡ a ∷ b ∷ [] → (IsNull a → ⊥) → SuitsPair ms sh → IsNoUnion a
first_no_union ms a b sh e n h = from (subst (λ (xs : List Schema). SuitsPair xs sh) e h)
  where
    from : SuitsPair (a ∷ b ∷ []) sh → IsNoUnion a
    from (inl k) = absurd (n k.0)
    from (inr k) = k.1
