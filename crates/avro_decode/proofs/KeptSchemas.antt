-- What holds of each kept field, or of its schema, one field at a time.
use Rattle.std.proofs.Common.{◌≡◌, ◌∙◌, ◌⊎◌, inl, inr, ◌+◌, ℕ, ◌<◌, ◌≤◌, Bool, true, false, List, length, get_or, All, sym, ap, subst, arith}
use Rattle.std.proofs.lemmas.Bool.{cases_lt}
use Rattle.std.proofs.lemmas.List.{get_or_default}
use Rattle.avro_schema.specs.declared.schema.AvroField.{AvroField}
use Rattle.avro_schema.specs.declared.schema.Schema.{Schema}
use Rattle.avro_schema.specs.ValidBlock.{kept}
use Rattle.avro_schema.proofs.KeptLemmas.{kept_by_index}

-- P holds of the kept ones before an index
abbrev pub KeptSoFar : {A : Type 0} → (A → Type 0) → List A → List Bool → ℕ → Type 0
KeptSoFar {A} P xs projection i = (k : ℕ) (d : A) → k < i → get_or projection k false ≡ true → P (get_or xs k d)

-- the same of the schemas of fields
abbrev pub HoldsSoFar : (Schema → Type 0) → List AvroField → List Bool → ℕ → Type 0
HoldsSoFar P fields projection i = (k : ℕ) (d : AvroField) → k < i → get_or projection k false ≡ true → P (get_or fields k d).schema

module _ {A : Type 0} (P : A → Type 0) (xs : List A) (projection : List Bool) where
  pub kept_next : (i : ℕ) (a : A) → i < length xs → (get_or projection i false ≡ true → P (get_or xs i a)) → KeptSoFar P xs projection i → KeptSoFar P xs projection (i + 1)
  kept_next i a lt here before k d le e = from (cases_lt k i)
    where
      from : (k < i) ⊎ (i ≤ k) → P (get_or xs k d)
      from (inl less) = before k d less e
      from (inr ge) =
          let same : k ≡ i = omega (arith, ge, le) in
          let x : get_or xs k d ≡ get_or xs i a = ap (λ j. get_or xs j d) same ∙ get_or_default xs i d a lt in
          subst P (sym x) (here (ap (λ j. get_or projection j false) (sym same) ∙ e))

  pub kept_all : (i : ℕ) → length xs ≤ i → KeptSoFar P xs projection i → All P (kept xs projection)
  kept_all i le h = (kept_by_index P xs projection).1 (λ k d lt e. h k d (omega (arith, lt, le)) e)

  pub kept_there : (i : ℕ) (a : A) → i < length xs → All P (kept xs projection) → get_or projection i false ≡ true → P (get_or xs i a)
  kept_there i a lt h e = (kept_by_index P xs projection).0 h i a lt e

module _ (P : Schema → Type 0) (fields : List AvroField) (projection : List Bool) where
  pub holds_all : (i : ℕ) → length fields ≤ i → HoldsSoFar P fields projection i → All (λ a. P a.schema) (kept fields projection)
  holds_all i le h = kept_all (λ a. P a.schema) fields projection i le h

  pub holds_there : (i : ℕ) (a : AvroField) → i < length fields → All (λ x. P x.schema) (kept fields projection) → get_or projection i false ≡ true → P (get_or fields i a).schema
  holds_there i a lt h e = kept_there (λ x. P x.schema) fields projection i a lt h e
