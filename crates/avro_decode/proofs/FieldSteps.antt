-- Steps: whether one is that of a schema, and what the member beside null is.
use Rattle.std.proofs.Common.{◌≡◌, ◌∙◌, ℕ, ℤ, ◌+◌, ◌<◌, ◌⊎◌, Bool, true, false, List, [], ◌∷◌, ◌++◌, length, get_or, set, Some, Result, Ok, Err, refl, sym, ap, subst, inl, inr, arith}
use Rattle.std.specs.Prelude.{All, OnOk, OnErr, IfErr, IsTrue}
use Rattle.std.proofs.lemmas.Bool.{cases_eq}
use Rattle.std.proofs.lemmas.List.{get_or-set_same, get_or-set_other, get_or_default}
use Rattle.arrow_core.specs.declared.error.Error.{Error}
use Rattle.arrow_core.specs.declared.slot.Slot.{Slot}
use Rattle.arrow_core.specs.declared.slot.Slot.TheVariants as slot
use Rattle.arrow_builders.specs.Shapes.{Shape}
use Rattle.avro_schema.specs.declared.schema.AvroField.{AvroField}
use Rattle.avro_schema.specs.declared.schema.Schema.{Schema, Union, Union'}
use Rattle.avro_schema.specs.declared.schema.Schema.TheBlock.{shape-the_row-Schema-1, hidden-the_row-Schema-1}
use Rattle.avro_schema.specs.Carried.{IsNoUnion}
use Rattle.avro_reference.specs.Listed.{read_union_of}
use Rattle.avro_reference.specs.Prefix.{number_at}
use Rattle.avro_reference.specs.Read.{push_one}
use Rattle.avro_flat.specs.Decoding.{Gives}
use Rattle.avro_flat.specs.declared.fault.DecodeFault.{DecodeFault}
use Rattle.avro_flat.specs.declared.fault.DecodeFault.TheVariants.{Memory}
use Rattle.avro_decode.specs.Decoding.{null_or, pair_at}
use Rattle.avro_decode.specs.Growth.{SuitsPair, mask_pair}
use Rattle.avro_decode.specs.Masks.{mask}
use Rattle.avro_decode.specs.Steps.{IsOfKind, AreOfKind, StepFits, PairFits, PairStepFits, other_member, StepsFit}
use Rattle.avro_decode.specs.Suits.{Suits}
use Rattle.avro_decode.specs.declared.steps.Kind.{Kind}
use Rattle.avro_decode.specs.declared.steps.Kind.TheVariants as kind
use Rattle.avro_decode.specs.declared.steps.Step.{Step}
use Rattle.avro_decode.specs.declared.steps.Step.TheVariants.{Plain, Nullable}
use Rattle.avro_decode.proofs.Members.{first_gives, second_gives, suits_first, suits_second}

pub fits_union : (null_first : Bool) (k : Kind) (members : List Schema) → StepFits (Nullable null_first k) (Union members) ≡ PairFits null_first k members
unfolding shape-the_row-Schema-1 hidden-the_row-Schema-1 denote.Hole.Carrier.hidden
fits_union null_first k [] = refl
fits_union null_first k (a ∷ []) = refl
fits_union null_first k (a ∷ b ∷ []) = refl
fits_union null_first k (a ∷ b ∷ c ∷ more) = refl

-- the step of a union's members is that of the union
pub union_step : (s : Schema) (ms xs : List Schema) (step : Step) → s ≡ Union ms → xs ≡ ms → PairStepFits step xs → StepFits step s
union_step s ms xs (Plain kind.Any) e x h = tt
union_step s ms xs (Plain kind.Boolean) e x h = absurd h
union_step s ms xs (Plain kind.Int) e x h = absurd h
union_step s ms xs (Plain kind.Long) e x h = absurd h
union_step s ms xs (Plain kind.String) e x h = absurd h
union_step s ms xs (Nullable null_first k) e x h =
    subst (StepFits (Nullable null_first k)) (sym e) (subst (λ (P : Type 0). P) (sym (fits_union null_first k ms)) (subst (PairFits null_first k) x h))

-- and the other way round
pub union_pair : (s : Schema) (ms xs : List Schema) (null_first : Bool) (k : Kind) → s ≡ Union ms → xs ≡ ms → StepFits (Nullable null_first k) s → PairFits null_first k xs
union_pair s ms xs null_first k e x h =
    subst (PairFits null_first k) (sym x) (subst (λ (P : Type 0). P) (fits_union null_first k ms) (subst (StepFits (Nullable null_first k)) e h))

pub pair_step : (ms : List Schema) (a b : Schema) (null_first : Bool) (k : Kind) → ms ≡ a ∷ b ∷ [] → AreOfKind null_first k a b → PairFits null_first k ms
pair_step ms a b null_first k e h = subst (PairFits null_first k) (sym e) h

-- the two members of a step that fits
pub pair_two : (null_first : Bool) (k : Kind) (ms : List Schema) → PairFits null_first k ms → length ms ≡ 2
pair_two null_first k [] h = absurd h
pair_two null_first k (a ∷ []) h = absurd h
pair_two null_first k (a ∷ b ∷ []) h = refl
pair_two null_first k (a ∷ b ∷ c ∷ more) h = absurd h

pub no_step : (s : Schema) (null_first : Bool) (k : Kind) → IsNoUnion s → StepFits (Nullable null_first k) s → ⊥
no_step (Union' p members) null_first k u h = absurd u
no_step _ null_first k u h = absurd h

-- the member beside null of a step that fits
module _ (null_first : Bool) (k : Kind) (ms : List Schema) (s : Schema) (e : s ≡ other_member null_first ms) (h : PairFits null_first k ms) where
  pub other_fits : IsOfKind k s
  other_fits = subst (IsOfKind k) (sym e) (from null_first ms h)
    where
      from : (b : Bool) (xs : List Schema) → PairFits b k xs → IsOfKind k (other_member b xs)
      from b [] f = absurd f
      from b (x ∷ []) f = absurd f
      from true (x ∷ y ∷ []) f = f.1
      from false (x ∷ y ∷ []) f = f.1
      from b (x ∷ y ∷ z ∷ more) f = absurd f

  pub other_suits : (sh : Shape) → SuitsPair ms sh → Suits s sh × (mask_pair ms ≡ mask true s)
  other_suits sh u = subst (λ (x : Schema). Suits x sh × (mask_pair ms ≡ mask true x)) (sym e) (from null_first ms h u)
    where
      from : (b : Bool) (xs : List Schema) → PairFits b k xs → SuitsPair xs sh → Suits (other_member b xs) sh × (mask_pair xs ≡ mask true (other_member b xs))
      from b [] f v = absurd f
      from b (x ∷ []) f v = absurd f
      from true (x ∷ y ∷ []) f v = let r = suits_first (x ∷ y ∷ []) x y sh refl f.0 v in (r.0, r.1)
      from false (x ∷ y ∷ []) f v = let r = suits_second (x ∷ y ∷ []) x y sh refl f.0 v in (r.0, r.1)
      from b (x ∷ y ∷ z ∷ more) f v = absurd f

  pub other_gives : {X : Type 0} (view : X → List Slot × List ℕ) (r : Result X DecodeFault) (sh : Shape) (old : List Slot) (bytes mid : List ℕ) (v : ℤ) → SuitsPair ms sh → number_at bytes ≡ Some (v, mid) → Gives view r (push_one old (pair_at v null_first s mid)) → Gives view r (push_one old (read_union_of ms bytes))
  other_gives view r sh old bytes mid v u n g = from null_first ms h u (subst (λ (x : Schema). Gives view r (push_one old (pair_at v null_first x mid))) e g)
    where
      from : (b : Bool) (xs : List Schema) → PairFits b k xs → SuitsPair xs sh → Gives view r (push_one old (pair_at v b (other_member b xs) mid)) → Gives view r (push_one old (read_union_of xs bytes))
      from b [] f w q = absurd f
      from b (x ∷ []) f w q = absurd f
      from true (x ∷ y ∷ []) f w q = let t = suits_first (x ∷ y ∷ []) x y sh refl f.0 w in first_gives view r (x ∷ y ∷ []) x y old bytes mid v refl n t.2 t.3 q
      from false (x ∷ y ∷ []) f w q = let t = suits_second (x ∷ y ∷ []) x y sh refl f.0 w in second_gives view r (x ∷ y ∷ []) x y old bytes mid v refl n t.2 t.3 q
      from b (x ∷ y ∷ z ∷ more) f w q = absurd f

-- ---- the steps of all fields

-- the first i steps are those of the fields
abbrev pub FitSoFar : ℕ → List Step → List AvroField → Type 0
FitSoFar n steps fields = (i : ℕ) (step : Step) (f : AvroField) → i < n → StepFits (get_or steps i step) (get_or fields i f).schema

pub fit_next : (n : ℕ) (steps : List Step) (fields : List AvroField) (step : Step) (f : AvroField) → n < length steps → n < length fields → f ≡ get_or fields n f → FitSoFar n steps fields → StepFits step f.schema → FitSoFar (n + 1) (set steps n step) fields
fit_next n steps fields step f ls lf is so h = λ i d x lt. from i d x lt (cases_eq i n)
  where
    from : (i : ℕ) (d : Step) (x : AvroField) → i < n + 1 → (i ≡ n) ⊎ (i ≡ n → ⊥) → StepFits (get_or (set steps n step) i d) (get_or fields i x).schema
    from i d x lt (inl e) =
        let a : get_or (set steps n step) i d ≡ step = ap (λ (j : ℕ). get_or (set steps n step) j d) e ∙ get_or-set_same steps n step d ls in
        let b : get_or fields i x ≡ f = ap (λ (j : ℕ). get_or fields j x) e ∙ get_or_default fields n x f lf ∙ sym is in
        subst (λ (t : Step). StepFits t (get_or fields i x).schema) (sym a) (subst (λ (y : AvroField). StepFits step y.schema) (sym b) h)
    from i d x lt (inr ne) =
        subst (λ (t : Step). StepFits t (get_or fields i x).schema) (sym (get_or-set_other steps n i step d ne)) (so i d x (omega (arith, lt, ne)))

-- the step at an index is that of the field there
pub fit_here : (steps : List Step) (fields : List AvroField) (i : ℕ) (step : Step) (f : AvroField) → StepsFit steps fields → i < length fields → f ≡ get_or fields i f → StepFits (get_or steps i step) f.schema
fit_here steps fields i step f h lt is = subst (λ (y : AvroField). StepFits (get_or steps i step) y.schema) (sym is) (h i step f lt)

-- ---- fields that are all kept

abbrev pub KeptSoFar : ℕ → List Bool → Type 0
KeptSoFar n projection = (i : ℕ) (d : Bool) → i < n → get_or projection i d ≡ true

pub kept_next : (n : ℕ) (projection : List Bool) → n < length projection → get_or projection n false ≡ true → KeptSoFar n projection → KeptSoFar (n + 1) projection
kept_next n projection ln is so = λ i d lt. from i d lt (cases_eq i n)
  where
    from : (i : ℕ) (d : Bool) → i < n + 1 → (i ≡ n) ⊎ (i ≡ n → ⊥) → get_or projection i d ≡ true
    from i d lt (inl e) = ap (λ (j : ℕ). get_or projection j d) e ∙ get_or_default projection n d false ln ∙ is
    from i d lt (inr ne) = so i d (omega (arith, lt, ne))

pub not_all_kept : (n : ℕ) (projection : List Bool) → n < length projection → get_or projection n false ≡ false → All IsTrue projection → ⊥
not_all_kept n projection lt is all = let kept : get_or projection n false ≡ true = all n false lt in absurd cc

-- ---- nulls

-- what is so of an Ok of the push is so of an Ok of what it is told as
pub on_pushed : {X : Type 0} (r : Result X DecodeFault) (a : Result (Unit {0}) Error) (P : Type 0) → OnOk r (OnErr a ⊥) → OnOk a P → OnOk r P
on_pushed (Ok x) (Ok y) P ok h = h
on_pushed (Ok x) (Err y) P ok h = absurd ok
on_pushed (Err d) a P ok h = tt

pub on_given : {X : Type 0} (r : Result X DecodeFault) (P Q : Type 0) → OnOk r (P → Q) → P → OnOk r Q
on_given (Ok x) P Q h p = h p
on_given (Err d) P Q h p = tt

pub null_read : {X : Type 0} (r : Result X DecodeFault) (null : Bool) (s : Schema) (old new : List Slot) (bytes : List ℕ) → null ≡ true → IfErr r (λ e. e ≡ Memory) → OnOk r (new ≡ old ++ slot.Null ∷ []) → Gives (λ (_ : X). (new, bytes)) r (push_one old (null_or null s bytes))
unfolding push_one
null_read (Ok x) null s old new bytes e err h = rw (e, h) refl
null_read (Err d) null s old new bytes e err h = rw err tt
