-- Rows in another order.
use Rattle.std.proofs.Common.{◌≡◌, refl, ap, subst, ◌∙◌, List, [], ◌∷◌, map, Bool, true, false, cond, ◌⊎◌, inl, inr}
use Rattle.arrow_core.specs.declared.types.DataType.{DataType}
use Rattle.arrow_core.specs.declared.types.DataType as data_type
use Rattle.json_tree.specs.declared.value.Value.{Value}
use Rattle.json_infer.specs.Lists.{distinct, Among, SameMembers}
use Rattle.json_infer.specs.Parts.{same}
use Rattle.json_infer.specs.UpToOrder.{SameUpToOrder}
use Rattle.json_infer.specs.Inferred.{kept, type_of, type_of_rows}
use Rattle.json_infer.proofs.Equality.{exact}
use Rattle.json_infer.proofs.ListLaws.{distinct_among, distinct_once}
use Rattle.json_infer.proofs.AnyOrder.{any_order}

-- a kept type is of a row
abbrev KeptOf : DataType → List Value → Type 0
KeptOf t rows = (v : Value) × (Among v rows × ((type_of v ≡ t) × (same t data_type.Null ≡ false)))

kept_step : (b : Bool) (u t : DataType) (us : List DataType) → same u data_type.Null ≡ b → Among t (cond b us (u ∷ us)) → ((u ≡ t) × (same t data_type.Null ≡ false)) ⊎ Among t us
kept_step true u t us e h = inr h
kept_step false u t us e (inl p) = inl (p, subst (λ (x : DataType). same x data_type.Null ≡ false) p e)
kept_step false u t us e (inr h) = inr h

step_kept : (b : Bool) (u t : DataType) (us : List DataType) → same u data_type.Null ≡ b → ((u ≡ t) × (same t data_type.Null ≡ false)) ⊎ Among t us → Among t (cond b us (u ∷ us))
step_kept true u t us e (inl p) = let q : same t data_type.Null ≡ true = subst (λ (x : DataType). same x data_type.Null ≡ true) p.0 e in let r : same t data_type.Null ≡ false = p.1 in cc
step_kept true u t us e (inr h) = h
step_kept false u t us e (inl p) = inl p.0
step_kept false u t us e (inr h) = inr h

kept_of : (t : DataType) (rows : List Value) → Among t (kept (map type_of rows)) → KeptOf t rows
kept_of t [] h = absurd h
kept_of t (v ∷ rows) h = elim (kept_step (same (type_of v) data_type.Null) (type_of v) t (kept (map type_of rows)) refl h) [
  | inl p ↦ (v, (inl refl, p))
  | inr k ↦ (let r = kept_of t rows k in (r.0, (inr r.1.0, r.1.1)))
]

of_kept : (t : DataType) (rows : List Value) (v : Value) → Among v rows → (type_of v ≡ t) × (same t data_type.Null ≡ false) → Among t (kept (map type_of rows))
of_kept t [] v h p = absurd h
of_kept t (w ∷ rows) v (inl e) p = step_kept (same (type_of w) data_type.Null) (type_of w) t (kept (map type_of rows)) refl (inl (ap type_of e ∙ p.0, p.1))
of_kept t (w ∷ rows) v (inr h) p = step_kept (same (type_of w) data_type.Null) (type_of w) t (kept (map type_of rows)) refl (inr (of_kept t rows v h p))

within : (rows others : List Value) → ((v : Value) → Among v rows → Among v others) → (t : DataType) → Among t (distinct same (kept (map type_of rows))) → Among t (distinct same (kept (map type_of others)))
within rows others all t h =
    let r = kept_of t rows ((distinct_among same exact (kept (map type_of rows)) t).0 h) in
    (distinct_among same exact (kept (map type_of others)) t).1 (of_kept t others r.0 (all r.0 r.1.0) r.1.1)

pub rows_in_any_order : (rows others : List Value) → SameMembers rows others → SameUpToOrder (type_of_rows rows) (type_of_rows others)
rows_in_any_order rows others s =
    any_order (distinct same (kept (map type_of rows))) (distinct same (kept (map type_of others))) (distinct_once same exact (kept (map type_of rows))) (distinct_once same exact (kept (map type_of others)))
    (λ t. (within rows others (λ v. (s v).0) t, within others rows (λ v. (s v).1) t))
