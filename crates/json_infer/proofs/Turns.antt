-- One turn of the rules, by what the tests say.
use Rattle.std.proofs.Common.{◌≡◌, ap, ◌∙◌, List, [], ◌∷◌, Bool, true, false, cond}
use Rattle.arrow_core.specs.declared.types.DataType.{DataType}
use Rattle.arrow_core.specs.declared.types.DataType as data_type
use Rattle.json_infer.specs.Coercion.{all_same, all_structs, columns, of_two, coerce}
use Rattle.json_infer.proofs.Sizes.{coerce_is}

pub coerce_none : coerce [] ≡ data_type.Null
coerce_none = coerce_is []

pub coerce_same : (t : DataType) (ts : List DataType) → all_same t ts ≡ true → coerce (t ∷ ts) ≡ t
coerce_same t ts h = coerce_is (t ∷ ts) ∙ ap (λ (b : Bool). cond b t (cond (all_structs (t ∷ ts)) (data_type.Struct (columns coerce (t ∷ ts))) (of_two coerce t ts))) h

pub coerce_structs : (t : DataType) (ts : List DataType) → all_same t ts ≡ false → all_structs (t ∷ ts) ≡ true → coerce (t ∷ ts) ≡ data_type.Struct (columns coerce (t ∷ ts))
coerce_structs t ts h k = coerce_is (t ∷ ts) ∙ ap (λ (b : Bool). cond b t (cond (all_structs (t ∷ ts)) (data_type.Struct (columns coerce (t ∷ ts))) (of_two coerce t ts))) h
    ∙ ap (λ (b : Bool). cond b (data_type.Struct (columns coerce (t ∷ ts))) (of_two coerce t ts)) k

pub coerce_others : (t : DataType) (ts : List DataType) → all_same t ts ≡ false → all_structs (t ∷ ts) ≡ false → coerce (t ∷ ts) ≡ of_two coerce t ts
coerce_others t ts h k = coerce_is (t ∷ ts) ∙ ap (λ (b : Bool). cond b t (cond (all_structs (t ∷ ts)) (data_type.Struct (columns coerce (t ∷ ts))) (of_two coerce t ts))) h
    ∙ ap (λ (b : Bool). cond b (data_type.Struct (columns coerce (t ∷ ts))) (of_two coerce t ts)) k
