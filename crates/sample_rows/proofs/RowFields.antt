-- The fields of the rows, by their indexes.
use Rattle.std.proofs.Common.{◌≡◌, ◌∙◌, ℕ, zero, suc, ◌<◌, List, [], ◌∷◌, ◌++◌, length, get_or, refl, sym, ap, arith}
use Rattle.avro_schema.specs.declared.schema.AvroField.{AvroField}
use Rattle.sample_rows.specs.Fields.{row_fields, id_field, user_field, tags_field, ok_field}

pub four : (fields : List AvroField) → fields ≡ row_fields → length fields ≡ 4
unfolding row_fields
four fields e = ap length e

pub first : (fields : List AvroField) (f : AvroField) → fields ≡ row_fields → f ≡ get_or fields 0 f → f.schema ≡ id_field.schema
unfolding row_fields
first fields f e at = ap (λ (g : AvroField). g.schema) (at ∙ ap (λ (z : List AvroField). get_or z 0 f) e)

pub second : (fields : List AvroField) (f : AvroField) → fields ≡ row_fields → f ≡ get_or fields 1 f → f.schema ≡ user_field.schema
unfolding row_fields
second fields f e at = ap (λ (g : AvroField). g.schema) (at ∙ ap (λ (z : List AvroField). get_or z 1 f) e)

pub third : (fields : List AvroField) (f : AvroField) → fields ≡ row_fields → f ≡ get_or fields 2 f → f.schema ≡ tags_field.schema
unfolding row_fields
third fields f e at = ap (λ (g : AvroField). g.schema) (at ∙ ap (λ (z : List AvroField). get_or z 2 f) e)

pub fourth : (fields : List AvroField) (f : AvroField) → fields ≡ row_fields → f ≡ get_or fields 3 f → f.schema ≡ ok_field.schema
unfolding row_fields
fourth fields f e at = ap (λ (g : AvroField). g.schema) (at ∙ ap (λ (z : List AvroField). get_or z 3 f) e)

-- each of four has P
pub each_of_four : {X : Type 0} (P : X → Type 0) (a b c d : X) → P a → P b → P c → P d → (k : ℕ) (x : X) → k < length (a ∷ b ∷ c ∷ d ∷ []) → P (get_or (a ∷ b ∷ c ∷ d ∷ []) k x)
each_of_four P a b c d pa pb pc pd zero x l = pa
each_of_four P a b c d pa pb pc pd (suc zero) x l = pb
each_of_four P a b c d pa pb pc pd (suc (suc zero)) x l = pc
each_of_four P a b c d pa pb pc pd (suc (suc (suc zero))) x l = pd
each_of_four P a b c d pa pb pc pd (suc (suc (suc (suc k)))) x l = absurd (omega (arith, l))

pub below : (fields : List AvroField) → fields ≡ row_fields → (k : ℕ) → k < 4 → k < length fields
below fields e k l = omega (arith, four fields e, l)

-- four that are pushed one after another
pub pushed : (a b c d e : List AvroField) (w x y z : AvroField) → a ≡ [] → b ≡ a ++ w ∷ [] → c ≡ b ++ x ∷ [] → d ≡ c ++ y ∷ [] → e ≡ d ++ z ∷ []
    → w ≡ id_field → x ≡ user_field → y ≡ tags_field → z ≡ ok_field → e ≡ row_fields
unfolding row_fields
pushed a b c d e w x y z none one two three all p q r s =
    let first : b ≡ w ∷ [] = one ∙ ap (λ (l : List AvroField). l ++ w ∷ []) none in
    let more : c ≡ w ∷ x ∷ [] = two ∙ ap (λ (l : List AvroField). l ++ x ∷ []) first in
    let most : d ≡ w ∷ x ∷ y ∷ [] = three ∙ ap (λ (l : List AvroField). l ++ y ∷ []) more in
    let whole : e ≡ w ∷ x ∷ y ∷ z ∷ [] = all ∙ ap (λ (l : List AvroField). l ++ z ∷ []) most in
    whole ∙ (λ i. p i ∷ q i ∷ r i ∷ s i ∷ [])
