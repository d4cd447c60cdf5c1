-- A serializer for each column.
use Rattle.std.proofs.Common.{◌≡◌, ◌∙◌, ℕ, zero, suc, ◌+◌, ◌<◌, ◌≤◌, List, [], ◌∷◌, ◌++◌, length, map, drop, get_or, Result, Ok, Err, refl, sym, ap, subst, arith, add-one, append_assoc}
use Rattle.std.specs.Prelude.{IfErr}
use Rattle.std.proofs.lemmas.Bool.{false≢true}
use Rattle.std.proofs.lemmas.List.{append-nil, length-map}
use Rattle.arrow_core.specs.declared.error.Error.{Error}
use Rattle.arrow_core.specs.declared.error.Error.TheVariants.{InvalidArgumentError, NotYetImplemented, OutOfMemory}
use Rattle.arrow_core.specs.declared.error.Reason.TheVariants as reason
use Rattle.arrow_array.specs.declared.array.Array.{Array}
use Rattle.arrow_array.specs.Arrays.{array_slots}
use Rattle.avro_schema.specs.declared.schema.AvroField.{AvroField}
use Rattle.avro_schema.specs.declared.schema.Schema.{Schema}
use Rattle.avro_encode.specs.Plain.{plain}
use Rattle.avro_write.specs.Flaws.{IsAccepted, IsRefused}
use Rattle.avro_write.specs.Serializing.{Serializing}
use Rattle.avro_canonical.specs.Columns.{AreAccepted, encodings}

pub accepted_length : (fields : List AvroField) (columns : List Array) → AreAccepted fields columns → length fields ≡ length columns
accepted_length [] [] h = refl
accepted_length [] (a ∷ columns) h = absurd h
accepted_length (f ∷ fields) [] h = absurd h
accepted_length (f ∷ fields) (a ∷ columns) h = ap suc (accepted_length fields columns h.1)

pub field_within : (fields : List AvroField) (columns : List Array) (k : ℕ) → AreAccepted fields columns → k < length columns → k < length fields
field_within fields columns k h l = omega (arith, accepted_length fields columns h, l)

pub accepted_at : (fields : List AvroField) (columns : List Array) (k : ℕ) (f : AvroField) (a : Array) → k < length columns → f ≡ get_or fields k f → a ≡ get_or columns k a → AreAccepted fields columns → IsAccepted f.schema a
accepted_at [] columns k f a l is at h = absurd (omega (arith, accepted_length [] columns h, l))
accepted_at (g ∷ fields) [] k f a l is at h = absurd h
accepted_at (g ∷ fields) (b ∷ columns) zero f a l is at h = subst (λ y. IsAccepted f.schema y) (sym at) (subst (λ (y : AvroField). IsAccepted y.schema b) (sym is) h.0)
accepted_at (g ∷ fields) (b ∷ columns) (suc k) f a l is at h = accepted_at fields columns k f a (omega (arith, l)) is at h.1

-- the only error of a column that is accepted is out of memory
pub only_memory : (s : Schema) (a : Array) (e : Error) → IsAccepted s a → IsRefused s a e → e ≡ OutOfMemory
only_memory s a (NotYetImplemented reason.SerializerPair) h r = absurd (r h.types)
only_memory s a (InvalidArgumentError reason.NullUnderRequired) h r = absurd (false≢true (sym h.nulls ∙ r.1))
only_memory s a (InvalidArgumentError reason.Interval) h r = absurd (false≢true (sym h.intervals ∙ r.2))
only_memory s a OutOfMemory h r = refl
only_memory s a _ h r = absurd r

module _ {X : Type 0} where
  drop_next : (xs : List X) (k : ℕ) (x : X) → k < length xs → x ≡ get_or xs k x → drop k xs ≡ x ∷ drop (suc k) xs
  drop_next [] k x l e = absurd (omega (arith, l))
  drop_next (y ∷ xs) zero x l e = ap (λ z. z ∷ xs) (sym e)
  drop_next (y ∷ xs) (suc k) x l e = drop_next xs k x (omega (arith, l)) e

  pub drop_at : (xs : List X) (k : ℕ) (x : X) → k < length xs → x ≡ get_or xs k x → drop k xs ≡ x ∷ drop (k + 1) xs
  drop_at xs k x l e = drop_next xs k x l e ∙ ap (λ n. x ∷ drop n xs) (sym (add-one k))

  pub none_left : (xs : List X) (k : ℕ) → length xs ≤ k → drop k xs ≡ []
  none_left [] zero l = refl
  none_left [] (suc k) l = refl
  none_left (x ∷ xs) zero l = absurd (omega (arith, l))
  none_left (x ∷ xs) (suc k) l = none_left xs k (omega (arith, l))

pub err_then : {A : Type 0} (P : Error → Type 0) (r : Result A Error) (e : Error) → r ≡ Err e → P e → IfErr r P
err_then P (Ok x) e q h = tt
err_then P (Err d) e q h = subst P (sym (same_error q)) h
  where
    same_error : {A : Type 0} {a b : Error} → ◌≡◌ {A = Result A Error} (Err a) (Err b) → a ≡ b
    same_error q = cc

abbrev left_of : Serializing → List (List ℕ)
left_of s = s.left

lefts_push : (done : List Serializing) (s : Serializing) → map left_of (done ++ s ∷ []) ≡ map left_of done ++ s.left ∷ []
lefts_push [] s = refl
lefts_push (d ∷ done) s = ap (λ (z : List (List (List ℕ))). d.left ∷ z) (lefts_push done s)

pub one_more : (fields : List AvroField) (columns : List Array) (k : ℕ) (f : AvroField) (a : Array) (done : List Serializing) (s : Serializing) (whole : List (List (List ℕ))) → AreAccepted fields columns → k < length columns → f ≡ get_or fields k f → a ≡ get_or columns k a
    → s.left ≡ map (plain f.schema) (array_slots a) → map left_of done ++ encodings (drop k fields) (map array_slots (drop k columns)) ≡ whole
    → map left_of (done ++ s ∷ []) ++ encodings (drop (k + 1) fields) (map array_slots (drop (k + 1) columns)) ≡ whole
one_more fields columns k f a done s whole h l is at left before =
    ap (λ (z : List (List (List ℕ))). z ++ encodings (drop (k + 1) fields) (map array_slots (drop (k + 1) columns))) (lefts_push done s)
    ∙ append_assoc (map left_of done) (s.left ∷ []) (encodings (drop (k + 1) fields) (map array_slots (drop (k + 1) columns)))
    ∙ ap (λ (z : List (List ℕ)). map left_of done ++ z ∷ encodings (drop (k + 1) fields) (map array_slots (drop (k + 1) columns))) left
    ∙ sym (λ i. map left_of done ++ encodings (drop_at fields k f (field_within fields columns k h l) is i) (map array_slots (drop_at columns k a l at i)))
    ∙ before

pub all_done : (fields : List AvroField) (columns : List Array) (k : ℕ) (done : List Serializing) (whole : List (List (List ℕ))) → AreAccepted fields columns → length columns ≤ k
    → map left_of done ++ encodings (drop k fields) (map array_slots (drop k columns)) ≡ whole → map left_of done ≡ whole
all_done fields columns k done whole h l before =
    sym (append-nil (map left_of done))
    ∙ sym (λ i. map left_of done ++ encodings (none_left fields k (omega (arith, accepted_length fields columns h, l)) i) (map array_slots (drop k columns)))
    ∙ before

-- each serializer has as many items left as its column has slots
pub as_many_left : (n : ℕ) (fields : List AvroField) (columns : List Array) (made : List Serializing) → length fields ≡ length columns → ((k : ℕ) (d : Array) → k < length columns → length (array_slots (get_or columns k d)) ≡ n) → map left_of made ≡ encodings fields (map array_slots columns)
    → (k : ℕ) (d : Serializing) → k < length made → length (get_or made k d).left ≡ n
as_many_left n fields columns [] e all is k d l = absurd (omega (arith, l))
as_many_left n [] columns (s ∷ made) e all is k d l = absurd (omega (arith, ap length is))
as_many_left n (f ∷ fields) [] (s ∷ made) e all is k d l = absurd (omega (arith, e))
as_many_left n (f ∷ fields) (a ∷ columns) (s ∷ made) e all is zero d l =
    ap length (first is) ∙ length-map (array_slots a) (plain f.schema) ∙ all 0 a (omega arith)
  where
    first : {x y : List (List ℕ)} {xs ys : List (List (List ℕ))} → x ∷ xs ≡ y ∷ ys → x ≡ y
    first q = cc
as_many_left n (f ∷ fields) (a ∷ columns) (s ∷ made) e all is (suc k) d l =
    as_many_left n fields columns made (omega (arith, e)) (λ j b less. all (suc j) b (omega (arith, less))) (rest is) k d (omega (arith, l))
  where
    rest : {x y : List (List ℕ)} {xs ys : List (List (List ℕ))} → x ∷ xs ≡ y ∷ ys → xs ≡ ys
    rest q = cc
