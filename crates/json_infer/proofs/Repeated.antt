-- Types that are given again play a part in the rule on more than two types alone.
use Rattle.std.proofs.Common.{◌≡◌, refl, sym, ap, subst, ◌∙◌, ℕ, ◌≤◌, ◌<◌, length, List, [], ◌∷◌, Bool, true, false, cond, ◌||◌, ◌&&◌, nat_lt, inl, inr, arith}
use Rattle.std.proofs.lemmas.Bool.Decides.{nat_tests}
use Rattle.arrow_core.specs.declared.types.DataType.{DataType}
use Rattle.arrow_core.specs.declared.types.DataType as data_type
use Rattle.json_infer.specs.declared.seen.Seen.{Seen}
use Rattle.json_infer.specs.declared.seen.Seen.TheVariants as seen
use Rattle.json_infer.specs.Lists.{distinct, Among}
use Rattle.json_infer.specs.Parts.{same}
use Rattle.json_infer.specs.Coercion.{all_same, all_structs, coerce}
use Rattle.json_infer.specs.Seen.{are_two, seen_after, result_of}
use Rattle.json_infer.proofs.Equality.{exact}
use Rattle.json_infer.proofs.ListLaws.{one_test, distinct_among}
use Rattle.json_infer.proofs.AnyOrder.{all_same_is, is_all_same, all_structs_is, is_all_structs}
use Rattle.json_infer.proofs.Folding.{absorbed}
use Rattle.json_infer.proofs.Keeping.{Stands, coerced_columns_of, all_stand, stands_result}
use Rattle.json_infer.proofs.Turns.{coerce_none, coerce_same, coerce_structs, coerce_others}

-- types that are all the same are one distinct type
one_distinct : (t : DataType) (us : List DataType) → all_same t us ≡ true → distinct same (t ∷ us) ≡ t ∷ []
one_distinct t us h = absorbed same exact (t ∷ []) us (λ u k. inl (all_same_is t us h u k))

-- where there are two distinct types or more, not all are the same
not_same : (t : DataType) (us : List DataType) → 2 ≤ length (distinct same (t ∷ us)) → (b : Bool) → all_same t us ≡ b → all_same t us ≡ false
not_same t us n true h = let e : length (distinct same (t ∷ us)) ≡ 1 = ap length (one_distinct t us h) in absurd (omega arith)
not_same t us n false h = h

structs_of_distinct : (ts : List DataType) → all_structs (distinct same ts) ≡ all_structs ts
structs_of_distinct ts = one_test (all_structs (distinct same ts)) (all_structs ts)
    (λ h. is_all_structs ts (λ u k. all_structs_is (distinct same ts) h u ((distinct_among same exact ts u).1 k)))
    (λ h. is_all_structs (distinct same ts) (λ u k. all_structs_is ts h u ((distinct_among same exact ts u).0 k)))

-- more than two types that are neither all the same nor all Structs
pub many_types : (ts : List DataType) → 2 ≤ length (distinct same ts) → all_structs (distinct same ts) ≡ false → 2 < length ts → coerce ts ≡ data_type.Utf8
many_types [] n k l = absurd (omega arith)
many_types (t ∷ []) n k l = absurd (omega arith)
many_types (t ∷ u ∷ []) n k l = absurd (omega arith)
many_types (t ∷ u ∷ v ∷ ts) n k l = coerce_others t (u ∷ v ∷ ts) (not_same t (u ∷ v ∷ ts) n (all_same t (u ∷ v ∷ ts)) refl) (sym (structs_of_distinct (t ∷ u ∷ v ∷ ts)) ∙ k)

-- two types are two distinct ones, or one
two_types : (t u : DataType) (b : Bool) → (same u t || false) ≡ b → distinct same (t ∷ u ∷ []) ≡ cond b (t ∷ []) (t ∷ u ∷ [])
two_types t u b h = ap (λ (c : Bool). cond c (t ∷ []) (t ∷ u ∷ [])) h

two_at_most : (t u : DataType) (b : Bool) → (same u t || false) ≡ b → length (distinct same (t ∷ u ∷ [])) ≤ 2
two_at_most t u true h = let e : length (distinct same (t ∷ u ∷ [])) ≡ 1 = ap length (two_types t u true h) in omega arith
two_at_most t u false h = let e : length (distinct same (t ∷ u ∷ [])) ≡ 2 = ap length (two_types t u false h) in omega arith

are_distinct : (t u : DataType) (b : Bool) → (same u t || false) ≡ b → 2 ≤ length (distinct same (t ∷ u ∷ [])) → distinct same (t ∷ u ∷ []) ≡ t ∷ u ∷ []
are_distinct t u true h n = let e : length (distinct same (t ∷ u ∷ [])) ≡ 1 = ap length (two_types t u true h) in absurd (omega arith)
are_distinct t u false h n = two_types t u false h

and_false_is : (b : Bool) → (b && false) ≡ true → ⊥
and_false_is true h = cc
and_false_is false h = cc

more_than_two : (n : ℕ) → (nat_lt 2 n && true) ≡ true → 2 < n
more_than_two n h = grind (arith, nat_tests, h)

-- the result for two distinct types, where no more are given
of_two_given : (s : Seen) (ts : List DataType) → Stands s ts → 2 ≤ length (distinct same ts) → length ts ≤ 2 → coerce ts ≡ result_of s
of_two_given s [] h n l = absurd (omega arith)
of_two_given s (t ∷ []) h n l = absurd (omega arith)
of_two_given s (t ∷ u ∷ []) h n l = ap coerce (sym (are_distinct t u (same u t || false) refl n)) ∙ stands_result s (t ∷ u ∷ []) h
of_two_given s (t ∷ u ∷ v ∷ ts) h n l = absurd (omega arith)

at_most_two : (n : ℕ) → (nat_lt 2 n && true) ≡ false → n ≤ 2
at_most_two n h = grind (arith, nat_tests, h)

of_none : (t : DataType) (us : List DataType) → distinct same (t ∷ us) ≡ [] → ⊥
of_none t us h = subst (λ (vs : List DataType). Among t vs) h ((distinct_among same exact (t ∷ us) t).1 (inl refl))

only : (a t : DataType) (us : List DataType) → distinct same (t ∷ us) ≡ a ∷ [] → (u : DataType) → Among u (t ∷ us) → a ≡ u
only a t us h u k = elim (subst (λ (vs : List DataType). Among u vs) h ((distinct_among same exact (t ∷ us) u).1 k)) [ inl p ↦ p | inr e ↦ absurd e ]

-- where it isn't that two distinct types repeat, what is kept tells the coercion
result_is : (s : Seen) (ts : List DataType) → Stands s ts → (nat_lt 2 (length ts) && are_two s) ≡ false → coerce ts ≡ result_of s
result_is seen.Nothing [] h k = coerce_none
result_is seen.Nothing (t ∷ us) h k = absurd (of_none t us h)
result_is (seen.One a) [] h k = cc
result_is (seen.One a) (t ∷ us) h k =
    let p : a ≡ t = only a t us h t (inl refl) in
    coerce_same t us (is_all_same t us (λ u j. sym p ∙ only a t us h u (inr j))) ∙ sym p
result_is (seen.Two a b) ts h k =
    let e : length (distinct same ts) ≡ 2 = ap length h.0 in
    of_two_given (seen.Two a b) ts h (omega arith) (at_most_two (length ts) k)
result_is (seen.Structs cs) [] h k = absurd (omega (arith, h.0))
result_is (seen.Structs cs) (t ∷ us) h k =
    coerce_structs t us (not_same t us h.0 (all_same t us) refl) (sym (structs_of_distinct (t ∷ us)) ∙ h.1) ∙ ap data_type.Struct (coerced_columns_of (t ∷ us) cs h.2)
result_is seen.Many ts h k = by_length ts h.0 h.1
  where
    by_length : (us : List DataType) → 3 ≤ length (distinct same us) → all_structs (distinct same us) ≡ false → coerce us ≡ data_type.Utf8
    by_length [] n m = absurd (omega arith)
    by_length (t ∷ []) n m = absurd (omega arith)
    by_length (t ∷ u ∷ []) n m = let e = two_at_most t u (same u t || false) refl in absurd (omega arith)
    by_length (t ∷ u ∷ v ∷ vs) n m = let l : 2 ≤ length (distinct same (t ∷ u ∷ v ∷ vs)) = omega arith in many_types (t ∷ u ∷ v ∷ vs) l m (omega arith)

pub coerced_result : (ts : List DataType) → (nat_lt 2 (length ts) && are_two (seen_after seen.Nothing ts)) ≡ false → coerce ts ≡ result_of (seen_after seen.Nothing ts)
coerced_result ts h = result_is (seen_after seen.Nothing ts) ts (all_stand ts) h

repeats : (s : Seen) (ts : List DataType) → Stands s ts → (nat_lt 2 (length ts) && are_two s) ≡ true → coerce ts ≡ data_type.Utf8
repeats seen.Nothing ts h k = absurd (and_false_is (nat_lt 2 (length ts)) k)
repeats (seen.One a) ts h k = absurd (and_false_is (nat_lt 2 (length ts)) k)
repeats (seen.Two a b) ts h k =
    let e : length (distinct same ts) ≡ 2 = ap length h.0 in
    many_types ts (omega arith) (ap all_structs h.0 ∙ h.1) (more_than_two (length ts) k)
repeats (seen.Structs cs) ts h k = absurd (and_false_is (nat_lt 2 (length ts)) k)
repeats seen.Many ts h k = absurd (and_false_is (nat_lt 2 (length ts)) k)

pub coerced_repeats : (ts : List DataType) → (nat_lt 2 (length ts) && are_two (seen_after seen.Nothing ts)) ≡ true → coerce ts ≡ data_type.Utf8
coerced_repeats ts h = repeats (seen_after seen.Nothing ts) ts (all_stand ts) h

-- two types, of which the second may be the first again
pub coerced_both : (t u : DataType) → coerce (t ∷ u ∷ []) ≡ result_of (seen_after seen.Nothing (t ∷ u ∷ []))
coerced_both t u = coerced_result (t ∷ u ∷ []) refl
