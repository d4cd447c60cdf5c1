-- What `split_once` gives of numbers in parentheses.
use Rattle.std.proofs.Common.{◌≡◌, ℕ, List, [], ◌∷◌, ◌++◌, length, codes, ◌⊎◌, inl, inr, Some, sym, ap, ◌∙◌, refl, arith, subst}
use Rattle.std.proofs.lemmas.List.{append_cancel_right}
use Rattle.avro_schema.specs.declared.schema.Schema.{Schema, Bytes}
use Rattle.avro_schema.specs.declared.schema.BytesLogical.TheVariants as bytes_logical
use Rattle.avro_schema.specs.declared.schema.FixedLogical.TheVariants as fixed_logical
use Rattle.avro_schema.specs.TypeExamples.{fixed_of}
use Rattle.cli_words.specs.Names.{IsSize}
use Rattle.cli_words.specs.Types.{AreDigits, IsFixed, IsDecimal, IsSized}
use Rattle.cli_words.proofs.Bytes.{Lacks, size_lacks, name_lacks, holds, one_cut}

-- ---- decimals

-- without a comma there is no decimal
pub no_comma : (numbers : List ℕ) → Lacks 44 numbers → (s : Schema) → IsDecimal numbers s → ⊥
no_comma numbers lacks s (inl (p, q, precision, scale, d, is, n)) = holds 44 p q (subst (Lacks 44) is lacks)
no_comma numbers lacks s (inr (p, q, n, precision, scale, size, d, z, is, m)) = holds 44 p (q ++ (44 ∷ n)) (subst (Lacks 44) is lacks)

pub two_numbers : (numbers p q : List ℕ) (s : Schema) → numbers ≡ p ++ (44 ∷ q)
    → (precision : ℕ) × (scale : ℕ) × AreDigits p q precision scale × (s ≡ Bytes (Some (bytes_logical.Decimal precision scale))) → IsDecimal numbers s
two_numbers numbers p q s is (precision, scale, d, e) = inl (p, q, precision, scale, d, is, e)

pub three_numbers : (numbers p rest q n : List ℕ) (s : Schema) → numbers ≡ p ++ (44 ∷ rest) → rest ≡ q ++ (44 ∷ n)
    → (precision : ℕ) × (scale : ℕ) × (size : ℕ) × AreDigits p q precision scale × IsSize n size × (s ≡ fixed_of size (Some (fixed_logical.Decimal precision scale))) → IsDecimal numbers s
three_numbers numbers p rest q n s is more (precision, scale, size, d, z, e) = inr (p, q, n, precision, scale, size, d, z, is ∙ ap (λ w. p ++ (44 ∷ w)) more, e)

pub no_two : (numbers p q : List ℕ) → numbers ≡ p ++ (44 ∷ q) → Lacks 44 p → Lacks 44 q
    → ((precision : ℕ) (scale : ℕ) → AreDigits p q precision scale → ⊥) → (s : Schema) → IsDecimal numbers s → ⊥
no_two numbers p q is lacks also none s (inl (a, b, precision, scale, d, e, n)) =
    let same = one_cut 44 p a q b lacks (size_lacks a precision d.0) (sym is ∙ e) in
    none precision scale (subst (λ z. AreDigits z q precision scale) (sym same.0) (subst (λ z. AreDigits a z precision scale) (sym same.1) d))
no_two numbers p q is lacks also none s (inr (a, b, n, precision, scale, size, d, z, e, m)) =
    let same = one_cut 44 p a q (b ++ (44 ∷ n)) lacks (size_lacks a precision d.0) (sym is ∙ e) in
    holds 44 b n (subst (Lacks 44) same.1 also)

pub no_three : (numbers p rest q n : List ℕ) → numbers ≡ p ++ (44 ∷ rest) → rest ≡ q ++ (44 ∷ n) → Lacks 44 p → Lacks 44 q
    → ((precision : ℕ) (scale : ℕ) (size : ℕ) → AreDigits p q precision scale → IsSize n size → ⊥) → (s : Schema) → IsDecimal numbers s → ⊥
no_three numbers p rest q n is more lacks also none s (inl (a, b, precision, scale, d, e, m)) =
    let same = one_cut 44 p a rest b lacks (size_lacks a precision d.0) (sym is ∙ e) in
    holds 44 q n (subst (Lacks 44) (sym same.1 ∙ more) (size_lacks b scale d.1))
no_three numbers p rest q n is more lacks also none s (inr (a, b, m, precision, scale, size, d, z, e, k)) =
    let same = one_cut 44 p a rest (b ++ (44 ∷ m)) lacks (size_lacks a precision d.0) (sym is ∙ e) in
    let further = one_cut 44 q b n m also (size_lacks b scale d.1) (sym more ∙ same.1) in
    none precision scale size (subst (λ w. AreDigits w q precision scale) (sym same.0) (subst (λ w. AreDigits a w precision scale) (sym further.0) d)) (subst (λ w. IsSize w size) (sym further.1) z)

-- ---- numbers in parentheses

fixed_lacks : Lacks 40 (codes "fixed")
fixed_lacks = name_lacks 40 (codes "fixed") refl refl

decimal_lacks : Lacks 40 (codes "decimal")
decimal_lacks = name_lacks 40 (codes "decimal") refl refl

pub no_parenthesis : (word : List ℕ) → Lacks 40 word → (s : Schema) → IsSized (word ++ (41 ∷ [])) s → ⊥
no_parenthesis word lacks s (text, inl (f, is)) = holds 40 (codes "fixed") text (subst (Lacks 40) (append_cancel_right word (codes "fixed(" ++ text) (41 ∷ []) is) lacks)
no_parenthesis word lacks s (text, inr (d, is)) = holds 40 (codes "decimal") text (subst (Lacks 40) (append_cancel_right word (codes "decimal(" ++ text) (41 ∷ []) is) lacks)

pub sized_parts : (word kind numbers : List ℕ) (s : Schema) → word ≡ kind ++ (40 ∷ numbers) → Lacks 40 kind → IsSized (word ++ (41 ∷ [])) s
    → ((kind ≡ codes "fixed") × IsFixed numbers s) ⊎ ((kind ≡ codes "decimal") × IsDecimal numbers s)
sized_parts word kind numbers s at lacks (text, inl (f, is)) =
    let same = one_cut 40 kind (codes "fixed") numbers text lacks fixed_lacks (sym at ∙ append_cancel_right word (codes "fixed(" ++ text) (41 ∷ []) is) in
    inl (same.0, subst (λ z. IsFixed z s) (sym same.1) f)
sized_parts word kind numbers s at lacks (text, inr (d, is)) =
    let same = one_cut 40 kind (codes "decimal") numbers text lacks decimal_lacks (sym at ∙ append_cancel_right word (codes "decimal(" ++ text) (41 ∷ []) is) in
    inr (same.0, subst (λ z. IsDecimal z s) (sym same.1) d)

pub fixed_is : (word kind numbers : List ℕ) (s : Schema) → word ≡ kind ++ (40 ∷ numbers) → kind ≡ codes "fixed" → IsFixed numbers s → IsSized (word ++ (41 ∷ [])) s
fixed_is word kind numbers s at is f = (numbers, inl (f, ap (λ z. z ++ (41 ∷ [])) (at ∙ ap (λ z. z ++ (40 ∷ numbers)) is)))

pub decimal_is : (word kind numbers : List ℕ) (s : Schema) → word ≡ kind ++ (40 ∷ numbers) → kind ≡ codes "decimal" → IsDecimal numbers s → IsSized (word ++ (41 ∷ [])) s
decimal_is word kind numbers s at is d = (numbers, inr (d, ap (λ z. z ++ (41 ∷ [])) (at ∙ ap (λ z. z ++ (40 ∷ numbers)) is)))

other_kind : codes "fixed" ≡ codes "decimal" → ⊥
other_kind e = let same : 5 ≡ 7 = ap length e in omega (arith, same)

pub not_fixed : (word kind numbers : List ℕ) → word ≡ kind ++ (40 ∷ numbers) → Lacks 40 kind → kind ≡ codes "fixed" → ((s : Schema) → IsFixed numbers s → ⊥) → (s : Schema) → IsSized (word ++ (41 ∷ [])) s → ⊥
not_fixed word kind numbers at lacks is none s h = from (sized_parts word kind numbers s at lacks h)
  where
    from : ((kind ≡ codes "fixed") × IsFixed numbers s) ⊎ ((kind ≡ codes "decimal") × IsDecimal numbers s) → ⊥
    from (inl f) = none s f.1
    from (inr d) = other_kind (sym is ∙ d.0)

pub not_decimal : (word kind numbers : List ℕ) → word ≡ kind ++ (40 ∷ numbers) → Lacks 40 kind → kind ≡ codes "decimal" → ((s : Schema) → IsDecimal numbers s → ⊥) → (s : Schema) → IsSized (word ++ (41 ∷ [])) s → ⊥
not_decimal word kind numbers at lacks is none s h = from (sized_parts word kind numbers s at lacks h)
  where
    from : ((kind ≡ codes "fixed") × IsFixed numbers s) ⊎ ((kind ≡ codes "decimal") × IsDecimal numbers s) → ⊥
    from (inl f) = other_kind (sym f.0 ∙ is)
    from (inr d) = none s d.1

pub not_sized : (word kind numbers : List ℕ) → word ≡ kind ++ (40 ∷ numbers) → Lacks 40 kind → (kind ≡ codes "fixed" → ⊥) → (kind ≡ codes "decimal" → ⊥) → (s : Schema) → IsSized (word ++ (41 ∷ [])) s → ⊥
not_sized word kind numbers at lacks not_one not_other s h = from (sized_parts word kind numbers s at lacks h)
  where
    from : ((kind ≡ codes "fixed") × IsFixed numbers s) ⊎ ((kind ≡ codes "decimal") × IsDecimal numbers s) → ⊥
    from (inl f) = not_one f.0
    from (inr d) = not_other d.0
