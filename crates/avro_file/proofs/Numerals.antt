-- The decimal numeral of a size, a precision or a scale is a JSON number, and is read as that number.
use Rattle.std.proofs.Common.{◌≡◌, inl, inr, ℕ, ◌≤◌, cond, List, [], ◌∷◌, Some, decimal, refl, sym, ap, ◌∙◌, append-nil, arith}
use Rattle.std.proofs.lemmas.Fmt.{decimal_is_IsNumeral}
use Rattle.json_tree.specs.Tree.{Json, number}
use Rattle.json_tree.specs.Grammar.{IsNumber, Encodes}
use Rattle.json_tree.specs.declared.value.Value.TheVariants as variant
use Rattle.json_tree.specs.declared.value.Number.TheVariants.{Integer, Float}
use Rattle.json_tree.proofs.Numerals.{decimal_is_numeral, is_integer}
use Rattle.json_tree.proofs.Points.{int-point}
use Rattle.avro_file.specs.Attributes.{count_of}
use Rattle.avro_file.proofs.Digits.{count_is_digits}
use Rattle.avro_file.proofs.JsonTexts.{of_scalar}
use Rattle.avro_file.proofs.Layers.{count_is}

-- the value of a numeral
abbrev pub counted : ℕ → Json
counted n = variant.Number (Integer (decimal n) [])

pub counted_encodes : (d n : ℕ) → n ≤ 2147483647 → Encodes d (counted n) (decimal n)
counted_encodes d n l =
    let s = is_integer n (decimal n) (decimal_is_numeral n (omega (arith, l))) in
    let is : IsNumber (decimal n) [] (decimal n) =
    ([], decimal n, [], [], inl refl, s, inl refl, inl (refl, refl), sym (append-nil (decimal n)), sym (append-nil (decimal n))) in
    let same : counted n ≡ number (decimal n) [] = ap (λ b. variant.Number (cond b (Float (decimal n) []) (Integer (decimal n) []))) (sym (int-point (decimal n) s)) in
    of_scalar d (counted n) (decimal n) (inr (inr (inr (inr (decimal n, [], is, same)))))

pub counted_is : (n : ℕ) → n ≤ 2147483647 → count_of (counted n) ≡ Some n
counted_is n l =
    let d = decimal_is_IsNumeral n (omega arith) in
    count_is (counted n) (Integer (decimal n) []) refl ∙ count_is_digits (decimal n) n d.0 d.1 l
