-- Signed numbers in 128 bits.
use mir.Syntax.{w128}
use mir.Val.{to_z, of_z}
use Rattle.std.proofs.Common.{◌≡◌, ℕ, ◌≤◌, ◌^◌, Bool, true, false, cond, refl, sym, ap, ◌∙◌, arith}
use Rattle.std.proofs.lemmas.Bool.{and_parts, true≢false}
use Rattle.std.proofs.lemmas.Int.{ints, to_z-of_z}
use Rattle.std.specs.Prelude.{ℤ, int_le, ◌&&◌, Option, Some, None, FitsSigned, List}
use Rattle.std.specs.Str.Parse.{digits_value, starts_with_minus, without_leading_sign}
use Rattle.std.specs.List.{list_any}
use Rattle.json_tree.specs.Tree.{has_point}
use Rattle.json_tree.specs.declared.value.Number.{Number}
use Rattle.json_tree.specs.declared.value.Number.TheVariants.{Integer, Float}
use Rattle.json_flat.specs.Parts.{IsMantissaOf}
use Rattle.json_flat.proofs.Splitting.{has-any}
use Rattle.json_flat.specs.declared.exponent.Exponent.{Exponent}
use Rattle.json_flat.specs.declared.mantissa.Mantissa.{Mantissa}
use Rattle.json_flat.specs.Whole.{is_point, number_value, scaled, signed, within, whole_value, whole_of, is_mantissa, is_exponent}

-- a magnitude of more than 128 bits
pub too-large : (negative : Bool) (n : ℕ) → 2 ^ 128 ≤ n → FitsSigned w128 (signed negative n) → ⊥
too-large true n big fits = omega (arith, ints, big, fits)
too-large false n big fits = omega (arith, ints, big, fits)

between : (low high v : ℤ) → FitsSigned w128 low → FitsSigned w128 high → int_le low v ≡ true → int_le v high ≡ true → FitsSigned w128 v
between low high v fl fh a b = grind (arith, ints, a, b, fl, fh)

outside : (low high v : ℤ) (b : Bool) → (b ≡ true → ⊥) → None ≡ cond b (Some v) None
outside low high v true bad = absurd (bad refl)
outside low high v false bad = refl

inside : (v : ℤ) (b : Bool) → b ≡ true → Some v ≡ cond b (Some v) None
inside v true e = refl
inside v false e = absurd (true≢false (sym e))

pub well-formed : (m e : List ℕ) → is_mantissa m ≡ true → is_exponent e ≡ true → whole_value m e ≡ Some (whole_of m e)
well-formed m e hm he = sym (inside (whole_of m e) (is_mantissa m && is_exponent e) (and-both (is_mantissa m) (is_exponent e) hm he))
  where
    and-both : (x y : Bool) → x ≡ true → y ≡ true → (x && y) ≡ true
    and-both true y h k = k
    and-both false y h k = h

pub unfit : (low high v : ℤ) → FitsSigned w128 low → FitsSigned w128 high → (FitsSigned w128 v → ⊥) → None ≡ within low high (Some v)
unfit low high v fl fh bad = outside low high v (int_le low v && int_le v high) (λ e. let p = and_parts (int_le low v) (int_le v high) e in bad (between low high v fl fh p.0 p.1))

-- what the parts come to is the value
pub valued : (m e : List ℕ) (mantissa : Mantissa) (exponent : Exponent) → IsMantissaOf m mantissa → exponent.negative ≡ starts_with_minus e → signed mantissa.negative (scaled mantissa.integer.now mantissa.fraction.now exponent.negative (digits_value 10 (without_leading_sign e))) ≡ whole_of m e
valued m e mantissa exponent h en = λ i. signed (h.negative i) (scaled (h.integer i) (h.fraction i) (en i) (digits_value 10 (without_leading_sign e)))

-- signed arguments as a callee sees them
pub same-range : (r : Option ℤ) (low high : ℤ) (value : Option ℤ) → FitsSigned w128 low → FitsSigned w128 high → r ≡ within (to_z w128 (of_z w128 low)) (to_z w128 (of_z w128 high)) value → r ≡ within low high value
same-range r low high value fl fh e = e ∙ (λ i. within (to_z-of_z w128 low fl i) (to_z-of_z w128 high fh i) value)

pub ranged : (r : Option ℤ) (low high v : ℤ) → FitsSigned w128 low → FitsSigned w128 high → FitsSigned w128 v → r ≡ within (to_z w128 (of_z w128 low)) (to_z w128 (of_z w128 high)) (Some (to_z w128 (of_z w128 v))) → r ≡ within low high (Some v)
ranged r low high v fl fh fv e = same-range r low high (Some v) fl fh (e ∙ ap (λ k. within (to_z w128 (of_z w128 low)) (to_z w128 (of_z w128 high)) (Some k)) (to_z-of_z w128 v fv))

-- the value is in no range, or is sought in one
pub no-value : (r : Option ℤ) (m e m' e' : List ℕ) (low high v : ℤ) → m' ≡ m → e' ≡ e → is_mantissa m' ≡ true → is_exponent e' ≡ true → v ≡ whole_of m' e' → FitsSigned w128 low → FitsSigned w128 high → (FitsSigned w128 v → ⊥) → r ≡ None → r ≡ within low high (whole_value m e)
no-value r m e m' e' low high v em ee hm he ev fl fh bad none =
    none ∙ unfit low high v fl fh bad ∙ ap (λ k. within low high (Some k)) ev ∙ ap (within low high) (sym (well-formed m' e' hm he)) ∙ (λ i. within low high (whole_value (em i) (ee i)))

pub a-value : (r : Option ℤ) (m e m' e' : List ℕ) (low high v : ℤ) → m' ≡ m → e' ≡ e → is_mantissa m' ≡ true → is_exponent e' ≡ true → v ≡ whole_of m' e' → r ≡ within low high (Some v) → r ≡ within low high (whole_value m e)
a-value r m e m' e' low high v em ee hm he ev h =
    h ∙ ap (λ k. within low high (Some k)) ev ∙ ap (within low high) (sym (well-formed m' e' hm he)) ∙ (λ i. within low high (whole_value (em i) (ee i)))

pub without-point : (r : Option ℤ) (low high : ℤ) (b : Bool) (value : Option ℤ) → b ≡ false → r ≡ within low high value → r ≡ within low high (cond b None value)
without-point r low high true value e h = absurd (true≢false e)
without-point r low high false value e h = h

pub with-point : (r : Option ℤ) (low high : ℤ) (b : Bool) (value : Option ℤ) → b ≡ true → r ≡ within low high value → r ≡ within low high (cond b value None)
with-point r low high true value e h = h
with-point r low high false value e h = absurd (true≢false (sym e))

-- what the call of the texts' reader gave of each variant
pub integer-value : (r : Option ℤ) (n : Number) (m e m1 m2 e' : List ℕ) (low high : ℤ) → n ≡ Integer m e → m1 ≡ m → list_any is_point m1 ≡ false → m2 ≡ m → e' ≡ e → FitsSigned w128 low → FitsSigned w128 high → r ≡ within (to_z w128 (of_z w128 low)) (to_z w128 (of_z w128 high)) (whole_value m2 e') → r ≡ within low high (number_value n)
integer-value r n m e m1 m2 e' low high en e1 none e2 ee fl fh h =
    let same : r ≡ within low high (whole_value m e) = same-range r low high (whole_value m2 e') fl fh h ∙ (λ i. within low high (whole_value (e2 i) (ee i))) in
    let pointless : has_point m ≡ false = sym (has-any m) ∙ ap (list_any is_point) (sym e1) ∙ none in
    without-point r low high (has_point m) (whole_value m e) pointless same ∙ ap (λ k. within low high (number_value k)) (sym en)

pub float-value : (r : Option ℤ) (n : Number) (m e m1 m2 e' : List ℕ) (low high : ℤ) → n ≡ Float m e → m1 ≡ m → list_any is_point m1 ≡ true → m2 ≡ m → e' ≡ e → FitsSigned w128 low → FitsSigned w128 high → r ≡ within (to_z w128 (of_z w128 low)) (to_z w128 (of_z w128 high)) (whole_value m2 e') → r ≡ within low high (number_value n)
float-value r n m e m1 m2 e' low high en e1 some e2 ee fl fh h =
    let same : r ≡ within low high (whole_value m e) = same-range r low high (whole_value m2 e') fl fh h ∙ (λ i. within low high (whole_value (e2 i) (ee i))) in
    let point : has_point m ≡ true = sym (has-any m) ∙ ap (list_any is_point) (sym e1) ∙ some in
    with-point r low high (has_point m) (whole_value m e) point same ∙ ap (λ k. within low high (number_value k)) (sym en)
