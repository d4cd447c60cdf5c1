-- Decimals: what is written for a precision and a scale gives them back.
use Rattle.std.proofs.Common.{◌≡◌, ℕ, ◌≤◌, ◌&&◌, true, nat_le, List, [], ◌∷◌, ◌++◌, Some, codes, decimal, refl, sym, ap, ◌∙◌, subst, append_assoc, arith}
use Rattle.arrow_base.specs.WrittenString.{json_string}
use Rattle.json_tree.specs.Tree.{string}
use Rattle.json_tree.specs.Keys.{value_of}
use Rattle.avro_schema.specs.declared.schema.BytesLogical.TheVariants as bytes
use Rattle.avro_schema.specs.declared.schema.FixedLogical.TheVariants as fixed
use Rattle.avro_file.specs.Attributes.{string_at}
use Rattle.avro_file.specs.Types.{scale_of, decimal_of, bytes_logical, fixed_logical}
use Rattle.avro_file.specs.Writable.{is_decimal}
use Rattle.avro_file.specs.Writing.{decimal_text}
use Rattle.avro_file.proofs.Digits.{parts, le_true, true_le}
use Rattle.avro_file.proofs.JsonTexts.{Members, MoreMembers, one_more_member, string_encodes}
use Rattle.avro_file.proofs.Members.{attributes_by, count_there}
use Rattle.avro_file.proofs.Numerals.{counted, counted_is, counted_encodes}

pub record InRange (precision scale : ℕ) : Type 0 where
  pub some : 1 ≤ precision
  pub precision_fits : precision ≤ 2147483647
  pub within : scale ≤ precision

pub in_range : (precision scale : ℕ) → is_decimal precision scale ≡ true → InRange precision scale
in_range p s e =
    let one = parts (nat_le 1 p) (nat_le p 2147483647 && nat_le s p) e in
    let two = parts (nat_le p 2147483647) (nat_le s p) one.1 in
    record { some = true_le 1 p one.0; precision_fits = true_le p 2147483647 two.0; within = true_le s p two.1 }

abbrev pub decimal_members : ℕ → ℕ → Members
decimal_members precision scale = (codes "logicalType", string (codes "decimal")) ∷ (codes "precision", counted precision) ∷ (codes "scale", counted scale) ∷ []

flat : (a p b s r : List ℕ) → (a ++ p ++ b ++ s) ++ r ≡ a ++ (p ++ (b ++ (s ++ r)))
flat a p b s r = simp append_assoc

module _ (p s : ℕ) (h : InRange p s) where
  -- the last attributes of an object
  pub decimal_more : (d : ℕ) → MoreMembers d (decimal_members p s) (decimal_text p s ++ 0x7d ∷ [])
  decimal_more d =
      let scaled = 0x2c ∷ (json_string (codes "scale") ++ 0x3a ∷ (decimal s ++ 0x7d ∷ [])) in
      let scales : MoreMembers d ((codes "scale", counted s) ∷ []) scaled =
      one_more_member d (codes "scale") (counted s) (decimal s) [] (0x7d ∷ []) (counted_encodes d s (omega (arith, h.within, h.precision_fits))) refl in
      let precise = 0x2c ∷ (json_string (codes "precision") ++ 0x3a ∷ (decimal p ++ scaled)) in
      let precisions : MoreMembers d ((codes "precision", counted p) ∷ (codes "scale", counted s) ∷ []) precise =
      one_more_member d (codes "precision") (counted p) (decimal p) ((codes "scale", counted s) ∷ []) scaled (counted_encodes d p h.precision_fits) scales in
      let all =
      one_more_member d (codes "logicalType") (string (codes "decimal")) (json_string (codes "decimal")) ((codes "precision", counted p) ∷ (codes "scale", counted s) ∷ []) precise (string_encodes d (codes "decimal")) precisions in
      subst (λ b. MoreMembers d (decimal_members p s) b) (sym (flat (codes ",\"logicalType\":\"decimal\",\"precision\":") (decimal p) (codes ",\"scale\":") (decimal s) (0x7d ∷ []))) all

  pub decimal_there : (ms : Members) → value_of (codes "precision") ms ≡ Some (counted p) → value_of (codes "scale") ms ≡ Some (counted s) → decimal_of (attributes_by ms) ≡ Some (p, s)
  decimal_there ms e f =
      let scales : scale_of (value_of (codes "scale") ms) ≡ Some s = ap scale_of f ∙ counted_is s (omega (arith, h.within, h.precision_fits)) in
      rw (count_there ms (codes "precision") p h.precision_fits e, scales, le_true 1 p h.some, le_true s p h.within) refl

  pub bytes_decimal : (ms : Members) → string_at (codes "logicalType") (attributes_by ms) ≡ Some (codes "decimal") → decimal_of (attributes_by ms) ≡ Some (p, s) → bytes_logical (attributes_by ms) ≡ Some (bytes.Decimal p s)
  unfolding bytes_logical
  bytes_decimal ms e f = rw (e, f) refl

  pub fixed_decimal : (size : ℕ) (ms : Members) → string_at (codes "logicalType") (attributes_by ms) ≡ Some (codes "decimal") → decimal_of (attributes_by ms) ≡ Some (p, s) → fixed_logical size (attributes_by ms) ≡ Some (fixed.Decimal p s)
  unfolding fixed_logical
  fixed_decimal size ms e f = rw (e, f) refl
