-- Writes one after another.
use Rattle.std.proofs.Common.{◌≡◌, ℕ, Result, Ok, Err, OnErr, Option, List, [], ◌∷◌, ◌++◌, length, pos, codes, refl, sym, ◌∙◌, ap, subst, append_assoc}
use Rattle.std.specs.Io.KnownBytes.{Appends}
use Rattle.std.proofs.KnownBytes.{Appends-trans}
use Rattle.avro_container.specs.Canonical.{canonical_header}
use Rattle.avro_container.specs.File.{magic}
use Rattle.avro_container.specs.Shortest.{shortest, groups}
use Rattle.arrow_base.specs.Outside.{AppendsPrefix}

-- the first part was cut short
pub cut_first : (a b : Option (List ℕ)) (part x y : List ℕ) → AppendsPrefix a b part → part ≡ x → AppendsPrefix a b (x ++ y)
cut_first a b part x y h is = record {
  taken = h.taken;
  left_out = h.left_out ++ y;
  splits = sym (append_assoc h.taken h.left_out y) ∙ ap (λ (l : List ℕ). l ++ y) (h.splits ∙ is);
  appended = h.appended;
}

-- what stands behind it was cut short
pub cut_later : (a b c : Option (List ℕ)) (part x y : List ℕ) → Appends a b part → part ≡ x → AppendsPrefix b c y → AppendsPrefix a c (x ++ y)
cut_later a b c part x y h is k = record {
  taken = part ++ k.taken;
  left_out = k.left_out;
  splits = append_assoc part k.taken k.left_out ∙ (λ i. is i ++ k.splits i);
  appended = Appends-trans a b c part k.taken h k.appended;
}

pub cut_last : (a b : Option (List ℕ)) (part x : List ℕ) → AppendsPrefix a b part → part ≡ x → AppendsPrefix a b x
cut_last a b part x h is = record { taken = h.taken; left_out = h.left_out; splits = h.splits ∙ is; appended = h.appended }

pub whole_later : (a b c : Option (List ℕ)) (part x y : List ℕ) → Appends a b part → part ≡ x → Appends b c y → Appends a c (x ++ y)
whole_later a b c part x y h is k = Appends-trans_at (Appends-trans a b c part y h k) (ap (λ (l : List ℕ). l ++ y) is)
  where
    Appends-trans_at : {x y : List ℕ} → Appends a c x → x ≡ y → Appends a c y
    Appends-trans_at {x} {y} p e = subst (Appends a c) e p

pub whole_last : (a b : Option (List ℕ)) (part x : List ℕ) → Appends a b part → part ≡ x → Appends a b x
whole_last a b part x h is = subst (Appends a b) is h

pub on_err : {A E : Type 0} (r : Result A E) (P : Type 0) → P → OnErr r P
on_err (Ok x) P p = tt
on_err (Err e) P p = p

-- what stands in prefix of the schema text is always the same
abbrev pub opening : List ℕ
opening = magic ++ (2 ∷ 22 ∷ codes "avro.schema")

abbrev pub as_written : List ℕ → List ℕ → List ℕ
as_written text marker = opening ++ (shortest (pos (length text)) ++ (text ++ ((0 ∷ []) ++ marker)))

number_one : shortest (pos 1) ≡ 2 ∷ []
unfolding groups
number_one = refl

number_eleven : shortest (pos 11) ≡ 22 ∷ []
unfolding groups
number_eleven = refl

number_zero : shortest (pos 0) ≡ 0 ∷ []
unfolding groups
number_zero = refl

pub opened : (text marker : List ℕ) → as_written text marker ≡ canonical_header text marker
opened text marker = rw (number_one, number_eleven, number_zero) refl
