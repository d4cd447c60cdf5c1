-- Names are looked up in tables.
use Rattle.std.proofs.Common.{◌≡◌, ℕ, List, [], ◌∷◌, Bool, true, false, cond, Some, None, sym, ap, ◌∙◌, refl}
use Rattle.std.specs.Str.{bytes_eq}
use Rattle.std.proofs.lemmas.Slice.Eq.{bytes_eq-Decides}
use Rattle.json_tree.specs.Keys.{value_of}

pub differs : (xs ys : List ℕ) → (ys ≡ xs → ⊥) → bytes_eq xs ys ≡ false
differs xs ys isnt = go (bytes_eq xs ys) refl
  where
    go : (b : Bool) → bytes_eq xs ys ≡ b → b ≡ false
    go true e = absurd (isnt (sym ((bytes_eq-Decides xs ys).0 e)))
    go false e = refl

pub same : (xs : List ℕ) → bytes_eq xs xs ≡ true
same xs = (bytes_eq-Decides xs xs).1 refl

pub differs-from : (xs ys : List ℕ) → (xs ≡ ys → ⊥) → bytes_eq xs ys ≡ false
differs-from xs ys isnt = differs xs ys (λ e. isnt (sym e))

-- the name is none of the table's
abbrev pub IsNoneOf : {V : Type 0} → List ℕ → List (List ℕ × V) → Type 0
IsNoneOf name [] = Unit {0}
IsNoneOf name (entry ∷ more) = (name ≡ entry.0 → ⊥) × IsNoneOf name more

pub none_of : {V : Type 0} (name : List ℕ) (table : List (List ℕ × V)) → IsNoneOf name table → value_of name table ≡ None
none_of name [] h = refl
none_of name (entry ∷ more) h = ap (λ b. cond b (Some entry.1) (value_of name more)) (differs entry.0 name h.0) ∙ none_of name more h.1
