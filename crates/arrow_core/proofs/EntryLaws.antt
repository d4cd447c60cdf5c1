-- Entries are a finite map: a key that is given a value has it, and no other key changes.
use Rattle.std.proofs.Common.{◌≡◌, ◌∙◌, refl, sym, ap, ℕ, List, [], ◌∷◌, false, cond, Some}
use Rattle.std.specs.declared.cmp.Ordering.{Ordering}
use Rattle.std.specs.declared.cmp.Ordering.TheVariants.{Less, Equal, Greater}
use Rattle.std.specs.Cmp.{tied_itself}
use Rattle.std.specs.Cmp.Lexicographic.{nat_list_cmp_total}
use Rattle.std.specs.Ordering.{is_eq, match_ordering}
use Rattle.std.proofs.lemmas.Map.Lookups.{exact_bytes}
use Rattle.arrow_core.specs.Entries.{Entry, bytes_cmp, value_at, with_value}

-- an entry put before, in place of, or after e
abbrev put_at : Ordering → List ℕ → List ℕ → Entry → List Entry → List Entry → List Entry
put_at order key value e es more = match_ordering order ((key, value) ∷ e ∷ es) ((e.0, value) ∷ es) (e ∷ more)

found : (order : Ordering) (key value : List ℕ) (e : Entry) (es more : List Entry) → bytes_cmp key e.0 ≡ order
    → value_at more key ≡ Some value → value_at (put_at order key value e es more) key ≡ Some value
found Less key value e es more is there = ap (λ o. cond (is_eq o) (Some value) (value_at (e ∷ es) key)) (tied_itself nat_list_cmp_total key)
found Equal key value e es more is there = ap (λ o. cond (is_eq o) (Some value) (value_at es key)) is
found Greater key value e es more is there = ap (λ o. cond (is_eq o) (Some e.1) (value_at more key)) is ∙ there

pub value_at-with_value : (entries : List Entry) (key value : List ℕ) → value_at (with_value entries key value) key ≡ Some value
value_at-with_value [] key value = ap (λ o. cond (is_eq o) (Some value) (value_at [] key)) (tied_itself nat_list_cmp_total key)
value_at-with_value (e ∷ es) key value = found (bytes_cmp key e.0) key value e es _ refl (value_at-with_value es key value)

not_equal : (order : Ordering) → (order ≡ Equal → ⊥) → is_eq order ≡ false
not_equal Less apart = refl
not_equal Equal apart = absurd (apart refl)
not_equal Greater apart = refl

-- an entry of a key is not found at another
passed : (other key : List ℕ) → ¬ (other ≡ key) → is_eq (bytes_cmp other key) ≡ false
passed other key apart = not_equal (bytes_cmp other key) (λ e. apart (exact_bytes other key e))

kept : (order : Ordering) (other key value : List ℕ) (e : Entry) (es more : List Entry) → bytes_cmp key e.0 ≡ order → ¬ (other ≡ key)
    → value_at more other ≡ value_at es other → value_at (put_at order key value e es more) other ≡ value_at (e ∷ es) other
kept Less other key value e es more is apart same = ap (λ b. cond b (Some value) (value_at (e ∷ es) other)) (passed other key apart)
kept Equal other key value e es more is apart same =
    let past = passed other e.0 (λ here. apart (here ∙ sym (exact_bytes key e.0 is))) in
    ap (λ b. cond b (Some value) (value_at es other)) past ∙ sym (ap (λ b. cond b (Some e.1) (value_at es other)) past)
kept Greater other key value e es more is apart same = ap (λ v. cond (is_eq (bytes_cmp other e.0)) (Some e.1) v) same

pub value_at-with_other : (entries : List Entry) (key value other : List ℕ) → ¬ (other ≡ key) → value_at (with_value entries key value) other ≡ value_at entries other
value_at-with_other [] key value other apart = ap (λ b. cond b (Some value) (value_at [] other)) (passed other key apart)
value_at-with_other (e ∷ es) key value other apart = kept (bytes_cmp key e.0) other key value e es _ refl apart (value_at-with_other es key value other apart)
