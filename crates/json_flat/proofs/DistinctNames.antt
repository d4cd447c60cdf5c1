-- Names are distinct where each one is none of those before it.
use Rattle.std.proofs.Common.{◌≡◌, ◌∙◌, ℕ, ◌+◌, Bool, true, false, not, ◌&&◌, ◌||◌, cond, List, [], ◌∷◌, ◌++◌, map, Option, Some, is_some, Result, Ok, Err, IfOk, append_assoc, refl, sym, ap}
use Rattle.std.specs.Bool.{one_answer}
use Rattle.std.specs.Borrow.{Bor}
use Rattle.std.specs.List.{position_from}
use Rattle.std.specs.Str.{bytes_eq}
use Rattle.std.proofs.lemmas.List.{append-nil, map-append}
use Rattle.std.proofs.lemmas.Slice.Eq.{bytes_eq-Decides}
use Rattle.arrow_core.specs.declared.error.Error.{Error}
use Rattle.arrow_core.specs.declared.types.Field.{Field}
use Rattle.first_seen.specs.Keys.{index_of}
use Rattle.json_tree.specs.Layout.{distinct, meets}
use Rattle.json_flat.specs.Names.{names_of}

-- names that are lent
abbrev pub lent_names : List (Bor (List ℕ)) → List (List ℕ)
lent_names = map (λ (name : Bor (List ℕ)). name.now)

abbrev pub same_name : Bor (List ℕ) → Bor (List ℕ) → Bool
same_name a b = bytes_eq a.now b.now

-- the names that came are distinct, and they and those of the fields that are left decide whether those of all fields are
abbrev pub Decide : List (Bor (List ℕ)) → List Field → List Field → Type 0
Decide seen rest fields = (distinct (lent_names seen) ≡ true) × (distinct (lent_names seen ++ names_of rest) ≡ distinct (names_of fields))

pub same_test : (a b : List ℕ) → bytes_eq a b ≡ bytes_eq b a
same_test a b = one_answer {P = a ≡ b} (bytes_eq a b) (bytes_eq b a) (bytes_eq-Decides a b) ((λ e. sym ((bytes_eq-Decides b a).0 e)), (λ e. (bytes_eq-Decides b a).1 (sym e)))

neither : (a b : Bool) → (a || b) ≡ false → (a ≡ false) × (b ≡ false)
neither true b e = absurd cc
neither false b e = (refl, e)

both : (a b : Bool) → (a && b) ≡ true → (a ≡ true) × (b ≡ true)
both true b e = (refl, e)
both false b e = absurd cc

-- ---- a name more

meets_more : (x k : List ℕ) (ks : List (List ℕ)) → meets x ks ≡ false → bytes_eq x k ≡ false → meets x (ks ++ k ∷ []) ≡ false
meets_more x k [] h e = λ i. (e i || false)
meets_more x k (y ∷ ks) h e =
    let p = neither (bytes_eq x y) (meets x ks) h in
    λ i. (p.0 i || meets_more x k ks p.1 e i)

distinct_more : (ks : List (List ℕ)) (k : List ℕ) → distinct ks ≡ true → meets k ks ≡ false → distinct (ks ++ k ∷ []) ≡ true
distinct_more [] k d m = refl
distinct_more (x ∷ ks) k d m =
    let p = both (not (meets x ks)) (distinct ks) d in
    let q = neither (bytes_eq k x) (meets k ks) m in
    λ i. (not (meets_more x k ks (is_not (meets x ks) p.0) (same_test x k ∙ q.0) i) && distinct_more ks k p.1 q.1 i)
  where
    is_not : (b : Bool) → not b ≡ true → b ≡ false
    is_not true e = sym e
    is_not false e = refl

meets_among : (x k : List ℕ) (ks more : List (List ℕ)) → bytes_eq x k ≡ true → meets x (ks ++ k ∷ more) ≡ true
meets_among x k [] more e = λ i. (e i || meets x more)
meets_among x k (y ∷ ks) more e = or_true (bytes_eq x y) (meets x (ks ++ k ∷ more)) (meets_among x k ks more e)
  where
    or_true : (a b : Bool) → b ≡ true → (a || b) ≡ true
    or_true true b e = refl
    or_true false b e = e

-- a name that came before
came : (ks more : List (List ℕ)) (k : List ℕ) → meets k ks ≡ true → distinct (ks ++ k ∷ more) ≡ false
came [] more k m = absurd cc
came (x ∷ ks) more k m = by_first (bytes_eq k x) refl m (came ks more k)
  where
    and_false : (a b : Bool) → b ≡ false → (a && b) ≡ false
    and_false true b e = e
    and_false false b e = refl

    by_first : (b : Bool) → bytes_eq k x ≡ b → (b || meets k ks) ≡ true → (meets k ks ≡ true → distinct (ks ++ k ∷ more) ≡ false) → distinct (x ∷ (ks ++ k ∷ more)) ≡ false
    by_first true e h rest = λ i. (not (meets_among x k ks more (same_test x k ∙ e) i) && distinct (ks ++ k ∷ more))
    by_first false e h rest = and_false (not (meets x (ks ++ k ∷ more))) (distinct (ks ++ k ∷ more)) (rest h)

-- ---- a name that is looked for

-- whether it is found is whether it came
is_met : (seen : List (Bor (List ℕ))) (i : ℕ) (name : Bor (List ℕ)) → is_some (position_from (same_name name) i seen) ≡ meets name.now (lent_names seen)
is_met [] i name = refl
is_met (x ∷ seen) i name = by_first (same_name name x) (is_met seen (i + 1) name)
  where
    by_first : (b : Bool) → is_some (position_from (same_name name) (i + 1) seen) ≡ meets name.now (lent_names seen) → is_some (cond b (Some i) (position_from (same_name name) (i + 1) seen)) ≡ (b || meets name.now (lent_names seen))
    by_first true h = refl
    by_first false h = h

-- ---- fields

pub begin : (seen : List (Bor (List ℕ))) (fields : List Field) → seen ≡ [] → Decide seen fields fields
begin seen fields e = (ap (λ s. distinct (lent_names s)) e, ap (λ s. distinct (lent_names s ++ names_of fields)) e)

-- one more field, whose name was looked for
module _ (seen : List (Bor (List ℕ))) (rest others fields : List Field) (first : Field) (name : Bor (List ℕ)) (at : Option ℕ) (h : Decide seen rest fields) (split : rest ≡ first ∷ others)
    (is : name.now ≡ first.name) (found : at ≡ index_of same_name seen name) where
  whole : distinct (lent_names seen ++ name.now ∷ names_of others) ≡ distinct (names_of fields)
  whole = (λ i. distinct (lent_names seen ++ is i ∷ names_of others)) ∙ ap (λ fs. distinct (lent_names seen ++ names_of fs)) (sym split) ∙ h.1

  met : (b : Bool) → is_some at ≡ b → meets name.now (lent_names seen) ≡ b
  met b e = sym (is_met seen 0 name) ∙ ap is_some (sym found) ∙ e

  pub more : (new : List (Bor (List ℕ))) → is_some at ≡ false → new ≡ seen ++ name ∷ [] → Decide new others fields
  more new n e = (
    ap (λ s. distinct (lent_names s)) e ∙ ap distinct (map-append (λ (b : Bor (List ℕ)). b.now) seen (name ∷ [])) ∙ distinct_more (lent_names seen) name.now h.0 (met false n),
    ap (λ s. distinct (lent_names s ++ names_of others)) e
        ∙ ap (λ ns. distinct (ns ++ names_of others)) (map-append (λ (b : Bor (List ℕ)). b.now) seen (name ∷ []))
        ∙ ap distinct (append_assoc (lent_names seen) (name.now ∷ []) (names_of others)) ∙ whole,
  )

  pub twice : is_some at ≡ true → false ≡ distinct (names_of fields)
  twice s = sym (came (lent_names seen) (names_of others) name.now (met true s)) ∙ whole

pub end : (seen : List (Bor (List ℕ))) (rest fields : List Field) → Decide seen rest fields → rest ≡ [] → true ≡ distinct (names_of fields)
end seen rest fields h e = sym (ap distinct (append-nil (lent_names seen)) ∙ h.0) ∙ ap (λ fs. distinct (lent_names seen ++ names_of fs)) (sym e) ∙ h.1

-- ---- answers

-- what is answered of one type or field is answered of another of which the same holds
pub same_answer : (r : Result Bool Error) {a b : Bool} → a ≡ b → IfOk r (λ x. x ≡ a) → IfOk r (λ x. x ≡ b)
same_answer (Ok x) e h = h ∙ e
same_answer (Err fault) e h = tt
