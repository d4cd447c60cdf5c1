-- The fields before an index, one after another.
use Rattle.std.proofs.Common.{◌≡◌, ◌∙◌, ℕ, zero, suc, ◌+◌, ◌<◌, ◌≤◌, Bool, true, List, [], ◌∷◌, ◌++◌, length, set, get_or, refl, sym, ap, subst, append_assoc, arith}
use Rattle.std.proofs.lemmas.List.{append-nil}
use Rattle.json_tree.specs.Tree.{Json, null}
use Rattle.json_lend.specs.Fields.{values_of}
use Rattle.line_encode.specs.declared.plan.Plan.{Plan}
use Rattle.line_encode.specs.Plans.{is_nullable, AreNull, Fills, Writes, WritesFields, WritesFirst, WritesHeld}
use Rattle.line_encode.proofs.Forms.{null_form}

nulls_length : (ps : List Plan) (vs : List Json) → AreNull ps vs → length vs ≡ length ps
nulls_length [] [] h = refl
nulls_length [] (v ∷ vs) h = absurd h
nulls_length (p ∷ ps) [] h = absurd h
nulls_length (p ∷ ps) (v ∷ vs) h = ap suc (nulls_length ps vs h.1)

-- the value of the field at the index is appended
pub first_set : (n : ℕ) (ps : List Plan) (vs : List Json) (bytes more : List ℕ) (p : Plan) (v : Json) → n < length ps → WritesFirst n ps vs bytes → Writes (get_or ps n p) v more → WritesFirst (suc n) ps (set vs n v) (bytes ++ more)
first_set zero [] vs bytes more p v lt h w = absurd (omega (arith, lt))
first_set zero (q ∷ ps) [] bytes more p v lt h w = absurd h.1
first_set zero (q ∷ ps) (u ∷ vs) bytes more p v lt h w = (more, [], ap (λ (xs : List ℕ). xs ++ more) h.0 ∙ sym (append-nil more), w, (refl, h.1.1))
first_set (suc n) [] vs bytes more p v lt h w = absurd (omega (arith, lt))
first_set (suc n) (q ∷ ps) [] bytes more p v lt h w = absurd h
first_set (suc n) (q ∷ ps) (u ∷ vs) bytes more p v lt (first, rest, e, a, h) w =
    (first, rest ++ more, ap (λ (xs : List ℕ). xs ++ more) e ∙ append_assoc first rest more, a, first_set n ps vs rest more p v (omega (arith, lt)) h w)

-- its value is null
set_null : (n : ℕ) (ps : List Plan) (vs : List Json) (bytes : List ℕ) → n < length ps → WritesFirst n ps vs bytes → set vs n null ≡ vs
set_null zero [] vs bytes lt h = absurd (omega (arith, lt))
set_null zero (q ∷ ps) [] bytes lt h = absurd h.1
set_null zero (q ∷ ps) (u ∷ vs) bytes lt h = ap (λ w. w ∷ vs) (sym h.1.0)
set_null (suc n) [] vs bytes lt h = absurd (omega (arith, lt))
set_null (suc n) (q ∷ ps) [] bytes lt h = absurd h
set_null (suc n) (q ∷ ps) (u ∷ vs) bytes lt (first, rest, e, a, h) = ap (λ (ws : List Json). u ∷ ws) (set_null n ps vs rest (omega (arith, lt)) h)

pub first_null : (n : ℕ) (ps : List Plan) (vs : List Json) (bytes : List ℕ) (p : Plan) → n < length ps → is_nullable (get_or ps n p) ≡ true → WritesFirst n ps vs bytes → WritesFirst (suc n) ps vs (bytes ++ 0 ∷ [])
first_null n ps vs bytes p lt may h =
    subst (λ (ws : List Json). WritesFirst (suc n) ps ws (bytes ++ 0 ∷ [])) (set_null n ps vs bytes lt h)
    (first_set n ps vs bytes (0 ∷ []) p null lt h (null_form (is_nullable (get_or ps n p)) (WritesHeld (get_or ps n p)) may))

-- all fields
pub first_all : (ps : List Plan) (vs : List Json) (bytes : List ℕ) → WritesFirst (length ps) ps vs bytes → WritesFields ps vs bytes
first_all [] [] bytes h = h.0
first_all [] (v ∷ vs) bytes h = absurd h.1
first_all (p ∷ ps) [] bytes h = absurd h
first_all (p ∷ ps) (v ∷ vs) bytes (first, rest, e, a, h) = (first, rest, e, a, first_all ps vs rest h)

nulls_of : (ps : List Plan) (names : List (List ℕ)) → length names ≡ length ps → AreNull ps (values_of [] names)
nulls_of [] [] e = tt
nulls_of [] (n ∷ ns) e = absurd (omega (arith, e))
nulls_of (p ∷ ps) [] e = absurd (omega (arith, e))
nulls_of (p ∷ ps) (n ∷ ns) e = (refl, nulls_of ps ns (omega (arith, e)))

-- no field yet
pub first_none : (ps : List Plan) (names : List (List ℕ)) → length names ≡ length ps → WritesFirst 0 ps (values_of [] names) []
first_none ps names e = (refl, nulls_of ps names e)

-- ---- nulls, one after another

pub fills_none : (ps : List Plan) (n : ℕ) (old : List ℕ) → Fills ps n n old old
fills_none ps n old = ([], sym (append-nil old), λ vs before h. subst (λ (xs : List ℕ). WritesFirst n ps vs xs) (sym (append-nil before)) h)

pub fills_more : (ps : List Plan) (from n : ℕ) (p : Plan) (may : Bool) (old now new : List ℕ) → n < length ps → p ≡ get_or ps n p → may ≡ is_nullable p → may ≡ true → new ≡ now ++ 0 ∷ [] → Fills ps from n old now → Fills ps from (n + 1) old new
fills_more ps from n p may old now new lt is f t e (bytes, a, k) = (
  bytes ++ 0 ∷ [],
  e ∙ (ap (λ (xs : List ℕ). xs ++ 0 ∷ []) a ∙ append_assoc old bytes (0 ∷ [])),
  λ vs before h.
      let one : is_nullable (get_or ps n p) ≡ true = ap is_nullable (sym is) ∙ (sym f ∙ t) in
      let next : suc n ≡ n + 1 = omega arith in
      subst (λ (m : ℕ). WritesFirst m ps vs (before ++ (bytes ++ 0 ∷ []))) next
      (subst (λ (xs : List ℕ). WritesFirst (suc n) ps vs xs) (append_assoc before bytes (0 ∷ [])) (first_null n ps vs (before ++ bytes) p lt one (k vs before h))),
)

pub fills_end : (ps : List Plan) (from n to : ℕ) (old now : List ℕ) → n ≤ to → to ≤ n → Fills ps from n old now → Fills ps from to old now
fills_end ps from n to old now le ge h = let e : n ≡ to = omega (arith, le, ge) in subst (λ (m : ℕ). Fills ps from m old now) e h
