-- The members of an object, one after another.
use Rattle.std.proofs.Common.{◌≡◌, ◌≢◌, ◌∙◌, ℕ, suc, ◌+◌, ◌<◌, ◌≤◌, true, List, [], ◌∷◌, ◌++◌, length, set, get_or, refl, sym, ap, subst, append_assoc, arith}
use Rattle.std.specs.Prelude.{Option, Some, None, IfSome, Result, Ok, Err, OnOk}
use Rattle.std.proofs.lemmas.List.{append-nil}
use Rattle.json_tree.specs.Layout.{distinct, put}
use Rattle.json_tree.specs.Reading.{found, member_at, object_at, put_together, skip, value_at, First}
use Rattle.json_tree.specs.Tree.{Json, object}
use Rattle.json_tree.proofs.Turns.{object-empty, object-end, object-next, object-start, ObjectTurn}
use Rattle.json_lend.specs.Fields.{values_of, BeginsMember, IsIndex}
use Rattle.json_lend.proofs.NameLaws.{values-turn}
use Rattle.json_lend.specs.declared.given_up.GivenUp.{GivenUp}
use Rattle.line_encode.specs.declared.plan.Plan.{Plan}
use Rattle.line_encode.specs.Plans.{Adds, AddsField, Fills, Reads, ReadsField, Writes, WritesFirst, WritesRecord}
use Rattle.line_encode.proofs.FieldLaws.{first_all, first_none, first_set}

-- ---- one member

-- a member was read, and after it the first fields stand up to another index
abbrev pub ReadsMember : ℕ → List (List ℕ) → List Plan → ℕ → ℕ → List ℕ → List ℕ → List ℕ → List ℕ → Type 0
ReadsMember depth names plans from to before after old new =
    (name : List ℕ) × (value : Json) × (member_at (value_at depth) before ≡ found (name, value) after) × (bytes : List ℕ) × (new ≡ old ++ bytes)
    × ((members : List (List ℕ × Json)) (first : List ℕ) → WritesFirst from plans (values_of members names) first → WritesFirst to plans (values_of (put members (name, value)) names) (first ++ bytes))

-- no field names it
member_passed : (d : ℕ) (names : List (List ℕ)) (ps : List Plan) (n to : ℕ) (b p q old new : List ℕ) (key : List ℕ) (v : Json) → distinct names ≡ true → IsIndex names key None → member_at (value_at d) b ≡ found (key, v) q → to ≡ n → new ≡ old → ReadsMember d names ps n to b q old new
member_passed d names ps n to b p q old new key v are index is t e = (
  key,
  v,
  is,
  [],
  e ∙ sym (append-nil old),
  λ members first h.
      let same = values-turn None names members key v (values_of members names) (values_of members names) are index refl refl in
      subst (λ (m : ℕ). WritesFirst m ps (values_of (put members (key, v)) names) (first ++ [])) (sym t)
      (subst (λ (xs : List ℕ). WritesFirst n ps (values_of (put members (key, v)) names) xs) (sym (append-nil first)) (subst (λ (vs : List Json). WritesFirst n ps vs first) same h)),
)

-- the field at the index, after nulls for those before it
member_read : (d : ℕ) (names : List (List ℕ)) (ps : List Plan) (n i to : ℕ) (plan : Plan) (b q old mid new : List ℕ) (key : List ℕ) (v : Json) → distinct names ≡ true → i < length ps → plan ≡ get_or ps i plan → IsIndex names key (Some i) → member_at (value_at d) b ≡ found (key, v) q → to ≡ i + 1
    → Fills ps n i old mid → Adds (Writes plan v) mid new → ReadsMember d names ps n to b q old new
member_read d names ps n i to plan b q old mid new key v are lt at_i index is t (nulls, a, k) (bytes, f, w) =
    let here : Writes (get_or ps i plan) v bytes = subst (λ (x : Plan). Writes x v bytes) at_i w in
    let next : suc i ≡ to = omega (arith, t) in (
      key,
      v,
      is,
      nulls ++ bytes,
      f ∙ (ap (λ (xs : List ℕ). xs ++ bytes) a ∙ append_assoc old nulls bytes),
      λ members first h.
          let same = values-turn (Some i) names members key v (values_of members names) (set (values_of members names) i v) are index refl refl in
          subst (λ (m : ℕ). WritesFirst m ps (values_of (put members (key, v)) names) (first ++ (nulls ++ bytes))) next
          (subst (λ (xs : List ℕ). WritesFirst (suc i) ps (values_of (put members (key, v)) names) xs) (append_assoc first nulls bytes)
          (subst (λ (vs : List Json). WritesFirst (suc i) ps vs ((first ++ nulls) ++ bytes)) same (first_set i ps (values_of members names) (first ++ nulls) bytes plan v lt (k (values_of members names) first h) here))),
    )

pub member_of : (d : ℕ) (names : List (List ℕ)) (ps : List Plan) (n to : ℕ) (at : Option ℕ) (b p q old new : List ℕ) → distinct names ≡ true → IfSome at (λ i. i < length ps) → BeginsMember names at b p → ReadsField d at ps n to p q old new → ReadsMember d names ps n to b q old new
member_of d names ps n to None b p q old new are lt begins (v, is, (t, e)) = member_passed d names ps n to b p q old new begins.0 v are begins.1 (begins.2 d v q is) t e
member_of d names ps n to (Some i) b p q old new are lt begins (v, is, (t, plan, at_i, mid, fills, adds)) =
    member_read d names ps n i to plan b q old mid new begins.0 v are lt at_i begins.1 (begins.2 d v q is) t fills adds

-- the index of a name is within as many
pub index_within : (names : List (List ℕ)) (key : List ℕ) (at : Option ℕ) (n : ℕ) → IsIndex names key at → length names ≡ n → IfSome at (λ i. i < n)
index_within names key None n is l = tt
index_within names key (Some i) n is l = omega (arith, is.1, l)

-- ---- one field

pub field_passed : (d : ℕ) (at : Option ℕ) (ps : List Plan) (n : ℕ) (p q old : List ℕ) (v : Json) → at ≡ None → value_at d p ≡ found v q → ReadsField d at ps n n p q old old
field_passed d at ps n p q old v e is = (v, is, subst (λ o. AddsField o ps n n v old old) (sym e) (refl, refl))

pub field_read : (d : ℕ) (at : Option ℕ) (ps : List Plan) (n i : ℕ) (plan : Plan) (p q old mid new : List ℕ) → at ≡ Some i → plan ≡ get_or ps i plan → Fills ps n i old mid → Reads (Writes plan) (value_at d) p q mid new → ReadsField d at ps n (i + 1) p q old new
field_read d at ps n i plan p q old mid new e at_i fills reads =
    (reads.0, reads.1, subst (λ o. AddsField o ps n (i + 1) reads.0 old new) (sym e) (refl, plan, at_i, mid, fills, reads.2))

-- ---- all members

-- the members that were read so far were appended
abbrev pub MembersSoFar : ℕ → List (List ℕ) → List Plan → ℕ → List ℕ → List ℕ → List ℕ → List ℕ → Type 0
MembersSoFar d names ps next b r old now =
    (n : ℕ) × (raw : List (List ℕ × Json)) × (length r ≤ n) × ObjectTurn d n raw r b × Adds (WritesFirst next ps (values_of (put_together raw) names)) old now

pub members_start : (d : ℕ) (names : List (List ℕ)) (ps : List Plan) (b r old : List ℕ) → length names ≡ length ps → r ≡ skip b → First (λ x t. x ≢ 125) (skip b) → MembersSoFar d names ps 0 b r old old
members_start d names ps b r old l e f =
    let s = object-start d b r e f in
    (s.0, [], s.1, s.2, ([], sym (append-nil old), first_none ps names l))

filled : (names : List (List ℕ)) (ps : List Plan) (members : List (List ℕ × Json)) (n : ℕ) (old now new : List ℕ) → Adds (WritesFirst n ps (values_of members names)) old now → Fills ps n (length ps) now new → Adds (WritesRecord names ps (object members)) old new
filled names ps members n old now new (bytes, a, h) (nulls, e, k) =
    (bytes ++ nulls, e ∙ (ap (λ (xs : List ℕ). xs ++ nulls) a ∙ append_assoc old bytes nulls), (members, refl, first_all ps (values_of members names) (bytes ++ nulls) (k (values_of members names) bytes h)))

pub no_members : (r : Result (Unit {0}) GivenUp) (d : ℕ) (names : List (List ℕ)) (ps : List Plan) (b q old new : List ℕ) → length names ≡ length ps → skip b ≡ 125 ∷ q → OnOk r (Fills ps 0 (length ps) old new) → OnOk r (Reads (WritesRecord names ps) (object_at (value_at d)) b q old new)
no_members (Err g) d names ps b q old new l e f = tt
no_members (Ok u) d names ps b q old new l e f = (object [], object-empty d b q e, filled names ps [] 0 old old new ([], sym (append-nil old), first_none ps names l) f)

module _ (d from to : ℕ) (names : List (List ℕ)) (ps : List Plan) (b r q s old now new : List ℕ) (so_far : MembersSoFar d names ps from b r old now) (le : length q ≤ length r) (reads : ReadsMember d names ps from to r q now new) where
  abbrev Members : List (List ℕ × Json)
  Members = put (put_together so_far.1) (reads.0, reads.1)

  added : Adds (WritesFirst to ps (values_of Members names)) old new
  added =
      let a = so_far.4 in
      (a.0 ++ reads.3, reads.4 ∙ (ap (λ (xs : List ℕ). xs ++ reads.3) a.1 ∙ append_assoc old a.0 reads.3), reads.5 (put_together so_far.1) a.0 a.2)

  short : length q ≤ so_far.0
  short = omega (arith, le, so_far.2)

  pub members_next : skip q ≡ 44 ∷ s → MembersSoFar d names ps to b s old new
  members_next e =
      let n = object-next d so_far.0 so_far.1 (put_together so_far.1) Members (reads.0, reads.1) r b q s so_far.3 refl short reads.2 e refl in
      (n.0, n.1, n.2, n.4, subst (λ ms. Adds (WritesFirst to ps (values_of ms names)) old new) (sym n.3) added)

  pub members_end : (result : Result (Unit {0}) GivenUp) (last : List ℕ) → skip q ≡ 125 ∷ s → OnOk result (Fills ps to (length ps) new last) → OnOk result (Reads (WritesRecord names ps) (object_at (value_at d)) b s old last)
  members_end (Err g) last e f = tt
  members_end (Ok u) last e f = (object Members, object-end d so_far.0 so_far.1 (put_together so_far.1) Members (reads.0, reads.1) r b q s so_far.3 refl short reads.2 e refl, filled names ps Members to old new last added f)
