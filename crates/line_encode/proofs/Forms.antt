-- What stands for a value by a plan, in terms of the lists that code sees.
use Rattle.std.proofs.Common.{◌≡◌, ◌∙◌, inl, inr, ℕ, ℤ, Bool, true, false, List, [], ◌∷◌, ◌++◌, length, Vec, Global, refl, sym, ap, subst, append_assoc, arith}
use mathlib.Core.Former.{Count}
use Rattle.std.specs.Global.{Box}
use Rattle.std.specs.Prelude.{Some, Result, Ok, Err, OnOk}
use Rattle.std.proofs.lemmas.List.{append-nil}
use Rattle.avro_container.specs.Shortest.{shortest}
use Rattle.json_flat.specs.Whole.{whole_value, within}
use Rattle.json_tree.specs.Reading.{Outcome, found}
use Rattle.json_tree.specs.Tree.{Json, null, number, object}
use Rattle.json_lend.specs.Fields.{values_of}
use Rattle.json_lend.specs.declared.given_up.GivenUp.{GivenUp}
use Rattle.line_encode.specs.declared.plan.Primitive.{Primitive}
use Rattle.line_encode.specs.declared.plan.Plan.{Plan, Primitive as PrimitivePlan, List as ListPlan, Record as RecordPlan, Record', Row_of-Plan, end_of-Plan, more_of-Plan, items-the_row-Plan, items_hidden-the_row-Plan-0}
use Rattle.line_encode.specs.Plans.{index, Adds, Form, OrNull, Reads, Writes, WritesAll, WritesFields, WritesHeld, WritesInteger, WritesList, WritesPrimitive, WritesRecord, WritesRow}

-- ---- unions of null and another schema

pub held_form : (nullable : Bool) (W : Form) (v : Json) (bytes : List ℕ) → W v bytes → OrNull nullable W v (index nullable ++ bytes)
held_form true W v bytes h = inr (bytes, refl, h)
held_form false W v bytes h = h

pub null_form : (nullable : Bool) (W : Form) → nullable ≡ true → OrNull nullable W null (0 ∷ [])
null_form true W e = inl (refl, refl)
null_form false W e = absurd cc

-- ---- plans

pub list_form : (nullable : Bool) (item : Box Plan) → Writes (ListPlan nullable item) ≡ OrNull nullable (WritesList (Writes item.value))
list_form nullable item = refl

pub primitive_form : (nullable : Bool) (p : Primitive) → Writes (PrimitivePlan nullable p) ≡ OrNull nullable (WritesPrimitive p)
primitive_form nullable p = refl

abbrev row_of : Plan → (n : Count) × Row_of-Plan n
row_of (Record' nullable names _ row) = (_, row)
row_of _ = (_, end_of-Plan)

writes_row : (n : _) (row : Row_of-Plan n) (vs : List Json) (bytes : List ℕ) → WritesRow row vs bytes ≡ WritesFields (items-the_row-Plan n row) vs bytes
writes_row n end_of-Plan [] bytes = refl
writes_row n end_of-Plan (v ∷ vs) bytes = refl
writes_row n (more_of-Plan plan rest) [] bytes = refl
writes_row n (more_of-Plan plan rest) (v ∷ vs) bytes = λ i. (first : List ℕ) × (more : List ℕ) × (bytes ≡ first ++ more) × Writes plan v first × writes_row _ rest vs more i

pub record_held : (nullable : Bool) (names : List (List ℕ)) (plans : Vec Plan Global) (v : Json) (bytes : List ℕ) → WritesHeld (RecordPlan nullable names plans) v bytes ≡ WritesRecord names plans.items v bytes
record_held nullable names plans v bytes =
    let row = row_of (RecordPlan nullable names plans) in
    λ i. (members : List (List ℕ × Json)) × (v ≡ object members)
    × (writes_row row.0 row.1 (values_of members names) bytes ∙ ap (λ (ps : List Plan). WritesFields ps (values_of members names) bytes) (items_hidden-the_row-Plan-0 plans)) i

pub record_form : (nullable : Bool) (names : List (List ℕ)) (plans : Vec Plan Global) → Writes (RecordPlan nullable names plans) ≡ OrNull nullable (WritesRecord names plans.items)
record_form nullable names plans = λ i. OrNull nullable (λ v bytes. record_held nullable names plans v bytes i)

-- ---- what is appended

pub adds_after : (Are Both : List ℕ → Type 0) (prefix old mid new : List ℕ) → ((bytes : List ℕ) → Are bytes → Both (prefix ++ bytes)) → mid ≡ old ++ prefix → Adds Are mid new → Adds Both old new
adds_after Are Both prefix old mid new k e (bytes, a, h) = (prefix ++ bytes, a ∙ (ap (λ (xs : List ℕ). xs ++ bytes) e ∙ append_assoc old prefix bytes), k bytes h)

-- a value behind its bracket and its index
pub read_held : (r : Result (Unit {0}) GivenUp) (nullable : Bool) (W : Form) (read other : List ℕ → Outcome Json) (before behind after old mid new : List ℕ) → other before ≡ read behind → mid ≡ old ++ index nullable
    → OnOk r (Reads W read behind after mid new) → OnOk r (Reads (OrNull nullable W) other before after old new)
read_held (Ok u) nullable W read other before behind after old mid new e i (v, is, a) =
    (v, e ∙ is, adds_after (W v) (OrNull nullable W v) (index nullable) old mid new (λ bytes h. held_form nullable W v bytes h) i a)
read_held (Err g) nullable W read other before behind after old mid new e i h = tt

-- null, where no bracket is opened
pub read_null : (r : Result (Unit {0}) GivenUp) (nullable : Bool) (W : Form) (read : List ℕ → Outcome Json) (before same after old new : List ℕ) → same ≡ before → OnOk r (nullable ≡ true) → OnOk r (read same ≡ found null after) → OnOk r (new ≡ old ++ 0 ∷ [])
    → OnOk r (Reads (OrNull nullable W) read before after old new)
read_null (Ok u) nullable W read before same after old new s n is e = (null, ap read (sym s) ∙ is, (0 ∷ [], e, null_form nullable W n))
read_null (Err g) nullable W read before same after old new s n is e = tt

-- the same form
pub read_same : (r : Result (Unit {0}) GivenUp) (W V : Form) (read : List ℕ → Outcome Json) (before after old new : List ℕ) → V ≡ W → OnOk r (Reads W read before after old new) → OnOk r (Reads V read before after old new)
read_same r W V read before after old new e h = subst (λ (X : Form). OnOk r (Reads X read before after old new)) (sym e) h

-- ---- one after another

pub all_push : {A : Type 0} (W : A → List ℕ → Type 0) (xs : List A) (x : A) (bytes more : List ℕ) → WritesAll W xs bytes → W x more → WritesAll W (xs ++ x ∷ []) (bytes ++ more)
all_push W [] x bytes more h w = (more, [], ap (λ (ys : List ℕ). ys ++ more) h ∙ sym (append-nil more), w, refl)
all_push W (y ∷ xs) x bytes more (first, rest, e, v, h) w =
    (first, rest ++ more, ap (λ (ys : List ℕ). ys ++ more) e ∙ append_assoc first rest more, v, all_push W xs x rest more h w)

pub all_nil : {A : Type 0} (W : A → List ℕ → Type 0) (xs : List A) (bytes : List ℕ) → length xs ≡ 0 → WritesAll W xs bytes → bytes ≡ []
all_nil W [] bytes n h = h
all_nil W (x ∷ xs) bytes n h = absurd (omega (arith, n))

-- a number, after the index
pub integer_added : (nullable : Bool) (low high n v : ℤ) (m e : List ℕ) (old mid new : List ℕ) → within low high (whole_value m e) ≡ Some n → v ≡ n → mid ≡ old ++ index nullable → new ≡ mid ++ shortest v → Adds (OrNull nullable (WritesInteger low high) (number m e)) old new
integer_added nullable low high n v m e old mid new w is i a =
    let h : WritesInteger low high (number m e) (shortest v) = (m, e, n, refl, w, ap shortest is) in
    (index nullable ++ shortest v, a ∙ (ap (λ (xs : List ℕ). xs ++ shortest v) i ∙ append_assoc old (index nullable) (shortest v)), held_form nullable (WritesInteger low high) (number m e) (shortest v) h)
