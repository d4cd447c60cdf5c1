-- The values that rows stand for.
use Rattle.std.proofs.Common.{◌≡◌, ℕ, suc, inl, inr, List, [], ◌∷◌, ◌++◌, length, refl, ap, ap₂, subst}
use Rattle.json_tree.specs.declared.value.Value.{Value}
use Rattle.json_tree.specs.Meaning.{IsJson, IsJsonText}
use Rattle.json_tree.proofs.TextLaws.{one_value}
use Rattle.json_infer.specs.Lists.{Among, SameMembers}
use Rattle.ndjson_read.specs.Needed.{StandFor}

pub as_text : (value : Value) (row : List ℕ) → IsJson value row → IsJsonText value row
as_text value row h = (h.0, (128, h.1))

pub same_values : (rows : List (List ℕ)) (values others : List Value) → StandFor rows values → StandFor rows others → values ≡ others
same_values [] [] [] p q = refl
same_values [] [] (other ∷ others) p q = absurd q
same_values [] (value ∷ values) others p q = absurd p
same_values (row ∷ rows) [] others p q = absurd p
same_values (row ∷ rows) (value ∷ values) [] p q = absurd q
same_values (row ∷ rows) (value ∷ values) (other ∷ others) p q =
    ap₂ (λ (x : Value) (xs : List Value). x ∷ xs) (one_value row value other (as_text value row p.0) (as_text other row q.0)) (same_values rows values others p.1 q.1)

pub stand_for-length : (rows : List (List ℕ)) (values : List Value) → StandFor rows values → length rows ≡ length values
stand_for-length [] [] p = refl
stand_for-length [] (value ∷ values) p = absurd p
stand_for-length (row ∷ rows) [] p = absurd p
stand_for-length (row ∷ rows) (value ∷ values) p = ap suc (stand_for-length rows values p.1)

pub stand_for-append : (rows others : List (List ℕ)) (values more : List Value) → StandFor rows values → StandFor others more → StandFor (rows ++ others) (values ++ more)
stand_for-append [] others [] more p q = q
stand_for-append [] others (value ∷ values) more p q = absurd p
stand_for-append (row ∷ rows) others [] more p q = absurd p
stand_for-append (row ∷ rows) others (value ∷ values) more p q = (p.0, stand_for-append rows others values more p.1 q)

-- a row among them stands for a value
pub stands_for : (prefix : List (List ℕ)) (row : List ℕ) (rest : List (List ℕ)) (values : List Value) → StandFor (prefix ++ row ∷ rest) values → (value : Value) × IsJson value row
stands_for [] row rest [] p = absurd p
stands_for [] row rest (value ∷ values) p = (value, p.0)
stands_for (other ∷ prefix) row rest [] p = absurd p
stands_for (other ∷ prefix) row rest (value ∷ values) p = stands_for prefix row rest values p.1

-- ---- the same rows in another order

row_of : (rows : List (List ℕ)) (values : List Value) (value : Value) → StandFor rows values → Among value values → (row : List ℕ) × Among row rows × IsJson value row
row_of [] [] value p h = absurd h
row_of [] (first ∷ values) value p h = absurd p
row_of (row ∷ rows) [] value p h = absurd p
row_of (row ∷ rows) (first ∷ values) value p (inl is) = (row, inl refl, subst (λ (z : Value). IsJson z row) is p.0)
row_of (row ∷ rows) (first ∷ values) value p (inr later) = let r = row_of rows values value p.1 later in (r.0, inr r.1, r.2)

value_of : (rows : List (List ℕ)) (values : List Value) (row : List ℕ) (value : Value) → StandFor rows values → Among row rows → IsJson value row → Among value values
value_of [] values row value p h is = absurd h
value_of (first ∷ rows) [] row value p h is = absurd p
value_of (first ∷ rows) (x ∷ values) row value p (inl same) is =
    inl (one_value row x value (as_text x row (subst (IsJson x) same p.0)) (as_text value row is))
value_of (first ∷ rows) (x ∷ values) row value p (inr later) is = inr (value_of rows values row value p.1 later is)

value_at : (rows : List (List ℕ)) (values : List Value) (row : List ℕ) → StandFor rows values → Among row rows → (value : Value) × IsJson value row
value_at [] values row p h = absurd h
value_at (first ∷ rows) [] row p h = absurd p
value_at (first ∷ rows) (value ∷ values) row p (inl is) = (value, subst (IsJson value) is p.0)
value_at (first ∷ rows) (value ∷ values) row p (inr later) = value_at rows values row p.1 later

pub same_members : (rows others : List (List ℕ)) (values more : List Value) → StandFor rows values → StandFor others more → SameMembers rows others → SameMembers values more
same_members rows others values more p q same value = (
  λ h. let r = row_of rows values value p h in value_of others more r.0 value q ((same r.0).0 r.1) r.2,
  λ h. let r = row_of others more value q h in value_of rows values r.0 value p ((same r.0).1 r.1) r.2,
)

-- rows that are all among such rows stand for values
pub all_stand : (others rows : List (List ℕ)) (values : List Value) → StandFor rows values → ((row : List ℕ) → Among row others → Among row rows) → (more : List Value) × StandFor others more
all_stand [] rows values p among = ([], tt)
all_stand (row ∷ others) rows values p among =
    let first = value_at rows values row p (among row (inl refl)) in
    let more = all_stand others rows values p (λ other h. among other (inr h)) in
    (first.0 ∷ more.0, (first.1, more.1))
