-- Members that are gathered, and those whose names differ.
use Rattle.std.proofs.Common.{◌≡◌, ℕ, Bool, true, false, not, cond, ◌||◌, ◌&&◌, List, [], ◌∷◌, ◌++◌, map, reverse, Some, None, refl, sym, ap, ◌∙◌, append_assoc}
use Rattle.std.proofs.lemmas.List.{append-nil}
use Rattle.std.proofs.lemmas.Bool.{or_from, or_parts, true≢false}
use Rattle.std.proofs.lemmas.Slice.Eq.{bytes_eq-Decides}
use Rattle.std.specs.Str.{bytes_eq}
use Rattle.json_tree.specs.Tree.{Json, or_null}
use Rattle.json_tree.specs.Keys.{first_keys, keys_of, value_of, Gathers}
use Rattle.json_tree.specs.Layout.{distinct, meets, put}
use Rattle.json_tree.specs.Reading.{put_all, put_together}
use Rattle.json_tree.proofs.Gathering.{gathers, gathered-once}
use Rattle.json_flat.specs.Names.{repeat}
use Rattle.json_flat.proofs.DistinctNames.{same_test}
use Rattle.ndjson.specs.Values.{gathered}

abbrev Members : Type 0
Members = List (List ℕ × Json)

same : (x y : List ℕ) → bytes_eq x y ≡ true → x ≡ y
same x y e = (bytes_eq-Decides x y).0 e

itself : (x : List ℕ) → bytes_eq x x ≡ true
itself x = (bytes_eq-Decides x x).1 refl

-- a value for each name
abbrev paired : (List ℕ → Json) → List (List ℕ) → Members
paired f names = map (λ name. (name, f name)) names

paired-keys : (f : List ℕ → Json) (names : List (List ℕ)) → keys_of (paired f names) ≡ names
paired-keys f [] = refl
paired-keys f (n ∷ names) = ap (λ l. n ∷ l) (paired-keys f names)

paired-value : (f : List ℕ → Json) (key : List ℕ) (names : List (List ℕ)) → value_of key (paired f names) ≡ cond (meets key names) (Some (f key)) None
paired-value f key [] = refl
paired-value f key (n ∷ names) =
    at (bytes_eq n key) refl (paired-value f key names) ∙ ap (λ b. cond (b || meets key names) (Some (f key)) None) (same_test n key)
  where
    at : (b : Bool) → bytes_eq n key ≡ b → value_of key (paired f names) ≡ cond (meets key names) (Some (f key)) None
        → cond b (Some (f n)) (value_of key (paired f names)) ≡ cond (b || meets key names) (Some (f key)) None
    at true e h = ap (λ k. Some (f k)) (same n key e)
    at false e h = h

own-value : (key : List ℕ) (members : Members) → value_of key members ≡ cond (meets key (keys_of members)) (Some (or_null (value_of key members))) None
own-value key [] = refl
own-value key (m ∷ members) =
    let own : Json = or_null (cond (bytes_eq m.0 key) (Some m.1) (value_of key members)) in
    at (bytes_eq m.0 key) (own-value key members) ∙ ap (λ b. cond (b || meets key (keys_of members)) (Some own) None) (same_test m.0 key)
  where
    at : (b : Bool) → value_of key members ≡ cond (meets key (keys_of members)) (Some (or_null (value_of key members))) None
        → cond b (Some m.1) (value_of key members) ≡ cond (b || meets key (keys_of members)) (Some (or_null (cond b (Some m.1) (value_of key members)))) None
    at true h = refl
    at false h = h

pub gathered-gathers : (members : Members) → Gathers members (gathered members)
gathered-gathers members = record {
  keys = paired-keys value (first_keys (keys_of members));
  values = λ key.
      paired-value value key (first_keys (keys_of members))
      ∙ ap (λ names. cond (meets key names) (Some (value key)) None) (sym g.keys)
      ∙ ap (λ o. cond (meets key (keys_of whole)) (Some (or_null o)) None) (sym (g.values key))
      ∙ sym (own-value key whole)
      ∙ g.values key;
}
  where
    whole : Members
    whole = put_together members

    value : List ℕ → Json
    value name = or_null (value_of name (reverse members))

    g : Gathers members whole
    g = gathers members

-- ---- members whose names differ

-- each of these members is found by its name
abbrev pub AllFound : Members → Members → Type 0
AllFound all [] = Unit {0}
AllFound all (m ∷ members) = (value_of m.0 all ≡ Some m.1) × AllFound all members

turned : (x y : List ℕ) → bytes_eq x y ≡ false → bytes_eq y x ≡ false
turned x y e = same_test y x ∙ e

-- none of the names is the first, and no two of the others are the same
apart : (met together : Bool) → not (not met && together) ≡ false → (met ≡ false) × (not together ≡ false)
apart true together e = absurd (true≢false e)
apart false together e = (refl, e)

found-behind : (m : List ℕ × Json) (all members : Members) → meets m.0 (keys_of members) ≡ false → AllFound all members → AllFound (m ∷ all) members
found-behind m all [] e h = tt
found-behind m all (o ∷ members) e h =
    let e = or_parts (bytes_eq m.0 o.0) (meets m.0 (keys_of members)) e in
    (ap (λ b. cond b (Some m.1) (value_of o.0 all)) e.0 ∙ h.0, found-behind m all members e.1 h.1)

pub all-found : (members : Members) → repeat (keys_of members) ≡ false → AllFound members members
all-found [] e = tt
all-found (m ∷ members) e =
    let e = apart (meets m.0 (keys_of members)) (distinct (keys_of members)) e in
    (ap (λ b. cond b (Some m.1) (value_of m.0 members)) (itself m.0), found-behind m members members e.0 (all-found members e.1))

put-new : (old : Members) (m : List ℕ × Json) → meets m.0 (keys_of old) ≡ false → put old m ≡ old ++ m ∷ []
unfolding put
put-new [] m e = refl
put-new (o ∷ old) m e =
    let e = or_parts (bytes_eq m.0 o.0) (meets m.0 (keys_of old)) e in
    ap (λ b. cond b ((o.0, m.1) ∷ old) (o ∷ put old m)) (turned m.0 o.0 e.0) ∙ ap (λ l. o ∷ l) (put-new old m e.1)

-- a name that stands behind others is none of these
among-before : (old : Members) (m : List ℕ × Json) (members : Members) → repeat (keys_of (old ++ m ∷ members)) ≡ false → meets m.0 (keys_of old) ≡ false
among-before [] m members e = refl
among-before (o ∷ old) m members e =
    let e = apart (meets o.0 (keys_of (old ++ m ∷ members))) (distinct (keys_of (old ++ m ∷ members))) e in
    or_from _ _ (turned o.0 m.0 (behind old e.0)) (among-before old m members e.1)
  where
    behind : (old : Members) → meets o.0 (keys_of (old ++ m ∷ members)) ≡ false → bytes_eq o.0 m.0 ≡ false
    behind [] e = (or_parts (bytes_eq o.0 m.0) (meets o.0 (keys_of members)) e).0
    behind (p ∷ old) e = behind old (or_parts (bytes_eq o.0 p.0) (meets o.0 (keys_of (old ++ m ∷ members))) e).1

put-all_new : (old members : Members) → repeat (keys_of (old ++ members)) ≡ false → put_all old members ≡ old ++ members
put-all_new old [] e = sym (append-nil old)
put-all_new old (m ∷ members) e =
    let last : (old ++ m ∷ []) ++ members ≡ old ++ m ∷ members = append_assoc old (m ∷ []) members in
    ap (λ l. put_all l members) (put-new old m (among-before old m members e))
    ∙ put-all_new (old ++ m ∷ []) members (ap (λ l. repeat (keys_of l)) last ∙ e) ∙ last

pub gathered-same : (members : Members) → repeat (keys_of members) ≡ false → gathered members ≡ members
gathered-same members e = gathered-once members (gathered members) (gathered-gathers members) ∙ put-all_new [] members e
