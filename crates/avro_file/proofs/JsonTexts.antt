-- JSON texts that are written without spaces.
use Rattle.std.proofs.Common.{◌≡◌, inl, inr, ℕ, zero, suc, List, [], ◌∷◌, ◌++◌, flat_map, Option, Some, None, codes, refl, sym, ap, ◌∙◌, subst, append_assoc}
use Rattle.arrow_base.specs.WrittenString.{escaped, json_string}
use Rattle.arrow_base.proofs.ReadsBack.{escaped-chars}
use Rattle.json_tree.specs.Tree.{Json, string, array, object}
use Rattle.json_tree.specs.Keys.{Gathers}
use Rattle.json_tree.specs.Grammar.{AfterSpaces, Quoted, Scalar, More, Listed, Member, Encodes}
use Rattle.json_tree.specs.Reading.{put_together}
use Rattle.json_tree.proofs.Gathering.{gathers}
use Rattle.arrow_base.specs.Joined.{joined}
use Rattle.avro_file.specs.Writing.{given}

pub quoted : (text : List ℕ) → Quoted text (json_string text)
quoted text = (flat_map escaped text, refl, escaped-chars text)

pub of_scalar : (d : ℕ) (value : Json) (bytes : List ℕ) → Scalar value bytes → Encodes d value bytes
of_scalar zero value bytes h = h
of_scalar (suc d) value bytes h = inl h

pub string_encodes : (d : ℕ) (text : List ℕ) → Encodes d (string text) (json_string text)
string_encodes d text = of_scalar d (string text) (json_string text) (inr (inr (inr (inl (text, quoted text, refl)))))

unspaced : (P : List ℕ → Type 0) (bytes : List ℕ) → P bytes → AfterSpaces P bytes
unspaced P bytes h = ([], bytes, tt, h, refl)

-- ---- arrays

-- each value by its bytes
abbrev pub AllEncode : ℕ → List Json → List (List ℕ) → Type 0
AllEncode d [] [] = Unit {0}
AllEncode d [] (t ∷ ts) = ⊥
AllEncode d (x ∷ xs) [] = ⊥
AllEncode d (x ∷ xs) (t ∷ ts) = Encodes d x t × AllEncode d xs ts

abbrev Item : ℕ → Json → List ℕ → Type 0
Item d item = AfterSpaces (Encodes d item)

more_items : (d : ℕ) (xs : List Json) (ts : List (List ℕ)) → AllEncode d xs ts → More (Item d) 0x5d xs (flat_map (λ next. codes "," ++ next) ts ++ 0x5d ∷ [])
more_items d [] [] h = refl
more_items d [] (t ∷ ts) h = absurd h
more_items d (x ∷ xs) [] h = absurd h
more_items d (x ∷ xs) (t ∷ ts) h =
    let rest = flat_map (λ next. codes "," ++ next) ts in
    (t, [], rest ++ 0x5d ∷ [], unspaced (Encodes d x) t h.0, tt, more_items d xs ts h.1, ap (λ l. 0x2c ∷ l) (append_assoc t rest (0x5d ∷ [])))

listed_items : (d : ℕ) (xs : List Json) (ts : List (List ℕ)) → AllEncode d xs ts → Listed (Item d) 0x5d xs (joined ts ++ 0x5d ∷ [])
listed_items d [] [] h = ([], tt, refl)
listed_items d [] (t ∷ ts) h = absurd h
listed_items d (x ∷ xs) [] h = absurd h
listed_items d (x ∷ xs) (t ∷ ts) h =
    let rest = flat_map (λ next. codes "," ++ next) ts in
    (t, [], rest ++ 0x5d ∷ [], unspaced (Encodes d x) t h.0, tt, more_items d xs ts h.1, append_assoc t rest (0x5d ∷ []))

pub array_encodes : (d : ℕ) (xs : List Json) (ts : List (List ℕ)) → AllEncode d xs ts → Encodes (suc d) (array xs) (0x5b ∷ (joined ts ++ 0x5d ∷ []))
array_encodes d xs ts h = inr (inl (xs, joined ts ++ 0x5d ∷ [], listed_items d xs ts h, refl, refl))

-- ---- objects

abbrev pub Members : Type 0
Members = List (List ℕ × Json)

-- what follows a member of an object
abbrev pub MoreMembers : ℕ → Members → List ℕ → Type 0
MoreMembers d = More (Member (Encodes d)) 0x7d

pub no_more : (d : ℕ) → MoreMembers d [] (0x7d ∷ [])
no_more d = refl

member : (d : ℕ) (key : List ℕ) (value : Json) (bytes : List ℕ) → Encodes d value bytes → Member (Encodes d) (key, value) (json_string key ++ 0x3a ∷ bytes)
member d key value bytes h =
    (json_string key, [], bytes, unspaced (Quoted key) (json_string key) (quoted key), tt, unspaced (Encodes d value) bytes h, refl)

-- a member that is there where its text is given
abbrev pub optional : List ℕ → Option (List ℕ) → Members → Members
optional key None ms = ms
optional key (Some text) ms = (key, string text) ∷ ms

module _ (d : ℕ) (key : List ℕ) where
  module _ (value : Json) (bytes : List ℕ) (ms : Members) (rest : List ℕ) (h : Encodes d value bytes) (m : MoreMembers d ms rest) where
    pub one_more_member : MoreMembers d ((key, value) ∷ ms) (0x2c ∷ (json_string key ++ 0x3a ∷ (bytes ++ rest)))
    one_more_member =
        (json_string key ++ 0x3a ∷ bytes, [], rest, member d key value bytes h, tt, m, ap (λ l. 0x2c ∷ l) (sym (append_assoc (json_string key) (0x3a ∷ bytes) rest)))

    pub object_encodes : put_together ((key, value) ∷ ms) ≡ ((key, value) ∷ ms) → Encodes (suc d) (object ((key, value) ∷ ms)) (0x7b ∷ (json_string key ++ 0x3a ∷ (bytes ++ rest)))
    object_encodes e =
        let all = (key, value) ∷ ms in
        let inside = json_string key ++ 0x3a ∷ (bytes ++ rest) in
        let listed : Listed (Member (Encodes d)) 0x7d all inside =
        (json_string key ++ 0x3a ∷ bytes, [], rest, member d key value bytes h, tt, m, sym (append_assoc (json_string key) (0x3a ∷ bytes) rest)) in
        let gathered : Gathers all all = subst (λ (o : Members). Gathers all o) e (gathers all) in
        inr (inr (all, all, inside, listed, gathered, refl, refl))

  flat : (q s r : List ℕ) → ((0x2c ∷ (q ++ 0x3a ∷ [])) ++ s) ++ r ≡ 0x2c ∷ (q ++ 0x3a ∷ (s ++ r))
  flat q s r = simp append_assoc

  pub optional_member : (before : List ℕ) (o : Option (List ℕ)) (ms : Members) (rest : List ℕ) → before ≡ 0x2c ∷ (json_string key ++ 0x3a ∷ []) → MoreMembers d ms rest → MoreMembers d (optional key o ms) (given before o ++ rest)
  optional_member before None ms rest e m = m
  optional_member before (Some text) ms rest e m =
      let is : (before ++ json_string text) ++ rest ≡ 0x2c ∷ (json_string key ++ 0x3a ∷ (json_string text ++ rest)) =
      ap (λ b. (b ++ json_string text) ++ rest) e ∙ flat (json_string key) (json_string text) rest in
      subst (λ b. MoreMembers d ((key, string text) ∷ ms) b) (sym is)
      (one_more_member (string text) (json_string text) ms rest (string_encodes d text) m)
