-- Texts that are written without spaces: strings, arrays and objects.
use Rattle.std.proofs.Common.{◌≡◌, inl, inr, ℕ, zero, suc, ◌<◌, false, List, [], ◌∷◌, ◌++◌, refl, ap, ◌∙◌, append_assoc, arith}
use Rattle.std.specs.Str.{IsUtf8}
use Rattle.arrow_base.specs.WrittenString.{json_string}
use Rattle.arrow_base.proofs.ReadsBack.{reads_back}
use Rattle.json_text.specs.JsonText.{joined, member as member_text}
use Rattle.json_tree.specs.Tree.{Json, string, array, object}
use Rattle.json_tree.specs.Keys.{Gathers}
use Rattle.ndjson_read.specs.Lines.{is_line_feed}
use Rattle.ndjson.proofs.Clean.{Clean, clean-after, clean-append, clean-before, clean-nil, clean-string}
use Rattle.json_tree.specs.Grammar.{AfterSpaces, Quoted, Scalar, More, Listed, Member, Encodes}

-- the bytes are UTF-8 on one line, and stand for the value with at most so many brackets open at once
abbrev pub Good : ℕ → Json → List ℕ → Type 0
Good d value bytes = Clean bytes × Encodes d value bytes

pub of_scalar : (d : ℕ) (value : Json) (bytes : List ℕ) → Scalar value bytes → Encodes d value bytes
of_scalar zero value bytes h = h
of_scalar (suc d) value bytes h = inl h

-- between two brackets
clean-within : (a z : ℕ) (bytes : List ℕ) → a < 128 → z < 128 → is_line_feed a ≡ false → is_line_feed z ≡ false → Clean bytes → Clean (a ∷ (bytes ++ z ∷ []))
clean-within a z bytes la lz ea ez h = clean-after a (bytes ++ z ∷ []) la ea (clean-before bytes z lz ez h)

-- ---- strings

pub string-good : (d : ℕ) (text : List ℕ) → IsUtf8 text → Good d (string text) (json_string text)
string-good d text utf8 =
    (clean-string text utf8, of_scalar d (string text) (json_string text) (inr (inr (inr (inl (text, (reads_back text utf8).string, refl))))))

-- ---- entries with commas between them

module _ {A : Type 0} (E : A → List ℕ → Type 0) where
  -- each entry by its text
  abbrev pub AllBy : List A → List (List ℕ) → Type 0
  AllBy [] [] = Unit {0}
  AllBy [] (t ∷ ts) = ⊥
  AllBy (x ∷ xs) [] = ⊥
  AllBy (x ∷ xs) (t ∷ ts) = (Clean t × E x t) × AllBy xs ts

-- the texts after the first, each after a comma, and what follows them
abbrev more_text : List (List ℕ) → List ℕ → List ℕ
more_text [] r = r
more_text (t ∷ ts) r = 0x2c ∷ (t ++ more_text ts r)

joined-is : (t : List ℕ) (ts : List (List ℕ)) (r : List ℕ) → joined (t ∷ ts) ++ r ≡ t ++ more_text ts r
joined-is t [] r = refl
joined-is t (u ∷ ts) r = append_assoc t (0x2c ∷ joined (u ∷ ts)) r ∙ ap (λ l. t ++ (0x2c ∷ l)) (joined-is u ts r)

module _ {A : Type 0} (E : A → List ℕ → Type 0) (close : ℕ) where
  more : (xs : List A) (ts : List (List ℕ)) → AllBy E xs ts → More E close xs (more_text ts (close ∷ []))
  more [] [] h = refl
  more [] (t ∷ ts) h = absurd h
  more (x ∷ xs) [] h = absurd h
  more (x ∷ xs) (t ∷ ts) h = (t, [], more_text ts (close ∷ []), h.0.1, tt, more xs ts h.1, refl)

  listed : (xs : List A) (ts : List (List ℕ)) → AllBy E xs ts → Listed E close xs (joined ts ++ close ∷ [])
  listed [] [] h = ([], tt, refl)
  listed [] (t ∷ ts) h = absurd h
  listed (x ∷ xs) [] h = absurd h
  listed (x ∷ xs) (t ∷ ts) h = (t, [], more_text ts (close ∷ []), h.0.1, tt, more xs ts h.1, joined-is t ts (close ∷ []))

joined-clean : {A : Type 0} (E : A → List ℕ → Type 0) (xs : List A) (ts : List (List ℕ)) → AllBy E xs ts → Clean (joined ts)
joined-clean E [] [] h = clean-nil
joined-clean E [] (t ∷ ts) h = absurd h
joined-clean E (x ∷ xs) [] h = absurd h
joined-clean E (x ∷ xs) (t ∷ []) h = h.0.0
joined-clean E (x ∷ xs) (t ∷ u ∷ ts) h = clean-append t (0x2c ∷ joined (u ∷ ts)) h.0.0 (clean-after 0x2c (joined (u ∷ ts)) (omega arith) refl (joined-clean E xs (u ∷ ts) h.1))

-- ---- arrays

abbrev pub Item : ℕ → Json → List ℕ → Type 0
Item d item = AfterSpaces (Encodes d item)

unspaced : (P : List ℕ → Type 0) (bytes : List ℕ) → P bytes → AfterSpaces P bytes
unspaced P bytes h = ([], bytes, tt, h, refl)

pub item-good : (d : ℕ) (value : Json) (bytes : List ℕ) → Good d value bytes → Clean bytes × Item d value bytes
item-good d value bytes h = (h.0, unspaced (Encodes d value) bytes h.1)

pub array-good : (d : ℕ) (xs : List Json) (ts : List (List ℕ)) → AllBy (Item d) xs ts → Good (suc d) (array xs) (0x5b ∷ (joined ts ++ 0x5d ∷ []))
array-good d xs ts h = (
  clean-within 0x5b 0x5d (joined ts) (omega arith) (omega arith) refl refl (joined-clean (Item d) xs ts h),
  inr (inl (xs, joined ts ++ 0x5d ∷ [], listed (Item d) 0x5d xs ts h, refl, refl)),
)

-- ---- objects

pub member-good : (d : ℕ) (name : List ℕ) (value : Json) (bytes : List ℕ) → IsUtf8 name → Good d value bytes
    → Clean (member_text name bytes) × Member (Encodes d) (name, value) (member_text name bytes)
member-good d name value bytes utf8 h = (
  clean-append (json_string name) (0x3a ∷ bytes) (clean-string name utf8) (clean-after 0x3a bytes (omega arith) refl h.0),
  (json_string name, [], bytes, unspaced (Quoted name) (json_string name) (reads_back name utf8).string, tt, unspaced (Encodes d value) bytes h.1, refl),
)

pub object-good : (d : ℕ) (members all : List (List ℕ × Json)) (ts : List (List ℕ)) → AllBy (Member (Encodes d)) members ts → Gathers members all
    → Good (suc d) (object all) (0x7b ∷ (joined ts ++ 0x7d ∷ []))
object-good d members all ts h g = (
  clean-within 0x7b 0x7d (joined ts) (omega arith) (omega arith) refl refl (joined-clean (Member (Encodes d)) members ts h),
  inr (inr (members, all, joined ts ++ 0x7d ∷ [], listed (Member (Encodes d)) 0x7d members ts h, g, refl, refl)),
)
