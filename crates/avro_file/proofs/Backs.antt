-- What a written text is read as, for one schema, field or record, and for all of a list.
use Rattle.std.proofs.Common.{◌≡◌, ℕ, zero, suc, ◌≤◌, Bool, true, List, [], ◌∷◌, map, Some, refl, arith}
use Rattle.arrow_base.specs.WrittenString.{json_string}
use Rattle.json_tree.specs.Tree.{Json, string}
use Rattle.json_tree.specs.Grammar.{Encodes}
use Rattle.avro_file.specs.Attributes.{strings_of}
use Rattle.avro_file.specs.Outcome.{Outcome, found, each}
use Rattle.avro_file.specs.Writable.{all_fit}
use Rattle.avro_file.proofs.Digits.{parts}
use Rattle.avro_file.proofs.JsonTexts.{AllEncode, string_encodes}
use Rattle.avro_file.proofs.Layers.{string_is}
use Rattle.avro_file.proofs.Nesting.{greatest}

-- the text of a is that of a value with at most d brackets open at once, which is read as a
pub record Back {A : Type 0} (text : A → List ℕ) (read : ℕ → Json → Outcome A) (d : ℕ) (a : A) : Type 0 where
  pub value : Json
  pub encodes : Encodes d value (text a)
  pub reads : (k : ℕ) → d ≤ k → read k value ≡ found a

pub record AllBack {A : Type 0} (text : A → List ℕ) (read : ℕ → Json → Outcome A) (d : ℕ) (ys : List A) : Type 0 where
  pub items : List Json
  pub encode : AllEncode d items (map text ys)
  pub reads : (k : ℕ) → d ≤ k → each (map (read k) items) ≡ found ys

-- a is read back at each depth from its own on, where its numbers fit
abbrev pub IsBack : {A : Type 0} → (A → List ℕ) → (ℕ → Json → Outcome A) → (A → Bool) → (A → ℕ) → A → Type 0
IsBack text read fits depth a = fits a ≡ true → (d : ℕ) → depth a ≤ d → Back text read d a

module _ {A Y : Type 0} (text : A → List ℕ) (read : ℕ → Json → Outcome A) (fits : A → Bool) (depth : A → ℕ) (f : Y → A) (t : (y : Y) → IsBack text read fits depth (f y)) where
  pub all_back : (ys : List Y) (d : ℕ) → all_fit (map fits (map f ys)) ≡ true → greatest (map depth (map f ys)) ≤ d → AllBack text read d (map f ys)
  all_back [] d h l = record { items = []; encode = tt; reads = λ k m. refl }
  all_back (y ∷ ys) d h l =
      let p = parts (fits (f y)) (all_fit (map fits (map f ys))) h in
      let one = t y p.0 d (omega (arith, l)) in
      let more = all_back ys d p.1 (omega (arith, l)) in
      record {
        items = one.value ∷ more.items;
        encode = (one.encodes, more.encode);
        reads = λ k m. rw (one.reads k m, more.reads k m) refl;
      }

-- from one depth on, by the depth below
pub above : (d : ℕ) (P : ℕ → Type 0) → ((k : ℕ) → d ≤ k → P (suc k)) → (k : ℕ) → suc d ≤ k → P k
above d P h zero m = absurd (omega (arith, m))
above d P h (suc k) m = h k (omega (arith, m))

-- ---- strings

pub strings_encode : (d : ℕ) (texts : List (List ℕ)) → AllEncode d (map string texts) (map json_string texts)
strings_encode d [] = tt
strings_encode d (t ∷ ts) = (string_encodes d t, strings_encode d ts)

pub strings_are : (texts : List (List ℕ)) → strings_of (map string texts) ≡ Some texts
unfolding strings_of
strings_are [] = refl
strings_are (t ∷ ts) = rw (string_is (string t) t refl, strings_are ts) refl
