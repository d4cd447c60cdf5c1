-- What stands in a JSON value whose text is UTF-8: strings are UTF-8, and what stands in brackets is in one bracket less.
use Rattle.std.proofs.Common.{◌≡◌, ◌∙◌, inl, inr, ℕ, zero, suc, ◌≤◌, Bool, true, false, cond, List, [], ◌∷◌, ◌++◌, Some, refl, sym, ap, subst, append_assoc, arith}
use Rattle.std.specs.List.{AllByRecursion}
use Rattle.std.specs.Str.{IsUtf8, bytes_eq}
use Rattle.std.proofs.lemmas.List.{append-nil}
use Rattle.std.proofs.lemmas.Option.{none-some, same_Some}
use Rattle.json_tree.specs.Grammar.{AfterSpaces, Encodes, Listed, Member, More, Scalar}
use Rattle.json_tree.specs.Keys.{value_of}
use Rattle.json_tree.specs.Layout.{put}
use Rattle.json_tree.specs.Meaning.{IsJson}
use Rattle.json_tree.specs.Reading.{put_all}
use Rattle.json_tree.specs.Tree.{Json, has_point}
use Rattle.json_tree.specs.declared.value.Number.TheVariants.{Float, Integer}
use Rattle.json_tree.specs.declared.value.Object.{Object as Attributes}
use Rattle.json_tree.specs.declared.value.Value.{Value, Value-F, out-Value}
use Rattle.json_tree.specs.declared.value.Value.TheOpen as layer
use Rattle.json_tree.specs.declared.value.Value.TheVariants as variant
use Rattle.json_tree.proofs.Gathering.{gathered-once}
use Rattle.arrow_convert.proofs.MeantStrings.{quoted_utf8}

-- ---- bytes within a text

abbrev IsPart : List ℕ → Type 0
IsPart bytes = (before : List ℕ) × (after : List ℕ) × IsUtf8 (before ++ (bytes ++ after))

part_first : (a b whole : List ℕ) → whole ≡ a ++ b → IsPart whole → IsPart a
part_first a b whole e p = (p.0, b ++ p.1, subst IsUtf8 (ap (λ l. p.0 ++ l) (ap (λ l. l ++ p.1) e ∙ append_assoc a b p.1)) p.2)

part_last : (a b whole : List ℕ) → whole ≡ a ++ b → IsPart whole → IsPart b
part_last a b whole e p = (p.0 ++ a, p.1, subst IsUtf8 (ap (λ l. p.0 ++ l) (ap (λ l. l ++ p.1) e ∙ append_assoc a b p.1) ∙ sym (append_assoc p.0 a (b ++ p.1))) p.2)

-- a value within such a text, in which at most d brackets are open at once
abbrev pub Stands : ℕ → Json → Type 0
Stands d x = (e : ℕ) × (e ≤ d) × (b : List ℕ) × Encodes e x b × IsPart b

abbrev pub AllStand : ℕ → List Json → Type 0
AllStand d = AllByRecursion (Stands d)

abbrev pub ValuesStand : ℕ → List (List ℕ × Json) → Type 0
ValuesStand d = AllByRecursion (λ (m : List ℕ × Json). Stands d m.1)

abbrev Spaced : ℕ → Json → List ℕ → Type 0
Spaced e item = AfterSpaces (Encodes e item)

one_stands : (d e : ℕ) → e ≤ d → (x : Json) (b : List ℕ) → Spaced e x b → IsPart b → Stands d x
one_stands d e l x b h p = (e, l, h.1, h.3, part_last h.0 h.1 b h.4 p)

member_stands : (d e : ℕ) → e ≤ d → (m : List ℕ × Json) (b : List ℕ) → Member (Encodes e) m b → IsPart b → Stands d m.1
member_stands d e l m b h p =
    let rest : IsPart (h.1 ++ 0x3a ∷ h.2) = part_last h.0 (h.1 ++ 0x3a ∷ h.2) b h.6 p in
    let colon : IsPart (0x3a ∷ h.2) = part_last h.1 (0x3a ∷ h.2) (h.1 ++ 0x3a ∷ h.2) refl rest in
    one_stands d e l m.1 h.2 h.5 (part_last (0x3a ∷ []) h.2 (0x3a ∷ h.2) refl colon)

-- ---- what arrays and objects hold

module _ {A : Type 0} (Entry : A → List ℕ → Type 0) (close : ℕ) (P : A → Type 0) (one : (x : A) (b : List ℕ) → Entry x b → IsPart b → P x) where
  after_entry : (entry spaces rest whole : List ℕ) → whole ≡ entry ++ (spaces ++ rest) → IsPart whole → IsPart rest
  after_entry entry spaces rest whole e p = part_last spaces rest (spaces ++ rest) refl (part_last entry (spaces ++ rest) whole e p)

  more_hold : (xs : List A) (b : List ℕ) → More Entry close xs b → IsPart b → AllByRecursion P xs
  more_hold [] b h p = tt
  more_hold (x ∷ xs) b h p =
      let q : IsPart (h.0 ++ (h.1 ++ h.2)) = part_last (0x2c ∷ []) (h.0 ++ (h.1 ++ h.2)) b h.6 p in
      (one x h.0 h.3 (part_first h.0 (h.1 ++ h.2) (h.0 ++ (h.1 ++ h.2)) refl q), more_hold xs h.2 h.5 (after_entry h.0 h.1 h.2 (h.0 ++ (h.1 ++ h.2)) refl q))

  listed_hold : (xs : List A) (b : List ℕ) → Listed Entry close xs b → IsPart b → AllByRecursion P xs
  listed_hold [] b h p = tt
  listed_hold (x ∷ xs) b h p = (one x h.0 h.3 (part_first h.0 (h.1 ++ h.2) b h.6 p), more_hold xs h.2 h.5 (after_entry h.0 h.1 h.2 b h.6 p))

put_stand : (d : ℕ) (ms : List (List ℕ × Json)) (m : List ℕ × Json) → ValuesStand d ms → Stands d m.1 → ValuesStand d (put ms m)
unfolding put
put_stand d [] m h w = (w, tt)
put_stand d (o ∷ os) m h w = at (bytes_eq o.0 m.0) (put_stand d os m h.1 w)
  where
    at : (b : Bool) → ValuesStand d (put os m) → ValuesStand d (cond b ((o.0, m.1) ∷ os) (o ∷ put os m))
    at true r = (w, h.1)
    at false r = (h.0, r)

put_all_stand : (d : ℕ) (old ms : List (List ℕ × Json)) → ValuesStand d old → ValuesStand d ms → ValuesStand d (put_all old ms)
put_all_stand d old [] h k = h
put_all_stand d old (m ∷ ms) h k = put_all_stand d (put old m) ms (put_stand d old m h k.0) k.1

pub value_stands : (d : ℕ) (ms : List (List ℕ × Json)) (key : List ℕ) (v : Json) → ValuesStand d ms → value_of key ms ≡ Some v → Stands d v
value_stands d [] key v h e = absurd (none-some v e)
value_stands d (m ∷ ms) key v h e = at (bytes_eq m.0 key) e (value_stands d ms key v h.1)
  where
    at : (b : Bool) → cond b (Some m.1) (value_of key ms) ≡ Some v → (value_of key ms ≡ Some v → Stands d v) → Stands d v
    at true e r = subst (Stands d) (same_Some m.1 v e) h.0
    at false e r = r e

-- ---- what a value holds

abbrev pub Holds : ℕ → Value-F Value Attributes → Type 0
Holds d (layer.String text) = IsUtf8 text
Holds d (layer.Array items) = AllStand d items
Holds d (layer.Object o) = ValuesStand d o.members
Holds d _ = Unit {0}

-- a value without brackets holds what it holds, however deep
abbrev pub HoldsBare : Value-F Value Attributes → Type 0
HoldsBare (layer.String text) = IsUtf8 text
HoldsBare (layer.Array items) = ⊥
HoldsBare (layer.Object o) = ⊥
HoldsBare _ = Unit {0}

scalar_bare : (x : Json) (b : List ℕ) → Scalar x b → IsPart b → HoldsBare (out-Value x)
scalar_bare x b (inl h) p = subst HoldsBare (sym (ap out-Value h.0 ∙ variant.outs-Null)) tt
scalar_bare x b (inr (inl h)) p = subst HoldsBare (sym (ap out-Value h.0 ∙ variant.outs-Bool true)) tt
scalar_bare x b (inr (inr (inl h))) p = subst HoldsBare (sym (ap out-Value h.0 ∙ variant.outs-Bool false)) tt
scalar_bare x b (inr (inr (inr (inl h)))) p =
    let text : IsUtf8 h.0 = quoted_utf8 p.0 h.1.0 p.1 h.0 h.1.2 (subst (λ z. IsUtf8 (p.0 ++ (z ++ p.1))) h.1.1 p.2) in
    subst HoldsBare (sym (ap out-Value h.2 ∙ variant.outs-String h.0)) text
scalar_bare x b (inr (inr (inr (inr h)))) p = subst HoldsBare (sym (ap out-Value h.3 ∙ variant.outs-Number (cond (has_point h.0) (Float h.0 h.1) (Integer h.0 h.1)))) tt

pub bare_holds : (d : ℕ) (y : Value-F Value Attributes) → HoldsBare y → Holds d y
bare_holds d layer.Null h = tt
bare_holds d (layer.Bool b) h = tt
bare_holds d (layer.Number n) h = tt
bare_holds d (layer.String text) h = h
bare_holds d (layer.Array items) h = absurd h
bare_holds d (layer.Object o) h = absurd h

holds : (d e : ℕ) → e ≤ suc d → (x : Json) (b : List ℕ) → Encodes e x b → IsPart b → Holds d (out-Value x)
holds d zero l x b h p = bare_holds d (out-Value x) (scalar_bare x b h p)
holds d (suc e) l x b (inl h) p = bare_holds d (out-Value x) (scalar_bare x b h p)
holds d (suc e) l x b (inr (inl h)) p =
    let inside : IsPart h.1 = part_last (0x5b ∷ []) h.1 b h.4 p in
    subst (Holds d) (sym (ap out-Value h.3 ∙ variant.outs-Array h.0)) (listed_hold (Spaced e) 0x5d (Stands d) (one_stands d e (omega (arith, l))) h.0 h.1 h.2 inside)
holds d (suc e) l x b (inr (inr h)) p =
    let inside : IsPart h.2 = part_last (0x7b ∷ []) h.2 b h.6 p in
    let each = listed_hold (Member (Encodes e)) 0x7d (λ (m : List ℕ × Json). Stands d m.1) (member_stands d e (omega (arith, l))) h.0 h.2 h.3 inside in
    let all = put_all_stand d [] h.0 tt each in
    subst (Holds d) (sym (ap out-Value h.5 ∙ variant.outs-Object (record { members = h.1 }))) (subst (ValuesStand d) (sym (gathered-once h.0 h.1 h.4)) all)

-- in brackets there is one bracket less
pub stands_hold : (d : ℕ) (x : Json) → Stands (suc d) x → Holds d (out-Value x)
stands_hold d x w = holds d w.0 w.1 x w.2 w.3 w.4

-- and where no bracket is open there is none
bare_within : (e : ℕ) → e ≤ 0 → (x : Json) (b : List ℕ) → Encodes e x b → IsPart b → HoldsBare (out-Value x)
bare_within zero l x b h p = scalar_bare x b h p
bare_within (suc e) l x b h p = absurd (omega (arith, l))

pub stands_bare : (x : Json) → Stands zero x → HoldsBare (out-Value x)
stands_bare x w = bare_within w.0 w.1 x w.2 w.3 w.4

-- the string of a value that is one
pub string_held : (d : ℕ) (x : Json) → Stands d x → (text : List ℕ) → out-Value x ≡ layer.String text → IsUtf8 text
string_held d x w text e = subst (Holds d) e (holds d w.0 (omega (arith, w.1)) x w.2 w.3 w.4)

-- a whole JSON text in which at most 128 brackets are open at once
pub whole_stands : (x : Json) (text : List ℕ) → IsJson x text → Stands 128 x
whole_stands x text j =
    let whole : IsPart text = ([], [], subst IsUtf8 (sym (append-nil text)) j.0) in
    let first = part_first j.1.0 j.1.1 text j.1.4 whole in
    (128, omega arith, j.1.2.1, j.1.2.3, part_last j.1.2.0 j.1.2.1 j.1.0 j.1.2.4 first)
