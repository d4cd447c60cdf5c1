-- Items of an array that were shown, one after another.
use Rattle.std.proofs.Common.{◌≡◌, ℕ, suc, ◌+◌, ◌-◌, ◌<◌, ◌≤◌, ◌==◌, ℤ, pos, negsuc, Bool, true, false, List, [], ◌∷◌, ◌++◌, length, map, codes, Option, Some, None, Result, Ok, Err, OnOk, refl, sym, ap, ◌∙◌, subst, append_assoc, append-nil, arith}
use Rattle.std.specs.Prelude.{if◌then◌else◌}
use Rattle.std.specs.List.{list_all}
use Rattle.std.proofs.lemmas.Bool.Decides.{nat_tests}
use Rattle.std.proofs.lemmas.Option.{none-some, some_pair_parts}
use Rattle.arrow_core.specs.declared.slot.Slot.{Slot}
use Rattle.arrow_core.specs.declared.slot.Slot.TheVariants as slot
use Rattle.arrow_core.specs.declared.types.DataType.{DataType}
use Rattle.avro_schema.specs.declared.schema.Schema.{Schema}
use Rattle.avro_schema.specs.AndThen.{◌>>=◌}
use Rattle.avro_schema.specs.Inferred.{inferred}
use Rattle.avro_reference.specs.Lengths.{as_length, length_at}
use Rattle.avro_reference.specs.Prefix.{Reader, groups_at, number_at}
use Rattle.avro_reference.specs.Read.{push_one, items, block_items, blocks, array_at, read}
use Rattle.json_text.specs.declared.columns.Column.{Column}
use Rattle.json_text.specs.declared.integers.IntegerForm.{IntegerForm}
use Rattle.json_text.specs.Columns.{AreWithin, IsForm}
use Rattle.json_text.specs.JsonText.{joined, text}
use Rattle.json_text.specs.Refusals.{in_range}
use Rattle.json_text.proofs.Records.{and_both}
use Rattle.avro_line.specs.Values.{ShowsSlot, ShowsValue, ShowsItems, ShowsItemsOf, ShowsArray}

-- ---- texts with commas between them

-- what the texts begin with, and the texts
abbrev pub begun : List ℕ → List (List ℕ) → List ℕ
begun opening [] = []
begun opening (t ∷ ts) = opening ++ joined (t ∷ ts)

then_begun : (t : List ℕ) (ts : List (List ℕ)) → t ++ begun (codes ",") ts ≡ joined (t ∷ ts)
then_begun t [] = append-nil t
then_begun t (u ∷ ts) = refl

pub begun_more : (old opening t now new : List ℕ) (ts : List (List ℕ)) → now ≡ (old ++ opening) ++ t → new ≡ now ++ begun (codes ",") ts → new ≡ old ++ begun opening (t ∷ ts)
begun_more old opening t now new ts e d =
    let more : List ℕ = begun (codes ",") ts in
    d ∙ ap (λ z. z ++ more) e ∙ append_assoc (old ++ opening) t more ∙ append_assoc old opening (t ++ more) ∙ ap (λ z. old ++ (opening ++ z)) (then_begun t ts)

begun_with_nothing : (ts : List (List ℕ)) → begun [] ts ≡ joined ts
begun_with_nothing [] = refl
begun_with_nothing (t ∷ ts) = refl

-- ---- items

-- n items were shown after an opening
pub record ItemsFrom (s : Schema) (t : DataType) (opening : List ℕ) (n : ℕ) (before after old new : List ℕ) : Type 0 where
  pub slots : List Slot
  pub read : (first : List Slot) → items (read s) n first before ≡ Some (first ++ slots, after)
  pub shown : new ≡ old ++ begun opening (map (text t) slots)
  pub dates : list_all (in_range t) slots ≡ true

items_none : (s : Schema) (t : DataType) (opening : List ℕ) (n : ℕ) (before old : List ℕ) → n ≡ 0 → ItemsFrom s t opening n before before old old
unfolding items
items_none s t opening n before old z = record {
  slots = [];
  read = λ first. rw z (ap (λ (xs : List Slot). Some (xs, before)) (sym (append-nil first)));
  shown = sym (append-nil old);
  dates = refl;
}

items_more : (s : Schema) (t : DataType) (opening : List ℕ) (n m : ℕ) (before mid after old with_opening now new : List ℕ) → n ≡ suc m → with_opening ≡ old ++ opening → ShowsSlot (read s) t before mid with_opening now → ItemsFrom s t (codes ",") m mid after now new → ItemsFrom s t opening n before after old new
unfolding items push_one
items_more s t opening n m before mid after old with_opening now new e w x more = record {
  slots = x.value ∷ more.slots;
  read = λ first. (rw (e, x.read) (more.read (first ++ x.value ∷ []) ∙ ap (λ (xs : List Slot). Some (xs, after)) (append_assoc first (x.value ∷ []) more.slots)));
  shown = begun_more old opening (text t x.value) now new (map (text t) more.slots) (x.shown ∙ ap (λ z. z ++ text t x.value) w) more.shown;
  dates = and_both _ _ x.dates more.dates;
}

abbrev pub comma_at : ℕ → List ℕ
comma_at k = if k == 0 then [] else codes ","

-- k of n items were shown: if the others are, all are
abbrev pub ItemsUnderway : Schema → DataType → ℕ → ℕ → List ℕ → List ℕ → List ℕ → List ℕ → Type 0
ItemsUnderway s t n k before rest old out = (after new : List ℕ) → ItemsFrom s t (comma_at k) (n - k) rest after out new → ItemsFrom s t [] n before after old new

pub items_begun : (s : Schema) (t : DataType) (n : ℕ) (before old : List ℕ) → ItemsUnderway s t n 0 before before old old
items_begun s t n before old after new h = let all : n - 0 ≡ n = omega arith in subst (λ (m : ℕ). ItemsFrom s t [] m before after old new) all h

pub items_next : (s : Schema) (form : IntegerForm) (columns : List Column) (t : DataType) (n k : ℕ) (before rest mid old out with_comma now : List ℕ) → k < n → inferred s ≡ Some t → IsForm form t → AreWithin t columns
    → ItemsUnderway s t n k before rest old out → with_comma ≡ out ++ comma_at k → ShowsValue s form columns rest mid with_comma now → ItemsUnderway s t n (k + 1) before mid old now
items_next s form columns t n k before rest mid old out with_comma now lt is f w h c x after new more =
    let later : ((k + 1) == 0) ≡ false = grind (arith, nat_tests) in
    let comma : comma_at (k + 1) ≡ codes "," = ap (λ (b : Bool). if b then [] else codes ",") later in
    let left : n - k ≡ suc (n - (k + 1)) = omega (arith, lt) in
    h after new (items_more s t (comma_at k) (n - k) (n - (k + 1)) rest mid after out with_comma now new left c (x t is f w) (subst (λ (z : List ℕ). ItemsFrom s t z (n - (k + 1)) mid after now new) comma more))

pub items_ended : (s : Schema) (t : DataType) (n k : ℕ) (before rest old out : List ℕ) → n ≤ k → ItemsUnderway s t n k before rest old out → ShowsItems s t n before rest old out
items_ended s t n k before rest old out le h =
    let none : n - k ≡ 0 = omega (arith, le) in
    let all = h rest out (items_none s t (comma_at k) (n - k) rest out none) in
    record { slots = all.slots; read = all.read []; shown = all.shown ∙ ap (λ z. old ++ z) (begun_with_nothing (map (text t) all.slots)); dates = all.dates }

-- ---- arrays

abbrev with_rest : List ℕ → ℕ → Option (ℕ × List ℕ)
with_rest rest n = Some (n, rest)

abbrev length_of : ℤ × List ℕ → Option (ℕ × List ℕ)
length_of v = (as_length v.0 >>= with_rest v.1)

number_of_length : (bytes mid : List ℕ) (n : ℕ) → length_at bytes ≡ Some (n, mid) → number_at bytes ≡ Some (pos n, mid)
unfolding length_at
number_of_length bytes mid n e = from (number_at bytes) e
  where
    from : (o : Option (ℤ × List ℕ)) → (o >>= length_of) ≡ Some (n, mid) → o ≡ Some (pos n, mid)
    from None h = absurd cc
    from (Some (pos k, rest)) h = let p = some_pair_parts k n rest mid h in rw (p.0, p.1) refl
    from (Some (negsuc k, rest)) h = absurd cc

no_number : number_at [] ≡ None
unfolding number_at groups_at
no_number = refl

no_items : (f : Reader Slot) (before after : List ℕ) → number_at before ≡ Some (pos 0, after) → array_at f before ≡ Some (slot.List [], after)
unfolding array_at blocks
no_items f before after e = rw e refl

one_block : (f : Reader Slot) (fuel n : ℕ) (before mid back after : List ℕ) (xs : List Slot) → number_at before ≡ Some (pos n, mid) → (n == 0) ≡ false → items f n [] mid ≡ Some (xs, back) → number_at back ≡ Some (pos 0, after) → blocks f (suc (suc fuel)) [] before ≡ Some (xs, after)
unfolding blocks block_items
one_block f fuel n before mid back after xs e z i d = rw (e, z, i, d) refl

array_read : (f : Reader Slot) (n : ℕ) (before mid back after : List ℕ) (xs : List Slot) → number_at before ≡ Some (pos n, mid) → (n == 0) ≡ false → items f n [] mid ≡ Some (xs, back) → number_at back ≡ Some (pos 0, after) → array_at f before ≡ Some (slot.List xs, after)
unfolding array_at
array_read f n [] mid back after xs e z i d = absurd (none-some (pos n, mid) (sym no_number ∙ e))
array_read f n (b ∷ bytes) mid back after xs e z i d = ap (λ (o : Option (List Slot × List ℕ)). o >>= λ ys. Some (slot.List ys.0, ys.1)) (one_block f (length bytes) n (b ∷ bytes) mid back after xs e z i d)

module _ (s : Schema) (form : IntegerForm) (columns : List Column) where
  pub empty_shown : (before after old new : List ℕ) (n : ℕ) → length_at before ≡ Some (n, after) → n ≡ 0 → new ≡ old ++ codes "[]" → ShowsArray s form columns before after old new
  empty_shown before after old new n e z h t is f w =
      record { slots = []; read = no_items (read s) before after (number_of_length before after 0 (e ∙ ap (λ (k : ℕ). Some (k, after)) z)); shown = h; dates = refl }

  array_shown : (before mid back after old opened now new : List ℕ) (n : ℕ) → length_at before ≡ Some (n, mid) → (n ≡ 0 → ⊥) → opened ≡ old ++ codes "[" → ShowsItemsOf s form columns n mid back opened now → length_at back ≡ Some (0, after) → new ≡ now ++ codes "]" → ShowsArray s form columns before after old new
  array_shown before mid back after old opened now new n e z o items d c t is f w =
      let shown = items t is f w in
      let ts : List ℕ = joined (map (text t) shown.slots) in
      let some : (n == 0) ≡ false = grind (arith, nat_tests, z) in
      record {
        slots = shown.slots;
        read = array_read (read s) n before mid back after shown.slots (number_of_length before mid n e) some shown.read (number_of_length back after 0 d);
        shown = c ∙ ap (λ z. z ++ codes "]") (shown.shown ∙ ap (λ z. z ++ ts) o) ∙ append_assoc (old ++ codes "[") ts (codes "]") ∙ append_assoc old (codes "[") (ts ++ codes "]");
        dates = shown.dates;
      }

  pub if_array : {X E : Type 0} (r : Result X E) (before mid back after old opened now new : List ℕ) (n : ℕ) → length_at before ≡ Some (n, mid) → (n ≡ 0 → ⊥) → opened ≡ old ++ codes "[" → ShowsItemsOf s form columns n mid back opened now → OnOk r (length_at back ≡ Some (0, after)) → OnOk r (new ≡ now ++ codes "]") → OnOk r (ShowsArray s form columns before after old new)
  if_array (Ok x) before mid back after old opened now new n e z o items d c = array_shown before mid back after old opened now new n e z o items d c
  if_array (Err x) before mid back after old opened now new n e z o items d c = tt
