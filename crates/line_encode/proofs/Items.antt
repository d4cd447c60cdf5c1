-- The items of an array, one after another, and their block.
use Rattle.std.proofs.Common.{◌≡◌, ◌≢◌, ◌∙◌, ℕ, ℤ, zero, suc, pos, ◌+◌, ◌*◌, ◌<◌, ◌≤◌, ◌^◌, List, [], ◌∷◌, ◌++◌, length, set, take, drop, refl, sym, ap, append_assoc, arith}
use Rattle.std.specs.Prelude.{Result, Ok, Err, OnOk}
use Rattle.std.proofs.lemmas.List.{append-nil, length-append}
use Rattle.std.proofs.Math.Seq.{drop-append_seam, set-append_seam, take-append_seam}
use Rattle.avro_container.specs.Shortest.{shortest}
use Rattle.avro_encode.proofs.Groups.{one_group}
use Rattle.json_tree.specs.Reading.{found, array_at, skip, value_at, First}
use Rattle.json_tree.specs.Tree.{Json, array}
use Rattle.json_tree.proofs.Turns.{array-empty, array-end, array-next, array-start, skip-length, ArrayTurn}
use Rattle.json_lend.specs.declared.given_up.GivenUp.{GivenUp}
use Rattle.line_encode.specs.Plans.{block, Adds, Blocks, Form, Reads, ReadsItems, WritesAll, WritesList}
use Rattle.line_encode.proofs.Forms.{all_nil, all_push}

-- the items that were read so far were appended
abbrev pub ItemsSoFar : Form → ℕ → ℕ → List ℕ → List ℕ → List ℕ → List ℕ → Type 0
ItemsSoFar Item d count b r old now = (n : ℕ) × (done : List Json) × (length r ≤ n) × ArrayTurn d n done r b × (length done ≡ count) × Adds (WritesAll Item done) old now

pub items_start : (Item : Form) (d : ℕ) (b r old : List ℕ) → r ≡ skip b → First (λ x t. x ≢ 93) (skip b) → ItemsSoFar Item d 0 b r old old
items_start Item d b r old e f =
    let s = array-start d b r e f in
    (s.0, [], s.1, s.2, refl, ([], sym (append-nil old), refl))

pub none_read : (Item : Form) (d : ℕ) (b r old : List ℕ) → skip b ≡ 93 ∷ r → ReadsItems Item d 0 b r old old
none_read Item d b r old e = ([], array-empty d b r e, refl, omega arith, ([], sym (append-nil old), refl))

module _ (Item : Form) (d count : ℕ) (b r p q s old now new : List ℕ) (so_far : ItemsSoFar Item d count b r old now) (e : p ≡ skip r) (le : length q ≤ length p) (reads : Reads Item (value_at d) p q now new) where
  item : value_at d (skip r) ≡ found reads.0 q
  item = ap (value_at d) (sym e) ∙ reads.1

  added : Adds (WritesAll Item (so_far.1 ++ reads.0 ∷ [])) old new
  added =
      let a = so_far.5 in
      let m = reads.2 in
      (a.0 ++ m.0, m.1 ∙ (ap (λ (xs : List ℕ). xs ++ m.0) a.1 ∙ append_assoc old a.0 m.0), all_push Item so_far.1 reads.0 a.0 m.0 a.2 m.2)

  short : length q ≤ so_far.0
  short = omega (arith, le, ap length e, skip-length r, so_far.2)

  long : length (so_far.1 ++ reads.0 ∷ []) ≡ count + 1
  long = omega (arith, length-append so_far.1 (reads.0 ∷ []), so_far.4)

  pub items_next : skip q ≡ 44 ∷ s → ItemsSoFar Item d (count + 1) b s old new
  items_next c =
      let n = array-next d so_far.0 so_far.1 (so_far.1 ++ reads.0 ∷ []) reads.0 r b q s so_far.3 short item c refl in
      (n.0, so_far.1 ++ reads.0 ∷ [], n.1, n.2, long, added)

  pub items_end : count < 2 ^ 62 → skip q ≡ 93 ∷ s → ReadsItems Item d (count + 1) b s old new
  items_end few c = (so_far.1 ++ reads.0 ∷ [], array-end d so_far.0 so_far.1 (so_far.1 ++ reads.0 ∷ []) reads.0 r b q s so_far.3 short item c refl, long, omega (arith, few), added)

-- ---- the block

zero_byte : shortest (pos 0) ≡ 0 ∷ []
zero_byte = sym (one_group 9 0 (omega arith))

pub no_items : (start count : ℕ) (old : List ℕ) → count ≡ 0 → Blocks start count old old
no_items start count old e before items l is none =
    let zero_block : block count items ≡ 0 ∷ [] = ap (λ (n : ℕ). block n items) e ∙ zero_byte in
    is ∙ (ap (λ (xs : List ℕ). (before ++ 0 ∷ []) ++ xs) (none e) ∙ (append-nil (before ++ 0 ∷ []) ∙ ap (λ (xs : List ℕ). before ++ xs) (sym zero_block)))

pub some_items : (start count x : ℕ) (old mid new : List ℕ) → count ≢ 0 → count ≤ 63 → x ≡ count * 2 → mid ≡ set old start x → new ≡ mid ++ 0 ∷ [] → Blocks start count old new
some_items start zero x old mid new some few is put e before items l o none = absurd (some refl)
some_items start (suc n) x old mid new some few is put e before items l o none =
    let one : shortest (pos (suc n)) ≡ x ∷ [] = sym (one_group 9 (2 * suc n) (omega (arith, few))) ∙ ap (λ (y : ℕ). y ∷ []) (omega (arith, is)) in
    let end : shortest (pos 0) ≡ 0 ∷ [] = zero_byte in
    let there : mid ≡ before ++ x ∷ items =
    put ∙ ap (λ (xs : List ℕ). set xs start x) (o ∙ append_assoc before (0 ∷ []) items) ∙ ap (λ (k : ℕ). set (before ++ 0 ∷ items) k x) (sym l) ∙ set-append_seam before 0 items x in
    e ∙ ap (λ (xs : List ℕ). xs ++ 0 ∷ []) there ∙ append_assoc before (x ∷ items) (0 ∷ []) ∙ (λ i. before ++ (sym one i ++ (items ++ sym end i)))

-- more items, which were moved
pub moved_items : (start count : ℕ) (n : ℤ) (old moved mid counted all new : List ℕ) → count ≢ 0 → n ≡ pos count → moved ≡ drop (start + 1) old → mid ≡ take start old → counted ≡ mid ++ shortest n → all ≡ counted ++ moved → new ≡ all ++ 0 ∷ [] → Blocks start count old new
moved_items start zero n old moved mid counted all new some is m p c a e before items l o none = absurd (some refl)
moved_items start (suc k) n old moved mid counted all new some is m p c a e before items l o none =
    let prefix : take start old ≡ before =
    ap (take start) (o ∙ append_assoc before (0 ∷ []) items) ∙ ap (λ (j : ℕ). take j (before ++ 0 ∷ items)) (sym l) ∙ take-append_seam before (0 ∷ items) in
    let long : length (before ++ 0 ∷ []) ≡ start + 1 = omega (arith, length-append before (0 ∷ []), l) in
    let back : drop (start + 1) old ≡ items = ap (drop (start + 1)) o ∙ ap (λ (j : ℕ). drop j ((before ++ 0 ∷ []) ++ items)) (sym long) ∙ drop-append_seam (before ++ 0 ∷ []) items in
    let number : shortest n ≡ shortest (pos (suc k)) = ap shortest is in
    e ∙ (λ i. a i ++ sym zero_byte i) ∙ ap (λ (xs : List ℕ). (xs ++ moved) ++ shortest (pos 0)) c
    ∙ (λ i. (((p ∙ prefix) i ++ number i) ++ (m ∙ back) i) ++ shortest (pos 0))
    ∙ ap (λ (xs : List ℕ). xs ++ shortest (pos 0)) (append_assoc before (shortest (pos (suc k))) items) ∙ append_assoc before (shortest (pos (suc k)) ++ items) (shortest (pos 0))
    ∙ ap (λ (xs : List ℕ). before ++ xs) (append_assoc (shortest (pos (suc k))) items (shortest (pos 0)))

-- the list of the items that were read
pub list_read : (r : Result (Unit {0}) GivenUp) (Item : Form) (d start count : ℕ) (b q old mid out new : List ℕ) → start ≡ length old → mid ≡ old ++ 0 ∷ [] → ReadsItems Item d count b q mid out → OnOk r (Blocks start count out new) → OnOk r (Reads (WritesList Item) (array_at (value_at d)) b q old new)
list_read (Err g) Item d start count b q old mid out new l p reads blocks = tt
list_read (Ok u) Item d start count b q old mid out new l p (items, is, n, few, (content, a, all)) blocks =
    let counted : length items < 2 ^ 63 = omega (arith, n, few) in
    let e : new ≡ old ++ block count content = blocks old content (sym l) (a ∙ ap (λ (xs : List ℕ). xs ++ content) p) (λ k. all_nil Item items content (n ∙ k) all) in
    (array items, is, (block count content, e, (items, content, refl, counted, all, ap (λ (k : ℕ). block k content) (sym n))))

-- the zero stands there
pub zero_within : (Item : Form) (d start count : ℕ) (b q old mid out : List ℕ) → start ≡ length old → mid ≡ old ++ 0 ∷ [] → ReadsItems Item d count b q mid out → start < length out
zero_within Item d start count b q old mid out l p reads = omega (arith, l, ap length p, length-append old (0 ∷ []), ap length reads.4.1, length-append mid reads.4.0)
