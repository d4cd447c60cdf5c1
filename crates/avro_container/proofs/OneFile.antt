-- A file means one thing, and the canonical file is a file.
use Rattle.std.proofs.Common.{◌≡◌, ℕ, zero, suc, ◌^◌, ◌<◌, pos, List, [], ◌∷◌, ◌++◌, length, codes, Some, get_or, refl, sym, ◌∙◌, ap, subst, append_assoc, arith}
use Rattle.std.proofs.lemmas.List.{append-nil, append_cancel_left}
use Rattle.avro_schema.specs.Number.{AreGroups, Number}
use Rattle.avro_schema.specs.Parts.{Grammar, Then, Meaning, Raw, Many, BlockOf, Blocks}
use Rattle.avro_schema.specs.Parts as parts
use Rattle.avro_schema.specs.Encodes.{Any}
use Rattle.avro_schema.proofs.WholePrefixes.{Reads, number_reads, then_reads, meaning_reads, raw_reads, blocks_read}
use Rattle.std.specs.Str.{IsUtf8}
use Rattle.std.proofs.lemmas.Str.{IsUtf8-from_ascii}
use Rattle.avro_container.specs.Canonical.{counted_bytes, canonical_header, canonical_block, canonical_blocks}
use Rattle.avro_container.specs.File.{IsCount, count_of, the_entry, magic, header_parts, FileBlock, the_block, IsFileBlock, Sequence, none, one, schema_entry}
use Rattle.avro_container.specs.FileForms.{entry, key_form, after_key, magic_form, after_magic, after_map, header, after_size, after_rows, marked_block}
use Rattle.avro_container.specs.Forms.{raw, count, sized}
use Rattle.avro_container.specs.Laws.{OneMeaning, OneFile, AllSmall, CanonicalIsFile}
use Rattle.avro_container.specs.Shortest.{shortest}
use Rattle.avro_container.proofs.ShortestLemmas.{shortest_is}

pub count_reads : Reads count.whole
count_reads = meaning_reads Number IsCount count_of number_reads

pub sized_reads : Reads sized.whole
sized_reads = then_reads count.whole (λ n. (raw n).whole) count_reads raw_reads

pub entry_reads : Reads entry.whole
entry_reads =
    then_reads key_form.whole (λ k. (after_key k).whole) (meaning_reads sized.whole IsUtf8 (λ k. k) sized_reads)
    (λ k. meaning_reads sized.whole Any (the_entry k) sized_reads)

pub header_reads : Reads header.whole
header_reads =
    then_reads magic_form.whole (λ _. after_magic.whole) (meaning_reads (Raw 4) (λ b. b ≡ magic) (λ b. b) (raw_reads 4))
    (λ _. then_reads (Blocks entry.whole) (λ es. (after_map es).whole) (blocks_read entry.whole entry_reads) (λ es. meaning_reads (Raw 16) Any (header_parts es) (raw_reads 16)))

pub block_reads : Reads marked_block.whole
block_reads =
    then_reads count.whole (λ n. (after_rows n).whole) count_reads
    (λ n. then_reads count.whole (λ s. (after_size n s).whole) count_reads
    (λ s. then_reads (Raw s) (λ b. Meaning (Raw 16) Any (λ m. (the_block n b, m))) (raw_reads s)
    (λ b. meaning_reads (Raw 16) Any (λ m. (the_block n b, m)) (raw_reads 16))))

file_block_reads : (m : List ℕ) → Reads (IsFileBlock m)
file_block_reads m a b x y v w p q e = let both = block_reads a b x y (v, m) (w, m) p q e in (both.0, ap (λ (z : FileBlock × List ℕ). z.0) both.1)

pub groups_some : (b : List ℕ) → AreGroups b → b ≡ [] → ⊥
groups_some [] h e = h
groups_some (x ∷ b) h e = absurd cc

pub prefix_none : (a b : List ℕ) → a ++ b ≡ [] → a ≡ []
prefix_none [] b e = refl
prefix_none (x ∷ a) b e = absurd cc

pub block_some : (m b : List ℕ) (x : FileBlock) → IsFileBlock m b x → b ≡ [] → ⊥
block_some m b x h e = groups_some h.prefix h.first.encoded.groups (prefix_none h.prefix h.back (sym h.joined ∙ e))

run_one : {A : Type 0} (P : Grammar A) → Reads P → ((b : List ℕ) (x : A) → P b x → b ≡ [] → ⊥) → (a b : List ℕ) (v w : List A) → Sequence P a v → Sequence P b w → a ≡ b → v ≡ w
run_one P rp some a b v w none none e = refl
run_one P rp some a b v w none (one f r x xs p h) e = absurd (some f x p (prefix_none f r (sym e)))
run_one P rp some a b v w (one f r x xs p h) none e = absurd (some f x p (prefix_none f r e))
run_one P rp some a b v w (one f r x xs p h) (one g s y ys q k) e =
    let here = rp f g r s x y p q e in
    let e2 : r ≡ s = append_cancel_left g r s (ap (λ (z : List ℕ). z ++ r) (sym here.0) ∙ e) in
    let more = run_one P rp some r s xs ys h k e2 in
    (λ i. here.1 i ∷ more i)

some_is : (a b : List ℕ) → Some a ≡ Some b → a ≡ b
some_is a b e = cc

pub one_file : {R : Type 0} (stands : List ℕ → R → Type 0) → OneMeaning stands → OneFile stands
one_file stands single bytes r q m n bs cs f g =
    let heads = header_reads f.prefix g.prefix f.back g.back (header_parts f.entries m) (header_parts g.entries n) f.head g.head (sym f.joined ∙ g.joined) in
    let same_entries : f.entries ≡ g.entries = ap (λ (t : _). t.entries) heads.1 in
    let same_marker : m ≡ n = ap (λ (t : _). t.marker) heads.1 in
    let backs : f.back ≡ g.back = append_cancel_left g.prefix f.back g.back (ap (λ (z : List ℕ). z ++ f.back) (sym heads.0) ∙ sym f.joined ∙ g.joined) in
    let same_text : f.text ≡ g.text = some_is f.text g.text (sym f.schema ∙ ap schema_entry same_entries ∙ g.schema) in
    let moved : Sequence (IsFileBlock n) f.back bs = subst (λ k. Sequence (IsFileBlock k) f.back bs) same_marker f.blocks in
    (single g.text r q (subst (λ t. stands t r) same_text f.means) g.means, same_marker, run_one (IsFileBlock n) (file_block_reads n) (block_some n) f.back g.back bs cs moved g.blocks backs)

-- ---- the canonical file is a file

number_is : (n : ℕ) → n < 2 ^ 63 → Number (shortest (pos n)) (pos n)
number_is n l = shortest_is (pos n) (omega (arith, l))

count_is : (n : ℕ) → n < 2 ^ 63 → count.whole (shortest (pos n)) n
count_is n l = record { value = pos n; encoded = number_is n l; allowed = tt; means = refl }

sized_is : (x : List ℕ) → length x < 2 ^ 63 → sized.whole (counted_bytes x) x
sized_is x l = record { prefix = shortest (pos (length x)); back = x; joined = refl; value = length x; first = count_is (length x) l; second = (refl, refl) }

entry_is : (k v : List ℕ) → IsUtf8 k → length k < 2 ^ 63 → length v < 2 ^ 63 → entry.whole (counted_bytes k ++ counted_bytes v) (the_entry k v)
entry_is k v u l m = record {
  prefix = counted_bytes k;
  back = counted_bytes v;
  joined = refl;
  value = k;
  first = record { value = k; encoded = sized_is k l; allowed = u; means = refl };
  second = record { value = v; encoded = sized_is v m; allowed = tt; means = refl };
}

block_is : (m : List ℕ) (b : FileBlock) → length m ≡ 16 → b.rows < 2 ^ 63 → length b.bytes < 2 ^ 63 → IsFileBlock m (canonical_block m b) b
block_is m b e l k = record {
  prefix = shortest (pos b.rows);
  back = shortest (pos (length b.bytes)) ++ (b.bytes ++ m);
  joined = refl;
  value = b.rows;
  first = count_is b.rows l;
  second = record {
    prefix = shortest (pos (length b.bytes));
    back = b.bytes ++ m;
    joined = refl;
    value = length b.bytes;
    first = count_is (length b.bytes) k;
    second = record {
      prefix = b.bytes;
      back = m;
      joined = refl;
      value = b.bytes;
      first = (refl, refl);
      second = record { value = m; encoded = (e, refl); allowed = tt; means = refl };
    };
  };
}

blocks_are : (m : List ℕ) (bs : List FileBlock) → length m ≡ 16 → AllSmall bs → Sequence (IsFileBlock m) (canonical_blocks m bs) bs
blocks_are m [] e h = none
blocks_are m (b ∷ bs) e h = one (canonical_block m b) (canonical_blocks m bs) b bs (block_is m b e h.0 h.1) (blocks_are m bs e h.2)

abbrev schema_key : List ℕ
schema_key = codes "avro.schema"

abbrev Low : List ℕ → Type 0
Low [] = Unit {0}
Low (b ∷ bs) = (b < 128) × Low bs

low_at : (bs : List ℕ) → Low bs → (i : ℕ) → get_or bs i 0 < 128
low_at [] h i = omega arith
low_at (b ∷ bs) h zero = h.0
low_at (b ∷ bs) h (suc i) = low_at bs h.1 i

schema_key_text : IsUtf8 schema_key
schema_key_text = IsUtf8-from_ascii schema_key (low_at schema_key (omega arith, (omega arith, (omega arith, (omega arith, (omega arith, (omega arith, (omega arith, (omega arith, (omega arith, (omega arith, (omega arith, tt))))))))))))

schema_entries : (text : List ℕ) → length text < 2 ^ 63 → Blocks entry.whole (shortest (pos 1) ++ ((counted_bytes schema_key ++ counted_bytes text) ++ shortest (pos 0))) (the_entry schema_key text ∷ [])
schema_entries text l =
    parts.block (shortest (pos 1)) (counted_bytes schema_key ++ counted_bytes text) (shortest (pos 0)) (pos 1) (the_entry schema_key text ∷ []) [] (number_is 1 (omega arith)) (
      omega arith,
      record {
        prefix = counted_bytes schema_key ++ counted_bytes text;
        back = [];
        joined = sym (append-nil _);
        value = the_entry schema_key text;
        first = entry_is schema_key text schema_key_text (omega arith) l;
        second = ([], refl, (refl, refl));
      },
    )
    (parts.last (number_is 0 (omega arith)))

regroup : (a b c d e f : List ℕ) → a ++ (b ++ (c ++ (d ++ (e ++ f)))) ≡ (a ++ ((b ++ (c ++ d)) ++ e)) ++ f
regroup a b c d e f =
    sym (append_assoc a ((b ++ (c ++ d)) ++ e) f ∙ ap (λ z. a ++ z) (append_assoc (b ++ (c ++ d)) e f ∙ append_assoc b (c ++ d) (e ++ f) ∙ ap (λ z. b ++ z) (append_assoc c d (e ++ f))))

header_is : (text m : List ℕ) → length text < 2 ^ 63 → length m ≡ 16 → header.whole (canonical_header text m) (header_parts (the_entry schema_key text ∷ []) m)
header_is text m l e = record {
  prefix = magic;
  back = _;
  joined = refl;
  value = magic;
  first = record { value = magic; encoded = (refl, refl); allowed = refl; means = refl };
  second = record {
    prefix = shortest (pos 1) ++ ((counted_bytes schema_key ++ counted_bytes text) ++ shortest (pos 0));
    back = m;
    joined = regroup (shortest (pos 1)) (counted_bytes schema_key) (shortest (pos (length text))) text (shortest (pos 0)) m;
    value = the_entry schema_key text ∷ [];
    first = schema_entries text l;
    second = record { value = m; encoded = (e, refl); allowed = tt; means = refl };
  };
}

pub canonical_is_file : {R : Type 0} (stands : List ℕ → R → Type 0) → CanonicalIsFile stands
canonical_is_file stands text r m bs means l e small = record {
  prefix = canonical_header text m;
  back = canonical_blocks m bs;
  joined = refl;
  entries = the_entry schema_key text ∷ [];
  head = header_is text m l e;
  text = text;
  schema = refl;
  means = means;
  codec = tt;
  blocks = blocks_are m bs e small;
}
