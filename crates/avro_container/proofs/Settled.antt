-- Bytes are not whole and wrong, whole and begun, or wrong and begun at once.
use Rattle.std.proofs.Common.{◌≡◌, ℕ, suc, ◌+◌, ◌*◌, ◌%◌, ◌^◌, ◌<◌, ◌≤◌, inl, inr, ℤ, List, [], ◌∷◌, ◌++◌, length, refl, sym, ◌∙◌, ap, subst, append_assoc, length-append, arith}
use Rattle.std.proofs.Math.Nat.{pow-succ', mul_left_comm}
use Rattle.std.proofs.lemmas.Bool.{cases_lt}
use Rattle.std.proofs.lemmas.List.{append_cancel_left, append-nil}
use Rattle.avro_schema.specs.Number.{AreGroups, unsigned, Number}
use Rattle.avro_schema.proofs.Prefixes.{head_is, tail_is, same_length}
use Rattle.avro_schema.specs.Parts.{Raw}
use Rattle.avro_schema.proofs.WholePrefixes.{Reads, number_reads, meaning_reads, raw_reads}
use Rattle.avro_container.specs.File.{IsCount, count_of, the_block}
use Rattle.avro_container.specs.FileForms.{after_size, after_rows, marked_block}
use Rattle.avro_container.specs.Forms.{Form, AllHigh, NotANumber, number, count, raw, both, meaning}
use Rattle.avro_container.specs.Laws.{Settles}
use Rattle.avro_schema.specs.Encodes.{Any}

-- ---- numbers

high_no_groups : (a x : List ℕ) → AreGroups a → AllHigh (a ++ x) → ⊥
high_no_groups [] x g h = g
high_no_groups (b ∷ []) x g h = omega (arith, g, h.0)
high_no_groups (b ∷ c ∷ a) x g h = high_no_groups (c ∷ a) x g.2 h.2

spread : (m x l : ℕ) → x ≡ 128 ^ l → m * 128 ^ suc l ≡ 128 * (m * x)
spread m x l e = ap (λ z. m * z) (pow-succ' 128 l ∙ ap (λ z. 128 * z) (sym e)) ∙ mul_left_comm m 128 x

groups_last : (p : List ℕ) (b : ℕ) → AreGroups (p ++ b ∷ []) → b < 128
groups_last [] b h = h
groups_last (c ∷ []) b h = h.2
groups_last (c ∷ d ∷ p) b h = groups_last (d ∷ p) b h.2

unsigned_end : (p : List ℕ) (b : ℕ) → unsigned (p ++ b ∷ []) ≡ unsigned p + b % 128 * 128 ^ length p
unsigned_end [] b = grind arith
unsigned_end (c ∷ p) b =
    let e : unsigned (p ++ b ∷ []) ≡ unsigned p + b % 128 * 128 ^ length p = unsigned_end p b in
    let s : b % 128 * 128 ^ suc (length p) ≡ 128 * (b % 128 * 128 ^ length p) = spread (b % 128) (128 ^ length p) (length p) refl in
    grind (arith, e, s)

-- ---- one behind another

module _ {A B : Type 0} (P : Form A) (Q : A → Form B) (rp : Reads P.whole) (sp : Settles P) (sq : (v : A) → Settles (Q v)) where
  -- both have the same first part
  split_again : (f g b c x y : List ℕ) (v w : A) → P.whole f v → P.whole g w → (f ++ b) ++ x ≡ (g ++ c) ++ y → (v ≡ w) × (b ++ x ≡ c ++ y)
  split_again f g b c x y v w p q e =
      let e1 : f ++ (b ++ x) ≡ g ++ (c ++ y) = sym (append_assoc f b x) ∙ e ∙ append_assoc g c y in
      let one : (f ≡ g) × (v ≡ w) = rp f g (b ++ x) (c ++ y) v w p q e1 in
      (one.1, append_cancel_left g (b ++ x) (c ++ y) (ap (λ (z : List ℕ). z ++ (b ++ x)) (sym one.0) ∙ e1))

  joined_on : (a f b x : List ℕ) → a ≡ f ++ b → a ++ x ≡ (f ++ b) ++ x
  joined_on a f b x e = ap (λ (z : List ℕ). z ++ x) e

  both_whole_or_wrong : (a b x y : List ℕ) (v : B) → (both P Q).whole a v → (both P Q).wrong b → a ++ x ≡ b ++ y → ⊥
  both_whole_or_wrong a b x y v p (inl w) e =
      sp.whole_or_wrong p.prefix b (p.back ++ x) y p.value p.first w (sym (append_assoc p.prefix p.back x) ∙ sym (joined_on a p.prefix p.back x p.joined) ∙ e)
  both_whole_or_wrong a b x y v p (inr w) e =
      let s = split_again p.prefix w.prefix p.back w.back x y p.value w.value p.first w.first (sym (joined_on a p.prefix p.back x p.joined) ∙ e ∙ joined_on b w.prefix w.back y w.joined) in
      (sq w.value).whole_or_wrong p.back w.back x y v (subst (λ z. (Q z).whole p.back v) s.0 p.second) w.second s.1

  both_whole_or_begun : (a x : List ℕ) (v : B) → (both P Q).whole a v → (both P Q).begun (a ++ x) → ⊥
  both_whole_or_begun a x v p (inl g) =
      sp.whole_or_begun p.prefix (p.back ++ x) p.value p.first (subst P.begun (joined_on a p.prefix p.back x p.joined ∙ append_assoc p.prefix p.back x) g)
  both_whole_or_begun a x v p (inr g) =
      let s = split_again p.prefix g.prefix p.back g.back x [] p.value g.value p.first g.first (sym (joined_on a p.prefix p.back x p.joined) ∙ g.joined ∙ sym (append-nil (g.prefix ++ g.back))) in
      (sq g.value).whole_or_begun p.back x v (subst (λ z. (Q z).whole p.back v) s.0 p.second) (subst (Q g.value).begun (sym (s.1 ∙ append-nil g.back)) g.second)

  both_wrong_or_begun : (b x : List ℕ) → (both P Q).wrong b → (both P Q).begun (b ++ x) → ⊥
  both_wrong_or_begun b x (inl w) (inl g) = sp.wrong_or_begun b x w g
  both_wrong_or_begun b x (inl w) (inr g) =
      sp.whole_or_wrong g.prefix b g.back x g.value g.first w (sym g.joined)
  both_wrong_or_begun b x (inr w) (inl g) =
      sp.whole_or_begun w.prefix (w.back ++ x) w.value w.first (subst P.begun (joined_on b w.prefix w.back x w.joined ∙ append_assoc w.prefix w.back x) g)
  both_wrong_or_begun b x (inr w) (inr g) =
      let s = split_again w.prefix g.prefix w.back g.back x [] w.value g.value w.first g.first (sym (joined_on b w.prefix w.back x w.joined) ∙ g.joined ∙ sym (append-nil (g.prefix ++ g.back))) in
      (sq g.value).wrong_or_begun w.back x (subst (λ z. (Q z).wrong w.back) s.0 w.second) (subst (Q g.value).begun (sym (s.1 ∙ append-nil g.back)) g.second)

  pub both_settles : Settles (both P Q)
  both_settles = record { whole_or_wrong = both_whole_or_wrong; whole_or_begun = both_whole_or_begun; wrong_or_begun = both_wrong_or_begun }

-- ---- meanings

module _ {A B : Type 0} (P : Form A) (R : A → Type 0) (f : A → B) (rp : Reads P.whole) (sp : Settles P) where
  meaning_whole_or_wrong : (a b x y : List ℕ) (v : B) → (meaning P R f).whole a v → (meaning P R f).wrong b → a ++ x ≡ b ++ y → ⊥
  meaning_whole_or_wrong a b x y v p (inl w) e = sp.whole_or_wrong a b x y p.value p.encoded w e
  meaning_whole_or_wrong a b x y v p (inr w) e = w.2 (subst R (rp a b x y p.value w.0 p.encoded w.1 e).1 p.allowed)

  meaning_wrong_or_begun : (b x : List ℕ) → (meaning P R f).wrong b → P.begun (b ++ x) → ⊥
  meaning_wrong_or_begun b x (inl w) g = sp.wrong_or_begun b x w g
  meaning_wrong_or_begun b x (inr w) g = sp.whole_or_begun b x w.0 w.1 g

  pub meaning_settles : Settles (meaning P R f)
  meaning_settles = record { whole_or_wrong = meaning_whole_or_wrong; whole_or_begun = λ a x v p g. sp.whole_or_begun a x p.value p.encoded g; wrong_or_begun = meaning_wrong_or_begun }

too_short : (n : ℕ) (a x : List ℕ) (v : List ℕ) → Raw n a v → length (a ++ x) < n → ⊥
too_short n a x v p l = omega (arith, length-append a x, p.0, l)

pub raw_settles : (n : ℕ) → Settles (raw n)
raw_settles n = record { whole_or_wrong = λ a b x y v p w e. w; whole_or_begun = too_short n; wrong_or_begun = λ b x w g. w }

-- ---- numbers

number_whole_or_wrong : (a b x y : List ℕ) (v : ℤ) → Number a v → NotANumber b → a ++ x ≡ b ++ y → ⊥
number_whole_or_wrong a b x y v n w e =
    elim (cases_lt (length a) 10) [
      | inl short ↦ short_prefix a w.prefix x (w.last ∷ y) n.groups w.high (omega (arith, short, w.nine)) e2
      | inr long ↦
          let ten : length a ≡ length b = omega (arith, long, n.short, ap length w.joined, length-append w.prefix (w.last ∷ []), w.nine) in
          let same : a ≡ w.prefix ++ w.last ∷ [] = same_length a b x y ten e ∙ w.joined in
          too_large w.prefix w.last w.high w.nine w.large (subst AreGroups same n.groups) (subst (λ (z : List ℕ). unsigned z < 2 ^ 64) same n.fits)
    ]
  where
    e2 : a ++ x ≡ w.prefix ++ (w.last ∷ y)
    e2 = e ∙ ap (λ (z : List ℕ). z ++ y) w.joined ∙ append_assoc w.prefix (w.last ∷ []) y

    short_prefix : (a p x y : List ℕ) → AreGroups a → AllHigh p → length a ≤ length p → a ++ x ≡ p ++ y → ⊥
    short_prefix [] p x y g h l e = g
    short_prefix (b ∷ a) [] x y g h l e = omega (arith, l)
    short_prefix (b ∷ []) (c ∷ p) x y g h l e = let s : b ≡ c = head_is e in omega (arith, s, g, h.0)
    short_prefix (b ∷ d ∷ a) (c ∷ p) x y g h l e = short_prefix (d ∷ a) p x y g.2 h.2 (omega (arith, l)) (tail_is e)

    too_large : (p : List ℕ) (b : ℕ) → AllHigh p → length p ≡ 9 → 1 < b → AreGroups (p ++ b ∷ []) → unsigned (p ++ b ∷ []) < 2 ^ 64 → ⊥
    too_large p b h nine big g fits =
        let low : b < 128 = groups_last p b g in
        let is : unsigned (p ++ b ∷ []) ≡ unsigned p + b % 128 * 128 ^ 9 = unsigned_end p b ∙ ap (λ n. unsigned p + b % 128 * 128 ^ n) nine in
        omega (arith, low, fits, is, big)

pub number_settles : Settles number
number_settles = record {
  whole_or_wrong = number_whole_or_wrong;
  whole_or_begun = λ a x v n g. high_no_groups a x n.groups g.0;
  wrong_or_begun = λ b x w g. omega (arith, g.1, length-append b x, ap length w.joined, length-append w.prefix (w.last ∷ []), w.nine);
}

pub count_settles : Settles count
count_settles = meaning_settles number IsCount count_of number_reads number_settles

count_reads : Reads count.whole
count_reads = meaning_reads Number IsCount count_of number_reads

pub block_settles : Settles marked_block
block_settles =
    both_settles count after_rows count_reads count_settles
    (λ n. both_settles count (after_size n) count_reads count_settles
    (λ s. both_settles (raw s) (λ b. meaning (raw 16) Any (λ m. (the_block n b, m))) (raw_reads s) (raw_settles s)
    (λ b. meaning_settles (raw 16) Any (λ m. (the_block n b, m)) (raw_reads 16) (raw_settles 16))))
