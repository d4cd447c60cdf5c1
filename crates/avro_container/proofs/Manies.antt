-- Many of a form, and blocks of them, taken one by one.
use Rattle.std.proofs.Common.{◌≡◌, ℕ, zero, suc, ◌+◌, ◌<◌, ◌≤◌, inl, inr, ℤ, pos, negsuc, List, [], ◌∷◌, ◌++◌, Option, Some, None, Bool, true, false, cond, refl, sym, ◌∙◌, ap, subst, append_assoc, add-one, arith}
use Rattle.std.proofs.lemmas.List.{append-nil}
use Rattle.std.specs.Option.{option_or}
use Rattle.std.specs.Str.{bytes_eq}
use Rattle.avro_schema.specs.Number.{Number}
use Rattle.avro_schema.specs.Parts.{Many, BlockOf, Blocks}
use Rattle.avro_schema.specs.Parts as parts
use Rattle.avro_container.specs.File.{Entry, value_for, last_value}
use Rattle.avro_container.specs.Kept.{later, last_of}
use Rattle.avro_container.specs.Forms.{Form, number, both, BegunMany, WrongMany, many, block_of, BegunBlocks, WrongBlocks, blocks}
use Rattle.avro_container.specs.Taking.{State, Takes, Passed, Stopped}
use Rattle.avro_container.specs.Forms as forms
use Rattle.avro_container.specs.declared.parts.Stop.{Stop}
use Rattle.avro_container.proofs.Taken.{takes_more, ends_after}

split_on : (a b c d : List ℕ) → a ≡ b ++ c → a ++ d ≡ b ++ (c ++ d)
split_on a b c d e = ap (λ (z : List ℕ). z ++ d) e ∙ append_assoc b c d

module _ {A : Type 0} (P : Form A) where
  many_then : (i : ℕ) (a b : List ℕ) (es : List A) (e : A) → Many P.whole i a es → P.whole b e → Many P.whole (suc i) (a ++ b) (es ++ e ∷ [])
  many_then zero a b es e m h = record {
    prefix = b;
    back = [];
    joined = ap (λ (z : List ℕ). z ++ b) m.0 ∙ sym (append-nil b);
    value = e;
    first = h;
    second = ([], ap (λ z. z ++ e ∷ []) m.1, (refl, refl));
  }
  many_then (suc i) a b es e m h = record {
    prefix = m.prefix;
    back = m.back ++ b;
    joined = split_on a m.prefix m.back b m.joined;
    value = m.value;
    first = m.first;
    second = (m.second.0 ++ e ∷ [], ap (λ z. z ++ e ∷ []) m.second.1, many_then i m.back b m.second.0 e m.second.2 h);
  }

  pub many_more : (i : ℕ) (a b : List ℕ) (es : List A) (e : A) → Many P.whole i a es → P.whole b e → Many P.whole (i + 1) (a ++ b) (es ++ e ∷ [])
  many_more i a b es e m h = subst (λ k. Many P.whole k (a ++ b) (es ++ e ∷ [])) (sym (add-one i)) (many_then i a b es e m h)

  pub begun_more : (i n : ℕ) (a b : List ℕ) (es : List A) → i < n → Many P.whole i a es → P.begun b → BegunMany P n (a ++ b)
  begun_more i zero a b es l m h = absurd (omega (arith, l))
  begun_more zero (suc n) a b es l m h = inl (subst P.begun (ap (λ (z : List ℕ). z ++ b) (sym m.0)) h)
  begun_more (suc i) (suc n) a b es l m h = inr (record {
    prefix = m.prefix;
    back = m.back ++ b;
    joined = split_on a m.prefix m.back b m.joined;
    value = m.value;
    first = m.first;
    second = begun_more i n m.back b m.second.0 (omega (arith, l)) m.second.2 h;
  })

  pub wrong_more : (i n : ℕ) (a b : List ℕ) (es : List A) → i < n → Many P.whole i a es → P.wrong b → WrongMany P n (a ++ b)
  wrong_more i zero a b es l m h = absurd (omega (arith, l))
  wrong_more zero (suc n) a b es l m h = inl (subst P.wrong (ap (λ (z : List ℕ). z ++ b) (sym m.0)) h)
  wrong_more (suc i) (suc n) a b es l m h = inr (record {
    prefix = m.prefix;
    back = m.back ++ b;
    joined = split_on a m.prefix m.back b m.joined;
    value = m.value;
    first = m.first;
    second = wrong_more i n m.back b m.second.0 (omega (arith, l)) m.second.2 h;
  })

  pub many_stops : (i n : ℕ) (a b c : State) (t : List ℕ) (es : List A) (e : Stop) → i < n → Takes a b t → Many P.whole i t es → Stopped P b c e → Stopped (many P n) a c e
  many_stops i n a b c t es e l p m h =
      (t ++ h.0, ends_after P (many P n) a b c t h.0 p (begun_more i n t h.0 es l m) (wrong_more i n t h.0 es l m) e h.1)

  -- ---- blocks

  -- what completes the blocks behind t completes the blocks
  pub record Before (t : List ℕ) (es : List A) : Type 0 where
    pub whole : (rest : List ℕ) (ys : List A) → Blocks P.whole rest ys → Blocks P.whole (t ++ rest) (es ++ ys)
    pub begun : (rest : List ℕ) → BegunBlocks P rest → BegunBlocks P (t ++ rest)
    pub wrong : (rest : List ℕ) → WrongBlocks P rest → WrongBlocks P (t ++ rest)

  regroup : (t f i r : List ℕ) → (t ++ (f ++ i)) ++ r ≡ t ++ (f ++ (i ++ r))
  regroup t f i r = append_assoc t (f ++ i) r ∙ ap (λ z. t ++ z) (append_assoc f i r)

  pub before_more : (t f i : List ℕ) (es xs : List A) (c : ℤ) → Before t es → Number f c → BlockOf P.whole c i xs → Before (t ++ (f ++ i)) (es ++ xs)
  before_more t f i es xs c b n k = record {
    whole = λ rest ys h. both_subst (Blocks P.whole) (sym (regroup t f i rest)) (sym (append_assoc_of es xs ys)) (b.whole (f ++ (i ++ rest)) (xs ++ ys) (parts.block f i rest c xs ys n k h));
    begun = λ rest h. subst (BegunBlocks P) (sym (regroup t f i rest)) (b.begun (f ++ (i ++ rest)) (forms.BegunBlocks.later f i rest c xs n k h));
    wrong = λ rest h. subst (WrongBlocks P) (sym (regroup t f i rest)) (b.wrong (f ++ (i ++ rest)) (forms.WrongBlocks.later f i rest c xs n k h));
  }
    where
      both_subst : (Q : List ℕ → List A → Type 0) {a b : List ℕ} {x y : List A} → a ≡ b → x ≡ y → Q a x → Q b y
      both_subst Q {a} {b} {x} {y} e d h = subst (Q b) d (subst (λ z. Q z x) e h)

      append_assoc_of : (x y z : List A) → (x ++ y) ++ z ≡ x ++ (y ++ z)
      append_assoc_of x y z = append_assoc x y z

  block_whole : (z : ℤ) (b : List ℕ) (xs : List A) → (block_of P z).whole b xs → BlockOf P.whole z b xs
  block_whole (pos zero) b xs h = h
  block_whole (pos (suc n)) b xs h = h
  block_whole (negsuc n) b xs h = h

  begun_here : (b : List ℕ) → (both number (block_of P)).begun b → BegunBlocks P b
  begun_here b (inl h) = forms.BegunBlocks.broken h
  begun_here b (inr h) = subst (BegunBlocks P) (sym h.joined) (forms.BegunBlocks.here h.prefix h.back h.value h.first h.second)

  wrong_here : (b : List ℕ) → (both number (block_of P)).wrong b → WrongBlocks P b
  wrong_here b (inl h) = forms.WrongBlocks.broken h
  wrong_here b (inr h) = subst (WrongBlocks P) (sym h.joined) (forms.WrongBlocks.here h.prefix h.back h.value h.first h.second)

  pub blocks_stop : (a b c : State) (t : List ℕ) (es : List A) (e : Stop) → Before t es → Takes a b t → Stopped (both number (block_of P)) b c e → Stopped (blocks P) a c e
  blocks_stop a b c t es e before p h =
      (t ++ h.0, ends_after (both number (block_of P)) (blocks P) a b c t h.0 p (λ g. before.begun h.0 (begun_here h.0 g)) (λ g. before.wrong h.0 (wrong_here h.0 g)) e h.1)

  pub blocks_end : (a b c : State) (t : List ℕ) (es : List A) (z : ℤ) → Before t es → Takes a b t → z ≡ pos 0 → Passed number b c z → Passed (blocks P) a c es
  blocks_end a b c t es z before p is h =
      (t ++ h.0, takes_more a b c t h.0 p h.1, subst (Blocks P.whole (t ++ h.0)) (append-nil es) (before.whole h.0 [] (parts.last (subst (Number h.0) is h.2))))

  pub record Along (a b : State) (es : List A) : Type 0 where
    pub taken : List ℕ
    pub takes : Takes a b taken
    pub before : Before taken es

  pub along_more : (a b c d : State) (es xs : List A) (z : ℤ) → Along a b es → Passed number b c z → Passed (block_of P z) c d xs → Along a d (es ++ xs)
  along_more a b c d es xs z along n h = record {
    taken = along.taken ++ (n.0 ++ h.0);
    takes = takes_more a b d along.taken (n.0 ++ h.0) along.takes (takes_more b c d n.0 h.0 n.1 h.1);
    before = before_more along.taken n.0 h.0 es xs z along.before n.2 (block_whole z h.0 xs h.2);
  }

-- the last value of a key among entries and one more
pub last_more : (key : List ℕ) (old : Option (List ℕ)) (es : List Entry) (e : Entry) → last_of key old (es ++ e ∷ []) ≡ later key (last_of key old es) e
last_more key old [] e = refl
last_more key old (x ∷ es) e = last_more key (later key old x) es e

-- one more was kept
pub kept_more : (key : List ℕ) (old mid new : Option (List ℕ)) (es : List Entry) (e : Entry) → mid ≡ last_of key old es → new ≡ later key mid e → new ≡ last_of key old (es ++ e ∷ [])
kept_more key old mid new es e p q = q ∙ ap (λ o. later key o e) p ∙ sym (last_more key old es e)

pub all_of : {A : Type 0} (P : Form A) (i n : ℕ) (t : List ℕ) (es : List A) → i ≤ n → n ≤ i → Many P.whole i t es → Many P.whole n t es
all_of P i n t es l m h = let same : i ≡ n = omega (arith, l, m) in subst (λ k. Many P.whole k t es) same h

last_all : (key : List ℕ) (old : Option (List ℕ)) (es xs : List Entry) → last_of key old (es ++ xs) ≡ last_of key (last_of key old es) xs
last_all key old [] xs = refl
last_all key old (e ∷ es) xs = last_all key (later key old e) es xs

pub kept_all : (key : List ℕ) (old mid new : Option (List ℕ)) (es xs : List Entry) → mid ≡ last_of key old es → new ≡ last_of key mid xs → new ≡ last_of key old (es ++ xs)
kept_all key old mid new es xs p q = q ∙ ap (λ o. last_of key o xs) p ∙ sym (last_all key old es xs)

-- ---- the last value of a key, entry by entry

later_is : (key : List ℕ) (old : Option (List ℕ)) (e : Entry) → later key old e ≡ option_or (value_for key e) old
later_is key old e = go (bytes_eq e.key key)
  where
    go : (b : Bool) → cond b (Some e.value) old ≡ option_or (cond b (Some e.value) None) old
    go true = refl
    go false = refl

or_assoc : (a b c : Option (List ℕ)) → option_or a (option_or b c) ≡ option_or (option_or a b) c
or_assoc None b c = refl
or_assoc (Some x) b c = refl

last_of_is : (key : List ℕ) (old : Option (List ℕ)) (es : List Entry) → last_of key old es ≡ option_or (last_value key es) old
last_of_is key old [] = refl
last_of_is key old (e ∷ es) =
    last_of_is key (later key old e) es ∙ ap (option_or (last_value key es)) (later_is key old e) ∙ or_assoc (last_value key es) (value_for key e) old

or_none : (a : Option (List ℕ)) → option_or a None ≡ a
or_none None = refl
or_none (Some x) = refl

pub last_is : (key : List ℕ) (es : List Entry) → last_of key None es ≡ last_value key es
last_is key es = last_of_is key None es ∙ or_none (last_value key es)
