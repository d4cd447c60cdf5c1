-- The numbers of the fields to keep, one at a time.
use Rattle.std.proofs.Common.{◌≡◌, ◌≢◌, ◌∙◌, ◌⊎◌, inl, inr, ℕ, zero, suc, ◌+◌, ◌<◌, ◌≤◌, ◌==◌, replicate, Bool, true, false, List, [], ◌∷◌, ◌++◌, length, get_or, set, take, map, All, refl, sym, ap, subst, arith}
use Rattle.std.specs.Prelude.{◌||◌, AllPairs}
use Rattle.std.specs.List.{range_with_len}
use Rattle.std.proofs.lemmas.Bool.{cases_eq}
use Rattle.std.proofs.lemmas.Bool.Decides.{nat_tests}
use Rattle.std.proofs.lemmas.List.{take_more, take_all, length-set, length-replicate, get_or-replicate, get_or-set_same, get_or-set_other, get_or-take, length-take-le}
use Rattle.std.proofs.lemmas.List.Elements.{All-push}
use Rattle.std.proofs.lemmas.List.Folds.{list_any_more}
use Rattle.std.proofs.lemmas.List.FromFn.{fill_by_all}
use Rattle.std.proofs.lemmas.List.Quantifiers.{all_pairs_push}
use Rattle.arrow_base.specs.Outside.{is_among}
use Rattle.avro_ndjson.specs.Keep.{AreNumbers}

-- the flags are those of the first i numbers
pub record Flagged (count : ℕ) (numbers : List ℕ) (i : ℕ) (flags : List Bool) : Type 0 where
  pub len : length flags ≡ count
  pub each : (k : ℕ) → k < count → get_or flags k false ≡ is_among (take i numbers) k
  pub numbers_fit : AreNumbers count (take i numbers)

-- ---- whether a number is among others

same_number : (a b : ℕ) → (a == b) ≡ true → a ≡ b
same_number a b e = grind (arith, nat_tests)

other_number : (a b : ℕ) → (a == b) ≡ false → a ≢ b
other_number a b e = grind (arith, nat_tests)

pub number_itself : (a b : ℕ) → a ≡ b → (a == b) ≡ true
number_itself a b e = grind (arith, nat_tests)

not_number : (a b : ℕ) → a ≢ b → (a == b) ≡ false
not_number a b e = grind (arith, nat_tests)

or_true : (a b : Bool) → b ≡ true → (a || b) ≡ true
or_true true b e = refl
or_true false b e = e

or_false : (a b : Bool) → b ≡ false → (a || b) ≡ a
or_false true b e = refl
or_false false b e = e

among_index : (xs : List ℕ) (n : ℕ) → is_among xs n ≡ true → (j : ℕ) × (j < length xs) × (get_or xs j 0 ≡ n)
among_index [] n e = absurd cc
among_index (x ∷ xs) n e = from (x == n) refl e (among_index xs n)
  where
    from : (b : Bool) → (x == n) ≡ b → (b || is_among xs n) ≡ true → (is_among xs n ≡ true → (j : ℕ) × (j < length xs) × (get_or xs j 0 ≡ n)) → (j : ℕ) × (j < length (x ∷ xs)) × (get_or (x ∷ xs) j 0 ≡ n)
    from true q h rest = (0, omega arith, same_number x n q)
    from false q h rest = let r = rest h in (suc r.0, omega (arith, r.1), r.2)

not_among : (xs : List ℕ) (n k d : ℕ) → is_among xs n ≡ false → k < length xs → get_or xs k d ≢ n
not_among [] n k d e lt = absurd (omega (arith, lt))
not_among (x ∷ xs) n k d e lt = from (x == n) refl e (λ j. not_among xs n j d) k lt
  where
    from : (b : Bool) → (x == n) ≡ b → (b || is_among xs n) ≡ false → ((j : ℕ) → is_among xs n ≡ false → j < length xs → get_or xs j d ≢ n) → (k : ℕ) → k < length (x ∷ xs) → get_or (x ∷ xs) k d ≢ n
    from true q h rest k lt = absurd cc
    from false q h rest zero lt = other_number x n q
    from false q h rest (suc k) lt = rest k h (omega (arith, lt))

-- ---- one number more

module _ (count : ℕ) (numbers : List ℕ) (i : ℕ) (flags : List Bool) (n : ℕ) (lt : i < length numbers) (is : n ≡ get_or numbers i 0) (so : Flagged count numbers i flags) where
  one_longer : take (i + 1) numbers ≡ take i numbers ++ n ∷ []
  one_longer = take_more numbers i 0 lt ∙ ap (λ (x : ℕ). take i numbers ++ x ∷ []) (sym is)

  module _ (below : n < count) (new : get_or flags n false ≡ false) where
    not_before : is_among (take i numbers) n ≡ false
    not_before = sym (so.each n below) ∙ new

    among_more : (k : ℕ) → is_among (take (i + 1) numbers) k ≡ (is_among (take i numbers) k || (n == k))
    among_more k = list_any_more (λ m. m == k) numbers i 0 lt ∙ ap (λ (x : ℕ). is_among (take i numbers) k || (x == k)) (sym is)

    flag_at : (k : ℕ) → k < count → (k ≡ n) ⊎ (k ≢ n) → get_or (set flags n true) k false ≡ is_among (take (i + 1) numbers) k
    flag_at k small (inl e) =
        ap (λ (j : ℕ). get_or (set flags n true) j false) e ∙ get_or-set_same flags n true false (omega (arith, below, so.len))
        ∙ sym (among_more k ∙ or_true (is_among (take i numbers) k) (n == k) (number_itself n k (sym e)))
    flag_at k small (inr other) =
        get_or-set_other flags n k true false other ∙ so.each k small
        ∙ sym (among_more k ∙ or_false (is_among (take i numbers) k) (n == k) (not_number n k (λ e. other (sym e))))

    pub flagged_more : Flagged count numbers (i + 1) (set flags n true)
    flagged_more = record {
      len = length-set flags n true ∙ so.len;
      each = λ k small. flag_at k small (cases_eq k n);
      numbers_fit = record {
        within = subst (λ (xs : List ℕ). All (λ j. j < count) xs) (sym one_longer) (All-push (λ (j : ℕ). j < count) (take i numbers) n so.numbers_fit.within below);
        distinct = subst (λ (xs : List ℕ). AllPairs (λ a b. a ≢ b) xs) (sym one_longer) (all_pairs_push (λ (a b : ℕ). a ≢ b) (take i numbers) n so.numbers_fit.distinct (λ k d in_list. not_among (take i numbers) n k d not_before in_list));
      };
    }

  pub too_large : count ≤ n → AreNumbers count numbers → ⊥
  too_large large h = omega (arith, h.within i 0 lt, is, large)

  pub named_twice : n < count → get_or flags n false ≡ true → AreNumbers count numbers → ⊥
  named_twice below old h = from (among_index (take i numbers) n (sym (so.each n below) ∙ old))
    where
      from : (j : ℕ) × (j < length (take i numbers)) × (get_or (take i numbers) j 0 ≡ n) → ⊥
      from (j, small, e) =
          let l : length (take i numbers) ≡ i = length-take-le i numbers (omega (arith, lt)) in
          h.distinct j i 0 (omega (arith, small, l)) lt (sym (get_or-take i numbers j 0 (omega (arith, small, l))) ∙ e ∙ is)

pub all_flagged : (count : ℕ) (numbers : List ℕ) (i : ℕ) (flags : List Bool) → length numbers ≤ i → Flagged count numbers i flags → flags ≡ map (λ k. is_among numbers k) (range_with_len 0 count)
all_flagged count numbers i flags le so =
    fill_by_all (λ k. is_among numbers k) flags count false so.len (λ k lt. so.each k lt ∙ ap (λ (xs : List ℕ). is_among xs k) (take_all i numbers le))

pub all_fit : (count : ℕ) (numbers : List ℕ) (i : ℕ) (flags : List Bool) → length numbers ≤ i → Flagged count numbers i flags → AreNumbers count numbers
all_fit count numbers i flags le so = subst (AreNumbers count) (take_all i numbers le) so.numbers_fit

-- all are kept
pub all_kept : (count : ℕ) (flags : List Bool) → flags ≡ replicate count true → flags ≡ map (λ k. true) (range_with_len 0 count)
all_kept count flags e =
    fill_by_all (λ k. true) flags count true (ap length e ∙ length-replicate count true) (λ k lt. ap (λ (fs : List Bool). get_or fs k true) e ∙ get_or-replicate count k true true lt)
