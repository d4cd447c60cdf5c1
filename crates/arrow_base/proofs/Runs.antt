-- Runs of bytes that need no escape.
use Rattle.std.proofs.Common.{◌≡◌, ℕ, ◌≤◌, ◌<◌, ◌+◌, List, [], ◌∷◌, ◌++◌, take, drop, length, flat_map, get_or, refl, sym, ◌∙◌, ap, append-nil, append_assoc, ◌-◌, drop-cons, add-one}
use Rattle.std.proofs.lemmas.Grind.{flat_map-append}
use Rattle.std.proofs.lemmas.List.{take-append-drop}
use Rattle.arrow_base.specs.WrittenString.{escaped}

-- what is to be written is the run, and then the rest
pub run-first : (rest : List ℕ) (n : ℕ) → flat_map escaped (take n rest) ≡ take n rest → flat_map escaped rest ≡ take n rest ++ flat_map escaped (drop n rest)
run-first rest n h =
    ap (λ (l : List ℕ). flat_map escaped l) (sym (take-append-drop n rest)) ∙ flat_map-append escaped (take n rest) (drop n rest)
    ∙ ap (λ (l : List ℕ). l ++ flat_map escaped (drop n rest)) h

-- the byte after the run comes next
pub byte-next : (rest : List ℕ) (n : ℕ) → n < length rest → flat_map escaped (drop n rest) ≡ escaped (get_or rest n 0) ++ flat_map escaped (drop (n + 1) rest)
byte-next rest n h =
    let e : drop n rest ≡ get_or rest n 0 ∷ drop (n + 1) rest = rw (add-one, drop-cons rest n 0) refl in
    ap (λ (l : List ℕ). flat_map escaped l) e

-- what needs no escape is written as it is, and nothing after it
pub nothing-behind : (written rest : List ℕ) → written ≡ rest → written ≡ rest ++ []
nothing-behind written rest e = e ∙ sym (append-nil rest)

-- of the whole, what stands before the rest needs no escape
pub record Passed (whole rest : List ℕ) : Type 0 where
  pub prefix : List ℕ
  pub splits : prefix ++ rest ≡ whole
  pub plain : flat_map escaped prefix ≡ prefix

pub passed-none : (whole : List ℕ) → Passed whole whole
passed-none whole = record { prefix = []; splits = refl; plain = refl }

-- one block more needs none
pub passed-block : (whole rest block more : List ℕ) (n : ℕ) → Passed whole rest → block ≡ take n rest → more ≡ drop n rest → flat_map escaped block ≡ block → Passed whole more
passed-block whole rest block more n h prefix behind p =
    let e : block ++ more ≡ rest = ap (λ (l : List ℕ). l ++ more) prefix ∙ ap (λ (l : List ℕ). take n rest ++ l) behind ∙ take-append-drop n rest in
    record {
      prefix = h.prefix ++ block;
      splits = append_assoc h.prefix block more ∙ ap (λ (l : List ℕ). h.prefix ++ l) e ∙ h.splits;
      plain = rw (flat_map-append escaped h.prefix block, h.plain, p) refl;
    }
