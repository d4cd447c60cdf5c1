-- Strings that need no escape, part by part; and keys that were filled up.
use Rattle.std.proofs.Common.{◌≡◌, ◌≤◌, ℕ, zero, suc, ◌+◌, ◌-◌, ◌*◌, Bool, true, false, ◌||◌, List, [], ◌∷◌, ◌++◌, length, take, drop, flat_map, refl, sym, ap, ◌∙◌, arith}
use Rattle.std.proofs.Math.Seq.{take-append_seam}
use Rattle.std.proofs.lemmas.Grind.{flat_map-append}
use Rattle.std.proofs.lemmas.List.{drop-drop, length-append, take-append-drop, take-take, take_all}
use Rattle.std.specs.Bool.{OnFalse}
use Rattle.arrow_base.proofs.Runs.{Passed}
use Rattle.arrow_base.specs.WrittenString.{escaped}
use Rattle.json_text.specs.Unescaped.{IsUnescaped}

both_parts : (xs ys : List ℕ) → IsUnescaped xs → IsUnescaped ys → IsUnescaped (xs ++ ys)
both_parts xs ys p q = rw (flat_map-append escaped xs ys, p, q) refl

-- the first chunk and the rest
pub chunk_then : (string chunk rest : List ℕ) (n : ℕ) → chunk ≡ take n string → rest ≡ drop n string → IsUnescaped chunk → IsUnescaped rest → IsUnescaped string
chunk_then string chunk rest n e d p q =
    let whole : chunk ++ rest ≡ string = ap (λ (l : List ℕ). l ++ rest) e ∙ ap (λ (l : List ℕ). take n string ++ l) d ∙ take-append-drop n string in
    subst_unescaped whole (both_parts chunk rest p q)
  where
    subst_unescaped : {a b : List ℕ} → a ≡ b → IsUnescaped a → IsUnescaped b
    subst_unescaped e h = ap (flat_map escaped) (sym e) ∙ h ∙ e

filled : (byte : ℕ) → 1 ≤ length (escaped byte)
filled byte = grind arith

longer : (string : List ℕ) → length string ≤ length (flat_map escaped string)
longer [] = omega arith
longer (byte ∷ string) = omega (arith, filled byte, longer string, length-append (escaped byte) (flat_map escaped string))

after_first : (byte : ℕ) (prefix behind string : List ℕ) → 1 ≤ length prefix → length string ≤ length behind → prefix ++ behind ≡ byte ∷ string → behind ≡ string
after_first byte [] behind string l m h = absurd (omega (arith, l))
after_first byte (a ∷ []) behind string l m h = ap (drop 1) h
after_first byte (a ∷ b ∷ prefix) behind string l m h =
    let same : suc (suc (length (prefix ++ behind))) ≡ suc (length string) = ap length h in
    absurd (omega (arith, same, m, length-append prefix behind))

-- of a string that needs no escape, what stands behind some bytes needs none
unescaped_behind : (n : ℕ) (string : List ℕ) → IsUnescaped string → IsUnescaped (drop n string)
unescaped_behind zero string h = h
unescaped_behind (suc n) [] h = refl
unescaped_behind (suc n) (byte ∷ string) h = unescaped_behind n string (after_first byte (escaped byte) (flat_map escaped string) string (filled byte) (longer string) h)

-- two chunks at the ends that meet or overlap
pub ends_then : (string first last : List ℕ) (n : ℕ) → n ≤ length string → length string ≤ 2 * n → first ≡ take n string → last ≡ drop (length string - n) string → IsUnescaped first → IsUnescaped last → IsUnescaped string
ends_then string first last n l m e d p q =
    let at : length string - n + (n - (length string - n)) ≡ n = omega (arith, l, m) in
    let rest : drop (n - (length string - n)) last ≡ drop n string = ap (drop (n - (length string - n))) d ∙ drop-drop (n - (length string - n)) (length string - n) string ∙ ap (λ k. drop k string) at in
    chunk_then string first _ n e rest p (unescaped_behind (n - (length string - n)) last q)

pub on_false_both : (a b : Bool) (P Q R : Type 0) → (P → Q → R) → OnFalse a P → OnFalse b Q → OnFalse (a || b) R
on_false_both true b P Q R f h k = tt
on_false_both false true P Q R f h k = tt
on_false_both false false P Q R f h k = f h k

-- chunks that were passed and the rest
pub passed_then : (string rest : List ℕ) → Passed string rest → IsUnescaped rest → IsUnescaped string
passed_then string rest h q = ap (flat_map escaped) (sym h.splits) ∙ both_parts h.prefix rest h.plain q ∙ h.splits

-- the prefix of a key that was filled up
pub prefix_kept : (key filled prefix zeros : List ℕ) (n : ℕ) → n ≡ length key → length key ≤ 16 → filled ≡ take 16 key ++ zeros → prefix ≡ take 16 filled → take n prefix ≡ key
prefix_kept key filled prefix zeros n e l d h =
    let short : n ≤ 16 = omega (arith, e, l) in
    ap (λ (z : List ℕ). take n z) h ∙ take-take n 16 filled short
    ∙ ap (λ (z : List ℕ). take n z) (d ∙ ap (λ (z : List ℕ). z ++ zeros) (take_all 16 key l))
    ∙ ap (λ m. take m (key ++ zeros)) e ∙ take-append_seam key zeros
