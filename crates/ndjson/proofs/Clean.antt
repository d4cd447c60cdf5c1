-- Bytes that are UTF-8 and stand on one line.
use Rattle.std.proofs.Common.{◌≡◌, ℕ, zero, suc, ◌<◌, ◌≤◌, not, ◌⊎◌, inl, inr, Bool, true, false, T, List, [], ◌∷◌, ◌++◌, flat_map, refl, sym, subst, arith}
use Rattle.std.proofs.lemmas.Bool.{cases_order}
use Rattle.std.proofs.lemmas.Bool.Decides.{nat_tests}
use Rattle.std.proofs.lemmas.Str.{IsUtf8-append, IsUtf8-from_ascii, IsUtf8-nil}
use Rattle.std.specs.List.{list_all}
use Rattle.std.specs.Str.{IsUtf8, IsAscii}
use Rattle.arrow_base.specs.WrittenString.{escaped, json_string}
use Rattle.arrow_base.proofs.Decisions.{both, passes_below, passes-at}
use Rattle.arrow_base.proofs.ReadsBack.{reads_back}
use Rattle.ndjson_read.specs.Lines.{is_line_feed}

-- no byte is a line feed
abbrev pub Feedless : List ℕ → Type 0
Feedless [] = Unit {0}
Feedless (b ∷ bytes) = (is_line_feed b ≡ false) × Feedless bytes

pub record Clean (bytes : List ℕ) : Type 0 where
  pub utf8 : IsUtf8 bytes
  pub one_line : Feedless bytes

pub feedless-append : (x y : List ℕ) → Feedless x → Feedless y → Feedless (x ++ y)
feedless-append [] y h k = k
feedless-append (b ∷ x) y h k = (h.0, feedless-append x y h.1 k)

pub clean-nil : Clean []
clean-nil = record { utf8 = IsUtf8-nil; one_line = tt }

pub clean-append : (x y : List ℕ) → Clean x → Clean y → Clean (x ++ y)
clean-append x y h k = record { utf8 = IsUtf8-append x y h.utf8 k.utf8; one_line = feedless-append x y h.one_line k.one_line }

ascii-one : (b : ℕ) → b < 128 → IsAscii (b ∷ [])
ascii-one b l zero = l
ascii-one b l (suc i) = omega arith

pub utf8-byte : (b : ℕ) → b < 128 → IsUtf8 (b ∷ [])
utf8-byte b l = IsUtf8-from_ascii (b ∷ []) (ascii-one b l)

clean-byte : (b : ℕ) → b < 128 → is_line_feed b ≡ false → Clean (b ∷ [])
clean-byte b l e = record { utf8 = utf8-byte b l; one_line = (e, tt) }

pub clean-after : (b : ℕ) (bytes : List ℕ) → b < 128 → is_line_feed b ≡ false → Clean bytes → Clean (b ∷ bytes)
clean-after b bytes l e h = clean-append (b ∷ []) bytes (clean-byte b l e) h

pub clean-before : (bytes : List ℕ) (b : ℕ) → b < 128 → is_line_feed b ≡ false → Clean bytes → Clean (bytes ++ b ∷ [])
clean-before bytes b l e h = clean-append bytes (b ∷ []) h (clean-byte b l e)

-- ---- strings

feedless-tested : (bytes : List ℕ) → T (list_all (λ b. not (is_line_feed b)) bytes) → Feedless bytes
feedless-tested [] h = tt
feedless-tested (b ∷ bytes) h =
    let k = both (not (is_line_feed b)) (list_all (λ c. not (is_line_feed c)) bytes) h in
    (other (is_line_feed b) k.0, feedless-tested bytes k.1)
  where
    other : (v : Bool) → T (not v) → v ≡ false
    other true k = absurd k
    other false k = refl

escaped-low : (byte : ℕ) → byte < 128 → Feedless (escaped byte)
unfolding passes_below
escaped-low byte l = feedless-tested (escaped byte) (passes-at (λ (b : ℕ). list_all (λ c. not (is_line_feed c)) (escaped b)) 128 tt byte l)

escaped-high : (byte : ℕ) → 128 ≤ byte → escaped byte ≡ byte ∷ []
escaped-high byte l = grind (arith, nat_tests, l)

escaped-feedless : (byte : ℕ) → Feedless (escaped byte)
escaped-feedless byte = go (cases_order byte 128)
  where
    high : 128 ≤ byte → Feedless (escaped byte)
    high l = subst Feedless (sym (escaped-high byte l)) (grind (arith, nat_tests, l), tt)

    go : (byte ≡ 128) ⊎ ((byte < 128) ⊎ (128 < byte)) → Feedless (escaped byte)
    go (inl e) = high (omega (arith, e))
    go (inr (inl l)) = escaped-low byte l
    go (inr (inr l)) = high (omega (arith, l))

all-feedless : (text : List ℕ) → Feedless (flat_map escaped text)
all-feedless [] = tt
all-feedless (byte ∷ text) = feedless-append (escaped byte) (flat_map escaped text) (escaped-feedless byte) (all-feedless text)

pub clean-string : (text : List ℕ) → IsUtf8 text → Clean (json_string text)
clean-string text utf8 = record {
  utf8 = (reads_back text utf8).utf8;
  one_line = (refl, feedless-append (flat_map escaped text) (0x22 ∷ []) (all-feedless text) (refl, tt));
}
