-- The lines of bytes that go on.
use Rattle.std.proofs.Common.{◌≡◌, ℕ, inl, inr, List, [], ◌∷◌, ◌++◌, refl, ap, ◌∙◌}
use Rattle.std.proofs.lemmas.Bool.{cases_Bool}
use Rattle.ndjson_read.specs.Lines.{onto_first, lines, is_line_feed}

-- the last line of some bytes goes on where more bytes follow, and the lines before it stay
pub record Continues (some more : List ℕ) : Type 0 where
  pub prefix : List (List ℕ)
  pub last : List ℕ
  pub added : List ℕ
  pub rest : List (List ℕ)
  pub before : lines some ≡ prefix ++ last ∷ []
  pub after : lines (some ++ more) ≡ prefix ++ (last ++ added) ∷ rest

onto_any : (byte : ℕ) (all : List (List ℕ)) → (added : List ℕ) × (rest : List (List ℕ)) × (onto_first byte all ≡ (byte ∷ added) ∷ rest)
unfolding onto_first
onto_any byte [] = ([], [], refl)
onto_any byte (line ∷ all) = (line, all, refl)

onto_prefix : (byte : ℕ) (prefix : List (List ℕ)) (last added : List ℕ) (rest : List (List ℕ))
    → (new_prefix : List (List ℕ)) × (new_last : List ℕ) × (onto_first byte (prefix ++ last ∷ []) ≡ new_prefix ++ new_last ∷ [])
    × (onto_first byte (prefix ++ (last ++ added) ∷ rest) ≡ new_prefix ++ (new_last ++ added) ∷ rest)
unfolding onto_first
onto_prefix byte [] last added rest = ([], byte ∷ last, refl, refl)
onto_prefix byte (line ∷ prefix) last added rest = ((byte ∷ line) ∷ prefix, last, refl, refl)

pub continues : (byte : ℕ) (some more : List ℕ) → Continues (byte ∷ some) more
unfolding lines onto_first
continues byte [] more =
    elim (cases_Bool (is_line_feed byte)) [
      | inl is_feed ↦ record { prefix = []; last = byte ∷ []; added = []; rest = lines more; before = rw is_feed refl; after = rw is_feed refl }
      | inr other ↦
          let s = onto_any byte (lines more) in
          record { prefix = []; last = byte ∷ []; added = s.0; rest = s.1; before = rw other refl; after = rw other s.2 }
    ]
continues byte (next ∷ some) more =
    let h = continues next some more in
    elim (cases_Bool (is_line_feed byte)) [
      | inl is_feed ↦ record {
        prefix = (byte ∷ []) ∷ h.prefix;
        last = h.last;
        added = h.added;
        rest = h.rest;
        before = rw is_feed (ap (λ (z : List (List ℕ)). (byte ∷ []) ∷ z) h.before);
        after = rw is_feed (ap (λ (z : List (List ℕ)). (byte ∷ []) ∷ z) h.after);
      }
      | inr other ↦
          let s = onto_prefix byte h.prefix h.last h.added h.rest in
          record {
            prefix = s.0;
            last = s.1;
            added = h.added;
            rest = h.rest;
            before = rw other (ap (onto_first byte) h.before ∙ s.2);
            after = rw other (ap (onto_first byte) h.after ∙ s.3);
          }
    ]
