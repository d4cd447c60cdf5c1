-- A block's bytes and the sixteen behind them, taken together.
use Rattle.std.proofs.Common.{◌≡◌, ℕ, ◌+◌, ◌-◌, ◌<◌, inl, inr, List, [], ◌∷◌, length, take, drop, refl, sym, ap, take-append-drop, length-drop, arith}
use Rattle.std.proofs.lemmas.Bool.{cases_lt}
use Rattle.std.proofs.lemmas.List.{length-take-le}
use Rattle.avro_schema.specs.Encodes.{Any}
use Rattle.avro_container.specs.File.{FileBlock, the_block}
use Rattle.avro_container.specs.FileForms.{after_size, marked_block}
use Rattle.avro_container.specs.Forms.{Form, raw, both, meaning}
use Rattle.avro_container.specs.Taking.{State, Passed, Stopped}
use Rattle.avro_container.specs.declared.parts.Stop.{Stop}
use Rattle.avro_container.proofs.OneFile.{block_some}
use Rattle.avro_container.proofs.Taken.{ends_as}

module _ {B : Type 0} (s m : ℕ) (g : List ℕ → List ℕ → B) where
  abbrev pair : Form B
  pair = both (raw s) (λ x. meaning (raw m) Any (g x))

  pair_begun : (b : List ℕ) → length b < s + m → pair.begun b
  pair_begun b l =
      elim (cases_lt (length b) s) [
        | inl short ↦ inl short
        | inr long ↦ inr (record {
          prefix = take s b;
          back = drop s b;
          joined = sym (take-append-drop s b);
          value = take s b;
          first = (length-take-le s b long, refl);
          second = omega (arith, length-drop s b, l, long);
        })
      ]

  pair_whole : (b : List ℕ) → length b ≡ s + m → pair.whole b (g (take s b) (drop s b))
  pair_whole b l = record {
    prefix = take s b;
    back = drop s b;
    joined = sym (take-append-drop s b);
    value = take s b;
    first = (length-take-le s b (omega (arith, l)), refl);
    second = record { value = drop s b; encoded = (omega (arith, length-drop s b, l), refl); allowed = tt; means = refl };
  }

  pub pair_stops : (a c : State) (e : Stop) → Stopped (raw (s + m)) a c e → Stopped pair a c e
  pair_stops a c e h = (h.0, ends_as (raw (s + m)) pair a c h.0 (pair_begun h.0) absurd e h.1)

  pub pair_passes : (a c : State) (items : List ℕ) → Passed (raw (s + m)) a c items → Passed pair a c (g (take (length items - m) items) (drop (length items - m) items))
  pair_passes a c items p =
      let size : length items - m ≡ s = omega (arith, p.2.0, ap length p.2.1) in
      (p.0, p.1, rw (size, p.2.1) (pair_whole p.0 p.2.0))

module _ (n s : ℕ) (a c : State) where
  pub data_stops : (e : Stop) → Stopped (raw (s + 16)) a c e → Stopped (after_size n s) a c e
  data_stops e h = pair_stops {B = FileBlock × List ℕ} s 16 (λ b m. (the_block n b, m)) a c e h

  pub data_passes : (items : List ℕ) → Passed (raw (s + 16)) a c items → Passed (after_size n s) a c (the_block n (take (length items - 16) items), drop (length items - 16) items)
  data_passes items p = pair_passes {B = FileBlock × List ℕ} s 16 (λ b m. (the_block n b, m)) a c items p

-- a block that was taken has a byte
pub fewer : (a b : State) (y : FileBlock) (m : List ℕ) → Passed marked_block a b (y, m) → b.limit < a.limit
fewer a b y m p = omega (arith, p.1.limit, some p.0 p.2)
  where
    some : (taken : List ℕ) → marked_block.whole taken (y, m) → 0 < length taken
    some [] w = absurd (block_some m [] y w refl)
    some (c ∷ taken) w = omega arith
