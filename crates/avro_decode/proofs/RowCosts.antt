-- What the fields of a row, and rows, cost together.
use Rattle.std.proofs.Common.{ℕ, ◌+◌, List, [], ◌∷◌, ◌++◌, arith}
use Rattle.std.proofs.lemmas.List.Sums.{sum_by-append}
use Rattle.avro_schema.specs.Rows.{Pieces, total_kept, total_seen, total_hidden}
use Rattle.avro_reference.specs.Costs.{passed, Costs, CostsKept}

module _ {X : Type 0} (rest : X → List ℕ) (shown calls : X → ℕ) where
  pub kept_more : (x y z : X) (kept seen hidden : ℕ) → Costs rest shown calls x y (kept + seen) hidden → CostsKept rest shown calls y z → Costs rest shown calls x z (kept + passed (rest y) (rest z) + seen) hidden
  kept_more x y z kept seen hidden c d = record { few_shown = omega (arith, c.few_shown, d.few_shown); few_calls = omega (arith, c.few_calls, d.few_calls) }

  pub skipped_more : (x y z : X) (kept seen hidden s h : ℕ) → Costs rest shown calls x y (kept + seen) hidden → Costs rest shown calls y z s h → Costs rest shown calls x z (kept + (seen + s)) (hidden + h)
  skipped_more x y z kept seen hidden s h c d = record { few_shown = omega (arith, c.few_shown, d.few_shown); few_calls = omega (arith, c.few_calls, d.few_calls) }

  pub rows_more : (x y z : X) (ys : List Pieces) (p : Pieces) → Costs rest shown calls x y (total_kept ys + total_seen ys) (total_hidden ys) → Costs rest shown calls y z (p.kept + p.passed.seen) p.passed.hidden → Costs rest shown calls x z (total_kept (ys ++ p ∷ []) + total_seen (ys ++ p ∷ [])) (total_hidden (ys ++ p ∷ []))
  rows_more x y z ys p c d =
      let k = sum_by-append (λ (q : Pieces). q.kept) ys (p ∷ []) in
      let s = sum_by-append (λ (q : Pieces). q.passed.seen) ys (p ∷ []) in
      let h = sum_by-append (λ (q : Pieces). q.passed.hidden) ys (p ∷ []) in
      record { few_shown = omega (arith, k, s, c.few_shown, d.few_shown); few_calls = omega (arith, h, c.few_calls, d.few_calls) }
