-- Builders of which arrays were made, one after another.
use Rattle.std.proofs.Common.{◌≡◌, ℕ, ◌+◌, ◌<◌, ◌≤◌, ◌≢◌, List, length, get_or, set, All, sym, subst, arith, inl, inr, ◌⊎◌}
use Rattle.std.proofs.Math.ListN.{length-set}
use Rattle.std.proofs.lemmas.Bool.{cases_eq}
use Rattle.std.proofs.lemmas.List.{get_or-set_same, get_or-set_other}
use Rattle.arrow_builders.specs.MutableArrays.{nodes}
use Rattle.arrow_builders.specs.Nodes.{IsEmpty}
use Rattle.arrow_builders.specs.declared.array.MutableArray.{MutableArray}
use Rattle.avro_decode.specs.Capacity.{AtNodes}

-- those before index i are empty
abbrev pub EmptySoFar : List MutableArray → ℕ → Type 0
EmptySoFar bs i = (k : ℕ) (d : MutableArray) → k < i → k < length bs → All IsEmpty (nodes (get_or bs k d))

pub emptied_more : (bs : List MutableArray) (i : ℕ) (b : MutableArray) → EmptySoFar bs i → All IsEmpty (nodes b) → EmptySoFar (set bs i b) (i + 1)
emptied_more bs i b so here k d lt in_list = from (cases_eq k i)
  where
    l : length (set bs i b) ≡ length bs
    l = length-set bs i b

    within : k < length bs
    within = omega (arith, l, in_list)

    from : (k ≡ i) ⊎ (k ≢ i) → All IsEmpty (nodes (get_or (set bs i b) k d))
    from (inl e) = rw e (subst (λ (x : MutableArray). All IsEmpty (nodes x)) (sym (get_or-set_same bs i b d (omega (arith, within, e)))) here)
    from (inr n) = subst (λ (x : MutableArray). All IsEmpty (nodes x)) (sym (get_or-set_other bs i k b d n)) (so k d (omega (arith, lt, n)) within)

pub emptied_all : (bs : List MutableArray) (i : ℕ) → length bs ≤ i → EmptySoFar bs i → AtNodes IsEmpty bs
emptied_all bs i le so k d lt = so k d (omega (arith, lt, le)) lt
