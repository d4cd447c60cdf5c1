-- The builder of one kept field among those of all.
use Rattle.std.proofs.Common.{◌≡◌, ℕ, zero, suc, ◌<◌, true, false, List, [], ◌∷◌, length, get_or, set, All, sym, subst, arith, Result, Ok, Err, OnOk}
use Rattle.std.proofs.lemmas.List.Elements.{All-cons}
use Rattle.arrow_builders.specs.MutableArrays.{nodes}
use Rattle.arrow_builders.specs.Shapes.{shape}
use Rattle.arrow_builders.specs.Tight.{IsTight}
use Rattle.arrow_builders.specs.declared.array.MutableArray.{MutableArray}
use Rattle.avro_schema.specs.declared.schema.AvroField.{AvroField}
use Rattle.avro_decode.specs.Growth.{Grows, AllOffsetsReach, HaveSpare, ChildrenGrow, ChildrenReach, ChildrenHaveSpare}
use Rattle.avro_decode.specs.Masks.{mask}
use Rattle.avro_decode.specs.Suits.{Suits, AllSuit}
use Rattle.avro_decode.proofs.Fields.{suit_at, reach_at, spare_at, children_set}

pub all_here : {A : Type 0} (P : A → Type 0) (xs : List A) (k : ℕ) (d : A) → k < length xs → All P xs → P (get_or xs k d)
all_here P xs k d lt h = h k d lt

pub all_set : {A : Type 0} (P : A → Type 0) (xs : List A) (k : ℕ) (x : A) → All P xs → P x → All P (set xs k x)
all_set P [] k x h p = h
all_set P (y ∷ xs) zero x h p = All-cons P x xs p (λ i d lt. h (suc i) d (omega (arith, lt)))
all_set P (y ∷ xs) (suc k) x h p = All-cons P y (set xs k x) (h 0 y (omega arith)) (all_set P xs k x (λ i d lt. h (suc i) d (omega (arith, lt))) p)

pub tight_set : {Y E : Type 0} (r : Result Y E) (bs : List MutableArray) (k : ℕ) (b : MutableArray) → All IsTight bs → OnOk r (IsTight b) → OnOk r (All IsTight (set bs k b))
tight_set (Ok u) bs k b h p = all_set IsTight bs k b h p
tight_set (Err e) bs k b h p = tt

module _ (fs : List AvroField) (bs : List MutableArray) (k : ℕ) (f : AvroField) (b : MutableArray) where
  pub suits_here : k < length fs → get_or fs k f ≡ f → AllSuit fs bs → Suits f.schema (shape (get_or bs k b))
  suits_here lt is h = subst (λ (g : AvroField). Suits g.schema (shape (get_or bs k b))) is (suit_at fs bs k f b lt h)

module _ (n : ℕ) (fs : List AvroField) (bs : List MutableArray) (k : ℕ) (f : AvroField) (b : MutableArray) where
  pub reach_here : length fs ≡ length bs → k < length fs → get_or fs k f ≡ f → ChildrenReach n fs bs → AllOffsetsReach (mask true f.schema) n (get_or bs k b)
  reach_here l lt is h = subst (λ (g : AvroField). AllOffsetsReach (mask true g.schema) n (get_or bs k b)) is (reach_at n fs bs k f b l lt h)

  pub spare_here : length fs ≡ length bs → k < length fs → get_or fs k f ≡ f → ChildrenHaveSpare n fs bs → HaveSpare (mask false f.schema) n (nodes (get_or bs k b))
  spare_here l lt is h = subst (λ (g : AvroField). HaveSpare (mask false g.schema) n (nodes (get_or bs k b))) is (spare_at n fs bs k f b l lt h)

  pub grows_here : (c : MutableArray) → length fs ≡ length bs → k < length fs → get_or fs k f ≡ f → Grows (mask false f.schema) n (nodes (get_or bs k b)) (nodes c) → ChildrenGrow n fs bs (set bs k c)
  grows_here c l lt is g = children_set n fs bs k f b c l lt (subst (λ (x : AvroField). Grows (mask false x.schema) n (nodes (get_or bs k b)) (nodes c)) (sym is) g)
