-- What a call does to a builder of any kind and to its children, told as one fact. Contracts of private functions
-- alone cite this file.
use Rattle.std.specs.Prelude.{◌≡◌, ℕ, ◌++◌, ◌∷◌, [], List, map, All, Result, IsOk, IfOk, IfErr, OnOk, OnErr}
use Rattle.std.specs.List.{AllZip}
use Rattle.arrow_core.specs.declared.error.Error.{Error}
use Rattle.arrow_core.specs.Errors.{OnlyOutOfMemory}
use Rattle.arrow_core.specs.declared.slot.Slot.TheVariants as slot
use Rattle.arrow_array.specs.Arrays.{array_type, array_slots, dictionaries_of}
use Rattle.arrow_array.specs.Parts.{IsRefusalOf}
use Rattle.arrow_array.specs.declared.array.Array.{Array}
use Rattle.arrow_flat.specs.Nodes.{NoLessSpare, Emptied, HasSpare, IsEmpty}
use Rattle.arrow_builders.specs.Children.{all_nodes, all_nulls, all_slots, AllFit}
use Rattle.arrow_builders.specs.Fits.{ChildrenFit}
use Rattle.arrow_builders.specs.MutableArrays.{builder_type, builder_slots, builder_dictionaries, nodes, slots_at}
use Rattle.arrow_builders.specs.NormalizedArrays.{IsNormalized}
use Rattle.arrow_builders.specs.Shapes.{shape, nulls_at, AllTake, AllGetNulls, AllGetBytes, FitsIn, BytesFitIn, IsFlat}
use Rattle.arrow_builders.specs.Tight.{IsTight}
use Rattle.arrow_builders.specs.declared.array.MutableArray.{MutableArray}

-- n nulls are asked for
pub record PushesNulls (n : ℕ) (b c : MutableArray) (r : Result (Unit {0}) Error) : Type 0 where
  pub same_shape : shape c ≡ shape b
  pub below : OnOk r (AllGetNulls (nulls_at n b) (slots_at b) (slots_at c))
  pub bytes : OnOk r (AllGetBytes (nulls_at n b) (nodes b) (nodes c))
  pub memory : OnlyOutOfMemory r
  pub takes : AllTake (nulls_at n b) (nodes b) (nodes c)
  pub has_capacity : AllZip FitsIn (nulls_at n b) (nodes b) → IsOk r

-- a null is asked for; where it is refused, a builder without children keeps its slots
pub record PushesNull (b c : MutableArray) (r : Result (Unit {0}) Error) : Type 0 where
  pub nulls : PushesNulls 1 b c r
  pub refused : OnErr r (IsFlat b → builder_slots c ≡ builder_slots b)
  pub refused_capacity : OnErr r (IsFlat b → AllZip NoLessSpare (nodes b) (nodes c))
  pub err : OnErr r (IsFlat b → AllZip BytesFitIn (nulls_at 1 b) (nodes b) → c ≡ b)

-- a null is asked for of each of several builders
pub record AllPushNull (bs cs : List MutableArray) (r : Result (Unit {0}) Error) : Type 0 where
  pub shapes : map shape cs ≡ map shape bs
  pub slots : OnOk r (map builder_slots cs ≡ map (λ b. builder_slots b ++ slot.Null ∷ []) bs)
  pub below : OnOk r (AllGetNulls (all_nulls 1 bs) (all_slots bs) (all_slots cs))
  pub bytes : OnOk r (AllGetBytes (all_nulls 1 bs) (all_nodes bs) (all_nodes cs))
  pub memory : OnlyOutOfMemory r
  pub takes : AllTake (all_nulls 1 bs) (all_nodes bs) (all_nodes cs)
  pub has_capacity : AllZip FitsIn (all_nulls 1 bs) (all_nodes bs) → IsOk r

-- spare capacity for n more slots and content bytes is asked for
pub record Reserves (n : ℕ) (b c : MutableArray) (r : Result (Unit {0}) Error) : Type 0 where
  pub same_shape : shape c ≡ shape b
  pub same_slots : slots_at c ≡ slots_at b
  pub capacity : AllZip NoLessSpare (nodes b) (nodes c)
  pub ok : OnOk r (All (HasSpare n) (nodes c))
  pub memory : OnlyOutOfMemory r

pub record AllReserve (n : ℕ) (bs cs : List MutableArray) (r : Result (Unit {0}) Error) : Type 0 where
  pub shapes : map shape cs ≡ map shape bs
  pub slots : map builder_slots cs ≡ map builder_slots bs
  pub same_slots : all_slots cs ≡ all_slots bs
  pub capacity : AllZip NoLessSpare (all_nodes bs) (all_nodes cs)
  pub ok : OnOk r (All (HasSpare n) (all_nodes cs))
  pub memory : OnlyOutOfMemory r

-- every slot is dropped
pub record Clears (b c : MutableArray) : Type 0 where
  pub same_shape : shape c ≡ shape b
  pub capacity : AllZip Emptied (nodes b) (nodes c)

pub record AllClear (bs cs : List MutableArray) : Type 0 where
  pub shapes : map shape cs ≡ map shape bs
  pub capacity : AllZip Emptied (all_nodes bs) (all_nodes cs)

-- the array is asked for, of one kind or of any
pub record Boxes {A : Type 0} (array_of : A → Array) (b c : MutableArray) (r : Result A Error) : Type 0 where
  pub same_shape : shape c ≡ shape b
  pub same_type : IfOk r (λ a. array_type (array_of a) ≡ builder_type b)
  pub same_slots : IfOk r (λ a. array_slots (array_of a) ≡ builder_slots b)
  pub same_dictionaries : IfOk r (λ a. dictionaries_of (array_of a) ≡ builder_dictionaries b)
  pub normalized : IsTight b → IfOk r (λ a. IsNormalized (array_of a))
  pub emptied : OnOk r (All IsEmpty (nodes c))
  pub fits : OnOk r (ChildrenFit b)
  pub err : IfErr r (IsRefusalOf (ChildrenFit b))

-- the arrays of several builders are asked for
pub record AllBox {V : Type 0} (arrays_of : V → List Array) (bs cs : List MutableArray) (r : Result V Error) : Type 0 where
  pub shapes : map shape cs ≡ map shape bs
  pub types : IfOk r (λ v. map array_type (arrays_of v) ≡ map builder_type bs)
  pub slots : IfOk r (λ v. map array_slots (arrays_of v) ≡ map builder_slots bs)
  pub dictionaries : IfOk r (λ v. map dictionaries_of (arrays_of v) ≡ map builder_dictionaries bs)
  pub emptied : OnOk r (All IsEmpty (all_nodes cs))
  pub fits : OnOk r (AllFit bs)
  pub err : IfErr r (IsRefusalOf (AllFit bs))
