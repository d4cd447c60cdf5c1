-- There is a number for each node.
use Rattle.std.proofs.Common.{◌≡◌, ap, ℕ, suc, ◌*◌, List, [], ◌∷◌, map, length, refl, arith}
use Rattle.std.proofs.lemmas.List.{length-append}
use Rattle.arrow_array.specs.FixedLists.{list_size}
use Rattle.arrow_builders.specs.Children.{all_nodes, fields_of}
use Rattle.arrow_builders.specs.MutableArrays.{nodes, nodes_below}
use Rattle.arrow_builders.specs.Shapes.{nulls_in, shape, shapes_below}
use Rattle.arrow_builders.specs.declared.array.MutableArray.{MutableArray, List', LargeList', FixedSizeList', Struct', Row_of-MutableArray, end_of-MutableArray, more_of-MutableArray}
use Rattle.arrow_builders.specs.declared.array.MutableArray.{Null, Boolean, Int8, Int16, Int32, Int64, UInt8, UInt16, UInt32, UInt64, Int128, MonthDayNano, Utf8, LargeUtf8, Binary, LargeBinary, FixedSizeBinary, Dictionary}

mutual
  pub nulls-fit : (n : ℕ) (b : MutableArray) → length (nulls_in n (shape b)) ≡ length (nodes b)
  nulls-fit n (Null b) = refl
  nulls-fit n (Boolean b) = refl
  nulls-fit n (Int8 b) = refl
  nulls-fit n (Int16 b) = refl
  nulls-fit n (Int32 b) = refl
  nulls-fit n (Int64 b) = refl
  nulls-fit n (UInt8 b) = refl
  nulls-fit n (UInt16 b) = refl
  nulls-fit n (UInt32 b) = refl
  nulls-fit n (UInt64 b) = refl
  nulls-fit n (Int128 b) = refl
  nulls-fit n (MonthDayNano b) = refl
  nulls-fit n (Utf8 b) = refl
  nulls-fit n (LargeUtf8 b) = refl
  nulls-fit n (Binary b) = refl
  nulls-fit n (LargeBinary b) = refl
  nulls-fit n (FixedSizeBinary b) = refl
  nulls-fit n (Dictionary b) = refl
  nulls-fit n (List' marks p child) = ap suc (nulls-fit 0 child)
  nulls-fit n (LargeList' marks p child) = ap suc (nulls-fit 0 child)
  nulls-fit n (FixedSizeList' marks p child) = ap suc (nulls-fit (n * list_size marks.data_type) child)
  nulls-fit n (Struct' marks size row) = ap suc (nulls-fit_below n row)

  nulls-fit_below : {m : _} (n : ℕ) (row : Row_of-MutableArray m) → length (nulls_in n (shapes_below row)) ≡ length (nodes_below row)
  nulls-fit_below n end_of-MutableArray = refl
  nulls-fit_below n (more_of-MutableArray b rest) =
      omega (arith, nulls-fit n b, nulls-fit_below n rest, length-append (nulls_in n (shape b)) (nulls_in n (shapes_below rest)), length-append (nodes b) (nodes_below rest))

pub all_nulls-fit : (n : ℕ) (bs : List MutableArray) → length (nulls_in n (fields_of (map shape bs))) ≡ length (all_nodes bs)
all_nulls-fit n [] = refl
all_nulls-fit n (b ∷ bs) =
    omega (arith, nulls-fit n b, all_nulls-fit n bs, length-append (nulls_in n (shape b)) (nulls_in n (fields_of (map shape bs))), length-append (nodes b) (all_nodes bs))
