-- How many content bytes fixed-size binary values have in a builder, and at any depth beneath it.
use Rattle.std.specs.Prelude.{◌≡◌, ◌*◌, length}
use Rattle.arrow_array.specs.Parts.{byte_width}
use Rattle.arrow_builders.specs.declared.array.MutableArray.{MutableArray, FixedSizeBinary, List', LargeList', FixedSizeList', Struct', Row_of-MutableArray, end_of-MutableArray, more_of-MutableArray}

-- in a builder of fixed-size binary values the content bytes are its slots times the width of its type; so they are in each child
abbrev mutual
  pub HasFixedContent : MutableArray → Type 0
  HasFixedContent (FixedSizeBinary b) = b.bytes ≡ length b.slots * byte_width b.data_type
  HasFixedContent (List' lists p child) = HasFixedContent child
  HasFixedContent (LargeList' lists p child) = HasFixedContent child
  HasFixedContent (FixedSizeList' marks p child) = HasFixedContent child
  HasFixedContent (Struct' marks size row) = HaveFixedContent row
  HasFixedContent _ = Unit {0}

  -- in each of a struct's children
  pub HaveFixedContent : {m : _} → Row_of-MutableArray m → Type 0
  HaveFixedContent end_of-MutableArray = Unit {0}
  HaveFixedContent (more_of-MutableArray b rest) = HasFixedContent b × HaveFixedContent rest
