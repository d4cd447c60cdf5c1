-- What lies beneath an extension.
use Rattle.std.proofs.Common.{◌≡◌, refl, List, ℕ, Option}
use Rattle.arrow_core.specs.declared.types.DataType.{DataType}
use Rattle.arrow_core.specs.declared.types.DataType.TheBlock.{hidden-the_row-DataType-2}
use Rattle.arrow_core.specs.declared.types.DataType.TheVariants as types
use Rattle.arrow_core.specs.Layouts.{logical_type, physical_type}

pub logical_extension : (name : List ℕ) (inner : DataType) (metadata : Option (List ℕ)) → logical_type (types.Extension name inner metadata) ≡ logical_type inner
unfolding hidden-the_row-DataType-2 denote.Hole.Carrier.hidden
logical_extension name inner metadata = refl

pub physical_extension : (name : List ℕ) (inner : DataType) (metadata : Option (List ℕ)) → physical_type (types.Extension name inner metadata) ≡ physical_type inner
unfolding hidden-the_row-DataType-2 denote.Hole.Carrier.hidden
physical_extension name inner metadata = refl
