-- Types that are the same but for the order of fields.
use Rattle.std.specs.Prelude.{◌≡◌, List, map}
use Rattle.arrow_core.specs.declared.types.DataType.{DataType}
use Rattle.arrow_core.specs.declared.types.DataType as data_type
use Rattle.arrow_core.specs.declared.types.Field.{Field}
use Rattle.json_infer.specs.Lists.{Among, EachOnce, SameMembers}

-- They are equal; or both are Lists, whose item types are the same in this way; or both are Structs with the same names, each
-- once, and the two types of each name are the same in this way.
pub data SameUpToOrder : DataType → DataType → Type 0 where
  equal : (t : DataType) → SameUpToOrder t t
  lists : (f g : Field) → SameUpToOrder f.data_type g.data_type → SameUpToOrder (data_type.List f) (data_type.List g)
  structs : (fs gs : List Field) → EachOnce (map (λ f. f.name) fs) → EachOnce (map (λ g. g.name) gs) → SameMembers (map (λ f. f.name) fs) (map (λ g. g.name) gs)
      → ((f g : Field) → Among f fs → Among g gs → f.name ≡ g.name → SameUpToOrder f.data_type g.data_type)
      → SameUpToOrder (data_type.Struct fs) (data_type.Struct gs)
