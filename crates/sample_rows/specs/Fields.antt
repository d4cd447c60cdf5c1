-- The fields of the rows that `avrocat make` draws: `id=long`, `user=string?`, `tags=[string]` and `ok=boolean`.
use Rattle.std.specs.Prelude.{List, [], ◌∷◌, None, codes}
use Rattle.avro_schema.specs.declared.schema.AvroField.{AvroField}
use Rattle.avro_schema.specs.declared.schema.Schema.{Schema, Null, Boolean, Long, String, Array, Union}

abbrev pub id_field : AvroField
id_field = record { name = codes "id"; doc = None; schema = Long None }

abbrev pub user_field : AvroField
user_field = record { name = codes "user"; doc = None; schema = Union (Null ∷ String None ∷ []) }

abbrev pub tags_field : AvroField
tags_field = record { name = codes "tags"; doc = None; schema = Array (String None) }

abbrev pub ok_field : AvroField
ok_field = record { name = codes "ok"; doc = None; schema = Boolean }

unfoldable pub row_fields : List AvroField
row_fields = id_field ∷ user_field ∷ tags_field ∷ ok_field ∷ []
