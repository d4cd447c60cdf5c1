-- The record that lines are written under has no size and no decimal: its text may be nested too deep, and be no UTF-8,
-- but gives it back otherwise.
use Rattle.std.proofs.Common.{◌≡◌, ◌∙◌, ℕ, true, not, eqb, List, [], ◌∷◌, length, refl, sym}
use Rattle.std.proofs.lemmas.Bool.{and_parts, false≢true}
use Rattle.arrow_core.specs.declared.types.DataType.{DataType}
use Rattle.arrow_core.specs.declared.types.DataType as types
use Rattle.arrow_core.specs.declared.types.Field.{Field}
use Rattle.avro_schema.specs.declared.schema.Record.{Record as TheRecord}
use Rattle.avro_schema.specs.declared.schema.Schema.{Record}
use Rattle.avro_file.specs.Writable.{numbers_fit}
use Rattle.avro_types.specs.Listed.{HasNoFields}
use Rattle.avro_types.proofs.ByFields.{large_list_schema, list_schema}
use Rattle.json_columns.specs.Gathered.{all_have_reading}
use Rattle.json_flat.specs.Reading.{has_reading}
use Rattle.json_columns.proofs.ByFields.{large_list_readable, list_readable, struct_readable}
use Rattle.ndjson_avro.specs.Target.{HasTarget}
use Rattle.arrow_convert.specs.ReadAgain.{RecordsAreWritable}
use Rattle.arrow_convert.proofs.ByParts.{EachType, each_by_parts}
use Rattle.arrow_convert.proofs.Fitting.{Fits, flat_fits, listed_fits, struct_fits, target_fits, type_fits}

-- a type that values are read under
abbrev IsFit : DataType → Type 0
IsFit t = has_reading t ≡ true → Fits t

readable_fits : (t : DataType) → has_reading t ≡ true → type_fits t ≡ true
readable_fits (types.FixedSizeBinary size) h = absurd (false≢true h)
readable_fits (types.Decimal precision scale) h = absurd (false≢true h)
readable_fits _ h = refl

flat_read : (t : DataType) → HasNoFields t → IsFit t
flat_read t x h = flat_fits t x (readable_fits t h)

all_read : (fs : List Field) → EachType IsFit fs → all_have_reading fs ≡ true → EachType Fits fs
all_read [] all h = tt
all_read (f ∷ fs) all h = let both = and_parts (has_reading f.data_type) (all_have_reading fs) h in (all.0 both.0, all_read fs all.1 both.1)

fields_have_reading : (fs : List Field) → has_reading (types.Struct fs) ≡ true → all_have_reading fs ≡ true
fields_have_reading fs h = (and_parts (not (eqb (length fs) 0)) (all_have_reading fs) (sym (struct_readable fs) ∙ h)).1

each_fits : (fs : List Field) → EachType IsFit fs
each_fits = each_by_parts IsFit flat_read
    (λ f p h. listed_fits (types.List f) f (λ k. list_schema true k f) (p (sym (list_readable f) ∙ h)))
    (λ f p h. listed_fits (types.LargeList f) f (λ k. large_list_schema true k f) (p (sym (large_list_readable f) ∙ h)))
    (λ fs all h. struct_fits fs (all_read fs all (fields_have_reading fs h)))

pub lines_fit : (fields : List Field) (name : List ℕ) (target : TheRecord) → HasTarget fields name target → numbers_fit (Record target) ≡ true
lines_fit fields name target h = target_fits fields name h.nameless target h.recorded h.named (all_read fields (each_fits fields) (fields_have_reading fields h.readable))

pub records_are_writable : RecordsAreWritable
records_are_writable fields name target h utf8 nested = record { utf8 = utf8; numbers = lines_fit fields name target h; nested = nested }
