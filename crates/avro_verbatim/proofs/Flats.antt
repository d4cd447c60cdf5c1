-- Slots of schemas without others in them, in their canonical encoding.
use Rattle.std.proofs.Common.{◌≡◌, ◌∙◌, ℕ, zero, suc, ◌≤◌, ℤ, pos, negsuc, true, false, List, ◌∷◌, ◌++◌, Option, None, refl, sym, subst, arith}
use Rattle.std.specs.List.{IsSplitAt}
use Rattle.std.specs.Str.{IsUtf8}
use Rattle.std.proofs.lemmas.Int.{ints}
use Rattle.std.proofs.lemmas.List.{take-append-drop}
use Rattle.arrow_core.specs.declared.slot.Slot.TheVariants as slot
use Rattle.avro_schema.specs.Number.{zigzag}
use Rattle.avro_schema.specs.declared.schema.Fixed.{Fixed}
use Rattle.avro_schema.specs.declared.schema.FixedLogical.{FixedLogical}
use Rattle.avro_schema.specs.declared.schema.Schema.{Boolean, Int, Long, Bytes, String, Fixed as FixedSchema}
use Rattle.avro_schema.specs.Encodes.{IsInt}
use Rattle.avro_container.specs.Laws.{Has64Bits}
use Rattle.avro_encode.specs.Pairs.{IsLong, PairsFixed}
use Rattle.avro_encode.specs.Plain.{plain_fixed}
use Rattle.avro_verbatim.proofs.Numbers.{has_32_bits, int_number, long_number}
use Rattle.avro_verbatim.specs.Begins.{BeginsWith, BeginsWithCounted, BeginsWithGroups, BeginsWithNumber, BeginsWithSlot}

pub boolean_begins : (bytes rest : List ℕ) (b : ℕ) → bytes ≡ b ∷ rest → b ≤ 1 → BeginsWithSlot Boolean bytes rest
boolean_begins bytes rest zero e l = record { value = slot.Boolean false; holds = (false, refl); joined = e }
boolean_begins bytes rest (suc zero) e l = record { value = slot.Boolean true; holds = (true, refl); joined = e }
boolean_begins bytes rest (suc (suc b)) e l = absurd (omega (arith, l))

pub int_begins : (bytes rest : List ℕ) (v : ℤ) → BeginsWithNumber bytes v rest → IsInt v → BeginsWithSlot (Int None) bytes rest
int_begins bytes rest v h is = record { value = slot.Integer v; holds = (v, refl, is); joined = h.joined }

pub groups_begin_int : (bytes rest : List ℕ) → BeginsWithGroups 4 16 bytes rest → BeginsWithSlot (Int None) bytes rest
groups_begin_int bytes rest h = int_begins bytes rest (zigzag h.number) (int_number bytes rest h) (has_32_bits h.number (omega (arith, h.small)))

is_long : (v : ℤ) → Has64Bits v → IsLong v
is_long (pos n) h = (omega (arith, ints), omega (arith, ints, h))
is_long (negsuc n) h = (omega (arith, ints, h), omega (arith, ints))

pub long_begins : (bytes rest : List ℕ) (v : ℤ) → BeginsWithNumber bytes v rest → BeginsWithSlot (Long None) bytes rest
long_begins bytes rest v h = record { value = slot.Integer v; holds = (v, refl, is_long v h.fits); joined = h.joined }

pub groups_begin_long : (bytes rest : List ℕ) → BeginsWithGroups 9 2 bytes rest → BeginsWithSlot (Long None) bytes rest
groups_begin_long bytes rest h = long_begins bytes rest (zigzag h.number) (long_number bytes rest h)

pub binary_begins : (bytes part rest : List ℕ) → BeginsWithCounted bytes part rest → BeginsWithSlot (Bytes None) bytes rest
binary_begins bytes part rest h = record { value = slot.Binary part; holds = (part, refl, h.counted); joined = h.joined }

pub string_begins : (bytes part rest : List ℕ) → BeginsWithCounted bytes part rest → IsUtf8 part → BeginsWithSlot (String None) bytes rest
string_begins bytes part rest h is = record { value = slot.String part; holds = (part, refl, is, h.counted); joined = h.joined }

fixed_parts : (size : ℕ) (logical : Option FixedLogical) (bytes prefix back : List ℕ) → logical ≡ None → IsSplitAt bytes size prefix back → BeginsWith (PairsFixed size logical) (plain_fixed logical) bytes back
fixed_parts size logical bytes prefix back e split =
    let whole : bytes ≡ prefix ++ back = sym (take-append-drop size bytes) ∙ (λ i. sym split.1 i ++ sym split.2 i) in
    subst (λ (l : Option FixedLogical). BeginsWith (PairsFixed size l) (plain_fixed l) bytes back) (sym e) (record { value = slot.Binary prefix; holds = (prefix, refl, split.3); joined = whole })

pub fixed_begins : (f : Fixed) (bytes prefix back : List ℕ) → f.logical ≡ None → IsSplitAt bytes f.size prefix back → BeginsWithSlot (FixedSchema f) bytes back
fixed_begins f bytes prefix back e split = fixed_parts f.size f.logical bytes prefix back e split
