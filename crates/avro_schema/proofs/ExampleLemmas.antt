-- The bytes of the examples, part by part.
use Rattle.std.proofs.Common.{◌≡◌, ℕ, pos, negsuc, List, [], ◌∷◌, None, refl, sym, subst, arith, inl, inr}
use Rattle.std.specs.Str.{IsUtf8}
use Rattle.arrow_core.specs.declared.slot.Slot.{Slot}
use Rattle.arrow_core.specs.declared.slot.Slot.TheVariants as slot
use Rattle.avro_schema.specs.declared.schema.Schema.{Long, String, Array, Union, Null}
use Rattle.avro_schema.specs.Number.{Number}
use Rattle.avro_schema.specs.Parts.{Grammar, last, block, Many}
use Rattle.avro_schema.specs.Encodes.{Encodes}
use Rattle.avro_schema.specs.Skips.{Skips}
use Rattle.avro_schema.specs.declared.schema.Schema.TheBlock.{shape-the_row-Schema-0, hidden-the_row-Schema-0}
use Rattle.avro_schema.specs.Broken as broken
use Rattle.avro_schema.specs.NegativeSize.{NegativeSize}
use Rattle.avro_schema.specs.Examples.{fields, projection, broken_rows, BreakExample, RecordExample, ArrayExample, SizedArrayExample, SkippedArrayExample, NullExample, MemberExample}
use Rattle.avro_schema.specs.Skips as skips
use Rattle.avro_schema.proofs.ByLists.{encodes_array, skips_array, encodes_union}

number_0 : Number (0 ∷ []) (pos 0)
number_0 = record { groups = omega arith; short = omega arith; fits = omega arith; value = refl }

number_1 : Number (2 ∷ []) (pos 1)
number_1 = record { groups = omega arith; short = omega arith; fits = omega arith; value = refl }

number_2 : Number (4 ∷ []) (pos 2)
number_2 = record { groups = omega arith; short = omega arith; fits = omega arith; value = refl }

number_3 : Number (6 ∷ []) (pos 3)
number_3 = record { groups = omega arith; short = omega arith; fits = omega arith; value = refl }

number_27 : Number (54 ∷ []) (pos 27)
number_27 = record { groups = omega arith; short = omega arith; fits = omega arith; value = refl }

number_minus_1 : Number (1 ∷ []) (negsuc 0)
number_minus_1 = record { groups = omega arith; short = omega arith; fits = omega arith; value = refl }

number_minus_2 : Number (3 ∷ []) (negsuc 1)
number_minus_2 = record { groups = omega arith; short = omega arith; fits = omega arith; value = refl }

utf8_a : IsUtf8 (97 ∷ [])
unfolding lib.Utf8.encode
utf8_a = (97 ∷ [], (refl, refl))

utf8_foo : IsUtf8 (102 ∷ 111 ∷ 111 ∷ [])
unfolding lib.Utf8.encode
utf8_foo = (102 ∷ 111 ∷ 111 ∷ [], (refl, refl))

long : (bytes : List ℕ) (v : _) → Number bytes v → Encodes (Long None) bytes (slot.Integer v)
long bytes v n = record { value = v; encoded = n; allowed = tt; means = refl }

string_a : Encodes (String None) (2 ∷ 97 ∷ []) (slot.String (97 ∷ []))
string_a = record {
  value = 97 ∷ [];
  encoded = record { prefix = 2 ∷ []; back = 97 ∷ []; joined = refl; value = pos 1; first = number_1; second = (refl, refl) };
  allowed = utf8_a;
  means = refl;
}

string_foo : Encodes (String None) (6 ∷ 102 ∷ 111 ∷ 111 ∷ []) (slot.String (102 ∷ 111 ∷ 111 ∷ []))
string_foo = record {
  value = 102 ∷ 111 ∷ 111 ∷ [];
  encoded = record { prefix = 6 ∷ []; back = 102 ∷ 111 ∷ 111 ∷ []; joined = refl; value = pos 3; first = number_3; second = (refl, refl) };
  allowed = utf8_foo;
  means = refl;
}

items : Many (Encodes (Long None)) 2 (6 ∷ 54 ∷ []) (slot.Integer (pos 3) ∷ slot.Integer (pos 27) ∷ [])
items = record {
  prefix = 6 ∷ [];
  back = 54 ∷ [];
  joined = refl;
  value = slot.Integer (pos 3);
  first = long (6 ∷ []) (pos 3) number_3;
  second = (slot.Integer (pos 27) ∷ [], refl, record { prefix = 54 ∷ []; back = []; joined = refl; value = slot.Integer (pos 27); first = long (54 ∷ []) (pos 27) number_27; second = ([], refl, (refl, refl)) });
}

-- what one of two equal grammars encodes the other encodes
as_encoded : {A : Type 0} (P Q : Grammar A) → P ≡ Q → (bytes : List ℕ) (x : A) → Q bytes x → P bytes x
as_encoded P Q e bytes x h = subst (λ R. R bytes x) (sym e) h

abbrev three_and_27 : List Slot
three_and_27 = slot.Integer (pos 3) ∷ slot.Integer (pos 27) ∷ []

pub array_example : ArrayExample
array_example =
    as_encoded (Encodes (Array (Long None))) _ (encodes_array (Long None)) (4 ∷ 6 ∷ 54 ∷ 0 ∷ []) (slot.List three_and_27)
    (record { value = slot.Integer (pos 3) ∷ slot.Integer (pos 27) ∷ []; encoded = block (4 ∷ []) (6 ∷ 54 ∷ []) (0 ∷ []) (pos 2) _ [] number_2 (omega arith, items) (last number_0); allowed = tt; means = refl })

pub sized_array_example : SizedArrayExample
sized_array_example =
    as_encoded (Encodes (Array (Long None))) _ (encodes_array (Long None)) (3 ∷ 4 ∷ 6 ∷ 54 ∷ 0 ∷ []) (slot.List three_and_27)
    (record {
      value = slot.Integer (pos 3) ∷ slot.Integer (pos 27) ∷ [];
      encoded = block (3 ∷ []) (4 ∷ 6 ∷ 54 ∷ []) (0 ∷ []) (negsuc 1) _ [] number_minus_2 (omega arith, record { prefix = 4 ∷ []; back = 6 ∷ 54 ∷ []; joined = refl; value = pos 2; first = number_2; second = (refl, items) }) (last number_0);
      allowed = tt;
      means = refl;
    })

pub skipped_array_example : SkippedArrayExample
skipped_array_example =
    as_encoded (Skips (Array (Long None))) _ (skips_array (Long None)) (3 ∷ 4 ∷ 6 ∷ 54 ∷ 0 ∷ []) (record { seen = 3; hidden = 2 })
    (skips.block (3 ∷ []) (4 ∷ 6 ∷ 54 ∷ []) (0 ∷ []) (negsuc 1) (record { seen = 1; hidden = 2 }) (record { seen = 1; hidden = 0 }) number_minus_2
    (omega arith, record { prefix = 4 ∷ []; back = 6 ∷ 54 ∷ []; joined = refl; value = (pos 2, 1); first = (number_2, refl); second = (refl, refl) }) (skips.last number_0))

pub null_example : NullExample
null_example =
    as_encoded (Encodes (Union (Null ∷ String None ∷ []))) _ (encodes_union (Null ∷ String None ∷ [])) (0 ∷ []) slot.Null
    (record { prefix = 0 ∷ []; back = []; joined = refl; value = pos 0; first = number_0; second = (0, refl, omega arith, inr (tt, refl, refl)) })

pub member_example : MemberExample
member_example =
    as_encoded (Encodes (Union (Null ∷ String None ∷ []))) _ (encodes_union (Null ∷ String None ∷ [])) (2 ∷ 2 ∷ 97 ∷ []) (slot.String (97 ∷ []))
    (record { prefix = 2 ∷ []; back = 2 ∷ 97 ∷ []; joined = refl; value = pos 1; first = number_1; second = (1, refl, omega arith, inl string_a) })

pub record_example : RecordExample
record_example a b e f =
    record {
      prefix = 54 ∷ [];
      back = 6 ∷ 102 ∷ 111 ∷ 111 ∷ [];
      joined = refl;
      value = slot.Integer (pos 27);
      first = subst (λ s. Encodes s (54 ∷ []) (slot.Integer (pos 27))) (sym e) (long (54 ∷ []) (pos 27) number_27);
      second = (
        slot.String (102 ∷ 111 ∷ 111 ∷ []) ∷ [],
        refl,
        record {
          prefix = 6 ∷ 102 ∷ 111 ∷ 111 ∷ [];
          back = [];
          joined = refl;
          value = slot.String (102 ∷ 111 ∷ 111 ∷ []);
          first = subst (λ s. Encodes s (6 ∷ 102 ∷ 111 ∷ 111 ∷ []) (slot.String (102 ∷ 111 ∷ 111 ∷ []))) (sym f) string_foo;
          second = ([], refl, (refl, refl));
        },
      );
    }

breaks_off : NegativeSize 2 fields projection broken_rows
unfolding shape-the_row-Schema-0 hidden-the_row-Schema-0 denote.Hole.Carrier.hidden
breaks_off = record {
  enough = omega arith;
  whole = 1;
  fewer = omega arith;
  prefix = 2 ∷ 0 ∷ [];
  back = 4 ∷ 4 ∷ 0 ∷ 3 ∷ 1 ∷ [];
  joined = refl;
  pieces = record { slots = slot.Integer (pos 1) ∷ []; kept = 1; passed = record { seen = 1; hidden = 0 } } ∷ [];
  rows = record {
    prefix = 2 ∷ 0 ∷ [];
    back = [];
    joined = refl;
    value = record { slots = slot.Integer (pos 1) ∷ []; kept = 1; passed = record { seen = 1; hidden = 0 } };
    first = record {
      prefix = 2 ∷ [];
      back = 0 ∷ [];
      joined = refl;
      value = (slot.Integer (pos 1), 1);
      first = (long (2 ∷ []) (pos 1) number_1, refl);
      second = (
        record { slots = []; kept = 0; passed = record { seen = 1; hidden = 0 } },
        refl,
        record { prefix = 0 ∷ []; back = []; joined = refl; value = record { seen = 1; hidden = 0 }; first = skips.last number_0; second = (record { slots = []; kept = 0; passed = record { seen = 0; hidden = 0 } }, refl, (refl, refl)) },
      );
    };
    second = ([], refl, (refl, refl));
  };
  broken = (
    4 ∷ [],
    4 ∷ 0 ∷ 3 ∷ 1 ∷ [],
    refl,
    slot.Integer (pos 2),
    long (4 ∷ []) (pos 2) number_2,
    inl
        (broken.broken_item (4 ∷ []) (0 ∷ []) (3 ∷ 1 ∷ []) 1 1 (record { seen = 1; hidden = 0 }) number_2 (omega arith)
        (record { prefix = 0 ∷ []; back = []; joined = refl; value = record { seen = 1; hidden = 0 }; first = skips.last number_0; second = (record { seen = 0; hidden = 0 }, refl, (refl, refl)) })
        (broken.false_size (3 ∷ []) (1 ∷ []) [] 1 0 number_minus_2 (omega arith) number_minus_1)),
  );
}

pub break_example : BreakExample
unfolding breaks_off shape-the_row-Schema-0 hidden-the_row-Schema-0 denote.Hole.Carrier.hidden
break_example = record { breaks = breaks_off; whole = refl; location = refl }
