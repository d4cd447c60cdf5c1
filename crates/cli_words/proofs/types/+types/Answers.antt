-- The last byte of a word tells which form a type has; the first '=' ends a field's name, and the scan of braces tells where a field ends.
use Rattle.std.proofs.Common.{◌≡◌, ◌<◌, ◌-◌, ◌∷◌, [], ◌++◌, Some, None, inl, inr, refl, rules, arith, sym, subst}
use Rattle.std.proofs.lemmas.Result.{IfOk-weaker}
use Rattle.std.proofs.lemmas.Str.Pattern.{strip_suffix_char}
use Rattle.cli_words.specs.Types.{AreNamed, IsType}
use Rattle.cli_words.proofs.Bytes.{none_lacks, split_is, split_lacks}
use Rattle.cli_words.proofs.Ends.{only_plain, no_null_first, no_null_second, no_type}
use Rattle.cli_words.proofs.FieldLemmas.{no_field, no_last_field, sound_more, complete_more}
use Rattle.cli_words.proofs.SymbolLemmas.{after_semicolon_is_text}
use Rattle.cli_words.proofs.TypeSteps.{no_record, is_sized, no_sized, is_type, type_is, no_mark_no_field, named_parts}
use Rattle.cli_words.proofs.types.+types.Goals as goal

pub read_base-returns-in-Some-strip_suffix-clause-schema : goal.read_base-returns-in-Some-strip_suffix-clause-schema
read_base-returns-in-Some-strip_suffix-clause-schema t c =
    let at : c.args.word.now ≡ c.in-Some-strip_suffix.sized.now ++ (41 ∷ []) = strip_suffix_char 41 c.args.word.now (Some c.in-Some-strip_suffix.sized) c.in-Some-strip_suffix.ensures.cases (omega arith) in
    IfOk-weaker _ _ _ (λ s h. is_sized (IsType c.args.depth) c.args.word.now c.in-Some-strip_suffix.sized.now s at h) c.read_sized.ensures.schema

pub read_base-returns-in-Some-strip_suffix-clause-usage : goal.read_base-returns-in-Some-strip_suffix-clause-usage
read_base-returns-in-Some-strip_suffix-clause-usage t c = λ e.
    let at : c.args.word.now ≡ c.in-Some-strip_suffix.sized.now ++ (41 ∷ []) = strip_suffix_char 41 c.args.word.now (Some c.in-Some-strip_suffix.sized) c.in-Some-strip_suffix.ensures.cases (omega arith) in
    no_sized (IsType c.args.depth) c.args.word.now c.in-Some-strip_suffix.sized.now at (c.read_sized.ensures.usage e)

pub read_base-returns-clause-usage : goal.read_base-returns-clause-usage
read_base-returns-clause-usage t c = λ e s h.
    c.read_plain.ensures.usage e s (only_plain (IsType c.args.depth) c.args.word.now (c.in_default.ensures.none refl) (c.in_default-inside_of.ensures.none refl) (c.in_default-inside_of-2.ensures.none refl)
    (strip_suffix_char 41 c.args.word.now None c.in_default-strip_suffix.ensures.cases (omega arith)) s h)

pub read_type-returns-in_err-item-clause-usage : goal.read_type-returns-in_err-item-clause-usage
read_type-returns-in_err-item-clause-usage t c = λ e s h.
    let at : c.args.word.now ≡ c.in-Some.base.now ++ (63 ∷ []) = strip_suffix_char 63 c.args.word.now (Some c.in-Some.base) c.in-Some.ensures.cases (omega arith) in
    no_null_first (IsType (c.args.depth - 1)) c.args.word.now c.in-Some.base.now at (c.in_err-item.ensures.usage (search (rules, e))) s (type_is c.args.depth c.args.word.now s h)

pub read_type-returns-in-Some-clause-schema : goal.read_type-returns-in-Some-clause-schema
read_type-returns-in-Some-clause-schema t c =
    let low : 0 < c.args.depth = omega arith in
    let at : c.args.word.now ≡ c.in-Some.base.now ++ (63 ∷ []) = strip_suffix_char 63 c.args.word.now (Some c.in-Some.base) c.in-Some.ensures.cases (omega arith) in
    IfOk-weaker _ _ _ (λ s u. is_type c.args.depth c.args.word.now s low (inr (inl (c.in-Some.base.now, c.in_ok-item.item, c.in_ok-item.ensures.schema, at, u)))) c.union_of.ensures.union

pub read_type-returns-in_err-item-2-clause-usage : goal.read_type-returns-in_err-item-2-clause-usage
read_type-returns-in_err-item-2-clause-usage t c = λ e s h.
    let at : c.args.word.now ≡ c.in-Some-strip_suffix.base.now ++ (33 ∷ []) = strip_suffix_char 33 c.args.word.now (Some c.in-Some-strip_suffix.base) c.in-Some-strip_suffix.ensures.cases (omega arith) in
    no_null_second (IsType (c.args.depth - 1)) c.args.word.now c.in-Some-strip_suffix.base.now at (c.in_err-item-2.ensures.usage (search (rules, e))) s (type_is c.args.depth c.args.word.now s h)

pub read_type-returns-in-Some-strip_suffix-clause-schema : goal.read_type-returns-in-Some-strip_suffix-clause-schema
read_type-returns-in-Some-strip_suffix-clause-schema t c =
    let low : 0 < c.args.depth = omega arith in
    let at : c.args.word.now ≡ c.in-Some-strip_suffix.base.now ++ (33 ∷ []) = strip_suffix_char 33 c.args.word.now (Some c.in-Some-strip_suffix.base) c.in-Some-strip_suffix.ensures.cases (omega arith) in
    IfOk-weaker _ _ _ (λ s u. is_type c.args.depth c.args.word.now s low (inr (inr (c.in-Some-strip_suffix.base.now, c.in_ok-item-2.item, c.in_ok-item-2.ensures.schema, at, u)))) c.union_of-in-Some-strip_suffix.ensures.union

pub read_type-returns-clause-schema : goal.read_type-returns-clause-schema
read_type-returns-clause-schema t c =
    let low : 0 < c.args.depth = omega arith in
    IfOk-weaker _ _ _ (λ s b. is_type c.args.depth c.args.word.now s low (inl b)) c.read_base-2.ensures.schema

pub read_type-returns-clause-usage : goal.read_type-returns-clause-usage
read_type-returns-clause-usage t c = λ e s h.
    no_type (IsType (c.args.depth - 1)) c.args.word.now (strip_suffix_char 63 c.args.word.now None c.in_default.ensures.cases (omega arith))
    (strip_suffix_char 33 c.args.word.now None c.in_default-strip_suffix.ensures.cases (omega arith)) (c.read_base-2.ensures.usage e) s (type_is c.args.depth c.args.word.now s h)

pub read_named-returns-in_default-clause-usage : goal.read_named-returns-in_default-clause-usage
read_named-returns-in_default-clause-usage t c = λ e. no_mark_no_field (IsType c.args.depth) c.args.word.now (none_lacks 61 c.args.word.now (omega arith) c.in_default.ensures.cases)

pub read_named-returns-then-not-is_name-clause-usage : goal.read_named-returns-then-not-is_name-clause-usage
read_named-returns-then-not-is_name-clause-usage t c = λ e field named.
    let at = split_is 61 c.args.word.now c.in-Some.name.now c.in-Some.type_name.now (omega arith) c.in-Some.ensures.cases in
    let lacks = split_lacks 61 c.args.word.now c.in-Some.name.now c.in-Some.type_name.now (omega arith) c.in-Some.ensures.cases in
    let both = named_parts (IsType c.args.depth) c.args.word.now c.in-Some.name.now c.in-Some.type_name.now at lacks field named in
    search (rules, both)

pub read_named-returns-in_err-schema-clause-usage : goal.read_named-returns-in_err-schema-clause-usage
read_named-returns-in_err-schema-clause-usage t c = λ e field named.
    let at = split_is 61 c.args.word.now c.in-Some.name.now c.in-Some.type_name.now (omega arith) c.in-Some.ensures.cases in
    let lacks = split_lacks 61 c.args.word.now c.in-Some.name.now c.in-Some.type_name.now (omega arith) c.in-Some.ensures.cases in
    let both = named_parts (IsType c.args.depth) c.args.word.now c.in-Some.name.now c.in-Some.type_name.now at lacks field named in
    c.in_err-schema.ensures.usage (search (rules, e)) field.schema both.1

pub read_base-returns-in_err-fields-clause-usage : goal.read_base-returns-in_err-fields-clause-usage
read_base-returns-in_err-fields-clause-usage t c = λ e.
    no_record (IsType c.args.depth) c.args.word.now c.in-Some-inside_of.inside.now c.in-Some-inside_of.ensures.inside (c.in_err-fields.ensures.usage (search (rules, e)))

pub read_named_fields-returns-in_err-read_named-clause-usage : goal.read_named_fields-returns-in_err-read_named-clause-usage
read_named_fields-returns-in_err-read_named-clause-usage t c = λ e.
    no_field c.args.depth c.args.fields.now c.loop-field.rest.now c.in-Some.field.now c.in-Some.more.now (c.in-Some.ensures.fields, c.in-Some.ensures.first)
    c.loop-field.invariant.complete (c.in_err-read_named.ensures.usage (search (rules, e)))

pub read_named_fields-returns-in_err-read_named-2-clause-usage : goal.read_named_fields-returns-in_err-read_named-2-clause-usage
read_named_fields-returns-in_err-read_named-2-clause-usage t c = λ e.
    no_last_field c.args.depth c.args.fields.now c.loop-field.rest.now (c.in_default.ensures.none refl)
    c.loop-field.invariant.complete (c.in_err-read_named-2.ensures.usage (search (rules, e)))

pub read_named_fields-loop-field-preserved : goal.read_named_fields-loop-field-preserved
read_named_fields-loop-field-preserved t c =
    let rest = c.loop-field.rest.now in
    record {
      utf8 = after_semicolon_is_text rest c.in-Some.field.now c.in-Some.more.now c.in-Some.ensures.fields c.loop-field.invariant.utf8;
      sound = λ more h. subst (λ z. AreNamed (IsType c.args.depth) c.args.fields.now (z ++ more)) (sym c.in_ok-push.ensures.items)
          (sound_more c.args.depth c.args.fields.now rest c.in-Some.field.now c.in-Some.more.now _ c.loop-field.read.items c.in-Some.ensures.fields c.in_ok-read_named.ensures.field c.loop-field.invariant.sound more h);
      complete = complete_more c.args.depth c.args.fields.now rest c.in-Some.field.now c.in-Some.more.now (c.in-Some.ensures.fields, c.in-Some.ensures.first) c.loop-field.invariant.complete;
    }
