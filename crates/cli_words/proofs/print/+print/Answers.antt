-- The word of each kind of type is what is written for it.
use Rattle.std.proofs.Common.{◌≡◌, ◌-◌, ◌++◌, codes, map, sym, ap, ◌∙◌, rules, arith}
use Rattle.std.specs.Option.{option_map_or}
use Rattle.avro_schema.specs.declared.schema.Schema.TheOpen as layer
use Rattle.avro_schema.specs.declared.schema.Schema.TheVariants as variant
use Rattle.cli_words.specs.Printed.{joined, type_word, base_word, marked_word, field_word, int_word, long_word, bytes_word, string_word, fixed_word}
use Rattle.cli_words.proofs.Appends.{alone}
use Rattle.cli_words.proofs.PrintSteps.{word_at, base_says}
use Rattle.cli_words.proofs.print.+print.Goals as goal

pub push_base-returns-in-Null-clause-appended : goal.push_base-returns-in-Null-clause-appended
push_base-returns-in-Null-clause-appended t c =
    alone c.push.result c.args.text.now.items c.push.new.text.items (codes "null") (base_word (type_word c.args.depth) c.args.schema.now) (base_says (type_word c.args.depth) c.args.schema.now variant.Null layer.Null c.in-Null.is variant.outs-Null) c.push.ensures.appended

pub push_base-returns-in-Boolean-clause-appended : goal.push_base-returns-in-Boolean-clause-appended
push_base-returns-in-Boolean-clause-appended t c =
    alone c.push-in-Boolean.result c.args.text.now.items c.push-in-Boolean.new.text.items (codes "boolean") (base_word (type_word c.args.depth) c.args.schema.now) (base_says (type_word c.args.depth) c.args.schema.now variant.Boolean layer.Boolean c.in-Boolean.is variant.outs-Boolean) c.push-in-Boolean.ensures.appended

pub push_base-returns-in-Float-clause-appended : goal.push_base-returns-in-Float-clause-appended
push_base-returns-in-Float-clause-appended t c =
    alone c.push-in-Float.result c.args.text.now.items c.push-in-Float.new.text.items (codes "float") (base_word (type_word c.args.depth) c.args.schema.now) (base_says (type_word c.args.depth) c.args.schema.now variant.Float layer.Float c.in-Float.is variant.outs-Float) c.push-in-Float.ensures.appended

pub push_base-returns-in-Double-clause-appended : goal.push_base-returns-in-Double-clause-appended
push_base-returns-in-Double-clause-appended t c =
    alone c.push-in-Double.result c.args.text.now.items c.push-in-Double.new.text.items (codes "double") (base_word (type_word c.args.depth) c.args.schema.now) (base_says (type_word c.args.depth) c.args.schema.now variant.Double layer.Double c.in-Double.is variant.outs-Double) c.push-in-Double.ensures.appended

pub push_base-returns-in-Int-clause-appended : goal.push_base-returns-in-Int-clause-appended
push_base-returns-in-Int-clause-appended t c =
    let is : c.as_bytes.result.now ≡ int_word c.in-Int.logical = search rules in
    alone c.push-in-Int.result c.args.text.now.items c.push-in-Int.new.text.items c.as_bytes.result.now (base_word (type_word c.args.depth) c.args.schema.now) (base_says (type_word c.args.depth) c.args.schema.now (variant.Int c.in-Int.logical) (layer.Int c.in-Int.logical) c.in-Int.is (variant.outs-Int c.in-Int.logical) ∙ sym is) c.push-in-Int.ensures.appended

pub push_base-returns-in-Long-clause-appended : goal.push_base-returns-in-Long-clause-appended
push_base-returns-in-Long-clause-appended t c =
    let is : c.as_bytes-in-Long.result.now ≡ long_word c.in-Long.logical = search rules in
    alone c.push-in-Long.result c.args.text.now.items c.push-in-Long.new.text.items c.as_bytes-in-Long.result.now (base_word (type_word c.args.depth) c.args.schema.now) (base_says (type_word c.args.depth) c.args.schema.now (variant.Long c.in-Long.logical) (layer.Long c.in-Long.logical) c.in-Long.is (variant.outs-Long c.in-Long.logical) ∙ sym is) c.push-in-Long.ensures.appended

pub push_base-returns-in-String-clause-appended : goal.push_base-returns-in-String-clause-appended
push_base-returns-in-String-clause-appended t c =
    let is : c.as_bytes-in-String.result.now ≡ string_word c.in-String.logical = search rules in
    alone c.push-in-String.result c.args.text.now.items c.push-in-String.new.text.items c.as_bytes-in-String.result.now (base_word (type_word c.args.depth) c.args.schema.now) (base_says (type_word c.args.depth) c.args.schema.now (variant.String c.in-String.logical) (layer.String c.in-String.logical) c.in-String.is (variant.outs-String c.in-String.logical) ∙ sym is) c.push-in-String.ensures.appended

pub push_base-returns-in-Bytes-clause-appended : goal.push_base-returns-in-Bytes-clause-appended
push_base-returns-in-Bytes-clause-appended t c =
    alone c.push_bytes.result c.args.text.now.items c.push_bytes.new.text.items (bytes_word c.in-Bytes.logical) (base_word (type_word c.args.depth) c.args.schema.now) (base_says (type_word c.args.depth) c.args.schema.now (variant.Bytes c.in-Bytes.logical) (layer.Bytes c.in-Bytes.logical) c.in-Bytes.is (variant.outs-Bytes c.in-Bytes.logical)) c.push_bytes.ensures.appended

pub push_base-returns-in-Fixed-clause-appended : goal.push_base-returns-in-Fixed-clause-appended
push_base-returns-in-Fixed-clause-appended t c =
    alone c.push_fixed.result c.args.text.now.items c.push_fixed.new.text.items (fixed_word c.in-Fixed.fixed.size c.in-Fixed.fixed.logical) (base_word (type_word c.args.depth) c.args.schema.now) (base_says (type_word c.args.depth) c.args.schema.now (variant.Fixed c.in-Fixed.fixed) (layer.Fixed c.in-Fixed.fixed) c.in-Fixed.is (variant.outs-Fixed c.in-Fixed.fixed)) c.push_fixed.ensures.appended

pub push_base-returns-in-Record-clause-appended : goal.push_base-returns-in-Record-clause-appended
push_base-returns-in-Record-clause-appended t c =
    alone c.push_record.result c.args.text.now.items c.push_record.new.text.items (codes "{" ++ (joined (codes ";") (map (field_word (type_word c.args.depth)) c.as_slice.result.now) ++ codes "}")) (base_word (type_word c.args.depth) c.args.schema.now) (base_says (type_word c.args.depth) c.args.schema.now (variant.Record c.in-Record.record) (layer.Record c.in-Record.record) c.in-Record.is (variant.outs-Record c.in-Record.record) ∙ ap (λ s. codes "{" ++ (joined (codes ";") (map (field_word (type_word c.args.depth)) s) ++ codes "}")) (sym c.as_slice.ensures)) c.push_record.ensures.appended

pub push_base-returns-in-Enum-clause-appended : goal.push_base-returns-in-Enum-clause-appended
push_base-returns-in-Enum-clause-appended t c =
    alone c.push_enum.result c.args.text.now.items c.push_enum.new.text.items (codes "<" ++ (joined (codes ",") c.as_slice-in-Enum.result.now ++ codes ">")) (base_word (type_word c.args.depth) c.args.schema.now) (base_says (type_word c.args.depth) c.args.schema.now (variant.Enum c.in-Enum.symbols) (layer.Enum c.in-Enum.symbols) c.in-Enum.is (variant.outs-Enum c.in-Enum.symbols) ∙ ap (λ s. codes "<" ++ (joined (codes ",") s ++ codes ">")) (sym c.as_slice-in-Enum.ensures)) c.push_enum.ensures.appended

pub push_base-returns-in-Array-clause-appended : goal.push_base-returns-in-Array-clause-appended
push_base-returns-in-Array-clause-appended t c =
    alone c.push_list.result c.args.text.now.items c.push_list.new.text.items (codes "[" ++ (type_word c.args.depth c.get.result.now ++ codes "]")) (base_word (type_word c.args.depth) c.args.schema.now) (base_says (type_word c.args.depth) c.args.schema.now (variant.Array c.in-Array.item) (layer.Array c.in-Array.item) c.in-Array.is (variant.outs-Array c.in-Array.item) ∙ ap (λ s. codes "[" ++ (type_word c.args.depth s ++ codes "]")) (sym c.get.ensures)) c.push_list.ensures.appended

pub push_word-returns-in-Some-clause-appended : goal.push_word-returns-in-Some-clause-appended
push_word-returns-in-Some-clause-appended t c =
    alone c.push_marked.result c.args.text.now.items c.push_marked.new.text.items (marked_word (base_word (type_word (c.args.depth - 1))) c.in-Some.members.now) (type_word c.args.depth c.args.schema.now)
    (word_at c.args.depth c.args.schema.now (omega arith) ∙ ap (λ m. option_map_or (marked_word (base_word (type_word (c.args.depth - 1)))) m (base_word (type_word (c.args.depth - 1)) c.args.schema.now)) (sym c.in-Some.ensures)) c.push_marked.ensures.appended
