use Rattle.std.proofs.Common.{◌∷◌, ◌∙◌, true, false, ap, sym, subst}
use Rattle.json_tree.specs.Tree.{null, boolean, string}
use Rattle.json_tree.specs.Grammar.{text_null, text_true, text_false}
use Rattle.json_tree.specs.Reading.{strip, string_at}
use Rattle.json_tree.proofs.Turns.{scalar-nil, scalar-quote, scalar-null, scalar-true, scalar-false, scalar-else}
use Rattle.json_lend.specs.Skips.{Skips}
use Rattle.json_lend.proofs.SkipLaws.{skip-word, skip-bind}
use Rattle.json_lend.proofs.skip.skip_scalar.Goals as goal

pub returns-in_default-clause-reads : goal.returns-in_default-clause-reads
returns-in_default-clause-reads c = scalar-nil c.args.reader.now c.in_default.ensures

pub returns-then-byte-eq34-clause-reads : goal.returns-then-byte-eq34-clause-reads
returns-then-byte-eq34-clause-reads c =
    let s = c.in-Some.ensures in
    let is = scalar-quote c.args.reader.now s.0 (s.1 ∙ ap (λ x. x ∷ s.0) c.if-byte-eq34.true) in
    subst (Skips c.skip_string.result c.skip_string.new.reader) (sym is) (skip-bind c.skip_string.result c.skip_string.new.reader (string_at c.args.reader.now) string c.skip_string.ensures.reads)

pub returns-then-byte-eq110-clause-reads : goal.returns-then-byte-eq110-clause-reads
returns-then-byte-eq110-clause-reads c =
    let s = c.in-Some.ensures in
    let is = scalar-null c.args.reader.now s.0 (s.1 ∙ ap (λ x. x ∷ s.0) c.if-byte-eq110.true) in
    subst (Skips c.literal.result c.literal.new.reader) (sym is) (skip-word c.literal.result (strip text_null c.args.reader.now) c.literal.new.reader null c.literal.ensures.reads)

pub returns-then-byte-eq116-clause-reads : goal.returns-then-byte-eq116-clause-reads
returns-then-byte-eq116-clause-reads c =
    let s = c.in-Some.ensures in
    let l = c.literal-then-byte-eq116 in
    let is = scalar-true c.args.reader.now s.0 (s.1 ∙ ap (λ x. x ∷ s.0) c.if-byte-eq116.true) in
    subst (Skips l.result l.new.reader) (sym is) (skip-word l.result (strip text_true c.args.reader.now) l.new.reader (boolean true) l.ensures.reads)

pub returns-then-byte-eq102-clause-reads : goal.returns-then-byte-eq102-clause-reads
returns-then-byte-eq102-clause-reads c =
    let s = c.in-Some.ensures in
    let l = c.literal-then-byte-eq102 in
    let is = scalar-false c.args.reader.now s.0 (s.1 ∙ ap (λ x. x ∷ s.0) c.if-byte-eq102.true) in
    subst (Skips l.result l.new.reader) (sym is) (skip-word l.result (strip text_false c.args.reader.now) l.new.reader (boolean false) l.ensures.reads)

pub returns-clause-reads : goal.returns-clause-reads
returns-clause-reads c =
    let s = c.in-Some.ensures in
    let is = scalar-else c.args.reader.now s.0 c.in-Some.byte s.1 c.if-byte-eq34.false c.if-byte-eq110.false c.if-byte-eq116.false c.if-byte-eq102.false in
    subst (Skips c.skip_number.result c.skip_number.new.reader) (sym is) c.skip_number.ensures.reads
