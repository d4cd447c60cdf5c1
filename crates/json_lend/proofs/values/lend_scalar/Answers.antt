use Rattle.std.proofs.Common.{◌∷◌, ◌∙◌, ap, sym, subst}
use Rattle.json_tree.specs.Gives.{Gives}
use Rattle.json_tree.proofs.Turns.{scalar-nil, scalar-quote, scalar-null, scalar-true, scalar-false, scalar-else}
use Rattle.json_lend.specs.Standing.{lent_value}
use Rattle.json_lend.proofs.values.lend_scalar.Goals as goal

pub returns-in_default-clause-reads : goal.returns-in_default-clause-reads
returns-in_default-clause-reads c = scalar-nil c.args.reader.now c.in_default.ensures

pub returns-then-byte-eq34-clause-reads : goal.returns-then-byte-eq34-clause-reads
returns-then-byte-eq34-clause-reads c =
    let s = c.in-Some.ensures in
    let is = scalar-quote c.args.reader.now s.0 (s.1 ∙ ap (λ x. x ∷ s.0) c.if-byte-eq34.true) in
    subst (Gives lent_value c.lend_string.result c.lend_string.new.reader) (sym is) c.lend_string.ensures.reads

pub returns-then-byte-eq110-clause-reads : goal.returns-then-byte-eq110-clause-reads
returns-then-byte-eq110-clause-reads c =
    let s = c.in-Some.ensures in
    let l = c.lend_word in
    let is = scalar-null c.args.reader.now s.0 (s.1 ∙ ap (λ x. x ∷ s.0) c.if-byte-eq110.true) in
    subst (Gives lent_value l.result l.new.reader) (sym is) l.ensures.reads

pub returns-then-byte-eq116-clause-reads : goal.returns-then-byte-eq116-clause-reads
returns-then-byte-eq116-clause-reads c =
    let s = c.in-Some.ensures in
    let l = c.lend_word-then-byte-eq116 in
    let is = scalar-true c.args.reader.now s.0 (s.1 ∙ ap (λ x. x ∷ s.0) c.if-byte-eq116.true) in
    subst (Gives lent_value l.result l.new.reader) (sym is) l.ensures.reads

pub returns-then-byte-eq102-clause-reads : goal.returns-then-byte-eq102-clause-reads
returns-then-byte-eq102-clause-reads c =
    let s = c.in-Some.ensures in
    let l = c.lend_word-then-byte-eq102 in
    let is = scalar-false c.args.reader.now s.0 (s.1 ∙ ap (λ x. x ∷ s.0) c.if-byte-eq102.true) in
    subst (Gives lent_value l.result l.new.reader) (sym is) l.ensures.reads

pub returns-clause-reads : goal.returns-clause-reads
returns-clause-reads c =
    let s = c.in-Some.ensures in
    let is = scalar-else c.args.reader.now s.0 c.in-Some.byte s.1 c.if-byte-eq34.false c.if-byte-eq110.false c.if-byte-eq116.false c.if-byte-eq102.false in
    subst (Gives lent_value c.lend_number.result c.lend_number.new.reader) (sym is) c.lend_number.ensures.reads
