use Rattle.std.proofs.Common.{◌∷◌, ◌∙◌, ap, sym, subst}
use Rattle.json_tree.specs.Gives.{Gives}
use Rattle.json_tree.proofs.Turns.{scalar-nil, scalar-quote, scalar-null, scalar-true, scalar-false, scalar-else}
use Rattle.json_tree.proofs.grammar.scalar.Goals as goal

pub returns-in_default-clause-reads : goal.returns-in_default-clause-reads
returns-in_default-clause-reads c = scalar-nil c.args.reader.now c.in_default.ensures

pub returns-then-byte-eq34-clause-reads : goal.returns-then-byte-eq34-clause-reads
returns-then-byte-eq34-clause-reads c =
    let s = c.in-Some.ensures in
    let is = scalar-quote c.args.reader.now s.0 (s.1 ∙ ap (λ x. x ∷ s.0) c.if-byte-eq34.true) in
    subst (Gives (λ _. c.string_value.new.out) c.string_value.result c.string_value.new.reader) (sym is) c.string_value.ensures.reads

pub returns-then-byte-eq110-clause-reads : goal.returns-then-byte-eq110-clause-reads
returns-then-byte-eq110-clause-reads c =
    let s = c.in-Some.ensures in
    let is = scalar-null c.args.reader.now s.0 (s.1 ∙ ap (λ x. x ∷ s.0) c.if-byte-eq110.true) in
    subst (Gives (λ _. c.null_value.new.out) c.null_value.result c.null_value.new.reader) (sym is) c.null_value.ensures.reads

pub returns-then-byte-eq116-clause-reads : goal.returns-then-byte-eq116-clause-reads
returns-then-byte-eq116-clause-reads c =
    let s = c.in-Some.ensures in
    let is = scalar-true c.args.reader.now s.0 (s.1 ∙ ap (λ x. x ∷ s.0) c.if-byte-eq116.true) in
    subst (Gives (λ _. c.boolean_value.new.out) c.boolean_value.result c.boolean_value.new.reader) (sym is) c.boolean_value.ensures.reads

pub returns-then-byte-eq102-clause-reads : goal.returns-then-byte-eq102-clause-reads
returns-then-byte-eq102-clause-reads c =
    let s = c.in-Some.ensures in
    let is = scalar-false c.args.reader.now s.0 (s.1 ∙ ap (λ x. x ∷ s.0) c.if-byte-eq102.true) in
    subst (Gives (λ _. c.boolean_value-then-byte-eq102.new.out) c.boolean_value-then-byte-eq102.result c.boolean_value-then-byte-eq102.new.reader) (sym is) c.boolean_value-then-byte-eq102.ensures.reads

pub returns-clause-reads : goal.returns-clause-reads
returns-clause-reads c =
    let s = c.in-Some.ensures in
    let is = scalar-else c.args.reader.now s.0 c.in-Some.byte s.1 c.if-byte-eq34.false c.if-byte-eq110.false c.if-byte-eq116.false c.if-byte-eq102.false in
    subst (Gives (λ _. c.number.new.out) c.number.result c.number.new.reader) (sym is) c.number.ensures.reads
