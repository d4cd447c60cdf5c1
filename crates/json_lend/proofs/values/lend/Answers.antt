use Rattle.std.proofs.Common.{◌≡◌, ◌∙◌, ◌∷◌, ◌-◌, suc, ap, sym, subst, arith}
use Rattle.json_tree.specs.Gives.{Gives}
use Rattle.json_tree.proofs.Turns.{value-array, next-known}
use Rattle.json_lend.specs.Standing.{lent_value}
use Rattle.json_lend.proofs.SkipLaws.{value-object, value-else}
use Rattle.json_lend.proofs.values.lend.Goals as goal

pub returns-then-byte-eq91-clause-reads : goal.returns-then-byte-eq91-clause-reads
returns-then-byte-eq91-clause-reads c =
    let s = c.in-Some.ensures in
    let first = next-known c.next.result c.args.reader.now c.next.new.self s.0 91 (s.1 ∙ ap (λ x. x ∷ s.0) c.if-byte-eq91.true) c.next.ensures in
    let n : c.args.depth ≡ suc (c.args.depth - 1) = omega (arith, c.if-depth-eq0.false) in
    subst (Gives lent_value c.lend_array.result c.lend_array.new.reader) (sym (value-array c.args.depth (c.args.depth - 1) c.args.reader.now c.next.new.self n first)) c.lend_array.ensures.reads

pub returns-then-byte-eq123-clause-reads : goal.returns-then-byte-eq123-clause-reads
returns-then-byte-eq123-clause-reads c =
    let s = c.in-Some.ensures in
    let first = next-known c.next-then-byte-eq123.result c.args.reader.now c.next-then-byte-eq123.new.self s.0 123 (s.1 ∙ ap (λ x. x ∷ s.0) c.if-byte-eq123.true) c.next-then-byte-eq123.ensures in
    let n : c.args.depth ≡ suc (c.args.depth - 1) = omega (arith, c.if-depth-eq0-2.false) in
    subst (Gives lent_value c.lend_object.result c.lend_object.new.reader) (sym (value-object c.args.depth (c.args.depth - 1) c.args.reader.now c.next-then-byte-eq123.new.self n first)) c.lend_object.ensures.reads

pub returns-clause-reads : goal.returns-clause-reads
returns-clause-reads c =
    let s = c.in-Some.ensures in
    subst (Gives lent_value c.lend_scalar.result c.lend_scalar.new.reader) (sym (value-else c.args.depth c.args.reader.now s.0 c.in-Some.byte s.1 c.if-byte-eq91.false c.if-byte-eq123.false)) c.lend_scalar.ensures.reads
