use Rattle.std.proofs.Common.{refl, arith}
use Rattle.json_tree.proofs.InTexts.{utf8_after}
use Rattle.json_tree.proofs.Escapes.{escape-none, escape-u, escape-short, escape-bad}
use Rattle.json_tree.proofs.strings.escape.Goals as goal

pub unicode_escape-requires : goal.unicode_escape-requires
unicode_escape-requires c = utf8_after c.args.reader.now c.next.new.self c.in-Some.byte c.requires c.in-Some.ensures (omega arith)

pub returns-then-byte-eq117-clause-reads : goal.returns-then-byte-eq117-clause-reads
returns-then-byte-eq117-clause-reads c = rw (escape-u c.in-Some.byte c.args.reader.now c.next.new.self c.in-Some.ensures c.if-byte-eq117.true) c.unicode_escape.ensures.reads

pub returns-in-None-clause-reads : goal.returns-in-None-clause-reads
returns-in-None-clause-reads c = (refl, escape-none c.args.reader.now c.in-None.ensures.0)

pub returns-in-Some-short_escape-clause-reads : goal.returns-in-Some-short_escape-clause-reads
returns-in-Some-short_escape-clause-reads c =
    let e = c.in-Some-short_escape.ensures in
    (escape-short c.in-Some.byte c.in-Some-short_escape.c c.args.reader.now c.next.new.self c.in-Some.ensures c.if-byte-eq117.false e.value e.ascii.0, utf8_after c.args.reader.now c.next.new.self c.in-Some.byte c.requires c.in-Some.ensures e.ascii.1)

pub returns-in-None-short_escape-clause-reads : goal.returns-in-None-short_escape-clause-reads
returns-in-None-short_escape-clause-reads c = (refl, escape-bad c.in-Some.byte c.args.reader.now c.next.new.self c.in-Some.ensures c.if-byte-eq117.false c.in-None-short_escape.ensures.value)
