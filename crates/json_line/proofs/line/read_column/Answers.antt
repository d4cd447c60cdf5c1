use Rattle.std.proofs.Common.{◌∙◌, get_or, refl, sym, ap, subst, arith}
use Rattle.arrow_builders.specs.Shapes.{shape}
use Rattle.json_line.specs.Builders.{Suits}
use Rattle.json_line.proofs.Rows.{read-at-same, shapes-step, tight-at}
use Rattle.json_line.proofs.Suited.{suits_at, suits_length}
use Rattle.json_line.proofs.line.read_column.Goals as goal

pub bounds-below-i : goal.bounds-below-i
bounds-below-i c =
    let s = suits_length c.args.below.now c.args.builders.now c.requires.suits in
    let lt = rw c.in-Some.is at c.requires.within in
    omega (arith, s, lt)

pub push_once-requires-clause-suits : goal.push_once-requires-clause-suits
push_once-requires-clause-suits c =
    let i = c.in-Some.i in
    let bs = c.args.builders.now in
    let b = get_or bs i c.index-builders-i.result in
    let s = suits_length c.args.below.now bs c.requires.suits in
    let lt = rw c.in-Some.is at c.requires.within in
    subst (λ names. Suits names (shape b)) (sym c.index-below-i.is) (suits_at c.args.below.now bs i c.index-below-i.result c.index-builders-i.result (omega (arith, s, lt)) c.requires.suits)

pub push_once-requires-clause-tight : goal.push_once-requires-clause-tight
push_once-requires-clause-tight c =
    let lt = rw c.in-Some.is at c.requires.within in
    tight-at c.args.builders.now c.in-Some.i c.index-builders-i.result lt c.requires.tight

pub returns-in-Some-clause-shapes : goal.returns-in-Some-clause-shapes
returns-in-Some-clause-shapes c =
    shapes-step c.args.builders.now c.in-Some.i c.index-builders-i.result c.push_once.new.builder _ c.index-builders-i.is (c.push_once.ensures.same_shape ∙ ap shape (sym c.index-builders-i.is)) refl

pub returns-in-Some-clause-ok : goal.returns-in-Some-clause-ok
returns-in-Some-clause-ok c =
    let e = c.push_once.ensures in
    let lt = rw c.in-Some.is at c.requires.within in
    read-at-same c.push_once.result c.args.depth c.args.count c.args.at c.in-Some.i c.args.reader.now c.push_once.new.reader c.args.builders.now _ c.index-builders-i.result c.push_once.new.builder c.in-Some.is lt refl c.index-builders-i.is e.ok e.once e.tight
