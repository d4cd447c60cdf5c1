use Rattle.std.proofs.Common.{[], sym, refl, subst, arith}
use Rattle.json_tree.specs.Layout.{put}
use Rattle.json_tree.specs.Reading.{put_together}
use Rattle.json_tree.proofs.Turns.{object-empty, object-start, object-next, object-end}
use Rattle.ndjson_read.specs.Compared.{AreKnown}
use Rattle.ndjson_read.proofs.MemberLaws.{known_put}
use Rattle.ndjson_read.proofs.repeated.are_known.Goals as goal

pub returns-then-closes : goal.returns-then-closes
returns-then-closes c = λ e. ([], object-empty 127 c.args.reader.now c.closes.new.reader c.if-closes.ensures.found, tt)

pub loop-near-init : goal.loop-near-init
loop-near-init c =
    let f = c.if-closes.ensures.found in
    let s = object-start 127 c.args.reader.now c.closes.new.reader f.0 f.1 in
    (s.0, [], s.1, s.2, tt)

pub returns-then-not-more : goal.returns-then-not-more
returns-then-not-more c = λ e.
    let i = c.loop-near.invariant in
    let m = c.is_known.ensures.reads c.if-not-is_known.false in
    let f = rw c.if-not-more.true at c.in-Ok.ensures.found in
    let new = put (put_together i.1) (m.0, m.1) in (
      new,
      object-end 127 i.0 i.1 (put_together i.1) new (m.0, m.1) c.loop-near.reader c.args.reader.now c.is_known.new.reader c.goes_on.new.reader i.3 refl (omega (arith, c.is_known.ensures.forward, i.2)) m.2 f.0 refl,
      known_put c.args.columns.now (put_together i.1) m.0 m.1 i.4 m.3,
    )

pub loop-near-preserved : goal.loop-near-preserved
loop-near-preserved c =
    let i = c.loop-near.invariant in
    let m = c.is_known.ensures.reads c.if-not-is_known.false in
    let f = rw c.if-not-more.false at c.in-Ok.ensures.found in
    let new = put (put_together i.1) (m.0, m.1) in
    let n = object-next 127 i.0 i.1 (put_together i.1) new (m.0, m.1) c.loop-near.reader c.args.reader.now c.is_known.new.reader c.goes_on.new.reader i.3 refl (omega (arith, c.is_known.ensures.forward, i.2)) m.2 f refl in
    (n.0, n.1, n.2, n.4, subst (AreKnown c.args.columns.now) (sym n.3) (known_put c.args.columns.now (put_together i.1) m.0 m.1 i.4 m.3))
