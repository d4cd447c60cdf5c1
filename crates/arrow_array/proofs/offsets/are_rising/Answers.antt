use Rattle.std.proofs.Common.{arith, refl, rules}
use Rattle.std.proofs.lemmas.List.{length-map}
use Rattle.std.proofs.lemmas.Bool.{false≢true}
use Rattle.arrow_array.proofs.Rising.{never_below}
use Rattle.arrow_array.proofs.offsets.are_rising.Goals as goal

pub returns-then-here-before : goal.returns-then-here-before
returns-then-here-before g c = (
  λ f. absurd (false≢true f),
  λ o.
      let l = length-map c.args.offsets.now g.O.Offset.number in
      let p = never_below _ _ _ _ _ _ c.loop-i.invariant o.1 (omega (arith, l, c.loop-i-test.true)) c.in-Some.ensures in
      absurd (omega (arith, p, c.if-here-before.true)),
)

pub returns : goal.returns
returns g c =
    let l = length-map c.args.offsets.now g.O.Offset.number in
    let w = c.loop-i.invariant in (
      λ t. (
        _,
        record {
          filled = search rules;
          within = λ k h. w.within k (omega (arith, l, h, c.loop-i-test.false));
          rising = λ k h. w.rising k (omega (arith, l, h, c.loop-i-test.false));
        },
      ),
      λ o. refl,
    )
