use Rattle.std.proofs.Common.{◌≡◌, ◌<◌, ◌≤◌, get_or, subst, take, arith}
use Rattle.avro_verbatim.proofs.Numbers.{AreHigh, from_next, groups_begin}
use Rattle.avro_verbatim.proofs.parts.skip_groups.Goals as goal
use Rattle.avro_verbatim.proofs.parts.skip_groups.Goals.{else-byte-eq0-via-then-byte-eq0+else-last-gt0, else-byte-eq0-via-else-byte-eq0}

pub returns-then-byte-lt128 : goal.returns-then-byte-lt128
returns-then-byte-lt128 c =
    let i = c.loop-last.last in
    let bytes = c.args.bytes.now in
    let some : 0 < i → 1 ≤ get_or bytes i 0 = λ p. elim c.else-byte-eq0.branch [
      | else-byte-eq0-via-then-byte-eq0+else-last-gt0 w ↦ absurd (omega (arith, p, w.if-last-gt0.false))
      | else-byte-eq0-via-else-byte-eq0 w ↦ omega (arith, w.if-byte-eq0.false)
    ] in
    groups_begin bytes _ c.args.most c.args.limit i 0 c.requires.short c.requires.some (omega (arith, c.loop-last-test.true)) (omega (arith, c.loop-last-test.true, c.requires.many)) c.loop-last.invariant c.if-byte-lt128.true some
    (λ e. absurd (omega (arith, e, c.loop-last-test.true))) (from_next bytes i)

pub returns : goal.returns
returns c =
    let most = c.args.most in
    let bytes = c.args.bytes.now in
    let end : c.loop-last.last ≡ most = omega (arith, c.loop-last-test.false, c.loop-last.auto.last-end) in
    groups_begin bytes _ most c.args.limit most 0 c.requires.short c.requires.some (omega arith) c.requires.many (subst (λ k. AreHigh (take k bytes)) end c.loop-last.invariant) (omega (arith, c.if-byte-limit.false, c.requires.group)) (λ p. omega (arith, c.if-byte-eq0-2.false))
    (λ e. omega (arith, c.if-byte-limit.false)) (from_next bytes most)
