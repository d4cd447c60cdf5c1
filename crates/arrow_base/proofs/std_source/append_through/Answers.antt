use Rattle.std.proofs.Common.{◌≤◌, length, subst, length-take, rules, arith}
use Rattle.std.specs.Io.BufRead.{FillKeeps}
use Rattle.std.proofs.BufReadLemmas.{Consumes_shown}
use Rattle.arrow_base.proofs.Through.{given_through}
use Rattle.arrow_base.proofs.std_source.append_through.Goals as goal

pub returns-clause-given : goal.returns-clause-given
returns-clause-given g c =
    let n = c.len_through-n in
    let shown = c.in-Ok.shown.now in
    let rested = c.fill_buf.follows.lender-at-none in
    let filled = subst (FillKeeps _ (g.R.Read.remaining rested) (g.R.BufRead.consumable_len rested)) c.in-Ok.is c.fill_buf.follows.holds-at-none in
    let within : n.result ≤ length shown = omega (arith, n.ensures.within, length-take c.min.result shown) in
    let moved = Consumes_shown _ _ _ _ shown n.result within c.in-Ok.ensures.front c.in-Ok.ensures.end filled.0 filled.1 c.consume.ensures.bytes in
    given_through _ _ _ _ _ _ n.result _ _ moved.0 (search rules) n.ensures.within n.ensures.stops c.in_ok-extend_from_slice.ensures.items
