use Rattle.std.proofs.Common.{◌≡◌, ◌∙◌, ap, sym, arith, pos, to_z, of_z, to_z-of_z, w64, FitsSigned, rules}
use Rattle.std.specs.Int.{int_div_euclid}
use Rattle.jiff_core.proofs.SignedLemmas.{signed_arith}
use Rattle.json_dates.specs.Civil.{is_printed_day}
use Rattle.json_dates.specs.Times.{local_seconds, is_printed_timestamp}
use Rattle.json_dates.proofs.Texts.{not_printed-before, not_printed-after, printed-within}
use Rattle.json_dates.proofs.local.local_second.Goals as goal
use Rattle.json_dates.proofs.local.local_second.Goals.{then-local-lt-FIRST_SECOND-via-then-local-lt-FIRST_SECOND, then-local-lt-FIRST_SECOND-via-else-local-lt-FIRST_SECOND+then-local-gt-LAST_SECOND}

pub returns-then-local-lt-FIRST_SECOND-clause-none : goal.returns-then-local-lt-FIRST_SECOND-clause-none
unfolding is_printed_timestamp
returns-then-local-lt-FIRST_SECOND-clause-none c =
    let local = c.in_ok-local.local in
    let fits : FitsSigned w64 local = search rules in
    let local_back : to_z w64 (of_z w64 local) ≡ local = to_z-of_z fits in
    let value_back : to_z w64 (of_z w64 c.args.value) ≡ c.args.value = to_z-of_z c.ranges.value in
    let is : local ≡ local_seconds c.args.unit c.args.offset c.args.value = c.in_ok-local.ensures.value ∙ ap (local_seconds c.args.unit c.args.offset) value_back in
    let as_day = ap (λ z. is_printed_day (int_div_euclid z (pos 86400))) (sym is) in
    elim c.then-local-lt-FIRST_SECOND.branch [
      | then-local-lt-FIRST_SECOND-via-then-local-lt-FIRST_SECOND w ↦
          let before = rw local_back at w.if-local-lt-FIRST_SECOND.true in
          as_day ∙ not_printed-before local (omega (arith, signed_arith, before))
      | then-local-lt-FIRST_SECOND-via-else-local-lt-FIRST_SECOND+then-local-gt-LAST_SECOND w ↦
          let after = rw local_back at w.if-local-gt-LAST_SECOND.true in
          as_day ∙ not_printed-after local (omega (arith, signed_arith, after))
    ]

pub returns-clause-printed : goal.returns-clause-printed
unfolding is_printed_timestamp
returns-clause-printed c =
    let local = c.in_ok-local.local in
    let fits : FitsSigned w64 local = search rules in
    let local_back : to_z w64 (of_z w64 local) ≡ local = to_z-of_z fits in
    let value_back : to_z w64 (of_z w64 c.args.value) ≡ c.args.value = to_z-of_z c.ranges.value in
    let is : local ≡ local_seconds c.args.unit c.args.offset c.args.value = c.in_ok-local.ensures.value ∙ ap (local_seconds c.args.unit c.args.offset) value_back in
    let from = rw local_back at c.if-local-lt-FIRST_SECOND.false in
    let to = rw local_back at c.if-local-gt-LAST_SECOND.false in
    ap (λ z. is_printed_day (int_div_euclid z (pos 86400))) (sym is) ∙ printed-within local (omega (arith, signed_arith, from)) (omega (arith, signed_arith, to))
