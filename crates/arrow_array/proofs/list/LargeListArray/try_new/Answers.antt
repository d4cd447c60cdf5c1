use Rattle.std.proofs.Common.{◌≡◌, inr, length, refl, true}
use Rattle.std.proofs.lemmas.List.{map-id}
use Rattle.arrow_array.specs.Arrays.{array_slots}
use Rattle.arrow_array.proofs.list.LargeListArray.try_new.Goals as goal

pub returns-then-not-are_rising-clause-err : goal.returns-then-not-are_rising-clause-err
returns-then-not-are_rising-clause-err c = inr (
  refl,
  λ h.
      let rising : c.are_rising.result ≡ true = c.are_rising.ensures.1 (rw (map-id c.as_slice.result.now, c.as_slice.ensures.value) (length (array_slots c.args.values), h.offsets_fit)) in
      absurd cc,
)
