-- A null has no index; any other slot is looked for among the distinct ones.
use Rattle.std.proofs.Common.{◌∙◌, refl, sym}
use Rattle.arrow_dictionaries.proofs.Steps.{at_index, found, not_held}
use Rattle.arrow_dictionaries.proofs.ValueSlots.{native_exact}
use Rattle.arrow_dictionaries.proofs.indices.primitive_index.Goals as goal

pub returns-then-not-is_valid-clause-step : goal.returns-then-not-is_valid-clause-step
returns-then-not-is_valid-clause-step g c = (not_held _ (sym c.is_valid.ensures ∙ c.if-not-is_valid.true), refl)

pub returns-clause-step : goal.returns-clause-step
returns-clause-step g c =
    let d = c.in_ok-index in
    let s = at_index _ d.index _ d.ensures.index in
    let held = sym c.is_valid.ensures ∙ c.if-not-is_valid.false in
    found _ g.T.NativeType.native_slot (native_exact _ g.T.NativeType.numbers g.T.NativeType.native_slot g.met.T.NativeType.tells_slot g.met.T.NativeType.tells_value g.met.T.NativeType.tells_equal) _ _ c.value.result s.0 _ d.index held (c.value.ensures held) d.ensures.keys s.1 s.2
