use Rattle.std.proofs.Common.{◌∙◌, sym, ap}
use Rattle.arrow_core.specs.Layouts.{logical_type}
use Rattle.arrow_core.proofs.Beneath.{logical_extension}
use Rattle.arrow_core.proofs.types.DataType.+to_logical_type.Goals as goal

pub returns-in-Extension : goal.returns-in-Extension
returns-in-Extension t c =
    c.to_logical_type.ensures ∙ ap logical_type c.get.ensures ∙ sym (logical_extension c.in-Extension.field-0 _ c.in-Extension.field-2) ∙ ap logical_type (sym c.in-Extension.is)
