use Rattle.std.proofs.Common.{◌∙◌, sym, ap}
use Rattle.arrow_core.specs.Layouts.{physical_type}
use Rattle.arrow_core.proofs.Beneath.{physical_extension}
use Rattle.arrow_core.proofs.types.DataType.+to_physical_type.Goals as goal

pub returns-in-Extension : goal.returns-in-Extension
returns-in-Extension t c =
    c.to_physical_type.ensures ∙ ap physical_type c.get.ensures ∙ sym (physical_extension c.in-Extension.field-0 _ c.in-Extension.field-2) ∙ ap physical_type (sym c.in-Extension.is)
