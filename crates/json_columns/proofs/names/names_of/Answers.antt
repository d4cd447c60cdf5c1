-- A name that is there already adds nothing; another goes behind those before it.
use Rattle.std.proofs.Common.{◌∙◌, ℕ, ◌+◌, not, List, [], ◌∷◌, ◌++◌, take, is_some, sym, ap, subst}
use Rattle.json_columns.specs.Names.{AreNames}
use Rattle.json_columns.proofs.FieldNames.{name_known, name_new}
use Rattle.json_columns.proofs.names.names_of.Goals as goal
use Rattle.json_columns.proofs.names.names_of.Goals.{then-is_none+in_ok-name+in_ok-copy+in_ok-push, else-is_none}

pub loop-field-preserved : goal.loop-field-preserved
loop-field-preserved c =
    let fields = c.args.fields.now in
    let i = c.loop-field.field-index in
    let field = c.field-item.result in
    elim c.if-is_none.branch [
      | then-is_none+in_ok-name+in_ok-copy+in_ok-push w ↦
          name_new fields i field c.loop-field.names c.loop-field-test.true c.field-item.is c.loop-field.invariant c.if-is_none.names
          (w.names-is ∙ w.in_ok-push.ensures.pushed ∙ ap (λ (n : List ℕ). c.loop-field.names ++ n ∷ []) w.in_ok-name.ensures.copy)
      | else-is_none w ↦
          subst (AreNames (take (i + 1) fields)) (sym w.names-is)
          (name_known fields i field c.loop-field.names c.loop-field-test.true c.field-item.is c.loop-field.invariant
          (sym (ap is_some c.index_of.ensures) ∙ c.is_none.ensures ∙ ap not w.if-is_none.false))
    ]
