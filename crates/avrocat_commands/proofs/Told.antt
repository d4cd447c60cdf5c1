-- Bytes that are written in two runs.
use Rattle.std.proofs.Common.{◌≡◌, ℕ, List, ◌++◌, Option, Some, None, refl, sym, ap, ◌∙◌, append_assoc}
use Rattle.std.specs.Io.KnownBytes.{Appends}
use Rattle.std.specs.Fmt.{decimal}
use Rattle.std.specs.Prelude.{codes}
use Rattle.arrow_base.specs.Outside.{AppendsPrefix}
use Rattle.arrow_core.specs.declared.error.Error.{Error}
use Rattle.arrow_core.specs.declared.error.Error.TheVariants.{ReadFault}
use Rattle.arrow_core.specs.Errors.{error_name}
use Rattle.avrocat_commands.specs.Note.{note_line, error_note}

pub appends_both : (old then new : Option (List ℕ)) (a b : List ℕ) → Appends old then a → Appends then new b → Appends old new (a ++ b)
appends_both None then new a b p q = tt
appends_both (Some x) None new a b p q = absurd p
appends_both (Some x) (Some y) None a b p q = absurd q
appends_both (Some x) (Some y) (Some z) a b p q = q ∙ ap (λ w. w ++ b) p ∙ append_assoc x a b

-- the first run was cut short
pub prefix_first : (old new : Option (List ℕ)) (a b : List ℕ) → AppendsPrefix old new a → AppendsPrefix old new (a ++ b)
prefix_first old new a b p = record {
  taken = p.taken;
  left_out = p.left_out ++ b;
  splits = sym (append_assoc p.taken p.left_out b) ∙ ap (λ w. w ++ b) p.splits;
  appended = p.appended;
}

-- the second run was cut short
pub prefix_second : (old then new : Option (List ℕ)) (a b : List ℕ) → Appends old then a → AppendsPrefix then new b → AppendsPrefix old new (a ++ b)
prefix_second old then new a b p q = record {
  taken = a ++ q.taken;
  left_out = q.left_out;
  splits = append_assoc a q.taken q.left_out ∙ ap (λ w. a ++ w) q.splits;
  appended = appends_both old then new a q.taken p q.appended;
}

-- the note of a fault of reading that has a line
pub read_fault_note : (error : Error) (line : ℕ) (name detail : List ℕ) → error ≡ ReadFault (Some line) → name ≡ error_name error → detail ≡ decimal line
    → note_line name (codes ": line ") detail ≡ error_note error
read_fault_note error line name detail is names details = rw (names, details, is) refl
