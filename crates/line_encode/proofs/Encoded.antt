-- The rows of lines are encoded.
use Rattle.std.proofs.Common.{◌≡◌, ◌∙◌, ℕ, List, [], ◌∷◌, ◌++◌, refl, sym, ap, subst}
use Rattle.std.specs.Prelude.{Result, Ok, Err, OnOk}
use Rattle.std.proofs.lemmas.List.Elements.{All-cons, All-nil}
use Rattle.arrow_core.specs.declared.types.DataType.TheVariants as types
use Rattle.arrow_core.specs.declared.types.Field.{Field}
use Rattle.avro_encode.specs.Pairs.{Pairs}
use Rattle.avro_schema.specs.declared.schema.Record.{Record as TheRecord, out-Record}
use Rattle.avro_schema.specs.declared.schema.Schema.{Record}
use Rattle.json_flat.specs.Columns.{AreSlotsOf}
use Rattle.json_flat.specs.Reading.{reading}
use Rattle.json_lend.specs.Fields.{IsObject}
use Rattle.json_tree.specs.Tree.{Json, object}
use Rattle.json_lend.specs.declared.given_up.GivenUp.{GivenUp}
use Rattle.line_encode.specs.declared.lines.LinePlan.{LinePlan}
use Rattle.line_encode.specs.declared.plan.Plan.{Plan}
use Rattle.line_encode.specs.Lines.{EncodesLines}
use Rattle.json_flat.specs.Names.{names_of}
use Rattle.line_encode.specs.Makes.{ArePlansOf, IsLinePlanOf, IsReadable}
use Rattle.line_encode.specs.Plans.{AreObjects, PushesLines, WritesAll, WritesMembers}
use Rattle.line_encode.proofs.Making.{row_encoded}
use Rattle.line_encode.proofs.Readable.{struct_readable}

all_lines : (fields : List Field) (root : TheRecord) (plans : List Plan) (lines : List (List ℕ)) (old bytes new : List ℕ) (rows : List (List (List ℕ × Json))) → IsReadable (types.Struct fields) → ArePlansOf fields (out-Record root).fields plans → AreObjects rows lines → WritesAll (WritesMembers (names_of fields) plans) rows bytes → new ≡ old ++ bytes → EncodesLines fields root lines old new
all_lines fields root plans [] old bytes new [] readable h objects w e =
    record { readable = readable.0; distinct = readable.1; values = []; slots = []; have = tt; objects = All-nil IsObject; meant = refl; paired = All-nil (Pairs (Record root)); encoded = e ∙ ap (λ (xs : List ℕ). old ++ xs) w }
all_lines fields root plans (line ∷ lines) old bytes new [] readable h objects w e = absurd objects
all_lines fields root plans [] old bytes new (members ∷ rows) readable h objects w e = absurd objects
all_lines fields root plans (line ∷ lines) old bytes new (members ∷ rows) readable h objects (first, more, d, one, w) e =
    let r = all_lines fields root plans lines [] more more rows readable h objects.1 w refl in
    let x = row_encoded fields root plans members first h one in
    let same : AreSlotsOf (reading (types.Struct fields)) (object members ∷ r.values) (x.0 ∷ r.slots) = (λ i. x.2 i ∷ r.meant i) in
    record {
      readable = readable.0;
      distinct = readable.1;
      values = object members ∷ r.values;
      slots = x.0 ∷ r.slots;
      have = (objects.0, r.have);
      objects = All-cons IsObject (object members) r.values (members, refl) r.objects;
      meant = same;
      paired = All-cons (Pairs (Record root)) x.0 r.slots x.3 r.paired;
      encoded = e ∙ ap (λ (xs : List ℕ). old ++ xs) (d ∙ (λ i. x.4 i ++ r.encoded i));
    }

pub lines_encoded : (r : Result (Unit {0}) GivenUp) (plan : LinePlan) (fields : List Field) (root : TheRecord) (names : List (List ℕ)) (plans : List Plan) (lines : List (List ℕ)) (old new : List ℕ) → names ≡ plan.names → plans ≡ plan.plans.items → IsLinePlanOf fields root plan → OnOk r (PushesLines names plans lines old new) → OnOk r (EncodesLines fields root lines old new)
lines_encoded (Err g) plan fields root names plans lines old new n p h pushes = tt
lines_encoded (Ok u) plan fields root names plans lines old new n p h (rows, objects, (bytes, e, w)) =
    let are : ArePlansOf fields (out-Record root).fields plans = subst (λ (ps : List Plan). ArePlansOf fields (out-Record root).fields ps) (sym p) h.plans_are in
    let written : WritesAll (WritesMembers (names_of fields) plans) rows bytes = subst (λ (ns : List (List ℕ)). WritesAll (WritesMembers ns plans) rows bytes) (n ∙ h.names_are) w in
    all_lines fields root plans lines old bytes new rows (struct_readable fields (out-Record root).fields plans h.named are) are objects written e
