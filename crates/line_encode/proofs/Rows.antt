-- Lines, one after another.
use Rattle.std.proofs.Common.{◌≡◌, ◌∙◌, ℕ, ◌+◌, ◌<◌, ◌≤◌, List, [], ◌∷◌, ◌++◌, length, get_or, take, refl, sym, ap, subst, append_assoc}
use Rattle.std.specs.List.{AllZip}
use Rattle.std.specs.Str.{IsUtf8}
use Rattle.std.proofs.lemmas.List.{append-nil, take_more, take_all}
use Rattle.json_tree.specs.Meaning.{IsJson}
use Rattle.json_lend.proofs.RowLaws.{object-ends}
use Rattle.json_tree.proofs.TextLaws.{json-found}
use Rattle.json_tree.specs.Reading.{found, object_at, skip, value_at}
use Rattle.json_tree.specs.Tree.{Json, object}
use Rattle.line_encode.specs.declared.plan.Plan.{Plan}
use Rattle.line_encode.specs.Plans.{PushesLine, PushesLines, Reads, WritesMembers, WritesRecord}
use Rattle.line_encode.proofs.Forms.{all_push}

zip_push : {A B : Type 0} (R : A → B → Type 0) (xs : List A) (ys : List B) (x : A) (y : B) → AllZip R xs ys → R x y → AllZip R (xs ++ x ∷ []) (ys ++ y ∷ [])
zip_push R [] [] x y h r = (r, tt)
zip_push R [] (v ∷ ys) x y h r = absurd h
zip_push R (u ∷ xs) [] x y h r = absurd h
zip_push R (u ∷ xs) (v ∷ ys) x y h r = (h.0, zip_push R xs ys x y h.1 r)

-- a line whose object was read, with nothing behind it
pub line_read : (names : List (List ℕ)) (ps : List Plan) (line behind after old new : List ℕ) → IsUtf8 line → skip line ≡ 123 ∷ behind → skip after ≡ [] → Reads (WritesRecord names ps) (object_at (value_at 127)) behind after old new → PushesLine names ps line old new
line_read names ps line behind after old new utf8 begins ends (v, is, (bytes, a, (members, e, w))) =
    let read : object_at (value_at 127) behind ≡ found (object members) after = is ∙ ap (λ x. found x after) e in
    (members, json-found line [] (object members) utf8 (object-ends line behind after (object members) begins read ends), (bytes, a, w))

pub no_lines : (names : List (List ℕ)) (ps : List Plan) (old : List ℕ) → PushesLines names ps [] old old
no_lines names ps old = ([], tt, ([], sym (append-nil old), refl))

pub line_more : (i : ℕ) (lines names : List (List ℕ)) (ps : List Plan) (line text old now new : List ℕ) → i < length lines → line ≡ get_or lines i line → text ≡ line → PushesLines names ps (take i lines) old now → PushesLine names ps text now new → PushesLines names ps (take (i + 1) lines) old new
line_more i lines names ps line text old now new lt is same (rows, objects, (bytes, a, all)) (members, json, (more, e, w)) =
    let R : List (List ℕ × Json) → List ℕ → Type 0 = λ ms l. IsJson (object ms) l in
    let taken : take (i + 1) lines ≡ take i lines ++ line ∷ [] = take_more lines i line lt ∙ ap (λ (l : List ℕ). take i lines ++ l ∷ []) (sym is) in (
      rows ++ members ∷ [],
      subst (λ ls. AllZip R (rows ++ members ∷ []) ls) (sym taken) (zip_push R rows (take i lines) members line objects (subst (λ t. IsJson (object members) t) same json)),
      (bytes ++ more, e ∙ (ap (λ (xs : List ℕ). xs ++ more) a ∙ append_assoc old bytes more), all_push (WritesMembers names ps) rows members bytes more all w),
    )

pub all_lines : (i : ℕ) (lines names : List (List ℕ)) (ps : List Plan) (old now : List ℕ) → length lines ≤ i → PushesLines names ps (take i lines) old now → PushesLines names ps lines old now
all_lines i lines names ps old now le h = subst (λ ls. PushesLines names ps ls old now) (take_all i lines le) h
