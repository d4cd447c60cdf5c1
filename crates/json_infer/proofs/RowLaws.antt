-- Rows that come one at a time.
use Rattle.std.proofs.Common.{◌≡◌, refl, sym, ap, ◌∙◌, List, [], ◌∷◌, ◌++◌, map, Bool, true, false, cond}
use Rattle.arrow_core.specs.declared.types.DataType.{DataType}
use Rattle.arrow_core.specs.declared.types.DataType as data_type
use Rattle.json_tree.specs.declared.value.Value.{Value}
use Rattle.json_infer.specs.declared.seen.Seen.{Seen}
use Rattle.json_infer.specs.declared.seen.Seen.TheVariants as seen
use Rattle.json_infer.specs.Parts.{same}
use Rattle.json_infer.specs.Inferred.{kept, type_of, type_of_rows}
use Rattle.json_infer.specs.KeptTypes.{more_kept}
use Rattle.json_infer.specs.RowsSeen.{StandsFor}
use Rattle.json_infer.specs.Seen.{more, seen_after, result_of}
use Rattle.json_infer.proofs.Keeping.{one_at_a_time}

last_kept : (b : Bool) (s : Seen) (t : DataType) → seen_after s (cond b [] (t ∷ [])) ≡ cond b s (more s t)
last_kept true s t = refl
last_kept false s t = refl

first_kept : (b : Bool) (s : Seen) (t u : DataType) (ts us : List DataType) → ((r : Seen) → seen_after r us ≡ more_kept (seen_after r ts) u) → seen_after s (cond b us (t ∷ us)) ≡ more_kept (seen_after s (cond b ts (t ∷ ts))) u
first_kept true s t u ts us h = h s
first_kept false s t u ts us h = h (more s t)

types_more : (s : Seen) (ts : List DataType) (u : DataType) → seen_after s (kept (ts ++ (u ∷ []))) ≡ more_kept (seen_after s (kept ts)) u
types_more s [] u = last_kept (same u data_type.Null) s u
types_more s (t ∷ ts) u = first_kept (same t data_type.Null) s t u (kept ts) (kept (ts ++ (u ∷ []))) (λ r. types_more r ts u)

map_last : (rows : List Value) (v : Value) → map type_of (rows ++ (v ∷ [])) ≡ map type_of rows ++ (type_of v ∷ [])
map_last [] v = refl
map_last (r ∷ rows) v = ap (λ ts. type_of r ∷ ts) (map_last rows v)

pub one_more_row : (s t : Seen) (rows : List Value) (v : Value) (u : DataType) → u ≡ type_of v → t ≡ more_kept s u → StandsFor s rows → StandsFor t (rows ++ (v ∷ []))
one_more_row s t rows v u e h k =
    h ∙ ap (λ (r : Seen). more_kept r u) k ∙ ap (λ (d : DataType). more_kept (seen_after seen.Nothing (kept (map type_of rows))) d) e
    ∙ sym (types_more seen.Nothing (map type_of rows) (type_of v)) ∙ ap (λ (ts : List DataType). seen_after seen.Nothing (kept ts)) (sym (map_last rows v))

pub type_is : (s : Seen) (rows : List Value) (t : DataType) → t ≡ result_of s → StandsFor s rows → t ≡ type_of_rows rows
type_is s rows t h k = h ∙ ap result_of k ∙ sym (one_at_a_time (kept (map type_of rows)))
