-- The types so far and those that are left are all, and so with the fields.
use Rattle.std.proofs.Common.{◌≡◌, ◌++◌, map, drop}
use Rattle.json_infer.specs.Inferred.{kept, kept_fields, type_of}
use Rattle.json_infer.specs.Seen.{seen_after}
use Rattle.json_infer.proofs.infer_schema.+infer.Given as goal

abbrev pub invariant-infer_items-loop-item : goal.invariant-infer_items-loop-item
invariant-infer_items-loop-item l = seen_after l.seen (kept (map type_of (drop l.item-index l.items))) ≡ seen_after l.fn.seen (kept (map type_of l.items))

abbrev pub invariant-infer_members-loop-member : goal.invariant-infer_members-loop-member
invariant-infer_members-loop-member l = l.fields.items ++ kept_fields (map (λ m. (m.0, type_of m.1)) (drop l.member-index l.member-items)) ≡ kept_fields (map (λ m. (m.0, type_of m.1)) l.member-items)
