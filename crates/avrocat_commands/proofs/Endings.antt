-- How a command ends, and what its status tells.
use Rattle.std.proofs.Common.{◌≡◌, ◌∙◌, ◌⊎◌, inl, inr, ℕ, ◌<◌, ◌≤◌, ◌++◌, None, Some, Option, Result, Ok, Err, IfErr, OnOk, MatchResult, List, [], length, refl, sym, ap, subst, arith, length-append}
use Rattle.std.proofs.lemmas.List.{append-nil}
use Rattle.std.specs.Io.KnownBytes.{Keeps}
use Rattle.arrow_core.specs.declared.error.Error.{Error}
use Rattle.arrow_core.specs.declared.error.Error.TheVariants.{InvalidArgumentError, NotYetImplemented, ExternalFormat, OutOfSpec, Overflow, LimitExceeded, ReadFault, WriteFault, OutOfMemory}
use Rattle.arrow_core.specs.declared.error.Reason.TheVariants as reason
use Rattle.arrow_core.specs.Errors.{status_of}
use Rattle.avro_schema.proofs.RowLaws.{rows_have, rows_exclude}
use Rattle.cli_words.specs.declared.command.BlockWords.{BlockWords}
use Rattle.cli_words.specs.declared.command.Command.{Command}
use Rattle.cli_words.specs.declared.command.Command.TheVariants.{Help, Version, Count, Schema, Fields, Block, Ndjson, Make, Infer, Avro, Rewrite}
use Rattle.avrocat_commands.specs.Blocks.{IsValid}
use Rattle.avro_container.specs.Changes.{Change, Failed}
use Rattle.avrocat_commands.specs.Commands.{Done, Fails, CanBeDone, Due, Refused}
use Rattle.cli_words.specs.Stands.{Stands}
use Rattle.cli_words.specs.declared.command.MakeWords.{MakeWords}
use Rattle.avrocat_commands.specs.Make.{MakeFails}
use Rattle.avrocat_commands.specs.Input.{byte_limit, TakesAll, PassesLimit, Tells, TellsTooMany}
use Rattle.avrocat_commands.specs.Note.{error_note, Notes}
use Rattle.avrocat_commands.specs.Refusals.{IsWrong, BlockCannotBeShown, BlockCommandFails, BlockCanBeShown, BlockDue}
use Rattle.avrocat_commands.proofs.NdjsonEndings.{tells_one, ndjson_due_once, ndjson_never_due, ndjson_fails_in_memory, ndjson_fails_as_due, ndjson_done_not_due}
use Rattle.avrocat_commands.proofs.InferEndings.{infer_due_once, infer_never_due, infer_fails_in_memory, infer_fails_as_due, infer_done_not_due}
use Rattle.cli_words.proofs.OneCommand.{one_command}
use Rattle.avrocat_commands.proofs.AvroEndings.{avro_due_once, avro_never_due, avro_fails_in_memory, avro_fails_as_due, avro_done_not_due}
use Rattle.avrocat_commands.specs.Help.{help_text, version_text}
use Rattle.avrocat_commands.proofs.CountEndings.{count_fails_in_memory}
use Rattle.avrocat_commands.proofs.SchemaEndings.{never_breaks_off, schema_fails_in_memory}
use Rattle.avrocat_commands.proofs.FieldsEndings.{fields_fails_in_memory}
use Rattle.avrocat_commands.proofs.RewriteEndings.{rewrite_due_once, rewrite_never_due, rewrite_fails_in_memory, rewrite_fails_as_due, rewrite_done_not_due}

pub keeps_same : (told : Option (List ℕ)) → Keeps told told
keeps_same None = tt
keeps_same (Some bytes) = refl

-- ---- what is taken of a source whose bytes the contract knows

no_more : (bytes taken left : List ℕ) → bytes ≡ taken ++ left → length taken ≤ length bytes
no_more bytes taken left is = omega (arith, ap length is, length-append taken left)

append_none : (xs ys : List ℕ) → ys ≡ [] → xs ++ ys ≡ xs
append_none xs ys none = ap (λ z. xs ++ z) none ∙ append-nil xs

-- all that is taken of a source is what it tells
takes_told : (left left_after : Option (List ℕ)) (bytes taken : List ℕ) → left ≡ Some bytes → TakesAll left left_after taken → taken ≡ bytes
takes_told None left_after bytes taken told all = absurd cc
takes_told (Some held) None bytes taken told all = absurd all.taken
takes_told (Some held) (Some rest) bytes taken told all =
    let same : held ≡ bytes = cc in
    sym (append_none taken rest all.whole) ∙ sym all.taken ∙ same

-- ---- one thing at most is wrong with a block, and nothing with a valid one

valid_is_right : (block : BlockWords) (bytes : List ℕ) → IsValid block bytes → (e : Error) → IsWrong block bytes e → ⊥
valid_is_right block bytes v (NotYetImplemented reason.NoField) h = omega (arith, ap length h, v.valid.columns.some, v.valid.columns.lengths.0)
valid_is_right block bytes v (NotYetImplemented reason.NotCarried) h = h.1 v.valid.columns.carried
valid_is_right block bytes v (NotYetImplemented reason.Float) h = h.1 v.valid.columns.no_float
valid_is_right block bytes v Overflow h = h.2 v.valid.columns.symbols
valid_is_right block bytes v (ExternalFormat reason.Rows) h =
    omega (arith, h.1, rows_have block.rows block.avro_fields block.projection bytes v.valid.table (omega (arith, v.valid.columns.some, v.valid.columns.lengths.0)) v.valid.columns.carried v.valid.rows)
valid_is_right block bytes v (ExternalFormat reason.BlockBytes) h = h.2 v.valid.table v.valid.rows
valid_is_right block bytes v (OutOfSpec reason.NegativeSize) h = rows_exclude block.rows block.avro_fields block.projection bytes v.valid.table v.valid.rows h.2
valid_is_right block bytes v _ h = h

one_wrong : (block : BlockWords) (bytes : List ℕ) (one other : Error) → IsWrong block bytes one → IsWrong block bytes other → one ≡ other
one_wrong block bytes (NotYetImplemented reason.NoField) (NotYetImplemented reason.NoField) h d = refl
one_wrong block bytes (NotYetImplemented reason.NoField) (NotYetImplemented reason.NotCarried) h d = absurd (omega (arith, ap length h, d.0))
one_wrong block bytes (NotYetImplemented reason.NoField) (NotYetImplemented reason.Float) h d = absurd (omega (arith, ap length h, d.0.0))
one_wrong block bytes (NotYetImplemented reason.NoField) Overflow h d = absurd (omega (arith, ap length h, d.0.0))
one_wrong block bytes (NotYetImplemented reason.NoField) (ExternalFormat reason.Rows) h d = absurd (omega (arith, ap length h, d.0.0.0))
one_wrong block bytes (NotYetImplemented reason.NoField) (ExternalFormat reason.BlockBytes) h d = absurd (omega (arith, ap length h, d.0.0.0))
one_wrong block bytes (NotYetImplemented reason.NoField) (OutOfSpec reason.NegativeSize) h d = absurd (omega (arith, ap length h, d.0.0.0))
one_wrong block bytes (NotYetImplemented reason.NoField) _ h d = absurd d
one_wrong block bytes (NotYetImplemented reason.NotCarried) (NotYetImplemented reason.NoField) h d = absurd (omega (arith, ap length d, h.0))
one_wrong block bytes (NotYetImplemented reason.NotCarried) (NotYetImplemented reason.NotCarried) h d = refl
one_wrong block bytes (NotYetImplemented reason.NotCarried) (NotYetImplemented reason.Float) h d = absurd (h.1 d.0.1)
one_wrong block bytes (NotYetImplemented reason.NotCarried) Overflow h d = absurd (h.1 d.0.1)
one_wrong block bytes (NotYetImplemented reason.NotCarried) (ExternalFormat reason.Rows) h d = absurd (h.1 d.0.0.1)
one_wrong block bytes (NotYetImplemented reason.NotCarried) (ExternalFormat reason.BlockBytes) h d = absurd (h.1 d.0.0.1)
one_wrong block bytes (NotYetImplemented reason.NotCarried) (OutOfSpec reason.NegativeSize) h d = absurd (h.1 d.0.0.1)
one_wrong block bytes (NotYetImplemented reason.NotCarried) _ h d = absurd d
one_wrong block bytes (NotYetImplemented reason.Float) (NotYetImplemented reason.NoField) h d = absurd (omega (arith, ap length d, h.0.0))
one_wrong block bytes (NotYetImplemented reason.Float) (NotYetImplemented reason.NotCarried) h d = absurd (d.1 h.0.1)
one_wrong block bytes (NotYetImplemented reason.Float) (NotYetImplemented reason.Float) h d = refl
one_wrong block bytes (NotYetImplemented reason.Float) Overflow h d = absurd (h.1 d.1)
one_wrong block bytes (NotYetImplemented reason.Float) (ExternalFormat reason.Rows) h d = absurd (h.1 d.0.1)
one_wrong block bytes (NotYetImplemented reason.Float) (ExternalFormat reason.BlockBytes) h d = absurd (h.1 d.0.1)
one_wrong block bytes (NotYetImplemented reason.Float) (OutOfSpec reason.NegativeSize) h d = absurd (h.1 d.0.1)
one_wrong block bytes (NotYetImplemented reason.Float) _ h d = absurd d
one_wrong block bytes Overflow (NotYetImplemented reason.NoField) h d = absurd (omega (arith, ap length d, h.0.0))
one_wrong block bytes Overflow (NotYetImplemented reason.NotCarried) h d = absurd (d.1 h.0.1)
one_wrong block bytes Overflow (NotYetImplemented reason.Float) h d = absurd (d.1 h.1)
one_wrong block bytes Overflow Overflow h d = refl
one_wrong block bytes Overflow (ExternalFormat reason.Rows) h d = absurd (h.2 d.0.2)
one_wrong block bytes Overflow (ExternalFormat reason.BlockBytes) h d = absurd (h.2 d.0.2)
one_wrong block bytes Overflow (OutOfSpec reason.NegativeSize) h d = absurd (h.2 d.0.2)
one_wrong block bytes Overflow _ h d = absurd d
one_wrong block bytes (ExternalFormat reason.Rows) (NotYetImplemented reason.NoField) h d = absurd (omega (arith, ap length d, h.0.0.0))
one_wrong block bytes (ExternalFormat reason.Rows) (NotYetImplemented reason.NotCarried) h d = absurd (d.1 h.0.0.1)
one_wrong block bytes (ExternalFormat reason.Rows) (NotYetImplemented reason.Float) h d = absurd (d.1 h.0.1)
one_wrong block bytes (ExternalFormat reason.Rows) Overflow h d = absurd (d.2 h.0.2)
one_wrong block bytes (ExternalFormat reason.Rows) (ExternalFormat reason.Rows) h d = refl
one_wrong block bytes (ExternalFormat reason.Rows) (ExternalFormat reason.BlockBytes) h d = absurd (omega (arith, h.1, d.1))
one_wrong block bytes (ExternalFormat reason.Rows) (OutOfSpec reason.NegativeSize) h d = absurd (omega (arith, h.1, d.1))
one_wrong block bytes (ExternalFormat reason.Rows) _ h d = absurd d
one_wrong block bytes (ExternalFormat reason.BlockBytes) (NotYetImplemented reason.NoField) h d = absurd (omega (arith, ap length d, h.0.0.0))
one_wrong block bytes (ExternalFormat reason.BlockBytes) (NotYetImplemented reason.NotCarried) h d = absurd (d.1 h.0.0.1)
one_wrong block bytes (ExternalFormat reason.BlockBytes) (NotYetImplemented reason.Float) h d = absurd (d.1 h.0.1)
one_wrong block bytes (ExternalFormat reason.BlockBytes) Overflow h d = absurd (d.2 h.0.2)
one_wrong block bytes (ExternalFormat reason.BlockBytes) (ExternalFormat reason.Rows) h d = absurd (omega (arith, d.1, h.1))
one_wrong block bytes (ExternalFormat reason.BlockBytes) (ExternalFormat reason.BlockBytes) h d = refl
one_wrong block bytes (ExternalFormat reason.BlockBytes) (OutOfSpec reason.NegativeSize) h d = absurd (h.3 d.2)
one_wrong block bytes (ExternalFormat reason.BlockBytes) _ h d = absurd d
one_wrong block bytes (OutOfSpec reason.NegativeSize) (NotYetImplemented reason.NoField) h d = absurd (omega (arith, ap length d, h.0.0.0))
one_wrong block bytes (OutOfSpec reason.NegativeSize) (NotYetImplemented reason.NotCarried) h d = absurd (d.1 h.0.0.1)
one_wrong block bytes (OutOfSpec reason.NegativeSize) (NotYetImplemented reason.Float) h d = absurd (d.1 h.0.1)
one_wrong block bytes (OutOfSpec reason.NegativeSize) Overflow h d = absurd (d.2 h.0.2)
one_wrong block bytes (OutOfSpec reason.NegativeSize) (ExternalFormat reason.Rows) h d = absurd (omega (arith, d.1, h.1))
one_wrong block bytes (OutOfSpec reason.NegativeSize) (ExternalFormat reason.BlockBytes) h d = absurd (d.3 h.2)
one_wrong block bytes (OutOfSpec reason.NegativeSize) (OutOfSpec reason.NegativeSize) h d = refl
one_wrong block bytes (OutOfSpec reason.NegativeSize) _ h d = absurd d
one_wrong block bytes _ other h d = absurd h

-- ---- what is due

-- too many bytes, or bytes within the limit of which the error is right
abbrev Because : BlockWords → Change → Error → Type 0
Because block source e = ((e ≡ LimitExceeded) × TellsTooMany source) ⊎ ((bytes : List ℕ) × Tells source bytes × IsWrong block bytes e)

because : (block : BlockWords) (source : Change) (e : Error) → BlockDue block source e → Because block source e
because block source (InvalidArgumentError r) h = inr h
because block source (NotYetImplemented r) h = inr h
because block source (ExternalFormat r) h = inr h
because block source (OutOfSpec r) h = inr h
because block source Overflow h = inr h
because block source LimitExceeded h = inl (refl, h)
because block source (ReadFault line) h = inr h
because block source WriteFault h = inr h
because block source OutOfMemory h = inr h

not_both : (source : Change) (bytes : List ℕ) → TellsTooMany source → Tells source bytes → ⊥
not_both source bytes many tells = omega (arith, many.beyond, tells.within, ap length (tells_one source many.bytes bytes many.told tells.told))

one_because : (block : BlockWords) (source : Change) (one other : Error) → Because block source one → Because block source other → one ≡ other
one_because block source one other (inl h) (inl d) = h.0 ∙ sym d.0
one_because block source one other (inl h) (inr (bytes, tells, d)) = absurd (not_both source bytes h.1 tells)
one_because block source one other (inr (bytes, tells, h)) (inl d) = absurd (not_both source bytes d.1 tells)
one_because block source one other (inr (bytes, tells, h)) (inr (others, told, d)) =
    one_wrong block bytes one other h (subst (λ z. IsWrong block z other) (sym (tells_one source bytes others tells.told told.told)) d)

pub one_due : (command : Command) (source : Change) (one other : Error) → Due command source one → Due command source other → one ≡ other
one_due Help source one other h d = absurd h
one_due Version source one other h d = absurd h
one_due Count source one other h d = absurd h
one_due Schema source one other h d = absurd h
one_due Fields source one other h d = absurd h
one_due (Block block) source one other h d = one_because block source one other (because block source one h) (because block source other d)
one_due (Ndjson numbers) source one other h d = ndjson_due_once numbers source one other h d
one_due (Make make) source one other h d = absurd h
one_due Infer source one other h d = infer_due_once source one other h d
one_due (Avro avro) source one other h d = avro_due_once avro one other h d
one_due (Rewrite rewrite) source one other h d = rewrite_due_once source one other h d

right_because : (block : BlockWords) (source : Change) (e : Error) → BlockCanBeShown block source → Because block source e → ⊥
right_because block source e (bytes, tells, valid) (inl h) = not_both source bytes h.1 tells
right_because block source e (bytes, tells, valid) (inr (others, told, h)) =
    valid_is_right block bytes valid e (subst (λ z. IsWrong block z e) (sym (tells_one source bytes others tells.told told.told)) h)

pub none_due : (command : Command) (source : Change) (e : Error) → CanBeDone command source → Due command source e → ⊥
none_due Help source e can h = h
none_due Version source e can h = h
none_due Count source e can h = h
none_due Schema source e can h = h
none_due Fields source e can h = h
none_due (Block block) source e can h = right_because block source e can (because block source e h)
none_due (Ndjson numbers) source e can h = ndjson_never_due numbers source e can h
none_due (Make make) source e can h = h
none_due Infer source e can h = infer_never_due source e can h
none_due (Avro avro) source e can h = avro_never_due avro source e can h
none_due (Rewrite rewrite) source e can h = rewrite_never_due source e can h

-- ---- how a block ends, against what is due

-- the source is steady, and the contract knows its bytes
abbrev Steady : Change → Type 0
Steady source = (Failed source → ⊥) × ((bytes : List ℕ) × (source.bytes ≡ Some bytes))

-- of such a source only what is due comes, out of memory aside
told_wrong : (block : BlockWords) (source : Change) (e : Error) → Steady source → BlockCannotBeShown block source e → (e ≡ OutOfMemory) ⊎ BlockDue block source e
told_wrong block source (ReadFault None) s h = absurd (s.0 h.0)
told_wrong block source LimitExceeded (steady, (bytes, told)) h = inr (record { bytes = bytes; told = told; beyond = beyond; steady = steady })
  where
    passed : (left left_after : Option (List ℕ)) → left ≡ Some bytes → PassesLimit left left_after → byte_limit < length bytes
    passed None left_after e p = absurd cc
    passed (Some held) None e (taken, many, c) = absurd c
    passed (Some held) (Some rest) e (taken, many, c) = let same : held ≡ bytes = cc in omega (arith, no_more held taken rest c, ap length same, many)

    beyond : byte_limit < length bytes
    beyond = passed source.bytes source.bytes_after told h
told_wrong block source OutOfMemory s h = inl refl
told_wrong block source (ReadFault (Some line)) s h = absurd h.2
told_wrong block source (InvalidArgumentError r) s h = absurd h.2
told_wrong block source Overflow (steady, (bytes, told)) (taken, all, h) =
    let same = takes_told source.bytes source.bytes_after bytes taken told all in
    inr (taken, record { told = told ∙ ap Some (sym same); within = all.within; steady = steady }, h)
told_wrong block source WriteFault s h = absurd h.2
told_wrong block source (NotYetImplemented r) (steady, (bytes, told)) (taken, all, h) =
    let same = takes_told source.bytes source.bytes_after bytes taken told all in
    inr (taken, record { told = told ∙ ap Some (sym same); within = all.within; steady = steady }, h)
told_wrong block source (ExternalFormat r) (steady, (bytes, told)) (taken, all, h) =
    let same = takes_told source.bytes source.bytes_after bytes taken told all in
    inr (taken, record { told = told ∙ ap Some (sym same); within = all.within; steady = steady }, h)
told_wrong block source (OutOfSpec r) (steady, (bytes, told)) (taken, all, h) =
    let same = takes_told source.bytes source.bytes_after bytes taken told all in
    inr (taken, record { told = told ∙ ap Some (sym same); within = all.within; steady = steady }, h)

-- what was shown of such a source can be shown
told_right : (block : BlockWords) (source : Change) (bytes : List ℕ) → Steady source → TakesAll source.bytes source.bytes_after bytes → IsValid block bytes → BlockCanBeShown block source
told_right block source bytes (steady, (told_bytes, told)) all valid =
    let same = takes_told source.bytes source.bytes_after told_bytes bytes told all in
    (bytes, record { told = told ∙ ap Some (sym same); within = all.within; steady = steady }, valid)

-- a failed block had no memory, or its error was due, or its sink failed on what can be shown
abbrev Ending : BlockWords → Change → Change → Error → Type 0
Ending block source sink e = ((e ≡ OutOfMemory) ⊎ BlockDue block source e) ⊎ (Failed sink × BlockCanBeShown block source)

ending : (block : BlockWords) (source sink : Change) (e : Error) → Steady source → BlockCommandFails block source sink e → Ending block source sink e
ending block source sink WriteFault s h = inr (h.failed, told_right block source h.bytes s h.read h.shows.valid)
ending block source sink (InvalidArgumentError r) s h = inl (told_wrong block source (InvalidArgumentError r) s h.1)
ending block source sink (NotYetImplemented r) s h = inl (told_wrong block source (NotYetImplemented r) s h.1)
ending block source sink (ExternalFormat r) s h = inl (told_wrong block source (ExternalFormat r) s h.1)
ending block source sink (OutOfSpec r) s h = inl (told_wrong block source (OutOfSpec r) s h.1)
ending block source sink Overflow s h = inl (told_wrong block source Overflow s h.1)
ending block source sink LimitExceeded s h = inl (told_wrong block source LimitExceeded s h.1)
ending block source sink (ReadFault line) s h = inl (told_wrong block source (ReadFault line) s h.1)
ending block source sink OutOfMemory s h = inl (inl refl)

steady_can : (block : BlockWords) (source : Change) → BlockCanBeShown block source → Steady source
steady_can block source (bytes, tells, valid) = (tells.steady, (bytes, tells.told))

steady_because : (block : BlockWords) (source : Change) (e : Error) → Because block source e → Steady source
steady_because block source e (inl h) = (h.1.steady, (h.1.bytes, h.1.told))
steady_because block source e (inr (bytes, tells, h)) = (tells.steady, (bytes, tells.told))

-- ---- of every command

make_fails_in_memory : (make : MakeWords) (sink : Change) (e : Error) → (Failed sink → ⊥) → MakeFails make sink e → e ≡ OutOfMemory
make_fails_in_memory make sink OutOfMemory open_ended h = refl
make_fails_in_memory make sink WriteFault open_ended h = absurd (open_ended h.1)
make_fails_in_memory make sink _ open_ended h = absurd h

fails_in_memory : (command : Command) (source sink : Change) (e : Error) → CanBeDone command source → (Failed sink → ⊥) → Fails command source sink e → e ≡ OutOfMemory
fails_in_memory Help source sink e can open_ended h = absurd (never_breaks_off help_text sink e open_ended h.1)
fails_in_memory Version source sink e can open_ended h = absurd (never_breaks_off version_text sink e open_ended h.1)
fails_in_memory Count source sink e can open_ended h = count_fails_in_memory source sink e can open_ended h
fails_in_memory Schema source sink e can open_ended h = schema_fails_in_memory source sink e can open_ended h
fails_in_memory Fields source sink e can open_ended h = fields_fails_in_memory source sink e can open_ended h
fails_in_memory (Block block) source sink e can open_ended h = from (ending block source sink e (steady_can block source can) h)
  where
    from : Ending block source sink e → e ≡ OutOfMemory
    from (inl (inl is)) = is
    from (inl (inr due)) = absurd (none_due (Block block) source e can due)
    from (inr broken) = absurd (open_ended broken.0)
fails_in_memory (Ndjson numbers) source sink e can open_ended h = ndjson_fails_in_memory numbers source sink e can open_ended h
fails_in_memory (Make make) source sink e can open_ended h = make_fails_in_memory make sink e open_ended h.1
fails_in_memory Infer source sink e can open_ended h = infer_fails_in_memory source sink e can open_ended h
fails_in_memory (Avro avro) source sink e can open_ended h = avro_fails_in_memory avro source sink e can open_ended h
fails_in_memory (Rewrite rewrite) source sink e can open_ended h = rewrite_fails_in_memory rewrite source sink e can open_ended h

fails_as_due : (command : Command) (source sink : Change) (e due : Error) → Due command source due → Fails command source sink e → (e ≡ OutOfMemory) ⊎ (e ≡ due)
fails_as_due Help source sink e due h fails = absurd h
fails_as_due Version source sink e due h fails = absurd h
fails_as_due Count source sink e due h fails = absurd h
fails_as_due Schema source sink e due h fails = absurd h
fails_as_due Fields source sink e due h fails = absurd h
fails_as_due (Block block) source sink e due h fails = from (ending block source sink e (steady_because block source due (because block source due h)) fails)
  where
    from : Ending block source sink e → (e ≡ OutOfMemory) ⊎ (e ≡ due)
    from (inl (inl is)) = inl is
    from (inl (inr d)) = inr (one_due (Block block) source e due d h)
    from (inr broken) = absurd (none_due (Block block) source due broken.1 h)
fails_as_due (Ndjson numbers) source sink e due h fails = ndjson_fails_as_due numbers source sink e due h fails
fails_as_due (Make make) source sink e due h fails = absurd h
fails_as_due Infer source sink e due h fails = infer_fails_as_due source sink e due h fails
fails_as_due (Avro avro) source sink e due h fails = avro_fails_as_due avro source sink e due h fails
fails_as_due (Rewrite rewrite) source sink e due h fails = rewrite_fails_as_due rewrite source sink e due h fails

done_not_due : (command : Command) (source sink : Change) (due : Error) → Due command source due → Done command source sink → ⊥
done_not_due Help source sink due h done = h
done_not_due Version source sink due h done = h
done_not_due Count source sink due h done = h
done_not_due Schema source sink due h done = h
done_not_due Fields source sink due h done = h
done_not_due (Block block) source sink due h done =
    none_due (Block block) source due (told_right block source done.bytes (steady_because block source due (because block source due h)) done.read done.shows.valid) h
done_not_due (Ndjson numbers) source sink due h done = ndjson_done_not_due numbers source sink due h done
done_not_due (Make make) source sink due h done = h
done_not_due Infer source sink due h done = infer_done_not_due source sink due h done
done_not_due (Avro avro) source sink due h done = avro_done_not_due avro source sink due h done
done_not_due (Rewrite rewrite) source sink due h done = rewrite_done_not_due rewrite source sink due h done

status_above : (e : Error) → 1 < status_of e
status_above (InvalidArgumentError r) = omega arith
status_above (NotYetImplemented r) = omega arith
status_above (ExternalFormat r) = omega arith
status_above (OutOfSpec r) = omega arith
status_above Overflow = omega arith
status_above LimitExceeded = omega arith
status_above (ReadFault line) = omega arith
status_above WriteFault = omega arith
status_above OutOfMemory = omega arith

-- what the status tells that concludes the answer of a command
abbrev Told : ℕ → Change → Result Unit Error → Type 0
Told status note answer = MatchResult answer (λ _. (status ≡ 0) × Keeps note.bytes note.bytes_after) (λ e. (status ≡ status_of e) × Notes note (error_note e))

module _ (status : ℕ) (words : List (List ℕ)) (source sink note : Change) (command : Command) (stands : Stands words command) where
  pub is_done : (answer : Result Unit Error) → Told status note answer → OnOk answer (Done command source sink) → status ≡ 0
      → (c : Command) × Stands words c × Done c source sink
  is_done (Ok _) told done is = (command, stands, done)
  is_done (Err e) told done is = absurd (omega (arith, status_above e, told.0, is))

  pub is_silent : (answer : Result Unit Error) → Told status note answer → status ≡ 0 → Keeps note.bytes note.bytes_after
  is_silent (Ok _) told is = told.1
  is_silent (Err e) told is = absurd (omega (arith, status_above e, told.0, is))

  pub not_one : (answer : Result Unit Error) → Told status note answer → status ≡ 1 → ⊥
  not_one (Ok _) told is = omega (arith, told.0, is)
  not_one (Err e) told is = omega (arith, status_above e, told.0, is)

  pub is_refused : (answer : Result Unit Error) → Told status note answer → IfErr answer (Fails command source sink) → 1 < status → Refused status words source sink note
  is_refused (Ok _) told fails more = absurd (omega (arith, told.0, more))
  is_refused (Err e) told fails more = record { error = e; is = told.0; cause = inr (command, stands, fails); noted = told.1 }

  pub is_complete : (answer : Result Unit Error) → Told status note answer → IfErr answer (Fails command source sink)
      → (c : Command) → Stands words c → CanBeDone c source → (Failed sink → ⊥) → (status ≡ 0) ⊎ (status ≡ 10)
  is_complete (Ok _) told fails c asked can open_ended = inl told.0
  is_complete (Err e) told fails c asked can open_ended =
      let same = one_command words command c stands asked in
      inr (told.0 ∙ ap status_of (fails_in_memory c source sink e can open_ended (subst (λ z. Fails z source sink e) same fails)))

  pub is_due : (answer : Result Unit Error) → Told status note answer → OnOk answer (Done command source sink) → IfErr answer (Fails command source sink)
      → (c : Command) (e : Error) → Stands words c → Due c source e → (status ≡ status_of e) ⊎ (status ≡ 10)
  is_due (Ok _) told done fails c e asked due =
      let same = one_command words command c stands asked in
      absurd (done_not_due c source sink e due (subst (λ z. Done z source sink) same done))
  is_due (Err d) told done fails c e asked due = from (fails_as_due c source sink d e due (subst (λ z. Fails z source sink d) (one_command words command c stands asked) fails))
    where
      from : (d ≡ OutOfMemory) ⊎ (d ≡ e) → (status ≡ status_of e) ⊎ (status ≡ 10)
      from (inl is) = inr (told.0 ∙ ap status_of is)
      from (inr is) = inl (told.0 ∙ ap status_of is)
