-- The canonical form of a file, as `rewrite NAME MARKER` asks for it.
use Rattle.std.specs.Prelude.{ℕ, List}
use Rattle.arrow_core.specs.declared.error.Error.{Error}
use Rattle.avro_container.specs.Changes.{Change}
use Rattle.avro_canonical.specs.Answers.{IsHeaderDue}
use Rattle.avro_canonical.specs.Rewritten.{HasCanonicalForm, Rewrites, RewritingFails}
use Rattle.cli_words.specs.declared.command.RewriteWords.{RewriteWords}
use Rattle.avrocat_commands.specs.Input.{byte_limit, Tells}

-- the source's whole bytes are a file, and the sink got its canonical form
abbrev pub RewriteDone : RewriteWords → Change → Change → Type 0
RewriteDone rewrite source sink = (count : ℕ) × Rewrites rewrite.name rewrite.marker byte_limit source sink count

-- why it isn't written, or not all of it
abbrev pub RewriteFails : RewriteWords → Change → Change → Error → Type 0
RewriteFails rewrite source sink e = RewritingFails rewrite.name rewrite.marker byte_limit source sink e

-- ---- what must be answered of a source whose bytes the contract knows, memory allowing

-- they are a file that can be rewritten
abbrev pub CanBeRewritten : Change → Type 0
CanBeRewritten source = (bytes : List ℕ) × Tells source bytes × HasCanonicalForm bytes

-- they begin with a header, and the rows of its record can't be rewritten
abbrev pub RewriteDue : Change → Error → Type 0
RewriteDue source e = (bytes : List ℕ) × Tells source bytes × IsHeaderDue bytes e
