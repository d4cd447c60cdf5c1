-- Words of a block, one field after another.
use Rattle.std.proofs.Common.{◌≡◌, ◌≢◌, ℕ, zero, suc, ◌+◌, ◌-◌, ◌<◌, ◌≤◌, List, [], ◌∷◌, ◌++◌, length, take, drop, codes, ◌⊎◌, inl, inr, refl, sym, ap, ◌∙◌, arith, subst, Bool, false, true, Result, Ok, Err}
use Rattle.std.proofs.lemmas.List.{take_more, take_all, length-drop}
use Rattle.std.specs.Prelude.{slice_index_or, if◌then◌else◌, IfOk}
use Rattle.std.specs.List.{list_any}
use Rattle.std.specs.Str.{bytes_eq}
use Rattle.avro_schema.specs.declared.schema.AvroField.{AvroField}
use Rattle.cli_words.specs.Fields.{IsField}
use Rattle.cli_words.specs.Names.{IsName, IsRows}
use Rattle.cli_words.proofs.OneMeaning.{one_field}
use Rattle.cli_words.specs.Stands.{Stands, IsUsage}
use Rattle.cli_words.specs.Words.{AreAvroWords, AreFields, AreKeepWords, AreKeptFields, AreMakeWords, AreRewriteWords, IsMarker, IsRest, block_word, IsCommandWord, AreRest}
use Rattle.cli_words.specs.declared.command.AvroWords.{AvroWords}
use Rattle.cli_words.specs.declared.command.BlockWords.{BlockWords}
use Rattle.cli_words.specs.declared.command.Command.{Command}
use Rattle.cli_words.specs.declared.command.Command.TheVariants.{Help, Version, Count, Schema, Fields, Block, Ndjson, Make, Infer, Avro, Rewrite}
use Rattle.cli_words.specs.declared.command.MakeWords.{MakeWords}
use Rattle.cli_words.specs.declared.command.RewriteWords.{RewriteWords}
use Rattle.cli_words.specs.declared.fault.WordsFault.{WordsFault}

abbrev pub words_head : List ℕ → List (List ℕ) → List ℕ
words_head d [] = d
words_head d (x ∷ xs) = x

abbrev IsNil : List (List ℕ) → Type 0
IsNil [] = Unit {0}
IsNil (x ∷ xs) = ⊥

nil_cons : {x : List ℕ} {xs : List (List ℕ)} → [] ≡ x ∷ xs → ⊥
nil_cons e = subst IsNil e tt

-- one word and one field more
pub fields_more : (words : List (List ℕ)) (projection : List Bool) (fields : List AvroField) (word : List ℕ) (is_kept : Bool) (field : AvroField)
    → AreFields words projection fields → IsField word is_kept field → AreFields (words ++ (word ∷ [])) (projection ++ (is_kept ∷ [])) (fields ++ (field ∷ []))
fields_more [] [] [] word is_kept field h e = (e, tt)
fields_more [] [] (f ∷ fs) word is_kept field h e = absurd h
fields_more [] (k ∷ ks) fs word is_kept field h e = absurd h
fields_more (w ∷ ws) [] fs word is_kept field h e = absurd h
fields_more (w ∷ ws) (k ∷ ks) [] word is_kept field h e = absurd h
fields_more (w ∷ ws) (k ∷ ks) (f ∷ fs) word is_kept field h e = (h.0, fields_more ws ks fs word is_kept field h.1 e)

pub fields_next : (words : List (List ℕ)) (i : ℕ) (projection : List Bool) (fields : List AvroField) (word : List ℕ) (is_kept : Bool) (field : AvroField)
    → i < length words → word ≡ slice_index_or words i word
    → AreFields (take i words) projection fields → IsField word is_kept field → AreFields (take (i + 1) words) (projection ++ (is_kept ∷ [])) (fields ++ (field ∷ []))
fields_next words i projection fields word is_kept field low at h e =
    let longer : take (i + 1) words ≡ take i words ++ (word ∷ []) = take_more words i word low ∙ ap (λ z. take i words ++ (z ∷ [])) (sym at) in
    subst (λ z. AreFields z (projection ++ (is_kept ∷ [])) (fields ++ (field ∷ []))) (sym longer) (fields_more (take i words) projection fields word is_kept field h e)

-- each of the words names a field
pub field_at : (words : List (List ℕ)) (projection : List Bool) (fields : List AvroField) (i : ℕ) (word : List ℕ) → AreFields words projection fields → i < length words → word ≡ slice_index_or words i word
    → (is_kept : Bool) × (field : AvroField) × IsField word is_kept field
field_at [] projection fields i word h low at = absurd (omega (arith, low))
field_at (w ∷ ws) [] fs i word h low at = absurd h
field_at (w ∷ ws) (k ∷ ks) [] i word h low at = absurd h
field_at (w ∷ ws) (k ∷ ks) (f ∷ fs) zero word h low at = (k, f, subst (λ z. IsField z k f) (sym at) h.0)
field_at (w ∷ ws) (k ∷ ks) (f ∷ fs) (suc i) word h low at = field_at ws ks fs i word h.1 (omega (arith, low)) at

pub no_fields : (words : List (List ℕ)) (i : ℕ) (word : List ℕ) → i < length words → word ≡ slice_index_or words i word
    → ((is_kept : Bool) (field : AvroField) → IsField word is_kept field → ⊥) → (projection : List Bool) (fields : List AvroField) → AreFields words projection fields → ⊥
no_fields words i word low at none projection fields h = let one = field_at words projection fields i word h low at in none one.0 one.1 one.2

pub no_rest : (words : List (List ℕ)) (word : List ℕ) (rest : List (List ℕ)) → words ≡ word ∷ rest
    → ((rows : ℕ) → IsRows word rows → ⊥) ⊎ ((projection : List Bool) (fields : List AvroField) → AreFields rest projection fields → ⊥)
    → (block : BlockWords) → IsRest words block → ⊥
no_rest words word rest e (inl none) block (w, ws, is, n, are) = none block.rows (subst (λ z. IsRows z block.rows) (ap (words_head word) (sym is ∙ e)) n)
no_rest words word rest e (inr none) block (w, ws, is, n, are) =
    none block.projection block.avro_fields (subst (λ z. AreFields z block.projection block.avro_fields) (ap (drop 1) (sym is ∙ e)) are)

pub empty_rest : (words : List (List ℕ)) → length words < 1 → (block : BlockWords) → IsRest words block → ⊥
empty_rest [] low block (w, ws, is, n, are) = absurd (nil_cons is)
empty_rest (w ∷ ws) low block h = absurd (omega (arith, low))

-- words that are one at least are the first of them and the others
pub begins : (words : List (List ℕ)) (word : List ℕ) → 1 ≤ length words → word ≡ slice_index_or words 0 word → words ≡ word ∷ take (length words - 1) (drop 1 words)
begins [] word low at = absurd (omega (arith, low))
begins (w ∷ ws) word low at =
    let left : length (drop 1 (w ∷ ws)) ≡ length (w ∷ ws) - 1 = length-drop 1 (w ∷ ws) in
    let whole : take (length (w ∷ ws) - 1) (drop 1 (w ∷ ws)) ≡ ws = take_all (length (w ∷ ws) - 1) (drop 1 (w ∷ ws)) (omega (arith, left)) in
    (λ i. sym at i ∷ sym whole i)

-- the first word and those after it stand for the command
pub stands : (words : List (List ℕ)) (word : List ℕ) (rest : List (List ℕ)) (command : Command) → words ≡ word ∷ rest → IsCommandWord word command → AreRest rest command → Stands words command
stands words word rest command is named h = (word, rest, is, named, h)

pub stands_for : (words : List (List ℕ)) (word : List ℕ) (rest : List (List ℕ)) (large : Bool) (block : BlockWords) → words ≡ word ∷ rest → word ≡ block_word large → block.large ≡ large → IsRest rest block → Stands words (Block block)
stands_for words word rest large block is named same h = (word, rest, is, named ∙ ap block_word (sym same), h)

-- the word stands alone
pub stands_alone : (words : List (List ℕ)) (word : List ℕ) (rest : List (List ℕ)) (command : Command) → words ≡ word ∷ rest → IsCommandWord word command → AreRest [] command → (r : Result Command WordsFault) → IfOk r (λ c. (c ≡ command) × (rest ≡ [])) → IfOk r (Stands words)
stands_alone words word rest command is named h (Ok c) (same, none) =
    subst (Stands words) (sym same) (stands words word rest command is named (subst (λ z. AreRest z command) (sym none) h))
stands_alone words word rest command is named h (Err e) ok = tt

-- ---- the numbers of commands: the words of those below 6 stand alone

abbrev pub kind : Command → ℕ
kind Help = 0
kind Version = 1
kind Count = 2
kind Schema = 3
kind Fields = 4
kind Infer = 5
kind (Block block) = 6
kind (Ndjson numbers) = 7
kind (Make make) = 8
kind (Avro avro) = 9
kind (Rewrite rewrite) = 10

-- the number of the command that begins with this word
abbrev kind_of : List ℕ → ℕ
kind_of word =
    if list_any (bytes_eq word) (codes "help" ∷ codes "--help" ∷ codes "-h" ∷ []) then 0
    else if list_any (bytes_eq word) (codes "version" ∷ codes "--version" ∷ []) then 1
    else if bytes_eq word (codes "count") then 2
    else if bytes_eq word (codes "schema") then 3
    else if bytes_eq word (codes "fields") then 4
    else if bytes_eq word (codes "infer") then 5
    else if list_any (bytes_eq word) (codes "block" ∷ codes "block-large" ∷ []) then 6
    else if bytes_eq word (codes "ndjson") then 7
    else if bytes_eq word (codes "make") then 8
    else if bytes_eq word (codes "avro") then 9
    else 10

block_kind : (large : Bool) → kind_of (block_word large) ≡ 6
block_kind false = refl
block_kind true = refl

word_kind : (word : List ℕ) (command : Command) → IsCommandWord word command → kind_of word ≡ kind command
word_kind word Help (inl e) = ap kind_of e
word_kind word Help (inr (inl e)) = ap kind_of e
word_kind word Help (inr (inr e)) = ap kind_of e
word_kind word Version (inl e) = ap kind_of e
word_kind word Version (inr e) = ap kind_of e
word_kind word Count e = ap kind_of e
word_kind word Schema e = ap kind_of e
word_kind word Fields e = ap kind_of e
word_kind word Infer e = ap kind_of e
word_kind word (Block block) e = ap kind_of e ∙ block_kind block.large
word_kind word (Ndjson numbers) e = ap kind_of e
word_kind word (Make make) e = ap kind_of e
word_kind word (Avro avro) e = ap kind_of e
word_kind word (Rewrite rewrite) e = ap kind_of e

-- a word begins commands of one number
pub one_kind : (word : List ℕ) (one other : Command) → IsCommandWord word one → IsCommandWord word other → kind one ≡ kind other
one_kind word one other h d = sym (word_kind word one h) ∙ word_kind word other d

-- ---- words that stand for no command

-- where no command begins with the first word and goes on with the others
unused : (words : List (List ℕ)) (word : List ℕ) (rest : List (List ℕ)) → words ≡ word ∷ rest → ((command : Command) → IsCommandWord word command → AreRest rest command → ⊥) → IsUsage words
unused words word rest e none command (w, ws, at, is, h) =
    none command (subst (λ z. IsCommandWord z command) (ap (words_head word) (sym at ∙ e)) is) (subst (λ z. AreRest z command) (ap (drop 1) (sym at ∙ e)) h)

-- where the first word begins a command, and the others go on with none of that number
no_others : (words : List (List ℕ)) (word : List ℕ) (rest : List (List ℕ)) (command : Command) → words ≡ word ∷ rest → IsCommandWord word command → ((other : Command) → kind other ≡ kind command → AreRest rest other → ⊥) → IsUsage words
no_others words word rest command e named none = unused words word rest e (λ other is h. none other (one_kind word other command is named) h)

-- where its word stands alone
pub not_alone : (words : List (List ℕ)) (word : List ℕ) (rest : List (List ℕ)) (command : Command) → words ≡ word ∷ rest → IsCommandWord word command → kind command < 6 → (rest ≢ []) → IsUsage words
not_alone words word rest command e named low some = no_others words word rest command e named (λ other same h. from other (omega (arith, same, low)) h)
  where
    from : (other : Command) → kind other < 6 → AreRest rest other → ⊥
    from Help below h = some h
    from Version below h = some h
    from Count below h = some h
    from Schema below h = some h
    from Fields below h = some h
    from Infer below h = some h
    from _ below h = omega (arith, below)

pub no_block : (words : List (List ℕ)) (word : List ℕ) (rest : List (List ℕ)) (large : Bool) → words ≡ word ∷ rest → word ≡ block_word large → ((block : BlockWords) → IsRest rest block → ⊥) → IsUsage words
no_block words word rest large e is none = unused words word rest e (λ other named h. from other (sym (word_kind word other named) ∙ ap kind_of is ∙ block_kind large) h)
  where
    from : (other : Command) → kind other ≡ 6 → AreRest rest other → ⊥
    from (Block block) same h = none block h
    from _ same h = omega (arith, same)

pub no_ndjson : (words : List (List ℕ)) (word : List ℕ) (rest : List (List ℕ)) → words ≡ word ∷ rest → word ≡ codes "ndjson" → ((numbers : List ℕ) → AreKeepWords rest numbers → ⊥) → IsUsage words
no_ndjson words word rest e is none = unused words word rest e (λ other named h. from other (sym (word_kind word other named) ∙ ap kind_of is) h)
  where
    from : (other : Command) → kind other ≡ 7 → AreRest rest other → ⊥
    from (Ndjson numbers) same h = none numbers h
    from _ same h = omega (arith, same)

pub no_make : (words : List (List ℕ)) (word : List ℕ) (rest : List (List ℕ)) → words ≡ word ∷ rest → word ≡ codes "make" → ((make : MakeWords) → AreMakeWords rest make → ⊥) → IsUsage words
no_make words word rest e is none = unused words word rest e (λ other named h. from other (sym (word_kind word other named) ∙ ap kind_of is) h)
  where
    from : (other : Command) → kind other ≡ 8 → AreRest rest other → ⊥
    from (Make make) same h = none make h
    from _ same h = omega (arith, same)

pub no_avro : (words : List (List ℕ)) (word : List ℕ) (rest : List (List ℕ)) → words ≡ word ∷ rest → word ≡ codes "avro" → ((avro : AvroWords) → AreAvroWords rest avro → ⊥) → IsUsage words
no_avro words word rest e is none = unused words word rest e (λ other named h. from other (sym (word_kind word other named) ∙ ap kind_of is) h)
  where
    from : (other : Command) → kind other ≡ 9 → AreRest rest other → ⊥
    from (Avro avro) same h = none avro h
    from _ same h = omega (arith, same)

pub no_rewrite : (words : List (List ℕ)) (word : List ℕ) (rest : List (List ℕ)) → words ≡ word ∷ rest → word ≡ codes "rewrite" → ((rewrite : RewriteWords) → AreRewriteWords rest rewrite → ⊥) → IsUsage words
no_rewrite words word rest e is none = unused words word rest e (λ other named h. from other (sym (word_kind word other named) ∙ ap kind_of is) h)
  where
    from : (other : Command) → kind other ≡ 10 → AreRest rest other → ⊥
    from (Rewrite rewrite) same h = none rewrite h
    from _ same h = omega (arith, same)

pub other_word : (words : List (List ℕ)) (word : List ℕ) (rest : List (List ℕ)) → words ≡ word ∷ rest → word ≢ codes "help" → word ≢ codes "--help" → word ≢ codes "-h" → word ≢ codes "version" → word ≢ codes "--version" → word ≢ codes "count" → word ≢ codes "schema" → word ≢ codes "fields"
    → word ≢ codes "block" → word ≢ codes "block-large" → word ≢ codes "ndjson" → word ≢ codes "make" → word ≢ codes "infer" → word ≢ codes "avro" → word ≢ codes "rewrite" → IsUsage words
other_word words word rest e isnt_help isnt_long_help isnt_short_help isnt_version isnt_long_version isnt_count isnt_schema isnt_fields isnt_block isnt_large isnt_ndjson isnt_make isnt_infer isnt_avro isnt_rewrite = unused words word rest e from
  where
    from_block : (large : Bool) → word ≢ block_word large
    from_block false same = isnt_block same
    from_block true same = isnt_large same

    from : (command : Command) → IsCommandWord word command → AreRest rest command → ⊥
    from Help (inl same) h = isnt_help same
    from Help (inr (inl same)) h = isnt_long_help same
    from Help (inr (inr same)) h = isnt_short_help same
    from Version (inl same) h = isnt_version same
    from Version (inr same) h = isnt_long_version same
    from Count same h = isnt_count same
    from Schema same h = isnt_schema same
    from Fields same h = isnt_fields same
    from (Block block) same h = from_block block.large same
    from (Ndjson numbers) same h = isnt_ndjson same
    from (Make make) same h = isnt_make same
    from Infer same h = isnt_infer same
    from (Avro avro) same h = isnt_avro same
    from (Rewrite rewrite) same h = isnt_rewrite same

pub no_words : (words : List (List ℕ)) → length words < 1 → IsUsage words
no_words [] low command (w, ws, is, named, h) = absurd (nil_cons is)
no_words (w ∷ ws) low command h = absurd (omega (arith, low))

-- ---- the words of `rewrite`

-- they are a name and a marker
pub no_rewrite_words : (words : List (List ℕ)) (name digits : List ℕ) → words ≡ name ∷ digits ∷ [] → (IsName name → ⊥) ⊎ ((marker : List ℕ) → IsMarker digits marker → ⊥)
    → (rewrite : RewriteWords) → AreRewriteWords words rewrite → ⊥
no_rewrite_words words name digits e (inl none) rewrite h = none (subst IsName (ap (words_head name) (sym h.are ∙ e)) h.name)
no_rewrite_words words name digits e (inr none) rewrite h = none rewrite.marker (subst (λ z. IsMarker z rewrite.marker) (ap (λ z. words_head digits (drop 1 z)) (sym h.are ∙ e)) h.marker)

-- ---- words that are two

pub two_words : (words : List (List ℕ)) (a b : List ℕ) → 2 ≤ length words → length words < 3 → a ≡ slice_index_or words 0 a → b ≡ slice_index_or words 1 b → words ≡ a ∷ b ∷ []
two_words [] a b low high p q = absurd (omega (arith, low))
two_words (x ∷ []) a b low high p q = absurd (omega (arith, low))
two_words (x ∷ y ∷ []) a b low high p q = λ i. sym p i ∷ sym q i ∷ []
two_words (x ∷ y ∷ z ∷ zs) a b low high p q = absurd (omega (arith, high))

-- ---- the words of `avro`

-- a field that isn't kept is none that is
pub kept_is_kept : (word : List ℕ) (field : AvroField) → IsField word false field → (other : AvroField) → IsField word true other → ⊥
kept_is_kept word field h other d = let e : false ≡ true = (one_field word false true field other h d).0 in cc

-- they are a name, a number of rows, a marker, and fields
pub no_avro_words : (words : List (List ℕ)) (name rows digits : List ℕ) (fields : List (List ℕ)) → words ≡ name ∷ rows ∷ digits ∷ fields
    → (IsName name → ⊥) ⊎ (((n : ℕ) → IsRows rows n → 0 < n → ⊥) ⊎ (((marker : List ℕ) → IsMarker digits marker → ⊥) ⊎ ((fs : List AvroField) → AreKeptFields fields fs → ⊥)))
    → (avro : AvroWords) → AreAvroWords words avro → ⊥
no_avro_words words name rows digits fields e (inl none) avro h = none (subst IsName (ap (words_head name) (sym h.are ∙ e)) h.name)
no_avro_words words name rows digits fields e (inr (inl none)) avro h =
    none avro.rows_per_block (subst (λ z. IsRows z avro.rows_per_block) (ap (λ z. words_head rows (drop 1 z)) (sym h.are ∙ e)) h.rows) h.some
no_avro_words words name rows digits fields e (inr (inr (inl none))) avro h =
    none avro.marker (subst (λ z. IsMarker z avro.marker) (ap (λ z. words_head digits (drop 2 z)) (sym h.are ∙ e)) h.marker)
no_avro_words words name rows digits fields e (inr (inr (inr none))) avro h =
    none avro.avro_fields (subst (λ z. AreKeptFields z avro.avro_fields) (ap (drop 3) (sym h.are ∙ e)) h.fields)

pub three_words : (words : List (List ℕ)) (a b d : List ℕ) → 3 ≤ length words → a ≡ slice_index_or words 0 a → b ≡ slice_index_or words 1 b → d ≡ slice_index_or words 2 d
    → words ≡ a ∷ b ∷ d ∷ take (length words - 3) (drop 3 words)
three_words [] a b d low p q r = absurd (omega (arith, low))
three_words (x ∷ []) a b d low p q r = absurd (omega (arith, low))
three_words (x ∷ y ∷ []) a b d low p q r = absurd (omega (arith, low))
three_words (x ∷ y ∷ z ∷ zs) a b d low p q r =
    let left : length (drop 3 (x ∷ y ∷ z ∷ zs)) ≡ length (x ∷ y ∷ z ∷ zs) - 3 = length-drop 3 (x ∷ y ∷ z ∷ zs) in
    let whole : take (length (x ∷ y ∷ z ∷ zs) - 3) (drop 3 (x ∷ y ∷ z ∷ zs)) ≡ zs = take_all (length (x ∷ y ∷ z ∷ zs) - 3) (drop 3 (x ∷ y ∷ z ∷ zs)) (omega (arith, left)) in
    λ i. sym p i ∷ sym q i ∷ sym r i ∷ sym whole i
