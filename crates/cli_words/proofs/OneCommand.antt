-- Words stand for one command at most.
use Rattle.std.proofs.Common.{◌≡◌, ℕ, suc, ◌<◌, Bool, false, true, List, [], ◌∷◌, length, drop, refl, sym, ap, subst, ◌∙◌, arith}
use Rattle.std.specs.Int.{w128, to_be_bytes}
use Rattle.std.specs.Str.Parse.{digits_value}
use Rattle.std.proofs.lemmas.Fmt.{decimal_injective}
use Rattle.avro_schema.specs.declared.schema.AvroField.{AvroField}
use Rattle.cli_words.specs.Fields.{IsField}
use Rattle.cli_words.specs.Names.{IsNumber, IsRows}
use Rattle.cli_words.proofs.OneMeaning.{one_field}
use Rattle.cli_words.specs.declared.command.AvroWords.{AvroWords}
use Rattle.cli_words.specs.declared.command.BlockWords.{BlockWords}
use Rattle.cli_words.specs.declared.command.Command.{Command}
use Rattle.cli_words.specs.declared.command.Command.TheVariants.{Help, Version, Count, Schema, Fields, Block, Ndjson, Make, Infer, Avro, Rewrite}
use Rattle.cli_words.specs.declared.command.RewriteWords.{RewriteWords}
use Rattle.cli_words.specs.declared.command.MakeWords.{MakeWords}
use Rattle.cli_words.specs.Stands.{Stands}
use Rattle.cli_words.specs.Words.{AreAvroWords, AreFields, AreKeptFields, AreMakeWords, AreRewriteWords, IsMarker, IsRest, block_word, IsCommandWord, AreRest}
use Rattle.cli_words.proofs.EachWord.{one_list}
use Rattle.cli_words.proofs.WordsLemmas.{words_head, kind, one_kind}

one_fields : (words : List (List ℕ)) (ks ls : List Bool) (fs gs : List AvroField) → AreFields words ks fs → AreFields words ls gs → (ks ≡ ls) × (fs ≡ gs)
one_fields [] [] [] [] [] h d = (refl, refl)
one_fields [] [] (l ∷ ls) [] gs h d = absurd d
one_fields [] [] [] [] (g ∷ gs) h d = absurd d
one_fields [] (k ∷ ks) ls fs gs h d = absurd h
one_fields [] [] ls (f ∷ fs) gs h d = absurd h
one_fields (w ∷ ws) [] ls fs gs h d = absurd h
one_fields (w ∷ ws) (k ∷ ks) ls [] gs h d = absurd h
one_fields (w ∷ ws) (k ∷ ks) [] (f ∷ fs) gs h d = absurd d
one_fields (w ∷ ws) (k ∷ ks) (l ∷ ls) (f ∷ fs) [] h d = absurd d
one_fields (w ∷ ws) (k ∷ ks) (l ∷ ls) (f ∷ fs) (g ∷ gs) h d =
    let first = one_field w k l f g h.0 d.0 in
    let more = one_fields ws ks ls fs gs h.1 d.1 in
    ((λ i. first.0 i ∷ more.0 i), (λ i. first.1 i ∷ more.1 i))

-- the words of a block, by their indexes
block_parts : (rest : List (List ℕ)) (block : BlockWords) → IsRest rest block → IsRows (words_head [] rest) block.rows × AreFields (drop 1 rest) block.projection block.avro_fields
block_parts rest block (w, ws, so, n, are) =
    (subst (λ z. IsRows z block.rows) (sym (ap (words_head []) so)) n, subst (λ z. AreFields z block.projection block.avro_fields) (sym (ap (drop 1) so)) are)

same_word : (a b : Bool) → block_word a ≡ block_word b → a ≡ b
same_word false false e = refl
same_word false true e = absurd cc
same_word true false e = absurd cc
same_word true true e = refl

one_block : (rest : List (List ℕ)) (block other : BlockWords) → block_word block.large ≡ block_word other.large → IsRest rest block → IsRest rest other → block ≡ other
one_block rest block other words h d =
    let one = block_parts rest block h in
    let two = block_parts rest other d in
    let same = one_fields (drop 1 rest) block.projection other.projection block.avro_fields other.avro_fields one.1 two.1 in
    let rows : block.rows ≡ other.rows = one.0.3 ∙ sym two.0.3 in
    let large = same_word block.large other.large words in
    λ i. record { rows = rows i; avro_fields = same.1 i; projection = same.0 i; large = large i }

-- a word is one number at most
one_number : (most greatest : ℕ) (word other : List ℕ) (a b : ℕ) → word ≡ other → IsNumber most greatest word a → IsNumber most greatest other b → a ≡ b
one_number most greatest word other a b same h d = h.3 ∙ ap (digits_value 10) same ∙ sym d.3

one_make : (rest : List (List ℕ)) (make other : MakeWords) → AreMakeWords rest make → AreMakeWords rest other → make ≡ other
one_make rest make other h d =
    let start = decimal_injective make.start other.start (omega (arith, h.start)) (omega (arith, d.start)) (ap (words_head []) (sym h.are ∙ d.are)) in
    let rows = decimal_injective make.rows other.rows (omega (arith, h.rows)) (omega (arith, d.rows)) (ap (λ z. words_head [] (drop 1 z)) (sym h.are ∙ d.are)) in
    λ i. record { start = start i; rows = rows i }

-- digits are those of one marker
one_marker : (digits other marker another : List ℕ) → digits ≡ other → IsMarker digits marker → IsMarker other another → marker ≡ another
one_marker digits other marker another same h d = h.bytes ∙ ap (λ z. to_be_bytes w128 (digits_value 16 z)) same ∙ sym d.bytes

-- words name one list of kept fields at most
one_kept : (words others : List (List ℕ)) (fs gs : List AvroField) → words ≡ others → AreKeptFields words fs → AreKeptFields others gs → fs ≡ gs
one_kept words others fs gs same h d =
    one_list (λ word field. IsField word true field) (λ word f g x y. (one_field word true true f g x y).1) others fs gs (subst (λ z. AreKeptFields z fs) same h) d

one_avro : (rest : List (List ℕ)) (avro other : AvroWords) → AreAvroWords rest avro → AreAvroWords rest other → avro ≡ other
one_avro rest avro other h d =
    let same = sym h.are ∙ d.are in
    let name : avro.name ≡ other.name = ap (words_head []) same in
    let rows_per_block = one_number 20 18446744073709551615 h.rows_word d.rows_word avro.rows_per_block other.rows_per_block (ap (λ z. words_head [] (drop 1 z)) same) h.rows d.rows in
    let marker = one_marker h.digits d.digits avro.marker other.marker (ap (λ z. words_head [] (drop 2 z)) same) h.marker d.marker in
    let avro_fields = one_kept h.field_words d.field_words avro.avro_fields other.avro_fields (ap (drop 3) same) h.fields d.fields in
    λ i. record { name = name i; rows_per_block = rows_per_block i; marker = marker i; avro_fields = avro_fields i }

one_rewrite : (rest : List (List ℕ)) (rewrite other : RewriteWords) → AreRewriteWords rest rewrite → AreRewriteWords rest other → rewrite ≡ other
one_rewrite rest rewrite other h d =
    let name : rewrite.name ≡ other.name = ap (words_head []) (sym h.are ∙ d.are) in
    let marker = one_marker h.digits d.digits rewrite.marker other.marker (ap (λ z. words_head [] (drop 1 z)) (sym h.are ∙ d.are)) h.marker d.marker in
    λ i. record { name = name i; marker = marker i }

-- of commands of one number that begin with a word
one_rest : (word : List ℕ) (rest : List (List ℕ)) (one other : Command) → kind one ≡ kind other → IsCommandWord word one → IsCommandWord word other → AreRest rest one → AreRest rest other → one ≡ other
one_rest word rest Help Help same p q h d = refl
one_rest word rest Help _ same p q h d = absurd (omega (arith, same))
one_rest word rest Version Version same p q h d = refl
one_rest word rest Version _ same p q h d = absurd (omega (arith, same))
one_rest word rest Count Count same p q h d = refl
one_rest word rest Count _ same p q h d = absurd (omega (arith, same))
one_rest word rest Schema Schema same p q h d = refl
one_rest word rest Schema _ same p q h d = absurd (omega (arith, same))
one_rest word rest Fields Fields same p q h d = refl
one_rest word rest Fields _ same p q h d = absurd (omega (arith, same))
one_rest word rest Infer Infer same p q h d = refl
one_rest word rest Infer _ same p q h d = absurd (omega (arith, same))
one_rest word rest (Block block) (Block other) same p q h d = ap Block (one_block rest block other (sym p ∙ q) h d)
one_rest word rest (Block block) _ same p q h d = absurd (omega (arith, same))
one_rest word rest (Ndjson numbers) (Ndjson others) same p q h d = ap Ndjson (one_list IsRows (λ word n m x y. one_number 20 18446744073709551615 word word n m refl x y) rest numbers others h d)
one_rest word rest (Ndjson numbers) _ same p q h d = absurd (omega (arith, same))
one_rest word rest (Make make) (Make other) same p q h d = ap Make (one_make rest make other h d)
one_rest word rest (Make make) _ same p q h d = absurd (omega (arith, same))
one_rest word rest (Avro avro) (Avro other) same p q h d = ap Avro (one_avro rest avro other h d)
one_rest word rest (Avro avro) _ same p q h d = absurd (omega (arith, same))
one_rest word rest (Rewrite rewrite) (Rewrite other) same p q h d = ap Rewrite (one_rewrite rest rewrite other h d)
one_rest word rest (Rewrite rewrite) _ same p q h d = absurd (omega (arith, same))

pub one_command : (words : List (List ℕ)) (one other : Command) → Stands words one → Stands words other → one ≡ other
one_command words one other (w, ws, is, named, h) (v, vs, at, called, d) =
    let begins : IsCommandWord v one = subst (λ z. IsCommandWord z one) (ap (words_head []) (sym is ∙ at)) named in
    one_rest v vs one other (one_kind v one other begins called) begins called (subst (λ z. AreRest z one) (ap (drop 1) (sym is ∙ at)) h) d

-- ---- what blocks that words name have

-- each field is kept or not
fields_each : (words : List (List ℕ)) (keeps : List Bool) (fields : List AvroField) → AreFields words keeps fields → length fields ≡ length keeps
fields_each [] [] [] h = refl
fields_each [] [] (f ∷ fs) h = absurd h
fields_each [] (b ∷ bs) fs h = absurd h
fields_each (w ∷ ws) [] fs h = absurd h
fields_each (w ∷ ws) (b ∷ bs) [] h = absurd h
fields_each (w ∷ ws) (b ∷ bs) (f ∷ fs) h = ap suc (fields_each ws bs fs h.1)

pub block_each : (words : List (List ℕ)) (block : BlockWords) → Stands words (Block block) → length block.avro_fields ≡ length block.projection
block_each words block (word, rest, is, named, (w, ws, so, n, are)) = fields_each ws block.projection block.avro_fields are

-- and each block of `avro` has a row
pub blocks_have_rows : (words : List (List ℕ)) (avro : AvroWords) → Stands words (Avro avro) → 0 < avro.rows_per_block
blocks_have_rows words avro (word, rest, is, named, h) = h.some
