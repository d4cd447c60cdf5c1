-- Symbols at the start of bytes, as the code takes them, and the builder that they are kept in.
use Rattle.std.proofs.Common.{◌≡◌, ◌∙◌, ℕ, ◌<◌, ℤ, pos, negsuc, List, [], ◌∷◌, ◌++◌, length, map, true, false, Some, None, Result, Ok, Err, refl, ap}
use Rattle.std.specs.Prelude.{OnOk, OnErr}
use Rattle.std.proofs.lemmas.Bool.{ltb-true}
use Rattle.std.proofs.lemmas.List.{get_or-map, length-map}
use Rattle.arrow_core.specs.declared.slot.Slot.{Slot}
use Rattle.arrow_core.specs.declared.slot.Slot.TheVariants as slot
use Rattle.arrow_array.specs.Dictionaries.{IsKeyInto, looked_up}
use Rattle.arrow_flat.specs.Builders.{PlainBuilder}
use Rattle.arrow_flat.specs.Dictionaries.{DictionaryBuilder, dictionary_node}
use Rattle.arrow_flat.specs.Nodes.{KeepsCapacity}
use Rattle.avro_reference.specs.Prefix.{number_at, is_index}
use Rattle.avro_reference.specs.Read.{symbol_of}
use Rattle.avro_reference.specs.Costs.{passed}
use Rattle.avro_flat.specs.Growing.{Fills}
use Rattle.avro_flat.proofs.Pushes.{number_fills}

pub symbol_none : (symbols : List (List ℕ)) (bytes : List ℕ) → number_at bytes ≡ None → symbol_of symbols bytes ≡ None
unfolding symbol_of
symbol_none symbols bytes e = rw e refl

pub symbol_out : (symbols : List (List ℕ)) (bytes rest : List ℕ) (v : ℤ) → number_at bytes ≡ Some (v, rest) → is_index v (length symbols) ≡ false → symbol_of symbols bytes ≡ None
unfolding symbol_of
symbol_out symbols bytes rest v e t = rw (e, t) refl

named : (symbols : List (List ℕ)) (k : ℕ) → is_index (pos k) (length symbols) ≡ true → k < length symbols
named symbols k t = ltb-true k (length symbols) t

pub symbol_in : (symbols : List (List ℕ)) (items : List Slot) (bytes rest : List ℕ) (v : ℤ) → items ≡ map slot.String symbols → number_at bytes ≡ Some (v, rest) → is_index v (length symbols) ≡ true → symbol_of symbols bytes ≡ Some (looked_up items (slot.Integer v), rest)
unfolding symbol_of
symbol_in symbols items bytes rest (pos k) i e t =
    let s = get_or-map slot.String symbols k [] slot.Null (named symbols k t) in
    rw (e, t, i, s) refl
symbol_in symbols items bytes rest (negsuc k) i e t = absurd cc

pub key_fits : (symbols : List (List ℕ)) (items : List Slot) (v : ℤ) → items ≡ map slot.String symbols → is_index v (length symbols) ≡ true → IsKeyInto (length items) (slot.Integer v)
key_fits symbols items (pos k) i t =
    let l : length items ≡ length symbols = ap length i ∙ length-map symbols slot.String in
    rw l (named symbols k t)
key_fits symbols items (negsuc k) i t = absurd cc

-- the same builder, but for its values
abbrev keys_of : DictionaryBuilder → PlainBuilder
keys_of b = record { data_type = b.data_type; slots = b.slots; spare = b.spare }

same_keys : {X E : Type 0} (r : Result X E) (old new : DictionaryBuilder) → OnErr r (new ≡ old) → OnErr r (keys_of new ≡ keys_of old)
same_keys (Ok y) old new e = tt
same_keys (Err y) old new e = ap keys_of e

pub symbol_fills : {X E : Type 0} (start rest : List ℕ) (r : Result X E) (old new : DictionaryBuilder) (x : Slot) → length rest < length start → OnOk r (new.slots ≡ old.slots ++ x ∷ []) → OnErr r (new ≡ old) → KeepsCapacity (dictionary_node old) (dictionary_node new) → Fills (passed start rest) (dictionary_node old) (dictionary_node new)
symbol_fills start rest r old new x lt h e k = number_fills start rest r (keys_of old) (keys_of new) x lt h (same_keys r old new e) k
