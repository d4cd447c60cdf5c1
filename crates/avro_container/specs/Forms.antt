-- Bytes that are read part by part: a number, so many bytes, the entries under a stated size. A form says
-- which bytes are whole, as a grammar does; which have only begun: whole parts that lead on, and then a part
-- that isn't whole yet; and which are wrong: whole parts, and then a part that refutes them.
use Rattle.std.specs.Prelude.{◌≡◌, ℕ, zero, suc, ◌^◌, ◌<◌, ◌≤◌, ℤ, pos, negsuc, List, [], ◌∷◌, ◌++◌, length, ◌⊎◌, Bool, true, false}
use Rattle.avro_schema.specs.Number.{Number}
use Rattle.avro_container.specs.File.{IsCount, count_of}
use Rattle.avro_schema.specs.Parts.{Grammar, Then, Meaning, Raw, Many, BlockOf, Blocks}

pub record Form (A : Type 0) : Type 1 where
  pub whole : Grammar A
  pub begun : List ℕ → Type 0
  pub wrong : List ℕ → Type 0

-- bytes of P, and after them bytes that R says of their value
pub record Followed {A : Type 0} (P : Grammar A) (R : A → List ℕ → Type 0) (bytes : List ℕ) : Type 0 where
  pub prefix : List ℕ
  pub back : List ℕ
  pub joined : bytes ≡ prefix ++ back
  pub value : A
  pub first : P prefix value
  pub second : R value back

-- ---- numbers

abbrev pub AllHigh : List ℕ → Type 0
AllHigh [] = Unit {0}
AllHigh (b ∷ bs) = (128 ≤ b) × (b < 256) × AllHigh bs

-- nine bytes that lead on, and a tenth that is more than the one bit that is left
pub record NotANumber (bytes : List ℕ) : Type 0 where
  pub prefix : List ℕ
  pub last : ℕ
  pub joined : bytes ≡ prefix ++ last ∷ []
  pub high : AllHigh prefix
  pub nine : length prefix ≡ 9
  pub large : 1 < last

abbrev pub number : Form ℤ
number = record { whole = Number; begun = λ b. AllHigh b × (length b < 10); wrong = NotANumber }

-- ---- bytes

abbrev pub raw : ℕ → Form (List ℕ)
raw n = record { whole = Raw n; begun = λ b. length b < n; wrong = λ b. ⊥ }

-- ---- one after another, and values with a meaning

abbrev pub both : {A B : Type 0} → Form A → (A → Form B) → Form B
both P Q = record {
  whole = Then P.whole (λ v. (Q v).whole);
  begun = λ b. P.begun b ⊎ Followed P.whole (λ v. (Q v).begun) b;
  wrong = λ b. P.wrong b ⊎ Followed P.whole (λ v. (Q v).wrong) b;
}

abbrev pub meaning : {A B : Type 0} → Form A → (A → Type 0) → (A → B) → Form B
meaning {A} P R f = record {
  whole = Meaning P.whole R f;
  begun = P.begun;
  wrong = λ b. P.wrong b ⊎ ((v : A) × P.whole b v × (R v → ⊥));
}

-- a number of 0 or more
abbrev pub count : Form ℕ
count = meaning number IsCount count_of

-- a number n of 0 or more, and n bytes
abbrev pub sized : Form (List ℕ)
sized = both count raw

abbrev pub BegunMany : {A : Type 0} → Form A → ℕ → List ℕ → Type 0
BegunMany P zero b = ⊥
BegunMany P (suc n) b = P.begun b ⊎ Followed P.whole (λ _. BegunMany P n) b

abbrev pub WrongMany : {A : Type 0} → Form A → ℕ → List ℕ → Type 0
WrongMany P zero b = ⊥
WrongMany P (suc n) b = P.wrong b ⊎ Followed P.whole (λ _. WrongMany P n) b

abbrev pub many : {A : Type 0} → Form A → ℕ → Form (List A)
many P n = record { whole = Many P.whole n; begun = BegunMany P n; wrong = WrongMany P n }

-- bytes under a stated size s are wrong where they are wrong within it, where they are whole and fewer than
-- it says, and where it is used up and they have only begun
abbrev pub WrongWithin : {A : Type 0} → Form A → ℕ → List ℕ → Type 0
WrongWithin {A} P s b = ((length b ≤ s) × P.wrong b) ⊎ ((length b < s) × (x : A) × P.whole b x) ⊎ ((length b ≡ s) × P.begun b)

-- bytes of P that are as many as a number says, which is 0 or more
abbrev pub under : {A : Type 0} → ℤ → Form A → Form A
under z P = record {
  whole = λ b x. (z ≡ pos (length b)) × P.whole b x;
  begun = λ b. (s : ℕ) × (z ≡ pos s) × (length b < s) × P.begun b;
  wrong = λ b. ((IsCount z → ⊥) × (b ≡ [])) ⊎ ((s : ℕ) × (z ≡ pos s) × WrongWithin P s b);
}

-- a count that is too large, of which nothing more is looked at
abbrev pub TooMany : ℕ → List ℕ → Type 0
TooMany n b = (2 ^ 63 ≤ suc n) × (b ≡ [])

-- n of P after their size in bytes
abbrev pub sized_many_of : {A : Type 0} → Form A → ℕ → Form (List A)
sized_many_of P n = both number (λ z. under z (many P n))

-- what stands after a block's count: the entries, and before them their size where the count is below 0
abbrev pub block_of : {A : Type 0} → Form A → ℤ → Form (List A)
block_of P (pos zero) = record { whole = BlockOf P.whole (pos zero); begun = λ b. ⊥; wrong = λ b. ⊥ }
block_of P (pos (suc n)) = record { whole = BlockOf P.whole (pos (suc n)); begun = λ b. (suc n < 2 ^ 63) × BegunMany P (suc n) b; wrong = λ b. TooMany n b ⊎ WrongMany P (suc n) b }
block_of P (negsuc n) = record {
  whole = BlockOf P.whole (negsuc n);
  begun = λ b. (suc n < 2 ^ 63) × (sized_many_of P (suc n)).begun b;
  wrong = λ b. TooMany n b ⊎ (sized_many_of P (suc n)).wrong b;
}

pub data BegunBlocks {A : Type 0} (P : Form A) : List ℕ → Type 0 where
  broken : {bytes : List ℕ} → number.begun bytes → BegunBlocks P bytes
  here : (prefix items : List ℕ) (c : ℤ) → Number prefix c → (block_of P c).begun items → BegunBlocks P (prefix ++ items)
  later : (prefix items rest : List ℕ) (c : ℤ) (xs : List A) → Number prefix c → BlockOf P.whole c items xs → BegunBlocks P rest → BegunBlocks P (prefix ++ (items ++ rest))

pub data WrongBlocks {A : Type 0} (P : Form A) : List ℕ → Type 0 where
  broken : {bytes : List ℕ} → number.wrong bytes → WrongBlocks P bytes
  here : (prefix items : List ℕ) (c : ℤ) → Number prefix c → (block_of P c).wrong items → WrongBlocks P (prefix ++ items)
  later : (prefix items rest : List ℕ) (c : ℤ) (xs : List A) → Number prefix c → BlockOf P.whole c items xs → WrongBlocks P rest → WrongBlocks P (prefix ++ (items ++ rest))

abbrev pub blocks : {A : Type 0} → Form A → Form (List A)
blocks P = record { whole = Blocks P.whole; begun = BegunBlocks P; wrong = WrongBlocks P }

-- cited by private contracts alone: a number by its absolute value and its sign
abbrev pub signed_of : Bool → ℕ → ℤ
signed_of false n = pos n
signed_of true zero = pos zero
signed_of true (suc n) = negsuc n
