-- The grammar of JSON text (RFC 8259, sections 2 to 7), as relations between values and bytes. That the whole is UTF-8 (section 8.1) is said beside it.
use Rattle.std.specs.Prelude.{◌≡◌, ◌⊎◌, ℕ, zero, suc, List, [], ◌∷◌, ◌++◌, Bool, true, false, ◌==◌, ◌||◌, ◌&&◌, nat_le}
use Rattle.arrow_base.specs.JsonString.{IsString}
use Rattle.json_tree.specs.Tree.{Json, null, boolean, number, string, array, object}
use Rattle.json_tree.specs.Keys.{Gathers}

-- Section 2: white space is space, horizontal tab, line feed and carriage return.

-- each of the bytes passes the test
abbrev pub Each : (ℕ → Bool) → List ℕ → Type 0
Each test [] = Unit {0}
Each test (byte ∷ bytes) = (test byte ≡ true) × Each test bytes

unfoldable pub is_space : ℕ → Bool
is_space byte = (byte == 0x20) || (byte == 0x09) || (byte == 0x0a) || (byte == 0x0d)

abbrev pub Spaces : List ℕ → Type 0
Spaces = Each is_space

-- white space, and then what the relation asks for
abbrev pub AfterSpaces : (List ℕ → Type 0) → List ℕ → Type 0
AfterSpaces P bytes = (spaces : List ℕ) × (rest : List ℕ) × Spaces spaces × P rest × (bytes ≡ spaces ++ rest)

-- Section 6: number = [ minus ] int [ frac ] [ exp ].

unfoldable pub is_digit : ℕ → Bool
is_digit byte = nat_le 0x30 byte && nat_le byte 0x39

-- [ minus ]
abbrev pub IsMinus : List ℕ → Type 0
IsMinus bytes = (bytes ≡ []) ⊎ (bytes ≡ 0x2d ∷ [])

-- int: 0 alone, or digits of which the first is not 0
abbrev pub IsInteger : List ℕ → Type 0
IsInteger bytes =
    (bytes ≡ 0x30 ∷ [])
    ⊎ ((digit : ℕ) × (more : List ℕ) × (is_digit digit ≡ true) × ((digit == 0x30) ≡ false) × Each is_digit more × (bytes ≡ digit ∷ more))

-- 1*DIGIT
abbrev pub Digits : List ℕ → Type 0
Digits bytes = (digit : ℕ) × (more : List ℕ) × (is_digit digit ≡ true) × Each is_digit more × (bytes ≡ digit ∷ more)

-- [ frac ]: nothing, or a point and digits
abbrev pub IsFraction : List ℕ → Type 0
IsFraction bytes = (bytes ≡ []) ⊎ ((digits : List ℕ) × Digits digits × (bytes ≡ 0x2e ∷ digits))

-- e, of either case
abbrev pub is_exponent_mark : ℕ → Bool
is_exponent_mark byte = (byte == 0x65) || (byte == 0x45)

-- [ minus / plus ]
abbrev pub IsSign : List ℕ → Type 0
IsSign bytes = (bytes ≡ []) ⊎ ((bytes ≡ 0x2d ∷ []) ⊎ (bytes ≡ 0x2b ∷ []))

-- [ exp ]: nothing, or e and the exponent, which is a sign and digits
abbrev pub IsExponent : List ℕ → List ℕ → Type 0
IsExponent bytes exponent =
    ((bytes ≡ []) × (exponent ≡ []))
    ⊎ ((mark : ℕ) × (sign : List ℕ) × (digits : List ℕ) × (is_exponent_mark mark ≡ true) × IsSign sign × Digits digits × (exponent ≡ sign ++ digits) × (bytes ≡ mark ∷ exponent))

-- a number: the mantissa is all that stands before e
abbrev pub IsNumber : List ℕ → List ℕ → List ℕ → Type 0
IsNumber mantissa exponent bytes =
    (minus : List ℕ) × (integer : List ℕ) × (fraction : List ℕ) × (marked : List ℕ) × IsMinus minus × IsInteger integer × IsFraction fraction × IsExponent marked exponent
    × (mantissa ≡ minus ++ (integer ++ fraction)) × (bytes ≡ mantissa ++ marked)

-- Section 7: the bytes are a string, and the text is its meaning.

abbrev pub Quoted : List ℕ → List ℕ → Type 0
Quoted text bytes = IsString bytes text

-- Section 3: value = false / null / true / object / array / number / string.

abbrev pub text_null : List ℕ
text_null = 0x6e ∷ 0x75 ∷ 0x6c ∷ 0x6c ∷ []

abbrev pub text_true : List ℕ
text_true = 0x74 ∷ 0x72 ∷ 0x75 ∷ 0x65 ∷ []

abbrev pub text_false : List ℕ
text_false = 0x66 ∷ 0x61 ∷ 0x6c ∷ 0x73 ∷ 0x65 ∷ []

-- a value that holds no bracket
abbrev pub Scalar : Json → List ℕ → Type 0
Scalar value bytes =
    ((value ≡ null) × (bytes ≡ text_null))
    ⊎ (((value ≡ boolean true) × (bytes ≡ text_true))
    ⊎ (((value ≡ boolean false) × (bytes ≡ text_false))
    ⊎ (((text : List ℕ) × Quoted text bytes × (value ≡ string text))
    ⊎ ((mantissa : List ℕ) × (exponent : List ℕ) × IsNumber mantissa exponent bytes × (value ≡ number mantissa exponent)))))

-- Sections 4 and 5: entries between two brackets, with a comma between each two.

-- what follows an entry: more entries, each after a comma, and the closing bracket
abbrev pub More : {A : Type 0} → (A → List ℕ → Type 0) → ℕ → List A → List ℕ → Type 0
More Entry close [] bytes = bytes ≡ close ∷ []
More Entry close (x ∷ xs) bytes =
    (entry : List ℕ) × (spaces : List ℕ) × (rest : List ℕ) × Entry x entry × Spaces spaces × More Entry close xs rest × (bytes ≡ 0x2c ∷ (entry ++ (spaces ++ rest)))

-- what follows the opening bracket
abbrev pub Listed : {A : Type 0} → (A → List ℕ → Type 0) → ℕ → List A → List ℕ → Type 0
Listed Entry close [] bytes = (spaces : List ℕ) × Spaces spaces × (bytes ≡ spaces ++ close ∷ [])
Listed Entry close (x ∷ xs) bytes =
    (entry : List ℕ) × (spaces : List ℕ) × (rest : List ℕ) × Entry x entry × Spaces spaces × More Entry close xs rest × (bytes ≡ entry ++ (spaces ++ rest))

-- member = string name-separator value
abbrev pub Member : (Json → List ℕ → Type 0) → List ℕ × Json → List ℕ → Type 0
Member Of member bytes =
    (key : List ℕ) × (spaces : List ℕ) × (value : List ℕ) × AfterSpaces (Quoted member.0) key × Spaces spaces × AfterSpaces (Of member.1) value
    × (bytes ≡ key ++ (spaces ++ 0x3a ∷ value))

-- A value in which at most so many brackets are open at once.
abbrev pub Encodes : ℕ → Json → List ℕ → Type 0
Encodes zero value bytes = Scalar value bytes
Encodes (suc depth) value bytes =
    Scalar value bytes
    ⊎ (((items : List Json) × (inside : List ℕ) × Listed (λ item. AfterSpaces (Encodes depth item)) 0x5d items inside × (value ≡ array items) × (bytes ≡ 0x5b ∷ inside))
    ⊎ ((members : List (List ℕ × Json)) × (gathered : List (List ℕ × Json)) × (inside : List ℕ) × Listed (Member (Encodes depth)) 0x7d members inside × Gathers members gathered
    × (value ≡ object gathered) × (bytes ≡ 0x7b ∷ inside)))

-- Section 2: JSON-text = ws value ws.
abbrev pub IsText : ℕ → Json → List ℕ → Type 0
IsText depth value bytes = (prefix : List ℕ) × (spaces : List ℕ) × AfterSpaces (Encodes depth value) prefix × Spaces spaces × (bytes ≡ prefix ++ spaces)
