-- Reading a JSON text (RFC 8259, sections 2 to 7) from left to right: what is found and what is left, or the first fault.
-- `parse` is told without it; contracts of what reads the parts of a text, here and in crates above, cite it. `proofs/` shows that
-- it finds just what the grammar relates to the bytes.
use Rattle.std.specs.Prelude.{ℕ, zero, suc, List, [], ◌∷◌, ◌++◌, length, Bool, true, false, cond, ◌==◌, Option, Some, None}
use Rattle.std.specs.Char.{encode_utf8}
use Rattle.json_tree.specs.Tree.{Json, null, boolean, number, string, array, object}
use Rattle.json_tree.specs.Layout.{put}
use Rattle.json_tree.specs.Grammar.{is_space, is_digit, is_exponent_mark, text_null, text_true, text_false}
use Rattle.arrow_base.specs.JsonString.{is_unescaped, short_escape, hexadecimal}
use Rattle.std.specs.Char.Utf16.{is_high_surrogate, is_low_surrogate, surrogate_pair_char}

-- a value and the bytes left, no such value, or one bracket too many
pub data Outcome (A : Type 0) : Type 0 where
  found : A → List ℕ → Outcome A
  wrong : Outcome A
  deep : Outcome A

abbrev pub bind : {A B : Type 0} → Outcome A → (A → List ℕ → Outcome B) → Outcome B
bind (found x r) k = k x r
bind wrong k = wrong
bind deep k = deep

abbrev pub on_first : {B : Type 0} → B → (ℕ → List ℕ → B) → List ℕ → B
on_first d f [] = d
on_first d f (x ∷ t) = f x t

-- what is said of the first byte, where there is one
abbrev pub First : (ℕ → List ℕ → Type 0) → List ℕ → Type 0
First P [] = Unit {0}
First P (x ∷ t) = P x t

-- RFC 8259, section 2: white space is passed
unfoldable pub skip : List ℕ → List ℕ
skip [] = []
skip (x ∷ xs) = cond (is_space x) (skip xs) (x ∷ xs)

-- ---- numbers (section 6)

-- the longest prefix whose bytes pass, and what follows it

unfoldable pub prefix : (ℕ → Bool) → List ℕ → List ℕ
prefix p [] = []
prefix p (x ∷ xs) = cond (p x) (x ∷ prefix p xs) []

unfoldable pub after : (ℕ → Bool) → List ℕ → List ℕ
after p [] = []
after p (x ∷ xs) = cond (p x) (after p xs) (x ∷ xs)

-- one digit or more
unfoldable pub digits_at : List ℕ → Outcome (List ℕ)
digits_at [] = wrong
digits_at (x ∷ t) = cond (is_digit x) (found (x ∷ prefix is_digit t) (after is_digit t)) wrong

-- int
unfoldable pub int_at : List ℕ → Outcome (List ℕ)
int_at [] = wrong
int_at (x ∷ t) = cond (x == 48) (found (48 ∷ []) t) (digits_at (x ∷ t))

-- [ minus ]
unfoldable pub minus_at : List ℕ → Outcome (List ℕ)
minus_at [] = found [] []
minus_at (x ∷ t) = cond (x == 45) (found (45 ∷ []) t) (found [] (x ∷ t))

-- [ frac ]
unfoldable pub frac_at : List ℕ → Outcome (List ℕ)
frac_at [] = found [] []
frac_at (x ∷ t) = cond (x == 46) (bind (digits_at t) (λ ds r. found (46 ∷ ds) r)) (found [] (x ∷ t))

-- [ minus / plus ]
unfoldable pub sign_at : List ℕ → Outcome (List ℕ)
sign_at [] = found [] []
sign_at (x ∷ t) = cond (x == 45) (found (45 ∷ []) t) (cond (x == 43) (found (43 ∷ []) t) (found [] (x ∷ t)))

-- [ exp ], found without its e
unfoldable pub exp_at : List ℕ → Outcome (List ℕ)
exp_at [] = found [] []
exp_at (x ∷ t) = cond (is_exponent_mark x) (bind (sign_at t) (λ s r. bind (digits_at r) (λ ds q. found (s ++ ds) q))) (found [] (x ∷ t))

unfoldable pub number_at : List ℕ → Outcome Json
number_at b = bind (minus_at b) (λ s r. bind (int_at r) (λ i q. bind (frac_at q) (λ f p. bind (exp_at p) (λ e o. found (number (s ++ (i ++ f)) e) o))))

-- ---- the literal names (section 3) and other fixed bytes

unfoldable pub strip : List ℕ → List ℕ → Outcome (Unit {0})
strip [] b = found tt b
strip (e ∷ es) [] = wrong
strip (e ∷ es) (x ∷ t) = cond (x == e) (strip es t) wrong

-- ---- strings (section 7)

abbrev pub if_some : {A : Type 0} → Option A → List ℕ → Outcome A
if_some None t = wrong
if_some (Some x) t = found x t

-- four hexadecimal digits
unfoldable pub unit_at : List ℕ → Outcome ℕ
unit_at [] = wrong
unit_at (h ∷ []) = wrong
unit_at (h ∷ i ∷ []) = wrong
unit_at (h ∷ i ∷ j ∷ []) = wrong
unit_at (h ∷ i ∷ j ∷ k ∷ t) = if_some (hexadecimal h i j k) t

-- the low surrogate after a high one
unfoldable pub low_at : ℕ → List ℕ → Outcome (List ℕ)
low_at u b = bind (strip (92 ∷ 117 ∷ []) b) (λ _ r. bind (unit_at r) (λ v q. cond (is_low_surrogate v) (found (encode_utf8 (surrogate_pair_char u v)) q) wrong))

-- after `\u`
unfoldable pub unicode_at : List ℕ → Outcome (List ℕ)
unicode_at b = bind (unit_at b) (λ u r. cond (is_high_surrogate u) (low_at u r) (cond (is_low_surrogate u) wrong (found (encode_utf8 u) r)))

-- after a reverse solidus
unfoldable pub escape_at : List ℕ → Outcome (List ℕ)
escape_at [] = wrong
escape_at (x ∷ t) = cond (x == 117) (unicode_at t) (bind (if_some (short_escape x) t) (λ c r. found (c ∷ []) r))

unfoldable pub char_at : List ℕ → Outcome (List ℕ)
char_at [] = wrong
char_at (x ∷ t) = cond (is_unescaped x) (found (x ∷ []) t) (cond (x == 92) (escape_at t) wrong)

-- up to the closing quote
unfoldable pub chars_at : ℕ → List ℕ → List ℕ → Outcome (List ℕ)
chars_at zero old b = wrong
chars_at (suc n) old b = on_first wrong (λ x t. cond (x == 34) (found old t) (bind (char_at b) (λ c r. chars_at n (old ++ c) r))) b

unfoldable pub string_at : List ℕ → Outcome (List ℕ)
string_at b = on_first wrong (λ x t. cond (x == 34) (chars_at (length b) [] t) wrong) b

-- ---- entries between brackets (sections 4 and 5)

-- after an entry: each more goes to the end of the old ones
unfoldable pub more_at : {A : Type 0} → (List ℕ → Outcome A) → ℕ → ℕ → List A → List ℕ → Outcome (List A)
more_at g z zero old b = wrong
more_at g z (suc n) old b = on_first wrong (λ x t. cond (x == 44) (bind (g t) (λ y r. more_at g z n (old ++ y ∷ []) r)) (cond (x == z) (found old t) wrong)) (skip b)

-- an entry, and what follows it
abbrev pub entry_at : {A : Type 0} → (List ℕ → Outcome A) → ℕ → ℕ → List A → List ℕ → Outcome (List A)
entry_at g z n old b = bind (g b) (λ y r. more_at g z n (old ++ y ∷ []) r)

-- after the opening byte
unfoldable pub listed_at : {A : Type 0} → (List ℕ → Outcome A) → ℕ → List ℕ → Outcome (List A)
listed_at g z b = on_first wrong (λ x t. cond (x == z) (found [] t) (entry_at g z (length b) [] b)) (skip b)

abbrev pub led : {A : Type 0} → (List ℕ → Outcome A) → List ℕ → Outcome A
led f b = f (skip b)

-- ---- values (section 3)

unfoldable pub scalar_at : List ℕ → Outcome Json
scalar_at b = on_first wrong (λ x t. cond (x == 34) (bind (string_at b) (λ s r. found (string s) r))
    (cond (x == 110) (bind (strip text_null b) (λ _ r. found null r)) (cond (x == 116) (bind (strip text_true b) (λ _ r. found (boolean true) r)) (cond (x == 102) (bind (strip text_false b) (λ _ r. found (boolean false) r)) (number_at b))))) b

unfoldable pub member_at : (List ℕ → Outcome Json) → List ℕ → Outcome (List ℕ × Json)
member_at f b = bind (string_at (skip b)) (λ k r. bind (strip (58 ∷ []) (skip r)) (λ _ q. bind (led f q) (λ x p. found (k, x) p)))

-- these members and then more, put in one after another
abbrev pub put_all : List (List ℕ × Json) → List (List ℕ × Json) → List (List ℕ × Json)
put_all members [] = members
put_all members (m ∷ more) = put_all (put members m) more

abbrev pub put_together : List (List ℕ × Json) → List (List ℕ × Json)
put_together members = put_all [] members

abbrev pub array_at : (List ℕ → Outcome Json) → List ℕ → Outcome Json
array_at f t = bind (listed_at (led f) 93 t) (λ xs r. found (array xs) r)

abbrev pub object_at : (List ℕ → Outcome Json) → List ℕ → Outcome Json
object_at f t = bind (listed_at (member_at f) 125 t) (λ ms r. found (object (put_together ms)) r)

unfoldable pub value_at : ℕ → List ℕ → Outcome Json
value_at zero b = on_first wrong (λ x t. cond (x == 91) deep (cond (x == 123) deep (scalar_at b))) b
value_at (suc d) b = on_first wrong (λ x t. cond (x == 91) (array_at (value_at d) t) (cond (x == 123) (object_at (value_at d) t) (scalar_at b))) b

abbrev pub if_end : {A : Type 0} → A → List ℕ → Outcome A
if_end x [] = found x []
if_end x (y ∷ t) = wrong

-- a whole text (section 2)
unfoldable pub text_at : ℕ → List ℕ → Outcome Json
text_at d b = bind (led (value_at d) b) (λ x r. if_end x (skip r))
