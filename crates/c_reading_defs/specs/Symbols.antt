-- What a derivation spells: its tokens, and what the limits count of each.
use Rattle.std.specs.Prelude.{◌≡◌, ◌<◌, ◌⊎◌, ℕ, zero, suc, ◌+◌, ◌-◌, max, Bool, true, false, List, [], ◌∷◌, ◌++◌, length, reverse, count_by}
use Rattle.c_grammar.specs.declared.class.Class.{Class}
use Rattle.c_reading_defs.specs.Behind.{SomeBehind}

pub data Symbol : Type 0 where
  -- an operator, a comma operator, `(`, `[` or `?` of a full expression
  Counted : Class → Symbol
  -- another token of an expression, a word of a type, or the name of a label
  Uncounted : Class → Symbol
  -- any other token: the full expression before it has ended
  Outside : Class → Symbol
  -- no token: the next one opens a level of nesting
  OpensLevel : Symbol
  -- no token: the level has ended
  EndsLevel : Symbol

abbrev pub classes_in : List Symbol → List Class
classes_in [] = []
classes_in (Counted k ∷ xs) = k ∷ classes_in xs
classes_in (Uncounted k ∷ xs) = k ∷ classes_in xs
classes_in (Outside k ∷ xs) = k ∷ classes_in xs
classes_in (_ ∷ xs) = classes_in xs

-- ---- the numbers of its tokens

-- of the token behind it, from that of its first on
abbrev pub token_behind : ℕ → List Symbol → ℕ
token_behind at xs = at + length (classes_in xs)

-- so many, from this one on
abbrev pub numbers : ℕ → ℕ → List ℕ
numbers at zero = []
numbers at (suc n) = at ∷ numbers (at + 1) n

abbrev pub numbers_of : ℕ → List Symbol → List ℕ
numbers_of at xs = numbers at (length (classes_in xs))

-- ---- limits

-- the limit of levels, and of counted tokens in one full expression
abbrev pub limit : ℕ
limit = 400

-- how many of these count, up to the first that is outside of full expressions
abbrev pub counted : List Symbol → ℕ
counted [] = 0
counted (Counted k ∷ xs) = counted xs + 1
counted (Outside k ∷ xs) = 0
counted (_ ∷ xs) = counted xs

-- the most that count in one full expression
abbrev pub most_counted : List Symbol → ℕ
most_counted [] = 0
most_counted (x ∷ xs) = max (counted (x ∷ xs)) (most_counted xs)

abbrev pub opens_level : Symbol → Bool
opens_level OpensLevel = true
opens_level _ = false

abbrev pub ends_level : Symbol → Bool
ends_level EndsLevel = true
ends_level _ = false

-- how many levels are open behind these: those that were opened but for those that have ended
abbrev pub levels : List Symbol → ℕ
levels xs = count_by opens_level xs - count_by ends_level xs

-- token k is over a limit: behind a symbol with k tokens in front of it more tokens count in the full expression that is open
-- there, or more levels are open
abbrev pub IsOver : List Symbol → ℕ → Type 0
IsOver xs k = SomeBehind (λ front x. (length (classes_in front) ≡ k) × ((limit < counted (x ∷ reverse front)) ⊎ (limit < levels (front ++ x ∷ [])))) xs
