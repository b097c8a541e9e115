-- Which `#include` lines leave no comment open behind them.
use Rattle.std.specs.Prelude.{◌≡◌, ℕ, Bool, true, false, cond, not, ◌&&◌, ◌||◌, ◌==◌, List, [], ◌∷◌, drop, codes, nat_eq, Option, Some, None, is_some}
use Rattle.std.specs.List.{starts_with}

abbrev pub begins_with : List ℕ → List ℕ → Bool
begins_with mark w = starts_with nat_eq w mark

-- what stands behind the first `*/`, if there is one
abbrev pub behind_comment : List ℕ → Option (List ℕ)
behind_comment [] = None
behind_comment (b ∷ w) = cond (begins_with (codes "*/") (b ∷ w)) (Some (drop 1 w)) (behind_comment w)

-- some `/*` in these bytes has no `*/` behind it
abbrev pub has_open : List ℕ → Bool
has_open [] = false
has_open (b ∷ w) = (begins_with (codes "/*") (b ∷ w) && not (is_some (behind_comment (drop 1 w)))) || has_open w

-- begins something that a compiler may read up to the next quote: `'`, `"` or `<`
abbrev pub is_quote : ℕ → Bool
is_quote b = b == 39 || b == 34 || b == 60

-- a comment begins with these bytes
abbrev pub begins_comment : List ℕ → Bool
begins_comment w = begins_with (codes "//") w || begins_with (codes "/*") w

-- whole comments and other bytes stand in front, and then this is left
pub data Leaves : List ℕ → List ℕ → Type 0 where
  nothing : Leaves [] []
  -- a comment `//` takes all the rest of the line
  line : (w : List ℕ) → Leaves (47 ∷ 47 ∷ w) []
  -- a quote is left, and so is a comment without end, each with what stands behind it
  quote : (b : ℕ) (w : List ℕ) → is_quote b ≡ true → Leaves (b ∷ w) (b ∷ w)
  unended : (w : List ℕ) → behind_comment w ≡ None → Leaves (47 ∷ 42 ∷ w) (47 ∷ 42 ∷ w)
  comment : (w behind left : List ℕ) → behind_comment w ≡ Some behind → Leaves behind left → Leaves (47 ∷ 42 ∷ w) left
  other : (b : ℕ) (w left : List ℕ) → begins_comment (b ∷ w) ≡ false → is_quote b ≡ false → Leaves w left → Leaves (b ∷ w) left

-- what a header name with a quote, a `\` or `/*` in it means is undefined
abbrev pub is_undefined : List ℕ → Bool
is_undefined [] = false
is_undefined (b ∷ w) = b == 34 || b == 39 || b == 92 || begins_with (codes "/*") (b ∷ w)

-- what stands behind the rest of a header name with this end, if it has that end and a meaning
abbrev pub behind_name : ℕ → List ℕ → Option (List ℕ)
behind_name end [] = None
behind_name end (b ∷ w) = cond (b == end) (Some w) (cond (is_undefined (b ∷ w)) None (behind_name end w))

-- what stands behind a header name, `<..>` or `".."`
abbrev pub behind_header : List ℕ → Option (List ℕ)
behind_header [] = None
behind_header (b ∷ w) = cond (b == 60) (behind_name 62 w) (cond (b == 34) (behind_name 34 w) None)

-- behind its `#`, the line leaves no comment open: behind comments, a header name and comments again, each `/*` that is
-- left has a `*/` behind it
pub data ClosesComments : List ℕ → Type 0 where
  named : (w name behind left : List ℕ) → Leaves w name → behind_header name ≡ Some behind → Leaves behind left → has_open left ≡ false → ClosesComments w
  -- no header name with a meaning stands there
  nameless : (w left : List ℕ) → Leaves w left → behind_header left ≡ None → has_open left ≡ false → ClosesComments w
