-- The words of the tokens of a text.
use Rattle.std.specs.Prelude.{◌≡◌, ℕ, List, Some, slice_get}
use Rattle.print_laws.specs.Reread.{Spelling}

-- the word of a token, by its number, is its bytes
abbrev pub AreWords : (ℕ → List ℕ) → List Spelling → Type 0
AreWords word tokens = (at : ℕ) (s : Spelling) → slice_get tokens at ≡ Some s → word at ≡ s.bytes
