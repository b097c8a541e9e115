-- Which tokens derive a file, and the first that is at fault.
use Rattle.std.specs.Prelude.{◌≡◌, ◌<◌, ℕ, List, [], ◌∷◌, ◌++◌, length}
use Rattle.c_grammar.specs.declared.class.Class.{Class}
use Rattle.c_grammar.specs.declared.class.Class.TheVariants as c
use Rattle.c_grammar.specs.Tops.{Top}
use Rattle.c_reading_defs.specs.Symbols.{Symbol, classes_in, IsOver}
use Rattle.c_reading_defs.specs.DerivedTops.{IsFile}

-- the tokens of symbols, and the end behind them
abbrev pub with_end : List Symbol → List Class
with_end xs = classes_in xs ++ c.End ∷ []

-- the tokens derive this file, within the limits
pub record DeriveFile (tokens : List Class) (file : List Top) : Type 0 where
  pub symbols : List Symbol
  pub derives : IsFile 0 symbols file
  pub spelled : with_end symbols ≡ tokens ++ c.End ∷ []
  pub within : (k : ℕ) → IsOver symbols k → ⊥

-- a list that the tokens of some file, with the end behind them, begin with
pub record Viable (tokens : List Class) : Type 0 where
  pub symbols : List Symbol
  pub file : List Top
  pub derives : IsFile 0 symbols file
  pub more : List Class
  pub begins : with_end symbols ≡ tokens ++ more

-- token k is the first whose addition gives a list that isn't viable, and none before it is over a limit
pub record IsUnexpected (tokens : List Class) (k : ℕ) : Type 0 where
  pub front : List Class
  pub token : Class
  pub rest : List Class
  pub split : tokens ≡ front ++ token ∷ rest
  pub place : length front ≡ k
  pub viable : Viable front
  pub none : Viable (front ++ token ∷ []) → ⊥
  -- in whichever file goes on from there, no token before k is over a limit
  pub within : (v : Viable front) (j : ℕ) → j < k → IsOver v.symbols j → ⊥

-- token k is the first that opens a level or counts past the limit, in each derivation that begins with the tokens up to it
pub record IsTooMany (tokens : List Class) (k : ℕ) : Type 0 where
  pub front : List Class
  pub token : Class
  pub rest : List Class
  pub split : tokens ≡ front ++ token ∷ rest
  pub place : length front ≡ k
  pub viable : Viable (front ++ token ∷ [])
  pub over : (v : Viable (front ++ token ∷ [])) → IsOver v.symbols k
  -- and none before it is
  pub first : (v : Viable (front ++ token ∷ [])) (j : ℕ) → j < k → IsOver v.symbols j → ⊥
