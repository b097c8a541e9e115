-- Derivation, viable prefixes, and the first fault of tokens.
use Rattle.std.specs.Prelude.{◌≡◌, ◌≤◌, ℕ, List, [], ◌∷◌, ◌++◌, length, Option, Some, None}
use Rattle.c_grammar.specs.declared.class.Class.{Class}
use Rattle.c_grammar.specs.declared.class.Class.TheVariants as c
use Rattle.c_grammar.specs.declared.syntax.Syntax.{Syntax}
use Rattle.c_grammar.specs.Events.{first_over}
use Rattle.c_grammar.specs.Files.{Top, file_tokens, FitsFile}
use Rattle.c_grammar.specs.FileSyntax.{file_node}
use Rattle.c_grammar.specs.Counts.{file_events}

-- the number of the first token of a file that opens a level or counts past the limit
abbrev pub first_too_many : List Top → Option ℕ
first_too_many file = first_over (file_events file [])

-- the tokens, and the end behind them, derive this syntax, within the limits
pub record Derives (tokens : List Class) (x : Syntax) : Type 0 where
  pub file : List Top
  pub formed : FitsFile file
  pub spelled : file_tokens file (c.End ∷ []) ≡ tokens ++ c.End ∷ []
  pub syntax_of : x ≡ file_node file
  pub within : first_too_many file ≡ None

-- a list that some derivable list, with the end behind it, begins with
pub record Viable (tokens : List Class) : Type 0 where
  pub file : List Top
  pub more : List Class
  pub formed : FitsFile file
  pub begins : file_tokens file (c.End ∷ []) ≡ tokens ++ more

-- a token with this number, where there is one, has this many before it
abbrev pub NotBefore : ℕ → Option ℕ → Type 0
NotBefore k None = Unit {0}
NotBefore k (Some at) = k ≤ at

-- token k is the first whose addition gives a list that isn't viable, and none before it is over a limit
pub record IsUnexpected (tokens : List Class) (k : ℕ) : Type 0 where
  pub front : List Class
  pub token : Class
  pub rest : List Class
  pub split : tokens ≡ front ++ token ∷ rest
  pub place : length front ≡ k
  pub viable : Viable front
  pub none : Viable (front ++ token ∷ []) → ⊥
  -- in whichever file goes on from there, no token before k is over a limit
  pub within : (v : Viable front) → NotBefore k (first_too_many v.file)

-- token k is the first that opens a level or counts past the limit, in each derivation that begins with the tokens up to it
pub record IsTooMany (tokens : List Class) (k : ℕ) : Type 0 where
  pub front : List Class
  pub token : Class
  pub rest : List Class
  pub split : tokens ≡ front ++ token ∷ rest
  pub place : length front ≡ k
  pub viable : Viable (front ++ token ∷ [])
  pub over : (v : Viable (front ++ token ∷ [])) → first_too_many v.file ≡ Some k
