-- What is read of a file apart from its limits: each name is one, each body, value and size is read.
use Rattle.std.specs.Prelude.{◌<◌, ◌≤◌, ℕ, List, IfSome, length}
use Rattle.c_grammar.specs.Tops.{Enumerator, Function, Top, Form, Line, Enum, Globals, Defines, From, Unread}
use Rattle.c_statements.specs.Measures.{body_depth}
use Rattle.c_resolved_defs.specs.Within.{Each}
use Rattle.c_resolving_laws.specs.Read.{IsNameAt, IsReadTerm, IsReadParameter, IsReadDeclaration, IsReadBody}

module _ (word : ℕ → List ℕ) where
  pub record IsFormedEnumerator (e : Enumerator) : Type 0 where
    pub named : IsNameAt word e.name
    pub value : IfSome e.value (IsReadTerm word)

  pub record IsFormedFunction (f : Function) : Type 0 where
    pub named : IsNameAt word f.name
    pub parameters : Each (IsReadParameter word) f.parameters
    pub body : IfSome f.body (IsReadBody word)

  abbrev pub IsFormed : Form → Type 0
  IsFormed Line = Unit {0}
  IsFormed (Enum es) = (0 < length es) × Each IsFormedEnumerator es
  IsFormed (Globals static d) = IsReadDeclaration word d
  IsFormed (Defines f) = IsFormedFunction f
  IsFormed Unread = ⊥

  abbrev pub IsFormedTop : Top → Type 0
  IsFormedTop (From first after form) = IsFormed form

-- the lists of a function's body stand at most so deep in each other
abbrev pub IsShallow : Top → Type 0
IsShallow (From first after (Defines f)) = IfSome f.body (λ b. body_depth b ≤ 400)
IsShallow _ = Unit {0}
