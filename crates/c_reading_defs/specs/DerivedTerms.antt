-- Which symbols derive an expression (ISO/IEC 9899:2011, 6.5), and what it writes there: its form, by the number of its first
-- token. A mark that binds more tightly has a higher level.
use Rattle.std.specs.Prelude.{◌≡◌, ◌<◌, ◌≤◌, ◌+◌, ℕ, Bool, true, false, List, [], ◌∷◌, ◌++◌}
use Rattle.c_grammar.specs.declared.class.Class.{Class}
use Rattle.c_grammar.specs.declared.class.Class.TheVariants as c
use Rattle.c_grammar.specs.Classes.{level, is_assign, is_prefix}
use Rattle.c_grammar.specs.Terms.{Form, Terms, At, Constant, Variable, Cell, Prefix, Suffix, CastTo, CastVoid, Binary, Choice, Assign, Commas, Call, Texts, NoTerm, Then}
use Rattle.c_reading_defs.specs.Symbols.{Symbol, Counted, Uncounted, token_behind, numbers_of}

-- ---- types and texts

-- "char" | "int" | "long" [ "int" ]
pub data IsBase : List Symbol → Type 0 where
  char : IsBase (Uncounted c.Char ∷ [])
  int : IsBase (Uncounted c.Int ∷ [])
  long : IsBase (Uncounted c.Long ∷ [])
  long_int : IsBase (Uncounted c.Long ∷ Uncounted c.Int ∷ [])

-- number-type = base | ( "signed" | "unsigned" ) [ base ]
pub data IsType : List Symbol → Type 0 where
  base : {xs : List Symbol} → IsBase xs → IsType xs
  signed : IsType (Uncounted c.Signed ∷ [])
  signed_base : {xs : List Symbol} → IsBase xs → IsType (Uncounted c.Signed ∷ xs)
  unsigned : IsType (Uncounted c.Unsigned ∷ [])
  unsigned_base : {xs : List Symbol} → IsBase xs → IsType (Uncounted c.Unsigned ∷ xs)

-- text { text }
pub data AreTexts : List Symbol → Type 0 where
  one_text : AreTexts (Uncounted c.Text ∷ [])
  more_texts : {xs : List Symbol} → AreTexts xs → AreTexts (Uncounted c.Text ∷ xs)

-- ---- expressions

-- a name or a cell, which may stand in brackets
abbrev pub is_target : Form → Bool
is_target (Variable at) = true
is_target (Cell at t) = true
is_target _ = false

mutual
  -- expression = assignment { "," assignment }
  pub data IsExpression : ℕ → List Symbol → Form → Type 0 where
    one : {at : ℕ} {xs : List Symbol} {f : Form} → IsAssignment at xs f → IsExpression at xs f
    more : {at : ℕ} {xs ys : List Symbol} {f : Form} {ts : Terms} → IsAssignment at xs f → AreAssignments (token_behind at xs + 1) ys ts
        → IsExpression at (xs ++ Counted c.Comma ∷ ys) (Commas (At at f) ts)

  pub data AreAssignments : ℕ → List Symbol → Terms → Type 0 where
    last : {at : ℕ} {xs : List Symbol} {f : Form} → IsAssignment at xs f → AreAssignments at xs (Then (At at f) NoTerm)
    then : {at : ℕ} {xs ys : List Symbol} {f : Form} {ts : Terms} → IsAssignment at xs f → AreAssignments (token_behind at xs + 1) ys ts
        → AreAssignments at (xs ++ Counted c.Comma ∷ ys) (Then (At at f) ts)

  -- assignment = target assign-mark assignment | conditional
  pub data IsAssignment : ℕ → List Symbol → Form → Type 0 where
    to : {at : ℕ} {xs ys : List Symbol} {f g : Form} → IsTarget at xs f → (m : Class) → is_assign m ≡ true → IsAssignment (token_behind at xs + 1) ys g
        → IsAssignment at (xs ++ Counted m ∷ ys) (Assign (token_behind at xs) (At at f) (At (token_behind at xs + 1) g))
    value : {at : ℕ} {xs : List Symbol} {f : Form} → IsConditional at xs f → IsAssignment at xs f

  -- conditional = binary [ "?" expression ":" conditional ]
  pub data IsConditional : ℕ → List Symbol → Form → Type 0 where
    choose : {at k : ℕ} {xs ys zs : List Symbol} {f g h : Form} → IsBinary k at xs f → IsExpression (token_behind at xs + 1) ys g →
        IsConditional (token_behind (token_behind at xs + 1) ys + 1) zs h
        → IsConditional at (xs ++ Counted c.Question ∷ ys ++ Uncounted c.Colon ∷ zs)
        (Choice (At at f) (At (token_behind at xs + 1) g) (At (token_behind (token_behind at xs + 1) ys + 1) h))
    only : {at k : ℕ} {xs : List Symbol} {f : Form} → IsBinary k at xs f → IsConditional at xs f

  -- of the level of its loosest mark: to the left of one stands what binds as tightly, to the right what binds more tightly
  pub data IsBinary : ℕ → ℕ → List Symbol → Form → Type 0 where
    single : {at : ℕ} {xs : List Symbol} {f : Form} → IsUnary at xs f → IsBinary 14 at xs f
    both : {at k l : ℕ} {xs ys : List Symbol} {f g : Form} → IsBinary k at xs f → (m : Class) → IsBinary l (token_behind at xs + 1) ys g →
        0 < level m → level m ≤ k → level m < l
        → IsBinary (level m) at (xs ++ Counted m ∷ ys) (Binary (token_behind at xs) (At at f) (At (token_behind at xs + 1) g))

  -- unary = ( "+" | "-" | "!" | "~" ) unary | ( "++" | "--" ) target | "(" ( number-type | "void" ) ")" unary | postfix
  -- postfix = target [ "++" | "--" ] | name "(" [ argument { "," argument } ] ")" | number | character | "(" expression ")"
  pub data IsUnary : ℕ → List Symbol → Form → Type 0 where
    prefixed : {at : ℕ} {xs : List Symbol} {f : Form} {m : Class} → is_prefix m ≡ true → IsUnary (at + 1) xs f →
        IsUnary at (Counted m ∷ xs) (Prefix at (At (at + 1) f))
    step_to : {at : ℕ} {xs : List Symbol} {f : Form} → IsTarget (at + 1) xs f → IsUnary at (Counted c.Step ∷ xs) (Prefix at (At (at + 1) f))
    cast_to : {at : ℕ} {xs ys : List Symbol} {f : Form} → IsType xs → IsUnary (token_behind (at + 1) xs + 1) ys f
        → IsUnary at (Counted c.Open ∷ xs ++ Uncounted c.Close ∷ ys) (CastTo (numbers_of (at + 1) xs) (At (token_behind (at + 1) xs + 1) f))
    cast_void : {at : ℕ} {xs : List Symbol} {f : Form} → IsUnary (at + 1 + 1 + 1) xs f →
        IsUnary at (Counted c.Open ∷ Uncounted c.Void ∷ Uncounted c.Close ∷ xs) (CastVoid (At (at + 1 + 1 + 1) f))
    place : {at : ℕ} {xs : List Symbol} {f : Form} → IsTarget at xs f → IsUnary at xs f
    step_after : {at : ℕ} {xs : List Symbol} {f : Form} → IsTarget at xs f → IsUnary at (xs ++ Counted c.Step ∷ []) (Suffix (token_behind at xs) (At at f))
    call_none : {at : ℕ} → IsUnary at (Uncounted c.Name ∷ Counted c.Open ∷ Uncounted c.Close ∷ []) (Call at NoTerm)
    call : {at : ℕ} {xs : List Symbol} {ts : Terms} → AreArguments (at + 1 + 1) xs ts →
        IsUnary at (Uncounted c.Name ∷ Counted c.Open ∷ xs ++ Uncounted c.Close ∷ []) (Call at ts)
    number : {at : ℕ} → IsUnary at (Uncounted c.Number ∷ []) (Constant at)
    character : {at : ℕ} → IsUnary at (Uncounted c.Character ∷ []) (Constant at)
    -- the brackets are not written; those round a target are a target's
    within : {at : ℕ} {xs : List Symbol} {f : Form} → is_target f ≡ false → IsExpression (at + 1) xs f →
        IsUnary at (Counted c.Open ∷ xs ++ Uncounted c.Close ∷ []) f

  -- target = name | name "[" expression "]" | "(" target ")"
  pub data IsTarget : ℕ → List Symbol → Form → Type 0 where
    variable : {at : ℕ} → IsTarget at (Uncounted c.Name ∷ []) (Variable at)
    cell : {at : ℕ} {xs : List Symbol} {f : Form} → IsExpression (at + 1 + 1) xs f
        → IsTarget at (Uncounted c.Name ∷ Counted c.OpenIndex ∷ xs ++ Uncounted c.CloseIndex ∷ []) (Cell at (At (at + 1 + 1) f))
    round : {at : ℕ} {xs : List Symbol} {f : Form} → IsTarget (at + 1) xs f → IsTarget at (Counted c.Open ∷ xs ++ Uncounted c.Close ∷ []) f

  pub data AreArguments : ℕ → List Symbol → Terms → Type 0 where
    last_argument : {at : ℕ} {xs : List Symbol} {f : Form} → IsArgument at xs f → AreArguments at xs (Then (At at f) NoTerm)
    then_argument : {at : ℕ} {xs ys : List Symbol} {f : Form} {ts : Terms} → IsArgument at xs f → AreArguments (token_behind at xs + 1) ys ts
        → AreArguments at (xs ++ Uncounted c.Comma ∷ ys) (Then (At at f) ts)

  -- argument = assignment | text { text }
  pub data IsArgument : ℕ → List Symbol → Form → Type 0 where
    given : {at : ℕ} {xs : List Symbol} {f : Form} → IsAssignment at xs f → IsArgument at xs f
    texts : {at : ℕ} {xs : List Symbol} → AreTexts xs → IsArgument at xs (Texts (numbers_of at xs))
