-- Which symbols derive local declarations and statements (ISO/IEC 9899:2011, 6.7 and 6.8), and what they write from the number
-- of their first token on.
use Rattle.std.specs.Prelude.{◌+◌, ℕ, Bool, true, false, List, [], ◌∷◌, ◌++◌, Option, Some, None}
use Rattle.c_grammar.specs.declared.class.Class.{Class}
use Rattle.c_grammar.specs.declared.class.Class.TheVariants as c
use Rattle.c_grammar.specs.Terms.{Term, Form, At}
use Rattle.c_grammar.specs.Items as s
use Rattle.c_reading_defs.specs.Symbols.{Symbol, Uncounted, Outside, OpensLevel, EndsLevel, token_behind, numbers_of}
use Rattle.c_reading_defs.specs.DerivedTerms.{IsType, IsExpression, IsAssignment, IsConditional}

-- a token that may be left out, and whether it is there
pub data MayBe (k : Class) : List Symbol → Bool → Type 0 where
  no : MayBe k [] false
  yes : MayBe k (Outside k ∷ []) true

-- { "," .. }
pub data AreMore {W : Type 0} (Is : ℕ → List Symbol → W → Type 0) : ℕ → List Symbol → List W → Type 0 where
  none : {at : ℕ} → AreMore Is at [] []
  more : {at : ℕ} {xs ys : List Symbol} {w : W} {ws : List W} → Is (at + 1) xs w → AreMore Is (token_behind (at + 1) xs) ys ws →
      AreMore Is at (Outside c.Comma ∷ xs ++ ys) (w ∷ ws)

-- .. { "," .. }
pub data AreEach {W : Type 0} (Is : ℕ → List Symbol → W → Type 0) : ℕ → List Symbol → List W → Type 0 where
  each : {at : ℕ} {xs ys : List Symbol} {w : W} {ws : List W} → Is at xs w → AreMore Is (token_behind at xs) ys ws → AreEach Is at (xs ++ ys) (w ∷ ws)

-- ---- declarations

-- [ "[" [ conditional ] "]" ]
pub data IsSize : ℕ → List Symbol → s.Size → Type 0 where
  no_size : {at : ℕ} → IsSize at [] s.NoSize
  unsized : {at : ℕ} → IsSize at (Outside c.OpenIndex ∷ Outside c.CloseIndex ∷ []) s.Unsized
  sized : {at : ℕ} {xs : List Symbol} {f : Form} → IsConditional (at + 1) xs f →
      IsSize at (Outside c.OpenIndex ∷ xs ++ Outside c.CloseIndex ∷ []) (s.Sized (At (at + 1) f))

pub data IsValue : ℕ → List Symbol → Term → Type 0 where
  value : {at : ℕ} {xs : List Symbol} {f : Form} → IsAssignment at xs f → IsValue at xs (At at f)

-- initialiser = assignment | "{" assignment { "," assignment } [ "," ] "}"
pub data IsInitialiser : ℕ → List Symbol → s.Initialiser → Type 0 where
  one : {at : ℕ} {xs : List Symbol} {t : Term} → IsValue at xs t → IsInitialiser at xs (s.OneValue t)
  list : {at : ℕ} {xs ys : List Symbol} {ts : List Term} {trailing : Bool} → AreEach IsValue (at + 1) xs ts → MayBe c.Comma ys trailing
      → IsInitialiser at (Outside c.OpenBlock ∷ xs ++ ys ++ Outside c.CloseBlock ∷ []) (s.ValueList ts)

-- [ "=" initialiser ]
pub data IsGiven : ℕ → List Symbol → s.Initialiser → Type 0 where
  not_given : {at : ℕ} → IsGiven at [] s.NoValue
  given : {at : ℕ} {xs : List Symbol} {i : s.Initialiser} → IsInitialiser (at + 1) xs i → IsGiven at (Outside c.Equals ∷ xs) i

-- declarator = name [ "[" [ conditional ] "]" ] [ "=" initialiser ]
pub data IsDeclarator : ℕ → List Symbol → s.Declarator → Type 0 where
  declared : {at : ℕ} {xs ys : List Symbol} {z : s.Size} {i : s.Initialiser} → IsSize (at + 1) xs z → IsGiven (token_behind (at + 1) xs) ys i
      → IsDeclarator at (Outside c.Name ∷ xs ++ ys) (record { name = at; size = z; value = i })

-- local = [ "const" ] number-type declarator { "," declarator } ";"
pub data IsDeclaration : ℕ → List Symbol → s.Declaration → Type 0 where
  declares : {at : ℕ} {xs ys zs : List Symbol} {constant : Bool} {ds : List s.Declarator} → MayBe c.Const xs constant → IsType ys →
      AreEach IsDeclarator (token_behind (token_behind at xs) ys) zs ds
      → IsDeclaration at (xs ++ ys ++ zs ++ Outside c.Semicolon ∷ []) (record { constant = constant; words = numbers_of (token_behind at xs) ys; names = ds })

-- ---- statements

-- [ expression ]
pub data IsOptional : ℕ → List Symbol → Option Term → Type 0 where
  nothing : {at : ℕ} → IsOptional at [] None
  some : {at : ℕ} {xs : List Symbol} {f : Form} → IsExpression at xs f → IsOptional at xs (Some (At at f))

-- label = name ":" | "case" conditional ":" | "default" ":"
pub data IsLabel : ℕ → List Symbol → s.Label → Type 0 where
  named : {at : ℕ} → IsLabel at (Uncounted c.Name ∷ Outside c.Colon ∷ []) (s.Named at (at + 1 + 1))
  case : {at : ℕ} {xs : List Symbol} {f : Form} → IsConditional (at + 1) xs f →
      IsLabel at (Outside c.Case ∷ xs ++ Outside c.Colon ∷ []) (s.Case at (token_behind (at + 1) xs + 1) (At (at + 1) f))
  default : {at : ℕ} → IsLabel at (Outside c.Default ∷ Outside c.Colon ∷ []) (s.Default at (at + 1 + 1))

-- the first part of a `for`: local | [ expression ] ";"
pub data IsStart : ℕ → List Symbol → s.Start → Type 0 where
  names : {at : ℕ} {xs : List Symbol} {d : s.Declaration} → IsDeclaration at xs d → IsStart at xs (s.StartNames d)
  no_start : {at : ℕ} → IsStart at (Outside c.Semicolon ∷ []) s.NoStart
  started : {at : ℕ} {xs : List Symbol} {f : Form} → IsExpression at xs f → IsStart at (xs ++ Outside c.Semicolon ∷ []) (s.StartValue (At at f))

-- an expression in brackets, behind a word
pub data IsTested (k : Class) : ℕ → List Symbol → Term → Type 0 where
  tested : {at : ℕ} {xs : List Symbol} {f : Form} → IsExpression (at + 1 + 1) xs f →
      IsTested k at (Outside k ∷ Outside c.Open ∷ xs ++ Outside c.Close ∷ []) (At (at + 1 + 1) f)

-- these, with a level of nesting of their own
abbrev pub nested : List Symbol → List Symbol
nested xs = OpensLevel ∷ xs ++ EndsLevel ∷ []

mutual
  -- block = "{" { local | statement } "}"
  pub data IsBlock : ℕ → List Symbol → s.Body → Type 0 where
    braces : {at : ℕ} {xs : List Symbol} {is : s.Items} → AreItems (at + 1) xs is
        → IsBlock at (nested (Outside c.OpenBlock ∷ xs ++ Outside c.CloseBlock ∷ [])) (s.Braces at (token_behind (at + 1) xs + 1) is)

  pub data AreItems : ℕ → List Symbol → s.Items → Type 0 where
    no_item : {at : ℕ} → AreItems at [] s.NoItem
    local : {at : ℕ} {xs ys : List Symbol} {d : s.Declaration} {is : s.Items} → IsDeclaration at xs d → AreItems (token_behind at xs) ys is
        → AreItems at (xs ++ ys) (s.Then (s.Declares at (token_behind at xs) d) is)
    statement : {at : ℕ} {dangling : Bool} {xs ys : List Symbol} {i : s.Item} {is : s.Items} → IsStatement dangling at xs i →
        AreItems (token_behind at xs) ys is → AreItems at (xs ++ ys) (s.Then i is)

  -- statement = { label } plain; of a dangling one an `else` behind it would be a part
  pub data IsStatement : Bool → ℕ → List Symbol → s.Item → Type 0 where
    block_alone : {at : ℕ} {xs : List Symbol} {b : s.Body} → IsBlock at xs b →
        IsStatement false at xs (s.States [] (s.From at (token_behind at xs) (s.Block b)))
    unlabelled : {at : ℕ} {dangling : Bool} {xs : List Symbol} {p : s.Statement} → IsPlain dangling at xs p →
        IsStatement dangling at xs (s.States [] (s.From at (token_behind at xs) p))
    labelled : {at : ℕ} {dangling : Bool} {xs ys : List Symbol} {l : s.Label} {ls : List s.Label} {p : s.Plain} → IsLabel at xs l →
        IsStatement dangling (token_behind at xs) ys (s.States ls p)
        → IsStatement dangling at (xs ++ ys) (s.States (l ∷ ls) p)

  -- the list of a construct: a block alone is its own list
  pub data IsBody : Bool → ℕ → List Symbol → s.Body → Type 0 where
    block_list : {at : ℕ} {xs : List Symbol} {b : s.Body} → IsBlock at xs b → IsBody false at xs b
    unlabelled_list : {at : ℕ} {dangling : Bool} {xs : List Symbol} {p : s.Statement} → IsPlain dangling at xs p
        → IsBody dangling at (nested xs) (s.Lone at (token_behind at xs) (s.States [] (s.From at (token_behind at xs) p)))
    labelled_list : {at : ℕ} {dangling : Bool} {xs ys : List Symbol} {l : s.Label} {ls : List s.Label} {p : s.Plain} → IsLabel at xs l →
        IsStatement dangling (token_behind at xs) ys (s.States ls p)
        → IsBody dangling at (nested (xs ++ ys)) (s.Lone at (token_behind at (xs ++ ys)) (s.States (l ∷ ls) p))

  -- plain = [ expression ] ";" | "if" "(" expression ")" statement [ "else" statement ] | "while" "(" expression ")" statement
  --       | "do" statement "while" "(" expression ")" ";" | "for" "(" ( local | [ expression ] ";" ) [ expression ] ";" [ expression ] ")" statement
  --       | "switch" "(" expression ")" statement | "goto" name ";" | "break" ";" | "continue" ";" | "return" [ expression ] ";"
  pub data IsPlain : Bool → ℕ → List Symbol → s.Statement → Type 0 where
    null : {at : ℕ} → IsPlain false at (Outside c.Semicolon ∷ []) s.Null
    evaluate : {at : ℕ} {xs : List Symbol} {f : Form} → IsExpression at xs f → IsPlain false at (xs ++ Outside c.Semicolon ∷ []) (s.Evaluate (At at f))
    if_alone : {at : ℕ} {dangling : Bool} {xs ys : List Symbol} {t : Term} {b : s.Body} → IsTested c.If at xs t →
        IsBody dangling (token_behind at xs) ys b → IsPlain true at (xs ++ ys) (s.If t b)
    -- the `else` belongs to the nearest `if`
    if_else : {at : ℕ} {dangling : Bool} {xs ys zs : List Symbol} {t : Term} {b d : s.Body} → IsTested c.If at xs t →
        IsBody false (token_behind at xs) ys b → IsBody dangling (token_behind (token_behind at xs) ys + 1) zs d
        → IsPlain dangling at (xs ++ ys ++ Outside c.Else ∷ zs) (s.IfElse t b d)
    while : {at : ℕ} {dangling : Bool} {xs ys : List Symbol} {t : Term} {b : s.Body} → IsTested c.While at xs t →
        IsBody dangling (token_behind at xs) ys b → IsPlain dangling at (xs ++ ys) (s.While t b)
    do_while : {at : ℕ} {dangling : Bool} {xs ys : List Symbol} {t : Term} {b : s.Body} → IsBody dangling (at + 1) xs b →
        IsTested c.While (token_behind (at + 1) xs) ys t
        → IsPlain false at (Outside c.Do ∷ xs ++ ys ++ Outside c.Semicolon ∷ []) (s.DoWhile b t)
    for : {at : ℕ} {dangling : Bool} {xs ys zs ws : List Symbol} {i : s.Start} {t u : Option Term} {b : s.Body} → IsStart (at + 1 + 1) xs i →
        IsOptional (token_behind (at + 1 + 1) xs) ys t
        → IsOptional (token_behind (token_behind (at + 1 + 1) xs) ys + 1) zs u →
        IsBody dangling (token_behind (token_behind (token_behind (at + 1 + 1) xs) ys + 1) zs + 1) ws b
        → IsPlain dangling at (Outside c.For ∷ Outside c.Open ∷ xs ++ ys ++ Outside c.Semicolon ∷ zs ++ Outside c.Close ∷ ws) (s.For i t u b)
    switch : {at : ℕ} {dangling : Bool} {xs ys : List Symbol} {t : Term} {b : s.Body} → IsTested c.Switch at xs t →
        IsBody dangling (token_behind at xs) ys b → IsPlain dangling at (xs ++ ys) (s.Switch t b)
    goto : {at : ℕ} → IsPlain false at (Outside c.Goto ∷ Outside c.Name ∷ Outside c.Semicolon ∷ []) (s.Goto (at + 1))
    break : {at : ℕ} → IsPlain false at (Outside c.Break ∷ Outside c.Semicolon ∷ []) s.Break
    continue : {at : ℕ} → IsPlain false at (Outside c.Continue ∷ Outside c.Semicolon ∷ []) s.Continue
    return : {at : ℕ} {xs : List Symbol} {t : Option Term} → IsOptional (at + 1) xs t →
        IsPlain false at (Outside c.Return ∷ xs ++ Outside c.Semicolon ∷ []) (s.Return t)
