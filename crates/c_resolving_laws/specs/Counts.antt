-- The counted tokens of an expression as it is printed, by what is written: each operator, the brackets that the levels of
-- the grammar ask for, the bracket of an index and of a call, and `?`.
use Rattle.std.specs.Prelude.{ℕ, ◌+◌, ◌≤◌, List, IfSome}
use Rattle.c_lexer.specs.Marks.{mark_of}
use Rattle.c_tree.specs.TextExpressions.{binary_level}
use Rattle.c_grammar.specs.Terms.{Term, Form, Terms, At, Cell, Prefix, Suffix, CastTo, CastVoid, Binary, Choice, Assign, Commas, Call, NoTerm, Then}
use Rattle.c_grammar.specs.Items.{Initialiser, NoValue, OneValue, ValueList, Declarator, Declaration, Label, Case, Start, NoStart, StartValue, StartNames, Item, Declares, States, Plain, From, Statement, Evaluate, If, IfElse, While, DoWhile, For, Switch, Block, Return, Body, Braces, Lone, Items, NoItem}
use Rattle.c_grammar.specs.Items as items
use Rattle.c_kinds.specs.Marks.{binary_op}
use Rattle.c_resolved_defs.specs.Within.{Each}
use Rattle.c_resolved_defs.specs.PrintableExpressions.{bracket_count}

module _ (word : ℕ → List ℕ) where
  -- the level of an expression, 14 for what takes no brackets
  abbrev mutual
    pub term_level : Term → ℕ
    term_level (At first form) = form_level form

    pub form_level : Form → ℕ
    form_level (Binary m a b) = binary_level (binary_op (mark_of (word m)))
    form_level (Choice a b c) = 3
    form_level (Assign m t a) = 2
    form_level (Commas a NoTerm) = term_level a
    form_level (Commas a (Then b bs)) = 1
    form_level _ = 14

  abbrev mutual
    pub term_counted : Term → ℕ
    term_counted (At first form) = form_counted form

    pub form_counted : Form → ℕ
    form_counted (Cell at i) = 1 + term_counted i
    form_counted (Prefix m a) = term_counted a + bracket_count (term_level a) 14 + 1
    form_counted (Suffix m a) = term_counted a + 1
    form_counted (CastTo words a) = term_counted a + bracket_count (term_level a) 14 + 1
    form_counted (CastVoid a) = term_counted a + bracket_count (term_level a) 14 + 1
    form_counted (Binary m a b) =
        let level = binary_level (binary_op (mark_of (word m))) in
        term_counted a + bracket_count (term_level a) level + 1 + (term_counted b + bracket_count (term_level b) (level + 1))
    form_counted (Choice a b c) = term_counted a + bracket_count (term_level a) 4 + 1 + term_counted b + (term_counted c + bracket_count (term_level c) 3)
    form_counted (Assign m t a) = term_counted t + 1 + (term_counted a + bracket_count (term_level a) 2)
    form_counted (Commas a bs) = commas_counted (term_counted a) bs
    form_counted (Call at xs) = 1 + all_counted xs
    form_counted _ = 0

    -- behind so many
    pub commas_counted : ℕ → Terms → ℕ
    commas_counted n NoTerm = n
    commas_counted n (Then b bs) = commas_counted (n + 1 + (term_counted b + bracket_count (term_level b) 2)) bs

    -- of arguments
    pub all_counted : Terms → ℕ
    all_counted NoTerm = 0
    all_counted (Then x xs) = term_counted x + bracket_count (term_level x) 2 + all_counted xs

-- ---- full expressions, of which each counts at most so many

module _ (word : ℕ → List ℕ) (most : ℕ) where
  -- where the grammar needs a level
  abbrev pub IsFew : ℕ → Term → Type 0
  IsFew need t = term_counted word t + bracket_count (term_level word t) need ≤ most

  abbrev pub IsFewInitialiser : Initialiser → Type 0
  IsFewInitialiser NoValue = Unit {0}
  IsFewInitialiser (OneValue t) = IsFew 2 t
  IsFewInitialiser (ValueList ts) = Each (IsFew 2) ts

  abbrev pub IsFewDeclarator : Declarator → Type 0
  IsFewDeclarator d = IsFewInitialiser d.value

  abbrev pub IsFewDeclaration : Declaration → Type 0
  IsFewDeclaration d = Each IsFewDeclarator d.names

  abbrev pub IsFewLabel : Label → Type 0
  IsFewLabel (Case first after t) = IsFew 3 t
  IsFewLabel _ = Unit {0}

  abbrev pub IsFewStart : Start → Type 0
  IsFewStart NoStart = Unit {0}
  IsFewStart (StartValue t) = IsFew 1 t
  IsFewStart (StartNames d) = IsFewDeclaration d

  abbrev mutual
    pub IsFewItem : Item → Type 0
    IsFewItem (Declares first after d) = IsFewDeclaration d
    IsFewItem (States ls p) = Each IsFewLabel ls × IsFewPlain p

    pub IsFewPlain : Plain → Type 0
    IsFewPlain (From first after s) = IsFewStatement s

    pub IsFewStatement : Statement → Type 0
    IsFewStatement (Evaluate t) = IsFew 1 t
    IsFewStatement (If t b) = IsFew 1 t × IsFewBody b
    IsFewStatement (IfElse t b c) = IsFew 1 t × IsFewBody b × IsFewBody c
    IsFewStatement (While t b) = IsFew 1 t × IsFewBody b
    IsFewStatement (DoWhile b t) = IsFewBody b × IsFew 1 t
    IsFewStatement (For start t u b) = IsFewStart start × IfSome t (IsFew 1) × IfSome u (IsFew 1) × IsFewBody b
    IsFewStatement (Switch t b) = IsFew 1 t × IsFewBody b
    IsFewStatement (Block b) = IsFewBody b
    IsFewStatement (Return t) = IfSome t (IsFew 1)
    IsFewStatement _ = Unit {0}

    pub IsFewBody : Body → Type 0
    IsFewBody (Braces first after xs) = AreFewItems xs
    IsFewBody (Lone first after x) = IsFewItem x

    pub AreFewItems : Items → Type 0
    AreFewItems NoItem = Unit {0}
    AreFewItems (items.Then x xs) = IsFewItem x × AreFewItems xs
