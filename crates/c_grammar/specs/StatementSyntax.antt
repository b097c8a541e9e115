-- The syntax of the derivations of local declarations and statements.
use Rattle.std.specs.Prelude.{◌+◌, ℕ, Bool, true, false, List, [], ◌∷◌, ◌++◌, Option, Some, None}
use Rattle.c_grammar.specs.declared.syntax.Syntax.{Syntax}
use Rattle.c_grammar.specs.declared.syntax.Production.TheVariants as p
use Rattle.c_grammar.specs.Nodes.{node, leaf}
use Rattle.c_grammar.specs.Expressions.{Expression}
use Rattle.c_grammar.specs.ExpressionSyntax.{type_end, expression_end, assignment_end, conditional_end, type_node, expression_node, assignment_node, conditional_node}
use Rattle.c_grammar.specs.Statements.{Size, NoSize, Unsized, Sized, Initialiser, OneValue, ValueList, Declarator, Declared, Local, Locals, Label, NameLabel, CaseLabel, DefaultLabel, ForStart, StartLocal, StartValue, Block, Braces, Items, NoItems, LocalItem, StatementItem, Statement, Labelled, Unlabelled, Plain, Compound, Simple, If, IfElse, While, DoWhile, For, Switch, Goto, Break, Continue, Return}

-- ---- the number of the token behind a derivation that begins with this one

abbrev pub word_end : ℕ → Bool → ℕ
word_end at false = at
word_end at true = at + 1

abbrev pub more_end : {X : Type 0} → (ℕ → X → ℕ) → ℕ → List X → ℕ
more_end z at [] = at
more_end z at (x ∷ xs) = more_end z (z (at + 1) x) xs

abbrev pub rest_end : {X : Type 0} → (ℕ → X → ℕ) → ℕ → List X → Bool → ℕ
rest_end z at [] trailing = word_end at trailing + 1
rest_end z at (x ∷ xs) trailing = rest_end z (z (at + 1) x) xs trailing

abbrev pub optional_end : ℕ → Option Expression → ℕ
optional_end at None = at
optional_end at (Some e) = expression_end at e

abbrev pub size_end : ℕ → Size → ℕ
size_end at NoSize = at
size_end at Unsized = at + 1 + 1
size_end at (Sized d) = conditional_end (at + 1) d + 1

abbrev pub initialiser_end : ℕ → Initialiser → ℕ
initialiser_end at (OneValue a) = assignment_end at a
initialiser_end at (ValueList a xs trailing) = rest_end assignment_end (assignment_end (at + 1) a) xs trailing

abbrev pub value_end : ℕ → Option Initialiser → ℕ
value_end at None = at
value_end at (Some i) = initialiser_end (at + 1) i

abbrev pub declarator_end : ℕ → Declarator → ℕ
declarator_end at (Declared size value) = value_end (size_end (at + 1) size) value

abbrev pub local_end : ℕ → Local → ℕ
local_end at (Locals constant n d ds) = more_end declarator_end (declarator_end (type_end (word_end at constant) n) d) ds + 1

abbrev pub label_end : ℕ → Label → ℕ
label_end at NameLabel = at + 1 + 1
label_end at (CaseLabel d) = conditional_end (at + 1) d + 1
label_end at DefaultLabel = at + 1 + 1

abbrev pub for_start_end : ℕ → ForStart → ℕ
for_start_end at (StartLocal x) = local_end at x
for_start_end at (StartValue o) = optional_end at o + 1

abbrev mutual
  pub block_end : ℕ → Block → ℕ
  block_end at (Braces xs) = items_end (at + 1) xs + 1

  pub items_end : ℕ → Items → ℕ
  items_end at NoItems = at
  items_end at (LocalItem x xs) = items_end (local_end at x) xs
  items_end at (StatementItem s xs) = items_end (statement_end at s) xs

  pub statement_end : ℕ → Statement → ℕ
  statement_end at (Labelled x s) = statement_end (label_end at x) s
  statement_end at (Unlabelled x) = plain_end at x

  pub plain_end : ℕ → Plain → ℕ
  plain_end at (Compound b) = block_end at b
  plain_end at (Simple o) = optional_end at o + 1
  plain_end at (If e s) = statement_end (expression_end (at + 1 + 1) e + 1) s
  plain_end at (IfElse e s t) = statement_end (statement_end (expression_end (at + 1 + 1) e + 1) s + 1) t
  plain_end at (While e s) = statement_end (expression_end (at + 1 + 1) e + 1) s
  plain_end at (DoWhile s e) = expression_end (statement_end (at + 1) s + 1 + 1) e + 1 + 1
  plain_end at (For x t u s) = statement_end (optional_end (optional_end (for_start_end (at + 1 + 1) x) t + 1) u + 1) s
  plain_end at (Switch e s) = statement_end (expression_end (at + 1 + 1) e + 1) s
  plain_end at Goto = at + 1 + 1 + 1
  plain_end at Break = at + 1 + 1
  plain_end at Continue = at + 1 + 1
  plain_end at (Return o) = optional_end (at + 1) o + 1

-- ---- the nodes

abbrev pub word_parts : ℕ → Bool → List Syntax
word_parts at false = []
word_parts at true = leaf at ∷ []

abbrev pub more_parts : {X : Type 0} → (ℕ → X → ℕ) → (ℕ → X → Syntax) → ℕ → List X → List Syntax
more_parts z q at [] = []
more_parts z q at (x ∷ xs) = leaf at ∷ q (at + 1) x ∷ more_parts z q (z (at + 1) x) xs

abbrev pub rest_parts : {X : Type 0} → (ℕ → X → ℕ) → (ℕ → X → Syntax) → ℕ → List X → Bool → List Syntax
rest_parts z q at [] trailing = word_parts at trailing ++ leaf (word_end at trailing) ∷ []
rest_parts z q at (x ∷ xs) trailing = leaf at ∷ q (at + 1) x ∷ rest_parts z q (z (at + 1) x) xs trailing

abbrev pub optional_parts : ℕ → Option Expression → List Syntax
optional_parts at None = []
optional_parts at (Some e) = expression_node at e ∷ []

abbrev pub size_parts : ℕ → Size → List Syntax
size_parts at NoSize = []
size_parts at Unsized = leaf at ∷ leaf (at + 1) ∷ []
size_parts at (Sized d) = leaf at ∷ conditional_node (at + 1) d ∷ leaf (conditional_end (at + 1) d) ∷ []

abbrev pub initialiser_parts : ℕ → Initialiser → List Syntax
initialiser_parts at (OneValue a) = assignment_node at a ∷ []
initialiser_parts at (ValueList a xs trailing) = leaf at ∷ assignment_node (at + 1) a ∷ rest_parts assignment_end assignment_node
    (assignment_end (at + 1) a) xs trailing

abbrev pub initialiser_node : ℕ → Initialiser → Syntax
initialiser_node at i = node p.Initialiser at (initialiser_end at i) (initialiser_parts at i)

abbrev pub value_parts : ℕ → Option Initialiser → List Syntax
value_parts at None = []
value_parts at (Some i) = leaf at ∷ initialiser_node (at + 1) i ∷ []

abbrev pub declarator_node : ℕ → Declarator → Syntax
declarator_node at (Declared size value) =
    let x = size_end (at + 1) size in
    node p.Declarator at (value_end x value) (leaf at ∷ size_parts (at + 1) size ++ value_parts x value)

abbrev pub local_node : ℕ → Local → Syntax
local_node at (Locals constant n d ds) =
    let x = word_end at constant in
    let y = type_end x n in
    let z = more_end declarator_end (declarator_end y d) ds in
    node p.Local at (z + 1) (word_parts at constant ++ type_node x n ∷ declarator_node y d ∷ more_parts declarator_end declarator_node
    (declarator_end y d) ds ++ leaf z ∷ [])

abbrev pub label_parts : ℕ → Label → List Syntax
label_parts at NameLabel = leaf at ∷ leaf (at + 1) ∷ []
label_parts at (CaseLabel d) = leaf at ∷ conditional_node (at + 1) d ∷ leaf (conditional_end (at + 1) d) ∷ []
label_parts at DefaultLabel = leaf at ∷ leaf (at + 1) ∷ []

abbrev pub label_node : ℕ → Label → Syntax
label_node at x = node p.Label at (label_end at x) (label_parts at x)

abbrev pub for_start_parts : ℕ → ForStart → List Syntax
for_start_parts at (StartLocal x) = local_node at x ∷ []
for_start_parts at (StartValue o) = optional_parts at o ++ leaf (optional_end at o) ∷ []

abbrev mutual
  pub block_node : ℕ → Block → Syntax
  block_node at (Braces xs) = let x = items_end (at + 1) xs in node p.Block at (x + 1) (leaf at ∷ items_parts (at + 1) xs ++ leaf x ∷ [])

  pub items_parts : ℕ → Items → List Syntax
  items_parts at NoItems = []
  items_parts at (LocalItem x xs) = local_node at x ∷ items_parts (local_end at x) xs
  items_parts at (StatementItem s xs) = node p.Statement at (statement_end at s) (statement_parts at s) ∷ items_parts (statement_end at s) xs

  pub statement_parts : ℕ → Statement → List Syntax
  statement_parts at (Labelled x s) = label_node at x ∷ statement_parts (label_end at x) s
  statement_parts at (Unlabelled x) = node p.Plain at (plain_end at x) (plain_parts at x) ∷ []

  pub plain_parts : ℕ → Plain → List Syntax
  plain_parts at (Compound b) = block_node at b ∷ []
  plain_parts at (Simple o) = optional_parts at o ++ leaf (optional_end at o) ∷ []
  plain_parts at (If e s) = let x = expression_end (at + 1 + 1) e in leaf at ∷ leaf (at + 1) ∷ expression_node (at + 1 + 1) e ∷ leaf x ∷ node
      p.Statement (x + 1) (statement_end (x + 1) s) (statement_parts (x + 1) s) ∷ []
  plain_parts at (IfElse e s t) =
      let x = expression_end (at + 1 + 1) e in
      let y = statement_end (x + 1) s in
      leaf at ∷ leaf (at + 1) ∷ expression_node (at + 1 + 1) e ∷ leaf x ∷ node p.Statement (x + 1) (statement_end (x + 1) s)
      (statement_parts (x + 1) s) ∷ leaf y ∷ node p.Statement (y + 1) (statement_end (y + 1) t) (statement_parts (y + 1) t) ∷ []
  plain_parts at (While e s) = let x = expression_end (at + 1 + 1) e in
      leaf at ∷ leaf (at + 1) ∷ expression_node (at + 1 + 1) e ∷ leaf x ∷ node p.Statement (x + 1) (statement_end (x + 1) s) (statement_parts (x + 1) s) ∷ []
  plain_parts at (DoWhile s e) =
      let x = statement_end (at + 1) s in
      let y = expression_end (x + 1 + 1) e in
      leaf at ∷ node p.Statement (at + 1) (statement_end (at + 1) s) (statement_parts (at + 1) s) ∷ leaf x ∷ leaf (x + 1) ∷ expression_node
      (x + 1 + 1) e ∷ leaf y ∷ leaf (y + 1) ∷ []
  plain_parts at (For f t u s) =
      let x = for_start_end (at + 1 + 1) f in
      let y = optional_end x t in
      let z = optional_end (y + 1) u in
      leaf at ∷ leaf (at + 1) ∷ for_start_parts (at + 1 + 1) f ++ optional_parts x t ++ leaf y ∷ optional_parts (y + 1) u ++
      leaf z ∷ node p.Statement (z + 1) (statement_end (z + 1) s) (statement_parts (z + 1) s) ∷ []
  plain_parts at (Switch e s) = let x = expression_end (at + 1 + 1) e in
      leaf at ∷ leaf (at + 1) ∷ expression_node (at + 1 + 1) e ∷ leaf x ∷ node p.Statement (x + 1) (statement_end (x + 1) s) (statement_parts (x + 1) s) ∷ []
  plain_parts at Goto = leaf at ∷ leaf (at + 1) ∷ leaf (at + 1 + 1) ∷ []
  plain_parts at Break = leaf at ∷ leaf (at + 1) ∷ []
  plain_parts at Continue = leaf at ∷ leaf (at + 1) ∷ []
  plain_parts at (Return o) = leaf at ∷ optional_parts (at + 1) o ++ leaf (optional_end (at + 1) o) ∷ []

abbrev pub statement_node : ℕ → Statement → Syntax
statement_node at s = node p.Statement at (statement_end at s) (statement_parts at s)

abbrev pub plain_node : ℕ → Plain → Syntax
plain_node at x = node p.Plain at (plain_end at x) (plain_parts at x)
