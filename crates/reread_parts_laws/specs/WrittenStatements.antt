-- What the derivations of declarations and statements write (ISO/IEC 9899:2011, 6.7 and 6.8), from the number of the first token on.
use Rattle.std.specs.Prelude.{ℕ, ◌+◌, List, [], ◌∷◌, Option, Some, None}
use Rattle.c_grammar.specs.Expressions.{Expression, Assignment}
use Rattle.c_grammar.specs.ExpressionSyntax.{type_end, expression_end, assignment_end, conditional_end}
use Rattle.c_grammar.specs.Statements.{Size, NoSize, Unsized, Sized, Initialiser, OneValue, ValueList, Declarator, Declared, Local, Locals, Label, NameLabel, CaseLabel, DefaultLabel, ForStart, StartLocal, StartValue, Braces, Items, NoItems, LocalItem, StatementItem, Statement, Labelled, Unlabelled, Plain, Compound, Simple, If, IfElse, While, DoWhile, For, Switch, Goto, Break, Continue, Return}
use Rattle.c_grammar.specs.StatementSyntax.{word_end, size_end, declarator_end, local_end, label_end, for_start_end, optional_end, items_end, statement_end, plain_end}
use Rattle.c_grammar.specs.Terms.{Term, At}
use Rattle.c_grammar.specs.Items as s
use Rattle.c_grammar.specs.Parts.{list_of_item}
use Rattle.reread_parts_laws.specs.WrittenExpressions.{type_words, expression_form, assignment_form, conditional_form}

abbrev pub expression_term : ℕ → Expression → Term
expression_term at e = At at (expression_form at e)

abbrev pub optional_term : ℕ → Option Expression → Option Term
optional_term at None = None
optional_term at (Some e) = Some (expression_term at e)

-- ---- declarations

-- from its bracket on
abbrev pub written_size : ℕ → Size → s.Size
written_size at NoSize = s.NoSize
written_size at Unsized = s.Unsized
written_size at (Sized d) = s.Sized (At (at + 1) (conditional_form (at + 1) d))

-- behind the first of a list, from its comma on
abbrev pub further_terms : ℕ → List Assignment → List Term
further_terms at [] = []
further_terms at (a ∷ xs) = At (at + 1) (assignment_form (at + 1) a) ∷ further_terms (assignment_end (at + 1) a) xs

abbrev pub written_initialiser : ℕ → Initialiser → s.Initialiser
written_initialiser at (OneValue a) = s.OneValue (At at (assignment_form at a))
written_initialiser at (ValueList a xs trailing) = s.ValueList (At (at + 1) (assignment_form (at + 1) a) ∷ further_terms (assignment_end (at + 1) a) xs)

-- from its `=` on
abbrev pub written_value : ℕ → Option Initialiser → s.Initialiser
written_value at None = s.NoValue
written_value at (Some i) = written_initialiser (at + 1) i

abbrev pub written_declarator : ℕ → Declarator → s.Declarator
written_declarator at (Declared size value) = record { name = at; size = written_size (at + 1) size; value = written_value (size_end (at + 1) size) value }

-- from the comma on
abbrev pub further_declarators : ℕ → List Declarator → List s.Declarator
further_declarators at [] = []
further_declarators at (d ∷ ds) = written_declarator (at + 1) d ∷ further_declarators (declarator_end (at + 1) d) ds

abbrev pub written_declaration : ℕ → Local → s.Declaration
written_declaration at (Locals constant n d ds) =
    let x = word_end at constant in
    let y = type_end x n in
    record { constant = constant; words = type_words x n; names = written_declarator y d ∷ further_declarators (declarator_end y d) ds }

-- ---- statements

abbrev pub written_label : ℕ → Label → s.Label
written_label at NameLabel = s.Named at (at + 1 + 1)
written_label at (CaseLabel d) = s.Case at (conditional_end (at + 1) d + 1) (At (at + 1) (conditional_form (at + 1) d))
written_label at DefaultLabel = s.Default at (at + 1 + 1)

abbrev pub written_start : ℕ → ForStart → s.Start
written_start at (StartLocal x) = s.StartNames (written_declaration at x)
written_start at (StartValue None) = s.NoStart
written_start at (StartValue (Some e)) = s.StartValue (expression_term at e)

abbrev pub written_labels : ℕ → Statement → List s.Label
written_labels at (Labelled x t) = written_label at x ∷ written_labels (label_end at x) t
written_labels at (Unlabelled x) = []

abbrev mutual
  pub written_items : ℕ → Items → s.Items
  written_items at NoItems = s.NoItem
  written_items at (LocalItem x xs) = s.Then (s.Declares at (local_end at x) (written_declaration at x)) (written_items (local_end at x) xs)
  written_items at (StatementItem t xs) = s.Then (s.States (written_labels at t) (behind_labels at t)) (written_items (statement_end at t) xs)

  -- a statement behind its labels
  pub behind_labels : ℕ → Statement → s.Plain
  behind_labels at (Labelled x t) = behind_labels (label_end at x) t
  behind_labels at (Unlabelled x) = s.From at (plain_end at x) (written_plain at x)

  pub written_plain : ℕ → Plain → s.Statement
  written_plain at (Compound (Braces xs)) = s.Block (s.Braces at (items_end (at + 1) xs + 1) (written_items (at + 1) xs))
  written_plain at (Simple None) = s.Null
  written_plain at (Simple (Some e)) = s.Evaluate (expression_term at e)
  written_plain at (If e t) = let x = expression_end (at + 1 + 1) e + 1 in
      s.If (expression_term (at + 1 + 1) e) (list_of_item x (statement_end x t) (s.States (written_labels x t) (behind_labels x t)))
  written_plain at (IfElse e t u) =
      let x = expression_end (at + 1 + 1) e + 1 in
      let y = statement_end x t + 1 in
      s.IfElse (expression_term (at + 1 + 1) e) (list_of_item x (statement_end x t) (s.States (written_labels x t) (behind_labels x t)))
      (list_of_item y (statement_end y u) (s.States (written_labels y u) (behind_labels y u)))
  written_plain at (While e t) = let x = expression_end (at + 1 + 1) e + 1 in
      s.While (expression_term (at + 1 + 1) e) (list_of_item x (statement_end x t) (s.States (written_labels x t) (behind_labels x t)))
  written_plain at (DoWhile t e) =
      let x = at + 1 in
      let y = statement_end x t + 1 + 1 in
      s.DoWhile (list_of_item x (statement_end x t) (s.States (written_labels x t) (behind_labels x t))) (expression_term y e)
  written_plain at (For f t u b) =
      let x = for_start_end (at + 1 + 1) f in
      let y = optional_end x t + 1 in
      let z = optional_end y u + 1 in
      s.For (written_start (at + 1 + 1) f) (optional_term x t) (optional_term y u)
      (list_of_item z (statement_end z b) (s.States (written_labels z b) (behind_labels z b)))
  written_plain at (Switch e t) = let x = expression_end (at + 1 + 1) e + 1 in
      s.Switch (expression_term (at + 1 + 1) e) (list_of_item x (statement_end x t) (s.States (written_labels x t) (behind_labels x t)))
  written_plain at Goto = s.Goto (at + 1)
  written_plain at Break = s.Break
  written_plain at Continue = s.Continue
  written_plain at (Return o) = s.Return (optional_term (at + 1) o)

abbrev pub written_statement : ℕ → Statement → s.Item
written_statement at t = s.States (written_labels at t) (behind_labels at t)

-- a statement that is the list of a construct
abbrev pub written_body : ℕ → Statement → s.Body
written_body at t = list_of_item at (statement_end at t) (written_statement at t)

abbrev pub written_block : ℕ → Items → s.Body
written_block at xs = s.Braces at (items_end (at + 1) xs + 1) (written_items (at + 1) xs)
