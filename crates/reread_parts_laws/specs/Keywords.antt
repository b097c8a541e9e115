-- The words of a text are keywords where a derivation has them, and none where it has names and `;`.
use Rattle.std.specs.Prelude.{◌≡◌, ℕ, ◌+◌, List, Option, Some, None}
use Rattle.c_grammar.specs.declared.class.Class.TheVariants as c
use Rattle.c_grammar.specs.TokenClasses.{keyword_class}
use Rattle.c_grammar.specs.ExpressionSyntax.{expression_end}
use Rattle.c_grammar.specs.Statements.{Block, Label, NameLabel, CaseLabel, DefaultLabel, Braces, Items, NoItems, LocalItem, StatementItem, Statement, Labelled, Unlabelled, Plain, Compound, Simple, If, IfElse, While, DoWhile, For, Switch, Goto, Break, Continue, Return}
use Rattle.c_grammar.specs.StatementSyntax.{word_end, local_end, label_end, for_start_end, optional_end, statement_end}
use Rattle.c_grammar.specs.Files.{Function, Defined}
use Rattle.c_grammar.specs.FileSyntax.{parameters_end, result_end}

abbrev pub LabelHasKeyword : (ℕ → List ℕ) → ℕ → Label → Type 0
LabelHasKeyword word at NameLabel = keyword_class (word at) ≡ c.Foreign
LabelHasKeyword word at (CaseLabel d) = Unit {0}
LabelHasKeyword word at DefaultLabel = keyword_class (word at) ≡ c.Default

abbrev mutual
  pub ItemsHaveKeywords : (ℕ → List ℕ) → ℕ → Items → Type 0
  ItemsHaveKeywords word at NoItems = Unit {0}
  ItemsHaveKeywords word at (LocalItem x xs) = ItemsHaveKeywords word (local_end at x) xs
  ItemsHaveKeywords word at (StatementItem s xs) = HasKeywords word at s × ItemsHaveKeywords word (statement_end at s) xs

  pub HasKeywords : (ℕ → List ℕ) → ℕ → Statement → Type 0
  HasKeywords word at (Labelled x s) = LabelHasKeyword word at x × HasKeywords word (label_end at x) s
  HasKeywords word at (Unlabelled x) = PlainHasKeywords word at x

  pub PlainHasKeywords : (ℕ → List ℕ) → ℕ → Plain → Type 0
  PlainHasKeywords word at (Compound (Braces xs)) = ItemsHaveKeywords word (at + 1) xs
  PlainHasKeywords word at (Simple None) = keyword_class (word at) ≡ c.Foreign
  PlainHasKeywords word at (Simple (Some e)) = Unit {0}
  PlainHasKeywords word at (If e s) = (keyword_class (word at) ≡ c.If) × HasKeywords word (expression_end (at + 1 + 1) e + 1) s
  PlainHasKeywords word at (IfElse e s t) =
      let x = expression_end (at + 1 + 1) e + 1 in (keyword_class (word at) ≡ c.If) × HasKeywords word x s × HasKeywords word (statement_end x s + 1) t
  PlainHasKeywords word at (While e s) = (keyword_class (word at) ≡ c.While) × HasKeywords word (expression_end (at + 1 + 1) e + 1) s
  PlainHasKeywords word at (DoWhile s e) = (keyword_class (word at) ≡ c.Do) × HasKeywords word (at + 1) s
  PlainHasKeywords word at (For f t u s) =
      (keyword_class (word at) ≡ c.For) × HasKeywords word (optional_end (optional_end (for_start_end (at + 1 + 1) f) t + 1) u + 1) s
  PlainHasKeywords word at (Switch e s) = (keyword_class (word at) ≡ c.Switch) × HasKeywords word (expression_end (at + 1 + 1) e + 1) s
  PlainHasKeywords word at Goto = keyword_class (word at) ≡ c.Goto
  PlainHasKeywords word at Break = keyword_class (word at) ≡ c.Break
  PlainHasKeywords word at Continue = keyword_class (word at) ≡ c.Continue
  PlainHasKeywords word at (Return o) = keyword_class (word at) ≡ c.Return

-- ---- functions

abbrev pub BodyHasKeywords : (ℕ → List ℕ) → ℕ → Option Block → Type 0
BodyHasKeywords word at None = Unit {0}
BodyHasKeywords word at (Some (Braces xs)) = ItemsHaveKeywords word (at + 1) xs

abbrev pub FunctionHasKeywords : (ℕ → List ℕ) → ℕ → Function → Type 0
FunctionHasKeywords word at (Defined static n xs b) = BodyHasKeywords word (parameters_end (result_end (word_end at static) n + 1 + 1) xs + 1) b
