-- The words of a text are keywords where a derivation of it has them.
use Rattle.std.proofs.Common.{◌+◌, ℕ, List, [], ◌∷◌, Option, Some, None, refl}
use Rattle.c_grammar.specs.declared.class.Class.{Class}
use Rattle.c_grammar.specs.declared.class.Class.TheVariants as c
use Rattle.c_grammar.specs.ExpressionSyntax.{expression_end}
use Rattle.c_grammar.specs.Statements.{Block, Label, NameLabel, CaseLabel, DefaultLabel, Braces, Items, NoItems, LocalItem, StatementItem, Statement, Labelled, Unlabelled, Plain, Compound, Simple, If, IfElse, While, DoWhile, For, Switch, Goto, Break, Continue, Return, label_tokens, items_tokens, statement_tokens, plain_tokens}
use Rattle.c_grammar.specs.StatementSyntax.{word_end, local_end, label_end, for_start_end, optional_end, statement_end}
use Rattle.c_grammar.specs.Files.{Function, Defined, Top, Line, OfEnum, OfDeclaration, OfFunction, body_tokens, function_tokens, top_tokens, file_tokens}
use Rattle.c_grammar.specs.FileSyntax.{parameters_end, result_end, top_end}
use Rattle.reread_parts_laws.specs.Keywords.{LabelHasKeyword, ItemsHaveKeywords, HasKeywords, PlainHasKeywords, BodyHasKeywords, FunctionHasKeywords}
use Rattle.reread_parts_laws.specs.WrittenFiles.{TopHasKeywords, FileHasKeywords}
use Rattle.c_source_laws.specs.Classed.{IsClassed}
use Rattle.c_source_laws.proofs.Classes.{name_foreign, keyword_there, semicolon_foreign}
use Rattle.c_source_laws.proofs.Numbered.{Along}
use Rattle.c_source_laws.proofs.Past.{expression_past, word_past, optional_past, local_past, label_past, start_past, statement_past, parameters_past, result_past, top_past}

module _ (word : ℕ → List ℕ) where
  abbrev Stands : ℕ → List Class → Type 0
  Stands at r = Along IsClassed word at r

  label_keyword : (x : Label) (at : ℕ) (r : List Class) → Stands at (label_tokens x r) → LabelHasKeyword word at x
  label_keyword NameLabel at r s = name_foreign (word at) (s.0)
  label_keyword (CaseLabel d) at r s = tt
  label_keyword DefaultLabel at r s = keyword_there c.Default (word at) refl (s.0)

  mutual
    items_keywords : (xs : Items) (at : ℕ) (r : List Class) → Stands at (items_tokens xs r) → ItemsHaveKeywords word at xs
    items_keywords NoItems at r s = tt
    items_keywords (LocalItem x xs) at r s = items_keywords xs (local_end at x) r (local_past IsClassed word x at _ s)
    items_keywords (StatementItem t xs) at r s = (
      statement_keywords t at _ s,
      items_keywords xs (statement_end at t) r
          (statement_past IsClassed word t at _ s),
    )

    statement_keywords : (t : Statement) (at : ℕ) (r : List Class) → Stands at (statement_tokens t r) → HasKeywords word at t
    statement_keywords (Labelled x t) at r s = (label_keyword x at _ s, statement_keywords t (label_end at x) r (label_past IsClassed word x at _ s))
    statement_keywords (Unlabelled x) at r s = plain_keywords x at r s

    plain_keywords : (x : Plain) (at : ℕ) (r : List Class) → Stands at (plain_tokens x r) → PlainHasKeywords word at x
    plain_keywords (Compound (Braces xs)) at r s = items_keywords xs (at + 1) _ (s.1)
    plain_keywords (Simple None) at r s = semicolon_foreign (word at) (s.0)
    plain_keywords (Simple (Some e)) at r s = tt
    plain_keywords (If e t) at r s = (
      keyword_there c.If (word at) refl (s.0),
      statement_keywords t (expression_end (at + 1 + 1) e + 1) r (expression_past IsClassed word e (at + 1 + 1) _ ((s.1).1)).1,
    )
    plain_keywords (IfElse e t u) at r s =
        let x = expression_end (at + 1 + 1) e + 1 in
        let a = (expression_past IsClassed word e (at + 1 + 1) _ ((s.1).1)).1 in (
          keyword_there c.If (word at) refl (s.0),
          statement_keywords t x _ a,
          statement_keywords u (statement_end x t + 1) r (statement_past IsClassed word t x _ a).1,
        )
    plain_keywords (While e t) at r s = (
      keyword_there c.While (word at) refl (s.0),
      statement_keywords t (expression_end (at + 1 + 1) e + 1) r (expression_past IsClassed word e (at + 1 + 1) _ ((s.1).1)).1,
    )
    plain_keywords (DoWhile t e) at r s = (keyword_there c.Do (word at) refl (s.0), statement_keywords t (at + 1) _ (s.1))
    plain_keywords (For f t u b) at r s =
        let x = for_start_end (at + 1 + 1) f in
        let y = optional_end x t + 1 in
        let a = start_past IsClassed word f (at + 1 + 1) _ ((s.1).1) in
        let b0 = (optional_past IsClassed word t x _ a).1 in
        (keyword_there c.For (word at) refl (s.0), statement_keywords b (optional_end y u + 1) r (optional_past IsClassed word u y _ b0).1)
    plain_keywords (Switch e t) at r s = (
      keyword_there c.Switch (word at) refl (s.0),
      statement_keywords t (expression_end (at + 1 + 1) e + 1) r
          (expression_past IsClassed word e (at + 1 + 1) _ ((s.1).1)).1,
    )
    plain_keywords Goto at r s = keyword_there c.Goto (word at) refl (s.0)
    plain_keywords Break at r s = keyword_there c.Break (word at) refl (s.0)
    plain_keywords Continue at r s = keyword_there c.Continue (word at) refl (s.0)
    plain_keywords (Return o) at r s = keyword_there c.Return (word at) refl (s.0)

  -- ---- files

  body_keywords : (b : Option Block) (at : ℕ) (r : List Class) → Stands at (body_tokens b r) → BodyHasKeywords word at b
  body_keywords None at r s = tt
  body_keywords (Some (Braces xs)) at r s = items_keywords xs (at + 1) _ (s.1)

  function_keywords : (x : Function) (at : ℕ) (r : List Class) → Stands at (function_tokens x r) → FunctionHasKeywords word at x
  function_keywords (Defined static n xs b) at r s =
      let w = word_end at static in
      let x = result_end w n in
      let y = parameters_end (x + 1 + 1) xs in
      let i = ((result_past IsClassed word n w _ (word_past IsClassed word static c.Static at _ s)).1).1 in
      body_keywords b (y + 1) r (parameters_past IsClassed word xs (x + 1 + 1) _ i).1

  top_keywords : (x : Top) (at : ℕ) (r : List Class) → Stands at (top_tokens x r) → TopHasKeywords word at x
  top_keywords Line at r s = tt
  top_keywords (OfEnum x) at r s = tt
  top_keywords (OfDeclaration x) at r s = tt
  top_keywords (OfFunction x) at r s = function_keywords x at r s

  pub file_keywords : (xs : List Top) (at : ℕ) (r : List Class) → Stands at (file_tokens xs r) → FileHasKeywords word at xs
  file_keywords [] at r s = tt
  file_keywords (x ∷ xs) at r s = (top_keywords x at _ s, file_keywords xs (top_end at x) r (top_past IsClassed word x at _ s))
