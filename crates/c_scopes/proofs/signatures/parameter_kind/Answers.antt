use Rattle.std.proofs.Common.{ℕ, List, [], Option, Some, None, Bor, ap, sym, ◌∙◌}
use Rattle.c_grammar.specs.declared.syntax.Syntax.{Syntax}
use Rattle.c_grammar.specs.TopViews.{words_in}
use Rattle.c_grammar.specs.Views.{words_of}
use Rattle.c_grammar.specs.Words.{kind_of}
use Rattle.c_scopes.proofs.signatures.parameter_kind.Goals as goal

abbrev words-in : (ℕ → List ℕ) → Option (Bor Syntax) → List ℕ
words-in word k = elim k [ Some x ↦ words_in word x.now | None ↦ [] ]

pub returns-in-Some : goal.returns-in-Some
returns-in-Some c = c.kind_of.ensures ∙ ap (λ k. kind_of (words_of c.args.words.now) (words-in (words_of c.args.words.now) k)) (sym c.in-Some.is)
