-- Definitions tried on small values, by computation.
use Rattle.std.proofs.Common.{◌≡◌, ◌≤◌, ℕ, pos, true, false, List, [], ◌∷◌, Some, None, inr, refl, ap, sym, subst, ◌∙◌, ◌+◌, arith}
use Rattle.std.specs.Prelude.{codes}
use Rattle.std.specs.Fmt.{digits}
use Rattle.c_types.specs.declared.kinds.ArithOp.TheVariants.{Add, Sub, Mul}
use Rattle.c_types.specs.declared.kinds.IntKind.TheVariants.{Int}
use Rattle.c_tree.specs.declared.tree.BinaryOp.TheVariants.{Arith, OrElse}
use Rattle.c_tree.specs.declared.tree.UnaryOp.TheVariants.{Minus}
use Rattle.c_tree.specs.declared.tree.Home.TheVariants as h
use Rattle.c_tree.specs.declared.tree.Slot.{Slot}
use Rattle.c_tree.specs.declared.tree.Program.{Program}
use Rattle.c_tree.specs.declared.tree.Top.TheVariants as top
use Rattle.c_tree.specs.ExpressionTrees.{ExpressionTree, NodeTree, Typed, Number, Read, Unary, Binary, Comma, Call, Var, NoArgument, Argument}
use Rattle.c_tree.specs.Trees as t
use Rattle.c_tree.specs.Trees.{trees_of}
use Rattle.c_tree.specs.ExpressionTrees.{expression_tree}
use Rattle.c_tree.specs.declared.tree.Expression.{Expression, roll-Expression}
use Rattle.c_tree.specs.declared.tree.Node.{roll-Node}
use Rattle.c_tree.specs.declared.tree.Node.TheOpen as N
use Rattle.c_tree.specs.declared.tree.Item.{Item}
use Rattle.c_tree.specs.declared.tree.Item as V
use Rattle.c_tree.specs.declared.tree.Function.{Function}
use Rattle.c_tree.proofs.TreeLaws.{tree-Return, trees-none, trees-more}
use Rattle.c_resolved_defs.specs.PrintableStatements.{ItemsPrint, depth}
use Rattle.print_laws.proofs.ExpressionReads.{node_rolls, expression_rolls}
use Rattle.c_tree.specs.TestTrees.{Source}
use Rattle.c_tree.specs.Trees.{Forest, Nil, Then, Sections, NoSection, Section, Evaluate, If, Switch, Local, Break, Note}
use Rattle.c_tree.specs.Text.{text_of}
use Rattle.c_lexer.proofs.IncludeLemmas.{directive_decided}
use Rattle.c_lexer.proofs.CommentEnds.{closed}
use Rattle.c_grammar.specs.declared.class.Class.TheVariants as c
use Rattle.c_grammar.specs.Expressions.{expression_tokens}
use Rattle.c_grammar.specs.Statements.{items_tokens, statement_tokens}
use Rattle.print_laws.specs.ExpressionDerivations.{derivation_of}
use Rattle.c_resolved_defs.specs.PrintableExpressions.{Prints, counted}
use Rattle.c_resolved_defs.specs.PrintableStatements.{depth_of}
use Rattle.c_resolved_defs.specs.PrintablePrograms.{IsPrintable}
use Rattle.print_laws.specs.StatementDerivations.{statement_of, sections_of}
use Rattle.print_laws.specs.Notes.{notes_of}

abbrev int : NodeTree → ExpressionTree
int n = Typed (Some Int) n

abbrev number : ℕ → ExpressionTree
number n = int (Number (pos n))

abbrev slot : List ℕ → Slot
slot name = record { name = name; kind = Int; cells = None; constant = false }

abbrev slots : List Slot
slots = slot (codes "a") ∷ slot (codes "b") ∷ []

abbrev variable : ℕ → ExpressionTree
variable k = int (Read (Var (h.Slot k)))

-- a - (b - 1) - a * b + - -a
abbrev sum : ExpressionTree
sum =
    int (Binary (Arith Add)
    (int (Binary (Arith Sub) (int (Binary (Arith Sub) (variable 0) (int (Binary (Arith Sub) (variable 1) (number 1)))))
    (int (Binary (Arith Mul) (variable 0) (variable 1)))))
    (int (Unary Minus (int (Unary Minus (variable 0))))))

sum_tokens : expression_tokens (derivation_of sum) [] ≡
    c.Name ∷ c.Sign ∷ c.Open ∷ c.Name ∷ c.Sign ∷ c.Number ∷ c.Close ∷ c.Sign ∷ c.Name ∷ c.Product ∷ c.Name ∷ c.Sign ∷ c.Sign ∷ c.Sign ∷ c.Name ∷ []
sum_tokens = refl

-- four marks between, a bracket, a `*` and two signs
sum_counted : counted sum ≡ 8
sum_counted = refl

sum_prints : Prints slots sum
sum_prints = ((((refl, refl), ((refl, refl), omega arith)), ((refl, refl), (refl, refl))), (refl, refl))

-- (a, 1) || f((a, 1), 1)
abbrev pair : ExpressionTree
pair = int (Comma (variable 0) (number 1))

choice_tokens : expression_tokens (derivation_of (int (Binary OrElse pair (int (Call (codes "f") (Argument pair (Argument (number 1) NoArgument))))))) [] ≡
    c.Open ∷ c.Name ∷ c.Comma ∷ c.Number ∷ c.Close ∷ c.OrElse ∷ c.Name ∷ c.Open ∷ c.Open ∷ c.Name ∷ c.Comma ∷ c.Number ∷ c.Close ∷ c.Comma ∷ c.Number ∷
    c.Close ∷ []
choice_tokens = refl

-- if (a) { } else if (b) { break; } else { a; }
abbrev chain : ExpressionTree → Forest
chain x = Then (If (Source x) (Then Break Nil) (Then (Evaluate (variable 0)) Nil)) Nil

chain_tokens : statement_tokens (statement_of slots (If (Source (variable 0)) Nil (chain (variable 1)))) [] ≡
    c.If ∷ c.Open ∷ c.Name ∷ c.Close ∷ c.OpenBlock ∷ c.CloseBlock ∷ c.Else ∷ c.If ∷ c.Open ∷ c.Name ∷ c.Close ∷ c.OpenBlock ∷ c.Break ∷ c.Semicolon ∷
    c.CloseBlock ∷ c.Else ∷ c.OpenBlock ∷ c.Name ∷ c.Semicolon ∷ c.CloseBlock ∷ []
chain_tokens = refl

chain_nested : depth_of (If (Source (variable 0)) Nil (chain (variable 1))) ≡ 2
chain_nested = refl

-- case 0: ; int a; case 1: a; // comment, then `;`, and default: ;
abbrev cases : Sections
cases =
    Section (number 0 ∷ []) false (Then (Local 0 None) Nil) false
    (Section (number 1 ∷ []) false (Then (Evaluate (variable 0)) (Then (Note (codes "//")) Nil)) false
    (Section [] true Nil false NoSection))

cases_tokens : items_tokens (sections_of slots cases) [] ≡
    c.Case ∷ c.Number ∷ c.Colon ∷ c.Semicolon ∷ c.Int ∷ c.Name ∷ c.Semicolon ∷ c.Case ∷ c.Number ∷ c.Colon ∷ c.Name ∷ c.Semicolon ∷ c.Semicolon ∷
    c.Default ∷ c.Colon ∷ c.Semicolon ∷ []
cases_tokens = refl

-- a program prints
abbrev small : Program
small = record {
  tops = top.Include (codes "#include <stdio.h>") ∷ top.Note (codes "/* a */") ∷ top.Global
      (record { slot = record { name = codes "x"; kind = Int; cells = Some 3; constant = true }; init = None; file_only = true }) ∷ [];
}

small_text : text_of small ≡ codes "#include <stdio.h>\n/* a */\nstatic const int x[3];\n"
unfolding digits
small_text = refl

small_prints : IsPrintable small
small_prints = record {
  tops = (
    (refl, record { whole = refl; ended = refl }, (directive_decided (codes "include <stdio.h>")).0 refl),
    ((refl, inr (refl, closed (codes " a */") refl)), (record { named = (refl, refl); length = omega arith; values = tt }, tt)),
  );
}

small_notes : notes_of small ≡ (c.Static ∷ c.Const ∷ c.Int ∷ c.Name ∷ c.OpenIndex ∷ c.Number ∷ c.CloseIndex ∷ c.Semicolon ∷ c.End ∷ [], codes "/* a */") ∷ []
small_notes = refl

-- int main(void) { return 0; }
abbrev nought : Expression
nought = roll-Expression (record { kind = Some Int; node = roll-Node (N.Number (pos 0)) })

nought_tree : expression_tree nought ≡ number 0
nought_tree = expression_rolls [] _ ∙ ap (Typed (Some Int)) (node_rolls [] (N.Number (pos 0)))

abbrev body : List Item
body = V.Return (Some nought) ∷ []

abbrev main : Function
main = record { name = codes "main"; result = Some Int; file_only = false; params = 0; slots = []; labels = []; body = Some body; flat = false }

body_tree : trees_of body ≡ Then (t.Return (Some (number 0))) Nil
body_tree = trees-more (V.Return (Some nought)) [] ∙ (λ i. Then (tree-Return (Some nought) i) (trees-none i)) ∙
    ap (λ x. Then (t.Return (Some x)) Nil) nought_tree

main_prints : IsPrintable (record { tops = top.Function main ∷ [] })
main_prints = record {
  tops = (
    record {
      named = (refl, refl);
      parameters = tt;
      body = record {
        items = subst (ItemsPrint main) (sym body_tree) (record { prints = omega arith; few = omega arith }, tt);
        shallow = subst (λ a. 1 + depth a ≤ 400) (sym body_tree) (omega arith);
      };
    },
    tt,
  );
}
