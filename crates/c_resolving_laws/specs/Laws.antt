-- What `resolving_laws` states: the program that resolving answers is a resolved program.
use Rattle.std.specs.Prelude.{ℕ, ◌≡◌, negsuc, List, Ok, option_map, None}
use Rattle.c_lexer.specs.declared.token.Token.{Token}
use Rattle.c_lexer.specs.declared.token.Span.{Span}
use Rattle.c_grammar.specs.declared.syntax.Syntax.{Syntax}
use Rattle.c_tree.specs.declared.tree.Function.{Function}
use Rattle.c_tree.specs.declared.tree.Top.{Top}
use Rattle.c_tree.specs.declared.tree.Top.TheVariants as T
use Rattle.c_tree.specs.declared.tree.Program.{Program}
use Rattle.c_tree.specs.declared.tree.Item.{Item}
use Rattle.c_tree.specs.Trees.{Nil, expression_trees, trees_of}
use Rattle.c_tree.specs.Everywhere.{Everywhere}
use Rattle.c_tree.specs.InRange.{body_of}
use Rattle.c_grammar.specs.Words.{word_of}
use Rattle.c_grammar.specs.Parts.{file_of}
use Rattle.c_statements.specs.Functions.{FlatCounts}
use Rattle.c_comments.specs.Notes.{notes_of}
use Rattle.c_scopes.specs.Resolving.{resolved}
use Rattle.c_resolved_defs.specs.Files.{HaveValues, IsGlobal, DeclarationsAgree, MainIsFormed}
use Rattle.c_resolved_defs.specs.Form.{HasForm}
use Rattle.c_resolved_defs.specs.Limits as Limits
use Rattle.c_resolved_defs.specs.Limits.{IsUntangled}
use Rattle.c_resolved_defs.specs.Kinds.{ItemAgrees, KeepsConsts, ReturnFits}
use Rattle.c_resolved_defs.specs.Resolved.{names_in, HasLengths, IsInitialised, IsResolvedWith}
use Rattle.c_resolved_defs.specs.Scopes.{NamesAreBound}
use Rattle.c_resolved_defs.specs.Spelling.{IsSpelled}
use Rattle.c_resolved_defs.specs.Switches.{HasCases}
use Rattle.c_resolved_defs.specs.Within.{Each, AllDiffer}
use Rattle.c_resolving_laws.specs.Read.{IsRead}

-- what holds of each program that resolving answers with these counts, where the source trees of the syntax and the
-- comments are as derivations and the lexer give them
abbrev pub GivesWith : FlatCounts → (Program → Type 0) → Type 0
GivesWith flat P =
    (text : List ℕ) (tokens : List Token) (comments : List Span) (x : Syntax) (p : Program) →
    let word = word_of text tokens in let xs = file_of word x in IsRead word (notes_of text tokens comments xs) xs → resolved flat text tokens
    comments x ≡ Ok p → P p

abbrev pub Gives : (Program → Type 0) → Type 0
Gives P = (flat : FlatCounts) → GivesWith flat P

-- a fact of each function
abbrev pub OfFunction : (Function → Type 0) → Top → Type 0
OfFunction P (T.Function f) = P f
OfFunction P _ = Unit {0}

abbrev pub Functions : (List Top → Function → Type 0) → Program → Type 0
Functions P p = Each (OfFunction (P p.tops)) p.tops

-- enums have the values that are written, and variables constant initialisers
abbrev pub HasConstants : List Top → Top → Type 0
HasConstants ts (T.Enum xs) = HaveValues ts (negsuc 0) xs
HasConstants ts (T.Global g) = IsGlobal ts g (option_map expression_trees g.init)
HasConstants ts _ = Unit {0}

-- the numbers of gotos and labels of flat forms, of items and of their trees; an empty body has no jumps
pub record AreCounts (flat : FlatCounts) (counts : Limits.FlatCounts) : Type 0 where
  pub same : (xs : List Item) → flat xs ≡ counts (trees_of xs)
  pub none : counts Nil ≡ None

pub record ResolvingLaws : Type 0 where
  -- all that is asked of a resolved program
  pub resolved : (counts : Limits.FlatCounts) (flat : FlatCounts) → AreCounts flat counts → GivesWith flat (IsResolvedWith counts)
  -- ---- and each part of it
  -- nothing is called `main` but `int main(void)`, and the declarations of each function agree
  pub main : Gives (λ p. Each MainIsFormed p.tops)
  pub declarations : Gives (λ p. DeclarationsAgree p.tops)
  -- each name is bound to what the tree has there, and none is declared twice in a scope
  pub bound : Gives (λ p. NamesAreBound p.tops)
  -- enum constants have the values that are written, and variables have constant initialisers
  pub constants : Gives (λ p. Each (HasConstants p.tops) p.tops)
  -- kinds agree, values stand where they are used, calls have the right arguments
  pub kinds : Gives (λ p. Functions (λ ts f. Everywhere (ItemAgrees (names_in ts f)) (body_of f)) p)
  -- no const variable is assigned
  pub consts : Gives (λ p. Functions (λ ts f. Everywhere (KeepsConsts (names_in ts f)) (body_of f)) p)
  -- a value is returned exactly where the function gives one
  pub returns : Gives (λ p. Functions (λ ts f. Everywhere (ReturnFits f.result) (body_of f)) p)
  -- arrays have lengths, and as many initialisers at most
  pub lengths : Gives (λ p. Functions (λ ts f. HasLengths f) p)
  pub initialised : Gives (λ p. Functions (λ ts f. Everywhere (IsInitialised f.slots) (body_of f)) p)
  -- slots and labels in text order, first parts of `for`, sections, and gotos, exits and nested case labels in their constructs
  pub form : Gives (λ p. Functions (λ ts f. HasForm f) p)
  -- cases are constants, distinct in the promoted kind of their selector, and not too many
  pub cases : Gives (λ p. Functions (λ ts f. Everywhere HasCases (body_of f)) p)
  -- the labels of a function differ
  pub labels : Gives (λ p. Functions (λ ts f. AllDiffer f.labels) p)
  -- names and constants are spelled as C spells them, within the limits of a text
  pub spelled : Gives (λ p. IsSpelled p)
  -- a function with jumps is not too tangled
  pub untangled : (counts : Limits.FlatCounts) (flat : FlatCounts) → AreCounts flat counts → GivesWith flat (λ p. Functions (λ ts f. IsUntangled counts f) p)
