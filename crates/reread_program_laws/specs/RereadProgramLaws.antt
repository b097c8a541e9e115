-- The laws of this crate: the printed text of a resolved program reads back as the program.
use Rattle.std.specs.Prelude.{◌≡◌, List, [], Ok}
use Rattle.c_lexer.specs.declared.token.Token.{Token}
use Rattle.c_lexer.specs.declared.token.Span.{Span}
use Rattle.c_lexer.specs.Pieces.{tokens_of, comments_of}
use Rattle.c_tree.specs.declared.tree.Program.{Program}
use Rattle.c_tree.specs.Text.{text_of}
use Rattle.c_grammar.specs.Words.{word_of}
use Rattle.c_grammar.specs.Tops.{Top}
use Rattle.c_statements.specs.Functions.{FlatCounts}
use Rattle.c_scopes.specs.Files.{File}
use Rattle.c_comments.specs.Notes.{notes_of}
use Rattle.c_scopes.specs.Resolving.{file_at, resolved}
use Rattle.c_resolved_defs.specs.Limits as limits
use Rattle.c_resolved_defs.specs.Resolved.{IsResolvedWith}
use Rattle.c_resolved_defs.specs.Scopes.{at_start}
use Rattle.print_laws.specs.FileDerivations.{file_of, syntax_of}
use Rattle.print_laws.specs.PrintSyntaxLaws.{printed_pieces}
use Rattle.reread_parts_laws.specs.Laws.{AreTops}
use Rattle.reread_parts_laws.specs.WrittenFiles.{written_tops}
use Rattle.c_resolved_laws.specs.Laws.{HasText}
use Rattle.c_resolving_laws.specs.Laws.{AreCounts}
use Rattle.reread_program_laws.specs.Notes.{NotesOfTops}
use Rattle.reread_program_laws.specs.Limits.{AreMeasured}

-- the tokens and the comments of the printed text of a program
abbrev pub tokens_in : Program → List Token
tokens_in p = tokens_of (printed_pieces p)

abbrev pub comments_in : Program → List Span
comments_in p = comments_of (printed_pieces p)

-- what stands in that text
abbrev pub tops_in : Program → List Top
tops_in p = written_tops (word_of (text_of p) (tokens_in p)) 0 (file_of p)

abbrev pub file_in : FlatCounts → Program → File
file_in flat p = file_at flat (text_of p) (tokens_in p) (comments_in p) (tops_in p)

-- of each resolved program that has a text, where jumps are counted in the items as in their trees
abbrev pub OfPrinted : (limits.FlatCounts → FlatCounts → Program → Type 0) → Type 0
OfPrinted P = (counts : limits.FlatCounts) (flat : FlatCounts) → AreCounts flat counts → (p : Program) → IsResolvedWith counts p → HasText p → P counts flat p

pub record BackLaws : Type 0 where
  -- the comments of its text stand where its Notes are printed
  pub notes : OfPrinted (λ counts flat p. NotesOfTops (notes_of (text_of p) (tokens_in p) (comments_in p) (tops_in p)) 0 [] p.tops)
  -- none of its functions is too tangled as the text has it
  pub measured : OfPrinted (λ counts flat p. AreMeasured (file_in flat p) 0 p.tops)
  -- all that reading asks of what stands in the text
  pub tops : OfPrinted (λ counts flat p. AreTops counts p.tops (file_in flat p) at_start [] 0 [] p.tops)
  -- so that resolving the syntax of the text, with its tokens and comments, gives the program
  pub programs : OfPrinted (λ counts flat p. resolved flat (text_of p) (tokens_in p) (comments_in p) (syntax_of p) ≡ Ok p)
