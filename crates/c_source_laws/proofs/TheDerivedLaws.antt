-- The laws of derivations.
use Rattle.std.proofs.Common.{◌≡◌, ◌≤◌, ℕ, List, [], ◌∷◌, length, ap, sym, subst, ◌∙◌}
use Rattle.c_lexer.specs.Pieces.{Piece, Spells, tokens_of}
use Rattle.c_grammar.specs.declared.class.Class.TheVariants as c
use Rattle.c_grammar.specs.declared.syntax.Syntax.{Syntax}
use Rattle.c_grammar.specs.TokenClasses.{classes_of}
use Rattle.c_grammar.specs.Derives.{Derives}
use Rattle.c_grammar.specs.Files.{file_tokens}
use Rattle.c_grammar.specs.Words.{word_of}
use Rattle.c_grammar.specs.Parts.{file_of}
use Rattle.c_resolved_defs.specs.PrintableExpressions.{AreBytes}
use Rattle.c_resolved_defs.specs.Within.{Each}
use Rattle.reread_parts_laws.specs.WrittenFiles.{written_tops, FileHasKeywords}
use Rattle.reread_parts_laws.proofs.FileSources.{file_writes}
use Rattle.c_source_laws.specs.Classed.{Stand}
use Rattle.c_source_laws.specs.Formed.{IsFormedTop, IsShallow}
use Rattle.c_source_laws.specs.DerivedLaws.{DerivedLaws}
use Rattle.c_source_laws.proofs.Bytes.{word_bytes}
use Rattle.c_source_laws.proofs.Words.{words}
use Rattle.c_source_laws.proofs.Expressions.{expression_read}
use Rattle.c_source_laws.proofs.Statements.{items_read}
use Rattle.c_source_laws.proofs.Files.{file_read}
use Rattle.c_source_laws.proofs.Depths.{file_shallow}
use Rattle.c_source_laws.proofs.Comments.{comments}
use Rattle.c_source_laws.proofs.Directives.{directives}

module _ (pieces : List Piece) (t : List ℕ) (spells : Spells pieces t) (bytes : AreBytes t) (few : length (tokens_of pieces) ≤ 4294967295)
    (x : Syntax) (d : Derives (classes_of t (tokens_of pieces)) x) where
  abbrev the_word : ℕ → List ℕ
  the_word = word_of t (tokens_of pieces)

  pub stands : Stand the_word 0 (file_tokens d.file (c.End ∷ []))
  stands = subst (Stand the_word 0) (sym (d.spelled)) (words pieces t spells few)

  pub read : Each (IsFormedTop the_word) (written_tops the_word 0 d.file) × FileHasKeywords the_word 0 d.file
  read = file_read the_word (word_bytes t (tokens_of pieces) bytes) d.file 0 (c.End ∷ []) (d.formed) stands

  pub writes : file_of the_word x ≡ written_tops the_word 0 d.file
  writes = ap (file_of the_word) (d.syntax_of) ∙ file_writes the_word d.file read.1

  pub formed : Each (IsFormedTop the_word) (file_of the_word x)
  formed = subst (λ xs. Each (IsFormedTop the_word) xs) (sym writes) read.0

  shallow : Each IsShallow (file_of the_word x)
  shallow = subst (λ xs. Each IsShallow xs) (sym writes) (file_shallow d.file the_word 0 [] (d.within)).0

pub derived_laws : DerivedLaws
derived_laws =
    record {
      words = words;
      expressions = expression_read;
      items = λ word bytes at xs r f s. let x = items_read word bytes at xs r f s in (x.items, x.keywords, x.behind);
      writes = writes;
      file = formed;
      shallow = shallow;
      comments = comments;
      directives = directives;
    }
