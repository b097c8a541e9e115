-- The law of derivations and their limits.
use Rattle.std.proofs.Common.{◌≤◌, ℕ, List, [], ◌∷◌, length, sym, subst}
use Rattle.c_lexer.specs.Pieces.{Piece, Spells, tokens_of, comments_of}
use Rattle.c_grammar.specs.declared.class.Class.TheVariants as c
use Rattle.c_grammar.specs.declared.syntax.Syntax.{Syntax}
use Rattle.c_grammar.specs.TokenClasses.{classes_of}
use Rattle.c_grammar.specs.Derives.{Derives}
use Rattle.c_grammar.specs.Words.{word_of}
use Rattle.c_grammar.specs.Parts.{file_of}
use Rattle.c_comments.specs.Notes.{notes_of}
use Rattle.c_resolved_defs.specs.PrintableExpressions.{AreBytes}
use Rattle.c_resolving_laws.specs.Read.{IsReadFile, IsRead}
use Rattle.c_source_laws.proofs.Comments.{comments}
use Rattle.c_source_laws.proofs.Directives.{IsLine, lines}
use Rattle.c_source_laws.proofs.Numbered.{Along}
use Rattle.c_source_laws.proofs.TheDerivedLaws.{read, writes}
use Rattle.c_source_laws.specs.LimitLaws.{LimitLaws}
use Rattle.c_source_laws.proofs.Weights.{IsWeighed, weights}
use Rattle.c_source_laws.proofs.WholeFiles.{file_is_read}

module _ (pieces : List Piece) (t : List ℕ) (spells : Spells pieces t) (bytes : AreBytes t) (few : length (tokens_of pieces) ≤ 4294967295)
    (x : Syntax) (d : Derives (classes_of t (tokens_of pieces)) x) where
  abbrev the_word : ℕ → List ℕ
  the_word = word_of t (tokens_of pieces)

  file : IsReadFile the_word (file_of the_word x)
  file =
      let e = sym (d.spelled) in
      subst (λ xs. IsReadFile the_word xs) (sym (writes pieces t spells bytes few x d))
      (file_is_read the_word d.file (c.End ∷ []) (d.formed) (subst (Along IsWeighed the_word 0) e (weights pieces t spells))
      (subst (Along IsLine the_word 0) e (lines pieces t spells)) (d.within) (read pieces t spells bytes few x d).0)

  whole : IsRead the_word (notes_of t (tokens_of pieces) (comments_of pieces) (file_of the_word x)) (file_of the_word x)
  whole = record { file = file; comments = comments pieces t spells (file_of the_word x) }

pub limit_laws : LimitLaws
limit_laws = record { read = whole }
