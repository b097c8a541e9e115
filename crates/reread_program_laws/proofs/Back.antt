-- Resolving the syntax of the printed text of a resolved program gives the program.
use Rattle.std.proofs.Common.{◌≡◌, ℕ, List, [], ◌∷◌, ◌++◌, map, Ok, is_some, ap, subst, ◌∙◌, arith}
use Rattle.std.specs.Prelude.{All}
use Rattle.std.proofs.lemmas.List.Elements.{All-head, All-tail}
use Rattle.c_lexer.specs.declared.token.Token.{Token}
use Rattle.c_lexer.specs.declared.token.Span.{Span}
use Rattle.c_lexer.specs.Pieces.{IsWithin, tokens_of, comments_of, scanned_of}
use Rattle.c_lexer.proofs.Bounds.{tokens_bound}
use Rattle.c_tree.specs.declared.tree.Program.{Program}
use Rattle.c_tree.specs.Text.{text_of}
use Rattle.c_grammar.specs.Words.{word_of}
use Rattle.c_grammar.specs.Tops.{Top}
use Rattle.c_statements.specs.Functions.{FlatCounts}
use Rattle.c_scopes.specs.Files.{File, start}
use Rattle.c_scopes.specs.FunctionNames.{has_function}
use Rattle.c_scopes.specs.Resolving.{file_at}
use Rattle.c_resolved_defs.specs.Limits as limits
use Rattle.c_resolved_defs.specs.Names.{first_function}
use Rattle.c_resolved_defs.specs.PrintablePrograms.{IsPrintable}
use Rattle.c_resolved_defs.specs.Resolved.{IsResolvedWith}
use Rattle.c_resolved_defs.specs.Scopes.{at_start}
use Rattle.c_resolved_defs.specs.Within.{Each}
use Rattle.c_grammar.specs.declared.class.Class.{Class}
use Rattle.c_grammar.specs.declared.class.Class.TheVariants as c
use Rattle.c_grammar.specs.Files.{file_tokens}
use Rattle.c_grammar.specs.TokenClasses.{classes_of}
use Rattle.print_laws.specs.Reread.{spellings, class_of_spelling}
use Rattle.print_laws.proofs.Tokens.{classes_read}
use Rattle.print_laws.proofs.FileReads.{program_reads}
use Rattle.print_laws.specs.FileDerivations.{file_of}
use Rattle.print_laws.specs.PrintSyntaxLaws.{printed_pieces}
use Rattle.print_laws.proofs.ReadBack.{printed_reads_back}
use Rattle.print_laws.proofs.Standings.{first_stands}
use Rattle.reread_parts_laws.specs.Laws.{IsTokenOf, AreTops}
use Rattle.reread_parts_laws.specs.Words.{AreWords}
use Rattle.reread_parts_laws.specs.WrittenFiles.{written_tops}
use Rattle.reread_parts_laws.proofs.TheLaws.{reread_laws}
use Rattle.c_resolved_laws.proofs.TheLaws.{resolved_laws}
use Rattle.c_resolving_laws.specs.Laws.{AreCounts}
use Rattle.c_source_laws.proofs.Numbered.{Along}
use Rattle.c_source_laws.proofs.Weights.{IsWeighed, weights}
use Rattle.reread_program_laws.specs.Limits.{AreMeasured}
use Rattle.reread_program_laws.specs.RereadProgramLaws.{tokens_in, comments_in, BackLaws}
use Rattle.reread_program_laws.proofs.Measured.{all_measured}
use Rattle.reread_program_laws.proofs.NotesStand.{notes_stand}
use Rattle.reread_program_laws.proofs.Declared.{first_single, has_named}
use Rattle.reread_program_laws.proofs.Given.{program_given, program_formed, tops_are}
use Rattle.reread_program_laws.proofs.BodiesRead.{AllReadBack, all_read, bodies_read}

each_inside : (text : List ℕ) (ts : List Token) → All (λ (t : Token). IsWithin text t.start t.end) ts → Each (IsTokenOf text) ts
each_inside text [] h = tt
each_inside text (t ∷ ts) h =
    let k = All-head (λ (x : Token). IsWithin text x.start x.end) t ts h in
    (record { in_order = let a = k.0 in omega (arith, a); inside = k.1 }, each_inside text ts (All-tail (λ (x : Token). IsWithin text x.start x.end) t ts h))

module _ (counts : limits.FlatCounts) (flat : FlatCounts) (p : Program) (r : IsResolvedWith counts p) (h : IsPrintable p) where
  abbrev pub text : List ℕ
  text = text_of p

  abbrev pub tokens : List Token
  tokens = tokens_of (printed_pieces p)

  abbrev pub comments : List Span
  comments = comments_of (printed_pieces p)

  abbrev pub word : ℕ → List ℕ
  word = word_of text tokens

  abbrev pub tops : List Top
  tops = written_tops word 0 (file_of p)

  abbrev pub file : File
  file = file_at flat text tokens comments tops

  -- the words of the text are those of its tokens
  pub words : AreWords word (spellings (printed_pieces p))
  words =
      let back = printed_reads_back p h in
      reread_laws.words text tokens (spellings (printed_pieces p))
      (each_inside text tokens (tokens_bound text (Ok (scanned_of (printed_pieces p))) (back.scanned))) (back.tokens)

  -- each function reads back by itself
  pub back : AllReadBack counts p.tops word (spellings (printed_pieces p)) words 0 p.tops
  back =
      all_read counts p.tops word (spellings (printed_pieces p)) words p.tops at_start start.scopes 0 tt (tt, ((tt, (tt, (tt, (tt, (tt, tt))))), tt))
      (reread_laws.starts p.tops r.bound) (program_given counts p r h)
      (program_formed counts p.tops p.tops r.tops) (first_stands p)

  bodies : (m : List ℕ) → has_function file.bodies m ≡ is_some (first_function (λ f. is_some f.body) m p.tops)
  bodies m = ap (λ l. has_function l m) (bodies_read counts p.tops word (spellings (printed_pieces p)) words p.tops 0 back) ∙ has_named m p.tops

  pub tops_read : AreMeasured file 0 p.tops → AreTops counts p.tops file at_start [] 0 [] p.tops
  tops_read m =
      tops_are counts p.tops file bodies p.tops at_start [] 0 [] (program_given counts p r h) r.declarations (first_single p.tops)
      (notes_stand p h (program_formed counts p.tops p.tops r.tops)) m

  -- the classes of its tokens are those of the derivation of the program
  spelled : classes_of text tokens ++ c.End ∷ [] ≡ file_tokens (file_of p) (c.End ∷ [])
  spelled =
      ap (λ (l : List Class). l ++ c.End ∷ []) (classes_read text tokens ∙ ap (map class_of_spelling) ((printed_reads_back p h).tokens)) ∙
      (program_reads p.tops h.tops).reads []

  pub limits_kept : AreCounts flat counts → AreMeasured file 0 p.tops
  limits_kept e =
      all_measured counts p.tops file (spellings (printed_pieces p)) words e p.tops 0 h.tops r.tops
      (subst (Along IsWeighed word 0) spelled (weights (printed_pieces p) text ((printed_reads_back p h).spells))) back

pub back_laws : BackLaws
back_laws = record {
  notes = λ counts flat e p r t. notes_stand p (resolved_laws.printable counts p r t) (program_formed counts p.tops p.tops r.tops);
  measured = λ counts flat e p r t. limits_kept counts flat p r (resolved_laws.printable counts p r t) e;
  tops = λ counts flat e p r t. let h = resolved_laws.printable counts p r t in tops_read counts flat p r h (limits_kept counts flat p r h e);
  programs = λ counts flat e p r t.
      let h = resolved_laws.printable counts p r t in
      reread_laws.programs counts p flat (text_of p) (tokens_in p) (comments_in p) (words counts flat p r h) r.bound
      (tops_read counts flat p r h (limits_kept counts flat p r h e));
}
