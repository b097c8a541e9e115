-- The comments that scanning the printed text of a program gives stand where its Notes are printed.
use Rattle.std.proofs.Common.{◌≡◌, ◌+◌, ℕ, List, [], ◌∷◌, length, map, refl, ap, ◌∙◌, arith, length-append}
use Rattle.std.proofs.lemmas.List.{length-map}
use Rattle.c_lexer.specs.declared.token.Token.{Token}
use Rattle.c_lexer.specs.declared.token.Span.{Span}
use Rattle.c_lexer.specs.Pieces.{tokens_of, comments_of}
use Rattle.c_grammar.specs.declared.class.Class.TheVariants as c
use Rattle.c_grammar.specs.Files.{file_tokens}
use Rattle.c_tree.specs.declared.tree.Program.{Program}
use Rattle.c_tree.specs.Text.{text_of}
use Rattle.c_grammar.specs.Words.{word_of}
use Rattle.c_grammar.specs.Tops.{Top}
use Rattle.c_comments.specs.Notes.{place_in, notes_of}
use Rattle.c_resolved_defs.specs.PrintablePrograms.{IsPrintable}
use Rattle.print_laws.specs.Reread.{spellings, class_of_spelling, read_at}
use Rattle.print_laws.specs.FileDerivations.{file_of}
use Rattle.print_laws.specs.PrintSyntaxLaws.{printed_pieces}
use Rattle.print_laws.proofs.FileReads.{program_reads}
use Rattle.print_laws.proofs.ReadBack.{printed_reads_back}
use Rattle.reread_parts_laws.specs.WrittenFiles.{written_tops}
use Rattle.reread_program_laws.specs.Notes.{NotesOfTops}
use Rattle.reread_program_laws.proofs.Chosen.{chosen, placed_by}
use Rattle.reread_program_laws.proofs.CommentsNumbered.{comments_numbered, notes_chosen}
use Rattle.reread_program_laws.proofs.TopsTold.{AreFormed, tops_told}

module _ (p : Program) (h : IsPrintable p) where
  abbrev tokens : List Token
  tokens = tokens_of (printed_pieces p)

  abbrev comments : List Span
  comments = comments_of (printed_pieces p)

  abbrev word : ℕ → List ℕ
  word = word_of (text_of p) tokens

  abbrev file : List Top
  file = written_tops word 0 (file_of p)

  -- its tokens, and the end behind them
  abbrev count : ℕ
  count = length tokens + 1

  all_counted : 0 + length (file_tokens (file_of p) (c.End ∷ [])) ≡ count
  all_counted =
      let reads = (program_reads p.tops h.tops).reads [] in
      let x = ap length reads in
      let y = length-append (map class_of_spelling (spellings (printed_pieces p))) (c.End ∷ []) in
      let z = length-map (spellings (printed_pieces p)) class_of_spelling in
      let u = length-map tokens (read_at (text_of p)) in
      let v = ap length ((printed_reads_back p h).tokens) in
      omega (arith, x, y, z, u, v)

  pub notes_stand : AreFormed p.tops → NotesOfTops (notes_of (text_of p) tokens comments file) 0 [] p.tops
  notes_stand k =
      let back = printed_reads_back p h in
      let r = tops_told word (place_in file) count p.tops [] 0 (λ t u. refl) k all_counted in
      r.holds (notes_of (text_of p) tokens comments file)
      (λ a i. notes_chosen (text_of p) tokens file count a comments refl (comments_numbered (printed_pieces p) (text_of p) (back.spells)) ∙
      ap (λ n. chosen a (placed_by (place_in file) count n)) (back.notes))
