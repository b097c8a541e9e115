-- The printed text of a program that prints is read again.
use Rattle.std.proofs.Common.{◌≡◌, List, [], ◌∷◌, ◌++◌, map, refl, ap, sym, ◌∙◌, arith}
use Rattle.c_lexer.specs.Pieces.{tokens_of}
use Rattle.c_lexer.proofs.Theorem.{scan_read_back}
use Rattle.c_grammar.specs.declared.class.Class.{Class}
use Rattle.c_grammar.specs.declared.class.Class.TheVariants as c
use Rattle.c_grammar.specs.TokenClasses.{classes_of}
use Rattle.c_tree.specs.declared.tree.Program.{Program}
use Rattle.c_tree.specs.Text.{pieces_of, text_of}
use Rattle.print_laws.specs.Reread.{spellings, class_of_spelling, read_at}
use Rattle.print_laws.specs.FileDerivations.{file_of}
use Rattle.print_laws.specs.PrintSyntaxLaws.{printed_pieces, PrintedReadsBack}
use Rattle.print_laws.proofs.FileFits.{file_fits, file_clear}
use Rattle.print_laws.proofs.FileReads.{program_reads}
use Rattle.print_laws.proofs.Relexed.{reread_spells}
use Rattle.print_laws.proofs.Places.{comments_placed}
use Rattle.print_laws.proofs.Tokens.{tokens_read, classes_read}

-- the classes of the tokens of the text
classes_are : (p : Program) → map (read_at (text_of p)) (tokens_of (printed_pieces p)) ≡ spellings (printed_pieces p)
    → classes_of (text_of p) (tokens_of (printed_pieces p)) ≡ map class_of_spelling (spellings (printed_pieces p))
classes_are p e = classes_read (text_of p) (tokens_of (printed_pieces p)) ∙ ap (map class_of_spelling) e

pub printed_reads_back : PrintedReadsBack
printed_reads_back p h =
    let r = program_reads p.tops h.tops in
    let spells = reread_spells (pieces_of p) (r.apart [] tt) in
    let tokens = tokens_read (text_of p) (printed_pieces p) spells.spells in
    record {
      spells = spells;
      scanned = scan_read_back (text_of p) (printed_pieces p) spells;
      tokens = tokens;
      notes = comments_placed (text_of p) (printed_pieces p) spells ∙ r.tells [];
      derives = record {
        file = file_of p;
        formed = file_fits p.tops;
        spelled = sym (r.reads []) ∙ ap (λ (l : List Class). l ++ c.End ∷ []) (sym (classes_are p tokens));
        syntax_of = refl;
        within = (file_clear p.tops h.tops [] (record { none = refl; few = omega arith })).none;
      };
    }
