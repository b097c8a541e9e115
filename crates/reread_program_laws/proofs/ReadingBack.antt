-- Reading the printed text of a resolved program gives the program.
use Rattle.std.proofs.Common.{◌≡◌, Ok, refl, ap, ◌∙◌}
use Rattle.c_lexer.specs.Pieces.{scanned_of}
use Rattle.c_scopes.specs.Reading.{of_syntax, of_tokens, reading}
use Rattle.c_tree.specs.Text.{text_of}
use Rattle.print_laws.specs.PrintSyntaxLaws.{printed_pieces}
use Rattle.print_laws.proofs.Parsing.{printed_text_parses}
use Rattle.c_resolving_laws.specs.Laws.{AreCounts}
use Rattle.c_resolved_laws.specs.Counts.{flat_counts}
use Rattle.c_resolved_laws.proofs.TheLaws.{resolved_laws}
use Rattle.reread_program_laws.specs.RereadProgramLaws.{OfPrinted}
use Rattle.reread_program_laws.proofs.Back.{back_laws}
use Rattle.reread_program_laws.specs.RereadTextLaws.{counted, ReadingBackLaws}

counts_agree : AreCounts counted flat_counts
counts_agree = record { same = λ xs. refl; none = refl }

printed : OfPrinted (λ counts flat p. reading flat (text_of p) ≡ Ok p)
printed counts flat e p r t =
    let parses = printed_text_parses p (resolved_laws.printable counts p r t) in
    ap (of_tokens flat (text_of p)) (parses.scanned) ∙ ap (of_syntax flat (text_of p) (scanned_of (printed_pieces p))) (parses.parsed_so) ∙
    back_laws.programs counts flat e p r t

pub reading_back_laws : ReadingBackLaws
reading_back_laws = record { printed = printed; resolved = λ p r t. printed flat_counts counted counts_agree p r t }
