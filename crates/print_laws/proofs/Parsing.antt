-- The printed text of a program that prints is scanned and parsed to its syntax.
use Rattle.c_grammar.specs.TokenClasses.{classes_of}
use Rattle.c_parser.proofs.Decides.{unambiguous}
use Rattle.c_parser.proofs.Reading.{parses}
use Rattle.c_tree.specs.Text.{text_of}
use Rattle.print_laws.specs.FileDerivations.{syntax_of}
use Rattle.print_laws.proofs.ReadBack.{printed_reads_back}
use Rattle.print_laws.specs.PrintParseLaws.{printed_tokens, PrintedTextParses}

pub printed_text_parses : PrintedTextParses
printed_text_parses p h =
    let r = printed_reads_back p h in
    record {
      scanned = r.scanned;
      parsed_so = parses (text_of p) (printed_tokens p) (syntax_of p) r.derives;
      alone = λ x d. unambiguous (classes_of (text_of p) (printed_tokens p)) x (syntax_of p) d r.derives;
    }
