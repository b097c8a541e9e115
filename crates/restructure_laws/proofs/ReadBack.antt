-- The plain form of what a resolved program is rewritten to reads back.
use Rattle.std.proofs.lemmas.List.Elements.{All-from_recursion}
use Rattle.c_copies.specs.Names.{names}
use Rattle.guard_vars.specs.GuardNames.{guard_names}
use Rattle.plain_laws.specs.Plain.{plain_with}
use Rattle.c_resolved_laws.specs.Counts.{flat_counts}
use Rattle.c_resolved_laws.proofs.TheLaws.{resolved_laws}
use Rattle.whole_laws.specs.WholeLaws.{IsTopNamed}
use Rattle.whole_laws.proofs.Whole.{whole_laws}
use Rattle.whole_laws.proofs.NamedForm.{tops_named, named_form_resolved}
use Rattle.print_laws.proofs.Parsing.{printed_text_parses}
use Rattle.reread_program_laws.proofs.ReadingBack.{reading_back_laws}
use Rattle.restructure_laws.specs.RereadPlainLaws.{PlainFormReadsBack}

pub plain_form_reads_back : PlainFormReadsBack
plain_form_reads_back p q ms r w h =
    let given = guard_names (names p) in
    let form = plain_with given q in
    let right = whole_laws.whole flat_counts given p q ms r w (All-from_recursion (IsTopNamed given) q.tops (tops_named p q.tops)) in
    let resolved = named_form_resolved p q ms r w h in
    let printed = resolved_laws.text form right.plain in
    record {
      resolved = resolved;
      plain = right.plain;
      parses = printed_text_parses form (resolved_laws.printable flat_counts form resolved printed);
      reads = reading_back_laws.resolved form resolved printed;
      runs = right.runs;
    }
