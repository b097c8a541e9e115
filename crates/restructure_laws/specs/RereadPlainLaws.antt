-- What `plain_form_reads_back` states.
use Rattle.std.specs.Prelude.{◌≡◌, true, List, All, Ok}
use Rattle.c_copies.specs.Names.{names}
use Rattle.c_tree.specs.declared.tree.Program.{Program}
use Rattle.c_tree.specs.Jumps.{is_plain_program}
use Rattle.c_tree.specs.Text.{text_of}
use Rattle.c_scopes.specs.Reading.{reading}
use Rattle.guard_vars.specs.GuardNames.{guard_names}
use Rattle.plain_laws.specs.Plain.{plain_with}
use Rattle.plain_laws.specs.Laws.{BehavesAsStructured}
use Rattle.c_resolved_laws.specs.Counts.{IsResolved}
use Rattle.report_moves.specs.declared.moves.Move.{Move}
use Rattle.whole_laws.specs.Rewritten.{IsRewritten}
use Rattle.whole_laws.specs.Guards.{TopHasNames}
use Rattle.print_laws.specs.PrintParseLaws.{Parses}
use Rattle.reread_program_laws.specs.RereadTextLaws.{counted}

-- what is known of r, the plain form of what p is rewritten to
pub record ReadsBack (p r : Program) : Type 0 where
  -- it is resolved, without gotos, labels and nested case labels
  pub resolved : IsResolved r
  pub plain : is_plain_program r ≡ true
  -- its printed text has tokens that derive its syntax alone
  pub parses : Parses r
  -- reading that text gives it
  pub reads : reading counted (text_of r) ≡ Ok r
  -- and its runs by structure are those of p
  pub runs : BehavesAsStructured p r

abbrev pub PlainFormReadsBack : Type 0
PlainFormReadsBack = (p q : Program) (ms : List Move) → IsResolved p → IsRewritten p q ms → All (TopHasNames p) q.tops →
    ReadsBack p (plain_with (guard_names (names p)) q)
