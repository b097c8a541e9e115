use Rattle.std.proofs.Common.{[], ap, ◌∙◌}
use Rattle.c_types.specs.Words.{known_functions}
use Rattle.c_copies.proofs.NameLemmas.{with_names_append}
use Rattle.flat_names.specs.FlatNames.{with_known}
use Rattle.flat_names.proofs.whole.ProgramNames.new.Goals as goal

pub returns : goal.returns
returns c = record {
  used = c.in_ok-used.ensures.file ∙ with_names_append [] c.as_slice.result.now known_functions ∙ ap with_known c.as_slice.ensures.value;
  taken = c.in_ok-taken.ensures.file ∙ with_names_append [] c.as_slice-2.result.now known_functions ∙ ap with_known c.as_slice-2.ensures.value;
}
