use Rattle.std.proofs.Common.{Some, option_map, sym, ap, ◌∙◌}
use Rattle.c_tree.specs.Trees.{trees_of}
use Rattle.tidy_laws.specs.Renamed.{renamed_list}
use Rattle.tidy_slots.specs.Numbers.{number}
use Rattle.break_recovery.proofs.functions.renumber_body.Goals as goal

pub returns-in-Some : goal.returns-in-Some
returns-in-Some c = ap Some c.renumber_list.ensures ∙ sym (ap (λ b. option_map (renamed_list (number c.args.numbers.now)) (option_map trees_of b)) c.in-Some.is)
