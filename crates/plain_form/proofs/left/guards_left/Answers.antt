use Rattle.std.proofs.Common.{length, arith, ap, ◌∙◌}
use Rattle.plain_form.specs.Marks.{marks_of, places_marked, names_marked}
use Rattle.plain_form.proofs.MarkLaws.{length-marks_of, places_are_left, names_are_left}
use Rattle.plain_form.proofs.left.guards_left.Goals as goal

pub names_marked-requires : goal.names_marked-requires
names_marked-requires c = omega (arith, length-marks_of c.args.body.now c.len.result, ap length c.in_ok-marks.ensures, c.len.ensures.value)

pub returns-clause-labels : goal.returns-clause-labels
returns-clause-labels c =
    c.in_ok-labels.ensures ∙ ap (places_marked 0) (c.in_ok-marks.ensures ∙ ap (marks_of c.args.body.now) c.len.ensures.value) ∙
    places_are_left c.args.body.now c.args.names

pub returns-clause-names : goal.returns-clause-names
returns-clause-names c =
    c.in_ok-names.ensures ∙ ap (names_marked c.args.names) (c.in_ok-marks.ensures ∙ ap (marks_of c.args.body.now) c.len.ensures.value) ∙
    names_are_left c.args.body.now c.args.names
