use Rattle.std.proofs.Common.{sym, ap, ◌∙◌}
use Rattle.tidy_laws.specs.Changes.{is_number}
use Rattle.tidy_loops.proofs.FormLaws.{expression_same}
use Rattle.tidy_loops.proofs.Read.{one_zero}
use Rattle.tidy_loops.proofs.reading.is_one_zero.Goals as goal

pub returns-in-len1 : goal.returns-in-len1
returns-in-len1 c = c.is_number.ensures ∙ ap (is_number 0) (sym (expression_same c.e-item.result)) ∙
    one_zero c.args.es.now c.e-item.result c.in-len1.len_below c.in-len1.len_at_least c.e-item.is
