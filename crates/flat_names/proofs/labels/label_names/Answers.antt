use Rattle.std.proofs.Common.{drop, ◌+◌, ◌++◌, ◌∷◌, [], sym, ap, ◌∙◌}
use Rattle.flat_names.specs.FlatNames.{label_names}
use Rattle.flat_names.proofs.Steps.{labels_step, labels_end}
use Rattle.flat_names.specs.FlatNames.{naming, chosen, used_then}
use Rattle.flat_names.specs.Gathered.{all_used}
use Rattle.flat_names.proofs.labels.label_names.Goals as goal

pub loop-i-preserved : goal.loop-i-preserved
loop-i-preserved c =
    let ls = c.args.labels.now in
    let m = c.args.made.now in
    let i = c.loop-i.i in
    let u = all_used c.loop-i.used in
    let out = c.loop-i.out in
    let rest = drop (i + 1) c.args.codes.now in
    record {
      file = c.label_name.ensures.file ∙ c.loop-i.invariant.file;
      value =
          ap (λ z. z ++ label_names ls m (all_used c.label_name.new.used) rest) c.in_ok-push.ensures.ok
          ∙ ap (λ x. (out ++ x ∷ []) ++ label_names ls m (all_used c.label_name.new.used) rest) c.in_ok-name.ensures.name
          ∙ ap (λ w. (out ++ chosen (naming ls m c.label_of-label.result) u ∷ []) ++ label_names ls m w rest) c.in_ok-name.ensures.used
          ∙ ap (λ l. (out ++ chosen (naming ls m l) u ∷ []) ++ label_names ls m (used_then (naming ls m l) u) rest) c.label_of-label.ensures
          ∙ sym (labels_step ls m u c.args.codes.now i _ out c.loop-i-test.true) ∙ c.loop-i.invariant.value;
    }

pub returns-clause-value : goal.returns-clause-value
returns-clause-value c = sym (labels_end c.args.labels.now c.args.made.now (all_used c.loop-i.used) c.args.codes.now c.loop-i.i c.loop-i.out
    c.loop-i-test.false) ∙ c.loop-i.invariant.value
