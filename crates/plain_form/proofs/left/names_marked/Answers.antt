use Rattle.std.proofs.Common.{false, get_or, length, ◌∷◌, [], cond, ◌++◌, List, ℕ, arith, sym, ap, ◌∙◌}
use Rattle.std.proofs.lemmas.List.{length_push}
use Rattle.plain_form.proofs.MarkLaws.{names_more}
use Rattle.plain_form.proofs.left.names_marked.Goals as goal

pub loop-name-preserved : goal.loop-name-preserved
loop-name-preserved c = record {
  at = omega (arith, c.loop-name.invariant.at, length_push c.loop-name.yielded c.in-Some.name);
  value =
      let bs = c.as_slice-marks.result.now in
      let name = c.in-Some.name in
      c.in_ok-push_if.ensures ∙ ap (λ (i : ℕ). c.loop-name.out ++ cond (get_or bs i false) (name ∷ []) []) c.loop-name.invariant.at
      ∙ ap (λ (l : List (List ℕ)). l ++ cond (get_or bs (length c.loop-name.yielded) false) (name ∷ []) []) c.loop-name.invariant.value
      ∙ sym (names_more c.loop-name.yielded bs name);
}
