use Rattle.std.proofs.Common.{◌≡◌, ℕ, List, ◌++◌, [], ap, ◌∙◌}
use Rattle.std.proofs.lemmas.Result.{IfOk-weaker}
use Rattle.c_types.specs.Words.{known_functions}
use Rattle.c_copies.specs.Names.{has_name, with_names}
use Rattle.guard_vars.specs.GuardNames.{own_names, guard_names_beside, guard_names, AreNew}
use Rattle.guard_vars.proofs.GuardNames.{new_where_same, same_in_file}
use Rattle.guard_vars.proofs.names.guard_names.Goals as goal

pub returns-clause-value : goal.returns-clause-value
returns-clause-value c =
    let f = c.args.function.now in
    IfOk-weaker c.guard_names_beside.result (λ (it : List (List ℕ)). it ≡ guard_names_beside c.in_ok-used.used.file f)
    (λ (it : List (List ℕ)). it ≡ guard_names c.args.names.now f)
    (λ it h. h ∙ ap (λ (u : List (List ℕ)). guard_names_beside u f) c.in_ok-used.ensures.file ∙
    ap (λ (ns : List (List ℕ)). guard_names ns f) c.as_slice.ensures.value)
    c.guard_names_beside.ensures.value

pub returns-clause-new_names : goal.returns-clause-new_names
returns-clause-new_names c =
    let own = own_names c.args.function.now in
    let file = c.in_ok-used.used.file in
    let ns = c.args.names.now ++ known_functions in
    let is : file ≡ with_names [] ns = c.in_ok-used.ensures.file ∙ ap (λ (l : List (List ℕ)). with_names [] (l ++ known_functions)) c.as_slice.ensures.value in
    IfOk-weaker c.guard_names_beside.result (AreNew (file ++ own)) (AreNew (ns ++ own))
    (λ it h. new_where_same (file ++ own) (ns ++ own) it (λ q. ap (λ (u : List (List ℕ)). has_name (u ++ own) q) is ∙ same_in_file ns own q) h)
    c.guard_names_beside.ensures.new_names
