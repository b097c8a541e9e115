use Rattle.std.proofs.Common.{◌≡◌, ℕ, List, ◌++◌, [], length, ap, ◌∙◌}
use Rattle.std.proofs.lemmas.Result.{IfOk-weaker}
use Rattle.c_copies.specs.Names.{has_name, with_names}
use Rattle.c_fresh_names.proofs.NameSets.{more_names}
use Rattle.guard_vars.specs.GuardNames.{named_guards, own_names, guard_names_beside, AreNew}
use Rattle.guard_vars.proofs.GuardNames.{length-named_guards, new_where_same, same_beside}
use Rattle.guard_vars.proofs.names.guard_names_beside.Goals as goal

pub returns-clause-value : goal.returns-clause-value
returns-clause-value c =
    let f = c.args.function.now in
    let own = own_names f in
    let all : with_names c.take_names.new.used.file c.take_names.new.used.own ≡ with_names c.args.used.now.file own =
    ap (λ (u : List (List ℕ)). with_names u c.take_names.new.used.own) c.take_names.ensures.file ∙
    ap (with_names c.args.used.now.file) c.in_ok-take_names.ensures.own
    ∙ more_names c.args.used.now.file [] own in
    IfOk-weaker c.named_guards.result (λ (it : List (List ℕ)). it ≡ named_guards (with_names c.take_names.new.used.file c.take_names.new.used.own)
    c.as_slice.result.now)
    (λ (it : List (List ℕ)). it ≡ guard_names_beside c.args.used.now.file f)
    (λ it h. h ∙ ap (λ (u : List (List ℕ)). named_guards u c.as_slice.result.now) all ∙
    ap (named_guards (with_names c.args.used.now.file own)) c.as_slice.ensures.value)
    c.named_guards.ensures.value

pub returns-clause-one_each : goal.returns-clause-one_each
returns-clause-one_each c =
    let used = with_names c.take_names.new.used.file c.take_names.new.used.own in
    IfOk-weaker c.named_guards.result (λ (it : List (List ℕ)). it ≡ named_guards used c.as_slice.result.now)
    (λ (it : List (List ℕ)). length it ≡ length c.args.function.now.labels)
    (λ it h. ap length h ∙ length-named_guards used c.as_slice.result.now ∙ ap length c.as_slice.ensures.value) c.named_guards.ensures.value

pub returns-clause-new_names : goal.returns-clause-new_names
returns-clause-new_names c =
    let f = c.args.function.now in
    let own = own_names f in
    let used = with_names c.take_names.new.used.file c.take_names.new.used.own in
    let all : used ≡ with_names c.args.used.now.file own =
    ap (λ (u : List (List ℕ)). with_names u c.take_names.new.used.own) c.take_names.ensures.file ∙
    ap (with_names c.args.used.now.file) c.in_ok-take_names.ensures.own
    ∙ more_names c.args.used.now.file [] own in
    IfOk-weaker c.named_guards.result (AreNew used) (AreNew (c.args.used.now.file ++ own))
    (λ it h. new_where_same used (c.args.used.now.file ++ own) it
    (λ q. ap (λ (u : List (List ℕ)). has_name u q) all ∙ same_beside c.args.used.now.file own q) h)
    c.named_guards.ensures.new_names
