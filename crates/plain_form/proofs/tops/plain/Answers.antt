use Rattle.std.proofs.Common.{ℕ, ap, ◌∙◌, List, map}
use Rattle.guard_vars.specs.GuardNames.{guard_names, guard_names_beside}
use Rattle.plain_laws.specs.Plain.{plain_top}
use Rattle.plain_form.proofs.ProgramLaws.{no_jumps, few, ranged, behaves, structured}
use Rattle.plain_form.proofs.tops.plain.Goals as goal

pub returns-clause-no_jumps : goal.returns-clause-no_jumps
returns-clause-no_jumps c =
    no_jumps c.args.names.now c.args.program c.in_ok-tops.tops
    (c.in_ok-tops.ensures ∙ ap (λ (u : List (List ℕ)). map (plain_top (guard_names_beside u)) c.args.program.tops) c.in_ok-used.ensures.file
    ∙ ap (λ (ns : List (List ℕ)). map (plain_top (guard_names ns)) c.args.program.tops) c.as_slice.ensures.value)

pub returns-clause-few : goal.returns-clause-few
returns-clause-few c =
    few c.args.names.now c.args.program c.in_ok-tops.tops
    (c.in_ok-tops.ensures ∙ ap (λ (u : List (List ℕ)). map (plain_top (guard_names_beside u)) c.args.program.tops) c.in_ok-used.ensures.file
    ∙ ap (λ (ns : List (List ℕ)). map (plain_top (guard_names ns)) c.args.program.tops) c.as_slice.ensures.value)

pub returns-clause-ranged : goal.returns-clause-ranged
returns-clause-ranged c =
    ranged c.args.names.now c.args.program c.in_ok-tops.tops
    (c.in_ok-tops.ensures ∙ ap (λ (u : List (List ℕ)). map (plain_top (guard_names_beside u)) c.args.program.tops) c.in_ok-used.ensures.file
    ∙ ap (λ (ns : List (List ℕ)). map (plain_top (guard_names ns)) c.args.program.tops) c.as_slice.ensures.value)

pub returns-clause-behaves : goal.returns-clause-behaves
returns-clause-behaves c =
    behaves c.args.names.now c.args.program c.in_ok-tops.tops
    (c.in_ok-tops.ensures ∙ ap (λ (u : List (List ℕ)). map (plain_top (guard_names_beside u)) c.args.program.tops) c.in_ok-used.ensures.file
    ∙ ap (λ (ns : List (List ℕ)). map (plain_top (guard_names ns)) c.args.program.tops) c.as_slice.ensures.value)

pub returns-clause-structured : goal.returns-clause-structured
returns-clause-structured c =
    structured c.args.names.now c.args.program c.in_ok-tops.tops
    (c.in_ok-tops.ensures ∙ ap (λ (u : List (List ℕ)). map (plain_top (guard_names_beside u)) c.args.program.tops) c.in_ok-used.ensures.file
    ∙ ap (λ (ns : List (List ℕ)). map (plain_top (guard_names ns)) c.args.program.tops) c.as_slice.ensures.value)
