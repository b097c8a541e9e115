use Rattle.std.proofs.Common.{rules, ap, ◌∙◌}
use Rattle.c_tree.specs.Cases.{selector_kind}
use Rattle.c_tree.specs.TestTrees.{selector_tree}
use Rattle.inward_moves.proofs.CaseLemmas.{kind-Source, kind-Pick}
use Rattle.inward_moves.proofs.numbers.+selector_kind.Goals as goal

pub returns-in-Some : goal.returns-in-Some
returns-in-Some t c = let e = ap (λ s. selector_kind (selector_tree s)) c.in-Source.is ∙ kind-Source c.in-Source.e in rw e (search rules)

pub returns-in-None : goal.returns-in-None
returns-in-None t c = let e = ap (λ s. selector_kind (selector_tree s)) c.in-Source.is ∙ kind-Source c.in-Source.e in rw e (search rules)

pub returns-in-Pick : goal.returns-in-Pick
returns-in-Pick t c = let e = ap (λ s. selector_kind (selector_tree s)) c.in-Pick.is ∙ kind-Pick c.in-Pick.field-0 c.in-Pick.field-1 c.in-Pick.rest in
    rw e (search rules)
