use Rattle.std.proofs.Common.{◌+◌, ◌≢◌, eqb, eqb-true, sym, ◌∙◌, arith}
use Rattle.std.proofs.lemmas.Bool.{eq-eqb}
use Rattle.c_tree.specs.Trees.{trees_of}
use Rattle.tidy_laws.specs.Changes.{are_low}
use Rattle.tidy_loops.specs.Exits.{exits_in}
use Rattle.tidy_loops.proofs.ExitCounts.{none_low}
use Rattle.tidy_loops.proofs.Outside.{not_all, all_low, not_so, none_there}
use Rattle.tidy_loops.proofs.allowing.are_all.Goals as goal

pub returns-in_default : goal.returns-in_default
returns-in_default c =
    let a = trees_of c.args.items.now in
    let h = c.in_default.ensures in
    let m : c.args.mentions ≢ c.args.others + exits_in c.args.slot a = λ e. h (omega (arith, e)) in
    not_all (are_low c.args.slot c.args.level a) c.args.mentions (c.args.others + exits_in c.args.slot a) m

pub returns-then-not-are_exits : goal.returns-then-not-are_exits
returns-then-not-are_exits c =
    let a = trees_of c.args.items.now in
    let h = c.in-Some.ensures in
    let m : c.args.mentions ≢ c.args.others + exits_in c.args.slot a = λ e.
    not_so (eqb c.in-Some.left (exits_in c.args.slot a))
    (eq-eqb c.in-Some.left (exits_in c.args.slot a) (omega (arith, e, h))) (sym c.are_exits.ensures ∙ c.if-not-are_exits.true) in
    not_all (are_low c.args.slot c.args.level a) c.args.mentions (c.args.others + exits_in c.args.slot a) m

pub returns-then-left-eq0 : goal.returns-then-left-eq0
returns-then-left-eq0 c =
    let a = trees_of c.args.items.now in
    let h = c.in-Some.ensures in
    let z = c.if-left-eq0.true in
    let x = eqb-true c.in-Some.left (exits_in c.args.slot a) (sym c.are_exits.ensures ∙ c.if-not-are_exits.false) in
    all_low (are_low c.args.slot c.args.level a) c.args.mentions (c.args.others + exits_in c.args.slot a)
    (none_low c.args.slot c.args.level a (none_there c.args.mentions c.args.others c.in-Some.left _ c.requires.some c.requires.outside h z))
    (omega (arith, h, z, x))
