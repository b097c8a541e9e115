use Rattle.std.proofs.Common.{◌≡◌, ℕ, ◌+◌, ◌-◌, length, arith, ap, ◌∙◌}
use Rattle.std.proofs.Math.Path.{fun_ext}
use Rattle.c_tree.specs.Everywhere.{total}
use Rattle.c_tree.specs.Numerals.{constant}
use Rattle.c_tree.specs.Trees.{trees_of, join}
use Rattle.c_tree.proofs.TreeLaws.{trees-none}
use Rattle.flat_laws.specs.Loose.{NoArrival}
use Rattle.flat_laws.specs.Pieces.{Stays}
use Rattle.flat_laws.specs.FlatForm.{first_here, marks, place_in}
use Rattle.lower_laws.specs.Lowered.{Layout, coded, placed, lowered, declarations, variables_of}
use Rattle.goto_lowering.specs.Codes.{codes_of}
use Rattle.goto_lowering.specs.Renumbered.{renumbered}
use Rattle.goto_lowering.proofs.Layouts.{layout_is}
use Rattle.goto_lowering.proofs.NumberLaws.{placed_is}
use Rattle.goto_lowering.proofs.bodies.lower_body.Goals as goal

pub declared_count-requires : goal.declared_count-requires
declared_count-requires c = let e = c.in_ok-made.ensures.variables in omega (arith, e)

pub returns-clause-codes : goal.returns-clause-codes
returns-clause-codes c =
    let p = c.args.plan.now in
    let a = trees_of c.args.body in
    let at = λ (l : Layout) (v : ℕ). lowered l (first_here v) Stays Stays NoArrival a in
    c.in_ok-codes.ensures ∙ ap marks (c.in_ok-made.ensures.items ∙ ap (λ l. at l c.len-slots.result) (layout_is p a c.requires) ∙
    ap (at (coded constant p.slots a)) c.len-slots.ensures.value)

pub returns-clause-items : goal.returns-clause-items
returns-clause-items c =
    let p = c.args.plan.now in
    let a = trees_of c.args.body in
    let at = λ (l : Layout) (v : ℕ). lowered l (first_here v) Stays Stays NoArrival a in
    let k = coded constant p.slots a in
    let n = length p.slots in
    let list = c.in_ok-made.ensures.items ∙ ap (λ l. at l c.len-slots.result) (layout_is p a c.requires) ∙ ap (at k) c.len-slots.ensures.value in
    let ls = codes_of p.slots a in
    let codes = c.in_ok-codes.ensures ∙ ap marks list in
    let same = fun_ext (λ m. c.in_ok-places.ensures m ∙ ap (λ z. place_in z m) (c.as_slice.ensures.value ∙ codes)) in
    let vs = c.in_ok-made.ensures.variables in
    let slots = c.len-slots.ensures.value in
    let count : c.declared_count.result ≡ n - c.args.params + total variables_of a = (let e = c.declared_count.ensures in omega (arith, e, vs, slots)) in
    c.in_ok-add_renumbered.ensures
    ∙ ap (λ z. join (trees_of c.declare.new.out) (renumbered z (trees_of c.in_ok-made.made.items))) same
    ∙ ap (λ z. join (trees_of c.declare.new.out) (renumbered (place_in ls) z)) list
    ∙ ap (join (trees_of c.declare.new.out)) (placed_is ls k (first_here n) a)
    ∙ ap (λ z. join z (at (placed ls k) n)) (c.in_ok-declare.ensures ∙
    ap (λ z. join z (declarations c.args.params c.declared_count.result)) (ap trees_of c.new-out.ensures ∙ trees-none) ∙
    ap (declarations c.args.params) count)
