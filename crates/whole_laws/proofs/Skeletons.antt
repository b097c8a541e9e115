-- The skeleton of a list has its Notes, so that conversions, moves and simplifications keep them.
use Rattle.std.proofs.Common.{◌≡◌, eqb, List, [], ◌++◌, Option, Some, None, refl, sym, ap, ◌∙◌, inl, inr}
use Rattle.c_tree.specs.declared.tree.Item.{Item}
use Rattle.c_tree.specs.ExpressionTrees.{ExpressionTree}
use Rattle.c_tree.specs.TestTrees.{TestTree, Source, On}
use Rattle.c_tree.specs.Trees.{Tree, Forest, Nil, Then, Sections, NoSection, Section, If, While, Do, For, Switch, Block, Goto, Mark, Arm, Leap, Land, trees_of}
use Rattle.c_tree.specs.WellMade.{IsWellMade}
use Rattle.move_order_laws.specs.Skeletons.{test_source, reduced_selector, reduced, if_skeleton, do_skeleton, goto_condition, or_statement, arm_skeleton, skeleton, skeleton_of, skeleton_in}
use Rattle.move_order_laws.proofs.Laws.{skeleton_laws}
use Rattle.move_order_laws.specs.declared.kept.Kept.{Kept}
use Rattle.move_order_laws.specs.Derivations.{Derives}
use Rattle.move_order_laws.proofs.OneDerivation.{well_made_derived}
use Rattle.guard_simplify.specs.declared.choice.Choice.{Choice}
use Rattle.guard_simplify.specs.Choice.{choices}
use Rattle.guard_simplify.specs.Application.{Reaches, none, then}
use Rattle.guard_simplify.proofs.Members.{in_first}
use Rattle.guard_simplify.proofs.Next.{choice_laws}
use Rattle.guard_vars.specs.Conversion.{converted_list}
use Rattle.move_order_laws.proofs.ConvertedTrees.{converted_trees}
use Rattle.guard_simplify.proofs.Applied.{IsSimplified, chosen_simplified}
use Rattle.whole_laws.specs.Notes.{notes, notes_in, notes_among}
use Rattle.whole_laws.proofs.Lists.{both, notes_join, notes_one}

-- ---- the skeleton

-- a goto with its condition has no Notes
statement_by : (t : TestTree) (a b xs : Forest) → notes xs ≡ notes a ++ notes b → notes (or_statement (goto_condition t a b) xs) ≡ notes a ++ notes b
statement_by (Source e) (Then (Goto l) Nil) Nil xs h = refl
statement_by (Source e) (Then (Goto l) Nil) (Then y b) xs h = h
statement_by (Source e) (Then (Goto l) (Then x a)) b xs h = h
statement_by (Source e) Nil b xs h = h
statement_by (Source e) (Then _ a) b xs h = h
statement_by (On l) a b xs h = h
statement_by _ a b xs h = h

if_notes : (o : Option ExpressionTree) (a b : Forest) → notes (if_skeleton o a b) ≡ notes a ++ notes b
if_notes None a b = notes_join a b
if_notes (Some e) a b = notes_one (If (Source e) a b)

do_notes : (o : Option ExpressionTree) (a : Forest) → notes (do_skeleton o a) ≡ notes a
do_notes None a = refl
do_notes (Some e) a = notes_one (Do a (Source e))

arm_notes : (e : Option ExpressionTree) → notes (arm_skeleton e) ≡ []
arm_notes None = refl
arm_notes (Some e) = refl

mutual
  pub skeleton_notes : (a : Forest) → notes (skeleton a) ≡ notes a
  skeleton_notes Nil = refl
  skeleton_notes (Then x a) = notes_join (skeleton_of x) (skeleton a) ∙
      both (notes (skeleton_of x)) (notes_in x) (notes (skeleton a)) (notes a) (skeleton_notes_of x) (skeleton_notes a)

  skeleton_notes_of : (x : Tree) → notes (skeleton_of x) ≡ notes_in x
  skeleton_notes_of (If t a b) =
      statement_by t a b (if_skeleton (test_source t) (skeleton a) (skeleton b))
      (if_notes (test_source t) (skeleton a) (skeleton b) ∙ both (notes (skeleton a)) (notes a) (notes (skeleton b)) (notes b) (skeleton_notes a)
      (skeleton_notes b))
  skeleton_notes_of (While t a) = notes_one (While (reduced t) (skeleton a)) ∙ skeleton_notes a
  skeleton_notes_of (Do a t) = do_notes (test_source t) (skeleton a) ∙ skeleton_notes a
  skeleton_notes_of (For first t u a) =
      notes_one (For (skeleton first) t u (skeleton a)) ∙ both (notes (skeleton first)) (notes first) (notes (skeleton a)) (notes a)
      (skeleton_notes first) (skeleton_notes a)
  skeleton_notes_of (Switch s c) = notes_one (Switch (reduced_selector s) (skeleton_in c)) ∙ skeleton_notes_in c
  skeleton_notes_of (Block a) = notes_one (Block (skeleton a)) ∙ skeleton_notes a
  skeleton_notes_of (Goto l) = refl
  skeleton_notes_of (Mark l) = refl
  skeleton_notes_of (Arm l e) = arm_notes e
  skeleton_notes_of (Leap l) = refl
  skeleton_notes_of (Land l) = refl
  skeleton_notes_of x = notes_one x

  skeleton_notes_in : (c : Sections) → notes_among (skeleton_in c) ≡ notes_among c
  skeleton_notes_in NoSection = refl
  skeleton_notes_in (Section cases default a ends c) = both (notes (skeleton a)) (notes a) (notes_among (skeleton_in c)) (notes_among c)
      (skeleton_notes a) (skeleton_notes_in c)

-- ---- what keeps the skeleton

-- lists with one skeleton have the same Notes
same_notes : (a b : Forest) → skeleton a ≡ skeleton b → notes a ≡ notes b
same_notes a b e = sym (skeleton_notes a) ∙ ap notes e ∙ skeleton_notes b

next_kept : (old new : List Item) → IsSimplified old new → IsWellMade (trees_of old) → IsWellMade (trees_of new) →
    skeleton (trees_of new) ≡ skeleton (trees_of old)
next_kept old new s v w = elim s.either [
  | inl r ↦ skeleton_laws.simplified (trees_of old) (trees_of new) v.converted w.converted r
  | inr d ↦ ap skeleton d.1 ∙ skeleton_laws.dropped (eqb d.0) (trees_of old) v.converted
]

reached_kept : {old : List Item} {cs : List Choice} {new : List Item} → Reaches old cs new → IsWellMade (trees_of old) →
    skeleton (trees_of new) ≡ skeleton (trees_of old)
reached_kept none w = refl
reached_kept {old} (then {cs = cs} {body = body} {new = new} c r n) w =
    let i = in_first (choices (trees_of body)) c n.next in
    let v = choice_laws.reached_made old body cs r w in
    next_kept body new (chosen_simplified c body new i n.applied) v (choice_laws.made c body new i n.applied v) ∙ reached_kept r w

-- a body after its conversion, its moves and its simplifications
pub moved_notes : (body middle new : List Item) (ms : List Kept) (cs : List Choice) → IsWellMade (trees_of (converted_list body)) →
    Derives (converted_list body) ms middle → Reaches middle cs new → notes (trees_of new) ≡ notes (trees_of body)
moved_notes body middle new ms cs w d r =
    same_notes (trees_of new) (trees_of body)
    (reached_kept r (well_made_derived d w) ∙ skeleton_laws.derived (converted_list body) ms middle w d ∙ ap skeleton (converted_trees body) ∙
    skeleton_laws.converted (trees_of body))
