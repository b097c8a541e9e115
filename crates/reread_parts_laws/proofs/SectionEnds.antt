-- A `break` at the end of a section is its end; sections with a list are not passed on.
use Rattle.std.proofs.Common.{◌≡◌, ◌<◌, ◌⊎◌, inl, inr, Bool, true, false, cond, not, ◌&&◌, List, [], ◌∷◌, ◌++◌, map, length, refl, ap, sym, ◌∙◌, arith}
use Rattle.std.specs.Prelude.{IsTrue, option_map}
use Rattle.c_lexer.proofs.Truths.{and_false}
use Rattle.c_tree.specs.declared.tree.Expression.{Expression}
use Rattle.c_tree.specs.declared.tree.Item.{Item, out-Item, out-roll-Item}
use Rattle.c_tree.specs.declared.tree.Item as item
use Rattle.c_tree.specs.declared.tree.Item.TheOpen as I
use Rattle.c_tree.specs.declared.tree.Item.TheVariants as V
use Rattle.c_tree.specs.declared.tree.Section.{Section as RealSection, Section-F, out-Section, out-roll-Section}
use Rattle.c_tree.specs.ExpressionTrees.{ExpressionTree}
use Rattle.c_tree.specs.Trees.{Tree, Forest, Nil, Then, Sections, NoSection, Section}
use Rattle.c_tree.specs.Trees as t
use Rattle.c_tree.specs.TextItems.{is_empty}
use Rattle.c_tree.specs.SectionLabels.{with_entries, pass_to, labels_passed}
use Rattle.c_statements.specs.Sections.{has_label, is_break, ends_in_break, without_last, ended}
use Rattle.c_resolved_defs.specs.Form.{ends_with_break, IsKept}
use Rattle.reread_parts_laws.proofs.Mirrors.{expression_in}
use Rattle.reread_parts_laws.proofs.ItemMirrors.{test_in, selector_in, a_section, tree_in, forest_in, sections_in}
use Rattle.reread_parts_laws.proofs.SectionSources.{reading_of}

-- ---- `break`

abbrev is_break_tree : Tree → Bool
is_break_tree t.Break = true
is_break_tree _ = false

abbrev of_layer : I.Item-F Item RealSection → Bool
of_layer o = elim o as (λ _. Bool) [ I.Break ↦ true | _ ↦ false ]

break_same : (x : Tree) → is_break (tree_in x) ≡ is_break_tree x
break_same (t.Evaluate e) = ap of_layer (ap out-Item (sym (V.rolls-Evaluate (expression_in e))) ∙ out-roll-Item (I.Evaluate (expression_in e)))
break_same (t.Return e) = ap of_layer (ap out-Item (sym (V.rolls-Return (option_map expression_in e))) ∙ out-roll-Item (I.Return (option_map expression_in e)))
break_same (t.If c a b) = ap of_layer (ap out-Item (sym (V.rolls-If (test_in c) (forest_in a) (forest_in b))) ∙
    out-roll-Item (I.If (test_in c) (forest_in a) (forest_in b)))
break_same (t.While c a) = ap of_layer (ap out-Item (sym (V.rolls-While (test_in c) (forest_in a))) ∙ out-roll-Item (I.While (test_in c) (forest_in a)))
break_same (t.Do a c) = ap of_layer (ap out-Item (sym (V.rolls-Do (forest_in a) (test_in c))) ∙ out-roll-Item (I.Do (forest_in a) (test_in c)))
break_same (t.For first c u a) =
    ap of_layer (ap out-Item (sym (V.rolls-For (forest_in first) (option_map expression_in c) (option_map expression_in u) (forest_in a))) ∙
    out-roll-Item (I.For (forest_in first) (option_map expression_in c) (option_map expression_in u) (forest_in a)))
break_same (t.Switch s c) = ap of_layer (ap out-Item (sym (V.rolls-Switch (selector_in s) (sections_in c))) ∙
    out-roll-Item (I.Switch (selector_in s) (sections_in c)))
break_same (t.Block a) = ap of_layer (ap out-Item (sym (V.rolls-Block (forest_in a))) ∙ out-roll-Item (I.Block (forest_in a)))
break_same (t.Local k given) = ap of_layer (ap out-Item (sym (V.rolls-Local k (option_map (map expression_in) given))) ∙
    out-roll-Item (I.Local k (option_map (map expression_in) given)))
break_same t.Break = ap of_layer (ap out-Item (sym V.rolls-Break) ∙ out-roll-Item I.Break)
break_same t.Continue = ap of_layer (ap out-Item (sym V.rolls-Continue) ∙ out-roll-Item I.Continue)
break_same (t.Goto l) = ap of_layer (ap out-Item (sym (V.rolls-Goto l)) ∙ out-roll-Item (I.Goto l))
break_same (t.Mark l) = ap of_layer (ap out-Item (sym (V.rolls-Mark l)) ∙ out-roll-Item (I.Mark l))
break_same (t.Arm l e) = ap of_layer (ap out-Item (sym (V.rolls-Arm l (option_map expression_in e))) ∙ out-roll-Item (I.Arm l (option_map expression_in e)))
break_same (t.Leap l) = ap of_layer (ap out-Item (sym (V.rolls-Leap l)) ∙ out-roll-Item (I.Leap l))
break_same (t.Land l) = ap of_layer (ap out-Item (sym (V.rolls-Land l)) ∙ out-roll-Item (I.Land l))
break_same (t.Arrival e) = ap of_layer (ap out-Item (sym (V.rolls-Arrival (option_map expression_in e))) ∙
    out-roll-Item (I.Arrival (option_map expression_in e)))
break_same (t.Note bytes) = ap of_layer (ap out-Item (sym (V.rolls-Note bytes)) ∙ out-roll-Item (I.Note bytes))

one_same : (x : Tree) → is_break_tree x ≡ ends_with_break (Then x Nil)
one_same t.Break = refl
one_same _ = refl

more_same : (x y : Tree) (ys : Forest) → ends_with_break (Then x (Then y ys)) ≡ ends_with_break (Then y ys)
more_same t.Break y ys = refl
more_same _ y ys = refl

pub ends_same : (a : Forest) → ends_in_break (forest_in a) ≡ ends_with_break a
ends_same Nil = refl
ends_same (Then x Nil) = break_same x ∙ one_same x
ends_same (Then x (Then y ys)) = ends_same (Then y ys) ∙ sym (more_same x y ys)

break_last : (xs : List Item) → ends_in_break (xs ++ item.Break ∷ []) ≡ true
break_last [] = break_same t.Break
break_last (x ∷ []) = break_same t.Break
break_last (x ∷ y ∷ ys) = break_last (y ∷ ys)

before_last : (xs : List Item) → without_last (xs ++ item.Break ∷ []) ≡ xs
before_last [] = refl
before_last (x ∷ []) = refl
before_last (x ∷ y ∷ ys) = ap (λ l. x ∷ l) (before_last (y ∷ ys))

-- ---- the end of a section

labelled : (cases : List ExpressionTree) (default : Bool) (list : List Item) → (0 < length cases) ⊎ IsTrue default →
    has_label (reading_of (map expression_in cases) default list) ≡ true
labelled [] true list h = refl
labelled [] false list (inl h) = absurd (omega (arith, h))
labelled [] false list (inr h) = cc
labelled (x ∷ xs) default list h = refl

pub ended_here : (cases : List ExpressionTree) (default : Bool) (xs : List Item) → (0 < length cases) ⊎ IsTrue default →
    ended (reading_of (map expression_in cases) default (xs ++ item.Break ∷ [])) ≡ a_section (map expression_in cases) default xs true
ended_here cases default xs h =
    let list = xs ++ item.Break ∷ [] in
    let es = map expression_in cases in
    (λ i. cond (labelled cases default list h i && break_last xs i) (a_section es default (before_last xs i) true) (a_section es default list false))

pub ended_open : (cases : List ExpressionTree) (default : Bool) (a : Forest) → ends_with_break a ≡ false →
    ended (reading_of (map expression_in cases) default (forest_in a)) ≡ a_section (map expression_in cases) default (forest_in a) false
ended_open cases default a h =
    let es = map expression_in cases in
    let r = reading_of es default (forest_in a) in
    ap (λ b. cond (has_label r && b) (a_section es default (without_last (forest_in a)) true) (a_section es default (forest_in a) false)) (ends_same a ∙ h)
    ∙ ap (λ b. cond b (a_section es default (without_last (forest_in a)) true) (a_section es default (forest_in a) false)) (and_false (has_label r))

-- ---- no section but the last gives its labels on

abbrev of_section : Section-F Item RealSection → Bool
of_section o = is_empty o.list && not o.ends

parts : (cases : List Expression) (default : Bool) (list : List Item) (ends : Bool) →
    out-Section (a_section cases default list ends) ≡ record { cases = cases; default = default; list = list; ends = ends }
parts cases default list ends = out-roll-Section (record { cases = cases; default = default; list = list; ends = ends })

not_passing : (cases : List Expression) (default : Bool) (a : Forest) (ends : Bool) (more : List ExpressionTree) (d : Bool) (b : Forest) (e : Bool)
    (c : Sections) → IsKept a ends (Section more d b e c) → of_section (out-Section (a_section cases default (forest_in a) ends)) ≡ false
not_passing cases default Nil true more d b e c k = ap of_section (parts cases default [] true)
not_passing cases default Nil false more d b e c k = absurd k
not_passing cases default (Then x xs) ends more d b e c k = ap of_section (parts cases default (forest_in (Then x xs)) ends)

-- each is kept
abbrev pub AllKept : Sections → Type 0
AllKept NoSection = Unit {0}
AllKept (Section cases default a ends c) = IsKept a ends c × AllKept c

pub all_passed : (c : Sections) → AllKept c → labels_passed (sections_in c) ≡ sections_in c
all_passed NoSection k = refl
all_passed (Section cases default a ends NoSection) k = refl
all_passed (Section cases default a ends (Section more d b e c)) k =
    let s = a_section (map expression_in cases) default (forest_in a) ends in
    let t = a_section (map expression_in more) d (forest_in b) e in
    let rest = sections_in c in
    let no = not_passing (map expression_in cases) default a ends more d b e c (k.0) in
    ap (pass_to s) (all_passed (Section more d b e c) (k.1)) ∙ ap (λ z. cond z (with_entries (out-Section s) t ∷ rest) (s ∷ t ∷ rest)) no
