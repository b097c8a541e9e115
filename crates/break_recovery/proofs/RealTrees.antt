-- Each tree is that of a list of items.
use mathlib.Core.Path.{ap₂}
use Rattle.std.proofs.Common.{List, [], ◌∷◌, map, Option, Some, None, option_map, ◌≡◌, refl, ap, ◌∙◌}
use Rattle.c_tree.specs.declared.tree.Expression.{Expression, roll-Expression, out-roll-Expression}
use Rattle.c_tree.specs.declared.tree.Place as L
use Rattle.c_tree.specs.declared.tree.Node as N
use Rattle.c_tree.specs.declared.tree.Test as S
use Rattle.c_tree.specs.declared.tree.Selector as V
use Rattle.c_tree.specs.declared.tree.Item as I
use Rattle.c_tree.specs.declared.tree.Section as Real
use Rattle.c_tree.specs.ExpressionTrees.{ExpressionTree, PlaceTree, NodeTree, Arguments, Typed, Var, Cell, Number, Character, EnumName, Text, Array, Read, Unary, Cast, Binary, Conditional, Assign, Update, Count, Comma, Call, NoArgument, Argument, arguments, expression_tree, place_tree, node_tree}
use Rattle.c_tree.specs.TestTrees.{TestTree, Source, On, Off, AndOff, OrOn, SelectorTree, Selects, Pick, test_tree, selector_tree}
use Rattle.c_tree.specs.Trees.{Tree, Forest, Nil, Then, Sections, NoSection, Section, Evaluate, Return, If, While, Do, For, Switch, Block, Local, Break, Continue, Goto, Mark, Arm, Leap, Land, Arrival, Note, expression_trees, tree_of, trees_of, sections_of}
use Rattle.c_tree.proofs.ExpressionLaws.{expression-parts, place-Var, place-Cell, node-Number, node-Character, node-EnumName, node-Text, node-Array, node-Read, node-Unary, node-Cast, node-Binary, node-Conditional, node-Assign, node-Update, node-Count, node-Comma, node-Call, test-Source, test-On, test-Off, test-AndOff, test-OrOn, selector-Source, selector-Pick}
use Rattle.c_tree.proofs.TreeLaws.{tree-Evaluate, tree-Return, tree-If, tree-While, tree-Do, tree-For, tree-Switch, tree-Block, tree-Local, tree-Break, tree-Continue, tree-Goto, tree-Mark, tree-Arm, tree-Leap, tree-Land, tree-Arrival, tree-Note, trees-none, trees-more, sections-none}
use Rattle.c_tree.proofs.Views.{section-first}
use Rattle.break_recovery.proofs.RenamedCounts.{three_same, four_same}

mutual
  real_expression : (e : ExpressionTree) → (x : Expression) × (expression_tree x ≡ e)
  real_expression (Typed k n) =
      let m = real_node n in (
        roll-Expression (record { kind = k; node = m.0 }),
        expression-parts (roll-Expression (record { kind = k; node = m.0 })) ∙
            ap (λ o. Typed o.kind (node_tree o.node)) (out-roll-Expression (record { kind = k; node = m.0 })) ∙ ap (Typed k) m.1,
      )

  real_place : (p : PlaceTree) → (x : L.Place) × (place_tree x ≡ p)
  real_place (Var h) = (L.Var h, place-Var h)
  real_place (Cell h a) = let x = real_expression a in (L.Cell h x.0, place-Cell h x.0 ∙ ap (Cell h) x.1)

  real_node : (n : NodeTree) → (x : N.Node) × (node_tree x ≡ n)
  real_node (Number z) = (N.Number z, node-Number z)
  real_node (Character b) = (N.Character b, node-Character b)
  real_node (EnumName m z) = (N.EnumName m z, node-EnumName m z)
  real_node (Text bs) = (N.Text bs, node-Text bs)
  real_node (Array h) = (N.Array h, node-Array h)
  real_node (Read p) = let x = real_place p in (N.Read x.0, node-Read x.0 ∙ ap Read x.1)
  real_node (Unary op a) = let x = real_expression a in (N.Unary op x.0, node-Unary op x.0 ∙ ap (Unary op) x.1)
  real_node (Cast a) = let x = real_expression a in (N.Cast x.0, node-Cast x.0 ∙ ap Cast x.1)
  real_node (Binary op a b) = let x = real_expression a in let y = real_expression b in (N.Binary op x.0 y.0, node-Binary op x.0 y.0 ∙ ap₂ (Binary op) x.1 y.1)
  real_node (Conditional a b c) =
      let x = real_expression a in let y = real_expression b in let z = real_expression c in
      (N.Conditional x.0 y.0 z.0, node-Conditional x.0 y.0 z.0 ∙ three_same Conditional x.1 y.1 z.1)
  real_node (Assign p a) = let x = real_place p in let y = real_expression a in (N.Assign x.0 y.0, node-Assign x.0 y.0 ∙ ap₂ Assign x.1 y.1)
  real_node (Update op p a) = let x = real_place p in let y = real_expression a in (N.Update op x.0 y.0, node-Update op x.0 y.0 ∙ ap₂ (Update op) x.1 y.1)
  real_node (Count p up after) = let x = real_place p in (N.Count x.0 up after, node-Count x.0 up after ∙ ap (λ q. Count q up after) x.1)
  real_node (Comma a b) = let x = real_expression a in let y = real_expression b in (N.Comma x.0 y.0, node-Comma x.0 y.0 ∙ ap₂ Comma x.1 y.1)
  real_node (Call m xs) = let ys = real_arguments xs in (N.Call m ys.0, node-Call m ys.0 ∙ ap (Call m) ys.1)

  real_arguments : (xs : Arguments) → (ys : List Expression) × (arguments (map expression_tree ys) ≡ xs)
  real_arguments NoArgument = ([], refl)
  real_arguments (Argument x xs) = let y = real_expression x in let ys = real_arguments xs in (y.0 ∷ ys.0, ap₂ Argument y.1 ys.1)

real_test : (t : TestTree) → (x : S.Test) × (test_tree x ≡ t)
real_test (Source e) = let x = real_expression e in (S.Source x.0, test-Source x.0 ∙ ap Source x.1)
real_test (On l) = (S.On l, test-On l)
real_test (Off l) = (S.Off l, test-Off l)
real_test (AndOff l t) = let x = real_test t in (S.AndOff l x.0, test-AndOff l x.0 ∙ ap (AndOff l) x.1)
real_test (OrOn l t) = let x = real_test t in (S.OrOn l x.0, test-OrOn l x.0 ∙ ap (OrOn l) x.1)

real_selector : (s : SelectorTree) → (x : V.Selector) × (selector_tree x ≡ s)
real_selector (Selects e) = let x = real_expression e in (V.Source x.0, selector-Source x.0 ∙ ap Selects x.1)
real_selector (Pick l k s) = let x = real_selector s in (V.Pick l k x.0, selector-Pick l k x.0 ∙ ap (Pick l k) x.1)

real_option : (o : Option ExpressionTree) → (x : Option Expression) × (option_map expression_tree x ≡ o)
real_option None = (None, refl)
real_option (Some e) = let x = real_expression e in (Some x.0, ap Some x.1)

real_all : (es : List ExpressionTree) → (xs : List Expression) × (expression_trees xs ≡ es)
real_all [] = ([], refl)
real_all (e ∷ es) = let x = real_expression e in let xs = real_all es in (x.0 ∷ xs.0, ap₂ (λ z zs. z ∷ zs) x.1 xs.1)

real_values : (o : Option (List ExpressionTree)) → (x : Option (List Expression)) × (option_map expression_trees x ≡ o)
real_values None = (None, refl)
real_values (Some es) = let x = real_all es in (Some x.0, ap Some x.1)

mutual
  pub real_list : (a : Forest) → (xs : List I.Item) × (trees_of xs ≡ a)
  real_list Nil = ([], trees-none)
  real_list (Then x xs) = let y = real_item x in let ys = real_list xs in (y.0 ∷ ys.0, trees-more y.0 ys.0 ∙ ap₂ Then y.1 ys.1)

  real_item : (x : Tree) → (y : I.Item) × (tree_of y ≡ x)
  real_item (Evaluate e) = let x = real_expression e in (I.Evaluate x.0, tree-Evaluate x.0 ∙ ap Evaluate x.1)
  real_item (Return e) = let x = real_option e in (I.Return x.0, tree-Return x.0 ∙ ap Return x.1)
  real_item (If t a b) = let x = real_test t in let y = real_list a in let z = real_list b in
      (I.If x.0 y.0 z.0, tree-If x.0 y.0 z.0 ∙ three_same If x.1 y.1 z.1)
  real_item (While t a) = let x = real_test t in let y = real_list a in (I.While x.0 y.0, tree-While x.0 y.0 ∙ ap₂ While x.1 y.1)
  real_item (Do a t) = let y = real_list a in let x = real_test t in (I.Do y.0 x.0, tree-Do y.0 x.0 ∙ ap₂ Do y.1 x.1)
  real_item (For f t u a) =
      let w = real_list f in let x = real_option t in let y = real_option u in let z = real_list a in
      (I.For w.0 x.0 y.0 z.0, tree-For w.0 x.0 y.0 z.0 ∙ four_same For w.1 x.1 y.1 z.1)
  real_item (Switch s c) = let x = real_selector s in let y = real_sections c in (I.Switch x.0 y.0, tree-Switch x.0 y.0 ∙ ap₂ Switch x.1 y.1)
  real_item (Block a) = let x = real_list a in (I.Block x.0, tree-Block x.0 ∙ ap Block x.1)
  real_item (Local x es) = let y = real_values es in (I.Local x y.0, tree-Local x y.0 ∙ ap (Local x) y.1)
  real_item Break = (I.Break, tree-Break)
  real_item Continue = (I.Continue, tree-Continue)
  real_item (Goto l) = (I.Goto l, tree-Goto l)
  real_item (Mark l) = (I.Mark l, tree-Mark l)
  real_item (Arm l e) = let x = real_option e in (I.Arm l x.0, tree-Arm l x.0 ∙ ap (Arm l) x.1)
  real_item (Leap l) = (I.Leap l, tree-Leap l)
  real_item (Land l) = (I.Land l, tree-Land l)
  real_item (Arrival e) = let x = real_option e in (I.Arrival x.0, tree-Arrival x.0 ∙ ap Arrival x.1)
  real_item (Note bs) = (I.Note bs, tree-Note bs)

  real_sections : (c : Sections) → (xs : List Real.Section) × (sections_of xs ≡ c)
  real_sections NoSection = ([], sections-none)
  real_sections (Section cases default a ends c) =
      let x = real_all cases in
      let y = real_list a in
      let z = real_sections c in (
        Real.roll-Section (record { cases = x.0; default = default; list = y.0; ends = ends }) ∷ z.0,
        section-first (Real.roll-Section (record { cases = x.0; default = default; list = y.0; ends = ends })) z.0
            ∙ ap (λ o. Section (expression_trees o.cases) o.default (trees_of o.list) o.ends (sections_of z.0))
            (Real.out-roll-Section (record { cases = x.0; default = default; list = y.0; ends = ends }))
            ∙ three_same (λ e b d. Section e default b ends d) x.1 y.1 z.1,
      )

pub real_body : (b : Option Forest) → (x : Option (List I.Item)) × (option_map trees_of x ≡ b)
real_body None = (None, refl)
real_body (Some a) = let x = real_list a in (Some x.0, ap Some x.1)
