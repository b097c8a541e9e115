-- Expressions and items with a slot gone: each later slot has one number less.
use Rattle.std.specs.Prelude.{ℕ, zero, suc, pred, cond, nat_lt, List, [], ◌∷◌, map, Option, option_map}
use Rattle.c_tree.specs.declared.tree.Slot.{Slot}
use Rattle.c_tree.specs.declared.tree.Home.{Home}
use Rattle.c_tree.specs.declared.tree.Home.TheVariants as H
use Rattle.c_tree.specs.ExpressionTrees.{ExpressionTree, PlaceTree, NodeTree, Arguments, Typed, Var, Cell, Array, Read, Unary, Cast, Binary, Conditional, Assign, Update, Count, Comma, Call, NoArgument, Argument}
use Rattle.c_tree.specs.TestTrees.{TestTree, Source, AndOff, OrOn, SelectorTree, Selects, Pick}
use Rattle.c_tree.specs.Trees.{Tree, Forest, Nil, Then, Sections, NoSection, Section, Evaluate, Return, If, While, Do, For, Switch, Block, Local, Arm}

-- the number of another slot once slot g is gone
abbrev pub new_number : ℕ → ℕ → ℕ
new_number g x = cond (nat_lt g x) (pred x) x

-- slots without the one of this number
abbrev pub without : ℕ → List Slot → List Slot
without g [] = []
without zero (s ∷ ss) = ss
without (suc g) (s ∷ ss) = s ∷ without g ss

abbrev pub renumbered_home : ℕ → Home → Home
renumbered_home g (H.Slot x) = H.Slot (new_number g x)
renumbered_home g (H.Global m) = H.Global m

abbrev mutual
  pub renumbered : ℕ → ExpressionTree → ExpressionTree
  renumbered g (Typed kind node) = Typed kind (renumbered_node g node)

  pub renumbered_place : ℕ → PlaceTree → PlaceTree
  renumbered_place g (Var h) = Var (renumbered_home g h)
  renumbered_place g (Cell h a) = Cell (renumbered_home g h) (renumbered g a)

  pub renumbered_node : ℕ → NodeTree → NodeTree
  renumbered_node g (Array h) = Array (renumbered_home g h)
  renumbered_node g (Read p) = Read (renumbered_place g p)
  renumbered_node g (Unary op a) = Unary op (renumbered g a)
  renumbered_node g (Cast a) = Cast (renumbered g a)
  renumbered_node g (Binary op a b) = Binary op (renumbered g a) (renumbered g b)
  renumbered_node g (Conditional a b c) = Conditional (renumbered g a) (renumbered g b) (renumbered g c)
  renumbered_node g (Assign p a) = Assign (renumbered_place g p) (renumbered g a)
  renumbered_node g (Update op p a) = Update op (renumbered_place g p) (renumbered g a)
  renumbered_node g (Count p up after) = Count (renumbered_place g p) up after
  renumbered_node g (Comma a b) = Comma (renumbered g a) (renumbered g b)
  renumbered_node g (Call m xs) = Call m (renumbered_arguments g xs)
  renumbered_node g x = x

  pub renumbered_arguments : ℕ → Arguments → Arguments
  renumbered_arguments g NoArgument = NoArgument
  renumbered_arguments g (Argument x xs) = Argument (renumbered g x) (renumbered_arguments g xs)

abbrev pub renumbered_test : ℕ → TestTree → TestTree
renumbered_test g (Source e) = Source (renumbered g e)
renumbered_test g (AndOff l t) = AndOff l (renumbered_test g t)
renumbered_test g (OrOn l t) = OrOn l (renumbered_test g t)
renumbered_test g t = t

abbrev pub renumbered_selector : ℕ → SelectorTree → SelectorTree
renumbered_selector g (Selects e) = Selects (renumbered g e)
renumbered_selector g (Pick l n s) = Pick l n (renumbered_selector g s)

abbrev pub renumbered_option : ℕ → Option ExpressionTree → Option ExpressionTree
renumbered_option g e = option_map (renumbered g) e

abbrev pub renumbered_values : ℕ → Option (List ExpressionTree) → Option (List ExpressionTree)
renumbered_values g es = option_map (map (renumbered g)) es

abbrev mutual
  -- a list with the slot gone; cases are constants, which name no slot
  pub renumbered_list : ℕ → Forest → Forest
  renumbered_list g Nil = Nil
  renumbered_list g (Then x xs) = Then (renumbered_item g x) (renumbered_list g xs)

  pub renumbered_item : ℕ → Tree → Tree
  renumbered_item g (Evaluate e) = Evaluate (renumbered g e)
  renumbered_item g (Return e) = Return (renumbered_option g e)
  renumbered_item g (If t a b) = If (renumbered_test g t) (renumbered_list g a) (renumbered_list g b)
  renumbered_item g (While t a) = While (renumbered_test g t) (renumbered_list g a)
  renumbered_item g (Do a t) = Do (renumbered_list g a) (renumbered_test g t)
  renumbered_item g (For f t u a) = For (renumbered_list g f) (renumbered_option g t) (renumbered_option g u) (renumbered_list g a)
  renumbered_item g (Switch s c) = Switch (renumbered_selector g s) (renumbered_sections g c)
  renumbered_item g (Block a) = Block (renumbered_list g a)
  renumbered_item g (Local x es) = Local (new_number g x) (renumbered_values g es)
  renumbered_item g (Arm l e) = Arm l (renumbered_option g e)
  renumbered_item g x = x

  pub renumbered_sections : ℕ → Sections → Sections
  renumbered_sections g NoSection = NoSection
  renumbered_sections g (Section cases default a ends c) = Section cases default (renumbered_list g a) ends (renumbered_sections g c)
