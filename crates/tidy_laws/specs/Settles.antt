-- A body in which the slot is 0 wherever it is tested, and the same without the slot.
use Rattle.std.proofs.Common.{ℕ, pos, Bool, true, false, List, [], ◌∷◌, Option, Some, ◌≡◌}
use Rattle.std.specs.Prelude.{IfSome}
use Rattle.c_types.specs.declared.kinds.IntKind.{IntKind}
use Rattle.c_types.specs.declared.kinds.IntKind.TheVariants.{Int}
use Rattle.c_tree.specs.declared.tree.Slot.{Slot}
use Rattle.c_tree.specs.declared.tree.Home.TheVariants as H
use Rattle.c_tree.specs.declared.tree.BinaryOp.TheVariants.{AndThen}
use Rattle.c_tree.specs.ExpressionTrees.{ExpressionTree, Typed, Var, Number, Binary, Assign}
use Rattle.c_tree.specs.TestTrees.{TestTree, Source, SelectorTree}
use Rattle.c_tree.specs.Trees.{Tree, Forest, Nil, Then, Sections, NoSection, Section, Evaluate, If, While, Do, For, Switch, Block, Local, Break, Continue, join}
use Rattle.jump_meaning.specs.Code.{Code}
use Rattle.plain_laws.specs.Kinded.{Kinded, KindedTest, KindedSelector, KindedItem}
use Rattle.tidy_laws.specs.Likeness.{IsLeaf}
use Rattle.tidy_laws.specs.Tails.{is_off, reset, leave_if, by_break, by_continue}
use Rattle.tidy_laws.specs.Mentions.{lacks, test_lacks, selector_lacks, option_lacks, item_lacks}
use Rattle.tidy_laws.specs.Renumbered.{renumbered, renumbered_test, renumbered_selector, renumbered_option, renumbered_item}
use Rattle.tidy_laws.specs.Changes.{is_narrow_expression, leaving}

-- what a set is followed by, and what it becomes: by `break`, or by `continue`
abbrev pub left_by : ℕ → Bool → Forest
left_by g true = by_break
left_by g false = by_continue g

abbrev pub jump_by : Bool → Tree
jump_by true = Break
jump_by false = Continue

abbrev pub nought : ExpressionTree
nought = Typed (Some Int) (Number (pos 0))

module _ (p : Code) (ss : List Slot) (g : ℕ) where
  mutual
    -- a list; a `break` after a set may leave it where b is true
    pub data Items : Bool → Forest → Forest → Type 0 where
      i_nil : (b : Bool) → Items b Nil Nil
      i_then : {b : Bool} {x y : Tree} {xs ys : Forest} → Item b x y → Items b xs ys → Items b (Then x xs) (Then y ys)
      -- a check gives way to its list
      i_given : (e : ExpressionTree) {b : Bool} {a c xs ys : Forest} → is_off g e ≡ true → Items b a c → Items b xs ys →
          Items b (Then (If (Source e) a Nil) xs) (join c ys)
      -- `g = 0;` and `int g = 0;` go
      i_reset : {b : Bool} {xs ys : Forest} → Items b xs ys → Items b (Then (reset g) xs) ys
      i_declared : {b : Bool} {xs ys : Forest} → Items b xs ys → Items b (Then (Local g (Some (nought ∷ []))) xs) ys
      -- a loop that a `break` leaves, and the `g = 0;` behind it
      i_stops : {b : Bool} {x y : Tree} {xs ys : Forest} → Stops x y → Items b xs ys → Items b (Then x (Then (reset g) xs)) (Then y ys)
      -- a set and what follows it
      i_sets : (leave : Bool) (k : Option IntKind) (e : ExpressionTree) {b : Bool} {xs ys : Forest} → (leave ≡ true → b ≡ true) → Kinded p ss e →
          lacks g e ≡ true → is_narrow_expression e ≡ true → Items b xs ys
          → Items b (Then (Evaluate (Typed k (Assign (Var (H.Slot g)) e))) (Then (leave_if g (left_by g leave)) xs))
          (Then (leaving (jump_by leave) (renumbered g e)) ys)

    pub data Item : Bool → Tree → Tree → Type 0 where
      x_leaf : (b : Bool) (x : Tree) → IsLeaf x → KindedItem p ss x → item_lacks g x ≡ true → Item b x (renumbered_item g x)
      x_if : (t : TestTree) {b : Bool} {a c d e : Forest} → KindedTest p ss t → test_lacks g t ≡ true → Items b a c → Items b d e →
          Item b (If t a d) (If (renumbered_test g t) c e)
      x_while : (b : Bool) (t : TestTree) {a c : Forest} → KindedTest p ss t → test_lacks g t ≡ true → Items false a c →
          Item b (While t a) (While (renumbered_test g t) c)
      x_do : (b : Bool) (t : TestTree) {a c : Forest} → KindedTest p ss t → test_lacks g t ≡ true → Items false a c →
          Item b (Do a t) (Do c (renumbered_test g t))
      x_for : (b : Bool) (t u : Option ExpressionTree) {a c d e : Forest} → IfSome t (Kinded p ss) → IfSome u (Kinded p ss) →
          option_lacks g t ≡ true → option_lacks g u ≡ true → Items false d e → Items false a c
          → Item b (For d t u a) (For e (renumbered_option g t) (renumbered_option g u) c)
      x_switch : (b : Bool) (s : SelectorTree) {c d : Sections} → KindedSelector p ss s → selector_lacks g s ≡ true → Parts c d →
          Item b (Switch s c) (Switch (renumbered_selector g s) d)
      x_block : {b : Bool} {a c : Forest} → Items b a c → Item b (Block a) (Block c)
      -- a check whose list becomes a Block
      x_checked : (e : ExpressionTree) {b : Bool} {a c : Forest} → is_off g e ≡ true → Items b a c → Item b (If (Source e) a Nil) (Block c)

    pub data Parts : Sections → Sections → Type 0 where
      p_none : Parts NoSection NoSection
      p_more : (cases : List ExpressionTree) (default ends : Bool) {a b : Forest} {c d : Sections} → Items false a b → Parts c d →
          Parts (Section cases default a ends c) (Section cases default b ends d)

    -- a loop with the test `!g && t`
    pub data Stops : Tree → Tree → Type 0 where
      s_while : (k : Option IntKind) (e t : ExpressionTree) {a c : Forest} → is_off g e ≡ true → Kinded p ss t → lacks g t ≡ true → Items true a c
          → Stops (While (Source (Typed k (Binary AndThen e t))) a) (While (Source (renumbered g t)) c)
      s_do : (k : Option IntKind) (e t : ExpressionTree) {a c : Forest} → is_off g e ≡ true → Kinded p ss t → lacks g t ≡ true → Items true a c
          → Stops (Do a (Source (Typed k (Binary AndThen e t)))) (Do c (Source (renumbered g t)))
