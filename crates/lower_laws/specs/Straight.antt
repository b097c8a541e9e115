-- A body and one flat list of gotos for it, a constructor a rule.
use Rattle.std.specs.Prelude.{ℕ, List, [], Option, Some, None, ◌≡◌, IsSome}
use Rattle.c_tree.specs.ExpressionTrees.{ExpressionTree}
use Rattle.c_tree.specs.TestTrees.{TestTree, Source}
use Rattle.c_tree.specs.Trees.{Tree, Forest, Nil, Then, Evaluate, Return, If, While, Do, Local, Goto, Mark, Note, join}
use Rattle.c_tree.specs.Changed.{one}
use Rattle.jump_meaning.specs.Code.{FunctionTree, items_of}
use Rattle.flat_laws.specs.Pieces.{test_or_one}
use Rattle.flat_laws.specs.Placed.{ArePlaced, Has}

-- `if (t) goto l`
abbrev pub jump_if : TestTree → ℕ → Tree
jump_if t l = If t (one (Goto l)) Nil

-- `if (t) a else b` of these lists
abbrev pub if_items : TestTree → ℕ → ℕ → Forest → Forest → Forest
if_items t l e a b = Then (jump_if t l) (join b (Then (Goto e) (Then (Mark l) (join a (one (Mark e))))))

-- `while (t) a`
abbrev pub while_items : TestTree → ℕ → ℕ → ℕ → Forest → Forest
while_items t h b e a = Then (Mark h) (Then (jump_if t b) (Then (Goto e) (Then (Mark b) (join a (Then (Goto h) (one (Mark e)))))))

-- `do a while (t)`, without the labels behind the list and behind the loop
abbrev pub do_items : TestTree → ℕ → Forest → Forest
do_items t b a = Then (Mark b) (join a (one (jump_if t b)))

-- a loop without end, without the label behind it
abbrev pub ever_items : ℕ → Forest → Forest
ever_items h a = Then (Mark h) (join a (one (Goto h)))

mutual
  -- what stands in the place of an item; A is the whole body, and s renumbers its labels
  pub data StraightItem (A : Forest) (s : ℕ → ℕ) : Tree → Forest → Type 0 where
    st_evaluate : (e : ExpressionTree) → StraightItem A s (Evaluate e) (one (Evaluate e))
    st_return : (e : Option ExpressionTree) → StraightItem A s (Return e) (one (Return e))
    st_note : (bs : List ℕ) → StraightItem A s (Note bs) (one (Note bs))
    st_goto : (l : ℕ) → Has l A → StraightItem A s (Goto l) (one (Goto (s l)))
    st_mark : (l : ℕ) → StraightItem A s (Mark l) (one (Mark (s l)))
    st_jump_if : (t : ExpressionTree) (l : ℕ) → Has l A → StraightItem A s (jump_if (Source t) l) (one (jump_if (Source t) (s l)))
    st_if : (t : ExpressionTree) (l e : ℕ) {a a' b b' : Forest} → Straight A s None a a' → Straight A s None b b' →
        StraightItem A s (If (Source t) a b) (if_items (Source t) l e a' b')
    st_do : (t : ExpressionTree) (b : ℕ) {a a' : Forest} → Straight A s None a a' → StraightItem A s (Do a (Source t)) (do_items (Source t) b a')
    st_ever : (h : ℕ) {a a' : Forest} → Straight A s None a a' → StraightItem A s (While (Source (test_or_one None)) a) (ever_items h a')

  -- of a list; the label in front of the loop whose list it is, to which a label at its end may go over
  pub data Straight (A : Forest) (s : ℕ → ℕ) : Option ℕ → Forest → Forest → Type 0 where
    sl_nil : {o : Option ℕ} → Straight A s o Nil Nil
    sl_end : (l : ℕ) → Straight A s (Some (s l)) (one (Mark l)) Nil
    sl_then : {o : Option ℕ} {x : Tree} {ys xs xs' : Forest} → StraightItem A s x ys → Straight A s o xs xs' → Straight A s o (Then x xs) (join ys xs')
    -- declarations without initialisers may come in addition
    sl_declares : {o : Option ℕ} (x : ℕ) {xs xs' : Forest} → Straight A s o xs xs' → Straight A s o xs (Then (Local x None) xs')
    -- a `while` with a label behind it
    sl_while : {o : Option ℕ} (t : ExpressionTree) (h b e : ℕ) {a a' xs xs' : Forest} → Straight A s (Some h) a a' → Straight A s o xs xs' →
        Straight A s o (Then (While (Source t) a) (Then (Mark e) xs)) (join (while_items (Source t) h b (s e) a') xs')

-- ---- functions

-- h is f with such a list for its body
pub record IsStraight (f h : FunctionTree) : Type 0 where
  pub labels : ℕ → ℕ
  pub defined : IsSome f.body
  pub new_defined : IsSome h.body
  pub related : Straight (items_of f) labels None (items_of f) (items_of h)
  -- a jump to a label of either comes to where that stands
  pub placed : ArePlaced (items_of f) (items_of f) []
  pub new_placed : ArePlaced (items_of h) (items_of h) []
  pub result : f.result ≡ h.result
  pub params : f.params ≡ h.params
  pub slots : f.slots ≡ h.slots
