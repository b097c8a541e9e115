-- When a list is at least as good as another in its place: their cores are alike, and no way is worse.
use Rattle.std.specs.Prelude.{ℕ, ◌≡◌, Bool, List, Option, Some, None}
use Rattle.c_tree.specs.ExpressionTrees.{ExpressionTree}
use Rattle.c_tree.specs.TestTrees.{TestTree, SelectorTree}
use Rattle.c_tree.specs.Trees.{Tree, Forest, Nil, Then, Sections, NoSection, Section, If, While, Do, For, Switch, Block, Goto, Arm}
use Rattle.c_tree.specs.Exits.{breaks, continues}
use Rattle.jump_meaning.specs.Code.{FunctionTree, Code}
use Rattle.core_laws.specs.Ways.{Way, Lands, Past, Lost, Follow, walks}
use Rattle.core_laws.specs.Core.{core}

-- a way is no worse: lost, then past, then there
abbrev pub LeWay : Way → Way → Type 0
LeWay Lost y = Unit {0}
LeWay Past Lost = ⊥
LeWay Past Past = Unit {0}
LeWay Past Lands = Unit {0}
LeWay Lands Lands = Unit {0}
LeWay Lands Past = ⊥
LeWay Lands Lost = ⊥

-- no way through what follows is worse
abbrev pub LeFollow : Follow → Follow → Type 0
LeFollow w w' = (l : ℕ) → LeWay (w l) (w' l)

-- an item that holds no others
abbrev pub IsLeaf : Tree → Type 0
IsLeaf (If t a b) = ⊥
IsLeaf (While t a) = ⊥
IsLeaf (Do a t) = ⊥
IsLeaf (For first t u a) = ⊥
IsLeaf (Switch s c) = ⊥
IsLeaf (Block a) = ⊥
IsLeaf _ = Unit {0}

mutual
  -- two items are equal, but an Arm of the first may be a goto of the second
  pub data LeTree : Tree → Tree → Type 0 where
    le_leaf : (x : Tree) → IsLeaf x → LeTree x x
    le_arm : (l : ℕ) → LeTree (Arm l None) (Goto l)
    le_if : (t : TestTree) {a a' b b' : Forest} → LeAll a a' → LeAll b b' → LeTree (If t a b) (If t a' b')
    le_while : (t : TestTree) {a a' : Forest} → LeAll a a' → LeTree (While t a) (While t a')
    le_do : (t : TestTree) {a a' : Forest} → LeAll a a' → LeTree (Do a t) (Do a' t)
    le_for : (t u : Option ExpressionTree) {first first' a a' : Forest} → LeAll first first' → LeAll a a' → LeTree (For first t u a) (For first' t u a')
    le_switch : (s : SelectorTree) {c c' : Sections} → LeSections c c' → LeTree (Switch s c) (Switch s c')
    le_block : {a a' : Forest} → LeAll a a' → LeTree (Block a) (Block a')

  -- two lists are
  pub data LeAll : Forest → Forest → Type 0 where
    le_nil : LeAll Nil Nil
    le_then : {x x' : Tree} {xs xs' : Forest} → LeTree x x' → LeAll xs xs' → LeAll (Then x xs) (Then x' xs')

  -- the sections of two switches are
  pub data LeSections : Sections → Sections → Type 0 where
    le_no_section : LeSections NoSection NoSection
    le_section : (cases : List ExpressionTree) (default ends : Bool) {a a' : Forest} {c c' : Sections} → LeAll a a' → LeSections c c' →
        LeSections (Section cases default a ends c) (Section cases default a' ends c')

-- two functions have no body, or bodies that are
pub data LeBody : Option Forest → Option Forest → Type 0 where
  le_no_body : LeBody None None
  le_body : {a a' : Forest} → LeAll a a' → LeBody (Some a) (Some a')

-- two functions are equal but for that
pub record LeFunction (f h : FunctionTree) : Type 0 where
  pub result : f.result ≡ h.result
  pub params : f.params ≡ h.params
  pub slots : f.slots ≡ h.slots
  pub body : LeBody f.body h.body

-- two programs are
pub record LeCode (p q : Code) : Type 0 where
  pub functions : (m : List ℕ) → LeFunction (p.functions m) (q.functions m)
  pub globals : (m : List ℕ) → p.globals m ≡ q.globals m
  pub cells : p.cells ≡ q.cells

-- ys is at least as good as xs in every place
pub record Better (xs ys : Forest) : Type 0 where
  -- as many exits leave it
  pub stops : breaks xs ≡ breaks ys
  pub goes : continues xs ≡ continues ys
  -- no way is worse
  pub ways : (l : ℕ) → LeWay (walks l xs) (walks l ys)
  -- and the cores are equal, but an Arm of the first may be a goto of the second, whatever follows
  pub cores : (w w' : Follow) → LeFollow w w' → LeAll (core xs w) (core ys w')
