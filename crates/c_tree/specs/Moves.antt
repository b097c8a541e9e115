-- The four rules on plain lists: the stretch of a list that a rule changes, before and after it.
use Rattle.std.specs.Prelude.{ℕ, zero, suc, ◌<◌, ℤ, Bool, cond, List}
use Rattle.c_tree.specs.declared.tree.Branch.TheVariants as B
use Rattle.c_tree.specs.ExpressionTrees.{ExpressionTree}
use Rattle.c_tree.specs.TestTrees.{TestTree, On, Off, AndOff, OrOn, SelectorTree, Pick}
use Rattle.c_tree.specs.Trees.{Tree, Forest, Nil, Then, Sections, NoSection, Section, If, While, Do, Switch, Leap, Land, join}
use Rattle.c_tree.specs.Labels.{lands, lands_inside}
use Rattle.c_tree.specs.Cases.{SelectsBranch}
use Rattle.c_tree.specs.Changed.{one}

-- a list under `if (Off L)`, or nothing where it is empty
abbrev pub guarded : ℕ → Forest → Forest
guarded l Nil = Nil
guarded l (Then x xs) = one (If (Off l) (Then x xs) Nil)

-- the sections that are fallen into, under the guard: up to and including the first that has an end
abbrev pub later_guarded : ℕ → Sections → Sections
later_guarded l NoSection = NoSection
later_guarded l (Section cases default a ends c) = Section cases default (guarded l a) ends (cond ends c (later_guarded l c))

-- the sections of a switch before and after a Leap goes out of one
pub data SectionsLeft (l : ℕ) : Sections → Sections → Type 0 where
  left_here : (cases : List ExpressionTree) (default ends : Bool) (a b : Forest) (c : Sections)
      → SectionsLeft l (Section cases default (join a (Then (Leap l) b)) ends c)
      (Section cases default (join a (guarded l b)) ends (cond ends c (later_guarded l c)))
  left_later : (cases : List ExpressionTree) (default ends : Bool) (a : Forest) {c d : Sections} → SectionsLeft l c d
      → SectionsLeft l (Section cases default a ends c) (Section cases default a ends d)

-- before and after one goes into section k, which holds its Land
pub data SectionsEntered (l : ℕ) : ℕ → Sections → Sections → Type 0 where
  entered_here : (cases : List ExpressionTree) (default ends : Bool) (a : Forest) (c : Sections) → 0 < lands l a
      → SectionsEntered l zero (Section cases default a ends c) (Section cases default (Then (Leap l) a) ends c)
  entered_later : (cases : List ExpressionTree) (default ends : Bool) (a : Forest) {k : ℕ} {c d : Sections} → SectionsEntered l k c d
      → SectionsEntered l (suc k) (Section cases default a ends c) (Section cases default a ends d)

pub data Moved : Forest → Forest → Type 0 where
  join_after : (l : ℕ) (t : Forest) → Moved (Then (Leap l) (join t (one (Land l)))) (join (guarded l t) (one (Land l)))
  join_before : (l : ℕ) (t : Forest) → Moved (Then (Land l) (join t (one (Leap l)))) (one (Do (Then (Land l) t) (On l)))
  lifted : (l : ℕ) (x : Tree) (t : Forest) → 0 < lands_inside l x → Moved (Then x (join t (one (Leap l)))) (one (Do (Then (Leap l) (Then x t)) (On l)))
  out_then : (l : ℕ) (t : TestTree) (a b c : Forest) → Moved (one (If t (join a (Then (Leap l) b)) c)) (Then (If t (join a (guarded l b)) c) (one (Leap l)))
  out_else : (l : ℕ) (t : TestTree) (a b c : Forest) → Moved (one (If t c (join a (Then (Leap l) b)))) (Then (If t c (join a (guarded l b))) (one (Leap l)))
  out_while : (l : ℕ) (t : TestTree) (a b : Forest) → Moved (one (While t (join a (Then (Leap l) b))))
      (Then (While (AndOff l t) (join a (guarded l b))) (one (Leap l)))
  out_do : (l : ℕ) (t : TestTree) (a b : Forest) → Moved (one (Do (join a (Then (Leap l) b)) t)) (Then (Do (join a (guarded l b)) (AndOff l t)) (one (Leap l)))
  out_switch : (l : ℕ) (s : SelectorTree) {c d : Sections} → SectionsLeft l c d → Moved (one (Switch s c)) (Then (Switch s d) (one (Leap l)))
  in_then : (l : ℕ) (t : Forest) (u : TestTree) (a b : Forest) → 0 < lands l a →
      Moved (Then (Leap l) (join t (one (If u a b)))) (join (guarded l t) (one (If (OrOn l u) (Then (Leap l) a) b)))
  in_else : (l : ℕ) (t : Forest) (u : TestTree) (a b : Forest) → 0 < lands l b →
      Moved (Then (Leap l) (join t (one (If u a b)))) (join (guarded l t) (one (If (AndOff l u) a (Then (Leap l) b))))
  in_while : (l : ℕ) (t : Forest) (u : TestTree) (a : Forest) → 0 < lands l a →
      Moved (Then (Leap l) (join t (one (While u a)))) (join (guarded l t) (one (While (OrOn l u) (Then (Leap l) a))))
  in_do : (l : ℕ) (t : Forest) (u : TestTree) (a : Forest) → 0 < lands l a →
      Moved (Then (Leap l) (join t (one (Do a u)))) (join (guarded l t) (one (Do (Then (Leap l) a) u)))
  in_switch : (l : ℕ) (t : Forest) (s : SelectorTree) (k : ℕ) (n : ℤ) {c d : Sections} → SectionsEntered l k c d → SelectsBranch (B.Section k) n (Switch s c)
      → Moved (Then (Leap l) (join t (one (Switch s c)))) (join (guarded l t) (one (Switch (Pick l n s) d)))
