-- What stands in a variable is read.
use Rattle.std.proofs.Common.{◌≡◌, ℕ, suc, ◌+◌, ◌<◌, ℤ, pos, negsuc, nat_abs, true, true≢false, cond, nat_lt, List, [], ◌∷◌, slice_get, Option, Some, None, option_and_then, Ok, Result, refl, sym, ap, ◌∙◌, subst, arith, lt-ltb}
use Rattle.std.proofs.lemmas.Bool.Decides.{nat_tests}
use Rattle.c_types.specs.declared.kinds.IntKind.{IntKind}
use Rattle.c_types.specs.declared.trap.Trap.{Trap}
use Rattle.c_tree.specs.declared.tree.Home.{Home}
use Rattle.c_tree.specs.declared.tree.Home.TheVariants as H
use Rattle.c_tree.specs.declared.tree.Expression.{Expression, out-Expression}
use Rattle.c_tree.specs.declared.tree.Place.{Place}
use Rattle.c_tree.specs.declared.tree.Node as N
use Rattle.c_tree.specs.declared.tree.Place as Q
use Rattle.c_tree.specs.ExpressionTrees.{ExpressionTree, PlaceTree, Typed, Read, Var, Cell, expression_tree, place_tree}
use Rattle.c_tree.proofs.ExpressionLaws.{node-Read, place-Var, place-Cell}
use Rattle.jump_meaning.specs.Values as Meant
use Rattle.jump_meaning.specs.Values.{Variable, Holds, OfCall, Designates}
use Rattle.jump_meaning.specs.World.{World, Gives, Traps, owner, holder, number_held, cells_held}
use Rattle.jump_meaning.specs.Effects.{Computes, Finds, Loads, Indexes, Does, left}
use Rattle.jump_meaning.specs.Step.{At}
use Rattle.step_memory.specs.declared.room.Room.{Room}
use Rattle.step_memory.specs.declared.room.Cells.TheVariants.{Number}
use Rattle.step_memory.specs.declared.store.Store.{Store}
use Rattle.step_memory.specs.declared.value.Owner.{Owner}
use Rattle.step_memory.specs.declared.value.Owner.TheVariants.{Call}
use Rattle.step_memory.specs.Rooms.{AreCells}
use Rattle.step_memory.specs.Stores.{names_of, room_at, HoldsWorld, HasNumber, HasCount, Reaches}
use Rattle.step_memory.specs.Values.{owner_of}
use Rattle.step_ahead.specs.declared.finding.Found.{Found}
use Rattle.step_ahead.specs.declared.marks.Computed.{Computed}
use Rattle.step_ahead.specs.Marks.{has_cell}
use Rattle.step_ahead.specs.Taken.{Leaves, IsComputed, IsFound, IsAfter}
use Rattle.step_ahead.proofs.RunLemmas.{leaves_as, two_parts}
use Rattle.step_ahead.proofs.FormLemmas.{at_node}

-- of a place that is found
pub reads_place : (s : Store) (p : PlaceTree) (k : Option IntKind) (o : Owner) (i : ℕ) (z : ℤ) (n m : ℕ) →
    Leaves s (Finds p) (Designates (owner_of (names_of s) o) i) n → HasNumber s o i z
    → m ≡ n + 2 → Leaves s (Computes (Typed k (Read p))) (Meant.Integer z) m
reads_place s p k o i z n m l h e =
    leaves_as s (Computes (Typed k (Read p))) (Meant.Integer z) m (suc (n + 1)) (omega (arith, e))
    (two_parts s (Computes (Typed k (Read p))) (Finds p) Loads (Designates (owner_of (names_of s) o) i) (Meant.Integer z) n
    (λ v w q. refl) l (λ v w q. ap (λ y. Does [] (Meant.Integer y ∷ v) w) (h w q)))

-- of a slot of the newest call
held_here : (f : Meant.Owner → Variable) (ns : List (List ℕ)) (k : IntKind) (q : Meant.Owner) (z : ℤ) (v : Variable) → f q ≡ v →
    AreCells ns k (Number z) v → number_held (f (holder q v)) 0 ≡ z
held_here f ns k q z (Holds j None c) e h = ap (λ x. number_held x 0) e ∙ h.1
held_here f ns k q z (Holds j (Some n) c) e h = absurd h
held_here f ns k q z (Meant.Lent o) e h = absurd h

slot_holds : (s : Store) (x : ℕ) (r : Room) (z : ℤ) (w : World) → room_at s (Call s.newest x) ≡ Some r → r.cells ≡ Number z → HoldsWorld s w
    → number_held (w.variables (owner (H.Slot x) w)) 0 ≡ z
slot_holds s x r z w a e h =
    ap (λ n. number_held (w.variables (holder (OfCall n x) (w.variables (OfCall n x)))) 0) h.newest
    ∙ held_here w.variables (names_of s) r.kind (OfCall s.newest x) z (w.variables (OfCall s.newest x)) refl
    (subst (λ c. AreCells (names_of s) r.kind c (w.variables (OfCall s.newest x))) e (h.rooms (Call s.newest x) r a))

pub reads_slot : (s : Store) (x : ℕ) (rs : List Room) (r : Room) (z : ℤ) (k : Option IntKind) (c : Computed) → slice_get s.calls s.newest ≡ Some rs →
    slice_get rs x ≡ Some r → r.cells ≡ Number z
    → IsAfter (Ok z) 3 c → IsComputed s (Typed k (Read (Var (H.Slot x)))) c
reads_slot s x rs r z k c a b e i =
    let there : room_at s (Call s.newest x) ≡ Some r = ap (option_and_then (λ ys. slice_get ys x)) a ∙ b in
    leaves_as s (Computes (Typed k (Read (Var (H.Slot x))))) (Meant.Integer c.number) c.steps 3 i.1
    (record { comes = λ P f g ks v cs w h. ap (λ y. At f g ks (Meant.Integer y ∷ v) cs w) (slot_holds s x r z w there e h ∙ number i.0) })
  where
    number : ◌≡◌ {A = Result ℤ Trap} (Ok z) (Ok c.number) → z ≡ c.number
    number q = cc

-- ---- cells of arrays

pub finds_cell : (s : Store) (h : Home) (e : ExpressionTree) (o : Owner) (i n k m : ℕ) → Reaches s h o → HasCount s o n → i < n →
    Leaves s (Computes e) (Meant.Integer (pos i)) k → m ≡ k + 2
    → Leaves s (Finds (Cell h e)) (Designates (owner_of (names_of s) o) i) m
finds_cell s h e o i n k m r c l p q =
    leaves_as s (Finds (Cell h e)) (Designates (owner_of (names_of s) o) i) m (suc (k + 1)) (omega (arith, q))
    (two_parts s (Finds (Cell h e)) (Computes e) (Indexes h) (Meant.Integer (pos i)) (Designates (owner_of (names_of s) o) i) k (λ v w _. refl) p
    (λ v w y. ap (λ x. left (cond (nat_lt i (cells_held (w.variables x))) (Gives (Designates x i) w) (Traps Trap.Index w)) v) (r w y)
    ∙ ap (λ b. left (cond (nat_lt i b) (Gives (Designates (owner_of (names_of s) o) i) w) (Traps Trap.Index w)) v) (c w y)
    ∙ ap (λ b. left (cond b (Gives (Designates (owner_of (names_of s) o) i) w) (Traps Trap.Index w)) v) (lt-ltb i n l)))

-- ---- by the form of the expression

pub is_variable : (s : Store) (p : Place) (h : Home) (r : Found) → p ≡ Q.Var h → IsFound s (Var h) r → IsFound s (place_tree p) r
is_variable s p h r e f = subst (λ t. IsFound s t r) (sym (ap place_tree e ∙ place-Var h)) f

pub is_cell : (s : Store) (p : Place) (h : Home) (a : Expression) (r : Found) → p ≡ Q.Cell h a → IsFound s (Cell h (expression_tree a)) r →
    IsFound s (place_tree p) r
is_cell s p h a r e f = subst (λ t. IsFound s t r) (sym (ap place_tree e ∙ place-Cell h a)) f

pub read_variable : (s : Store) (e : Expression) (p : Place) (h : Home) (r : Computed) → (out-Expression e).node ≡ N.Read p → p ≡ Q.Var h
    → IsComputed s (Typed (out-Expression e).kind (Read (Var h))) r → IsComputed s (expression_tree e) r
read_variable s e p h r i j l = subst (λ t. IsComputed s t r)
    (sym (at_node e (N.Read p) (Read (Var h)) i (node-Read p ∙ ap Read (ap place_tree j ∙ place-Var h)))) l

pub read_cell : (s : Store) (e : Expression) (p : Place) (h : Home) (a : Expression) (r : Computed) → (out-Expression e).node ≡ N.Read p → p ≡ Q.Cell h a
    → IsComputed s (Typed (out-Expression e).kind (Read (Cell h (expression_tree a)))) r → IsComputed s (expression_tree e) r
read_cell s e p h a r i j l = subst (λ t. IsComputed s t r)
    (sym (at_node e (N.Read p) (Read (Cell h (expression_tree a))) i (node-Read p ∙ ap Read (ap place_tree j ∙ place-Cell h a)))) l

pub cell_at : (y : ℤ) (n : ℕ) → has_cell y n ≡ true → (pos (nat_abs y) ≡ y) × (nat_abs y < n)
cell_at (pos i) n h = (refl, below i n h) where
  below : (i n : ℕ) → nat_lt i n ≡ true → i < n
  below i n h = grind (arith, nat_tests)
cell_at (negsuc i) n h = absurd (true≢false (sym h))
