-- Runs in parts: what tasks that follow one another leave.
use Rattle.std.proofs.Common.{ℕ, suc, ◌+◌, List, [], ◌∷◌, ◌≡◌, refl, ap, ◌∙◌, subst, sym}
use Rattle.jump_meaning.specs.Values as Meant
use Rattle.jump_meaning.specs.Code.{Code}
use Rattle.jump_meaning.specs.World.{World}
use Rattle.jump_meaning.specs.Effects.{Op, Does, Drops, Computes, effect}
use Rattle.jump_meaning.specs.Tasks.{Works}
use Rattle.jump_meaning.specs.Step.{State, At, perform}
use Rattle.jump_meaning.specs.Runs.{run}
use Rattle.jump_meaning.proofs.RunFacts.{run_add}
use Rattle.c_tree.specs.ExpressionTrees.{ExpressionTree}
use Rattle.step_memory.specs.declared.store.Store.{Store}
use Rattle.step_memory.specs.Stores.{HoldsWorld}
use Rattle.step_ahead.specs.Taken.{Leaves, IsEvaluated}

pub run_parts : (P : Code) (m n : ℕ) (c d e : State) → run P m c ≡ d → run P n d ≡ e → run P (m + n) c ≡ e
run_parts P m n c d e h k = run_add P m n c ∙ ap (run P n) h ∙ k

-- what a task does at these values, in each world of the store
abbrev pub DoesAt : Store → Op → List Op → (List Meant.Value → List Meant.Value) → (List Meant.Value → List Meant.Value) → Type 0
DoesAt s o os before after = (v : List Meant.Value) (w : World) → HoldsWorld s w → effect o (before v) w ≡ Does os (after v) w

abbrev pub under : Meant.Value → List Meant.Value → List Meant.Value
under x v = x ∷ v

abbrev pub same : List Meant.Value → List Meant.Value
same v = v

pub leaves_as : (s : Store) (o : Op) (x : Meant.Value) (m n : ℕ) → m ≡ n → Leaves s o x n → Leaves s o x m
leaves_as s o x m n e h = subst (λ i. Leaves s o x i) (sym e) h

-- a value is left at once
pub at_once : (s : Store) (o : Op) (x : Meant.Value) → DoesAt s o [] same (under x) → Leaves s o x 1
at_once s o x d = record { comes = λ P f g k v cs w h. ap (λ E. perform P E f g k cs) (d v w h) }

-- one task, and what takes what it leaves
pub two_parts : (s : Store) (o a b : Op) (x y : Meant.Value) (n : ℕ) → DoesAt s o (a ∷ b ∷ []) same same → Leaves s a x n →
    DoesAt s b [] (under x) (under y) → Leaves s o y (suc (n + 1))
two_parts s o a b x y n d l e = record {
  comes = λ P f g k v cs w h.
      ap (λ E. run P (n + 1) (perform P E f g k cs)) (d v w h)
      ∙ run_parts P n 1 (At f g (Works a ∷ Works b ∷ k) v cs w) (At f g (Works b ∷ k) (x ∷ v) cs w) (At f g k (y ∷ v) cs w)
      (l.comes P f g (Works b ∷ k) v cs w h) (ap (λ E. perform P E f g k cs) (e v w h));
}

-- two tasks, and what takes what they leave
pub three_parts : (s : Store) (o a b c : Op) (x y z : Meant.Value) (m n : ℕ) → DoesAt s o (a ∷ b ∷ c ∷ []) same same → Leaves s a x m → Leaves s b y n
    → DoesAt s c [] (λ v. y ∷ x ∷ v) (under z) → Leaves s o z (suc (m + (n + 1)))
three_parts s o a b c x y z m n d l r e = record {
  comes = λ P f g k v cs w h.
      ap (λ E. run P (m + (n + 1)) (perform P E f g k cs)) (d v w h)
      ∙ run_parts P m (n + 1) (At f g (Works a ∷ Works b ∷ Works c ∷ k) v cs w) (At f g (Works b ∷ Works c ∷ k) (x ∷ v) cs w) (At f g k (z ∷ v) cs w)
      (l.comes P f g (Works b ∷ Works c ∷ k) v cs w h)
      (run_parts P n 1 (At f g (Works b ∷ Works c ∷ k) (x ∷ v) cs w) (At f g (Works c ∷ k) (y ∷ x ∷ v) cs w) (At f g k (z ∷ v) cs w)
      (r.comes P f g (Works c ∷ k) (x ∷ v) cs w h) (ap (λ E. perform P E f g k cs) (e v w h)));
}

-- one task, and what takes what it leaves and has two tasks come in its place
pub more_parts : (s : Store) (o a b c d : Op) (x y z : Meant.Value) (m n : ℕ) → DoesAt s o (a ∷ b ∷ []) same same → Leaves s a x m →
    DoesAt s b (c ∷ d ∷ []) (under x) same
    → Leaves s c y n → DoesAt s d [] (under y) (under z) → Leaves s o z (suc (m + suc (n + 1)))
more_parts s o a b c d x y z m n p l q r e = record {
  comes = λ P f g k v cs w h.
      ap (λ E. run P (m + suc (n + 1)) (perform P E f g k cs)) (p v w h)
      ∙ run_parts P m (suc (n + 1)) (At f g (Works a ∷ Works b ∷ k) v cs w) (At f g (Works b ∷ k) (x ∷ v) cs w) (At f g k (z ∷ v) cs w)
      (l.comes P f g (Works b ∷ k) v cs w h)
      (ap (λ E. run P (n + 1) (perform P E f g k cs)) (q v w h)
      ∙ run_parts P n 1 (At f g (Works c ∷ Works d ∷ k) v cs w) (At f g (Works d ∷ k) (y ∷ v) cs w) (At f g k (z ∷ v) cs w)
      (r.comes P f g (Works d ∷ k) v cs w h) (ap (λ E. perform P E f g k cs) (e v w h)));
}

-- ---- a value that is dropped

-- an expression that changes nothing
pub only_dropped : (s : Store) (e : ExpressionTree) (x : Meant.Value) (m n : ℕ) → m ≡ n + 1 → Leaves s (Computes e) x n → IsEvaluated s s e m
only_dropped s e x m n q l = record {
  comes = λ P f g k v cs w h. (
    w.variables,
    subst (λ i. run P i (At f g (Works (Computes e) ∷ Works Drops ∷ k) v cs w) ≡ At f g k v cs w) (sym q)
        (run_parts P n 1 (At f g (Works (Computes e) ∷ Works Drops ∷ k) v cs w) (At f g (Works Drops ∷ k) (x ∷ v) cs w) (At f g k v cs w)
        (l.comes P f g (Works Drops ∷ k) v cs w h) refl),
    h,
  );
}
