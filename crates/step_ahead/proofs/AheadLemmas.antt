-- What the steps of a statement come to, where its expression is computed at once.
use Rattle.std.proofs.Common.{◌≡◌, ℕ, ◌+◌, Bool, true, false, not, cond, List, ◌∷◌, Option, Some, refl, sym, ap, ◌∙◌, subst, arith}
use Rattle.c_tree.specs.ExpressionTrees.{ExpressionTree}
use Rattle.c_tree.specs.Operators.{is_zero}
use Rattle.c_tree.specs.TestTrees.{Source}
use Rattle.c_tree.specs.Trees.{Forest, Evaluate, If, While}
use Rattle.jump_meaning.specs.Values as Meant
use Rattle.jump_meaning.specs.Values.{Integer}
use Rattle.jump_meaning.specs.Code.{Code, items_of}
use Rattle.jump_meaning.specs.World.{World}
use Rattle.jump_meaning.specs.Operations.{holds}
use Rattle.jump_meaning.specs.Effects.{Computes, Drops}
use Rattle.jump_meaning.specs.Tasks.{Task, Works, Runs, Branches, Turns, Loops, Heads, WhileLoop, ForLoop, items}
use Rattle.jump_meaning.specs.Step.{Guards, Frame, At, Takes, view, move}
use Rattle.jump_meaning.specs.Runs.{run}
use Rattle.step_memory.specs.declared.store.Store.{Store}
use Rattle.step_memory.specs.declared.value.Value.{Value}
use Rattle.step_memory.specs.Stores.{names_of}
use Rattle.step_memory.specs.Values.{values_of}
use Rattle.step_tasks.specs.declared.work.Work.{Work}
use Rattle.step_tasks.specs.Tasks.{tasks_of}
use Rattle.step_ahead.specs.declared.marks.Computed.{Computed}
use Rattle.step_ahead.specs.Taken.{IsComputed, IsEvaluated}
use Rattle.step_ahead.proofs.RunLemmas.{run_parts}
use Rattle.step_ahead.specs.declared.asking.Asked.{Asked}
use Rattle.step_ahead.specs.Ahead.{Reaches, GoesOn, IsAsked}

-- no step
pub stays : (s : Store) (k : List Task) → Reaches s s 0 k k
stays s k = record { comes = λ P f g v cs w h. (w.variables, refl, h) }

pub reaches_as : (s t : Store) (n : ℕ) (k l i j : List Task) → k ≡ l → j ≡ i → Reaches s t n l i → Reaches s t n k j
reaches_as s t n k l i j a b h = subst (λ x. Reaches s t n x j) (sym a) (subst (λ x. Reaches s t n l x) (sym b) h)

-- the expression is computed after so many steps, and then its value is taken
takes_it : (s : Store) (e : ExpressionTree) (x : Computed) (c n : ℕ) (first k : List Task) (taker : Task) (next : Meant.Value → List Task) → IsComputed s e x
    → ((P : Code) (f : List ℕ) (g : Guards) (v : List Meant.Value) (cs : List Frame) (w : World) →
    run P c (At f g first v cs w) ≡ At f g (Works (Computes e) ∷ taker ∷ k) v cs w)
    → ((b : Forest) (g : Guards) → view b g (taker ∷ k) ≡ Takes next) → n ≡ c + (x.steps + 1) → Reaches s s n first (next (Integer x.number))
takes_it s e x c n first k taker next l start sees q = record {
  comes = λ P f g v cs w h. (
    w.variables,
    subst (λ m. run P m (At f g first v cs w) ≡ At f g (next (Integer x.number)) v cs w) (sym q)
        (run_parts P c (x.steps + 1) (At f g first v cs w) (At f g (Works (Computes e) ∷ taker ∷ k) v cs w) (At f g (next (Integer x.number)) v cs w)
        (start P f g v cs w)
        (run_parts P x.steps 1 (At f g (Works (Computes e) ∷ taker ∷ k) v cs w) (At f g (taker ∷ k) (Integer x.number ∷ v) cs w)
        (At f g (next (Integer x.number)) v cs w)
        (l.comes P f g (taker ∷ k) v cs w h) (ap (λ y. move P y f g (Integer x.number ∷ v) cs w) (sees (items_of (P.functions f)) g)))),
    h,
  );
}

either_list : (b : Bool) (a c : Forest) (k : List Task) → cond b (items a k) (items c k) ≡ items (cond b a c) k
either_list true a c k = refl
either_list false a c k = refl

pub if_reaches : (s : Store) (e : ExpressionTree) (a b : Forest) (k : List Task) (most : ℕ) (r : Asked) → IsAsked s e 3 most r
    → Reaches s s r.steps (Runs (If (Source e) a b) ∷ k) (items (cond r.holds a b) k)
if_reaches s e a b k most r (x, l, h, n, m) =
    subst (λ j. Reaches s s r.steps (Runs (If (Source e) a b) ∷ k) j)
    (either_list (not (is_zero x.number)) a b k ∙ ap (λ y. items (cond y a b) k) (sym h))
    (takes_it s e x 2 r.steps (Runs (If (Source e) a b) ∷ k) k (Branches a b) (λ v. cond (holds v) (items a k) (items b k)) l (λ P f g v cs w. refl)
    (λ b g. refl) (omega (arith, n)))

pub while_reaches : (s : Store) (e : ExpressionTree) (a : Forest) (k : List Task) (most : ℕ) (r : Asked) → IsAsked s e 3 most r
    → Reaches s s r.steps (Runs (While (Source e) a) ∷ k) (cond r.holds (items a (Loops (WhileLoop (Source e) a) ∷ k)) k)
while_reaches s e a k most r (x, l, h, n, m) =
    subst (λ b. Reaches s s r.steps (Runs (While (Source e) a) ∷ k) (cond b (items a (Loops (WhileLoop (Source e) a) ∷ k)) k)) (sym h)
    (takes_it s e x 2 r.steps (Runs (While (Source e) a) ∷ k) k (Turns (WhileLoop (Source e) a))
    (λ v. cond (holds v) (items a (Loops (WhileLoop (Source e) a) ∷ k)) k)
    l (λ P f g v cs w. refl) (λ b g. refl) (omega (arith, n)))

pub again_reaches : (s : Store) (e : ExpressionTree) (a : Forest) (k : List Task) (most : ℕ) (r : Asked) → IsAsked s e 4 most r
    → Reaches s s r.steps (Loops (WhileLoop (Source e) a) ∷ k) (cond r.holds (items a (Loops (WhileLoop (Source e) a) ∷ k)) k)
again_reaches s e a k most r (x, l, h, n, m) =
    subst (λ b. Reaches s s r.steps (Loops (WhileLoop (Source e) a) ∷ k) (cond b (items a (Loops (WhileLoop (Source e) a) ∷ k)) k)) (sym h)
    (takes_it s e x 3 r.steps (Loops (WhileLoop (Source e) a) ∷ k) k (Turns (WhileLoop (Source e) a))
    (λ v. cond (holds v) (items a (Loops (WhileLoop (Source e) a) ∷ k)) k)
    l (λ P f g v cs w. refl) (λ b g. refl) (omega (arith, n)))

pub head_reaches : (s : Store) (e : ExpressionTree) (u : Option ExpressionTree) (a : Forest) (k : List Task) (most : ℕ) (r : Asked) → IsAsked s e 2 most r
    → Reaches s s r.steps (Heads (Some e) u a ∷ k) (cond r.holds (items a (Loops (ForLoop (Some e) u a) ∷ k)) k)
head_reaches s e u a k most r (x, l, h, n, m) =
    subst (λ b. Reaches s s r.steps (Heads (Some e) u a ∷ k) (cond b (items a (Loops (ForLoop (Some e) u a) ∷ k)) k)) (sym h)
    (takes_it s e x 1 r.steps (Heads (Some e) u a ∷ k) k (Turns (ForLoop (Some e) u a)) (λ v. cond (holds v) (items a (Loops (ForLoop (Some e) u a) ∷ k)) k)
    l (λ P f g v cs w. refl) (λ b g. refl) (omega (arith, n)))

-- one step, and then an expression whose value is dropped
dropped_after : (s t : Store) (e : ExpressionTree) (n m : ℕ) (first : Task) (k j : List Task) → IsEvaluated s t e n
    → ((P : Code) (f : List ℕ) (g : Guards) (v : List Meant.Value) (cs : List Frame) (w : World) →
    run P 1 (At f g (first ∷ k) v cs w) ≡ At f g (Works (Computes e) ∷ Works Drops ∷ j) v cs w)
    → m ≡ n + 1 → Reaches s t m (first ∷ k) j
dropped_after s t e n m first k j d start q = record {
  comes = λ P f g v cs w h.
      let r = d.comes P f g j v cs w h in (
        r.0,
        subst (λ i. run P i (At f g (first ∷ k) v cs w) ≡ At f g j v cs (record w { variables = r.0 })) (sym one)
            (run_parts P 1 n (At f g (first ∷ k) v cs w) (At f g (Works (Computes e) ∷ Works Drops ∷ j) v cs w)
            (At f g j v cs (record w { variables = r.0 })) (start P f g v cs w) r.1),
        r.2,
      );
} where
  one : m ≡ 1 + n
  one = omega (arith, q)

pub statement_reaches : (s t : Store) (e : ExpressionTree) (n m : ℕ) (k : List Task) → IsEvaluated s t e n → m ≡ n + 1 → Reaches s t m (Runs (Evaluate e) ∷ k) k
statement_reaches s t e n m k d q = dropped_after s t e n m (Runs (Evaluate e)) k k d (λ P f g v cs w. refl) q

pub step_reaches : (s t : Store) (e : ExpressionTree) (u : Option ExpressionTree) (a : Forest) (n m : ℕ) (k : List Task) → IsEvaluated s t e n → m ≡ n + 1
    → Reaches s t m (Loops (ForLoop u (Some e) a) ∷ k) (Heads u (Some e) a ∷ k)
step_reaches s t e u a n m k d q = dropped_after s t e n m (Loops (ForLoop u (Some e) a)) k (Heads u (Some e) a ∷ k) d (λ P f g v cs w. refl) q

-- ---- of tasks and values of the machine

pub goes_on : (s t : Store) (n : ℕ) (tasks left : List Work) (values : List Value) → Reaches s t n (tasks_of tasks) (tasks_of left) →
    GoesOn s t n tasks left values values
goes_on s t n tasks left values r = record { comes = λ P f g cs w h. r.comes P f g (values_of (names_of s) values) cs w h }
