-- Expressions that store a number, and whose value is dropped.
use Rattle.std.proofs.Common.{◌≡◌, ℕ, suc, ◌+◌, ℤ, pos, Bool, ◌∷◌, Option, Some, None, MatchOption, Result, Ok, sym, ap, ◌∙◌, subst, arith}
use Rattle.c_types.specs.declared.kinds.ArithOp.{ArithOp}
use Rattle.c_types.specs.declared.kinds.IntKind.{IntKind}
use Rattle.c_types.specs.declared.trap.Trap.{Trap}
use Rattle.c_types.specs.Numbers.{promoted, arith_result}
use Rattle.c_tree.specs.declared.tree.BinaryOp.TheVariants.{Arith}
use Rattle.c_tree.specs.declared.tree.Expression.{Expression, out-Expression}
use Rattle.c_tree.specs.declared.tree.Place.{Place}
use Rattle.c_tree.specs.declared.tree.Node as N
use Rattle.c_tree.specs.ExpressionTrees.{ExpressionTree, Typed, Assign, Update, Count, expression_tree, place_tree}
use Rattle.c_tree.specs.Constants.{kind_of}
use Rattle.c_tree.specs.Operators.{binary_result}
use Rattle.c_tree.proofs.ExpressionLaws.{node-Assign, node-Update, node-Count}
use Rattle.jump_meaning.specs.Values.{Designates, Integer}
use Rattle.jump_meaning.specs.World.{store, load}
use Rattle.jump_meaning.specs.Operations.{operand_kind, outcome, count_mark, counted}
use Rattle.jump_meaning.specs.Effects.{Computes, Finds, Fetches, AppliesBinary, Stores, Counts, Drops, left}
use Rattle.jump_meaning.specs.Tasks.{Works}
use Rattle.jump_meaning.specs.Step.{At, perform}
use Rattle.jump_meaning.specs.Runs.{run}
use Rattle.step_memory.specs.declared.store.Store.{Store}
use Rattle.step_memory.specs.Stores.{names_of, StoresIn, HasNumber, HasKind}
use Rattle.step_memory.specs.Values.{owner_of}
use Rattle.step_ahead.specs.declared.finding.Found.{Found}
use Rattle.step_ahead.specs.declared.marks.Computed.{Computed}
use Rattle.step_ahead.specs.Taken.{IsComputed, IsFound, IsEvaluated}
use Rattle.step_ahead.proofs.RunLemmas.{run_parts}
use Rattle.step_ahead.proofs.FormLemmas.{at_node, kind_is}

evaluated_as : (s t : Store) (e x : ExpressionTree) (m n : ℕ) → e ≡ x → m ≡ n → IsEvaluated s t x n → IsEvaluated s t e m
evaluated_as s t e x m n a b h = subst (λ y. IsEvaluated s t y m) (sym a) (subst (λ i. IsEvaluated s t x i) (sym b) h)

pub assignment : (s t : Store) (e : Expression) (p : Place) (a : Expression) (f : Found) (x : Computed) (z : ℤ) (n : ℕ) → (out-Expression e).node ≡ N.Assign p a
    → IsFound s (place_tree p) f → IsComputed s (expression_tree a) x → x.number ≡ z → StoresIn f.owner f.at z s t → n ≡ f.steps + x.steps + 3 →
    IsEvaluated s t (expression_tree e) n
assignment s t e p a f x z n h fp xa same st q =
    let kind = (out-Expression e).kind in
    let q1 = place_tree p in
    let b = expression_tree a in
    let d = Designates (owner_of (names_of s) f.owner) f.at in
    evaluated_as s t (expression_tree e) (Typed kind (Assign q1 b)) n (suc (f.steps + (x.steps + 2)))
    (at_node e (N.Assign p a) (Assign q1 b) h (node-Assign p a)) (omega (arith, q))
    (record {
      comes = λ P g1 g k v cs w hw. (
        (store d z w).variables,
        run_parts P f.steps (x.steps + 2) (At g1 g (Works (Finds q1) ∷ Works (Computes b) ∷ Works Stores ∷ Works Drops ∷ k) v cs w)
            (At g1 g (Works (Computes b) ∷ Works Stores ∷ Works Drops ∷ k) (d ∷ v) cs w) (At g1 g k v cs (store d z w))
            (fp.comes P g1 g (Works (Computes b) ∷ Works Stores ∷ Works Drops ∷ k) v cs w hw)
            (run_parts P x.steps 2 (At g1 g (Works (Computes b) ∷ Works Stores ∷ Works Drops ∷ k) (d ∷ v) cs w)
            (At g1 g (Works Stores ∷ Works Drops ∷ k) (Integer x.number ∷ d ∷ v) cs w)
            (At g1 g k v cs (store d z w))
            (xa.comes P g1 g (Works Stores ∷ Works Drops ∷ k) (d ∷ v) cs w hw)
            (ap (λ y. At g1 g k v cs (store d y w)) same)),
        st w hw,
      );
    })

pub update : (s t : Store) (e : Expression) (op : ArithOp) (p : Place) (a : Expression) (f : Found) (x : Computed) (old y : ℤ) (n : ℕ) →
    (out-Expression e).node ≡ N.Update op p a
    → IsFound s (place_tree p) f → HasNumber s f.owner f.at old → IsComputed s (expression_tree a) x
    → binary_result (Arith op) (operand_kind (out-Expression e).kind) (operand_kind (out-Expression a).kind) old x.number ≡ Ok y
    → StoresIn f.owner f.at y s t → n ≡ f.steps + x.steps + 5 → IsEvaluated s t (expression_tree e) n
update s t e op p a f x old y n h fp hn xa r st q =
    let kind = (out-Expression e).kind in
    let q1 = place_tree p in
    let b = expression_tree a in
    let d = Designates (owner_of (names_of s) f.owner) f.at in
    let is : binary_result (Arith op) (operand_kind kind) (operand_kind (kind_of b)) old x.number ≡ Ok y =
    ap (λ k. binary_result (Arith op) (operand_kind kind) (operand_kind k) old x.number) (kind_is a) ∙ r in
    evaluated_as s t (expression_tree e) (Typed kind (Update op q1 b)) n (suc (f.steps + suc (x.steps + 3)))
    (at_node e (N.Update op p a) (Update op q1 b) h (node-Update op p a)) (omega (arith, q))
    (record {
      comes = λ P g1 g k v cs w hw.
          let ks = Works (AppliesBinary (Arith op) kind (kind_of b)) ∷ Works Stores ∷ Works Drops ∷ k in (
            (store d y w).variables,
            run_parts P f.steps (suc (x.steps + 3)) (At g1 g (Works (Finds q1) ∷ Works Fetches ∷ Works (Computes b) ∷ ks) v cs w)
                (At g1 g (Works Fetches ∷ Works (Computes b) ∷ ks) (d ∷ v) cs w) (At g1 g k v cs (store d y w))
                (fp.comes P g1 g (Works Fetches ∷ Works (Computes b) ∷ ks) v cs w hw)
                (ap (λ i. run P (x.steps + 3) (At g1 g (Works (Computes b) ∷ ks) (Integer i ∷ d ∷ v) cs w)) (hn w hw)
                ∙ run_parts P x.steps 3 (At g1 g (Works (Computes b) ∷ ks) (Integer old ∷ d ∷ v) cs w)
                (At g1 g ks (Integer x.number ∷ Integer old ∷ d ∷ v) cs w) (At g1 g k v cs (store d y w))
                (xa.comes P g1 g ks (Integer old ∷ d ∷ v) cs w hw)
                (ap (λ o. run P 2 (perform P (left (outcome o w) (d ∷ v)) g1 g (Works Stores ∷ Works Drops ∷ k) cs)) is)),
            st w hw,
          );
    })

pub counting : (s t : Store) (e : Expression) (p : Place) (up after : Bool) (f : Found) (old y : ℤ) (c : IntKind) (n : ℕ) →
    (out-Expression e).node ≡ N.Count p up after
    → IsFound s (place_tree p) f → HasNumber s f.owner f.at old → HasKind s f.owner c → arith_result (count_mark up) (promoted c) old (pos 1) ≡ Ok y
    → StoresIn f.owner f.at y s t → n ≡ f.steps + 3 → IsEvaluated s t (expression_tree e) n
counting s t e p up after f old y c n h fp hn hk r st q =
    let kind = (out-Expression e).kind in
    let q1 = place_tree p in
    let d = Designates (owner_of (names_of s) f.owner) f.at in
    evaluated_as s t (expression_tree e) (Typed kind (Count q1 up after)) n (suc (f.steps + 2))
    (at_node e (N.Count p up after) (Count q1 up after) h (node-Count p up after)) (omega (arith, q))
    (record {
      comes = λ P g1 g k v cs w hw. (
        (store d y w).variables,
        run_parts P f.steps 2 (At g1 g (Works (Finds q1) ∷ Works (Counts up after) ∷ Works Drops ∷ k) v cs w)
            (At g1 g (Works (Counts up after) ∷ Works Drops ∷ k) (d ∷ v) cs w) (At g1 g k v cs (store d y w))
            (fp.comes P g1 g (Works (Counts up after) ∷ Works Drops ∷ k) v cs w hw)
            (ap (λ o. run P 1 (perform P (left (counted after d o w) v) g1 g (Works Drops ∷ k) cs))
            (ap (λ i. arith_result (count_mark up) (promoted i) (load d w) (pos 1)) (hk w hw) ∙
            ap (λ i. arith_result (count_mark up) (promoted c) i (pos 1)) (hn w hw) ∙ r)),
        st w hw,
      );
    })

pub match_then : {X : Type 0} (A : Type 0) {P Q : X → Type 0} (o : Option X) → MatchOption o A P → ((x : X) → P x → Q x) → MatchOption o A Q
match_then A None h f = h
match_then A (Some x) h f = f x h

-- a result at what its arguments are
pub result_at : (F : IntKind → IntKind → ℤ → ℤ → Result ℤ Trap) (i j k l : IntKind) (a b c d : ℤ) (r : Result ℤ Trap) (y : ℤ)
    → j ≡ i → l ≡ k → b ≡ a → d ≡ c → r ≡ F j l b d → r ≡ Ok y → F i k a c ≡ Ok y
result_at F i j k l a b c d r y p q s t e f =
    sym (ap (λ x. F x k a c) p) ∙ sym (ap (λ x. F j x a c) q) ∙ sym (ap (λ x. F j l x c) s) ∙ sym (ap (F j l b) t) ∙ sym e ∙ f
