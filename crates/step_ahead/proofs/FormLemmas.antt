-- An expression is computed where its parts are, by the form that it has.
use Rattle.std.proofs.Common.{◌≡◌, ℕ, suc, ◌+◌, ℤ, pos, true, false, not, cond, List, [], ◌∷◌, Option, Some, None, Ok, Result, refl, sym, ap, ◌∙◌, subst, arith}
use Rattle.c_types.specs.declared.kinds.IntKind.{IntKind}
use Rattle.c_types.specs.declared.trap.Trap.{Trap}
use Rattle.c_types.specs.Numbers.{converted}
use Rattle.c_tree.specs.declared.tree.UnaryOp.{UnaryOp}
use Rattle.c_tree.specs.declared.tree.BinaryOp.{BinaryOp}
use Rattle.c_tree.specs.declared.tree.BinaryOp.TheVariants.{Arith, Less, Greater, AtMost, AtLeast, Equal, Unequal, AndThen, OrElse}
use Rattle.c_tree.specs.declared.tree.Expression.{Expression, out-Expression}
use Rattle.c_tree.specs.declared.tree.Node.{Node}
use Rattle.c_tree.specs.declared.tree.Node as N
use Rattle.c_tree.specs.ExpressionTrees.{ExpressionTree, NodeTree, Typed, Unary, Cast, Binary, expression_tree, node_tree}
use Rattle.c_tree.specs.Constants.{kind_of}
use Rattle.c_tree.specs.Operators.{is_zero, truth, unary_result, binary_result}
use Rattle.c_tree.proofs.ExpressionLaws.{expression-parts, node-Unary, node-Cast, node-Binary}
use Rattle.jump_meaning.specs.Values as Meant
use Rattle.jump_meaning.specs.World.{World}
use Rattle.jump_meaning.specs.Operations.{operand_kind, outcome}
use Rattle.jump_meaning.specs.Effects.{Computes, AppliesUnary, AppliesBinary, Converts, Ands, Ors, Judges, Does, left, node_effect, effect}
use Rattle.step_memory.specs.declared.store.Store.{Store}
use Rattle.step_ahead.specs.declared.marks.Computed.{Computed}
use Rattle.step_ahead.specs.Marks.{decides, decided, IsCast, IsOfBoth}
use Rattle.step_ahead.specs.Taken.{Leaves, IsComputed, IsAfter}
use Rattle.step_ahead.proofs.RunLemmas.{leaves_as, at_once, two_parts, three_parts, more_parts}

pub kind_is : (e : Expression) → kind_of (expression_tree e) ≡ (out-Expression e).kind
kind_is e = ap kind_of (expression-parts e)

pub at_node : (e : Expression) (n : Node) (t : NodeTree) → (out-Expression e).node ≡ n → node_tree n ≡ t → expression_tree e ≡ Typed (out-Expression e).kind t
at_node e n t h k = expression-parts e ∙ ap (λ m. Typed (out-Expression e).kind (node_tree m)) h ∙ ap (Typed (out-Expression e).kind) k

-- the number that is left, after so many steps
left_after : (s : Store) (e t : ExpressionTree) (m : ℕ) (r : Computed) → e ≡ t → r.steps ≡ m → Leaves s (Computes t) (Meant.Integer r.number) m →
    IsComputed s e r
left_after s e t m r h k l = subst (λ y. IsComputed s y r) (sym h) (leaves_as s (Computes t) (Meant.Integer r.number) r.steps m k l)

same_number : (y z : ℤ) → ◌≡◌ {A = Result ℤ Trap} (Ok y) (Ok z) → y ≡ z
same_number y z e = cc

pub is_constant : (s : Store) (e : Expression) (n : Node) (t : NodeTree) (z : ℤ) (r : Computed) → (out-Expression e).node ≡ n → node_tree n ≡ t
    → ((k : Option IntKind) (v : List Meant.Value) (w : World) → node_effect k t v w ≡ Does [] (Meant.Integer z ∷ v) w) → IsAfter (Ok z) 1 r →
    IsComputed s (expression_tree e) r
is_constant s e n t z r h k d i =
    let kind = (out-Expression e).kind in
    left_after s (expression_tree e) (Typed kind t) 1 r (at_node e n t h k) i.1
    (at_once s (Computes (Typed kind t)) (Meant.Integer r.number)
    (λ v w q. d kind v w ∙ ap (λ y. Does [] (Meant.Integer y ∷ v) w) (same_number z r.number i.0)))

steps_of_two : (r n : ℕ) → r ≡ n + 2 → r ≡ suc (n + 1)
steps_of_two r n e = omega (arith, e)

pub is_unary : (s : Store) (e a : Expression) (op : UnaryOp) (x r : Computed) → (out-Expression e).node ≡ N.Unary op a → IsComputed s (expression_tree a) x
    → IsAfter (unary_result op (operand_kind (out-Expression a).kind) x.number) (x.steps + 2) r → IsComputed s (expression_tree e) r
is_unary s e a op x r h l i =
    let kind = (out-Expression e).kind in
    let b = expression_tree a in
    let is : unary_result op (operand_kind (kind_of b)) x.number ≡ Ok r.number = ap (λ k. unary_result op (operand_kind k) x.number) (kind_is a) ∙ i.0 in
    left_after s (expression_tree e) (Typed kind (Unary op b)) (suc (x.steps + 1)) r (at_node e (N.Unary op a) (Unary op b) h (node-Unary op a))
    (steps_of_two r.steps x.steps i.1)
    (two_parts s (Computes (Typed kind (Unary op b))) (Computes b) (AppliesUnary op (kind_of b)) (Meant.Integer x.number) (Meant.Integer r.number) x.steps
    (λ v w q. refl) l (λ v w q. ap (λ y. left (outcome y w) v) is))

cast_to : (s : Store) (e a : Expression) (k : IntKind) (x r : Computed) → (out-Expression e).node ≡ N.Cast a → (out-Expression e).kind ≡ Some k →
    IsComputed s (expression_tree a) x
    → IsAfter (Ok (converted k x.number)) (x.steps + 2) r → IsComputed s (expression_tree e) r
cast_to s e a k x r h o l i =
    let b = expression_tree a in
    left_after s (expression_tree e) (Typed (Some k) (Cast b)) (suc (x.steps + 1)) r
    (at_node e (N.Cast a) (Cast b) h (node-Cast a) ∙ ap (λ y. Typed y (Cast b)) o) (steps_of_two r.steps x.steps i.1)
    (two_parts s (Computes (Typed (Some k) (Cast b))) (Computes b) (Converts k) (Meant.Integer x.number) (Meant.Integer r.number) x.steps
    (λ v w q. refl) l (λ v w q. ap (λ y. Does [] (Meant.Integer y ∷ v) w) (same_number (converted k x.number) r.number i.0)))

pub is_cast : (s : Store) (e a : Expression) (o : Option IntKind) (x r : Computed) → (out-Expression e).kind ≡ o →
    (out-Expression e).node ≡ N.Cast a → IsComputed s (expression_tree a) x
    → IsCast o x r → IsComputed s (expression_tree e) r
is_cast s e a None x r o h l i = absurd i
is_cast s e a (Some k) x r o h l i = cast_to s e a k x r h o l i

-- ---- binary marks

binary_tree : (e a b : Expression) (op : BinaryOp) → (out-Expression e).node ≡ N.Binary op a b →
    expression_tree e ≡ Typed (out-Expression e).kind (Binary op (expression_tree a) (expression_tree b))
binary_tree e a b op h = at_node e (N.Binary op a b) (Binary op (expression_tree a) (expression_tree b)) h (node-Binary op a b)

pub is_decided : (s : Store) (e a b : Expression) (op : BinaryOp) (x r : Computed) → (out-Expression e).node ≡ N.Binary op a b →
    IsComputed s (expression_tree a) x
    → decides op x.number ≡ true → IsAfter (Ok (decided op)) (x.steps + 2) r → IsComputed s (expression_tree e) r
is_decided s e a b AndThen x r h l d i =
    let kind = (out-Expression e).kind in
    let t = Typed kind (Binary AndThen (expression_tree a) (expression_tree b)) in
    left_after s (expression_tree e) t (suc (x.steps + 1)) r (binary_tree e a b AndThen h) (steps_of_two r.steps x.steps i.1)
    (two_parts s (Computes t) (Computes (expression_tree a)) (Ands (expression_tree b)) (Meant.Integer x.number) (Meant.Integer r.number) x.steps
    (λ v w q. refl) l
    (λ v w q. ap (λ c. cond (not c) (Does (Computes (expression_tree b) ∷ Judges ∷ []) v w) (Does [] (Meant.Integer (pos 0) ∷ v) w)) d
    ∙ ap (λ y. Does [] (Meant.Integer y ∷ v) w) (same_number (pos 0) r.number i.0)))
is_decided s e a b OrElse x r h l d i =
    let kind = (out-Expression e).kind in
    let t = Typed kind (Binary OrElse (expression_tree a) (expression_tree b)) in
    left_after s (expression_tree e) t (suc (x.steps + 1)) r (binary_tree e a b OrElse h) (steps_of_two r.steps x.steps i.1)
    (two_parts s (Computes t) (Computes (expression_tree a)) (Ors (expression_tree b)) (Meant.Integer x.number) (Meant.Integer r.number) x.steps
    (λ v w q. refl) l
    (λ v w q. ap (λ c. cond c (Does [] (Meant.Integer (pos 1) ∷ v) w) (Does (Computes (expression_tree b) ∷ Judges ∷ []) v w)) d
    ∙ ap (λ y. Does [] (Meant.Integer y ∷ v) w) (same_number (pos 1) r.number i.0)))
is_decided s e a b _ x r h l d i = absurd (cc)

steps_of_three : (r m n : ℕ) → r ≡ m + n + 2 → r ≡ suc (m + (n + 1))
steps_of_three r m n e = omega (arith, e)

steps_of_more : (r m n : ℕ) → r ≡ m + n + 3 → r ≡ suc (m + suc (n + 1))
steps_of_more r m n e = omega (arith, e)

-- a mark that takes both operands
plain : (s : Store) (e a b : Expression) (op : BinaryOp) (x y r : Computed) → (out-Expression e).node ≡ N.Binary op a b →
    IsComputed s (expression_tree a) x → IsComputed s (expression_tree b) y
    → ((k : Option IntKind) (v : List Meant.Value) (w : World) → effect (Computes (Typed k (Binary op (expression_tree a) (expression_tree b)))) v w
    ≡ Does (Computes (expression_tree a) ∷ Computes (expression_tree b) ∷ AppliesBinary op (kind_of (expression_tree a))
    (kind_of (expression_tree b)) ∷ []) v w)
    → IsAfter (binary_result op (operand_kind (out-Expression a).kind) (operand_kind (out-Expression b).kind) x.number y.number)
    (x.steps + y.steps + 2) r → IsComputed s (expression_tree e) r
plain s e a b op x y r h l m d i =
    let kind = (out-Expression e).kind in
    let t = Typed kind (Binary op (expression_tree a) (expression_tree b)) in
    let is : binary_result op (operand_kind (kind_of (expression_tree a))) (operand_kind (kind_of (expression_tree b))) x.number y.number ≡ Ok r.number =
    ap (λ j. binary_result op (operand_kind j) (operand_kind (kind_of (expression_tree b))) x.number y.number) (kind_is a)
    ∙ ap (λ k. binary_result op (operand_kind (out-Expression a).kind) (operand_kind k) x.number y.number) (kind_is b) ∙ i.0 in
    left_after s (expression_tree e) t (suc (x.steps + (y.steps + 1))) r (binary_tree e a b op h) (steps_of_three r.steps x.steps y.steps i.1)
    (three_parts s (Computes t) (Computes (expression_tree a)) (Computes (expression_tree b))
    (AppliesBinary op (kind_of (expression_tree a)) (kind_of (expression_tree b)))
    (Meant.Integer x.number) (Meant.Integer y.number) (Meant.Integer r.number) x.steps y.steps (λ v w q. d kind v w) l m
    (λ v w q. ap (λ o. left (outcome o w) v) is))

pub is_of_both : (s : Store) (e a b : Expression) (op : BinaryOp) (x y r : Computed) → (out-Expression e).node ≡ N.Binary op a b →
    IsComputed s (expression_tree a) x → IsComputed s (expression_tree b) y
    → decides op x.number ≡ false → IsOfBoth op (out-Expression a).kind (out-Expression b).kind x y r → IsComputed s (expression_tree e) r
is_of_both s e a b AndThen x y r h l m d i =
    let kind = (out-Expression e).kind in
    let t = Typed kind (Binary AndThen (expression_tree a) (expression_tree b)) in
    left_after s (expression_tree e) t (suc (x.steps + suc (y.steps + 1))) r (binary_tree e a b AndThen h) (steps_of_more r.steps x.steps y.steps i.1)
    (more_parts s (Computes t) (Computes (expression_tree a)) (Ands (expression_tree b)) (Computes (expression_tree b)) Judges
    (Meant.Integer x.number) (Meant.Integer y.number) (Meant.Integer r.number) x.steps y.steps (λ v w q. refl) l
    (λ v w q. ap (λ c. cond (not c) (Does (Computes (expression_tree b) ∷ Judges ∷ []) v w) (Does [] (Meant.Integer (pos 0) ∷ v) w)) d) m
    (λ v w q. ap (λ z. Does [] (Meant.Integer z ∷ v) w) (same_number (truth (not (is_zero y.number))) r.number i.0)))
is_of_both s e a b OrElse x y r h l m d i =
    let kind = (out-Expression e).kind in
    let t = Typed kind (Binary OrElse (expression_tree a) (expression_tree b)) in
    left_after s (expression_tree e) t (suc (x.steps + suc (y.steps + 1))) r (binary_tree e a b OrElse h) (steps_of_more r.steps x.steps y.steps i.1)
    (more_parts s (Computes t) (Computes (expression_tree a)) (Ors (expression_tree b)) (Computes (expression_tree b)) Judges
    (Meant.Integer x.number) (Meant.Integer y.number) (Meant.Integer r.number) x.steps y.steps (λ v w q. refl) l
    (λ v w q. ap (λ c. cond c (Does [] (Meant.Integer (pos 1) ∷ v) w) (Does (Computes (expression_tree b) ∷ Judges ∷ []) v w)) d) m
    (λ v w q. ap (λ z. Does [] (Meant.Integer z ∷ v) w) (same_number (truth (not (is_zero y.number))) r.number i.0)))
is_of_both s e a b (Arith op) x y r h l m d i = plain s e a b (Arith op) x y r h l m (λ k v w. refl) i
is_of_both s e a b Less x y r h l m d i = plain s e a b Less x y r h l m (λ k v w. refl) i
is_of_both s e a b Greater x y r h l m d i = plain s e a b Greater x y r h l m (λ k v w. refl) i
is_of_both s e a b AtMost x y r h l m d i = plain s e a b AtMost x y r h l m (λ k v w. refl) i
is_of_both s e a b AtLeast x y r h l m d i = plain s e a b AtLeast x y r h l m (λ k v w. refl) i
is_of_both s e a b Equal x y r h l m d i = plain s e a b Equal x y r h l m (λ k v w. refl) i
is_of_both s e a b Unequal x y r h l m d i = plain s e a b Unequal x y r h l m (λ k v w. refl) i
