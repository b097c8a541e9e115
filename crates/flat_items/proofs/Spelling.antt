-- The trees of expressions that are made.
use Rattle.std.proofs.Common.{◌≡◌, ℕ, ℤ, Option, Some, refl, ap, ◌∙◌}
use Rattle.c_types.specs.declared.kinds.IntKind.{IntKind}
use Rattle.c_types.specs.declared.kinds.IntKind.TheVariants as K
use Rattle.c_types.specs.Numbers.{greatest}
use mir.Syntax.{w128}
use mir.Val.{to_z, of_z}
use Rattle.c_tree.specs.declared.tree.UnaryOp.{UnaryOp}
use Rattle.c_tree.specs.declared.tree.BinaryOp.{BinaryOp}
use Rattle.c_tree.specs.declared.tree.Home.TheVariants as H
use Rattle.c_tree.specs.declared.tree.Expression.{Expression, Expression-F, roll-Expression, out-roll-Expression}
use Rattle.c_tree.specs.declared.tree.Node.{Node, Number, Unary, Binary, Read, Assign}
use Rattle.c_tree.specs.declared.tree.Place.{Place, Var, Cell}
use Rattle.c_tree.specs.ExpressionTrees as P
use Rattle.c_tree.specs.ExpressionTrees.{ExpressionTree, Typed, expression_tree, node_tree, place_tree}
use Rattle.c_tree.proofs.ExpressionLaws.{expression-parts, node-Number, node-Unary, node-Binary, node-Read, node-Assign, place-Var, place-Cell}

pub typed : (k : Option IntKind) (n : Node) → expression_tree (roll-Expression (record { kind = k; node = n })) ≡ Typed k (node_tree n)
typed k n = expression-parts (roll-Expression (record { kind = k; node = n })) ∙
    ap (λ (o : Expression-F Node Place Expression). Typed o.kind (node_tree o.node)) (out-roll-Expression (record { kind = k; node = n }))

pub typed-Number : (k : IntKind) (n : ℤ) → expression_tree (roll-Expression (record { kind = Some k; node = Number n })) ≡ Typed (Some k) (P.Number n)
typed-Number k n = typed (Some k) (Number n) ∙ ap (Typed (Some k)) (node-Number n)

pub typed-Unary : (k : IntKind) (op : UnaryOp) (a : Expression) (t : ExpressionTree) → expression_tree a ≡ t →
    expression_tree (roll-Expression (record { kind = Some k; node = Unary op a })) ≡ Typed (Some k) (P.Unary op t)
typed-Unary k op a t e = typed (Some k) (Unary op a) ∙ ap (Typed (Some k)) (node-Unary op a ∙ ap (P.Unary op) e)

pub typed-Binary : (k : IntKind) (op : BinaryOp) (a b : Expression) (t u : ExpressionTree) → expression_tree a ≡ t → expression_tree b ≡ u →
    expression_tree (roll-Expression (record { kind = Some k; node = Binary op a b })) ≡ Typed (Some k) (P.Binary op t u)
typed-Binary k op a b t u e f = typed (Some k) (Binary op a b) ∙ ap (Typed (Some k))
    (node-Binary op a b ∙ ap (λ x. P.Binary op x (expression_tree b)) e ∙ ap (P.Binary op t) f)

pub typed-Read : (k : IntKind) (x : ℕ) → expression_tree (roll-Expression (record { kind = Some k; node = Read (Var (H.Slot x)) })) ≡ Typed (Some k)
    (P.Read (P.Var (H.Slot x)))
typed-Read k x = typed (Some k) (Read (Var (H.Slot x))) ∙ ap (Typed (Some k)) (node-Read (Var (H.Slot x)) ∙ ap P.Read (place-Var (H.Slot x)))

pub typed-Assign : (k : IntKind) (x : ℕ) (a : Expression) (t : ExpressionTree) → expression_tree a ≡ t →
    expression_tree (roll-Expression (record { kind = Some k; node = Assign (Var (H.Slot x)) a })) ≡ Typed (Some k) (P.Assign (P.Var (H.Slot x)) t)
typed-Assign k x a t e = typed (Some k) (Assign (Var (H.Slot x)) a) ∙ ap (Typed (Some k))
    (node-Assign (Var (H.Slot x)) a ∙ ap (λ p. P.Assign p (expression_tree a)) (place-Var (H.Slot x)) ∙ ap (P.Assign (P.Var (H.Slot x))) e)

pub typed-Cell : (k : IntKind) (x : ℕ) (i a : Expression) (j t : ExpressionTree) → expression_tree i ≡ j → expression_tree a ≡ t →
    expression_tree (roll-Expression (record { kind = Some k; node = Assign (Cell (H.Slot x) i) a })) ≡ Typed (Some k) (P.Assign (P.Cell (H.Slot x) j) t)
typed-Cell k x i a j t f e = typed (Some k) (Assign (Cell (H.Slot x) i) a) ∙
    ap (Typed (Some k)) (node-Assign (Cell (H.Slot x) i) a ∙ ap (λ p. P.Assign p (expression_tree a))
    (place-Cell (H.Slot x) i ∙ ap (P.Cell (H.Slot x)) f) ∙ ap (P.Assign (P.Cell (H.Slot x) j)) e)

-- the greatest number of each kind fits
pub greatest_fits : (k : IntKind) → to_z w128 (of_z w128 (greatest k)) ≡ greatest k
greatest_fits K.Char = refl
greatest_fits K.UChar = refl
greatest_fits K.Int = refl
greatest_fits K.UInt = refl
greatest_fits K.Long = refl
greatest_fits K.ULong = refl
