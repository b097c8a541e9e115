-- What each form of expression comes to, and how its tasks are those of the machine.
use Rattle.std.proofs.Common.{◌≡◌, ℕ, ℤ, pos, List, [], ◌∷◌, Bool, map, refl, ap, ◌∙◌}
use Rattle.c_types.specs.declared.kinds.IntKind.TheVariants.{Char}
use Rattle.c_types.specs.declared.kinds.ArithOp.{ArithOp}
use Rattle.c_types.specs.Numbers.{converted}
use Rattle.c_tree.specs.declared.tree.Home.{Home}
use Rattle.c_tree.specs.declared.tree.UnaryOp.{UnaryOp}
use Rattle.c_tree.specs.declared.tree.BinaryOp.{BinaryOp}
use Rattle.c_tree.specs.declared.tree.BinaryOp.TheVariants.{Arith, Less, Greater, AtMost, AtLeast, Equal, Unequal, AndThen, OrElse}
use Rattle.c_tree.specs.declared.tree.Expression.{Expression, out-Expression}
use Rattle.c_tree.specs.declared.tree.Place.{Place, Var, Cell}
use Rattle.c_tree.specs.declared.tree.Node.{Node, Number, Character, EnumName, Text, Array, Read, Unary, Cast, Binary, Conditional, Assign, Update, Count, Comma, Call}
use Rattle.c_tree.specs.ExpressionTrees.{ExpressionTree, Typed, expression_tree, node_tree, place_tree, arguments}
use Rattle.c_tree.specs.Constants.{kind_of}
use Rattle.c_tree.proofs.ExpressionLaws.{expression-parts, place-Var, place-Cell, node-Number, node-Character, node-EnumName, node-Text, node-Array, node-Read, node-Unary, node-Cast, node-Binary, node-Conditional, node-Assign, node-Update, node-Count, node-Comma, node-Call}
use Rattle.step_tasks.specs.Tasks.{decide_of}
use Rattle.jump_meaning.specs.Values as Meant
use Rattle.jump_meaning.specs.World.{World, owner}
use Rattle.jump_meaning.specs.Effects.{Does, Computes, Finds, Indexes, Drops, Loads, Fetches, Stores, Counts, Calls, Decides, AppliesUnary, AppliesBinary, binary_tasks, cast_tasks, argument_tasks, argument_count, node_effect, effect}

pub plain_tasks : (op : BinaryOp) (a b : ExpressionTree) → (op ≡ AndThen → ⊥) → (op ≡ OrElse → ⊥) →
    binary_tasks op a b ≡ Computes a ∷ Computes b ∷ AppliesBinary op (kind_of a) (kind_of b) ∷ []
plain_tasks (Arith op) a b h j = refl
plain_tasks Less a b h j = refl
plain_tasks Greater a b h j = refl
plain_tasks AtMost a b h j = refl
plain_tasks AtLeast a b h j = refl
plain_tasks Equal a b h j = refl
plain_tasks Unequal a b h j = refl
plain_tasks AndThen a b h j = absurd (h refl)
plain_tasks OrElse a b h j = absurd (j refl)

pub kind_is : (e : Expression) → kind_of (expression_tree e) ≡ (out-Expression e).kind
kind_is e = ap kind_of (expression-parts e)

-- an expression of this form does what the form does
at_form : (e : Expression) (n : Node) (v : List Meant.Value) (w : World) → (out-Expression e).node ≡ n →
    effect (Computes (expression_tree e)) v w ≡ node_effect (out-Expression e).kind (node_tree n) v w
at_form e n v w h = ap (λ t. effect (Computes t) v w) (expression-parts e) ∙ ap (λ m. node_effect (out-Expression e).kind (node_tree m) v w) h

pub number_effect : (e : Expression) (n : ℤ) (v : List Meant.Value) (w : World) → (out-Expression e).node ≡ Number n →
    effect (Computes (expression_tree e)) v w ≡ Does [] (Meant.Integer n ∷ v) w
number_effect e n v w h = at_form e (Number n) v w h ∙ ap (λ t. node_effect (out-Expression e).kind t v w) (node-Number n)

pub character_effect : (e : Expression) (b : ℕ) (v : List Meant.Value) (w : World) → (out-Expression e).node ≡ Character b →
    effect (Computes (expression_tree e)) v w ≡ Does [] (Meant.Integer (converted Char (pos b)) ∷ v) w
character_effect e b v w h = at_form e (Character b) v w h ∙ ap (λ t. node_effect (out-Expression e).kind t v w) (node-Character b)

pub name_effect : (e : Expression) (m : List ℕ) (n : ℤ) (v : List Meant.Value) (w : World) → (out-Expression e).node ≡ EnumName m n →
    effect (Computes (expression_tree e)) v w ≡ Does [] (Meant.Integer n ∷ v) w
name_effect e m n v w h = at_form e (EnumName m n) v w h ∙ ap (λ t. node_effect (out-Expression e).kind t v w) (node-EnumName m n)

pub text_effect : (e : Expression) (bs : List ℕ) (v : List Meant.Value) (w : World) → (out-Expression e).node ≡ Text bs →
    effect (Computes (expression_tree e)) v w ≡ Does [] (Meant.Format bs ∷ v) w
text_effect e bs v w h = at_form e (Text bs) v w h ∙ ap (λ t. node_effect (out-Expression e).kind t v w) (node-Text bs)

pub array_effect : (e : Expression) (a : Home) (v : List Meant.Value) (w : World) → (out-Expression e).node ≡ Array a →
    effect (Computes (expression_tree e)) v w ≡ Does [] (Meant.Lends (owner a w) ∷ v) w
array_effect e a v w h = at_form e (Array a) v w h ∙ ap (λ t. node_effect (out-Expression e).kind t v w) (node-Array a)

pub read_effect : (e : Expression) (p : Place) (v : List Meant.Value) (w : World) → (out-Expression e).node ≡ Read p →
    effect (Computes (expression_tree e)) v w ≡ Does (Finds (place_tree p) ∷ Loads ∷ []) v w
read_effect e p v w h = at_form e (Read p) v w h ∙ ap (λ t. node_effect (out-Expression e).kind t v w) (node-Read p)

pub unary_effect : (e : Expression) (op : UnaryOp) (a : Expression) (v : List Meant.Value) (w : World) → (out-Expression e).node ≡ Unary op a
    → effect (Computes (expression_tree e)) v w ≡ Does (Computes (expression_tree a) ∷ AppliesUnary op (out-Expression a).kind ∷ []) v w
unary_effect e op a v w h =
    at_form e (Unary op a) v w h ∙ ap (λ t. node_effect (out-Expression e).kind t v w) (node-Unary op a)
    ∙ ap (λ k. Does (Computes (expression_tree a) ∷ AppliesUnary op k ∷ []) v w) (kind_is a)

pub cast_effect : (e a : Expression) (v : List Meant.Value) (w : World) → (out-Expression e).node ≡ Cast a →
    effect (Computes (expression_tree e)) v w ≡ Does (Computes (expression_tree a) ∷ cast_tasks (out-Expression e).kind) v w
cast_effect e a v w h = at_form e (Cast a) v w h ∙ ap (λ t. node_effect (out-Expression e).kind t v w) (node-Cast a)

pub binary_effect : (e : Expression) (op : BinaryOp) (a b : Expression) (v : List Meant.Value) (w : World) → (out-Expression e).node ≡ Binary op a b
    → effect (Computes (expression_tree e)) v w ≡ Does (binary_tasks op (expression_tree a) (expression_tree b)) v w
binary_effect e op a b v w h = at_form e (Binary op a b) v w h ∙ ap (λ t. node_effect (out-Expression e).kind t v w) (node-Binary op a b)

pub conditional_effect : (e a b c : Expression) (v : List Meant.Value) (w : World) → (out-Expression e).node ≡ Conditional a b c
    → effect (Computes (expression_tree e)) v w ≡ Does (Computes (expression_tree a) ∷ Decides (expression_tree b) (expression_tree c)
    (out-Expression e).kind ∷ []) v w
conditional_effect e a b c v w h = at_form e (Conditional a b c) v w h ∙ ap (λ t. node_effect (out-Expression e).kind t v w) (node-Conditional a b c)

pub assign_effect : (e : Expression) (p : Place) (a : Expression) (v : List Meant.Value) (w : World) → (out-Expression e).node ≡ Assign p a
    → effect (Computes (expression_tree e)) v w ≡ Does (Finds (place_tree p) ∷ Computes (expression_tree a) ∷ Stores ∷ []) v w
assign_effect e p a v w h = at_form e (Assign p a) v w h ∙ ap (λ t. node_effect (out-Expression e).kind t v w) (node-Assign p a)

pub update_effect : (e : Expression) (op : ArithOp) (p : Place) (a : Expression) (v : List Meant.Value) (w : World) → (out-Expression e).node ≡ Update op p a
    → effect (Computes (expression_tree e)) v w
    ≡ Does (Finds (place_tree p) ∷ Fetches ∷ Computes (expression_tree a) ∷ AppliesBinary (Arith op) (out-Expression e).kind
    (out-Expression a).kind ∷ Stores ∷ []) v w
update_effect e op p a v w h =
    at_form e (Update op p a) v w h ∙ ap (λ t. node_effect (out-Expression e).kind t v w) (node-Update op p a)
    ∙ ap (λ k. Does (Finds (place_tree p) ∷ Fetches ∷ Computes (expression_tree a) ∷ AppliesBinary (Arith op) (out-Expression e).kind k ∷ Stores ∷ [])
    v w) (kind_is a)

pub count_effect : (e : Expression) (p : Place) (up after : Bool) (v : List Meant.Value) (w : World) → (out-Expression e).node ≡ Count p up after
    → effect (Computes (expression_tree e)) v w ≡ Does (Finds (place_tree p) ∷ Counts up after ∷ []) v w
count_effect e p up after v w h = at_form e (Count p up after) v w h ∙ ap (λ t. node_effect (out-Expression e).kind t v w) (node-Count p up after)

pub comma_effect : (e a b : Expression) (v : List Meant.Value) (w : World) → (out-Expression e).node ≡ Comma a b
    → effect (Computes (expression_tree e)) v w ≡ Does (Computes (expression_tree a) ∷ Drops ∷ Computes (expression_tree b) ∷ []) v w
comma_effect e a b v w h = at_form e (Comma a b) v w h ∙ ap (λ t. node_effect (out-Expression e).kind t v w) (node-Comma a b)

pub call_effect : (e : Expression) (m : List ℕ) (xs : List Expression) (v : List Meant.Value) (w : World) → (out-Expression e).node ≡ Call m xs
    → effect (Computes (expression_tree e)) v w ≡ (let ys = arguments (map expression_tree xs) in
    Does (argument_tasks ys (Calls m (argument_count ys) ∷ [])) v w)
call_effect e m xs v w h = at_form e (Call m xs) v w h ∙ ap (λ t. node_effect (out-Expression e).kind t v w) (node-Call m xs)

-- what takes the condition of a conditional expression
pub decides : (e a b c : Expression) → (out-Expression e).node ≡ Conditional a b c →
    decide_of (expression_tree e) ≡ Decides (expression_tree b) (expression_tree c) (out-Expression e).kind
decides e a b c h =
    ap decide_of (expression-parts e) ∙ ap (λ n. decide_of (Typed (out-Expression e).kind (node_tree n))) h
    ∙ ap (λ n. decide_of (Typed (out-Expression e).kind n)) (node-Conditional a b c)

-- places

pub var_effect : (p : Place) (a : Home) (v : List Meant.Value) (w : World) → p ≡ Var a →
    effect (Finds (place_tree p)) v w ≡ Does [] (Meant.Designates (owner a w) 0 ∷ v) w
var_effect p a v w h = ap (λ q. effect (Finds (place_tree q)) v w) h ∙ ap (λ t. effect (Finds t) v w) (place-Var a)

pub cell_effect : (p : Place) (a : Home) (e : Expression) (v : List Meant.Value) (w : World) → p ≡ Cell a e →
    effect (Finds (place_tree p)) v w ≡ Does (Computes (expression_tree e) ∷ Indexes a ∷ []) v w
cell_effect p a e v w h = ap (λ q. effect (Finds (place_tree q)) v w) h ∙ ap (λ t. effect (Finds t) v w) (place-Cell a e)
