-- What stands behind a function's body: the scopes around it, and its parameters among the slots.
use Rattle.std.proofs.Common.{◌≡◌, ◌+◌, ℕ, List, [], ◌∷◌, length, drop, Option, Some, None, refl, ap, ◌∙◌, length-append, arith}
use Rattle.c_grammar.specs.Items.{Declarator, Item, Declares, States, From, Statement, If, IfElse, While, DoWhile, For, Switch, Block, Body, Braces, Lone, Items, NoItem, Then}
use Rattle.c_grammar.specs.Tops.{Parameter, Function}
use Rattle.c_kinds.specs.declared.binding.Binding.TheVariants.{Local}
use Rattle.c_kinds.specs.Scopes.{Scope, bind}
use Rattle.c_kinds.proofs.ScopeLaws.{drop_bind}
use Rattle.c_statements.specs.declared.anchors.Anchor.{Anchor}
use Rattle.c_statements.specs.declared.extents.Kinded.{Kinded}
use Rattle.c_statements.specs.Context.{Context, Walk}
use Rattle.c_statements.specs.Declarations.{declared, all_declared}
use Rattle.c_statements.specs.Statements.{behind_item, behind_statement, behind_body, behind_items}
use Rattle.c_statements.specs.Functions as functions
use Rattle.c_statements.specs.Functions.{bind_parameter, bind_parameters, parameter_shape, inside, behind_within, context}

-- the scopes around the nearest
abbrev pub outer : Walk → List Scope
outer w = drop 1 w.scopes

declared-outer : (word : ℕ → List ℕ) (k : Kinded) (ds : List Declarator) (w : Walk) → outer (all_declared word k ds w) ≡ outer w
declared-outer word k [] w = refl
declared-outer word k (d ∷ ds) w = declared-outer word k ds (declared word k d w) ∙ drop_bind (word d.name) _ w.scopes

body-scopes : (ctx : Context) (b : Body) (w : Walk) → (behind_body ctx b w).scopes ≡ w.scopes
body-scopes ctx (Braces first after xs) w = refl
body-scopes ctx (Lone first after x) w = refl

statement-scopes : (ctx : Context) (s : Statement) (w : Walk) → (behind_statement ctx s w).scopes ≡ w.scopes
statement-scopes ctx (If t b) w = body-scopes ctx b w
statement-scopes ctx (IfElse t b c) w = body-scopes ctx c (behind_body ctx b w) ∙ body-scopes ctx b w
statement-scopes ctx (While t b) w = body-scopes ctx b w
statement-scopes ctx (DoWhile b t) w = body-scopes ctx b w
statement-scopes ctx (For start t u b) w = refl
statement-scopes ctx (Switch t b) w = body-scopes ctx b w
statement-scopes ctx (Block b) w = body-scopes ctx b w
statement-scopes ctx _ w = refl

item-outer : (ctx : Context) (x : Item) (w : Walk) → outer (behind_item ctx x w) ≡ outer w
item-outer ctx (Declares first after d) w = declared-outer ctx.word _ d.names w
item-outer ctx (States ls (From first after s)) w = ap (drop 1) (statement-scopes ctx s w)

items-outer : (ctx : Context) (xs : Items) (w : Walk) → outer (behind_items ctx xs w) ≡ outer w
items-outer ctx NoItem w = refl
items-outer ctx (Then x xs) w = items-outer ctx xs (behind_item ctx x w) ∙ item-outer ctx x w

outermost-outer : (ctx : Context) (b : Body) (w : Walk) → outer (functions.behind_body ctx b w) ≡ outer w
outermost-outer ctx (Braces first after xs) w = items-outer ctx xs w
outermost-outer ctx (Lone first after x) w = item-outer ctx x w

parameter-outer : (word : ℕ → List ℕ) (x : Parameter) (w : Walk) → outer (bind_parameter word x w) ≡ outer w
parameter-outer word x w = by x.name
  where
    by : (n : Option ℕ) → drop 1 (elim n [ Some at ↦ bind (word at) (Local (length w.slots) (parameter_shape word x)) w.scopes | None ↦ w.scopes ]) ≡ outer w
    by (Some at) = drop_bind (word at) (Local (length w.slots) (parameter_shape word x)) w.scopes
    by None = refl

parameters-outer : (word : ℕ → List ℕ) (xs : List Parameter) (w : Walk) → outer (bind_parameters word xs w) ≡ outer w
parameters-outer word [] w = refl
parameters-outer word (x ∷ xs) w = parameters-outer word xs (bind_parameter word x w) ∙ parameter-outer word x w

within-outer : (word : ℕ → List ℕ) (notes : Anchor → List (List ℕ)) (f : Function) (b : Option Body) (w : Walk) →
    outer (behind_within word notes f b w) ≡ outer w
within-outer word notes f None w = refl
within-outer word notes f (Some b) w = outermost-outer (context word notes f b) b w

-- the scopes around a function stay
pub function_kept : (word : ℕ → List ℕ) (notes : Anchor → List (List ℕ)) (f : Function) (scopes : List Scope)
    → drop 1 (behind_within word notes f f.body (inside word f scopes)).scopes ≡ scopes
function_kept word notes f scopes = within-outer word notes f f.body (inside word f scopes) ∙ parameters-outer word f.parameters (functions.entered scopes)

parameters-slots : (word : ℕ → List ℕ) (xs : List Parameter) (w : Walk) → length (bind_parameters word xs w).slots ≡ length w.slots + length xs
parameters-slots word [] w = omega arith
parameters-slots word (x ∷ xs) w = parameters-slots word xs (bind_parameter word x w) ∙ rw length-append (omega arith)

-- each parameter is a slot
pub function_params : (word : ℕ → List ℕ) (f : Function) (scopes : List Scope) → length (inside word f scopes).slots ≡ length f.parameters
function_params word f scopes = omega (arith, parameters-slots word f.parameters (functions.entered scopes))
