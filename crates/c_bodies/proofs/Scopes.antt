-- What is declared in a list is gone behind it.
use Rattle.std.proofs.Common.{◌≡◌, ◌∙◌, ℕ, List, [], ◌∷◌, drop, refl, ap}
use Rattle.c_bodies.specs.Views.{left}
use Rattle.c_kinds.proofs.ScopeLaws.{drop_bind}
use Rattle.c_grammar.specs.Items.{Declarator, Start, NoStart, StartValue, StartNames, Item, Declares, States, From, Statement, If, IfElse, While, DoWhile, For, Switch, Block, Body, Braces, Lone, Items, NoItem, Then}
use Rattle.c_statements.specs.declared.extents.Kinded.{Kinded}
use Rattle.c_statements.specs.Context.{Context, Walk, enter, leave, env_at}
use Rattle.c_statements.specs.Declarations.{declared, all_declared}
use Rattle.c_statements.specs.Statements.{behind_start, behind_item, behind_statement, behind_body, behind_items}

declared-rest : (word : ℕ → List ℕ) (k : Kinded) (ds : List Declarator) (w : Walk) → drop 1 (all_declared word k ds w).scopes ≡ drop 1 w.scopes
declared-rest word k [] w = refl
declared-rest word k (d ∷ ds) w = declared-rest word k ds (declared word k d w) ∙ drop_bind _ _ w.scopes

pub body_scopes : (ctx : Context) (b : Body) (w : Walk) → (behind_body ctx b w).scopes ≡ w.scopes
body_scopes ctx (Braces first after xs) w = refl
body_scopes ctx (Lone first after x) w = refl

statement-scopes : (ctx : Context) (s : Statement) (w : Walk) → (behind_statement ctx s w).scopes ≡ w.scopes
statement-scopes ctx (If t b) w = body_scopes ctx b w
statement-scopes ctx (IfElse t b c) w = body_scopes ctx c (behind_body ctx b w) ∙ body_scopes ctx b w
statement-scopes ctx (While t b) w = body_scopes ctx b w
statement-scopes ctx (DoWhile b t) w = body_scopes ctx b w
statement-scopes ctx (For s t u b) w = refl
statement-scopes ctx (Switch t b) w = body_scopes ctx b w
statement-scopes ctx (Block b) w = body_scopes ctx b w
statement-scopes ctx _ w = refl

item-rest : (ctx : Context) (x : Item) (w : Walk) → drop 1 (behind_item ctx x w).scopes ≡ drop 1 w.scopes
item-rest ctx (Declares first after d) w = declared-rest _ _ d.names w
item-rest ctx (States ls (From first after s)) w = ap (drop 1) (statement-scopes ctx s w)

items-rest : (ctx : Context) (xs : Items) (w : Walk) → drop 1 (behind_items ctx xs w).scopes ≡ drop 1 w.scopes
items-rest ctx NoItem w = refl
items-rest ctx (Then x xs) w = items-rest ctx xs (behind_item ctx x w) ∙ item-rest ctx x w

start-rest : (ctx : Context) (s : Start) (w : Walk) → drop 1 (behind_start ctx s w).scopes ≡ drop 1 w.scopes
start-rest ctx NoStart w = refl
start-rest ctx (StartValue t) w = refl
start-rest ctx (StartNames d) w = declared-rest _ _ d.names w

pub left_item : (ctx : Context) (x : Item) (w : Walk) → left (behind_item ctx x (enter w)) ≡ leave w (behind_item ctx x (enter w))
left_item ctx x w = λ i. record { scopes = item-rest ctx x (enter w) i; slots = (behind_item ctx x (enter w)).slots }

pub left_items : (ctx : Context) (xs : Items) (w : Walk) → left (behind_items ctx xs (enter w)) ≡ leave w (behind_items ctx xs (enter w))
left_items ctx xs w = λ i. record { scopes = items-rest ctx xs (enter w) i; slots = (behind_items ctx xs (enter w)).slots }

-- a loop's names
pub left_for : (ctx : Context) (s : Start) (b : Body) (w : Walk)
    → left (behind_body ctx b (behind_start ctx s (enter w))) ≡ leave w (behind_body ctx b (behind_start ctx s (enter w)))
left_for ctx s b w =
    λ i. record {
      scopes = (ap (drop 1) (body_scopes ctx b (behind_start ctx s (enter w))) ∙ start-rest ctx s (enter w)) i;
      slots = (behind_body ctx b (behind_start ctx s (enter w))).slots;
    }

-- the names behind a list are those before it
pub names_behind : (ctx : Context) (b : Body) (w : Walk) → env_at ctx (behind_body ctx b w) ≡ env_at ctx w
names_behind ctx b w = λ i. record { word = ctx.word; scopes = body_scopes ctx b w i }

pub ruleset left_lists = (left_item, left_items, left_for)

pub ruleset same_names = (body_scopes, names_behind)
