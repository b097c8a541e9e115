-- The plain form: guards are variables, every test and selector is an expression, and sections have their ends.
use Rattle.std.specs.Prelude.{ℕ, zero, suc, ◌+◌, ◌-◌, ◌==◌, Bool, true, false, not, ◌&&◌, ◌||◌, cond, ℤ, pos, List, [], ◌∷◌, ◌++◌, map, length, Option, Some, None, neg_ℤ, int_le, if◌then◌else◌}
use Rattle.c_types.specs.declared.kinds.IntKind.{IntKind}
use Rattle.c_types.specs.declared.kinds.IntKind.TheVariants.{Int}
use Rattle.c_types.specs.declared.kinds.ArithOp.TheVariants.{Sub}
use Rattle.c_types.specs.Numbers as numbers
use Rattle.c_types.specs.Numbers.{least, greatest}
use Rattle.c_tree.specs.declared.tree.UnaryOp.TheVariants.{Minus, Not}
use Rattle.c_tree.specs.declared.tree.BinaryOp.{BinaryOp}
use Rattle.c_tree.specs.declared.tree.BinaryOp.TheVariants.{Arith, Unequal, AndThen, OrElse}
use Rattle.c_tree.specs.declared.tree.Home.TheVariants as H
use Rattle.c_tree.specs.declared.tree.Expression.{Expression, out-Expression, roll-Expression}
use Rattle.c_tree.specs.declared.tree.Place.{Place, Var}
use Rattle.c_tree.specs.declared.tree.Node.{Node, out-Node, Number, Read, Unary, Binary, Conditional, Assign}
use Rattle.c_tree.specs.declared.tree.Node.TheOpen as N
use Rattle.c_tree.specs.declared.tree.Test.{Test, Test-F, fold-Test, Source}
use Rattle.c_tree.specs.declared.tree.Test.TheOpen as T
use Rattle.c_tree.specs.declared.tree.Selector.{Selector, Selector-F, fold-Selector}
use Rattle.c_tree.specs.declared.tree.Selector as V
use Rattle.c_tree.specs.declared.tree.Selector.TheOpen as S
use Rattle.c_tree.specs.declared.tree.Item.{Item, Item-F, fold-Item, roll-Item, out-Item, Evaluate, If, While, Do, Switch, Local}
use Rattle.c_tree.specs.declared.tree.Item.TheOpen as I
use Rattle.c_tree.specs.declared.tree.Section.{Section, fold-Section, roll-Section}
use Rattle.c_tree.specs.declared.tree.Slot.{Slot}
use Rattle.c_tree.specs.declared.tree.Function.{Function}
use Rattle.c_tree.specs.declared.tree.Top.{Top}
use Rattle.c_tree.specs.declared.tree.Top.TheVariants as P
use Rattle.c_tree.specs.declared.tree.Program.{Program}
use Rattle.c_tree.specs.SectionLabels.{labels_passed}

-- ---- expressions; `slot l` is the number of the slot of the guard of label l

-- an expression of the kind
abbrev pub expression : IntKind → Node → Expression
expression k n = roll-Expression (record { kind = Some k; node = n })

-- a number as it is written, of the kind
abbrev pub number : IntKind → ℤ → Expression
number k v = expression k (Number v)

-- the value of the variable in slot x
abbrev pub guard : ℕ → Expression
guard x = expression Int (Read (Var (H.Slot x)))

-- whether it is 0
abbrev pub guard_off : ℕ → Expression
guard_off x = expression Int (Unary Not (guard x))

-- the statement that sets it
abbrev pub guard_set : ℕ → Expression → Item
guard_set x e = Evaluate (expression Int (Assign (Var (H.Slot x)) e))

-- whether the value of a mark is 0 or 1
abbrev pub is_truth_mark : BinaryOp → Bool
is_truth_mark (Arith op) = false
is_truth_mark _ = true

-- whether the outermost mark of a node is a comparison, `!`, `&&` or `||`
abbrev pub is_truth_node : N.Node-F Node Place Expression → Bool
is_truth_node (N.Unary Not a) = true
is_truth_node (N.Binary op a b) = is_truth_mark op
is_truth_node _ = false

-- whether the outermost mark of an expression is a comparison, `!`, `&&` or `||`
abbrev pub is_truth : Expression → Bool
is_truth e = is_truth_node (out-Node (out-Expression e).node)

-- whether an expression isn't 0, as a number that is 0 or 1
abbrev pub truth : Expression → Expression
truth e = if is_truth e then e else expression Int (Binary Unequal e (number Int (pos 0)))

-- the least number of a kind, as `-max - 1`
abbrev pub least_constant : IntKind → Expression
least_constant k = expression k (Binary (Arith Sub) (expression k (Unary Minus (number k (greatest k)))) (number k (pos 1)))

-- a number as an expression of a promoted kind
abbrev pub constant : IntKind → ℤ → Expression
constant k n = if int_le (pos 0) n then number k n
    else if int_le n (least k) then least_constant k
    else expression k (Unary Minus (number k (neg_ℤ n)))

-- ---- tests and selectors

-- a test whose inner test is an expression
abbrev pub test_step : (ℕ → ℕ) → Test-F Expression → Expression
test_step slot (T.Source e) = e
test_step slot (T.On l) = guard (slot l)
test_step slot (T.Off l) = guard_off (slot l)
test_step slot (T.AndOff l t) = expression Int (Binary AndThen (guard_off (slot l)) t)
test_step slot (T.OrOn l t) = expression Int (Binary OrElse (guard (slot l)) t)

-- a test as an expression
abbrev pub plain_test : (ℕ → ℕ) → Test → Expression
plain_test slot t = fold-Test Expression (test_step slot) t

-- the promoted kind; int where an expression has no kind
abbrev pub promoted : Option IntKind → IntKind
promoted (Some kind) = numbers.promoted kind
promoted None = Int

-- the kind of its source expression, by that of the inner selector
abbrev pub selector_kind_step : Selector-F (Option IntKind) → Option IntKind
selector_kind_step (S.Source e) = (out-Expression e).kind
selector_kind_step (S.Pick l n s) = s

-- the kind of the expression in a selector
abbrev pub selector_kind : Selector → Option IntKind
selector_kind s = fold-Selector (Option IntKind) selector_kind_step s

-- `g ? k : e` for each guard, with the constants in the kind k
abbrev pub selector_step : (ℕ → ℕ) → IntKind → Selector-F Expression → Expression
selector_step slot k (S.Source e) = e
selector_step slot k (S.Pick l n s) = expression k (Conditional (guard (slot l)) (constant k n) s)

-- a selector as an expression, with the constants in the kind k
abbrev pub picked : (ℕ → ℕ) → IntKind → Selector → Expression
picked slot k s = fold-Selector Expression (selector_step slot k) s

-- with the constants in its promoted kind
abbrev pub plain_selector : (ℕ → ℕ) → Selector → Expression
plain_selector slot s = picked slot (promoted (selector_kind s)) s

-- ---- items

-- what the guard of a label is set to, where its jump is taken
abbrev pub armed : Option Expression → Expression
armed None = number Int (pos 1)
armed (Some e) = truth e

-- an item whose lists have no guards any more
abbrev pub item_step : (ℕ → ℕ) → Item-F Item Section → Item
item_step slot (I.Arm l e) = guard_set (slot l) (armed e)
item_step slot (I.Land l) = guard_set (slot l) (number Int (pos 0))
item_step slot (I.If t a b) = If (Source (plain_test slot t)) a b
item_step slot (I.While t a) = While (Source (plain_test slot t)) a
item_step slot (I.Do a t) = Do a (Source (plain_test slot t))
item_step slot (I.Switch s cs) = Switch (V.Source (plain_selector slot s)) cs
item_step slot x = roll-Item x

-- a section whose list has none
abbrev pub section_step : I.Section-F Item Section → Section
section_step c = roll-Section c

-- an item without guards
abbrev pub plain_item : (ℕ → ℕ) → Item → Item
plain_item slot x = fold-Item Item Section (item_step slot) section_step x

-- a section without guards
abbrev pub plain_section : (ℕ → ℕ) → Section → Section
plain_section slot c = fold-Section Item Section (item_step slot) section_step c

-- a list without guards
abbrev pub plain_items : (ℕ → ℕ) → List Item → List Item
plain_items slot xs = map (plain_item slot) xs

-- ---- the sections of switches

-- whether an item is `break`
abbrev pub is_break_layer : Item-F Item Section → Bool
is_break_layer I.Break = true
is_break_layer _ = false

-- whether an item of the tree is `break`
abbrev pub is_break : Item → Bool
is_break x = is_break_layer (out-Item x)

-- whether the last item of a list is `break`
abbrev pub last_is_break : List Item → Bool
last_is_break [] = false
last_is_break (x ∷ []) = is_break x
last_is_break (x ∷ y ∷ ys) = last_is_break (y ∷ ys)

-- a list without its last item
abbrev pub without_last : List Item → List Item
without_last [] = []
without_last (x ∷ []) = []
without_last (x ∷ y ∷ ys) = x ∷ without_last (y ∷ ys)

-- a section without end whose last item is `break` gets its end in that place
abbrev pub ended : I.Section-F Item Section → Section
ended c = if not c.ends && last_is_break c.list
    then roll-Section (record { cases = c.cases; default = c.default; list = without_last c.list; ends = true })
    else roll-Section c

-- an item whose sections have got their ends
abbrev pub tidied_step : Item-F Item Section → Item
tidied_step (I.Switch s cs) = Switch s (labels_passed cs)
tidied_step x = roll-Item x

-- an item whose switches have their sections in the plain form, at any depth
abbrev pub tidied_item : Item → Item
tidied_item x = fold-Item Item Section tidied_step ended x

-- a section whose list has them so, with its end
abbrev pub tidied_section : Section → Section
tidied_section c = fold-Section Item Section tidied_step ended c

-- a list whose switches have their sections in the plain form, at any depth
abbrev pub tidied : List Item → List Item
tidied xs = map tidied_item xs

-- ---- the guards that are left

-- whether a test reads the guard of label l, by whether its inner test does
abbrev pub test_names_step : ℕ → Test-F Bool → Bool
test_names_step l (T.Source e) = false
test_names_step l (T.On m) = m == l
test_names_step l (T.Off m) = m == l
test_names_step l (T.AndOff m t) = m == l || t
test_names_step l (T.OrOn m t) = m == l || t

-- whether a test reads the guard of a label
abbrev pub test_names : ℕ → Test → Bool
test_names l t = fold-Test Bool (test_names_step l) t

-- whether a selector does, by whether its inner selector does
abbrev pub selector_names_step : ℕ → Selector-F Bool → Bool
selector_names_step l (S.Source e) = false
selector_names_step l (S.Pick m n s) = m == l || s

-- whether a selector reads the guard of a label
abbrev pub selector_names : ℕ → Selector → Bool
selector_names l s = fold-Selector Bool (selector_names_step l) s

-- whether one of them is true
abbrev pub any_true : List Bool → Bool
any_true [] = false
any_true (b ∷ bs) = b || any_true bs

-- whether an item does, by whether the items in it do
abbrev pub names_step : ℕ → Item-F Bool Bool → Bool
names_step l (I.Arm m e) = m == l
names_step l (I.Land m) = m == l
names_step l (I.If t a b) = test_names l t || (any_true a || any_true b)
names_step l (I.While t a) = test_names l t || any_true a
names_step l (I.Do a t) = test_names l t || any_true a
names_step l (I.For f t u a) = any_true f || any_true a
names_step l (I.Switch s cs) = selector_names l s || any_true cs
names_step l (I.Block a) = any_true a
names_step l _ = false

-- whether a section does
abbrev pub section_names_step : I.Section-F Bool Bool → Bool
section_names_step c = any_true c.list

-- whether an Arm or a Land of a label, or a test or a selector with it, stands in an item
abbrev pub item_names : ℕ → Item → Bool
item_names l x = fold-Item Bool Bool (names_step l) section_names_step x

-- whether an Arm or a Land of a label, or a test or a selector with it, stands in a section
abbrev pub section_names : ℕ → Section → Bool
section_names l c = fold-Section Bool Bool (names_step l) section_names_step c

-- whether the guard of a label is left in a body
abbrev pub is_left : List Item → ℕ → Bool
is_left xs l = any_true (map (item_names l) xs)

-- the labels from n on, one for each name, whose guards are left
abbrev pub labels_left : List Item → ℕ → List (List ℕ) → List ℕ
labels_left xs n [] = []
labels_left xs n (m ∷ ms) = cond (is_left xs n) (n ∷ labels_left xs (n + 1) ms) (labels_left xs (n + 1) ms)

-- the names of those
abbrev pub names_left : List Item → ℕ → List (List ℕ) → List (List ℕ)
names_left xs n [] = []
names_left xs n (m ∷ ms) = cond (is_left xs n) (m ∷ names_left xs (n + 1) ms) (names_left xs (n + 1) ms)

-- the slot of a label, where those of these labels begin with `base`
abbrev pub slot_among : ℕ → List ℕ → ℕ → ℕ
slot_among base [] l = base
slot_among base (m ∷ ms) l = cond (m == l) base (slot_among (base + 1) ms l)

-- ---- functions and programs

-- so many numbers, from n on
abbrev pub numbers_from : ℕ → ℕ → List ℕ
numbers_from n zero = []
numbers_from n (suc more) = n ∷ numbers_from (n + 1) more

-- the declaration of a variable without a value
abbrev pub variable_declared : ℕ → Item
variable_declared k = Local k None

-- the declaration of a guard that is not set
abbrev pub guard_declared : ℕ → Item
guard_declared k = Local k (Some (number Int (pos 0) ∷ []))

-- the slot of a guard, under its name
abbrev pub guard_slot : List ℕ → Slot
guard_slot n = record { name = n; kind = Int; cells = None; constant = false }

-- the declarations of a function with these labels left: its block variables and then its guards
abbrev pub declared : Function → List ℕ → List Item
declared f ls =
    map variable_declared (numbers_from f.params (length f.slots - f.params))
    ++ map guard_declared (numbers_from (length f.slots) (length ls))

-- a body with its declarations, in which guards are variables
abbrev pub guarded_body : Function → List ℕ → List Item → List Item
guarded_body f ls body = declared f ls ++ tidied (plain_items (slot_among (length f.slots) ls) body)

-- a flat function with a body, whose guards become variables; names are given to all labels
abbrev pub with_guard_variables : List (List ℕ) → Function → List Item → Function
with_guard_variables names f body =
    record f {
      slots = f.slots ++ map guard_slot (names_left body 0 names);
      labels = [];
      body = Some (guarded_body f (labels_left body 0 names) body);
      flat = false;
    }

-- a function by whether it has a body: a flat one gets variables for its guards, and in every one sections get their ends
abbrev pub plain_body : List (List ℕ) → Function → Option (List Item) → Function
plain_body names f None = f
plain_body names f (Some body) = if f.flat then with_guard_variables names f body else record f { body = Some (tidied body) }

-- the plain form of a function
abbrev pub plain_function : List (List ℕ) → Function → Function
plain_function names f = plain_body names f f.body

-- of what stands at file scope
abbrev pub plain_top : (Function → List (List ℕ)) → Top → Top
plain_top names (P.Function f) = P.Function (plain_function (names f) f)
plain_top names x = x

-- the plain form of a program, where these names are given to the guards of a function
abbrev pub plain_with : (Function → List (List ℕ)) → Program → Program
plain_with names p = record p { tops = map (plain_top names) p.tops }
