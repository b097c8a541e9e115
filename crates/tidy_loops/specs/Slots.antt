-- The slot of the change that is to be taken at a loop, told by reading, and what the loop becomes.
use Rattle.std.specs.Prelude.{ℕ, ◌+◌, ◌-◌, Bool, cond, ◌&&◌, eqb, leb, ltb, List, [], ◌∷◌, length, get_or, ◌≡◌, Option, Some, None, option_map}
use Rattle.std.specs.Option.{option_map_or}
use Rattle.c_types.specs.declared.kinds.IntKind.{IntKind}
use Rattle.c_tree.specs.declared.tree.BinaryOp.{BinaryOp}
use Rattle.c_tree.specs.declared.tree.BinaryOp.TheVariants.{AndThen}
use Rattle.c_tree.specs.ExpressionTrees.{ExpressionTree, PlaceTree, Typed, Assign, Binary}
use Rattle.c_tree.specs.TestTrees.{TestTree, Source}
use Rattle.c_tree.specs.declared.tree.Item.{Item}
use Rattle.c_tree.specs.Trees.{Tree, Forest, Nil, Then, Evaluate, While, Do, For, Local, Break, Continue, trees_of}
use Rattle.jump_meaning.specs.Code.{FunctionTree, items_of, entry_or}
use Rattle.jump_meaning.specs.World.{no_slot}
use Rattle.tidy_laws.specs.Changes.{is_number, is_flag, is_zero_value, tailed, are_low, broken_loop, continued_loop, after_reset, both_there, changed_for}
use Rattle.tidy_slots.specs.Counts.{list_count}
use Rattle.tidy_loops.specs.Views.{off_slot, place_slot, is_it, is_int_kind}
use Rattle.tidy_loops.specs.Exits.{exits_in}
use Rattle.tidy_loops.specs.Fits.{is_declared_flag}

-- ---- what is read

-- the slot g of `!g && t` with this mark
abbrev pub and_slot : BinaryOp → ExpressionTree → Option ℕ
and_slot AndThen e = off_slot e
and_slot _ e = None

-- the second half of it
abbrev pub and_half : BinaryOp → ExpressionTree → Option ExpressionTree
and_half AndThen t = Some t
and_half _ t = None

-- the slot g of a test `!g && t`
abbrev pub stop_slot : TestTree → Option ℕ
stop_slot (Source (Typed k (Binary op e t))) = and_slot op e
stop_slot _ = None

-- the second half of such a test
abbrev pub second_half : TestTree → Option ExpressionTree
second_half (Source (Typed k (Binary op e t))) = and_half op t
second_half _ = None

-- such a test without its first half
abbrev pub rest_test : TestTree → TestTree
rest_test t = option_map_or Source (second_half t) t

-- the slot g of `g = e` where e is 0
abbrev pub reset_by : Option IntKind → PlaceTree → ExpressionTree → Option ℕ
reset_by k p e = cond (is_int_kind k && is_number 0 e) (place_slot p) None

-- the slot g of `g = 0`
abbrev pub reset_in : ExpressionTree → Option ℕ
reset_in (Typed k (Assign p e)) = reset_by k p e
reset_in _ = None

-- the slot g of `g = 0;`
abbrev pub reset_slot : Tree → Option ℕ
reset_slot (Evaluate e) = reset_in e
reset_slot _ = None

-- that of the first item of a list
abbrev pub first_reset : Forest → Option ℕ
first_reset Nil = None
first_reset (Then x xs) = reset_slot x

-- that of the last
abbrev pub last_reset : Forest → Option ℕ
last_reset Nil = None
last_reset (Then x Nil) = reset_slot x
last_reset (Then x (Then y ys)) = last_reset (Then y ys)

-- a list without its last item
abbrev pub but_last : Forest → Forest
but_last Nil = Nil
but_last (Then x Nil) = Nil
but_last (Then x (Then y ys)) = Then x (but_last (Then y ys))

-- a list without its first item
abbrev pub but_first : Forest → Forest
but_first Nil = Nil
but_first (Then x xs) = xs

-- a slot that holds what is asked
abbrev pub allowed : (ℕ → Bool) → Option ℕ → Option ℕ
allowed p None = None
allowed p (Some g) = cond (p g) (Some g) None

-- the slot g of `int g = 0;`
abbrev pub declared : Tree → Option ℕ
declared (Local x es) = cond (is_zero_value es) (Some x) None
declared _ = None

-- a variable of the function that may go and is no parameter, where it is declared by `int g = 0;` in the outermost list
abbrev pub is_free : FunctionTree → ℕ → Bool
is_free f g = (leb f.params g && ltb g (length f.slots)) && is_flag (entry_or no_slot f.slots g)

abbrev pub may_go : FunctionTree → ℕ → Bool
may_go f g = (leb f.params g && ltb g (length f.slots)) && is_declared_flag f g

-- how often the body names a slot that may go
abbrev pub counts_of : FunctionTree → ℕ → ℕ
counts_of f g = cond (may_go f g) (list_count g (items_of f)) 0

-- of counts by slot that of one, 0 where it has none
abbrev pub count_in : List ℕ → ℕ → ℕ
count_in counts g = get_or counts g 0

-- the counts are those of the function
abbrev pub Tells : List ℕ → FunctionTree → Type 0
Tells counts f = (g : ℕ) → count_in counts g ≡ counts_of f g

-- the items of a body, none where there is none
abbrev pub items_in : Option (List Item) → Forest
items_in b = option_map_or (λ a. a) (option_map trees_of b) Nil

-- ---- which slot, by the counts c

-- all that name the slot are its declaration, the test, the `g = 0;` and what goes
abbrev pub breaks : (ℕ → ℕ) → ℕ → Forest → Forest → ℕ → Bool
breaks c n a xs g = is_it g (first_reset xs) && (are_low g n a && eqb (c g) (3 + exits_in g a))

-- all are its declaration, the `g = 0;` and what goes
abbrev pub continues : (ℕ → ℕ) → ℕ → Forest → ℕ → Bool
continues c n a g = are_low g n a && eqb (c g) (2 + exits_in g a)

-- the slot of the change by `break` at a loop before this list, whose body stands at this level
abbrev pub break_slot : (ℕ → ℕ) → ℕ → Tree → Forest → Option ℕ
break_slot c n (While t a) xs = allowed (breaks c n a xs) (stop_slot t)
break_slot c n (Do a t) xs = allowed (breaks c n a xs) (stop_slot t)
break_slot c n _ xs = None

-- the slot of the change by `continue` at a loop
abbrev pub continue_slot : (ℕ → ℕ) → ℕ → Tree → Option ℕ
continue_slot c n (While t a) = allowed (continues c n (but_last a)) (last_reset a)
continue_slot c n (Do a t) = allowed (continues c n (but_last a)) (last_reset a)
continue_slot c n (For first t u a) = allowed (continues c n (but_last a)) (last_reset a)
continue_slot c n _ = None

-- ---- what the loop becomes

abbrev pub broken : ℕ → Tree → Tree
broken g (While t a) = While (rest_test t) (tailed g Break a)
broken g (Do a t) = Do (tailed g Break a) (rest_test t)
broken g x = x

abbrev pub continued : ℕ → Tree → Tree
continued g (While t a) = While t (tailed g Continue (but_last a))
continued g (Do a t) = Do (tailed g Continue (but_last a)) t
continued g (For first t u a) = For first t u (tailed g Continue (but_last a))
continued g x = x

-- ---- the changes at the loop that a list begins with

-- by `break`
abbrev pub broken_lists : FunctionTree → ℕ → Tree → Forest → List (ℕ × Forest)
broken_lists f n x xs = changed_for (λ g. both_there (broken_loop g n x) (after_reset g xs)) f.params (length f.slots - f.params)

-- by `continue`
abbrev pub continued_lists : FunctionTree → ℕ → Tree → Forest → List (ℕ × Forest)
continued_lists f n x xs = changed_for (λ g. option_map (λ y. Then y xs) (continued_loop g n x)) f.params (length f.slots - f.params)

-- none or one
abbrev pub found : {A : Type 0} → (ℕ → A) → Option ℕ → List (ℕ × A)
found make None = []
found make (Some g) = (g, make g) ∷ []
