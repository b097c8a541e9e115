-- The two changes that turn a guard into `break` or `continue`, and which of them applies first.
use Rattle.std.specs.Prelude.{ℕ, zero, suc, pos, Bool, true, false, cond, ◌&&◌, ◌||◌, eqb, nat_le, List, [], ◌∷◌, ◌++◌, filter, length, ◌-◌, Option, Some, None, option_map}
use Rattle.std.specs.Option.{option_map_or}
use Rattle.c_types.specs.declared.kinds.IntKind.{IntKind}
use Rattle.c_types.specs.declared.kinds.IntKind.TheVariants.{Char, UChar, Int}
use Rattle.c_tree.specs.declared.tree.Slot.{Slot}
use Rattle.c_tree.specs.declared.tree.BinaryOp.TheVariants.{AndThen}
use Rattle.c_tree.specs.declared.tree.Home.TheVariants as H
use Rattle.c_tree.specs.ExpressionTrees.{ExpressionTree, Typed, Var, Number, Assign, Binary}
use Rattle.c_tree.specs.TestTrees.{TestTree, Source}
use Rattle.c_tree.specs.Trees.{Tree, Forest, Nil, Then, Sections, NoSection, Section, Evaluate, If, While, Do, For, Switch, Block, Local, Break, Continue, join}
use Rattle.c_tree.specs.Changed.{one}
use Rattle.jump_meaning.specs.Code.{FunctionTree, entry_or}
use Rattle.jump_meaning.specs.World.{no_slot}
use Rattle.tidy_laws.specs.Tails.{is_off, is_end}
use Rattle.tidy_laws.specs.Mentions.{lacks, list_lacks}
use Rattle.tidy_laws.specs.Renumbered.{without, renumbered_list}

-- ---- sets and checks

-- a kind of which each number is one of `int`
abbrev pub is_narrow : Option IntKind → Bool
is_narrow (Some Char) = true
is_narrow (Some UChar) = true
is_narrow (Some Int) = true
is_narrow _ = false

abbrev pub is_narrow_expression : ExpressionTree → Bool
is_narrow_expression (Typed k n) = is_narrow k

-- the expression of a set of the slot
abbrev pub set_value : ℕ → ExpressionTree → Option ExpressionTree
set_value g (Typed k (Assign (Var (H.Slot x)) e)) = cond (eqb x g && (is_narrow_expression e && lacks g e)) (Some e) None
set_value g _ = None

-- whether an expression is the number n
abbrev pub is_number : ℕ → ExpressionTree → Bool
is_number n (Typed (Some Int) (Number (pos m))) = eqb m n
is_number n _ = false

-- whether an item is `g = 0;`
abbrev pub is_reset : ℕ → Tree → Bool
is_reset g (Evaluate (Typed (Some Int) (Assign (Var (H.Slot x)) e))) = eqb x g && is_number 0 e
is_reset g _ = false

-- what a set of e becomes: the jump, or `if (e) { jump }`
abbrev pub leaving : Tree → ExpressionTree → Tree
leaving l e = cond (is_number 1 e) l (If (Source e) (one l) Nil)

-- whether a Local is among the items
abbrev pub has_local : Forest → Bool
has_local Nil = false
has_local (Then (Local x es) xs) = true
has_local (Then x xs) = has_local xs

-- the list of a check in its place: its items, or a Block if a Local is among them
abbrev pub given_way : Forest → Forest
given_way a = cond (has_local a) (one (Block a)) a

-- whether the test of an `if` with this else-list makes it a check
abbrev pub checks : ℕ → TestTree → Forest → Bool
checks g (Source e) Nil = is_off g e
checks g _ _ = false

-- an `if`, or in place of a check its list
abbrev pub unchecked : Bool → TestTree → Forest → Forest → Forest
unchecked true t a b = given_way a
unchecked false t a b = one (If t a b)

abbrev pub set_or : Tree → ExpressionTree → Option ExpressionTree → Tree
set_or l e None = Evaluate e
set_or l e (Some v) = leaving l v

abbrev mutual
  -- a list that is at no tail: each check in it gives way to its list
  pub inner : ℕ → Forest → Forest
  inner g Nil = Nil
  inner g (Then x xs) = join (inner_item g x) (inner g xs)

  pub inner_item : ℕ → Tree → Forest
  inner_item g (If t a b) = unchecked (checks g t b) t (inner g a) (inner g b)
  inner_item g (While t a) = one (While t (inner g a))
  inner_item g (Do a t) = one (Do (inner g a) t)
  inner_item g (For f t u a) = one (For f t u (inner g a))
  inner_item g (Switch s c) = one (Switch s (inner_sections g c))
  inner_item g (Block a) = one (Block (inner g a))
  inner_item g x = one x

  pub inner_sections : ℕ → Sections → Sections
  inner_sections g NoSection = NoSection
  inner_sections g (Section cases default a ends c) = Section cases default (inner g a) ends (inner_sections g c)

abbrev mutual
  -- a list at a tail: each set at a tail becomes the jump too
  pub tailed : ℕ → Tree → Forest → Forest
  tailed g l Nil = Nil
  tailed g l (Then x xs) = join (cond (is_end g xs) (tailed_item g l x) (inner_item g x)) (tailed g l xs)

  pub tailed_item : ℕ → Tree → Tree → Forest
  tailed_item g l (Evaluate e) = one (set_or l e (set_value g e))
  tailed_item g l (If t a b) = unchecked (checks g t b) t (tailed g l a) (tailed g l b)
  tailed_item g l x = inner_item g x

-- ---- how deep sets stand

-- a set of another number than 1 becomes an `if`, so that its list stands at a level of at most 399
abbrev pub low_set : ℕ → Option ExpressionTree → Bool
low_set n None = true
low_set n (Some e) = is_number 1 e || nat_le n 399

abbrev mutual
  -- so does each set in a list at this level, or in its `if`s
  pub are_low : ℕ → ℕ → Forest → Bool
  are_low g n Nil = true
  are_low g n (Then x xs) = is_low g n x && are_low g n xs

  pub is_low : ℕ → ℕ → Tree → Bool
  is_low g n (Evaluate e) = low_set n (set_value g e)
  is_low g n (If t a b) = are_low g (suc n) a && are_low g (suc n) b
  is_low g n x = true

-- ---- the changes at a loop whose body stands at this level

-- a test `!g && t` without its first half
abbrev pub second_test : ℕ → TestTree → Option TestTree
second_test g (Source (Typed k (Binary AndThen e t))) = cond (is_off g e) (Some (Source t)) None
second_test g _ = None

-- a list without its last item, if that is `g = 0;`
abbrev pub before_reset : ℕ → Forest → Option Forest
before_reset g Nil = None
before_reset g (Then x Nil) = cond (is_reset g x) (Some Nil) None
before_reset g (Then x xs) = option_map (Then x) (before_reset g xs)

-- by `break`: the loop with the test t and its jumps, in place of it and of the `g = 0;` right after it
abbrev pub with_breaks : ℕ → ℕ → (TestTree → Forest → Tree) → Option TestTree → Forest → Option Tree
with_breaks g n loop None a = None
with_breaks g n loop (Some t) a = cond (are_low g n a) (Some (loop t (tailed g Break a))) None

abbrev pub broken_loop : ℕ → ℕ → Tree → Option Tree
broken_loop g n (While t a) = with_breaks g n While (second_test g t) a
broken_loop g n (Do a t) = with_breaks g n (λ t a. Do a t) (second_test g t) a
broken_loop g n _ = None

-- without the `g = 0;` that a list begins with
abbrev pub after_reset : ℕ → Forest → Option Forest
after_reset g Nil = None
after_reset g (Then x xs) = cond (is_reset g x) (Some xs) None

abbrev pub both_there : Option Tree → Option Forest → Option Forest
both_there (Some x) (Some xs) = Some (Then x xs)
both_there _ _ = None

-- by `continue`: the loop with its jumps, without the `g = 0;` at the end of its body
abbrev pub with_continues : ℕ → ℕ → (Forest → Tree) → Option Forest → Option Tree
with_continues g n loop None = None
with_continues g n loop (Some a) = cond (are_low g n a) (Some (loop (tailed g Continue a))) None

abbrev pub continued_loop : ℕ → ℕ → Tree → Option Tree
continued_loop g n (While t a) = with_continues g n (While t) (before_reset g a)
continued_loop g n (Do a t) = with_continues g n (λ a. Do a t) (before_reset g a)
continued_loop g n (For f t u a) = with_continues g n (For f t u) (before_reset g a)
continued_loop g n _ = None

-- ---- the changes in a list

-- a list of none or one
abbrev pub listed : ℕ → Option Forest → List (ℕ × Forest)
listed g None = []
listed g (Some a) = (g, a) ∷ []

-- the lists that a change of the first item makes, for each slot from g on: n of them
abbrev pub changed_for : (ℕ → Option Forest) → ℕ → ℕ → List (ℕ × Forest)
changed_for f g zero = []
changed_for f g (suc n) = listed g (f g) ++ changed_for f (suc g) n

abbrev pub around : {A B : Type 0} → (A → B) → List (ℕ × A) → List (ℕ × B)
around f [] = []
around f (c ∷ cs) = (c.0, f c.1) ∷ around f cs

-- p is the first slot that is no parameter, and n says how many there are from there on
module _ (p n : ℕ) where
  -- at the loop that a list at this level begins with: `break` before `continue`, then the least slot
  abbrev pub changed_here : ℕ → Tree → Forest → List (ℕ × Forest)
  changed_here level x xs =
      changed_for (λ g. both_there (broken_loop g (suc level) x) (after_reset g xs)) p n
      ++ changed_for (λ g. option_map (λ y. Then y xs) (continued_loop g (suc level) x)) p n

  abbrev mutual
    -- the lists that one change at a loop makes of a list at this level, in text order, with the slot of each
    pub changed_lists : ℕ → Forest → List (ℕ × Forest)
    changed_lists level Nil = []
    changed_lists level (Then x xs) = changed_here level x xs ++
        (around (λ y. Then y xs) (changed_items (suc level) x) ++ around (Then x) (changed_lists level xs))

    -- of an item whose lists stand at this level
    pub changed_items : ℕ → Tree → List (ℕ × Tree)
    changed_items level (If t a b) = around (λ c. If t c b) (changed_lists level a) ++ around (If t a) (changed_lists level b)
    changed_items level (While t a) = around (While t) (changed_lists level a)
    changed_items level (Do a t) = around (λ c. Do c t) (changed_lists level a)
    changed_items level (For f t u a) = around (λ c. For c t u a) (changed_lists level f) ++ around (For f t u) (changed_lists level a)
    changed_items level (Switch s c) = around (Switch s) (changed_sections level c)
    changed_items level (Block a) = around Block (changed_lists level a)
    changed_items level x = []

    pub changed_sections : ℕ → Sections → List (ℕ × Sections)
    changed_sections level NoSection = []
    changed_sections level (Section cases default a ends c) =
        around (λ b. Section cases default b ends c) (changed_lists level a) ++ around (Section cases default a ends) (changed_sections level c)

-- ---- the declaration, and which change applies

-- whether the values of a declaration are one 0
abbrev pub is_zero_value : Option (List ExpressionTree) → Bool
is_zero_value (Some (e ∷ [])) = is_number 0 e
is_zero_value _ = false

abbrev pub is_declaration : ℕ → Tree → Bool
is_declaration g (Local x es) = eqb x g && is_zero_value es
is_declaration g _ = false

-- a list without its first `int g = 0;`
abbrev pub undeclared : ℕ → Forest → Forest
undeclared g Nil = Nil
undeclared g (Then x xs) = cond (is_declaration g x) xs (Then x (undeclared g xs))

-- whether it has one
abbrev pub declares : ℕ → Forest → Bool
declares g Nil = false
declares g (Then x xs) = is_declaration g x || declares g xs

-- a variable that may go: an int, no array and not const
abbrev pub is_flag : Slot → Bool
is_flag s = flag_of s.kind s.cells s.constant
  where
    flag_of : IntKind → Option ℕ → Bool → Bool
    flag_of Int None false = true
    flag_of _ _ _ = false

-- what a change makes of a body, with the slot and its declaration kept: then each mention that was allowed is gone, and
-- no other may be there
abbrev pub is_allowed : List Slot → ℕ × Forest → Bool
is_allowed slots c = is_flag (entry_or no_slot slots c.0) && (declares c.0 c.1 && list_lacks c.0 (undeclared c.0 c.1))

-- all changes of a body that apply, in the order in which they are to be taken
abbrev pub changes : FunctionTree → Forest → List (ℕ × Forest)
changes f a = filter (is_allowed f.slots) (changed_lists f.params (length f.slots - f.params) 1 a)

-- ---- functions

-- the changes of a function
abbrev pub changes_of : FunctionTree → List (ℕ × Forest)
changes_of f = option_map_or (changes f) f.body []

-- a function after a change, without the slot
abbrev pub changed : FunctionTree → ℕ × Forest → FunctionTree
changed f c = record f { slots = without c.0 f.slots; body = Some (renumbered_list c.0 (undeclared c.0 c.1)) }

-- after the first of these changes, if there is one
abbrev pub changed_first : FunctionTree → List (ℕ × Forest) → FunctionTree
changed_first f [] = f
changed_first f (c ∷ cs) = changed f c

abbrev pub changed_once : FunctionTree → FunctionTree
changed_once f = changed_first f (changes_of f)

-- after n changes, each the first that applies, or fewer if none applies any more
abbrev pub changed_times : ℕ → FunctionTree → FunctionTree
changed_times zero f = f
changed_times (suc n) f = changed_times n (changed_once f)

abbrev pub one_more : List (ℕ × Forest) → ℕ → ℕ
one_more [] n = 0
one_more (c ∷ cs) n = suc n

-- how many of n changes apply
abbrev pub times_changed : ℕ → FunctionTree → ℕ
times_changed zero f = 0
times_changed (suc n) f = one_more (changes_of f) (times_changed n (changed_once f))

-- a function to which no change applies any more: each takes a slot away
abbrev pub changed_fully : FunctionTree → FunctionTree
changed_fully f = changed_times (length f.slots) f
