-- Which simplification comes next: all that apply to a body, in text order of their places, those of one place by their number.
use Rattle.std.specs.Prelude.{◌≡◌, ◌⊎◌, ℕ, suc, ◌+◌, ◌==◌, Bool, true, false, cond, ◌&&◌, ◌||◌, not, List, [], ◌∷◌, ◌++◌, map, Option, Some, None, option_map}
use Rattle.std.specs.List.{list_any}
use Rattle.c_tree.specs.declared.tree.Branch.{Branch}
use Rattle.c_tree.specs.declared.tree.Branch.TheVariants as B
use Rattle.c_tree.specs.ExpressionTrees.{ExpressionTree, Typed, Call, Comma, Conditional}
use Rattle.c_tree.specs.TestTrees.{TestTree, Source, On, Off, AndOff, OrOn, SelectorTree, Selects, Pick}
use Rattle.c_tree.specs.Trees.{Tree, Forest, Nil, Then, Sections, NoSection, Section, If, While, Do, For, Switch, Block, Goto, Arm, Leap, Land}
use Rattle.report_moves.specs.declared.moves.MoveKind.{MoveKind}
use Rattle.report_moves.specs.declared.moves.MoveKind.TheVariants.{Z1, Z2, Z3, Z4, Z5}
use Rattle.guard_simplify.specs.declared.choice.Choice.{Choice}
use Rattle.guard_simplify.specs.declared.choice.Repeat.{Repeat}

-- ---- wrappers of tests and selectors

-- whether the label is among them
abbrev pub has : ℕ → List ℕ → Bool
has l ls = list_any (λ m. m == l) ls

-- whether the test is `Off` of the label
abbrev pub is_off_of : ℕ → TestTree → Bool
is_off_of l (Off m) = m == l
is_off_of l _ = false

-- with one more wrapper round it
abbrev pub inside : Option Repeat → Option Repeat
inside r = option_map (λ (r : Repeat). record r { at = suc r.at }) r

-- the first wrapper, from outside in, that repeats the kind and label of an earlier one, or is the `AndOff` right round
-- `Off` of its label: how many stand round it, and its label; the lists are the labels of the earlier `AndOff` and `OrOn`
abbrev pub repeat : List ℕ → List ℕ → TestTree → Option Repeat
repeat ands ors (AndOff l t) = cond (has l ands || is_off_of l t) (Some (record { at = 0; label = l })) (inside (repeat (ands ++ l ∷ []) ors t))
repeat ands ors (OrOn l t) = cond (has l ors) (Some (record { at = 0; label = l })) (inside (repeat ands (ors ++ l ∷ []) t))
repeat ands ors _ = None

-- that of a selector, after wrappers of these labels
abbrev pub repeat_pick : List ℕ → SelectorTree → Option Repeat
repeat_pick picks (Selects e) = None
repeat_pick picks (Pick l n s) = cond (has l picks) (Some (record { at = 0; label = l })) (inside (repeat_pick (picks ++ l ∷ []) s))

-- that of an item
abbrev pub repeat_of : Tree → Option Repeat
repeat_of (If t a b) = repeat [] [] t
repeat_of (While t a) = repeat [] [] t
repeat_of (Do a t) = repeat [] [] t
repeat_of (Switch s c) = repeat_pick [] s
repeat_of _ = None

-- ---- the shapes that are simplified

-- whether the list is empty
abbrev pub is_nil : Forest → Bool
is_nil Nil = true
is_nil (Then x xs) = false

-- whether no part of the test is a source expression
abbrev pub is_made : TestTree → Bool
is_made (Source e) = false
is_made (On l) = true
is_made (Off l) = true
is_made (AndOff l t) = is_made t
is_made (OrOn l t) = is_made t

-- whether it is made of `Off` and `AndOff` alone
abbrev pub is_off : TestTree → Bool
is_off (Off l) = true
is_off (AndOff l t) = is_off t
is_off _ = false

-- whether the item is a made `if` with empty lists
abbrev pub is_empty_if : Tree → Bool
is_empty_if (If t a b) = is_made t && (is_nil a && is_nil b)
is_empty_if _ = false

abbrev mutual
  -- whether an Arm of the label stands in a list, at any depth
  pub arms : ℕ → Forest → Bool
  arms l Nil = false
  arms l (Then x xs) = arms_of l x || arms l xs

  pub arms_of : ℕ → Tree → Bool
  arms_of l (If t a b) = arms l a || arms l b
  arms_of l (While t a) = arms l a
  arms_of l (Do a t) = arms l a
  arms_of l (For first t u a) = arms l first || arms l a
  arms_of l (Switch s c) = arms_in l c
  arms_of l (Block a) = arms l a
  arms_of l (Arm m e) = m == l
  arms_of l _ = false

  pub arms_in : ℕ → Sections → Bool
  arms_in l NoSection = false
  arms_in l (Section cases default a ends c) = arms l a || arms_in l c

-- the label l, where the neighbour of x is an `if` that asks `Off` of it, and x has no Arm of it
abbrev pub joins_next : ℕ → Tree → Tree → Option ℕ
joins_next l x (If (Off m) b Nil) = cond (m == l && not (arms_of l x)) (Some l) None
joins_next l x _ = None

-- the label whose `Off` is the whole test of an `if` and of its neighbour, both without else-list, where the first has no Arm of it
abbrev pub neighbours : Tree → Forest → Option ℕ
neighbours (If (Off l) a Nil) (Then y ys) = joins_next l (If (Off l) a Nil) y
neighbours _ _ = None

-- whether it is a made `if` without else-list
abbrev pub is_made_if : Tree → Bool
is_made_if (If t a Nil) = is_made t
is_made_if _ = false

-- whether the list is one made `if`
abbrev pub is_one_if : Forest → Bool
is_one_if (Then x Nil) = is_made_if x
is_one_if _ = false

-- whether it is a made `if` of `Off` and `AndOff` alone round one made `if`, both without else-list
abbrev pub is_nested : Tree → Bool
is_nested (If t a Nil) = is_off t && is_one_if a
is_nested _ = false

-- ---- guards that nothing reads

-- whether the test names the label
abbrev pub test_names : ℕ → TestTree → Bool
test_names l (Source e) = false
test_names l (On m) = l == m
test_names l (Off m) = l == m
test_names l (AndOff m t) = l == m || test_names l t
test_names l (OrOn m t) = l == m || test_names l t

-- whether the selector does
abbrev pub selector_names : ℕ → SelectorTree → Bool
selector_names l (Selects e) = false
selector_names l (Pick m n s) = l == m || selector_names l s

-- whether its value may be that of a call, and missing: it ends in a call, or is a conditional expression without a kind
abbrev pub ends_in_call : ExpressionTree → Bool
ends_in_call (Typed kind (Call m xs)) = true
ends_in_call (Typed kind (Comma a b)) = ends_in_call b
ends_in_call (Typed None (Conditional a b c)) = true
ends_in_call _ = false

-- whether the item bars the guard of the label from going: its test or selector names it, it jumps to it, or it is an Arm of it
-- whose condition ends in a call
abbrev pub bars : ℕ → Tree → Bool
bars l (If t a b) = test_names l t
bars l (While t a) = test_names l t
bars l (Do a t) = test_names l t
bars l (Switch s c) = selector_names l s
bars l (Goto m) = l == m
bars l (Leap m) = l == m
bars l (Arm m (Some e)) = l == m && ends_in_call e
bars l _ = false

abbrev mutual
  -- whether an item of the list, at any depth, bars it
  pub barred : ℕ → Forest → Bool
  barred l Nil = false
  barred l (Then x xs) = barred_of l x || barred l xs

  pub barred_of : ℕ → Tree → Bool
  barred_of l (If t a b) = bars l (If t a b) || (barred l a || barred l b)
  barred_of l (While t a) = bars l (While t a) || barred l a
  barred_of l (Do a t) = bars l (Do a t) || barred l a
  barred_of l (For first t u a) = barred l first || barred l a
  barred_of l (Switch s c) = bars l (Switch s c) || barred_in l c
  barred_of l (Block a) = barred l a
  barred_of l x = bars l x

  pub barred_in : ℕ → Sections → Bool
  barred_in l NoSection = false
  barred_in l (Section cases default a ends c) = barred l a || barred_in l c

-- the label of an Arm or a Land whose guard may go
abbrev pub unread_guard : (ℕ → Bool) → Tree → Option ℕ
unread_guard bar (Arm l e) = cond (bar l) None (Some l)
unread_guard bar (Land l) = cond (bar l) None (Some l)
unread_guard bar _ = None

-- ---- all simplifications that apply

-- the one of this kind at the item i of a list
abbrev pub at_item : ℕ → MoveKind → Option ℕ → List Choice
at_item i kind label = record { kind = kind; label = label; path = record { steps = []; item = i } } ∷ []

-- where it applies
abbrev pub if_true : ℕ → MoveKind → Bool → List Choice
if_true i kind true = at_item i kind None
if_true i kind false = []

-- where it has a label
abbrev pub if_some : ℕ → MoveKind → Option ℕ → List Choice
if_some i kind None = []
if_some i kind (Some l) = at_item i kind (Some l)

-- the label of the wrapper
abbrev pub repeat_label : Option Repeat → Option ℕ
repeat_label r = option_map (λ (r : Repeat). r.label) r

-- those at the item x itself, which is number i and stands before the rest of its list; `bar` says which guards can't go
abbrev pub own : (ℕ → Bool) → ℕ → Tree → Forest → List Choice
own bar i x rest =
    if_true i Z1 (is_empty_if x) ++ (if_some i Z2 (repeat_label (repeat_of x)) ++
    (if_some i Z3 (neighbours x rest) ++ (if_true i Z4 (is_nested x) ++ if_some i Z5 (unread_guard bar x))))

-- one of a list of the item i, as one of the list that the item stands in
abbrev pub under_one : ℕ → Branch → Choice → Choice
under_one i b c = record c { path = record { steps = record { item = i; branch = b } ∷ c.path.steps; item = c.path.item } }

-- all of them
abbrev pub under : ℕ → Branch → List Choice → List Choice
under i b cs = map (under_one i b) cs

abbrev mutual
  -- those in a list, from its item i on: at the item, in its lists, and behind it
  pub choices_from : (ℕ → Bool) → ℕ → Forest → List Choice
  choices_from bar i Nil = []
  choices_from bar i (Then x xs) = own bar i x xs ++ (choices_in bar i x ++ choices_from bar (i + 1) xs)

  -- those in the lists of the item i; the first part of a `for` is not looked into, since a well made body has it empty
  pub choices_in : (ℕ → Bool) → ℕ → Tree → List Choice
  choices_in bar i (If t a b) = under i B.Then (choices_from bar 0 a) ++ under i B.Else (choices_from bar 0 b)
  choices_in bar i (While t a) = under i B.Body (choices_from bar 0 a)
  choices_in bar i (Do a t) = under i B.Body (choices_from bar 0 a)
  choices_in bar i (For first t u a) = under i B.Body (choices_from bar 0 a)
  choices_in bar i (Switch s c) = choices_of_sections bar i 0 c
  choices_in bar i (Block a) = under i B.Body (choices_from bar 0 a)
  choices_in bar i _ = []

  -- those in the sections of the switch i, from section k on
  pub choices_of_sections : (ℕ → Bool) → ℕ → ℕ → Sections → List Choice
  choices_of_sections bar i k NoSection = []
  choices_of_sections bar i k (Section cases default a ends c) = under i (B.Section k) (choices_from bar 0 a) ++ choices_of_sections bar i (k + 1) c

-- all that apply to a body, in text order of their places, and at one place by their number
abbrev pub choices : Forest → List Choice
choices body = choices_from (λ l. barred l body) 0 body

-- the next one
abbrev pub first : List Choice → Option Choice
first [] = None
first (c ∷ cs) = Some c

-- it is one of them
abbrev pub Among : Choice → List Choice → Type 0
Among c [] = ⊥
Among c (d ∷ ds) = (c ≡ d) ⊎ Among c ds
