-- How many checks and sets of a slot a change takes away from a list.
use Rattle.std.specs.Prelude.{ℕ, ◌+◌, Bool, true, false, cond, ◌||◌, is_some, List, [], ◌∷◌}
use Rattle.c_tree.specs.Trees.{Tree, Forest, Nil, Then, Sections, NoSection, Section, Evaluate, If, While, Do, For, Switch, Block, Local, Break, Continue, join}
use Rattle.c_tree.specs.Changed.{one}
use Rattle.tidy_laws.specs.Tails.{is_check, is_end}
use Rattle.tidy_laws.specs.Changes.{checks, set_value, set_or, given_way, inner, inner_sections, tailed}
use Rattle.tidy_slots.specs.Counts.{one_if}
use Rattle.tidy_loops.specs.declared.exits.Exit.{Exit}
use Rattle.tidy_loops.specs.declared.exits.Exit.TheVariants as E

abbrev mutual
  -- the checks in a list, at any depth
  pub checks_in : ℕ → Forest → ℕ
  checks_in g Nil = 0
  checks_in g (Then x xs) = checks_of g x + checks_in g xs

  pub checks_of : ℕ → Tree → ℕ
  checks_of g (If t a b) = one_if (checks g t b) + (checks_in g a + checks_in g b)
  checks_of g (While t a) = checks_in g a
  checks_of g (Do a t) = checks_in g a
  checks_of g (For f t u a) = checks_in g a
  checks_of g (Switch s c) = checks_within g c
  checks_of g (Block a) = checks_in g a
  checks_of g x = 0

  pub checks_within : ℕ → Sections → ℕ
  checks_within g NoSection = 0
  checks_within g (Section cases default a ends c) = checks_in g a + checks_within g c

abbrev mutual
  -- the checks in a list at a tail, and its sets at a tail
  pub exits_in : ℕ → Forest → ℕ
  exits_in g Nil = 0
  exits_in g (Then x xs) = cond (is_end g xs) (exits_of g x) (checks_of g x) + exits_in g xs

  pub exits_of : ℕ → Tree → ℕ
  exits_of g (Evaluate e) = one_if (is_some (set_value g e))
  exits_of g (If t a b) = one_if (checks g t b) + (exits_in g a + exits_in g b)
  exits_of g x = checks_of g x

-- the jump that a set becomes
abbrev pub jump_of : Exit → Tree
jump_of E.Break = Break
jump_of E.Continue = Continue

-- ---- how the list is made

abbrev pub is_local : Tree → Bool
is_local (Local x es) = true
is_local _ = false

-- the list of a check
abbrev pub then_list : Tree → Forest
then_list (If t a b) = a
then_list _ = Nil

-- an item that is at no tail, where it stays
abbrev pub inner_kept : ℕ → Tree → Tree
inner_kept g (If t a b) = If t (inner g a) (inner g b)
inner_kept g (While t a) = While t (inner g a)
inner_kept g (Do a t) = Do (inner g a) t
inner_kept g (For f t u a) = For f t u (inner g a)
inner_kept g (Switch s c) = Switch s (inner_sections g c)
inner_kept g (Block a) = Block (inner g a)
inner_kept g x = x

-- an item that is at a tail, where it stays
abbrev pub tailed_kept : ℕ → Tree → Tree → Tree
tailed_kept g l (Evaluate e) = set_or l e (set_value g e)
tailed_kept g l (If t a b) = If t (tailed g l a) (tailed g l b)
tailed_kept g l x = inner_kept g x

-- a set at a tail
abbrev pub left_at : ℕ → Tree → Tree → Tree
left_at g l (Evaluate e) = set_or l e (set_value g e)
left_at g l x = x

-- each item of a list that is at no tail
abbrev pub each_inner : ℕ → Forest → Forest
each_inner g Nil = Nil
each_inner g (Then x xs) = Then (inner_kept g x) (each_inner g xs)

-- each item of a list at a tail
abbrev pub each_tailed : ℕ → Tree → Forest → Forest
each_tailed g l Nil = Nil
each_tailed g l (Then x xs) = Then (cond (is_end g xs) (tailed_kept g l x) (inner_kept g x)) (each_tailed g l xs)

-- ---- which items give way

-- whether a check is among the items
abbrev pub has_check : ℕ → Forest → Bool
has_check g Nil = false
has_check g (Then x xs) = is_check g x || has_check g xs

-- of each item whether it is a check
abbrev pub checks_told : ℕ → Forest → List Bool
checks_told g Nil = []
checks_told g (Then x xs) = is_check g x ∷ checks_told g xs

-- an item, or its list in its place
abbrev pub way_given : Bool → Tree → Forest
way_given b x = cond b (given_way (then_list x)) (one x)

-- items, of which those that are told give way
abbrev pub ways_given : List Bool → Forest → Forest
ways_given [] a = a
ways_given (b ∷ bs) Nil = Nil
ways_given (b ∷ bs) (Then x xs) = join (way_given b x) (ways_given bs xs)
