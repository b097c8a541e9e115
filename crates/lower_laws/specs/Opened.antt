-- A body on its way to a flat list: all but its `if`s and loops is as there, each `for` is a `while`, and each exit a goto.
use Rattle.std.specs.Prelude.{ℕ, Option, Some, None, ◌≡◌, ◌⊎◌}
use Rattle.c_tree.specs.ExpressionTrees.{ExpressionTree}
use Rattle.c_tree.specs.TestTrees.{TestTree, Source}
use Rattle.c_tree.specs.Trees.{Tree, Forest, Nil, Then, Sections, NoSection, Section, If, While, Do, For, Switch, Block, Local, Break, Continue, Goto, Mark, Arrival, join}
use Rattle.c_tree.specs.Changed.{one}
use Rattle.jump_meaning.specs.Step.{switch_kind}
use Rattle.flat_laws.specs.Pieces.{Aim, Becomes, mark_of, test_or_one, with_third, Names, case_marks}
use Rattle.flat_laws.specs.Loose.{Arrivals, NoArrival, Arrives}
use Rattle.flat_laws.specs.Parts.{Here}
use Rattle.flat_laws.specs.FlatForm.{names_of, scatter_aim, end_goto, exit, initialised, mark_if, arrival, dissolved}
use Rattle.lower_laws.specs.Straight.{jump_if}
use Rattle.lower_laws.specs.Lowered.{Layout, past, past_item, inside, jump_of, break_aim, for_aim, continue_aim}

-- an `if` whose lists are these
abbrev pub opened_if : Layout → TestTree → Option ℕ → Forest → Forest → Tree
opened_if p t (Some l) a b = jump_if t (p.plan.source l)
opened_if p t None a b = If t a b

-- a `while` with its labels: that of its `continue` stands last in its list
abbrev pub opened_while : Layout → Here → TestTree → Forest → Forest
opened_while p h t a = Then (While t (join a (one (Mark (p.head_label h.construct))))) (one (Mark (p.plan.break_label h.construct)))

-- a `do`
abbrev pub opened_do : TestTree → Forest → Aim → Aim → Forest
opened_do t a b c = Then (Do (join a (mark_of c)) t) (mark_of b)

-- a `for` behind its first part
abbrev pub opened_for : Option ExpressionTree → Option ExpressionTree → Forest → Aim → Aim → Forest
opened_for t u a b c = Then (While (Source (test_or_one t)) (with_third a c u)) (mark_of b)

abbrev mutual
  -- of a list, where h are the numbers of what comes next, b and c what `break` and `continue` become, and r the labels of the Arrivals
  pub opened : Layout → Here → Aim → Aim → Arrivals → Forest → Forest
  opened p h b c r Nil = Nil
  opened p h b c r (Then x xs) = join (opened_item p h b c r x) (opened p (past_item x h) b c r xs)

  -- what stands in the place of an item
  pub opened_item : Layout → Here → Aim → Aim → Arrivals → Tree → Forest
  opened_item p h b c r (If t x y) = one (opened_if p t (jump_of p.plan.live x y) (opened p (inside (If t x y) h) b c r x)
      (opened p (past x (inside (If t x y) h)) b c r y))
  opened_item p h b c r (While t a) = opened_while p h t (opened p (inside (While t a) h) (Becomes (p.plan.break_label h.construct))
      (Becomes (p.head_label h.construct)) r a)
  opened_item p h b c r (Do a t) = opened_do t (opened p (inside (Do a t) h) (break_aim p h a) (continue_aim p h a) r a) (break_aim p h a) (continue_aim p h a)
  opened_item p h b c r (For first t u a) =
      join (opened p (inside (For first t u a) h) b c NoArrival first)
      (opened_for t u (opened p (past first (inside (For first t u a) h)) (for_aim p h t a) (continue_aim p h a) r a) (for_aim p h t a) (continue_aim p h a))
  opened_item p h b c r (Block a) = opened p h b c r a
  opened_item p h b c r (Local x None) = Nil
  opened_item p h b c r (Local x (Some es)) = initialised p.plan x es
  opened_item p h b c r Break = exit b Break
  opened_item p h b c r Continue = exit c Continue
  opened_item p h b c r (Goto l) = one (Goto (p.plan.source l))
  opened_item p h b c r (Mark l) = mark_if (p.plan.live l) (p.plan.source l)
  opened_item p h b c r (Arrival e) = arrival r e
  opened_item p h b c r (Switch s d) = dissolved p.plan h s d
      (opened_among p (inside (Switch s d) h) (scatter_aim p.plan h d) c (names_of p.plan h (switch_kind s) d) d)
  opened_item p h b c r x = one x

  -- the lists of a switch, each behind its labels
  pub opened_among : Layout → Here → Aim → Aim → Names → Sections → Forest
  opened_among p h b c names NoSection = mark_of b
  opened_among p h b c names (Section cases default a ends d) = join (case_marks names cases default)
      (join (opened p h b c (Arrives names) a) (join (end_goto ends b) (opened_among p (past a h) b c names d)))

abbrev mutual
  -- some goto of a list names the label
  pub Naming : ℕ → Forest → Type 0
  Naming l Nil = ⊥
  Naming l (Then x xs) = NamingIn l x ⊎ Naming l xs

  -- of an item without sections
  pub NamingIn : ℕ → Tree → Type 0
  NamingIn l (If t a b) = Naming l a ⊎ Naming l b
  NamingIn l (While t a) = Naming l a
  NamingIn l (Do a t) = Naming l a
  NamingIn l (For first t u a) = Naming l first ⊎ Naming l a
  NamingIn l (Block a) = Naming l a
  NamingIn l (Goto m) = l ≡ m
  NamingIn l _ = ⊥
