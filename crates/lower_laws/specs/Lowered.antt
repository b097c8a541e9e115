-- A body as one flat list of assignments, calls, returns, labels, gotos, and `if`s whose first list is one goto:
-- loops, `if`s and switches become tests and gotos; labels that no goto names go; initialisers become assignments.
use Rattle.std.specs.Prelude.{ℕ, zero, suc, ◌+◌, ◌-◌, ◌*◌, ℤ, Bool, true, false, cond, List, length, Option, Some, None}
use Rattle.c_types.specs.declared.kinds.IntKind.{IntKind}
use Rattle.c_tree.specs.declared.tree.Slot.{Slot}
use Rattle.c_tree.specs.ExpressionTrees.{ExpressionTree}
use Rattle.c_tree.specs.TestTrees.{TestTree, Source}
use Rattle.c_tree.specs.Exits.{breaks, continues}
use Rattle.c_tree.specs.Everywhere.{total}
use Rattle.c_tree.specs.Trees.{Tree, Forest, Nil, Then, Sections, NoSection, Section, If, While, Do, For, Switch, Block, Local, Break, Continue, Goto, Mark, Arrival, join}
use Rattle.c_tree.specs.Changed.{one}
use Rattle.jump_meaning.specs.Step.{switch_kind}
use Rattle.flat_laws.specs.Pieces.{Aim, Stays, Becomes, mark_of, with_third, Names, case_marks}
use Rattle.flat_laws.specs.Loose.{Arrivals, NoArrival, Arrives}
use Rattle.flat_laws.specs.Parts.{switch_labels, cases_among, is_named, Here}
use Rattle.flat_laws.specs.FlatForm.{Plan, names_of, scatter_aim, end_goto, aim, exit, initialised, mark_if, arrival, dissolved, marks, place_in, numbered, first_here}
use Rattle.lower_laws.specs.Straight.{jump_if, if_items, while_items, do_items, ever_items}

-- the labels of a flat list, and what it takes of the function
pub record Layout : Type 0 where
  -- those of a flat form, where the label behind a construct and that of its `continue` are those of this list
  pub plan : Plan
  -- in front of a loop; in front of the list to which the test of a loop or of an `if` leads
  pub head_label : ℕ → ℕ
  pub list_label : ℕ → ℕ

-- ---- numbers in text order

-- 1 for an `if`, loop or switch
abbrev pub constructs_of : Tree → ℕ
constructs_of (If t a b) = 1
constructs_of (While t a) = 1
constructs_of (Do a t) = 1
constructs_of (For first t u a) = 1
constructs_of (Switch s d) = 1
constructs_of _ = 0

-- how many case labels a switch has
abbrev pub cases_of : Tree → ℕ
cases_of (Switch s d) = length (cases_among (switch_labels d))
cases_of _ = 0

-- 1 for a switch, which has a variable
abbrev pub variables_of : Tree → ℕ
variables_of (Switch s d) = 1
variables_of _ = 0

-- the numbers of what comes behind a list
abbrev pub past : Forest → Here → Here
past xs h = record { construct = h.construct + total constructs_of xs; case = h.case + total cases_of xs; variable = h.variable + total variables_of xs }

-- behind an item
abbrev pub past_item : Tree → Here → Here
past_item x h = past (one x) h

-- inside an `if`, loop or switch with so many case labels and variables of its own
abbrev pub inside : Tree → Here → Here
inside x h = record { construct = suc h.construct; case = h.case + cases_of x; variable = h.variable + variables_of x }

-- ---- `if`s that stay

-- nothing of a list is left but labels that go
abbrev pub is_bare : (ℕ → Bool) → Forest → Bool
is_bare live Nil = true
is_bare live (Then (Mark l) xs) = cond (live l) false (is_bare live xs)
is_bare live (Then x xs) = false

-- the goto that alone is left of a list
abbrev pub only_goto : (ℕ → Bool) → Forest → Option ℕ
only_goto live Nil = None
only_goto live (Then (Mark l) xs) = cond (live l) None (only_goto live xs)
only_goto live (Then (Goto l) xs) = cond (is_bare live xs) (Some l) None
only_goto live (Then x xs) = None

-- the goto of an `if` with one goto and no else-list
abbrev pub jump_of : (ℕ → Bool) → Forest → Forest → Option ℕ
jump_of live a b = cond (is_bare live b) (only_goto live a) None

-- ---- the body

-- such an `if` as it is, or as tests and gotos
abbrev pub lowered_if : Layout → Here → TestTree → Option ℕ → Forest → Forest → Forest
lowered_if p h t (Some l) a b = one (jump_if t (p.plan.source l))
lowered_if p h t None a b = if_items t (p.list_label h.construct) (p.plan.break_label h.construct) a b

-- a `do`, where b and c are the labels behind it and behind its list
abbrev pub lowered_do : Layout → Here → TestTree → Forest → Aim → Aim → Forest
lowered_do p h t a b c = join (do_items t (p.list_label h.construct) (join a (mark_of c))) (mark_of b)

-- a `for` behind its first part; without a test it needs the label behind it for a `break` alone
abbrev pub lowered_for : Layout → Here → Option ExpressionTree → Option ExpressionTree → Forest → Aim → Aim → Forest
lowered_for p h (Some t) u a b c = while_items (Source t) (p.head_label h.construct) (p.list_label h.construct) (p.plan.break_label h.construct)
    (with_third a c u)
lowered_for p h None u a b c = join (ever_items (p.head_label h.construct) (with_third a c u)) (mark_of b)

-- what a `break` of a loop becomes, and its `continue` where that is not in front of the loop
abbrev pub break_aim : Layout → Here → Forest → Aim
break_aim p h a = aim true (breaks a) (p.plan.break_label h.construct)

-- what a `break` of a `for` becomes; the label always stands behind a `for` with a test
abbrev pub for_aim : Layout → Here → Option ExpressionTree → Forest → Aim
for_aim p h (Some t) a = Becomes (p.plan.break_label h.construct)
for_aim p h None a = break_aim p h a

abbrev pub continue_aim : Layout → Here → Forest → Aim
continue_aim p h a = aim true (continues a) (p.plan.continue_label h.construct)

abbrev mutual
  -- of a list, where h are the numbers of what comes next, b and c what `break` and `continue` become, and r the labels of the Arrivals
  pub lowered : Layout → Here → Aim → Aim → Arrivals → Forest → Forest
  lowered p h b c r Nil = Nil
  lowered p h b c r (Then x xs) = join (lowered_item p h b c r x) (lowered p (past_item x h) b c r xs)

  -- what stands in the place of an item
  pub lowered_item : Layout → Here → Aim → Aim → Arrivals → Tree → Forest
  lowered_item p h b c r (If t x y) = lowered_if p h t (jump_of p.plan.live x y) (lowered p (inside (If t x y) h) b c r x)
      (lowered p (past x (inside (If t x y) h)) b c r y)
  lowered_item p h b c r (While t a) =
      while_items t (p.head_label h.construct) (p.list_label h.construct) (p.plan.break_label h.construct)
      (lowered p (inside (While t a) h) (Becomes (p.plan.break_label h.construct)) (Becomes (p.head_label h.construct)) r a)
  lowered_item p h b c r (Do a t) = lowered_do p h t (lowered p (inside (Do a t) h) (break_aim p h a) (continue_aim p h a) r a) (break_aim p h a)
      (continue_aim p h a)
  lowered_item p h b c r (For first t u a) =
      join (lowered p (inside (For first t u a) h) b c NoArrival first)
      (lowered_for p h t u (lowered p (past first (inside (For first t u a) h)) (for_aim p h t a) (continue_aim p h a) r a) (for_aim p h t a)
      (continue_aim p h a))
  lowered_item p h b c r (Block a) = lowered p h b c r a
  lowered_item p h b c r (Local x None) = Nil
  lowered_item p h b c r (Local x (Some es)) = initialised p.plan x es
  lowered_item p h b c r Break = exit b Break
  lowered_item p h b c r Continue = exit c Continue
  lowered_item p h b c r (Goto l) = one (Goto (p.plan.source l))
  lowered_item p h b c r (Mark l) = mark_if (p.plan.live l) (p.plan.source l)
  lowered_item p h b c r (Arrival e) = arrival r e
  lowered_item p h b c r (Switch s d) = dissolved p.plan h s d
      (lowered_among p (inside (Switch s d) h) (scatter_aim p.plan h d) c (names_of p.plan h (switch_kind s) d) d)
  lowered_item p h b c r x = one x

  -- the lists of a switch, each behind its labels
  pub lowered_among : Layout → Here → Aim → Aim → Names → Sections → Forest
  lowered_among p h b c names NoSection = mark_of b
  lowered_among p h b c names (Section cases default a ends d) = join (case_marks names cases default)
      (join (lowered p h b c (Arrives names) a) (join (end_goto ends b) (lowered_among p (past a h) b c names d)))

-- ---- of a whole function

-- each label has a number of its own
abbrev pub coded : (IntKind → ℤ → ExpressionTree) → List Slot → Forest → Layout
coded number slots body = record {
  plan = record {
    live = is_named body;
    source = λ l. 7 * l;
    break_label = λ k. 7 * k + 1;
    continue_label = λ k. 7 * k + 2;
    default_label = λ k. 7 * k + 3;
    case_label = λ j. 7 * j + 4;
    slots = slots;
    number = number;
  };
  head_label = λ k. 7 * k + 5;
  list_label = λ k. 7 * k + 6;
}

-- the labels have the numbers of their places
abbrev pub placed : List ℕ → Layout → Layout
placed ls p = record { plan = numbered ls p.plan; head_label = λ k. place_in ls (p.head_label k); list_label = λ k. place_in ls (p.list_label k) }

-- the list of a body: its labels are numbered in the order in which they stand in it
abbrev pub lowered_list : (IntKind → ℤ → ExpressionTree) → List Slot → Forest → Forest
lowered_list number slots body =
    let p = coded number slots body in
    let h = first_here (length slots) in
    lowered (placed (marks (lowered p h Stays Stays NoArrival body)) p) h Stays Stays NoArrival body

-- n declarations without initialisers, of the slots from x on
abbrev pub declarations : ℕ → ℕ → Forest
declarations x zero = Nil
declarations x (suc n) = Then (Local x None) (declarations (suc x) n)

-- the body of a function with so many parameters: the other slots, and behind them the variables of its switches, are declared in front of the list
abbrev pub lowered_body : (IntKind → ℤ → ExpressionTree) → ℕ → List Slot → Forest → Forest
lowered_body number params slots body = join (declarations params (length slots - params + total variables_of body)) (lowered_list number slots body)

-- how many gotos a list has
abbrev pub gotos_of : Tree → ℕ
gotos_of (Goto l) = 1
gotos_of _ = 0

abbrev pub gotos : Forest → ℕ
gotos xs = total gotos_of xs
