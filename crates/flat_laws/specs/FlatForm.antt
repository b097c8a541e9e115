-- The flat form of a body: scattered switches become tests and gotos; labels that no goto names go;
-- initialisers become assignments; blocks and first parts dissolve; exits of jumpy constructs become gotos.
use Rattle.std.specs.Prelude.{ℕ, zero, suc, ◌+◌, ◌-◌, ◌*◌, ℤ, Bool, true, false, cond, ◌&&◌, ◌||◌, eqb, List, [], ◌∷◌, ◌++◌, length, map, Option, Some, None}
use Rattle.std.specs.Ordering.{int_eq}
use Rattle.c_types.specs.declared.kinds.IntKind.{IntKind}
use Rattle.c_tree.specs.declared.tree.Slot.{Slot}
use Rattle.c_tree.specs.ExpressionTrees.{ExpressionTree}
use Rattle.c_tree.specs.TestTrees.{Source, SelectorTree}
use Rattle.c_tree.specs.Cases.{case_number, selector_source}
use Rattle.c_tree.specs.Exits.{breaks, continues, continues_in}
use Rattle.c_tree.specs.Trees.{Tree, Forest, Nil, Then, Sections, NoSection, Section, Evaluate, If, While, Do, For, Switch, Block, Local, Break, Continue, Goto, Mark, Arrival, join}
use Rattle.c_tree.specs.Changed.{one}
use Rattle.jump_meaning.specs.Code.{entry_or}
use Rattle.jump_meaning.specs.World.{no_slot}
use Rattle.jump_meaning.specs.Step.{switch_kind}
use Rattle.flat_laws.specs.Pieces.{Aim, Stays, Becomes, Absent, mark_of, test_or_one, with_third, assign_number, assigned_cells, Names, tests_among, case_marks}
use Rattle.flat_laws.specs.Loose.{Arrivals, NoArrival, Arrives}
use Rattle.flat_laws.specs.Parts.{is_some_number, is_scattered, switch_labels, cases_among, has_default, leaves, holds_jump, holds_jump_among, is_named, Here, past, past_item, inside, Ending, Breaks, is_gone, ending, kept_breaks, ends_then}

-- the labels of a flat form, and what it takes of the function
pub record Plan : Type 0 where
  -- whether a goto of the source names the label
  pub live : ℕ → Bool
  -- the labels: of the source; behind construct k; before the end of its body; of its default; of a case
  pub source : ℕ → ℕ
  pub break_label : ℕ → ℕ
  pub continue_label : ℕ → ℕ
  pub default_label : ℕ → ℕ
  pub case_label : ℕ → ℕ
  pub slots : List Slot
  pub number : IntKind → ℤ → ExpressionTree

-- ---- labels of a scattered switch

-- whether both are there and are one number
abbrev pub same_number : Option ℤ → Option ℤ → Bool
same_number (Some m) (Some n) = int_eq m n
same_number _ _ = false

-- the place of the first that is the number, from 0
abbrev pub place_of : Option ℤ → List (Option ℤ) → ℕ
place_of n [] = 0
place_of n (m ∷ ms) = cond (same_number n m) 0 (suc (place_of n ms))

-- a case has the label of its place among the cases of the switch
abbrev pub names_of : Plan → Here → IntKind → Sections → Names
names_of p h k d None = p.default_label h.construct
names_of p h k d (Some e) = p.case_label (h.case + place_of (case_number k e) (map (case_number k) (cases_among (switch_labels d))))

-- behind it, if a goto leads there
abbrev pub scatter_aim : Plan → Here → Sections → Aim
scatter_aim p h d = cond (leaves d) (Becomes (p.break_label h.construct)) Absent

-- where it goes of which no case is selected
abbrev pub otherwise_label : Plan → Here → Sections → ℕ
otherwise_label p h d = cond (has_default (switch_labels d)) (p.default_label h.construct) (p.break_label h.construct)

-- the end of a section of a scattered switch: a goto behind the switch
abbrev pub end_goto : Bool → Aim → Forest
end_goto true (Becomes l) = one (Goto l)
end_goto _ b = Nil

-- ---- exits

-- an exit of a jumpy construct becomes a goto to a label, if there is one
abbrev pub aim : Bool → ℕ → ℕ → Aim
aim false n l = Stays
aim true zero l = Absent
aim true (suc n) l = Becomes l

-- an exit, or the goto that it becomes
abbrev pub exit : Aim → Tree → Forest
exit (Becomes l) x = one (Goto l)
exit _ x = one x

-- whether an exit does not stay as it is
abbrev pub is_moved : Aim → Bool
is_moved Stays = false
is_moved _ = true

-- a switch is jumpy too where a `continue` of a jumpy loop around it stands in it
abbrev pub is_jumpy_switch : Plan → Aim → Sections → Bool
is_jumpy_switch p c d = holds_jump_among p.live d || (is_moved c && is_some_number (continues_in d))

-- ---- declarations

-- the assignments that initialise slot x, of the kind k, a number or an array of n cells
abbrev pub assigned : IntKind → ℕ → Option ℕ → List ExpressionTree → Forest
assigned k x None (e ∷ es) = one (Evaluate (assign_number k x e))
assigned k x None [] = Nil
assigned k x (Some n) es = assigned_cells k x 0 es (n - length es)

-- the assignments that initialise slot x of the function
abbrev pub initialised : Plan → ℕ → List ExpressionTree → Forest
initialised p x es = assigned (entry_or no_slot p.slots x).kind x (entry_or no_slot p.slots x).cells es

-- ---- the body

-- a label that stays if the test holds
abbrev pub mark_if : Bool → ℕ → Forest
mark_if true l = one (Mark l)
mark_if false l = Nil

-- a nested case label as the label of its case
abbrev pub arrival : Arrivals → Option ExpressionTree → Forest
arrival (Arrives names) e = one (Mark (names e))
arrival NoArrival e = one (Arrival e)

-- a `while` or `do` with its labels
abbrev pub flat_loop : (Forest → Tree) → Forest → Aim → Aim → Forest
flat_loop loop a b c = Then (loop (join a (mark_of c))) (mark_of b)

-- a scattered switch: `v = e`, the tests of its cases, a goto, and its lists
abbrev pub dissolved : Plan → Here → SelectorTree → Sections → Forest → Forest
dissolved p h s d ys =
    Then (Evaluate (assign_number (switch_kind s) h.variable (selector_source s)))
    (join (tests_among p.number (switch_kind s) h.variable (names_of p h (switch_kind s) d) d) (Then (Goto (otherwise_label p h d)) ys))

-- the first where the list ends by a `break`, else the second
abbrev pub if_breaks : Ending → Forest → Forest → Forest
if_breaks Breaks a b = a
if_breaks _ a b = b

-- a `for` whose lists are flat: a jumpy one is a `while` with its third part last
abbrev pub flat_for : Bool → Option ExpressionTree → Option ExpressionTree → Forest → Aim → Aim → Forest
flat_for true t u a b c = Then (While (Source (test_or_one t)) (with_third a c u)) (mark_of b)
flat_for false t u a b c = Then (For Nil t u (join a (mark_of c))) (mark_of b)

abbrev mutual
  -- of a list, where h are the numbers of what comes next, b and c what `break` and `continue` become, and r the labels of the Arrivals
  pub flat : Plan → Here → Aim → Aim → Arrivals → Forest → Forest
  flat p h b c r Nil = Nil
  flat p h b c r (Then x xs) = join (flat_item p h b c r x) (flat p (past_item x h) b c r xs)

  -- what stands in the place of an item
  pub flat_item : Plan → Here → Aim → Aim → Arrivals → Tree → Forest
  flat_item p h b c r (If t x y) = one (If t (flat p h b c r x) (flat p (past x h) b c r y))
  flat_item p h b c r (While t a) =
      flat_loop (λ a. While t a) (flat p (inside (While t a) h) (aim (holds_jump p.live a) (breaks a) (p.break_label h.construct))
      (aim (holds_jump p.live a) (continues a) (p.continue_label h.construct)) r a)
      (aim (holds_jump p.live a) (breaks a) (p.break_label h.construct)) (aim (holds_jump p.live a) (continues a) (p.continue_label h.construct))
  flat_item p h b c r (Do a t) =
      flat_loop (λ a. Do a t) (flat p (inside (Do a t) h) (aim (holds_jump p.live a) (breaks a) (p.break_label h.construct))
      (aim (holds_jump p.live a) (continues a) (p.continue_label h.construct)) r a)
      (aim (holds_jump p.live a) (breaks a) (p.break_label h.construct)) (aim (holds_jump p.live a) (continues a) (p.continue_label h.construct))
  flat_item p h b c r (For first t u a) =
      join (flat p (inside (For first t u a) h) b c NoArrival first)
      (flat_for (holds_jump p.live a) t u
      (flat p (past first (inside (For first t u a) h)) (aim (holds_jump p.live a) (breaks a) (p.break_label h.construct))
      (aim (holds_jump p.live a) (continues a) (p.continue_label h.construct)) r a)
      (aim (holds_jump p.live a) (breaks a) (p.break_label h.construct)) (aim (holds_jump p.live a) (continues a) (p.continue_label h.construct)))
  flat_item p h b c r (Block a) = flat p h b c r a
  flat_item p h b c r (Local x None) = Nil
  flat_item p h b c r (Local x (Some es)) = initialised p x es
  flat_item p h b c r Break = exit b Break
  flat_item p h b c r Continue = exit c Continue
  flat_item p h b c r (Goto l) = one (Goto (p.source l))
  flat_item p h b c r (Mark l) = mark_if (p.live l) (p.source l)
  flat_item p h b c r (Arrival e) = arrival r e
  flat_item p h b c r (Switch s d) =
      cond (is_scattered d)
      (dissolved p h s d (spread p (inside (Switch s d) h) (scatter_aim p h d) c (names_of p h (switch_kind s) d) d))
      (Then (Switch s (flat_sections p (inside (Switch s d) h) (is_jumpy_switch p c d)
      (aim (is_jumpy_switch p c d) (kept_breaks p.live d) (p.break_label h.construct)) c d))
      (mark_of (aim (is_jumpy_switch p c d) (kept_breaks p.live d) (p.break_label h.construct))))
  flat_item p h b c r x = one x

  -- of a list that ends by a `break`, without it
  pub flat_last : Plan → Here → Aim → Aim → Arrivals → Forest → Forest
  flat_last p h b c r Nil = Nil
  flat_last p h b c r (Then x xs) = cond (is_gone (ending p.live xs)) (flat_last_item p h b c r x)
      (join (flat_item p h b c r x) (flat_last p (past_item x h) b c r xs))

  -- of the item by which it ends
  pub flat_last_item : Plan → Here → Aim → Aim → Arrivals → Tree → Forest
  flat_last_item p h b c r (Block a) = flat_last p h b c r a
  flat_last_item p h b c r _ = Nil

  -- the sections of a switch that stays
  pub flat_sections : Plan → Here → Bool → Aim → Aim → Sections → Sections
  flat_sections p h jumpy b c NoSection = NoSection
  flat_sections p h jumpy b c (Section cases default a ends d) = Section cases default
      (if_breaks (ending p.live a) (flat_last p h b c NoArrival a) (flat p h b c NoArrival a)) (ends_then jumpy ends (ending p.live a))
      (flat_sections p (past a h) jumpy b c d)

  -- the lists of a scattered switch, each behind its labels
  pub spread : Plan → Here → Aim → Aim → Names → Sections → Forest
  spread p h b c names NoSection = mark_of b
  spread p h b c names (Section cases default a ends d) = join (case_marks names cases default)
      (join (flat p h b c (Arrives names) a) (join (end_goto ends b) (spread p (past a h) b c names d)))

-- ---- of a whole function

abbrev mutual
  -- the labels of a list, in text order
  pub marks : Forest → List ℕ
  marks Nil = []
  marks (Then x xs) = marks_in x ++ marks xs

  -- of an item
  pub marks_in : Tree → List ℕ
  marks_in (If t a b) = marks a ++ marks b
  marks_in (While t a) = marks a
  marks_in (Do a t) = marks a
  marks_in (For first t u a) = marks first ++ marks a
  marks_in (Block a) = marks a
  marks_in (Switch s d) = marks_among d
  marks_in (Mark l) = l ∷ []
  marks_in _ = []

  -- of sections
  pub marks_among : Sections → List ℕ
  marks_among NoSection = []
  marks_among (Section cases default a ends d) = marks a ++ marks_among d

-- the place of a label in a list; those that aren't in it come behind
abbrev pub place_in : List ℕ → ℕ → ℕ
place_in [] l = l
place_in (m ∷ ms) l = cond (eqb m l) 0 (suc (place_in ms l))

-- each label has a number of its own; n is how many labels the source has
abbrev pub coded : (IntKind → ℤ → ExpressionTree) → List Slot → ℕ → Forest → Plan
coded number slots n body = record {
  live = is_named body;
  source = λ l. l;
  break_label = λ k. n + 4 * k;
  continue_label = λ k. n + (4 * k + 1);
  default_label = λ k. n + (4 * k + 2);
  case_label = λ j. n + (4 * j + 3);
  slots = slots;
  number = number;
}

-- the labels have the numbers of their places
abbrev pub numbered : List ℕ → Plan → Plan
numbered ls p = record p {
  source = λ l. place_in ls (p.source l);
  break_label = λ k. place_in ls (p.break_label k);
  continue_label = λ k. place_in ls (p.continue_label k);
  default_label = λ k. place_in ls (p.default_label k);
  case_label = λ j. place_in ls (p.case_label j);
}

-- at the start of a function with so many slots
abbrev pub first_here : ℕ → Here
first_here n = record { construct = 0; case = 0; variable = n }

-- the flat form of a body with jumps: its labels are numbered in the order in which they stand in it
abbrev pub flat_body : (IntKind → ℤ → ExpressionTree) → List Slot → ℕ → Forest → Forest
flat_body number slots n body =
    let p = coded number slots n body in
    let h = first_here (length slots) in
    flat (numbered (marks (flat p h Stays Stays NoArrival body)) p) h Stays Stays NoArrival body
