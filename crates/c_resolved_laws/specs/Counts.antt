-- How many gotos and labels the flat form of a body has, told by its items (docs/REWRITING.md, "The flat form"); and a
-- resolved program with these measures.
use Rattle.std.specs.Prelude.{ℕ, ◌+◌, ◌==◌, ◌&&◌, ◌||◌, Bool, false, cond, not, List, [], ◌∷◌, length, Some, None, is_some}
use Rattle.std.specs.List.{list_any}
use Rattle.c_types.specs.declared.kinds.IntKind.{IntKind}
use Rattle.c_tree.specs.declared.tree.Program.{Program}
use Rattle.c_tree.specs.Cases.{case_number}
use Rattle.c_tree.specs.Changed.{one}
use Rattle.c_tree.specs.Everywhere.{total}
use Rattle.c_tree.specs.Exits.{breaks, breaks_in, continues, continues_in}
use Rattle.c_tree.specs.ExpressionTrees.{ExpressionTree}
use Rattle.c_tree.specs.Numerals.{constant}
use Rattle.c_tree.specs.Trees.{Tree, Forest, Nil, Then, Sections, NoSection, Section, If, While, Do, For, Switch, Block, Goto, Arrival, join}
use Rattle.jump_meaning.specs.Step.{switch_kind}
use Rattle.flat_laws.specs.Parts.{is_some_number, is_scattered, switch_labels, cases_among, has_default, leaves, holds_jump, holds_jump_among, is_named, has_jumps, kept_breaks}
use Rattle.flat_laws.specs.FlatForm.{flat_body, marks}
use Rattle.c_resolved_defs.specs.Limits.{FlatCounts}
use Rattle.c_resolved_defs.specs.Resolved.{IsResolvedWith}

-- 1 for more than none
abbrev pub one_for : ℕ → ℕ
one_for n = cond (is_some_number n) 1 0

-- how many of these cases have a number: each is tested
abbrev pub tested : IntKind → List ExpressionTree → ℕ
tested k [] = 0
tested k (e ∷ es) = cond (is_some (case_number k e)) 1 0 + tested k es

-- how many sections end by a `break`
abbrev pub section_ends : Sections → ℕ
section_ends NoSection = 0
section_ends (Section cases default a ends c) = cond ends 1 0 + section_ends c

-- ---- what an item gives, apart from those in it, where the labels are those that some goto names

-- a switch that stays is jumpy, by what it holds or since it leaves a jumpy loop by a `continue`
abbrev pub is_jumpy : (ℕ → Bool) → Bool → Sections → Bool
is_jumpy named in_jumpy c = holds_jump_among named c || (in_jumpy && is_some_number (continues_in c))

-- a scattered switch that compares in this kind has a goto for each case, one for where no case is selected, and one for
-- each end and `break`
abbrev pub scattered_gotos : IntKind → Sections → ℕ
scattered_gotos k c = tested k (cases_among (switch_labels c)) + 1 + section_ends c + breaks_in c

-- it has a label for each case, one for a default, and one behind it if a goto leads there
abbrev pub scattered_labels : Sections → ℕ
scattered_labels c = length (cases_among (switch_labels c)) + cond (has_default (switch_labels c)) 1 0 + cond (leaves c) 1 0

-- the gotos: a goto is one, and so is each `break` and `continue` that leaves a jumpy construct
abbrev pub gotos_in : (ℕ → Bool) → Bool → Tree → ℕ
gotos_in named in_jumpy (Goto l) = 1
gotos_in named in_jumpy (While t a) = cond (holds_jump named a) (breaks a + continues a) 0
gotos_in named in_jumpy (Do a t) = cond (holds_jump named a) (breaks a + continues a) 0
gotos_in named in_jumpy (For first t u a) = cond (holds_jump named a) (breaks a + continues a) 0
gotos_in named in_jumpy (Switch s c) = cond (is_scattered c) (scattered_gotos (switch_kind s) c) (cond (is_jumpy named in_jumpy c) (kept_breaks named c) 0)
gotos_in named in_jumpy _ = 0

-- the labels that are made: behind a jumpy construct that some `break` leaves, and at the end of a jumpy loop that has a
-- `continue`
abbrev pub labels_in : (ℕ → Bool) → Bool → Tree → ℕ
labels_in named in_jumpy (While t a) = cond (holds_jump named a) (one_for (breaks a) + one_for (continues a)) 0
labels_in named in_jumpy (Do a t) = cond (holds_jump named a) (one_for (breaks a) + one_for (continues a)) 0
labels_in named in_jumpy (For first t u a) = cond (holds_jump named a) (one_for (breaks a) + one_for (continues a)) 0
labels_in named in_jumpy (Switch s c) = cond (is_scattered c) (scattered_labels c) (cond (is_jumpy named in_jumpy c) (one_for (kept_breaks named c)) 0)
labels_in named in_jumpy _ = 0

-- ---- the sum over all items

abbrev mutual
  -- of a list; the flag says whether the nearest loop around it is jumpy
  pub summed : (Bool → Tree → ℕ) → (ℕ → Bool) → Bool → Forest → ℕ
  summed f named in_jumpy Nil = 0
  summed f named in_jumpy (Then x xs) = summed_of f named in_jumpy x + summed f named in_jumpy xs

  -- of an item and those that stand in it
  pub summed_of : (Bool → Tree → ℕ) → (ℕ → Bool) → Bool → Tree → ℕ
  summed_of f named in_jumpy (If t a b) = summed f named in_jumpy a + summed f named in_jumpy b
  summed_of f named in_jumpy (While t a) = f in_jumpy (While t a) + summed f named (holds_jump named a) a
  summed_of f named in_jumpy (Do a t) = f in_jumpy (Do a t) + summed f named (holds_jump named a) a
  summed_of f named in_jumpy (For first t u a) = f in_jumpy (For first t u a) + summed f named in_jumpy first + summed f named (holds_jump named a) a
  summed_of f named in_jumpy (Switch s c) = f in_jumpy (Switch s c) + summed_in f named in_jumpy c
  summed_of f named in_jumpy (Block a) = summed f named in_jumpy a
  summed_of f named in_jumpy x = f in_jumpy x

  -- of sections
  pub summed_in : (Bool → Tree → ℕ) → (ℕ → Bool) → Bool → Sections → ℕ
  summed_in f named in_jumpy NoSection = 0
  summed_in f named in_jumpy (Section cases default a ends c) = summed f named in_jumpy a + summed_in f named in_jumpy c

-- how many of these labels are named, each once: a label counts where it stands last
abbrev pub labels_named : (ℕ → Bool) → List ℕ → ℕ
labels_named named [] = 0
labels_named named (l ∷ ls) = cond (named l && not (list_any (λ m. m == l) ls)) 1 0 + labels_named named ls

-- the gotos of the flat form of a body
abbrev pub gotos_of : Forest → ℕ
gotos_of body = summed (gotos_in (is_named body)) (is_named body) false body

-- its labels: those that are made, and those of the body that stay
abbrev pub labels_of : Forest → ℕ
labels_of body = summed (labels_in (is_named body)) (is_named body) false body + labels_named (is_named body) (marks body)

-- ---- a body that breaks a rule is measured too: a case label that no switch is around counts for nothing

abbrev mutual
  -- a list without the case labels that no switch is around
  pub without_strays : Forest → Forest
  without_strays Nil = Nil
  without_strays (Then x xs) = join (without_stray x) (without_strays xs)

  -- what stands in the place of an item
  pub without_stray : Tree → Forest
  without_stray (If t a b) = one (If t (without_strays a) (without_strays b))
  without_stray (While t a) = one (While t (without_strays a))
  without_stray (Do a t) = one (Do (without_strays a) t)
  without_stray (For first t u a) = one (For first t u (without_strays a))
  without_stray (Block a) = one (Block (without_strays a))
  without_stray (Arrival e) = Nil
  without_stray x = one x

abbrev pub bound_counts : FlatCounts
bound_counts body = cond (has_jumps body) (Some (gotos_of body, labels_of body)) None

-- the gotos and labels of the flat form of a body with jumps
abbrev pub flat_counts : FlatCounts
flat_counts body = bound_counts (without_strays body)

-- a resolved program: the condition of the calls that take one
abbrev pub IsResolved : Program → Type 0
IsResolved p = IsResolvedWith flat_counts p

-- ---- the same of a flat form itself

-- 1 for a goto
abbrev pub goto_of : Tree → ℕ
goto_of (Goto l) = 1
goto_of _ = 0

-- the gotos and the labels of a body
abbrev pub counts_of : Forest → ℕ × ℕ
counts_of body = (total goto_of body, length (marks body))

-- the flat form by which a body is measured: neither its slots nor the numbers of its labels count
abbrev pub measured_form : Forest → Forest
measured_form body = flat_body constant [] (length (marks body)) body
