-- A fact of each item of a body without violations, from the fact of each statement at its place.
use Rattle.std.proofs.Common.{ℕ, Bool, true, false, cond, ◌&&◌, ◌||◌, List, [], ◌∷◌, ◌++◌, append_assoc, map, length, Option, Some, None, option_map, ◌≡◌, sym, ap, subst, ◌∙◌}
use Rattle.std.specs.Prelude.{IfSome, ◌<◌}
use Rattle.c_tree.specs.declared.tree.Slot.{Slot}
use Rattle.c_tree.specs.declared.tree.Item as item
use Rattle.c_tree.specs.declared.tree.Section.{Section}
use Rattle.c_tree.specs.ExpressionTrees.{ExpressionTree, expression_tree}
use Rattle.c_tree.specs.TestTrees.{Source, Selects}
use Rattle.c_tree.specs.Trees.{Tree, Forest, SectionTree, Nil, expression_trees, tree_of, trees_of, section_tree, sections, sections_of}
use Rattle.c_tree.specs.Trees as tree
use Rattle.c_tree.specs.Everywhere.{Everywhere, EverywhereOf, EverywhereIn}
use Rattle.c_tree.proofs.KeptLemmas.{everywhere_join}
use Rattle.c_tree.proofs.TreeLaws.{trees-append}
use Rattle.c_tree.specs.SectionLabels.{labels_passed}
use Rattle.c_grammar.specs.Terms.{Term}
use Rattle.c_grammar.specs.Items.{Declarator, Start, Body}
use Rattle.c_kinds.specs.Scopes.{Scope}
use Rattle.c_kinds.specs.Typing.{typed, constant_faults}
use Rattle.c_kinds.specs.Values.{value_of}
use Rattle.c_statements.specs.declared.extents.Kinded.{Kinded}
use Rattle.c_statements.specs.Cases.{switch_faults, body_entries}
use Rattle.c_statements.specs.declared.anchors.Anchor.{Anchor}
use Rattle.c_statements.specs.Context.{Context, Walk, env_at, env_in, enter, number_in, has_label, Around, in_switch}
use Rattle.c_statements.specs.Declarations.{declared, initial, value_at, constant_at, value_faults, local_faults}
use Rattle.c_statements.specs.Sections.{Reading, extended, closed}
use Rattle.c_statements.specs.Statements.{behind_start, dropped_at, start_items, switch_sections}
use Rattle.c_statements.specs.Violations.{dropped_faults, optional_faults, start_faults, return_faults, switch_body_faults}
use Rattle.c_resolved_defs.specs.Form.{ends_with_break}
use Rattle.c_resolved_defs.specs.Within.{Each, CaseExpressions}
use Rattle.c_resolving_laws.proofs.Lists.{each_append}
use Rattle.c_resolving_laws.specs.Read.{body_cases, IsReadTerm, IsReadDeclarator, IsReadStart, IsReadBody}
use Rattle.c_resolving_laws.proofs.Grown.{Grown}
use Rattle.c_resolving_laws.proofs.SectionTrees.{section_of, ended_tree, has_entry, without_end, passes, with_entries, passed_trees, passed_same, ended_same, sections_are}

-- the slots of the function begin with these
abbrev pub Begins : List Slot → List Slot → Type 0
Begins slots final = (rest : List Slot) × (final ≡ slots ++ rest)

abbrev pub Any : Slot → Type 0
Any s = Unit {0}

pub begins_before : (a b final : List Slot) → Grown Any a b → Begins b final → Begins a final
begins_before a b final g h = (g.more ++ h.0, h.1 ∙ (ap (λ x. x ++ h.0) g.whole ∙ append_assoc a g.more h.0))

-- What holds of the items of statements: I is known of the scopes at each place, P is to hold of each item, and C of each
-- constant of a case.
pub record Closed (ctx : Context) (final : List Slot) (I : List Scope → Type 0) (P : Tree → Type 0) (C : ExpressionTree → Type 0) : Type 0 where
  pub into : (s : List Scope) → I s → I ([] ∷ s)
  pub binds : (k : Kinded) (d : Declarator) (w : Walk) → IsReadDeclarator ctx.word d → local_faults ctx.word k d w [] ≡ [] →
      Begins (declared ctx.word k d w).slots final → I w.scopes → I (declared ctx.word k d w).scopes
  pub note : (a : Anchor) → Each (λ bs. P (tree.Note bs)) (ctx.notes a)
  pub evaluates : (w : Walk) (t : Term) → I w.scopes → IsReadTerm ctx.word t → dropped_faults (env_at ctx w) t [] ≡ [] →
      P (tree.Evaluate (expression_tree (dropped_at (env_at ctx w) t)))
  pub ifs : (w : Walk) (t : Term) (a b : Forest) → I w.scopes → IsReadTerm ctx.word t → value_faults (env_at ctx w) t [] ≡ [] →
      P (tree.If (Source (expression_tree (value_at (env_at ctx w) t))) a b)
  pub whiles : (w : Walk) (t : Term) (a : Forest) → I w.scopes → IsReadTerm ctx.word t → value_faults (env_at ctx w) t [] ≡ [] →
      P (tree.While (Source (expression_tree (value_at (env_at ctx w) t))) a)
  pub dos : (w : Walk) (t : Term) (a : Forest) → I w.scopes → IsReadTerm ctx.word t → value_faults (env_at ctx w) t [] ≡ [] →
      P (tree.Do a (Source (expression_tree (value_at (env_at ctx w) t))))
  pub fors : (w : Walk) (start : Start) (t u : Option Term) (a : Forest) → let inner = behind_start ctx start (enter w) in let env = env_at ctx inner in
      I w.scopes → I inner.scopes → Begins inner.slots final → IsReadStart ctx.word start → IfSome t (IsReadTerm ctx.word) → IfSome u (IsReadTerm ctx.word)
      → start_faults ctx start (enter w) [] ≡ [] → optional_faults (value_faults env) t [] ≡ [] → optional_faults (dropped_faults env) u [] ≡ []
      → P (tree.For (trees_of (start_items ctx start (enter w))) (option_map expression_tree (option_map (value_at env) t))
      (option_map expression_tree (option_map (dropped_at env) u)) a)
  pub switches : (around : Around) (w : Walk) (t : Term) (b : Body) → I w.scopes → IsReadTerm ctx.word t → IsReadBody ctx.word b →
      body_cases b < 2147483648 → value_faults (env_at ctx w) t [] ≡ []
      → switch_body_faults ctx (in_switch around) b w [] ≡ [] → switch_faults (option_map (λ v. v.kind) (value_of (typed (env_at ctx w) t)))
      (body_entries ctx b w []) [] ≡ []
      → CaseExpressions C (sections_of (labels_passed (switch_sections ctx b w)))
      → P (tree.Switch (Selects (expression_tree (value_at (env_at ctx w) t))) (sections_of (labels_passed (switch_sections ctx b w))))
  pub block : (a : Forest) → P (tree.Block a)
  pub locals : (k : Kinded) (d : Declarator) (w : Walk) → IsReadDeclarator ctx.word d → local_faults ctx.word k d w [] ≡ [] →
      Begins (declared ctx.word k d w).slots final
      → I w.scopes → I (declared ctx.word k d w).scopes → P
      (tree.Local (length w.slots) (option_map expression_trees (initial (value_at (env_in ctx.word (declared ctx.word k d w))) d.value)))
  pub breaks : P tree.Break
  pub continues : P tree.Continue
  pub gotos : (at : ℕ) → has_label ctx.labels (ctx.word at) ≡ true → P (tree.Goto (number_in ctx.labels (ctx.word at)))
  pub returns : (w : Walk) (first : ℕ) (t : Option Term) → I w.scopes → IfSome t (IsReadTerm ctx.word) → return_faults ctx.result (env_at ctx w) first t [] ≡ []
      → P (tree.Return (option_map expression_tree (option_map (value_at (env_at ctx w)) t)))
  pub marks : (at : ℕ) → P (tree.Mark (number_in ctx.labels (ctx.word at)))
  pub arrives : (w : Walk) (t : Term) → I w.scopes → IsReadTerm ctx.word t → constant_faults (env_at ctx w) t [] ≡ [] →
      P (tree.Arrival (Some (expression_tree (constant_at (env_at ctx w) t))))
  pub defaults : P (tree.Arrival None)
  pub cases : (w : Walk) (t : Term) → I w.scopes → IsReadTerm ctx.word t → constant_faults (env_at ctx w) t [] ≡ [] →
      C (expression_tree (constant_at (env_at ctx w) t))

-- ---- lists of items

module _ (P : Tree → Type 0) where
  abbrev pub Holds : List item.Item → Type 0
  Holds xs = Everywhere P (trees_of xs)

  pub hold_none : Holds []
  unfolding trees_of
  hold_none = tt

  pub hold_more : (x : item.Item) (xs : List item.Item) → EverywhereOf P (tree_of x) → Holds xs → Holds (x ∷ xs)
  unfolding trees_of
  hold_more x xs h k = (h, k)

  pub hold_one : (x : item.Item) → EverywhereOf P (tree_of x) → Holds (x ∷ [])
  hold_one x h = hold_more x [] h hold_none

  pub hold_both : (xs ys : List item.Item) → Holds xs → Holds ys → Holds (xs ++ ys)
  hold_both xs ys h k = subst (Everywhere P) (sym (trees-append xs ys)) (everywhere_join P (trees_of xs) (trees_of ys) h k)

  pub hold_as : (x : item.Item) (t : Tree) → tree_of x ≡ t → EverywhereOf P t → EverywhereOf P (tree_of x)
  hold_as x t e h = subst (EverywhereOf P) (sym e) h

  end_holds : (a : Forest) → Everywhere P a → Everywhere P (without_end a)
  end_holds Nil h = tt
  end_holds (tree.Then x Nil) h = tt
  end_holds (tree.Then x (tree.Then y ys)) h = (h.0, end_holds (tree.Then y ys) h.1)

-- ---- sections

module _ (P : Tree → Type 0) (C : ExpressionTree → Type 0) where
  abbrev pub SectionHolds : SectionTree → Type 0
  SectionHolds s = Everywhere P s.list × Each C s.cases

  abbrev pub ReadingHolds : Option Reading → Type 0
  ReadingHolds None = Unit {0}
  ReadingHolds (Some s) = Holds P s.list × Each C (expression_trees s.cases)

  abbrev pub SectionsHold : List Section → Type 0
  SectionsHold ss = Each (λ s. SectionHolds (section_tree s)) ss

  pub extended_holds : (s : Reading) (xs : List item.Item) → ReadingHolds (Some s) → Holds P xs → ReadingHolds (extended (Some s) xs)
  extended_holds s xs h k = (hold_both P s.list xs h.0 k, h.1)

  ended_holds : (cs : List ExpressionTree) (d : Bool) (a : Forest) → Each C cs → Everywhere P a → SectionHolds (ended_tree cs d a)
  ended_holds cs d a c h = by (has_entry cs d && ends_with_break a)
    where
      by : (b : Bool) → SectionHolds (cond b (section_of cs d (without_end a) true) (section_of cs d a false))
      by true = (end_holds P a h, c)
      by false = (h, c)

  pub closed_holds : (o : Option Reading) → ReadingHolds o → SectionsHold (closed o)
  closed_holds None h = tt
  closed_holds (Some s) h = (subst SectionHolds (sym (ended_same s)) (ended_holds (expression_trees s.cases) s.default (trees_of s.list) h.1 h.0), tt)

  passed_by : (cs : List ExpressionTree) (d : Bool) (s : SectionTree) (ss : List SectionTree) (b : Bool) → Each C cs → SectionHolds s
      → ((es : List ExpressionTree) (e : Bool) → Each C es → Each SectionHolds (passed_trees es e ss))
      → Each SectionHolds (elim b [ true ↦ passed_trees (cs ++ s.cases) (d || s.default) ss | false ↦ with_entries cs d s ∷ passed_trees [] false ss ])
  passed_by cs d s ss true c h f = f (cs ++ s.cases) (d || s.default) (each_append C cs s.cases c h.1)
  passed_by cs d s ss false c h f = ((h.0, each_append C cs s.cases c h.1), f [] false tt)

  passed_hold : (cs : List ExpressionTree) (d : Bool) (ss : List SectionTree) → Each C cs → Each SectionHolds ss → Each SectionHolds (passed_trees cs d ss)
  passed_hold cs d [] c h = tt
  passed_hold cs d (s ∷ []) c h = ((h.0.0, each_append C cs s.cases c h.0.1), tt)
  passed_hold cs d (s ∷ t ∷ ss) c h = passed_by cs d s (t ∷ ss) (passes s) c h.0 (λ es e k. passed_hold es e (t ∷ ss) k h.1)

  pub sections_hold : (ss : List SectionTree) → Each SectionHolds ss → EverywhereIn P (sections ss) × CaseExpressions C (sections ss)
  sections_hold [] h = (tt, tt)
  sections_hold (s ∷ ss) h = let r = sections_hold ss h.1 in ((h.0.0, r.0), (h.0.1, r.1))

  trees_hold : (ss : List Section) → SectionsHold ss → Each SectionHolds (map section_tree ss)
  trees_hold [] h = tt
  trees_hold (s ∷ ss) h = (h.0, trees_hold ss h.1)

  pub switch_holds : (ss : List Section) → SectionsHold ss → EverywhereIn P (sections_of (labels_passed ss)) × CaseExpressions C
      (sections_of (labels_passed ss))
  switch_holds ss h =
      subst (λ c. EverywhereIn P c × CaseExpressions C c) (sym (sections_are (labels_passed ss) ∙ ap sections (passed_same ss)))
      (sections_hold (passed_trees [] false (map section_tree ss)) (passed_hold [] false (map section_tree ss) tt (trees_hold ss h)))

-- a fact of all comments
pub each_note : (P : Tree → Type 0) → ((bs : List ℕ) → P (tree.Note bs)) → (bs : List (List ℕ)) → Each (λ b. P (tree.Note b)) bs
each_note P f [] = tt
each_note P f (b ∷ bs) = (f b, each_note P f bs)
