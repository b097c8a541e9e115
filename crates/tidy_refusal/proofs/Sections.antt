-- Sections that are read without gotos and nested case labels.
use Rattle.std.proofs.Common.{Bool, true, false, cond, ◌&&◌, ◌||◌, List, [], ◌∷◌, ◌++◌, map, Option, Some, None, sym, ap, subst, ◌∙◌}
use Rattle.c_tree.specs.declared.tree.Item as item
use Rattle.c_tree.specs.declared.tree.Section.{Section}
use Rattle.c_tree.specs.ExpressionTrees.{ExpressionTree}
use Rattle.c_tree.specs.Everywhere.{EverywhereIn}
use Rattle.c_tree.specs.Trees.{Forest, Nil, Then, SectionTree, expression_trees, trees_of, section_tree, sections, sections_of}
use Rattle.c_tree.proofs.TreeLaws.{trees-append, trees-none, trees-more, tree-Evaluate}
use Rattle.c_tree.proofs.KeptLemmas.{everywhere_join}
use Rattle.c_tree.specs.SectionLabels.{labels_passed}
use Rattle.c_statements.specs.Sections.{Reading, extended, closed, front}
use Rattle.c_statements.specs.Statements as statements
use Rattle.c_resolved_defs.specs.Form.{ends_with_break}
use Rattle.c_resolved_defs.specs.Within.{Each}
use Rattle.c_resolving_laws.proofs.SectionTrees.{section_of, ended_tree, has_entry, without_end, passes, with_entries, passed_trees, passed_same, ended_same, sections_are}
use Rattle.tidy_refusal.proofs.Still.{IsStill, IsStillList}
use Rattle.c_statements.specs.Declarations.{placeholder}

abbrev pub Still : List item.Item → Type 0
Still xs = IsStillList (trees_of xs)

pub still_both : (xs ys : List item.Item) → Still xs → Still ys → Still (xs ++ ys)
still_both xs ys h k = subst IsStillList (sym (trees-append xs ys)) (everywhere_join IsStill (trees_of xs) (trees_of ys) h k)

-- ---- on trees

abbrev StillTree : SectionTree → Type 0
StillTree s = IsStillList s.list

still_cut : (a : Forest) → IsStillList a → IsStillList (without_end a)
still_cut Nil h = tt
still_cut (Then x Nil) h = tt
still_cut (Then x (Then y a)) h = (h.0, still_cut (Then y a) h.1)

ended_still : (cs : List ExpressionTree) (d : Bool) (a : Forest) → IsStillList a → StillTree (ended_tree cs d a)
ended_still cs d a h = by (has_entry cs d && ends_with_break a)
  where
    by : (b : Bool) → StillTree (cond b (section_of cs d (without_end a) true) (section_of cs d a false))
    by true = still_cut a h
    by false = h

passed_by : (cs : List ExpressionTree) (d : Bool) (s : SectionTree) (ts : List SectionTree) (b : Bool) → StillTree s
    → ((es : List ExpressionTree) (e : Bool) → EverywhereIn IsStill (sections (passed_trees es e ts)))
    → EverywhereIn IsStill (sections (elim b [
      | true ↦ passed_trees (cs ++ s.cases) (d || s.default) ts
      | false ↦ with_entries cs d s ∷ passed_trees []
          false ts
    ]))
passed_by cs d s ts true h f = f (cs ++ s.cases) (d || s.default)
passed_by cs d s ts false h f = (h, f [] false)

passed_still : (cs : List ExpressionTree) (d : Bool) (ts : List SectionTree) → Each StillTree ts → EverywhereIn IsStill (sections (passed_trees cs d ts))
passed_still cs d [] h = tt
passed_still cs d (s ∷ []) h = (h.0, tt)
passed_still cs d (s ∷ t ∷ ts) h = passed_by cs d s (t ∷ ts) (passes s) h.0 (λ es e. passed_still es e (t ∷ ts) h.1)

-- ---- as they are read

abbrev pub StillSections : List Section → Type 0
StillSections cs = Each (λ s. StillTree (section_tree s)) cs

abbrev pub StillReading : Option Reading → Type 0
StillReading None = Unit {0}
StillReading (Some r) = Still r.list

pub closed_still : (o : Option Reading) → StillReading o → StillSections (closed o)
closed_still None h = tt
closed_still (Some r) h = (subst StillTree (sym (ended_same r)) (ended_still (expression_trees r.cases) r.default (trees_of r.list) h), tt)

pub extended_still : (o : Option Reading) (xs : List item.Item) → StillReading o → Still xs → StillReading (extended o xs)
extended_still None xs h k = tt
extended_still (Some r) xs h k = still_both r.list xs h k

pub end_still : (o : Option Reading) (notes : List item.Item) → StillReading o → Still notes → StillSections (statements.sections_of o notes)
end_still None notes h k = tt
end_still (Some r) notes h k = closed_still (extended (Some r) notes) (extended_still (Some r) notes h k)

pub still_if : (b : Bool) (xs : List item.Item) → Still xs → Still (cond b [] xs)
still_if true xs h = subst IsStillList (sym trees-none) tt
still_if false xs h = h

pub front_still : (xs : List item.Item) → Still xs → StillSections (front xs)
front_still [] h = tt
front_still (x ∷ xs) h =
    let nothing = item.Evaluate placeholder ∷ [] in
    let n = subst IsStillList (sym (trees-more (item.Evaluate placeholder) [] ∙ (λ i. Then (tree-Evaluate placeholder i) (trees-none i)))) (tt, tt) in
    closed_still (Some (record { cases = []; default = false; list = (x ∷ xs) ++ nothing })) (still_both (x ∷ xs) nothing h n)

still_trees : (cs : List Section) → StillSections cs → Each StillTree (map section_tree cs)
still_trees [] h = tt
still_trees (c ∷ cs) h = (h.0, still_trees cs h.1)

-- the sections of a switch
pub are_still : (cs : List Section) → StillSections cs → EverywhereIn IsStill (sections_of (labels_passed cs))
are_still cs h =
    subst (EverywhereIn IsStill) (sym (sections_are (labels_passed cs) ∙ ap sections (passed_same cs)))
    (passed_still [] false (map section_tree cs) (still_trees cs h))
