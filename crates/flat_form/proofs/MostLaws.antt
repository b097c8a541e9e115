-- The labels and the ends of sections, from one place on, and the numbers that are no less than those of a flat form.
use Rattle.std.proofs.Common.{◌≡◌, ℕ, ◌+◌, ◌<◌, ◌≤◌, true, cond, List, length, drop, get_or, subst, ap, arith}
use Rattle.std.proofs.lemmas.List.{length-map}
use Rattle.std.specs.Option.{IsSomeAnd}
use Rattle.c_tree.specs.declared.tree.Section.{Section, out-Section}
use Rattle.c_tree.specs.Everywhere.{total}
use Rattle.c_tree.specs.ExpressionTrees.{expression_tree}
use Rattle.c_tree.specs.Trees.{Forest, sections_of}
use Rattle.c_tree.proofs.Views.{sections-at, sections-end}
use Rattle.flat_laws.specs.Parts.{has_jumps}
use Rattle.c_resolved_laws.specs.Bounds.{entries, most_gotos, most_labels}
use Rattle.c_resolved_laws.specs.Counts.{section_ends, flat_counts}
use Rattle.c_resolved_laws.proofs.Bounds.{counted_within}

pub entries_more : (cs : List Section) (i : ℕ) (c : Section) → i < length cs → c ≡ get_or cs i c
    → entries (sections_of (drop i cs)) ≡ length (out-Section c).cases + cond (out-Section c).default 1 0 + entries (sections_of (drop (i + 1) cs))
entries_more cs i c l e =
    let m = ap entries (sections-at cs i c l e) in
    let n = length-map (out-Section c).cases expression_tree in
    omega (arith, m, n)

pub entries_end : (cs : List Section) (i : ℕ) → length cs ≤ i → entries (sections_of (drop i cs)) ≡ 0
entries_end cs i l = ap entries (sections-end cs i l)

pub ends_more : (cs : List Section) (i : ℕ) (c : Section) → i < length cs → c ≡ get_or cs i c
    → section_ends (sections_of (drop i cs)) ≡ cond (out-Section c).ends 1 0 + section_ends (sections_of (drop (i + 1) cs))
ends_more cs i c l e = ap section_ends (sections-at cs i c l e)

pub ends_end : (cs : List Section) (i : ℕ) → length cs ≤ i → section_ends (sections_of (drop i cs)) ≡ 0
ends_end cs i l = ap section_ends (sections-end cs i l)

pub most_counted : (body : Forest) (gotos labels : ℕ) → has_jumps body ≡ true → gotos ≡ 0 + total most_gotos body → labels ≡ 0 + total most_labels body
    → IsSomeAnd (flat_counts body) (λ n. n.0 ≤ gotos × n.1 ≤ labels)
most_counted body gotos labels jumps e f =
    let g : total most_gotos body ≡ gotos = omega (arith, e) in
    let h : total most_labels body ≡ labels = omega (arith, f) in
    subst (λ (z : ℕ × ℕ). IsSomeAnd (flat_counts body) (λ n. n.0 ≤ z.0 × n.1 ≤ z.1)) (λ i. (g i, h i)) (counted_within body jumps)
