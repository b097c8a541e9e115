-- The labels of a resolved function each stand once, so that all of its flat form's count.
use mathlib.Core.Path.{ap₂}
use Rattle.std.proofs.Common.{ℕ, ◌+◌, ◌<◌, ◌≤◌, Bool, true, false, cond, not, ◌==◌, ◌&&◌, ◌||◌, List, [], ◌∷◌, ◌++◌, length, Some, None, ◌≡◌, refl, sym, ap, ◌∙◌, arith, eqb-true, eq-eqb}
use Rattle.std.proofs.lemmas.Bool.{false≢true}
use Rattle.std.specs.List.{list_any}
use Rattle.c_tree.specs.declared.tree.Function.{Function}
use Rattle.c_tree.specs.declared.tree.Top.{Top}
use Rattle.c_tree.specs.Everywhere.{total, total_of}
use Rattle.c_tree.specs.InRange.{body_of}
use Rattle.c_tree.specs.Numerals.{constant}
use Rattle.c_tree.specs.Trees.{Tree, Forest, Nil, Then, Sections, NoSection, Section, If, While, Do, For, Switch, Block, Mark, Arrival, join}
use Rattle.c_tree.proofs.KeptLemmas.{total-join}
use Rattle.c_resolved_defs.specs.Form.{gathered, gathered_of, gathered_in, marked_label, HasNoLoose, IsNotLoose}
use Rattle.c_resolved_defs.specs.Limits.{FlatCounts}
use Rattle.c_resolved_defs.specs.Resolved.{IsResolvedFunction}
use Rattle.flat_laws.specs.Loose.{NoArrival}
use Rattle.flat_laws.specs.Pieces.{Stays}
use Rattle.flat_laws.specs.Parts.{has_jumps, is_named, jumps_of, is_some_number}
use Rattle.flat_laws.specs.FlatForm.{coded, numbered, first_here, flat, marks, marks_in, marks_among}
use Rattle.flat_laws.specs.Source.{HasOwnLabels}
use Rattle.flat_laws.proofs.Counts.{one_if}
use Rattle.flat_laws.proofs.SameCounts.{marks_counted}
use Rattle.c_resolved_laws.specs.Counts.{counts_of, measured_form, without_strays, without_stray, summed, labels_named, labels_of, bound_counts, flat_counts}
use Rattle.c_resolved_laws.proofs.LabelsGiven.{count_in, counted, function_labels}
use Rattle.c_resolved_laws.proofs.GotosCounted.{gotos_are}
use Rattle.c_resolved_laws.proofs.LabelsCounted.{named_bit, each_label, each_named, flat_labels, all_as_many, marks_named}

-- ---- no case label is stray

mutual
  none_stray : (a : Forest) → HasNoLoose a → without_strays a ≡ a
  none_stray Nil h = refl
  none_stray (Then x a) h = none_behind x (without_strays a) h.0 ∙ ap (Then x) (none_stray a h.1)

  none_behind : (x : Tree) (b : Forest) → IsNotLoose x → join (without_stray x) b ≡ Then x b
  none_behind (If t c d) b h = λ i. Then (If t (none_stray c h.0 i) (none_stray d h.1 i)) b
  none_behind (While t c) b h = λ i. Then (While t (none_stray c h i)) b
  none_behind (Do c t) b h = λ i. Then (Do (none_stray c h i) t) b
  none_behind (For first t u c) b h = λ i. Then (For first t u (none_stray c h i)) b
  none_behind (Block c) b h = λ i. Then (Block (none_stray c h i)) b
  none_behind (Arrival e) b h = absurd h
  none_behind x b h = refl

-- and without them a list has jumps where it had
mutual
  jumps_left : (a : Forest) → total jumps_of (without_strays a) ≡ total jumps_of a
  jumps_left Nil = refl
  jumps_left (Then x a) = let e = total-join jumps_of (without_stray x) (without_strays a) in let i = jumps_left_of x in let j = jumps_left a in
      omega (arith, e, i, j)

  jumps_left_of : (x : Tree) → total jumps_of (without_stray x) ≡ total_of jumps_of x
  jumps_left_of (If t c d) = let i = jumps_left c in let j = jumps_left d in omega (arith, i, j)
  jumps_left_of (While t c) = let i = jumps_left c in omega (arith, i)
  jumps_left_of (Do c t) = let i = jumps_left c in omega (arith, i)
  jumps_left_of (For first t u c) = let i = jumps_left c in omega (arith, i)
  jumps_left_of (Block c) = let i = jumps_left c in omega (arith, i)
  jumps_left_of x = omega arith

pub jumps_stay : (a : Forest) → has_jumps (without_strays a) ≡ has_jumps a
jumps_stay a = ap is_some_number (jumps_left a)

-- ---- the labels of a list, gathered

mutual
  marks_gathered : (a : Forest) → marks a ≡ gathered marked_label a
  marks_gathered Nil = refl
  marks_gathered (Then x a) = ap₂ (λ m n. m ++ n) (marks_gathered_of x) (marks_gathered a)

  marks_gathered_of : (x : Tree) → marks_in x ≡ gathered_of marked_label x
  marks_gathered_of (If t a b) = ap₂ (λ m n. m ++ n) (marks_gathered a) (marks_gathered b)
  marks_gathered_of (While t a) = marks_gathered a
  marks_gathered_of (Do a t) = marks_gathered a
  marks_gathered_of (For first t u a) = ap₂ (λ m n. m ++ n) (marks_gathered first) (marks_gathered a)
  marks_gathered_of (Switch s c) = marks_gathered_in c
  marks_gathered_of (Block a) = marks_gathered a
  marks_gathered_of (Mark l) = refl
  marks_gathered_of x = refl

  marks_gathered_in : (c : Sections) → marks_among c ≡ gathered_in marked_label c
  marks_gathered_in NoSection = refl
  marks_gathered_in (Section cases default a ends c) = ap₂ (λ m n. m ++ n) (marks_gathered a) (marks_gathered_in c)

-- ---- a label of a resolved function stands once, so each counts

count_there : (l : ℕ) (ls : List ℕ) → list_any (λ m. m == l) ls ≡ true → 0 < count_in l ls
count_there l [] e = absurd (false≢true e)
count_there l (m ∷ ls) e = by (m == l) refl (count_there l ls) e
  where
    by : (b : Bool) → (m == l) ≡ b → (list_any (λ m. m == l) ls ≡ true → 0 < count_in l ls) → (b || list_any (λ m. m == l) ls) ≡ true → 0 < count_in l (m ∷ ls)
    by true q more f = let k = ap one_if (eq-eqb l m (sym (eqb-true m l q))) in omega (arith, k)
    by false q more f = let h = more f in omega (arith, h)

once_each : (named : ℕ → Bool) (ls : List ℕ) → ((l : ℕ) → count_in l ls ≤ 1) → labels_named named ls ≡ each_named named ls
once_each named [] once = refl
once_each named (l ∷ ls) once =
    let rest = once_each named ls (λ m. let o = once m in omega (arith, o)) in
    let o = once l in
    let here = ap one_if (eq-eqb l l refl) in
    let none : list_any (λ m. m == l) ls ≡ false = not_there (list_any (λ m. m == l) ls) refl (omega (arith, o, here)) in
    (λ i. cond (named l && not (none i)) 1 0 + labels_named named ls) ∙ (λ i. cond (and-true (named l) i) 1 0 + rest i)
  where
    not_there : (b : Bool) → list_any (λ m. m == l) ls ≡ b → count_in l ls ≡ 0 → b ≡ false
    not_there true e n = let h = count_there l ls e in absurd (omega (arith, h, n))
    not_there false e n = refl

    and-true : (b : Bool) → (b && true) ≡ b
    and-true true = refl
    and-true false = refl

-- the labels of the flat form, where a label and a default count as often as they stand
pub labels_stand : (body : Forest) → length (marks (measured_form body)) ≡ summed (each_label (is_named body)) (is_named body) false body + total
    (named_bit (is_named body)) body
labels_stand body =
    let p = coded constant [] (length (marks body)) body in
    let q = numbered (marks (flat p (first_here 0) Stays Stays NoArrival body)) p in
    let e = marks_counted (measured_form body) in
    let f = flat_labels q (first_here 0) Stays Stays NoArrival body in
    omega (arith, e, f)

labels_are : (n : ℕ) (body : Forest) → HasOwnLabels n body → labels_of body ≡ length (marks (measured_form body))
labels_are n body own =
    let named = is_named body in
    let once : (l : ℕ) → count_in l (marks body) ≤ 1 = λ l. let e = ap (count_in l) (marks_gathered body) in let f = counted l body in let o =
    own.once
    l in omega (arith, e, f, o) in
    let e = once_each named (marks body) once in
    let f = marks_named named body in
    let g = all_as_many named false body own.cases in
    let h = labels_stand body in
    omega (arith, e, f, g, h)

-- a resolved function is measured by all gotos and labels of its flat form
pub counted_plainly : (counts : FlatCounts) (ts : List Top) (f : Function) → IsResolvedFunction counts ts f →
    flat_counts (body_of f) ≡ cond (has_jumps (body_of f)) (Some (counts_of (measured_form (body_of f)))) None
counted_plainly counts ts f r =
    let body = body_of f in
    let gotos = sym (gotos_are [] (length (marks body)) body) in
    let labels = labels_are (length f.labels) body (function_labels counts ts f r) in
    ap bound_counts (none_stray body r.form.cases) ∙ (λ i. cond (has_jumps body) (Some (gotos i, labels i)) None)
