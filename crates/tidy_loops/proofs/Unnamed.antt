-- What does not name a slot stays as it is, at a tail or not, and holds no exit.
use mathlib.Core.Path.{ap₂}
use Rattle.std.proofs.Common.{ℕ, ◌≤◌, Bool, true, false, cond, is_some, Option, Some, None, ◌≡◌, refl, sym, ap, ◌∙◌, arith}
use Rattle.c_tree.specs.ExpressionTrees.{ExpressionTree}
use Rattle.c_tree.specs.TestTrees.{TestTree}
use Rattle.c_tree.specs.Trees.{Tree, Forest, Nil, Then, Sections, NoSection, Section, Evaluate, If, While, Do, For, Switch, Block, join}
use Rattle.c_tree.specs.Changed.{one}
use Rattle.tidy_laws.specs.Tails.{is_check, is_end}
use Rattle.tidy_laws.specs.Changes.{checks, set_value, set_or, given_way, inner, inner_item, inner_sections, tailed, tailed_item}
use Rattle.tidy_slots.specs.Counts.{expression_count, test_count, list_count, item_count, sections_count}
use Rattle.tidy_loops.specs.Exits.{then_list, inner_kept, tailed_kept}
use Rattle.tidy_loops.specs.Remaining.{exits_within, item_exits}
use Rattle.tidy_loops.specs.Rewritten.{item_rewritten, list_rewritten}
use Rattle.tidy_loops.proofs.FormLaws.{check_if}
use Rattle.tidy_loops.proofs.Made.{inner_by, tailed_by}
use Rattle.tidy_loops.proofs.ExitCounts.{check_one, set_one, checks_in_most, checks_of_most, exits_in_most, exits_of_most}

-- ---- no check and no set

no_check : (g : ℕ) (t : TestTree) (b : Forest) → test_count g t ≡ 0 → checks g t b ≡ false
no_check g t b z = by (checks g t b) refl
  where
    by : (c : Bool) → checks g t b ≡ c → c ≡ false
    by true h = let o = check_one g t b h in absurd (omega (arith, o, z))
    by false h = refl

no_check_item : (g : ℕ) (x : Tree) → item_count g x ≡ 0 → is_check g x ≡ false
no_check_item g (If t a b) z = check_if g t a b ∙ no_check g t b (omega (arith, z))
no_check_item g _ z = refl

no_set : (g : ℕ) (l : Tree) (e : ExpressionTree) → expression_count g e ≡ 0 → set_or l e (set_value g e) ≡ Evaluate e
no_set g l e z = by (set_value g e) refl
  where
    by : (v : Option ExpressionTree) → set_value g e ≡ v → set_or l e v ≡ Evaluate e
    by None h = refl
    by (Some v) h = let o = set_one g e (ap is_some h) in absurd (omega (arith, o, z))

-- ---- at no tail

one_inner : (g : ℕ) (x : Tree) → item_count g x ≡ 0 → inner_kept g x ≡ x → inner_item g x ≡ one x
one_inner g x z k = inner_by g x ∙ ap (λ c. cond c (given_way (inner g (then_list x))) (one (inner_kept g x))) (no_check_item g x z) ∙ ap one k

mutual
  pub inner_unnamed : (g : ℕ) (a : Forest) → list_count g a ≡ 0 → inner g a ≡ a
  inner_unnamed g Nil z = refl
  inner_unnamed g (Then x xs) z =
      ap₂ join (one_inner g x (omega (arith, z)) (kept_unnamed g x (omega (arith, z)))) (inner_unnamed g xs (omega (arith, z)))

  pub kept_unnamed : (g : ℕ) (x : Tree) → item_count g x ≡ 0 → inner_kept g x ≡ x
  kept_unnamed g (If t a b) z = ap₂ (If t) (inner_unnamed g a (omega (arith, z))) (inner_unnamed g b (omega (arith, z)))
  kept_unnamed g (While t a) z = ap (While t) (inner_unnamed g a (omega (arith, z)))
  kept_unnamed g (Do a t) z = ap (λ c. Do c t) (inner_unnamed g a (omega (arith, z)))
  kept_unnamed g (For f t u a) z = ap (For f t u) (inner_unnamed g a (omega (arith, z)))
  kept_unnamed g (Switch s c) z = ap (Switch s) (sections_unnamed g c (omega (arith, z)))
  kept_unnamed g (Block a) z = ap Block (inner_unnamed g a z)
  kept_unnamed g _ z = refl

  pub sections_unnamed : (g : ℕ) (c : Sections) → sections_count g c ≡ 0 → inner_sections g c ≡ c
  sections_unnamed g NoSection z = refl
  sections_unnamed g (Section cases default a ends c) z =
      ap₂ (λ b d. Section cases default b ends d) (inner_unnamed g a (omega (arith, z))) (sections_unnamed g c (omega (arith, z)))

-- ---- at a tail

one_tailed : (g : ℕ) (l x : Tree) → item_count g x ≡ 0 → tailed_kept g l x ≡ x → tailed_item g l x ≡ one x
one_tailed g l x z k = tailed_by g l x ∙ ap (λ c. cond c (given_way (tailed g l (then_list x))) (one (tailed_kept g l x))) (no_check_item g x z) ∙ ap one k

either : {A : Type 0} (b : Bool) (v w u : A) → v ≡ u → w ≡ u → cond b v w ≡ u
either true v w u h k = h
either false v w u h k = k

mutual
  pub tailed_unnamed : (g : ℕ) (l : Tree) (a : Forest) → list_count g a ≡ 0 → tailed g l a ≡ a
  tailed_unnamed g l Nil z = refl
  tailed_unnamed g l (Then x xs) z =
      let n : item_count g x ≡ 0 = omega (arith, z) in
      let k = one_tailed g l x n (tailed_kept_unnamed g l x n) in
      let i = one_inner g x n (kept_unnamed g x n) in
      ap₂ join (either (is_end g xs) (tailed_item g l x) (inner_item g x) (one x) k i) (tailed_unnamed g l xs (omega (arith, z)))

  tailed_kept_unnamed : (g : ℕ) (l x : Tree) → item_count g x ≡ 0 → tailed_kept g l x ≡ x
  tailed_kept_unnamed g l (Evaluate e) z = no_set g l e z
  tailed_kept_unnamed g l (If t a b) z = ap₂ (If t) (tailed_unnamed g l a (omega (arith, z))) (tailed_unnamed g l b (omega (arith, z)))
  tailed_kept_unnamed g l x z = kept_unnamed g x z

-- ---- either

pub item_either : (tail : Bool) (g : ℕ) (l x : Tree) → item_rewritten tail g l x ≡ cond tail (tailed_kept g l x) (inner_kept g x)
item_either true g l (Evaluate e) = refl
item_either true g l (If t a b) = refl
item_either true g l x = refl
item_either false g l (Evaluate e) = refl
item_either false g l (If t a b) = refl
item_either false g l x = refl

pub item_unnamed : (tail : Bool) (g : ℕ) (l x : Tree) → item_count g x ≡ 0 → item_rewritten tail g l x ≡ x
item_unnamed tail g l x z =
    item_either tail g l x ∙ either tail (tailed_kept g l x) (inner_kept g x) x (tailed_kept_unnamed g l x z) (kept_unnamed g x z)

pub within_most : (tail : Bool) (g : ℕ) (a : Forest) → exits_within tail g a ≤ list_count g a
within_most true g a = exits_in_most g a
within_most false g a = checks_in_most g a

pub item_most : (tail : Bool) (g : ℕ) (x : Tree) → item_exits tail g x ≤ item_count g x
item_most true g x = exits_of_most g x
item_most false g x = checks_of_most g x

pub list_unnamed : (tail : Bool) (g : ℕ) (l : Tree) (a : Forest) → list_count g a ≡ 0 → a ≡ list_rewritten tail g l a
list_unnamed true g l a z = sym (tailed_unnamed g l a z)
list_unnamed false g l a z = sym (inner_unnamed g a z)
