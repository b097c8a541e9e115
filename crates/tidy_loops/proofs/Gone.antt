-- What goes with a change: of the times that the slot is named, as many as are counted.
use Rattle.std.proofs.Common.{ℕ, ◌+◌, Bool, true, false, cond, ◌&&◌, eqb, eqb-true, is_some, Some, None, ◌≡◌, refl, sym, ◌∙◌, arith}
use Rattle.c_tree.specs.declared.tree.Home.TheVariants as H
use Rattle.c_tree.specs.ExpressionTrees.{ExpressionTree, Typed, Var, Assign}
use Rattle.c_tree.specs.TestTrees.{TestTree, Source}
use Rattle.c_tree.specs.Trees.{Tree, Forest, Nil, Then, Sections, NoSection, Section, Evaluate, If, While, Do, For, Switch, Block}
use Rattle.c_tree.specs.Changed.{one}
use Rattle.tidy_laws.specs.Tails.{is_end}
use Rattle.tidy_laws.specs.Mentions.{lacks}
use Rattle.tidy_laws.specs.Changes.{is_narrow_expression, set_value, is_number, has_local, checks, unchecked, set_or, inner, inner_item, inner_sections, tailed, tailed_item}
use Rattle.tidy_slots.specs.Counts.{one_if, expression_count, test_count, list_count, item_count, sections_count}
use Rattle.tidy_slots.proofs.CountLemmas.{count_join, expression_none}
use Rattle.tidy_loops.specs.declared.exits.Exit.{Exit}
use Rattle.tidy_loops.specs.declared.exits.Exit.TheVariants as E
use Rattle.tidy_loops.specs.Exits.{checks_in, checks_of, checks_within, exits_in, exits_of, jump_of}
use Rattle.tidy_loops.specs.ExitLaws.{ExitLaws}
use Rattle.tidy_loops.proofs.ExitCounts.{check_one}

check_else : (g : ℕ) (t : TestTree) (b : Forest) → checks g t b ≡ true → list_count g b ≡ 0
check_else g (Source e) Nil h = refl
check_else g (Source e) (Then x xs) h = cc
check_else g _ b h = cc

given_at : (g : ℕ) (a : Forest) (b : Bool) → list_count g (cond b (one (Block a)) a) ≡ list_count g a
given_at g a true = omega arith
given_at g a false = refl

if_gone : (g : ℕ) (t : TestTree) (a b v w : Forest) (m n : ℕ) (c : Bool) → checks g t b ≡ c → list_count g a ≡ list_count g v + m →
    list_count g b ≡ list_count g w + n
    → test_count g t + (list_count g a + list_count g b) ≡ list_count g (unchecked c t v w) + (one_if c + (m + n))
if_gone g t a b v w m n true h p q =
    let r = check_one g t b h in
    let s = check_else g t b h in
    let u = given_at g v (has_local v) in
    omega (arith, p, q, r, s, u)
if_gone g t a b v w m n false h p q = omega (arith, p, q)

mutual
  inner_gone : (g : ℕ) (a : Forest) → list_count g a ≡ list_count g (inner g a) + checks_in g a
  inner_gone g Nil = omega arith
  inner_gone g (Then x xs) =
      let p = inner_item_gone g x in
      let q = inner_gone g xs in
      let r = count_join g (inner_item g x) (inner g xs) in
      omega (arith, p, q, r)

  inner_item_gone : (g : ℕ) (x : Tree) → item_count g x ≡ list_count g (inner_item g x) + checks_of g x
  inner_item_gone g (If t a b) = if_gone g t a b (inner g a) (inner g b) (checks_in g a) (checks_in g b) (checks g t b) refl (inner_gone g a) (inner_gone g b)
  inner_item_gone g (While t a) = let p = inner_gone g a in omega (arith, p)
  inner_item_gone g (Do a t) = let p = inner_gone g a in omega (arith, p)
  inner_item_gone g (For f t u a) = let p = inner_gone g a in omega (arith, p)
  inner_item_gone g (Switch s c) = let p = sections_gone g c in omega (arith, p)
  inner_item_gone g (Block a) = let p = inner_gone g a in omega (arith, p)
  inner_item_gone g x = omega arith

  sections_gone : (g : ℕ) (c : Sections) → sections_count g c ≡ sections_count g (inner_sections g c) + checks_within g c
  sections_gone g NoSection = omega arith
  sections_gone g (Section cases default a ends c) =
      let p = inner_gone g a in
      let q = sections_gone g c in
      omega (arith, p, q)

-- ---- sets

leaving_at : (g : ℕ) (l : Tree) (v : ExpressionTree) (b : Bool) → item_count g l ≡ 0 → expression_count g v ≡ 0 →
    item_count g (cond b l (If (Source v) (one l) Nil)) ≡ 0
leaving_at g l v true h k = h
leaving_at g l v false h k = omega (arith, k, h)

set_at : (g : ℕ) (l : Tree) (e v : ExpressionTree) (a b : Bool) → item_count g l ≡ 0 → expression_count g e ≡ one_if a + expression_count g v
    → expression_count g e ≡ list_count g (one (set_or l e (cond (a && (b && lacks g v)) (Some v) None))) + one_if
    (is_some (cond (a && (b && lacks g v)) (Some v) None))
set_at g l e v false b h k = omega arith
set_at g l e v true false h k = omega arith
set_at g l e v true true h k = by_lack (lacks g v) refl
  where
    by_lack : (c : Bool) → lacks g v ≡ c → expression_count g e ≡ list_count g (one (set_or l e (cond (lacks g v) (Some v) None))) + one_if
        (is_some (cond (lacks g v) (Some v) None))
    by_lack true i =
        let p = eqb-true (expression_count g v) 0 (sym (expression_none g v) ∙ i) in
        let q = leaving_at g l v (is_number 1 v) h p in
        rw i (omega (arith, k, p, q))
    by_lack false i = rw i (omega arith)

set_gone : (g : ℕ) (l : Tree) → item_count g l ≡ 0 → (e : ExpressionTree) →
    expression_count g e ≡ list_count g (one (set_or l e (set_value g e))) + one_if (is_some (set_value g e))
set_gone g l h (Typed k (Assign (Var (H.Slot x)) v)) = set_at g l (Typed k (Assign (Var (H.Slot x)) v)) v (eqb x g) (is_narrow_expression v) h refl
set_gone g l h e = omega arith

chosen : (g n : ℕ) (b : Bool) (v w : Forest) (i j : ℕ) → n ≡ list_count g v + i → n ≡ list_count g w + j → n ≡ list_count g (cond b v w) + cond b i j
chosen g n true v w i j p q = p
chosen g n false v w i j p q = q

mutual
  tailed_gone : (g : ℕ) (l : Tree) → item_count g l ≡ 0 → (a : Forest) → list_count g a ≡ list_count g (tailed g l a) + exits_in g a
  tailed_gone g l h Nil = omega arith
  tailed_gone g l h (Then x xs) =
      let p = chosen g (item_count g x) (is_end g xs) (tailed_item g l x) (inner_item g x) (exits_of g x) (checks_of g x) (tailed_item_gone g l h x)
      (inner_item_gone g x) in
      let q = tailed_gone g l h xs in
      let r = count_join g (cond (is_end g xs) (tailed_item g l x) (inner_item g x)) (tailed g l xs) in
      omega (arith, p, q, r)

  tailed_item_gone : (g : ℕ) (l : Tree) → item_count g l ≡ 0 → (x : Tree) → item_count g x ≡ list_count g (tailed_item g l x) + exits_of g x
  tailed_item_gone g l h (Evaluate e) = set_gone g l h e
  tailed_item_gone g l h (If t a b) = if_gone g t a b (tailed g l a) (tailed g l b) (exits_in g a) (exits_in g b) (checks g t b) refl
      (tailed_gone g l h a) (tailed_gone g l h b)
  tailed_item_gone g l h x = inner_item_gone g x

jump_parts : (g : ℕ) (l : Exit) → item_count g (jump_of l) ≡ 0
jump_parts g E.Break = refl
jump_parts g E.Continue = refl

pub exit_laws_hold : ExitLaws
exit_laws_hold = record { gone = λ g l a. tailed_gone g (jump_of l) (jump_parts g l) a }
