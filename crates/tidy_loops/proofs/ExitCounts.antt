-- A list holds no more exits than mentions of the slot, and where it has none of these it stays as it is.
use Rattle.std.proofs.Common.{ℕ, suc, ◌+◌, ◌≤◌, Bool, true, false, cond, ◌&&◌, eqb, eqb-true, is_some, Option, Some, None, ◌≡◌, refl, sym, ap, ◌∙◌, arith}
use Rattle.c_tree.specs.declared.tree.UnaryOp.TheVariants.{Not}
use Rattle.c_tree.specs.declared.tree.Home.TheVariants as H
use Rattle.c_tree.specs.ExpressionTrees.{ExpressionTree, Typed, Var, Read, Unary, Assign}
use Rattle.c_tree.specs.TestTrees.{TestTree, Source}
use Rattle.c_tree.specs.Trees.{Tree, Forest, Nil, Then, Sections, NoSection, Section, Evaluate, If, While, Do, For, Switch, Block}
use Rattle.tidy_laws.specs.Tails.{reads, is_off, is_end}
use Rattle.tidy_laws.specs.Mentions.{lacks}
use Rattle.tidy_laws.specs.Changes.{checks, set_value, is_narrow_expression, low_set, are_low, is_low}
use Rattle.tidy_slots.specs.Counts.{one_if, expression_count, test_count, list_count, item_count, sections_count}
use Rattle.tidy_slots.proofs.CountLemmas.{expression_none}
use Rattle.tidy_loops.specs.Exits.{checks_in, checks_of, checks_within, exits_in, exits_of}

-- ---- one exit is one mention

reads_one : (g : ℕ) (e : ExpressionTree) → reads g e ≡ true → expression_count g e ≡ 1
reads_one g (Typed k (Read (Var (H.Slot x)))) h = ap one_if h
reads_one g _ h = cc

pub off_one : (g : ℕ) (e : ExpressionTree) → is_off g e ≡ true → expression_count g e ≡ 1
off_one g (Typed k (Unary Not e)) h = reads_one g e h
off_one g _ h = cc

pub check_one : (g : ℕ) (t : TestTree) (b : Forest) → checks g t b ≡ true → test_count g t ≡ 1
check_one g (Source e) Nil h = off_one g e h
check_one g (Source e) (Then x xs) h = cc
check_one g _ b h = cc

pub set_one : (g : ℕ) (e : ExpressionTree) → is_some (set_value g e) ≡ true → expression_count g e ≡ 1
set_one g (Typed k (Assign (Var (H.Slot x)) e)) h = by (eqb x g) (is_narrow_expression e) (lacks g e) h (expression_none g e)
  where
    by : (a b c : Bool) → is_some (cond (a && (b && c)) (Some e) None) ≡ true → c ≡ eqb (expression_count g e) 0 → one_if a + expression_count g e ≡ 1
    by true true true h i = let z = eqb-true (expression_count g e) 0 (sym i) in omega (arith, z)
    by true true false h i = cc
    by true false c h i = cc
    by false b c h i = cc
set_one g _ h = cc

pub set_when : (g : ℕ) (e : ExpressionTree) (t : Bool) → (t && is_some (set_value g e)) ≡ true → expression_count g e ≡ 1
set_when g e true h = set_one g e h
set_when g e false h = cc

pub check_most : (g : ℕ) (t : TestTree) (b : Forest) → one_if (checks g t b) ≤ test_count g t
check_most g t b = by (checks g t b) refl
  where
    by : (c : Bool) → checks g t b ≡ c → one_if c ≤ test_count g t
    by true h = let o = check_one g t b h in omega (arith, o)
    by false h = omega arith

pub set_most : (g : ℕ) (e : ExpressionTree) → one_if (is_some (set_value g e)) ≤ expression_count g e
set_most g e = by (is_some (set_value g e)) refl
  where
    by : (c : Bool) → is_some (set_value g e) ≡ c → one_if c ≤ expression_count g e
    by true h = let o = set_one g e h in omega (arith, o)
    by false h = omega arith

-- ---- no more exits than mentions

mutual
  pub checks_in_most : (g : ℕ) (a : Forest) → checks_in g a ≤ list_count g a
  checks_in_most g Nil = omega arith
  checks_in_most g (Then x xs) = let p = checks_of_most g x in let q = checks_in_most g xs in omega (arith, p, q)

  pub checks_of_most : (g : ℕ) (x : Tree) → checks_of g x ≤ item_count g x
  checks_of_most g (If t a b) =
      let p = check_most g t b in
      let q = checks_in_most g a in
      let r = checks_in_most g b in
      omega (arith, p, q, r)
  checks_of_most g (While t a) = let q = checks_in_most g a in omega (arith, q)
  checks_of_most g (Do a t) = let q = checks_in_most g a in omega (arith, q)
  checks_of_most g (For f t u a) = let q = checks_in_most g a in omega (arith, q)
  checks_of_most g (Switch s c) = let q = checks_within_most g c in omega (arith, q)
  checks_of_most g (Block a) = checks_in_most g a
  checks_of_most g _ = omega arith

  pub checks_within_most : (g : ℕ) (c : Sections) → checks_within g c ≤ sections_count g c
  checks_within_most g NoSection = omega arith
  checks_within_most g (Section cases default a ends c) = let p = checks_in_most g a in let q = checks_within_most g c in omega (arith, p, q)

mutual
  pub exits_in_most : (g : ℕ) (a : Forest) → exits_in g a ≤ list_count g a
  exits_in_most g Nil = omega arith
  exits_in_most g (Then x xs) = by (is_end g xs) (exits_of_most g x) (checks_of_most g x) (exits_in_most g xs)
    where
      by : (b : Bool) → exits_of g x ≤ item_count g x → checks_of g x ≤ item_count g x → exits_in g xs ≤ list_count g xs →
          cond b (exits_of g x) (checks_of g x) + exits_in g xs ≤ item_count g x + list_count g xs
      by true p q r = omega (arith, p, r)
      by false p q r = omega (arith, q, r)

  pub exits_of_most : (g : ℕ) (x : Tree) → exits_of g x ≤ item_count g x
  exits_of_most g (Evaluate e) = set_most g e
  exits_of_most g (If t a b) =
      let p = check_most g t b in
      let q = exits_in_most g a in
      let r = exits_in_most g b in
      omega (arith, p, q, r)
  exits_of_most g (While t a) = let q = checks_in_most g a in omega (arith, q)
  exits_of_most g (Do a t) = let q = checks_in_most g a in omega (arith, q)
  exits_of_most g (For f t u a) = let q = checks_in_most g a in omega (arith, q)
  exits_of_most g (Switch s c) = let q = checks_within_most g c in omega (arith, q)
  exits_of_most g (Block a) = checks_in_most g a
  exits_of_most g _ = omega arith

-- ---- a list without mentions

no_set : (g n : ℕ) (e : ExpressionTree) → expression_count g e ≡ 0 → low_set n (set_value g e) ≡ true
no_set g n e z = by (set_value g e) refl
  where
    by : (v : Option ExpressionTree) → set_value g e ≡ v → low_set n v ≡ true
    by None h = refl
    by (Some v) h = let o = set_one g e (ap is_some h) in absurd (omega (arith, o, z))

both_low : (a b : Bool) → a ≡ true → b ≡ true → (a && b) ≡ true
both_low a b h i = ap (λ z. z && b) h ∙ i

mutual
  pub none_low : (g n : ℕ) (a : Forest) → list_count g a ≡ 0 → are_low g n a ≡ true
  none_low g n Nil z = refl
  none_low g n (Then x xs) z = both_low (is_low g n x) (are_low g n xs) (none_low_item g n x (omega (arith, z))) (none_low g n xs (omega (arith, z)))

  none_low_item : (g n : ℕ) (x : Tree) → item_count g x ≡ 0 → is_low g n x ≡ true
  none_low_item g n (Evaluate e) z = no_set g n e z
  none_low_item g n (If t a b) z = both_low (are_low g (suc n) a) (are_low g (suc n) b) (none_low g (suc n) a (omega (arith, z)))
      (none_low g (suc n) b (omega (arith, z)))
  none_low_item g n _ z = refl
