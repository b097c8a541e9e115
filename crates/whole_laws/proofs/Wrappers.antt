-- The tokens of a test or selector whose wrappers don't repeat one another, as an expression.
use Rattle.std.proofs.Common.{◌≡◌, ℕ, zero, suc, ◌+◌, ◌*◌, ◌≤◌, ◌<◌, ℤ, pos, Bool, true, false, cond, ◌||◌, eqb, List, [], ◌∷◌, ◌++◌, Option, Some, None, ◌⊎◌, inl, inr, refl, sym, ap, subst, ◌∙◌, arith}
use Rattle.std.specs.Prelude.{int_le, nat_lt}
use Rattle.std.proofs.lemmas.Bool.{eq-eqb, cases_lt, or_right}
use Rattle.c_types.specs.declared.kinds.IntKind.{IntKind}
use Rattle.c_types.specs.declared.kinds.IntKind.TheVariants.{Int}
use Rattle.c_types.specs.Numbers.{least}
use Rattle.c_tree.specs.declared.tree.BinaryOp.TheVariants.{AndThen, OrElse}
use Rattle.c_tree.specs.ExpressionTrees.{ExpressionTree, Typed, Binary, Conditional}
use Rattle.c_tree.specs.Cases.{selector_source}
use Rattle.c_tree.specs.Labels.{TestLabels, SelectorLabels}
use Rattle.c_tree.specs.Numerals.{constant}
use Rattle.c_tree.specs.TestTrees.{TestTree, Source, On, Off, AndOff, OrOn, SelectorTree, Selects, Pick}
use Rattle.c_tree.proofs.KeptLemmas.{at_most_one}
use Rattle.flat_laws.specs.Pieces.{is_number}
use Rattle.guard_simplify.specs.declared.choice.Repeat.{Repeat}
use Rattle.guard_simplify.specs.Choice.{has, is_off_of, inside, repeat, repeat_pick}
use Rattle.plain_laws.specs.GuardSlots.{guard, guard_off, is_truth, truth, unequal_zero, plain_test, picked}
use Rattle.c_resolved_defs.specs.PrintableExpressions.{level_of, bracket_count, counted, counted_at}
use Rattle.c_resolved_defs.specs.Within.{TestExpression}

-- ---- expressions

pub bracket_most : (level need : ℕ) → bracket_count level need ≤ 1
bracket_most level need = at_most_one (nat_lt level need)

cond_within : (P : ExpressionTree → Type 0) (b : Bool) (x y : ExpressionTree) → P x → P y → P (cond b x y)
cond_within P true x y h k = h
cond_within P false x y h k = k

pub constant_counted : (k : IntKind) (z : ℤ) → counted (constant k z) ≤ 2
constant_counted k z =
    cond_within (λ e. counted e ≤ 2) (int_le (pos 0) z) _ _ (omega arith)
    (cond_within (λ e. counted e ≤ 2) (int_le z (least k)) _ _ (omega arith) (omega arith))

pub and_counted : (x : ℕ) (e : ExpressionTree) → counted_at 2 (Typed (Some Int) (Binary AndThen (guard_off x) e)) ≤ counted_at 2 e + 3
and_counted x e = let b = bracket_most (level_of e) 6 in omega (arith, b)

pub or_counted : (x : ℕ) (e : ExpressionTree) → counted_at 2 (Typed (Some Int) (Binary OrElse (guard x) e)) ≤ counted_at 2 e + 2
or_counted x e = let b = bracket_most (level_of e) 5 in omega (arith, b)

pub pick_counted : (x : ℕ) (k : IntKind) (z : ℤ) (e : ExpressionTree) →
    counted_at 2 (Typed (Some k) (Conditional (guard x) (constant k z) e)) ≤ counted_at 2 e + 4
pick_counted x k z e = let b = bracket_most (level_of e) 3 in let c = constant_counted k z in omega (arith, b, c)

pub truth_counted : (e : ExpressionTree) → counted_at 2 (truth e) ≤ counted_at 2 e + 2
truth_counted e = let b = bracket_most (level_of e) 9 in cond_within (λ x. counted_at 2 x ≤ counted_at 2 e + 2) (is_truth e) e (unequal_zero e)
    (omega arith) (omega (arith, b))

pub case_counted : (k : IntKind) (v : ℕ) (z : ℤ) → counted_at 2 (is_number k v (constant k z)) ≤ 4
case_counted k v z = let b = bracket_most (level_of (constant k z)) 10 in let c = constant_counted k z in omega (arith, b, c)

-- ---- labels that don't stand in a list

abbrev new_one : List ℕ → ℕ → ℕ
new_one ls k = cond (has k ls) 0 1

-- how many labels below n don't
abbrev pub unseen : List ℕ → ℕ → ℕ
unseen ls zero = 0
unseen ls (suc k) = unseen ls k + new_one ls k

pub unseen_none : (n : ℕ) → unseen [] n ≡ n
unseen_none zero = refl
unseen_none (suc k) = let h = unseen_none k in omega (arith, h)

or_left : (a b c : Bool) → (a || (b || c)) ≡ ((a || b) || c)
or_left true b c = refl
or_left false b c = refl

or_none : (a b : Bool) → (a || false) ≡ a
or_none true b = refl
or_none false b = refl

has_end : (k l : ℕ) (ls : List ℕ) → has k (ls ++ l ∷ []) ≡ (has k ls || eqb l k)
has_end k l [] = or_none (eqb l k) true
has_end k l (m ∷ ls) = ap (λ b. eqb m k || b) (has_end k l ls) ∙ or_left (eqb m k) (has k ls) (eqb l k)

or_fewer : (a b : Bool) → cond (a || b) 0 1 ≤ cond a 0 1
or_fewer true b = omega arith
or_fewer false true = omega arith
or_fewer false false = omega arith

new_fewer : (ls : List ℕ) (l k : ℕ) → new_one (ls ++ l ∷ []) k ≤ new_one ls k
new_fewer ls l k = subst (λ b. cond b 0 1 ≤ new_one ls k) (sym (has_end k l ls)) (or_fewer (has k ls) (eqb l k))

unseen_fewer : (ls : List ℕ) (l n : ℕ) → unseen (ls ++ l ∷ []) n ≤ unseen ls n
unseen_fewer ls l zero = omega arith
unseen_fewer ls l (suc k) = let h = unseen_fewer ls l k in let i = new_fewer ls l k in omega (arith, h, i)

its_own : (ls : List ℕ) (l : ℕ) → has l ls ≡ false → new_one (ls ++ l ∷ []) l + 1 ≤ new_one ls l
its_own ls l e =
    let h : new_one (ls ++ l ∷ []) l ≡ 0 = ap (λ b. cond b 0 1) (has_end l l ls ∙ or_right (has l ls) (eqb l l) (eq-eqb l l refl)) in
    let i : new_one ls l ≡ 1 = ap (λ b. cond b 0 1) e in
    omega (arith, h, i)

-- one fewer after a new one
pub unseen_less : (ls : List ℕ) (l n : ℕ) → has l ls ≡ false → l < n → unseen (ls ++ l ∷ []) n + 1 ≤ unseen ls n
unseen_less ls l zero e h = absurd (omega (arith, h))
unseen_less ls l (suc k) e h = by_case (λ i. unseen_less ls l k e i) (cases_lt l k)
  where
    by_case : (l < k → unseen (ls ++ l ∷ []) k + 1 ≤ unseen ls k) → (l < k) ⊎ (k ≤ l) → unseen (ls ++ l ∷ []) (suc k) + 1 ≤ unseen ls (suc k)
    by_case below (inl i) = let a = below i in let b = new_fewer ls l k in omega (arith, a, b)
    by_case below (inr i) =
        let a = unseen_fewer ls l k in
        let same : l ≡ k = omega (arith, h, i) in
        let b : new_one (ls ++ l ∷ []) k + 1 ≤ new_one ls k = subst (λ j. new_one (ls ++ l ∷ []) j + 1 ≤ new_one ls j) same (its_own ls l e) in
        omega (arith, a, b)

-- ---- wrappers that repeat no other

no_repeat : (b : Bool) (r : Repeat) (o : Option Repeat) → cond b (Some r) (inside o) ≡ None → (b ≡ false) × (o ≡ None)
no_repeat true r o e = cc
no_repeat false r None e = (refl, refl)
no_repeat false r (Some x) e = cc

or_false : (a b : Bool) → (a || b) ≡ false → a ≡ false
or_false true b e = e
or_false false b e = refl

module _ (slot : ℕ → ℕ) (M n : ℕ) (some : 1 ≤ M) where
  -- each label stands in one `AndOff` and one `OrOn` at most
  test_counted : (ands ors : List ℕ) (t : TestTree) → repeat ands ors t ≡ None → TestLabels (λ l. l < n) t → TestExpression (λ e. counted_at 2 e ≤ M) t
      → counted_at 2 (plain_test slot t) ≤ M + (3 * unseen ands n + 2 * unseen ors n)
  test_counted ands ors (Source e) r l h = omega (arith, h)
  test_counted ands ors (On m) r l h = omega (arith, some)
  test_counted ands ors (Off m) r l h = omega (arith, some)
  test_counted ands ors (AndOff m t) r l h =
      let p = no_repeat (has m ands || is_off_of m t) (record { at = 0; label = m }) (repeat (ands ++ m ∷ []) ors t) r in
      let u = unseen_less ands m n (or_false (has m ands) (is_off_of m t) p.0) l.0 in
      let i = test_counted (ands ++ m ∷ []) ors t p.1 l.1 h in
      let c = and_counted (slot m) (plain_test slot t) in
      omega (arith, u, i, c)
  test_counted ands ors (OrOn m t) r l h =
      let p = no_repeat (has m ors) (record { at = 0; label = m }) (repeat ands (ors ++ m ∷ []) t) r in
      let u = unseen_less ors m n p.0 l.0 in
      let i = test_counted ands (ors ++ m ∷ []) t p.1 l.1 h in
      let c = or_counted (slot m) (plain_test slot t) in
      omega (arith, u, i, c)

  -- and in one Pick
  selector_counted : (k : IntKind) (picks : List ℕ) (s : SelectorTree) → repeat_pick picks s ≡ None → SelectorLabels (λ l. l < n) s →
      counted_at 2 (selector_source s) ≤ M
      → counted_at 2 (picked slot k s) ≤ M + 4 * unseen picks n
  selector_counted k picks (Selects e) r l h = omega (arith, h)
  selector_counted k picks (Pick m z s) r l h =
      let p = no_repeat (has m picks) (record { at = 0; label = m }) (repeat_pick (picks ++ m ∷ []) s) r in
      let u = unseen_less picks m n p.0 l.0 in
      let i = selector_counted k (picks ++ m ∷ []) s p.1 l.1 h in
      let c = pick_counted (slot m) k z (picked slot k s) in
      omega (arith, u, i, c)

  pub simple_test : (t : TestTree) → repeat [] [] t ≡ None → TestLabels (λ l. l < n) t → TestExpression (λ e. counted_at 2 e ≤ M) t →
      counted_at 2 (plain_test slot t) ≤ M + 5 * n
  simple_test t r l h = let i = test_counted [] [] t r l h in let u = unseen_none n in omega (arith, i, u)

  pub simple_selector : (k : IntKind) (s : SelectorTree) → repeat_pick [] s ≡ None → SelectorLabels (λ l. l < n) s →
      counted_at 2 (selector_source s) ≤ M → counted_at 2 (picked slot k s) ≤ M + 4 * n
  simple_selector k s r l h = let i = selector_counted k [] s r l h in let u = unseen_none n in omega (arith, i, u)
