-- A body in which no case label is stray.
use Rattle.std.proofs.Common.{◌≡◌, ℕ, true, false, not, List, [], ◌∷◌, ◌++◌, Option, refl, sym, ap, ◌∙◌}
use Rattle.std.specs.Prelude.{IfOk, Result, Ok, Err}
use Rattle.std.proofs.lemmas.Bool.{not-false}
use Rattle.c_tree.specs.ExpressionTrees.{ExpressionTree}
use Rattle.c_tree.specs.TextItems.{is_empty}
use Rattle.c_tree.specs.Trees.{Tree, Forest, Nil, Then, If, While, Do, For, Block, Arrival, join}
use Rattle.flat_laws.specs.Parts.{arrivals, arrivals_in}
use Rattle.c_resolved_laws.specs.Counts.{without_strays, without_stray, bound_counts, flat_counts}

empty_left : (xs ys : List (Option ExpressionTree)) → is_empty (xs ++ ys) ≡ true → is_empty xs ≡ true
empty_left [] ys h = refl
empty_left (x ∷ xs) ys h = h

empty_right : (xs ys : List (Option ExpressionTree)) → is_empty (xs ++ ys) ≡ true → is_empty ys ≡ true
empty_right [] ys h = h
empty_right (x ∷ xs) ys h = cc

mutual
  none_stray : (a : Forest) → is_empty (arrivals a) ≡ true → without_strays a ≡ a
  none_stray Nil h = refl
  none_stray (Then x a) h = none_behind x (without_strays a) (empty_left (arrivals_in x) (arrivals a) h) ∙
      ap (Then x) (none_stray a (empty_right (arrivals_in x) (arrivals a) h))

  none_behind : (x : Tree) (b : Forest) → is_empty (arrivals_in x) ≡ true → join (without_stray x) b ≡ Then x b
  none_behind (If t c d) b h = let k = none_stray c (empty_left (arrivals c) (arrivals d) h) in let l =
      none_stray d
      (empty_right (arrivals c) (arrivals d) h) in λ i. Then (If t (k i) (l i)) b
  none_behind (While t c) b h = λ i. Then (While t (none_stray c h i)) b
  none_behind (Do c t) b h = λ i. Then (Do (none_stray c h i) t) b
  none_behind (For first t u c) b h = λ i. Then (For first t u (none_stray c h i)) b
  none_behind (Block c) b h = λ i. Then (Block (none_stray c h i)) b
  none_behind (Arrival e) b h = cc
  none_behind x b h = refl

pub none_stray_counts : (a : Forest) → not (is_empty (arrivals a)) ≡ false → bound_counts a ≡ flat_counts a
none_stray_counts a h = ap bound_counts (sym (none_stray a (not-false (is_empty (arrivals a)) h)))

pub none_stray_answer : {E : Type 0} (r : Result (Option (ℕ × ℕ)) E) (a : Forest) → not (is_empty (arrivals a)) ≡ false →
    IfOk r (λ it. it ≡ bound_counts a) → IfOk r (λ it. it ≡ flat_counts a)
none_stray_answer (Ok x) a h p = p ∙ none_stray_counts a h
none_stray_answer (Err e) a h p = tt
