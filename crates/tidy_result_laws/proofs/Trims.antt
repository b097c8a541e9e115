-- What a change makes of a body, as a relation: checks give way to their lists, sets become jumps, tests lose their first
-- half, and resets go.
use Rattle.std.proofs.Common.{ℕ, suc, ◌≤◌, Bool, true, false, cond, ◌&&◌, eqb, eqb-true, nat_le, ◌||◌, List, Option, Some, None, ◌≡◌, refl, sym, ap, ◌∙◌, subst, arith}
use Rattle.std.proofs.lemmas.Bool.Decides.{nat_tests}
use Rattle.std.proofs.lemmas.Bool.{and_parts}
use Rattle.c_types.specs.declared.kinds.IntKind.{IntKind}
use Rattle.c_tree.specs.declared.tree.Home.TheVariants as H
use Rattle.c_tree.specs.declared.tree.BinaryOp.TheVariants.{AndThen}
use Rattle.c_tree.specs.ExpressionTrees.{ExpressionTree, Typed, Var, Binary, Assign}
use Rattle.c_tree.specs.TestTrees.{TestTree, Source, SelectorTree}
use Rattle.c_tree.specs.Trees.{Tree, Forest, Nil, Then, Sections, NoSection, Section, Evaluate, Return, If, While, Do, For, Switch, Block, Local, Break, Continue, Goto, Mark, Arm, Leap, Land, Arrival, Note, join}
use Rattle.c_tree.specs.Changed.{one}
use Rattle.c_tree.proofs.MoveLemmas.{some_same}
use Rattle.tidy_laws.specs.Tails.{is_off, is_end, reset}
use Rattle.tidy_laws.specs.Mentions.{lacks}
use Rattle.tidy_laws.specs.Changes.{is_narrow_expression, set_value, is_number, leaving, has_local, unchecked, set_or, inner, inner_item, inner_sections, tailed, tailed_item, low_set, are_low, is_low}
use Rattle.tidy_laws.specs.Settles.{jump_by}
use Rattle.tidy_laws.proofs.ChangedLists.{none_some}

module _ (g : ℕ) where
  -- a set of the slot
  abbrev pub setting : Option IntKind → ExpressionTree → Tree
  setting k e = Evaluate (Typed k (Assign (Var (H.Slot g)) e))

  -- a test, or what is left of `!g && t`
  pub data NewTest : TestTree → TestTree → Type 0 where
    same_test : (t : TestTree) → NewTest t t
    second_half : (k : Option IntKind) (e t : ExpressionTree) → NewTest (Source (Typed k (Binary AndThen e t))) (Source t)

  mutual
    -- a list at this level; a jump may leave it where the first is true
    pub data Trim : Bool → ℕ → Forest → Forest → Type 0 where
      t_nil : {b : Bool} {n : ℕ} → Trim b n Nil Nil
      t_then : {b : Bool} {n : ℕ} {x y : Tree} {xs ys : Forest} → TrimItem b n x y → Trim b n xs ys → Trim b n (Then x xs) (Then y ys)
      -- a check gives way to its list
      t_given : {b : Bool} {n : ℕ} (e : ExpressionTree) {a c xs ys : Forest} → Trim b (suc n) a c → has_local c ≡ false → Trim b n xs ys →
          Trim b n (Then (If (Source e) a Nil) xs) (join c ys)
      -- a set becomes a jump, or an `if` with it
      t_left : {b : Bool} {n : ℕ} (leave : Bool) (k : Option IntKind) (e : ExpressionTree) {xs ys : Forest} → b ≡ true → Trim b n xs ys →
          Trim b n (Then (setting k e) xs) (Then (jump_by leave) ys)
      t_left_if : {b : Bool} {n : ℕ} (leave : Bool) (k : Option IntKind) (e : ExpressionTree) {xs ys : Forest} → b ≡ true → n ≤ 399 → Trim b n xs ys
          → Trim b n (Then (setting k e) xs) (Then (If (Source e) (one (jump_by leave)) Nil) ys)
      -- `g = 0;` goes
      t_reset : {b : Bool} {n : ℕ} {xs ys : Forest} → Trim b n xs ys → Trim b n (Then (reset g) xs) ys

    -- an item of such a list
    pub data TrimItem : Bool → ℕ → Tree → Tree → Type 0 where
      i_same : {b : Bool} {n : ℕ} (x : Tree) → TrimItem b n x x
      i_if : {b : Bool} {n : ℕ} (t : TestTree) {a c d e : Forest} → Trim b (suc n) a c → Trim b (suc n) d e → TrimItem b n (If t a d) (If t c e)
      i_while : {b : Bool} {n : ℕ} {t s : TestTree} {a c : Forest} → NewTest t s → Trim true (suc n) a c → TrimItem b n (While t a) (While s c)
      i_do : {b : Bool} {n : ℕ} {t s : TestTree} {a c : Forest} → NewTest t s → Trim true (suc n) a c → TrimItem b n (Do a t) (Do c s)
      i_for : {b : Bool} {n : ℕ} (f : Forest) (t u : Option ExpressionTree) {a c : Forest} → Trim true (suc n) a c → TrimItem b n (For f t u a) (For f t u c)
      i_switch : {b : Bool} {n : ℕ} (s : SelectorTree) {c d : Sections} → TrimSections (suc n) c d → TrimItem b n (Switch s c) (Switch s d)
      i_block : {b : Bool} {n : ℕ} {a c : Forest} → Trim b (suc n) a c → TrimItem b n (Block a) (Block c)
      -- a check whose list becomes a Block
      i_checked : {b : Bool} {n : ℕ} (e : ExpressionTree) {a c : Forest} → Trim b (suc n) a c → TrimItem b n (If (Source e) a Nil) (Block c)

    -- sections, whose lists stand at this level
    pub data TrimSections : ℕ → Sections → Sections → Type 0 where
      s_none : {n : ℕ} → TrimSections n NoSection NoSection
      s_more : {n : ℕ} (cases : List ExpressionTree) (default ends : Bool) {a b : Forest} {c d : Sections} → Trim false n a b → TrimSections n c d →
          TrimSections n (Section cases default a ends c) (Section cases default b ends d)

  -- ---- what stays

  pub trim_same : {b : Bool} {n : ℕ} (a : Forest) → Trim b n a a
  trim_same Nil = t_nil
  trim_same (Then x xs) = t_then (i_same x) (trim_same xs)

  pub sections_same : {n : ℕ} (c : Sections) → TrimSections n c c
  sections_same NoSection = s_none
  sections_same (Section cases default a ends c) = s_more cases default ends (trim_same a) (sections_same c)

  -- ---- checks

  check_trim : {b : Bool} {n : ℕ} (e : ExpressionTree) {a c xs ys : Forest} → Trim b (suc n) a c → (y : Bool) → Trim b n xs ys →
      Trim b n (Then (If (Source e) a Nil) xs) (join (unchecked y (Source e) c Nil) ys)
  check_trim {b} {n} e {a} {c} {xs} {ys} k true h = at (has_local c) refl
    where
      at : (z : Bool) → has_local c ≡ z → Trim b n (Then (If (Source e) a Nil) xs) (join (cond z (one (Block c)) c) ys)
      at true q = t_then (i_checked e k) h
      at false q = t_given e k q h
  check_trim e k false h = t_then (i_if (Source e) k t_nil) h

  mutual
    pub inner_trim : {b : Bool} {n : ℕ} (a : Forest) → Trim b n a (inner g a)
    inner_trim Nil = t_nil
    inner_trim (Then x xs) = inner_then x (inner_trim xs)

    inner_then : {b : Bool} {n : ℕ} (x : Tree) {xs ys : Forest} → Trim b n xs ys → Trim b n (Then x xs) (join (inner_item g x) ys)
    inner_then (If (Source e) a Nil) h = check_trim e (inner_trim a) (is_off g e) h
    inner_then (If t a d) h = t_then (i_if t (inner_trim a) (inner_trim d)) h
    inner_then (While t a) h = t_then (i_while (same_test t) (inner_trim a)) h
    inner_then (Do a t) h = t_then (i_do (same_test t) (inner_trim a)) h
    inner_then (For f t u a) h = t_then (i_for f t u (inner_trim a)) h
    inner_then (Switch s c) h = t_then (i_switch s (inner_parts c)) h
    inner_then (Block a) h = t_then (i_block (inner_trim a)) h
    inner_then (Evaluate e) h = t_then (i_same (Evaluate e)) h
    inner_then (Return e) h = t_then (i_same (Return e)) h
    inner_then (Local x es) h = t_then (i_same (Local x es)) h
    inner_then Break h = t_then (i_same Break) h
    inner_then Continue h = t_then (i_same Continue) h
    inner_then (Goto l) h = t_then (i_same (Goto l)) h
    inner_then (Mark l) h = t_then (i_same (Mark l)) h
    inner_then (Arm l e) h = t_then (i_same (Arm l e)) h
    inner_then (Leap l) h = t_then (i_same (Leap l)) h
    inner_then (Land l) h = t_then (i_same (Land l)) h
    inner_then (Arrival e) h = t_then (i_same (Arrival e)) h
    inner_then (Note bs) h = t_then (i_same (Note bs)) h

    inner_parts : {n : ℕ} (c : Sections) → TrimSections n c (inner_sections g c)
    inner_parts NoSection = s_none
    inner_parts (Section cases default a ends c) = s_more cases default ends (inner_trim a) (inner_parts c)

  -- ---- sets

  -- an expression that sets the slot to v
  record Sets (e v : ExpressionTree) : Type 0 where
    kind : Option IntKind
    is : e ≡ Typed kind (Assign (Var (H.Slot g)) v)

  set_is : (e v : ExpressionTree) → set_value g e ≡ Some v → Sets e v
  set_is (Typed k (Assign (Var (H.Slot x)) w)) v h = at (eqb x g && (is_narrow_expression w && lacks g w)) refl h
    where
      at : (y : Bool) → (eqb x g && (is_narrow_expression w && lacks g w)) ≡ y → cond y (Some w) None ≡ Some v → Sets (Typed k (Assign (Var (H.Slot x)) w)) v
      at true q i = record {
        kind = k;
        is = ap (λ z. Typed k (Assign (Var (H.Slot z)) w))
            (eqb-true x g (and_parts (eqb x g) (is_narrow_expression w && lacks g w) q).0) ∙ ap (λ z. Typed k (Assign (Var (H.Slot g)) z)) (some_same i);
      }
      at false q i = absurd (none_some i)
  set_is e v h = absurd (none_some h)

  low_or : (b : Bool) (n : ℕ) → b ≡ false → (b || nat_le n 399) ≡ true → n ≤ 399
  low_or true n e h = cc
  low_or false n e h = grind (arith, nat_tests)

  set_trim : {n : ℕ} (leave : Bool) (e : ExpressionTree) {xs ys : Forest} → (o : Option ExpressionTree) → set_value g e ≡ o → low_set n o ≡ true →
      Trim true n xs ys → Trim true n (Then (Evaluate e) xs) (Then (set_or (jump_by leave) e o) ys)
  set_trim leave e None q l h = t_then (i_same (Evaluate e)) h
  set_trim {n} leave e {xs} {ys} (Some v) q l h = let s = set_is e v q in
      subst (λ z. Trim true n (Then (Evaluate z) xs) (Then (leaving (jump_by leave) v) ys)) (sym s.is) (at s.kind (is_number 1 v) refl)
    where
      at : (k : Option IntKind) (y : Bool) → is_number 1 v ≡ y → Trim true n (Then (setting k v) xs)
          (Then (cond y (jump_by leave) (If (Source v) (one (jump_by leave)) Nil)) ys)
      at k true i = t_left leave k v refl h
      at k false i = t_left_if leave k v refl (low_or (is_number 1 v) n i l) h

  mutual
    pub tail_trim : {n : ℕ} (leave : Bool) (a : Forest) → are_low g n a ≡ true → Trim true n a (tailed g (jump_by leave) a)
    tail_trim leave Nil l = t_nil
    tail_trim {n} leave (Then x xs) l = let i = and_parts (is_low g n x) (are_low g n xs) l in tail_then leave (is_end g xs) x i.0 (tail_trim leave xs i.1)

    tail_then : {n : ℕ} (leave y : Bool) (x : Tree) {xs ys : Forest} → is_low g n x ≡ true → Trim true n xs ys →
        Trim true n (Then x xs) (join (cond y (tailed_item g (jump_by leave) x) (inner_item g x)) ys)
    tail_then leave false x l h = inner_then x h
    tail_then leave true (Evaluate e) l h = set_trim leave e (set_value g e) refl l h
    tail_then {n} leave true (If (Source e) a Nil) l h = check_trim e (tail_trim leave a (and_parts (are_low g (suc n) a) true l).0) (is_off g e) h
    tail_then {n} leave true (If t a d) l h = let i = and_parts (are_low g (suc n) a) (are_low g (suc n) d) l in
        t_then (i_if t (tail_trim leave a i.0) (tail_trim leave d i.1)) h
    tail_then leave true x l h = inner_then x h

  -- ---- `g = 0;` at the end of a list

  pub reset_behind : {b : Bool} {n : ℕ} {a c : Forest} → Trim b n a c → Trim b n (join a (one (reset g))) c
  reset_behind t_nil = t_reset t_nil
  reset_behind (t_then i h) = t_then i (reset_behind h)
  reset_behind (t_given e k q h) = t_given e k q (reset_behind h)
  reset_behind (t_left leave k e q h) = t_left leave k e q (reset_behind h)
  reset_behind (t_left_if leave k e q l h) = t_left_if leave k e q l (reset_behind h)
  reset_behind (t_reset h) = t_reset (reset_behind h)
