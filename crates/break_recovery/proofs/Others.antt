-- A change of one slot leaves each other slot as often as it was.
use Rattle.std.proofs.Common.{ℕ, suc, ◌+◌, Bool, true, false, cond, ◌&&◌, ◌||◌, eqb, eqb-true, ◌++◌, Option, Some, None, option_map, ◌≡◌, refl, sym, ap, ◌∙◌, arith}
use Rattle.std.specs.Prelude.{pos}
use Rattle.c_types.specs.declared.kinds.IntKind.TheVariants.{Int}
use Rattle.c_tree.specs.declared.tree.UnaryOp.TheVariants.{Not}
use Rattle.c_tree.specs.declared.tree.BinaryOp.TheVariants.{AndThen}
use Rattle.c_tree.specs.declared.tree.Home.TheVariants as H
use Rattle.c_tree.specs.ExpressionTrees.{ExpressionTree, Typed, Var, Number, Read, Unary, Binary, Assign}
use Rattle.c_tree.specs.TestTrees.{TestTree, Source}
use Rattle.c_tree.specs.Trees.{Tree, Forest, Nil, Then, Sections, NoSection, Section, Evaluate, If, While, Do, For, Switch, Block, Local, Break, Continue}
use Rattle.c_tree.specs.Changed.{one}
use Rattle.tidy_laws.specs.Tails.{reads, is_off, is_end}
use Rattle.tidy_laws.specs.Mentions.{lacks}
use Rattle.tidy_laws.specs.Changes.{is_narrow_expression, set_value, is_number, is_reset, has_local, checks, unchecked, set_or, inner, inner_item, inner_sections, tailed, tailed_item, are_low, second_test, before_reset, with_breaks, broken_loop, after_reset, both_there, with_continues, continued_loop, changed_for, around, changed_lists, changed_items, changed_sections, is_zero_value, is_declaration, undeclared, declares}
use Rattle.tidy_slots.specs.Counts.{one_if, expression_count, test_count, list_count, item_count, sections_count}
use Rattle.tidy_slots.proofs.CountLemmas.{count_join}
use Rattle.break_recovery.proofs.BodyLaws.{Each, each_append, each_around, for_each, each_weaker, both_so, zero_values}

module _ (g h : ℕ) (other : eqb g h ≡ false) where
  not_it : (x : ℕ) → eqb x g ≡ true → one_if (eqb x h) ≡ 0
  not_it x e = ap one_if (ap (λ z. eqb z h) (eqb-true x g e) ∙ other)

  reads_other : (e : ExpressionTree) → reads g e ≡ true → expression_count h e ≡ 0
  reads_other (Typed k (Read (Var (H.Slot x)))) e = not_it x e
  reads_other _ e = cc

  off_other : (e : ExpressionTree) → is_off g e ≡ true → expression_count h e ≡ 0
  off_other (Typed k (Unary Not e)) i = reads_other e i
  off_other _ i = cc

  check_other : (t : TestTree) (b : Forest) → checks g t b ≡ true → test_count h t + list_count h b ≡ 0
  check_other (Source e) Nil i = let k = off_other e i in omega (arith, k)
  check_other (Source e) (Then x xs) i = cc
  check_other _ b i = cc

  given_at : (a : Forest) (b : Bool) → list_count h (cond b (one (Block a)) a) ≡ list_count h a
  given_at a true = omega arith
  given_at a false = refl

  if_other : (t : TestTree) (a b v w : Forest) (c : Bool) → checks g t b ≡ c → list_count h v ≡ list_count h a → list_count h w ≡ list_count h b
      → list_count h (unchecked c t v w) ≡ test_count h t + (list_count h a + list_count h b)
  if_other t a b v w true i p q =
      let r = check_other t b i in
      let u = given_at v (has_local v) in
      omega (arith, p, q, r, u)
  if_other t a b v w false i p q = omega (arith, p, q)

  mutual
    inner_other : (a : Forest) → list_count h (inner g a) ≡ list_count h a
    inner_other Nil = refl
    inner_other (Then x xs) =
        let p = inner_item_other x in
        let q = inner_other xs in
        let r = count_join h (inner_item g x) (inner g xs) in
        omega (arith, p, q, r)

    inner_item_other : (x : Tree) → list_count h (inner_item g x) ≡ item_count h x
    inner_item_other (If t a b) = if_other t a b (inner g a) (inner g b) (checks g t b) refl (inner_other a) (inner_other b)
    inner_item_other (While t a) = let p = inner_other a in omega (arith, p)
    inner_item_other (Do a t) = let p = inner_other a in omega (arith, p)
    inner_item_other (For f t u a) = let p = inner_other a in omega (arith, p)
    inner_item_other (Switch s c) = let p = inner_sections_other c in omega (arith, p)
    inner_item_other (Block a) = let p = inner_other a in omega (arith, p)
    inner_item_other x = omega arith

    inner_sections_other : (c : Sections) → sections_count h (inner_sections g c) ≡ sections_count h c
    inner_sections_other NoSection = refl
    inner_sections_other (Section cases default a ends c) =
        let p = inner_other a in
        let q = inner_sections_other c in
        omega (arith, p, q)

  -- ---- sets

  number_other : (n : ℕ) (e : ExpressionTree) → is_number n e ≡ true → expression_count h e ≡ 0
  number_other n (Typed (Some Int) (Number (pos m))) e = refl
  number_other n _ e = cc

  leaving_at : (l : Tree) (v : ExpressionTree) (b : Bool) → is_number 1 v ≡ b → item_count h l ≡ 0 →
      item_count h (cond b l (If (Source v) (one l) Nil)) ≡ expression_count h v
  leaving_at l v true e k = let p = number_other 1 v e in omega (arith, p, k)
  leaving_at l v false e k = omega (arith, k)

  set_at : (l : Tree) → item_count h l ≡ 0 → (e v : ExpressionTree) (a b : Bool) → (a ≡ true → expression_count h e ≡ expression_count h v)
      → list_count h (one (set_or l e (cond (a && b) (Some v) None))) ≡ expression_count h e
  set_at l k e v true true i = let p = leaving_at l v (is_number 1 v) refl k in let q = i refl in omega (arith, p, q)
  set_at l k e v true false i = omega arith
  set_at l k e v false b i = omega arith

  set_other : (l : Tree) → item_count h l ≡ 0 → (e : ExpressionTree) → list_count h (one (set_or l e (set_value g e))) ≡ expression_count h e
  set_other l k (Typed t (Assign (Var (H.Slot x)) v)) =
      set_at l k (Typed t (Assign (Var (H.Slot x)) v)) v (eqb x g) (is_narrow_expression v && lacks g v) (λ i. let p = not_it x i in omega (arith, p))
  set_other l k e = omega arith

  chosen_other : (n : ℕ) (b : Bool) (v w : Forest) → list_count h v ≡ n → list_count h w ≡ n → list_count h (cond b v w) ≡ n
  chosen_other n true v w p q = p
  chosen_other n false v w p q = q

  module _ (l : Tree) (k : item_count h l ≡ 0) where
    mutual
      pub tailed_other : (a : Forest) → list_count h (tailed g l a) ≡ list_count h a
      tailed_other Nil = refl
      tailed_other (Then x xs) =
          let p = chosen_other (item_count h x) (is_end g xs) (tailed_item g l x) (inner_item g x) (tailed_item_other x) (inner_item_other x) in
          let q = tailed_other xs in
          let r = count_join h (cond (is_end g xs) (tailed_item g l x) (inner_item g x)) (tailed g l xs) in
          omega (arith, p, q, r)

      tailed_item_other : (x : Tree) → list_count h (tailed_item g l x) ≡ item_count h x
      tailed_item_other (Evaluate e) = set_other l k e
      tailed_item_other (If t a b) = if_other t a b (tailed g l a) (tailed g l b) (checks g t b) refl (tailed_other a) (tailed_other b)
      tailed_item_other x = inner_item_other x

  -- ---- at a loop

  cond_so : {A : Type 0} (b : Bool) (v y : A) → cond b (Some v) None ≡ Some y → (b ≡ true) × (v ≡ y)
  cond_so true v y e = (refl, cc)
  cond_so false v y e = cc

  second_other : (t u : TestTree) → second_test g t ≡ Some u → test_count h u ≡ test_count h t
  second_other (Source (Typed k (Binary AndThen e t))) u i =
      let c = cond_so (is_off g e) (Source t) u i in
      let p = off_other e c.0 in
      let q = ap (test_count h) c.1 in
      omega (arith, p, q)
  second_other _ u i = cc

  reset_other : (x : Tree) → is_reset g x ≡ true → item_count h x ≡ 0
  reset_other (Evaluate (Typed (Some Int) (Assign (Var (H.Slot x)) e))) i =
      let b = both_so (eqb x g) (is_number 0 e) i in
      let p = not_it x b.0 in
      let q = number_other 0 e b.1 in
      omega (arith, p, q)
  reset_other _ i = cc

  some_map : {A B : Type 0} (F : A → B) (o : Option A) (y : B) → option_map F o ≡ Some y → (x : A) × (o ≡ Some x) × (F x ≡ y)
  some_map F (Some x) y e = (x, refl, cc)
  some_map F None y e = cc

  before_other : (a b : Forest) → before_reset g a ≡ Some b → list_count h b ≡ list_count h a
  before_other Nil b e = cc
  before_other (Then x Nil) b e =
      let c = cond_so (is_reset g x) Nil b e in
      let p = reset_other x c.0 in
      let q = ap (list_count h) c.1 in
      omega (arith, p, q)
  before_other (Then x (Then y ys)) b e =
      let c = some_map (Then x) (before_reset g (Then y ys)) b e in
      let p = before_other (Then y ys) c.0 c.1 in
      let q = ap (list_count h) c.2 in
      omega (arith, p, q)

  after_other : (a b : Forest) → after_reset g a ≡ Some b → list_count h b ≡ list_count h a
  after_other Nil b e = cc
  after_other (Then x xs) b e =
      let c = cond_so (is_reset g x) xs b e in
      let p = reset_other x c.0 in
      let q = ap (list_count h) c.1 in
      omega (arith, p, q)

  broken_with : (n : ℕ) (loop : TestTree → Forest → Tree) → ((t : TestTree) (a : Forest) →
      item_count h (loop t a) ≡ test_count h t + list_count h a) → (t : TestTree) (o : Option TestTree) → second_test g t ≡ o → (a : Forest) (y : Tree)
      → with_breaks g n loop o a ≡ Some y → item_count h y ≡ test_count h t + list_count h a
  broken_with n loop k t None s a y e = cc
  broken_with n loop k t (Some u) s a y e =
      let c = cond_so (are_low g n a) (loop u (tailed g Break a)) y e in
      let p = ap (item_count h) c.1 in
      let q = k u (tailed g Break a) in
      let r = second_other t u s in
      let m = tailed_other Break refl a in
      omega (arith, p, q, r, m)

  broken_other : (n : ℕ) (x y : Tree) → broken_loop g n x ≡ Some y → item_count h y ≡ item_count h x
  broken_other n (While t a) y e = broken_with n While (λ t a. refl) t (second_test g t) refl a y e
  broken_other n (Do a t) y e = let p = broken_with n (λ t a. Do a t) (λ t a. omega arith) t (second_test g t) refl a y e in omega (arith, p)
  broken_other n _ y e = cc

  continued_with : (n m : ℕ) (loop : Forest → Tree) → ((a : Forest) → item_count h (loop a) ≡ m + list_count h a) → (a : Forest) (o : Option Forest) →
      before_reset g a ≡ o → (y : Tree)
      → with_continues g n loop o ≡ Some y → item_count h y ≡ m + list_count h a
  continued_with n m loop k a None s y e = cc
  continued_with n m loop k a (Some b) s y e =
      let c = cond_so (are_low g n b) (loop (tailed g Continue b)) y e in
      let p = ap (item_count h) c.1 in
      let q = k (tailed g Continue b) in
      let r = before_other a b s in
      let t = tailed_other Continue refl b in
      omega (arith, p, q, r, t)

  continued_other : (n : ℕ) (x y : Tree) → continued_loop g n x ≡ Some y → item_count h y ≡ item_count h x
  continued_other n (While t a) y e = continued_with n (test_count h t) (While t) (λ a. refl) a (before_reset g a) refl y e
  continued_other n (Do a t) y e = let p = continued_with n (test_count h t) (λ a. Do a t) (λ a. omega arith) a (before_reset g a) refl y e in omega (arith, p)
  continued_other n (For f t u a) y e =
      let p = continued_with n (item_count h (For f t u Nil)) (For f t u) (λ a. omega arith) a (before_reset g a) refl y e in omega (arith, p)
  continued_other n _ y e = cc

  both_other : (x : Tree) (xs l : Forest) (o : Option Tree) (q : Option Forest) → ((y : Tree) → o ≡ Some y → item_count h y ≡ item_count h x) →
      ((ys : Forest) → q ≡ Some ys → list_count h ys ≡ list_count h xs)
      → both_there o q ≡ Some l → list_count h l ≡ list_count h (Then x xs)
  both_other x xs l (Some y) (Some ys) i k e =
      let c = cond_so true (Then y ys) l e in
      let p = ap (list_count h) c.1 in
      let q = i y refl in
      let r = k ys refl in
      omega (arith, p, q, r)
  both_other x xs l (Some y) None i k e = cc
  both_other x xs l None q i k e = cc

  first_other : (x : Tree) (xs l : Forest) (o : Option Tree) → ((y : Tree) → o ≡ Some y → item_count h y ≡ item_count h x) →
      option_map (λ y. Then y xs) o ≡ Some l → list_count h l ≡ list_count h (Then x xs)
  first_other x xs l o i e =
      let c = some_map (λ y. Then y xs) o l e in
      let p = i c.0 c.1 in
      let q = ap (list_count h) c.2 in
      omega (arith, p, q)

-- ---- of all changes

abbrev pub KeepsOthers : Forest → ℕ × Forest → Type 0
KeepsOthers a c = (h : ℕ) → eqb c.0 h ≡ false → list_count h c.1 ≡ list_count h a

abbrev ItemKeeps : Tree → ℕ × Tree → Type 0
ItemKeeps x c = (h : ℕ) → eqb c.0 h ≡ false → item_count h c.1 ≡ item_count h x

abbrev SectionsKeep : Sections → ℕ × Sections → Type 0
SectionsKeep d c = (h : ℕ) → eqb c.0 h ≡ false → sections_count h c.1 ≡ sections_count h d

module _ (p k : ℕ) where
  mutual
    pub lists_others : (a : Forest) (n : ℕ) → Each (KeepsOthers a) (changed_lists p k n a)
    lists_others Nil n = tt
    lists_others (Then x xs) n =
        let P = KeepsOthers (Then x xs) in
        let F : ℕ → Option Forest = λ g. both_there (broken_loop g (suc n) x) (after_reset g xs) in
        let G : ℕ → Option Forest = λ g. option_map (λ y. Then y xs) (continued_loop g (suc n) x) in
        let C = changed_items p k (suc n) x in
        let D = changed_lists p k n xs in
        each_append P (changed_for F p k ++ changed_for G p k) (around (λ y. Then y xs) C ++ around (Then x) D)
        (each_append P (changed_for F p k) (changed_for G p k)
        (for_each P F (λ g l e h i. both_other g h i x xs l (broken_loop g (suc n) x) (after_reset g xs) (λ y. broken_other g h i (suc n) x y)
        (λ ys. after_other g h i xs ys) e) p k)
        (for_each P G (λ g l e h i. first_other g h i x xs l (continued_loop g (suc n) x) (λ y. continued_other g h i (suc n) x y) e) p k))
        (each_append P (around (λ y. Then y xs) C) (around (Then x) D)
        (each_around P (λ y. Then y xs) C (each_weaker (ItemKeeps x) (λ (c : ℕ × Tree). P (c.0, Then c.1 xs))
        (λ c q h i. ap (λ m. m + list_count h xs) (q h i)) C (items_others x (suc n))))
        (each_around P (Then x) D (each_weaker (KeepsOthers xs) (λ (c : ℕ × Forest). P (c.0, Then x c.1))
        (λ c q h i. ap (λ m. item_count h x + m) (q h i)) D (lists_others xs n))))

    items_others : (x : Tree) (n : ℕ) → Each (ItemKeeps x) (changed_items p k n x)
    items_others (If t a b) n =
        let P = ItemKeeps (If t a b) in
        let A = changed_lists p k n a in
        let B = changed_lists p k n b in
        each_append P (around (λ c. If t c b) A) (around (If t a) B)
        (each_around P (λ c. If t c b) A (each_weaker (KeepsOthers a) (λ (c : ℕ × Forest). P (c.0, If t c.1 b))
        (λ c q h i. ap (λ m. test_count h t + (m + list_count h b)) (q h i)) A (lists_others a n)))
        (each_around P (If t a) B (each_weaker (KeepsOthers b) (λ (c : ℕ × Forest). P (c.0, If t a c.1))
        (λ c q h i. ap (λ m. test_count h t + (list_count h a + m)) (q h i)) B (lists_others b n)))
    items_others (While t a) n =
        let A = changed_lists p k n a in
        each_around (ItemKeeps (While t a)) (While t) A (each_weaker (KeepsOthers a) (λ (c : ℕ × Forest). ItemKeeps (While t a) (c.0, While t c.1))
        (λ c q h i. ap (λ m. test_count h t + m) (q h i)) A (lists_others a n))
    items_others (Do a t) n =
        let A = changed_lists p k n a in
        each_around (ItemKeeps (Do a t)) (λ c. Do c t) A (each_weaker (KeepsOthers a) (λ (c : ℕ × Forest). ItemKeeps (Do a t) (c.0, Do c.1 t))
        (λ c q h i. ap (λ m. m + test_count h t) (q h i)) A (lists_others a n))
    items_others (For f t u a) n =
        let P = ItemKeeps (For f t u a) in
        let A = changed_lists p k n f in
        let B = changed_lists p k n a in
        each_append P (around (λ c. For c t u a) A) (around (For f t u) B)
        (each_around P (λ c. For c t u a) A (each_weaker (KeepsOthers f) (λ (c : ℕ × Forest). P (c.0, For c.1 t u a))
        (λ c q h i. let w = q h i in omega (arith, w)) A (lists_others f n)))
        (each_around P (For f t u) B (each_weaker (KeepsOthers a) (λ (c : ℕ × Forest). P (c.0, For f t u c.1))
        (λ c q h i. let w = q h i in omega (arith, w)) B (lists_others a n)))
    items_others (Switch s d) n =
        let D = changed_sections p k n d in
        each_around (ItemKeeps (Switch s d)) (Switch s) D
        (each_weaker (SectionsKeep d) (λ (c : ℕ × Sections). ItemKeeps (Switch s d) (c.0, Switch s c.1))
        (λ c q h i. let w = q h i in omega (arith, w)) D (sections_others d n))
    items_others (Block a) n =
        let A = changed_lists p k n a in
        each_around (ItemKeeps (Block a)) Block A (each_weaker (KeepsOthers a) (λ (c : ℕ × Forest). ItemKeeps (Block a) (c.0, Block c.1))
        (λ c q h i. q h i) A (lists_others a n))
    items_others x n = tt

    sections_others : (d : Sections) (n : ℕ) → Each (SectionsKeep d) (changed_sections p k n d)
    sections_others NoSection n = tt
    sections_others (Section cases default a ends d) n =
        let P = SectionsKeep (Section cases default a ends d) in
        let A = changed_lists p k n a in
        let D = changed_sections p k n d in
        each_append P (around (λ b. Section cases default b ends d) A) (around (Section cases default a ends) D)
        (each_around P (λ b. Section cases default b ends d) A
        (each_weaker (KeepsOthers a) (λ (c : ℕ × Forest). P (c.0, Section cases default c.1 ends d))
        (λ c q h i. ap (λ m. m + sections_count h d) (q h i)) A (lists_others a n)))
        (each_around P (Section cases default a ends) D
        (each_weaker (SectionsKeep d) (λ (c : ℕ × Sections). P (c.0, Section cases default a ends c.1))
        (λ c q h i. ap (λ m. list_count h a + m) (q h i)) D (sections_others d n)))

-- ---- the declaration

module _ (g h : ℕ) (other : eqb g h ≡ false) where
  declared_other : (x : Tree) → is_declaration g x ≡ true → item_count h x ≡ 0
  declared_other (Local x es) i =
      let b = both_so (eqb x g) (is_zero_value es) i in
      let p = ap one_if (ap (λ z. eqb z h) (eqb-true x g b.0) ∙ other) in
      let q = zero_values h es b.1 in
      omega (arith, p, q)
  declared_other _ i = cc

  pub undeclared_other : (a : Forest) → list_count h (undeclared g a) ≡ list_count h a
  undeclared_other Nil = refl
  undeclared_other (Then x xs) = by (is_declaration g x) refl (undeclared_other xs)
    where
      by : (b : Bool) → is_declaration g x ≡ b → list_count h (undeclared g xs) ≡ list_count h xs →
          list_count h (cond b xs (Then x (undeclared g xs))) ≡ item_count h x + list_count h xs
      by true e i = let p = declared_other x e in omega (arith, p)
      by false e i = omega (arith, i)

  no_declaration : (x : Tree) → is_declaration g x ≡ true → is_declaration h x ≡ false
  no_declaration (Local x es) i =
      let b = both_so (eqb x g) (is_zero_value es) i in
      ap (λ z. z && is_zero_value es) (ap (λ z. eqb z h) (eqb-true x g b.0) ∙ other)
  no_declaration _ i = cc

  pub declares_other : (a : Forest) → declares h (undeclared g a) ≡ declares h a
  declares_other Nil = refl
  declares_other (Then x xs) = by (is_declaration g x) refl (declares_other xs)
    where
      by : (b : Bool) → is_declaration g x ≡ b → declares h (undeclared g xs) ≡ declares h xs →
          declares h (cond b xs (Then x (undeclared g xs))) ≡ (is_declaration h x || declares h xs)
      by true e i = sym (ap (λ b. b || declares h xs) (no_declaration x e))
      by false e i = ap (λ b. is_declaration h x || b) i
