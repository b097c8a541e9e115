-- What a body keeps without a slot and its declaration: its other declarations in their order, what leaves it, and its depth.
use Rattle.std.proofs.Common.{ℕ, zero, suc, pred, ◌+◌, ◌≤◌, Bool, true, false, ◌||◌, cond, eqb, eqb-true, nat_lt, List, [], ◌∷◌, ◌++◌, map, ◌≡◌, refl, sym, ap, ◌∙◌, subst, true≢false, arith, append_assoc}
use Rattle.std.proofs.lemmas.Bool.Decides.{nat_tests}
use Rattle.std.specs.Prelude.{max}
use Rattle.std.proofs.lemmas.Bool.{and_parts}
use Rattle.c_tree.specs.Exits.{breaks, breaks_of, continues, continues_of, continues_in}
use Rattle.c_tree.specs.Trees.{Tree, Forest, Nil, Then, Sections, NoSection, Section, If, While, Do, For, Switch, Block, Local}
use Rattle.c_resolved_defs.specs.Form.{gathered, gathered_of, gathered_in, declared_slot, marked_label, numbers_from}
use Rattle.c_resolved_defs.specs.PrintableStatements.{depth, depth_of, depth_in}
use Rattle.tidy_laws.specs.Renumbered.{new_number, renumbered_test, renumbered_list, renumbered_item, renumbered_sections}
use Rattle.tidy_laws.specs.Changes.{is_zero_value, is_declaration, undeclared, declares}
use Rattle.tidy_laws.proofs.TidyChangesNumbers.{number_before, number_behind}
use Rattle.whole_laws.proofs.UnmovedSpelled.{depth_if}

-- ---- numbers in a row

abbrev first_of : ℕ → List ℕ → ℕ
first_of d [] = d
first_of d (x ∷ xs) = x

abbrev later_of : List ℕ → List ℕ
later_of [] = []
later_of (x ∷ xs) = xs

module _ (g : ℕ) where
  abbrev new : ℕ → ℕ
  new x = new_number g x

  behind : (i : ℕ) → g ≤ i → new (suc i) ≡ i
  behind i l = let b : nat_lt g (suc i) ≡ true = grind (arith, nat_tests) in number_behind g (suc i) b

  shifted : (i m : ℕ) → g ≤ i → map new (numbers_from (suc i) m) ≡ numbers_from i m
  shifted i zero l = refl
  shifted i (suc m) l = (λ t. behind i l t ∷ shifted (suc i) m (omega (arith, l)) t)

  -- a number stands behind those before it
  within : (pre post : List ℕ) (p n : ℕ) → pre ++ g ∷ post ≡ numbers_from p n → p ≤ g
  within [] post p zero e = cc
  within [] post p (suc n) e = let q : g ≡ p = ap (first_of 0) e in omega (arith, q)
  within (x ∷ pre) post p zero e = cc
  within (x ∷ pre) post p (suc n) e = let l = within pre post (suc p) n (ap later_of e) in omega (arith, l)

  removed : (pre post : List ℕ) (p m : ℕ) → pre ++ g ∷ post ≡ numbers_from p (suc m) → map new (pre ++ post) ≡ numbers_from p m
  removed [] post p m e = let q : g ≡ p = ap (first_of 0) e in let r : post ≡ numbers_from (suc p) m = ap later_of e in
      ap (map new) r ∙ shifted p m (omega (arith, q))
  removed (x ∷ pre) post p zero e = absurd (nothing pre (ap later_of e))
    where
      nothing : (pre : List ℕ) → pre ++ g ∷ post ≡ [] → ⊥
      nothing [] e = cc
      nothing (y ∷ ys) e = cc
  removed (x ∷ pre) post p (suc m) e =
      let q : x ≡ p = ap (first_of 0) e in
      let l = within pre post (suc p) (suc m) (ap later_of e) in
      let b : nat_lt g p ≡ false = grind (arith, nat_tests) in
      (λ t. (ap new q ∙ number_before g p b) t ∷ removed pre post (suc p) m (ap later_of e) t)

  -- ---- the declaration in a list

  record Removed (a : Forest) : Type 0 where
    pre : List ℕ
    post : List ℕ
    there : gathered declared_slot a ≡ pre ++ g ∷ post
    gone : gathered declared_slot (undeclared g a) ≡ pre ++ post

  is_its : (x : Tree) → is_declaration g x ≡ true → gathered_of declared_slot x ≡ g ∷ []
  is_its (Local k es) h = ap (λ n. n ∷ []) (eqb-true k g (and_parts (eqb k g) (is_zero_value es) h).0)
  is_its x h = absurd (true≢false (sym h))

  find : (a : Forest) → declares g a ≡ true → Removed a
  find Nil h = absurd (true≢false (sym h))
  find (Then x xs) h = at (is_declaration g x) refl h (find xs)
    where
      at : (b : Bool) → is_declaration g x ≡ b → (b || declares g xs) ≡ true → (declares g xs ≡ true → Removed xs) → Removed (Then x xs)
      at true q k f = record {
        pre = [];
        post = gathered declared_slot xs;
        there = ap (λ l. l ++ gathered declared_slot xs) (is_its x q);
        gone = ap (λ b. gathered declared_slot (cond b xs (Then x (undeclared g xs)))) q;
      }
      at false q k f = let r = f k in record {
        pre = gathered_of declared_slot x ++ r.pre;
        post = r.post;
        there = ap (λ l. gathered_of declared_slot x ++ l) r.there ∙ sym (append_assoc (gathered_of declared_slot x) r.pre (g ∷ r.post));
        gone = ap (λ b. gathered declared_slot (cond b xs (Then x (undeclared g xs)))) q ∙ ap (λ l. gathered_of declared_slot x ++ l) r.gone ∙
            sym (append_assoc (gathered_of declared_slot x) r.pre r.post);
      }

  -- ---- renumbered

  map_append : (xs ys : List ℕ) → map new (xs ++ ys) ≡ map new xs ++ map new ys
  map_append [] ys = refl
  map_append (x ∷ xs) ys = ap (λ l. new x ∷ l) (map_append xs ys)

  mutual
    declared_stay : (a : Forest) → gathered declared_slot (renumbered_list g a) ≡ map new (gathered declared_slot a)
    declared_stay Nil = refl
    declared_stay (Then x xs) = (λ i. declared_of_stay x i ++ declared_stay xs i) ∙ sym (map_append (gathered_of declared_slot x) (gathered declared_slot xs))

    declared_of_stay : (x : Tree) → gathered_of declared_slot (renumbered_item g x) ≡ map new (gathered_of declared_slot x)
    declared_of_stay (If t a b) = (λ i. declared_stay a i ++ declared_stay b i) ∙ sym (map_append (gathered declared_slot a) (gathered declared_slot b))
    declared_of_stay (While t a) = declared_stay a
    declared_of_stay (Do a t) = declared_stay a
    declared_of_stay (For first t u a) = (λ i. declared_stay first i ++ declared_stay a i) ∙ sym
        (map_append (gathered declared_slot first) (gathered declared_slot a))
    declared_of_stay (Switch s c) = declared_in_stay c
    declared_of_stay (Block a) = declared_stay a
    declared_of_stay x = refl

    declared_in_stay : (c : Sections) → gathered_in declared_slot (renumbered_sections g c) ≡ map new (gathered_in declared_slot c)
    declared_in_stay NoSection = refl
    declared_in_stay (Section cases default a ends c) = (λ i. declared_stay a i ++ declared_in_stay c i) ∙ sym
        (map_append (gathered declared_slot a) (gathered_in declared_slot c))

  -- the declarations of a body without one
  pub declared_gone : (a : Forest) (p n : ℕ) → declares g a ≡ true → gathered declared_slot a ≡ numbers_from p n →
      gathered declared_slot (renumbered_list g (undeclared g a)) ≡ numbers_from p (pred n)
  declared_gone a p zero h e = let r = find a h in absurd (nothing r.pre r.post (sym r.there ∙ e))
    where
      nothing : (pre post : List ℕ) → pre ++ g ∷ post ≡ [] → ⊥
      nothing [] post e = cc
      nothing (y ∷ ys) post e = cc
  declared_gone a p (suc m) h e = let r = find a h in declared_stay (undeclared g a) ∙ ap (map new) r.gone ∙ removed r.pre r.post p m (sym r.there ∙ e)

  -- ---- labels

  mutual
    marked_stay : (a : Forest) → gathered marked_label (renumbered_list g a) ≡ gathered marked_label a
    marked_stay Nil = refl
    marked_stay (Then x xs) = (λ i. marked_of_stay x i ++ marked_stay xs i)

    marked_of_stay : (x : Tree) → gathered_of marked_label (renumbered_item g x) ≡ gathered_of marked_label x
    marked_of_stay (If t a b) = (λ i. marked_stay a i ++ marked_stay b i)
    marked_of_stay (While t a) = marked_stay a
    marked_of_stay (Do a t) = marked_stay a
    marked_of_stay (For first t u a) = (λ i. marked_stay first i ++ marked_stay a i)
    marked_of_stay (Switch s c) = marked_in_stay c
    marked_of_stay (Block a) = marked_stay a
    marked_of_stay x = refl

    marked_in_stay : (c : Sections) → gathered_in marked_label (renumbered_sections g c) ≡ gathered_in marked_label c
    marked_in_stay NoSection = refl
    marked_in_stay (Section cases default a ends c) = (λ i. marked_stay a i ++ marked_in_stay c i)

  -- ---- what leaves it

  mutual
    breaks_stay : (a : Forest) → breaks (renumbered_list g a) ≡ breaks a
    breaks_stay Nil = refl
    breaks_stay (Then x xs) = (λ i. breaks_of_stay x i + breaks_stay xs i)

    breaks_of_stay : (x : Tree) → breaks_of (renumbered_item g x) ≡ breaks_of x
    breaks_of_stay (If t a b) = (λ i. breaks_stay a i + breaks_stay b i)
    breaks_of_stay (For first t u a) = breaks_stay first
    breaks_of_stay (Block a) = breaks_stay a
    breaks_of_stay x = refl

  mutual
    continues_stay : (a : Forest) → continues (renumbered_list g a) ≡ continues a
    continues_stay Nil = refl
    continues_stay (Then x xs) = (λ i. continues_of_stay x i + continues_stay xs i)

    continues_of_stay : (x : Tree) → continues_of (renumbered_item g x) ≡ continues_of x
    continues_of_stay (If t a b) = (λ i. continues_stay a i + continues_stay b i)
    continues_of_stay (For first t u a) = continues_stay first
    continues_of_stay (Switch s c) = continues_in_stay c
    continues_of_stay (Block a) = continues_stay a
    continues_of_stay x = refl

    continues_in_stay : (c : Sections) → continues_in (renumbered_sections g c) ≡ continues_in c
    continues_in_stay NoSection = refl
    continues_in_stay (Section cases default a ends c) = (λ i. continues_stay a i + continues_in_stay c i)

  mutual
    depth_stays : (a : Forest) → depth (renumbered_list g a) ≡ depth a
    depth_stays Nil = refl
    depth_stays (Then x xs) = (λ i. max (depth_of_stays x i) (depth_stays xs i))

    depth_of_stays : (x : Tree) → depth_of (renumbered_item g x) ≡ depth_of x
    depth_of_stays (If t a b) = depth_if (renumbered_test g t) (renumbered_list g a) (renumbered_list g b) ∙
        (λ i. max (depth_stays a i) (depth_stays b i) + 1) ∙ sym (depth_if t a b)
    depth_of_stays (While t a) = (λ i. depth_stays a i + 1)
    depth_of_stays (Do a t) = (λ i. depth_stays a i + 1)
    depth_of_stays (For first t u a) = (λ i. depth_stays a i + 1)
    depth_of_stays (Switch s c) = (λ i. depth_in_stays c i + 1)
    depth_of_stays (Block a) = (λ i. depth_stays a i + 1)
    depth_of_stays x = refl

    depth_in_stays : (c : Sections) → depth_in (renumbered_sections g c) ≡ depth_in c
    depth_in_stays NoSection = refl
    depth_in_stays (Section cases default a ends c) = (λ i. max (depth_stays a i) (depth_in_stays c i))

  -- ---- without the declaration

  leaf : (x : Tree) → is_declaration g x ≡ true → (breaks_of x ≡ 0) × (continues_of x ≡ 0) × (gathered_of marked_label x ≡ [])
  leaf (Local k es) h = (refl, refl, refl)
  leaf x h = absurd (true≢false (sym h))

  breaks_undeclared : (a : Forest) → breaks (undeclared g a) ≡ breaks a
  breaks_undeclared Nil = refl
  breaks_undeclared (Then x xs) = at (is_declaration g x) refl (breaks_undeclared xs)
    where
      at : (b : Bool) → is_declaration g x ≡ b → breaks (undeclared g xs) ≡ breaks xs → breaks (cond b xs (Then x (undeclared g xs))) ≡ breaks_of x + breaks xs
      at true q k = let z = (leaf x q).0 in omega (arith, z)
      at false q k = ap (λ n. breaks_of x + n) k

  continues_undeclared : (a : Forest) → continues (undeclared g a) ≡ continues a
  continues_undeclared Nil = refl
  continues_undeclared (Then x xs) = at (is_declaration g x) refl (continues_undeclared xs)
    where
      at : (b : Bool) → is_declaration g x ≡ b → continues (undeclared g xs) ≡ continues xs →
          continues (cond b xs (Then x (undeclared g xs))) ≡ continues_of x + continues xs
      at true q k = let z = (leaf x q).1 in omega (arith, z)
      at false q k = ap (λ n. continues_of x + n) k

  marked_undeclared : (a : Forest) → gathered marked_label (undeclared g a) ≡ gathered marked_label a
  marked_undeclared Nil = refl
  marked_undeclared (Then x xs) = at (is_declaration g x) refl (marked_undeclared xs)
    where
      at : (b : Bool) → is_declaration g x ≡ b → gathered marked_label (undeclared g xs) ≡ gathered marked_label xs →
          gathered marked_label (cond b xs (Then x (undeclared g xs))) ≡ gathered_of marked_label x ++ gathered marked_label xs
      at true q k = ap (λ l. l ++ gathered marked_label xs) (sym (leaf x q).2)
      at false q k = ap (λ l. gathered_of marked_label x ++ l) k

  depth_undeclared : (a : Forest) → depth (undeclared g a) ≤ depth a
  depth_undeclared Nil = omega arith
  depth_undeclared (Then x xs) = at (is_declaration g x) (depth_undeclared xs)
    where
      at : (b : Bool) → depth (undeclared g xs) ≤ depth xs → depth (cond b xs (Then x (undeclared g xs))) ≤ max (depth_of x) (depth xs)
      at true k = omega arith
      at false k = omega (arith, k)

  pub breaks_gone : (a : Forest) → breaks (renumbered_list g (undeclared g a)) ≡ breaks a
  breaks_gone a = breaks_stay (undeclared g a) ∙ breaks_undeclared a

  pub continues_gone : (a : Forest) → continues (renumbered_list g (undeclared g a)) ≡ continues a
  continues_gone a = continues_stay (undeclared g a) ∙ continues_undeclared a

  pub marked_gone : (a : Forest) → gathered marked_label (renumbered_list g (undeclared g a)) ≡ gathered marked_label a
  marked_gone a = marked_stay (undeclared g a) ∙ marked_undeclared a

  pub depth_gone : (a : Forest) → depth (renumbered_list g (undeclared g a)) ≤ depth a
  depth_gone a = subst (λ n. n ≤ depth a) (sym (depth_stays (undeclared g a))) (depth_undeclared a)
