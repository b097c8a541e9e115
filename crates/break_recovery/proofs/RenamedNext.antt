-- The next change of a list whose slots have other numbers, each its own.
use mathlib.Core.Path.{ap₂}
use Rattle.std.proofs.Common.{ℕ, suc, ◌+◌, Bool, cond, ◌&&◌, eqb, Option, Some, None, option_map, ◌≡◌, refl, sym, ap, ◌∙◌}
use Rattle.std.specs.Option.{option_map_or}
use Rattle.c_types.specs.declared.kinds.IntKind.{IntKind}
use Rattle.c_tree.specs.declared.tree.UnaryOp.TheVariants.{Not}
use Rattle.c_tree.specs.declared.tree.BinaryOp.TheVariants.{AndThen}
use Rattle.c_tree.specs.declared.tree.Home.TheVariants as H
use Rattle.c_tree.specs.ExpressionTrees.{ExpressionTree, PlaceTree, Typed, Var, Cell, Read, Unary, Binary, Assign}
use Rattle.c_tree.specs.TestTrees.{TestTree, Source}
use Rattle.c_tree.specs.Trees.{Tree, Forest, Nil, Then, Sections, NoSection, Section, Evaluate, If, While, Do, For, Switch, Block, Break, Continue}
use Rattle.jump_meaning.specs.Code.{FunctionTree}
use Rattle.tidy_laws.specs.Changes.{is_number, tailed}
use Rattle.tidy_loops.specs.Views.{place_slot, read_slot, off_slot, is_it, is_int_kind}
use Rattle.tidy_loops.specs.Slots.{counts_of, stop_slot, second_half, rest_test, reset_by, reset_in, reset_slot, first_reset, last_reset, but_last, but_first, allowed, breaks, continues, break_slot, continue_slot, broken, continued}
use Rattle.tidy_laws.specs.Renamed.{renamed, renamed_place, renamed_test, renamed_selector, renamed_option, renamed_list, renamed_item, renamed_sections}
use Rattle.break_recovery.specs.Next.{or_else, put, of_slot, next_list, next_item, next_sections, next_here, next_at}
use Rattle.break_recovery.proofs.NextLaws.{more, in_if, in_while, in_do, in_for, in_switch, in_block, more_sections}
use Rattle.break_recovery.proofs.RenamedCounts.{three_same}
use Rattle.break_recovery.proofs.RenamedExits.{map_cond, number_same, tailed_same, exits_same, low_same}

-- a change with other numbers
abbrev pub moved : {A B : Type 0} → (ℕ → ℕ) → (A → B) → Option (ℕ × A) → Option (ℕ × B)
moved s F o = option_map (λ c. (s c.0, F c.1)) o

moved_or : {A B : Type 0} (s : ℕ → ℕ) (F : A → B) (a b : Option (ℕ × A)) → or_else (moved s F a) (moved s F b) ≡ moved s F (or_else a b)
moved_or s F None b = refl
moved_or s F (Some c) b = refl

put_moved : {A B C D : Type 0} (s : ℕ → ℕ) (F : A → B) (G : C → D) (P : A → C) (Q : B → D) → ((a : A) → Q (F a) ≡ G (P a)) → (o : Option (ℕ × A)) →
    put Q (moved s F o) ≡ moved s G (put P o)
put_moved s F G P Q h None = refl
put_moved s F G P Q h (Some c) = ap (λ z. Some (s c.0, z)) (h c.1)

of_moved : {A B : Type 0} (s : ℕ → ℕ) (F : A → B) (make : ℕ → A) (made : ℕ → B) → ((g : ℕ) → made (s g) ≡ F (make g)) → (o : Option ℕ) →
    of_slot made (option_map s o) ≡ moved s F (of_slot make o)
of_moved s F make made h None = refl
of_moved s F make made h (Some g) = ap (λ z. Some (s g, z)) (h g)

module _ (s : ℕ → ℕ) (same : (x y : ℕ) → eqb (s x) (s y) ≡ eqb x y) where
  place_slot_same : (p : PlaceTree) → place_slot (renamed_place s p) ≡ option_map s (place_slot p)
  place_slot_same (Var (H.Slot x)) = refl
  place_slot_same (Var (H.Global m)) = refl
  place_slot_same (Cell h a) = refl

  read_slot_same : (e : ExpressionTree) → read_slot (renamed s e) ≡ option_map s (read_slot e)
  read_slot_same (Typed k (Read p)) = place_slot_same p
  read_slot_same _ = refl

  off_slot_same : (e : ExpressionTree) → off_slot (renamed s e) ≡ option_map s (off_slot e)
  off_slot_same (Typed k (Unary Not e)) = read_slot_same e
  off_slot_same _ = refl

  stop_slot_same : (t : TestTree) → stop_slot (renamed_test s t) ≡ option_map s (stop_slot t)
  stop_slot_same (Source (Typed k (Binary AndThen e t))) = off_slot_same e
  stop_slot_same _ = refl

  second_same : (t : TestTree) → second_half (renamed_test s t) ≡ option_map (renamed s) (second_half t)
  second_same (Source (Typed k (Binary AndThen e t))) = refl
  second_same _ = refl

  rest_same : (t : TestTree) → rest_test (renamed_test s t) ≡ renamed_test s (rest_test t)
  rest_same t = ap (λ o. option_map_or Source o (renamed_test s t)) (second_same t) ∙ by (second_half t)
    where
      by : (o : Option ExpressionTree) → option_map_or Source (option_map (renamed s) o) (renamed_test s t) ≡ renamed_test s (option_map_or Source o t)
      by None = refl
      by (Some e) = refl

  reset_by_same : (k : Option IntKind) (p : PlaceTree) (e : ExpressionTree) → reset_by k (renamed_place s p) (renamed s e) ≡ option_map s (reset_by k p e)
  reset_by_same k p e =
      ap₂ (λ b o. cond (is_int_kind k && b) o None) (number_same s same 0 e) (place_slot_same p)
      ∙ map_cond s (is_int_kind k && is_number 0 e) (place_slot p)

  reset_in_same : (e : ExpressionTree) → reset_in (renamed s e) ≡ option_map s (reset_in e)
  reset_in_same (Typed k (Assign p e)) = reset_by_same k p e
  reset_in_same _ = refl

  reset_same : (x : Tree) → reset_slot (renamed_item s x) ≡ option_map s (reset_slot x)
  reset_same (Evaluate e) = reset_in_same e
  reset_same _ = refl

  first_same : (a : Forest) → first_reset (renamed_list s a) ≡ option_map s (first_reset a)
  first_same Nil = refl
  first_same (Then x xs) = reset_same x

  last_same : (a : Forest) → last_reset (renamed_list s a) ≡ option_map s (last_reset a)
  last_same Nil = refl
  last_same (Then x Nil) = reset_same x
  last_same (Then x (Then y ys)) = last_same (Then y ys)

  but_last_same : (a : Forest) → but_last (renamed_list s a) ≡ renamed_list s (but_last a)
  but_last_same Nil = refl
  but_last_same (Then x Nil) = refl
  but_last_same (Then x (Then y ys)) = ap (Then (renamed_item s x)) (but_last_same (Then y ys))

  but_first_same : (a : Forest) → but_first (renamed_list s a) ≡ renamed_list s (but_first a)
  but_first_same Nil = refl
  but_first_same (Then x xs) = refl

  it_same : (g : ℕ) (o : Option ℕ) → is_it (s g) (option_map s o) ≡ is_it g o
  it_same g None = refl
  it_same g (Some x) = same x g

  allowed_same : (p q : ℕ → Bool) → ((g : ℕ) → p (s g) ≡ q g) → (o : Option ℕ) → allowed p (option_map s o) ≡ option_map s (allowed q o)
  allowed_same p q h None = refl
  allowed_same p q h (Some g) = ap (λ b. cond b (Some (s g)) None) (h g) ∙ map_cond s (q g) (Some g)

  module _ (c d : ℕ → ℕ) (k : (g : ℕ) → c (s g) ≡ d g) where
    breaks_same : (n : ℕ) (a xs : Forest) (g : ℕ) → breaks c n (renamed_list s a) (renamed_list s xs) (s g) ≡ breaks d n a xs g
    breaks_same n a xs g =
        three_same (λ x y z. x && (y && z)) (ap (is_it (s g)) (first_same xs) ∙ it_same g (first_reset xs)) (low_same s same g n a)
        (ap₂ (λ m e. eqb m (3 + e)) (k g) (exits_same s same g a))

    continues_same : (n : ℕ) (a b : Forest) → b ≡ renamed_list s a → (g : ℕ) → continues c n b (s g) ≡ continues d n a g
    continues_same n a b e g =
        ap (λ z. continues c n z (s g)) e
        ∙ ap₂ (λ y z. y && z) (low_same s same g n a) (ap₂ (λ m e. eqb m (2 + e)) (k g) (exits_same s same g a))

    break_slot_same : (n : ℕ) (x : Tree) (xs : Forest) → break_slot c n (renamed_item s x) (renamed_list s xs) ≡ option_map s (break_slot d n x xs)
    break_slot_same n (While t a) xs =
        ap (allowed (breaks c n (renamed_list s a) (renamed_list s xs))) (stop_slot_same t)
        ∙ allowed_same (breaks c n (renamed_list s a) (renamed_list s xs)) (breaks d n a xs) (breaks_same n a xs) (stop_slot t)
    break_slot_same n (Do a t) xs =
        ap (allowed (breaks c n (renamed_list s a) (renamed_list s xs))) (stop_slot_same t)
        ∙ allowed_same (breaks c n (renamed_list s a) (renamed_list s xs)) (breaks d n a xs) (breaks_same n a xs) (stop_slot t)
    break_slot_same n _ xs = refl

    last_allowed : (n : ℕ) (a : Forest) → allowed (continues c n (but_last (renamed_list s a))) (last_reset (renamed_list s a)) ≡ option_map s
        (allowed (continues d n (but_last a)) (last_reset a))
    last_allowed n a =
        ap (allowed (continues c n (but_last (renamed_list s a)))) (last_same a)
        ∙ allowed_same (continues c n (but_last (renamed_list s a))) (continues d n (but_last a))
        (continues_same n (but_last a) (but_last (renamed_list s a)) (but_last_same a)) (last_reset a)

    continue_slot_same : (n : ℕ) (x : Tree) → continue_slot c n (renamed_item s x) ≡ option_map s (continue_slot d n x)
    continue_slot_same n (While t a) = last_allowed n a
    continue_slot_same n (Do a t) = last_allowed n a
    continue_slot_same n (For f t u a) = last_allowed n a
    continue_slot_same n _ = refl

  broken_same : (g : ℕ) (x : Tree) → broken (s g) (renamed_item s x) ≡ renamed_item s (broken g x)
  broken_same g (While t a) = ap₂ While (rest_same t) (tailed_same s same Break refl g a)
  broken_same g (Do a t) = ap₂ Do (tailed_same s same Break refl g a) (rest_same t)
  broken_same g _ = refl

  tail_same : (g : ℕ) (a : Forest) → tailed (s g) Continue (but_last (renamed_list s a)) ≡ renamed_list s (tailed g Continue (but_last a))
  tail_same g a = ap (tailed (s g) Continue) (but_last_same a) ∙ tailed_same s same Continue refl g (but_last a)

  continued_same : (g : ℕ) (x : Tree) → continued (s g) (renamed_item s x) ≡ renamed_item s (continued g x)
  continued_same g (While t a) = ap (While (renamed_test s t)) (tail_same g a)
  continued_same g (Do a t) = ap (λ z. Do z (renamed_test s t)) (tail_same g a)
  continued_same g (For f t u a) = ap (For (renamed_list s f) (renamed_option s t) (renamed_option s u)) (tail_same g a)
  continued_same g _ = refl

  module _ (f h : FunctionTree) (k : (g : ℕ) → counts_of f (s g) ≡ counts_of h g) where
    here_same : (n : ℕ) (x : Tree) (xs : Forest) → next_here f n (Then (renamed_item s x) (renamed_list s xs)) ≡ moved s (renamed_list s)
        (next_here h n (Then x xs))
    here_same n x xs =
        ap₂ (λ a b. or_else (of_slot (λ g. Then (broken g (renamed_item s x)) (but_first (renamed_list s xs))) a)
        (of_slot (λ g. Then (continued g (renamed_item s x)) (renamed_list s xs)) b))
        (break_slot_same (counts_of f) (counts_of h) k n x xs) (continue_slot_same (counts_of f) (counts_of h) k n x)
        ∙ ap₂ or_else
        (of_moved s (renamed_list s) (λ g. Then (broken g x) (but_first xs)) (λ g. Then (broken g (renamed_item s x)) (but_first (renamed_list s xs)))
        (λ g. ap₂ Then (broken_same g x) (but_first_same xs)) (break_slot (counts_of h) n x xs))
        (of_moved s (renamed_list s) (λ g. Then (continued g x) xs) (λ g. Then (continued g (renamed_item s x)) (renamed_list s xs))
        (λ g. ap (λ z. Then z (renamed_list s xs)) (continued_same g x)) (continue_slot (counts_of h) n x))
        ∙ moved_or s (renamed_list s) (of_slot (λ g. Then (broken g x) (but_first xs)) (break_slot (counts_of h) n x xs))
        (of_slot (λ g. Then (continued g x) xs) (continue_slot (counts_of h) n x))

    -- one of two lists
    either_same : {A B : Type 0} (n : ℕ) (a b : Forest) (F : A → B) (P Q : Forest → A) (R S : Forest → B) →
        ((c : Forest) → R (renamed_list s c) ≡ F (P c)) → ((c : Forest) → S (renamed_list s c) ≡ F (Q c))
        → next_list f n (renamed_list s a) ≡ moved s (renamed_list s) (next_list h n a) →
        next_list f n (renamed_list s b) ≡ moved s (renamed_list s) (next_list h n b)
        → or_else (put R (next_list f n (renamed_list s a))) (put S (next_list f n (renamed_list s b))) ≡ moved s F
        (or_else (put P (next_list h n a)) (put Q (next_list h n b)))
    either_same n a b F P Q R S u v i j =
        ap₂ (λ x y. or_else (put R x) (put S y)) i j
        ∙ ap₂ or_else (put_moved s (renamed_list s) F P R u (next_list h n a)) (put_moved s (renamed_list s) F Q S v (next_list h n b))
        ∙ moved_or s F (put P (next_list h n a)) (put Q (next_list h n b))

    mutual
      pub next_same : (a : Forest) (n : ℕ) → next_list f n (renamed_list s a) ≡ moved s (renamed_list s) (next_list h n a)
      next_same Nil n = refl
      next_same (Then x xs) n =
          more f n (renamed_item s x) (renamed_list s xs)
          ∙ ap₂ or_else
          (ap₂ or_else (here_same (suc n) x xs) (ap (put (λ y. Then y (renamed_list s xs))) (next_item_same x (suc n)) ∙
          put_moved s (renamed_item s) (renamed_list s) (λ y. Then y xs) (λ y. Then y (renamed_list s xs)) (λ c. refl) (next_item h (suc n) x))
          ∙ moved_or s (renamed_list s) (next_here h (suc n) (Then x xs)) (put (λ y. Then y xs) (next_item h (suc n) x)))
          (ap (put (Then (renamed_item s x))) (next_same xs n) ∙ put_moved s (renamed_list s) (renamed_list s) (Then x) (Then (renamed_item s x))
          (λ c. refl) (next_list h n xs))
          ∙ moved_or s (renamed_list s) (next_at h (suc n) (Then x xs)) (put (Then x) (next_list h n xs))
          ∙ sym (ap (moved s (renamed_list s)) (more h n x xs))

      next_item_same : (x : Tree) (n : ℕ) → next_item f n (renamed_item s x) ≡ moved s (renamed_item s) (next_item h n x)
      next_item_same (If t a b) n =
          in_if f n (renamed_test s t) (renamed_list s a) (renamed_list s b)
          ∙ either_same n a b (renamed_item s) (λ c. If t c b) (If t a) (λ c. If (renamed_test s t) c (renamed_list s b))
          (If (renamed_test s t) (renamed_list s a)) (λ c. refl) (λ c. refl) (next_same a n) (next_same b n)
          ∙ sym (ap (moved s (renamed_item s)) (in_if h n t a b))
      next_item_same (While t a) n =
          in_while f n (renamed_test s t) (renamed_list s a) ∙ ap (put (While (renamed_test s t))) (next_same a n)
          ∙ put_moved s (renamed_list s) (renamed_item s) (While t) (While (renamed_test s t)) (λ c. refl) (next_list h n a) ∙
          sym (ap (moved s (renamed_item s)) (in_while h n t a))
      next_item_same (Do a t) n =
          in_do f n (renamed_list s a) (renamed_test s t) ∙ ap (put (λ c. Do c (renamed_test s t))) (next_same a n)
          ∙ put_moved s (renamed_list s) (renamed_item s) (λ c. Do c t) (λ c. Do c (renamed_test s t)) (λ c. refl) (next_list h n a) ∙
          sym (ap (moved s (renamed_item s)) (in_do h n a t))
      next_item_same (For b t u a) n =
          in_for f n (renamed_list s b) (renamed_option s t) (renamed_option s u) (renamed_list s a)
          ∙ either_same n b a (renamed_item s) (λ c. For c t u a) (For b t u)
          (λ c. For c (renamed_option s t) (renamed_option s u) (renamed_list s a))
          (For (renamed_list s b) (renamed_option s t) (renamed_option s u)) (λ c. refl) (λ c. refl) (next_same b n) (next_same a n)
          ∙ sym (ap (moved s (renamed_item s)) (in_for h n b t u a))
      next_item_same (Switch v c) n =
          in_switch f n (renamed_selector s v) (renamed_sections s c) ∙ ap (put (Switch (renamed_selector s v))) (next_sections_same c n)
          ∙ put_moved s (renamed_sections s) (renamed_item s) (Switch v) (Switch (renamed_selector s v)) (λ c. refl) (next_sections h n c) ∙
          sym (ap (moved s (renamed_item s)) (in_switch h n v c))
      next_item_same (Block a) n =
          in_block f n (renamed_list s a) ∙ ap (put Block) (next_same a n)
          ∙ put_moved s (renamed_list s) (renamed_item s) Block Block (λ c. refl) (next_list h n a) ∙ sym (ap (moved s (renamed_item s)) (in_block h n a))
      next_item_same x n = refl

      next_sections_same : (c : Sections) (n : ℕ) → next_sections f n (renamed_sections s c) ≡ moved s (renamed_sections s) (next_sections h n c)
      next_sections_same NoSection n = refl
      next_sections_same (Section cases default a ends c) n =
          more_sections f n cases default (renamed_list s a) ends (renamed_sections s c)
          ∙ ap₂ (λ x y. or_else (put (λ b. Section cases default b ends (renamed_sections s c)) x)
          (put (Section cases default (renamed_list s a) ends) y)) (next_same a n) (next_sections_same c n)
          ∙ ap₂ or_else
          (put_moved s (renamed_list s) (renamed_sections s) (λ b. Section cases default b ends c)
          (λ b. Section cases default b ends (renamed_sections s c)) (λ b. refl) (next_list h n a))
          (put_moved s (renamed_sections s) (renamed_sections s) (Section cases default a ends) (Section cases default (renamed_list s a) ends)
          (λ b. refl) (next_sections h n c))
          ∙ moved_or s (renamed_sections s) (put (λ b. Section cases default b ends c) (next_list h n a))
          (put (Section cases default a ends) (next_sections h n c))
          ∙ sym (ap (moved s (renamed_sections s)) (more_sections h n cases default a ends c))
