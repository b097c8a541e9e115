-- What a change makes of a list whose slots have other numbers, each its own.
use mathlib.Core.Path.{ap₂}
use Rattle.std.proofs.Common.{ℕ, suc, ◌+◌, Bool, true, false, cond, ◌&&◌, ◌||◌, eqb, Option, Some, None, option_map, is_some, ◌≡◌, refl, sym, ap, ◌∙◌}
use Rattle.std.specs.Prelude.{pos, nat_le}
use Rattle.c_types.specs.declared.kinds.IntKind.TheVariants.{Int}
use Rattle.c_tree.specs.declared.tree.UnaryOp.TheVariants.{Not}
use Rattle.c_tree.specs.declared.tree.Home.TheVariants as H
use Rattle.c_tree.specs.ExpressionTrees.{ExpressionTree, Typed, Var, Number, Read, Unary, Assign}
use Rattle.c_tree.specs.TestTrees.{TestTree, Source}
use Rattle.c_tree.specs.Trees.{Tree, Forest, Nil, Then, Sections, NoSection, Section, Evaluate, If, While, Do, For, Switch, Block, Local, join}
use Rattle.c_tree.specs.Changed.{one}
use Rattle.plain_laws.proofs.SignaturesSame.{some_mapped}
use Rattle.tidy_laws.specs.Tails.{reads, is_off, is_check, is_end}
use Rattle.tidy_laws.specs.Mentions.{lacks}
use Rattle.tidy_laws.specs.Changes.{is_narrow_expression, set_value, is_number, leaving, has_local, given_way, checks, unchecked, set_or, inner, inner_item, inner_sections, tailed, tailed_item, low_set, are_low, is_low}
use Rattle.tidy_slots.specs.Counts.{one_if}
use Rattle.tidy_loops.specs.Exits.{checks_in, checks_of, checks_within, exits_in, exits_of}
use Rattle.tidy_laws.specs.Renamed.{renamed, renamed_test, renamed_selector, renamed_option, renamed_list, renamed_item, renamed_sections}
use Rattle.break_recovery.proofs.RenamedCounts.{three_same, lacks_same}

pub map_cond : {A B : Type 0} (f : A → B) (b : Bool) (o : Option A) → cond b (option_map f o) None ≡ option_map f (cond b o None)
map_cond f true o = refl
map_cond f false o = refl

module _ (s : ℕ → ℕ) (same : (x y : ℕ) → eqb (s x) (s y) ≡ eqb x y) where
  pub number_same : (n : ℕ) (e : ExpressionTree) → is_number n (renamed s e) ≡ is_number n e
  number_same n (Typed (Some Int) (Number (pos m))) = refl
  number_same n _ = refl

  narrow_same : (e : ExpressionTree) → is_narrow_expression (renamed s e) ≡ is_narrow_expression e
  narrow_same (Typed k n) = refl

  reads_same : (g : ℕ) (e : ExpressionTree) → reads (s g) (renamed s e) ≡ reads g e
  reads_same g (Typed k (Read (Var (H.Slot x)))) = same x g
  reads_same g _ = refl

  off_same : (g : ℕ) (e : ExpressionTree) → is_off (s g) (renamed s e) ≡ is_off g e
  off_same g (Typed k (Unary Not e)) = reads_same g e
  off_same g _ = refl

  check_same : (g : ℕ) (x : Tree) → is_check (s g) (renamed_item s x) ≡ is_check g x
  check_same g (If (Source e) a Nil) = off_same g e
  check_same g (If (Source e) a (Then x xs)) = refl
  check_same g _ = refl

  checks_same : (g : ℕ) (t : TestTree) (b : Forest) → checks (s g) (renamed_test s t) (renamed_list s b) ≡ checks g t b
  checks_same g (Source e) Nil = off_same g e
  checks_same g (Source e) (Then x xs) = refl
  checks_same g _ b = refl

  end_same : (g : ℕ) (a : Forest) → is_end (s g) (renamed_list s a) ≡ is_end g a
  end_same g Nil = refl
  end_same g (Then x Nil) = check_same g x
  end_same g (Then x (Then y ys)) = refl

  set_same : (g : ℕ) (e : ExpressionTree) → set_value (s g) (renamed s e) ≡ option_map (renamed s) (set_value g e)
  set_same g (Typed k (Assign (Var (H.Slot x)) e)) =
      ap (λ b. cond b (Some (renamed s e)) None) (three_same (λ a b c. a && (b && c)) (same x g) (narrow_same e) (lacks_same s same g e))
      ∙ map_cond (renamed s) (eqb x g && (is_narrow_expression e && lacks g e)) (Some e)
  set_same g _ = refl

  item_cond : (b : Bool) (x y : Tree) → renamed_item s (cond b x y) ≡ cond b (renamed_item s x) (renamed_item s y)
  item_cond true x y = refl
  item_cond false x y = refl

  leaving_same : (l : Tree) → renamed_item s l ≡ l → (e : ExpressionTree) → leaving l (renamed s e) ≡ renamed_item s (leaving l e)
  leaving_same l j e =
      ap₂ (λ b z. cond b z (If (Source (renamed s e)) (one z) Nil)) (number_same 1 e) (sym j)
      ∙ sym (item_cond (is_number 1 e) l (If (Source e) (one l) Nil))

  set_or_same : (l : Tree) → renamed_item s l ≡ l → (e : ExpressionTree) (v : Option ExpressionTree) →
      set_or l (renamed s e) (option_map (renamed s) v) ≡ renamed_item s (set_or l e v)
  set_or_same l j e None = refl
  set_or_same l j e (Some v) = leaving_same l j v

  join_same : (a b : Forest) → join (renamed_list s a) (renamed_list s b) ≡ renamed_list s (join a b)
  join_same Nil b = refl
  join_same (Then x xs) b = ap (Then (renamed_item s x)) (join_same xs b)

  local_same : (a : Forest) → has_local (renamed_list s a) ≡ has_local a
  local_same Nil = refl
  local_same (Then (Local x es) xs) = refl
  local_same (Then x xs) = local_same xs

  list_cond : (b : Bool) (x y : Forest) → cond b (renamed_list s x) (renamed_list s y) ≡ renamed_list s (cond b x y)
  list_cond true x y = refl
  list_cond false x y = refl

  given_same : (a : Forest) → given_way (renamed_list s a) ≡ renamed_list s (given_way a)
  given_same a = ap (λ b. cond b (one (Block (renamed_list s a))) (renamed_list s a)) (local_same a) ∙ list_cond (has_local a) (one (Block a)) a

  unchecked_same : (c : Bool) (t : TestTree) (a b : Forest) → unchecked c (renamed_test s t) (renamed_list s a) (renamed_list s b) ≡ renamed_list s
      (unchecked c t a b)
  unchecked_same true t a b = given_same a
  unchecked_same false t a b = refl

  if_same : (g : ℕ) (t : TestTree) (a b v w c d : Forest) → c ≡ renamed_list s v → d ≡ renamed_list s w
      → unchecked (checks (s g) (renamed_test s t) (renamed_list s b)) (renamed_test s t) c d ≡ renamed_list s (unchecked (checks g t b) t v w)
  if_same g t a b v w c d e h =
      three_same (λ k x y. unchecked k (renamed_test s t) x y) (checks_same g t b) e h ∙ unchecked_same (checks g t b) t v w

  mutual
    inner_same : (g : ℕ) (a : Forest) → inner (s g) (renamed_list s a) ≡ renamed_list s (inner g a)
    inner_same g Nil = refl
    inner_same g (Then x xs) = ap₂ join (inner_item_same g x) (inner_same g xs) ∙ join_same (inner_item g x) (inner g xs)

    inner_item_same : (g : ℕ) (x : Tree) → inner_item (s g) (renamed_item s x) ≡ renamed_list s (inner_item g x)
    inner_item_same g (If t a b) = if_same g t a b (inner g a) (inner g b) (inner (s g) (renamed_list s a)) (inner (s g) (renamed_list s b))
        (inner_same g a) (inner_same g b)
    inner_item_same g (While t a) = ap (λ z. one (While (renamed_test s t) z)) (inner_same g a)
    inner_item_same g (Do a t) = ap (λ z. one (Do z (renamed_test s t))) (inner_same g a)
    inner_item_same g (For f t u a) = ap (λ z. one (For (renamed_list s f) (renamed_option s t) (renamed_option s u) z)) (inner_same g a)
    inner_item_same g (Switch v c) = ap (λ z. one (Switch (renamed_selector s v) z)) (inner_sections_same g c)
    inner_item_same g (Block a) = ap (λ z. one (Block z)) (inner_same g a)
    inner_item_same g x = refl

    inner_sections_same : (g : ℕ) (c : Sections) → inner_sections (s g) (renamed_sections s c) ≡ renamed_sections s (inner_sections g c)
    inner_sections_same g NoSection = refl
    inner_sections_same g (Section cases default a ends c) = ap₂ (λ b d. Section cases default b ends d) (inner_same g a) (inner_sections_same g c)

  chosen_same : (b : Bool) (v w c d : Forest) → c ≡ renamed_list s v → d ≡ renamed_list s w → cond b c d ≡ renamed_list s (cond b v w)
  chosen_same true v w c d e h = e
  chosen_same false v w c d e h = h

  module _ (l : Tree) (j : renamed_item s l ≡ l) where
    mutual
      pub tailed_same : (g : ℕ) (a : Forest) → tailed (s g) l (renamed_list s a) ≡ renamed_list s (tailed g l a)
      tailed_same g Nil = refl
      tailed_same g (Then x xs) =
          ap₂ join
          (ap (λ b. cond b (tailed_item (s g) l (renamed_item s x)) (inner_item (s g) (renamed_item s x))) (end_same g xs)
          ∙ chosen_same (is_end g xs) (tailed_item g l x) (inner_item g x) (tailed_item (s g) l (renamed_item s x))
          (inner_item (s g) (renamed_item s x)) (tailed_item_same g x) (inner_item_same g x))
          (tailed_same g xs)
          ∙ join_same (cond (is_end g xs) (tailed_item g l x) (inner_item g x)) (tailed g l xs)

      tailed_item_same : (g : ℕ) (x : Tree) → tailed_item (s g) l (renamed_item s x) ≡ renamed_list s (tailed_item g l x)
      tailed_item_same g (Evaluate e) = ap (λ v. one (set_or l (renamed s e) v)) (set_same g e) ∙ ap one (set_or_same l j e (set_value g e))
      tailed_item_same g (If t a b) = if_same g t a b (tailed g l a) (tailed g l b) (tailed (s g) l (renamed_list s a))
          (tailed (s g) l (renamed_list s b)) (tailed_same g a) (tailed_same g b)
      tailed_item_same g x = inner_item_same g x

  mutual
    checks_in_same : (g : ℕ) (a : Forest) → checks_in (s g) (renamed_list s a) ≡ checks_in g a
    checks_in_same g Nil = refl
    checks_in_same g (Then x xs) = ap₂ (λ m n. m + n) (checks_of_same g x) (checks_in_same g xs)

    checks_of_same : (g : ℕ) (x : Tree) → checks_of (s g) (renamed_item s x) ≡ checks_of g x
    checks_of_same g (If t a b) = three_same (λ l m n. one_if l + (m + n)) (checks_same g t b) (checks_in_same g a) (checks_in_same g b)
    checks_of_same g (While t a) = checks_in_same g a
    checks_of_same g (Do a t) = checks_in_same g a
    checks_of_same g (For f t u a) = checks_in_same g a
    checks_of_same g (Switch v c) = checks_within_same g c
    checks_of_same g (Block a) = checks_in_same g a
    checks_of_same g x = refl

    checks_within_same : (g : ℕ) (c : Sections) → checks_within (s g) (renamed_sections s c) ≡ checks_within g c
    checks_within_same g NoSection = refl
    checks_within_same g (Section cases default a ends c) = ap₂ (λ m n. m + n) (checks_in_same g a) (checks_within_same g c)

  mutual
    pub exits_same : (g : ℕ) (a : Forest) → exits_in (s g) (renamed_list s a) ≡ exits_in g a
    exits_same g Nil = refl
    exits_same g (Then x xs) =
        ap₂ (λ m n. m + n) (three_same (λ (b : Bool) (m n : ℕ). cond b m n) (end_same g xs) (exits_of_same g x) (checks_of_same g x)) (exits_same g xs)

    exits_of_same : (g : ℕ) (x : Tree) → exits_of (s g) (renamed_item s x) ≡ exits_of g x
    exits_of_same g (Evaluate e) = ap one_if (ap is_some (set_same g e) ∙ some_mapped (renamed s) (set_value g e))
    exits_of_same g (If t a b) = three_same (λ l m n. one_if l + (m + n)) (checks_same g t b) (exits_same g a) (exits_same g b)
    exits_of_same g x = checks_of_same g x

  low_set_same : (n : ℕ) (o : Option ExpressionTree) → low_set n (option_map (renamed s) o) ≡ low_set n o
  low_set_same n None = refl
  low_set_same n (Some e) = ap (λ b. b || nat_le n 399) (number_same 1 e)

  mutual
    pub low_same : (g n : ℕ) (a : Forest) → are_low (s g) n (renamed_list s a) ≡ are_low g n a
    low_same g n Nil = refl
    low_same g n (Then x xs) = ap₂ (λ a b. a && b) (low_item_same g n x) (low_same g n xs)

    low_item_same : (g n : ℕ) (x : Tree) → is_low (s g) n (renamed_item s x) ≡ is_low g n x
    low_item_same g n (Evaluate e) = ap (low_set n) (set_same g e) ∙ low_set_same n (set_value g e)
    low_item_same g n (If t a b) = ap₂ (λ c d. c && d) (low_same g (suc n) a) (low_same g (suc n) b)
    low_item_same g n x = refl
