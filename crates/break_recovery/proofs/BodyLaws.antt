-- In the whole body: the changes that fit are those that are allowed.
use mathlib.Core.Path.{ap₂}
use Rattle.std.proofs.Common.{ℕ, zero, suc, ◌+◌, ◌-◌, Bool, true, false, cond, ◌&&◌, ◌||◌, eqb, List, [], ◌∷◌, ◌++◌, length, Option, Some, None, option_map, ◌≡◌, refl, sym, ap, ◌∙◌, arith}
use Rattle.std.specs.Prelude.{filter}
use Rattle.std.specs.Option.{option_map_or}
use Rattle.c_tree.specs.ExpressionTrees.{ExpressionTree}
use Rattle.c_tree.specs.TestTrees.{TestTree}
use Rattle.c_tree.specs.Trees.{Tree, Forest, Nil, Then, If, While, Do, For, Switch, Block, Local, Sections, Break, Continue}
use Rattle.jump_meaning.specs.Code.{FunctionTree, items_of, entry_or}
use Rattle.jump_meaning.specs.World.{no_slot}
use Rattle.tidy_laws.specs.Mentions.{list_lacks}
use Rattle.tidy_laws.specs.Changes.{tailed, are_low, changed_sections, is_reset, with_breaks, second_test, broken_loop, after_reset, both_there, with_continues, before_reset, continued_loop, listed, changed_for, around, changed_lists, changed_items, is_flag, is_zero_value, is_declaration, undeclared, declares, is_allowed, changes}
use Rattle.tidy_slots.specs.Counts.{one_if, values_count, list_count, item_count}
use Rattle.tidy_slots.proofs.CountLemmas.{count_laws_hold}
use Rattle.tidy_loops.specs.Fits.{fits}
use Rattle.tidy_loops.proofs.Single.{eqb_same}
use Rattle.tidy_loops.proofs.AtLoop.{number_count}
use Rattle.break_recovery.specs.Next.{first, next_list}
use Rattle.break_recovery.specs.Laws.{SearchLaws}
use Rattle.break_recovery.proofs.NextLaws.{more, in_if, in_while, in_do, in_for, in_switch, in_block, more_sections}

-- ---- of each entry of a list

abbrev pub Each : {A : Type 0} → (A → Type 0) → List A → Type 0
Each P [] = Unit {0}
Each P (x ∷ xs) = P x × Each P xs

pub each_append : {A : Type 0} (P : A → Type 0) (xs ys : List A) → Each P xs → Each P ys → Each P (xs ++ ys)
each_append P [] ys p q = q
each_append P (x ∷ xs) ys p q = (p.0, each_append P xs ys p.1 q)

pub each_around : {A B : Type 0} (P : ℕ × B → Type 0) (f : A → B) (cs : List (ℕ × A)) → Each (λ (c : ℕ × A). P (c.0, f c.1)) cs → Each P (around f cs)
each_around P f [] p = tt
each_around P f (c ∷ cs) p = (p.0, each_around P f cs p.1)

each_all : {A : Type 0} (P : A → Type 0) (xs : List A) → ((x : A) → P x) → Each P xs
each_all P [] h = tt
each_all P (x ∷ xs) h = (h x, each_all P xs h)

listed_each : (P : ℕ × Forest → Type 0) (g : ℕ) (o : Option Forest) → ((a : Forest) → o ≡ Some a → P (g, a)) → Each P (listed g o)
listed_each P g None h = tt
listed_each P g (Some a) h = (h a refl, tt)

pub for_each : (P : ℕ × Forest → Type 0) (F : ℕ → Option Forest) → ((g : ℕ) (a : Forest) → F g ≡ Some a → P (g, a)) → (p n : ℕ) → Each P (changed_for F p n)
for_each P F h p zero = tt
for_each P F h p (suc n) = each_append P (listed p (F p)) (changed_for F (suc p) n) (listed_each P p (F p) (h p)) (for_each P F h (suc p) n)

-- ---- declarations stay

abbrev pub KeepsDeclared : Forest → ℕ × Forest → Type 0
KeepsDeclared a c = (h : ℕ) → declares h c.1 ≡ declares h a

cond_no : (h : ℕ) (b : Bool) (v y : Tree) → is_declaration h v ≡ false → cond b (Some v) None ≡ Some y → is_declaration h y ≡ false
cond_no h true v y k e = sym (ap (λ o. option_map_or (is_declaration h) o false) e) ∙ k
cond_no h false v y k e = cc

broken_with : (g h n : ℕ) (loop : TestTree → Forest → Tree) → ((t : TestTree) (a : Forest) → is_declaration h (loop t a) ≡ false) →
    (o : Option TestTree) (a : Forest) (y : Tree) → with_breaks g n loop o a ≡ Some y → is_declaration h y ≡ false
broken_with g h n loop k None a y e = cc
broken_with g h n loop k (Some t) a y e = cond_no h (are_low g n a) (loop t (tailed g Break a)) y (k t (tailed g Break a)) e

broken_no : (g h n : ℕ) (x y : Tree) → broken_loop g n x ≡ Some y → is_declaration h y ≡ is_declaration h x
broken_no g h n (While t a) y e = broken_with g h n While (λ t a. refl) (second_test g t) a y e
broken_no g h n (Do a t) y e = broken_with g h n (λ t a. Do a t) (λ t a. refl) (second_test g t) a y e
broken_no g h n _ y e = cc

continued_with : (g h n : ℕ) (loop : Forest → Tree) → ((a : Forest) → is_declaration h (loop a) ≡ false) → (o : Option Forest) (y : Tree) →
    with_continues g n loop o ≡ Some y → is_declaration h y ≡ false
continued_with g h n loop k None y e = cc
continued_with g h n loop k (Some a) y e = cond_no h (are_low g n a) (loop (tailed g Continue a)) y (k (tailed g Continue a)) e

continued_no : (g h n : ℕ) (x y : Tree) → continued_loop g n x ≡ Some y → is_declaration h y ≡ is_declaration h x
continued_no g h n (While t a) y e = continued_with g h n (While t) (λ a. refl) (before_reset g a) y e
continued_no g h n (Do a t) y e = continued_with g h n (λ a. Do a t) (λ a. refl) (before_reset g a) y e
continued_no g h n (For f t u a) y e = continued_with g h n (For f t u) (λ a. refl) (before_reset g a) y e
continued_no g h n _ y e = cc

reset_no : (g h : ℕ) (x : Tree) → is_reset g x ≡ true → is_declaration h x ≡ false
reset_no g h (Local x es) k = cc
reset_no g h _ k = refl

after_at : (g h : ℕ) (r : Tree) (rest ys : Forest) (b : Bool) → is_reset g r ≡ b → cond b (Some rest) None ≡ Some ys → declares h ys ≡ declares h (Then r rest)
after_at g h r rest ys true k e = sym (ap (λ o. option_map_or (declares h) o false) e) ∙ sym (ap (λ b. b || declares h rest) (reset_no g h r k))
after_at g h r rest ys false k e = cc

after_no : (g h : ℕ) (xs ys : Forest) → after_reset g xs ≡ Some ys → declares h ys ≡ declares h xs
after_no g h Nil ys e = cc
after_no g h (Then r rest) ys e = after_at g h r rest ys (is_reset g r) refl e

both_by : (h : ℕ) (x : Tree) (xs l : Forest) (o : Option Tree) (q : Option Forest) →
    ((y : Tree) → o ≡ Some y → is_declaration h y ≡ is_declaration h x) → ((ys : Forest) → q ≡ Some ys → declares h ys ≡ declares h xs)
    → both_there o q ≡ Some l → declares h l ≡ declares h (Then x xs)
both_by h x xs l (Some y) (Some ys) i k e = sym (ap (λ o. option_map_or (declares h) o false) e) ∙ ap₂ (λ a b. a || b) (i y refl) (k ys refl)
both_by h x xs l (Some y) None i k e = cc
both_by h x xs l None q i k e = cc

first_by : (h : ℕ) (x : Tree) (xs l : Forest) (o : Option Tree) → ((y : Tree) → o ≡ Some y → is_declaration h y ≡ is_declaration h x) →
    option_map (λ y. Then y xs) o ≡ Some l → declares h l ≡ declares h (Then x xs)
first_by h x xs l (Some y) i e = sym (ap (λ o. option_map_or (declares h) o false) e) ∙ ap (λ b. b || declares h xs) (i y refl)
first_by h x xs l None i e = cc

abbrev pub KeepsKind : Tree → ℕ × Tree → Type 0
KeepsKind x c = (h : ℕ) → is_declaration h c.1 ≡ is_declaration h x

pub items_keep : (p k n : ℕ) (x : Tree) → Each (KeepsKind x) (changed_items p k n x)
items_keep p k n (If t a b) =
    each_append (KeepsKind (If t a b)) (around (λ c. If t c b) (changed_lists p k n a)) (around (If t a) (changed_lists p k n b))
    (each_around (KeepsKind (If t a b)) (λ c. If t c b) (changed_lists p k n a)
    (each_all (λ (c : ℕ × Forest). KeepsKind (If t a b) (c.0, If t c.1 b)) (changed_lists p k n a) (λ c h. refl)))
    (each_around (KeepsKind (If t a b)) (If t a) (changed_lists p k n b)
    (each_all (λ (c : ℕ × Forest). KeepsKind (If t a b) (c.0, If t a c.1)) (changed_lists p k n b) (λ c h. refl)))
items_keep p k n (While t a) = each_around (KeepsKind (While t a)) (While t) (changed_lists p k n a)
    (each_all (λ (c : ℕ × Forest). KeepsKind (While t a) (c.0, While t c.1)) (changed_lists p k n a) (λ c h. refl))
items_keep p k n (Do a t) = each_around (KeepsKind (Do a t)) (λ c. Do c t) (changed_lists p k n a)
    (each_all (λ (c : ℕ × Forest). KeepsKind (Do a t) (c.0, Do c.1 t)) (changed_lists p k n a) (λ c h. refl))
items_keep p k n (For f t u a) =
    each_append (KeepsKind (For f t u a)) (around (λ c. For c t u a) (changed_lists p k n f)) (around (For f t u) (changed_lists p k n a))
    (each_around (KeepsKind (For f t u a)) (λ c. For c t u a) (changed_lists p k n f)
    (each_all (λ (c : ℕ × Forest). KeepsKind (For f t u a) (c.0, For c.1 t u a)) (changed_lists p k n f) (λ c h. refl)))
    (each_around (KeepsKind (For f t u a)) (For f t u) (changed_lists p k n a)
    (each_all (λ (c : ℕ × Forest). KeepsKind (For f t u a) (c.0, For f t u c.1)) (changed_lists p k n a) (λ c h. refl)))
items_keep p k n (Switch s d) = each_around (KeepsKind (Switch s d)) (Switch s) (changed_sections p k n d)
    (each_all (λ (c : ℕ × Sections). KeepsKind (Switch s d) (c.0, Switch s c.1)) (changed_sections p k n d) (λ c h. refl))
items_keep p k n (Block a) = each_around (KeepsKind (Block a)) Block (changed_lists p k n a)
    (each_all (λ (c : ℕ × Forest). KeepsKind (Block a) (c.0, Block c.1)) (changed_lists p k n a) (λ c h. refl))
items_keep p k n x = tt

pub each_weaker : {A : Type 0} (P Q : A → Type 0) → ((x : A) → P x → Q x) → (xs : List A) → Each P xs → Each Q xs
each_weaker P Q h [] p = tt
each_weaker P Q h (x ∷ xs) p = (h x p.0, each_weaker P Q h xs p.1)

pub lists_keep : (p k n : ℕ) (a : Forest) → Each (KeepsDeclared a) (changed_lists p k n a)
lists_keep p k n Nil = tt
lists_keep p k n (Then x xs) =
    let P = KeepsDeclared (Then x xs) in
    let F : ℕ → Option Forest = λ g. both_there (broken_loop g (suc n) x) (after_reset g xs) in
    let G : ℕ → Option Forest = λ g. option_map (λ y. Then y xs) (continued_loop g (suc n) x) in
    let C = changed_items p k (suc n) x in
    let D = changed_lists p k n xs in
    each_append P (changed_for F p k ++ changed_for G p k) (around (λ y. Then y xs) C ++ around (Then x) D)
    (each_append P (changed_for F p k) (changed_for G p k)
    (for_each P F (λ g l e h. both_by h x xs l (broken_loop g (suc n) x) (after_reset g xs) (λ y. broken_no g h (suc n) x y) (λ ys. after_no g h xs ys) e) p k)
    (for_each P G (λ g l e h. first_by h x xs l (continued_loop g (suc n) x) (λ y. continued_no g h (suc n) x y) e) p k))
    (each_append P (around (λ y. Then y xs) C) (around (Then x) D)
    (each_around P (λ y. Then y xs) C (each_weaker (KeepsKind x) (λ (c : ℕ × Tree). P (c.0, Then c.1 xs))
    (λ c k h. ap (λ b. b || declares h xs) (k h)) C (items_keep p k (suc n) x)))
    (each_around P (Then x) D (each_weaker (KeepsDeclared xs) (λ (c : ℕ × Forest). P (c.0, Then x c.1))
    (λ c k h. ap (λ b. is_declaration h x || b) (k h)) D (lists_keep p k n xs))))

-- ---- the declaration names it once

pub zero_values : (g : ℕ) (es : Option (List ExpressionTree)) → is_zero_value es ≡ true → values_count g es ≡ 0
zero_values g (Some (e ∷ [])) h = let k = number_count g e h in omega (arith, k)
zero_values g _ h = cc

pub both_so : (a b : Bool) → (a && b) ≡ true → (a ≡ true) × (b ≡ true)
both_so true b h = (refl, h)
both_so false b h = cc

declared_once : (g : ℕ) (x : Tree) → is_declaration g x ≡ true → item_count g x ≡ 1
declared_once g (Local x es) h =
    let b = both_so (eqb x g) (is_zero_value es) h in
    let k = ap one_if b.0 in
    let l = zero_values g es b.1 in
    omega (arith, k, l)
declared_once g _ h = cc

undeclared_at : (g : ℕ) (x : Tree) (xs ys : Forest) (b : Bool) → is_declaration g x ≡ b → (b || declares g xs) ≡ true →
    (declares g xs ≡ true → list_count g xs ≡ suc (list_count g ys)) → item_count g x + list_count g xs ≡ suc (list_count g (cond b xs (Then x ys)))
undeclared_at g x xs ys true e h r = let p = declared_once g x e in omega (arith, p)
undeclared_at g x xs ys false e h r = let p = r h in omega (arith, p)

pub undeclared_parts : (g : ℕ) (a : Forest) → declares g a ≡ true → list_count g a ≡ suc (list_count g (undeclared g a))
undeclared_parts g Nil h = cc
undeclared_parts g (Then x xs) h = undeclared_at g x xs (undeclared g xs) (is_declaration g x) refl h (undeclared_parts g xs)

-- ---- both tests say the same

both_tests : (F d E L : Bool) → (d ≡ true → E ≡ L) → ((F && d) && E) ≡ (F && (d && L))
both_tests true true E L h = h refl
both_tests true false E L h = refl
both_tests false d E L h = refl

allowed_is : (f : FunctionTree) (a : Forest) → f.body ≡ Some a → (c : ℕ × Forest) → KeepsDeclared a c → fits f a c ≡ is_allowed f.slots c
allowed_is f a e c k =
    let g = c.0 in
    let F = is_flag (entry_or no_slot f.slots g) in
    let E = eqb (list_count g a + list_count g c.1) (suc (list_count g a)) in
    let i : items_of f ≡ a = ap (λ b. option_map_or (λ a. a) b Nil) e in
    ap (λ z. (F && declares g z) && eqb (list_count g z + list_count g c.1) (suc (list_count g a))) i
    ∙ ap (λ d. (F && d) && E) (sym (k g))
    ∙ both_tests F (declares g c.1) E (list_lacks g (undeclared g c.1))
    (λ h. let u = undeclared_parts g c.1 h in
    eqb_same (list_count g a + list_count g c.1) (suc (list_count g a)) (list_count g (undeclared g c.1)) 0 (λ w. omega (arith, u, w))
    (λ w. omega (arith, u, w)) ∙ sym (count_laws_hold.none g (undeclared g c.1)))

filter_same : {A : Type 0} (P Q : A → Bool) (cs : List A) → Each (λ c. P c ≡ Q c) cs → filter P cs ≡ filter Q cs
filter_same P Q [] h = refl
filter_same P Q (c ∷ cs) h = ap (λ b. cond b (c ∷ filter P cs) (filter P cs)) h.0 ∙ ap (λ z. cond (Q c) (c ∷ z) z) (filter_same P Q cs h.1)

whole : (f : FunctionTree) (a : Forest) → f.body ≡ Some a → next_list f 1 a ≡ first (changes f a)
whole f a e =
    let cs = changed_lists f.params (length f.slots - f.params) 1 a in
    ap first (filter_same (fits f a) (is_allowed f.slots) cs
    (each_weaker (KeepsDeclared a) (λ c. fits f a c ≡ is_allowed f.slots c) (allowed_is f a e) cs (lists_keep f.params (length f.slots - f.params) 1 a)))

pub search_laws_hold : SearchLaws
search_laws_hold = record {
  none = λ f n. refl;
  more = more;
  in_if = in_if;
  in_while = in_while;
  in_do = in_do;
  in_for = in_for;
  in_switch = in_switch;
  in_block = in_block;
  no_section = λ f n. refl;
  more_sections = more_sections;
  whole = whole;
}
