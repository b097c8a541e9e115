-- The changes at one loop.
use Rattle.std.proofs.Common.{ℕ, suc, ◌+◌, ◌-◌, Bool, true, false, cond, ◌&&◌, eqb, leb, ltb, length, Option, Some, None, option_map, ◌≡◌, ◌≢◌, refl, sym, ap, ◌∙◌, pos, arith}
use Rattle.std.specs.Prelude.{filter}
use Rattle.std.proofs.lemmas.Bool.{eq-eqb, ne_eqb}
use Rattle.c_types.specs.declared.kinds.IntKind.TheVariants.{Int}
use Rattle.c_tree.specs.declared.tree.BinaryOp.TheVariants.{AndThen}
use Rattle.c_tree.specs.declared.tree.Home.TheVariants as H
use Rattle.c_tree.specs.ExpressionTrees.{ExpressionTree, PlaceTree, Typed, Var, Cell, Number, Assign, Binary}
use Rattle.c_tree.specs.TestTrees.{TestTree, Source}
use Rattle.c_tree.specs.Trees.{Tree, Forest, Nil, Then, Evaluate, While, Do, For, Break, Continue}
use Rattle.jump_meaning.specs.Code.{FunctionTree, items_of}
use Rattle.tidy_laws.specs.Changes.{is_number, is_reset, tailed, are_low, second_test, before_reset, after_reset, both_there, with_breaks, broken_loop, with_continues, continued_loop}
use Rattle.tidy_slots.specs.Counts.{one_if, expression_count, place_count, test_count, option_count, list_count, item_count}
use Rattle.tidy_loops.specs.declared.exits.Exit.TheVariants as E
use Rattle.tidy_loops.specs.Views.{place_slot, is_it, is_int_kind}
use Rattle.tidy_loops.specs.Exits.{exits_in}
use Rattle.tidy_loops.proofs.FormLaws.{off_it}
use Rattle.tidy_loops.proofs.ExitCounts.{off_one}
use Rattle.tidy_loops.proofs.Gone.{exit_laws_hold}
use Rattle.tidy_loops.specs.Fits.{is_declared_flag, fits}
use Rattle.tidy_loops.specs.Slots.{may_go, counts_of, stop_slot, rest_test, reset_slot, first_reset, last_reset, but_last, but_first, allowed, breaks, continues, break_slot, continue_slot, broken, continued, broken_lists, continued_lists, found}
use Rattle.tidy_loops.specs.LoopLaws.{LoopLaws}
use Rattle.tidy_loops.proofs.Single.{eqb_same, kept_slots, kept_none, left_true}

-- ---- what is read

and_number : (a b : Bool) → (a && b) ≡ cond b a false
and_number true true = refl
and_number true false = refl
and_number false true = refl
and_number false false = refl

it_if : (g : ℕ) (b : Bool) (s : Option ℕ) → is_it g (cond b s None) ≡ cond b (is_it g s) false
it_if g true s = refl
it_if g false s = refl

reset_at : (g : ℕ) (p : PlaceTree) (e : ExpressionTree) → is_reset g (Evaluate (Typed (Some Int) (Assign p e))) ≡ cond (is_number 0 e)
    (is_it g (place_slot p)) false
reset_at g (Var (H.Slot x)) e = and_number (eqb x g) (is_number 0 e)
reset_at g (Var (H.Global m)) e = sym (never (is_number 0 e))
  where
    never : (b : Bool) → cond b false false ≡ false
    never true = refl
    never false = refl
reset_at g (Cell h a) e = sym (never (is_number 0 e))
  where
    never : (b : Bool) → cond b false false ≡ false
    never true = refl
    never false = refl

reset_is : (g : ℕ) (x : Tree) → is_reset g x ≡ is_it g (reset_slot x)
reset_is g (Evaluate (Typed (Some Int) (Assign p e))) = reset_at g p e ∙ sym (it_if g (is_number 0 e) (place_slot p))
reset_is g (Evaluate (Typed k (Assign p e))) = refl
reset_is g _ = refl

first_is : (g : ℕ) (xs : Forest) → after_reset g xs ≡ cond (is_it g (first_reset xs)) (Some (but_first xs)) None
first_is g Nil = refl
first_is g (Then x xs) = ap (λ b. cond b (Some xs) None) (reset_is g x)

map_cond : {A B : Type 0} (f : A → B) (v : A) (b : Bool) → option_map f (cond b (Some v) None) ≡ cond b (Some (f v)) None
map_cond f v true = refl
map_cond f v false = refl

last_is : (g : ℕ) (a : Forest) → before_reset g a ≡ cond (is_it g (last_reset a)) (Some (but_last a)) None
last_is g Nil = refl
last_is g (Then x Nil) = ap (λ b. cond b (Some Nil) None) (reset_is g x)
last_is g (Then x (Then y ys)) = ap (option_map (Then x)) (last_is g (Then y ys)) ∙ map_cond (Then x) (but_last (Then y ys)) (is_it g (last_reset (Then y ys)))

second_is : (g : ℕ) (t : TestTree) → second_test g t ≡ cond (is_it g (stop_slot t)) (Some (rest_test t)) None
second_is g (Source (Typed k (Binary AndThen e t))) = ap (λ b. cond b (Some (Source t)) None) (off_it g e)
second_is g _ = refl

-- ---- how often that names it

-- a number names no slot
pub number_count : (g : ℕ) (e : ExpressionTree) → is_number 0 e ≡ true → expression_count g e ≡ 0
number_count g (Typed (Some Int) (Number (pos m))) h = refl
number_count g _ h = cc

reset_count_at : (g : ℕ) (p : PlaceTree) (e : ExpressionTree) (a b : Bool) → is_number 0 e ≡ b → is_it g (cond (a && b) (place_slot p) None) ≡ true →
    place_count g p + expression_count g e ≡ 1
reset_count_at g (Var (H.Slot x)) e true true i h = let k = number_count g e i in let l = ap one_if h in omega (arith, k, l)
reset_count_at g (Var (H.Global m)) e true true i h = cc
reset_count_at g (Cell k a) e true true i h = cc
reset_count_at g p e true false i h = cc
reset_count_at g p e false b i h = cc

reset_once : (g : ℕ) (x : Tree) → is_it g (reset_slot x) ≡ true → item_count g x ≡ 1
reset_once g (Evaluate (Typed k (Assign p e))) h = reset_count_at g p e (is_int_kind k) (is_number 0 e) refl h
reset_once g _ h = cc

first_once : (g : ℕ) (xs : Forest) → is_it g (first_reset xs) ≡ true → list_count g xs ≡ suc (list_count g (but_first xs))
first_once g Nil h = cc
first_once g (Then x xs) h = let p = reset_once g x h in omega (arith, p)

last_once : (g : ℕ) (a : Forest) → is_it g (last_reset a) ≡ true → list_count g a ≡ suc (list_count g (but_last a))
last_once g Nil h = cc
last_once g (Then x Nil) h = let p = reset_once g x h in omega (arith, p)
last_once g (Then x (Then y ys)) h = let p = last_once g (Then y ys) h in omega (arith, p)

stop_once : (g : ℕ) (t : TestTree) → is_it g (stop_slot t) ≡ true → test_count g t ≡ suc (test_count g (rest_test t))
stop_once g (Source (Typed k (Binary AndThen e t))) h = let p = off_one g e (off_it g e ∙ h) in omega (arith, p)
stop_once g _ h = cc

it_is : (s : ℕ) (so : Option ℕ) → so ≡ Some s → is_it s so ≡ true
it_is s so e = ap (is_it s) e ∙ itself s
  where
    itself : (n : ℕ) → eqb n n ≡ true
    itself n = eq-eqb n n refl

-- ---- by break

made_both : (X : Tree) (rest : Forest) (c d : Bool) → both_there (cond d (Some X) None) (cond c (Some rest) None) ≡ cond (c && d) (Some (Then X rest)) None
made_both X rest true true = refl
made_both X rest true false = refl
made_both X rest false true = refl
made_both X rest false false = refl

broken_at : (g n : ℕ) (loop : TestTree → Forest → Tree) (r : TestTree) (a rest : Forest) (b c : Bool)
    → both_there (with_breaks g n loop (cond b (Some r) None) a) (cond c (Some rest) None) ≡ cond b
    (cond (c && are_low g n a) (Some (Then (loop r (tailed g Break a)) rest)) None) None
broken_at g n loop r a rest true c = made_both (loop r (tailed g Break a)) rest c (are_low g n a)
broken_at g n loop r a rest false c = refl

broken_is : (g n : ℕ) (loop : TestTree → Forest → Tree) (t : TestTree) (a xs : Forest)
    → both_there (with_breaks g n loop (second_test g t) a) (after_reset g xs)
    ≡ cond (is_it g (stop_slot t)) (cond (is_it g (first_reset xs) && are_low g n a)
    (Some (Then (loop (rest_test t) (tailed g Break a)) (but_first xs))) None) None
broken_is g n loop t a xs =
    ap (λ z. both_there (with_breaks g n loop z a) (after_reset g xs)) (second_is g t)
    ∙ ap (λ z. both_there (with_breaks g n loop (cond (is_it g (stop_slot t)) (Some (rest_test t)) None) a) z) (first_is g xs)
    ∙ broken_at g n loop (rest_test t) a (but_first xs) (is_it g (stop_slot t)) (is_it g (first_reset xs))

shuffled : (i r f l e : Bool) → (i && (l && ((r && f) && e))) ≡ (r && ((i && l) && (f && e)))
shuffled true true f true e = refl
shuffled true true f false e = refl
shuffled true false f true e = refl
shuffled true false f false e = refl
shuffled false true f l e = refl
shuffled false false f l e = refl

-- what is counted of a slot that may not go is no number from 1 on
counted_if : (b : Bool) (m k : ℕ) → eqb (cond b m 0) (suc k) ≡ (b && eqb m (suc k))
counted_if true m k = refl
counted_if false m k = let q : 0 ≢ suc k = omega arith in ne_eqb 0 (suc k) q

counted : (f : FunctionTree) (g n k : ℕ) → n ≡ suc k → eqb (counts_of f g) n ≡ (may_go f g && eqb (list_count g (items_of f)) n)
counted f g n k e =
    ap (eqb (counts_of f g)) e ∙ counted_if (may_go f g) (list_count g (items_of f)) k ∙ sym (ap (λ m. may_go f g && eqb (list_count g (items_of f)) m) e)

break_fits : (f : FunctionTree) (s : ℕ) (x : Tree) (t : TestTree) (a xs : Forest) (loop : TestTree → Forest → Tree)
    → item_count s x ≡ test_count s t + list_count s a → item_count s (loop (rest_test t) (tailed s Break a)) ≡ test_count s
    (rest_test t) + list_count s (tailed s Break a)
    → stop_slot t ≡ Some s → is_it s (first_reset xs) ≡ true
    → fits f (Then x xs) (s, Then (loop (rest_test t) (tailed s Break a)) (but_first xs)) ≡ (is_declared_flag f s &&
    eqb (list_count s (items_of f)) (3 + exits_in s a))
break_fits f s x t a xs loop u v e h =
    let p = stop_once s t (it_is s (stop_slot t) e) in
    let q = first_once s xs h in
    let r = exit_laws_hold.gone s E.Break a in
    ap (λ z. is_declared_flag f s && z)
    (eqb_same (list_count s (items_of f) + (item_count s (loop (rest_test t) (tailed s Break a)) + list_count s (but_first xs)))
    (suc (item_count s x + list_count s xs)) (list_count s (items_of f)) (3 + exits_in s a)
    (λ w. omega (arith, u, v, p, q, r, w)) (λ w. omega (arith, u, v, p, q, r, w)))

by_break_loop : (f : FunctionTree) (n : ℕ) (x : Tree) (t : TestTree) (a xs : Forest) (loop : TestTree → Forest → Tree)
    → ((g : ℕ) → item_count g x ≡ test_count g t + list_count g a) →
    ((g : ℕ) → item_count g (loop (rest_test t) (tailed g Break a)) ≡ test_count g (rest_test t) + list_count g (tailed g Break a))
    → ((g : ℕ) → broken_loop g n x ≡ with_breaks g n loop (second_test g t) a)
    → filter (fits f (Then x xs)) (broken_lists f n x xs) ≡ found (λ g. Then (loop (rest_test t) (tailed g Break a)) (but_first xs))
    (allowed (breaks (counts_of f) n a xs) (stop_slot t))
by_break_loop f n x t a xs loop u v k =
    kept_slots (λ g. both_there (broken_loop g n x) (after_reset g xs)) (fits f (Then x xs)) (stop_slot t)
    (λ g. Then (loop (rest_test t) (tailed g Break a)) (but_first xs))
    (λ g. is_it g (first_reset xs) && are_low g n a) (λ g. is_declared_flag f g && eqb (list_count g (items_of f)) (3 + exits_in g a))
    (breaks (counts_of f) n a xs)
    f.params (length f.slots)
    (λ g. ap (λ z. both_there z (after_reset g xs)) (k g) ∙ broken_is g n loop t a xs)
    (λ s e b. break_fits f s x t a xs loop (u s) (v s) e (left_true (is_it s (first_reset xs)) (are_low s n a) b))
    (λ s. ap (λ b. is_it s (first_reset xs) && (are_low s n a && b)) (counted f s (3 + exits_in s a) (2 + exits_in s a) (omega arith))
    ∙ shuffled (is_it s (first_reset xs)) (leb f.params s && ltb s (length f.slots)) (is_declared_flag f s) (are_low s n a)
    (eqb (list_count s (items_of f)) (3 + exits_in s a)))

by_break : (f : FunctionTree) (n : ℕ) (x : Tree) (xs : Forest) → filter (fits f (Then x xs)) (broken_lists f n x xs) ≡ found
    (λ g. Then (broken g x) (but_first xs)) (break_slot (counts_of f) n x xs)
by_break f n (While t a) xs = by_break_loop f n (While t a) t a xs While (λ g. refl) (λ g. refl) (λ g. refl)
by_break f n (Do a t) xs = by_break_loop f n (Do a t) t a xs (λ t a. Do a t) (λ g. omega arith) (λ g. omega arith) (λ g. refl)
by_break f n x xs = kept_none (λ g. both_there (broken_loop g n x) (after_reset g xs)) (fits f (Then x xs)) f.params (length f.slots - f.params) (λ g. refl)

-- ---- by continue

continued_at : (g n : ℕ) (loop : Forest → Tree) (a xs : Forest) (b : Bool)
    → option_map (λ y. Then y xs) (with_continues g n loop (cond b (Some a) None)) ≡ cond b
    (cond (are_low g n a) (Some (Then (loop (tailed g Continue a)) xs)) None) None
continued_at g n loop a xs true = map_cond (λ y. Then y xs) (loop (tailed g Continue a)) (are_low g n a)
continued_at g n loop a xs false = refl

moved : (r f l e : Bool) → (l && ((r && f) && e)) ≡ (r && (l && (f && e)))
moved true f l e = refl
moved false f true e = refl
moved false f false e = refl

continue_fits : (f : FunctionTree) (s h : ℕ) (x y : Tree) (a xs : Forest)
    → item_count s x ≡ h + list_count s a → item_count s y ≡ h + list_count s (tailed s Continue (but_last a)) → is_it s (last_reset a) ≡ true
    → fits f (Then x xs) (s, Then y xs) ≡ (is_declared_flag f s && eqb (list_count s (items_of f)) (2 + exits_in s (but_last a)))
continue_fits f s h x y a xs u v e =
    let q = last_once s a e in
    let r = exit_laws_hold.gone s E.Continue (but_last a) in
    ap (λ z. is_declared_flag f s && z)
    (eqb_same (list_count s (items_of f) + (item_count s y + list_count s xs)) (suc (item_count s x + list_count s xs)) (list_count s (items_of f))
    (2 + exits_in s (but_last a))
    (λ w. omega (arith, u, v, q, r, w)) (λ w. omega (arith, u, v, q, r, w)))

by_continue_loop : (f : FunctionTree) (n : ℕ) (x : Tree) (a xs : Forest) (loop : Forest → Tree) (head : ℕ → ℕ)
    → ((g : ℕ) → item_count g x ≡ head g + list_count g a) →
    ((g : ℕ) → item_count g (loop (tailed g Continue (but_last a))) ≡ head g + list_count g (tailed g Continue (but_last a)))
    → ((g : ℕ) → continued_loop g n x ≡ with_continues g n loop (before_reset g a))
    → filter (fits f (Then x xs)) (continued_lists f n x xs) ≡ found (λ g. Then (loop (tailed g Continue (but_last a))) xs)
    (allowed (continues (counts_of f) n (but_last a)) (last_reset a))
by_continue_loop f n x a xs loop head u v k =
    kept_slots (λ g. option_map (λ y. Then y xs) (continued_loop g n x)) (fits f (Then x xs)) (last_reset a)
    (λ g. Then (loop (tailed g Continue (but_last a))) xs)
    (λ g. are_low g n (but_last a)) (λ g. is_declared_flag f g && eqb (list_count g (items_of f)) (2 + exits_in g (but_last a)))
    (continues (counts_of f) n (but_last a))
    f.params (length f.slots)
    (λ g. ap (option_map (λ y. Then y xs)) (k g ∙ ap (with_continues g n loop) (last_is g a)) ∙ continued_at g n loop (but_last a) xs (is_it g (last_reset a)))
    (λ s e b. continue_fits f s (head s) x (loop (tailed s Continue (but_last a))) a xs (u s) (v s) (it_is s (last_reset a) e))
    (λ s. ap (λ b. are_low s n (but_last a) && b) (counted f s (2 + exits_in s (but_last a)) (1 + exits_in s (but_last a)) (omega arith))
    ∙ moved (leb f.params s && ltb s (length f.slots)) (is_declared_flag f s) (are_low s n (but_last a))
    (eqb (list_count s (items_of f)) (2 + exits_in s (but_last a))))

by_continue : (f : FunctionTree) (n : ℕ) (x : Tree) (xs : Forest) → filter (fits f (Then x xs)) (continued_lists f n x xs) ≡ found
    (λ g. Then (continued g x) xs) (continue_slot (counts_of f) n x)
by_continue f n (While t a) xs = by_continue_loop f n (While t a) a xs (While t) (λ g. test_count g t) (λ g. refl) (λ g. refl) (λ g. refl)
by_continue f n (Do a t) xs = by_continue_loop f n (Do a t) a xs (λ a. Do a t) (λ g. test_count g t) (λ g. omega arith) (λ g. omega arith) (λ g. refl)
by_continue f n (For first t u a) xs =
    by_continue_loop f n (For first t u a) a xs (For first t u) (λ g. list_count g first + (option_count g t + option_count g u)) (λ g. omega arith)
    (λ g. omega arith) (λ g. refl)
by_continue f n x xs = kept_none (λ g. option_map (λ y. Then y xs) (continued_loop g n x)) (fits f (Then x xs)) f.params (length f.slots - f.params) (λ g. refl)

pub loop_laws_hold : LoopLaws
loop_laws_hold = record { by_break = by_break; by_continue = by_continue }
