-- The next change, told item by item.
use mathlib.Core.Path.{ap₂}
use Rattle.std.proofs.Common.{ℕ, suc, ◌+◌, ◌-◌, Bool, true, false, cond, ◌&&◌, List, [], ◌∷◌, ◌++◌, length, Option, Some, None, ◌≡◌, refl, ap, ◌∙◌, arith}
use Rattle.std.specs.Prelude.{filter}
use Rattle.std.proofs.lemmas.List.Elements.{filter-append}
use Rattle.c_tree.specs.ExpressionTrees.{ExpressionTree}
use Rattle.c_tree.specs.TestTrees.{TestTree, SelectorTree}
use Rattle.c_tree.specs.Trees.{Tree, Forest, Then, Sections, Section, If, While, Do, For, Switch, Block}
use Rattle.jump_meaning.specs.Code.{FunctionTree, items_of}
use Rattle.tidy_laws.specs.Changes.{around, changed_lists, changed_items, changed_sections}
use Rattle.tidy_slots.specs.Counts.{test_count, option_count, selector_count, list_count, item_count, sections_count}
use Rattle.tidy_loops.specs.Fits.{is_declared_flag, leaves_one, fits, item_fits, sections_fit}
use Rattle.tidy_loops.specs.Slots.{counts_of, break_slot, continue_slot, broken, continued, but_first, broken_lists, continued_lists, found}
use Rattle.tidy_loops.proofs.Single.{eqb_same}
use Rattle.tidy_loops.proofs.AtLoop.{loop_laws_hold}
use Rattle.break_recovery.specs.Next.{first, or_else, put, of_slot, next_list, next_item, next_sections, next_at}

first_append : {A : Type 0} (xs ys : List A) → first (xs ++ ys) ≡ or_else (first xs) (first ys)
first_append [] ys = refl
first_append (x ∷ xs) ys = refl

-- the first that is kept of two lists
first_kept : {A : Type 0} (P : A → Bool) (xs ys : List A) → first (filter P (xs ++ ys)) ≡ or_else (first (filter P xs)) (first (filter P ys))
first_kept P xs ys = ap first (filter-append P xs ys) ∙ first_append (filter P xs) (filter P ys)

around_at : {A B : Type 0} (f : A → B) (P : ℕ × B → Bool) (Q : ℕ × A → Bool) (c : ℕ × A) (cs : List (ℕ × A)) (b : Bool)
    → first (filter P (around f cs)) ≡ put f (first (filter Q cs))
    → first (cond b ((c.0, f c.1) ∷ filter P (around f cs)) (filter P (around f cs))) ≡ put f (first (cond b (c ∷ filter Q cs) (filter Q cs)))
around_at f P Q c cs true h = refl
around_at f P Q c cs false h = h

around_kept : {A B : Type 0} (f : A → B) (P : ℕ × B → Bool) (Q : ℕ × A → Bool) → ((c : ℕ × A) → P (c.0, f c.1) ≡ Q c) → (cs : List (ℕ × A)) →
    first (filter P (around f cs)) ≡ put f (first (filter Q cs))
around_kept f P Q h [] = refl
around_kept f P Q h (c ∷ cs) =
    ap (λ b. first (cond b ((c.0, f c.1) ∷ filter P (around f cs)) (filter P (around f cs)))) (h c)
    ∙ around_at f P Q c cs (Q c) (around_kept f P Q h cs)

-- what stands beside a part changes nothing
beside : (f : FunctionTree) (g b a d n m : ℕ) → n ≡ b + d → m ≡ a + d →
    (is_declared_flag f g && leaves_one f g n m) ≡ (is_declared_flag f g && leaves_one f g b a)
beside f g b a d n m e h =
    ap (λ z. is_declared_flag f g && z)
    (eqb_same (list_count g (items_of f) + m) (suc n) (list_count g (items_of f) + a) (suc b) (λ w. omega (arith, e, h, w)) (λ w. omega (arith, e, h, w)))

found_first : (make : ℕ → Forest) (s : Option ℕ) → first (found make s) ≡ of_slot make s
found_first make None = refl
found_first make (Some g) = refl

regrouped : {A : Type 0} (a c d : Option A) → or_else a (or_else c d) ≡ or_else (or_else a c) d
regrouped None c d = refl
regrouped (Some x) c d = refl

pub more : (f : FunctionTree) (n : ℕ) (x : Tree) (xs : Forest) → next_list f n (Then x xs) ≡ or_else (next_at f (suc n) (Then x xs))
    (put (Then x) (next_list f n xs))
more f n x xs =
    let k = length f.slots - f.params in
    let P = fits f (Then x xs) in
    let A = broken_lists f (suc n) x xs in
    let B = continued_lists f (suc n) x xs in
    let C = around (λ y. Then y xs) (changed_items f.params k (suc n) x) in
    let D = around (Then x) (changed_lists f.params k n xs) in
    let c = around_kept (λ y. Then y xs) P (item_fits f x) (λ c. beside f c.0 (item_count c.0 x) (item_count c.0 c.1) (list_count c.0 xs)
    (list_count c.0 (Then x xs)) (list_count c.0 (Then c.1 xs)) refl refl) (changed_items f.params k (suc n) x) in
    let d = around_kept (Then x) P (fits f xs) (λ c. beside f c.0 (list_count c.0 xs) (list_count c.0 c.1) (item_count c.0 x)
    (list_count c.0 (Then x xs)) (list_count c.0 (Then x c.1)) (omega arith) (omega arith)) (changed_lists f.params k n xs) in
    let a = ap first (loop_laws_hold.by_break f (suc n) x xs) ∙ found_first (λ g. Then (broken g x) (but_first xs)) (break_slot (counts_of f) (suc n) x xs) in
    let b = ap first (loop_laws_hold.by_continue f (suc n) x xs) ∙ found_first (λ g. Then (continued g x) xs) (continue_slot (counts_of f) (suc n) x) in
    first_kept P (A ++ B) (C ++ D)
    ∙ ap₂ or_else (first_kept P A B ∙ ap₂ or_else a b) (first_kept P C D ∙ ap₂ or_else c d)
    ∙ regrouped (or_else (of_slot (λ g. Then (broken g x) (but_first xs)) (break_slot (counts_of f) (suc n) x xs))
    (of_slot (λ g. Then (continued g x) xs) (continue_slot (counts_of f) (suc n) x)))
    (put (λ y. Then y xs) (next_item f (suc n) x)) (put (Then x) (next_list f n xs))

pub in_if : (f : FunctionTree) (n : ℕ) (t : TestTree) (a b : Forest) →
    next_item f n (If t a b) ≡ or_else (put (λ c. If t c b) (next_list f n a)) (put (If t a) (next_list f n b))
in_if f n t a b =
    let k = length f.slots - f.params in
    let P = item_fits f (If t a b) in
    first_kept P (around (λ c. If t c b) (changed_lists f.params k n a)) (around (If t a) (changed_lists f.params k n b))
    ∙ ap₂ or_else
    (around_kept (λ c. If t c b) P (fits f a) (λ c. beside f c.0 (list_count c.0 a) (list_count c.0 c.1) (test_count c.0 t + list_count c.0 b)
    (item_count c.0 (If t a b)) (item_count c.0 (If t c.1 b)) (omega arith) (omega arith)) (changed_lists f.params k n a))
    (around_kept (If t a) P (fits f b) (λ c. beside f c.0 (list_count c.0 b) (list_count c.0 c.1) (test_count c.0 t + list_count c.0 a)
    (item_count c.0 (If t a b)) (item_count c.0 (If t a c.1)) (omega arith) (omega arith)) (changed_lists f.params k n b))

pub in_while : (f : FunctionTree) (n : ℕ) (t : TestTree) (a : Forest) → next_item f n (While t a) ≡ put (While t) (next_list f n a)
in_while f n t a =
    around_kept (While t) (item_fits f (While t a)) (fits f a)
    (λ c. beside f c.0 (list_count c.0 a) (list_count c.0 c.1) (test_count c.0 t) (item_count c.0 (While t a)) (item_count c.0 (While t c.1))
    (omega arith) (omega arith)) (changed_lists f.params (length f.slots - f.params) n a)

pub in_do : (f : FunctionTree) (n : ℕ) (a : Forest) (t : TestTree) → next_item f n (Do a t) ≡ put (λ c. Do c t) (next_list f n a)
in_do f n a t =
    around_kept (λ c. Do c t) (item_fits f (Do a t)) (fits f a)
    (λ c. beside f c.0 (list_count c.0 a) (list_count c.0 c.1) (test_count c.0 t) (item_count c.0 (Do a t)) (item_count c.0 (Do c.1 t)) refl refl)
    (changed_lists f.params (length f.slots - f.params) n a)

pub in_for : (f : FunctionTree) (n : ℕ) (b : Forest) (t u : Option ExpressionTree) (a : Forest)
    → next_item f n (For b t u a) ≡ or_else (put (λ c. For c t u a) (next_list f n b)) (put (For b t u) (next_list f n a))
in_for f n b t u a =
    let k = length f.slots - f.params in
    let P = item_fits f (For b t u a) in
    first_kept P (around (λ c. For c t u a) (changed_lists f.params k n b)) (around (For b t u) (changed_lists f.params k n a))
    ∙ ap₂ or_else
    (around_kept (λ c. For c t u a) P (fits f b) (λ c. beside f c.0 (list_count c.0 b) (list_count c.0 c.1)
    (option_count c.0 t + (option_count c.0 u + list_count c.0 a)) (item_count c.0 (For b t u a)) (item_count c.0 (For c.1 t u a)) refl refl)
    (changed_lists f.params k n b))
    (around_kept (For b t u) P (fits f a) (λ c. beside f c.0 (list_count c.0 a) (list_count c.0 c.1)
    (list_count c.0 b + (option_count c.0 t + option_count c.0 u)) (item_count c.0 (For b t u a)) (item_count c.0 (For b t u c.1)) (omega arith)
    (omega arith)) (changed_lists f.params k n a))

pub in_switch : (f : FunctionTree) (n : ℕ) (s : SelectorTree) (c : Sections) → next_item f n (Switch s c) ≡ put (Switch s) (next_sections f n c)
in_switch f n s d =
    around_kept (Switch s) (item_fits f (Switch s d)) (sections_fit f d)
    (λ c. beside f c.0 (sections_count c.0 d) (sections_count c.0 c.1) (selector_count c.0 s) (item_count c.0 (Switch s d))
    (item_count c.0 (Switch s c.1)) (omega arith) (omega arith)) (changed_sections f.params (length f.slots - f.params) n d)

pub in_block : (f : FunctionTree) (n : ℕ) (a : Forest) → next_item f n (Block a) ≡ put Block (next_list f n a)
in_block f n a = around_kept Block (item_fits f (Block a)) (fits f a) (λ c. refl) (changed_lists f.params (length f.slots - f.params) n a)

pub more_sections : (f : FunctionTree) (n : ℕ) (cases : List ExpressionTree) (default : Bool) (a : Forest) (ends : Bool) (c : Sections)
    → next_sections f n (Section cases default a ends c) ≡ or_else (put (λ b. Section cases default b ends c) (next_list f n a))
    (put (Section cases default a ends) (next_sections f n c))
more_sections f n cases default a ends d =
    let k = length f.slots - f.params in
    let P = sections_fit f (Section cases default a ends d) in
    first_kept P (around (λ b. Section cases default b ends d) (changed_lists f.params k n a))
    (around (Section cases default a ends) (changed_sections f.params k n d))
    ∙ ap₂ or_else
    (around_kept (λ b. Section cases default b ends d) P (fits f a)
    (λ c. beside f c.0 (list_count c.0 a) (list_count c.0 c.1) (sections_count c.0 d) (sections_count c.0 (Section cases default a ends d))
    (sections_count c.0 (Section cases default c.1 ends d)) refl refl) (changed_lists f.params k n a))
    (around_kept (Section cases default a ends) P (sections_fit f d)
    (λ c. beside f c.0 (sections_count c.0 d) (sections_count c.0 c.1) (list_count c.0 a) (sections_count c.0 (Section cases default a ends d))
    (sections_count c.0 (Section cases default a ends c.1)) (omega arith) (omega arith)) (changed_sections f.params k n d))
