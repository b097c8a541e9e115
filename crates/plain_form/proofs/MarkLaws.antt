-- The marks that a walk over a body sets are those of the labels whose guards stand in it.
use Rattle.std.proofs.Common.{◌≡◌, ℕ, zero, suc, ◌+◌, ◌≤◌, ◌==◌, Bool, true, false, ◌||◌, cond, eqb, Option, List, [], ◌∷◌, ◌++◌, map, length, get_or, slice_set, refl, sym, ap, subst, ◌∙◌, eqb-true, eq-eqb, arith}
use Rattle.std.proofs.Math.Bool.{or_assoc}
use Rattle.c_tree.specs.declared.tree.Item.{Item, Item-F, roll-Item, fold-roll-Item, ind-Item, map-Item}
use Rattle.c_tree.specs.declared.tree.Item.TheOpen.{Section-F, If, While, Do, For, Switch, Block, Arm, Land}
use Rattle.c_tree.specs.declared.tree.Item as V
use Rattle.c_tree.specs.declared.tree.Item.TheVariants.{rolls-If, rolls-For}
use Rattle.c_tree.specs.declared.tree.Expression.{Expression}
use Rattle.c_tree.specs.declared.tree.Section.{Section, roll-Section, fold-roll-Section}
use Rattle.c_tree.specs.declared.tree.Test.{Test, Test-F, roll-Test, ind-Test, map-Test, fold-roll-Test}
use Rattle.c_tree.specs.declared.tree.Test.TheOpen as T
use Rattle.c_tree.specs.declared.tree.Selector.{Selector, Selector-F, roll-Selector, ind-Selector, map-Selector, fold-roll-Selector}
use Rattle.c_tree.specs.declared.tree.Selector.TheOpen as S
use Rattle.plain_laws.specs.Plain.{test_names_step, test_names, selector_names_step, selector_names, any_true, names_step, section_names_step, item_names, section_names, is_left, labels_left, names_left, numbers_from}
use Rattle.plain_form.specs.Marks.{Marking, mark, all_marked, test_marked_step, test_marked, selector_marked_step, selector_marked, marked_step, section_marked_step, item_marked, section_marked, items_marked, unmarked, marks_of, places_marked, names_marked}

-- ---- marks with more marks, by a test of the labels from n on

abbrev more : ℕ → List Bool → (ℕ → Bool) → List Bool
more n [] f = []
more n (b ∷ bs) f = (b || f n) ∷ more (n + 1) bs f

or_none : (b : Bool) → (b || false) ≡ b
or_none true = refl
or_none false = refl

or_true : (b : Bool) → true ≡ (b || true)
or_true true = refl
or_true false = refl

more_same : (n : ℕ) (ms : List Bool) (f g : ℕ → Bool) → ((l : ℕ) → f l ≡ g l) → more n ms f ≡ more n ms g
more_same n [] f g h = refl
more_same n (b ∷ bs) f g h = ap (λ c. (b || c) ∷ more (n + 1) bs f) (h n) ∙ ap (λ t. (b || g n) ∷ t) (more_same (n + 1) bs f g h)

more_then : (n : ℕ) (ms : List Bool) (f g : ℕ → Bool) → more n (more n ms f) g ≡ more n ms (λ l. f l || g l)
more_then n [] f g = refl
more_then n (b ∷ bs) f g = ap (λ c. c ∷ more (n + 1) (more (n + 1) bs f) g) (or_assoc b (f n) (g n)) ∙
    ap (λ t. (b || (f n || g n)) ∷ t) (more_then (n + 1) bs f g)

-- none more, where no label from n on is asked for
more_none : (n : ℕ) (ms : List Bool) (f : ℕ → Bool) → ((l : ℕ) → n ≤ l → f l ≡ false) → more n ms f ≡ ms
more_none n [] f h = refl
more_none n (b ∷ bs) f h =
    ap (λ c. (b || c) ∷ more (n + 1) bs f) (h n (omega arith)) ∙ ap (λ c. c ∷ more (n + 1) bs f) (or_none b)
    ∙ ap (λ t. b ∷ t) (more_none (n + 1) bs f (λ l g. h l (omega (arith, g))))

unlike : (b : Bool) (k l : ℕ) → eqb k l ≡ b → k + 1 ≤ l → b ≡ false
unlike true k l e h = let q : k ≡ l = eqb-true k l e in absurd (omega arith)
unlike false k l e h = refl

unlike_below : (b : Bool) (k l : ℕ) → eqb k l ≡ b → l + 1 ≤ k → b ≡ false
unlike_below true k l e h = let q : k ≡ l = eqb-true k l e in absurd (omega arith)
unlike_below false k l e h = refl

more_mark : (n at : ℕ) (ms : List Bool) (l : ℕ) → l ≡ n + at → slice_set ms at true ≡ more n ms (λ m. l == m)
more_mark n at [] l e = refl
more_mark n zero (b ∷ bs) l e =
    let same : l ≡ n = omega arith in
    ap (λ c. c ∷ bs) (or_true b) ∙ ap (λ c. (b || c) ∷ bs) (sym (eq-eqb l n same))
    ∙ ap (λ t. (b || (l == n)) ∷ t) (sym (more_none (n + 1) bs (λ m. l == m) (λ m g. unlike (eqb l m) l m refl (omega (arith, g)))))
more_mark n (suc at) (b ∷ bs) l e =
    ap (λ t. b ∷ t) (more_mark (n + 1) at bs l (omega arith)) ∙ ap (λ c. c ∷ more (n + 1) bs (λ m. l == m))
    (sym (or_none b) ∙ ap (λ c. b || c) (sym (unlike_below (eqb l n) l n refl (omega (arith, e)))))

-- two markings, one after the other
both : (ms ns os : List Bool) (f g : ℕ → Bool) → ns ≡ more 0 ms f → os ≡ more 0 ns g → os ≡ more 0 ms (λ l. f l || g l)
both ms ns os f g e h = h ∙ ap (λ z. more 0 z g) e ∙ more_then 0 ms f g

none : (ms : List Bool) → ms ≡ more 0 ms (λ l. false)
none ms = sym (more_none 0 ms (λ l. false) (λ l h. refl))

one : (l : ℕ) (ms : List Bool) → mark l ms ≡ more 0 ms (λ m. l == m)
one l ms = more_mark 0 l ms l (omega arith)

-- ---- tests and selectors

abbrev TestMarked : Test → Type 0
TestMarked t = (ms : List Bool) → test_marked t ms ≡ more 0 ms (λ l. test_names l t)

abbrev MarkedTest : Type 0
MarkedTest = (t : Test) × TestMarked t

test_form : (y : Test-F MarkedTest) (ms : List Bool)
    → test_marked_step (map-Test Test Marking test_marked (map-Test MarkedTest Test (λ e. e.0) y)) ms
    ≡ more 0 ms (λ l. test_names_step l (map-Test Test Bool (test_names l) (map-Test MarkedTest Test (λ e. e.0) y)))
test_form (T.Source e) ms = none ms
test_form (T.On l) ms = one l ms
test_form (T.Off l) ms = one l ms
test_form (T.AndOff l t) ms = both ms (mark l ms) (test_marked t.0 (mark l ms)) (λ m. l == m) (λ m. test_names m t.0) (one l ms) (t.1 (mark l ms))
test_form (T.OrOn l t) ms = both ms (mark l ms) (test_marked t.0 (mark l ms)) (λ m. l == m) (λ m. test_names m t.0) (one l ms) (t.1 (mark l ms))

test_law : (t : Test) → TestMarked t
test_law = ind-Test TestMarked (λ x y e. subst (λ (z : Test-F Test). TestMarked (roll-Test z)) e (λ ms.
    ap (λ (f : Marking). f ms) (fold-roll-Test Marking test_marked_step _) ∙ test_form y ms
    ∙ more_same 0 ms _ _ (λ l. sym (fold-roll-Test Bool (test_names_step l) _))))

abbrev SelectorMarked : Selector → Type 0
SelectorMarked s = (ms : List Bool) → selector_marked s ms ≡ more 0 ms (λ l. selector_names l s)

abbrev MarkedSelector : Type 0
MarkedSelector = (s : Selector) × SelectorMarked s

selector_form : (y : Selector-F MarkedSelector) (ms : List Bool)
    → selector_marked_step (map-Selector Selector Marking selector_marked (map-Selector MarkedSelector Selector (λ e. e.0) y)) ms
    ≡ more 0 ms (λ l. selector_names_step l (map-Selector Selector Bool (selector_names l) (map-Selector MarkedSelector Selector (λ e. e.0) y)))
selector_form (S.Source e) ms = none ms
selector_form (S.Pick l n s) ms = both ms (mark l ms) (selector_marked s.0 (mark l ms)) (λ m. l == m) (λ m. selector_names m s.0) (one l ms) (s.1 (mark l ms))

selector_law : (s : Selector) → SelectorMarked s
selector_law = ind-Selector SelectorMarked (λ x y e. subst (λ (z : Selector-F Selector). SelectorMarked (roll-Selector z)) e (λ ms.
    ap (λ (f : Marking). f ms) (fold-roll-Selector Marking selector_marked_step _) ∙ selector_form y ms
    ∙ more_same 0 ms _ _ (λ l. sym (fold-roll-Selector Bool (selector_names_step l) _))))

-- ---- items

abbrev Marked : Item → Type 0
Marked x = (ms : List Bool) → item_marked x ms ≡ more 0 ms (λ l. item_names l x)

abbrev SectionMarked : Section → Type 0
SectionMarked c = (ms : List Bool) → section_marked c ms ≡ more 0 ms (λ l. section_names l c)

abbrev I : Type 0
I = (x : Item) × Marked x

abbrev C : Type 0
C = (c : Section) × SectionMarked c

abbrev item : I → Item
item e = e.0

abbrev section : C → Section
section e = e.0

abbrev of_list : List I → ℕ → Bool
of_list a l = any_true (map (item_names l) (map item a))

abbrev of_sections : List C → ℕ → Bool
of_sections a l = any_true (map (section_names l) (map section a))

list_form : (a : List I) (ms : List Bool) → all_marked (map item_marked (map item a)) ms ≡ more 0 ms (of_list a)
list_form [] ms = none ms
list_form (e ∷ a) ms =
    both ms (item_marked e.0 ms) (all_marked (map item_marked (map item a)) (item_marked e.0 ms)) (λ l. item_names l e.0) (of_list a) (e.1 ms)
    (list_form a (item_marked e.0 ms))

sections_form : (a : List C) (ms : List Bool) → all_marked (map section_marked (map section a)) ms ≡ more 0 ms (of_sections a)
sections_form [] ms = none ms
sections_form (e ∷ a) ms =
    both ms (section_marked e.0 ms) (all_marked (map section_marked (map section a)) (section_marked e.0 ms)) (λ l. section_names l e.0)
    (of_sections a) (e.1 ms) (sections_form a (section_marked e.0 ms))

-- two lists, one after the other
lists_form : (a b : List I) (ms : List Bool)
    → all_marked (map item_marked (map item b)) (all_marked (map item_marked (map item a)) ms) ≡ more 0 ms (λ l. of_list a l || of_list b l)
lists_form a b ms = both ms (all_marked (map item_marked (map item a)) ms) _ (of_list a) (of_list b) (list_form a ms) (list_form b _)

form : (y : Item-F I C) (ms : List Bool)
    → marked_step (map-Item Item Section Marking Marking item_marked section_marked (map-Item I C Item Section item section y)) ms
    ≡ more 0 ms (λ l. names_step l (map-Item Item Section Bool Bool (item_names l) (section_names l) (map-Item I C Item Section item section y)))
form (If t a b) ms =
    both ms (test_marked t ms) _ (λ l. test_names l t) (λ l. of_list a l || of_list b l) (test_law t ms) (lists_form a b (test_marked t ms))
form (While t a) ms = both ms (test_marked t ms) _ (λ l. test_names l t) (of_list a) (test_law t ms) (list_form a (test_marked t ms))
form (Do a t) ms = both ms (test_marked t ms) _ (λ l. test_names l t) (of_list a) (test_law t ms) (list_form a (test_marked t ms))
form (For f t u a) ms = lists_form f a ms
form (Switch s cs) ms = both ms (selector_marked s ms) _ (λ l. selector_names l s) (of_sections cs) (selector_law s ms)
    (sections_form cs (selector_marked s ms))
form (Block a) ms = list_form a ms
form (Arm l e) ms = one l ms
form (Land l) ms = one l ms
form _ ms = none ms

item_law : (x : Item) → Marked x
item_law = ind-Item Marked SectionMarked
    (λ x y e. subst (λ (z : Item-F Item Section). Marked (roll-Item z)) e (λ ms.
    ap (λ (f : Marking). f ms) (fold-roll-Item Marking Marking marked_step section_marked_step _) ∙ form y ms
    ∙ more_same 0 ms _ _ (λ l. sym (fold-roll-Item Bool Bool (names_step l) section_names_step _))))
    (λ x y e. subst (λ (z : Section-F Item Section). SectionMarked (roll-Section z)) e (λ ms.
    ap (λ (f : Marking). f ms) (fold-roll-Section Marking Marking marked_step section_marked_step _) ∙ list_form y.list ms
    ∙ more_same 0 ms _ _ (λ l. sym (fold-roll-Section Bool Bool (names_step l) section_names_step _))))

-- an item with two lists

pub item_marked-If : (t : Test) (a b : List Item) (ms : List Bool) → item_marked (V.If t a b) ms ≡ items_marked b (items_marked a (test_marked t ms))
item_marked-If t a b ms = ap (λ x. item_marked x ms) (sym (rolls-If t a b)) ∙
    ap (λ (f : Marking). f ms) (fold-roll-Item Marking Marking marked_step section_marked_step (If t a b))

pub item_marked-For : (f : List Item) (t u : Option Expression) (a : List Item) (ms : List Bool) →
    item_marked (V.For f t u a) ms ≡ items_marked a (items_marked f ms)
item_marked-For f t u a ms = ap (λ x. item_marked x ms) (sym (rolls-For f t u a)) ∙
    ap (λ (k : Marking). k ms) (fold-roll-Item Marking Marking marked_step section_marked_step (For f t u a))

items_law : (xs : List Item) (ms : List Bool) → items_marked xs ms ≡ more 0 ms (is_left xs)
items_law [] ms = none ms
items_law (x ∷ xs) ms = both ms (item_marked x ms) _ (λ l. item_names l x) (is_left xs) (item_law x ms) (items_law xs (item_marked x ms))

from_none : (n m : ℕ) (f : ℕ → Bool) → more m (unmarked n) f ≡ map f (numbers_from m n)
from_none zero m f = refl
from_none (suc n) m f = ap (λ t. f m ∷ t) (from_none n (m + 1) f)

pub unmarked_more : (n : ℕ) → unmarked n ++ false ∷ [] ≡ unmarked (n + 1)
unmarked_more zero = refl
unmarked_more (suc n) = ap (λ t. false ∷ t) (unmarked_more n) ∙ let e : suc n + 1 ≡ suc (n + 1) = omega arith in ap unmarked (sym e)

-- of marks that aren't set those of a body get set
pub marks_made : (xs : List Item) (n : ℕ) → items_marked xs (unmarked n) ≡ marks_of xs n
marks_made xs n = items_law xs (unmarked n) ∙ from_none n 0 (is_left xs)

-- ---- what is marked

places_from : (xs : List Item) (n : ℕ) (ms : List (List ℕ)) → places_marked n (map (is_left xs) (numbers_from n (length ms))) ≡ labels_left xs n ms
places_from xs n [] = refl
places_from xs n (m ∷ ms) = ap (λ t. cond (is_left xs n) (n ∷ t) t) (places_from xs (n + 1) ms)

-- the places are the labels that are left
pub places_are_left : (xs : List Item) (ms : List (List ℕ)) → places_marked 0 (marks_of xs (length ms)) ≡ labels_left xs 0 ms
places_are_left xs ms = places_from xs 0 ms

names_from : (xs : List Item) (n : ℕ) (ms : List (List ℕ)) → names_marked ms (map (is_left xs) (numbers_from n (length ms))) ≡ names_left xs n ms
names_from xs n [] = refl
names_from xs n (m ∷ ms) = ap (λ t. cond (is_left xs n) (m ∷ t) t) (names_from xs (n + 1) ms)

-- and the names are theirs
pub names_are_left : (xs : List Item) (ms : List (List ℕ)) → names_marked ms (marks_of xs (length ms)) ≡ names_left xs 0 ms
names_are_left xs ms = names_from xs 0 ms

-- one name more
pub names_more : (ms : List (List ℕ)) (bs : List Bool) (m : List ℕ) → names_marked (ms ++ m ∷ []) bs ≡ names_marked ms bs ++ cond
    (get_or bs (length ms) false) (m ∷ []) []
names_more [] [] m = refl
names_more [] (true ∷ bs) m = refl
names_more [] (false ∷ bs) m = refl
names_more (n ∷ ms) [] m = refl
names_more (n ∷ ms) (true ∷ bs) m = ap (λ z. n ∷ z) (names_more ms bs m)
names_more (n ∷ ms) (false ∷ bs) m = names_more ms bs m

length-map_numbers : (f : ℕ → Bool) (n k : ℕ) → length (map f (numbers_from k n)) ≡ n
length-map_numbers f zero k = refl
length-map_numbers f (suc n) k = ap suc (length-map_numbers f n (k + 1))

pub length-marks_of : (xs : List Item) (n : ℕ) → length (marks_of xs n) ≡ n
length-marks_of xs n = length-map_numbers (is_left xs) n 0
