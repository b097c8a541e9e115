-- Marks of labels, one for each label: those of a body are the labels whose guards stand in it.
use Rattle.std.specs.Prelude.{ℕ, zero, suc, ◌+◌, Bool, true, false, cond, List, [], ◌∷◌, map, slice_set}
use Rattle.c_tree.specs.declared.tree.Test.{Test, Test-F, fold-Test}
use Rattle.c_tree.specs.declared.tree.Test.TheOpen as T
use Rattle.c_tree.specs.declared.tree.Selector.{Selector, Selector-F, fold-Selector}
use Rattle.c_tree.specs.declared.tree.Selector.TheOpen as S
use Rattle.c_tree.specs.declared.tree.Item.{Item, Item-F, fold-Item}
use Rattle.c_tree.specs.declared.tree.Item.TheOpen as I
use Rattle.c_tree.specs.declared.tree.Section.{Section, fold-Section}
use Rattle.plain_laws.specs.Plain.{is_left, numbers_from}

-- so many marks, none of which is set
abbrev pub unmarked : ℕ → List Bool
unmarked zero = []
unmarked (suc n) = false ∷ unmarked n

-- what marks become
abbrev pub Marking : Type 0
Marking = List Bool → List Bool

-- the mark of a label
abbrev pub mark : ℕ → Marking
mark l ms = slice_set ms l true

-- one marking after another
abbrev pub all_marked : List Marking → Marking
all_marked [] ms = ms
all_marked (f ∷ fs) ms = all_marked fs (f ms)

-- the labels of a test, by those of its inner test
abbrev pub test_marked_step : Test-F Marking → Marking
test_marked_step (T.Source e) ms = ms
test_marked_step (T.On l) ms = mark l ms
test_marked_step (T.Off l) ms = mark l ms
test_marked_step (T.AndOff l t) ms = t (mark l ms)
test_marked_step (T.OrOn l t) ms = t (mark l ms)

-- those of a test
abbrev pub test_marked : Test → Marking
test_marked t = fold-Test Marking test_marked_step t

-- those of a selector, by those of its inner selector
abbrev pub selector_marked_step : Selector-F Marking → Marking
selector_marked_step (S.Source e) ms = ms
selector_marked_step (S.Pick l n s) ms = s (mark l ms)

-- those of a selector
abbrev pub selector_marked : Selector → Marking
selector_marked s = fold-Selector Marking selector_marked_step s

-- those of an item, by those of its lists
abbrev pub marked_step : Item-F Marking Marking → Marking
marked_step (I.Arm l e) ms = mark l ms
marked_step (I.Land l) ms = mark l ms
marked_step (I.If t a b) ms = all_marked b (all_marked a (test_marked t ms))
marked_step (I.While t a) ms = all_marked a (test_marked t ms)
marked_step (I.Do a t) ms = all_marked a (test_marked t ms)
marked_step (I.For f t u a) ms = all_marked a (all_marked f ms)
marked_step (I.Switch s cs) ms = all_marked cs (selector_marked s ms)
marked_step (I.Block a) ms = all_marked a ms
marked_step _ ms = ms

-- those of a section
abbrev pub section_marked_step : I.Section-F Marking Marking → Marking
section_marked_step c ms = all_marked c.list ms

-- the labels whose guards stand in an item
abbrev pub item_marked : Item → Marking
item_marked x = fold-Item Marking Marking marked_step section_marked_step x

-- in a section
abbrev pub section_marked : Section → Marking
section_marked c = fold-Section Marking Marking marked_step section_marked_step c

-- in a list of items
abbrev pub items_marked : List Item → Marking
items_marked xs = all_marked (map item_marked xs)

-- in sections
abbrev pub sections_marked : List Section → Marking
sections_marked cs = all_marked (map section_marked cs)

-- the marks of so many labels
abbrev pub marks_of : List Item → ℕ → List Bool
marks_of xs n = map (is_left xs) (numbers_from 0 n)

-- the places of the marks that are set, counted from n
abbrev pub places_marked : ℕ → List Bool → List ℕ
places_marked n [] = []
places_marked n (b ∷ bs) = cond b (n ∷ places_marked (n + 1) bs) (places_marked (n + 1) bs)

-- of names, one for each mark, those whose marks are set
abbrev pub names_marked : List (List ℕ) → List Bool → List (List ℕ)
names_marked [] bs = []
names_marked (m ∷ ms) [] = []
names_marked (m ∷ ms) (b ∷ bs) = cond b (m ∷ names_marked ms bs) (names_marked ms bs)
