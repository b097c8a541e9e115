-- The plain form of a function.
use mathlib.Core.Path.{ap₂}
use Rattle.std.proofs.Common.{◌≡◌, ℕ, zero, suc, ◌+◌, ◌-◌, ◌≤◌, pos, Bool, true, false, cond, Option, Some, None, option_map, List, [], ◌∷◌, ◌++◌, map, length, refl, sym, ap, subst, ◌∙◌, append-nil, arith}
use Rattle.std.specs.Option.{option_map_or}
use Rattle.c_types.specs.declared.kinds.IntKind.TheVariants.{Int}
use Rattle.c_tree.specs.declared.tree.Item.{Item}
use Rattle.c_tree.specs.declared.tree.Slot.{Slot}
use Rattle.c_tree.specs.declared.tree.Function.{Function}
use Rattle.c_tree.specs.TestTrees.{TestTree, Source, SelectorTree, Selects, Pick}
use Rattle.c_tree.specs.Trees.{Tree, Forest, Nil, Then, Sections, NoSection, Section, If, While, Do, For, Switch, Block, Local, Arm, Land, join, trees_of, tree_of}
use Rattle.c_tree.specs.Everywhere.{Everywhere, EverywhereOf, EverywhereIn}
use Rattle.c_tree.specs.InRange.{body_of, IsUnguarded, IsSourceTest, IsSourceSelector}
use Rattle.c_tree.proofs.TreeLaws.{tree-Local, trees-none, trees-more, trees-append}
use Rattle.jump_meaning.specs.Code.{FunctionTree, function_tree}
use Rattle.c_tree.specs.Numerals as Numerals
use Rattle.plain_laws.specs.GuardSlots as G
use Rattle.plain_laws.specs.Tidied.{tidy, tidy_function}
use Rattle.plain_laws.specs.Slotted.{Guarding, slotted, variable, guarding, AreDeclarations, none, one_more}
use Rattle.plain_laws.specs.Plain.{number, plain_items, tidied, labels_left, names_left, slot_among, numbers_from, variable_declared, guard_declared, guard_slot, declared, guarded_body, with_guard_variables, plain_body, plain_function}
use Rattle.plain_laws.proofs.PlainTrees.{number_tree}
use Rattle.plain_laws.proofs.ItemTrees.{plain_trees}
use Rattle.plain_laws.proofs.TidyTrees.{tidied_trees}
use Rattle.plain_laws.proofs.LeftLabels.{is_among}

-- ---- what stands for the guards of a function

abbrev pub no_guarding : Guarding
no_guarding = record { more = []; slot = λ l. l; left = λ l. false; declarations = Nil }

abbrev pub guarding_left : List (List ℕ) → Function → List Item → Guarding
guarding_left names f xs = record {
  more = map guard_slot (names_left xs 0 names);
  slot = slot_among (length f.slots) (labels_left xs 0 names);
  left = λ l. is_among l (labels_left xs 0 names);
  declarations = trees_of (declared f (labels_left xs 0 names));
}

abbrev pub guarding_by : Bool → Option (List Item) → List (List ℕ) → Function → Guarding
guarding_by flat None names f = no_guarding
guarding_by true (Some xs) names f = guarding_left names f xs
guarding_by false (Some xs) names f = no_guarding

abbrev pub guarding_of : List (List ℕ) → Function → Guarding
guarding_of names f = guarding_by f.flat f.body names f

-- ---- declarations

declarations_join : (base end : ℕ) (a b : Forest) → AreDeclarations base end a → AreDeclarations base end b → AreDeclarations base end (join a b)
declarations_join base end Nil b none h = h
declarations_join base end (Then x a) b (one_more d r) h = one_more d (declarations_join base end a b r h)

pub tidy_declared : (base end : ℕ) (a b : Forest) → AreDeclarations base end a → tidy (join a b) ≡ join a (tidy b)
tidy_declared base end Nil b none = refl
tidy_declared base end (Then x a) b (one_more (variable y) r) = ap (Then (Local y None)) (tidy_declared base end a b r)
tidy_declared base end (Then x a) b (one_more (guarding y h i) r) = ap (Then (Local y (Some (Numerals.number Int (pos 0) ∷ [])))) (tidy_declared base end a b r)

variables_declared : (base end : ℕ) (ks : List ℕ) → AreDeclarations base end (trees_of (map variable_declared ks))
variables_declared base end [] = subst (AreDeclarations base end) (sym trees-none) none
variables_declared base end (k ∷ ks) =
    subst (AreDeclarations base end) (sym (trees-more (variable_declared k) (map variable_declared ks) ∙
    ap (λ x. Then x (trees_of (map variable_declared ks))) (tree-Local k None)))
    (one_more (variable k) (variables_declared base end ks))

pub guard_local : (k : ℕ) → tree_of (guard_declared k) ≡ Local k (Some (Numerals.number Int (pos 0) ∷ []))
guard_local k = tree-Local k (Some (number Int (pos 0) ∷ [])) ∙ ap (λ z. Local k (Some (z ∷ []))) (number_tree Int (pos 0))

guards_declared : (base end n m : ℕ) → base ≤ n → n + m ≤ end → AreDeclarations base end (trees_of (map guard_declared (numbers_from n m)))
guards_declared base end n zero h i = subst (AreDeclarations base end) (sym trees-none) none
guards_declared base end n (suc m) h i =
    subst (AreDeclarations base end) (sym (trees-more (guard_declared n) (map guard_declared (numbers_from (n + 1) m)) ∙
    ap (λ x. Then x (trees_of (map guard_declared (numbers_from (n + 1) m)))) (guard_local n)))
    (one_more (guarding n h (omega (arith, i))) (guards_declared base end (n + 1) m (omega (arith, h)) (omega (arith, i))))

pub are_declared : (f : Function) (ls : List ℕ) → AreDeclarations (length f.slots) (length f.slots + length ls) (trees_of (declared f ls))
are_declared f ls =
    let base = length f.slots in
    let end = length f.slots + length ls in
    let vs = map variable_declared (numbers_from f.params (length f.slots - f.params)) in
    subst (AreDeclarations base end) (sym (trees-append vs (map guard_declared (numbers_from (length f.slots) (length ls)))))
    (declarations_join base end (trees_of vs) _ (variables_declared base end (numbers_from f.params (length f.slots - f.params)))
    (guards_declared base end (length f.slots) (length ls) (omega arith) (omega arith)))

-- ---- a body without guards stays

source_test : (slot : ℕ → ℕ) (t : TestTree) → IsSourceTest t → Source (G.plain_test slot t) ≡ t
source_test slot (Source e) h = refl
source_test slot _ h = absurd h

source_selector : (slot : ℕ → ℕ) (s : SelectorTree) → IsSourceSelector s → Selects (G.plain_selector slot s) ≡ s
source_selector slot (Selects e) h = refl
source_selector slot (Pick l n s) h = absurd h

module _ (slot : ℕ → ℕ) where
  mutual
    pub unguarded_same : (a : Forest) → Everywhere IsUnguarded a → G.plain_list slot a ≡ a
    unguarded_same Nil h = refl
    unguarded_same (Then x a) h = ap₂ (λ y b. Then y b) (unguarded_item x h.0) (unguarded_same a h.1)

    unguarded_item : (x : Tree) → EverywhereOf IsUnguarded x → G.plain_item slot x ≡ x
    unguarded_item (If t a b) h = ap (λ z. If z (G.plain_list slot a) (G.plain_list slot b)) (source_test slot t h.0) ∙
        ap₂ (λ y z. If t y z) (unguarded_same a h.1) (unguarded_same b h.2)
    unguarded_item (While t a) h = ap₂ (λ y z. While y z) (source_test slot t h.0) (unguarded_same a h.1)
    unguarded_item (Do a t) h = ap₂ (λ y z. Do z y) (source_test slot t h.0) (unguarded_same a h.1)
    unguarded_item (For first t u a) h = ap₂ (λ y z. For y t u z) (unguarded_same first h.1) (unguarded_same a h.2)
    unguarded_item (Switch s c) h = ap₂ (λ y z. Switch y z) (source_selector slot s h.0) (unguarded_sections c h.1)
    unguarded_item (Block a) h = ap Block (unguarded_same a h.1)
    unguarded_item (Arm l e) h = absurd h
    unguarded_item (Land l) h = absurd h
    unguarded_item _ h = refl

    unguarded_sections : (c : Sections) → EverywhereIn IsUnguarded c → G.plain_sections slot c ≡ c
    unguarded_sections NoSection h = refl
    unguarded_sections (Section cases default a ends c) h = ap₂ (λ y z. Section cases default y ends z) (unguarded_same a h.0) (unguarded_sections c h.1)

-- ---- the tree of the plain form

abbrev tree_by : Function → Option (List Item) → FunctionTree
tree_by f b = record { result = f.result; params = f.params; slots = f.slots; body = option_map trees_of b }

abbrev tree_with : Function → List Slot → Option Forest → FunctionTree
tree_with f s b = record { result = f.result; params = f.params; slots = s; body = b }

pub flat_body : (names : List (List ℕ)) (f : Function) (xs : List Item) →
    (let g = guarding_left names f xs in trees_of (guarded_body f (labels_left xs 0 names) xs) ≡ tidy (join g.declarations (G.plain_list g.slot (trees_of xs))))
flat_body names f xs =
    let ls = labels_left xs 0 names in
    let slot = slot_among (length f.slots) ls in
    trees-append (declared f ls) (tidied (plain_items slot xs))
    ∙ ap (join (trees_of (declared f ls))) (tidied_trees (plain_items slot xs) ∙ ap tidy (plain_trees slot xs))
    ∙ sym (tidy_declared _ _ (trees_of (declared f ls)) (G.plain_list slot (trees_of xs)) (are_declared f ls))

plain_by : (flat : Bool) (b : Option (List Item)) (names : List (List ℕ)) (f : Function) → f.flat ≡ flat → f.body ≡ b →
    (flat ≡ false → Everywhere IsUnguarded (option_map_or trees_of b Nil))
    → function_tree (plain_body names f b) ≡ tidy_function (slotted (guarding_by flat b names f) (tree_by f b))
plain_by flat None names f q e h = ap₂ (tree_with f) (sym (append-nil f.slots)) (ap (option_map trees_of) e)
plain_by true (Some xs) names f q e h =
    ap (λ y. function_tree (cond y (with_guard_variables names f xs) (record f { body = Some (tidied xs) }))) q
    ∙ ap (λ z. tree_with f (f.slots ++ map guard_slot (names_left xs 0 names)) (Some z)) (flat_body names f xs)
plain_by false (Some xs) names f q e h =
    ap (λ y. function_tree (cond y (with_guard_variables names f xs) (record f { body = Some (tidied xs) }))) q
    ∙ ap₂ (λ s z. tree_with f s (Some z)) (sym (append-nil f.slots)) (tidied_trees xs ∙ ap tidy (sym (unguarded_same (λ l. l) (trees_of xs) (h refl))))

-- the tree of the plain form of a function
pub plain_tree : (names : List (List ℕ)) (f : Function) → (f.flat ≡ false → Everywhere IsUnguarded (body_of f)) →
    function_tree (plain_function names f) ≡ tidy_function (slotted (guarding_of names f) (function_tree f))
plain_tree names f h = plain_by f.flat f.body names f refl refl h
