-- Each function of the plain form is in range.
use Rattle.std.proofs.Common.{◌≡◌, ℕ, zero, suc, ◌+◌, ◌-◌, ◌≤◌, ◌<◌, pos, Bool, true, false, cond, Option, Some, None, List, [], ◌∷◌, ◌++◌, map, length, All, refl, sym, ap, subst, length-append, arith}
use Rattle.std.specs.List.{AllByRecursion}
use Rattle.std.specs.Option.{option_map_or}
use Rattle.std.proofs.lemmas.List.Elements.{All-from_recursion, recursion_from_All}
use Rattle.c_types.specs.declared.kinds.IntKind.TheVariants.{Int}
use Rattle.c_tree.specs.declared.tree.Item.{Item}
use Rattle.c_tree.specs.declared.tree.Slot.{Slot}
use Rattle.c_tree.specs.declared.tree.Function.{Function}
use Rattle.c_tree.specs.declared.tree.Top.{Top}
use Rattle.c_tree.specs.declared.tree.Top.TheVariants as T
use Rattle.c_tree.specs.declared.tree.Program.{Program}
use Rattle.c_tree.specs.ExpressionTrees.{ExpressionTree}
use Rattle.c_tree.specs.Trees.{Tree, Forest, Nil, Then, Local, join, trees_of, tree_of}
use Rattle.c_tree.specs.Everywhere.{Everywhere}
use Rattle.c_tree.specs.Labels.{ItemLabels}
use Rattle.c_tree.specs.Slots.{ExpressionSlots, ItemSlots}
use Rattle.c_tree.specs.InRange.{body_of, IsUnguarded, IsInRange, IsTopInRange, IsProgramInRange}
use Rattle.c_tree.specs.WellMade.{IsConverted}
use Rattle.c_tree.proofs.TreeLaws.{tree-Local, trees-none, trees-more, trees-append}
use Rattle.jump_meaning.specs.Code.{code_of}
use Rattle.c_tree.specs.Numerals as Numerals
use Rattle.plain_laws.specs.GuardSlots as G
use Rattle.plain_laws.specs.Tidied.{tidy_item}
use Rattle.plain_laws.specs.Slotted.{ArmLabels}
use Rattle.plain_laws.specs.Plain.{tidied, labels_left, names_left, slot_among, numbers_from, variable_declared, guard_declared, guard_slot, declared, guarded_body, with_guard_variables, plain_body, plain_top, plain_with}
use Rattle.plain_laws.specs.Laws.{IsNoLeap, IsTopReady, IsProgramReady}
use Rattle.plain_laws.proofs.TidyTrees.{tidied_trees}
use Rattle.plain_laws.proofs.LeftLabels.{is_among, slot_within, slots_left}
use Rattle.plain_laws.proofs.PlainFunctions.{guard_local, are_declared, flat_body}
use Rattle.plain_laws.proofs.PlainPrograms.{everywhere_both, among_labels}
use Rattle.plain_laws.proofs.PlainRange.{tidy_everywhere, plain_everywhere, join_everywhere, slots_tidy, labels_tidy, unguarded_tidy, slots_plain, labels_plain, unguarded_plain, slots_declared}

-- ---- the slots of declarations

none_everywhere : (P : Tree → Type 0) → Everywhere P (trees_of [])
none_everywhere P = subst (Everywhere P) (sym trees-none) tt

abbrev Below : ℕ → Tree → Type 0
Below end = ItemSlots (λ x. x < end)

local_everywhere : (end : ℕ) (x : ℕ) (es : Option (List ExpressionTree)) (a : Forest) (z : Tree) → z ≡ Local x es → Below end (Local x es) →
    Everywhere (Below end) a → Everywhere (Below end) (Then z a)
local_everywhere end x es a z e h g = subst (λ y. Everywhere (Below end) (Then y a)) (sym e) (h, g)

variables_below : (end n m : ℕ) → n + m ≤ end → Everywhere (Below end) (trees_of (map variable_declared (numbers_from n m)))
variables_below end n zero h = none_everywhere (Below end)
variables_below end n (suc m) h =
    subst (Everywhere (Below end)) (sym (trees-more (variable_declared n) (map variable_declared (numbers_from (n + 1) m))))
    (local_everywhere end n None (trees_of (map variable_declared (numbers_from (n + 1) m))) (tree_of (variable_declared n)) (tree-Local n None)
    (omega (arith, h), tt) (variables_below end (n + 1) m (omega (arith, h))))

zero_slots : (P : ℕ → Type 0) → All (ExpressionSlots P) (Numerals.number Int (pos 0) ∷ [])
zero_slots P = All-from_recursion (ExpressionSlots P) (Numerals.number Int (pos 0) ∷ []) (tt, tt)

guards_below : (end n m : ℕ) → n + m ≤ end → Everywhere (Below end) (trees_of (map guard_declared (numbers_from n m)))
guards_below end n zero h = none_everywhere (Below end)
guards_below end n (suc m) h =
    subst (Everywhere (Below end)) (sym (trees-more (guard_declared n) (map guard_declared (numbers_from (n + 1) m))))
    (local_everywhere end n (Some (Numerals.number Int (pos 0) ∷ [])) (trees_of (map guard_declared (numbers_from (n + 1) m)))
    (tree_of (guard_declared n)) (guard_local n) (omega (arith, h), zero_slots (λ x. x < end)) (guards_below end (n + 1) m (omega (arith, h))))

declared_below : (f : Function) (ls : List ℕ) (end : ℕ) → f.params ≤ length f.slots → length f.slots + length ls ≤ end →
    Everywhere (Below end) (trees_of (declared f ls))
declared_below f ls end h g =
    let vs = map variable_declared (numbers_from f.params (length f.slots - f.params)) in
    subst (Everywhere (Below end)) (sym (trees-append vs (map guard_declared (numbers_from (length f.slots) (length ls)))))
    (join_everywhere (Below end) (trees_of vs) _ (variables_below end f.params (length f.slots - f.params) (omega (arith, h, g)))
    (guards_below end (length f.slots) (length ls) g))

-- ---- functions

abbrev both : (Tree → Type 0) → (Tree → Type 0) → Tree → Type 0
both P R x = P x × R x

module _ (names : List (List ℕ)) (f : Function) (xs : List Item) (ranged : IsInRange f) (named : length names ≡ length f.labels)
    (is_body : f.body ≡ Some xs) where
  abbrev ls : List ℕ
  ls = labels_left xs 0 names

  abbrev more : List Slot
  more = map guard_slot (names_left xs 0 names)

  own_body : body_of f ≡ trees_of xs
  own_body = ap (λ o. option_map_or trees_of o Nil) is_body

  enough : length (f.slots ++ more) ≡ length f.slots + length ls
  enough = let a = length-append f.slots more in let c = slots_left xs 0 names in omega (arith, a, c)

  abbrev Old : ℕ → Type 0
  Old x = x < length f.slots

  abbrev New : ℕ → Type 0
  New x = x < length (f.slots ++ more)

  abbrev Left : ℕ → Type 0
  Left l = is_among l ls ≡ true

  wider : (x : ℕ) → Old x → New x
  wider x h = let e = enough in omega (arith, h, e)

  fresh : (l : ℕ) → Left l → New (slot_among (length f.slots) ls l)
  fresh l h = let e = enough in let i = slot_within (length f.slots) ls l h in omega (arith, e, i)

  -- a fact of the declarations and of the items is one of the whole body
  of_body : (P : Tree → Type 0) → ((x : Tree) → P x → P (tidy_item x)) → Everywhere P (trees_of (declared f ls)) →
      Everywhere P (G.plain_list (slot_among (length f.slots) ls) (trees_of xs)) → Everywhere P (trees_of (guarded_body f ls xs))
  of_body P keeps h g = subst (Everywhere P) (sym (flat_body names f xs))
      (tidy_everywhere P keeps (join (trees_of (declared f ls)) (G.plain_list (slot_among (length f.slots) ls) (trees_of xs)))
      (join_everywhere P (trees_of (declared f ls)) _ h g))

  flat_ranged : Everywhere IsConverted (body_of f) → Everywhere IsNoLeap (body_of f) → IsInRange (with_guard_variables names f xs)
  flat_ranged converted leapless =
      let slot = slot_among (length f.slots) ls in
      let e = enough in
      let decls = are_declared f ls in
      let at = λ (R : Tree → Type 0) (h : Everywhere R (body_of f)). subst (Everywhere R) own_body h in
      record {
        parameters = (let h = ranged.parameters in omega (arith, h, e));
        slots = of_body (ItemSlots New) (slots_tidy New) (declared_below f ls (length (f.slots ++ more)) ranged.parameters (omega (arith, e)))
            (plain_everywhere slot (both (ItemSlots Old) (ArmLabels Left)) (ItemSlots New) (slots_plain Old New wider slot Left fresh) (trees_of xs)
            (everywhere_both (ItemSlots Old) (ArmLabels Left) (trees_of xs) (at (ItemSlots Old) ranged.slots)
            (among_labels names (length f.labels) xs named (at (ItemLabels (λ l. l < length f.labels)) ranged.labels))));
        labels = of_body (ItemLabels (λ l. l < 0)) (labels_tidy (λ l. l < 0)) ((slots_declared (λ l. l < 0) _ _ (trees_of (declared f ls)) decls).0)
            (plain_everywhere slot (both IsConverted IsNoLeap) (ItemLabels (λ l. l < 0)) (labels_plain slot (λ l. l < 0)) (trees_of xs)
            (everywhere_both IsConverted IsNoLeap (trees_of xs) (at IsConverted converted) (at IsNoLeap leapless)));
        unguarded = λ z. of_body IsUnguarded unguarded_tidy ((slots_declared (λ l. l < 0) _ _ (trees_of (declared f ls)) decls).1)
            (plain_everywhere slot IsNoLeap IsUnguarded (unguarded_plain slot) (trees_of xs) (at IsNoLeap leapless));
      }

  tidy_ranged : IsInRange (record f { body = Some (tidied xs) })
  tidy_ranged =
      let tidy_body = λ (P : Tree → Type 0) (keeps : (x : Tree) → P x → P (tidy_item x)) (h : Everywhere P (body_of f)).
      subst (Everywhere P) (sym (tidied_trees xs)) (tidy_everywhere P keeps (trees_of xs) (subst (Everywhere P) own_body h)) in
      record {
        parameters = ranged.parameters;
        slots = tidy_body (ItemSlots Old) (slots_tidy Old) ranged.slots;
        labels = tidy_body (ItemLabels (λ l. l < length f.labels)) (labels_tidy (λ l. l < length f.labels)) ranged.labels;
        unguarded = λ z. tidy_body IsUnguarded unguarded_tidy (ranged.unguarded z);
      }

chosen_function : (P : Function → Type 0) (b : Bool) (x y : Function) → (b ≡ true → P x) → (b ≡ false → P y) → P (cond b x y)
chosen_function P true x y h g = h refl
chosen_function P false x y h g = g refl

function_by : (o : Option (List Item)) (names : List (List ℕ)) (f : Function) → f.body ≡ o → IsInRange f → length names ≡ length f.labels →
    (f.flat ≡ true → Everywhere IsConverted (body_of f)) → (f.flat ≡ true → Everywhere IsNoLeap (body_of f)) → IsInRange (plain_body names f o)
function_by None names f e h n c l = h
function_by (Some xs) names f e h n c l =
    chosen_function IsInRange f.flat (with_guard_variables names f xs) (record f { body = Some (tidied xs) })
    (λ q. flat_ranged names f xs h n e (c q) (l q)) (λ q. tidy_ranged names f xs h n e)

module _ (names : Function → List (List ℕ)) where
  top_ranged : (p : Program) (t : Top) → IsTopReady (code_of p) names t → IsTopInRange (plain_top names t)
  top_ranged p (T.Function f) h = function_by f.body (names f) f refl h.ranged h.finished.named (λ q. let m = h.finished.made q in m.converted)
      h.finished.leapless
  top_ranged p _ h = tt

  tops_ranged : (p : Program) (ts : List Top) → AllByRecursion (IsTopReady (code_of p) names) ts → AllByRecursion IsTopInRange (map (plain_top names) ts)
  tops_ranged p [] h = tt
  tops_ranged p (t ∷ ts) h = (top_ranged p t h.0, tops_ranged p ts h.1)

-- the plain form of a program that is ready is in range
pub plain_ranged : (names : Function → List (List ℕ)) (p : Program) → IsProgramReady names p → IsProgramInRange (plain_with names p)
plain_ranged names p h = All-from_recursion IsTopInRange (map (plain_top names) p.tops)
    (tops_ranged names p p.tops (recursion_from_All (IsTopReady (code_of p) names) p.tops h))
