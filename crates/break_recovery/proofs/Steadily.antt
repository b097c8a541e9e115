-- What is read to say of which slots a change makes or takes checks.
use mathlib.Core.Path.{ap₂}
use Rattle.std.proofs.Common.{ℕ, ◌+◌, ◌-◌, ◌<◌, ◌≤◌, Bool, true, false, not, cond, ◌&&◌, ◌||◌, eqb, List, [], ◌∷◌, ◌++◌, append_assoc, append-nil, length, drop, get_or, is_some, ◌≡◌, refl, sym, ap, ◌∙◌}
use Rattle.std.specs.List.{list_any}
use Rattle.std.proofs.Math.Bool.{or_assoc, or-false, or-true}
use Rattle.std.proofs.lemmas.Bool.{or_parts, or_from}
use Rattle.std.proofs.lemmas.List.Folds.{list_any-append}
use Rattle.c_tree.specs.declared.tree.Expression.{Expression}
use Rattle.c_tree.specs.declared.tree.Test as S
use Rattle.c_tree.specs.declared.tree.Test.{Test}
use Rattle.c_tree.specs.declared.tree.Item.{Item, If}
use Rattle.c_tree.specs.declared.tree.Section.{Section}
use Rattle.c_tree.specs.TestTrees.{TestTree, Source}
use Rattle.c_tree.specs.Paths.{list_of}
use Rattle.c_tree.specs.Trees.{Nil, trees_of, sections_of}
use Rattle.c_tree.specs.Views.{tree_at}
use Rattle.c_tree.proofs.TreeLaws.{trees-none}
use Rattle.c_tree.proofs.Views.{trees-first, trees-at, trees-end, sections-at, sections-end, at-If}
use Rattle.tidy_laws.specs.Mentions.{list_lacks}
use Rattle.tidy_loops.specs.Views.{expression_at, test_at, off_slot}
use Rattle.tidy_loops.proofs.FormLaws.{expression_same, test_same, at_source}
use Rattle.break_recovery.specs.declared.steady.Turned.{Turned}
use Rattle.break_recovery.specs.Steady.{no_slot, any_slot, both, is_turned, has_else, turned, item_turned, sections_turned}

-- ---- an else-list

none_else : (t : TestTree) → has_else t Nil ≡ false
none_else (Source e) = refl
none_else _ = refl

pub else_empty : (t : Test) (xs : List Item) → xs ≡ [] → has_else (test_at t) (trees_of xs) ≡ false
else_empty t xs e = ap (has_else (test_at t)) (ap trees_of e ∙ trees-none) ∙ none_else (test_at t)

pub else_there : (t : Test) (e : Expression) (xs : List Item) → t ≡ S.Source e → (xs ≡ [] → ⊥) →
    has_else (test_at t) (trees_of xs) ≡ is_some (off_slot (expression_at e))
else_there t e [] h i = absurd (i refl)
else_there t e (x ∷ xs) h i =
    ap (λ z. has_else (test_at z) (trees_of (x ∷ xs))) h ∙ ap (λ z. has_else z (trees_of (x ∷ xs))) (at_source e) ∙ ap (has_else (Source _)) (trees-first x xs)
    ∙ ap (λ z. is_some (off_slot z)) (expression_same e)

-- ---- the slots of two parts

pub both_parts : (h : ℕ) (a b : Turned) → is_turned h (both a b) ≡ false → (is_turned h a ≡ false) × (is_turned h b ≡ false)
both_parts h a b e =
    let of : List ℕ → Bool = list_any (λ x. eqb x h) in
    let p = or_parts (a.any || b.any) (of (a.slots ++ b.slots)) e in
    let q = or_parts a.any b.any p.0 in
    let r = or_parts (of a.slots) (of b.slots) (sym (list_any-append (λ x. eqb x h) a.slots b.slots) ∙ p.1) in
    (or_from a.any (of a.slots) q.0 r.0, or_from b.any (of b.slots) q.1 r.1)

pub both_false : (h : ℕ) (a b : Turned) → is_turned h a ≡ false → is_turned h b ≡ false → is_turned h (both a b) ≡ false
both_false h a b e f =
    let of : List ℕ → Bool = list_any (λ x. eqb x h) in
    let p = or_parts a.any (of a.slots) e in
    let q = or_parts b.any (of b.slots) f in
    or_from (a.any || b.any) (of (a.slots ++ b.slots)) (or_from a.any b.any p.0 q.0)
    (list_any-append (λ x. eqb x h) a.slots b.slots ∙ or_from (of a.slots) (of b.slots) p.1 q.1)

pub both_none : (a b : Turned) → a ≡ no_slot → b ≡ no_slot → both a b ≡ no_slot
both_none a b p q = ap₂ both p q

abbrev of_parts : List ℕ → Bool → Turned
of_parts xs b = record { slots = xs; any = b }

pub with_none : (a : Turned) → both a no_slot ≡ a
with_none a = ap₂ of_parts (append-nil a.slots) (or-false a.any)

pub with_any : (a : Turned) → record a { any = true } ≡ both a any_slot
with_any a = sym (ap₂ of_parts (append-nil a.slots) (or-true a.any))

pub both_same : (a b c : Turned) → both (both a b) c ≡ both a (both b c)
both_same a b c = ap₂ of_parts (append_assoc a.slots b.slots c.slots) (or_assoc a.any b.any c.any)

-- ---- lists

-- one item more is read
pub turned_more : (g : ℕ) (xs : List Item) (i : ℕ) (x : Item) (t u all : Turned) → i < length xs → x ≡ get_or xs i x → u ≡ both t (item_turned g (tree_at x)) →
    both t (turned g (trees_of (drop i xs))) ≡ all → both u (turned g (trees_of (drop (i + 1) xs))) ≡ all
turned_more g xs i x t u all l e m k =
    ap (λ z. both z (turned g (trees_of (drop (i + 1) xs)))) m ∙ both_same t (item_turned g (tree_at x)) (turned g (trees_of (drop (i + 1) xs)))
    ∙ sym (ap (λ a. both t (turned g a)) (trees-at xs i x l e)) ∙ k

pub turned_end : (g : ℕ) (xs : List Item) (i : ℕ) (t all : Turned) → length xs ≤ i → both t (turned g (trees_of (drop i xs))) ≡ all → t ≡ all
turned_end g xs i t all l k = sym (with_none t) ∙ sym (ap (λ a. both t (turned g a)) (trees-end xs i l)) ∙ k

pub section_more : (g : ℕ) (cs : List Section) (i : ℕ) (s : Section) (t u all : Turned) → i < length cs → s ≡ get_or cs i s →
    u ≡ both t (turned g (trees_of (list_of s))) → both t (sections_turned g (sections_of (drop i cs))) ≡ all →
    both u (sections_turned g (sections_of (drop (i + 1) cs))) ≡ all
section_more g cs i s t u all l e m k =
    ap (λ z. both z (sections_turned g (sections_of (drop (i + 1) cs)))) m
    ∙ both_same t (turned g (trees_of (list_of s))) (sections_turned g (sections_of (drop (i + 1) cs)))
    ∙ sym (ap (λ c. both t (sections_turned g c)) (sections-at cs i s l e)) ∙ k

pub sections_end : (g : ℕ) (cs : List Section) (i : ℕ) (t all : Turned) → length cs ≤ i → both t (sections_turned g (sections_of (drop i cs))) ≡ all → t ≡ all
sections_end g cs i t all l k = sym (with_none t) ∙ sym (ap (λ c. both t (sections_turned g c)) (sections-end cs i l)) ∙ k

-- ---- an `if`

pub if_told : (g : ℕ) (t : Test) (xs ys : List Item) (x : Item) → x ≡ If t xs ys → item_turned g (tree_at x) ≡
    both (turned g (trees_of xs)) (cond (has_else (test_at t) (trees_of ys) && not (list_lacks g (trees_of ys))) any_slot (turned g (trees_of ys)))
if_told g t xs ys x e =
    ap (item_turned g) (ap tree_at e ∙ at-If t xs ys) ∙
    ap (λ u. both (turned g (trees_of xs)) (cond (has_else u (trees_of ys) && not (list_lacks g (trees_of ys))) any_slot (turned g (trees_of ys)))) (test_same t)

-- what is turned behind its first list
pub if_on : (g : ℕ) (t : Test) (xs ys : List Item) (x : Item) (s u c : Turned) → x ≡ If t xs ys → u ≡ both s (turned g (trees_of xs)) →
    c ≡ cond (has_else (test_at t) (trees_of ys) && not (list_lacks g (trees_of ys))) any_slot (turned g (trees_of ys)) →
    both u c ≡ both s (item_turned g (tree_at x))
if_on g t xs ys x s u c e m k =
    ap₂ both m k ∙ both_same s (turned g (trees_of xs)) (cond _ any_slot (turned g (trees_of ys))) ∙ sym (ap (both s) (if_told g t xs ys x e))

pub else_goes : (h n : Bool) (b : Turned) → h ≡ true → n ≡ true → any_slot ≡ cond (h && n) any_slot b
else_goes true true b p q = refl
else_goes _ _ b p q = cc

pub else_stays : (c : Bool) (b : Turned) → c ≡ false → b ≡ cond c any_slot b
else_stays true b e = cc
else_stays false b e = refl
