-- How lists end, from one place on.
use Rattle.std.proofs.Common.{◌≡◌, ℕ, zero, suc, ◌+◌, ◌<◌, ◌≤◌, Bool, true, false, List, [], ◌∷◌, length, drop, get_or, arith, refl, sym, ap, ◌∙◌}
use Rattle.std.proofs.lemmas.Bool.{false≢true}
use Rattle.c_tree.specs.declared.tree.Item.{Item}
use Rattle.c_tree.specs.declared.tree.Section as Real
use Rattle.c_tree.specs.Paths.{list_of}
use Rattle.c_tree.specs.Trees.{trees_of, sections_of}
use Rattle.flat_laws.specs.Parts.{Ending, Gone, later, is_gone, ending, ending_of, last_ending}
use Rattle.c_tree.specs.Views.{tree_at, before}
use Rattle.c_tree.proofs.Views.{trees-first, trees-at, trees-end, section-first}
use Rattle.c_tree.proofs.TreeLaws.{sections-none}

-- of a list from place i on nothing stays
abbrev pub goes : (ℕ → Bool) → List Item → ℕ → Bool
goes live xs i = is_gone (ending live (trees_of (drop i xs)))

later_gone : (e f : Ending) → is_gone e ≡ true → later e f ≡ f
later_gone Gone f h = refl
later_gone _ f h = absurd (false≢true h)

later_kept : (e f : Ending) → is_gone e ≡ false → later e f ≡ e
later_kept Gone f h = absurd (false≢true (sym h))
later_kept _ f h = refl

pub gone_is : (e : Ending) → is_gone e ≡ true → e ≡ Gone
gone_is Gone h = refl
gone_is _ h = absurd (false≢true h)

ending_at : (live : ℕ → Bool) (xs : List Item) (i : ℕ) (x : Item) → i < length xs → x ≡ get_or xs i x →
    ending live (trees_of (drop i xs)) ≡ later (ending live (trees_of (drop (i + 1) xs))) (ending_of live (tree_at x))
ending_at live xs i x h e = ap (ending live) (trees-at xs i x h e)

pub goes_end : (live : ℕ → Bool) (xs : List Item) (i : ℕ) → length xs ≤ i → goes live xs i ≡ true
goes_end live xs i h = ap (λ t. is_gone (ending live t)) (trees-end xs i h)

-- one item before, if that goes as well
pub goes_before : (live : ℕ → Bool) (xs : List Item) (i m j : ℕ) (x : Item) → i < length xs → i + 1 ≡ m → j ≡ i → x ≡ get_or xs i x →
    goes live xs m ≡ true → is_gone (ending_of live (tree_at x)) ≡ true → goes live xs j ≡ true
goes_before live xs i m j x h e f g r s =
    ap (goes live xs) f ∙ ap is_gone (ending_at live xs i x h g ∙ later_gone (ending live (trees_of (drop (i + 1) xs))) (ending_of live (tree_at x))
    (ap (goes live xs) e ∙ r)) ∙ s

-- an item stays behind which all goes: the list from it on ends as it does
pub ends_here : (live : ℕ → Bool) (xs : List Item) (i m : ℕ) (x : Item) → i < length xs → i + 1 ≡ m → x ≡ get_or xs i x → goes live xs m ≡ true →
    ending live (trees_of (drop i xs)) ≡ ending_of live (tree_at x)
ends_here live xs i m x h e g r = ending_at live xs i x h g ∙ later_gone (ending live (trees_of (drop (i + 1) xs))) (ending_of live (tree_at x))
    (ap (goes live xs) e ∙ r)

-- where something stays from a place on, the list ends as from there on
pub ends_from : (live : ℕ → Bool) (xs : List Item) (i : ℕ) → goes live xs i ≡ false → ending live (trees_of xs) ≡ ending live (trees_of (drop i xs))
ends_from live xs zero h = refl
ends_from live [] (suc i) h = refl
ends_from live (x ∷ xs) (suc i) h =
    let rest = ends_from live xs i h in
    ap (ending live) (trees-first x xs) ∙ later_kept (ending live (trees_of xs)) (ending_of live (tree_at x)) (ap is_gone rest ∙ h) ∙ rest

-- ---- sections

pub last_at : (live : ℕ → Bool) (cs : List Real.Section) (i : ℕ) (c : Real.Section) → i + 1 ≡ length cs → c ≡ get_or cs i c →
    last_ending live (sections_of cs) ≡ ending live (trees_of (list_of c))
last_at live [] i c h e = absurd (omega arith)
last_at live (d ∷ []) i c h e =
    let z : i ≡ 0 = omega arith in
    ap (last_ending live) (section-first d [] ∙ ap (before d) sections-none) ∙
    ap (λ y. ending live (trees_of (list_of y))) (sym (e ∙ ap (λ n. get_or (d ∷ []) n c) z))
last_at live (d ∷ f ∷ cs) zero c h e = absurd (omega arith)
last_at live (d ∷ f ∷ cs) (suc i) c h e =
    let inner = section-first f cs in
    ap (last_ending live) (section-first d (f ∷ cs) ∙ ap (before d) inner) ∙ ap (last_ending live) (sym inner) ∙ last_at live (f ∷ cs) i c (omega arith) e

pub last_none : (live : ℕ → Bool) (cs : List Real.Section) → length cs ≡ 0 → last_ending live (sections_of cs) ≡ Gone
last_none live [] h = ap (last_ending live) sections-none
last_none live (c ∷ cs) h = absurd (omega arith)
