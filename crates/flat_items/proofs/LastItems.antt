-- The flat form of a list that ends by a `break` ends by what that becomes.
use Rattle.std.proofs.Common.{◌≡◌, ℕ, Bool, true, false, not, cond, ◌&&◌, List, [], ◌∷◌, ◌++◌, Option, Some, None, refl, sym, ap, ◌∙◌}
use Rattle.std.specs.Prelude.{MatchOption}
use Rattle.std.proofs.lemmas.Bool.{false≢true}
use Rattle.c_tree.specs.Changed.{one}
use Rattle.c_tree.specs.Trees.{Tree, Forest, Nil, Then, Switch, Block, Local, Break, Goto, Mark, trees_of, join}
use Rattle.c_tree.specs.declared.tree.Item.{Item}
use Rattle.c_tree.specs.Views.{tree_at}
use Rattle.c_tree.proofs.Views.{trees-push}
use Rattle.c_tree.proofs.TreeLaws.{trees-none, join-nil}
use Rattle.flat_laws.specs.Pieces.{Aim, Stays, Becomes, Absent}
use Rattle.flat_laws.specs.Loose.{Arrivals, NoArrival}
use Rattle.flat_laws.specs.Parts.{Here, Ending, Gone, Breaks, Jumps, Otherwise, later, gone_or, if_jumps, is_gone, is_scattered, leaves, ending, ending_of, last_ending, past_item}
use Rattle.flat_laws.specs.FlatForm.{Plan, exit, mark_if, if_breaks, flat, flat_item, flat_last, flat_last_item}
use Rattle.flat_questions.proofs.LastBreaks.{later_both, no_break_if, gone_or_no}
use Rattle.flat_items.specs.Forms.{but_last}
use Rattle.flat_items.proofs.Joining.{joined}

but_last_one : (xs : Forest) (x : Tree) → but_last (join xs (one x)) ≡ xs
but_last_one Nil x = refl
but_last_one (Then y Nil) x = refl
but_last_one (Then y (Then z zs)) x = ap (Then y) (but_last_one (Then z zs) x)

but_last_exit : (xs : Forest) (b : Aim) (x : Tree) → but_last (join xs (exit b x)) ≡ xs
but_last_exit xs Stays x = but_last_one xs x
but_last_exit xs (Becomes l) x = but_last_one xs (Goto l)
but_last_exit xs Absent x = but_last_one xs x

-- a list whose last item was taken
pub popped : (r : Option Item) (ys zs : List Item) → MatchOption r ((ys ≡ []) × (zs ≡ [])) (λ last. ys ≡ zs ++ last ∷ []) → trees_of zs ≡ but_last (trees_of ys)
popped None ys zs e = ap trees_of e.1 ∙ trees-none ∙ sym (ap (λ z. but_last (trees_of z)) e.0 ∙ ap but_last trees-none)
popped (Some x) ys zs e = sym (ap (λ z. but_last (trees_of z)) e ∙ ap but_last (trees-push zs x) ∙ but_last_one (trees_of zs) (tree_at x))

not_gone : (e : Ending) → is_gone (if_jumps e) ≡ true → ⊥
not_gone Gone h = false≢true h
not_gone Breaks h = false≢true h
not_gone Jumps h = false≢true h
not_gone Otherwise h = false≢true h

not_gone_if : (y : Bool) (e : Ending) → is_gone (cond y (if_jumps e) Otherwise) ≡ true → ⊥
not_gone_if true e h = not_gone e h
not_gone_if false e h = false≢true h

no_mark : (y : Bool) (l : ℕ) → is_gone (gone_or y) ≡ true → mark_if y l ≡ Nil
no_mark true l h = absurd (false≢true h)
no_mark false l h = refl

-- of an item in whose place x stands, or y without the last exit, and what stands behind it
by_last : (e f : Ending) (x y xs ys z : Forest) → (is_gone e ≡ true → xs ≡ Nil) → (f ≡ Breaks → x ≡ join y z) → (e ≡ Breaks → xs ≡ join ys z) →
    later e f ≡ Breaks → join x xs ≡ join (cond (is_gone e) y (join x ys)) z
by_last Gone f x y xs ys z none g k h = ap (join x) (none refl) ∙ join-nil x ∙ g h
by_last Breaks f x y xs ys z none g k h = ap (join x) (k refl) ∙ sym (joined x ys z)
by_last _ f x y xs ys z none g k h = cc

module _ (p : Plan) where
  mutual
    -- what goes leaves nothing
    leaves_none : (h : Here) (b c : Aim) (r : Arrivals) (xs : Forest) → is_gone (ending p.live xs) ≡ true → flat p h b c r xs ≡ Nil
    leaves_none h b c r Nil g = refl
    leaves_none h b c r (Then x xs) g =
        let both = later_both (ending p.live xs) (ending_of p.live x) g in
        ap (λ z. join z (flat p (past_item x h) b c r xs)) (leaves_none_in h b c r x both.1) ∙ leaves_none (past_item x h) b c r xs both.0

    leaves_none_in : (h : Here) (b c : Aim) (r : Arrivals) (x : Tree) → is_gone (ending_of p.live x) ≡ true → flat_item p h b c r x ≡ Nil
    leaves_none_in h b c r (Block a) g = leaves_none h b c r a g
    leaves_none_in h b c r (Local x None) g = refl
    leaves_none_in h b c r (Local x (Some es)) g = absurd (false≢true g)
    leaves_none_in h b c r (Mark l) g = no_mark (p.live l) (p.source l) g
    leaves_none_in h b c r (Switch s d) g = absurd (not_gone_if (is_scattered d && not (leaves d)) (last_ending p.live d) g)
    leaves_none_in h b c r _ g = absurd (false≢true g)

  mutual
    ends_by_exit : (h : Here) (b c : Aim) (r : Arrivals) (xs : Forest) → ending p.live xs ≡ Breaks →
        flat p h b c r xs ≡ join (flat_last p h b c r xs) (exit b Break)
    ends_by_exit h b c r Nil g = cc
    ends_by_exit h b c r (Then x xs) g =
        by_last (ending p.live xs) (ending_of p.live x) (flat_item p h b c r x) (flat_last_item p h b c r x) (flat p (past_item x h) b c r xs)
        (flat_last p (past_item x h) b c r xs) (exit b Break)
        (leaves_none (past_item x h) b c r xs) (ends_by_exit_in h b c r x) (ends_by_exit (past_item x h) b c r xs) g

    ends_by_exit_in : (h : Here) (b c : Aim) (r : Arrivals) (x : Tree) → ending_of p.live x ≡ Breaks →
        flat_item p h b c r x ≡ join (flat_last_item p h b c r x) (exit b Break)
    ends_by_exit_in h b c r Break g = refl
    ends_by_exit_in h b c r (Block a) g = ends_by_exit h b c r a g
    ends_by_exit_in h b c r (Switch s d) g = absurd (no_break_if (is_scattered d && not (leaves d)) (last_ending p.live d) g)
    ends_by_exit_in h b c r (Mark l) g = absurd (gone_or_no (p.live l) g)
    ends_by_exit_in h b c r (Local x None) g = cc
    ends_by_exit_in h b c r (Local x (Some es)) g = cc
    ends_by_exit_in h b c r _ g = cc

-- the list of a section is the flat form of the whole, or that without its last item
pub cut_is : (p : Plan) (h : Here) (b c : Aim) (a : Forest) (e : Ending) → ending p.live a ≡ e →
    if_breaks e (but_last (flat p h b c NoArrival a)) (flat p h b c NoArrival a) ≡ if_breaks e (flat_last p h b c NoArrival a) (flat p h b c NoArrival a)
cut_is p h b c a Breaks g = ap but_last (ends_by_exit p h b c NoArrival a g) ∙ but_last_exit (flat_last p h b c NoArrival a) b Break
cut_is p h b c a _ g = refl
