-- A list that ends by a `break` has one more than without it.
use Rattle.std.proofs.Common.{◌≡◌, ℕ, zero, suc, ◌+◌, min, nat_eq, Bool, true, false, not, cond, ◌&&◌, Some, None, arith, refl, sym, ap, ◌∙◌}
use Rattle.std.proofs.lemmas.Bool.{false≢true}
use Rattle.c_tree.specs.Exits.{breaks, breaks_of}
use Rattle.c_tree.specs.Trees.{Tree, Forest, Nil, Then, Switch, Block, Local, Break, Mark}
use Rattle.flat_laws.specs.Parts.{Ending, Gone, Breaks, Jumps, Otherwise, is_some_number, later, gone_or, if_jumps, is_gone, is_scattered, leaves, ending, ending_of, last_ending, trimmed, trimmed_item}

no_break : (e : Ending) → if_jumps e ≡ Breaks → ⊥
no_break Gone h = cc
no_break Breaks h = cc
no_break Jumps h = cc
no_break Otherwise h = cc

pub no_break_if : (y : Bool) (e : Ending) → cond y (if_jumps e) Otherwise ≡ Breaks → ⊥
no_break_if true e h = no_break e h
no_break_if false e h = cc

pub gone_or_no : (y : Bool) → gone_or y ≡ Breaks → ⊥
gone_or_no true h = cc
gone_or_no false h = cc

pub later_both : (e f : Ending) → is_gone (later e f) ≡ true → (is_gone e ≡ true) × (is_gone f ≡ true)
later_both Gone f h = (refl, h)
later_both _ f h = absurd (false≢true h)

cond_breaks : (y : Bool) (u v : Forest) → breaks (cond y u v) ≡ cond y (breaks u) (breaks v)
cond_breaks true u v = refl
cond_breaks false u v = refl

-- counted up to two, there are two where one stays beside the last
pub two_or_one : (r m k : ℕ) → r ≡ min (0 + m) 2 → m ≡ suc k → nat_eq r 2 ≡ is_some_number k
two_or_one r m zero e f = let g : r ≡ 1 = omega (arith, e, f) in ap (λ z. nat_eq z 2) g
two_or_one r m (suc k) e f = let g : r ≡ 2 = omega (arith, e, f) in ap (λ z. nat_eq z 2) g

-- counted up to two, there are some where there is one
pub some_counted : (r m : ℕ) → r ≡ min (0 + m) 2 → not (nat_eq r 0) ≡ is_some_number m
some_counted r zero e = let g : r ≡ 0 = omega (arith, e) in ap (λ z. not (nat_eq z 0)) g
some_counted r (suc zero) e = let g : r ≡ 1 = omega (arith, e) in ap (λ z. not (nat_eq z 0)) g
some_counted r (suc (suc m)) e = let g : r ≡ 2 = omega (arith, e) in ap (λ z. not (nat_eq z 0)) g

-- of an item with m breaks and what stands behind it, with n
by_last : (e f : Ending) (m n a b : ℕ) → (is_gone e ≡ true → n ≡ 0) → (f ≡ Breaks → m ≡ suc a) → (e ≡ Breaks → n ≡ suc b) → later e f ≡ Breaks →
    m + n ≡ suc (cond (is_gone e) a (m + b))
by_last Gone f m n a b z g k h = let i = z refl in let j = g h in omega (arith, i, j)
by_last Breaks f m n a b z g k h = let j = k refl in omega (arith, j)
by_last _ f m n a b z g k h = cc

module _ (live : ℕ → Bool) where
  mutual
    no_breaks : (xs : Forest) → is_gone (ending live xs) ≡ true → breaks xs ≡ 0
    no_breaks Nil h = refl
    no_breaks (Then x xs) h =
        let both = later_both (ending live xs) (ending_of live x) h in
        let a = no_breaks_of x both.1 in
        let b = no_breaks xs both.0 in
        omega (arith, a, b)

    no_breaks_of : (x : Tree) → is_gone (ending_of live x) ≡ true → breaks_of x ≡ 0
    no_breaks_of (Block a) h = no_breaks a h
    no_breaks_of (Local x None) h = refl
    no_breaks_of (Local x (Some es)) h = refl
    no_breaks_of (Mark l) h = refl
    no_breaks_of (Switch s d) h = refl
    no_breaks_of _ h = absurd (false≢true h)

  mutual
    pub one_break_more : (xs : Forest) → ending live xs ≡ Breaks → breaks xs ≡ suc (breaks (trimmed live xs))
    one_break_more Nil h = cc
    one_break_more (Then x xs) h =
        by_last (ending live xs) (ending_of live x) (breaks_of x) (breaks xs) (breaks (trimmed_item live x)) (breaks (trimmed live xs)) (no_breaks xs)
        (one_break_more_in x) (one_break_more xs) h
        ∙ ap suc (sym (cond_breaks (is_gone (ending live xs)) (trimmed_item live x) (Then x (trimmed live xs))))

    one_break_more_in : (x : Tree) → ending_of live x ≡ Breaks → breaks_of x ≡ suc (breaks (trimmed_item live x))
    one_break_more_in Break h = refl
    one_break_more_in (Block a) h = let g = one_break_more a h in omega (arith, g)
    one_break_more_in (Switch s d) h = absurd (no_break_if (is_scattered d && not (leaves d)) (last_ending live d) h)
    one_break_more_in (Mark l) h = absurd (gone_or_no (live l) h)
    one_break_more_in (Local x None) h = cc
    one_break_more_in (Local x (Some es)) h = cc
    one_break_more_in _ h = cc
