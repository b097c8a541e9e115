-- Sections that take their ends from the last item of their list.
use Rattle.std.proofs.Common.{◌≡◌, ℕ, zero, suc, ◌+◌, Option, Some, None, MatchOption, arith, Bool, true, not, ◌&&◌, cond, List, [], ◌∷◌, ◌++◌, length, get_or, refl, sym, ap, ◌∙◌}
use Rattle.c_tree.specs.declared.tree.Expression.{Expression}
use Rattle.c_tree.specs.declared.tree.Item.{Item}
use Rattle.c_tree.specs.declared.tree.Section.{roll-Section}
use Rattle.plain_laws.specs.Plain.{is_break, last_is_break, without_last, ended}

pub without : (xs : List Item) (x : Item) → without_last (xs ++ x ∷ []) ≡ xs
without [] x = refl
without (y ∷ []) x = refl
without (y ∷ z ∷ xs) x = ap (λ ys. y ∷ ys) (without (z ∷ xs) x)

pub last_at : (xs : List Item) (i : ℕ) (x : Item) → i + 1 ≡ length xs → x ≡ get_or xs i x → last_is_break xs ≡ is_break x
last_at [] i x e h = absurd (omega (arith, e))
last_at (y ∷ []) zero x e h = ap is_break (sym h)
last_at (y ∷ []) (suc i) x e h = absurd (omega (arith, e))
last_at (y ∷ z ∷ ys) zero x e h = absurd (omega (arith, e))
last_at (y ∷ z ∷ ys) (suc i) x e h = last_at (z ∷ ys) i x (omega (arith, e)) h

-- what is left of a list whose last item is `break`, without that
pub popped : (r : Option Item) (old new : List Item) → MatchOption r ((old ≡ []) × (new ≡ [])) (λ last. old ≡ new ++ last ∷ []) → new ≡ without_last old
popped None old new h = h.1 ∙ ap without_last (sym h.0)
popped (Some x) old new h = sym (without new x) ∙ ap without_last (sym h)

-- a section that takes its end
pub ended_without : (cases : List Expression) (default : Bool) (list left : List Item) (ends : Bool) → (not ends && last_is_break list) ≡ true →
    left ≡ without_last list
    → roll-Section (record { cases = cases; default = default; list = left; ends = true }) ≡ ended
    (record { cases = cases; default = default; list = list; ends = ends })
ended_without cases default list left ends h e =
    ap (λ l. roll-Section (record { cases = cases; default = default; list = l; ends = true })) e
    ∙ ap (λ b. cond b (roll-Section (record { cases = cases; default = default; list = without_last list; ends = true }))
    (roll-Section (record { cases = cases; default = default; list = list; ends = ends }))) (sym h)
