-- A body that is bound is bound without its labels, and where its sections get their plain form.
use Rattle.std.proofs.Common.{◌≡◌, Bool, true, false, not, ◌&&◌, cond, List, refl, sym, ap, subst, ◌∙◌}
use Rattle.std.specs.Prelude.{IfSome}
use Rattle.c_tree.specs.declared.tree.Slot.{Slot}
use Rattle.c_tree.specs.ExpressionTrees.{ExpressionTree}
use Rattle.c_tree.specs.Trees.{Tree, Forest, Nil, Then, Sections, NoSection, Section, If, While, Do, For, Switch, Block, Local, Break, Mark, join}
use Rattle.flat_laws.specs.Unlabelled.{unlabelled, unlabelled_item, unlabelled_among}
use Rattle.plain_laws.specs.Tidied.{last_break, without_last, give, tidy, tidy_item, tidy_sections}
use Rattle.c_resolved_defs.specs.Within.{Each}
use Rattle.c_resolved_defs.specs.Scopes.{Scope, behind, behind_all, inside, IsBound, ItemIsBound, AreBound, SectionsAreBound}
use Rattle.whole_laws.proofs.ItemKinds.{each_join}
use Rattle.whole_laws.proofs.ScopeLists.{bound_join}

module _ (slots : List Slot) where
  -- ---- without labels

  behind_join : (a b : Forest) (ss : List Scope) → behind_all slots ss (join a b) ≡ behind_all slots (behind_all slots ss a) b
  behind_join Nil b ss = refl
  behind_join (Then x a) b ss = behind_join a b (behind slots ss x)

  behind_item_left : (x : Tree) (ss : List Scope) → behind_all slots ss (unlabelled_item x) ≡ behind slots ss x
  behind_item_left (Local k es) ss = refl
  behind_item_left _ ss = refl

  behind_left : (a : Forest) (ss : List Scope) → behind_all slots ss (unlabelled a) ≡ behind_all slots ss a
  behind_left Nil ss = refl
  behind_left (Then x a) ss = behind_join (unlabelled_item x) (unlabelled a) ss ∙
      ap (λ sc. behind_all slots sc (unlabelled a)) (behind_item_left x ss) ∙ behind_left a (behind slots ss x)

  mutual
    bound_left : (a : Forest) (ss : List Scope) → AreBound slots ss a → AreBound slots ss (unlabelled a)
    bound_left Nil ss h = tt
    bound_left (Then x a) ss h = bound_join slots (unlabelled_item x) (unlabelled a) ss (bound_item_left x ss h.0)
        (subst (λ sc. AreBound slots sc (unlabelled a)) (sym (behind_item_left x ss)) (bound_left a (behind slots ss x) h.1))

    bound_item_left : (x : Tree) (ss : List Scope) → ItemIsBound slots ss x → AreBound slots ss (unlabelled_item x)
    bound_item_left (If t a b) ss h = ((h.0, bound_left a (inside ss) h.1, bound_left b (inside ss) h.2), tt)
    bound_item_left (While t a) ss h = ((h.0, bound_left a (inside ss) h.1), tt)
    bound_item_left (Do a t) ss h = ((h.0, bound_left a (inside ss) h.1), tt)
    bound_item_left (For first t u a) ss h =
        let e = sym (behind_left first (inside ss)) in (
          (
            bound_left first (inside ss) h.0,
            subst (λ sc. IfSome t (IsBound slots sc)) e h.1,
            subst (λ sc. IfSome u (IsBound slots sc)) e h.2,
            subst (λ sc. AreBound slots (inside sc) (unlabelled a)) e (bound_left a (inside (behind_all slots (inside ss) first)) h.3),
          ),
          tt,
        )
    bound_item_left (Switch s c) ss h = ((h.0, sections_left c (inside ss) h.1), tt)
    bound_item_left (Block a) ss h = (bound_left a (inside ss) h, tt)
    bound_item_left (Mark l) ss h = tt
    bound_item_left _ ss h = (h, tt)

    sections_left : (c : Sections) (ss : List Scope) → SectionsAreBound slots ss c → SectionsAreBound slots ss (unlabelled_among c)
    sections_left NoSection ss h = tt
    sections_left (Section cases default a ends c) ss h = (
      h.0,
      bound_left a ss h.1,
      subst (λ sc. SectionsAreBound slots sc (unlabelled_among c)) (sym (behind_left a ss))
          (sections_left c (behind_all slots ss a) h.2),
    )

  -- ---- sections in their plain form

  behind_item_tidy : (x : Tree) (ss : List Scope) → behind slots ss (tidy_item x) ≡ behind slots ss x
  behind_item_tidy (Local k es) ss = refl
  behind_item_tidy _ ss = refl

  behind_tidy : (a : Forest) (ss : List Scope) → behind_all slots ss (tidy a) ≡ behind_all slots ss a
  behind_tidy Nil ss = refl
  behind_tidy (Then x a) ss = ap (λ sc. behind_all slots sc (tidy a)) (behind_item_tidy x ss) ∙ behind_tidy a (behind slots ss x)

  behind_before : (a : Forest) (ss : List Scope) → last_break a ≡ true → behind_all slots ss (without_last a) ≡ behind_all slots ss a
  behind_before Nil ss e = cc
  behind_before (Then Break Nil) ss e = refl
  behind_before (Then x Nil) ss e = cc
  behind_before (Then x (Then y a)) ss e = behind_before (Then y a) (behind slots ss x) e

  bound_before : (a : Forest) (ss : List Scope) → AreBound slots ss a → AreBound slots ss (without_last a)
  bound_before Nil ss h = tt
  bound_before (Then x Nil) ss h = tt
  bound_before (Then x (Then y a)) ss h = (h.0, bound_before (Then y a) (behind slots ss x) h.1)

  give_bound : (cases : List ExpressionTree) (default : Bool) (a : Forest) (ends : Bool) (c : Sections) (ss : List Scope) →
      Each (IsBound slots ss) cases → AreBound slots ss a → SectionsAreBound slots (behind_all slots ss a) c
      → SectionsAreBound slots ss (give cases default a ends c)
  give_bound cases default Nil false NoSection ss k h g = (k, h, g)
  give_bound cases default Nil false (Section cases' default' b ends c) ss k h g = (each_join (IsBound slots ss) cases cases' k g.0, g.1, g.2)
  give_bound cases default Nil true c ss k h g = (k, h, g)
  give_bound cases default (Then x a) ends c ss k h g = (k, h, g)

  second : (x y : Bool) → (x && y) ≡ true → y ≡ true
  second true y h = h
  second false y h = cc

  put_bound : (b : Bool) (cases : List ExpressionTree) (default : Bool) (a : Forest) (ends : Bool) (c : Sections) (ss : List Scope) →
      (not ends && last_break a) ≡ b → Each (IsBound slots ss) cases → AreBound slots ss a
      → SectionsAreBound slots (behind_all slots ss a) c → SectionsAreBound slots ss
      (cond b (give cases default (without_last a) true c) (give cases default a ends c))
  put_bound true cases default a ends c ss q k h g =
      give_bound cases default (without_last a) true c ss k (bound_before a ss h)
      (subst (λ sc. SectionsAreBound slots sc c) (sym (behind_before a ss (second (not ends) (last_break a) q))) g)
  put_bound false cases default a ends c ss q k h g = give_bound cases default a ends c ss k h g

  mutual
    bound_tidy : (a : Forest) (ss : List Scope) → AreBound slots ss a → AreBound slots ss (tidy a)
    bound_tidy Nil ss h = tt
    bound_tidy (Then x a) ss h = (
      bound_item_tidy x ss h.0,
      subst (λ sc. AreBound slots sc (tidy a)) (sym (behind_item_tidy x ss))
          (bound_tidy a (behind slots ss x) h.1),
    )

    bound_item_tidy : (x : Tree) (ss : List Scope) → ItemIsBound slots ss x → ItemIsBound slots ss (tidy_item x)
    bound_item_tidy (If t a b) ss h = (h.0, bound_tidy a (inside ss) h.1, bound_tidy b (inside ss) h.2)
    bound_item_tidy (While t a) ss h = (h.0, bound_tidy a (inside ss) h.1)
    bound_item_tidy (Do a t) ss h = (h.0, bound_tidy a (inside ss) h.1)
    bound_item_tidy (For first t u a) ss h =
        let e = sym (behind_tidy first (inside ss)) in (
          bound_tidy first (inside ss) h.0,
          subst (λ sc. IfSome t (IsBound slots sc)) e h.1,
          subst (λ sc. IfSome u (IsBound slots sc)) e h.2,
          subst (λ sc. AreBound slots (inside sc) (tidy a)) e (bound_tidy a (inside (behind_all slots (inside ss) first)) h.3),
        )
    bound_item_tidy (Switch s c) ss h = (h.0, sections_tidy c (inside ss) h.1)
    bound_item_tidy (Block a) ss h = bound_tidy a (inside ss) h
    bound_item_tidy _ ss h = h

    sections_tidy : (c : Sections) (ss : List Scope) → SectionsAreBound slots ss c → SectionsAreBound slots ss (tidy_sections c)
    sections_tidy NoSection ss h = tt
    sections_tidy (Section cases default a ends c) ss h =
        put_bound (not ends && last_break (tidy a)) cases default (tidy a) ends (tidy_sections c) ss refl h.0 (bound_tidy a ss h.1)
        (subst (λ sc. SectionsAreBound slots sc (tidy_sections c)) (sym (behind_tidy a ss)) (sections_tidy c (behind_all slots ss a) h.2))

  pub bound_unmoved : (a : Forest) (ss : List Scope) → AreBound slots ss a → AreBound slots ss (tidy (unlabelled a))
  bound_unmoved a ss h = bound_tidy (unlabelled a) ss (bound_left a ss h)
