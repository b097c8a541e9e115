-- What lacks a slot stays as it is at a change of it, and turns no other.
use Rattle.std.proofs.Common.{ℕ, Bool, true, false, not, cond, ◌&&◌, eqb, eqb-true, sym, Option, Some, None, ◌≡◌, refl, ap, ◌∙◌, arith}
use Rattle.std.proofs.lemmas.Bool.{and_parts, not-true}
use Rattle.c_types.specs.declared.kinds.IntKind.TheVariants.{Int}
use Rattle.c_tree.specs.declared.tree.Home.TheVariants as H
use Rattle.c_tree.specs.ExpressionTrees.{ExpressionTree, PlaceTree, Typed, Var, Number, Assign}
use Rattle.c_tree.specs.Trees.{Tree, Forest, Nil, Then, Sections, NoSection, Section, Evaluate, If, While, Do, For, Switch, Block}
use Rattle.tidy_laws.specs.Mentions.{lacks, place_lacks, test_lacks, selector_lacks, option_lacks, list_lacks, item_lacks, sections_lack}
use Rattle.tidy_laws.specs.Changes.{is_number, inner, tailed}
use Rattle.tidy_slots.specs.Counts.{list_count, item_count}
use Rattle.tidy_slots.proofs.CountLemmas.{none_list, none_item}
use Rattle.tidy_loops.specs.Views.{place_slot, off_slot, is_it, is_int_kind}
use Rattle.tidy_loops.proofs.Unnamed.{inner_unnamed, tailed_unnamed}
use Rattle.tidy_loops.specs.Slots.{reset_slot, last_reset, but_last}
use Rattle.tidy_loops.specs.Remaining.{loop_list}
use Rattle.break_recovery.specs.Exits.{is_loop}
use Rattle.break_recovery.specs.declared.steady.Turned.{Turned}
use Rattle.break_recovery.specs.Steady.{no_slot, any_slot, one_of, set_turned, has_else, turned, item_turned, sections_turned}
use Rattle.break_recovery.proofs.Steadily.{both_none}

module _ (g : ℕ) where
  -- ---- a change of the slot keeps it

  pub inner_lacking : (a : Forest) → list_lacks g a ≡ true → inner g a ≡ a
  inner_lacking a e = inner_unnamed g a (eqb-true (list_count g a) 0 (sym (none_list g a) ∙ e))

  pub tailed_lacking : (l : Tree) (a : Forest) → list_lacks g a ≡ true → tailed g l a ≡ a
  tailed_lacking l a e = tailed_unnamed g l a (eqb-true (list_count g a) 0 (sym (none_list g a) ∙ e))

  -- ---- it turns no other

  lacks_place : (p : PlaceTree) → place_lacks g p ≡ true → is_it g (place_slot p) ≡ false
  lacks_place (Var (H.Slot x)) e = not-true (eqb x g) e
  lacks_place (Var (H.Global m)) e = refl
  lacks_place _ e = refl

  lacks_sets : (e : ExpressionTree) → lacks g e ≡ true → set_turned g e ≡ no_slot
  lacks_sets (Typed k (Assign p v)) e =
      ap (λ z. cond z (one_of (off_slot v)) no_slot) (lacks_place p (and_parts (place_lacks g p) (lacks g v) e).0)
  lacks_sets _ e = refl

  else_none : (a b : Bool) (c : Turned) → b ≡ true → c ≡ no_slot → cond (a && not b) any_slot c ≡ no_slot
  else_none true true c p q = q
  else_none true false c p q = cc
  else_none false b c p q = q

  mutual
    pub turned_lacking : (a : Forest) → list_lacks g a ≡ true → turned g a ≡ no_slot
    turned_lacking Nil e = refl
    turned_lacking (Then x xs) e =
        let i = and_parts (item_lacks g x) (list_lacks g xs) e in
        both_none (item_turned g x) (turned g xs) (item_turned_lacking x i.0) (turned_lacking xs i.1)

    pub item_turned_lacking : (x : Tree) → item_lacks g x ≡ true → item_turned g x ≡ no_slot
    item_turned_lacking (Evaluate v) e = lacks_sets v e
    item_turned_lacking (If t a b) e =
        let i = and_parts (test_lacks g t) (list_lacks g a && list_lacks g b) e in
        let k = and_parts (list_lacks g a) (list_lacks g b) i.1 in
        both_none (turned g a) (cond (has_else t b && not (list_lacks g b)) any_slot (turned g b)) (turned_lacking a k.0)
        (else_none (has_else t b) (list_lacks g b) (turned g b) k.1 (turned_lacking b k.1))
    item_turned_lacking (While t a) e = turned_lacking a (and_parts (test_lacks g t) (list_lacks g a) e).1
    item_turned_lacking (Do a t) e = turned_lacking a (and_parts (list_lacks g a) (test_lacks g t) e).0
    item_turned_lacking (For f t u a) e =
        let i = and_parts (list_lacks g f) (option_lacks g t && (option_lacks g u && list_lacks g a)) e in
        let k = and_parts (option_lacks g t) (option_lacks g u && list_lacks g a) i.1 in
        turned_lacking a (and_parts (option_lacks g u) (list_lacks g a) k.1).1
    item_turned_lacking (Switch s c) e = sections_turned_lacking c (and_parts (selector_lacks g s) (sections_lack g c) e).1
    item_turned_lacking (Block a) e = turned_lacking a e
    item_turned_lacking x e = refl

    pub sections_turned_lacking : (c : Sections) → sections_lack g c ≡ true → sections_turned g c ≡ no_slot
    sections_turned_lacking NoSection e = refl
    sections_turned_lacking (Section cases default a ends c) e =
        let i = and_parts (list_lacks g a) (sections_lack g c) e in
        both_none (turned g a) (sections_turned g c) (turned_lacking a i.0) (sections_turned_lacking c i.1)

  -- ---- the same where it is counted 0 times

  pub turned_uncounted : (a : Forest) → list_count g a ≡ 0 → turned g a ≡ no_slot
  turned_uncounted a e = turned_lacking a (none_list g a ∙ ap (λ n. eqb n 0) e)

  pub item_turned_uncounted : (x : Tree) → item_count g x ≡ 0 → item_turned g x ≡ no_slot
  item_turned_uncounted x e = item_turned_lacking x (none_item g x ∙ ap (λ n. eqb n 0) e)

  -- ---- loops

  -- a loop turns what its body does, whatever its test does
  loop_turned : (x : Tree) → is_loop x ≡ true → turned g (loop_list x) ≡ item_turned g x
  loop_turned (While t a) i = refl
  loop_turned (Do a t) i = refl
  loop_turned (For f t u a) i = refl
  loop_turned _ i = cc

  pub loop_turned_uncounted : (x : Tree) → is_loop x ≡ true → list_count g (loop_list x) ≡ 0 → item_turned g x ≡ no_slot
  loop_turned_uncounted x i e = sym (loop_turned x i) ∙ turned_uncounted (loop_list x) e

  taken : (b : Bool) (s : Option ℕ) → cond b s None ≡ Some g → b ≡ true
  taken true s e = refl
  taken false s e = cc

  number_no_off : (v : ExpressionTree) → is_number 0 v ≡ true → off_slot v ≡ None
  number_no_off (Typed (Some Int) (Number z)) e = refl
  number_no_off _ e = cc

  assigned_none : (b : Bool) (s : Option ℕ) → s ≡ None → cond b (one_of s) no_slot ≡ no_slot
  assigned_none true s e = ap one_of e
  assigned_none false s e = refl

  reset_turned : (x : Tree) → reset_slot x ≡ Some g → item_turned g x ≡ no_slot
  reset_turned (Evaluate (Typed k (Assign p v))) e =
      let i = and_parts (is_int_kind k) (is_number 0 v) (taken (is_int_kind k && is_number 0 v) (place_slot p) e) in
      assigned_none (is_it g (place_slot p)) (off_slot v) (number_no_off v i.1)
  reset_turned _ e = cc

  -- a list that names the slot in its last `g = 0;` alone turns no other
  pub turned_reset : (a : Forest) → last_reset a ≡ Some g → list_count g (but_last a) ≡ 0 → turned g a ≡ no_slot
  turned_reset Nil i e = refl
  turned_reset (Then x Nil) i e = both_none (item_turned g x) no_slot (reset_turned x i) refl
  turned_reset (Then x (Then y ys)) i e =
      let p : item_count g x ≡ 0 = omega (arith, e) in
      let q : list_count g (but_last (Then y ys)) ≡ 0 = omega (arith, e) in
      both_none (item_turned g x) (turned g (Then y ys)) (item_turned_uncounted x p) (turned_reset (Then y ys) i q)

  -- and the loop with this body
  pub loop_turned_reset : (x : Tree) → is_loop x ≡ true → last_reset (loop_list x) ≡ Some g → list_count g (but_last (loop_list x)) ≡ 0 →
      item_turned g x ≡ no_slot
  loop_turned_reset x i k e = sym (loop_turned x i) ∙ turned_reset (loop_list x) k e
