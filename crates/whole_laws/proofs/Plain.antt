-- The plain form of a function has its Notes.
use Rattle.std.proofs.Common.{◌≡◌, ℕ, Bool, true, false, not, ◌&&◌, cond, List, [], ◌++◌, Option, Some, None, refl, sym, ap, ◌∙◌}
use Rattle.std.specs.Option.{option_map_or}
use Rattle.c_tree.specs.declared.tree.Function.{Function}
use Rattle.c_tree.specs.declared.tree.Item.{Item}
use Rattle.c_tree.specs.ExpressionTrees.{ExpressionTree}
use Rattle.c_tree.specs.Trees.{Tree, Forest, Nil, Then, Sections, NoSection, Section, If, While, Do, For, Switch, Block, Break, Arm, Land, Note, join, trees_of}
use Rattle.c_tree.specs.InRange.{body_of}
use Rattle.plain_laws.specs.GuardSlots.{plain_list, plain_item, plain_sections}
use Rattle.plain_laws.specs.Slotted.{AreDeclarations, none, one_more, variable, guarding}
use Rattle.plain_laws.specs.Tidied.{is_break, last_break, without_last, give, tidy, tidy_item, tidy_sections}
use Rattle.plain_laws.specs.Plain.{labels_left, slot_among, declared, tidied, with_guard_variables, plain_body, plain_function}
use Rattle.plain_laws.proofs.PlainFunctions as P
use Rattle.plain_laws.proofs.PlainFunctions.{are_declared}
use Rattle.plain_laws.proofs.TidyTrees.{tidied_trees}
use Rattle.plain_laws.proofs.PlainShown.{second_true}
use Rattle.whole_laws.specs.Notes.{notes, notes_in, notes_among}
use Rattle.whole_laws.proofs.Lists.{both, behind_none}

-- ---- guards as variables

module _ (slot : ℕ → ℕ) where
  mutual
    plain_notes : (a : Forest) → notes (plain_list slot a) ≡ notes a
    plain_notes Nil = refl
    plain_notes (Then x a) = both (notes_in (plain_item slot x)) (notes_in x) (notes (plain_list slot a)) (notes a) (plain_notes_of x) (plain_notes a)

    plain_notes_of : (x : Tree) → notes_in (plain_item slot x) ≡ notes_in x
    plain_notes_of (If t a b) = both (notes (plain_list slot a)) (notes a) (notes (plain_list slot b)) (notes b) (plain_notes a) (plain_notes b)
    plain_notes_of (While t a) = plain_notes a
    plain_notes_of (Do a t) = plain_notes a
    plain_notes_of (For first t u a) = both (notes (plain_list slot first)) (notes first) (notes (plain_list slot a)) (notes a) (plain_notes first)
        (plain_notes a)
    plain_notes_of (Switch s c) = plain_notes_in c
    plain_notes_of (Block a) = plain_notes a
    plain_notes_of (Arm l e) = refl
    plain_notes_of (Land l) = refl
    plain_notes_of x = refl

    plain_notes_in : (c : Sections) → notes_among (plain_sections slot c) ≡ notes_among c
    plain_notes_in NoSection = refl
    plain_notes_in (Section cases default a ends c) = both (notes (plain_list slot a)) (notes a) (notes_among (plain_sections slot c)) (notes_among c)
        (plain_notes a) (plain_notes_in c)

declarations : (base end : ℕ) (a : Forest) → AreDeclarations base end a → notes a ≡ []
declarations base end Nil none = refl
declarations base end (Then x a) (one_more (variable y) r) = declarations base end a r
declarations base end (Then x a) (one_more (guarding y i j) r) = declarations base end a r

-- ---- sections

break_none : (x : Tree) → is_break x ≡ true → notes_in x ≡ []
break_none Break e = refl
break_none (Note bytes) e = cc
break_none (If t a b) e = cc
break_none (While t a) e = cc
break_none (Do a t) e = cc
break_none (For first t u a) e = cc
break_none (Switch s c) e = cc
break_none (Block a) e = cc
break_none _ e = refl

cut_notes : (a : Forest) → last_break a ≡ true → notes (without_last a) ≡ notes a
cut_notes Nil e = refl
cut_notes (Then x Nil) e = sym (ap (λ l. l ++ []) (break_none x e))
cut_notes (Then x (Then y a)) e = ap (λ l. notes_in x ++ l) (cut_notes (Then y a) e)

give_notes : (cases : List ExpressionTree) (default : Bool) (a : Forest) (ends : Bool) (c : Sections) →
    notes_among (give cases default a ends c) ≡ notes a ++ notes_among c
give_notes cases default Nil false NoSection = refl
give_notes cases default Nil false (Section cases' default' b ends c) = refl
give_notes cases default Nil true c = refl
give_notes cases default (Then x a) ends c = refl

put_notes : (b : Bool) (cases : List ExpressionTree) (default : Bool) (a : Forest) (ends : Bool) (c : Sections) → (not ends && last_break a) ≡ b
    → notes_among (cond b (give cases default (without_last a) true c) (give cases default a ends c)) ≡ notes a ++ notes_among c
put_notes true cases default a ends c e = give_notes cases default (without_last a) true c ∙ ap (λ l. l ++ notes_among c)
    (cut_notes a (second_true (not ends) (last_break a) e))
put_notes false cases default a ends c e = give_notes cases default a ends c

mutual
  tidy_notes : (a : Forest) → notes (tidy a) ≡ notes a
  tidy_notes Nil = refl
  tidy_notes (Then x a) = both (notes_in (tidy_item x)) (notes_in x) (notes (tidy a)) (notes a) (tidy_notes_of x) (tidy_notes a)

  tidy_notes_of : (x : Tree) → notes_in (tidy_item x) ≡ notes_in x
  tidy_notes_of (If t a b) = both (notes (tidy a)) (notes a) (notes (tidy b)) (notes b) (tidy_notes a) (tidy_notes b)
  tidy_notes_of (While t a) = tidy_notes a
  tidy_notes_of (Do a t) = tidy_notes a
  tidy_notes_of (For first t u a) = both (notes (tidy first)) (notes first) (notes (tidy a)) (notes a) (tidy_notes first) (tidy_notes a)
  tidy_notes_of (Switch s c) = tidy_notes_in c
  tidy_notes_of (Block a) = tidy_notes a
  tidy_notes_of x = refl

  tidy_notes_in : (c : Sections) → notes_among (tidy_sections c) ≡ notes_among c
  tidy_notes_in NoSection = refl
  tidy_notes_in (Section cases default a ends c) =
      put_notes (not ends && last_break (tidy a)) cases default (tidy a) ends (tidy_sections c) refl ∙
      both (notes (tidy a)) (notes a) (notes_among (tidy_sections c)) (notes_among c) (tidy_notes a) (tidy_notes_in c)

-- ---- functions

by_flat : (b : Bool) (names : List (List ℕ)) (f : Function) (xs : List Item) →
    notes (body_of (cond b (with_guard_variables names f xs) (record f { body = Some (tidied xs) }))) ≡ notes (trees_of xs)
by_flat true names f xs =
    let ls = labels_left xs 0 names in
    ap notes (P.flat_body names f xs)
    ∙ tidy_notes (join (trees_of (declared f ls)) (plain_list (slot_among _ ls) (trees_of xs)))
    ∙ behind_none (trees_of (declared f ls)) (plain_list (slot_among _ ls) (trees_of xs)) (declarations _ _ (trees_of (declared f ls)) (are_declared f ls))
    ∙ plain_notes (slot_among _ ls) (trees_of xs)
by_flat false names f xs = ap notes (tidied_trees xs) ∙ tidy_notes (trees_of xs)

by_body : (names : List (List ℕ)) (f : Function) (o : Option (List Item)) → f.body ≡ o →
    notes (body_of (plain_body names f o)) ≡ notes (option_map_or trees_of o Nil)
by_body names f None e = ap (λ o. notes (option_map_or trees_of o Nil)) e
by_body names f (Some xs) e = by_flat f.flat names f xs

pub plain_function_notes : (names : List (List ℕ)) (f : Function) → notes (body_of (plain_function names f)) ≡ notes (body_of f)
plain_function_notes names f = by_body names f f.body refl
