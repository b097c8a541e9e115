-- A body in which the slot is 0 wherever it is tested, and the same without the slot, come to the same.
use Rattle.std.proofs.Common.{ℕ, suc, ◌<◌, Bool, true, false, cond, not, eqb, List, [], ◌∷◌, map, length, Option, Some, None, ◌≡◌, refl, sym, ap, ◌∙◌, subst, arith}
use Rattle.std.specs.Prelude.{IfSome}
use Rattle.std.proofs.lemmas.Bool.{and_parts}
use Rattle.c_tree.specs.Constants.{kind_of}
use Rattle.c_tree.specs.declared.tree.Slot.{Slot}
use Rattle.c_tree.specs.declared.tree.Home.TheVariants as H
use Rattle.c_tree.specs.ExpressionTrees.{ExpressionTree}
use Rattle.c_tree.specs.Trees.{Tree, Forest, Nil, Evaluate, Return, For, Local, Break, Continue, Goto, Mark, Arm, Leap, Land, Arrival, Note}
use Rattle.jump_meaning.specs.Values.{Owner, OfCall, Variable, Holds, Lent, Designates, integer}
use Rattle.jump_meaning.specs.Code.{Code, entry_or}
use Rattle.jump_meaning.specs.World.{World, put, owner, store, clear, no_slot, with_zeros}
use Rattle.jump_meaning.specs.Operations.{holds}
use Rattle.jump_meaning.specs.Calls.{slot_cell, is_array, is_array_slot}
use Rattle.struct_meaning.specs.Structural.{Evaluation, Yields, Completion, Normal, Meaning, LessFuel, eval, nothing, body_then, clear_rest, initialise, third_part, for_turn, exec}
use Rattle.tidy_laws.specs.Likeness.{IsLeaf}
use Rattle.plain_laws.specs.Kinded.{Kinded, KindedItem, AreKinded}
use Rattle.plain_laws.proofs.Memories.{Shapes}
use Rattle.plain_laws.proofs.Sorts.{Spot, HasSort}
use Rattle.tidy_laws.specs.Mentions.{lacks, all_lack, option_lacks, home_lacks, item_lacks}
use Rattle.tidy_laws.specs.Renumbered.{new_number, renumbered, renumbered_option, renumbered_item}
use Rattle.tidy_laws.proofs.Evaluations.{Alike}
use Rattle.tidy_laws.proofs.Apart.{Apart, new_owner, new_variable, zeros_keep, home_reached, home_same, put_apart}
use Rattle.tidy_laws.proofs.Operations.{store_apart}
use Rattle.tidy_laws.proofs.TidyZeroExpressions.{CallsAlike, then_number, no_kind, value_alike}
use Rattle.tidy_laws.proofs.Completions.{breaking, normally, Done, Ends, ends_nothing, chosen_ends, body_ends, decide_ends}
use Rattle.tidy_laws.specs.Settles.{Item, Stops}

-- what is left to one less of fuel comes to the same
pub record Less (p : Code) (L M : LessFuel) : Type 0 where
  pub again : (sh : Shapes) (holes : ℕ → ℕ) (c : ℕ) (x y : Tree) → Item p (sh c).slots (holes c) false x y →
      Ends p sh holes c (breaking false) (L.again x) (M.again y)
  pub again_stops : (sh : Shapes) (holes : ℕ → ℕ) (c : ℕ) (x y : Tree) → Stops p (sh c).slots (holes c) x y → Ends p sh holes c normally (L.again x) (M.again y)
  pub again_for : (sh : Shapes) (holes : ℕ → ℕ) (c : ℕ) (t u t' u' : Option ExpressionTree) (a b : Forest) →
      Item p (sh c).slots (holes c) false (For Nil t u a) (For Nil t' u' b)
      → Ends p sh holes c (breaking false) (L.again_for t u a) (M.again_for t' u' b)
  pub calls : (sh : Shapes) (holes : ℕ → ℕ) (c : ℕ) → CallsAlike p sh holes c L M

array_stays : (holes : ℕ → ℕ) (v : Variable) → is_array (new_variable holes v) ≡ is_array v
array_stays holes (Holds k None cells) = refl
array_stays holes (Holds k (Some n) cells) = refl
array_stays holes (Lent o) = refl

-- the cells of a slot from n on become 0, or nothing does
abbrev clearing : Bool → ℕ → ℕ → World → Evaluation Completion
clearing y x n w = Yields Normal (cond y (clear (H.Slot x) n w) w)

module _ (p : Code) (sh : Shapes) (holes : ℕ → ℕ) (c : ℕ) (L M : LessFuel) (less : Less p L M) where
  abbrev slots : List Slot
  slots = (sh c).slots

  abbrev g : ℕ
  g = holes c

  abbrev Both : Meaning → Meaning → Type 0
  Both m n = Ends p sh holes c (breaking false) m n

  calls : CallsAlike p sh holes c L M
  calls = less.calls sh holes c

  -- ---- declarations

  unnamed : (x : ℕ) → not (eqb x g) ≡ true → eqb x g ≡ false
  unnamed x h = at (eqb x g) h
    where
      at : (b : Bool) → not b ≡ true → b ≡ false
      at true i = cc
      at false i = refl

  cell_in : (x i : ℕ) → x < length slots → home_lacks g (H.Slot x) ≡ true → (w u : World) → Apart p sh holes false c w u →
      HasSort p sh c (Spot (entry_or no_slot slots x).kind) (slot_cell x i w)
  cell_in x i h l w u a = home_reached p sh holes false c w u a (H.Slot x) h l

  array_same : (x : ℕ) → x < length slots → home_lacks g (H.Slot x) ≡ true → (w u : World) → Apart p sh holes false c w u →
      is_array_slot (new_number g x) u ≡ is_array_slot x w
  array_same x h l w u a =
      ap (λ d. is_array (u.variables (OfCall d (new_number g x)))) a.same_calls
      ∙ ap is_array (a.call_same c x (omega arith) h (unnamed x l))
      ∙ array_stays holes (w.variables (OfCall c x))
      ∙ ap (λ d. is_array (w.variables (OfCall d x))) (sym a.calls)

  clear_apart : (x n : ℕ) → x < length slots → home_lacks g (H.Slot x) ≡ true → (w u : World) → Apart p sh holes false c w u →
      Apart p sh holes false c (clear (H.Slot x) n w) (clear (H.Slot (new_number g x)) n u)
  clear_apart x n h l w u a =
      subst (λ o. Apart p sh holes false c (clear (H.Slot x) n w) (cleared o)) (sym (home_same p sh holes false c w u a (H.Slot x) h l))
      (put_apart p sh holes false c w u a (with_zeros n) (zeros_keep p sh holes n) (owner (H.Slot x) w)
      (home_reached p sh holes false c w u a (H.Slot x) h l).0)
    where
      cleared : Owner → World
      cleared o = record u { variables = put o (with_zeros n (u.variables o)) u.variables }

  clearing_ends : (y : Bool) (x n : ℕ) → x < length slots → home_lacks g (H.Slot x) ≡ true → Both (clearing y x n) (clearing y (new_number g x) n)
  clearing_ends true x n h l w u a = (refl, clear_apart x n h l w u a)
  clearing_ends false x n h l w u a = (refl, a)

  rest_ends : (x n : ℕ) → x < length slots → home_lacks g (H.Slot x) ≡ true → Both (clear_rest x n) (clear_rest (new_number g x) n)
  rest_ends x n h l w u a = subst (λ y. Alike (Done p sh holes c (breaking false)) (clear_rest x n w) (clearing y (new_number g x) n u))
      (sym (array_same x h l w u a)) (clearing_ends (is_array_slot x w) x n h l w u a)

  initialise_ends : (es : List ExpressionTree) → AreKinded p slots es → all_lack g es ≡ true → (x i : ℕ) → x < length slots →
      home_lacks g (H.Slot x) ≡ true → Both (initialise L x i es) (initialise M (new_number g x) i (map (renumbered g) es))
  initialise_ends [] k q x i h l w u a = rest_ends x i h l w u a
  initialise_ends (e ∷ es) k q x i h l w u a =
      let r = and_parts (lacks g e) (all_lack g es) q in
      then_number p sh holes c L M (kind_of e) (Done p sh holes c (breaking false)) (eval L false e) (eval M false (renumbered g e))
      _ _ (value_alike p sh holes c L M calls e k.0 r.0 false)
      (λ v w' u' s b. subst (λ o. Alike (Done p sh holes c (breaking false)) (initialise L x (suc i) es (store (slot_cell x i w) (integer v) w'))
      (initialise M (new_number g x) (suc i) (map (renumbered g) es) (store (Designates o i) (integer v) u')))
      (sym (home_same p sh holes false c w u a (H.Slot x) h l))
      (initialise_ends es k.1 r.1 x (suc i) h l (store (slot_cell x i w) (integer v) w')
      (store (Designates (new_owner holes (owner (H.Slot x) w)) i) (integer v) u')
      (store_apart p sh holes c (entry_or no_slot slots x).kind (slot_cell x i w) (integer v) (cell_in x i h l w u a) w' u' b))) w u a

  -- ---- items in which no list stands

  pub leaf_ends : (x : Tree) → IsLeaf x → KindedItem p slots x → item_lacks g x ≡ true → Both (exec L x) (exec M (renumbered_item g x))
  leaf_ends (Evaluate e) i k l w u a = then_number p sh holes c L M (kind_of e) (Done p sh holes c (breaking false)) (eval L true e)
      (eval M true (renumbered g e)) _ _ (value_alike p sh holes c L M calls e k l true) (λ v w u s a. (refl, a)) w u a
  leaf_ends (Return None) i k l w u a = (refl, a)
  leaf_ends (Return (Some e)) i k l w u a = then_number p sh holes c L M (kind_of e) (Done p sh holes c (breaking false)) (eval L false e)
      (eval M false (renumbered g e)) _ _ (value_alike p sh holes c L M calls e k l false) (λ v w u s a. (refl, a)) w u a
  leaf_ends (Local x None) i k l w u a = (refl, a)
  leaf_ends (Local x (Some es)) i k l w u a = let r = and_parts (not (eqb x g)) (all_lack g es) l in initialise_ends es k.1 r.1 x 0 k.0 r.0 w u a
  leaf_ends Break i k l w u a = (refl, a)
  leaf_ends Continue i k l w u a = (refl, a)
  leaf_ends (Note bs) i k l w u a = (refl, a)
  leaf_ends (Goto m) i k l w u a = a.events
  leaf_ends (Mark m) i k l w u a = a.events
  leaf_ends (Arm m e) i k l w u a = a.events
  leaf_ends (Leap m) i k l w u a = a.events
  leaf_ends (Land m) i k l w u a = a.events
  leaf_ends (Arrival e) i k l w u a = a.events
  leaf_ends _ i k l w u a = absurd i

  -- ---- loops

  third_ends : (t u : Option ExpressionTree) (a b : Forest) → IfSome u (Kinded p slots) → option_lacks g u ≡ true →
      Item p slots g false (For Nil t u a) (For Nil (renumbered_option g t) (renumbered_option g u) b)
      → Both (third_part L t u a) (third_part M (renumbered_option g t) (renumbered_option g u) b)
  third_ends t None a b k l h w v s = less.again_for sh holes c t None (renumbered_option g t) None a b h w v s
  third_ends t (Some e) a b k l h w v s =
      then_number p sh holes c L M (kind_of e) (Done p sh holes c (breaking false)) (eval L true e) (eval M true (renumbered g e))
      _ _ (value_alike p sh holes c L M calls e k l true)
      (λ x w v i s. less.again_for sh holes c t (Some e) (renumbered_option g t) (Some (renumbered g e)) a b h w v s) w v s

  pub for_ends : (t u : Option ExpressionTree) (a b : Forest) (m n : Meaning) → IfSome t (Kinded p slots) → option_lacks g t ≡ true →
      IfSome u (Kinded p slots) → option_lacks g u ≡ true
      → Item p slots g false (For Nil t u a) (For Nil (renumbered_option g t) (renumbered_option g u) b) → Both m n →
      Both (for_turn L t u a m) (for_turn M (renumbered_option g t) (renumbered_option g u) b n)
  for_ends None u a b m n k l i j h q = body_ends p sh holes c m n (third_part L None u a) (third_part M None (renumbered_option g u) b) q
      (third_ends None u a b i j h)
  for_ends (Some e) u a b m n k l i j h q = decide_ends p sh holes c L M (breaking false) (eval L false e) (eval M false (renumbered g e))
      (no_kind p sh holes c L M (kind_of e) (eval L false e) (eval M false (renumbered g e)) (value_alike p sh holes c L M calls e k l false)) _ _
      (λ v. chosen_ends p sh holes c (breaking false) (holds v) (λ w. body_then (m w) (third_part L (Some e) u a)) nothing
      (λ w. body_then (n w) (third_part M (Some (renumbered g e)) (renumbered_option g u) b)) nothing
      (body_ends p sh holes c m n (third_part L (Some e) u a) (third_part M (Some (renumbered g e)) (renumbered_option g u) b) q
      (third_ends (Some e) u a b i j h)) (ends_nothing p sh holes c))
