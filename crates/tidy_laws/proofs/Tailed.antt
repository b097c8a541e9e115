-- What becomes of the body of a loop: its checks give way to their lists, and its sets at a tail become jumps.
use Rattle.std.proofs.Common.{ℕ, pos, Bool, true, false, cond, not, ◌&&◌, eqb, eqb-true, eq-eqb, List, Option, Some, None, ◌≡◌, refl, sym, ap, ◌∙◌, subst, true≢false}
use Rattle.std.proofs.lemmas.Bool.{and_parts}
use Rattle.c_types.specs.declared.kinds.IntKind.{IntKind}
use Rattle.c_types.specs.declared.kinds.IntKind.TheVariants.{Int}
use Rattle.c_tree.specs.declared.tree.Slot.{Slot}
use Rattle.c_tree.specs.declared.tree.Home.TheVariants as H
use Rattle.c_tree.specs.ExpressionTrees.{ExpressionTree, Typed, Var, Number, Assign}
use Rattle.c_tree.specs.TestTrees.{TestTree, Source}
use Rattle.c_tree.specs.Trees.{Tree, Forest, Nil, Then, Sections, NoSection, Section, Evaluate, Return, If, While, Do, For, Switch, Block, Local, Break, Continue, Goto, Mark, Arm, Leap, Land, Arrival, Note, join}
use Rattle.c_tree.specs.Changed.{one}
use Rattle.c_tree.specs.Everywhere.{Everywhere, EverywhereOf, EverywhereIn}
use Rattle.jump_meaning.specs.Code.{Code}
use Rattle.plain_laws.specs.Kinded.{Kinded, k_assign, place_kind, KindedItem}
use Rattle.tidy_laws.specs.Tails.{is_off, is_end, leave_if, leaves, placed}
use Rattle.tidy_laws.specs.Mentions.{lacks, test_lacks, selector_lacks, option_lacks, item_lacks, list_lacks, sections_lack}
use Rattle.tidy_laws.specs.Renumbered.{renumbered, renumbered_item, renumbered_list, renumbered_sections}
use Rattle.tidy_laws.specs.Changes.{is_narrow_expression, set_value, is_number, leaving, has_local, unchecked, set_or, inner, inner_item, inner_sections, tailed, tailed_item}
use Rattle.tidy_laws.specs.Settles.{left_by, jump_by, Items, i_nil, i_then, i_given, i_sets, Item, x_leaf, x_if, x_while, x_do, x_for, x_switch, x_block, x_checked, Parts, p_none, p_more}

-- ---- lists one after another

pub renumbered_join : (g : ℕ) (a b : Forest) → renumbered_list g (join a b) ≡ join (renumbered_list g a) (renumbered_list g b)
renumbered_join g Nil b = refl
renumbered_join g (Then x xs) b = ap (Then (renumbered_item g x)) (renumbered_join g xs b)

pub and_of_all : (a b c : Bool) → ((a && b) && c) ≡ (a && (b && c))
and_of_all true b c = refl
and_of_all false b c = refl

lacks_join : (g : ℕ) (a b : Forest) → list_lacks g (join a b) ≡ (list_lacks g a && list_lacks g b)
lacks_join g Nil b = refl
lacks_join g (Then x xs) b = ap (λ y. item_lacks g x && y) (lacks_join g xs b) ∙ sym (and_of_all (item_lacks g x) (list_lacks g xs) (list_lacks g b))

pub both_lists : (g : ℕ) (a b : Forest) → list_lacks g (join a b) ≡ true → (list_lacks g a ≡ true) × (list_lacks g b ≡ true)
both_lists g a b h = and_parts (list_lacks g a) (list_lacks g b) (sym (lacks_join g a b) ∙ h)

-- ---- what a set becomes

number_stays : (g m : ℕ) (e : ExpressionTree) → is_number m (renumbered g e) ≡ is_number m e
number_stays g m (Typed (Some Int) (Number (pos n))) = refl
number_stays g m e = refl

pub leaving_renumbered : (g : ℕ) (leave : Bool) (e : ExpressionTree) → renumbered_item g (leaving (jump_by leave) e) ≡ leaving (jump_by leave) (renumbered g e)
leaving_renumbered g leave e = at leave (is_number 1 e) ∙ ap (λ b. cond b (jump_by leave) (If (Source (renumbered g e)) (one (jump_by leave)) Nil))
    (sym (number_stays g 1 e))
  where
    at : (leave b : Bool) → renumbered_item g (cond b (jump_by leave) (If (Source e) (one (jump_by leave)) Nil)) ≡ cond b (jump_by leave)
        (If (Source (renumbered g e)) (one (jump_by leave)) Nil)
    at true true = refl
    at true false = refl
    at false true = refl
    at false false = refl

-- a slot that is assigned is named
named : (a b c : Bool) → a ≡ true → ((not a && b) && c) ≡ true → ⊥
named true b c e l = true≢false (sym l)
named false b c e l = true≢false (sym e)

module _ (p : Code) (ss : List Slot) (g : ℕ) where
  abbrev K : Tree → Type 0
  K = KindedItem p ss

  -- ---- lists that don't name the slot

  mutual
    pub plain_items : (b : Bool) (a : Forest) → Everywhere K a → list_lacks g a ≡ true → Items p ss g b a (renumbered_list g a)
    plain_items b Nil k l = i_nil b
    plain_items b (Then x xs) k l = let h = and_parts (item_lacks g x) (list_lacks g xs) l in i_then (plain_item b x k.0 h.0) (plain_items b xs k.1 h.1)

    pub plain_item : (b : Bool) (x : Tree) → EverywhereOf K x → item_lacks g x ≡ true → Item p ss g b x (renumbered_item g x)
    plain_item b (If t a d) k l =
        let h = and_parts (test_lacks g t) (list_lacks g a && list_lacks g d) l in
        let i = and_parts (list_lacks g a) (list_lacks g d) h.1 in
        x_if t k.0 h.0 (plain_items b a k.1 i.0) (plain_items b d k.2 i.1)
    plain_item b (While t a) k l = let h = and_parts (test_lacks g t) (list_lacks g a) l in x_while b t k.0 h.0 (plain_items false a k.1 h.1)
    plain_item b (Do a t) k l = let h = and_parts (list_lacks g a) (test_lacks g t) l in x_do b t k.0 h.1 (plain_items false a k.1 h.0)
    plain_item b (For f t u a) k l =
        let h = and_parts (list_lacks g f) (option_lacks g t && (option_lacks g u && list_lacks g a)) l in
        let i = and_parts (option_lacks g t) (option_lacks g u && list_lacks g a) h.1 in
        let j = and_parts (option_lacks g u) (list_lacks g a) i.1 in
        x_for b t u k.0.0 k.0.1 i.0 j.0 (plain_items false f k.1 h.0) (plain_items false a k.2 j.1)
    plain_item b (Switch s c) k l = let h = and_parts (selector_lacks g s) (sections_lack g c) l in x_switch b s k.0 h.0 (plain_parts c k.1 h.1)
    plain_item b (Block a) k l = x_block (plain_items b a k.1 l)
    plain_item b (Evaluate e) k l = x_leaf b (Evaluate e) tt k l
    plain_item b (Return e) k l = x_leaf b (Return e) tt k l
    plain_item b (Local x es) k l = x_leaf b (Local x es) tt k l
    plain_item b Break k l = x_leaf b Break tt k l
    plain_item b Continue k l = x_leaf b Continue tt k l
    plain_item b (Goto m) k l = x_leaf b (Goto m) tt k l
    plain_item b (Mark m) k l = x_leaf b (Mark m) tt k l
    plain_item b (Arm m e) k l = x_leaf b (Arm m e) tt k l
    plain_item b (Leap m) k l = x_leaf b (Leap m) tt k l
    plain_item b (Land m) k l = x_leaf b (Land m) tt k l
    plain_item b (Arrival e) k l = x_leaf b (Arrival e) tt k l
    plain_item b (Note bs) k l = x_leaf b (Note bs) tt k l

    pub plain_parts : (c : Sections) → EverywhereIn K c → sections_lack g c ≡ true → Parts p ss g c (renumbered_sections g c)
    plain_parts NoSection k l = p_none
    plain_parts (Section cases default a ends c) k l = let h = and_parts (list_lacks g a) (sections_lack g c) l in
        p_more cases default ends (plain_items false a k.0 h.0) (plain_parts c k.1 h.1)

  -- ---- lists in which checks give way

  -- a check, by what its list becomes
  given_items : (b : Bool) (e : ExpressionTree) (a c xs ys : Forest) → is_off g e ≡ true →
      (list_lacks g c ≡ true → Items p ss g b a (renumbered_list g c)) → Items p ss g b xs ys → (y : Bool)
      → list_lacks g (cond y (one (Block c)) c) ≡ true → Items p ss g b (Then (If (Source e) a Nil) xs) (join (renumbered_list g (cond y (one (Block c)) c)) ys)
  given_items b e a c xs ys o h k true l = i_then (x_checked e o (h (and_parts (list_lacks g c) true l).0)) k
  given_items b e a c xs ys o h k false l = i_given e o (h l) k

  -- an item before others
  plain_before : (b : Bool) (x : Tree) → EverywhereOf K x → (xs ys : Forest) → list_lacks g (one x) ≡ true → Items p ss g b xs ys →
      Items p ss g b (Then x xs) (join (renumbered_list g (one x)) ys)
  plain_before b x k xs ys l h = i_then (plain_item b x k (and_parts (item_lacks g x) true l).0) h

  -- what is known of a list of which c is made
  abbrev Becomes : Bool → Forest → Forest → Type 0
  Becomes b a c = list_lacks g c ≡ true → Items p ss g b a (renumbered_list g c)

  -- an `if` that is no check
  if_then : (b : Bool) (t : TestTree) (a d c e : Forest) → K (If t a d) → Becomes b a c → Becomes b d e → (xs ys : Forest) →
      list_lacks g (one (If t c e)) ≡ true → Items p ss g b xs ys
      → Items p ss g b (Then (If t a d) xs) (join (renumbered_list g (one (If t c e))) ys)
  if_then b t a d c e k ha hd xs ys l h =
      let m = and_parts (test_lacks g t && (list_lacks g c && list_lacks g e)) true l in
      let i = and_parts (test_lacks g t) (list_lacks g c && list_lacks g e) m.0 in
      let j = and_parts (list_lacks g c) (list_lacks g e) i.1 in
      i_then (x_if t k i.0 (ha j.0) (hd j.1)) h

  -- one that may be a check
  check_then : (b y : Bool) (e : ExpressionTree) (a c : Forest) → K (If (Source e) a Nil) → Becomes b a c → is_off g e ≡ y → (xs ys : Forest) →
      list_lacks g (unchecked y (Source e) c Nil) ≡ true → Items p ss g b xs ys
      → Items p ss g b (Then (If (Source e) a Nil) xs) (join (renumbered_list g (unchecked y (Source e) c Nil)) ys)
  check_then b true e a c k ha o xs ys l h = given_items b e a c xs ys o ha h (has_local c) l
  check_then b false e a c k ha o xs ys l h = if_then b (Source e) a Nil c Nil k ha (λ l. i_nil b) xs ys l h

  mutual
    pub inner_items : (b : Bool) (a : Forest) → Everywhere K a → list_lacks g (inner g a) ≡ true → Items p ss g b a (renumbered_list g (inner g a))
    inner_items b Nil k l = i_nil b
    inner_items b (Then x xs) k l =
        let h = both_lists g (inner_item g x) (inner g xs) l in
        subst (Items p ss g b (Then x xs)) (sym (renumbered_join g (inner_item g x) (inner g xs)))
        (inner_then b x k.0 xs (renumbered_list g (inner g xs)) h.0 (inner_items b xs k.1 h.1))

    -- an item that is at no tail, before others
    inner_then : (b : Bool) (x : Tree) → EverywhereOf K x → (xs ys : Forest) → list_lacks g (inner_item g x) ≡ true → Items p ss g b xs ys →
        Items p ss g b (Then x xs) (join (renumbered_list g (inner_item g x)) ys)
    inner_then b (If (Source e) a Nil) k xs ys l h = check_then b (is_off g e) e a (inner g a) k.0 (inner_items b a k.1) refl xs ys l h
    inner_then b (If t a d) k xs ys l h = if_then b t a d (inner g a) (inner g d) k.0 (inner_items b a k.1) (inner_items b d k.2) xs ys l h
    inner_then b (While t a) k xs ys l h =
        let m = and_parts (test_lacks g t && list_lacks g (inner g a)) true l in
        let i = and_parts (test_lacks g t) (list_lacks g (inner g a)) m.0 in
        i_then (x_while b t k.0 i.0 (inner_items false a k.1 i.1)) h
    inner_then b (Do a t) k xs ys l h =
        let m = and_parts (list_lacks g (inner g a) && test_lacks g t) true l in
        let i = and_parts (list_lacks g (inner g a)) (test_lacks g t) m.0 in
        i_then (x_do b t k.0 i.1 (inner_items false a k.1 i.0)) h
    inner_then b (For f t u a) k xs ys l h =
        let m = and_parts (list_lacks g f && (option_lacks g t && (option_lacks g u && list_lacks g (inner g a)))) true l in
        let i = and_parts (list_lacks g f) (option_lacks g t && (option_lacks g u && list_lacks g (inner g a))) m.0 in
        let j = and_parts (option_lacks g t) (option_lacks g u && list_lacks g (inner g a)) i.1 in
        let n = and_parts (option_lacks g u) (list_lacks g (inner g a)) j.1 in
        i_then (x_for b t u k.0.0 k.0.1 j.0 n.0 (plain_items false f k.1 i.0) (inner_items false a k.2 n.1)) h
    inner_then b (Switch s c) k xs ys l h =
        let m = and_parts (selector_lacks g s && sections_lack g (inner_sections g c)) true l in
        let i = and_parts (selector_lacks g s) (sections_lack g (inner_sections g c)) m.0 in
        i_then (x_switch b s k.0 i.0 (inner_parts c k.1 i.1)) h
    inner_then b (Block a) k xs ys l h = i_then (x_block (inner_items b a k.1 (and_parts (list_lacks g (inner g a)) true l).0)) h
    inner_then b (Evaluate e) k xs ys l h = plain_before b (Evaluate e) k xs ys l h
    inner_then b (Return e) k xs ys l h = plain_before b (Return e) k xs ys l h
    inner_then b (Local x es) k xs ys l h = plain_before b (Local x es) k xs ys l h
    inner_then b Break k xs ys l h = plain_before b Break k xs ys l h
    inner_then b Continue k xs ys l h = plain_before b Continue k xs ys l h
    inner_then b (Goto m) k xs ys l h = plain_before b (Goto m) k xs ys l h
    inner_then b (Mark m) k xs ys l h = plain_before b (Mark m) k xs ys l h
    inner_then b (Arm m e) k xs ys l h = plain_before b (Arm m e) k xs ys l h
    inner_then b (Leap m) k xs ys l h = plain_before b (Leap m) k xs ys l h
    inner_then b (Land m) k xs ys l h = plain_before b (Land m) k xs ys l h
    inner_then b (Arrival e) k xs ys l h = plain_before b (Arrival e) k xs ys l h
    inner_then b (Note bs) k xs ys l h = plain_before b (Note bs) k xs ys l h

    inner_parts : (c : Sections) → EverywhereIn K c → sections_lack g (inner_sections g c) ≡ true → Parts p ss g c (renumbered_sections g (inner_sections g c))
    inner_parts NoSection k l = p_none
    inner_parts (Section cases default a ends c) k l = let h = and_parts (list_lacks g (inner g a)) (sections_lack g (inner_sections g c)) l in
        p_more cases default ends (inner_items false a k.0 h.0) (inner_parts c k.1 h.1)

  -- ---- lists at a tail

  module _ (leave b : Bool) (may : leave ≡ true → b ≡ true) where
    abbrev jump : Tree
    jump = jump_by leave

    abbrev by : Forest
    by = left_by g leave

    -- a set of the slot, by whether it is one of a narrow value that doesn't name the slot
    set_value_then : (k : Option IntKind) (v : ExpressionTree) → Kinded p ss (Typed k (Assign (Var (H.Slot g)) v)) → (y z : Bool) →
        is_narrow_expression v ≡ y → lacks g v ≡ z → (xs ys : Forest)
        → list_lacks g (one (set_or jump (Typed k (Assign (Var (H.Slot g)) v)) (cond (y && z) (Some v) None))) ≡ true → Items p ss g b xs ys
        → Items p ss g b (Then (Evaluate (Typed k (Assign (Var (H.Slot g)) v))) (Then (leave_if g by) xs))
        (join (renumbered_list g (one (set_or jump (Typed k (Assign (Var (H.Slot g)) v)) (cond (y && z) (Some v) None)))) ys)
    set_value_then _ v (k_assign _ a i j) true true n m xs ys l h =
        subst (λ x. Items p ss g b (Then (Evaluate (Typed (Some (place_kind p ss (Var (H.Slot g)))) (Assign (Var (H.Slot g)) v)))
        (Then (leave_if g by) xs)) (Then x ys)) (sym (leaving_renumbered g leave v))
        (i_sets leave (Some (place_kind p ss (Var (H.Slot g)))) v may j m n h)
    set_value_then k v c true false n m xs ys l h = absurd (named (eqb g g) (lacks g v) true (eq-eqb g g refl) l)
    set_value_then k v c false z n m xs ys l h = absurd (named (eqb g g) (lacks g v) true (eq-eqb g g refl) l)

    -- an assignment to a slot
    assign_then : (k : Option IntKind) (x : ℕ) (v : ExpressionTree) → Kinded p ss (Typed k (Assign (Var (H.Slot x)) v)) → (y : Bool) → eqb x g ≡ y →
        (xs ys : Forest)
        → list_lacks g (one (set_or jump (Typed k (Assign (Var (H.Slot x)) v))
        (cond (y && (is_narrow_expression v && lacks g v)) (Some v) None))) ≡ true → Items p ss g b xs ys
        → Items p ss g b (cond y (Then (Evaluate (Typed k (Assign (Var (H.Slot x)) v))) (Then (leave_if g by) xs))
        (Then (Evaluate (Typed k (Assign (Var (H.Slot x)) v))) xs))
        (join (renumbered_list g (one (set_or jump (Typed k (Assign (Var (H.Slot x)) v))
        (cond (y && (is_narrow_expression v && lacks g v)) (Some v) None)))) ys)
    assign_then k x v c true e xs ys l h = at x (sym (eqb-true x g e)) c l
      where
        at : (x : ℕ) → g ≡ x → Kinded p ss (Typed k (Assign (Var (H.Slot x)) v))
            → list_lacks g (one (set_or jump (Typed k (Assign (Var (H.Slot x)) v)) (cond (is_narrow_expression v && lacks g v) (Some v) None))) ≡ true
            → Items p ss g b (Then (Evaluate (Typed k (Assign (Var (H.Slot x)) v))) (Then (leave_if g by) xs))
            (join (renumbered_list g
            (one (set_or jump (Typed k (Assign (Var (H.Slot x)) v)) (cond (is_narrow_expression v && lacks g v) (Some v) None)))) ys)
        at x e = subst (λ x. Kinded p ss (Typed k (Assign (Var (H.Slot x)) v))
            → list_lacks g (one (set_or jump (Typed k (Assign (Var (H.Slot x)) v)) (cond (is_narrow_expression v && lacks g v) (Some v) None))) ≡ true
            → Items p ss g b (Then (Evaluate (Typed k (Assign (Var (H.Slot x)) v))) (Then (leave_if g by) xs))
            (join (renumbered_list g
            (one (set_or jump (Typed k (Assign (Var (H.Slot x)) v)) (cond (is_narrow_expression v && lacks g v) (Some v) None)))) ys)) e
            (λ c l. set_value_then k v c (is_narrow_expression v) (lacks g v) refl refl xs ys l h)
    assign_then k x v c false e xs ys l h = plain_before b (Evaluate (Typed k (Assign (Var (H.Slot x)) v))) c xs ys l h

    evaluate_then : (e : ExpressionTree) → Kinded p ss e → (xs ys : Forest) → list_lacks g (one (set_or jump e (set_value g e))) ≡ true → Items p ss g b xs ys
        → Items p ss g b (placed g by (Evaluate e) xs) (join (renumbered_list g (one (set_or jump e (set_value g e)))) ys)
    evaluate_then (Typed k (Assign (Var (H.Slot x)) v)) c xs ys l h = assign_then k x v c (eqb x g) refl xs ys l h
    evaluate_then e c xs ys l h = plain_before b (Evaluate e) c xs ys l h

    mutual
      pub tail_items : (a : Forest) → Everywhere K a → list_lacks g (tailed g jump a) ≡ true →
          Items p ss g b (leaves g by a) (renumbered_list g (tailed g jump a))
      tail_items Nil k l = i_nil b
      tail_items (Then x xs) k l =
          let y = is_end g xs in
          let h = both_lists g (cond y (tailed_item g jump x) (inner_item g x)) (tailed g jump xs) l in
          subst (Items p ss g b (leaves g by (Then x xs))) (sym (renumbered_join g (cond y (tailed_item g jump x) (inner_item g x)) (tailed g jump xs)))
          (tail_then y x k.0 (leaves g by xs) (renumbered_list g (tailed g jump xs)) h.0 (tail_items xs k.1 h.1))

      tail_then : (y : Bool) (x : Tree) → EverywhereOf K x → (xs ys : Forest) → list_lacks g (cond y (tailed_item g jump x) (inner_item g x)) ≡ true →
          Items p ss g b xs ys
          → Items p ss g b (cond y (placed g by x xs) (Then x xs)) (join (renumbered_list g (cond y (tailed_item g jump x) (inner_item g x))) ys)
      tail_then false x k xs ys l h = inner_then b x k xs ys l h
      tail_then true (Evaluate e) k xs ys l h = evaluate_then e k xs ys l h
      tail_then true (If (Source e) a Nil) k xs ys l h = check_then b (is_off g e) e (leaves g by a) (tailed g jump a) k.0 (tail_items a k.1) refl xs ys l h
      tail_then true (If t a d) k xs ys l h = if_then b t (leaves g by a) (leaves g by d) (tailed g jump a) (tailed g jump d) k.0 (tail_items a k.1)
          (tail_items d k.2) xs ys l h
      tail_then true x k xs ys l h = inner_then b x k xs ys l h
