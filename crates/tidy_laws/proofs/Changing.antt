-- Each change of a body comes by the two steps, at whatever loop it is.
use Rattle.std.proofs.Common.{ℕ, suc, Bool, true, false, cond, List, [], ◌∷◌, Option, Some, None, option_map, ◌≡◌, refl, sym, ap, ◌∙◌, subst, true≢false}
use Rattle.std.proofs.lemmas.Bool.{and_parts}
use Rattle.c_types.specs.declared.kinds.IntKind.{IntKind}
use Rattle.c_tree.specs.declared.tree.Slot.{Slot}
use Rattle.c_tree.specs.declared.tree.BinaryOp.TheVariants.{AndThen}
use Rattle.c_tree.specs.ExpressionTrees.{ExpressionTree, Typed, Binary}
use Rattle.c_tree.specs.TestTrees.{TestTree, Source}
use Rattle.c_tree.specs.Trees.{Tree, Forest, Nil, Then, Sections, NoSection, Section, If, While, Do, For, Switch, Block, Break, Continue, join}
use Rattle.c_tree.specs.Changed.{one}
use Rattle.c_tree.specs.Everywhere.{Everywhere, EverywhereOf, EverywhereIn}
use Rattle.c_tree.proofs.MoveLemmas.{some_same}
use Rattle.jump_meaning.specs.Code.{Code}
use Rattle.plain_laws.specs.Kinded.{Kinded, k_binary, KindedItem}
use Rattle.tidy_laws.specs.Likeness.{exchanged, like_if, like_while, like_do, like_for, like_switch, like_block, like_then, like_section}
use Rattle.tidy_laws.specs.Tails.{reset, leaves, by_break, by_continue}
use Rattle.tidy_laws.specs.Steps.{Leaves, LeavesOne, breaks_while, breaks_do, continues_while, continues_do, continues_for}
use Rattle.tidy_laws.proofs.TidyExitStatements.{likes_itself, like_sections_itself}
use Rattle.tidy_laws.specs.Mentions.{lacks, test_lacks, selector_lacks, option_lacks, item_lacks, list_lacks, sections_lack}
use Rattle.tidy_laws.specs.Renumbered.{renumbered_item, renumbered_list}
use Rattle.tidy_laws.specs.Changes.{tailed, are_low, second_test, before_reset, with_breaks, broken_loop, after_reset, both_there, with_continues, continued_loop, around, changed_here, changed_lists, changed_items, changed_sections, is_reset, is_declaration}
use Rattle.tidy_laws.specs.Settles.{Items, i_nil, i_then, i_given, i_reset, i_declared, i_stops, i_sets, x_if, x_while, x_do, x_for, x_switch, x_block, p_more, Stops, s_while, s_do}
use Rattle.tidy_laws.proofs.Tailed.{plain_items, plain_parts, tail_items}
use Rattle.tidy_laws.proofs.Lists.{Each, each_both, each_around, each_for}
use Rattle.tidy_laws.proofs.ChangedLists.{reset_is, before_is, Guarded, second_is, none_some, stripped, Made, MadeItem, Makes, MakesItem, MakesSections, rest_items, first_stays, then_made, later_made}

-- the items before a last one
before_last : (P : Tree → Type 0) (a : Forest) (x : Tree) → Everywhere P (join a (one x)) → Everywhere P a
before_last P Nil x k = tt
before_last P (Then y ys) x k = (k.0, before_last P ys x k.1)

module _ (p : Code) (ss : List Slot) (start count : ℕ) where
  abbrev K : Tree → Type 0
  K = KindedItem p ss

  -- `g = 0;` at the end of a list goes
  reset_behind : (g : ℕ) {b : Bool} {a c : Forest} → Items p ss g b a c → Items p ss g b (join a (one (reset g))) c
  reset_behind g (i_nil b) = i_reset (i_nil b)
  reset_behind g (i_then h k) = i_then h (reset_behind g k)
  reset_behind g (i_given e o h k) = i_given e o h (reset_behind g k)
  reset_behind g (i_reset h) = i_reset (reset_behind g h)
  reset_behind g (i_declared h) = i_declared (reset_behind g h)
  reset_behind g (i_stops h k) = i_stops h (reset_behind g k)
  reset_behind g (i_sets l k e m i j n h) = i_sets l k e m i j n (reset_behind g h)

  -- ---- a loop that is left by `break`

  -- the loop and the one with its jumps before the slot goes
  record Broken (g : ℕ) (x y : Tree) : Type 0 where
    middle : Tree
    before : Leaves g x middle
    undeclaring : is_declaration g y ≡ false
    behind : item_lacks g y ≡ true → Stops p ss g middle (renumbered_item g y)

  second_kinded : (k : Option IntKind) (e t : ExpressionTree) → Kinded p ss (Typed k (Binary AndThen e t)) → Kinded p ss t
  second_kinded _ e t (k_binary AndThen _ _ i j) = j

  broken_while : (g : ℕ) (t s : TestTree) (a : Forest) → Guarded g t s → EverywhereOf K (While t a) → Broken g (While t a) (While s (tailed g Break a))
  broken_while g t s a h k = at t s h.whole h.rest k
    where
      at : (t s : TestTree) → t ≡ Source (Typed h.kind (Binary AndThen h.first h.second)) → s ≡ Source h.second → EverywhereOf K (While t a) →
          Broken g (While t a) (While s (tailed g Break a))
      at t s e f = subst (λ t. EverywhereOf K (While t a) → Broken g (While t a) (While s (tailed g Break a))) (sym e)
          (subst (λ s. EverywhereOf K (While (Source (Typed h.kind (Binary AndThen h.first h.second))) a) →
          Broken g (While (Source (Typed h.kind (Binary AndThen h.first h.second))) a) (While s (tailed g Break a))) (sym f)
          (λ k. record {
            middle = While (Source (Typed h.kind (Binary AndThen h.first h.second))) (leaves g by_break a);
            before = breaks_while (Source (Typed h.kind (Binary AndThen h.first h.second))) a h.off;
            undeclaring = refl;
            behind = λ l. let i = and_parts (lacks g h.second) (list_lacks g (tailed g Break a)) l in
                s_while h.kind h.first h.second h.off (second_kinded h.kind h.first h.second k.0.0) i.0 (tail_items p ss g true true (λ e. refl) a k.1 i.1);
          }))

  broken_do : (g : ℕ) (t s : TestTree) (a : Forest) → Guarded g t s → EverywhereOf K (Do a t) → Broken g (Do a t) (Do (tailed g Break a) s)
  broken_do g t s a h k = at t s h.whole h.rest k
    where
      at : (t s : TestTree) → t ≡ Source (Typed h.kind (Binary AndThen h.first h.second)) → s ≡ Source h.second → EverywhereOf K (Do a t) →
          Broken g (Do a t) (Do (tailed g Break a) s)
      at t s e f = subst (λ t. EverywhereOf K (Do a t) → Broken g (Do a t) (Do (tailed g Break a) s)) (sym e)
          (subst (λ s. EverywhereOf K (Do a (Source (Typed h.kind (Binary AndThen h.first h.second)))) →
          Broken g (Do a (Source (Typed h.kind (Binary AndThen h.first h.second)))) (Do (tailed g Break a) s)) (sym f)
          (λ k. record {
            middle = Do (leaves g by_break a) (Source (Typed h.kind (Binary AndThen h.first h.second)));
            before = breaks_do (Source (Typed h.kind (Binary AndThen h.first h.second))) a h.off;
            undeclaring = refl;
            behind = λ l. let i = and_parts (list_lacks g (tailed g Break a)) (lacks g h.second) l in
                s_do h.kind h.first h.second h.off (second_kinded h.kind h.first h.second k.0.0) i.1 (tail_items p ss g true true (λ e. refl) a k.1 i.0);
          }))

  broken_is : (g n : ℕ) (x y : Tree) → EverywhereOf K x → broken_loop g n x ≡ Some y → Broken g x y
  broken_is g n (While t a) y k e = at (second_test g t) refl e
    where
      low : (s : TestTree) → second_test g t ≡ Some s → (b : Bool) → cond b (Some (While s (tailed g Break a))) None ≡ Some y → Broken g (While t a) y
      low s q true e = subst (Broken g (While t a)) (some_same e) (broken_while g t s a (second_is g t s q) k)
      low s q false e = absurd (none_some e)

      at : (o : Option TestTree) → second_test g t ≡ o → with_breaks g n While o a ≡ Some y → Broken g (While t a) y
      at (Some s) q e = low s q (are_low g n a) e
      at None q e = absurd (none_some e)
  broken_is g n (Do a t) y k e = at (second_test g t) refl e
    where
      low : (s : TestTree) → second_test g t ≡ Some s → (b : Bool) → cond b (Some (Do (tailed g Break a) s)) None ≡ Some y → Broken g (Do a t) y
      low s q true e = subst (Broken g (Do a t)) (some_same e) (broken_do g t s a (second_is g t s q) k)
      low s q false e = absurd (none_some e)

      at : (o : Option TestTree) → second_test g t ≡ o → with_breaks g n (λ t a. Do a t) o a ≡ Some y → Broken g (Do a t) y
      at (Some s) q e = low s q (are_low g n a) e
      at None q e = absurd (none_some e)
  broken_is g n x y k e = absurd (none_some e)

  after_is : (g : ℕ) (a b : Forest) → after_reset g a ≡ Some b → a ≡ Then (reset g) b
  after_is g Nil b e = absurd (none_some e)
  after_is g (Then x xs) b e = at (is_reset g x) refl e
    where
      at : (y : Bool) → is_reset g x ≡ y → cond y (Some xs) None ≡ Some b → Then x xs ≡ Then (reset g) b
      at true q e = ap (λ x. Then x xs) (reset_is g x q) ∙ ap (Then (reset g)) (some_same e)
      at false q e = absurd (none_some e)

  -- the list that begins with such a loop
  broken_made : (d : Bool) (g n : ℕ) (x : Tree) (xs c : Forest) → EverywhereOf K x → Everywhere K xs →
      both_there (broken_loop g n x) (after_reset g xs) ≡ Some c → list_lacks g (stripped d g c) ≡ true → Made p ss start count d g (Then x xs) c
  broken_made d g n x xs c k ks e = at (broken_loop g n x) (after_reset g xs) refl refl e
    where
      made : (y : Tree) (ys : Forest) → Broken g x y → xs ≡ Then (reset g) ys → list_lacks g (stripped d g (Then y ys)) ≡ true →
          Made p ss start count d g (Then x xs) (Then y ys)
      made y ys h q l =
          let l' = and_parts (item_lacks g y) (list_lacks g (stripped d g ys))
          (subst (λ z. list_lacks g z ≡ true) (first_stays p ss start count g d y ys h.undeclaring) l) in
          let kys = subst (Everywhere K) q ks in
          record {
            middle = Then h.middle xs;
            before = like_then (exchanged (g, h.before)) (likes_itself LeavesOne xs);
            behind = subst (λ z. Items p ss g false (Then h.middle z) (renumbered_list g (stripped d g (Then y ys)))) (sym q)
                (subst (λ z. Items p ss g false (Then h.middle (Then (reset g) ys)) (renumbered_list g z))
                (sym (first_stays p ss start count g d y ys h.undeclaring))
                (i_stops (h.behind l'.0) (rest_items p ss start count g d ys kys.1 l'.1)));
          }

      at : (o : Option Tree) (r : Option Forest) → broken_loop g n x ≡ o → after_reset g xs ≡ r → both_there o r ≡ Some c →
          list_lacks g (stripped d g c) ≡ true → Made p ss start count d g (Then x xs) c
      at (Some y) (Some ys) q r e = subst (λ c. list_lacks g (stripped d g c) ≡ true → Made p ss start count d g (Then x xs) c) (some_same e)
          (made y ys (broken_is g n x y k q) (after_is g xs ys r))
      at None r q i e = absurd (none_some e)
      at (Some y) None q i e = absurd (none_some e)

  -- ---- a loop that is left by `continue`

  -- the body, and the one with its jumps
  record Continued (g : ℕ) (a b : Forest) : Type 0 where
    whole : a ≡ join b (one (reset g))
    behind : list_lacks g (tailed g Continue b) ≡ true → Items p ss g false (join (leaves g (by_continue g) b) (one (reset g)))
        (renumbered_list g (tailed g Continue b))

  continued_is : (g : ℕ) (a b : Forest) → Everywhere K a → before_reset g a ≡ Some b → Continued g a b
  continued_is g a b k e = record {
    whole = before_is g a b e;
    behind = λ l. reset_behind g (tail_items p ss g false false (λ e. absurd (true≢false (sym e))) b
        (before_last K b (reset g) (subst (Everywhere K) (before_is g a b e) k)) l);
  }

  abbrev Contained : ℕ → Tree → Tree → Type 0
  Contained g x y = (is_declaration g y ≡ false) × (item_lacks g y ≡ true → MadeItem p ss start count g x y)

  -- a loop by what is done with its body
  loop_made : (g n : ℕ) (a : Forest) (loop : Forest → Tree) (y : Tree) → Everywhere K a →
      ((b : Forest) → Continued g a b → Contained g (loop a) (loop (tailed g Continue b))) → with_continues g n loop (before_reset g a) ≡ Some y →
      Contained g (loop a) y
  loop_made g n a loop y k h e = at (before_reset g a) refl e
    where
      low : (b : Forest) → Continued g a b → (z : Bool) → cond z (Some (loop (tailed g Continue b))) None ≡ Some y → Contained g (loop a) y
      low b c true e = subst (Contained g (loop a)) (some_same e) (h b c)
      low b c false e = absurd (none_some e)

      at : (o : Option Forest) → before_reset g a ≡ o → with_continues g n loop o ≡ Some y → Contained g (loop a) y
      at (Some b) q e = low b (continued_is g a b k q) (are_low g n b) e
      at None q e = absurd (none_some e)

  loop_is : (g n : ℕ) (x y : Tree) → EverywhereOf K x → continued_loop g n x ≡ Some y → Contained g x y
  loop_is g n (While t a) y k e = loop_made g n a (While t) y k.1
      (λ b c. (
        refl,
        (λ l. let i = and_parts (test_lacks g t) (list_lacks g (tailed g Continue b)) l in record {
          middle = While t (join (leaves g (by_continue g) b) (one (reset g)));
          before = exchanged (
            g,
            subst (λ z. Leaves g (While t z) (While t (join (leaves g (by_continue g) b) (one (reset g))))) (sym c.whole)
                (continues_while t b),
          );
          behind = x_while false t k.0 i.0 (c.behind i.1);
        }),
      )) e
  loop_is g n (Do a t) y k e = loop_made g n a (λ a. Do a t) y k.1
      (λ b c. (
        refl,
        (λ l. let i = and_parts (list_lacks g (tailed g Continue b)) (test_lacks g t) l in record {
          middle = Do (join (leaves g (by_continue g) b) (one (reset g))) t;
          before = exchanged (g, subst (λ z. Leaves g (Do z t) (Do (join (leaves g (by_continue g) b) (one (reset g))) t)) (sym c.whole) (continues_do t b));
          behind = x_do false t k.0 i.1 (c.behind i.0);
        }),
      )) e
  loop_is g n (For f t u a) y k e = loop_made g n a (For f t u) y k.2
      (λ b c. (refl, (λ l. for_made b c l))) e
    where
      for_made : (b : Forest) → Continued g a b → item_lacks g (For f t u (tailed g Continue b)) ≡ true →
          MadeItem p ss start count g (For f t u a) (For f t u (tailed g Continue b))
      for_made b c l =
          let h = and_parts (list_lacks g f) _ l in
          let i = and_parts (option_lacks g t) _ h.1 in
          let j = and_parts (option_lacks g u) (list_lacks g (tailed g Continue b)) i.1 in
          record {
            middle = For f t u (join (leaves g (by_continue g) b) (one (reset g)));
            before = exchanged (
              g,
              subst (λ z. Leaves g (For f t u z) (For f t u (join (leaves g (by_continue g) b) (one (reset g))))) (sym c.whole)
                  (continues_for f t u b),
            );
            behind = x_for false t u k.0.0 k.0.1 i.0 j.0 (plain_items p ss g false f k.1 h.0) (c.behind j.1);
          }
  loop_is g n x y k e = absurd (none_some e)

  -- the list that begins with such a loop
  continued_made : (d : Bool) (g n : ℕ) (x : Tree) (xs c : Forest) → EverywhereOf K x → Everywhere K xs →
      option_map (λ y. Then y xs) (continued_loop g n x) ≡ Some c → list_lacks g (stripped d g c) ≡ true → Made p ss start count d g (Then x xs) c
  continued_made d g n x xs c k ks e = at (continued_loop g n x) refl e
    where
      at : (o : Option Tree) → continued_loop g n x ≡ o → option_map (λ y. Then y xs) o ≡ Some c → list_lacks g (stripped d g c) ≡ true →
          Made p ss start count d g (Then x xs) c
      at (Some y) q e = let h = loop_is g n x y k q in
          subst (λ c. list_lacks g (stripped d g c) ≡ true → Made p ss start count d g (Then x xs) c) (some_same e)
          (λ l. then_made p ss start count g d x y xs h.0 ks h.1 l)
      at None q e = absurd (none_some e)

  -- ---- all changes

  here_made : (d : Bool) (level : ℕ) (x : Tree) (xs : Forest) → EverywhereOf K x → Everywhere K xs →
      Each (Makes p ss start count d (Then x xs)) (changed_here start count level x xs)
  here_made d level x xs k ks =
      each_both (Makes p ss start count d (Then x xs)) _ _
      (each_for (Makes p ss start count d (Then x xs)) (λ g. both_there (broken_loop g (suc level) x) (after_reset g xs)) start count
      (λ g c l m e. ((l, m), broken_made d g (suc level) x xs c k ks e)))
      (each_for (Makes p ss start count d (Then x xs)) (λ g. option_map (λ y. Then y xs) (continued_loop g (suc level) x)) start count
      (λ g c l m e. ((l, m), continued_made d g (suc level) x xs c k ks e)))

  -- where a later list of the same items was changed
  later_lists : (x : Tree) (xs : Forest) → EverywhereOf K x → (d : Bool) (cs : List (ℕ × Forest)) → Each (Makes p ss start count true xs) cs →
      Each (Makes p ss start count false xs) cs → Each (Makes p ss start count d (Then x xs)) (around (Then x) cs)
  later_lists x xs k d [] h i = tt
  later_lists x xs k d (c ∷ cs) h i = ((h.0.0, later_made p ss start count c.0 d x xs c.1 k (either h.0.1 i.0.1)), later_lists x xs k d cs h.1 i.1)
    where
      either : (list_lacks c.0 (stripped true c.0 c.1) ≡ true → Made p ss start count true c.0 xs c.1) →
          (list_lacks c.0 c.1 ≡ true → Made p ss start count false c.0 xs c.1)
          → (d : Bool) → list_lacks c.0 (stripped d c.0 c.1) ≡ true → Made p ss start count d c.0 xs c.1
      either h i true = h
      either h i false = i

  mutual
    pub lists_made : (a : Forest) → Everywhere K a → (d : Bool) (level : ℕ) → Each (Makes p ss start count d a) (changed_lists start count level a)
    lists_made Nil k d level = tt
    lists_made (Then x xs) k d level =
        each_both (Makes p ss start count d (Then x xs)) (changed_here start count level x xs) _ (here_made d level x xs k.0 k.1)
        (each_both (Makes p ss start count d (Then x xs)) _ _
        (each_around (MakesItem p ss start count x) (Makes p ss start count d (Then x xs)) (λ y. Then y xs) (changed_items start count (suc level) x)
        (λ c h. (h.0, then_made p ss start count c.0 d x c.1 xs h.1 k.1 h.2)) (items_made x k.0 (suc level)))
        (later_lists x xs k.0 d (changed_lists start count level xs) (lists_made xs k.1 true level) (lists_made xs k.1 false level)))

    items_made : (x : Tree) → EverywhereOf K x → (level : ℕ) → Each (MakesItem p ss start count x) (changed_items start count level x)
    items_made (If t a b) k level =
        each_both (MakesItem p ss start count (If t a b)) (around (λ c. If t c b) (changed_lists start count level a)) _
        (each_around (Makes p ss start count false a) (MakesItem p ss start count (If t a b)) (λ c. If t c b) (changed_lists start count level a)
        (λ c h. (
          h.0,
          refl,
          (λ l.
              let i = and_parts (test_lacks c.0 t) (_) l in
              let j = and_parts (list_lacks c.0 c.1) (list_lacks c.0 b) i.1 in
              let m = h.1 j.0 in
              record {
                middle = If t m.middle b;
                before = like_if t m.before (likes_itself LeavesOne b);
                behind = x_if t k.0 i.0 m.behind (plain_items p ss c.0 false b k.2 j.1);
              }),
        )) (lists_made a k.1 false level))
        (each_around (Makes p ss start count false b) (MakesItem p ss start count (If t a b)) (If t a) (changed_lists start count level b)
        (λ c h. (
          h.0,
          refl,
          (λ l.
              let i = and_parts (test_lacks c.0 t) (_) l in
              let j = and_parts (list_lacks c.0 a) (list_lacks c.0 c.1) i.1 in
              let m = h.1 j.1 in
              record {
                middle = If t a m.middle;
                before = like_if t (likes_itself LeavesOne a) m.before;
                behind = x_if t k.0 i.0 (plain_items p ss c.0 false a k.1 j.0) m.behind;
              }),
        )) (lists_made b k.2 false level))
    items_made (While t a) k level =
        each_around (Makes p ss start count false a) (MakesItem p ss start count (While t a)) (While t) (changed_lists start count level a)
        (λ c h. (
          h.0,
          refl,
          (λ l.
              let i = and_parts (test_lacks c.0 t) (list_lacks c.0 c.1) l in
              let m = h.1 i.1 in
              record { middle = While t m.middle; before = like_while t m.before; behind = x_while false t k.0 i.0 m.behind }),
        )) (lists_made a k.1 false level)
    items_made (Do a t) k level =
        each_around (Makes p ss start count false a) (MakesItem p ss start count (Do a t)) (λ c. Do c t) (changed_lists start count level a)
        (λ c h. (
          h.0,
          refl,
          (λ l.
              let i = and_parts (list_lacks c.0 c.1) (test_lacks c.0 t) l in
              let m = h.1 i.0 in
              record { middle = Do m.middle t; before = like_do t m.before; behind = x_do false t k.0 i.1 m.behind }),
        )) (lists_made a k.1 false level)
    items_made (For f t u a) k level =
        each_both (MakesItem p ss start count (For f t u a)) (around (λ c. For c t u a) (changed_lists start count level f)) _
        (each_around (Makes p ss start count false f) (MakesItem p ss start count (For f t u a)) (λ c. For c t u a) (changed_lists start count level f)
        (λ c h. (
          h.0,
          refl,
          (λ l.
              let i = and_parts (list_lacks c.0 c.1) (_) l in
              let j = and_parts (option_lacks c.0 t) (_) i.1 in
              let n = and_parts (option_lacks c.0 u) (list_lacks c.0 a) j.1 in
              let m = h.1 i.0 in
              record {
                middle = For m.middle t u a;
                before = like_for t u m.before (likes_itself LeavesOne a);
                behind = x_for false t u k.0.0 k.0.1 j.0 n.0 m.behind (plain_items p ss c.0 false a k.2 n.1);
              }),
        )) (lists_made f k.1 false level))
        (each_around (Makes p ss start count false a) (MakesItem p ss start count (For f t u a)) (For f t u) (changed_lists start count level a)
        (λ c h. (
          h.0,
          refl,
          (λ l.
              let i = and_parts (list_lacks c.0 f) (_) l in
              let j = and_parts (option_lacks c.0 t) (_) i.1 in
              let n = and_parts (option_lacks c.0 u) (list_lacks c.0 c.1) j.1 in
              let m = h.1 n.1 in
              record {
                middle = For f t u m.middle;
                before = like_for t u (likes_itself LeavesOne f) m.before;
                behind = x_for false t u k.0.0 k.0.1 j.0 n.0 (plain_items p ss c.0 false f k.1 i.0) m.behind;
              }),
        )) (lists_made a k.2 false level))
    items_made (Switch s b) k level =
        each_around (MakesSections p ss start count b) (MakesItem p ss start count (Switch s b)) (Switch s) (changed_sections start count level b)
        (λ c h. (
          h.0,
          refl,
          (λ l.
              let i = and_parts (selector_lacks c.0 s) (sections_lack c.0 c.1) l in
              let m = h.1 i.1 in
              record { middle = Switch s m.middle; before = like_switch s m.before; behind = x_switch false s k.0 i.0 m.behind }),
        )) (sections_made b k.1 level)
    items_made (Block a) k level =
        each_around (Makes p ss start count false a) (MakesItem p ss start count (Block a)) Block (changed_lists start count level a)
        (λ c h. (h.0, refl, (λ l. let m = h.1 l in record { middle = Block m.middle; before = like_block m.before; behind = x_block m.behind })))
        (lists_made a k.1 false level)
    items_made _ k level = tt

    sections_made : (s : Sections) → EverywhereIn K s → (level : ℕ) → Each (MakesSections p ss start count s) (changed_sections start count level s)
    sections_made NoSection k level = tt
    sections_made (Section cases default a ends s) k level =
        each_both (MakesSections p ss start count (Section cases default a ends s))
        (around (λ b. Section cases default b ends s) (changed_lists start count level a)) _
        (each_around (Makes p ss start count false a) (MakesSections p ss start count (Section cases default a ends s))
        (λ b. Section cases default b ends s) (changed_lists start count level a)
        (λ c h. (
          h.0,
          (λ l.
              let i = and_parts (list_lacks c.0 c.1) (sections_lack c.0 s) l in
              let m = h.1 i.0 in
              record {
                middle = Section cases default m.middle ends s;
                before = like_section cases default ends m.before (like_sections_itself LeavesOne s);
                behind =
                    p_more cases default ends m.behind (plain_parts p ss c.0 s k.1 i.1);
              }),
        )) (lists_made a k.0 false level))
        (each_around (MakesSections p ss start count s) (MakesSections p ss start count (Section cases default a ends s))
        (Section cases default a ends) (changed_sections start count level s)
        (λ c h. (
          h.0,
          (λ l.
              let i = and_parts (list_lacks c.0 a) (sections_lack c.0 c.1) l in
              let m = h.1 i.1 in
              record {
                middle = Section cases default a ends m.middle;
                before = like_section cases default ends (likes_itself LeavesOne a) m.before;
                behind = p_more cases default ends (plain_items p ss c.0 false a k.0 i.0) m.behind;
              }),
        )) (sections_made s k.1 level))
