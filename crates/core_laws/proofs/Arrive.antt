-- Where the way of a guard lands, the run lands.
use Rattle.std.proofs.Common.{Option, Some, None, ℕ, ℤ, Bool, true, false, cond, List, [], ◌∷◌, eqb, ◌≡◌, ◌≢◌, refl, sym, ◌∙◌, subst, eqb-true, eq-eqb, true≢false}
use Rattle.c_tree.specs.Operators.{truth}
use Rattle.c_tree.specs.TestTrees.{TestTree, Source, SelectorTree, Selects, Pick}
use Rattle.c_tree.specs.Trees.{Tree, Forest, Nil, Then, Sections, NoSection, Section, If, While, Do, Switch, Leap, Land}
use Rattle.jump_meaning.specs.Values.{Value, Integer}
use Rattle.jump_meaning.specs.Code.{Code}
use Rattle.jump_meaning.specs.World.{World}
use Rattle.jump_meaning.specs.Tasks.{WhileLoop, DoLoop, ForLoop, Task, Runs, Asks, Branches, Turns, Loops, AsksSelector, Enters, EndsSection, Out, items, end_of, tail_tasks, cut}
use Rattle.jump_meaning.specs.Search.{Goal, ToCase, ToDefault, is_section_goal, enters_switches, or_else, seek, seek_sections, first_of_three, find}
use Rattle.jump_meaning.specs.Step.{Guards, with_guard, switch_kind, Frame, State, At, Goes, move, step}
use Rattle.jump_meaning.proofs.TaskFacts.{cut_tail}
use Rattle.core_laws.specs.Ways.{only, Peeled, Ask, Known, peel, on_peeled, PeeledSelector, AskSelector, KnownSelector, peel_selector, on_selector, Way, Lands, Past, Lost, ◌▷◌, end_way, walks, walk, tail_way, section_way, do_end_way}
use Rattle.core_laws.proofs.TaskWays.{task_way, exit_way}
use Rattle.core_laws.proofs.Lawful.{HasNoInnerCase, IsLanded, Lawful}
use Rattle.core_laws.proofs.Reach.{Agree, reset_other, body_in, Walks, landed, onward, IsMadeTest, quiet, IsMadeSelector, quiet_selector}

module _ (p : Code) (Inv : State → Type 0) (law : Lawful p Inv) (l : ℕ) (f : List ℕ) (alone : IsLanded p f l) (cs : List Frame) (w : World) where
  -- the run from these tasks lands
  abbrev pub Arrives : List Task → Type 0
  Arrives k = (g : Guards) (v : List Value) → Agree g (only l) → Inv (At f g k v cs w) → Walks p l f v cs w (At f g k v cs w)

  abbrev Leads : Way → List Task → Type 0
  Leads Lands k = Unit {0}
  Leads Past k = Arrives k
  Leads Lost k = ⊥

  leads_then : (a b : Way) (k k' : List Task) → Leads (a ▷ b) k → (Leads b k → Arrives k') → Leads a k'
  leads_then Lands b k k' h go = tt
  leads_then Past b k k' h go = go h
  leads_then Lost b k k' h go = h

  -- a silent run from a state that keeps the invariant
  abbrev Kept : List Value → State → Type 0
  Kept v c = Inv c → Walks p l f v cs w c

  back : (g : Guards) (u : List Value) → Agree g (only l) → (t : TestTree) (k : List Task) (v : List Value) → IsMadeTest t →
      Kept u (step p (At f g (Asks t ∷ k) v cs w)) → Kept u (At f g (Asks t ∷ k) v cs w)
  back g u a (Source e) k v n r i = absurd n
  back g u a _ k v n r i = onward _ _ _ a tt (r (law.next _ i))

  decided : (g : Guards) (u : List Value) (a : Agree g (only l)) (t : TestTree) (k : List Task) (v : List Value) (b : Bool) →
      peel (only l) t ≡ Known b → Kept u (At f g k (Integer (truth b) ∷ v) cs w) → Kept u (At f g (Asks t ∷ k) v cs w)
  decided g u a t k v b q r = quiet p f g (only l) a cs w (Kept u) (back g u a) t k v b q r

  go_if : (t : TestTree) (a b : Forest) (k : List Task) (q : Peeled) → peel (only l) t ≡ q → Leads (on_peeled q Lost (walks l a) (walks l b)) k →
      (Leads (walks l a) k → Arrives (items a k)) → (Leads (walks l b) k → Arrives (items b k)) → Arrives (Runs (If t a b) ∷ k)
  go_if t a b k (Ask e) q h ga gb g v ag i = absurd h
  go_if t a b k (Known true) q h ga gb g v ag i =
      onward _ _ _ ag tt (decided g v ag t (Branches a b ∷ k) v true q (λ j. onward _ _ _ ag tt (ga h g v ag (law.next _ j))) (law.next _ i))
  go_if t a b k (Known false) q h ga gb g v ag i =
      onward _ _ _ ag tt (decided g v ag t (Branches a b ∷ k) v false q (λ j. onward _ _ _ ag tt (gb h g v ag (law.next _ j))) (law.next _ i))

  go_while : (t : TestTree) (a : Forest) (k : List Task) (q : Peeled) → peel (only l) t ≡ q → Leads (on_peeled q Lost (walks l a ▷ Lost) Past) k →
      ((k' : List Task) → Leads (walks l a) k' → Arrives (items a k')) → Arrives (Runs (While t a) ∷ k)
  go_while t a k (Ask e) q h ga g v ag i = absurd h
  go_while t a k (Known true) q h ga g v ag i =
      let k' = Loops (WhileLoop t a) ∷ k in
      let on : Leads (walks l a) k' = leads_then (walks l a) Lost k k' h (λ z. absurd z) in
      onward _ _ _ ag tt (decided g v ag t (Turns (WhileLoop t a) ∷ k) v true q (λ j. onward _ _ _ ag tt (ga k' on g v ag (law.next _ j))) (law.next _ i))
  go_while t a k (Known false) q h ga g v ag i =
      onward _ _ _ ag tt (decided g v ag t (Turns (WhileLoop t a) ∷ k) v false q (λ j. onward _ _ _ ag tt (h g v ag (law.next _ j))) (law.next _ i))

  go_do_end : (t : TestTree) (a : Forest) (k : List Task) (q : Peeled) → peel (only l) t ≡ q → Leads (on_peeled q Lost (walks l a ▷ Lost) Past) k →
      ((k' : List Task) → Leads (walks l a) k' → Arrives (items a k')) → Arrives (Loops (DoLoop a t) ∷ k)
  go_do_end t a k (Ask e) q h ga g v ag i = absurd h
  go_do_end t a k (Known true) q h ga g v ag i =
      let k' = Loops (DoLoop a t) ∷ k in
      let on : Leads (walks l a) k' = leads_then (walks l a) Lost k k' h (λ z. absurd z) in
      onward _ _ _ ag tt (decided g v ag t (Turns (DoLoop a t) ∷ k) v true q
      (λ j. onward _ _ _ ag tt (let j' = law.next _ j in onward _ _ _ ag tt (ga k' on g v ag (law.next _ j')))) (law.next _ i))
  go_do_end t a k (Known false) q h ga g v ag i =
      onward _ _ _ ag tt (decided g v ag t (Turns (DoLoop a t) ∷ k) v false q (λ j. onward _ _ _ ag tt (h g v ag (law.next _ j))) (law.next _ i))

  at_found : (g : Guards) (v : List Value) → Agree g (only l) → (m : ℕ) → l ≡ m → (k : List Task) → find m (body_in p f) ≡ Runs (Land m) ∷ k →
      Walks p l f v cs w (At f g (find m (body_in p f)) v cs w)
  at_found g v ag m e = subst (λ m. (k : List Task) → find m (body_in p f) ≡ Runs (Land m) ∷ k → Walks p l f v cs w (At f g (find m (body_in p f)) v cs w)) e
      (λ k r. subst (λ ts. Walks p l f v cs w (At f g ts v cs w)) (sym r) (landed g k ag r))

  abbrev AfterLeap : Guards → List Value → ℕ → List Task → Bool → State
  AfterLeap g v m k y = move p (cond y (Goes (find m (body_in p f))) (Goes k)) f g v cs w

  go_leap : (m : ℕ) (k : List Task) (b : Bool) → eqb l m ≡ b → Leads (cond b Lands Past) k → Arrives (Runs (Leap m) ∷ k)
  go_leap m k true e h g v ag i =
      let q = law.at_leap m f g k v cs w i in
      onward _ _ _ ag tt (subst (λ y. Walks p l f v cs w (AfterLeap g v m k y)) (sym (ag m ∙ e)) (at_found g v ag m (eqb-true l m e) q.0 q.1))
  go_leap m k false e h g v ag i =
      let on = λ (z : Inv (AfterLeap g v m k false)). subst (λ y. Walks p l f v cs w (AfterLeap g v m k y)) (sym (ag m ∙ e)) (h g v ag z) in
      onward _ _ _ ag tt (on (subst (λ y. Inv (AfterLeap g v m k y)) (ag m ∙ e) (law.next _ i)))

  at_land_of : (g : Guards) (v : List Value) (k : List Task) → Agree g (only l) → (m : ℕ) → l ≡ m →
      (IsLanded p f m → find m (body_in p f) ≡ Runs (Land m) ∷ k) → Walks p l f v cs w (At f g (Runs (Land m) ∷ k) v cs w)
  at_land_of g v k ag m e = subst (λ m. (IsLanded p f m → find m (body_in p f) ≡ Runs (Land m) ∷ k) →
      Walks p l f v cs w (At f g (Runs (Land m) ∷ k) v cs w)) e (λ r. landed g k ag (r alone))

  other_label : (m : ℕ) → eqb l m ≡ false → l ≢ m
  other_label m e q = true≢false (sym (eq-eqb l m q) ∙ e)

  go_land : (m : ℕ) (k : List Task) (b : Bool) → eqb l m ≡ b → Leads (cond b Lands Past) k → Arrives (Runs (Land m) ∷ k)
  go_land m k true e h g v ag i = at_land_of g v k ag m (eqb-true l m e) (law.at_land m f g k v cs w i)
  go_land m k false e h g v ag i = onward _ _ _ ag (other_label m e) (h (with_guard m false g) v (reset_other l m g ag e) (law.next _ i))

  -- ---- switches

  back_selector : (g : Guards) (u : List Value) → Agree g (only l) → (s : SelectorTree) (k : List Task) (v : List Value) → IsMadeSelector s →
      Kept u (step p (At f g (AsksSelector s ∷ k) v cs w)) → Kept u (At f g (AsksSelector s ∷ k) v cs w)
  back_selector g u a (Selects e) k v n r i = absurd n
  back_selector g u a (Pick m x s) k v n r i = onward _ _ _ a tt (r (law.next _ i))

  decided_selector : (g : Guards) (u : List Value) (a : Agree g (only l)) (s : SelectorTree) (k : List Task) (v : List Value) (n : ℤ) →
      peel_selector (only l) s ≡ KnownSelector n → Kept u (At f g k (Integer n ∷ v) cs w) → Kept u (At f g (AsksSelector s ∷ k) v cs w)
  decided_selector g u a s k v n q r = quiet_selector p f g (only l) a cs w (Kept u) (back_selector g u a) s k v n q r

  -- a way and the tasks that it is of, or none of both
  abbrev Pairs : Option Way → Option (List Task) → List Task → Type 0
  Pairs None None k = Unit {0}
  Pairs (Some y) (Some ts) k = Leads y k → Arrives ts
  Pairs _ _ k = ⊥

  pair_here : (b : Bool) (y : Way) (ts : List Task) (inner : Option (List Task)) (a : Option Way) (o : Option (List Task)) (k : List Task) →
      inner ≡ None → (Leads y k → Arrives ts) → Pairs a o k → Pairs (cond b (Some y) a) (or_else (cond b (Some ts) inner) o) k
  pair_here true y ts inner a o k e h q = h
  pair_here false y ts inner a o k e h q = subst (λ z. Pairs a (or_else z o) k) (sym e) q

  pair_entered : (a b : Option Way) (o q : Option (List Task)) (k : List Task) → Pairs a o k → Pairs b q k → Leads (first_of_three a b Past) k →
      Arrives (first_of_three o q k)
  pair_entered (Some y) b (Some ts) q k h g z = h z
  pair_entered (Some y) b None q k h g z = absurd h
  pair_entered None b (Some ts) q k h g z = absurd h
  pair_entered None (Some y) None (Some ts) k h g z = g z
  pair_entered None (Some y) None None k h g z = absurd g
  pair_entered None None None (Some ts) k h g z = absurd g
  pair_entered None None None None k h g z = z

  go_end : (ends : Bool) (c : Sections) (k : List Task) → (Leads (tail_way l c) k → Arrives (tail_tasks c k)) →
      Leads (end_way ends (tail_way l c)) k → Arrives (end_of ends (tail_tasks c k))
  go_end true c k go h = λ g v ag i. onward _ _ _ ag tt (subst (λ ts. Inv (At f g ts v cs w) → Walks p l f v cs w (At f g ts v cs w))
      (sym (cut_tail c k)) (h g v ag) (law.next _ i))
  go_end false c k go h = go h

  go_switch : (s : SelectorTree) (c : Sections) (k : List Task) (q : PeeledSelector) → peel_selector (only l) s ≡ q
      → (HasNoInnerCase c → (goal : Goal) → enters_switches goal ≡ false → Pairs (section_way l goal c) (seek_sections goal c k) k)
      → Leads (on_selector q Lost (λ n. first_of_three (section_way l (ToCase (switch_kind s) n) c) (section_way l ToDefault c) Past)) k →
      Arrives (Runs (Switch s c) ∷ k)
  go_switch s c k (AskSelector e) q a h g v ag i = absurd h
  go_switch s c k (KnownSelector n) q a h g v ag i =
      let kind = switch_kind s in
      let alone' = law.at_switch s c l f g k v cs w i alone in
      let next = pair_entered (section_way l (ToCase kind n) c) (section_way l ToDefault c) (seek_sections (ToCase kind n) c k)
      (seek_sections ToDefault c k) k (a alone' (ToCase kind n) refl) (a alone' ToDefault refl) h in
      onward _ _ _ ag tt (decided_selector g v ag s (Enters kind c ∷ k) v n q (λ j. onward _ _ _ ag tt (next g v ag (law.next _ j))) (law.next _ i))

  mutual
    go_items : (a : Forest) (k : List Task) → Leads (walks l a) k → Arrives (items a k)
    go_items Nil k h = h
    go_items (Then x a) k h = go_item x (items a k) (leads_then (walk l x) (walks l a) k (items a k) h (go_items a k))

    go_item : (x : Tree) (k : List Task) → Leads (walk l x) k → Arrives (Runs x ∷ k)
    go_item (If t a b) k h = go_if t a b k (peel (only l) t) refl h (go_items a k) (go_items b k)
    go_item (While t a) k h = go_while t a k (peel (only l) t) refl h (go_items a)
    go_item (Do a t) k h = λ g v ag i.
        onward _ _ _ ag tt (go_items a (Loops (DoLoop a t) ∷ k)
        (leads_then (walks l a) (do_end_way l a t) k (Loops (DoLoop a t) ∷ k) h (λ z. go_do_end t a k (peel (only l) t) refl z (go_items a))) g v
        ag (law.next _ i))
    go_item (Leap m) k h = go_leap m k (eqb l m) refl h
    go_item (Land m) k h = go_land m k (eqb l m) refl h
    go_item (Switch s c) k h = go_switch s c k (peel_selector (only l) s) refl (λ z goal e. go_section goal e c k z) h
    go_item _ k h = absurd h

    go_tail : (c : Sections) (k : List Task) → Leads (tail_way l c) k → Arrives (tail_tasks c k)
    go_tail NoSection k h = λ g v ag i. onward _ _ _ ag tt (h g v ag (law.next _ i))
    go_tail (Section cases default a ends c) k h =
        go_items a (end_of ends (tail_tasks c k)) (leads_then (walks l a) (end_way ends (tail_way l c)) k (end_of ends (tail_tasks c k)) h
        (go_end ends c k (go_tail c k)))

    go_section : (goal : Goal) → enters_switches goal ≡ false → (c : Sections) (k : List Task) → HasNoInnerCase c →
        Pairs (section_way l goal c) (seek_sections goal c k) k
    go_section goal e NoSection k n = tt
    go_section goal e (Section cases default a ends c) k n =
        let behind = end_of ends (tail_tasks c k) in
        pair_here (is_section_goal goal cases default) (walks l a ▷ end_way ends (tail_way l c)) (items a behind) (seek goal a behind)
        (section_way l goal c) (seek_sections goal c k) k (n.0 goal e behind)
        (λ h. go_items a behind (leads_then (walks l a) (end_way ends (tail_way l c)) k behind h (go_end ends c k (go_tail c k)))) (go_section goal e c k n.1)

  leads_task : (a b : Way) (k : List Task) → a ▷ b ≡ Lands → (b ≡ Lands → Arrives k) → Leads a k
  leads_task Lands b k e go = tt
  leads_task Past b k e go = go e
  leads_task Lost b k e go = cc

  mutual
    pub arrives : (k : List Task) → task_way k l ≡ Lands → Arrives k
    arrives [] e = cc
    arrives (Runs x ∷ k) e = go_item x k (leads_task (walk l x) (task_way k l) k e (arrives k))
    arrives (Loops (WhileLoop t a) ∷ k) e = λ g v ag i. onward _ _ _ ag tt
        (go_item (While t a) k (leads_task (walk l (While t a)) (task_way k l) k e (arrives k)) g v ag (law.next _ i))
    arrives (Loops (DoLoop a t) ∷ k) e = go_do_end t a k (peel (only l) t) refl (leads_task (do_end_way l a t) (task_way k l) k e (arrives k)) (go_items a)
    arrives (Loops (ForLoop t u a) ∷ k) e = cc
    arrives (EndsSection ∷ k) e = λ g v ag i. onward _ _ _ ag tt (arrives_past k e g v ag (law.next _ i))
    arrives (Out ∷ k) e = λ g v ag i. onward _ _ _ ag tt (arrives k e g v ag (law.next _ i))
    arrives (_ ∷ k) e = cc

    arrives_past : (k : List Task) → exit_way k l ≡ Lands → Arrives (cut k)
    arrives_past [] e = cc
    arrives_past (Loops x ∷ k) e = arrives k e
    arrives_past (Out ∷ k) e = arrives k e
    arrives_past (_ ∷ k) e = arrives_past k e
