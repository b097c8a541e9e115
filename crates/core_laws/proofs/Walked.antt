-- A call whose guard leads silently to its Land stands where the way of the guard lands.
use Rattle.std.proofs.Common.{Option, Some, None, ℕ, zero, suc, ◌<◌, ℤ, pos, Bool, true, false, not, cond, List, [], ◌∷◌, ◌≡◌, refl, ap, sym, ◌∙◌, arith, eq-eqb, ne_eqb}
use Rattle.c_tree.specs.Operators.{truth}
use Rattle.c_tree.specs.ExpressionTrees.{ExpressionTree}
use Rattle.c_tree.specs.TestTrees.{TestTree, Source, On, Off, AndOff, OrOn, SelectorTree, Selects, Pick}
use Rattle.c_tree.specs.Trees.{Forest, Sections, If, While, Do, Switch, Leap, Land}
use Rattle.jump_meaning.specs.Values.{Value, Integer, integer}
use Rattle.jump_meaning.specs.Code.{Code}
use Rattle.jump_meaning.specs.World.{World}
use Rattle.jump_meaning.specs.Operations.{holds}
use Rattle.jump_meaning.specs.Effects.{top, rest}
use Rattle.jump_meaning.specs.Tasks.{Loop, WhileLoop, DoLoop, ForLoop, Task, Runs, Asks, Branches, Turns, Loops, Heads, AsksSelector, Enters, EndsSection, Out, items, turn}
use Rattle.jump_meaning.specs.Search.{ToCase, ToDefault, seek_sections, first_of_three, find}
use Rattle.jump_meaning.specs.Step.{Guards, switch_kind, Frame, State, At, View, Goes, Yields, dropped, move, step}
use Rattle.jump_meaning.specs.Runs.{run}
use Rattle.jump_meaning.specs.Steady.{IsSilentTask, IsSilent, HasLanded, LeadsTo}
use Rattle.jump_meaning.proofs.Growth.{either}
use Rattle.core_laws.specs.Ways.{only, Peeled, Ask, Known, peel, on_peeled, PeeledSelector, AskSelector, KnownSelector, peel_selector, on_selector, Way, Lands, Past, Lost, ◌▷◌, walks, walk, section_way, do_end_way}
use Rattle.core_laws.proofs.TaskWays.{loop_way, task_way, exit_way, way_assoc}
use Rattle.core_laws.proofs.Reach.{Agree, reset_other, body_in}
use Rattle.core_laws.proofs.All.{Plain}
use Rattle.core_laws.proofs.Converse.{turn_way, value_way, past_way, past_cut, items_value, enter_section, enter_lands}

again_lost : (y : Way) → y ▷ (y ▷ Lost) ≡ y ▷ Lost
again_lost Lands = refl
again_lost Past = refl
again_lost Lost = refl

abbrev pub state_way : ℕ → State → Way
state_way l (At f g k v cs w) = value_way l k v
state_way l _ = Lost

-- ---- a silent step comes from a way that lands, where it leads to one

module _ (p : Code) (l : ℕ) (f : List ℕ) (cs : List Frame) (w : World) where
  -- what stands behind a test, with the truth value that it leaves
  abbrev asked : Peeled → List Task → List Value → Way
  asked q k v = on_peeled q Lost (value_way l k (Integer (pos 1) ∷ v)) (value_way l k (Integer (pos 0) ∷ v))

  way_if : (q : Peeled) (t : TestTree) (a b : Forest) (k : List Task) (v : List Value) → asked (peel (only l) t) (Branches a b ∷ k) v ≡ Lands →
      peel (only l) t ≡ q → on_peeled q Lost (walks l a) (walks l b) ▷ value_way l k v ≡ Lands
  way_if (Ask e) t a b k v h q = ap (λ z. asked z (Branches a b ∷ k) v) (sym q) ∙ h
  way_if (Known true) t a b k v h q = ap (λ z. asked z (Branches a b ∷ k) v) (sym q) ∙ h
  way_if (Known false) t a b k v h q = ap (λ z. asked z (Branches a b ∷ k) v) (sym q) ∙ h

  way_while : (q : Peeled) (t : TestTree) (a : Forest) (k : List Task) (v : List Value) →
      asked (peel (only l) t) (Turns (WhileLoop t a) ∷ k) v ≡ Lands → peel (only l) t ≡ q → on_peeled q Lost (walks l a ▷ Lost) Past ▷ value_way l k v ≡ Lands
  way_while (Ask e) t a k v h q = ap (λ z. asked z (Turns (WhileLoop t a) ∷ k) v) (sym q) ∙ h
  way_while (Known true) t a k v h q =
      ap (λ r. r ▷ value_way l k v) (sym (again_lost (walks l a)) ∙ ap (λ z. walks l a ▷ on_peeled z Lost (walks l a ▷ Lost) Past) (sym q)) ∙
      ap (λ z. asked z (Turns (WhileLoop t a) ∷ k) v) (sym q) ∙ h
  way_while (Known false) t a k v h q = ap (λ z. asked z (Turns (WhileLoop t a) ∷ k) v) (sym q) ∙ h

  way_do : (q : Peeled) (t : TestTree) (a : Forest) (k : List Task) (v : List Value) → asked (peel (only l) t) (Turns (DoLoop a t) ∷ k) v ≡ Lands →
      peel (only l) t ≡ q → on_peeled q Lost (walks l a ▷ Lost) Past ▷ value_way l k v ≡ Lands
  way_do (Ask e) t a k v h q = ap (λ z. asked z (Turns (DoLoop a t) ∷ k) v) (sym q) ∙ h
  way_do (Known true) t a k v h q =
      ap (λ r. r ▷ value_way l k v) (sym (again_lost (walks l a)) ∙ ap (λ z. walks l a ▷ on_peeled z Lost (walks l a ▷ Lost) Past) (sym q)) ∙
      ap (λ z. asked z (Turns (DoLoop a t) ∷ k) v) (sym q) ∙ h
  way_do (Known false) t a k v h q = ap (λ z. asked z (Turns (DoLoop a t) ∷ k) v) (sym q) ∙ h

  way_switch : (q : PeeledSelector) (s : SelectorTree) (c : Sections) (k : List Task) (v : List Value) →
      value_way l (AsksSelector s ∷ Enters (switch_kind s) c ∷ k) v ≡ Lands → peel_selector (only l) s ≡ q
      → on_selector q Lost (λ n. first_of_three (section_way l (ToCase (switch_kind s) n) c) (section_way l ToDefault c) Past) ▷ value_way l k v ≡ Lands
  way_switch (AskSelector e) s c k v h q = ap (λ z. on_selector z Lost (λ n. value_way l (Enters (switch_kind s) c ∷ k) (Integer n ∷ v))) (sym q) ∙ h
  way_switch (KnownSelector n) s c k v h q = ap (λ z. on_selector z Lost (λ n. value_way l (Enters (switch_kind s) c ∷ k) (Integer n ∷ v))) (sym q) ∙ h

  known_way : (y : Bool) (k : List Task) (v : List Value) → asked (Known y) k v ≡ value_way l k (Integer (truth y) ∷ v)
  known_way true k v = refl
  known_way false k v = refl

  way_and : (y : Bool) (t : TestTree) (g : Guards) (k : List Task) (v : List Value) →
      state_way l (move p (cond y (Yields (pos 0) k) (Goes (Asks t ∷ k))) f g v cs w) ≡ Lands → asked (cond y (Known false) (peel (only l) t)) k v ≡ Lands
  way_and true t g k v h = h
  way_and false t g k v h = h

  way_or : (y : Bool) (t : TestTree) (g : Guards) (k : List Task) (v : List Value) →
      state_way l (move p (cond y (Yields (pos 1) k) (Goes (Asks t ∷ k))) f g v cs w) ≡ Lands → asked (cond y (Known true) (peel (only l) t)) k v ≡ Lands
  way_or true t g k v h = h
  way_or false t g k v h = h

  way_pick : (y : Bool) (n : ℤ) (s : SelectorTree) (g : Guards) (k : List Task) (v : List Value) →
      state_way l (move p (cond y (Yields n k) (Goes (AsksSelector s ∷ k))) f g v cs w) ≡ Lands
      → on_selector (cond y (KnownSelector n) (peel_selector (only l) s)) Lost (λ n. value_way l k (Integer n ∷ v)) ≡ Lands
  way_pick true n s g k v h = h
  way_pick false n s g k v h = h

  way_leap : (y : Bool) (m : ℕ) (g : Guards) (k : List Task) (v : List Value) →
      state_way l (move p (cond y (Goes (find m (body_in p f))) (Goes k)) f g v cs w) ≡ Lands → cond y Lands Past ▷ value_way l k v ≡ Lands
  way_leap true m g k v h = refl
  way_leap false m g k v h = h

  way_branches : (b : Bool) (x y : Forest) (k : List Task) (v : List Value) → value_way l (cond b (items x k) (items y k)) v ≡ Lands →
      cond b (walks l x) (walks l y) ▷ value_way l k v ≡ Lands
  way_branches true x y k v h = sym (items_value l x k v) ∙ h
  way_branches false x y k v h = sym (items_value l y k v) ∙ h

  way_turn : (x : Loop) (k : List Task) (v : List Value) → value_way l (turn x k) v ≡ Lands → turn_way l x ▷ value_way l k v ≡ Lands
  way_turn (WhileLoop t a) k v h = way_assoc (walks l a) (walk l (While t a)) (value_way l k v) ∙ sym (items_value l a (Loops (WhileLoop t a) ∷ k) v) ∙ h
  way_turn (DoLoop a t) k v h = h
  way_turn (ForLoop t u a) k v h = way_assoc (walks l a) Lost (value_way l k v) ∙ sym (items_value l a (Loops (ForLoop t u a) ∷ k) v) ∙ h

  way_turns : (b : Bool) (x : Loop) (k : List Task) (v : List Value) → value_way l (cond b (turn x k) k) v ≡ Lands →
      cond b (turn_way l x) Past ▷ value_way l k v ≡ Lands
  way_turns true x k v h = way_turn x k v h
  way_turns false x k v h = h

  way_for : (t u : Option ExpressionTree) (a : Forest) (k : List Task) (v : List Value) → value_way l (dropped u (Heads t u a ∷ k)) v ≡ Lands → Lost ≡ Lands
  way_for t None a k v h = h
  way_for t (Some e) a k v h = h

  one_back : (g : Guards) (k : List Task) (v : List Value) → Agree g (only l) → IsSilentTask l k → state_way l (step p (At f g k v cs w)) ≡ Lands →
      value_way l k v ≡ Lands
  one_back g (Runs (If t a b) ∷ k) v ag q h = way_if (peel (only l) t) t a b k v h refl
  one_back g (Runs (While t a) ∷ k) v ag q h = way_while (peel (only l) t) t a k v h refl
  one_back g (Runs (Do a t) ∷ k) v ag q h = way_assoc (walks l a) (do_end_way l a t) (value_way l k v) ∙ sym (items_value l a (Loops (DoLoop a t) ∷ k) v) ∙ h
  one_back g (Runs (Switch s c) ∷ k) v ag q h = way_switch (peel_selector (only l) s) s c k v h refl
  one_back g (Runs (Leap m) ∷ k) v ag q h = way_leap (only l m) m g k v
      (ap (λ y. state_way l (move p (cond y (Goes (find m (body_in p f))) (Goes k)) f g v cs w)) (sym (ag m)) ∙ h)
  one_back g (Runs (Land m) ∷ k) v ag q h = ap (λ y. cond y Lands Past ▷ value_way l k v) (ne_eqb l m q) ∙ h
  one_back g (Asks (Source e) ∷ k) v ag q h = absurd q
  one_back g (Asks (On m) ∷ k) v ag q h = known_way (only l m) k v ∙ ap (λ y. value_way l k (Integer (truth y) ∷ v)) (sym (ag m)) ∙ h
  one_back g (Asks (Off m) ∷ k) v ag q h = known_way (not (only l m)) k v ∙ ap (λ y. value_way l k (Integer (truth (not y)) ∷ v)) (sym (ag m)) ∙ h
  one_back g (Asks (AndOff m t) ∷ k) v ag q h = way_and (only l m) t g k v
      (ap (λ y. state_way l (move p (cond y (Yields (pos 0) k) (Goes (Asks t ∷ k))) f g v cs w)) (sym (ag m)) ∙ h)
  one_back g (Asks (OrOn m t) ∷ k) v ag q h = way_or (only l m) t g k v
      (ap (λ y. state_way l (move p (cond y (Yields (pos 1) k) (Goes (Asks t ∷ k))) f g v cs w)) (sym (ag m)) ∙ h)
  one_back g (AsksSelector (Selects e) ∷ k) v ag q h = absurd q
  one_back g (AsksSelector (Pick m n s) ∷ k) v ag q h = way_pick (only l m) n s g k v
      (ap (λ y. state_way l (move p (cond y (Yields n k) (Goes (AsksSelector s ∷ k))) f g v cs w)) (sym (ag m)) ∙ h)
  one_back g (EndsSection ∷ k) v ag q h = past_cut l k v ∙ h
  one_back g (Branches a b ∷ k) v ag q h = way_branches (holds (top v)) a b k (rest v) h
  one_back g (Turns x ∷ k) v ag q h = way_turns (holds (top v)) x k (rest v) h
  one_back g (Enters kind c ∷ k) v ag q h =
      let n = integer (top v) in
      enter_lands l k (rest v) (section_way l (ToCase kind n) c) (section_way l ToDefault c) (seek_sections (ToCase kind n) c k) (seek_sections ToDefault c k)
      (enter_section l (ToCase kind n) refl c k (rest v)) (enter_section l ToDefault refl c k (rest v)) h
  one_back g (Loops (WhileLoop t a) ∷ k) v ag q h = h
  one_back g (Loops (DoLoop a t) ∷ k) v ag q h = way_do (peel (only l) t) t a k v h refl
  one_back g (Loops (ForLoop t u a) ∷ k) v ag q h = way_for t u a k v h
  one_back g (Out ∷ k) v ag q h = h
  one_back g _ v ag q h = absurd q

-- ---- a silent step keeps the guards of all other labels reset

abbrev pub AgreesAt : ℕ → State → Type 0
AgreesAt l (At f g k v cs w) = Agree g (only l)
AgreesAt l _ = Unit {0}

module _ (p : Code) (l : ℕ) (f : List ℕ) (cs : List Frame) (w : World) where
  abbrev Keeps : Guards → List Value → View → Type 0
  Keeps g v x = AgreesAt l (move p x f g v cs w)

  silent_agrees : (g : Guards) (k : List Task) (v : List Value) → Agree g (only l) → IsSilentTask l k → AgreesAt l (step p (At f g k v cs w))
  silent_agrees g (Runs (If t a b) ∷ k) v ag q = ag
  silent_agrees g (Runs (While t a) ∷ k) v ag q = ag
  silent_agrees g (Runs (Do a t) ∷ k) v ag q = ag
  silent_agrees g (Runs (Switch s c) ∷ k) v ag q = ag
  silent_agrees g (Runs (Leap m) ∷ k) v ag q = either (Keeps g v) (g m) (Goes (find m (body_in p f))) (Goes k) ag ag
  silent_agrees g (Runs (Land m) ∷ k) v ag q = reset_other l m g ag (ne_eqb l m q)
  silent_agrees g (Asks (Source e) ∷ k) v ag q = absurd q
  silent_agrees g (Asks (On m) ∷ k) v ag q = ag
  silent_agrees g (Asks (Off m) ∷ k) v ag q = ag
  silent_agrees g (Asks (AndOff m t) ∷ k) v ag q = either (Keeps g v) (g m) (Yields (pos 0) k) (Goes (Asks t ∷ k)) ag ag
  silent_agrees g (Asks (OrOn m t) ∷ k) v ag q = either (Keeps g v) (g m) (Yields (pos 1) k) (Goes (Asks t ∷ k)) ag ag
  silent_agrees g (AsksSelector (Selects e) ∷ k) v ag q = absurd q
  silent_agrees g (AsksSelector (Pick m n s) ∷ k) v ag q = either (Keeps g v) (g m) (Yields n k) (Goes (AsksSelector s ∷ k)) ag ag
  silent_agrees g (EndsSection ∷ k) v ag q = ag
  silent_agrees g (Branches a b ∷ k) v ag q = ag
  silent_agrees g (Turns x ∷ k) v ag q = ag
  silent_agrees g (Enters kind c ∷ k) v ag q = ag
  silent_agrees g (Loops (WhileLoop t a) ∷ k) v ag q = ag
  silent_agrees g (Loops (DoLoop a t) ∷ k) v ag q = ag
  silent_agrees g (Loops (ForLoop t u a) ∷ k) v ag q = ag
  silent_agrees g (Out ∷ k) v ag q = ag
  silent_agrees g _ v ag q = absurd q

-- ---- whole silent ways

landed_way : (p : Code) (m : List ℕ) (ds : List Frame) (l : ℕ) (c : State) → HasLanded p m ds l c → state_way l c ≡ Lands
landed_way p m ds l (At f g (Runs (Land n) ∷ k) v cs w) h = ap (λ y. cond y Lands Past ▷ value_way l k v) (eq-eqb l n (sym h.2))
landed_way p m ds l _ h = absurd h

lead_way : (p : Code) (m : List ℕ) (ds : List Frame) (l : ℕ) (n : ℕ) (c : State) → AgreesAt l c → ((i : ℕ) → i < n → IsSilent l (run p i c)) →
    HasLanded p m ds l (run p n c) → state_way l c ≡ Lands
lead_way p m ds l zero c ag s h = landed_way p m ds l c h
lead_way p m ds l (suc n) (At f g k v cs w) ag s h =
    let q = s 0 (omega arith) in
    one_back p l f cs w g k v ag q (lead_way p m ds l n (step p (At f g k v cs w)) (silent_agrees p l f cs w g k v ag q) (λ i j. s (suc i) (omega arith)) h)
lead_way p m ds l (suc n) _ ag s h = absurd (s 0 (omega arith))

mutual
  plain_value : (l : ℕ) (k : List Task) (v : List Value) → Plain k → value_way l k v ≡ task_way k l
  plain_value l [] v h = refl
  plain_value l (Runs x ∷ k) v h = ap (λ r. walk l x ▷ r) (plain_value l k v h)
  plain_value l (Loops x ∷ k) v h = ap (λ r. loop_way l x ▷ r) (plain_value l k v h)
  plain_value l (Heads t u a ∷ k) v h = refl
  plain_value l (EndsSection ∷ k) v h = plain_past l k v h
  plain_value l (Out ∷ k) v h = plain_value l k v h
  plain_value l (_ ∷ k) v h = absurd h

  plain_past : (l : ℕ) (k : List Task) (v : List Value) → Plain k → past_way l k v ≡ exit_way k l
  plain_past l [] v h = refl
  plain_past l (Runs x ∷ k) v h = plain_past l k v h
  plain_past l (Loops x ∷ k) v h = plain_value l k v h
  plain_past l (Heads t u a ∷ k) v h = plain_past l k v h
  plain_past l (EndsSection ∷ k) v h = plain_past l k v h
  plain_past l (Out ∷ k) v h = plain_value l k v h
  plain_past l (_ ∷ k) v h = absurd h

-- the way of a guard that leads to its Land, where items alone are to come
pub led : {p : Code} {m : List ℕ} {ds : List Frame} {l : ℕ} {f : List ℕ} {g : Guards} (k : List Task) {v : List Value} {cs : List Frame} {w : World} →
    Plain k → Agree g (only l) → LeadsTo p m ds l (At f g k v cs w) → task_way k l ≡ Lands
led {p = p} {m = m} {ds = ds} {l = l} {f = f} {g = g} k {v = v} {cs = cs} {w = w} h ag s =
    sym (plain_value l k v h) ∙ lead_way p m ds l s.steps (At f g k v cs w) ag s.silent s.landed
