-- Runs step by step, the silent ways of runs, and tests and selectors that the guards decide.
use Rattle.std.proofs.Common.{ℕ, ℤ, pos, Bool, true, false, not, cond, eqb, List, [], ◌∷◌, ◌≡◌, refl, ap, sym, ◌∙◌, subst, eqb-true}
use Rattle.c_tree.specs.Operators.{truth}
use Rattle.c_tree.specs.TestTrees.{TestTree, Source, On, Off, AndOff, OrOn, SelectorTree, Selects, Pick}
use Rattle.c_tree.specs.Trees.{Forest, Land}
use Rattle.jump_meaning.specs.Values.{Value, Integer}
use Rattle.jump_meaning.specs.Code.{Code, items_of}
use Rattle.jump_meaning.specs.World.{World}
use Rattle.jump_meaning.specs.Tasks.{Task, Runs, Asks, AsksSelector}
use Rattle.jump_meaning.specs.Search.{find}
use Rattle.jump_meaning.specs.Step.{Guards, no_guards, with_guard, Frame, Waits, State, At, Goes, Yields, move, step}
use Rattle.jump_meaning.specs.Steady.{IsSilentTask}
use Rattle.core_laws.specs.Ways.{only, Known, peel, KnownSelector, peel_selector}

abbrev pub Agree : Guards → Guards → Type 0
Agree g h = (l : ℕ) → g l ≡ h l

-- the guard of another label is reset
pub reset_other : (l m : ℕ) (g : Guards) → Agree g (only l) → eqb l m ≡ false → Agree (with_guard m false g) (only l)
reset_other l m g ag e x = at_x (eqb m x) refl
  where
    at_x : (b : Bool) → eqb m x ≡ b → cond b false (g x) ≡ eqb l x
    at_x true q = sym (ap (λ z. eqb l z) (sym (eqb-true m x q)) ∙ e)
    at_x false q = ag x

-- no call that waits has a guard set
abbrev pub CalmFrames : List Frame → Type 0
CalmFrames [] = Unit {0}
CalmFrames (Waits f g k v ∷ cs) = Agree g no_guards × CalmFrames cs

-- no call has
abbrev pub Calm : State → Type 0
Calm (At f g k v cs w) = Agree g no_guards × CalmFrames cs
Calm _ = Unit {0}

-- the items of a function of a program
abbrev pub body_in : Code → List ℕ → Forest
body_in p f = items_of (p.functions f)

-- the run goes silently to the Land of the label, whose guard alone is set
pub data Walks (p : Code) (l : ℕ) (f : List ℕ) (v : List Value) (cs : List Frame) (w : World) : State → Type 0 where
  landed : (g : Guards) (k : List Task) → Agree g (only l) → find l (body_in p f) ≡ Runs (Land l) ∷ k → Walks p l f v cs w (At f g (Runs (Land l) ∷ k) v cs w)
  onward : (g : Guards) (k : List Task) (u : List Value) → Agree g (only l) → IsSilentTask l k → Walks p l f v cs w (step p (At f g k u cs w)) →
      Walks p l f v cs w (At f g k u cs w)

-- no step, or more, each from a state with Ok
pub data Reach (p : Code) (Ok : State → Type 0) : State → State → Type 0 where
  stay : {c : State} → Reach p Ok c c
  more : {c d : State} → Ok c → Reach p Ok (step p c) d → Reach p Ok c d

unfoldable pub reach_on : {p : Code} {Ok : State → Type 0} {c d e : State} → Reach p Ok c d → Reach p Ok d e → Reach p Ok c e
reach_on stay q = q
reach_on (more ok r) q = more ok (reach_on r q)

-- a state that a steady program may come to
pub data Good (p : Code) : State → Type 0 where
  calmly : {c : State} → Calm c → Good p c
  walking : {c : State} (l : ℕ) (f : List ℕ) (v : List Value) (cs : List Frame) (w : World) → CalmFrames cs → Walks p l f v cs w c → Good p c

pub record Landing (p : Code) (l : ℕ) (f : List ℕ) (v : List Value) (cs : List Frame) (w : World) (c : State) : Type 0 where
  pub guards : Guards
  pub tasks : List Task
  pub agrees : Agree guards (only l)
  pub is : find l (body_in p f) ≡ Runs (Land l) ∷ tasks
  pub way : Reach p (Good p) c (At f guards (Runs (Land l) ∷ tasks) v cs w)

pub landing : {p : Code} {l : ℕ} {f : List ℕ} {v : List Value} {cs : List Frame} {w : World} {c : State} → CalmFrames cs → Walks p l f v cs w c →
    Landing p l f v cs w c
landing cf (landed g k a e) = record { guards = g; tasks = k; agrees = a; is = e; way = stay }
landing {l = l} {f = f} {v = v} {cs = cs} {w = w} cf (onward g k u a q r') =
    let r = landing cf r' in
    record { guards = r.guards; tasks = r.tasks; agrees = r.agrees; is = r.is; way = more (walking l f v cs w cf (onward g k u a q r')) r.way }

-- ---- tests

abbrev pub IsMadeTest : TestTree → Type 0
IsMadeTest (Source e) = ⊥
IsMadeTest _ = Unit {0}

module _ (p : Code) (f : List ℕ) (g h : Guards) (agree : Agree g h) (cs : List Frame) (w : World) (R : State → Type 0)
    (back : (t : TestTree) (k : List Task) (v : List Value) → IsMadeTest t → R (step p (At f g (Asks t ∷ k) v cs w)) → R (At f g (Asks t ∷ k) v cs w)) where
  abbrev LeftAt : List Task → List Value → Bool → Type 0
  LeftAt k v b = R (At f g k (Integer (truth b) ∷ v) cs w)

  known_is : (b c : Bool) → Known b ≡ Known c → b ≡ c
  known_is b c e = cc

  and_quiet : (t : TestTree) (k : List Task) (v : List Value) (b y : Bool) → cond y (Known false) (peel h t) ≡ Known b → LeftAt k v b →
      (peel h t ≡ Known b → R (At f g (Asks t ∷ k) v cs w))
      → R (move p (cond y (Yields (pos 0) k) (Goes (Asks t ∷ k))) f g v cs w)
  and_quiet t k v b true e r go = subst (λ c. LeftAt k v c) (sym (known_is false b e)) r
  and_quiet t k v b false e r go = go e

  or_quiet : (t : TestTree) (k : List Task) (v : List Value) (b y : Bool) → cond y (Known true) (peel h t) ≡ Known b → LeftAt k v b →
      (peel h t ≡ Known b → R (At f g (Asks t ∷ k) v cs w))
      → R (move p (cond y (Yields (pos 1) k) (Goes (Asks t ∷ k))) f g v cs w)
  or_quiet t k v b true e r go = subst (λ c. LeftAt k v c) (sym (known_is true b e)) r
  or_quiet t k v b false e r go = go e

  -- a test that the guards decide leaves its truth value
  pub quiet : (t : TestTree) (k : List Task) (v : List Value) (b : Bool) → peel h t ≡ Known b → LeftAt k v b → R (At f g (Asks t ∷ k) v cs w)
  quiet (Source e) k v b q r = cc
  quiet (On l) k v b q r = back (On l) k v tt (subst (λ c. LeftAt k v c) (sym (agree l ∙ known_is (h l) b q)) r)
  quiet (Off l) k v b q r = back (Off l) k v tt (subst (λ c. LeftAt k v c) (sym (ap not (agree l) ∙ known_is (not (h l)) b q)) r)
  quiet (AndOff l t) k v b q r =
      back (AndOff l t) k v tt (and_quiet t k v b (g l) (ap (λ y. cond y (Known false) (peel h t)) (agree l) ∙ q) r (λ z. quiet t k v b z r))
  quiet (OrOn l t) k v b q r =
      back (OrOn l t) k v tt (or_quiet t k v b (g l) (ap (λ y. cond y (Known true) (peel h t)) (agree l) ∙ q) r (λ z. quiet t k v b z r))

-- ---- selectors

abbrev pub IsMadeSelector : SelectorTree → Type 0
IsMadeSelector (Selects e) = ⊥
IsMadeSelector _ = Unit {0}

module _ (p : Code) (f : List ℕ) (g h : Guards) (agree : Agree g h) (cs : List Frame) (w : World) (R : State → Type 0)
    (back : (s : SelectorTree) (k : List Task) (v : List Value) → IsMadeSelector s → R (step p (At f g (AsksSelector s ∷ k) v cs w)) →
    R (At f g (AsksSelector s ∷ k) v cs w)) where
  known_number : (m n : ℤ) → KnownSelector m ≡ KnownSelector n → m ≡ n
  known_number m n e = cc

  pick_quiet : (m : ℤ) (s : SelectorTree) (k : List Task) (v : List Value) (n : ℤ) (y : Bool) →
      cond y (KnownSelector m) (peel_selector h s) ≡ KnownSelector n → R (At f g k (Integer n ∷ v) cs w)
      → (peel_selector h s ≡ KnownSelector n → R (At f g (AsksSelector s ∷ k) v cs w)) → R (move p (cond y (Yields m k) (Goes (AsksSelector s ∷ k))) f g v cs w)
  pick_quiet m s k v n true e r go = subst (λ c. R (At f g k (Integer c ∷ v) cs w)) (sym (known_number m n e)) r
  pick_quiet m s k v n false e r go = go e

  -- a selector that the guards decide leaves its number
  pub quiet_selector : (s : SelectorTree) (k : List Task) (v : List Value) (n : ℤ) → peel_selector h s ≡ KnownSelector n →
      R (At f g k (Integer n ∷ v) cs w) → R (At f g (AsksSelector s ∷ k) v cs w)
  quiet_selector (Selects e) k v n q r = cc
  quiet_selector (Pick l m s) k v n q r =
      back (Pick l m s) k v tt (pick_quiet m s k v n (g l) (ap (λ y. cond y (KnownSelector m) (peel_selector h s)) (agree l) ∙ q) r
      (λ z. quiet_selector s k v n z r))
