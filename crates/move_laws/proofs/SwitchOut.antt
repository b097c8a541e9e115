-- Rule O makes a list at least as good: a Leap goes out of a section of a switch.
use Rattle.std.proofs.Common.{ℕ, ℤ, Bool, true, false, cond, eqb, List, Option, Some, None, ◌≡◌, refl, ap, sym, ◌∙◌, subst, arith}
use Rattle.c_tree.specs.ExpressionTrees.{ExpressionTree}
use Rattle.c_tree.specs.TestTrees.{SelectorTree}
use Rattle.c_tree.specs.Trees.{Forest, Nil, Then, Sections, NoSection, Section, Switch, Leap}
use Rattle.c_tree.specs.Exits.{continues, continues_in}
use Rattle.c_tree.specs.Changed.{one}
use Rattle.c_tree.specs.Moves.{guarded, later_guarded, SectionsLeft, left_here, left_later}
use Rattle.c_tree.proofs.ExitsKept.{continues-guarded, continues-left}
use Rattle.jump_meaning.specs.Search.{Goal, ToCase, ToDefault, is_section_goal, first_of_three}
use Rattle.jump_meaning.specs.Step.{switch_kind}
use Rattle.core_laws.specs.Ways.{only, PeeledSelector, AskSelector, KnownSelector, peel_selector, on_selector, Way, Lands, Past, Lost, ◌▷◌, walk, walks, end_way, tail_way, section_way, Follow, before, after_section}
use Rattle.core_laws.specs.Core.{core, core_sections}
use Rattle.core_laws.specs.Better.{LeWay, LeFollow, LeAll, le_switch, LeSections, le_section, Better}
use Rattle.core_laws.proofs.TaskWays.{way_assoc}
use Rattle.move_laws.proofs.Orders.{way_past, way_lands, way_trans, way_then, way_on}
use Rattle.move_laws.proofs.Lists.{walks-guarded, core-guarded}
use Rattle.move_laws.proofs.Cores.{one_le, core_le, sections_le}
use Rattle.move_laws.proofs.Inward.{way_first}
use Rattle.move_laws.proofs.Outward.{leap_way, leap_at, leap_off, way_more, Behind, behind_leap, old, new, left_way, left_cores}

-- ---- ways with a Leap behind them

-- the second of two ways is no worse with z behind it, where they are, or neither is there
abbrev LeWith : Way → Option Way → Option Way → Type 0
LeWith z None None = Unit {0}
LeWith z (Some x) (Some y) = LeWay x (y ▷ z)
LeWith z _ _ = ⊥

with_refl : (z : Way) → ((y : Way) → LeWay y (y ▷ z)) → (o : Option Way) → LeWith z o o
with_refl z h None = tt
with_refl z h (Some y) = h y

with_here : (z : Way) (b : Bool) (x y : Way) (o p : Option Way) → LeWay x (y ▷ z) → LeWith z o p → LeWith z (cond b (Some x) o) (cond b (Some y) p)
with_here z true x y o p h k = h
with_here z false x y o p h k = k

with_first : (z : Way) (o p o' p' : Option Way) → LeWith z o o' → LeWith z p p' → LeWay Past (Past ▷ z) →
    LeWay (first_of_three o p Past) (first_of_three o' p' Past ▷ z)
with_first z (Some x) p (Some y) p' h k n = h
with_first z (Some x) p None p' h k n = absurd h
with_first z None p (Some y) p' h k n = absurd h
with_first z None (Some x) None (Some y) h k n = k
with_first z None (Some x) None None h k n = absurd k
with_first z None None None (Some y) h k n = absurd k
with_first z None None None None h k n = n

with_selector : (z : Way) (p : PeeledSelector) (f g : ℤ → Way) → ((n : ℤ) → LeWay (f n) (g n ▷ z)) → LeWay (on_selector p Lost f) (on_selector p Lost g ▷ z)
with_selector z (AskSelector e) f g h = tt
with_selector z (KnownSelector n) f g h = h n

there_sooner : (x y z : Way) → LeWay x (y ▷ Lands) → LeWay (x ▷ z) (y ▷ Lands)
there_sooner Lost y z h = tt
there_sooner Past Lost z h = absurd h
there_sooner Past _ z h = way_lands z
there_sooner Lands Lost z h = absurd h
there_sooner Lands _ z h = tt

module _ (m : ℕ) where
  -- then what follows: of the second that is behind the Leap
  with_follow : (w w' : Follow) → Behind m w w' → (l : ℕ) (x y : Way) → LeWay x (y ▷ leap_way l m) → LeWay (x ▷ w l) (y ▷ w' l)
  with_follow w w' b l x y h = way (eqb l m) refl
    where
      way : (c : Bool) → eqb l m ≡ c → LeWay (x ▷ w l) (y ▷ w' l)
      way true e = subst (λ z. LeWay (x ▷ w l) (y ▷ z)) (sym (b.at l e)) (there_sooner x y (w l) (subst (λ z. LeWay x (y ▷ z)) (leap_at l m e) h))
      way false e = way_then _ _ _ _ (subst (LeWay x) (ap (λ z. y ▷ z) (leap_off l m e) ∙ way_past y) h) (b.better l)

  -- one way and then another, where at m the second leads past
  with_then : (l : ℕ) (x x' y y' : Way) → LeWay x (x' ▷ leap_way l m) → LeWay y (y' ▷ leap_way l m) → (eqb l m ≡ true → y' ≡ Past) →
      LeWay (x ▷ y) ((x' ▷ y') ▷ leap_way l m)
  with_then l x x' y y' h k p = way (eqb l m) refl
    where
      way : (c : Bool) → eqb l m ≡ c → LeWay (x ▷ y) ((x' ▷ y') ▷ leap_way l m)
      way true e =
          subst (LeWay (x ▷ y)) (sym (ap (λ z. (x' ▷ z) ▷ leap_way l m) (p e) ∙ ap (λ z. z ▷ leap_way l m) (way_past x') ∙ ap (λ z. x' ▷ z) (leap_at l m e)))
          (there_sooner x x' y (subst (λ z. LeWay x (x' ▷ z)) (leap_at l m e) h))
      way false e =
          subst (LeWay (x ▷ y)) (sym (ap (λ z. (x' ▷ y') ▷ z) (leap_off l m e) ∙ way_past (x' ▷ y')))
          (way_then _ _ _ _ (subst (LeWay x) (ap (λ z. x' ▷ z) (leap_off l m e) ∙ way_past x') h)
          (subst (LeWay y) (ap (λ z. y' ▷ z) (leap_off l m e) ∙ way_past y') k))

  with_end : (ends : Bool) (l : ℕ) (x y : Way) → LeWay x (y ▷ leap_way l m) → LeWay (end_way ends x) (end_way ends y ▷ leap_way l m)
  with_end true l x y h = way_more l m Past
  with_end false l x y h = h

  -- ---- sections with the Leap behind their switch

  record LeftSections (c d : Sections) : Type 0 where
    goes : continues_in c ≡ continues_in d
    tails : (l : ℕ) → LeWay (tail_way l c) (tail_way l d ▷ leap_way l m)
    entries : (l : ℕ) (goal : Goal) → LeWith (leap_way l m) (section_way l goal c) (section_way l goal d)
    cores : (w w' : Follow) → Behind m w w' → LeSections (core_sections c w) (core_sections d w')

  same_left : (c : Sections) → LeftSections c c
  same_left c = record {
    goes = refl;
    tails = λ l. way_more l m (tail_way l c);
    entries = λ l goal. with_refl (leap_way l m) (way_more l m) (section_way l goal c);
    cores = λ w w' b. sections_le c w w' b.better;
  }

  -- a section, whose list may change
  module _ (cases : List ExpressionTree) (default ends : Bool) (a a' : Forest) (c c' : Sections) (o : LeftSections c c') where
    section_left : continues a ≡ continues a' → ((l : ℕ) → LeWay (walks l a ▷ end_way ends (tail_way l c))
        ((walks l a' ▷ end_way ends (tail_way l c')) ▷ leap_way l m))
        → ((w w' : Follow) → Behind m w w' → LeAll (core a (after_section ends c w)) (core a' (after_section ends c' w'))) →
        LeftSections (Section cases default a ends c) (Section cases default a' ends c')
    section_left g way cores = record {
      goes = let x = o.goes in omega arith;
      tails = way;
      entries = λ l goal. with_here (leap_way l m) (is_section_goal goal cases default) _ _ _ _ (way l) (o.entries l goal);
      cores = λ w w' b. le_section cases default ends (cores w w' b) (o.cores w w' b);
    }

    follow_left : (w w' : Follow) → Behind m w w' → LeFollow (after_section ends c w) (after_section ends c' w')
    follow_left w w' b l = with_follow w w' b l _ _ (with_end ends l _ _ (o.tails l))

  -- its list is as it was
  next_left : (cases : List ExpressionTree) (default ends : Bool) (a : Forest) (c c' : Sections) → LeftSections c c' →
      LeftSections (Section cases default a ends c) (Section cases default a ends c')
  next_left cases default ends a c c' o =
      section_left cases default ends a a c c' o refl
      (λ l. subst (LeWay (walks l a ▷ end_way ends (tail_way l c))) (sym (way_assoc (walks l a) (end_way ends (tail_way l c')) (leap_way l m)))
      (way_on (walks l a) _ _ (with_end ends l _ _ (o.tails l))))
      (λ w w' b. core_le a (after_section ends c w) (after_section ends c' w') (follow_left cases default ends a a c c' o w w' b))

  -- it is under the guard now
  guarded_left : (cases : List ExpressionTree) (default ends : Bool) (a : Forest) (c c' : Sections) → LeftSections c c' →
      ((l : ℕ) → eqb l m ≡ true → end_way ends (tail_way l c') ≡ Past)
      → LeftSections (Section cases default a ends c) (Section cases default (guarded m a) ends c')
  guarded_left cases default ends a c c' o p =
      section_left cases default ends a (guarded m a) c c' o (sym (continues-guarded m a))
      (λ l. with_then l _ _ _ _ (way_trans _ _ _ (way_first l m (walks l a)) (left_way m Nil a l)) (with_end ends l _ _ (o.tails l)) (p l))
      (λ w w' b. subst (LeAll (core a (after_section ends c w))) (sym (core-guarded m a (after_section ends c' w')))
      (core_le a (after_section ends c w) (after_section ends c' w') (follow_left cases default ends a a c c' o w w' b)))

  past_guarded : (l : ℕ) (a : Forest) → eqb l m ≡ true → walks l (guarded m a) ≡ Past
  past_guarded l a e = walks-guarded l m a ∙ ap (λ c. cond c Past (walks l a)) e

  past_later : (l : ℕ) (c : Sections) → eqb l m ≡ true → tail_way l (later_guarded m c) ≡ Past
  past_later l NoSection e = refl
  past_later l (Section cases default a true c) e = ap (λ y. y ▷ Past) (past_guarded l a e)
  past_later l (Section cases default a false c) e = ap (λ y. y ▷ tail_way l (later_guarded m c)) (past_guarded l a e) ∙ past_later l c e

  past_chosen : (l : ℕ) (ends : Bool) (c : Sections) → eqb l m ≡ true → end_way ends (tail_way l (cond ends c (later_guarded m c))) ≡ Past
  past_chosen l true c e = refl
  past_chosen l false c e = past_later l c e

  later_left : (c : Sections) → LeftSections c (later_guarded m c)
  later_left NoSection = same_left NoSection
  later_left (Section cases default a true c) = guarded_left cases default true a c c (same_left c) (λ l e. refl)
  later_left (Section cases default a false c) = guarded_left cases default false a c (later_guarded m c) (later_left c) (λ l e. past_later l c e)

  chosen_left : (ends : Bool) (c : Sections) → LeftSections c (cond ends c (later_guarded m c))
  chosen_left true c = same_left c
  chosen_left false c = later_left c

  -- it is the list that the Leap left
  here_left : (cases : List ExpressionTree) (default ends : Bool) (a b : Forest) (c : Sections)
      → LeftSections (Section cases default (old m a b) ends c) (Section cases default (new m a b) ends (cond ends c (later_guarded m c)))
  here_left cases default ends a b c =
      let d = cond ends c (later_guarded m c) in
      let o = chosen_left ends c in
      section_left cases default ends (old m a b) (new m a b) c d o (sym (continues-left m a b))
      (λ l. with_then l _ _ _ _ (left_way m a b l) (with_end ends l _ _ (o.tails l)) (past_chosen l ends c))
      (λ w w' h. left_cores m a b (after_section ends c w) (after_section ends d w')
      (record { better = follow_left cases default ends a a c d o w w' h; at = λ l e. ap (λ y. y ▷ w' l) (past_chosen l ends c e) ∙ h.at l e }))

  sections_left : {c d : Sections} → SectionsLeft m c d → LeftSections c d
  sections_left (left_here cases default ends a b c) = here_left cases default ends a b c
  sections_left (left_later cases default ends a {c = c} {d = d} r) = next_left cases default ends a c d (sections_left r)

  pub out_switch : (s : SelectorTree) {c d : Sections} → SectionsLeft m c d → Better (one (Switch s c)) (Then (Switch s d) (one (Leap m)))
  out_switch s {c = c} {d = d} r =
      let o = sections_left r in
      record {
        stops = refl;
        goes = let x = o.goes in omega arith;
        ways = λ l. subst (λ x. LeWay x (walk l (Switch s d) ▷ leap_way l m)) (sym (way_past (walk l (Switch s c))))
            (with_selector (leap_way l m) (peel_selector (only l) s) _ _
            (λ n. with_first (leap_way l m) _ _ _ _ (o.entries l (ToCase (switch_kind s) n)) (o.entries l ToDefault) (way_more l m Past)));
        cores = λ w w' h. one_le (le_switch _ (o.cores w (before (one (Leap m)) w') (behind_leap m w w' h)));
      }
