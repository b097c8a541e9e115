-- Facts of each item that the simplifications of made tests keep.
use Rattle.std.proofs.Common.{ℕ, ℤ, ◌<◌, ◌≤◌, Option, option_map, IfSome, IsSome, ◌≡◌, refl, ap, sym, ◌∙◌, subst, arith}
use Rattle.c_types.specs.Numbers.{promoted}
use Rattle.c_tree.specs.ExpressionTrees.{ExpressionTree}
use Rattle.c_tree.specs.TestTrees.{TestTree, Source, On, Off, AndOff, OrOn, SelectorTree, Pick}
use Rattle.c_tree.specs.Trees.{Tree, Forest, Nil, Sections, If, While, Do, For, Switch, Block, join}
use Rattle.c_tree.specs.Everywhere.{total_in, Everywhere, EverywhereIn}
use Rattle.c_tree.specs.Labels.{jump_of, TestLabels, SelectorLabels, GuardLabels, ItemLabels}
use Rattle.c_tree.specs.Slots.{TestSlots, SelectorSlots, ItemSlots}
use Rattle.c_tree.specs.InRange.{IsSourceTest, IsSourceSelector, IsUnguarded}
use Rattle.c_tree.specs.Exits.{breaks_in}
use Rattle.c_tree.specs.Constants.{kind_of}
use Rattle.c_tree.specs.Cases.{selector_source, selector_kind, AreCases, ArePicks}
use Rattle.c_tree.specs.Changed.{one, Changed, ChangedSections, here, within, in_then, in_else, in_while, in_do, in_for, in_switch, in_block, in_section, in_later}
use Rattle.c_tree.specs.WellMade.{IsConverted, HasSelectorKind, HasEntries, HasCases, HasPicks, IsPlainFor, BindsNoExit, IsMade, HasNoMadeElse}
use Rattle.c_tree.proofs.KeptLemmas.{SameEntries, changed_same, everywhere_front, everywhere_back, everywhere_join}
use Rattle.c_tree.proofs.WellMoved.{alike_cases, some_map}
use Rattle.jump_meaning.specs.Steady.{IsUnjumping, IsUnarmed}
use Rattle.move_laws.proofs.RangesKept.{item_slots_kept}
use Rattle.move_laws.specs.Simplifications.{DropsAnd, and_here, and_in_and, and_in_or, DropsOr, or_here, or_in_and, or_in_or, ShorterTest, again_and, again_or, only_off, shorter_and, shorter_or, DropsPick, pick_here, pick_in, ShorterSelector, again_pick, shorter_pick, IsOff, round, Simplified, empty_if, shorter_if, shorter_while, shorter_do, shorter_switch, neighbours, nested}
use Rattle.move_laws.proofs.Numbers.{changed_full, counts_jumps, changed_total_in, SameNumbers, same_numbers, section_breaks}
use Rattle.move_laws.proofs.Simpler.{same_source}

-- ---- tests and selectors with one wrapper fewer

-- a fact of tests that wrappers have from what is inside, and hand on to it
pub record IsOfLabels (P : TestTree → Type 0) (Q : ℕ → Type 0) : Type 0 where
  pub off : (l : ℕ) → P (Off l) → Q l
  pub and_out : (l : ℕ) (t : TestTree) → P (AndOff l t) → Q l × P t
  pub or_out : (l : ℕ) (t : TestTree) → P (OrOn l t) → Q l × P t
  pub and_in : (l : ℕ) (t : TestTree) → Q l → P t → P (AndOff l t)
  pub or_in : (l : ℕ) (t : TestTree) → Q l → P t → P (OrOn l t)

module _ (P : TestTree → Type 0) (Q : ℕ → Type 0) (k : IsOfLabels P Q) where
  and_dropped : (m : ℕ) {t u : TestTree} → DropsAnd m t u → P t → P u
  and_dropped m (and_here t) h = (k.and_out m t h).1
  and_dropped m (and_in_and l {t = t} {u = u} r) h = let e = k.and_out l t h in k.and_in l u e.0 (and_dropped m r e.1)
  and_dropped m (and_in_or l {t = t} {u = u} r) h = let e = k.or_out l t h in k.or_in l u e.0 (and_dropped m r e.1)

  or_dropped : (m : ℕ) {t u : TestTree} → DropsOr m t u → P t → P u
  or_dropped m (or_here t) h = (k.or_out m t h).1
  or_dropped m (or_in_and l {t = t} {u = u} r) h = let e = k.and_out l t h in k.and_in l u e.0 (or_dropped m r e.1)
  or_dropped m (or_in_or l {t = t} {u = u} r) h = let e = k.or_out l t h in k.or_in l u e.0 (or_dropped m r e.1)

  pub shorter_kept : {t u : TestTree} → ShorterTest t u → P t → P u
  shorter_kept (again_and m {t = t} {u = u} r) h = let e = k.and_out m t h in k.and_in m u e.0 (and_dropped m r e.1)
  shorter_kept (again_or m {t = t} {u = u} r) h = let e = k.or_out m t h in k.or_in m u e.0 (or_dropped m r e.1)
  shorter_kept (only_off m) h = (k.and_out m (Off m) h).1
  shorter_kept (shorter_and l {t = t} {u = u} r) h = let e = k.and_out l t h in k.and_in l u e.0 (shorter_kept r e.1)
  shorter_kept (shorter_or l {t = t} {u = u} r) h = let e = k.or_out l t h in k.or_in l u e.0 (shorter_kept r e.1)

  pub round_kept : (t u : TestTree) → IsOff t → P t → P u → P (round t u)
  round_kept (Source e) u o h i = absurd o
  round_kept (On l) u o h i = absurd o
  round_kept (Off l) u o h i = k.and_in l u (k.off l h) i
  round_kept (AndOff l t) u o h i = let e = k.and_out l t h in k.and_in l (round t u) e.0 (round_kept t u o e.1 i)
  round_kept (OrOn l t) u o h i = absurd o

labels_of_tests : (D : ℕ → Type 0) → IsOfLabels (TestLabels D) D
labels_of_tests D = record { off = λ l h. h; and_out = λ l t h. h; or_out = λ l t h. h; and_in = λ l t q h. (q, h); or_in = λ l t q h. (q, h) }

slots_of_tests : (D : ℕ → Type 0) → IsOfLabels (TestSlots D) (λ l. Unit {0})
slots_of_tests D = record { off = λ l h. tt; and_out = λ l t h. (tt, h); or_out = λ l t h. (tt, h); and_in = λ l t q h. h; or_in = λ l t q h. h }

-- the other way: a shorter test is made only where the test is
made_and : (m : ℕ) {t u : TestTree} → DropsAnd m t u → IsMade u → IsMade t
made_and m (and_here t) h = h
made_and m (and_in_and l r) h = made_and m r h
made_and m (and_in_or l r) h = made_and m r h

made_or : (m : ℕ) {t u : TestTree} → DropsOr m t u → IsMade u → IsMade t
made_or m (or_here t) h = h
made_or m (or_in_and l r) h = made_or m r h
made_or m (or_in_or l r) h = made_or m r h

made_shorter : {t u : TestTree} → ShorterTest t u → IsMade u → IsMade t
made_shorter (again_and m r) h = made_and m r h
made_shorter (again_or m r) h = made_or m r h
made_shorter (only_off m) h = h
made_shorter (shorter_and l r) h = made_shorter r h
made_shorter (shorter_or l r) h = made_shorter r h

-- a fact of selectors that each Pick hands on
module _ (P : SelectorTree → Type 0) (out : (l : ℕ) (n : ℤ) (s : SelectorTree) → P (Pick l n s) → P s)
    (inwards : (l : ℕ) (n : ℤ) (s u : SelectorTree) → P (Pick l n s) → P u → P (Pick l n u)) where
  pick_dropped : (m : ℕ) {s u : SelectorTree} → DropsPick m s u → P s → P u
  pick_dropped m (pick_here n s) h = out m n s h
  pick_dropped m (pick_in l n {s = s} {u = u} r) h = inwards l n s u h (pick_dropped m r (out l n s h))

  pub selector_kept : {s u : SelectorTree} → ShorterSelector s u → P s → P u
  selector_kept (again_pick m n {s = s} {u = u} r) h = inwards m n s u h (pick_dropped m r (out m n s h))
  selector_kept (shorter_pick l n {s = s} {u = u} r) h = inwards l n s u h (selector_kept r (out l n s h))

source_kept : {s u : SelectorTree} → ShorterSelector s u → selector_source s ≡ selector_source u
source_kept (again_pick m n r) = same_source m r
source_kept (shorter_pick l n r) = source_kept r

-- ---- what is kept

-- sections with the same cases, Leaps, Lands and breaks
pub record SameSections (c d : Sections) : Type 0 where
  pub entries : SameEntries c d
  pub jumps : total_in jump_of c ≡ total_in jump_of d
  pub breaks : breaks_in c ≡ breaks_in d

pub record IsStable (P : Tree → Type 0) : Type 0 where
  -- other lists
  pub ifs : (t : TestTree) (a b a' b' : Forest) → (b ≡ Nil → b' ≡ Nil) → P (If t a b) → P (If t a' b')
  pub whiles : (t : TestTree) (a a' : Forest) → SameNumbers a a' → P (While t a) → P (While t a')
  pub dos : (t : TestTree) (a a' : Forest) → SameNumbers a a' → P (Do a t) → P (Do a' t)
  pub fors : (first : Forest) (t u : Option ExpressionTree) (a a' : Forest) → SameNumbers a a' → P (For first t u a) → P (For first t u a')
  pub switches : (s : SelectorTree) (c d : Sections) → SameSections c d → P (Switch s c) → P (Switch s d)
  pub blocks : (a a' : Forest) → P (Block a) → P (Block a')
  -- other tests
  pub if_tests : {t u : TestTree} (a b : Forest) → ShorterTest t u → P (If t a b) → P (If u a b)
  pub while_tests : {t u : TestTree} (a : Forest) → ShorterTest t u → P (While t a) → P (While u a)
  pub do_tests : {t u : TestTree} (a : Forest) → ShorterTest t u → P (Do a t) → P (Do a u)
  pub selectors : {s u : SelectorTree} (c : Sections) → ShorterSelector s u → P (Switch s c) → P (Switch u c)
  pub nests : (t u : TestTree) (a : Forest) → IsOff t → P (If t (one (If u a Nil)) Nil) → P (If u a Nil) → P (If (round t u) a Nil)

module _ (P : Tree → Type 0) (k : IsStable P) where
  rule_kept : {xs ys : Forest} → Simplified xs ys → Everywhere P xs → Everywhere P ys
  rule_kept (empty_if t m) h = tt
  rule_kept (shorter_if a b r) h = ((k.if_tests a b r h.0.0, h.0.1, h.0.2), tt)
  rule_kept (shorter_while a r) h = ((k.while_tests a r h.0.0, h.0.1), tt)
  rule_kept (shorter_do a r) h = ((k.do_tests a r h.0.0, h.0.1), tt)
  rule_kept (shorter_switch c r) h = ((k.selectors c r h.0.0, h.0.1), tt)
  rule_kept (neighbours m a b n) h = ((k.ifs (Off m) a Nil (join a b) Nil (λ e. e) h.0.0, everywhere_join P a b h.0.1 h.1.0.1, tt), tt)
  rule_kept (nested t u a o i) h = ((k.nests t u a o h.0.0 h.0.1.0.0, h.0.1.0.1, tt), tt)

  still_empty : {xs ys : Forest} → Changed Simplified xs ys → xs ≡ Nil → ys ≡ Nil
  still_empty c e = absurd (changed_full c e)

  mutual
    pub simplified_kept : {xs ys : Forest} → Changed Simplified xs ys → Everywhere P xs → Everywhere P ys
    simplified_kept (here r) h = rule_kept r h
    simplified_kept (within a b {xs = xs} {ys = ys} c) h =
        let e = everywhere_back P a (join xs b) h in
        everywhere_join P a (join ys b) (everywhere_front P a (join xs b) h)
        (everywhere_join P ys b (simplified_kept c (everywhere_front P xs b e)) (everywhere_back P xs b e))
    simplified_kept (in_then t b {xs = xs} {ys = ys} c) h = ((k.ifs t xs b ys b (λ e. e) h.0.0, simplified_kept c h.0.1, h.0.2), tt)
    simplified_kept (in_else t a {xs = xs} {ys = ys} c) h = ((k.ifs t a xs a ys (still_empty c) h.0.0, h.0.1, simplified_kept c h.0.2), tt)
    simplified_kept (in_while t {xs = xs} {ys = ys} c) h = ((k.whiles t xs ys (same_numbers c) h.0.0, simplified_kept c h.0.1), tt)
    simplified_kept (in_do t {xs = xs} {ys = ys} c) h = ((k.dos t xs ys (same_numbers c) h.0.0, simplified_kept c h.0.1), tt)
    simplified_kept (in_for f t u {xs = xs} {ys = ys} c) h = ((k.fors f t u xs ys (same_numbers c) h.0.0, h.0.1, simplified_kept c h.0.2), tt)
    simplified_kept (in_switch s {c = c} {d = d} r) h = (
      (
        k.switches s c d (record { entries = changed_same r; jumps = changed_total_in jump_of counts_jumps r; breaks = section_breaks r }) h.0.0,
        sections_kept r h.0.1,
      ),
      tt,
    )
    simplified_kept (in_block {xs = xs} {ys = ys} c) h = ((k.blocks xs ys h.0.0, simplified_kept c h.0.1), tt)

    sections_kept : {c d : Sections} → ChangedSections Simplified c d → EverywhereIn P c → EverywhereIn P d
    sections_kept (in_section cases default ends c r) h = (simplified_kept r h.0, h.1)
    sections_kept (in_later cases default ends a r) h = (h.0, sections_kept r h.1)

-- ---- the facts of items

-- a fact that no construct needs
pub plain_stable : (P : Tree → Type 0) → ((t : TestTree) (a b : Forest) → P (If t a b)) → ((t : TestTree) (a : Forest) → P (While t a)) →
    ((t : TestTree) (a : Forest) → P (Do a t))
    → ((first : Forest) (t u : Option ExpressionTree) (a a' : Forest) → SameNumbers a a' → P (For first t u a) → P (For first t u a')) →
    ((s : SelectorTree) (c : Sections) → P (Switch s c)) → ((a a' : Forest) → P (Block a) → P (Block a')) → IsStable P
plain_stable P i w d f s b = record {
  ifs = λ t a c a' c' e h. i t a' c';
  whiles = λ t a a' n h. w t a';
  dos = λ t a a' n h. d t a';
  fors = f;
  switches = λ x c c' e h. s x c';
  blocks = b;
  if_tests = λ a c r h. i _ a c;
  while_tests = λ a r h. w _ a;
  do_tests = λ a r h. d _ a;
  selectors = λ c r h. s _ c;
  nests = λ t u a o h j. i (round t u) a Nil;
}

pub converted_stable : IsStable IsConverted
converted_stable = plain_stable IsConverted (λ t a b. tt) (λ t a. tt) (λ t a. tt) (λ first t u a a' n h. tt) (λ s c. tt) (λ a a' h. h)

pub unjumping_stable : IsStable IsUnjumping
unjumping_stable = plain_stable IsUnjumping (λ t a b. tt) (λ t a. tt) (λ t a. tt) (λ first t u a a' n h. tt) (λ s c. tt) (λ a a' h. tt)

pub unarmed_stable : IsStable IsUnarmed
unarmed_stable = plain_stable IsUnarmed (λ t a b. tt) (λ t a. tt) (λ t a. tt) (λ first t u a a' n h. tt) (λ s c. tt) (λ a a' h. tt)

pub loops_stable : IsStable IsPlainFor
loops_stable = plain_stable IsPlainFor (λ t a b. tt) (λ t a. tt) (λ t a. tt) (λ first t u a a' n h. (h.0, sym n.jumps ∙ h.1)) (λ s c. tt) (λ a a' h. tt)

pub labels_stable : (D : ℕ → Type 0) → IsStable (GuardLabels D)
labels_stable D = record {
  ifs = λ t a b a' b' e h. h;
  whiles = λ t a a' n h. h;
  dos = λ t a a' n h. h;
  fors = λ first t u a a' n h. tt;
  switches = λ s c d e h. tt;
  blocks = λ a a' h. tt;
  if_tests = λ a b r h. shorter_kept (TestLabels D) D (labels_of_tests D) r h;
  while_tests = λ a r h. shorter_kept (TestLabels D) D (labels_of_tests D) r h;
  do_tests = λ a r h. shorter_kept (TestLabels D) D (labels_of_tests D) r h;
  selectors = λ c r h. tt;
  nests = λ t u a o h j. round_kept (TestLabels D) D (labels_of_tests D) t u o h j;
}

pub item_labels_stable : (D : ℕ → Type 0) → IsStable (ItemLabels D)
item_labels_stable D = record {
  ifs = λ t a b a' b' e h. h;
  whiles = λ t a a' n h. h;
  dos = λ t a a' n h. h;
  fors = λ first t u a a' n h. tt;
  switches = λ s c d e h. h;
  blocks = λ a a' h. tt;
  if_tests = λ a b r h. shorter_kept (TestLabels D) D (labels_of_tests D) r h;
  while_tests = λ a r h. shorter_kept (TestLabels D) D (labels_of_tests D) r h;
  do_tests = λ a r h. shorter_kept (TestLabels D) D (labels_of_tests D) r h;
  selectors = λ c r h. selector_kept (SelectorLabels D) (λ l n s h. h.1) (λ l n s u h i. (h.0, i)) r h;
  nests = λ t u a o h j. round_kept (TestLabels D) D (labels_of_tests D) t u o h j;
}

pub item_slots_stable : (D : ℕ → Type 0) → IsStable (ItemSlots D)
item_slots_stable D = record {
  ifs = λ t a b a' b' e h. h;
  whiles = λ t a a' n h. h;
  dos = λ t a a' n h. h;
  fors = λ first t u a a' n h. h;
  switches = λ s c d e h. (item_slots_kept D).switches s c d e.entries h;
  blocks = λ a a' h. tt;
  if_tests = λ a b r h. shorter_kept (TestSlots D) (λ l. Unit {0}) (slots_of_tests D) r h;
  while_tests = λ a r h. shorter_kept (TestSlots D) (λ l. Unit {0}) (slots_of_tests D) r h;
  do_tests = λ a r h. shorter_kept (TestSlots D) (λ l. Unit {0}) (slots_of_tests D) r h;
  selectors = λ c r h. (selector_kept (SelectorSlots D) (λ l n s h. h) (λ l n s u h i. i) r h.0, h.1);
  nests = λ t u a o h j. round_kept (TestSlots D) (λ l. Unit {0}) (slots_of_tests D) t u o h j;
}

pub elses_stable : IsStable HasNoMadeElse
elses_stable = record {
  ifs = λ t a b a' b' e h m. e (h m);
  whiles = λ t a a' n h. tt;
  dos = λ t a a' n h. tt;
  fors = λ first t u a a' n h. tt;
  switches = λ s c d e h. tt;
  blocks = λ a a' h. tt;
  if_tests = λ a b r h m. h (made_shorter r m);
  while_tests = λ a r h. tt;
  do_tests = λ a r h. tt;
  selectors = λ c r h. tt;
  nests = λ t u a o h j m. refl;
}

pub exits_stable : IsStable BindsNoExit
exits_stable = record {
  ifs = λ t a b a' b' e h. tt;
  whiles = λ t a a' n h z. sym n.exits ∙ h (subst (λ x. 0 < x) (sym n.jumps) z);
  dos = λ t a a' n h z. sym n.exits ∙ h (subst (λ x. 0 < x) (sym n.jumps) z);
  fors = λ first t u a a' n h z. sym n.exits ∙ h (let e = n.jumps in omega (arith, z, e));
  switches = λ s c d e h z. sym e.breaks ∙ h (subst (λ x. 0 < x) (sym e.jumps) z);
  blocks = λ a a' h. tt;
  if_tests = λ a b r h. tt;
  while_tests = λ a r h. h;
  do_tests = λ a r h. h;
  selectors = λ c r h. h;
  nests = λ t u a o h j. tt;
}

-- ---- of switches

kind_kept : {s u : SelectorTree} → ShorterSelector s u → selector_kind s ≡ selector_kind u
kind_kept r = ap (λ e. option_map promoted (kind_of e)) (source_kept r)

pub kinds_stable : IsStable HasSelectorKind
kinds_stable = record {
  ifs = λ t a b a' b' e h. tt;
  whiles = λ t a a' n h. tt;
  dos = λ t a a' n h. tt;
  fors = λ first t u a a' n h. tt;
  switches = λ s c d e h. h;
  blocks = λ a a' h. tt;
  if_tests = λ a b r h. tt;
  while_tests = λ a r h. tt;
  do_tests = λ a r h. tt;
  selectors = λ c r h. subst (λ e. IsSome (kind_of e)) (source_kept r) h;
  nests = λ t u a o h j. tt;
}

pub entries_stable : IsStable HasEntries
entries_stable = record {
  ifs = λ t a b a' b' e h. tt;
  whiles = λ t a a' n h. tt;
  dos = λ t a a' n h. tt;
  fors = λ first t u a a' n h. tt;
  switches = λ s c d e h. (e.entries.entered h.0, subst (λ n. n ≤ 1) e.entries.default h.1);
  blocks = λ a a' h. tt;
  if_tests = λ a b r h. tt;
  while_tests = λ a r h. tt;
  do_tests = λ a r h. tt;
  selectors = λ c r h. h;
  nests = λ t u a o h j. tt;
}

pub cases_stable : IsStable HasCases
cases_stable = record {
  ifs = λ t a b a' b' e h. tt;
  whiles = λ t a a' n h. tt;
  dos = λ t a a' n h. tt;
  fors = λ first t u a a' n h. tt;
  switches = λ s c d e h. some_map (selector_kind s) (λ k. AreCases k c) (λ k. AreCases k d) (λ k z. alike_cases k c d e.entries.cases z) h;
  blocks = λ a a' h. tt;
  if_tests = λ a b r h. tt;
  while_tests = λ a r h. tt;
  do_tests = λ a r h. tt;
  selectors = λ c r h. subst (λ o. IfSome o (λ k. AreCases k c)) (kind_kept r) h;
  nests = λ t u a o h j. tt;
}

picks_of : {s u : SelectorTree} → ShorterSelector s u → IfSome (selector_kind s) (λ k. ArePicks k s) → IfSome (selector_kind u) (λ k. ArePicks k u)
picks_of {s = s} {u = u} r h =
    subst (λ o. IfSome o (λ k. ArePicks k u)) (kind_kept r) (some_map (selector_kind s) (λ k. ArePicks k s) (λ k. ArePicks k u)
    (λ k z. selector_kept (ArePicks k) (λ l n s h. h.1) (λ l n s u h i. (h.0, i)) r z) h)

pub picks_stable : IsStable HasPicks
picks_stable = record {
  ifs = λ t a b a' b' e h. tt;
  whiles = λ t a a' n h. tt;
  dos = λ t a a' n h. tt;
  fors = λ first t u a a' n h. tt;
  switches = λ s c d e h. h;
  blocks = λ a a' h. tt;
  if_tests = λ a b r h. tt;
  while_tests = λ a r h. tt;
  do_tests = λ a r h. tt;
  selectors = λ c r h. picks_of r h;
  nests = λ t u a o h j. tt;
}

-- ---- of functions that are not flat: they have no made tests

shorter_source : {A : Type 0} {t u : TestTree} → ShorterTest t u → IsSourceTest t → A
shorter_source (again_and m r) h = absurd h
shorter_source (again_or m r) h = absurd h
shorter_source (only_off m) h = absurd h
shorter_source (shorter_and l r) h = absurd h
shorter_source (shorter_or l r) h = absurd h

shorter_selects : {A : Type 0} {s u : SelectorTree} → ShorterSelector s u → IsSourceSelector s → A
shorter_selects (again_pick m n r) h = absurd h
shorter_selects (shorter_pick l n r) h = absurd h

off_source : {A : Type 0} (t : TestTree) → IsOff t → IsSourceTest t → A
off_source (Source e) o h = absurd o
off_source (On l) o h = absurd o
off_source (Off l) o h = absurd h
off_source (AndOff l t) o h = absurd h
off_source (OrOn l t) o h = absurd o

pub unguarded_stable : IsStable IsUnguarded
unguarded_stable = record {
  ifs = λ t a b a' b' e h. h;
  whiles = λ t a a' n h. h;
  dos = λ t a a' n h. h;
  fors = λ first t u a a' n h. tt;
  switches = λ s c d e h. h;
  blocks = λ a a' h. tt;
  if_tests = λ a b r h. shorter_source r h;
  while_tests = λ a r h. shorter_source r h;
  do_tests = λ a r h. shorter_source r h;
  selectors = λ c r h. shorter_selects r h;
  nests = λ t u a o h j. off_source t o h;
}
