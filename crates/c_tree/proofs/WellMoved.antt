-- Each rule keeps a body well made.
use Rattle.std.proofs.Common.{◌≡◌, ◌≢◌, ℕ, ◌≤◌, ◌<◌, ℤ, pos, Bool, true, false, cond, List, [], ◌∷◌, length, map, Option, Some, None, option_map, IsSome, refl, sym, ap, subst, ◌∙◌, arith}
use Rattle.std.specs.Prelude.{IfSome, All, AllPairs}
use Rattle.std.specs.Option.{IsSomeAnd}
use Rattle.std.proofs.lemmas.List.{length-map}
use Rattle.std.proofs.lemmas.Int.{ints}
use Rattle.c_types.specs.declared.kinds.IntKind.{IntKind}
use Rattle.c_types.specs.declared.kinds.IntKind.TheVariants.{Char, UChar, Int, UInt, Long, ULong}
use Rattle.c_types.specs.Numbers as Numbers
use Rattle.c_types.specs.Numbers.{promoted, converted}
use Rattle.c_types.proofs.Residues.{converted-in_range}
use Rattle.c_tree.specs.ExpressionTrees.{ExpressionTree}
use Rattle.c_tree.specs.TestTrees.{TestTree, Source, On, Off, AndOff, OrOn, SelectorTree, Pick}
use Rattle.c_tree.specs.Trees.{Tree, Forest, Nil, Then, Sections, NoSection, Section, Evaluate, Return, If, While, Do, For, Switch, Block, Local, Break, Continue, Goto, Mark, Arm, Leap, Land, Arrival, Note, join}
use Rattle.c_tree.specs.Everywhere.{total_of, total_in, Everywhere, EverywhereOf, EverywhereIn}
use Rattle.c_tree.specs.Labels.{land_of, lands, jumps, TestLabels, GuardLabels}
use Rattle.c_tree.specs.Constants.{kind_of, IsConstant, constant_value}
use Rattle.c_tree.specs.Cases.{selector_source, selector_kind, all_cases, cases_at, case_number, case_numbers, AreCases, ArePicks, IsFree, IsNumberFor}
use Rattle.c_tree.specs.Changed.{one, Changed, ChangedSections, here, within, in_then, in_else, in_while, in_do, in_for, in_switch, in_block, in_section, in_later}
use Rattle.c_tree.specs.Moves as M
use Rattle.c_tree.specs.Moves.{Moved, guarded, later_guarded, SectionsLeft, left_here, left_later, SectionsEntered, entered_here, entered_later}
use Rattle.c_tree.specs.WellMade.{IsConverted, HasSelectorKind, HasEntries, HasCases, HasPicks, IsPlainFor, HasNoMadeElse, IsWellMade}
use Rattle.c_tree.proofs.KeptLemmas.{total-join, IsKept, changed_kept}
use Rattle.c_tree.proofs.ExitsKept.{changed_exits}
use Rattle.c_tree.proofs.NumbersBelow.{count_below}

-- the Lands stay

lands-guarded : (l m : ℕ) (a : Forest) → lands l (guarded m a) ≡ lands l a
lands-guarded l m Nil = refl
lands-guarded l m (Then x a) = omega arith

lands-later : (l m : ℕ) (c : Sections) → total_in (land_of l) (later_guarded m c) ≡ total_in (land_of l) c
lands-later l m NoSection = refl
lands-later l m (Section cases default a true c) = let h = lands-guarded l m a in omega arith
lands-later l m (Section cases default a false c) = let h = lands-guarded l m a in let k = lands-later l m c in omega arith

lands-chosen : (l m : ℕ) (ends : Bool) (c : Sections) → total_in (land_of l) (cond ends c (later_guarded m c)) ≡ total_in (land_of l) c
lands-chosen l m true c = refl
lands-chosen l m false c = lands-later l m c

lands-left : (l m : ℕ) (a b : Forest) → lands l (join a (guarded m b)) ≡ lands l (join a (Then (Leap m) b))
lands-left l m a b = let p = total-join (land_of l) a (guarded m b) in let q = total-join (land_of l) a (Then (Leap m) b) in let r =
    lands-guarded l m
    b in omega arith

lands-sections_left : (l m : ℕ) {c d : Sections} → SectionsLeft m c d → total_in (land_of l) d ≡ total_in (land_of l) c
lands-sections_left l m (left_here cases default ends a b c) = let p = lands-left l m a b in let q = lands-chosen l m ends c in omega arith
lands-sections_left l m (left_later cases default ends a r) = let p = lands-sections_left l m r in omega arith

pub lands-entered : (l m k : ℕ) {c d : Sections} → SectionsEntered m k c d → total_in (land_of l) d ≡ total_in (land_of l) c
lands-entered l m _ (entered_here cases default ends a c z) = omega arith
lands-entered l m _ (entered_later cases default ends a r) = let p = lands-entered l m _ r in omega arith

entering : (l m : ℕ) (t : Forest) (x y : Tree) → total_of (land_of l) y ≡ total_of (land_of l) x →
    lands l (join (guarded m t) (one y)) ≡ lands l (Then (Leap m) (join t (one x)))
entering l m t x y e = let p = total-join (land_of l) t (one x) in let q = total-join (land_of l) (guarded m t) (one y) in let r =
    lands-guarded l m
    t in omega arith

moved_lands : (l : ℕ) {xs ys : Forest} → Moved xs ys → lands l ys ≡ lands l xs
moved_lands l (M.join_after m t) = entering l m t (Land m) (Land m) refl
moved_lands l (M.join_before m t) = let p = total-join (land_of l) t (one (Leap m)) in omega arith
moved_lands l (M.lifted m x t h) = let p = total-join (land_of l) t (one (Leap m)) in omega arith
moved_lands l (M.out_then m t a b c) = let p = lands-left l m a b in omega arith
moved_lands l (M.out_else m t a b c) = let p = lands-left l m a b in omega arith
moved_lands l (M.out_while m t a b) = let p = lands-left l m a b in omega arith
moved_lands l (M.out_do m t a b) = let p = lands-left l m a b in omega arith
moved_lands l (M.out_switch m s r) = let p = lands-sections_left l m r in omega arith
moved_lands l (M.in_then m t u a b h) = entering l m t (If u a b) (If (OrOn m u) (Then (Leap m) a) b) (omega arith)
moved_lands l (M.in_else m t u a b h) = entering l m t (If u a b) (If (AndOff m u) a (Then (Leap m) b)) (omega arith)
moved_lands l (M.in_while m t u a h) = entering l m t (While u a) (While (OrOn m u) (Then (Leap m) a)) (omega arith)
moved_lands l (M.in_do m t u a h) = entering l m t (Do a u) (Do (Then (Leap m) a) u) (omega arith)
moved_lands l (M.in_switch m t s k n {c = c} {d = d} r p) = entering l m t (Switch s c) (Switch (Pick m n s) d) (let q = lands-entered l m k r in omega arith)

mutual
  pub changed_lands : (l : ℕ) {xs ys : Forest} → Changed Moved xs ys → lands l ys ≡ lands l xs
  changed_lands l (here r) = moved_lands l r
  changed_lands l (within a b {xs = xs} {ys = ys} c) =
      let h = changed_lands l c in
      let p = total-join (land_of l) a (join xs b) in let q = total-join (land_of l) xs b in let p' = total-join (land_of l) a (join ys b) in let q' =
      total-join
      (land_of l) ys b in omega arith
  changed_lands l (in_then t b c) = let h = changed_lands l c in omega arith
  changed_lands l (in_else t a c) = let h = changed_lands l c in omega arith
  changed_lands l (in_while t c) = let h = changed_lands l c in omega arith
  changed_lands l (in_do t c) = let h = changed_lands l c in omega arith
  changed_lands l (in_for f t u c) = let h = changed_lands l c in omega arith
  changed_lands l (in_switch s c) = let h = sections_lands l c in omega arith
  changed_lands l (in_block c) = let h = changed_lands l c in omega arith

  sections_lands : (l : ℕ) {c d : Sections} → ChangedSections Moved c d → total_in (land_of l) d ≡ total_in (land_of l) c
  sections_lands l (in_section cases default ends c r) = let h = changed_lands l r in omega arith
  sections_lands l (in_later cases default ends a r) = let h = sections_lands l r in omega arith

-- facts of one item

converted_kept : IsKept IsConverted
converted_kept = record {
  made_if = λ m a p. tt;
  made_do = λ m a p. tt;
  then = λ t a b c h. tt;
  else = λ t a b c j h. tt;
  whiles = λ t a b h. tt;
  dos = λ t a b h. tt;
  fors = λ f a b t u j h. tt;
  switches = λ s c d e h. tt;
  blocks = λ a b h. h;
  or_if = λ m t a b p h. tt;
  and_if = λ m t a b p h. tt;
  or_while = λ m t a p h. tt;
  and_while = λ m t a p h. tt;
  and_do = λ m t a p h. tt;
  picks = λ m k n s c p q h. tt;
}

labels_kept : (D : ℕ → Type 0) → IsKept (GuardLabels D)
labels_kept D = record {
  made_if = λ m a p. p;
  made_do = λ m a p. p;
  then = λ t a b c h. h;
  else = λ t a b c j h. h;
  whiles = λ t a b h. h;
  dos = λ t a b h. h;
  fors = λ f a b t u j h. tt;
  switches = λ s c d e h. tt;
  blocks = λ a b h. tt;
  or_if = λ m t a b p h. (p, h);
  and_if = λ m t a b p h. (p, h);
  or_while = λ m t a p h. (p, h);
  and_while = λ m t a p h. (p, h);
  and_do = λ m t a p h. (p, h);
  picks = λ m k n s c p q h. tt;
}

selectors_kept : IsKept HasSelectorKind
selectors_kept = record {
  made_if = λ m a p. tt;
  made_do = λ m a p. tt;
  then = λ t a b c h. tt;
  else = λ t a b c j h. tt;
  whiles = λ t a b h. tt;
  dos = λ t a b h. tt;
  fors = λ f a b t u j h. tt;
  switches = λ s c d e h. h;
  blocks = λ a b h. tt;
  or_if = λ m t a b p h. tt;
  and_if = λ m t a b p h. tt;
  or_while = λ m t a p h. tt;
  and_while = λ m t a p h. tt;
  and_do = λ m t a p h. tt;
  picks = λ m k n s c p q h. h;
}

entries_kept : IsKept HasEntries
entries_kept = record {
  made_if = λ m a p. tt;
  made_do = λ m a p. tt;
  then = λ t a b c h. tt;
  else = λ t a b c j h. tt;
  whiles = λ t a b h. tt;
  dos = λ t a b h. tt;
  fors = λ f a b t u j h. tt;
  switches = λ s c d e h. (e.entered h.0, subst (λ n. n ≤ 1) e.default h.1);
  blocks = λ a b h. tt;
  or_if = λ m t a b p h. tt;
  and_if = λ m t a b p h. tt;
  or_while = λ m t a p h. tt;
  and_while = λ m t a p h. tt;
  and_do = λ m t a p h. tt;
  picks = λ m k n s c p q h. h;
}

loops_kept : IsKept IsPlainFor
loops_kept = record {
  made_if = λ m a p. tt;
  made_do = λ m a p. tt;
  then = λ t a b c h. tt;
  else = λ t a b c j h. tt;
  whiles = λ t a b h. tt;
  dos = λ t a b h. tt;
  fors = λ f a b t u j h. absurd (let e = h.1 in omega arith);
  switches = λ s c d e h. tt;
  blocks = λ a b h. tt;
  or_if = λ m t a b p h. tt;
  and_if = λ m t a b p h. tt;
  or_while = λ m t a p h. tt;
  and_while = λ m t a p h. tt;
  and_do = λ m t a p h. tt;
  picks = λ m k n s c p q h. tt;
}

no_jumps : (b : Forest) → 0 < jumps b → b ≡ Nil → ⊥
no_jumps b j e = let h = ap jumps e in omega arith

tests_kept : IsKept HasNoMadeElse
tests_kept = record {
  made_if = λ m a p z. refl;
  made_do = λ m a p. tt;
  then = λ t a b c h. h;
  else = λ t a b c j h z. absurd (no_jumps b j (h z));
  whiles = λ t a b h. tt;
  dos = λ t a b h. tt;
  fors = λ f a b t u j h. tt;
  switches = λ s c d e h. tt;
  blocks = λ a b h. tt;
  or_if = λ m t a b p h. h;
  and_if = λ m t a b p h. h;
  or_while = λ m t a p h. tt;
  and_while = λ m t a p h. tt;
  and_do = λ m t a p h. tt;
  picks = λ m k n s c p q h. tt;
}

free_below : (k : IntKind) (c : Sections) (n : ℤ) (f : IsFree k c n) → f.count ≤ length (all_cases c)
free_below k c n f =
    subst (λ z. f.count ≤ z) (length-map (all_cases c) (case_number k)) (count_below f.count (case_numbers k c) f.least)

-- the number of a Pick is one of the promoted kind

in_promoted : (j : IntKind) (m : ℕ) → m < 2147483648 → Numbers.IsInRange (promoted j) (pos m)
in_promoted Char m h = record { from_least = grind (arith, ints); to_greatest = grind (arith, ints) }
in_promoted UChar m h = record { from_least = grind (arith, ints); to_greatest = grind (arith, ints) }
in_promoted Int m h = record { from_least = grind (arith, ints); to_greatest = grind (arith, ints) }
in_promoted UInt m h = record { from_least = grind (arith, ints); to_greatest = grind (arith, ints) }
in_promoted Long m h = record { from_least = grind (arith, ints); to_greatest = grind (arith, ints) }
in_promoted ULong m h = record { from_least = grind (arith, ints); to_greatest = grind (arith, ints) }

converted_in : (k : IntKind) (o : Option ℤ) (n : ℤ) → option_map (converted k) o ≡ Some n → Numbers.IsInRange k n
converted_in k None n e = cc
converted_in k (Some v) n e = let f : converted k v ≡ n = cc in subst (Numbers.IsInRange k) f (converted-in_range k v)

number_in : (j : IntKind) (c : Sections) (cases : List ExpressionTree) (n : ℤ) → AreCases (promoted j) c → IsNumberFor (promoted j) c cases n →
    Numbers.IsInRange (promoted j) n
number_in j c [] n h f =
    let b = free_below (promoted j) c n f in
    let l = h.few in
    subst (Numbers.IsInRange (promoted j)) (sym f.number) (in_promoted j f.count (omega arith))
number_in j c (e ∷ es) n h f = converted_in (promoted j) (constant_value e) n f

pub some_map : {A : Type 0} (o : Option A) (P Q : A → Type 0) → ((x : A) → P x → Q x) → IfSome o P → IfSome o Q
some_map None P Q f h = h
some_map (Some x) P Q f h = f x h

pick_in : (o : Option IntKind) (k : ℕ) (n : ℤ) (s : SelectorTree) (c : Sections) → IfSome (option_map promoted o) (λ j. AreCases j c) →
    IfSome (option_map promoted o) (λ j. ArePicks j s)
    → IsSomeAnd (option_map promoted o) (λ j. IsNumberFor j c (cases_at k c) n) → IfSome (option_map promoted o) (λ j. Numbers.IsInRange j n × ArePicks j s)
pick_in None k n s c h p q = tt
pick_in (Some j) k n s c h p q = (number_in j c (cases_at k c) n h q, p)

pub alike_cases : (k : IntKind) (c d : Sections) → all_cases c ≡ all_cases d → AreCases k c → AreCases k d
alike_cases k c d e h = record {
  constant = subst (All IsConstant) e h.constant;
  untrapped = subst (All (λ x. IsSome (constant_value x))) e h.untrapped;
  distinct = subst (λ z. AllPairs (λ m n. m ≢ n) (map (case_number k) z)) e h.distinct;
  few = subst (λ z. length z < 2147483648) e h.few;
}

abbrev HasNumbers : Tree → Type 0
HasNumbers x = HasCases x × HasPicks x

numbers_kept : IsKept HasNumbers
numbers_kept = record {
  made_if = λ m a p. (tt, tt);
  made_do = λ m a p. (tt, tt);
  then = λ t a b c h. (tt, tt);
  else = λ t a b c j h. (tt, tt);
  whiles = λ t a b h. (tt, tt);
  dos = λ t a b h. (tt, tt);
  fors = λ f a b t u j h. (tt, tt);
  switches = λ s c d e h. (some_map (selector_kind s) (λ k. AreCases k c) (λ k. AreCases k d) (λ k z. alike_cases k c d e.cases z) h.0, h.1);
  blocks = λ a b h. (tt, tt);
  or_if = λ m t a b p h. (tt, tt);
  and_if = λ m t a b p h. (tt, tt);
  or_while = λ m t a p h. (tt, tt);
  and_while = λ m t a p h. (tt, tt);
  and_do = λ m t a p h. (tt, tt);
  picks = λ m k n s c p q h. (h.0, pick_in (kind_of (selector_source s)) k n s c h.0 h.1 q);
}

-- from one fact everywhere to another

module _ (P Q : Tree → Type 0) (f : (x : Tree) → P x → Q x) where
  mutual
    pub everywhere_map : (xs : Forest) → Everywhere P xs → Everywhere Q xs
    everywhere_map Nil h = tt
    everywhere_map (Then x xs) h = (map_of x h.0, everywhere_map xs h.1)

    map_of : (x : Tree) → EverywhereOf P x → EverywhereOf Q x
    map_of (If t a b) h = (f (If t a b) h.0, everywhere_map a h.1, everywhere_map b h.2)
    map_of (While t a) h = (f (While t a) h.0, everywhere_map a h.1)
    map_of (Do a t) h = (f (Do a t) h.0, everywhere_map a h.1)
    map_of (For g t u a) h = (f (For g t u a) h.0, everywhere_map g h.1, everywhere_map a h.2)
    map_of (Switch s c) h = (f (Switch s c) h.0, map_in c h.1)
    map_of (Block a) h = (f (Block a) h.0, everywhere_map a h.1)
    map_of (Evaluate e) h = f (Evaluate e) h
    map_of (Return e) h = f (Return e) h
    map_of (Local x es) h = f (Local x es) h
    map_of Break h = f Break h
    map_of Continue h = f Continue h
    map_of (Goto l) h = f (Goto l) h
    map_of (Mark l) h = f (Mark l) h
    map_of (Arm l e) h = f (Arm l e) h
    map_of (Leap l) h = f (Leap l) h
    map_of (Land l) h = f (Land l) h
    map_of (Arrival e) h = f (Arrival e) h
    map_of (Note bs) h = f (Note bs) h

    map_in : (c : Sections) → EverywhereIn P c → EverywhereIn Q c
    map_in NoSection h = tt
    map_in (Section cases default a ends c) h = (everywhere_map a h.0, map_in c h.1)

module _ (P Q : Tree → Type 0) where
  mutual
    pub everywhere_both : (xs : Forest) → Everywhere P xs → Everywhere Q xs → Everywhere (λ x. P x × Q x) xs
    everywhere_both Nil h k = tt
    everywhere_both (Then x xs) h k = (both_of x h.0 k.0, everywhere_both xs h.1 k.1)

    both_of : (x : Tree) → EverywhereOf P x → EverywhereOf Q x → EverywhereOf (λ x. P x × Q x) x
    both_of (If t a b) h k = ((h.0, k.0), everywhere_both a h.1 k.1, everywhere_both b h.2 k.2)
    both_of (While t a) h k = ((h.0, k.0), everywhere_both a h.1 k.1)
    both_of (Do a t) h k = ((h.0, k.0), everywhere_both a h.1 k.1)
    both_of (For g t u a) h k = ((h.0, k.0), everywhere_both g h.1 k.1, everywhere_both a h.2 k.2)
    both_of (Switch s c) h k = ((h.0, k.0), both_in c h.1 k.1)
    both_of (Block a) h k = ((h.0, k.0), everywhere_both a h.1 k.1)
    both_of _ h k = (h, k)

    both_in : (c : Sections) → EverywhereIn P c → EverywhereIn Q c → EverywhereIn (λ x. P x × Q x) c
    both_in NoSection h k = tt
    both_in (Section cases default a ends c) h k = (everywhere_both a h.0 k.0, both_in c h.1 k.1)

test_labels : (D E : ℕ → Type 0) → ((l : ℕ) → D l → E l) → (t : TestTree) → TestLabels D t → TestLabels E t
test_labels D E f (Source e) h = tt
test_labels D E f (On l) h = f l h
test_labels D E f (Off l) h = f l h
test_labels D E f (AndOff l t) h = (f l h.0, test_labels D E f t h.1)
test_labels D E f (OrOn l t) h = (f l h.0, test_labels D E f t h.1)

pub item_labels : (D E : ℕ → Type 0) → ((l : ℕ) → D l → E l) → (x : Tree) → GuardLabels D x → GuardLabels E x
item_labels D E f (Arm l e) h = f l h
item_labels D E f (Leap l) h = f l h
item_labels D E f (If t a b) h = test_labels D E f t h
item_labels D E f (While t a) h = test_labels D E f t h
item_labels D E f (Do a t) h = test_labels D E f t h
item_labels D E f _ h = tt

-- a body that a rule changed in one place
pub well_moved : (xs ys : Forest) → Changed Moved xs ys → IsWellMade xs → IsWellMade ys
well_moved xs ys c w =
    let e = changed_exits c w.bound w.exits in
    let n = changed_kept HasNumbers numbers_kept c (everywhere_both HasCases HasPicks xs w.cases w.picks) in
    record {
      converted = changed_kept IsConverted converted_kept c w.converted;
      landed =
          everywhere_map (GuardLabels (λ l. lands l xs ≡ 1)) (GuardLabels (λ l. lands l ys ≡ 1))
          (item_labels (λ l. lands l xs ≡ 1) (λ l. lands l ys ≡ 1) (λ l h. changed_lands l c ∙ h)) ys
          (changed_kept (GuardLabels (λ l. lands l xs ≡ 1)) (labels_kept (λ l. lands l xs ≡ 1)) c w.landed);
      selectors = changed_kept HasSelectorKind selectors_kept c w.selectors;
      entries = changed_kept HasEntries entries_kept c w.entries;
      cases = everywhere_map HasNumbers HasCases (λ x h. h.0) ys n;
      picks = everywhere_map HasNumbers HasPicks (λ x h. h.1) ys n;
      loops = changed_kept IsPlainFor loops_kept c w.loops;
      bound = e.out;
      exits = e.inside;
      tests = changed_kept HasNoMadeElse tests_kept c w.tests;
    }
