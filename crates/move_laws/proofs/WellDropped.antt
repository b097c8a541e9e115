-- A well made body stays well made without a guard that nothing reads.
use Rattle.std.proofs.Common.{ℕ, ◌+◌, ◌≤◌, ◌<◌, Bool, true, false, cond, ◌==◌, ◌++◌, ◌≡◌, refl, ap, sym, ◌∙◌, subst, arith, eqb-true, true≢false}
use Rattle.c_tree.specs.TestTrees.{TestTree, Source, On, Off, AndOff, OrOn}
use Rattle.c_tree.specs.Trees.{Tree, Forest, Sections, NoSection, Section, If, While, Do, Arm, Leap, Land}
use Rattle.c_tree.specs.Everywhere.{Everywhere}
use Rattle.c_tree.specs.Labels.{land_of, lands, jump_of, jumps, TestLabels, GuardLabels}
use Rattle.c_tree.specs.Exits.{breaks, continues}
use Rattle.c_tree.specs.Cases.{selector_kind, all_cases, defaults, AllEntered, AreCases}
use Rattle.c_tree.specs.WellMade.{IsConverted, HasSelectorKind, HasEntries, HasCases, HasPicks, IsPlainFor, BindsNoExit, HasNoMadeElse, IsWellMade}
use Rattle.c_tree.proofs.WellMoved.{everywhere_both, alike_cases, some_map}
use Rattle.move_laws.specs.Drops.{dropped, dropped_sections, Stays, IsUnread}
use Rattle.move_laws.proofs.DroppedItems.{IsOther, Becomes, becomes, drop_breaks, drop_breaks_in, drop_continues, CountsJumps, drop_less, drop_less_in, drop_more}

-- ---- sections

entered_drop : (d : ℕ → Bool) (c : Sections) → AllEntered c → AllEntered (dropped_sections d c)
entered_drop d NoSection h = tt
entered_drop d (Section cases default a ends c) h = (h.0, entered_drop d c h.1)

defaults_drop : (d : ℕ → Bool) (c : Sections) → defaults (dropped_sections d c) ≡ defaults c
defaults_drop d NoSection = refl
defaults_drop d (Section cases default a ends c) = ap (λ n. cond default 1 0 + n) (defaults_drop d c)

pub cases_drop : (d : ℕ → Bool) (c : Sections) → all_cases (dropped_sections d c) ≡ all_cases c
cases_drop d NoSection = refl
cases_drop d (Section cases default a ends c) = ap (λ z. cases ++ z) (cases_drop d c)

-- ---- labels

tests_kept : (d : ℕ → Bool) (A B : ℕ → Type 0) → ((l : ℕ) → d l ≡ false → A l → B l) → (t : TestTree) → TestLabels A t → TestLabels (Stays d) t → TestLabels B t
tests_kept d A B k (Source e) h s = tt
tests_kept d A B k (On l) h s = k l s h
tests_kept d A B k (Off l) h s = k l s h
tests_kept d A B k (AndOff l t) h s = (k l s.0 h.0, tests_kept d A B k t h.1 s.1)
tests_kept d A B k (OrOn l t) h s = (k l s.0 h.0, tests_kept d A B k t h.1 s.1)

counts_lands : (d : ℕ → Bool) (l : ℕ) → CountsJumps d (land_of l)
counts_lands d l = record {
  ifs = λ t a b. refl;
  whiles = λ t a. refl;
  dos = λ t a. refl;
  fors = λ first t u a. refl;
  switches = λ s c. refl;
  blocks = λ a. refl;
  arms = λ m e. refl;
  evaluates = λ e. refl;
}

counts_jumps : (d : ℕ → Bool) → CountsJumps d jump_of
counts_jumps d = record {
  ifs = λ t a b. refl;
  whiles = λ t a. refl;
  dos = λ t a. refl;
  fors = λ first t u a. refl;
  switches = λ s c. refl;
  blocks = λ a. refl;
  arms = λ m e. refl;
  evaluates = λ e. refl;
}

other_land : (d : ℕ → Bool) (l m : ℕ) (b : Bool) → (m == l) ≡ b → d l ≡ false → d m ≡ true → land_of l (Land m) ≡ 0
other_land d l m true e f g = absurd (true≢false (sym g ∙ ap d (eqb-true m l e) ∙ f))
other_land d l m false e f g = ap (λ b. cond b 1 0) e

lands_same : (d : ℕ → Bool) (a : Forest) (l : ℕ) → d l ≡ false → lands l (dropped d a) ≡ lands l a
lands_same d a l e =
    let p = drop_less d (land_of l) (counts_lands d l) a in
    let q = drop_more d (land_of l) (counts_lands d l) (λ m g. other_land d l m (m == l) refl e g) a in
    omega (arith, p, q)

module _ (d : ℕ → Bool) (b : Forest) where
  abbrev Landed : Tree → Type 0
  Landed x = GuardLabels (λ l. lands l b ≡ 1) x × IsUnread d x

  abbrev LandedThen : Tree → Type 0
  LandedThen x = GuardLabels (λ l. lands l (dropped d b) ≡ 1) x

  still : (l : ℕ) → d l ≡ false → lands l b ≡ 1 → lands l (dropped d b) ≡ 1
  still l e h = lands_same d b l e ∙ h

  other_landed : (x : Tree) → IsOther x → Landed x → LandedThen x
  other_landed (Leap l) o h = still l h.1 h.0
  other_landed (If t a c) o h = absurd o
  other_landed (While t a) o h = absurd o
  other_landed (Do a t) o h = absurd o
  other_landed (Arm l e) o h = absurd o
  other_landed _ o h = tt

  landed_becomes : Becomes d Landed LandedThen
  landed_becomes = record {
    arm = λ l e f h. still l f h.0;
    arm_if = λ l e f h. tt;
    land = λ l f h. tt;
    ifs = λ t a c h. tests_kept d (λ l. lands l b ≡ 1) (λ l. lands l (dropped d b) ≡ 1) still t h.0 h.1;
    whiles = λ t a h. tests_kept d (λ l. lands l b ≡ 1) (λ l. lands l (dropped d b) ≡ 1) still t h.0 h.1;
    dos = λ t a h. tests_kept d (λ l. lands l b ≡ 1) (λ l. lands l (dropped d b) ≡ 1) still t h.0 h.1;
    fors = λ first t u a h. tt;
    switches = λ s c h. tt;
    blocks = λ a h. tt;
    others = other_landed;
  }

-- ---- the other facts of a well made body

module _ (d : ℕ → Bool) where
  converted_becomes : Becomes d IsConverted IsConverted
  converted_becomes = record {
    arm = λ l e f h. h;
    arm_if = λ l e f h. tt;
    land = λ l f h. h;
    ifs = λ t a b h. tt;
    whiles = λ t a h. tt;
    dos = λ t a h. tt;
    fors = λ first t u a h. tt;
    switches = λ s c h. tt;
    blocks = λ a h. absurd h;
    others = λ x o h. h;
  }

  selectors_become : Becomes d HasSelectorKind HasSelectorKind
  selectors_become = record {
    arm = λ l e f h. tt;
    arm_if = λ l e f h. tt;
    land = λ l f h. tt;
    ifs = λ t a b h. tt;
    whiles = λ t a h. tt;
    dos = λ t a h. tt;
    fors = λ first t u a h. tt;
    switches = λ s c h. h;
    blocks = λ a h. tt;
    others = λ x o h. h;
  }

  entries_become : Becomes d HasEntries HasEntries
  entries_become = record {
    arm = λ l e f h. tt;
    arm_if = λ l e f h. tt;
    land = λ l f h. tt;
    ifs = λ t a b h. tt;
    whiles = λ t a h. tt;
    dos = λ t a h. tt;
    fors = λ first t u a h. tt;
    switches = λ s c h. (entered_drop d c h.0, subst (λ n. n ≤ 1) (sym (defaults_drop d c)) h.1);
    blocks = λ a h. tt;
    others = λ x o h. h;
  }

  cases_become : Becomes d HasCases HasCases
  cases_become = record {
    arm = λ l e f h. tt;
    arm_if = λ l e f h. tt;
    land = λ l f h. tt;
    ifs = λ t a b h. tt;
    whiles = λ t a h. tt;
    dos = λ t a h. tt;
    fors = λ first t u a h. tt;
    switches = λ s c h. some_map (selector_kind s) (λ k. AreCases k c) (λ k. AreCases k (dropped_sections d c))
        (λ k z. alike_cases k c (dropped_sections d c) (sym (cases_drop d c)) z) h;
    blocks = λ a h. tt;
    others = λ x o h. h;
  }

  picks_become : Becomes d HasPicks HasPicks
  picks_become = record {
    arm = λ l e f h. tt;
    arm_if = λ l e f h. tt;
    land = λ l f h. tt;
    ifs = λ t a b h. tt;
    whiles = λ t a h. tt;
    dos = λ t a h. tt;
    fors = λ first t u a h. tt;
    switches = λ s c h. h;
    blocks = λ a h. tt;
    others = λ x o h. h;
  }

  loops_become : Becomes d IsPlainFor IsPlainFor
  loops_become = record {
    arm = λ l e f h. tt;
    arm_if = λ l e f h. tt;
    land = λ l f h. tt;
    ifs = λ t a b h. tt;
    whiles = λ t a h. tt;
    dos = λ t a h. tt;
    fors = λ first t u a h. (ap (dropped d) h.0, let p = drop_less d jump_of (counts_jumps d) a in let q = h.1 in omega (arith, p, q));
    switches = λ s c h. tt;
    blocks = λ a h. tt;
    others = λ x o h. h;
  }

  exits_become : Becomes d BindsNoExit BindsNoExit
  exits_become = record {
    arm = λ l e f h. tt;
    arm_if = λ l e f h. tt;
    land = λ l f h. tt;
    ifs = λ t a b h. tt;
    whiles = λ t a h z. unbound a h (fewer a z);
    dos = λ t a h z. unbound a h (fewer a z);
    fors = λ first t u a h z. let p = drop_less d jump_of (counts_jumps d) first in let q = drop_less d jump_of (counts_jumps d) a in let r =
        drop_breaks d a in
        let s = drop_continues d a in let e = h (omega (arith, z, p, q)) in omega (arith, r, s, e);
    switches = λ s c h z. let p = drop_less_in d jump_of (counts_jumps d) c in drop_breaks_in d c ∙ h (omega (arith, z, p));
    blocks = λ a h. tt;
    others = λ x o h. h;
  }
    where
      fewer : (a : Forest) → 0 < jumps (dropped d a) → 0 < jumps a
      fewer a z = let p = drop_less d jump_of (counts_jumps d) a in omega (arith, z, p)

      unbound : (a : Forest) → (0 < jumps a → breaks a + continues a ≡ 0) → 0 < jumps a → breaks (dropped d a) + continues (dropped d a) ≡ 0
      unbound a h z = let e = h z in let r = drop_breaks d a in let s = drop_continues d a in omega (arith, e, r, s)

  elses_become : Becomes d HasNoMadeElse HasNoMadeElse
  elses_become = record {
    arm = λ l e f h. tt;
    arm_if = λ l e f h. tt;
    land = λ l f h. tt;
    ifs = λ t a b h m. ap (dropped d) (h m);
    whiles = λ t a h. tt;
    dos = λ t a h. tt;
    fors = λ first t u a h. tt;
    switches = λ s c h. tt;
    blocks = λ a h. tt;
    others = λ x o h. h;
  }

pub well_dropped : (d : ℕ → Bool) (a : Forest) → IsWellMade a → Everywhere (IsUnread d) a → IsWellMade (dropped d a)
well_dropped d a w u = record {
  converted = becomes d IsConverted IsConverted (converted_becomes d) a w.converted;
  landed = becomes d (Landed d a) (LandedThen d a) (landed_becomes d a) a (everywhere_both (GuardLabels (λ l. lands l a ≡ 1)) (IsUnread d) a w.landed u);
  selectors = becomes d HasSelectorKind HasSelectorKind (selectors_become d) a w.selectors;
  entries = becomes d HasEntries HasEntries (entries_become d) a w.entries;
  cases = becomes d HasCases HasCases (cases_become d) a w.cases;
  picks = becomes d HasPicks HasPicks (picks_become d) a w.picks;
  loops = becomes d IsPlainFor IsPlainFor (loops_become d) a w.loops;
  bound = let r = drop_breaks d a in let s = drop_continues d a in let e = w.bound in omega (arith, r, s, e);
  exits = becomes d BindsNoExit BindsNoExit (exits_become d) a w.exits;
  tests = becomes d HasNoMadeElse HasNoMadeElse (elses_become d) a w.tests;
}
