-- A steady program stays steady, and behaves the same, where a guard that nothing reads goes from one body.
use Rattle.std.proofs.Common.{◌≡◌, ℕ, ◌<◌, length, Bool, false, eqb, List, Option, Some, None, option_map, refl, sym, ap, subst, ◌∙◌}
use Rattle.std.specs.Option.{option_map_or}
use Rattle.c_tree.specs.declared.tree.Item.{Item}
use Rattle.c_tree.specs.declared.tree.Function.{Function}
use Rattle.c_tree.specs.declared.tree.Program.{Program}
use Rattle.c_tree.specs.TestTrees.{TestTree, Source, On, Off, AndOff, OrOn, SelectorTree, Selects, Pick}
use Rattle.c_tree.specs.Trees.{Tree, Forest, Nil, Then, Sections, NoSection, Section, If, While, Do, For, Switch, Block, Goto, Arm, Leap, Land, join, trees_of}
use Rattle.c_tree.specs.Everywhere.{Everywhere, EverywhereOf, EverywhereIn}
use Rattle.c_tree.specs.Slots.{CaseSlots, ItemSlots}
use Rattle.c_tree.specs.Labels.{TestLabels, SelectorLabels, ItemLabels}
use Rattle.c_tree.specs.InRange.{body_of, IsUnguarded, IsInRange, IsTopInRange}
use Rattle.c_tree.specs.WellMade.{IsWellMade}
use Rattle.jump_meaning.specs.Code.{FunctionTree, function_tree, items_of, code_of}
use Rattle.jump_meaning.specs.Runs.{BehaveTheSame}
use Rattle.jump_meaning.specs.Steady.{IsUnjumping, IsUnarmed, IsMadeWell, IsTopMadeWell, IsSteady}
use Rattle.core_laws.proofs.Made.{placed}
use Rattle.core_laws.proofs.Programs.{made_bodies}
use Rattle.move_laws.specs.Bodies.{with_body, OneBodyChanged}
use Rattle.move_laws.proofs.NamedFunctions.{named, globals_same, cells_same}
use Rattle.move_laws.proofs.ProgramsMoved.{all_kept}
use Rattle.move_laws.specs.Drops.{dropped, dropped_item, dropped_sections, Stays, IsUnread}
use Rattle.move_laws.specs.GuardDropLaws.{DropsGuard, UnreadLaws}
use Rattle.move_laws.proofs.Dropped.{IsDropped}
use Rattle.move_laws.proofs.DroppedRuns.{dropped_steady}
use Rattle.move_laws.proofs.DroppedItems.{Becomes, becomes}
use Rattle.move_laws.proofs.WellDropped.{well_dropped}

-- ---- no guard goes

abbrev none : ℕ → Bool
none l = false

mutual
  dropped_none : (a : Forest) → dropped none a ≡ a
  dropped_none Nil = refl
  dropped_none (Then x a) = ap (λ z. join z (dropped none a)) (dropped_none_of x) ∙ ap (Then x) (dropped_none a)

  dropped_none_of : (x : Tree) → dropped_item none x ≡ Then x Nil
  dropped_none_of (If t a b) = ap (λ z. Then (If t z (dropped none b)) Nil) (dropped_none a) ∙ ap (λ z. Then (If t a z) Nil) (dropped_none b)
  dropped_none_of (While t a) = ap (λ z. Then (While t z) Nil) (dropped_none a)
  dropped_none_of (Do a t) = ap (λ z. Then (Do z t) Nil) (dropped_none a)
  dropped_none_of (For first t u a) = ap (λ z. Then (For z t u (dropped none a)) Nil) (dropped_none first) ∙
      ap (λ z. Then (For first t u z) Nil) (dropped_none a)
  dropped_none_of (Switch s c) = ap (λ z. Then (Switch s z) Nil) (dropped_none_in c)
  dropped_none_of (Block a) = ap (λ z. Then (Block z) Nil) (dropped_none a)
  dropped_none_of (Arm l None) = refl
  dropped_none_of (Arm l (Some e)) = refl
  dropped_none_of (Land l) = refl
  dropped_none_of _ = refl

  dropped_none_in : (c : Sections) → dropped_sections none c ≡ c
  dropped_none_in NoSection = refl
  dropped_none_in (Section cases default a ends c) = ap (λ z. Section cases default z ends (dropped_sections none c)) (dropped_none a) ∙
      ap (λ z. Section cases default a ends z) (dropped_none_in c)

test_unread : (t : TestTree) → TestLabels (Stays none) t
test_unread (Source e) = tt
test_unread (On l) = refl
test_unread (Off l) = refl
test_unread (AndOff l t) = (refl, test_unread t)
test_unread (OrOn l t) = (refl, test_unread t)

selector_unread : (s : SelectorTree) → SelectorLabels (Stays none) s
selector_unread (Selects e) = tt
selector_unread (Pick l n s) = (refl, selector_unread s)

mutual
  all_unread : (a : Forest) → Everywhere (IsUnread none) a
  all_unread Nil = tt
  all_unread (Then x a) = (all_unread_of x, all_unread a)

  all_unread_of : (x : Tree) → EverywhereOf (IsUnread none) x
  all_unread_of (If t a b) = (test_unread t, all_unread a, all_unread b)
  all_unread_of (While t a) = (test_unread t, all_unread a)
  all_unread_of (Do a t) = (test_unread t, all_unread a)
  all_unread_of (For first t u a) = (tt, all_unread first, all_unread a)
  all_unread_of (Switch s c) = (selector_unread s, all_unread_in c)
  all_unread_of (Block a) = (tt, all_unread a)
  all_unread_of (Goto l) = refl
  all_unread_of (Leap l) = refl
  all_unread_of (Arm l None) = tt
  all_unread_of (Arm l (Some e)) = λ h. cc
  all_unread_of _ = tt

  all_unread_in : (c : Sections) → EverywhereIn (IsUnread none) c
  all_unread_in NoSection = tt
  all_unread_in (Section cases default a ends c) = (all_unread a, all_unread_in c)

-- ---- the function of each name

-- the second function is the first without guards that nothing in it reads
record Loses (f h : FunctionTree) : Type 0 where
  pub labels : ℕ → Bool
  pub dropped_so : IsDropped labels f h
  pub unread : Everywhere (IsUnread labels) (items_of f)

body_none : (b : Option Forest) → b ≡ option_map (dropped none) b
body_none None = refl
body_none (Some a) = ap Some (sym (dropped_none a))

loses_nothing : (f : FunctionTree) → Loses f f
loses_nothing f = record {
  labels = none;
  dropped_so = record { face = record { result = refl; params = refl; slots = refl }; body = body_none f.body };
  unread = all_unread (items_of f);
}

tree_body : (f : Function) (a : List Item) → f.body ≡ Some a → items_of (function_tree f) ≡ trees_of a
tree_body f a e = ap (λ o. option_map_or (λ z. z) (option_map trees_of o) Nil) e

loses_guard : (f : Function) (a b : List Item) → f.body ≡ Some a → DropsGuard a b → Loses (function_tree f) (function_tree (with_body f b))
loses_guard f a b e g = record {
  labels = eqb g.label;
  dropped_so = record {
    face = record { result = refl; params = refl; slots = refl };
    body = ap Some g.removed ∙ ap (λ o. option_map (dropped (eqb g.label)) (option_map trees_of o)) (sym e);
  };
  unread = subst (Everywhere (IsUnread (eqb g.label))) (sym (tree_body f a e)) g.unread;
}

-- ---- facts of one function

case_slots : (d : ℕ → Bool) (P : ℕ → Type 0) (c : Sections) → CaseSlots P c → CaseSlots P (dropped_sections d c)
case_slots d P NoSection h = tt
case_slots d P (Section cases default a ends c) h = (h.0, case_slots d P c h.1)

module _ (d : ℕ → Bool) where
  slots_become : (P : ℕ → Type 0) → Becomes d (ItemSlots P) (ItemSlots P)
  slots_become P = record {
    arm = λ l e f h. h;
    arm_if = λ l e f h. h;
    land = λ l f h. tt;
    ifs = λ t a b h. h;
    whiles = λ t a h. h;
    dos = λ t a h. h;
    fors = λ first t u a h. h;
    switches = λ s c h. (h.0, case_slots d P c h.1);
    blocks = λ a h. tt;
    others = λ x o h. h;
  }

  labels_become : (P : ℕ → Type 0) → Becomes d (ItemLabels P) (ItemLabels P)
  labels_become P = record {
    arm = λ l e f h. h;
    arm_if = λ l e f h. tt;
    land = λ l f h. h;
    ifs = λ t a b h. h;
    whiles = λ t a h. h;
    dos = λ t a h. h;
    fors = λ first t u a h. tt;
    switches = λ s c h. h;
    blocks = λ a h. tt;
    others = λ x o h. h;
  }

  unguarded_become : Becomes d IsUnguarded IsUnguarded
  unguarded_become = record {
    arm = λ l e f h. h;
    arm_if = λ l e f h. tt;
    land = λ l f h. h;
    ifs = λ t a b h. h;
    whiles = λ t a h. h;
    dos = λ t a h. h;
    fors = λ first t u a h. tt;
    switches = λ s c h. h;
    blocks = λ a h. tt;
    others = λ x o h. h;
  }

  unarmed_become : Becomes d IsUnarmed IsUnarmed
  unarmed_become = record {
    arm = λ l e f h. h;
    arm_if = λ l e f h. tt;
    land = λ l f h. h;
    ifs = λ t a b h. tt;
    whiles = λ t a h. tt;
    dos = λ t a h. tt;
    fors = λ first t u a h. tt;
    switches = λ s c h. tt;
    blocks = λ a h. tt;
    others = λ x o h. h;
  }

  unjumping_become : Becomes d IsUnjumping IsUnjumping
  unjumping_become = record {
    arm = λ l e f h. tt;
    arm_if = λ l e f h. tt;
    land = λ l f h. tt;
    ifs = λ t a b h. tt;
    whiles = λ t a h. tt;
    dos = λ t a h. tt;
    fors = λ first t u a h. tt;
    switches = λ s c h. tt;
    blocks = λ a h. tt;
    others = λ x o h. h;
  }

module _ (f : Function) (a b : List Item) (e : f.body ≡ Some a) (g : DropsGuard a b) where
  body_kept : (P : Tree → Type 0) → Becomes (eqb g.label) P P → Everywhere P (body_of f) → Everywhere P (trees_of b)
  body_kept P k h = subst (Everywhere P) (sym g.removed) (becomes (eqb g.label) P P k (trees_of a)
      (subst (λ o. Everywhere P (option_map_or trees_of o Nil)) e h))

  range_kept : IsInRange f → IsInRange (with_body f b)
  range_kept h = record {
    parameters = h.parameters;
    slots = body_kept (ItemSlots (λ x. x < length f.slots)) (slots_become (eqb g.label) (λ x. x < length f.slots)) h.slots;
    labels = body_kept (ItemLabels (λ l. l < length f.labels)) (labels_become (eqb g.label) (λ l. l < length f.labels)) h.labels;
    unguarded = λ z. body_kept IsUnguarded (unguarded_become (eqb g.label)) (h.unguarded z);
  }

  made_kept : IsMadeWell f → IsMadeWell (with_body f b)
  made_kept h = record {
    converted = λ c. subst IsWellMade (sym g.removed) (well_dropped (eqb g.label) (trees_of a) g.made g.unread);
    other = λ n. body_kept IsUnarmed (unarmed_become (eqb g.label))
        (h.other (λ c. n (record { flat = c.flat; unjumping = body_kept IsUnjumping (unjumping_become (eqb g.label)) c.unjumping })));
  }

-- ---- the program

pub guard_dropped : (p q : Program) → OneBodyChanged DropsGuard p.tops q.tops → IsSteady p → IsSteady q × BehaveTheSame p q
guard_dropped p q r s =
    let loses = λ (m : List ℕ). named Loses loses_nothing loses_guard m r in
    let made = all_kept IsTopMadeWell made_kept p.tops q.tops r s.made in
    let t = dropped_steady (λ m. (loses m).labels) (code_of p) (code_of q) (λ m. (loses m).dropped_so) (λ m. (loses m).unread) (λ m. globals_same m r)
    (cells_same r) (placed (code_of p) (made_bodies p s.made)) (placed (code_of q) (made_bodies q made)) s.states in
    (record { ranged = all_kept IsTopInRange range_kept p.tops q.tops r s.ranged; made = made; states = t.0 }, record { codes = t.1 })

pub unread_laws : UnreadLaws
unread_laws = record { made = λ l a w u. well_dropped (eqb l) a w u; steady = guard_dropped }
