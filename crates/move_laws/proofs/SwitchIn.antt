-- Rule I makes a list at least as good: a Leap goes into a section of a switch, which its guard selects.
use Rattle.std.proofs.Common.{ℕ, ℤ, Bool, true, false, cond, eqb, Some, None, ◌≡◌, inl, inr, refl, ap, sym, ◌∙◌}
use mathlib.Core.Path.{fun_ext}
use Rattle.c_types.specs.declared.kinds.IntKind.{IntKind}
use Rattle.c_tree.specs.TestTrees.{SelectorTree, Pick}
use Rattle.c_tree.specs.Trees.{Forest, Then, Sections, NoSection, Section, Switch, Leap, join}
use Rattle.c_tree.specs.Changed.{one}
use Rattle.c_tree.specs.Moves.{guarded, SectionsEntered, entered_here, entered_later}
use Rattle.c_tree.proofs.ExitsKept.{continues-entered}
use Rattle.jump_meaning.specs.Search.{Goal, ToCase, ToDefault, is_section_goal, first_of_three}
use Rattle.jump_meaning.specs.Step.{switch_kind}
use Rattle.core_laws.specs.Ways.{only, KnownSelector, peel_selector, on_selector, Way, Lands, Past, Lost, ◌▷◌, walks, end_way, tail_way, section_way, Follow, after_section}
use Rattle.core_laws.specs.Core.{core_sections}
use Rattle.core_laws.specs.Better.{LeWay, LeFollow, le_switch, LeSections, le_section, Better}
use Rattle.move_laws.proofs.Orders.{way_refl, way_then, way_end}
use Rattle.move_laws.proofs.Cores.{one_le, core_le, sections_le}
use Rattle.move_laws.proofs.Inward.{Entered, inward, way_first}
use Rattle.move_laws.proofs.Choice.{IsFirst, NoneHas, IsChosen}

module _ (m : ℕ) where
  -- ---- every other label

  off_first : (l : ℕ) (y : Way) → eqb l m ≡ false → cond (eqb l m) Lands Past ▷ y ≡ y
  off_first l y e = ap (λ c. cond c Lands Past ▷ y) e

  tail_other : {k : ℕ} {c d : Sections} → SectionsEntered m k c d → (l : ℕ) → eqb l m ≡ false → tail_way l c ≡ tail_way l d
  tail_other (entered_here cases default ends a c z) l e = ap (λ y. y ▷ end_way ends (tail_way l c)) (sym (off_first l (walks l a) e))
  tail_other (entered_later cases default ends a r) l e = ap (λ y. walks l a ▷ end_way ends y) (tail_other r l e)

  section_other : {k : ℕ} {c d : Sections} → SectionsEntered m k c d → (l : ℕ) (goal : Goal) → eqb l m ≡ false → section_way l goal c ≡ section_way l goal d
  section_other (entered_here cases default ends a c z) l goal e =
      ap (λ y. cond (is_section_goal goal cases default) (Some (y ▷ end_way ends (tail_way l c))) (section_way l goal c)) (sym (off_first l (walks l a) e))
  section_other (entered_later cases default ends a {c = c} {d = d} r) l goal e =
      ap (λ y. cond (is_section_goal goal cases default) (Some (walks l a ▷ end_way ends y)) (section_way l goal c)) (tail_other r l e)
      ∙ ap (λ o. cond (is_section_goal goal cases default) (Some (walks l a ▷ end_way ends (tail_way l d))) o) (section_other r l goal e)

  -- ---- the label of the Leap

  at_first : {k : ℕ} {c d : Sections} → SectionsEntered m k c d → (l : ℕ) (goal : Goal) → eqb l m ≡ true → IsFirst goal k c → section_way l goal d ≡ Some Lands
  at_first (entered_here cases default ends a c z) l goal e h =
      ap (λ b. cond b (Some ((cond (eqb l m) Lands Past ▷ walks l a) ▷ end_way ends (tail_way l c))) (section_way l goal c)) h
      ∙ ap (λ b. Some ((cond b Lands Past ▷ walks l a) ▷ end_way ends (tail_way l c))) e
  at_first (entered_later cases default ends a {d = d} r) l goal e h =
      ap (λ b. cond b (Some (walks l a ▷ end_way ends (tail_way l d))) (section_way l goal d)) h.0 ∙ at_first r l goal e h.1

  no_way : (l : ℕ) (goal : Goal) (c : Sections) → NoneHas goal c → section_way l goal c ≡ None
  no_way l goal NoSection h = refl
  no_way l goal (Section cases default a ends c) h = ap (λ b. cond b (Some (walks l a ▷ end_way ends (tail_way l c))) (section_way l goal c)) h.0 ∙
      no_way l goal c h.1

  none_entered : {k : ℕ} {c d : Sections} → SectionsEntered m k c d → (goal : Goal) → NoneHas goal c → NoneHas goal d
  none_entered (entered_here cases default ends a c z) goal h = h
  none_entered (entered_later cases default ends a r) goal h = (h.0, none_entered r goal h.1)

  at_chosen : {k : ℕ} {c d : Sections} → SectionsEntered m k c d → (kind : IntKind) (n : ℤ) → IsChosen kind n k c → (l : ℕ) → eqb l m ≡ true
      → first_of_three (section_way l (ToCase kind n) d) (section_way l ToDefault d) Past ≡ Lands
  at_chosen {d = d} r kind n (inl h) l e = ap (λ o. first_of_three o (section_way l ToDefault d) Past) (at_first r l (ToCase kind n) e h)
  at_chosen {d = d} r kind n (inr h) l e =
      ap (λ o. first_of_three o (section_way l ToDefault d) Past) (no_way l (ToCase kind n) d (none_entered r (ToCase kind n) h.0))
      ∙ ap (λ o. first_of_three None o Past) (at_first r l ToDefault e h.1)

  -- ---- the core

  tail_le : {k : ℕ} {c d : Sections} → SectionsEntered m k c d → (l : ℕ) → LeWay (tail_way l c) (tail_way l d)
  tail_le (entered_here cases default ends a c z) l = way_then _ _ _ _ (way_first l m (walks l a)) (way_refl _)
  tail_le (entered_later cases default ends a r) l = way_then _ _ _ _ (way_refl _) (way_end ends _ _ (tail_le r l))

  cores_le : {k : ℕ} {c d : Sections} → SectionsEntered m k c d → (w w' : Follow) → LeFollow w w' → LeSections (core_sections c w) (core_sections d w')
  cores_le (entered_here cases default ends a c z) w w' h =
      le_section cases default ends (core_le a (after_section ends c w) (after_section ends c w') (λ l. way_then _ _ _ _ (way_refl _) (h l)))
      (sections_le c w w' h)
  cores_le (entered_later cases default ends a {c = c} {d = d} r) w w' h =
      le_section cases default ends (core_le a (after_section ends c w) (after_section ends d w')
      (λ l. way_then _ _ _ _ (way_end ends _ _ (tail_le r l)) (h l))) (cores_le r w w' h)

  -- ---- the switch

  -- its way, by whether the guard is that of m
  abbrev switch_way : SelectorTree → ℤ → Sections → ℕ → Bool → Way
  switch_way s n d l c =
      on_selector (cond c (KnownSelector n) (peel_selector (only l) s)) Lost
      (λ i. first_of_three (section_way l (ToCase (switch_kind s) i) d) (section_way l ToDefault d) Past)

  entered_switch : (s : SelectorTree) (k : ℕ) (n : ℤ) {c d : Sections} → SectionsEntered m k c d → IsChosen (switch_kind s) n k c →
      Entered m (Switch s c) (Switch (Pick m n s) d)
  entered_switch s k n {c = c} {d = d} r h = record {
    stops = refl;
    goes = sym (continues-entered m k r);
    at = λ l e. ap (switch_way s n d l) e ∙ at_chosen r (switch_kind s) n h l e;
    other = λ l e. ap (on_selector (peel_selector (only l) s) Lost) (fun_ext (λ i. same l i e)) ∙ sym (ap (switch_way s n d l) e);
    cores = λ w w' f. one_le (le_switch _ (cores_le r w w' f));
  }
    where
      same : (l : ℕ) (i : ℤ) → eqb l m ≡ false → first_of_three (section_way l (ToCase (switch_kind s) i) c) (section_way l ToDefault c)
          Past ≡ first_of_three (section_way l (ToCase (switch_kind s) i) d) (section_way l ToDefault d) Past
      same l i e =
          ap (λ o. first_of_three o (section_way l ToDefault c) Past) (section_other r l (ToCase (switch_kind s) i) e)
          ∙ ap (λ o. first_of_three (section_way l (ToCase (switch_kind s) i) d) o Past) (section_other r l ToDefault e)

  pub in_switch : (t : Forest) (s : SelectorTree) (k : ℕ) (n : ℤ) {c d : Sections} → SectionsEntered m k c d → IsChosen (switch_kind s) n k c
      → Better (Then (Leap m) (join t (one (Switch s c)))) (join (guarded m t) (one (Switch (Pick m n s) d)))
  in_switch t s k n {c = c} {d = d} r h = inward m t (Switch s c) (Switch (Pick m n s) d) (entered_switch s k n r h)
