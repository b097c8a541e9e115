-- A body stays well made, and a steady program steady, with the same behaviour, where a made test is simplified.
use Rattle.std.proofs.Common.{◌≡◌, ◌<◌, length, List, Some, sym, subst, ◌∙◌}
use Rattle.std.specs.Option.{option_map_or}
use Rattle.c_tree.specs.declared.tree.Item.{Item}
use Rattle.c_tree.specs.declared.tree.Function.{Function}
use Rattle.c_tree.specs.declared.tree.Program.{Program}
use Rattle.c_tree.specs.Trees.{Tree, Forest, Nil, trees_of}
use Rattle.c_tree.specs.Everywhere.{Everywhere}
use Rattle.c_tree.specs.Labels.{land_of, lands, GuardLabels, ItemLabels}
use Rattle.c_tree.specs.Slots.{ItemSlots}
use Rattle.c_tree.specs.Changed.{Changed}
use Rattle.c_tree.specs.InRange.{body_of, IsUnguarded, IsInRange, IsTopInRange}
use Rattle.c_tree.specs.WellMade.{IsConverted, HasSelectorKind, HasEntries, HasCases, HasPicks, IsPlainFor, BindsNoExit, HasNoMadeElse, IsWellMade}
use Rattle.c_tree.proofs.WellMoved.{everywhere_map, item_labels}
use Rattle.jump_meaning.specs.Runs.{BehaveTheSame}
use Rattle.jump_meaning.specs.Steady.{IsUnjumping, IsUnarmed, IsMadeWell, IsTopMadeWell, IsSteady}
use Rattle.core_laws.specs.Ways.{lost}
use Rattle.core_laws.proofs.Programs.{same_cores}
use Rattle.move_laws.specs.Bodies.{with_body, OneBodyChanged}
use Rattle.move_laws.proofs.Orders.{follow_refl}
use Rattle.move_laws.proofs.BodiesMoved.{CoresAreLe, code_le}
use Rattle.move_laws.proofs.ProgramsMoved.{all_kept, change_map}
use Rattle.move_laws.specs.Simplifications.{Simplified}
use Rattle.move_laws.specs.GuardSimplifyLaws.{SimplifiesWell, SimplificationLaws}
use Rattle.move_laws.proofs.Simpler.{changed_better}
use Rattle.move_laws.proofs.Numbers.{counts_lands, changed_total, same_numbers}
use Rattle.move_laws.proofs.Kept.{IsStable, simplified_kept, converted_stable, unjumping_stable, unarmed_stable, loops_stable, labels_stable, item_labels_stable, item_slots_stable, elses_stable, exits_stable, kinds_stable, entries_stable, cases_stable, picks_stable, unguarded_stable}

well_simplified : (xs ys : Forest) → Changed Simplified xs ys → IsWellMade xs → IsWellMade ys
well_simplified xs ys c w = record {
  converted = simplified_kept IsConverted converted_stable c w.converted;
  landed =
      everywhere_map (GuardLabels (λ l. lands l xs ≡ 1)) (GuardLabels (λ l. lands l ys ≡ 1))
      (item_labels (λ l. lands l xs ≡ 1) (λ l. lands l ys ≡ 1) (λ l h. sym (changed_total (land_of l) (counts_lands l) c) ∙ h)) ys
      (simplified_kept (GuardLabels (λ l. lands l xs ≡ 1)) (labels_stable (λ l. lands l xs ≡ 1)) c w.landed);
  selectors = simplified_kept HasSelectorKind kinds_stable c w.selectors;
  entries = simplified_kept HasEntries entries_stable c w.entries;
  cases = simplified_kept HasCases cases_stable c w.cases;
  picks = simplified_kept HasPicks picks_stable c w.picks;
  loops = simplified_kept IsPlainFor loops_stable c w.loops;
  bound = sym (same_numbers c).exits ∙ w.bound;
  exits = simplified_kept BindsNoExit exits_stable c w.exits;
  tests = simplified_kept HasNoMadeElse elses_stable c w.tests;
}

-- ---- one function

module _ (f : Function) (a b : List Item) (e : f.body ≡ Some a) (m : SimplifiesWell a b) where
  body_kept : (P : Tree → Type 0) → IsStable P → Everywhere P (body_of f) → Everywhere P (trees_of b)
  body_kept P k h = simplified_kept P k m.simplified (subst (λ o. Everywhere P (option_map_or trees_of o Nil)) e h)

  range_kept : IsInRange f → IsInRange (with_body f b)
  range_kept h = record {
    parameters = h.parameters;
    slots = body_kept (ItemSlots (λ x. x < length f.slots)) (item_slots_stable (λ x. x < length f.slots)) h.slots;
    labels = body_kept (ItemLabels (λ l. l < length f.labels)) (item_labels_stable (λ l. l < length f.labels)) h.labels;
    unguarded = λ z. body_kept IsUnguarded unguarded_stable (h.unguarded z);
  }

  made_kept : IsMadeWell f → IsMadeWell (with_body f b)
  made_kept h = record {
    converted = λ c. well_simplified (trees_of a) (trees_of b) m.simplified m.made;
    other = λ n. body_kept IsUnarmed unarmed_stable
        (h.other (λ c. n (record { flat = c.flat; unjumping = body_kept IsUnjumping unjumping_stable c.unjumping })));
  }

-- ---- the program

cores_simplified : (a b : List Item) → SimplifiesWell a b → CoresAreLe a b
cores_simplified a b m = (changed_better (trees_of a) (trees_of b) m.simplified).cores lost lost (follow_refl lost)

pub steady_simplified : (p q : Program) → OneBodyChanged SimplifiesWell p.tops q.tops → IsSteady p → IsSteady q × BehaveTheSame p q
steady_simplified p q r s =
    same_cores p q (all_kept IsTopInRange range_kept p.tops q.tops r s.ranged) (all_kept IsTopMadeWell made_kept p.tops q.tops r s.made)
    (code_le p q (change_map cores_simplified r)) s

pub simplification_laws : SimplificationLaws
simplification_laws = record { better = changed_better; made = well_simplified; steady = steady_simplified }
