-- A program stays in range and made well where a rule changes one body, and its core is no worse.
use Rattle.std.proofs.Common.{◌≡◌, ◌<◌, length, List, Some, All, subst}
use Rattle.std.specs.List.{AllByRecursion}
use Rattle.std.specs.Option.{option_map_or}
use Rattle.std.proofs.lemmas.List.Elements.{All-from_recursion, recursion_from_All}
use Rattle.c_tree.specs.declared.tree.Item.{Item}
use Rattle.c_tree.specs.declared.tree.Function.{Function}
use Rattle.c_tree.specs.declared.tree.Top.{Top}
use Rattle.c_tree.specs.declared.tree.Top.TheVariants as T
use Rattle.c_tree.specs.declared.tree.Program.{Program}
use Rattle.c_tree.specs.Trees.{Tree, Nil, trees_of}
use Rattle.c_tree.specs.Everywhere.{Everywhere}
use Rattle.c_tree.specs.Slots.{ItemSlots}
use Rattle.c_tree.specs.Labels.{ItemLabels}
use Rattle.c_tree.specs.InRange.{body_of, IsUnguarded, IsInRange, IsTopInRange, IsProgramInRange}
use Rattle.c_tree.proofs.KeptLemmas.{IsKept, changed_kept}
use Rattle.c_tree.proofs.WellMoved.{well_moved}
use Rattle.jump_meaning.specs.Code.{code_of}
use Rattle.jump_meaning.specs.Steady.{IsUnjumping, IsUnarmed, IsConvertedFunction, IsMadeWell, IsTopMadeWell}
use Rattle.core_laws.specs.Core.{core_code}
use Rattle.core_laws.specs.Ways.{lost}
use Rattle.core_laws.specs.Better.{LeCode}
use Rattle.move_laws.specs.Bodies.{with_body, OneBodyChanged, this_function, later_function, MovesWell}
use Rattle.move_laws.proofs.Orders.{follow_refl}
use Rattle.move_laws.proofs.BetterMoved.{moved_better}
use Rattle.move_laws.proofs.RangesKept.{item_slots_kept, item_labels_kept}
use Rattle.move_laws.proofs.BodiesMoved.{CoresAreLe, code_le}

-- ---- facts of one item

unguarded_kept : IsKept IsUnguarded
unguarded_kept = record {
  made_if = λ m a p. absurd p;
  made_do = λ m a p. absurd p;
  then = λ t a b c h. h;
  else = λ t a b c j h. h;
  whiles = λ t a b h. h;
  dos = λ t a b h. h;
  fors = λ f a b t u j h. tt;
  switches = λ s c d e h. h;
  blocks = λ a b h. tt;
  or_if = λ m t a b p h. absurd p;
  and_if = λ m t a b p h. absurd p;
  or_while = λ m t a p h. absurd p;
  and_while = λ m t a p h. absurd p;
  and_do = λ m t a p h. absurd p;
  picks = λ m k n s c p q h. absurd p;
}

unarmed_kept : IsKept IsUnarmed
unarmed_kept = record {
  made_if = λ m a p. tt;
  made_do = λ m a p. tt;
  then = λ t a b c h. tt;
  else = λ t a b c j h. tt;
  whiles = λ t a b h. tt;
  dos = λ t a b h. tt;
  fors = λ f a b t u j h. tt;
  switches = λ s c d e h. tt;
  blocks = λ a b h. tt;
  or_if = λ m t a b p h. tt;
  and_if = λ m t a b p h. tt;
  or_while = λ m t a p h. tt;
  and_while = λ m t a p h. tt;
  and_do = λ m t a p h. tt;
  picks = λ m k n s c p q h. tt;
}

unjumping_kept : IsKept IsUnjumping
unjumping_kept = record {
  made_if = λ m a p. tt;
  made_do = λ m a p. tt;
  then = λ t a b c h. tt;
  else = λ t a b c j h. tt;
  whiles = λ t a b h. tt;
  dos = λ t a b h. tt;
  fors = λ f a b t u j h. tt;
  switches = λ s c d e h. tt;
  blocks = λ a b h. tt;
  or_if = λ m t a b p h. tt;
  and_if = λ m t a b p h. tt;
  or_while = λ m t a p h. tt;
  and_while = λ m t a p h. tt;
  and_do = λ m t a p h. tt;
  picks = λ m k n s c p q h. tt;
}

-- ---- one function

module _ (f : Function) (a b : List Item) (e : f.body ≡ Some a) (m : MovesWell a b) where
  -- a fact of each item of its body
  body_kept : (P : Tree → Type 0) → IsKept P → Everywhere P (body_of f) → Everywhere P (trees_of b)
  body_kept P k h = changed_kept P k m.moved (subst (λ o. Everywhere P (option_map_or trees_of o Nil)) e h)

  range_kept : IsInRange f → IsInRange (with_body f b)
  range_kept h = record {
    parameters = h.parameters;
    slots = body_kept (ItemSlots (λ x. x < length f.slots)) (item_slots_kept (λ x. x < length f.slots)) h.slots;
    labels = body_kept (ItemLabels (λ l. l < length f.labels)) (item_labels_kept (λ l. l < length f.labels)) h.labels;
    unguarded = λ z. body_kept IsUnguarded unguarded_kept (h.unguarded z);
  }

  still_converted : IsConvertedFunction f → IsConvertedFunction (with_body f b)
  still_converted c = record { flat = c.flat; unjumping = body_kept IsUnjumping unjumping_kept c.unjumping }

  made_kept : IsMadeWell f → IsMadeWell (with_body f b)
  made_kept h = record {
    converted = λ c. well_moved (trees_of a) (trees_of b) m.moved m.made;
    other = λ n. body_kept IsUnarmed unarmed_kept (h.other (λ c. n (still_converted c)));
  }

-- ---- the program

pub tops_kept : {R : List Item → List Item → Type 0} (P : Top → Type 0) →
    ((f : Function) (a b : List Item) → f.body ≡ Some a → R a b → P (T.Function f) → P (T.Function (with_body f b)))
    → {ts us : List Top} → OneBodyChanged R ts us → AllByRecursion P ts → AllByRecursion P us
tops_kept P k (this_function f a b ts e r) h = (k f a b e r h.0, h.1)
tops_kept P k (later_function t r) h = (h.0, tops_kept P k r h.1)

pub all_kept : {R : List Item → List Item → Type 0} (P : Top → Type 0) →
    ((f : Function) (a b : List Item) → f.body ≡ Some a → R a b → P (T.Function f) → P (T.Function (with_body f b)))
    → (ts us : List Top) → OneBodyChanged R ts us → All P ts → All P us
all_kept P k ts us r h = All-from_recursion P us (tops_kept P k r (recursion_from_All P ts h))

pub program_in_range : (p q : Program) → OneBodyChanged MovesWell p.tops q.tops → IsProgramInRange p → IsProgramInRange q
program_in_range p q r h = all_kept IsTopInRange range_kept p.tops q.tops r h

pub program_made : (p q : Program) → OneBodyChanged MovesWell p.tops q.tops → All IsTopMadeWell p.tops → All IsTopMadeWell q.tops
program_made p q r h = all_kept IsTopMadeWell made_kept p.tops q.tops r h

-- one relation of two bodies for another
pub change_map : {R S : List Item → List Item → Type 0} → ((a b : List Item) → R a b → S a b) → {ts us : List Top} → OneBodyChanged R ts us →
    OneBodyChanged S ts us
change_map k (this_function f a b ts e r) = this_function f a b ts e (k a b r)
change_map k (later_function t r) = later_function t (change_map k r)

cores_moved : (a b : List Item) → MovesWell a b → CoresAreLe a b
cores_moved a b m = (moved_better (trees_of a) (trees_of b) m.moved m.made).cores lost lost (follow_refl lost)

pub program_core : (p q : Program) → OneBodyChanged MovesWell p.tops q.tops → LeCode (core_code (code_of p)) (core_code (code_of q))
program_core p q r = code_le p q (change_map cores_moved r)
