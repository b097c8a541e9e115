-- The variables of a lowered function: which are numbers or arrays that may be assigned.
use Rattle.std.proofs.Common.{◌≡◌, ℕ, zero, suc, ◌≤◌, ◌<◌, false, List, [], ◌∷◌, length, take, drop, Option, Some, None, IsSome, slice_get, refl, sym, ap, subst, ◌∙◌}
use Rattle.std.specs.Prelude.{IsSomeAnd}
use Rattle.std.specs.List.{AllByRecursion}
use Rattle.c_types.specs.declared.kinds.IntKind.{IntKind}
use Rattle.c_tree.specs.declared.tree.Function.{Function}
use Rattle.c_tree.specs.declared.tree.Slot.{Slot}
use Rattle.c_tree.specs.Trees.{Forest}
use Rattle.jump_meaning.specs.Code.{entry_or}
use Rattle.jump_meaning.specs.World.{no_slot}
use Rattle.flat_laws.specs.Source.{IsVariable}
use Rattle.c_resolved_defs.specs.Names.{Names}
use Rattle.c_resolved_defs.specs.Files.{IsLength, IsParameterLength, AreLengths}
use Rattle.c_resolved_defs.specs.Resolved.{HasLengths}
use Rattle.flat_laws.specs.Loose.{ExtendSlots}
use Rattle.flat_function.proofs.Forms.{first_same}
use Rattle.whole_laws.proofs.MadeKinds.{IsFreeNumber, IsFreeArray}
use Rattle.whole_laws.proofs.NamesKept.{SameVariable, KeepsSlots, extended, Found, slot_over}
use Rattle.whole_laws.proofs.PlainSlots.{entry_there, in_drop}
use Rattle.lower_laws.specs.Lowering.{constructs}
use Rattle.lower_result_laws.proofs.Variables.{kinds, more_numbers, IsFree, free_behind}
use Rattle.lower_result_laws.proofs.Lowered.{blocks, switches, slots_are, slots_extend, setting}
use Rattle.lower_result_laws.proofs.LoweredFacts.{new_slots}

found_map : (o : Option Slot) (s : Slot) (Q : Slot → Type 0) → o ≡ Some s → Q s → IsSomeAnd o Q
found_map o s Q e q = subst (λ p. IsSomeAnd p Q) (sym e) q

-- ---- lengths

none_lengths : (n : ℕ) (ts : List Slot) → ExtendSlots [] ts → AreLengths IsLength (drop n ts)
none_lengths zero [] h = tt
none_lengths (suc n) [] h = tt
none_lengths zero (t ∷ ts) h = (subst IsLength (sym h.0) tt, none_lengths zero ts h.1)
none_lengths (suc n) (t ∷ ts) h = none_lengths n ts h.1

extended_lengths : (n : ℕ) (ss ts : List Slot) → ExtendSlots ss ts → AreLengths IsLength (drop n ss) → AreLengths IsLength (drop n ts)
extended_lengths n [] ts h l = none_lengths n ts h
extended_lengths n (s ∷ ss) [] h l = absurd h
extended_lengths zero (s ∷ ss) (t ∷ ts) h l = (subst IsLength h.1 l.0, extended_lengths zero ss ts h.2 l.1)
extended_lengths (suc n) (s ∷ ss) (t ∷ ts) h l = extended_lengths n ss ts h.2 l

module _ (f : Function) (params : f.params ≤ length f.slots) (used taken : List (List ℕ)) (a : Forest) where
  abbrev G : List Slot
  G = new_slots f params used taken a

  -- the parameters are the same
  pub same_parameters : take f.params G ≡ take f.params f.slots
  same_parameters =
      ap (take f.params) (slots_are used taken f a)
      ∙ first_same (switches used taken f a) (kinds (constructs a)) (more_numbers 1 (constructs a) (blocks used taken f a).used) f.params taken used
      f.slots params

  -- no other variable is const
  pub others_free : AllByRecursion IsFree (drop f.params G)
  others_free =
      subst (λ ss. AllByRecursion IsFree (drop f.params ss)) (sym (slots_are used taken f a))
      (free_behind (switches used taken f a) (kinds (constructs a)) (more_numbers 1 (constructs a) (blocks used taken f a).used) f.params taken used
      f.slots params)

  pub slots_kept : KeepsSlots f.slots G
  slots_kept = extended f.params f.slots G (slots_extend used taken f a) same_parameters others_free

  pub lengths_kept : HasLengths f → AreLengths IsParameterLength (take f.params G) × AreLengths IsLength (drop f.params G)
  lengths_kept l = (
    subst (AreLengths IsParameterLength) (sym same_parameters) l.parameters,
    extended_lengths f.params f.slots G (slots_extend used taken f a) l.others,
  )

  slot_free : (x : ℕ) (s : Slot) → f.params ≤ x → slice_get G x ≡ Some s → s.constant ≡ false
  slot_free x s p e = in_drop IsFree f.params G x s others_free p e

  module _ (k : Names) (slots : k.slots ≡ G) where
    get_new : (x : ℕ) → slice_get k.slots x ≡ slice_get G x
    get_new x = ap (λ ss. slice_get ss x) slots

    -- the variable of a switch
    pub switch_free : (v : ℕ) (kind : IntKind) → IsVariable (setting f a G) v kind → v < length G → IsFreeNumber k v kind
    switch_free v kind w b =
        let e = entry_there G v b in
        let n = w.new in
        found_map (slice_get k.slots v) (entry_or no_slot G v) _ (get_new v ∙ e) (w.kind, w.cells, slot_free v (entry_or no_slot G v) n.0 e)

    -- a variable of a block
    module _ (x : ℕ) (r : Slot) (e : slice_get f.slots x ≡ Some r) (p : f.params ≤ x) where
      block_by : (Q : Slot → Type 0) → ((t : Slot) → SameVariable r t → t.constant ≡ false → Q t) → IsSomeAnd (slice_get k.slots x) Q
      block_by Q g = at (slice_get k.slots x) refl (subst (λ ss. Found r (slice_get ss x)) (sym slots) (slot_over f.slots G slots_kept x r e))
        where
          at : (o : Option Slot) → slice_get k.slots x ≡ o → Found r o → IsSomeAnd o Q
          at None i d = absurd d
          at (Some t) i d = g t d (slot_free x t p (sym (get_new x) ∙ i))

      pub block_number : r.cells ≡ None → IsFreeNumber k x r.kind
      block_number c = block_by (λ (t : Slot). (t.kind ≡ r.kind) × (t.cells ≡ None) × (t.constant ≡ false)) (λ t v q. (v.kind, v.cells ∙ c, q))

      pub block_array : IsSome r.cells → IsFreeArray k x r.kind
      block_array c = block_by (λ (t : Slot). (t.kind ≡ r.kind) × IsSome t.cells × (t.constant ≡ false)) (λ t v q. (v.kind, subst IsSome (sym v.cells) c, q))
