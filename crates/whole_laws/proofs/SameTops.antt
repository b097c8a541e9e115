-- The plain form has the declarations of the program, and its functions have the variables of the source.
use Rattle.std.proofs.Common.{◌≡◌, ◌≤◌, List, ◌++◌, length, map, take, is_some, refl, sym, ap, subst, ◌∙◌, arith}
use Rattle.std.proofs.lemmas.List.{take-append-le}
use Rattle.c_tree.specs.declared.tree.Slot.{Slot}
use Rattle.c_tree.specs.declared.tree.Function.{Function}
use Rattle.c_tree.specs.declared.tree.Top.{Top}
use Rattle.plain_laws.specs.Plain.{names_left, guard_slot}
use Rattle.c_resolved_defs.specs.Within.{Each}
use Rattle.c_resolved_defs.specs.Limits.{FlatCounts}
use Rattle.c_resolved_defs.specs.Resolved.{IsResolvedTop}
use Rattle.whole_laws.proofs.NamesKept.{KeepsSlots, keeps_self, keeps_more, extended}
use Rattle.whole_laws.proofs.PlainTops.{IsMovedForm, IsUnmovedForm, pt_moved, pt_unmoved, pt_declared, pt_other, PlainTops, pt_none, pt_more}
use Rattle.whole_laws.proofs.SameFile.{SameDeclaration, SameFile, sf_none, sf_function, sf_other}

pub self_declared : (f : Function) → SameDeclaration f f
self_declared f = record { name = refl; result = refl; file_only = refl; params = refl; parameters = refl; body = refl }

-- ---- a function with jumps

module _ (f h : Function) (m : IsMovedForm f h) (params : f.params ≤ length f.slots) where
  abbrev more : List Slot
  more = map guard_slot (names_left m.new 0 m.names)

  -- the slots of the flat form, and those of guards
  pub moved_slots : h.slots ≡ m.flat_form.slots ++ more
  moved_slots = ap (λ (k : Function). k.slots) m.plain

  flat_enough : f.params ≤ length m.flat_form.slots
  flat_enough = let w = m.is_flat in let e = w.more_slots in omega (arith, e, params)

  pub moved_params : h.params ≡ f.params
  moved_params = ap (λ (k : Function). k.params) m.plain ∙ sym m.is_flat.params

  moved_parameters : take h.params h.slots ≡ take f.params f.slots
  moved_parameters =
      (λ i. take (moved_params i) (moved_slots i))
      ∙ take-append-le f.params m.flat_form.slots more flat_enough
      ∙ m.is_flat.parameters

  pub moved_declared : SameDeclaration f h
  moved_declared = record {
    name = ap (λ (k : Function). k.name) m.plain ∙ sym m.is_flat.name;
    result = ap (λ (k : Function). k.result) m.plain ∙ sym m.is_flat.result;
    file_only = ap (λ (k : Function). k.file_only) m.plain ∙ sym m.is_flat.file_only;
    params = moved_params;
    parameters = moved_parameters;
    body = ap (λ (k : Function). is_some k.body) m.plain ∙ sym (ap is_some m.is_flat.old_body);
  }

  pub moved_keeps : KeepsSlots f.slots h.slots
  moved_keeps = subst (KeepsSlots f.slots) (sym moved_slots)
      (keeps_more f.slots m.flat_form.slots more (extended f.params f.slots m.flat_form.slots m.is_flat.slots m.is_flat.parameters m.is_flat.constants))

-- ---- a function without jumps

module _ (f h : Function) (m : IsUnmovedForm f h) where
  pub unmoved_slots : h.slots ≡ f.slots
  unmoved_slots = ap (λ (k : Function). k.slots) m.plain ∙ m.is_left.slots

  pub unmoved_params : h.params ≡ f.params
  unmoved_params = ap (λ (k : Function). k.params) m.plain ∙ sym m.is_left.params

  pub unmoved_declared : SameDeclaration f h
  unmoved_declared = record {
    name = ap (λ (k : Function). k.name) m.plain ∙ sym m.is_left.name;
    result = ap (λ (k : Function). k.result) m.plain ∙ sym m.is_left.result;
    file_only = ap (λ (k : Function). k.file_only) m.plain ∙ sym m.is_left.file_only;
    params = unmoved_params;
    parameters = (λ i. take (unmoved_params i) (unmoved_slots i));
    body = ap (λ (k : Function). is_some k.body) m.plain ∙ sym (ap is_some m.is_left.old_body);
  }

  pub unmoved_keeps : KeepsSlots f.slots h.slots
  unmoved_keeps = subst (KeepsSlots f.slots) (sym unmoved_slots) (keeps_self f.slots)

-- ---- the file

pub same_file : (Own : Function → Function → Type 0) (counts : FlatCounts) (all : List Top) {ts us : List Top} → PlainTops Own ts us →
    Each (IsResolvedTop counts all) ts → SameFile ts us
same_file Own counts all pt_none r = sf_none
same_file Own counts all (pt_more (pt_moved {f = f} {h = h} m o) s) r = sf_function (moved_declared f h m r.0.form.parameters) (same_file Own counts all s r.1)
same_file Own counts all (pt_more (pt_unmoved {f = f} {h = h} m) s) r = sf_function (unmoved_declared f h m) (same_file Own counts all s r.1)
same_file Own counts all (pt_more (pt_declared f e) s) r = sf_function (self_declared f) (same_file Own counts all s r.1)
same_file Own counts all (pt_more (pt_other t n) s) r = sf_other t n (same_file Own counts all s r.1)
