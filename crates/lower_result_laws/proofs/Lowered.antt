-- What a function of a resolved program is lowered to has the flat list of gotos of its body.
use Rattle.std.proofs.Common.{◌≡◌, ℕ, ◌+◌, ◌-◌, ◌≤◌, ◌<◌, arith, false, cond, List, ◌++◌, length, Some, None, refl, sym, ap, subst, ◌∙◌}
use Rattle.std.specs.Option.{option_map_or}
use Rattle.c_tree.specs.declared.tree.Item.{Item}
use Rattle.c_tree.specs.declared.tree.Slot.{Slot}
use Rattle.c_tree.specs.declared.tree.Function.{Function}
use Rattle.c_tree.specs.declared.tree.Top.{Top}
use Rattle.c_tree.specs.Everywhere.{total, Everywhere}
use Rattle.c_tree.specs.InRange.{body_of}
use Rattle.c_tree.specs.Numerals.{constant}
use Rattle.c_tree.specs.TextItems.{is_empty}
use Rattle.c_tree.specs.Trees.{Forest, Nil, join, trees_of}
use Rattle.c_tree.specs.Exits.{breaks, continues}
use Rattle.jump_meaning.specs.Code.{function_tree, items_of}
use Rattle.flat_laws.specs.Pieces.{Stays}
use Rattle.flat_laws.specs.Placed.{IsOnce, Has}
use Rattle.flat_laws.specs.Loose.{Setting, NoArrival, ExtendSlots}
use Rattle.flat_laws.proofs.Spelled.{spelled_numbers}
use Rattle.flat_laws.specs.Parts.{arrivals, is_named}
use Rattle.flat_laws.specs.FlatForm.{marks, first_here}
use Rattle.flat_laws.specs.Source.{IsSourceItem}
use Rattle.flat_names.specs.FlatNames.{Named, named_slots}
use Rattle.flat_laws.specs.FlatWellMadeLaws.{IsGoodSource}
use Rattle.flat_laws.proofs.WellMade.{made_laws}
use Rattle.lower_laws.specs.Lowered.{Layout, coded, placed, lowered, lowered_body, declarations, variables_of}
use Rattle.lower_laws.specs.Source.{IsSourceBody, HaveVariables, HasOwnLabels}
use Rattle.lower_laws.specs.Functions.{IsLowered}
use Rattle.lower_laws.proofs.LoweredPrograms.{lowered_laws}
use Rattle.c_resolved_defs.specs.Limits.{FlatCounts}
use Rattle.c_resolved_defs.specs.Resolved.{IsResolvedFunction}
use Rattle.c_resolved_laws.proofs.GoodSource.{good_source}
use Rattle.c_resolved_laws.proofs.SourceGiven.{function_source, function_calm}
use Rattle.flat_function.proofs.Forms.{named_length}
use Rattle.lower_laws.specs.Lowering.{constructs, lowered_names}
use Rattle.whole_laws.proofs.Flattened.{cells_stay, defined, items_body}
use Rattle.lower_result_laws.proofs.Variables.{kinds, more_variables, variables_are, more_numbers, have, at_numbers, extended}
use Rattle.lower_result_laws.proofs.OwnLabels.{function_own}

-- ---- bodies

pub body_is : (f : Function) (a : List Item) → f.body ≡ Some a → body_of f ≡ trees_of a
body_is f a e = ap (λ o. option_map_or trees_of o Nil) e

no_sum : (m n : ℕ) → m + n ≡ 0 → (m ≡ 0) × (n ≡ 0)
no_sum m n e = (omega (arith, e), omega (arith, e))

-- ---- the labels of a function, and what both have in common

-- the labels of its flat list
abbrev pub layout_of : Function → Forest → Layout
layout_of f a = placed (marks (lowered (coded constant f.slots a) (first_here (length f.slots)) Stays Stays NoArrival a)) (coded constant f.slots a)

-- with these variables of what it is lowered to
abbrev pub setting : Function → Forest → List Slot → Setting
setting f a new = record {
  labels = λ l. cond ((layout_of f a).plan.live l) (Some ((layout_of f a).plan.source l)) None;
  params = f.params;
  old = f.slots;
  new = new;
  number = constant;
  numbers = spelled_numbers;
}

module _ (used taken : List (List ℕ)) (f : Function) (a : Forest) where
  -- the variables of the source with their names, and those of the switches
  abbrev pub blocks : Named
  blocks = named_slots f.params taken used f.slots

  abbrev pub switches : List Slot
  switches = more_variables 1 (constructs a) blocks.used

  pub slots_are : (lowered_names used taken f a).slots ≡ blocks.slots ++ switches
  slots_are = ap (λ (n : Named). n.slots) (variables_are 1 (constructs a) blocks)

  pub slots_extend : ExtendSlots f.slots (lowered_names used taken f a).slots
  slots_extend = subst (ExtendSlots f.slots) (sym slots_are)
      (extended switches (kinds (constructs a)) (more_numbers 1 (constructs a) blocks.used) f.params taken used f.slots)

  pub have_variables : f.params ≤ length f.slots → HaveVariables (setting f a (lowered_names used taken f a).slots) (first_here (length f.slots)) a
  have_variables params =
      let l = named_length f.params taken used f.slots in
      let s = setting f a (lowered_names used taken f a).slots in
      have s (first_here (length f.slots)) (length blocks.slots) a (sym l)
      (at_numbers s blocks.slots switches (kinds (constructs a)) (more_numbers 1 (constructs a) blocks.used) slots_are (omega (arith, params, l))
      (omega (arith, l)))

-- ---- a function of a resolved program

module _ (counts : FlatCounts) (ts : List Top) (f : Function) (r : IsResolvedFunction counts ts f) (used taken : List (List ℕ)) (old : List Item)
    (there : f.body ≡ Some old) where
  abbrev pub body : Forest
  body = body_of f

  -- what it is lowered to, with this body
  abbrev pub result : List Item → Function
  result new = record f {
    slots = (lowered_names used taken f (trees_of old)).slots;
    labels = (lowered_names used taken f (trees_of old)).labels;
    body = Some new;
    flat = false;
  }

  module _ (new : List Item) (trees : trees_of new ≡ lowered_body constant f.params f.slots (trees_of old)) where
    abbrev h : Function
    h = result new

    abbrev a : Forest
    a = trees_of old

    same : items_of (function_tree f) ≡ a
    same = items_body f old there ∙ body_is f old there

    source : IsSourceBody (layout_of f a) (setting f a h.slots) (first_here (length f.slots)) a
    source =
        let s = setting f a h.slots in
        let stay = λ (x : ℕ) (b : x < length f.slots). cells_stay f.slots h.slots (slots_extend used taken f a) x b in
        record {
          labels = λ l. refl;
          slots = λ x b. stay x b.1;
          number = refl;
          items = subst (λ z. Everywhere (IsSourceItem s (is_named z)) z) (body_is f old there)
              (function_source counts ts f s r (record { old = refl; params = refl; cells = stay }));
          variables = have_variables used taken f a r.form.parameters;
          bound = ap (λ z. is_empty (arrivals z)) (sym (body_is f old there)) ∙ function_calm counts ts f r;
        }

    own : HasOwnLabels (length f.labels) a
    own = subst (HasOwnLabels (length f.labels)) (body_is f old there) (function_own counts ts f r)

    good : IsGoodSource (length f.labels) a
    good = subst (IsGoodSource (length f.labels)) (body_is f old there) (good_source counts ts f r)

    unbound : (breaks a ≡ 0) × (continues a ≡ 0)
    unbound = no_sum (breaks a) (continues a) (ap (λ z. breaks z + continues z) (sym (body_is f old there)) ∙ r.form.exits)

    pub is_lowered : IsLowered (function_tree f) (function_tree h)
    is_lowered = record {
      layout = layout_of f a;
      setting = setting f a h.slots;
      here = first_here (length f.slots);
      first = f.params;
      count = length f.slots - f.params + total variables_of a;
      defined = defined f old there;
      new_defined = refl;
      source = subst (IsSourceBody (layout_of f a) (setting f a h.slots) (first_here (length f.slots))) (sym same) source;
      unbroken = ap breaks same ∙ unbound.0;
      uncontinued = ap continues same ∙ unbound.1;
      body = trees ∙ ap (λ z. join (declarations f.params (length f.slots - f.params + total variables_of a))
          (lowered (layout_of f a) (first_here (length f.slots)) Stays Stays NoArrival z)) (sym same);
      named = λ l i. subst (Has l) (sym same) (made_laws.named (length f.labels) a good l i);
      once = subst IsOnce (sym same) (made_laws.once (length f.labels) a good);
      new_once = subst IsOnce (sym trees) (lowered_laws.once constant f.params f.slots (length f.labels) a own);
      result = refl;
      params = refl;
      slots = slots_extend used taken f a;
      same_params = refl;
      same_old = refl;
      same_new = refl;
    }
