-- What a function of a resolved program is lowered to is resolved by itself, and spelled, and its names are bound.
use Rattle.std.proofs.Common.{◌≡◌, ℕ, zero, suc, ◌+◌, ◌-◌, ◌≤◌, ◌<◌, arith, false, List, [], length, Option, Some, None, is_some, get_or, refl, sym, ap, subst, ◌∙◌}
use Rattle.std.specs.Prelude.{IfSome, IsSomeAnd}
use Rattle.c_types.specs.declared.kinds.IntKind.{IntKind}
use Rattle.c_types.specs.Words.{is_known}
use Rattle.c_copies.specs.Names.{names, file_names, function_names}
use Rattle.c_tree.specs.declared.tree.Function.{Function}
use Rattle.c_tree.specs.declared.tree.Item.{Item}
use Rattle.c_tree.specs.declared.tree.Program.{Program}
use Rattle.c_tree.specs.declared.tree.Slot.{Slot}
use Rattle.c_tree.specs.declared.tree.Top.{Top}
use Rattle.c_tree.specs.Trees.{Tree, Forest, Nil, Then, Evaluate, Return, Local, Goto, Mark, Note, join, trees_of}
use Rattle.c_tree.specs.Everywhere.{total, Everywhere, EverywhereOf}
use Rattle.c_tree.specs.InRange.{body_of}
use Rattle.c_tree.specs.Numerals.{constant}
use Rattle.c_tree.proofs.KeptLemmas.{everywhere_join}
use Rattle.c_tree.proofs.WellMoved.{everywhere_map}
use Rattle.flat_names.specs.FlatNames.{Named, with_known}
use Rattle.lower_laws.specs.Lowered.{lowered_body, declarations, variables_of}
use Rattle.lower_laws.specs.Functions.{AreFlat}
use Rattle.c_resolved_defs.specs.Within.{Each, AllDiffer}
use Rattle.c_resolved_defs.specs.Kinds.{ItemAgrees, KeepsConsts, ReturnFits}
use Rattle.c_resolved_defs.specs.Limits.{FlatCounts, IsUntangled}
use Rattle.c_resolved_defs.specs.Names.{Names}
use Rattle.c_resolved_defs.specs.PrintablePrograms.{ParametersPrint}
use Rattle.c_resolved_defs.specs.PrintableExpressions.{IsName}
use Rattle.c_resolved_defs.specs.PrintableStatements.{most, depth}
use Rattle.c_resolved_defs.specs.Resolved.{IsInitialised, IsResolvedFunction, names_in}
use Rattle.c_resolved_defs.specs.Scopes.{Scope, look_up, inside, with_parameters, AreBound}
use Rattle.c_resolved_defs.specs.Spelling.{AreSpelled, BodyIsSpelled, HasName, FunctionIsSpelled}
use Rattle.c_resolved_defs.specs.Switches.{HasCases}
use Rattle.c_resolved_laws.specs.Laws.{IsUndeclaring}
use Rattle.whole_laws.specs.Names.{IsFreeIn}
use Rattle.whole_laws.proofs.Facts.{AnyNote}
use Rattle.whole_laws.proofs.ItemKinds.{HasKinds, Agrees, Returned, from_kinds}
use Rattle.whole_laws.proofs.MadeKinds.{Known, Value, Operand}
use Rattle.whole_laws.proofs.NamesKept.{KeepsNames, names_kept}
use Rattle.whole_laws.proofs.PlainSlots.{entry_there}
use Rattle.whole_laws.proofs.SameFile.{SameDeclaration, SameFile, global_over, callee_over}
use Rattle.whole_laws.proofs.ScopeLists.{IsNoSlot}
use Rattle.whole_laws.proofs.SourceBound.{DeclaresIn}
use Rattle.lower_result_laws.proofs.OwnNames.{AreAmong}
use Rattle.lower_laws.specs.Lowering.{most_held, constructs, label_codes, label_names}
use Rattle.lower_result_laws.proofs.Variables.{used_behind, variables_are}
use Rattle.lower_result_laws.proofs.Lowered.{body_is, blocks, result}
use Rattle.lower_result_laws.proofs.FactsLowered.{H}
use Rattle.lower_result_laws.proofs.LoweredFacts.{new_slots, slots_length, list, front}
use Rattle.lower_result_laws.proofs.LoweredSlots.{same_parameters, slots_kept, lengths_kept}
use Rattle.lower_result_laws.proofs.LoweredKinds.{lowered_kinds, list_kinds}
use Rattle.lower_result_laws.proofs.Numbered.{FlatView, fv_evaluate, fv_return, fv_note, fv_local, fv_goto, fv_mark, fv_jump, view}
use Rattle.lower_result_laws.proofs.GotosStand.{OfGoto}
use Rattle.lower_result_laws.specs.Modest.{IsModestItem}
use Rattle.lower_result_laws.proofs.FreshOnes.{labels_length, labels_named, labels_apart}
use Rattle.lower_result_laws.proofs.OwnNames as O
use Rattle.whole_laws.proofs.FileScopes.{declares_in}
use Rattle.lower_result_laws.proofs.LoweredForm.{are_codes, codes_apart, body_flat, list_flat, list_marks, gotos_below, lowered_form}
use Rattle.lower_result_laws.proofs.LoweredBound.{lowered_bound}
use Rattle.lower_result_laws.proofs.LoweredSpelled.{flat_shallow, lowered_spelled}

-- ---- flat lists

fits_goto : (o : Option IntKind) (l : ℕ) → ReturnFits o (Goto l)
fits_goto None l = tt
fits_goto (Some k) l = tt

fits_mark : (o : Option IntKind) (l : ℕ) → ReturnFits o (Mark l)
fits_mark None l = tt
fits_mark (Some k) l = tt

module _ (k : Names) (o : Option IntKind) where
  agree : (xs : Forest) → AreFlat xs → Everywhere (HasKinds k o) xs → Everywhere (Agrees k o) xs
  agree Nil w h = tt
  agree (Then x xs) w h = (at (view x w.0) h.0, agree xs w.1 h.1)
    where
      goes : (l : ℕ) → Agrees k o (Goto l)
      goes l = (record { kinds = tt; values = tt }, (tt, fits_goto o l))

      at : {y : Tree} → FlatView y → EverywhereOf (HasKinds k o) y → EverywhereOf (Agrees k o) y
      at (fv_evaluate e) i = from_kinds k o (Evaluate e) i tt
      at (fv_return e) i = from_kinds k o (Return e) i tt
      at (fv_note bs) i = from_kinds k o (Note bs) i tt
      at (fv_local x) i = from_kinds k o (Local x None) i tt
      at (fv_goto l) i = goes l
      at (fv_mark l) i = (record { kinds = tt; values = tt }, (tt, fits_mark o l))
      at (fv_jump t l) i = (from_kinds k o _ i.0 tt, (goes l, tt), tt)

flat_cases : (xs : Forest) → AreFlat xs → Everywhere HasCases xs
flat_cases Nil w = tt
flat_cases (Then x xs) w = (at (view x w.0), flat_cases xs w.1)
  where
    at : {y : Tree} → FlatView y → EverywhereOf HasCases y
    at (fv_evaluate e) = tt
    at (fv_return e) = tt
    at (fv_note bs) = tt
    at (fv_local x) = tt
    at (fv_goto l) = tt
    at (fv_mark l) = tt
    at (fv_jump t l) = (tt, (tt, tt), tt)

module _ (slots : List Slot) where
  uninitialised : (xs : Forest) → AreFlat xs → Everywhere IsUndeclaring xs → Everywhere (IsInitialised slots) xs
  uninitialised Nil w u = tt
  uninitialised (Then x xs) w u = (at (view x w.0) u.0, uninitialised xs w.1 u.1)
    where
      at : {y : Tree} → FlatView y → EverywhereOf IsUndeclaring y → EverywhereOf (IsInitialised slots) y
      at (fv_evaluate e) v = tt
      at (fv_return e) v = tt
      at (fv_note bs) v = tt
      at (fv_local x) v = absurd v
      at (fv_goto l) v = tt
      at (fv_mark l) v = tt
      at (fv_jump t l) v = (tt, (tt, tt), tt)

  declared_there : (x n : ℕ) → x + n ≤ length slots → Everywhere (IsInitialised slots) (declarations x n)
  declared_there x zero b = tt
  declared_there x (suc n) b = (
    subst (λ o. IsSomeAnd o (λ (r : Slot). Unit {0})) (sym (entry_there slots x (omega (arith, b)))) tt,
    declared_there (suc x) n (omega (arith, b)),
  )

-- ---- a function of a resolved program, lowered with the names of the program

module _ (counts : FlatCounts) (p : Program) (f : Function) (r : IsResolvedFunction counts p.tops f) (s : FunctionIsSpelled f)
    (among : AreAmong (function_names f) (names p)) (few : length (names p) ≤ most_held) (old : List Item) (there : f.body ≡ Some old)
    (new : List Item) (trees : trees_of new ≡ lowered_body constant f.params f.slots (trees_of old)) where
  abbrev used : List (List ℕ)
  used = with_known (names p)

  abbrev taken : List (List ℕ)
  taken = with_known (file_names p)

  abbrev a : Forest
  a = trees_of old

  abbrev params : f.params ≤ length f.slots
  params = r.form.parameters

  -- what it is lowered to
  abbrev pub h : Function
  h = result counts p.tops f r used taken old there new

  abbrev G : List Slot
  G = new_slots f params used taken a

  abbrev D : Forest
  D = front f params used taken a

  abbrev L : Forest
  L = list f params used taken a

  same : body_of f ≡ a
  same = body_is f old there

  pub same_declaration : SameDeclaration f h
  same_declaration = record {
    name = refl;
    result = refl;
    file_only = refl;
    params = refl;
    parameters = same_parameters f params used taken a;
    body = ap is_some (sym there);
  }

  -- ---- labels

  abbrev end : List (List ℕ)
  end = used_behind 1 (constructs a) (blocks used taken f a).used

  abbrev codes : List ℕ
  codes = label_codes f a

  labels_are : h.labels ≡ label_names f.labels end 1 codes
  labels_are = ap (λ (n : Named). label_names f.labels n.used 1 codes) (variables_are 1 (constructs a) (blocks used taken f a))

  own_label : (l : ℕ) → l < length f.labels → IsName (get_or f.labels l [])
  own_label = O.source_labels counts p f r s among few old there

  as_many : length h.labels ≡ length codes
  as_many = ap length labels_are ∙ labels_length f.labels s.labels own_label end 1 codes

  labels_are_names : Each IsName h.labels
  labels_are_names = subst (Each IsName) (sym labels_are) (labels_named f.labels s.labels own_label end 1 codes
      (are_codes counts p.tops f r used taken old there))

  labels_differ : length h.slots ≤ most_held → length h.labels ≤ most_held → AllDiffer h.labels
  labels_differ held labels =
      let n = O.few_used counts p f r s among few old there held in
      let l = slots_length f params used taken a in
      let m = as_many in
      subst AllDiffer (sym labels_are)
      (labels_apart f.labels s.labels own_label end 1 codes (are_codes counts p.tops f r used taken old there)
      (codes_apart counts p.tops f r used taken old there new trees)
      (O.labels_used_then counts p f r s among few old there held) (omega (arith, n, l, m, held, labels, few)))

  -- ---- the body

  whole_flat : AreFlat (join D L)
  whole_flat = body_flat counts p.tops f r used taken old there new trees

  flat : AreFlat L
  flat = list_flat counts p.tops f r used taken old there new trees

  source_body : BodyIsSpelled f old
  source_body = subst (λ o. IfSome o (BodyIsSpelled f)) there s.body

  gotos : Everywhere (OfGoto (λ l. l < length h.labels)) (join D L)
  gotos = gotos_below counts p.tops f r used taken old there new trees as_many

  -- ---- kinds, where the file has the same declarations

  module _ (us : List Top) (file : SameFile p.tops us) where
    abbrev N : Names
    N = names_in us h

    kept : KeepsNames (names_in p.tops f) N
    kept = names_kept (names_in p.tops f) N (slots_kept f params used taken a) (λ m. global_over m file) (λ m. callee_over m f.slots G file)

    kinds_of : Everywhere (HasKinds N f.result) (join D L)
    kinds_of =
        subst (λ b. Everywhere (HasKinds N f.result) (join (front f params used taken b) (list f params used taken b))) same
        (lowered_kinds counts p.tops f r used taken N (ap (λ b. new_slots f params used taken b) (sym same)) kept)

    undeclaring : Everywhere IsUndeclaring L
    undeclaring =
        subst (λ b. Everywhere IsUndeclaring (list f params used taken b)) same
        (everywhere_map (H (Value N) (Operand N) (Known N) (Returned N f.result) AnyNote) IsUndeclaring (λ x i. i.1) (list f params used taken (body_of f))
        (list_kinds counts p.tops f r used taken N (ap (λ b. new_slots f params used taken b) (sym same)) kept))

    agreeing : Everywhere (Agrees N f.result) (join D L)
    agreeing = agree N f.result (join D L) whole_flat kinds_of

    pub function_resolved : (counts' : FlatCounts) → IsUntangled counts' h → IsResolvedFunction counts' us h
    function_resolved counts' untangled =
        let n = slots_length f params used taken a in
        let lengths = lengths_kept f params used taken a r.lengths in
        record {
          form = lowered_form counts p.tops f r used taken old there new trees as_many undeclaring;
          kinds = subst (Everywhere (ItemAgrees N)) (sym trees) (everywhere_map (Agrees N f.result) (ItemAgrees N) (λ x g. g.0) (join D L) agreeing);
          returns = subst (Everywhere (ReturnFits f.result)) (sym trees)
              (everywhere_map (Agrees N f.result) (ReturnFits f.result) (λ x g. g.1.1) (join D L) agreeing);
          cases = subst (Everywhere HasCases) (sym trees) (flat_cases (join D L) whole_flat);
          consts = subst (Everywhere (KeepsConsts N)) (sym trees) (everywhere_map (Agrees N f.result) (KeepsConsts N) (λ x g. g.1.0) (join D L) agreeing);
          lengths = record { parameters = lengths.0; others = lengths.1 };
          initialised = subst (Everywhere (IsInitialised G)) (sym trees)
              (everywhere_join (IsInitialised G) D L (declared_there G f.params (length f.slots - f.params + total variables_of a)
              (omega (arith, n, params))) (uninitialised G L flat undeclaring));
          untangled = untangled;
        }

  -- ---- names and limits

  module _ (held : length h.slots ≤ most_held) where
    pub function_spelled : length h.labels ≤ most_held → Everywhere IsModestItem (body_of f) → FunctionIsSpelled h
    function_spelled labels modest =
        let own = O.variables_own counts p f r s among few old there held in
        let lengths = lengths_kept f params used taken a r.lengths in
        let parameters = same_parameters f params used taken a in
        let marked = list_marks counts p.tops f r used taken old there new trees as_many in
        let below = everywhere_right D L gotos in
        let items = lowered_spelled f params used taken a p.tops own lengths.1 h refl labels_are_names source_body.items
        (subst (Everywhere IsModestItem) same modest) (subst (Everywhere (IsInitialised f.slots)) same r.initialised)
        (subst (Everywhere (DeclaresIn f.params (length f.slots))) same (declares_in counts p.tops f r)) flat below marked in
        record {
          named = s.named;
          parameters = subst ParametersPrint (sym parameters) s.parameters;
          all_named = λ some. subst (Each HasName) (sym parameters) (s.all_named (ap is_some there));
          labels = labels_differ held labels;
          body = record {
            items = subst (AreSpelled h) (sym trees) items;
            shallow = subst (λ b. 1 + depth b ≤ most) (sym trees) (flat_shallow (join D L) whole_flat);
          };
        }
      where
        everywhere_right : (xs ys : Forest) → Everywhere (OfGoto (λ l. l < length h.labels)) (join xs ys) → Everywhere (OfGoto (λ l. l < length h.labels)) ys
        everywhere_right Nil ys g = g
        everywhere_right (Then x xs) ys g = everywhere_right xs ys g.1

    pub function_bound : (file : List Scope) → ((n : List ℕ) → IsNoSlot (look_up file n)) →
        ((n : List ℕ) → IsFreeIn p.tops n → is_known n ≡ false → look_up file n ≡ None)
        → AreBound f.slots (with_parameters f.params 0 f.slots (inside file)) (body_of f) →
        AreBound G (with_parameters f.params 0 G (inside file)) (trees_of new)
    function_bound file no_slots unbound bound =
        let own = O.variables_own counts p f r s among few old there held in
        subst (AreBound G (with_parameters f.params 0 G (inside file))) (sym trees)
        (lowered_bound f params used taken a p.tops own file no_slots unbound
        (subst (AreBound f.slots (with_parameters f.params 0 f.slots (inside file))) same bound)
        (subst (Everywhere (DeclaresIn f.params (length f.slots))) same (declares_in counts p.tops f r)) flat)
