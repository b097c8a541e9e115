-- The form of a lowered function: its variables are declared in front, and its labels stand in order.
use Rattle.std.proofs.Common.{◌≡◌, ℕ, zero, suc, ◌+◌, ◌-◌, ◌≤◌, ◌<◌, arith, true≢false, List, [], ◌∷◌, ◌++◌, length, Some, refl, sym, ap, subst, ◌∙◌}
use Rattle.std.proofs.lemmas.List.{append-nil}
use Rattle.c_tree.specs.declared.tree.Function.{Function}
use Rattle.c_tree.specs.declared.tree.Item.{Item}
use Rattle.c_tree.specs.declared.tree.Top.{Top}
use Rattle.c_tree.specs.Exits.{breaks, continues}
use Rattle.c_tree.specs.Labels.{ItemLabels}
use Rattle.c_tree.specs.Trees.{Tree, Forest, Nil, Then, Goto, join, trees_of}
use Rattle.c_tree.specs.Everywhere.{total, Everywhere, EverywhereOf}
use Rattle.c_tree.specs.Numerals.{constant}
use Rattle.c_tree.proofs.WellMoved.{everywhere_map}
use Rattle.jump_meaning.specs.Code.{function_tree}
use Rattle.flat_laws.specs.Placed.{Has}
use Rattle.flat_laws.specs.FlatForm.{marks, first_here}
use Rattle.lower_laws.specs.Lowered.{coded, lowered_body, declarations, variables_of}
use Rattle.lower_laws.specs.Source.{HasOwnLabels}
use Rattle.lower_laws.specs.Functions.{AreFlat, IsLowered}
use Rattle.lower_laws.proofs.LoweredPrograms.{lowered_laws}
use Rattle.c_resolved_defs.specs.Within.{Each, AllDiffer}
use Rattle.c_resolved_defs.specs.Form.{gathered, declared_slot, marked_label, numbers_from, HasNoLoose, HasSourceForm, HasForm}
use Rattle.c_resolved_defs.specs.Limits.{FlatCounts}
use Rattle.c_resolved_defs.specs.Resolved.{IsResolvedFunction}
use Rattle.c_resolved_laws.specs.Laws.{IsUndeclaring}
use Rattle.c_resolved_laws.proofs.LabelsGiven.{count_in}
use Rattle.c_resolved_laws.proofs.Ranged.{function_ranged, numbers_below}
use Rattle.whole_laws.proofs.PlainForms.{gathered_join}
use Rattle.lower_laws.specs.Lowering.{label_codes}
use Rattle.lower_result_laws.proofs.Lowered.{body_is, result, is_lowered}
use Rattle.lower_result_laws.proofs.OwnLabels.{function_own}
use Rattle.lower_result_laws.proofs.LoweredFacts.{slots_length, list, front}
use Rattle.lower_result_laws.proofs.Marks.{Makes, Placed, marks_join, none_declared, marks_both}
use Rattle.lower_result_laws.proofs.Numbered.{FlatView, fv_evaluate, fv_return, fv_note, fv_local, fv_goto, fv_mark, fv_jump, view, flat_places, flat_gathered, flat_has, AtPlaces, InOrder, numbered}
use Rattle.lower_result_laws.proofs.GotosStand.{OfGoto, gotos_stand}
use Rattle.lower_result_laws.proofs.FreshOnes.{IsCode}

-- ---- flat lists

flat_right : (xs ys : Forest) → AreFlat (join xs ys) → AreFlat ys
flat_right Nil ys h = h
flat_right (Then x xs) ys h = flat_right xs ys h.1

module _ (h : Function) where
  flat_forms : (xs : Forest) → AreFlat xs → Everywhere (OfGoto (λ l. l < length h.labels)) xs → Everywhere (HasSourceForm h) xs
  flat_forms Nil w g = tt
  flat_forms (Then x xs) w g = (at (view x w.0) g.0, flat_forms xs w.1 g.1)
    where
      at : {y : Tree} → FlatView y → EverywhereOf (OfGoto (λ l. l < length h.labels)) y → EverywhereOf (HasSourceForm h) y
      at (fv_evaluate e) i = tt
      at (fv_return e) i = tt
      at (fv_note bs) i = tt
      at (fv_local x) i = tt
      at (fv_goto l) i = i
      at (fv_mark l) i = tt
      at (fv_jump t l) i = (tt, (i.1.0, tt), tt)

flat_unloose : (xs : Forest) → AreFlat xs → HasNoLoose xs
flat_unloose Nil w = tt
flat_unloose (Then x xs) w = at (view x w.0) (flat_unloose xs w.1)
  where
    at : {y : Tree} → FlatView y → HasNoLoose xs → HasNoLoose (Then y xs)
    at (fv_evaluate e) i = (tt, i)
    at (fv_return e) i = (tt, i)
    at (fv_note bs) i = (tt, i)
    at (fv_local x) i = (tt, i)
    at (fv_goto l) i = (tt, i)
    at (fv_mark l) i = (tt, i)
    at (fv_jump t l) i = (((tt, tt), tt), i)

flat_exits : (xs : Forest) → AreFlat xs → breaks xs + continues xs ≡ 0
flat_exits Nil w = refl
flat_exits (Then x xs) w = at (view x w.0) (flat_exits xs w.1)
  where
    at : {y : Tree} → FlatView y → breaks xs + continues xs ≡ 0 → breaks (Then y xs) + continues (Then y xs) ≡ 0
    at (fv_evaluate e) i = omega (arith, i)
    at (fv_return e) i = omega (arith, i)
    at (fv_note bs) i = omega (arith, i)
    at (fv_local x) i = omega (arith, i)
    at (fv_goto l) i = omega (arith, i)
    at (fv_mark l) i = omega (arith, i)
    at (fv_jump t l) i = omega (arith, i)

flat_undeclared : (xs : Forest) → AreFlat xs → Everywhere IsUndeclaring xs → gathered declared_slot xs ≡ []
flat_undeclared Nil w u = refl
flat_undeclared (Then x xs) w u = at (view x w.0) u.0 (flat_undeclared xs w.1 u.1)
  where
    at : {y : Tree} → FlatView y → EverywhereOf IsUndeclaring y → gathered declared_slot xs ≡ [] → gathered declared_slot (Then y xs) ≡ []
    at (fv_evaluate e) v i = i
    at (fv_return e) v i = i
    at (fv_note bs) v i = i
    at (fv_local x) v i = absurd v
    at (fv_goto l) v i = i
    at (fv_mark l) v i = i
    at (fv_jump t l) v i = i

pub declared : (x n : ℕ) → gathered declared_slot (declarations x n) ≡ numbers_from x n
declared x zero = refl
declared x (suc n) = ap (λ l. x ∷ l) (declared (suc x) n)

-- ---- codes

makes : (f : Function) (a : Forest) → Makes (coded constant f.slots a) (λ l. l < length f.labels) (IsCode (length f.labels))
makes f a = record {
  source = λ l h e. omega (arith, h);
  breaks = λ k e. absurd (omega (arith, e));
  continues = λ k e. absurd (omega (arith, e));
  defaults = λ k e. absurd (omega (arith, e));
  cases = λ j e. absurd (omega (arith, e));
  heads = λ k e. absurd (omega (arith, e));
  lists = λ k e. absurd (omega (arith, e));
}

-- ---- a function of a resolved program, and what it is lowered to

module _ (counts : FlatCounts) (ts : List Top) (f : Function) (r : IsResolvedFunction counts ts f) (used taken : List (List ℕ)) (old : List Item)
    (there : f.body ≡ Some old) where
  abbrev params : f.params ≤ length f.slots
  params = r.form.parameters

  abbrev pub source : Forest
  source = trees_of old

  abbrev codes : List ℕ
  codes = label_codes f source

  abbrev L : Forest
  L = list f params used taken source

  abbrev D : Forest
  D = front f params used taken source

  known_labels : Everywhere (ItemLabels (λ l. l < length f.labels)) source
  known_labels = subst (Everywhere (ItemLabels (λ l. l < length f.labels))) (body_is f old there) (function_ranged counts ts f r).labels

  placed : Placed codes (coded constant f.slots source) (λ l. l < length f.labels) (IsCode (length f.labels)) (makes f source) codes (marks L)
  placed = marks_both codes (coded constant f.slots source) (λ l. l < length f.labels) (IsCode (length f.labels)) (makes f source)
      (first_here (length f.slots)) source known_labels

  codes_known : (xs ys : List ℕ) → Placed codes (coded constant f.slots source) (λ l. l < length f.labels) (IsCode (length f.labels)) (makes f source)
      xs ys → Each (IsCode (length f.labels)) xs × AtPlaces codes xs ys
  codes_known [] [] h = (tt, tt)
  codes_known (x ∷ xs) (y ∷ ys) h = let i = codes_known xs ys h.2 in ((h.0, i.0), (h.1, i.1))
  codes_known [] (y ∷ ys) h = absurd h
  codes_known (x ∷ xs) [] h = absurd h

  pub are_codes : Each (IsCode (length f.labels)) codes
  are_codes = (codes_known codes (marks L) placed).0

  module _ (new : List Item) (trees : trees_of new ≡ lowered_body constant f.params f.slots source) where
    abbrev pub h : Function
    h = result counts ts f r used taken old there new

    lowered : IsLowered (function_tree f) (function_tree h)
    lowered = is_lowered counts ts f r used taken old there new trees

    pub body_flat : AreFlat (join D L)
    body_flat = subst AreFlat trees (lowered_laws.flat (function_tree f) (function_tree h) lowered)

    pub list_flat : AreFlat L
    list_flat = flat_right D L body_flat

    body_marks : marks (join D L) ≡ marks L
    body_marks = marks_join D L ∙ ap (λ l. l ++ marks L) (none_declared f.params (length f.slots - f.params + total variables_of source))

    once : (l : ℕ) → count_in l (marks L) ≤ 1
    once l =
        let own = subst (HasOwnLabels (length f.labels)) (body_is f old there) (function_own counts ts f r) in
        let o = lowered_laws.once constant f.params f.slots (length f.labels) source own l in
        let p = flat_places l (join D L) body_flat in
        let m = ap (count_in l) body_marks in
        omega (arith, o, p, m)

    order : InOrder codes (marks L)
    order = numbered codes (marks L) (codes_known codes (marks L) placed).1 once

    pub codes_apart : AllDiffer codes
    codes_apart = order.apart

    module _ (labels : length h.labels ≡ length codes) where
      below : Each (λ l. l < length h.labels) (marks (join D L))
      below =
          subst (Each (λ l. l < length h.labels)) (sym (body_marks ∙ order.numbers))
          (numbers_below 0 (length codes) (length h.labels) (omega (arith, labels)))

      -- each label of the list is one of its labels
      pub list_marks : Each (λ l. l < length h.labels) (marks L)
      list_marks = subst (Each (λ l. l < length h.labels)) body_marks below

      pub gotos_below : Everywhere (OfGoto (λ l. l < length h.labels)) (join D L)
      gotos_below =
          everywhere_map (OfGoto (λ l. Has l (join D L))) (OfGoto (λ l. l < length h.labels)) goto_below (join D L)
          (subst (λ a. Everywhere (OfGoto (λ l. Has l a)) a) trees (gotos_stand (function_tree f) (function_tree h) lowered))
        where
          goto_below : (x : Tree) → OfGoto (λ l. Has l (join D L)) x → OfGoto (λ l. l < length h.labels) x
          goto_below (Goto l) i = flat_has (λ m. m < length h.labels) l (join D L) body_flat below i
          goto_below x i = tt

      pub lowered_form : Everywhere IsUndeclaring L → HasForm h
      lowered_form undeclaring =
          let n = slots_length f params used taken source in
          record {
            unflat = refl;
            parameters = omega (arith, n, params);
            prototype = λ e. absurd (true≢false e);
            items = subst (Everywhere (HasSourceForm h)) (sym trees) (flat_forms h (join D L) body_flat gotos_below);
            slots =
                ap (gathered declared_slot) trees ∙ gathered_join declared_slot D L
                ∙ (λ i. declared f.params (length f.slots - f.params + total variables_of source) i ++ flat_undeclared L list_flat undeclaring i)
                ∙ append-nil (numbers_from f.params (length f.slots - f.params + total variables_of source))
                ∙ ap (numbers_from f.params) (omega (arith, n, params));
            labels = ap (gathered marked_label) trees ∙ flat_gathered (join D L) body_flat ∙ body_marks ∙ order.numbers ∙ ap (numbers_from 0) (sym labels);
            cases = subst HasNoLoose (sym trees) (flat_unloose (join D L) body_flat);
            exits = ap (λ a. breaks a + continues a) trees ∙ flat_exits (join D L) body_flat;
          }
