-- A lawful move names its function, and a label exactly where its kind has one.
use Rattle.std.proofs.Common.{◌≡◌, inl, inr, ℕ, zero, suc, ◌<◌, Bool, true, false, not, ◌&&◌, List, [], ◌∷◌, length, Option, Some, None, option_and_then, slice_get, refl, sym, ap, ap₂, subst, ◌∙◌, arith}
use Rattle.std.specs.List.{AllByRecursion}
use Rattle.c_tree.specs.declared.tree.Item.{Item, Leap as RealLeap}
use Rattle.c_tree.specs.declared.tree.Function.{Function}
use Rattle.c_tree.specs.declared.tree.Path.{Path}
use Rattle.c_tree.specs.declared.tree.Top.{Top}
use Rattle.c_tree.specs.declared.tree.Top.TheVariants as T
use Rattle.c_tree.specs.Everywhere.{Everywhere}
use Rattle.c_tree.specs.InRange.{IsInRange, IsTopInRange}
use Rattle.c_tree.specs.Labels.{ItemLabels}
use Rattle.c_tree.specs.Trees.{trees_of}
use Rattle.c_tree.proofs.RuleChanges.{stands}
use Rattle.c_tree.proofs.TreeLaws.{tree-Leap}
use Rattle.label_offsets.proofs.ItemFacts.{holds_at}
use Rattle.report_moves.specs.declared.moves.MoveKind.{MoveKind}
use Rattle.report_moves.specs.declared.moves.MoveKind.TheVariants.{Out, Lift, Inward}
use Rattle.report_moves.specs.declared.moves.Move.{Move}
use Rattle.report_moves.specs.Report.{is_name, names_label, HasLabel}
use Rattle.move_order_laws.specs.Next.{Point}
use Rattle.move_bodies.specs.Moving.{MovesTo}
use Rattle.move_bodies.specs.Lawful.{IsMadeIn}
use Rattle.guard_simplify.specs.Choice.{barred, choices}
use Rattle.c_resolved_defs.specs.PrintableExpressions.{IsName}
use Rattle.c_resolved_defs.specs.Within.{Each}
use Rattle.whole_laws.proofs.Flattened.{body_is}
use Rattle.restructure_laws.specs.Lawful.{IsLeapMoved, IsMovedBy, OneMoved, this_function, later_function}
use Rattle.restructure_laws.proofs.OneBody.{moved_leap}
use Rattle.restructure_laws.specs.ReplayedProgramLaws.{IsNamed}
use Rattle.restructure_laws.proofs.ChoiceLabels.{Labelled, list_labelled, one_labelled}

-- ---- names

pub name_is : (w : List ℕ) → IsName w → is_name w ≡ true
name_is w h = ap₂ (λ a b. a && not b) h.0 h.1

-- the label that a number stands for
named_some : (labels : List (List ℕ)) (l : ℕ) (o : Option (List ℕ)) → Each IsName labels → l < length labels → slice_get labels l ≡ o → HasLabel true o
named_some [] l o h b e = absurd (omega (arith, b))
named_some (w ∷ ws) zero o h b e = subst (HasLabel true) e (name_is w h.0)
named_some (w ∷ ws) (suc l) o h b e = named_some ws l o h.1 (omega (arith, b)) e

-- ---- a move of a Leap

leap_kind : (to : Option Path) (k : MoveKind) (l : ℕ) (p : Point) (new : List Item) → MovesTo to k l p new → names_label k ≡ true
leap_kind None k l p new h = ap names_label h.0
leap_kind (Some to) Out l p new h = refl
leap_kind (Some to) Lift l p new h = refl
leap_kind (Some to) Inward l p new h = refl
leap_kind (Some to) _ l p new h = absurd h

abbrev Below : ℕ → ℕ → Type 0
Below n l = l < n

leap_named : (labels : List (List ℕ)) (m : Move) (old new : List Item) → Each IsName labels →
    Everywhere (ItemLabels (Below (length labels))) (trees_of old) → IsLeapMoved labels m old new → HasLabel (names_label m.kind) m.label
leap_named labels m old new names ranged h =
    let s = stands old m.path.steps m.path.item (RealLeap h.label) (moved_leap labels m old new h) in
    let there = holds_at (ItemLabels (Below (length labels))) old m.path.steps s.list m.path.item (RealLeap h.label) s.list_is s.item_is ranged in
    let below : h.label < length labels = subst (ItemLabels (Below (length labels))) (tree-Leap h.label) there in
    subst (λ b. HasLabel b m.label) (sym (leap_kind h.to m.kind h.label (record { body = old; at = m.path }) new h.moves.moves))
    (named_some labels h.label m.label names below h.named)

-- ---- a simplification

choice_label : (labels : List (List ℕ)) (b : Bool) (c : Option ℕ) (o : Option (List ℕ)) → Each IsName labels → Labelled (Below (length labels)) b c →
    option_and_then (slice_get labels) c ≡ o → HasLabel b o
choice_label labels true (Some l) o names h e = named_some labels l o names h e
choice_label labels true None o names h e = absurd h
choice_label labels false c o names h e = sym e ∙ ap (option_and_then (slice_get labels)) h

choice_named : (name : List ℕ) (labels : List (List ℕ)) (m : Move) (old new : List Item) → Each IsName labels →
    Everywhere (ItemLabels (Below (length labels))) (trees_of old) → IsMadeIn name labels m old new → HasLabel (names_label m.kind) m.label
choice_named name labels m old new names ranged h =
    let c = h.choice in
    let one = one_labelled (Below (length labels)) c (choices (trees_of old))
    (list_labelled (Below (length labels)) (λ l. barred l (trees_of old)) 0 (trees_of old) ranged) h.named.among in
    choice_label labels (names_label m.kind) c.label m.label names
    (subst (λ k. Labelled (Below (length labels)) (names_label k) c.label) h.named.kind one) h.named.label

-- ---- a move of a program

-- a flat function and its labels have names
abbrev pub IsTopNamedInText : Top → Type 0
IsTopNamedInText (T.Function f) = f.flat ≡ true → IsName f.name × Each IsName f.labels
IsTopNamedInText _ = Unit {0}

moved_named : (m : Move) (f g : Function) → IsInRange f → IsTopNamedInText (T.Function f) → IsMovedBy m f g → IsNamed m
moved_named m f g ranged named h =
    let n = named h.flat in
    let inside = subst (Everywhere (ItemLabels (Below (length f.labels)))) (body_is f h.body h.body_is) ranged.labels in
    record {
      function = ap is_name (sym h.name) ∙ name_is f.name n.0;
      label = elim h.made [
        | inl j ↦ leap_named f.labels m h.body h.new n.1 inside j
        | inr z ↦ choice_named f.name f.labels m h.body h.new n.1 inside z.made
      ];
    }

pub one_named : {m : Move} {ts us : List Top} → AllByRecursion IsTopInRange ts → AllByRecursion IsTopNamedInText ts → OneMoved m ts us → IsNamed m
one_named {m = m} ranged named (this_function {f = f} {g = g} ts h) = moved_named m f g ranged.0 named.0 h
one_named ranged named (later_function t o h) = one_named ranged.1 named.1 h

-- it changes no names
still_named : (m : Move) (f g : Function) → IsTopNamedInText (T.Function f) → IsMovedBy m f g → IsTopNamedInText (T.Function g)
still_named m f g n h = subst (λ (z : Function). IsTopNamedInText (T.Function z)) (sym h.result) n

pub all_named : {m : Move} {ts us : List Top} → AllByRecursion IsTopNamedInText ts → OneMoved m ts us → AllByRecursion IsTopNamedInText us
all_named {m = m} n (this_function {f = f} {g = g} ts h) = (still_named m f g n.0 h, n.1)
all_named n (later_function t o h) = (n.0, all_named n.1 h)
