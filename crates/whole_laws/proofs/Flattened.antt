-- The flat forms of a source program: they behave the same, are steady, and their kinds agree.
use Rattle.std.proofs.Common.{◌≡◌, ℕ, ◌<◌, ◌≤◌, zero, suc, arith, Bool, false, true≢false, ◌+◌, List, [], ◌∷◌, length, Option, Some, None, option_map, IsSome, refl, sym, ap, subst, ◌∙◌}
use Rattle.std.specs.Option.{option_map_or}
use Rattle.c_tree.specs.declared.tree.Item.{Item}
use Rattle.c_tree.specs.declared.tree.Slot.{Slot}
use Rattle.c_tree.specs.declared.tree.Function.{Function}
use Rattle.c_tree.specs.ExpressionTrees.{ExpressionTree}
use Rattle.c_tree.specs.TestTrees.{TestTree, Source, SelectorTree, Selects, Pick}
use Rattle.c_tree.specs.Trees.{Tree, Forest, Nil, Evaluate, Return, If, While, Do, For, Switch, Local, Goto, Arm, Leap, Land, Arrival, trees_of}
use Rattle.c_tree.specs.Everywhere.{total, Everywhere}
use Rattle.c_tree.specs.InRange.{body_of, IsSourceTest, IsSourceSelector, IsInRange}
use Rattle.c_tree.specs.Conversions.{convert}
use Rattle.c_tree.specs.WellMade.{IsWellMade}
use Rattle.c_tree.specs.Slots.{ItemSlots}
use Rattle.c_tree.proofs.WellMoved.{everywhere_map}
use Rattle.jump_meaning.specs.Code.{Code, function_tree, items_of, entry_or}
use Rattle.jump_meaning.specs.World.{no_slot}
use Rattle.flat_laws.specs.Pieces.{Stays}
use Rattle.c_tree.specs.Numerals.{constant}
use Rattle.flat_laws.specs.Placed.{IsOnce, Has}
use Rattle.flat_laws.specs.Loose.{Setting, AreIn, NoArrival, ExtendSlots, IsLooser}
use Rattle.flat_laws.specs.Parts.{is_named, has_jumps, variables_of}
use Rattle.flat_laws.specs.FlatForm.{flat, flat_body, first_here}
use Rattle.flat_laws.specs.Source.{InTest, InSelector, AreInitialisers, IsSourceItem, HaveVariables}
use Rattle.flat_laws.specs.Unlabelled.{unlabelled, IsCalmItem}
use Rattle.flat_laws.specs.FlatLaws.{IsSourceBody, IsFlattened}
use Rattle.flat_laws.proofs.Flattened.{flat_laws}
use Rattle.flat_laws.specs.FlatMade.{IsFlatMade, IsUnjumped}
use Rattle.flat_laws.specs.FlatWellMadeLaws.{IsFlatInRange, label_count}
use Rattle.flat_laws.proofs.WellMade.{made_laws}
use Rattle.jump_meaning.specs.Steady.{IsMadeWell}
use Rattle.plain_laws.specs.Kinded.{Grown, KindedItem}
use Rattle.whole_laws.specs.Rewritten.{plan_of, setting, without_labels, IsFlatForm, IsUnlabelledForm}
use Rattle.whole_laws.proofs.Source.{IsSourceFunction}
use Rattle.whole_laws.proofs.Calm.{source_calm}
use Rattle.whole_laws.proofs.Unlabelled.{left, kinds_left, plain_left, IsPlainItem}

-- ---- bodies

pub body_is : (f : Function) (a : List Item) → f.body ≡ Some a → body_of f ≡ trees_of a
body_is f a e = ap (λ o. option_map_or trees_of o Nil) e

items_are : (f : Function) (a : List Item) → f.body ≡ Some a → items_of (function_tree f) ≡ trees_of a
items_are f a e = ap (λ o. option_map_or (λ (x : Forest). x) (option_map trees_of o) Nil) e

pub items_body : (f : Function) (a : List Item) → f.body ≡ Some a → items_of (function_tree f) ≡ body_of f
items_body f a e = items_are f a e ∙ sym (body_is f a e)

pub defined : (f : Function) (a : List Item) → f.body ≡ Some a → IsSome (function_tree f).body
defined f a e = subst (λ (o : Option (List Item)). IsSome (option_map trees_of o)) (sym e) refl

-- ---- slots behind those of the source

pub cells_stay : (ss ts : List Slot) → ExtendSlots ss ts → (x : ℕ) → x < length ss → (entry_or no_slot ts x).cells ≡ (entry_or no_slot ss x).cells
cells_stay [] ts h x b = absurd (omega (arith, b))
cells_stay (s ∷ ss) [] h x b = absurd h
cells_stay (s ∷ ss) (t ∷ ts) h zero b = sym h.1
cells_stay (s ∷ ss) (t ∷ ts) h (suc x) b = cells_stay ss ts h.2 x (omega (arith, b))

same_extend : (ss : List Slot) → ExtendSlots ss ss
same_extend [] = tt
same_extend (s ∷ ss) = (refl, refl, same_extend ss)

pub grown : (ss ts : List Slot) → ExtendSlots ss ts → Grown ss ts
grown [] ts h = tt
grown (s ∷ ss) [] h = h
grown (s ∷ ss) (t ∷ ts) h = (sym h.0, grown ss ts h.2)

-- ---- items of the source, with the slots of the flat form

module _ (f g : Function) (live : ℕ → Bool) (more : ExtendSlots f.slots g.slots) where
  abbrev F : Setting
  F = setting f f

  abbrev G : Setting
  G = setting f g

  test_in : (t : TestTree) → InTest F t → InTest G t
  test_in (Source e) h = h
  test_in _ h = h

  selector_in : (t : SelectorTree) → InSelector F t → InSelector G t
  selector_in (Selects e) h = h
  selector_in (Pick l n t) h = h

  all_in : (es : List ExpressionTree) → AreIn F es → AreIn G es
  all_in [] h = tt
  all_in (e ∷ es) h = (h.0, all_in es h.1)

  source_item : (x : Tree) → IsSourceItem F live x → IsSourceItem G live x
  source_item (Evaluate e) h = h
  source_item (Return e) h = h
  source_item (If t a b) h = test_in t h
  source_item (While t a) h = test_in t h
  source_item (Do a t) h = test_in t h
  source_item (For first t u a) h = h
  source_item (Switch t d) h = selector_in t h
  source_item (Local x None) h = tt
  source_item (Local x (Some es)) h = (h.0, subst (λ c. AreInitialisers c es) (sym (cells_stay f.slots g.slots more x h.0.1)) h.1, all_in es h.2)
  source_item (Goto l) h = h
  source_item (Arm l e) h = h
  source_item (Leap l) h = h
  source_item (Land l) h = h
  source_item _ h = tt

-- ---- the flat form is looser

module _ (f g : Function) (s : IsSourceFunction f) (w : IsFlatForm f g) where
  pub flat_trees : body_of g ≡ flat_body constant f.slots (length f.labels) (body_of f)
  flat_trees = body_is g w.new w.new_body ∙ w.trees ∙ ap (flat_body constant f.slots (length f.labels)) (sym (body_is f w.old w.old_body))

  same : items_of (function_tree f) ≡ body_of f
  same = items_body f w.old w.old_body

  same_new : items_of (function_tree g) ≡ body_of g
  same_new = items_body g w.new w.new_body

  source : IsSourceBody (plan_of f) (setting f g) (first_here (length f.slots)) (body_of f)
  source = record {
    labels = λ l. refl;
    slots = λ x h. cells_stay f.slots g.slots w.slots x h.1;
    number = refl;
    items = everywhere_map (IsSourceItem (setting f f) (is_named (body_of f))) (IsSourceItem (setting f g) (is_named (body_of f)))
        (source_item f g (is_named (body_of f)) w.slots) (body_of f) s.items;
    variables = subst (HaveVariables (setting f g) (first_here (length f.slots))) (sym (body_is f w.old w.old_body)) w.variables;
    bound = s.good.cases;
  }

  flattened : IsFlattened (plan_of f) (setting f g) (first_here (length f.slots)) (function_tree f) (function_tree g)
  flattened = record {
    defined = defined f w.old w.old_body;
    new_defined = defined g w.new w.new_body;
    source = subst (IsSourceBody (plan_of f) (setting f g) (first_here (length f.slots))) (sym same) source;
    body = same_new ∙ flat_trees ∙ ap (flat (plan_of f) (first_here (length f.slots)) Stays Stays NoArrival) (sym same);
    named = λ l h. subst (Has l) (sym same) (made_laws.named (length f.labels) (body_of f) s.good l h);
    result = w.result;
    params = w.params;
    slots = w.slots;
    same_params = refl;
    same_old = refl;
    same_new = refl;
  }

  pub flat_looser : IsLooser (function_tree f) (function_tree g)
  flat_looser = flat_laws.of_functions (plan_of f) (setting f g) (first_here (length f.slots)) (function_tree f) (function_tree g) flattened
      (subst IsOnce (sym same) (made_laws.once (length f.labels) (body_of f) s.good))
      (subst IsOnce (sym (same_new ∙ flat_trees)) (flat_laws.once constant f.slots (length f.labels) (body_of f) s.good.own))

  -- its body is made well
  flat_body_made : IsFlatMade (body_of g)
  flat_body_made = subst IsFlatMade (sym flat_trees) (made_laws.of_bodies constant f.slots (length f.labels) (body_of f) s.good)

  pub flat_made : IsMadeWell g
  flat_made = made_laws.of_functions g flat_body_made

  pub flat_converted : IsWellMade (convert (body_of g))
  flat_converted = made_laws.converted (body_of g) flat_body_made

  -- and it is in range
  pub flat_ranged : IsInRange g
  flat_ranged =
      let p = s.ranged.parameters in
      let m = w.more_slots in
      let c = w.params in
      made_laws.in_range g w.flat (omega (arith, p, m, c))
      (subst (λ a. IsFlatInRange (length g.slots) (length g.labels) a) (sym flat_trees)
      (subst (λ n. IsFlatInRange n (length g.labels) (flat_body constant f.slots (length f.labels) (body_of f)))
      (sym (m ∙ ap (λ a. length f.slots + total variables_of a) (sym (body_is f w.old w.old_body))))
      (subst (λ n. IsFlatInRange (length f.slots + total variables_of (body_of f)) n (flat_body constant f.slots (length f.labels) (body_of f)))
      (sym (w.labels ∙ ap (label_count f.slots (length f.labels)) (sym (body_is f w.old w.old_body))))
      (made_laws.ranges f.slots (length f.labels) (body_of f) s.good s.ranged.slots))))

-- ---- a function without jumps is looser

calm_test : (s : Setting) (t : TestTree) → InTest s t → IsSourceTest t
calm_test s (Source e) h = tt
calm_test s _ h = absurd h

calm_selector : (s : Setting) (t : SelectorTree) → InSelector s t → IsSourceSelector t
calm_selector s (Selects e) h = tt
calm_selector s (Pick l n t) h = absurd h

calm_unjumped : (s : Setting) (x : Tree) → IsCalmItem s x → IsUnjumped x
calm_unjumped s (Goto l) h = absurd (true≢false (sym h))
calm_unjumped s (Arrival e) h = absurd h
calm_unjumped s (If t a b) h = calm_test s t h
calm_unjumped s (While t a) h = calm_test s t h
calm_unjumped s (Do a t) h = calm_test s t h
calm_unjumped s (Switch t c) h = calm_selector s t h
calm_unjumped s (Arm l e) h = absurd h
calm_unjumped s (Leap l) h = absurd h
calm_unjumped s (Land l) h = absurd h
calm_unjumped s x h = tt

module _ (f g : Function) (s : IsSourceFunction f) (free : has_jumps (body_of f) ≡ false) (w : IsUnlabelledForm f g) where
  left_trees : body_of g ≡ unlabelled (body_of f)
  left_trees = body_is g w.new w.new_body ∙ w.trees ∙ ap unlabelled (sym (body_is f w.old w.old_body))

  abbrev with_slots : List Slot → Setting
  with_slots ss = record (without_labels f f) { new = ss }

  pub unlabelled_looser : IsLooser (function_tree f) (function_tree g)
  unlabelled_looser = flat_laws.unlabelled (without_labels f g) (function_tree f) (function_tree g)
      (record {
        defined = defined f w.old w.old_body;
        new_defined = defined g w.new w.new_body;
        items = subst (Everywhere (IsCalmItem (without_labels f g))) (sym (items_body f w.old w.old_body)) calm;
        dropped = λ l. refl;
        body = items_body g w.new w.new_body ∙ left_trees ∙ ap unlabelled (sym (items_body f w.old w.old_body));
        result = w.result;
        params = w.params;
        slots = subst (ExtendSlots f.slots) (sym w.slots) (same_extend f.slots);
        same_params = refl;
        same_old = refl;
        same_new = refl;
      })
      (subst IsOnce (sym (items_body f w.old w.old_body)) (made_laws.once (length f.labels) (body_of f) s.good))
    where
      calm : Everywhere (IsCalmItem (without_labels f g)) (body_of f)
      calm = subst (λ ss. Everywhere (IsCalmItem (with_slots ss)) (body_of f)) (sym w.slots) (source_calm f s free)

  pub left_plain : Everywhere IsPlainItem (body_of g)
  left_plain = subst (Everywhere IsPlainItem) (sym left_trees)
      (left (IsCalmItem (without_labels f f)) IsPlainItem (plain_left (without_labels f f)) (body_of f) (source_calm f s free))

  pub left_kinded : (p : Code) → Everywhere (KindedItem p f.slots) (body_of f) → Everywhere (KindedItem p g.slots) (body_of g)
  left_kinded p h = subst (λ ss. Everywhere (KindedItem p ss) (body_of g)) (sym w.slots)
      (subst (Everywhere (KindedItem p f.slots)) (sym left_trees) (left (KindedItem p f.slots) (KindedItem p f.slots) (kinds_left p f.slots) (body_of f) h))

  -- it is in range, and made well
  left_good : IsInRange g × IsMadeWell g
  left_good = made_laws.unlabelled g (body_of f) w.flat
      (subst (λ n. n ≤ length g.slots) w.params (subst (λ ss. f.params ≤ length ss) (sym w.slots) s.ranged.parameters))
      left_trees
      (everywhere_map (IsCalmItem (without_labels f f)) IsUnjumped (calm_unjumped (without_labels f f)) (body_of f) (source_calm f s free))
      (subst (λ ss. Everywhere (ItemSlots (λ x. x < length ss)) (body_of f)) (sym w.slots) s.ranged.slots)

  pub left_ranged : IsInRange g
  left_ranged = left_good.0

  pub left_made : IsMadeWell g
  left_made = left_good.1
