-- What the one walk makes of a body is its plain form.
use Rattle.std.proofs.Common.{◌≡◌, List, [], ◌∷◌, map, refl, sym, ap, subst, ◌∙◌}
use mathlib.Core.Path.{ap₂}
use Rattle.c_tree.specs.declared.tree.Expression.{Expression}
use Rattle.c_tree.specs.declared.tree.Item.{Item, Item-F, roll-Item, fold-roll-Item, ind-Item, map-Item}
use Rattle.c_tree.specs.declared.tree.Item as V
use Rattle.c_tree.specs.declared.tree.Item.TheOpen.{Section-F, Evaluate, Return, If, While, Do, For, Switch, Block, Local, Break, Continue, Goto, Mark, Arm, Leap, Land, Arrival, Note}
use Rattle.c_tree.specs.declared.tree.Item.TheVariants.{rolls-Evaluate, rolls-If, rolls-While, rolls-Do, rolls-Switch, rolls-Arm, rolls-Land}
use Rattle.c_tree.specs.declared.tree.Section.{Section, roll-Section, fold-roll-Section}
use Rattle.c_tree.specs.declared.tree.Selector as S
use Rattle.c_tree.specs.declared.tree.Test as T
use Rattle.c_tree.specs.SectionLabels.{labels_passed}
use Rattle.plain_laws.specs.Plain.{item_step, section_step, plain_item, plain_section, plain_items, plain_test, plain_selector, ended, tidied_step, tidied_item, tidied_section, tidied}
use Rattle.plain_form.specs.declared.slots.Slots.{Slots}
use Rattle.plain_form.specs.declared.slots.Guards.{Guards}
use Rattle.plain_form.specs.declared.slots.Guards.TheVariants.{Kept, Variables}
use Rattle.plain_form.specs.Made.{slot_in, made_step, made_item, made_section, made_items}

-- what items and sections become, as the definition has it
module _ (g : Guards) (to : Item → Item) (to_section : Section → Section) where
  abbrev Same : Item → Type 0
  Same x = made_item g x ≡ to x

  abbrev SameSection : Section → Type 0
  SameSection c = made_section g c ≡ to_section c

  abbrev I : Type 0
  I = (x : Item) × Same x

  abbrev C : Type 0
  C = (c : Section) × SameSection c

  abbrev item : I → Item
  item e = e.0

  abbrev section : C → Section
  section e = e.0

  list_same : (a : List I) → map (made_item g) (map item a) ≡ map to (map item a)
  list_same [] = refl
  list_same (e ∷ a) = ap₂ {A = Item} {B = List Item} (λ x xs. x ∷ xs) e.1 (list_same a)

  sections_same : (a : List C) → map (made_section g) (map section a) ≡ map to_section (map section a)
  sections_same [] = refl
  sections_same (e ∷ a) = ap₂ {A = Section} {B = List Section} (λ x xs. x ∷ xs) e.1 (sections_same a)

  -- the layer with both, by what stands in its lists
  abbrev made_layer : Item-F I C → Item
  made_layer y = made_step g (map-Item Item Section Item Section (made_item g) (made_section g) (map-Item I C Item Section item section y))

  abbrev to_layer : Item-F I C → Item
  to_layer y = made_step g (map-Item Item Section Item Section to to_section (map-Item I C Item Section item section y))

  layer_same : (y : Item-F I C) → made_layer y ≡ to_layer y
  layer_same (If t a b) = ap₂ (λ p q. made_step g (If t p q)) (list_same a) (list_same b)
  layer_same (While t a) = ap (λ p. made_step g (While t p)) (list_same a)
  layer_same (Do a t) = ap (λ p. made_step g (Do p t)) (list_same a)
  layer_same (For f t u a) = ap₂ (λ p q. made_step g (For p t u q)) (list_same f) (list_same a)
  layer_same (Switch s cs) = ap (λ p. made_step g (Switch s p)) (sections_same cs)
  layer_same (Block a) = ap (λ p. made_step g (Block p)) (list_same a)
  layer_same _ = refl

  -- where the definition takes the same step on each item and section, both are the same
  items_by : ((y : Item-F Item Section) → made_step g (map-Item Item Section Item Section to to_section y) ≡ to (roll-Item y))
      → ((c : Section-F Item Section) → ended (record { cases = c.cases; default = c.default; list = map to c.list; ends = c.ends }) ≡ to_section
      (roll-Section c))
      → (x : Item) → Same x
  items_by h k = ind-Item Same SameSection
      (λ x y e. subst (λ (z : Item-F Item Section). Same (roll-Item z)) e (
      fold-roll-Item Item Section (made_step g) ended _ ∙ layer_same y ∙ h _))
      (λ x y e. subst (λ (z : Section-F Item Section). SameSection (roll-Section z)) e (
      fold-roll-Section Item Section (made_step g) ended _
      ∙ ap (λ p. ended (record { cases = y.cases; default = y.default; list = p; ends = y.ends })) (list_same y.list) ∙ k _))

-- ---- guards that stay

kept_step : (y : Item-F Item Section) → made_step Kept y ≡ tidied_step y
kept_step (If t a b) = sym (rolls-If t a b)
kept_step (While t a) = sym (rolls-While t a)
kept_step (Do a t) = sym (rolls-Do a t)
kept_step (Switch s cs) = refl
kept_step (Arm l e) = sym (rolls-Arm l e)
kept_step (Land l) = sym (rolls-Land l)
kept_step _ = refl

kept_item : (x : Item) → made_item Kept x ≡ tidied_item x
kept_item = items_by Kept tidied_item tidied_section
    (λ y. kept_step _ ∙ sym (fold-roll-Item Item Section tidied_step ended y))
    (λ c. sym (fold-roll-Section Item Section tidied_step ended c))

-- in a body whose guards stay the sections get their ends
pub kept_items : (xs : List Item) → made_items Kept xs ≡ tidied xs
kept_items [] = refl
kept_items (x ∷ xs) = ap₂ {A = Item} {B = List Item} (λ y ys. y ∷ ys) (kept_item x) (kept_items xs)

-- ---- guards that become variables

module _ (s : Slots) where
  abbrev plain_then : Item → Item
  plain_then x = tidied_item (plain_item (slot_in s) x)

  abbrev section_then : Section → Section
  section_then c = tidied_section (plain_section (slot_in s) c)

  lists_then : (xs : List Item) → map tidied_item (map (plain_item (slot_in s)) xs) ≡ map plain_then xs
  lists_then [] = refl
  lists_then (x ∷ xs) = ap (λ ys. plain_then x ∷ ys) (lists_then xs)

  sections_then : (cs : List Section) → map tidied_section (map (plain_section (slot_in s)) cs) ≡ map section_then cs
  sections_then [] = refl
  sections_then (c ∷ cs) = ap (λ ds. section_then c ∷ ds) (sections_then cs)

  -- an item of which the sections got their ends, by its form
  tidied_roll : (z : Item-F Item Section) → tidied_item (roll-Item z) ≡ tidied_step (map-Item Item Section Item Section tidied_item tidied_section z)
  tidied_roll z = fold-roll-Item Item Section tidied_step ended z

  tidied-Evaluate : (e : Expression) → tidied_item (V.Evaluate e) ≡ V.Evaluate e
  tidied-Evaluate e = ap tidied_item (sym (rolls-Evaluate e)) ∙ tidied_roll (Evaluate e) ∙ rolls-Evaluate e

  tidied-If : (t : T.Test) (a b : List Item) → tidied_item (V.If t a b) ≡ V.If t (tidied a) (tidied b)
  tidied-If t a b = ap tidied_item (sym (rolls-If t a b)) ∙ tidied_roll (If t a b) ∙ rolls-If t (tidied a) (tidied b)

  tidied-While : (t : T.Test) (a : List Item) → tidied_item (V.While t a) ≡ V.While t (tidied a)
  tidied-While t a = ap tidied_item (sym (rolls-While t a)) ∙ tidied_roll (While t a) ∙ rolls-While t (tidied a)

  tidied-Do : (a : List Item) (t : T.Test) → tidied_item (V.Do a t) ≡ V.Do (tidied a) t
  tidied-Do a t = ap tidied_item (sym (rolls-Do a t)) ∙ tidied_roll (Do a t) ∙ rolls-Do (tidied a) t

  tidied-Switch : (e : S.Selector) (cs : List Section) → tidied_item (V.Switch e cs) ≡ V.Switch e (labels_passed (map tidied_section cs))
  tidied-Switch e cs = ap tidied_item (sym (rolls-Switch e cs)) ∙ tidied_roll (Switch e cs)

  abbrev step : Item-F Item Section → Item
  step y = item_step (slot_in s) (map-Item Item Section Item Section (plain_item (slot_in s)) (plain_section (slot_in s)) y)

  variable_step : (y : Item-F Item Section) → made_step (Variables s) (map-Item Item Section Item Section plain_then section_then y) ≡ tidied_item (step y)
  variable_step (If t a b) =
      sym (tidied-If (T.Source (plain_test (slot_in s) t)) _ _ ∙ ap₂ (λ p q. V.If (T.Source (plain_test (slot_in s) t)) p q) (lists_then a) (lists_then b))
  variable_step (While t a) = sym (tidied-While (T.Source (plain_test (slot_in s) t)) _ ∙ ap (V.While (T.Source (plain_test (slot_in s) t))) (lists_then a))
  variable_step (Do a t) = sym (tidied-Do _ (T.Source (plain_test (slot_in s) t)) ∙ ap (λ p. V.Do p (T.Source (plain_test (slot_in s) t))) (lists_then a))
  variable_step (Switch e cs) =
      sym (tidied-Switch (S.Source (plain_selector (slot_in s) e)) _ ∙
      ap (λ p. V.Switch (S.Source (plain_selector (slot_in s) e)) (labels_passed p)) (sections_then cs))
  variable_step (For f t u a) =
      sym (tidied_roll _ ∙ ap₂ (λ p q. roll-Item (For p t u q)) (lists_then f) (lists_then a))
  variable_step (Block a) = sym (tidied_roll _ ∙ ap (λ p. roll-Item (Block p)) (lists_then a))
  variable_step (Arm l e) = sym (tidied-Evaluate _)
  variable_step (Land l) = sym (tidied-Evaluate _)
  variable_step (Evaluate e) = sym (tidied_roll (Evaluate e))
  variable_step (Return e) = sym (tidied_roll (Return e))
  variable_step (Local k e) = sym (tidied_roll (Local k e))
  variable_step Break = sym (tidied_roll Break)
  variable_step Continue = sym (tidied_roll Continue)
  variable_step (Goto l) = sym (tidied_roll (Goto l))
  variable_step (Mark l) = sym (tidied_roll (Mark l))
  variable_step (Leap l) = sym (tidied_roll (Leap l))
  variable_step (Arrival e) = sym (tidied_roll (Arrival e))
  variable_step (Note b) = sym (tidied_roll (Note b))

  variable_item : (x : Item) → made_item (Variables s) x ≡ plain_then x
  variable_item = items_by (Variables s) plain_then section_then
      (λ y. variable_step y ∙ sym (ap tidied_item (fold-roll-Item Item Section (item_step (slot_in s)) section_step y)))
      (λ c. sym (ap tidied_section (fold-roll-Section Item Section (item_step (slot_in s)) section_step c)
      ∙ fold-roll-Section Item Section tidied_step ended _
      ∙ ap (λ p. ended (record { cases = c.cases; default = c.default; list = p; ends = c.ends })) (lists_then c.list)))

  -- in a body whose guards become variables, the sections then get their ends
  pub variable_items : (xs : List Item) → made_items (Variables s) xs ≡ tidied (plain_items (slot_in s) xs)
  variable_items [] = refl
  variable_items (x ∷ xs) = ap₂ {A = Item} {B = List Item} (λ y ys. y ∷ ys) (variable_item x) (variable_items xs)
