-- What the conversion of an item is, by its form.
use Rattle.std.proofs.Common.{◌≡◌, ℕ, List, [], ◌∷◌, ◌++◌, map, Option, Some, None, Result, OnOk, refl, sym, ap, ◌∙◌}
use Rattle.std.specs.Option.{option_map_or}
use Rattle.std.proofs.lemmas.Result.{on_ok_weaker}
use Rattle.c_tree.specs.declared.tree.Expression.{Expression}
use Rattle.c_tree.specs.declared.tree.Item.{Item, Item-F, Evaluate, Return, If, While, Do, For, Switch, Block, Local, Break, Continue, Goto, Mark, Arm, Leap, Land, Arrival, Note, roll-Item, out-Item, roll-out-Item, fold-roll-Item, map-Item}
use Rattle.c_tree.specs.declared.tree.Item.TheVariants.{rolls-Evaluate, rolls-Return, rolls-If, rolls-While, rolls-Do, rolls-For, rolls-Switch, rolls-Block, rolls-Local, rolls-Break, rolls-Continue, rolls-Goto, rolls-Mark, rolls-Arm, rolls-Leap, rolls-Land, rolls-Arrival, rolls-Note}
use Rattle.c_tree.specs.declared.tree.Item.TheOpen as O
use Rattle.c_tree.specs.declared.tree.Section.{Section}
use Rattle.c_tree.specs.declared.tree.Selector.{Selector}
use Rattle.c_tree.specs.declared.tree.Test.{Test}
use Rattle.c_tree.specs.Rebuilt.{rebuilt_section}
use Rattle.guard_vars.specs.Conversion.{Converted, items_of, jump, source, conditional_jump, converted_layer, converted_item, converted_section, converted_list}

-- an item that is made and put behind others, as the items that another one becomes
pub pushed_as : {T E : Type 0} (r : Result T E) (out next : List Item) (made : Item) (ys : List Item)
    → ys ≡ made ∷ [] → OnOk r (next ≡ out ++ made ∷ []) → OnOk r (next ≡ out ++ ys)
pushed_as r out next made ys e h = on_ok_weaker r (λ (g : next ≡ out ++ made ∷ []). g ∙ ap (λ l. out ++ l) (sym e)) h

-- several items, put behind others, as the items that one becomes
pub added_as : {T E : Type 0} (r : Result T E) (out next xs ys : List Item)
    → ys ≡ xs → OnOk r (next ≡ out ++ xs) → OnOk r (next ≡ out ++ ys)
added_as r out next xs ys e h = on_ok_weaker r (λ (g : next ≡ out ++ xs). g ∙ ap (λ l. out ++ l) (sym e)) h

items_of_rolled : (y : Item-F Item Section)
    → items_of (converted_item (roll-Item y)) ≡ items_of (converted_layer (map-Item Item Section Converted Section converted_item converted_section y))
items_of_rolled y = ap items_of (fold-roll-Item Converted Section converted_layer (rebuilt_section items_of) y)

items_of-If : (t : Test) (a b : List Item) → items_of (converted_item (If t a b))
    ≡ items_of (converted_layer (O.If t (map converted_item a) (map converted_item b)))
items_of-If t a b = ap (λ x. items_of (converted_item x)) (sym (rolls-If t a b)) ∙ items_of_rolled (O.If t a b)

chosen : (t : Test) (a b : List Item) (o : Option ℕ) → o ≡ conditional_jump t (map converted_item a) (map converted_item b)
    → items_of (converted_item (If t a b)) ≡ option_map_or (λ l. jump l (source t)) o (If t (converted_list a) (converted_list b) ∷ [])
chosen t a b o e = items_of-If t a b ∙ ap (λ (p : Option ℕ). option_map_or (λ l. jump l (source t)) p (If t (converted_list a) (converted_list b) ∷ [])) (sym e)

if_stays : (t : Test) (a b : List Item) → None ≡ conditional_jump t (map converted_item a) (map converted_item b)
    → items_of (converted_item (If t a b)) ≡ If t (converted_list a) (converted_list b) ∷ []
if_stays t a b e = chosen t a b None e

while_stays : (t : Test) (a : List Item) → items_of (converted_item (While t a)) ≡ While t (converted_list a) ∷ []
while_stays t a = ap (λ x. items_of (converted_item x)) (sym (rolls-While t a)) ∙ items_of_rolled (O.While t a)

do_stays : (a : List Item) (t : Test) → items_of (converted_item (Do a t)) ≡ Do (converted_list a) t ∷ []
do_stays a t = ap (λ x. items_of (converted_item x)) (sym (rolls-Do a t)) ∙ items_of_rolled (O.Do a t)

for_stays : (f : List Item) (t u : Option Expression) (a : List Item)
    → items_of (converted_item (For f t u a)) ≡ For (converted_list f) t u (converted_list a) ∷ []
for_stays f t u a = ap (λ x. items_of (converted_item x)) (sym (rolls-For f t u a)) ∙ items_of_rolled (O.For f t u a)

switch_stays : (s : Selector) (cs : List Section) → items_of (converted_item (Switch s cs)) ≡ Switch s (map converted_section cs) ∷ []
switch_stays s cs = ap (λ x. items_of (converted_item x)) (sym (rolls-Switch s cs)) ∙ items_of_rolled (O.Switch s cs)

-- the item that is made, from the conversions of its lists

pub if_jumps : (x : Item) (t : Test) (a b : List Item) (o : Option ℕ) (l : ℕ) → x ≡ If t a b
    → o ≡ conditional_jump t (map converted_item a) (map converted_item b) → o ≡ Some l → items_of (converted_item x) ≡ jump l (source t)
if_jumps x t a b o l e h s = ap (λ y. items_of (converted_item y)) e ∙ chosen t a b (Some l) (sym s ∙ h)

pub if_made : (x made : Item) (t : Test) (a b c d : List Item) (o : Option ℕ) → x ≡ If t a b
    → o ≡ conditional_jump t (map converted_item a) (map converted_item b) → o ≡ None
    → c ≡ converted_list a → d ≡ converted_list b → made ≡ If t c d → items_of (converted_item x) ≡ made ∷ []
if_made x made t a b c d o e h n f g m =
    ap (λ y. items_of (converted_item y)) e ∙ if_stays t a b (sym n ∙ h) ∙ ap (λ l. If t l (converted_list b) ∷ []) (sym f)
    ∙ ap (λ l. If t c l ∷ []) (sym g) ∙ ap (λ y. y ∷ []) (sym m)

pub while_made : (x made : Item) (t : Test) (a b : List Item) → x ≡ While t a → b ≡ converted_list a → made ≡ While t b
    → items_of (converted_item x) ≡ made ∷ []
while_made x made t a b e f m =
    ap (λ y. items_of (converted_item y)) e ∙ while_stays t a ∙ ap (λ l. While t l ∷ []) (sym f) ∙ ap (λ y. y ∷ []) (sym m)

pub do_made : (x made : Item) (a b : List Item) (t : Test) → x ≡ Do a t → b ≡ converted_list a → made ≡ Do b t
    → items_of (converted_item x) ≡ made ∷ []
do_made x made a b t e f m =
    ap (λ y. items_of (converted_item y)) e ∙ do_stays a t ∙ ap (λ l. Do l t ∷ []) (sym f) ∙ ap (λ y. y ∷ []) (sym m)

pub for_made : (x made : Item) (f a g b : List Item) (t u : Option Expression) → x ≡ For f t u a → g ≡ converted_list f → b ≡ converted_list a
    → made ≡ For g t u b → items_of (converted_item x) ≡ made ∷ []
for_made x made f a g b t u e h k m =
    ap (λ y. items_of (converted_item y)) e ∙ for_stays f t u a ∙ ap (λ l. For l t u (converted_list a) ∷ []) (sym h)
    ∙ ap (λ l. For g t u l ∷ []) (sym k) ∙ ap (λ y. y ∷ []) (sym m)

pub switch_made : (x made : Item) (s : Selector) (cs ds es : List Section) → x ≡ Switch s cs → ds ≡ cs → es ≡ map converted_section ds
    → made ≡ Switch s es → items_of (converted_item x) ≡ made ∷ []
switch_made x made s cs ds es e d f m =
    ap (λ y. items_of (converted_item y)) e ∙ switch_stays s cs ∙ ap (λ l. Switch s l ∷ []) (sym (f ∙ ap (λ l. map converted_section l) d))
    ∙ ap (λ y. y ∷ []) (sym m)

-- an item without a list that is no jump and no label stays
pub other_made : (x made : Item) → made ≡ x → ((l : ℕ) → x ≡ Goto l → ⊥) → ((l : ℕ) → x ≡ Mark l → ⊥)
    → ((t : Test) (a b : List Item) → x ≡ If t a b → ⊥) → ((t : Test) (a : List Item) → x ≡ While t a → ⊥) → ((a : List Item) (t : Test) → x ≡ Do a t → ⊥)
    → ((f : List Item) (t u : Option Expression) (a : List Item) → x ≡ For f t u a → ⊥) → ((s : Selector) (cs : List Section) → x ≡ Switch s cs → ⊥)
    → ((a : List Item) → x ≡ Block a → ⊥) → items_of (converted_item x) ≡ made ∷ []
other_made x made k g m i w d f s b = at (out-Item x) (sym (roll-out-Item x)) ∙ ap (λ y. y ∷ []) (sym k) where
  stays : (y : Item-F Item Section) (z : Item) → roll-Item y ≡ z
      → items_of (converted_layer (map-Item Item Section Converted Section converted_item converted_section y)) ≡ z ∷ [] → x ≡ roll-Item y →
      items_of (converted_item x) ≡ x ∷ []
  stays y z r h e = ap (λ v. items_of (converted_item v)) e ∙ items_of_rolled y ∙ h ∙ ap (λ v. v ∷ []) (sym (e ∙ r))

  at : (y : Item-F Item Section) → x ≡ roll-Item y → items_of (converted_item x) ≡ x ∷ []
  at (O.Goto l) e = absurd (g l (e ∙ rolls-Goto l))
  at (O.Mark l) e = absurd (m l (e ∙ rolls-Mark l))
  at (O.If t a c) e = absurd (i t a c (e ∙ rolls-If t a c))
  at (O.While t a) e = absurd (w t a (e ∙ rolls-While t a))
  at (O.Do a t) e = absurd (d a t (e ∙ rolls-Do a t))
  at (O.For h t u a) e = absurd (f h t u a (e ∙ rolls-For h t u a))
  at (O.Switch t cs) e = absurd (s t cs (e ∙ rolls-Switch t cs))
  at (O.Block a) e = absurd (b a (e ∙ rolls-Block a))
  at (O.Evaluate c) e = stays (O.Evaluate c) (Evaluate c) (rolls-Evaluate c) refl e
  at (O.Return c) e = stays (O.Return c) (Return c) (rolls-Return c) refl e
  at (O.Local l c) e = stays (O.Local l c) (Local l c) (rolls-Local l c) refl e
  at O.Break e = stays O.Break Break rolls-Break refl e
  at O.Continue e = stays O.Continue Continue rolls-Continue refl e
  at (O.Arm l c) e = stays (O.Arm l c) (Arm l c) (rolls-Arm l c) refl e
  at (O.Leap l) e = stays (O.Leap l) (Leap l) (rolls-Leap l) refl e
  at (O.Land l) e = stays (O.Land l) (Land l) (rolls-Land l) refl e
  at (O.Arrival c) e = stays (O.Arrival c) (Arrival c) (rolls-Arrival c) refl e
  at (O.Note t) e = stays (O.Note t) (Note t) (rolls-Note t) refl e
