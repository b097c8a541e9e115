-- A conversion has no goto and no label.
use Rattle.std.proofs.Common.{◌≡◌, ℕ, Bool, true, false, ◌&&◌, Option, Some, None, List, [], ◌∷◌, ◌++◌, map, flat_map, refl, sym, ap, subst, ◌∙◌}
use Rattle.std.specs.Option.{option_map_or}
use Rattle.c_tree.specs.declared.tree.Expression.{Expression}
use Rattle.c_tree.specs.declared.tree.Item.{Item, Item-F, roll-Item, fold-roll-Item, ind-Item, map-Item}
use Rattle.c_tree.specs.declared.tree.Item.TheOpen.{Section-F, Evaluate, Return, If, While, Do, For, Switch, Block, Local, Break, Continue, Goto, Mark, Arm, Leap, Land, Arrival, Note}
use Rattle.c_tree.specs.declared.tree.Item.TheVariants.{rolls-Evaluate, rolls-Return, rolls-If, rolls-While, rolls-Do, rolls-For, rolls-Switch, rolls-Block, rolls-Local, rolls-Break, rolls-Continue, rolls-Arm, rolls-Leap, rolls-Land, rolls-Arrival, rolls-Note}
use Rattle.c_tree.specs.declared.tree.Item as V
use Rattle.c_tree.specs.declared.tree.Section.{Section, fold-roll-Section, roll-Section}
use Rattle.c_tree.specs.declared.tree.Selector.{Selector}
use Rattle.c_tree.specs.declared.tree.Test.{Test}
use Rattle.c_tree.specs.Jumps.{all_true, holds_throughout, section_holds_throughout, throughout_step, section_throughout_step}
use Rattle.c_tree.specs.Rebuilt.{rebuilt_section}
use Rattle.guard_vars.specs.Conversion.{Converted, items_of, jump, source, conditional_jump, converted_layer, converted_item, converted_section, converted_list, is_goto_free_layer, is_goto_free}

abbrev free : Item → Bool
free x = holds_throughout is_goto_free_layer x

abbrev section_free : Section → Bool
section_free c = section_holds_throughout is_goto_free_layer c

both_true : (a b : Bool) → a ≡ true → b ≡ true → (a && b) ≡ true
both_true true b p q = q
both_true false b p q = p

first_true : (a b : Bool) → (a && b) ≡ true → a ≡ true
first_true true b p = refl
first_true false b p = p

second_true : (a b : Bool) → (a && b) ≡ true → b ≡ true
second_true true b p = p
second_true false b p = cc

free_append : (xs ys : List Item) → all_true (map free xs) ≡ true → all_true (map free ys) ≡ true → all_true (map free (xs ++ ys)) ≡ true
free_append [] ys p q = q
free_append (x ∷ xs) ys p q =
    both_true (free x) (all_true (map free (xs ++ ys))) (first_true (free x) (all_true (map free xs)) p)
    (free_append xs ys (second_true (free x) (all_true (map free xs)) p) q)

one : (x : Item) → free x ≡ true → all_true (map free (x ∷ [])) ≡ true
one x p = both_true (free x) true p refl

-- what an item has

free_roll : (z : Item-F Item Section) → free (roll-Item z) ≡ throughout_step is_goto_free_layer (map-Item Item Section Bool Bool free section_free z)
free_roll z = fold-roll-Item Bool Bool (throughout_step is_goto_free_layer) section_throughout_step z

free-Evaluate : (e : Expression) → free (V.Evaluate e) ≡ true
free-Evaluate e = ap free (sym (rolls-Evaluate e)) ∙ free_roll (Evaluate e)

free-Return : (e : Option Expression) → free (V.Return e) ≡ true
free-Return e = ap free (sym (rolls-Return e)) ∙ free_roll (Return e)

free-Local : (k : ℕ) (e : Option (List Expression)) → free (V.Local k e) ≡ true
free-Local k e = ap free (sym (rolls-Local k e)) ∙ free_roll (Local k e)

free-Break : free V.Break ≡ true
free-Break = ap free (sym rolls-Break) ∙ free_roll Break

free-Continue : free V.Continue ≡ true
free-Continue = ap free (sym rolls-Continue) ∙ free_roll Continue

free-Arm : (l : ℕ) (e : Option Expression) → free (V.Arm l e) ≡ true
free-Arm l e = ap free (sym (rolls-Arm l e)) ∙ free_roll (Arm l e)

free-Leap : (l : ℕ) → free (V.Leap l) ≡ true
free-Leap l = ap free (sym (rolls-Leap l)) ∙ free_roll (Leap l)

free-Land : (l : ℕ) → free (V.Land l) ≡ true
free-Land l = ap free (sym (rolls-Land l)) ∙ free_roll (Land l)

free-Arrival : (e : Option Expression) → free (V.Arrival e) ≡ true
free-Arrival e = ap free (sym (rolls-Arrival e)) ∙ free_roll (Arrival e)

free-Note : (b : List ℕ) → free (V.Note b) ≡ true
free-Note b = ap free (sym (rolls-Note b)) ∙ free_roll (Note b)

free-If : (t : Test) (a b : List Item) → free (V.If t a b) ≡ (all_true (map free a) && all_true (map free b))
free-If t a b = ap free (sym (rolls-If t a b)) ∙ free_roll (If t a b)

free-While : (t : Test) (a : List Item) → free (V.While t a) ≡ all_true (map free a)
free-While t a = ap free (sym (rolls-While t a)) ∙ free_roll (While t a)

free-Do : (a : List Item) (t : Test) → free (V.Do a t) ≡ all_true (map free a)
free-Do a t = ap free (sym (rolls-Do a t)) ∙ free_roll (Do a t)

free-For : (f : List Item) (t u : Option Expression) (a : List Item) → free (V.For f t u a) ≡ (all_true (map free f) && all_true (map free a))
free-For f t u a = ap free (sym (rolls-For f t u a)) ∙ free_roll (For f t u a)

free-Switch : (s : Selector) (cs : List Section) → free (V.Switch s cs) ≡ all_true (map section_free cs)
free-Switch s cs = ap free (sym (rolls-Switch s cs)) ∙ free_roll (Switch s cs)

free-Block : (a : List Item) → free (V.Block a) ≡ all_true (map free a)
free-Block a = ap free (sym (rolls-Block a)) ∙ free_roll (Block a)

-- the induction

abbrev P : Item → Type 0
P x = all_true (map free (items_of (converted_item x))) ≡ true

abbrev Q : Section → Type 0
Q c = section_free (converted_section c) ≡ true

abbrev I : Type 0
I = (x : Item) × P x

abbrev C : Type 0
C = (c : Section) × Q c

abbrev item : I → Item
item e = e.0

abbrev section : C → Section
section e = e.0

list_free : (a : List I) → all_true (map free (flat_map items_of (map converted_item (map item a)))) ≡ true
list_free [] = refl
list_free (e ∷ a) = free_append (items_of (converted_item e.0)) (flat_map items_of (map converted_item (map item a))) e.1 (list_free a)

sections_free : (a : List C) → all_true (map section_free (map converted_section (map section a))) ≡ true
sections_free [] = refl
sections_free (e ∷ a) = both_true (section_free (converted_section e.0)) (all_true (map section_free (map converted_section (map section a)))) e.1
    (sections_free a)

jump_free : (l : ℕ) (e : Option Expression) → all_true (map free (jump l e)) ≡ true
jump_free l e = both_true (free (V.Arm l e)) (all_true (map free (V.Leap l ∷ []))) (free-Arm l e) (one (V.Leap l) (free-Leap l))

if_free : (o : Option ℕ) (t : Test) (x : Item) → free x ≡ true → all_true (map free (option_map_or (λ l. jump l (source t)) o (x ∷ []))) ≡ true
if_free None t x p = one x p
if_free (Some l) t x p = jump_free l (source t)

layer : (y : Item-F I C) → all_true (map free
    (items_of (converted_layer (map-Item Item Section Converted Section converted_item converted_section (map-Item I C Item Section item section y))))) ≡ true
layer (Goto l) = jump_free l None
layer (Mark l) = one (V.Land l) (free-Land l)
layer (If t a b) = if_free (conditional_jump t (map converted_item (map item a)) (map converted_item (map item b))) t
    _ (free-If t _ _ ∙ both_true _ _ (list_free a) (list_free b))
layer (While t a) = one _ (free-While t _ ∙ list_free a)
layer (Do a t) = one _ (free-Do _ t ∙ list_free a)
layer (For f t u a) = one _ (free-For _ t u _ ∙ both_true _ _ (list_free f) (list_free a))
layer (Switch s cs) = one _ (free-Switch s _ ∙ sections_free cs)
layer (Block a) = one _ (free-Block _ ∙ list_free a)
layer (Evaluate e) = one _ (free-Evaluate e)
layer (Return e) = one _ (free-Return e)
layer (Local k e) = one _ (free-Local k e)
layer Break = one _ free-Break
layer Continue = one _ free-Continue
layer (Arm l e) = one _ (free-Arm l e)
layer (Leap l) = one _ (free-Leap l)
layer (Land l) = one _ (free-Land l)
layer (Arrival e) = one _ (free-Arrival e)
layer (Note b) = one _ (free-Note b)

item_free : (x : Item) → P x
item_free = ind-Item P Q
    (λ x y e. subst (λ (z : Item-F Item Section). P (roll-Item z)) e (
    ap (λ v. all_true (map free (items_of v))) (fold-roll-Item Converted Section converted_layer (rebuilt_section items_of) _) ∙ layer y))
    (λ x y e. subst (λ (z : Section-F Item Section). Q (roll-Section z)) e (
    ap section_free (fold-roll-Section Converted Section converted_layer (rebuilt_section items_of) _)
    ∙ fold-roll-Section Bool Bool (throughout_step is_goto_free_layer) section_throughout_step _ ∙ list_free y.list))

pub converted_list_free : (xs : List Item) → is_goto_free (converted_list xs) ≡ true
converted_list_free [] = refl
converted_list_free (x ∷ xs) = free_append (items_of (converted_item x)) (converted_list xs) (item_free x) (converted_list_free xs)
