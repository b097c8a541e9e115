-- A body without switches is left as it is where its guards stay, and so is a function that has nothing to become plain.
use Rattle.std.proofs.Common.{◌≡◌, ℕ, Bool, true, false, not, ◌&&◌, ◌||◌, List, [], ◌∷◌, map, Option, Some, None, refl, sym, ap, subst, ◌∙◌}
use mathlib.Core.Path.{ap₂}
use Rattle.std.specs.Prelude.{if◌then◌else◌}
use Rattle.c_tree.specs.declared.tree.Function.{Function}
use Rattle.c_tree.specs.declared.tree.Item.{Item, Item-F, roll-Item, fold-roll-Item, ind-Item, map-Item}
use Rattle.c_tree.specs.declared.tree.Item.TheOpen.{If, While, Do, For, Switch, Block}
use Rattle.c_tree.specs.declared.tree.Section.{Section, fold-Section}
use Rattle.plain_laws.specs.Plain.{any_true, section_names_step, tidied_step, tidied_item, tidied_section, tidied, ended, plain_body, plain_function, with_guard_variables}
use Rattle.plain_form.specs.Staying.{switch_step, holds_switch, has_switch, stays}

first : (a b : Bool) → (a || b) ≡ false → a ≡ false
first true b h = h
first false b h = refl

second : (a b : Bool) → (a || b) ≡ false → b ≡ false
second true b h = absurd cc
second false b h = h

abbrev Same : Item → Type 0
Same x = holds_switch x ≡ false → tidied_item x ≡ x

abbrev I : Type 0
I = (x : Item) × Same x

-- nothing is asked of a section, since it stands in a switch
abbrev C : Type 0
C = Section × Unit {0}

abbrev item : I → Item
item e = e.0

abbrev section : C → Section
section e = e.0

list_same : (a : List I) → any_true (map holds_switch (map item a)) ≡ false → map tidied_item (map item a) ≡ map item a
list_same [] h = refl
list_same (e ∷ a) h =
    let q = first (holds_switch e.0) (any_true (map holds_switch (map item a))) h in
    let r = second (holds_switch e.0) (any_true (map holds_switch (map item a))) h in
    ap₂ {A = Item} {B = List Item} (λ x xs. x ∷ xs) (e.1 q) (list_same a r)

abbrev closed : Item-F I C → Item-F Item Section
closed y = map-Item I C Item Section item section y

abbrev has : List I → Bool
has a = any_true (map holds_switch (map item a))

abbrev in_section : Section → Bool
in_section c = fold-Section Bool Bool switch_step section_names_step c

form : (y : Item-F I C) → switch_step (map-Item Item Section Bool Bool holds_switch in_section (closed y)) ≡ false
    → tidied_step (map-Item Item Section Item Section tidied_item tidied_section (closed y)) ≡ roll-Item (closed y)
form (If t a b) h =
    ap₂ {A = List Item} {B = List Item} (λ p q. roll-Item (If t p q)) (list_same a (first (has a) (has b) h)) (list_same b (second (has a) (has b) h))
form (While t a) h = ap (λ p. roll-Item (While t p)) (list_same a h)
form (Do a t) h = ap (λ p. roll-Item (Do p t)) (list_same a h)
form (For f t u a) h =
    ap₂ {A = List Item} {B = List Item} (λ p q. roll-Item (For p t u q)) (list_same f (first (has f) (has a) h)) (list_same a (second (has f) (has a) h))
form (Switch s cs) h = absurd cc
form (Block a) h = ap (λ p. roll-Item (Block p)) (list_same a h)
form _ h = refl

same : (x : Item) → Same x
same = ind-Item Same (λ (c : Section). Unit {0})
    (λ x y e. subst (λ (z : Item-F Item Section). Same (roll-Item z)) e (λ h.
    fold-roll-Item Item Section tidied_step ended (closed y) ∙ form y (sym (fold-roll-Item Bool Bool switch_step section_names_step (closed y)) ∙ h)))
    (λ x y e. tt)

-- a list without switches
pub tidied_same : (xs : List Item) → has_switch xs ≡ false → tidied xs ≡ xs
tidied_same [] h = refl
tidied_same (x ∷ xs) h =
    let q = first (holds_switch x) (has_switch xs) h in
    let r = second (holds_switch x) (has_switch xs) h in
    ap₂ {A = Item} {B = List Item} (λ y ys. y ∷ ys) (same x q) (tidied_same xs r)

by_flat : (names : List (List ℕ)) (f : Function) (body : List Item) → f.body ≡ Some body → (b c : Bool) → f.flat ≡ b → has_switch body ≡ c →
    (not b && not c) ≡ true
    → (if f.flat then with_guard_variables names f body else record f { body = Some (tidied body) }) ≡ f
by_flat names f body e true c p q h = absurd cc
by_flat names f body e false true p q h = absurd cc
by_flat names f body e false false p q h =
    ap (λ b. if b then with_guard_variables names f body else record f { body = Some (tidied body) }) p
    ∙ ap (λ xs. record f { body = Some xs }) (tidied_same body q) ∙ ap (λ o. record f { body = o }) (sym e)

by_body : (names : List (List ℕ)) (f : Function) (o : Option (List Item)) → f.body ≡ o →
    (elim o [ None ↦ true | Some body ↦ not f.flat && not (has_switch body) ]) ≡ true → plain_body names f o ≡ f
by_body names f None e h = refl
by_body names f (Some body) e h = by_flat names f body e f.flat (has_switch body) refl refl h

-- a function that stays
pub stays_plain : (names : List (List ℕ)) (f : Function) → stays f ≡ true → plain_function names f ≡ f
stays_plain names f h = by_body names f f.body refl h
