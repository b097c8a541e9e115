-- A plain program is structured.
use Rattle.std.proofs.Common.{◌≡◌, Bool, true, Option, Some, None, List, [], ◌∷◌, map, sym, subst, ◌∙◌}
use Rattle.std.specs.List.{AllByRecursion}
use Rattle.std.specs.Option.{option_map_or}
use Rattle.std.proofs.lemmas.Bool.{and_parts}
use Rattle.std.proofs.lemmas.List.Elements.{All-from_recursion}
use Rattle.c_tree.specs.declared.tree.Item.{Item, Item-F, roll-Item, fold-roll-Item, ind-Item, map-Item}
use Rattle.c_tree.specs.declared.tree.Item.TheOpen.{Section-F, If, While, Do, For, Switch, Block, Goto, Mark, Arm, Leap, Land, Arrival, Note}
use Rattle.c_tree.specs.declared.tree.Section.{Section, fold-roll-Section, roll-Section}
use Rattle.c_tree.specs.declared.tree.Top.{Top}
use Rattle.c_tree.specs.declared.tree.Top.TheVariants as T
use Rattle.c_tree.specs.declared.tree.Program.{Program}
use Rattle.c_tree.specs.Trees.{Tree, Nil, SectionTree, forest, sections, layer, section_layer, tree_of, section_tree, trees_of}
use Rattle.c_tree.specs.Everywhere.{Everywhere, EverywhereOf, EverywhereIn}
use Rattle.c_tree.specs.Jumps.{all_true, holds_throughout, section_holds_throughout, throughout_step, section_throughout_step, is_plain_layer, is_plain, body_holds, is_plain_function, top_holds, is_plain_program}
use Rattle.struct_meaning.specs.Structured.{IsStructured, IsTopStructured, IsProgramStructured}

abbrev plain : Item → Bool
plain x = holds_throughout is_plain_layer x

abbrev section_plain : Section → Bool
section_plain c = section_holds_throughout is_plain_layer c

-- the induction

abbrev P : Item → Type 0
P x = plain x ≡ true → EverywhereOf IsStructured (tree_of x)

abbrev Q : Section → Type 0
Q c = section_plain c ≡ true → Everywhere IsStructured (section_tree c).list

abbrev I : Type 0
I = (x : Item) × P x

abbrev C : Type 0
C = (c : Section) × Q c

abbrev item_of : I → Item
item_of e = e.0

abbrev section_of : C → Section
section_of e = e.0

list_structured : (a : List I) → all_true (map plain (map item_of a)) ≡ true → Everywhere IsStructured (forest (map tree_of (map item_of a)))
list_structured [] p = tt
list_structured (e ∷ a) p = let q = and_parts (plain e.0) (all_true (map plain (map item_of a))) p in (e.1 q.0, list_structured a q.1)

sections_structured : (a : List C) → all_true (map section_plain (map section_of a)) ≡ true →
    EverywhereIn IsStructured (sections (map section_tree (map section_of a)))
sections_structured [] p = tt
sections_structured (e ∷ a) p = let q = and_parts (section_plain e.0) (all_true (map section_plain (map section_of a))) p in
    (e.1 q.0, sections_structured a q.1)

layered : (y : Item-F I C)
    → throughout_step is_plain_layer (map-Item Item Section Bool Bool plain section_plain (map-Item I C Item Section item_of section_of y)) ≡ true
    → EverywhereOf IsStructured (layer (map-Item Item Section Tree SectionTree tree_of section_tree (map-Item I C Item Section item_of section_of y)))
layered (If t a b) p = let q = and_parts _ _ (and_parts _ _ p).1 in (tt, list_structured a q.0, list_structured b q.1)
layered (While t a) p = (tt, list_structured a (and_parts _ _ p).1)
layered (Do a t) p = (tt, list_structured a (and_parts _ _ p).1)
layered (For f t u a) p = let q = and_parts _ _ p in (tt, list_structured f q.0, list_structured a q.1)
layered (Switch s cs) p = (tt, sections_structured cs (and_parts _ _ p).1)
layered (Block a) p = (tt, list_structured a p)
layered (Goto l) p = cc
layered (Mark l) p = cc
layered (Leap l) p = cc
layered (Arrival c) p = cc
layered (Arm l e) p = cc
layered (Land l) p = cc
layered _ p = tt

item_structured : (x : Item) → P x
unfolding tree_of section_tree
item_structured = ind-Item P Q
    (λ x y e. subst (λ (z : Item-F Item Section). P (roll-Item z)) e (λ p.
    subst (λ z. EverywhereOf IsStructured z) (sym (fold-roll-Item Tree SectionTree layer section_layer _))
    (layered y (sym (fold-roll-Item Bool Bool (throughout_step is_plain_layer) section_throughout_step _) ∙ p))))
    (λ x y e. subst (λ (z : Section-F Item Section). Q (roll-Section z)) e (λ p.
    subst (λ (z : SectionTree). Everywhere IsStructured z.list) (sym (fold-roll-Section Tree SectionTree layer section_layer _))
    (list_structured y.list (sym (fold-roll-Section Bool Bool (throughout_step is_plain_layer) section_throughout_step _) ∙ p))))

items_structured : (xs : List Item) → is_plain xs ≡ true → Everywhere IsStructured (forest (map tree_of xs))
items_structured [] p = tt
items_structured (x ∷ xs) p = let q = and_parts (plain x) (is_plain xs) p in (item_structured x q.0, items_structured xs q.1)

-- functions and programs

body_structured : (o : Option (List Item)) → body_holds is_plain o ≡ true → Everywhere IsStructured (option_map_or trees_of o Nil)
unfolding trees_of
body_structured None p = tt
body_structured (Some xs) p = items_structured xs p

tops_structured : (ts : List Top) → all_true (map (top_holds is_plain_function) ts) ≡ true → AllByRecursion IsTopStructured ts
tops_structured [] p = tt
tops_structured (T.Function f ∷ ts) p =
    let q = and_parts (is_plain_function f) (all_true (map (top_holds is_plain_function) ts)) p in
    (body_structured f.body q.0, tops_structured ts q.1)
tops_structured (T.Include b ∷ ts) p = (tt, tops_structured ts p)
tops_structured (T.Enum es ∷ ts) p = (tt, tops_structured ts p)
tops_structured (T.Global g ∷ ts) p = (tt, tops_structured ts p)
tops_structured (T.Note b ∷ ts) p = (tt, tops_structured ts p)

-- a program whose functions have no guards and no jumps is structured
pub plain_structured : (q : Program) → is_plain_program q ≡ true → IsProgramStructured q
plain_structured q p = All-from_recursion IsTopStructured q.tops (tops_structured q.tops p)
