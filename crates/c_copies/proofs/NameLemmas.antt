-- How names come into a set, one list after another, and the names of each form with several parts.
use Rattle.std.proofs.Common.{◌≡◌, ℕ, ◌+◌, ◌<◌, List, [], ◌∷◌, ◌++◌, length, drop, get_or, map, refl, sym, ap, ◌∙◌, Option, Result, OnOk}
use Rattle.std.proofs.lemmas.List.{at_drop_more}
use Rattle.std.proofs.lemmas.Result.{on_ok_weaker}
use Rattle.c_types.specs.declared.kinds.ArithOp.{ArithOp}
use Rattle.c_tree.specs.declared.tree.BinaryOp.{BinaryOp}
use Rattle.c_tree.specs.declared.tree.Expression.{Expression}
use Rattle.c_tree.specs.declared.tree.Place.{Place}
use Rattle.c_tree.specs.declared.tree.Node.{Binary, Conditional, Assign, Update, Comma, fold-roll-Node}
use Rattle.c_tree.specs.declared.tree.Node.TheVariants.{rolls-Binary, rolls-Conditional, rolls-Assign, rolls-Update, rolls-Comma}
use Rattle.c_tree.specs.declared.tree.Node.TheOpen as N
use Rattle.c_tree.specs.declared.tree.Test.{Test}
use Rattle.c_tree.specs.declared.tree.Selector.{Selector}
use Rattle.c_tree.specs.declared.tree.Item.{Item, If, While, Do, For, Switch, fold-roll-Item}
use Rattle.c_tree.specs.declared.tree.Item.TheVariants.{rolls-If, rolls-While, rolls-Do, rolls-For, rolls-Switch}
use Rattle.c_tree.specs.declared.tree.Item.TheOpen as O
use Rattle.c_tree.specs.declared.tree.Section.{Section, out-Section, fold_out-Section}
use Rattle.c_copies.specs.Names.{with_name, with_names, joined_names, node_names_step, place_names_step, expression_names_step, expression_names, expressions_names, node_names, place_names, option_names, test_names, selector_names, item_names_step, section_names_step, item_names, section_names, items_names, sections_names}

pub with_names_append : (ks a b : List (List ℕ)) → with_names ks (a ++ b) ≡ with_names (with_names ks a) b
with_names_append ks [] b = refl
with_names_append ks (n ∷ a) b = with_names_append (with_name ks n) a b

-- the names a, and then the names b
pub then_names : (ks ls ms a b : List (List ℕ)) → ls ≡ with_names ks a → ms ≡ with_names ls b → ms ≡ with_names ks (a ++ b)
then_names ks ls ms a b e f = f ∙ ap (λ l. with_names l b) e ∙ sym (with_names_append ks a b)

-- the same where the last call may have failed
pub after_names : {T E : Type 0} (r : Result T E) (ks ls ms a b c : List (List ℕ))
    → ls ≡ with_names ks a → c ≡ a ++ b → OnOk r (ms ≡ with_names ls b) → OnOk r (ms ≡ with_names ks c)
after_names r ks ls ms a b c e f h = on_ok_weaker r (λ (g : ms ≡ with_names ls b). then_names ks ls ms a b e g ∙ ap (with_names ks) (sym f)) h

-- one part further in a loop over parts
pub names_step : {A : Type 0} (f : A → List (List ℕ)) (ks ls done : List (List ℕ)) (xs : List A) (i : ℕ) (x : A)
    → i < length xs → x ≡ get_or xs i x → ls ≡ with_names ks (f x)
    → with_names ks (joined_names (map f (drop i xs))) ≡ done → with_names ls (joined_names (map f (drop (i + 1) xs))) ≡ done
names_step f ks ls done xs i x h is e inv =
    ap (λ l. with_names l (joined_names (map f (drop (i + 1) xs)))) (e ∙ ap (λ y. with_names ks (f y)) is)
    ∙ sym (with_names_append ks (f (get_or xs i x)) (joined_names (map f (drop (i + 1) xs))))
    ∙ sym (at_drop_more (λ l. with_names ks (joined_names (map f l))) xs i x h) ∙ inv

-- the names of each form

pub node_names-Binary : (op : BinaryOp) (a b : Expression) → node_names (Binary op a b) ≡ expression_names a ++ expression_names b
node_names-Binary op a b =
    ap node_names (sym (rolls-Binary op a b)) ∙ fold-roll-Node (List (List ℕ)) (List (List ℕ)) (List (List ℕ)) node_names_step place_names_step
    expression_names_step (N.Binary op a b)

pub node_names-Conditional : (a b c : Expression) → node_names (Conditional a b c) ≡ expression_names a ++ expression_names b ++ expression_names c
node_names-Conditional a b c =
    ap node_names (sym (rolls-Conditional a b c)) ∙ fold-roll-Node (List (List ℕ)) (List (List ℕ)) (List (List ℕ)) node_names_step place_names_step
    expression_names_step (N.Conditional a b c)

pub node_names-Assign : (p : Place) (a : Expression) → node_names (Assign p a) ≡ place_names p ++ expression_names a
node_names-Assign p a =
    ap node_names (sym (rolls-Assign p a)) ∙ fold-roll-Node (List (List ℕ)) (List (List ℕ)) (List (List ℕ)) node_names_step place_names_step
    expression_names_step (N.Assign p a)

pub node_names-Update : (op : ArithOp) (p : Place) (a : Expression) → node_names (Update op p a) ≡ place_names p ++ expression_names a
node_names-Update op p a =
    ap node_names (sym (rolls-Update op p a)) ∙ fold-roll-Node (List (List ℕ)) (List (List ℕ)) (List (List ℕ)) node_names_step place_names_step
    expression_names_step (N.Update op p a)

pub node_names-Comma : (a b : Expression) → node_names (Comma a b) ≡ expression_names a ++ expression_names b
node_names-Comma a b =
    ap node_names (sym (rolls-Comma a b)) ∙ fold-roll-Node (List (List ℕ)) (List (List ℕ)) (List (List ℕ)) node_names_step place_names_step
    expression_names_step (N.Comma a b)

pub item_names-If : (t : Test) (a b : List Item) → item_names (If t a b) ≡ test_names t ++ items_names a ++ items_names b
item_names-If t a b = ap item_names (sym (rolls-If t a b)) ∙ fold-roll-Item (List (List ℕ)) (List (List ℕ)) item_names_step section_names_step (O.If t a b)

pub item_names-While : (t : Test) (a : List Item) → item_names (While t a) ≡ test_names t ++ items_names a
item_names-While t a = ap item_names (sym (rolls-While t a)) ∙ fold-roll-Item (List (List ℕ)) (List (List ℕ)) item_names_step section_names_step (O.While t a)

pub item_names-Do : (a : List Item) (t : Test) → item_names (Do a t) ≡ items_names a ++ test_names t
item_names-Do a t = ap item_names (sym (rolls-Do a t)) ∙ fold-roll-Item (List (List ℕ)) (List (List ℕ)) item_names_step section_names_step (O.Do a t)

pub item_names-For : (f : List Item) (t u : Option Expression) (a : List Item) →
    item_names (For f t u a) ≡ items_names f ++ option_names t ++ option_names u ++ items_names a
item_names-For f t u a = ap item_names (sym (rolls-For f t u a)) ∙ fold-roll-Item (List (List ℕ)) (List (List ℕ)) item_names_step section_names_step
    (O.For f t u a)

pub item_names-Switch : (s : Selector) (cs : List Section) → item_names (Switch s cs) ≡ selector_names s ++ sections_names cs
item_names-Switch s cs = ap item_names (sym (rolls-Switch s cs)) ∙ fold-roll-Item (List (List ℕ)) (List (List ℕ)) item_names_step section_names_step
    (O.Switch s cs)

pub section_names-is : (c : Section) → section_names c ≡ expressions_names (out-Section c).cases ++ items_names (out-Section c).list
section_names-is c = fold_out-Section (List (List ℕ)) (List (List ℕ)) item_names_step section_names_step c
