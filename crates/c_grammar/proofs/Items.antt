-- What a node writes, by its production and its parts: declarations, labels and statements.
use Rattle.std.proofs.Common.{◌≡◌, ◌≤◌, ◌<◌, ◌-◌, ◌||◌, cond, Bor, true, false, Bool, ℕ, zero, suc, List, [], ◌∷◌, map, take, drop, length, get_or, length-drop, Option, Some, None, refl, ap, sym, ◌∙◌, arith}
use Rattle.std.proofs.lemmas.List.{length-map, drop-map}
use Rattle.std.specs.List.{list_any}
use Rattle.std.specs.Prelude.{is_some}
use Rattle.c_lexer.proofs.Truths.{or_first, or_second}
use Rattle.c_grammar.specs.TokenClasses.{keyword_class}
use Rattle.c_grammar.specs.declared.syntax.Production.{Production}
use Rattle.c_grammar.specs.declared.syntax.Production.TheVariants as p
use Rattle.c_grammar.specs.declared.syntax.Syntax.{Syntax, out-Syntax}
use Rattle.c_grammar.specs.Items.{Initialiser, NoValue, Declarator, Declaration, Label, Item, Declares, States, Plain, From, Statement, Evaluate, Block, Unread, Braces, Lone}
use Rattle.c_grammar.specs.Terms.{At}
use Rattle.c_grammar.specs.Parts.{Part, part_of, part_layer, content, at, first_at, token_at, is_token, is_local, absent, initialiser, initialiser_in, declarator, declarator_in, declaration, declaration_in, no_declaration, label, label_in, item_in, statement_in, labelled, plain_statement, keyword_statement, behind_start, items_in, other_statement, form_by, list_of_item, list_of_plain}
use Rattle.c_grammar.specs.declared.statements.ItemLayer.{ItemLayer}
use Rattle.c_grammar.specs.declared.statements.ItemLayer.TheVariants as I
use Rattle.c_grammar.specs.declared.statements.StatementLayer.{StatementLayer}
use Rattle.c_grammar.specs.declared.statements.StatementLayer.TheVariants as S
use Rattle.c_grammar.specs.ItemViews.{item_of, plain_of, body_of, declaration_of, label_of, labels_of, declarator_of, item_form, statement_form}
use Rattle.c_grammar.specs.Weighed.{open_weight}
use Rattle.c_grammar.proofs.Layers.{open_part, at-map, part-rule, part-first, part-after, first-map, token-map, take-whole, open_form, weight-at, weights-rest}

-- ---- by production

abbrev pub initialiser_by : Production → List Part → Initialiser
initialiser_by p.Initialiser ps = initialiser ps
initialiser_by _ ps = NoValue

abbrev pub declarator_by : Production → List Part → Option Declarator
declarator_by p.Declarator ps = Some (declarator ps)
declarator_by _ ps = None

abbrev pub declaration_by : Production → List Part → Declaration
declaration_by p.Local ps = declaration ps
declaration_by _ ps = no_declaration

abbrev pub label_by : (ℕ → List ℕ) → Production → ℕ → ℕ → List Part → Option Label
label_by word p.Label first after ps = Some (label word first after ps)
label_by word _ first after ps = None

abbrev pub item_by : Production → ℕ → ℕ → List Part → Item
item_by p.Statement first after ps = labelled ps
item_by p.Local first after ps = Declares first after (declaration ps)
item_by _ first after ps = States [] (From first after Unread)

abbrev pub statement_by : (ℕ → List ℕ) → Production → List Part → Statement
statement_by word p.Plain ps = plain_statement word ps
statement_by word _ ps = Unread

abbrev pub other_by : Production → ℕ → ℕ → List Part → Statement
other_by p.Block first after ps = Block (Braces first after (items_in ps))
other_by p.Expression first after ps = Evaluate (At first (form_by p.Expression ps))
other_by p.Assignment first after ps = Evaluate (At first (form_by p.Assignment ps))
other_by p.Conditional first after ps = Evaluate (At first (form_by p.Conditional ps))
other_by p.Binary first after ps = Evaluate (At first (form_by p.Binary ps))
other_by p.Unary first after ps = Evaluate (At first (form_by p.Unary ps))
other_by p.Postfix first after ps = Evaluate (At first (form_by p.Postfix ps))
other_by p.Target first after ps = Evaluate (At first (form_by p.Target ps))
other_by p.Argument first after ps = Evaluate (At first (form_by p.Argument ps))
other_by _ first after ps = Unread

initialiser-content : (word : ℕ → List ℕ) (rule : Production) (first after : ℕ) (ps : List Part) →
    initialiser_in (content word rule first after ps) ≡ initialiser_by rule ps
initialiser-content word p.Initialiser first after ps = refl
initialiser-content word _ first after ps = refl

declarator-content : (word : ℕ → List ℕ) (rule : Production) (first after : ℕ) (ps : List Part) →
    declarator_in (content word rule first after ps) ≡ declarator_by rule ps
declarator-content word p.Declarator first after ps = refl
declarator-content word _ first after ps = refl

declaration-content : (word : ℕ → List ℕ) (rule : Production) (first after : ℕ) (ps : List Part) →
    declaration_in (content word rule first after ps) ≡ declaration_by rule ps
declaration-content word p.Local first after ps = refl
declaration-content word _ first after ps = refl

label-content : (word : ℕ → List ℕ) (rule : Production) (first after : ℕ) (ps : List Part) →
    label_in (content word rule first after ps) ≡ label_by word rule first after ps
label-content word p.Label first after ps = refl
label-content word _ first after ps = refl

item-layer : (word : ℕ → List ℕ) (rule : Production) (first after : ℕ) (ps : List Part) →
    item_in (part_layer word (record { rule = rule; first = first; after = after; parts = ps })) ≡ item_by rule first after ps
item-layer word p.Statement first after ps = refl
item-layer word p.Local first after ps = refl
item-layer word _ first after ps = refl

plain-layer : (word : ℕ → List ℕ) (rule : Production) (first after : ℕ) (ps : List Part) →
    statement_in (part_layer word (record { rule = rule; first = first; after = after; parts = ps })) ≡ From first after (statement_by word rule ps)
plain-layer word p.Plain first after ps = refl
plain-layer word _ first after ps = refl

other-layer : (word : ℕ → List ℕ) (rule : Production) (first after : ℕ) (ps : List Part) →
    other_statement (part_layer word (record { rule = rule; first = first; after = after; parts = ps })) ≡ other_by rule first after ps
other-layer word p.Block first after ps = refl
other-layer word _ first after ps = refl

pub open_initialiser : (word : ℕ → List ℕ) (x : Syntax) → initialiser_in (part_of word x).content ≡ initialiser_by (out-Syntax x).rule
    (map (part_of word) (out-Syntax x).parts)
open_initialiser word x = ap (λ (q : Part). initialiser_in q.content) (open_part word x) ∙
    initialiser-content word (out-Syntax x).rule (out-Syntax x).first (out-Syntax x).after (map (part_of word) (out-Syntax x).parts)

pub open_declarator : (word : ℕ → List ℕ) (x : Syntax) → declarator_of word x ≡ declarator_by (out-Syntax x).rule (map (part_of word) (out-Syntax x).parts)
open_declarator word x = ap (λ (q : Part). declarator_in q.content) (open_part word x) ∙
    declarator-content word (out-Syntax x).rule (out-Syntax x).first (out-Syntax x).after (map (part_of word) (out-Syntax x).parts)

pub open_declaration : (word : ℕ → List ℕ) (x : Syntax) → declaration_of word x ≡ declaration_by (out-Syntax x).rule (map (part_of word) (out-Syntax x).parts)
open_declaration word x = ap (λ (q : Part). declaration_in q.content) (open_part word x) ∙
    declaration-content word (out-Syntax x).rule (out-Syntax x).first (out-Syntax x).after (map (part_of word) (out-Syntax x).parts)

pub open_label : (word : ℕ → List ℕ) (x : Syntax) → label_of word x ≡ label_by word (out-Syntax x).rule (out-Syntax x).first (out-Syntax x).after
    (map (part_of word) (out-Syntax x).parts)
open_label word x = ap (λ (q : Part). label_in q.content) (open_part word x) ∙
    label-content word (out-Syntax x).rule (out-Syntax x).first (out-Syntax x).after (map (part_of word) (out-Syntax x).parts)

pub open_item : (word : ℕ → List ℕ) (x : Syntax) → item_of word x ≡ item_by (out-Syntax x).rule (out-Syntax x).first (out-Syntax x).after
    (map (part_of word) (out-Syntax x).parts)
open_item word x = ap item_in (open_part word x) ∙ item-layer word (out-Syntax x).rule (out-Syntax x).first (out-Syntax x).after
    (map (part_of word) (out-Syntax x).parts)

pub open_plain : (word : ℕ → List ℕ) (x : Syntax) → plain_of word x ≡ From (out-Syntax x).first (out-Syntax x).after
    (statement_by word (out-Syntax x).rule (map (part_of word) (out-Syntax x).parts))
open_plain word x = ap statement_in (open_part word x) ∙ plain-layer word (out-Syntax x).rule (out-Syntax x).first (out-Syntax x).after
    (map (part_of word) (out-Syntax x).parts)

pub open_other : (word : ℕ → List ℕ) (x : Syntax) → other_statement (part_of word x) ≡ other_by (out-Syntax x).rule (out-Syntax x).first
    (out-Syntax x).after (map (part_of word) (out-Syntax x).parts)
open_other word x = ap other_statement (open_part word x) ∙ other-layer word (out-Syntax x).rule (out-Syntax x).first (out-Syntax x).after
    (map (part_of word) (out-Syntax x).parts)

-- ---- parts that aren't there, and those behind a number of parts

pub at-none : (ps : List Part) (i : ℕ) → length ps ≤ i → at ps i ≡ absent
at-none [] i h = refl
at-none (q ∷ qs) zero h = absurd (omega arith)
at-none (q ∷ qs) (suc i) h = at-none qs i (omega arith)

pub local-map : (word : ℕ → List ℕ) (xs : List Syntax) (i : ℕ) (d : Syntax) → i < length xs →
    is_local (at (map (part_of word) xs) i).rule ≡ is_local (out-Syntax (get_or xs i d)).rule
local-map word xs i d h = ap (λ (q : Part). is_local q.rule) (at-map word xs i d h) ∙ ap is_local (part-rule word (get_or xs i d))

pub first-none : (word : ℕ → List ℕ) (xs : List Syntax) (i : ℕ) → length xs ≤ i → first_at (map (part_of word) xs) i ≡ 0
first-none word xs i h = ap (λ (q : Part). q.first) (at-none (map (part_of word) xs) i (rw length-map h))

pub token-none : (word : ℕ → List ℕ) (xs : List Syntax) (i : ℕ) → length xs ≤ i → token_at (map (part_of word) xs) i ≡ true
token-none word xs i h = ap (λ (q : Part). is_token q.rule) (at-none (map (part_of word) xs) i (rw length-map h))

pub rest-whole : (n : ℕ) (xs : List Syntax) → take (length xs - n) (drop n xs) ≡ drop n xs
rest-whole n xs = take-whole (length xs - n) (drop n xs) (rw length-drop (omega arith))

pub local-behind : (word : ℕ → List ℕ) (xs : List Syntax) (d : Syntax) → 0 < length xs → is_local (out-Syntax (get_or xs 0 d)).rule ≡ true →
    behind_start (map (part_of word) xs) ≡ map (part_of word) (take (length xs - 1) (drop 1 xs))
local-behind word xs d h e = rw (local-map word xs 0 d h, e, rest-whole 1 xs, drop-map (part_of word) 1 xs) refl

pub no-statement : (word : ℕ → List ℕ) (xs : List Syntax) → length xs ≡ 0 → plain_statement word (map (part_of word) xs) ≡ Unread
no-statement word [] h = refl
no-statement word (x ∷ xs) h = absurd (omega arith)

pub keyword-statement : (word : ℕ → List ℕ) (xs : List Syntax) (d : Syntax) → 0 < length xs → is_token (out-Syntax (get_or xs 0 d)).rule ≡ true
    → plain_statement word (map (part_of word) xs) ≡ keyword_statement (keyword_class (word (first_at (map (part_of word) xs) 0))) (map (part_of word) xs)
keyword-statement word [] d h t = absurd (omega arith)
keyword-statement word (x ∷ xs) d h t =
    let ps : List Part = map (part_of word) (x ∷ xs) in
    ap (λ (b : Bool). cond b (keyword_statement (keyword_class (word (first_at ps 0))) ps) (other_statement (part_of word x)))
    (ap is_token (part-rule word x) ∙ t)

pub other-statement : (word : ℕ → List ℕ) (xs : List Syntax) (d : Syntax) → 0 < length xs → is_token (out-Syntax (get_or xs 0 d)).rule ≡ false
    → plain_statement word (map (part_of word) xs) ≡ other_statement (part_of word (get_or xs 0 d))
other-statement word [] d h t = absurd (omega arith)
other-statement word (x ∷ xs) d h t =
    let ps : List Part = map (part_of word) (x ∷ xs) in
    ap (λ (b : Bool). cond b (keyword_statement (keyword_class (word (first_at ps 0))) ps) (other_statement (part_of word x)))
    (ap is_token (part-rule word x) ∙ t)

-- ---- labels

without : (o : Option Label) (rest : List Label) → is_some o ≡ false → (elim o [ Some l ↦ l ∷ rest | None ↦ rest ]) ≡ rest
without None rest h = refl
without (Some l) rest h = cc

pub any_label : (word : ℕ → List ℕ) (xs : List Syntax) → list_any (λ x. is_some (label_of word x)) xs ≡ false → labels_of word xs ≡ []
any_label word [] h = refl
any_label word (x ∷ xs) h = without (label_of word x) (labels_of word xs)
    (or_first (is_some (label_of word x)) (list_any (λ y. is_some (label_of word y)) xs) h) ∙
    any_label word xs (or_second (is_some (label_of word x)) (list_any (λ y. is_some (label_of word y)) xs) h)

-- ---- the list of a construct

body-is : (word : ℕ → List ℕ) (x : Syntax) → body_of word x ≡ list_of_item (out-Syntax x).first (out-Syntax x).after (item_of word x)
body-is word x = λ i. list_of_item (part-first word x i) (part-after word x i) (item_of word x)

one-more : (o : Option Label) (rest : List Label) (p : Plain) (first after : ℕ) (b : Bool) → (is_some o || b) ≡ true
    → (b ≡ true → list_of_plain first after rest p ≡ Lone first after (States rest p))
    → list_of_plain first after (elim o [ Some l ↦ l ∷ rest | None ↦ rest ]) p ≡ Lone first after (States (elim o [ Some l ↦ l ∷ rest | None ↦ rest ]) p)
one-more None rest p first after b h k = k h
one-more (Some l) rest p first after b h k = refl

lone-labelled : (word : ℕ → List ℕ) (xs : List Syntax) (p : Plain) (first after : ℕ) → list_any (λ x. is_some (label_of word x)) xs ≡ true
    → list_of_plain first after (labels_of word xs) p ≡ Lone first after (States (labels_of word xs) p)
lone-labelled word [] p first after h = cc
lone-labelled word (x ∷ xs) p first after h =
    one-more (label_of word x) (labels_of word xs) p first after (list_any (λ y. is_some (label_of word y)) xs) h (lone-labelled word xs p first after)

-- a statement with labels is its own list
pub labelled-body : (word : ℕ → List ℕ) (x : Syntax) (ls : List Syntax) (p : Syntax) → item_of word x ≡ States (labels_of word ls) (plain_of word p)
    → list_any (λ y. is_some (label_of word y)) ls ≡ true → body_of word x ≡ Lone (out-Syntax x).first (out-Syntax x).after (item_of word x)
labelled-body word x ls p e h =
    body-is word x ∙ ap (list_of_item (out-Syntax x).first (out-Syntax x).after) e ∙
    lone-labelled word ls (plain_of word p) (out-Syntax x).first (out-Syntax x).after h
    ∙ sym (ap (Lone (out-Syntax x).first (out-Syntax x).after) e)

lone-statement : (word : ℕ → List ℕ) (s : StatementLayer) (first after a b : ℕ) → ((f g : ℕ) (xs : Bor (List Syntax)) → s ≡ S.Block f g xs → ⊥)
    → list_of_plain first after [] (From a b (statement_form word s)) ≡ Lone first after (States [] (From a b (statement_form word s)))
lone-statement word (S.Block f g xs) first after a b h = absurd (h f g xs refl)
lone-statement word _ first after a b h = refl

-- and so is one that is no block
pub plain-body : (word : ℕ → List ℕ) (x : Syntax) (ls : List Syntax) (p : Syntax) (s : StatementLayer) →
    item_of word x ≡ States (labels_of word ls) (plain_of word p)
    → list_any (λ y. is_some (label_of word y)) ls ≡ false → plain_of word p ≡ From (out-Syntax p).first (out-Syntax p).after (statement_form word s)
    → ((f g : ℕ) (xs : Bor (List Syntax)) → s ≡ S.Block f g xs → ⊥) → body_of word x ≡ Lone (out-Syntax x).first (out-Syntax x).after (item_of word x)
plain-body word x ls p s e h f n =
    let whole : item_of word x ≡ States [] (From (out-Syntax p).first (out-Syntax p).after (statement_form word s)) =
    e ∙ (λ i. States (any_label word ls h i) (f i)) in
    body-is word x ∙ ap (list_of_item (out-Syntax x).first (out-Syntax x).after) whole
    ∙ lone-statement word s (out-Syntax x).first (out-Syntax x).after (out-Syntax p).first (out-Syntax p).after n
    ∙ sym (ap (Lone (out-Syntax x).first (out-Syntax x).after) whole)

lone-item : (word : ℕ → List ℕ) (y : ItemLayer) (first after : ℕ) → ((ls : Bor (List Syntax)) (p : Bor Syntax) → y ≡ I.States ls p → ⊥)
    → list_of_item first after (item_form word y) ≡ Lone first after (item_form word y)
lone-item word (I.States ls p) first after h = absurd (h ls p refl)
lone-item word _ first after h = refl

pub other-body : (word : ℕ → List ℕ) (x : Syntax) (y : ItemLayer) → item_of word x ≡ item_form word y
    → ((ls : Bor (List Syntax)) (p : Bor Syntax) → y ≡ I.States ls p → ⊥) → body_of word x ≡ Lone (out-Syntax x).first (out-Syntax x).after (item_of word x)
other-body word x y e n =
    body-is word x ∙ ap (list_of_item (out-Syntax x).first (out-Syntax x).after) e ∙ lone-item word y (out-Syntax x).first (out-Syntax x).after n
    ∙ sym (ap (Lone (out-Syntax x).first (out-Syntax x).after) e)

pub ruleset opened_nodes = (open_initialiser, open_declarator, open_declaration, open_label, open_item, open_plain, open_weight)

pub ruleset parts = (at-map, first-map, token-map, local-map, first-none, token-none, rest-whole, length-map, drop-map, weight-at, weights-rest)

pub ruleset plains = (no-statement, other-statement, weight-at)

pub ruleset statement_parts = (at-map, length-map, weight-at)

pub ruleset others = (open_other, open_form, open_weight)

pub ruleset bodies = (open_item, any_label)
