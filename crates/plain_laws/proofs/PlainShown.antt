-- The plain form of a program whose functions have no jumps left has no jumps and no guards.
use Rattle.std.proofs.Common.{◌≡◌, ℕ, Bool, true, false, not, ◌&&◌, cond, Option, Some, None, pos, if◌then◌else◌, List, [], ◌∷◌, ◌++◌, map, length, refl, sym, ap, subst, ◌∙◌}
use Rattle.std.proofs.lemmas.Bool.{and_from}
use Rattle.c_tree.specs.declared.tree.Expression.{Expression}
use Rattle.c_tree.specs.declared.tree.Item.{Item, Item-F, roll-Item, fold-roll-Item, ind-Item, map-Item}
use Rattle.c_tree.specs.declared.tree.Item.TheOpen.{Section-F, Evaluate, Return, If, While, Do, For, Switch, Block, Local, Break, Continue, Goto, Mark, Arm, Leap, Land, Arrival, Note}
use Rattle.c_tree.specs.declared.tree.Item.TheVariants.{rolls-Evaluate, rolls-If, rolls-While, rolls-Do, rolls-Switch, rolls-Local}
use Rattle.c_tree.specs.declared.tree.Item as V
use Rattle.c_tree.specs.declared.tree.Section.{Section, out-Section, roll-Section, roll-out-Section, fold-roll-Section}
use Rattle.c_tree.specs.declared.tree.Test as T
use Rattle.c_tree.specs.declared.tree.Selector as S
use Rattle.c_tree.specs.declared.tree.Function.{Function}
use Rattle.c_tree.specs.declared.tree.Top.{Top}
use Rattle.c_tree.specs.declared.tree.Top.TheVariants as Y
use Rattle.c_tree.specs.declared.tree.Program.{Program}
use Rattle.c_types.specs.declared.kinds.IntKind.TheVariants.{Int}
use Rattle.c_tree.specs.Jumps.{all_true, is_source_selector, holds_throughout, section_holds_throughout, throughout_step, section_throughout_step, is_jump_free_layer, is_plain_layer, is_jump_free, is_plain, is_plain_function, is_jump_free_function, is_plain_program, is_jump_free_program, top_holds, body_holds}
use Rattle.c_tree.specs.TextItems.{is_empty}
use Rattle.c_tree.specs.SectionLabels.{with_entries, pass_to, labels_passed}
use Rattle.plain_laws.specs.Plain.{item_step, section_step, plain_item, plain_section, plain_items, plain_test, plain_selector, last_is_break, without_last, ended, tidied_step, tidied_item, tidied_section, tidied, slot_among, labels_left, variable_declared, guard_declared, numbers_from, number, declared, guarded_body, with_guard_variables, plain_body, plain_top, plain_with}

abbrev free : Item → Bool
free x = holds_throughout is_jump_free_layer x

abbrev section_free : Section → Bool
section_free c = section_holds_throughout is_jump_free_layer c

abbrev shown : Item → Bool
shown x = holds_throughout is_plain_layer x

abbrev section_shown : Section → Bool
section_shown c = section_holds_throughout is_plain_layer c

-- tests

pub first_true : (a b : Bool) → (a && b) ≡ true → a ≡ true
first_true true b p = refl
first_true false b p = p

pub second_true : (a b : Bool) → (a && b) ≡ true → b ≡ true
second_true true b p = p
second_true false b p = cc

all_true_append : {A : Type 0} (f : A → Bool) (xs ys : List A) → all_true (map f xs) ≡ true → all_true (map f ys) ≡ true → all_true (map f (xs ++ ys)) ≡ true
all_true_append f [] ys p q = q
all_true_append f (x ∷ xs) ys p q =
    and_from (f x) (all_true (map f (xs ++ ys))) (first_true (f x) (all_true (map f xs)) p)
    (all_true_append f xs ys (second_true (f x) (all_true (map f xs)) p) q)

-- what a plain item has

abbrev shown_layer : Item-F Item Section → Bool
shown_layer z = throughout_step is_plain_layer (map-Item Item Section Bool Bool shown section_shown z)

shown_roll : (z : Item-F Item Section) → shown (roll-Item z) ≡ shown_layer z
shown_roll z = fold-roll-Item Bool Bool (throughout_step is_plain_layer) section_throughout_step z

section_roll : (z : Section-F Item Section) → section_shown (roll-Section z) ≡ all_true (map shown z.list)
section_roll z = fold-roll-Section Bool Bool (throughout_step is_plain_layer) section_throughout_step z

shown-Evaluate : (e : Expression) → shown (V.Evaluate e) ≡ true
shown-Evaluate e = ap shown (sym (rolls-Evaluate e)) ∙ shown_roll (Evaluate e)

shown-Local : (k : ℕ) (es : Option (List Expression)) → shown (V.Local k es) ≡ true
shown-Local k es = ap shown (sym (rolls-Local k es)) ∙ shown_roll (Local k es)

shown-If : (e : Expression) (a b : List Item) → shown (V.If (T.Source e) a b) ≡ (all_true (map shown a) && all_true (map shown b))
shown-If e a b = ap shown (sym (rolls-If (T.Source e) a b)) ∙ shown_roll (If (T.Source e) a b)

shown-While : (e : Expression) (a : List Item) → shown (V.While (T.Source e) a) ≡ all_true (map shown a)
shown-While e a = ap shown (sym (rolls-While (T.Source e) a)) ∙ shown_roll (While (T.Source e) a)

shown-Do : (e : Expression) (a : List Item) → shown (V.Do a (T.Source e)) ≡ all_true (map shown a)
shown-Do e a = ap shown (sym (rolls-Do a (T.Source e))) ∙ shown_roll (Do a (T.Source e))

shown-Switch : (s : S.Selector) (cs : List Section) → shown (V.Switch s cs) ≡ (is_source_selector s && all_true (map section_shown cs))
shown-Switch s cs = ap shown (sym (rolls-Switch s cs)) ∙ shown_roll (Switch s cs)

-- declarations

variables_shown : (ks : List ℕ) → is_plain (map variable_declared ks) ≡ true
variables_shown [] = refl
variables_shown (k ∷ ks) = and_from (shown (variable_declared k)) (is_plain (map variable_declared ks)) (shown-Local k None) (variables_shown ks)

guards_shown : (ks : List ℕ) → is_plain (map guard_declared ks) ≡ true
guards_shown [] = refl
guards_shown (k ∷ ks) = and_from (shown (guard_declared k)) (is_plain (map guard_declared ks)) (shown-Local k (Some (number Int (pos 0) ∷ [])))
    (guards_shown ks)

declared_shown : (f : Function) (ls : List ℕ) → is_plain (declared f ls) ≡ true
declared_shown f ls = all_true_append shown (map variable_declared (numbers_from f.params _))
    (map guard_declared (numbers_from (length f.slots) (length ls))) (variables_shown (numbers_from f.params _))
    (guards_shown (numbers_from (length f.slots) (length ls)))

-- ---- guards as variables

module _ (slot : ℕ → ℕ) where
  abbrev P : Item → Type 0
  P x = free x ≡ true → shown (plain_item slot x) ≡ true

  abbrev Q : Section → Type 0
  Q c = section_free c ≡ true → section_shown (plain_section slot c) ≡ true

  abbrev I : Type 0
  I = (x : Item) × P x

  abbrev C : Type 0
  C = (c : Section) × Q c

  abbrev item_of : I → Item
  item_of e = e.0

  abbrev section_of : C → Section
  section_of e = e.0

  list_shown : (a : List I) → all_true (map free (map item_of a)) ≡ true → all_true (map shown (map (plain_item slot) (map item_of a))) ≡ true
  list_shown [] p = p
  list_shown (e ∷ a) p =
      and_from (shown (plain_item slot e.0)) (all_true (map shown (map (plain_item slot) (map item_of a))))
      (e.1 (first_true (free e.0) (all_true (map free (map item_of a))) p))
      (list_shown a (second_true (free e.0) (all_true (map free (map item_of a))) p))

  sections_shown : (a : List C) → all_true (map section_free (map section_of a)) ≡ true →
      all_true (map section_shown (map (plain_section slot) (map section_of a))) ≡ true
  sections_shown [] p = p
  sections_shown (e ∷ a) p =
      and_from (section_shown (plain_section slot e.0)) (all_true (map section_shown (map (plain_section slot) (map section_of a))))
      (e.1 (first_true (section_free e.0) (all_true (map section_free (map section_of a))) p))
      (sections_shown a (second_true (section_free e.0) (all_true (map section_free (map section_of a))) p))

  layer : (y : Item-F I C)
      → throughout_step is_jump_free_layer (map-Item Item Section Bool Bool free section_free (map-Item I C Item Section item_of section_of y)) ≡ true
      → shown (item_step slot (map-Item Item Section Item Section (plain_item slot) (plain_section slot)
      (map-Item I C Item Section item_of section_of y))) ≡ true
  layer (If t a b) p =
      shown-If (plain_test slot t) _ _
      ∙ and_from _ _ (list_shown a (first_true _ _ p)) (list_shown b (second_true _ _ p))
  layer (While t a) p = shown-While (plain_test slot t) _ ∙ list_shown a p
  layer (Do a t) p = shown-Do (plain_test slot t) _ ∙ list_shown a p
  layer (For f t u a) p =
      shown_roll (For (map (plain_item slot) (map item_of f)) t u (map (plain_item slot) (map item_of a)))
      ∙ and_from _ _ (list_shown f (first_true _ _ p)) (list_shown a (second_true _ _ p))
  layer (Switch s cs) p = shown-Switch (S.Source (plain_selector slot s)) _ ∙ sections_shown cs p
  layer (Block a) p = shown_roll (Block (map (plain_item slot) (map item_of a))) ∙ list_shown a p
  layer (Goto l) p = cc
  layer (Mark l) p = cc
  layer (Leap l) p = cc
  layer (Arrival c) p = cc
  layer (Arm l e) p = shown-Evaluate _
  layer (Land l) p = shown-Evaluate _
  layer (Evaluate e) p = shown_roll (Evaluate e)
  layer (Return e) p = shown_roll (Return e)
  layer (Local k es) p = shown_roll (Local k es)
  layer Break p = shown_roll Break
  layer Continue p = shown_roll Continue
  layer (Note bs) p = shown_roll (Note bs)

  item_shown : (x : Item) → P x
  item_shown = ind-Item P Q
      (λ x y e. subst (λ (z : Item-F Item Section). P (roll-Item z)) e (λ p.
      ap shown (fold-roll-Item Item Section (item_step slot) section_step _) ∙
      layer y (sym (fold-roll-Item Bool Bool (throughout_step is_jump_free_layer) section_throughout_step _) ∙ p)))
      (λ x y e. subst (λ (z : Section-F Item Section). Q (roll-Section z)) e (λ p.
      ap section_shown (fold-roll-Section Item Section (item_step slot) section_step _)
      ∙ section_roll _
      ∙ list_shown y.list (sym (fold-roll-Section Bool Bool (throughout_step is_jump_free_layer) section_throughout_step _) ∙ p)))

  items_shown : (xs : List Item) → is_jump_free xs ≡ true → is_plain (plain_items slot xs) ≡ true
  items_shown [] p = refl
  items_shown (x ∷ xs) p =
      and_from (shown (plain_item slot x)) (is_plain (plain_items slot xs)) (item_shown x (first_true (free x) (is_jump_free xs) p))
      (items_shown xs (second_true (free x) (is_jump_free xs) p))

-- ---- the sections of switches

without_shown : (xs : List Item) → all_true (map shown xs) ≡ true → all_true (map shown (without_last xs)) ≡ true
without_shown [] p = refl
without_shown (x ∷ []) p = refl
without_shown (x ∷ y ∷ ys) p =
    and_from (shown x) (all_true (map shown (without_last (y ∷ ys)))) (first_true (shown x) (all_true (map shown (y ∷ ys))) p)
    (without_shown (y ∷ ys) (second_true (shown x) (all_true (map shown (y ∷ ys))) p))

ended_by : (b : Bool) (c : Section-F Item Section) → all_true (map shown c.list) ≡ true
    → section_shown (cond b (roll-Section (record { cases = c.cases; default = c.default; list = without_last c.list; ends = true })) (roll-Section c)) ≡ true
ended_by true c p = section_roll _ ∙ without_shown c.list p
ended_by false c p = section_roll c ∙ p

out_shown : (c : Section) → section_shown c ≡ true → (let o = out-Section c in all_true (map shown o.list) ≡ true)
out_shown c p = sym (section_roll (out-Section c)) ∙ ap section_shown (roll-out-Section c) ∙ p

give_by : (b : Bool) (c d : Section) (ds : List Section) → section_shown c ≡ true → all_true (map section_shown (d ∷ ds)) ≡ true →
    all_true (map section_shown (cond b (with_entries (out-Section c) d ∷ ds) (c ∷ d ∷ ds))) ≡ true
give_by true c d ds p q =
    and_from (section_shown (with_entries (out-Section c) d)) (all_true (map section_shown ds))
    (section_roll _ ∙ out_shown d (first_true (section_shown d) (all_true (map section_shown ds)) q))
    (second_true (section_shown d) (all_true (map section_shown ds)) q)
give_by false c d ds p q = and_from (section_shown c) (all_true (map section_shown (d ∷ ds))) p q

give_shown : (c : Section) (ds : List Section) → section_shown c ≡ true → all_true (map section_shown ds) ≡ true →
    all_true (map section_shown (pass_to c ds)) ≡ true
give_shown c [] p q = and_from (section_shown c) true p refl
give_shown c (d ∷ ds) p q = let o = out-Section c in give_by (is_empty o.list && not o.ends) c d ds p q

abbrev TidyP : Item → Type 0
TidyP x = shown x ≡ true → shown (tidied_item x) ≡ true

abbrev TidyQ : Section → Type 0
TidyQ c = section_shown c ≡ true → section_shown (tidied_section c) ≡ true

abbrev TI : Type 0
TI = (x : Item) × TidyP x

abbrev TC : Type 0
TC = (c : Section) × TidyQ c

abbrev ti : TI → Item
ti e = e.0

abbrev tc : TC → Section
tc e = e.0

tidy_list : (a : List TI) → all_true (map shown (map ti a)) ≡ true → all_true (map shown (map tidied_item (map ti a))) ≡ true
tidy_list [] p = p
tidy_list (e ∷ a) p =
    and_from (shown (tidied_item e.0)) (all_true (map shown (map tidied_item (map ti a))))
    (e.1 (first_true (shown e.0) (all_true (map shown (map ti a))) p)) (tidy_list a (second_true (shown e.0) (all_true (map shown (map ti a))) p))

tidy_sections : (a : List TC) → all_true (map section_shown (map tc a)) ≡ true →
    all_true (map section_shown (labels_passed (map tidied_section (map tc a)))) ≡ true
tidy_sections [] p = p
tidy_sections (e ∷ a) p =
    give_shown (tidied_section e.0) (labels_passed (map tidied_section (map tc a)))
    (e.1 (first_true (section_shown e.0) (all_true (map section_shown (map tc a))) p))
    (tidy_sections a (second_true (section_shown e.0) (all_true (map section_shown (map tc a))) p))

tidy_layer : (y : Item-F TI TC) → shown_layer (map-Item TI TC Item Section ti tc y) ≡ true →
    shown (tidied_step (map-Item Item Section Item Section tidied_item tidied_section (map-Item TI TC Item Section ti tc y))) ≡ true
tidy_layer (If t a b) p =
    shown_roll (If t (map tidied_item (map ti a)) (map tidied_item (map ti b)))
    ∙ and_from _ _ (first_true _ _ p) (and_from _ _ (tidy_list a (first_true _ _ (second_true _ _ p))) (tidy_list b (second_true _ _ (second_true _ _ p))))
tidy_layer (While t a) p = shown_roll (While t (map tidied_item (map ti a))) ∙ and_from _ _ (first_true _ _ p) (tidy_list a (second_true _ _ p))
tidy_layer (Do a t) p = shown_roll (Do (map tidied_item (map ti a)) t) ∙ and_from _ _ (first_true _ _ p) (tidy_list a (second_true _ _ p))
tidy_layer (For f t u a) p = shown_roll (For (map tidied_item (map ti f)) t u (map tidied_item (map ti a))) ∙
    and_from _ _ (tidy_list f (first_true _ _ p)) (tidy_list a (second_true _ _ p))
tidy_layer (Switch s cs) p = shown-Switch s (labels_passed (map tidied_section (map tc cs))) ∙
    and_from _ _ (first_true _ _ p) (tidy_sections cs (second_true _ _ p))
tidy_layer (Block a) p = shown_roll (Block (map tidied_item (map ti a))) ∙ tidy_list a p
tidy_layer (Goto l) p = cc
tidy_layer (Mark l) p = cc
tidy_layer (Arm l e) p = cc
tidy_layer (Leap l) p = cc
tidy_layer (Land l) p = cc
tidy_layer (Arrival c) p = cc
tidy_layer (Evaluate e) p = shown_roll (Evaluate e)
tidy_layer (Return e) p = shown_roll (Return e)
tidy_layer (Local k es) p = shown_roll (Local k es)
tidy_layer Break p = shown_roll Break
tidy_layer Continue p = shown_roll Continue
tidy_layer (Note bs) p = shown_roll (Note bs)

tidy_item : (x : Item) → TidyP x
tidy_item = ind-Item TidyP TidyQ
    (λ x y e. subst (λ (z : Item-F Item Section). TidyP (roll-Item z)) e
    (λ p. ap shown (fold-roll-Item Item Section tidied_step ended _) ∙ tidy_layer y (sym (shown_roll _) ∙ p)))
    (λ x y e. subst (λ (z : Section-F Item Section). TidyQ (roll-Section z)) e (λ p.
    ap section_shown (fold-roll-Section Item Section tidied_step ended _)
    ∙ (let l = map tidied_item (map ti y.list) in ended_by (not y.ends && last_is_break l)
    (record { cases = y.cases; default = y.default; list = l; ends = y.ends }) (tidy_list y.list (sym (section_roll _) ∙ p)))))

tidied_shown : (xs : List Item) → is_plain xs ≡ true → is_plain (tidied xs) ≡ true
tidied_shown [] p = refl
tidied_shown (x ∷ xs) p = and_from (shown (tidied_item x)) (is_plain (tidied xs)) (tidy_item x (first_true (shown x) (is_plain xs) p))
    (tidied_shown xs (second_true (shown x) (is_plain xs) p))

-- ---- functions and programs

body_shown : (f : Function) (ls : List ℕ) (xs : List Item) → is_jump_free xs ≡ true → is_plain (guarded_body f ls xs) ≡ true
body_shown f ls xs p = all_true_append shown (declared f ls) (tidied (plain_items (slot_among (length f.slots) ls) xs)) (declared_shown f ls)
    (tidied_shown (plain_items (slot_among (length f.slots) ls) xs) (items_shown (slot_among (length f.slots) ls) xs p))

some_shown : (ns : List (List ℕ)) (f : Function) (xs : List Item) (b : Bool) → f.flat ≡ b
    → (if b then is_jump_free else is_plain) xs ≡ true → is_plain_function
    (if b then with_guard_variables ns f xs else record f { body = Some (tidied xs) }) ≡ true
some_shown ns f xs true e p = body_shown f (labels_left xs 0 ns) xs p
some_shown ns f xs false e p = tidied_shown xs p

function_shown : (ns : List (List ℕ)) (f : Function) (o : Option (List Item)) → f.body ≡ o →
    body_holds (if f.flat then is_jump_free else is_plain) o ≡ true → is_plain_function (plain_body ns f o) ≡ true
function_shown ns f None s p = ap (body_holds is_plain) s
function_shown ns f (Some xs) s p = some_shown ns f xs f.flat refl p

top_shown : (names : Function → List (List ℕ)) (t : Top) → top_holds is_jump_free_function t ≡ true → top_holds is_plain_function (plain_top names t) ≡ true
top_shown names (Y.Function f) p = function_shown (names f) f f.body refl p
top_shown names _ p = refl

tops_shown : (names : Function → List (List ℕ)) (ts : List Top) → all_true (map (top_holds is_jump_free_function) ts) ≡ true →
    all_true (map (top_holds is_plain_function) (map (plain_top names) ts)) ≡ true
tops_shown names [] p = refl
tops_shown names (t ∷ ts) p =
    and_from (top_holds is_plain_function (plain_top names t)) (all_true (map (top_holds is_plain_function) (map (plain_top names) ts)))
    (top_shown names t (first_true (top_holds is_jump_free_function t) (all_true (map (top_holds is_jump_free_function) ts)) p))
    (tops_shown names ts (second_true (top_holds is_jump_free_function t) (all_true (map (top_holds is_jump_free_function) ts)) p))

-- the plain form of a program whose functions have no jumps left is plain
pub program_shown : (names : Function → List (List ℕ)) (q : Program) → is_jump_free_program q ≡ true → is_plain_program (plain_with names q) ≡ true
program_shown names q p = tops_shown names q.tops p
