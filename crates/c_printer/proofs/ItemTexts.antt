-- The texts of items, opened.
use Rattle.std.proofs.Common.{◌≡◌, ℕ, ◌+◌, ◌-◌, ◌<◌, ◌≤◌, Bool, true, false, cond, nat_eq, List, [], ◌∷◌, Option, length, drop, get_or, map, codes, sym, ap, ◌∙◌, arith, length-drop, eq-eqb}
use Rattle.std.proofs.lemmas.Bool.{ne_eqb}
use Rattle.std.proofs.lemmas.List.{at_drop_more}
use Rattle.c_tree.specs.declared.tree.Slot.{Slot}
use Rattle.c_tree.specs.declared.tree.Function.{Function}
use Rattle.c_tree.specs.declared.tree.Expression.{Expression}
use Rattle.c_tree.specs.declared.tree.Test.{Test}
use Rattle.c_tree.specs.declared.tree.Selector.{Selector}
use Rattle.c_tree.specs.declared.tree.Section.{Section}
use Rattle.c_tree.specs.declared.tree.Item.{Item, Evaluate, Return, If, While, Do, For, Switch, Block, Local, Goto, Mark, Arm, Leap, Land, Arrival, Item-F, out-Item, roll-Item, roll-out-Item, map-Item, fold-roll-Item}
use Rattle.c_tree.specs.declared.tree.Item.TheVariants.{rolls-Evaluate, rolls-Return, rolls-If, rolls-While, rolls-Do, rolls-For, rolls-Switch, rolls-Block, rolls-Local, rolls-Goto, rolls-Mark, rolls-Arm, rolls-Leap, rolls-Land, rolls-Arrival}
use Rattle.c_tree.specs.declared.tree.Item.TheOpen as I
use Rattle.c_tree.specs.TextPieces.{Piece, Text, ◌⨾◌, nothing, space, newline, indentation, word, punctuator}
use Rattle.c_tree.specs.TextExpressions.{expression_text}
use Rattle.c_tree.specs.TextItems.{Printed, PrintedSection, item_step, section_step, printed, printed_section, test_text, selector_text, part_text, label_name, local_text, first_text, braced, else_text, is_lone_if, is_empty, sections_text}

abbrev end : Text
end = punctuator (codes ";") ⨾ newline

abbrev close : ℕ → Text
close depth = indentation depth ⨾ punctuator (codes "}")

module _ (f : Function) where
  abbrev texts : List Item → List Printed
  texts xs = map (printed f) xs

  pub evaluate_head : (item : Item) (e : Expression) (s : List Slot) → item ≡ Evaluate e → s ≡ f.slots → expression_text s e 1 ≡ (printed f item).head
  evaluate_head item e s is q =
      rw q (sym (ap (λ (p : Printed). p.head) (ap (printed f) (is ∙ sym (rolls-Evaluate e)) ∙
      fold-roll-Item Printed PrintedSection (item_step f) (section_step f) (I.Evaluate e))))

  -- what neither an expression nor a declaration prints in the first part of a `for`
  step_of : (item : Item) (x : Item-F Item Section) → item ≡ roll-Item x →
      printed f item ≡ item_step f (map-Item Item Section Printed PrintedSection (printed f) (printed_section f) x)
  step_of item x is = ap (printed f) is ∙ fold-roll-Item Printed PrintedSection (item_step f) (section_step f) x

  pub other_further : (item : Item) → ((k : ℕ) (given : Option (List Expression)) → item ≡ Local k given → ⊥) → nothing ≡ (printed f item).further
  other_further item apart = at_layer (out-Item item) (sym (roll-out-Item item)) where
    at_layer : (x : Item-F Item Section) → item ≡ roll-Item x → nothing ≡ (printed f item).further
    at_layer (I.Local k given) is = absurd (apart k given (is ∙ rolls-Local k given))
    at_layer x is = sym (ap (λ (p : Printed). p.further) (step_of item x is))

  pub other_head : (item : Item) → ((e : Expression) → item ≡ Evaluate e → ⊥) →
      ((k : ℕ) (given : Option (List Expression)) → item ≡ Local k given → ⊥) → nothing ≡ (printed f item).head
  other_head item no_value apart = at_layer (out-Item item) (sym (roll-out-Item item)) where
    at_layer : (x : Item-F Item Section) → item ≡ roll-Item x → nothing ≡ (printed f item).head
    at_layer (I.Evaluate e) is = absurd (no_value e (is ∙ rolls-Evaluate e))
    at_layer (I.Local k given) is = absurd (apart k given (is ∙ rolls-Local k given))
    at_layer x is = sym (ap (λ (p : Printed). p.head) (step_of item x is))

  -- the lines of an item of each variant, over what stands for its parts
  module _ (item : Item) (depth : ℕ) where
    lines_of_printed : (p : Printed) → printed f item ≡ p → p.lines depth ≡ (printed f item).lines depth
    lines_of_printed p e = sym (ap (λ (q : Printed). q.lines depth) e)

    pub evaluate_lines : (e : Expression) → item ≡ Evaluate e → (expression_text f.slots e 1 ⨾ end) ≡ (printed f item).lines depth
    evaluate_lines e is = lines_of_printed _ (ap (printed f) (is ∙ sym (rolls-Evaluate e)) ∙
        fold-roll-Item Printed PrintedSection (item_step f) (section_step f) (I.Evaluate e))

    pub return_lines : (v : Option Expression) → item ≡ Return v → (word (codes "return") ⨾ part_text f.slots v ⨾ end) ≡ (printed f item).lines depth
    return_lines v is = lines_of_printed _ (ap (printed f) (is ∙ sym (rolls-Return v)) ∙
        fold-roll-Item Printed PrintedSection (item_step f) (section_step f) (I.Return v))

    pub if_lines : (t : Test) (a : List Item) (b : List Item) (x : List Item) (y : List Item) → item ≡ If t a b → x ≡ a → y ≡ b →
        ((word (codes "if") ⨾ space ⨾ test_text f.slots t ⨾ space) ⨾ braced (texts x) depth ⨾ else_text (texts y) depth) ≡ (printed f item).lines depth
    if_lines t a b x y is q0 q1 = rw (q0, q1)
        (lines_of_printed _ (ap (printed f) (is ∙ sym (rolls-If t a b)) ∙ fold-roll-Item Printed PrintedSection (item_step f) (section_step f) (I.If t a b)))

    pub while_lines : (t : Test) (a : List Item) (x : List Item) → item ≡ While t a → x ≡ a →
        ((word (codes "while") ⨾ space ⨾ test_text f.slots t ⨾ space) ⨾ braced (texts x) depth ⨾ newline) ≡ (printed f item).lines depth
    while_lines t a x is q0 = rw (q0) (lines_of_printed _ (ap (printed f) (is ∙ sym (rolls-While t a)) ∙
        fold-roll-Item Printed PrintedSection (item_step f) (section_step f) (I.While t a)))

    pub do_lines : (a : List Item) (t : Test) (x : List Item) → item ≡ Do a t → x ≡ a →
        ((word (codes "do") ⨾ space) ⨾ braced (texts x) depth ⨾ space ⨾ word (codes "while") ⨾ space ⨾ test_text f.slots t ⨾ end) ≡ (printed f item).lines depth
    do_lines a t x is q0 = rw (q0) (lines_of_printed _ (ap (printed f) (is ∙ sym (rolls-Do a t)) ∙
        fold-roll-Item Printed PrintedSection (item_step f) (section_step f) (I.Do a t)))

    pub for_lines : (first : List Item) (t : Option Expression) (u : Option Expression) (a : List Item) (y : List Item) (x : List Item) →
        item ≡ For first t u a → y ≡ first → x ≡ a →
        ((word (codes "for") ⨾ space ⨾ punctuator (codes "(") ⨾ first_text (texts y) ⨾ punctuator (codes ";") ⨾ part_text f.slots t ⨾ punctuator
        (codes ";") ⨾ part_text f.slots u ⨾ punctuator (codes ")") ⨾ space) ⨾ braced (texts x) depth ⨾ newline) ≡ (printed f item).lines depth
    for_lines first t u a y x is q0 q1 = rw (q0, q1)
        (lines_of_printed _ (ap (printed f) (is ∙ sym (rolls-For first t u a)) ∙
        fold-roll-Item Printed PrintedSection (item_step f) (section_step f) (I.For first t u a)))

    pub switch_lines : (e : Selector) (ss : List Section) (x : List Section) → item ≡ Switch e ss → x ≡ ss →
        ((word (codes "switch") ⨾ space ⨾ selector_text f.slots e ⨾ space ⨾ punctuator (codes "{") ⨾ newline) ⨾ sections_text
        (map (printed_section f) x) depth ⨾ close depth ⨾ newline) ≡ (printed f item).lines depth
    switch_lines e ss x is q0 = rw (q0) (lines_of_printed _ (ap (printed f) (is ∙ sym (rolls-Switch e ss)) ∙
        fold-roll-Item Printed PrintedSection (item_step f) (section_step f) (I.Switch e ss)))

    pub block_lines : (a : List Item) (x : List Item) → item ≡ Block a → x ≡ a → (braced (texts x) depth ⨾ newline) ≡ (printed f item).lines depth
    block_lines a x is q0 = rw (q0) (lines_of_printed _ (ap (printed f) (is ∙ sym (rolls-Block a)) ∙
        fold-roll-Item Printed PrintedSection (item_step f) (section_step f) (I.Block a)))

    pub local_lines : (k : ℕ) (given : Option (List Expression)) → item ≡ Local k given → (local_text f k given ⨾ end) ≡ (printed f item).lines depth
    local_lines k given is = lines_of_printed _ (ap (printed f) (is ∙ sym (rolls-Local k given)) ∙
        fold-roll-Item Printed PrintedSection (item_step f) (section_step f) (I.Local k given))

    pub goto_lines : (l : ℕ) → item ≡ Goto l → (word (codes "goto") ⨾ space ⨾ word (label_name f l) ⨾ end) ≡ (printed f item).lines depth
    goto_lines l is = lines_of_printed _ (ap (printed f) (is ∙ sym (rolls-Goto l)) ∙
        fold-roll-Item Printed PrintedSection (item_step f) (section_step f) (I.Goto l))

    pub mark_lines : (l : ℕ) → item ≡ Mark l → (word (label_name f l) ⨾ punctuator (codes ":") ⨾ space ⨾ end) ≡ (printed f item).lines depth
    mark_lines l is = lines_of_printed _ (ap (printed f) (is ∙ sym (rolls-Mark l)) ∙
        fold-roll-Item Printed PrintedSection (item_step f) (section_step f) (I.Mark l))

    pub arm_lines : (l : ℕ) (c : Option Expression) → item ≡ Arm l c → nothing ≡ (printed f item).lines depth
    arm_lines l c is = lines_of_printed _ (ap (printed f) (is ∙ sym (rolls-Arm l c)) ∙
        fold-roll-Item Printed PrintedSection (item_step f) (section_step f) (I.Arm l c))

    pub leap_lines : (l : ℕ) → item ≡ Leap l → nothing ≡ (printed f item).lines depth
    leap_lines l is = lines_of_printed _ (ap (printed f) (is ∙ sym (rolls-Leap l)) ∙
        fold-roll-Item Printed PrintedSection (item_step f) (section_step f) (I.Leap l))

    pub land_lines : (l : ℕ) → item ≡ Land l → nothing ≡ (printed f item).lines depth
    land_lines l is = lines_of_printed _ (ap (printed f) (is ∙ sym (rolls-Land l)) ∙
        fold-roll-Item Printed PrintedSection (item_step f) (section_step f) (I.Land l))

    pub arrival_lines : (c : Option Expression) → item ≡ Arrival c → nothing ≡ (printed f item).lines depth
    arrival_lines c is = lines_of_printed _ (ap (printed f) (is ∙ sym (rolls-Arrival c)) ∙
        fold-roll-Item Printed PrintedSection (item_step f) (section_step f) (I.Arrival c))

  -- an else-list
  pub else_lone : (items : List Item) (item : Item) (lone : Bool) (depth : ℕ) → item ≡ get_or items 0 item → lone ≡ is_lone_if (texts items) → lone ≡ true
      → (space ⨾ (word (codes "else") ⨾ space) ⨾ (printed f item).lines depth) ≡ else_text (texts items) depth
  else_lone [] item lone depth e u v = cc
  else_lone (x ∷ xs) item lone depth e u v =
      ap (λ y. space ⨾ (word (codes "else") ⨾ space) ⨾ (printed f y).lines depth) e
      ∙ ap (λ b. space ⨾ word (codes "else") ⨾ space ⨾ cond b ((printed f x).lines depth) (braced (texts (x ∷ xs)) depth ⨾ newline)) (sym v ∙ u)

  pub else_apart : (items : List Item) (none lone : Bool) (depth : ℕ) → none ≡ nat_eq (length items) 0 → none ≡ false →
      lone ≡ is_lone_if (texts items) → lone ≡ false
      → (space ⨾ (word (codes "else") ⨾ space) ⨾ braced (texts items) depth ⨾ newline) ≡ else_text (texts items) depth
  else_apart [] none lone depth h i u v = cc
  else_apart (x ∷ xs) none lone depth h i u v =
      ap (λ b. space ⨾ word (codes "else") ⨾ space ⨾ cond b ((printed f x).lines depth) (braced (texts (x ∷ xs)) depth ⨾ newline)) (sym v ∙ u)

-- whether nothing is left of a list
last_of : {X Y : Type 0} (F : X → Y) (ys : List X) (n m : ℕ) → n ≤ m → length ys ≡ m - n → is_empty (map F ys) ≡ nat_eq n m
last_of F [] n m le e = let same : n ≡ m = omega (arith, e) in sym (eq-eqb n m same)
last_of F (y ∷ ys) n m le e = let apart : n < m = omega (arith, e) in sym (ne_eqb n m (λ (same : n ≡ m). omega arith))

pub sections_one : (f : Function) (xs : List Section) (i : ℕ) (x : Section) (depth : ℕ) (rest : List Piece) → i < length xs → x ≡ get_or xs i x
    → sections_text (map (printed_section f) (drop i xs)) depth rest ≡ printed_section f x (nat_eq (i + 1) (length xs)) depth
    (sections_text (map (printed_section f) (drop (i + 1) xs)) depth rest)
sections_one f xs i x depth rest h is =
    at_drop_more (λ l. sections_text (map (printed_section f) l) depth rest) xs i x h
    ∙ ap (λ b. printed_section f (get_or xs i x) b depth (sections_text (map (printed_section f) (drop (i + 1) xs)) depth rest))
    (last_of (printed_section f) (drop (i + 1) xs) (i + 1) (length xs) (omega (arith, h)) (length-drop (i + 1) xs))
    ∙ ap (λ (y : Section). printed_section f y (nat_eq (i + 1) (length xs)) depth
    (sections_text (map (printed_section f) (drop (i + 1) xs)) depth rest)) (sym is)
