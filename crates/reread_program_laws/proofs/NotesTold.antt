-- The comments of a printed body stand where its Notes are printed.
use Rattle.std.proofs.Common.{◌≡◌, ◌≤◌, ◌<◌, ◌+◌, ◌*◌, ℕ, Bool, true, false, cond, List, [], ◌∷◌, ◌++◌, length, Option, Some, None, refl, ap, sym, subst, ◌∙◌, arith, append_assoc}
use Rattle.std.specs.Prelude.{option_map}
use Rattle.std.proofs.lemmas.Bool.{lt-ltb}
use Rattle.std.proofs.lemmas.List.{append-nil}
use Rattle.c_tree.specs.declared.tree.Slot.{Slot}
use Rattle.c_tree.specs.declared.tree.Function.{Function}
use Rattle.c_tree.specs.TestTrees.{TestTree}
use Rattle.c_tree.specs.Trees.{Tree, Forest, Nil, Then, Sections, NoSection, Section}
use Rattle.c_tree.specs.Trees as t
use Rattle.c_tree.specs.Everywhere.{Everywhere, EverywhereOf, EverywhereIn}
use Rattle.c_grammar.specs.declared.class.Class.{Class}
use Rattle.c_grammar.specs.declared.class.Class.TheVariants as c
use Rattle.c_grammar.specs.Expressions.{expression_tokens}
use Rattle.c_grammar.specs.ExpressionSyntax.{expression_end}
use Rattle.c_grammar.specs.Statements.{NoItems, Statement, items_tokens}
use Rattle.c_grammar.specs.StatementSyntax.{items_end, statement_end, for_start_end, optional_end}
use Rattle.c_grammar.specs.Items as s
use Rattle.c_grammar.specs.Parts.{list_of_item}
use Rattle.c_statements.specs.declared.anchors.Anchor.{Anchor}
use Rattle.c_statements.specs.declared.anchors.Anchor.TheVariants.{Before, AtEnd, AtSection}
use Rattle.c_comments.specs.Notes.{item_place, plain_place, body_place, list_place, or_behind}
use Rattle.c_resolved_defs.specs.Form.{HasSourceForm, AreSections, IsKept}
use Rattle.print_laws.specs.Reread.{Comments}
use Rattle.print_laws.specs.Notes.{else_tokens, item_notes, items_notes, sections_notes}
use Rattle.print_laws.specs.ExpressionDerivations.{derivation_of}
use Rattle.print_laws.specs.StatementDerivations.{test_of, selector_of, start_of, starts_with_local, is_last, is_lone_if, section_end, placed, block, statement_of, items_of, sections_of}
use Rattle.reread_parts_laws.specs.WrittenStatements.{written_items, written_labels, behind_labels}
use Rattle.reread_parts_laws.specs.PlacedNotes.{item_end, list_end, trailing, section_labels_end, optional_end_of, has_last, section_ends_at, WithNull, WithLast, NotesOfEnd, NotesWithin, NotesOfList, NotesOfElse, NotesOfSections, NotesOfBody}
use Rattle.reread_program_laws.proofs.Lengths.{expression_reaches, optional_reaches, start_reaches, items_reach, statement_reaches, statement_later, local_later}
use Rattle.reread_program_laws.proofs.Chosen.{Placed, number, placed_by, all_at, one_on, Ranged, Agrees, ranged_wider, ranged_both, ranged_all, outside_before, outside_behind, outside_both, agrees_part, agrees_last, agrees_at, agrees_none, Told, told_wider, told_as, told_none, told_both}
use Rattle.reread_program_laws.proofs.PlacesOn.{source_of, written_front, end_front, list_more, IsTold, place_most, place_not_most, in_source, in_braces, before_body, in_lone, On, Members, OnTree, OnList, listed_front, labels_later}
use Rattle.reread_program_laws.proofs.SectionPlaces.{is_closed, open_trail, end_reaches, section_places}

-- ---- an item begins at its first token

item_later : (slots : List Slot) (at : ℕ) (x : Tree) → IsTold x → at < item_end slots at x
item_later slots at (t.Local k given) h = local_later at _
item_later slots at (t.Note bytes) h = absurd h
item_later slots at x h = statement_later at (statement_of slots x)

begins_at : (slots : List Slot) (at : ℕ) (x : Tree) → IsTold x → item_place (source_of slots at x) at ≡ Before at
begins_at slots at (t.Local k given) h = refl
begins_at slots at (t.Note bytes) h = absurd h
begins_at slots at (t.If d a Nil) h = place_most at at _ _ (omega arith)
begins_at slots at (t.If d a (Then b bs)) h = place_most at at _ _ (omega arith)
begins_at slots at (t.Mark l) h = ap (λ z. or_behind (elim z as (λ _. Option Anchor) [ true ↦ Some (Before at) | false ↦ None ])
    (plain_place (s.From (at + 1 + 1) (at + 1 + 1 + 1) s.Null) at)) (lt-ltb at (at + 1 + 1) (omega arith))
begins_at slots at x h = place_most at at _ _ (omega arith)

four : {X : Type 0} (a b d e : List X) → a ++ (b ++ (d ++ e)) ≡ (a ++ (b ++ d)) ++ e
four a b d e = ap (λ l. a ++ l) (sym (append_assoc b d e)) ∙ sym (append_assoc a (b ++ d) e)

module _ (f : Function) (P : ℕ → Anchor) (count last : ℕ) where
  abbrev slots : List Slot
  slots = f.slots

  -- comments by the tokens behind them, at their places
  abbrev pub found : Comments → List Placed
  found n = placed_by P count n

  -- these tokens stand from this number on
  abbrev pub From : ℕ → List Class → Type 0
  From at r = at + length r ≡ count

  abbrev pub T : ℕ → ℕ → (Comments → Comments) → ((Anchor → List (List ℕ)) → Type 0) → Type 0
  T lo hi tell Fact = Told last found lo hi tell Fact

  abbrev pub Formed : Forest → Type 0
  Formed a = Everywhere (HasSourceForm f) a

  -- ---- lists

  -- of a list behind Notes of it; the Notes at its end stand in front of what stands behind it
  record ListTold (ns : List (List ℕ)) (at : ℕ) (xs : Forest) (r : List Class) : Type 0 where
    here : List Placed
    inner : List Placed
    tells : (n : Comments) → found (items_notes slots xs r n) ≡ here ++ found n
    placed_so : all_at (P at) ns ++ here ≡ inner ++ all_at (P (list_end slots at xs)) (trailing ns xs)
    ranged : Ranged last (2 * at) (2 * list_end slots at xs) inner
    holds : (notes : Anchor → List (List ℕ)) → Agrees last notes (2 * at) (2 * list_end slots at xs) inner → NotesOfList slots notes ns at xs

  list_from : (at : ℕ) (xs : Forest) (r : List Class) → From (list_end slots at xs) r → From at (items_tokens (items_of slots xs NoItems) r)
  list_from at xs r h = let u = items_reach at (items_of slots xs NoItems) r in let e = end_front slots xs at NoItems in omega (arith, h, u, e)

  item_step : (ns : List (List ℕ)) (at : ℕ) (x : Tree) (xs : Forest) (r : List Class) → IsTold x → OnTree P slots at x
      → T (2 * at + 1) (2 * item_end slots at x) (λ n. item_notes slots x (items_tokens (items_of slots xs NoItems) r) n)
      (λ notes. NotesWithin slots notes at x) → ListTold [] (item_end slots at x) xs r
      → ((notes : Anchor → List (List ℕ)) → (notes (Before at) ≡ ns) × NotesWithin slots notes at x × NotesOfList slots notes [] (item_end slots at x)
      xs → NotesOfList slots notes ns at (Then x xs))
      → trailing ns (Then x xs) ≡ trailing [] xs → ListTold ns at (Then x xs) r
  item_step ns at x xs r told on i l k tr =
      let e = item_end slots at x in
      let z = list_end slots e xs in
      let later = item_later slots at x told in
      let more = list_more slots e xs in
      let before : P at ≡ Before at = on at (omega arith) later ∙ begins_at slots at x told in
      let front = all_at (Before at) ns in
      let rf = ranged_all last (2 * at) (2 * at + 1) (Before at) (omega arith, omega arith) ns in
      let ri = i.ranged in
      let rl = l.ranged in
      record {
        here = i.here ++ l.here;
        inner = front ++ (i.here ++ l.inner);
        tells = λ n. i.tells (items_notes slots xs r n) ∙ ap (λ q. i.here ++ q) (l.tells n) ∙ sym (append_assoc i.here l.here (found n));
        placed_so =
            ap (λ a. all_at a ns ++ (i.here ++ l.here)) before ∙ ap (λ q. front ++ (i.here ++ q)) (l.placed_so) ∙
            four front i.here l.inner (all_at (P z) (trailing [] xs)) ∙ ap (λ q. (front ++ (i.here ++ l.inner)) ++ all_at (P z) q) (sym tr);
        ranged =
            ranged_both last (2 * at) (2 * z) front (i.here ++ l.inner)
            (ranged_wider last (2 * at) (2 * at + 1) (2 * at) (2 * z) (omega arith) (omega (arith, later, more)) front rf)
            (ranged_both last (2 * at) (2 * z) i.here l.inner
            (ranged_wider last (2 * at + 1) (2 * e) (2 * at) (2 * z) (omega arith) (omega (arith, more)) i.here ri)
            (ranged_wider last (2 * e) (2 * z) (2 * at) (2 * z) (omega (arith, later)) (omega arith) l.inner rl));
        holds = λ notes h.
            k notes (
              agrees_at last notes (2 * at) (2 * z) [] (Before at) ns (i.here ++ l.inner) h (omega arith, omega (arith, later, more)) tt
                  (outside_both last (2 * at) (2 * at + 1) i.here l.inner
                  (outside_before last (2 * at + 1) (2 * e) (2 * at) (2 * at + 1) (omega arith) i.here ri)
                  (outside_before last (2 * e) (2 * z) (2 * at) (2 * at + 1) (omega (arith, later)) l.inner rl)),
              i.holds notes
                  (agrees_part last notes (2 * at) (2 * z) (2 * at + 1) (2 * e) front i.here l.inner h (omega arith) (omega (arith, more))
                  (outside_behind last (2 * at) (2 * at + 1) (2 * at + 1) (2 * e) (omega arith) front rf)
                  (outside_before last (2 * e) (2 * z) (2 * at + 1) (2 * e) (omega arith) l.inner rl)),
              l.holds notes
                  (agrees_last last notes (2 * at) (2 * z) (2 * e) (2 * z) (front ++ i.here) l.inner
                  (subst (Agrees last notes (2 * at) (2 * z)) (sym (append_assoc front i.here l.inner)) h) (omega (arith, later)) (omega arith)
                  (outside_both last (2 * e) (2 * z) front i.here
                  (outside_behind last (2 * at) (2 * at + 1) (2 * e) (2 * z) (omega (arith, later)) front rf)
                  (outside_behind last (2 * at + 1) (2 * e) (2 * e) (2 * z) (omega arith) i.here ri))),
            );
      }

  -- ---- in braces

  -- the token behind the list of a block
  abbrev pub block_to : ℕ → Forest → ℕ
  block_to x a = items_end (x + 1) (items_of slots a NoItems) + 1

  -- the tokens between the braces have the places of the list
  abbrev pub Inside : ℕ → Forest → Type 0
  Inside x a = (t : ℕ) → x < t → t < block_to x a → P t ≡ list_place (AtEnd x) (written_items (x + 1) (items_of slots a NoItems)) t

  abbrev pub Block : ℕ → Forest → List Class → Type 0
  Block x a r = T (2 * x + 1) (2 * block_to x a) (λ n. items_notes slots a (c.CloseBlock ∷ r) n) (λ notes. NotesOfBody slots notes x a)

  block_on : (x : ℕ) (a : Forest) → Inside x a → OnList P slots (x + 1) a × (P (list_end slots (x + 1) a) ≡ AtEnd x)
  block_on x a h =
      let z = list_end slots (x + 1) a in
      let e = end_front slots a (x + 1) NoItems in
      let l = listed_front P slots (AtEnd x) (z + 1) s.NoItem a (x + 1) (omega arith)
      (λ t u v. h t (omega (arith, u)) (omega (arith, v, e)) ∙ ap (λ q. list_place (AtEnd x) q t) (written_front slots a (x + 1) NoItems)) in
      let m = list_more slots (x + 1) a in
      (l.0, l.1 z (omega arith) (omega arith))

  block_of : (x : ℕ) (a : Forest) (r : List Class) → P (list_end slots (x + 1) a) ≡ AtEnd x → ListTold [] (x + 1) a (c.CloseBlock ∷ r) → Block x a r
  block_of x a r p l =
      let z = list_end slots (x + 1) a in
      let e = end_front slots a (x + 1) NoItems in
      let m = list_more slots (x + 1) a in
      let left = all_at (AtEnd x) (trailing [] a) in
      let is : l.here ≡ l.inner ++ left = l.placed_so ∙ ap (λ q. l.inner ++ all_at q (trailing [] a)) p in
      let rl = l.ranged in
      let ra = ranged_all last (2 * x + 1) (2 * x + 1 + 1) (AtEnd x) (omega arith, omega arith) (trailing [] a) in
      record {
        here = l.inner ++ left;
        tells = λ n. l.tells n ∙ ap (λ q. q ++ found n) is;
        ranged =
            ranged_both last (2 * x + 1) (2 * block_to x a) l.inner left
            (ranged_wider last (2 * (x + 1)) (2 * z) (2 * x + 1) (2 * block_to x a) (omega arith) (omega (arith, e)) l.inner rl)
            (ranged_wider last (2 * x + 1) (2 * x + 1 + 1) (2 * x + 1) (2 * block_to x a) (omega arith) (omega (arith, e, m)) left ra);
        holds = λ notes h. (
          l.holds notes (agrees_part last notes (2 * x + 1) (2 * block_to x a) (2 * (x + 1)) (2 * z) [] l.inner left h (omega arith)
              (omega (arith, e)) tt (outside_behind last (2 * x + 1) (2 * x + 1 + 1) (2 * (x + 1)) (2 * z) (omega arith) left ra)),
          agrees_at last notes (2 * x + 1) (2 * block_to x a) l.inner (AtEnd x) (trailing [] a) []
              (subst (λ q. Agrees last notes (2 * x + 1) (2 * block_to x a) (l.inner ++ q)) (sym (append-nil left)) h) (omega arith, omega (arith, e, m))
              (outside_before last (2 * (x + 1)) (2 * z) (2 * x + 1) (2 * x + 1 + 1) (omega arith) l.inner rl) tt,
        );
      }

  -- ---- else

  abbrev else_statement : Tree → Forest → Statement
  else_statement y ys = cond (is_lone_if y ys) (statement_of slots y) (block (placed slots y (statement_of slots y) (items_of slots ys NoItems)))

  abbrev else_body : ℕ → Tree → Forest → s.Body
  else_body e y ys = let x = else_statement y ys in list_of_item e (statement_end e x) (s.States (written_labels e x) (behind_labels e x))

  -- its tokens have the places of its list, whatever stands in front
  abbrev ElseOn : ℕ → Tree → Forest → Type 0
  ElseOn e y ys = (t : ℕ) → e ≤ t → t < statement_end e (else_statement y ys) → (before : Anchor) × (P t ≡ body_place before (else_body e y ys) t)

  abbrev else_notes : Tree → Forest → List Class → Comments → Comments
  else_notes y ys r n = cond (is_lone_if y ys) (item_notes slots y r n)
      (item_notes slots y (items_tokens (items_of slots ys NoItems) (c.CloseBlock ∷ r)) (items_notes slots ys (c.CloseBlock ∷ r) n))

  -- one `if`, in front of which and behind whose list no Note stands
  lone_told : (e : ℕ) (d : TestTree) (a b : Forest) (r : List Class) → e < item_end slots e (t.If d a b) →
      T (2 * e + 1 + 1) (2 * item_end slots e (t.If d a b)) (λ n. item_notes slots (t.If d a b) r n) (λ notes. NotesWithin slots notes e (t.If d a b))
      → T (2 * e) (2 * item_end slots e (t.If d a b)) (λ n. item_notes slots (t.If d a b) r n) (λ notes. NotesOfElse slots notes e (Then (t.If d a b) Nil))
  lone_told e d a b r later i =
      let z = item_end slots e (t.If d a b) in
      let q = i.ranged in
      record {
        here = i.here;
        tells = i.tells;
        ranged = ranged_wider last (2 * e + 1 + 1) (2 * z) (2 * e) (2 * z) (omega arith) (omega arith) i.here q;
        holds = λ notes h. (
          agrees_none last notes (2 * e) (2 * z) (Before e) i.here h (omega arith, omega (arith, later))
              (outside_before last (2 * e + 1 + 1) (2 * z) (2 * e) (2 * e + 1) (omega arith) i.here q),
          i.holds notes (λ p k. h p (let u = k.0 in omega (arith, u), k.1)),
          agrees_none last notes (2 * e) (2 * z) (AtEnd e) i.here h (omega arith, omega (arith, later))
              (outside_before last (2 * e + 1 + 1) (2 * z) (2 * e + 1) (2 * e + 1 + 1) (omega arith) i.here q),
        );
      }

  lone_on : (e end : ℕ) (p : s.Plain) (h : (t : ℕ) → e ≤ t → t < end →
      (before : Anchor) × (P t ≡ body_place before (s.Lone e end (s.States [] p)) t)) → On P e end (s.States [] p)
  lone_on e end p h t u v = let g = h t u v in g.1 ∙ in_lone (g.0) e end t (s.States [] p) u v

  braced_on : (e : ℕ) (xs : Forest) → ((t : ℕ) → e ≤ t → t < block_to e xs →
      (before : Anchor) × (P t ≡ body_place before (s.Braces e (block_to e xs) (written_items (e + 1) (items_of slots xs NoItems))) t)) → Inside e xs
  braced_on e xs h t u v = let g = h t (omega (arith, u)) v in g.1 ∙ in_braces (g.0) e (block_to e xs) t (written_items (e + 1) (items_of slots xs NoItems)) u v

  before_else : (before : Anchor) (e : ℕ) (y : Tree) (ys : Forest) (t : ℕ) → t < e → body_place before (else_body e y ys) t ≡ before
  before_else before e (t.If d a Nil) Nil k h = before_body before (else_body e (t.If d a Nil) Nil) k h
  before_else before e (t.If d a (Then b bs)) Nil k h = before_body before (else_body e (t.If d a (Then b bs)) Nil) k h
  before_else before e y ys k h = before_body before (else_body e y ys) k h

  -- ---- sections

  null_more : (b : Bool) (y : ℕ) → y ≤ optional_end_of b 1 y
  null_more true y = omega arith
  null_more false y = omega arith

  abbrev Facts : Type 1
  Facts = (Anchor → List (List ℕ)) → Type 0

  -- a `break` or a `;` stands behind a list, and the Notes at its end in front of that
  closed_list : (a : Forest) (at w : ℕ) (r : List Class) → list_end slots at a < w → P (list_end slots at a) ≡ Before (list_end slots at a) → ListTold [] at a r
      → T (2 * at) (2 * w) (λ n. items_notes slots a r n) (λ notes. NotesOfList slots notes [] at a × (notes (Before (list_end slots at a)) ≡ trailing [] a))
  closed_list a at w r k p l =
      let z = list_end slots at a in
      let m = list_more slots at a in
      let left = all_at (Before z) (trailing [] a) in
      let is : l.here ≡ l.inner ++ left = l.placed_so ∙ ap (λ q. l.inner ++ all_at q (trailing [] a)) p in
      let rl = l.ranged in
      let ra = ranged_all last (2 * z) (2 * z + 1) (Before z) (omega arith, omega arith) (trailing [] a) in
      record {
        here = l.inner ++ left;
        tells = λ n. l.tells n ∙ ap (λ q. q ++ found n) is;
        ranged =
            ranged_both last (2 * at) (2 * w) l.inner left (ranged_wider last (2 * at) (2 * z) (2 * at) (2 * w) (omega arith) (omega (arith, k)) l.inner rl)
            (ranged_wider last (2 * z) (2 * z + 1) (2 * at) (2 * w) (omega (arith, m)) (omega (arith, k)) left ra);
        holds = λ notes h. (
          l.holds notes (agrees_part last notes (2 * at) (2 * w) (2 * at) (2 * z) [] l.inner left h (omega arith) (omega (arith, k)) tt
              (outside_before last (2 * z) (2 * z + 1) (2 * at) (2 * z) (omega arith) left ra)),
          agrees_at last notes (2 * at) (2 * w) l.inner (Before z) (trailing [] a) []
              (subst (λ q. Agrees last notes (2 * at) (2 * w) (l.inner ++ q)) (sym (append-nil left)) h) (omega (arith, m), omega (arith, k))
              (outside_behind last (2 * at) (2 * z) (2 * z) (2 * z + 1) (omega arith) l.inner rl) tt,
        );
      }

  open_list : (a : Forest) (at : ℕ) (r : List Class) → trailing [] a ≡ [] → ListTold [] at a r →
      T (2 * at) (2 * list_end slots at a) (λ n. items_notes slots a r n) (λ notes. NotesOfList slots notes [] at a × Unit {0})
  open_list a at r none l =
      let z = list_end slots at a in
      let is : l.here ≡ l.inner = l.placed_so ∙ ap (λ q. l.inner ++ all_at (P z) q) none ∙ append-nil l.inner in
      record { here = l.inner; tells = λ n. l.tells n ∙ ap (λ q. q ++ found n) is; ranged = l.ranged; holds = λ notes h. (l.holds notes h, tt) }

  ended_list : (a : Forest) (ends : Bool) (k : Sections) (at : ℕ) (r : List Class) → IsKept a ends k →
      (is_closed ends (has_last a (is_last k)) ≡ true → P (list_end slots at a) ≡ Before (list_end slots at a)) → ListTold [] at a r
      → T (2 * at) (2 * section_ends_at (list_end slots at a) ends a (is_last k)) (λ n. items_notes slots a r n)
      (λ notes. NotesOfList slots notes [] at a × NotesOfEnd slots notes (list_end slots at a) ends a (is_last k))
  ended_list a true k at r kept p l = closed_list a at (list_end slots at a + 1 + 1) r (omega arith) (p refl) l
  ended_list a false k at r kept p l = by (has_last a (is_last k)) p (open_trail a k kept)
    where
      by : (b : Bool) → (b ≡ true → P (list_end slots at a) ≡ Before (list_end slots at a)) → (b ≡ false → trailing [] a ≡ [])
          → T (2 * at) (2 * optional_end_of b 1 (list_end slots at a)) (λ n. items_notes slots a r n)
          (λ notes. NotesOfList slots notes [] at a × WithLast slots notes b (list_end slots at a) a)
      by true p q = closed_list a at (list_end slots at a + 1) r (omega arith) (p refl) l
      by false p q = open_list a at r (q refl) l

  -- in front of the list
  front_told : (at y : ℕ) (b : Bool) → at < y → T (2 * at) (2 * optional_end_of b 1 y) (λ n. n)
      (λ notes. (notes (AtSection at) ≡ []) × WithNull slots notes b y)
  front_told at y true h = told_none last found (2 * at) (2 * (y + 1))
      _ (λ notes g. (g (AtSection at) (omega arith, omega (arith, h)), g (Before y) (omega (arith, h), omega arith)))
  front_told at y false h = told_none last found (2 * at) (2 * y) _ (λ notes g. (g (AtSection at) (omega arith, omega (arith, h)), tt))

  -- a switch, behind whose last section no Note stands
  switch_of : (x z : ℕ) (cs : Sections) (tell : Comments → Comments) → x < z → T (2 * (x + 1)) (2 * z) tell (λ notes. NotesOfSections slots notes (x + 1) cs)
      → T (2 * x + 1) (2 * (z + 1)) tell (λ notes. NotesOfSections slots notes (x + 1) cs × (notes (AtEnd x) ≡ []))
  switch_of x z cs tell k i =
      let q = i.ranged in
      record {
        here = i.here;
        tells = i.tells;
        ranged = ranged_wider last (2 * (x + 1)) (2 * z) (2 * x + 1) (2 * (z + 1)) (omega arith) (omega arith) i.here q;
        holds = λ notes h. (
          i.holds notes (λ p u. h p (let v = u.0 in omega (arith, v), let v = u.1 in omega (arith, v))),
          agrees_none last notes (2 * x + 1) (2 * (z + 1)) (AtEnd x) i.here h (omega arith, omega (arith, k))
              (outside_before last (2 * (x + 1)) (2 * z) (2 * x + 1) (2 * x + 1 + 1) (omega arith) i.here q),
        );
      }

  abbrev ElseTold : Forest → Type 0
  ElseTold Nil = Unit {0}
  ElseTold (Then y ys) = (e : ℕ) (r : List Class) → ElseOn e y ys → EverywhereOf (HasSourceForm f) y → Formed ys →
      From (statement_end e (else_statement y ys)) r
      → T (2 * e) (2 * statement_end e (else_statement y ys)) (λ n. else_notes y ys r n) (λ notes. NotesOfElse slots notes e (Then y ys))

  braced_else : (e : ℕ) (xs : Forest) (r : List Class) (Q : Facts) → ((notes : Anchor → List (List ℕ)) → NotesOfBody slots notes e xs → Q notes) →
      Block e xs r → T (2 * e) (2 * block_to e xs) (λ n. items_notes slots xs (c.CloseBlock ∷ r) n) Q
  braced_else e xs r Q k b = told_as last found (2 * e) (2 * block_to e xs) _ _ Q k
      (told_wider last found (2 * e + 1) (2 * block_to e xs) (2 * e) (2 * block_to e xs) _ _ (omega arith) (omega arith) b)

  none_told : (lo hi : ℕ) (Q : Facts) → ((notes : Anchor → List (List ℕ)) → Q notes) → T lo hi (λ n. n) Q
  none_told lo hi Q k = told_none last found lo hi Q (λ notes g. k notes)

  block_with : (x : ℕ) (a : Forest) (r : List Class) → Inside x a → From (block_to x a) r →
      (OnList P slots (x + 1) a → From (list_end slots (x + 1) a) (c.CloseBlock ∷ r) → ListTold [] (x + 1) a (c.CloseBlock ∷ r)) → Block x a r
  block_with x a r i h l =
      let q = block_on x a i in
      let e = end_front slots a (x + 1) NoItems in
      block_of x a r (q.1) (l (q.0) (omega (arith, h, e)))

  -- ---- an `if`, by its lists

  abbrev ListT : Forest → Type 0
  ListT xs = (ns : List (List ℕ)) (at : ℕ) (r : List Class) → OnList P slots at xs → Formed xs → From (list_end slots at xs) r → ListTold ns at xs r

  abbrev IfT : TestTree → Forest → Forest → Type 0
  IfT d a b = (at : ℕ) (r : List Class) → OnTree P slots at (t.If d a b) → Formed a → Formed b → From (item_end slots at (t.If d a b)) r
      → T (2 * at + 1 + 1) (2 * item_end slots at (t.If d a b)) (λ n. item_notes slots (t.If d a b) r n) (λ notes. NotesWithin slots notes at (t.If d a b))

  -- of a list that is one `if`
  abbrev LoneT : Forest → Type 0
  LoneT (Then (t.If d a b) Nil) = IfT d a b
  LoneT _ = Unit {0}

  if_told : (d : TestTree) (a b : Forest) → ListT a → ElseTold b → IfT d a b
  if_told d a Nil la eb at r o k l h =
      let x = expression_end (at + 1 + 1) (test_of d) + 1 in
      let m = expression_reaches (at + 1 + 1) (test_of d) [] in
      let z = block_to x a in
      told_as last found (2 * at + 1 + 1) (2 * z) _ _ _ (λ notes q. (q, tt))
      (told_wider last found (2 * x + 1) (2 * z) (2 * at + 1 + 1) (2 * z) _ _ (omega (arith, m)) (omega arith)
      (block_with x a r (λ j u v. o j (omega (arith, m, u)) v ∙ in_source at j (source_of slots at (t.If d a Nil)) refl (omega (arith, m, u)) ∙
      in_braces (Before at) x z j (written_items (x + 1) (items_of slots a NoItems)) u v) h (λ o q. la [] (x + 1) (c.CloseBlock ∷ r) o k q)))
  if_told d a (Then y ys) la eb at r o k l h =
      let x = expression_end (at + 1 + 1) (test_of d) + 1 in
      let m = expression_reaches (at + 1 + 1) (test_of d) [] in
      let e = block_to x a + 1 in
      let z = statement_end e (else_statement y ys) in
      let later = statement_later e (else_statement y ys) in
      let inner = items_reach (x + 1) (items_of slots a NoItems) [] in
      let behind = statement_reaches e (else_statement y ys) r in
      told_both last found (2 * at + 1 + 1) (2 * e) (2 * z) (λ n. items_notes slots a (c.CloseBlock ∷ c.Else ∷ else_tokens slots y ys r) n)
      (λ n. else_notes y ys r n) _ _ (omega (arith, m, inner)) (omega (arith, later))
      (told_wider last found (2 * x + 1) (2 * block_to x a) (2 * at + 1 + 1) (2 * e) _ _ (omega (arith, m)) (omega arith)
      (block_with x a (c.Else ∷ else_tokens slots y ys r) (λ j u v.
      o j (omega (arith, m, u)) (omega (arith, v, later)) ∙ in_source at j (source_of slots at (t.If d a (Then y ys))) refl (omega (arith, m, u))
      ∙ before_else (body_place (Before at) (s.Braces x (block_to x a) (written_items (x + 1) (items_of slots a NoItems))) j) e y ys j (omega (arith, v))
      ∙ in_braces (Before at) x (block_to x a) j (written_items (x + 1) (items_of slots a NoItems)) u v) (omega (arith, h, behind))
      (λ o q. la [] (x + 1) (c.CloseBlock ∷ (c.Else ∷ else_tokens slots y ys r)) o k q)))
      (eb e r (λ j u v. (
        body_place (Before at) (s.Braces x (block_to x a) (written_items (x + 1) (items_of slots a NoItems))) j,
        o j (omega (arith, m, inner, u)) v ∙ in_source at j (source_of slots at (t.If d a (Then y ys))) refl (omega (arith, m, inner, u)),
      )) (l.0) (l.1) h)

  else_told : (b : Forest) → ListT b → LoneT b → ElseTold b
  else_told Nil lb lone = tt
  else_told (Then (t.If d a Nil) Nil) lb lone = λ e r o k l h. lone_told e d a Nil r (item_later slots e (t.If d a Nil) tt)
      (lone e r (lone_on e (statement_end e (statement_of slots (t.If d a Nil))) (behind_labels e (statement_of slots (t.If d a Nil))) o) (k.1) (k.2) h)
  else_told (Then (t.If d a (Then b bs)) Nil) lb lone = λ e r o k l h. lone_told e d a (Then b bs) r (item_later slots e (t.If d a (Then b bs)) tt)
      (lone e r (lone_on e (statement_end e (statement_of slots (t.If d a (Then b bs)))) (behind_labels e (statement_of slots (t.If d a (Then b bs))))
      o) (k.1) (k.2) h)
  else_told (Then y ys) lb lone = λ e r o k l h.
      braced_else e (Then y ys) r (λ notes. NotesOfElse slots notes e (Then y ys)) (λ notes q. q)
      (block_with e (Then y ys) r (braced_on e (Then y ys) o) h (λ u v. lb [] (e + 1) (c.CloseBlock ∷ r) u (k, l) v))

  mutual
    list_told : (xs : Forest) → ListT xs
    list_told Nil = λ ns at r o k h. record {
      here = [];
      inner = [];
      tells = λ n. refl;
      placed_so = append-nil (all_at (P at) ns);
      ranged = tt;
      holds = λ notes g. tt;
    }
    list_told (Then (t.Note b) xs) = λ ns at r o k h.
        let l = list_told xs (ns ++ b ∷ []) at r (o.1) (k.1) h in
        let m = list_from at xs r h in
        let e : number count (items_tokens (items_of slots xs NoItems) r) ≡ at = omega (arith, m) in
        record {
          here = (P at, b) ∷ l.here;
          inner = l.inner;
          tells = λ n. (λ i. (P (e i), b) ∷ l.tells n i);
          placed_so = one_on (P at) ns b l.here ∙ l.placed_so;
          ranged = l.ranged;
          holds = l.holds;
        }
    list_told (Then x xs) = λ ns at r o k h.
        item_step ns at x xs r tt (o.0) (item_told x at (items_tokens (items_of slots xs NoItems) r) tt (o.0) (k.0)
        (list_from (item_end slots at x) xs r h)) (list_told xs [] (item_end slots at x) r (o.1) (k.1) h) (λ notes q. q) refl

    lone_of : (b : Forest) → LoneT b
    lone_of (Then (t.If d a b) Nil) = if_told d a b (list_told a) (else_told b (list_told b) (lone_of b))
    lone_of _ = tt

    item_told : (x : Tree) (at : ℕ) (r : List Class) → IsTold x → OnTree P slots at x → EverywhereOf (HasSourceForm f) x → From (item_end slots at x) r
        → T (2 * at + 1) (2 * item_end slots at x) (λ n. item_notes slots x r n) (λ notes. NotesWithin slots notes at x)
    item_told (t.If d a b) at r q o k h =
        let z = item_end slots at (t.If d a b) in
        told_wider last found (2 * at + 1 + 1) (2 * z) (2 * at + 1) (2 * z) _ _ (omega arith) (omega arith)
        (if_told d a b (list_told a) (else_told b (list_told b) (lone_of b)) at r o (k.1) (k.2) h)
    item_told (t.While d a) at r q o k h =
        let x = expression_end (at + 1 + 1) (test_of d) + 1 in
        let m = expression_reaches (at + 1 + 1) (test_of d) [] in
        let z = block_to x a in
        told_wider last found (2 * x + 1) (2 * z) (2 * at + 1) (2 * z) _ _ (omega (arith, m)) (omega arith)
        (block_with x a r (λ j u v. o j (omega (arith, m, u)) v ∙ in_source at j (source_of slots at (t.While d a)) refl (omega (arith, m, u)) ∙
        in_braces (Before at) x z j (written_items (x + 1) (items_of slots a NoItems)) u v) h (λ u v. list_told a [] (x + 1) (c.CloseBlock ∷ r) u (k.1) v))
    item_told (t.Do a d) at r q o k h =
        let x = at + 1 in
        let z = block_to x a in
        let y = z + 1 + 1 in
        let m = expression_reaches y (test_of d) (c.Close ∷ c.Semicolon ∷ r) in
        let n = expression_reaches y (test_of d) [] in
        let end = item_end slots at (t.Do a d) in
        told_wider last found (2 * x + 1) (2 * z) (2 * at + 1) (2 * end) _ _ (omega arith) (omega (arith, n))
        (block_with x a (c.While ∷ c.Open ∷ expression_tokens (test_of d) (c.Close ∷ c.Semicolon ∷ r))
        (λ j u v. o j (omega (arith, u)) (omega (arith, v, n)) ∙ in_source at j (source_of slots at (t.Do a d)) refl (omega (arith, u)) ∙
        in_braces (Before at) x z j (written_items (x + 1) (items_of slots a NoItems)) u v) (omega (arith, h, m))
        (λ u v. list_told a [] (x + 1) (c.CloseBlock ∷ (c.While ∷ c.Open ∷ expression_tokens (test_of d) (c.Close ∷ c.Semicolon ∷ r))) u (k.1) v))
    item_told (t.For first d i a) at r q o k h =
        let p = for_start_end (at + 1 + 1) (start_of slots first) in
        let y = optional_end p (option_map derivation_of d) + 1 in
        let x = optional_end y (option_map derivation_of i) + 1 in
        let m = start_reaches (at + 1 + 1) (start_of slots first) [] in
        let n = optional_reaches p (option_map derivation_of d) [] in
        let l = optional_reaches y (option_map derivation_of i) [] in
        let z = block_to x a in
        told_wider last found (2 * x + 1) (2 * z) (2 * at + 1) (2 * z) _ _ (omega (arith, m, n, l)) (omega arith)
        (block_with x a r (λ j u v. o j (omega (arith, m, n, l, u)) v ∙
        in_source at j (source_of slots at (t.For first d i a)) refl (omega (arith, m, n, l, u)) ∙
        in_braces (Before at) x z j (written_items (x + 1) (items_of slots a NoItems)) u v) h (λ u v. list_told a [] (x + 1) (c.CloseBlock ∷ r) u (k.2) v))
    item_told (t.Block a) at r q o k h =
        block_with at a r (λ j u v. o j (omega (arith, u)) v ∙ in_source at j (source_of slots at (t.Block a)) refl u ∙
        in_braces (Before at) at (block_to at a) j (written_items (at + 1) (items_of slots a NoItems)) u v) h
        (λ u v. list_told a [] (at + 1) (c.CloseBlock ∷ r) u (k.1) v)
    item_told (t.Switch e cs) at r q o k h =
        let x = expression_end (at + 1 + 1) (selector_of e) + 1 in
        let m = expression_reaches (at + 1 + 1) (selector_of e) [] in
        let z = items_end (x + 1) (sections_of slots cs) in
        let n = items_reach (x + 1) (sections_of slots cs) [] in
        told_wider last found (2 * x + 1) (2 * (z + 1)) (2 * at + 1) (2 * (z + 1)) _ _ (omega (arith, m)) (omega arith)
        (switch_of x z cs _ (omega (arith, n))
        (sections_told cs false at x (x + 1) (c.CloseBlock ∷ r) ((k.0).0) (k.1)
        (λ j u v. o j (omega (arith, m, u)) (omega (arith, v)) ∙ in_source at j (source_of slots at (t.Switch e cs)) refl (omega (arith, m, u)) ∙
        place_not_most j x _ _ (omega (arith, u))) (omega (arith, h))))
    item_told (t.Mark l) at r q o k h = told_none last found (2 * at + 1) (2 * (at + 1 + 1 + 1))
        _ (λ notes g. g (Before (at + 1 + 1)) (omega arith, omega arith))
    item_told (t.Note bytes) at r q o k h = absurd q
    item_told x at r q o k h = none_told (2 * at + 1) (2 * item_end slots at x) (λ notes. NotesWithin slots notes at x) (λ notes. tt)

    sections_told : (cs : Sections) (begun : Bool) (switch first at : ℕ) (r : List Class) → AreSections cs → EverywhereIn (HasSourceForm f) cs →
        Members P begun switch first at (items_end at (sections_of slots cs)) (written_items at (sections_of slots cs))
        → From (items_end at (sections_of slots cs)) r → T (2 * at) (2 * items_end at (sections_of slots cs)) (λ n. sections_notes slots cs r n)
        (λ notes. NotesOfSections slots notes at cs)
    sections_told NoSection begun switch first at r k l m h = none_told (2 * at) (2 * at) _ (λ notes. tt)
    sections_told (Section cases default a ends cs) begun switch first at r k l m h =
        let o = section_places P slots switch first begun at cases default a ends cs (k.0) (k.2) m in
        let y = section_labels_end at cases default in
        let later = labels_later cases default at (k.0) in
        let y1 = optional_end_of (starts_with_local a) 1 y in
        let z = list_end slots y1 a in
        let w = section_ends_at z ends a (is_last cs) in
        let hi = items_end w (sections_of slots cs) in
        let same = o.ends_so in
        let r2 = items_tokens (sections_of slots cs) r in
        let r3 = items_tokens (section_end ends a (is_last cs) NoItems) r2 in
        let one = items_reach z (section_end ends a (is_last cs) NoItems) r2 in
        let two = items_reach w (sections_of slots cs) r in
        let three = end_reaches ends a (is_last cs) z NoItems in
        let far = items_reach w (sections_of slots cs) [] in
        let near = items_reach z (section_end ends a (is_last cs) NoItems) [] in
        let list = list_more slots y1 a in
        let null = null_more (starts_with_local a) y in
        let here = ended_list a ends cs y1 r3 (k.2) (o.closes) (list_told a [] y1 r3 (o.list) (l.0) (omega (arith, h, same, one, two, three))) in
        let behind = sections_told cs true switch first w r (k.4) (l.1) (o.behind) (omega (arith, h, same)) in
        let all = told_both last found (2 * at) (2 * y1) (2 * hi) (λ n. n) (λ n. items_notes slots a r3 (sections_notes slots cs r n))
        _ _ (omega (arith, later, null)) (omega (arith, list, near, three, far))
        (front_told at y (starts_with_local a) later)
        (told_both last found (2 * y1) (2 * w) (2 * hi) (λ n. items_notes slots a r3 n) (λ n. sections_notes slots cs r n)
        _ _ (omega (arith, list, near, three)) (omega (arith, far)) here behind) in
        subst (λ e. T (2 * at) (2 * e) (λ n. sections_notes slots (Section cases default a ends cs) r n)
        (λ notes. NotesOfSections slots notes at (Section cases default a ends cs))) (sym same)
        (told_as last found (2 * at) (2 * hi) _ _ (λ notes. NotesOfSections slots notes at (Section cases default a ends cs))
        (λ notes q. ((q.0).0, (q.0).1, ((q.1).0).0, ((q.1).0).1, (q.1).1)) all)

  -- a list in braces
  pub body_told : (x : ℕ) (a : Forest) (r : List Class) → Inside x a → Formed a → From (block_to x a) r → Block x a r
  body_told x a r i k h = block_with x a r i h (λ u v. list_told a [] (x + 1) (c.CloseBlock ∷ r) u k v)
