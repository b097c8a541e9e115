-- The places that the tokens of a printed section decide.
use Rattle.std.proofs.Common.{◌≡◌, ◌≤◌, ◌<◌, ◌+◌, ℕ, Bool, true, false, ◌&&◌, ◌||◌, List, [], ◌∷◌, ◌++◌, refl, ap, sym, subst, ◌∙◌, arith}
use Rattle.c_tree.specs.declared.tree.Slot.{Slot}
use Rattle.c_tree.specs.ExpressionTrees.{ExpressionTree}
use Rattle.c_tree.specs.Trees.{Tree, Forest, Nil, Then, Sections, NoSection, Section}
use Rattle.c_tree.specs.Trees as t
use Rattle.c_grammar.specs.Statements.{StatementItem}
use Rattle.c_grammar.specs.Statements as g
use Rattle.c_grammar.specs.StatementSyntax.{items_end}
use Rattle.c_grammar.specs.Items as s
use Rattle.c_statements.specs.declared.anchors.Anchor.{Anchor}
use Rattle.c_statements.specs.declared.anchors.Anchor.TheVariants.{Before}
use Rattle.c_comments.specs.Notes.{item_after, plain_after}
use Rattle.c_resolved_defs.specs.Form.{IsKept}
use Rattle.print_laws.specs.StatementDerivations.{labels_of, labelled, null_statement, starts_with_local, is_nil, ends_with_note, is_last, optional_item, section_end, items_of, sections_of}
use Rattle.reread_parts_laws.specs.WrittenStatements.{written_items}
use Rattle.reread_parts_laws.specs.PlacedNotes.{item_end, list_end, trailing, section_labels_end, optional_end_of, has_last, section_ends_at}
use Rattle.reread_parts_laws.proofs.SectionSources.{section_list, AreNames, with_labels, BeginsStated, labelled_written, labelled_end}
use Rattle.reread_program_laws.proofs.Lengths.{items_reach}
use Rattle.reread_program_laws.proofs.PlacesOn.{source_of, front, written_front, end_front, item_more, list_more, source_after, place_most, On, Members, members_first, members_rest, OnList, no_token, members_front, HasLabel, begin_first, begin_rest}

-- ---- lists of Notes alone

abbrev pub is_bare : Forest → Bool
is_bare Nil = true
is_bare (Then (t.Note bytes) xs) = is_bare xs
is_bare (Then x xs) = false

not_bare : (a : Forest) → is_nil a ≡ false → ends_with_note a ≡ false → is_bare a ≡ false
not_bare Nil n e = cc
not_bare (Then (t.Note bytes) Nil) n e = cc
not_bare (Then (t.Note bytes) (Then x xs)) n e = not_bare (Then x xs) refl e
not_bare (Then x xs) n e = refl

-- a list that ends with no Note leaves none
pub none_trail : (a : Forest) (ns : List (List ℕ)) → is_nil a ≡ false → ends_with_note a ≡ false → trailing ns a ≡ []
none_trail Nil ns n e = cc
none_trail (Then (t.Note bytes) Nil) ns n e = cc
none_trail (Then (t.Note bytes) (Then y ys)) ns n e = none_trail (Then y ys) (ns ++ bytes ∷ []) refl e
none_trail (Then x Nil) ns n e = refl
none_trail (Then x (Then y ys)) ns n e = none_trail (Then y ys) [] refl (more x e)
  where
    more : (x : Tree) → ends_with_note (Then x (Then y ys)) ≡ false → ends_with_note (Then y ys) ≡ false
    more (t.Note bytes) h = h
    more x h = h

-- ---- what stands behind the list

-- a `break` or a `;` stands there
abbrev pub is_closed : Bool → Bool → Bool
is_closed true h = true
is_closed false h = h

abbrev pub end_source : Bool → Bool → ℕ → s.Items → s.Items
end_source true h z rest = s.Then (s.States [] (s.From z (z + 1 + 1) s.Break)) rest
end_source false true z rest = s.Then (s.States [] (s.From z (z + 1) s.Null)) rest
end_source false false z rest = rest

abbrev pub ended_at : Bool → Bool → ℕ → ℕ
ended_at true h z = z + 1 + 1
ended_at false h z = optional_end_of h 1 z

ends_here : (ends : Bool) (a : Forest) (last : Bool) (z : ℕ) → section_ends_at z ends a last ≡ ended_at ends (has_last a last) z
ends_here true a last z = refl
ends_here false a last z = refl

ended_more : (ends h : Bool) (z : ℕ) → z ≤ ended_at ends h z
ended_more true h z = omega arith
ended_more false true z = omega arith
ended_more false false z = omega arith

end_written : (ends : Bool) (a : Forest) (last : Bool) (z : ℕ) (xs : g.Items) →
    written_items z (section_end ends a last xs) ≡ end_source ends (has_last a last) z (written_items (ended_at ends (has_last a last) z) xs)
end_written true a last z xs = refl
end_written false a last z xs = by (has_last a last)
  where
    by : (b : Bool) → written_items z (optional_item b null_statement xs) ≡ end_source false b z (written_items (optional_end_of b 1 z) xs)
    by true = refl
    by false = refl

pub end_reaches : (ends : Bool) (a : Forest) (last : Bool) (z : ℕ) (xs : g.Items) →
    items_end z (section_end ends a last xs) ≡ items_end (section_ends_at z ends a last) xs
end_reaches true a last z xs = refl
end_reaches false a last z xs = by (has_last a last)
  where
    by : (b : Bool) → items_end z (optional_item b null_statement xs) ≡ items_end (optional_end_of b 1 z) xs
    by true = refl
    by false = refl

-- the list begins with a statement, if it isn't bare or a statement stands behind it
list_stated : (slots : List Slot) (a : Forest) (xs : g.Items) → starts_with_local a ≡ false → (is_bare a ≡ true → BeginsStated xs) →
    BeginsStated (items_of slots a xs)
list_stated slots Nil xs l h = h refl
list_stated slots (Then (t.Note bytes) a) xs l h = list_stated slots a xs l h
list_stated slots (Then (t.Local k given) a) xs l h = cc
list_stated slots (Then x a) xs l h = tt

end_stated : (ends : Bool) (a : Forest) (last : Bool) (xs : g.Items) → is_closed ends (has_last a last) ≡ true → BeginsStated (section_end ends a last xs)
end_stated true a last xs h = tt
end_stated false a last xs h = by (has_last a last) h
  where
    by : (b : Bool) → b ≡ true → BeginsStated (optional_item b null_statement xs)
    by true h = tt
    by false h = cc

-- a bare list of a section that is kept is closed
bare_closed : (a : Forest) (ends : Bool) (c : Sections) → IsKept a ends c → is_bare a ≡ true → is_closed ends (has_last a (is_last c)) ≡ true
bare_closed a true c k b = refl
bare_closed Nil false NoSection k b = refl
bare_closed Nil false (Section cases default a ends c) k b = absurd k
bare_closed (Then x xs) false c k b = by (is_last c && false) (ends_with_note (Then x xs)) refl
  where
    by : (p q : Bool) → ends_with_note (Then x xs) ≡ q → (p || q) ≡ true
    by true q e = refl
    by false true e = refl
    by false false e = let n = not_bare (Then x xs) refl e in cc

-- what closes no section leaves no Note
pub open_trail : (a : Forest) (c : Sections) → IsKept a false c → has_last a (is_last c) ≡ false → trailing [] a ≡ []
open_trail Nil c k h = refl
open_trail (Then x xs) c k h = none_trail (Then x xs) [] refl (second (is_last c && false) (ends_with_note (Then x xs)) h)
  where
    second : (p q : Bool) → (p || q) ≡ false → q ≡ false
    second true q e = cc
    second false q e = e

module _ (P : ℕ → Anchor) (slots : List Slot) (switch first : ℕ) where
  -- ---- behind the list

  record End (hi : ℕ) (ends h : Bool) (z : ℕ) (rest : s.Items) : Type 0 where
    closes : is_closed ends h ≡ true → P z ≡ Before z
    behind : Members P true switch first (ended_at ends h z) hi rest

  here_is : (z end : ℕ) (x : s.Statement) → z < end → On P z end (s.States [] (s.From z end x)) → P z ≡ Before z
  here_is z end x h o = o z (omega arith) h ∙ place_most z z _ _ (omega arith)

  end_given : (hi : ℕ) (ends h : Bool) (z : ℕ) (rest : s.Items) → ended_at ends h z ≤ hi →
      Members P true switch first z hi (end_source ends h z rest) → End hi ends h z rest
  end_given hi true h z rest k m =
      let i = s.States [] (s.From z (z + 1 + 1) s.Break) in
      record {
        closes = λ e. here_is z (z + 1 + 1) s.Break (omega arith) (members_first P switch first z (z + 1 + 1) hi i rest tt refl k m);
        behind = members_rest P switch first z (z + 1 + 1) hi i rest refl (omega arith) m;
      }
  end_given hi false true z rest k m =
      let i = s.States [] (s.From z (z + 1) s.Null) in
      record {
        closes = λ e. here_is z (z + 1) s.Null (omega arith) (members_first P switch first z (z + 1) hi i rest tt refl k m);
        behind = members_rest P switch first z (z + 1) hi i rest refl (omega arith) m;
      }
  end_given hi false false z rest k m = record { closes = λ e. cc; behind = m }

  -- ---- behind the labels of the section

  module _ (begun : Bool) (at hi : ℕ) (cases : List ExpressionTree) (default : Bool) (label : HasLabel cases default) where
    abbrev y : ℕ
    y = section_labels_end at cases default

    abbrev Labelled : s.Items → Type 0
    Labelled xs = Members P begun switch first at hi (with_labels (section_list at cases default) xs)

    end_begins : (ends h : Bool) (rest : s.Items) → is_closed ends h ≡ true → ended_at ends h y ≤ hi → Labelled (end_source ends h y rest) →
        End hi ends h y rest
    end_begins true h rest c k m =
        let p = s.From y (y + 1 + 1) s.Break in
        record {
          closes = λ e. here_is y (y + 1 + 1) s.Break (omega arith)
              (begin_first P begun switch first at hi cases default [] p rest tt label m (y + 1 + 1) refl k);
          behind = begin_rest P begun switch first at hi cases default [] p rest tt label m (y + 1 + 1) refl (omega arith);
        }
    end_begins false true rest c k m =
        let p = s.From y (y + 1) s.Null in
        record {
          closes = λ e. here_is y (y + 1) s.Null (omega arith) (begin_first P begun switch first at hi cases default [] p rest tt label m (y + 1) refl k);
          behind = begin_rest P begun switch first at hi cases default [] p rest tt label m (y + 1) refl (omega arith);
        }
    end_begins false false rest c k m = cc

    begins_with : (x : Tree) (xs : Forest) (ends h : Bool) (rest : s.Items) → list_end slots (item_end slots y x) xs ≤ hi →
        ended_at ends h (list_end slots (item_end slots y x) xs) ≤ hi → (p : s.Plain) (ls : List s.Label)
        → source_of slots y x ≡ s.States ls p → AreNames ls → item_after (source_of slots y x) ≡ item_end slots y x
        → Members P begun switch first at hi
        (with_labels (section_list at cases default)
        (s.Then (source_of slots y x) (front slots (item_end slots y x) xs (end_source ends h (list_end slots (item_end slots y x) xs) rest))))
        → (On P y (item_end slots y x) (source_of slots y x) × OnList P slots (item_end slots y x) xs) ×
        End hi ends h (list_end slots (item_end slots y x) xs) rest
    begins_with x xs ends h rest k e p ls q n a m =
        let z = item_end slots y x in
        let tail = end_source ends h (list_end slots z xs) rest in
        let behind = front slots z xs tail in
        let more = item_more slots y x in
        let less = list_more slots z xs in
        let l = subst (λ i. Members P begun switch first at hi (with_labels (section_list at cases default) (s.Then i behind))) q m in
        let end : plain_after p ≡ z = subst (λ i. item_after i ≡ z) q a in
        let one = begin_first P begun switch first at hi cases default ls p behind n label l z end (omega (arith, k, less)) in
        let others = members_front P slots switch first hi tail xs z k (begin_rest P begun switch first at hi cases default ls p behind n label l z end more) in
        ((subst (On P y z) (sym q) one, others.0), end_given hi ends h (list_end slots z xs) rest e (others.1))

    list_begins : (a : Forest) (ends h : Bool) (rest : s.Items) → starts_with_local a ≡ false → (is_bare a ≡ true → is_closed ends h ≡ true) →
        list_end slots y a ≤ hi → ended_at ends h (list_end slots y a) ≤ hi
        → Labelled (front slots y a (end_source ends h (list_end slots y a) rest)) → OnList P slots y a × End hi ends h (list_end slots y a) rest
    list_begins Nil ends h rest l c k e m = (tt, end_begins ends h rest (c refl) e m)
    list_begins (Then (t.Note bytes) xs) ends h rest l c k e m = let r = list_begins xs ends h rest l c k e m in ((no_token P slots y bytes, r.0), r.1)
    list_begins (Then (t.Local j given) xs) ends h rest l c k e m = cc
    list_begins (Then (t.If d a Nil) xs) ends h rest l c k e m = begins_with (t.If d a Nil) xs ends h rest k e (s.From y _ _) [] refl tt
        (source_after slots y (t.If d a Nil) tt) m
    list_begins (Then (t.If d a (Then b bs)) xs) ends h rest l c k e m =
        begins_with (t.If d a (Then b bs)) xs ends h rest k e (s.From y _ _) [] refl tt (source_after slots y (t.If d a (Then b bs)) tt) m
    list_begins (Then (t.Mark j) xs) ends h rest l c k e m = begins_with (t.Mark j) xs ends h rest k e (s.From _ _ _) (s.Named _ _ ∷ []) refl tt
        (source_after slots y (t.Mark j) tt) m
    list_begins (Then x xs) ends h rest l c k e m = begins_with x xs ends h rest k e (s.From y _ _) [] refl tt (source_after slots y x tt) m

  -- ---- a section

  module _ (begun : Bool) (at : ℕ) (cases : List ExpressionTree) (default : Bool) (a : Forest) (ends : Bool) (c : Sections) where
    abbrev from : ℕ
    from = section_labels_end at cases default

    abbrev has : Bool
    has = has_last a (is_last c)

    abbrev rest : g.Items
    rest = sections_of slots c

    abbrev closing : g.Items
    closing = section_end ends a (is_last c) rest

    abbrev whole : Bool → g.Items
    whole b = labelled (labels_of cases default) (optional_item b null_statement (items_of slots a closing))

    -- behind the list, and behind the section
    abbrev list_to : Bool → ℕ
    list_to b = list_end slots (optional_end_of b 1 from) a

    abbrev to : Bool → ℕ
    to b = section_ends_at (list_to b) ends a (is_last c)

    pub record SectionOn (b : Bool) : Type 0 where
      pub list : OnList P slots (optional_end_of b 1 from) a
      pub closes : is_closed ends has ≡ true → P (list_to b) ≡ Before (list_to b)
      pub behind : Members P true switch first (to b) (items_end (to b) rest) (written_items (to b) rest)
      pub ends_so : items_end at (whole b) ≡ items_end (to b) rest

    abbrev Given : Bool → Type 0
    Given b = Members P begun switch first at (items_end at (whole b)) (written_items at (whole b))

    section_on : HasLabel cases default → IsKept a ends c → (b : Bool) → starts_with_local a ≡ b → Given b → SectionOn b
    section_on label kept true e m =
        let z = list_to true in
        let w = to true in
        let hi = items_end w rest in
        let tail = end_source ends has z (written_items (ended_at ends has z) rest) in
        let same = labelled_end cases at default (optional_item true null_statement (items_of slots a closing)) tt ∙
        end_front slots a (from + 1) closing ∙ end_reaches ends a (is_last c) z rest in
        let text = labelled_written cases at default (optional_item true null_statement (items_of slots a closing)) tt
        ∙ ap (λ l. with_labels (section_list at cases default) (s.Then (s.States [] (s.From from (from + 1) s.Null)) l))
        (written_front slots a (from + 1) closing ∙ ap (front slots (from + 1) a) (end_written ends a (is_last c) z rest)) in
        let n = subst (λ k. Members P begun switch first at k
        (with_labels (section_list at cases default) (s.Then (s.States [] (s.From from (from + 1) s.Null)) (front slots (from + 1) a tail))))
        same (subst (Members P begun switch first at (items_end at (whole true))) text m) in
        let far = items_reach w rest [] in
        let near = ended_more ends has z in
        let here = ends_here ends a (is_last c) z in
        let l = members_front P slots switch first hi tail a (from + 1) (omega (arith, far, near, here))
        (begin_rest P begun switch first at hi cases default [] (s.From from (from + 1) s.Null) (front slots (from + 1) a tail) tt label n (from + 1)
        refl (omega arith)) in
        let q = end_given hi ends has z (written_items (ended_at ends has z) rest) (omega (arith, far, here)) (l.1) in
        record {
          list = l.0;
          closes = q.closes;
          behind = subst (λ k. Members P true switch first k hi (written_items k rest)) (sym here) q.behind;
          ends_so = same;
        }
    section_on label kept false e m =
        let z = list_to false in
        let w = to false in
        let hi = items_end w rest in
        let stated = list_stated slots a closing e (λ b. end_stated ends a (is_last c) rest (bare_closed a ends c kept b)) in
        let tail = end_source ends has z (written_items (ended_at ends has z) rest) in
        let same = labelled_end cases at default (items_of slots a closing) stated ∙ end_front slots a from closing ∙ end_reaches ends a (is_last c) z rest in
        let text = labelled_written cases at default (items_of slots a closing) stated
        ∙ ap (λ l. with_labels (section_list at cases default) l)
        (written_front slots a from closing ∙ ap (front slots from a) (end_written ends a (is_last c) z rest)) in
        let n = subst (λ k. Members P begun switch first at k (with_labels (section_list at cases default) (front slots from a tail))) same
        (subst (Members P begun switch first at (items_end at (whole false))) text m) in
        let far = items_reach w rest [] in
        let near = ended_more ends has z in
        let here = ends_here ends a (is_last c) z in
        let l = list_begins begun at hi cases default label a ends has (written_items (ended_at ends has z) rest) e (bare_closed a ends c kept)
        (omega (arith, far, near, here)) (omega (arith, far, here)) n in
        let q = l.1 in
        record {
          list = l.0;
          closes = q.closes;
          behind = subst (λ k. Members P true switch first k hi (written_items k rest)) (sym here) q.behind;
          ends_so = same;
        }

    pub section_places : HasLabel cases default → IsKept a ends c → Given (starts_with_local a) → SectionOn (starts_with_local a)
    section_places label kept m = section_on label kept (starts_with_local a) refl m
