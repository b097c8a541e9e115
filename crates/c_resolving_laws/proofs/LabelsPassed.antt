-- Labels of sections are passed on in one walk that has with it those of the empty sections just behind it.
use Rattle.std.proofs.Common.{◌≡◌, Bool, true, false, not, cond, ◌&&◌, ◌||◌, List, [], ◌∷◌, ◌++◌, refl, ap, sym, ◌∙◌, append_assoc}
use Rattle.std.proofs.Math.Bool.{or_assoc}
use Rattle.c_tree.specs.declared.tree.Expression.{Expression}
use Rattle.c_tree.specs.declared.tree.Section.{Section, out-Section, out-roll-Section, roll-out-Section}
use Rattle.c_tree.specs.TextItems.{is_empty}
use Rattle.c_tree.specs.SectionLabels.{pass_to, labels_passed}
use Rattle.c_statements.specs.Sections.{section}

abbrev pub is_passing : Section → Bool
is_passing s = is_empty (out-Section s).list && not (out-Section s).ends

abbrev pub with_labels : List Expression → Bool → Section → Section
with_labels cases default s = section (cases ++ (out-Section s).cases) (default || (out-Section s).default) (out-Section s).list (out-Section s).ends

abbrev pub passed_on : List Expression → Bool → List Section → List Section
passed_on cases default [] = []
passed_on cases default (s ∷ []) = with_labels cases default s ∷ []
passed_on cases default (s ∷ t ∷ ss) =
    elim (is_passing s) [
      | true ↦ passed_on (cases ++ (out-Section s).cases) (default || (out-Section s).default) (t ∷ ss)
      | false ↦ with_labels cases default s ∷ passed_on [] false (t ∷ ss)
    ]

-- the labels that the walk has with it, at the first of these
abbrev led : List Expression → Bool → List Section → List Section
led cases default [] = []
led cases default (s ∷ ss) = with_labels cases default s ∷ ss

labelled_twice : (cs ds : List Expression) (a b : Bool) (s : Section) → with_labels (cs ++ ds) (a || b) s ≡ with_labels cs a (with_labels ds b s)
labelled_twice cs ds a b s =
    let k = out-roll-Section (record {
      cases = ds ++ (out-Section s).cases;
      default = b || (out-Section s).default;
      list = (out-Section s).list;
      ends = (out-Section s).ends;
    }) in
    (λ i. section (append_assoc cs ds (out-Section s).cases i) (or_assoc a b (out-Section s).default i) (out-Section s).list (out-Section s).ends)
    ∙ (λ i. section (cs ++ (sym k i).cases) (a || (sym k i).default) (sym k i).list (sym k i).ends)

unled : (ss : List Section) → led [] false ss ≡ ss
unled [] = refl
unled (s ∷ ss) = ap (λ t. t ∷ ss) (roll-out-Section s)

by_passing : (s t : Section) (ts : List Section) (b : Bool)
    → (x : Section) × (xs : List Section) × (cond b (with_labels (out-Section s).cases (out-Section s).default t ∷ ts) (s ∷ t ∷ ts) ≡ x ∷ xs)
by_passing s t ts true = (with_labels (out-Section s).cases (out-Section s).default t, ts, refl)
by_passing s t ts false = (s, t ∷ ts, refl)

-- a section in front of others is one of some
some_first : (s : Section) (ss : List Section) → (x : Section) × (xs : List Section) × (pass_to s ss ≡ x ∷ xs)
some_first s [] = (s, [], refl)
some_first s (t ∷ ts) = by_passing s t ts (is_passing s)

led_in_front : (s t : Section) (ts : List Section) (cs : List Expression) (d b : Bool)
    → elim b [ true ↦ led (cs ++ (out-Section s).cases) (d || (out-Section s).default) (t ∷ ts) | false ↦ with_labels cs d s ∷ t ∷ ts ]
    ≡ led cs d (cond b (with_labels (out-Section s).cases (out-Section s).default t ∷ ts) (s ∷ t ∷ ts))
led_in_front s t ts cs d true = ap (λ x. x ∷ ts) (labelled_twice cs (out-Section s).cases d (out-Section s).default t)
led_in_front s t ts cs d false = refl

by_first : (s : Section) (ms : List Section) (x : Section) (xs : List Section) → ms ≡ x ∷ xs → (cs : List Expression) (d : Bool) (as' bs : List Section)
    → as' ≡ led (cs ++ (out-Section s).cases) (d || (out-Section s).default) ms → bs ≡ ms
    → elim (is_passing s) [ true ↦ as' | false ↦ with_labels cs d s ∷ bs ] ≡ led cs d (pass_to s ms)
by_first s [] x xs e cs d as' bs f g = cc
by_first s (m ∷ ms) x xs e cs d as' bs f g =
    (λ i. elim (is_passing s) [ true ↦ f i | false ↦ with_labels cs d s ∷ g i ]) ∙ led_in_front s m ms cs d (is_passing s)

same : (ss : List Section) (cs : List Expression) (d : Bool) → passed_on cs d ss ≡ led cs d (labels_passed ss)
same [] cs d = refl
same (s ∷ []) cs d = refl
same (s ∷ t ∷ ss) cs d =
    let k = some_first t (labels_passed ss) in
    by_first s (labels_passed (t ∷ ss)) k.0 k.1 k.2 cs d
    (passed_on (cs ++ (out-Section s).cases) (d || (out-Section s).default) (t ∷ ss)) (passed_on [] false (t ∷ ss))
    (same (t ∷ ss) (cs ++ (out-Section s).cases) (d || (out-Section s).default)) (same (t ∷ ss) [] false ∙ unled (labels_passed (t ∷ ss)))

pub in_one_walk : (ss : List Section) → passed_on [] false ss ≡ labels_passed ss
in_one_walk ss = same ss [] false ∙ unled (labels_passed ss)
