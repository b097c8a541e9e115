-- Sections that pass their labels to the next, one after another from the front.
use Rattle.std.proofs.Common.{◌≡◌, Bool, true, false, not, ◌&&◌, ◌||◌, cond, List, [], ◌∷◌, ◌++◌, refl, sym, ap, ◌∙◌, append_assoc, append-nil, map}
use Rattle.std.proofs.Math.Bool.{or_assoc}
use Rattle.c_tree.specs.declared.tree.Section.{Section, out-Section, roll-Section}
use Rattle.c_tree.specs.TextItems.{is_empty}
use Rattle.c_tree.specs.SectionLabels.{with_entries, pass_to, labels_passed, passed_after}

abbrev pub passes : Section → Bool
passes c = is_empty (out-Section c).list && not (out-Section c).ends

-- entries before entries before a section
entries_twice : (c d e : Section) → with_entries (out-Section (with_entries (out-Section c) d)) e ≡ with_entries (out-Section c)
    (with_entries (out-Section d) e)
entries_twice c d e =
    let x = out-Section c in
    let y = out-Section d in
    let z = out-Section e in
    ap (λ cs. roll-Section (record { cases = cs; default = (x.default || y.default) || z.default; list = z.list; ends = z.ends }))
    (append_assoc x.cases y.cases z.cases)
    ∙ ap (λ b. roll-Section (record { cases = x.cases ++ (y.cases ++ z.cases); default = b; list = z.list; ends = z.ends }))
    (or_assoc x.default y.default z.default)

pass_by : (b : Bool) (c d : Section) (ds : List Section) → passes c ≡ b → pass_to c (d ∷ ds) ≡ cond b (with_entries (out-Section c) d ∷ ds) (c ∷ d ∷ ds)
pass_by b c d ds e = ap (λ z. cond z (with_entries (out-Section c) d ∷ ds) (c ∷ d ∷ ds)) e

-- passed to a section that itself passes them or not
passed_by : (b : Bool) (c d : Section) (ds : List Section) → passes c ≡ true → passes d ≡ b
    → pass_to c (pass_to d ds) ≡ pass_to (with_entries (out-Section c) d) ds
passed_by b c d [] h k = pass_by true c d [] h
passed_by true c d (e ∷ ds) h k =
    ap (pass_to c) (pass_by true d e ds k) ∙ pass_by true c (with_entries (out-Section d) e) ds h
    ∙ ap (λ z. z ∷ ds) (sym (entries_twice c d e)) ∙ sym (pass_by true (with_entries (out-Section c) d) e ds k)
passed_by false c d (e ∷ ds) h k =
    ap (pass_to c) (pass_by false d e ds k) ∙ pass_by true c d (e ∷ ds) h ∙ sym (pass_by false (with_entries (out-Section c) d) e ds k)

-- a section that passes its labels, before the next
passed_on : (c d : Section) (ds : List Section) → passes c ≡ true → labels_passed (c ∷ d ∷ ds) ≡ labels_passed (with_entries (out-Section c) d ∷ ds)
passed_on c d ds h = passed_by (passes d) c d (labels_passed ds) h refl

kept_by : (b : Bool) (c d : Section) (ds : List Section) → passes c ≡ false → passes d ≡ b → pass_to c (pass_to d ds) ≡ c ∷ pass_to d ds
kept_by b c d [] h k = pass_by false c d [] h
kept_by true c d (e ∷ ds) h k =
    ap (pass_to c) (pass_by true d e ds k) ∙ pass_by false c (with_entries (out-Section d) e) ds h ∙ ap (λ z. c ∷ z) (sym (pass_by true d e ds k))
kept_by false c d (e ∷ ds) h k =
    ap (pass_to c) (pass_by false d e ds k) ∙ pass_by false c d (e ∷ ds) h ∙ ap (λ z. c ∷ z) (sym (pass_by false d e ds k))

-- one that doesn't
passed_kept : (c d : Section) (ds : List Section) → passes c ≡ false → labels_passed (c ∷ d ∷ ds) ≡ c ∷ labels_passed (d ∷ ds)
passed_kept c d ds h = kept_by (passes d) c d (labels_passed ds) h refl

-- behind others
after_last : (cs : List Section) (c : Section) (rest : List Section) → passed_after (cs ++ c ∷ []) rest ≡ cs ++ labels_passed (c ∷ rest)
after_last [] c rest = refl
after_last (d ∷ []) c rest = refl
after_last (d ∷ e ∷ cs) c rest = ap (λ z. d ∷ z) (after_last (e ∷ cs) c rest)

-- the last section takes what it is labels_passed
pub added_to : (out next before : List Section) (c d made : Section) → out ≡ before ++ c ∷ [] → passes c ≡ true →
    made ≡ with_entries (out-Section c) d → next ≡ before ++ made ∷ []
    → (rest : List Section) → passed_after next rest ≡ passed_after out (d ∷ rest)
added_to out next before c d made e h m p rest =
    ap (λ z. passed_after z rest) p ∙ after_last before made rest ∙ ap (λ z. before ++ labels_passed (z ∷ rest)) m ∙
    ap (λ z. before ++ z) (sym (passed_on c d rest h))
    ∙ sym (after_last before c (d ∷ rest)) ∙ sym (ap (λ z. passed_after z (d ∷ rest)) e)

-- or stands behind one that doesn't pass its labels
pub added_behind : (out next before again : List Section) (c d : Section) → out ≡ before ++ c ∷ [] → passes c ≡ false → again ≡ before ++ c ∷ [] →
    next ≡ again ++ d ∷ []
    → (rest : List Section) → passed_after next rest ≡ passed_after out (d ∷ rest)
added_behind out next before again c d e h a p rest =
    ap (λ z. passed_after z rest) p ∙ after_last again d rest ∙ ap (λ z. z ++ labels_passed (d ∷ rest)) a ∙
    append_assoc before (c ∷ []) (labels_passed (d ∷ rest))
    ∙ ap (λ z. before ++ z) (sym (passed_kept c d rest h)) ∙ sym (after_last before c (d ∷ rest)) ∙ sym (ap (λ z. passed_after z (d ∷ rest)) e)

-- at the end they are what is made of them
pub passed_all : (cs : List Section) → passed_after cs [] ≡ cs
passed_all [] = refl
passed_all (c ∷ []) = refl
passed_all (c ∷ d ∷ ds) = ap (λ z. c ∷ z) (passed_all (d ∷ ds))

same_items : (cs : List Section) → map (λ c. c) cs ≡ cs
same_items [] = refl
same_items (c ∷ cs) = ap (λ ds. c ∷ ds) (same_items cs)

pub passed_end : (out done all : List Section) → map (λ c. c) done ≡ all → ((rest : List Section) → passed_after out rest ≡ labels_passed (done ++ rest)) →
    out ≡ labels_passed all
passed_end out done all e h = sym (passed_all out) ∙ h [] ∙ ap labels_passed (append-nil done ∙ sym (same_items done) ∙ e)
