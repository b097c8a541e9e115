-- The labels of a flat form have names.
use Rattle.std.proofs.Common.{◌≡◌, ℕ, zero, suc, ◌+◌, ◌-◌, ◌*◌, ◌<◌, ◌%◌, ◌/◌, false, cond, codes, List, [], ◌∷◌, length, get_or, Option, Some, None, refl, sym, ap, subst, ◌∙◌, arith}
use Rattle.std.specs.Prelude.{nat_lt}
use Rattle.std.proofs.lemmas.Bool.{lt-ltb, le-ltb}
use Rattle.c_tree.specs.declared.tree.Function.{Function}
use Rattle.c_tree.specs.Everywhere.{total, Everywhere}
use Rattle.c_tree.specs.Numerals.{constant}
use Rattle.c_tree.specs.Trees.{Forest}
use Rattle.c_tree.proofs.WellMoved.{everywhere_both}
use Rattle.flat_laws.specs.Pieces.{Stays}
use Rattle.flat_laws.specs.Loose.{NoArrival}
use Rattle.flat_laws.specs.Parts.{cases_of}
use Rattle.flat_laws.specs.FlatForm.{flat, coded, first_here}
use Rattle.flat_laws.specs.Source.{HasOwnCases}
use Rattle.flat_form.specs.Codes.{label_codes}
use Rattle.c_fresh_names.specs.Fresh.{numbered}
use Rattle.flat_names.specs.declared.giving.Made.{Made}
use Rattle.flat_names.specs.declared.labels.Label.{Label}
use Rattle.flat_names.specs.declared.labels.Label.TheVariants.{OfSource, OfBreak, OfContinue, OfDefault, OfCase}
use Rattle.flat_names.specs.FlatNames.{made_label, label_of, named_or, naming, chosen, used_then, label_names}
use Rattle.c_resolved_defs.specs.Within.{Each}
use Rattle.c_resolved_defs.specs.Form.{gathered, marked_label, numbers_from}
use Rattle.c_resolved_defs.specs.PrintableExpressions.{IsName}
use Rattle.c_resolved_laws.proofs.Ranged.{Marked, marked, numbers_below}
use Rattle.whole_laws.proofs.PlainLists.{each_map}
use Rattle.flat_function.proofs.FreshNames.{numbered_name, fresh_name}
use Rattle.restructure_laws.proofs.LabelCodes.{flat_has, all_marks}
use Rattle.restructure_laws.proofs.MadeLabels.{IsNameOrNone, AreLabelNames}

-- ---- codes

-- the label is there, where the source has n and its scattered switches have so many cases
abbrev pub Stands : ℕ → ℕ → Label → Type 0
Stands n cases (OfSource l) = l < n
Stands n cases (OfCase j) = j < cases
Stands n cases _ = Unit {0}

abbrev pub IsCode : ℕ → ℕ → ℕ → Type 0
IsCode n cases k = Stands n cases (label_of n k)

code_is : (n k r : ℕ) → r < 4 → label_of n (n + (4 * k + r)) ≡ made_label r k
code_is n k r h =
    let m = n + (4 * k + r) in
    let b : nat_lt m n ≡ false = le-ltb m n (omega arith) in
    let i : (m - n) % 4 ≡ r = omega (arith, h) in
    let j : (m - n) / 4 ≡ k = omega (arith, h) in
    ap (λ z. cond z (OfSource m) (made_label ((m - n) % 4) ((m - n) / 4))) b ∙ ap (λ z. made_label z ((m - n) / 4)) i ∙ ap (made_label r) j

module _ (n cases : ℕ) where
  abbrev P : ℕ → Type 0
  P k = IsCode n cases k

  made : (k r : ℕ) → r < 4 → Stands n cases (made_label r k) → P (n + (4 * k + r))
  made k r h i = subst (Stands n cases) (sym (code_is n k r h)) i

  breaks_stand : (k : ℕ) → P (n + 4 * k)
  breaks_stand k = let e : n + (4 * k + 0) ≡ n + 4 * k = omega arith in subst P e (made k 0 (omega arith) tt)

  continues_stand : (k : ℕ) → P (n + (4 * k + 1))
  continues_stand k = made k 1 (omega arith) tt

  defaults_stand : (k : ℕ) → P (n + (4 * k + 2))
  defaults_stand k = made k 2 (omega arith) tt

  cases_stand : (k : ℕ) → k < cases → P (n + (4 * k + 3))
  cases_stand k h = made k 3 (omega arith) h

  sources_stand : (l : ℕ) → l < n → P l
  sources_stand l h = subst (Stands n cases) (sym (ap (λ z. cond z (OfSource l) (made_label ((l - n) % 4) ((l - n) / 4))) (lt-ltb l n h))) h

-- each label that stands in the flat form is there
pub codes_stand : (f : Function) (body : Forest) → Everywhere HasOwnCases body → gathered marked_label body ≡ numbers_from 0 (length f.labels) →
    Each (IsCode (length f.labels) (total cases_of body)) (label_codes f body)
codes_stand f body o e =
    let n = length f.labels in
    let N = total cases_of body in
    let p = coded constant f.slots n body in
    let Q = λ (l : ℕ). IsCode n N l in
    let sources = subst (Each Q) (sym e) (each_map (λ l. l < n) Q (sources_stand n N) (numbers_from 0 n) (numbers_below 0 n n (omega arith))) in
    all_marks Q (flat p (first_here (length f.slots)) Stays Stays NoArrival body)
    (flat_has Q p N (breaks_stand n N) (continues_stand n N) (defaults_stand n N) (cases_stand n N) (first_here (length f.slots)) Stays Stays NoArrival body tt
    (everywhere_both HasOwnCases (Marked Q) body o (marked Q body sources)) (omega arith))

-- ---- names

got_or : {A : Type 0} (P : A → Type 0) (xs : List A) (k : ℕ) (d : A) → Each P xs → P d → P (get_or xs k d)
got_or P [] k d h i = i
got_or P (x ∷ xs) zero d h i = h.0
got_or P (x ∷ xs) (suc k) d h i = got_or P xs k d h.1 i

got : {A : Type 0} (P : A → Type 0) (xs : List A) (k : ℕ) (d : A) → Each P xs → k < length xs → P (get_or xs k d)
got P [] k d h i = absurd (omega (arith, i))
got P (x ∷ xs) zero d h i = h.0
got P (x ∷ xs) (suc k) d h i = got P xs k d h.1 (omega (arith, i))

module _ (labels : List (List ℕ)) (m : Made) (own : (l : ℕ) → l < length labels → IsName (get_or labels l [])) (given : AreLabelNames m) where
  or_fresh : (o : Option (List ℕ)) (base : List ℕ) (used : List (List ℕ)) → IsNameOrNone o → IsName base → IsName (chosen (named_or o base) used)
  or_fresh None base used h n = fresh_name used base n
  or_fresh (Some w) base used h n = h

  label_named : (x : Label) (used : List (List ℕ)) → Stands (length labels) (length m.cases) x → IsName (chosen (naming labels m x) used)
  label_named (OfSource l) used h = own l h
  label_named (OfBreak k) used h = or_fresh (get_or m.breaks k None) (numbered (codes "break") (k + 1)) used
      (got_or IsNameOrNone m.breaks k None given.breaks tt) (numbered_name (codes "break") (k + 1) refl)
  label_named (OfContinue k) used h = fresh_name used (numbered (codes "continue") (k + 1)) (numbered_name (codes "continue") (k + 1) refl)
  label_named (OfDefault k) used h = or_fresh (get_or m.defaults k None) (numbered (codes "default") (k + 1)) used
      (got_or IsNameOrNone m.defaults k None given.defaults tt) (numbered_name (codes "default") (k + 1) refl)
  label_named (OfCase j) used h = got IsName m.cases j [] given.cases h

  pub labels_have_names : (used : List (List ℕ)) (ks : List ℕ) → Each (IsCode (length labels) (length m.cases)) ks → Each IsName (label_names labels m used ks)
  labels_have_names used [] h = tt
  labels_have_names used (k ∷ ks) h = (
    label_named (label_of (length labels) k) used h.0,
    labels_have_names (used_then (naming labels m (label_of (length labels) k)) used) ks h.1,
  )
