-- The body of a resolved function is what reading its text needs.
use Rattle.std.proofs.Common.{◌≡◌, ◌≤◌, ◌<◌, ◌+◌, ◌-◌, ℕ, zero, suc, List, [], ◌∷◌, map, length, drop, Some, refl, ap, sym, subst, ◌∙◌, arith}
use Rattle.std.specs.Prelude.{slice_get}
use Rattle.std.specs.Option.{option_map_or}
use Rattle.c_tree.specs.declared.tree.Slot.{Slot}
use Rattle.c_tree.specs.declared.tree.Function.{Function}
use Rattle.c_tree.specs.declared.tree.Item.{Item}
use Rattle.c_tree.specs.declared.tree.Top.{Top}
use Rattle.c_tree.specs.Trees.{Nil, trees_of}
use Rattle.c_tree.specs.Exits.{breaks, continues}
use Rattle.c_tree.specs.InRange.{body_of}
use Rattle.c_tree.specs.TextItems.{label_name}
use Rattle.c_kinds.specs.Scopes.{found}
use Rattle.c_statements.specs.Context.{Context, no_construct}
use Rattle.c_resolved_defs.specs.Within.{Each}
use Rattle.c_resolved_defs.specs.Form.{gathered, marked_label, numbers_from, HasSourceForm}
use Rattle.c_resolved_defs.specs.Kinds.{ItemAgrees, ReturnFits, KeepsConsts}
use Rattle.c_resolved_defs.specs.Switches.{HasCases}
use Rattle.c_resolved_defs.specs.Files.{IsLength, AreLengths}
use Rattle.c_resolved_defs.specs.Limits.{FlatCounts}
use Rattle.c_resolved_defs.specs.PrintableStatements.{ItemsPrint}
use Rattle.c_resolved_defs.specs.Scopes.{Scope, AreBound}
use Rattle.c_resolved_defs.specs.Resolved.{names_in, IsInitialised, IsResolvedFunction}
use Rattle.reread_parts_laws.specs.GoodItems.{slots_in, AreGood}
use Rattle.reread_parts_laws.proofs.GoodGiven.{Both, both_everywhere, Exits, good_in, slots_counted}
use Rattle.c_tree.specs.TextPieces.{Piece}
use Rattle.c_tree.specs.TextItems.{braced, printed}
use Rattle.c_grammar.specs.Statements.{NoItems}
use Rattle.c_grammar.specs.Tops as tops
use Rattle.c_statements.specs.declared.anchors.Anchor.{Anchor}
use Rattle.c_statements.specs.Context.{Walk}
use Rattle.c_statements.specs.Functions.{result_kind, context}
use Rattle.c_statements.specs.Labels.{numbers, distinct, body_labels}
use Rattle.c_resolved_defs.specs.Within.{AllDiffer}
use Rattle.print_laws.specs.Reread.{Spelling}
use Rattle.print_laws.specs.Standing.{Stands}
use Rattle.print_laws.specs.StatementDerivations.{items_of}
use Rattle.reread_parts_laws.specs.Words.{AreWords}
use Rattle.reread_parts_laws.specs.Places.{Standing}
use Rattle.reread_parts_laws.specs.WrittenStatements.{written_block}
use Rattle.reread_parts_laws.specs.PlacedNotes.{NotesOfBody}
use Rattle.reread_parts_laws.specs.Laws.{BodyReads, IsBody, ResolvedBodyReads}
use Rattle.reread_parts_laws.proofs.BodyRead.{body_reads}
use Rattle.reread_parts_laws.proofs.LabelNumbers.{labels_found, distinct_is, none_twice, names_are}

-- lengths of slots behind the parameters
length_at : (xs : List Slot) (k : ℕ) (s : Slot) → AreLengths IsLength xs → slice_get xs k ≡ Some s → IsLength s.cells
length_at [] k s h e = cc
length_at (x ∷ xs) zero s h e = let f : x ≡ s = cc in subst (λ r. IsLength r.cells) f (h.0)
length_at (x ∷ xs) (suc k) s h e = length_at xs k s (h.1) e

behind : (xs : List Slot) (p k : ℕ) → p ≤ k → slice_get (drop p xs) (k - p) ≡ slice_get xs k
behind xs zero k h = let e : k - 0 ≡ k = omega arith in ap (slice_get xs) e
behind [] (suc p) k h = refl
behind (x ∷ xs) (suc p) zero h = absurd (omega (arith, h))
behind (x ∷ xs) (suc p) (suc k) h = let e : suc k - suc p ≡ k - p = omega arith in ap (slice_get (drop p xs)) e ∙ behind xs p k (omega (arith, h))

pub counted : (k n : ℕ) → length (numbers_from k n) ≡ n
counted k zero = refl
counted k (suc n) = ap suc (counted (suc k) n)

all_below : (k n m : ℕ) → k + n ≤ m → Each (λ l. l < m) (numbers_from k n)
all_below k zero m h = tt
all_below k (suc n) m h = (omega (arith, h), all_below (suc k) n m (omega (arith, h)))

no_exits : (b c : ℕ) → b + c ≡ 0 → Exits no_construct b c
no_exits b c h = record { breaks_are = λ e. omega (arith, h); continues_are = λ e. omega (arith, h) }

module _ (counts : FlatCounts) (ts : List Top) (f : Function) (ctx : Context) (r : IsResolvedFunction counts ts f) (result : ctx.result ≡ f.result)
    (labels : (l : ℕ) → l < length f.labels → found (label_name f l) ctx.labels ≡ Some l) where
  pub body_good : (ss : List Scope) → ItemsPrint f (body_of f) → AreBound f.slots ss (body_of f) →
      AreGood (names_in ts f) f ctx ss f.params no_construct (body_of f)
  body_good ss p b =
      let xs = body_of f in
      let nm = names_in ts f in
      let form = r.form in
      let one = both_everywhere (HasSourceForm f) (ItemAgrees nm) xs form.items r.kinds in
      let two = both_everywhere (Both (HasSourceForm f) (ItemAgrees nm)) (ReturnFits f.result) xs one r.returns in
      let three = both_everywhere (Both (Both (HasSourceForm f) (ItemAgrees nm)) (ReturnFits f.result)) HasCases xs two r.cases in
      let four = both_everywhere (Both (Both (Both (HasSourceForm f) (ItemAgrees nm)) (ReturnFits f.result)) HasCases) (KeepsConsts nm) xs three r.consts in
      let all = both_everywhere (Both (Both (Both (Both (HasSourceForm f) (ItemAgrees nm)) (ReturnFits f.result)) HasCases) (KeepsConsts nm))
      (IsInitialised f.slots) xs four r.initialised in
      let count : slots_in xs ≡ length f.slots - f.params = sym (slots_counted xs) ∙ ap length form.slots ∙ counted f.params (length f.slots - f.params) in
      good_in ts f ctx result labels (λ k s low e. length_at (drop f.params f.slots) (k - f.params) s r.lengths.others
      (behind f.slots f.params k low ∙ e)) xs ss f.params no_construct all p b
      (form.slots ∙ ap (numbers_from f.params) (sym count)) (subst (λ ls. Each (λ l. l < length f.labels) ls) (sym form.labels)
      (all_below 0 (length f.labels) (length f.labels) (omega arith))) (omega arith)
      (no_exits (breaks xs) (continues xs) form.exits)

-- ---- it reads back

module _ (counts : FlatCounts) (ts : List Top) (f : Function) (word : ℕ → List ℕ) (notes : Anchor → List (List ℕ)) (x : tops.Function)
    (tokens : List Spelling) where
  -- with the labels of the function itself
  abbrev own : Context
  own = record { word = word; notes = notes; labels = numbers f.labels; result = f.result }

  pub resolved_reads : (ss : List Scope) (w : Walk) (at depth : ℕ) (body : List Item) (ps : List Piece) → IsBody counts ts f ss body →
      AreWords word tokens → result_kind word x ≡ f.result → Standing (names_in ts f) ss f.params w
      → NotesOfBody f.slots notes at (trees_of body) → Stands tokens at (braced (map (printed f) body) depth ps) →
      ResolvedBodyReads ts f word notes x tokens ss w at body ps
  resolved_reads ss w at depth body ps h words result st p b =
      let e : body_of f ≡ trees_of body = ap (λ o. option_map_or trees_of o Nil) (h.is) in
      let g = subst (λ xs. AreGood (names_in ts f) f own ss f.params no_construct xs) e
      (body_good counts ts f own (h.resolved) refl (λ l k. labels_found f.labels (h.labels) l k) ss (subst (ItemsPrint f) (sym e) (h.prints))
      (subst (AreBound f.slots ss) (sym e) (h.bound))) in
      let r = body_reads ts f own tokens words ss f.params w at depth body ps st g p b in
      let block = written_block at (items_of f.slots (trees_of body) NoItems) in
      let marks : gathered marked_label (trees_of body) ≡ numbers_from 0 (length f.labels) = ap (gathered marked_label) (sym e) ∙ h.resolved.form.labels in
      let names : map word (body_labels block []) ≡ f.labels = r.labels ∙ ap (map (label_name f)) marks ∙ names_are f.labels in
      let same : context word notes x block ≡ own = λ i. record { word = word; notes = notes; labels = numbers (names i); result = result i } in
      record {
        reads = subst (λ c. BodyReads ts f c tokens ss f.params w at body ps) (sym same) r;
        names = ap distinct names ∙ distinct_is f.labels (h.labels);
        once = λ vs. none_twice word (body_labels block []) vs (subst AllDiffer (sym names) (h.labels));
      }
