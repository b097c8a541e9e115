-- The printed text of a resolved function reads back as the function.
use Rattle.std.proofs.Common.{◌≡◌, ◌≤◌, ◌+◌, ◌-◌, ℕ, zero, suc, Bool, true, false, List, [], ◌∷◌, map, length, take, drop, Option, Some, None, is_some, refl, ap, sym, subst, ◌∙◌, arith}
use Rattle.std.specs.Prelude.{codes, option_map, slice_get}
use Rattle.std.specs.Option.{option_map_or}
use Rattle.c_types.specs.declared.kinds.IntKind.{IntKind}
use Rattle.c_tree.specs.declared.tree.Slot.{Slot}
use Rattle.c_tree.specs.declared.tree.Function.{Function}
use Rattle.c_tree.specs.declared.tree.Item.{Item}
use Rattle.c_tree.specs.declared.tree.Top.{Top}
use Rattle.c_tree.specs.Trees.{Nil, trees_of}
use Rattle.c_tree.specs.InRange.{body_of}
use Rattle.c_grammar.specs.Words.{kind_of}
use Rattle.c_tree.specs.TextPieces.{Piece, ◌⨾◌, space, newline, word, punctuator, only_if}
use Rattle.c_tree.specs.TextExpressions.{result_text}
use Rattle.c_tree.specs.Text.{parameters_text, body_text, function_text}
use Rattle.c_grammar.specs.Statements.{NoItems}
use Rattle.c_grammar.specs.StatementSyntax.{word_end}
use Rattle.c_grammar.specs.Files as files
use Rattle.c_grammar.specs.FileSyntax.{parameters_end, result_end, function_end}
use Rattle.c_grammar.specs.Tops as tops
use Rattle.c_kinds.specs.Scopes.{Faults}
use Rattle.c_kinds.specs.Scopes as kinds
use Rattle.c_statements.specs.declared.anchors.Anchor.{Anchor}
use Rattle.c_statements.specs.Context.{Context, Walk}
use Rattle.c_statements.specs.Labels.{body_labels, twice_faults}
use Rattle.c_resolved_defs.specs.PrintableStatements.{ItemsPrint}
use Rattle.reread_parts_laws.specs.Keywords.{FunctionHasKeywords}
use Rattle.reread_parts_laws.specs.PlacedNotes.{NotesOfBody}
use Rattle.c_statements.specs.Functions.{bind_parameters, tangle_fault, body_faults, result_kind, context, want_of, function_of, function_faults}
use Rattle.c_resolved_defs.specs.Within.{Each}
use Rattle.c_resolved_defs.specs.Names.{Names}
use Rattle.c_resolved_defs.specs.Files.{IsParameterLength, AreLengths}
use Rattle.c_resolved_defs.specs.Limits.{FlatCounts}
use Rattle.c_resolved_defs.specs.Scopes.{Scope, inside, AreNewParameters, BodyIsBound, with_parameters, bind_parameter}
use Rattle.c_resolved_defs.specs.Spelling.{HasName}
use Rattle.c_resolved_defs.specs.PrintablePrograms.{MaybeBody}
use Rattle.c_resolved_defs.specs.Resolved.{names_in}
use Rattle.print_laws.specs.Reread.{Spelling}
use Rattle.print_laws.specs.Standing.{Stands}
use Rattle.print_laws.specs.ExpressionDerivations.{type_of}
use Rattle.print_laws.specs.StatementDerivations.{items_of}
use Rattle.print_laws.specs.FileDerivations.{parameters_of}
use Rattle.print_laws.specs.FileDerivations as derivation
use Rattle.reread_parts_laws.specs.WrittenStatements.{written_block}
use Rattle.reread_parts_laws.specs.WrittenFunctions.{result_words, written_function}
use Rattle.reread_parts_laws.specs.Words.{AreWords}
use Rattle.reread_parts_laws.specs.Bindings.{AreSameScopes}
use Rattle.reread_parts_laws.specs.Places.{Standing}
use Rattle.reread_parts_laws.specs.GoodItems.{slots_in}
use Rattle.reread_parts_laws.specs.Laws.{IsBody, IsFunction, NotesOfFunction, body_at, measured, wants_in, FunctionReads}
use Rattle.reread_parts_laws.proofs.ExpressionWords.{word_here, mark_here, result_here, ResultIsSpelled}
use Rattle.reread_parts_laws.proofs.ExpressionWords as words
use Rattle.reread_parts_laws.proofs.Marks.{kind_is}
use Rattle.reread_parts_laws.proofs.GoodGiven.{slots_counted}
use Rattle.reread_parts_laws.proofs.BodyGiven.{counted, resolved_reads}
use Rattle.reread_parts_laws.proofs.ParametersRead.{AreParameters, behind_parameters, all_read}

-- a context of which only the words count
abbrev prototype_context : (ℕ → List ℕ) → tops.Function → Context
prototype_context word f = record { word = word; notes = λ anchor. []; labels = []; result = result_kind word f }

-- ---- lists

take_all : (xs : List Slot) (k : ℕ) → k ≡ length xs → take k xs ≡ xs
take_all xs k e = ap (λ i. take i xs) e ∙ whole xs
  where
    whole : (ys : List Slot) → take (length ys) ys ≡ ys
    whole [] = refl
    whole (y ∷ ys) = ap (λ l. y ∷ l) (whole ys)

took : (k : ℕ) (xs : List Slot) → k ≤ length xs → length (take k xs) ≡ k
took zero xs h = refl
took (suc k) [] h = absurd (omega (arith, h))
took (suc k) (x ∷ xs) h = ap suc (took k xs (omega (arith, h)))

at_drop : (k : ℕ) (xs : List Slot) (s : Slot) (rest : List Slot) → drop k xs ≡ s ∷ rest → (slice_get xs k ≡ Some s) × (drop (suc k) xs ≡ rest)
at_drop zero [] s rest e = cc
at_drop (suc k) [] s rest e = cc
at_drop zero (x ∷ xs) s rest e = (head x s xs rest e, tail x s xs rest e)
  where
    head : (x s : Slot) (xs rest : List Slot) → x ∷ xs ≡ s ∷ rest → Some x ≡ Some s
    head x s xs rest e = cc

    tail : (x s : Slot) (xs rest : List Slot) → x ∷ xs ≡ s ∷ rest → xs ≡ rest
    tail x s xs rest e = cc
at_drop (suc k) (x ∷ xs) s rest e = at_drop k xs s rest e

-- ---- parameters

module _ (n : Names) (ctx : Context) (tokens : List Spelling) (here : AreWords ctx.word tokens) where
  parameters_good : (m : ℕ) (xs : List Slot) (k : ℕ) (ss : List Scope) (defines : Bool) → drop k n.slots ≡ xs → AreNewParameters m k xs ss →
      AreLengths IsParameterLength (take m xs) → (defines ≡ true → Each HasName (take m xs))
      → AreParameters n ctx tokens here ss k (take m xs) defines
  parameters_good zero xs k ss defines e h l d = tt
  parameters_good (suc m) [] k ss defines e h l d = tt
  parameters_good (suc m) (s ∷ xs) k ss defines e h l d =
      let q = at_drop k n.slots s xs e in (
        record { slot_is = q.0; lengths = l.0; new = h.0; named = λ x. (d x).0 },
        parameters_good m xs (suc k) (bind_parameter s.name k ss) defines (q.1) (h.1) (l.1) (λ x. (d x).1),
      )

  parameters_scopes : (m : ℕ) (xs : List Slot) (k : ℕ) (ss : List Scope) → behind_parameters n ctx tokens here ss k (take m xs) ≡ with_parameters m k xs ss
  parameters_scopes zero xs k ss = refl
  parameters_scopes (suc m) [] k ss = refl
  parameters_scopes (suc m) (s ∷ xs) k ss = parameters_scopes m xs (suc k) (bind_parameter s.name k ss)

-- ---- the head of a function

pub static_read : (slots : List Slot) (tokens : List Spelling) (the_word : ℕ → List ℕ) → AreWords the_word tokens →
    (b : Bool) (at : ℕ) (ps : List Piece) → Stands tokens at ((only_if b (word (codes "static") ⨾ space)) ps) → Stands tokens (word_end at b) ps
static_read slots tokens the_word here true at ps s = (word_here slots tokens the_word here at (codes "static") (space ps) s).1
static_read slots tokens the_word here false at ps s = s

result_ends : (at : ℕ) (o : Option IntKind) → words.result_end at o ≡ result_end at (option_map type_of o)
result_ends at None = refl
result_ends at (Some kind) = refl

result_is : (the_word : ℕ → List ℕ) (at : ℕ) (o : Option IntKind) → ResultIsSpelled the_word at o →
    option_map (kind_of the_word) (result_words at (option_map type_of o)) ≡ o
result_is the_word at None h = refl
result_is the_word at (Some kind) h = ap Some (kind_is the_word kind at h)

module _ (counts : FlatCounts) (ts : List Top) (f : Function) (the_word : ℕ → List ℕ) (notes : Anchor → List (List ℕ)) (tokens : List Spelling)
    (ss : List Scope) (scopes : List kinds.Scope) (at : ℕ)
    (h : IsFunction counts ts f ss) (here : AreWords the_word tokens) (same : AreSameScopes (names_in ts f) ss scopes) where
  abbrev nm : Names
  nm = names_in ts f

  abbrev p0 : ℕ
  p0 = word_end at f.file_only

  abbrev p1 : ℕ
  p1 = result_end p0 (option_map type_of f.result)

  abbrev params : List Slot
  params = take f.params f.slots

  abbrev p2 : ℕ
  p2 = parameters_end (p1 + 1 + 1) (parameters_of params)

  -- what is read, by its body
  abbrev derived : Option (List Item) → files.Function
  derived o = files.Defined f.file_only (option_map type_of f.result) (parameters_of params) (derivation.body_of f.slots o)

  abbrev source : Option (List Item) → tops.Function
  source o = written_function the_word at (derived o)

  abbrev w0 : Walk
  w0 = record { scopes = [] ∷ scopes; slots = [] }

  outside : Standing nm (inside ss) 0 w0
  outside = record { inside = tt; same = (λ m. refl, same); slots_are = refl; count = refl }

  record HeadRead (ps : List Piece) (o : Option (List Item)) : Type 0 where
    result : result_kind the_word (source o) ≡ f.result
    name : the_word p1 ≡ f.name
    behind_it : Stands tokens (p2 + 1) ((body_text f o ⨾ newline) ps)
    brackets : Stands tokens (p1 + 1 + 1) (parameters_text params (punctuator (codes ")") ((body_text f o ⨾ newline) ps)))

  head_read : (o : Option (List Item)) (ps : List Piece)
      → Stands tokens at ((only_if f.file_only (word (codes "static") ⨾ space) ⨾ result_text f.result ⨾ space ⨾ word f.name ⨾ punctuator
      (codes "(") ⨾ parameters_text params ⨾ punctuator (codes ")") ⨾ body_text f o ⨾ newline) ps) → HeadRead ps o
  head_read o ps b =
      let q4 = (body_text f o ⨾ newline) ps in
      let q3 = punctuator (codes ")") q4 in
      let q2 = parameters_text params q3 in
      let q1 = word f.name (punctuator (codes "(") q2) in
      let b0 = static_read f.slots tokens the_word here f.file_only at (result_text f.result (space q1)) b in
      let r = result_here f.slots tokens the_word here f.result p0 (space q1) b0 in
      let b1 = subst (λ i. Stands tokens i q1) (result_ends p0 f.result) (r.1) in
      let m = word_here f.slots tokens the_word here p1 f.name (punctuator (codes "(") q2) b1 in
      let b2 = (mark_here f.slots tokens the_word here (p1 + 1) (codes "(") q2 (m.1)).1 in
      let ctx = prototype_context the_word (source o) in
      let all = all_read nm ctx tokens here params (p1 + 1 + 1) q3 b2 in
      record {
        result = result_is the_word p0 f.result (r.0);
        name = m.0;
        behind_it = (mark_here f.slots tokens the_word here p2 (codes ")") q4 (all.behind_it)).1;
        brackets = b2;
      }

  few : f.params ≤ length f.slots
  few = h.resolved.form.parameters

  params_count : length params ≡ f.params
  params_count = took f.params f.slots few

  params_good : (ctx : Context) (words_in : AreWords ctx.word tokens) (defines : Bool) → (defines ≡ true → is_some f.body ≡ true) →
      AreParameters nm ctx tokens words_in (inside ss) 0 params defines
  params_good ctx words_in defines d = parameters_good nm ctx tokens words_in f.params f.slots 0 (inside ss) defines refl h.parameters
      h.resolved.lengths.parameters (λ x. h.spelled.all_named (d x))

  -- as FunctionReads, by the body
  record At (o : Option (List Item)) (ps : List Piece) : Type 0 where
    keywords : FunctionHasKeywords the_word at (derived o)
    function_is : function_of the_word notes (source o) scopes ≡ f
    name : the_word p1 ≡ f.name
    result : result_kind the_word (source o) ≡ f.result
    wants : (external : Bool) → map (want_of the_word external) (source o).parameters ≡ wants_in external params
    clear : (flat : List Item → Option (ℕ × ℕ)) (vs : Faults) → function_faults flat the_word notes (source o) scopes vs ≡ measured flat the_word
        (source o) (source o).body o vs
    behind_it : Stands tokens (function_end at (derived o)) ps

  prototype : (ps : List Piece) → f.body ≡ None → HeadRead ps None → At None ps
  prototype ps e head =
      let ctx = prototype_context the_word (source None) in
      let all = all_read nm ctx tokens here params (p1 + 1 + 1) _ (head.brackets) in
      let p = all.all (inside ss) 0 w0 false outside (params_good ctx here false (λ x. cc)) in
      let form = h.resolved.form.prototype (ap is_some e) in
      let count : 0 + length params ≡ length f.slots = let a = params_count in let b = form.0 in omega (arith, a, b) in
      let slots = p.standing.slots_are ∙ take_all f.slots (0 + length params) count in
      record {
        keywords = tt;
        function_is = λ i. record {
          name = head.name i;
          result = head.result i;
          file_only = f.file_only;
          params = (p.count ∙ params_count) i;
          slots = slots i;
          labels = sym (form.1) i;
          body = sym e i;
          flat = sym h.resolved.form.unflat i;
        };
        name = head.name;
        result = head.result;
        wants = p.wants;
        clear = λ flat vs. p.clear vs;
        behind_it = (mark_here f.slots tokens the_word here (p2 + 1) (codes ";") (newline ps) (head.behind_it)).1;
      }

  prints_of : (body : List Item) → f.body ≡ Some body → ItemsPrint f (trees_of body)
  prints_of body e = (subst (MaybeBody f) e h.prints.body).items

  slots_all : (body : List Item) → f.body ≡ Some body → f.params + slots_in (trees_of body) ≡ length f.slots
  slots_all body e =
      let xs : body_of f ≡ trees_of body = ap (λ o. option_map_or trees_of o Nil) e in
      let c : slots_in (trees_of body) ≡ length f.slots - f.params
      = ap slots_in (sym xs) ∙ sym (slots_counted (body_of f)) ∙ ap length h.resolved.form.slots ∙ counted f.params (length f.slots - f.params) in
      omega (arith, c, few)

  definition : (body : List Item) (ps : List Piece) → f.body ≡ Some body → NotesOfBody f.slots notes (p2 + 1) (trees_of body) →
      HeadRead ps (Some body) → At (Some body) ps
  definition body ps e notes_here head =
      let x = source (Some body) in
      let block = written_block (p2 + 1) (items_of f.slots (trees_of body) NoItems) in
      let ctx = context the_word notes x block in
      let all = all_read nm ctx tokens here params (p1 + 1 + 1) _ (head.brackets) in
      let p = all.all (inside ss) 0 w0 true outside (params_good ctx here true (λ y. ap is_some e)) in
      let w = bind_parameters the_word x.parameters w0 in
      let rs = with_parameters f.params 0 f.slots (inside ss) in
      let k : 0 + length params ≡ f.params = let a = params_count in omega (arith, a) in
      let st : Standing nm rs f.params w = subst (λ z. Standing nm z f.params w) (parameters_scopes nm ctx tokens here f.params f.slots 0 (inside ss))
      (subst (λ i. Standing nm (behind_parameters nm ctx tokens here (inside ss) 0 params) i w) k (p.standing)) in
      let is_body : IsBody counts ts f rs body = record {
        is = e;
        resolved = h.resolved;
        labels = h.spelled.labels;
        prints = prints_of body e;
        bound =
            subst (BodyIsBound f ss) e h.bound;
      } in
      let r = resolved_reads counts ts f the_word notes x tokens rs w (p2 + 1) 0 body (newline ps) is_body here (head.result) st notes_here (head.behind_it) in
      let slots = r.reads.standing.slots_are ∙ take_all f.slots (f.params + slots_in (trees_of body)) (slots_all body e) in
      record {
        keywords = r.reads.keywords;
        function_is = λ i. record {
          name = head.name i;
          result = head.result i;
          file_only = f.file_only;
          params = (p.count ∙ params_count) i;
          slots = slots i;
          labels = r.names i;
          body = (ap Some r.reads.items ∙ sym e) i;
          flat = sym h.resolved.form.unflat i;
        };
        name = head.name;
        result = head.result;
        wants = p.wants;
        clear = λ flat vs.
            (λ i. tangle_fault flat the_word x block (r.reads.items i) (body_faults ctx block w (twice_faults the_word (body_labels block []) (p.clear vs i))))
            ∙ (λ i. tangle_fault flat the_word x block body (body_faults ctx block w (r.once vs i))) ∙
            (λ i. tangle_fault flat the_word x block body (r.reads.clear vs i));
        behind_it = r.reads.behind;
      }

  by_body : (o : Option (List Item)) (ps : List Piece) → f.body ≡ o → NotesOfFunction f notes (p2 + 1) o → HeadRead ps o → At o ps
  by_body None ps e q head = prototype ps e head
  by_body (Some body) ps e q head = definition body ps e q head

  pub function_reads : (ps : List Piece) → NotesOfFunction f notes (body_at at f) f.body → Stands tokens at (function_text f ps) →
      FunctionReads f the_word notes tokens scopes at ps
  function_reads ps q b =
      let r = by_body f.body ps refl q (head_read f.body ps b) in
      record { keywords = r.keywords; function = r.function_is; name = r.name; result = r.result; wants = r.wants; clear = r.clear; behind = r.behind_it }
