-- The comments of the printed text of a program stand where its Notes are printed.
use Rattle.std.proofs.Common.{◌≡◌, ◌≤◌, ◌<◌, ◌+◌, ◌*◌, ℕ, List, [], ◌∷◌, ◌++◌, length, take, Option, Some, None, ap, sym, subst, ◌∙◌, arith, append_assoc}
use Rattle.std.specs.Prelude.{option_map}
use Rattle.std.specs.Option.{option_map_or}
use Rattle.std.proofs.lemmas.List.{append-nil}
use Rattle.c_tree.specs.declared.tree.Function.{Function}
use Rattle.c_tree.specs.declared.tree.Item.{Item}
use Rattle.c_tree.specs.declared.tree.Top.{Top}
use Rattle.c_tree.specs.declared.tree.Top.TheVariants as T
use Rattle.c_tree.specs.Everywhere.{Everywhere}
use Rattle.c_tree.specs.Trees.{Nil, trees_of}
use Rattle.c_tree.specs.InRange.{body_of}
use Rattle.c_grammar.specs.declared.class.Class.{Class}
use Rattle.c_grammar.specs.declared.class.Class.TheVariants as c
use Rattle.c_grammar.specs.Statements.{NoItems}
use Rattle.c_grammar.specs.Files.{Line, OfEnum, OfDeclaration, OfFunction, file_tokens}
use Rattle.c_grammar.specs.FileSyntax.{function_end, body_end, top_end}
use Rattle.c_grammar.specs.Tops as tops
use Rattle.c_statements.specs.declared.anchors.Anchor.{Anchor}
use Rattle.c_statements.specs.declared.anchors.Anchor.TheVariants.{Before, Last}
use Rattle.c_comments.specs.Notes.{place_in, form_place, function_place}
use Rattle.c_resolved_defs.specs.Form.{HasSourceForm}
use Rattle.print_laws.specs.Reread.{Comments}
use Rattle.print_laws.specs.Notes.{body_notes, tops_notes}
use Rattle.print_laws.specs.StatementDerivations.{items_of}
use Rattle.print_laws.specs.ExpressionDerivations.{type_of}
use Rattle.print_laws.specs.FileDerivations.{enumeration_of, global_of, parameters_of, function_of, tops_of}
use Rattle.print_laws.specs.FileDerivations as derivation
use Rattle.reread_parts_laws.specs.WrittenStatements.{written_items}
use Rattle.reread_parts_laws.specs.WrittenFunctions.{written_function, written_function_body}
use Rattle.reread_parts_laws.specs.WrittenFiles.{written_form, written_tops}
use Rattle.reread_parts_laws.specs.Laws.{NotesOfFunction, body_at}
use Rattle.reread_program_laws.specs.Notes.{NotesOfTops}
use Rattle.reread_program_laws.proofs.Lengths.{body_later, top_reaches, top_later}
use Rattle.reread_program_laws.proofs.Chosen.{Placed, number, placed_by, all_at, one_on, Ranged, Agrees, ranged_wider, ranged_both, ranged_all, outside_before, outside_behind, outside_both, agrees_part, agrees_last, agrees_at, Told, told_wider, told_none}
use Rattle.reread_program_laws.proofs.PlacesOn.{place_less, place_not_less, place_most, place_not_most, in_braces}
use Rattle.reread_program_laws.proofs.NotesTold.{block_to, body_told}

-- the functions have the form of a source
abbrev pub TopIsFormed : Top → Type 0
TopIsFormed (T.Function f) = Everywhere (HasSourceForm f) (body_of f)
TopIsFormed _ = Unit {0}

abbrev pub AreFormed : List Top → Type 0
AreFormed [] = Unit {0}
AreFormed (x ∷ xs) = TopIsFormed x × AreFormed xs

module _ (word : ℕ → List ℕ) (P : ℕ → Anchor) (count : ℕ) where
  -- the tokens from a number on have the places of what stands there
  abbrev pub On : ℕ → List Top → Type 0
  On at xs = (t : ℕ) → at ≤ t → P t ≡ place_in (written_tops word at (tops_of xs)) t

  abbrev pub last : ℕ
  last = 2 * count

  abbrev pub hi : ℕ
  hi = 2 * count + 1

  abbrev pub found : Comments → List Placed
  found n = placed_by P count n

  abbrev Facts : Type 1
  Facts = (Anchor → List (List ℕ)) → Type 0

  abbrev whole : List (List ℕ) → ℕ → Comments → List Placed
  whole noted at n = all_at (P at) noted ++ found n

  pub record TopsTold (noted : List (List ℕ)) (at : ℕ) (n : Comments) (Fact : Facts) : Type 0 where
    pub ranged : Ranged last (2 * at) hi (whole noted at n)
    pub holds : (notes : Anchor → List (List ℕ)) → Agrees last notes (2 * at) hi (whole noted at n) → Fact notes

  -- ---- one more

  -- its first token, and its others
  top_first : (at end : ℕ) (x : tops.Form) (xs : List tops.Top) → at < end → ((t : ℕ) → at ≤ t → P t ≡ place_in (tops.From at end x ∷ xs) t) → P at ≡ Before at
  top_first at end x xs h o = o at (omega arith) ∙ place_less at end _ _ h ∙ place_most at at _ _ (omega arith)

  top_inner : (at end t : ℕ) (x : tops.Form) (xs : List tops.Top) → ((t : ℕ) → at ≤ t → P t ≡ place_in (tops.From at end x ∷ xs) t) → at < t →
      t < end → P t ≡ form_place at x t
  top_inner at end t x xs o h k = o t (omega (arith, h)) ∙ place_less t end _ _ k ∙ place_not_most t at _ _ h

  top_rest : (at end : ℕ) (x : tops.Form) (xs : List tops.Top) → at ≤ end → ((t : ℕ) → at ≤ t → P t ≡ place_in (tops.From at end x ∷ xs) t) →
      (t : ℕ) → end ≤ t → P t ≡ place_in xs t
  top_rest at end x xs h o t k = o t (omega (arith, h, k)) ∙ place_not_less t end _ _ k

  top_step : (noted : List (List ℕ)) (at end : ℕ) (tell : Comments → Comments) (n : Comments) (Q R : Facts) → P at ≡ Before at → at < end →
      end ≤ count → Told last found (2 * at + 1) (2 * end) tell Q → TopsTold [] end n R
      → TopsTold noted at (tell n) (λ notes. (notes (Before at) ≡ noted) × Q notes × R notes)
  top_step noted at end tell n Q R p less most x r =
      let front = all_at (Before at) noted in
      let is : whole noted at (tell n) ≡ front ++ (x.here ++ found n) = ap (λ a. all_at a noted ++ found (tell n)) p ∙ ap (λ l. front ++ l) (x.tells n) in
      let rf = ranged_all last (2 * at) (2 * at + 1) (Before at) (omega arith, omega arith) noted in
      let rx = x.ranged in
      let rr = r.ranged in
      let all = x.here ++ found n in
      record {
        ranged =
            subst (Ranged last (2 * at) hi) (sym is)
            (ranged_both last (2 * at) hi front all (ranged_wider last (2 * at) (2 * at + 1) (2 * at) hi (omega arith) (omega (arith, less, most)) front rf)
            (ranged_both last (2 * at) hi x.here (found n) (ranged_wider last (2 * at + 1) (2 * end) (2 * at) hi (omega arith) (omega (arith, most))
            x.here rx) (ranged_wider last (2 * end) hi (2 * at) hi (omega (arith, less)) (omega arith) (found n) rr)));
        holds = λ notes g.
            let h = subst (Agrees last notes (2 * at) hi) is g in (
              agrees_at last notes (2 * at) hi [] (Before at) noted all h (omega arith, omega (arith, less, most)) tt
                  (outside_both last (2 * at) (2 * at + 1) x.here (found n)
                  (outside_before last (2 * at + 1) (2 * end) (2 * at) (2 * at + 1) (omega arith) x.here rx)
                  (outside_before last (2 * end) hi (2 * at) (2 * at + 1) (omega (arith, less)) (found n) rr)),
              x.holds notes
                  (agrees_part last notes (2 * at) hi (2 * at + 1) (2 * end) front x.here (found n) h (omega arith) (omega (arith, most))
                  (outside_behind last (2 * at) (2 * at + 1) (2 * at + 1) (2 * end) (omega arith) front rf)
                  (outside_before last (2 * end) hi (2 * at + 1) (2 * end) (omega arith) (found n) rr)),
              r.holds notes
                  (agrees_last last notes (2 * at) hi (2 * end) hi (front ++ x.here) (found n)
                  (subst (Agrees last notes (2 * at) hi) (sym (append_assoc front x.here (found n))) h) (omega (arith, less)) (omega arith)
                  (outside_both last (2 * end) hi front x.here (outside_behind last (2 * at) (2 * at + 1) (2 * end) hi (omega (arith, less)) front rf)
                  (outside_behind last (2 * at + 1) (2 * end) (2 * end) hi (omega arith) x.here rx))),
            );
      }

  told_to : (noted : List (List ℕ)) (at : ℕ) (n : Comments) (Q R : Facts) → ((notes : Anchor → List (List ℕ)) → Q notes → R notes) →
      TopsTold noted at n Q → TopsTold noted at n R
  told_to noted at n Q R f t = record { ranged = t.ranged; holds = λ notes g. f notes (t.holds notes g) }

  -- a top without Notes of its own
  plain_step : (noted : List (List ℕ)) (at end : ℕ) (n : Comments) (R : Facts) → P at ≡ Before at → at < end → end ≤ count → TopsTold [] end n R →
      TopsTold noted at n (λ notes. (notes (Before at) ≡ noted) × R notes)
  plain_step noted at end n R p less most r =
      told_to noted at n _ _ (λ notes h. (h.0, h.2)) (top_step noted at end (λ m. m) n (λ notes. Unit {0}) R p less most
      (told_none last found (2 * at + 1) (2 * end) (λ notes. Unit {0}) (λ notes g. tt)) r)

  -- ---- functions

  pub body_here : (f : Function) (at : ℕ) (r : List Class) → Everywhere (HasSourceForm f) (body_of f) → function_end at (function_of f) + length r ≡ count
      → ((t : ℕ) → at < t → t < function_end at (function_of f) → P t ≡ form_place at (tops.Defines (written_function word at (function_of f))) t)
      → Told last found (2 * at + 1) (2 * function_end at (function_of f)) (λ n. body_notes f f.body r n)
      (λ notes. NotesOfFunction f notes (body_at at f) f.body)
  body_here f at r k h o = by f.body k h o
    where
      by : (b : Option (List Item)) → Everywhere (HasSourceForm f) (option_map_or trees_of b Nil) →
          body_end (body_at at f) (derivation.body_of f.slots b) + length r ≡ count
          → ((t : ℕ) → at < t → t < body_end (body_at at f) (derivation.body_of f.slots b) →
          P t ≡ function_place at (written_function_body (body_at at f) (derivation.body_of f.slots b)) t)
          → Told last found (2 * at + 1) (2 * body_end (body_at at f) (derivation.body_of f.slots b)) (λ n. body_notes f b r n)
          (λ notes. NotesOfFunction f notes (body_at at f) b)
      by None k h o = told_none last found (2 * at + 1) (2 * (body_at at f + 1)) (λ notes. Unit {0}) (λ notes g. tt)
      by (Some body) k h o =
          let x = body_at at f in
          let a = trees_of body in
          let z = block_to f P count last x a in
          let m = body_later at f.file_only (option_map type_of f.result) (parameters_of (take f.params f.slots)) in
          told_wider last found (2 * x + 1) (2 * z) (2 * at + 1) (2 * z) _ _ (omega (arith, m)) (omega arith)
          (body_told f P count last x a r (λ t u v. o t (omega (arith, m, u)) v ∙
          in_braces (Before at) x z t (written_items (x + 1) (items_of f.slots a NoItems)) u v) k h)

  -- ---- files

  pub tops_told : (xs : List Top) (noted : List (List ℕ)) (at : ℕ) → On at xs → AreFormed xs → at + length (file_tokens (tops_of xs) (c.End ∷ [])) ≡ count
      → TopsTold noted at (tops_notes xs (c.End ∷ []) []) (λ notes. NotesOfTops notes at noted xs)
  tops_told [] noted at o k h =
      let e : whole noted at [] ≡ all_at Last noted = append-nil (all_at (P at) noted) ∙ ap (λ a. all_at a noted) (o at (omega arith)) in
      record {
        ranged = subst (Ranged last (2 * at) hi) (sym e) (ranged_all last (2 * at) hi Last (omega (arith, h), omega arith) noted);
        holds = λ notes g. agrees_at last notes (2 * at) hi [] Last noted []
            (subst (Agrees last notes (2 * at) hi) (e ∙ sym (append-nil (all_at Last noted))) g) (omega (arith, h), omega arith) tt tt;
      }
  tops_told (T.Note b ∷ xs) noted at o k h =
      let r = tops_told xs (noted ++ b ∷ []) at o (k.1) h in
      let n = tops_notes xs (c.End ∷ []) [] in
      let e : number count (file_tokens (tops_of xs) (c.End ∷ [])) ≡ at = omega (arith, h) in
      let is : whole noted at ((file_tokens (tops_of xs) (c.End ∷ []), b) ∷ n) ≡ whole (noted ++ b ∷ []) at n =
      (λ i. all_at (P at) noted ++ ((P (e i), b) ∷ found n)) ∙ one_on (P at) noted b (found n) in
      record { ranged = subst (Ranged last (2 * at) hi) (sym is) r.ranged; holds = λ notes g. r.holds notes (subst (Agrees last notes (2 * at) hi) is g) }
  tops_told (T.Include b ∷ xs) noted at o k h =
      let m = top_reaches at Line (file_tokens (tops_of xs) (c.End ∷ [])) in
      plain_step noted at (at + 1) (tops_notes xs (c.End ∷ []) []) (λ notes. NotesOfTops notes (at + 1) [] xs)
      (top_first at (at + 1) tops.Line (written_tops word (at + 1) (tops_of xs)) (omega arith) o) (omega arith) (omega (arith, h))
      (tops_told xs [] (at + 1) (top_rest at (at + 1) tops.Line (written_tops word (at + 1) (tops_of xs)) (omega arith) o) (k.1) (omega (arith, h)))
  tops_told (T.Enum [] ∷ xs) noted at o k h = tops_told xs noted at o (k.1) h
  tops_told (T.Enum (x ∷ es) ∷ xs) noted at o k h =
      let d = OfEnum (enumeration_of x es) in
      let m = top_reaches at d (file_tokens (tops_of xs) (c.End ∷ [])) in
      let less = top_later at d in
      let end = top_end at d in
      let rest = written_tops word end (tops_of xs) in
      plain_step noted at end (tops_notes xs (c.End ∷ []) []) (λ notes. NotesOfTops notes end [] xs)
      (top_first at end (written_form word at d) rest less o) less (omega (arith, h, m))
      (tops_told xs [] end (top_rest at end (written_form word at d) rest (omega (arith, less)) o) (k.1) (omega (arith, h, m)))
  tops_told (T.Global g ∷ xs) noted at o k h =
      let d = OfDeclaration (global_of g) in
      let m = top_reaches at d (file_tokens (tops_of xs) (c.End ∷ [])) in
      let less = top_later at d in
      let end = top_end at d in
      let rest = written_tops word end (tops_of xs) in
      plain_step noted at end (tops_notes xs (c.End ∷ []) []) (λ notes. NotesOfTops notes end [] xs)
      (top_first at end (written_form word at d) rest less o) less (omega (arith, h, m))
      (tops_told xs [] end (top_rest at end (written_form word at d) rest (omega (arith, less)) o) (k.1) (omega (arith, h, m)))
  tops_told (T.Function f ∷ xs) noted at o k h =
      let d = OfFunction (function_of f) in
      let r = file_tokens (tops_of xs) (c.End ∷ []) in
      let m = top_reaches at d r in
      let less = top_later at d in
      let end = top_end at d in
      let rest = written_tops word end (tops_of xs) in
      top_step noted at end (λ n. body_notes f f.body r n) (tops_notes xs (c.End ∷ []) []) (λ notes. NotesOfFunction f notes (body_at at f) f.body)
      (λ notes. NotesOfTops notes end [] xs) (top_first at end (written_form word at d) rest less o) less
      (omega (arith, h, m)) (body_here f at r (k.0) (omega (arith, h, m)) (λ t u v. top_inner at end t (written_form word at d) rest o u v))
      (tops_told xs [] end (top_rest at end (written_form word at d) rest (omega (arith, less)) o) (k.1) (omega (arith, h, m)))
