-- A program without jumps is restructured by no moves, with the same variables.
use Rattle.std.proofs.Common.{◌≡◌, ℕ, ◌+◌, ◌-◌, Bool, true, false, List, [], ◌∷◌, map, length, Option, Some, None, if◌then◌else◌, All, refl, sym, ap, subst, ◌∙◌, true≢false, arith}
use Rattle.std.specs.List.{AllByRecursion}
use Rattle.std.specs.Option.{option_map_or}
use Rattle.std.proofs.lemmas.List.Elements.{recursion_from_All}
use Rattle.c_copies.specs.Names.{names, file_names}
use Rattle.c_tree.specs.declared.tree.Function.{Function}
use Rattle.c_tree.specs.declared.tree.Item.{Item}
use Rattle.c_tree.specs.declared.tree.Top.{Top}
use Rattle.c_tree.specs.declared.tree.Top.TheVariants as T
use Rattle.c_tree.specs.declared.tree.Program.{Program}
use Rattle.c_tree.specs.InRange.{body_of}
use Rattle.c_tree.specs.Trees.{Nil, trees_of}
use Rattle.flat_laws.specs.Parts.{has_jumps}
use Rattle.flat_names.specs.FlatNames.{with_known}
use Rattle.flat_form.specs.declared.forms.Form.{Form}
use Rattle.flat_form.specs.declared.forms.Form.TheVariants.{Same, Calm, Flat}
use Rattle.flat_form.specs.Flattened.{IsFormBeside, IsFlattened, applied}
use Rattle.guard_vars.specs.GuardNames.{guard_names}
use Rattle.jump_meaning.specs.Laws.{IsTopUnflat}
use Rattle.report_moves.specs.declared.moves.Move.{Move}
use Rattle.move_order_laws.specs.Moved.{mt_moved, mt_other, MovedTops, mt_none, mt_more}
use Rattle.restructure_laws.specs.Flattened.{FlattenedTop, fd_function, fd_other, FlattenedTops, fd_none, fd_more}
use Rattle.plain_laws.specs.Plain.{with_guard_variables, tidied, plain_body, plain_function, plain_top}
use Rattle.plain_form.specs.Plain.{plain}
use Rattle.c_resolved_laws.specs.Counts.{flat_counts, IsResolved}
use Rattle.c_resolved_laws.proofs.TheLaws.{resolved_laws}
use Rattle.move_driver.specs.declared.counts.Counts.{Counts}
use Rattle.move_driver.specs.Counts.{counted, guards_between, guards_from, counts_of}
use Rattle.move_driver.specs.Restructured.{IsRestructured}
use Rattle.move_driver.specs.Settled.{no_counts}
use Rattle.move_driver.proofs.Programs.{counts_are}
use Rattle.tidy_laws.specs.Ends.{variables_in, variables}
use Rattle.tidy_refusal.specs.JumplessLaws.{TopLacksJumps}

-- ---- the flat form loses labels alone

module _ (used file : List (List ℕ)) where
  one_function : (f g : Function) → f.flat ≡ false → has_jumps (body_of f) ≡ false → IsFlattened used file f g → (g.flat ≡ false) × (g.slots ≡ f.slots)
  one_function f g e h w = by f.body refl w.form w.is w.whole
    where
      by : (o : Option (List Item)) → f.body ≡ o → (form : Form) → IsFormBeside (with_known used) (with_known file) (record f { body = o }) form →
          g ≡ applied form f → (g.flat ≡ false) × (g.slots ≡ f.slots)
      by None i form m v =
          let same : g ≡ f = v ∙ ap (λ z. applied z f) m in
          (ap (λ (z : Function). z.flat) same ∙ e, ap (λ (z : Function). z.slots) same)
      by (Some body) i Same m v = absurd m
      by (Some body) i (Calm new) m v = (ap (λ (z : Function). z.flat) v ∙ e, ap (λ (z : Function). z.slots) v)
      by (Some body) i (Flat n) m v = absurd (true≢false (sym m.0 ∙ sym (ap (λ o. has_jumps (option_map_or trees_of o Nil)) i) ∙ h))

  one_top : {t u : Top} → IsTopUnflat t → TopLacksJumps t → FlattenedTop used file t u → IsTopUnflat u × (variables_in u ≡ variables_in t)
  one_top s h (fd_function {f} {g} w l) = let k = one_function f g s h w in (k.0, ap length k.1)
  one_top s h (fd_other t n) = (s, refl)

  all_tops : {ts us : List Top} → AllByRecursion IsTopUnflat ts → AllByRecursion TopLacksJumps ts → FlattenedTops used file ts us →
      AllByRecursion IsTopUnflat us × (variables us ≡ variables ts)
  all_tops s h fd_none = (tt, refl)
  all_tops s h (fd_more w r) =
      let k = one_top s.0 h.0 w in
      let l = all_tops s.1 h.1 r in
      ((k.0, l.0), (λ i. k.1 i + l.1 i))

-- ---- no move is made

unmoved : {ts us : List Top} {ms : List Move} → AllByRecursion IsTopUnflat ts → MovedTops ts us ms → (ms ≡ []) × (us ≡ ts)
unmoved s mt_none = (refl, refl)
unmoved s (mt_more (mt_moved e w) r) = absurd (true≢false (sym e ∙ s.0))
unmoved s (mt_more (mt_other t n) r) = let k = unmoved s.1 r in (k.0, ap (λ z. t ∷ z) k.1)

-- ---- the plain form has the same variables

chosen : (ns : List (List ℕ)) (f : Function) (body : List Item) (b : Bool) → b ≡ false →
    (if b then with_guard_variables ns f body else record f { body = Some (tidied body) }).slots ≡ f.slots
chosen ns f body true e = absurd (true≢false e)
chosen ns f body false e = refl

plain_slots : (ns : List (List ℕ)) (f : Function) → f.flat ≡ false → (plain_function ns f).slots ≡ f.slots
plain_slots ns f e = by f.body
  where
    by : (o : Option (List Item)) → (plain_body ns f o).slots ≡ f.slots
    by None = refl
    by (Some body) = chosen ns f body f.flat e

none_more : (m n : ℕ) → n ≡ m → n - m ≡ 0
none_more m n e = omega (arith, e)

plain_one : (name : Function → List (List ℕ)) (t : Top) → IsTopUnflat t →
    (guards_between t (plain_top name t) ≡ 0) × (variables_in (plain_top name t) ≡ variables_in t)
plain_one name (T.Function f) s = let k = ap length (plain_slots (name f) f s) in (none_more (length f.slots) (length (plain_function (name f) f).slots) k, k)
plain_one name (T.Include bytes) s = (refl, refl)
plain_one name _ s = (refl, refl)

plain_all : (name : Function → List (List ℕ)) (ts : List Top) → AllByRecursion IsTopUnflat ts →
    (guards_from ts (map (plain_top name) ts) ≡ 0) × (variables (map (plain_top name) ts) ≡ variables ts)
plain_all name [] s = (refl, refl)
plain_all name (t ∷ ts) s =
    let k = plain_one name t s.0 in
    let l = plain_all name ts s.1 in
    ((λ i. k.0 i + l.0 i), (λ i. k.1 i + l.1 i))

counted_none : (moved made : Program) → guards_from moved.tops made.tops ≡ 0 → counts_of [] moved made ≡ no_counts
counted_none moved made e = ap (λ n. record { jumps = 0; moves = 0; guards = counted n }) e

-- ---- the whole

module _ (p q : Program) (ms : List Move) (counts : Counts) (r : IsResolved p) (lacks : All TopLacksJumps p.tops) (w : IsRestructured p q ms counts) where
  flattened : AllByRecursion IsTopUnflat w.rewritten.flat.tops × (variables w.rewritten.flat.tops ≡ variables p.tops)
  flattened =
      all_tops (names p) (file_names p) (recursion_from_All IsTopUnflat p.tops (resolved_laws.unflat flat_counts p r))
      (recursion_from_All TopLacksJumps p.tops lacks)
      w.rewritten.flattened

  moved : (ms ≡ []) × (w.moved.tops ≡ w.rewritten.flat.tops)
  moved = unmoved flattened.0 w.rewritten.moved

  last : (guards_from w.moved.tops (map (plain_top (guard_names (names p))) w.moved.tops) ≡ 0) ×
      (variables (map (plain_top (guard_names (names p))) w.moved.tops) ≡ variables w.moved.tops)
  last = plain_all (guard_names (names p)) w.moved.tops (subst (AllByRecursion IsTopUnflat) (sym moved.1) flattened.0)

  pub no_moves : ms ≡ []
  no_moves = moved.0

  pub same_variables : variables q.tops ≡ variables p.tops
  same_variables = ap (λ (z : Program). variables z.tops) w.result ∙ last.1 ∙ ap variables moved.1 ∙ flattened.1

  pub nothing_counted : counts ≡ no_counts
  nothing_counted =
      counts_are p q ms counts r w ∙ (λ i. counts_of (moved.0 i) w.moved (w.result i)) ∙ counted_none w.moved (plain (names p) w.moved) last.0
