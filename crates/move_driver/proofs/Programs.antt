-- How far a program has come on the way to its flat forms, and what it is behind them.
use Rattle.std.proofs.Common.{◌≡◌, ℕ, suc, ◌≤◌, true, false, List, [], ◌∷◌, ◌++◌, length, take, drop, Some, slice_get, slice_set, All, refl, sym, ap, subst, ◌∙◌, true≢false}
use Rattle.std.specs.List.{AllByRecursion}
use Rattle.std.proofs.lemmas.List.{drop_all}
use Rattle.std.proofs.lemmas.List.Elements.{All-from_recursion, recursion_from_All}
use Rattle.c_tree.specs.declared.tree.Function.{Function}
use Rattle.c_tree.specs.declared.tree.Top.{Top}
use Rattle.c_tree.specs.declared.tree.Top.TheVariants as T
use Rattle.c_tree.specs.declared.tree.Program.{Program}
use Rattle.c_tree.specs.InRange.{IsProgramInRange}
use Rattle.c_tree.proofs.MoveLemmas.{drop_at}
use Rattle.c_copies.specs.Names.{names, file_names}
use Rattle.jump_meaning.specs.Laws.{IsTopUnflat}
use Rattle.move_order_laws.specs.Moved.{IsTopMovable, MovedTops}
use Rattle.move_order_laws.proofs.Joined.{moved_laws}
use Rattle.move_order_laws.proofs.Around.{drop_set}
use Rattle.report_moves.specs.declared.moves.Move.{Move}
use Rattle.move_programs.proofs.Tops.{taken_set, taken_all}
use Rattle.c_resolved_laws.specs.Counts.{flat_counts, IsResolved}
use Rattle.c_resolved_laws.proofs.TheLaws.{resolved_laws}
use Rattle.plain_form.specs.Plain.{plain}
use Rattle.whole_laws.specs.Rewritten.{IsFlatForm, FlatTop, ft_flat, ft_unlabelled, ft_declared, ft_other, FlatTops, ft_none, ft_more, IsNoFunction}
use Rattle.whole_laws.proofs.Source.{resolved_source}
use Rattle.whole_laws.proofs.Chains.{IsConvertible, AreConvertible}
use Rattle.whole_laws.proofs.FlatPrograms.{flat_program}
use Rattle.restructure_laws.specs.RereadPlainLaws.{ReadsBack}
use Rattle.restructure_laws.specs.Flattened.{most_held, FlattenedTop, fd_other, FlattenedTops, fd_none, fd_more}
use Rattle.restructure_laws.proofs.NamedTops.{named_program_laws}
use Rattle.move_driver.specs.declared.counts.Counts.{Counts}
use Rattle.move_driver.specs.Counts.{counts_of}
use Rattle.move_driver.specs.Restructured.{IsRestructured}

-- ---- one top after another

-- the tops before i are flattened
pub record AreFlatTo (names file : List (List ℕ)) (i : ℕ) (old now : List Top) : Type 0 where
  pub continues : (us : List Top) → FlattenedTops names file (drop i now) us → FlattenedTops names file old (take i now ++ us)

pub starts : (names file : List (List ℕ)) (tops : List Top) → AreFlatTo names file 0 tops tops
starts names file tops = record { continues = λ us r. r }

pub one_more : (names file : List (List ℕ)) (i : ℕ) (old now : List Top) (t u : Top) → slice_get now i ≡ Some t → FlattenedTop names file t u →
    AreFlatTo names file i old now
    → AreFlatTo names file (suc i) old (slice_set now i u)
one_more names file i old now t u e f h = record {
  continues = λ us r.
      let rest : FlattenedTops names file (drop (suc i) now) us = subst (λ z. FlattenedTops names file z us) (drop_set now i u) r in
      let here : FlattenedTops names file (drop i now) (u ∷ us) = subst (λ z. FlattenedTops names file z (u ∷ us)) (sym (drop_at now i t e)) (fd_more f rest) in
      subst (FlattenedTops names file old) (sym (taken_set now i t u us e)) (h.continues (u ∷ us) here);
}

pub all_flat : (names file : List (List ℕ)) (i : ℕ) (old now : List Top) → length now ≤ i → AreFlatTo names file i old now → FlattenedTops names file old now
all_flat names file i old now h f = subst (FlattenedTops names file old) (taken_all now i h)
    (f.continues [] (subst (λ z. FlattenedTops names file z []) (sym (drop_all i now h)) fd_none))

pub stays : (names file : List (List ℕ)) (t : Top) → ((f : Function) → t ≡ T.Function f → ⊥) → FlattenedTop names file t t
stays names file (T.Function f) n = absurd (n f refl)
stays names file (T.Include b) n = fd_other (T.Include b) tt
stays names file (T.Enum es) n = fd_other (T.Enum es) tt
stays names file (T.Global g) n = fd_other (T.Global g) tt
stays names file (T.Note b) n = fd_other (T.Note b) tt

-- ---- what can be moved

with_flat_form : (f g : Function) → IsFlatForm f g → IsConvertible (T.Function g) → IsTopMovable (T.Function g)
with_flat_form f g w c = λ e. record { body = w.new; body_is = w.new_body; well_made = c e w.new w.new_body }

not_flat : (g : Function) → g.flat ≡ false → IsTopMovable (T.Function g)
not_flat g e = λ t. absurd (true≢false (sym t ∙ e))

other_movable : (t : Top) → IsNoFunction t → IsTopMovable t
other_movable (T.Function f) n = absurd n
other_movable _ n = tt

movable_top : {t u : Top} → IsTopUnflat t → FlatTop t u → IsConvertible u → IsTopMovable u
movable_top s (ft_flat {f} {g} e w) c = with_flat_form f g w c
movable_top s (ft_unlabelled {f} {g} e w) c = not_flat g w.flat
movable_top s (ft_declared f e) c = not_flat f s
movable_top s (ft_other t n) c = other_movable t n

movable_tops : {ts us : List Top} → AllByRecursion IsTopUnflat ts → FlatTops ts us → AreConvertible us → AllByRecursion IsTopMovable us
movable_tops s ft_none c = tt
movable_tops s (ft_more w r) c = (movable_top s.0 w c.0, movable_tops s.1 r c.1)

flat_movable : (p : Program) (us : List Top) → IsResolved p → FlatTops p.tops us → All IsTopMovable us
flat_movable p us r w =
    let f = flat_program p (record { tops = us }) (resolved_source flat_counts p r) w in
    All-from_recursion IsTopMovable us
    (movable_tops (recursion_from_All IsTopUnflat p.tops (resolved_laws.unflat flat_counts p r)) w f.convertible)

-- what a resolved program is flattened to, with whatever names
pub movable : (p : Program) (names file : List (List ℕ)) (us : List Top) → IsResolved p → FlattenedTops names file p.tops us → All IsTopMovable us
movable p names file us r w = flat_movable p us r (named_program_laws.flat names file flat_counts p us r w)

-- ---- the whole

pub restructured : (p : Program) (us : List Top) (q made : Program) (ms : List Move) (counts : Counts) → IsResolved p → length (names p) ≤ most_held →
    FlattenedTops (names p) (file_names p) p.tops us → MovedTops us q.tops ms
    → made ≡ plain (names p) q → counts ≡ counts_of ms q made → IsRestructured p made ms counts
restructured p us q made ms counts resolved held flattened moved form counted = record {
  moved = q;
  rewritten = record { flat = record { tops = us }; held = held; flattened = flattened; moved = moved };
  result = form;
  jumps = ap (λ (c : Counts). c.jumps) counted ∙ moved_laws.joins us q.tops ms (movable p (names p) (file_names p) us resolved flattened) moved;
  moves = ap (λ (c : Counts). c.moves) counted;
  guards = ap (λ (c : Counts). c.guards) counted;
}

-- there is one join for each goto of the flat forms, so these are the counts of its moves
pub counts_are : (p q : Program) (ms : List Move) (counts : Counts) → IsResolved p → (w : IsRestructured p q ms counts) → counts ≡ counts_of ms w.moved q
counts_are p q ms counts r w =
    let flat = w.rewritten.flat.tops in
    let jumps = w.jumps ∙ sym (moved_laws.joins flat w.moved.tops ms (movable p (names p) (file_names p) flat r w.rewritten.flattened) w.rewritten.moved) in
    λ i. record { jumps = jumps i; moves = w.moves i; guards = w.guards i }

-- the result is resolved, behaves as the program and reads back
pub reads_back : (p q : Program) (ms : List Move) (counts : Counts) → IsResolved p → IsRestructured p q ms counts → ReadsBack p q
reads_back p q ms counts r w = subst (ReadsBack p) (sym w.result) (named_program_laws.reads_back p w.moved ms r w.rewritten)

pub ranged : (p q : Program) (ms : List Move) (counts : Counts) → IsResolved p → IsRestructured p q ms counts → IsProgramInRange q
ranged p q ms counts r w = resolved_laws.ranged flat_counts q (reads_back p q ms counts r w).resolved
