-- The end of a resolved program without jumps.
use Rattle.std.proofs.Common.{ℕ, ◌+◌, true, List, [], ◌∷◌, map, Option, Some, None, ◌≡◌, refl, sym, ap, ◌∙◌, subst, if◌then◌else◌}
use Rattle.std.specs.Option.{option_map_or}
use Rattle.c_tree.specs.declared.tree.Function.{Function}
use Rattle.c_tree.specs.declared.tree.Item.{Item}
use Rattle.c_tree.specs.declared.tree.Program.{Program}
use Rattle.c_tree.specs.declared.tree.Top.{Top}
use Rattle.c_tree.specs.declared.tree.Top.TheVariants as T
use Rattle.c_tree.specs.Everywhere.{Everywhere}
use Rattle.c_tree.specs.Jumps.{all_true, is_jump_free, is_plain, body_holds, is_jump_free_function, top_holds, is_jump_free_program, is_plain_program}
use Rattle.c_tree.specs.Trees.{Nil, trees_of}
use Rattle.jump_meaning.specs.Code.{code_of}
use Rattle.plain_laws.specs.Plain.{plain_top}
use Rattle.plain_laws.proofs.TheLaws.{plain_laws}
use Rattle.whole_laws.proofs.Free.{both, plain_body}
use Rattle.whole_laws.proofs.Unlabelled.{IsPlainItem}
use Rattle.c_resolved_defs.specs.Scopes.{at_start}
use Rattle.c_resolved_defs.specs.Within.{Each}
use Rattle.c_resolved_laws.specs.Counts.{flat_counts, IsResolved}
use Rattle.c_resolved_laws.proofs.TheLaws.{resolved_plain}
use Rattle.tidy_laws.specs.TidyBehaviourLaws.{BehaveAlike}
use Rattle.tidy_laws.specs.Ends.{with_sections, IsTidied, variables}
use Rattle.whole_laws.proofs.SameFile.{declarations_over, main_over}
use Rattle.tidy_result_laws.proofs.FileScopes.{below_start}
use Rattle.tidy_result_laws.specs.TidyResolvedLaws.{EndLaws}
use Rattle.tidy_result_laws.proofs.Loose.{IsLoose, TopIsLoose, IsLooseFile, loose_plain, loose_file}
use Rattle.tidy_result_laws.proofs.Files.{Over, over_same, tops_bound, tops_spelled}
use Rattle.tidy_result_laws.proofs.ChangedFiles.{loose_times}
use Rattle.tidy_result_laws.proofs.Sections.{IsSectioned, sections_over, section_bound, section_spelled, section_tops}
use Rattle.tidy_result_laws.proofs.Behaves.{alike_trans, alike_times, alike_sections, times_fewer, sections_as_many}

-- ---- sections of a file without jumps

module _ (p : Program) (l : IsLooseFile p.tops) where
  abbrev us : List Top
  us = map (plain_top (λ f. f.labels)) p.tops

  over : Over IsSectioned p.tops us
  over = sections_over (λ f. f.labels) p.tops p.tops l.tops

  sections_resolved : IsResolved (with_sections p)
  sections_resolved =
      let same = over_same IsSectioned over in
      record {
        spelled = tops_spelled IsSectioned p.tops (section_spelled p.tops) over l.tops l.spelled;
        bound = tops_bound IsSectioned p.tops (section_bound p.tops) at_start (below_start 0) over l.tops l.bound;
        declarations = declarations_over same l.declarations;
        main = main_over same l.main;
        tops = section_tops p.tops us same over l.tops;
      }

  function_free : (f : Function) → IsLoose p.tops f → is_jump_free_function f ≡ true
  function_free f k = ap (λ b. body_holds (if b then is_jump_free else is_plain) f.body) k.unflat ∙ at f.body (loose_plain p.tops f k)
    where
      at : (o : Option (List Item)) → Everywhere IsPlainItem (option_map_or trees_of o Nil) → body_holds is_plain o ≡ true
      at None h = refl
      at (Some xs) h = plain_body xs h

  tops_free : (ts : List Top) → Each (TopIsLoose p.tops) ts → all_true (map (top_holds is_jump_free_function) ts) ≡ true
  tops_free [] k = refl
  tops_free (T.Function f ∷ ts) k = both (is_jump_free_function f) (all_true (map (top_holds is_jump_free_function) ts)) (function_free f k.0)
      (tops_free ts k.1)
  tops_free (T.Include b ∷ ts) k = tops_free ts k.1
  tops_free (T.Enum xs ∷ ts) k = tops_free ts k.1
  tops_free (T.Global g ∷ ts) k = tops_free ts k.1
  tops_free (T.Note b ∷ ts) k = tops_free ts k.1

  sections_plain : is_plain_program (with_sections p) ≡ true
  sections_plain = plain_laws.plain (λ f. f.labels) p (tops_free p.tops l.tops)

-- ---- the end

module _ (p : Program) (n : ℕ) (q : Program) (r : IsResolved p) (free : is_jump_free_program p ≡ true) (t : IsTidied p n q) where
  first : IsLooseFile p.tops
  first = loose_file flat_counts p r (resolved_plain flat_counts p r free)

  last : IsLooseFile t.last.tops
  last = loose_times n p.tops t.last.tops first t.changes

  end_resolved : IsResolved q
  end_resolved = subst IsResolved (sym t.sections) (sections_resolved t.last last)

  end_plain : is_plain_program q ≡ true
  end_plain = ap is_plain_program t.sections ∙ sections_plain t.last last

  end_alike : BehaveAlike (code_of p) (code_of q)
  end_alike =
      subst (λ k. BehaveAlike (code_of p) (code_of k)) (sym t.sections)
      (alike_trans (code_of p) (code_of t.last) (code_of (with_sections t.last)) (alike_times n p.tops t.last.tops first t.changes)
      (alike_sections t.last.tops (us t.last last) last (over t.last last)))

  end_counted : n + variables q.tops ≡ variables p.tops
  end_counted =
      ap (λ (k : Program). n + variables k.tops) t.sections ∙ ap (λ k. n + k) (sections_as_many (over t.last last)) ∙ times_fewer n p.tops t.last.tops t.changes

plain_free : (p : Program) → IsResolved p → is_plain_program p ≡ true → is_jump_free_program p ≡ true
plain_free p r e = let l = loose_file flat_counts p r e in tops_free p l p.tops l.tops

pub end_law : EndLaws
end_law = record { free = plain_free; resolved = end_resolved; plain = end_plain; alike = end_alike; counted = end_counted }
