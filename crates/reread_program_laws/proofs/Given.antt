-- What stands in a resolved program, by what reading its text needs there.
use Rattle.std.proofs.Common.{◌≡◌, ℕ, ◌+◌, false, List, [], ◌∷◌, ◌++◌, is_some, sym, subst, ◌∙◌}
use Rattle.std.specs.Prelude.{IsSomeAnd}
use Rattle.c_types.specs.Words.{is_known}
use Rattle.c_tree.specs.declared.tree.Function.{Function}
use Rattle.c_tree.specs.declared.tree.Top.{Top}
use Rattle.c_tree.specs.declared.tree.Top.TheVariants as T
use Rattle.c_tree.specs.declared.tree.Program.{Program}
use Rattle.c_grammar.specs.FileSyntax.{enumeration_end, declaration_end, function_end}
use Rattle.c_scopes.specs.Files.{File}
use Rattle.c_scopes.specs.FunctionNames.{has_function}
use Rattle.c_resolved_defs.specs.Files.{MainIsFormed, DeclarationsAgree}
use Rattle.c_resolved_defs.specs.Limits.{FlatCounts}
use Rattle.c_resolved_defs.specs.Names.{first_function, the_function}
use Rattle.c_resolved_defs.specs.PrintablePrograms.{TopsPrint, IsPrintable}
use Rattle.c_resolved_defs.specs.Resolved.{IsResolvedTop, IsResolvedWith}
use Rattle.c_resolved_defs.specs.Scopes.{Scope, AConstant, AVariable, AFunction, bind, bind_constants, behind_top, IsFunctionName, TopsAreBound}
use Rattle.c_resolved_defs.specs.Scopes as resolved
use Rattle.c_resolved_defs.specs.Spelling.{TopIsSpelled}
use Rattle.c_resolved_defs.specs.Verbatims.{IsComment, IsDirective}
use Rattle.c_resolved_defs.specs.Within.{Each}
use Rattle.print_laws.specs.FileDerivations.{enumeration_of, global_of, function_of}
use Rattle.c_resolving_laws.specs.Laws.{OfFunction}
use Rattle.reread_parts_laws.specs.Laws.{IsFunction, IsFileVariable, IsEnum, IsFound, IsDeclared, bodies_behind, AreTops}
use Rattle.reread_parts_laws.proofs.TheLaws.{reread_laws}
use Rattle.reread_program_laws.specs.Notes.{NotesOfTops}
use Rattle.reread_program_laws.specs.Limits.{AreMeasured}
use Rattle.reread_program_laws.proofs.Declared.{TheFunction, all_declared, IsSingle, next_single}
use Rattle.reread_program_laws.proofs.TopsTold.{AreFormed}

-- a function with the declaration that its calls go by, in these scopes
pub record IsGiven (counts : FlatCounts) (ts : List Top) (f : Function) (ss : List Scope) : Type 0 where
  pub the : TheFunction ts f
  pub named : IsFunctionName f.name ss
  pub unknown : is_known f.name ≡ false
  pub formed : MainIsFormed (T.Function f)
  pub function : IsFunction counts ts f (behind_top ss (T.Function f))

abbrev pub AreGiven : FlatCounts → List Top → List Scope → List Top → Type 0
AreGiven counts ts ss [] = Unit {0}
AreGiven counts ts ss (T.Note bytes ∷ xs) = IsComment bytes × AreGiven counts ts ss xs
AreGiven counts ts ss (T.Include bytes ∷ xs) = IsDirective bytes × AreGiven counts ts ss xs
AreGiven counts ts ss (T.Enum [] ∷ xs) = ⊥
AreGiven counts ts ss (T.Enum (x ∷ es) ∷ xs) = IsEnum ts (x ∷ es) ss × AreGiven counts ts (bind_constants (x ∷ es) ss) xs
AreGiven counts ts ss (T.Global g ∷ xs) = IsFileVariable ts g ss × AreGiven counts ts (behind_top ss (T.Global g)) xs
AreGiven counts ts ss (T.Function f ∷ xs) = IsGiven counts ts f ss × AreGiven counts ts (behind_top ss (T.Function f)) xs

module _ (counts : FlatCounts) (ts : List Top) where
  given_tops : (xs : List Top) (ss : List Scope) → TopsPrint xs → Each TopIsSpelled xs → TopsAreBound ss xs → Each MainIsFormed xs →
      Each (IsResolvedTop counts ts) xs → Each (IsFound ts) xs → Each (OfFunction (TheFunction ts)) xs → AreGiven counts ts ss xs
  given_tops [] ss p s b m r f d = tt
  given_tops (T.Note bytes ∷ xs) ss p s b m r f d = (p.0, given_tops xs ss p.1 s.1 b.1 m.1 r.1 f.1 d.1)
  given_tops (T.Include bytes ∷ xs) ss p s b m r f d = (p.0, given_tops xs ss p.1 s.1 b.1 m.1 r.1 f.1 d.1)
  given_tops (T.Enum [] ∷ xs) ss p s b m r f d = absurd p.0
  given_tops (T.Enum (x ∷ es) ∷ xs) ss p s b m r f d =
      (record { values = r.0; prints = p.0; bound = b.0; formed = m.0 }, given_tops xs (bind_constants (x ∷ es) ss) p.1 s.1 b.1 m.1 r.1 f.1 d.1)
  given_tops (T.Global g ∷ xs) ss p s b m r f d =
      (record { is = f.0; resolved = r.0; prints = p.0; bound = b.0; formed = m.0 }, given_tops xs (behind_top ss (T.Global g)) p.1 s.1 b.1 m.1 r.1 f.1 d.1)
  given_tops (T.Function g ∷ xs) ss p s b m r f d =
      let q = b.0 in (
        record {
          the = d.0;
          named = q.named;
          unknown = q.unknown;
          formed = m.0;
          function = record { resolved = r.0; spelled = s.0; prints = p.0; parameters = q.parameters; bound = q.body };
        },
        given_tops xs (behind_top ss (T.Function g)) p.1 s.1 b.1 m.1 r.1 f.1 d.1,
      )

pub program_given : (counts : FlatCounts) (p : Program) → IsResolvedWith counts p → IsPrintable p → AreGiven counts p.tops resolved.at_start p.tops
program_given counts p r h =
    given_tops counts p.tops p.tops resolved.at_start h.tops r.spelled r.bound r.main r.tops (reread_laws.found_variables p.tops r.bound)
    (all_declared p.tops r.declarations)

-- the functions have the form of a source
pub program_formed : (counts : FlatCounts) (ts xs : List Top) → Each (IsResolvedTop counts ts) xs → AreFormed xs
program_formed counts ts [] r = tt
program_formed counts ts (T.Function f ∷ xs) r = ((r.0).form.items, program_formed counts ts xs r.1)
program_formed counts ts (T.Global g ∷ xs) r = (tt, program_formed counts ts xs r.1)
program_formed counts ts (T.Include bytes ∷ xs) r = (tt, program_formed counts ts xs r.1)
program_formed counts ts (T.Enum es ∷ xs) r = (tt, program_formed counts ts xs r.1)
program_formed counts ts (T.Note bytes ∷ xs) r = (tt, program_formed counts ts xs r.1)

-- ---- together with the comments and the limits

module _ (counts : FlatCounts) (ts : List Top) (file : File)
    (bodies : (m : List ℕ) → has_function file.bodies m ≡ is_some (first_function (λ f. is_some f.body) m ts)) where
  declared_so : (f : Function) (before : List (List ℕ)) (ss : List Scope) → IsGiven counts ts f ss → IsSingle before f →
      IsSomeAnd (the_function f.name ts) (λ g. IsDeclared ts f g file.bodies before ss)
  declared_so f before ss g s =
      let q = g.the in
      subst (λ o. IsSomeAnd o (λ h. IsDeclared ts f h file.bodies before ss)) (sym q.is)
      (record {
        is = q.is;
        defined = bodies f.name ∙ q.defined;
        result = q.alike.result;
        parameters = q.alike.parameters;
        named = g.named;
        unknown = g.unknown;
        formed = g.formed;
        single = s;
      })

  pub tops_are : (xs : List Top) (ss : List Scope) (before : List (List ℕ)) (at : ℕ) (noted : List (List ℕ)) → AreGiven counts ts ss xs →
      DeclarationsAgree xs → Each (OfFunction (IsSingle before)) xs → NotesOfTops file.notes at noted xs → AreMeasured file at xs
      → AreTops counts ts file ss before at noted xs
  tops_are [] ss before at noted g d s n m = n
  tops_are (T.Note bytes ∷ xs) ss before at noted g d s n m = (g.0, tops_are xs ss before at (noted ++ bytes ∷ []) g.1 d s.1 n m)
  tops_are (T.Include bytes ∷ xs) ss before at noted g d s n m = (g.0, n.0, tops_are xs ss before (at + 1) [] g.1 d s.1 n.1 m)
  tops_are (T.Enum [] ∷ xs) ss before at noted g d s n m = absurd g
  tops_are (T.Enum (x ∷ es) ∷ xs) ss before at noted g d s n m =
      (g.0, n.0, tops_are xs (bind_constants (x ∷ es) ss) before (enumeration_end at (enumeration_of x es)) [] g.1 d s.1 n.1 m)
  tops_are (T.Global v ∷ xs) ss before at noted g d s n m = (
    g.0,
    n.0,
    tops_are xs (behind_top ss (T.Global v)) before
        (declaration_end at (global_of v)) [] g.1 d s.1 n.1 m,
  )
  tops_are (T.Function f ∷ xs) ss before at noted g d s n m = (
    record { declared = declared_so f before ss (g.0) (s.0); function = (g.0).function; notes = n.1; untangled = m.0 },
    n.0,
    tops_are xs (behind_top ss (T.Function f)) (bodies_behind f before) (function_end at (function_of f)) [] g.1 d.1 (next_single f before xs d.0 s.1) n.2 m.1,
  )
