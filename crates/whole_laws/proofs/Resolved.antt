-- The plain form of what a resolved program is rewritten to is resolved.
use Rattle.std.proofs.Common.{ℕ, List, [], ◌∷◌, All}
use Rattle.std.specs.List.{AllByRecursion}
use Rattle.std.proofs.lemmas.List.Elements.{recursion_from_All}
use Rattle.c_tree.specs.declared.tree.Function.{Function}
use Rattle.c_tree.specs.declared.tree.Top.{Top}
use Rattle.c_tree.specs.declared.tree.Top.TheVariants as T
use Rattle.c_tree.specs.declared.tree.Program.{Program}
use Rattle.c_tree.specs.InRange.{IsTopInRange, IsProgramInRange}
use Rattle.jump_meaning.specs.Code.{code_of}
use Rattle.plain_laws.specs.Laws.{IsTopReady}
use Rattle.plain_laws.specs.Plain.{plain_with}
use Rattle.plain_laws.proofs.TheLaws.{plain_laws}
use Rattle.c_resolved_defs.specs.Resolved.{IsResolvedFunction}
use Rattle.c_resolved_laws.specs.Counts.{flat_counts, IsResolved}
use Rattle.whole_laws.proofs.Whole.{resolved_ready}
use Rattle.whole_laws.specs.Names.{HasOwnNames}
use Rattle.whole_laws.specs.PlainResolvedLaws.{IsTopOwn, PlainFormIsResolved}
use Rattle.whole_laws.proofs.FileBound.{names_bound}
use Rattle.whole_laws.proofs.FileSpelled.{IsShort, tops_spelled}
use Rattle.whole_laws.proofs.Measured.{within_counts}
use Rattle.whole_laws.proofs.PlainDepths.{within_levels}
use Rattle.whole_laws.proofs.PlainFunctions.{tops_resolved}
use Rattle.whole_laws.proofs.PlainTops.{IsOwnTop, PlainTops, Derived, plain_tops}
use Rattle.whole_laws.proofs.SameFile.{SameFile, declarations_over, main_over}
use Rattle.whole_laws.proofs.SameTops.{same_file}

own_top : (ts : List Top) (names : Function → List (List ℕ)) (t : Top) → IsTopOwn ts names t → IsOwnTop (HasOwnNames ts) names t
own_top ts names (T.Function g) h = h
own_top ts names _ h = tt

own_tops : (ts : List Top) (names : Function → List (List ℕ)) (us : List Top) → AllByRecursion (IsTopOwn ts names) us →
    AllByRecursion (IsOwnTop (HasOwnNames ts) names) us
own_tops ts names [] h = tt
own_tops ts names (u ∷ us) h = (own_top ts names u h.0, own_tops ts names us h.1)

-- of movements and simplifications in whatever order, where the plain forms are short
pub plain_tops_resolved : (Own : Function → Function → Type 0) (p q : Program) → IsResolved p → ((f h : Function) → Own f h → HasOwnNames p.tops h)
    → ((f h : Function) → Own f h → IsResolvedFunction flat_counts p.tops f → IsShort h) → PlainTops Own p.tops q.tops → IsProgramInRange q → IsResolved q
plain_tops_resolved Own p q r own short tops ranged =
    let same : SameFile p.tops q.tops = same_file Own flat_counts p.tops tops r.tops in
    let resolved = tops_resolved flat_counts p r q.tops same tops (recursion_from_All IsTopInRange q.tops ranged) r.tops in
    record {
      spelled = tops_spelled p r Own own short q.tops tops r.tops resolved r.spelled;
      bound = names_bound flat_counts p Own own tops r.tops r.bound;
      declarations = declarations_over same r.declarations;
      main = main_over same r.main;
      tops = resolved;
    }

pub own_names : (ts : List Top) (names : Function → List (List ℕ)) (us : List Top) → All (IsTopOwn ts names) us →
    AllByRecursion (IsOwnTop (HasOwnNames ts) names) us
own_names ts names us h = own_tops ts names us (recursion_from_All (IsTopOwn ts names) us h)

pub plain_form_resolved : PlainFormIsResolved
plain_form_resolved names p q ms r w named own =
    let ready = resolved_ready flat_counts names p q ms r w named in
    plain_tops_resolved (Derived (HasOwnNames p.tops)) p (plain_with names q) r (λ f h o. o.0)
    (λ f h o g. record { counted = within_counts p.tops f h g o.1; depth = within_levels p.tops f h g o.1 })
    (plain_tops (HasOwnNames p.tops) (code_of q) names w.flattened w.moved (recursion_from_All (IsTopReady (code_of q) names) q.tops ready)
    (own_names p.tops names q.tops own))
    (plain_laws.ranged names q ready)
