-- With the names of guards that the tool gives the plain form of what a resolved program is rewritten to is resolved.
use Rattle.std.proofs.Common.{ℕ, List, [], ◌∷◌}
use Rattle.std.specs.List.{AllByRecursion}
use Rattle.std.proofs.lemmas.List.Elements.{All-from_recursion, recursion_from_All}
use Rattle.c_copies.specs.Names.{names}
use Rattle.c_tree.specs.declared.tree.Function.{Function}
use Rattle.c_tree.specs.declared.tree.Program.{Program}
use Rattle.c_tree.specs.declared.tree.Top.{Top}
use Rattle.c_tree.specs.declared.tree.Top.TheVariants as T
use Rattle.guard_vars.specs.GuardNames.{guard_names}
use Rattle.guard_vars.proofs.GuardNames.{length-guard_names}
use Rattle.jump_meaning.specs.Code.{Code, code_of}
use Rattle.plain_laws.specs.Laws.{IsTopReady}
use Rattle.c_resolved_laws.specs.Counts.{flat_counts}
use Rattle.whole_laws.specs.WholeLaws.{IsTopNamed}
use Rattle.whole_laws.proofs.Whole.{resolved_ready}
use Rattle.whole_laws.specs.Guards.{TopHasNames, NamedPlainFormIsResolved}
use Rattle.whole_laws.specs.PlainResolvedLaws.{IsTopOwn}
use Rattle.whole_laws.proofs.GuardsOwn.{plain_names_own}
use Rattle.whole_laws.proofs.Resolved.{plain_form_resolved}

module _ (p : Program) where
  abbrev given : Function → List (List ℕ)
  given = guard_names (names p)

  top_named : (t : Top) → IsTopNamed given t
  top_named (T.Function g) = length-guard_names (names p) g
  top_named _ = tt

  pub tops_named : (ts : List Top) → AllByRecursion (IsTopNamed given) ts
  tops_named [] = tt
  tops_named (t ∷ ts) = (top_named t, tops_named ts)

  top_own : (c : Code) (t : Top) → IsTopReady c given t → TopHasNames p t → IsTopOwn p.tops given t
  top_own c (T.Function g) r h = λ flat. plain_names_own p g flat r.ranged.parameters (h flat)
  top_own c _ r h = tt

  pub tops_own : (c : Code) (ts : List Top) → AllByRecursion (IsTopReady c given) ts → AllByRecursion (TopHasNames p) ts →
      AllByRecursion (IsTopOwn p.tops given) ts
  tops_own c [] r h = tt
  tops_own c (t ∷ ts) r h = (top_own c t r.0 h.0, tops_own c ts r.1 h.1)

pub named_form_resolved : NamedPlainFormIsResolved
named_form_resolved p q ms r w h =
    let names = given p in
    let named = All-from_recursion (IsTopNamed names) q.tops (tops_named p q.tops) in
    let ready = recursion_from_All (IsTopReady (code_of q) names) q.tops (resolved_ready flat_counts names p q ms r w named) in
    let own = All-from_recursion (IsTopOwn p.tops names) q.tops (tops_own p (code_of q) q.tops ready (recursion_from_All (TopHasNames p) q.tops h)) in
    plain_form_resolved names p q ms r w named own
