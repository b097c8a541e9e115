-- The plain form of a function with jumps is not much larger than the function.
use Rattle.std.proofs.Common.{◌≡◌, ℕ, Bool, true, false, cond, List, [], ◌∷◌, Some, None, ap, sym, subst}
use Rattle.std.specs.Prelude.{IfSome}
use Rattle.std.specs.Option.{option_map_or}
use Rattle.std.specs.List.{AllByRecursion}
use Rattle.std.proofs.lemmas.List.Elements.{recursion_from_All}
use Rattle.c_tree.specs.declared.tree.Function.{Function}
use Rattle.c_tree.specs.declared.tree.Top.{Top}
use Rattle.c_tree.specs.declared.tree.Top.TheVariants as T
use Rattle.c_tree.specs.InRange.{body_of}
use Rattle.c_tree.specs.Trees.{Nil, trees_of}
use Rattle.c_resolved_defs.specs.Resolved.{IsResolvedFunction, IsResolvedTop}
use Rattle.c_resolved_defs.specs.Within.{Each}
use Rattle.flat_laws.specs.Parts.{has_jumps}
use Rattle.jump_meaning.specs.Code.{code_of}
use Rattle.plain_laws.specs.Laws.{IsTopReady}
use Rattle.whole_laws.proofs.Measured.{moved_counts}
use Rattle.whole_laws.proofs.PlainDepths.{moved_levels}
use Rattle.whole_laws.proofs.PlainTops.{IsDerivedForm, Derived, IsOwnTop, PlainTop, pt_moved, pt_unmoved, pt_declared, pt_other, PlainTops, pt_none, pt_more, plain_tops}
use Rattle.c_resolved_laws.specs.Counts.{counts_of, measured_form, flat_counts}
use Rattle.c_resolved_laws.proofs.Counted.{counted_plainly}
use Rattle.whole_laws.specs.Rewritten.{IsNoFunction}
use Rattle.whole_laws.proofs.Whole.{resolved_ready}
use Rattle.restructure_laws.specs.EachPlace.{AtEachPair}
use Rattle.restructure_laws.specs.Sizes.{HasSizes, IsWithinSizes}
use Rattle.restructure_laws.specs.WholeBoundsLaws.{SizesAreBounded}

if_counted : (b : Bool) (n : ℕ × ℕ) (P : ℕ × ℕ → Type 0) → b ≡ true → P n → IfSome (cond b (Some n) None) P
if_counted true n P e h = h
if_counted false n P e h = tt

if_free : (b : Bool) (n : ℕ × ℕ) (P : ℕ × ℕ → Type 0) → b ≡ false → IfSome (cond b (Some n) None) P
if_free true n P e = cc
if_free false n P e = tt

has_sizes : (ts : List Top) (f h : Function) → IsResolvedFunction flat_counts ts f → IsDerivedForm f h → HasSizes f h (counts_of (measured_form (body_of f)))
has_sizes ts f h g m = record { depth = moved_levels ts f h g m; counted = moved_counts ts f h g m }

declared_free : (f : Function) → f.body ≡ None → has_jumps (body_of f) ≡ false
declared_free f e = ap (λ o. has_jumps (option_map_or trees_of o Nil)) e

other_within : (t : Top) → IsNoFunction t → IsWithinSizes t t
other_within (T.Function f) n = absurd n
other_within _ n = tt

-- no fact besides
abbrev Any : Function → Type 0
Any h = Unit {0}

module _ (tops : List Top) where
  as_counted : (f : Function) (P : ℕ × ℕ → Type 0) → IsResolvedFunction flat_counts tops f →
      IfSome (cond (has_jumps (body_of f)) (Some (counts_of (measured_form (body_of f)))) None) P → IfSome (flat_counts (body_of f)) P
  as_counted f P g h = subst (λ o. IfSome o P) (sym (counted_plainly flat_counts tops f g)) h

  top_within : {t u : Top} → PlainTop (Derived Any) t u → IsResolvedTop flat_counts tops t → IsWithinSizes t u
  top_within (pt_moved {f = f} {h = h} m o) g = as_counted f (HasSizes f h) g
      (if_counted (has_jumps (body_of f)) (counts_of (measured_form (body_of f))) (HasSizes f h) m.jumps (has_sizes tops f h g o.1))
  top_within (pt_unmoved {f = f} {h = h} m) g = as_counted f (HasSizes f h) g
      (if_free (has_jumps (body_of f)) (counts_of (measured_form (body_of f))) (HasSizes f h) m.free)
  top_within (pt_declared f e) g = as_counted f (HasSizes f f) g
      (if_free (has_jumps (body_of f)) (counts_of (measured_form (body_of f))) (HasSizes f f) (declared_free f e))
  top_within (pt_other t n) g = other_within t n

  tops_within : {ts us : List Top} → PlainTops (Derived Any) ts us → Each (IsResolvedTop flat_counts tops) ts → AtEachPair IsWithinSizes ts us
  tops_within pt_none g = tt
  tops_within (pt_more t r) g = (top_within t g.0, tops_within r g.1)

any_top : (names : Function → List (List ℕ)) (t : Top) → IsOwnTop Any names t
any_top names (T.Function g) = λ flat. tt
any_top names _ = tt

any_tops : (names : Function → List (List ℕ)) (ts : List Top) → AllByRecursion (IsOwnTop Any names) ts
any_tops names [] = tt
any_tops names (t ∷ ts) = (any_top names t, any_tops names ts)

pub sizes_are_bounded : SizesAreBounded
sizes_are_bounded names p q ms r w named =
    let ready = recursion_from_All (IsTopReady (code_of q) names) q.tops (resolved_ready flat_counts names p q ms r w named) in
    tops_within p.tops (plain_tops Any (code_of q) names w.flattened w.moved ready (any_tops names q.tops)) r.tops
