-- Each label of a resolved function stands at most once, and each of its switches has different cases.
use Rattle.std.proofs.Common.{List, length, Option, Some, None, option_map}
use Rattle.std.specs.Prelude.{IsSomeAnd}
use Rattle.c_types.specs.declared.kinds.IntKind.{IntKind}
use Rattle.c_types.specs.Numbers.{promoted}
use Rattle.c_tree.specs.declared.tree.Function.{Function}
use Rattle.c_tree.specs.declared.tree.Top.{Top}
use Rattle.c_tree.specs.TestTrees.{SelectorTree}
use Rattle.c_tree.specs.Constants.{kind_of}
use Rattle.c_tree.specs.Cases.{selector_source, selector_kind}
use Rattle.c_tree.specs.Trees.{Tree, Switch, Land}
use Rattle.c_tree.specs.InRange.{body_of}
use Rattle.c_tree.proofs.WellMoved.{everywhere_map, everywhere_both}
use Rattle.jump_meaning.specs.Operations.{operand_kind}
use Rattle.jump_meaning.specs.Step.{switch_kind}
use Rattle.flat_laws.specs.Parts as P
use Rattle.lower_laws.specs.Source.{HasOwnCases, HasOwnLabels}
use Rattle.c_resolved_defs.specs.Form.{HasSourceForm}
use Rattle.c_resolved_defs.specs.Switches.{switch_labels, AreLabels, HasCases}
use Rattle.c_resolved_defs.specs.Limits.{FlatCounts}
use Rattle.c_resolved_defs.specs.Resolved.{IsResolvedFunction}
use Rattle.c_resolved_laws.proofs.LabelsGiven.{function_labels, own_labels}

-- a fact of the kind of a selector, and of the kind in which its switch compares
pub kind_there : (s : SelectorTree) (Q : IntKind → Type 0) → IsSomeAnd (selector_kind s) Q → Q (switch_kind s)
kind_there s Q h = promoted_there (kind_of (selector_source s)) h
  where
    promoted_there : (o : Option IntKind) → IsSomeAnd (option_map promoted o) Q → Q (promoted (operand_kind o))
    promoted_there None i = absurd i
    promoted_there (Some k) i = i

own_cases : (f : Function) (x : Tree) → HasCases x × HasSourceForm f x → HasOwnCases x
own_cases f (Switch s c) h = own_labels (switch_kind s) c (kind_there s (λ k. AreLabels k (switch_labels c)) h.0)
own_cases f (Land l) h = absurd h.1
own_cases f x h = tt

pub function_own : (counts : FlatCounts) (ts : List Top) (f : Function) → IsResolvedFunction counts ts f → HasOwnLabels (length f.labels) (body_of f)
function_own counts ts f r =
    let l = function_labels counts ts f r in
    record {
      once = l.once;
      all = l.all;
      cases = everywhere_map (λ x. HasCases x × HasSourceForm f x) HasOwnCases (own_cases f) (body_of f)
          (everywhere_both HasCases (HasSourceForm f) (body_of f) r.cases r.form.items);
    }
