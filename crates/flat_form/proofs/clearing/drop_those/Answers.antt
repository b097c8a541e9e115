use Rattle.std.proofs.Common.{rules, not, ap, ◌∙◌}
use Rattle.std.proofs.lemmas.Fn.{filter_same}
use Rattle.c_tree.specs.Trees.{trees_of}
use Rattle.c_tree.specs.Views.{tree_at}
use Rattle.flat_form.specs.Cleared.{goes, kept}
use Rattle.flat_form.proofs.Cleared.{kept_items}
use Rattle.flat_form.proofs.clearing.drop_those.Goals as goal

pub returns : goal.returns
returns c =
    let s = c.args.strays in
    ap trees_of (c.put.ensures ∙ filter_same _ (λ x. not (goes s (tree_at x))) _ (λ x b f' k. search rules) _ _ c.retain.ensures.filtered)
    ∙ kept_items s _ ∙ ap (λ z. kept s (trees_of z)) c.take-items.ensures.items
