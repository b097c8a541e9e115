-- The item of a construct, from what was read of its parts.
use Rattle.std.proofs.Common.{◌≡◌, ◌∙◌, false, List, [], ◌∷◌, ◌++◌, Option, option_map, ap}
use Rattle.c_tree.specs.SectionLabels.{labels_passed}
use Rattle.c_grammar.specs.Terms.{Term}
use Rattle.c_grammar.specs.Items.{Start, Body, If, While, For, Switch}
use Rattle.c_statements.specs.Context.{Context, Walk, env_at, enter}
use Rattle.c_statements.specs.Declarations.{value_at}
use Rattle.c_statements.specs.Statements.{behind_start, start_items, dropped_at, body_items, switch_sections, statement_items}
use Rattle.c_tree.specs.declared.tree.Expression.{Expression}
use Rattle.c_tree.specs.declared.tree.Item as tree
use Rattle.c_tree.specs.declared.tree.Section.{Section}
use Rattle.c_tree.specs.declared.tree.Selector as selector
use Rattle.c_tree.specs.declared.tree.Test as test

pub if_items : (ctx : Context) (t : Term) (b : Body) (v w : Walk) (out new xs ys : List tree.Item) (e : Expression) →
    new ≡ out ++ tree.If (test.Source e) xs ys ∷ [] → e ≡ value_at (env_at ctx v) t
    → xs ≡ body_items ctx b w → ys ≡ [] → w ≡ v → new ≡ out ++ statement_items ctx (If t b) v
if_items ctx t b v w out new xs ys e h ev ex ey same = h ∙ (λ i. out ++ tree.If (test.Source (ev i)) ((ex ∙ ap (body_items ctx b) same) i) (ey i) ∷ [])

pub while_items : (ctx : Context) (t : Term) (b : Body) (v w : Walk) (out new xs : List tree.Item) (e : Expression) →
    new ≡ out ++ tree.While (test.Source e) xs ∷ [] → e ≡ value_at (env_at ctx v) t
    → xs ≡ body_items ctx b w → w ≡ v → new ≡ out ++ statement_items ctx (While t b) v
while_items ctx t b v w out new xs e h ev ex same = h ∙ (λ i. out ++ tree.While (test.Source (ev i)) ((ex ∙ ap (body_items ctx b) same) i) ∷ [])

pub for_items : (ctx : Context) (start : Start) (t u : Option Term) (b : Body) (v w : Walk) (out new ss xs : List tree.Item)
    (e f : Option Expression) → new ≡ out ++ tree.For ss e f xs ∷ []
    → ss ≡ start_items ctx start (enter v) → e ≡ option_map (value_at (env_at ctx (behind_start ctx start (enter v)))) t
    → f ≡ option_map (dropped_at (env_at ctx (behind_start ctx start (enter v)))) u → xs ≡ body_items ctx b w → w ≡ behind_start ctx start (enter v)
    → new ≡ out ++ statement_items ctx (For start t u b) v
for_items ctx start t u b v w out new ss xs e f h es ee ef ex same = h ∙ (λ i. out ++ tree.For (es i) (ee i) (ef i) ((ex ∙ ap (body_items ctx b) same) i) ∷ [])

pub switch_items : (ctx : Context) (t : Term) (b : Body) (v w : Walk) (out new : List tree.Item) (e : Expression) (ss : List Section) →
    new ≡ out ++ tree.Switch (selector.Source e) ss ∷ []
    → e ≡ value_at (env_at ctx v) t → ss ≡ labels_passed (switch_sections ctx b w) → w ≡ v → new ≡ out ++ statement_items ctx (Switch t b) v
switch_items ctx t b v w out new e ss h ev ex same = h ∙ (λ i. out ++ tree.Switch (selector.Source (ev i))
    ((ex ∙ ap (λ x. labels_passed (switch_sections ctx b x)) same) i) ∷ [])
