-- A function that is not too tangled as it is written is within the limits of the tree.
use Rattle.std.proofs.Common.{ℕ, ◌+◌, ◌*◌, ◌≤◌, false, ◌||◌, nat_lt, List, [], ◌∷◌, ◌++◌, map, length, drop, Some, ◌≡◌, sym, ap, subst, ◌∙◌, arith, ltb-false}
use Rattle.c_tree.specs.declared.tree.Slot.{Slot}
use Rattle.c_tree.specs.Trees.{trees_of}
use Rattle.c_grammar.specs.Items.{Body, Braces, Lone}
use Rattle.c_grammar.specs.Tops.{Function}
use Rattle.c_statements.specs.declared.anchors.Anchor.{Anchor}
use Rattle.c_statements.specs.declared.anchors.Anchor.TheVariants.{AtEnd}
use Rattle.c_statements.specs.Context.{Context, Walk, notes_at}
use Rattle.c_statements.specs.Functions.{parameter_slot, body_items, behind_body, context, inside, measures}
use Rattle.c_resolving_laws.proofs.Defined.{defined}
use Rattle.c_statements.specs.Labels.{body_labels, distinct}
use Rattle.c_statements.specs.Measures.{body_depth, body_longest, item_depth, list_depth, is_tangled}
use Rattle.c_statements.specs.Statements.{list_items, item_items}
use Rattle.c_kinds.specs.Scopes.{Scope}
use Rattle.c_resolved_defs.specs.Limits.{IsShort, IsWithinLimits, most_counted}
use Rattle.c_resolved_defs.specs.PrintableStatements.{depth}
use Rattle.c_resolved_defs.specs.Within.{Each}
use Rattle.c_resolving_laws.specs.Counts.{IsFewBody}
use Rattle.c_resolving_laws.proofs.FunctionTrees.{inside_slots, drop_all}
use Rattle.c_resolving_laws.proofs.Grown.{Grown}
use Rattle.c_resolving_laws.proofs.Limited.{short_both, short_notes, item_short, list_short}
use Rattle.c_resolving_laws.proofs.Lists.{or_left, or_right}
use Rattle.c_resolving_laws.proofs.Longest.{body_names, item_slots, list_slots, ShortName}

module _ (ctx : Context) (K : ℕ) where
  pub record Bounded (b : Body) (w : Walk) : Type 0 where
    pub shallow : depth (trees_of (body_items ctx b w)) + 1 ≤ body_depth b
    pub few : most_counted (trees_of (body_items ctx b w)) ≤ K

  pub body_bounded : (b : Body) (w : Walk) → IsFewBody ctx.word K b → Bounded b w
  body_bounded (Braces first after xs) w h =
      let l = short_both ctx K (list_depth xs) (list_items ctx xs w) (notes_at ctx (AtEnd first))
      (list_short ctx K xs w (list_depth xs) h (omega arith)) (short_notes ctx K (list_depth xs) (AtEnd first)) in
      record { shallow = let z = l.shallow in omega arith; few = l.few }
  body_bounded (Lone first after x) w h =
      let l = short_both ctx K (item_depth x) (item_items ctx x w) (notes_at ctx (AtEnd first)) (item_short ctx K x w (item_depth x) h (omega arith))
      (short_notes ctx K (item_depth x) (AtEnd first)) in
      record { shallow = let z = l.shallow in omega arith; few = l.few }

body_grows : (ctx : Context) (L : ℕ) (b : Body) (w : Walk) → body_longest ctx.word b ≤ L → Grown (ShortName ctx L) w.slots (behind_body ctx b w).slots
body_grows ctx L (Braces first after xs) w h = list_slots ctx L xs w h
body_grows ctx L (Lone first after x) w h = item_slots ctx L x w h

each_word : (word : ℕ → List ℕ) (ats : List ℕ) → Each (λ at. length (word at) ≤ 63) ats → Each IsShort (map word ats)
each_word word [] h = tt
each_word word (at ∷ ats) h = (h.0, each_word word ats h.1)

pub within_limits : (word : ℕ → List ℕ) (notes : Anchor → List (List ℕ)) (f : Function) (b : Body) (scopes : List Scope) (n : ℕ × ℕ) →
    IsFewBody word f.counted b → is_tangled (measures word f b n) ≡ false
    → distinct (map word (body_labels b [])) ≡ map word (body_labels b []) → IsWithinLimits (defined word notes f (Some b) scopes) n
within_limits word notes f b scopes n h e d =
    let ctx = context word notes f b in
    let w = inside word f scopes in
    let x = nat_lt 400 (body_depth b + 3 * n.0) in
    let y = nat_lt 400 (f.counted + 6 * n.1) in
    let z = nat_lt 63 (body_longest word b) in
    let first = or_left (x || y) z e in
    let deep = ltb-false 400 (body_depth b + 3 * n.0) (or_left x y first) in
    let many = ltb-false 400 (f.counted + 6 * n.1) (or_right x y first) in
    let long = ltb-false 63 (body_longest word b) (or_right (x || y) z e) in
    let s = body_bounded ctx f.counted b w h in
    let g = body_grows ctx 63 b w long in
    let whole = g.whole ∙ ap (λ l. l ++ g.more) (inside_slots word f scopes) in
    record {
      depth = let k = s.shallow in omega arith;
      counted = let k = s.few in omega arith;
      labels = subst (Each IsShort) (sym d) (each_word word (body_labels b []) (body_names ctx 63 b [] long tt));
      variables = subst (Each (λ (s : Slot). IsShort s.name))
          (sym (ap (drop (length f.parameters)) whole ∙ drop_all (parameter_slot word) f.parameters g.more)) g.good;
    }
