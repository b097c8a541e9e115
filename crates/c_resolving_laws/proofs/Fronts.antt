-- Nothing stands in front of the first section of a switch without a violation.
use Rattle.std.proofs.Common.{Bool, true, false, cond, ◌||◌, List, [], ◌++◌, None, ◌≡◌, refl, ap, ◌∙◌}
use Rattle.c_tree.specs.declared.tree.Section.{Section}
use Rattle.c_grammar.specs.Items.{Label, Item, Declares, States, Plain, Body, Braces, Lone, Items, NoItem}
use Rattle.c_grammar.specs.Items as items
use Rattle.c_statements.specs.declared.anchors.Anchor.TheVariants.{AtEnd}
use Rattle.c_statements.specs.Context.{Context, Walk, Around, env_at, enter, notes_at}
use Rattle.c_statements.specs.Labels.{has_case, labels_items}
use Rattle.c_statements.specs.Sections.{front}
use Rattle.c_statements.specs.Statements.{plain_items, behind_plain, sections_from, sections_at, switch_sections, outside_item, outside_items, is_null}
use Rattle.c_statements.specs.Violations.{outside_faults, outside_fault, switch_body_faults}
use Rattle.c_resolving_laws.proofs.Lists.{none_left}
use Rattle.c_resolving_laws.proofs.Parts.{Outside, outside_declares, outside_parts, outside_one}

-- the sections alone
abbrev pub later_sections : Context → Body → Walk → List Section
later_sections ctx (Braces first after xs) w = sections_from ctx None xs (notes_at ctx (AtEnd first)) (enter w)
later_sections ctx (Lone first after x) w = sections_at ctx None x (notes_at ctx (AtEnd first)) (enter w)

module _ (ctx : Context) (around : Around) where
  none_outside : (xs : Items) (w : Walk) → outside_faults ctx around xs w [] ≡ [] → outside_items ctx xs w ≡ []
  none_outside NoItem w e = refl
  none_outside (items.Then (Declares first after d) xs) w e = absurd (outside_declares ctx around w first after d xs e)
  none_outside (items.Then (States ls p) xs) w e = by (has_case ls) (outside_parts ctx around w ls p xs e).1 (none_outside xs (behind_plain ctx p w))
    where
      by : (b : Bool) → Outside ctx around w b ls p xs → (outside_faults ctx around xs (behind_plain ctx p w) [] ≡ [] →
          outside_items ctx xs (behind_plain ctx p w) ≡ [])
          → cond b [] (cond (b || is_null ls p) [] (labels_items ctx (env_at ctx w) ls ++ plain_items ctx p w) ++
          outside_items ctx xs (behind_plain ctx p w)) ≡ []
      by true o f = refl
      by false o f = ap (λ n. cond n [] (labels_items ctx (env_at ctx w) ls ++ plain_items ctx p w) ++ outside_items ctx xs (behind_plain ctx p w)) o.0 ∙ f o.1

  none_alone : (x : Item) (w : Walk) → outside_fault ctx around x w [] ≡ [] → outside_item ctx x w ≡ []
  none_alone (Declares first after d) w e = absurd (none_left _ _ e)
  none_alone (States ls p) w e = by (has_case ls) (outside_one ctx around w ls p e).1
    where
      by : (b : Bool) → Outside ctx around w b ls p NoItem → cond (b || is_null ls p) [] (labels_items ctx (env_at ctx w) ls ++ plain_items ctx p w) ≡ []
      by true o = refl
      by false o = ap (λ n. cond n [] (labels_items ctx (env_at ctx w) ls ++ plain_items ctx p w)) o.0

  pub no_front : (b : Body) (w : Walk) → switch_body_faults ctx around b w [] ≡ [] → switch_sections ctx b w ≡ later_sections ctx b w
  no_front (Braces first after xs) w e = ap (λ l. front l ++ sections_from ctx None xs (notes_at ctx (AtEnd first)) (enter w)) (none_outside xs (enter w) e)
  no_front (Lone first after x) w e = ap (λ l. front l ++ sections_at ctx None x (notes_at ctx (AtEnd first)) (enter w)) (none_alone x (enter w) e)
