-- A function of a resolved program is its own plain form, and without jumps its own flat form.
use Rattle.std.proofs.Common.{◌≡◌, ℕ, zero, suc, false, true≢false, cond, List, [], length, Option, Some, None, refl, sym, ap, ◌∙◌}
use Rattle.std.specs.Option.{option_map_or}
use Rattle.std.proofs.lemmas.List.{nil_from_length}
use Rattle.c_tree.specs.declared.tree.Function.{Function}
use Rattle.c_tree.specs.declared.tree.Item.{Item}
use Rattle.c_tree.specs.Trees.{Nil, trees_of}
use Rattle.c_tree.specs.Everywhere.{Everywhere}
use Rattle.c_tree.specs.InRange.{body_of}
use Rattle.c_resolved_defs.specs.Form.{numbers_from, HasSourceForm, HasForm}
use Rattle.struct_meaning.specs.Structured.{IsStructured}
use Rattle.flat_form.specs.Flattened.{IsFormBeside, IsBodyForm, applied, IsFlattenedBeside}
use Rattle.flat_form.specs.declared.forms.Form.{Form}
use Rattle.flat_form.specs.declared.forms.Form.TheVariants.{Same, Calm, Flat}
use Rattle.plain_laws.specs.Plain.{tidied, with_guard_variables, plain_body, plain_function}
use Rattle.plain_laws.proofs.TidyTrees.{tidied_trees}
use Rattle.whole_laws.proofs.PlainTops.{no_body}
use Rattle.whole_laws.proofs.TidyForm.{unmarked}
use Rattle.restructure_laws.proofs.Items.{same_items}
use Rattle.whole_laws.proofs.Unlabelled.{unlabelled_same}
use Rattle.restructure_laws.proofs.Bodies.{tidy_same, plain_items, jumpless}

-- ---- the plain form

tidied_same : (f : Function) (xs : List Item) → Everywhere (HasSourceForm f) (trees_of xs) → tidied xs ≡ xs
tidied_same f xs h = same_items (tidied xs) xs (tidied_trees xs ∙ tidy_same f (trees_of xs) h)

plain_by : (ns : List (List ℕ)) (f : Function) (o : Option (List Item)) → f.body ≡ o → f.flat ≡ false →
    Everywhere (HasSourceForm f) (option_map_or trees_of o Nil) → plain_function ns f ≡ f
plain_by ns f None e unflat h = no_body ns f e
plain_by ns f (Some xs) e unflat h = ap (plain_body ns f) e ∙ ap (λ b. cond b (with_guard_variables ns f xs) (record f { body = Some (tidied xs) }))
    unflat ∙ ap (λ o. record f { body = o }) (ap Some (tidied_same f xs h) ∙ sym e)

pub plain_same : (ns : List (List ℕ)) (f : Function) → HasForm f → plain_function ns f ≡ f
plain_same ns f h = plain_by ns f f.body refl h.unflat h.items

-- ---- the flat form

none_there : (n : ℕ) → numbers_from 0 n ≡ [] → n ≡ 0
none_there zero e = refl
none_there (suc n) e = cc

unnamed : (f : Function) → HasForm f → Everywhere IsStructured (body_of f) → f.labels ≡ []
unnamed f h s = nil_from_length f.labels (none_there (length f.labels) (sym h.labels ∙ unmarked (body_of f) (plain_items f (body_of f) s h.items)))

module _ (used taken : List (List ℕ)) (f : Function) (labels : f.labels ≡ []) where
  body_same : (xs : List Item) (form : Form) → f.body ≡ Some xs → Everywhere IsStructured (trees_of xs) → Everywhere (HasSourceForm f) (trees_of xs) →
      IsBodyForm used taken (record f { body = Some xs }) xs form → applied form f ≡ f
  body_same xs Same e s h w = absurd w
  body_same xs (Calm new) e s h w =
      let body : Some new ≡ f.body = ap Some (same_items new xs (w.1 ∙ unlabelled_same (trees_of xs) s)) ∙ sym e in
      λ i. record f { labels = sym labels i; body = body i }
  body_same xs (Flat m) e s h w = absurd (true≢false (sym w.0 ∙ jumpless f (trees_of xs) s h))

  form_same : (o : Option (List Item)) (form : Form) → f.body ≡ o → Everywhere IsStructured (option_map_or trees_of o Nil) →
      Everywhere (HasSourceForm f) (option_map_or trees_of o Nil) → IsFormBeside used taken (record f { body = o }) form
      → applied form f ≡ f
  form_same None form e s h w = ap (λ form. applied form f) w
  form_same (Some xs) form e s h w = body_same xs form e s h w

pub flat_same : (used taken : List (List ℕ)) (f g : Function) → HasForm f → Everywhere IsStructured (body_of f) → IsFlattenedBeside used taken f g → g ≡ f
flat_same used taken f g h s w = w.whole ∙ form_same used taken f (unnamed f h s) f.body w.form refl s h.items w.is
