-- What a program is flattened to is one.
use Rattle.std.proofs.Common.{◌≡◌, ℕ, true≢false, List, ◌∷◌, Option, Some, None, refl, sym, ap, ◌∙◌}
use Rattle.c_tree.specs.declared.tree.Function.{Function}
use Rattle.c_tree.specs.declared.tree.Item.{Item}
use Rattle.c_tree.specs.declared.tree.Top.{Top}
use Rattle.c_tree.specs.declared.tree.Top.TheVariants as T
use Rattle.flat_names.specs.FlatNames.{with_known}
use Rattle.flat_form.specs.Flattened.{IsBodyForm, IsFormBeside, applied, IsFlattenedBeside}
use Rattle.flat_form.specs.declared.forms.Form.{Form}
use Rattle.flat_form.specs.declared.forms.Form.TheVariants.{Same, Calm, Flat}
use Rattle.restructure_laws.specs.Flattened.{FlattenedTop, fd_function, fd_other, FlattenedTops, fd_none, fd_more}
use Rattle.restructure_laws.proofs.Items.{same_items}

module _ (used taken : List (List ℕ)) where
  one_body : (f : Function) (xs : List Item) (a b : Form) → IsBodyForm used taken f xs a → IsBodyForm used taken f xs b → a ≡ b
  one_body f xs Same b v w = absurd v
  one_body f xs (Calm a) Same v w = absurd w
  one_body f xs (Calm a) (Calm b) v w = ap Calm (same_items a b (v.1 ∙ sym w.1))
  one_body f xs (Calm a) (Flat n) v w = absurd (true≢false (sym w.0 ∙ v.0))
  one_body f xs (Flat m) Same v w = absurd w
  one_body f xs (Flat m) (Calm b) v w = absurd (true≢false (sym v.0 ∙ w.0))
  one_body f xs (Flat m) (Flat n) v w =
      let body = same_items m.body n.body (v.1 ∙ sym w.1) in
      let names = v.2 ∙ sym w.2 in
      λ i. Flat (record { body = body i; names = names i })

  one_form : (f : Function) (o : Option (List Item)) (a b : Form) → IsFormBeside used taken (record f { body = o }) a →
      IsFormBeside used taken (record f { body = o }) b → a ≡ b
  one_form f None a b v w = v ∙ sym w
  one_form f (Some xs) a b v w = one_body (record f { body = Some xs }) xs a b v w

  one_function : (f g h : Function) → IsFlattenedBeside used taken f g → IsFlattenedBeside used taken f h → g ≡ h
  one_function f g h v w = v.whole ∙ ap (λ form. applied form f) (one_form f f.body v.form w.form v.is w.is) ∙ sym w.whole

module _ (names file : List (List ℕ)) where
  one_top : {t u v : Top} → FlattenedTop names file t u → FlattenedTop names file t v → u ≡ v
  one_top (fd_function {f = f} {g = g} v held) (fd_function {g = h} w also) = ap T.Function (one_function (with_known names) (with_known file) f g h v w)
  one_top (fd_function v held) (fd_other t n) = absurd n
  one_top (fd_other t n) (fd_function w held) = absurd n
  one_top (fd_other t n) (fd_other u m) = refl

  pub one_flat : {ts us vs : List Top} → FlattenedTops names file ts us → FlattenedTops names file ts vs → us ≡ vs
  one_flat fd_none fd_none = refl
  one_flat (fd_more v vs) (fd_more w ws) = let e = one_top v w in let es = one_flat vs ws in λ i. e i ∷ es i
