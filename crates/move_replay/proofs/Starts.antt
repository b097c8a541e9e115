-- Where the moves begin: there is one such program, and its flat functions are well made.
use Rattle.std.proofs.Common.{◌≡◌, ℕ, true, true≢false, List, ◌∷◌, Option, Some, None, All, refl, sym, ap, ap₂, subst, ◌∙◌}
use Rattle.c_copies.specs.Names.{names, file_names}
use Rattle.c_tree.specs.declared.tree.Function.{Function}
use Rattle.c_tree.specs.declared.tree.Item.{Item}
use Rattle.c_tree.specs.declared.tree.Top.{Top}
use Rattle.c_tree.specs.declared.tree.Top.TheVariants as T
use Rattle.c_tree.specs.declared.tree.Program.{Program}
use Rattle.flat_names.specs.FlatNames.{with_known}
use Rattle.flat_form.specs.declared.forms.Form.{Form}
use Rattle.flat_form.specs.declared.forms.Form.TheVariants.{Same, Calm, Flat}
use Rattle.flat_form.specs.Flattened.{IsBodyForm, applied, IsFlattened}
use Rattle.c_resolved_laws.specs.Counts.{flat_counts, IsResolved}
use Rattle.whole_laws.specs.Rewritten.{FlatTops}
use Rattle.restructure_laws.specs.Flattened.{FlattenedTop, fd_function, fd_other, FlattenedTops, fd_none, fd_more}
use Rattle.restructure_laws.proofs.NamedTops.{named_program_laws}
use Rattle.restructure_laws.specs.Replayed.{converted_tops, IsTopWellMade}
use Rattle.restructure_laws.proofs.OneBody.{same_items}
use Rattle.restructure_laws.proofs.Whole.{replayed_laws}
use Rattle.move_replay.specs.Replay.{IsStart}

-- ---- flat forms

module _ (ns file : List (List ℕ)) (f : Function) where
  same_body : (body : List Item) (a b : Form) → IsBodyForm ns file f body a → IsBodyForm ns file f body b → applied a f ≡ applied b f
  same_body body Same b h k = absurd h
  same_body body (Calm new) Same h k = absurd k
  same_body body (Calm new) (Calm other) h k = ap (λ z. applied (Calm z) f) (same_items f new other (h.1 ∙ sym k.1))
  same_body body (Calm new) (Flat m) h k = absurd (true≢false (sym k.0 ∙ h.0))
  same_body body (Flat m) Same h k = absurd k
  same_body body (Flat m) (Calm other) h k = absurd (true≢false (sym h.0 ∙ k.0))
  same_body body (Flat m) (Flat n) h k =
      let e = same_items f m.body n.body (h.1 ∙ sym k.1) in
      let g = h.2 ∙ sym k.2 in
      λ i. record f { slots = (g i).slots; labels = (g i).labels; body = Some (e i); flat = true }

  abbrev FormOf : Option (List Item) → Form → Type 0
  FormOf o a = elim o [ None ↦ a ≡ Same | Some body ↦ IsBodyForm ns file f body a ]

  same_form : (o : Option (List Item)) (a b : Form) → FormOf o a → FormOf o b → applied a f ≡ applied b f
  same_form None a b h k = ap (λ z. applied z f) (h ∙ sym k)
  same_form (Some body) a b h k = same_body body a b h k

same_function : (ns file : List (List ℕ)) (f g h : Function) → IsFlattened ns file f g → IsFlattened ns file f h → g ≡ h
same_function ns file f g h a b = a.whole ∙ same_form (with_known ns) (with_known file) f f.body a.form b.form a.is b.is ∙ sym b.whole

module _ (ns file : List (List ℕ)) where
  same_top : {t u v : Top} → FlattenedTop ns file t u → FlattenedTop ns file t v → u ≡ v
  same_top (fd_function {f = f} {g = g} a n) (fd_function {g = h} b m) = ap T.Function (same_function ns file f g h a b)
  same_top (fd_function {f = f} a n) (fd_other t o) = absurd o
  same_top (fd_other t o) (fd_function b m) = absurd o
  same_top (fd_other t o) (fd_other u p) = refl

  pub same_flat : {ts us vs : List Top} → FlattenedTops ns file ts us → FlattenedTops ns file ts vs → us ≡ vs
  same_flat fd_none fd_none = refl
  same_flat (fd_more a r) (fd_more b s) = ap₂ (λ (t : Top) (ts : List Top). t ∷ ts) (same_top a b) (same_flat r s)

-- ---- starts

pub one_flat : (p : Program) (us vs : List Top) (a : IsStart p us) (b : IsStart p vs) → a.flat ≡ b.flat
one_flat p us vs a b = same_flat (names p) (file_names p) a.flattened b.flattened

pub one_start : (p : Program) (us vs : List Top) → IsStart p us → IsStart p vs → us ≡ vs
one_start p us vs a b = a.is ∙ ap converted_tops (one_flat p us vs a b) ∙ sym b.is

pub flat_tops : (p : Program) (us : List Top) → IsResolved p → (a : IsStart p us) → FlatTops p.tops a.flat
flat_tops p us r a = named_program_laws.flat (names p) (file_names p) flat_counts p a.flat r a.flattened

pub start_made : (p : Program) (us : List Top) → IsResolved p → IsStart p us → All IsTopWellMade us
start_made p us r a = subst (All IsTopWellMade) (sym a.is) (replayed_laws.well_made flat_counts p a.flat r (flat_tops p us r a))
