-- A flat form with its codes, of which the labels then get their numbers, is the flat form of the definition.
use Rattle.std.proofs.Common.{◌≡◌, ℕ, List, length, ap, ◌∙◌}
use Rattle.std.proofs.Math.Path.{fun_ext}
use Rattle.c_tree.specs.declared.tree.Function.{Function}
use Rattle.c_tree.specs.Numerals.{constant}
use Rattle.c_tree.specs.Trees.{Forest}
use Rattle.flat_laws.specs.Loose.{NoArrival}
use Rattle.flat_laws.specs.Pieces.{Stays}
use Rattle.flat_laws.specs.FlatForm.{coded, first_here, flat_body, marks, place_in}
use Rattle.flat_laws.specs.Relabelled.{relabelled}
use Rattle.flat_laws.proofs.Relabelled.{flat_labels}
use Rattle.flat_form.specs.Codes.{coded_form, label_codes}

pub renumbered : (f : Function) (body form : Forest) (codes : List ℕ) (number : ℕ → ℕ)
    → form ≡ coded_form f body → codes ≡ marks form → ((c : ℕ) → number c ≡ place_in codes c)
    → relabelled number form ≡ flat_body constant f.slots (length f.labels) body
renumbered f body form codes number e are same =
    let first = first_here (length f.slots) in
    let plan = coded constant f.slots (length f.labels) body in
    let place = place_in (label_codes f body) in
    let by : (c : ℕ) → number c ≡ place c = λ c. same c ∙ ap (λ z. place_in z c) (are ∙ ap marks e) in
    ap (λ z. relabelled z form) (fun_ext by) ∙ ap (relabelled place) e ∙ flat_labels place plan body first Stays Stays NoArrival
