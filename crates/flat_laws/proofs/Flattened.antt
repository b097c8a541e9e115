-- The laws of the flat form.
use Rattle.std.proofs.Common.{ℕ, Bool, true, false, cond, Option, Some, None, ◌≡◌, refl, sym, ◌∙◌, ap, subst, true≢false}
use Rattle.c_tree.specs.Trees.{Forest}
use Rattle.jump_meaning.specs.Code.{FunctionTree, items_of}
use Rattle.flat_laws.specs.Pieces.{Stays}
use Rattle.flat_laws.specs.Placed.{IsOnce}
use Rattle.flat_laws.specs.Loose.{Setting, Open, NoArrival, Looser, IsLooser}
use Rattle.flat_laws.proofs.Placing.{once_placed}
use Rattle.flat_laws.specs.Parts.{Here}
use Rattle.flat_laws.specs.FlatForm.{Plan, flat}
use Rattle.flat_laws.specs.FlatLaws.{IsSourceBody, IsFlattened, FlatLaws}
use Rattle.flat_laws.proofs.Derived.{derived}
use Rattle.flat_laws.proofs.Once.{flat_once}
use Rattle.flat_laws.proofs.Unlabelled.{without_labels}

of_bodies : (p : Plan) (s : Setting) (h : Here) (body : Forest) → IsSourceBody p s h body →
    Looser s Open Stays Stays NoArrival body (flat p h Stays Stays NoArrival body)
of_bodies p s h body i = derived p s i.labels i.slots i.number body h Stays Stays NoArrival (i.items, i.variables, i.bound, tt) tt

abbrev is_some_number : Option ℕ → Bool
is_some_number (Some n) = true
is_some_number None = false

pub live_if : (b : Bool) (m n : ℕ) → cond b (Some m) None ≡ Some n → b ≡ true
live_if true m n e = refl
live_if false m n e = absurd (true≢false (sym (ap is_some_number e)))

pub of_functions : (p : Plan) (s : Setting) (h : Here) (f g : FunctionTree) → IsFlattened p s h f g → IsOnce (items_of f) → IsOnce (items_of g) → IsLooser f g
of_functions p s h f g i once once' = record {
  setting = s;
  defined = i.defined;
  new_defined = i.new_defined;
  related = subst (λ b. Looser s Open Stays Stays NoArrival (items_of f) b) (sym i.body) (of_bodies p s h (items_of f) i.source);
  placed = once_placed (items_of f) once;
  new_placed = once_placed (items_of g) once';
  named = λ l n e. i.named l (live_if (p.live l) (p.source l) n (sym (i.source.labels l) ∙ e));
  result = i.result;
  params = i.params;
  slots = i.slots;
  same_params = i.same_params;
  same_old = i.same_old;
  same_new = i.same_new;
}

pub flat_laws : FlatLaws
flat_laws = record { of_bodies = of_bodies; once = flat_once; of_functions = of_functions; unlabelled = without_labels }
