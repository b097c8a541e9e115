-- The plan of the code is that of the definition.
use Rattle.std.proofs.Common.{◌≡◌, ℕ, ℤ, ◌+◌, ◌*◌, Bool, List, [], get_or, None, arith, refl, ap, ◌∙◌}
use Rattle.std.specs.Option.{option_map_or}
use Rattle.std.proofs.Math.Path.{fun_ext}
use Rattle.c_types.specs.declared.kinds.IntKind.{IntKind}
use Rattle.c_tree.specs.declared.tree.Slot.{Slot}
use Rattle.c_tree.specs.ExpressionTrees.{ExpressionTree}
use Rattle.c_tree.specs.Numerals.{constant}
use Rattle.c_tree.specs.Trees.{Forest}
use Rattle.flat_laws.specs.Parts.{is_named}
use Rattle.flat_laws.specs.FlatForm.{Plan, coded}
use Rattle.flat_questions.specs.Reading.{is_flagged}
use Rattle.flat_items.specs.declared.plans.Plan as L
use Rattle.flat_items.specs.Plans.{number_at, plan_of}

plan_equal : {a a' : ℕ → Bool} {b b' c c' d d' e e' f f' : ℕ → ℕ} {g g' : List Slot} {n n' : IntKind → ℤ → ExpressionTree} → a ≡ a' → b ≡ b' →
    c ≡ c' → d ≡ d' → e ≡ e' → f ≡ f' → g ≡ g' → n ≡ n'
    → (let p : Plan = record { live = a; source = b; break_label = c; continue_label = d; default_label = e; case_label = f; slots = g; number = n } in p)
    ≡ record { live = a'; source = b'; break_label = c'; continue_label = d'; default_label = e'; case_label = f'; slots = g'; number = n' }
plan_equal a b c d e f g h = cc

-- what a plan has before the places of its labels are known
pub record IsCoded (p : L.Plan) (slots : List Slot) (n : ℕ) (body : Forest) : Type 0 where
  pub named : (l : ℕ) → is_flagged p.named l ≡ is_named body l
  pub table : p.places.table ≡ []
  pub behind : p.places.behind ≡ 0
  pub count : p.count ≡ n
  pub slots_are : p.slots ≡ slots

same_code : (p : L.Plan) → p.places.table ≡ [] → p.places.behind ≡ 0 → (c : ℕ) → number_at p.places c ≡ c
same_code p t b c =
    let z : c + 0 ≡ c = omega arith in
    ap (λ x. option_map_or (λ n. n) (get_or x c None) (c + p.places.behind)) t ∙ ap (λ x. c + x) b ∙ z

pub coded_is : (p : L.Plan) (slots : List Slot) (n : ℕ) (body : Forest) → IsCoded p slots n body → plan_of p ≡ coded constant slots n body
coded_is p slots n body h =
    let same = same_code p h.table h.behind in
    plan_equal (fun_ext h.named) (fun_ext same)
    (fun_ext (λ (k : ℕ). same (p.count + 4 * k) ∙ ap (λ m. m + 4 * k) h.count))
    (fun_ext (λ (k : ℕ). same (p.count + (4 * k + 1)) ∙ ap (λ m. m + (4 * k + 1)) h.count))
    (fun_ext (λ (k : ℕ). same (p.count + (4 * k + 2)) ∙ ap (λ m. m + (4 * k + 2)) h.count))
    (fun_ext (λ (k : ℕ). same (p.count + (4 * k + 3)) ∙ ap (λ m. m + (4 * k + 3)) h.count))
    h.slots_are refl
