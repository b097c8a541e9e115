-- What functions give that are equal but for their bodies.
use mathlib.Core.Path.{ap₂}
use Rattle.std.proofs.Common.{ℕ, ℤ, Bool, List, [], take, All, Option, None, IsSome, IsNone, ◌↔◌, ◌≡◌, sym, ap, ◌∙◌, subst}
use Rattle.c_types.specs.declared.kinds.IntKind.{IntKind}
use Rattle.c_tree.specs.declared.tree.Slot.{Slot}
use Rattle.jump_meaning.specs.Values.{Value}
use Rattle.jump_meaning.specs.Code.{FunctionTree, Code}
use Rattle.jump_meaning.specs.World.{World, push}
use Rattle.jump_meaning.specs.Known.{call_without_body}
use Rattle.jump_meaning.specs.Calls.{returned, leave_call, leave_entry}
use Rattle.jump_meaning.specs.Runs.{IsEntry}

-- the functions are equal but for their bodies
pub record HaveSameFace (f h : FunctionTree) : Type 0 where
  pub result : f.result ≡ h.result
  pub params : f.params ≡ h.params
  pub slots : f.slots ≡ h.slots

-- a function with these parts, and no body
abbrev parts : Option IntKind → ℕ → List Slot → FunctionTree
parts r n s = record { result = r; params = n; slots = s; body = None }

module _ {f h : FunctionTree} (same : HaveSameFace f h) where
  pub push_alike : (vs : List Value) (w : World) → push f vs w ≡ push h vs w
  push_alike vs w = ap₂ (λ n s. push (parts None n s) vs w) same.params same.slots

  pub entry_alike : (x : Value) (w : World) → leave_entry f x w ≡ leave_entry h x w
  entry_alike x w = ap (λ r. leave_entry (parts r 0 []) x w) same.result

  pub call_alike : (d : Bool) (x : Value) (w : World) → leave_call d f x w ≡ leave_call d h x w
  call_alike d x w = ap₂ (λ r s. leave_call d (parts r 0 s) x w) same.result same.slots

  pub returned_alike : (x : Value) → returned f x ≡ returned h x
  returned_alike x = ap (λ r. returned (parts r 0 []) x) same.result

  pub without_body_alike : (m : List ℕ) (vs : List Value) (w : World) → call_without_body m f vs w ≡ call_without_body m h vs w
  without_body_alike m vs w = ap₂ (λ r s. call_without_body m (parts r 0 s) vs w) same.result same.slots

-- the same entries, where both have a body or none has
pub same_entries : (p q : Code) (m : List ℕ) → HaveSameFace (p.functions m) (q.functions m) →
    IsSome (p.functions m).body ↔ IsSome (q.functions m).body → (arguments : List ℤ) → IsEntry p m arguments ↔ IsEntry q m arguments
same_entries p q m h b arguments =
    let f = p.functions m in
    let f' = q.functions m in (
      (λ e. record {
        defined = b.0 e.defined;
        numbers = subst (λ s. All (λ s. IsNone s.cells) (take f'.params s)) h.slots
            (subst (λ n. All (λ s. IsNone s.cells) (take n f.slots)) h.params e.numbers);
        given = e.given ∙ h.params;
      }),
      (λ e. record {
        defined = b.1 e.defined;
        numbers = subst (λ s. All (λ s. IsNone s.cells) (take f.params s)) (sym h.slots)
            (subst (λ n. All (λ s. IsNone s.cells) (take n f'.slots)) (sym h.params) e.numbers);
        given = e.given ∙ sym h.params;
      }),
    )
