-- One function more, and one call more.
use Rattle.std.proofs.Common.{◌≡◌, ℕ, ◌+◌, List, ◌++◌, refl, ap, sym, ◌∙◌, add-one}
use Rattle.std.specs.Prelude.{codes}
use Rattle.std.specs.Fmt.{decimal}
use Rattle.std.proofs.lemmas.List.{append_assoc}
use Rattle.demo_gen.specs.DemoText.{function_text, functions, call_text, calls}

next_function : (k : ℕ) → functions (k + 1) ≡ functions k ++ function_text k
next_function k = rw add-one refl

next_call : (k : ℕ) → calls (k + 1) ≡ calls k ++ call_text k
next_call k = rw add-one refl

pub one_function : (a b c : List ℕ) (k : ℕ) → b ≡ a ++ functions k → c ≡ b ++ function_text k → c ≡ a ++ functions (k + 1)
one_function a b c k e f = f ∙ ap (λ xs. xs ++ function_text k) e ∙ append_assoc a (functions k) (function_text k) ∙ ap (λ xs. a ++ xs) (sym (next_function k))

pub one_call : (a b c : List ℕ) (k : ℕ) → b ≡ a ++ calls k → c ≡ b ++ call_text k → c ≡ a ++ calls (k + 1)
one_call a b c k e f = f ∙ ap (λ xs. xs ++ call_text k) e ∙ append_assoc a (calls k) (call_text k) ∙ ap (λ xs. a ++ xs) (sym (next_call k))

pub call_line : (a b c d : List ℕ) (k : ℕ) → b ≡ a ++ codes "    t = t + f" → c ≡ b ++ decimal k → d ≡ c ++ codes "(3);\n" → d ≡ a ++ call_text k
call_line a b c d k e f g =
    g ∙ ap (λ xs. xs ++ codes "(3);\n") (f ∙ ap (λ xs. xs ++ decimal k) e) ∙
    ap (λ xs. xs ++ codes "(3);\n") (append_assoc a (codes "    t = t + f") (decimal k))
    ∙ append_assoc a (codes "    t = t + f" ++ decimal k) (codes "(3);\n")
