-- The law of cores, of programs as the meaning reads them and of resolved programs.
use Rattle.std.proofs.Common.{ℕ, Bool, true, false, ◌&&◌, List, [], ◌∷◌, Option, Some, None, is_some, ◌≡◌, refl, sym, ◌∙◌, ◌⊎◌, inl, inr, true≢false, All, bytes_eq, option_map}
use Rattle.std.specs.List.{AllByRecursion}
use Rattle.std.specs.Option.{option_map_or}
use Rattle.std.proofs.lemmas.List.Elements.{recursion_from_All}
use Rattle.c_tree.specs.declared.tree.Item.{Item}
use Rattle.c_tree.specs.declared.tree.Function.{Function}
use Rattle.c_tree.specs.declared.tree.Top.{Top}
use Rattle.c_tree.specs.declared.tree.Top.TheVariants as T
use Rattle.c_tree.specs.declared.tree.Program.{Program}
use Rattle.c_tree.specs.Trees.{Tree, Forest, Nil, Then, Sections, NoSection, Section, If, While, Do, For, Switch, Block, Goto, Mark, trees_of}
use Rattle.c_tree.specs.Everywhere.{Everywhere, EverywhereOf, EverywhereIn}
use Rattle.c_tree.specs.InRange.{IsProgramInRange, body_of}
use Rattle.jump_meaning.specs.Code.{FunctionTree, Code, items_of, function_tree, undeclared, function_in, first_of, code_of}
use Rattle.jump_meaning.specs.Runs.{SameBehaviour, BehaveTheSame}
use Rattle.jump_meaning.specs.Steady.{IsUnjumping, IsConvertedFunction, IsMadeWell, IsTopMadeWell, IsSteadyCode, IsSteady}
use Rattle.jump_meaning.proofs.Growth.{either}
use Rattle.core_laws.specs.Core.{core_code}
use Rattle.core_laws.specs.Better.{LeCode}
use Rattle.core_laws.specs.Laws.{IsMadeBody, HasMadeBodies, CoreLaws}
use Rattle.core_laws.proofs.Theorem.{rewritten}
use Rattle.core_laws.proofs.Made.{placed}

-- ---- whether a function is converted

abbrev Decided : Type 0 → Type 0
Decided A = A ⊎ ¬ A

both : {A B : Type 0} → Decided A → Decided B → Decided (A × B)
both (inl a) (inl b) = inl (a, b)
both (inl a) (inr n) = inr (λ h. n h.1)
both (inr n) b = inr (λ h. n h.0)

all_three : {A B C : Type 0} → A → Decided B → Decided C → Decided (A × B × C)
all_three a (inl b) (inl c) = inl (a, b, c)
all_three a (inl b) (inr n) = inr (λ h. n h.2)
all_three a (inr n) c = inr (λ h. n h.1)

mutual
  unjumping : (a : Forest) → Decided (Everywhere IsUnjumping a)
  unjumping Nil = inl tt
  unjumping (Then x a) = both (unjumping_of x) (unjumping a)

  unjumping_of : (x : Tree) → Decided (EverywhereOf IsUnjumping x)
  unjumping_of (If t a b) = all_three tt (unjumping a) (unjumping b)
  unjumping_of (While t a) = both (inl tt) (unjumping a)
  unjumping_of (Do a t) = both (inl tt) (unjumping a)
  unjumping_of (For first t u a) = all_three tt (unjumping first) (unjumping a)
  unjumping_of (Switch s c) = both (inl tt) (unjumping_in c)
  unjumping_of (Block a) = both (inl tt) (unjumping a)
  unjumping_of (Goto l) = inr (λ h. h)
  unjumping_of (Mark l) = inr (λ h. h)
  unjumping_of _ = inl tt

  unjumping_in : (c : Sections) → Decided (EverywhereIn IsUnjumping c)
  unjumping_in NoSection = inl tt
  unjumping_in (Section cases default a ends c) = both (unjumping a) (unjumping_in c)

converted : (f : Function) → Decided (IsConvertedFunction f)
converted f = at f.flat refl (unjumping (body_of f))
  where
    at : (b : Bool) → f.flat ≡ b → Decided (Everywhere IsUnjumping (body_of f)) → Decided (IsConvertedFunction f)
    at true e (inl h) = inl (record { flat = e; unjumping = h })
    at true e (inr n) = inr (λ h. n h.unjumping)
    at false e d = inr (λ h. true≢false (sym h.flat ∙ e))

-- ---- the bodies of a resolved program

made_body : (f : Function) → IsMadeWell f → IsMadeBody (body_of f)
made_body f h = elim (converted f) as (λ _. IsMadeBody (body_of f)) [
  | inl c ↦ inl (h.converted c)
  | inr n ↦ inr (h.other n)
]

abbrev IsFoundMade : Option FunctionTree → Type 0
IsFoundMade None = Unit {0}
IsFoundMade (Some f) = IsMadeBody (items_of f)

made_items : (o : Option (List Item)) → IsMadeBody (option_map_or trees_of o Nil) → IsMadeBody (option_map_or (λ a. a) (option_map trees_of o) Nil)
made_items None h = h
made_items (Some xs) h = h

found_made : (p : Function → Bool) (m : List ℕ) (ts : List Top) → AllByRecursion IsTopMadeWell ts → IsFoundMade (function_in p m ts)
found_made p m [] h = tt
found_made p m (T.Function f ∷ ts) h = either IsFoundMade (bytes_eq f.name m && p f) (Some (function_tree f)) (function_in p m ts)
    (made_items f.body (made_body f h.0)) (found_made p m ts h.1)
found_made p m (_ ∷ ts) h = found_made p m ts h.1

first_made : (o p : Option FunctionTree) → IsFoundMade o → IsFoundMade p → IsMadeBody (items_of (first_of o p undeclared))
first_made (Some f) p h k = h
first_made None (Some f) h k = k
first_made None None h k = inr tt

pub made_bodies : (p : Program) → All IsTopMadeWell p.tops → HasMadeBodies (code_of p)
made_bodies p h m =
    let r = recursion_from_All IsTopMadeWell p.tops h in
    first_made (function_in (λ f. is_some f.body) m p.tops) (function_in (λ f. true) m p.tops) (found_made (λ f. is_some f.body) m p.tops r)
    (found_made (λ f. true) m p.tops r)

-- ---- the law

of_codes : (p q : Code) → HasMadeBodies p → HasMadeBodies q → LeCode (core_code p) (core_code q) → IsSteadyCode p → IsSteadyCode q × SameBehaviour p q
of_codes p q b d le st = rewritten p q (placed p b) (placed q d) le st

pub same_cores : (p q : Program) → IsProgramInRange q → All IsTopMadeWell q.tops → LeCode (core_code (code_of p)) (core_code (code_of q)) →
    IsSteady p → IsSteady q × BehaveTheSame p q
same_cores p q ranged made le st =
    let r = of_codes (code_of p) (code_of q) (made_bodies p st.made) (made_bodies q made) le st.states in
    (record { ranged = ranged; made = made; states = r.0 }, record { codes = r.1 })

pub core_laws : CoreLaws
core_laws = record { of_codes = of_codes; of_programs = same_cores }
