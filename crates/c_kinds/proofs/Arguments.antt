-- Walks over the arguments of a call.
use Rattle.std.proofs.Common.{◌≡◌, ◌≤◌, ◌++◌, ℕ, true, List, [], ◌∷◌, length, drop, refl, ap, sym, ◌∙◌, append_assoc}
use Rattle.std.proofs.lemmas.List.{drop_all, append-nil}
use Rattle.c_kinds.specs.declared.binding.Want.{Want}
use Rattle.c_kinds.specs.declared.typed.Given.{Given}
use Rattle.c_kinds.specs.Calls.{argument_faults, each_fits, all_handed, handed}
use Rattle.c_kinds.specs.Scopes.{Faults}

each_fits-none : (ws : List Want) → each_fits ws [] ≡ true
each_fits-none [] = refl
each_fits-none (w ∷ ws) = refl

pub each_fits-end : (ws : List Want) (gs : List Given) (i : ℕ) → length gs ≤ i → each_fits ws (drop i gs) ≡ true
each_fits-end ws gs i h = ap (each_fits ws) (drop_all i gs h) ∙ each_fits-none ws

argument_faults-none : (ws : List Want) (vs : Faults) → argument_faults ws [] vs ≡ vs
argument_faults-none [] vs = refl
argument_faults-none (w ∷ ws) vs = refl

pub argument_faults-end : (ws : List Want) (gs : List Given) (i : ℕ) (vs : Faults) → length gs ≤ i → argument_faults ws (drop i gs) vs ≡ vs
argument_faults-end ws gs i vs h = ap (λ l. argument_faults ws l vs) (drop_all i gs h) ∙ argument_faults-none ws vs

pub all_handed-append : (gs : List Given) (g : Given) → all_handed (gs ++ g ∷ []) ≡ all_handed gs ++ handed g.typed
all_handed-append [] g = append-nil (handed g.typed)
all_handed-append (x ∷ gs) g = ap (λ l. handed x.typed ++ l) (all_handed-append gs g) ∙ sym (append_assoc (handed x.typed) (all_handed gs) (handed g.typed))

pub ruleset ends = (each_fits-end, argument_faults-end)

pub ruleset appended = (all_handed-append, append_assoc)
