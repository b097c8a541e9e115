-- A program behaves as its core does.
use mathlib.Core.Path.{ap₂, fun_ext}
use Rattle.std.proofs.Common.{ℕ, suc, ℤ, List, [], map, Option, Some, None, option_map, IsSome, ◌↔◌, ◌≡◌, refl, ap, sym, ◌∙◌, subst, arith}
use Rattle.std.specs.Option.{option_map_or}
use Rattle.c_tree.specs.Trees.{Forest, Nil}
use Rattle.jump_meaning.specs.Values.{Owner, OfFile, OfCall, Integer}
use Rattle.jump_meaning.specs.Code.{FunctionTree, Code, items_of}
use Rattle.jump_meaning.specs.World.{push, variables_at_start, world_at_start}
use Rattle.jump_meaning.specs.Behaviour.{Covers}
use Rattle.jump_meaning.specs.Step.{State, At, HasEnded, HasTrapped, begin_call}
use Rattle.jump_meaning.specs.Runs.{run, shows, IsEntry, start, jump_run, SameBehaviour}
use Rattle.jump_meaning.proofs.RunFacts.{run_grows}
use Rattle.core_laws.specs.Core.{body_core, core_function, core_code}
use Rattle.core_laws.proofs.Reach.{Calm, Good}
use Rattle.core_laws.proofs.Lawful.{Lawful}
use Rattle.core_laws.proofs.Match.{core_state, SafeAt, Sure, begin_core, begin_calm}
use Rattle.core_laws.proofs.Pairs.{count, ends, each, Pair, pairs}

-- ---- starts

-- two programs with the same variables of file scope
pub same_world : (p q : Code) → ((m : List ℕ) → p.globals m ≡ q.globals m) → p.cells ≡ q.cells → (input : List ℕ) (answers : List ℤ) →
    world_at_start p input answers ≡ world_at_start q input answers
same_world p q e c input answers = ap₂ (λ s n. record { variables = s; calls = 0; cells = n; input = input; answers = answers; events = [] }) (fun_ext at) c
  where
    at : (o : Owner) → variables_at_start p o ≡ variables_at_start q o
    at (OfFile m) = e m
    at (OfCall d x) = refl

core_world : (p : Code) (input : List ℕ) (answers : List ℤ) → world_at_start (core_code p) input answers ≡ world_at_start p input answers
core_world p input answers = same_world (core_code p) p (λ m. refl) refl input answers

core_body : (h : FunctionTree) → items_of (core_function h) ≡ body_core (items_of h)
core_body h = at h.body
  where
    at : (b : Option Forest) → option_map_or (λ a. a) (option_map body_core b) Nil ≡ body_core (option_map_or (λ a. a) b Nil)
    at (Some a) = refl
    at None = refl

pub start_core : (p : Code) (m : List ℕ) (arguments : List ℤ) (input : List ℕ) (answers : List ℤ) →
    core_state (start p m arguments input answers) ≡ start (core_code p) m arguments input answers
start_core p m arguments input answers =
    let h = p.functions m in
    let w = world_at_start p input answers in
    sym (begin_core m (items_of h) (push h (map Integer arguments) w) [] w)
    ∙ ap (λ a. begin_call m a (push h (map Integer arguments) w) [] w) (sym (core_body h))
    ∙ ap (λ u. begin_call m (items_of (core_function h)) (push (core_function h) (map Integer arguments) u) [] u) (sym (core_world p input answers))

pub start_calm : (p : Code) (m : List ℕ) (arguments : List ℤ) (input : List ℕ) (answers : List ℤ) → Calm (start p m arguments input answers)
start_calm p m arguments input answers = begin_calm m (items_of (p.functions m))
    (push (p.functions m) (map Integer arguments) (world_at_start p input answers)) [] (world_at_start p input answers) tt

some_core : (b : Option Forest) → IsSome b → IsSome (option_map body_core b)
some_core (Some a) h = refl
some_core None h = h

some_of_core : (b : Option Forest) → IsSome (option_map body_core b) → IsSome b
some_of_core (Some a) h = refl
some_of_core None h = h

pub entry_core : (p : Code) (m : List ℕ) (arguments : List ℤ) → IsEntry p m arguments ↔ IsEntry (core_code p) m arguments
entry_core p m arguments = (
  (λ e. record { defined = some_core (p.functions m).body e.defined; numbers = e.numbers; given = e.given }),
  (λ e. record { defined = some_of_core (p.functions m).body e.defined; numbers = e.numbers; given = e.given }),
)

-- ---- runs

shows_core : (c : State) → shows (core_state c) ≡ shows c
shows_core (At f g k v cs w) = refl
shows_core (HasEnded n es) = refl
shows_core (HasTrapped t es) = refl

module _ (p : Code) (Inv : State → Type 0) (law : Lawful p Inv) (H : State → Type 0) (sure : Sure p H)
    (starts : (m : List ℕ) (arguments : List ℤ) (input : List ℕ) (answers : List ℤ) → Inv (start p m arguments input answers))
    (sures : (m : List ℕ) (arguments : List ℤ) → IsEntry p m arguments → (input : List ℕ) (answers : List ℤ) → H (start p m arguments input answers)) where
  module _ (m : List ℕ) (arguments : List ℤ) (entry : IsEntry p m arguments) (input : List ℕ) (answers : List ℤ) where
    abbrev from : State
    from = start p m arguments input answers

    abbrev core_from : State
    core_from = start (core_code p) m arguments input answers

    paired : (N : ℕ) → Pair p N from (core_state from)
    paired N = pairs p Inv law H sure N from (start_calm p m arguments input answers) (starts m arguments input answers) (sures m arguments entry input answers)

    -- both show the same where they meet
    meet : {N : ℕ} (b : Pair p N from (core_state from)) → shows (run p (count b.real) from) ≡ shows (run (core_code p) (count b.core_way) core_from)
    meet b =
        ap shows (ends b.real) ∙ sym (shows_core b.upto) ∙ ap shows (sym (ends b.core_way)) ∙
        ap (λ c. shows (run (core_code p) (count b.core_way) c)) (start_core p m arguments input answers)

    forth : (n : ℕ) → (i : ℕ) × Covers (jump_run p m arguments input answers n) (jump_run (core_code p) m arguments input answers i)
    forth n = let b = paired n in
        (count b.core_way, subst (λ z. Covers (jump_run p m arguments input answers n) z) (meet b) (run_grows p n (count b.real) from b.real_far))

    back : (n : ℕ) → (i : ℕ) × Covers (jump_run (core_code p) m arguments input answers n) (jump_run p m arguments input answers i)
    back n = let b = paired n in (
      count b.real,
      subst (λ z. Covers (jump_run (core_code p) m arguments input answers n) z) (sym (meet b))
          (run_grows (core_code p) n (count b.core_way) core_from b.core_far),
    )

    -- each state that the run reaches is good
    pub all_good : (n : ℕ) → Good p (run p n from)
    all_good n = let b = paired (suc n) in let h = b.real_far in each b.real n (omega arith)

    -- no state that the core's run reaches is at an Arm
    pub all_safe : (n : ℕ) → SafeAt (run (core_code p) n core_from)
    all_safe n = let b = paired (suc n) in let h = b.core_far in subst (λ c. SafeAt (run (core_code p) n c)) (start_core p m arguments input answers)
        (each b.core_way n (omega arith))

  pub as_core : SameBehaviour p (core_code p)
  as_core = record {
    entries = entry_core p;
    runs = λ m arguments e input answers. record { forth = forth m arguments e input answers; back = back m arguments e input answers };
  }
