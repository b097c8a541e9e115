-- A step of the meaning by what the first task asks for, against the call that the machine comes to.
use Rattle.std.proofs.Common.{ℕ, ℤ, Bool, List, ◌∷◌, Option, Some, None, ◌≡◌, refl, sym, ap, ◌∙◌}
use Rattle.c_tree.specs.ExpressionTrees.{ExpressionTree}
use Rattle.c_tree.specs.Trees.{Tree, Forest, Return}
use Rattle.jump_meaning.specs.Values as Meant
use Rattle.jump_meaning.specs.Operations.{holds}
use Rattle.jump_meaning.specs.Effects.{top, rest}
use Rattle.jump_meaning.specs.Tasks as T
use Rattle.jump_meaning.specs.Step.{Guards, At, Goes, Guarding, Yields, Takes, with_guard, view, move}
use Rattle.step_memory.specs.declared.value.Value.{Value}
use Rattle.step_memory.specs.Stores.{names_of}
use Rattle.step_memory.specs.Values.{values_of}
use Rattle.step_tasks.specs.declared.call.Call.{Call}
use Rattle.step_tasks.specs.declared.work.Work.{Work}
use Rattle.step_tasks.specs.Controls.{guards_of, body_of, GoesTo, HasLabels, MovesAlways, Turned, returns}
use Rattle.step_tasks.specs.Tasks.{turn_of, tasks_of}

pub goes : (t : T.Task) (c : Call) (ts : List Work) → view (body_of c.function.now) (guards_of c.guards) (t ∷ tasks_of c.tasks) ≡ Goes (tasks_of ts) →
    MovesAlways t c (record c { tasks = ts })
goes t c ts e s P f cs w h a = ap (λ v. move P v f (guards_of c.guards) (values_of (names_of s) c.values) cs w) e

-- a jump, where the call has the labels of its function
pub jumps : (t : T.Task) (c : Call) (ts : List Work) → (HasLabels c → view (body_of c.function.now) (guards_of c.guards) (t ∷ tasks_of c.tasks) ≡ Goes
    (tasks_of ts)) → MovesAlways t c (record c { tasks = ts })
jumps t c ts e s P f cs w h a = goes t c ts (e a) s P f cs w h a

pub yields : (t : T.Task) (c : Call) (vs : List Value) (n : ℤ) → view (body_of c.function.now) (guards_of c.guards) (t ∷ tasks_of c.tasks) ≡ Yields n
    (tasks_of c.tasks)
    → ((ns : List (List ℕ)) → values_of ns vs ≡ Meant.Integer n ∷ values_of ns c.values) → MovesAlways t c (record c { values = vs })
yields t c vs n e v s P f cs w h a =
    ap (λ x. move P x f (guards_of c.guards) (values_of (names_of s) c.values) cs w) e
    ∙ ap (λ x. At f (guards_of c.guards) (tasks_of c.tasks) x cs w) (sym (v (names_of s)))

pub guards : (t : T.Task) (c : Call) (gs : List ℕ) (l : ℕ) (b : Bool) →
    view (body_of c.function.now) (guards_of c.guards) (t ∷ tasks_of c.tasks) ≡ Guarding l b (tasks_of c.tasks)
    → guards_of gs ≡ with_guard l b (guards_of c.guards) → MovesAlways t c (record c { guards = gs })
guards t c gs l b e g s P f cs w h a =
    ap (λ x. move P x f (guards_of c.guards) (values_of (names_of s) c.values) cs w) e
    ∙ ap (λ x. At f x (tasks_of c.tasks) (values_of (names_of s) c.values) cs w) (sym g)

pub takes : (t : T.Task) (c : Call) (ts : List Work) (vs : List Value) (next : Meant.Value → List T.Task)
    → view (body_of c.function.now) (guards_of c.guards) (t ∷ tasks_of c.tasks) ≡ Takes next
    → ((ns : List (List ℕ)) → tasks_of ts ≡ next (top (values_of ns c.values))) → ((ns : List (List ℕ)) → values_of ns vs ≡ rest (values_of ns c.values))
    → MovesAlways t c (record c { tasks = ts; values = vs })
takes t c ts vs next e k v s P f cs w h a =
    ap (λ x. move P x f (guards_of c.guards) (values_of (names_of s) c.values) cs w) e
    ∙ ap (λ x. At f (guards_of c.guards) x (rest (values_of (names_of s) c.values)) cs w) (sym (k (names_of s)))
    ∙ ap (λ x. At f (guards_of c.guards) (tasks_of ts) x cs w) (sym (v (names_of s)))

-- ---- by the plain tree of an item

pub goes_as : (F : Tree → T.Task) (t x : Tree) (old new : List Work) → t ≡ x →
    ((b : Forest) (g : Guards) → view b g (F x ∷ tasks_of old) ≡ Goes (tasks_of new)) → GoesTo (F t) old new
goes_as F t x old new e k b g = ap (λ y. view b g (F y ∷ tasks_of old)) e ∙ k b g

pub returns_view : (o : Option ExpressionTree) (k : List T.Task) (b : Forest) (g : Guards) → view b g (T.Runs (Return o) ∷ k) ≡ Goes (returns o k)
returns_view None k b g = refl
returns_view (Some e) k b g = refl

pub turned_as : (t x : Tree) (taken : Bool) (old new : List Work) (next : Meant.Value → List T.Task) → t ≡ x →
    ((b : Forest) (g : Guards) → view b g (turn_of x ∷ tasks_of old) ≡ Takes next)
    → ((v : Meant.Value) → holds v ≡ taken → tasks_of new ≡ next v) → Turned (turn_of t) taken old new
turned_as t x taken old new next e k n b g = (next, ap (λ y. view b g (turn_of y ∷ tasks_of old)) e ∙ k b g, n)

pub turned : (t : T.Task) (c : Call) (ts : List Work) (vs : List Value) (taken : Bool) → Turned t taken c.tasks ts
    → ((ns : List (List ℕ)) → taken ≡ holds (top (values_of ns c.values))) → ((ns : List (List ℕ)) → values_of ns vs ≡ rest (values_of ns c.values))
    → MovesAlways t c (record c { tasks = ts; values = vs })
turned t c ts vs taken k h v =
    let x = k (body_of c.function.now) (guards_of c.guards) in
    takes t c ts vs x.0 x.1 (λ ns. x.2 (top (values_of ns c.values)) (sym (h ns))) v
