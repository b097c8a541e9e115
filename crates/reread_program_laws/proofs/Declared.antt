-- The declarations of each function of a resolved program: the one that its calls go by, and whether it has a body.
use Rattle.std.proofs.Common.{◌≡◌, ℕ, Bool, true, false, cond, ◌&&◌, ◌||◌, List, [], ◌∷◌, take, Option, Some, None, is_some, refl, ap, sym, subst, ◌∙◌, bytes_eq, true≢false}
use Rattle.std.specs.Prelude.{IfSome}
use Rattle.std.specs.Option.{option_or}
use Rattle.c_tree.specs.declared.tree.Slot.{Slot}
use Rattle.c_tree.specs.declared.tree.Function.{Function}
use Rattle.c_tree.specs.declared.tree.Top.{Top}
use Rattle.c_tree.specs.declared.tree.Top.TheVariants as T
use Rattle.c_scopes.specs.FunctionNames.{has_function, with_function}
use Rattle.c_resolved_defs.specs.Names.{first_function, the_function}
use Rattle.c_resolved_defs.specs.Files.{SameParameters, AgreesWith, DeclarationsAgree}
use Rattle.c_resolved_defs.specs.Within.{Each}
use Rattle.c_resolving_laws.specs.Laws.{OfFunction}
use Rattle.c_kinds.proofs.Entries.{same_names, names_same}
use Rattle.c_resolving_laws.proofs.Bodies.{has_with}
use Rattle.reread_parts_laws.specs.Laws.{bodies_behind}

-- ---- names

same_self : (m : List ℕ) → bytes_eq m m ≡ true
same_self m = names_same m m refl

turned : (m n : List ℕ) → bytes_eq m n ≡ true → bytes_eq n m ≡ true
turned m n e = names_same n m (sym (same_names m n e))

eq_turns : (m n : List ℕ) → bytes_eq m n ≡ bytes_eq n m
eq_turns m n = by (bytes_eq m n) (bytes_eq n m) refl refl
  where
    by : (b c : Bool) → bytes_eq m n ≡ b → bytes_eq n m ≡ c → b ≡ c
    by true true e h = refl
    by false false e h = refl
    by true false e h = sym (turned m n e) ∙ h
    by false true e h = sym e ∙ turned n m h

-- ---- declarations that agree

pub record Alike (f g : Function) : Type 0 where
  pub result : f.result ≡ g.result
  pub parameters : SameParameters (take f.params f.slots) (take g.params g.slots)

parameters_self : (ss : List Slot) → SameParameters ss ss
parameters_self [] = tt
parameters_self (s ∷ ss) = (record { kind = refl; array = refl; constant = refl }, parameters_self ss)

parameters_turned : (ss rs : List Slot) → SameParameters ss rs → SameParameters rs ss
parameters_turned [] [] h = tt
parameters_turned (s ∷ ss) (r ∷ rs) h = (record { kind = sym (h.0).kind; array = sym (h.0).array; constant = sym (h.0).constant }, parameters_turned ss rs h.1)
parameters_turned [] (r ∷ rs) h = absurd h
parameters_turned (s ∷ ss) [] h = absurd h

alike_self : (f : Function) → Alike f f
alike_self f = record { result = refl; parameters = parameters_self (take f.params f.slots) }

alike_turned : (f g : Function) → Alike f g → Alike g f
alike_turned f g a = record { result = sym a.result; parameters = parameters_turned (take f.params f.slots) (take g.params g.slots) a.parameters }

-- with each function of its name
abbrev pub AlikeNamed : Function → Top → Type 0
AlikeNamed f = OfFunction (λ g. bytes_eq g.name f.name ≡ true → Alike f g)

later_alike : (f : Function) (ts : List Top) → Each (AgreesWith f) ts → Each (AlikeNamed f) ts
later_alike f [] h = tt
later_alike f (T.Function g ∷ ts) h = (
  λ e. let a = h.0 (turned g.name f.name e) in
      record { result = a.result; parameters = a.parameters },
  later_alike f ts h.1,
)
later_alike f (T.Global g ∷ ts) h = (tt, later_alike f ts h.1)
later_alike f (T.Include bytes ∷ ts) h = (tt, later_alike f ts h.1)
later_alike f (T.Enum es ∷ ts) h = (tt, later_alike f ts h.1)
later_alike f (T.Note bytes ∷ ts) h = (tt, later_alike f ts h.1)

-- one more in front
with_first : (f : Function) (all ts : List Top) → Each (AgreesWith f) ts → Each (OfFunction (λ g. Each (AlikeNamed g) all)) ts →
    Each (OfFunction (λ g. Each (AlikeNamed g) (T.Function f ∷ all))) ts
with_first f all [] h k = tt
with_first f all (T.Function g ∷ ts) h k =
    ((λ e. let a = h.0 e in alike_turned f g (record { result = a.result; parameters = a.parameters }), k.0), with_first f all ts h.1 k.1)
with_first f all (T.Global g ∷ ts) h k = (tt, with_first f all ts h.1 k.1)
with_first f all (T.Include bytes ∷ ts) h k = (tt, with_first f all ts h.1 k.1)
with_first f all (T.Enum es ∷ ts) h k = (tt, with_first f all ts h.1 k.1)
with_first f all (T.Note bytes ∷ ts) h k = (tt, with_first f all ts h.1 k.1)

-- one in front that is no function
abbrev IsOther : Top → Type 0
IsOther (T.Function f) = ⊥
IsOther _ = Unit {0}

other_alike : (g : Function) (x : Top) → IsOther x → AlikeNamed g x
other_alike g (T.Function f) h = absurd h
other_alike g x h = tt

with_other : (x : Top) → IsOther x → (all ts : List Top) → Each (OfFunction (λ g. Each (AlikeNamed g) all)) ts →
    Each (OfFunction (λ g. Each (AlikeNamed g) (x ∷ all))) ts
with_other x o all [] k = tt
with_other x o all (T.Function g ∷ ts) k = ((other_alike g x o, k.0), with_other x o all ts k.1)
with_other x o all (T.Global g ∷ ts) k = (tt, with_other x o all ts k.1)
with_other x o all (T.Include bytes ∷ ts) k = (tt, with_other x o all ts k.1)
with_other x o all (T.Enum es ∷ ts) k = (tt, with_other x o all ts k.1)
with_other x o all (T.Note bytes ∷ ts) k = (tt, with_other x o all ts k.1)

all_alike : (ts : List Top) → DeclarationsAgree ts → Each (OfFunction (λ f. Each (AlikeNamed f) ts)) ts
all_alike [] d = tt
all_alike (T.Function f ∷ ts) d = ((λ e. alike_self f, later_alike f ts (d.0)), with_first f ts ts (d.0) (all_alike ts (d.1)))
all_alike (T.Global g ∷ ts) d = (tt, with_other (T.Global g) tt ts ts (all_alike ts d))
all_alike (T.Include bytes ∷ ts) d = (tt, with_other (T.Include bytes) tt ts ts (all_alike ts d))
all_alike (T.Enum es ∷ ts) d = (tt, with_other (T.Enum es) tt ts ts (all_alike ts d))
all_alike (T.Note bytes ∷ ts) d = (tt, with_other (T.Note bytes) tt ts ts (all_alike ts d))

-- ---- functions of a name

found_function : (p : Function → Bool) (m : List ℕ) (Q : Function → Type 0) (ts : List Top) →
    Each (OfFunction (λ f. bytes_eq f.name m ≡ true → Q f)) ts → IfSome (first_function p m ts) (λ f. Q f × (p f ≡ true))
found_function p m Q [] h = tt
found_function p m Q (T.Function f ∷ ts) h = by (bytes_eq f.name m) (p f) refl refl (found_function p m Q ts h.1)
  where
    by : (b c : Bool) → bytes_eq f.name m ≡ b → p f ≡ c → IfSome (first_function p m ts) (λ f. Q f × (p f ≡ true)) →
        IfSome (cond (b && c) (Some f) (first_function p m ts)) (λ f. Q f × (p f ≡ true))
    by true true e k r = (h.0 e, k)
    by true false e k r = r
    by false c e k r = r
found_function p m Q (T.Global g ∷ ts) h = found_function p m Q ts h.1
found_function p m Q (T.Include bytes ∷ ts) h = found_function p m Q ts h.1
found_function p m Q (T.Enum es ∷ ts) h = found_function p m Q ts h.1
found_function p m Q (T.Note bytes ∷ ts) h = found_function p m Q ts h.1

-- where none has the fact that is tested, each of the name has it not
none_has : (p : Function → Bool) (m : List ℕ) (ts : List Top) → is_some (first_function p m ts) ≡ false →
    Each (OfFunction (λ f. bytes_eq f.name m ≡ true → p f ≡ false)) ts
none_has p m [] e = tt
none_has p m (T.Function f ∷ ts) e = by (bytes_eq f.name m) (p f) refl refl e (none_has p m ts)
  where
    by : (b c : Bool) → bytes_eq f.name m ≡ b → p f ≡ c → is_some (cond (b && c) (Some f) (first_function p m ts)) ≡ false →
        (is_some (first_function p m ts) ≡ false → Each (OfFunction (λ f. bytes_eq f.name m ≡ true → p f ≡ false)) ts)
        → (bytes_eq f.name m ≡ true → p f ≡ false) × Each (OfFunction (λ f. bytes_eq f.name m ≡ true → p f ≡ false)) ts
    by true true i j e r = absurd (true≢false e)
    by true false i j e r = (λ k. j, r e)
    by false c i j e r = (λ k. absurd (true≢false (sym k ∙ i)), r e)
none_has p m (T.Global g ∷ ts) e = (tt, none_has p m ts e)
none_has p m (T.Include bytes ∷ ts) e = (tt, none_has p m ts e)
none_has p m (T.Enum es ∷ ts) e = (tt, none_has p m ts e)
none_has p m (T.Note bytes ∷ ts) e = (tt, none_has p m ts e)

-- there is a function of the name of each
abbrev IsThere : List Top → Function → Type 0
IsThere ts f = is_some (first_function (λ g. true) f.name ts) ≡ true

there_behind : (h : Function) (all ts : List Top) → Each (OfFunction (IsThere all)) ts → Each (OfFunction (IsThere (T.Function h ∷ all))) ts
there_behind h all [] k = tt
there_behind h all (T.Function f ∷ ts) k = (by (bytes_eq h.name f.name && true), there_behind h all ts k.1)
  where
    by : (b : Bool) → is_some (cond b (Some h) (first_function (λ g. true) f.name all)) ≡ true
    by true = refl
    by false = k.0
there_behind h all (T.Global g ∷ ts) k = (tt, there_behind h all ts k.1)
there_behind h all (T.Include bytes ∷ ts) k = (tt, there_behind h all ts k.1)
there_behind h all (T.Enum es ∷ ts) k = (tt, there_behind h all ts k.1)
there_behind h all (T.Note bytes ∷ ts) k = (tt, there_behind h all ts k.1)

all_there : (ts : List Top) → Each (OfFunction (IsThere ts)) ts
all_there [] = tt
all_there (T.Function f ∷ ts) = (
  ap (λ b. is_some (cond (b && true) (Some f) (first_function (λ g. true) f.name ts))) (same_self f.name),
  there_behind f ts ts (all_there ts),
)
all_there (T.Global g ∷ ts) = (tt, all_there ts)
all_there (T.Include bytes ∷ ts) = (tt, all_there ts)
all_there (T.Enum es ∷ ts) = (tt, all_there ts)
all_there (T.Note bytes ∷ ts) = (tt, all_there ts)

-- the declaration that the calls of a function go by
pub record TheFunction (ts : List Top) (f : Function) : Type 0 where
  pub function : Function
  pub is : the_function f.name ts ≡ Some function
  pub alike : Alike f function
  pub defined : is_some (first_function (λ g. is_some g.body) f.name ts) ≡ is_some function.body

the_one : (ts : List Top) (f : Function) → Each (AlikeNamed f) ts → IsThere ts f → TheFunction ts f
the_one ts f a t =
    by (first_function (λ g. is_some g.body) f.name ts) (first_function (λ g. true) f.name ts) refl refl
    (found_function (λ g. is_some g.body) f.name (Alike f) ts a) (found_function (λ g. true) f.name (Alike f) ts a) t
    (λ e. found_function (λ g. true) f.name (λ g. is_some g.body ≡ false) ts (none_has (λ g. is_some g.body) f.name ts e))
  where
    by : (o u : Option Function) → first_function (λ g. is_some g.body) f.name ts ≡ o → first_function (λ g. true) f.name ts ≡ u →
        IfSome o (λ g. Alike f g × (is_some g.body ≡ true)) → IfSome u (λ g. Alike f g × (true ≡ true)) → is_some u ≡ true
        → (is_some (first_function (λ g. is_some g.body) f.name ts) ≡ false →
        IfSome (first_function (λ g. true) f.name ts) (λ g. (is_some g.body ≡ false) × (true ≡ true))) → TheFunction ts f
    by (Some g) u i j h k t n = record { function = g; is = (λ z. option_or (i z) (j z)); alike = h.0; defined = ap is_some i ∙ sym h.1 }
    by None (Some g) i j h k t n =
        let no : is_some (first_function (λ g. is_some g.body) f.name ts) ≡ false = ap is_some i in
        let b = subst (λ o. IfSome o (λ g. (is_some g.body ≡ false) × (true ≡ true))) j (n no) in
        record { function = g; is = (λ z. option_or (i z) (j z)); alike = k.0; defined = no ∙ sym b.0 }
    by None None i j h k t n = absurd (true≢false (sym t))

pub all_declared : (ts : List Top) → DeclarationsAgree ts → Each (OfFunction (TheFunction ts)) ts
all_declared ts d = by ts (all_alike ts d) (all_there ts)
  where
    by : (xs : List Top) → Each (OfFunction (λ f. Each (AlikeNamed f) ts)) xs → Each (OfFunction (IsThere ts)) xs → Each (OfFunction (TheFunction ts)) xs
    by [] a t = tt
    by (T.Function f ∷ xs) a t = (the_one ts f a.0 t.0, by xs a.1 t.1)
    by (T.Global g ∷ xs) a t = (tt, by xs a.1 t.1)
    by (T.Include bytes ∷ xs) a t = (tt, by xs a.1 t.1)
    by (T.Enum es ∷ xs) a t = (tt, by xs a.1 t.1)
    by (T.Note bytes ∷ xs) a t = (tt, by xs a.1 t.1)

-- ---- functions with a body

-- in a file, each once
abbrev pub named_bodies : List Top → List (List ℕ)
named_bodies [] = []
named_bodies (T.Function f ∷ ts) = bodies_behind f (named_bodies ts)
named_bodies (_ ∷ ts) = named_bodies ts

has_behind : (m : List ℕ) (f : Function) (xs : List (List ℕ)) → has_function (bodies_behind f xs)
    m ≡ ((bytes_eq m f.name && is_some f.body) || has_function xs m)
has_behind m f xs = by (is_some f.body) (bytes_eq m f.name) (has_with m f.name xs)
  where
    by : (b c : Bool) → has_function (with_function f.name xs) m ≡ (c || has_function xs m) →
        has_function (cond b (with_function f.name xs) xs) m ≡ ((c && b) || has_function xs m)
    by true true h = h
    by true false h = h
    by false true h = refl
    by false false h = refl

pub has_named : (m : List ℕ) (ts : List Top) → has_function (named_bodies ts) m ≡ is_some (first_function (λ f. is_some f.body) m ts)
has_named m [] = refl
has_named m (T.Function f ∷ ts) = has_behind m f (named_bodies ts) ∙ ap (λ b. (b && is_some f.body) || has_function (named_bodies ts) m)
    (eq_turns m f.name) ∙ by (bytes_eq f.name m && is_some f.body) (has_named m ts)
  where
    by : (b : Bool) → has_function (named_bodies ts) m ≡ is_some (first_function (λ f. is_some f.body) m ts) →
        (b || has_function (named_bodies ts) m) ≡ is_some (cond b (Some f) (first_function (λ f. is_some f.body) m ts))
    by true e = refl
    by false e = e
has_named m (T.Global g ∷ ts) = has_named m ts
has_named m (T.Include bytes ∷ ts) = has_named m ts
has_named m (T.Enum es ∷ ts) = has_named m ts
has_named m (T.Note bytes ∷ ts) = has_named m ts

-- a function with a body has none before
abbrev pub IsSingle : List (List ℕ) → Function → Type 0
IsSingle before f = (is_some f.body && has_function before f.name) ≡ false

pub first_single : (ts : List Top) → Each (OfFunction (IsSingle [])) ts
first_single [] = tt
first_single (T.Function f ∷ ts) = (by (is_some f.body), first_single ts)
  where
    by : (b : Bool) → (b && false) ≡ false
    by true = refl
    by false = refl
first_single (T.Global g ∷ ts) = (tt, first_single ts)
first_single (T.Include bytes ∷ ts) = (tt, first_single ts)
first_single (T.Enum es ∷ ts) = (tt, first_single ts)
first_single (T.Note bytes ∷ ts) = (tt, first_single ts)

pub next_single : (f : Function) (before : List (List ℕ)) (ts : List Top) → Each (AgreesWith f) ts → Each (OfFunction (IsSingle before)) ts →
    Each (OfFunction (IsSingle (bodies_behind f before))) ts
next_single f before [] a h = tt
next_single f before (T.Function g ∷ ts) a h = (
  ap (λ b. is_some g.body && b) (has_behind g.name f before) ∙ by (bytes_eq g.name f.name) (is_some f.body) (is_some g.body) refl refl refl (h.0),
  next_single f before ts a.1 h.1,
)
  where
    by : (b c d : Bool) → bytes_eq g.name f.name ≡ b → is_some f.body ≡ c → is_some g.body ≡ d → (d && has_function before g.name) ≡ false →
        (d && ((b && c) || has_function before g.name)) ≡ false
    by true true true e i j k = sym j ∙ (a.0 (turned g.name f.name e)).single i
    by true true false e i j k = refl
    by true false d e i j k = k
    by false c d e i j k = k
next_single f before (T.Global g ∷ ts) a h = (tt, next_single f before ts a.1 h.1)
next_single f before (T.Include bytes ∷ ts) a h = (tt, next_single f before ts a.1 h.1)
next_single f before (T.Enum es ∷ ts) a h = (tt, next_single f before ts a.1 h.1)
next_single f before (T.Note bytes ∷ ts) a h = (tt, next_single f before ts a.1 h.1)
