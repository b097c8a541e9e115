-- The names of file scope: what each is bound to, and what stands there by that name.
use Rattle.std.proofs.Common.{ℕ, Bool, true, false, cond, List, [], ◌∷◌, ◌++◌, map, codes, Option, Some, None, is_some, option_map, ◌≡◌, refl, sym, ap, subst, ◌∙◌, true≢false, bytes_eq, ◌&&◌}
use Rattle.std.specs.Prelude.{IfSome, IsSomeAnd, IsSome, take}
use Rattle.std.specs.Option.{option_or}
use Rattle.c_types.specs.declared.kinds.IntKind.TheVariants.{Int}
use Rattle.c_types.specs.Numbers.{IsInRange}
use Rattle.c_types.specs.Words.{is_known, known_functions}
use Rattle.c_tree.specs.declared.tree.Slot.{Slot}
use Rattle.c_tree.specs.declared.tree.Home.TheVariants as H
use Rattle.c_tree.specs.declared.tree.Function.{Function}
use Rattle.c_tree.specs.declared.tree.GlobalVariable.{GlobalVariable}
use Rattle.c_tree.specs.declared.tree.Top.{Top}
use Rattle.c_tree.specs.declared.tree.Top.TheVariants as T
use Rattle.c_kinds.specs.declared.binding.Want.{Want}
use Rattle.c_kinds.specs.declared.binding.Want.TheVariants as want
use Rattle.c_kinds.specs.declared.binding.Signature.{Signature}
use Rattle.c_kinds.specs.declared.binding.Binding.{Binding}
use Rattle.c_kinds.specs.declared.binding.Binding.TheVariants as B
use Rattle.c_kinds.specs.Scopes.{Scope, found, or_else, known_scope, takes}
use Rattle.c_resolved_defs.specs.Names as Tree
use Rattle.c_resolved_defs.specs.Names.{first_function, the_function, the_global, declared_or, known, callee}
use Rattle.c_resolved_defs.specs.Scopes as Scopes
use Rattle.c_resolved_defs.specs.Scopes.{Meaning, AConstant, AVariable, AFunction}
use Rattle.c_resolved_defs.specs.Within.{Each}
use Rattle.c_kinds.proofs.Entries.{same_names}
use Rattle.c_resolving_laws.proofs.Known.{HasShape, WantsAgree, CalleeAgrees, IsKnown, Knows}
use Rattle.c_resolving_laws.proofs.Lists.{each_map, and_left, and_right}

-- ---- what stands at file scope by a name

-- a fact of each function of the name, and of each variable
abbrev pub TopFact : (Function → Type 0) → (GlobalVariable → Type 0) → List ℕ → Top → Type 0
TopFact F G m (T.Function f) = bytes_eq f.name m ≡ true → F f
TopFact F G m (T.Global g) = bytes_eq g.slot.name m ≡ true → G g
TopFact F G m _ = Unit {0}

abbrev pub Named : (Function → Type 0) → (GlobalVariable → Type 0) → List ℕ → List Top → Type 0
Named F G m ts = Each (TopFact F G m) ts

abbrev pub NoF : Function → Type 0
NoF f = ⊥

abbrev pub NoG : GlobalVariable → Type 0
NoG g = ⊥

-- nothing stands there by the name
abbrev pub Unnamed : List ℕ → List Top → Type 0
Unnamed m ts = Named NoF NoG m ts

top_named : (F : Function → Type 0) (G : GlobalVariable → Type 0) (F' : Function → Type 0) (G' : GlobalVariable → Type 0) →
    ((f : Function) → F f → F' f) → ((g : GlobalVariable) → G g → G' g)
    → (m : List ℕ) (t : Top) → TopFact F G m t → TopFact F' G' m t
top_named F G F' G' f g m (T.Function x) h = λ e. f x (h e)
top_named F G F' G' f g m (T.Global x) h = λ e. g x (h e)
top_named F G F' G' f g m _ h = tt

pub named_map : (F : Function → Type 0) (G : GlobalVariable → Type 0) (F' : Function → Type 0) (G' : GlobalVariable → Type 0) →
    ((f : Function) → F f → F' f) → ((g : GlobalVariable) → G g → G' g)
    → (m : List ℕ) (ts : List Top) → Named F G m ts → Named F' G' m ts
named_map F G F' G' f g m ts h = each_map (TopFact F G m) (TopFact F' G' m) (top_named F G F' G' f g m) ts h

pub unnamed_all : (F : Function → Type 0) (G : GlobalVariable → Type 0) (m : List ℕ) (ts : List Top) → Unnamed m ts → Named F G m ts
unnamed_all F G m ts h = named_map NoF NoG F G (λ f e. absurd e) (λ g e. absurd e) m ts h

skip : {A : Type 0} (b : Bool) (x y : Option A) → (b ≡ true → ⊥) → cond b x y ≡ y
skip true x y f = absurd (f refl)
skip false x y f = refl

-- ---- variables

pub global_append : (m : List ℕ) (a b : List Top) → the_global m (a ++ b) ≡ option_or (the_global m a) (the_global m b)
global_append m [] b = refl
global_append m (T.Global g ∷ a) b = ap (cond (bytes_eq g.slot.name m) (Some g.slot)) (global_append m a b) ∙
    chosen (bytes_eq g.slot.name m) g.slot (the_global m a) (the_global m b)
  where
    chosen : (t : Bool) (s : Slot) (o u : Option Slot) → cond t (Some s) (option_or o u) ≡ option_or (cond t (Some s) o) u
    chosen true s o u = refl
    chosen false s o u = refl
global_append m (T.Function f ∷ a) b = global_append m a b
global_append m (T.Include bytes ∷ a) b = global_append m a b
global_append m (T.Enum xs ∷ a) b = global_append m a b
global_append m (T.Note bytes ∷ a) b = global_append m a b

pub no_global : (F : Function → Type 0) (m : List ℕ) (ts : List Top) → Named F NoG m ts → the_global m ts ≡ None
no_global F m [] h = refl
no_global F m (T.Global g ∷ ts) h = skip (bytes_eq g.slot.name m) (Some g.slot) (the_global m ts) h.0 ∙ no_global F m ts h.1
no_global F m (T.Function f ∷ ts) h = no_global F m ts h.1
no_global F m (T.Include bytes ∷ ts) h = no_global F m ts h.1
no_global F m (T.Enum xs ∷ ts) h = no_global F m ts h.1
no_global F m (T.Note bytes ∷ ts) h = no_global F m ts h.1

or_left_there : (P : Slot → Type 0) (o u : Option Slot) → IsSomeAnd o P → IsSomeAnd (option_or o u) P
or_left_there P None u h = absurd h
or_left_there P (Some s) u h = h

pub global_stays : (m : List ℕ) (P : Slot → Type 0) (a b : List Top) → IsSomeAnd (the_global m a) P → IsSomeAnd (the_global m (a ++ b)) P
global_stays m P a b h = subst (λ o. IsSomeAnd o P) (sym (global_append m a b)) (or_left_there P (the_global m a) (the_global m b) h)

-- ---- functions

pub function_append : (p : Function → Bool) (m : List ℕ) (a b : List Top) →
    first_function p m (a ++ b) ≡ option_or (first_function p m a) (first_function p m b)
function_append p m [] b = refl
function_append p m (T.Function f ∷ a) b = ap (cond (bytes_eq f.name m && p f) (Some f)) (function_append p m a b) ∙ chosen (bytes_eq f.name m && p f)
    f (first_function p m a) (first_function p m b)
  where
    chosen : (t : Bool) (s : Function) (o u : Option Function) → cond t (Some s) (option_or o u) ≡ option_or (cond t (Some s) o) u
    chosen true s o u = refl
    chosen false s o u = refl
function_append p m (T.Global g ∷ a) b = function_append p m a b
function_append p m (T.Include bytes ∷ a) b = function_append p m a b
function_append p m (T.Enum xs ∷ a) b = function_append p m a b
function_append p m (T.Note bytes ∷ a) b = function_append p m a b

-- the function that is found has the fact, and the test holds of it
pub first_named : (F : Function → Type 0) (G : GlobalVariable → Type 0) (p : Function → Bool) (m : List ℕ) (ts : List Top) → Named F G m ts →
    IfSome (first_function p m ts) (λ f. F f × (p f ≡ true))
first_named F G p m [] h = tt
first_named F G p m (T.Function f ∷ ts) h = by (bytes_eq f.name m && p f) refl (first_named F G p m ts h.1)
  where
    by : (t : Bool) → (bytes_eq f.name m && p f) ≡ t → IfSome (first_function p m ts) (λ f. F f × (p f ≡ true)) →
        IfSome (cond t (Some f) (first_function p m ts)) (λ f. F f × (p f ≡ true))
    by true e k = (h.0 (and_left (bytes_eq f.name m) (p f) e), and_right (bytes_eq f.name m) (p f) e)
    by false e k = k
first_named F G p m (T.Global g ∷ ts) h = first_named F G p m ts h.1
first_named F G p m (T.Include bytes ∷ ts) h = first_named F G p m ts h.1
first_named F G p m (T.Enum xs ∷ ts) h = first_named F G p m ts h.1
first_named F G p m (T.Note bytes ∷ ts) h = first_named F G p m ts h.1

pub no_function : (G : GlobalVariable → Type 0) (m : List ℕ) (ts : List Top) → Named NoF G m ts → the_function m ts ≡ None
no_function G m ts h = by (first_function (λ f. is_some f.body) m ts) (first_function (λ f. true) m ts)
    (first_named NoF G (λ f. is_some f.body) m ts h) (first_named NoF G (λ f. true) m ts h)
  where
    by : (o u : Option Function) → IfSome o (λ f. ⊥ × (is_some f.body ≡ true)) → IfSome u (λ f. ⊥ × (true ≡ true)) → option_or o u ≡ None
    by None None h k = refl
    by None (Some f) h k = absurd k.0
    by (Some f) u h k = absurd h.0

-- a function agrees with a signature, whether or not one of the name has a body
abbrev pub FunctionAgrees : Bool → Signature → Function → Type 0
FunctionAgrees defined s f = (f.result ≡ s.result) × WantsAgree defined s.wants (take f.params f.slots)

-- where none has it, each of the name fails the test
none_has : (p : Function → Bool) (m : List ℕ) (ts : List Top) → is_some (first_function p m ts) ≡ false → Named (λ f. p f ≡ false) (λ g. Unit {0}) m ts
none_has p m [] e = tt
none_has p m (T.Function f ∷ ts) e = by (bytes_eq f.name m) (p f) refl refl e (none_has p m ts)
  where
    by : (b c : Bool) → bytes_eq f.name m ≡ b → p f ≡ c → is_some (cond (b && c) (Some f) (first_function p m ts)) ≡ false
        → (is_some (first_function p m ts) ≡ false → Named (λ f. p f ≡ false) (λ g. Unit {0}) m ts) →
        Named (λ f. p f ≡ false) (λ g. Unit {0}) m (T.Function f ∷ ts)
    by true true i j e r = absurd (true≢false e)
    by true false i j e r = (λ k. j, r e)
    by false c i j e r = (λ k. absurd (true≢false (sym k ∙ i)), r e)
none_has p m (T.Global g ∷ ts) e = (λ k. tt, none_has p m ts e)
none_has p m (T.Include bytes ∷ ts) e = (tt, none_has p m ts e)
none_has p m (T.Enum xs ∷ ts) e = (tt, none_has p m ts e)
none_has p m (T.Note bytes ∷ ts) e = (tt, none_has p m ts e)

named_both : (F F' : Function → Type 0) (m : List ℕ) (ts : List Top) → Named F NoG m ts → Named F' (λ g. Unit {0}) m ts → Named (λ f. F f × F' f) NoG m ts
named_both F F' m [] h k = tt
named_both F F' m (T.Function f ∷ ts) h k = (λ e. (h.0 e, k.0 e), named_both F F' m ts h.1 k.1)
named_both F F' m (T.Global g ∷ ts) h k = (h.0, named_both F F' m ts h.1 k.1)
named_both F F' m (T.Include bytes ∷ ts) h k = (tt, named_both F F' m ts h.1 k.1)
named_both F F' m (T.Enum xs ∷ ts) h k = (tt, named_both F F' m ts h.1 k.1)
named_both F F' m (T.Note bytes ∷ ts) h k = (tt, named_both F F' m ts h.1 k.1)

-- the function of the name, where each of them agrees, and one has a body if the flag says so
pub function_agrees : (defined : Bool) (s : Signature) (m : List ℕ) (ts : List Top) → IsSome (first_function (λ f. true) m ts) →
    Named (FunctionAgrees defined s) NoG m ts
    → is_some (first_function (λ f. is_some f.body) m ts) ≡ defined → CalleeAgrees s (declared_or (known m) (the_function m ts))
function_agrees defined s m ts there h b =
    by (first_function (λ f. is_some f.body) m ts) (first_function (λ f. true) m ts) refl b there
    (first_named (FunctionAgrees defined s) NoG (λ f. is_some f.body) m ts h)
    (λ e. first_named (λ f. FunctionAgrees defined s f × (is_some f.body ≡ false)) NoG (λ f. true) m ts
    (named_both (FunctionAgrees defined s) (λ f. is_some f.body ≡ false) m ts h (none_has (λ f. is_some f.body) m ts e)))
  where
    by : (o u : Option Function) → o ≡ first_function (λ f. is_some f.body) m ts → is_some o ≡ defined → IsSome u →
        IfSome o (λ f. FunctionAgrees defined s f × (is_some f.body ≡ true))
        → (is_some (first_function (λ f. is_some f.body) m ts) ≡ false →
        IfSome u (λ f. (FunctionAgrees defined s f × (is_some f.body ≡ false)) × (true ≡ true))) → CalleeAgrees s (declared_or (known m) (option_or o u))
    by (Some f) u i e t h k = (h.0.0, subst (λ d. WantsAgree d s.wants (take f.params f.slots)) (sym e ∙ sym h.1) h.0.1)
    by None (Some f) i e t h k = let r = k (sym (ap is_some i)) in
        (r.0.0.0, subst (λ d. WantsAgree d s.wants (take f.params f.slots)) (sym e ∙ sym r.0.1) r.0.0.1)
    by None None i e t h k = absurd (true≢false (sym t))

-- ---- what is bound at file scope

-- a binding, among what stands there so far; the test says which functions have a body in the file
abbrev pub FileGood : (List ℕ → Bool) → List Top → List ℕ → Binding → Type 0
FileGood defined done m (B.Constant v) = IsInRange Int v × Unnamed m done
FileGood defined done m (B.Global shape) = IsSomeAnd (the_global m done) (HasShape shape) × Named NoF (λ g. Unit {0}) m done
FileGood defined done m (B.Function s) = IsSome (first_function (λ f. true) m done) × Named (FunctionAgrees (defined m) s) NoG m done × (is_known m ≡ false)
FileGood defined done m _ = ⊥

abbrev pub meaning_of : List ℕ → Binding → Meaning
meaning_of m (B.Constant v) = AConstant v
meaning_of m (B.Global shape) = AVariable (H.Global m)
meaning_of m (B.Local k shape) = AVariable (H.Slot k)
meaning_of m _ = AFunction

-- two scopes have the same names, for the same things
abbrev pub Same : Scope → Scopes.Scope → Type 0
Same s r = (m : List ℕ) → Scopes.found m r ≡ option_map (meaning_of m) (found m s)

-- ---- the library

abbrev pub library_scope : Scopes.Scope
library_scope = map (λ m. (m, AFunction)) known_functions

abbrev library_bindings : Bool → Bool → Bool → Bool → Bool → Option Binding
library_bindings a e g p c =
    cond a (Some (takes None [])) (cond e (Some (takes None (want.Number Int false ∷ []))) (cond g (Some (takes (Some Int) []))
    (cond p (Some B.Printf) (cond c (Some (takes (Some Int) (want.Number Int false ∷ []))) None))))

abbrev library_meanings : Bool → Bool → Bool → Bool → Bool → Option Meaning
library_meanings a e g p c = cond g (Some AFunction)
    (cond c (Some AFunction) (cond p (Some AFunction) (cond e (Some AFunction) (cond a (Some AFunction) None))))

library_by : (m : List ℕ) (a e g p c : Bool) → library_meanings a e g p c ≡ option_map (meaning_of m) (library_bindings a e g p c)
library_by m true true true true true = refl
library_by m true true true true false = refl
library_by m true true true false true = refl
library_by m true true true false false = refl
library_by m true true false true true = refl
library_by m true true false true false = refl
library_by m true true false false true = refl
library_by m true true false false false = refl
library_by m true false true true true = refl
library_by m true false true true false = refl
library_by m true false true false true = refl
library_by m true false true false false = refl
library_by m true false false true true = refl
library_by m true false false true false = refl
library_by m true false false false true = refl
library_by m true false false false false = refl
library_by m false true true true true = refl
library_by m false true true true false = refl
library_by m false true true false true = refl
library_by m false true true false false = refl
library_by m false true false true true = refl
library_by m false true false true false = refl
library_by m false true false false true = refl
library_by m false true false false false = refl
library_by m false false true true true = refl
library_by m false false true true false = refl
library_by m false false true false true = refl
library_by m false false true false false = refl
library_by m false false false true true = refl
library_by m false false false true false = refl
library_by m false false false false true = refl
library_by m false false false false false = refl

pub library_same : Same known_scope library_scope
library_same m = library_by m (bytes_eq m (codes "abort")) (bytes_eq m (codes "exit")) (bytes_eq m (codes "getchar")) (bytes_eq m (codes "printf"))
    (bytes_eq m (codes "putchar"))

-- ---- what is known at file scope

module _ (defined : List ℕ → Bool) (ts : List Top) (slots : List Slot) where
  abbrev n : Tree.Names
  n = record { tops = ts; slots = slots }

  -- the flag is that of the file
  abbrev pub IsDefined : Type 0
  IsDefined = (m : List ℕ) → is_some (first_function (λ f. is_some f.body) m ts) ≡ defined m

  file_known : IsDefined → (ss : List Scopes.Scope) (m : List ℕ) (b : Binding) → FileGood defined ts m b →
      Scopes.look_up ss m ≡ Some (meaning_of m b) → IsKnown n ss m b
  file_known d ss m (B.Constant v) h e = (h.0, e)
  file_known d ss m (B.Global shape) h e = (h.0, e)
  file_known d ss m (B.Local k shape) h e = absurd h
  file_known d ss m (B.Function s) h e = (function_agrees (defined m) s m ts h.0 h.1 (d m), e)
  file_known d ss m B.Printf h e = absurd h

  at_library : (c : List ℕ) (s : Signature) → the_function c ts ≡ None → CalleeAgrees s (known c) → CalleeAgrees s (callee n c)
  at_library c s e h = subst (λ o. CalleeAgrees s (declared_or (known c) o)) (sym e) h

  -- a function of the library: no function of the file has its name
  module _ (f : (m : List ℕ) → is_known m ≡ true → the_function m ts ≡ None) (ss : List Scopes.Scope) where
    abbrev IsLibrary : List ℕ → Binding → Type 0
    IsLibrary m b = Scopes.look_up ss m ≡ Some (meaning_of m b) → IsKnown n ss m b

    named_library : (m c : List ℕ) (b : Binding) → bytes_eq m c ≡ true → IsLibrary c b → IsLibrary m b
    named_library m c b e h = subst (λ w. IsLibrary w b) (sym (same_names m c e)) h

    step : (m : List ℕ) (t : Bool) (b : Binding) (o : Option Binding) → (t ≡ true → IsLibrary m b) → IfSome o (IsLibrary m) →
        IfSome (cond t (Some b) o) (IsLibrary m)
    step m true b o g k = g refl
    step m false b o g k = k

    library_function : (c : List ℕ) (s : Signature) → the_function c ts ≡ None → CalleeAgrees s (known c) → IsLibrary c (B.Function s)
    library_function c s e h l = (at_library c s e h, l)

    abbrev an_int_taken : List Want
    an_int_taken = want.Number Int false ∷ []

    is_abort : IsLibrary (codes "abort") (takes None [])
    is_abort = library_function (codes "abort") (record { result = None; wants = [] }) (f (codes "abort") refl) (refl, tt)

    is_exit : IsLibrary (codes "exit") (takes None an_int_taken)
    is_exit = library_function (codes "exit") (record { result = None; wants = an_int_taken }) (f (codes "exit") refl) (refl, ((refl, refl, refl), tt))

    is_getchar : IsLibrary (codes "getchar") (takes (Some Int) [])
    is_getchar = library_function (codes "getchar") (record { result = Some Int; wants = [] }) (f (codes "getchar") refl) (refl, tt)

    is_printf : IsLibrary (codes "printf") B.Printf
    is_printf l = (ap (declared_or (known (codes "printf"))) (f (codes "printf") refl), l)

    is_putchar : IsLibrary (codes "putchar") (takes (Some Int) an_int_taken)
    is_putchar = library_function (codes "putchar") (record { result = Some Int; wants = an_int_taken }) (f (codes "putchar") refl)
        (refl, ((refl, refl, refl), tt))

    library_known : (m : List ℕ) → IfSome (found m known_scope) (IsLibrary m)
    library_known m =
        step m (bytes_eq m (codes "abort")) (takes None []) _ (λ e. named_library m (codes "abort") (takes None []) e is_abort)
        (step m (bytes_eq m (codes "exit")) (takes None an_int_taken) _ (λ e. named_library m (codes "exit") (takes None an_int_taken) e is_exit)
        (step m (bytes_eq m (codes "getchar")) (takes (Some Int) []) _ (λ e. named_library m (codes "getchar") (takes (Some Int) []) e is_getchar)
        (step m (bytes_eq m (codes "printf")) B.Printf _ (λ e. named_library m (codes "printf") B.Printf e is_printf)
        (step m (bytes_eq m (codes "putchar")) (takes (Some Int) an_int_taken) None
        (λ e. named_library m (codes "putchar") (takes (Some Int) an_int_taken) e is_putchar) tt))))

    -- all that is bound at file scope is known, where it is good in the whole file
    module _ (d : IsDefined) (word : ℕ → List ℕ) (fs : Scope) (rs : Scopes.Scope) (same : Same fs rs) (e : ss ≡ rs ∷ library_scope ∷ [])
        (good : (m : List ℕ) → IfSome (found m fs) (FileGood defined ts m)) where
      meant : (m : List ℕ) (o u : Option Binding) → Scopes.found m rs ≡ option_map (meaning_of m) o → Scopes.found m library_scope ≡ option_map (meaning_of m) u
          → Scopes.look_up ss m ≡ option_map (meaning_of m) (or_else o (or_else u None))
      meant m o u x y = ap (λ s. Scopes.look_up s m) e ∙ (ap (λ a. option_or a (option_or (Scopes.found m library_scope) None)) x ∙
          (ap (λ a. option_or (option_map (meaning_of m) o) (option_or a None)) y ∙ both o u))
        where
          both : (o u : Option Binding) → option_or (option_map (meaning_of m) o) (option_or (option_map (meaning_of m) u) None) ≡ option_map
              (meaning_of m) (or_else o (or_else u None))
          both (Some b) u = refl
          both None (Some b) = refl
          both None None = refl

      pub file_knows : Knows n ss (record { word = word; scopes = fs ∷ known_scope ∷ [] })
      file_knows m = by (found m fs) (found m known_scope) (meant m (found m fs) (found m known_scope) (same m) (library_same m)) (good m) (library_known m)
        where
          by : (o u : Option Binding) → Scopes.look_up ss m ≡ option_map (meaning_of m) (or_else o (or_else u None)) →
              IfSome o (FileGood defined ts m) → IfSome u (IsLibrary m) → IfSome (or_else o (or_else u None)) (IsKnown n ss m)
          by (Some b) u x g l = file_known d ss m b g x
          by None (Some b) x g l = l x
          by None None x g l = tt
