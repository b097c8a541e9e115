-- The functions that have a body in a file.
use Rattle.std.proofs.Common.{ℕ, Bool, true, false, cond, ◌&&◌, ◌||◌, List, [], ◌∷◌, ◌++◌, map, Option, Some, None, is_some, ◌≡◌, refl, sym, ap, ◌∙◌, bytes_eq}
use Rattle.std.specs.Prelude.{IfSome}
use Rattle.std.specs.Option.{option_or}
use Rattle.std.specs.declared.cmp.Ordering.{Ordering}
use Rattle.std.specs.declared.cmp.Ordering.TheVariants.{Less, Equal, Greater}
use Rattle.std.specs.Ordering.{match_ordering, is_eq}
use Rattle.std.proofs.lemmas.Map.Text.{is_eq-slice_cmp}
use Rattle.c_types.specs.Words.{name_cmp}
use Rattle.c_tree.specs.declared.tree.Function as tree
use Rattle.c_tree.specs.declared.tree.Top.{Top}
use Rattle.c_tree.specs.declared.tree.Top.TheVariants as T
use Rattle.c_grammar.specs.Items.{Declarator, Body}
use Rattle.c_grammar.specs.Tops.{Function, Form, Line, Enum, Globals, Defines, Unread}
use Rattle.c_grammar.specs.Tops as tops
use Rattle.c_kinds.specs.Scopes.{Env, Scope}
use Rattle.c_scopes.specs.Files.{File, State, env_of, function_declared, notes_tops, form_tops, behind_form, tops_of}
use Rattle.c_scopes.specs.FunctionNames.{has_function, with_function, has_body, with_body, bodies_of}
use Rattle.c_scopes.specs.Globals.{globals, global_declared}
use Rattle.c_statements.specs.declared.extents.Kinded.{Kinded}
use Rattle.c_statements.specs.declared.anchors.Anchor.{Anchor}
use Rattle.c_statements.specs.declared.anchors.Anchor.TheVariants.{Before, Last}
use Rattle.c_statements.specs.Declarations.{kinded}
use Rattle.c_statements.specs.Functions.{function_of}
use Rattle.c_resolving_laws.proofs.Defined.{defined}
use Rattle.c_resolved_defs.specs.Names.{first_function}
use Rattle.c_kinds.proofs.Entries.{same_names, names_same}
use Rattle.c_resolving_laws.proofs.FileNames.{function_append, NoF, NoG, Unnamed, first_named}
use Rattle.c_resolving_laws.proofs.FunctionTrees.{function_name}

-- ---- sets of names

or_same : (a b : Bool) → (a || b) ≡ (a || (a || b))
or_same true b = refl
or_same false b = refl

or_turned : (a b c : Bool) → (a || (b || c)) ≡ (b || (a || c))
or_turned true true c = refl
or_turned true false c = refl
or_turned false b c = refl

in_set : (m n x : List ℕ) (xs : List (List ℕ)) (o : Ordering) → is_eq o ≡ bytes_eq n x →
    has_function (with_function n xs) m ≡ (bytes_eq m n || has_function xs m)
    → has_function (match_ordering o (n ∷ x ∷ xs) (x ∷ xs) (x ∷ with_function n xs)) m ≡ (bytes_eq m n || (bytes_eq m x || has_function xs m))
in_set m n x xs Less e h = refl
in_set m n x xs Equal e h = or_same (bytes_eq m x) (has_function xs m) ∙
    ap (λ w. bytes_eq m w || (bytes_eq m x || has_function xs m)) (sym (same_names n x (sym e)))
in_set m n x xs Greater e h = ap (λ b. bytes_eq m x || b) h ∙ or_turned (bytes_eq m x) (bytes_eq m n) (has_function xs m)

pub has_with : (m n : List ℕ) (xs : List (List ℕ)) → has_function (with_function n xs) m ≡ (bytes_eq m n || has_function xs m)
has_with m n [] = refl
has_with m n (x ∷ xs) = in_set m n x xs (name_cmp n x) (is_eq-slice_cmp n x) (has_with m n xs)

pub has_with_body : (word : ℕ → List ℕ) (m : List ℕ) (f : Function) (xs : List (List ℕ)) →
    has_function (with_body word f xs) m ≡ ((bytes_eq m (word f.name) && has_body f) || has_function xs m)
has_with_body word m f xs = by (has_body f) (bytes_eq m (word f.name)) (has_with m (word f.name) xs)
  where
    by : (b c : Bool) → has_function (with_function (word f.name) xs) m ≡ (c || has_function xs m) →
        has_function (cond b (with_function (word f.name) xs) xs) m ≡ ((c && b) || has_function xs m)
    by true true h = h
    by true false h = h
    by false true h = refl
    by false false h = refl

-- ---- the functions of the tree

abbrev pub has_body_in : List ℕ → List Top → Bool
has_body_in m ts = is_some (first_function (λ f. is_some f.body) m ts)

some_or : {A : Type 0} (o u : Option A) → is_some (option_or o u) ≡ (is_some o || is_some u)
some_or None u = refl
some_or (Some a) u = refl

pub body_append : (m : List ℕ) (a b : List Top) → has_body_in m (a ++ b) ≡ (has_body_in m a || has_body_in m b)
body_append m a b = ap is_some (function_append (λ f. is_some f.body) m a b) ∙
    some_or (first_function (λ f. is_some f.body) m a) (first_function (λ f. is_some f.body) m b)

pub notes_bodiless : (m : List ℕ) (bs : List (List ℕ)) → has_body_in m (map T.Note bs) ≡ false
notes_bodiless m [] = refl
notes_bodiless m (b ∷ bs) = notes_bodiless m bs

globals_bodiless : (m : List ℕ) (static : Bool) (k : Kinded) (ds : List Declarator) (env : Env) → has_body_in m (globals static k ds env) ≡ false
globals_bodiless m static k [] env = refl
globals_bodiless m static k (d ∷ ds) env = globals_bodiless m static k ds (global_declared k d env)

pub body_there : (word : ℕ → List ℕ) (notes : Anchor → List (List ℕ)) (f : Function) (scopes : List Scope) (o : Option Body) →
    is_some (defined word notes f o scopes).body ≡ is_some o
body_there word notes f scopes None = refl
body_there word notes f scopes (Some b) = refl

turned : (a m : List ℕ) → bytes_eq a m ≡ bytes_eq m a
turned a m = by (bytes_eq a m) (bytes_eq m a) refl refl
  where
    by : (b c : Bool) → bytes_eq a m ≡ b → bytes_eq m a ≡ c → b ≡ c
    by true true e f = refl
    by false false e f = refl
    by true false e f = sym (names_same m a (sym (same_names a m e))) ∙ f
    by false true e f = sym e ∙ names_same a m (sym (same_names m a f))

one_function : (m : List ℕ) (f : tree.Function) → has_body_in m (T.Function f ∷ []) ≡ (bytes_eq m f.name && is_some f.body)
one_function m f = by (bytes_eq f.name m && is_some f.body) ∙ ap (λ b. b && is_some f.body) (turned f.name m)
  where
    by : (b : Bool) → is_some {T = tree.Function} (cond b (Some f) None) ≡ b
    by true = refl
    by false = refl

abbrev pub form_body : (ℕ → List ℕ) → List ℕ → Form → Bool
form_body word m (Defines f) = bytes_eq m (word f.name) && has_body f
form_body word m _ = false

pub form_bodies : (file : File) (m : List ℕ) (first : ℕ) (form : Form) (s : State) → has_body_in m (form_tops file first form s) ≡ form_body file.word m form
form_bodies file m first Line s = refl
form_bodies file m first (Enum es) s = refl
form_bodies file m first (Globals static d) s = globals_bodiless m static (kinded file.word d) d.names (env_of file s)
form_bodies file m first (Defines f) s =
    let scopes = (function_declared file f s).scopes in
    let t = function_of file.word file.notes f scopes in
    one_function m t ∙ (ap (λ w. bytes_eq m w && is_some t.body) (function_name file.word file.notes f scopes f.body) ∙
    ap (λ b. bytes_eq m (file.word f.name) && b) (body_there file.word file.notes f scopes f.body))
form_bodies file m first Unread s = refl

listed_body : (word : ℕ → List ℕ) (m : List ℕ) (first after : ℕ) (form : Form) (xs : List tops.Top) →
    has_function (bodies_of word (tops.From first after form ∷ xs)) m ≡ (form_body word m form || has_function (bodies_of word xs) m)
listed_body word m first after Line xs = refl
listed_body word m first after (Enum es) xs = refl
listed_body word m first after (Globals static d) xs = refl
listed_body word m first after (Defines f) xs = has_with_body word m f (bodies_of word xs)
listed_body word m first after Unread xs = refl

-- the functions with a body are those that are listed
pub file_bodies : (file : File) (m : List ℕ) (xs : List tops.Top) (s : State) → has_body_in m (tops_of file xs s) ≡ has_function (bodies_of file.word xs) m
file_bodies file m [] s = notes_bodiless m (file.notes Last)
file_bodies file m (tops.From first after form ∷ xs) s =
    let notes = notes_tops file (Before first) in
    let new = form_tops file first form s in
    let rest = tops_of file xs (behind_form file form s) in
    body_append m (notes ++ new) rest
    ∙ (ap (λ b. b || has_body_in m rest) (body_append m notes new)
    ∙ (ap (λ b. (b || has_body_in m new) || has_body_in m rest) (notes_bodiless m (file.notes (Before first)))
    ∙ (ap (λ b. b || has_body_in m rest) (form_bodies file m first form s)
    ∙ (ap (λ b. form_body file.word m form || b) (file_bodies file m xs (behind_form file form s)) ∙ sym (listed_body file.word m first after form xs)))))

-- what has no name has no body
pub no_body : (m : List ℕ) (ts : List Top) → Unnamed m ts → has_body_in m ts ≡ false
no_body m ts h = none (first_function (λ f. is_some f.body) m ts) (first_named NoF NoG (λ f. is_some f.body) m ts h)
  where
    none : (o : Option tree.Function) → IfSome o (λ f. ⊥ × (is_some f.body ≡ true)) → is_some o ≡ false
    none None k = refl
    none (Some f) k = absurd k.0
