-- What stands at file scope without a violation has none in any of its parts.
use Rattle.std.proofs.Common.{ℕ, ℤ, negsuc, true≢false, Bool, true, false, not, ◌&&◌, List, [], ◌∷◌, codes, Option, Some, None, is_some, ◌≡◌, refl, sym, ap, subst, ◌∙◌, bytes_eq}
use Rattle.c_types.specs.declared.kinds.IntKind.TheVariants.{Int}
use Rattle.c_types.specs.Numbers.{is_in_range}
use Rattle.c_types.specs.Words.{is_known}
use Rattle.c_tree.specs.declared.tree.Item.{Item}
use Rattle.c_grammar.specs.Terms.{Term, first_of}
use Rattle.c_grammar.specs.Items.{Declarator, Body, Braces, Lone}
use Rattle.c_grammar.specs.Tops.{Enumerator, Parameter, Function, Top, Form, Line, Enum, Globals, Defines, Unread}
use Rattle.c_grammar.specs.Tops as tops
use Rattle.c_kinds.specs.declared.binding.Signature.{Signature}
use Rattle.c_kinds.specs.declared.binding.Binding.{Binding}
use Rattle.c_kinds.specs.declared.binding.Binding.TheVariants as B
use Rattle.c_kinds.specs.Scopes.{Env, Scope, Faults, fault_if, Names, bound, is_bound, bind_fault}
use Rattle.c_kinds.specs.Typing.{constant_faults}
use Rattle.c_scopes.specs.Enums.{int_fault, worth, next_value, value_of, value_faults, enumerated, enum_faults}
use Rattle.c_scopes.specs.FileNames.{file_name_faults}
use Rattle.c_scopes.specs.Files.{File, State, env_of, function_declared, behind_form, form_faults, file_faults}
use Rattle.c_scopes.specs.FunctionNames.{has_function, has_body, signature_in, same_signature, again_faults, is_main_form, function_name_faults}
use Rattle.c_scopes.specs.Globals.{global_declared, global_faults, globals_faults}
use Rattle.c_statements.specs.declared.extents.Kinded.{Kinded}
use Rattle.c_statements.specs.declared.anchors.Anchor.{Anchor}
use Rattle.c_statements.specs.Context.{Context, Walk, env_at, has_label, no_construct}
use Rattle.c_statements.specs.Declarations.{kinded, is_bad_array, size_faults, initial_faults}
use Rattle.c_resolving_laws.proofs.Defined.{prototype_context}
use Rattle.c_statements.specs.Functions.{FlatCounts, bind_parameter, parameter_fault, parameters_faults, body_items, body_faults, context, inside, tangle_fault, measures, faults_within}
use Rattle.c_statements.specs.Labels.{body_labels, with_number, twice_from, twice_faults}
use Rattle.c_statements.specs.Measures.{is_tangled}
use Rattle.c_resolving_laws.proofs.Empty.{Empties, constant_empty, size_empty, initial_empty, list_empty, item_empty}
use Rattle.c_resolving_laws.proofs.Lists.{none_left, clean_if}
use Rattle.c_resolving_laws.proofs.Parts.{parted}

if_none : (b : Bool) (at reason : ℕ) → Empties (fault_if b at reason)
if_none b at reason vs e = (clean_if b at reason vs e).0

-- ---- names of file scope

pub record NewName (at : ℕ) (env : Env) : Type 0 where
  pub new : is_bound (env.word at) env.scopes ≡ false
  pub other : bytes_eq (env.word at) (codes "main") ≡ false
  pub unknown : is_known (env.word at) ≡ false

pub new_name : (at : ℕ) (env : Env) (vs : Faults) → file_name_faults at env vs ≡ [] → (vs ≡ []) × NewName at env
new_name at env vs e =
    let m = env.word at in
    let p = clean_if (is_bound m env.scopes) at 21 _ e in
    let q = clean_if (bytes_eq m (codes "main")) at 36 _ p.0 in
    let r = clean_if (is_known m) at 21 vs q.0 in
    (r.0, record { new = p.1; other = q.1; unknown = r.1 })

-- ---- enums

int_clean : (at : ℕ) (o : Option ℤ) → Empties (int_fault at o)
int_clean at None vs e = e
int_clean at (Some v) vs e = if_none (not (is_in_range Int v)) at 34 vs e

value_clean : (env : Env) (name : ℕ) (o : Option Term) (before : Option ℤ) → Empties (value_faults env name o before)
value_clean env name None before vs e = int_clean name (next_value before) vs e
value_clean env name (Some t) before vs e = constant_empty env t vs (int_clean (first_of t) (worth env t) (constant_faults env t vs) e)

enum_clean : (es : List Enumerator) (before : Option ℤ) (env : Env) → Empties (enum_faults es before env)
enum_clean [] before env vs e = e
enum_clean (x ∷ es) before env vs e =
    let v = value_of env x.value before in
    value_clean env x.name x.value before vs (new_name x.name env _ (enum_clean es v (enumerated x v env) _ e)).0

pub record EnumParts (x : Enumerator) (es : List Enumerator) (before : Option ℤ) (env : Env) : Type 0 where
  pub value : value_faults env x.name x.value before [] ≡ []
  pub name : NewName x.name env
  pub rest : let v = value_of env x.value before in enum_faults es v (enumerated x v env) [] ≡ []

pub enum_parts : (x : Enumerator) (es : List Enumerator) (before : Option ℤ) (env : Env) → enum_faults (x ∷ es) before env [] ≡ [] → EnumParts x es before env
enum_parts x es before env e =
    let v = value_of env x.value before in
    let p = parted (enum_faults es v (enumerated x v env)) (λ vs. file_name_faults x.name env (value_faults env x.name x.value before vs))
    (enum_clean es v (enumerated x v env)) e in
    let q = new_name x.name env (value_faults env x.name x.value before []) p.0 in
    record { value = q.0; name = q.1; rest = p.1 }

-- ---- variables

constants_clean : (env : Env) (d : Declarator) → Empties (initial_faults (constant_faults env) d.value)
constants_clean env d vs e = initial_empty (constant_faults env) (constant_empty env) d.value vs e

global_clean : (k : Kinded) (d : Declarator) (env : Env) → Empties (global_faults k d env)
global_clean k d env vs e = size_empty env d.size vs (if_none (is_bad_array false env d) d.name 35
    _ (new_name d.name env _ (constants_clean (global_declared k d env) d _ e)).0)

globals_clean : (k : Kinded) (ds : List Declarator) (env : Env) → Empties (globals_faults k ds env)
globals_clean k [] env vs e = e
globals_clean k (d ∷ ds) env vs e = global_clean k d env vs (globals_clean k ds (global_declared k d env) (global_faults k d env vs) e)

pub record GlobalParts (k : Kinded) (d : Declarator) (env : Env) : Type 0 where
  pub size : size_faults env d.size [] ≡ []
  pub array : is_bad_array false env d ≡ false
  pub name : NewName d.name env
  pub values : initial_faults (constant_faults (global_declared k d env)) d.value [] ≡ []

pub global_parts : (k : Kinded) (d : Declarator) (env : Env) → global_faults k d env [] ≡ [] → GlobalParts k d env
global_parts k d env e =
    let bad = is_bad_array false env d in
    let x = size_faults env d.size [] in
    let p = parted (initial_faults (constant_faults (global_declared k d env)) d.value)
    (λ vs. file_name_faults d.name env (fault_if bad d.name 35 (size_faults env d.size vs))) (constants_clean (global_declared k d env) d) e in
    let q = new_name d.name env (fault_if bad d.name 35 x) p.0 in
    let r = clean_if bad d.name 35 x q.0 in
    record { size = r.0; array = r.1; name = q.1; values = p.1 }

pub globals_parts : (k : Kinded) (d : Declarator) (ds : List Declarator) (env : Env) → globals_faults k (d ∷ ds) env [] ≡ [] →
    (global_faults k d env [] ≡ []) × (globals_faults k ds (global_declared k d env) [] ≡ [])
globals_parts k d ds env e = parted (globals_faults k ds (global_declared k d env)) (global_faults k d env) (globals_clean k ds (global_declared k d env)) e

-- ---- functions

again_clean : (at : ℕ) (again : Bool) (s : Signature) (o : Option Binding) → Empties (again_faults at again s o)
again_clean at again s None vs e = e
again_clean at again s (Some (B.Function g)) vs e = if_none (not (same_signature g s)) at 37 vs (if_none again at 21 _ e)
again_clean at again s (Some (B.Constant v)) vs e = absurd (none_left _ vs e)
again_clean at again s (Some (B.Global shape)) vs e = absurd (none_left _ vs e)
again_clean at again s (Some (B.Local k shape)) vs e = absurd (none_left _ vs e)
again_clean at again s (Some B.Printf) vs e = absurd (none_left _ vs e)

pub record FunctionName (bodies before : List (List ℕ)) (f : Function) (env : Env) : Type 0 where
  pub again : again_faults f.name (has_body f && has_function before (env.word f.name)) (signature_in bodies env.word f)
      (bound (env.word f.name) env.scopes) [] ≡ []
  pub main : (bytes_eq (env.word f.name) (codes "main") && not (is_main_form env.word f)) ≡ false
  pub unknown : is_known (env.word f.name) ≡ false

pub function_name_parts : (bodies before : List (List ℕ)) (f : Function) (env : Env) (vs : Faults) →
    function_name_faults bodies before f env vs ≡ [] → (vs ≡ []) × FunctionName bodies before f env
function_name_parts bodies before f env vs e =
    let m = env.word f.name in
    let bad = bytes_eq m (codes "main") && not (is_main_form env.word f) in
    let k = again_faults f.name (has_body f && has_function before m) (signature_in bodies env.word f) (bound m env.scopes) in
    let x = again_clean f.name (has_body f && has_function before m) (signature_in bodies env.word f) (bound m env.scopes) _ e in
    let p = clean_if bad f.name 36 _ x in
    let q = clean_if (is_known m) f.name 21 vs p.0 in
    (q.0, record { again = subst (λ vs. k vs ≡ []) x e; main = p.1; unknown = q.1 })

-- parameters
parameter_clean : (ctx : Context) (defines : Bool) (x : Parameter) (w : Walk) → Empties (parameter_fault ctx.word defines x w)
parameter_clean ctx defines x w vs e = by x.name e
  where
    by : (o : Option ℕ) → ◌≡◌ {A = Faults}
        (elim o [
          | Some at ↦ bind_fault at (ctx.word at) w.scopes (size_faults (env_at ctx w) x.size vs)
          | None ↦ fault_if defines x.first 43
              (size_faults (env_at ctx w) x.size vs)
        ]) [] → vs ≡ []
    by (Some at) e = size_empty (env_at ctx w) x.size vs (if_none (is_bound (ctx.word at) w.scopes) at 21 (size_faults (env_at ctx w) x.size vs) e)
    by None e = size_empty (env_at ctx w) x.size vs (if_none defines x.first 43 (size_faults (env_at ctx w) x.size vs) e)

pub parameters_clean : (ctx : Context) (defines : Bool) (xs : List Parameter) (w : Walk) → Empties (parameters_faults ctx.word defines xs w)
parameters_clean ctx defines [] w vs e = e
parameters_clean ctx defines (x ∷ xs) w vs e = parameter_clean ctx defines x w vs
    (parameters_clean ctx defines xs (bind_parameter ctx.word x w) (parameter_fault ctx.word defines x w vs) e)

pub parameters_parts : (ctx : Context) (defines : Bool) (x : Parameter) (xs : List Parameter) (w : Walk) → parameters_faults ctx.word defines (x ∷ xs) w [] ≡ []
    → (parameter_fault ctx.word defines x w [] ≡ []) × (parameters_faults ctx.word defines xs (bind_parameter ctx.word x w) [] ≡ [])
parameters_parts ctx defines x xs w e = parted (parameters_faults ctx.word defines xs (bind_parameter ctx.word x w))
    (parameter_fault ctx.word defines x w) (parameters_clean ctx defines xs (bind_parameter ctx.word x w)) e

twice_clean : (known : Names ℕ) (word : ℕ → List ℕ) (ats : List ℕ) → Empties (twice_from known word ats)
twice_clean known word [] vs e = e
twice_clean known word (at ∷ ats) vs e = if_none (has_label known (word at)) at 32 vs (twice_clean (with_number (word at) known) word ats _ e)

pub twice_parts : (known : Names ℕ) (word : ℕ → List ℕ) (at : ℕ) (ats : List ℕ) → twice_from known word (at ∷ ats) [] ≡ [] →
    (has_label known (word at) ≡ false) × (twice_from (with_number (word at) known) word ats [] ≡ [])
twice_parts known word at ats e =
    let p = parted (twice_from (with_number (word at) known) word ats) (fault_if (has_label known (word at)) at 32)
    (twice_clean (with_number (word at) known) word ats) e in
    ((clean_if (has_label known (word at)) at 32 [] p.0).1, p.1)

body_clean : (ctx : Context) (b : Body) (w : Walk) → Empties (body_faults ctx b w)
body_clean ctx (Braces first after xs) w vs e = list_empty ctx no_construct xs w vs e
body_clean ctx (Lone first after x) w vs e = item_empty ctx no_construct x w vs e

-- the measures of a body with jumps
abbrev pub IsNotTangled : FlatCounts → (ℕ → List ℕ) → Function → Body → List Item → Type 0
IsNotTangled flat word f b items = (n : ℕ × ℕ) → flat items ≡ Some n → is_tangled (measures word f b n) ≡ false

abbrev WithinLimits : (ℕ → List ℕ) → Function → Body → Option (ℕ × ℕ) → Type 0
WithinLimits word f b None = Unit {0}
WithinLimits word f b (Some n) = is_tangled (measures word f b n) ≡ false

tangle_clean : (flat : FlatCounts) (word : ℕ → List ℕ) (f : Function) (b : Body) (items : List Item) (vs : Faults) →
    tangle_fault flat word f b items vs ≡ [] → (vs ≡ []) × IsNotTangled flat word f b items
tangle_clean flat word f b items vs e = by (flat items) refl e
  where
    by : (o : Option (ℕ × ℕ)) → flat items ≡ o → ◌≡◌ {A = Faults}
        (elim o [ Some n ↦ fault_if (is_tangled (measures word f b n)) f.name 39 vs | None ↦ vs ]) [] → (vs ≡ []) × IsNotTangled flat word f b items
    by None i e = (e, λ n j. absurd (true≢false (ap is_some (sym j ∙ i))))
    by (Some n) i e = let c = clean_if (is_tangled (measures word f b n)) f.name 39 vs e in (c.0, λ k j. subst (WithinLimits word f b) (sym i ∙ j) c.1)

-- the violations of a function with this body, or without one
abbrev pub defined_faults : FlatCounts → (ℕ → List ℕ) → (Anchor → List (List ℕ)) → Function → Option Body → List Scope → Faults → Faults
defined_faults flat word notes f o scopes vs = faults_within flat word notes f o (inside word f scopes)
    (parameters_faults word (is_some o) f.parameters (record { scopes = [] ∷ scopes; slots = [] }) vs)

-- of a prototype, and of a definition
pub prototype_parts : (flat : FlatCounts) (word : ℕ → List ℕ) (notes : Anchor → List (List ℕ)) (f : Function) (scopes : List Scope) →
    Empties (defined_faults flat word notes f None scopes)
prototype_parts flat word notes f scopes vs e = parameters_clean (prototype_context word f) false f.parameters
    (record { scopes = [] ∷ scopes; slots = [] }) vs e

pub record DefinedParts (flat : FlatCounts) (word : ℕ → List ℕ) (notes : Anchor → List (List ℕ)) (f : Function) (b : Body) (scopes : List Scope) : Type 0 where
  pub tangle : IsNotTangled flat word f b (body_items (context word notes f b) b (inside word f scopes))
  pub body : body_faults (context word notes f b) b (inside word f scopes) [] ≡ []
  pub labels : twice_from [] word (body_labels b []) [] ≡ []
  pub parameters : parameters_faults word true f.parameters (record { scopes = [] ∷ scopes; slots = [] }) [] ≡ []

pub defined_parts : (flat : FlatCounts) (word : ℕ → List ℕ) (notes : Anchor → List (List ℕ)) (f : Function) (b : Body) (scopes : List Scope)
    (vs : Faults) → defined_faults flat word notes f (Some b) scopes vs ≡ []
    → (vs ≡ []) × DefinedParts flat word notes f b scopes
defined_parts flat word notes f b scopes vs e =
    let ctx = context word notes f b in
    let w = inside word f scopes in
    let start : Walk = record { scopes = [] ∷ scopes; slots = [] } in
    let ps = parameters_faults ctx.word true f.parameters start in
    let ls = twice_faults word (body_labels b []) in
    let bs = body_faults ctx b w in
    let t = tangle_clean flat word f b (body_items ctx b w) (bs (ls (ps vs))) e in
    let x = body_clean ctx b w (ls (ps vs)) t.0 in
    let y = twice_clean [] word (body_labels b []) (ps vs) x in
    let z = parameters_clean ctx true f.parameters start vs y in (
      z,
      record {
        tangle = t.1;
        body = subst (λ vs. bs vs ≡ []) x t.0;
        labels = subst (λ vs. ls vs ≡ []) y x;
        parameters = subst (λ vs. ps vs ≡ []) z y;
      },
    )

-- by whether it has a body
abbrev pub BodyParts : FlatCounts → (ℕ → List ℕ) → (Anchor → List (List ℕ)) → Function → Option Body → List Scope → Type 0
BodyParts flat word notes f None scopes = parameters_faults word false f.parameters (record { scopes = [] ∷ scopes; slots = [] }) [] ≡ []
BodyParts flat word notes f (Some b) scopes = DefinedParts flat word notes f b scopes

maybe_parts : (flat : FlatCounts) (word : ℕ → List ℕ) (notes : Anchor → List (List ℕ)) (f : Function) (o : Option Body) (scopes : List Scope)
    (vs : Faults) → defined_faults flat word notes f o scopes vs ≡ []
    → (vs ≡ []) × BodyParts flat word notes f o scopes
maybe_parts flat word notes f None scopes vs e = let z = prototype_parts flat word notes f scopes vs e in
    (z, subst (λ vs. parameters_faults word false f.parameters (record { scopes = [] ∷ scopes; slots = [] }) vs ≡ []) z e)
maybe_parts flat word notes f (Some b) scopes vs e = defined_parts flat word notes f b scopes vs e

-- ---- files

form_clean : (file : File) (form : Form) (s : State) → Empties (form_faults file form s)
form_clean file Line s vs e = e
form_clean file (Enum es) s vs e = enum_clean es (Some (negsuc 0)) (env_of file s) vs e
form_clean file (Globals static d) s vs e = globals_clean (kinded file.word d) d.names (env_of file s) vs e
form_clean file (Defines f) s vs e = (function_name_parts file.bodies s.bodies f (env_of file s) vs
    (maybe_parts file.flat file.word file.notes f f.body (function_declared file f s).scopes _ e).0).0
form_clean file Unread s vs e = e

pub file_clean : (file : File) (xs : List Top) (s : State) → Empties (file_faults file xs s)
file_clean file [] s vs e = e
file_clean file (tops.From first after form ∷ xs) s vs e = form_clean file form s vs
    (file_clean file xs (behind_form file form s) (form_faults file form s vs) e)

pub file_parts : (file : File) (first after : ℕ) (form : Form) (xs : List Top) (s : State) →
    file_faults file (tops.From first after form ∷ xs) s [] ≡ [] → (form_faults file form s [] ≡ []) × (file_faults file xs (behind_form file form s) [] ≡ [])
file_parts file first after form xs s e = parted (file_faults file xs (behind_form file form s)) (form_faults file form s)
    (file_clean file xs (behind_form file form s)) e

pub function_parts : (file : File) (f : Function) (s : State) → form_faults file (Defines f) s [] ≡ []
    → FunctionName file.bodies s.bodies f (env_of file s) × BodyParts file.flat file.word file.notes f f.body (function_declared file f s).scopes
function_parts file f s e =
    let p = maybe_parts file.flat file.word file.notes f f.body (function_declared file f s).scopes _ e in
    let q = function_name_parts file.bodies s.bodies f (env_of file s) [] p.0 in
    (q.1, p.1)
