-- Names of functions (ISO/IEC 9899:2011, 6.9.1): what they are bound to, and when they are declared again.
use Rattle.std.specs.Prelude.{ℕ, Bool, true, false, cond, not, ◌&&◌, List, [], ◌∷◌, codes, Option, Some, None, is_some}
use Rattle.std.specs.BTreeSet.{insert_key}
use Rattle.std.specs.List.{list_any}
use Rattle.std.specs.Str.{bytes_eq}
use Rattle.c_types.specs.declared.kinds.IntKind.{IntKind}
use Rattle.c_types.specs.declared.kinds.IntKind.TheVariants.{Int}
use Rattle.c_types.specs.Words.{is_known, name_cmp}
use Rattle.c_grammar.specs.Tops.{Function, Top, From, Defines}
use Rattle.c_kinds.specs.declared.binding.Want.{Want}
use Rattle.c_kinds.specs.declared.binding.Want.TheVariants as want
use Rattle.c_kinds.specs.declared.binding.Signature.{Signature}
use Rattle.c_kinds.specs.declared.binding.Binding.{Binding}
use Rattle.c_kinds.specs.declared.binding.Binding.TheVariants as binding
use Rattle.c_kinds.specs.Scopes.{Env, Faults, fault, fault_if, bound}
use Rattle.c_kinds.specs.Calls.{same_kind, same_truth}
use Rattle.c_statements.specs.Functions.{signature, result_kind}
use Rattle.c_scopes.specs.FileNames.{bound_in}

-- ---- names of functions; those that `with_function` makes stand each once and in byte order

abbrev pub has_function : List (List ℕ) → List ℕ → Bool
has_function functions name = list_any (λ f. bytes_eq name f) functions

abbrev pub with_function : List ℕ → List (List ℕ) → List (List ℕ)
with_function name functions = insert_key name_cmp functions name

abbrev pub has_body : Function → Bool
has_body f = is_some f.body

-- the functions with a body, with this one if it has one
abbrev pub with_body : (ℕ → List ℕ) → Function → List (List ℕ) → List (List ℕ)
with_body word f bodies = cond (has_body f) (with_function (word f.name) bodies) bodies

abbrev pub with_top : (ℕ → List ℕ) → Top → List (List ℕ) → List (List ℕ)
with_top word (From first after (Defines f)) bodies = with_body word f bodies
with_top word _ bodies = bodies

-- the functions that have a body in the file
abbrev pub bodies_of : (ℕ → List ℕ) → List Top → List (List ℕ)
bodies_of word [] = []
bodies_of word (x ∷ xs) = with_top word x (bodies_of word xs)

-- ---- what they are bound to

-- of a function in a file that has these with a body
abbrev pub signature_in : List (List ℕ) → (ℕ → List ℕ) → Function → Signature
signature_in bodies word f = signature word (not (has_function bodies (word f.name))) f

abbrev pub function_bound : List (List ℕ) → Function → Env → Env
function_bound bodies f env = bound_in f.name (binding.Function (signature_in bodies env.word f)) env

-- ---- declared again

abbrev pub same_result : Option IntKind → Option IntKind → Bool
same_result (Some a) (Some b) = same_kind a b
same_result None None = true
same_result _ _ = false

abbrev pub same_want : Want → Want → Bool
same_want (want.Number a b) (want.Number c d) = same_kind a c && same_truth b d
same_want (want.Array a b x) (want.Array c d y) = same_kind a c && same_truth b d
same_want _ _ = false

abbrev pub same_wants : List Want → List Want → Bool
same_wants [] [] = true
same_wants (a ∷ as') (b ∷ bs) = same_want a b && same_wants as' bs
same_wants _ _ = false

abbrev pub same_signature : Signature → Signature → Bool
same_signature a b = same_result a.result b.result && same_wants a.wants b.wants

-- a name that is bound to another function, to this one with a body, or to something else; `again` says that the
-- function has a body and had one before
abbrev pub again_faults : ℕ → Bool → Signature → Option Binding → Faults → Faults
again_faults at again s None vs = vs
again_faults at again s (Some (binding.Function g)) vs = fault_if again at 21 (fault_if (not (same_signature g s)) at 37 vs)
again_faults at again s (Some _) vs = fault at 21 vs

abbrev pub is_empty : {X : Type 0} → List X → Bool
is_empty [] = true
is_empty (x ∷ xs) = false

-- `int main(void)` or `int main()`, not `static`
abbrev pub is_main_form : (ℕ → List ℕ) → Function → Bool
is_main_form word f = same_result (result_kind word f) (Some Int) && not f.static && is_empty f.parameters

-- of a function with this signature, behind those that have a body
abbrev pub name_faults : List (List ℕ) → Signature → Function → Env → Faults → Faults
name_faults before s f env vs =
    again_faults f.name (has_body f && has_function before (env.word f.name)) s (bound (env.word f.name) env.scopes)
    (fault_if (bytes_eq (env.word f.name) (codes "main") && not (is_main_form env.word f)) f.name 36
    (fault_if (is_known (env.word f.name)) f.name 21 vs))

-- the functions with a body in the file, and those of them that stand before
abbrev pub function_name_faults : List (List ℕ) → List (List ℕ) → Function → Env → Faults → Faults
function_name_faults bodies before f env vs = name_faults before (signature_in bodies env.word f) f env vs
