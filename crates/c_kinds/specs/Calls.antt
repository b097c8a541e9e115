-- Calls (ISO/IEC 9899:2011, 6.5.2.2): whether the arguments are what the function wants, and the violations.
use Rattle.std.specs.Prelude.{ℕ, Bool, true, false, cond, not, ◌&&◌, ◌||◌, ◌==◌, List, [], ◌∷◌, ◌++◌, Option, Some, None, length}
use Rattle.c_types.specs.declared.kinds.IntKind.{IntKind}
use Rattle.c_types.specs.declared.kinds.IntKind.TheVariants.{Char, UChar, Int, UInt, Long, ULong}
use Rattle.c_tree.specs.declared.tree.Expression.{Expression}
use Rattle.c_tree.specs.declared.tree.Node as node
use Rattle.c_kinds.specs.declared.binding.Want.{Want}
use Rattle.c_kinds.specs.declared.binding.Want.TheVariants as want
use Rattle.c_kinds.specs.declared.binding.Binding.{Binding}
use Rattle.c_kinds.specs.declared.binding.Binding.TheVariants.{Function, Printf}
use Rattle.c_kinds.specs.declared.typed.Typed.{Typed}
use Rattle.c_kinds.specs.declared.typed.Typed.TheVariants.{Value, Text, Array, Wrong}
use Rattle.c_kinds.specs.declared.typed.ArrayName.{ArrayName}
use Rattle.c_kinds.specs.declared.typed.Given.{Given}
use Rattle.c_kinds.specs.Formats.{wanted}
use Rattle.c_kinds.specs.Marks.{is_wide}
use Rattle.c_kinds.specs.Scopes.{Faults, fault, fault_if}
use Rattle.c_kinds.specs.Values.{expression_of, expression, of_result, use_fault, text_fault}

abbrev pub same_kind : IntKind → IntKind → Bool
same_kind Char Char = true
same_kind UChar UChar = true
same_kind Int Int = true
same_kind UInt UInt = true
same_kind Long Long = true
same_kind ULong ULong = true
same_kind _ _ = false

abbrev pub same_truth : Bool → Bool → Bool
same_truth a b = cond a b (not b)

-- ---- arguments

-- an array for a parameter of this kind, of which the cells are const or not; a function without a body takes none
abbrev pub array_fits : IntKind → Bool → Bool → ArrayName → Bool
array_fits kind constant external a = same_kind kind a.kind && (constant || not a.constant) && not external

abbrev pub array_expression : ArrayName → Expression
array_expression a = expression_of (Some a.kind) (node.Array a.home)

-- whether an argument is what is wanted
abbrev pub fits : Want → Typed → Bool
fits (want.Number kind constant) (Value v) = true
fits (want.Array kind constant external) (Array a) = array_fits kind constant external a
fits (want.Sized wide) (Value v) = same_truth wide (is_wide v.kind)
fits _ _ = false

abbrev pub each_fits : List Want → List Given → Bool
each_fits (w ∷ ws) (g ∷ gs) = fits w g.typed && each_fits ws gs
each_fits _ _ = true

abbrev pub all_fit : List Want → List Given → Bool
all_fit ws gs = length ws == length gs && each_fits ws gs

-- what a call has of an argument that fits
abbrev pub handed : Typed → List Expression
handed (Value v) = expression v ∷ []
handed (Array a) = array_expression a ∷ []
handed _ = []

abbrev pub all_handed : List Given → List Expression
all_handed [] = []
all_handed (g ∷ gs) = handed g.typed ++ all_handed gs

-- ---- calls

-- a call with these arguments in front of the given ones, where they are what is wanted
abbrev pub call : Option IntKind → List ℕ → List Expression → List Want → List Given → Typed
call result name front ws gs = cond (all_fit ws gs) (of_result result (node.Call name (front ++ all_handed gs))) Wrong

abbrev pub text_of : Typed → Option (List ℕ)
text_of (Text bytes) = Some bytes
text_of _ = None

-- `printf` with its text, and what the text wants
abbrev pub printing : List ℕ → List ℕ → Option (List Want) → List Given → Typed
printing name bytes (Some ws) gs = call (Some Int) name (expression_of None (node.Text bytes) ∷ []) ws gs
printing name bytes None gs = Wrong

abbrev pub formatted : List ℕ → Option (List ℕ) → List Given → Typed
formatted name (Some bytes) gs = printing name bytes (wanted bytes) gs
formatted name None gs = Wrong

abbrev pub printf : List ℕ → List Given → Typed
printf name [] = Wrong
printf name (g ∷ gs) = formatted name (text_of g.typed) gs

abbrev pub called : List ℕ → Option Binding → List Given → Typed
called name (Some (Function s)) gs = call s.result name [] s.wants gs
called name (Some Printf) gs = printf name gs
called name _ gs = Wrong

-- ---- violations

-- an array for a parameter that is one
abbrev pub array_fault : IntKind → Bool → Bool → ℕ → ArrayName → Faults → Faults
array_fault kind constant external first a vs =
    fault_if external first 38 (fault_if (a.constant && not constant) a.token 26 (fault_if (not (same_kind kind a.kind)) first 22 vs))

-- an argument for a number
abbrev pub number_fault : ℕ → Typed → Faults → Faults
number_fault first (Array a) vs = fault first 22 vs
number_fault first x vs = use_fault first x vs

-- an argument for an array
abbrev pub array_want_fault : IntKind → Bool → Bool → ℕ → Typed → Faults → Faults
array_want_fault kind constant external first (Array a) vs = array_fault kind constant external first a vs
array_want_fault kind constant external first (Value v) vs = fault first 22 vs
array_want_fault kind constant external first x vs = use_fault first x vs

-- an argument for a conversion of `printf`
abbrev pub sized_fault : Bool → ℕ → Typed → Faults → Faults
sized_fault wide first (Value v) vs = fault_if (not (same_truth wide (is_wide v.kind))) first 40 vs
sized_fault wide first x vs = number_fault first x vs

abbrev pub argument_fault : Want → ℕ → Typed → Faults → Faults
argument_fault (want.Number kind constant) first x vs = number_fault first x vs
argument_fault (want.Array kind constant external) first x vs = array_want_fault kind constant external first x vs
argument_fault (want.Sized wide) first x vs = sized_fault wide first x vs

abbrev pub argument_faults : List Want → List Given → Faults → Faults
argument_faults (w ∷ ws) (g ∷ gs) vs = argument_faults ws gs (argument_fault w g.first g.typed vs)
argument_faults _ _ vs = vs

-- arguments of which nothing is known to be wanted
abbrev pub text_faults : List Given → Faults → Faults
text_faults [] vs = vs
text_faults (g ∷ gs) vs = text_faults gs (text_fault g.first g.typed vs)

-- the arguments, and the reason where their number is not the one that is wanted
abbrev pub wanted_faults : ℕ → ℕ → List Want → List Given → Faults → Faults
wanted_faults at reason ws gs vs = cond (length ws == length gs) (argument_faults ws gs vs) (fault at reason (text_faults gs vs))

abbrev pub printing_faults : ℕ → Option (List Want) → List Given → Faults → Faults
printing_faults at (Some ws) gs vs = wanted_faults at 40 ws gs vs
printing_faults at None gs vs = fault at 40 (text_faults gs vs)

-- behind a first argument that is this text, or none
abbrev pub format_faults : ℕ → Option (List ℕ) → List Given → Faults → Faults
format_faults at (Some bytes) gs vs = printing_faults at (wanted bytes) gs vs
format_faults at None gs vs = fault at 40 (text_faults gs vs)

abbrev pub printf_faults : ℕ → List Given → Faults → Faults
printf_faults at [] vs = fault at 40 vs
printf_faults at (g ∷ gs) vs = format_faults at (text_of g.typed) gs vs

abbrev pub call_faults : ℕ → Option Binding → List Given → Faults → Faults
call_faults at (Some (Function s)) gs vs = wanted_faults at 23 s.wants gs vs
call_faults at (Some Printf) gs vs = printf_faults at gs vs
call_faults at (Some _) gs vs = fault at 22 (text_faults gs vs)
call_faults at None gs vs = fault at 20 (text_faults gs vs)
