-- The rules for calls (ISO/IEC 9899:2011, 6.5.2.2 and 7.21.6.1).
use Rattle.std.specs.Prelude.{◌≡◌, ◌≢◌, ◌⊎◌, ℕ, Bool, true, false, List, ◌∷◌, length}
use Rattle.c_types.specs.declared.kinds.IntKind.{IntKind}
use Rattle.c_tree.specs.declared.tree.Node.{Node}
use Rattle.c_grammar.specs.Terms.{Term, Terms, NoTerm, Then, first_of, count}
use Rattle.c_kinds.specs.declared.binding.Want.{Want}
use Rattle.c_kinds.specs.declared.binding.Want.TheVariants as want
use Rattle.c_kinds.specs.declared.binding.Signature.{Signature}
use Rattle.c_kinds.specs.declared.binding.Binding.{Binding}
use Rattle.c_kinds.specs.declared.binding.Binding.TheVariants.{Function, Printf}
use Rattle.c_kinds.specs.declared.typed.Fault.{Fault}
use Rattle.c_kinds.specs.declared.typed.Valued.{Valued}
use Rattle.c_kinds.specs.declared.typed.ArrayName.{ArrayName}
use Rattle.c_kinds.specs.declared.typed.Typed.TheVariants.{Value, Void, Text, Array}
use Rattle.c_kinds.specs.Marks.{is_wide}
use Rattle.c_kinds.specs.Scopes.{Env}
use Rattle.c_reading_defs.specs.Bindings.{IsBoundTo, IsUnbound}
use Rattle.c_reading_defs.specs.Formats.{IsFormat}
use Rattle.c_reading_defs.specs.Meanings.{Means}
use Rattle.c_reading_defs.specs.Violations.{broken}

-- ---- one argument

-- what is to be a number
abbrev pub WantsNumber : Want → Type 0
WantsNumber (want.Array kind constant external) = ⊥
WantsNumber _ = Unit {0}

-- an argument that is not what is wanted
pub data ArgumentBreaks (env : Env) (x : Term) : Want → Fault → Type 0 where
  void_handed : {w : Want} (n : Node) → Means env x (Void n) → ArgumentBreaks env x w (broken (first_of x) 24)
  array_for_number : {w : Want} (a : ArrayName) → WantsNumber w → Means env x (Array a) → ArgumentBreaks env x w (broken (first_of x) 22)
  number_for_array : {kind : IntKind} {constant external : Bool} (v : Valued) → Means env x (Value v) →
      ArgumentBreaks env x (want.Array kind constant external) (broken (first_of x) 22)
  other_kind : {kind : IntKind} {constant external : Bool} (a : ArrayName) → Means env x (Array a) → a.kind ≢ kind →
      ArgumentBreaks env x (want.Array kind constant external) (broken (first_of x) 22)
  const_handed : {kind : IntKind} {external : Bool} (a : ArrayName) → Means env x (Array a) → a.constant ≡ true →
      ArgumentBreaks env x (want.Array kind false external) (broken a.token 26)
  -- to a function without a body in the file
  array_given_away : {kind : IntKind} {constant : Bool} (a : ArrayName) → Means env x (Array a) →
      ArgumentBreaks env x (want.Array kind constant true) (broken (first_of x) 38)
  -- for a conversion of `printf`
  other_size : {wide : Bool} (v : Valued) → Means env x (Value v) → is_wide v.kind ≢ wide → ArgumentBreaks env x (want.Sized wide) (broken (first_of x) 40)

-- one argument of as many as are wanted breaks a rule
abbrev pub SomeArgumentBreaks : Env → List Want → Terms → Fault → Type 0
SomeArgumentBreaks env (w ∷ ws) (Then x xs) v = ArgumentBreaks env x w v ⊎ SomeArgumentBreaks env ws xs v
SomeArgumentBreaks env _ _ v = ⊥

-- a text among the arguments
abbrev pub HasText : Env → Terms → Fault → Type 0
HasText env NoTerm v = ⊥
HasText env (Then x xs) v = ((bytes : List ℕ) × Means env x (Text bytes) × (v ≡ broken (first_of x) 40)) ⊎ HasText env xs v

-- ---- a call

-- neither a function nor `printf`
abbrev pub IsNoFunction : Binding → Type 0
IsNoFunction (Function s) = ⊥
IsNoFunction Printf = ⊥
IsNoFunction _ = Unit {0}

-- no arguments, or a first one that is no text
abbrev pub HasNoFormat : Env → Terms → Type 0
HasNoFormat env NoTerm = Unit {0}
HasNoFormat env (Then f xs) = (bytes : List ℕ) → Means env f (Text bytes) → ⊥

-- a call, at the called name, of what the name is bound to, with these arguments
pub data CalledBreaks (env : Env) (at : ℕ) : Binding → Terms → Fault → Type 0 where
  no_function : {b : Binding} {xs : Terms} → IsNoFunction b → CalledBreaks env at b xs (broken at 22)
  other_number : {s : Signature} {xs : Terms} → length s.wants ≢ count xs → CalledBreaks env at (Function s) xs (broken at 23)
  -- the call fits, and an argument breaks a rule
  argument : {s : Signature} {xs : Terms} {v : Fault} → length s.wants ≡ count xs → SomeArgumentBreaks env s.wants xs v → CalledBreaks env at (Function s) xs v
  no_format : {xs : Terms} → HasNoFormat env xs → CalledBreaks env at Printf xs (broken at 40)
  other_conversion : {f : Term} {xs : Terms} (bytes : List ℕ) → Means env f (Text bytes) → ((ws : List Want) → IsFormat bytes ws → ⊥) →
      CalledBreaks env at Printf (Then f xs) (broken at 40)
  other_count : {f : Term} {xs : Terms} (bytes : List ℕ) (ws : List Want) → Means env f (Text bytes) → IsFormat bytes ws → length ws ≢ count xs →
      CalledBreaks env at Printf (Then f xs) (broken at 40)
  -- an argument of `printf` breaks what its format wants
  printed : {f : Term} {xs : Terms} {v : Fault} (bytes : List ℕ) (ws : List Want) → Means env f (Text bytes) → IsFormat bytes ws →
      length ws ≡ count xs → SomeArgumentBreaks env ws xs v
      → CalledBreaks env at Printf (Then f xs) v
  text_printed : {f : Term} {xs : Terms} {v : Fault} → HasText env xs v → CalledBreaks env at Printf (Then f xs) v

-- a call, at the called name, with these arguments
pub data CallBreaks (env : Env) (at : ℕ) (xs : Terms) : Fault → Type 0 where
  undeclared : IsUnbound (env.word at) env.scopes → CallBreaks env at xs (broken at 20)
  called : {v : Fault} (b : Binding) → IsBoundTo (env.word at) b env.scopes → CalledBreaks env at b xs v → CallBreaks env at xs v
  -- a text is an argument of `printf` alone
  text_handed : {v : Fault} → (IsBoundTo (env.word at) Printf env.scopes → ⊥) → HasText env xs v → CallBreaks env at xs v
