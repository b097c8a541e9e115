-- The tree of a function: its slots begin with its parameters, and it agrees with its signature.
use Rattle.std.proofs.Common.{ℕ, Bool, true, false, cond, not, List, [], ◌∷◌, ◌++◌, append_assoc, map, length, take, drop, Option, Some, None, ◌≡◌, refl, sym, ap, subst, ◌∙◌}
use Rattle.std.specs.Prelude.{IfSome}
use Rattle.std.proofs.lemmas.List.{append-nil}
use Rattle.c_tree.specs.declared.tree.Slot.{Slot}
use Rattle.c_grammar.specs.Items.{Declarator, Body, Braces, Lone}
use Rattle.c_grammar.specs.Tops.{Parameter, Function}
use Rattle.c_grammar.specs.Words.{kind_of}
use Rattle.c_kinds.specs.declared.binding.Want.TheVariants as want
use Rattle.c_kinds.specs.Scopes.{Scope}
use Rattle.c_scopes.specs.FunctionNames.{has_function, signature_in}
use Rattle.c_statements.specs.declared.extents.Kinded.{Kinded}
use Rattle.c_statements.specs.declared.anchors.Anchor.{Anchor}
use Rattle.c_statements.specs.Context.{Context, Walk, env_in, no_construct}
use Rattle.c_statements.specs.Declarations.{is_array, slot_of, local_faults}
use Rattle.c_statements.specs.Functions.{FlatCounts, want_of, parameter_slot, bind_parameter, bind_parameters, context, inside, behind_body, body_faults, function_of}
use Rattle.c_resolving_laws.proofs.Defined.{defined}
use Rattle.c_resolving_laws.proofs.FileNames.{FunctionAgrees}
use Rattle.c_resolving_laws.proofs.FileParts.{BodyParts}
use Rattle.c_resolving_laws.proofs.Grown.{Grown, list_grows, item_grows}
use Rattle.c_resolving_laws.proofs.Known.{WantAgrees, WantsAgree}
use Rattle.c_resolving_laws.specs.Read.{IsReadDeclarator, IsReadBody}
use Rattle.c_resolving_laws.proofs.Walk.{Any}

-- ---- parameters

bound_slots : (word : ℕ → List ℕ) (xs : List Parameter) (w : Walk) → (bind_parameters word xs w).slots ≡ w.slots ++ map (parameter_slot word) xs
bound_slots word [] w = sym (append-nil w.slots)
bound_slots word (x ∷ xs) w = bound_slots word xs (bind_parameter word x w) ∙ append_assoc w.slots (parameter_slot word x ∷ []) (map (parameter_slot word) xs)

pub inside_slots : (word : ℕ → List ℕ) (f : Function) (scopes : List Scope) → (inside word f scopes).slots ≡ map (parameter_slot word) f.parameters
inside_slots word f scopes = bound_slots word f.parameters (record { scopes = [] ∷ scopes; slots = [] })

pub take_all : {A B : Type 0} (g : A → B) (xs : List A) (more : List B) → take (length xs) (map g xs ++ more) ≡ map g xs
take_all g [] more = refl
take_all g (x ∷ xs) more = ap (λ l. g x ∷ l) (take_all g xs more)

pub drop_all : {A B : Type 0} (g : A → B) (xs : List A) (more : List B) → drop (length xs) (map g xs ++ more) ≡ more
drop_all g [] more = refl
drop_all g (x ∷ xs) more = drop_all g xs more

-- ---- the slots of a function

pub body_grown : (ctx : Context) (Q : Slot → Type 0) (declares : (k : Kinded) (d : Declarator) (w : Walk) → IsReadDeclarator ctx.word d →
    local_faults ctx.word k d w [] ≡ [] → Q (slot_of (env_in ctx.word w) k d))
    → (b : Body) (w : Walk) → IsReadBody ctx.word b → body_faults ctx b w [] ≡ [] → Grown Q w.slots (behind_body ctx b w).slots
body_grown ctx Q declares (Braces first after xs) w r e = list_grows ctx Q declares no_construct xs w r e
body_grown ctx Q declares (Lone first after y) w r e = item_grows ctx Q declares no_construct y w r e

-- the slots behind the parameters
pub record Behind (word : ℕ → List ℕ) (f : Function) (slots : List Slot) : Type 0 where
  pub more : List Slot
  pub whole : slots ≡ map (parameter_slot word) f.parameters ++ more

pub behind_parameters : (flat : FlatCounts) (word : ℕ → List ℕ) (notes : Anchor → List (List ℕ)) (f : Function) (scopes : List Scope)
    (o : Option Body) → IfSome o (IsReadBody word) → BodyParts flat word notes f o scopes
    → Behind word f (defined word notes f o scopes).slots
behind_parameters flat word notes f scopes None r p = record {
  more = [];
  whole = inside_slots word f scopes ∙ sym
      (append-nil (map (parameter_slot word) f.parameters));
}
behind_parameters flat word notes f scopes (Some b) r p =
    let g = body_grown (context word notes f b) Any (λ k d w r e. tt) b (inside word f scopes) r p.body in
    record { more = g.more; whole = g.whole ∙ ap (λ l. l ++ g.more) (inside_slots word f scopes) }

-- ---- its signature

want_own : (word : ℕ → List ℕ) (D : Bool) (y : Parameter) → WantAgrees D (want_of word (not D) y) (parameter_slot word y)
want_own word D y = by (is_array y.size)
  where
    by : (b : Bool) → WantAgrees D (cond b (want.Array (kind_of word y.words) y.constant (not D)) (want.Number (kind_of word y.words) y.constant))
        (record { name = (parameter_slot word y).name; kind = kind_of word y.words; cells = cond b (Some 0) None; constant = y.constant })
    by true = (refl, refl, refl, refl)
    by false = (refl, refl, refl)

wants_own : (word : ℕ → List ℕ) (D : Bool) (ys : List Parameter) → WantsAgree D (map (want_of word (not D)) ys) (map (parameter_slot word) ys)
wants_own word D [] = tt
wants_own word D (y ∷ ys) = (want_own word D y, wants_own word D ys)

own_by : (bodies : List (List ℕ)) (flat : FlatCounts) (word : ℕ → List ℕ) (notes : Anchor → List (List ℕ)) (f : Function) (scopes : List Scope)
    (o : Option Body)
    → Behind word f (defined word notes f o scopes).slots → FunctionAgrees (has_function bodies (word f.name)) (signature_in bodies word f)
    (defined word notes f o scopes)
own_by bodies flat word notes f scopes None b =
    let D = has_function bodies (word f.name) in (
      refl,
      subst (WantsAgree D (map (want_of word (not D)) f.parameters))
          (sym (ap (take (length f.parameters)) b.whole ∙ take_all (parameter_slot word) f.parameters b.more)) (wants_own word D f.parameters),
    )
own_by bodies flat word notes f scopes (Some k) b =
    let D = has_function bodies (word f.name) in (
      refl,
      subst (WantsAgree D (map (want_of word (not D)) f.parameters))
          (sym (ap (take (length f.parameters)) b.whole ∙ take_all (parameter_slot word) f.parameters b.more)) (wants_own word D f.parameters),
    )

pub own_agrees : (bodies : List (List ℕ)) (flat : FlatCounts) (word : ℕ → List ℕ) (notes : Anchor → List (List ℕ)) (f : Function)
    (scopes : List Scope) → IfSome f.body (IsReadBody word) → BodyParts flat word notes f f.body scopes
    → FunctionAgrees (has_function bodies (word f.name)) (signature_in bodies word f) (function_of word notes f scopes)
own_agrees bodies flat word notes f scopes r p = own_by bodies flat word notes f scopes f.body (behind_parameters flat word notes f scopes f.body r p)

pub function_name : (word : ℕ → List ℕ) (notes : Anchor → List (List ℕ)) (f : Function) (scopes : List Scope) (o : Option Body) →
    (defined word notes f o scopes).name ≡ word f.name
function_name word notes f scopes None = refl
function_name word notes f scopes (Some b) = refl
