-- The variable of a name at file scope is the one that is declared with it.
use Rattle.std.proofs.Common.{◌≡◌, ℕ, Bool, true, false, cond, List, [], ◌∷◌, Option, Some, is_some, refl, ap, sym, ◌∙◌, true≢false, bytes_eq}
use Rattle.c_tree.specs.declared.tree.Top.{Top}
use Rattle.c_tree.specs.declared.tree.Top.TheVariants as T
use Rattle.c_tree.specs.declared.tree.Slot.{Slot}
use Rattle.c_tree.specs.declared.tree.EnumItem.{EnumItem}
use Rattle.c_tree.specs.declared.tree.Home.TheVariants as H
use Rattle.c_resolved_defs.specs.Names.{the_global}
use Rattle.c_resolved_defs.specs.Within.{Each}
use Rattle.c_resolved_defs.specs.Scopes.{Scope, Meaning, AConstant, AVariable, AFunction, found, bind, bind_constants, behind_top, IsNew, TopsAreBound, NamesAreBound, at_start}
use Rattle.reread_parts_laws.specs.Bindings.{IsInScope}
use Rattle.reread_parts_laws.specs.Laws.{IsFound}
use Rattle.c_kinds.proofs.Entries.{same_names, names_same, by_bool}

-- bound in the nearest scope
abbrev IsThere : List ℕ → List Scope → Type 0
IsThere m [] = ⊥
IsThere m (s ∷ ss) = is_some (found m s) ≡ true

abbrev Differs : List ℕ → Top → Type 0
Differs m (T.Global g) = bytes_eq m g.slot.name ≡ false
Differs m _ = Unit {0}

stays : (m k : List ℕ) (b : Meaning) (ss : List Scope) → IsThere m ss → IsThere m (bind k b ss)
stays m k b [] h = absurd h
stays m k b (s ∷ ss) h = either (bytes_eq m k) (found m s) h
  where
    either : (t : Bool) (o : Option Meaning) → is_some o ≡ true → is_some (cond t (Some b) o) ≡ true
    either true o h = refl
    either false o h = h

stays_all : (m : List ℕ) (es : List EnumItem) (ss : List Scope) → IsThere m ss → IsThere m (bind_constants es ss)
stays_all m [] ss h = h
stays_all m (e ∷ es) ss h = stays_all m es (bind e.name (AConstant e.value) ss) (stays m e.name (AConstant e.value) ss h)

bound_there : (k : List ℕ) (b : Meaning) (ss : List Scope) → IsInScope ss → IsThere k (bind k b ss)
bound_there k b [] h = absurd h
bound_there k b (s ∷ ss) h = ap (λ t. is_some (cond t (Some b) (found k s))) (names_same k k refl)

bind_inside : (m : List ℕ) (b : Meaning) (ss : List Scope) → IsInScope ss → IsInScope (bind m b ss)
bind_inside m b [] h = absurd h
bind_inside m b (s ∷ ss) h = tt

constants_inside : (es : List EnumItem) (ss : List Scope) → IsInScope ss → IsInScope (bind_constants es ss)
constants_inside [] ss h = h
constants_inside (e ∷ es) ss h = constants_inside es (bind e.name (AConstant e.value) ss) (bind_inside e.name (AConstant e.value) ss h)

differs : (m k : List ℕ) (ss : List Scope) → IsThere m ss → IsNew k ss → bytes_eq m k ≡ false
differs m k [] h e = absurd h
differs m k (s ∷ ss) h e = by_bool (bytes_eq m k) (λ y. absurd (true≢false (sym h ∙ ap is_some (ap (λ q. found q s) (same_names m k y) ∙ e)))) (λ n. n)

later : (m : List ℕ) (xs : List Top) (ss : List Scope) → IsThere m ss → TopsAreBound ss xs → Each (Differs m) xs
later m [] ss h b = tt
later m (T.Include bytes ∷ xs) ss h b = (tt, later m xs ss h (b.1))
later m (T.Note bytes ∷ xs) ss h b = (tt, later m xs ss h (b.1))
later m (T.Enum es ∷ xs) ss h b = (tt, later m xs (bind_constants es ss) (stays_all m es ss h) (b.1))
later m (T.Global g ∷ xs) ss h b =
    (differs m g.slot.name ss h ((b.0).0.0), later m xs (behind_top ss (T.Global g)) (stays m g.slot.name (AVariable (H.Global g.slot.name)) ss h) (b.1))
later m (T.Function f ∷ xs) ss h b = (tt, later m xs (behind_top ss (T.Function f)) (stays m f.name AFunction ss h) (b.1))

-- behind one more
behind_other : (ts us : List Top) → ((m : List ℕ) → the_global m us ≡ the_global m ts) → (xs : List Top) → Each (IsFound ts) xs → Each (IsFound us) xs
behind_other ts us e [] h = tt
behind_other ts us e (T.Include bytes ∷ xs) h = (tt, behind_other ts us e xs (h.1))
behind_other ts us e (T.Note bytes ∷ xs) h = (tt, behind_other ts us e xs (h.1))
behind_other ts us e (T.Enum es ∷ xs) h = (tt, behind_other ts us e xs (h.1))
behind_other ts us e (T.Function f ∷ xs) h = (tt, behind_other ts us e xs (h.1))
behind_other ts us e (T.Global g ∷ xs) h = (e g.slot.name ∙ h.0, behind_other ts us e xs (h.1))

behind_global : (s : Slot) (ts us : List Top) → ((m : List ℕ) → the_global m us ≡ cond (bytes_eq s.name m) (Some s) (the_global m ts)) →
    (xs : List Top) → Each (Differs s.name) xs → Each (IsFound ts) xs → Each (IsFound us) xs
behind_global s ts us e [] d h = tt
behind_global s ts us e (T.Include bytes ∷ xs) d h = (tt, behind_global s ts us e xs (d.1) (h.1))
behind_global s ts us e (T.Note bytes ∷ xs) d h = (tt, behind_global s ts us e xs (d.1) (h.1))
behind_global s ts us e (T.Enum es ∷ xs) d h = (tt, behind_global s ts us e xs (d.1) (h.1))
behind_global s ts us e (T.Function f ∷ xs) d h = (tt, behind_global s ts us e xs (d.1) (h.1))
behind_global s ts us e (T.Global g ∷ xs) d h = (
  e g.slot.name ∙ ap (λ b. cond b (Some s) (the_global g.slot.name ts)) (d.0) ∙ h.0,
  behind_global s ts
      us e xs (d.1) (h.1),
)

all_found : (xs : List Top) (ss : List Scope) → IsInScope ss → TopsAreBound ss xs → Each (IsFound xs) xs
all_found [] ss there b = tt
all_found (T.Include bytes ∷ xs) ss there b = (tt, behind_other xs (T.Include bytes ∷ xs) (λ m. refl) xs (all_found xs ss there (b.1)))
all_found (T.Note bytes ∷ xs) ss there b = (tt, behind_other xs (T.Note bytes ∷ xs) (λ m. refl) xs (all_found xs ss there (b.1)))
all_found (T.Enum es ∷ xs) ss there b = (
  tt,
  behind_other xs (T.Enum es ∷ xs) (λ m. refl) xs
      (all_found xs (bind_constants es ss) (constants_inside es ss there) (b.1)),
)
all_found (T.Function f ∷ xs) ss there b = (
  tt,
  behind_other xs (T.Function f ∷ xs) (λ m. refl) xs
      (all_found xs (behind_top ss (T.Function f)) (bind_inside f.name AFunction ss there) (b.1)),
)
all_found (T.Global g ∷ xs) ss there b =
    let meaning = AVariable (H.Global g.slot.name) in
    let behind = behind_top ss (T.Global g) in (
      ap (λ t. cond t (Some g.slot) (the_global g.slot.name xs)) (names_same g.slot.name g.slot.name refl),
      behind_global g.slot xs (T.Global g ∷ xs) (λ m. refl) xs (later g.slot.name xs behind (bound_there g.slot.name meaning ss there) (b.1))
          (all_found xs behind (bind_inside g.slot.name meaning ss there) (b.1)),
    )

pub globals_found : (ts : List Top) → NamesAreBound ts → Each (IsFound ts) ts
globals_found ts b = all_found ts at_start tt b
