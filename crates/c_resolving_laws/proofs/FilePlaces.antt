-- At each place of a file without a violation, what is bound is what stands there in the whole file.
use Rattle.std.proofs.Common.{ℕ, negsuc, Bool, true, ◌&&◌, List, [], ◌∷◌, ◌++◌, append_assoc, map, Option, Some, None, is_some, ◌≡◌, refl, sym, ap, subst, ◌∙◌, true≢false}
use Rattle.std.specs.Prelude.{IfSome}
use Rattle.c_types.specs.Words.{is_known}
use Rattle.c_tree.specs.declared.tree.Slot.{Slot}
use Rattle.c_tree.specs.declared.tree.Top.{Top}
use Rattle.c_tree.specs.declared.tree.Top.TheVariants as T
use Rattle.c_grammar.specs.Tops.{Function, Form, Line, Enum, Globals, Defines, Unread}
use Rattle.c_grammar.specs.Tops as tops
use Rattle.c_kinds.specs.declared.binding.Binding.{Binding}
use Rattle.c_kinds.specs.declared.binding.Binding.TheVariants as B
use Rattle.c_kinds.specs.Scopes.{Scope, found, known_scope}
use Rattle.c_scopes.specs.Enums.{enum_items}
use Rattle.c_scopes.specs.Files.{File, State, env_of, function_declared, notes_tops, form_tops, behind_form, form_faults, tops_of, file_faults}
use Rattle.c_scopes.specs.FunctionNames.{has_function, has_body, signature_in}
use Rattle.c_statements.specs.declared.anchors.Anchor.TheVariants.{Before, Last}
use Rattle.c_statements.specs.Declarations.{kinded}
use Rattle.c_statements.specs.Functions.{function_of}
use Rattle.c_resolved_defs.specs.Names.{the_function}
use Rattle.c_resolved_defs.specs.Scopes as Scopes
use Rattle.c_resolving_laws.proofs.FileNames.{NoG, Unnamed, no_function, FileGood, Same, IsDefined, file_knows}
use Rattle.c_resolving_laws.proofs.FileParts.{file_parts, function_parts}
use Rattle.c_resolving_laws.proofs.FileScope.{Grows, grows_twice, Inv, inv_neutral}
use Rattle.c_resolving_laws.proofs.FileWalk.{Shaped, tree_scopes, behind_tops, Stepped, enums_step, globals_step, function_step}
use Rattle.c_resolving_laws.proofs.FunctionTrees.{own_agrees, function_name}
use Rattle.c_resolving_laws.proofs.Known.{Knows}
use Rattle.c_resolving_laws.specs.Read.{IsReadTopForm, IsReadFile}

-- ---- what has no name

pub notes_unnamed : (m : List ℕ) (bs : List (List ℕ)) → Unnamed m (map T.Note bs)
notes_unnamed m [] = tt
notes_unnamed m (b ∷ bs) = (tt, notes_unnamed m bs)

pub notes_behind : (defined : List ℕ → Bool) (ss : List Scopes.Scope) (bs : List (List ℕ)) → behind_tops defined ss (map T.Note bs) ≡ ss
notes_behind defined ss [] = refl
notes_behind defined ss (b ∷ bs) = notes_behind defined ss bs

module _ (file : File) where
  abbrev pub defined : List ℕ → Bool
  defined m = has_function file.bodies m

  -- what is bound by a place, behind these
  pub record Place (done : List Top) (scopes : List Scope) : Type 0 where
    pub fs : Scope
    pub rs : Scopes.Scope
    pub shaped : Shaped scopes fs
    pub inv : Inv defined done fs rs

  -- behind the comments in front of a form
  abbrev pub noted : (done : List Top) (scopes : List Scope) (bs : List (List ℕ)) → Place done scopes → Place (done ++ map T.Note bs) scopes
  noted done scopes bs p = record {
    fs = p.fs;
    rs = p.rs;
    shaped = p.shaped;
    inv = inv_neutral defined done (map T.Note bs) p.fs p.rs (λ m. notes_unnamed m bs) p.inv;
  }

  pub form_step : (done : List Top) (first : ℕ) (form : Form) (s : State) (p : Place done s.scopes) → IsReadTopForm file.word form →
      form_faults file form s [] ≡ []
      → Stepped defined (done ++ form_tops file first form s) p.fs p.rs (behind_form file form s).scopes
      (behind_tops defined (tree_scopes p.rs) (form_tops file first form s))
  form_step done first Line s p r e =
      record {
        fs' = p.fs;
        rs' = p.rs;
        shaped = p.shaped;
        inv = inv_neutral defined done (T.Include (file.word first) ∷ []) p.fs p.rs (λ m. (tt, tt))
            p.inv;
        grows = λ m x h. h;
        tree = refl;
      }
  form_step done first (Enum es) s p r e =
      let env = env_of file s in
      let items = enum_items es (Some (negsuc 0)) env in
      enums_step defined es (Some (negsuc 0)) env (done ++ T.Enum items ∷ []) p.fs p.rs p.shaped e
      (inv_neutral defined done (T.Enum items ∷ []) p.fs p.rs (λ m. (tt, tt)) p.inv)
  form_step done first (Globals static d) s p r e = globals_step defined static (kinded file.word d) d.names (env_of file s) done p.fs p.rs p.shaped e p.inv
  form_step done first (Defines f) s p r e =
      let q = function_parts file f s e in
      let scopes = (function_declared file f s).scopes in
      function_step defined (function_of file.word file.notes f scopes) (file.word f.name) (signature_in file.bodies file.word f) done p.fs p.rs
      s.scopes f.name (has_body f && has_function s.bodies (file.word f.name))
      (function_name file.word file.notes f scopes f.body) p.shaped q.0.again q.0.unknown
      (own_agrees file.bodies file.flat file.word file.notes f scopes r.body q.1) p.inv
  form_step done first Unread s p r e = absurd r

  -- ---- the whole file

  pub record AtEnd (all : List Top) (fs : Scope) : Type 0 where
    pub last : Scope
    pub names : Scopes.Scope
    pub inv : Inv defined all last names
    pub grows : Grows fs last

  -- the place behind a form
  abbrev pub stepped_place : (done : List Top) (first : ℕ) (form : Form) (s : State) (p : Place done s.scopes) → IsReadTopForm file.word form →
      form_faults file form s [] ≡ []
      → Place (done ++ (notes_tops file (Before first) ++ form_tops file first form s)) (behind_form file form s).scopes
  stepped_place done first form s p r e =
      let bs = file.notes (Before first) in
      let q = form_step (done ++ map T.Note bs) first form s (noted done s.scopes bs p) r e in
      record {
        fs = q.fs';
        rs = q.rs';
        shaped = q.shaped;
        inv = subst (λ l. Inv defined l q.fs' q.rs')
            (append_assoc done (map T.Note bs) (form_tops file first form s)) q.inv;
      }

  pub at_end : (xs : List tops.Top) (s : State) (done : List Top) (p : Place done s.scopes) → IsReadFile file.word xs →
      file_faults file xs s [] ≡ [] → AtEnd (done ++ tops_of file xs s) p.fs
  at_end [] s done p r e = record {
    last = p.fs;
    names = p.rs;
    inv = inv_neutral defined done (notes_tops file Last) p.fs p.rs
        (λ m. notes_unnamed m (file.notes Last)) p.inv;
    grows = λ m x h. h;
  }
  at_end (tops.From first after form ∷ xs) s done p r e =
      let q = file_parts file first after form xs s e in
      let bs = file.notes (Before first) in
      let v = form_step (done ++ map T.Note bs) first form s (noted done s.scopes bs p) r.0.0 q.0 in
      let new = notes_tops file (Before first) ++ form_tops file first form s in
      let z = at_end xs (behind_form file form s) (done ++ new) (stepped_place done first form s p r.0.0 q.0) r.1 q.1 in
      record {
        last = z.last;
        names = z.names;
        inv = subst (λ l. Inv defined l z.last z.names) (append_assoc done new (tops_of file xs (behind_form file form s))) z.inv;
        grows = grows_twice p.fs v.fs' z.last v.grows z.grows;
      }

  -- no function of the file has the name of one of the library
  unknown_functions : (all : List Top) (fs : Scope) → AtEnd all fs → (m : List ℕ) → is_known m ≡ true → the_function m all ≡ None
  unknown_functions all fs z m k = by (found m z.last) refl (z.inv.good m)
    where
      by : (o : Option Binding) → found m z.last ≡ o → IfSome o (FileGood defined all m) → the_function m all ≡ None
      by None e g = no_function NoG m all (z.inv.fresh m (ap is_some e))
      by (Some (B.Constant v)) e g = no_function NoG m all g.1
      by (Some (B.Global shape)) e g = no_function (λ g. Unit {0}) m all g.1
      by (Some (B.Function s)) e g = absurd (true≢false (sym k ∙ g.2))
      by (Some (B.Local x shape)) e g = absurd g
      by (Some B.Printf) e g = absurd g

  -- ---- what is known at a place

  module _ (all : List Top) (slots : List Slot) (known : IsDefined defined all slots) (fs : Scope) (z : AtEnd all fs) where
    pub place_knows : (now : Scope) (rs : Scopes.Scope) → Grows now z.last → Same now rs →
        Knows (record { tops = all; slots = slots }) (tree_scopes rs) (record { word = file.word; scopes = now ∷ known_scope ∷ [] })
    place_knows now rs g same =
        file_knows defined all slots (unknown_functions all fs z) (tree_scopes rs) known file.word now rs same refl (λ m. good m (found m now) refl)
      where
        good : (m : List ℕ) (o : Option Binding) → found m now ≡ o → IfSome o (FileGood defined all m)
        good m None e = tt
        good m (Some b) e = subst (λ o. IfSome o (FileGood defined all m)) (g m b e) (z.inv.good m)
