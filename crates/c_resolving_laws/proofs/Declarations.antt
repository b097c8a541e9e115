-- The declarations of a function agree, and one of them at most has a body.
use Rattle.std.proofs.Common.{ℕ, Bool, true, false, ◌&&◌, ◌||◌, List, [], ◌∷◌, ◌++◌, append_assoc, map, Option, Some, None, is_some, ◌≡◌, refl, sym, ap, subst, ◌∙◌, true≢false, bytes_eq}
use Rattle.std.specs.Prelude.{IfSome, take}
use Rattle.std.proofs.lemmas.List.{append-nil}
use Rattle.c_tree.specs.declared.tree.Slot.{Slot}
use Rattle.c_tree.specs.declared.tree.Function.{Function}
use Rattle.c_tree.specs.declared.tree.Top.{Top}
use Rattle.c_tree.specs.declared.tree.Top.TheVariants as T
use Rattle.c_grammar.specs.Items.{Declarator}
use Rattle.c_grammar.specs.Tops.{Form, Line, Enum, Globals, Defines, Unread}
use Rattle.c_grammar.specs.Tops as tops
use Rattle.c_kinds.specs.declared.binding.Want.{Want}
use Rattle.c_kinds.specs.declared.binding.Want.TheVariants as want
use Rattle.c_kinds.specs.declared.binding.Signature.{Signature}
use Rattle.c_kinds.specs.declared.binding.Binding.{Binding}
use Rattle.c_kinds.specs.declared.binding.Binding.TheVariants as B
use Rattle.c_kinds.specs.Scopes.{Env, Scope, found, bound}
use Rattle.c_scopes.specs.Files.{File, State, env_of, function_declared, notes_tops, form_tops, behind_form, form_faults, tops_of, file_faults}
use Rattle.c_scopes.specs.FunctionNames.{has_function, has_body, signature_in, again_faults}
use Rattle.c_scopes.specs.Globals.{globals, global_declared}
use Rattle.c_statements.specs.declared.extents.Kinded.{Kinded}
use Rattle.c_statements.specs.declared.anchors.Anchor.TheVariants.{Before, Last}
use Rattle.c_statements.specs.Declarations.{kinded}
use Rattle.c_statements.specs.Functions.{function_of}
use Rattle.c_resolved_defs.specs.Files.{SameParameter, SameParameters, Agree, AgreesWith, DeclarationsAgree}
use Rattle.c_resolved_defs.specs.Within.{Each}
use Rattle.c_kinds.proofs.Entries.{same_names, names_same}
use Rattle.c_resolving_laws.proofs.Bodies.{has_with_body, body_there, has_body_in, body_append, notes_bodiless, form_body, form_bodies, no_body}
use Rattle.c_resolving_laws.proofs.FileNames.{Named, NoF, NoG, unnamed_all, named_map, FunctionAgrees, FileGood}
use Rattle.c_resolving_laws.proofs.FileParts.{function_parts, file_parts}
use Rattle.c_resolving_laws.proofs.FilePlaces.{defined, Place, stepped_place, AtEnd}
use Rattle.c_resolving_laws.specs.Read.{IsReadFile}
use Rattle.c_resolving_laws.proofs.FunctionTrees.{function_name}
use Rattle.c_resolving_laws.proofs.Known.{WantAgrees, WantsAgree}
use Rattle.c_resolving_laws.proofs.Lists.{clean_if, none_left, each_append}

-- ---- parameters

one_same : (D : Bool) (w : Want) (s r : Slot) → WantAgrees D w s → WantAgrees D w r → SameParameter s r
one_same D (want.Number k c) s r h l = record { kind = h.0 ∙ sym l.0; array = ap is_some h.2 ∙ sym (ap is_some l.2); constant = h.1 ∙ sym l.1 }
one_same D (want.Array k c x) s r h l = record { kind = h.0 ∙ sym l.0; array = h.2 ∙ sym l.2; constant = h.1 ∙ sym l.1 }
one_same D (want.Sized w) s r h l = absurd h

all_same : (D : Bool) (ws : List Want) (ss rs : List Slot) → WantsAgree D ws ss → WantsAgree D ws rs → SameParameters ss rs
all_same D [] [] [] h l = tt
all_same D [] [] (r ∷ rs) h l = absurd l
all_same D [] (s ∷ ss) rs h l = absurd h
all_same D (w ∷ ws) [] rs h l = absurd h
all_same D (w ∷ ws) (s ∷ ss) [] h l = absurd l
all_same D (w ∷ ws) (s ∷ ss) (r ∷ rs) h l = (one_same D w s r h.0 l.0, all_same D ws ss rs h.1 l.1)

-- ---- bodies

-- no function of the name has a body
abbrev pub NoBody : List ℕ → Top → Type 0
NoBody m (T.Function g) = bytes_eq m g.name ≡ true → is_some g.body ≡ false
NoBody m _ = Unit {0}

-- each function with a body is the only one behind which there is one
abbrev pub BodiesOnce : List Top → Type 0
BodiesOnce [] = Unit {0}
BodiesOnce (T.Function f ∷ ts) = (is_some f.body ≡ true → Each (NoBody f.name) ts) × BodiesOnce ts
BodiesOnce (_ ∷ ts) = BodiesOnce ts

-- lists without functions
abbrev IsNoFunction : Top → Type 0
IsNoFunction (T.Function f) = ⊥
IsNoFunction _ = Unit {0}

once_before : (xs ys : List Top) → Each IsNoFunction xs → BodiesOnce ys → BodiesOnce (xs ++ ys)
once_before [] ys h k = k
once_before (T.Function f ∷ xs) ys h k = absurd h.0
once_before (T.Global g ∷ xs) ys h k = once_before xs ys h.1 k
once_before (T.Enum es ∷ xs) ys h k = once_before xs ys h.1 k
once_before (T.Include bs ∷ xs) ys h k = once_before xs ys h.1 k
once_before (T.Note bs ∷ xs) ys h k = once_before xs ys h.1 k

bodiless : (m : List ℕ) (xs : List Top) → Each IsNoFunction xs → Each (NoBody m) xs
bodiless m [] h = tt
bodiless m (T.Function f ∷ xs) h = absurd h.0
bodiless m (T.Global g ∷ xs) h = (tt, bodiless m xs h.1)
bodiless m (T.Enum es ∷ xs) h = (tt, bodiless m xs h.1)
bodiless m (T.Include bs ∷ xs) h = (tt, bodiless m xs h.1)
bodiless m (T.Note bs ∷ xs) h = (tt, bodiless m xs h.1)

notes_none : (bs : List (List ℕ)) → Each IsNoFunction (map T.Note bs)
notes_none [] = tt
notes_none (b ∷ bs) = (tt, notes_none bs)

globals_none : (static : Bool) (k : Kinded) (ds : List Declarator) (env : Env) → Each IsNoFunction (globals static k ds env)
globals_none static k [] env = tt
globals_none static k (d ∷ ds) env = (tt, globals_none static k ds (global_declared k d env))

-- no body stood before
not_before : (at : ℕ) (b c : Bool) (s : Signature) (o : Option Binding) → again_faults at (b && c) s o [] ≡ [] → b ≡ true → (o ≡ None → c ≡ false) → c ≡ false
not_before at b c s None e h f = f refl
not_before at true c s (Some (B.Function g)) e h f = (clean_if c at 21 _ e).1
not_before at false c s (Some (B.Function g)) e h f = absurd (true≢false (sym h))
not_before at b c s (Some (B.Constant v)) e h f = absurd (none_left _ _ e)
not_before at b c s (Some (B.Global shape)) e h f = absurd (none_left _ _ e)
not_before at b c s (Some (B.Local k shape)) e h f = absurd (none_left _ _ e)
not_before at b c s (Some B.Printf) e h f = absurd (none_left _ _ e)

-- by whether it has a body
by_body : (b : Bool) {A : Type 0} → (b ≡ true → A) → (b ≡ false → A) → A
by_body true f g = f refl
by_body false f g = g refl

module _ (file : File) where
  next_bodies : (m : List ℕ) (form : Form) (s : State) → has_function (behind_form file form s).bodies
      m ≡ (form_body file.word m form || has_function s.bodies m)
  next_bodies m Line s = refl
  next_bodies m (Enum es) s = refl
  next_bodies m (Globals static d) s = refl
  next_bodies m (Defines f) s = has_with_body file.word m f s.bodies
  next_bodies m Unread s = refl

  -- the state has the bodies so far
  abbrev Tracks : List Top → State → Type 0
  Tracks done s = (m : List ℕ) → has_function s.bodies m ≡ has_body_in m done

  tracks_next : (done : List Top) (first : ℕ) (form : Form) (s : State) → Tracks done s →
      Tracks (done ++ (notes_tops file (Before first) ++ form_tops file first form s)) (behind_form file form s)
  tracks_next done first form s t m =
      let notes = notes_tops file (Before first) in
      let new = form_tops file first form s in
      next_bodies m form s
      ∙ (ap (λ b. form_body file.word m form || b) (t m)
      ∙ (turned_or (form_body file.word m form) (has_body_in m done)
      ∙ sym (body_append m done (notes ++ new) ∙ ap (λ b. has_body_in m done || b)
      (body_append m notes new ∙ (ap (λ b. b || has_body_in m new) (notes_bodiless m (file.notes (Before first))) ∙ form_bodies file m first form s)))))
    where
      turned_or : (a b : Bool) → (a || b) ≡ (b || a)
      turned_or true true = refl
      turned_or true false = refl
      turned_or false true = refl
      turned_or false false = refl

  -- of the rest of the file, by the bodies so far
  pub record Once (xs : List tops.Top) (s : State) : Type 0 where
    pub once : BodiesOnce (tops_of file xs s)
    pub none : (m : List ℕ) → has_function s.bodies m ≡ true → Each (NoBody m) (tops_of file xs s)

  -- a form without functions
  plain_once : (first : ℕ) (form : Form) (xs : List tops.Top) (s : State) → Each IsNoFunction (form_tops file first form s) →
      ((m : List ℕ) → has_function s.bodies m ≡ true → has_function (behind_form file form s).bodies m ≡ true)
      → Once xs (behind_form file form s) → (after : ℕ) → Once (tops.From first after form ∷ xs) s
  plain_once first form xs s h k r after =
      let notes = notes_tops file (Before first) in
      let new = form_tops file first form s in
      let n = each_append IsNoFunction notes new (notes_none (file.notes (Before first))) h in
      record {
        once = once_before (notes ++ new) (tops_of file xs (behind_form file form s)) n r.once;
        none = λ m e. each_append (NoBody m) (notes ++ new) (tops_of file xs (behind_form file form s)) (bodiless m (notes ++ new) n) (r.none m (k m e));
      }

  function_once : (first after : ℕ) (f : tops.Function) (xs : List tops.Top) (s : State) →
      (has_body f ≡ true → has_function s.bodies (file.word f.name) ≡ false) → Once xs (behind_form file (Defines f) s) →
      Once (tops.From first after (Defines f) ∷ xs) s
  function_once first after f xs s c r =
      let scopes = (function_declared file f s).scopes in
      let t = function_of file.word file.notes f scopes in
      let notes = notes_tops file (Before first) in
      let rest = tops_of file xs (behind_form file (Defines f) s) in
      let there = body_there file.word file.notes f scopes f.body in
      let named = function_name file.word file.notes f scopes f.body in
      record {
        once = subst BodiesOnce (sym (append_assoc notes (T.Function t ∷ []) rest))
            (once_before notes (T.Function t ∷ rest) (notes_none (file.notes (Before first))) (
              λ b. subst (λ w. Each (NoBody w) rest) (sym named)
                  (r.none (file.word f.name) (has_with_body file.word (file.word f.name) f s.bodies ∙
                  ap (λ b. b || has_function s.bodies (file.word f.name))
                  (both (bytes_eq (file.word f.name) (file.word f.name)) (has_body f) (names_same (file.word f.name) (file.word f.name) refl)
                  (sym there ∙ b)))),
              r.once,
            ));
        none = λ m e. each_append (NoBody m) (notes ++ T.Function t ∷ []) rest
            (each_append (NoBody m) notes (T.Function t ∷ []) (bodiless m notes (notes_none (file.notes (Before first)))) (
              λ n. there ∙ by_body (has_body f) (λ b. absurd (true≢false (sym e ∙ (ap (has_function s.bodies) (same_names m t.name n ∙ named) ∙ c b))))
                  (λ b. b),
              tt,
            ))
            (r.none m (has_with_body file.word m f s.bodies ∙ later (bytes_eq m (file.word f.name) && has_body f) (has_function s.bodies m) e));
      }
    where
      both : (a b : Bool) → a ≡ true → b ≡ true → (a && b) ≡ true
      both true b e h = h
      both false b e h = absurd (true≢false (sym e))

      later : (a b : Bool) → b ≡ true → (a || b) ≡ true
      later true b e = refl
      later false b e = e

  pub file_once : (xs : List tops.Top) (s : State) (done : List Top) (p : Place file done s.scopes) → IsReadFile file.word xs →
      file_faults file xs s [] ≡ [] → Tracks done s → Once xs s
  file_once [] s done p r e t = record {
    once = subst BodiesOnce (append-nil (notes_tops file Last))
        (once_before (notes_tops file Last) [] (notes_none (file.notes Last)) tt);
    none =
        λ m h. bodiless m (notes_tops file Last) (notes_none (file.notes Last));
  }
  file_once (tops.From first after form ∷ xs) s done p r e t =
      let q = file_parts file first after form xs s e in
      let new = notes_tops file (Before first) ++ form_tops file first form s in
      let rest = file_once xs (behind_form file form s) (done ++ new) (stepped_place file done first form s p r.0.0 q.0) r.1 q.1
      (tracks_next done first form s t) in
      by form q.0 rest
    where
      by : (form : Form) → form_faults file form s [] ≡ [] → Once xs (behind_form file form s) → Once (tops.From first after form ∷ xs) s
      by Line e r = plain_once first Line xs s (tt, tt) (λ m h. h) r after
      by (Enum es) e r = plain_once first (Enum es) xs s (tt, tt) (λ m h. h) r after
      by (Globals static d) e r = plain_once first (Globals static d) xs s (globals_none static (kinded file.word d) d.names (env_of file s)) (λ m h. h) r after
      by (Defines f) e r =
          let a = (function_parts file f s e).0.again in
          let m = file.word f.name in
          function_once first after f xs s
          (λ b. not_before f.name (has_body f) (has_function s.bodies m) (signature_in file.bodies file.word f) (bound m s.scopes) a b
          (λ n. t m ∙ no_body m done (p.inv.fresh m (sym (ap (λ sc. is_some (bound m sc)) p.shaped) ∙ ap is_some n)))) r
      by Unread e r = plain_once first Unread xs s tt (λ m h. h) r after

-- ---- all declarations

-- functions of a name agree with one signature
pub record Settled (m : List ℕ) (ts : List Top) : Type 0 where
  pub defined : Bool
  pub signature : Signature
  pub agree : Named (FunctionAgrees defined signature) (λ g. Unit {0}) m ts

pub settled : (file : File) (all : List Top) (fs : Scope) → AtEnd file all fs → (m : List ℕ) → Settled m all
settled file all fs z m = by (found m z.last) refl (z.inv.good m)
  where
    by : (o : Option Binding) → found m z.last ≡ o → IfSome o (FileGood (defined file) all m) → Settled m all
    by None e g = record { defined = true; signature = record { result = None; wants = [] }; agree = unnamed_all _ _ m all (z.inv.fresh m (ap is_some e)) }
    by (Some (B.Constant v)) e g = record { defined = true; signature = record { result = None; wants = [] }; agree = unnamed_all _ _ m all g.1 }
    by (Some (B.Global shape)) e g = record {
      defined = true;
      signature = record { result = None; wants = [] };
      agree = named_map NoF (λ g. Unit {0}) _ (λ g. Unit {0}) (λ f x. absurd x) (λ g x. tt) m all g.1;
    }
    by (Some (B.Function s)) e g = record {
      defined = defined file m;
      signature = s;
      agree = named_map (FunctionAgrees (defined file m) s) NoG _ (λ g. Unit {0}) (λ f x. x) (λ g x. tt) m all g.1;
    }
    by (Some (B.Local k shape)) e g = absurd g
    by (Some B.Printf) e g = absurd g

agree_pair : (D : Bool) (s : Signature) (f g : Function) → FunctionAgrees D s f → FunctionAgrees D s g →
    ((is_some f.body ≡ true) → is_some g.body ≡ false) → Agree f g
agree_pair D s f g h k b = record {
  result = h.0 ∙ sym k.0;
  parameters = all_same D s.wants (take f.params f.slots) (take g.params g.slots) h.1 k.1;
  single = b;
}

with_later : (D : Bool) (s : Signature) (f : Function) (ts : List Top) → FunctionAgrees D s f → Named (FunctionAgrees D s) (λ g. Unit {0}) f.name ts →
    (is_some f.body ≡ true → Each (NoBody f.name) ts) → Each (AgreesWith f) ts
with_later D s f [] h k b = tt
with_later D s f (T.Function g ∷ ts) h k b =
    (λ e. agree_pair D s f g h (k.0 (names_same g.name f.name (sym (same_names f.name g.name e)))) (λ t. (b t).0 e), with_later D s f ts h k.1 (λ t. (b t).1))
with_later D s f (T.Global g ∷ ts) h k b = (tt, with_later D s f ts h k.1 (λ t. (b t).1))
with_later D s f (T.Enum es ∷ ts) h k b = (tt, with_later D s f ts h k.1 (λ t. (b t).1))
with_later D s f (T.Include bs ∷ ts) h k b = (tt, with_later D s f ts h k.1 (λ t. (b t).1))
with_later D s f (T.Note bs ∷ ts) h k b = (tt, with_later D s f ts h k.1 (λ t. (b t).1))

later_settled : (t : Top) (ts : List Top) → ((m : List ℕ) → Settled m (t ∷ ts)) → (m : List ℕ) → Settled m ts
later_settled t ts h m = let r = h m in record { defined = r.defined; signature = r.signature; agree = r.agree.1 }

pub declarations_agree : (ts : List Top) → ((m : List ℕ) → Settled m ts) → BodiesOnce ts → DeclarationsAgree ts
declarations_agree [] h o = tt
declarations_agree (T.Function f ∷ ts) h o =
    let r = h f.name in (
      with_later r.defined r.signature f ts (r.agree.0 (names_same f.name f.name refl)) r.agree.1 o.0,
      declarations_agree ts (later_settled (T.Function f) ts h) o.1,
    )
declarations_agree (T.Global g ∷ ts) h o = declarations_agree ts (later_settled (T.Global g) ts h) o
declarations_agree (T.Enum es ∷ ts) h o = declarations_agree ts (later_settled (T.Enum es) ts h) o
declarations_agree (T.Include bs ∷ ts) h o = declarations_agree ts (later_settled (T.Include bs) ts h) o
declarations_agree (T.Note bs ∷ ts) h o = declarations_agree ts (later_settled (T.Note bs) ts h) o
