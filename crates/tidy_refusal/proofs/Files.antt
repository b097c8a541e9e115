-- The functions of a file without jumps.
use Rattle.std.proofs.Common.{ℕ, Bool, List, [], ◌∷◌, map, Option, Some, None, ◌≡◌, refl, false}
use Rattle.std.specs.Option.{option_map_or}
use Rattle.std.proofs.lemmas.List.Elements.{All-from_recursion}
use Rattle.c_tree.specs.declared.tree.Top.{Top}
use Rattle.c_tree.specs.declared.tree.Top.TheVariants as T
use Rattle.c_tree.specs.Trees.{Nil, trees_of}
use Rattle.c_grammar.specs.Items.{Declarator, Body, Braces, Lone}
use Rattle.c_grammar.specs.Tops.{Function, Form, Line, Enum, Globals, Defines, Unread}
use Rattle.c_grammar.specs.Tops as tops
use Rattle.c_kinds.specs.Scopes.{Env}
use Rattle.c_statements.specs.declared.extents.Kinded.{Kinded}
use Rattle.c_statements.specs.declared.anchors.Anchor.{Anchor}
use Rattle.c_statements.specs.declared.anchors.Anchor.TheVariants.{Before, AtEnd, Last}
use Rattle.c_statements.specs.Context.{Context, Walk, notes_at}
use Rattle.c_statements.specs.Declarations.{kinded}
use Rattle.c_statements.specs.Statements.{item_items, list_items}
use Rattle.c_statements.specs.Functions.{body_items, context, inside, items_within}
use Rattle.c_scopes.specs.Globals.{globals, global_declared}
use Rattle.c_scopes.specs.Files.{File, State, env_of, function_declared, notes_tops, form_tops, behind_top, top_tops, tops_of}
use Rattle.c_resolved_defs.specs.Within.{Each}
use Rattle.c_resolving_laws.proofs.Lists.{each_append}
use Rattle.flat_laws.specs.Parts.{has_jumps}
use Rattle.tidy_refusal.specs.FileJumps.{body_jump, block_jump, top_jump, first_jump}
use Rattle.tidy_refusal.specs.JumplessLaws.{TopLacksJumps, JumplessSources}
use Rattle.tidy_refusal.proofs.Still.{lacks_jumps}
use Rattle.tidy_refusal.proofs.Sections.{Still, still_both}
use Rattle.tidy_refusal.proofs.Statements.{still_notes, still_item, still_items}

still_body : (ctx : Context) (b : Body) (w : Walk) (rest : Option ℕ) → body_jump b rest ≡ None → Still (body_items ctx b w) × (rest ≡ None)
still_body ctx (Braces first after xs) w rest e =
    let q = still_items ctx xs w rest e in
    (still_both (list_items ctx xs w) (notes_at ctx (AtEnd first)) q.0 (still_notes ctx (AtEnd first)), q.1)
still_body ctx (Lone first after x) w rest e =
    let q = still_item ctx x w rest e in
    (still_both (item_items ctx x w) (notes_at ctx (AtEnd first)) q.0 (still_notes ctx (AtEnd first)), q.1)

within : (word : ℕ → List ℕ) (notes : Anchor → List (List ℕ)) (f : Function) (o : Option Body) (w : Walk) (rest : Option ℕ) → block_jump o rest ≡ None
    → (has_jumps (option_map_or trees_of (items_within word notes f o w) Nil) ≡ false) × (rest ≡ None)
within word notes f None w rest e = (refl, e)
within word notes f (Some b) w rest e =
    let ctx = context word notes f b in
    let q = still_body ctx b w rest e in
    (lacks_jumps (trees_of (body_items ctx b w)) q.0, q.1)

abbrev Lack : List Top → Type 0
Lack ts = Each TopLacksJumps ts

lack_notes : (bs : List (List ℕ)) → Lack (map T.Note bs)
lack_notes [] = tt
lack_notes (b ∷ bs) = (tt, lack_notes bs)

lack_globals : (static : Bool) (k : Kinded) (ds : List Declarator) (env : Env) → Lack (globals static k ds env)
lack_globals static k [] env = tt
lack_globals static k (d ∷ ds) env = (tt, lack_globals static k ds (global_declared k d env))

module _ (file : File) where
  form : (first after : ℕ) (x : Form) (s : State) (rest : Option ℕ) → top_jump (tops.From first after x) rest ≡ None →
      Lack (form_tops file first x s) × (rest ≡ None)
  form first after Line s rest e = ((tt, tt), e)
  form first after (Enum es) s rest e = ((tt, tt), e)
  form first after (Globals static d) s rest e = (lack_globals static (kinded file.word d) d.names (env_of file s), e)
  form first after (Defines f) s rest e =
      let q = within file.word file.notes f f.body (inside file.word f (function_declared file f s).scopes) rest e in
      ((q.0, tt), q.1)
  form first after Unread s rest e = (tt, e)

  all : (xs : List tops.Top) (s : State) → first_jump xs ≡ None → Lack (tops_of file xs s)
  all [] s e = lack_notes (file.notes Last)
  all (tops.From first after x ∷ xs) s e =
      let q = form first after x s (first_jump xs) e in
      each_append TopLacksJumps (top_tops file (tops.From first after x) s) (tops_of file xs (behind_top file (tops.From first after x) s))
      (each_append TopLacksJumps (notes_tops file (Before first)) (form_tops file first x s) (lack_notes (file.notes (Before first))) q.0)
      (all xs (behind_top file (tops.From first after x) s) q.1)

pub jumpless_sources : JumplessSources
jumpless_sources file xs s e = All-from_recursion TopLacksJumps (tops_of file xs s) (all file xs s e)
