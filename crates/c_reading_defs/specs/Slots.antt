-- The slots of a function: its parameters and its variables, in text order of their declarations.
use Rattle.std.specs.Prelude.{List, [], ◌++◌, map}
use Rattle.c_tree.specs.declared.tree.Slot.{Slot}
use Rattle.c_grammar.specs.Items.{Declarator, Declaration, Start, StartNames, Item, Declares, States, Plain, From, Statement, If, IfElse, While, DoWhile, For, Switch, Block, Body, Braces, Lone, Items, NoItem, Then}
use Rattle.c_statements.specs.declared.extents.Kinded.{Kinded}
use Rattle.c_statements.specs.Declarations.{kinded}
use Rattle.c_reading_defs.specs.Typings.{Typing}
use Rattle.c_reading_defs.specs.Written.{slot_of}
use Rattle.c_reading_defs.specs.Labels.{InFunction}
use Rattle.c_reading_defs.specs.Places.{Place, names_behind, within, within_for}

abbrev pub slots_of_names : Typing → InFunction → Kinded → List Declarator → Place → List Slot
slots_of_names typing f k ds p = map (λ d. slot_of typing (names_behind f p d.name) k d) ds

abbrev pub slots_of_declaration : Typing → InFunction → Declaration → Place → List Slot
slots_of_declaration typing f d p = slots_of_names typing f (kinded f.word d) d.names p

abbrev pub slots_of_start : Typing → InFunction → Start → Place → List Slot
slots_of_start typing f (StartNames d) p = slots_of_declaration typing f d p
slots_of_start typing f _ p = []

abbrev mutual
  pub slots_in : Typing → InFunction → Item → Place → List Slot
  slots_in typing f (Declares first after d) p = slots_of_declaration typing f d p
  slots_in typing f (States ls s) p = slots_of_plain typing f s p

  pub slots_of_plain : Typing → InFunction → Plain → Place → List Slot
  slots_of_plain typing f (From first after s) p = slots_of_statement typing f s p

  pub slots_of_statement : Typing → InFunction → Statement → Place → List Slot
  slots_of_statement typing f (If t b) p = slots_of_body typing f b p
  slots_of_statement typing f (IfElse t b c) p = slots_of_body typing f b p ++ slots_of_body typing f c p
  slots_of_statement typing f (While t b) p = slots_of_body typing f b p
  slots_of_statement typing f (DoWhile b t) p = slots_of_body typing f b p
  slots_of_statement typing f (For start t u b) p = let inner = within_for f start p in slots_of_start typing f start inner ++ slots_of_body typing f b inner
  slots_of_statement typing f (Switch t b) p = slots_of_body typing f b p
  slots_of_statement typing f (Block b) p = slots_of_body typing f b p
  slots_of_statement typing f _ p = []

  pub slots_of_body : Typing → InFunction → Body → Place → List Slot
  slots_of_body typing f (Braces first after xs) p = slots_of_list typing f xs (within f (Braces first after xs) p)
  slots_of_body typing f (Lone first after x) p = slots_in typing f x (within f (Lone first after x) p)

  pub slots_of_list : Typing → InFunction → Items → Place → List Slot
  slots_of_list typing f NoItem p = []
  slots_of_list typing f (Then x xs) p = slots_in typing f x p ++ slots_of_list typing f xs p
