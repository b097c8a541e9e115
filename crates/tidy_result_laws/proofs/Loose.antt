-- A function without jumps that is resolved but for the sections of its switches: such a one stays so where it is changed.
use Rattle.std.proofs.Common.{◌≡◌, ℕ, ◌+◌, ◌-◌, ◌≤◌, true, false, negsuc, List, [], ◌∷◌, length, option_map, refl, sym, ◌∙◌}
use Rattle.std.proofs.lemmas.List.Elements.{recursion_from_All}
use Rattle.c_tree.specs.declared.tree.Function.{Function}
use Rattle.c_tree.specs.declared.tree.Top.{Top}
use Rattle.c_tree.specs.declared.tree.Top.TheVariants as T
use Rattle.c_tree.specs.declared.tree.Program.{Program}
use Rattle.c_tree.specs.Jumps.{is_plain_program}
use Rattle.c_tree.specs.Cases.{AllEntered}
use Rattle.c_tree.specs.Exits.{breaks, continues}
use Rattle.c_tree.specs.Trees.{Tree, Forest, Sections, NoSection, Section, For, Switch, Goto, Mark, Arrival, expression_trees}
use Rattle.c_tree.specs.Everywhere.{Everywhere}
use Rattle.c_tree.specs.InRange.{IsUnguarded, body_of}
use Rattle.c_tree.proofs.WellMoved.{everywhere_map, everywhere_both}
use Rattle.struct_meaning.specs.Structured.{IsStructured, IsTopStructured}
use Rattle.struct_meaning.proofs.PlainBodies.{plain_structured}
use Rattle.whole_laws.proofs.Unlabelled.{IsPlainItem}
use Rattle.c_resolved_defs.specs.Files.{HaveValues, IsGlobal, DeclarationsAgree, MainIsFormed}
use Rattle.c_resolved_defs.specs.Form.{gathered, declared_slot, numbers_from, AreSections, HasSourceForm, HasBodyOrNone}
use Rattle.c_resolved_defs.specs.Kinds.{ItemAgrees, ReturnFits, KeepsConsts}
use Rattle.c_resolved_defs.specs.Limits.{FlatCounts}
use Rattle.c_resolved_defs.specs.Resolved.{HasLengths, IsInitialised, names_in, IsResolvedFunction, IsResolvedTop, IsResolvedWith}
use Rattle.c_resolved_defs.specs.Scopes.{TopsAreBound, at_start}
use Rattle.c_resolved_defs.specs.Spelling.{TopIsSpelled}
use Rattle.c_resolved_defs.specs.Switches.{HasCases}
use Rattle.c_resolved_defs.specs.Within.{Each}
use Rattle.c_resolved_laws.proofs.Ranged.{unguarded}
use Rattle.whole_laws.proofs.TidyForm.{unmarked}
use Rattle.tidy_result_laws.proofs.KeptFacts.{HasEntries}
use Rattle.tidy_result_laws.proofs.TrimLists.{HasFirst}

pub record IsLoose (ts : List Top) (f : Function) : Type 0 where
  pub unflat : f.flat ≡ false
  pub labels : f.labels ≡ []
  pub parameters : f.params ≤ length f.slots
  pub prototype : HasBodyOrNone f
  -- the forms of its items
  pub structured : Everywhere IsStructured (body_of f)
  pub unguarded : Everywhere IsUnguarded (body_of f)
  pub entries : Everywhere HasEntries (body_of f)
  pub firsts : Everywhere (HasFirst f.slots) (body_of f)
  -- its declarations in text order, and what leaves it
  pub slots : gathered declared_slot (body_of f) ≡ numbers_from f.params (length f.slots - f.params)
  pub exits : breaks (body_of f) + continues (body_of f) ≡ 0
  -- kinds and the rest as in a resolved function
  pub kinds : Everywhere (ItemAgrees (names_in ts f)) (body_of f)
  pub returns : Everywhere (ReturnFits f.result) (body_of f)
  pub cases : Everywhere HasCases (body_of f)
  pub consts : Everywhere (KeepsConsts (names_in ts f)) (body_of f)
  pub lengths : HasLengths f
  pub initialised : Everywhere (IsInitialised f.slots) (body_of f)

abbrev pub TopIsLoose : List Top → Top → Type 0
TopIsLoose ts (T.Function f) = IsLoose ts f
TopIsLoose ts (T.Enum xs) = HaveValues ts (negsuc 0) xs
TopIsLoose ts (T.Global g) = IsGlobal ts g (option_map expression_trees g.init)
TopIsLoose ts _ = Unit {0}

pub record IsLooseFile (ts : List Top) : Type 0 where
  pub spelled : Each TopIsSpelled ts
  pub bound : TopsAreBound at_start ts
  pub declarations : DeclarationsAgree ts
  pub main : Each MainIsFormed ts
  pub tops : Each (TopIsLoose ts) ts

-- ---- the forms of items

plain_item : (x : Tree) → IsStructured x × IsUnguarded x → IsPlainItem x
plain_item (Goto l) h = absurd h.0
plain_item (Mark l) h = absurd h.0
plain_item (Arrival e) h = absurd h.0
plain_item x h = h.1

pub plain_items : (a : Forest) → Everywhere IsStructured a → Everywhere IsUnguarded a → Everywhere IsPlainItem a
plain_items a h k = everywhere_map (λ x. IsStructured x × IsUnguarded x) IsPlainItem plain_item a (everywhere_both IsStructured IsUnguarded a h k)

pub loose_plain : (ts : List Top) (f : Function) → IsLoose ts f → Everywhere IsPlainItem (body_of f)
loose_plain ts f l = plain_items (body_of f) l.structured l.unguarded

entered : (c : Sections) → AreSections c → AllEntered c
entered NoSection h = tt
entered (Section cases default a ends c) h = (h.0, entered c h.4)

source_entries : (f : Function) (x : Tree) → HasSourceForm f x → HasEntries x
source_entries f (Switch s c) h = entered c h.0
source_entries f x h = tt

source_firsts : (f : Function) (x : Tree) → HasSourceForm f x → HasFirst f.slots x
source_firsts f (For first t u a) h = h
source_firsts f x h = tt

no_labels : (ls : List (List ℕ)) → [] ≡ numbers_from 0 (length ls) → ls ≡ []
no_labels [] e = refl
no_labels (l ∷ ls) e = cc

-- ---- a resolved function without jumps is one

pub loose_function : (counts : FlatCounts) (ts : List Top) (f : Function) → IsResolvedFunction counts ts f → Everywhere IsStructured (body_of f) → IsLoose ts f
loose_function counts ts f r s =
    let a = body_of f in
    let u = everywhere_map (HasSourceForm f) IsUnguarded (unguarded f) a r.form.items in
    record {
      unflat = r.form.unflat;
      labels = no_labels f.labels (sym (unmarked a (plain_items a s u)) ∙ r.form.labels);
      parameters = r.form.parameters;
      prototype = r.form.prototype;
      structured = s;
      unguarded = u;
      entries = everywhere_map (HasSourceForm f) HasEntries (source_entries f) a r.form.items;
      firsts = everywhere_map (HasSourceForm f) (HasFirst f.slots) (source_firsts f) a r.form.items;
      slots = r.form.slots;
      exits = r.form.exits;
      kinds = r.kinds;
      returns = r.returns;
      cases = r.cases;
      consts = r.consts;
      lengths = r.lengths;
      initialised = r.initialised;
    }

loose_top : (counts : FlatCounts) (ts : List Top) (t : Top) → IsResolvedTop counts ts t → IsTopStructured t → TopIsLoose ts t
loose_top counts ts (T.Function f) r s = loose_function counts ts f r s
loose_top counts ts (T.Include bytes) r s = tt
loose_top counts ts (T.Enum xs) r s = r
loose_top counts ts (T.Global g) r s = r
loose_top counts ts (T.Note bytes) r s = tt

loose_tops : (counts : FlatCounts) (all ts : List Top) → Each (IsResolvedTop counts all) ts → Each IsTopStructured ts → Each (TopIsLoose all) ts
loose_tops counts all [] r s = tt
loose_tops counts all (t ∷ ts) r s = (loose_top counts all t r.0 s.0, loose_tops counts all ts r.1 s.1)

pub loose_file : (counts : FlatCounts) (p : Program) → IsResolvedWith counts p → is_plain_program p ≡ true → IsLooseFile p.tops
loose_file counts p r e = record {
  spelled = r.spelled;
  bound = r.bound;
  declarations = r.declarations;
  main = r.main;
  tops = loose_tops counts p.tops p.tops r.tops (recursion_from_All IsTopStructured p.tops (plain_structured p e));
}
