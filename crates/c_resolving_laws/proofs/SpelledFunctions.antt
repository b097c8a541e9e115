-- A function without a violation is spelled as C spells it.
use Rattle.std.proofs.Common.{ℕ, ◌≤◌, ◌<◌, true, List, [], ◌∷◌, ◌++◌, map, length, take, Option, Some, None, ◌≡◌, sym, ap, subst, ◌∙◌, true≢false, arith}
use Rattle.std.specs.Prelude.{IfSome}
use Rattle.std.proofs.lemmas.List.{append-nil}
use Rattle.c_tree.specs.declared.tree.Top.{Top}
use Rattle.c_tree.specs.Trees.{Tree, trees_of}
use Rattle.c_tree.proofs.WellMoved.{everywhere_map, everywhere_both}
use Rattle.c_grammar.specs.Items.{Label, Named, Case, Default, Item, Declares, States, Plain, From, Statement, Null, Evaluate, If, IfElse, While, DoWhile, For, Switch, Block, Body, Braces, Lone, Items, NoItem}
use Rattle.c_grammar.specs.Items as items
use Rattle.c_grammar.specs.Tops.{Parameter, Function}
use Rattle.c_kinds.specs.Scopes.{Scope, Faults, fault_if, bind_fault}
use Rattle.c_statements.specs.declared.anchors.Anchor.{Anchor}
use Rattle.c_statements.specs.Context.{Context, Walk, env_at}
use Rattle.c_statements.specs.Declarations.{size_faults}
use Rattle.c_statements.specs.Functions.{FlatCounts, parameter_name, parameter_slot, bind_parameter, parameters_faults, body_items, behind_body, context, inside, function_of}
use Rattle.c_resolving_laws.proofs.Defined.{prototype_context, defined}
use Rattle.c_statements.specs.Measures.{body_depth}
use Rattle.c_statements.specs.Labels.{named_in, item_labels, plain_labels, statement_labels, body_labels, list_labels}
use Rattle.c_resolved_defs.specs.Form.{HasSourceForm}
use Rattle.c_resolved_defs.specs.Names.{Names}
use Rattle.c_resolved_defs.specs.PrintableExpressions.{IsName, Prints}
use Rattle.c_resolved_defs.specs.PrintablePrograms.{ParameterPrints, ParametersPrint}
use Rattle.c_resolved_defs.specs.Resolved.{IsInitialised}
use Rattle.c_resolved_defs.specs.Spelling.{HasName, FunctionIsSpelled}
use Rattle.c_resolved_defs.specs.Verbatims.{IsComment}
use Rattle.c_resolved_defs.specs.Within.{Each}
use Rattle.c_resolving_laws.specs.Counts.{IsFewBody}
use Rattle.c_resolving_laws.specs.Read.{IsReadLabel, IsReadItem, IsReadPlain, IsReadStatement, IsReadBody, AreReadItems, IsReadParameter, IsReadFunction}
use Rattle.c_resolving_laws.proofs.Bindings.{knows_inside}
use Rattle.c_resolving_laws.proofs.FileParts.{BodyParts, parameters_parts}
use Rattle.c_resolving_laws.proofs.FunctionTrees.{inside_slots, take_all, body_grown}
use Rattle.c_resolving_laws.proofs.Functions.{KnownOutside, Resolves, IsFine, declared_fine, parameters_known, body_holds}
use Rattle.c_resolving_laws.proofs.ItemKinds.{KnownAt}
use Rattle.c_resolving_laws.proofs.LabelNumbers.{numbered_all}
use Rattle.c_resolving_laws.proofs.Lists.{clean_if}
use Rattle.c_resolving_laws.proofs.PrintedItems.{PrintsItem, prints_closed}
use Rattle.c_resolving_laws.proofs.SpelledTrees.{MarkIs, marks_are, numbers_all, Good, are_spelled}
use Rattle.c_resolving_laws.proofs.Untangled.{body_bounded}
use Rattle.c_resolving_laws.proofs.Walk.{Begins}

-- ---- the labels of a body are names

module _ (word : ℕ → List ℕ) (notes : Anchor → List (List ℕ)) where
  abbrev Is : ℕ → Type 0
  Is at = IsName (word at)

  named_are : (ls : List Label) (rest : List ℕ) → Each (IsReadLabel word) ls → Each Is rest → Each Is (named_in ls rest)
  named_are [] rest h r = r
  named_are (Named at after ∷ ls) rest h r = (h.0, named_are ls rest h.1 r)
  named_are (Case at after t ∷ ls) rest h r = named_are ls rest h.1 r
  named_are (Default at after ∷ ls) rest h r = named_are ls rest h.1 r

  mutual
    item_are : (x : Item) (rest : List ℕ) → IsReadItem word x → Each Is rest → Each Is (item_labels x rest)
    item_are (Declares first after d) rest h r = r
    item_are (States ls p) rest h r = named_are ls (plain_labels p rest) h.0 (plain_are p rest h.1 r)

    plain_are : (p : Plain) (rest : List ℕ) → IsReadPlain word p → Each Is rest → Each Is (plain_labels p rest)
    plain_are (From first after s) rest h r = statement_are s rest h r

    statement_are : (s : Statement) (rest : List ℕ) → IsReadStatement word s → Each Is rest → Each Is (statement_labels s rest)
    statement_are Null rest h r = r
    statement_are (Evaluate t) rest h r = r
    statement_are (If t b) rest h r = body_are b rest h.1 r
    statement_are (IfElse t b c) rest h r = body_are b (body_labels c rest) h.1 (body_are c rest h.2 r)
    statement_are (While t b) rest h r = body_are b rest h.1 r
    statement_are (DoWhile b t) rest h r = body_are b rest h.0 r
    statement_are (For start t u b) rest h r = body_are b rest h.3 r
    statement_are (Switch t b) rest h r = body_are b rest h.1 r
    statement_are (Block b) rest h r = body_are b rest h r
    statement_are _ rest h r = r

    pub body_are : (b : Body) (rest : List ℕ) → IsReadBody word b → Each Is rest → Each Is (body_labels b rest)
    body_are (Braces first after xs) rest h r = list_are xs rest h r
    body_are (Lone first after x) rest h r = item_are x rest h r

    list_are : (xs : Items) (rest : List ℕ) → AreReadItems word xs → Each Is rest → Each Is (list_labels xs rest)
    list_are NoItem rest h r = r
    list_are (items.Then x xs) rest h r = item_are x (list_labels xs rest) h.0 (list_are xs rest h.1 r)

  words_are : (ats : List ℕ) → Each Is ats → Each IsName (map word ats)
  words_are [] h = tt
  words_are (at ∷ ats) h = (h.0, words_are ats h.1)

-- ---- parameters

name_prints : (m : List ℕ) → IsName m → ParameterPrints m
name_prints [] h = tt
name_prints (b ∷ bs) h = h

name_has : (m : List ℕ) → IsName m → 0 < length m
name_has [] h = absurd (true≢false (sym h.0))
name_has (b ∷ bs) h = omega arith

module _ (ctx : Context) where
  abbrev IsNamedAs : Option ℕ → Type 0
  IsNamedAs o = IfSome o (λ at. IsName (ctx.word at))

  parameters_print : (xs : List Parameter) → Each (IsReadParameter ctx.word) xs → ParametersPrint (map (parameter_slot ctx.word) xs)
  parameters_print [] r = tt
  parameters_print (x ∷ xs) r = (by x.name r.0.named, parameters_print xs r.1)
    where
      by : (o : Option ℕ) → IsNamedAs o → ParameterPrints (parameter_name ctx.word o)
      by None h = tt
      by (Some at) h = name_prints (ctx.word at) h

  all_named : (xs : List Parameter) (w : Walk) → Each (IsReadParameter ctx.word) xs → parameters_faults ctx.word true xs w [] ≡ [] →
      Each HasName (map (parameter_slot ctx.word) xs)
  all_named [] w r e = tt
  all_named (x ∷ xs) w r e = let p = parameters_parts ctx true x xs w e in (by x.name r.0.named p.0, all_named xs (bind_parameter ctx.word x w) r.1 p.1)
    where
      by : (o : Option ℕ) → IsNamedAs o → ◌≡◌ {A = Faults}
          (elim o [
            | Some at ↦ bind_fault at (ctx.word at) w.scopes (size_faults (env_at ctx w) x.size [])
            | None ↦ fault_if true x.first 43
                (size_faults (env_at ctx w) x.size [])
          ]) []
          → 0 < length (parameter_name ctx.word o)
      by None h e = absurd (true≢false (clean_if true x.first 43 (size_faults (env_at ctx w) x.size []) e).1)
      by (Some at) h e = name_has (ctx.word at) h

-- ---- functions

module _ (flat : FlatCounts) (word : ℕ → List ℕ) (notes : Anchor → List (List ℕ)) (f : Function) (scopes : List Scope) (ts : List Top)
    (comments : (a : Anchor) → Each IsComment (notes a)) where
  spelled_by : (o : Option Body) → IsName (word f.name) → Each (IsReadParameter word) f.parameters → IfSome o (IsReadBody word) →
      IfSome o (IsFewBody word f.counted) → f.counted ≤ 400 → IfSome o (λ b. body_depth b ≤ 400)
      → BodyParts flat word notes f o scopes → KnownOutside flat word notes f scopes ts → Resolves flat ts (defined word notes f o scopes) →
      FunctionIsSpelled (defined word notes f o scopes)
  spelled_by None m q r few most shallow p k v =
      let ctx = prototype_context word f in
      let slots = (inside word f scopes).slots in
      let all = map (parameter_slot word) f.parameters in
      let whole = inside_slots word f scopes ∙ sym (append-nil all) in
      record {
        named = m;
        parameters = subst ParametersPrint (sym (ap (take (length f.parameters)) whole ∙ take_all (parameter_slot word) f.parameters []))
            (parameters_print ctx f.parameters q);
        all_named = λ e. absurd (true≢false (sym e));
        labels = tt;
        body = tt;
      }
  spelled_by (Some b) m q r few most shallow p k v =
      let ctx = context word notes f b in
      let w = inside word f scopes in
      let slots = (behind_body ctx b w).slots in
      let n : Names = record { tops = ts; slots = slots } in
      let t = defined word notes f (Some b) scopes in
      let g = body_grown ctx IsFine (declared_fine ctx) b w r p.body in
      let whole = g.whole ∙ ap (λ l. l ++ g.more) (inside_slots word f scopes) in
      let start : Walk = record { scopes = [] ∷ scopes; slots = [] } in
      let first = ap (take (length f.parameters)) whole ∙ take_all (parameter_slot word) f.parameters g.more in
      let ls = numbered_all [] word (body_labels b []) p.labels in
      let names = subst (Each IsName) (sym ls.names) (words_are word notes (body_labels b []) (body_are word notes b [] r tt)) in
      let all : Begins slots slots = ([], sym (append-nil slots)) in
      let o = k slots in
      let i = parameters_known ctx n true f.parameters start p.parameters (g.more, g.whole) ([] ∷ o.0, knows_inside n word scopes o.0 o.1) in
      let a = trees_of (body_items ctx b w) in
      let prints = body_holds ctx slots (KnownAt ctx n) (PrintsItem slots) (Prints slots) (prints_closed ctx n comments) b w r p.body i all in
      let Below : ℕ → Type 0 = λ l. l < length t.labels in
      let marks = marks_are Below a (subst (Each Below) (sym v.form.labels) (numbers_all (length t.labels))) in
      let Front : Tree → Type 0 = λ x. PrintsItem slots x × IsInitialised slots x in
      let Back : Tree → Type 0 = λ x. HasSourceForm t x × MarkIs Below x in
      let both = everywhere_both Front Back a (everywhere_both (PrintsItem slots) (IsInitialised slots) a prints v.initialised)
      (everywhere_both (HasSourceForm t) (MarkIs Below) a v.form.items marks) in
      let good = everywhere_map (λ x. Front x × Back x) (Good t names)
      (λ x h. record { prints = h.0.0; initialised = h.0.1; form = h.1.0; mark = h.1.1 }) a both in
      let s = body_bounded ctx f.counted b w few in
      record {
        named = m;
        parameters = subst ParametersPrint (sym first) (parameters_print ctx f.parameters q);
        all_named = λ e. subst (Each HasName) (sym first) (all_named ctx f.parameters start q p.parameters);
        labels = v.labels;
        body = record {
          items = are_spelled t names a good (let z = s.few in omega arith);
          shallow = let z = s.shallow in omega arith;
        };
      }

  pub function_is_spelled : IsReadFunction word f → BodyParts flat word notes f f.body scopes → KnownOutside flat word notes f scopes ts →
      Resolves flat ts (function_of word notes f scopes) → FunctionIsSpelled (function_of word notes f scopes)
  function_is_spelled r p k v = spelled_by f.body r.named r.parameters r.body r.few r.most r.shallow p k v
