-- The laws of resolving.
use Rattle.std.proofs.Common.{ℕ, true, List, [], ◌∷◌, Option, Some, None, is_some, Result, Ok, Err, is_ok, ◌≡◌, refl, sym, ap, subst, ◌∙◌, true≢false}
use Rattle.c_types.specs.declared.refusal.Refusal.{Refusal}
use Rattle.c_tree.specs.declared.tree.Function.{Function}
use Rattle.c_tree.specs.declared.tree.Top.{Top}
use Rattle.c_tree.specs.declared.tree.Top.TheVariants as T
use Rattle.c_tree.specs.declared.tree.Program.{Program}
use Rattle.c_lexer.specs.declared.token.Token.{Token}
use Rattle.c_grammar.specs.Words.{word_of}
use Rattle.c_grammar.specs.Parts.{file_of}
use Rattle.c_grammar.specs.Tops as tops
use Rattle.c_kinds.specs.declared.typed.Fault.{Fault}
use Rattle.c_kinds.specs.Scopes.{Faults}
use Rattle.c_scopes.specs.FunctionNames.{has_function, bodies_of}
use Rattle.c_tree.specs.declared.tree.Slot.{Slot}
use Rattle.c_scopes.specs.Files.{File, start, tops_of, file_faults}
use Rattle.c_scopes.specs.Resolving.{earlier, least, file_at, program_of, violation_of, answer, least_with}
use Rattle.c_resolved_defs.specs.Files.{MainIsFormed, DeclarationsAgree}
use Rattle.c_resolved_defs.specs.Scopes.{NamesAreBound}
use Rattle.c_resolved_defs.specs.Within.{Each}
use Rattle.c_resolving_laws.specs.Laws.{GivesWith, Gives, OfFunction, HasConstants, AreCounts, ResolvingLaws}
use Rattle.c_statements.specs.Functions.{FlatCounts}
use Rattle.c_resolved_defs.specs.Limits as Limits
use Rattle.c_resolved_defs.specs.Limits.{IsWithinLimits, IsUntangled}
use Rattle.c_tree.specs.declared.tree.Item.{Item}
use Rattle.c_tree.specs.Trees.{Nil, trees_of}
use Rattle.std.specs.Prelude.{IfSome}
use Rattle.std.specs.Option.{option_map_or}
use Rattle.c_resolving_laws.specs.Read.{IsReadFile}
use Rattle.c_statements.specs.declared.anchors.Anchor.{Anchor}
use Rattle.c_resolved_defs.specs.Resolved.{IsResolvedFunction, IsResolvedTop, IsResolvedWith}
use Rattle.c_resolved_defs.specs.Spelling.{IsSpelled}
use Rattle.c_resolved_defs.specs.Verbatims.{IsComment}
use Rattle.c_resolving_laws.proofs.Bodies.{file_bodies}
use Rattle.c_resolving_laws.proofs.Declarations.{file_once, settled, declarations_agree}
use Rattle.c_resolving_laws.proofs.FileFacts.{TopHolds, HoldFrom, file_holds}
use Rattle.c_resolving_laws.proofs.FileWalk.{tree_scopes}
use Rattle.c_resolving_laws.proofs.FileNames.{IsDefined}
use Rattle.c_resolving_laws.proofs.FilePlaces.{defined, Place, at_end}
use Rattle.c_resolving_laws.proofs.Functions.{Resolves}
use Rattle.c_resolving_laws.proofs.Lists.{each_map}

-- ---- no violation is reported where there is none

some_left : (v : Fault) (vs : Faults) → is_some (least_with (Some v) vs) ≡ true
some_left v [] = refl
some_left v (u ∷ vs) = some_left (earlier (Some v) u) vs

none_reported : (vs : Faults) → least vs ≡ None → vs ≡ []
none_reported [] e = refl
none_reported (v ∷ vs) e = absurd (true≢false (sym (some_left (earlier None v) vs) ∙ ap is_some e))

program_or : Program → Result Program Refusal → Program
program_or d (Ok p) = p
program_or d (Err e) = d

answered : (text : List ℕ) (tokens : List Token) (q p : Program) (o : Option Fault) → answer text tokens q o ≡ Ok p → (o ≡ None) × (q ≡ p)
unfolding program_or
answered text tokens q p None e = (refl, ap (program_or q) e)
answered text tokens q p (Some v) e = absurd (true≢false (sym (ap is_ok e)))

-- ---- the whole file

module _ (file : File) (xs : List tops.Top) (bodies : (m : List ℕ) → defined file m ≡ has_function (bodies_of file.word xs) m)
    (r : IsReadFile file.word xs) (comments : (a : Anchor) → Each IsComment (file.notes a)) (e : file_faults file xs start [] ≡ []) where
  abbrev all : List Top
  all = tops_of file xs start

  abbrev first_place : Place file [] start.scopes
  first_place = record {
    fs = [];
    rs = [];
    shaped = refl;
    inv = record { same = λ m. refl; good = λ m. tt; fresh = λ m e. tt };
  }

  pub known : (slots : List Slot) → IsDefined (defined file) all slots
  known slots m = file_bodies file m xs start ∙ sym (bodies m)

  pub held : HoldFrom file all known comments (tree_scopes []) all
  held = file_holds file all known comments xs start [] first_place r e refl

  pub declared : DeclarationsAgree all
  declared = declarations_agree all (settled file all [] (at_end file xs start [] first_place r e))
      (file_once file xs start [] first_place r e (λ m. refl)).once

-- ---- each law

-- what is proved of the program that is answered
pub record Answered (flat : FlatCounts) (p : Program) : Type 0 where
  pub main : Each MainIsFormed p.tops
  pub declarations : DeclarationsAgree p.tops
  pub constants : Each (HasConstants p.tops) p.tops
  pub bound : NamesAreBound p.tops
  pub spelled : IsSpelled p
  pub functions : Each (OfFunction (Resolves flat p.tops)) p.tops

module _ (file : File) (ts : List Top) (known : (slots : List Slot) → IsDefined (defined file) ts slots)
    (comments : (a : Anchor) → Each IsComment (file.notes a)) where
  one_constant : (t : Top) → TopHolds file ts known comments t → HasConstants ts t
  one_constant (T.Enum es) h = h
  one_constant (T.Global g) h = h
  one_constant _ h = tt

  one_function : (t : Top) → TopHolds file ts known comments t → OfFunction (Resolves file.flat ts) t
  one_function (T.Function f) h = h
  one_function _ h = tt

file_answered : (file : File) (xs : List tops.Top) → ((m : List ℕ) → defined file m ≡ has_function (bodies_of file.word xs) m) →
    IsReadFile file.word xs → ((a : Anchor) → Each IsComment (file.notes a)) → file_faults file xs start [] ≡ [] → Answered file.flat (program_of file xs)
file_answered file xs bodies r c e =
    let ts = tops_of file xs start in
    let k = known file xs bodies r c e in
    let h = held file xs bodies r c e in
    record {
      main = h.0.1;
      bound = h.1;
      declarations = declared file xs bodies r c e;
      spelled = h.0.2;
      constants = each_map (TopHolds file ts k c) (HasConstants ts) (one_constant file ts k c) ts h.0.0;
      functions = each_map (TopHolds file ts k c) (OfFunction (Resolves file.flat ts)) (one_function file ts k c) ts h.0.0;
    }

pub all_answered : (flat : FlatCounts) → GivesWith flat (Answered flat)
all_answered flat text tokens comments x p r e =
    let word = word_of text tokens in
    let xs = file_of word x in
    let file = file_at flat text tokens comments xs in
    let a = answered text tokens (program_of file xs) p (violation_of file xs) e in
    subst (Answered flat) a.1 (file_answered file xs (λ m. refl) r.file r.comments (none_reported (file_faults file xs start []) a.0))

of_map : (P Q : Function → Type 0) → ((f : Function) → P f → Q f) → (t : Top) → OfFunction P t → OfFunction Q t
of_map P Q g (T.Function f) h = g f h
of_map P Q g _ h = tt

each_function : (P : List Top → Function → Type 0) → ((flat : FlatCounts) (ts : List Top) (f : Function) → Resolves flat ts f → P ts f) →
    Gives (λ p. Each (OfFunction (P p.tops)) p.tops)
each_function P g flat text tokens comments x p r e =
    each_map (OfFunction (Resolves flat p.tops)) (OfFunction (P p.tops)) (of_map (Resolves flat p.tops) (P p.tops) (g flat p.tops)) p.tops
    (all_answered flat text tokens comments x p r e).functions

-- the measures of a function, by those of its flat form
is_untangled : (counts : Limits.FlatCounts) (flat : FlatCounts) → AreCounts flat counts → (ts : List Top) (f : Function) → Resolves flat ts f →
    IsUntangled counts f
is_untangled counts flat c ts f r = by f.body refl
  where
    by : (o : Option (List Item)) → f.body ≡ o → IfSome (counts (option_map_or trees_of o Nil)) (IsWithinLimits f)
    by None e = subst (λ o. IfSome o (IsWithinLimits f)) (sym c.none) tt
    by (Some xs) e = each (flat xs) refl (c.same xs)
      where
        each : (o : Option (ℕ × ℕ)) → flat xs ≡ o → flat xs ≡ counts (trees_of xs) → IfSome (counts (trees_of xs)) (IsWithinLimits f)
        each None i j = subst (λ o. IfSome o (IsWithinLimits f)) (sym i ∙ j) tt
        each (Some n) i j = subst (λ o. IfSome o (IsWithinLimits f)) (sym i ∙ j) (r.untangled xs e n i)

-- all that is resolved
function_resolved : (counts : Limits.FlatCounts) (flat : FlatCounts) → AreCounts flat counts → (ts : List Top) (f : Function) → Resolves flat ts f →
    IsResolvedFunction counts ts f
function_resolved counts flat c ts f r = record {
  form = r.form;
  kinds = r.kinds;
  returns = r.returns;
  cases = r.cases;
  consts = r.consts;
  lengths = r.lengths;
  initialised = r.initialised;
  untangled = is_untangled counts flat c ts f r;
}

module _ (counts : Limits.FlatCounts) (flat : FlatCounts) (c : AreCounts flat counts) (ts : List Top) where
  top_resolved : (t : Top) → HasConstants ts t → OfFunction (Resolves flat ts) t → IsResolvedTop counts ts t
  top_resolved (T.Function f) h k = function_resolved counts flat c ts f k
  top_resolved (T.Enum es) h k = h
  top_resolved (T.Global v) h k = h
  top_resolved _ h k = tt

  tops_resolved : (xs : List Top) → Each (HasConstants ts) xs → Each (OfFunction (Resolves flat ts)) xs → Each (IsResolvedTop counts ts) xs
  tops_resolved [] h k = tt
  tops_resolved (x ∷ xs) h k = (top_resolved x h.0 k.0, tops_resolved xs h.1 k.1)

program_resolved : (counts : Limits.FlatCounts) (flat : FlatCounts) → AreCounts flat counts → (p : Program) → Answered flat p → IsResolvedWith counts p
program_resolved counts flat c p a = record {
  spelled = a.spelled;
  bound = a.bound;
  declarations = a.declarations;
  main = a.main;
  tops = tops_resolved counts flat c p.tops p.tops a.constants a.functions;
}

pub resolving_laws : ResolvingLaws
resolving_laws = record {
  resolved = λ counts flat c text tokens comments x p r e. program_resolved counts flat c p (all_answered flat text tokens comments x p r e);
  spelled = λ flat text tokens comments x p r e. (all_answered flat text tokens comments x p r e).spelled;
  main = λ flat text tokens comments x p r e. (all_answered flat text tokens comments x p r e).main;
  declarations = λ flat text tokens comments x p r e. (all_answered flat text tokens comments x p r e).declarations;
  bound = λ flat text tokens comments x p r e. (all_answered flat text tokens comments x p r e).bound;
  constants = λ flat text tokens comments x p r e. (all_answered flat text tokens comments x p r e).constants;
  kinds = each_function _ (λ flat ts f h. h.kinds);
  consts = each_function _ (λ flat ts f h. h.consts);
  returns = each_function _ (λ flat ts f h. h.returns);
  lengths = each_function _ (λ flat ts f h. h.lengths);
  initialised = each_function _ (λ flat ts f h. h.initialised);
  form = each_function _ (λ flat ts f h. h.form);
  cases = each_function _ (λ flat ts f h. h.cases);
  labels = each_function _ (λ flat ts f h. h.labels);
  untangled = λ counts flat c text tokens comments x p r e.
      each_map (OfFunction (Resolves flat p.tops)) (OfFunction (IsUntangled counts))
      (of_map (Resolves flat p.tops) (IsUntangled counts) (is_untangled counts flat c p.tops)) p.tops
      (all_answered flat text tokens comments x p r e).functions;
}
