-- The moves of the rewriting are lawful, and leave no Leap.
use Rattle.std.proofs.Common.{inl, inr, ◌≡◌, ◌≢◌, ℕ, true, false, true≢false, cond, List, [], ◌∷◌, ◌++◌, Option, Some, None, option_map, is_some, All, refl, sym, ap, subst, ◌∙◌}
use Rattle.std.specs.List.{AllByRecursion}
use Rattle.std.proofs.lemmas.List.{map-append}
use Rattle.std.proofs.lemmas.List.Elements.{All-from_recursion, recursion_from_All}
use Rattle.std.proofs.lemmas.Slice.Eq.{bytes_eq-Decides}
use Rattle.c_tree.specs.declared.tree.Item.{Item}
use Rattle.c_tree.specs.declared.tree.Function.{Function}
use Rattle.c_tree.specs.declared.tree.Top.{Top}
use Rattle.c_tree.specs.declared.tree.Top.TheVariants as T
use Rattle.c_tree.specs.declared.tree.Program.{Program}
use Rattle.c_tree.specs.Trees.{trees_of}
use Rattle.jump_meaning.specs.Laws.{IsTopUnflat}
use Rattle.guard_vars.specs.Conversion.{converted, converted_list}
use Rattle.c_resolved_defs.specs.Files.{AgreesWith, DeclarationsAgree}
use Rattle.c_resolved_defs.specs.Within.{Each}
use Rattle.move_laws.specs.Bodies.{with_body}
use Rattle.report_moves.specs.declared.moves.Move.{Move}
use Rattle.move_order_laws.specs.declared.kept.Kept.{Kept}
use Rattle.move_order_laws.specs.Leaps.{leaps}
use Rattle.move_order_laws.specs.Naming.{named, all_named}
use Rattle.move_order_laws.specs.Next.{Point}
use Rattle.move_order_laws.specs.Derivations as D
use Rattle.move_order_laws.specs.Derivations.{Eliminates, Derives}
use Rattle.move_order_laws.proofs.NoLeaps.{no_leaps}
use Rattle.move_order_laws.proofs.OneDerivation.{well_made_derived}
use Rattle.guard_simplify.specs.declared.choice.Choice.{Choice}
use Rattle.guard_simplify.specs.Choice.{choices}
use Rattle.guard_simplify.specs.Application as A
use Rattle.guard_simplify.specs.Application.{IsNext, Reaches}
use Rattle.guard_simplify.specs.Naming.{choice_named, choices_named}
use Rattle.guard_simplify.proofs.Members.{in_first}
use Rattle.move_bodies.specs.Lawful.{IsMadeIn}
use Rattle.move_order_laws.specs.Moved.{IsMoved, mt_moved, mt_other, MovedTops, mt_none, mt_more}
use Rattle.move_order_laws.proofs.SomeDerivation.{none_left}
use Rattle.whole_laws.specs.Rewritten.{FlatTop, ft_flat, ft_unlabelled, ft_declared, ft_other, FlatTops, ft_none, ft_more, IsRewritten}
use Rattle.whole_laws.proofs.Chains.{IsConvertible, AreConvertible}
use Rattle.whole_laws.proofs.FlatPrograms.{flat_program}
use Rattle.whole_laws.proofs.Flattened.{body_is}
use Rattle.whole_laws.proofs.Source.{IsSourceTop, IsSource}
use Rattle.restructure_laws.specs.Lawful as L
use Rattle.restructure_laws.specs.Lawful.{IsOther, Moves, none, more}
use Rattle.restructure_laws.specs.Replayed.{converted_top, converted_tops, IsTopLeapless, IsReplayed}
use Rattle.restructure_laws.proofs.FirstPlaces.{may_come}
use Rattle.restructure_laws.proofs.Joined.{still_leapless}

pub moves_both : {ts us vs : List Top} {ms ns : List Move} → Moves ts ms us → Moves us ns vs → Moves ts (ms ++ ns) vs
moves_both none d = d
moves_both (more h r) d = more h (moves_both r d)

-- ---- one function

module _ (h : Function) (flat : h.flat ≡ true) (ts : List Top) where
  abbrev with_ : List Item → List Top
  with_ a = T.Function (with_body h a) ∷ ts

  eliminated : (l : ℕ) {p : Point} {ks : List Kept} {new : List Item} → Eliminates l p ks new → Moves (with_ p.body) (all_named h.name h.labels ks) (with_ new)
  eliminated l (D.joins p new j) =
      more (L.this_function ts (record {
        body = p.body;
        new = new;
        flat = flat;
        name = refl;
        body_is = refl;
        made = inl (record { label = l; named = refl; to = None; moves = record { moves = (refl, j) } });
        result = refl;
      })) none
  eliminated l (D.moves k p q ms new m e) =
      more (L.this_function ts (record {
        body = p.body;
        new = q.body;
        flat = flat;
        name = refl;
        body_is = refl;
        made = inl (record { label = l; named = refl; to = Some q.at; moves = record { moves = m } });
        result = refl;
      })) (eliminated l e)

  derived : {body : List Item} {ks : List Kept} {new : List Item} → Derives body ks new → Moves (with_ body) (all_named h.name h.labels ks) (with_ new)
  derived (D.ends body n) = none
  derived (D.chooses body at l ks js mid new f e d) =
      subst (λ z. Moves (with_ body) z (with_ new)) (sym (map-append (named h.name h.labels) ks js)) (moves_both (eliminated l e) (derived d))

  made_in : (c : Choice) (old new : List Item) → IsNext c old new → IsMadeIn h.name h.labels (choice_named h.name h.labels c) old new
  made_in c old new n = record {
    choice = c;
    function = refl;
    named = record { among = in_first (choices (trees_of old)) c n.next; first = may_come h old c n.next; kind = refl; label = refl; path = refl };
    applied = n.applied;
  }

  reached : {old : List Item} {cs : List Choice} {new : List Item} → Reaches old cs new → leaps (trees_of old) ≡ 0 →
      Moves (with_ old) (choices_named h.name h.labels cs) (with_ new) × (leaps (trees_of new) ≡ 0)
  reached A.none z = (none, z)
  reached {old = old} (A.then {cs = cs} {body = body} {new = new} c r n) z =
      let i = reached r z in
      let m = choice_named h.name h.labels c in
      let made = made_in c body new n in
      let step : Moves (with_ body) (m ∷ []) (with_ new) =
      more (L.this_function ts (record {
        body = body;
        new = new;
        flat = flat;
        name = refl;
        body_is = refl;
        made = inr (record { leapless = i.1; made = made });
        result = refl;
      })) none in (
        subst (λ z. Moves (with_ old) z (with_ new)) (sym (map-append (choice_named h.name h.labels) cs (c ∷ []))) (moves_both i.0 step),
        still_leapless h.name h.labels m body new i.1 made,
      )

record IsDone (f g : Function) (ms : List Move) (ts : List Top) : Type 0 where
  moves : Moves (T.Function (converted f) ∷ ts) ms (T.Function g ∷ ts)
  leapless : IsTopLeapless (T.Function g)
  name : g.name ≡ f.name
  flat : g.flat ≡ true

moved_function : (f g : Function) (ms : List Move) (ts : List Top) → f.flat ≡ true → IsConvertible (T.Function f) → IsMoved f g ms → IsDone f g ms ts
moved_function f g ms ts flat w m =
    let h = converted f in
    let a = converted_list m.body in
    let made = w flat m.body m.body_is in
    let e : h ≡ with_body h a = ap (λ (o : Option (List Item)). record f { body = option_map converted_list o }) m.body_is in
    let free = no_leaps m.middle (well_made_derived m.derives made) (none_left m.derives) in
    let r = reached h flat ts m.reaches free in
    let all = moves_both (derived h flat ts m.derives) r.0 in
    let there : Moves (T.Function h ∷ ts) ms (T.Function g ∷ ts) =
    subst (λ (z : Function). Moves (T.Function z ∷ ts) ms (T.Function g ∷ ts)) (sym e)
    (subst (λ (z : Function). Moves (T.Function (with_body h a) ∷ ts) ms (T.Function z ∷ ts)) (sym m.result)
    (subst (λ z. Moves (T.Function (with_body h a) ∷ ts) z (T.Function (with_body h m.new) ∷ ts)) (sym m.made) all)) in
    record {
      moves = there;
      leapless = subst (λ (z : Function). IsTopLeapless (T.Function z)) (sym m.result) (λ k. ap leaps (body_is (with_body h m.new) m.new refl) ∙ r.1);
      name = ap (λ (z : Function). z.name) m.result;
      flat = ap (λ (z : Function). z.flat) m.result ∙ flat;
    }

-- ---- flat functions have names of their own

-- they are not both flat functions of one name
abbrev ApartFrom : Top → Top → Type 0
ApartFrom (T.Function f) (T.Function g) = f.flat ≡ true → g.flat ≡ true → f.name ≢ g.name
ApartFrom _ _ = Unit {0}

abbrev AreApart : List Top → Type 0
AreApart [] = Unit {0}
AreApart (t ∷ ts) = AllByRecursion (ApartFrom t) ts × AreApart ts

-- the source of a flat function
record IsOfBody (t : Top) (g : Function) : Type 0 where
  function : Function
  is : t ≡ T.Function function
  name : function.name ≡ g.name
  body : is_some function.body ≡ true

of_body : {t : Top} (g : Function) {u : Top} → u ≡ T.Function g → g.flat ≡ true → IsSourceTop t → FlatTop t u → IsOfBody t g
of_body g e flat s (ft_flat {f = f} {g = k} jumps w) =
    let same : k ≡ g = cc in
    record { function = f; is = refl; name = w.name ∙ ap (λ (z : Function). z.name) same; body = ap is_some w.old_body }
of_body g e flat s (ft_unlabelled {f = f} {g = k} free w) =
    let same : k ≡ g = cc in
    absurd (true≢false (sym flat ∙ ap (λ (z : Function). z.flat) (sym same) ∙ w.flat))
of_body g e flat s (ft_declared f n) =
    let same : f ≡ g = cc in
    absurd (true≢false (sym flat ∙ ap (λ (z : Function). z.flat) (sym same) ∙ s.unflat))
of_body g e flat s (ft_other (T.Function f) n) = absurd n
of_body g e flat s (ft_other (T.Include b) n) = cc
of_body g e flat s (ft_other (T.Enum es) n) = cc
of_body g e flat s (ft_other (T.Global x) n) = cc
of_body g e flat s (ft_other (T.Note b) n) = cc

two_bodies : (f g : Function) → AgreesWith f (T.Function g) → is_some f.body ≡ true → is_some g.body ≡ true → f.name ≡ g.name → ⊥
two_bodies f g a b c e = true≢false (sym c ∙ (a ((bytes_eq-Decides f.name g.name).1 e)).single b)

-- a flat function, whose source is f, and what stands behind it
apart_one : (f g : Function) → f.name ≡ g.name → is_some f.body ≡ true → {t u : Top} → IsSourceTop t → AgreesWith f t → FlatTop t u → ApartFrom (T.Function g) u
apart_one f g n b {u = T.Function k} s a w = λ i j m.
    let o = of_body k refl j s w in
    two_bodies f o.function (subst (AgreesWith f) o.is a) b o.body (n ∙ m ∙ sym o.name)
apart_one f g n b {u = T.Include x} s a w = tt
apart_one f g n b {u = T.Enum es} s a w = tt
apart_one f g n b {u = T.Global x} s a w = tt
apart_one f g n b {u = T.Note x} s a w = tt

apart_each : (f g : Function) → f.name ≡ g.name → is_some f.body ≡ true → {ts us : List Top} → AllByRecursion IsSourceTop ts →
    Each (AgreesWith f) ts → FlatTops ts us → AllByRecursion (ApartFrom (T.Function g)) us
apart_each f g n b s a ft_none = tt
apart_each f g n b s a (ft_more w r) = (apart_one f g n b s.0 a.0 w, apart_each f g n b s.1 a.1 r)

not_flat : (g : Function) → g.flat ≡ false → (t : Top) → ApartFrom (T.Function g) t
not_flat g e (T.Function f) = λ i j m. true≢false (sym i ∙ e)
not_flat g e _ = tt

none_flat : (g : Function) → g.flat ≡ false → (ts : List Top) → AllByRecursion (ApartFrom (T.Function g)) ts
none_flat g e [] = tt
none_flat g e (t ∷ ts) = (not_flat g e t, none_flat g e ts)

no_function : (t : Top) → ((f : Function) → t ≡ T.Function f → ⊥) → (ts : List Top) → AllByRecursion (ApartFrom t) ts
no_function t n [] = tt
no_function (T.Function f) n (u ∷ us) = absurd (n f refl)
no_function (T.Include x) n (u ∷ us) = (tt, no_function (T.Include x) n us)
no_function (T.Enum es) n (u ∷ us) = (tt, no_function (T.Enum es) n us)
no_function (T.Global x) n (u ∷ us) = (tt, no_function (T.Global x) n us)
no_function (T.Note x) n (u ∷ us) = (tt, no_function (T.Note x) n us)

are_apart : {ts us : List Top} → AllByRecursion IsSourceTop ts → DeclarationsAgree ts → FlatTops ts us → AreApart us
are_apart s d ft_none = tt
are_apart s d (ft_more (ft_flat {f = f} {g = g} jumps w) r) = (apart_each f g w.name (ap is_some w.old_body) s.1 d.0 r, are_apart s.1 d.1 r)
are_apart s d (ft_more {us = us} (ft_unlabelled {f = f} {g = g} free w) r) = (none_flat g w.flat us, are_apart s.1 d.1 r)
are_apart s d (ft_more {us = us} (ft_declared f n) r) = (none_flat f s.0.unflat us, are_apart s.1 d.1 r)
are_apart s d (ft_more (ft_other (T.Function f) n) r) = absurd n
are_apart s d (ft_more {us = us} (ft_other (T.Include x) n) r) = (no_function (T.Include x) (λ f e. cc) us, are_apart s.1 d r)
are_apart s d (ft_more {us = us} (ft_other (T.Enum es) n) r) = (no_function (T.Enum es) (λ f e. cc) us, are_apart s.1 d r)
are_apart s d (ft_more {us = us} (ft_other (T.Global x) n) r) = (no_function (T.Global x) (λ f e. cc) us, are_apart s.1 d r)
are_apart s d (ft_more {us = us} (ft_other (T.Note x) n) r) = (no_function (T.Note x) (λ f e. cc) us, are_apart s.1 d r)

-- ---- the moves of each function name it

abbrev AreNamed : (List ℕ → Type 0) → List Move → Type 0
AreNamed P [] = Unit {0}
AreNamed P (m ∷ ms) = P m.function × AreNamed P ms

named_append : (P : List ℕ → Type 0) (ms ns : List Move) → AreNamed P ms → AreNamed P ns → AreNamed P (ms ++ ns)
named_append P [] ns h k = k
named_append P (m ∷ ms) ns h k = (h.0, named_append P ms ns h.1 k)

kept_named : (P : List ℕ → Type 0) (f : List ℕ) (labels : List (List ℕ)) → P f → (ks : List Kept) → AreNamed P (all_named f labels ks)
kept_named P f labels h [] = tt
kept_named P f labels h (k ∷ ks) = (h, kept_named P f labels h ks)

chosen_named : (P : List ℕ → Type 0) (f : List ℕ) (labels : List (List ℕ)) → P f → (cs : List Choice) → AreNamed P (choices_named f labels cs)
chosen_named P f labels h [] = tt
chosen_named P f labels h (c ∷ cs) = (h, chosen_named P f labels h cs)

-- P holds of the name of each flat function
abbrev FlatNamed : (List ℕ → Type 0) → Top → Type 0
FlatNamed P (T.Function f) = f.flat ≡ true → P f.name
FlatNamed P _ = Unit {0}

moves_named : (P : List ℕ → Type 0) {ts us : List Top} {ms : List Move} → AllByRecursion (FlatNamed P) ts → MovedTops ts us ms → AreNamed P ms
moves_named P h mt_none = tt
moves_named P h (mt_more {ms = ms} {ns = ns} (mt_moved {f = f} flat m) r) =
    let n = h.0 flat in
    named_append P ms ns
    (subst (AreNamed P) (sym m.made) (named_append P (all_named f.name f.labels m.moves) (choices_named f.name f.labels m.choices)
    (kept_named P f.name f.labels n m.moves) (chosen_named P f.name f.labels n m.choices)))
    (moves_named P h.1 r)
moves_named P h (mt_more (mt_other t n) r) = moves_named P h.1 r

-- ---- all functions

later_moves : (t : Top) {ts us : List Top} {ms : List Move} → AreNamed (λ n. IsOther n t) ms → Moves ts ms us → Moves (t ∷ ts) ms (t ∷ us)
later_moves t h none = none
later_moves t h (more r rs) = more (L.later_function t h.0 r) (later_moves t h.1 rs)

others : (f g : Function) → g.name ≡ f.name → (ts : List Top) → AllByRecursion (ApartFrom (T.Function f)) ts → f.flat ≡ true →
    AllByRecursion (FlatNamed (λ n. IsOther n (T.Function g))) ts
others f g e [] a flat = tt
others f g e (T.Function h ∷ ts) a flat = ((λ i j m. a.0 flat i (sym e ∙ m)), others f g e ts a.1 flat)
others f g e (T.Include x ∷ ts) a flat = (tt, others f g e ts a.1 flat)
others f g e (T.Enum es ∷ ts) a flat = (tt, others f g e ts a.1 flat)
others f g e (T.Global x ∷ ts) a flat = (tt, others f g e ts a.1 flat)
others f g e (T.Note x ∷ ts) a flat = (tt, others f g e ts a.1 flat)

-- a top that isn't flat is no function of a move
abbrev AllOther : Top → Type 0
AllOther t = (n : List ℕ) → IsOther n t

never : (t : Top) → IsTopUnflat t → AllOther t
never (T.Function f) e n = λ i m. true≢false (sym i ∙ e)
never _ e n = tt

all_others : (t : Top) → AllOther t → (ms : List Move) → AreNamed (λ n. IsOther n t) ms
all_others t h [] = tt
all_others t h (m ∷ ms) = (h m.function, all_others t h ms)

unchanged : (t : Top) → IsTopUnflat t → converted_top t ≡ t
unchanged (T.Function f) e = ap (λ b. T.Function (cond b (converted f) f)) e
unchanged _ e = refl

still_unflat : (t : Top) → IsTopUnflat t → IsTopLeapless t
still_unflat (T.Function f) e = λ i. absurd (true≢false (sym i ∙ e))
still_unflat _ e = tt

all_moves : {ts us : List Top} {ms : List Move} → AreConvertible ts → AreApart ts → MovedTops ts us ms →
    Moves (converted_tops ts) ms us × AllByRecursion IsTopLeapless us
all_moves w a mt_none = (none, tt)
all_moves w a (mt_more {ts = ts} {us = us} {ms = ms} {ns = ns} (mt_moved {f = f} {g = g} flat m) r) =
    let d = moved_function f g ms (converted_tops ts) flat w.0 m in
    let i = all_moves w.1 a.1 r in
    let later = later_moves (T.Function g) (moves_named (λ n. IsOther n (T.Function g)) (others f g d.name ts a.0 flat) r) i.0 in
    let whole = moves_both d.moves later in
    let start : T.Function (converted f) ≡ converted_top (T.Function f) = sym (ap (λ b. T.Function (cond b (converted f) f)) flat) in
    (subst (λ t. Moves (t ∷ converted_tops ts) (ms ++ ns) (T.Function g ∷ us)) start whole, (d.leapless, i.1))
all_moves w a (mt_more {ts = ts} {us = us} {ns = ns} (mt_other t n) r) =
    let i = all_moves w.1 a.1 r in
    (subst (λ u. Moves (u ∷ converted_tops ts) ns (t ∷ us)) (sym (unchanged t n)) (later_moves t (all_others t (never t n) ns) i.0), (still_unflat t n, i.1))

pub moves : (p : Program) (us vs : List Top) (ms : List Move) → IsSource p → DeclarationsAgree p.tops → FlatTops p.tops us → MovedTops us vs ms →
    Moves (converted_tops us) ms vs × All IsTopLeapless vs
moves p us vs ms s d w m =
    let f = flat_program p (record { tops = us }) s w in
    let a = are_apart (recursion_from_All IsSourceTop p.tops s.tops) d w in
    let r = all_moves f.convertible a m in
    (r.0, All-from_recursion IsTopLeapless vs r.1)

pub rewritten : (p q : Program) (ms : List Move) → IsSource p → DeclarationsAgree p.tops → IsRewritten p q ms → IsReplayed p q ms × All IsTopLeapless q.tops
rewritten p q ms s d w =
    let r = moves p w.flat.tops q.tops ms s d w.flattened w.moved in
    (record { flat = w.flat; flattened = w.flattened; moved = r.0 }, r.1)
