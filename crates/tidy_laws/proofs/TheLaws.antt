-- Changes keep the behaviour.
use Rattle.std.proofs.Common.{ℕ, zero, suc, ◌-◌, ◌≤◌, ◌<◌, inl, inr, ℤ, Bool, true, false, ◌&&◌, List, [], ◌∷◌, length, take, Option, Some, None, option_map, ◌≡◌, refl, sym, ap, ◌∙◌, subst, arith}
use Rattle.std.specs.Prelude.{◌↔◌, All, Contains, IsSome, IsNone}
use Rattle.std.specs.Option.{option_map_or}
use Rattle.std.proofs.lemmas.Bool.{and_parts}
use Rattle.c_types.specs.declared.kinds.IntKind.{IntKind}
use Rattle.c_types.specs.declared.kinds.IntKind.TheVariants.{Int}
use Rattle.c_tree.specs.declared.tree.Slot.{Slot}
use Rattle.c_tree.specs.Trees.{Tree, Forest, Nil, Goto, Mark, Arm, Leap, Land, Arrival}
use Rattle.c_tree.specs.Everywhere.{Everywhere}
use Rattle.jump_meaning.specs.Code.{FunctionTree, Code, entry_or, items_of}
use Rattle.jump_meaning.specs.World.{no_slot}
use Rattle.jump_meaning.specs.Runs.{IsEntry, jump_run}
use Rattle.jump_meaning.proofs.Covering.{same_runs_refl, same_runs_sym, same_runs_trans}
use Rattle.struct_meaning.specs.Runs.{structural_run, IsCodeStructured}
use Rattle.struct_meaning.specs.Structured.{IsStructured}
use Rattle.struct_meaning.proofs.Programs.{meanings_agree_law}
use Rattle.plain_laws.specs.Tidied.{tidy, tidy_item, tidy_code}
use Rattle.plain_laws.proofs.PlainRange.{tidy_everywhere}
use Rattle.plain_laws.proofs.TheLaws.{plain_laws}
use Rattle.plain_laws.specs.Kinded.{KindedItem, kind_called}
use Rattle.tidy_laws.specs.Likeness.{LikeBody, LikeCode}
use Rattle.tidy_laws.specs.Steps.{LeavesOne}
use Rattle.tidy_laws.specs.TidyExitLaws.{RunTheSame}
use Rattle.tidy_laws.proofs.TidyExitStatements.{likes_itself}
use Rattle.tidy_laws.proofs.TidyExitPrograms.{leaving_law}
use Rattle.tidy_laws.specs.Mentions.{list_lacks}
use Rattle.tidy_laws.specs.Renumbered.{without, renumbered_list}
use Rattle.tidy_laws.specs.Changes.{is_flag, declares, undeclared, changes, changes_of, changed, changed_first, changed_once}
use Rattle.tidy_laws.specs.TidyBehaviourLaws.{HasKinds, IsChanged, IsChangedCode, BehaveAlike, TidyLaws}
use Rattle.tidy_laws.specs.Settles.{Items}
use Rattle.tidy_laws.specs.Settled.{SettledBody, SettledFunction, SettledCode}
use Rattle.tidy_laws.proofs.SettledRuns.{settled_law}
use Rattle.tidy_laws.proofs.TidyBehaviourPrograms.{program_kinds}
use Rattle.tidy_laws.proofs.ChangedPrograms.{programs_changed}
use Rattle.tidy_laws.proofs.Unnamed.{items_free}
use Rattle.tidy_laws.proofs.Tailed.{plain_items}
use Rattle.tidy_laws.proofs.ChangedLists.{Makes}
use Rattle.tidy_laws.proofs.Changing.{lists_made}
use Rattle.tidy_laws.proofs.Reach.{of_change, no_element, in_reach, first_among}

-- ---- slots

end_entry : (ss : List Slot) → entry_or no_slot ss (length ss) ≡ no_slot
end_entry [] = refl
end_entry (s ∷ ss) = end_entry ss

without_end : (ss : List Slot) → without (length ss) ss ≡ ss
without_end [] = refl
without_end (s ∷ ss) = ap (λ z. s ∷ z) (without_end ss)

flag_is : (s : Slot) → is_flag s ≡ true → (s.kind ≡ Int) × (s.cells ≡ None)
flag_is s h = at s.kind s.cells s.constant h
  where
    at : (k : IntKind) (o : Option ℕ) (b : Bool) → is_flag (record s { kind = k; cells = o; constant = b }) ≡ true → (k ≡ Int) × (o ≡ None)
    at Int None false h = (refl, refl)
    at k o b h = cc

pub front_without : (n g : ℕ) (ss : List Slot) → n ≤ g → take n (without g ss) ≡ take n ss
front_without zero g ss h = refl
front_without (suc n) zero ss h = absurd (omega (arith, h))
front_without (suc n) (suc g) [] h = refl
front_without (suc n) (suc g) (s ∷ ss) h = ap (λ z. s ∷ z) (front_without n g ss (omega (arith, h)))

-- ---- functions

-- a function comes by way of one with another body
record Steps (k : Code) (f h : FunctionTree) : Type 0 where
  middle : Option Forest
  like : LikeBody LeavesOne f.body middle
  hole : ℕ
  settled : SettledFunction k hole (record f { body = middle }) h

like_same : (o : Option Forest) → LikeBody LeavesOne o o
like_same None = tt
like_same (Some a) = likes_itself LeavesOne a

stays_settled : (k : Code) (f : FunctionTree) (o : Option Forest) → Everywhere (KindedItem k f.slots) (option_map_or (λ a. a) o Nil) →
    SettledBody k (record f { body = o }) (length f.slots) o o
stays_settled k f None h = without_end f.slots
stays_settled k f (Some a) h =
    let i = items_free k f.slots a h in
    subst (Items k f.slots (length f.slots) false a) i.1 (plain_items k f.slots (length f.slots) false a h i.0)

stays_steps : (k : Code) (f : FunctionTree) → f.params ≤ length f.slots → Everywhere (KindedItem k f.slots) (items_of f) → Steps k f f
stays_steps k f l h = record {
  middle = f.body;
  like = like_same f.body;
  hole = length f.slots;
  settled = record {
    may = record { local = l; int = ap (λ (s : Slot). s.kind) (end_entry f.slots); single = ap (λ (s : Slot). s.cells) (end_entry f.slots) };
    body = f.body;
    same = ap (λ ss. record f { slots = ss }) (sym (without_end f.slots));
    settled = stays_settled k f f.body h;
  };
}

changed_steps : (k : Code) (f : FunctionTree) (c : ℕ × Forest) → Contains (changes_of f) c → Everywhere (KindedItem k f.slots) (items_of f) →
    Steps k f (changed f c)
changed_steps k f c i h = at f.body i h
  where
    at : (o : Option Forest) → Contains (option_map_or (changes f) o []) c → Everywhere (KindedItem k f.slots) (option_map_or (λ a. a) o Nil) →
        Steps k (record f { body = o }) (changed f c)
    at None i h = absurd (no_element c i)
    at (Some a) i h =
        let m = of_change (Makes k f.slots f.params (length f.slots - f.params) true a) f a
        (lists_made k f.slots f.params (length f.slots - f.params) a h true 1) c i in
        let l = and_parts (is_flag (entry_or no_slot f.slots c.0)) (declares c.0 c.1 && list_lacks c.0 (undeclared c.0 c.1)) m.1 in
        let flag = flag_is (entry_or no_slot f.slots c.0) l.0 in
        let made = m.0.1 (and_parts (declares c.0 c.1) (list_lacks c.0 (undeclared c.0 c.1)) l.1).1 in
        record {
          middle = Some made.middle;
          like = made.before;
          hole = c.0;
          settled = record {
            may = record { local = m.0.0.0; int = flag.0; single = flag.1 };
            body = Some (renumbered_list c.0 (undeclared c.0 c.1));
            same = refl;
            settled = made.behind;
          };
        }

steps_of : (k : Code) (f h : FunctionTree) → f.params ≤ length f.slots → Everywhere (KindedItem k f.slots) (items_of f) → IsChanged f h → Steps k f h
steps_of k f h l i (inl e) = subst (Steps k f) (sym e) (stays_steps k f l i)
steps_of k f h l i (inr c) = subst (Steps k f) (sym c.2) (changed_steps k f c.0 c.1 i)

-- ---- entries

-- what an entry is asked of
record SameFront (f h : FunctionTree) : Type 0 where
  forth : IsSome f.body → IsSome h.body
  back : IsSome h.body → IsSome f.body
  front : take h.params h.slots ≡ take f.params f.slots
  params : h.params ≡ f.params

same_front : (f h : FunctionTree) → IsChanged f h → SameFront f h
same_front f h (inl e) = subst (SameFront f) (sym e) (record { forth = λ i. i; back = λ i. i; front = refl; params = refl })
same_front f h (inr c) = subst (SameFront f) (sym c.2) (record {
  forth = λ i. refl;
  back = λ i. there f.body c.1;
  front = front_without f.params c.0.0 f.slots (in_reach f c.0 c.1).0;
  params = refl;
})
  where
    there : (o : Option Forest) → Contains (option_map_or (changes f) o []) c.0 → IsSome o
    there None i = absurd (no_element c.0 i)
    there (Some a) i = refl

-- ---- programs

module _ (p q : Code) (kinds : HasKinds p) (c : IsChangedCode p q) where
  steps : (m : List ℕ) → Steps p (p.functions m) (q.functions m)
  steps m = steps_of p (p.functions m) (q.functions m) (kinds.parameters m) (kinds.items m) (c.functions m)

  abbrev between : Code
  between = record { functions = λ m. record (p.functions m) { body = (steps m).middle }; globals = p.globals; cells = p.cells }

  like : LikeCode LeavesOne p between
  like = record { functions = λ m. record { body = (steps m).middle; same = refl; like = (steps m).like }; globals = refl; cells = refl }

  same_kind : (m : List ℕ) (result : Option IntKind) (o b : Option Forest) → LikeBody LeavesOne o b → kind_called m b result ≡ kind_called m o result
  same_kind m result None None h = refl
  same_kind m result (Some x) (Some y) h = refl
  same_kind m result None (Some y) h = absurd h
  same_kind m result (Some x) None h = absurd h

  settled : SettledCode p between q
  settled = record {
    hole = λ m. (steps m).hole;
    functions = λ m. (steps m).settled;
    globals = c.globals;
    cells = c.cells;
    slots = λ m. refl;
    calls = λ m. same_kind m (p.functions m).result (p.functions m).body (steps m).middle (steps m).like;
    same_globals = refl;
    numbers = kinds.numbers;
  }

  runs : RunTheSame p q
  runs m arguments input answers =
      same_runs_trans (structural_run p m arguments input answers) (structural_run between m arguments input answers)
      (structural_run q m arguments input answers)
      (leaving_law.leaves p between like m arguments input answers) (settled_law.settled p between q settled m arguments input answers)

  entries : (m : List ℕ) (arguments : List ℤ) → IsEntry p m arguments ↔ IsEntry q m arguments
  entries m arguments =
      let s = same_front (p.functions m) (q.functions m) (c.functions m) in (
        (λ e. record {
          defined = s.forth e.defined;
          numbers = subst (All (λ (s : Slot). IsNone s.cells)) (sym s.front) e.numbers;
          given = e.given ∙ sym s.params;
        }),
        (λ e. record { defined = s.back e.defined; numbers = subst (All (λ (s : Slot). IsNone s.cells)) s.front e.numbers; given = e.given ∙ s.params }),
      )

  alike : BehaveAlike p q
  alike = record { entries = entries; runs = λ m arguments e input answers. runs m arguments input answers }

same_alike : (p : Code) → BehaveAlike p p
same_alike p = record {
  entries = λ m arguments. ((λ e. e), (λ e. e));
  runs = λ m arguments e input answers. same_runs_refl (structural_run p m arguments input answers);
}

then_alike : (p q r : Code) → BehaveAlike p q → BehaveAlike q r → BehaveAlike p r
then_alike p q r h k = record {
  entries = λ m arguments. ((λ e. (k.entries m arguments).0 ((h.entries m arguments).0 e)), (λ e. (h.entries m arguments).1 ((k.entries m arguments).1 e)));
  runs = λ m arguments e input answers. same_runs_trans (structural_run p m arguments input answers) (structural_run q m arguments input answers)
      (structural_run r m arguments input answers)
      (h.runs m arguments e input answers) (k.runs m arguments ((h.entries m arguments).0 e) input answers);
}

several : (n : ℕ) (p : ℕ → Code) → ((i : ℕ) → i < n → HasKinds (p i)) → ((i : ℕ) → i < n → IsChangedCode (p i) (p (suc i))) → BehaveAlike (p 0) (p n)
several zero p h k = same_alike (p 0)
several (suc n) p h k =
    then_alike (p 0) (p n) (p (suc n)) (several n p (λ i l. h i (omega (arith, l))) (λ i l. k i (omega (arith, l))))
    (alike (p n) (p (suc n)) (h n (omega arith)) (k n (omega arith)))

-- ---- sections

structured_tidied : (x : Tree) → IsStructured x → IsStructured (tidy_item x)
structured_tidied (Goto l) h = absurd h
structured_tidied (Mark l) h = absurd h
structured_tidied (Arm l e) h = absurd h
structured_tidied (Leap l) h = absurd h
structured_tidied (Land l) h = absurd h
structured_tidied (Arrival e) h = absurd h
structured_tidied x h = tt

-- sections in their plain form, by the structural meaning
tidied_alike : (p : Code) → IsCodeStructured p → BehaveAlike p (tidy_code p)
tidied_alike p h =
    let same = plain_laws.of_sections p in
    record {
      entries = same.entries;
      runs = λ m arguments e input answers.
          same_runs_trans (structural_run p m arguments input answers) (jump_run p m arguments input answers)
          (structural_run (tidy_code p) m arguments input answers)
          (same_runs_sym (jump_run p m arguments input answers) (structural_run p m arguments input answers)
          ((meanings_agree_law.of_codes p h).runs m arguments input answers))
          (same_runs_trans (jump_run p m arguments input answers) (jump_run (tidy_code p) m arguments input answers)
          (structural_run (tidy_code p) m arguments input answers)
          (same.runs m arguments e input answers) ((meanings_agree_law.of_codes (tidy_code p) tidied).runs m arguments input answers));
    }
  where
    tidied_items : (o : Option Forest) → Everywhere IsStructured (option_map_or (λ a. a) o Nil) →
        Everywhere IsStructured (option_map_or (λ a. a) (option_map tidy o) Nil)
    tidied_items None h = h
    tidied_items (Some a) h = tidy_everywhere IsStructured structured_tidied a h

    tidied : IsCodeStructured (tidy_code p)
    tidied m = tidied_items (p.functions m).body (h m)

sections : (n : ℕ) (p : ℕ → Code) → ((i : ℕ) → i < n → HasKinds (p i)) → ((i : ℕ) → i < n → IsChangedCode (p i) (p (suc i))) →
    IsCodeStructured (p n) → BehaveAlike (p 0) (tidy_code (p n))
sections n p h k s = then_alike (p 0) (p n) (tidy_code (p n)) (several n p h k) (tidied_alike (p n) s)

first_change : (f : FunctionTree) → IsChanged f (changed_once f)
first_change f = at (changes_of f) refl
  where
    at : (cs : List (ℕ × Forest)) → changes_of f ≡ cs → IsChanged f (changed_first f (changes_of f))
    at [] e = inl (ap (changed_first f) e)
    at (c ∷ cs) e = inr (c, subst (λ ds. Contains ds c) (sym e) (first_among c cs), ap (changed_first f) e)

pub tidy_law : TidyLaws
tidy_law = record { first = first_change; kinds = program_kinds; programs = programs_changed; changes = alike; several = several; sections = sections }
