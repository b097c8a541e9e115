-- The way of a set guard through the tasks of a call.
use mathlib.Core.Path.{fun_ext}
use Rattle.std.proofs.Common.{ℕ, Bool, true, false, List, [], ◌∷◌, ◌≡◌, refl, ap, sym, ◌∙◌}
use Rattle.c_tree.specs.Trees.{Forest, Nil, Then, Sections, NoSection, Section, While}
use Rattle.jump_meaning.specs.Tasks.{Loop, WhileLoop, DoLoop, ForLoop, Task, Runs, Loops, EndsSection, Out, items, end_of, tail_tasks}
use Rattle.core_laws.specs.Ways.{Way, Lands, Past, Lost, ◌▷◌, end_way, walks, walk, tail_way, do_end_way, Follow, before, after_section}

-- from the end of the body of a loop on
abbrev pub loop_way : ℕ → Loop → Way
loop_way l (WhileLoop t a) = walk l (While t a)
loop_way l (DoLoop a t) = do_end_way l a t
loop_way l (ForLoop t u a) = Lost

abbrev mutual
  -- through the tasks that stand behind an item
  pub task_way : List Task → Follow
  task_way [] l = Lost
  task_way (Runs x ∷ k) l = walk l x ▷ task_way k l
  task_way (Loops x ∷ k) l = loop_way l x ▷ task_way k l
  task_way (EndsSection ∷ k) l = exit_way k l
  task_way (Out ∷ k) l = task_way k l
  task_way (_ ∷ k) l = Lost

  -- through those behind the nearest loop or switch
  pub exit_way : List Task → Follow
  exit_way [] l = Lost
  exit_way (Loops x ∷ k) l = task_way k l
  exit_way (Out ∷ k) l = task_way k l
  exit_way (_ ∷ k) l = exit_way k l

pub way_assoc : (a b c : Way) → (a ▷ b) ▷ c ≡ a ▷ (b ▷ c)
way_assoc Lands b c = refl
way_assoc Past b c = refl
way_assoc Lost b c = refl

pub items_way : (l : ℕ) (a : Forest) (k : List Task) → task_way (items a k) l ≡ walks l a ▷ task_way k l
items_way l Nil k = refl
items_way l (Then x a) k = ap (λ r. walk l x ▷ r) (items_way l a k) ∙ sym (way_assoc (walk l x) (walks l a) (task_way k l))

pub exit_items : (l : ℕ) (a : Forest) (k : List Task) → exit_way (items a k) l ≡ exit_way k l
exit_items l Nil k = refl
exit_items l (Then x a) k = exit_items l a k

exit_end : (l : ℕ) (ends : Bool) (k : List Task) → exit_way (end_of ends k) l ≡ exit_way k l
exit_end l true k = refl
exit_end l false k = refl

exit_tail : (l : ℕ) (c : Sections) (k : List Task) → exit_way (tail_tasks c k) l ≡ task_way k l
exit_tail l NoSection k = refl
exit_tail l (Section cases default a ends c) k = exit_items l a (end_of ends (tail_tasks c k)) ∙ exit_end l ends (tail_tasks c k) ∙ exit_tail l c k

end_tasks_way : (l : ℕ) (ends : Bool) (c : Sections) (k : List Task) → task_way (tail_tasks c k) l ≡ tail_way l c ▷ task_way k l →
    task_way (end_of ends (tail_tasks c k)) l ≡ end_way ends (tail_way l c) ▷ task_way k l
end_tasks_way l true c k h = exit_tail l c k
end_tasks_way l false c k h = h

pub tail_tasks_way : (l : ℕ) (c : Sections) (k : List Task) → task_way (tail_tasks c k) l ≡ tail_way l c ▷ task_way k l
tail_tasks_way l NoSection k = refl
tail_tasks_way l (Section cases default a ends c) k =
    items_way l a (end_of ends (tail_tasks c k)) ∙ ap (λ r. walks l a ▷ r) (end_tasks_way l ends c k (tail_tasks_way l c k))
    ∙ sym (way_assoc (walks l a) (end_way ends (tail_way l c)) (task_way k l))

-- ---- what follows

pub follow_items : (a : Forest) (k : List Task) → task_way (items a k) ≡ before a (task_way k)
follow_items a k = fun_ext (λ l. items_way l a k)

pub follow_section : (ends : Bool) (c : Sections) (k : List Task) → task_way (end_of ends (tail_tasks c k)) ≡ after_section ends c (task_way k)
follow_section ends c k = fun_ext (λ l. end_tasks_way l ends c k (tail_tasks_way l c k))
