-- Where the labels of a body stand: each is where a jump to it comes to.
use Rattle.std.specs.Prelude.{ℕ, ◌+◌, ◌≤◌, ◌≡◌, ◌⊎◌, cond, eqb, List, ◌∷◌}
use Rattle.c_tree.specs.Trees.{Tree, Forest, Nil, Then, Sections, NoSection, Section, If, While, Do, For, Switch, Block, Mark, Land}
use Rattle.jump_meaning.specs.Tasks.{Task, Runs, Loops, WhileLoop, DoLoop, ForLoop, items, end_of, tail_tasks}
use Rattle.jump_meaning.specs.Search.{find}

module _ (body : Forest) where
  abbrev mutual
    -- a list of the body, where k are the tasks behind it: a jump to each of its labels comes there
    pub ArePlaced : Forest → List Task → Type 0
    ArePlaced Nil k = Unit {0}
    ArePlaced (Then x xs) k = IsPlaced x (items xs k) × ArePlaced xs k

    -- an item of the body, where k are the tasks behind it
    pub IsPlaced : Tree → List Task → Type 0
    IsPlaced (If t a b) k = ArePlaced a k × ArePlaced b k
    IsPlaced (While t a) k = ArePlaced a (Loops (WhileLoop t a) ∷ k)
    IsPlaced (Do a t) k = ArePlaced a (Loops (DoLoop a t) ∷ k)
    IsPlaced (For first t u a) k = ArePlaced a (Loops (ForLoop t u a) ∷ k)
    IsPlaced (Block a) k = ArePlaced a k
    IsPlaced (Switch s c) k = ArePlacedAmong c k
    IsPlaced (Mark l) k = find l body ≡ Runs (Mark l) ∷ k
    IsPlaced _ k = Unit {0}

    -- the sections of a switch, where k are the tasks behind that
    pub ArePlacedAmong : Sections → List Task → Type 0
    ArePlacedAmong NoSection k = Unit {0}
    ArePlacedAmong (Section cases default a ends c) k = ArePlaced a (end_of ends (tail_tasks c k)) × ArePlacedAmong c k

abbrev mutual
  -- no label stands in a list
  pub IsUnlabelled : Forest → Type 0
  IsUnlabelled Nil = Unit {0}
  IsUnlabelled (Then x xs) = IsUnlabelledItem x × IsUnlabelled xs

  -- in an item
  pub IsUnlabelledItem : Tree → Type 0
  IsUnlabelledItem (If t a b) = IsUnlabelled a × IsUnlabelled b
  IsUnlabelledItem (While t a) = IsUnlabelled a
  IsUnlabelledItem (Do a t) = IsUnlabelled a
  IsUnlabelledItem (For first t u a) = IsUnlabelled a
  IsUnlabelledItem (Block a) = IsUnlabelled a
  IsUnlabelledItem (Switch s c) = IsUnlabelledAmong c
  IsUnlabelledItem (Mark l) = ⊥
  IsUnlabelledItem _ = Unit {0}

  -- in sections
  pub IsUnlabelledAmong : Sections → Type 0
  IsUnlabelledAmong NoSection = Unit {0}
  IsUnlabelledAmong (Section cases default a ends c) = IsUnlabelled a × IsUnlabelledAmong c

abbrev mutual
  -- the label stands in a list, at any depth, the first parts of `for`s apart
  pub Has : ℕ → Forest → Type 0
  Has l Nil = ⊥
  Has l (Then x xs) = HasIn l x ⊎ Has l xs

  -- in an item
  pub HasIn : ℕ → Tree → Type 0
  HasIn l (If t a b) = Has l a ⊎ Has l b
  HasIn l (While t a) = Has l a
  HasIn l (Do a t) = Has l a
  HasIn l (For first t u a) = Has l a
  HasIn l (Block a) = Has l a
  HasIn l (Switch s c) = HasAmong l c
  HasIn l (Mark m) = l ≡ m
  HasIn l _ = ⊥

  -- in sections
  pub HasAmong : ℕ → Sections → Type 0
  HasAmong l NoSection = ⊥
  HasAmong l (Section cases default a ends c) = Has l a ⊎ HasAmong l c

abbrev mutual
  -- how often the label stands in a list, at any depth, the first parts of `for`s apart
  pub places : ℕ → Forest → ℕ
  places l Nil = 0
  places l (Then x xs) = places_of l x + places l xs

  -- in an item
  pub places_of : ℕ → Tree → ℕ
  places_of l (If t a b) = places l a + places l b
  places_of l (While t a) = places l a
  places_of l (Do a t) = places l a
  places_of l (For first t u a) = places l a
  places_of l (Block a) = places l a
  places_of l (Switch s c) = places_among l c
  places_of l (Mark m) = cond (eqb l m) 1 0
  places_of l (Land m) = cond (eqb l m) 1 0
  places_of l _ = 0

  -- in sections
  pub places_among : ℕ → Sections → ℕ
  places_among l NoSection = 0
  places_among l (Section cases default a ends c) = places l a + places_among l c

-- each label stands at most once
abbrev pub IsOnce : Forest → Type 0
IsOnce body = (l : ℕ) → places l body ≤ 1
