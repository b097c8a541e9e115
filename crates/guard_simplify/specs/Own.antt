-- The first simplification at an item itself.
use Rattle.std.specs.Prelude.{ℕ, Bool, cond, [], Option, Some, None}
use Rattle.c_tree.specs.declared.tree.Item.{Item}
use Rattle.report_moves.specs.declared.moves.MoveKind.{MoveKind}
use Rattle.report_moves.specs.declared.moves.MoveKind.TheVariants.{Z1, Z2, Z3, Z4, Z5}
use Rattle.guard_simplify.specs.declared.choice.Choice.{Choice}
use Rattle.guard_simplify.specs.declared.choice.Repeat.{Repeat}
use Rattle.guard_simplify.specs.Views.{empty_if, repeat_in, guard, beside, next_guard, arms_item, nested, unread}

-- the simplification of this kind at the item i
abbrev pub choice_at : MoveKind → Option ℕ → ℕ → Choice
choice_at kind label i = record { kind = kind; label = label; path = record { steps = []; item = i } }

-- it, where it has a label, or else a later one
abbrev pub else_label : ℕ → MoveKind → Option ℕ → Option Choice → Option Choice
else_label i kind None later = later
else_label i kind (Some l) later = Some (choice_at kind (Some l) i)

-- that of a wrapper that was found, or else a later one
abbrev pub else_repeat : ℕ → Option Repeat → Option Choice → Option Choice
else_repeat i None later = later
else_repeat i (Some r) later = Some (choice_at Z2 (Some r.label) i)

-- the first at the item x, which is number i, before the next item
abbrev pub own_at : (ℕ → Bool) → ℕ → Item → Option Item → Option Choice
own_at bar i x next =
    cond (empty_if x) (Some (choice_at Z1 None i))
    (else_repeat i (repeat_in x) (else_label i Z3 (beside (guard x) (next_guard next) (λ l. arms_item l x))
    (cond (nested x) (Some (choice_at Z4 None i)) (else_label i Z5 (unread bar x) None))))

-- that of one kind at the item x, where it applies there
abbrev pub own_of : MoveKind → (ℕ → Bool) → ℕ → Item → Option Item → Option Choice
own_of Z1 bar i x next = cond (empty_if x) (Some (choice_at Z1 None i)) None
own_of Z2 bar i x next = else_repeat i (repeat_in x) None
own_of Z3 bar i x next = else_label i Z3 (beside (guard x) (next_guard next) (λ l. arms_item l x)) None
own_of Z4 bar i x next = cond (nested x) (Some (choice_at Z4 None i)) None
own_of Z5 bar i x next = else_label i Z5 (unread bar x) None
own_of _ bar i x next = None
