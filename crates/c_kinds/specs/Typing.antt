-- What each expression is, and its violations (ISO/IEC 9899:2011, 6.5).
use Rattle.std.specs.Prelude.{ℕ, Bool, true, false, cond, List, [], ◌∷◌, ◌++◌, Option, Some, None}
use Rattle.c_lexer.specs.Marks.{mark_of}
use Rattle.c_lexer.specs.Numbers.{integer_of}
use Rattle.c_grammar.specs.Terms.{Term, Form, Terms, At, Constant, Variable, Cell, Prefix, Suffix, CastTo, CastVoid, Binary, Choice, Assign, Commas, Call, Texts, Unknown, NoTerm, Then, first_of}
use Rattle.c_grammar.specs.Words.{kind_of, character, is_character}
use Rattle.c_grammar.specs.DecodingSteps.{decoded}
use Rattle.c_kinds.specs.declared.typed.Typed.{Typed}
use Rattle.c_kinds.specs.declared.typed.Typed.TheVariants.{Text, Wrong}
use Rattle.c_kinds.specs.declared.typed.Target.{Target}
use Rattle.c_kinds.specs.declared.typed.Given.{Given}
use Rattle.c_kinds.specs.Marks.{step_of, counts_up, unary_op, binary_op, update_op}
use Rattle.c_kinds.specs.Scopes.{Env, Faults, meaning}
use Rattle.c_kinds.specs.Values.{value_of, dropped, use_fault, drop_fault, number, character_constant, number_target, cell_target, writable, reading, unary, counting, cast, cast_void, binary, choice, assignment, comma}
use Rattle.c_kinds.specs.Names.{variable_of, named, name_fault, target_fault}
use Rattle.c_kinds.specs.Calls.{called, call_faults}
use Rattle.c_kinds.specs.Constants.{constant_fault}

-- a number or a character constant
abbrev pub constant : List ℕ → Typed
constant word = cond (is_character word) (character_constant (character word)) (number (integer_of word))

-- the bytes of texts that stand side by side
abbrev pub joined_texts : (ℕ → List ℕ) → List ℕ → List ℕ
joined_texts word [] = []
joined_texts word (at ∷ ats) = decoded (word at) ++ joined_texts word ats

abbrev mutual
  pub typed : Env → Term → Typed
  typed env (At first form) = form_typed env form

  pub form_typed : Env → Form → Typed
  form_typed env (Constant at) = constant (env.word at)
  form_typed env (Variable at) = named at (env.word at) (meaning env at)
  form_typed env (Cell at i) = reading (cell_target (variable_of (env.word at) (meaning env at)) (value_of (typed env i)))
  form_typed env (Prefix m a) =
      elim (step_of (mark_of (env.word m))) [
        | Some up ↦ counting up false (writable (target_of env a))
        | None ↦ unary
            (unary_op (mark_of (env.word m))) (value_of (typed env a))
      ]
  form_typed env (Suffix m a) = counting (counts_up (mark_of (env.word m))) true (writable (target_of env a))
  form_typed env (CastTo words a) = cast (kind_of env.word words) (value_of (typed env a))
  form_typed env (CastVoid a) = cast_void (dropped (typed env a))
  form_typed env (Binary m a b) = binary (binary_op (mark_of (env.word m))) (value_of (typed env a)) (value_of (typed env b))
  form_typed env (Choice a b c) = choice (value_of (typed env a)) (value_of (typed env b)) (value_of (typed env c))
  form_typed env (Assign m t a) = assignment (update_op (mark_of (env.word m))) (writable (target_of env t)) (value_of (typed env a))
  form_typed env (Commas a bs) = commas env (typed env a) bs
  form_typed env (Call at xs) = called (env.word at) (meaning env at) (given env xs)
  form_typed env (Texts ats) = Text (joined_texts env.word ats)
  form_typed env Unknown = Wrong

  -- `a, b, c` from the left, behind what is typed so far
  pub commas : Env → Typed → Terms → Typed
  commas env a NoTerm = a
  commas env a (Then b bs) = commas env (comma (dropped a) (typed env b)) bs

  -- a variable or a cell, where it is assigned or counted
  pub target_of : Env → Term → Option Target
  target_of env (At first form) = form_target env form

  pub form_target : Env → Form → Option Target
  form_target env (Variable at) = number_target (variable_of (env.word at) (meaning env at))
  form_target env (Cell at i) = cell_target (variable_of (env.word at) (meaning env at)) (value_of (typed env i))
  form_target env _ = None

  -- the arguments, each with its first token
  pub given : Env → Terms → List Given
  given env NoTerm = []
  given env (Then x xs) = record { first = first_of x; typed = typed env x } ∷ given env xs

-- the cell of an array at an index
abbrev pub cell_of : Env → ℕ → Term → Option Target
cell_of env at i = cell_target (variable_of (env.word at) (meaning env at)) (value_of (typed env i))

-- ---- violations, in front of those that were found before

-- an operand of which the value is used, or dropped
abbrev pub used : Env → Term → Faults → Faults
used env x vs = use_fault (first_of x) (typed env x) vs

abbrev pub unused : Env → Term → Faults → Faults
unused env x vs = drop_fault (first_of x) (typed env x) vs

-- an index, behind the violations within it
abbrev pub cell_faults : Env → Bool → ℕ → Term → Faults → Faults
cell_faults env writes at i vs = target_fault writes true at (meaning env at) (used env i vs)

abbrev mutual
  pub faults : Env → Term → Faults → Faults
  faults env (At first form) vs = form_faults env form vs

  pub form_faults : Env → Form → Faults → Faults
  form_faults env (Constant at) vs = vs
  form_faults env (Variable at) vs = name_fault at (meaning env at) vs
  form_faults env (Cell at i) vs = target_fault false true at (meaning env at) (used env i (faults env i vs))
  form_faults env (Prefix m a) vs =
      elim (step_of (mark_of (env.word m))) [ Some up ↦ target_faults env a vs | None ↦ used env a (faults env a vs) ]
  form_faults env (Suffix m a) vs = target_faults env a vs
  form_faults env (CastTo words a) vs = used env a (faults env a vs)
  form_faults env (CastVoid a) vs = unused env a (faults env a vs)
  form_faults env (Binary m a b) vs = used env b (faults env b (used env a (faults env a vs)))
  form_faults env (Choice a b c) vs = used env c (faults env c (used env b (faults env b (used env a (faults env a vs)))))
  form_faults env (Assign m t a) vs = used env a (faults env a (target_faults env t vs))
  form_faults env (Commas a bs) vs = unused_faults env bs (unused env a (faults env a vs))
  form_faults env (Call at xs) vs = call_faults at (meaning env at) (given env xs) (given_faults env xs vs)
  form_faults env (Texts ats) vs = vs
  form_faults env Unknown vs = vs

  -- the operands of comma operators, of which no value is an array
  pub unused_faults : Env → Terms → Faults → Faults
  unused_faults env NoTerm vs = vs
  unused_faults env (Then b bs) vs = unused_faults env bs (unused env b (faults env b vs))

  -- a variable or a cell that is written to
  pub target_faults : Env → Term → Faults → Faults
  target_faults env (At first form) vs = form_target_faults env form vs

  pub form_target_faults : Env → Form → Faults → Faults
  form_target_faults env (Variable at) vs = target_fault true false at (meaning env at) vs
  form_target_faults env (Cell at i) vs = target_fault true true at (meaning env at) (used env i (faults env i vs))
  form_target_faults env _ vs = vs

  -- the violations within arguments
  pub given_faults : Env → Terms → Faults → Faults
  given_faults env NoTerm vs = vs
  given_faults env (Then x xs) vs = given_faults env xs (faults env x vs)

-- a constant expression, behind the violations within it
abbrev pub constant_faults : Env → Term → Faults → Faults
constant_faults env x vs = constant_fault (first_of x) (typed env x) (faults env x vs)
