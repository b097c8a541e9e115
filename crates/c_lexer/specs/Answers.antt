-- What reading a text gives.
use Rattle.std.specs.Prelude.{◌≡◌, ℕ, true, List, [], Result, Ok, Err}
use Rattle.std.specs.Result.{result_map_both}
use Rattle.c_types.specs.declared.refusal.Refusal.{Refusal}
use Rattle.c_lexer.specs.declared.token.Token.{Token}
use Rattle.c_lexer.specs.declared.token.Span.{Span}
use Rattle.c_lexer.specs.declared.token.Scanned.{Scanned}
use Rattle.c_lexer.specs.declared.state.State.TheVariants.{Between}
use Rattle.c_lexer.specs.Pieces.{Piece, Spells}
use Rattle.c_lexer.specs.Faults.{refusal_of, IsFirstFault}
use Rattle.c_lexer.specs.Machine.{Lexed, Read, Faulty, run, add_ended}

abbrev pub answer : {X : Type 0} → List ℕ → Lexed X → Result X Refusal
answer t (Read found) = Ok found
answer t (Faulty reason place) = Err (refusal_of reason t place)

abbrev pub nothing : Scanned
nothing = record { tokens = []; comments = [] }

-- the tokens and the comments of a text, or its first fault
abbrev pub scanning : List ℕ → Result Scanned Refusal
scanning t = answer t (run add_ended t (Between true) 0 nothing t)

-- a part of what was found
abbrev pub part : {X Y : Type 0} → (X → Y) → Result X Refusal → Result Y Refusal
part f read = result_map_both f (λ fault. fault) read

-- the tokens of a text, or its first fault
abbrev pub read_tokens : List ℕ → Result (List Token) Refusal
read_tokens t = part (λ scanned. scanned.tokens) (scanning t)

-- the comments of a text, or its first fault
abbrev pub read_comments : List ℕ → Result (List Span) Refusal
read_comments t = part (λ scanned. scanned.comments) (scanning t)

-- the pieces that are the text give this, or no pieces are and this is the first fault
abbrev pub IsReading : {X : Type 0} → (List Piece → X) → List ℕ → Result X Refusal → Type 0
IsReading found_in t (Ok found) = (pieces : List Piece) × Spells pieces t × (found ≡ found_in pieces)
IsReading found_in t (Err fault) = IsFirstFault t fault
