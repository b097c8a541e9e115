-- What reading a text gives is what its pieces are, or its first fault.
use Rattle.std.proofs.Common.{◌⊎◌, inl, inr, arith, Bool, Result, Err, ◌≡◌, ◌+◌, ℕ, true, List, [], ◌∷◌, ◌++◌, length, Ok, refl, ap, sym, ◌∙◌, subst, append_assoc}
use Rattle.std.proofs.lemmas.Bool.Decides.{same_from_decides}
use Rattle.std.proofs.lemmas.List.{append-nil}
use Rattle.c_types.specs.declared.refusal.Refusal.{Refusal}
use Rattle.c_lexer.specs.declared.token.Token.{Token}
use Rattle.c_lexer.specs.declared.token.TokenKind.{TokenKind}
use Rattle.c_lexer.specs.declared.token.TokenKind.TheVariants as k
use Rattle.c_lexer.specs.declared.token.Span.{Span}
use Rattle.c_lexer.specs.declared.token.Scanned.{Scanned}
use Rattle.c_lexer.specs.declared.state.State.{State}
use Rattle.c_lexer.specs.declared.state.State.TheVariants.{Between}
use Rattle.c_lexer.specs.declared.state.Ended.{Ended}
use Rattle.c_lexer.specs.declared.state.Ended.TheVariants as ended
use Rattle.c_lexer.specs.declared.state.Taken.{Taken}
use Rattle.c_lexer.specs.declared.state.Taken.TheVariants.{Go, Fault}
use Rattle.c_lexer.specs.Pieces.{Piece, Space, Word, Number, Char, Text, Sign, Directive, Line, Block, spelled, text, Spells, word_kind, token, span, token_of, comment_of, scanned_of, own_line, stands_first}
use Rattle.c_lexer.specs.IncludeSteps.{is_directive}
use Rattle.c_lexer.specs.PieceSteps.{Good, first_behind_all, all_of}
use Rattle.c_lexer.specs.Faults.{refusal_of, reason_of, reach_of, HasNoPiece, IsFirstFault}
use Rattle.c_lexer.specs.Machine.{Lexed, Read, Faulty, go_on, run, step, finish, add_token, add_comment, add_ended}
use Rattle.c_lexer.specs.Answers.{answer, nothing, scanning, part, read_tokens, read_comments, IsReading}
use Rattle.c_lexer.proofs.PieceLemmas.{ends, ends_is, ends_all, Stands, stands_text, end_is}
use Rattle.c_lexer.proofs.PieceWalks.{first_is, good_walked, walked_good, spells_walked, length_on, all_is}
use Rattle.c_lexer.proofs.Reading.{add_all, scan, kept, gather, reads, lexes}
use Rattle.c_lexer.proofs.Fronts.{StuckAt, reason_at, reach_at}
use Rattle.c_lexer.proofs.IncludeLemmas.{directive_decided}
use Rattle.c_lexer.proofs.Later.{no_fault}
use Rattle.c_lexer.proofs.Whole.{Outcome, whole}

ends_all_is : (ps : List Piece) (at : ℕ) → ends_all ps at ≡ at + length (text ps [])
ends_all_is [] at = omega arith
ends_all_is (p ∷ ps) at =
    let h = ends_is p at in
    let k = ends_all_is ps (ends p at) in
    let l = length_on p (text ps []) in
    omega (arith, h, k, l)

ends_at : (ps : List Piece) → ends_all ps 0 ≡ length (text ps [])
ends_at ps = let h = ends_all_is ps 0 in omega (arith, h)

-- ---- the tokens and the comments of all that is read

abbrev pub only_tokens : List Ended → List Token
only_tokens [] = []
only_tokens (ended.Token found ∷ es) = found ∷ only_tokens es
only_tokens (_ ∷ es) = only_tokens es

abbrev pub only_comments : List Ended → List Span
only_comments [] = []
only_comments (ended.Comment found ∷ es) = found ∷ only_comments es
only_comments (_ ∷ es) = only_comments es

abbrev pub record_of : List Token → List Span → Scanned
record_of ts cs = record { tokens = ts; comments = cs }

abbrev pub both : List Ended → Scanned
both out = record_of (only_tokens out) (only_comments out)

abbrev pub selected : Lexed (List Ended) → Lexed Scanned
selected (Read z) = Read (both z)
selected (Faulty reason place) = Faulty reason place

tokens_end : (out : List Ended) (e : Ended) → only_tokens (out ++ e ∷ []) ≡ only_tokens out ++ only_tokens (e ∷ [])
tokens_end [] e = refl
tokens_end (ended.Token x ∷ out) e = ap (λ (l : List Token). x ∷ l) (tokens_end out e)
tokens_end (ended.Nothing ∷ out) e = tokens_end out e
tokens_end (ended.Dots a b ∷ out) e = tokens_end out e
tokens_end (ended.Comment c ∷ out) e = tokens_end out e

comments_end : (out : List Ended) (e : Ended) → only_comments (out ++ e ∷ []) ≡ only_comments out ++ only_comments (e ∷ [])
comments_end [] e = refl
comments_end (ended.Comment x ∷ out) e = ap (λ (l : List Span). x ∷ l) (comments_end out e)
comments_end (ended.Nothing ∷ out) e = comments_end out e
comments_end (ended.Dots a b ∷ out) e = comments_end out e
comments_end (ended.Token c ∷ out) e = comments_end out e

tokens_keep : (e : Ended) (out : List Ended) → add_token e (only_tokens out) ≡ only_tokens (add_all e out)
tokens_keep ended.Nothing out = refl
tokens_keep (ended.Token x) out = sym (tokens_end out (ended.Token x))
tokens_keep (ended.Dots a b) out = sym (tokens_end (out ++ ended.Token a ∷ []) (ended.Token b) ∙
    ap (λ (l : List Token). l ++ b ∷ []) (tokens_end out (ended.Token a)))
tokens_keep (ended.Comment c) out = sym (tokens_end out (ended.Comment c) ∙ append-nil (only_tokens out))

comments_keep : (e : Ended) (out : List Ended) → add_comment e (only_comments out) ≡ only_comments (add_all e out)
comments_keep ended.Nothing out = refl
comments_keep (ended.Token x) out = sym (comments_end out (ended.Token x) ∙ append-nil (only_comments out))
comments_keep (ended.Dots a b) out = sym (comments_end (out ++ ended.Token a ∷ []) (ended.Token b) ∙
    append-nil (only_comments (out ++ ended.Token a ∷ [])) ∙ comments_end out (ended.Token a) ∙ append-nil (only_comments out))
comments_keep (ended.Comment c) out = sym (comments_end out (ended.Comment c))

pub same_parts : (ts us : List Token) (cs ds : List Span) → ts ≡ us → cs ≡ ds → record_of ts cs ≡ record_of us ds
same_parts ts us cs ds e f = ap (λ (x : List Token). record_of x cs) e ∙ ap (record_of us) f

pub keep : (e : Ended) (out : List Ended) → add_ended e (both out) ≡ both (add_all e out)
keep e out = same_parts _ _ _ _ (tokens_keep e out) (comments_keep e out)

pub select_run : (bs t : List ℕ) (s : State) (at : ℕ) (out : List Ended) → run add_ended t s at (both out) bs ≡ selected (scan t s at out bs)
select_run [] t s at out = go (finish t s at)
  where
    go : (n : Taken) → go_on add_ended n (both out) (λ z (more : Scanned). Read more) ≡ selected (go_on add_all n out (λ z (more : List Ended). Read more))
    go (Go z e) = ap (λ (x : Scanned). Read x) (keep e out)
    go (Fault reason place) = refl
select_run (b ∷ bs) t s at out = go (step t s b at) (λ z more. select_run bs t z (at + 1) more)
  where
    go : (n : Taken) → ((z : State) (more : List Ended) → run add_ended t z (at + 1) (both more) bs ≡ selected (scan t z (at + 1) more bs))
        → go_on add_ended n (both out) (λ z more. run add_ended t z (at + 1) more bs) ≡ selected (go_on add_all n out (λ z more. scan t z (at + 1) more bs))
    go (Go z e) f = ap (λ (x : Scanned). run add_ended t z (at + 1) x bs) (keep e out) ∙ f z (add_all e out)
    go (Fault reason place) f = refl

scan_run : (t : List ℕ) → run add_ended t (Between true) 0 nothing t ≡ selected (scan t (Between true) 0 [] t)
scan_run t = select_run t t (Between true) 0 []

-- what is kept of a piece is what it gives
abbrev Gives : {X : Type 0} → (Piece → ℕ → List X) → (List Ended → List X) → Type 0
Gives f select = (p : Piece) (at : ℕ) (out : List Ended) → select (add_all (kept p at) out) ≡ select out ++ f p at

gathered : {X : Type 0} (f : Piece → ℕ → List X) (select : List Ended → List X) → Gives f select → (ps : List Piece) (at : ℕ) (out : List Ended) →
    select (gather ps at out) ≡ select out ++ all_of f ps at
gathered f select gives [] at out = sym (append-nil (select out))
gathered {X} f select gives (p ∷ ps) at out =
    gathered f select gives ps (ends p at) (add_all (kept p at) out) ∙ ap (λ (x : List X). x ++ all_of f ps (ends p at)) (gives p at out) ∙
    append_assoc (select out) (f p at) (all_of f ps (ends p at))
    ∙ ap (λ (n : ℕ). select out ++ (f p at ++ all_of f ps n)) (ends_is p at)

one_token : (kind : TokenKind) (at : ℕ) (end other : ℕ) (out : List Ended) → end ≡ other →
    only_tokens (out ++ ended.Token (token kind at end) ∷ []) ≡ only_tokens out ++ token kind at other ∷ []
one_token kind at end other out e = tokens_end out (ended.Token (token kind at end)) ∙ ap (λ (n : ℕ). only_tokens out ++ token kind at n ∷ []) e

tokens_give : Gives token_of only_tokens
tokens_give (Space b) at out = sym (append-nil (only_tokens out))
tokens_give (Word w) at out = one_token (word_kind w) at _ _ out (ends_is (Word w) at)
tokens_give (Number w) at out = one_token k.Number at _ _ out (ends_is (Number w) at)
tokens_give (Char c) at out = one_token k.Char at _ _ out (ends_is (Char c) at)
tokens_give (Text cs) at out = one_token k.Text at _ _ out (ends_is (Text cs) at)
tokens_give (Sign m) at out = one_token k.Mark at _ _ out (ends_is (Sign m) at)
tokens_give (Directive w) at out = one_token k.Directive at _ _ out (end_is w (at + 1))
tokens_give (Line w) at out = tokens_end out (kept (Line w) at)
tokens_give (Block w) at out = tokens_end out (kept (Block w) at)

one_comment : (at end other : ℕ) (out : List Ended) → end ≡ other → only_comments (out ++ ended.Comment (span at end) ∷ []) ≡ only_comments out ++
    span at other ∷ []
one_comment at end other out e = comments_end out (ended.Comment (span at end)) ∙ ap (λ (n : ℕ). only_comments out ++ span at n ∷ []) e

comments_give : Gives comment_of only_comments
comments_give (Space b) at out = sym (append-nil (only_comments out))
comments_give (Word w) at out = comments_end out (kept (Word w) at)
comments_give (Number w) at out = comments_end out (kept (Number w) at)
comments_give (Char c) at out = comments_end out (kept (Char c) at)
comments_give (Text cs) at out = comments_end out (kept (Text cs) at)
comments_give (Sign m) at out = comments_end out (kept (Sign m) at)
comments_give (Directive w) at out = comments_end out (kept (Directive w) at)
comments_give (Line w) at out = one_comment at _ _ out (end_is w (at + 1 + 1))
comments_give (Block w) at out = one_comment at _ _ out (ends_is (Block w) at)

both_gathered : (ps : List Piece) → both (gather ps 0 []) ≡ scanned_of ps
both_gathered ps = same_parts _ _ _ _ (gathered token_of only_tokens tokens_give ps 0 [] ∙ all_is token_of ps)
    (gathered comment_of only_comments comments_give ps 0 [] ∙ all_is comment_of ps)

-- ---- pieces read back

spelled_reads : (t : List ℕ) (ps : List Piece) → t ≡ text ps [] → Good true ps [] → scan t (Between true) 0 [] t ≡ Read (gather ps 0 [])
spelled_reads t ps e g = ap (λ (x : List ℕ). scan x (Between true) 0 [] x) e ∙ lexes ps g

pub scan_read_back : (t : List ℕ) (ps : List Piece) → Spells ps t → scanning t ≡ Ok (scanned_of ps)
scan_read_back t ps s = ap (answer t) (scan_run t ∙ ap selected (spelled_reads t ps s.spells (spells_walked ps t s))) ∙
    ap (λ (x : Scanned). Ok x) (both_gathered ps)

-- ---- the first fault

abbrev faulty : ℕ → ℕ → Lexed (List Ended)
faulty reason place = Faulty reason place

abbrev refused : Refusal → Result Scanned Refusal
refused r = Err r

same_bytes : (t : List ℕ) (ps : List Piece) (r : List ℕ) → t ≡ text ps r → Stands t 0 (text ps r)
same_bytes t ps r e = ([], e, refl)

first_fault : (t : List ℕ) (reason place : ℕ) → StuckAt 0 true reason place t → scan t (Between true) 0 [] t ≡ Faulty reason place →
    IsFirstFault t (refusal_of reason t place)
first_fault t reason place s h =
    record {
      pieces = s.pieces;
      byte = s.byte;
      rest = s.rest;
      spells = s.spells;
      good = walked_good s.pieces (s.byte ∷ s.rest) s.good;
      stuck = subst (λ c. HasNoPiece c (s.byte ∷ s.rest)) (first_is s.pieces) (none s.none);
      include = is_directive (own_line s.rest);
      include_is = directive_decided (own_line s.rest);
      refusal =
          ap (λ (n : ℕ). refusal_of n t place) (sym s.reason_is) ∙ ap (refusal_of (reason_at first s.byte s.rest) t)
          (sym s.place_is ∙ ap (λ (n : ℕ). n + reach_at first s.byte s.rest) (ends_at s.pieces))
          ∙ ap (λ c. refusal_of (reason_at c s.byte s.rest) t (length (text s.pieces []) + reach_at c s.byte s.rest)) (first_is s.pieces);
    }
  where
    first : Bool
    first = first_behind_all true s.pieces

    at : ℕ
    at = ends_all s.pieces 0

    stands : Stands t 0 (text s.pieces (s.byte ∷ s.rest))
    stands = same_bytes t s.pieces (s.byte ∷ s.rest) s.spells

    there : scan t (Between first) at (gather s.pieces 0 []) (s.byte ∷ s.rest) ≡ Faulty reason place
    there = sym (reads t true s.pieces (s.byte ∷ s.rest) s.good 0 [] stands) ∙ ap (λ (x : List ℕ). scan t (Between true) 0 [] x) (sym s.spells) ∙ h

    same : (n m : ℕ) → n ≡ 0 → m + n ≡ place → place ≡ m
    same n m h k = omega arith

    none : (reach_at first s.byte s.rest ≡ 0) ⊎ HasNoPiece first (s.byte ∷ s.rest) → HasNoPiece first (s.byte ∷ s.rest)
    none (inr f) = f
    none (inl z) = λ p r e f l.
        no_fault t first p r f l at (gather s.pieces 0 []) (stands_text t s.pieces 0 (spelled p r)
        (same_bytes t s.pieces (spelled p r) (s.spells ∙ ap (text s.pieces) e))) reason
        (ap (scan t (Between first) at (gather s.pieces 0 [])) (sym e) ∙ there ∙ ap (faulty reason) (same _ at z s.place_is))

-- a byte at which no piece begins is where reading stops
stops_there : (first : Bool) (byte place : ℕ) (rest : List ℕ) → HasNoPiece first (byte ∷ rest) → (n : Lexed (List Ended)) →
    Outcome place first n (byte ∷ rest) → n ≡ Faulty (reason_at first byte rest) (place + reach_at first byte rest)
stops_there first byte place rest none (Read z) ([], e, g) = absurd cc
stops_there first byte place rest none (Read z) (p ∷ ps, e, g) = absurd (none p (text ps []) e g.0 g.1)
stops_there first byte place rest none (Faulty reason at) s = go s.pieces s.spells s.good s.place_is s.reason_is
  where
    go : (ps : List Piece) → byte ∷ rest ≡ text ps (s.byte ∷ s.rest) → Good first ps (s.byte ∷ s.rest) →
        ends_all ps place + reach_at (first_behind_all first ps) s.byte s.rest ≡ at → reason_at (first_behind_all first ps) s.byte s.rest ≡ reason
        → faulty reason at ≡ faulty (reason_at first byte rest) (place + reach_at first byte rest)
    go [] e g p r =
        let x : byte ≡ s.byte = cc in
        let y : rest ≡ s.rest = cc in
        ap (λ (i : ℕ). faulty i at) (sym r) ∙ ap (faulty (reason_at first s.byte s.rest)) (sym p)
        ∙ ap (λ (i : ℕ). faulty (reason_at first i s.rest) (place + reach_at first i s.rest)) (sym x) ∙
        ap (λ (v : List ℕ). faulty (reason_at first byte v) (place + reach_at first byte v)) (sym y)
    go (p ∷ ps) e g a r = absurd (none p (text ps (s.byte ∷ s.rest)) e g.0 g.1)

fault_stops : (t : List ℕ) (fault : Refusal) (f : IsFirstFault t fault) →
    scan t (Between true) 0 [] t ≡ Faulty (reason_at (first_behind_all true f.pieces) f.byte f.rest)
    (ends_all f.pieces 0 + reach_at (first_behind_all true f.pieces) f.byte f.rest)
fault_stops t fault f =
    let stands = same_bytes t f.pieces (f.byte ∷ f.rest) f.spells in
    ap (λ (x : List ℕ). scan t (Between true) 0 [] x) f.spells ∙ reads t true f.pieces (f.byte ∷ f.rest)
    (good_walked f.pieces (f.byte ∷ f.rest) f.good) 0 [] stands
    ∙ stops_there (first_behind_all true f.pieces) f.byte (ends_all f.pieces 0) f.rest
    (subst (λ c. HasNoPiece c (f.byte ∷ f.rest)) (sym (first_is f.pieces)) f.stuck) _
    (whole t (ends_all f.pieces 0) (first_behind_all true f.pieces) (f.byte ∷ f.rest) (stands_text t f.pieces 0 (f.byte ∷ f.rest) stands)
    (gather f.pieces 0 []))

-- the first fault is what reading gives
pub scan_fault_back : (t : List ℕ) (fault : Refusal) → IsFirstFault t fault → scanning t ≡ Err fault
scan_fault_back t fault f =
    ap (answer t) (scan_run t ∙ ap selected (fault_stops t fault f))
    ∙ ap (λ (n : ℕ). refused (refusal_of (reason_at (first_behind_all true f.pieces) f.byte f.rest) t
    (n + reach_at (first_behind_all true f.pieces) f.byte f.rest))) (ends_at f.pieces)
    ∙ ap (λ c. refused (refusal_of (reason_at c f.byte f.rest) t (length (text f.pieces []) + reach_at c f.byte f.rest))) (first_is f.pieces)
    ∙ ap (λ x. refused (refusal_of (reason_of (stands_first f.pieces) x f.byte f.rest) t
    (length (text f.pieces []) + reach_of (stands_first f.pieces) x f.byte f.rest)))
    (same_from_decides (is_directive (own_line f.rest)) f.include (directive_decided (own_line f.rest)) f.include_is) ∙ ap refused (sym f.refusal)

-- ---- what reading gives

pub scan_reading : (t : List ℕ) → IsReading scanned_of t (scanning t)
scan_reading t =
    subst (λ (x : Lexed Scanned). IsReading scanned_of t (answer t x)) (sym (scan_run t))
    (go (scan t (Between true) 0 [] t) refl (whole t 0 true t ([], refl, refl) []))
  where
    go : (n : Lexed (List Ended)) → scan t (Between true) 0 [] t ≡ n → Outcome 0 true n t → IsReading scanned_of t (answer t (selected n))
    go (Read z) e h =
        let s : Read z ≡ Read (gather h.0 0 []) = sym e ∙ spelled_reads t h.0 h.1 h.2 in
        let same : z ≡ gather h.0 0 [] = cc in
        (h.0, record { spells = h.1; good = walked_good h.0 [] h.2 }, ap both same ∙ both_gathered h.0)
    go (Faulty reason place) e h = first_fault t reason place h e

-- ---- a part of it

pub tokens_fault_back : (t : List ℕ) (fault : Refusal) → IsFirstFault t fault → read_tokens t ≡ Err fault
tokens_fault_back t fault f = ap (part (λ (s : Scanned). s.tokens)) (scan_fault_back t fault f)

pub comments_fault_back : (t : List ℕ) (fault : Refusal) → IsFirstFault t fault → read_comments t ≡ Err fault
comments_fault_back t fault f = ap (part (λ (s : Scanned). s.comments)) (scan_fault_back t fault f)
