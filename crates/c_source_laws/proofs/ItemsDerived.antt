-- What derives a declaration or a statement is what one of the grammar spells, and it writes the same.
use Rattle.std.proofs.Common.{◌≡◌, ◌+◌, ℕ, Bool, false, List, [], ◌∷◌, ◌++◌, Option, Some, None, refl, ap, ◌∙◌}
use Rattle.c_grammar.specs.declared.class.Class.{Class}
use Rattle.c_grammar.specs.declared.class.Class.TheVariants as c
use Rattle.c_grammar.specs.Expressions.{FitsExpression, FitsAssignment}
use Rattle.c_grammar.specs.Statements.{NoSize, Unsized, Sized, OneValue, ValueList, Declared, Locals, NameLabel, CaseLabel, DefaultLabel, StartLocal, StartValue, Braces, NoItems, LocalItem, StatementItem, Statement, Labelled, Unlabelled, Plain, Compound, Simple, If, IfElse, While, DoWhile, For, Switch, Goto, Break, Continue, Return, is_statement_open, is_plain_open, FitsMore, FitsOptional, FitsSize, FitsInitialiser, FitsValue, FitsDeclarator, FitsLocal, FitsLabel, FitsForStart, FitsBlock, FitsItems, FitsStatement, FitsPlain}
use Rattle.c_grammar.specs.Terms.{Term, At}
use Rattle.c_grammar.specs.Items as s
use Rattle.c_reading_defs.specs.Symbols.{Symbol, Outside, token_behind, numbers_of}
use Rattle.c_reading_defs.specs.DerivedItems.{MayBe, AreMore, AreEach, IsSize, IsValue, IsInitialiser, IsGiven, IsDeclarator, IsDeclaration, IsOptional, IsLabel, IsStart, IsTested, nested, IsBlock, AreItems, IsStatement, IsBody, IsPlain}
use Rattle.c_reading_defs.specs.DerivedItems as r
use Rattle.c_source_laws.proofs.ExpressionSymbols.{assignment_symbols}
use Rattle.c_source_laws.proofs.StatementSymbols.{word_symbols, more_symbols, each_symbols, optional_symbols, size_symbols, initialiser_symbols, value_symbols, declarator_symbols, local_symbols, label_symbols, start_symbols, tested_symbols, block_symbols, items_symbols, statement_symbols, body_symbols, plain_symbols}
use Rattle.c_source_laws.proofs.SourceTerms.{expression_term, assignment_term}
use Rattle.c_source_laws.proofs.SourceItems.{further, each, size_of, initialiser_of, value_of, declarator_of, declaration_of, optional_term, label_of, start_of, labels_of, block_of, items_of, statement_of, body_of, plain_of}
use Rattle.c_source_laws.proofs.TermsDerived.{Given, type_given, expression_given, assignment_given, conditional_given}

pub word_given : (k : Class) (xs : List Symbol) (b : Bool) → MayBe k xs b → word_symbols k b ≡ xs
word_given k xs b r.no = refl
word_given k xs b r.yes = refl

-- ---- lists between commas

module _ {X W : Type 0} (Fits : X → Type 0) (spells : X → List Symbol) (writes : ℕ → X → W) (Is : ℕ → List Symbol → W → Type 0)
    (given : (at : ℕ) (xs : List Symbol) (w : W) → Is at xs w → Given Fits spells writes at xs w) where
  more_given : (at : ℕ) (xs : List Symbol) (ws : List W) → AreMore Is at xs ws → Given (FitsMore Fits) (more_symbols spells) (further spells writes) at xs ws
  more_given at xs ws r.none = record { d = []; fits = tt; symbols = refl; written = refl }
  more_given at us vs (r.more {xs = xs} {ys = ys} {w = w} {ws = ws} a b) =
      let g = given (at + 1) xs w a in
      let h = more_given (token_behind (at + 1) xs) ys ws b in
      record {
        d = g.d ∷ h.d;
        fits = (g.fits, h.fits);
        symbols = λ i. Outside c.Comma ∷ g.symbols i ++ h.symbols i;
        written = λ i. g.written i ∷ (ap (λ l. further spells writes (token_behind (at + 1) l) (h.d)) (g.symbols) ∙ h.written) i;
      }

  -- the first and the others
  pub record EachGiven (at : ℕ) (xs : List Symbol) (ws : List W) : Type 0 where
    pub first : X
    pub others : List X
    pub fits : Fits first
    pub fit : FitsMore Fits others
    pub symbols : each_symbols spells first others ≡ xs
    pub written : each spells writes at first others ≡ ws

  pub each_given : (at : ℕ) (xs : List Symbol) (ws : List W) → AreEach Is at xs ws → EachGiven at xs ws
  each_given at us vs (r.each {xs = xs} {ys = ys} {w = w} {ws = ws} a b) =
      let g = given at xs w a in
      let h = more_given (token_behind at xs) ys ws b in
      record {
        first = g.d;
        others = h.d;
        fits = g.fits;
        fit = h.fits;
        symbols = λ i. g.symbols i ++ h.symbols i;
        written = λ i. g.written i ∷ (ap (λ l. further spells writes (token_behind at l) (h.d)) (g.symbols) ∙ h.written) i;
      }

-- ---- declarations

pub size_given : (at : ℕ) (xs : List Symbol) (z : s.Size) → IsSize at xs z → Given FitsSize size_symbols size_of at xs z
size_given at xs z r.no_size = record { d = NoSize; fits = tt; symbols = refl; written = refl }
size_given at xs z r.unsized = record { d = Unsized; fits = tt; symbols = refl; written = refl }
size_given at us z (r.sized {xs = xs} {f = f} a) =
    let h = conditional_given (at + 1) xs f a in
    record {
      d = Sized (h.d);
      fits = h.fits;
      symbols = λ i. Outside c.OpenIndex ∷ h.symbols i ++ Outside c.CloseIndex ∷ [];
      written = λ i. s.Sized (At (at + 1) (h.written i));
    }

value_given : (at : ℕ) (xs : List Symbol) (t : Term) → IsValue at xs t → Given FitsAssignment assignment_symbols assignment_term at xs t
value_given at xs t (r.value {f = f} a) = let h = assignment_given at xs f a in
    record { d = h.d; fits = h.fits; symbols = h.symbols; written = λ i. At at (h.written i) }

initialiser_given : (at : ℕ) (xs : List Symbol) (v : s.Initialiser) → IsInitialiser at xs v → Given FitsInitialiser initialiser_symbols initialiser_of at xs v
initialiser_given at xs v (r.one {t = t} a) = let h = value_given at xs t a in
    record { d = OneValue (h.d); fits = h.fits; symbols = h.symbols; written = λ i. s.OneValue (h.written i) }
initialiser_given at us v (r.list {xs = xs} {ys = ys} {ts = ts} {trailing = trailing} a b) =
    let h = each_given FitsAssignment assignment_symbols assignment_term IsValue value_given (at + 1) xs ts a in
    let g = word_given c.Comma ys trailing b in
    record {
      d = ValueList (h.first) (h.others) trailing;
      fits = (h.fits, h.fit);
      symbols = λ i. Outside c.OpenBlock ∷ h.symbols i ++ g i ++ Outside c.CloseBlock ∷ [];
      written = λ i. s.ValueList (h.written i);
    }

given_given : (at : ℕ) (xs : List Symbol) (v : s.Initialiser) → IsGiven at xs v → Given FitsValue value_symbols value_of at xs v
given_given at xs v r.not_given = record { d = None; fits = tt; symbols = refl; written = refl }
given_given at us v (r.given {xs = xs} a) =
    let h = initialiser_given (at + 1) xs v a in record { d = Some (h.d); fits = h.fits; symbols = λ i. Outside c.Equals ∷ h.symbols i; written = h.written }

declarator_given : (at : ℕ) (xs : List Symbol) (d : s.Declarator) → IsDeclarator at xs d → Given FitsDeclarator declarator_symbols declarator_of at xs d
declarator_given at us d (r.declared {xs = xs} {ys = ys} {z = z} {i = v} a b) =
    let g = size_given (at + 1) xs z a in
    let h = given_given (token_behind (at + 1) xs) ys v b in
    record {
      d = Declared (g.d) (h.d);
      fits = (g.fits, h.fits);
      symbols = λ i. Outside c.Name ∷ g.symbols i ++ h.symbols i;
      written = λ i. record { name = at; size = g.written i; value = (ap (λ l. value_of (token_behind (at + 1) l) (h.d)) (g.symbols) ∙ h.written) i };
    }

pub local_given : (at : ℕ) (xs : List Symbol) (d : s.Declaration) → IsDeclaration at xs d → Given FitsLocal local_symbols declaration_of at xs d
local_given at us d (r.declares {xs = xs} {ys = ys} {zs = zs} {constant = constant} {ds = ds} a b e) =
    let f = word_given c.Const xs constant a in
    let g = type_given ys b in
    let h = each_given FitsDeclarator declarator_symbols declarator_of IsDeclarator declarator_given (token_behind (token_behind at xs) ys) zs ds e in
    record {
      d = Locals constant (g.d) (h.first) (h.others);
      fits = (h.fits, h.fit);
      symbols = λ i. f i ++ g.symbols i ++ h.symbols i ++ Outside c.Semicolon ∷ [];
      written = λ i. record {
        constant = constant;
        words = numbers_of (token_behind at (f i)) (g.symbols i);
        names = ((λ j. each declarator_symbols declarator_of (token_behind (token_behind at (f j)) (g.symbols j)) (h.first) (h.others)) ∙ h.written) i;
      };
    }

-- ---- statements

optional_given : (at : ℕ) (xs : List Symbol) (o : Option Term) → IsOptional at xs o → Given FitsOptional optional_symbols optional_term at xs o
optional_given at xs o r.nothing = record { d = None; fits = tt; symbols = refl; written = refl }
optional_given at xs o (r.some {f = f} a) = let h = expression_given at xs f a in
    record { d = Some (h.d); fits = h.fits; symbols = h.symbols; written = λ i. Some (At at (h.written i)) }

label_given : (at : ℕ) (xs : List Symbol) (l : s.Label) → IsLabel at xs l → Given FitsLabel label_symbols label_of at xs l
label_given at xs l r.named = record { d = NameLabel; fits = tt; symbols = refl; written = refl }
label_given at us l (r.case {xs = xs} {f = f} a) =
    let h = conditional_given (at + 1) xs f a in
    record {
      d = CaseLabel (h.d);
      fits = h.fits;
      symbols = λ i. Outside c.Case ∷ h.symbols i ++ Outside c.Colon ∷ [];
      written = λ i. s.Case at (token_behind (at + 1) (h.symbols i) + 1) (At (at + 1) (h.written i));
    }
label_given at xs l r.default = record { d = DefaultLabel; fits = tt; symbols = refl; written = refl }

start_given : (at : ℕ) (xs : List Symbol) (x : s.Start) → IsStart at xs x → Given FitsForStart start_symbols start_of at xs x
start_given at xs x (r.names {d = d} a) = let h = local_given at xs d a in
    record { d = StartLocal (h.d); fits = h.fits; symbols = h.symbols; written = λ i. s.StartNames (h.written i) }
start_given at xs x r.no_start = record { d = StartValue None; fits = tt; symbols = refl; written = refl }
start_given at us x (r.started {xs = xs} {f = f} a) =
    let h = expression_given at xs f a in
    record {
      d = StartValue (Some (h.d));
      fits = h.fits;
      symbols = λ i. h.symbols i ++ Outside c.Semicolon ∷ [];
      written = λ i. s.StartValue (At at (h.written i));
    }

tested_given : (k : Class) (at : ℕ) (xs : List Symbol) (t : Term) → IsTested k at xs t →
    Given FitsExpression (tested_symbols k) (λ n e. expression_term (n + 1 + 1) e) at xs t
tested_given k at us t (r.tested {xs = xs} {f = f} a) =
    let h = expression_given (at + 1 + 1) xs f a in
    record {
      d = h.d;
      fits = h.fits;
      symbols = λ i. Outside k ∷ Outside c.Open ∷ h.symbols i ++ Outside c.Close ∷ [];
      written = λ i. At (at + 1 + 1) (h.written i);
    }

abbrev pub BlockGiven : ℕ → List Symbol → s.Body → Type 0
BlockGiven at xs b = Given FitsBlock block_symbols block_of at xs b

abbrev ItemsGiven : ℕ → List Symbol → s.Items → Type 0
ItemsGiven at xs is = Given FitsItems items_symbols items_of at xs is

abbrev item_of : ℕ → Statement → s.Item
item_of at t = s.States (labels_of at t) (statement_of at t)

record StatementGiven (dangling : Bool) (at : ℕ) (xs : List Symbol) (i : s.Item) : Type 0 where
  is : Given FitsStatement statement_symbols item_of at xs i
  opens : is_statement_open (is.d) ≡ dangling

record BodyGiven (dangling : Bool) (at : ℕ) (xs : List Symbol) (b : s.Body) : Type 0 where
  is : Given FitsStatement body_symbols body_of at xs b
  opens : is_statement_open (is.d) ≡ dangling

-- no block
abbrev IsAlone : Plain → Type 0
IsAlone (Compound b) = ⊥
IsAlone _ = Unit {0}

record PlainGiven (dangling : Bool) (at : ℕ) (xs : List Symbol) (x : s.Statement) : Type 0 where
  is : Given FitsPlain plain_symbols plain_of at xs x
  opens : is_plain_open (is.d) ≡ dangling
  alone : IsAlone (is.d)

alone_symbols : (x : Plain) → IsAlone x → body_symbols (Unlabelled x) ≡ nested (plain_symbols x)
alone_symbols (Compound b) h = absurd h
alone_symbols x h = refl

alone_body : (x : Plain) (at : ℕ) → IsAlone x → body_of at (Unlabelled x) ≡ s.Lone at (token_behind at (plain_symbols x))
    (s.States [] (s.From at (token_behind at (plain_symbols x)) (plain_of at x)))
alone_body (Compound b) at h = absurd h
alone_body x at h = refl

-- the labels of a statement, and the rest of it
abbrev labels_in : s.Item → List s.Label
labels_in (s.States ls p) = ls
labels_in _ = []

abbrev plain_in : s.Item → s.Plain
plain_in (s.States ls p) = p
plain_in _ = s.From 0 0 s.Null

labelled_given : {dangling : Bool} (at : ℕ) (xs ys : List Symbol) (l : s.Label) (ls : List s.Label) (p : s.Plain)
    (g : Given FitsLabel label_symbols label_of at xs l)
    → (h : StatementGiven dangling (token_behind at xs) ys (s.States ls p)) →
    s.States (labels_of (token_behind at (label_symbols (g.d))) (h.is.d)) (statement_of (token_behind at (label_symbols (g.d))) (h.is.d)) ≡ s.States ls p
labelled_given at xs ys l ls p g h = ap (λ z. item_of (token_behind at z) (h.is.d)) (g.symbols) ∙ h.is.written

mutual
  pub block_given : (at : ℕ) (xs : List Symbol) (b : s.Body) → IsBlock at xs b → BlockGiven at xs b
  block_given at us b (r.braces {xs = xs} {is = is} a) =
      let h = items_given (at + 1) xs is a in
      record {
        d = Braces (h.d);
        fits = h.fits;
        symbols = λ i. nested (Outside c.OpenBlock ∷ h.symbols i ++ Outside c.CloseBlock ∷ []);
        written = λ i. s.Braces at (token_behind (at + 1) (h.symbols i) + 1) (h.written i);
      }

  items_given : (at : ℕ) (xs : List Symbol) (is : s.Items) → AreItems at xs is → ItemsGiven at xs is
  items_given at xs is r.no_item = record { d = NoItems; fits = tt; symbols = refl; written = refl }
  items_given at us v (r.local {xs = xs} {ys = ys} {d = d} {is = is} a b) =
      let g = local_given at xs d a in
      let h = items_given (token_behind at xs) ys is b in
      record {
        d = LocalItem (g.d) (h.d);
        fits = (g.fits, h.fits);
        symbols = λ i. g.symbols i ++ h.symbols i;
        written = λ i. s.Then (s.Declares at (token_behind at (g.symbols i)) (g.written i))
            ((ap (λ l. items_of (token_behind at l) (h.d)) (g.symbols) ∙ h.written) i);
      }
  items_given at us v (r.statement {dangling = o} {xs = xs} {ys = ys} {i = x} {is = is} a b) =
      let g = (statement_given o at xs x a).is in
      let h = items_given (token_behind at xs) ys is b in
      record {
        d = StatementItem (g.d) (h.d);
        fits = (g.fits, h.fits);
        symbols = λ i. g.symbols i ++ h.symbols i;
        written = λ i. s.Then (g.written i) ((ap (λ l. items_of (token_behind at l) (h.d)) (g.symbols) ∙ h.written) i);
      }

  statement_given : (dangling : Bool) (at : ℕ) (xs : List Symbol) (x : s.Item) → IsStatement dangling at xs x → StatementGiven dangling at xs x
  statement_given o at xs x (r.block_alone {b = b} a) =
      let h = block_given at xs b a in
      record {
        is = record {
          d = Unlabelled (Compound (h.d));
          fits = h.fits;
          symbols = h.symbols;
          written = λ i. s.States [] (s.From at (token_behind at (h.symbols i)) (s.Block (h.written i)));
        };
        opens = refl;
      }
  statement_given o at xs x (r.unlabelled {p = p} a) =
      let k = plain_given o at xs p a in
      let h = k.is in
      record {
        is = record {
          d = Unlabelled (h.d);
          fits = h.fits;
          symbols = h.symbols;
          written = λ i. s.States [] (s.From at (token_behind at (h.symbols i)) (h.written i));
        };
        opens = k.opens;
      }
  statement_given o at us x (r.labelled {xs = xs} {ys = ys} {l = l} {ls = ls} {p = p} a b) =
      let g = label_given at xs l a in
      let k = statement_given o (token_behind at xs) ys (s.States ls p) b in
      let h = k.is in
      let w = labelled_given at xs ys l ls p g k in
      record {
        is = record {
          d = Labelled (g.d) (h.d);
          fits = (g.fits, h.fits);
          symbols = λ i. g.symbols i ++ h.symbols i;
          written = λ i. s.States (g.written i ∷ labels_in (w i)) (plain_in (w i));
        };
        opens = k.opens;
      }

  body_given : (dangling : Bool) (at : ℕ) (xs : List Symbol) (b : s.Body) → IsBody dangling at xs b → BodyGiven dangling at xs b
  body_given o at xs b (r.block_list a) =
      let h = block_given at xs b a in record {
        is = record {
          d = Unlabelled (Compound (h.d));
          fits = h.fits;
          symbols = h.symbols;
          written = h.written;
        };
        opens = refl;
      }
  body_given o at us b (r.unlabelled_list {xs = xs} {p = p} a) =
      let k = plain_given o at xs p a in
      let h = k.is in
      record {
        is = record {
          d = Unlabelled (h.d);
          fits = h.fits;
          symbols = alone_symbols (h.d) (k.alone) ∙ ap nested (h.symbols);
          written = alone_body (h.d) at (k.alone) ∙ (λ i. s.Lone at (token_behind at (h.symbols i))
              (s.States [] (s.From at (token_behind at (h.symbols i)) (h.written i))));
        };
        opens = k.opens;
      }
  body_given o at us x (r.labelled_list {xs = xs} {ys = ys} {l = l} {ls = ls} {p = p} a b) =
      let g = label_given at xs l a in
      let k = statement_given o (token_behind at xs) ys (s.States ls p) b in
      let h = k.is in
      let w = labelled_given at xs ys l ls p g k in
      record {
        is = record {
          d = Labelled (g.d) (h.d);
          fits = (g.fits, h.fits);
          symbols = λ i. nested (g.symbols i ++ h.symbols i);
          written = λ i. s.Lone at (token_behind at (g.symbols i ++ h.symbols i)) (s.States (g.written i ∷ labels_in (w i)) (plain_in (w i)));
        };
        opens = k.opens;
      }

  plain_given : (dangling : Bool) (at : ℕ) (xs : List Symbol) (x : s.Statement) → IsPlain dangling at xs x → PlainGiven dangling at xs x
  plain_given o at xs x r.null = record { is = record { d = Simple None; fits = tt; symbols = refl; written = refl }; opens = refl; alone = tt }
  plain_given o at us x (r.evaluate {xs = xs} {f = f} a) =
      let h = expression_given at xs f a in
      record {
        is = record {
          d = Simple (Some (h.d));
          fits = h.fits;
          symbols = λ i. h.symbols i ++ Outside c.Semicolon ∷ [];
          written = λ i. s.Evaluate (At at (h.written i));
        };
        opens = refl;
        alone = tt;
      }
  plain_given o at us x (r.if_alone {dangling = p} {xs = xs} {ys = ys} {t = t} {b = b} a e) =
      let g = tested_given c.If at xs t a in
      let h = (body_given p (token_behind at xs) ys b e).is in
      record {
        is = record {
          d = If (g.d) (h.d);
          fits = (g.fits, h.fits);
          symbols = λ i. g.symbols i ++ h.symbols i;
          written = λ i. s.If (g.written i) ((ap (λ z. body_of (token_behind at z) (h.d)) (g.symbols) ∙ h.written) i);
        };
        opens = refl;
        alone = tt;
      }
  plain_given o at us x (r.if_else {xs = xs} {ys = ys} {zs = zs} {t = t} {b = b} {d = d} a e f) =
      let g = tested_given c.If at xs t a in
      let k = body_given false (token_behind at xs) ys b e in
      let h = k.is in
      let m = body_given o (token_behind (token_behind at xs) ys + 1) zs d f in
      let n = m.is in
      record {
        is = record {
          d = IfElse (g.d) (h.d) (n.d);
          fits = (g.fits, h.fits, k.opens, n.fits);
          symbols = λ i. g.symbols i ++ h.symbols i ++ Outside c.Else ∷ n.symbols i;
          written = λ i. s.IfElse (g.written i) ((ap (λ z. body_of (token_behind at z) (h.d)) (g.symbols) ∙ h.written) i)
              (((λ j. body_of (token_behind (token_behind at (g.symbols j)) (h.symbols j) + 1) (n.d)) ∙ n.written) i);
        };
        opens = m.opens;
        alone = tt;
      }
  plain_given o at us x (r.while {xs = xs} {ys = ys} {t = t} {b = b} a e) =
      let g = tested_given c.While at xs t a in
      let k = body_given o (token_behind at xs) ys b e in
      let h = k.is in
      record {
        is = record {
          d = While (g.d) (h.d);
          fits = (g.fits, h.fits);
          symbols = λ i. g.symbols i ++ h.symbols i;
          written = λ i. s.While (g.written i) ((ap (λ z. body_of (token_behind at z) (h.d)) (g.symbols) ∙ h.written) i);
        };
        opens = k.opens;
        alone = tt;
      }
  plain_given o at us x (r.do_while {dangling = p} {xs = xs} {ys = ys} {t = t} {b = b} e a) =
      let h = (body_given p (at + 1) xs b e).is in
      let g = tested_given c.While (token_behind (at + 1) xs) ys t a in
      record {
        is = record {
          d = DoWhile (h.d) (g.d);
          fits = (h.fits, g.fits);
          symbols = λ i. Outside c.Do ∷ h.symbols i ++ g.symbols i ++ Outside c.Semicolon ∷ [];
          written = λ i. s.DoWhile (h.written i) ((ap (λ z. expression_term (token_behind (at + 1) z + 1 + 1) (g.d)) (h.symbols) ∙ g.written) i);
        };
        opens = refl;
        alone = tt;
      }
  plain_given o at us x (r.for {xs = xs} {ys = ys} {zs = zs} {ws = ws} {i = v} {t = t} {u = u} {b = b} a e f q) =
      let y = token_behind (at + 1 + 1) xs in
      let g = start_given (at + 1 + 1) xs v a in
      let h = optional_given y ys t e in
      let k = optional_given (token_behind y ys + 1) zs u f in
      let m = body_given o (token_behind (token_behind y ys + 1) zs + 1) ws b q in
      let n = m.is in
      record {
        is = record {
          d = For (g.d) (h.d) (k.d) (n.d);
          fits = (g.fits, h.fits, k.fits, n.fits);
          symbols = λ i. Outside c.For ∷ Outside c.Open ∷ g.symbols i ++ h.symbols i ++ Outside c.Semicolon ∷ k.symbols i ++ Outside c.Close ∷ n.symbols i;
          written = λ i. s.For (g.written i) ((ap (λ z. optional_term (token_behind (at + 1 + 1) z) (h.d)) (g.symbols) ∙ h.written) i)
              (((λ j. optional_term (token_behind (token_behind (at + 1 + 1) (g.symbols j)) (h.symbols j) + 1) (k.d)) ∙ k.written) i)
              (((λ j. body_of (token_behind (token_behind (token_behind (at + 1 + 1) (g.symbols j)) (h.symbols j) + 1) (k.symbols j) + 1) (n.d)) ∙
              n.written) i);
        };
        opens = m.opens;
        alone = tt;
      }
  plain_given o at us x (r.switch {xs = xs} {ys = ys} {t = t} {b = b} a e) =
      let g = tested_given c.Switch at xs t a in
      let k = body_given o (token_behind at xs) ys b e in
      let h = k.is in
      record {
        is = record {
          d = Switch (g.d) (h.d);
          fits = (g.fits, h.fits);
          symbols = λ i. g.symbols i ++ h.symbols i;
          written = λ i. s.Switch (g.written i) ((ap (λ z. body_of (token_behind at z) (h.d)) (g.symbols) ∙ h.written) i);
        };
        opens = k.opens;
        alone = tt;
      }
  plain_given o at xs x r.goto = record { is = record { d = Goto; fits = tt; symbols = refl; written = refl }; opens = refl; alone = tt }
  plain_given o at xs x r.break = record { is = record { d = Break; fits = tt; symbols = refl; written = refl }; opens = refl; alone = tt }
  plain_given o at xs x r.continue = record { is = record { d = Continue; fits = tt; symbols = refl; written = refl }; opens = refl; alone = tt }
  plain_given o at us x (r.return {xs = xs} {t = t} a) =
      let h = optional_given (at + 1) xs t a in
      record {
        is = record {
          d = Return (h.d);
          fits = h.fits;
          symbols = λ i. Outside c.Return ∷ h.symbols i ++ Outside c.Semicolon ∷ [];
          written = λ i. s.Return (h.written i);
        };
        opens = refl;
        alone = tt;
      }
