use Rattle.std.proofs.Common.{ℕ, List, ◌≡◌, true, false, codes, is_some, FitsSigned, to_z, of_z, bytes_eq, ap, sym, ◌∙◌, subst}
use Rattle.std.specs.Int.{w128}
use Rattle.std.proofs.lemmas.Int.{to_z-of_z}
use Rattle.std.proofs.lemmas.Result.{IfOk-weaker}
use Rattle.std.proofs.lemmas.Slice.Eq.{bytes_eq-Decides}
use Rattle.c_types.specs.declared.kinds.IntKind.TheVariants.{UChar}
use Rattle.c_types.specs.declared.trap.Trap.{Trap}
use Rattle.c_types.specs.Numbers.{residue}
use Rattle.jump_meaning.specs.Code.{FunctionTree}
use Rattle.jump_meaning.specs.Known.{next as the_next, printed_bytes, write_byte, write_bytes, call_declared, call_without_body}
use Rattle.jump_meaning.specs.Step.{HasEnded}
use Rattle.jump_meaning.specs.Values.{Value}
use Rattle.step_memory.specs.Stores.{names_of}
use Rattle.step_memory.specs.Values.{values_of}
use Rattle.step_interp.specs.declared.machine.Next.TheVariants.{Reads, Ends, Traps}
use Rattle.step_interp.specs.Moves.{Reaches}
use Rattle.step_interp.specs.Calls.{QuietlyReaches, Settles, SettlesQuietly, settled}
use Rattle.step_interp.proofs.SettledLemmas.{at_once, reaches_weaker, quietly_weaker, reads}
use Rattle.step_interp.proofs.NameLemmas.{is_getchar, is_putchar, is_printf, is_exit, is_abort, is_none}
use Rattle.step_interp.proofs.known.call_without_body.Goals as goal

pub returns-then-eq-clause-ok : goal.returns-then-eq-clause-ok
returns-then-eq-clause-ok c f e w h =
    let old = c.args.machine.now in
    let m = c.args.name.now in
    let vs = values_of (names_of old.store) c.args.arguments in
    let t : bytes_eq m (codes "getchar") ≡ true = ap (λ n. bytes_eq n (codes "getchar")) (sym c.as_str-name.ensures) ∙ sym c.if-eq.ensures in
    at_once (m ≡ codes "getchar") (settled old (call_without_body m f vs w)) w Reads old
    (subst (λ o. Reaches (m ≡ codes "getchar") (settled old o) w Reads old) (sym (is_getchar m f vs w t))
    (reads (m ≡ codes "getchar") old w ((bytes_eq-Decides m (codes "getchar")).0 t) h))

pub returns-then-eq-2-clause-ok : goal.returns-then-eq-2-clause-ok
returns-then-eq-2-clause-ok c =
    let old = c.args.machine.now in
    let m = c.args.name.now in
    let vs = values_of (names_of old.store) c.args.arguments in
    let same = λ (n : List ℕ). ap (λ k. bytes_eq k n) (sym c.as_str-name.ensures) in
    let t1 : bytes_eq m (codes "getchar") ≡ false = same (codes "getchar") ∙ sym c.if-eq.ensures in
    let t2 : bytes_eq m (codes "putchar") ≡ true = same (codes "putchar") ∙ sym c.if-eq-2.ensures in
    IfOk-weaker c.put_char.result (λ next. Settles ⊥ (write_byte (residue UChar (the_next vs))) old next c.put_char.new.machine)
    (λ next. (f : FunctionTree) → c.args.gives ≡ is_some f.result → SettlesQuietly (m ≡ codes "getchar") (call_without_body m f vs) old next
    c.put_char.new.machine)
    (λ next k f e w h. at_once (m ≡ codes "getchar") (settled old (call_without_body m f vs w)) w next c.put_char.new.machine
    (subst (λ o. Reaches (m ≡ codes "getchar") (settled old o) w next c.put_char.new.machine) (sym (is_putchar m f vs w t1 t2))
    (reaches_weaker ⊥ (m ≡ codes "getchar") (settled old (write_byte (residue UChar (the_next vs)) w)) w next c.put_char.new.machine (λ b. absurd b) (k w h))))
    c.put_char.ensures.ok

pub returns-then-eq-3-clause-ok : goal.returns-then-eq-3-clause-ok
returns-then-eq-3-clause-ok c =
    let old = c.args.machine.now in
    let m = c.args.name.now in
    let vs = values_of (names_of old.store) c.args.arguments in
    let same = λ (n : List ℕ). ap (λ k. bytes_eq k n) (sym c.as_str-name.ensures) in
    let t1 : bytes_eq m (codes "getchar") ≡ false = same (codes "getchar") ∙ sym c.if-eq.ensures in
    let t2 : bytes_eq m (codes "putchar") ≡ false = same (codes "putchar") ∙ sym c.if-eq-2.ensures in
    let t3 : bytes_eq m (codes "printf") ≡ true = same (codes "printf") ∙ sym c.if-eq-3.ensures in
    IfOk-weaker c.print.result (λ next. Settles ⊥ (write_bytes (printed_bytes vs)) old next c.print.new.machine)
    (λ next. (f : FunctionTree) → c.args.gives ≡ is_some f.result → SettlesQuietly (m ≡ codes "getchar") (call_without_body m f vs) old next
    c.print.new.machine)
    (λ next k f e w h. at_once (m ≡ codes "getchar") (settled old (call_without_body m f vs w)) w next c.print.new.machine
    (subst (λ o. Reaches (m ≡ codes "getchar") (settled old o) w next c.print.new.machine) (sym (is_printf m f vs w t1 t2 t3))
    (reaches_weaker ⊥ (m ≡ codes "getchar") (settled old (write_bytes (printed_bytes vs) w)) w next c.print.new.machine (λ b. absurd b) (k w h))))
    c.print.ensures.ok

pub returns-then-eq-4-clause-ok : goal.returns-then-eq-4-clause-ok
returns-then-eq-4-clause-ok c f e w h =
    let old = c.args.machine.now in
    let m = c.args.name.now in
    let vs = values_of (names_of old.store) c.args.arguments in
    let same = λ (n : List ℕ). ap (λ k. bytes_eq k n) (sym c.as_str-name.ensures) in
    let t1 : bytes_eq m (codes "getchar") ≡ false = same (codes "getchar") ∙ sym c.if-eq.ensures in
    let t2 : bytes_eq m (codes "putchar") ≡ false = same (codes "putchar") ∙ sym c.if-eq-2.ensures in
    let t3 : bytes_eq m (codes "printf") ≡ false = same (codes "printf") ∙ sym c.if-eq-3.ensures in
    let t4 : bytes_eq m (codes "exit") ≡ true = same (codes "exit") ∙ sym c.if-eq-4.ensures in
    let z = to_z w128 (of_z w128 c.first_int.result) in
    let fits : z ≡ c.first_int.result = to_z-of_z w128 c.first_int.result (record { sfits = c.first_int.type_inv }) in
    at_once (m ≡ codes "getchar") (settled old (call_without_body m f vs w)) w (Ends z) old (
      ap (settled old) (is_exit m f vs w t1 t2 t3 t4) ∙ ap (λ n. HasEnded n w.events) (sym (fits ∙ c.first_int.ensures (names_of old.store))),
      subst (FitsSigned w128) (sym fits) (record { sfits = c.first_int.type_inv }),
    )

pub returns-then-eq-5-clause-ok : goal.returns-then-eq-5-clause-ok
returns-then-eq-5-clause-ok c f e w h =
    let old = c.args.machine.now in
    let m = c.args.name.now in
    let vs = values_of (names_of old.store) c.args.arguments in
    let same = λ (n : List ℕ). ap (λ k. bytes_eq k n) (sym c.as_str-name.ensures) in
    let t1 : bytes_eq m (codes "getchar") ≡ false = same (codes "getchar") ∙ sym c.if-eq.ensures in
    let t2 : bytes_eq m (codes "putchar") ≡ false = same (codes "putchar") ∙ sym c.if-eq-2.ensures in
    let t3 : bytes_eq m (codes "printf") ≡ false = same (codes "printf") ∙ sym c.if-eq-3.ensures in
    let t4 : bytes_eq m (codes "exit") ≡ false = same (codes "exit") ∙ sym c.if-eq-4.ensures in
    let t5 : bytes_eq m (codes "abort") ≡ true = same (codes "abort") ∙ sym c.if-eq-5.ensures in
    at_once (m ≡ codes "getchar") (settled old (call_without_body m f vs w)) w (Traps Trap.Abort) old (ap (settled old) (is_abort m f vs w t1 t2 t3 t4 t5))

pub returns-clause-ok : goal.returns-clause-ok
returns-clause-ok c =
    let old = c.args.machine.now in
    let m = c.args.name.now in
    let vs = values_of (names_of old.store) c.args.arguments in
    let same = λ (n : List ℕ). ap (λ k. bytes_eq k n) (sym c.as_str-name.ensures) in
    let t1 : bytes_eq m (codes "getchar") ≡ false = same (codes "getchar") ∙ sym c.if-eq.ensures in
    let t2 : bytes_eq m (codes "putchar") ≡ false = same (codes "putchar") ∙ sym c.if-eq-2.ensures in
    let t3 : bytes_eq m (codes "printf") ≡ false = same (codes "printf") ∙ sym c.if-eq-3.ensures in
    let t4 : bytes_eq m (codes "exit") ≡ false = same (codes "exit") ∙ sym c.if-eq-4.ensures in
    let t5 : bytes_eq m (codes "abort") ≡ false = same (codes "abort") ∙ sym c.if-eq-5.ensures in
    IfOk-weaker c.without_answer.result (λ next. (n : List ℕ) (f : FunctionTree) (us : List Value) → c.args.gives ≡ is_some f.result →
    SettlesQuietly ⊥ (call_declared n f us) old next c.without_answer.new.machine)
    (λ next. (f : FunctionTree) → c.args.gives ≡ is_some f.result → SettlesQuietly (m ≡ codes "getchar") (call_without_body m f vs) old next
    c.without_answer.new.machine)
    (λ next k f e w h. quietly_weaker ⊥ (m ≡ codes "getchar") (settled old (call_without_body m f vs w)) w next c.without_answer.new.machine (λ b. absurd b)
    (subst (λ o. QuietlyReaches ⊥ (settled old o) w next c.without_answer.new.machine) (sym (is_none m f vs w t1 t2 t3 t4 t5)) (k m f vs e w h)))
    c.without_answer.ensures.ok
