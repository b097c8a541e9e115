use Rattle.std.proofs.Common.{◌≡◌, ◌<◌, ℕ, List, Option, true, false, Some, IfOk, IsSomeAnd, length, ap, ◌∙◌, sym, subst}
use Rattle.std.specs.FinMap as map
use Rattle.rg_ports.specs.Calls.{Fails}
use Rattle.rg_ports.specs.FirstAt.{bytes_of}
use Rattle.rg_ports.specs.MemoryPorts.{MemoryShelf}
use Rattle.rg_ports.proofs.FilesLemmas.{get-files}
use Rattle.rg_ports.proofs.mem_shelf.MemShelf.answer.Goals as goal

-- what the list of files says is what the shelf holds
found : (c : goal.After-copied_bytes) → bytes_of c.args.name.now c.as_slice.result.now ≡ map.get c.args.self.now.files c.args.name.now
found c =
    ap (bytes_of c.args.name.now) c.as_slice.ensures.value
    ∙ sym (get-files c.self.inside.files c.args.name.now)
    ∙ ap (λ (s : MemoryShelf). map.get s.files c.args.name.now) c.self.view_is

-- the call does not fail
calm : (c : goal.After-copied_bytes) → Fails c.args.self.now.calls → ⊥
calm c fails =
    let was : false ≡ true = c.if-fails.ensures.answer.1 (subst (λ (s : MemoryShelf). Fails s.calls) (sym c.self.view_is) fails) in
    cc

pub returns-clause-absent : goal.returns-clause-absent
returns-clause-absent c =
    (λ is. (calm c, sym (found c) ∙ c.copied_bytes.ensures.absent.0 is), λ h. c.copied_bytes.ensures.absent.1 (found c ∙ h.1))

pub returns-clause-too_long : goal.returns-clause-too_long
returns-clause-too_long c =
    let P : Option (List ℕ) → Type 0 = λ bytes. IsSomeAnd bytes (λ bytes. c.args.most < length bytes) in
    (λ is. (calm c, subst P (found c) (c.copied_bytes.ensures.too_long.0 is)), λ h. c.copied_bytes.ensures.too_long.1 (subst P (sym (found c)) h.1))

pub returns-clause-ok : goal.returns-clause-ok
returns-clause-ok c = subst (λ found. IfOk c.copied_bytes.result (λ bytes. found ≡ Some bytes)) (found c) c.copied_bytes.ensures.ok
