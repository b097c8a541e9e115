use Rattle.std.proofs.Common.{◌≡◌, List, ap, ◌∙◌, sym, set, subst, ◌++◌, ◌∷◌, []}
use Rattle.std.specs.FinMap.{from_entries}
use Rattle.c_types.specs.Words.{name_cmp}
use Rattle.rg_ports.specs.FirstAt.{File, bytes_of, FirstAt}
use Rattle.rg_ports.proofs.FilesLemmas.{from_entries-set, from_entries-push}
use Rattle.rg_ports.proofs.files.put_bytes.Goals as goal

pub returns-in-Some-clause-ok : goal.returns-in-Some-clause-ok
returns-in-Some-clause-ok c =
    let at : FirstAt c.args.files.now c.args.name.now c.in-Some.place =
    subst (λ (files : List File). FirstAt files c.args.name.now c.in-Some.place) c.as_slice.ensures.value c.in-Some.ensures in
    let file : c.at_mut-file.result.now ≡ (c.args.name.now, at.bytes) = cc (at.there, c.at_mut-file.ensures.value) in
    let named : c.at_mut-file.result.now.0 ≡ c.args.name.now = ap (λ (e : File). e.0) file in
    ap (λ (e : File). from_entries {R = name_cmp} (set c.args.files.now c.in-Some.place e)) (cc (named, c.in_ok-copy.ensures))
    ∙ from_entries-set c.args.files.now c.args.name.now c.in-Some.place at c.args.bytes.now

pub returns-in_ok-push-in-None-clause-ok : goal.returns-in_ok-push-in-None-clause-ok
returns-in_ok-push-in-None-clause-ok c =
    let named : c.from_string-name.result ≡ c.args.name.now = c.from_string-name.ensures ∙ c.in_ok-from_str-in-None.ensures.ok in
    ap (from_entries {R = name_cmp}) (c.in_ok-push-in-None.ensures.ok ∙ ap (λ (e : File). c.args.files.now ++ e ∷ []) (cc (named, c.in_ok-copy.ensures)))
    ∙ from_entries-push c.args.files.now c.args.name.now c.args.bytes.now
    (ap (bytes_of c.args.name.now) (sym c.as_slice.ensures.value) ∙ c.in-None.ensures)
