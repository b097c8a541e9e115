use Rattle.std.proofs.Common.{◌≡◌, ℕ, List, rules, subst, sym, ◌∙◌}
use Rattle.std.specs.List.Sorted.{IsStrictlySortedBy}
use Rattle.std.proofs.lemmas.Result.{IfOk-weaker}
use Rattle.c_types.specs.Words.{name_cmp}
use Rattle.c_copies.specs.Names.{has_name, rising, all_file_names}
use Rattle.c_copies.proofs.Rising.{rising-is, rising-members}
use Rattle.c_copies.proofs.program_names.file_names.Goals as goal

pub returns-clause-rising : goal.returns-clause-rising
returns-clause-rising c =
    let e : c.add_top_names.new.set ≡ rising (all_file_names c.args.program.now) = search rules in
    IfOk-weaker c.into_list.result (λ (it : List (List ℕ)). it ≡ c.add_top_names.new.set) (λ (it : List (List ℕ)). IsStrictlySortedBy name_cmp it)
    (λ x h. subst (λ (l : List (List ℕ)). IsStrictlySortedBy name_cmp l) (sym (h ∙ e)) (rising-is (all_file_names c.args.program.now))) c.into_list.ensures

pub returns-clause-members : goal.returns-clause-members
returns-clause-members c =
    let e : c.add_top_names.new.set ≡ rising (all_file_names c.args.program.now) = search rules in
    IfOk-weaker c.into_list.result (λ (it : List (List ℕ)). it ≡ c.add_top_names.new.set)
    (λ (it : List (List ℕ)). (n : List ℕ) → has_name it n ≡ has_name (all_file_names c.args.program.now) n)
    (λ x h. subst (λ (l : List (List ℕ)). (n : List ℕ) → has_name l n ≡ has_name (all_file_names c.args.program.now) n) (sym (h ∙ e))
    (rising-members (all_file_names c.args.program.now))) c.into_list.ensures
