use Rattle.std.proofs.Common.{◌≡◌, sym, subst, arith}
use Rattle.std.specs.List.Sorted.{IsStrictlySortedBy}
use Rattle.c_types.specs.Words.{name_cmp}
use Rattle.c_copies.specs.Names.{with_name}
use Rattle.c_copies.proofs.Rising.{with_name-rising}
use Rattle.c_copies.proofs.rising_names.RisingNames.add.Goals as goal

pub invariant_of-self-in-Err : goal.invariant_of-self-in-Err
invariant_of-self-in-Err c =
    let ks = c.self.inside.names.items in
    let is : c.insert.new.self.items ≡ with_name ks c.args.name.now =
    cc (
      c.in_ok-insert-in-Err.ensures.items,
      c.in-Err.ensures.new,
      c.deref.ensures.value,
      c.key_of.ensures,
      c.as_bytes.ensures.value,
      c.new.ensures,
      c.from_string-name.ensures,
      c.in_ok-from_str-in-Err.ensures.ok,
    ) in
    (subst (IsStrictlySortedBy name_cmp) (sym is) (with_name-rising ks c.args.name.now c.self.invariant.0), omega (arith, c.in_ok-insert-in-Err.ensures.len))
