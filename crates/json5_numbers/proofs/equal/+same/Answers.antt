use Rattle.std.proofs.Common.{rules, sym}
use Rattle.json5_types.specs.declared.value.Value.{the_lemmas}
use Rattle.json5_types.proofs.ValuesCompared.{bytes_or_characters, view-Object}
use Rattle.json5_numbers.proofs.SameLengths.{other_length}
use Rattle.json5_numbers.proofs.equal.+same.Goals as goal

pub same-returns-in-String-String : goal.same-returns-in-String-String
same-returns-in-String-String t c = search (rules, the_lemmas, bytes_or_characters)

pub same-returns-in-Object-Object : goal.same-returns-in-Object-Object
same-returns-in-Object-Object t c =
    let w = c.in-Object-Object in
    rw (w.is-0, w.is-1, view-Object w.members, view-Object w.others, ← c.deref-in-Object-Object.ensures.value, ← c.deref-in-Object-Object-2.ensures.value) c.same_members.ensures

pub same_items-returns-then-items-others : goal.same_items-returns-then-items-others
same_items-returns-then-items-others t c = sym (other_length c.args.items.now c.args.others.now c.if-items-others.true)
