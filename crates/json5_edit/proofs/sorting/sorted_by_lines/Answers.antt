use Rattle.std.proofs.Common.{string_bytes, subst}
use Rattle.json5_edit.specs.Sorted.{ListsMembers}
use Rattle.json5_edit.proofs.MembersSorted.{members_sorted}
use Rattle.json5_edit.proofs.sorting.sorted_by_lines.Goals as goal

pub returns : goal.returns
returns c =
    let fs = c.put_in_order.new.entries.items in
    let listed = subst (λ z. ListsMembers z fs) c.as_str.ensures.value (subst (ListsMembers c.as_str.result.now) c.as_slice-4.ensures.value c.in_ok-check_members.ensures) in
    members_sorted c.args.old.now (string_bytes c.in_ok-new.new) c.in_ok-members.members.items fs c.in_ok-members.ensures c.in_ok-put_in_order.ensures listed
