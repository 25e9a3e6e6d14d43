use Rattle.json5_edit.proofs.MembersBefore.{puts_within}
use Rattle.json5_edit.proofs.inserting.put_before.Goals as goal

pub with_member_before-requires : goal.with_member_before-requires
with_member_before-requires c = let (small, member, value, plain) = c.requires in (small, member, value, λ k p. p)

pub returns-in-Err-Failed : goal.returns-in-Err-Failed
returns-in-Err-Failed c = puts_within c.args.before c.args.key.now c.args.value.now c.args.room c.args.collection.now.document.now c.args.old.now c.with_member_before.result c.requires.3 c.with_member_before.ensures
