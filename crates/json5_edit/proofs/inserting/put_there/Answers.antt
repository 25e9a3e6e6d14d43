use Rattle.std.proofs.Common.{subst, sym}
use Rattle.json5_edit.specs.Spots.{PutsThere}
use Rattle.json5_edit.proofs.MembersBefore.{first_of_none, puts_there}
use Rattle.json5_edit.proofs.inserting.put_there.Goals as goal

pub put_before-requires : goal.put_before-requires
put_before-requires c = let (small, start, end, value, plain) = c.requires in (small, rw c.in-Some.is at start, value, plain)

pub inserted-requires : goal.inserted-requires
inserted-requires c = let (small, start, end, value, plain) = c.requires in (end, value, plain)

pub returns-in-Some : goal.returns-in-Some
returns-in-Some c = puts_there c.args.before c.args.key.now c.args.value.now c.args.room c.args.collection.now c.args.old.now c.put_before.result c.put_before.ensures

pub returns-in-None : goal.returns-in-None
returns-in-None c =
    let (first, none) = rw c.in-None.is at c.requires.1 in
    subst (λ b. PutsThere b c.args.key.now c.args.value.now c.args.room c.args.collection.now c.args.old.now c.inserted.result) (sym first)
    (first_of_none c.args.room c.args.collection.now c.args.old.now c.args.key.now c.args.value.now c.inserted.result none c.inserted.ensures)
