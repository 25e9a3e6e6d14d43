use Rattle.std.proofs.Common.{refl}
use Rattle.std.proofs.lemmas.Result.{err_from_is_err_and}
use Rattle.json5_edit.proofs.MembersBefore.{first_member_there, member_spares, never_closed, no_member_there, object_opened, object_value, value_spares}
use Rattle.json5_edit.proofs.inserting.first_start.Goals as goal

pub returns-then-not-open-clause-refused : goal.returns-then-not-open-clause-refused
returns-then-not-open-clause-refused c = absurd (never_closed c.args.room refl c.new-walk.ensures c.requires (c.if-not-open.ensures.refused refl))

pub returns-in_default-clause-found : goal.returns-in_default-clause-found
returns-in_default-clause-found c = (refl, no_member_there (object_opened c.args.room refl c.utf8.old c.new-walk.ensures (c.if-not-open.ensures.taken refl)) (rw c.in_default.is at c.in_ok-key.ensures.begun) (object_value c.args.room c.args.old.now c.requires))

pub returns-in_err-key-clause-refused : goal.returns-in_err-key-clause-refused
returns-in_err-key-clause-refused c =
    let (y, is, from) = err_from_is_err_and c.from_residual.result c.from_residual.ensures.1 in
    rw (is, from) (member_spares (object_opened c.args.room refl c.utf8.old c.new-walk.ensures (c.if-not-open.ensures.taken refl)) (object_value c.args.room c.args.old.now c.requires) c.in_err-key.ensures.refused)

pub returns-in_err-skip-clause-refused : goal.returns-in_err-skip-clause-refused
returns-in_err-skip-clause-refused c =
    let (y, is, from) = err_from_is_err_and c.from_residual-in_err-skip.result c.from_residual-in_err-skip.ensures.1 in
    rw (is, from) (value_spares (object_opened c.args.room refl c.utf8.old c.new-walk.ensures (c.if-not-open.ensures.taken refl)) (rw c.in-Some.is at c.in_ok-key.ensures.begun) (object_value c.args.room c.args.old.now c.requires) c.in_err-skip.ensures.refused)

pub returns-clause-found : goal.returns-clause-found
returns-clause-found c = first_member_there c.in-Some.key (object_opened c.args.room refl c.utf8.old c.new-walk.ensures (c.if-not-open.ensures.taken refl)) (rw c.in-Some.is at c.in_ok-key.ensures.begun) (object_value c.args.room c.args.old.now c.requires) c.requires.4 c.in_ok-skip.ensures.passed
