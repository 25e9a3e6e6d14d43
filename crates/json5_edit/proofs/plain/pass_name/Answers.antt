use Rattle.std.proofs.lemmas.Result.{err_from_is_err_and}
use Rattle.json5_edit.proofs.Measured.{no_name, name_before, element_first, key_first, key_left}
use Rattle.json5_edit.proofs.Refused.{err_then}
use Rattle.json5_walk.proofs.Entries.{on_then}
use Rattle.json5_edit.proofs.plain.pass_name.Goals as goal

pub returns-in-Array-clause-passed : goal.returns-in-Array-clause-passed
returns-in-Array-clause-passed c = no_name _

pub returns-in-Array-clause-named : goal.returns-in-Array-clause-named
returns-in-Array-clause-named c = λ u t r parts h. element_first (rw c.in-Array.is at parts) h

pub returns-in_ok-key-in-Object-clause-passed : goal.returns-in_ok-key-in-Object-clause-passed
returns-in_ok-key-in-Object-clause-passed c = let (s, v, e, took, key, is) = c.in_ok-key-in-Object.ensures.taken in on_then c.pass_colon.result c.pass_colon.ensures.passed (λ k. name_before s v e took key k)

pub returns-in_ok-key-in-Object-clause-named : goal.returns-in_ok-key-in-Object-clause-named
returns-in_ok-key-in-Object-clause-named c = let (s, v, e, took, key, is) = c.in_ok-key-in-Object.ensures.taken in on_then c.pass_colon.result c.pass_colon.ensures.parted (λ k u t r parts h. k t r (key_left _ _ s v e (rw c.in-Object.is at parts) took.split key h))

pub returns-in_ok-key-in-Object-clause-solid : goal.returns-in_ok-key-in-Object-clause-solid
returns-in_ok-key-in-Object-clause-solid c = on_then c.pass_colon.result c.pass_colon.ensures.solid (λ k h. k)

pub returns-in_err-key-in-Object-clause-refused : goal.returns-in_err-key-in-Object-clause-refused
returns-in_err-key-in-Object-clause-refused c =
    let (y, is, from) = err_from_is_err_and c.from_residual.result c.from_residual.ensures.1 in
    rw (is, from) (λ u t r parts solid h. let (k, v, z, e, split, key) = key_first (rw c.in-Object.is at parts) solid h in c.in_err-key-in-Object.ensures.complete k v z e split key)

pub returns-in_ok-key-in-Object-clause-refused : goal.returns-in_ok-key-in-Object-clause-refused
returns-in_ok-key-in-Object-clause-refused c = let (s, v, e, took, key, is) = c.in_ok-key-in-Object.ensures.taken in err_then c.pass_colon.result (λ e2 k u t r parts solid h. k t r (key_left _ _ s v e (rw c.in-Object.is at parts) took.split key h)) c.pass_colon.ensures.refused
