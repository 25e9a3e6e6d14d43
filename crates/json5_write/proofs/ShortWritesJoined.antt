-- Laws of pieces that are written by a short way, and of results that are returned as they are.
use Rattle.std.proofs.Common.{◌≡◌, true, false, Result, Ok, Err, sym, subst}
use Rattle.std.specs.Prelude.{⊤}
use Rattle.std.specs.Result.{is_err, IsErrAnd}
use Rattle.json5_types.specs.declared.error.Error.{Error}
use Rattle.json5_types.specs.Errors.{code, failed_write}
use Rattle.json5_grammar.specs.declared.error_code.ErrorCode.TheVariants as codes
use Rattle.json5_write.specs.Out.{Out, ◌then◌}
use Rattle.json5_write.specs.Writes.{SerializerState, Wrote, RefusesBy, RefusesWrite, Writes}
use Rattle.json5_write.specs.ShortWrites.{Puts, refusal_by, MakesError}
use Rattle.json5_write.specs.declared.refusal.Refused.{Refused}
use Rattle.json5_write.specs.declared.refusal.Refused.TheVariants as refused
use Rattle.json5_write.proofs.OutputsJoined.{refused_so, RefusesBy-before, Refuses-before, Reaches, Reaches-none, Reaches-refused}

-- the error of a refusal
pub refused_as : (w : Out) (o n : SerializerState) (r : Refused) (e : Error) → MakesError r e → RefusesBy w o (refusal_by r) n → RefusesWrite w o e n
refused_as w o n refused.Before e h p = refused_so w o n e (code codes.Failed) h.kind h.place p
refused_as w o n refused.ByWriter e h p = refused_so w o n e failed_write h.kind h.place p
refused_as w o n refused.TooDeep e h p = refused_so w o n e (code codes.TooDeep) h.kind h.place p
refused_as w o n refused.Key e h p = refused_so w o n e (code codes.InvalidKey) h.kind h.place p

-- what a `?` makes of it: of the whole, of a first part, and after what was written
pub Puts-handed : {A : Type 0} (w : Out) (o n : SerializerState) (r : Refused) (x : Result A Error) → IsErrAnd x (MakesError r) → RefusesBy w o (refusal_by r) n → Writes w o x n
Puts-handed w o n r (Ok y) h p = absurd h
Puts-handed w o n r (Err e) h p = refused_as w o n r e h p

pub Puts-exit : {A : Type 0} (a b : Out) (o n : SerializerState) (r : Refused) (x : Result A Error) → IsErrAnd x (MakesError r) → RefusesBy a o (refusal_by r) n → Writes (a then b) o x n
Puts-exit a b o n r (Ok y) h p = absurd h
Puts-exit a b o n r (Err e) h p = Refuses-before a b o n e (refused_as a o n r e h p)

pub Reaches-put : {A : Type 0} (all a rest : Out) (o m n : SerializerState) (r : Refused) (x : Result A Error) → Reaches all o m (a then rest) → IsErrAnd x (MakesError r) → RefusesBy a m (refusal_by r) n → Writes all o x n
Reaches-put all a rest o m n r (Ok y) h is p = absurd is
Reaches-put all a rest o m n r (Err e) h is p = Reaches-refused all (a then rest) o m n e h (Refuses-before a rest m n e (refused_as a m n r e is p))

-- a result that is returned since it is an error: of a first part, and after what was written
pub Writes-returned : {A : Type 0} (a b : Out) (o n : SerializerState) (r : Result A Error) → is_err r ≡ true → Writes a o r n → Writes (a then b) o r n
Writes-returned a b o n (Ok x) h p = let e : false ≡ true = h in cc
Writes-returned a b o n (Err e) h p = Refuses-before a b o n e p

-- a result that is no error
pub wrote_whole : {A : Type 0} (a : Out) (o n : SerializerState) (r : Result A Error) → is_err r ≡ false → Writes a o r n → Wrote a o n
wrote_whole a o n (Ok x) is p = p
wrote_whole a o n (Err e) is p = let f : true ≡ false = is in cc

-- ---- calls that return a small value

-- the same of an equal output
pub Puts-as : (all w : Out) (o n : SerializerState) (r : Result ⊤ Refused) → all ≡ w → Puts w o r n → Puts all o r n
Puts-as all w o n r e h = subst (λ x. Puts x o r n) (sym e) h

-- what a `?` forwards after what was written, and of a first part
pub Reaches-stop : (all a rest : Out) (o m n : SerializerState) (r : Refused) (x : Result ⊤ Refused) → Reaches all o m (a then rest) → IsErrAnd x (λ y. y ≡ r) → RefusesBy a m (refusal_by r) n → Puts all o x n
Reaches-stop all a rest o m n r (Ok y) h is p = absurd is
Reaches-stop all a rest o m n r (Err y) h is p = subst (λ k. RefusesBy all o (refusal_by k) n) (sym is) (h.refuses n (refusal_by r) (RefusesBy-before a rest m n (refusal_by r) p))

pub Puts-stop : (a b : Out) (o n : SerializerState) (r : Refused) (x : Result ⊤ Refused) → IsErrAnd x (λ y. y ≡ r) → RefusesBy a o (refusal_by r) n → Puts (a then b) o x n
Puts-stop a b o n r x is p = Reaches-stop (a then b) a b o o n r x (Reaches-none (a then b) o) is p

-- the last part
pub Reaches-end : (all a : Out) (o m n : SerializerState) (x : Result ⊤ Refused) → Reaches all o m a → Puts a m x n → Puts all o x n
Reaches-end all a o m n (Ok y) h p = h.wrote n p
Reaches-end all a o m n (Err r) h p = h.refuses n (refusal_by r) p
