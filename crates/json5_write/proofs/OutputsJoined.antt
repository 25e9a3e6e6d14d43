-- Two outputs that are written in turn are one output.
use Rattle.std.proofs.Common.{◌≡◌, ℕ, List, [], ◌∷◌, ◌++◌, Bool, true, false, ◌&&◌, Option, Result, Ok, Err, refl, sym, ap, ◌∙◌, subst, append_assoc}
use Rattle.std.specs.Result.{IsErrAnd}
use Rattle.std.specs.Str.{encode_utf8_all, all_scalars}
use Rattle.std.proofs.lemmas.Str.{encodes-append}
use Rattle.std.specs.Io.KnownBytes.{Appends}
use Rattle.std.proofs.KnownBytes.{Appends-trans}
use Rattle.json5_types.specs.declared.error.Error.{Error}
use Rattle.json5_types.specs.Errors.{FaultKind, kind_of, error_position}
use Rattle.json5_write.specs.Out.{Out, Stop, whole, invalid_key, too_deep, no_number, followed_by, ◌then◌}
use Rattle.json5_write.specs.Writes.{SerializerState, Wrote, Stopped, Broke, Refusal, by_key, by_depth, by_writer, by_refusal, by_none, refusal_of, RefusesBy, RefusesWrite, Writes, at_depth}
pub use Rattle.json5_write.specs.Writes.{Reaches}

pub after_whole : (a b : Out) → a.stop ≡ whole → a then b ≡ record { text = a.text ++ b.text; stop = b.stop }
after_whole a b e = ap (λ s. followed_by a.text s b) e

pub after_too_deep : (a b : Out) → a.stop ≡ too_deep → a then b ≡ record { text = a.text; stop = too_deep }
after_too_deep a b e = ap (λ s. followed_by a.text s b) e

pub after_invalid_key : (a b : Out) → a.stop ≡ invalid_key → a then b ≡ record { text = a.text; stop = invalid_key }
after_invalid_key a b e = ap (λ s. followed_by a.text s b) e

both_true : (a b c : Bool) → (a && b) ≡ true → (b ≡ true → c ≡ true) → (a && c) ≡ true
both_true true b c e f = f e
both_true false b c e f = absurd (cc)

pub scalars-append : (s t : List ℕ) → all_scalars s ≡ true → all_scalars t ≡ true → all_scalars (s ++ t) ≡ true
scalars-append [] t e f = f
scalars-append (c ∷ s) t e f = both_true _ (all_scalars s) (all_scalars (s ++ t)) e (λ h. scalars-append s t h f)

encoded-append : (o n m : Option (List ℕ)) (s t : List ℕ) → Appends o n (encode_utf8_all s) → Appends n m (encode_utf8_all t) → Appends o m (encode_utf8_all (s ++ t))
encoded-append o n m s t p q = subst (Appends o m) (sym (encodes-append s t)) (Appends-trans o n m _ _ p q)

pub Wrote-then : (a b : Out) (o m n : SerializerState) → Wrote a o m → Wrote b m n → Wrote (a then b) o n
Wrote-then a b o m n p q =
    subst (λ x. Wrote x o n) (sym (after_whole a b p.stop))
    (record { was = p.was; stop = q.stop; chars = scalars-append a.text b.text p.chars q.chars; bytes = encoded-append _ _ _ a.text b.text p.bytes q.bytes; depth = q.depth ∙ p.depth; limit = q.limit ∙ p.limit; failed = q.failed })

Broke-after : (s : List ℕ) (e : Stop) (b : Out) (o n : SerializerState) → Broke (record { text = s; stop = e }) o n → Broke (followed_by s e b) o n
Broke-after s whole b o n p =
    record {
      was = p.was;
      front = p.front;
      rest = p.rest ++ encode_utf8_all b.text;
      cut = encodes-append s b.text ∙ (ap (λ l. l ++ encode_utf8_all b.text) p.cut ∙ append_assoc p.front p.rest (encode_utf8_all b.text));
      bytes = p.bytes;
      failed = p.failed;
    }
Broke-after s invalid_key b o n p = record { was = p.was; front = p.front; rest = p.rest; cut = p.cut; bytes = p.bytes; failed = p.failed }
Broke-after s too_deep b o n p = record { was = p.was; front = p.front; rest = p.rest; cut = p.cut; bytes = p.bytes; failed = p.failed }
Broke-after s no_number b o n p = record { was = p.was; front = p.front; rest = p.rest; cut = p.cut; bytes = p.bytes; failed = p.failed }

-- a refusal in the first part
pub RefusesBy-before : (a b : Out) (o n : SerializerState) (r : Refusal) → RefusesBy a o r n → RefusesBy (a then b) o r n
RefusesBy-before a b o n by_depth p = subst (λ x. Stopped too_deep x o n) (sym (after_too_deep a b p.stop)) (record { was = p.was; stop = refl; bytes = p.bytes; failed = p.failed })
RefusesBy-before a b o n by_key p = subst (λ x. Stopped invalid_key x o n) (sym (after_invalid_key a b p.stop)) (record { was = p.was; stop = refl; bytes = p.bytes; failed = p.failed })
RefusesBy-before a b o n by_writer p = Broke-after a.text a.stop b o n p
RefusesBy-before a b o n by_refusal p = p
RefusesBy-before a b o n by_none p = p

pub Refuses-before : (a b : Out) (o n : SerializerState) (e : Error) → RefusesWrite a o e n → RefusesWrite (a then b) o e n
Refuses-before a b o n e p = record { leaves = RefusesBy-before a b o n (refusal_of (kind_of e)) p.leaves; no_place = p.no_place }

Stopped-after : (s : Stop) (a b : Out) (o m n : SerializerState) → Wrote a o m → Stopped s b m n → Stopped s (a then b) o n
Stopped-after s a b o m n p q =
    subst (λ x. Stopped s x o n) (sym (after_whole a b p.stop))
    (record { was = p.was; stop = q.stop; bytes = encoded-append _ _ _ a.text b.text p.bytes q.bytes; failed = q.failed })

-- a refusal after a part that was written
pub RefusesBy-after : (a b : Out) (o m n : SerializerState) (r : Refusal) → Wrote a o m → RefusesBy b m r n → RefusesBy (a then b) o r n
RefusesBy-after a b o m n by_depth p q = Stopped-after too_deep a b o m n p q
RefusesBy-after a b o m n by_key p q = Stopped-after invalid_key a b o m n p q
RefusesBy-after a b o m n by_writer p q =
    subst (λ x. Broke x o n) (sym (after_whole a b p.stop))
    (record {
      was = p.was;
      front = encode_utf8_all a.text ++ q.front;
      rest = q.rest;
      cut = encodes-append a.text b.text ∙ (ap (λ l. encode_utf8_all a.text ++ l) q.cut ∙ sym (append_assoc (encode_utf8_all a.text) q.front q.rest));
      bytes = Appends-trans _ _ _ _ _ p.bytes q.bytes;
      failed = q.failed;
    })
RefusesBy-after a b o m n by_refusal p q = let x : true ≡ false = sym q.was ∙ p.failed in cc
RefusesBy-after a b o m n by_none p q = q

-- the same of an equal output
pub Writes-as : {A : Type 0} (all w : Out) (o n : SerializerState) (r : Result A Error) → all ≡ w → Writes w o r n → Writes all o r n
Writes-as all w o n r e h = subst (λ x. Writes x o r n) (sym e) h

-- a refusal that a `?` forwards as it is
pub Writes-handed : {A : Type 0} (w : Out) (o n : SerializerState) (e : Error) (r : Result A Error) → IsErrAnd r (λ y. y ≡ e) → RefusesWrite w o e n → Writes w o r n
Writes-handed w o n e (Ok x) q p = absurd q
Writes-handed w o n e (Err y) q p = subst (λ x. RefusesWrite w o x n) (sym q) p

-- what a `?` forwards of a first part
pub Writes-exit : {A : Type 0} (a b : Out) (o n : SerializerState) (e : Error) (r : Result A Error) → IsErrAnd r (λ y. y ≡ e) → RefusesWrite a o e n → Writes (a then b) o r n
Writes-exit a b o n e r q p = Writes-handed (a then b) o n e r q (Refuses-before a b o n e p)

pub Reaches-refused : (all rest : Out) (o m n : SerializerState) (e : Error) → Reaches all o m rest → RefusesWrite rest m e n → RefusesWrite all o e n
Reaches-refused all rest o m n e h p = record { leaves = h.refuses n (refusal_of (kind_of e)) p.leaves; no_place = p.no_place }

-- nothing is written yet
pub Reaches-none : (all : Out) (o : SerializerState) → Reaches all o o all
Reaches-none all o = record { wrote = λ n p. p; refuses = λ n r p. p }

pub Reaches-next : (all a rest : Out) (o m n : SerializerState) → Reaches all o m (a then rest) → Wrote a m n → Reaches all o n rest
Reaches-next all a rest o m n h p =
    record { wrote = λ k q. h.wrote k (Wrote-then a rest m n k p q); refuses = λ k r q. h.refuses k r (RefusesBy-after a rest m n k r p q) }

pub Reaches-first : (a rest : Out) (o m : SerializerState) → Wrote a o m → Reaches (a then rest) o m rest
Reaches-first a rest o m p = Reaches-next (a then rest) a rest o o m (Reaches-none (a then rest) o) p

-- what a `?` forwards after what was written
pub Reaches-exit : {A : Type 0} (all a rest : Out) (o m n : SerializerState) (e : Error) (r : Result A Error) → Reaches all o m (a then rest) → IsErrAnd r (λ y. y ≡ e) → RefusesWrite a m e n → Writes all o r n
Reaches-exit all a rest o m n e r h q p = Writes-handed all o n e r q (Reaches-refused all (a then rest) o m n e h (Refuses-before a rest m n e p))

-- the last part
pub Reaches-last : {A : Type 0} (all a : Out) (o m n : SerializerState) (r : Result A Error) → Reaches all o m a → Writes a m r n → Writes all o r n
Reaches-last all a o m n (Ok x) h p = h.wrote n p
Reaches-last all a o m n (Err e) h p = Reaches-refused all a o m n e h p

-- a refusal with this kind
pub refused_so : (w : Out) (o n : SerializerState) (e : Error) (k : FaultKind) → kind_of e ≡ k → error_position e ≡ Option.None → RefusesBy w o (refusal_of k) n → RefusesWrite w o e n
refused_so w o n e k h q p = record { leaves = subst (λ x. RefusesBy w o (refusal_of x) n) (sym h) p; no_place = q }

-- the same with another count of brackets
pub Wrote-at : (d : ℕ) (w : Out) (o n : SerializerState) → Wrote w o n → Wrote w (at_depth d o) (at_depth d n)
Wrote-at d w o n p = record { was = p.was; stop = p.stop; chars = p.chars; bytes = p.bytes; depth = refl; limit = p.limit; failed = p.failed }

pub RefusesBy-at : (d e : ℕ) (w : Out) (o n : SerializerState) (r : Refusal) → RefusesBy w o r n → RefusesBy w (at_depth d o) r (at_depth e n)
RefusesBy-at d e w o n by_key p = record { was = p.was; stop = p.stop; bytes = p.bytes; failed = p.failed }
RefusesBy-at d e w o n by_depth p = record { was = p.was; stop = p.stop; bytes = p.bytes; failed = p.failed }
RefusesBy-at d e w o n by_writer p = record { was = p.was; front = p.front; rest = p.rest; cut = p.cut; bytes = p.bytes; failed = p.failed }
RefusesBy-at d e w o n by_refusal p = record { was = p.was; bytes = p.bytes; failed = p.failed }
RefusesBy-at d e w o n by_none p = p

pub Refuses-at : (d e : ℕ) (w : Out) (o n : SerializerState) (x : Error) → RefusesWrite w o x n → RefusesWrite w (at_depth d o) x (at_depth e n)
Refuses-at d e w o n x p = record { leaves = RefusesBy-at d e w o n (refusal_of (kind_of x)) p.leaves; no_place = p.no_place }

pub Writes-at : {A : Type 0} (d : ℕ) (w : Out) (o n : SerializerState) (r : Result A Error) → Writes w o r n → Writes w (at_depth d o) r (at_depth d n)
Writes-at d w o n (Ok x) p = Wrote-at d w o n p
Writes-at d w o n (Err e) p = Refuses-at d d w o n e p

after_whole_part : (s t : List ℕ) (e : Stop) (c : Out) → followed_by (s ++ t) e c ≡ followed_by s whole (followed_by t e c)
after_whole_part s t whole c = ap (λ l. record { text = l; stop = c.stop }) (append_assoc s t c.text)
after_whole_part s t invalid_key c = refl
after_whole_part s t too_deep c = refl
after_whole_part s t no_number c = refl

after_after : (s : List ℕ) (e : Stop) (b c : Out) → (followed_by s e b) then c ≡ followed_by s e (b then c)
after_after s whole b c = after_whole_part s b.text b.stop c
after_after s invalid_key b c = refl
after_after s too_deep b c = refl
after_after s no_number b c = refl

pub then_assoc : (a b c : Out) → (a then b) then c ≡ a then (b then c)
then_assoc a b c = after_after a.text a.stop b c
