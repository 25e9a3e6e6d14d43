-- Pieces that are written one after another.
use Rattle.std.proofs.Common.{◌≡◌, ◌∙◌, ℕ, ◌<◌, Bool, true, false, cond, List, [], ◌∷◌, ◌++◌, Result, Ok, Err, refl, sym, ap, subst, arith}
use Rattle.std.specs.Prelude.{⊤, OnOk}
use Rattle.std.specs.Result.{IsErrAnd}
use Rattle.std.specs.Str.{chars, encode_utf8_all}
use Rattle.std.specs.Io.KnownBytes.{Appends}
use Rattle.json5_grammar.specs.Language.Numbers.{Number}
use Rattle.json5_grammar.specs.Written.NumberText.{number_text, IsNumber}
use Rattle.json5_write.proofs.WritableNumbers.{number_whole}
use Rattle.json5_write.specs.Out.{Out, piece, stopped, no_number, number_out}
use Rattle.json5_write.specs.ShortWrites.{Puts, refusal_by}
use Rattle.json5_write.specs.WritableNumbers.{is_writable}
use Rattle.json5_write.specs.Writes.{SerializerState, Wrote, RefusesBy}
use Rattle.json5_write.specs.declared.refusal.Refused.{Refused}
use Rattle.json5_write.specs.declared.refusal.Refused.TheVariants as refused
use Rattle.json5_write.proofs.OutputsJoined.{Reaches, Reaches-first}
use Rattle.json5_write.proofs.ShortWritesJoined.{Puts-stop, Reaches-end}
use Rattle.json5_write.proofs.PiecesWritten.{chars_comma, chars_colon_space}
use Rattle.std.specs.Char.{digit_char}
use Rattle.std.proofs.lemmas.Str.{chars-nil, chars-IsAscii}
use Rattle.std.proofs.lemmas.Str.Ascii.{IsAscii-nil, IsAscii-cons}

-- ---- two parts

-- the first was refused
pub stop_first : (a b : List ℕ) (o n : SerializerState) (r : Refused) (x : Result ⊤ Refused) → IsErrAnd x (λ y. y ≡ r) → RefusesBy (piece a) o (refusal_by r) n → Puts (piece (a ++ b)) o x n
stop_first a b o n r x is p = Puts-stop (piece a) (piece b) o n r x is p

-- the first was written, and then the second was tried
pub then_second : (a b : List ℕ) (o m n : SerializerState) (x : Result ⊤ Refused) → Wrote (piece a) o m → Puts (piece b) m x n → Puts (piece (a ++ b)) o x n
then_second a b o m n x w p = Reaches-end (piece (a ++ b)) (piece b) o m n x (Reaches-first (piece a) (piece b) o m w) p

-- the same text
pub put_as : (a b : List ℕ) (o n : SerializerState) (x : Result ⊤ Refused) → a ≡ b → Puts (piece a) o x n → Puts (piece b) o x n
put_as a b o n x e p = subst (λ t. Puts (piece t) o x n) e p

pub wrote_as : (a b : List ℕ) (o n : SerializerState) → a ≡ b → Wrote (piece a) o n → Wrote (piece b) o n
wrote_as a b o n e p = subst (λ t. Wrote (piece t) o n) e p

pub refused_as : (a b : List ℕ) (o n : SerializerState) (r : Refused) → a ≡ b → RefusesBy (piece a) o (refusal_by r) n → RefusesBy (piece b) o (refusal_by r) n
refused_as a b o n r e p = subst (λ t. RefusesBy (piece t) o (refusal_by r) n) e p

pub reaches_as : (all : Out) (o m : SerializerState) (a b : List ℕ) → a ≡ b → Reaches all o m (piece a) → Reaches all o m (piece b)
reaches_as all o m a b e h = subst (λ t. Reaches all o m (piece t)) e h

-- ---- numbers

front_empty : (a b : List ℕ) → [] ≡ a ++ b → a ≡ []
front_empty [] b e = refl
front_empty (c ∷ a) b e = absurd (cc)

-- a number that has no spelling isn't written, and then nothing was
by_test : (b : Bool) (t : List ℕ) (o n : SerializerState) (x : Result ⊤ Refused) → Puts (cond b (piece t) (stopped no_number)) o x n → Puts (piece t) o x n
by_test true t o n x p = p
by_test false t o n (Ok y) p = absurd (let e = p.stop in cc)
by_test false t o n (Err refused.Before) p = p
by_test false t o n (Err refused.ByWriter) p =
    record { was = p.was; front = []; rest = encode_utf8_all t; cut = refl; bytes = subst (Appends o.known n.known) (front_empty p.front p.rest p.cut) p.bytes; failed = p.failed }
by_test false t o n (Err refused.TooDeep) p = absurd (let e = p.stop in cc)
by_test false t o n (Err refused.Key) p = absurd (let e = p.stop in cc)

pub number_put : (m : Number) (o n : SerializerState) (x : Result ⊤ Refused) → Puts (number_out m) o x n → Puts (piece (number_text m)) o x n
number_put m o n x p = by_test (is_writable m) (number_text m) o n x p

-- a number that was written is in range, or normal
pub number_had : (m : Number) (o n : SerializerState) (x : Result ⊤ Refused) → Puts (number_out m) o x n → OnOk x (IsNumber m)
number_had m o n (Ok y) p = number_whole m p.stop
number_had m o n (Err r) p = tt

pub on_ok : {P : Type 0} (x : Result ⊤ Refused) → P → OnOk x P
on_ok (Ok y) p = p
on_ok (Err r) p = tt

-- ---- signs

pub chars_nil : chars [] ≡ []
chars_nil = chars-nil

pub chars_colon : chars (58 ∷ []) ≡ 58 ∷ []
unfolding chars
chars_colon = refl

pub chars_line_feed : chars (10 ∷ []) ≡ 10 ∷ []
unfolding chars
chars_line_feed = refl

pub chars_no_element : chars (91 ∷ 93 ∷ []) ≡ 91 ∷ 93 ∷ []
unfolding chars
chars_no_element = refl

pub ruleset signs = (chars_comma, chars_nil, chars_colon, chars_colon_space, chars_line_feed)

pub chars_code_front : chars (92 ∷ 117 ∷ 48 ∷ 48 ∷ []) ≡ 92 ∷ 117 ∷ 48 ∷ 48 ∷ []
unfolding chars
chars_code_front = refl

-- the digit of a number
pub glyph : (c n k : ℕ) → n ≡ k → c < 128 → c ≡ digit_char k → chars (c ∷ []) ≡ digit_char n ∷ []
glyph c n k e h d = chars-IsAscii (c ∷ []) (IsAscii-cons c [] h IsAscii-nil) ∙ ap (λ x. x ∷ []) (d ∙ ap digit_char (sym e))

pub after_backslash : (c : ℕ) → c < 128 → chars (92 ∷ c ∷ []) ≡ 92 ∷ c ∷ []
after_backslash c h = chars-IsAscii (92 ∷ c ∷ []) (IsAscii-cons 92 (c ∷ []) (omega arith) (IsAscii-cons c [] h IsAscii-nil))
