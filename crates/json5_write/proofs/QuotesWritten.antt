-- A text between quotes, and pieces that a writer takes one after another.
use Rattle.std.proofs.Common.{◌≡◌, ℕ, List, [], ◌∷◌, ◌++◌, sym, ap, ap₂, ◌∙◌, ◌<◌, append_assoc, arith}
use Rattle.std.specs.Prelude.{Option, Result, Ok, Err}
use Rattle.std.specs.Result.{IsErrAnd}
use Rattle.std.specs.Str.{IsAscii, IsUtf8, chars}
use Rattle.std.specs.Io.KnownBytes.{Appends}
use Rattle.std.proofs.KnownBytes.{Appends-trans}
use Rattle.std.proofs.lemmas.Str.{IsUtf8-append, IsUtf8-from_ascii, chars-append, chars-IsAscii}
use Rattle.std.proofs.lemmas.Str.Ascii.{IsAscii-nil, IsAscii-cons}
use Rattle.json5_write.specs.Brackets.{sign_of}
use Rattle.json5_write.specs.declared.brackets.BeforeElement.{BeforeElement}
use Rattle.json5_write.specs.declared.brackets.BeforeElement.TheVariants as before
use Rattle.json5_write.specs.Pieces.{AppendsFront, Pushes, between_quotes}
use Rattle.json5_write.proofs.PiecesWritten.{chars_double_quote}

-- ---- in UTF-8

sign_utf8 : (c : ℕ) → c < 128 → IsUtf8 (c ∷ [])
sign_utf8 c h = IsUtf8-from_ascii (c ∷ []) (IsAscii-cons c [] h IsAscii-nil)

pub between_utf8 : (t : List ℕ) → IsUtf8 t → IsUtf8 (between_quotes t)
between_utf8 t u = let mark = sign_utf8 34 (omega arith) in IsUtf8-append (34 ∷ []) (t ++ 34 ∷ []) mark (IsUtf8-append t (34 ∷ []) u mark)

pub between_chars : (t : List ℕ) → IsUtf8 t → chars (between_quotes t) ≡ between_quotes (chars t)
between_chars t u =
    let mark = sign_utf8 34 (omega arith) in
    chars-append (34 ∷ []) (t ++ 34 ∷ []) mark ∙ ap₂ (λ a b. a ++ b) chars_double_quote (chars-append t (34 ∷ []) u ∙ ap (λ b. chars t ++ b) chars_double_quote)

-- ---- after what stands before an element

sign_ascii : (b : BeforeElement) → sign_of b < 128
sign_ascii before.Bracket = omega arith
sign_ascii before.Comma = omega arith

pub after_sign_ascii : (b : BeforeElement) (t : List ℕ) → IsAscii t → IsAscii (sign_of b ∷ t)
after_sign_ascii b t a = IsAscii-cons (sign_of b) t (sign_ascii b) a

pub after_sign_utf8 : (b : BeforeElement) (t : List ℕ) → IsUtf8 t → IsUtf8 (sign_of b ∷ t)
after_sign_utf8 b t u = IsUtf8-append (sign_of b ∷ []) t (sign_utf8 (sign_of b) (sign_ascii b)) u

pub after_sign_chars : (b : BeforeElement) (t : List ℕ) → chars (sign_of b ∷ t) ≡ sign_of b ∷ chars t
after_sign_chars b t =
    chars-append (sign_of b ∷ []) t (sign_utf8 (sign_of b) (sign_ascii b)) ∙ ap (λ s. s ++ chars t) (chars-IsAscii (sign_of b ∷ []) (after_sign_ascii b [] IsAscii-nil))

-- ---- one after another

-- the first was taken in part
pub pushed_stop : {A E : Type 0} (o n : Option (List ℕ)) (a b : List ℕ) (e : E) (r : Result A E) → IsErrAnd r (λ y. y ≡ e) → AppendsFront o n a → Pushes o n (a ++ b) r
pushed_stop o n a b e (Ok x) is p = absurd is
pushed_stop o n a b e (Err y) is p = (p.0, p.1 ++ b, ap (λ l. l ++ b) p.2 ∙ append_assoc p.0 p.1 b, p.3)

-- the first was taken, and then the second was tried
pub pushed_then : {A E : Type 0} (o m n : Option (List ℕ)) (a b : List ℕ) (r : Result A E) → Appends o m a → Pushes m n b r → Pushes o n (a ++ b) r
pushed_then o m n a b (Ok x) p q = Appends-trans o m n a b p q
pushed_then o m n a b (Err e) p q = (a ++ q.0, q.1, ap (λ l. a ++ l) q.2 ∙ sym (append_assoc a q.0 q.1), Appends-trans o m n a q.0 p q.3)
