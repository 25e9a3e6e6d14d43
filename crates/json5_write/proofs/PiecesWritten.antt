-- What is written by one piece.
use Rattle.std.proofs.Common.{◌≡◌, ℕ, List, [], ◌∷◌, ◌++◌, true, false, refl, sym, ap, ◌∙◌, subst}
use Rattle.std.specs.Prelude.{Option, Result, Ok, Err}
use Rattle.std.specs.Result.{is_ok}
use Rattle.std.specs.Str.{IsUtf8, IsAscii, chars}
use Rattle.std.proofs.lemmas.Str.{encodes-chars, scalars-chars, chars-IsAscii}
use Rattle.std.specs.Io.KnownBytes.{Appends}
use Rattle.json5_grammar.specs.Language.Values.{null_text, true_text, false_text}
use Rattle.json5_grammar.specs.Written.Quoting.{quote_for, escaped_all, quoted_text}
use Rattle.json5_write.specs.Out.{piece, ◌then◌}
use Rattle.json5_write.specs.Pieces.{AppendsFront, Pushes}
use Rattle.json5_write.specs.Writes.{SerializerState, Wrote, Broke}

-- what became of the bytes, by whether all were taken
pub pushed_whole : {A E : Type 0} (old new : Option (List ℕ)) (bytes : List ℕ) (r : Result A E) → is_ok r ≡ true → Pushes old new bytes r → Appends old new bytes
pushed_whole old new bytes (Ok x) h p = p
pushed_whole old new bytes (Err e) h p = let f : false ≡ true = h in cc

pub pushed_front : {A E : Type 0} (old new : Option (List ℕ)) (bytes : List ℕ) (r : Result A E) → is_ok r ≡ false → Pushes old new bytes r → AppendsFront old new bytes
pushed_front old new bytes (Ok x) h p = let f : true ≡ false = h in cc
pushed_front old new bytes (Err e) h p = p

pub wrote_piece : (t : List ℕ) (o n : SerializerState) → IsUtf8 t → o.failed ≡ false → n.failed ≡ false → n.depth ≡ o.depth → n.limit ≡ o.limit → Appends o.known n.known t → Wrote (piece (chars t)) o n
wrote_piece t o n u was failed depth limit p =
    record { was = was; stop = refl; chars = scalars-chars t u; bytes = subst (Appends o.known n.known) (sym (encodes-chars t u)) p; depth = depth; limit = limit; failed = failed }

pub broke_piece : (t : List ℕ) (o n : SerializerState) → IsUtf8 t → o.failed ≡ false → n.failed ≡ true → AppendsFront o.known n.known t → Broke (piece (chars t)) o n
broke_piece t o n u was failed p = record { was = was; front = p.0; rest = p.1; cut = encodes-chars t u ∙ p.2; bytes = p.3; failed = failed }

pub chars_null : chars null_text ≡ null_text
unfolding chars
chars_null = refl

pub chars_true : chars true_text ≡ true_text
unfolding chars
chars_true = refl

pub chars_false : chars false_text ≡ false_text
unfolding chars
chars_false = refl

pub chars_number : (t : List ℕ) → IsAscii t → chars t ≡ t
chars_number t h = chars-IsAscii t h

pub chars_double_quote : chars (34 ∷ []) ≡ 34 ∷ []
unfolding chars
chars_double_quote = refl

pub chars_single_quote : chars (39 ∷ []) ≡ 39 ∷ []
unfolding chars
chars_single_quote = refl

pub quoted_parts : (u mark : List ℕ) (q : ℕ) → q ≡ quote_for u → mark ≡ q ∷ [] → piece (quoted_text u) ≡ piece mark then (piece (escaped_all q u) then piece mark)
quoted_parts u mark q e f = sym (ap (λ m. piece m then (piece (escaped_all q u) then piece m)) f ∙ ap (λ c. piece (c ∷ (escaped_all c u ++ c ∷ []))) e)

pub chars_left_bracket : chars (91 ∷ []) ≡ 91 ∷ []
unfolding chars
chars_left_bracket = refl

pub chars_right_bracket : chars (93 ∷ []) ≡ 93 ∷ []
unfolding chars
chars_right_bracket = refl

pub chars_left_brace : chars (123 ∷ []) ≡ 123 ∷ []
unfolding chars
chars_left_brace = refl

pub chars_right_brace : chars (125 ∷ []) ≡ 125 ∷ []
unfolding chars
chars_right_brace = refl

pub chars_comma : chars (44 ∷ []) ≡ 44 ∷ []
unfolding chars
chars_comma = refl

pub chars_colon_space : chars (58 ∷ 32 ∷ []) ≡ 58 ∷ 32 ∷ []
unfolding chars
chars_colon_space = refl
