-- The hexadecimal digits of bytes, in pieces.
use Rattle.std.proofs.Common.{◌≡◌, ◌≤◌, ◌<◌, ◌/◌, ◌%◌, ℕ, zero, suc, List, [], ◌∷◌, ◌++◌, Bool, true, false, ◌&&◌, not, cond, nat_le, slice_index, slice_index_or, get_or, Fits, w8, length, refl, sym, ap, ◌∙◌, subst, arith}
use Rattle.std.specs.Prelude.{Result, Ok, Err, IsOk, MatchResult}
use Rattle.std.specs.Result.{IsErrAnd}
use Rattle.std.proofs.KnownBytes.{Appends-nil}
use Rattle.std.proofs.lemmas.List.{nil_from_length}
use Rattle.std.specs.List.{list_all}
use Rattle.std.specs.Str.{IsAscii, IsUtf8, chars}
use Rattle.std.proofs.lemmas.Bool.Decides.{nat_tests}
use Rattle.std.proofs.lemmas.Str.{chars-IsAscii, IsUtf8-from_ascii}
use Rattle.ucd_category.specs.GeneralCategory.{general_category}
use Rattle.ucd_table.specs.Rows.{value_in}
use Rattle.ucd_category.specs.GeneralCategoryRows.{general_category_rows}
use Rattle.hex.specs.Hex.{IsBytes, encode_with, encode_lower, lower_digits}
use Rattle.hex.proofs.HexLemmas.{IsAscii-encode_with}
use Rattle.json5_grammar.specs.Language.Characters.{is_identifier_start, is_identifier_part}
use Rattle.json5_grammar.specs.Written.Quoting.{quoted_text, is_name}
use Rattle.json5_types.specs.declared.error.Error.{Error}
use Rattle.json5_write.specs.Out.{Out, piece, ◌then◌}
use Rattle.json5_write.specs.Writes.{SerializerState, Wrote, RefusesWrite, Writes}
use Rattle.json5_write.proofs.DecimalPieces.{is_spelling, IsAscii-text, first, second, both}
use Rattle.json5_ser.proofs.SpelledKeys.{run, not_in_run, spelled_quoted}
use Rattle.json5_write.proofs.OutputsJoined.{Reaches, Reaches-next, Reaches-exit}

pub hex_ascii : (bs : List ℕ) → IsAscii (encode_lower bs)
hex_ascii bs = IsAscii-encode_with lower_digits bs (IsAscii-text lower_digits refl)

pub hex_utf8 : (bs : List ℕ) → IsUtf8 (encode_lower bs)
hex_utf8 bs = IsUtf8-from_ascii (encode_lower bs) (hex_ascii bs)

pub hex_chars : (bs : List ℕ) → chars (encode_lower bs) ≡ encode_lower bs
hex_chars bs = chars-IsAscii (encode_lower bs) (hex_ascii bs)

hex_append : (bs rest : List ℕ) → encode_lower (bs ++ rest) ≡ encode_lower bs ++ encode_lower rest
unfolding encode_with
hex_append [] rest = refl
hex_append (b ∷ bs) rest = ap (λ l. slice_index lower_digits (b / 16) ∷ slice_index lower_digits (b % 16) ∷ l) (hex_append bs rest)

pub hex_first : (all chunk rest : List ℕ) → all ≡ chunk ++ rest → piece (encode_lower all) ≡ piece (encode_lower chunk) then piece (encode_lower rest)
hex_first all chunk rest e = ap (λ l. piece (encode_lower l)) e ∙ ap piece (hex_append chunk rest)

pub hex_none : encode_lower [] ≡ []
unfolding encode_with
hex_none = refl

pub decodes : {A B U : Type 0} (P : A → Type 0) (Q : B → Type 0) (r : Result A B) → U → MatchResult r P (λ e. ¬ U × Q e) → IsOk r
decodes P Q (Ok x) u h = refl
decodes P Q (Err e) u h = absurd (h.0 u)

parted : (all : Out) (o m : SerializerState) (left chunk rest t : List ℕ) → left ≡ chunk ++ rest → t ≡ encode_lower chunk → Reaches all o m (piece (encode_lower left)) → Reaches all o m (piece (chars t) then piece (encode_lower rest))
parted all o m left chunk rest t e f h = subst (Reaches all o m) (hex_first left chunk rest e ∙ ap (λ l. piece l then piece (encode_lower rest)) (sym (ap chars f ∙ hex_chars chunk))) h

-- a chunk's digits were written
pub digits_next : (all : Out) (o m n : SerializerState) (left chunk rest t : List ℕ) → left ≡ chunk ++ rest → t ≡ encode_lower chunk → Reaches all o m (piece (encode_lower left)) → Wrote (piece (chars t)) m n → Reaches all o n (piece (encode_lower rest))
digits_next all o m n left chunk rest t e f h w = Reaches-next all (piece (chars t)) (piece (encode_lower rest)) o m n (parted all o m left chunk rest t e f h) w

-- they were refused
pub digits_exit : {A : Type 0} (all : Out) (o m n : SerializerState) (left chunk rest t : List ℕ) (e : Error) (r : Result A Error) → left ≡ chunk ++ rest → t ≡ encode_lower chunk → Reaches all o m (piece (encode_lower left))
    → IsErrAnd r (λ y. y ≡ e) → RefusesWrite (piece (chars t)) m e n → Writes all o r n
digits_exit all o m n left chunk rest t e r is f h q p = Reaches-exit all (piece (chars t)) (piece (encode_lower rest)) o m n e r (parted all o m left chunk rest t is f h) q p

nothing : (m : SerializerState) → m.failed ≡ false → Wrote (piece []) m m
nothing m was = record { was = was; stop = refl; chars = refl; bytes = Appends-nil m.known; depth = refl; limit = refl; failed = was }

-- no byte is left
pub digits_all : (all : Out) (o m : SerializerState) (left : List ℕ) → length left ≡ 0 → m.failed ≡ false → Reaches all o m (piece (encode_lower left)) → Wrote all o m
digits_all all o m left none was h =
    let same : piece (encode_lower left) ≡ piece [] = ap (λ l. piece (encode_lower l)) (nil_from_length left none) ∙ ap piece hex_none in
    Reaches.wrote (subst (Reaches all o m) same h) m (nothing m was)

-- ---- as a string and as a key

digit_holds : (f : ℕ → Bool) (xs : List ℕ) (k : ℕ) → list_all f xs ≡ true → k < length xs → f (slice_index xs k) ≡ true
digit_holds f [] k h l = absurd (omega arith)
digit_holds f (x ∷ xs) zero h l = first (f x) (list_all f xs) h
digit_holds f (x ∷ xs) (suc k) h l = digit_holds f xs k (second (f x) (list_all f xs) h) (omega arith)

-- a test that each digit passes
digits_hold : (f : ℕ → Bool) (bs : List ℕ) → list_all f lower_digits ≡ true → IsBytes bs → list_all f (encode_lower bs) ≡ true
unfolding encode_with
digits_hold f [] h l = refl
digits_hold f (b ∷ bs) h l =
    let small : b < 256 = l zero in
    both (f (slice_index lower_digits (b / 16))) (f (slice_index lower_digits (b % 16)) && list_all f (encode_lower bs)) (digit_holds f lower_digits (b / 16) h (omega arith))
    (both (f (slice_index lower_digits (b % 16))) (list_all f (encode_lower bs)) (digit_holds f lower_digits (b % 16) h (omega arith)) (digits_hold f bs h (λ i. l (suc i))))

pub hex_quoted : (bs : List ℕ) → IsBytes bs → quoted_text (encode_lower bs) ≡ 34 ∷ encode_lower bs ++ 34 ∷ []
hex_quoted bs l = spelled_quoted (encode_lower bs) (digits_hold is_spelling bs refl l)

-- ---- which digits begin an identifier

abbrev differs : ℕ → Bool
differs k = cond (nat_le 10 k) (not (is_identifier_start (slice_index lower_digits k))) (is_identifier_start (slice_index lower_digits k))

letters_start : list_all (λ k. not (differs k)) (run 0 16) ≡ true
unfolding is_identifier_start general_category value_in general_category_rows
letters_start = refl

all_are_parts : list_all is_identifier_part lower_digits ≡ true
unfolding is_identifier_start is_identifier_part general_category value_in general_category_rows
all_are_parts = refl

same_test : (a b : Bool) → cond b (not a) a ≡ false → a ≡ b
same_test true true h = refl
same_test true false h = absurd (cc)
same_test false true h = absurd (cc)
same_test false false h = refl

and_true : (a b : Bool) → b ≡ true → (a && b) ≡ a
and_true true b h = h
and_true false b h = refl

starts : (k : ℕ) → k < 16 → is_identifier_start (slice_index lower_digits k) ≡ nat_le 10 k
starts k l = same_test (is_identifier_start (slice_index lower_digits k)) (nat_le 10 k) (not_in_run differs 0 16 k letters_start (omega arith) (omega arith))

pub no_digits : (bs : List ℕ) → length bs ≡ 0 → false ≡ is_name (encode_lower bs)
unfolding encode_with
no_digits [] e = refl
no_digits (b ∷ bs) e = absurd (omega (arith, e))

high_digit : (b : ℕ) → nat_le 10 (b / 16) ≡ nat_le 160 b
high_digit b = grind (arith, nat_tests)

name_from : (b : ℕ) (bs : List ℕ) → IsBytes (b ∷ bs) → is_name (encode_lower (b ∷ bs)) ≡ nat_le 160 b
unfolding encode_with
name_from b bs l =
    let small : b < 256 = l zero in
    let second_part = digit_holds is_identifier_part lower_digits (b % 16) all_are_parts (omega arith) in
    let rest = both (is_identifier_part (slice_index lower_digits (b % 16))) (list_all is_identifier_part (encode_lower bs)) second_part (digits_hold is_identifier_part bs all_are_parts (λ i. l (suc i))) in
    and_true (is_identifier_start (slice_index lower_digits (b / 16))) _ rest ∙ (starts (b / 16) (omega arith) ∙ high_digit b)

-- they are an identifier where the first of them is a letter
pub letter_first : (bs : List ℕ) → IsBytes bs → 1 ≤ length bs → nat_le 160 (slice_index_or bs 0 0) ≡ is_name (encode_lower bs)
letter_first [] l h = absurd (omega arith)
letter_first (b ∷ bs) l h = sym (name_from b bs l)

pub fits_bytes : (bs : List ℕ) → ((i : ℕ) → Fits w8 (get_or bs i 0)) → IsBytes bs
fits_bytes bs h i = let fits = h i in omega (arith, fits)
