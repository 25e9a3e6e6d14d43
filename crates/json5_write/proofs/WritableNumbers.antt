-- The test of numbers decides whether they can be written.
use Rattle.std.proofs.Common.{◌≡◌, ◌<◌, ℕ, ◌^◌, List, [], ◌∷◌, Bool, true, false, ◌&&◌, ◌||◌, not, cond, Result, refl, sym, ap, ◌∙◌, subst, arith}
use Rattle.std.specs.Prelude.{ℤ, pos, negsuc, ◌≤ℤ◌, ⊤}
use Rattle.std.specs.List.{list_all}
use Rattle.std.specs.Ordering.{int_eq}
use Rattle.std.specs.Cmp.{signed_Decides}
use Rattle.std.specs.Cmp.Lexicographic.{bytes_decides}
use Rattle.std.proofs.lemmas.Int.{ints}
use lib.Signed.{le_z, mag}
use Rattle.json5_grammar.specs.Language.Characters.{is_digit, Each, no_char, char}
use Rattle.json5_grammar.specs.Language.Numbers.{Number, Decimal, infinite, nan, finite, whole, decimal, without_zeros, is_empty, InWhole}
use Rattle.json5_grammar.specs.Written.NumberText.{IsNumber, IsNormal, number_text, decimal_text}
use Rattle.json5_types.specs.declared.error.Error.{Error}
use Rattle.json5_write.specs.WritableNumbers.{is_within, is_normal, is_writable}
use Rattle.json5_write.specs.Out.{Out, whole as ended_whole, no_number, piece, stopped, number_out}
use Rattle.json5_write.specs.Writes.{SerializerState, Wrote, RefusesWrite, Writes}
use Rattle.json5_write.specs.ShortWrites.{Puts}
use Rattle.json5_write.specs.declared.refusal.Refused.{Refused}
use Rattle.std.proofs.lemmas.Bool.{and_parts}

both_from : (a b : Bool) → a ≡ true → b ≡ true → (a && b) ≡ true
both_from a b e f = ap (λ x. x && b) e ∙ f

le_from : (a b : ℤ) → le_z a b ≡ true → a ≤ℤ b
le_from a b e = grind (arith, ints)

le_test : (a b : ℤ) → a ≤ℤ b → le_z a b ≡ true
le_test a b e = grind (arith, ints)

digits_from : (ds : List ℕ) → list_all is_digit ds ≡ true → Each is_digit ds
digits_from [] e = no_char
digits_from (c ∷ ds) e = let b = and_parts (is_digit c) (list_all is_digit ds) e in char b.0 (digits_from ds b.1)

digits_test : {ds : List ℕ} → Each is_digit ds → list_all is_digit ds ≡ true
digits_test no_char = refl
digits_test (char {c} {s} d e) = both_from (is_digit c) (list_all is_digit s) d (digits_test e)

zero_from : (ds : List ℕ) (e : ℤ) → (not (is_empty ds) || int_eq e (pos 0)) ≡ true → ds ≡ [] → e ≡ pos 0
zero_from [] e h k = (signed_Decides e (pos 0)).0 h
zero_from (c ∷ ds) e h k = absurd (cc)

zero_test : (ds : List ℕ) (e : ℤ) → (ds ≡ [] → e ≡ pos 0) → (not (is_empty ds) || int_eq e (pos 0)) ≡ true
zero_test [] e h = (signed_Decides e (pos 0)).1 (h refl)
zero_test (c ∷ ds) e h = refl

within : (low high z : ℤ) → is_within low high z ≡ true → (low ≤ℤ z) × (z ≤ℤ high)
within low high z h = let b = and_parts (le_z low z) (le_z z high) h in (le_from low z b.0, le_from z high b.1)

within_test : (low high z : ℤ) → low ≤ℤ z → z ≤ℤ high → is_within low high z ≡ true
within_test low high z l h = both_from (le_z low z) (le_z z high) (le_test low z l) (le_test z high h)

normal_from : (ds : List ℕ) (e : ℤ) → is_normal ds e ≡ true → IsNormal ds e
normal_from ds e h =
    let a = and_parts _ _ h in
    let b = and_parts _ _ a.1 in
    let c = and_parts _ _ b.1 in
    record { digits = digits_from ds a.0; bare = (bytes_decides (without_zeros ds) ds).0 b.0; in_range = within _ _ e c.0; zero = zero_from ds e c.1 }

normal_test : (ds : List ℕ) (e : ℤ) → IsNormal ds e → is_normal ds e ≡ true
normal_test ds e n =
    both_from _ _ (digits_test n.digits) (both_from _ _ ((bytes_decides (without_zeros ds) ds).1 n.bare) (both_from _ _ (within_test _ _ e n.in_range.0 n.in_range.1) (zero_test ds e n.zero)))

pub number_from : (n : Number) → is_writable n ≡ true → IsNumber n
unfolding is_writable
number_from (whole z) h = within _ _ z h
number_from (decimal (infinite m)) h = tt
number_from (decimal (nan m)) h = tt
number_from (decimal (finite m ds e)) h = normal_from ds e h

pub number_test : (n : Number) → IsNumber n → is_writable n ≡ true
unfolding is_writable
number_test (whole z) h = within_test _ _ z h.0 h.1
number_test (decimal (infinite m)) h = refl
number_test (decimal (nan m)) h = refl
number_test (decimal (finite m ds e)) h = normal_test ds e h

pub number_piece : (n : Number) → IsNumber n → number_out n ≡ piece (number_text n)
number_piece n h = ap (λ b. cond b (piece (number_text n)) (stopped no_number)) (number_test n h)

whole_by : (b : Bool) (o : Out) → (cond b o (stopped no_number)).stop ≡ ended_whole → b ≡ true
whole_by true o h = refl
whole_by false o h = absurd (cc)

pub number_whole : (n : Number) → (number_out n).stop ≡ ended_whole → IsNumber n
number_whole n h = number_from n (whole_by (is_writable n) (piece (number_text n)) h)

pub Puts-number : (n : Number) (o m : SerializerState) (r : Result ⊤ Refused) → IsNumber n → Puts (piece (number_text n)) o r m → Puts (number_out n) o r m
Puts-number n o m r h w = subst (λ x. Puts x o r m) (sym (number_piece n h)) w

pub unsigned_whole : (n : ℕ) → n < 2 ^ 128 → InWhole (pos n)
unsigned_whole n l = (omega (arith, ints), omega (arith, ints, l))

pub signed_whole : (z : ℤ) → mag z < 2 ^ 127 → InWhole z
signed_whole (pos n) l = (omega (arith, ints), omega (arith, ints, l))
signed_whole (negsuc n) l = (omega (arith, ints, l), omega (arith, ints))

-- a decimal in normal form is written as its text
pub Writes-decimal : {A : Type 0} (v : Decimal) (o m : SerializerState) (r : Result A Error) → IsNumber (decimal v) → Writes (number_out (decimal v)) o r m → Writes (piece (decimal_text v)) o r m
Writes-decimal v o m r h w = subst (λ x. Writes x o r m) (number_piece (decimal v) h) w

pub decimal_wrote : (v : Decimal) (o m : SerializerState) → IsNumber (decimal v) → Wrote (number_out (decimal v)) o m → Wrote (piece (decimal_text v)) o m
decimal_wrote v o m h w = subst (λ x. Wrote x o m) (number_piece (decimal v) h) w

pub decimal_refused : (v : Decimal) (o m : SerializerState) (e : Error) → IsNumber (decimal v) → RefusesWrite (number_out (decimal v)) o e m → RefusesWrite (piece (decimal_text v)) o e m
decimal_refused v o m e h w = subst (λ x. RefusesWrite x o e m) (number_piece (decimal v) h) w

pub number_wrote : (n : Number) (o m : SerializerState) → IsNumber n → Wrote (piece (number_text n)) o m → Wrote (number_out n) o m
number_wrote n o m h w = subst (λ x. Wrote x o m) (sym (number_piece n h)) w
