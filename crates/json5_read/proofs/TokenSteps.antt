-- The tokens that are passed over are those that reading on lists gives.
use Rattle.std.proofs.Common.{◌≡◌, ◌≢◌, ℕ, Bool, true, false, cond, ◌||◌, List, [], ◌∷◌, ◌++◌, refl, ap, sym, ◌∙◌, subst, Option, Some}
use Rattle.std.specs.Prelude.{◌==◌, ℤ, Result, Ok, Err, IsOk, IfOk, IfErr, OnOk, OnErr}
use Rattle.std.proofs.lemmas.Bool.{both_ways, false≢true}
use Rattle.json5_grammar.specs.declared.error_code.ErrorCode.{ErrorCode}
use Rattle.json5_grammar.specs.declared.error_code.ErrorCode.TheVariants as codes
use Rattle.json5_grammar.specs.Language.Characters.{NotBegun, is_identifier_start}
use Rattle.json5_grammar.specs.Language.Names.{Ident, goes_on_name}
use Rattle.json5_grammar.specs.Language.Numbers as numbers
use Rattle.json5_grammar.specs.Language.Numbers.{Num, lengthens}
use Rattle.json5_grammar.specs.Faults.Tokens.{is_sign, begins_number}
use Rattle.json5_grammar.specs.Model.Reading.{Read, Place, here, inner, got, bad, IsAt, word_at}
use Rattle.json5_grammar.specs.Model.ReadBlanks.{skip, between}
use Rattle.json5_grammar.specs.Model.ReadNumbers as reading
use Rattle.json5_grammar.specs.Model.ReadSteps.{forget}
use Rattle.json5_grammar.specs.Model.ReadTexts.{string, identifier}
use Rattle.json5_grammar.specs.Language.Strings.{Str, is_quote}
use Rattle.json5_grammar.proofs.BlanksSound.{gap_read, blank_refused}
use Rattle.json5_grammar.proofs.NamesRead.{name_complete, name_refused}
use Rattle.json5_grammar.proofs.NamesSound.{NameSound, name_sound}
use Rattle.json5_grammar.proofs.NumbersRead.{complete}
use Rattle.json5_grammar.proofs.NumbersSound.{SoundNumber, sound, PlaceIs}
use Rattle.json5_grammar.proofs.NumberFaultsRefused as unique
use Rattle.json5_grammar.proofs.Refusals.{Refuses}
use Rattle.json5_grammar.proofs.StringsRead.{string_complete, string_refused}
use Rattle.json5_grammar.proofs.StringsSound.{StringSound, string_sound}
use Rattle.json5_grammar.proofs.WordsRead.{differs_at, ends_in, word_complete}
use Rattle.json5_types.specs.declared.error.Error.{Error}
use Rattle.json5_tokens.specs.Cursor.{Cursor, Took}
use Rattle.json5_tokens.specs.TokenCalls.{PassesBlanks, PassesString, PassesName, PassesNumber, TakesWord}
use Rattle.json5_types.specs.NumberMeanings.{whole_in}
use Rattle.json5_tokens.specs.TokenFaults.{FaultyWord, word_differs, word_ends, FaultyNumber, no_number, number_missing, FaultyString, no_quote, string_missing, FaultyName, no_name, name_missing}
use Rattle.json5_tokens.specs.TokenFaults as tokens
use Rattle.json5_read.specs.ModelSteps.{IsInside, RefusesRead, Gave, Steps, RefusesToken}
use Rattle.json5_read.proofs.NoFailedCode.{Lacks, in_blanks_other, word_lacks, faulty_number_lacks, faulty_string_lacks, faulty_name_lacks}
use Rattle.json5_read.proofs.ModelSteps.{same_of, blames_refused, blames_token, forget_got, forget_refuses}

-- ---- tokens

token_step : {A : Type 0} {F : List ℕ → Option ErrorCode → Option (List ℕ) → Type 0} (P : List ℕ → List ℕ → Type 0) (m : Read A) (old new : Cursor) (result : Result (Unit {0}) Error) → IsInside old → Lacks F
    → ((reason : Option ErrorCode) (place : Option (List ℕ)) → F old.unread reason place → Refuses m old.unread reason place)
    → ((s r : List ℕ) → P s r → old.unread ≡ s ++ r → (a : A) × (m ≡ got a r))
    → ((a : A) (r : List ℕ) → m ≡ got a r → IsOk result)
    → OnOk result ((s : List ℕ) × Took old s new × P s new.unread) → IfErr result (RefusesToken F old) → OnErr result (new ≡ old)
    → Steps (forget m) old new result
token_step P m old new (Ok u) r l k reads memory (s, took, is) refused failed = record {
  given = record { reads = ap forget (reads s new.unread is took.split).1; taken = s; took = took };
  refused = tt;
  same_text = tt;
}
token_step P m old new (Err e) r l k reads memory taken refused failed = record {
  given = tt;
  refused = blames_token old (forget m) e r l (λ reason place f. forget_refuses m old.unread reason place (k reason place f)) (λ u y is. let (a, same) = forget_got m u y is in false≢true (memory a y same)) refused;
  same_text = same_of failed;
}

-- ---- blanks

pub gap_given : (old new : Cursor) (result : Result (Unit {0}) Error) → PassesBlanks old new result → OnOk result (Gave (skip between old.unread) tt old new)
gap_given old new (Ok u) k = let (w, took, gap, solid) = k.passed in record { reads = ap (skip between) took.split ∙ gap_read gap solid; taken = w; took = took }
gap_given old new (Err e) k = tt

pub gap_blamed : (old new : Cursor) (result : Result (Unit {0}) Error) → IsInside old → PassesBlanks old new result → IfErr result (RefusesRead old.input (skip between old.unread))
gap_blamed old new (Ok u) r k = tt
gap_blamed old new (Err e) r k = blames_refused old (skip between old.unread) e r (λ x reason place (b, part, shown, fault). in_blanks_other fault) (λ reason place (b, part, shown, fault). blank_refused fault) k.refused

pub blanks_step : (old new : Cursor) (result : Result (Unit {0}) Error) → IsInside old → PassesBlanks old new result → Steps (skip between old.unread) old new result
blanks_step old new (Ok u) r k = record { given = gap_given old new (Ok u) k; refused = tt; same_text = tt }
blanks_step old new (Err e) r k = record { given = tt; refused = gap_blamed old new (Err e) r k; same_text = same_of k.kept }

-- ---- strings

no_other_quote : (c d : ℕ) (r q x : List ℕ) → x ≡ c ∷ r → x ≡ d ∷ q → is_quote c ≡ true → is_quote d ≡ false → ⊥
no_other_quote c d r q x e f h k = let same : c ≡ d = cc in both_ways (is_quote d) k (subst (λ z. is_quote z ≡ true) same h)

-- what is refused at a quote
pub string_fault_refuses : (c : ℕ) (r : List ℕ) → is_quote c ≡ true → (y : List ℕ) (reason : Option ErrorCode) (place : Option (List ℕ)) → y ≡ c ∷ r → FaultyString y reason place → Refuses (string y) y reason place
string_fault_refuses c r h y reason place e (tokens.FaultyString.faulty f) = string_refused f
string_fault_refuses c r h y reason place e (no_quote d q k) = absurd (no_other_quote c d r q y e refl h k)
string_fault_refuses c r h y reason place e string_missing = absurd (cc)

pub string_step : (old new : Cursor) (result : Result (Unit {0}) Error) (c : ℕ) (r : List ℕ) → IsInside old → old.unread ≡ c ∷ r → is_quote c ≡ true → PassesString old new result → Steps (forget (string old.unread)) old new result
string_step old new result c r ready x h k =
    token_step (λ s r. (u : List ℕ) × (escape_free : Bool) × Str s u escape_free) (string old.unread) old new result ready faulty_string_lacks (λ reason place f. string_fault_refuses c r h old.unread reason place x f)
    (λ s y k e. ((k.0, k.1), ap string e ∙ string_complete y k.2))
    (λ a y is. let (s, split, str) = from_sound a y (subst (StringSound (c ∷ r)) (sym (ap string x) ∙ is) (string_sound c r h)) in k.memory s a.0 y a.1 (x ∙ split) str)
    (reordered result k.taken) k.refused k.kept
  where
    from_sound : (a : List ℕ × Bool) (y : List ℕ) → StringSound (c ∷ r) (got a y) → (s : List ℕ) × (c ∷ r ≡ s ++ y) × Str s a.0 a.1
    from_sound a y k = k

    reordered : (result : Result (Unit {0}) Error) → OnOk result ((s u : List ℕ) × (escape_free : Bool) × Took old s new × Str s u escape_free) → OnOk result ((s : List ℕ) × Took old s new × ((u : List ℕ) × (escape_free : Bool) × Str s u escape_free))
    reordered (Ok v) (s, u, escape_free, took, str) = (s, took, (u, escape_free, str))
    reordered (Err e) k = tt

-- ---- numbers

number_refuses : (x : List ℕ) (place : Option (List ℕ)) (reason : Option ErrorCode) → unique.Refused x reason place → Refuses (reading.number x) x reason place
number_refuses x place reason k = (k.place, k.answer, at k.place place k.is_place)
  where
    at : (p : Place) (place : Option (List ℕ)) → PlaceIs x p place → IsAt x place p
    at (here q) place (b, is, e) = rw is e
    at inner place is = rw is tt

-- what is refused at what begins a number
pub number_fault_refuses : (c : ℕ) (r : List ℕ) → (is_sign c || begins_number c) ≡ true → (y : List ℕ) (reason : Option ErrorCode) (place : Option (List ℕ)) → y ≡ c ∷ r → FaultyNumber y reason place → Refuses (reading.number y) y reason place
number_fault_refuses c r h y reason place e (tokens.FaultyNumber.faulty f) = number_refuses y place reason (unique.refused f)
number_fault_refuses c r h y reason place e (no_number d q k) = absurd (let same : c ≡ d = cc in both_ways (is_sign d || begins_number d) k (subst (λ z. (is_sign z || begins_number z) ≡ true) same h))
number_fault_refuses c r h y reason place e number_missing = absurd (cc)

-- the result without the number
abbrev pub without : {A : Type 0} → Result A Error → Result (Unit {0}) Error
without (Ok a) = Ok tt
without (Err e) = Err e

pub number_step : (old new : Cursor) (result : Result (Option ℤ) Error) (c : ℕ) (r : List ℕ) → IsInside old → old.unread ≡ c ∷ r → (is_sign c || begins_number c) ≡ true → PassesNumber old new result → Steps (forget (reading.number old.unread)) old new (without result)
number_step old new result c r ready x h k =
    token_step (λ s r. (n : numbers.Number) × Num s n × NotBegun (lengthens s) r) (reading.number old.unread) old new (without result) ready faulty_number_lacks (λ reason place f. number_fault_refuses c r h old.unread reason place x f)
    (λ s y k e. (k.0, ap reading.number e ∙ complete k.1 y k.2))
    (λ n y is. let (s, split, num, stops) = from_sound n y (subst (SoundNumber (c ∷ r)) (sym (ap reading.number x) ∙ is) (sound (c ∷ r) h)) in ok result (k.memory s y n (x ∙ split) num stops))
    (reordered result k.taken) (refused result k.refused) (kept result k.kept)
  where
    from_sound : (n : numbers.Number) (y : List ℕ) → SoundNumber (c ∷ r) (got n y) → (s : List ℕ) × (c ∷ r ≡ s ++ y) × Num s n × NotBegun (lengthens s) y
    from_sound n y k = k

    ok : (result : Result (Option ℤ) Error) → IsOk result → IsOk (without result)
    ok (Ok z) k = k
    ok (Err e) k = k

    reordered : (result : Result (Option ℤ) Error) → IfOk result (λ found. (s : List ℕ) × (n : numbers.Number) × Took old s new × Num s n × NotBegun (lengthens s) new.unread × (found ≡ whole_in n))
        → OnOk (without result) ((s : List ℕ) × Took old s new × ((n : numbers.Number) × Num s n × NotBegun (lengthens s) new.unread))
    reordered (Ok v) (s, n, took, num, stops, found) = (s, took, (n, num, stops))
    reordered (Err e) k = tt

    refused : (result : Result (Option ℤ) Error) → IfErr result (RefusesToken FaultyNumber old) → IfErr (without result) (RefusesToken FaultyNumber old)
    refused (Ok v) k = tt
    refused (Err e) k = k

    kept : (result : Result (Option ℤ) Error) → OnErr result (new ≡ old) → OnErr (without result) (new ≡ old)
    kept (Ok v) k = tt
    kept (Err e) k = k

-- ---- names

name_not_begun : (c : ℕ) (r : List ℕ) → ((c == 92) || is_identifier_start c) ≡ false → identifier (c ∷ r) ≡ bad (Some codes.ExpectedIdentifier) (here (c ∷ r))
unfolding identifier
name_not_begun c r h = tests _ _ (c == 92) (is_identifier_start c) h
  where
    tests : (e n : Read (List ℕ × Bool)) (a b : Bool) → (a || b) ≡ false → cond a e (cond b n (bad (Some codes.ExpectedIdentifier) (here (c ∷ r)))) ≡ bad (Some codes.ExpectedIdentifier) (here (c ∷ r))
    tests e n true b k = absurd (cc)
    tests e n false true k = absurd (cc)
    tests e n false false k = refl

name_missing_read : identifier [] ≡ bad (Some codes.EofParsingIdentifier) inner
unfolding identifier
name_missing_read = refl

name_read : (x : List ℕ) (a : List ℕ × Bool) (y : List ℕ) → identifier x ≡ got a y → (s : List ℕ) × (c : ℕ) × (r : List ℕ) × (x ≡ s ++ c ∷ r) × Ident s a.0 a.1 × (goes_on_name c ≡ false)
name_read [] a y e = let same : got a y ≡ bad (Some codes.EofParsingIdentifier) inner = sym e ∙ name_missing_read in absurd (cc)
name_read (d ∷ z) a y e = split ((d == 92) || is_identifier_start d) refl
  where
    from_sound : NameSound (d ∷ z) (got a y) → (s : List ℕ) × (c : ℕ) × (r : List ℕ) × (d ∷ z ≡ s ++ c ∷ r) × Ident s a.0 a.1 × (goes_on_name c ≡ false)
    from_sound (s, k, i, (c, r, f, h)) = (s, c, r, k ∙ ap (λ q. s ++ q) f, i, h)

    split : (b : Bool) → ((d == 92) || is_identifier_start d) ≡ b → (s : List ℕ) × (c : ℕ) × (r : List ℕ) × (d ∷ z ≡ s ++ c ∷ r) × Ident s a.0 a.1 × (goes_on_name c ≡ false)
    split true h = from_sound (subst (NameSound (d ∷ z)) e (name_sound d z h))
    split false h = let same : got a y ≡ bad (Some codes.ExpectedIdentifier) (here (d ∷ z)) = sym e ∙ name_not_begun d z h in absurd (cc)

pub name_refuses : (x : List ℕ) (reason : Option ErrorCode) (place : Option (List ℕ)) → FaultyName x reason place → Refuses (identifier x) x reason place
name_refuses x reason place (tokens.FaultyName.faulty f) = name_refused f
name_refuses x reason place (no_name c r h) = (here (c ∷ r), name_not_begun c r h, refl)
name_refuses x reason place name_missing = (inner, name_missing_read, tt)

pub name_step : (old new : Cursor) (result : Result (Unit {0}) Error) → IsInside old → PassesName old new result → Steps (forget (identifier old.unread)) old new result
name_step old new result ready k =
    token_step (λ s r. (u : List ℕ) × (escape_free : Bool) × Ident s u escape_free × (c : ℕ) × (y : List ℕ) × (r ≡ c ∷ y) × (goes_on_name c ≡ false)) (identifier old.unread) old new result ready faulty_name_lacks (name_refuses old.unread)
    (λ s y k e. ((k.0, k.1), ap identifier (e ∙ ap (λ q. s ++ q) k.5) ∙ name_complete k.3 k.4 k.2 k.6 ∙ ap (got (k.0, k.1)) (sym k.5)))
    (λ a y is. let (s, c, r, split, i, h) = name_read old.unread a y is in k.memory s a.0 r c a.1 split i h)
    (reordered result k.taken k.stops) k.refused k.kept
  where
    reordered : (result : Result (Unit {0}) Error) → OnOk result ((s u : List ℕ) × (escape_free : Bool) × Took old s new × Ident s u escape_free) → OnOk result ((c : ℕ) × (r : List ℕ) × (new.unread ≡ c ∷ r) × (goes_on_name c ≡ false))
        → OnOk result ((s : List ℕ) × Took old s new × ((u : List ℕ) × (escape_free : Bool) × Ident s u escape_free × (c : ℕ) × (y : List ℕ) × (new.unread ≡ c ∷ y) × (goes_on_name c ≡ false)))
    reordered (Ok v) (s, u, escape_free, took, i) (c, y, e, h) = (s, took, (u, escape_free, i, c, y, e, h))
    reordered (Err e) k l = tt

-- ---- words

pub word_refuses : (w : List ℕ) (ends differs : ErrorCode) (x : List ℕ) (reason : Option ErrorCode) (place : Option (List ℕ)) → FaultyWord w ends differs x reason place → Refuses (word_at ends differs (tt {0}) w x) x reason place
word_refuses w ends differs x reason place (word_differs p q r c d e h) = (here (c ∷ r), ap (λ z. word_at ends differs tt z (p ++ c ∷ r)) e ∙ differs_at ends differs tt p q r d c h, refl)
word_refuses w ends differs x reason place (word_ends p q d e) = (inner, ap (λ z. word_at ends differs tt z p) e ∙ ends_in ends differs tt p q d, tt)

pub word_step : (w : List ℕ) (ends differs : ErrorCode) (old new : Cursor) (result : Result (Unit {0}) Error) → ends ≢ codes.Failed → differs ≢ codes.Failed → IsInside old → TakesWord w ends differs old new result → Steps (word_at ends differs (tt {0}) w old.unread) old new result
word_step w ends differs old new (Ok u) a b ready k = let took = k.taken in record { given = record { reads = ap (word_at ends differs tt w) took.split ∙ word_complete ends differs tt w new.unread; taken = w; took = took }; refused = tt; same_text = tt }
word_step w ends differs old new (Err e) a b ready k = record { given = tt; refused = blames_refused old (word_at ends differs tt w old.unread) e ready (word_lacks w ends differs a b) (word_refuses w ends differs old.unread) k.refused; same_text = same_of k.kept }
