-- What private clauses say of strings and names.
-- Private.
use Rattle.std.specs.Prelude.{◌≡◌, ◌≤◌, ℕ, zero, suc, Bool, true, false, cond, not, ◌&&◌, ◌==◌, List, [], ◌∷◌, ◌++◌, length, Some, Result, Ok, Err, ⊤}
use denote.Ref.{Bor}
use Rattle.std.specs.Str.{IsUtf8, chars, encode_utf8_all}
use Rattle.json5_grammar.specs.Language.Characters.{backslash, double_quote, single_quote, NotBegun, Each, is_identifier_start, is_identifier_part}
use Rattle.json5_grammar.specs.declared.error_code.ErrorCode.{ErrorCode}
use Rattle.json5_grammar.specs.declared.error_code.ErrorCode.TheVariants.{EofParsingIdentifier, EofParsingString, ExpectedString}
use Rattle.json5_grammar.specs.Language.Strings.{is_quote, is_raw}
use Rattle.json5_grammar.specs.Model.Reading.{Read, and_then, here, inner, bad}
use Rattle.json5_grammar.specs.Model.ReadTexts.{escape_at, name_escape, fit, one_char, put, string, identifier, parts}
use Rattle.json5_tokens.specs.declared.refusal.Refusal.{Refusal}
use Rattle.json5_tokens.specs.declared.strings_and_names.Quote.{Quote}
use Rattle.json5_tokens.specs.declared.strings_and_names.Quote.TheVariants as quotes
use Rattle.json5_tokens.specs.declared.strings_and_names.Kind.{Kind}
use Rattle.json5_tokens.specs.declared.strings_and_names.Kind.TheVariants as kind
use Rattle.json5_tokens.specs.declared.strings_and_names.Stop.{Stop}
use Rattle.json5_tokens.specs.declared.strings_and_names.Stop.TheVariants as stop
use Rattle.json5_tokens.specs.declared.strings_and_names.EscapeStep.{EscapeStep}
use Rattle.json5_tokens.specs.Outcome.{outcome}
use Rattle.json5_tokens.specs.RefusalOutcomes.{Refuses}
use Rattle.json5_tokens.specs.Scan.{AtEscape, in_list}
use Rattle.json5_tokens.specs.TokenResults.{GivesValue, RefusesByCode, RefusesByFault}

abbrev pub quote_of : Quote → ℕ
quote_of quotes.Double = double_quote
quote_of quotes.Single = single_quote

-- what is read after a character
abbrev pub after_first_char : Kind → Kind
after_first_char kind.Name = kind.NameRest
after_first_char kind.NameRest = kind.NameRest
after_first_char (kind.String q) = kind.String q

-- what is read after these characters
abbrev pub past : Kind → List ℕ → Kind
past k [] = k
past k (c ∷ r) = after_first_char k

-- the code of an input that ends in it
abbrev pub ends_early : Kind → ErrorCode
ends_early kind.Name = EofParsingIdentifier
ends_early kind.NameRest = EofParsingIdentifier
ends_early (kind.String q) = EofParsingString

-- a name, its rest, or what follows the first quote of a string
abbrev pub text_at : Kind → List ℕ → Read (List ℕ × Bool)
text_at kind.Name x = identifier x
text_at kind.NameRest x = parts (suc (length x)) x
text_at (kind.String q) x = string (quote_of q ∷ x)

-- a string, where one is expected
unfoldable pub string_at : List ℕ → Read (List ℕ × Bool)
string_at [] = bad (Some EofParsingString) inner
string_at (c ∷ r) = cond (is_quote c) (string (c ∷ r)) (bad (Some ExpectedString) (here (c ∷ r)))

-- the quote q opens a string at the front of x, and the body follows it
pub record IsOpened (x : List ℕ) (q : Quote) (body : List ℕ) : Type 0 where
  pub split : x ≡ quote_of q ∷ chars body
  pub read : string_at x ≡ text_at (kind.String q) (chars body)
  pub text : IsUtf8 body

-- the quote in front and what follows it; or the fault
abbrev pub AnswersQuote : List ℕ → Result (Quote × Bor (List ℕ)) Refusal → Type 0
AnswersQuote x (Ok p) = IsOpened x p.0 p.1.now
AnswersQuote x (Err e) = RefusesByCode e (string_at x)

-- ---- characters that spell themselves

-- a character that may begin a name, or continue one
abbrev pub fits_name : Bool → ℕ → Bool
fits_name true c = is_identifier_start c
fits_name false c = is_identifier_part c

abbrev pub is_raw_part : ℕ → Bool
is_raw_part c = not (c == backslash) && is_identifier_part c

-- a character that spells itself there
abbrev pub is_raw_in : Kind → ℕ → Bool
is_raw_in kind.Name c = not (c == backslash) && is_identifier_start c
is_raw_in kind.NameRest c = is_raw_part c
is_raw_in (kind.String q) c = is_raw (quote_of q) c

-- characters that spell themselves from there on
abbrev pub Run : Kind → List ℕ → Type 0
Run k [] = ⊤
Run k (c ∷ r) = (is_raw_in k c ≡ true) × Each (is_raw_in (after_first_char k)) r

-- all characters in front that spell themselves are passed over
pub record SkipsRaw (k : Kind) (whole rest : List ℕ) : Type 0 where
  pub passed : List ℕ
  pub split : chars whole ≡ passed ++ chars rest
  pub each : Run k passed
  pub stops : NotBegun (is_raw_in (past k passed)) (chars rest)

-- ---- escapes

-- a name's escape, x from the backslash on and y after it, whose character a name may have there
abbrev pub item_of_name : Bool → List ℕ → List ℕ → Read (List ℕ)
item_of_name first x y = and_then (and_then (name_escape x y) (fit (fits_name first) x)) one_char

-- what an escape spells, x from the backslash on and y after it
abbrev pub item : Kind → List ℕ → List ℕ → Read (List ℕ)
item kind.Name x y = item_of_name true x y
item kind.NameRest x y = item_of_name false x y
item (kind.String q) x y = escape_at x y

-- ---- where a run ends

-- reading gives u up to there
abbrev pub ReadsUpTo : Read (List ℕ × Bool) → List ℕ → Bool → Stop → Type 0
ReadsUpTo reading u escape_free (stop.End rest) = GivesValue reading (u, escape_free) rest.now
ReadsUpTo reading u escape_free (stop.Escape k escape after) = (reading ≡ put u escape_free (text_at k (chars escape.now))) × AtEscape escape.now after.now

-- how many characters are left to be read there
abbrev pub left_in : Stop → ℕ
left_in (stop.End rest) = zero
left_in (stop.Escape k escape after) = length (chars escape.now)

-- where the run in front ends, with nothing before it; or the fault
abbrev pub AnswersStop : Kind → List ℕ → Result Stop Refusal → Type 0
AnswersStop k whole (Ok end) = ReadsUpTo (text_at k (chars whole)) [] true end × (left_in end ≤ length (chars whole))
AnswersStop k whole (Err e) = RefusesByCode e (text_at k (chars whole))

-- the run in front ends there
pub record IsRun (k : Kind) (whole run : List ℕ) (end : Stop) : Type 0 where
  pub goes_on : ReadsUpTo (text_at k (chars whole)) (chars run) true end
  pub left : left_in end ≤ length (chars whole)
  pub text : IsUtf8 run

-- the run in front and where it ends; or the fault
abbrev pub AnswersRun : Kind → List ℕ → Result (Bor (List ℕ) × Stop) Refusal → Type 0
AnswersRun k whole (Ok p) = IsRun k whole p.0.now p.1
AnswersRun k whole (Err e) = RefusesByCode e (text_at k (chars whole))

-- the escape in front spells this, and the run after it ends there
pub record IsEscapeStep (k : Kind) (escape after : List ℕ) (step : EscapeStep) : Type 0 where
  pub goes_on : ReadsUpTo (text_at k (chars escape)) (in_list step.spelled ++ chars step.run.now) false step.stop
  pub left : left_in step.stop ≤ length (chars after)
  pub text : IsUtf8 step.run.now

-- the escape in front and the run after it; or the fault
abbrev pub AnswersStep : Kind → List ℕ → List ℕ → Result EscapeStep Refusal → Type 0
AnswersStep k escape after (Ok step) = IsEscapeStep k escape after step
AnswersStep k escape after (Err e) = RefusesByFault e (text_at k (chars escape))

-- ---- several steps

-- u is spelled from the one place up to the other, where no character follows that spells itself
pub record IsReadTo (k : Kind) (whole u rest : List ℕ) : Type 0 where
  pub escape_free : Bool
  pub read : text_at k (chars whole) ≡ put u escape_free (text_at k (chars rest))
  pub stops : NotBegun (is_raw_in k) (chars whole) → NotBegun (is_raw_in k) (chars rest)
  pub fewer : length (chars rest) ≤ length (chars whole)
  pub text : IsUtf8 rest

-- what is spelled up to there is added
abbrev pub AddsUpTo : Kind → List ℕ → List ℕ → List ℕ → List ℕ → Type 0
AddsUpTo k whole old new rest = (u : List ℕ) × IsReadTo k whole u rest × (new ≡ old ++ encode_utf8_all u)

-- u is spelled from the escape in front up to the end of a run
pub record IsStepped (k : Kind) (escape after u : List ℕ) (end : Stop) : Type 0 where
  pub escape_free : Bool
  pub goes_on : ReadsUpTo (text_at k (chars escape)) u escape_free end
  pub left : left_in end ≤ length (chars after)

-- where that run ends; or the fault
abbrev pub PassesSteps : Kind → List ℕ → List ℕ → Result Stop Refusal → Type 0
PassesSteps k escape after (Ok end) = (u : List ℕ) × IsStepped k escape after u end
PassesSteps k escape after (Err e) = RefusesByFault e (text_at k (chars escape))

-- where that run ends, and what is spelled up to there is added; or the fault
abbrev pub AddsSteps : Kind → List ℕ → List ℕ → List ℕ → List ℕ → Result Stop Refusal → Type 0
AddsSteps k escape after old new (Ok end) = (u : List ℕ) × IsStepped k escape after u end × (new ≡ old ++ encode_utf8_all u)
AddsSteps k escape after old new (Err e) = Refuses e (outcome (text_at k (chars escape)))
