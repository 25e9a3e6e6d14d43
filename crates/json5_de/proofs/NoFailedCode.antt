-- No fault of the input is that a reader had failed.
use Rattle.std.proofs.Common.{◌≢◌, ℕ, Bool, false, List, ◌∷◌, Option, Some}
use Rattle.json5_grammar.specs.declared.error_code.ErrorCode.{ErrorCode}
use Rattle.json5_grammar.specs.declared.error_code.ErrorCode.TheVariants as codes
use Rattle.json5_grammar.specs.Language.Numbers.{Number}
use Rattle.json5_de.specs.Faults.{NotNumber, faulty_number, other_number, NotText, faulty_text, other_text, Trailing, trailing}
use Rattle.json5_read.specs.declared.brackets.BracketPair.{BracketPair}
use Rattle.json5_de.specs.BracketSigns.{AreSigns}
use Rattle.json5_de.specs.Arrays.{NotClosed, NoBracket, other_sign, bracket_missing, not_here, after_comma, NotOpened, no_bracket, text_ends, too_deep}
use Rattle.json5_de.specs.OptionFaults.{NoOption, option_missing, faulty_null}
use Rattle.json5_grammar.specs.Language.Values.{null_text}
use Rattle.json5_read.proofs.FoundEntries.{after_lacks}
use Rattle.json5_read.proofs.NoFailedCode.{Lacks, word_lacks, faulty_number_lacks, faulty_string_lacks}

pub number_lacks : {C : Type 0} (f : Number → Option C) → Lacks (NotNumber f)
number_lacks f x reason place (faulty_number k) = faulty_number_lacks x reason place k
number_lacks f x reason place (other_number r k stops none) = λ e. absurd (cc)

-- ---- strings

pub text_lacks : {C : Type 0} (other : Option ErrorCode) → other ≢ Some codes.Failed → (f : List ℕ → Bool → Option C) → Lacks (NotText other f)
text_lacks other h f x reason place (faulty_text k) = faulty_string_lacks x reason place k
text_lacks other h f x reason place (other_text r str none) = h

-- ---- brackets

some_other : (c : ErrorCode) → c ≢ codes.Failed → Some c ≢ Some codes.Failed
some_other c h e = h (cc)

bracket_lacks : (b : BracketPair) → AreSigns b → (comma : Bool) → Lacks (NoBracket b comma)
bracket_lacks b k comma x reason place (other_sign c r h l) = some_other b.not_closed k.other_not_closed
bracket_lacks b k comma x reason place bracket_missing = some_other b.ends k.other_ends

pub closing_lacks : (b : BracketPair) → AreSigns b → (comma_due : Bool) → Lacks (NotClosed b comma_due)
closing_lacks b k comma_due x reason place (not_here f) = bracket_lacks b k comma_due x reason place f
closing_lacks b k comma_due x reason place (after_comma {x = y} {place = p} h f) = after_lacks (bracket_lacks b k false) y reason p f

pub opening_lacks : (b : BracketPair) → AreSigns b → (level : ℕ) → Lacks (NotOpened b level)
opening_lacks b k level x reason place (no_bracket c r h) = some_other b.not_opened k.other_not_opened
opening_lacks b k level x reason place text_ends = some_other b.ends k.other_ends
opening_lacks b k level x reason place (too_deep r full) = λ e. absurd (cc)

-- ---- where an option or the end is expected

pub option_lacks : Lacks NoOption
option_lacks x reason place option_missing = λ e. absurd (cc)
option_lacks x reason place (faulty_null {r = r} f) = word_lacks null_text codes.EofParsingNull codes.ExpectedNull (λ e. absurd (cc)) (λ e. absurd (cc)) (0x6E ∷ r) reason place f

pub trailing_lacks : Lacks Trailing
trailing_lacks x reason place (trailing c r) = λ e. absurd (cc)
