-- Written scalars read back: each is a value, and alone a document.
use Rattle.std.proofs.Common.{ℕ, ◌≤◌, Bool, true, false, not, List, [], sym, arith}
use Rattle.std.specs.Prelude.{if◌then◌else◌}
use Rattle.std.proofs.lemmas.List.{append-nil}
use Rattle.json5_grammar.specs.Language.Blanks.{empty, LastBlanks}
use Rattle.json5_grammar.specs.Language.Numbers.{Number, whole, decimal}
use Rattle.json5_grammar.specs.Written.NumberText.{IsNumber, number_text}
use Rattle.json5_grammar.specs.Written.Quoting.{quoted_text}
use Rattle.json5_grammar.specs.Language.Strings.{holds_backslash}
use Rattle.json5_grammar.specs.Language.Trees.{Tree, null, boolean, number, text, depth}
use Rattle.json5_grammar.specs.Language.Values.{Val, is_null, is_true, is_false, is_number, is_text, null_text, true_text, false_text}
use Rattle.json5_grammar.specs.Language.Documents.{Doc}
use Rattle.json5_grammar.proofs.WholesWritten.{whole_text}
use Rattle.json5_grammar.proofs.DecimalsWritten.{printed_decimal}
use Rattle.json5_grammar.proofs.TextsWritten.{quoted_is}

-- a Boolean's word is its value
pub boolean_value : (b : Bool) → Val (if b then true_text else false_text) (boolean b)
boolean_value true = is_true
boolean_value false = is_false

-- a number's written text is its value
pub number_value : (n : Number) → IsNumber n → Val (number_text n) (number n)
number_value (whole z) h = is_number (whole_text z h)
number_value (decimal d) h = is_number (printed_decimal d h)

-- a text between its quotes is its value
pub text_value : (u : List ℕ) → Val (quoted_text u) (text u (not (holds_backslash (quoted_text u))))
text_value u = is_text (quoted_is u)

-- a value alone is a document
pub alone : (limit : ℕ) (s : List ℕ) (t : Tree) → Val s t → depth t ≤ limit → Doc limit s t
alone limit s t v l = record { before = []; text = s; after = []; whole = sym (append-nil s); blank = empty; value = v; last = LastBlanks.blanks empty; shallow = l }

-- `null` alone is a document
pub null_document : (limit : ℕ) → Doc limit null_text null
null_document limit = alone limit null_text null is_null (omega arith)

-- a Boolean's word alone is a document
pub boolean_document : (limit : ℕ) (b : Bool) → Doc limit (if b then true_text else false_text) (boolean b)
boolean_document limit b = alone limit _ (boolean b) (boolean_value b) (omega arith)

-- a number's written text alone is a document
pub number_document : (limit : ℕ) (n : Number) → IsNumber n → Doc limit (number_text n) (number n)
number_document limit n h = alone limit (number_text n) (number n) (number_value n h) (omega arith)

-- a text between its quotes alone is a document
pub text_document : (limit : ℕ) (u : List ℕ) → Doc limit (quoted_text u) (text u (not (holds_backslash (quoted_text u))))
text_document limit u = alone limit (quoted_text u) _ (text_value u) (omega arith)
