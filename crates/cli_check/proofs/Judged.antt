-- The verdict on a document, from the value to the file.
use Rattle.std.proofs.Common.{◌≡◌, ℕ, List, Option, Some, None, Result, Ok, Err, false, sym, ◌∙◌, subst}
use Rattle.std.specs.Prelude.{IfSome}
use Rattle.std.specs.Str.{chars, IsUtf8}
use Rattle.json5_grammar.specs.declared.error_code.ErrorCode.TheVariants as codes
use Rattle.json5_grammar.specs.Language.Documents.{Doc, max_depth}
use Rattle.json5_grammar.specs.Language.Trees.{Tree}
use Rattle.json5_read.specs.TreeMeanings.{datum_of}
use Rattle.json5_types.specs.ValueMeanings.{Datum}
use Rattle.json5_types.specs.declared.error.Error.{Error}
use Rattle.json5_types.specs.Errors.{FaultKind, code, custom, failed_write, kind_of}
use Rattle.json5_tokens.specs.Cursor.{IsOutOfMemory}
use Rattle.json5_schema.specs.Conformance.{Conforms}
use Rattle.cli_files.specs.declared.failure.Failure.TheVariants as failure
use Rattle.cli_files.specs.Failures.{failure_of_kind}
use Rattle.cli_files.specs.Stores.{Known}
use Rattle.cli_check.specs.declared.options.Options.{Options}
use Rattle.cli_check.specs.declared.verdict.Verdict.{Verdict}
use Rattle.cli_check.specs.declared.verdict.Verdict.TheVariants as verdict
use Rattle.cli_check.specs.declared.trouble.Trouble.{Trouble}
use Rattle.cli_check.specs.declared.trouble.Trouble.TheVariants as trouble
use Rattle.cli_check.specs.Troubles.{IsReadTrouble, IsUnshownTrouble, Refuses, RefusesError}
use Rattle.cli_check.specs.Schemas.{SchemaFor}
use Rattle.cli_check.specs.Checks.{JudgesBy, JudgesValue, JudgesText, JudgesInput}

-- what can't be shown is no verdict
unshown_by : (s x : Datum) (t : Trouble) → IsUnshownTrouble t → JudgesBy s x (Err t)
unshown_by s x trouble.NoMemory k = tt
unshown_by s x trouble.Write k = tt
unshown_by s x trouble.Read k = k
unshown_by s x (trouble.Unopened why) k = k
unshown_by s x (trouble.Undecided e) k = absurd k
unshown_by s x (trouble.Schema t) k = k

pub differing : (s x : Datum) (r : Result Verdict Trouble) → Conforms s x false → Refuses r → JudgesBy s x r
differing s x (Ok v) c same = subst (λ u. JudgesBy s x (Ok u)) (sym same) c
differing s x (Err t) c k = unshown_by s x t k

-- a text that is refused because memory ran out isn't blamed
pub not_memory : (k : FaultKind) (e f : Error) → kind_of e ≡ k → failure_of_kind k e ≡ failure.Text f → ¬ (IsOutOfMemory e)
not_memory (code codes.OutOfMemory) e f is t = λ m. absurd (cc)
not_memory (code c) e f is t = λ m. let same : code c ≡ code codes.OutOfMemory = sym is ∙ m in absurd (cc)
not_memory (custom text) e f is t = λ m. let same : custom text ≡ code codes.OutOfMemory = sym is ∙ m in absurd (cc)
not_memory failed_write e f is t = λ m. let same : failed_write ≡ code codes.OutOfMemory = sym is ∙ m in absurd (cc)

pub text_refused : (e : Error) (r : Result Verdict Trouble) → ¬ (IsOutOfMemory e) → Refuses r → RefusesError e r
text_refused e (Ok v) other is = (is, other)
text_refused e (Err t) other k = k

module _ (known : Known) (given : Option Datum) (o : Options) (name : List ℕ) where
  -- the schema that was used is the one for the document
  pub value_judged : (s x : Datum) (r : Result Verdict Trouble) → SchemaFor known given o name x s → JudgesBy s x r → JudgesValue known given o name x r
  value_judged s x (Ok v) own c = (s, own, c)
  value_judged s x (Err trouble.NoMemory) own c = tt
  value_judged s x (Err trouble.Write) own c = tt
  value_judged s x (Err trouble.Read) own c = c
  value_judged s x (Err (trouble.Unopened why)) own c = c
  value_judged s x (Err (trouble.Undecided e)) own c = ((s, own), c)
  value_judged s x (Err (trouble.Schema t)) own c = absurd c

  -- a document means one thing
  pub text_judged : (text : List ℕ) (x : Datum) (t : Tree) (r : Result Verdict Trouble) → IsUtf8 text → Doc max_depth (chars text) t → x ≡ datum_of t
      → ((u : Tree) → Doc max_depth (chars text) u → x ≡ datum_of u) → JudgesValue known given o name x r → JudgesText known given o name text r
  text_judged text x t (Ok verdict.Conforms) utf8 doc is one (s, f, c) = (x, s, (utf8, (t, doc, is)), f, c)
  text_judged text x t (Ok verdict.Differs) utf8 doc is one (s, f, c) =
      λ y (u8, (u, d, e)). let same : x ≡ y = one u d ∙ sym e in (s, subst (λ z. SchemaFor known given o name z s) same f, subst (λ z. Conforms s z false) same c)
  text_judged text x t (Err trouble.NoMemory) utf8 doc is one c = tt
  text_judged text x t (Err trouble.Write) utf8 doc is one c = tt
  text_judged text x t (Err trouble.Read) utf8 doc is one c = absurd c
  text_judged text x t (Err (trouble.Unopened why)) utf8 doc is one c = absurd c
  text_judged text x t (Err (trouble.Undecided e)) utf8 doc is one c = (x, (utf8, (t, doc, is)), c)
  text_judged text x t (Err (trouble.Schema f)) utf8 doc is one c = (x, (utf8, (t, doc, is)), c)

  unshown_text : (text : List ℕ) (t : Trouble) → IsUnshownTrouble t → JudgesText known given o name text (Err t)
  unshown_text text trouble.NoMemory k = tt
  unshown_text text trouble.Write k = tt
  unshown_text text trouble.Read k = absurd k
  unshown_text text (trouble.Unopened why) k = absurd k
  unshown_text text (trouble.Undecided e) k = absurd k
  unshown_text text (trouble.Schema t) k = absurd k

  pub no_text : (bytes : List ℕ) (r : Result Verdict Trouble) → ¬ (IsUtf8 bytes) → Refuses r → JudgesText known given o name bytes r
  no_text bytes (Ok v) none is = subst (λ u. JudgesText known given o name bytes (Ok u)) (sym is) (λ x (utf8, (t, doc, e)). absurd (none utf8))
  no_text bytes (Err t) none k = unshown_text bytes t k

  pub no_document : (text : List ℕ) (e : Error) (r : Result Verdict Trouble) → ((t : Tree) → Doc max_depth (chars text) t → IsOutOfMemory e) → RefusesError e r → JudgesText known given o name text r
  no_document text e (Ok v) complete (is, other) =
      subst (λ u. JudgesText known given o name text (Ok u)) (sym is) (λ x (utf8, (t, doc, same)). absurd (other (complete t doc)))
  no_document text e (Err t) complete k = unshown_text text t k

  read_judged : (text : List ℕ) (r : Result Verdict Trouble) → JudgesText known given o name text r → JudgesInput known given o name (Some text) r
  read_judged text (Ok v) k = k
  read_judged text (Err trouble.NoMemory) k = tt
  read_judged text (Err trouble.Write) k = tt
  read_judged text (Err trouble.Read) k = tt
  read_judged text (Err (trouble.Unopened why)) (x, m, k) = k
  read_judged text (Err (trouble.Undecided e)) k = k
  read_judged text (Err (trouble.Schema t)) k = k

  pub input_judged : (input : Option (List ℕ)) (bytes : List ℕ) (r : Result Verdict Trouble) → IfSome input (λ whole. bytes ≡ whole) → JudgesText known given o name bytes r
      → JudgesInput known given o name input r
  input_judged (Some whole) bytes r all k = read_judged whole r (subst (λ l. JudgesText known given o name l r) all k)
  input_judged None bytes (Ok v) all k = tt
  input_judged None bytes (Err trouble.NoMemory) all k = tt
  input_judged None bytes (Err trouble.Write) all k = tt
  input_judged None bytes (Err trouble.Read) all k = tt
  input_judged None bytes (Err (trouble.Unopened why)) all (x, m, k) = k
  input_judged None bytes (Err (trouble.Undecided e)) all k = tt
  input_judged None bytes (Err (trouble.Schema t)) all k = tt

  pub unread : (input : Option (List ℕ)) (t : Trouble) → IsReadTrouble t → JudgesInput known given o name input (Err t)
  unread None trouble.NoMemory k = tt
  unread (Some text) trouble.NoMemory k = tt
  unread input trouble.Read k = tt
  unread input trouble.Write k = absurd k
  unread input (trouble.Unopened why) k = k
  unread input (trouble.Undecided e) k = absurd k
  unread input (trouble.Schema t) k = absurd k
