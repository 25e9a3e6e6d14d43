-- What a document that is spelled anew keeps, and why it isn't made.
use Rattle.std.proofs.Common.{◌≡◌, ℕ, Bool, true, false, List, refl, ap, sym, ◌∙◌, subst}
use Rattle.std.specs.Prelude.{◌&&◌, not, Err}
use Rattle.std.specs.Str.{chars}
use Rattle.json5_grammar.specs.Language.Documents.{Doc, max_depth}
use Rattle.json5_grammar.specs.Language.Trees.{Tree}
use Rattle.json5_types.specs.declared.error.Error.{Error}
use Rattle.json5_types.specs.ValueMeanings.{Datum}
use Rattle.json5_read.specs.DocumentReads.{IsRefused, ReadsText}
use Rattle.json5_read.specs.TreeMeanings.{datum_of}
use Rattle.json5_lexemes.specs.Plain.{PlainText}
use Rattle.json5_lexemes.proofs.PlainDocuments.{bare_document, commented_document}
use Rattle.json5_styles.specs.JsonTexts.{is_json}
use Rattle.json5_convert.specs.Respelled.{IsJson, IsLost, IsMade, IsOfText, IsRespelled, RefusesRespelling, loses_number}
use Rattle.json5_convert.specs.Spellings.{has_comments, has_json_numbers}
use Rattle.json5_convert.specs.declared.faults.RespellError.{RespellError}
use Rattle.json5_convert.specs.declared.faults.RespellError.TheVariants as error
use Rattle.json5_convert.specs.declared.spelling.Spelling.{Spelling}

-- a plain document is JSON by its grammar
is_json_text : (comments : Bool) (text : List ℕ) (t : Tree) → Doc max_depth (chars text) t → PlainText comments text → IsJson comments (chars text)
is_json_text false text t d p = bare_document max_depth (chars text) t d p
is_json_text true text t d p = commented_document max_depth (chars text) t d p

pub respelled : (s : Spelling) (x y : List ℕ) → IsMade s x y → IsRespelled s x y
respelled s x y m = record { means = m.means; json = λ asked. is_json_text (has_comments s) y m.means.other m.means.respelled (m.plain asked) }

is_then : (b : Bool) → not b ≡ false → b ≡ true
is_then true e = refl
is_then false e = absurd (cc)

is_not : (b : Bool) → not b ≡ true → b ≡ false
is_not true e = absurd (cc)
is_not false e = refl

both : (a b : Bool) → (a && b) ≡ true → (a ≡ true) × (b ≡ true)
both true b e = (refl, e)
both false b e = absurd (cc)

-- ---- numbers

-- the text is a document of this meaning
abbrev MeansValue : Datum → (text : List ℕ) → Type 0
MeansValue d text = (t : Tree) × Doc max_depth (chars text) t × (d ≡ datum_of t)

module _ (s : Spelling) (x : List ℕ) (d : Datum) (m : MeansValue d x) where
  pub lost : loses_number s d ≡ true → (r : RespellError) → IsLost r → RefusesRespelling s x r
  lost said error.NoMemory l = tt
  lost said (error.Number p) l =
      let (t, a, e) = m in
      let (asked, lacks) = both (has_json_numbers s) (not (is_json d)) said in
      (asked, (t, a, ap is_json (sym e) ∙ is_not (is_json d) lacks))
  lost said error.Failed l = absurd l
  lost said (error.Text f) l = absurd l

  pub failed : loses_number s d ≡ false → RefusesRespelling s x error.Failed
  failed said = let (t, a, e) = m in (t, a, λ asked. let k : not (is_json d) ≡ false = ap (λ z. z && not (is_json d)) (sym asked) ∙ said in ap is_json (sym e) ∙ is_then (is_json d) k)

-- ---- a text that is no document

pub unread : (s : Spelling) (x : List ℕ) (e : Error) (r : RespellError) → ReadsText max_depth (chars x) (Err e) → IsOfText e r → RefusesRespelling s x r
unread s x e error.NoMemory reads l = tt
unread s x e (error.Text f) reads (same, other) = (subst (IsRefused (chars x)) (sym same) reads.refused, λ t d. other (reads.complete t d))
unread s x e (error.Number p) reads l = absurd l
unread s x e error.Failed reads l = absurd l
