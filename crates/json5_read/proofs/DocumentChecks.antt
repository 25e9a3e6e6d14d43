-- A whole input is checked: blanks, a value that is passed over, and blanks again.
use Rattle.std.proofs.Common.{◌≡◌, ℕ, List, [], refl, ap, ◌∙◌, Option, Some, None, inr}
use Rattle.std.specs.Prelude.{Ok, Err, slice_get}
use Rattle.json5_grammar.specs.declared.error_code.ErrorCode.{ErrorCode}
use Rattle.json5_grammar.specs.declared.error_code.ErrorCode.TheVariants.{TrailingCharacters}
use Rattle.json5_grammar.specs.Language.Trees.{Tree}
use Rattle.json5_grammar.specs.Model.Reading.{Read, Place, got, bad}
use Rattle.json5_grammar.specs.Model.ReadSteps.{forget}
use Rattle.json5_grammar.specs.Model.ReadValues.{read}
use Rattle.json5_grammar.proofs.DocumentOrFault.{document_sound}
use Rattle.json5_types.specs.declared.error.Error.{Error}
use Rattle.json5_types.specs.Errors.{code, kind_of}
use Rattle.json5_tokens.specs.Cursor.{Cursor, IsPositioned, Refused}
use Rattle.json5_tokens.specs.TokenFaults.{FaultyBlanks}
use Rattle.json5_read.specs.OwnedReads.{as_datum, datum_at}
use Rattle.json5_read.specs.ModelSteps.{RefusesRead, Gave, value_at}
use Rattle.json5_read.proofs.ModelSteps.{blames_as}
use Rattle.json5_read.specs.DocumentReads.{unread_text, ReadsText}
use Rattle.json5_read.specs.DocumentChecks.{ChecksText}
use Rattle.json5_read.proofs.DocumentReads.{SkippedGap, front_refused, value_refused, refused_whole, rest_blamed, whole_document, character_blamed}

-- what reading refuses a check refuses
as_check : (limit : ℕ) (x : List ℕ) (e : Error) → ReadsText limit x (Err e) → ChecksText limit x (Err e)
as_check limit x e r = record { sound = tt; complete = r.complete; refused = r.refused }

-- a tree that was forgotten
tree_got : (m : Read Tree) (r : List ℕ) → forget m ≡ got tt r → (t : Tree) × (m ≡ got t r)
tree_got (got t y) r e = let k : y ≡ r = cc in (t, ap (got t) k)
tree_got (bad c p) r e = absurd (cc)

datum_bad : (m : Read Tree) (c : Option ErrorCode) (p : Place) → forget m ≡ bad c p → as_datum m ≡ bad c p
datum_bad (got t r) c p e = absurd (cc)
datum_bad (bad d q) c p e = let a : d ≡ c = cc in let b : q ≡ p = cc in ap (λ z. bad z q) a ∙ ap (λ z. bad c z) b

-- a comment before the value is refused
pub front_unchecked : (limit : ℕ) (x : List ℕ) (e : Error) → Refused FaultyBlanks (unread_text x) e → ChecksText limit x (Err e)
front_unchecked limit x e f = as_check limit x e (front_refused limit x e f)

module _ (limit : ℕ) (x : List ℕ) (mid : Cursor) (p : SkippedGap (unread_text x) mid) where
  -- the value is refused
  pub value_unchecked : (e : Error) → RefusesRead mid.input (value_at limit mid) e → ChecksText limit x (Err e)
  value_unchecked e b =
      as_check limit x e (value_refused limit x mid p e (inr (blames_as mid.input mid.input (value_at limit mid) (datum_at limit mid) e refl (λ c q is. datum_bad (read limit mid.unread) c q is) b)))

  module _ (new : Cursor) (gave : Gave (value_at limit mid) tt mid new) where
    found : (t : Tree) × (read limit mid.unread ≡ got t new.unread)
    found = tree_got (read limit mid.unread) new.unread gave.reads

    -- a comment after the value is refused
    pub rest_unchecked : (e : Error) → Refused FaultyBlanks new e → ChecksText limit x (Err e)
    rest_unchecked e f = as_check limit x e (refused_whole limit x e (rest_blamed limit x mid p found.0 new gave.taken found.1 gave.took e f))

    -- nothing follows the blanks
    pub all_checked : (last : Cursor) → SkippedGap new last → slice_get last.unread 0 ≡ None → ChecksText limit x (Ok tt)
    all_checked last q none = record {
      sound = (found.0, document_sound limit x found.0 [] (whole_document limit x mid p found.0 new gave.taken found.1 gave.took last q none));
      complete = λ t d. tt;
      refused = tt;
    }

    -- this character follows them
    pub character_unchecked : (last : Cursor) → SkippedGap new last → (c : ℕ) (e : Error) → slice_get last.unread 0 ≡ Some c → kind_of e ≡ code TrailingCharacters → IsPositioned last (Some []) e → ChecksText limit x (Err e)
    character_unchecked last q c e some kind placed = as_check limit x e (refused_whole limit x e (character_blamed limit x mid p found.0 new gave.taken found.1 gave.took last q c e some kind placed))
