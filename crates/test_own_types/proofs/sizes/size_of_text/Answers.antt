-- What is written of a size is read without memory.
use Rattle.std.proofs.Common.{◌≡◌, ◌<◌, ◌^◌, ℕ, true, refl, Some, Ok, Err, codes}
use Rattle.std.specs.Prelude.{Result, MatchResult, IsOk, IsOkAnd}
use Rattle.std.proofs.lemmas.Bool.{false≢true}
use Rattle.json5.specs.Collections.{object_of}
use Rattle.json5.specs.Convert.{unsigned_below}
use Rattle.json5.specs.Cursor.{IsOutOfMemory}
use Rattle.json5.specs.EscapeFreeMarks.{marks}
use Rattle.json5.specs.Error.{Error}
use Rattle.json5.specs.Fields.{required, and_field}
use Rattle.json5.specs.Spares.{struct_free, spares_both, spares_field}
use Rattle.json5.specs.TokenKinds.{every_tree}
use Rattle.json5.specs.WrittenTrees.{natural}
use Rattle.json5.proofs.NamesBack.{plain_name}
use Rattle.json5.proofs.ReadsBack.{natural_back}
use Rattle.json5.proofs.StructsBack.{struct_back, and_back, required_back}
use Rattle.test_own_types.specs.Written.{IsSize, size_tree}
use Rattle.test_own_types.specs.declared.sizes.Size.{Size}
use Rattle.test_own_types.proofs.sizes.size_of_text.Goals as goal

size_back : (w h : ℕ) → w < 2 ^ 32 → h < 2 ^ 32 → object_of (and_field (required (codes "width") (unsigned_below (2 ^ 32))) (required (codes "height") (unsigned_below (2 ^ 32)))) (marks (size_tree w h)) ≡ Some (w, h)
size_back w h small low = struct_back refl
    (and_back (required_back (codes "width") (unsigned_below (2 ^ 32)) (natural w) refl (natural_back (2 ^ 32) w small))
    (required_back (codes "height") (unsigned_below (2 ^ 32)) (natural h) refl (natural_back (2 ^ 32) h low)))

size_free : (w h : ℕ) → w < 2 ^ 32 → h < 2 ^ 32 → struct_free (spares_both (spares_field (unsigned_below (2 ^ 32)) every_tree) (spares_field (unsigned_below (2 ^ 32)) every_tree)) (marks (size_tree w h)) ≡ true
size_free w h small low = rw (plain_name (codes "width") refl refl, plain_name (codes "height") refl refl, natural_back (2 ^ 32) w small, natural_back (2 ^ 32) h low) refl

-- a call that needs no memory returns it
returned : (w h : ℕ) (result : Result Size Error) → MatchResult result (IsSize w h) IsOutOfMemory → IsOk result → IsOkAnd result (IsSize w h)
returned w h (Ok s) same ok = same
returned w h (Err e) memory ok = absurd (false≢true ok)

pub returns : goal.returns
returns c = λ w h small low document.
    let back = size_back w h small low in
    returned w h c.from_str.result (c.from_str.ensures.complete (marks (size_tree w h)) (w, h) document back) (c.from_str.ensures.no_memory (marks (size_tree w h)) (w, h) document back (size_free w h small low))
