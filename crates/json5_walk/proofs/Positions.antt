-- Where a walk's positions are.
use Rattle.std.proofs.Common.{ℕ, List, [], length, refl}
use Rattle.std.specs.Str.{IsUtf8}
use Rattle.std.proofs.lemmas.Str.{IsCharBoundary-at_seam}
use Rattle.json5_tokens.specs.Scan.{InText}

-- a cut at the start
pub whole_text : (text : List ℕ) → IsUtf8 text → InText text 0 (length text)
whole_text text u = record { is_text = u; counted = refl; cut = IsCharBoundary-at_seam text [] text refl u }
