-- What tidying keeps, from what was read of the answer.
use Rattle.std.proofs.Common.{ℕ, Bool, true, false, List, sym, subst, inl, inr}
use Rattle.std.specs.declared.alloc.Global.{Global}
use Rattle.std.specs.Prelude.{String, string_bytes, Result, Ok, Err, IfOk}
use Rattle.std.specs.Str.{chars}
use Rattle.json5_grammar.specs.Language.Documents.{Doc, max_depth}
use Rattle.json5_grammar.specs.Language.Trees.{Tree}
use Rattle.json5_lexemes.specs.Plain.{PlainText}
use Rattle.json5_lexemes.proofs.PlainTokens.{bare_plain}
use Rattle.json5_lexemes.proofs.SameTrees.{alike_tree, document_alike, same_alike}
use Rattle.json5_tidy.specs.Tidied.{Keeps, IsAlike}
use Rattle.json5_tidy.proofs.KeptDocuments.{document_kept}
use Rattle.json5_tidy.proofs.KeptLexemes.{lexemes_kept}

keeps : (move : Bool) (x y : List ℕ) → (t : Tree) × Doc max_depth x t → IsAlike move x y → Keeps move x y
keeps move x y (t, d) (inl same) = subst (Keeps move x) (sym same) (record { tree = t; before = d; after = d; lexemes = document_alike move max_depth x t d })
keeps move x y (t, d) (inr (inl s)) = record { tree = t; before = d; after = document_kept max_depth x y t d s; lexemes = same_alike move x y (lexemes_kept s) }
keeps move x y (t, d) (inr (inr laid)) =
    record {
      tree = t;
      before = d;
      after = subst (Doc max_depth y) (sym (alike_tree move max_depth max_depth x y t laid.tree d laid.document laid.lexemes)) laid.document;
      lexemes = laid.lexemes;
    }

pub kept : {E : Type 0} (move : Bool) (x : List ℕ) (result : Result (String Global) E) → (t : Tree) × Doc max_depth x t → IfOk result (λ s. IsAlike move x (chars (string_bytes s)))
    → IfOk result (λ s. Keeps move x (chars (string_bytes s)))
kept move x (Ok s) document alike = keeps move x (chars (string_bytes s)) document alike
kept move x (Err e) document alike = tt

-- JSON without comments is JSON but for comments too
pub as_plain : (comments : Bool) (text : List ℕ) → PlainText false text → PlainText comments text
as_plain true text plain = bare_plain plain
as_plain false text plain = plain
