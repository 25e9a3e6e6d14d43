-- The output of a document's value and a line feed.
use Rattle.std.proofs.Common.{◌≡◌, ℕ, true, List, [], ◌∷◌, ◌++◌, Option, Some, None, refl, sym, ap, ◌∙◌, subst, append_assoc, append-nil}
use Rattle.std.specs.Prelude.{IfSome}
use Rattle.std.specs.Str.{all_scalars, chars}
use Rattle.std.specs.Io.KnownBytes.{Appends, Keeps}
use Rattle.std.proofs.KnownBytes.{Appends-trans}
use Rattle.std.proofs.lemmas.Str.{chars-encodes}
use Rattle.json5_write.specs.Out.{whole, written_text}
use Rattle.json5_write.specs.Pieces.{AppendsFront}
use Rattle.json5_types.specs.declared.value.Value.{Value}
use Rattle.json5_write.specs.ValueTrees.{value_tree}
use Rattle.json5_types.specs.ValueMeanings.{value_of}
use Rattle.json5_write.specs.WholeOutputs.{IsText}
use Rattle.json5_write.specs.WrittenTrees.{Written}
use Rattle.json5_format.proofs.Formats.{written_tree, value_whole, formatted}
use Rattle.cli_fmt.specs.Runs.{with_line_feed, written_bytes, HoldsValue, WritesFormatted, BeginsFormatted}

-- ---- prefixes of a line

pub text_stops : (old new : Option (List ℕ)) (text : List ℕ) → AppendsFront old new text → AppendsFront old new (with_line_feed text)
text_stops old new text (front, rest, cut, k) = (front, rest ++ 10 ∷ [], ap (λ l. l ++ 10 ∷ []) cut ∙ append_assoc front rest (10 ∷ []), k)

pub line_feed_stops : (old mid new : Option (List ℕ)) (text : List ℕ) → Appends old mid text → AppendsFront mid new (10 ∷ []) → AppendsFront old new (with_line_feed text)
line_feed_stops old mid new text p (front, rest, cut, k) = (text ++ front, rest, ap (λ l. text ++ l) cut ∙ sym (append_assoc text front rest), Appends-trans _ _ _ _ _ p k)

kept : (old mid new : Option (List ℕ)) (bytes : List ℕ) → Appends old mid bytes → Keeps mid new → Appends old new bytes
kept None mid new bytes p q = tt
kept (Some x) None new bytes p q = absurd p
kept (Some x) (Some y) None bytes p q = absurd q
kept (Some x) (Some y) (Some z) bytes p q = q ∙ p

pub flush_stops : (old mid last new : Option (List ℕ)) (text : List ℕ) → Appends old mid text → Appends mid last (10 ∷ []) → Keeps last new → AppendsFront old new (with_line_feed text)
flush_stops old mid last new text p q k = (with_line_feed text, [], sym (append-nil (with_line_feed text)), kept old last new (with_line_feed text) (Appends-trans _ _ _ _ _ p q) k)

-- ---- a line

pub text_written : (t : Written) → (written_text t).stop ≡ whole → all_scalars (written_text t).text ≡ true → IsText (written_text t) (written_bytes t)
text_written t w scalars = record { stop = w; characters = chars-encodes (written_text t).text scalars; encoded = refl }

pub line_written : (old mid last new : Option (List ℕ)) (text : List ℕ) → Appends old mid text → Appends mid last (10 ∷ []) → Keeps last new → Appends old new (with_line_feed text)
line_written old mid last new text p q k = kept old last new (with_line_feed text) (Appends-trans _ _ _ _ _ p q) k

-- ---- what was read is what was written

whole_of : (input : Option (List ℕ)) (v : Value) → HoldsValue input v → (written_text (value_tree v)).stop ≡ whole
whole_of input v h = value_whole (chars h.bytes) h.tree (value_of v) h.document h.stands_for

pub begun : (input old new : Option (List ℕ)) (v : Value) → HoldsValue input v → ((written_text (value_tree v)).stop ≡ whole → AppendsFront old new (with_line_feed (written_bytes (value_tree v)))) → IfSome input (BeginsFormatted old new)
begun None old new v h k = tt
begun (Some bytes) old new v h k =
    let tree = written_tree h.tree (value_of v) h.stands_for in
    subst (BeginsFormatted old new) h.all
    (h.utf8, (h.tree, h.document, subst (λ t. AppendsFront old new (with_line_feed (written_bytes t))) tree (k (whole_of (Some bytes) v h))))

pub written : (input old new : Option (List ℕ)) (v : Value) → HoldsValue input v → IsText (written_text (value_tree v)) (written_bytes (value_tree v)) × Appends old new (with_line_feed (written_bytes (value_tree v))) → IfSome input (WritesFormatted old new)
written None old new v h k = tt
written (Some bytes) old new v h (text, k) =
    subst (WritesFormatted old new) h.all (h.utf8, (written_bytes (value_tree v), formatted (chars h.bytes) (written_bytes (value_tree v)) h.tree (value_of v) h.document h.stands_for text, k))
