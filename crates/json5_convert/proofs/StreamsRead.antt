-- The next document of a text.
use Rattle.std.proofs.Common.{◌≡◌, ℕ, List, [], ◌++◌, ap, sym, ◌∙◌, append-nil, subst, None, Some, inl, inr}
use Rattle.std.specs.Prelude.{slice_get, Result, Ok, Err, IfErr, IsErrAnd}
use Rattle.json5_grammar.specs.Language.Blanks.{Gap, LastBlanks}
use Rattle.json5_grammar.specs.Language.Documents.{max_depth}
use Rattle.json5_grammar.specs.Model.Reading.{Read}
use Rattle.json5_grammar.specs.Model.ReadValues.{read}
use Rattle.json5_grammar.proofs.ValuesSound.{read_sound}
use Rattle.json5_tokens.specs.Cursor.{Cursor, Refused}
use Rattle.json5_tokens.specs.TokenFaults.{FaultyBlanks}
use Rattle.json5_types.specs.declared.error.Error.{Error}
use Rattle.json5_types.specs.declared.value.Value.{Value}
use Rattle.json5_types.specs.ValueMeanings.{Datum, value_of}
use Rattle.json5_read.specs.ModelSteps.{Gave, IsUnprompted}
use Rattle.json5_read.specs.OwnedReads.{BlamesOrMemory, datum_at}
use Rattle.json5_read.proofs.BuildScalars.{datum_got}
use Rattle.json5_read.proofs.DocumentReads.{SkippedGap}
use Rattle.json5_read.proofs.ModelSteps.{none_next}
use Rattle.json5_read.proofs.NoFailedCode.{in_blanks_other, memory_other, other_says}
use Rattle.json5_convert.specs.Streams.{TakesValue}

gap_ends : {w r : List ℕ} → r ≡ [] → Gap w r → LastBlanks w
gap_ends e (Gap.blanks b) = LastBlanks.blanks b
gap_ends e (Gap.at_end l) = l

pub none_left : (old new : Cursor) → SkippedGap old new → slice_get new.unread 0 ≡ None → TakesValue old new None
none_left old new (w, took, g, s) none =
    let empty = none_next new.unread none in
    let whole : old.unread ≡ w = took.split ∙ ap (λ z. w ++ z) empty ∙ append-nil w in
    ((subst LastBlanks (sym whole) (gap_ends empty g), empty), took.same)

pub next_read : (old mid new : Cursor) (v : Value) → SkippedGap old mid → Gave (datum_at max_depth mid) (value_of v) mid new → TakesValue old new (Some v)
next_read old mid new v (w, took, g, s) gave =
    let (t, is, means) = datum_got (read max_depth mid.unread) (value_of v) new.unread gave.reads in
    let (p, split, spells, stops, shallow) = read_sound max_depth mid.unread new.unread t is in (
      record {
        blanks = w;
        phrase = p;
        split = took.split ∙ ap (λ z. w ++ z) split;
        blank = subst (Gap w) split g;
        tree = t;
        value = spells;
        stops = stops;
        shallow = shallow;
        means = sym means;
      },
      gave.took.same ∙ took.same,
    )

-- ---- a refusal isn't that an earlier one was refused

pub blanks_unprompted : (old : Cursor) (e : Error) → Refused FaultyBlanks old e → IsUnprompted e
blanks_unprompted old e r = let (before, part, shown, f) = r.fault in other_says r.reason e (in_blanks_other f) r.says

pub value_unprompted : (input : List ℕ) (m : Read Datum) (e : Error) → BlamesOrMemory input m e → IsUnprompted e
value_unprompted input m e (inl memory) = memory_other e memory
value_unprompted input m e (inr r) = r.unprompted

-- what is told of a fault is told of the answer that hands it on
pub told : {A : Type 0} (P : Error → Type 0) (e : Error) (r : Result A Error) → IsErrAnd r (λ y. y ≡ e) → P e → IfErr r P
told P e (Ok v) h p = absurd h
told P e (Err y) h p = subst P (sym h) p

pub handed_on : {A : Type 0} (e : Error) (r : Result A Error) → IsErrAnd r (λ y. y ≡ e) → IsUnprompted e → IfErr r IsUnprompted
handed_on e r h u = told IsUnprompted e r h u
