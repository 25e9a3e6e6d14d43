-- How a value that is kept begins: as a value of one token, or with an opening bracket.
use Rattle.std.proofs.Common.{◌≡◌, ℕ, Bool, true, false, List, [], ◌∷◌, refl, ap, sym, ◌∙◌, subst, arith, inl, inr, Option, Some, None, String, string_bytes}
use Rattle.std.specs.Prelude.{◌||◌, slice_get, Ok, Err}
use Rattle.std.specs.declared.alloc.Global.{Global}
use Rattle.std.specs.Str.{all_scalars, encode_utf8_all}
use Rattle.json5_grammar.specs.declared.error_code.ErrorCode.{ErrorCode}
use Rattle.json5_grammar.specs.declared.error_code.ErrorCode.TheVariants as codes
use Rattle.json5_grammar.specs.Faults.Tokens.{is_sign, begins_number}
use Rattle.json5_grammar.specs.Model.Reading.{Read, Place, inner, got, bad}
use Rattle.json5_grammar.specs.Model.ReadNumbers as reading
use Rattle.json5_grammar.specs.Model.ReadSteps.{forget}
use Rattle.json5_grammar.specs.Model.ReadTexts.{string}
use Rattle.json5_grammar.specs.Model.ReadValues.{read}
use Rattle.json5_grammar.specs.Language.Strings.{Str, is_quote}
use Rattle.json5_grammar.specs.Language.Trees.{Tree, null, boolean, text, depth}
use Rattle.json5_grammar.specs.Language.Values.{Val, Stops, is_null, is_true, is_false, is_text, null_text, true_text, false_text}
use Rattle.json5_grammar.proofs.Refusals.{Refuses}
use Rattle.json5_grammar.proofs.ValuesRead.{read_complete}
use Rattle.json5_grammar.proofs.ValuesSound.{text_stops}
use Rattle.json5_grammar.proofs.ValueSteps.{read_quote, read_numeral, read_missing}
use Rattle.json5_types.specs.declared.error.Error.{Error}
use Rattle.json5_types.specs.declared.value.Value.{Value}
use Rattle.json5_tokens.specs.Cursor.{Cursor, Took}
use Rattle.json5_types.specs.Errors.{code, kind_of, error_position}
use Rattle.json5_tokens.specs.TokenFaults.{FaultyNumber, FaultyString}
use Rattle.json5_types.specs.declared.value.Value as value
use Rattle.json5_types.specs.ValueMeanings.{value_of, Datum}
use Rattle.json5_types.specs.ValueMeanings as datum
use Rattle.json5_tokens.proofs.UnicodeScalars.{text_characters}
use Rattle.json5_types.proofs.ValuesCompared.{view-String}
use Rattle.json5_read.specs.declared.kinds.Literal.{Literal}
use Rattle.json5_read.specs.declared.kinds.Literal.TheVariants as literal
use Rattle.json5_read.specs.declared.kinds.ValueKind.{ValueKind}
use Rattle.json5_read.specs.declared.kinds.ValueKind.TheVariants as kind
use Rattle.json5_read.specs.declared.brackets.BracketKind.{BracketKind}
use Rattle.json5_read.specs.declared.unfinished.Next.TheVariants as next
use Rattle.json5_read.specs.Opening.{OpensKind}
use Rattle.json5_read.specs.BuildSteps.{BeginsValue}
use Rattle.json5_read.specs.TreeMeanings.{datum_of}
use Rattle.json5_read.specs.OwnedReads.{Keeps, IsOfTree, KeepsValue, KeepsShort, ReadsScalar, as_datum, tree_at, datum_at, datum_of_literal}
use Rattle.json5_read.specs.Kinds.{kind_at, word_of}
use Rattle.json5_read.specs.ModelSteps.{IsInside, RefusesRead, Gave, Steps, RefusesToken, value_at}
use Rattle.json5_read.proofs.NoFailedCode.{Lacks, faulty_number_lacks, faulty_string_lacks}
use Rattle.json5_read.proofs.SkipScalars.{tests_of}
use Rattle.json5_read.proofs.ModelSteps.{same_of, none_next, some_next, blames_as, blames_made, blames_refused}
use Rattle.json5_read.proofs.TokenSteps.{string_fault_refuses, number_fault_refuses}
use Rattle.json5_read.proofs.BuildSteps.{takes, gave_text}

-- ---- values of one token

null_stops : (r : List ℕ) → Stops null_text r
null_stops [] = tt
null_stops (c ∷ r) = refl

true_stops : (r : List ℕ) → Stops true_text r
true_stops [] = tt
true_stops (c ∷ r) = refl

false_stops : (r : List ℕ) → Stops false_text r
false_stops [] = tt
false_stops (c ∷ r) = refl

pub forget_bad : {A : Type 0} (m : Read A) (c : Option ErrorCode) (p : Place) → forget m ≡ bad c p → m ≡ bad c p
forget_bad (got a r) c p e = absurd (cc)
forget_bad {A = A} (bad d q) c p e = let a : d ≡ c = cc in let b : q ≡ p = cc in renamed (bad d q) refl a b
  where
    renamed : (m : Read A) → m ≡ bad d q → d ≡ c → q ≡ p → m ≡ bad c p
    renamed m is a b = subst (λ z. m ≡ bad z p) a (subst (λ z. m ≡ bad d z) b is)

pub tree_blamed : (room : ℕ) (old : Cursor) (e : Error) → RefusesRead old.input (value_at room old) e → RefusesRead old.input (tree_at room old) e
tree_blamed room old e b = blames_as old.input old.input (value_at room old) (tree_at room old) e refl (λ c p is. forget_bad (tree_at room old) c p is) b

pub datum_blamed : (room : ℕ) (old : Cursor) (e : Error) → RefusesRead old.input (tree_at room old) e → RefusesRead old.input (datum_at room old) e
datum_blamed room old e b = blames_as old.input old.input (tree_at room old) (datum_at room old) e refl (λ c p is. ap as_datum is) b

-- a value of this tree was taken
pub scalar_taken : (room : ℕ) (old new : Cursor) (s : List ℕ) (t : Tree) (v : Value) → depth t ≡ 0 → Took old s new → Val s t → Stops s new.unread → value_of v ≡ datum_of t → Keeps IsOfTree (tree_at room old) old new (Ok v)
scalar_taken room old new s t v flat took val stops is =
    takes old new (tree_at room old) t v is
    (gave_text old new (tree_at room old) t s (ap (read room) took.split ∙ read_complete val new.unread stops room (omega (arith, flat))) took)

-- a literal, a string
pub literal_taken : (room : ℕ) (old new : Cursor) (l : Literal) (v : Value) → Took old (word_of l) new → value_of v ≡ datum_of_literal l → Keeps IsOfTree (tree_at room old) old new (Ok v)
literal_taken room old new literal.Null v took is = scalar_taken room old new null_text null v refl took is_null (null_stops new.unread) is
literal_taken room old new literal.True v took is = scalar_taken room old new true_text (boolean true) v refl took is_true (true_stops new.unread) is
literal_taken room old new literal.False v took is = scalar_taken room old new false_text (boolean false) v refl took is_false (false_stops new.unread) is

pub text_taken : (room : ℕ) (old new : Cursor) (t : String Global) → all_scalars old.unread ≡ true → (s u : List ℕ) × (escape_free : Bool) × Took old s new × Str s u escape_free × (string_bytes t ≡ encode_utf8_all u) → Keeps IsOfTree (tree_at room old) old new (Ok (value.String t))
text_taken room old new t scalars (s, u, escape_free, took, str, bytes) =
    scalar_taken room old new s (text u escape_free) (value.String t) refl took (is_text str) (text_stops new.unread str) (view-String t ∙ ap datum.text (text_characters old.unread new.unread (string_bytes t) took.split scalars str bytes))

-- a step that passes over it is refused
pub scalar_refused : (old new : Cursor) (e : Error) → ((room : ℕ) → Steps (value_at room old) old new (Err e)) → ReadsScalar old new (Err e)
scalar_refused old new e k = record { given = tt; refused = inr (λ room. datum_blamed room old e (tree_blamed room old e (k room).refused)); same_text = (k 0).same_text }

module _ (old new : Cursor) (c : ℕ) (first : slice_get old.unread 0 ≡ Some c) (found : ValueKind) (at : found ≡ kind_at c) (e : Error) (ready : IsInside old) (kept : new ≡ old) where
  -- memory ran out in a token, or it is refused as reading does
  token_refused : {A : Type 0} {F : _} (m : Read A) → Lacks F → ((reason : Option ErrorCode) (place : Option (List ℕ)) → F old.unread reason place → Refuses m old.unread reason place) → ((room : ℕ) → value_at room old ≡ forget m) → RefusesToken F old e
      → ReadsScalar old new (Err e)
  token_refused m l k is (inl memory) = record { given = tt; refused = inl memory.kind; same_text = same_of kept }
  token_refused m l k is (inr f) = record {
    given = tt;
    refused = inr (λ room. datum_blamed room old e (tree_blamed room old e (blames_as old.input old.input m (value_at room old) e refl (λ r p b. is room ∙ ap forget b) (blames_refused old m e ready l k f))));
    same_text = same_of kept;
  }

  pub text_refused : found ≡ kind.String → RefusesToken FaultyString old e → ReadsScalar old new (Err e)
  text_refused is k =
      let (r, x) = some_next old.unread c first in
      let quote : is_quote c ≡ true = tests_of c found kind.String at is in
      token_refused (string old.unread) faulty_string_lacks (λ reason place f. string_fault_refuses c r quote old.unread reason place x f)
      (λ room. ap (λ z. forget (read room z)) x ∙ read_quote room c r quote ∙ ap (λ z. forget (string z)) (sym x)) k

  pub number_refused : found ≡ kind.Number → RefusesToken FaultyNumber old e → ReadsScalar old new (Err e)
  number_refused is k =
      let (r, x) = some_next old.unread c first in
      let begins : (is_sign c || begins_number c) ≡ true = tests_of c found kind.Number at is in
      token_refused (reading.number old.unread) faulty_number_lacks (λ reason place f. number_fault_refuses c r begins old.unread reason place x f)
      (λ room. ap (λ z. forget (read room z)) x ∙ read_numeral room c r begins ∙ ap (λ z. forget (reading.number z)) (sym x)) k

-- what is read as a datum is read as a tree
pub datum_got : (m : Read Tree) (x : Datum) (r : List ℕ) → as_datum m ≡ got x r → (t : Tree) × (m ≡ got t r) × (datum_of t ≡ x)
datum_got (got t y) x r e = let k : y ≡ r = cc in let l : datum_of t ≡ x = cc in (t, ap (got t) k, l)
datum_got (bad c p) x r e = absurd (cc)

-- ---- how a value begins

-- nothing is left
pub nothing_left : (old : Cursor) (found : Option ℕ) (e : Error) → found ≡ slice_get old.unread 0 → found ≡ None → kind_of e ≡ code codes.EofParsingValue → error_position e ≡ None → BeginsValue old old (Err e)
nothing_left old found e peeked is says place = record {
  begun = tt;
  refused = inr (λ room. datum_blamed room old e (tree_blamed room old e (blames_made old.input (value_at room old) e codes.EofParsingValue inner (ap (λ z. forget (read room z)) (none_next old.unread (sym peeked ∙ is)) ∙ read_missing room) (λ e. absurd (cc)) says place)));
  same_text = refl;
}

pub value_begun : (old new : Cursor) (v : Value) → KeepsValue old new v → BeginsValue old new (Ok (next.Ended v))
value_begun old new v k = record { begun = k; refused = tt; same_text = (k 0).took.same }

pub bracket_in_front : (old : Cursor) (c : ℕ) (k : BracketKind) → slice_get old.unread 0 ≡ Some c → OpensKind c (Some k) → BeginsValue old old (Ok (next.Opens k))
bracket_in_front old c k first opens = record { begun = (refl, first ∙ ap (λ z. Some z) opens); refused = tt; same_text = refl }

pub scalar_begun : (old new : Cursor) (v : Value) → ReadsScalar old new (Ok v) → BeginsValue old new (Ok (next.Ended v))
scalar_begun old new v k = value_begun old new v k.given

pub scalar_not_begun : (old new : Cursor) (e : Error) → ReadsScalar old new (Err e) → BeginsValue old new (Err e)
scalar_not_begun old new e k = record { begun = tt; refused = k.refused; same_text = k.same_text }

-- ---- a value of one token, however many brackets may be open

pub datum_kept : (room : ℕ) (old new : Cursor) (v : Value) → Keeps IsOfTree (tree_at room old) old new (Ok v) → Gave (datum_at room old) (value_of v) old new
datum_kept room old new v k =
    let (t, is, g) = k.given in
    record { reads = ap as_datum g.reads ∙ ap (λ x. got x new.unread) (sym is); taken = g.taken; took = g.took }

pub scalar_kept : (old new : Cursor) (v : Value) → ((room : ℕ) → Keeps IsOfTree (tree_at room old) old new (Ok v)) → ReadsScalar old new (Ok v)
scalar_kept old new v k = record { given = λ room. datum_kept room old new v (k room); refused = tt; same_text = tt }

-- nothing was taken before it
pub short_front : (old mid new : Cursor) (result : Option Value) → mid ≡ old → KeepsShort mid new result → KeepsShort old new result
short_front old mid new result same k = subst (λ (s : Cursor). KeepsShort s new result) same k
