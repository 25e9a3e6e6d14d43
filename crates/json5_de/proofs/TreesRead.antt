-- The law of a read of any kind of value, from what reading on lists gives.
use Rattle.std.proofs.Common.{◌≡◌, ℕ, ◌+◌, ◌-◌, ◌≤◌, Bool, false, List, ◌++◌, refl, ap, sym, ◌∙◌, subst, append_assoc, arith, inl, inr, ◌⊎◌, Option, Some, None}
use Rattle.std.specs.Prelude.{Result, Ok, Err}
use Rattle.std.proofs.lemmas.Bool.{false≢true}
use Rattle.std.proofs.lemmas.List.{append_cancel_right}
use Rattle.json5_grammar.specs.declared.error_code.ErrorCode.{ErrorCode}
use Rattle.json5_grammar.specs.Language.Documents.{max_depth}
use Rattle.json5_grammar.specs.Faults.Positions.{position_after}
use Rattle.json5_grammar.specs.Model.Reading.{Read, Place, here, inner, got, bad}
use Rattle.json5_grammar.specs.Model.ReadSteps.{forget}
use Rattle.json5_grammar.specs.Model.ReadValues.{read}
use Rattle.json5_grammar.specs.Language.Trees.{Tree, depth}
use Rattle.json5_grammar.specs.Language.Values.{Reads}
use Rattle.json5_grammar.proofs.CommonLemmas.{true_false}
use Rattle.json5_grammar.proofs.FoundPlaces.{IsIn}
use Rattle.json5_grammar.proofs.ArraysRead.{phrase_found}
use Rattle.json5_grammar.proofs.ValuesRead.{read_complete}
use Rattle.json5_grammar.proofs.ValuesSound.{read_sound, read_place}
use Rattle.json5_types.specs.declared.error.Error.{Error}
use Rattle.json5_tokens.specs.Cursor.{Refused, Says, IsOutOfMemory}
use Rattle.json5_tokens.specs.TokenFaults.{FaultyBlanks}
use Rattle.json5_de.proofs.TreeFaults.{as_fault}
use Rattle.json5_types.specs.declared.value.Value.{Value}
use Rattle.json5_types.specs.ValueMeanings.{value_of}
use Rattle.json5_read.specs.OwnedReads.{ReadsDatum, BlamesOrMemory, as_datum, datum_at}
use Rattle.json5_read.specs.SkipSteps.{SkipsValue}
use Rattle.json5_read.specs.ModelSteps.{HasPositionAt, RefusesRead, value_at}
use Rattle.json5_read.proofs.BuildScalars.{datum_got}
use Rattle.json5_read.proofs.NoFailedCode.{memory_other}
use Rattle.json5_read.proofs.ModelSteps.{blames_as, forget_got}
use Rattle.json5_de.specs.Convert.{every_datum}
use Rattle.json5_de.specs.AnyTree.{ReadingRefuses, RefusedInReading, ReadsTree, nothing, every_value}
use Rattle.json5_de.specs.DeserializeLaw.{TookValue, StaysFailed, Unprompted}
use Rattle.json5_de.specs.TokenKinds.{every_tree, no_tree}
use Rattle.json5_de.specs.State.{State, Calls, cursor_of, OnlyRead, GivesUp}
use Rattle.json5_de.specs.ReaderSteps.{PassedGap}
use Rattle.json5_de.proofs.Options.{blanks_no_value}
use Rattle.json5_de.proofs.ReadSteps.{input_of, value_gap, refused_blanks, refused_token}

-- what the value in front is read as, its tree forgotten
abbrev whole_at : State → Read (Unit {0})
whole_at s = value_at (max_depth - s.level) (cursor_of s)

-- ---- read

took_tree : (old mid new : State) (t : Tree) → PassedGap old mid → read (max_depth - mid.level) mid.unread ≡ got t new.unread → OnlyRead mid new → TookValue old t new
took_tree old mid new t p e rest =
    let (s, split, v, stops, low) = read_sound (max_depth - mid.level) mid.unread new.unread t e in
    let same = ap (λ (s : State). s.level) p.rest in
    let room = p.shallow in
    record {
      live = p.live;
      reads = record { front = p.gap; phrase = s; split = p.split ∙ ap (λ y. p.gap ++ y) split; blank = value_gap p.gap mid.unread new.unread v p.is_gap split; value = v; stops = stops };
      shallow = omega (arith, low, same, room);
      rest = rest ∙ ap (λ (m : State). record m { unread = new.unread }) p.rest;
    }

-- a value was read, and its tree converts
pub tree_read : {V C : Type 0} (content : V → C) (convert : Tree → Option C) (allocation_free : Tree → Bool) (old mid new : State) (t : Tree) (v : V) → PassedGap old mid → read (max_depth - mid.level) mid.unread ≡ got t new.unread → OnlyRead mid new → convert t ≡ Some (content v)
    → ReadsTree content convert allocation_free old new (Ok v)
tree_read content convert allocation_free old mid new t v p e rest is = record {
  sound = (t, took_tree old mid new t p e rest, is);
  complete = tt;
  no_memory = λ t r c live reads shallow is allocation_free. refl;
  refused = tt;
  unprompted = tt;
  same_text = input_of rest ∙ input_of p.rest;
  failed = tt;
  before = λ f. true_false f p.live;
}

-- ---- refused

pub forget_bad : {A : Type 0} (m : Read A) (c : Option ErrorCode) (p : Place) → forget m ≡ bad c p → m ≡ bad c p
forget_bad (got a r) c p e = absurd (cc)
forget_bad {A = A} (bad d q) c p e = let a : d ≡ c = cc in let b : q ≡ p = cc in renamed (bad d q) refl a b
  where
    renamed : (m : Read A) → m ≡ bad d q → d ≡ c → q ≡ p → m ≡ bad c p
    renamed m is a b = subst (λ z. m ≡ bad z p) a (subst (λ z. m ≡ bad d z) b is)

-- what can be read isn't refused
readable : (old mid : State) (e : Error) (t : Tree) (r : List ℕ) → PassedGap old mid → Reads old.unread t r → old.level + depth t ≤ max_depth → RefusesRead mid.input (whole_at mid) e → ⊥
readable old mid e t r p reads low b =
    let same = ap (λ (s : State). s.level) p.rest in
    let found = phrase_found old.unread p.gap mid.unread r t p.split p.is_gap p.solid reads in
    let whole : whole_at mid ≡ got tt r = ap (λ x. forget (read (max_depth - mid.level) x)) found ∙ ap forget (read_complete reads.value r reads.stops (max_depth - mid.level) (omega (arith, low, same))) in
    let clash : got tt r ≡ bad b.reason b.place = sym whole ∙ b.is_bad in
    absurd (cc)

-- the position of a fault in the rest of the input
placed_in : (mid : State) (reason : Option ErrorCode) (p : Place) (e : Error) → read (max_depth - mid.level) mid.unread ≡ bad reason p → Says reason e → HasPositionAt mid.input p e → IsIn mid.unread p → Refused (ReadingRefuses mid.level) (cursor_of mid) e
placed_in mid reason (here q) e is says (front, whole, place) (b, split) = record {
  reason = reason;
  place = Some b;
  fault = (here q, is, split);
  says = says;
  placed = λ before there. place ∙ ap (λ z. Some (position_after z)) (append_cancel_right front (before ++ b) q (sym whole ∙ there ∙ ap (λ z. before ++ z) split ∙ sym (append_assoc before b q)));
}
placed_in mid reason inner e is says place k = record { reason = reason; place = None; fault = (inner, is, tt); says = says; placed = place }

blamed : (old mid : State) (e : Error) → PassedGap old mid → RefusesRead mid.input (whole_at mid) e → RefusedInReading old e
blamed old mid e p b = by_cause b.says
  where
    is : read (max_depth - mid.level) mid.unread ≡ bad b.reason b.place
    is = forget_bad (read (max_depth - mid.level) mid.unread) b.reason b.place b.is_bad

    by_cause : IsOutOfMemory e ⊎ (Says b.reason e × HasPositionAt mid.input b.place e) → RefusedInReading old e
    by_cause (inl memory) = inl memory
    by_cause (inr (says, there)) =
        inr (refused_token old mid e p (subst (λ n. Refused (ReadingRefuses n) (cursor_of mid) e) (ap (λ (s : State). s.level) p.rest) (placed_in mid b.reason b.place e is says there (read_place (max_depth - mid.level) mid.unread b.reason b.place is))))

-- the value was refused
pub tree_refused : {V C : Type 0} (content : V → C) (convert : Tree → Option C) (allocation_free : Tree → Bool) (old mid new : State) (e : Error) → PassedGap old mid → RefusesRead mid.input (whole_at mid) e → GivesUp mid new → ReadsTree content convert allocation_free old new (Err e)
tree_refused content convert allocation_free old mid new e p b g = record {
  sound = tt;
  complete = record { memory = λ t r c live reads shallow is. absurd (readable old mid e t r p reads shallow b) };
  no_memory = λ t r c live reads shallow is allocation_free. absurd (readable old mid e t r p reads shallow b);
  refused = as_fault old e (blamed old mid e p b);
  unprompted = λ live. b.unprompted;
  same_text = g.same_text ∙ input_of p.rest;
  failed = g.failed;
  before = λ h. true_false h p.live;
}

-- a comment before it was refused, or the reader had failed
pub tree_not_begun : {V C : Type 0} (content : V → C) (convert : Tree → Option C) (allocation_free : Tree → Bool) (old new : State) (e : Error) → (old.failed ≡ false → Refused FaultyBlanks (cursor_of old) e) → GivesUp old new
    → StaysFailed {V = Unit {0}} old new (Err e) → Unprompted {V = Unit {0}} old (Err e) → ReadsTree content convert allocation_free old new (Err e)
tree_not_begun content convert allocation_free old new e k g before unprompted = record {
  sound = tt;
  complete = record { memory = λ t r c live reads shallow is. absurd (blanks_no_value old e t r (k live) reads) };
  no_memory = λ t r c live reads shallow is allocation_free. absurd (blanks_no_value old e t r (k live) reads);
  refused = as_fault old e (inr (refused_blanks old e k));
  unprompted = unprompted;
  same_text = g.same_text;
  failed = g.failed;
  before = before;
}

-- ---- the same with another content

pub read_as : {V W C : Type 0} (content : V → C) (other : W → C) (convert : Tree → Option C) (allocation_free : Tree → Bool) (old new : State) (v : V) (w : W) → content v ≡ other w → ReadsTree content convert allocation_free old new (Ok v) → ReadsTree other convert allocation_free old new (Ok w)
read_as content other convert allocation_free old new v w same k = record {
  sound = let (t, took, is) = k.sound in (t, took, is ∙ ap Some same);
  complete = tt;
  no_memory = λ t r c live reads shallow is allocation_free. refl;
  refused = tt;
  unprompted = tt;
  same_text = k.same_text;
  failed = tt;
  before = λ h. let (t, took, is) = k.sound in true_false h took.live;
}

pub refused_as : {V W C : Type 0} (content : V → C) (other : W → C) (convert : Tree → Option C) (allocation_free : Tree → Bool) (old new : State) (e : Error) → ReadsTree content convert allocation_free old new (Err e) → ReadsTree other convert allocation_free old new (Err e)
refused_as content other convert allocation_free old new e k = record {
  sound = tt;
  complete = k.complete;
  no_memory = λ t r c live reads shallow is allocation_free. absurd (false≢true (k.no_memory t r c live reads shallow is allocation_free));
  refused = k.refused;
  unprompted = k.unprompted;
  same_text = k.same_text;
  failed = k.failed;
  before = k.before;
}

-- ---- a value of any kind was passed over, or refused

pub tree_result : (old mid new : State) (result : Result (Unit {0}) Error) → PassedGap old mid → Calls (SkipsValue (max_depth - mid.level)) mid new result → ReadsTree nothing every_value every_tree old new result
tree_result old mid new (Ok u) p k =
    let (t, e) = forget_got (read (max_depth - mid.level) mid.unread) u new.unread k.call.given.reads in
    tree_read nothing every_value every_tree old mid new t u p e k.read refl
tree_result old mid new (Err e) p k = tree_refused nothing every_value every_tree old mid new e p k.call.refused k.failed

-- ---- a value of any kind was read, or refused

tree_bad : (m : Read Tree) (c : Option ErrorCode) (p : Place) → as_datum m ≡ bad c p → forget m ≡ bad c p
tree_bad (got t r) c p e = absurd (cc)
tree_bad (bad d q) c p e = let a : d ≡ c = cc in let b : q ≡ p = cc in ap (λ z. bad z q) a ∙ ap (λ z. bad c z) b

lacks_memory : (old mid new : State) (e : Error) → PassedGap old mid → IsOutOfMemory e → GivesUp mid new → ReadsTree value_of every_datum no_tree old new (Err e)
lacks_memory old mid new e p memory g = record {
  sound = tt;
  complete = record { memory = λ t r c live reads shallow is. memory };
  no_memory = λ t r c live reads shallow is allocation_free. absurd (false≢true allocation_free);
  refused = inl memory;
  unprompted = λ live. memory_other e memory;
  same_text = g.same_text ∙ input_of p.rest;
  failed = g.failed;
  before = λ h. true_false h p.live;
}

pub datum_result : (old mid new : State) (result : Result Value Error) → PassedGap old mid → Calls (ReadsDatum (max_depth - mid.level)) mid new result → ReadsTree value_of every_datum no_tree old new result
datum_result old mid new (Ok v) p k =
    let (t, reads, same) = datum_got (read (max_depth - mid.level) mid.unread) (value_of v) new.unread k.call.given.reads in
    tree_read value_of every_datum no_tree old mid new t v p reads k.read (ap Some same)
datum_result old mid new (Err e) p k = by_cause k.call.refused
  where
    by_cause : BlamesOrMemory mid.input (datum_at (max_depth - mid.level) (cursor_of mid)) e → ReadsTree value_of every_datum no_tree old new (Err e)
    by_cause (inl memory) = lacks_memory old mid new e p memory k.failed
    by_cause (inr b) =
        tree_refused value_of every_datum no_tree old mid new e p (blames_as mid.input mid.input (datum_at (max_depth - mid.level) (cursor_of mid)) (whole_at mid) e refl (tree_bad (read (max_depth - mid.level) mid.unread)) b) k.failed
