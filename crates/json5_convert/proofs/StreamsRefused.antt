-- Why the next document is refused, and that more text doesn't change that.
use Rattle.std.proofs.Common.{◌≡◌, ◌⊎◌, inl, inr, ℕ, ◌<◌, Bool, true, false, List, [], ◌∷◌, ◌++◌, refl, sym, ap, ◌∙◌, subst, append_assoc, append-nil, Option, Some, None}
use Rattle.std.specs.Prelude.{slice_get, option_map, IsUtf8}
use Rattle.std.specs.Str.{chars}
use Rattle.std.specs.Io.KnownBytes.{Keeps, IsAtEnd, prepend_known}
use Rattle.std.proofs.lemmas.List.{append_cancel_right}
use Rattle.std.proofs.lemmas.Str.{chars-append, chars-nil}
use Rattle.json5_grammar.specs.declared.error_code.ErrorCode.{ErrorCode}
use Rattle.json5_grammar.specs.declared.error_code.ErrorCode.TheVariants.{EofParsingValue}
use Rattle.json5_grammar.specs.Faults.{FaultWhere, InValue}
use Rattle.json5_grammar.specs.Faults.Blames.{ValueBlame, HasValue, IsBlamed}
use Rattle.json5_grammar.specs.Faults.Codes.{by_char}
use Rattle.json5_grammar.specs.Faults.Positions.{line_of, position_after}
use Rattle.json5_grammar.specs.Faults.Refusals.{BlamesValue}
use Rattle.json5_grammar.specs.Language.Blanks.{LastBlanks}
use Rattle.json5_grammar.specs.Language.Documents.{max_depth}
use Rattle.json5_grammar.specs.Model.Reading.{Read, Place, IsAt, here, inner, got, bad, and_then}
use Rattle.json5_grammar.specs.Model.ReadBlanks.{skip, between}
use Rattle.json5_grammar.specs.Model.ReadValues.{read}
use Rattle.json5_grammar.specs.Language.Trees.{Tree}
use Rattle.json5_grammar.proofs.BlanksRead.{skip_last}
use Rattle.json5_grammar.proofs.BlanksSound.{blank_refused, gap_read}
use Rattle.json5_grammar.proofs.DocumentOrFault.{value_or_fault}
use Rattle.json5_grammar.proofs.FaultsRefused.{value_fault_refused}
use Rattle.json5_grammar.proofs.FaultsRemain.{fault_follows}
use Rattle.json5_grammar.proofs.OneFault.{blames_value}
use Rattle.json5_grammar.proofs.OneTree.{phrase_reader, phrase_complete}
use Rattle.json5_grammar.proofs.Refusals.{Refuses, one_refusal, not_both}
use Rattle.json5_grammar.proofs.ValueHeads.{read_step}
use Rattle.json5_types.specs.declared.error.Error.{Error}
use Rattle.json5_types.specs.Errors.{kind_of, known_code}
use Rattle.json5_tokens.specs.Cursor.{Cursor, Says, IsPositioned, IsOutOfMemory, Refused}
use Rattle.json5_tokens.specs.TokenFaults.{FaultyBlanks}
use Rattle.json5_read.specs.DocumentReads.{unread_text}
use Rattle.json5_read.specs.ModelSteps.{HasPositionAt}
use Rattle.json5_read.specs.OwnedReads.{BlamesOrMemory, as_datum, datum_at}
use Rattle.json5_read.proofs.DocumentReads.{SkippedGap}
use Rattle.json5_convert.specs.Sources.{StopsReading}
use Rattle.json5_convert.specs.Streams.{FaultyFront, IsFaultOf, IsLasting, RefusesNext, RefusesKnown, StaysFaulty, is_of_end}
use Rattle.json5_convert.proofs.FaultsLast.{shown_by_char}

-- ---- in front of a text

-- of blanks alone no value is read
nothing_read : (x : List ℕ) → LastBlanks x → phrase_reader max_depth x ≡ bad (Some EofParsingValue) inner
nothing_read x l = ap (λ m. and_then m (λ u y. read max_depth y)) (skip_last l) ∙ read_step max_depth []

pub front_refused : (old : Cursor) (e : Error) → Refused FaultyBlanks old e → RefusesNext old e
front_refused old e r =
    let (before, part, shown, f) = r.fault in
    let k : Refuses (skip between old.unread) old.unread r.reason r.place = blank_refused f in
    inr (record {
      reason = r.reason;
      place = r.place;
      fault = (blames_value max_depth old.unread r.reason r.place (k.0, ap (λ m. and_then m (λ u y. read max_depth y)) k.1, k.2), λ l. not_both (skip between old.unread) old.unread [] tt r.reason r.place (skip_last l) k);
      says = r.says;
      placed = r.placed;
    })

positioned : (s : Cursor) (input : List ℕ) (e : Error) (there : Option (List ℕ)) (p : Place) → input ≡ s.input → IsAt s.unread there p → HasPositionAt input p e → IsPositioned s there e
positioned s input e None inner same i h = h
positioned s input e None (here q) same i h = absurd i
positioned s input e (Some b) inner same i h = absurd i
positioned s input e (Some b) (here q) same i (front, split, place) =
    λ before whole. place ∙ ap (λ z. Some (position_after z)) (append_cancel_right front (before ++ b) q (sym split ∙ same ∙ whole ∙ ap (λ z. before ++ z) i ∙ sym (append_assoc before b q)))

tree_bad : (m : Read Tree) (c : Option ErrorCode) (p : Place) → as_datum m ≡ bad c p → m ≡ bad c p
tree_bad (got t r) c p e = absurd (cc)
tree_bad (bad d q) c p e = let a : d ≡ c = cc in let b : q ≡ p = cc in ap (λ z. bad z q) a ∙ ap (λ z. bad c z) b

begun : (x : List ℕ) (c : ℕ) → Some c ≡ slice_get x 0 → x ≡ [] → ⊥
begun [] c e n = absurd (cc)
begun (d ∷ x) c e n = absurd (cc)

module _ (old mid : Cursor) (e : Error) (gap : SkippedGap old mid) (c : ℕ) (next : Some c ≡ slice_get mid.unread 0) where
  skipped : skip between old.unread ≡ got tt mid.unread
  skipped = let (w, took, g, s) = gap in ap (skip between) took.split ∙ gap_read g s

  more : LastBlanks old.unread → ⊥
  more l = let same : got tt mid.unread ≡ got tt [] = sym skipped ∙ skip_last l in begun mid.unread c next (cc)

  same_input : mid.input ≡ old.input
  same_input = let (w, took, g, s) = gap in took.same

  by_blame : (reason : Option ErrorCode) (p : Place) → phrase_reader max_depth old.unread ≡ bad reason p → Says reason e → HasPositionAt mid.input p e
      → HasValue max_depth old.unread ⊎ IsBlamed (ValueBlame max_depth) old.unread → RefusesNext old e
  by_blame reason p is says there (inl (t, q, reads, low)) = let clash : got t q ≡ bad reason p = sym (phrase_complete max_depth old.unread q t reads low) ∙ is in absurd (cc)
  by_blame reason p is says there (inr (b, found)) =
      let (q, e', i) = value_fault_refused found in
      let same : bad b.code q ≡ bad reason p = sym e' ∙ is in
      let places : q ≡ p = cc in
      let at : IsAt old.unread b.place p = subst (IsAt old.unread b.place) places i in
      inr (record {
        reason = reason;
        place = b.place;
        fault = (blames_value max_depth old.unread reason b.place (p, is, at), more);
        says = says;
        placed = positioned old mid.input e b.place p same_input at there;
      })

  pub value_refused : BlamesOrMemory mid.input (datum_at max_depth mid) e → RefusesNext old e
  value_refused (inl memory) = inl memory
  value_refused (inr r) = by_says r.says
    where
      whole : phrase_reader max_depth old.unread ≡ bad r.reason r.place
      whole = ap (λ m. and_then m (λ u y. read max_depth y)) skipped ∙ tree_bad (read max_depth mid.unread) r.reason r.place r.is_bad

      by_says : IsOutOfMemory e ⊎ (Says r.reason e × HasPositionAt mid.input r.place e) → RefusesNext old e
      by_says (inl memory) = inl memory
      by_says (inr (says, there)) = by_blame r.reason r.place whole says there (value_or_fault max_depth old.unread)

-- ---- with more behind it

no_blanks : (x : List ℕ) (reason : Option ErrorCode) (place : Option (List ℕ)) → Refuses (phrase_reader max_depth x) x reason place → is_of_end reason ≡ false → LastBlanks x → ⊥
no_blanks x reason place r k l =
    let same = (one_refusal (phrase_reader max_depth x) x reason (Some EofParsingValue) place None r (inner, nothing_read x l, tt)).0 in
    let clash : is_of_end (Some EofParsingValue) ≡ false = subst (λ c. is_of_end c ≡ false) same k in
    absurd (cc)

lasts : (x : List ℕ) (reason : Option ErrorCode) (g : List ℕ) → BlamesValue max_depth x reason (Some g) → is_of_end reason ≡ false → line_of g < line_of x
    → (behind : List ℕ) → FaultyFront (x ++ behind) reason (Some g)
lasts x reason g b k l behind =
    let c : b.shown ≡ by_char = shown_by_char b.found k g refl l in
    let (q, split, rest) = b.inside in
    let found = fault_follows (q ++ behind) (subst (λ h. FaultWhere InValue max_depth x reason (Some g) b.before b.part h) c b.found) in
    let whole : (b.before ++ b.part) ++ (q ++ behind) ≡ x ++ behind = sym (append_assoc (b.before ++ b.part) q behind) ∙ ap (λ z. z ++ behind) (sym split) in
    let r = value_fault_refused (subst (λ z. FaultWhere InValue max_depth z reason (Some g) b.before b.part by_char) whole found) in
    (blames_value max_depth (x ++ behind) reason (Some g) r, no_blanks (x ++ behind) reason (Some g) r k)

said : (reason : Option ErrorCode) (e : Error) → Says reason e → known_code (kind_of e) ≡ reason
said (Some c) e s = ap known_code s
said None e (text, s) = ap known_code s

stays : (x : List ℕ) (e : Error) → Refused FaultyFront (unread_text x) e → IsLasting x e → (behind : List ℕ) → IsFaultOf (x ++ behind) e
stays x e r w behind = by_place r.place r.fault r.placed
  where
    no_end : is_of_end r.reason ≡ false
    no_end = subst (λ c. is_of_end c ≡ false) (said r.reason e r.says) w.no_end

    by_place : (place : Option (List ℕ)) → FaultyFront x r.reason place → IsPositioned (unread_text x) place e → IsFaultOf (x ++ behind) e
    by_place None f p = let clash : None ≡ Some w.there = sym p ∙ w.place in absurd (cc)
    by_place (Some g) f p =
        let same : Some w.there ≡ Some (position_after g) = sym w.place ∙ p [] refl in
        let there : w.there ≡ position_after g = cc in
        (r.reason, Some g, lasts x r.reason g f.0 no_end (subst (λ z. z.line < line_of x) there w.above) behind, r.says)

pub decided_refused : (text : List ℕ) (is_whole : Bool) (s : Cursor) (e : Error) → s ≡ unread_text (chars text) → RefusesNext s e → (is_whole ≡ true) ⊎ (IsOutOfMemory e ⊎ IsLasting (chars text) e) → StaysFaulty text is_whole e
decided_refused text is_whole s e start (inl memory) how = inl memory
decided_refused text is_whole s e start (inr r) (inl w) =
    let f : Refused FaultyFront (unread_text (chars text)) e = subst (λ z. Refused FaultyFront z e) start r in
    inr (λ behind none. subst (λ z. IsFaultOf z e) (sym (ap (λ z. chars text ++ z) (none w) ∙ append-nil (chars text))) (f.reason, f.place, f.fault, f.says))
decided_refused text is_whole s e start (inr r) (inr (inl memory)) = inl memory
decided_refused text is_whole s e start (inr r) (inr (inr lasting)) = inr (λ behind none. stays (chars text) e (subst (λ z. Refused FaultyFront z e) start r) lasting behind)

-- ---- of a stream

says_same : (reason : Option ErrorCode) (a b : Error) → kind_of b ≡ kind_of a → Says reason a → Says reason b
says_same (Some c) a b k s = k ∙ s
says_same None a b k (text, s) = (text, k ∙ s)

none_read : (ended : Bool) (b : List ℕ) → (ended ≡ true → b ≡ []) → ended ≡ true → chars b ≡ []
none_read ended b h e = ap chars (h e) ∙ chars-nil

pub refused_known : (t u : List ℕ) (a b : Option (List ℕ)) (ended : Bool) (e told : Error) → kind_of told ≡ kind_of e → Keeps (prepend_known t a) (prepend_known u b) → IsUtf8 u → (ended ≡ true → IsAtEnd b) → StaysFaulty u ended e
    → RefusesKnown (option_map chars (prepend_known t a)) told
refused_known t u a b ended e told k kept is end (inl memory) = RefusesKnown.stopped (StopsReading.by_memory (k ∙ memory))
refused_known t u None b ended e told k kept is end (inr f) = RefusesKnown.faulty tt
refused_known t u (Some a) None ended e told k kept is end (inr f) = absurd kept
refused_known t u (Some a) (Some b) ended e told k kept is end (inr f) =
    let old : chars u ++ chars b ≡ chars (t ++ a) = sym (chars-append u b is) ∙ ap chars kept in
    let (reason, place, fault, says) = subst (λ z. IsFaultOf z e) old (f (chars b) (none_read ended b end)) in
    RefusesKnown.faulty (reason, place, fault, says_same reason e told k says)
