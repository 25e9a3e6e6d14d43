-- A collection with one entry less in its text.
use Rattle.std.proofs.Common.{◌≡◌, ℕ, ◌+◌, ◌≤◌, Bool, true, false, List, [], ◌∷◌, ◌++◌, length, Option, Some, None, refl, ap, sym, ◌∙◌, append_assoc, subst, inl, inr, ◌⊎◌, take, drop, arith}
use Rattle.std.specs.Prelude.{MatchOption}
use Rattle.json5_edit.specs.Pieces.{MayGo}
use Rattle.json5_edit.specs.declared.belongings.Lead.{Lead}
use Rattle.json5_edit.specs.declared.belongings.Lead.TheVariants as leads
use Rattle.std.specs.Str.{chars, IsUtf8, IsCharBoundary, all_scalars, encode_utf8_all}
use Rattle.std.proofs.Math.Seq.{drop-append_seam, take-append_seam}
use Rattle.std.proofs.lemmas.List.{length-append}
use Rattle.json5_tokens.specs.Outcome.{bytes_in}
use Rattle.std.proofs.lemmas.Str.{chars-append, chars-encodes, encodes-append, scalars-chars}
use Rattle.json5_grammar.specs.Language.Blanks.{Blanks, LastBlanks, Gap, Solid}
use Rattle.json5_grammar.specs.Language.Documents.{max_depth}
use Rattle.json5_grammar.specs.Language.Trees.{Tree, null, boolean, number, text, array, object, no_more, more, no_member, member, depth}
use Rattle.json5_grammar.specs.Language.Values.{Val}
use Rattle.json5_grammar.specs.Model.Collections.{IsSign}
use Rattle.json5_grammar.proofs.BlanksSound.{Blanks-append, gap_blanks}
use Rattle.json5_lexemes.specs.LastTokens as last
use Rattle.json5_lexemes.specs.Plain.{Plain}
use Rattle.json5_lexemes.specs.Spans.{Spans}
use Rattle.json5_read.specs.declared.brackets.BracketKind.{BracketKind as Kind}
use Rattle.json5_read.specs.declared.brackets.BracketKind.TheVariants as kind
use Rattle.json5_walk.specs.Seams.{WholeTokens, then_blanks}
use Rattle.json5_walk.proofs.Determined.{here}
use Rattle.json5_walk.proofs.Rests.{append_nil}
use Rattle.json5_edit.specs.Changes.{ChangesBy}
use Rattle.json5_edit.specs.Comparing.{IsWithout, step_kind, step_key}
use Rattle.json5_edit.specs.Entries.{entries}
use Rattle.json5_edit.specs.Places.{IsValue}
use Rattle.json5_edit.specs.Spots.{BeginsWithComma, EndTokens, IsAroundComma, LastEnds, Goes, HasBefore, HasEnd, HasEntry, HasFound, IsAhead, IsCommaSpan, Measures, Parts, Removes, Spot, TakesCommaAhead, due_at, joined}
use Rattle.json5_edit.specs.declared.paths.Step.{Step}
use Rattle.json5_edit.specs.declared.plain.CommaSpan.{CommaSpan}
use Rattle.json5_edit.specs.declared.plain.End.{End}
use Rattle.json5_edit.specs.declared.plain.EntryLen.{EntryLen}
use Rattle.json5_edit.specs.declared.survey.Found.{Found}
use Rattle.json5_edit.proofs.Measured.{bare_entry, goes_past_comma, whole_entry}
use Rattle.json5_edit.proofs.Placed.{encoded, scalars_left, bytes_cut, scalars_right, seam}
use Rattle.json5_edit.proofs.PlainCuts.{cut_after_value, cut_alone, cut_with_comma, opening_array, opening_object}
use Rattle.json5_edit.proofs.PlainlyEdited.{HasFirst, ascii_comma, ascii_utf8, back_there, chars_both, chars_joined, cut_in_two, cut_there, first_of, front_there, makes, rest_there, rest_utf8, same_rest, utf8_both}
use Rattle.json5_edit.proofs.Spotted.{IsOf, entries_joined, joined_kind, not_nothing, spells_value, value_document}
use Rattle.json5_edit.proofs.PiecesJoined.{last_gap, no_characters}
use Rattle.json5_edit.proofs.TakenApart.{alone_goes, entry_there}

-- ---- what comes at a spot before the entry

-- the entries that go on there, the first of which goes
pub record Coming (s : Step) (limit : ℕ) (due : Bool) (gone : Tree) (after : List (List ℕ × Tree)) (x : List ℕ) : Type 0 where
  pub all : Tree
  pub of_kind : IsOf (step_kind s) all
  pub goes : Goes due all x
  pub shallow : depth all ≤ limit
  pub first : HasFirst (step_kind s) all gone after

pub coming : {s : Step} {limit n j : ℕ} {bytes : List ℕ} {due : Bool} (h : HasEntry s limit bytes n) → (p : Spot limit bytes h.entry.before due j) → Coming s limit due h.entry.gone h.entry.after p.rest
coming {s = s} {limit = limit} {bytes = bytes} h p =
    let e = h.entry in
    let kt : IsOf (step_kind s) e.before = e.same_kind ∙ h.kind in
    let (u, same, goes, small, joins) = p.back h.tree (spells_value limit (chars bytes) h.tree h.value h.shallow) in
    let ku : IsOf (step_kind s) u = same ∙ kt in
    let left : entries u ≡ (step_key s, e.gone) ∷ e.after = same_rest (entries e.before) (entries u) ((step_key s, e.gone) ∷ e.after) (sym (entries_joined (step_kind s) e.before u kt ku) ∙ sym (ap entries joins) ∙ e.all) in
    record { all = u; of_kind = ku; goes = goes; shallow = small; first = first_of (step_kind s) u e.gone (step_key s) e.after ku left }

-- the text with what goes on without it
pub taken_out : {s : Step} {limit n j : ℕ} {bytes : List ℕ} {due : Bool} (new z : List ℕ) → limit ≤ max_depth → IsUtf8 bytes → (h : HasEntry s limit bytes n) → (p : Spot limit bytes h.entry.before due j) → (r : Coming s limit due h.entry.gone h.entry.after p.rest) → chars new ≡ p.front ++ z → Goes due r.first.rest z → ChangesBy (IsWithout s) bytes new × IsValue limit (chars new)
taken_out {s = s} {limit = limit} {bytes = bytes} new z small utf8 h p r spelled goes =
    let e = h.entry in
    let f = r.first in
    let kt : IsOf (step_kind s) e.before = e.same_kind ∙ h.kind in
    let kr : IsOf (step_kind s) f.rest = f.same_kind ∙ r.of_kind in
    let less = f.less in
    let fits = r.shallow in
    let (val, shallow) = makes h.value h.shallow h.kind kt p f.rest z kr goes (omega (arith, less, fits)) in
    let w : Tree = joined e.before f.rest in
    let value : Val (chars new) w = subst (λ x. Val x w) (sym spelled) val in
    let d = h.shallow in (
      (
        h.tree,
        w,
        value_document max_depth (chars bytes) h.tree h.value (omega (arith, d, small)),
        value_document max_depth (chars new) w value (omega (arith, shallow, small)),
        record {
          was_kind = h.kind;
          kind = joined_kind (step_kind s) e.before f.rest kt kr;
          before = entries e.before;
          after = e.after;
          gone = e.gone;
          was = e.all;
          now = entries_joined (step_kind s) e.before f.rest kt kr ∙ ap (λ x. entries e.before ++ x) f.others;
          there = e.there;
        },
      ),
      (w, value, shallow),
    )

-- how the entry's length is known
measured_goes : {s : Step} {limit : ℕ} {due : Bool} {gone : Tree} {after : List (List ℕ × Tree)} {x : List ℕ} {kd : Kind} {rest : List ℕ} {len : EntryLen} → kd ≡ step_kind s → (r : Coming s limit due gone after x) → Goes false r.all (chars rest) → (m : Measures kd limit rest len) → Goes true r.first.rest (m.end ++ m.rest) × Goes false r.first.rest m.rest
measured_goes {gone = gone} is_kind r goes m =
    let f = r.first in
    let fits = f.fits in
    let small = r.shallow in
    m.goes r.all gone f.rest (subst (λ k. Parts k r.all gone f.rest) (sym is_kind) f.parts) goes (omega (arith, fits, small))

-- ---- where the entry begins

-- a spot before the first entry is after the opening bracket
first_front : {limit n : ℕ} {bytes : List ℕ} {w t : Tree} (k : Kind) → Val (chars bytes) w → depth w ≤ limit → IsOf k w → IsOf k t → 1 ≤ limit → (p : Spot limit bytes t false n) → entries t ≡ [] → Spans last.sign p.front last.sign
first_front {t = array no_more} kind.Array v d kw kt one p none = opening_array p.front (makes v d kw kt p (array no_more) (93 ∷ []) refl (here 93 []) one).0
first_front {t = object no_member} kind.Object v d kw kt one p none = opening_object p.front (makes v d kw kt p (object no_member) (125 ∷ []) refl (here 125 []) one).0
first_front {t = array no_more} kind.Object v d kw kt one p none = absurd (cc)
first_front {t = object no_member} kind.Array v d kw kt one p none = absurd (cc)
first_front {t = array (more t ts)} k v d kw kt one p none = absurd (cc)
first_front {t = object (member u b t ps)} k v d kw kt one p none = absurd (cc)
first_front {t = null} k v d kw kt one p none = absurd (cc)
first_front {t = boolean b} k v d kw kt one p none = absurd (cc)
first_front {t = number n} k v d kw kt one p none = absurd (cc)
first_front {t = text u b} k v d kw kt one p none = absurd (cc)

some_depth : (k : Kind) (w : Tree) → IsOf k w → 1 ≤ depth w
some_depth k (array ts) e = omega arith
some_depth k (object ps) e = omega arith
some_depth k null e = absurd (cc)
some_depth k (boolean b) e = absurd (cc)
some_depth k (number n) e = absurd (cc)
some_depth k (text u b) e = absurd (cc)

abbrev pub found_entry : {s : Step} {limit : ℕ} {bytes : List ℕ} {f : Found} → HasFound s limit bytes f → HasEntry s limit bytes f.start
found_entry h = record { small = h.small; tree = h.tree; value = h.value; shallow = h.shallow; kind = h.kind; entry = h.entry.entry }

-- the entry is ahead
pub is_ahead : {s : Step} {limit n : ℕ} {kd : Kind} {bytes : List ℕ} (rest : List ℕ) → kd ≡ step_kind s → IsUtf8 bytes → (h : HasEntry s limit bytes n) → rest ≡ drop n bytes → IsAhead kd limit (chars rest)
is_ahead rest is_kind utf8 h is =
    let p = h.entry.spot in
    let chars_rest : chars rest ≡ p.rest = ap chars (is ∙ rest_there utf8 p) ∙ chars-encodes p.rest (cut_there utf8 p).2 in
    let r = coming h p in
    let f = r.first in
    let fits = f.fits in
    let small = r.shallow in
    record { all = r.all; gone = h.entry.gone; others = f.rest; parts = subst (λ k. Parts k r.all h.entry.gone f.rest) (sym is_kind) f.parts; goes = subst (Goes false r.all) (sym chars_rest) r.goes; fits = omega (arith, fits, small); solid = subst Solid (sym chars_rest) h.entry.solid }

-- it goes with the comma after it, or without one if it is the only entry
pub removed_here : {s : Step} {limit n : ℕ} {kd : Kind} (bytes new front rest gone back : List ℕ) (len : EntryLen) → kd ≡ step_kind s → limit ≤ max_depth → IsUtf8 bytes → (h : HasEntry s limit bytes n) → front ≡ take n bytes → rest ≡ drop n bytes → (m : Measures kd limit rest len) → gone ≡ take len.whole rest → back ≡ drop len.whole rest → (m.end ≡ [] → entries h.entry.before ≡ []) → new ≡ front ++ (back ++ []) → Removes s leads.Stays limit bytes new
removed_here {s = s} {limit = limit} {n = n} bytes new front rest gone back len is_kind small utf8 h front_take rest_drop m gone_take back_drop first now =
    let p = h.entry.spot in
    let (whole, scalar_front, scalar_rest) = cut_there utf8 p in
    let chars_rest : chars rest ≡ p.rest = ap chars (rest_drop ∙ rest_there utf8 p) ∙ chars-encodes p.rest scalar_rest in
    let utf8_rest = rest_utf8 rest utf8 p rest_drop in
    let part : List ℕ = (m.name ++ m.value) ++ m.end in
    let split : chars rest ≡ part ++ m.rest = m.split ∙ sym (append_assoc (m.name ++ m.value) m.end m.rest) in
    let scalar_z : all_scalars m.rest ≡ true = scalars_right part m.rest (ap all_scalars (sym split ∙ chars_rest) ∙ scalar_rest) in
    let back_is : back ≡ encode_utf8_all m.rest = back_there rest back len.whole utf8_rest back_drop part m.rest split m.whole in
    let joined_now : new ≡ front ++ back = now ∙ ap (λ z. front ++ z) (append_nil back) in
    let spelled : chars new ≡ p.front ++ m.rest = ap chars (joined_now ∙ ap (λ z. z ++ back) (front_take ∙ front_there utf8 p) ∙ ap (λ z. encode_utf8_all p.front ++ z) back_is) ∙ chars_joined p.front m.rest scalar_front scalar_z in
    let r = coming h p in
    let goes = measured_goes is_kind r (subst (Goes false r.all) (sym chars_rest) r.goes) m in
    let made = taken_out new m.rest small utf8 h p r spelled goes.1 in
    let old_is : chars bytes ≡ p.front ++ ((m.name ++ m.value) ++ (m.end ++ m.rest)) = p.split ∙ ap (λ z. p.front ++ z) (sym chars_rest ∙ m.split) in
    let entry = entry_there rest gone len.whole utf8_rest (whole_entry m) gone_take in
    let away = alone_goes (front ++ []) gone back entry in (
      made.0,
      (
        record {
          front = front;
          comma = [];
          middle = [];
          gone = gone;
          back = back;
          was = cut_in_two n front_take rest_drop ∙ ap (λ z. front ++ z) (cut_in_two len.whole gone_take back_drop);
          now = joined_now;
          is_comma = inl refl;
          belongs = away.0;
        },
        away.1,
      ),
      made.1,
      λ k q. subst (Plain k last.sign) (sym spelled) (cut r.first.rest goes m.is_end (subst (Plain k last.sign) old_is q)),
    )
  where
    -- of the text
    cut : {k : Bool} (r : Tree) → Goes true r (m.end ++ m.rest) × Goes false r m.rest → (m.end ≡ []) ⊎ ((w : List ℕ) × Blanks w × (m.end ≡ w ++ 44 ∷ [])) → Plain k last.sign (h.entry.spot.front ++ ((m.name ++ m.value) ++ (m.end ++ m.rest))) → Plain k last.sign (h.entry.spot.front ++ m.rest)
    cut r goes (inr (w, b, e)) q = cut_with_comma m.rest m.name m.end w r h.entry.spot.passed m.is_name m.is_value b e goes.0 goes.1 q
    cut {k = k} r goes (inl e) q =
        let front = h.entry.spot.front in
        let d = h.shallow in
        let some = some_depth (step_kind s) h.tree h.kind in
        cut_alone m.rest m.name r (first_front (step_kind s) h.value h.shallow h.kind (h.entry.same_kind ∙ h.kind) (omega (arith, d, some)) h.entry.spot (first e)) m.is_name m.is_value (subst (λ z. Goes true r (z ++ m.rest)) e goes.0) (subst (λ z. Plain k last.sign (front ++ ((m.name ++ m.value) ++ (z ++ m.rest)))) e q)

-- ---- where the entry before it ends

-- blanks may come before a comma or a closing bracket
sign_wider : (c : ℕ) (w x r : List ℕ) → Blanks w → IsSign c x r → IsSign c (w ++ x) r
sign_wider c w x r b a = record { front = w ++ a.front; split = ap (λ z. w ++ z) a.split ∙ sym (append_assoc w a.front (c ∷ r)); blank = Blanks-append b a.blank }

goes_wider : (w x : List ℕ) (u : Tree) → Blanks w → Goes true u x → Goes true u (w ++ x)
goes_wider w x (array no_more) b (inl a) = inl (sign_wider 93 w x [] b a)
goes_wider w x (array no_more) b (inr (y, a, c)) = inr (y, sign_wider 44 w x y b a, c)
goes_wider w x (array (more t ts)) b (y, (z, a, p), tl) = (y, (z, sign_wider 44 w x z b a, p), tl)
goes_wider w x (object no_member) b (inl a) = inl (sign_wider 125 w x [] b a)
goes_wider w x (object no_member) b (inr (y, a, c)) = inr (y, sign_wider 44 w x y b a, c)
goes_wider w x (object (member u e t ps)) b (y, z, (q, a, k), v, tl) = (y, z, (q, sign_wider 44 w x q b a, k), v, tl)
goes_wider w x null b g = absurd g
goes_wider w x (boolean c) b g = absurd g
goes_wider w x (number n) b g = absurd g
goes_wider w x (text u c) b g = absurd g

-- a comma comes
pub begins_with_comma : {s : Step} {limit n j : ℕ} {bytes : List ℕ} (following : List ℕ) → IsUtf8 bytes → (h : HasBefore s limit bytes n j) → following ≡ drop j bytes → BeginsWithComma (chars following)
begins_with_comma {s = s} following utf8 (h, l) is =
    let p = l.spot in
    let chars_text : chars following ≡ p.rest = ap chars (is ∙ rest_there utf8 p) ∙ chars-encodes p.rest (cut_there utf8 p).2 in
    let r = coming h p in
    (step_kind s, r.all, h.entry.gone, r.first.rest, r.first.parts, subst (Goes true r.all) (sym chars_text) r.goes)

comma_chars : (following before after rest : List ℕ) → TakesCommaAhead following before after rest → chars following ≡ chars before ++ (44 ∷ (chars after ++ chars rest))
comma_chars following before after rest t =
    ap chars t.split ∙ chars_both before (44 ∷ (after ++ rest)) t.before_text (utf8_both (44 ∷ []) (after ++ rest) ascii_utf8 (utf8_both after rest t.after_text t.rest_text))
    ∙ ap (λ z. chars before ++ z)
    (chars_both (44 ∷ []) (after ++ rest) ascii_utf8 (utf8_both after rest t.after_text t.rest_text) ∙ ap (λ z. z ++ chars (after ++ rest)) ascii_comma ∙ ap (λ z. 44 ∷ z) (chars_both after rest t.after_text t.rest_text))

-- the entry is ahead after it
pub is_ahead_later : {s : Step} {limit n j : ℕ} {kd : Kind} {bytes : List ℕ} (following before after rest : List ℕ) → kd ≡ step_kind s → IsUtf8 bytes → (h : HasBefore s limit bytes n j) → following ≡ drop j bytes → TakesCommaAhead following before after rest → IsAhead kd limit (chars rest)
is_ahead_later following before after rest is_kind utf8 (h, l) is t =
    let p = l.spot in
    let chars_text : chars following ≡ p.rest = ap chars (is ∙ rest_there utf8 p) ∙ chars-encodes p.rest (cut_there utf8 p).2 in
    let r = coming h p in
    let f = r.first in
    let fits = f.fits in
    let small = r.shallow in
    record { all = r.all; gone = h.entry.gone; others = f.rest; parts = subst (λ k. Parts k r.all h.entry.gone f.rest) (sym is_kind) f.parts; goes = goes_past_comma (chars before) (chars after) (chars rest) p.rest r.all t.is_before (Gap.blanks t.is_after) t.solid (sym chars_text ∙ comma_chars following before after rest t) r.goes; fits = omega (arith, fits, small); solid = t.solid }

-- it goes with the comma before it
pub removed_after : {s : Step} {limit n j : ℕ} {kd : Kind} (bytes new front following before after rest gone back : List ℕ) (len : EntryLen) → kd ≡ step_kind s → limit ≤ max_depth → IsUtf8 bytes → (h : HasBefore s limit bytes n j) → front ≡ take j bytes → following ≡ drop j bytes → TakesCommaAhead following before after rest → Measures kd limit rest len → gone ≡ take len.bare rest → back ≡ drop len.bare rest → new ≡ front ++ (before ++ (after ++ back)) → Removes s leads.Stays limit bytes new
removed_after {s = s} {limit = limit} {n = n} {j = j} bytes new front following before after rest gone back len is_kind small utf8 (h, l) front_take text_drop t m gone_take back_drop now =
    let p = l.spot in
    let (whole, scalar_front, scalar_rest) = cut_there utf8 p in
    let chars_text : chars following ≡ p.rest = ap chars (text_drop ∙ rest_there utf8 p) ∙ chars-encodes p.rest scalar_rest in
    let comma = comma_chars following before after rest t in
    let part : List ℕ = m.name ++ m.value in
    let left : List ℕ = m.end ++ m.rest in
    let scalar_left : all_scalars left ≡ true = scalars_right part left (ap all_scalars (sym m.split) ∙ scalars-chars rest t.rest_text) in
    let back_is : back ≡ encode_utf8_all left = back_there rest back len.bare t.rest_text back_drop part left m.split m.bare in
    let back_text : IsUtf8 back = subst IsUtf8 (sym back_is) (encoded left scalar_left) in
    let front_is = front_take ∙ front_there utf8 p in
    let front_text : IsUtf8 front = subst IsUtf8 (sym front_is) (encoded p.front scalar_front) in
    let z : List ℕ = chars before ++ (chars after ++ left) in
    let spelled : chars new ≡ p.front ++ z =
    ap chars now ∙ chars_both front (before ++ (after ++ back)) front_text (utf8_both before (after ++ back) t.before_text (utf8_both after back t.after_text back_text))
    ∙ ap (λ x. x ++ chars (before ++ (after ++ back))) (ap chars front_is ∙ chars-encodes p.front scalar_front)
    ∙ ap (λ x. p.front ++ x)
    (chars_both before (after ++ back) t.before_text (utf8_both after back t.after_text back_text)
    ∙ ap (λ x. chars before ++ x) (chars_both after back t.after_text back_text ∙ ap (λ x. chars after ++ x) (ap chars back_is ∙ chars-encodes left scalar_left))) in
    let r = coming h p in
    let goes = measured_goes is_kind r (goes_past_comma (chars before) (chars after) (chars rest) p.rest r.all t.is_before (Gap.blanks t.is_after) t.solid (sym chars_text ∙ comma) r.goes) m in
    let wider = goes_wider (chars before) (chars after ++ left) r.first.rest t.is_before (goes_wider (chars after) left r.first.rest t.is_after goes.0) in
    let made = taken_out new z small utf8 h p r spelled wider in
    let old_is : chars bytes ≡ p.front ++ (chars before ++ (44 ∷ (chars after ++ (part ++ left)))) =
    p.split ∙ ap (λ x. p.front ++ x) (sym chars_text ∙ comma ∙ ap (λ x. chars before ++ (44 ∷ (chars after ++ x))) m.split) in
    let entry = entry_there rest gone len.bare t.rest_text (bare_entry m) gone_take in
    let away = alone_goes ((front ++ before) ++ ((44 ∷ []) ++ after)) gone back entry in
    let cut_rest : rest ≡ gone ++ back = cut_in_two len.bare gone_take back_drop in (
      made.0,
      (
        record {
          front = front ++ before;
          comma = 44 ∷ [];
          middle = after;
          gone = gone;
          back = back;
          was = cut_in_two j front_take text_drop ∙ ap (λ x. front ++ x) (t.split ∙ ap (λ x. before ++ (44 ∷ (after ++ x))) cut_rest) ∙ sym (append_assoc front before (44 ∷ (after ++ (gone ++ back))));
          now = now ∙ sym (append_assoc front before (after ++ back));
          is_comma = inr (refl, subst (WholeTokens true) (sym (chars_both front before front_text t.before_text ∙ ap (λ x. x ++ chars before) (ap chars front_is ∙ chars-encodes p.front scalar_front))) (then_blanks p.passed t.is_before), LastBlanks.blanks t.is_after);
          belongs = away.0;
        },
        away.1,
      ),
      made.1,
      λ k q. subst (Plain k last.sign) (sym spelled) (cut_after_value left m.name r.first.rest l.ends t.is_before t.is_after m.is_name m.is_value goes.0 (subst (Plain k last.sign) old_is q)),
    )

-- ---- the texts around a comma

ascii : encode_utf8_all (44 ∷ []) ≡ 44 ∷ []
unfolding lib.Utf8.encode
ascii = refl

gap_before : (after rest : List ℕ) → Gap after rest → (rest ≡ [] → ⊥) → Blanks after
gap_before after [] g some = absurd (some refl)
gap_before after (c ∷ rest) g some = gap_blanks c rest g

module _ (following : List ℕ) (span : CommaSpan) (utf8 : IsUtf8 following) (at : IsCommaSpan following span) where
  scalars : all_scalars (at.before ++ 44 ∷ (at.after ++ at.rest)) ≡ true
  scalars = ap all_scalars (sym at.split) ∙ scalars-chars following utf8

  later : chars following ≡ (at.before ++ 44 ∷ at.after) ++ at.rest
  later = at.split ∙ sym (append_assoc at.before (44 ∷ at.after) at.rest)

  later_scalars : all_scalars ((at.before ++ 44 ∷ at.after) ++ at.rest) ≡ true
  later_scalars = ap all_scalars (sym later) ∙ scalars-chars following utf8

  front_scalars : all_scalars (at.before ++ 44 ∷ at.after) ≡ true
  front_scalars = scalars_left (at.before ++ 44 ∷ at.after) at.rest later_scalars

  front_split : at.before ++ 44 ∷ at.after ≡ (at.before ++ 44 ∷ []) ++ at.after
  front_split = sym (append_assoc at.before (44 ∷ []) at.after)

  pub start_seam : IsCharBoundary following span.start
  start_seam = subst (IsCharBoundary following) (sym at.starts) (seam following at.before (44 ∷ (at.after ++ at.rest)) utf8 at.split)

  pub next_seam : IsCharBoundary following span.next
  next_seam = subst (IsCharBoundary following) (sym at.follows) (seam following (at.before ++ 44 ∷ at.after) at.rest utf8 later)

  head_is : (head : List ℕ) → head ≡ take span.next following → head ≡ encode_utf8_all (at.before ++ 44 ∷ at.after)
  head_is head e = e ∙ ap (λ n. take n following) at.follows ∙ ap (take (bytes_in (at.before ++ 44 ∷ at.after))) (bytes_cut following (at.before ++ 44 ∷ at.after) at.rest utf8 later) ∙ take-append_seam (encode_utf8_all (at.before ++ 44 ∷ at.after)) (encode_utf8_all at.rest)

  head_utf8 : (head : List ℕ) → head ≡ take span.next following → IsUtf8 head
  head_utf8 head e = subst IsUtf8 (sym (head_is head e)) (encoded (at.before ++ 44 ∷ at.after) front_scalars)

  head_chars : (head : List ℕ) → head ≡ take span.next following → chars head ≡ (at.before ++ 44 ∷ []) ++ at.after
  head_chars head e = ap chars (head_is head e) ∙ chars-encodes (at.before ++ 44 ∷ at.after) front_scalars ∙ front_split

  pub end_seam : (head : List ℕ) → head ≡ take span.next following → IsCharBoundary head span.end
  end_seam head e = subst (IsCharBoundary head) (sym at.ends) (seam head (at.before ++ 44 ∷ []) at.after (head_utf8 head e) (head_chars head e))

  pub comma_taken : (before head after rest : List ℕ) → BeginsWithComma (chars following) → before ≡ take span.start following → head ≡ take span.next following → rest ≡ drop span.next following → after ≡ drop span.end head → TakesCommaAhead following before after rest
  comma_taken before head after rest (k, u, t, r, parts, goes) b h e a =
      let first : before ≡ encode_utf8_all at.before =
      b ∙ ap (λ n. take n following) at.starts ∙ ap (take (bytes_in at.before)) (bytes_cut following at.before (44 ∷ (at.after ++ at.rest)) utf8 at.split) ∙ take-append_seam (encode_utf8_all at.before) (encode_utf8_all (44 ∷ (at.after ++ at.rest))) in
      let second : after ≡ encode_utf8_all at.after =
      a ∙ ap (λ n. drop n head) at.ends ∙ ap (drop (bytes_in (at.before ++ 44 ∷ []))) (bytes_cut head (at.before ++ 44 ∷ []) at.after (head_utf8 head h) (head_chars head h))
      ∙ drop-append_seam (encode_utf8_all (at.before ++ 44 ∷ [])) (encode_utf8_all at.after) in
      let last : rest ≡ encode_utf8_all at.rest =
      e ∙ ap (λ n. drop n following) at.follows ∙ ap (drop (bytes_in (at.before ++ 44 ∷ at.after))) (bytes_cut following (at.before ++ 44 ∷ at.after) at.rest utf8 later)
      ∙ drop-append_seam (encode_utf8_all (at.before ++ 44 ∷ at.after)) (encode_utf8_all at.rest) in
      let scalar_before = scalars_left at.before (44 ∷ (at.after ++ at.rest)) scalars in
      let scalar_after = scalars_right (at.before ++ 44 ∷ []) at.after (ap all_scalars (sym front_split) ∙ front_scalars) in
      let scalar_rest = scalars_right (at.before ++ 44 ∷ at.after) at.rest later_scalars in
      let goes_rest = goes_past_comma at.before at.after at.rest (chars following) u at.is_before at.is_after at.solid at.split goes in
      let blank = gap_before at.after at.rest at.is_after (not_nothing false u at.rest goes_rest) in
      record {
        split =
            bytes_cut following at.before (44 ∷ (at.after ++ at.rest)) utf8 at.split ∙ ap (λ z. z ++ encode_utf8_all (44 ∷ (at.after ++ at.rest))) (sym first)
            ∙ ap (λ z. before ++ z)
            (encodes-append (44 ∷ []) (at.after ++ at.rest) ∙ ap (λ z. z ++ encode_utf8_all (at.after ++ at.rest)) ascii
            ∙ ap (λ z. 44 ∷ z) (encodes-append at.after at.rest ∙ ap (λ z. z ++ encode_utf8_all at.rest) (sym second) ∙ ap (λ z. after ++ z) (sym last)));
        before_text = subst IsUtf8 (sym first) (encoded at.before scalar_before);
        after_text = subst IsUtf8 (sym second) (encoded at.after scalar_after);
        rest_text = subst IsUtf8 (sym last) (encoded at.rest scalar_rest);
        is_before = subst Blanks (sym (ap chars first ∙ chars-encodes at.before scalar_before)) at.is_before;
        is_after = subst Blanks (sym (ap chars second ∙ chars-encodes at.after scalar_after)) blank;
        solid = subst Solid (sym (ap chars last ∙ chars-encodes at.rest scalar_rest)) at.solid;
      }

-- ---- where a length ends

-- an entry ends at a character
pub bare_boundary : {k : Kind} {limit : ℕ} (rest : List ℕ) (len : EntryLen) → IsUtf8 rest → Measures k limit rest len → IsCharBoundary rest len.bare
bare_boundary rest len u m = subst (IsCharBoundary rest) (sym m.bare) (seam rest (m.name ++ m.value) (m.end ++ m.rest) u m.split)

pub whole_boundary : {k : Kind} {limit : ℕ} (rest : List ℕ) (len : EntryLen) → IsUtf8 rest → Measures k limit rest len → IsCharBoundary rest len.whole
whole_boundary rest len u m = subst (IsCharBoundary rest) (sym m.whole) (seam rest ((m.name ++ m.value) ++ m.end) m.rest u (m.split ∙ sym (append_assoc (m.name ++ m.value) m.end m.rest)))

-- with no comma after it both lengths are the same
pub same_len : {k : Kind} {limit : ℕ} {bytes : List ℕ} {n : EntryLen} → (m : Measures k limit bytes n) → m.end ≡ [] → n.bare ≡ n.whole
same_len m e = m.bare ∙ sym (m.whole ∙ ap (λ z. bytes_in ((m.name ++ m.value) ++ z)) e ∙ ap bytes_in (append_nil (m.name ++ m.value)))

-- ---- by lines

-- whole tokens end where a comma is due
spot_tokens : {limit n : ℕ} {bytes : List ℕ} {t : Tree} → IsUtf8 bytes → Spot limit bytes t true n → EndTokens bytes (Some n)
spot_tokens utf8 p =
    let (whole, scalar_front, scalar_rest) = cut_there utf8 p in
    let is = front_there utf8 p in
    (subst IsUtf8 (sym is) (encoded p.front scalar_front), subst (WholeTokens true) (sym (ap chars is ∙ chars-encodes p.front scalar_front)) p.passed)

due_there : {limit n : ℕ} {bytes : List ℕ} {t : Tree} (due : Bool) → IsUtf8 bytes → Spot limit bytes t due n → EndTokens bytes (due_at due n)
due_there true utf8 p = spot_tokens utf8 p
due_there false utf8 p = tt

pub due_tokens : {k : Kind} {limit : ℕ} {bytes : List ℕ} (end : End) → IsUtf8 bytes → HasEnd k limit bytes end → EndTokens bytes (due_at end.comma end.at)
due_tokens end utf8 h = due_there end.comma utf8 h.end

-- whole tokens end where the value of the entry before ends
pub end_tokens : {s : Step} {limit : ℕ} {bytes : List ℕ} (f : Found) → IsUtf8 bytes → HasFound s limit bytes f → EndTokens bytes f.before
end_tokens {limit = limit} {bytes = bytes} f utf8 h = by_before f.before h.entry.before
  where
    by_before : (n : Option ℕ) → MatchOption n (entries h.entry.entry.before ≡ []) (LastEnds limit bytes h.entry.entry.before) → EndTokens bytes n
    by_before None m = tt
    by_before (Some n) l = spot_tokens utf8 l.spot

-- the blanks around a comma that was found, and what is before it
pub comma_there : (x front rest blank rest_after comma middle gap left : List ℕ) (before : Option ℕ) (n : ℕ) → before ≡ Some n → length front ≡ n → x ≡ front ++ rest → rest ≡ blank ++ rest_after → Gap (chars blank) (chars rest_after) → rest_after ≡ comma ++ middle → comma ≡ 44 ∷ [] → middle ≡ gap ++ left → Gap (chars gap) (chars left) → left ≡ [] → IsAroundComma x before front blank middle
comma_there x front rest blank rest_after comma middle gap left before n b len e f before_gap g is_comma h after_gap none =
    let later_is : chars rest_after ≡ 44 ∷ chars middle = ap chars (g ∙ ap (λ z. z ++ middle) is_comma) ∙ chars-append (44 ∷ []) middle ascii_utf8 ∙ ap (λ z. z ++ chars middle) ascii_comma in
    let middle_is : gap ≡ middle = sym (h ∙ ap (λ z. gap ++ z) none ∙ append_nil gap) in
    record {
      comma = 44 ∷ [];
      split = e ∙ ap (λ z. front ++ z) (f ∙ ap (λ z. blank ++ z) (g ∙ ap (λ z. z ++ middle) is_comma));
      is_comma = inr (refl, b ∙ ap Some (sym len), gap_blanks 44 (chars middle) (subst (Gap (chars blank)) later_is before_gap), subst (λ z. LastBlanks (chars z)) middle_is (last_gap (chars gap) (chars left) (ap chars none ∙ no_characters) after_gap));
    }

-- what comes before a comma, and is passed up to it, is closed
pub closed_there : (blank whole p left : List ℕ) → whole ≡ blank ++ (44 ∷ []) → whole ≡ p ++ left → Gap (chars p) (chars left) → left ≡ 44 ∷ [] → Blanks (chars blank)
closed_there blank whole p left e f gap is =
    let same : blank ++ (44 ∷ []) ≡ p ++ (44 ∷ []) = sym e ∙ f ∙ ap (λ z. p ++ z) is in
    let size : length blank + 1 ≡ length p + 1 = sym (length-append blank (44 ∷ [])) ∙ ap length same ∙ length-append p (44 ∷ []) in
    let len : length p ≡ length blank = omega (arith, size) in
    let p_is : p ≡ blank = sym (take-append_seam p (44 ∷ [])) ∙ ap (λ n. take n (p ++ (44 ∷ []))) len ∙ ap (take (length blank)) (sym same) ∙ take-append_seam blank (44 ∷ []) in
    subst (λ z. Blanks (chars z)) p_is (gap_blanks 44 [] (subst (Gap (chars p)) (ap chars is ∙ ascii_comma) gap))

-- where no comment goes, no other one does
may_go : (l : Lead) (x : List ℕ) → MayGo leads.Stays x → MayGo l x
may_go leads.Goes x m = tt
may_go leads.Stays x m = m

pub loosened : {s : Step} {limit : ℕ} {old new : List ℕ} (l : Lead) → Removes s leads.Stays limit old new → Removes s l limit old new
loosened l (change, (cuts, none), fits, plain) = (change, (cuts, may_go l cuts.belongs.lead none), fits, plain)
