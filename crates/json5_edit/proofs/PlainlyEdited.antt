-- A collection with one entry less, or one more, in its text.
use Rattle.std.proofs.Common.{◌≡◌, ℕ, ◌+◌, ◌≤◌, ◌-◌, Bool, true, false, List, [], ◌∷◌, ◌++◌, length, refl, ap, sym, ◌∙◌, append_assoc, subst, inl, inr, arith, take, drop}
use Rattle.std.specs.Str.{chars, IsUtf8, IsCharBoundary, all_scalars, encode_utf8_all}
use Rattle.std.proofs.lemmas.List.{length-append, take-append-drop}
use Rattle.std.proofs.lemmas.Str.{chars-encodes, scalars-chars, chars-append, IsUtf8-append}
use Rattle.std.proofs.Math.Seq.{drop-append_seam, take-append_seam}
use Rattle.json5_grammar.specs.Language.Blanks.{Blanks, Gap, LastBlanks, Solid}
use Rattle.json5_grammar.specs.Language.Documents.{max_depth}
use Rattle.json5_grammar.specs.Language.Trees.{Tree, null, boolean, number, text, array, object, no_more, more, no_member, member, depth}
use Rattle.json5_grammar.specs.Language.Values.{Val, Stops, Reads}
use Rattle.json5_grammar.specs.Model.Collections.{IsSign, ReadsKey}
use Rattle.json5_grammar.proofs.ArraysRead.{opening_solid, tail_comma, phrase_found}
use Rattle.json5_grammar.proofs.BlanksRead.{begins_solid}
use Rattle.json5_grammar.proofs.CharacterClasses.{EndsValues, colon_no_name, comma_ends_values, bracket_ends_values, brace_ends_values}
use Rattle.json5_grammar.proofs.ObjectsRead.{opening_brace_solid, pairs_comma}
use Rattle.json5_grammar.proofs.ValueHeads.{stops_blanks, key_before_blanks}
use Rattle.json5_tokens.specs.Outcome.{bytes_in}
use Rattle.json5_read.specs.declared.brackets.BracketKind.{BracketKind as Kind}
use Rattle.json5_read.specs.declared.brackets.BracketKind.TheVariants as kind
use Rattle.json5_read.specs.Brackets.{brackets_of}
use Rattle.json5_walk.specs.Frames.{value_end, Spells}
use Rattle.json5_walk.specs.Seams.{WholeTokens}
use Rattle.json5_walk.proofs.Rests.{append_nil}
use Rattle.json5_walk.proofs.Determined.{here}
use Rattle.json5_lexemes.specs.Lexemes.{HaveSameLexemes, no_lexeme, separator, sign}
use Rattle.json5_edit.specs.Changes.{Gains, GainsAt, HasIndex}
use Rattle.json5_edit.specs.Comparing.{IsWithLast, step_kind, step_key}
use Rattle.json5_edit.specs.Entries.{elements, members, entries, kind_of}
use Rattle.json5_edit.specs.Pieces.{IsCommaBetween, IsSpace, IsNameAlone, IsEntryAlone, Grows, SpellsKey, SplitsKey}
use Rattle.json5_edit.specs.Places.{IsValue}
use Rattle.json5_edit.specs.Spots.{Goes, joined, Spot, HasEntry, HasEnd, Adds, Parts, first_element, first_member, SpellsEntry, spells_element, spells_member, comma_for}
use Rattle.json5_edit.specs.declared.paths.Step.{Step}
use Rattle.json5_edit.specs.declared.paths.Step.TheVariants as step
use Rattle.json5_edit.specs.declared.plain.End.{End}
use Rattle.json5_edit.proofs.PiecesJoined.{no_characters}
use Rattle.json5_edit.proofs.Placed.{scalars_left, scalars_right, bytes_cut, encoded, seam}
use Rattle.json5_edit.proofs.Refused.{begins_with}
use Rattle.json5_edit.proofs.Spotted.{spells_value, value_document, IsOf, entries_joined, joined_kind, first_tree, later_entries}

-- ---- lists

no_rest : (es fs : List (List ℕ × Tree)) → es ≡ es ++ fs → fs ≡ []
no_rest [] fs e = sym e
no_rest (a ∷ es) fs e = no_rest es fs (ap later_entries e)

pub same_rest : (es fs gs : List (List ℕ × Tree)) → es ++ fs ≡ es ++ gs → fs ≡ gs
same_rest [] fs gs e = e
same_rest (a ∷ es) fs gs e = same_rest es fs gs (ap later_entries e)

-- ---- the first entry of a collection

pub record HasFirst (k : Kind) (u : Tree) (gone : Tree) (after : List (List ℕ × Tree)) : Type 0 where
  pub rest : Tree
  pub parts : Parts k u gone rest
  pub others : entries rest ≡ after
  pub same_kind : kind_of rest ≡ kind_of u
  pub less : depth rest ≤ depth u
  pub fits : depth gone ≤ depth u

pub first_of : (k : Kind) (u gone : Tree) (key : List ℕ) (after : List (List ℕ × Tree)) → IsOf k u → entries u ≡ (key, gone) ∷ after → HasFirst k u gone after
first_of kind.Array (array (more t us)) gone key after k e =
    let same : t ≡ gone = ap first_tree e in
    let rest : elements us ≡ after = ap later_entries e in
    subst (λ g. HasFirst kind.Array (array (more t us)) g after) same (record { rest = array us; parts = first_element t us; others = rest; same_kind = refl; less = omega arith; fits = omega arith })
first_of kind.Object (object (member u b t qs)) gone key after k e =
    let same : t ≡ gone = ap first_tree e in
    let rest : members qs ≡ after = ap later_entries e in
    subst (λ g. HasFirst kind.Object (object (member u b t qs)) g after) same (record { rest = object qs; parts = first_member u b t qs; others = rest; same_kind = refl; less = omega arith; fits = omega arith })
first_of k (array no_more) gone key after h e = absurd (cc)
first_of k (object no_member) gone key after h e = absurd (cc)
first_of kind.Object (array (more t us)) gone key after h e = absurd (cc)
first_of kind.Array (object (member u b t qs)) gone key after h e = absurd (cc)
first_of k null gone key after h e = absurd (cc)
first_of k (boolean c) gone key after h e = absurd (cc)
first_of k (number n) gone key after h e = absurd (cc)
first_of k (text v c) gone key after h e = absurd (cc)

-- ---- a text that is a value, with its bracket in front

-- something comes before the entries: a bracket closed there begins no collection
abbrev first_of_text : List ℕ → ℕ
first_of_text [] = 0
first_of_text (c ∷ x) = c

abbrev rest_of_text : List ℕ → List ℕ
rest_of_text [] = []
rest_of_text (c ∷ x) = x

nothing_made : (f : List ℕ) (c : ℕ) (m : List ℕ) → [] ≡ f ++ (c ∷ m) → ⊥
nothing_made [] c m e = cc
nothing_made (a ∷ f) c m e = cc

no_opening : (k : Kind) (f m r : List ℕ) → (brackets_of k).closing ∷ [] ≡ f ++ (((brackets_of k).opening ∷ m) ++ r) → ⊥
no_opening kind.Array [] m r e = let h : 93 ≡ 91 = ap first_of_text e in omega (arith, h)
no_opening kind.Object [] m r e = let h : 125 ≡ 123 = ap first_of_text e in omega (arith, h)
no_opening k (a ∷ f) m r e = nothing_made f (brackets_of k).opening (m ++ r) (ap rest_of_text e)

closing_alone : (k : Kind) (t : Tree) (f p r : List ℕ) → IsOf k t → Val p t → (brackets_of k).closing ∷ [] ≡ f ++ (p ++ r) → ⊥
closing_alone k t f p r h v e = let (m, is) = begins_with k p t v h in no_opening k f m r (e ∙ ap (λ z. f ++ (z ++ r)) is)

closes_now : (k : Kind) (due : Bool) → (u : Tree) × IsOf k u × (depth u ≡ 1) × Goes due u ((brackets_of k).closing ∷ [])
closes_now kind.Array false = (array no_more, refl, refl, here 93 [])
closes_now kind.Array true = (array no_more, refl, refl, inl (here 93 []))
closes_now kind.Object false = (object no_member, refl, refl, here 125 [])
closes_now kind.Object true = (object no_member, refl, refl, inl (here 125 []))

starts_with : (k : Kind) (x front rest : List ℕ) (m : List ℕ) → x ≡ (brackets_of k).opening ∷ m → x ≡ front ++ rest → (front ≡ [] → ⊥) → (z : List ℕ) → Solid (front ++ z)
starts_with k x [] rest m e s n z = absurd (n refl)
starts_with kind.Array x (c ∷ front) rest m e s n z = let same : c ≡ 91 = ap first_of_text (sym s ∙ e) in subst (λ d. Solid (d ∷ (front ++ z))) (sym same) (begins_solid 91 (front ++ z) opening_solid)
starts_with kind.Object x (c ∷ front) rest m e s n z = let same : c ≡ 123 = ap first_of_text (sym s ∙ e) in subst (λ d. Solid (d ∷ (front ++ z))) (sym same) (begins_solid 123 (front ++ z) opening_brace_solid)

alone_value : (limit : ℕ) (x : List ℕ) (t : Tree) → Solid x → Spells value_end limit x t → Val x t
alone_value limit x t s (p, d) = let is : x ≡ p.phrase ++ [] = phrase_found x [] x [] t refl (Gap.blanks Blanks.empty) s p in subst (λ z. Val z t) (sym (is ∙ append_nil p.phrase)) p.value

-- a collection has a bracket
at_least_one : (k : Kind) (w : Tree) → IsOf k w → 1 ≤ depth w
at_least_one k (array ts) e = omega arith
at_least_one k (object ps) e = omega arith
at_least_one k null e = absurd (cc)
at_least_one k (boolean b) e = absurd (cc)
at_least_one k (number n) e = absurd (cc)
at_least_one k (text u b) e = absurd (cc)

-- what goes on at a spot makes a value
pub makes : {k : Kind} {limit n : ℕ} {bytes : List ℕ} {w t : Tree} {due : Bool} → Val (chars bytes) w → depth w ≤ limit → IsOf k w → IsOf k t → (p : Spot limit bytes t due n) → (u : Tree) (z : List ℕ) → IsOf k u → Goes due u z → depth u ≤ limit → Val (p.front ++ z) (joined t u) × (depth (joined t u) ≤ limit)
makes {k = k} {limit = limit} {bytes = bytes} {w = w} {t = t} {due = due} v d kw kt p u z ku g small =
    let s = p.goes u z (ku ∙ sym kt) g small in
    let (m, begins) = begins_with k (chars bytes) w v kw in
    let solid = starts_with k (chars bytes) p.front p.rest m begins p.split (front_begins) z in
    (alone_value limit (p.front ++ z) (joined t u) solid s, s.1)
  where
    front_begins : p.front ≡ [] → ⊥
    front_begins none =
        let (c, kc, one, closes) = closes_now k due in
        let roomy = at_least_one k w kw in
        let (r, size) = p.goes c ((brackets_of k).closing ∷ []) (kc ∙ sym kt) closes (omega (arith, one, roomy, d)) in
        let whole : (brackets_of k).closing ∷ [] ≡ r.front ++ (r.phrase ++ []) = ap (λ z. z ++ ((brackets_of k).closing ∷ [])) (sym none) ∙ r.split in
        closing_alone k (joined t c) r.front r.phrase [] (joined_kind k t c kt kc) r.value whole

-- ---- an entry less

-- the text in bytes, cut at a spot
pub cut_there : {limit n : ℕ} {bytes : List ℕ} {t : Tree} {due : Bool} → IsUtf8 bytes → (p : Spot limit bytes t due n) → (bytes ≡ encode_utf8_all p.front ++ encode_utf8_all p.rest) × (all_scalars p.front ≡ true) × (all_scalars p.rest ≡ true)
cut_there {bytes = bytes} u p =
    let scalars : all_scalars (p.front ++ p.rest) ≡ true = ap all_scalars (sym p.split) ∙ scalars-chars bytes u in
    (bytes_cut bytes p.front p.rest u p.split, scalars_left p.front p.rest scalars, scalars_right p.front p.rest scalars)

pub chars_joined : (x y : List ℕ) → all_scalars x ≡ true → all_scalars y ≡ true → chars (encode_utf8_all x ++ encode_utf8_all y) ≡ x ++ y
chars_joined x y a b = chars-append (encode_utf8_all x) (encode_utf8_all y) (encoded x a) ∙ ap (λ z. z ++ chars (encode_utf8_all y)) (chars-encodes x a) ∙ ap (λ z. x ++ z) (chars-encodes y b)

-- ---- an entry more

sign_stops : (c : ℕ) (x r s : List ℕ) → EndsValues c → IsSign c x r → Stops s x
sign_stops c x r s h a = subst (Stops s) (sym a.split) (stops_blanks s c r a.blank h)

-- what goes on after a value ends it
goes_stops : (u : Tree) (x s : List ℕ) → Goes true u x → Stops s x
goes_stops (array no_more) x s (inl a) = sign_stops 93 x [] s bracket_ends_values a
goes_stops (array no_more) x s (inr (y, a, b)) = sign_stops 44 x y s comma_ends_values a
goes_stops (array (more t ts)) x s (y, (z, a, p), tl) = sign_stops 44 x z s comma_ends_values a
goes_stops (object no_member) x s (inl a) = sign_stops 125 x [] s brace_ends_values a
goes_stops (object no_member) x s (inr (y, a, b)) = sign_stops 44 x y s comma_ends_values a
goes_stops (object (member u e t ps)) x s (y, z, (w, a, k), v, tl) = sign_stops 44 x w s comma_ends_values a
goes_stops null x s g = absurd g
goes_stops (boolean b) x s g = absurd g
goes_stops (number n) x s g = absurd g
goes_stops (text v e) x s g = absurd g

-- after a comma
pub goes_after_comma : (u : Tree) (x : List ℕ) → Goes false u x → Goes true u (44 ∷ x)
goes_after_comma (array us) x g = tail_comma us (44 ∷ x) x [] (here 44 x) g
goes_after_comma (object qs) x g = pairs_comma qs (44 ∷ x) x [] (here 44 x) g
goes_after_comma null x g = absurd g
goes_after_comma (boolean b) x g = absurd g
goes_after_comma (number n) x g = absurd g
goes_after_comma (text v e) x g = absurd g

-- at the closing bracket no comma is due
pub goes_closed : (u : Tree) (x : List ℕ) → entries u ≡ [] → Goes false u x → Goes true u x
goes_closed (array no_more) x e g = inl g
goes_closed (object no_member) x e g = inl g
goes_closed (array (more t us)) x e g = absurd (cc)
goes_closed (object (member u b t qs)) x e g = absurd (cc)
goes_closed null x e g = absurd g
goes_closed (boolean b) x e g = absurd g
goes_closed (number n) x e g = absurd g
goes_closed (text v b) x e g = absurd g

-- a value alone in front
reads_alone : (x z : List ℕ) (v : Tree) → Val x v → Stops x z → Reads (x ++ z) v z
reads_alone x z v p s = record { front = []; phrase = x; split = refl; blank = Blanks.empty; value = p; stops = s }

-- the collection with an entry before those of u
pub record WithFirst (k : Kind) (key : List ℕ) (v u : Tree) (x : List ℕ) : Type 0 where
  pub all : Tree
  pub same_kind : IsOf k all
  pub one_more : entries all ≡ (key, v) ∷ entries u
  pub fits : (limit : ℕ) → depth v + 1 ≤ limit → depth u ≤ limit → depth all ≤ limit
  pub goes : (z : List ℕ) → Goes true u z → Goes false all (x ++ z)

pub with_first : {k : Kind} {key x : List ℕ} {v : Tree} (u : Tree) → SpellsEntry k key v x → IsOf k u → WithFirst k key v u x
with_first (array us) (spells_element v x p) e = record {
  all = array (more v us);
  same_kind = refl;
  one_more = refl;
  fits = λ limit a b. omega (arith, a, b);
  goes = λ z g. (z, reads_alone x z v p (goes_stops (array us) z x g), g);
}
with_first (object qs) (spells_member s w u b v name p) e = record {
  all = object (member u b v qs);
  same_kind = refl;
  one_more = refl;
  fits = λ limit a b. omega (arith, a, b);
  goes = λ z g.
      let key_front : ReadsKey ((s ++ 58 ∷ w) ++ z) u b (58 ∷ (w ++ z)) = record { front = []; spelling = s; split = append_assoc s (58 ∷ w) z; blank = Blanks.empty; key = key_before_blanks 58 (w ++ z) Blanks.empty name colon_no_name } in
      (58 ∷ (w ++ z), z, key_front, (w ++ z, here 58 (w ++ z), reads_alone w z v p (goes_stops (object qs) z w g)), g);
}
with_first (object qs) (spells_element v x p) e = absurd (cc)
with_first (array us) (spells_member s w u b v name p) e = absurd (cc)
with_first null s e = absurd (cc)
with_first (boolean b) s e = absurd (cc)
with_first (number n) s e = absurd (cc)
with_first (text t b) s e = absurd (cc)

-- no part of a text is blank
pub no_part : HaveSameLexemes (chars []) []
no_part = subst (λ x. HaveSameLexemes x []) (sym no_characters) (record { lexemes = []; left = no_lexeme; right = no_lexeme })

-- a text with a part put into it at a spot
pub grows_there : (k : Kind) (value bytes front back comma came new : List ℕ) → IsCommaBetween front comma [] → IsEntryAlone k value came → bytes ≡ front ++ back → new ≡ front ++ (comma ++ (came ++ back)) → Grows k value bytes new
grows_there k value bytes front back comma came new c a was now = record { front = front; middle = []; gone = []; back = back; comma = comma; came = came; was = was; now = now; is_comma = c; blank = no_part; alone = a }

-- what a part that was put in at a spot makes
pub record Made (limit : ℕ) (old new : List ℕ) (w : Tree) : Type 0 where
  pub value : Val (chars new) w
  pub shallow : depth w ≤ limit

pub made_there : {k : Kind} {limit n : ℕ} {bytes new : List ℕ} {w t : Tree} {due : Bool} (part : List ℕ) → IsUtf8 bytes → IsUtf8 part → Val (chars bytes) w → depth w ≤ limit → IsOf k w → IsOf k t → (p : Spot limit bytes t due n) → new ≡ encode_utf8_all p.front ++ (part ++ encode_utf8_all p.rest) → (u : Tree) → IsOf k u → Goes due u (chars part ++ p.rest) → depth u ≤ limit → Made limit bytes new (joined t u)
made_there {t = t} part utf8 part_utf8 v d kw kt p now u ku g small =
    let (whole, scalar_front, scalar_rest) = cut_there utf8 p in
    let (val, shallow) = makes v d kw kt p u (chars part ++ p.rest) ku g small in
    let spelled =
    ap chars now ∙ chars-append (encode_utf8_all p.front) (part ++ encode_utf8_all p.rest) (encoded p.front scalar_front)
    ∙ ap (λ z. z ++ chars (part ++ encode_utf8_all p.rest)) (chars-encodes p.front scalar_front)
    ∙ ap (λ z. p.front ++ z) (chars-append part (encode_utf8_all p.rest) part_utf8 ∙ ap (λ z. chars part ++ z) (chars-encodes p.rest scalar_rest)) in
    record { value = subst (λ x. Val x (joined t u)) (sym spelled) val; shallow = shallow }

-- one bracket around a value
pub fits_inside : (limit d : ℕ) (k : Kind) (w : Tree) → IsOf k w → depth w ≤ limit → d ≤ limit - 1 → d + 1 ≤ limit
fits_inside limit d k w e l h = let n = at_least_one k w e in omega (arith, n, l, h)

pub ascii_comma : chars (44 ∷ []) ≡ 44 ∷ []
unfolding lib.Utf8.encode
ascii_comma = chars-encodes (44 ∷ []) refl

pub ascii_utf8 : IsUtf8 (44 ∷ [])
unfolding lib.Utf8.encode
ascii_utf8 = encoded (44 ∷ []) refl

pub chars_both : (x y : List ℕ) → IsUtf8 x → IsUtf8 y → chars (x ++ y) ≡ chars x ++ chars y
chars_both x y a b = chars-append x y a

pub utf8_both : (x y : List ℕ) → IsUtf8 x → IsUtf8 y → IsUtf8 (x ++ y)
utf8_both x y a b = IsUtf8-append x y a b

pub comma_space : IsSpace (44 ∷ [])
comma_space = subst (λ x. HaveSameLexemes x []) (sym ascii_comma) (record { lexemes = []; left = separator refl no_lexeme; right = no_lexeme })

-- the element that the step goes to is there
pub has_index : {i limit n : ℕ} {bytes : List ℕ} → HasEntry (step.Index i) limit bytes n → HasIndex i bytes
has_index {i = i} h =
    let e = h.entry in
    let size = ap length e.all ∙ length-append (entries e.before) ((step_key (step.Index i), e.gone) ∷ e.after) in
    let there = e.there in
    (h.tree, h.value, omega (arith, size, there))

-- before the element that begins at the offset
pub element_added : (i limit n : ℕ) (bytes new front back value : List ℕ) → limit ≤ max_depth → IsUtf8 bytes → IsUtf8 value → (h : HasEntry (step.Index i) limit bytes n) → front ≡ encode_utf8_all h.entry.spot.front → back ≡ encode_utf8_all h.entry.spot.rest → IsValue (limit - 1) (chars value) → new ≡ front ++ (value ++ ((44 ∷ []) ++ back)) → Adds kind.Array value (GainsAt i value) limit bytes new
element_added i limit n bytes new front back value small utf8 value_utf8 h front_is back_is (v, val, d) now =
    let e = h.entry in
    let p = e.spot in
    let kt : IsOf kind.Array e.before = e.same_kind ∙ h.kind in
    let (u, same, goes, small_u, joins) = p.back h.tree (spells_value limit (chars bytes) h.tree h.value h.shallow) in
    let ku : IsOf kind.Array u = same ∙ kt in
    let f = with_first u (spells_element v (chars value) val) ku in
    let part : List ℕ = value ++ (44 ∷ []) in
    let part_utf8 = utf8_both value (44 ∷ []) value_utf8 ascii_utf8 in
    let part_is : chars part ++ p.rest ≡ chars value ++ (44 ∷ p.rest) = ap (λ z. z ++ p.rest) (chars_both value (44 ∷ []) value_utf8 ascii_utf8 ∙ ap (λ z. chars value ++ z) ascii_comma) ∙ append_assoc (chars value) (44 ∷ []) p.rest in
    let goes_on : Goes false f.all (chars part ++ p.rest) = subst (Goes false f.all) (sym part_is) (f.goes (44 ∷ p.rest) (goes_after_comma u p.rest goes)) in
    let inside = fits_inside limit (depth v) kind.Array h.tree h.kind h.shallow d in
    let joined_bytes : new ≡ front ++ (part ++ back) = now ∙ ap (λ z. front ++ z) (sym (append_assoc value (44 ∷ []) back)) in
    let made : new ≡ encode_utf8_all p.front ++ (part ++ encode_utf8_all p.rest) = joined_bytes ∙ ap (λ z. z ++ (part ++ back)) front_is ∙ ap (λ z. encode_utf8_all p.front ++ (part ++ z)) back_is in
    let w : Tree = joined e.before f.all in
    let m = made_there part utf8 part_utf8 h.value h.shallow h.kind kt p made f.all f.same_kind goes_on (f.fits limit inside small_u) in
    let (whole, scalar_front, scalar_rest) = cut_there utf8 p in
    let d_old = h.shallow in
    let d_new = m.shallow in (
      (
        h.tree,
        w,
        value_document max_depth (chars bytes) h.tree h.value (omega (arith, d_old, small)),
        value_document max_depth (chars new) w m.value (omega (arith, d_new, small)),
        (
          v,
          val,
          record {
            was_kind = h.kind;
            kind = joined_kind kind.Array e.before f.all kt f.same_kind;
            before = entries e.before;
            after = entries u;
            was = ap entries joins ∙ entries_joined kind.Array e.before u kt ku;
            now = entries_joined kind.Array e.before f.all kt f.same_kind ∙ ap (λ z. entries e.before ++ z) f.one_more;
            there = e.there;
          },
        ),
      ),
      grows_there kind.Array value bytes front back [] part new (inl refl) (record { lead = []; name = []; trail = 44 ∷ []; split = refl; is_lead = no_part; is_name = refl; is_trail = comma_space }) (whole ∙ ap (λ z. z ++ encode_utf8_all p.rest) (sym front_is) ∙ ap (λ z. front ++ z) (sym back_is)) joined_bytes,
      (w, m.value, m.shallow),
    )

comma_is : (due : Bool) (front : List ℕ) → WholeTokens due (chars front) → IsCommaBetween front (comma_for due) []
comma_is true front t = inr (refl, t, subst LastBlanks (sym no_characters) (LastBlanks.blanks Blanks.empty))
comma_is false front t = inl refl

pub comma_utf8 : (due : Bool) → IsUtf8 (comma_for due)
comma_utf8 true = ascii_utf8
comma_utf8 false = encoded [] refl

-- the entry goes on where one more may stand
last_goes : (due : Bool) (entry rest : List ℕ) (key : List ℕ) (v u : Tree) {k : Kind} → IsUtf8 entry → entries u ≡ [] → Goes due u rest → (f : WithFirst k key v u (chars entry)) → Goes due f.all (chars (comma_for due ++ entry) ++ rest)
last_goes false entry rest key v u utf8 none g f = f.goes rest (goes_closed u rest none g)
last_goes true entry rest key v u utf8 none g f =
    let is : chars ((44 ∷ []) ++ entry) ++ rest ≡ 44 ∷ (chars entry ++ rest) = ap (λ z. z ++ rest) (chars_both (44 ∷ []) entry ascii_utf8 utf8 ∙ ap (λ z. z ++ chars entry) ascii_comma) in
    subst (Goes true f.all) (sym is) (goes_after_comma f.all (chars entry ++ rest) (f.goes rest g))

-- what goes on at the end of a collection has no entry
pub last_closed : {k : Kind} {limit : ℕ} {bytes : List ℕ} {end : End} → (h : HasEnd k limit bytes end) → (u : Tree) × (entries u ≡ []) × Goes end.comma u h.end.rest
last_closed {k = k} {limit = limit} {bytes = bytes} h =
    let (u, same, goes, small, joins) = h.end.back h.tree (spells_value limit (chars bytes) h.tree h.value h.shallow) in
    (u, no_rest (entries h.tree) (entries u) (ap entries joins ∙ entries_joined k h.tree u h.kind (same ∙ h.kind)), goes)

-- at the end
pub last_added : (k : Kind) (limit : ℕ) (end : End) (bytes new front back name value comma : List ℕ) → limit ≤ max_depth → IsUtf8 bytes → IsUtf8 name → IsUtf8 value → IsNameAlone k name → (h : HasEnd k limit bytes end) → front ≡ encode_utf8_all h.end.front → back ≡ encode_utf8_all h.end.rest → comma ≡ comma_for end.comma → new ≡ front ++ (comma ++ (name ++ (value ++ back))) → (key : List ℕ) (v : Tree) → SpellsEntry k key v (chars (name ++ value)) → depth v + 1 ≤ limit → Adds k value (IsWithLast k key v) limit bytes new
last_added k limit end bytes new front back name value comma small utf8 name_utf8 value_utf8 named h front_is back_is comma_at now key v spelled inside =
    let p = h.end in
    let entry : List ℕ = name ++ value in
    let entry_utf8 = utf8_both name value name_utf8 value_utf8 in
    let (u, same, goes, small_u, joins) = p.back h.tree (spells_value limit (chars bytes) h.tree h.value h.shallow) in
    let ku : IsOf k u = same ∙ h.kind in
    let none : entries u ≡ [] = no_rest (entries h.tree) (entries u) (ap entries joins ∙ entries_joined k h.tree u h.kind ku) in
    let f = with_first u spelled ku in
    let due : List ℕ = comma_for end.comma in
    let part : List ℕ = due ++ entry in
    let part_utf8 = utf8_both due entry (comma_utf8 end.comma) entry_utf8 in
    let goes_on = last_goes end.comma entry p.rest key v u entry_utf8 none goes f in
    let comma_now : new ≡ front ++ (due ++ (entry ++ back)) = now ∙ ap (λ z. front ++ (z ++ (name ++ (value ++ back)))) comma_at ∙ ap (λ z. front ++ (due ++ z)) (sym (append_assoc name value back)) in
    let made : new ≡ encode_utf8_all p.front ++ (part ++ encode_utf8_all p.rest) =
    comma_now ∙ ap (λ z. front ++ z) (sym (append_assoc due entry back)) ∙ ap (λ z. z ++ (part ++ back)) front_is ∙ ap (λ z. encode_utf8_all p.front ++ (part ++ z)) back_is in
    let w : Tree = joined h.tree f.all in
    let m = made_there part utf8 part_utf8 h.value h.shallow h.kind h.kind p made f.all f.same_kind goes_on (f.fits limit inside small_u) in
    let (whole, scalar_front, scalar_rest) = cut_there utf8 p in
    let d_old = h.shallow in
    let d_new = m.shallow in (
      (
        h.tree,
        w,
        value_document max_depth (chars bytes) h.tree h.value (omega (arith, d_old, small)),
        value_document max_depth (chars new) w m.value (omega (arith, d_new, small)),
        record {
          was_kind = h.kind;
          kind = joined_kind k h.tree f.all h.kind f.same_kind;
          one_more = entries_joined k h.tree f.all h.kind f.same_kind ∙ ap (λ z. entries h.tree ++ z) (f.one_more ∙ ap (λ z. (key, v) ∷ z) none);
        },
      ),
      grows_there k value bytes front back due entry new (comma_is end.comma front (subst (WholeTokens end.comma) (sym (ap chars front_is ∙ chars-encodes p.front scalar_front)) p.passed)) (record { lead = []; name = name; trail = []; split = ap (λ z. name ++ z) (sym (append_nil value)); is_lead = no_part; is_name = named; is_trail = no_part }) (whole ∙ ap (λ z. z ++ encode_utf8_all p.rest) (sym front_is) ∙ ap (λ z. front ++ z) (sym back_is)) comma_now,
      (w, m.value, m.shallow),
    )

-- an entry that these bytes spell
pub gains : (k : Kind) (key value : List ℕ) (v : Tree) (limit : ℕ) (bytes new : List ℕ) → Val (chars value) v → Adds k value (IsWithLast k key v) limit bytes new → Adds k value (Gains k key value) limit bytes new
gains k key value v limit bytes new p ((t, w, was, now, change), how, fits) = ((t, w, was, now, (v, p, change)), how, fits)

-- ---- a text cut at a spot

pub front_there : {limit n : ℕ} {bytes : List ℕ} {t : Tree} {due : Bool} → IsUtf8 bytes → (p : Spot limit bytes t due n) → take n bytes ≡ encode_utf8_all p.front
front_there {bytes = bytes} u p = ap (λ m. take m bytes) p.starts ∙ ap (take (bytes_in p.front)) (bytes_cut bytes p.front p.rest u p.split) ∙ take-append_seam (encode_utf8_all p.front) (encode_utf8_all p.rest)

pub rest_there : {limit n : ℕ} {bytes : List ℕ} {t : Tree} {due : Bool} → IsUtf8 bytes → (p : Spot limit bytes t due n) → drop n bytes ≡ encode_utf8_all p.rest
rest_there {bytes = bytes} u p = ap (λ m. drop m bytes) p.starts ∙ ap (drop (bytes_in p.front)) (bytes_cut bytes p.front p.rest u p.split) ∙ drop-append_seam (encode_utf8_all p.front) (encode_utf8_all p.rest)

pub boundary_there : {limit n : ℕ} {bytes : List ℕ} {t : Tree} {due : Bool} → IsUtf8 bytes → Spot limit bytes t due n → IsCharBoundary bytes n
boundary_there {bytes = bytes} u p = subst (IsCharBoundary bytes) (sym p.starts) (seam bytes p.front p.rest u p.split)

pub rest_utf8 : {limit n : ℕ} {bytes : List ℕ} {t : Tree} {due : Bool} (rest : List ℕ) → IsUtf8 bytes → Spot limit bytes t due n → rest ≡ drop n bytes → IsUtf8 rest
rest_utf8 rest u p is = subst IsUtf8 (sym (is ∙ rest_there u p)) (encoded p.rest (cut_there u p).2)

-- what is left of the rest after the entry
pub back_there : (rest back : List ℕ) (size : ℕ) → IsUtf8 rest → back ≡ drop size rest → (part z : List ℕ) → chars rest ≡ part ++ z → size ≡ bytes_in part → back ≡ encode_utf8_all z
back_there rest back size u is part z split at = is ∙ ap (λ m. drop m rest) at ∙ ap (drop (bytes_in part)) (bytes_cut rest part z u split) ∙ drop-append_seam (encode_utf8_all part) (encode_utf8_all z)

-- the entry there begins with its first token
pub solid_ahead : {s : Step} {limit n : ℕ} {bytes : List ℕ} (rest : List ℕ) → IsUtf8 bytes → (h : HasEntry s limit bytes n) → rest ≡ drop n bytes → Solid (chars rest)
solid_ahead rest u h is =
    let p = h.entry.spot in
    subst Solid (sym (ap chars (is ∙ rest_there u p) ∙ chars-encodes p.rest (cut_there u p).2)) h.entry.solid

-- the entry ahead of the spot
pub record Ahead (k : Kind) (limit : ℕ) (rest : List ℕ) : Type 0 where
  pub all : Tree
  pub gone : Tree
  pub others : Tree
  pub parts : Parts k all gone others
  pub goes : Goes false all (chars rest)
  pub fits : depth gone ≤ limit

pub ahead : (s : Step) (limit n : ℕ) (kd : Kind) (bytes rest : List ℕ) → kd ≡ step_kind s → IsUtf8 bytes → (h : HasEntry s limit bytes n) → rest ≡ drop n bytes → Ahead kd limit rest
ahead s limit n kd bytes rest is_kind utf8 h is =
    let e = h.entry in
    let p = e.spot in
    let (whole, scalar_front, scalar_rest) = cut_there utf8 p in
    let (u, same, goes, small_u, joins) = p.back h.tree (spells_value limit (chars bytes) h.tree h.value h.shallow) in
    let kt : IsOf (step_kind s) e.before = e.same_kind ∙ h.kind in
    let ku : IsOf (step_kind s) u = same ∙ kt in
    let left : entries u ≡ (step_key s, e.gone) ∷ e.after = same_rest (entries e.before) (entries u) ((step_key s, e.gone) ∷ e.after) (sym (entries_joined (step_kind s) e.before u kt ku) ∙ sym (ap entries joins) ∙ e.all) in
    let f = first_of (step_kind s) u e.gone (step_key s) e.after ku left in
    let chars_rest : chars rest ≡ p.rest = ap chars (is ∙ rest_there utf8 p) ∙ chars-encodes p.rest scalar_rest in
    let fits = f.fits in
    record { all = u; gone = e.gone; others = f.rest; parts = subst (λ x. Parts x u e.gone f.rest) (sym is_kind) f.parts; goes = subst (Goes false u) (sym chars_rest) goes; fits = omega (arith, fits, small_u) }

pub cut_in_two : {front back bytes : List ℕ} (n : ℕ) → front ≡ take n bytes → back ≡ drop n bytes → bytes ≡ front ++ back
cut_in_two {front = front} {bytes = bytes} n f b = sym (take-append-drop n bytes) ∙ ap (λ z. z ++ drop n bytes) (sym f) ∙ ap (λ z. front ++ z) (sym b)

pub ascii_colon : chars (58 ∷ []) ≡ 58 ∷ []
unfolding lib.Utf8.encode
ascii_colon = chars-encodes (58 ∷ []) refl

colon_utf8 : IsUtf8 (58 ∷ [])
unfolding lib.Utf8.encode
colon_utf8 = encoded (58 ∷ []) refl

-- the characters of a member
pub member_chars : (value name entry : List ℕ) → IsUtf8 name → IsUtf8 value → entry ≡ name ++ ((58 ∷ []) ++ value) → chars entry ≡ chars name ++ (58 ∷ chars value)
member_chars value name entry name_utf8 value_utf8 is =
    ap chars is ∙ chars_both name ((58 ∷ []) ++ value) name_utf8 (utf8_both (58 ∷ []) value colon_utf8 value_utf8)
    ∙ ap (λ z. chars name ++ z) (chars_both (58 ∷ []) value colon_utf8 value_utf8 ∙ ap (λ z. z ++ chars value) ascii_colon)

-- a key and a colon alone
pub name_alone : (key json name : List ℕ) → SpellsKey key json → name ≡ json ++ (58 ∷ []) → IsNameAlone kind.Object name
name_alone key json name (u, b, spelled, means) is = (json, 58 ∷ [], is, (u, b, spelled), subst (λ x. HaveSameLexemes x (58 ∷ [])) (sym ascii_colon) (record { lexemes = (58 ∷ []) ∷ []; left = sign refl no_lexeme; right = sign refl no_lexeme }))

pub colon_alone : (k : Kind) (name key colon : List ℕ) → k ≡ kind.Object → SplitsKey name key colon → HaveSameLexemes (chars colon) (chars (58 ∷ [])) → IsNameAlone k name
colon_alone k name key colon e (split, spelled) h = subst (λ z. IsNameAlone z name) (sym e) (key, colon, split, spelled, subst (HaveSameLexemes (chars colon)) ascii_colon h)

-- a member that is spelled so
pub member_added : {end : End} (key value : List ℕ) (limit : ℕ) (bytes new name entry : List ℕ) → IsUtf8 name → IsUtf8 value → SpellsKey key name → entry ≡ name ++ ((58 ∷ []) ++ value) → HasEnd kind.Object limit bytes end → IsValue (limit - 1) (chars value) → ((k : List ℕ) (v : Tree) → SpellsEntry kind.Object k v (chars entry) → depth v + 1 ≤ limit → Adds kind.Object value (IsWithLast kind.Object k v) limit bytes new) → Adds kind.Object value (Gains kind.Object key value) limit bytes new
member_added key value limit bytes new name entry name_utf8 value_utf8 (u, b, spelled, means) is h (v, val, d) adds =
    let parts = member_chars value name entry name_utf8 value_utf8 is in
    let one : SpellsEntry kind.Object (encode_utf8_all u) v (chars entry) = subst (SpellsEntry kind.Object (encode_utf8_all u) v) (sym parts) (spells_member (chars name) (chars value) u b v spelled val) in
    let same : SpellsEntry kind.Object key v (chars entry) = subst (λ k. SpellsEntry kind.Object k v (chars entry)) means one in
    gains kind.Object key value v limit bytes new val (adds key v same (fits_inside limit (depth v) kind.Object h.tree h.kind h.shallow d))

-- an element alone
pub value_added : {end : End} (value : List ℕ) (limit : ℕ) (bytes new : List ℕ) → HasEnd kind.Array limit bytes end → IsValue (limit - 1) (chars value) → ((k : List ℕ) (v : Tree) → SpellsEntry kind.Array k v (chars value) → depth v + 1 ≤ limit → Adds kind.Array value (IsWithLast kind.Array k v) limit bytes new) → Adds kind.Array value (Gains kind.Array [] value) limit bytes new
value_added value limit bytes new h (v, val, d) adds =
    gains kind.Array [] value v limit bytes new val (adds [] v (spells_element v (chars value) val) (fits_inside limit (depth v) kind.Array h.tree h.kind h.shallow d))
