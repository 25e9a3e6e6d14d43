-- Another key in the place of one.
use Rattle.std.proofs.Common.{◌≡◌, ℕ, suc, ◌≤◌, Bool, true, false, List, [], ◌∷◌, ◌++◌, refl, ap, sym, ◌∙◌, append_assoc, subst, arith, take, drop, take-append-drop, Some}
use Rattle.std.specs.Str.{chars, IsUtf8, IsCharBoundary, all_scalars, encode_utf8_all}
use Rattle.std.proofs.lemmas.Str.{chars-append, chars-encodes, scalars-chars}
use Rattle.std.proofs.Math.Seq.{drop-append_seam, take-append_seam}
use Rattle.json5_grammar.specs.Language.Blanks.{Blanks, Gap}
use Rattle.json5_grammar.specs.Language.Documents.{Doc, max_depth}
use Rattle.json5_grammar.specs.Language.Names.{Key}
use Rattle.json5_grammar.specs.Language.Trees.{Tree, null, boolean, number, text, array, object, Members, no_member, member, depth}
use Rattle.json5_grammar.specs.Language.Values.{Val, KeyText, Reads}
use Rattle.json5_grammar.specs.Model.Collections.{IsSign, ReadsKey, MembersTail, joined_members}
use Rattle.json5_grammar.proofs.CommonLemmas.{first_same}
use Rattle.json5_grammar.proofs.BlanksRead.{begins_solid}
use Rattle.json5_grammar.proofs.BlanksSound.{one_gap}
use Rattle.json5_grammar.proofs.CharacterClasses.{colon_no_name}
use Rattle.json5_grammar.proofs.ObjectsRead.{opening_brace_solid, brace_solid, brace_no_key, one_reads_key}
use Rattle.json5_grammar.proofs.ValueHeads.{key_before_blanks, key_spelling, val_head, value_solid}
use Rattle.json5_styles.specs.Json.{JsonString}
use Rattle.json5_lexemes.specs.Plain.{Plain, KeepsPlain}
use Rattle.json5_lexemes.specs.LastTokens as last
use Rattle.json5_lexemes.proofs.PlainSeams.{seam as plain_seam, blank_seam, key_seam as plain_key_seam}
use Rattle.json5_tokens.specs.Outcome.{bytes_in}
use Rattle.json5_read.specs.declared.brackets.BracketKind.TheVariants as kind
use Rattle.json5_walk.specs.Frames.{value_end, Spells}
use Rattle.json5_walk.specs.Seams.{WholeTokens}
use Rattle.json5_walk.proofs.Calls.{sign_front}
use Rattle.json5_walk.proofs.Rests.{append_nil}
use Rattle.json5_edit.specs.Comparing.{IsRenamed, LacksKey}
use Rattle.json5_edit.specs.Entries.{members, entries, kind_of}
use Rattle.json5_edit.specs.Keys.{BeginsWithMember, KeyStarts, TakesKeyAhead, Rekeys}
use Rattle.json5_edit.specs.Pieces.{SpellsKey}
use Rattle.json5_edit.specs.Spots.{Goes, joined, Spot}
use Rattle.json5_edit.proofs.Compared.{alone}
use Rattle.json5_edit.proofs.Placed.{bytes_cut, encoded, scalars_left, scalars_right, seam}
use Rattle.json5_edit.proofs.Seeks.{object_begins}
use Rattle.json5_edit.proofs.PlainPlaces.{apart, spanned}

-- ---- members

members_joined : (ps qs : Members) (u : List ℕ) (b : Bool) (t : Tree) → members (joined_members ps (member u b t qs)) ≡ members ps ++ ((encode_utf8_all u, t) ∷ members qs)
members_joined no_member qs u b t = refl
members_joined (member v c s ps) qs u b t = ap (λ z. (encode_utf8_all v, s) ∷ z) (members_joined ps qs u b t)

same_rest : (xs ys zs : List (List ℕ × Tree)) → xs ++ ys ≡ xs ++ zs → ys ≡ zs
same_rest [] ys zs e = e
same_rest (x ∷ xs) ys zs e = let k : xs ++ ys ≡ xs ++ zs = cc in same_rest xs ys zs k

heads : {a b : List ℕ × Tree} {xs ys : List (List ℕ × Tree)} → a ∷ xs ≡ b ∷ ys → a ≡ b
heads e = cc

tails : {a b : List ℕ × Tree} {xs ys : List (List ℕ × Tree)} → a ∷ xs ≡ b ∷ ys → xs ≡ ys
tails e = cc

-- ---- a key in front of members

-- of members that go on from a key, the first has it, and with another key in its place they go on with that
pub record Renamed (limit : ℕ) (qs : Members) (u : List ℕ) (b : Bool) (y : List ℕ) : Type 0 where
  pub value : Tree
  pub after : Members
  pub is : qs ≡ member u b value after
  pub other : (w c v : List ℕ) (g : Bool) → Blanks w → KeyText c v g → MembersTail (member v g value after) false (w ++ (c ++ y)) []
  pub shallow : (v : List ℕ) (g : Bool) → depth (object (member v g value after)) ≤ limit
  pub next : List ℕ
  pub colon : IsSign 58 y next

rename_first : (limit : ℕ) (qs : Members) (u x y : List ℕ) (b : Bool) → ReadsKey x u b y → MembersTail qs false x [] → depth (object qs) ≤ limit → Renamed limit qs u b y
rename_first limit no_member u x y b k a d = absurd (brace_no_key x y [] u b a k)
rename_first limit (member v c t qs) u x y b k (w, z, key, (n, a, p), tl) d =
    let (same, free, rest) = one_reads_key x w y v u c b key k in
    let sign : IsSign 58 y n = subst (λ m. IsSign 58 m n) rest a in
    record {
      value = t;
      after = qs;
      is = ap (λ (m : List ℕ). member m c t qs) same ∙ ap (λ (m : Bool). member u m t qs) free;
      other = λ bs s m g blank spelled. (
        y,
        z,
        record { front = bs; spelling = s; split = refl; blank = blank; key = subst (λ q. Key s q m g) (sym sign.split) (key_before_blanks 58 n sign.blank spelled colon_no_name) },
        (n, sign, p),
        tl,
      );
      shallow = λ m g. d;
      next = n;
      colon = sign;
    }

-- ---- values alone

-- a text that begins with a brace and reads as a value has no blanks in front
brace_alone : (m : List ℕ) (t : Tree) → Reads (123 ∷ m) t [] → Val (123 ∷ m) t
brace_alone m t p =
    let g = one_gap p.front (p.phrase ++ []) [] (123 ∷ m) (Gap.blanks p.blank) (value_solid [] (val_head p.value)) (Gap.blanks Blanks.empty) (begins_solid 123 m opening_brace_solid) (sym p.split) in
    subst (λ z. Val z t) (sym (append_nil p.phrase) ∙ sym g.1) p.value

reads_alone : (x : List ℕ) (t : Tree) → Val x t → Reads x t []
reads_alone x t v = record { front = []; phrase = x; split = sym (append_nil x); blank = Blanks.empty; value = v; stops = tt }

-- a value that fits is a document
pub fitting : (room : ℕ) (x : List ℕ) (t : Tree) → room ≤ max_depth → Val x t → depth t ≤ room → Doc max_depth x t
fitting room x t l v d = let a = alone x t v in record { before = a.before; text = a.text; after = a.after; whole = a.whole; blank = a.blank; value = a.value; last = a.last; shallow = omega (arith, l, d) }

-- a closing brace in front is no object
no_object : (x : List ℕ) (ps : Members) → Reads (125 ∷ x) (object ps) [] → ⊥
no_object x ps p =
    let g = one_gap p.front (p.phrase ++ []) [] (125 ∷ x) (Gap.blanks p.blank) (value_solid [] (val_head p.value)) (Gap.blanks Blanks.empty) (begins_solid 125 x brace_solid) (sym p.split) in
    let (m, begins) = object_begins p.value in
    let e : 125 ≡ 123 = first_same 125 123 x (m ++ []) (g.1 ∙ ap (λ z. z ++ []) begins) in
    omega (arith, e)

no_front : (room : ℕ) (front : List ℕ) (ps : Members) {n : ℕ} → (1 ≤ room → Spells value_end room (front ++ 125 ∷ []) (object ps)) → suc n ≤ room → front ≡ [] → ⊥
no_front room front ps goes l e = no_object [] ps (subst (λ z. Reads (z ++ 125 ∷ []) (object ps) []) e (goes (omega (arith, l))).0)

front_first : (f r m : List ℕ) → (f ≡ [] → ⊥) → 123 ∷ m ≡ f ++ r → (g : List ℕ) × (f ≡ 123 ∷ g)
front_first [] r m k e = absurd (k refl)
front_first (c ∷ g) r m k e = (g, ap (λ z. z ∷ g) (sym (first_same 123 c m (g ++ r) e)))

-- ---- where the key stands

members_both : (ps qs : Members) → members (joined_members ps qs) ≡ members ps ++ members qs
members_both no_member qs = refl
members_both (member u b t ps) qs = ap (λ z. (encode_utf8_all u, t) ∷ z) (members_both ps qs)

-- in the object t, after these members, a key comes, and whatever members go on from there make a value
pub record KeyThere (room : ℕ) (name old : List ℕ) (start : ℕ) (t : Tree) : Type 0 where
  pub passed : Members
  pub coming : Members
  pub front : List ℕ
  pub rest : List ℕ
  pub split : chars old ≡ front ++ rest
  pub starts : start ≡ bytes_in front
  pub tokens : WholeTokens false front
  pub goes : (qs : Members) (z : List ℕ) → MembersTail qs false z [] → depth (object qs) ≤ room → Spells value_end room (front ++ z) (object (joined_members passed qs))
  pub tail : MembersTail coming false rest []
  pub shallow : depth (object coming) ≤ room
  pub whole : t ≡ object (joined_members passed coming)
  pub gone : Tree
  pub after : List (List ℕ × Tree)
  pub all : members coming ≡ (name, gone) ∷ after
  pub lacks : LacksKey name after

-- what goes on in an object
object_goes : (room : ℕ) (rest : List ℕ) (ps : Members) (t : Tree) → (u : Tree) × (kind_of u ≡ Some kind.Object) × Goes false u rest × (depth u ≤ room) × (t ≡ joined (object ps) u) → (qs : Members) × MembersTail qs false rest [] × (depth (object qs) ≤ room) × (t ≡ object (joined_members ps qs))
object_goes room rest ps t (object qs, k, g, d, e) = (qs, g, d, e)
object_goes room rest ps t (array ts, k, g, d, e) = absurd (cc)
object_goes room rest ps t (null, k, g, d, e) = absurd g
object_goes room rest ps t (boolean b, k, g, d, e) = absurd g
object_goes room rest ps t (number n, k, g, d, e) = absurd g
object_goes room rest ps t (text u b, k, g, d, e) = absurd g

module _ (room : ℕ) (name old : List ℕ) (start : ℕ) (t : Tree) (v : Val (chars old) t) (d : depth t ≤ room) (gone : Tree) (after : List (List ℕ × Tree)) (lacks : LacksKey name after) where
  there_after : (before : Tree) → kind_of before ≡ Some kind.Object → (s : Spot room old before false start) → entries t ≡ entries before ++ ((name, gone) ∷ after) → KeyThere room name old start t
  there_after (object ps) k s all =
      let (qs, tl, deep, is) = object_goes room s.rest ps t (s.back t (reads_alone (chars old) t v, d)) in
      record {
        passed = ps;
        coming = qs;
        front = s.front;
        rest = s.rest;
        split = s.split;
        starts = s.starts;
        tokens = s.passed;
        goes = λ ms z m l. s.goes (object ms) z refl m l;
        tail = tl;
        shallow = deep;
        whole = is;
        gone = gone;
        after = after;
        all = same_rest (members ps) (members qs) ((name, gone) ∷ after) (sym (members_both ps qs) ∙ sym (ap entries is) ∙ all);
        lacks = lacks;
      }
  there_after (array ts) k s all = absurd (cc)
  there_after null k s all = absurd (cc)
  there_after (boolean b) k s all = absurd (cc)
  there_after (number n) k s all = absurd (cc)
  there_after (text u b) k s all = absurd (cc)

key_there : (room : ℕ) (name old : List ℕ) (start : ℕ) (found : KeyStarts room name old start) → KeyThere room name old start found.2.tree
key_there room name old start (k, is, h) =
    let e = h.entry in
    there_after room name old start h.tree h.value h.shallow e.gone e.after (subst (λ z. LacksKey z e.after) is e.there) e.before (e.same_kind ∙ h.kind) e.spot (e.all ∙ ap (λ (z : List ℕ). entries e.before ++ ((z, e.gone) ∷ e.after)) is)

-- a member comes
member_comes : (x y : List ℕ) (qs : Members) (e : List ℕ × Tree) (es : List (List ℕ × Tree)) → y ≡ x → MembersTail qs false x [] → members qs ≡ e ∷ es → (u : List ℕ) × (b : Bool) × (t : Tree) × (ps : Members) × MembersTail (member u b t ps) false y []
member_comes x y no_member e es same tl all = absurd (cc)
member_comes x y (member u b t qs) e es same tl all = (u, b, t, qs, subst (λ z. MembersTail (member u b t qs) false z []) (sym same) tl)

module _ (room : ℕ) (name old : List ℕ) (start : ℕ) (utf8 : IsUtf8 old) (found : KeyStarts room name old start) where
  at : KeyThere room name old start found.2.tree
  at = key_there room name old start found

  scalars : all_scalars (at.front ++ at.rest) ≡ true
  scalars = ap all_scalars (sym at.split) ∙ scalars-chars old utf8

  cut : old ≡ encode_utf8_all at.front ++ encode_utf8_all at.rest
  cut = bytes_cut old at.front at.rest utf8 at.split

  pub key_seam : IsCharBoundary old start
  key_seam = subst (IsCharBoundary old) (sym at.starts) (seam old at.front at.rest utf8 at.split)

  front_brace : (g : List ℕ) × (at.front ≡ 123 ∷ g)
  front_brace =
      let (m, begins) = object_begins (subst (Val (chars old)) at.whole found.2.value) in
      front_first at.front at.rest m (no_front room at.front (joined_members at.passed no_member) (λ l. at.goes no_member (125 ∷ []) (sign_front 125 refl) l) at.shallow) (sym begins ∙ at.split)

  front_is : (front : List ℕ) → front ≡ take start old → front ≡ encode_utf8_all at.front
  front_is front e = e ∙ ap (λ n. take n old) at.starts ∙ ap (take (bytes_in at.front)) cut ∙ take-append_seam (encode_utf8_all at.front) (encode_utf8_all at.rest)

  rest_is : (rest : List ℕ) → rest ≡ drop start old → chars rest ≡ at.rest
  rest_is rest e = ap chars (e ∙ ap (λ n. drop n old) at.starts ∙ ap (drop (bytes_in at.front)) cut ∙ drop-append_seam (encode_utf8_all at.front) (encode_utf8_all at.rest)) ∙ chars-encodes at.rest (scalars_right at.front at.rest scalars)

  pub begins : (rest : List ℕ) → rest ≡ drop start old → BeginsWithMember rest
  begins rest e = member_comes at.rest (chars rest) at.coming (name, at.gone) at.after (rest_is rest e) at.tail at.all

  module _ (front rest blank back : List ℕ) (is_front : front ≡ take start old) (is_rest : rest ≡ drop start old) (ahead : TakesKeyAhead rest blank back) where
    unread : at.rest ≡ chars blank ++ (chars ahead.gone ++ chars back)
    unread =
        sym (rest_is rest is_rest) ∙ ap chars ahead.split ∙ chars-append blank (ahead.gone ++ back) ahead.blank_text
        ∙ ap (λ z. chars blank ++ z) (chars-append ahead.gone back ahead.is_text)

    first : Renamed room at.coming ahead.meaning ahead.escape_free (chars back)
    first = rename_first room at.coming ahead.meaning at.rest (chars back) ahead.escape_free (record { front = chars blank; spelling = chars ahead.gone; split = unread; blank = ahead.is_blank; key = ahead.key }) at.tail at.shallow

    named : encode_utf8_all ahead.meaning ≡ name
    named = ap (λ (p : List ℕ × Tree). p.0) (heads (sym (ap members first.is) ∙ at.all))

    same_after : members first.after ≡ at.after
    same_after = tails (sym (ap members first.is) ∙ at.all)

    whole_is : found.2.tree ≡ object (joined_members at.passed (member ahead.meaning ahead.escape_free first.value first.after))
    whole_is = at.whole ∙ ap (λ z. object (joined_members at.passed z)) first.is

    module _ (key came : List ℕ) (came_utf8 : IsUtf8 came) (spells : SpellsKey key came) where
      abbrev new_tree : Tree
      new_tree = object (joined_members at.passed (member spells.0 spells.1 first.value first.after))

      abbrev pub new_text : List ℕ
      new_text = front ++ ([] ++ (blank ++ (came ++ back)))

      abbrev new_rest : List ℕ
      new_rest = chars blank ++ (chars came ++ chars back)

      new_is : chars new_text ≡ at.front ++ new_rest
      new_is =
          ap (λ z. chars (z ++ (blank ++ (came ++ back)))) (front_is front is_front)
          ∙ chars-append (encode_utf8_all at.front) (blank ++ (came ++ back)) (encoded at.front (scalars_left at.front at.rest scalars))
          ∙ ap (λ z. z ++ chars (blank ++ (came ++ back))) (chars-encodes at.front (scalars_left at.front at.rest scalars))
          ∙ ap (λ z. at.front ++ z) (chars-append blank (came ++ back) ahead.blank_text)
          ∙ ap (λ z. at.front ++ (chars blank ++ z)) (chars-append came back came_utf8)

      reads : Spells value_end room (at.front ++ new_rest) new_tree
      reads = at.goes (member spells.0 spells.1 first.value first.after) new_rest (first.other (chars blank) (chars came) spells.0 spells.1 ahead.is_blank spells.2) (first.shallow spells.0 spells.1)

      new_value : Val (chars new_text) new_tree
      new_value =
          let (g, is) = front_brace in
          subst (λ x. Val x new_tree) (sym (new_is ∙ ap (λ x. x ++ new_rest) is)) (brace_alone (g ++ new_rest) new_tree (subst (λ x. Reads (x ++ new_rest) new_tree []) is reads.0))

      changed : IsRenamed name key found.2.tree new_tree
      changed = record {
        was_kind = ap kind_of whole_is;
        kind = refl;
        before = members at.passed;
        after = members first.after;
        value = first.value;
        was =
            ap entries whole_is ∙ members_joined at.passed first.after ahead.meaning ahead.escape_free first.value
            ∙ ap (λ (x : List ℕ). members at.passed ++ ((x, first.value) ∷ members first.after)) named;
        now = members_joined at.passed first.after spells.0 spells.1 first.value ∙ ap (λ (x : List ℕ). members at.passed ++ ((x, first.value) ∷ members first.after)) spells.3;
        last = subst (LacksKey name) (sym same_after) at.lacks;
      }

      was : old ≡ front ++ (blank ++ (ahead.gone ++ back))
      was = sym (take-append-drop start old) ∙ ap (λ x. x ++ drop start old) (sym is_front) ∙ ap (λ x. front ++ x) (sym is_rest ∙ ahead.split)

      -- the old key is a string where the text is plain, and so is the new one
      plain_kept : JsonString (chars came) → KeepsPlain old new_text
      plain_kept json k p =
          let sign = first.colon in
          let s = spanned at.tokens in
          let back_is : chars back ≡ sign.front ++ 58 ∷ first.next = sign.split in
          let old_is : chars old ≡ at.front ++ (chars blank ++ (chars ahead.gone ++ (sign.front ++ 58 ∷ first.next))) = at.split ∙ ap (λ z. at.front ++ z) (unread ∙ ap (λ z. chars blank ++ (chars ahead.gone ++ z)) back_is) in
          let gone = chars ahead.gone ++ (sign.front ++ 58 ∷ first.next) in
          let comes = chars came ++ (sign.front ++ 58 ∷ first.next) in
          let front = plain_seam (chars blank ++ gone) s.spans (apart s (chars blank ++ gone)) (subst (Plain k last.sign) old_is p) in
          let gap = blank_seam gone ahead.is_blank front.rest in
          let is_key = plain_key_seam first.next (key_spelling ahead.key) sign.blank gap.rest in
          let made = front.again (chars blank ++ comes) (apart s (chars blank ++ comes)) (gap.again s.kind comes (is_key.again s.kind (chars came) json)) in
          subst (Plain k last.sign) (sym (new_is ∙ ap (λ z. at.front ++ (chars blank ++ (chars came ++ z))) back_is)) made

      pub rekeyed : JsonString (chars came) → room ≤ max_depth → Rekeys room name key old new_text
      rekeyed json small = (
        (found.2.tree, new_tree, fitting room (chars old) found.2.tree small found.2.value found.2.shallow, fitting room (chars new_text) new_tree small new_value reads.1, changed),
        record {
          front = front ++ blank;
          gone = ahead.gone;
          came = came;
          back = back;
          was = was ∙ sym (append_assoc front blank (ahead.gone ++ back));
          now = sym (append_assoc front blank (came ++ back));
          old_key = (ahead.meaning, ahead.escape_free, key_spelling ahead.key);
          new_key = (spells.0, spells.1, spells.2);
        },
        (new_tree, new_value, reads.1),
        plain_kept json,
      )

-- ---- the layout's spelling
