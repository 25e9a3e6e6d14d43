-- The place that was found, and another value in it.
use Rattle.std.proofs.Common.{◌≡◌, ◌&&◌, ℕ, ◌+◌, ◌≤◌, ◌-◌, Bool, true, false, List, [], ◌∷◌, ◌++◌, length, refl, ap, sym, ◌∙◌, append_assoc, subst, Option, Some, None, arith, take, drop}
use Rattle.std.specs.Prelude.{option_map, MatchOption, slice_get, slice_range, IfOk, Result, Ok, Err}
use Rattle.std.specs.Str.{chars, IsUtf8, IsCharBoundary, all_scalars, encode_utf8_all}
use Rattle.std.proofs.lemmas.Str.{encodes-chars, encodes-append, chars-encodes, scalars-chars, chars-append, IsCharBoundary-at_seam}
use Rattle.std.proofs.Math.Utf8.{scalar}
use Rattle.std.proofs.Math.Seq.{drop-append_seam, take-append_seam}
use Rattle.json5_grammar.specs.Language.Blanks.{Blanks}
use Rattle.json5_grammar.specs.Language.Documents.{Doc, max_depth}
use Rattle.json5_grammar.specs.Language.Trees.{Tree, array, object, Trees, Members, no_more, more, no_member, member, depth}
use Rattle.json5_grammar.specs.Language.Values.{Val}
use Rattle.json5_grammar.specs.Model.Collections.{joined_trees, joined_members}
use Rattle.json5_tokens.specs.Cursor.{Cursor}
use Rattle.json5_tokens.specs.Outcome.{bytes_in}
use Rattle.json5_read.specs.ModelSteps.{Gave, value_at}
use Rattle.json5_walk.specs.declared.place.Place.{Place}
use Rattle.json5_walk.specs.Frames.{Frame, in_array, in_object, text_end, ClosesTo, At, at_value, at_comma, value_frames}
use Rattle.json5_walk.specs.Moves.{Stays, stays}
use Rattle.json5_walk.specs.Walks.{Walked, at_start, Trail, Marked, IsMarked, IsAt, Moved, Ends}
use Rattle.json5_walk.proofs.Rests.{append_nil, value_completes}
use Rattle.json5_walk.proofs.Calls.{starts_at, passed, room_fits, bytes_joined}
use Rattle.json5_edit.specs.Parts.{part, part_at, part_under, put, put_at, put_under, count, count_members, positions, positions_of}
use Rattle.json5_edit.specs.Places.{IsValue, IsPart, HasPlace, IsPlace, Leads}
use Rattle.json5_edit.specs.Seeks.{Finds, Seeks}
use Rattle.json5_edit.specs.Sets.{IsSet}
use Rattle.json5_edit.specs.declared.paths.Step.{Step}
use Rattle.json5_edit.proofs.Seams.{closes_ends}

-- ---- another value before what closes the brackets

put_joined : (ts us : Trees) (path : List ℕ) (t v : Tree) → put_at (count ts) path (joined_trees ts (more t us)) v ≡ joined_trees ts (more (put path t v) us)
put_joined no_more us path t v = refl
put_joined (more s ts) us path t v = ap (λ z. more s z) (put_joined ts us path t v)

put_joined_members : (ps qs : Members) (u : List ℕ) (e : Bool) (path : List ℕ) (t v : Tree) → put_under (count_members ps) path (joined_members ps (member u e t qs)) v ≡ joined_members ps (member u e (put path t v) qs)
put_joined_members no_member qs u e path t v = refl
put_joined_members (member k b s ps) qs u e path t v = ap (λ z. member k b s z) (put_joined_members ps qs u e path t v)

part_joined : (ts us : Trees) (path : List ℕ) (t : Tree) → part_at (count ts) path (joined_trees ts (more t us)) ≡ part path t
part_joined no_more us path t = refl
part_joined (more s ts) us path t = part_joined ts us path t

part_joined_members : (ps qs : Members) (u : List ℕ) (e : Bool) (path : List ℕ) (t : Tree) → part_under (count_members ps) path (joined_members ps (member u e t qs)) ≡ part path t
part_joined_members no_member qs u e path t = refl
part_joined_members (member k b s ps) qs u e path t = part_joined_members ps qs u e path t

closes_put : (limit : ℕ) (o : List Frame) (path x : List ℕ) (t s v w : Tree) → s ≡ put path t v → ClosesTo limit o t x w → ClosesTo limit o s x (put (positions o path) w v)
closes_put limit [] path x t s v w e (l, is) = (l, ap (λ z. put path z v) is ∙ sym e)
closes_put limit (in_array ts ∷ o) path x t s v w e (us, r, tl, f, h) =
    (us, r, tl, f, closes_put limit o (count ts ∷ path) r (array (joined_trees ts (more t us))) (array (joined_trees ts (more s us))) v w (ap array (ap (λ z. joined_trees ts (more z us)) e ∙ sym (put_joined ts us path t v))) h)
closes_put limit (in_object ps u b ∷ o) path x t s v w e (qs, r, tl, f, h) =
    (qs, r, tl, f, closes_put limit o (count_members ps ∷ path) r (object (joined_members ps (member u b t qs))) (object (joined_members ps (member u b s qs))) v w (ap object (ap (λ z. joined_members ps (member u b z qs)) e ∙ sym (put_joined_members ps qs u b path t v))) h)

pub closes_part : (limit : ℕ) (o : List Frame) (path x : List ℕ) (t w : Tree) → ClosesTo limit o t x w → part (positions o path) w ≡ part path t
closes_part limit [] path x t w (l, is) = ap (part path) is
closes_part limit (in_array ts ∷ o) path x t w (us, r, tl, f, h) = closes_part limit o (count ts ∷ path) r (array (joined_trees ts (more t us))) w h ∙ part_joined ts us path t
closes_part limit (in_object ps u b ∷ o) path x t w (qs, r, tl, f, h) = closes_part limit o (count_members ps ∷ path) r (object (joined_members ps (member u b t qs))) w h ∙ part_joined_members ps qs u b path t

-- ---- the place that was found

same_option : (found : Option (List ℕ)) → option_map (positions []) found ≡ found
same_option None = refl
same_option (Some js) = refl

nowhere : (path : List Step) (t : Tree) → Finds [] path t None → positions_of path t ≡ None
nowhere path t f = sym (same_option (positions_of path t)) ∙ sym f

somewhere : (path : List Step) (t : Tree) (o : List Frame) → Finds [] path t (Some o) → positions_of path t ≡ Some (positions o [])
somewhere path t o f = sym (same_option (positions_of path t)) ∙ sym f

positions_count : (o : List Frame) (js : List ℕ) → length (positions o js) ≡ length o + length js
positions_count [] js = omega arith
positions_count (in_array ts ∷ o) js = let e = positions_count o (count ts ∷ js) in omega (arith, e)
positions_count (in_object ps u b ∷ o) js = let e = positions_count o (count_members ps ∷ js) in omega (arith, e)

is_place : (limit : ℕ) (bytes : List ℕ) (path : List Step) (w : Tree) (p : Place) (o : List Frame) → limit ≡ max_depth → positions_of path w ≡ Some (positions o []) → Marked limit bytes (λ z. z ≡ w) p o → IsPlace bytes path w p
is_place limit bytes path w p o l led q =
    let c : ClosesTo limit o q.tree q.after w = q.rest w refl in
    record {
      before = q.before;
      old = q.old;
      after = q.after;
      cut = record { whole = q.whole; starts = q.starts; ends = q.ends };
      passed = q.passed;
      ends = closes_ends limit o q.after q.tree w c;
      tree = q.tree;
      value = q.value;
      positions = positions o [];
      room = let r = q.room in let n = positions_count o [] in omega (arith, l, r, n);
      led = led;
      there = closes_part limit o [] q.after q.tree w c;
      welcome = λ other t v d.
          let h : ClosesTo limit o t q.after (put (positions o []) w t) = closes_put limit o [] q.after q.tree t t w refl c in
          let fits = room_fits limit (length (value_frames q.from)) (depth t) p.room (subst (λ z. length z ≤ limit) (sym q.around) q.inside) (q.room ∙ ap (λ z. limit - length z) (sym q.around)) d in
          subst (λ n. Doc n (q.before ++ (other ++ q.after)) (put (positions o []) w t)) l (q.front (other ++ q.after) (put (positions o []) w t) (value_completes limit text_end q.from [] other q.after t (put (positions o []) w t) q.due Blanks.empty v fits (subst (λ f. ClosesTo limit f t q.after (put (positions o []) w t)) (sym q.around) h)));
    }

placed : (limit : ℕ) (bytes : List ℕ) (path : List Step) (w : Tree) (place : Option Place) (m : Option (List Frame)) → limit ≡ max_depth → Finds [] path w m → IsMarked limit bytes (λ z. z ≡ w) place m → MatchOption place (positions_of path w ≡ None) (IsPlace bytes path w)
placed limit bytes path w None None l f q = nowhere path w f
placed limit bytes path w None (Some o) l f q = absurd q
placed limit bytes path w (Some p) None l f q = absurd q
placed limit bytes path w (Some p) (Some o) l f q = is_place limit bytes path w p o l (somewhere path w o f) q

pub same_tree : {t w : Tree} → at_comma t [] ≡ at_comma w [] → t ≡ w
same_tree e = cc

at_first : {v : Walked} {a : At} {m : Option (List Frame)} {o : List Frame} → Stays (at_value o) a → IsAt v (record { now = a; marked = m }) → IsAt v (record { now = at_value o; marked = m })
at_first (stays a) f = f

pub leads_where : {v0 v1 v2 : Walked} (bytes : List ℕ) (limit : ℕ) (path : List Step) → IsUtf8 bytes → limit ≡ max_depth → v0 ≡ at_start bytes limit → Moved Stays v0 v1 → Seeks path v1 v2 → ((s : Trail) → IsAt v2 s → Ends v2 s) → Leads bytes path v2.place
leads_where {v0 = v0} {v1 = v1} {v2 = v2} bytes limit path u l start gap seek ends =
    let f : IsAt v0 (record { now = at_value []; marked = None }) = subst (λ v. IsAt v (record { now = at_value []; marked = None })) (sym start) (starts_at u) in
    let (a, still, g) = gap.leads (record { now = at_value []; marked = None }) f in
    let (t, m, h, found) = seek.leads (record { now = at_value []; marked = None }) (at_first still g) in
    let e = ends (record { now = at_comma t []; marked = m }) h in
    let same : t ≡ e.tree = same_tree e.walked in
    let is_text : v2.text ≡ bytes = seek.text ∙ gap.text ∙ ap (λ (v : Walked). v.text) start in
    let is_limit : v2.limit ≡ max_depth = seek.limit ∙ gap.limit ∙ ap (λ (v : Walked). v.limit) start ∙ l in
    subst (λ x. Leads x path v2.place) is_text (record {
      tree = e.tree;
      document = subst (λ n. Doc n (chars v2.text) e.tree) is_limit e.document;
      placed = placed v2.limit v2.text path e.tree v2.place m is_limit (subst (λ z. Finds [] path z m) same found) e.marked;
    })

-- ---- texts in bytes

both : (x y : Bool) → (x && y) ≡ true → (x ≡ true) × (y ≡ true)
both true y e = (refl, e)
both false y e = absurd (cc)

pub scalars_left : (xs ys : List ℕ) → all_scalars (xs ++ ys) ≡ true → all_scalars xs ≡ true
scalars_left [] ys e = refl
scalars_left (c ∷ xs) ys e = let k = both (scalar c) (all_scalars (xs ++ ys)) e in rw (k.0, scalars_left xs ys k.1) refl

pub scalars_right : (xs ys : List ℕ) → all_scalars (xs ++ ys) ≡ true → all_scalars ys ≡ true
scalars_right [] ys e = e
scalars_right (c ∷ xs) ys e = scalars_right xs ys (both (scalar c) (all_scalars (xs ++ ys)) e).1

pub bytes_cut : (bytes x y : List ℕ) → IsUtf8 bytes → chars bytes ≡ x ++ y → bytes ≡ encode_utf8_all x ++ encode_utf8_all y
bytes_cut bytes x y u e = sym (encodes-chars bytes u) ∙ ap encode_utf8_all e ∙ encodes-append x y

pub encoded : (x : List ℕ) → all_scalars x ≡ true → IsUtf8 (encode_utf8_all x)
encoded x s = (x, (s, refl))

pub seam : (bytes x y : List ℕ) → IsUtf8 bytes → chars bytes ≡ x ++ y → IsCharBoundary bytes (bytes_in x)
seam bytes x y u e = IsCharBoundary-at_seam bytes (encode_utf8_all x) (encode_utf8_all y) (bytes_cut bytes x y u e) (encoded y (scalars_right x y (ap all_scalars (sym e) ∙ scalars-chars bytes u)))

pub starts_there : {bytes : List ℕ} {p : Place} → IsUtf8 bytes → HasPlace bytes p → IsCharBoundary bytes p.start
starts_there {bytes = bytes} {p = p} u (before, old, after, cut) = subst (IsCharBoundary bytes) (sym cut.starts) (seam bytes before (old ++ after) u cut.whole)

whole_cut : {bytes before old after : List ℕ} {p : Place} → IsPart bytes p before old after → chars bytes ≡ (before ++ old) ++ after
whole_cut {before = before} {old = old} {after = after} cut = cut.whole ∙ sym (append_assoc before old after)

pub ends_there : {bytes : List ℕ} {p : Place} → IsUtf8 bytes → HasPlace bytes p → IsCharBoundary bytes p.end
ends_there {bytes = bytes} {p = p} u (before, old, after, cut) = subst (IsCharBoundary bytes) (sym cut.ends) (seam bytes (before ++ old) after u (whole_cut cut))

pub before_there : {bytes before old after : List ℕ} {p : Place} → IsUtf8 bytes → IsPart bytes p before old after → take p.start bytes ≡ encode_utf8_all before
before_there {bytes = bytes} {before = before} {old = old} {after = after} {p = p} u cut =
    ap (λ n. take n bytes) cut.starts ∙ ap (take (bytes_in before)) (bytes_cut bytes before (old ++ after) u cut.whole) ∙ take-append_seam (encode_utf8_all before) (encode_utf8_all (old ++ after))

pub after_there : {bytes before old after : List ℕ} {p : Place} → IsUtf8 bytes → IsPart bytes p before old after → drop p.end bytes ≡ encode_utf8_all after
after_there {bytes = bytes} {before = before} {old = old} {after = after} {p = p} u cut =
    ap (λ n. drop n bytes) cut.ends ∙ ap (drop (bytes_in (before ++ old))) (bytes_cut bytes (before ++ old) after u (whole_cut cut)) ∙ drop-append_seam (encode_utf8_all (before ++ old)) (encode_utf8_all after)

-- the text between two others
pub slice_there : (bytes before old after : List ℕ) → IsUtf8 bytes → chars bytes ≡ before ++ (old ++ after) → slice_range bytes (bytes_in before) (bytes_in (before ++ old)) ≡ encode_utf8_all old
slice_there bytes before old after u e =
    let size : bytes_in (before ++ old) - bytes_in before ≡ bytes_in old = let j = bytes_joined before old in omega (arith, j) in
    let rest : drop (bytes_in before) bytes ≡ encode_utf8_all old ++ encode_utf8_all after =
    ap (drop (bytes_in before)) (bytes_cut bytes before (old ++ after) u e) ∙ drop-append_seam (encode_utf8_all before) (encode_utf8_all (old ++ after)) ∙ encodes-append old after in
    ap (λ n. take n (drop (bytes_in before) bytes)) size ∙ ap (take (bytes_in old)) rest ∙ take-append_seam (encode_utf8_all old) (encode_utf8_all after)

pub part_there : {bytes part before old after : List ℕ} {p : Place} → IsUtf8 bytes → part ≡ slice_range bytes p.start p.end → IsPart bytes p before old after → part ≡ encode_utf8_all old
part_there {bytes = bytes} {before = before} {old = old} {after = after} {p = p} u e cut =
    e ∙ ap (λ n. slice_range bytes n p.end) cut.starts ∙ ap (slice_range bytes (bytes_in before)) cut.ends ∙ slice_there bytes before old after u cut.whole

pub is_part_text : {bytes : List ℕ} {p : Place} → IsUtf8 bytes → HasPlace bytes p → (p.start ≤ p.end → IsCharBoundary bytes p.start → IsCharBoundary bytes p.end → ⊥) → ⊥
is_part_text {bytes = bytes} {p = p} u (before, old, after, cut) k =
    let j = bytes_joined before old in
    let s = cut.starts in
    let e = cut.ends in
    k (omega (arith, j, s, e)) (starts_there u (before, old, after, cut)) (ends_there u (before, old, after, cut))

-- ---- the text that is made

pub nothing_next : (x : List ℕ) → slice_get x 0 ≡ None → x ≡ []
nothing_next [] e = refl
nothing_next (c ∷ r) e = absurd (cc)

-- a text that is one value alone
pub value_alone : (room : ℕ) (x : List ℕ) (old new : Cursor) → old.unread ≡ x → Gave (value_at room old) tt old new → slice_get new.unread 0 ≡ None → IsValue room x
value_alone room x old new e g last =
    let p = passed {room = room} {old = old} {new = new} g in
    let whole : p.taken ≡ x = sym (append_nil p.taken) ∙ ap (λ z. p.taken ++ z) (sym (nothing_next new.unread last)) ∙ sym p.split ∙ e in
    (p.tree, subst (λ z. Val z p.tree) whole p.value, p.shallow)

pub ok_then : {A B : Type 0} {P Q : A → Type 0} (r : Result A B) → ((a : A) → P a → Q a) → IfOk r P → IfOk r Q
ok_then (Ok a) k p = k a p
ok_then (Err e) k p = tt

-- the characters of a text with another one in the place
pub made_chars : (bytes new made b o a : List ℕ) → IsUtf8 bytes → IsUtf8 new → chars bytes ≡ b ++ (o ++ a) → made ≡ encode_utf8_all b ++ (new ++ encode_utf8_all a) → chars made ≡ b ++ (chars new ++ a)
made_chars bytes new made b o a u v split now =
    let scalars : all_scalars (b ++ (o ++ a)) ≡ true = ap all_scalars (sym split) ∙ scalars-chars bytes u in
    let b_scalars = scalars_left b (o ++ a) scalars in
    let a_scalars = scalars_right o a (scalars_right b (o ++ a) scalars) in
    ap chars now ∙ chars-append (encode_utf8_all b) (new ++ encode_utf8_all a) (encoded b b_scalars)
    ∙ ap (λ z. z ++ chars (new ++ encode_utf8_all a)) (chars-encodes b b_scalars)
    ∙ ap (λ z. b ++ z) (chars-append new (encode_utf8_all a) v)
    ∙ ap (λ z. b ++ (chars new ++ z)) (chars-encodes a a_scalars)

pub set_at : (bytes new made : List ℕ) (path : List Step) (p : Place) → IsUtf8 bytes → IsUtf8 new → (leads : Leads bytes path (Some p)) → IsValue p.room (chars new) → ((before old after : List ℕ) → IsPart bytes p before old after → made ≡ encode_utf8_all before ++ (new ++ encode_utf8_all after)) → (s : IsSet bytes path new made) × (s.old ≡ encode_utf8_all leads.placed.old)
set_at bytes new made path p u v leads (t, val, d) k =
    let q = leads.placed in
    let b = q.before in
    let o = q.old in
    let a = q.after in
    let scalars : all_scalars (b ++ (o ++ a)) ≡ true = ap all_scalars (sym q.cut.whole) ∙ scalars-chars bytes u in
    let b_scalars = scalars_left b (o ++ a) scalars in
    let rest_scalars = scalars_right b (o ++ a) scalars in
    let o_scalars = scalars_left o a rest_scalars in
    let a_scalars = scalars_right o a rest_scalars in
    let now : made ≡ encode_utf8_all b ++ (new ++ encode_utf8_all a) = k b o a q.cut in
    let whole = made_chars bytes new made b o a u v q.cut.whole now in (
      record {
        before = encode_utf8_all b;
        old = encode_utf8_all o;
        after = encode_utf8_all a;
        was = bytes_cut bytes b (o ++ a) u q.cut.whole ∙ ap (λ z. encode_utf8_all b ++ z) (encodes-append o a);
        now = now;
        tree = leads.tree;
        old_tree = q.tree;
        new_tree = t;
        positions = q.positions;
        led = q.led;
        old_value = subst (λ z. Val z q.tree) (sym (chars-encodes o o_scalars)) q.value;
        new_value = val;
        there = q.there;
        document = leads.document;
        still = subst (λ z. Doc max_depth z (put q.positions leads.tree t)) (sym whole) (q.welcome (chars new) t val d);
      },
      refl,
    )

pub set_is : (bytes new made : List ℕ) (path : List Step) (p : Place) → IsUtf8 bytes → IsUtf8 new → Leads bytes path (Some p) → IsValue p.room (chars new) → ((before old after : List ℕ) → IsPart bytes p before old after → made ≡ encode_utf8_all before ++ (new ++ encode_utf8_all after)) → IsSet bytes path new made
set_is bytes new made path p u v leads k made_is = (set_at bytes new made path p u v leads k made_is).0
