-- What each call of a walk does.
use Rattle.std.proofs.Common.{◌≡◌, ℕ, ◌+◌, ◌≤◌, ◌<◌, ◌-◌, Bool, true, false, List, [], ◌∷◌, ◌++◌, length, refl, ap, sym, ◌∙◌, append_assoc, arith, subst, Option, Some, None, drop, ℤ, ◌≤ℤ◌}
use Rattle.std.specs.Prelude.{slice_get, option_to_list, IsSome, ◌↔◌}
use Rattle.std.specs.Str.{chars, IsUtf8, IsCharBoundary, all_scalars, encode_utf8_all}
use Rattle.std.proofs.lemmas.Str.{encodes-chars, encodes-append, chars-encodes, IsCharBoundary-at_seam}
use Rattle.std.proofs.lemmas.List.{length-append}
use Rattle.std.proofs.lemmas.Int.{ints, to_z-of_z}
use mir.Syntax.{w128}
use mir.Val.{to_z, of_z, SFits}
use Rattle.std.proofs.Math.Seq.{drop-append_seam}
use Rattle.json5_grammar.specs.Faults.Fronts.{BracketKind}
use Rattle.json5_grammar.specs.Language.Blanks.{Blanks, LastBlanks, Gap, Solid}
use Rattle.json5_grammar.specs.Language.Documents.{Doc, max_depth}
use Rattle.json5_grammar.specs.Language.Names.{Key}
use Rattle.json5_grammar.specs.Language.Trees.{Tree, null, boolean, number, text, depth}
use Rattle.json5_grammar.specs.Language.Numbers.{Number, Num, whole}
use Rattle.json5_grammar.specs.Language.Strings.{Str}
use Rattle.json5_grammar.specs.Language.Values.{Val, is_null, is_true, is_false, is_number, is_text, Stops, Reads, null_text, true_text, false_text}
use Rattle.json5_grammar.specs.Model.Collections.{IsSign, ReadsKey}
use Rattle.json5_grammar.specs.Model.Reading.{Read, got, bad}
use Rattle.json5_grammar.specs.Model.ReadSteps.{forget}
use Rattle.json5_grammar.specs.Model.ReadValues.{read}
use Rattle.json5_grammar.proofs.OneTree.{document_phrase, phrase_document}
use Rattle.json5_grammar.proofs.BlanksSound.{gap_end}
use Rattle.json5_grammar.proofs.ValueHeads.{val_head}
use Rattle.json5_grammar.proofs.ValuesSound.{text_stops, read_sound}
use Rattle.json5_tokens.specs.Cursor.{Cursor, offset_of}
use Rattle.json5_tokens.specs.Outcome.{bytes_in}
use Rattle.json5_read.specs.ModelSteps.{Gave, value_at}
use Rattle.json5_read.specs.declared.kinds.Literal.{Literal}
use Rattle.json5_read.specs.declared.kinds.Literal.TheVariants as literal
use Rattle.json5_read.specs.Kinds.{word_of}
use Rattle.json5_read.specs.declared.brackets.OpenBracket.{OpenBracket}
use Rattle.json5_read.specs.Brackets.{bracket_of, brackets_of}
use Rattle.json5_read.specs.declared.brackets.BracketPair.{BracketPair}
use Rattle.json5_read.specs.declared.brackets.BracketKind.{BracketKind as Kind}
use Rattle.json5_read.specs.declared.brackets.BracketKind.TheVariants as kind
use Rattle.json5_walk.specs.declared.next.Next.{Next}
use Rattle.json5_walk.specs.declared.next.Next.TheVariants as next
use Rattle.json5_walk.specs.declared.place.Place.{Place}
use Rattle.json5_walk.specs.Nexts.{takes_value}
use Rattle.json5_walk.specs.Seams.{WholeTokens, no_token, then_value}
use Rattle.json5_walk.specs.Frames.{Frame, in_array, in_object, Fits, Until, text_end, value_end, Spells, At, at_value, at_element, at_key, at_colon, at_comma, next_of, kinds_of, value_frames, CompletesUntil, CompletesTo}
use Rattle.json5_walk.specs.Moves.{Stays, TakesValue, takes, TakesTree, takes_tree, Opens, TakesKeyOf, TakesColon, TakesComma, Closes}
use Rattle.json5_walk.specs.Walks.{kinds_onto, kinds_in, IsInnermost, count_in, member_next, may_close, Walked, at_start, room_of, Trail, IsMarked, IsAt, Live, IsWalk, Moved, MovedMarking, Unmarked, TookValue, tree_of, TookSpaced, TookSpacedWhole, IsDocument, IsDocumentWithin, Ends}
use Rattle.json5_walk.proofs.Rests.{append_nil, no_rest, before_value, reads_gap, token_reads, value_kinds, value_count, Move, gap_move, inner_value, value_completes, value_due, value_move, key_move, colon_move, comma_move, open_move, close_move}

-- ---- the open brackets

pub kinds_push : (o : List BracketKind) (bs : List OpenBracket) (b : OpenBracket) → kinds_onto o (bs ++ b ∷ []) ≡ bracket_of b.kind ∷ kinds_onto o bs
kinds_push o [] b = refl
kinds_push o (a ∷ bs) b = kinds_push (bracket_of a.kind ∷ o) bs b

onto_count : (o : List BracketKind) (bs : List OpenBracket) → length (kinds_onto o bs) ≡ length o + length bs
onto_count o [] = omega arith
onto_count o (a ∷ bs) = let r = onto_count (bracket_of a.kind ∷ o) bs in omega (arith, r)

pub kinds_count : (i : Option OpenBracket) (bs : List OpenBracket) → count_in i (length bs) ≡ length (kinds_in i bs)
kinds_count None bs = let k = onto_count [] bs in omega (arith, k)
kinds_count (Some b) bs = let k = onto_count [] bs in omega (arith, k)

kinds_left : (i : Option OpenBracket) (bs less : List OpenBracket) → bs ≡ less ++ option_to_list i → kinds_in i less ≡ kinds_onto [] bs
kinds_left None bs less e = ap (kinds_onto []) (sym (append_all less) ∙ sym e)
  where
    append_all : (xs : List OpenBracket) → xs ++ [] ≡ xs
    append_all [] = refl
    append_all (x ∷ xs) = ap (λ z. x ∷ z) (append_all xs)
kinds_left (Some b) bs less e = sym (kinds_push [] less b) ∙ ap (kinds_onto []) (sym e)

-- the bracket that was popped is the innermost
pub none_popped : (bs less : List OpenBracket) (i : Option OpenBracket) → bs ≡ less ++ option_to_list i → (IsSome i ↔ (0 < length bs)) → IsInnermost i less
none_popped bs less (Some b) e k = tt
none_popped bs [] None e k = refl
none_popped bs (b ∷ less) None e k = let h : false ≡ true = k.1 (let n = ap length e in omega (arith, n)) in absurd (cc)

-- no bracket is open
pub none_open : (i : Option OpenBracket) (bs : List OpenBracket) → i ≡ None → IsInnermost i bs → kinds_in i bs ≡ []
none_open None bs e k = ap (kinds_onto []) k
none_open (Some b) bs e k = absurd (cc)

inner_kinds : (i : Option OpenBracket) (bs : List OpenBracket) (b : OpenBracket) → i ≡ Some b → kinds_in i bs ≡ bracket_of b.kind ∷ kinds_onto [] bs
inner_kinds i bs b e = ap (λ z. kinds_in z bs) e

-- ---- a step keeps the front, and the place

pub live_takes : (n : Next) → true ≡ takes_value n → Live n
live_takes next.Value v = tt
live_takes next.Element v = tt
live_takes next.Key v = tt
live_takes next.Colon v = tt
live_takes next.Comma v = tt
live_takes next.Failed v = absurd (cc)

pub live_close : (k : Kind) (n : Next) → true ≡ may_close k n → Live n
live_close k next.Value v = tt
live_close k next.Element v = tt
live_close k next.Key v = tt
live_close k next.Colon v = tt
live_close k next.Comma v = tt
live_close kind.Array next.Failed v = absurd (cc)
live_close kind.Object next.Failed v = absurd (cc)

still_ends : (s x y z : List ℕ) → x ≡ s ++ y → (y ≡ [] → z ≡ []) → x ≡ [] → s ++ z ≡ []
still_ends [] x y z e k n = k (sym e ∙ n)
still_ends (c ∷ s) x y z e k n = let h : [] ≡ c ∷ (s ++ y) = sym n ∙ e in absurd (cc)

marked_rest : (limit : ℕ) (bytes : List ℕ) (P Q : Tree → Type 0) (p : Option Place) (o : Option (List Frame)) → ((w : Tree) → Q w → P w) → IsMarked limit bytes P p o → IsMarked limit bytes Q p o
marked_rest limit bytes P Q None None k q = q
marked_rest limit bytes P Q None (Some o) k q = q
marked_rest limit bytes P Q (Some p) None k q = q
marked_rest limit bytes P Q (Some p) (Some o) k q = record { before = q.before; old = q.old; after = q.after; whole = q.whole; starts = q.starts; ends = q.ends; inside = q.inside; room = q.room; tree = q.tree; value = q.value; from = q.from; due = q.due; around = q.around; front = q.front; passed = q.passed; rest = λ w c. q.rest w (k w c) }

-- the walk after s was taken, and y is left
abbrev pub after_token : Walked → List ℕ → List BracketKind → Next → Walked
after_token v y p m = record { text = v.text; unread = y; limit = v.limit; kinds = p; next = m; place = v.place }

goes_on : (v : Walked) (s : Trail) (f : IsAt v s) (c y : List ℕ) (m : Next) (p : List BracketKind) (Step : At → At → Type 0) → v.unread ≡ c ++ y → length p ≤ v.limit → (k : Move v.limit s.now c y m p Step) → IsAt (after_token v y p m) (record { now = k.to; marked = s.marked })
goes_on v s f c y m p Step e l k = record {
  fits = l;
  is_text = f.is_text;
  front = f.front ++ c;
  split = f.split ∙ ap (λ z. f.front ++ z) e ∙ sym (append_assoc f.front c y);
  is_next = k.is_next;
  is_kinds = k.is_kinds;
  passed = λ some. k.tokens f.front some (f.passed (λ nothing. some (no_rest c y (sym e ∙ nothing))));
  goes = λ z w n h. subst (λ x. Doc v.limit x w) (sym (append_assoc f.front c z)) (f.goes (c ++ z) w (still_ends c v.unread y z e n) (k.step text_end z w refl n h));
  exact = λ i z w n h. subst (λ x. Spells value_end v.limit x w) (sym (append_assoc f.front c z)) (f.exact (k.inner i) (c ++ z) w (still_ends c v.unread y z e n) (k.step value_end z w i n h));
  back = λ end w d. k.back end w (subst (λ x. CompletesUntil end v.limit s.now x w) e (f.back end w d));
  marked = marked_rest v.limit v.text (CompletesTo v.limit s.now v.unread) (CompletesTo v.limit k.to y) v.place s.marked (λ w h. subst (λ x. CompletesTo v.limit s.now x w) (sym e) (k.step text_end y w refl (λ n. n) h)) f.marked;
}

moved : (v : Walked) (c y : List ℕ) (m : Next) (p : List BracketKind) (Step : At → At → Type 0) → v.unread ≡ c ++ y → ((s : Trail) → IsAt v s → (length p ≤ v.limit) × Move v.limit s.now c y m p Step) → Moved Step v (after_token v y p m)
moved v c y m p Step e k = record {
  text = refl;
  limit = refl;
  leads = λ s f. let (l, h) = k s f in (h.to, h.is, goes_on v s f c y m p Step e l h);
}

-- a call that moved keeps what is known
pub keeps : {old new : Walked} {Step : At → At → Type 0} → IsWalk old → (Live new.next → Live old.next) → Moved Step old new → IsWalk new
keeps {old = old} {new = new} w l k = record {
  small = subst (λ z. z ≤ max_depth) (sym k.limit) w.small;
  live = λ h. let (s, f) = w.live (l h) in let (a, is, g) = k.leads s f in (record { now = a; marked = s.marked }, g);
}

pub keeps_marking : {old new : Walked} {Step : At → At → Type 0} → IsWalk old → Live old.next → MovedMarking Step old new → IsWalk new
keeps_marking {old = old} {new = new} w l k = record {
  small = subst (λ z. z ≤ max_depth) (sym k.limit) w.small;
  live = λ h. let (s, f) = w.live l in let (a, is, g) = k.leads s f in (record { now = a; marked = Some (value_frames s.now) }, g);
}

-- ---- what each call does

whole_due : (limit : ℕ) (e : Until) (x : List ℕ) (w : Tree) → Spells e limit x w → CompletesUntil e limit (at_value []) x w
whole_due limit text_end x w d = let (r, p, l, s) = document_phrase limit x w d in (w, r, p, omega (arith, s), (l, refl))
whole_due limit value_end x w (p, s) = (w, [], p, omega (arith, s), (refl, refl))

pub starts_at : {bytes : List ℕ} {limit : ℕ} → IsUtf8 bytes → IsAt (at_start bytes limit) (record { now = at_value []; marked = None })
starts_at {bytes = bytes} {limit = limit} u = record {
  fits = omega arith;
  is_text = u;
  front = [];
  split = refl;
  is_next = refl;
  is_kinds = refl;
  passed = λ some. no_token;
  goes = λ z w n (t, r, p, d, (b, is)). subst (λ x. Doc limit z x) (sym is) (phrase_document limit z r t p b (omega (arith, d)));
  exact = λ i z w n (t, r, p, d, (b, is)). subst (λ x. Spells value_end limit z x) (sym is) (subst (λ q. Reads z t q) b p, omega (arith, d));
  back = λ end w d. whole_due limit end (chars bytes) w d;
  marked = tt;
}

pub starts : {bytes : List ℕ} {limit : ℕ} → IsUtf8 bytes → limit ≤ max_depth → IsWalk (at_start bytes limit)
starts u l = record { small = l; live = λ h. (record { now = at_value []; marked = None }, starts_at u) }

pub unmarks : {old : Walked} → Unmarked old (record { text = old.text; unread = old.unread; limit = old.limit; kinds = old.kinds; next = old.next; place = None })
unmarks {old = old} = record { text = refl; limit = refl; same_next = refl; same_kinds = refl; same_unread = refl; leads = λ s f. record { fits = f.fits; is_text = f.is_text; front = f.front; split = f.split; is_next = f.is_next; is_kinds = f.is_kinds; passed = f.passed; goes = f.goes; exact = f.exact; back = f.back; marked = tt } }

pub keeps_unmarked : {old new : Walked} → IsWalk old → Unmarked old new → IsWalk new
keeps_unmarked {old = old} {new = new} w k = record {
  small = subst (λ z. z ≤ max_depth) (sym k.limit) w.small;
  live = λ h. let (s, f) = w.live (subst Live k.same_next h) in (record { now = s.now; marked = None }, k.leads s f);
}

pub gap_moves : {old : Walked} {y : List ℕ} (w : List ℕ) → old.unread ≡ w ++ y → Gap w y → Solid y → Moved Stays old (after_token old y old.kinds old.next)
gap_moves {old = old} {y = y} w e g solid =
    moved old w y old.next old.kinds Stays e (λ s f. (f.fits, subst (λ p. Move old.limit s.now w y old.next p Stays) f.is_kinds (subst (λ n. Move old.limit s.now w y n (kinds_of s.now) Stays) f.is_next (gap_move old.limit s.now w y g solid))))

due : {old : Walked} (s : Trail) → IsAt old s → true ≡ takes_value old.next → true ≡ takes_value (next_of s.now)
due s f v = v ∙ ap takes_value (sym f.is_next)

-- the frames around a value here are as many as the open brackets
around : {old : Walked} (s : Trail) (f : IsAt old s) → true ≡ takes_value old.next → length (value_frames s.now) ≡ length old.kinds
around s f v = sym (value_count s.now (due s f v)) ∙ ap length f.is_kinds

sign_split : {x y : List ℕ} (c : ℕ) (p : IsSign c x y) → x ≡ (p.front ++ c ∷ []) ++ y
sign_split {y = y} c p = p.split ∙ sym (append_assoc p.front (c ∷ []) y)

module _ {old : Walked} {y : List ℕ} where
  -- a value that fits was taken
  pub value_moves : (t : Tree) (Step : At → At → Type 0) → ((a : At) → true ≡ takes_value (next_of a) → Step a (at_comma t (value_frames a))) → true ≡ takes_value old.next → Reads old.unread t y → (length old.kinds ≤ old.limit → Fits old.limit (length old.kinds) (depth t)) → Moved Step old (after_token old y old.kinds next.Comma)
  value_moves t Step is v p d =
      moved old (p.front ++ p.phrase) y next.Comma old.kinds Step (p.split ∙ sym (append_assoc p.front p.phrase y)) (λ s f. (f.fits, subst (λ o. Move old.limit s.now (p.front ++ p.phrase) y next.Comma o Step) f.is_kinds (value_move old.limit s.now t Step (is s.now (due s f v)) (due s f v) p (subst (λ n. Fits old.limit n (depth t)) (sym (around s f v)) (d f.fits)))))

  -- a value without brackets
  pub scalar_moves : (t : Tree) → depth t ≡ 0 → true ≡ takes_value old.next → Reads old.unread t y → Moved (TakesTree t) old (after_token old y old.kinds next.Comma)
  scalar_moves t e v p = value_moves t (TakesTree t) takes_tree v p (λ l. rw e (omega (arith, l)))

  pub token_moves : (s : List ℕ) (t : Tree) → depth t ≡ 0 → true ≡ takes_value old.next → old.unread ≡ s ++ y → Val s t → Stops s y → Moved (TakesTree t) old (after_token old y old.kinds next.Comma)
  token_moves s t d v e k st = scalar_moves t d v (token_reads old.unread s y t e k st)

  pub key_moves : (bytes u : List ℕ) (e : Bool) → old.next ≡ next.Key → bytes ≡ encode_utf8_all u → ReadsKey old.unread u e y → Moved (TakesKeyOf bytes) old (after_token old y old.kinds next.Colon)
  key_moves bytes u e is eq p =
      moved old (p.front ++ p.spelling) y next.Colon old.kinds (TakesKeyOf bytes) (p.split ∙ sym (append_assoc p.front p.spelling y)) (λ s f. (f.fits, subst (λ o. Move old.limit s.now (p.front ++ p.spelling) y next.Colon o (TakesKeyOf bytes)) f.is_kinds (key_move old.limit s.now bytes (f.is_next ∙ is) eq p)))

  pub colon_moves : old.next ≡ next.Colon → IsSign 58 old.unread y → Moved TakesColon old (after_token old y old.kinds next.Value)
  colon_moves is p =
      moved old (p.front ++ 58 ∷ []) y next.Value old.kinds TakesColon (sign_split 58 p) (λ s f. (f.fits, subst (λ o. Move old.limit s.now (p.front ++ 58 ∷ []) y next.Value o TakesColon) f.is_kinds (colon_move old.limit s.now (f.is_next ∙ is) p)))

  pub comma_moves : (k : Kind) (o : List BracketKind) → old.next ≡ next.Comma → old.kinds ≡ bracket_of k ∷ o → IsSign 44 old.unread y → Moved TakesComma old (after_token old y old.kinds (member_next k))
  comma_moves k o is inner p =
      moved old (p.front ++ 44 ∷ []) y (member_next k) old.kinds TakesComma (sign_split 44 p) (λ s f. (f.fits, subst (λ q. Move old.limit s.now (p.front ++ 44 ∷ []) y (member_next k) q TakesComma) f.is_kinds (comma_move old.limit s.now k o (f.is_next ∙ is) (f.is_kinds ∙ inner) p)))

  pub open_moves : (k : Kind) → true ≡ takes_value old.next → length old.kinds < old.limit → IsSign (brackets_of k).opening old.unread y → Moved (Opens k) old (after_token old y (bracket_of k ∷ old.kinds) (member_next k))
  open_moves k v l p =
      moved old (p.front ++ (brackets_of k).opening ∷ []) y (member_next k) (bracket_of k ∷ old.kinds) (Opens k) (sign_split (brackets_of k).opening p) (λ s f. (omega (arith, l), subst (λ q. Move old.limit s.now (p.front ++ (brackets_of k).opening ∷ []) y (member_next k) (bracket_of k ∷ q) (Opens k)) f.is_kinds (open_move old.limit s.now k (due s f v) p)))

  pub close_moves : (k : Kind) (o : List BracketKind) → true ≡ may_close k old.next → old.kinds ≡ bracket_of k ∷ o → IsSign (brackets_of k).closing old.unread y → Moved Closes old (after_token old y o next.Comma)
  close_moves k o v inner p =
      moved old (p.front ++ (brackets_of k).closing ∷ []) y next.Comma o Closes (sign_split (brackets_of k).closing p) (λ s f.
      let l : length (bracket_of k ∷ o) ≤ old.limit = subst (λ q. length q ≤ old.limit) inner f.fits in
      (omega (arith, l), close_move old.limit s.now k o (subst (λ q. length q ≤ old.limit) (sym f.is_kinds) f.fits) (v ∙ ap (may_close k) (sym f.is_next)) (f.is_kinds ∙ inner) p))

-- ---- tokens

pub sign_front : {x y : List ℕ} (c : ℕ) → x ≡ (c ∷ []) ++ y → IsSign c x y
sign_front c e = record { front = []; split = e; blank = Blanks.empty }

pub opening_front : {x y : List ℕ} (k : Kind) (p : BracketPair) → p ≡ brackets_of k → x ≡ (p.opening ∷ []) ++ y → IsSign (brackets_of k).opening x y
opening_front k p is e = sign_front (brackets_of k).opening (rw is at e)

pub closing_front : {x y : List ℕ} (k : Kind) (p : BracketPair) → p ≡ brackets_of k → x ≡ (p.closing ∷ []) ++ y → IsSign (brackets_of k).closing x y
closing_front k p is e = sign_front (brackets_of k).closing (rw is at e)

pub key_front : {x y u : List ℕ} {e : Bool} (s : List ℕ) → x ≡ s ++ y → Key s y u e → ReadsKey x u e y
key_front s e k = record { front = []; spelling = s; split = e; blank = Blanks.empty; key = k }

null_stops : (r : List ℕ) → Stops null_text r
null_stops [] = tt
null_stops (c ∷ r) = refl

true_stops : (r : List ℕ) → Stops true_text r
true_stops [] = tt
true_stops (c ∷ r) = refl

false_stops : (r : List ℕ) → Stops false_text r
false_stops [] = tt
false_stops (c ∷ r) = refl

-- a token was taken, which is a value of this tree
pub took_token : {old : Walked} {y : List ℕ} (s : List ℕ) (t : Tree) → depth t ≡ 0 → true ≡ takes_value old.next → old.unread ≡ s ++ y → Val s t → Stops s y → TookValue t old (after_token old y old.kinds next.Comma)
took_token s t d v e k st = record { due = v; spelled = s; split = e; value = k; stops = st; moved = token_moves s t d v e k st }

pub took_literal : {old : Walked} {y : List ℕ} (l : Literal) → true ≡ takes_value old.next → old.unread ≡ word_of l ++ y → TookValue (tree_of l) old (after_token old y old.kinds next.Comma)
took_literal {y = y} literal.Null v e = took_token null_text null refl v e is_null (null_stops y)
took_literal {y = y} literal.True v e = took_token true_text (boolean true) refl v e is_true (true_stops y)
took_literal {y = y} literal.False v e = took_token false_text (boolean false) refl v e is_false (false_stops y)

pub took_number : {old : Walked} {y : List ℕ} (s : List ℕ) (k : Number) → true ≡ takes_value old.next → old.unread ≡ s ++ y → Num s k → Stops s y → TookValue (number k) old (after_token old y old.kinds next.Comma)
took_number s k v e p st = took_token s (number k) refl v e (is_number p) st

pub took_string : {old : Walked} {y : List ℕ} (s u : List ℕ) (e : Bool) → true ≡ takes_value old.next → old.unread ≡ s ++ y → Str s u e → TookValue (text u e) old (after_token old y old.kinds next.Comma)
took_string {y = y} s u b v e p = took_token s (text u b) refl v e (is_text p) (text_stops y p)

-- after blanks
pub took_spaced : {old : Walked} {y : List ℕ} (t : Tree) → depth t ≡ 0 → true ≡ takes_value old.next → Reads old.unread t y → TookSpaced t old (after_token old y old.kinds next.Comma)
took_spaced t d v p = record { due = v; reads = p; moved = scalar_moves t d v p }

pub took_spaced_number : {old : Walked} {y : List ℕ} (w s : List ℕ) (k : Number) → true ≡ takes_value old.next → old.unread ≡ w ++ (s ++ y) → Gap w (s ++ y) → Num s k → Stops s y → TookSpaced (number k) old (after_token old y old.kinds next.Comma)
took_spaced_number {old = old} {y = y} w s k v e g p st = took_spaced (number k) refl v (subst (λ x. Reads x (number k) y) (sym e) (reads_gap g (token_reads (s ++ y) s y (number k) refl (is_number p) st)))

pub took_spaced_whole : {old : Walked} {y : List ℕ} (min max z : ℤ) (w s : List ℕ) → SFits w128 min → SFits w128 max → to_z w128 (of_z w128 min) ≤ℤ z → z ≤ℤ to_z w128 (of_z w128 max) → true ≡ takes_value old.next → old.unread ≡ w ++ (s ++ y)
    → Gap w (s ++ y) → Num s (whole z) → Stops s y → TookSpacedWhole min max (to_z w128 (of_z w128 z)) old (after_token old y old.kinds next.Comma)
took_spaced_whole min max z w s a b l h v e g p st =
    let low : min ≤ℤ z = rw (to_z-of_z w128 min a) at l in
    let high : z ≤ℤ max = rw (to_z-of_z w128 max b) at h in
    let kept : to_z w128 (of_z w128 z) ≡ z = to_z-of_z w128 z (omega (arith, ints, a, b, low, high)) in
    rw kept (record { low = low; high = high; took = took_spaced_number w s (whole z) v e g p st })

-- ---- brackets, as a walk keeps them

pub comma_taken : {old : Walked} {y : List ℕ} {m : Next} (i : Option OpenBracket) (bs : List OpenBracket) (b : OpenBracket) → old.next ≡ next.Comma → old.kinds ≡ kinds_in i bs → i ≡ Some b → m ≡ member_next b.kind → IsSign 44 old.unread y → Moved TakesComma old (after_token old y old.kinds m)
comma_taken {old = old} {y = y} i bs b is e inner to p = subst (λ n. Moved TakesComma old (after_token old y old.kinds n)) (sym to) (comma_moves b.kind (kinds_onto [] bs) is (e ∙ inner_kinds i bs b inner) p)

pub bracket_opened : {old : Walked} {y : List ℕ} {m : Next} {o : List BracketKind} (k : Kind) → true ≡ takes_value old.next → length old.kinds < old.limit → o ≡ old.kinds → m ≡ member_next k → IsSign (brackets_of k).opening old.unread y → Moved (Opens k) old (after_token old y (bracket_of k ∷ o) m)
bracket_opened {old = old} {y = y} {m = m} k v l e to p = subst (λ q. Moved (Opens k) old (after_token old y (bracket_of k ∷ q) m)) (sym e) (subst (λ n. Moved (Opens k) old (after_token old y (bracket_of k ∷ old.kinds) n)) (sym to) (open_moves k v l p))

pub bracket_closed : {old : Walked} {y : List ℕ} (i left : Option OpenBracket) (bs less : List OpenBracket) (b : OpenBracket) → true ≡ may_close b.kind old.next → old.kinds ≡ kinds_in i bs → i ≡ Some b → bs ≡ less ++ option_to_list left → IsSign (brackets_of b.kind).closing old.unread y → Moved Closes old (after_token old y (kinds_in left less) next.Comma)
bracket_closed {old = old} {y = y} i left bs less b v e inner popped p = subst (λ q. Moved Closes old (after_token old y q next.Comma)) (sym (kinds_left left bs less popped)) (close_moves b.kind (kinds_onto [] bs) v (e ∙ inner_kinds i bs b inner) p)

-- ---- values that are passed over

forgotten : (m : Read Tree) (r : List ℕ) → forget m ≡ got tt r → (t : Tree) × (m ≡ got t r)
forgotten (got t q) r e = let same : q ≡ r = cc in (t, ap (got t) same)
forgotten (bad c p) r e = absurd (cc)

pub record Passed (room : ℕ) (x y : List ℕ) : Type 0 where
  pub taken : List ℕ
  pub tree : Tree
  pub split : x ≡ taken ++ y
  pub value : Val taken tree
  pub stops : Stops taken y
  pub shallow : depth tree ≤ room

pub passed : {room : ℕ} {old new : Cursor} → Gave (value_at room old) tt old new → Passed room old.unread new.unread
passed {room = room} {old = old} {new = new} g =
    let (t, is) = forgotten (read room old.unread) new.unread g.reads in
    let (s, split, val, st, d) = read_sound room old.unread new.unread t is in
    record { taken = s; tree = t; split = split; value = val; stops = st; shallow = d }

-- there was something
begun : {room : ℕ} {x y : List ℕ} → Passed room x y → x ≡ [] → ⊥
begun {y = y} p e = let h = val_head p.value in let k : [] ≡ h.char ∷ (h.more ++ y) = sym e ∙ p.split ∙ ap (λ z. z ++ y) h.is in cc

pub room_fits : (limit n d room : ℕ) → n ≤ limit → room ≡ limit - n → d ≤ room → n + d ≤ limit
room_fits limit n d room l e h = omega (arith, l, e, h)

pub counted : {outer count : ℕ} (i : Option OpenBracket) (bs : List OpenBracket) → count ≡ count_in i outer → outer ≡ length bs → count ≡ length (kinds_in i bs)
counted i bs c o = c ∙ ap (count_in i) o ∙ kinds_count i bs

pub room_left : {room outer count : ℕ} (limit : ℕ) (i : Option OpenBracket) (bs : List OpenBracket) → room ≡ limit - count → count ≡ count_in i outer → outer ≡ length bs → room ≡ limit - length (kinds_in i bs)
room_left limit i bs r c o = r ∙ ap (λ n. limit - n) (counted i bs c o)

pub room_for_one : {limit outer count : ℕ} (i : Option OpenBracket) (bs : List OpenBracket) → count < limit → count ≡ count_in i outer → outer ≡ length bs → length (kinds_in i bs) < limit
room_for_one {limit = limit} i bs l c o = subst (λ n. n < limit) (counted i bs c o) l

pub skip_moves : {old : Walked} {y : List ℕ} {room : ℕ} → true ≡ takes_value old.next → room ≡ room_of old → Passed room old.unread y → Moved (TakesValue (room_of old) old.unread y) old (after_token old y old.kinds next.Comma)
skip_moves {old = old} {y = y} {room = room} v r p = value_moves p.tree (TakesValue (room_of old) old.unread y) (λ a d. takes a p.tree p.taken d p.split p.value (subst (λ n. depth p.tree ≤ n) r p.shallow)) v (token_reads old.unread p.taken y p.tree p.split p.value p.stops) (λ l. room_fits old.limit (length old.kinds) (depth p.tree) room l r p.shallow)

-- ---- the place

pub utf8_len : (bytes : List ℕ) → IsUtf8 bytes → length bytes ≡ bytes_in (chars bytes)
utf8_len bytes u = ap length (sym (encodes-chars bytes u))

pub bytes_joined : (xs ys : List ℕ) → bytes_in (xs ++ ys) ≡ bytes_in xs + bytes_in ys
bytes_joined xs ys = ap length (encodes-append xs ys) ∙ length-append (encode_utf8_all xs) (encode_utf8_all ys)

pub bytes_before : (bytes front y : List ℕ) → IsUtf8 bytes → chars bytes ≡ front ++ y → length bytes - bytes_in y ≡ bytes_in front
bytes_before bytes front y u e =
    let a : length bytes ≡ bytes_in front + bytes_in y = utf8_len bytes u ∙ ap bytes_in e ∙ bytes_joined front y in
    omega (arith, a)

-- what is unread is the end of the input
pub left_over : {len offset : ℕ} (now : Cursor) (bytes : List ℕ) → len ≡ length bytes → IsUtf8 bytes → chars bytes ≡ now.input → (before : List ℕ) × (now.input ≡ before ++ now.unread) → offset ≡ offset_of now → len - offset ≡ bytes_in now.unread
left_over now bytes l u i (before, e) o =
    let a : length bytes ≡ bytes_in now.input = utf8_len bytes u ∙ ap bytes_in i in
    let b : bytes_in now.input ≡ bytes_in before + bytes_in now.unread = ap bytes_in e ∙ bytes_joined before now.unread in
    omega (arith, l, a, b, o)

pub mark_moves : {old : Walked} {y : List ℕ} (p : Place) → true ≡ takes_value old.next → p.room ≡ old.limit - length old.kinds → Passed p.room old.unread y → p.start ≡ length old.text - bytes_in old.unread → p.end ≡ length old.text - bytes_in y → MovedMarking (TakesValue (room_of old) old.unread y) old (record { text = old.text; unread = y; limit = old.limit; kinds = old.kinds; next = next.Comma; place = Some p })
mark_moves {old = old} {y = y} p v r k start end = record {
  text = refl;
  limit = refl;
  leads = λ s f.
      let o : List Frame = value_frames s.now in
      let d : true ≡ takes_value (next_of s.now) = due s f v in
      let count : length o ≡ length old.kinds = around s f v in
      let all : chars old.text ≡ (f.front ++ k.taken) ++ y = f.split ∙ ap (λ z. f.front ++ z) k.split ∙ sym (append_assoc f.front k.taken y) in
      let l : length o ≤ old.limit = subst (λ n. n ≤ old.limit) (sym count) f.fits in
      let room : p.room ≡ old.limit - length o = r ∙ ap (λ n. old.limit - n) (sym count) in
      let before : WholeTokens false f.front = before_value s.now d (f.passed (begun k)) in (
        at_comma k.tree o,
        takes s.now k.tree k.taken d k.split k.value (subst (λ n. depth k.tree ≤ n) r k.shallow),
        record {
          fits = f.fits;
          is_text = f.is_text;
          front = f.front ++ k.taken;
          split = all;
          is_next = refl;
          is_kinds = value_kinds s.now d ∙ f.is_kinds;
          passed = λ some. then_value before k.value;
          goes = λ z w n c. subst (λ x. Doc old.limit x w) (sym (append_assoc f.front k.taken z)) (f.goes (k.taken ++ z) w (λ e. absurd (begun k e)) (value_completes old.limit text_end s.now [] k.taken z k.tree w d Blanks.empty k.value (room_fits old.limit (length o) (depth k.tree) p.room l room k.shallow) c));
          exact = λ i z w n c. subst (λ x. Spells value_end old.limit x w) (sym (append_assoc f.front k.taken z)) (f.exact (inner_value s.now d) (k.taken ++ z) w (λ e. absurd (begun k e)) (value_completes old.limit value_end s.now [] k.taken z k.tree w d Blanks.empty k.value (room_fits old.limit (length o) (depth k.tree) p.room l room k.shallow) c));
          back = λ end w h. value_due old.limit end s.now old.unread y k.tree w d (token_reads old.unread k.taken y k.tree k.split k.value k.stops) (f.back end w h);
          marked = record {
            before = f.front;
            old = k.taken;
            after = y;
            whole = f.split ∙ ap (λ z. f.front ++ z) k.split;
            starts = start ∙ bytes_before old.text f.front old.unread f.is_text f.split;
            ends = end ∙ bytes_before old.text (f.front ++ k.taken) y f.is_text all;
            inside = l;
            room = room;
            tree = k.tree;
            value = k.value;
            from = s.now;
            due = d;
            around = refl;
            front = λ z w c. f.goes z w (λ e. absurd (begun k e)) c;
            passed = before;
            rest = λ w c. c;
          };
        },
      );
}

-- ---- the end

nothing_next : (x : List ℕ) → slice_get x 0 ≡ None → x ≡ []
nothing_next [] e = refl
nothing_next (c ∷ r) e = absurd (cc)

no_kind : (o : List BracketKind) → length o ≤ 0 → o ≡ []
no_kind [] e = refl
no_kind (b ∷ bs) e = absurd (omega (arith, e))

pub no_more_left : {x y w : List ℕ} → x ≡ w ++ y → Gap w y → slice_get y 0 ≡ None → LastBlanks x
no_more_left {y = y} {w = w} e g n =
    let nothing : y ≡ [] = nothing_next y n in
    subst LastBlanks (sym (e ∙ ap (λ z. w ++ z) nothing ∙ append_nil w)) (gap_end (subst (Gap w) nothing g))

at_end : (a : At) → next_of a ≡ next.Comma → kinds_of a ≡ [] → (t : Tree) × (a ≡ at_comma t [])
at_end (at_comma t []) is e = (t, refl)
at_end (at_comma t (in_array ts ∷ o)) is e = absurd (cc)
at_end (at_comma t (in_object ps u b ∷ o)) is e = absurd (cc)
at_end (at_value o) is e = absurd (cc)
at_end (at_element ts o) is e = absurd (cc)
at_end (at_key ps o) is e = absurd (cc)
at_end (at_colon ps u b o) is e = absurd (cc)

pub ends : {v : Walked} (s : Trail) → v.next ≡ next.Comma → length v.kinds ≤ 0 → LastBlanks v.unread → IsAt v s → Ends v s
ends {v = v} s is none l f =
    let (t, e) = at_end s.now (f.is_next ∙ is) (f.is_kinds ∙ no_kind v.kinds none) in
    let c : (w : Tree) → w ≡ t → CompletesTo v.limit s.now v.unread w = λ w h. subst (λ a. CompletesTo v.limit a v.unread w) (sym e) (l, h) in
    record {
      tree = t;
      walked = e;
      document = subst (λ z. Doc v.limit z t) (sym f.split) (f.goes v.unread t (λ n. n) (c t refl));
      marked = marked_rest v.limit v.text (CompletesTo v.limit s.now v.unread) (λ w. w ≡ t) v.place s.marked c f.marked;
    }

pub is_within : {v : Walked} → IsWalk v → v.next ≡ next.Comma → length v.kinds ≤ 0 → LastBlanks v.unread → IsDocumentWithin v.limit v.text
is_within w is none l = let (s, f) = w.live (subst Live (sym is) tt) in let k = ends s is none l f in (k.tree, k.document)

less_deep : {limit : ℕ} {x : List ℕ} {t : Tree} → limit ≤ max_depth → Doc limit x t → Doc max_depth x t
less_deep l d = let k = d.shallow in record { before = d.before; text = d.text; after = d.after; whole = d.whole; blank = d.blank; value = d.value; last = d.last; shallow = omega (arith, l, k) }

pub is_document : {v : Walked} → IsWalk v → v.next ≡ next.Comma → length v.kinds ≤ 0 → LastBlanks v.unread → IsDocument v.text
is_document w is none l = let (t, d) = is_within w is none l in (t, less_deep w.small d)

-- ---- a fork

-- the offset of what is unread, in the bytes of the input
module _ (now : Cursor) (bytes : List ℕ) (offset : ℕ) (u : IsUtf8 bytes) (i : chars bytes ≡ now.input) (suffix : (before : List ℕ) × (now.input ≡ before ++ now.unread)) (s : all_scalars now.unread ≡ true) (n : offset ≡ offset_of now) where
  cut : bytes ≡ encode_utf8_all suffix.0 ++ encode_utf8_all now.unread
  cut = sym (encodes-chars bytes u) ∙ ap encode_utf8_all (i ∙ suffix.1) ∙ encodes-append suffix.0 now.unread

  at : offset ≡ bytes_in suffix.0
  at = let total : bytes_in now.input ≡ bytes_in suffix.0 + bytes_in now.unread = ap bytes_in suffix.1 ∙ bytes_joined suffix.0 now.unread in omega (arith, n, total)

  pub offset_seam : IsCharBoundary bytes offset
  offset_seam = subst (IsCharBoundary bytes) (sym at) (IsCharBoundary-at_seam bytes (encode_utf8_all suffix.0) (encode_utf8_all now.unread) cut (now.unread, (s, refl)))

  pub rest_unread : (rest : List ℕ) → rest ≡ drop offset bytes → chars rest ≡ now.unread
  rest_unread rest r = ap chars (r ∙ ap (λ z. drop z bytes) at ∙ ap (drop (bytes_in suffix.0)) cut ∙ drop-append_seam (encode_utf8_all suffix.0) (encode_utf8_all now.unread)) ∙ chars-encodes now.unread s
