-- A walk over a document is refused nowhere but where memory was.
use Rattle.std.proofs.Common.{◌≡◌, ℕ, ◌+◌, ◌≤◌, ◌<◌, true, false, List, [], ◌∷◌, length, ap, sym, ◌∙◌, subst, inl, inr, Some, None, arith}
use Rattle.std.specs.Prelude.{IfErr, OnErr, Result, Ok, Err}
use Rattle.std.specs.Str.{chars, IsUtf8}
use Rattle.std.proofs.lemmas.List.{length-append}
use Rattle.std.proofs.lemmas.Str.{length-le-encodes}
use Rattle.json5_grammar.specs.Language.Blanks.{Solid}
use Rattle.json5_grammar.specs.Language.Characters.{NotBegun}
use Rattle.json5_grammar.specs.Language.Documents.{Doc, max_depth}
use Rattle.json5_grammar.specs.Language.Trees.{Tree, array, object, Trees, Members, no_more, more, no_member, member}
use Rattle.json5_grammar.specs.Model.Collections.{Tail, MembersTail, joined_trees, joined_members}
use Rattle.json5_grammar.proofs.ArraysPartlyRead.{element_shorter, sign_shorter}
use Rattle.json5_grammar.proofs.ObjectsRead.{key_shorter, key_value_shorter}
use Rattle.json5_types.specs.declared.error.Error.{Error}
use Rattle.json5_types.specs.Errors.{LacksMemory}
use Rattle.json5_read.specs.declared.brackets.BracketKind.{BracketKind as Kind}
use Rattle.json5_read.specs.declared.brackets.BracketKind.TheVariants as kind
use Rattle.json5_walk.specs.declared.entry.EntryKey.{EntryKey}
use Rattle.json5_walk.specs.Nexts.{takes_value}
use Rattle.json5_walk.specs.Entries.{is_inside, AwaitsEntry, BeginsEntry}
use Rattle.json5_walk.specs.Frames.{Frame, in_array, in_object, text_end, At, at_value, at_element, at_key, at_colon, at_comma, value_frames, CompletesTo}
use Rattle.json5_walk.specs.Moves.{Stays, Opens}
use Rattle.json5_walk.specs.Walks.{Walked, at_start, Trail, IsAt, Live, Moved, Unmarked, IsDocument, IsDocumentWithin, IsHopeless, NeedsMemory, AwaitsValue, HasEnded}
use Rattle.json5_walk.proofs.Calls.{utf8_len, starts_at}
use Rattle.json5_walk.proofs.Entries.{there, stayed, needs_as, hopeless_needs, awaits_value, front_moves}
use Rattle.json5_edit.specs.Comparing.{step_kind}
use Rattle.json5_edit.specs.Entries.{read_in, around}
use Rattle.json5_edit.specs.Parts.{part, count, count_members, positions}
use Rattle.json5_edit.specs.Seeks.{Seeks, Spares, SparesFrom, opened}
use Rattle.json5_edit.specs.declared.paths.Step.{Step}
use Rattle.json5_edit.proofs.Fronts.{opened_at}
use Rattle.json5_edit.proofs.PartsFound.{count_snoc, count_snoc_member}
use Rattle.json5_edit.proofs.Placed.{closes_part}
use Rattle.json5_edit.proofs.Seeks.{size_of, Passed}

-- ---- a value

pub unmarked_awaits : {v w : Walked} → Unmarked v w → AwaitsValue v → AwaitsValue w
unmarked_awaits {v = v} {w = w} p a = record {
  due = a.due ∙ ap takes_value (sym p.same_next);
  solid = subst Solid (sym p.same_unread) a.solid;
  unclosed = λ h. subst (NotBegun _) (sym p.same_unread) (a.unclosed (sym p.same_next ∙ h));
}

pub mark_spares : {v w : Walked} {e : Error} → Unmarked v w → (AwaitsValue w → IsHopeless w) → Spares v e
mark_spares {v = v} {w = w} p h = λ s f a. needs_as v w p.text p.limit (hopeless_needs w (h (unmarked_awaits p a)))

pub skip_spares : {v w x : Walked} {e : Error} → Unmarked v w → x ≡ w → (AwaitsValue x → IsHopeless x) → Spares v e
skip_spares {v = v} {w = w} p same h = λ s f a. needs_as v w p.text p.limit (hopeless_needs w (subst (λ z. AwaitsValue z → IsHopeless z) same h (unmarked_awaits p a)))

pub opened_spares : {v w x : Walked} {k : Kind} {e : Error} (s : Step) → k ≡ step_kind s → Unmarked v w → Moved (Opens k) w x → SparesFrom s x e → Spares v e
opened_spares {v = v} {x = x} s is p q k = λ t f a.
    let (b, opens, g) = q.leads (record { now = t.now; marked = None }) (p.leads t f) in
    needs_as v x (q.text ∙ p.text) (q.limit ∙ p.limit) (k (value_frames t.now) (there (opened_at opens ∙ ap (λ z. opened z (value_frames t.now)) is) g))

-- ---- entries

joined_count : (ts us : Trees) → count (joined_trees ts us) ≡ count ts + count us
joined_count no_more us = omega arith
joined_count (more t ts) us = let k = joined_count ts us in omega (arith, k)

joined_members_count : (ps qs : Members) → count_members (joined_members ps qs) ≡ count_members ps + count_members qs
joined_members_count no_member qs = omega arith
joined_members_count (member u e t ps) qs = let k = joined_members_count ps qs in omega (arith, k)

-- what is unread is no longer than the text
unread_short : {v : Walked} {s : Trail} → IsAt v s → length v.unread ≤ length v.text
unread_short {v = v} f =
    let a = utf8_len v.text f.is_text in
    let b = length-le-encodes (chars v.text) in
    let c : length (chars v.text) ≡ length f.front + length v.unread = ap length f.split ∙ length-append f.front v.unread in
    omega (arith, a, b, c)

-- x isn't empty, so that its elements are fewer
pub fewer : (ts : Trees) (x r : List ℕ) → Tail ts false x r → count ts < length x
fewer no_more x r a = let k = sign_shorter 93 x r a in omega (arith, k)
fewer (more t ts) x r (y, e, tl) = let k = after ts y r tl in let h = element_shorter false x y t e in omega (arith, k, h)
  where
    after : (us : Trees) (y r : List ℕ) → Tail us true y r → count us < length y
    after no_more y r (inl a) = let k = sign_shorter 93 y r a in omega (arith, k)
    after no_more y r (inr (z, a, b)) = let k = sign_shorter 44 y z a in omega (arith, k)
    after (more s us) y r (z, e, tl) = let k = after us z r tl in let h = element_shorter true y z s e in omega (arith, k, h)

pub fewer_members : (ps : Members) (x r : List ℕ) → MembersTail ps false x r → count_members ps < length x
fewer_members no_member x r a = let k = sign_shorter 125 x r a in omega (arith, k)
fewer_members (member u e t ps) x r (y, z, k, v, tl) = let n = after ps z r tl in let h = key_shorter false x y u e k in let i = key_value_shorter y z t v in omega (arith, n, h, i)
  where
    after : (qs : Members) (y r : List ℕ) → MembersTail qs true y r → count_members qs < length y
    after no_member y r (inl a) = let k = sign_shorter 125 y r a in omega (arith, k)
    after no_member y r (inr (z, a, b)) = let k = sign_shorter 44 y z a in omega (arith, k)
    after (member s d w qs) y r (z, q, k, v, tl) = let n = after qs q r tl in let h = key_shorter true y z s d k in let i = key_value_shorter z q w v in omega (arith, n, h, i)

-- the collection that is open, in the tree of the whole
part_of : (limit : ℕ) (a : At) (x : List ℕ) (w : Tree) → is_inside a ≡ true → CompletesTo limit a x w → (u : Tree) × (part (positions (around a) []) w ≡ Some u) × (size_of (read_in a) ≤ size_of u)
part_of limit (at_element ts o) x w i (us, r, tl, fit, h) = let n = joined_count ts us in (array (joined_trees ts us), closes_part limit o [] r (array (joined_trees ts us)) w h, omega (arith, n))
part_of limit (at_key ps o) x w i (qs, r, tl, fit, h) = let n = joined_members_count ps qs in (object (joined_members ps qs), closes_part limit o [] r (object (joined_members ps qs)) w h, omega (arith, n))
part_of limit (at_comma t (in_array ts ∷ o)) x w i (us, r, tl, fit, h) = let n = joined_count ts (more t us) in let m = count_snoc ts t in (array (joined_trees ts (more t us)), closes_part limit o [] r (array (joined_trees ts (more t us))) w h, omega (arith, n, m))
part_of limit (at_comma t (in_object ps u b ∷ o)) x w i (qs, r, tl, fit, h) = let n = joined_members_count ps (member u b t qs) in let m = count_snoc_member ps u b t in (object (joined_members ps (member u b t qs)), closes_part limit o [] r (object (joined_members ps (member u b t qs))) w h, omega (arith, n, m))
part_of limit (at_comma t []) x w i c = absurd (cc)
part_of limit (at_value o) x w i c = absurd (cc)
part_of limit (at_colon ps u b o) x w i c = absurd (cc)

-- the one that was just opened has fewer entries than there are characters
first_few : (limit : ℕ) (k : Kind) (o : List Frame) (x : List ℕ) (w : Tree) → CompletesTo limit (opened k o) x w → (u : Tree) × (part (positions o []) w ≡ Some u) × (size_of u < length x)
first_few limit kind.Array o x w (us, r, tl, fit, h) = (array us, closes_part limit o [] r (array us) w h, fewer us x r tl)
first_few limit kind.Object o x w (qs, r, tl, fit, h) = (object qs, closes_part limit o [] r (object qs) w h, fewer_members qs x r tl)

same_part : {t u : Tree} → Some t ≡ Some u → t ≡ u
same_part e = cc

-- so many entries can't be passed
pub too_many : {s : Step} {path : List Step} {first now : Walked} {n : ℕ} {e : Error} → Passed s path first now n → length first.text ≤ n → SparesFrom s first e
too_many {s = s} {first = first} {now = now} {n = n} {e = e} p l = λ o f. needs_as first now p.text p.limit (none o f)
  where
    none : (o : List Frame) → IsAt first (record { now = opened (step_kind s) o; marked = None }) → NeedsMemory now e
    none o f d =
        let w : Tree = d.0 in
        let whole : Doc first.limit (chars first.text) w = subst (λ x. Doc first.limit (chars x) w) p.text (subst (λ k. Doc k (chars now.text) w) p.limit d.1) in
        let (a, m, g, i, frames, k, size, finds) = p.leads o f in
        let (u, is_u, few) = first_few first.limit (step_kind s) o first.unread w (f.back text_end w whole) in
        let (v, is_v, many) = part_of now.limit a now.unread w i (g.back text_end w d.1) in
        let same : u ≡ v = same_part (sym is_u ∙ ap (λ z. part (positions z []) w) (sym frames) ∙ is_v) in
        let sizes = ap size_of same in
        let short = unread_short f in
        absurd (omega (arith, few, many, sizes, short, size, l))

pub entry_spares : {s : Step} {path : List Step} {first now : Walked} {n : ℕ} {e : Error} → Passed s path first now n → (AwaitsEntry now → NeedsMemory now e) → SparesFrom s first e
entry_spares {first = first} {now = now} p h = λ o f.
    let (a, m, g, i, frames, k, size, finds) = p.leads o f in
    needs_as first now p.text p.limit (h (record { trail = record { now = a; marked = m }; is_at = g; inside = i }))

pub value_spares : {s : Step} {path : List Step} {first now mid : Walked} {n : ℕ} {key : EntryKey} {e : Error} → Passed s path first now n → BeginsEntry now mid key → Spares mid e → SparesFrom s first e
value_spares {first = first} {now = now} {mid = mid} p entry h = λ o f.
    let (a, m, g, i, frames, k, size, finds) = p.leads o f in
    let front = front_moves entry in
    let (b, is, j) = front.leads (record { now = a; marked = m }) g in
    let awaits = entry.keyed.awaits (entry.stands (record { trail = record { now = a; marked = m }; is_at = g; inside = i })) in
    needs_as first mid (front.text ∙ p.text) (front.limit ∙ p.limit) (h (record { now = b; marked = m }) j awaits)

-- ---- the whole text

start_needs : {bytes : List ℕ} {limit : ℕ} {v : Walked} {e : Error} → limit ≡ max_depth → v ≡ at_start bytes limit → NeedsMemory v e → IsDocument bytes → LacksMemory e
start_needs {bytes = bytes} {e = e} l start k d = subst (λ (w : Walked). IsDocumentWithin w.limit w.text → LacksMemory e) start k (subst (λ n. IsDocumentWithin n bytes) (sym l) d)

pub gap_needs : {bytes : List ℕ} {limit : ℕ} {v : Walked} {e : Error} → limit ≡ max_depth → v ≡ at_start bytes limit → (Live v.next → IsHopeless v) → IsDocument bytes → LacksMemory e
gap_needs {v = v} l start h = start_needs l start (hopeless_needs v (h (subst (λ (w : Walked). Live w.next) (sym start) tt)))

at_first : {v w : Walked} {bytes : List ℕ} {limit : ℕ} → IsUtf8 bytes → v ≡ at_start bytes limit → Moved Stays v w → IsAt w (record { now = at_value []; marked = None })
at_first u start gap =
    let (a, still, g) = gap.leads (record { now = at_value []; marked = None }) (subst (λ z. IsAt z (record { now = at_value []; marked = None })) (sym start) (starts_at u)) in
    stayed still g

pub seek_needs : {bytes : List ℕ} {limit : ℕ} {v w : Walked} {e : Error} → IsUtf8 bytes → limit ≡ max_depth → v ≡ at_start bytes limit → Moved Stays v w → Solid w.unread → Spares w e → IsDocument bytes → LacksMemory e
seek_needs {v = v} {w = w} u l start gap solid sp =
    let f = at_first u start gap in
    start_needs l start (needs_as v w gap.text gap.limit (sp (record { now = at_value []; marked = None }) f (awaits_value f solid)))

pub finish_needs : {bytes : List ℕ} {limit : ℕ} {path : List Step} {v w x : Walked} {e : Error} → IsUtf8 bytes → limit ≡ max_depth → v ≡ at_start bytes limit → Moved Stays v w → Seeks path w x → (HasEnded x → IsHopeless x) → IsDocument bytes → LacksMemory e
finish_needs {v = v} {x = x} u l start gap seek h =
    let (t, m, g, k) = seek.leads (record { now = at_value []; marked = None }) (at_first u start gap) in
    start_needs l start (needs_as v x (seek.text ∙ gap.text) (seek.limit ∙ gap.limit) (hopeless_needs x (h (record { due = sym g.is_next; none = sym g.is_kinds }))))

-- ---- results

pub on_err : {T E A : Type 0} {P : E → Type 0} (r : Result T E) → OnErr r A → ((e : E) → A → P e) → IfErr r P
on_err (Ok a) h k = tt
on_err (Err e) h k = k e h
