-- The steps up to the value of an entry.
use Rattle.std.proofs.Common.{◌≡◌, ℕ, ◌<◌, Bool, true, false, List, [], ◌∷◌, length, refl, ap, sym, ◌∙◌, subst, Option, Some, None, arith}
use Rattle.std.specs.Option.{is_some}
use Rattle.std.specs.Prelude.{OnSome, IfNone, OnOk, OnErr, IfErr, Result, Ok, Err}
use Rattle.json5_grammar.specs.Language.Blanks.{Solid}
use Rattle.json5_grammar.specs.Language.Trees.{Trees, Members}
use Rattle.json5_read.specs.declared.brackets.BracketKind.TheVariants as kind
use Rattle.json5_read.specs.declared.brackets.OpenBracket.{OpenBracket}
use Rattle.json5_types.specs.declared.error.Error.{Error}
use Rattle.json5_types.specs.Errors.{LacksMemory}
use Rattle.json5_walk.specs.declared.next.Next.TheVariants as next
use Rattle.json5_walk.specs.Nexts.{takes_value, takes_entry}
use Rattle.json5_walk.specs.Frames.{Frame, in_array, in_object, frame_kinds, At, at_value, at_element, at_key, at_colon, at_comma, next_of, kinds_of}
use Rattle.json5_walk.specs.Moves.{Stays, stays, TakesKeyOf, takes_key, TakesColon, takes_colon, TakesComma, after_element, after_member, Closes, TakesEntryComma, no_comma, comma, TakesEntryKey, no_key, key, TakesEntryColon, no_colon, colon, TakesFront, takes_front, EndsEntries, ends_entries}
use Rattle.json5_walk.specs.Walks.{Walked, Trail, IsAt, Live, Moved, TookKey, may_close, IsDocumentWithin, IsHopeless, NeedsMemory, offset_in, AwaitsValue, AwaitsKey, AwaitsColon, NotClosed, NotParted}
use Rattle.json5_types.specs.Cows.{cow_bytes}
use Rattle.json5_walk.specs.declared.entry.EntryKey.{EntryKey}
use Rattle.json5_walk.specs.Entries.{is_inside, AwaitsEntry, EntryStands, TookName, TakesKey, BeginsEntry}
use Rattle.json5_walk.proofs.Refusals.{within_hopeless}

-- ---- one step after another

pub there : {v : Walked} {a b : At} {m : Option (List Frame)} → a ≡ b → IsAt v (record { now = a; marked = m }) → IsAt v (record { now = b; marked = m })
there {v = v} {m = m} e f = subst (λ a. IsAt v (record { now = a; marked = m })) e f

pub stayed : {x a : At} {m : Option (List Frame)} {v : Walked} → Stays x a → IsAt v (record { now = a; marked = m }) → IsAt v (record { now = x; marked = m })
stayed (stays a) f = f

pub after_gap : {old mid new : Walked} {Step : At → At → Type 0} → Moved Stays old mid → Moved Step mid new → Moved Step old new
after_gap p q = record {
  text = q.text ∙ p.text;
  limit = q.limit ∙ p.limit;
  leads = λ s f. let (a, is, g) = p.leads s f in q.leads s (stayed is g);
}

pub before_gap : {old mid new : Walked} {Step : At → At → Type 0} → Moved Step old mid → Moved Stays mid new → Moved Step old new
before_gap p q = record {
  text = q.text ∙ p.text;
  limit = q.limit ∙ p.limit;
  leads = λ s f. let (a, is, g) = p.leads s f in let (b, still, h) = q.leads (record { now = a; marked = s.marked }) g in (a, is, stayed still h);
}

pub then : {v0 v1 v2 : Walked} (P Q R : At → At → Type 0) → ((a b c : At) → P a b → Q b c → R a c) → Moved P v0 v1 → Moved Q v1 v2 → Moved R v0 v2
then P Q R k p q = record {
  text = q.text ∙ p.text;
  limit = q.limit ∙ p.limit;
  leads = λ s f. let (a, is, g) = p.leads s f in let (b, then_is, h) = q.leads (record { now = a; marked = s.marked }) g in (b, k s.now a b is then_is, h);
}

-- the same step by another name
pub named_so : {v w : Walked} (P Q : At → At → Type 0) → ((a b : At) → P a b → Q a b) → Moved P v w → Moved Q v w
named_so P Q k p = record {
  text = p.text;
  limit = p.limit;
  leads = λ s f. let (a, is, g) = p.leads s f in (a, k s.now a is, g);
}

-- ---- what is needed in one walk is needed in another over the same text

pub needs_as : (v w : Walked) {e : Error} → w.text ≡ v.text → w.limit ≡ v.limit → NeedsMemory w e → NeedsMemory v e
needs_as v w {e = e} t l k = subst (λ n. IsDocumentWithin n v.text → LacksMemory e) l (subst (λ x. IsDocumentWithin w.limit x → LacksMemory e) t k)

pub hopeless_needs : (v : Walked) {e : Error} → IsHopeless v → NeedsMemory v e
hopeless_needs v h d = absurd (h d)

pub hopeless_as : (v w : Walked) → w.text ≡ v.text → w.limit ≡ v.limit → IsHopeless w → IsHopeless v
hopeless_as v w t l k = subst (λ n. IsDocumentWithin n v.text → ⊥) l (subst (λ x. IsDocumentWithin w.limit x → ⊥) t k)

-- ---- where an entry may come

inside_takes : (a : At) → is_inside a ≡ true → (takes_entry (next_of a) ≡ true) × (0 < length (kinds_of a))
inside_takes (at_element ts o) i = (refl, omega arith)
inside_takes (at_key ps o) i = (refl, omega arith)
inside_takes (at_comma t (in_array ts ∷ o)) i = (refl, omega arith)
inside_takes (at_comma t (in_object ps u b ∷ o)) i = (refl, omega arith)
inside_takes (at_comma t []) i = absurd (cc)
inside_takes (at_value o) i = absurd (cc)
inside_takes (at_colon ps u b o) i = absurd (cc)

pub awaits_next : {v : Walked} → AwaitsEntry v → takes_entry v.next ≡ true
awaits_next a = ap takes_entry (sym a.is_at.is_next) ∙ (inside_takes a.trail.now a.inside).0

pub awaits_open : {v : Walked} → AwaitsEntry v → 0 < length v.kinds
awaits_open a = subst (λ k. 0 < length k) a.is_at.is_kinds (inside_takes a.trail.now a.inside).1

live_at : (a : At) → Live (next_of a)
live_at (at_value o) = tt
live_at (at_element ts o) = tt
live_at (at_key ps o) = tt
live_at (at_colon ps u b o) = tt
live_at (at_comma t o) = tt

pub is_live : {v : Walked} {s : Trail} → IsAt v s → Live v.next
is_live {s = s} f = subst Live f.is_next (live_at s.now)

-- ---- the comma

pub not_parted : {old mid : Walked} (new : Walked) → Moved Stays old mid → new ≡ mid → Moved TakesEntryComma old new
not_parted {old = old} new gap same = subst (Moved TakesEntryComma old) (sym same) (named_so Stays TakesEntryComma (λ a b is. still is) gap)
  where
    still : {a b : At} → Stays a b → TakesEntryComma a b
    still (stays a) = no_comma a

pub parted : {old mid after new : Walked} → Moved Stays old mid → Moved TakesComma mid after → Moved Stays after new → Moved TakesEntryComma old new
parted gap taken last = named_so TakesComma TakesEntryComma (λ a b is. comma a b is) (after_gap gap (before_gap taken last))

-- after a comma no other comes
comma_leads : {a b : At} → TakesComma a b → next_of b ≡ next.Comma → ⊥
comma_leads (after_element ts t o) e = cc
comma_leads (after_member ps u b t o) e = cc

pub comma_done : {old mid after new : Walked} → Moved Stays old mid → Moved TakesComma mid after → Moved Stays after new → AwaitsEntry old → NotParted new
comma_done gap taken last a k o kinds due =
    let p = after_gap gap (before_gap taken last) in
    let (b, is, g) = p.leads a.trail a.is_at in
    absurd (comma_leads is (g.is_next ∙ due))

pub second_gap_hopeless : {old mid after : Walked} → Moved Stays old mid → Moved TakesComma mid after → (Live after.next → IsHopeless after) → AwaitsEntry old → IsHopeless old
second_gap_hopeless {old = old} {after = after} gap taken k a =
    let p = after_gap gap taken in
    let (b, is, g) = p.leads a.trail a.is_at in
    hopeless_as old after p.text p.limit (k (is_live g))

-- ---- the key

element_due : (a : At) → next_of a ≡ next.Element → (ts : Trees) × (o : List Frame) × (a ≡ at_element ts o)
element_due (at_element ts o) e = (ts, o, refl)
element_due (at_value o) e = absurd (cc)
element_due (at_key ps o) e = absurd (cc)
element_due (at_colon ps u b o) e = absurd (cc)
element_due (at_comma t o) e = absurd (cc)

no_key_moves : {v : Walked} (bytes : List ℕ) → v.next ≡ next.Element → bytes ≡ [] → Moved (TakesEntryKey bytes) v v
no_key_moves bytes n e = record {
  text = refl;
  limit = refl;
  leads = λ s f. let (ts, o, is) = element_due s.now (f.is_next ∙ n) in (s.now, subst (λ a. TakesEntryKey bytes a a) (sym is) (no_key ts o e), f);
}

key_taken : {bytes : List ℕ} {a b : At} → TakesKeyOf bytes a b → TakesEntryKey bytes a b
key_taken (takes_key ps u e o is) = key ps u e o is

awaits_element : {v : Walked} {ts : Trees} {o : List Frame} {m : Option (List Frame)} → IsAt v (record { now = at_element ts o; marked = m }) → Solid v.unread → NotClosed v → AwaitsValue v
awaits_element {o = o} f solid closed = record { due = ap takes_value f.is_next; solid = solid; unclosed = λ h. closed kind.Array (frame_kinds o) (sym f.is_kinds) (ap (may_close kind.Array) f.is_next) }

pub awaits_value : {v : Walked} {o : List Frame} {m : Option (List Frame)} → IsAt v (record { now = at_value o; marked = m }) → Solid v.unread → AwaitsValue v
awaits_value f solid = record { due = ap takes_value f.is_next; solid = solid; unclosed = λ h. let k : next.Value ≡ next.Element = f.is_next ∙ h in absurd (cc) }

pub element_taken : {v : Walked} (k : EntryKey) → v.next ≡ next.Element → cow_bytes k.text ≡ [] → k.start ≡ offset_in v → k.end ≡ offset_in v → TakesKey v v k
element_taken {v = v} k due text start end = record {
  start = start;
  named = v;
  name = no_key_moves (cow_bytes k.text) due text;
  spelled = subst (λ n. TookName n k.text v v) (sym due) refl;
  end = end;
  colon = record {
    text = refl;
    limit = refl;
    leads = λ s f. let (ts, o, is) = element_due s.now (f.is_next ∙ due) in (s.now, subst (λ a. TakesEntryColon a a) (sym is) (no_colon ts o), f);
  };
  awaits = λ s. let (ts, o, is) = element_due s.awaits.trail.now (s.awaits.is_at.is_next ∙ due) in awaits_element (there is s.awaits.is_at) s.solid s.unclosed;
}

awaits_key : {v : Walked} {ps : Members} {o : List Frame} {m : Option (List Frame)} → IsAt v (record { now = at_key ps o; marked = m }) → Solid v.unread → NotClosed v → AwaitsKey v
awaits_key {o = o} f solid closed = record { due = sym f.is_next; solid = solid; unclosed = closed kind.Object (frame_kinds o) (sym f.is_kinds) (ap (may_close kind.Object) f.is_next) }

pub key_awaited : {v : Walked} → EntryStands v → v.next ≡ next.Key → AwaitsKey v
key_awaited {v = v} s due = at_it s.awaits.trail.now s.awaits.is_at
  where
    at_it : {m : Option (List Frame)} (a : At) → IsAt v (record { now = a; marked = m }) → AwaitsKey v
    at_it (at_key ps o) f = awaits_key f s.solid s.unclosed
    at_it (at_element ts o) f = let h : next.Element ≡ next.Key = f.is_next ∙ due in absurd (cc)
    at_it (at_value o) f = let h : next.Value ≡ next.Key = f.is_next ∙ due in absurd (cc)
    at_it (at_colon ps u b o) f = let h : next.Colon ≡ next.Key = f.is_next ∙ due in absurd (cc)
    at_it (at_comma t o) f = let h : next.Comma ≡ next.Key = f.is_next ∙ due in absurd (cc)

-- neither an element nor a key is due: then a comma or the closing bracket is
none_hopeless : {v : Walked} → (v.next ≡ next.Element → ⊥) → (v.next ≡ next.Key → ⊥) → EntryStands v → IsHopeless v
none_hopeless {v = v} no_element no_name s = at_it s.awaits.trail.now s.awaits.is_at s.awaits.inside
  where
    at_it : {m : Option (List Frame)} (a : At) → IsAt v (record { now = a; marked = m }) → is_inside a ≡ true → IsHopeless v
    at_it (at_comma t (f ∷ o)) is i = within_hopeless is s.solid s.unparted s.unclosed
    at_it (at_element ts o) is i = absurd (no_element (sym is.is_next))
    at_it (at_key ps o) is i = absurd (no_name (sym is.is_next))
    at_it (at_comma t []) is i = absurd (cc)
    at_it (at_value o) is i = absurd (cc)
    at_it (at_colon ps u b o) is i = absurd (cc)

pub none_needs : {v : Walked} {e : Error} → (v.next ≡ next.Element → ⊥) → (v.next ≡ next.Key → ⊥) → EntryStands v → NeedsMemory v e
none_needs {v = v} no_element no_name s = hopeless_needs v (none_hopeless no_element no_name s)

-- ---- the key and the colon of a member

key_is : {bytes : List ℕ} {a b : At} → TakesKeyOf bytes a b → (ps : Members) × (u : List ℕ) × (d : Bool) × (o : List Frame) × (b ≡ at_colon ps u d o)
key_is (takes_key ps u d o is) = (ps, u, d, o, refl)

colon_is : {a b : At} → TakesColon a b → (o : List Frame) × (b ≡ at_value o)
colon_is (takes_colon ps u d o) = (in_object ps u d ∷ o, refl)

colon_taken : {a b : At} → TakesColon a b → TakesEntryColon a b
colon_taken (takes_colon ps u e o) = colon ps u e o

module _ {v w : Walked} {bytes : List ℕ} (p : Moved (TakesKeyOf bytes) v w) where
  pub gap_needs : {e : Error} → (Live w.next → IsHopeless w) → (s : Trail) → IsAt v s → AwaitsKey v → NeedsMemory v e
  gap_needs h s f a = let (b, is, g) = p.leads s f in needs_as v w p.text p.limit (hopeless_needs w (h (is_live g)))

  pub colon_needs : {x : Walked} {e : Error} → Moved Stays w x → Solid x.unread → (AwaitsColon x → IsHopeless x) → (s : Trail) → IsAt v s → AwaitsKey v → NeedsMemory v e
  colon_needs {x = x} gap solid h s f a =
      let q = before_gap p gap in
      let (b, is, g) = q.leads s f in
      let (ps, u, d, o, at) = key_is is in
      needs_as v x q.text q.limit (hopeless_needs x (h (record { due = sym (there at g).is_next; solid = solid })))

  pub last_gap_needs : {x y : Walked} {e : Error} → Moved Stays w x → Moved TakesColon x y → (Live y.next → IsHopeless y) → (s : Trail) → IsAt v s → AwaitsKey v → NeedsMemory v e
  last_gap_needs {y = y} gap q h s f a =
      let r = then (TakesKeyOf bytes) TakesColon (λ a b. (c : At) × TakesColon c b) (λ a b c k l. (b, l)) (before_gap p gap) q in
      let (b, is, g) = r.leads s f in
      needs_as v y r.text r.limit (hopeless_needs y (h (is_live g)))

  pub member_taken : {x y z : Walked} (k : EntryKey) → Moved Stays w x → Moved TakesColon x y → Moved Stays y z → Solid z.unread → cow_bytes k.text ≡ bytes → TookKey k.text v w → k.start ≡ offset_in v → k.end ≡ offset_in w → TakesKey v z k
  member_taken {z = z} k gap q last solid text spelled start end =
      let colon_moves = after_gap gap (before_gap q last) in
      record {
        start = start;
        named = w;
        name = subst (λ b. Moved (TakesEntryKey b) v w) (sym text) (named_so (TakesKeyOf bytes) (TakesEntryKey bytes) (λ a b is. key_taken is) p);
        spelled = subst (λ n. TookName n k.text v w) (sym spelled.due) spelled;
        end = end;
        colon = named_so TakesColon TakesEntryColon (λ a b is. colon_taken is) colon_moves;
        awaits = λ s.
            let (b, is, g) = p.leads s.awaits.trail s.awaits.is_at in
            let (c, colon_so, h) = colon_moves.leads (record { now = b; marked = s.awaits.trail.marked }) g in
            let (o, at) = colon_is colon_so in
            awaits_value (there at h) solid;
      }

-- ---- the whole

pub stands_first : {v w x : Walked} → Moved TakesEntryComma v w → Solid w.unread → (AwaitsEntry v → NotParted w) → NotClosed w → x ≡ w → AwaitsEntry v → EntryStands x
stands_first {v = v} {w = w} p solid unparted unclosed same a =
    let (b, is, g) = p.leads a.trail a.is_at in
    subst EntryStands (sym same) (record {
      awaits = record { trail = record { now = b; marked = a.trail.marked }; is_at = g; inside = still_inside is a.inside };
      solid = solid;
      unparted = unparted a;
      unclosed = unclosed;
    })
  where
    after_comma : {a b : At} → TakesComma a b → is_inside b ≡ true
    after_comma (after_element ts t o) = refl
    after_comma (after_member ps u e t o) = refl

    still_inside : {a b : At} → TakesEntryComma a b → is_inside a ≡ true → is_inside b ≡ true
    still_inside (no_comma a) i = i
    still_inside (comma a b p) i = after_comma p

pub begins : {v w x y : Walked} (k : EntryKey) → Moved TakesEntryComma v w → Solid w.unread → (AwaitsEntry v → NotParted w) → NotClosed w → x ≡ w → TakesKey x y k → BeginsEntry v y k
begins {v = v} {w = w} {x = x} k p solid unparted unclosed same keyed = record {
  first = x;
  parted = subst (Moved TakesEntryComma v) (sym same) p;
  solid = subst (λ (z : Walked). Solid z.unread) (sym same) solid;
  stands = stands_first p solid unparted unclosed same;
  keyed = keyed;
}

pub entries_end : {v w x : Walked} → Moved TakesEntryComma v w → Moved Closes w x → Moved EndsEntries v x
entries_end p q = then TakesEntryComma Closes EndsEntries (λ a b c p q. ends_entries a b c p q) p q

pub part_needs : {v : Walked} {e : Error} → (AwaitsEntry v → IsHopeless v) → AwaitsEntry v → NeedsMemory v e
part_needs {v = v} h a = hopeless_needs v (h a)

pub key_needs : {v w x : Walked} {e : Error} → Moved TakesEntryComma v w → Solid w.unread → (AwaitsEntry v → NotParted w) → NotClosed w → x ≡ w → (EntryStands x → NeedsMemory x e) → AwaitsEntry v → NeedsMemory v e
key_needs {v = v} {x = x} p solid unparted unclosed same h a =
    needs_as v x (ap (λ (z : Walked). z.text) same ∙ p.text) (ap (λ (z : Walked). z.limit) same ∙ p.limit) (h (stands_first p solid unparted unclosed same a))

pub front_moves : {v w : Walked} {k : EntryKey} → BeginsEntry v w k → Moved (TakesFront (cow_bytes k.text)) v w
front_moves p = record {
  text = p.keyed.colon.text ∙ p.keyed.name.text ∙ p.parted.text;
  limit = p.keyed.colon.limit ∙ p.keyed.name.limit ∙ p.parted.limit;
  leads = λ s f.
      let (b, at_comma_is, g) = p.parted.leads s f in
      let (c, key_is, h) = p.keyed.name.leads (record { now = b; marked = s.marked }) g in
      let (d, colon_is, i) = p.keyed.colon.leads (record { now = c; marked = s.marked }) h in
      (d, takes_front s.now b c d at_comma_is key_is colon_is, i);
}

-- ---- results

pub on_then : {T E : Type 0} {A B : Type 0} (r : Result T E) → OnOk r A → (A → B) → OnOk r B
on_then (Ok a) p k = k p
on_then (Err e) p k = tt

pub refused_then : {T E : Type 0} {A B : Type 0} (r : Result T E) → OnErr r A → (A → B) → OnErr r B
refused_then (Ok a) p k = tt
refused_then (Err e) p k = k p

pub err_so : {T E : Type 0} {P Q : E → Type 0} (r : Result T E) → IfErr r P → ((e : E) → P e → Q e) → IfErr r Q
err_so (Ok a) p k = tt
err_so (Err e) p k = k e p

-- whether the bracket was closed
pub none_closed : {A : Type 0} (closed : Option OpenBracket) (done : Bool) → done ≡ is_some closed → IfNone closed A → done ≡ false → A
none_closed None done e a h = a
none_closed (Some b) done e a h = let k : true ≡ false = sym e ∙ h in absurd (cc)

pub some_closed : {A : Type 0} (closed : Option OpenBracket) (done : Bool) → done ≡ is_some closed → OnSome closed A → done ≡ true → A
some_closed (Some b) done e a h = a
some_closed None done e a h = let k : true ≡ false = sym h ∙ e in absurd (cc)
