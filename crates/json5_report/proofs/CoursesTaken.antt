-- What a course does with each token.
use Rattle.std.proofs.Common.{◌≡◌, ◌≤◌, ◌<◌, ◌+◌, ◌-◌, ℕ, Bool, true, false, List, [], ◌∷◌, ◌++◌, Option, Some, None, refl, ap, sym, ◌∙◌, subst, arith}
use Rattle.std.specs.Prelude.{◌==◌, ⊤, Result, Ok, Err, IfOk, take, option_to_list}
use Rattle.json5_grammar.specs.Language.Blanks.{Blanks, Gap, Solid}
use Rattle.json5_grammar.specs.Language.Characters.{NotBegun}
use Rattle.json5_grammar.specs.Language.Trees.{Tree}
use Rattle.json5_grammar.specs.Model.Collections.{IsSign, ReadsKey}
use Rattle.json5_grammar.specs.Language.Names.{Key}
use Rattle.json5_grammar.specs.Language.Values.{Reads}
use Rattle.json5_grammar.specs.declared.error_code.ErrorCode.{ErrorCode}
use Rattle.json5_grammar.specs.Model.Reading.{Read, got, bad, Place}
use Rattle.json5_grammar.specs.Model.ReadSteps.{forget}
use Rattle.json5_grammar.specs.Model.ReadValues.{read}
use Rattle.json5_tokens.specs.Cursor.{Cursor, Took, Refused, offset_of}
use Rattle.json5_tokens.specs.Outcome.{bytes_in}
use Rattle.json5_walk.specs.declared.next.Next.{Next}
use Rattle.json5_walk.specs.declared.next.Next.TheVariants as next
use Rattle.json5_walk.specs.Nexts.{takes_value}
use Rattle.json5_types.specs.declared.cow_str.CowStr.{CowStr}
use Rattle.json5_types.specs.Cows.{cow_bytes}
use Rattle.json5_report.specs.declared.course.Crumb.TheVariants as kept
use Rattle.json5_report.specs.declared.course.Open.{Open}
use Rattle.json5_report.specs.declared.course.Course.{Course}
use Rattle.json5_report.specs.Paths.{Crumb, whole, element, member, closing, Step, value, array, object, key, colon, next_element, next_member, closes, Leads, here, further, start_of}
use Rattle.json5_report.specs.Courses.{crumb_of, shown_crumb, crumbs_onto, open_in, Advances, Rests, Turned, NotClosed, AtMost}
use Rattle.json5_grammar.proofs.ArraysRead.{comma_solid}
use Rattle.json5_grammar.proofs.ObjectsRead.{colon_solid, one_reads_key}
use Rattle.json5_grammar.proofs.ValuesSound.{read_sound}
use Rattle.json5_types.specs.declared.error.Error.{Error}
use Rattle.json5_types.specs.Errors.{LacksMemory}
use Rattle.json5_read.specs.ModelSteps.{Gave, RefusesRead, value_at}
use Rattle.json5_tokens.specs.TokenFaults.{FaultyBlanks}
use Rattle.json5_report.proofs.TokensTaken.{step_takes, bytes_joined, fewer_bytes, step_after, step_found, past_first, none_in_blanks, key_split, unsigned, only_value, only_key, only_colon, only_comma, none_at_failed, nothing_else}

-- ---- brackets

pub onto_push : (o : List Crumb) (cs : List Open) (c : Open) → crumbs_onto o (cs ++ c ∷ []) ≡ crumb_of c ∷ crumbs_onto o cs
onto_push o [] c = refl
onto_push o (a ∷ cs) c = onto_push (crumb_of a ∷ o) cs c

-- an object has a key or none
pub object_crumb : (k : Option CowStr) → (name : Option (List ℕ)) × (shown_crumb (kept.Object k) ≡ member name)
object_crumb None = (None, refl)
object_crumb (Some k) = (Some (cow_bytes k), refl)

-- ---- offsets

-- what ends later ends behind the offset too
later : (offset : ℕ) (text y z : List ℕ) → bytes_in z ≤ bytes_in y → offset < start_of text y → offset < start_of text z
later offset text y z l h = omega (arith, l, h)

-- ---- after a gap

module _ (offset : ℕ) (s t : Cursor) (w : List ℕ) (took : Took s w t) (gap : Gap w t.unread) (solid : Solid t.unread) where
  rests_after : (c d : Course) → Rests offset t c d → Rests offset s c d
  rests_after c d r = record {
    same_due = r.same_due;
    same_open = r.same_open;
    last = λ e p y k. subst (λ text. offset < start_of text y) took.same (r.last e p y (step_found w took.split gap solid k));
  }

  advances_after : (u : Cursor) (c d : Course) → Advances offset t c u d → Advances offset s c u d
  advances_after u c d a = record { step = step_after w took.split gap a.step; by = a.by; same = a.same ∙ took.same }

  pub turned_after : (u : Cursor) (c d : Course) (taken : Bool) → Turned offset t c u d taken → Turned offset s c u d taken
  turned_after u c d true h = advances_after u c d h
  turned_after u c d false h = rests_after c d h

  pub turned_after_ok : {X : Type 0} (u : Cursor) (c d : Course) (r : Result Bool X) → IfOk r (Turned offset t c u d) → IfOk r (Turned offset s c u d)
  turned_after_ok u c d (Ok b) h = turned_after u c d b h
  turned_after_ok u c d (Err e) h = tt

pub counted_after : (s t : Cursor) (c : Crumb) (w : List ℕ) → Took s w t → AtMost (offset_of s) c → AtMost (offset_of t) c
counted_after s t whole w took h = tt
counted_after s t (element n) w took h =
    let all : bytes_in s.unread ≡ bytes_in w + bytes_in t.unread = ap bytes_in took.split ∙ bytes_joined w t.unread in
    let same : bytes_in t.input ≡ bytes_in s.input = ap bytes_in took.same in
    omega (arith, all, same, h)
counted_after s t (member u) w took h = tt

-- ---- the whole course

-- each index is at most so much
abbrev pub Below : ℕ → List Crumb → Type 0
Below k [] = ⊤
Below k (whole ∷ o) = Below k o
Below k (element n ∷ o) = (n ≤ k) × Below k o
Below k (member u ∷ o) = Below k o

below_more : (j k : ℕ) (o : List Crumb) → j ≤ k → Below j o → Below k o
below_more j k [] l b = tt
below_more j k (whole ∷ o) l b = below_more j k o l b
below_more j k (element n ∷ o) l (h, b) = (omega (arith, l, h), below_more j k o l b)
below_more j k (member u ∷ o) l b = below_more j k o l b

below_rest : (k : ℕ) (c : Crumb) (o : List Crumb) → Below k (c ∷ o) → Below k o
below_rest k whole o b = b
below_rest k (element n) o (h, b) = b
below_rest k (member u) o b = b

step_below : {d e : Next} {o p : List Crumb} {x y : List ℕ} (j k : ℕ) → j < k → Step d o x e p y → Below j o → Below k p
step_below {o = o} j k l (value t v r) b = below_more j k o (omega (arith, l)) b
step_below {o = o} j k l (array v a) b = (omega arith, below_more j k o (omega (arith, l)) b)
step_below {o = o} j k l (object v a) b = below_more j k o (omega (arith, l)) b
step_below j k l (key {c = c} {o = o} u f r) b = below_more j k o (omega (arith, l)) (below_rest j c o b)
step_below {o = o} j k l (colon a) b = below_more j k o (omega (arith, l)) b
step_below j k l (next_element {n = n} {o = o} a) (h, b) = (omega (arith, l, h), below_more j k o (omega (arith, l)) b)
step_below j k l (next_member {o = o} a) b = below_more j k o (omega (arith, l)) b
step_below j k l (closes {b = b} {c = c} {o = o} s e a) h = below_more j k (c ∷ o) (omega (arith, l)) (below_rest j b (c ∷ o) h)

-- where a course is in a text
pub record IsOn (text : List ℕ) (offset : ℕ) (s : Cursor) (c : Course) : Type 0 where
  pub leads : Leads text c.due (open_in c) s.unread
  pub input : s.input ≡ text
  pub by : offset_of s ≤ offset
  pub room : bytes_in s.unread ≤ bytes_in s.input
  pub below : Below (offset_of s) (open_in c)

pub starts_on : (offset : ℕ) (c : Course) (text : List ℕ) (s : Cursor) → s.input ≡ text → s.unread ≡ text → c.due ≡ next.Value → open_in c ≡ whole ∷ [] → IsOn text offset s c
starts_on offset c text s i u d o = record {
  leads = subst (λ z. Leads text z (open_in c) s.unread) (sym d) (subst (λ z. Leads text next.Value z s.unread) (sym o) (subst (λ z. Leads text next.Value (whole ∷ []) z) (sym u) here));
  input = i;
  by = let a : bytes_in s.input ≡ bytes_in text = ap bytes_in i in let b : bytes_in s.unread ≡ bytes_in text = ap bytes_in u in omega (arith, a, b);
  room = let a : bytes_in s.input ≡ bytes_in text = ap bytes_in i in let b : bytes_in s.unread ≡ bytes_in text = ap bytes_in u in omega (arith, a, b);
  below = subst (λ z. Below (offset_of s) z) (sym o) tt;
}

pub goes_on : (text : List ℕ) (offset : ℕ) (s t : Cursor) (c d : Course) → IsOn text offset s c → Advances offset s c t d → IsOn text offset t d
goes_on text offset s t c d w a =
    let few : bytes_in t.unread + 1 ≤ bytes_in s.unread = fewer_bytes (step_takes a.step) in
    let same : bytes_in t.input ≡ bytes_in s.input = ap bytes_in a.same in
    record {
      leads = further w.leads a.step;
      input = a.same ∙ w.input;
      by = a.by;
      room = omega (arith, few, same, w.room);
      below = step_below (offset_of s) (offset_of t) (omega (arith, few, same, w.room)) a.step w.below;
    }

-- what was read as a value isn't read otherwise
pub same_rest : (m : Read Tree) (t : Tree) (y z : List ℕ) → forget m ≡ got tt y → m ≡ got t z → bytes_in z ≤ bytes_in y
same_rest m t y z a b = let k : got tt z ≡ got tt y = sym (ap forget b) ∙ a in let same : z ≡ y = cc in omega (arith, ap bytes_in same)

-- ---- each call

-- where a comment is at fault
pub rests_in_blanks : (offset : ℕ) (s : Cursor) (c : Course) {e : Error} → Refused FaultyBlanks s e → Rests offset s c c
rests_in_blanks offset s c r = record { same_due = refl; same_open = refl; last = λ e p y k. absurd (none_in_blanks r.fault k) }

-- no token leads further
abbrev pub NoStep : Cursor → Course → Type 0
NoStep s c = (e : Next) (p : List Crumb) (y : List ℕ) → Step c.due (open_in c) s.unread e p y → ⊥

-- a token leaves no more than r
abbrev pub AllPast : Cursor → Course → List ℕ → Type 0
AllPast s c r = (e : Next) (p : List Crumb) (y : List ℕ) → Step c.due (open_in c) s.unread e p y → bytes_in y ≤ bytes_in r

-- nothing was taken, since no token is there
pub rests : (offset : ℕ) (s : Cursor) (c : Course) → NoStep s c → Rests offset s c c
rests offset s c none = record { same_due = refl; same_open = refl; last = λ e p y k. absurd (none e p y k) }

-- nothing was taken, since each token ends behind the offset
pub rests_later : (offset : ℕ) (s t : Cursor) (c : Course) → offset < offset_of t → t.input ≡ s.input → AllPast s c t.unread → Rests offset s c c
rests_later offset s t c h same all = record {
  same_due = refl;
  same_open = refl;
  last = λ e p y k. later offset s.input t.unread y (all e p y k) (subst (λ text. offset < start_of text t.unread) same h);
}

-- a sign in front is past by each token
pub past_sign : (s t : Cursor) (c : Course) (k : ℕ) → Took s (k ∷ []) t → AllPast s c t.unread
past_sign s t c k took e p y h = past_first k t.unread took.split h

module _ (offset : ℕ) (s t : Cursor) (c d : Course) where
  -- a token was taken, which leads here
  pub advances : (e : Next) (o : List Crumb) → Step c.due (open_in c) s.unread e o t.unread → d.due ≡ e → open_in d ≡ o → offset_of t ≤ offset → t.input ≡ s.input → Advances offset s c t d
  advances e o k a b l i = record {
    step = subst (λ z. Step c.due (open_in c) s.unread z (open_in d) t.unread) (sym a) (subst (λ z. Step c.due (open_in c) s.unread e z t.unread) (sym b) k);
    by = l;
    same = i;
  }

  pub opened : {X : Type 0} (e : Next) (k : Crumb) (r : Result Bool X) → Step c.due (open_in c) s.unread e (k ∷ open_in c) t.unread → offset_of t ≤ offset → t.input ≡ s.input
      → IfOk r (λ b. (b ≡ true) × (d.due ≡ e) × (open_in d ≡ k ∷ open_in c)) → IfOk r (Turned offset s c t d)
  opened e k (Ok true) h l i (b, x, y) = advances e (k ∷ open_in c) h x y l i
  opened e k (Ok false) h l i (b, x, y) = absurd (cc)
  opened e k (Err z) h l i x = tt

-- what was eaten is the sign in front
pub eaten : (s t : Cursor) (k : ℕ) → Took s (k ∷ []) t → IsSign k s.unread t.unread
eaten s t k took = record { front = []; split = took.split; blank = Blanks.empty }

-- ---- closing brackets

same_sign : (d : Next) (b : Crumb) (k s : ℕ) → closing d b ≡ Some s → closing d b ≡ Some k → s ≡ k
same_sign d b k s e f = let h : Some s ≡ Some k = sym e ∙ f in cc

pub closed : (offset : ℕ) (s t : Cursor) (c d : Course) (inner : Open) (left : List Open) (k : ℕ) → closing c.due (crumb_of c.inner) ≡ Some k → Took s (k ∷ []) t → offset_of t ≤ offset
    → c.outer.items ≡ left ++ inner ∷ [] → d.due ≡ next.Comma → open_in d ≡ crumb_of inner ∷ crumbs_onto [] left → Advances offset s c t d
closed offset s t c d inner left k e took l o a b =
    let was : open_in c ≡ crumb_of c.inner ∷ crumb_of inner ∷ crumbs_onto [] left = ap (λ z. crumb_of c.inner ∷ z) (ap (crumbs_onto []) o ∙ onto_push [] left inner) in
    advances offset s t c d next.Comma (crumb_of inner ∷ crumbs_onto [] left) (subst (λ z. Step c.due z s.unread next.Comma (crumb_of inner ∷ crumbs_onto [] left) t.unread) (sym was) (closes k e (eaten s t k took))) a b l took.same

pub none_popped : (old left : List Open) (r : Option Open) (n : ℕ) → r ≡ None → old ≡ left ++ option_to_list r → left ≡ take (n - 1) old → n ≡ 0 → (old ≡ []) × (left ≡ [])
none_popped old left r n none items rest zero =
    let empty : left ≡ [] = rest ∙ ap (λ k. take (k - 1) old) zero in
    (items ∙ ap (λ z. left ++ option_to_list z) none ∙ ap (λ z. z ++ []) empty, empty)

-- with no bracket around it there is none to close
pub unclosable : (s t : Cursor) (c : Course) (k : ℕ) → closing c.due (crumb_of c.inner) ≡ Some k → Took s (k ∷ []) t → c.outer.items ≡ [] → NoStep s c
unclosable s t c k e took o f p y h = nothing_else k e (ap (λ z. crumb_of c.inner ∷ crumbs_onto [] z) o) (eaten s t k took) h

-- ---- values and keys

forgotten : (m : Read Tree) (r : List ℕ) → forget m ≡ got tt r → (t : Tree) × (m ≡ got t r)
forgotten (got t q) r e = let same : q ≡ r = cc in (t, ap (got t) same)
forgotten (bad c p) r e = absurd (cc)

-- a value was passed over
pub passed : (s t : Cursor) → Gave (value_at 128 s) tt s t → (v : Tree) × Reads s.unread v t.unread
passed s t g =
    let (v, is) = forgotten (read 128 s.unread) t.unread g.reads in
    let (p, split, val, st, l) = read_sound 128 s.unread t.unread v is in
    (v, record { front = []; phrase = p; split = split; blank = Blanks.empty; value = val; stops = st })

unread_value : (m : Read Tree) (t : Tree) (z : List ℕ) (c : Option ErrorCode) (p : Place) → forget m ≡ bad c p → m ≡ got t z → ⊥
unread_value m t z c p a b = let k : got tt z ≡ bad c p = sym (ap forget b) ∙ a in absurd (cc)

module _ (s : Cursor) (c : Course) (solid : Solid s.unread) (shut : NotClosed s c) where
  pub no_value : {r : Error} {input : List ℕ} → takes_value c.due ≡ true → NotBegun (λ h. h == 91) s.unread → NotBegun (λ h. h == 123) s.unread → RefusesRead input (value_at 128 s) r → NoStep s c
  no_value v a b r e p y k = let (t, is) = only_value v solid a b shut k in unread_value (read 128 s.unread) t y r.reason r.place r.is_bad is

  pub value_left : (t : Cursor) → takes_value c.due ≡ true → NotBegun (λ h. h == 91) s.unread → NotBegun (λ h. h == 123) s.unread → Gave (value_at 128 s) tt s t → AllPast s c t.unread
  value_left t v a b g e p y k = let (w, is) = only_value v solid a b shut k in same_rest (read 128 s.unread) w t.unread y g.reads is

  pub no_key : {r : Error} → c.due ≡ next.Key → ((k u z : List ℕ) (f : Bool) → s.unread ≡ k ++ z → Key k z u f → LacksMemory r) → (LacksMemory r → ⊥) → NoStep s c
  no_key is complete fits e p y k =
      let (u, f, there) = only_key is solid shut k in
      let found = key_split s.unread y u f solid there in
      fits (complete found.0 u y f found.1 found.2)

  pub key_left : (t : Cursor) (u : List ℕ) (f : Bool) → c.due ≡ next.Key → ReadsKey s.unread u f t.unread → AllPast s c t.unread
  key_left t u f is there e p y k =
      let (v, g, other) = only_key is solid shut k in
      let same = one_reads_key s.unread t.unread y u v f g there other in
      omega (arith, ap bytes_in same.2)

  pub no_comma : c.due ≡ next.Comma → NotBegun (λ h. h == 44) s.unread → NoStep s c
  no_comma is n e p y k = unsigned 44 s.unread y comma_solid solid n (only_comma is solid shut k).0

pub no_colon : (s : Cursor) (c : Course) → Solid s.unread → c.due ≡ next.Colon → NotBegun (λ h. h == 58) s.unread → NoStep s c
no_colon s c solid is n e p y k = unsigned 58 s.unread y colon_solid solid n (only_colon is k)

pub none_left : (s : Cursor) (c : Course) → c.due ≡ next.Failed → NoStep s c
none_left s c is e p y k = none_at_failed is k

pub key_read : (s t : Cursor) (u : List ℕ) (f : Bool) (k : List ℕ) → Took s k t → Key k t.unread u f → ReadsKey s.unread u f t.unread
key_read s t u f k took is = record { front = []; spelling = k; split = took.split; blank = Blanks.empty; key = is }

pub key_refused : {X : Type 0} {e : Error} (offset : ℕ) (s t : Cursor) (c d : Course) (r : Result Bool X) → IfOk r (λ taken. (taken ≡ false) × (LacksMemory e → ⊥)) → ((LacksMemory e → ⊥) → Rests offset s c d) → IfOk r (Turned offset s c t d)
key_refused offset s t c d (Ok false) (is, fits) h = h fits
key_refused offset s t c d (Ok true) (is, fits) h = absurd (cc)
key_refused offset s t c d (Err x) n h = tt
