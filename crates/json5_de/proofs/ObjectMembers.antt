-- An object as a whole, while its members are read: what was read of it, and what is left.
use Rattle.std.proofs.Common.{◌≡◌, ℕ, ◌+◌, ◌-◌, ◌<◌, ◌≤◌, Bool, true, false, List, ◌∷◌, refl, sym, ap, ◌∙◌, subst, arith, Option, Some, None, Result, Ok, Err, inl, inr}
use Rattle.std.specs.Prelude.{IfOk}
use Rattle.json5_grammar.specs.Language.Trees.{Tree, Members, object, no_member, member, depth, member_depths}
use Rattle.json5_grammar.specs.Language.Values.{Reads}
use Rattle.json5_grammar.specs.Language.Documents.{max_depth}
use Rattle.json5_grammar.specs.Model.Collections.{OpensObject, IsKey, IsKeyValue, IsBrace, MembersPassed, MembersTail, snoc_member}
use Rattle.json5_grammar.proofs.ObjectsRead.{brace_solid, opening_brace_solid, one_opening_brace, one_brace, one_key, one_key_value, key_or_brace, brace_closes, found_brace, brace_found, pairs_more, object_front, object_closed, shallow_snoc_pair}
use Rattle.json5_types.specs.declared.error.Error.{Error}
use Rattle.json5_de.specs.State.{State, GivesUp}
use Rattle.json5_de.specs.DeserializeLaw.{TookValue}
use Rattle.json5_de.specs.Keys.{KeyConversion}
use Rattle.json5_read.specs.declared.brackets.BracketKind.{BracketKind}
use Rattle.json5_read.specs.declared.brackets.BracketKind.TheVariants as kind
use Rattle.json5_de.specs.BracketSigns.{AreSigns}
use Rattle.json5_read.specs.Brackets.{curly, brackets_of}
use Rattle.json5_de.proofs.BracketSteps.{square_signs}
use Rattle.json5_de.specs.Arrays.{AccessState, Opened, Closed, AtClose, OpensAs, ClosesAs, CompletesClose}
use Rattle.json5_de.specs.Objects.{MapAccessState, TookMemberKey, TookMemberValue, GivesMemberKey, GivesMemberValue, CompletesMemberKey, CompletesEscapeFreeMember, CompletesMemberValue, CompletesFreeMemberValue, ReadsKeyFree, ReadsValueFree, ReadsMemberKey, ReadsMemberValue, MembersRead, MembersLeft, LeftAfter, ReadsAKey, ReadsAMember, LeavesAValue, LeavesObjectMembers, OpensMap, ClosesMap}
use Rattle.json5_de.proofs.ReadSteps.{input_of}
use Rattle.json5_de.proofs.OpenClose.{opens_same, opens_too, closes}
use Rattle.json5_de.proofs.ArrayElements.{still_live, same_level, only_after, more_and_less}

-- an object's brackets
pub curly_signs : AreSigns curly
curly_signs = record {
  opening = opening_brace_solid;
  closing = brace_solid;
  no_comma = refl;
  other_ends = λ e. absurd (cc);
  other_not_opened = λ e. absurd (cc);
  other_not_closed = λ e. absurd (cc);
}

-- of each kind
pub signs_of : (k : BracketKind) → AreSigns (brackets_of k)
signs_of kind.Array = square_signs
signs_of kind.Object = curly_signs

-- ---- what was read

-- nothing, where the object was opened
pub opened_read : (old : State) (first : MapAccessState) → first.at.comma_due ≡ false → first.pending ≡ false → Opened curly old first.at.reader → MembersRead old no_member None first
opened_read old first comma_due none o = record {
  live = o.live;
  shallow = let room = o.room in omega (arith, room);
  inside = first.at.reader.unread;
  bracket = o.bracket;
  after = first.at.reader.unread;
  passed = (sym comma_due, refl);
  here = inl refl;
  pending = none;
  rest = o.rest;
}

-- the reader is in front of the key, since no closing brace is next
key_after : (from : State) (old : MapAccessState) (ps : Members) (u : List ℕ) (escape_free : Bool) (y : List ℕ) → (e : MembersRead from ps None old) → IsKey old.at.comma_due old.at.reader.unread u escape_free y → IsKey old.at.comma_due e.after u escape_free y
key_after from old ps u escape_free y e is = elim e.here [
  | inl same ↦ subst (λ x. IsKey old.at.comma_due x u escape_free y) same is
  | inr at ↦ let (q, close) = found_brace old.at.comma_due old.at.comma_due e.after old.at.reader.unread at in absurd (key_or_brace old.at.comma_due old.at.reader.unread y q u escape_free is close)
]

pub key_read : (from : State) (old new : MapAccessState) (ps : Members) (u : List ℕ) (escape_free : Bool) → TookMemberKey old.at.comma_due old.at.reader u escape_free new.at.reader → new.at.comma_due ≡ old.at.comma_due → new.pending ≡ true → MembersRead from ps None old → MembersRead from ps (Some (u, escape_free)) new
key_read from old new ps u escape_free took comma_due pending e = record {
  live = e.live;
  shallow = e.shallow;
  inside = e.inside;
  bracket = e.bracket;
  after = e.after;
  passed = subst (λ b. MembersPassed ps false e.inside b e.after) (sym comma_due) e.passed;
  here = subst (λ b. IsKey b e.after u escape_free new.at.reader.unread) (sym comma_due) (key_after from old ps u escape_free new.at.reader.unread e took.key);
  pending = pending;
  rest = only_after from old.at.reader new.at.reader e.rest took.rest;
}

brace_after : (from : State) (old : MapAccessState) (ps : Members) (r : List ℕ) → (e : MembersRead from ps None old) → IsBrace old.at.comma_due old.at.reader.unread r → IsBrace old.at.comma_due e.after r
brace_after from old ps r e is = elim e.here [
  | inl same ↦ subst (λ x. IsBrace old.at.comma_due x r) same is
  | inr at ↦ brace_found old.at.comma_due old.at.comma_due e.after old.at.reader.unread r at is
]

-- no key was read, and the closing brace is next
brace_read : (from : State) (old new : MapAccessState) (ps : Members) → AtClose curly old.at.comma_due old.at.reader new.at.reader → new.at.comma_due ≡ old.at.comma_due → new.pending ≡ false → MembersRead from ps None old → MembersRead from ps None new
brace_read from old new ps at comma_due pending e =
    let (r, close, next) = at.close in
    record {
      live = e.live;
      shallow = e.shallow;
      inside = e.inside;
      bracket = e.bracket;
      after = e.after;
      passed = subst (λ b. MembersPassed ps false e.inside b e.after) (sym comma_due) e.passed;
      here = inr (r, subst (λ b. IsBrace b e.after r) (sym comma_due) (brace_after from old ps r e close), next);
      pending = pending;
      rest = only_after from old.at.reader new.at.reader e.rest at.rest;
    }

inside_level : (from : State) (now : MapAccessState) (ps : Members) (key : Option (List ℕ × Bool)) → MembersRead from ps key now → now.at.reader.level ≡ from.level + 1
inside_level from now ps key e = ap (λ (m : State). m.level) e.rest

-- the value of the key was read, one member more
pub pair_read : (from : State) (old new : MapAccessState) (ps : Members) (u : List ℕ) (escape_free : Bool) (t : Tree) → TookMemberValue old.at.reader t new.at.reader → new.at.comma_due ≡ true → new.pending ≡ false
    → MembersRead from ps (Some (u, escape_free)) old → MembersRead from (snoc_member ps u escape_free t) None new
pair_read from old new ps u escape_free t took comma_due pending e = record {
  live = e.live;
  shallow = let level = inside_level from old ps (Some (u, escape_free)) e in let deep = took.shallow in let high = e.shallow in
      let both = shallow_snoc_pair ps u escape_free t (from.level + 1) max_depth (omega (arith, high)) (omega (arith, deep, level)) in omega (arith, both);
  inside = e.inside;
  bracket = e.bracket;
  after = new.at.reader.unread;
  passed = subst (λ b. MembersPassed (snoc_member ps u escape_free t) false e.inside b new.at.reader.unread) (sym comma_due)
      (pairs_more ps false old.at.comma_due e.inside e.after old.at.reader.unread new.at.reader.unread u escape_free t e.passed e.here took.value);
  here = inl refl;
  pending = pending;
  rest = only_after from old.at.reader new.at.reader e.rest took.rest;
}

-- the whole object
pub all_read : (from : State) (last : MapAccessState) (new : State) (ps : Members) → Closed curly last.at.comma_due last.at.reader new → MembersRead from ps None last → TookValue from (object ps) new
all_read from last new ps c e = record {
  live = e.live;
  reads = object_closed from.unread e.inside e.after new.unread ps last.at.comma_due e.bracket e.passed (brace_after from last ps new.unread e c.close);
  shallow = e.shallow;
  rest = c.rest
      ∙ ap (λ (m : State). record m { unread = new.unread; level = m.level - 1 }) e.rest
      ∙ ap (λ n. record from { unread = new.unread; level = n }) (more_and_less from.level);
}

-- what a call for a key reads
pub reads_a_key : {K C : Type 0} (content : K → C) (convert : KeyConversion C) (old new : MapAccessState) (o : Option K) → GivesMemberKey content convert old new o → ReadsAKey content convert old new o
reads_a_key content convert old new (Some k) (u, escape_free, took, is, comma_due, pending) = (u, escape_free, is, λ from ps e. key_read from old new ps u escape_free took comma_due pending e)
reads_a_key content convert old new None (at, comma_due, pending) = λ from ps e. brace_read from old new ps at comma_due pending e

-- and a call for a value
pub reads_a_pair : {V C : Type 0} (content : V → C) (convert : Tree → Option C) (old new : MapAccessState) (v : V) → GivesMemberValue content convert old new v → ReadsAMember content convert old new v
reads_a_pair content convert old new v (t, took, is, comma_due, pending) = (t, is, λ from ps u escape_free e. pair_read from old new ps u escape_free t took comma_due pending e)

-- ---- what is left

pub object_opens : (old : State) (ps : Members) (r : List ℕ) → Reads old.unread (object ps) r → old.level + depth (object ps) ≤ max_depth → (y : List ℕ) × OpensObject old.unread y × (old.level < max_depth)
object_opens old ps r reads shallow = let (y, opens, tail) = object_front old.unread r ps reads in (y, opens, omega (arith, shallow))

-- all members are left after the object was opened
pub opened_left : (old : State) (first : MapAccessState) (ps : Members) (r : List ℕ) → first.at.comma_due ≡ false → first.pending ≡ false → Opened curly old first.at.reader → Reads old.unread (object ps) r → old.level + depth (object ps) ≤ max_depth → MembersLeft ps r first
opened_left old first ps r none no_key o reads shallow =
    let (y, bracket, tail) = object_front old.unread r ps reads in
    let level = ap (λ (m : State). m.level) o.rest in
    record {
      live = ap (λ (m : State). m.failed) o.rest ∙ o.live;
      shallow = omega (arith, level, shallow);
      tail = subst (λ p. LeftAfter p ps first.at.comma_due first.at.reader.unread r) (sym no_key)
          (subst (λ b. MembersTail ps b first.at.reader.unread r) (sym none) (subst (λ k. MembersTail ps false k r) (one_opening_brace old.unread y first.at.reader.unread bracket o.bracket) tail));
    }

-- a key without an escape that is next is that of the first of the members that are left
pub key_free : {V : Type 0} (old : MapAccessState) (result : Result V Error) → old.pending ≡ false → CompletesEscapeFreeMember old result → ReadsKeyFree old result
key_free old result none free u t ps r e = let (y, z, key, value, tail) = subst (λ p. LeftAfter p (member u true t ps) old.at.comma_due old.at.reader.unread r) none e.tail in free u y e.live key

-- and so is the value of a key that was read
pub value_free : {V C : Type 0} (convert : Tree → Option C) (allocation_free : Tree → Bool) (old : MapAccessState) (result : Result V Error) → old.pending ≡ true → CompletesFreeMemberValue convert allocation_free old result → ReadsValueFree convert allocation_free old result
value_free convert allocation_free old result key free u escape_free t ps r c e is spare =
    let (z, value, tail) = subst (λ p. LeftAfter p (member u escape_free t ps) old.at.comma_due old.at.reader.unread r) key e.tail in
    let deep = e.shallow in
    free t z c e.live value (omega (arith, deep)) is spare

-- what a call for a key leaves
pub leaves_a_value : {K C : Type 0} (content : K → C) (convert : KeyConversion C) (old new : MapAccessState) (result : Result (Option K) Error) → old.pending ≡ false → IfOk result (GivesMemberKey content convert old new) → CompletesMemberKey convert old result
    → CompletesClose curly old.at result → (ps : Members) (r : List ℕ) → MembersLeft ps r old → LeavesAValue content convert ps r new result
leaves_a_value {K = K} content convert old new result none gives complete closing ps r e = by result ps gives complete closing e.live e.shallow (subst (λ p. LeftAfter p ps old.at.comma_due old.at.reader.unread r) none e.tail)
  where
    by : (result : Result (Option K) Error) (ps : Members) → IfOk result (GivesMemberKey content convert old new) → CompletesMemberKey convert old result → CompletesClose curly old.at result → old.at.reader.failed ≡ false
        → old.at.reader.level + member_depths ps ≤ max_depth → MembersTail ps old.at.comma_due old.at.reader.unread r → LeavesAValue content convert ps r new result
    by (Ok None) no_member (at, comma_due, pending) complete closing live shallow tail =
        let (q, close, next) = at.close in
        let level = same_level old.at.reader new.at.reader at.rest in
        record {
          live = still_live old.at.reader new.at.reader live at.rest;
          shallow = omega (arith, level, shallow);
          tail = subst (λ p. LeftAfter p no_member new.at.comma_due new.at.reader.unread r) (sym pending)
              (subst (λ x. IsBrace new.at.comma_due x r) (sym next) (subst (λ k. IsBrace new.at.comma_due (125 ∷ k) r) (one_brace old.at.comma_due old.at.reader.unread r q tail close) (brace_closes new.at.comma_due r)));
        }
    by (Ok (Some k)) no_member (u, escape_free, took, is, comma_due, pending) complete closing live shallow tail = absurd (key_or_brace old.at.comma_due old.at.reader.unread new.at.reader.unread r u escape_free took.key tail)
    by (Err f) no_member gives complete closing live shallow tail = let ok = closing r live tail in absurd (cc)
    by (Ok None) (member u escape_free t ps) (at, comma_due, pending) complete closing live shallow (y, z, key, value, tail) = let (q, close, next) = at.close in absurd (key_or_brace old.at.comma_due old.at.reader.unread y q u escape_free key close)
    by (Ok (Some k)) (member u escape_free t ps) (v, allocation_free, took, is, comma_due, pending) complete closing live shallow (y, z, key, value, tail) =
        let (same, mark, here) = one_key old.at.comma_due old.at.reader.unread y new.at.reader.unread u v escape_free allocation_free key took.key in
        let level = same_level old.at.reader new.at.reader took.rest in (
          subst (λ w. convert w escape_free ≡ Some (content k)) (sym same) (subst (λ p. convert v p ≡ Some (content k)) (sym mark) is),
          record {
            live = still_live old.at.reader new.at.reader live took.rest;
            shallow = omega (arith, level, shallow);
            tail = subst (λ p. LeftAfter p (member u escape_free t ps) new.at.comma_due new.at.reader.unread r) (sym pending) (z, subst (λ x. IsKeyValue x t z) here value, tail);
          },
        )
    by (Err f) (member u escape_free t ps) gives complete closing live shallow (y, z, key, value, tail) = λ c same. complete u escape_free y c live key same

-- what a call for a value leaves
pub leaves_pairs : {V C : Type 0} (content : V → C) (convert : Tree → Option C) (old new : MapAccessState) (result : Result V Error) → old.pending ≡ true → IfOk result (GivesMemberValue content convert old new) → CompletesMemberValue convert old result
    → (u : List ℕ) (escape_free : Bool) (t : Tree) (ps : Members) (r : List ℕ) → MembersLeft (member u escape_free t ps) r old → LeavesObjectMembers content convert t ps r new result
leaves_pairs content convert old new (Ok v) key (s, took, is, comma_due, pending) complete u escape_free t ps r e =
    let (z, value, tail) = subst (λ p. LeftAfter p (member u escape_free t ps) old.at.comma_due old.at.reader.unread r) key e.tail in
    let (same, here) = one_key_value old.at.reader.unread z new.at.reader.unread t s value took.value in
    let level = same_level old.at.reader new.at.reader took.rest in
    let shallow = e.shallow in (
      subst (λ k. convert k ≡ Some (content v)) (sym same) is,
      record {
        live = still_live old.at.reader new.at.reader e.live took.rest;
        shallow = omega (arith, level, shallow);
        tail = subst (λ p. LeftAfter p ps new.at.comma_due new.at.reader.unread r) (sym pending) (subst (λ d. MembersTail ps d new.at.reader.unread r) (sym comma_due) (subst (λ x. MembersTail ps true x r) here tail));
      },
    )
leaves_pairs content convert old new (Err f) key gives complete u escape_free t ps r e = λ c same.
    let (z, value, tail) = subst (λ p. LeftAfter p (member u escape_free t ps) old.at.comma_due old.at.reader.unread r) key e.tail in
    let deep = e.shallow in
    complete t z c e.live value (omega (arith, deep)) same

-- only one key can be read there, so what is returned is its content
pub reads_pair_key : {K C : Type 0} (content : K → C) (convert : KeyConversion C) (old new : MapAccessState) (o : Option K) → GivesMemberKey content convert old new o → ReadsMemberKey content convert old (Ok o)
reads_pair_key content convert old new (Some k) (v, allocation_free, took, is, comma_due, pending) u escape_free r c live key converts =
    let (same, mark, here) = one_key old.at.comma_due old.at.reader.unread r new.at.reader.unread u v escape_free allocation_free key took.key in
    sym (subst (λ w. convert w escape_free ≡ Some (content k)) (sym same) (subst (λ p. convert v p ≡ Some (content k)) (sym mark) is)) ∙ converts
reads_pair_key content convert old new None (at, comma_due, pending) u escape_free r c live key converts = let (q, close, next) = at.close in absurd (key_or_brace old.at.comma_due old.at.reader.unread r q u escape_free key close)

-- and one value
pub reads_pair_value : {V C : Type 0} (content : V → C) (convert : Tree → Option C) (old new : MapAccessState) (v : V) → GivesMemberValue content convert old new v → ReadsMemberValue content convert old (Ok v)
reads_pair_value content convert old new v (s, took, is, comma_due, pending) t r c live value shallow converts = let (same, rest) = one_key_value old.at.reader.unread r new.at.reader.unread t s value took.value in cc (same, is, converts)

-- ---- a maker

-- what opened a brace opened an object, seen in another way
pub opens_map : {A B : Type 0} {Held : B → Type 0} (see : A → AccessState) (state_of : B → MapAccessState) (old : State) (a : A) (b : B) → Held b → see a ≡ (state_of b).at → (state_of b).pending ≡ false → OpensAs curly see old (Ok a) → OpensMap Held state_of old (Ok b)
opens_map see state_of old a b held same no_key o =
    let o : OpensAs curly (λ b. (state_of b).at) old (Ok b) = opens_same curly see (λ b. (state_of b).at) old a b same o in
    let (opened, comma_due) = o.opened in
    record {
      held = held;
      bracket = o;
      no_key = no_key;
      same_text = input_of opened.rest;
      read = opened_read old (state_of b) comma_due no_key opened;
      left = λ ps r live reads shallow. opened_left old (state_of b) ps r comma_due no_key opened reads shallow;
    }

pub refuses_map : {A B : Type 0} {Held : B → Type 0} (see : A → AccessState) (state_of : B → MapAccessState) (old : State) (e : Error) → OpensAs curly see old (Err e) → OpensMap Held state_of old (Err e)
refuses_map see state_of old e o = record {
  held = tt;
  bracket = opens_too curly see (λ b. (state_of b).at) old e o;
  no_key = tt;
  same_text = tt;
  read = tt;
  left = λ ps r live reads shallow. let (y, opens, room) = object_opens old ps r reads shallow in let ok = o.complete y live opens room in absurd (cc);
}

-- ---- the end

pub closes_map : (old : MapAccessState) (new : State) → Closed curly old.at.comma_due old.at.reader new → ClosesMap old new (Ok tt)
closes_map old new c = record {
  bracket = closes curly curly_signs old.at.comma_due old.at.reader new c;
  same_text = input_of c.rest;
  failed = tt;
  read = λ from ps e. all_read from old new ps c e;
  left = λ r none e. refl;
}

pub refuses_map_end : (old : MapAccessState) (new : State) (e : Error) → GivesUp old.at.reader new → ClosesAs curly old.at.comma_due old.at.reader new (Err e) → ClosesMap old new (Err e)
refuses_map_end old new e failed c = record {
  bracket = c;
  same_text = failed.same_text;
  failed = failed.failed;
  read = tt;
  left = λ r none k. c.complete r k.live (subst (λ p. LeftAfter p no_member old.at.comma_due old.at.reader.unread r) none k.tail);
}
