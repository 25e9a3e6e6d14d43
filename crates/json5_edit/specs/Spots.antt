-- Where an entry stands in the text of a collection, and where one more may stand.
-- A promise rests on this.
use Rattle.std.specs.declared.alloc.Global.{Global}
use Rattle.std.specs.Prelude.{◌≡◌, ◌⊎◌, ℕ, ◌+◌, ◌-◌, ◌≤◌, IfOk, Result, String, string_bytes, Bool, true, false, List, [], ◌∷◌, ◌++◌, length, Option, Some, None, MatchOption, take, ⊤}
use Rattle.std.specs.Str.{chars, IsUtf8, encode_utf8_all}
use Rattle.json5_grammar.specs.Language.Blanks.{Blanks, Gap, LastBlanks, Solid}
use Rattle.json5_grammar.specs.Language.Characters.{comma_sign, colon_sign}
use Rattle.json5_grammar.specs.Language.Documents.{max_depth}
use Rattle.json5_grammar.specs.Language.Trees.{Tree, null, boolean, number, text, array, object, Trees, Members, more, no_member, member, depth}
use Rattle.json5_grammar.specs.Language.Values.{Val, KeyText, Reads}
use Rattle.json5_grammar.specs.Model.Collections.{IsKeyValue, Tail, MembersTail, joined_trees, joined_members}
use Rattle.json5_lexemes.specs.Plain.{KeepsPlain, StaysPlain}
use Rattle.json5_tokens.specs.Cursor.{Cursor, Took}
use Rattle.json5_tokens.specs.Outcome.{bytes_in}
use Rattle.json5_read.specs.declared.brackets.BracketKind.{BracketKind as Kind}
use Rattle.json5_read.specs.declared.brackets.BracketKind.TheVariants as kind
use Rattle.json5_walk.specs.Frames.{Frame, value_end, Spells, At, at_value, at_element, at_key, at_colon, at_comma}
use Rattle.json5_walk.specs.Entries.{is_inside}
use Rattle.json5_walk.specs.Seams.{WholeTokens}
use Rattle.json5_walk.specs.Walks.{Walked, IsAt}
use Rattle.json5_edit.specs.Changes.{ChangesBy, Gains, GainsMember, StaysPlainQuoted}
use Rattle.json5_edit.specs.Comparing.{LacksKey, GoesTo, ComesBetween, IsWithout, IsWithLast, step_kind, step_key}
use Rattle.json5_edit.specs.Entries.{entries, kind_of, read_in, around}
use Rattle.json5_edit.specs.Pieces.{CutsWith, Grows, IsEnd, IsEntryText, IsName}
use Rattle.json5_edit.specs.Places.{IsValue}
use Rattle.json5_edit_style.specs.declared.collection.Collection.{Collection}
use Rattle.json5_edit.specs.declared.belongings.Lead.{Lead}
use Rattle.json5_edit.specs.declared.paths.Before.{Before}
use Rattle.json5_edit.specs.declared.paths.Before.TheVariants as before_place
use Rattle.json5_edit.specs.declared.paths.Step.{Step}
use Rattle.json5_edit.specs.declared.paths.Step.TheVariants as step
use Rattle.json5_edit.specs.declared.plain.CommaSpan.{CommaSpan}
use Rattle.json5_edit.specs.declared.plain.End.{End}
use Rattle.json5_edit.specs.declared.plain.EntryLen.{EntryLen}
use Rattle.json5_edit.specs.declared.survey.Found.{Found}
use Rattle.json5_edit.specs.declared.survey.Survey.{Survey}

-- x goes on with the entries of this collection and its closing bracket, and ends there; before them a comma is due or
-- not
abbrev pub Goes : Bool → Tree → List ℕ → Type 0
Goes due (array us) x = Tail us due x []
Goes due (object qs) x = MembersTail qs due x []
Goes due null x = ⊥
Goes due (boolean b) x = ⊥
Goes due (number n) x = ⊥
Goes due (text u escape_free) x = ⊥

-- the collection with the entries of both
abbrev pub joined : Tree → Tree → Tree
joined (array ts) (array us) = array (joined_trees ts us)
joined (object ps) (object qs) = object (joined_members ps qs)
joined t u = t

-- at the offset n of a text, which is one value, the entries of t have come as whole tokens, and a comma is due before
-- the next or not: whatever may go on there makes what comes before the offset a value
pub record Spot (limit : ℕ) (bytes : List ℕ) (t : Tree) (due : Bool) (n : ℕ) : Type 0 where
  pub front : List ℕ
  pub rest : List ℕ
  pub split : chars bytes ≡ front ++ rest
  pub starts : n ≡ bytes_in front
  pub passed : WholeTokens due front
  pub goes : (u : Tree) (z : List ℕ) → kind_of u ≡ kind_of t → Goes due u z → depth u ≤ limit → Spells value_end limit (front ++ z) (joined t u)
  pub back : (w : Tree) → Spells value_end limit (chars bytes) w → (u : Tree) × (kind_of u ≡ kind_of t) × Goes due u rest × (depth u ≤ limit) × (w ≡ joined t u)

-- ---- what a walk finds

-- a comma is due before an entry
abbrev pub awaits_comma : At → Bool
awaits_comma (at_value o) = false
awaits_comma (at_element ts o) = false
awaits_comma (at_key ps o) = false
awaits_comma (at_colon ps u escape_free o) = false
awaits_comma (at_comma t o) = true

-- the walk over the text is within the outermost collection, which would be t, closed here
pub record Inside (limit : ℕ) (bytes : List ℕ) (t : Tree) (due : Bool) (v : Walked) : Type 0 where
  pub same_text : v.text ≡ bytes
  pub same_limit : v.limit ≡ limit
  pub now : At
  pub marked : Option (List Frame)
  pub is_at : IsAt v (record { now = now; marked = marked })
  pub inside : is_inside now ≡ true
  pub read : read_in now ≡ t
  pub outermost : around now ≡ []
  pub is_due : awaits_comma now ≡ due

abbrev pub latest : Bool → Found → Option Found → Option Found
latest true n before = Some n
latest false n before = before

-- the step goes to none of these entries
abbrev pub Misses : Step → List (List ℕ × Tree) → Type 0
Misses (step.Index i) es = length es ≤ i
Misses (step.Key k) es = LacksKey k.now es

-- the entry of t that the step goes to begins at the offset n
pub record IsEntry (s : Step) (limit : ℕ) (bytes : List ℕ) (t : Tree) (n : ℕ) : Type 0 where
  pub before : Tree
  pub gone : Tree
  pub after : List (List ℕ × Tree)
  pub same_kind : kind_of before ≡ kind_of t
  pub all : entries t ≡ entries before ++ ((step_key s, gone) ∷ after)
  pub there : GoesTo s (entries before) after
  pub spot : Spot limit bytes before false n
  pub solid : Solid spot.rest

-- x ends with a value, and whole tokens come before it
abbrev pub EndsWithValue : List ℕ → Type 0
EndsWithValue x = (head s : List ℕ) × (t : Tree) × (x ≡ head ++ s) × WholeTokens false head × Val s t

-- the value of the last entry of t ends at the offset n
pub record LastEnds (limit : ℕ) (bytes : List ℕ) (t : Tree) (n : ℕ) : Type 0 where
  pub spot : Spot limit bytes t true n
  pub ends : EndsWithValue spot.front

-- the entry of t that the step goes to is there, and the one before it, if there is one
pub record IsFound (s : Step) (limit : ℕ) (bytes : List ℕ) (t : Tree) (f : Found) : Type 0 where
  pub entry : IsEntry s limit bytes t f.start
  pub before : MatchOption f.before (entries entry.before ≡ []) (LastEnds limit bytes entry.before)

-- the text is a collection of the step's kind; what was found is where the entry begins that the step goes to, and where
-- one more may stand at the end
pub record Surveys (s : Step) (limit : ℕ) (bytes : List ℕ) (found : Survey) : Type 0 where
  pub tree : Tree
  pub value : Val (chars bytes) tree
  pub shallow : depth tree ≤ limit
  pub kind : kind_of tree ≡ Some (step_kind s)
  pub entry : MatchOption found.entry (Misses s (entries tree)) (IsFound s limit bytes tree)
  pub end : Spot limit bytes tree found.comma found.end

-- ---- what an edit makes of a collection's text

-- the text is a collection of the step's kind that fits, and the entry that the step goes to begins at the offset n
pub record HasEntry (s : Step) (limit : ℕ) (bytes : List ℕ) (n : ℕ) : Type 0 where
  pub small : limit ≤ max_depth
  pub tree : Tree
  pub value : Val (chars bytes) tree
  pub shallow : depth tree ≤ limit
  pub kind : kind_of tree ≡ Some (step_kind s)
  pub entry : IsEntry s limit bytes tree n

-- the same, with the entry before it
pub record HasFound (s : Step) (limit : ℕ) (bytes : List ℕ) (f : Found) : Type 0 where
  pub small : limit ≤ max_depth
  pub tree : Tree
  pub value : Val (chars bytes) tree
  pub shallow : depth tree ≤ limit
  pub kind : kind_of tree ≡ Some (step_kind s)
  pub entry : IsFound s limit bytes tree f

-- the same, where the value of the entry before it ends at the offset m
abbrev pub HasBefore : Step → ℕ → List ℕ → ℕ → ℕ → Type 0
HasBefore s limit bytes n m = (h : HasEntry s limit bytes n) × LastEnds limit bytes h.entry.before m

-- the text is a collection of this kind that fits, and one more entry may stand there at its end
pub record HasEnd (k : Kind) (limit : ℕ) (bytes : List ℕ) (e : End) : Type 0 where
  pub small : limit ≤ max_depth
  pub tree : Tree
  pub value : Val (chars bytes) tree
  pub shallow : depth tree ≤ limit
  pub kind : kind_of tree ≡ Some k
  pub end : Spot limit bytes tree e.comma e.at

-- without the entry that the step goes to, where the comments before it go or stay, and as plain as before
abbrev pub Removes : Step → Lead → ℕ → List ℕ → List ℕ → Type 0
Removes s l limit old new = ChangesBy (IsWithout s) old new × CutsWith l old new × IsValue limit (chars new) × KeepsPlain old new

-- so changed, by one entry more, with this value
abbrev pub Adds : Kind → List ℕ → (Tree → Tree → Type 0) → ℕ → List ℕ → List ℕ → Type 0
Adds k value Change limit old new = ChangesBy Change old new × Grows k value old new × IsValue limit (chars new)

-- what a call answers: with one entry more, the last, as plain as the document where the value is; a name as its first
-- key may make it less plain
abbrev pub AddsLast : {E : Type 0} → Kind → (key value : List ℕ) → ℕ → Collection → (old : List ℕ) → Result (String Global) E → Type 0
AddsLast k key value limit c old result = IfOk result (λ made. Adds k value (Gains k key value) limit old (string_bytes made) × StaysPlainQuoted c.names c.document.now value (string_bytes made))

-- the value may be put there, at the end
abbrev pub MayComeLast : Kind → ℕ → Collection → List ℕ → End → List ℕ → Type 0
MayComeLast k limit c old end value = HasEnd k limit old end × IsValue (limit - 1) (chars value) × KeepsPlain c.document.now old

-- the text is an object that fits
abbrev pub IsObject : ℕ → List ℕ → Type 0
IsObject limit bytes = (limit ≤ max_depth) × (t : Tree) × Val (chars bytes) t × (depth t ≤ limit) × (kind_of t ≡ Some kind.Object)

-- the text is an object that fits, and the member begins at the offset before which another may come
pub record HasMember (b : Before) (limit : ℕ) (bytes : List ℕ) (n : ℕ) : Type 0 where
  pub tree : Tree
  pub value : Val (chars bytes) tree
  pub shallow : depth tree ≤ limit
  pub kind : kind_of tree ≡ Some kind.Object
  pub before : Tree
  pub same_kind : kind_of before ≡ kind_of tree
  pub key : List ℕ
  pub next : Tree
  pub after : List (List ℕ × Tree)
  pub all : entries tree ≡ entries before ++ ((key, next) ∷ after)
  pub there : ComesBetween b (entries before) ((key, next) ∷ after)
  pub spot : Spot limit bytes before false n

-- the same; or the object has no member, and the first is meant
abbrev pub StartsBefore : Before → ℕ → List ℕ → Option ℕ → Type 0
StartsBefore b limit bytes start = MatchOption start ((b ≡ before_place.First) × Val (chars bytes) (object no_member)) (HasMember b limit bytes)

-- with one member more, which comes there, and as plain as the document where the value is
abbrev pub AddsMember : Before → (key value : List ℕ) → ℕ → (document old new : List ℕ) → Type 0
AddsMember b key value limit document old new = Adds kind.Object value (GainsMember b key value) limit old new × StaysPlain document value new

-- the same, of what a call answers
abbrev pub PutsMember : {E : Type 0} → Before → (key value : List ℕ) → ℕ → (document old : List ℕ) → Result (String Global) E → Type 0
PutsMember b key value limit document old result = IfOk result (λ made. AddsMember b key value limit document old (string_bytes made))

-- the same, where a name as the first key of a document may make it less plain
abbrev pub PutsThere : {E : Type 0} → Before → (key value : List ℕ) → ℕ → Collection → (old : List ℕ) → Result (String Global) E → Type 0
PutsThere b key value limit c old result = IfOk result (λ made. Adds kind.Object value (GainsMember b key value) limit old (string_bytes made) × StaysPlainQuoted c.names c.document.now value (string_bytes made))

-- the value may be put there
abbrev pub MayComeBefore : Before → ℕ → (document old : List ℕ) → ℕ → List ℕ → Type 0
MayComeBefore b limit document old n value = (limit ≤ max_depth) × HasMember b limit old n × IsValue (limit - 1) (chars value) × KeepsPlain document old

abbrev pub MayComeThere : Before → ℕ → Collection → List ℕ → Option ℕ → End → List ℕ → Type 0
MayComeThere b limit c old start end value = (limit ≤ max_depth) × StartsBefore b limit old start × HasEnd kind.Object limit old end × IsValue (limit - 1) (chars value) × KeepsPlain c.document.now old

-- these characters are an entry with this key and value
pub data SpellsEntry : Kind → List ℕ → Tree → List ℕ → Type 0 where
  spells_element : (v : Tree) (x : List ℕ) → Val x v → SpellsEntry kind.Array [] v x
  spells_member : (k x u : List ℕ) (escape_free : Bool) (v : Tree) → KeyText k u escape_free → Val x v → SpellsEntry kind.Object (encode_utf8_all u) v (k ++ colon_sign ∷ x)

-- with this name and value as one more entry at the end, of whatever key and value they are an entry that fits
abbrev pub AddsEntry : Kind → List ℕ → List ℕ → ℕ → List ℕ → List ℕ → Type 0
AddsEntry k name value limit old new = (key : List ℕ) (v : Tree) → SpellsEntry k key v (chars (name ++ value)) → depth v + 1 ≤ limit → Adds k value (IsWithLast k key v) limit old new

-- and of whatever key and value they are an entry, the collection stays as plain as it was where the entry is so too
abbrev pub AddsPlainly : Kind → List ℕ → List ℕ → List ℕ → Type 0
AddsPlainly k entry old new = (key : List ℕ) (v : Tree) → SpellsEntry k key v (chars entry) → StaysPlain old entry new

abbrev pub comma_for : Bool → List ℕ
comma_for true = comma_sign ∷ []
comma_for false = []

-- ---- an entry in front of a text

-- the collection u begins with an entry of the value t, and those of r come after it
pub data Parts : Kind → Tree → Tree → Tree → Type 0 where
  first_element : (t : Tree) (us : Trees) → Parts kind.Array (array (more t us)) t (array us)
  first_member : (u : List ℕ) (escape_free : Bool) (t : Tree) (qs : Members) → Parts kind.Object (object (member u escape_free t qs)) t (object qs)

-- x goes on with a value of the tree t, a comma and the entries of r
abbrev pub ReadsThen : Tree → Tree → List ℕ → Type 0
ReadsThen t r x = (z : List ℕ) × Reads x t z × Goes true r z

-- the same after a colon
abbrev pub ReadsColon : Tree → Tree → List ℕ → Type 0
ReadsColon t r x = (z : List ℕ) × IsKeyValue x t z × Goes true r z

-- the text was passed so far
abbrev pub Passed : Cursor → Cursor → Type 0
Passed old new = (taken : List ℕ) × Took old taken new

-- x is a colon and the blanks around it, before the rest
abbrev pub IsColonBefore : List ℕ → List ℕ → Type 0
IsColonBefore rest x = (b w : List ℕ) × (x ≡ b ++ colon_sign ∷ w) × Blanks b × Gap w rest

-- x is nothing, or a key and such a colon
abbrev pub IsNameBefore : List ℕ → List ℕ → Type 0
IsNameBefore rest x = (x ≡ []) ⊎ ((k c u : List ℕ) × (escape_free : Bool) × (x ≡ k ++ c) × KeyText k u escape_free × IsColonBefore rest c)

-- such a text was passed, before what is left
abbrev pub PassedBefore : (List ℕ → List ℕ → Type 0) → Cursor → Cursor → Type 0
PassedBefore Is old new = (taken : List ℕ) × Took old taken new × Is new.unread taken

-- the first n bytes of the text are those of an entry and the comma after it, if there is one
abbrev pub BeginsWithEntry : List ℕ → ℕ → Type 0
BeginsWithEntry x n = (part z : List ℕ) × (x ≡ part ++ z) × (n ≡ bytes_in part) × IsEntryText part

-- a text begins with an entry of these lengths: where the entries of u go on, those of r go on after it, with the comma
-- after it or without
pub record Measures (k : Kind) (limit : ℕ) (bytes : List ℕ) (n : EntryLen) : Type 0 where
  pub name : List ℕ
  pub value : List ℕ
  pub end : List ℕ
  pub rest : List ℕ
  pub tree : Tree
  pub split : chars bytes ≡ (name ++ value) ++ (end ++ rest)
  pub bare : n.bare ≡ bytes_in (name ++ value)
  pub whole : n.whole ≡ bytes_in ((name ++ value) ++ end)
  pub is_name : (name ≡ []) ⊎ IsName name
  pub is_value : Val value tree
  pub is_end : IsEnd end
  pub goes : (u t r : Tree) → Parts k u t r → Goes false u (chars bytes) → depth t ≤ limit → Goes true r (end ++ rest) × Goes false r rest

-- x goes on with an entry that fits, from its first token
pub record IsAhead (k : Kind) (limit : ℕ) (x : List ℕ) : Type 0 where
  pub all : Tree
  pub gone : Tree
  pub others : Tree
  pub parts : Parts k all gone others
  pub goes : Goes false all x
  pub fits : depth gone ≤ limit
  pub solid : Solid x

-- ---- a comma between entries

-- whole tokens end at the offset, if there is one
abbrev pub EndTokens : List ℕ → Option ℕ → Type 0
EndTokens bytes before = MatchOption before ⊤ (λ n. IsUtf8 (take n bytes) × WholeTokens true (chars (take n bytes)))

-- x is these three, and a comma before the last, or nothing: the comma comes after the offset, with blanks alone around it
pub record IsAroundComma (x : List ℕ) (before : Option ℕ) (front blank middle : List ℕ) : Type 0 where
  pub comma : List ℕ
  pub split : x ≡ front ++ (blank ++ (comma ++ middle))
  pub is_comma : (comma ≡ []) ⊎ ((comma ≡ comma_sign ∷ []) × (before ≡ Some (length front)) × Blanks (chars blank) × LastBlanks (chars middle))

-- tokens end at the offset, and blanks alone come after them
abbrev pub EndsInBlanks : Option ℕ → List ℕ → Type 0
EndsInBlanks last front = (head blank : List ℕ) × (front ≡ head ++ blank) × (last ≡ Some (length head)) × Blanks (chars blank)

-- x is these two, and a comma comes between them, or nothing: after the tokens that end at the offset, between blanks alone
pub record TakesComma (x : List ℕ) (last : Option ℕ) (front comma middle : List ℕ) : Type 0 where
  pub split : x ≡ front ++ middle
  pub is_comma : (comma ≡ []) ⊎ ((comma ≡ comma_sign ∷ []) × EndsInBlanks last front × LastBlanks (chars middle))

-- the offset at which a comma is due, if one is
abbrev pub due_at : Bool → ℕ → Option ℕ
due_at true n = Some n
due_at false n = None

-- ---- a comma in front of a text

-- x goes on with a comma and an entry
abbrev pub BeginsWithComma : List ℕ → Type 0
BeginsWithComma x = (k : Kind) × (u t r : Tree) × Parts k u t r × Goes true u x

-- a comma stands there, after blanks
pub record IsCommaSpan (text : List ℕ) (span : CommaSpan) : Type 0 where
  pub before : List ℕ
  pub after : List ℕ
  pub rest : List ℕ
  pub split : chars text ≡ before ++ comma_sign ∷ (after ++ rest)
  pub starts : span.start ≡ bytes_in before
  pub ends : span.end ≡ bytes_in (before ++ comma_sign ∷ [])
  pub follows : span.next ≡ bytes_in (before ++ comma_sign ∷ after)
  pub is_before : Blanks before
  pub is_after : Gap after rest
  pub solid : Solid rest

-- the blanks before and after a comma that is in front, and what follows them
pub record TakesCommaAhead (text before after rest : List ℕ) : Type 0 where
  pub split : text ≡ before ++ comma_sign ∷ (after ++ rest)
  pub before_text : IsUtf8 before
  pub after_text : IsUtf8 after
  pub rest_text : IsUtf8 rest
  pub is_before : Blanks (chars before)
  pub is_after : Blanks (chars after)
  pub solid : Solid (chars rest)
