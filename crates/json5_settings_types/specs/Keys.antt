-- Objects whose keys differ.
-- A promise rests on this.
use Rattle.std.specs.Prelude.{◌≡◌, ℕ, Bool, false, if◌then◌else◌, List, [], ◌∷◌, ◌++◌, All, map, Option, Some, None, String, string_bytes}
use Rattle.std.specs.List.{IsDistinct, list_any}
use Rattle.std.specs.Str.{bytes_eq, chars}
use Rattle.std.specs.Map.{keys_of}
use Rattle.std.specs.declared.alloc.Global.{Global}
use Rattle.json5_grammar.specs.Language.Trees.{Tree}
use Rattle.json5_types.specs.declared.error.Error.{Error}
use Rattle.json5_types.specs.Errors.{LacksMemory}
use Rattle.json5_read.specs.Brackets.{curly}
use Rattle.json5_de.specs.Arrays.{NotOpened}
use Rattle.json5_de.specs.Convert.{every_text}
use Rattle.json5_de.specs.ConvertLists.{if_some}
use Rattle.json5_de.specs.Faults.{RefusedBy}
use Rattle.json5_de.specs.Maps.{pair_content, pairs_of}
use Rattle.json5_de.specs.Objects.{MapAccessState}
use Rattle.json5_de.specs.Plans.{Step}
use Rattle.json5_de.specs.Refinement.{refined}
use Rattle.json5_de.specs.State.{State}
use Rattle.json5_de.specs.StructFaults.{MembersFault, OpenedObject, or_of}
use Rattle.json5_ser.specs.EscapeFreeMarks.{marks}
use Rattle.json5_ser.specs.WrittenTrees.{Written, WrittenKey, fields_of, named, object}
use Rattle.json5_fields.specs.FieldCalls.{of_type}
use Rattle.json5_settings_types.specs.Twins.{if_no_twins}

-- two members have one key
abbrev pub same_key : {C : Type 0} → List ℕ × C → List ℕ × C → Bool
same_key p q = bytes_eq p.0 q.0

-- one of the members has the key
abbrev pub has_key : {C : Type 0} → List (List ℕ × C) → List ℕ → Bool
has_key ps name = list_any (λ p. bytes_eq p.0 name) ps

-- what counts of members: of a key its bytes, and of a value what counts of it
abbrev pub members_of : {V C : Type 0} → (V → C) → List (String Global × V) → List (List ℕ × C)
members_of content es = map (pair_content string_bytes content) es

-- a member of this name came last
abbrev pub IsAdded : {V : Type 0} → List (String Global × V) → List ℕ → V → List (String Global × V) → Type 0
IsAdded old name value new = (key : String Global) × (string_bytes key ≡ name) × (new ≡ old ++ (key, value) ∷ [])

-- ---- how it is read

-- a member whose key none before it has comes last; another one isn't allowed
unfoldable pub key_step : {C : Type 0} → (Tree → Option C) → Step (List (List ℕ × C))
key_step values ps name t = if has_key ps name then None else if_some (λ c. ps ++ (name, c) ∷ []) (values t)

-- memory ran out for a member
abbrev pub of_memory : List ℕ → (Tree → Bool) → MapAccessState → Error → Type 0
of_memory name may old e = LacksMemory e

-- why an object of such members is refused: its opening brace, or the first key or value at fault. A key that came before is at fault where it stands
pub data KeysFault {C : Type 0} (values : Tree → Option C) (refuses : State → Error → State → Type 0) (old : State) (e : Error) : Type 0 where
  not_opened : RefusedBy (NotOpened curly old.level) old e → KeysFault values refuses old e
  in_members : (first : MapAccessState) → OpenedObject old first → MembersFault (key_step values) (or_of (of_type values refuses) of_memory) [] first e → KeysFault values refuses old e

abbrev pub RefusesKeys : {C : Type 0} → (Tree → Option C) → (State → Error → State → Type 0) → State → Error → State → Type 0
RefusesKeys values refuses old e new = old.failed ≡ false → KeysFault values refuses old e

-- ---- how it is written

-- a key is written as its text
abbrev pub written_key : String Global → WrittenKey
written_key k = named (chars (string_bytes k))

-- what is written of members whose keys differ reads back, if their values do
abbrev pub KeysReadBack : {V C : Type 0} → (V → Written) → (Tree → Option C) → (V → C) → Type 0
KeysReadBack {V = V} tree convert content =
    (es : List (String Global × V)) → IsDistinct (λ k j. bytes_eq (string_bytes k) (string_bytes j)) (keys_of es) → All (λ e. convert (marks (tree e.1)) ≡ Some (content e.1)) es
    → refined (pairs_of every_text convert) (if_no_twins same_key) (marks (object (fields_of written_key tree es))) ≡ Some (members_of content es)
