-- A collection, and the serializer that is lent to it.
-- A promise rests on this.
use Rattle.std.specs.Prelude.{◌≡◌, ℕ, ◌+◌, ◌-◌, List, [], ◌∷◌, Bool, true, false, Result, OnOk, OnErr, IfErr, MatchResult, ⊤}
use Rattle.std.specs.Borrow.{Fml, GName, RattleType, MutBor, RestsIfErr}
use Rattle.std.specs.declared.io.Write as write
use Rattle.json5_grammar.specs.Language.Characters.{comma_sign, left_bracket, left_brace, right_brace}
use Rattle.json5_types.specs.declared.error.Error.{Error}
use Rattle.json5_write.specs.Out.{Out, piece, ◌then◌, opened_by, closed_by, variant_opening}
use Rattle.json5_write.specs.Writes.{SerializerState, Wrote, RefusesWrite, Writes, at_depth}
use Rattle.json5_grammar.specs.Faults.Fronts.{closing}
use Rattle.json5_write.specs.Brackets.{bracket_of}
use Rattle.json5_ser.specs.Brackets.{is_square}
use Rattle.json5_ser.specs.Stages.{is_started, is_pending}
use Rattle.json5_ser.specs.declared.collection.CollectionStage.{CollectionStage}
use Rattle.json5_ser.specs.declared.collection.SerializeCollection.{SerializeCollection}
use Rattle.json5_ser.specs.contracts.ser.Serializer.{the_row}

-- a collection's output within d brackets, with the end of the variant's object if the collection is a variant's content
abbrev pub within_variant : Bool → ℕ → Out → Out
within_variant true d o = o then (piece (comma_sign ∷ []) then closed_by d true right_brace)
within_variant false d o = o

-- how many brackets are around a collection that was begun within d
abbrev pub inner : Bool → ℕ → ℕ
inner true d = d + 1
inner false d = d

-- the opening bracket of a list, and that of an object, which this serializer writes next
abbrev pub list_opening : MutBor SerializerState → Out
list_opening ser = opened_by ser.now.limit ser.now.depth left_bracket

abbrev pub object_opening : MutBor SerializerState → Out
object_opening ser = opened_by ser.now.limit ser.now.depth left_brace

module _ {W : Type 0} where
  -- the serializer itself, as the collection holds it
  abbrev pub serializer_of : SerializeCollection W → SerializerState
  serializer_of c = c.ser.now

  -- the name of the reference that it holds
  abbrev pub reference_of : SerializeCollection W → GName
  reference_of c = c.ser.ghost_name

  -- the serializer as the calls of the collection see it: failed if one of them was refused
  abbrev pub state_of : SerializeCollection W → SerializerState
  state_of c = record c.ser.now { failed = c.failed }

  abbrev pub is_list : SerializeCollection W → Bool
  is_list c = is_square c.brackets

  -- whether a key waits for its value
  abbrev pub key_pending : SerializeCollection W → Bool
  key_pending c = is_pending c.stage

  -- an object, in which no key waits for its value
  abbrev pub ExpectsKey : SerializeCollection W → Type 0
  ExpectsKey c = (is_list c ≡ false) × (key_pending c ≡ false)

  -- whether something was written in it
  abbrev pub has_member : SerializeCollection W → Bool
  has_member c = is_started c.stage

  -- whether it is what a variant holds
  abbrev pub in_variant : SerializeCollection W → Bool
  in_variant c = c.in_variant

  -- a new collection, to which this serializer is lent, and of which this was written
  pub record Opened (o : Out) (of_list of_variant : Bool) (ser : MutBor SerializerState) (c : SerializeCollection W) : Type 0 where
    pub same_reference : reference_of c ≡ ser.ghost_name
    pub wrote : Wrote o ser.now (at_depth ser.now.depth (state_of c))
    pub depth : (state_of c).depth ≡ inner of_variant ser.now.depth + 1
    pub blocks : (serializer_of c).failed ≡ true
    pub list : is_list c ≡ of_list
    pub variant : in_variant c ≡ of_variant
    pub empty : has_member c ≡ false
    pub pending : key_pending c ≡ false

  -- a list, and an object, that was begun
  abbrev pub ListBegun : MutBor SerializerState → SerializeCollection W → Type 0
  ListBegun ser c = Opened (list_opening ser) true false ser c

  abbrev pub ObjectBegun : MutBor SerializerState → SerializeCollection W → Type 0
  ObjectBegun ser c = Opened (object_opening ser) false false ser c

  -- the same as what a variant of this name holds
  abbrev pub VariantListBegun : List ℕ → MutBor SerializerState → SerializeCollection W → Type 0
  VariantListBegun name ser c = Opened (variant_opening ser.now.limit name left_bracket ser.now.depth) true true ser c

  abbrev pub VariantObjectBegun : List ℕ → MutBor SerializerState → SerializeCollection W → Type 0
  VariantObjectBegun name ser c = Opened (variant_opening ser.now.limit name left_brace ser.now.depth) false true ser c

  -- a call that has this output to write, after which a key waits for its value or no key does. It blocks the serializer again
  pub record Steps (o : Out) (pending_next : Bool) (old : SerializeCollection W) (result : Result ⊤ Error) (new : SerializeCollection W) : Type 0 where
    pub same_reference : reference_of new ≡ reference_of old
    pub writes : Writes o (state_of old) result (state_of new)
    pub blocks : (serializer_of new).failed ≡ true
    pub list : is_list new ≡ is_list old
    pub variant : in_variant new ≡ in_variant old
    pub started : OnOk result (has_member new ≡ true)
    pub pending : MatchResult result (λ _. key_pending new ≡ pending_next) (λ _. key_pending new ≡ key_pending old)

  -- the brackets around what `end` closes
  abbrev pub outer : SerializeCollection W → ℕ
  outer c = (state_of c).depth - inner (in_variant c) 1

  -- the serializer with these brackets alone
  abbrev pub outside : SerializeCollection W → SerializerState
  outside c = at_depth (outer c) (state_of c)

  -- what closes the collection, and a variant's object around it
  abbrev pub ending : SerializeCollection W → Out
  ending c = within_variant (in_variant c) (outer c) (closed_by ((state_of c).depth - 1) (has_member c) (closing (bracket_of c.brackets)))

  -- the serializer is blocked again, and the collection reaches the next stage if nothing was refused
  pub record Settles (old : SerializeCollection W) (written : Result ⊤ Error) (next : CollectionStage) (new : SerializeCollection W) (result : Result ⊤ Error) : Type 0 where
    pub same : result ≡ written
    pub same_reference : reference_of new ≡ reference_of old
    pub blocks : serializer_of new ≡ record (serializer_of old) { failed = true }
    pub brackets : new.brackets ≡ old.brackets
    pub variant : new.in_variant ≡ old.in_variant
    pub goes_on : OnOk written ((new.failed ≡ old.failed) × (new.stage ≡ next))
    pub refused : OnErr written ((new.failed ≡ true) × (new.stage ≡ old.stage))

module _ (W : RattleType) (g : write.Ghosts W.Denot) where
  -- if it refuses the output o, the serializer ends so, and else as the collection leaves it
  abbrev pub lends_serializer : Out → MutBor SerializerState → Result (SerializeCollection W.Denot) Error → Fml
  lends_serializer o ser result = RestsIfErr (the_row W g) ser (λ c. reference_of c) result (λ last. IfErr result (λ e. RefusesWrite o ser.now e last))

  abbrev pub lends_list : MutBor SerializerState → Result (SerializeCollection W.Denot) Error → Fml
  lends_list ser result = lends_serializer (list_opening ser) ser result

  abbrev pub lends_object : MutBor SerializerState → Result (SerializeCollection W.Denot) Error → Fml
  lends_object ser result = lends_serializer (object_opening ser) ser result

  abbrev pub lends_variant : List ℕ → ℕ → MutBor SerializerState → Result (SerializeCollection W.Denot) Error → Fml
  lends_variant name bracket ser result = lends_serializer (variant_opening ser.now.limit name bracket ser.now.depth) ser result
