-- Fields that are written one after another.
use Rattle.std.proofs.Common.{◌≡◌, ℕ, false, List, ◌∙◌, Ok, Err, Result}
use Rattle.std.specs.Prelude.{IsErrAnd}
use Rattle.json5_types.specs.declared.error.Error.{Error}
use Rattle.json5_ser.specs.WrittenTrees.{Written, Fields}
use Rattle.json5_ser.specs.Out.{entry_out}
use Rattle.json5_ser.specs.WrittenTrees.{named}
use Rattle.std.specs.Str.{chars}
use Rattle.json5_ser.specs.WrittenCollections.{state_of, Steps, ExpectsKey}
use Rattle.json5_ser.specs.declared.collection.SerializeCollection.{SerializeCollection}
use Rattle.json5_ser.proofs.CollectionsWritten.{field_on, field_refused}
use Rattle.json5_fields.specs.WrittenFields.{WritesFields, field_named}

module _ {W : Type 0} {old new : SerializeCollection W} where
  -- one field
  pub one_written : (name : List ℕ) (t : Written) (result : Result (Unit {0}) Error) → ExpectsKey old → Steps (entry_out (state_of old).limit (state_of old).depth (named (chars name)) t) false old result new → WritesFields (field_named name t) old new result
  one_written name t (Ok done) expects s = record {
    on = λ whole gname at fs h. field_on h s;
    refused = tt;
    same_reference = s.same_reference;
    expects = (s.list ∙ expects.0, s.pending);
  }
  one_written name t (Err e) expects s = record {
    on = tt;
    refused = λ whole gname at fs h last lent dropped follows r is. field_refused r h s is dropped follows;
    same_reference = s.same_reference;
    expects = tt;
  }

module _ {W : Type 0} {old mid new : SerializeCollection W} where
  -- fields, and then others
  pub then_written : (first others : Fields → Fields) (result : Result (Unit {0}) Error) → WritesFields first old mid (Ok tt) → WritesFields others mid new result → WritesFields (λ fs. first (others fs)) old new result
  then_written first others (Ok done) a b = record {
    on = λ whole gname at fs h. b.on whole gname at fs (a.on whole gname at (others fs) h);
    refused = tt;
    same_reference = b.same_reference ∙ a.same_reference;
    expects = b.expects;
  }
  then_written first others (Err e) a b = record {
    on = tt;
    refused = λ whole gname at fs h. b.refused whole gname at fs (a.on whole gname at (others fs) h);
    same_reference = b.same_reference ∙ a.same_reference;
    expects = tt;
  }

module _ {W : Type 0} {old new : SerializeCollection W} where
  -- the first was refused
  pub first_refused : (first others : Fields → Fields) (e : Error) (result : Result (Unit {0}) Error) → IsErrAnd result (λ y. y ≡ e) → WritesFields first old new (Err e) → WritesFields (λ fs. first (others fs)) old new result
  first_refused first others e (Ok done) is a = absurd is
  first_refused first others e (Err y) is a = record {
    on = tt;
    refused = λ whole gname at fs h last lent dropped follows r same. a.refused whole gname at (others fs) h last lent dropped follows r (by r same);
    same_reference = a.same_reference;
    expects = tt;
  }
    where
      by : (r : Result (Unit {0}) Error) → IsErrAnd r (λ x. x ≡ y) → IsErrAnd r (λ x. x ≡ e)
      by (Ok done) same = same
      by (Err x) same = same ∙ is
