-- The content of a variant that is read through an access: how it is opened and closed.
use Rattle.std.proofs.Common.{◌≡◌, ℕ, Bool, true, false, refl, sym, ◌∙◌, subst, Result, Ok, Err}
use Rattle.json5_grammar.specs.Language.Trees.{array, object, no_member}
use Rattle.json5_grammar.specs.Model.Collections.{IsBrace}
use Rattle.json5_grammar.proofs.ArraysPartlyRead.{one_end}
use Rattle.json5_types.specs.declared.error.Error.{Error}
use Rattle.json5_read.specs.Offsets.{StartsAfter, PositionedAt}
use Rattle.json5_de.specs.State.{State, GivesUp}
use Rattle.json5_read.specs.declared.brackets.BracketPair.{BracketPair}
use Rattle.json5_de.specs.BracketSigns.{AreSigns}
use Rattle.json5_read.specs.Brackets.{square, curly}
use Rattle.json5_de.specs.Arrays.{AccessState, IsStart, Opened, OpensAs, ClosesArray}
use Rattle.json5_de.specs.Objects.{MapAccessState, ClosesMap, LeftAfter}
use Rattle.json5_de.specs.Enums.{EnumAccessState, in_content, ClosesLast, ClosesContent, not_ended, brace_open, ClosesTuple, ClosesStruct, EndsArray, EndsObject, OpensContent, OpensTuple, OpensStruct}
use Rattle.json5_de.specs.Progress.{EndsAccess, array_at, object_at}
use Rattle.json5_de.specs.declared.stage.Progress.{Progress}
use Rattle.json5_de.proofs.BracketSteps.{failed_of}
use Rattle.json5_de.proofs.ArrayElements as elements
use Rattle.json5_de.proofs.ArrayElements.{closes_array, refuses_end}
use Rattle.json5_de.proofs.ObjectMembers as pairs
use Rattle.json5_de.proofs.ObjectMembers.{closes_map, refuses_map_end}
use Rattle.json5_de.proofs.ReadSteps.{input_of}
use Rattle.json5_de.proofs.VariantNames.{whole_variant}

-- ---- closing

-- the own bracket alone
pub array_closed : (old : AccessState) (new : State) (result : Result (Unit {0}) Error) → ClosesLast square old.comma_due old.reader new result → ClosesArray old new result
array_closed old new (Ok tt) k = closes_array old new k.closes.closed
array_closed old new (Err e) k = refuses_end old new e (record { failed = k.failed; same_text = k.same_text }) k.closes

pub object_closed : (old : MapAccessState) (new : State) (result : Result (Unit {0}) Error) → ClosesLast curly old.at.comma_due old.at.reader new result → ClosesMap old new result
object_closed old new (Ok tt) k = closes_map old new k.closes.closed
object_closed old new (Err e) k = refuses_map_end old new e (record { failed = k.failed; same_text = k.same_text }) k.closes

-- the variant's brace too
pub tuple_closed : (brace : ℕ) (old : AccessState) (new : State) (result : Result (Unit {0}) Error) → ClosesContent square old.comma_due brace old.reader new result → ClosesTuple brace old new result
tuple_closed brace old new (Ok tt) k = record {
  bracket = k;
  read = λ from content u escape_free ts at e. let (after, one, two) = k.closed in whole_variant from content after new u escape_free (array ts) at (elements.all_read content old after ts one e) two;
  left = λ x r l close. refl;
}
tuple_closed brace old new (Err e) k = record { bracket = k; read = tt; left = λ x r l close. k.complete x r l.live l.tail close }

pub struct_closed : (brace : ℕ) (old : MapAccessState) (new : State) (result : Result (Unit {0}) Error) → ClosesContent curly old.at.comma_due brace old.at.reader new result → ClosesStruct brace old new result
struct_closed brace old new (Ok tt) k = record {
  bracket = k;
  read = λ from content u escape_free ps at e. let (after, one, two) = k.closed in whole_variant from content after new u escape_free (object ps) at (pairs.all_read content old after ps one e) two;
  left = λ x r none l close. refl;
}
struct_closed brace old new (Err e) k = record { bracket = k; read = tt; left = λ x r none l close. k.complete x r l.live (subst (λ p. LeftAfter p no_member old.at.comma_due old.at.reader.unread x) none l.tail) close }

-- at the end of an access
module _ (reader : State) (p : Progress) (new : State) (result : Result (Unit {0}) Error) where
  pub array_ends : EndsAccess square p reader new result → EndsArray p.brace (array_at reader p) new result
  array_ends k = record {
    alone = λ none. array_closed (array_at reader p) new result (k.alone none);
    in_variant = λ start some. tuple_closed start (array_at reader p) new result (k.in_variant start some);
  }

  pub object_ends : EndsAccess curly p reader new result → EndsObject p.brace (object_at reader p) new result
  object_ends k = record {
    alone = λ none. object_closed (object_at reader p) new result (k.alone none);
    in_variant = λ start some. struct_closed start (object_at reader p) new result (k.in_variant start some);
  }

module _ (b : BracketPair) (signs : AreSigns b) (comma_due : Bool) (brace : ℕ) (old : State) where
  -- the own bracket isn't there
  pub content_not_ended : (new : State) (own e : Error) → ClosesLast b comma_due old new (Err own) → PositionedAt (StartsAfter new.input brace) own e → ClosesContent b comma_due brace old new (Err e)
  content_not_ended new own e k placed = record {
    closed = tt;
    complete = λ x r live end close. let ok = k.closes.complete x live end in absurd (cc);
    refused = not_ended own k.closes.refused (subst (λ z. PositionedAt (StartsAfter z brace) own e) k.same_text placed);
    unprompted = λ live h. k.closes.unprompted live (sym placed.kind ∙ h);
    same_text = k.same_text;
    failed = k.failed;
  }

  -- it is, and then the variant's brace or not
  pub content_ended : (mid new : State) (result : Result (Unit {0}) Error) → ClosesLast b comma_due old mid (Ok tt) → ClosesLast curly true mid new result → ClosesContent b comma_due brace old new result
  content_ended mid new (Ok tt) k m = record {
    closed = (mid, k.closes.closed, m.closes.closed);
    complete = λ x r live end close. refl;
    refused = tt;
    unprompted = tt;
    same_text = m.same_text ∙ k.same_text;
    failed = tt;
  }
  content_ended mid new (Err e) k m =
      let closed = k.closes.closed in
      let live = failed_of closed.rest ∙ closed.live in
      record {
        closed = tt;
        complete = λ x r alive end close.
            let same = one_end b.closing signs.closing signs.no_comma comma_due old.unread x mid.unread end closed.close in
            let ok = m.closes.complete r live (subst (λ z. IsBrace true z r) same close) in
            absurd (cc);
        refused = brace_open mid closed m.closes.refused;
        unprompted = λ alive. m.closes.unprompted live;
        same_text = m.same_text ∙ k.same_text;
        failed = m.failed;
      }

-- ---- opening

module _ (b : BracketPair) (old : EnumAccessState) where
  pub content_not_opened : {A : Type 0} (see : A → AccessState) (state_of : ℕ → AccessState) (new : State) (own e : Error) → old.has_content ≡ true → OpensAs b see old.reader (Err own) → GivesUp old.reader new → PositionedAt (StartsAfter new.input old.start) own e → OpensContent b state_of old (Err e)
  content_not_opened see state_of new own e has o failed placed = record {
    has_content = tt;
    opened = tt;
    start = tt;
    complete = λ r h live sign room. let ok = o.complete r live sign room in absurd (cc);
    refused = in_content own new has o.refused (subst (λ z. PositionedAt (StartsAfter z old.start) own e) failed.same_text placed);
    unprompted = λ live h. o.unprompted live (sym placed.kind ∙ h);
  }

-- seen in another way
pub tuple_opened : {A : Type 0} (see : ℕ → AccessState) (state_of : A → AccessState) (old : EnumAccessState) (start : ℕ) (a : A) → see start ≡ state_of a → OpensContent square see old (Ok start) → OpensTuple state_of old (Ok a)
tuple_opened see state_of old start a same k =
    let (opened, comma_due) = subst (λ (s : AccessState). Opened square old.reader s.reader × (s.comma_due ≡ false)) same k.opened in
    let start_known = subst (IsStart square old.reader.input) same k.start in
    record {
      content = record { has_content = k.has_content; opened = (opened, comma_due); start = start_known; complete = λ r h live sign room. refl; refused = tt; unprompted = tt };
      same_text = input_of opened.rest;
      read = elements.opened_read old.reader (state_of a) comma_due opened;
      left = λ ts r h live reads shallow. elements.opened_left old.reader (state_of a) ts r comma_due opened reads shallow;
    }

pub tuple_not_opened : {A : Type 0} (see : ℕ → AccessState) (state_of : A → AccessState) (old : EnumAccessState) (e : Error) → OpensContent square see old (Err e) → OpensTuple state_of old (Err e)
tuple_not_opened see state_of old e k = record {
  content = record { has_content = tt; opened = tt; start = tt; complete = k.complete; refused = k.refused; unprompted = k.unprompted };
  same_text = tt;
  read = tt;
  left = λ ts r h live reads shallow. let (y, opens, room) = elements.array_opens old.reader ts r reads shallow in let ok = k.complete y h live opens room in absurd (cc);
}

pub struct_opened : {A : Type 0} (see : ℕ → AccessState) (state_of : A → MapAccessState) (old : EnumAccessState) (start : ℕ) (a : A) → see start ≡ (state_of a).at → (state_of a).pending ≡ false → OpensContent curly see old (Ok start) → OpensStruct state_of old (Ok a)
struct_opened see state_of old start a same none k =
    let (opened, comma_due) = subst (λ (s : AccessState). Opened curly old.reader s.reader × (s.comma_due ≡ false)) same k.opened in
    let start_known = subst (IsStart curly old.reader.input) same k.start in
    record {
      content = record { has_content = k.has_content; opened = (opened, comma_due); start = start_known; complete = λ r h live sign room. refl; refused = tt; unprompted = tt };
      no_key = none;
      same_text = input_of opened.rest;
      read = pairs.opened_read old.reader (state_of a) comma_due none opened;
      left = λ ps r h live reads shallow. pairs.opened_left old.reader (state_of a) ps r comma_due none opened reads shallow;
    }

pub struct_not_opened : {A : Type 0} (see : ℕ → AccessState) (state_of : A → MapAccessState) (old : EnumAccessState) (e : Error) → OpensContent curly see old (Err e) → OpensStruct state_of old (Err e)
struct_not_opened see state_of old e k = record {
  content = record { has_content = tt; opened = tt; start = tt; complete = k.complete; refused = k.refused; unprompted = k.unprompted };
  no_key = tt;
  same_text = tt;
  read = tt;
  left = λ ps r h live reads shallow. let (y, opens, room) = pairs.object_opens old.reader ps r reads shallow in let ok = k.complete y h live opens room in absurd (cc);
}

-- what gave up after it was lent gave up
pub given_up_lent : (held lent new : State) → lent ≡ record held { failed = false } → GivesUp lent new → GivesUp held new
given_up_lent held lent new is g = record { failed = g.failed; same_text = g.same_text ∙ input_of is }
