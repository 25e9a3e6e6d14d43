-- Where a key that was taken begins.
use Rattle.std.proofs.Common.{◌≡◌, ℕ, Bool, true, false, List, refl, sym, ap, ◌∙◌, subst, Option, Some, None, Ok, Err}
use Rattle.std.proofs.lemmas.Option.{same_Some}
use Rattle.std.specs.Prelude.{Result, IfOk, IfSome, is_some}
use Rattle.std.specs.Str.{encode_utf8_all}
use Rattle.std.proofs.lemmas.Result.{err_from_is_err_and}
use Rattle.json5_grammar.specs.Language.Blanks.{Solid}
use Rattle.json5_types.specs.declared.error.Error.{Error}
use Rattle.json5_de.specs.State.{State}
use Rattle.json5_de.specs.ReaderSteps.{IsCount}
use Rattle.json5_de.specs.Keys.{KeyConversion, TookKey, GivesKey}
use Rattle.json5_de.specs.ObjectFaults.{PositionsKey}
use Rattle.json5_de.specs.Convert.{every_text, if_escape_free, every_cow}
use Rattle.json5_de.specs.KeyPlaces.{KeyBegins, KeyBeginsAs, BeginsIfGiven, ReadKeyBegins}
use Rattle.json5_de.specs.ShortWays.{if_given}

-- a key that is taken where no blank is next begins there
pub begins_there : {old new : State} {start : ℕ} {name u : List ℕ} {p : Bool} → IsCount old start → Solid old.unread → TookKey old u p new → encode_utf8_all u ≡ name → KeyBegins name start new.input new.unread
begins_there {old = old} {u = u} {p = p} count solid took same =
    let (before, split) = count.suffix in
    record {
      before = before;
      here = old.unread;
      split = ap (λ (s : State). s.input) took.rest ∙ split;
      counted = count.counted before split;
      solid = solid;
      text = u;
      escape_free = p;
      reads = took.reads;
      named = same;
    }

-- a key that was read is returned
pub given_here : {K C : Type 0} (content : K → C) (convert : KeyConversion C) (old new : State) (IsBefore : List ℕ → Type 0) (read : Result K Error) (result : Result (Option K) Error) → IfOk read (GivesKey content convert old new) → PositionsKey IsBefore read result
    → IfOk result (λ o. IfSome o (GivesKey content convert old new))
given_here content convert old new IsBefore (Ok k) result gives is = subst (λ r. IfOk r (λ o. IfSome o (GivesKey content convert old new))) (sym is) gives
given_here content convert old new IsBefore (Err own) result gives is = let (e, same, placed) = err_from_is_err_and result is in subst (λ r. IfOk r (λ o. IfSome o (GivesKey content convert old new))) (sym same) tt

-- a key whose text was kept begins there
pub begins_if_given : (old new : State) {start : ℕ} (IsBefore : List ℕ → Type 0) (name : List ℕ) (read : Result (Unit {0}) Error) (key : Option (Unit {0})) (given : Bool) → given ≡ is_some key → IsCount old start → Solid old.unread
    → IfOk read (GivesKey (λ k. name) every_text old new) → PositionsKey IsBefore read (Ok key) → BeginsIfGiven name start new.input new.unread (Ok given)
begins_if_given old new {start} IsBefore name read key given same count solid gives is = by key (given_here (λ k. name) every_text old new IsBefore read (Ok key) gives is) same
  where
    by : (key : Option (Unit {0})) → IfSome key (GivesKey (λ k. name) every_text old new) → given ≡ is_some key → BeginsIfGiven name start new.input new.unread (Ok given)
    by None gives same = subst (λ g. BeginsIfGiven name start new.input new.unread (Ok g)) (sym same) tt
    by (Some k) (u, escape_free, took, is) same = subst (λ g. BeginsIfGiven name start new.input new.unread (Ok g)) (sym same) (begins_there count solid took (same_Some (encode_utf8_all u) name is))

-- so does one that is returned
pub read_begins : {K C : Type 0} (content : K → C) (convert : KeyConversion C) (old new : State) {start : ℕ} (result : Result (Option K) Error) → IsCount old start → Solid old.unread → IfOk result (λ o. IfSome o (GivesKey content convert old new))
    → ReadKeyBegins content convert start new.input new.unread result
read_begins content convert old new (Ok (Some k)) count solid (u, escape_free, took, is) = record {
  name = encode_utf8_all u;
  begins = record {
    before = count.suffix.0;
    here = old.unread;
    split = ap (λ (s : State). s.input) took.rest ∙ count.suffix.1;
    counted = count.counted count.suffix.0 count.suffix.1;
    solid = solid;
    text = u;
    escape_free = escape_free;
    reads = took.reads;
    named = refl;
  };
  converts = is;
}
read_begins content convert old new (Ok None) count solid gives = tt
read_begins content convert old new (Err e) count solid gives = tt

-- a key whose text was kept is one that converts to its text
pub kept_begins : (name : List ℕ) (start : ℕ) (input unread : List ℕ) (given : Bool) → BeginsIfGiven name start input unread (Ok given) → IfSome (if_given name given) (λ k. KeyBeginsAs every_text k start input unread)
kept_begins name start input unread true begun = record { name = name; begins = begun; converts = ap Some begun.named }
kept_begins name start input unread false begun = tt

-- ---- a key that a user's loop reads, and what `read` of its fields asks for

-- what a key converts to is its name
named_by : {C : Type 0} {convert : KeyConversion C} {c : C} {name : List ℕ} {start : ℕ} {input unread : List ℕ} → ((u : List ℕ) (escape_free : Bool) → convert u escape_free ≡ Some c → encode_utf8_all u ≡ name) → KeyBeginsAs convert c start input unread → KeyBegins name start input unread
named_by {start = start} {input = input} {unread = unread} same k = subst (λ n. KeyBegins n start input unread) (sym k.begins.named ∙ same k.begins.text k.begins.escape_free k.converts) k.begins

-- of a `String`, of a `&str`, and of a `CowStr`
pub named_text : {name : List ℕ} {start : ℕ} {input unread : List ℕ} → KeyBeginsAs every_text name start input unread → KeyBegins name start input unread
named_text {name = name} k = named_by (λ u escape_free is. same_Some (encode_utf8_all u) name is) k

pub named_slice : {name : List ℕ} {start : ℕ} {input unread : List ℕ} → KeyBeginsAs if_escape_free name start input unread → KeyBegins name start input unread
named_slice {name = name} k = named_by by k
  where
    by : (u : List ℕ) (escape_free : Bool) → if_escape_free u escape_free ≡ Some name → encode_utf8_all u ≡ name
    by u true is = same_Some (encode_utf8_all u) name is
    by u false is = absurd (cc)

pub named_cow : {name : List ℕ} {borrowed : Bool} {start : ℕ} {input unread : List ℕ} → KeyBeginsAs every_cow (name, borrowed) start input unread → KeyBegins name start input unread
named_cow {name = name} {borrowed = borrowed} k = named_by (λ u escape_free is. ap (λ (c : List ℕ × Bool). c.0) (same_Some (encode_utf8_all u, escape_free) (name, borrowed) is)) k
