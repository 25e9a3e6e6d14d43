-- How a refused call leaves a walk, and what it says.
use Rattle.std.proofs.Common.{◌≡◌, ◌≢◌, ℕ, Bool, true, false, List, [], ◌∷◌, Option, Some, None, refl, sym, ◌∙◌, ap, subst, inl, inr, ◌⊎◌}
use Rattle.std.specs.Prelude.{slice_get}
use Rattle.std.specs.Str.{chars}
use Rattle.json5_grammar.specs.declared.error_code.ErrorCode.{ErrorCode}
use Rattle.json5_grammar.specs.declared.position.Position.{Position}
use Rattle.json5_grammar.specs.Faults.Fronts.{BracketKind}
use Rattle.json5_tokens.specs.Cursor.{Cursor, Locates, Refused}
use Rattle.json5_types.specs.declared.error.Error.{Error}
use Rattle.json5_types.specs.Errors.{LacksMemory, SaysAt, code}
use Rattle.json5_read.specs.Brackets.{bracket_of, brackets_of}
use Rattle.json5_read.specs.declared.brackets.BracketKind.{BracketKind as Kind}
use Rattle.json5_read.specs.declared.brackets.BracketKind.TheVariants as kind
use Rattle.json5_read.specs.declared.brackets.BracketPair.{BracketPair}
use Rattle.json5_read.specs.declared.brackets.OpenBracket.{OpenBracket}
use Rattle.json5_walk.specs.Walks.{Walked, IsShut, SaysFailed, AfterRefusal, RefusesAs, RefusesToken, RefusesOrLacks, FaultsHere, IsInnerOf, IsInnermost, kinds_in, kinds_onto, offset_in}

abbrev pub Faults : Type 1
Faults = List ℕ → Option ErrorCode → Option (List ℕ) → Type 0

pub stays_so : {due : Bool} {v : Walked} {e : Error} → due ≡ false → SaysFailed e → AfterRefusal due v v e
stays_so other says = record { says = λ h. says; kept = λ h. refl; shut = λ h. absurd (cc) }

pub shuts_so : {due : Bool} {old new : Walked} {e : Error} → due ≡ true → IsShut new → AfterRefusal due old new e
shuts_so here shut = record { says = λ h. absurd (cc); kept = λ h. absurd (cc); shut = λ h. shut }

pub misplaced_so : {due : Bool} {IsCause : Error → Type 0} {v : Walked} {e : Error} → due ≡ false → SaysFailed e → RefusesAs due IsCause v v e
misplaced_so other says = record { cause = λ h. absurd (cc); after = stays_so other says }

told : {IsFault : Faults} {v : Walked} {e : Error} {s : Cursor} → s.unread ≡ v.unread → Refused IsFault s e → RefusesToken IsFault v e
told same r = record { reason = r.reason; place = r.place; fault = rw (sym same) r.fault; says = r.says }

pub word_so : {due : Bool} {IsFault : Faults} {old new : Walked} {e : Error} {s : Cursor} → due ≡ true → s.unread ≡ old.unread → Refused IsFault s e → IsShut new → RefusesAs due (RefusesToken IsFault old) old new e
word_so here same r shut = record { cause = λ h. told same r; after = shuts_so here shut }

pub token_so : {due : Bool} {IsFault : Faults} {old new : Walked} {e : Error} {s : Cursor} → due ≡ true → s.unread ≡ old.unread → LacksMemory e ⊎ Refused IsFault s e → IsShut new → RefusesAs due (RefusesOrLacks IsFault old) old new e
token_so here same (inl lacks) shut = record { cause = λ h. inl lacks; after = shuts_so here shut }
token_so here same (inr r) shut = record { cause = λ h. inr (told same r); after = shuts_so here shut }

pub inner_of : (i : Option OpenBracket) (bs : List OpenBracket) → IsInnermost i bs → IsInnerOf (kinds_in i bs) i
inner_of None bs h = rw h refl
inner_of (Some b) bs h = (kinds_onto [] bs, refl)

-- ---- the fault of another character

none_left : (x : List ℕ) → None ≡ slice_get x 0 → x ≡ []
none_left [] h = refl
none_left (c ∷ x) h = absurd (cc)

same_kind : {k l : Kind} {o p : List BracketKind} → bracket_of k ∷ o ≡ bracket_of l ∷ p → k ≡ l
same_kind {k = kind.Array} {l = kind.Array} h = refl
same_kind {k = kind.Object} {l = kind.Object} h = refl
same_kind {k = kind.Array} {l = kind.Object} h = absurd (cc)
same_kind {k = kind.Object} {l = kind.Array} h = absurd (cc)

not_empty : (k : BracketKind) (o ks : List BracketKind) → ks ≡ k ∷ o → ks ≡ [] → ⊥
not_empty k o ks h e = let both : k ∷ o ≡ [] = sym h ∙ e in cc

-- no character is next, and a bracket is open
pub unclosed_so : {v : Walked} {pair : BracketPair} {c : ErrorCode} {e : Error} (k : Kind) (o : List BracketKind) → v.kinds ≡ bracket_of k ∷ o → None ≡ slice_get v.unread 0 → pair ≡ brackets_of k → SaysAt (code pair.ends) None e → FaultsHere v c e
unclosed_so {v = v} {e = e} k o inner none is says = record {
  unclosed = λ h l p at. subst (λ z. SaysAt (code z.ends) None e) (is ∙ ap brackets_of (same_kind (sym inner ∙ at))) says;
  here = λ h. absurd (neither h);
}
  where
    neither : (v.unread ≢ []) ⊎ (v.kinds ≡ []) → ⊥
    neither (inl h) = h (none_left v.unread none)
    neither (inr h) = not_empty (bracket_of k) o v.kinds inner h

-- a character is next, or no bracket is open
pub here_so : {v : Walked} {c : ErrorCode} {e : Error} {p : Position} {offset : ℕ} → (v.unread ≢ []) ⊎ (v.kinds ≡ []) → offset ≡ offset_in v → Locates (chars v.text) offset p → SaysAt (code c) (Some p) e → FaultsHere v c e
here_so {v = v} {p = p} which at there says = record {
  unclosed = λ none k o inner. absurd (neither which none k o inner);
  here = λ h. (p, subst (λ n. Locates (chars v.text) n p) at there, says);
}
  where
    neither : (v.unread ≢ []) ⊎ (v.kinds ≡ []) → v.unread ≡ [] → (k : Kind) (o : List BracketKind) → v.kinds ≡ bracket_of k ∷ o → ⊥
    neither (inl h) none k o inner = h none
    neither (inr h) none k o inner = not_empty (bracket_of k) o v.kinds inner h

pub some_left : {x : List ℕ} → (None ≡ slice_get x 0 → ⊥) → x ≢ []
some_left {x = []} h e = h refl
some_left {x = c ∷ y} h e = absurd (cc)
