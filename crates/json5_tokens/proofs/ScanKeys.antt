-- Keys, in the words of the scanner's contracts.
use Rattle.std.proofs.Common.{◌≡◌, ℕ, Bool, true, false, List, [], ◌∷◌, ◌++◌, refl, ap, sym, ◌∙◌, subst, Some}
use Rattle.json5_grammar.specs.Language.Characters.{NotBegun}
use Rattle.json5_grammar.specs.declared.error_code.ErrorCode.TheVariants.{EofParsingIdentifier}
use Rattle.json5_grammar.specs.Language.Names.{Key, string_key, name_key}
use Rattle.json5_grammar.specs.Model.Reading.{Read, inner, got, bad}
use Rattle.json5_grammar.specs.Model.ReadTexts.{identifier, key}
use Rattle.json5_grammar.specs.Language.Strings.{is_quote}
use Rattle.json5_grammar.proofs.KeysRead.{key_complete}
use Rattle.json5_types.specs.declared.error.Error.{Error}
use Rattle.json5_tokens.specs.declared.refusal.Refusal.{Refusal}
use Rattle.json5_tokens.specs.declared.refusal.Refusal.TheVariants as refusal
use Rattle.json5_tokens.specs.TokenResults.{SparesEscapeFree}
use Rattle.json5_tokens.specs.Cursor.{Cursor}
use Rattle.json5_types.specs.Errors.{LacksMemory}
use Rattle.json5_tokens.specs.Outcome.{outcome}
use Rattle.json5_tokens.specs.RefusalOutcomes.{Refuses}
use Rattle.json5_tokens.specs.Scan.{MadeOf}
use Rattle.json5_tokens.specs.ScanKeys.{key_ahead}
use Rattle.json5_tokens.specs.ScanTexts.{string_at}
use Rattle.json5_tokens.specs.TokenFaults.{FaultyKey, at_quote, at_name}
use Rattle.json5_tokens.proofs.ScanFaults.{FaultAt, FaultyIn}
use Rattle.json5_tokens.proofs.ScanTokens.{AtSound, at_sound, NameAtSound, name_at_sound, of_memory}

-- ---- what reading gives

pub key_none : (x : List ℕ) → x ≡ [] → key_ahead x ≡ bad (Some EofParsingIdentifier) inner
unfolding key_ahead identifier
key_none x e = rw e refl

pub key_string : (q : ℕ) (x body : List ℕ) → x ≡ q ∷ body → is_quote q ≡ true → key_ahead x ≡ string_at x
unfolding key_ahead key string_at
key_string q x body e h = rw (e, h) refl

pub key_name : (c : ℕ) (x body : List ℕ) → x ≡ c ∷ body → is_quote c ≡ false → key_ahead x ≡ identifier x
unfolding key_ahead key
key_name c x body e h = rw (e, h) refl

key_of : (x : List ℕ) (a : List ℕ × Bool) (r : List ℕ) → key x ≡ got a r → key_ahead x ≡ got a r
unfolding key_ahead key
key_of [] a r e = absurd (cc)
key_of (c ∷ x) a r e = e

-- ---- what the scanner promises

abbrev AtKeySound : List ℕ → Read (List ℕ × Bool) → Type 0
AtKeySound x (got a r) = (s : List ℕ) × (x ≡ s ++ r) × Key s r a.0 a.1
AtKeySound x (bad e p) = FaultAt FaultyKey x e p

from_string : (q : ℕ) (r : List ℕ) (res : Read (List ℕ × Bool)) → is_quote q ≡ true → AtSound (q ∷ r) res → AtKeySound (q ∷ r) res
from_string q r (got a t) h k = (k.0, k.1, string_key k.2)
from_string q r (bad e p) h k = record { place = k.place; fault = at_quote q r refl h k.fault; is_at = k.is_at }

from_name : (x : List ℕ) (res : Read (List ℕ × Bool)) → NotBegun is_quote x → NameAtSound x res → AtKeySound x res
from_name x (got a r) h (s, e, i, (c, z, f, g)) = (s, e, subst (λ y. Key s y a.0 a.1) (sym f) (name_key i g))
from_name x (bad e p) h k = record { place = k.place; fault = at_name h k.fault; is_at = k.is_at }

key_missing : key_ahead [] ≡ identifier []
unfolding key_ahead
key_missing = refl

key_at_sound : (x : List ℕ) → AtKeySound x (key_ahead x)
key_at_sound [] = subst (AtKeySound []) (sym key_missing) (from_name [] (identifier []) tt (name_at_sound []))
key_at_sound (c ∷ r) = by_flag (is_quote c) refl
  where
    by_flag : (b : Bool) → is_quote c ≡ b → AtKeySound (c ∷ r) (key_ahead (c ∷ r))
    by_flag true h = subst (AtKeySound (c ∷ r)) (sym (key_string c (c ∷ r) r refl h)) (from_string c r (string_at (c ∷ r)) h (at_sound (c ∷ r)))
    by_flag false h = subst (AtKeySound (c ∷ r)) (sym (key_name c (c ∷ r) r refl h)) (from_name (c ∷ r) (identifier (c ∷ r)) h (name_at_sound (c ∷ r)))

pub record KeyTaken (x u r : List ℕ) (escape_free : Bool) : Type 0 where
  pub key : List ℕ
  pub split : x ≡ key ++ r
  pub is_key : Key key r u escape_free

pub key_taken : (x y u r : List ℕ) (escape_free : Bool) → x ≡ y → key_ahead x ≡ got (u, escape_free) r → KeyTaken y u r escape_free
key_taken x y u r escape_free f e =
    let k = subst (AtKeySound y) (ap key_ahead (sym f) ∙ e) (key_at_sound y) in
    record { key = k.0; split = k.1; is_key = k.2 }

faulty_key : (x : List ℕ) (res : Read (List ℕ × Bool)) → AtKeySound x res → FaultyIn FaultyKey x res
faulty_key x (got a r) k = tt
faulty_key x (bad e p) k = k

pub key_faulty : (x y : List ℕ) → x ≡ y → FaultyIn FaultyKey y (key_ahead x)
key_faulty x y e = subst (λ z. FaultyIn FaultyKey y (key_ahead z)) (sym e) (faulty_key y (key_ahead y) (key_at_sound y))

-- a key in front is read
key_in_front : {x y s u r : List ℕ} {escape_free : Bool} → x ≡ y → y ≡ s ++ r → Key s r u escape_free → key_ahead x ≡ got (u, escape_free) r
key_in_front {s = s} {u = u} {r = r} {escape_free = escape_free} f e k = ap key_ahead (f ∙ e) ∙ key_of (s ++ r) (u, escape_free) r (key_complete k)

-- and refused only where memory runs out
pub key_memory : (x y s u r : List ℕ) (escape_free : Bool) (e : Refusal) → x ≡ y → Refuses e (outcome (key_ahead x)) → y ≡ s ++ r → Key s r u escape_free → e ≡ refusal.OutOfMemory
key_memory x y s u r escape_free e f h split k = of_memory e (u, escape_free) r (subst (λ z. Refuses e (outcome z)) (key_in_front f split k) h)

pub escape_free_key_memory : (x y s u r : List ℕ) (e : Refusal) → x ≡ y → Refuses e (outcome (key_ahead x)) → SparesEscapeFree e (key_ahead x) → y ≡ s ++ r → Key s r u true → ⊥
escape_free_key_memory x y s u r e f h spares split k = spares (key_memory x y s u r true e f h split k) u r (key_in_front f split k)

pub made_of_memory : (s : Cursor) (r : Refusal) (e : Error) → r ≡ refusal.OutOfMemory → MadeOf s r e → LacksMemory e
made_of_memory s r e h m = subst (λ z. MadeOf s z e) h m
