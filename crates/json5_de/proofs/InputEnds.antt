-- When `end` finds that no input is left.
use Rattle.std.proofs.Common.{◌≡◌, ℕ, Bool, true, false, List, [], ◌∷◌, ◌++◌, refl, ap, sym, ◌∙◌, subst, Option, Some, is_some}
use Rattle.std.specs.Prelude.{slice_get}
use Rattle.std.proofs.lemmas.List.{append-nil}
use Rattle.json5_grammar.specs.declared.error_code.ErrorCode.TheVariants.{TrailingCharacters}
use Rattle.json5_grammar.specs.Language.Blanks.{LastBlanks, Gap}
use Rattle.json5_grammar.proofs.BlanksSound.{gap_last, gap_end}
use Rattle.json5_types.specs.declared.error.Error.{Error}
use Rattle.json5_types.specs.Errors.{code, kind_of}
use Rattle.json5_tokens.specs.Cursor.{IsPositioned, Refused}
use Rattle.json5_tokens.specs.TokenFaults.{FaultyBlanks}
use Rattle.json5_de.specs.State.{State, cursor_of}
use Rattle.json5_de.specs.Faults.{AtEnd, Trailing, trailing, RefusedBy}
use Rattle.json5_de.specs.ReaderSteps.{PassedGap}
use Rattle.json5_de.proofs.ExpectedKinds.{no_end_fault}
use Rattle.json5_de.proofs.ReadSteps.{refused_token}

pub some_left : (x : List ℕ) → is_some (slice_get x 0) ≡ true → (c : ℕ) × (r : List ℕ) × (x ≡ c ∷ r)
some_left [] e = absurd (cc)
some_left (c ∷ r) e = (c, r, refl)

pub none_left : (x : List ℕ) → is_some (slice_get x 0) ≡ false → x ≡ []
none_left [] e = refl
none_left (c ∷ r) e = absurd (cc)

pub peeked : (x : List ℕ) (o : Option ℕ) (b v : Bool) → b ≡ v → b ≡ is_some o → o ≡ slice_get x 0 → is_some (slice_get x 0) ≡ v
peeked x o b v test is_it at = ap is_some (sym at) ∙ sym is_it ∙ test

-- what is left after the gap at the end
end_left : (old mid : State) → PassedGap old mid → AtEnd old → mid.unread ≡ []
end_left old mid p (live, last) = (gap_last old.unread p.gap mid.unread last p.is_gap p.solid p.split).1

pub not_ended : {A : Type 0} (old mid : State) (o : Option ℕ) (b : Bool) → PassedGap old mid → b ≡ true → b ≡ is_some o → o ≡ slice_get mid.unread 0 → AtEnd old → A
not_ended old mid o b p test is_it at end =
    let (c, r, split) = some_left mid.unread (peeked mid.unread o b true test is_it at) in
    let none : c ∷ r ≡ [] = sym split ∙ end_left old mid p end in
    absurd (cc)

pub ended : (old mid : State) (o : Option ℕ) (b : Bool) → PassedGap old mid → b ≡ false → b ≡ is_some o → o ≡ slice_get mid.unread 0 → AtEnd old × (mid ≡ record old { unread = [] })
ended old mid o b p test is_it at =
    let none = none_left mid.unread (peeked mid.unread o b false test is_it at) in (
      (p.live, subst LastBlanks (sym (p.split ∙ ap (λ y. p.gap ++ y) none ∙ append-nil p.gap)) (gap_end (subst (Gap p.gap) none p.is_gap))),
      p.rest ∙ ap (λ y. record old { unread = y }) none,
    )

pub refused_trailing : (old mid : State) (e : Error) (o : Option ℕ) (b : Bool) → PassedGap old mid → b ≡ true → b ≡ is_some o → o ≡ slice_get mid.unread 0 → kind_of e ≡ code TrailingCharacters → IsPositioned (cursor_of mid) (Some []) e → RefusedBy Trailing old e
refused_trailing old mid e o b p test is_it at says placed =
    let (c, r, split) = some_left mid.unread (peeked mid.unread o b true test is_it at) in
    refused_token old mid e p (record { reason = Some TrailingCharacters; place = Some []; fault = subst (λ x. Trailing x (Some TrailingCharacters) (Some [])) (sym split) (trailing c r); says = says; placed = placed })

pub end_not_blamed : {A : Type 0} (old : State) (e : Error) → AtEnd old → (old.failed ≡ false → Refused FaultyBlanks (cursor_of old) e) → A
end_not_blamed old e (live, last) k = let f = k live in absurd (no_end_fault old.unread f.reason f.place last f.fault)
