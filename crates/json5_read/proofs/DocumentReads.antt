-- A whole input is read as a value of any kind: blanks, a value and blanks again. What refuses one of them is the input's fault.
use Rattle.std.proofs.Common.{◌≡◌, ℕ, List, [], ◌∷◌, ◌++◌, refl, ap, sym, ◌∙◌, append_assoc, append-nil, ◌⊎◌, inl, inr, Option, Some, None}
use Rattle.std.specs.Prelude.{Ok, Err, slice_get}
use Rattle.std.proofs.lemmas.List.{append_cancel_right}
use Rattle.json5_grammar.specs.declared.error_code.ErrorCode.{ErrorCode}
use Rattle.json5_grammar.specs.declared.error_code.ErrorCode.TheVariants.{TrailingCharacters}
use Rattle.json5_grammar.specs.Faults.Positions.{position_after}
use Rattle.json5_grammar.specs.Language.Blanks.{Gap, Solid}
use Rattle.json5_grammar.specs.Language.Documents.{Doc}
use Rattle.json5_grammar.specs.Language.Trees.{Tree}
use Rattle.json5_grammar.specs.Model.Reading.{Read, Place, here, inner, got, bad, and_then}
use Rattle.json5_grammar.specs.Model.ReadBlanks.{skip, between}
use Rattle.json5_grammar.specs.Model.ReadValues.{read, at_end, document}
use Rattle.json5_grammar.proofs.BlanksSound.{blank_refused, gap_read}
use Rattle.json5_grammar.proofs.DocumentOrFault.{document_sound}
use Rattle.json5_grammar.proofs.DocumentsRead.{to_end, document_complete, blanks_refused, comment_refused}
use Rattle.json5_grammar.proofs.Refusals.{got_same}
use Rattle.json5_grammar.proofs.OneFault.{blames_text}
use Rattle.json5_types.specs.declared.error.Error.{Error}
use Rattle.json5_types.specs.declared.value.Value.{Value}
use Rattle.json5_tokens.specs.Cursor.{Cursor, Took, Says, IsPositioned, Refused, IsOutOfMemory}
use Rattle.json5_types.specs.Errors.{code, kind_of}
use Rattle.json5_tokens.specs.TokenFaults.{FaultyBlanks}
use Rattle.json5_types.specs.ValueMeanings.{value_of}
use Rattle.json5_read.specs.TreeMeanings.{datum_of}
use Rattle.json5_read.specs.OwnedReads.{BlamesOrMemory, as_datum, datum_at}
use Rattle.json5_read.specs.ModelSteps.{IsInside, HasPositionAt, RefusesRead, Gave}
use Rattle.json5_read.proofs.BuildScalars.{datum_got}
use Rattle.json5_read.proofs.NoFailedCode.{Lacks, in_blanks_other, memory_other}
use Rattle.json5_read.proofs.ModelSteps.{blames_refused, blames_made, blames_as, ready_after, none_next, some_next}
use Rattle.json5_read.specs.DocumentReads.{FaultyDocument, unread_text, IsRefusedWithin, ReadsText}

-- ---- the answer, from what reading on lists gives

-- that memory ran out is a cause
pub memory_refused : (limit : ℕ) (x : List ℕ) (e : Error) → IsOutOfMemory e → IsRefusedWithin limit x e
memory_refused limit x e m = record { cause = inl m; unprompted = memory_other e m }

-- the value of the document that was read
read_whole : (limit : ℕ) (x : List ℕ) (v : Value) (t : Tree) → document limit x ≡ got t [] → value_of v ≡ datum_of t → ReadsText limit x (Ok v)
read_whole limit x v t e is = record {
  sound = (t, document_sound limit x t [] e, is);
  complete = λ u d. is ∙ ap datum_of (got_same t u [] [] (sym e ∙ document_complete limit x u d)).0;
  refused = tt;
}

-- what reading refuses the input with is its fault
faulty : (limit : ℕ) (x : List ℕ) (reason : Option ErrorCode) (p : Place) (e : Error) → document limit x ≡ bad reason p → Says reason e → HasPositionAt x p e → Refused (FaultyDocument limit) (unread_text x) e
faulty limit x reason (here q) e is says (before, split, place) = record {
  reason = reason;
  place = Some before;
  fault = blames_text limit x reason (Some before) (here q, is, split);
  says = says;
  placed = λ front whole. place ∙ ap (λ z. Some (position_after z)) (append_cancel_right before (front ++ before) q (sym split ∙ whole ∙ ap (λ z. front ++ z) split ∙ sym (append_assoc front before q)));
}
faulty limit x reason inner e is says place = record { reason = reason; place = None; fault = blames_text limit x reason None (inner, is, tt); says = says; placed = place }

cause_of : (limit : ℕ) (x : List ℕ) (e : Error) → RefusesRead x (document limit x) e → IsOutOfMemory e ⊎ Refused (FaultyDocument limit) (unread_text x) e
cause_of limit x e b = by_cause b.says
  where
    by_cause : IsOutOfMemory e ⊎ (Says b.reason e × HasPositionAt x b.place e) → IsOutOfMemory e ⊎ Refused (FaultyDocument limit) (unread_text x) e
    by_cause (inl memory) = inl memory
    by_cause (inr (says, there)) = inr (faulty limit x b.reason b.place e b.is_bad says there)

is_refused : (limit : ℕ) (x : List ℕ) (e : Error) → BlamesOrMemory x (document limit x) e → IsRefusedWithin limit x e
is_refused limit x e (inl memory) = memory_refused limit x e memory
is_refused limit x e (inr b) = record { cause = cause_of limit x e b; unprompted = b.unprompted }

-- a document isn't refused, unless memory runs out
only_memory : (limit : ℕ) (x : List ℕ) (t : Tree) (e : Error) → Doc limit x t → BlamesOrMemory x (document limit x) e → IsOutOfMemory e
only_memory limit x t e d (inl memory) = memory
only_memory limit x t e d (inr b) = let clash : got t [] ≡ bad b.reason b.place = sym (document_complete limit x t d) ∙ b.is_bad in absurd (cc)

pub refused_whole : (limit : ℕ) (x : List ℕ) (e : Error) → BlamesOrMemory x (document limit x) e → ReadsText limit x (Err e)
refused_whole limit x e b = record { sound = tt; complete = λ t d. only_memory limit x t e d b; refused = is_refused limit x e b }

-- ---- one part after another

-- blanks were passed over
abbrev pub SkippedGap : Cursor → Cursor → Type 0
SkippedGap old new = (w : List ℕ) × Took old w new × Gap w new.unread × Solid new.unread

parts : (limit : ℕ) (x : List ℕ) → document limit x ≡ and_then (skip between x) (λ u y. and_then (read limit y) to_end)
unfolding document
parts limit x = refl

skipped : (old new : Cursor) → SkippedGap old new → skip between old.unread ≡ got tt new.unread
skipped old new (w, took, g, s) = ap (skip between) took.split ∙ gap_read g s

blanks_lack : Lacks FaultyBlanks
blanks_lack x reason place (before, part, shown, f) = in_blanks_other f

datum_bad : (m : Read Tree) (c : Option ErrorCode) (p : Place) → as_datum m ≡ bad c p → and_then m to_end ≡ bad c p
datum_bad (got t r) c p e = absurd (cc)
datum_bad (bad d q) c p e = let a : d ≡ c = cc in let b : q ≡ p = cc in ap (λ z. bad z q) a ∙ ap (λ z. bad c z) b

module _ (limit : ℕ) (x : List ℕ) where
  inside : IsInside (unread_text x)
  inside = record { before = []; inside = refl }

  inside_after : (mid : Cursor) → SkippedGap (unread_text x) mid → IsInside mid
  inside_after mid (w, took, g, s) = ready_after (unread_text x) mid w inside took

  input_after : (mid : Cursor) → SkippedGap (unread_text x) mid → mid.input ≡ x
  input_after mid (w, took, g, s) = took.same

  -- a comment before the value is refused
  pub front_refused : (e : Error) → Refused FaultyBlanks (unread_text x) e → ReadsText limit x (Err e)
  front_refused e f = refused_whole limit x e (inr (blames_refused (unread_text x) (document limit x) e inside blanks_lack (λ reason place (before, part, shown, k). blanks_refused limit x reason place (blank_refused k)) f))

  module _ (mid : Cursor) (p : SkippedGap (unread_text x) mid) where
    from_value : document limit x ≡ and_then (read limit mid.unread) to_end
    from_value = parts limit x ∙ ap (λ m. and_then m (λ u y. and_then (read limit y) to_end)) (skipped (unread_text x) mid p)

    -- the value is refused
    pub value_blamed : (e : Error) → BlamesOrMemory mid.input (datum_at limit mid) e → BlamesOrMemory x (document limit x) e
    value_blamed e (inl memory) = inl memory
    value_blamed e (inr b) = inr (blames_as mid.input x (datum_at limit mid) (document limit x) e (input_after mid p) (λ c q is. from_value ∙ datum_bad (read limit mid.unread) c q is) b)

    pub value_refused : (e : Error) → BlamesOrMemory mid.input (datum_at limit mid) e → ReadsText limit x (Err e)
    value_refused e b = refused_whole limit x e (value_blamed e b)

    -- after the value, whose tree this is
    module _ (t : Tree) (new : Cursor) (taken : List ℕ) (is : read limit mid.unread ≡ got t new.unread) (took : Took mid taken new) where
      from_rest : document limit x ≡ to_end t new.unread
      from_rest = from_value ∙ ap (λ m. and_then m to_end) is

      rest_inside : IsInside new
      rest_inside = ready_after mid new taken (inside_after mid p) took

      rest_input : new.input ≡ x
      rest_input = took.same ∙ input_after mid p

      -- a comment after the value is refused
      pub rest_blamed : (e : Error) → Refused FaultyBlanks new e → BlamesOrMemory x (document limit x) e
      rest_blamed e f =
          inr (blames_as new.input x (to_end t new.unread) (document limit x) e rest_input (λ c q is. from_rest ∙ is)
          (blames_refused new (to_end t new.unread) e rest_inside blanks_lack (λ reason place (before, part, shown, k). comment_refused t new.unread reason place (blank_refused k)) f))

      module _ (last : Cursor) (q : SkippedGap new last) where
        from_end : document limit x ≡ at_end t last.unread
        from_end = from_rest ∙ ap (λ m. and_then m (λ u r. at_end t r)) (skipped new last q)

        -- nothing follows the blanks
        pub whole_document : slice_get last.unread 0 ≡ None → document limit x ≡ got t []
        whole_document none = from_end ∙ ap (at_end t) (none_next last.unread none)

        last_inside : IsInside last
        last_inside = let (w, took, g, s) = q in ready_after new last w rest_inside took

        last_input : last.input ≡ x
        last_input = let (w, took, g, s) = q in took.same ∙ rest_input

        -- this character follows them
        pub character_blamed : (c : ℕ) (e : Error) → slice_get last.unread 0 ≡ Some c → kind_of e ≡ code TrailingCharacters → IsPositioned last (Some []) e → BlamesOrMemory x (document limit x) e
        character_blamed c e some kind placed = inr (blames_made x (document limit x) e TrailingCharacters (here last.unread) shown (λ k. absurd (cc)) kind there)
          where
            split : (r : List ℕ) × (last.unread ≡ c ∷ r)
            split = some_next last.unread c some

            shown : document limit x ≡ bad (Some TrailingCharacters) (here last.unread)
            shown = from_end ∙ ap (at_end t) split.1 ∙ ap (λ z. bad (Some TrailingCharacters) (here z)) (sym split.1)

            there : HasPositionAt x (here last.unread) e
            there =
                let front = last_inside.before in
                (front, sym last_input ∙ last_inside.inside, placed front last_inside.inside ∙ ap (λ z. Some (position_after z)) (append-nil front))

    module _ (v : Value) (new : Cursor) (gave : Gave (datum_at limit mid) (value_of v) mid new) where
      -- the value's tree
      found : (t : Tree) × (read limit mid.unread ≡ got t new.unread) × (datum_of t ≡ value_of v)
      found = datum_got (read limit mid.unread) (value_of v) new.unread gave.reads

      -- a comment after the value is refused
      pub rest_refused : (e : Error) → Refused FaultyBlanks new e → ReadsText limit x (Err e)
      rest_refused e f = refused_whole limit x e (rest_blamed found.0 new gave.taken found.1 gave.took e f)

      -- nothing follows the blanks
      pub all_read : (last : Cursor) → SkippedGap new last → slice_get last.unread 0 ≡ None → ReadsText limit x (Ok v)
      all_read last q none = read_whole limit x v found.0 (whole_document found.0 new gave.taken found.1 gave.took last q none) (sym found.2)

      -- this character follows them
      pub character_refused : (last : Cursor) → SkippedGap new last → (c : ℕ) (e : Error) → slice_get last.unread 0 ≡ Some c → kind_of e ≡ code TrailingCharacters → IsPositioned last (Some []) e → ReadsText limit x (Err e)
      character_refused last q c e some kind placed = refused_whole limit x e (character_blamed found.0 new gave.taken found.1 gave.took last q c e some kind placed)
