-- Edits that are made one after the other.
use Rattle.std.proofs.Common.{◌≡◌, inl, inr, ◌<◌, ◌≤◌, ◌+◌, ◌∙◌, ℕ, zero, suc, List, [], ◌∷◌, ◌++◌, ap, arith, drop, get_or, length, refl, subst, sym, take}
use Rattle.std.proofs.lemmas.List.{length-take-le}
use Rattle.std.specs.declared.alloc.Global.{Global}
use Rattle.std.specs.Prelude.{◌⊎◌, IfErr, IfOk, Result, Ok, Err, String, string_bytes}
use Rattle.json5_edit.specs.PathTexts.{AreStepsOf, SpellsPath}
use Rattle.json5_edit.specs.Refusals.{RefusesPath}
use Rattle.json5_edit.specs.declared.faults.EditError.{EditError}
use Rattle.json5_edit.specs.declared.path_texts.parsed.Path.{Path}
use Rattle.json5_edit.specs.declared.paths.Step.{Step}
use Rattle.cli_edit.specs.Makes.{MakesLaid, RefusesWork}
use Rattle.cli_edit.specs.SeveralEdits.{EditsAll, EditsTo, IsPathOf, RefusesAll, RefusesTo, given_of, path_of, stopped, work_of}
use Rattle.cli_edit.specs.Values.{MeansGiven}
use Rattle.cli_edit.specs.Works.{StepsSpelled}
use Rattle.cli_edit.specs.declared.requests.Command.{Command}
use Rattle.cli_edit.specs.declared.several_edits.Edit.{Edit}
use Rattle.cli_edit.specs.declared.several_edits.EditsError.{EditsError}
use Rattle.cli_edit.specs.declared.trouble.TextTrouble.{TextTrouble}
use Rattle.cli_edit.specs.declared.trouble.TextTrouble.TheVariants as trouble

split_at : (i : ℕ) (es : List Edit) (d : Edit) → i < length es → es ≡ take i es ++ (get_or es i d ∷ drop (suc i) es)
split_at zero [] d h = absurd (omega (arith, h))
split_at zero (x ∷ es) d h = refl
split_at (suc i) [] d h = absurd (omega (arith, h))
split_at (suc i) (x ∷ es) d h = ap (λ (l : List Edit). x ∷ l) (split_at i es d (omega (arith, h)))

edits_more : (i : ℕ) (es : List Edit) (d : Edit) (text mid made : List ℕ) → i < length es → EditsAll (take i es) text mid → EditsTo (get_or es i d) mid made → EditsAll (take (suc i) es) text made
edits_more zero [] d text mid made h p q = absurd (omega (arith, h))
edits_more zero (x ∷ es) d text mid made h p q = (made, subst (λ z. EditsTo x z made) p q, refl)
edits_more (suc i) [] d text mid made h p q = absurd (omega (arith, h))
edits_more (suc i) (x ∷ es) d text mid made h (b, first, rest) q = (b, first, edits_more i es d b mid made (omega (arith, h)) rest q)

pub edits_on : (i : ℕ) (es : List Edit) (d e : Edit) (text mid made : List ℕ) → i < length es → e ≡ get_or es i d → EditsAll (take i es) text mid → EditsTo e mid made
    → EditsAll (take (i + 1) es) text made
edits_on i es d e text mid made h is p q =
    let next : i + 1 ≡ suc i = omega arith in
    rw next (edits_more i es d text mid made h p (subst (λ z. EditsTo z mid made) is q))

-- the edit with this index isn't made
pub edits_stopped : (i : ℕ) (es : List Edit) (d e : Edit) (text mid : List ℕ) (x : EditsError) → i < length es → e ≡ get_or es i d → x.edit ≡ i → IsPathOf e x.path → EditsAll (take i es) text mid → RefusesTo e mid x.trouble
    → RefusesAll es text x
edits_stopped i es d e text mid x h is at path p q =
    let within : i ≤ length es = omega (arith, h) in
    stopped (take i es) (drop (suc i) es) (get_or es i d) mid (split_at i es d h) (length-take-le i es within ∙ sym at) (subst (λ z. IsPathOf z x.path) is path) p (subst (λ z. RefusesTo z mid x.trouble) is q)

-- ---- one edit

module _ (path : Path) (e : Edit) (w : Command) (route given text : List ℕ) (spells : SpellsPath path route) (is : w ≡ work_of e) (at : route ≡ path_of e) (with : given ≡ given_of e) where
  pub edit_made : {E : Type 0} (r : Result (String Global) E)
      → IfOk r (λ made. (steps : List Step) × (value : List ℕ) × AreStepsOf text path.written.items steps × MeansGiven w given value × MakesLaid w text steps value (string_bytes made)) → IfOk r (λ made. EditsTo e text (string_bytes made))
  edit_made (Ok s) (steps, value, are, means, makes) =
      (steps, value, (path, subst (SpellsPath path) at spells, are), subst (λ z. MeansGiven z (given_of e) value) is (subst (λ z. MeansGiven w z value) with means), subst (λ z. MakesLaid z text steps value (string_bytes s)) is makes)
  edit_made (Err x) k = tt

  -- its path is one, so it is refused for another cause
  abbrev pub Refuses : TextTrouble → Type 0
  Refuses x = ((why : EditError) × (x ≡ trouble.Edit why) × RefusesPath text [] why) ⊎ ((steps : List Step) × (value : List ℕ) × AreStepsOf text path.written.items steps × MeansGiven w given value × RefusesWork w text steps value x)

  abbrev pub RefusesIt : TextTrouble → Type 0
  RefusesIt x = ((why : EditError) × (x ≡ trouble.Edit why) × RefusesPath text [] why)
      ⊎ ((steps : List Step) × (value : List ℕ) × StepsSpelled (path_of e) text steps × MeansGiven (work_of e) (given_of e) value × RefusesWork (work_of e) text steps value x)

  refuses_it : (x : TextTrouble) → Refuses x → RefusesIt x
  refuses_it x (inl k) = inl k
  refuses_it x (inr (steps, value, are, means, refuses)) =
      inr (steps, value, (path, subst (SpellsPath path) at spells, are), subst (λ z. MeansGiven z (given_of e) value) is (subst (λ z. MeansGiven w z value) with means), subst (λ z. RefusesWork z text steps value x) is refuses)

  edit_refused_by : (x : TextTrouble) → Refuses x → RefusesTo e text x
  edit_refused_by (trouble.Edit why) k = refuses_it (trouble.Edit why) k
  edit_refused_by (trouble.NoPatch f) k = refuses_it (trouble.NoPatch f) k
  edit_refused_by (trouble.Operation f) k = refuses_it (trouble.Operation f) k
  edit_refused_by (trouble.NoPath f) k = tt
  edit_refused_by trouble.IntoItself k = refuses_it trouble.IntoItself k
  edit_refused_by (trouble.NoJson f) k = refuses_it (trouble.NoJson f) k
  edit_refused_by (trouble.Failed f) k = refuses_it (trouble.Failed f) k
  edit_refused_by (trouble.Unwritten u) k = refuses_it (trouble.Unwritten u) k

  pub edit_refused : {T : Type 0} (r : Result T TextTrouble) → IfErr r Refuses → IfErr r (RefusesTo e text)
  edit_refused (Ok s) k = tt
  edit_refused (Err x) k = edit_refused_by x k
