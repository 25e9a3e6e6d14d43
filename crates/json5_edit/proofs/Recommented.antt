-- Other comments before an entry.
use Rattle.std.proofs.Common.{◌≡◌, ℕ, List, ◌++◌, length, ap, sym, ◌∙◌, append_assoc}
use Rattle.std.specs.Str.{chars}
use Rattle.json5_edit_style.specs.Comments.{IsLead}
use Rattle.json5_edit.specs.Pieces.{Recomments}
use Rattle.json5_edit.specs.Refusals.{IsOwn, RefusesComment, RefusesRemove}
use Rattle.json5_edit.specs.declared.faults.EditError.{EditError}
use Rattle.json5_edit.specs.declared.faults.EditError.TheVariants as error
use Rattle.json5_edit.specs.declared.paths.Step.{Step}

-- ---- refusals

pub as_removal : (bytes : List ℕ) (path : List Step) (e : EditError) → RefusesRemove bytes path e → RefusesComment bytes path e
as_removal bytes path (error.Text e) k = k
as_removal bytes path error.Nowhere k = k
as_removal bytes path (error.Value e) k = k
as_removal bytes path error.Taken k = k
as_removal bytes path error.NotObject k = k
as_removal bytes path error.NotArray k = k
as_removal bytes path error.NoKey k = k
as_removal bytes path error.NoMemory k = k
as_removal bytes path error.Failed k = tt

pub as_own : (bytes : List ℕ) (path : List Step) (e : EditError) → IsOwn e → RefusesComment bytes path e
as_own bytes path (error.Text e) k = absurd k
as_own bytes path error.Nowhere k = absurd k
as_own bytes path (error.Value e) k = absurd k
as_own bytes path error.Taken k = absurd k
as_own bytes path error.NotObject k = absurd k
as_own bytes path error.NotArray k = absurd k
as_own bytes path error.NoKey k = absurd k
as_own bytes path error.NoMemory k = tt
as_own bytes path error.Failed k = tt

-- ---- a collection's text

pub recomments : (x y head front gone came back : List ℕ) (at : ℕ) → x ≡ head ++ back → length head ≡ at → head ≡ front ++ gone → IsLead (chars front) (chars gone) → IsLead (chars front) (chars came) → y ≡ front ++ (came ++ back) → Recomments at x y
recomments x y head front gone came back at was size cut old new now = record {
  front = front;
  gone = gone;
  came = came;
  back = back;
  was = was ∙ ap (λ z. z ++ back) cut ∙ append_assoc front gone back;
  now = now;
  before = ap length (sym cut) ∙ size;
  old_lead = old;
  new_lead = new;
}
